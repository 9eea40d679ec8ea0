use Rattle.util.specs.Text.{bytes_of}
use Rattle.paths.specs.Reading.{fields_for}
use Rattle.paths.proofs.Laws as laws
use Rattle.paths.proofs.fields_of.Goals as goal

pub returns-in_default : goal.returns-in_default
unfolding fields_for
returns-in_default c = laws.no_fields _ _ _ c.find_group.ensures c.in_default.is

pub returns : goal.returns
unfolding bytes_of fields_for
returns c = laws.its_fields _ _ _ c.find_group.ensures _ c.in-Some.is _ _ _ c.find_flag.ensures c.find_field.ensures c.find_field-2.ensures
