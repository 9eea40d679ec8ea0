use Rattle.paths.proofs.Laws as laws
use Rattle.paths.proofs.entry_of.Goals as goal

pub returns : goal.returns
returns c = laws.entry_words _ _ _ _ _ _ _ c.fields_of.ensures _ c.entry_by.ensures
