use Rattle.std.proofs.Common.{ap, subst}
use Rattle.std.specs.Prelude.{option_copied}
use Rattle.discovery.specs.Work.{Told}
use Rattle.discovery.proofs.received_by.Goals as goal

pub returns-in_default : goal.returns-in_default
returns-in_default c = c.receive-searched.ensures.comes

pub path_by_notes-requires : goal.path_by_notes-requires
path_by_notes-requires c = let r = c.args.rings.now in subst (λ o. Told r.tables o r.last) (ap option_copied c.in-Some.is) c.requires
