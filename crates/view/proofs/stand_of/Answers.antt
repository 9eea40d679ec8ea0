use mathlib.Core.Path.{◌∙◌, ap, sym}
use Rattle.std.proofs.lemmas.Result.{err_from_is_err_and}
use Rattle.survey.specs.Places.{group_at}
use Rattle.view.specs.View.{bounds_by, group_place}
use Rattle.refusal.specs.Refusal.{outcome}
use Rattle.refusal.proofs.Laws.{ended, gone_on}
use Rattle.view.proofs.Laws.{place_by}
use Rattle.std.specs.Prelude.{ok_or}
use Rattle.refusal.specs.declared.Refusal.TheVariants as refusal
use Rattle.view.proofs.stand_of.Goals as goal

pub returns-in_err-check : goal.returns-in_err-check
unfolding group_place
returns-in_err-check c = let a = c.args in
    let p = err_from_is_err_and c.from_residual.result c.from_residual.ensures.1 in
    rw (p.1, p.2) (ended c.check.result _ c.check.ensures (λ ok. bounds_by (group_at a.survey.now a.place)) _ c.in_err-check.was)

pub returns-in_default : goal.returns-in_default
unfolding group_place
returns-in_default c = let a = c.args in
    ap (λ g. outcome (ok_or g refusal.Missing)) (sym c.in_default.is ∙ c.device_group.ensures) ∙ place_by (group_at a.survey.now a.place) ∙ sym (gone_on c.check.result _ c.check.ensures (λ ok. bounds_by (group_at a.survey.now a.place)) _ c.in_ok-check.was)

pub returns : goal.returns
unfolding group_place
returns c = let a = c.args in
    ap (λ g. outcome (ok_or g refusal.Missing)) (sym c.in-Some.is ∙ c.device_group.ensures) ∙ place_by (group_at a.survey.now a.place) ∙ sym (gone_on c.check.result _ c.check.ensures (λ ok. bounds_by (group_at a.survey.now a.place)) _ c.in_ok-check.was)
