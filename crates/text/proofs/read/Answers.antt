use Rattle.std.proofs.lemmas.Result.{err_from_is_err_and}
use mathlib.Core.Path.{◌∙◌, ap, sym}
use Rattle.refusal.specs.Refusal.{outcome}
use Rattle.text.specs.Work.{sections_from}
use Rattle.text.proofs.Counting.{taken}
use Rattle.text.proofs.Answers.{refusing, too_short, all_written}
use Rattle.text.proofs.read.Goals as goal

pub returns-in_err-n : goal.returns-in_err-n
returns-in_err-n c =
    let p = err_from_is_err_and c.from_residual.result c.from_residual.ensures.1 in
    rw (p.1, p.2) (refusing _ _ _ c.check.ensures _ c.in_err-n.was)

pub returns-then-output-n : goal.returns-then-output-n
returns-then-output-n c = too_short _ _ _ (sym (ap outcome c.in_ok-n.was) ∙ c.check.ensures) c.if-output-n.true

pub put_words-requires : goal.put_words-requires
unfolding sections_from
put_words-requires c = let a = taken _ _ (sym c.check.ensures ∙ ap outcome c.in_ok-n.was) in (a.low, a.words, c.if-output-n.false, a.limit)

pub returns : goal.returns
returns c = all_written _ _ _ (sym (ap outcome c.in_ok-n.was) ∙ c.check.ensures) c.if-output-n.false _ c.put_words.ensures
