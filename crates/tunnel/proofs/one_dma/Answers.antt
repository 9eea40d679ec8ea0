use Rattle.std.specs.Prelude.{Ok}
use Rattle.std.proofs.lemmas.Result.{err_from_is_err_and}
use mathlib.Core.Path.{◌∙◌, ap}
use native.Mathlib.Omega.{arith}
use Rattle.tunnel.specs.Plans.{words_by}
use Rattle.receive.specs.Receive.{at}
use Rattle.tunnel.proofs.Ring.{dma_refused, dma_alone, dma_with}
use Rattle.tunnel.proofs.one_dma.Goals as goal

pub returns-in_err-walked : goal.returns-in_err-walked
unfolding words_by
returns-in_err-walked c =
    let p = err_from_is_err_and c.from_residual.result c.from_residual.ensures.1 in
    rw (p.1, p.2) record { plans = λ f. dma_refused _ _ _ _ _ c.tally.ensures _ c.in_err-walked.was; few = omega arith }

pub returns-in_default : goal.returns-in_default
unfolding at
returns-in_default c = let d = c.receive_alone.ensures in record { plans = λ f. dma_alone _ _ _ _ _ c.tally.ensures _ (c.in_ok-walked.was ∙ ap Ok c.in_default.is) (d.0 _ _ f); few = d.1 }

pub returns : goal.returns
unfolding at
returns c = let d = c.receive_with.ensures in record { plans = λ f. dma_with _ _ _ _ _ c.tally.ensures _ _ _ _ _ _ (c.in_ok-walked.was ∙ ap Ok c.in-Some.is) c.path_words.ensures (d.0 _ f); few = d.1 }
