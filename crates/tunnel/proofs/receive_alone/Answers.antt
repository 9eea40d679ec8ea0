use Rattle.std.specs.Prelude.{Ok}
use Rattle.std.proofs.lemmas.Result.{err_from_is_err_and}
use mathlib.Core.Path.{◌∙◌, ap}
use native.Mathlib.Omega.{arith}
use Rattle.tunnel.specs.Plans.{words_by}
use Rattle.tunnel.proofs.Ring.{one_bound, ring_refused, alone_lost, alone_nothing, alone_path}
use Rattle.tunnel.proofs.receive_alone.Goals as goal

pub returns-in_err-found : goal.returns-in_err-found
unfolding words_by
returns-in_err-found c =
    let p = err_from_is_err_and c.from_residual.result c.from_residual.ensures.1 in
    rw (p.1, p.2) (λ tables ring f. ring_refused tables ring _ f _ _ c.in_err-found.was, omega arith)

pub returns-in-Lost : goal.returns-in-Lost
unfolding words_by
returns-in-Lost c = (λ tables ring f. alone_lost tables ring _ f (c.in_ok-found.was ∙ ap Ok c.in-Lost.is), omega arith)

pub returns-in-Nothing : goal.returns-in-Nothing
unfolding words_by
returns-in-Nothing c = (λ tables ring f. alone_nothing tables ring _ f (c.in_ok-found.was ∙ ap Ok c.in-Nothing.is), omega arith)

pub returns-in-Path : goal.returns-in-Path
returns-in-Path c = let b = one_bound _ _ _ c.one_path.ensures (omega (arith, c.path_words.ensures.0)) in (λ tables ring f. alone_path tables ring _ f _ _ _ _ _ _ (c.in_ok-found.was ∙ ap Ok c.in-Path.is) c.path_words.ensures c.one_path.ensures, b)
