use Rattle.std.specs.Prelude.{Ok}
use Rattle.std.proofs.lemmas.Result.{err_from_is_err_and}
use mathlib.Core.Path.{◌∙◌, ap}
use native.Mathlib.Omega.{arith}
use Rattle.tunnel.specs.Plans.{words_by}
use Rattle.tunnel.proofs.Ring.{one_bound, ring_refused, with_lost, with_nothing, with_path_lem}
use Rattle.tunnel.proofs.receive_with.Goals as goal

pub returns-in_err-found : goal.returns-in_err-found
unfolding words_by
returns-in_err-found c =
    let p = err_from_is_err_and c.from_residual.result c.from_residual.ensures.1 in
    rw (p.1, p.2) (λ tables f. ring_refused tables _ _ f _ _ c.in_err-found.was, omega arith)

pub returns-in-Lost : goal.returns-in-Lost
unfolding words_by
returns-in-Lost c = (λ tables f. with_lost tables _ _ f _ _ c.requires (c.in_ok-found.was ∙ ap Ok c.in-Lost.is), omega arith)

pub returns-in-Nothing : goal.returns-in-Nothing
returns-in-Nothing c = let b = one_bound _ _ _ c.one_path.ensures (omega (arith, c.requires)) in (λ tables f. with_nothing tables _ _ f _ _ c.requires _ (c.in_ok-found.was ∙ ap Ok c.in-Nothing.is) c.one_path.ensures, b)

pub returns-in-Path : goal.returns-in-Path
unfolding words_by
returns-in-Path c = (
  λ tables f.
      with_path_lem tables _ _ f _ _ c.requires _ _ _ _ _ _ (c.in_ok-found.was ∙ ap Ok c.in-Path.is) c.path_words.ensures c.same.ensures,
  omega (arith, c.path_words.ensures.0, c.requires),
)
