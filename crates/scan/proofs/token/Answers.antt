use borrow.Author.Rules.{rules}
use mathlib.Core.Path.{◌≡◌, refl, sym}
use native.Mathlib.Omega.{arith}
use Rattle.scan.specs.Scan.{is_space, is_not, place_from}
use Rattle.scan.proofs.Laws.{place_above, place_within, token_past}
use Rattle.scan.proofs.token.Goals as goal

pub slice_bounds-text-count : goal.slice_bounds-text-count
slice_bounds-text-count c = omega (arith, c.place-stop.ensures is_space (λ b r h k. search rules), place_above is_space c.args.s.now c.place-start.result)

pub slice_bounds-text-start : goal.slice_bounds-text-start
slice_bounds-text-start c = omega (arith, c.place-stop.ensures is_space (λ b r h k. search rules), place_above is_space c.args.s.now c.place-start.result)

pub slice_bounds-text-end : goal.slice_bounds-text-end
unfolding is_not
slice_bounds-text-end c = let s = c.args.s.now in
    let e : c.place-start.result ≡ place_from (is_not is_space) s c.args.at = c.place-start.ensures (is_not is_space) (λ b r h k. search rules) in
    omega (arith, c.place-stop.ensures is_space (λ b r h k. search rules), place_within is_space s c.place-start.result (omega (arith, e, place_within (is_not is_space) s c.args.at (omega (arith, c.if-s-at.false)))))

pub returns-then-s-at : goal.returns-then-s-at
returns-then-s-at c = token_past c.args.s.now c.args.at c.if-s-at.true

pub returns : goal.returns
unfolding is_not
returns c = let s = c.args.s.now in
    let e : c.place-start.result ≡ place_from (is_not is_space) s c.args.at = c.place-start.ensures (is_not is_space) (λ b r h k. search rules) in
    rw (sym e) (c.place-stop.ensures is_space (λ b r h k. search rules), refl)
