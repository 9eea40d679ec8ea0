use Rattle.std.proofs.Common.{◌≡◌, ◌<◌, ◌∙◌, ap, sym, length, length-take-le, add-one, arith}
use Rattle.std.proofs.lemmas.List.{set-append_left, take-append-drop}
use Rattle.hops.specs.Records.{filled}
use Rattle.hops.proofs.fill.Goals as goal

pub loop-i-init : goal.loop-i-init
unfolding filled
loop-i-init c = take-append-drop _ _

pub loop-i-preserved : goal.loop-i-preserved
unfolding filled
loop-i-preserved c =
    let lt : c.loop-i.i < length c.loop-i.record-items = omega arith in
    rw add-one (sym (set-append_left _ _ _ _ lt) ∙ cc)

pub returns : goal.returns
returns c =
    let e : c.loop-i.i ≡ c.args.n = omega (arith, length-take-le c.args.n c.args.records.now c.requires) in
    c.loop-i.invariant ∙ ap (λ k. filled c.args.words.now k c.args.records.now) e
