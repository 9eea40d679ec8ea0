use Rattle.std.proofs.Common.{arith, ◌≡◌, ◌∙◌, sym, ap, length, drop}
use Rattle.std.proofs.Common.{◌<◌}
use Rattle.std.specs.Prelude.{unwrap_or}
use Rattle.cases.proofs.Form.{says_word, says_again, says_all}
use Rattle.cases.proofs.stored.repeat.Goals as goal
use Rattle.cases.proofs.stored.repeat.Goals.{in-Some, in-None}

pub loop-slot-preserved : goal.loop-slot-preserved
loop-slot-preserved c =
    let h : c.loop-slot.slot-index < length c.loop-slot.out = omega (arith, c.loop-slot-test.true, c.loop-slot.auto.out) in
    elim c.match-word.branch [
      | in-Some v ↦ let a : c.match-word.at.now ≡ drop 9 c.loop-slot.at.now = cc (v.at-is, v.behind-at.ensures) in
          says_word c.args.rest.now c.loop-slot.at.now c.loop-slot.out c.loop-slot.slot-index h c.loop-slot.invariant c.match-word.out c.match-word.at.now v.in-Some.w (sym c.word-in-loop-slot.ensures ∙ v.in-Some.is) v.out-is a
      | in-None v ↦ let a : c.match-word.at.now ≡ drop 9 c.args.rest.now = cc (v.at-is, v.behind-at-in-None.ensures) in
          says_again c.args.rest.now c.loop-slot.at.now c.loop-slot.out c.loop-slot.slot-index h c.loop-slot.invariant c.match-word.out c.match-word.at.now c.unwrap_or-first.result (sym c.word-in-loop-slot.ensures ∙ v.in-None.is) (c.unwrap_or-first.ensures ∙ ap (λ o. unwrap_or o 0) c.word.ensures) v.out-is a
    ]

pub returns : goal.returns
returns c = says_all c.args.rest.now c.loop-slot.at.now c.loop-slot.out c.loop-slot.slot-index (length c.args.out.now) (omega (arith, c.loop-slot-test.false, c.loop-slot.auto.out)) c.loop-slot.auto.out c.loop-slot.invariant
