use Rattle.std.proofs.Common.{◌≡◌, ◌∙◌, ap, drop}
use Rattle.std.specs.Prelude.{None, Some, option_copied}
use Rattle.cases.specs.Stored.{word_at}
use Rattle.cases.proofs.Form.{no_word, after_stops, after_differs, after_goes, after_all}
use Rattle.cases.proofs.stored.after.Goals as goal

pub returns-in_err-found : goal.returns-in_err-found
returns-in_err-found c = ap (λ o. option_copied o) c.from_residual.ensures ∙ after_stops c.args.rest.now c.args.words.now c.loop-w.at.now c.loop-w.w-index c.loop-w.invariant c.loop-w-test.true (no_word c.loop-w.at.now c.in_err-found.ensures.there.1)

pub returns-in_err-found-2 : goal.returns-in_err-found-2
returns-in_err-found-2 c =
    let e : word_at c.loop-w.at.now ≡ None = cc (c.in_ok-found.ensures.word, c.in_err-found-2.was) in
    ap (λ o. option_copied o) c.from_residual-in_err-found-2.ensures ∙ after_stops c.args.rest.now c.args.words.now c.loop-w.at.now c.loop-w.w-index c.loop-w.invariant c.loop-w-test.true e

pub returns-then-branch-w : goal.returns-then-branch-w
returns-then-branch-w c =
    let e : word_at c.loop-w.at.now ≡ Some c.in_ok-found-2.field-0 = cc (c.in_ok-found.ensures.word, c.in_ok-found-2.was) in
    after_differs c.args.rest.now c.args.words.now c.loop-w.at.now c.loop-w.w-index c.loop-w.invariant c.loop-w-test.true c.in_ok-found-2.field-0 e c.if-branch-w.true

pub loop-w-preserved : goal.loop-w-preserved
loop-w-preserved c =
    let e : word_at c.loop-w.at.now ≡ Some c.in_ok-found-2.field-0 = cc (c.in_ok-found.ensures.word, c.in_ok-found-2.was) in
    let m : c.in_ok-found.more.now ≡ drop 9 c.loop-w.at.now = cc (c.in_ok-found.ensures.rest) in
    after_goes c.args.rest.now c.args.words.now c.loop-w.at.now c.loop-w.w-index c.loop-w.invariant c.loop-w-test.true c.in_ok-found-2.field-0 e c.if-branch-w.false c.in_ok-found.more.now m

pub returns : goal.returns
returns c = after_all c.args.rest.now c.args.words.now c.loop-w.at.now c.loop-w.w-index c.loop-w.invariant c.loop-w-test.false
