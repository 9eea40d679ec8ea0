use Rattle.std.proofs.Common.{arith, ◌∙◌, sym}
use Rattle.description.proofs.Laws.{words_all, word_bad, word_on, words_end}
use Rattle.description.proofs.good_name.Goals as goal

pub loop-k-init : goal.loop-k-init
loop-k-init c = words_all _ _ _

pub returns-then-not-good_word : goal.returns-then-not-good_word
returns-then-not-good_word c = sym (c.loop-k.invariant ∙ word_bad _ _ _ _ c.loop-k-test.true (cc (c.word_at.ensures, c.good_word.ensures, c.if-not-good_word.true)))

pub loop-k-preserved : goal.loop-k-preserved
loop-k-preserved c = c.loop-k.invariant ∙ word_on _ _ _ _ c.loop-k-test.true (cc (c.word_at.ensures, c.good_word.ensures, c.if-not-good_word.false))

pub returns : goal.returns
returns c = sym (c.loop-k.invariant ∙ words_end _ _ _ _ (omega (arith, c.loop-k-test.false)))
