use mathlib.Core.Path.{sym}
use borrow.Author.Tests.{lt-ltb, le-ltb}
use Rattle.answers.specs.Said.{one}
use Rattle.replies.specs.Replies.{hop_count_words}
use Rattle.replies.proofs.words_of.Goals as goal

pub returns-then-hops-lt9223372036854775808 : goal.returns-then-hops-lt9223372036854775808
unfolding one hop_count_words
returns-then-hops-lt9223372036854775808 c = sym (simp (lt-ltb _ _ c.if-hops-lt9223372036854775808.true))

pub returns : goal.returns
unfolding one hop_count_words
returns c = sym (simp (le-ltb _ _ c.if-hops-lt9223372036854775808.false))
