use Rattle.std.proofs.Common.{◌≡◌, drop}
use Rattle.cases.specs.Stored.{after_words}
use Rattle.cases.proofs.stored.after.Given as goal

-- What follows the words that are left, from here on, follows all.
abbrev pub invariant-loop-w : goal.invariant-loop-w
invariant-loop-w l = after_words l.rest l.words ≡ after_words l.at (drop l.w-index l.words)
