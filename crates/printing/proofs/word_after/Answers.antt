use Prim.Native.Nat.{ℕ, ◌+◌, ◌≤◌}
use mathlib.Core.List.{List}
use mathlib.Core.Path.{◌≡◌, sym, ◌∙◌}
use lib.ListN.{length, get_or, get_or-eq_default, drop}
use native.Mathlib.Omega.{arith}
use lib.Seq.{get_or-drop}
use Rattle.printing.proofs.word_after.Goals as goal

past : (t : List ℕ) (i k : ℕ) → length t ≤ i + k → 0 ≡ get_or (drop i t) k 0
past t i k h = sym (get_or-drop i t k 0 ∙ get_or-eq_default t 0 h)

pub returns-then-words-i : goal.returns-then-words-i
returns-then-words-i c = past c.args.words.now c.args.i c.args.k (omega arith)

pub returns-then-words-i-2 : goal.returns-then-words-i-2
returns-then-words-i-2 c = past c.args.words.now c.args.i c.args.k (omega arith)

pub returns : goal.returns
returns c = sym (get_or-drop c.args.i c.args.words.now c.args.k 0)
