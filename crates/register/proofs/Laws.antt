-- Laws on what a line is. Assumes nothing.
use Rattle.std.specs.Prelude.{Err, Ok}
use Prim.Native.Nat.{ℕ, ◌<◌, ◌≤◌}
use native.Mathlib.Omega.{arith}
use mathlib.Core.Path.{◌≡◌, refl}
use mathlib.Core.Bool.{Bool, true, false}
use mathlib.Core.List.{List, []}
use native.Mathlib.Decide.{dec_lt}
use lib.ListN.{length, get_or}
use borrow.Author.Tests.{lt-ltb, le-ltb, eq-eqb, ne_eqb}
use Rattle.scan.specs.Scan.{tokens}
use Rattle.scan.proofs.Laws.{tokens_le}
use Rattle.register.specs.Line.{is_comment, four_tokens, five_tokens, by_tokens, meaning}
use Rattle.register.specs.declared.Register.{Register}
use Rattle.register.specs.declared.Skip.TheVariants.{Comment, Few}

module _ (s : List ℕ) where
  pub is_comment_lem : is_comment s ≡ true → meaning s ≡ Err Comment
  unfolding meaning
  is_comment_lem c = simp c

  pub is_few : is_comment s ≡ false → length (tokens s) < 4 → meaning s ≡ Err Few
  unfolding meaning by_tokens
  is_few c h = simp (c, lt-ltb (length (tokens s)) 4 h)

  pub is_four : is_comment s ≡ false → length (tokens s) ≡ 4 → (a b d : List ℕ) → a ≡ get_or (tokens s) 0 [] → b ≡ get_or (tokens s) 1 [] → d ≡ get_or (tokens s) 3 [] → four_tokens a b d ≡ meaning s
  unfolding meaning by_tokens
  is_four c h a b d ea eb ed = rw (ea, eb, ed) (simp (c, le-ltb (length (tokens s)) 4 (omega arith), eq-eqb (length (tokens s)) 4 h))

  pub is_five : is_comment s ≡ false → 4 < length (tokens s) → (a b c d e : List ℕ) → a ≡ get_or (tokens s) 0 [] → b ≡ get_or (tokens s) 1 [] → c ≡ get_or (tokens s) 2 [] → d ≡ get_or (tokens s) 3 [] → e ≡ get_or (tokens s) 4 [] → five_tokens a b c d e ≡ meaning s
  unfolding meaning by_tokens
  is_five n h a b c d e ea eb ec ed ee = rw (ea, eb, ec, ed, ee) (simp (n, le-ltb (length (tokens s)) 4 (omega arith), ne_eqb (length (tokens s)) 4 (λ q. omega arith)))

-- a record has four tokens, so four bytes
pub four_bytes : (l : List ℕ) (r : Register) → meaning l ≡ Ok r → 4 ≤ length l
four_bytes l r e = omega (arith, tokens_le l, long (dec_lt (length (tokens l)) 4))
  where
    few : (c : Bool) → is_comment l ≡ c → length (tokens l) < 4 → ⊥
    few true c h = let f = is_comment_lem l c in let z : ◌≡◌ {A = ℕ} 0 1 = cc in omega arith
    few false c h = let f = is_few l c h in let z : ◌≡◌ {A = ℕ} 0 1 = cc in omega arith

    long : Dec (length (tokens l) < 4) → 4 ≤ length (tokens l)
    long (yes h) = absurd (few (is_comment l) refl h)
    long (no h) = omega arith
