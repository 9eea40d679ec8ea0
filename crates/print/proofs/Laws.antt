-- Laws on what is put: one text after another, the empty text, a text with room for it; numbers digit by digit. Assumes nothing.
use Prim.Native.Nat.{ℕ, zero, suc, ◌+◌, ◌/◌, ◌%◌, ◌^◌, ◌<◌, ◌≤◌}
use native.Mathlib.Omega.{arith}
use native.Mathlib.Nat.{add-zero, zero-add, pow-suc}
use native.Mathlib.Numerals.{add-one}
use native.Mathlib.Decide.{dec_lt}
use mathlib.Core.Path.{◌≡◌, refl, sym, ap, ◌∙◌}
use mathlib.Core.Bool.{cond}
use mathlib.Core.List.{List, [], ◌∷◌, ◌++◌}
use borrow.Author.Tests.{lt-ltb, le-ltb}
use lib.Dec.{ltb}
use lib.ListN.{length, get_or, take, drop, set, length-append}
use lib.Seq.{sets, length-sets, sets-eq, set_out, take-suc, take_all}
use Rattle.print.specs.Print.{digits, decimal, puts, most, capped, Puts}

pub capped_in : (n : ℕ) → n ≤ most → capped n ≡ n
unfolding capped
capped_in n h = go (dec_lt n most)
  where
    go : Dec (n < most) → capped n ≡ n
    go (yes l) = simp (lt-ltb n most l)
    go (no l) = simp (le-ltb n most (omega arith)) (omega arith)

pub capped_out : (n : ℕ) → most ≤ n → capped n ≡ most
unfolding capped
capped_out n h = simp (le-ltb n most h)

-- a place past the cap stays there
capped_add : (n k : ℕ) → capped (capped n + k) ≡ capped (n + k)
capped_add n k = go (dec_lt n most)
  where
    go : Dec (n < most) → capped (capped n + k) ≡ capped (n + k)
    go (yes l) = ap (λ m. capped (m + k)) (capped_in n (omega arith))
    go (no l) =
        capped_out (capped n + k) (omega (arith, capped_out n (omega arith))) ∙ sym (capped_out (n + k) (omega arith))

-- past the end nothing changes
sets_out : (s out : List ℕ) (at : ℕ) → length out ≤ at → sets out at s ≡ out
sets_out [] out at h = refl
sets_out (b ∷ s) out at h =
    ap (λ l. sets l (suc at) s) (set_out out at b h) ∙ sets_out s out (suc at) (omega arith)

sets_append : (s t out : List ℕ) (at : ℕ) → sets out at (s ++ t) ≡ sets (sets out at s) (at + length s) t
sets_append [] t out at = ap (λ k. sets out k t) (sym (add-zero at))
sets_append (b ∷ s) t out at =
    sets_append s t (set out at b) (suc at) ∙ ap (λ k. sets (sets out at (b ∷ s)) k t) (omega arith)

-- the place may be the capped one
sets_capped : (t out : List ℕ) (at : ℕ) → length out ≤ most → sets out (capped at) t ≡ sets out at t
sets_capped t out at h = go (dec_lt at most)
  where
    go : Dec (at < most) → sets out (capped at) t ≡ sets out at t
    go (yes l) = ap (λ k. sets out k t) (capped_in at (omega arith))
    go (no l) =
        sets_out t out (capped at) (omega (arith, capped_out at (omega arith))) ∙ sym (sets_out t out at (omega arith))

-- one text after another
pub then : {out o o' s t : List ℕ} {at r r' : ℕ} → length out ≤ most → Puts out at s r o → Puts o r t r' o' → Puts out at (s ++ t) r' o'
unfolding puts
then {out} {o} {o'} {s} {t} {at} {r} {r'} h p q = record {
  next = q.next ∙ ap (λ k. capped (k + length t)) p.next ∙ capped_add (at + length s) (length t) ∙ ap capped (omega (arith, length-append s t));
  bytes =
      q.bytes
      ∙ ap (λ l. sets l r t) p.bytes
      ∙ ap (λ k. sets (sets out at s) k t) p.next
      ∙ sets_capped t (sets out at s) (at + length s) (omega (arith, length-sets out at s))
      ∙ sym (sets_append s t out at);
}

-- nothing
pub nothing : (out : List ℕ) (at : ℕ) → at ≤ most → Puts out at [] at out
unfolding puts
nothing out at h = record { next = sym (ap capped (add-zero at) ∙ capped_in at h); bytes = refl }

-- a text that there is room for
pub full : {out o s : List ℕ} {r : ℕ} → length s ≤ length out → Puts out 0 s r o → o ≡ s ++ drop (length s) out
unfolding puts
full {out} {o} {s} h p = p.bytes ∙ sets-eq s out 0 (omega arith) ∙ ap (λ k. s ++ drop k out) (zero-add (length s))

pub long : {out o s : List ℕ} {r : ℕ} → Puts out 0 s r o → r ≡ capped (length s)
long {s = s} p = p.next ∙ ap capped (zero-add (length s))

pub same_long : {out o s : List ℕ} {at r : ℕ} → Puts out at s r o → length o ≡ length out
unfolding puts
same_long {out} {s = s} {at} p = ap length p.bytes ∙ length-sets out at s

-- a byte
pub byte_in : (out : List ℕ) (at b : ℕ) → at < most → Puts out at (b ∷ []) (at + 1) (set out at b)
unfolding puts
byte_in out at b h = record { next = sym (capped_in (at + 1) (omega arith)); bytes = refl }

pub byte_at_most : (out : List ℕ) (at b : ℕ) → at ≡ most → Puts out at (b ∷ []) at (set out at b)
unfolding puts
byte_at_most out at b h = record { next = h ∙ sym (capped_out (at + 1) (omega arith)); bytes = refl }

-- a text byte by byte
module _ (text : List ℕ) (i : ℕ) {out o : List ℕ} {at r : ℕ} where
  pub then_byte : {o' : List ℕ} {r' : ℕ} → length out ≤ most → i < length text → Puts out at (take i text) r o → Puts o r (get_or text i 0 ∷ []) r' o'
      → Puts out at (take (i + 1) text) r' o'
  then_byte h l p q = rw (add-one, take-suc text i 0) (then h p q)

  pub all_bytes : length text ≤ i → Puts out at (take i text) r o → Puts out at text r o
  all_bytes h p = rw (take_all i text h) at p

-- enough digits are enough
digits_more : (k n : ℕ) → n < 10 ^ suc k → digits (suc k) n ≡ digits (suc (suc k)) n
unfolding digits
digits_more zero n h = simp (lt-ltb n 10 h)
digits_more (suc k) n h = ap (λ d. cond (ltb n 10) ((48 + n) ∷ []) (d ++ ((48 + n % 10) ∷ []))) (digits_more k (n / 10) (omega (arith, pow-suc 10 (suc k))))

pub decimal_one : (n : ℕ) → n < 10 → decimal n ≡ (48 + n) ∷ []
unfolding decimal digits
decimal_one n h = simp (lt-ltb n 10 h)

pub decimal_more : (n : ℕ) → 10 ≤ n → n ≤ most → decimal n ≡ decimal (n / 10) ++ ((48 + n % 10) ∷ [])
unfolding decimal digits
decimal_more n h l = simp (le-ltb n 10 h) (ap (λ d. d ++ ((48 + n % 10) ∷ [])) (digits_more 18 (n / 10) (omega arith)))
