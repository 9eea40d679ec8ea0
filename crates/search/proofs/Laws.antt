-- Laws on the next HopID that has an entry. Assumes nothing.
use Prim.Native.Nat.{ℕ, ◌+◌, ◌*◌, ◌/◌, ◌%◌, ◌≤◌, ◌<◌}
use mathlib.Core.Bool.{Bool, true, false, ◌&&◌}
use mathlib.Core.Path.{◌≡◌, refl, sym, ap, subst}
use mathlib.Core.List.{List, [], ◌∷◌}
use Rattle.std.specs.Prelude.{Option, None, Some}
use Rattle.std.proofs.lemmas.Option.{none-some, same_Some}
use native.Mathlib.Omega.{arith}
use native.Mathlib.Decide.{dec_lt}
use lib.Dec.{eqb}
use lib.ListN.{length, get_or}
use borrow.Author.Tests.{ne_eqb}
use Rattle.tables.specs.Rows.{entry_in}
use Rattle.tables.specs.Packed.{entry_word, entries_in, entry_unit, Sorted}
use Rattle.tables.specs.Found.{Boundary, EntrySought, entry_found}
use Rattle.tables.proofs.Laws.{key_of, entry_missing, entry_found_lem}
use Rattle.search.specs.Ahead.{HopAhead}
use Rattle.search.specs.declared.HopEntry.{HopEntry}
use Rattle.adapter.specs.Paths.{entry_out}

-- what is found, if it is from h on and has its entry
Ahead : List ℕ → ℕ → ℕ → ℕ → Option HopEntry → Type 0
Ahead t p a h (Some e) = (h ≤ e.hop) × EntrySought t p a e.hop (Some e.out)
Ahead t p a h None = Unit {0}

and_false : (x : Bool) → (x && false) ≡ false
and_false true = refl
and_false false = refl

-- an entry's HopID has 16 bits
pub past_hops : (t : List ℕ) (p a j : ℕ) → 65535 < j → entry_in (entries_in t) p a j ≡ None
unfolding entry_in entry_word
past_hops [] p a j l = refl
past_hops (w ∷ t) p a j l = rw (ne_eqb (w / 16777216 % 65536) j (λ e. omega arith), and_false (eqb (w / 281474976710656) p && eqb (w / 1099511627776 % 256) a)) (past_hops t p a j l)

pub hop_past : (t : List ℕ) (p a h : ℕ) → 65535 < p → HopAhead t p a h None
hop_past t p a h l = record { first = λ q s. absurd (omega arith); over = λ q s. absurd (omega arith); past = λ q. refl; from = λ e q. absurd (none-some e q); found = λ e q. absurd (none-some e q) }

-- the boundary of a HopID is that of each one after it, up to the key that stands there
module _ (t : List ℕ) (p a h r : ℕ) (lp : p < 65536) (la : a < 256) (b : Boundary t (((p * 256 + a) * 65536 + h) * 16777216) r) where
  later : (j : ℕ) → h ≤ j → (r < length t → key_of p a j * 16777216 ≤ get_or t r 0) → Boundary t (key_of p a j * 16777216) r
  later j l n = record { within = b.within; below = λ m. omega (arith, b.below m); above = n }

  -- no word has the key of a HopID from h on whose key is below that of the word at the boundary
  skipped : (j : ℕ) → Sorted entry_unit t → h ≤ j → j < 65536 → (r < length t → key_of p a j < get_or t r 0 / 16777216) → entry_in (entries_in t) p a j ≡ None
  unfolding entry_found
  skipped j s l m n = sym ((entry_missing t p a j r lp la m (later j l (λ q. omega (arith, n q))) (λ q e. omega (arith, n q))).first lp s)

  pub hop_over : (r < length t → get_or t r 0 / 1099511627776 ≡ p * 256 + a → ⊥) → HopAhead t p a h None
  hop_over n = record { first = λ q s e g. absurd (none-some e g); over = λ q s e. none_from s; past = λ q. refl; from = λ e q. absurd (none-some e q); found = λ e q. absurd (none-some e q) }
    where
      none_from : Sorted entry_unit t → (j : ℕ) → h ≤ j → entry_in (entries_in t) p a j ≡ None
      none_from s j l = go (dec_lt j 65536)
        where
          go : Dec (j < 65536) → entry_in (entries_in t) p a j ≡ None
          go (yes m) = skipped j s l m (λ q. omega (arith, b.above q, n q))
          go (no m) = past_hops t p a j (omega arith)

  pub hop_found : r < length t → get_or t r 0 / 1099511627776 ≡ p * 256 + a → HopAhead t p a h (Some (record { hop = get_or t r 0 / 16777216 % 65536; out = entry_out (get_or t r 0 / 65536 % 256) (get_or t r 0 % 65536) }))
  unfolding Ahead
  hop_found l e = record {
    first = λ q s y g j m n. let z = ap (λ (u : HopEntry). u.hop) (same_Some _ _ g) in skipped j s m (omega (arith, z)) (λ k. omega (arith, z));
    over = λ q s g. absurd (none-some _ (sym g));
    past = λ q. absurd (omega arith);
    from = λ y g. (subst (λ (u : Option HopEntry). Ahead t p a h u) g there).0;
    found = λ y g. (subst (λ (u : Option HopEntry). Ahead t p a h u) g there).1;
  }
    where
      there : Ahead t p a h (Some (record { hop = get_or t r 0 / 16777216 % 65536; out = entry_out (get_or t r 0 / 65536 % 256) (get_or t r 0 % 65536) }))
      there = let above : h ≤ get_or t r 0 / 16777216 % 65536 = omega (arith, b.above l) in
          (above, entry_found_lem t p a (get_or t r 0 / 16777216 % 65536) r lp la (omega arith) (later (get_or t r 0 / 16777216 % 65536) above (λ q. omega arith)) l (omega arith))
