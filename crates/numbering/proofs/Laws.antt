-- Laws on the adapters from a place on, and on their numbers. Assumes nothing.
use Prim.Native.Nat.{ℕ, suc, ◌+◌, ◌-◌, ◌%◌, ◌<◌, ◌≤◌}
use native.Mathlib.Omega.{arith}
use native.Mathlib.Decide.{dec_lt}
use native.Mathlib.Numerals.{add-one}
use mathlib.Core.Path.{◌≡◌, refl, sym, ap, ◌∙◌}
use mathlib.Core.Bool.{false, ◌&&◌}
use mathlib.Core.List.{List, [], ◌∷◌}
use lib.Dec.{ltb, eqb}
use lib.ListN.{length}
use borrow.Author.Tests.{lt-ltb, le-ltb, eq-eqb, ne_eqb}
use Rattle.layout.specs.Layout.{word, kind}
use Rattle.listing.specs.After.{after, adapter_at, NextHead}
use Rattle.listing.proofs.Laws.{after_end, adapter_head_lem, device_head_lem}
use Rattle.numbering.specs.Numbered.{numbered}

-- no adapters: at the end, or at a head that is no adapter's
module _ (t : List ℕ) (i r : ℕ) (n : NextHead t i r) where
  pub none_left : length t ≤ r → (after t i).adapters ≡ []
  none_left h = n.adapters ∙ ap (λ g. g.adapters) (after_end t r h)

  pub none_here : r < length t → (kind (word t r) ≡ 4 → ⊥) → (after t i).adapters ≡ []
  none_here l k = let d = n.head l k in n.adapters ∙ (device_head_lem t r d.0 d.1).0

  pub some_here : r < length t → kind (word t r) ≡ 4 → (after t i).adapters ≡ adapter_at t r ∷ (after t (r + 1)).adapters
  some_here l k = n.adapters ∙ (adapter_head_lem t r l k).0

  -- the next head stands further on
  pub head_less : (j : ℕ) → j < length t → i ≡ j + 1 → length t - r < length t - j
  head_less j l e = go (dec_lt r (length t))
    where
      go : Dec (r < length t) → length t - r < length t - j
      go (yes h) = omega (arith, n.forward h)
      go (no h) = omega arith

-- the loop of numbered_to: what is left to number, from place i on, answers for all
module _ (t : List ℕ) (from most : ℕ) where
  pub record Numbering (number i : ℕ) : Type 0 where
    pub few : number ≤ most + 1
    pub start : ℕ
    pub next : NextHead t start i
    pub so_far : numbered 1 most (after t from).adapters ≡ numbered number most (after t start).adapters

  pub numbering_first : (i : ℕ) → NextHead t from i → Numbering 1 i
  numbering_first i n = record { few = omega arith; start = from; next = n; so_far = refl }

  module _ (number i : ℕ) (h : Numbering number i) where
    -- no adapter is left
    left_none : (after t h.start).adapters ≡ [] → eqb number (most + 1) ≡ numbered 1 most (after t from).adapters
    unfolding numbered
    left_none e = ap (λ z. eqb number z) (add-one most) ∙ sym (h.so_far ∙ ap (numbered number most) e)

    pub numbered_past : length t ≤ i → eqb number (most + 1) ≡ numbered 1 most (after t from).adapters
    numbered_past l = left_none (none_left t h.start i h.next l)

    module _ (l : i < length t) where
      pub numbered_device : (kind (word t i) ≡ 4 → ⊥) → eqb number (most + 1) ≡ numbered 1 most (after t from).adapters
      numbered_device k = left_none (none_here t h.start i h.next l k)

      module _ (k : kind (word t i) ≡ 4) where
        turn : numbered 1 most (after t from).adapters ≡ (eqb (word t i % 256) number && ltb number (suc most) && numbered (suc number) most (after t (i + 1)).adapters)
        unfolding numbered adapter_at
        turn = h.so_far ∙ ap (numbered number most) (some_here t h.start i h.next l k)

        pub numbered_wrong : (word t i % 256 ≡ number → ⊥) → false ≡ numbered 1 most (after t from).adapters
        numbered_wrong e = sym (turn ∙ ap (λ b. b && ltb number (suc most) && numbered (suc number) most (after t (i + 1)).adapters) (ne_eqb _ _ e))

        module _ (e : word t i % 256 ≡ number) where
          its_number : numbered 1 most (after t from).adapters ≡ (ltb number (suc most) && numbered (suc number) most (after t (i + 1)).adapters)
          its_number = turn ∙ ap (λ b. b && ltb number (suc most) && numbered (suc number) most (after t (i + 1)).adapters) (eq-eqb _ _ e)

          pub numbered_many : most < number → false ≡ numbered 1 most (after t from).adapters
          numbered_many m = sym (its_number ∙ ap (λ b. b && numbered (suc number) most (after t (i + 1)).adapters) (le-ltb number (suc most) (omega arith)))

          pub numbering_on : number ≤ most → (j : ℕ) → NextHead t (i + 1) j → Numbering (number + 1) j
          numbering_on m j n = record {
            few = omega arith;
            start = i + 1;
            next = n;
            so_far = its_number ∙ ap (λ b. b && numbered (suc number) most (after t (i + 1)).adapters) (lt-ltb number (suc most) (omega arith)) ∙ ap (λ z. numbered z most (after t (i + 1)).adapters) (sym (add-one number));
          }
