-- Laws on the search for an adapter's head. Assumes nothing.
use Rattle.std.specs.Prelude.{None, Some}
use Prim.Native.Nat.{ℕ, zero, suc, ◌+◌, ◌-◌, ◌%◌, ◌<◌, ◌≤◌}
use native.Mathlib.Omega.{arith}
use native.Mathlib.Decide.{dec_lt}
use mathlib.Core.Path.{◌≡◌, refl, sym, ap, ◌∙◌}
use mathlib.Core.Bool.{Bool, cond}
use mathlib.Core.List.{List, [], ◌∷◌}
use lib.Dec.{eqb}
use lib.ListN.{length}
use borrow.Author.Tests.{eq-eqb, ne_eqb}
use Rattle.layout.specs.Layout.{word, kind}
use Rattle.survey.specs.Devices.{Device, devices_of}
use Rattle.listing.specs.After.{after, adapter_at, device_at, NextHead}
use Rattle.listing.proofs.Laws.{after_end, adapter_head_lem, device_head_lem}
use Rattle.numbering.proofs.Laws.{none_left, none_here, some_here}
use Rattle.capabilities.specs.Capability.{numbered_in, said_adapter}
use Rattle.capabilities.specs.Work.{head_outcome}

-- heads one after another
module _ (t : List ℕ) (i r : ℕ) (n : NextHead t i r) where
  no_devices : length t ≤ r → (after t i).devices ≡ []
  no_devices h = n.devices ∙ ap (λ g. g.devices) (after_end t r h)

  device_here : r < length t → (kind (word t r) ≡ 4 → ⊥) → (after t i).devices ≡ device_at t r ∷ (after t (r + 4)).devices
  device_here l k = let d = n.head l k in n.devices ∙ (device_head_lem t r d.0 d.1).1

  adapter_passed : r < length t → kind (word t r) ≡ 4 → (after t i).devices ≡ (after t (r + 1)).devices
  adapter_passed l k = n.devices ∙ (adapter_head_lem t r l k).1

  -- the next head stands further on
  pub head_less : (j : ℕ) → j < length t → j < i → length t - r < length t - j
  head_less j l e = go (dec_lt r (length t))
    where
      go : Dec (r < length t) → length t - r < length t - j
      go (yes h) = omega (arith, n.forward h)
      go (no h) = omega arith

-- the loop of head_from: what is left to look at, from a place on, answers for all
module _ (t : List ℕ) (from number : ℕ) where
  pub record Seeking (i : ℕ) : Type 0 where
    pub start : ℕ
    pub next : NextHead t start i
    pub so_far : numbered_in number (after t from).adapters ≡ numbered_in number (after t start).adapters

  pub seek_first : (i : ℕ) → NextHead t from i → Seeking i
  seek_first i n = record { start = from; next = n; so_far = refl }

  module _ (i : ℕ) (h : Seeking i) where
    seek_none : (after t h.start).adapters ≡ [] → head_outcome t None ≡ numbered_in number (after t from).adapters
    unfolding head_outcome numbered_in
    seek_none e = sym (h.so_far ∙ ap (λ l. numbered_in number l) e)

    pub seek_past : length t ≤ i → head_outcome t None ≡ numbered_in number (after t from).adapters
    seek_past l = seek_none (none_left t h.start i h.next l)

    module _ (l : i < length t) where
      pub seek_device : (kind (word t i) ≡ 4 → ⊥) → head_outcome t None ≡ numbered_in number (after t from).adapters
      seek_device k = seek_none (none_here t h.start i h.next l k)

      module _ (k : kind (word t i) ≡ 4) where
        turn : numbered_in number (after t from).adapters ≡ cond (eqb (word t i % 256) number) (Some (adapter_at t i)) (numbered_in number (after t (i + 1)).adapters)
        unfolding numbered_in adapter_at
        turn = h.so_far ∙ ap (λ l. numbered_in number l) (some_here t h.start i h.next l k)

        pub seek_here : word t i % 256 ≡ number → head_outcome t (Some i) ≡ numbered_in number (after t from).adapters
        unfolding head_outcome
        seek_here e = sym (turn ∙ ap (λ (b : Bool). cond b (Some (adapter_at t i)) (numbered_in number (after t (i + 1)).adapters)) (eq-eqb _ _ e))

        pub seek_on : (word t i % 256 ≡ number → ⊥) → (j : ℕ) → NextHead t (i + 1) j → Seeking j
        seek_on e j n = record {
          start = i + 1;
          next = n;
          so_far = turn ∙ ap (λ (b : Bool). cond b (Some (adapter_at t i)) (numbered_in number (after t (i + 1)).adapters)) (ne_eqb _ _ e);
        }

-- the loop of find_head: the device that is left places further on from a place
said_here : (d : Device) (ds : List Device) (left a : ℕ) → left < 1 → said_adapter (d ∷ ds) left a ≡ numbered_in a d.adapters
unfolding said_adapter
said_here d ds zero a l = refl
said_here d ds (suc left) a l = absurd (omega arith)

said_on : (d : Device) (ds : List Device) (left a : ℕ) → 1 ≤ left → said_adapter (d ∷ ds) left a ≡ said_adapter ds (left - 1) a
unfolding said_adapter
said_on d ds zero a l = absurd (omega arith)
said_on d ds (suc left) a l = ap (λ (z : ℕ). said_adapter ds z a) (omega arith)

module _ (t : List ℕ) (place number : ℕ) where
  pub record Placing (left i : ℕ) : Type 0 where
    pub start : ℕ
    pub next : NextHead t start i
    pub so_far : said_adapter (devices_of t) place number ≡ said_adapter (after t start).devices left number

  pub place_first : (i : ℕ) → NextHead t 0 i → Placing place i
  unfolding devices_of after
  place_first i n = record { start = 0; next = n; so_far = refl }

  module _ (left i : ℕ) (h : Placing left i) where
    pub place_past : length t ≤ i → head_outcome t None ≡ said_adapter (devices_of t) place number
    unfolding head_outcome said_adapter
    place_past l = sym (h.so_far ∙ ap (λ ds. said_adapter ds left number) (no_devices t h.start i h.next l))

    module _ (l : i < length t) where
      pub place_adapter : kind (word t i) ≡ 4 → (j : ℕ) → NextHead t (i + 1) j → Placing left j
      place_adapter k j n = record { start = i + 1; next = n; so_far = h.so_far ∙ ap (λ ds. said_adapter ds left number) (adapter_passed t h.start i h.next l k) }

      module _ (k : kind (word t i) ≡ 4 → ⊥) where
        at_device : said_adapter (devices_of t) place number ≡ said_adapter (device_at t i ∷ (after t (i + 4)).devices) left number
        at_device = h.so_far ∙ ap (λ ds. said_adapter ds left number) (device_here t h.start i h.next l k)

        pub place_here : left < 1 → numbered_in number (after t (i + 4)).adapters ≡ said_adapter (devices_of t) place number
        unfolding device_at
        place_here z = sym (at_device ∙ said_here _ _ left number z)

        pub place_on : 1 ≤ left → (j : ℕ) → NextHead t (i + 4) j → Placing (left - 1) j
        place_on z j n = record { start = i + 4; next = n; so_far = at_device ∙ said_on _ _ left number z }
