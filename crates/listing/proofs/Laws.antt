-- Laws on what stands from a place of survey words on. Assumes nothing.
use Prim.Native.Nat.{ℕ, ◌+◌, ◌-◌, ◌<◌, ◌≤◌}
use native.Mathlib.Omega.{arith}
use native.Mathlib.Nat.{le_refl}
use mathlib.Core.Path.{◌≡◌, refl, ◌∙◌, ap, sym}
use mathlib.Core.Bool.{Bool, true, false, cond, not, ◌||◌, beq, false≢true, true≢false}
use mathlib.Core.List.{List, [], ◌∷◌}
use lib.ListN.{length, drop_of_length-le}
use lib.Dec.{eqb}
use native.Mathlib.Decide.{dec_lt}
use borrow.Author.Tests.{ne_eqb}
use Rattle.layout.specs.Layout.{bits, word, kind}
use Rattle.register.specs.declared.Register.{Register}
use Rattle.survey.specs.Words.{is_long, group, groups_of}
use Rattle.survey.specs.Devices.{Gathered, nothing, register_in, with_register, with_adapter, with_device, with_group, gather}
use Rattle.survey.proofs.Laws.{size_long, short_at_lem, long_at, group_cut}
use Rattle.listing.specs.After.{after, listed, register_at, adapter_at, device_at, NextRegister, NextHead}

-- what a group does, by its kind
module _ (w a b c : ℕ) (g : Gathered) where
  abbrev group_by : ℕ → Gathered
  group_by k = cond (eqb k 3) (with_device w a b c g) (cond (eqb k 4) (with_adapter w g) (cond (eqb k 5) (with_register (bits w 16 16) (register_in w a b c) g) g))

  device_group : kind w ≡ 3 → with_group (group w a b c) g ≡ with_device w a b c g
  unfolding with_group
  device_group k = ap (λ n. group_by n) k

  adapter_group : kind w ≡ 4 → with_group (group w a b c) g ≡ with_adapter w g
  unfolding with_group
  adapter_group k = ap (λ n. group_by n) k

  register_group : kind w ≡ 5 → with_group (group w a b c) g ≡ with_register (bits w 16 16) (register_in w a b c) g
  unfolding with_group
  register_group k = ap (λ n. group_by n) k

  other_group : (kind w ≡ 3 → ⊥) → (kind w ≡ 4 → ⊥) → (kind w ≡ 5 → ⊥) → with_group (group w a b c) g ≡ g
  unfolding with_group
  other_group n3 n4 n5 = simp (ne_eqb (kind w) 3 n3, ne_eqb (kind w) 4 n4, ne_eqb (kind w) 5 n5)

-- which kinds take four words
device_long : (w : ℕ) → kind w ≡ 3 → is_long w ≡ true
unfolding is_long
device_long w k = ap (λ n. eqb n 3 || eqb n 5) k

register_long : (w : ℕ) → kind w ≡ 5 → is_long w ≡ true
unfolding is_long
register_long w k = ap (λ n. eqb n 3 || eqb n 5) k

adapter_short : (w : ℕ) → kind w ≡ 4 → is_long w ≡ false
unfolding is_long
adapter_short w k = ap (λ n. eqb n 3 || eqb n 5) k

other_short : (w : ℕ) → (kind w ≡ 3 → ⊥) → (kind w ≡ 5 → ⊥) → is_long w ≡ false
unfolding is_long
other_short w n3 n5 = simp (ne_eqb (kind w) 3 n3, ne_eqb (kind w) 5 n5)

-- one step
module _ (t : List ℕ) (i : ℕ) where
  pub after_end : length t ≤ i → after t i ≡ nothing
  unfolding after gather groups_of
  after_end h = ap (λ l. gather (groups_of l)) (drop_of_length-le t h)

  module _ (here : i < length t) where
    after_cut : is_long (word t i) ≡ true → length t - i < 4 → after t i ≡ nothing
    unfolding after gather with_group
    after_cut e h = ap (λ gs. gather gs) (group_cut t i here (omega (arith, size_long t i here e)))

    after_long : is_long (word t i) ≡ true → 4 ≤ length t - i → after t i ≡ with_group (group (word t i) (word t (i + 1)) (word t (i + 2)) (word t (i + 3))) (after t (i + 4))
    unfolding after gather
    after_long e h = ap (λ gs. gather gs) (long_at t i here e h)

    after_short : is_long (word t i) ≡ false → after t i ≡ with_group (group (word t i) 0 0 0) (after t (i + 1))
    unfolding after gather
    after_short e = ap (λ gs. gather gs) (short_at_lem t i here e)

    after_adapter_lem : kind (word t i) ≡ 4 → after t i ≡ with_adapter (word t i) (after t (i + 1))
    after_adapter_lem k = after_short (adapter_short (word t i) k) ∙ adapter_group (word t i) 0 0 0 (after t (i + 1)) k

    after_device_lem : kind (word t i) ≡ 3 → 4 ≤ length t - i → after t i ≡ with_device (word t i) (word t (i + 1)) (word t (i + 2)) (word t (i + 3)) (after t (i + 4))
    after_device_lem k h = after_long (device_long (word t i) k) h ∙ device_group (word t i) (word t (i + 1)) (word t (i + 2)) (word t (i + 3)) (after t (i + 4)) k

    after_register_lem : kind (word t i) ≡ 5 → 4 ≤ length t - i → after t i ≡ with_register (bits (word t i) 16 16) (register_at t i) (after t (i + 4))
    unfolding register_at
    after_register_lem k h = after_long (register_long (word t i) k) h ∙ register_group (word t i) (word t (i + 1)) (word t (i + 2)) (word t (i + 3)) (after t (i + 4)) k

    after_other : (kind (word t i) ≡ 3 → ⊥) → (kind (word t i) ≡ 4 → ⊥) → (kind (word t i) ≡ 5 → ⊥) → after t i ≡ after t (i + 1)
    after_other n3 n4 n5 = after_short (other_short (word t i) n3 n5) ∙ other_group (word t i) 0 0 0 (after t (i + 1)) n3 n4 n5

-- an adapter's head, and a device's
pub adapter_head_lem : (t : List ℕ) (i : ℕ) → i < length t → kind (word t i) ≡ 4 → ((after t i).adapters ≡ adapter_at t i ∷ (after t (i + 1)).adapters) × ((after t i).devices ≡ (after t (i + 1)).devices)
unfolding with_adapter adapter_at
adapter_head_lem t i here k =
    let e = after_adapter_lem t i here k in
    (ap (λ g. g.adapters) e, ap (λ g. g.devices) e)

pub device_head_lem : (t : List ℕ) (i : ℕ) → kind (word t i) ≡ 3 → i + 4 ≤ length t → ((after t i).adapters ≡ []) × ((after t i).devices ≡ device_at t i ∷ (after t (i + 4)).devices)
unfolding with_device device_at
device_head_lem t i k h =
    let e = after_device_lem t i (omega arith) k (omega arith) in
    (ap (λ g. g.adapters) e, ap (λ g. g.devices) e)

-- nothing is listed of nothing, nor before an adapter's or a device's head
listed_none : (path : Bool) → listed path nothing ≡ []
unfolding listed
listed_none true = refl
listed_none false = refl

listed_adapter : (path : Bool) (w : ℕ) (g : Gathered) → listed path (with_adapter w g) ≡ []
unfolding listed with_adapter
listed_adapter true w g = refl
listed_adapter false w g = refl

listed_device : (path : Bool) (w a b c : ℕ) (g : Gathered) → listed path (with_device w a b c g) ≡ []
unfolding listed with_device
listed_device true w a b c g = refl
listed_device false w a b c g = refl

-- past the last register of the space, none is listed
pub register_end : (t : List ℕ) (path : Bool) (i r : ℕ) → NextRegister t path i r → length t ≤ r → listed path (after t i) ≡ []
register_end t path i r n h = n.same ∙ ap (λ g. listed path g) (after_end t r h) ∙ listed_none path

-- a register put in front of what was gathered, in adapter space or in path space
abbrev put : Bool → Register → Gathered → Gathered
put b r g = cond b (record { registers = r ∷ g.registers; entries = g.entries; adapters = g.adapters; devices = g.devices }) (record { registers = g.registers; entries = r ∷ g.entries; adapters = g.adapters; devices = g.devices })

-- listed in its own space, passed over in the other
listed_register : (path : Bool) (s : ℕ) (r : Register) (g : Gathered) → beq (not (eqb s 0)) path ≡ true → listed path (with_register s r g) ≡ r ∷ listed path g
unfolding listed with_register
listed_register path s r g = step path (eqb s 0)
  where
    step : (p b : Bool) → beq (not b) p ≡ true → listed p (put b r g) ≡ r ∷ listed p g
    step true true e = absurd (false≢true e)
    step true false e = refl
    step false true e = refl
    step false false e = absurd (false≢true e)

listed_passed : (path : Bool) (s : ℕ) (r : Register) (g : Gathered) → beq (not (eqb s 0)) path ≡ false → listed path (with_register s r g) ≡ listed path g
unfolding listed with_register
listed_passed path s r g = step path (eqb s 0)
  where
    step : (p b : Bool) → beq (not b) p ≡ false → listed p (put b r g) ≡ listed p g
    step true true e = refl
    step true false e = absurd (true≢false e)
    step false true e = absurd (true≢false e)
    step false false e = refl

heads_kept : (s : ℕ) (r : Register) (g : Gathered) → ((with_register s r g).adapters ≡ g.adapters) × ((with_register s r g).devices ≡ g.devices)
unfolding with_register
heads_kept s r g = step (eqb s 0)
  where
    step : (b : Bool) → ((put b r g).adapters ≡ g.adapters) × ((put b r g).devices ≡ g.devices)
    step true = (refl, refl)
    step false = (refl, refl)

-- no head from i up to j
pub record Ahead (t : List ℕ) (i j : ℕ) : Type 0 where
  pub forward : i ≤ j
  pub adapters : (after t i).adapters ≡ (after t j).adapters
  pub devices : (after t i).devices ≡ (after t j).devices

-- nor a register of the space
pub record Along (t : List ℕ) (path : Bool) (i j : ℕ) : Type 0 where
  pub ahead : Ahead t i j
  pub same : listed path (after t i) ≡ listed path (after t j)

pub ahead_start : (t : List ℕ) (i : ℕ) → Ahead t i i
ahead_start t i = record { forward = le_refl i; adapters = refl; devices = refl }

pub along_start : (t : List ℕ) (path : Bool) (i : ℕ) → Along t path i i
along_start t path i = record { ahead = ahead_start t i; same = refl }

module _ (t : List ℕ) (i j : ℕ) (a : Ahead t i j) where
  head_none : after t j ≡ nothing → NextHead t i (length t)
  head_none e =
      let f : after t j ≡ after t (length t) = e ∙ sym (after_end t (length t) (le_refl (length t))) in
      record { within = le_refl (length t); forward = λ h. absurd (omega arith); adapters = a.adapters ∙ ap (λ g. g.adapters) f; devices = a.devices ∙ ap (λ g. g.devices) f; head = λ h. absurd (omega arith) }

  pub head_past : length t ≤ j → NextHead t i (length t)
  head_past h = head_none (after_end t j h)

  module _ (here : j < length t) where
    -- a register, cut off by the end or not
    pub ahead_register : kind (word t j) ≡ 5 → Ahead t i (j + 4)
    ahead_register k = go (dec_lt (length t - j) 4)
      where
        go : Dec (length t - j < 4) → Ahead t i (j + 4)
        go (yes h) =
            let e : after t j ≡ after t (j + 4) = after_cut t j here (register_long (word t j) k) h ∙ sym (after_end t (j + 4) (omega arith)) in
            record { forward = omega (arith, a.forward); adapters = a.adapters ∙ ap (λ g. g.adapters) e; devices = a.devices ∙ ap (λ g. g.devices) e }
        go (no h) =
            let e = after_register_lem t j here k (omega arith) in
            let s = heads_kept (bits (word t j) 16 16) (register_at t j) (after t (j + 4)) in
            record { forward = omega (arith, a.forward); adapters = a.adapters ∙ ap (λ g. g.adapters) e ∙ s.0; devices = a.devices ∙ ap (λ g. g.devices) e ∙ s.1 }

    pub ahead_other : (kind (word t j) ≡ 3 → ⊥) → (kind (word t j) ≡ 4 → ⊥) → (kind (word t j) ≡ 5 → ⊥) → Ahead t i (j + 1)
    ahead_other n3 n4 n5 =
        let e = after_other t j here n3 n4 n5 in
        record { forward = omega (arith, a.forward); adapters = a.adapters ∙ ap (λ g. g.adapters) e; devices = a.devices ∙ ap (λ g. g.devices) e }

    pub head_adapter : kind (word t j) ≡ 4 → NextHead t i j
    head_adapter k = record { within = omega arith; forward = λ h. a.forward; adapters = a.adapters; devices = a.devices; head = λ h n. absurd (n k) }

    pub head_device : kind (word t j) ≡ 3 → j + 4 ≤ length t → NextHead t i j
    head_device k h = record { within = omega arith; forward = λ l. a.forward; adapters = a.adapters; devices = a.devices; head = λ l n. (k, h) }

    -- cut off by the end
    pub head_cut : kind (word t j) ≡ 3 → length t < j + 4 → NextHead t i (length t)
    head_cut k h = head_none (after_cut t j here (device_long (word t j) k) (omega arith))

module _ (t : List ℕ) (path : Bool) (i j : ℕ) (a : Along t path i j) where
  no_register : listed path (after t j) ≡ [] → NextRegister t path i (length t)
  no_register e =
      let f : listed path (after t (length t)) ≡ [] = ap (λ g. listed path g) (after_end t (length t) (le_refl (length t))) ∙ listed_none path in
      record { within = le_refl (length t); room = λ h. absurd (omega arith); same = a.same ∙ e ∙ sym f; here = λ h. absurd (omega arith); adapters = λ h. absurd (omega arith); devices = λ h. absurd (omega arith) }

  nothing_there : after t j ≡ nothing → NextRegister t path i (length t)
  nothing_there e = no_register (ap (λ g. listed path g) e ∙ listed_none path)

  pub register_past : length t ≤ j → NextRegister t path i (length t)
  register_past h = nothing_there (after_end t j h)

  module _ (here : j < length t) where
    pub register_cut : kind (word t j) ≡ 5 → length t - j < 4 → NextRegister t path i (length t)
    register_cut k h = nothing_there (after_cut t j here (register_long (word t j) k) h)

    pub register_adapter : kind (word t j) ≡ 4 → NextRegister t path i (length t)
    register_adapter k = no_register (ap (λ g. listed path g) (after_adapter_lem t j here k) ∙ listed_adapter path (word t j) (after t (j + 1)))

    pub register_device : kind (word t j) ≡ 3 → NextRegister t path i (length t)
    register_device k = go (dec_lt (length t - j) 4)
      where
        go : Dec (length t - j < 4) → NextRegister t path i (length t)
        go (yes h) = nothing_there (after_cut t j here (device_long (word t j) k) h)
        go (no h) = no_register (ap (λ g. listed path g) (after_device_lem t j here k (omega arith)) ∙ listed_device path (word t j) (word t (j + 1)) (word t (j + 2)) (word t (j + 3)) (after t (j + 4)))

    pub register_here : kind (word t j) ≡ 5 → 4 ≤ length t - j → beq (not (eqb (bits (word t j) 16 16) 0)) path ≡ true → NextRegister t path i j
    register_here k h m =
        let n = ahead_register t i j a.ahead here k in
        record { within = omega arith; room = λ l. (a.ahead.forward, omega arith); same = a.same; here = λ l. ap (λ g. listed path g) (after_register_lem t j here k h) ∙ listed_register path (bits (word t j) 16 16) (register_at t j) (after t (j + 4)) m; adapters = λ l. n.adapters; devices = λ l. n.devices }

    pub along_passed : kind (word t j) ≡ 5 → 4 ≤ length t - j → beq (not (eqb (bits (word t j) 16 16) 0)) path ≡ false → Along t path i (j + 4)
    along_passed k h m = record { ahead = ahead_register t i j a.ahead here k; same = a.same ∙ ap (λ g. listed path g) (after_register_lem t j here k h) ∙ listed_passed path (bits (word t j) 16 16) (register_at t j) (after t (j + 4)) m }

    pub along_other : (kind (word t j) ≡ 3 → ⊥) → (kind (word t j) ≡ 4 → ⊥) → (kind (word t j) ≡ 5 → ⊥) → Along t path i (j + 1)
    along_other n3 n4 n5 = record { ahead = ahead_other t i j a.ahead here n3 n4 n5; same = a.same ∙ ap (λ g. listed path g) (after_other t j here n3 n4 n5) }
