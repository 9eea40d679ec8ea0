-- Laws on tables of packed words: searches by key, numbers back to cases, order. Assumes nothing.
use Prim.Native.Nat.{ℕ, zero, suc, ◌+◌, ◌-◌, ◌*◌, ◌/◌, ◌%◌, ◌^◌, ◌≤◌, ◌<◌}
use mathlib.Core.Path.{◌≡◌, refl, sym, ap, ◌∙◌, subst}
use mathlib.Core.Bool.{Bool, true, false, cond, ◌&&◌, false≢true}
use mathlib.Core.List.{List, [], ◌∷◌, ◌++◌, map}
use Rattle.std.specs.Prelude.{Option, None, Some, Result, slice_get}
use Rattle.std.proofs.lemmas.Option.{same_Some, none-some}
use native.Mathlib.Omega.{arith}
use native.Mathlib.Decide.{dec_lt}
use lib.Dec.{eqb}
use lib.ListN.{length, get_or, take}
use lib.Seq.{get_or-take}
use borrow.Author.Tests.{eq-eqb, eqb-true}
use Rattle.refusal.specs.Outcome.{value}
use Rattle.refusal.specs.Refusal.{field_at}
use Rattle.refusal.specs.declared.Site.{Site}
use Rattle.usb4.specs.Numbers.{type_number, state_number, speed_number}
use Rattle.usb4.specs.declared.AdapterType.{AdapterType}
use Rattle.usb4.specs.declared.AdapterType.TheVariants as type
use Rattle.usb4.specs.declared.State.{State}
use Rattle.usb4.specs.declared.State.TheVariants as state
use Rattle.usb4.specs.declared.Speed.{Speed}
use Rattle.usb4.specs.declared.Speed.TheVariants as speed
use Rattle.adapter.specs.Adapter.{AdapterRow, facts_row}
use Rattle.adapter.specs.declared.Facts.{Facts}
use Rattle.tables.specs.declared.DeviceFacts.{DeviceFacts}
use Rattle.tables.specs.Rows.{EntryRow, DeviceRow, entry_in, adapter_in, device_in}
use Rattle.tables.specs.Packed.{entry_word, adapter_word, entries_in, adapters_in, device_row, devices_from, entry_unit, adapter_unit, Sorted, type_by, state_by, speed_by, number_by}
use Rattle.tables.specs.Found.{Boundary, EntrySought, AdapterSought, entry_found, adapter_found, device_found}
use Rattle.refusal.specs.declared.FieldError.{FieldError}
use Rattle.adapter.specs.Paths.{entry_out}

both : (x y : Bool) → (x && y) ≡ true → (x ≡ true) × (y ≡ true)
both true y e = (refl, e)
both false y e = absurd (false≢true e)

refuted : (b : Bool) → (b ≡ true → ⊥) → b ≡ false
refuted true n = absurd (n refl)
refuted false n = refl

-- a word below the bound is the one before the next place
pub below_next : (t : List ℕ) (bound m : ℕ) → get_or t m 0 < bound → 0 < m + 1 → get_or t (m + 1 - 1) 0 < bound
below_next t bound m e l = subst (λ (z : ℕ). get_or t z 0 < bound) (let z : m ≡ m + 1 - 1 = omega arith in z) e

-- the search ends where both ends meet
pub ends_meet : (t : List ℕ) (bound lo hi : ℕ) → lo ≤ hi → hi ≤ lo → hi ≤ length t → (0 < lo → get_or t (lo - 1) 0 < bound) → (hi < length t → bound ≤ get_or t hi 0) → Boundary t bound lo
ends_meet t bound lo hi k l m b a =
    record { within = omega arith; below = b; above = subst (λ (z : ℕ). z < length t → bound ≤ get_or t z 0) (let z : hi ≡ lo = omega arith in z) a }

-- ---- the search: in a table whose keys don't fall, words before a boundary have keys below, words from it on have not

module _ (unit : ℕ) (t : List ℕ) (k bound r : ℕ) (low : (w : ℕ) → w < bound → w / unit < k) (high : (w : ℕ) → bound ≤ w → k ≤ w / unit) (s : Sorted unit t) (b : Boundary t bound r) where
  before : (i : ℕ) → i < r → get_or t i 0 / unit < k
  unfolding Sorted
  before i l = go (dec_lt i (r - 1))
    where
      last : get_or t (r - 1) 0 / unit < k
      last = low _ (b.below (omega arith))

      go : Dec (i < r - 1) → get_or t i 0 / unit < k
      go (yes q) = omega (arith, last, s i (r - 1) q (omega (arith, b.within)))
      go (no q) = subst (λ (z : ℕ). get_or t z 0 / unit < k) (let z : r - 1 ≡ i = omega arith in z) last

  -- no word has the key where the one at the boundary has another, or there is none
  absent : (r < length t → get_or t r 0 / unit ≡ k → ⊥) → (i : ℕ) → i < length t → get_or t i 0 / unit ≡ k → ⊥
  unfolding Sorted
  absent n i l e = go (dec_lt i r) (dec_lt r i)
    where
      go : Dec (i < r) → Dec (r < i) → ⊥
      go (yes q) x = omega (arith, before i q)
      go (no q) (yes x) = n (omega arith) (omega (arith, high (get_or t r 0) (b.above (omega arith)), s r i x l))
      go (no q) (no x) = let z : i ≡ r = omega arith in n (omega arith) (subst (λ (z : ℕ). get_or t z 0 / unit ≡ k) z e)

-- ---- entries

abbrev pub key_of : ℕ → ℕ → ℕ → ℕ
key_of p a h = p * 16777216 + a * 65536 + h

module _ (p a h : ℕ) (la : a < 256) (lh : h < 65536) where
  entry_is : (w : ℕ) → w / 16777216 ≡ key_of p a h → entry_word w ≡ record { device = p; adapter = a; in_hop = h; out_adapter = w / 65536 % 256; out_hop = w % 65536 }
  unfolding entry_word
  entry_is w e =
      let x : w / 281474976710656 ≡ p = omega arith in
      let y : w / 1099511627776 % 256 ≡ a = omega arith in
      let z : w / 16777216 % 65536 ≡ h = omega arith in
      rw (x, y, z) refl

  entry_yes : (w : ℕ) → w / 16777216 ≡ key_of p a h → (eqb (entry_word w).device p && eqb (entry_word w).adapter a && eqb (entry_word w).in_hop h) ≡ true
  entry_yes w e = rw (entry_is w e) (simp (eq-eqb p p refl, eq-eqb a a refl, eq-eqb h h refl))

  entry_no : (w : ℕ) → (w / 16777216 ≡ key_of p a h → ⊥) → (eqb (entry_word w).device p && eqb (entry_word w).adapter a && eqb (entry_word w).in_hop h) ≡ false
  unfolding entry_word
  entry_no w n = refuted _ (λ e.
      let u = both _ _ e in
      let v = both _ _ u.0 in
      let x : w / 281474976710656 ≡ p = eqb-true _ _ v.0 in
      let y : w / 1099511627776 % 256 ≡ a = eqb-true _ _ v.1 in
      let z : w / 16777216 % 65536 ≡ h = eqb-true _ _ u.1 in
      n (omega arith))

  entry_hit : (t : List ℕ) (i : ℕ) → i < length t → ((j : ℕ) → j < i → get_or t j 0 / 16777216 < key_of p a h)
      → get_or t i 0 / 16777216 ≡ key_of p a h → Some (entry_word (get_or t i 0)) ≡ entry_in (entries_in t) p a h
  unfolding entry_in
  entry_hit [] i l lt e = absurd (omega arith)
  entry_hit (w ∷ t) zero l lt e = rw (entry_yes w e) refl
  entry_hit (w ∷ t) (suc i) l lt e = rw (entry_no w (λ q. omega (arith, lt 0 (omega arith)))) (entry_hit t i (omega arith) (λ j m. lt (suc j) (omega arith)) e)

  entry_miss : (t : List ℕ) → ((j : ℕ) → j < length t → get_or t j 0 / 16777216 ≡ key_of p a h → ⊥) → None ≡ entry_in (entries_in t) p a h
  unfolding entry_in
  entry_miss [] n = refl
  entry_miss (w ∷ t) n = rw (entry_no w (n 0 (omega arith))) (entry_miss t (λ j m. n (suc j) (omega arith)))

-- what a search for an entry answers
pub entry_past : (t : List ℕ) (p a h : ℕ) → 65535 < p → EntrySought t p a h None
unfolding entry_found
entry_past t p a h l = record { first = λ q s. absurd (omega arith); past = λ q. refl; held = λ e q. absurd (none-some e q) }

module _ (t : List ℕ) (p a h r : ℕ) (lp : p < 65536) (la : a < 256) (lh : h < 65536) (b : Boundary t (key_of p a h * 16777216) r) where
  pub entry_missing : (r < length t → get_or t r 0 / 16777216 ≡ key_of p a h → ⊥) → EntrySought t p a h None
  unfolding entry_found
  entry_missing n = record {
    first = λ q s. entry_miss p a h la lh t (absent 16777216 t (key_of p a h) _ r (λ w l. omega arith) (λ w l. omega arith) s b n);
    past = λ q. refl;
    held = λ e q. absurd (none-some e q);
  }

  pub entry_found_lem : r < length t → get_or t r 0 / 16777216 ≡ key_of p a h → EntrySought t p a h (Some (entry_out (get_or t r 0 / 65536 % 256) (get_or t r 0 % 65536)))
  unfolding entry_found
  entry_found_lem l e = record {
    first = λ q s. ap Some (sym (entry_is p a h la lh (get_or t r 0) e)) ∙ entry_hit p a h la lh t r l (before 16777216 t (key_of p a h) _ r (λ w l. omega arith) (λ w l. omega arith) s b) e;
    past = λ q. absurd (omega arith);
    held = λ x q. (r, l, entry_is p a h la lh (get_or t r 0) e ∙ same_Some _ x q);
  }

-- ---- adapters

module _ (p a : ℕ) (la : a < 256) where
  adapter_is : (w : ℕ) → w / 1099511627776 ≡ p * 256 + a → (w / 281474976710656 ≡ p) × (w / 1099511627776 % 256 ≡ a)
  adapter_is w e = (omega arith, omega arith)

  adapter_yes : (w : ℕ) → w / 1099511627776 ≡ p * 256 + a → (eqb (adapter_word w).device p && eqb (adapter_word w).number a) ≡ true
  unfolding adapter_word
  adapter_yes w e = simp (eq-eqb _ _ (adapter_is w e).0, eq-eqb _ _ (adapter_is w e).1)

  adapter_no : (w : ℕ) → (w / 1099511627776 ≡ p * 256 + a → ⊥) → (eqb (adapter_word w).device p && eqb (adapter_word w).number a) ≡ false
  unfolding adapter_word
  adapter_no w n = refuted _ (λ e.
      let u = both _ _ e in
      let x : w / 281474976710656 ≡ p = eqb-true _ _ u.0 in
      let y : w / 1099511627776 % 256 ≡ a = eqb-true _ _ u.1 in
      n (omega arith))

  adapter_hit : (t : List ℕ) (i : ℕ) → i < length t → ((j : ℕ) → j < i → get_or t j 0 / 1099511627776 < p * 256 + a)
      → get_or t i 0 / 1099511627776 ≡ p * 256 + a → Some (adapter_word (get_or t i 0)) ≡ adapter_in (adapters_in t) p a
  unfolding adapter_in
  adapter_hit [] i l lt e = absurd (omega arith)
  adapter_hit (w ∷ t) zero l lt e = rw (adapter_yes w e) refl
  adapter_hit (w ∷ t) (suc i) l lt e = rw (adapter_no w (λ q. omega (arith, lt 0 (omega arith)))) (adapter_hit t i (omega arith) (λ j m. lt (suc j) (omega arith)) e)

  adapter_miss : (t : List ℕ) → ((j : ℕ) → j < length t → get_or t j 0 / 1099511627776 ≡ p * 256 + a → ⊥) → None ≡ adapter_in (adapters_in t) p a
  unfolding adapter_in
  adapter_miss [] n = refl
  adapter_miss (w ∷ t) n = rw (adapter_no w (n 0 (omega arith))) (adapter_miss t (λ j m. n (suc j) (omega arith)))

pub adapter_past : (t : List ℕ) (p a : ℕ) → 65535 < p → AdapterSought t p a None
unfolding adapter_found
adapter_past t p a l = record { first = λ q s. absurd (omega arith); past = λ q. refl; held = λ e q. absurd (none-some e q) }

module _ (t : List ℕ) (p a r : ℕ) (lp : p < 65536) (la : a < 256) (b : Boundary t ((p * 256 + a) * 1099511627776) r) where
  pub adapter_missing : (r < length t → get_or t r 0 / 1099511627776 ≡ p * 256 + a → ⊥) → AdapterSought t p a None
  unfolding adapter_found
  adapter_missing n = record {
    first = λ q s. adapter_miss p a la t (absent 1099511627776 t (p * 256 + a) _ r (λ w l. omega arith) (λ w l. omega arith) s b n);
    past = λ q. refl;
    held = λ e q. absurd (none-some e q);
  }

  pub adapter_found_lem : (f : Facts) → r < length t → get_or t r 0 / 1099511627776 ≡ p * 256 + a → facts_row (get_or t r 0 / 281474976710656) f ≡ adapter_word (get_or t r 0) → AdapterSought t p a (Some f)
  unfolding adapter_found adapter_word
  adapter_found_lem f l e g = record {
    first = λ q s. ap Some same ∙ adapter_hit p a la t r l (before 1099511627776 t (p * 256 + a) _ r (λ w l. omega arith) (λ w l. omega arith) s b) e;
    past = λ q. absurd (omega arith);
    held = λ x q. let z = sym same ∙ same_Some _ x q in (r, l, z, sym (ap (λ (y : AdapterRow). y.number) z) ∙ number);
  }
    where
      same : facts_row p f ≡ adapter_word (get_or t r 0)
      same = subst (λ (d : ℕ). facts_row d f ≡ adapter_word (get_or t r 0)) (adapter_is p a la (get_or t r 0) e).0 g

      number : (adapter_word (get_or t r 0)).number ≡ a
      number = (adapter_is p a la (get_or t r 0) e).1

-- ---- the adapter that is found

-- it has the number that was sought
pub has_number : (xs : List AdapterRow) (p a : ℕ) (z : AdapterRow) → adapter_in xs p a ≡ Some z → z.number ≡ a
unfolding adapter_in
has_number [] p a z e = absurd (none-some z e)
has_number (x ∷ xs) p a z e = go (eqb x.device p) (eqb x.number a) refl (has_number xs p a z) e
  where
    go : (b c : Bool) → eqb x.number a ≡ c → (adapter_in xs p a ≡ Some z → z.number ≡ a) → cond (b && c) (Some x) (adapter_in xs p a) ≡ Some z → z.number ≡ a
    go true true q rest f = sym (ap (λ (y : AdapterRow). y.number) (same_Some x z f)) ∙ eqb-true x.number a q
    go true false q rest f = rest f
    go false true q rest f = rest f
    go false false q rest f = rest f

-- ---- numbers that stand for something else

pub type_round : (k : AdapterType) → type_by (type_number k) ≡ k
unfolding type_by
type_round type.Unknown = refl
type_round type.Inactive = refl
type_round type.Lane = refl
type_round type.HostInterface = refl
type_round type.DisplayPortIn = refl
type_round type.DisplayPortOut = refl
type_round type.PcieDown = refl
type_round type.PcieUp = refl
type_round type.Usb3Down = refl
type_round type.Usb3Up = refl
type_round type.Usb3GenTDown = refl
type_round type.Usb3GenTUp = refl

pub state_round : (v : State) → state_by (state_number v) ≡ v
unfolding state_by
state_round state.Unknown = refl
state_round state.Disabled = refl
state_round state.Enabled = refl
state_round state.Training = refl
state_round state.Cl0 = refl
state_round state.Cl0sTx = refl
state_round state.Cl0sRx = refl
state_round state.Cl1 = refl
state_round state.Cl2 = refl
state_round state.Cld = refl

pub speed_round : (s : Site) (v : Speed) → speed_by s (speed_number v) ≡ value v
unfolding speed_by
speed_round s speed.Unknown = refl
speed_round s speed.Gen2 = refl
speed_round s speed.Gen3 = refl
speed_round s speed.Gen4 = refl

-- ---- words taken apart

pub facts_made : (w : ℕ) (k : AdapterType) (v : State) (f : Result Speed FieldError) (m : Result (Option ℕ) FieldError) → k ≡ type_by (w / 65536 % 16) → v ≡ state_by (w / 4096 % 16) → ((s : Site) → field_at s f ≡ speed_by s (w / 256 % 16)) → ((s : Site) → field_at s m ≡ number_by s (w / 1048576 % 1048576))
    → facts_row (w / 281474976710656) (record { number = w / 1099511627776 % 256; kind = k; state = v; lane0 = eqb (w / 16 % 16) 1; lane1 = eqb (w % 16) 1; speed = f; max_hop = m }) ≡ adapter_word w
unfolding facts_row adapter_word
facts_made w k v f m e g h j = rw (e, g, h, j) refl

-- ---- devices

pub device_past : (q : ℕ) (ds : List DeviceFacts) (i : ℕ) → length ds ≤ i → None ≡ device_in (devices_from q ds) i
unfolding devices_from device_in
device_past q [] i l = refl
device_past q (d ∷ ds) zero l = absurd (omega arith)
device_past q (d ∷ ds) (suc i) l = device_past (suc q) ds i (omega arith)

pub device_here : (q : ℕ) (ds : List DeviceFacts) (i : ℕ) → i < length ds → (d : DeviceRow) × (Some d ≡ device_in (devices_from q ds) i)
unfolding devices_from device_in
device_here q [] i l = absurd (omega arith)
device_here q (d ∷ ds) zero l = (device_row q d, refl)
device_here q (d ∷ ds) (suc i) l = device_here (suc q) ds i (omega arith)

-- place p is the i-th from q on
pub device_there : (q p : ℕ) (ds : List DeviceFacts) (i : ℕ) → p ≡ q + i → device_found p (slice_get ds i) ≡ device_in (devices_from q ds) i
unfolding devices_from device_in device_found
device_there q p [] i e = refl
device_there q p (d ∷ ds) zero e = ap (λ (z : ℕ). Some (device_row z d)) (omega arith)
device_there q p (d ∷ ds) (suc i) e = device_there (suc q) p ds i (omega arith)

-- ---- order

in_front : (t : List ℕ) (n j : ℕ) → j < length (take n t) → (j < n) × (j < length t)
in_front t zero j l = absurd (omega arith)
in_front [] (suc n) j l = absurd (omega arith)
in_front (w ∷ t) (suc n) zero l = (omega arith, omega arith)
in_front (w ∷ t) (suc n) (suc j) l = let q = in_front t n j (omega arith) in (omega (arith, q.0), omega (arith, q.1))

pub sorted_front : (unit : ℕ) (t : List ℕ) (n : ℕ) → Sorted unit t → Sorted unit (take n t)
unfolding Sorted
sorted_front unit t n s i j l m = let q = in_front t n j m in
    rw (get_or-take n t i 0 (omega (arith, q.0)), get_or-take n t j 0 q.0) (s i j l q.1)

abbrev pub Rising : {A : Type 0} → (A → ℕ) → List A → Type 0
Rising key [] = 0 ≤ 0
Rising key (x ∷ []) = 0 ≤ 0
Rising key (x ∷ y ∷ xs) = (key x ≤ key y) × Rising key (y ∷ xs)

abbrev pub AllAtMost : {A : Type 0} → (A → ℕ) → ℕ → List A → Type 0
AllAtMost key b [] = 0 ≤ 0
AllAtMost key b (x ∷ xs) = (key x ≤ b) × AllAtMost key b xs

abbrev pub AllAtLeast : {A : Type 0} → (A → ℕ) → ℕ → List A → Type 0
AllAtLeast key b [] = 0 ≤ 0
AllAtLeast key b (x ∷ xs) = (b ≤ key x) × AllAtLeast key b xs

pub rising_append : {A : Type 0} (key : A → ℕ) (xs ys : List A) (b : ℕ) → Rising key xs → Rising key ys → AllAtMost key b xs → AllAtLeast key b ys → Rising key (xs ++ ys)
rising_append key [] ys b r s m l = s
rising_append key (x ∷ []) [] b r s m l = omega arith
rising_append key (x ∷ []) (y ∷ ys) b r s m l = (omega (arith, m.0, l.0), s)
rising_append key (x ∷ z ∷ xs) ys b r s m l = (r.0, rising_append key (z ∷ xs) ys b r.1 s m.1 l)

rising_rest : {A : Type 0} (key : A → ℕ) (x : A) (xs : List A) → Rising key (x ∷ xs) → Rising key xs
rising_rest key x [] r = omega arith
rising_rest key x (y ∷ xs) r = r.1

module _ {A : Type 0} (key : A → ℕ) (unit : ℕ) (f : ℕ → A) (same : (w : ℕ) → key (f w) ≡ w / unit) where
  rising_from : (w : ℕ) (t : List ℕ) (j : ℕ) → Rising key (map f (w ∷ t)) → j < length t → w / unit ≤ get_or t j 0 / unit
  rising_from w [] j r l = absurd (omega arith)
  rising_from w (v ∷ t) zero r l = omega (arith, same w, same v, r.0)
  rising_from w (v ∷ t) (suc j) r l = omega (arith, same w, same v, r.0, rising_from v t j r.1 (omega arith))

  rising_sorted : (t : List ℕ) → Rising key (map f t) → Sorted unit t
  unfolding Sorted
  rising_sorted [] r i j l m = absurd (omega arith)
  rising_sorted (w ∷ t) r zero zero l m = absurd (omega arith)
  rising_sorted (w ∷ t) r zero (suc j) l m = rising_from w t j r (omega arith)
  rising_sorted (w ∷ t) r (suc i) zero l m = absurd (omega arith)
  rising_sorted (w ∷ t) r (suc i) (suc j) l m = rising_sorted t (rising_rest key (f w) (map f t) r) i j (omega arith) (omega arith)

abbrev pub entry_key : EntryRow → ℕ
entry_key e = e.device * 2 ^ 24 + e.adapter * 2 ^ 16 + e.in_hop

abbrev pub adapter_key : AdapterRow → ℕ
adapter_key x = x.device * 2 ^ 8 + x.number

pub rising_entries : (t : List ℕ) → Rising entry_key (entries_in t) → Sorted entry_unit t
unfolding entry_word
rising_entries t r = rising_sorted entry_key entry_unit entry_word (λ w. omega arith) t r

pub rising_adapters : (t : List ℕ) → Rising adapter_key (adapters_in t) → Sorted adapter_unit t
unfolding adapter_word
rising_adapters t r = rising_sorted adapter_key adapter_unit adapter_word (λ w. omega arith) t r
