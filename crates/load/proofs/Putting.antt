-- Laws on rows that are held as words and counts: how many they are, and one row more. Assumes nothing.
use Prim.Native.Nat.{ℕ, suc, ◌+◌, ◌<◌}
use native.Mathlib.Omega.{arith}
use native.Mathlib.Numerals.{add-one}
use mathlib.Core.Path.{◌≡◌, refl, ◌∙◌, ap, sym}
use mathlib.Core.List.{List, [], ◌∷◌, ◌++◌, map, map-append, append-nil}
use lib.ListN.{length, take, set, length-map, length-set}
use lib.Seq.{take-suc-set, length-take-le}
use Rattle.adapter.specs.Adapter.{AdapterRow}
use Rattle.tables.specs.Rows.{EntryRow, Rows, no_rows, joined}
use Rattle.tables.specs.Packed.{entry_word, adapter_word, device_row, entries_in, adapters_in, devices_from, devices_in}
use Rattle.tables.specs.declared.DeviceFacts.{DeviceFacts}
use Rattle.load.specs.Answers.{held, Counted, counts_of}
use Rattle.load.specs.Work.{one_entry, one_adapter, one_device}
use Rattle.load.specs.declared.Counts.{Counts}

-- one word more
pub put_word : {A : Type 0} (f : ℕ → A) (t : List ℕ) (n w : ℕ) → n < length t → map f (take (n + 1) (set t n w)) ≡ map f (take n t) ++ (f w ∷ [])
put_word f t n w h = rw (add-one n, take-suc-set t n w h, map-append f (take n t) (w ∷ [])) refl

devices_snoc : (p : ℕ) (de : List DeviceFacts) (d : DeviceFacts) → devices_from p (de ++ (d ∷ [])) ≡ devices_from p de ++ (device_row (p + length de) d ∷ [])
unfolding devices_from
devices_snoc p [] d = ap (λ n. device_row n d ∷ []) (let z : p ≡ p + 0 = omega arith in z)
devices_snoc p (x ∷ de) d = ap (λ z. device_row p x ∷ z) (devices_snoc (suc p) de d ∙ ap (λ n. devices_from (suc p) de ++ (device_row n d ∷ [])) (let z : suc p + length de ≡ p + suc (length de) = omega arith in z))

-- one device more
put_facts : (de : List DeviceFacts) (n : ℕ) (d : DeviceFacts) → n < length de → devices_in (take (n + 1) (set de n d)) ≡ devices_in (take n de) ++ (device_row n d ∷ [])
put_facts de n d h =
    let a : length (take n de) ≡ n = length-take-le n de (omega (arith, h)) in
    rw (add-one n, take-suc-set de n d h)
    (devices_snoc 0 (take n de) d ∙ ap (λ q. devices_in (take n de) ++ (device_row q d ∷ [])) (let z : 0 + length (take n de) ≡ n = omega (arith, a) in z))

devices_length : (p : ℕ) (de : List DeviceFacts) → length (devices_from p de) ≡ length de
unfolding devices_from
devices_length p [] = refl
devices_length p (d ∷ de) = ap suc (devices_length (suc p) de)

pub none_held : (en ad : List ℕ) (de : List DeviceFacts) → held en ad de (record { entries = 0; adapters = 0; devices = 0 }) ≡ no_rows
unfolding held devices_from
none_held en ad de = refl

-- what is held, and the rows x that it comes to
module _ (en ad : List ℕ) (de : List DeviceFacts) (c : Counts) (u : Counted de c) (le : length en ≡ 4096) (la : length ad ≡ 16384) (x : Rows) (is : held en ad de c ≡ x) where
  entry_count : length x.entries ≡ c.entries
  unfolding held
  entry_count = ap (λ (y : Rows). length y.entries) (sym is) ∙ length-map (take c.entries en) entry_word ∙ length-take-le c.entries en (omega (arith, le, u.entries))

  adapter_count : length x.adapters ≡ c.adapters
  unfolding held
  adapter_count = ap (λ (y : Rows). length y.adapters) (sym is) ∙ length-map (take c.adapters ad) adapter_word ∙ length-take-le c.adapters ad (omega (arith, la, u.adapters))

  device_count : length x.devices ≡ c.devices
  unfolding held
  device_count = ap (λ (y : Rows). length y.devices) (sym is) ∙ devices_length 0 (take c.devices de) ∙ length-take-le c.devices de (omega (arith, u.long, u.devices))

  pub counts_told : c ≡ counts_of x
  unfolding counts_of
  counts_told = rw (entry_count, adapter_count, device_count) refl

  module _ (more : length x.entries < 4096) where
    pub entry_room : c.entries < 4096
    entry_room = omega (arith, more, entry_count)

    pub entry_counted : Counted de (record { entries = c.entries + 1; adapters = c.adapters; devices = c.devices })
    entry_counted = record { entries = omega (arith, entry_room); adapters = u.adapters; devices = u.devices; long = u.long }

    pub put_entry : (w : ℕ) (e : EntryRow) → entry_word w ≡ e → held (set en c.entries w) ad de (record { entries = c.entries + 1; adapters = c.adapters; devices = c.devices }) ≡ joined x (one_entry e)
    unfolding held joined
    put_entry w e k = rw (← is, ← k, put_word entry_word en c.entries w (omega (arith, le, entry_room)), append-nil (adapters_in (take c.adapters ad)), append-nil (devices_in (take c.devices de))) refl

  module _ (more : length x.adapters < 16384) where
    pub adapter_room : c.adapters < 16384
    adapter_room = omega (arith, more, adapter_count)

    pub adapter_counted : Counted de (record { entries = c.entries; adapters = c.adapters + 1; devices = c.devices })
    adapter_counted = record { entries = u.entries; adapters = omega (arith, adapter_room); devices = u.devices; long = u.long }

    pub put_adapter : (w : ℕ) (a : AdapterRow) → adapter_word w ≡ a → held en (set ad c.adapters w) de (record { entries = c.entries; adapters = c.adapters + 1; devices = c.devices }) ≡ joined x (one_adapter a)
    unfolding held joined
    put_adapter w a k = rw (← is, ← k, put_word adapter_word ad c.adapters w (omega (arith, la, adapter_room)), append-nil (entries_in (take c.entries en)), append-nil (devices_in (take c.devices de))) refl

  module _ (more : length x.devices < 4096) where
    pub device_room : c.devices < 4096
    device_room = omega (arith, more, device_count)

    pub device_counted : (d : DeviceFacts) → Counted (set de c.devices d) (record { entries = c.entries; adapters = c.adapters; devices = c.devices + 1 })
    device_counted d = record { entries = u.entries; adapters = u.adapters; devices = omega (arith, device_room); long = length-set de c.devices d ∙ u.long }

    pub put_device : (d : DeviceFacts) → held en ad (set de c.devices d) (record { entries = c.entries; adapters = c.adapters; devices = c.devices + 1 }) ≡ joined x (one_device (device_row (length x.devices) d))
    unfolding held joined
    put_device d = rw (device_count, ← is, put_facts de c.devices d (omega (arith, u.long, device_room)), append-nil (entries_in (take c.entries en)), append-nil (adapters_in (take c.adapters ad))) refl
