-- Laws on outcomes, and on the device and the adapter that are asked for. Assumes nothing.
use Prim.Native.Nat.{ℕ, ◌≤◌, ◌<◌}
use mathlib.Core.Path.{◌≡◌, refl, sym, ap, ◌∙◌}
use mathlib.Core.List.{List, []}
use Rattle.std.specs.Prelude.{Option, None, Some, Err, Ok, Result, ok_or}
use Rattle.std.proofs.lemmas.Option.{none-some}
use native.Mathlib.Omega.{arith}
use native.Mathlib.Decide.{dec_lt}
use lib.ListN.{length}
use Rattle.refusal.specs.Outcome.{Outcome, refused, value, bind}
use Rattle.adapter.specs.Adapter.{AdapterRow, facts_row}
use Rattle.adapter.specs.declared.Facts.{Facts}
use Rattle.tables.specs.Rows.{Rows, DeviceRow, adapter_in, device_in}
use Rattle.tables.specs.Packed.{devices_in, device_row}
use Rattle.tables.specs.Found.{AdapterSought, adapter_found, device_found}
use Rattle.tables.specs.declared.DeviceFacts.{DeviceFacts}
use Rattle.tables.proofs.Laws.{device_past}
use Rattle.tables.specs.Tables.{rows_of, Tabled}
use Rattle.tables.specs.declared.Tables.{Tables}
use Rattle.load.proofs.Result.{tables_gone_on}
use Rattle.refusal.proofs.Laws.{refused_bind}
use Rattle.load.specs.Loading.{loaded}
use Rattle.load.specs.Answers.{tables_rows, present, asked_device}
use Rattle.refusal.specs.Refusal.{refused_by}
use Rattle.refusal.specs.declared.Refusal.{Refusal}
use Rattle.refusal.specs.declared.Refusal.TheVariants as refusal
use Rattle.devices.specs.Calls.{on_adapter}
use Rattle.devices.specs.Work.{read_device, read_outcome}

-- ---- outcomes

bind_bind : {A B C : Type 0} (o : Outcome A) (f : A → Outcome B) (g : B → Outcome C) → bind (bind o f) g ≡ bind o (λ x. bind (f x) g)
unfolding bind
bind_bind (refused n vs) f g = refl
bind_bind (value a) f g = refl

-- ---- the device that is asked for

-- what follows of a device that was sought in the tables
pub asked : {B : Type 0} (q : Result Tables Refusal) (o : Outcome Rows) (t : Tables) (p : ℕ) (k : Rows → DeviceRow → Outcome B) (d : Option DeviceRow)
    → tables_rows q ≡ o → q ≡ Ok t → d ≡ device_in (devices_in t.devices.now) p
    → bind (present d) (k (rows_of t)) ≡ bind o (λ x. bind (asked_device x p) (k x))
unfolding asked_device rows_of
asked q o t p k d same g f = ap (λ (z : Option DeviceRow). bind (present z) (k (rows_of t))) f ∙ sym (tables_gone_on q o same (λ x. bind (asked_device x p) (k x)) t g)

-- a device that was sought, or 14
pub found_or_missing : (p : ℕ) (o : Option DeviceFacts) (q : Result DeviceFacts Refusal) → q ≡ ok_or o refusal.Missing → read_outcome p q ≡ present (device_found p o)
unfolding read_outcome present device_found
found_or_missing p None q e = ap (read_outcome p) e
found_or_missing p (Some d) q e = ap (read_outcome p) e

-- what `?` does where what was sought is missing, and where it is there
module _ {A : Type 0} (o : Option A) (q : Result A Refusal) (is : q ≡ ok_or o refusal.Missing) where
  pub missing : (r : Refusal) → q ≡ Err r → (o ≡ None) × (r ≡ refusal.Missing)
  missing r e = go o (sym e ∙ is)
    where
      go : (x : Option A) → Err r ≡ ok_or x refusal.Missing → (x ≡ None) × (r ≡ refusal.Missing)
      go None f = (refl, cc)
      go (Some a) f = absurd cc

  pub there : (a : A) → q ≡ Ok a → o ≡ Some a
  there a e = go o (sym e ∙ is)
    where
      go : (x : Option A) → Ok a ≡ ok_or x refusal.Missing → x ≡ Some a
      go None f = absurd cc
      go (Some b) f = cc

-- a device that is there has a place that fits a key
pub place_fits : (t : Tables) (p : ℕ) (x : DeviceRow) → length t.devices.now ≤ 65536 → Some x ≡ device_in (devices_in t.devices.now) p → p < 65536
place_fits t p x u f = go (dec_lt p 65536)
  where
    go : Dec (p < 65536) → p < 65536
    go (yes q) = q
    go (no q) = absurd (none-some x (device_past 0 t.devices.now p (omega (arith, u)) ∙ sym f))

module _ {B : Type 0} (t s : List ℕ) (p : ℕ) (k : DeviceRow → Outcome B) (x : Result DeviceFacts Refusal) (e : read_outcome p x ≡ read_device t s p) where
  read_then : bind (read_outcome p x) k ≡ bind (loaded t s) (λ w. bind (asked_device w p) k)
  unfolding read_device
  read_then = ap (λ (o : Outcome DeviceRow). bind o k) e ∙ bind_bind (loaded t s) (λ w. asked_device w p) k

  pub read_refused : (r : Refusal) → x ≡ Err r → refused_by r ≡ bind (loaded t s) (λ w. bind (asked_device w p) k)
  unfolding read_outcome
  read_refused r g = sym (refused_bind r k) ∙ ap (λ (y : Result DeviceFacts Refusal). bind (read_outcome p y) k) (sym g) ∙ read_then

  pub read_device_lem : (d : DeviceFacts) → x ≡ Ok d → k (device_row p d) ≡ bind (loaded t s) (λ w. bind (asked_device w p) k)
  unfolding read_outcome bind
  read_device_lem d g = ap (λ (y : Result DeviceFacts Refusal). bind (read_outcome p y) k) (sym g) ∙ read_then

-- ---- the adapter that is asked for

-- the device is there, so the adapter is what is found of it
module _ (q : Result Tables Refusal) (s l : List ℕ) (t : Tables) (p n : ℕ) (f : DeviceRow → AdapterRow → Outcome (Option ℕ)) (same : tables_rows q ≡ loaded s l) (k : q ≡ Ok t) (w : Tabled t)
    (o : Option DeviceFacts) (e : device_found p o ≡ device_in (devices_in t.devices.now) p) (d : DeviceFacts) (i : o ≡ Some d) (r : Option Facts) (h : AdapterSought t.adapters.now p n r) where
  found : Some (device_row p d) ≡ device_in (devices_in t.devices.now) p
  unfolding device_found
  found = sym (ap (device_found p) i) ∙ e

  by_both : bind (present (adapter_found p r)) (f (device_row p d)) ≡ on_adapter s l p n f
  unfolding on_adapter present bind rows_of
  by_both =
      ap (λ (y : Option AdapterRow). bind (present y) (f (device_row p d))) (h.first (place_fits t p _ w.others.devices found) w.others.adapters)
      ∙ asked q (loaded s l) t p (λ x y. bind (present (adapter_in x.adapters p n)) (f y)) (Some (device_row p d)) same k found

  pub adapter_missing : r ≡ None → refused 14 [] ≡ on_adapter s l p n f
  unfolding present bind adapter_found
  adapter_missing j = ap (λ (y : Option Facts). bind (present (adapter_found p y)) (f (device_row p d))) (sym j) ∙ by_both

  pub adapter_there : (a : Facts) → r ≡ Some a → f (device_row p d) (facts_row p a) ≡ on_adapter s l p n f
  unfolding present bind adapter_found
  adapter_there a j = ap (λ (y : Option Facts). bind (present (adapter_found p y)) (f (device_row p d))) (sym j) ∙ by_both
