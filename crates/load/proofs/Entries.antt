-- Path entries, put one after another. Assumes nothing.
use Prim.Native.Nat.{ℕ, ◌+◌, ◌*◌, ◌/◌, ◌%◌, ◌<◌, ◌≤◌}
use native.Mathlib.Omega.{arith}
use native.Mathlib.Nat.{le_refl}
use mathlib.Core.Path.{◌≡◌, refl, ◌∙◌, ap, sym, subst}
use mathlib.Core.Bool.{Bool, true, false, cond, ◌&&◌, false≢true}
use mathlib.Core.List.{List, [], ◌∷◌, ◌++◌, map-append}
use Rattle.std.specs.Prelude.{Option, None, Some, Err, Ok, Result}
use Rattle.std.specs.Option.{unwrap_or}
use lib.Dec.{leb, eqb}
use lib.ListN.{length}
use Rattle.refusal.specs.Outcome.{Outcome, value, refused, bind}
use Rattle.refusal.specs.Refusal.{refusal_of, field_at}
use Rattle.refusal.specs.declared.Site.{Site}
use Rattle.refusal.specs.declared.Fault.TheVariants.{NoField}
use Rattle.refusal.specs.declared.FieldError.{FieldError}
use Rattle.refusal.specs.declared.FieldError.TheVariants as field
use Rattle.layout.specs.Layout.{word}
use Rattle.layout.specs.Description.{Description}
use Rattle.register.specs.Line.{register_of}
use Rattle.register.specs.declared.Register.{Register}
use Rattle.survey.specs.Devices.{register_in}
use Rattle.named.specs.Named.{path_space, named}
use Rattle.listing.specs.After.{after, listed, register_at, NextRegister}
use Rattle.listing.proofs.Laws.{register_end}
use Rattle.adapter.specs.Adapter.{min_hop}
use Rattle.adapter.specs.Paths.{PathEntry, entry_of, with_entry, entries_from, entries_by, entry_outcome}
use Rattle.adapter.specs.declared.EntryOut.{EntryOut}
use Rattle.usb4.specs.Numbers.{type_number}
use Rattle.usb4.specs.declared.AdapterType.{AdapterType}
use Rattle.usb4.specs.declared.AdapterType.TheVariants as type
use Rattle.paths.specs.Reading.{fields_for, read_by}
use Rattle.paths.specs.declared.EntryFields.{EntryFields}
use Rattle.paths.proofs.Laws.{entry_read}
use Rattle.tables.specs.Rows.{Rows, joined}
use Rattle.load.specs.Loading.{and_then, owned}
use Rattle.load.specs.Answers.{answered}
use Rattle.load.specs.Work.{one_entry, entry_rows, Room, looked_at, FieldsAt, KeptFor, Passed}
use Rattle.load.specs.declared.Kept.{Kept}
use Rattle.load.proofs.Joining.{then_none, part_refused, part_put}

-- no more entries
none_put : {A : Type 0} (a : A) (s : Site) (x : Rows) (o : Outcome (List PathEntry)) → o ≡ value [] → answered (value a) x ≡ and_then (value x) (entry_rows s o)
unfolding bind
none_put a s x o e = sym (then_none x) ∙ ap (λ z. and_then (value x) (entry_rows s z)) (sym e)

-- those of one part, then those of the next
entries_then : (s : Site) (o q : Outcome (List PathEntry)) → entry_rows s (bind o (λ es. bind q (λ fs. value (es ++ fs)))) ≡ and_then (entry_rows s o) (entry_rows s q)
unfolding bind and_then joined
entries_then s (refused n vs) q = refl
entries_then s (value es) (refused n vs) = refl
entries_then s (value es) (value fs) = ap (λ l. value (record { entries = l; adapters = []; devices = [] })) (map-append (owned s.place s.adapter) es fs)

-- the entry of one register
module _ (ds : List Description) (s : Site) (k least : ℕ) (r : Register) where
  abbrev looked_at_lem : Bool
  looked_at_lem = leb (2 * least) r.offset && eqb (r.offset % 2) 0

  entries_none : looked_at_lem ≡ false → entries_from ds s k least (r ∷ []) ≡ value []
  unfolding entries_from
  entries_none e = ap (λ (b : Bool). cond b (bind (entry_of s r (named ds path_space k r)) (λ e. bind (value []) (λ es. value (with_entry e es)))) (value [])) e

  entries_one : looked_at_lem ≡ true → entries_from ds s k least (r ∷ []) ≡ bind (entry_of s r (named ds path_space k r)) (λ e. value (with_entry e []))
  unfolding entries_from bind
  entries_one e = ap (λ (b : Bool). cond b (bind (entry_of s r (named ds path_space k r)) (λ e. bind (value []) (λ es. value (with_entry e es)))) (value [])) e

-- the registers of a list, one after another
pub entries_cons : (ds : List Description) (s : Site) (k least : ℕ) (r : Register) (rs : List Register)
    → entries_from ds s k least (r ∷ rs) ≡ bind (entries_from ds s k least (r ∷ [])) (λ es. bind (entries_from ds s k least rs) (λ fs. value (es ++ fs)))
unfolding entries_from bind with_entry
entries_cons ds s k least r rs = go (leb (2 * least) r.offset && eqb (r.offset % 2) 0) (entry_of s r (named ds path_space k r)) (entries_from ds s k least rs)
  where
    go : (b : Bool) (e : Outcome (Option PathEntry)) (o : Outcome (List PathEntry))
        → cond b (bind e (λ x. bind o (λ fs. value (with_entry x fs)))) o ≡ bind (cond b (bind e (λ x. bind (value []) (λ fs. value (with_entry x fs)))) (value [])) (λ es. bind o (λ fs. value (es ++ fs)))
    go true (refused n vs) o = refl
    go true (value None) (refused n vs) = refl
    go true (value None) (value fs) = refl
    go true (value (Some x)) (refused n vs) = refl
    go true (value (Some x)) (value fs) = refl
    go false e (refused n vs) = refl
    go false e (value fs) = refl

-- what is looked at, by a register's head w
module _ (least : ℕ) (t : List ℕ) (i w : ℕ) (ew : w ≡ word t i) where
  abbrev looked_at_here : Bool
  looked_at_here = leb (2 * least) (w % 65536) && eqb (w % 65536 % 2) 0

  there : (b : Bool) → looked_at_here ≡ b → looked_at least (register_at t i) ≡ b
  unfolding register_at register_in register_of
  there b e = ap (λ x. leb (2 * least) (x % 65536) && eqb (x % 65536 % 2) 0) (sym ew) ∙ e

-- keep, over the words t of a survey
module _ (ds : List Description) (k least : ℕ) (t : List ℕ) (i w : ℕ) (ew : w ≡ word t i) where
  pub keep_none : looked_at_here least t i w ew ≡ false → (f : EntryFields) → FieldsAt ds k least (register_at t i) f
  unfolding FieldsAt
  keep_none e f l = absurd (false≢true (sym (there least t i w ew false e) ∙ l))

  pub keep_ids : (ids vs : ℕ) → ids ≡ word t (i + 1) → vs ≡ word t (i + 2) → (x : Kept) → KeptFor ds k x → x.ids ≡ ids → x.vs ≡ vs → FieldsAt ds k least (register_at t i) x.fields
  unfolding FieldsAt KeptFor fields_for named register_at register_in register_of
  keep_ids ids vs ei ev x h a b l = h ∙ ap (λ z. fields_for ds k z x.vs) (a ∙ ei) ∙ ap (λ z. fields_for ds k (word t (i + 1)) z) (b ∙ ev)

  pub keep_new : (ids vs : ℕ) → ids ≡ word t (i + 1) → vs ≡ word t (i + 2) → (f : EntryFields) → f ≡ fields_for ds k ids vs → KeptFor ds k (record { ids = ids; vs = vs; fields = f }) × FieldsAt ds k least (register_at t i) f
  unfolding KeptFor
  keep_new ids vs ei ev f h = (h, keep_ids ids vs ei ev (record { ids = ids; vs = vs; fields = f }) h refl refl)

-- push_entry, over the words t of a survey and the rows x
module _ (s : Site) (least : ℕ) (t : List ℕ) (i w : ℕ) (ew : w ≡ word t i) (fs : EntryFields) (x : Rows) where
  abbrev answer : Rows → Result Unit FieldError → Type 0
  answer y q = (ds : List Description) (k : ℕ) → FieldsAt ds k least (register_at t i) fs → answered (field_at s q) y ≡ and_then (value x) (entry_rows s (entries_from ds s k least (register_at t i ∷ [])))

  pub push_none : looked_at_here least t i w ew ≡ false → answer x (Ok tt)
  push_none e ds k h = none_put {A = Unit {0}} tt s x _ (entries_none ds s k least (register_at t i) (there least t i w ew false e))

  module _ (l : looked_at_here least t i w ew ≡ true) (v : ℕ) (ex : v ≡ word t (i + 3)) (f : Result (Option EntryOut) FieldError) (e : f ≡ read_by fs v) where
    offset_is : (register_at t i).offset ≡ w % 65536
    unfolding register_at register_in register_of
    offset_is = ap (λ x. x % 65536) (sym ew)

    value_is : (register_at t i).value ≡ v
    unfolding register_at register_in register_of
    value_is = sym ex

    entry_is : (ds : List Description) (k : ℕ) → FieldsAt ds k least (register_at t i) fs → entry_of s (register_at t i) (named ds path_space k (register_at t i)) ≡ entry_outcome s (w % 65536) f
    unfolding FieldsAt
    entry_is ds k h =
        sym (entry_read s (register_at t i) (named ds path_space k (register_at t i)))
        ∙ ap (λ z. entry_outcome s (register_at t i).offset (read_by z (register_at t i).value)) (sym (h (there least t i w ew true l)))
        ∙ ap (λ z. entry_outcome s (register_at t i).offset (read_by fs z)) value_is
        ∙ ap (λ z. entry_outcome s z (read_by fs v)) offset_is
        ∙ ap (λ z. entry_outcome s (w % 65536) z) (sym e)

    one_is : (ds : List Description) (k : ℕ) → FieldsAt ds k least (register_at t i) fs → (g : Result (Option EntryOut) FieldError) → f ≡ g → bind (entry_outcome s (w % 65536) g) (λ x. value (with_entry x [])) ≡ entries_from ds s k least (register_at t i ∷ [])
    one_is ds k h g z =
        ap (λ o. bind o (λ x. value (with_entry x []))) (sym (entry_is ds k h ∙ ap (λ y. entry_outcome s (w % 65536) y) z))
        ∙ sym (entries_one ds s k least (register_at t i) (there least t i w ew true l))

    pub push_refused : (y : Rows) → f ≡ (Err field.NoField) → answer y (Err field.NoField)
    unfolding bind and_then entry_outcome refusal_of
    push_refused y z ds k h = ap (λ o. and_then (value x) (entry_rows s o)) (one_is ds k h (Err field.NoField) z)

    pub push_invalid : f ≡ (Ok None) → answer x (Ok tt)
    unfolding bind entry_outcome with_entry
    push_invalid z ds k h = none_put {A = Unit {0}} tt s x _ (sym (one_is ds k h (Ok None) z))

    pub push_valid : (out : EntryOut) → f ≡ Ok (Some out) → (y : Rows) → y ≡ joined x (one_entry (record { device = s.place; adapter = s.adapter; in_hop = w % 65536 / 2; out_adapter = out.out_adapter; out_hop = out.out_hop })) → answer y (Ok tt)
    unfolding bind and_then entry_outcome with_entry owned
    push_valid out z y q ds k h = ap (λ r. value r) q ∙ ap (λ o. and_then (value x) (entry_rows s o)) (one_is ds k h (Ok (Some out)) z)

-- push_from, over the words t of a survey: the rows x₀ at first, x so far; those of the registers from `at` on are left, and the next register is at i
module _ (ds : List Description) (s : Site) (k least : ℕ) (t : List ℕ) (from : ℕ) (x₀ : Rows) where
  abbrev left : ℕ → Outcome Rows
  left i = entry_rows s (entries_from ds s k least (after t i).entries)

  pub record Pushing (x : Rows) (at i : ℕ) : Type 0 where
    pub passed : Passed t from x at
    pub next : NextRegister t true at i
    pub rest : and_then (value x) (left at) ≡ and_then (value x₀) (left from)

  pub pushing_start : (i : ℕ) → Room t from x₀ → NextRegister t true from i → Pushing x₀ from i
  pushing_start i r n = record { passed = record { room = r; forward = le_refl from; adapters = refl; devices = refl }; next = n; rest = refl }

  module _ (x : Rows) (at i : ℕ) (g : Pushing x at i) where
    pub pushing_end : length t ≤ i → answered (value at) x ≡ and_then (value x₀) (left from)
    unfolding listed entries_from
    pushing_end l = none_put at s x _ (ap (λ rs. entries_from ds s k least rs) (register_end t true at i g.next l)) ∙ g.rest

    module _ (l : i < length t) where
      abbrev first : Outcome Rows
      first = entry_rows s (entries_from ds s k least (register_at t i ∷ []))

      turn : and_then (value x) (and_then first (left (i + 4))) ≡ and_then (value x₀) (left from)
      unfolding listed
      turn =
          ap (λ o. and_then (value x) o)
          (sym (ap (λ rs. entry_rows s (entries_from ds s k least rs)) (g.next.same ∙ g.next.here l)
          ∙ ap (λ o. entry_rows s o) (entries_cons ds s k least (register_at t i) (after t (i + 4)).entries)
          ∙ entries_then s (entries_from ds s k least (register_at t i ∷ [])) (entries_from ds s k least (after t (i + 4)).entries)))
          ∙ g.rest

      module _ (y : Rows) (q : Result Unit FieldError) (same : answered (field_at s q) y ≡ and_then (value x) first) where
        pub pushing_refused : (e : FieldError) → q ≡ Err e → (z : Rows) → answered (refusal_of {A = ℕ} (NoField s)) z ≡ and_then (value x₀) (left from)
        pushing_refused e k z = part_refused (λ e. NoField s) q x y first (left (i + 4)) _ turn same ℕ e k z

        pub pushing_on : (u : Unit) (r : ℕ) → q ≡ Ok u → Room t (i + 4) y → NextRegister t true (i + 4) r → Pushing y (i + 4) r
        pushing_on u r k m n = record {
          passed = record { room = m; forward = omega (arith, g.passed.forward, g.next.room l); adapters = g.passed.adapters ∙ g.next.adapters l; devices = g.passed.devices ∙ g.next.devices l };
          next = n;
          rest = part_put (λ e. NoField s) q x y first (left (i + 4)) _ turn same u k;
        }

-- a least HopID is small
least_small : (k : AdapterType) → unwrap_or (min_hop k) 0 < 65536
unfolding min_hop
least_small type.Unknown = omega arith
least_small type.Inactive = omega arith
least_small type.Lane = omega arith
least_small type.HostInterface = omega arith
least_small type.DisplayPortIn = omega arith
least_small type.DisplayPortOut = omega arith
least_small type.PcieDown = omega arith
least_small type.PcieUp = omega arith
least_small type.Usb3Down = omega arith
least_small type.Usb3Up = omega arith
least_small type.Usb3GenTDown = omega arith
least_small type.Usb3GenTUp = omega arith

-- what min_hop gives
module _ (k : AdapterType) (f : Option ℕ) (e : f ≡ min_hop k) (least : ℕ) (z : f ≡ Some least) where
  least_is : min_hop k ≡ Some least
  least_is = sym e ∙ z

  pub least_fits : least < 65536
  least_fits = subst (λ o. unwrap_or o 0 < 65536) least_is (least_small k)

-- push_entries, by the least HopID of a kind
module _ (ds : List Description) (s : Site) (k : AdapterType) (t : List ℕ) (i : ℕ) (x : Rows) (f : Option ℕ) (e : f ≡ min_hop k) where
  abbrev entries : Outcome Rows
  entries = and_then (value x) (entry_rows s (entries_by ds s (type_number k) (after t i).entries (min_hop k)))

  pub no_least : f ≡ None → answered (value i) x ≡ entries
  unfolding entries_by
  no_least z = none_put i s x _ (ap (λ o. entries_by ds s (type_number k) (after t i).entries o) (sym e ∙ z))

  pub by_least : (least : ℕ) → f ≡ Some least → (o : Outcome Rows) → o ≡ and_then (value x) (entry_rows s (entries_from ds s (type_number k) least (after t i).entries)) → o ≡ entries
  unfolding entries_by
  by_least least z o g = g ∙ ap (λ m. and_then (value x) (entry_rows s (entries_by ds s (type_number k) (after t i).entries m))) (sym (least_is k f e least z))

pub stands : (t : List ℕ) (i : ℕ) (x : Rows) → Room t i x → Passed t i x i
stands t i x r = record { room = r; forward = le_refl i; adapters = refl; devices = refl }
