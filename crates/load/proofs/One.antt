-- Laws on what one adapter loads to. Assumes nothing.
use Prim.Native.Nat.{ℕ, ◌/◌, ◌%◌, ◌≤◌}
use native.Mathlib.Omega.{arith}
use mathlib.Core.Path.{◌≡◌, refl, sym, ap, ◌∙◌, subst}
use mathlib.Core.Bool.{Bool, true, false, cond, not, ◌&&◌}
use mathlib.Core.List.{List}
use Rattle.std.specs.Prelude.{Option, None, Some, Err, Ok, Result}
use lib.Dec.{leb, eqb}
use borrow.Author.Tests.{leb-true, ne_eqb}
use Rattle.refusal.proofs.Laws.{fault_bind}
use Rattle.refusal.specs.Outcome.{Outcome, refused, value, bind}
use Rattle.refusal.specs.Refusal.{at, refusal_of, field_at}
use Rattle.refusal.specs.declared.Site.{Site}
use Rattle.refusal.specs.declared.Fault.{Fault}
use Rattle.refusal.specs.declared.Fault.TheVariants.{FewRegisters, NoPathDump}
use Rattle.usb4.specs.Numbers.{type_number}
use Rattle.usb4.specs.declared.State.{State}
use Rattle.layout.specs.Layout.{word}
use Rattle.layout.specs.Description.{Description}
use Rattle.survey.specs.Devices.{Adapter}
use Rattle.listing.specs.After.{adapter_at}
use Rattle.named.specs.Named.{Named}
use Rattle.adapter.specs.Adapter.{kind_of, min_hop, narrow, max_hop_in, max_hop, parse_state, AdapterRow, adapter_site, few_registers, row_of, decode_of, facts_row, decoded_outcome}
use Rattle.adapter.specs.Paths.{PathEntry, entries_by, entries_of}
use Rattle.adapter.specs.declared.Facts.{Facts}
use Rattle.tables.specs.Rows.{Rows, joined}
use Rattle.load.specs.Loading.{and_then, own_rows, load_adapter}
use Rattle.load.specs.Answers.{answered}
use Rattle.load.specs.Work.{HopFits, one_adapter, entry_rows}
use Rattle.load.proofs.Joining.{then_joined}
use Rattle.refusal.specs.declared.FieldError.{FieldError}
use Rattle.refusal.specs.declared.FieldError.TheVariants as field

-- a value is no refusal, and has one value
abbrev is_value : {A : Type 0} → Outcome A → Type 0
is_value (refused n vs) = ⊥
is_value (value a) = Unit

module _ {A : Type 0} where
  no_value : (a : A) (n : ℕ) (vs : List ℕ) → value a ≡ refused n vs → ⊥
  no_value a n vs e = subst (λ o. is_value o) e tt

  abbrev valued : A → Outcome A → A
  valued d (refused n vs) = d
  valued d (value a) = a

  same_value : (a b : A) → value a ≡ value b → a ≡ b
  same_value a b e = ap (λ o. valued a o) e

-- a refusal goes through what comes after
refused_on : {A B : Type 0} (f : Fault) (k : A → Outcome B) → refusal_of f ≡ bind (refusal_of f) k
refused_on f k = sym (fault_bind f k)

-- a largest HopID that was found has sixteen bits
some_fits : (v x : ℕ) (b : Bool) → leb x 65535 ≡ b → Some v ≡ cond b (Some x) None → v ≤ 65535
some_fits v x true l e = let z : ◌≡◌ {A = Option ℕ} (Some v) (Some x) = e in let y : v ≡ x = cc in omega (arith, leb-true x 65535 l)
some_fits v x false l e = let z : ◌≡◌ {A = Option ℕ} (Some v) None = e in let y : ◌≡◌ {A = ℕ} 0 1 = cc in absurd (omega arith)

field_fits : (v : ℕ) (o : Outcome ℕ) → value (Some v) ≡ bind o (λ x. value (narrow x)) → v ≤ 65535
unfolding bind narrow
field_fits v (refused n vs) e = absurd (no_value (Some v) n vs e)
field_fits v (value x) e = some_fits v x (leb x 65535) refl (same_value _ _ e)

hop_fits : (s z : Site) (h : Result (Option ℕ) FieldError) (o : Option Named) → field_at s h ≡ max_hop_in z o → HopFits h
unfolding HopFits max_hop_in
hop_fits s z (Ok (Some v)) None e = let y : ◌≡◌ {A = Option ℕ} (Some v) None = same_value _ _ e in let x : ◌≡◌ {A = ℕ} 0 1 = cc in absurd (omega arith)
hop_fits s z (Ok (Some v)) (Some n) e = field_fits v _ e
hop_fits s z (Ok None) o e = omega arith
hop_fits s z (Err field.NoField) o e = omega arith

and_false : (b : Bool) → (b && false) ≡ false
and_false true = refl
and_false false = refl

-- the row that an adapter is decoded to
module _ (ds : List Description) (p : ℕ) (usb4 : Bool) (a : Adapter) where
  abbrev its_site : ℕ → Site
  its_site n = record { place = p; adapter = n }

  abbrev finish : AdapterRow → Outcome Rows
  finish x = cond (eqb a.paths 2 && not x.lane1) (refusal_of (NoPathDump (adapter_site p a.number))) (bind (entries_of ds (adapter_site p a.number) a) (λ es. value (own_rows p x es)))

  -- behind rows so far
  abbrev loads : Rows → Outcome Rows
  loads so = and_then (value so) (load_adapter ds p usb4 a)

  by_decode : (so : Rows) (o : Outcome AdapterRow) → o ≡ decode_of ds p usb4 a → bind (bind o (λ x. finish x)) (λ y. value (joined so y)) ≡ loads so
  unfolding and_then load_adapter bind
  by_decode so o e = ap (λ z. bind (bind z (λ x. finish x)) (λ y. value (joined so y))) e

  module _ (r : Result Facts Fault) (d : decoded_outcome p r ≡ decode_of ds p usb4 a) where
    pub decode_refused : (x : Fault) → r ≡ Err x → (so : Rows) → refusal_of x ≡ loads so
    unfolding decoded_outcome
    decode_refused x k so =
        refused_on x (λ y. value (joined so y)) ∙ ap (λ o. bind o (λ y. value (joined so y))) (refused_on x (λ y. finish y))
        ∙ by_decode so (refusal_of x) (ap (decoded_outcome p) (sym k) ∙ d)

    module _ (f : Facts) (k : r ≡ Ok f) where
      is_row : value (facts_row p f) ≡ decode_of ds p usb4 a
      unfolding decoded_outcome
      is_row = ap (decoded_outcome p) (sym k) ∙ d

      its_row : (x : AdapterRow) (b : Bool) (o : Outcome State) → value x ≡ cond b (refusal_of (FewRegisters (adapter_site p a.number))) (bind o (λ st. value (row_of ds p usb4 a st))) → (st : State) × (x ≡ row_of ds p usb4 a st)
      unfolding bind refusal_of
      its_row x true o e = absurd (no_value x _ _ e)
      its_row x false (refused n vs) e = absurd (no_value x n vs e)
      its_row x false (value st) e = (st, same_value _ _ e)

      row_known : (st : State) × (facts_row p f ≡ row_of ds p usb4 a st)
      unfolding decode_of
      row_known = its_row (facts_row p f) (few_registers a) (parse_state ds (adapter_site p a.number) a) is_row

      its_number : f.number ≡ a.number
      unfolding facts_row row_of
      its_number = ap (λ x. x.number) row_known.1

      its_kind : f.kind ≡ kind_of a
      unfolding facts_row row_of
      its_kind = ap (λ x. x.kind) row_known.1

      pub facts_fit : HopFits f.max_hop
      unfolding facts_row row_of max_hop
      facts_fit = hop_fits _ _ f.max_hop _ (ap (λ x. x.max_hop) row_known.1)

      -- whether the path dump is missed, by the head's two bits w
      module _ (w : ℕ) (ew : w ≡ a.paths) where
        pub dump_missed : w ≡ 2 → not f.lane1 ≡ true → (so : Rows) → refusal_of (NoPathDump (its_site f.number)) ≡ loads so
        unfolding facts_row bind refusal_of adapter_site
        dump_missed e l so =
            ap (λ n. refused 9 (at (its_site n))) its_number
            ∙ ap (λ b. bind (cond b (refused 9 (at (its_site a.number))) (bind (entries_of ds (its_site a.number) a) (λ es. value (own_rows p (facts_row p f) es)))) (λ y. value (joined so y)))
            (sym (ap (λ z. eqb z 2 && not f.lane1) (sym ew ∙ e) ∙ l))
            ∙ by_decode so (value (facts_row p f)) is_row

        pub dump_other : (w ≡ 2 → ⊥) → (eqb a.paths 2 && not f.lane1) ≡ false
        dump_other e = ap (λ z. eqb z 2 && not f.lane1) (sym ew) ∙ ap (λ b. b && not f.lane1) (ne_eqb w 2 e)

        pub dump_lane1 : not f.lane1 ≡ false → (eqb a.paths 2 && not f.lane1) ≡ false
        dump_lane1 l = ap (λ b. eqb a.paths 2 && b) l ∙ and_false (eqb a.paths 2)

      -- its row is put, and then its entries
      module _ (l : (eqb a.paths 2 && not f.lane1) ≡ false) (so y : Rows) (put : y ≡ joined so (one_adapter (facts_row p f))) (q : Result ℕ FieldError) (z : Rows)
          (is : answered (field_at (its_site f.number) q) z ≡ and_then (value y) (entry_rows (its_site f.number) (entries_by ds (its_site f.number) (type_number f.kind) a.entries (min_hop f.kind)))) where
        abbrev entries : Outcome (List PathEntry)
        entries = entries_of ds (adapter_site p a.number) a

        by_entries : entry_rows (its_site f.number) (entries_by ds (its_site f.number) (type_number f.kind) a.entries (min_hop f.kind)) ≡ entry_rows (its_site f.number) entries
        unfolding entries_of adapter_site
        by_entries =
            ap (λ n. entry_rows (its_site f.number) (entries_by ds (its_site n) (type_number f.kind) a.entries (min_hop f.kind))) its_number
            ∙ ap (λ k. entry_rows (its_site f.number) (entries_by ds (its_site a.number) (type_number k) a.entries (min_hop k))) its_kind

        row_first : (o : Outcome (List PathEntry)) → and_then (value (one_adapter (facts_row p f))) (entry_rows (its_site f.number) o) ≡ bind o (λ es. value (own_rows p (facts_row p f) es))
        unfolding and_then bind joined own_rows facts_row
        row_first (refused n vs) = refl
        row_first (value es) = refl

        to_loads : and_then (value so) (bind entries (λ es. value (own_rows p (facts_row p f) es))) ≡ loads so
        unfolding and_then bind facts_row
        to_loads =
            ap (λ b. bind (cond b (refusal_of (NoPathDump (adapter_site p a.number))) (bind entries (λ es. value (own_rows p (facts_row p f) es)))) (λ y. value (joined so y))) (sym l)
            ∙ by_decode so (value (facts_row p f)) is_row

        pub entries_put : (o : Result ℕ FieldError) → q ≡ o → answered (field_at (its_site f.number) o) z ≡ loads so
        entries_put o e =
            ap (λ r. answered (field_at (its_site f.number) r) z) (sym e) ∙ is
            ∙ ap (λ x. and_then (value x) (entry_rows (its_site f.number) (entries_by ds (its_site f.number) (type_number f.kind) a.entries (min_hop f.kind)))) put
            ∙ then_joined so (one_adapter (facts_row p f)) _
            ∙ ap (λ o. and_then (value so) (and_then (value (one_adapter (facts_row p f))) o)) by_entries
            ∙ ap (λ o. and_then (value so) o) (row_first entries)
            ∙ to_loads

-- the head's two bits
pub its_paths : (t : List ℕ) (i w : ℕ) → w ≡ word t i → w / 512 % 4 ≡ (adapter_at t i).paths
unfolding adapter_at
its_paths t i w e = ap (λ z. z / 512 % 4) e

-- the answer to a refusal
pub refuses : (f : Fault) (z : Rows) (o : Outcome Rows) → refusal_of f ≡ o → answered (refusal_of {A = ℕ} f) z ≡ o
refuses f z o e = fault_bind f (λ b. value z) ∙ e
