-- Laws of path entries: what a path register says by the fields of its description. Assumes nothing.
use Prim.Native.Nat.{ℕ, ◌/◌, ◌%◌}
use mathlib.Core.Path.{◌≡◌, refl, sym, ap, ◌∙◌}
use mathlib.Core.Bool.{Bool, true, false, cond, not}
use mathlib.Core.List.{List}
use Rattle.std.specs.Prelude.{Option, None, Some, Err, Ok, Result}
use lib.Dec.{eqb}
use Rattle.refusal.specs.Outcome.{Outcome, refused, value, bind}
use Rattle.refusal.specs.Refusal.{refusal_of}
use Rattle.refusal.specs.declared.Site.{Site}
use Rattle.util.specs.Bits.{bits_of}
use Rattle.layout.specs.Layout.{low}
use Rattle.layout.specs.Description.{Description, described, descriptions_of, fields_behind}
use Rattle.naming.specs.Naming.{naming, place_of}
use Rattle.naming.specs.declared.Sought.{Sought}
use Rattle.fields.specs.Names.{find_field, find_flag}
use Rattle.fields.specs.declared.BitField.{BitField}
use Rattle.metadata.specs.Calls.{value_in, is_set, flag_in}
use Rattle.metadata.proofs.Named.{named_from, found_at, found_none}
use Rattle.register.specs.Line.{register_of}
use Rattle.register.specs.declared.Register.{Register}
use Rattle.survey.specs.Devices.{register_in}
use Rattle.named.specs.Named.{path_space, named, sited, wanted_field, wanted_flag}
use Rattle.adapter.specs.Paths.{entry_in, entry_of, entry_outcome}
use Rattle.util.specs.Text.{bytes_of}
use Rattle.paths.specs.Reading.{entry_fields, fields_for, leads, if_valid, read_by}
use Rattle.paths.specs.declared.EntryFields.{EntryFields}
use Rattle.adapter.specs.declared.EntryOut.{EntryOut}
use Rattle.adapter.specs.Paths.{entry_out}
use Rattle.refusal.specs.declared.FieldError.{FieldError}
use Rattle.refusal.specs.declared.FieldError.TheVariants as field

-- what is read by a field's bits
pub read_bits : (v : ℕ) (f : Option BitField) (d : BitField) (x : ℕ) → f ≡ Some d → x ≡ bits_of v d.start d.end → value_in v f ≡ value x
unfolding value_in
read_bits v f d x k y = ap (λ z. value_in v z) k ∙ ap value (sym y)

-- leads_to
module _ (v : ℕ) (a b : Option BitField) where
  pub leads_no_hop : a ≡ None → (Err field.NoField) ≡ leads (value_in v a) (value_in v b)
  unfolding leads value_in
  leads_no_hop k = ap (λ z. leads (value_in v z) (value_in v b)) (sym k)

  module _ (d : BitField) (k : a ≡ Some d) where
    pub leads_no_out : b ≡ None → (Err field.NoField) ≡ leads (value_in v a) (value_in v b)
    unfolding leads value_in
    leads_no_out m = ap (λ z. leads (value_in v (Some d)) (value_in v z)) (sym m) ∙ ap (λ z. leads (value_in v z) (value_in v b)) (sym k)

    pub leads_both : (g : BitField) (x y : ℕ) → b ≡ Some g → y ≡ bits_of v g.start g.end → x ≡ bits_of v d.start d.end → Ok (Some (entry_out (y % 256) (x % 65536))) ≡ leads (value_in v a) (value_in v b)
    unfolding leads
    leads_both g x y m p h = ap (λ z. leads (value x) z) (sym (read_bits v b g y m p)) ∙ ap (λ z. leads z (value_in v b)) (sym (read_bits v a d x k h))

-- entry_by
module _ (f : EntryFields) (v : ℕ) where
  abbrev rest : Result (Option EntryOut) FieldError
  rest = leads (value_in v f.hop) (value_in v f.out)

  pub read_none : f.valid ≡ None → (Err field.NoField) ≡ read_by f v
  unfolding read_by if_valid value_in
  read_none k = ap (λ z. if_valid (value_in v z) rest) (sym k)

  module _ (d : BitField) (x : ℕ) (k : f.valid ≡ Some d) (y : x ≡ bits_of v d.start d.end) where
    read_valid : (b : Bool) → eqb x 0 ≡ b → cond b (Ok None) rest ≡ read_by f v
    unfolding read_by if_valid
    read_valid b h = ap (λ z. cond z (Ok None) rest) (sym h) ∙ ap (λ z. if_valid z rest) (sym (read_bits v f.valid d x k y))

    pub read_invalid : eqb x 0 ≡ true → (Ok None) ≡ read_by f v
    read_invalid h = read_valid true h

    pub read_leads : eqb x 0 ≡ false → (r : Result (Option EntryOut) FieldError) → r ≡ rest → r ≡ read_by f v
    read_leads h r g = g ∙ read_valid false h

-- fields_of
module _ (t : List ℕ) (q : Sought) (f : Option ℕ) (e : f ≡ place_of (naming q (descriptions_of t))) where
  pub no_fields : f ≡ None → record { valid = None; hop = None; out = None } ≡ entry_fields (naming q (descriptions_of t))
  unfolding entry_fields
  no_fields k = sym (ap (λ z. entry_fields z) (found_none f _ e k))

  pub its_fields : (g : ℕ) → f ≡ Some g → (a b c : Option BitField) → a ≡ find_flag (bytes_of "Valid") (fields_behind t g) → b ≡ find_field (bytes_of "Output HopID") (fields_behind t g) → c ≡ find_field (bytes_of "Output Adapter") (fields_behind t g)
      → record { valid = a; hop = b; out = c } ≡ entry_fields (naming q (descriptions_of t))
  unfolding entry_fields described
  its_fields g k a b c ea eb ec =
      let d = found_at f _ e g k in
      ap (λ z. record { valid = z; hop = b; out = c }) ea
      ∙ ap (λ z. record { valid = find_flag (bytes_of "Valid") (fields_behind t g); hop = z; out = c }) eb
      ∙ ap (λ z. record { valid = find_flag (bytes_of "Valid") (fields_behind t g); hop = find_field (bytes_of "Output HopID") (fields_behind t g); out = z }) ec
      ∙ sym (ap (λ z. entry_fields z) (d.1 ∙ ap Some ((named_from t _ d.0 d.1).is ∙ ap (λ z. described t z) d.2)))

-- what is read by the fields of a description is the entry
read_by_lem : (s : Site) (o : ℕ) (v : ℕ) (a b c : Option BitField)
    → entry_outcome s o (if_valid (value_in v a) (leads (value_in v b) (value_in v c)))
    ≡ bind (sited s (is_set (value_in v a))) (λ valid. cond valid (bind (sited s (value_in v b)) (λ hop. bind (sited s (value_in v c)) (λ out. value (Some (record { in_hop = o / 2; out_adapter = out % 256; out_hop = hop % 65536 }))))) (value None))
unfolding entry_outcome if_valid leads value_in is_set sited bind refusal_of
read_by_lem s o v None b c = refl
read_by_lem s o v (Some d) b c = valid (eqb (bits_of v d.start d.end) 0) b c
  where
    valid : (z : Bool) (b c : Option BitField)
        → entry_outcome s o (cond z (Ok None) (leads (value_in v b) (value_in v c)))
        ≡ cond (not z) (bind (sited s (value_in v b)) (λ hop. bind (sited s (value_in v c)) (λ out. value (Some (record { in_hop = o / 2; out_adapter = out % 256; out_hop = hop % 65536 }))))) (value None)
    valid true b c = refl
    valid false None c = refl
    valid false (Some k) None = refl
    valid false (Some k) (Some m) = refl

entry_in_lem : (s : Site) (r : Register) (d : Description) (z : Bool)
    → cond z (bind (wanted_field s (record { register = r; description = d }) (bytes_of "Output HopID")) (λ hop. bind (wanted_field s (record { register = r; description = d }) (bytes_of "Output Adapter")) (λ out. value (Some (record { in_hop = r.offset / 2; out_adapter = out % 256; out_hop = hop % 65536 }))))) (value None) ≡ entry_in s r (Some d) z
unfolding entry_in
entry_in_lem s r d true = refl
entry_in_lem s r d false = refl

bind_same : {A B : Type 0} (o : Outcome A) (f g : A → Outcome B) → ((a : A) → f a ≡ g a) → bind o f ≡ bind o g
unfolding bind
bind_same (refused n vs) f g e = refl
bind_same (value a) f g e = e a

pub entry_read : (s : Site) (r : Register) (d : Option Description) → entry_outcome s r.offset (read_by (entry_fields d) r.value) ≡ entry_of s r d
unfolding read_by entry_fields entry_of wanted_flag flag_in wanted_field entry_outcome if_valid value_in sited bind refusal_of
entry_read s r None = refl
entry_read s r (Some d) =
    read_by_lem s r.offset r.value (find_flag (bytes_of "Valid") d.fields) (find_field (bytes_of "Output HopID") d.fields) (find_field (bytes_of "Output Adapter") d.fields)
    ∙ bind_same (sited s (is_set (value_in r.value (find_flag (bytes_of "Valid") d.fields)))) _ _ (entry_in_lem s r d)

-- a register by its words, under the fields of its ids
pub entry_words : (ds : List Description) (k w ids vs v : ℕ) (f : EntryFields) → f ≡ fields_for ds k ids vs → (e : Result (Option EntryOut) FieldError) → e ≡ read_by f v
    → (s : Site) → entry_outcome s (low w 15) e ≡ entry_of s (register_in w ids vs v) (named ds path_space k (register_in w ids vs v))
unfolding fields_for named register_in register_of
entry_words ds k w ids vs v f g e h s = ap (λ z. entry_outcome s (low w 15) z) (h ∙ ap (λ z. read_by z v) g) ∙ entry_read s (register_in w ids vs v) _
