-- Rows of an accepted survey are in rising order: its path offsets don't fall, adapters are numbered 1, 2, .. and devices come place by place. Assumes nothing.
use Prim.Native.Nat.{ℕ, suc, ◌+◌, ◌*◌, ◌/◌, ◌%◌, ◌^◌, ◌≤◌}
use native.Mathlib.Omega.{arith}
use mathlib.Core.Path.{◌≡◌, refl, ◌∙◌, ap, sym, subst}
use mathlib.Core.Bool.{Bool, true, false, cond, not, ◌&&◌, ◌||◌, false≢true}
use mathlib.Core.List.{List, [], ◌∷◌, ◌++◌, map}
use Rattle.std.specs.Prelude.{Option, None, Some}
use lib.Dec.{ltb, leb, eqb}
use lib.ListN.{length}
use borrow.Author.Tests.{ltb-true, leb-true, eqb-true, eqb-false, eq-eqb, not-true}
use Rattle.refusal.specs.Outcome.{Outcome, refused, value, bind}
use Rattle.refusal.specs.Refusal.{refusal_of}
use Rattle.refusal.specs.declared.Site.{Site}
use Rattle.refusal.specs.declared.Fault.{Fault}
use Rattle.refusal.specs.declared.Fault.TheVariants.{FewRegisters, NoField, BadAdapters, GenTOffset, NoPathDump, NoOutAdapter, NoParentRoute, NoDownstreamRoute, Endless}
use Rattle.util.specs.Text.{bytes_of}
use Rattle.layout.specs.Layout.{bits, low, kind}
use Rattle.layout.specs.Description.{Description}
use Rattle.description.specs.Rules.{read_descriptions}
use Rattle.register.specs.declared.Register.{Register}
use Rattle.register.specs.Line.{register_of}
use Rattle.survey.specs.Words.{Group, group, cut, groups_of}
use Rattle.survey.specs.Rules.{start, good_device, good_adapter, good_register, after_device, after_adapter, after_register, may_stand, step_of, step_by, size_by, on_step, first_bad, check_of, max_words}
use Rattle.survey.specs.Devices.{Adapter, Device, Gathered, register_in, with_register, with_adapter, with_device, with_group, gather, devices_of, read_survey}
use Rattle.survey.specs.declared.Under.{Under}
use Rattle.named.specs.Named.{Named, path_space, named, wanted_flag}
use Rattle.usb4.specs.Numbers.{type_number}
use Rattle.adapter.specs.Adapter.{AdapterRow, adapter_site, kind_of, min_hop, parse_state, few_registers, row_of, decode_of}
use Rattle.adapter.specs.Paths.{PathEntry, entry_in, entry_of, with_entry, entries_from, entries_by, entries_of}
use Rattle.tables.specs.Rows.{Rows, joined}
use Rattle.tables.proofs.Laws.{Rising, entry_key, adapter_key}
use Rattle.numbering.specs.Numbered.{numbered}
use Rattle.load.specs.Loading.{missing, and_then, owned, own_rows, load_adapter, load_adapters, router_cs1, device_rows, fitting, fits, no_registers, load_device, load_from, loaded}

-- ---- what an outcome holds, where it is a value

pub record Holds {A : Type 0} (P : A → Type 0) (o : Outcome A) : Type 0 where
  pub by : (a : A) → o ≡ value a → P a

pub holds_value : {A : Type 0} {P : A → Type 0} {a : A} → P a → Holds P (value a)
holds_value {A} {P} {a} h = record { by = λ b e. let k : a ≡ b = cc in subst (λ x. P x) k h }

pub holds_refused : {A : Type 0} {P : A → Type 0} {n : ℕ} {vs : List ℕ} → Holds P (refused n vs)
holds_refused {A} {P} {n} {vs} = record { by = λ b e. let z : ◌≡◌ {A = ℕ} 0 1 = cc in absurd (omega arith) }

pub holds_bind : {A B : Type 0} {P : A → Type 0} {Q : B → Type 0} (o : Outcome A) (f : A → Outcome B) → Holds P o → ((a : A) → P a → Holds Q (f a)) → Holds Q (bind o f)
unfolding bind
holds_bind (refused n vs) f h k = holds_refused
holds_bind (value a) f h k = k a (h.by a refl)

pub holds_map : {A : Type 0} {P Q : A → Type 0} {o : Outcome A} → Holds P o → ((a : A) → P a → Q a) → Holds Q o
holds_map h k = record { by = λ a e. k a (h.by a e) }

-- nothing is asked of the value
pub holds_any : {A : Type 0} {o : Outcome A} → Holds (λ a. 0 ≤ 0) o
holds_any = record { by = λ a e. omega arith }

pub holds_fault : {A : Type 0} {P : A → Type 0} (f : Fault) → Holds P (refusal_of f)
unfolding refusal_of
holds_fault (FewRegisters s) = holds_refused
holds_fault (NoField s) = holds_refused
holds_fault (BadAdapters p) = holds_refused
holds_fault (GenTOffset s) = holds_refused
holds_fault (NoPathDump s) = holds_refused
holds_fault (NoOutAdapter s) = holds_refused
holds_fault (NoParentRoute s) = holds_refused
holds_fault (NoDownstreamRoute s) = holds_refused
holds_fault Endless = holds_refused

pub holds_cond : {A : Type 0} {P : A → Type 0} (b : Bool) (x y : Outcome A) → (b ≡ true → Holds P x) → (b ≡ false → Holds P y) → Holds P (cond b x y)
holds_cond true x y h k = h refl
holds_cond false x y h k = k refl

and_both : (a b : Bool) → a && b ≡ true → (a ≡ true) × (b ≡ true)
and_both true b e = (refl, e)
and_both false b e = absurd (false≢true e)

-- ---- keys that don't fall, from a least to a largest

abbrev pub Between : {A : Type 0} → (A → ℕ) → ℕ → ℕ → List A → Type 0
Between key lo hi [] = lo ≤ hi
Between key lo hi (x ∷ xs) = (lo ≤ key x) × Between key (key x) hi xs

between_append : {A : Type 0} (key : A → ℕ) (a b c : ℕ) (xs ys : List A) → Between key a b xs → Between key b c ys → Between key a c (xs ++ ys)
between_append key a b c [] [] h k = omega arith
between_append key a b c [] (y ∷ ys) h k = (omega (arith, k.0), k.1)
between_append key a b c (x ∷ xs) ys h k = (h.0, between_append key (key x) b c xs ys h.1 k)

-- wider bounds
between_from : {A : Type 0} (key : A → ℕ) (a b c : ℕ) (xs : List A) → a ≤ b → Between key b c xs → Between key a c xs
between_from key a b c [] l h = omega arith
between_from key a b c (x ∷ xs) l h = (omega (arith, h.0), h.1)

between_to : {A : Type 0} (key : A → ℕ) (a b c : ℕ) (xs : List A) → b ≤ c → Between key a b xs → Between key a c xs
between_to key a b c [] l h = omega arith
between_to key a b c (x ∷ xs) l h = (h.0, between_to key (key x) b c xs l h.1)

between_rising : {A : Type 0} (key : A → ℕ) (a b : ℕ) (xs : List A) → Between key a b xs → Rising key xs
between_rising key a b [] h = omega arith
between_rising key a b (x ∷ []) h = omega arith
between_rising key a b (x ∷ y ∷ xs) h = (h.1.0, between_rising key (key x) b (y ∷ xs) h.1)

-- ---- path registers of a well-formed survey

abbrev Offsets : ℕ → List Register → Type 0
Offsets lo rs = Between (λ r. r.offset) lo 65535 rs

-- adapters whose path registers are in order
abbrev Listed : List Adapter → Type 0
Listed [] = 0 ≤ 0
Listed (a ∷ as') = Offsets 0 a.entries × Listed as'

abbrev Placed : List Device → Type 0
Placed [] = 0 ≤ 0
Placed (d ∷ ds) = Listed d.adapters × Placed ds

record Ordered (lo : ℕ) (g : Gathered) : Type 0 where
  entries : Offsets lo g.entries
  adapters : Listed g.adapters
  devices : Placed g.devices

-- the offset that the next path register may not fall below
least_in : Bool → ℕ → ℕ
least_in true n = n
least_in false n = 0

abbrev least_of : Under → ℕ
least_of u = least_in u.listing u.least

least_small : (b : Bool) (n : ℕ) → n ≤ 65535 → least_in b n ≤ 65535
unfolding least_in
least_small true n l = l
least_small false n l = omega arith

-- a register in adapter space leaves the path space's least where it was, at none; one in path space is the new least
module _ (u : Under) (path off : ℕ) (m : may_stand u path off ≡ true) where
  as_split : (p : Bool) → eqb path 0 ≡ p → cond p (u.registers && not u.listing && leb u.least off) (u.paths && (not u.listing || leb u.least off)) ≡ true
  unfolding may_stand
  as_split p e = sym (ap (λ t. cond t (u.registers && not u.listing && leb u.least off) (u.paths && (not u.listing || leb u.least off))) e) ∙ m

  adapter_space_lem : eqb path 0 ≡ true → least_of u ≡ least_in (eqb path 1) off
  unfolding least_in
  adapter_space_lem e =
      let h = (and_both u.registers (not u.listing) (and_both (u.registers && not u.listing) (leb u.least off) (as_split true e)).0).1 in
      ap (λ b. least_in b u.least) (not-true u.listing h) ∙ sym (ap (λ z. least_in (eqb z 1) off) (eqb-true path 0 e))

  path_space_lem : eqb path 0 ≡ false → least_of u ≤ off
  unfolding least_in
  path_space_lem e = step u.listing (and_both u.paths (not u.listing || leb u.least off) (as_split false e)).1
    where
      step : (b : Bool) → not b || leb u.least off ≡ true → least_in b u.least ≤ off
      step true h = leb-true u.least off h
      step false h = omega arith

path_least : (path off : ℕ) → path ≤ 1 → eqb path 0 ≡ false → least_in (eqb path 1) off ≡ off
unfolding least_in
path_least path off l e = ap (λ b. least_in b off) (eq-eqb path 1 (let h = eqb-false path 0 e in omega arith))

module _ (path lo : ℕ) (r : Register) (g : Gathered) where
  register_adapter : eqb path 0 ≡ true → Ordered lo g → Ordered lo (with_register path r g)
  unfolding with_register
  register_adapter e h =
      subst (λ p. Ordered lo (cond p (record { registers = r ∷ g.registers; entries = g.entries; adapters = g.adapters; devices = g.devices }) (record { registers = g.registers; entries = r ∷ g.entries; adapters = g.adapters; devices = g.devices }))) (sym e)
      (record { entries = h.entries; adapters = h.adapters; devices = h.devices })

  register_path : eqb path 0 ≡ false → lo ≤ r.offset → Ordered r.offset g → Ordered lo (with_register path r g)
  unfolding with_register
  register_path e l h =
      subst (λ p. Ordered lo (cond p (record { registers = r ∷ g.registers; entries = g.entries; adapters = g.adapters; devices = g.devices }) (record { registers = g.registers; entries = r ∷ g.entries; adapters = g.adapters; devices = g.devices }))) (sym e)
      (record { entries = (l, h.entries); adapters = h.adapters; devices = h.devices })

-- what a head leaves behind it, by the groups g behind it and the check F of them
module _ (g : Gathered) (F : Under → Outcome Unit) (n : ℕ) (vs : List ℕ) (rest : (v : Under) → v.least ≤ 65535 → Holds (λ ok. Ordered (least_of v) g) (F v)) where
  after_device_lem : (lo w a b c : ℕ) (good : Bool) → lo ≤ 65535 → Holds (λ ok. Ordered lo (with_device w a b c g)) (on_step (cond good (Some (after_device w)) None) F (refused n vs))
  unfolding on_step with_device after_device least_in
  after_device_lem lo w a b c false l = holds_refused
  after_device_lem lo w a b c true l = holds_map (rest (after_device w) (omega arith)) (λ ok h. record { entries = l; adapters = omega arith; devices = (h.adapters, h.devices) })

  after_adapter_lem : (lo w : ℕ) (good : Bool) → lo ≤ 65535 → Holds (λ ok. Ordered lo (with_adapter w g)) (on_step (cond good (Some (after_adapter w)) None) F (refused n vs))
  unfolding on_step with_adapter after_adapter least_in
  after_adapter_lem lo w false l = holds_refused
  after_adapter_lem lo w true l = holds_map (rest (after_adapter w) (omega arith)) (λ ok h. record { entries = l; adapters = (h.entries, h.adapters); devices = h.devices })

  after_register_lem : (u : Under) (w a b c : ℕ) (good : Bool) → Holds (λ ok. Ordered (least_of u) (with_register (bits w 16 16) (register_in w a b c) g)) (on_step (cond (good && may_stand u (bits w 16 16) (low w 15)) (Some (after_register u w)) None) F (refused n vs))
  unfolding on_step after_register register_in register_of
  after_register_lem u w a b c false = holds_refused
  after_register_lem u w a b c true = step (eqb (bits w 16 16) 0) refl (may_stand u (bits w 16 16) (low w 15)) refl
    where
      step : (p : Bool) → eqb (bits w 16 16) 0 ≡ p → (m : Bool) → may_stand u (bits w 16 16) (low w 15) ≡ m → Holds (λ ok. Ordered (least_of u) (with_register (bits w 16 16) (register_in w a b c) g)) (on_step (cond m (Some (after_register u w)) None) F (refused n vs))
      step p e false k = holds_refused
      step true e true k = holds_map (rest (after_register u w) (omega arith)) (λ ok h. register_adapter _ _ _ g e (subst (λ l. Ordered l g) (sym (adapter_space_lem u _ _ k e)) h))
      step false e true k = holds_map (rest (after_register u w) (omega arith)) (λ ok h. register_path _ _ _ g e (path_space_lem u _ _ k e) (subst (λ l. Ordered l g) (path_least (bits w 16 16) (low w 15) (omega arith) e) h))

-- every adapter of a well-formed survey has path registers in order
groups_ordered : (gs : List Group) (i : ℕ) (u : Under) → u.least ≤ 65535 → Holds (λ ok. Ordered (least_of u) (gather gs)) (first_bad i u gs)
unfolding first_bad gather step_by with_group step_of on_step
groups_ordered [] i u l = holds_value (record { entries = least_small u.listing u.least l; adapters = omega arith; devices = omega arith })
groups_ordered (cut ∷ gs) i u l = holds_refused
groups_ordered (group w a b c ∷ gs) i u l =
    by_kind (eqb (kind w) 3) (eqb (kind w) 4) (eqb (kind w) 5) (gather gs) (λ v. first_bad (i + size_by (group w a b c)) v gs) (λ v k. groups_ordered gs (i + size_by (group w a b c)) v k)
  where
    by_kind : (d n r : Bool) (g : Gathered) (F : Under → Outcome Unit) → ((v : Under) → v.least ≤ 65535 → Holds (λ ok. Ordered (least_of v) g) (F v)) →
        Holds (λ ok. Ordered (least_of u) (cond d (with_device w a b c g) (cond n (with_adapter w g) (cond r (with_register (bits w 16 16) (register_in w a b c) g) g))))
        (on_step (cond d (cond (good_device w) (Some (after_device w)) None) (cond n (cond (u.begun && good_adapter w) (Some (after_adapter w)) None) (cond r (cond (good_register w b && may_stand u (bits w 16 16) (low w 15)) (Some (after_register u w)) None) None))) F (refused 4 (i ∷ [])))
    by_kind true n r g F h = after_device_lem g F 4 (i ∷ []) h (least_of u) w a b c (good_device w) (least_small u.listing u.least l)
    by_kind false true r g F h = after_adapter_lem g F 4 (i ∷ []) h (least_of u) w (u.begun && good_adapter w) (least_small u.listing u.least l)
    by_kind false false true g F h = after_register_lem g F 4 (i ∷ []) h u w a b c (good_register w b)
    by_kind false false false g F h = holds_refused

survey_placed : (s : List ℕ) → Holds Placed (read_survey s)
unfolding read_survey devices_of check_of
survey_placed s =
    holds_bind {P = λ ok. Placed (devices_of s)} (check_of s) (λ ok. value (devices_of s))
    (holds_cond (ltb max_words (length s)) (refused 4 (max_words ∷ [])) (first_bad 0 start (groups_of s)) (λ t. holds_refused) (λ t. holds_map (groups_ordered (groups_of s) 0 start (omega arith)) (λ ok h. h.devices)))
    (λ ok h. holds_value h)

-- ---- entries of path registers in order

abbrev HopIs : ℕ → Option PathEntry → Type 0
HopIs n None = 0 ≤ 0
HopIs n (Some e) = e.in_hop ≡ n

entry_hop : (s : Site) (r : Register) (d : Option Description) → Holds (HopIs (r.offset / 2)) (entry_of s r d)
unfolding entry_of entry_in
entry_hop s r d = holds_bind (wanted_flag s r d (bytes_of "Valid")) (λ valid. entry_in s r d valid) holds_any (λ valid z. by_flag d valid)
  where
    by_flag : (d : Option Description) (valid : Bool) → Holds (HopIs (r.offset / 2)) (entry_in s r d valid)
    by_flag None valid = holds_value (omega arith)
    by_flag (Some d) false = holds_value (omega arith)
    by_flag (Some d) true = holds_bind _ _ holds_any (λ hop z. holds_bind _ _ holds_any (λ out z. holds_value refl))

with_entry_lem : (lo n hi : ℕ) (e : Option PathEntry) (es : List PathEntry) → HopIs n e → lo ≤ n → Between (λ e. e.in_hop) n hi es → Between (λ e. e.in_hop) lo hi (with_entry e es)
unfolding with_entry
with_entry_lem lo n hi None es e l h = between_from (λ e. e.in_hop) lo n hi es l h
with_entry_lem lo n hi (Some x) es e l h = (omega arith, subst (λ z. Between (λ e. e.in_hop) z hi es) (sym e) h)

module _ (ds : List Description) (s : Site) (k least : ℕ) where
  entries_between : (rs : List Register) (lo : ℕ) → Offsets lo rs → Holds (λ es. Between (λ e. e.in_hop) (lo / 2) 32767 es) (entries_from ds s k least rs)
  unfolding entries_from
  entries_between [] lo h = holds_value (omega arith)
  entries_between (r ∷ rs) lo h =
      let rest = entries_between rs r.offset h.1 in
      let up : lo / 2 ≤ r.offset / 2 = omega (arith, h.0) in
      holds_cond (leb (2 * least) r.offset && eqb (r.offset % 2) 0) _ (entries_from ds s k least rs)
      (λ t. holds_bind (entry_of s r (named ds path_space k r)) _ (entry_hop s r (named ds path_space k r)) (λ e he. holds_bind (entries_from ds s k least rs) _ rest (λ es hs. holds_value (with_entry_lem (lo / 2) (r.offset / 2) 32767 e es he up hs))))
      (λ t. holds_map rest (λ es hs. between_from (λ e. e.in_hop) (lo / 2) (r.offset / 2) 32767 es up hs))

entries_of_lem : (ds : List Description) (s : Site) (a : Adapter) → Offsets 0 a.entries → Holds (λ es. Between (λ e. e.in_hop) 0 32767 es) (entries_of ds s a)
unfolding entries_of entries_by
entries_of_lem ds s a h = by_least (min_hop (kind_of a))
  where
    by_least : (m : Option ℕ) → Holds (λ es. Between (λ e. e.in_hop) 0 32767 es) (entries_by ds s (type_number (kind_of a)) a.entries m)
    by_least None = holds_value (omega arith)
    by_least (Some least) = entries_between ds s (type_number (kind_of a)) least a.entries 0 h

-- ---- rows with keys between bounds

-- the least keys of adapter n of device p
abbrev entry_at : ℕ → ℕ → ℕ
entry_at p n = p * 2 ^ 24 + n * 2 ^ 16

abbrev adapter_at : ℕ → ℕ → ℕ
adapter_at p n = p * 2 ^ 8 + n

record Within (a b c d : ℕ) (x : Rows) : Type 0 where
  entries : Between entry_key a b x.entries
  adapters : Between adapter_key c d x.adapters

within_to : {a b c d : ℕ} {x : Rows} (b' d' : ℕ) → b ≤ b' → d ≤ d' → Within a b c d x → Within a b' c d' x
within_to {a} {b} {c} {d} {x} b' d' l m w = record { entries = between_to entry_key a b b' x.entries l w.entries; adapters = between_to adapter_key c d d' x.adapters m w.adapters }

within_then : {a b c d e f : ℕ} (x y : Outcome Rows) → Holds (Within a b d e) x → Holds (Within b c e f) y → Holds (Within a c d f) (and_then x y)
unfolding and_then joined
within_then {a} {b} {c} {d} {e} {f} x y h k =
    holds_bind x _ h (λ r v. holds_bind y _ k (λ q w. holds_value (record { entries = between_append entry_key a b c r.entries q.entries v.entries w.entries; adapters = between_append adapter_key d e f r.adapters q.adapters v.adapters w.adapters })))

between_owned : (p n lo hi : ℕ) (es : List PathEntry) → Between (λ e. e.in_hop) lo hi es → Between entry_key (entry_at p n + lo) (entry_at p n + hi) (map (owned p n) es)
unfolding owned
between_owned p n lo hi [] h = omega arith
between_owned p n lo hi (e ∷ es) h = (omega (arith, h.0), between_owned p n e.in_hop hi es h.1)

module _ (ds : List Description) (p : ℕ) (usb4 : Bool) where
  decoded : (a : Adapter) → Holds (λ x. (x.device ≡ p) × (x.number ≡ a.number)) (decode_of ds p usb4 a)
  unfolding decode_of row_of
  decoded a = holds_cond (few_registers a) _ _ (λ t. holds_fault _) (λ t. holds_bind (parse_state ds (adapter_site p a.number) a) _ holds_any (λ st z. holds_value (refl, refl)))

  own_within : (n : ℕ) (x : AdapterRow) (es : List PathEntry) → (x.device ≡ p) × (x.number ≡ n) → Between (λ e. e.in_hop) 0 32767 es → Within (entry_at p n) (entry_at p (suc n)) (adapter_at p n) (adapter_at p (suc n)) (own_rows p x es)
  unfolding own_rows
  own_within n x es e h = record {
    entries = subst (λ z. Between entry_key (entry_at p n) (entry_at p (suc n)) (map (owned p z) es)) (sym e.1)
        (between_to entry_key (entry_at p n) (entry_at p n + 32767) (entry_at p (suc n)) (map (owned p n) es) (omega arith)
        (between_from entry_key (entry_at p n) (entry_at p n + 0) (entry_at p n + 32767) (map (owned p n) es) (omega arith) (between_owned p n 0 32767 es h)));
    adapters = (omega (arith, e.0, e.1), omega (arith, e.0, e.1));
  }

  adapter_within : (a : Adapter) → Offsets 0 a.entries → Holds (Within (entry_at p a.number) (entry_at p (suc a.number)) (adapter_at p a.number) (adapter_at p (suc a.number))) (load_adapter ds p usb4 a)
  unfolding load_adapter
  adapter_within a h =
      holds_bind (decode_of ds p usb4 a) _ (decoded a)
      (λ x e. holds_cond (eqb a.paths missing && not x.lane1) _ _ (λ t. holds_fault _)
      (λ t. holds_bind (entries_of ds (adapter_site p a.number) a) _ (entries_of_lem ds (adapter_site p a.number) a h) (λ es k. holds_value (own_within a.number x es e k))))

  adapters_within : (xs : List Adapter) (n most : ℕ) → most ≤ 255 → n ≤ suc most → numbered n most xs ≡ true → Listed xs → Holds (Within (entry_at p n) (entry_at p 256) (adapter_at p n) (adapter_at p 256)) (load_adapters ds p usb4 xs)
  unfolding load_adapters numbered
  adapters_within [] n most s l e h = holds_value (record { entries = omega arith; adapters = omega arith })
  adapters_within (a ∷ xs) n most s l e h =
      let r = and_both (eqb a.number n && ltb n (suc most)) (numbered (suc n) most xs) e in
      let q = and_both (eqb a.number n) (ltb n (suc most)) r.0 in
      within_then (load_adapter ds p usb4 a) (load_adapters ds p usb4 xs)
      (subst (λ z. Holds (Within (entry_at p z) (entry_at p (suc z)) (adapter_at p z) (adapter_at p (suc z))) (load_adapter ds p usb4 a)) (eqb-true a.number n q.0) (adapter_within a h.0))
      (adapters_within xs (suc n) most s (ltb-true n (suc most) q.1) r.1 h.1)

-- numbered from 1 on to at most 255
record Ready (xs : List Adapter) : Type 0 where
  most : ℕ
  small : most ≤ 255
  all : numbered 1 most xs ≡ true

module _ (ds : List Description) (p : ℕ) (d : Device) where
  fits_ready : (xs : List Adapter) → Holds (λ ok. Ready xs) (fits ds p d xs)
  unfolding fits fitting numbered
  fits_ready [] = holds_value (record { most = 0; small = omega arith; all = refl })
  fits_ready (a ∷ xs) = by_register (router_cs1 ds d)
    where
      by_register : (o : Option Named) → Holds (λ ok. Ready (a ∷ xs)) (fitting p (a ∷ xs) o)
      by_register None = holds_fault _
      by_register (Some n) =
          holds_bind _ _ holds_any (λ most z. holds_bind _ _ holds_any (λ up z. holds_cond (numbered 1 (most % 256) (a ∷ xs)) _ _ (λ t. holds_value (record { most = most % 256; small = omega arith; all = t })) (λ t. holds_fault _)))

  device_within : Listed d.adapters → Holds (Within (entry_at p 0) (entry_at p 256) (adapter_at p 0) (adapter_at p 256)) (load_device ds p d)
  unfolding load_device device_rows
  device_within h =
      holds_cond (no_registers d) _ _ (λ t. holds_fault _)
      (λ t. holds_bind (fits ds p d d.adapters) _ (fits_ready d.adapters)
      (λ ok r. within_then (value (device_rows ds p d)) (load_adapters ds p d.usb4 d.adapters)
      (holds_value (record { entries = omega arith; adapters = omega arith }))
      (adapters_within ds p d.usb4 d.adapters 1 r.most r.small (omega arith) r.all h)))

from_within : (ds : List Description) (devices : List Device) (p : ℕ) → Placed devices → Holds (Within (entry_at p 0) (entry_at (p + length devices) 0) (adapter_at p 0) (adapter_at (p + length devices) 0)) (load_from ds p devices)
unfolding load_from
from_within ds [] p h = holds_value (record { entries = omega arith; adapters = omega arith })
from_within ds (d ∷ devices) p h =
    within_then (load_device ds p d) (load_from ds (suc p) devices)
    (holds_map (device_within ds p d h.0) (λ x w. within_to (entry_at (suc p) 0) (adapter_at (suc p) 0) (omega arith) (omega arith) w))
    (holds_map (from_within ds devices (suc p) h.1) (λ x w. within_to (entry_at (p + suc (length devices)) 0) (adapter_at (p + suc (length devices)) 0) (omega arith) (omega arith) w))

loaded_rise : (t s : List ℕ) → Holds (λ x. Rising entry_key x.entries × Rising adapter_key x.adapters) (loaded t s)
unfolding loaded
loaded_rise t s =
    holds_bind (read_descriptions t) _ holds_any
    (λ ds z. holds_bind (read_survey s) _ (survey_placed s)
    (λ devices h. holds_map (from_within ds devices 0 h) (λ x w. (between_rising entry_key _ _ x.entries w.entries, between_rising adapter_key _ _ x.adapters w.adapters))))

-- entries by device, adapter and HopID, adapters by device and number
pub entries_rise : (t s : List ℕ) (x : Rows) → loaded t s ≡ value x → Rising entry_key x.entries
entries_rise t s x e = ((loaded_rise t s).by x e).0

pub adapters_rise : (t s : List ℕ) (x : Rows) → loaded t s ≡ value x → Rising adapter_key x.adapters
adapters_rise t s x e = ((loaded_rise t s).by x e).1
