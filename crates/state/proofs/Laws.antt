-- Laws on an adapter's state and link speed. Assumes nothing.
use Prim.Native.Nat.{ℕ, suc, ◌+◌, ◌*◌, ◌-◌, ◌/◌, ◌%◌, ◌<◌, ◌≤◌}
use native.Mathlib.Omega.{arith}
use native.Mathlib.Numerals.{add-one}
use mathlib.Core.Path.{◌≡◌, refl, sym, ap, ◌∙◌, subst}
use mathlib.Core.Bool.{Bool, true, false, cond, ◌&&◌}
use mathlib.Core.Logic.{◌⊎◌, inl, inr}
use mathlib.Core.List.{List, ◌∷◌}
use Rattle.std.specs.Prelude.{Option, None, Some, Err, Ok, Result}
use lib.Dec.{eqb}
use lib.ListN.{length}
use borrow.Author.Tests.{lt-ltb, le-ltb, eq-eqb, ne_eqb}
use Rattle.refusal.specs.Outcome.{Outcome, refused, value, bind}
use Rattle.refusal.specs.Refusal.{at, refusal_of, fault_outcome, field_at, field_read}
use Rattle.refusal.specs.declared.Site.{Site}
use Rattle.refusal.specs.declared.Fault.TheVariants.{NoField, GenTOffset}
use Rattle.util.specs.Text.{bytes_of}
use Rattle.usb4.specs.Codes.{lane_state_of, speed_of}
use Rattle.usb4.specs.Numbers.{type_number}
use Rattle.usb4.specs.declared.AdapterType.{AdapterType}
use Rattle.usb4.specs.declared.AdapterType.TheVariants as type
use Rattle.usb4.specs.declared.State.{State}
use Rattle.usb4.specs.declared.State.TheVariants as state
use Rattle.usb4.specs.declared.Speed.{Speed}
use Rattle.usb4.specs.declared.Speed.TheVariants as speed
use Rattle.register.specs.Line.{register_of}
use Rattle.register.specs.declared.Register.{Register}
use Rattle.layout.specs.Layout.{word}
use Rattle.layout.specs.Description.{Description, described, descriptions_of}
use Rattle.layout.proofs.Laws.{one_less}
use Rattle.naming.specs.Naming.{naming, place_of}
use Rattle.naming.specs.declared.Sought.{Sought}
use Rattle.metadata.specs.Calls.{flag_in}
use Rattle.metadata.proofs.Named.{named_from, found_at, found_none}
use Rattle.survey.specs.Devices.{register_in}
use Rattle.listing.proofs.Laws.{after_end}
use Rattle.listing.specs.After.{after, listed, register_at, NextRegister}
use Rattle.named.specs.Named.{Named, adapter_space, named, by_name, sited, wanted_field, wanted_flag, named_at, Within, named_in, read_field, read_flag}
use Rattle.named.specs.declared.NamedAt.{NamedAt}
use Rattle.state.specs.State.{by_offset, both_set, enabled_if, by_flag, by_flags, lane_state, port_set, ports, gen_tState, of_kind, state_of, has_speed, speed_in, link_speed}
use Rattle.state.specs.Work.{OffsetAt}
use Rattle.refusal.specs.declared.FieldError.{FieldError}
use Rattle.refusal.specs.declared.FieldError.TheVariants as field

-- the place goes on two flags as on each
pub sited_both : (s : Site) (a b : Outcome Bool) → sited s (both_set a b) ≡ both_set (sited s a) (sited s b)
unfolding sited both_set bind
sited_both s (refused n vs) b = refl
sited_both s (value true) b = refl
sited_both s (value false) b = refl

-- two flags, by what the first is
module _ (a b : Outcome Bool) (r : Result Bool FieldError) (e : field_read r ≡ a) where
  pub both_missing : r ≡ (Err field.NoField) → field_read (Err field.NoField) ≡ both_set a b
  unfolding both_set bind
  both_missing k = ap (λ x. both_set x b) (ap field_read (sym k) ∙ e)

  pub both_clear : r ≡ (Ok false) → field_read (Ok false) ≡ both_set a b
  unfolding both_set bind
  both_clear k = ap (λ x. both_set x b) (ap field_read (sym k) ∙ e)

  pub both_set_lem : r ≡ (Ok true) → (q : Result Bool FieldError) → field_read q ≡ b → field_read q ≡ both_set a b
  unfolding both_set bind
  both_set_lem k q h = h ∙ ap (λ x. both_set x b) (ap field_read (sym k) ∙ e)

-- the state that a flag gives
module _ (s : Site) where
  abbrev enabled : Outcome Bool → Outcome State
  enabled o = bind o (λ b. value (enabled_if b))

  pub enabled_missing : (r : Result Bool FieldError) → r ≡ (Err field.NoField) → fault_outcome (Err (NoField s)) ≡ enabled (sited s (field_read r))
  unfolding refusal_of bind sited
  enabled_missing r k = ap (λ x. enabled (sited s (field_read x))) (sym k)

  pub enabled_clear : (r : Result Bool FieldError) → r ≡ (Ok false) → fault_outcome (Ok state.Disabled) ≡ enabled (sited s (field_read r))
  unfolding enabled_if bind sited
  enabled_clear r k = ap (λ x. enabled (sited s (field_read x))) (sym k)

  pub enabled_set : (r : Result Bool FieldError) → r ≡ (Ok true) → fault_outcome (Ok state.Enabled) ≡ enabled (sited s (field_read r))
  unfolding enabled_if bind sited
  enabled_set r k = ap (λ x. enabled (sited s (field_read x))) (sym k)

-- flags of a register with its description
its_flag : (s : Site) (n : Named) (r : Result Bool FieldError) (name : List ℕ) → field_read r ≡ read_flag n name → sited s (field_read r) ≡ wanted_flag s n.register (Some n.description) name
unfolding wanted_flag
its_flag s n r name h = ap (sited s) h

its_flags : (s : Site) (n : Named) (r : Result Bool FieldError) (first second : List ℕ) → field_read r ≡ both_set (read_flag n first) (read_flag n second)
    → sited s (field_read r) ≡ both_set (wanted_flag s n.register (Some n.description) first) (wanted_flag s n.register (Some n.description) second)
unfolding wanted_flag
its_flags s n r first second h = ap (sited s) h ∙ sited_both s _ _

-- by a register that is found by name, or isn't
module _ (t v : List ℕ) (f : Option NamedAt) (n : Option Named) (e : named_at t v f ≡ n) where
  abbrev found : NamedAt → Named
  found a = record { register = register_at v a.register; description = described t a.group }

  no_name : f ≡ None → None ≡ n
  unfolding named_at
  no_name k = sym (ap (named_at t v) k) ∙ e

  has_name : (a : NamedAt) → f ≡ Some a → Some (found a) ≡ n
  unfolding named_at
  has_name a k = sym (ap (named_at t v) k) ∙ e

  pub flag_nowhere : (s : Site) (name : List ℕ) → f ≡ None → value state.Unknown ≡ by_flag s name n
  unfolding by_flag
  flag_nowhere s name k = ap (by_flag s name) (no_name k)

  pub flags_nowhere : (s : Site) (first second : List ℕ) → f ≡ None → value state.Unknown ≡ by_flags s first second n
  unfolding by_flags
  flags_nowhere s first second k = ap (by_flags s first second) (no_name k)

  pub lane_nowhere : (s : Site) → f ≡ None → value state.Unknown ≡ lane_state s n
  unfolding lane_state
  lane_nowhere s k = ap (lane_state s) (no_name k)

  pub gen_t_nowhere : (ds : List Description) (s : Site) (kind : ℕ) (rs : List Register) → f ≡ None → value state.Unknown ≡ gen_tState ds s kind rs n
  unfolding gen_tState
  gen_t_nowhere ds s kind rs k = ap (gen_tState ds s kind rs) (no_name k)

  pub speed_nowhere : (s : Site) → f ≡ None → field_at s (Ok speed.Unknown) ≡ speed_in s n
  unfolding speed_in
  speed_nowhere s k = ap (speed_in s) (no_name k)

  module _ (a : NamedAt) (k : f ≡ Some a) (s : Site) where
    module _ (r : Result Bool FieldError) where
      pub flag_at : (name : List ℕ) → field_read r ≡ read_flag (found a) name → bind (sited s (field_read r)) (λ b. value (enabled_if b)) ≡ by_flag s name n
      unfolding by_flag
      flag_at name h = ap (enabled s) (its_flag s (found a) r name h) ∙ ap (by_flag s name) (has_name a k)

      pub flags_at : (first second : List ℕ) → field_read r ≡ both_set (read_flag (found a) first) (read_flag (found a) second) → bind (sited s (field_read r)) (λ b. value (enabled_if b)) ≡ by_flags s first second n
      unfolding by_flags
      flags_at first second h = ap (enabled s) (its_flags s (found a) r first second h) ∙ ap (by_flags s first second) (has_name a k)

    -- a field of it is missing, or has a value
    module _ (r : Result ℕ FieldError) where
      its_value : (name : List ℕ) → field_read r ≡ read_field (found a) name → (x : ℕ) → r ≡ Ok x → value x ≡ wanted_field s (found a) name
      unfolding sited wanted_field
      its_value name h x m = ap (λ z. sited s (field_read z)) (sym m) ∙ ap (sited s) h

      its_lack : (name : List ℕ) → field_read r ≡ read_field (found a) name → r ≡ (Err field.NoField) → refused 6 (at s) ≡ wanted_field s (found a) name
      unfolding sited wanted_field
      its_lack name h m = ap (λ z. sited s (field_read z)) (sym m) ∙ ap (sited s) h

      module _ (h : field_read r ≡ read_field (found a) (bytes_of "Adapter State")) where
        pub lane_lacks : r ≡ (Err field.NoField) → fault_outcome (Err (NoField s)) ≡ lane_state s n
        unfolding refusal_of lane_state bind
        lane_lacks m = ap (λ o. bind o (λ x. value (lane_state_of x))) (its_lack _ h m) ∙ ap (lane_state s) (has_name a k)

        pub lane_has : (x : ℕ) → r ≡ Ok x → (c : State) → c ≡ lane_state_of x → fault_outcome (Ok c) ≡ lane_state s n
        unfolding lane_state bind
        lane_has x m c q = ap value q ∙ ap (λ o. bind o (λ x. value (lane_state_of x))) (its_value _ h x m) ∙ ap (lane_state s) (has_name a k)

      module _ (h : field_read r ≡ read_field (found a) (bytes_of "Gen T Port Count")) (ds : List Description) (kind : ℕ) (rs : List Register) where
        pub gen_t_lacks : r ≡ (Err field.NoField) → fault_outcome (Err (NoField s)) ≡ gen_tState ds s kind rs n
        unfolding refusal_of gen_tState bind
        gen_t_lacks m = ap (λ o. bind o (λ c. ports ds s kind rs (register_at v a.register).offset 0 (c % 65536))) (its_lack _ h m) ∙ ap (gen_tState ds s kind rs) (has_name a k)

        pub gen_t_has : (x : ℕ) → r ≡ Ok x → (head : ℕ) → head ≡ word v a.register → ports ds s kind rs (head % 65536) 0 (x % 65536) ≡ gen_tState ds s kind rs n
        unfolding gen_tState bind register_at register_in register_of
        gen_t_has x m head q =
            ap (λ z. ports ds s kind rs (z % 65536) 0 (x % 65536)) q
            ∙ ap (λ o. bind o (λ c. ports ds s kind rs (register_at v a.register).offset 0 (c % 65536))) (its_value _ h x m)
            ∙ ap (gen_tState ds s kind rs) (has_name a k)

      module _ (h : field_read r ≡ read_field (found a) (bytes_of "Current Link Speed")) where
        pub speed_lacks : r ≡ (Err field.NoField) → field_at s (Err field.NoField) ≡ speed_in s n
        unfolding refusal_of speed_in bind
        speed_lacks m = ap (λ o. bind o (λ x. value (speed_of x))) (its_lack _ h m) ∙ ap (speed_in s) (has_name a k)

        pub speed_has : (x : ℕ) → r ≡ Ok x → (c : Speed) → c ≡ speed_of x → field_at s (Ok c) ≡ speed_in s n
        unfolding speed_in bind
        speed_has x m c q = ap value q ∙ ap (λ o. bind o (λ x. value (speed_of x))) (its_value _ h x m) ∙ ap (speed_in s) (has_name a k)

-- the words of a register that is found are there
pub found_within : (n : ℕ) (f : Option NamedAt) (i g : ℕ) → Within n f → f ≡ named_in i g → i + 4 ≤ n
unfolding Within
found_within n f i g h k = subst (Within n) k h

-- the search for an offset, at place i
pub record Seeking (t : List ℕ) (from o i : ℕ) : Type 0 where
  pub within : i ≤ length t
  pub room : i < length t → i + 4 ≤ length t
  pub here : i < length t → (after t i).registers ≡ register_at t i ∷ (after t (i + 4)).registers
  pub same : by_offset o (after t from).registers ≡ by_offset o (after t i).registers

module _ (t : List ℕ) (from o i : ℕ) where
  pub seek_first : NextRegister t false from i → Seeking t from o i
  unfolding listed
  seek_first h = record { within = h.within; room = λ l. (h.room l).1; here = h.here; same = ap (by_offset o) h.same }

  module _ (h : Seeking t from o i) where
    pub seek_here : i < length t → word t i % 65536 ≡ o → OffsetAt t from o i
    unfolding by_offset register_at register_in register_of
    seek_here l e = record { room = h.room; found = h.same ∙ ap (by_offset o) (h.here l) ∙ simp (eq-eqb _ _ e, lt-ltb i (length t) l) }

    pub seek_on : i < length t → (word t i % 65536 ≡ o → ⊥) → (j : ℕ) → NextRegister t false (i + 4) j → Seeking t from o j
    unfolding by_offset register_at register_in register_of listed
    seek_on l e j n = record {
      within = n.within;
      room = λ k. (n.room k).1;
      here = n.here;
      same = h.same ∙ ap (by_offset o) (h.here l) ∙ ap (λ b. cond b (Some (register_at t i)) (by_offset o (after t (i + 4)).registers)) (ne_eqb _ _ e) ∙ ap (by_offset o) n.same;
    }

    pub seek_end : length t ≤ i → OffsetAt t from o (length t)
    unfolding by_offset
    seek_end l = record {
      room = λ k. absurd (omega arith);
      found = h.same ∙ ap (λ x. by_offset o x.registers) (after_end t i l) ∙ simp (le-ltb (length t) (length t) (omega arith));
    }

-- one Gen T port
module _ (t v : List ℕ) (from o i k : ℕ) (s : Site) (h : OffsetAt v from o i) where
  abbrev port : Outcome Bool
  port = port_set (descriptions_of t) s k (after v from).registers (by_offset o (after v from).registers)

  pub port_absent : length v ≤ i → sited s (field_read (Ok false)) ≡ port
  unfolding sited port_set
  port_absent l = sym (ap (port_set (descriptions_of t) s k (after v from).registers) (h.found ∙ ap (λ b. cond b (Some (register_at v i)) None) (le-ltb i (length v) l)))

  -- ids and vs are the register's words
  module _ (l : i < length v) (ids vs : ℕ) (ei : ids ≡ word v (i + 1)) (ev : vs ≡ word v (i + 2)) where
    abbrev sought : ℕ → ℕ → Sought
    sought a b = record { space = 1; kind = k; offset = a / 65536 % 65536; cap = a % 65536; vs = b }

    there : port_set (descriptions_of t) s k (after v from).registers (Some (register_at v i)) ≡ port
    there = sym (ap (port_set (descriptions_of t) s k (after v from).registers) (h.found ∙ ap (λ b. cond b (Some (register_at v i)) None) (lt-ltb i (length v) l)))

    is_named : naming (sought ids vs) (descriptions_of t) ≡ named (descriptions_of t) adapter_space k (register_at v i)
    unfolding named register_at register_in register_of
    is_named = ap (λ a. naming (sought a vs) (descriptions_of t)) ei ∙ ap (λ b. naming (sought (word v (i + 1)) b) (descriptions_of t)) ev

    abbrev by_description : Option Description → Outcome Bool
    by_description d = both_set (wanted_flag s (register_at v i) d (bytes_of "PE")) (wanted_flag s (register_at v i) d (bytes_of "V"))

    by_named : (d : Option Description) → naming (sought ids vs) (descriptions_of t) ≡ d → by_description d ≡ port
    unfolding port_set
    by_named d e = ap (λ x. by_description x) (sym e ∙ is_named) ∙ there

    module _ (f : Option ℕ) (e : f ≡ place_of (naming (sought ids vs) (descriptions_of t))) where
      pub port_nameless : f ≡ None → sited s (field_read (Err field.NoField)) ≡ port
      unfolding sited both_set bind wanted_flag flag_in
      port_nameless m = by_named None (found_none f _ e m)

      group_named : (g : ℕ) → f ≡ Some g → naming (sought ids vs) (descriptions_of t) ≡ Some (described t g)
      group_named g m = go (found_at f _ e g m)
        where
          go : (d : Description) × (naming (sought ids vs) (descriptions_of t) ≡ Some d) × (d.place ≡ g) → naming (sought ids vs) (descriptions_of t) ≡ Some (described t g)
          go (d, q, p) = q ∙ ap Some ((named_from t (sought ids vs) d q).is ∙ ap (described t) p)

      abbrev port_by : ℕ → Named
      port_by g = record { register = register_at v i; description = described t g }

      pub port_named : (g : ℕ) → f ≡ Some g → (r : Result Bool FieldError) → field_read r ≡ both_set (read_flag (port_by g) (bytes_of "PE")) (read_flag (port_by g) (bytes_of "V")) → sited s (field_read r) ≡ port
      port_named g m r q = its_flags s (port_by g) r _ _ q ∙ by_named _ (group_named g m)

-- all ports
pub ports_all : (ds : List Description) (s : Site) (k : ℕ) (rs : List Register) (cap count : ℕ) → ports ds s k rs cap 0 (count - 0) ≡ ports ds s k rs cap 0 count
ports_all ds s k rs cap count = let e : count - 0 ≡ count = omega arith in ap (ports ds s k rs cap 0) e

-- the ports from p on, count of them in all
module _ (ds : List Description) (s : Site) (k : ℕ) (rs : List Register) (cap p count : ℕ) where
  abbrev left : Outcome State
  left = ports ds s k rs cap p (count - p)

  abbrev one_port : Outcome Bool
  one_port = port_set ds s k rs (by_offset (cap + 3 + 2 * p) rs)

  pub ports_end : count ≤ p → fault_outcome (Ok state.Disabled) ≡ left
  unfolding ports
  ports_end l = let e : 0 ≡ count - p = omega arith in ap (ports ds s k rs cap p) e

  module _ (l : p < count) where
    more : ports ds s k rs cap p (suc (count - (p + 1))) ≡ left
    more = ap (ports ds s k rs cap p) (sym (one_less p count l))

    pub ports_past : 65535 < cap + 3 + 2 * p → fault_outcome (Err (GenTOffset s)) ≡ left
    unfolding ports
    ports_past h = sym (simp (lt-ltb 65535 (cap + 3 + 2 * p) h)) ∙ more

    module _ (h : cap + 3 + 2 * p ≤ 65535) (r : Result Bool FieldError) (e : sited s (field_read r) ≡ one_port) where
      abbrev by_port : Outcome Bool → Outcome State
      by_port o = bind o (λ b. cond b (value state.Enabled) (ports ds s k rs cap (suc p) (count - (p + 1))))

      by_flag_lem : by_port (sited s (field_read r)) ≡ left
      unfolding ports
      by_flag_lem = ap (λ o. by_port o) e ∙ sym (ap (λ b. cond b (refusal_of (GenTOffset s)) (by_port one_port)) (le-ltb 65535 (cap + 3 + 2 * p) h)) ∙ more

      pub ports_missing : r ≡ (Err field.NoField) → fault_outcome (Err (NoField s)) ≡ left
      unfolding refusal_of bind sited
      ports_missing m = ap (λ x. by_port (sited s (field_read x))) (sym m) ∙ by_flag_lem

      pub ports_set : r ≡ (Ok true) → fault_outcome (Ok state.Enabled) ≡ left
      unfolding bind sited
      ports_set m = ap (λ x. by_port (sited s (field_read x))) (sym m) ∙ by_flag_lem

      pub ports_clear : r ≡ (Ok false) → left ≡ ports ds s k rs cap (p + 1) (count - (p + 1))
      unfolding bind sited
      ports_clear m = sym (ap (λ x. by_port (sited s (field_read x))) (sym m) ∙ by_flag_lem) ∙ ap (λ x. ports ds s k rs cap x (count - (p + 1))) (sym (add-one p))

-- in other states than these a lane has none
pub no_speed : (st : State) → (st ≡ state.Cl0 → ⊥) → (st ≡ state.Cl0sTx → ⊥) → (st ≡ state.Cl0sRx → ⊥) → (st ≡ state.Cl1 → ⊥) → (st ≡ state.Cl2 → ⊥) → false ≡ has_speed st
unfolding has_speed
no_speed state.Unknown a b c d e = refl
no_speed state.Disabled a b c d e = refl
no_speed state.Enabled a b c d e = refl
no_speed state.Training a b c d e = refl
no_speed state.Cl0 a b c d e = absurd (a refl)
no_speed state.Cl0sTx a b c d e = absurd (b refl)
no_speed state.Cl0sRx a b c d e = absurd (c refl)
no_speed state.Cl1 a b c d e = absurd (d refl)
no_speed state.Cl2 a b c d e = absurd (e refl)
no_speed state.Cld a b c d e = refl

-- a speed, by kind, state and register
module _ (ds : List Description) (k : AdapterType) (st : State) (rs : List Register) (s : Site) where
  abbrev speed_by_lem : Bool → Bool → Outcome Speed
  speed_by_lem lane has = cond (lane && has) (speed_in s (by_name ds adapter_space (type_number k) (bytes_of "LANE_ADP_CS_1") rs)) (value speed.Unknown)

  pub speed_kind : eqb (type_number k) 2 ≡ false → field_at s (Ok speed.Unknown) ≡ link_speed ds s k st rs
  unfolding link_speed of_kind
  speed_kind n = sym (ap (λ b. speed_by_lem b (has_speed st)) n)

  module _ (lane : eqb (type_number k) 2 ≡ true) where
    by_state : (b : Bool) → has_speed st ≡ b → speed_by_lem true b ≡ link_speed ds s k st rs
    unfolding link_speed of_kind
    by_state b h = ap (λ x. speed_by_lem true x) (sym h) ∙ sym (ap (λ x. speed_by_lem x (has_speed st)) lane)

    pub speed_state : has_speed st ≡ false → field_at s (Ok speed.Unknown) ≡ link_speed ds s k st rs
    speed_state h = by_state false h

    pub speed_register : has_speed st ≡ true → speed_in s (by_name ds adapter_space (type_number k) (bytes_of "LANE_ADP_CS_1") rs) ≡ link_speed ds s k st rs
    speed_register h = by_state true h

-- the state of an adapter whose kind is known, or is one of two
module _ (ds : List Description) (s : Site) (k : AdapterType) (rs : List Register) where
  pub state_is : (known : AdapterType) → k ≡ known → (o : Outcome State) → o ≡ state_of ds s known rs → o ≡ state_of ds s k rs
  state_is known e o h = h ∙ ap (λ x. state_of ds s x rs) (sym e)

  pub no_state : (k ≡ type.Unknown) ⊎ (k ≡ type.Inactive) → value state.Unknown ≡ state_of ds s k rs
  unfolding state_of
  no_state (inl e) = rw e refl
  no_state (inr e) = rw e refl

  pub a_lane_state : k ≡ type.Lane → lane_state s (by_name ds adapter_space (type_number k) (bytes_of "LANE_ADP_CS_1") rs) ≡ state_of ds s k rs
  unfolding state_of of_kind
  a_lane_state e = rw e refl

  pub display_port_state : (k ≡ type.DisplayPortIn) ⊎ (k ≡ type.DisplayPortOut) → by_flags s (bytes_of "VE") (bytes_of "AE") (by_name ds adapter_space (type_number k) (bytes_of "ADP_DP_CS_0") rs) ≡ state_of ds s k rs
  unfolding state_of of_kind
  display_port_state (inl e) = rw e refl
  display_port_state (inr e) = rw e refl

  pub pcie_state : (k ≡ type.PcieDown) ⊎ (k ≡ type.PcieUp) → by_flag s (bytes_of "PE") (by_name ds adapter_space (type_number k) (bytes_of "ADP_PCIE_CS_0") rs) ≡ state_of ds s k rs
  unfolding state_of of_kind
  pcie_state (inl e) = rw e refl
  pcie_state (inr e) = rw e refl

  pub usb3_state : (k ≡ type.Usb3Down) ⊎ (k ≡ type.Usb3Up) → by_flags s (bytes_of "PE") (bytes_of "V") (by_name ds adapter_space (type_number k) (bytes_of "ADP_USB3_GX_CS_0") rs) ≡ state_of ds s k rs
  unfolding state_of of_kind
  usb3_state (inl e) = rw e refl
  usb3_state (inr e) = rw e refl

  pub gen_t_state : (k ≡ type.Usb3GenTDown) ⊎ (k ≡ type.Usb3GenTUp) → gen_tState ds s (type_number k) rs (by_name ds adapter_space (type_number k) (bytes_of "ADP_USB3_GT_CS_0") rs) ≡ state_of ds s k rs
  unfolding state_of of_kind
  gen_t_state (inl e) = rw e refl
  gen_t_state (inr e) = rw e refl
