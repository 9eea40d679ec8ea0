-- Laws of adapters: what their registers, their kind and their lanes come to. Assumes nothing.
use Prim.Native.Nat.{ℕ, suc, ◌+◌, ◌/◌, ◌%◌, ◌≤◌, ◌<◌}
use mathlib.Core.Path.{◌≡◌, refl, sym, ap, ◌∙◌, subst}
use mathlib.Core.List.{List, [], ◌∷◌}
use mathlib.Core.Bool.{Bool, true, false, cond, not, ◌&&◌, ◌||◌}
use Rattle.std.specs.Prelude.{Option, None, Some, Err, Ok, Result, is_some}
use native.Mathlib.Omega.{arith}
use native.Mathlib.Decide.{dec_lt}
use native.Mathlib.Numerals.{add-one}
use lib.Dec.{ltb, leb, eqb}
use lib.ListN.{length, get_or-eq_default}
use borrow.Author.Tests.{lt-ltb, le-ltb, le-leb, lt-leb, eq-eqb, ne_eqb}
use Rattle.refusal.proofs.Laws.{fault_bind}
use Rattle.refusal.specs.Outcome.{value, bind}
use Rattle.refusal.specs.Refusal.{refusal_of, fault_outcome, field_at, field_read}
use Rattle.refusal.specs.declared.Site.{Site}
use Rattle.refusal.specs.declared.Fault.{Fault}
use Rattle.refusal.specs.declared.Fault.TheVariants.{FewRegisters}
use Rattle.util.specs.Bits.{bits_of}
use Rattle.util.specs.Text.{bytes_of}
use denote.Enum.Bare.{sameb}
use Rattle.usb4.proofs.Laws as usb4
use Rattle.usb4.specs.contracts.AdapterType.{the_type}
use Rattle.usb4.specs.Codes.{type_of}
use Rattle.usb4.specs.declared.AdapterType.{AdapterType}
use Rattle.usb4.specs.declared.AdapterType.TheVariants as type
use Rattle.usb4.specs.declared.State.{State}
use Rattle.layout.specs.Layout.{word}
use Rattle.layout.specs.Description.{Description, described}
use Rattle.register.specs.Line.{register_of}
use Rattle.register.specs.declared.Register.{Register}
use Rattle.survey.specs.Devices.{Adapter, register_in}
use Rattle.listing.specs.After.{after, listed, register_at, adapter_at, NextRegister}
use Rattle.listing.proofs.Laws.{after_end, register_end}
use Rattle.named.specs.Named.{Named, sited, wanted_field, named_at, read_field}
use Rattle.named.specs.declared.NamedAt.{NamedAt}
use Rattle.state.specs.State.{state_of, link_speed}
use Rattle.adapter.specs.Adapter.{third_value, kind_of, registers_of, indices_from, last_of, between, find_cap, is_lane, cap_usb4, is_lane0, lane0_of, lane1_of, narrow, max_hop_in, max_hop, parse_state, AdapterRow, adapter_site, few_registers, row_of, decode_of, facts_row, decoded_outcome}
use Rattle.adapter.specs.declared.Part.{Part}
use Rattle.adapter.specs.Work.{ThirdOf, KindIs, row_by}
use Rattle.adapter.specs.declared.Facts.{Facts}
use Rattle.usb4.specs.declared.Speed.{Speed}
use Rattle.refusal.specs.declared.FieldError.{FieldError}
use Rattle.refusal.specs.declared.FieldError.TheVariants as field

-- the registers from i on, by the first of them
module _ (t : List ℕ) (i r : ℕ) (n : NextRegister t false i r) where
  first_of : r < length t → (after t i).registers ≡ register_at t r ∷ (after t (r + 4)).registers
  unfolding listed
  first_of l = n.same ∙ n.here l

  none_of : length t ≤ r → (after t i).registers ≡ []
  unfolding listed
  none_of l = register_end t false i r n l

-- the third register, by the three places
module _ (t : List ℕ) (from a : ℕ) (na : NextRegister t false from a) where
  pub third_none : length t ≤ a → ThirdOf (after t from).registers None
  unfolding ThirdOf
  third_none l = omega (arith, ap length (none_of t from a na l))

  module _ (la : a < length t) (b : ℕ) (nb : NextRegister t false (a + 4) b) where
    pub third_one : length t ≤ b → ThirdOf (after t from).registers None
    unfolding ThirdOf
    third_one l = omega (arith, ap length (first_of t from a na la ∙ ap (λ rs. register_at t a ∷ rs) (none_of t (a + 4) b nb l)))

    module _ (lb : b < length t) (c : ℕ) (nc : NextRegister t false (b + 4) c) where
      two : (after t from).registers ≡ register_at t a ∷ register_at t b ∷ (after t (b + 4)).registers
      two = first_of t from a na la ∙ ap (λ rs. register_at t a ∷ rs) (first_of t (a + 4) b nb lb)

      pub third_two : length t ≤ c → ThirdOf (after t from).registers None
      unfolding ThirdOf
      third_two l = omega (arith, ap length (two ∙ ap (λ rs. register_at t a ∷ register_at t b ∷ rs) (none_of t (b + 4) c nc l)))

      pub third_is : c < length t → (v : ℕ) → v ≡ word t (c + 3) → ThirdOf (after t from).registers (Some v)
      unfolding ThirdOf third_value register_at register_in register_of
      third_is l v e =
          let k = two ∙ ap (λ rs. register_at t a ∷ register_at t b ∷ rs) (first_of t (b + 4) c nc l) in
          (omega (arith, ap length k), e ∙ sym (ap third_value k))

-- an adapter's mark that its registers were read
module _ (t : List ℕ) (i w : ℕ) (e : w ≡ word t i) where
  pub number_is : w % 256 ≡ (adapter_at t i).number
  unfolding adapter_at
  number_is = ap (λ z. z % 256) e

  pub head_there : (w / 256 % 2 ≡ 0 → ⊥) → i < length t
  head_there n = go (dec_lt i (length t))
    where
      go : Dec (i < length t) → i < length t
      go (yes h) = h
      go (no h) = let z : w ≡ 0 = e ∙ get_or-eq_default t 0 {n = i} (omega arith) in absurd (n (ap (λ x. x / 256 % 2) z))

  pub not_read : w / 256 % 2 ≡ 0 → (adapter_at t i).read ≡ false
  unfolding adapter_at
  not_read k = ap (λ z. eqb (z / 256 % 2) 1) (sym e) ∙ ap (λ z. eqb z 1) k

  pub was_read : (w / 256 % 2 ≡ 0 → ⊥) → (adapter_at t i).read ≡ true
  unfolding adapter_at
  was_read n = ap (λ z. eqb (z / 256 % 2) 1) (sym e) ∙ eq-eqb (w / 256 % 2) 1 (omega arith)

  pub from_end : w / 256 % 2 ≡ 0 → (after t (length t)).registers ≡ registers_of (adapter_at t i)
  unfolding registers_of
  from_end k = ap (λ g. g.registers) (after_end t (length t) (omega arith)) ∙ sym (ap (λ b. cond b (adapter_at t i).registers []) (not_read k))

  pub from_head : (w / 256 % 2 ≡ 0 → ⊥) → (after t (i + 1)).registers ≡ registers_of (adapter_at t i)
  unfolding registers_of adapter_at
  from_head n = sym (ap (λ b. cond b (after t (i + 1)).registers []) (was_read n))

-- an adapter's kind
module _ (a : Adapter) where
  pub kind_unread : a.read ≡ false → KindIs a (Some type.Inactive)
  unfolding KindIs few_registers kind_of
  kind_unread e = (ap (λ b. b && ltb (length a.registers) 3) e, sym (ap (λ b. cond b (type_of (bits_of (third_value a.registers) 0 23)) type.Inactive) e))

  kind_few : a.read ≡ true → ThirdOf a.registers None → KindIs a None
  unfolding KindIs few_registers ThirdOf
  kind_few e l = ap (λ b. b && ltb (length a.registers) 3) e ∙ lt-ltb (length a.registers) 3 l

  kind_is : a.read ≡ true → (v : ℕ) → ThirdOf a.registers (Some v) → KindIs a (Some (type_of (bits_of v 0 23)))
  unfolding KindIs few_registers kind_of ThirdOf
  kind_is e v h = (
    ap (λ x. x && ltb (length a.registers) 3) e ∙ le-ltb (length a.registers) 3 h.0,
    ap (λ z. type_of (bits_of z 0 23)) h.1 ∙ sym (ap (λ x. cond x (type_of (bits_of (third_value a.registers) 0 23)) type.Inactive) e),
  )

module _ (t : List ℕ) (i w : ℕ) (e : w ≡ word t i) (n : w / 256 % 2 ≡ 0 → ⊥) (f : Option ℕ) (h : ThirdOf (after t (i + 1)).registers f) where
  pub head_few : f ≡ None → KindIs (adapter_at t i) None
  unfolding adapter_at
  head_few k = kind_few (adapter_at t i) (was_read t i w e n) (subst (λ z. ThirdOf (after t (i + 1)).registers z) k h)

  pub head_kind : (v : ℕ) → f ≡ Some v → (b : ℕ) → b ≡ bits_of v 0 23 → (k : AdapterType) → k ≡ type_of b → KindIs (adapter_at t i) (Some k)
  unfolding adapter_at
  head_kind v m b q k z =
      subst (λ x. KindIs (adapter_at t i) (Some x)) (sym (z ∙ ap type_of q))
      (kind_is (adapter_at t i) (was_read t i w e n) v (subst (λ x. ThirdOf (after t (i + 1)).registers x) m h))

-- capability parts: the first match so far (0 for none), the last so far, and the matches to come
unfoldable pub part_to : ℕ → ℕ → Option Part
part_to start end = cond (leb end start) None (Some (record { start = start; end = end }))

unfoldable pub resume : ℕ → ℕ → List ℕ → Option Part
resume start end is = cond (ltb start 1) (between is) (part_to start (last_of end is))

last_least : (cap n i d : ℕ) (rs : List Register) → n ≤ i → n ≤ d → n ≤ last_of d (indices_from cap i rs)
unfolding last_of indices_from
last_least cap n i d [] a b = b
last_least cap n i d (r ∷ rs) a b = go (eqb r.cap_id cap) (last_least cap n (suc i) i rs (omega arith) a) (last_least cap n (suc i) d rs (omega arith) b)
  where
    go : (z : Bool) → n ≤ last_of i (indices_from cap (suc i) rs) → n ≤ last_of d (indices_from cap (suc i) rs) → n ≤ last_of d (cond z (i ∷ indices_from cap (suc i) rs) (indices_from cap (suc i) rs))
    go true h k = h
    go false h k = k

part_none : (s e : ℕ) → e ≤ s → part_to s e ≡ None
unfolding part_to
part_none s e l = simp (le-leb e s l)

part_some : (s e : ℕ) → s < e → part_to s e ≡ Some (record { start = s; end = e })
unfolding part_to
part_some s e l = simp (lt-leb e s l)

-- from the first match, at i, up to the last of those that come later
between_last : (i : ℕ) (is : List ℕ) → ((d : ℕ) → suc i ≤ d → suc i ≤ last_of d is) → between (i ∷ is) ≡ part_to i (last_of i is)
unfolding between last_of
between_last i [] h = sym (part_none i i (omega arith))
between_last i (j ∷ is) h = sym (part_some i (last_of j is) (h (suc i) (omega arith)))

resume_none : (s e : ℕ) → e ≤ s → resume s e [] ≡ None
unfolding resume between last_of
resume_none s e l = go (ltb s 1)
  where
    go : (b : Bool) → cond b None (part_to s e) ≡ None
    go true = refl
    go false = part_none s e l

resume_part : (s e : ℕ) → 1 ≤ s → s < e → resume s e [] ≡ Some (record { start = s; end = e })
unfolding resume last_of
resume_part s e h l = ap (λ b. cond b (between []) (part_to s e)) (le-ltb s 1 h) ∙ part_some s e l

-- a match: the first, or one more
resume_first : (cap s e i : ℕ) (rs : List Register) → s < 1 → 1 ≤ i → resume s e (i ∷ indices_from cap (i + 1) rs) ≡ resume i i (indices_from cap (i + 1) rs)
unfolding resume
resume_first cap s e i rs h k =
    let is = indices_from cap (i + 1) rs in
    ap (λ b. cond b (between (i ∷ is)) (part_to s (last_of e (i ∷ is)))) (lt-ltb s 1 h)
    ∙ between_last i is (λ d m. last_least cap (suc i) (i + 1) d rs (omega arith) m)
    ∙ sym (ap (λ b. cond b (between is) (part_to i (last_of i is))) (le-ltb i 1 k))

resume_again : (s e i : ℕ) (is : List ℕ) → 1 ≤ s → resume s e (i ∷ is) ≡ resume s i is
unfolding resume last_of
resume_again s e i is h =
    ap (λ b. cond b (between (i ∷ is)) (part_to s (last_of i is))) (le-ltb s 1 h)
    ∙ sym (ap (λ b. cond b (between is) (part_to s (last_of i is))) (le-ltb s 1 h))

pub cap_none : (t : List ℕ) (cap from a : ℕ) → NextRegister t false from a → length t ≤ a → None ≡ find_cap cap (after t from).registers
unfolding find_cap
cap_none t cap from a n l = sym (ap (λ z. find_cap cap z) (none_of t from a n l))

-- the loop of find_cap: the registers rs, of which those before index have been looked at
module _ (t : List ℕ) (cap : ℕ) (rs : List Register) where
  pub record Seeking (i index start end : ℕ) : Type 0 where
    pub from : ℕ
    pub next : NextRegister t false from i
    pub first : 1 ≤ index
    pub count : index ≤ i
    pub last : start < 1 → end < 1
    pub so_far : find_cap cap rs ≡ resume start end (indices_from cap index (after t i).registers)

  -- an index more, a place further
  further : (i r k : ℕ) → NextRegister t false (i + 4) r → i < length t → k ≤ i → k + 1 ≤ r
  further i r k n l h = go (dec_lt r (length t))
    where
      go : Dec (r < length t) → k + 1 ≤ r
      go (yes m) = omega (arith, n.room m)
      go (no m) = omega arith

  pub seek_start : (from a : ℕ) → rs ≡ (after t from).registers → NextRegister t false from a → a < length t → (i : ℕ) → NextRegister t false (a + 4) i → Seeking i 1 0 0
  unfolding find_cap resume listed
  seek_start from a e na l i n = record {
    from = a + 4;
    next = n;
    first = omega arith;
    count = further a i 0 n l (omega arith);
    last = λ h. omega arith;
    so_far = ap (λ z. find_cap cap z) (e ∙ first_of t from a na l) ∙ ap (λ z. between (indices_from cap 1 z)) n.same;
  }

  module _ (i index start end : ℕ) (h : Seeking i index start end) where
    at_end : length t ≤ i → find_cap cap rs ≡ resume start end []
    unfolding indices_from
    at_end l = h.so_far ∙ ap (λ g. resume start end (indices_from cap index g.registers)) (after_end t i l)

    pub seek_none : length t ≤ i → end ≤ start → None ≡ find_cap cap rs
    seek_none l k = sym (at_end l ∙ resume_none start end k)

    pub seek_part : length t ≤ i → start < end → (Some (record { start = start; end = end })) ≡ find_cap cap rs
    seek_part l k = sym (at_end l ∙ resume_part start end (go (dec_lt start 1)) k)
      where
        go : Dec (start < 1) → 1 ≤ start
        go (yes m) = absurd (omega (arith, h.last m))
        go (no m) = omega arith

    module _ (l : i < length t) (w : ℕ) (e : w ≡ word t (i + 1)) (j : ℕ) (n : NextRegister t false (i + 4) j) where
      abbrev later : List ℕ
      later = indices_from cap (index + 1) (after t j).registers

      here_or_not : (b : Bool) → eqb (w % 65536) cap ≡ b → indices_from cap index (after t i).registers ≡ cond b (index ∷ later) later
      unfolding indices_from listed register_at register_in register_of
      here_or_not b q =
          let r = (after t j).registers in
          ap (λ z. indices_from cap index z) (h.next.here l ∙ ap (λ z. register_at t i ∷ z) n.same)
          ∙ ap (λ z. cond (eqb (z % 65536) cap) (index ∷ indices_from cap (suc index) r) (indices_from cap (suc index) r)) (sym e)
          ∙ ap (λ b. cond b (index ∷ indices_from cap (suc index) r) (indices_from cap (suc index) r)) q
          ∙ ap (λ m. cond b (index ∷ indices_from cap m r) (indices_from cap m r)) (sym (add-one index))

      turn : (b : Bool) → eqb (w % 65536) cap ≡ b → find_cap cap rs ≡ resume start end (cond b (index ∷ later) later)
      turn b q = h.so_far ∙ ap (λ z. resume start end z) (here_or_not b q)

      onward : (s z x y : ℕ) → x ≡ s → y ≡ z → (s < 1 → z < 1) → find_cap cap rs ≡ resume s z later → Seeking j (index + 1) x y
      onward s z x y ex ey m q = rw (ex, ey) (record { from = i + 4; next = n; first = omega arith; count = further i j index n l h.count; last = m; so_far = q })

      pub seek_pass : (w % 65536 ≡ cap → ⊥) → (x y : ℕ) → x ≡ start → y ≡ end → Seeking j (index + 1) x y
      seek_pass k x y ex ey = onward start end x y ex ey h.last (turn false (ne_eqb (w % 65536) cap k))

      pub seek_first : w % 65536 ≡ cap → start < 1 → (x y : ℕ) → x ≡ index → y ≡ index → Seeking j (index + 1) x y
      seek_first k m x y ex ey = onward index index x y ex ey (λ z. z) (turn true (eq-eqb (w % 65536) cap k) ∙ resume_first cap start end index (after t j).registers m h.first)

      pub seek_again : w % 65536 ≡ cap → 1 ≤ start → (x y : ℕ) → x ≡ start → y ≡ index → Seeking j (index + 1) x y
      seek_again k m x y ex ey = onward start index x y ex ey (λ z. absurd (omega arith)) (turn true (eq-eqb (w % 65536) cap k) ∙ resume_again start end index later m)

-- lanes
pub this_lane : (k : AdapterType) (d : Bool) → d ≡ sameb the_type k type.Lane → d ≡ is_lane k
unfolding is_lane
this_lane k d e = e ∙ usb4.is_lane k

pub no_lane : (k : AdapterType) (d : Bool) → d ≡ not (sameb the_type k type.Lane) → d ≡ true → is_lane k ≡ false
unfolding is_lane
no_lane = usb4.no_lane

pub a_lane : (k : AdapterType) (d : Bool) → d ≡ not (sameb the_type k type.Lane) → d ≡ false → is_lane k ≡ true
unfolding is_lane
a_lane = usb4.a_lane

module _ (usb4 : Bool) (k : AdapterType) (number : ℕ) (rs : List Register) where
  lane0_by : (l b c d : Bool) → is_lane k ≡ l → (usb4 && is_some (find_cap cap_usb4 rs)) ≡ b → eqb number 1 ≡ c → eqb number 3 ≡ d → is_lane0 usb4 k number rs ≡ (l && (b || c || d))
  unfolding is_lane0
  lane0_by l b c d el eb ec ed = rw (el, eb, ec, ed) refl

  pub lane0_other : is_lane k ≡ false → false ≡ is_lane0 usb4 k number rs
  lane0_other e = sym (lane0_by false _ _ _ e refl refl refl)

  pub lane0_one : is_lane k ≡ true → number ≡ 1 → true ≡ is_lane0 usb4 k number rs
  lane0_one e h = sym (lane0_by true _ true _ e refl (eq-eqb number 1 h) refl ∙ go (usb4 && is_some (find_cap cap_usb4 rs)))
    where
      go : (b : Bool) → (b || true || eqb number 3) ≡ true
      go true = refl
      go false = refl

  pub lane0_three : is_lane k ≡ true → number ≡ 3 → true ≡ is_lane0 usb4 k number rs
  lane0_three e h = sym (lane0_by true _ _ true e refl refl (eq-eqb number 3 h) ∙ go (usb4 && is_some (find_cap cap_usb4 rs)) (eqb number 1))
    where
      go : (b c : Bool) → (b || c || true) ≡ true
      go true c = refl
      go false true = refl
      go false false = refl

  module _ (e : is_lane k ≡ true) (n1 : number ≡ 1 → ⊥) (n3 : number ≡ 3 → ⊥) where
    pub lane0_old : usb4 ≡ false → false ≡ is_lane0 usb4 k number rs
    lane0_old u = sym (lane0_by true false false false e (ap (λ z. z && is_some (find_cap cap_usb4 rs)) u) (ne_eqb number 1 n1) (ne_eqb number 3 n3))

    pub lane0_new : usb4 ≡ true → (f : Option Part) → f ≡ find_cap cap_usb4 rs → is_some f ≡ is_lane0 usb4 k number rs
    lane0_new u f h = sym (lane0_by true (is_some f) false false e (ap (λ z. z && is_some (find_cap cap_usb4 rs)) u ∙ ap (λ z. is_some z) (sym h)) (ne_eqb number 1 n1) (ne_eqb number 3 n3) ∙ go (is_some f))
      where
        go : (b : Bool) → (b || false || false) ≡ b
        go true = refl
        go false = refl

-- the largest HopID
module _ (s : Site) (t v : List ℕ) (o : Option Named) (f : Option NamedAt) (e : named_at t v f ≡ o) where
  pub most_none : f ≡ None → field_at s (Ok None) ≡ max_hop_in s o
  unfolding max_hop_in named_at
  most_none k = ap (λ z. max_hop_in s z) (sym (ap (λ z. named_at t v z) k) ∙ e)

  module _ (a : NamedAt) (k : f ≡ Some a) (r : Result ℕ FieldError)
      (h : field_read r ≡ read_field (record { register = register_at v a.register; description = described t a.group }) (bytes_of "Max Input HopID")) where
    most_by : max_hop_in s o ≡ bind (sited s (field_read r)) (λ m. value (narrow m))
    unfolding max_hop_in wanted_field named_at
    most_by = ap (λ z. max_hop_in s z) (sym e ∙ ap (λ z. named_at t v z) k) ∙ ap (λ z. bind (sited s z) (λ m. value (narrow m))) (sym h)

    pub most_lacks : r ≡ (Err field.NoField) → field_at s (Err field.NoField) ≡ max_hop_in s o
    unfolding sited bind refusal_of
    most_lacks m = sym (most_by ∙ ap (λ z. bind (sited s (field_read z)) (λ m. value (narrow m))) m)

    pub most_wide : (m : ℕ) → r ≡ Ok m → 65535 < m → field_at s (Ok None) ≡ max_hop_in s o
    unfolding sited bind narrow
    most_wide m y l = sym (most_by ∙ ap (λ z. bind (sited s (field_read z)) (λ m. value (narrow m))) y ∙ ap (λ b. value (cond b (Some m) None)) (lt-leb m 65535 l))

    pub most_is : (m : ℕ) → r ≡ Ok m → m ≤ 65535 → field_at s (Ok (Some m)) ≡ max_hop_in s o
    unfolding sited bind narrow
    most_is m y l = sym (most_by ∙ ap (λ z. bind (sited s (field_read z)) (λ m. value (narrow m))) y ∙ ap (λ b. value (cond b (Some m) None)) (le-leb m 65535 l))

-- what is known of an adapter, field by field
pub facts_row_lem : (ds : List Description) (p : ℕ) (usb4 : Bool) (n : ℕ) (k : AdapterType) (rs : List Register) (st : State) (l0 l1 : Bool) (sp : Result Speed FieldError) (h : Result (Option ℕ) FieldError)
    → l0 ≡ is_lane0 usb4 k n rs → l1 ≡ (is_lane k && not l0) → field_at (adapter_site p n) sp ≡ link_speed ds (adapter_site p n) k st rs
    → field_at (adapter_site p n) h ≡ max_hop ds (adapter_site p n) k rs
    → facts_row p (record { number = n; kind = k; state = st; lane0 = l0; lane1 = l1; speed = sp; max_hop = h }) ≡ row_by ds p usb4 n k rs st
unfolding facts_row row_by
facts_row_lem ds p usb4 n k rs st l0 l1 sp h e0 e1 es eh = rw (es, eh, e1, e0) refl

-- what decode answers
module _ (ds : List Description) (p : ℕ) (usb4 : Bool) (a : Adapter) (n : ℕ) (en : n ≡ a.number) (q : Option AdapterType) (eq : KindIs a q) where
  pub decode_few : q ≡ None → decoded_outcome p (Err (FewRegisters (record { place = p; adapter = n }))) ≡ decode_of ds p usb4 a
  unfolding decoded_outcome decode_of KindIs adapter_site
  decode_few m = let k : few_registers a ≡ true = subst (λ z. KindIs a z) m eq in rw (k, en) refl

  module _ (k : AdapterType) (ek : q ≡ Some k) (rs : List Register) (er : rs ≡ registers_of a)
      (f : Result State Fault) (ef : fault_outcome f ≡ state_of ds (record { place = p; adapter = n }) k rs) where
    its_kind : (few_registers a ≡ false) × (k ≡ kind_of a)
    unfolding KindIs
    its_kind = subst (λ z. KindIs a z) ek eq

    state_is : parse_state ds (adapter_site p a.number) a ≡ fault_outcome f
    unfolding parse_state adapter_site
    state_is = rw (ef, en, its_kind.1, er) refl

    decode_by : (z : Result State Fault) → f ≡ z → decode_of ds p usb4 a ≡ bind (fault_outcome z) (λ st. value (row_of ds p usb4 a st))
    unfolding decode_of
    decode_by z m =
        ap (λ b. cond b (refusal_of (FewRegisters (adapter_site p a.number))) (bind (parse_state ds (adapter_site p a.number) a) (λ st. value (row_of ds p usb4 a st)))) its_kind.0
        ∙ ap (λ o. bind o (λ st. value (row_of ds p usb4 a st))) (state_is ∙ ap fault_outcome m)

    row_is : (st : State) → row_by ds p usb4 n k rs st ≡ row_of ds p usb4 a st
    unfolding row_by row_of lane0_of lane1_of
    row_is st = rw (en, its_kind.1, er) refl

    pub decode_refused : (x : Fault) → f ≡ Err x → decoded_outcome p (Err x) ≡ decode_of ds p usb4 a
    unfolding decoded_outcome
    decode_refused x m = sym (decode_by (Err x) m ∙ fault_bind {A = State} {B = AdapterRow} x _)

    pub decode_adapter : (st : State) → f ≡ Ok st → (r : Facts) → facts_row p r ≡ row_by ds p usb4 n k rs st → decoded_outcome p (Ok r) ≡ decode_of ds p usb4 a
    unfolding decoded_outcome bind
    decode_adapter st m r h = ap (λ z. value z) (h ∙ row_is st) ∙ sym (decode_by (Ok st) m)
