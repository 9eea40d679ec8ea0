-- A row packed in a word comes back from it. Assumes nothing.
use Rattle.std.specs.Prelude.{Err, None, Ok, Option, Result, Some}
use Prim.Native.Nat.{ℕ, suc, ◌+◌, ◌*◌, ◌/◌, ◌%◌, ◌^◌, ◌<◌, ◌≤◌}
use native.Mathlib.Omega.{arith}
use mathlib.Core.Path.{◌≡◌, refl, ◌∙◌, ap, sym, subst}
use mathlib.Core.Bool.{Bool, true, false}
use Rattle.std.specs.Int.{from_bool}
use lib.Dec.{eqb}
use Rattle.refusal.specs.declared.Site.{Site}
use Rattle.usb4.specs.Numbers.{type_number, state_number, speed_number}
use Rattle.usb4.specs.declared.AdapterType.{AdapterType}
use Rattle.usb4.specs.declared.AdapterType.TheVariants as type
use Rattle.usb4.specs.declared.State.{State}
use Rattle.usb4.specs.declared.State.TheVariants as state
use Rattle.usb4.specs.declared.Speed.{Speed}
use Rattle.usb4.specs.declared.Speed.TheVariants as speed
use Rattle.adapter.specs.Adapter.{adapter_site, facts_row}
use Rattle.adapter.specs.declared.Facts.{Facts}
use Rattle.tables.specs.Packed.{entry_word, speed_by, number_by, adapter_word}
use Rattle.tables.proofs.Laws.{type_round, state_round, speed_round}
use Rattle.load.specs.Work.{HopFits}
use Rattle.refusal.specs.declared.FieldError.{FieldError}
use Rattle.refusal.specs.declared.FieldError.TheVariants as field
use Rattle.refusal.specs.Refusal.{field_at}

pub entry_word_lem : (w p a i o h : ℕ) → w ≡ p * 281474976710656 + a * 1099511627776 + i * 16777216 + o * 65536 + h → a < 256 → i < 65536 → o < 256 → h < 65536
    → entry_word w ≡ record { device = p; adapter = a; in_hop = i; out_adapter = o; out_hop = h }
unfolding entry_word
entry_word_lem w p a i o h e la li lo lh =
    let e1 : w / 2 ^ 48 ≡ p = omega arith in
    let e2 : w / 2 ^ 40 % 256 ≡ a = omega arith in
    let e3 : w / 2 ^ 24 % 65536 ≡ i = omega arith in
    let e4 : w / 2 ^ 16 % 256 ≡ o = omega arith in
    let e5 : w % 65536 ≡ h = omega arith in
    rw (e1, e2, e3, e4, e5) refl

-- a flag as a bit
pub flag_bit : (b : Bool) (z : ℕ) → z ≡ from_bool b → (z < 2) × (eqb z 1 ≡ b)
flag_bit true z e = (omega (arith, e), ap (λ x. eqb x 1) e)
flag_bit false z e = (omega (arith, e), ap (λ x. eqb x 1) e)

-- how large the numbers of cases are
pub type_bound : (k : AdapterType) → type_number k < 12
type_bound type.Unknown = omega arith
type_bound type.Inactive = omega arith
type_bound type.Lane = omega arith
type_bound type.HostInterface = omega arith
type_bound type.DisplayPortIn = omega arith
type_bound type.DisplayPortOut = omega arith
type_bound type.PcieDown = omega arith
type_bound type.PcieUp = omega arith
type_bound type.Usb3Down = omega arith
type_bound type.Usb3Up = omega arith
type_bound type.Usb3GenTDown = omega arith
type_bound type.Usb3GenTUp = omega arith

pub state_bound : (k : State) → state_number k < 10
state_bound state.Unknown = omega arith
state_bound state.Disabled = omega arith
state_bound state.Enabled = omega arith
state_bound state.Training = omega arith
state_bound state.Cl0 = omega arith
state_bound state.Cl0sTx = omega arith
state_bound state.Cl0sRx = omega arith
state_bound state.Cl1 = omega arith
state_bound state.Cl2 = omega arith
state_bound state.Cld = omega arith

speed_bound : (k : Speed) → speed_number k < 4
speed_bound speed.Unknown = omega arith
speed_bound speed.Gen2 = omega arith
speed_bound speed.Gen3 = omega arith
speed_bound speed.Gen4 = omega arith

-- what the codes stand for
pub speed_told : (f : Result Speed FieldError) (v : Speed) (r : ℕ) → f ≡ Ok v → r ≡ speed_number v → (r < 16) × ((s : Site) → speed_by s r ≡ field_at s f)
speed_told f v r e k = (omega (arith, speed_bound v), λ s. ap (λ n. speed_by s n) k ∙ speed_round s v ∙ ap (λ x. field_at s x) (sym e))

pub speed_refused : (f : Result Speed FieldError) → f ≡ (Err field.NoField) → (4 < 16) × ((s : Site) → speed_by s 4 ≡ field_at s f)
unfolding speed_by
speed_refused f e = (omega arith, λ s. ap (λ x. field_at s x) (sym e))

two_more : (n : ℕ) → n + 2 ≡ suc (suc n)
two_more n = omega arith

module _ (f : Result (Option ℕ) FieldError) where
  pub hop_bound : (h : ℕ) → f ≡ Ok (Some h) → HopFits f → h ≤ 65535
  unfolding HopFits
  hop_bound h e l = subst (λ x. HopFits x) e l

  pub hop_told : (h : ℕ) → f ≡ Ok (Some h) → HopFits f → (h + 2 < 1048576) × ((s : Site) → number_by s (h + 2) ≡ field_at s f)
  unfolding number_by
  hop_told h e l = (omega (arith, hop_bound h e l), λ s. ap (λ n. number_by s n) (two_more h) ∙ ap (λ x. field_at s x) (sym e))

  pub hop_none : f ≡ (Ok None) → (0 < 1048576) × ((s : Site) → number_by s 0 ≡ field_at s f)
  unfolding number_by
  hop_none e = (omega arith, λ s. ap (λ x. field_at s x) (sym e))

  pub hop_refused : f ≡ (Err field.NoField) → (1 < 1048576) × ((s : Site) → number_by s 1 ≡ field_at s f)
  unfolding number_by
  hop_refused e = (omega arith, λ s. ap (λ x. field_at s x) (sym e))

-- the parts of an adapter's word
record Parts (w p a h k t v z o : ℕ) : Type 0 where
  device : w / 2 ^ 48 ≡ p
  number : w / 2 ^ 40 % 256 ≡ a
  hop : w / 2 ^ 20 % 2 ^ 20 ≡ h
  kind : w / 2 ^ 16 % 16 ≡ k
  state : w / 2 ^ 12 % 16 ≡ t
  speed : w / 2 ^ 8 % 16 ≡ v
  lane0 : w / 2 ^ 4 % 16 ≡ z
  lane1 : w % 16 ≡ o

parts : (w p a h k t v z o : ℕ) → w ≡ p * 281474976710656 + a * 1099511627776 + h * 1048576 + k * 65536 + t * 4096 + v * 256 + z * 16 + o → a < 256 → h < 1048576 → k < 16 → t < 16 → v < 16 → z < 16 → o < 16 → Parts w p a h k t v z o
parts w p a h k t v z o e la lh lk lt lv lz lo = record { device = omega arith; number = omega arith; hop = omega arith; kind = omega arith; state = omega arith; speed = omega arith; lane0 = omega arith; lane1 = omega arith }

-- a word made of codes that stand for an adapter's facts is its row
module _ (p h k t v z o : ℕ) (f : Facts) (la : f.number < 256)
    (eh : (h < 1048576) × ((s : Site) → number_by s h ≡ field_at s f.max_hop))
    (ek : k ≡ type_number f.kind)
    (et : t ≡ state_number f.state)
    (ev : (v < 16) × ((s : Site) → speed_by s v ≡ field_at s f.speed))
    (ez : z ≡ from_bool f.lane0)
    (eo : o ≡ from_bool f.lane1) where
  pub adapter_word_lem : adapter_word (p * 281474976710656 + f.number * 1099511627776 + h * 1048576 + k * 65536 + t * 4096 + v * 256 + z * 16 + o) ≡ facts_row p f
  unfolding adapter_word facts_row
  adapter_word_lem = rw (m.device, m.number, m.hop, m.kind, m.state, m.speed, m.lane0, m.lane1, ek, et, type_round f.kind, state_round f.state, (flag_bit f.lane0 z ez).1, (flag_bit f.lane1 o eo).1, ev.1 (adapter_site p f.number), eh.1 (adapter_site p f.number)) refl
    where
      m : Parts (p * 281474976710656 + f.number * 1099511627776 + h * 1048576 + k * 65536 + t * 4096 + v * 256 + z * 16 + o) p f.number h k t v z o
      m = parts _ p f.number h k t v z o refl la eh.0 (omega (arith, type_bound f.kind)) (omega (arith, state_bound f.state)) ev.0 (omega (arith, (flag_bit f.lane0 z ez).0)) (omega (arith, (flag_bit f.lane1 o eo).0))
