-- Laws on the word of an adapter, and on whether it is a lane. Assumes nothing.
use Rattle.std.specs.Prelude.{Err, None, Ok, Option, Result, Some}
use Prim.Native.Nat.{ℕ, zero, suc, ◌/◌, ◌%◌}
use mathlib.Core.Bool.{Bool, true, false, cond}
use mathlib.Core.Path.{◌≡◌, refl, sym, ap, ◌∙◌, subst}
use mathlib.Core.List.{List}
use Rattle.std.proofs.lemmas.Option.{none-some, same_Some}
use native.Mathlib.Omega.{arith}
use lib.Dec.{eqb}
use borrow.Author.Tests.{eq-eqb, ne_eqb}
use native.Mathlib.Decide.{ℕ_discrete}
use Rattle.refusal.specs.Outcome.{value}
use Rattle.refusal.specs.Refusal.{refusal_of, field_at}
use Rattle.refusal.specs.declared.Site.{Site}
use Rattle.refusal.specs.declared.Fault.TheVariants.{NoField}
use Rattle.usb4.specs.declared.AdapterType.{AdapterType}
use Rattle.usb4.specs.declared.Speed.TheVariants as speed
use Rattle.adapter.specs.Adapter.{AdapterRow, facts_row, is_lane}
use Rattle.adapter.specs.declared.Facts.{Facts}
use Rattle.tables.specs.Packed.{type_by, speed_by, number_by, adapter_word}
use Rattle.tables.specs.Found.{AdapterSought, adapter_found}
use Rattle.tables.proofs.Laws.{facts_made}
use Rattle.search.specs.Lanes.{lane_if, LaneSought}
use Rattle.search.specs.Work.{WordSought}
use Rattle.usb4.specs.declared.Speed.{Speed}
use Rattle.refusal.specs.declared.FieldError.{FieldError}
use Rattle.refusal.specs.declared.FieldError.TheVariants as field

-- ---- the word

pub word_nowhere : (t : List ℕ) (p a : ℕ) → AdapterSought t p a None → WordSought t p a None
word_nowhere t p a s = record { found = λ w e. absurd (let z : ◌≡◌ {A = ℕ} 0 1 = cc in omega arith); missing = λ e. s }

pub word_found : (t : List ℕ) (p a w : ℕ) → ((f : Facts) → facts_row (w / 281474976710656) f ≡ adapter_word w → AdapterSought t p a (Some f)) → WordSought t p a (Some w)
word_found t p a w s = record { found = λ v e f g. s f (subst (λ k. facts_row (k / 281474976710656) f ≡ adapter_word k) (let z : v ≡ w = cc in z) g); missing = λ e. absurd (let z : ◌≡◌ {A = ℕ} 0 1 = cc in omega arith) }

-- ---- there is an adapter that says the same as a word

speed_of_lem : (n : ℕ) → (r : Result Speed FieldError) × ((s : Site) → field_at s r ≡ speed_by s n)
unfolding speed_by
speed_of_lem n = go (eqb n 1) (eqb n 2) (eqb n 3) (eqb n 4)
  where
    go : (a b c d : Bool) → (r : Result Speed FieldError) × ((s : Site) → field_at s r ≡ cond a (value speed.Gen2) (cond b (value speed.Gen3) (cond c (value speed.Gen4) (cond d (refusal_of (NoField s)) (value speed.Unknown)))))
    go true b c d = (Ok speed.Gen2, λ s. refl)
    go false true c d = (Ok speed.Gen3, λ s. refl)
    go false false true d = (Ok speed.Gen4, λ s. refl)
    go false false false true = ((Err field.NoField), λ s. refl)
    go false false false false = (Ok speed.Unknown, λ s. refl)

most_of : (n : ℕ) → (r : Result (Option ℕ) FieldError) × ((s : Site) → field_at s r ≡ number_by s n)
unfolding number_by
most_of zero = ((Ok None), λ s. refl)
most_of (suc zero) = ((Err field.NoField), λ s. refl)
most_of (suc (suc n)) = (Ok (Some n), λ s. refl)

facts_in : (w : ℕ) → (f : Facts) × (facts_row (w / 281474976710656) f ≡ adapter_word w)
facts_in w = (_, facts_made w _ _ _ _ refl refl (speed_of_lem (w / 256 % 16)).1 (most_of (w / 1048576 % 1048576)).1)

-- ---- whether it is a lane

either_no_lane : (b : Bool) (x y : AdapterType) → is_lane x ≡ false → is_lane y ≡ false → is_lane (cond b x y) ≡ false
either_no_lane true x y e g = e
either_no_lane false x y e g = g

type_lane : (n : ℕ) → n ≡ 2 → is_lane (type_by n) ≡ true
unfolding type_by is_lane
type_lane n e = rw e refl

type_other : (n : ℕ) → (n ≡ 2 → ⊥) → is_lane (type_by n) ≡ false
unfolding type_by is_lane
type_other n h =
    rw (ne_eqb n 2 h)
    (either_no_lane (eqb n 1) _ _ refl
    (either_no_lane (eqb n 3) _ _ refl
    (either_no_lane (eqb n 4) _ _ refl
    (either_no_lane (eqb n 5) _ _ refl
    (either_no_lane (eqb n 6) _ _ refl
    (either_no_lane (eqb n 7) _ _ refl
    (either_no_lane (eqb n 8) _ _ refl
    (either_no_lane (eqb n 9) _ _ refl
    (either_no_lane (eqb n 10) _ _ refl
    (either_no_lane (eqb n 11) _ _ refl refl))))))))))

module _ (t : List ℕ) (p a : ℕ) where
  pub lane_nowhere : AdapterSought t p a None → LaneSought t p a None
  unfolding adapter_found lane_if
  lane_nowhere s = record { first = λ l o. ap lane_if (s.first l o); past = λ l. refl; held = λ b e. absurd (none-some b e) }

  -- by an answer that says what the word does
  module _ (r : Option ℕ) (s : WordSought t p a r) (w : ℕ) (e : r ≡ Some w) where
    lane_by_lem : (b : Bool) (x : Option Bool) → x ≡ Some b → is_lane (type_by (w / 65536 % 16)) ≡ b → LaneSought t p a x
    unfolding adapter_found lane_if facts_row adapter_word
    lane_by_lem b x g h =
        let f = facts_in w in
        let y = s.found w e f.0 f.1 in
        let k : is_lane f.0.kind ≡ b = ap (λ (z : AdapterRow). is_lane z.kind) f.1 ∙ h in
        record {
          first = λ l o. g ∙ ap Some (sym k) ∙ ap lane_if (y.first l o);
          past = λ l. absurd (let z = y.past l in let v : ◌≡◌ {A = ℕ} 0 1 = cc in omega arith);
          held = λ c q.
              let v = y.held (facts_row p f.0) refl in
              (v.0, v.1, ap (λ (z : AdapterRow). z.device) v.2, ap (λ (z : AdapterRow). z.number) v.2 ∙ v.3, ap (λ (z : AdapterRow). is_lane z.kind) v.2 ∙ k ∙ same_Some b c (sym g ∙ q));
        }

    pub lane_told : LaneSought t p a (Some (eqb (w / 65536 % 16) 2))
    lane_told = go (ℕ_discrete (w / 65536 % 16) 2)
      where
        go : Dec (w / 65536 % 16 ≡ 2) → LaneSought t p a (Some (eqb (w / 65536 % 16) 2))
        go (yes q) = rw (eq-eqb _ 2 q) (lane_by_lem true (Some true) refl (type_lane (w / 65536 % 16) q))
        go (no q) = rw (ne_eqb _ 2 q) (lane_by_lem false (Some false) refl (type_other (w / 65536 % 16) q))
