-- Laws of rings that no entry leaves by: how they are told, and that they have no tunnel. Assumes nothing.
use Prim.Native.Nat.{ℕ, suc, ◌+◌, ◌*◌, ◌/◌, ◌%◌, ◌^◌, ◌≤◌, ◌<◌}
use mathlib.Core.Path.{◌≡◌, refl, sym, ap, ◌∙◌, subst}
use mathlib.Core.Bool.{Bool, true, false, cond, ◌&&◌, ◌||◌, true≢false}
use mathlib.Core.List.{List}
use Rattle.std.specs.Prelude.{None, Some, Result}
use native.Mathlib.Omega.{arith}
use native.Mathlib.Decide.{dec_lt}
use native.Mathlib.Numerals.{add-one}
use lib.Dec.{eqb}
use lib.ListN.{length, get_or, set, drop, drop_of_length-le, get_or-eq_default}
use lib.Seq.{drop-cons, get_or-set_same, get_or-set_other}
use borrow.Author.Tests.{eq-eqb, ne_eqb, eqb-true}
use Rattle.refusal.specs.Outcome.{Outcome, refused, value, bind}
use Rattle.tables.specs.Rows.{entry_in}
use Rattle.tables.specs.Packed.{entry_word, entries_in}
use Rattle.receive.specs.Receive.{at, Receive, receive}
use Rattle.receive.specs.Tables.{Said, said_of, received_outcome, Receives}
use Rattle.receive.specs.declared.Received.{Received}
use Rattle.receive.proofs.Hops.{walk_none}
use Rattle.tunnel.specs.Tunnels.{ring_tunnel, one_dma}
use Rattle.discovery.specs.Work.{among, out_hops, Quiet, Unasked, mark_of, Unmarked, Spared, Resting, Idle}
use Rattle.discovery.proofs.Past.{unused, receive_alike, bare_tunnel}
use Rattle.tables.specs.declared.Tables.{Tables}
use Rattle.tables.specs.Tables.{Tabled, rows_of}
use Rattle.refusal.specs.declared.WalkError.{WalkError}

-- ---- the HopIDs by which entries leave, one by one

module _ (en : List ℕ) (i v : ℕ) where
  out_step : i < length en → among v (out_hops (drop i en)) ≡ (eqb (get_or en i 0 % 65536) v || among v (out_hops (drop (suc i) en)))
  unfolding among out_hops entry_word
  out_step l = ap (λ (z : List ℕ). among v (out_hops z)) (drop-cons en i 0 l)

  pub out_here : i < length en → get_or en i 0 % 65536 ≡ v → among v (out_hops (drop i en)) ≡ true
  out_here l e = out_step l ∙ ap (λ (b : Bool). b || among v (out_hops (drop (suc i) en))) (eq-eqb (get_or en i 0 % 65536) v e)

  pub out_on : i < length en → (get_or en i 0 % 65536 ≡ v → ⊥) → among v (out_hops (drop i en)) ≡ among v (out_hops (drop (i + 1) en))
  out_on l n =
      out_step l ∙ ap (λ (b : Bool). b || among v (out_hops (drop (suc i) en))) (ne_eqb (get_or en i 0 % 65536) v n)
      ∙ ap (λ (k : ℕ). among v (out_hops (drop k en))) (sym (add-one i))

  pub out_end : length en ≤ i → among v (out_hops (drop i en)) ≡ false
  unfolding among out_hops
  out_end l = ap (λ (z : List ℕ). among v (out_hops z)) (drop_of_length-le en {i = i} l)

-- ---- rings that are not marked

unmarked : (ring : ℕ) (idle : List Bool) → ring < length idle → Unmarked ring idle (set idle ring false)
unmarked ring idle l = record { keeps = λ j e. go j e (dec_lt j ring) (dec_lt ring j) }
  where
    go : (j : ℕ) → get_or (set idle ring false) j false ≡ true → Dec (j < ring) → Dec (ring < j) → (get_or idle j false ≡ true) × (ring ≡ j → ⊥)
    go j e (yes k) n = (sym (get_or-set_other idle ring j false false (λ q. omega arith)) ∙ e, λ q. omega arith)
    go j e (no k) (yes n) = (sym (get_or-set_other idle ring j false false (λ q. omega arith)) ∙ e, λ q. omega arith)
    go j e (no k) (no n) = absurd (let q : j ≡ ring = omega arith in true≢false (sym e ∙ ap (λ (i : ℕ). get_or (set idle ring false) i false) q ∙ get_or-set_same idle ring false false l))

-- there is none so large
not_there : (ring : ℕ) (idle : List Bool) → length idle ≤ ring → Unmarked ring idle idle
not_there ring idle l = record { keeps = λ j e. (e, λ q. true≢false (sym e ∙ get_or-eq_default idle false {n = j} (omega (arith, q, l)))) }

pub unmarked_at : (i k : ℕ) (idle : List Bool) → k ≡ i → k < length idle → Unmarked i idle (set idle k false)
unmarked_at i k idle e l = subst (λ j. Unmarked j idle (set idle k false)) e (unmarked k idle l)

pub not_there_at : (i k : ℕ) (idle : List Bool) → k ≡ i → length idle ≤ k → Unmarked i idle idle
not_there_at i k idle e l = subst (λ j. Unmarked j idle idle) e (not_there k idle l)

pub spared_other : (w owner : ℕ) (old new : List Bool) → Unmarked (mark_of (w % 65536)) old new → (w / 1099511627776 ≡ owner → ⊥) → Spared w owner old new
spared_other w owner old new u n = record { keeps = λ j e. let k = u.keeps j e in (k.0, k.1, λ q z. n q) }

pub spared_both : (w owner : ℕ) (old mid new : List Bool) → Unmarked (mark_of (w % 65536)) old mid → Unmarked (mark_of (w / 16777216 % 65536)) mid new → Spared w owner old new
spared_both w owner old mid new u v = record { keeps = λ j e. let k = v.keeps j e in let l = u.keeps j k.0 in (l.0, l.1, λ q z. k.1 z) }

-- an entry that doesn't stand at an adapter's HopID
not_here : (w p a j : ℕ) → ((w / 2 ^ 48 ≡ p) → (w / 2 ^ 40 % 256 ≡ a) → (w / 2 ^ 24 % 65536 ≡ j) → ⊥) → (eqb (w / 2 ^ 48) p && eqb (w / 2 ^ 40 % 256) a && eqb (w / 2 ^ 24 % 65536) j) ≡ false
not_here w p a j n = go (eqb (w / 2 ^ 48) p) (eqb (w / 2 ^ 40 % 256) a) (eqb (w / 2 ^ 24 % 65536) j) refl refl refl
  where
    go : (x y z : Bool) → eqb (w / 2 ^ 48) p ≡ x → eqb (w / 2 ^ 40 % 256) a ≡ y → eqb (w / 2 ^ 24 % 65536) j ≡ z → (x && y && z) ≡ false
    go false y z e f g = refl
    go true false z e f g = refl
    go true true false e f g = refl
    go true true true e f g = absurd (n (eqb-true _ _ e) (eqb-true _ _ f) (eqb-true _ _ g))

-- what rings are unmarked for the entries from a place on, for all
pub record Sparing (en : List ℕ) (p a i : ℕ) (idle : List Bool) : Type 0 where
  pub left : (j : ℕ) → get_or idle (mark_of j) false ≡ true → Unasked (drop i en) p a j → Unasked en p a j

module _ (en : List ℕ) (p a i : ℕ) where
  entry_on : i < length en → (j : ℕ) → ((get_or en i 0 / 2 ^ 48 ≡ p) → (get_or en i 0 / 2 ^ 40 % 256 ≡ a) → (get_or en i 0 / 2 ^ 24 % 65536 ≡ j) → ⊥) → entry_in (entries_in (drop i en)) p a j ≡ entry_in (entries_in (drop (i + 1) en)) p a j
  unfolding entry_in entry_word
  entry_on l j n =
      ap (λ (z : List ℕ). entry_in (entries_in z) p a j) (drop-cons en i 0 l)
      ∙ ap (λ b. cond b (Some (entry_word (get_or en i 0))) (entry_in (entries_in (drop (suc i) en)) p a j)) (not_here (get_or en i 0) p a j n)
      ∙ ap (λ (k : ℕ). entry_in (entries_in (drop k en)) p a j) (sym (add-one i))

  pub sparing_on : (idle idle' : List Bool) → Sparing en p a i idle → i < length en → (owner : ℕ) → owner ≡ p % 65536 * 256 + a → a < 256 → Spared (get_or en i 0) owner idle idle' → Sparing en p a (i + 1) idle'
  sparing_on idle idle' s l owner o b w = record {
    left = λ j e u.
        let k = w.keeps (mark_of j) e in
        s.left j k.0 (record {
          unused = out_on en i j l (λ x. k.1 (ap mark_of x)) ∙ u.unused;
          missing = λ q. entry_on l j (λ x y z. k.2 (omega (arith, o, q, x, y)) (ap mark_of z)) ∙ u.missing q;
        });
  }

  pub sparing_end : (idle : List Bool) → Sparing en p a i idle → length en ≤ i → Resting en p a idle
  unfolding entry_in
  sparing_end idle s l = record { rests = λ j e. s.left j e (record { unused = out_end en i j l; missing = λ q. ap (λ (z : List ℕ). entry_in (entries_in z) p a j) (drop_of_length-le en {i = i} l) }) }

pub sparing_start : (en : List ℕ) (p a : ℕ) (idle : List Bool) → Sparing en p a 0 idle
sparing_start en p a idle = record { left = λ j e u. u }

-- ---- a search that isn't refused

said_value : (o : Outcome Receive) (s : Said) → value s ≡ bind o (λ r. value (said_of r)) → (r : Receive) × (o ≡ value r)
unfolding bind
said_value (refused k vs) s e = absurd (let z : ◌≡◌ {A = ℕ} 0 1 = cc in omega arith)
said_value (value r) s e = (r, refl)

module _ (tables : Tables) where
  -- one ring's, for all that no entry leaves by
  pub quiet : (w : ℕ) (r : Result Received WalkError) (s : Said) → among w (out_hops tables.entries.now) ≡ false → Receives tables w r → received_outcome w r ≡ value s → Quiet tables
  unfolding rows_of out_hops
  quiet w r s n f e = record {
    searched = λ t v m.
        let y = said_value (receive (rows_of tables) w) s (sym e ∙ f.answers t) in
        (y.0, receive_alike (rows_of tables) v w (unused (rows_of tables) v m) (unused (rows_of tables) w n) ∙ y.1);
  }

  -- such a ring has no tunnel where no entry stands at it

  rests : (p a v : ℕ) → Quiet tables → Unasked tables.entries.now p a v → Tabled tables → p < 65536 → one_dma (rows_of tables) p a v ≡ value None
  unfolding one_dma bind rows_of out_hops at
  rests p a v q u t l =
      let y = q.searched t v u.unused in
      ap (λ s. bind s (λ tx. bind (receive (rows_of tables) v) (λ r. value (ring_tunnel tx r)))) (walk_none (rows_of tables) (at p a v) (u.missing l))
      ∙ ap (λ o. bind o (λ r. value (ring_tunnel None r))) y.1
      ∙ ap value (bare_tunnel (rows_of tables) v (unused (rows_of tables) v u.unused) y.0 y.1)

  pub all_rest : (p a : ℕ) (idle : List Bool) → Quiet tables → Resting tables.entries.now p a idle → Idle tables p a idle
  all_rest p a idle q u = record { rests = λ z t l j e. rests p a j q (u.rests j e) t l }
