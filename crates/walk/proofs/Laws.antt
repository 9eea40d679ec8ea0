-- Laws of the walk over rows: it ends within N hops or never, what it comes to, and demand 3. Assumes nothing.
use Prim.Native.Nat.{ℕ, zero, suc, ◌<◌}
use mathlib.Core.Path.{◌≡◌, refl, sym, ap, ◌∙◌, subst}
use mathlib.Core.Logic.{◌⊎◌, inl, inr, ⊎_elim}
use mathlib.Core.Bool.{Bool, true, false, cond, ◌&&◌, true≢false, false≢true}
use mathlib.Core.List.{List, [], ◌∷◌}
use Rattle.std.specs.Prelude.{Option, None, Some}
use Rattle.std.proofs.lemmas.Option.{none-some}
use native.Mathlib.Omega.{arith}
use lib.Dec.{ltb, eqb}
use lib.ListN.{length}
use borrow.Author.Tests.{eqb-true}
use Rattle.refusal.specs.Outcome.{Outcome, refused, value, bind}
use Rattle.tables.specs.Rows.{EntryRow, DeviceRow, Rows, entry_in}
use Rattle.load.specs.Loading.{valid_entries}
use Rattle.load.specs.Answers.{asked_device}
use Rattle.fabric.specs.Fabric.{Way, Way.on, Way.last, Way.dropped, leads}
use Rattle.orbit.specs.Walk.{Walk, Spot, Spot.stand, Spot.ended, Spot.stopped, going, found, arrive, turned, made, onward, walk_n, hops_n, EndsAfter, Never}
use Rattle.orbit.proofs.Orbit.{has, Ranked, table_ranked, hop_to_make, hop_at_lem, keys_apart, ends_length, ends_or_never, never_again, enough}
use Rattle.walk.specs.Walking.{End, End.path, End.no_path, End.fault, turn_by, walk_on, path_of}
use Rattle.walk.specs.Rule.{settled, walk_from, in_room, stand_of, walk_fault, PathRule, WalkRule}
use Rattle.walk.proofs.Leading.{There, asked_there, leads_there, leads_fault, upstreams}
use Rattle.tables.specs.declared.Stand.{Stand}
use Rattle.tables.specs.declared.Tables.{Tables}
use Rattle.tables.specs.Tables.{rows_of}

-- ---- an entry tells where it stands

both : (x y : Bool) → (x && y) ≡ true → (x ≡ true) × (y ≡ true)
both true y e = (refl, e)
both false y e = absurd (false≢true e)

abbrev stands_at : Stand → EntryRow → Bool
stands_at s e = eqb e.device s.place && eqb e.adapter s.adapter && eqb e.in_hop s.hop_id

stands_where : (s : Stand) (e : EntryRow) → stands_at s e ≡ true → stand_of e ≡ s
unfolding stand_of
stands_where s e q =
    let u = both _ _ q in
    let v = both _ _ u.0 in
    let x : e.device ≡ s.place = eqb-true _ _ v.0 in
    let y : e.adapter ≡ s.adapter = eqb-true _ _ v.1 in
    let z : e.in_hop ≡ s.hop_id = eqb-true _ _ u.1 in
    rw (x, y, z) refl

-- the entry found is one of the table, and stands where it was looked for
found_entry : (es : List EntryRow) (s : Stand) (e : EntryRow) → entry_in es s.place s.adapter s.hop_id ≡ Some e → (has (stands_at s) es ≡ true) × (stand_of e ≡ s)
unfolding entry_in has
found_entry [] s e q = absurd (none-some e q)
found_entry (y ∷ es) s e q = go (stands_at s y) refl (λ r. found_entry es s e r) q
  where
    go : (b : Bool) → stands_at s y ≡ b → (entry_in es s.place s.adapter s.hop_id ≡ Some e → (has (stands_at s) es ≡ true) × (stand_of e ≡ s))
        → cond b (Some y) (entry_in es s.place s.adapter s.hop_id) ≡ Some e → (cond b true (has (stands_at s) es) ≡ true) × (stand_of e ≡ s)
    go true w ih r = let z : y ≡ e = cc in (refl, ap stand_of (sym z) ∙ stands_where s y w)
    go false w ih r = ih r

pub entry_key_lem : (es : List EntryRow) (p a h : ℕ) (e : EntryRow) → entry_in es p a h ≡ Some e → (e.device ≡ p) × (e.adapter ≡ a) × (e.in_hop ≡ h)
unfolding stand_of
entry_key_lem es p a h e q =
    let z = (found_entry es (record { place = p; adapter = a; hop_id = h }) e q).1 in
    (ap (λ (s : Stand). s.place) z, ap (λ (s : Stand). s.adapter) z, ap (λ (s : Stand). s.hop_id) z)

hop_tells : (x : Rows) (s : Stand) (e : EntryRow) → (walk_on x).hop s ≡ Some e → stand_of e ≡ s
unfolding walk_on
hop_tells x s e q = (found_entry x.entries s e q).1

pub ranked : (x : Rows) → Ranked (walk_on x) (valid_entries x)
unfolding walk_on
ranked x = table_ranked (walk_on x) x.entries stands_at (λ s t e p q. sym (stands_where s e p) ∙ stands_where t e q) (λ s e q. (found_entry x.entries s e q).0)

-- ---- what a walk comes to

pub walk_ends : (x : Rows) (s : Stand) {n : ℕ} → EndsAfter (walk_on x) s n → walk_from x s ≡ settled (hops_n (walk_on x) s n) (walk_n (walk_on x) s n)
unfolding walk_from
walk_ends x s e = let w = enough (walk_on x) (valid_entries x) (ranked x) s e (valid_entries x) (omega arith) in rw (w.0, w.1) refl

pub walk_never : (x : Rows) (s : Stand) → Never (walk_on x) s → walk_from x s ≡ refused 13 []
unfolding walk_from settled
walk_never x s g = let w = hop_to_make (walk_on x) s (valid_entries x) (g (valid_entries x)) in rw w.2 refl

-- a path has a hop, or an end that a hop led to
settled_path : (hs ks : List EntryRow) (z : Spot Stand End) → settled hs z ≡ value (Some ks) → (hs ≡ ks) × ((0 < length hs) ⊎ (z ≡ ended path))
unfolding settled path_of
settled_path hs ks (stand y) q = absurd (let z : ◌≡◌ {A = ℕ} 0 1 = cc in omega arith)
settled_path hs ks (ended path) q = (cc, inr refl)
settled_path hs ks (ended no_path) q = absurd (let z : ◌≡◌ {A = ℕ} 0 1 = cc in omega arith)
settled_path hs ks (ended (fault k vs)) q = absurd (let z : ◌≡◌ {A = ℕ} 0 1 = cc in omega arith)
settled_path [] ks stopped q = absurd (let z : ◌≡◌ {A = ℕ} 0 1 = cc in omega arith)
settled_path (h ∷ hs) ks stopped q = (cc, inl (omega arith))

-- it ends in 13 only by a fault of that number
settled_ring : (hs : List EntryRow) (z : Spot Stand End) → going z ≡ false → settled hs z ≡ refused 13 [] → z ≡ ended (fault 13 [])
unfolding settled path_of going
settled_ring hs (stand y) g q = absurd (true≢false g)
settled_ring hs (ended path) g q = absurd (let z : ◌≡◌ {A = ℕ} 0 1 = cc in omega arith)
settled_ring hs (ended no_path) g q = absurd (let z : ◌≡◌ {A = ℕ} 0 1 = cc in omega arith)
settled_ring hs (ended (fault k vs)) g q = cc
settled_ring [] stopped g q = absurd (let z : ◌≡◌ {A = ℕ} 0 1 = cc in omega arith)
settled_ring (h ∷ hs) stopped g q = absurd (let z : ◌≡◌ {A = ℕ} 0 1 = cc in omega arith)

-- no walk has ended before its first hop
not_at_start : (W : Walk Stand EntryRow End) (s : Stand) (e : End) → walk_n W s 0 ≡ ended e → ⊥
unfolding walk_n arrive found
not_at_start W s e q = go (W.hop s) q
  where
    go : (o : Option EntryRow) → found {E = End} s o ≡ ended e → ⊥
    go None p = let z : ◌≡◌ {A = ℕ} 0 1 = cc in omega arith
    go (Some h) p = let z : ◌≡◌ {A = ℕ} 0 1 = cc in omega arith

-- the number of its hops, where it comes to a path
pub record Hopped (x : Rows) (s : Stand) (hs : List EntryRow) : Type 0 where
  pub count : ℕ
  pub one : 0 < count
  pub ends : EndsAfter (walk_on x) s count
  pub hops : hops_n (walk_on x) s count ≡ hs
  pub long : length hs ≡ count

pub hopped : (x : Rows) (s : Stand) (hs : List EntryRow) → walk_from x s ≡ value (Some hs) → Hopped x s hs
hopped x s hs q = ⊎_elim (λ w. go w.0 w.2) (λ g. absurd (let z : ◌≡◌ {A = ℕ} 0 1 = cc (walk_never x s g) in omega arith)) (ends_or_never (walk_on x) (valid_entries x) (ranked x) s)
  where
    go : (n : ℕ) → EndsAfter (walk_on x) s n → Hopped x s hs
    go n e = record { count = n; one = positive n e w.1; ends = e; hops = w.0; long = ap length (sym w.0) ∙ ends_length (walk_on x) s e }
      where
        w : (hops_n (walk_on x) s n ≡ hs) × ((0 < length (hops_n (walk_on x) s n)) ⊎ (walk_n (walk_on x) s n ≡ ended path))
        w = settled_path _ hs _ (sym (walk_ends x s e) ∙ q)

        positive : (m : ℕ) → EndsAfter (walk_on x) s m → (0 < length (hops_n (walk_on x) s m)) ⊎ (walk_n (walk_on x) s m ≡ ended path) → 0 < m
        positive zero f (inl l) = omega (arith, ends_length (walk_on x) s f)
        positive zero f (inr p) = absurd (not_at_start (walk_on x) s path p)
        positive (suc m) f v = omega arith

pub path_rule : (x : Rows) (s : Stand) (n : ℕ) → 0 < n → EndsAfter (walk_on x) s n → PathRule x s n
path_rule x s n l e = record {
  one = l;
  ends = e;
  count = ends_length (walk_on x) s e;
  stands = λ d i m.
      let w = hop_to_make (walk_on x) s i (e.hops i m) in
      w.2 ∙ ap stand (sym (ap stand_of (hop_at_lem (walk_on x) s n i w.0 w.1 d m e.hops w.2 w.3) ∙ hop_tells x w.0 w.1 w.3));
  apart = λ d i j m k. keys_apart (walk_on x) s stand_of (hop_tells x) d e i j m k;
}

-- ---- the refusals of a walk

-- a walk that starts at a device that is there goes on to such devices alone, and is refused with 6, 10, 11 or 12 alone
pub record Sound (x : Rows) (s : Stand) : Type 0 where
  pub start : There x s.place
  pub goes : (p o q a : ℕ) → leads x p o ≡ value (on q a) → There x q
  pub faults : (p o k : ℕ) (vs : List ℕ) → There x p → leads x p o ≡ refused k vs → walk_fault k ≡ true

module _ (x : Rows) (s : Stand) (g : Sound x s) where
  abbrev Fine : Spot Stand End → Type 0
  Fine (stand y) = There x y.place
  Fine (ended path) = Unit {0}
  Fine (ended no_path) = Unit {0}
  Fine (ended (fault k vs)) = walk_fault k ≡ true
  Fine stopped = Unit {0}

  fine_found : (y : Stand) (o : Option EntryRow) → There x y.place → Fine (found y o)
  unfolding found
  fine_found y None t = tt
  fine_found y (Some h) t = t

  fine_turn : (p : ℕ) (e : EntryRow) (o : Outcome Way) → There x p → leads x p e.out_adapter ≡ o → Fine (turned (walk_on x) (turn_by e o))
  unfolding turned turn_by arrive
  fine_turn p e (refused k vs) t q = g.faults p e.out_adapter k vs t q
  fine_turn p e (value (on r a)) t q = fine_found _ _ (g.goes p e.out_adapter r a q)
  fine_turn p e (value last) t q = tt
  fine_turn p e (value dropped) t q = tt

  fine_made : (y : Stand) (o : Option EntryRow) → There x y.place → Fine (made (walk_on x) y o)
  unfolding made walk_on
  fine_made y None t = tt
  fine_made y (Some e) t = fine_turn y.place e _ t refl

  fine_onward : (z : Spot Stand End) → Fine z → Fine (onward (walk_on x) z)
  unfolding onward
  fine_onward (stand y) t = fine_made y _ t
  fine_onward (ended e) t = t
  fine_onward stopped t = tt

  fine : (n : ℕ) → Fine (walk_n (walk_on x) s n)
  unfolding walk_n arrive
  fine zero = fine_found s _ g.start
  fine (suc n) = fine_onward _ (fine n)

  fault_number : (n k : ℕ) (vs : List ℕ) → walk_n (walk_on x) s n ≡ ended (fault k vs) → walk_fault k ≡ true
  fault_number n k vs q = subst Fine q (fine n)

-- ---- on tables

pub sound : (tables : Tables) (s : Stand) (d : DeviceRow) → asked_device (rows_of tables) s.place ≡ value d → Sound (rows_of tables) s
unfolding rows_of
sound tables s d q = record {
  start = asked_there (rows_of tables) s.place d q;
  goes = leads_there (rows_of tables) (upstreams tables);
  faults = leads_fault (rows_of tables) (upstreams tables);
}

-- ---- demand 3

-- a number of hops answers a path; 13 answers 13 alone
room_some : (need : List EntryRow → ℕ) (room n : ℕ) (o : Outcome (Option (List EntryRow))) → bind o (in_room need room) ≡ value (Some n) → (hs : List EntryRow) × (o ≡ value (Some hs)) × (length hs ≡ n)
unfolding bind in_room
room_some need room n (refused k vs) q = absurd (let z : ◌≡◌ {A = ℕ} 0 1 = cc in omega arith)
room_some need room n (value None) q = absurd (let z : ◌≡◌ {A = ℕ} 0 1 = cc in omega arith)
room_some need room n (value (Some hs)) q = go (ltb room (need hs)) q
  where
    go : (b : Bool) → cond b (refused 2 (need hs ∷ [])) (value (Some (length hs))) ≡ value (Some n) → (ks : List EntryRow) × (value (Some hs) ≡ value (Some ks)) × (length ks ≡ n)
    go true p = absurd (let z : ◌≡◌ {A = ℕ} 0 1 = cc in omega arith)
    go false p = (hs, refl, cc)

room_ring : (need : List EntryRow → ℕ) (room : ℕ) (o : Outcome (Option (List EntryRow))) → bind o (in_room need room) ≡ refused 13 [] → o ≡ refused 13 []
unfolding bind in_room
room_ring need room (refused k vs) q = cc
room_ring need room (value None) q = absurd (let z : ◌≡◌ {A = ℕ} 0 1 = cc in omega arith)
room_ring need room (value (Some hs)) q = absurd (go (ltb room (need hs)) q)
  where
    go : (b : Bool) → cond b (refused 2 (need hs ∷ [])) (value (Some (length hs))) ≡ refused 13 [] → ⊥
    go true p = let z : ◌≡◌ {A = ℕ} 2 13 = cc in omega arith
    go false p = let z : ◌≡◌ {A = ℕ} 0 1 = cc in omega arith

ring_never : (x : Rows) (s : Stand) → Sound x s → walk_from x s ≡ refused 13 [] → Never (walk_on x) s
unfolding walk_fault
ring_never x s g q = ⊎_elim
    (λ w. absurd (false≢true (fault_number x s g w.0 13 [] (settled_ring _ _ w.2.over (sym (walk_ends x s w.2) ∙ q)))))
    (λ n. n)
    (ends_or_never (walk_on x) (valid_entries x) (ranked x) s)

pub rule : (x : Rows) (s : Stand) (need : List EntryRow → ℕ) (room : ℕ) (Wrote : List EntryRow → Type 0) (o : Outcome (Option ℕ)) → Sound x s → o ≡ bind (walk_from x s) (in_room need room)
    → ((hs : List EntryRow) (n : ℕ) → walk_from x s ≡ value (Some hs) → o ≡ value (Some n) → Wrote hs) → WalkRule x s need room Wrote o
unfolding bind
rule x s need room Wrote o g q wrote = record {
  bounded = ends_or_never (walk_on x) (valid_entries x) (ranked x) s;
  ends = λ n e. q ∙ ap (λ (w : Outcome (Option (List EntryRow))). bind w (in_room need room)) (walk_ends x s e);
  faults = fault_number x s g;
  path = λ n p. to_path n p (room_some need room n (walk_from x s) (sym q ∙ p));
  never = (to_never, from_never);
  again = (λ p. (never_again (walk_on x) (valid_entries x) (ranked x) s).0 (to_never p), λ p. from_never ((never_again (walk_on x) (valid_entries x) (ranked x) s).1 p));
}
  where
    to_never : o ≡ refused 13 [] → Never (walk_on x) s
    to_never p = ring_never x s g (room_ring need room (walk_from x s) (sym q ∙ p))

    from_never : Never (walk_on x) s → o ≡ refused 13 []
    from_never n = q ∙ ap (λ (w : Outcome (Option (List EntryRow))). bind w (in_room need room)) (walk_never x s n)

    to_path : (n : ℕ) → o ≡ value (Some n) → (hs : List EntryRow) × (walk_from x s ≡ value (Some hs)) × (length hs ≡ n) → PathRule x s n × Wrote (hops_n (walk_on x) s n)
    to_path n p (hs, f, l) = subst (λ (m : ℕ). PathRule x s m × Wrote (hops_n (walk_on x) s m)) (sym h.long ∙ l) (path_rule x s h.count h.one h.ends, subst Wrote (sym h.hops) (wrote hs n f p))
      where
        h : Hopped x s hs
        h = hopped x s hs f
