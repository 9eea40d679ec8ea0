-- Laws of a walk that was tallied: what refuses it, no path, or a path by where it starts and leaves. Assumes nothing.
use Prim.Native.Nat.{ℕ, zero, suc, ◌<◌}
use mathlib.Core.Path.{◌≡◌, refl, sym, ap, ◌∙◌, subst}
use mathlib.Core.Bool.{◌&&◌}
use mathlib.Core.List.{List, [], ◌∷◌}
use Rattle.std.specs.Prelude.{Option, None, Some, Ok, Err, Result}
use native.Mathlib.Omega.{arith}
use lib.Dec.{eqb}
use lib.ListN.{length, get_or}
use Rattle.refusal.specs.Outcome.{Outcome, refused, value, bind}
use Rattle.tables.specs.Rows.{EntryRow, Rows}
use Rattle.refusal.specs.Refusal.{refused_by, of_walk}
use Rattle.refusal.proofs.Laws.{walk_bind}
use Rattle.orbit.specs.Walk.{Spot, Spot.stand, Spot.ended, Spot.stopped, found, arrive, turned, made, onward, walk_n}
use Rattle.fabric.specs.Fabric.{Way, Way.on, Way.last, Way.dropped, leads}
use Rattle.walk.specs.Walking.{End, turn_by, walk_on}
use Rattle.walk.specs.Rule.{walk_from, stand_of}
use Rattle.walk.specs.Tables.{Leaving, last_of, leaving_by, leaving_of, leaves, tally_outcome, Tallied}
use Rattle.walk.proofs.Leading.{there_below, leads_there, upstreams}
use Rattle.walk.proofs.Laws.{hopped, path_rule}
use Rattle.path.proofs.Writing.{refused_as_lem}
use Rattle.path.proofs.Answering.{start_there}
use Rattle.receive.specs.Receive.{at}
use Rattle.tunnel.specs.Tunnels.{leaving}
use Rattle.tunnel.specs.Plans.{start_of}
use Rattle.tunnel.specs.Work.{leaves_by}
use Rattle.walk.specs.Tables.{walked_to}
use Rattle.walk.specs.declared.Walked.{Walked}
use Rattle.tables.specs.declared.Stand.{Stand}
use Rattle.tables.specs.declared.Tables.{Tables}
use Rattle.tables.specs.Tables.{Tabled, rows_of}
use Rattle.refusal.specs.declared.WalkError.{WalkError}

-- ---- outcomes

-- what refuses a step refuses all that follows it
pub refuses : {A B C : Type 0} (o : Outcome A) (g : A → C) (k : A → Outcome B) (z : WalkError) → refused_by (of_walk z) ≡ bind o (λ y. value (g y)) → refused_by (of_walk z) ≡ bind o k
unfolding bind
refuses (refused n vs) g k z e = sym (walk_bind z (λ y. refused 0 [])) ∙ ap (λ w. bind w (λ y. refused 0 [])) e
refuses (value y) g k z e = absurd (let w = refused_as_lem (value (g y)) (of_walk z) e in let v = w.2 in let u : ◌≡◌ {A = ℕ} 0 1 = cc in omega arith)

leaves_none : (o : Outcome (Option (List EntryRow))) → value None ≡ bind o (λ y. value (leaves y)) → (o ≡ value (Some []) → ⊥) → o ≡ value None
unfolding bind leaves leaving_of
leaves_none (refused k vs) e n = absurd (let z : ◌≡◌ {A = ℕ} 0 1 = cc in omega arith)
leaves_none (value None) e n = refl
leaves_none (value (Some [])) e n = absurd (n refl)
leaves_none (value (Some (h ∷ hs))) e n = absurd (let z : ◌≡◌ {A = ℕ} 0 1 = cc in omega arith)

-- a path's number of hops, and its last hop's place and out adapter
leaves_some : (o : Outcome (Option (List EntryRow))) (l : Leaving) → value (Some l) ≡ bind o (λ y. value (leaves y))
    → (e : EntryRow) × (es : List EntryRow) × (o ≡ value (Some (e ∷ es))) × (suc (length es) ≡ l.hops) × ((last_of e es).device ≡ l.place) × ((last_of e es).out_adapter ≡ l.adapter)
unfolding bind leaves leaving_of leaving_by
leaves_some (refused k vs) l e = absurd (let z : ◌≡◌ {A = ℕ} 0 1 = cc in omega arith)
leaves_some (value None) l e = absurd (let z : ◌≡◌ {A = ℕ} 0 1 = cc in omega arith)
leaves_some (value (Some [])) l e = absurd (let z : ◌≡◌ {A = ℕ} 0 1 = cc in omega arith)
leaves_some (value (Some (y ∷ ys))) l e =
    let z : l ≡ leaving_by (suc (length ys)) (last_of y ys) = cc in
    (y, ys, refl, ap (λ (v : Leaving). v.hops) (sym z), ap (λ (v : Leaving). v.place) (sym z), ap (λ (v : Leaving). v.adapter) (sym z))

-- ---- where a walk stands

-- every hop is made at a device below k
module _ (x : Rows) (s : Stand) (k : ℕ) (start : s.place < k) (goes : (p o q a : ℕ) → leads x p o ≡ value (on q a) → q < k) where
  abbrev Below : Spot Stand End → Type 0
  Below (stand y) = y.place < k
  Below (ended e) = Unit {0}
  Below stopped = Unit {0}

  below_found : (y : Stand) (o : Option EntryRow) → y.place < k → Below (found y o)
  unfolding found
  below_found y None l = tt
  below_found y (Some h) l = l

  below_turn : (p : ℕ) (e : EntryRow) (o : Outcome Way) → leads x p e.out_adapter ≡ o → Below (turned (walk_on x) (turn_by e o))
  unfolding turned turn_by arrive
  below_turn p e (refused n vs) q = tt
  below_turn p e (value (on r a)) q = below_found _ _ (goes p e.out_adapter r a q)
  below_turn p e (value last) q = tt
  below_turn p e (value dropped) q = tt

  below_made : (y : Stand) (o : Option EntryRow) → Below (made (walk_on x) y o)
  unfolding made walk_on
  below_made y None = tt
  below_made y (Some e) = below_turn y.place e _ refl

  below_onward : (z : Spot Stand End) → Below (onward (walk_on x) z)
  unfolding onward
  below_onward (stand y) = below_made y _
  below_onward (ended e) = tt
  below_onward stopped = tt

  below : (n : ℕ) → Below (walk_n (walk_on x) s n)
  unfolding walk_n arrive
  below zero = below_found s _ start
  below (suc n) = below_onward _

-- it starts where it says
starts_at : (x : Rows) (s y : Stand) → walk_n (walk_on x) s 0 ≡ stand y → y ≡ s
unfolding walk_n arrive found
starts_at x s y q = go ((walk_on x).hop s) q
  where
    go : (o : Option EntryRow) → found {E = End} s o ≡ stand y → y ≡ s
    go None p = absurd (let z : ◌≡◌ {A = ℕ} 0 1 = cc in omega arith)
    go (Some h) p = cc

last_at : (d e : EntryRow) (es : List EntryRow) → last_of e es ≡ get_or (e ∷ es) (length es) d
unfolding last_of
last_at d e [] = refl
last_at d e (h ∷ hs) = last_at d h hs

-- ---- a walk's path

-- a path of a walk from s: n hops, and it leaves by adapter a of the device at place q, below k
pub record Went (x : Rows) (s : Stand) (n q a k : ℕ) (hs : List EntryRow) : Type 0 where
  pub walk : walk_from x s ≡ value (Some hs)
  pub count : length hs ≡ n
  pub start : start_of hs ≡ s
  pub leave : (h : ℕ) → leaving h hs ≡ at q a h
  pub end : (p b : ℕ) → leaves_by hs p b ≡ (eqb q p && eqb a b)
  pub there : q < k

-- a path starts where its walk does
pub path_start : (x : Rows) (s : Stand) (hs : List EntryRow) → walk_from x s ≡ value (Some hs) → start_of hs ≡ s
unfolding start_of
path_start x s [] e = absurd (let h = hopped x s [] e in omega (arith, h.one, h.long))
path_start x s (e ∷ es) q =
    let h = hopped x s (e ∷ es) q in
    starts_at x s (stand_of e) ((path_rule x s h.count h.one h.ends).stands e 0 h.one ∙ ap (λ (l : List EntryRow). stand (stand_of (get_or l 0 e))) h.hops)

module _ (tables : Tables) (s : Stand) where
  -- and its last hop is made at a device that is there
  last_there : (e : EntryRow) (es : List EntryRow) → walk_from (rows_of tables) s ≡ value (Some (e ∷ es)) → (last_of e es).device < length tables.devices.now
  unfolding rows_of stand_of
  last_there e es q =
      let x = rows_of tables in
      let h = hopped (rows_of tables) s (e ∷ es) q in
      let w : walk_n (walk_on (rows_of tables)) s (length es) ≡ stand (stand_of (last_of e es)) = (path_rule x s h.count h.one h.ends).stands e (length es) (omega (arith, h.long)) ∙ ap (λ (l : List EntryRow). stand (stand_of (get_or l (length es) e))) h.hops ∙ ap (λ y. stand (stand_of y)) (sym (last_at e e es)) in
      subst (Below x s (length tables.devices.now) (start_there tables s (e ∷ es) q) goes) w (below x s (length tables.devices.now) (start_there tables s (e ∷ es) q) goes (length es))
    where
      goes : (p o q a : ℕ) → leads (rows_of tables) p o ≡ value (on q a) → q < length tables.devices.now
      goes p o q a f = there_below tables q (leads_there (rows_of tables) (upstreams tables) p o q a f)

  module _ (r : Result (Option Walked) WalkError) (f : Tallied tables s r) (t : Tabled tables) (l : s.place < 65536) where
    pub tally_refused : {A : Type 0} (z : WalkError) (k : Option (List EntryRow) → Outcome A) → r ≡ Err z → refused_by (of_walk z) ≡ bind (walk_from (rows_of tables) s) k
    unfolding tally_outcome
    tally_refused z k e = refuses (walk_from (rows_of tables) s) leaves k z (sym (ap tally_outcome e) ∙ f.answers t l)

    pub tally_absent : r ≡ (Ok None) → walk_from (rows_of tables) s ≡ value None
    unfolding tally_outcome
    tally_absent e = leaves_none (walk_from (rows_of tables) s) (sym (ap tally_outcome e) ∙ f.answers t l) (λ q. let h = hopped (rows_of tables) s [] q in omega (arith, h.one, h.long))

    pub tally_path : (n q a h : ℕ) → r ≡ walked_to n q a h → (hs : List EntryRow) × Went (rows_of tables) s n q a (length tables.devices.now) hs
    unfolding tally_outcome leaving leaves_by at
    tally_path n q a h e = go (leaves_some (walk_from (rows_of tables) s) (record { hops = n; place = q; adapter = a; hop_id = h }) (sym (ap tally_outcome e) ∙ f.answers t l))
      where
        go : (y : EntryRow) × (ys : List EntryRow) × (walk_from (rows_of tables) s ≡ value (Some (y ∷ ys))) × (suc (length ys) ≡ n) × ((last_of y ys).device ≡ q) × ((last_of y ys).out_adapter ≡ a)
            → (hs : List EntryRow) × Went (rows_of tables) s n q a (length tables.devices.now) hs
        go (y, ys, w, c, d, o) = (
          y ∷ ys,
          record {
            walk = w;
            count = c;
            start = path_start (rows_of tables) s (y ∷ ys) w;
            leave = λ h. rw (d, o) refl;
            end = λ p b. rw (d, o) refl;
            there = subst (λ p. p < length tables.devices.now) d (last_there y ys w);
          },
        )
