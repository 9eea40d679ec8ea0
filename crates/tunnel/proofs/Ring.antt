-- Laws of a ring's tunnel: its receive path has a hop, and what is answered of its search. Assumes nothing.
use Prim.Native.Nat.{ℕ, zero, suc, ◌+◌, ◌*◌, ◌≤◌, ◌<◌}
use mathlib.Core.Path.{◌≡◌, refl, sym, ap, ◌∙◌, subst}
use mathlib.Core.Bool.{Bool, true, false, cond, ◌&&◌}
use mathlib.Core.List.{List, [], ◌∷◌}
use Rattle.std.specs.Prelude.{Option, None, Some, Ok, Err, Result}
use native.Mathlib.Omega.{arith}
use lib.Dec.{eqb}
use lib.ListN.{length}
use Rattle.refusal.specs.Outcome.{Outcome, refused, value, bind}
use Rattle.usb4.specs.declared.TunnelType.TheVariants as tunnel_type
use Rattle.tables.specs.Rows.{EntryRow, DeviceRow, Rows}
use Rattle.refusal.proofs.Laws.{walk_bind}
use Rattle.walk.specs.Rule.{stand_of}
use Rattle.walk.specs.Tables.{last_of, leaving_by, Tallied}
use Rattle.path.specs.declared.TheConstants.PathName as name
use Rattle.path.proofs.Writing.{stood}
use Rattle.path.proofs.Answering.{hops_few}
use Rattle.receive.specs.Receive.{at, Lane, Lane.lane, Lane.passed, Lane.dropped as drop, lane_of, Receive, Receive.received, Receive.nothing, Receive.lost, uses_ring, or_rest, among_hops, at_lane, or_next, among_devices, receive}
use Rattle.receive.specs.Tables.{Said, Said.none as said-none, Said.dropped, said_of, received_outcome, path_of, hops_by, Receives}
use Rattle.receive.specs.declared.Received.{Received}
use Rattle.receive.specs.declared.Received.TheVariants as found
use Rattle.tunnel.specs.Tunnels.{tunnel_of, tx_path, with_paths, ring_tunnel, one_dma}
use Rattle.tunnel.specs.Plans.{Plan, start_of, plan_if, planned_as, planned_outcome, words_by, Plans}
use Rattle.tunnel.specs.Work.{Draws, start_by, leaves_by, one_path, one_plan, alone_plan, with_plan, ring_by}
use Rattle.tunnel.specs.declared.Start.{Start as Started}
use Rattle.tunnel.specs.declared.Starts.TheVariants as starts
use Rattle.tunnel.specs.declared.Plan.{Plan as Planned}
use Rattle.tunnel.proofs.Going.{tally_refused, tally_absent, tally_path}
use Rattle.tunnel.proofs.Planning.{planned, Words, plan, from, same_plan, one_plan_lem, two_paths, plans_refused, draws_refused}
use Rattle.walk.specs.Tables.{walked_to}
use Rattle.walk.specs.declared.Walked.{Walked}
use Rattle.tables.specs.declared.Tables.{Tables}
use Rattle.tables.specs.Tables.{Sized, rows_of}
use Rattle.tables.specs.declared.Stand.{Stand}
use Rattle.refusal.specs.declared.WalkError.{WalkError}

-- ---- a receive path has a hop

abbrev Hops : Outcome Receive → Type 0
Hops (refused n vs) = Unit {0}
Hops (value (received [])) = ⊥
Hops (value (received (h ∷ hs))) = Unit {0}
Hops (value nothing) = Unit {0}
Hops (value lost) = Unit {0}

module _ (x : Rows) (ring : ℕ) where
  hops_rest : (rest : Outcome Receive) (o : Outcome (Option (List EntryRow))) → Hops rest → Hops (bind o (or_rest ring rest))
  unfolding bind or_rest uses_ring
  hops_rest rest (refused n vs) k = tt
  hops_rest rest (value None) k = k
  hops_rest rest (value (Some [])) k = k
  hops_rest rest (value (Some (h ∷ hs))) k = go (eqb (last_of h hs).out_hop ring)
    where
      go : (b : Bool) → Hops (cond b (value (received (h ∷ hs))) rest)
      go true = tt
      go false = k

  hops_among : (q n h k : ℕ) → Hops (among_hops x ring q n h k)
  unfolding among_hops
  hops_among q n h zero = tt
  hops_among q n h (suc k) = hops_rest _ _ (hops_among q n (suc h) k)

  hops_lane : (l : Lane) → Hops (at_lane x ring l)
  unfolding at_lane
  hops_lane (lane q n lo hi) = hops_among q n lo _
  hops_lane passed = tt
  hops_lane drop = tt

  hops_next : (rest o : Outcome Receive) → Hops rest → Hops o → Hops (bind o (or_next rest))
  unfolding bind or_next
  hops_next rest (refused n vs) k j = tt
  hops_next rest (value (received [])) k j = j
  hops_next rest (value (received (h ∷ hs))) k j = tt
  hops_next rest (value nothing) k j = k
  hops_next rest (value lost) k j = tt

  hops_bind : (o : Outcome Lane) → Hops (bind o (at_lane x ring))
  unfolding bind
  hops_bind (refused n vs) = tt
  hops_bind (value l) = hops_lane l

  hops_devices : (p : ℕ) (ds : List DeviceRow) → Hops (among_devices x ring p ds)
  unfolding among_devices
  hops_devices p [] = tt
  hops_devices p (d ∷ ds) = hops_next _ _ (hops_devices (suc p) ds) (hops_bind (lane_of x p d))

  hops_received : Hops (receive x ring)
  unfolding receive
  hops_received = hops_devices 0 x.devices

-- ---- the plan of a ring's tunnel

abbrev said : Outcome Receive → Outcome Said
said o = bind o (λ v. value (said_of v))

alone_plan_lem : (o : Outcome Receive) → Hops o → bind (said o) (λ v. value (alone_plan v)) ≡ planned (bind o (λ v. value (ring_tunnel None v)))
unfolding bind said_of alone_plan one_plan ring_tunnel tx_path with_paths plan_if leaving_by start_of
alone_plan_lem (refused n vs) k = refl
alone_plan_lem (value (received [])) k = absurd k
alone_plan_lem (value (received (h ∷ hs))) k = sym (one_plan_lem tunnel_type.Dma 8 (stand_of h) (h ∷ hs) refl)
alone_plan_lem (value nothing) k = refl
alone_plan_lem (value lost) k = refl

with_plan_lem : (p a ring w : ℕ) (ts : List EntryRow) (o : Outcome Receive) → 0 < length ts → start_of ts ≡ at p a ring → w ≡ 1 + 2 * length ts → Hops o
    → bind (said o) (λ v. value (with_plan (at p a ring) (1 + w) v)) ≡ planned (bind o (λ v. value (ring_tunnel (Some ts) v)))
unfolding bind said_of with_plan one_plan ring_tunnel tx_path with_paths plan_if leaving_by start_of tunnel_of leaves_by at
with_plan_lem p a ring w ts (refused n vs) l e f k = refl
with_plan_lem p a ring w ts (value (received [])) l e f k = absurd k
with_plan_lem p a ring w ts (value (received (h ∷ hs))) l e f k = sym (two_paths tunnel_type.Dma 7 8 p a ring w (stand_of h) ts (h ∷ hs) l e refl f)
with_plan_lem p a ring w ts (value nothing) l e f k = ap (λ c. value (Some (plan tunnel_type.Dma false (1 + c) (from (at p a ring) 7 ∷ [])))) f ∙ sym (one_plan_lem tunnel_type.Dma 7 (at p a ring) ts e)
with_plan_lem p a ring w ts (value lost) l e f k = refl

-- ---- what is answered of the search

module _ (tables : Tables) (ring : ℕ) (r : Result Received WalkError) (f : Receives tables ring r) where
  pub ring_refused : (g : Said → Option Plan) (z : WalkError) → r ≡ Err z → Draws tables 0 (λ x. ring_by x ring g) (Err z)
  unfolding ring_by received_outcome
  ring_refused g z e = draws_refused tables 0 _ z (λ t l. sym (walk_bind z (λ v. value (g v))) ∙ ap (λ o. bind o (λ v. value (g v))) (sym (ap (received_outcome ring) e) ∙ f.answers t))

  -- what is said of it is put in
  ring_says : (g : Said → Option Plan) (v : Said) (y : Result (Option Planned) WalkError) → received_outcome ring r ≡ value v → (Sized tables → planned_outcome y ≡ value (g v)) → words_by y ≤ 1048576 → Draws tables 0 (λ x. ring_by x ring g) y
  unfolding ring_by bind
  ring_says g v y e h k = record { answers = λ z t l. h z ∙ ap (λ o. bind o (λ v. value (g v))) (sym e ∙ f.answers t); few = k }

  pub alone_lost : r ≡ Ok found.Lost → Draws tables 0 (λ x. ring_by x ring alone_plan) (Ok None)
  unfolding received_outcome planned_outcome words_by alone_plan
  alone_lost e = ring_says alone_plan dropped (Ok None) (ap (received_outcome ring) e) (λ z. refl) (omega arith)

  pub alone_nothing : r ≡ Ok found.Nothing → Draws tables 0 (λ x. ring_by x ring alone_plan) (Ok None)
  unfolding received_outcome planned_outcome words_by alone_plan
  alone_nothing e = ring_says alone_plan said-none (Ok None) (ap (received_outcome ring) e) (λ z. refl) (omega arith)

  few_hops : (s : Stand) (k o b : ℕ) → r ≡ Ok (found.Path (path_of s k o b)) → Sized tables → k ≤ 4096
  unfolding hops_by
  few_hops s k o b e z = let v : k ≤ length tables.entries.now = subst (λ y. hops_by y ≤ length tables.entries.now) e f.few in omega (arith, z.entries)

  pub alone_path : (s : Stand) (k o b w : ℕ) (y : Planned) → r ≡ Ok (found.Path (path_of s k o b)) → Words k w → y ≡ one_path (1 + w) (start_by s name.DMA_RX) → Draws tables 0 (λ x. ring_by x ring alone_plan) (Ok (Some y))
  unfolding received_outcome planned_outcome words_by alone_plan one_path one_plan
  alone_path s k o b w y e (m, g) i = subst (λ z. Draws tables 0 (λ x. ring_by x ring alone_plan) (Ok (Some z))) (sym i)
      (ring_says alone_plan _ (Ok (Some (one_path (1 + w) (start_by s name.DMA_RX)))) (ap (received_outcome ring) e)
      (λ z. ap (λ c. value (Some (plan tunnel_type.Dma false (1 + c) (from s 8 ∷ [])))) (g (omega (arith, few_hops s k o b e z))))
      (omega arith))

  module _ (s : Stand) (words : ℕ) (few : words ≤ 131072) where
    pub with_lost : r ≡ Ok found.Lost → Draws tables 0 (λ x. ring_by x ring (with_plan s words)) (Ok None)
    unfolding received_outcome planned_outcome words_by with_plan
    with_lost e = ring_says (with_plan s words) dropped (Ok None) (ap (received_outcome ring) e) (λ z. refl) (omega arith)

    pub with_nothing : (y : Planned) → r ≡ Ok found.Nothing → y ≡ one_path words (start_by s name.DMA_TX) → Draws tables 0 (λ x. ring_by x ring (with_plan s words)) (Ok (Some y))
    unfolding received_outcome planned_outcome words_by with_plan one_path one_plan
    with_nothing y e i = subst (λ z. Draws tables 0 (λ x. ring_by x ring (with_plan s words)) (Ok (Some z))) (sym i)
        (ring_says (with_plan s words) said-none (Ok (Some (one_path words (start_by s name.DMA_TX)))) (ap (received_outcome ring) e) (λ z. refl) (omega arith))

    pub with_path_lem : (t : Stand) (k o b w : ℕ) (c : Bool) → r ≡ Ok (found.Path (path_of t k o b)) → Words k w → c ≡ (eqb o s.place && eqb b s.adapter)
        → Draws tables 0 (λ x. ring_by x ring (with_plan s words)) (Ok (Some (planned_as tunnel_type.Dma c (words + w) (starts.Two (start_by s name.DMA_TX) (start_by t name.DMA_RX)))))
    unfolding received_outcome planned_outcome words_by with_plan
    with_path_lem t k o b w c e (m, g) i =
        ring_says (with_plan s words) _ _ (ap (received_outcome ring) e)
        (λ z. same_plan tunnel_type.Dma i (ap (λ d. words + d) (g (omega (arith, few_hops t k o b e z)))) refl)
        (omega arith)

-- ---- a ring's tunnel

module _ (tables : Tables) (p a ring : ℕ) (r : Result (Option Walked) WalkError) (f : Tallied tables (stood p a ring) r) where
  pub dma_refused : (z : WalkError) → r ≡ Err z → Plans tables p (λ x. one_dma x p a ring) (Err z)
  unfolding one_dma at
  dma_refused z e = plans_refused tables p _ z (λ t l. tally_refused tables _ r f t l z _ e)

  pub dma_alone : (y : Result (Option Planned) WalkError) → r ≡ (Ok None) → Draws tables 0 (λ x. ring_by x ring alone_plan) y → Plans tables p (λ x. one_dma x p a ring) y
  unfolding one_dma at ring_by bind
  dma_alone y e d = record {
    answers = λ v t l.
        let x = rows_of tables in
        d.answers v t (omega arith) ∙ alone_plan_lem (receive x ring) (hops_received x ring)
        ∙ ap (λ o. planned (bind o (λ tx. bind (receive x ring) (λ u. value (ring_tunnel tx u))))) (sym (tally_absent tables _ r f t l e));
    few = d.few;
  }

  pub dma_with : (n q b h w : ℕ) (y : Result (Option Planned) WalkError) → r ≡ walked_to n q b h → Words n w → Draws tables 0 (λ x. ring_by x ring (with_plan (at p a ring) (1 + w))) y → Plans tables p (λ x. one_dma x p a ring) y
  unfolding one_dma at ring_by bind
  dma_with n q b h w y e (m, k) d = record {
    answers = λ v t l.
        let x = rows_of tables in
        let u = tally_path tables _ r f t l n q b h e in
        let few = hops_few tables _ r v f n q b h e in
        d.answers v t (omega arith)
        ∙ with_plan_lem p a ring w u.0 (receive x ring) (omega (arith, u.1.count, few)) u.1.start (k (omega (arith, few)) ∙ ap (λ c. 1 + 2 * c) (sym u.1.count)) (hops_received x ring)
        ∙ ap (λ o. planned (bind o (λ tx. bind (receive x ring) (λ z. value (ring_tunnel tx z))))) (sym u.1.walk);
    few = d.few;
  }

-- ---- a plan's bound, whatever was sought

pub one_bound : (y : Planned) (w : ℕ) (s : Started) → y ≡ one_path w s → w ≤ 131073 → words_by (Ok (Some y)) ≤ 1048576
unfolding one_path words_by
one_bound y w s e l = subst (λ z. words_by (Ok (Some z)) ≤ 1048576) (sym e) (omega (arith, l))
