-- The paths of a tunnel that is discovered are walks from where their first hops stand. Assumes nothing.
use Prim.Native.Nat.{ℕ, zero, suc, ◌+◌, ◌-◌, ◌≤◌}
use mathlib.Core.Path.{◌≡◌, refl, sym, ap, ◌∙◌, subst}
use mathlib.Core.Bool.{Bool, true, false, cond}
use mathlib.Core.List.{List, [], ◌∷◌}
use Rattle.std.specs.Prelude.{Option, None, Some}
use native.Mathlib.Omega.{arith}
use lib.ListN.{get_or}
use Rattle.refusal.specs.Outcome.{Outcome, refused, value, bind}
use Rattle.usb4.specs.declared.TunnelType.{TunnelType}
use Rattle.tables.specs.Rows.{EntryRow, DeviceRow, Rows}
use Rattle.orbit.specs.Walk.{Spot.stand, found, arrive, walk_n}
use Rattle.walk.specs.Walking.{End, walk_on}
use Rattle.walk.specs.Rule.{walk_from, stand_of}
use Rattle.walk.proofs.Laws.{hopped, path_rule}
use Rattle.receive.specs.Receive.{at, Lane, Lane.lane, Lane.passed, Lane.dropped, lane_of, at_lane, Receive, Receive.received, Receive.nothing, Receive.lost, uses_ring, or_rest, or_next, among_hops, among_devices, receive}
use Rattle.tunnel.specs.Tunnels.{Tunnel, path, or_absent, needed, tunnel_of, down_and_up, display_port, tx_path, with_paths, ring_tunnel, one_dma}
use Rattle.tunnel.specs.Plans.{start_of}
use Rattle.discovery.specs.Work.{AllWalk, Walks}
use Rattle.tables.specs.declared.Stand.{Stand}

-- ---- a path starts where it was looked for

stand_same : (s t : Stand) (o : Option EntryRow) → found {E = End} s o ≡ stand t → s ≡ t
unfolding found
stand_same s t None e = absurd (let z : ◌≡◌ {A = ℕ} 0 1 = cc in omega arith)
stand_same s t (Some h) e = cc

-- a path has a hop
pub starts : (x : Rows) (s : Stand) (hs : List EntryRow) → walk_from x s ≡ value (Some hs) → start_of hs ≡ s
unfolding start_of walk_n arrive
starts x s [] e = absurd (let h = hopped x s [] e in omega (arith, h.one, h.long))
starts x s (e ∷ es) q =
    let h = hopped x s (e ∷ es) q in
    let r = path_rule x s h.count h.one h.ends in
    sym (stand_same s (stand_of e) ((walk_on x).hop s) (r.stands e 0 h.one ∙ ap (λ l. stand (stand_of (get_or l 0 e))) h.hops))

pub walked : (x : Rows) (s : Stand) (hs : List EntryRow) → walk_from x s ≡ value (Some hs) → walk_from x (start_of hs) ≡ value (Some hs)
walked x s hs e = ap (walk_from x) (starts x s hs e) ∙ e

-- ---- what holds of every value of an outcome

module _ {A : Type 0} (P : A → Type 0) where
  abbrev Of : Outcome A → Type 0
  Of o = (a : A) → o ≡ value a → P a

  of_value : (a : A) → P a → Of (value a)
  of_value a p b e = subst P (let z : a ≡ b = cc in z) p

  of_bind : {B : Type 0} (o : Outcome B) (f : B → Outcome A) → ((b : B) → o ≡ value b → Of (f b)) → Of (bind o f)
  unfolding bind
  of_bind (refused k vs) f h a e = absurd (let z : ◌≡◌ {A = ℕ} 0 1 = cc in omega arith)
  of_bind (value b) f h a e = h b refl a e

-- a walk that must give a path
of_needed : (x : Rows) (s : Stand) (f : List EntryRow → Outcome (Option Tunnel)) → ((hs : List EntryRow) → walk_from x (start_of hs) ≡ value (Some hs) → Of (Walks x) (f hs)) → Of (Walks x) (needed x s f)
unfolding needed or_absent Walks
of_needed x s f h = of_bind (Walks x) (walk_from x s) _ go
  where
    go : (o : Option (List EntryRow)) → walk_from x s ≡ value o → Of (Walks x) (or_absent o f)
    go None e = of_value (Walks x) None (omega arith)
    go (Some hs) e = h hs (walked x s hs e)

-- ---- each kind of tunnel

pub down_and_up_walks : (x : Rows) (t : TunnelType) (down up p a : ℕ) → Of (Walks x) (down_and_up x t down up p a)
unfolding down_and_up tunnel_of Walks AllWalk path
down_and_up_walks x t down up p a = of_needed x _ _ (λ ds d. of_needed x _ _ (λ us u. of_value (Walks x) _ (d, (u, omega arith))))

pub display_port_walks : (x : Rows) (p a : ℕ) → Of (Walks x) (display_port x p a)
unfolding display_port tunnel_of Walks AllWalk path
display_port_walks x p a = of_needed x _ _ (λ vs v. of_needed x _ _ (λ ts t. of_needed x _ _ (λ rs r. of_value (Walks x) _ (v, (t, (r, omega arith))))))

-- ---- receive paths

unfoldable Received : Rows → Receive → Type 0
Received x (received hs) = walk_from x (start_of hs) ≡ value (Some hs)
Received x nothing = 0 ≤ 0
Received x lost = 0 ≤ 0

among_hops_walks : (x : Rows) (ring q n h k : ℕ) → Of (Received x) (among_hops x ring q n h k)
unfolding among_hops or_rest Received
among_hops_walks x ring q n h zero = of_value (Received x) nothing (omega arith)
among_hops_walks x ring q n h (suc k) = of_bind (Received x) (walk_from x (at q n h)) _ (λ o e. go o e (among_hops_walks x ring q n (suc h) k))
  where
    go : (o : Option (List EntryRow)) → walk_from x (at q n h) ≡ value o → Of (Received x) (among_hops x ring q n (suc h) k) → Of (Received x) (or_rest ring (among_hops x ring q n (suc h) k) o)
    go None e rest = rest
    go (Some hs) e rest = pick (uses_ring ring hs)
      where
        pick : (b : Bool) → Of (Received x) (cond b (value (received hs)) (among_hops x ring q n (suc h) k))
        pick true = of_value (Received x) (received hs) (walked x (at q n h) hs e)
        pick false = rest

among_devices_walks : (x : Rows) (ring p : ℕ) (ds : List DeviceRow) → Of (Received x) (among_devices x ring p ds)
unfolding among_devices or_next Received at_lane
among_devices_walks x ring p [] = of_value (Received x) nothing (omega arith)
among_devices_walks x ring p (d ∷ ds) = of_bind (Received x) (bind (lane_of x p d) (at_lane x ring)) _ (λ r e. next r (of_bind (Received x) (lane_of x p d) (at_lane x ring) (λ l f. along l) r e) (among_devices_walks x ring (suc p) ds))
  where
    along : (l : Lane) → Of (Received x) (at_lane x ring l)
    along (lane q n lo hi) = among_hops_walks x ring q n lo (hi + 1 - lo)
    along passed = of_value (Received x) nothing (omega arith)
    along dropped = of_value (Received x) lost (omega arith)

    next : (r : Receive) → Received x r → Of (Received x) (among_devices x ring (suc p) ds) → Of (Received x) (or_next (among_devices x ring (suc p) ds) r)
    next (received hs) e rest = of_value (Received x) (received hs) e
    next nothing e rest = rest
    next lost e rest = of_value (Received x) lost (omega arith)

ring_walks : (x : Rows) (s : Stand) (tx : Option (List EntryRow)) (r : Receive) → walk_from x s ≡ value tx → Received x r → Walks x (ring_tunnel tx r)
unfolding ring_tunnel with_paths tx_path Walks AllWalk Received path
ring_walks x s None (received hs) e f = (f, omega arith)
ring_walks x s None nothing e f = omega arith
ring_walks x s None lost e f = omega arith
ring_walks x s (Some ts) (received hs) e f = (walked x s ts e, (f, omega arith))
ring_walks x s (Some ts) nothing e f = (walked x s ts e, omega arith)
ring_walks x s (Some ts) lost e f = omega arith

pub one_dma_walks : (x : Rows) (p a ring : ℕ) → Of (Walks x) (one_dma x p a ring)
unfolding one_dma receive
one_dma_walks x p a ring =
    of_bind (Walks x) (walk_from x (at p a ring)) _
    (λ tx e. of_bind (Walks x) (receive x ring) _
    (λ r f. of_value (Walks x) _ (ring_walks x (at p a ring) tx r e (among_devices_walks x ring 0 x.devices r f))))
