-- No entry has a HopID above 65,535: rings past it have no tunnel, and are refused only where another ring is. Assumes nothing.
use Rattle.std.specs.Option.{option_to_list}
use Prim.Native.Nat.{ℕ, zero, suc, ◌+◌, ◌-◌, ◌%◌, ◌≤◌, ◌<◌}
use mathlib.Core.Path.{◌≡◌, refl, sym, ap, ◌∙◌, subst}
use mathlib.Core.Bool.{Bool, true, false, cond, ◌&&◌, ◌||◌, true≢false, false≢true}
use mathlib.Core.List.{List, [], ◌∷◌, ◌++◌, map}
use Rattle.std.specs.Prelude.{Option, None, Some}
use native.Mathlib.Omega.{arith}
use native.Mathlib.Decide.{dec_lt}
use lib.Dec.{ltb, eqb}
use lib.ListN.{length, get_or, length-map}
use borrow.Author.Tests.{lt-ltb, le-ltb, ne_eqb, eqb-true, eq-eqb}
use Rattle.refusal.specs.Outcome.{Outcome, refused, value, bind}
use Rattle.tables.specs.Rows.{EntryRow, DeviceRow, Rows, entry_in}
use Rattle.tables.specs.Packed.{entry_word, entries_in}
use Rattle.orbit.proofs.Orbit.{hop_to_make, hop_at_lem}
use Rattle.walk.specs.Walking.{walk_on}
use Rattle.walk.specs.Rule.{walk_from}
use Rattle.walk.specs.Tables.{last_of}
use Rattle.walk.proofs.Laws.{hopped}
use Rattle.receive.specs.Receive.{at, Lane, Lane.lane, Lane.passed, Lane.dropped, lane_of, at_lane, Receive, Receive.received, Receive.nothing, Receive.lost, uses_ring, or_rest, or_next, among_hops, among_devices, receive}
use Rattle.search.proofs.Laws.{past_hops}
use Rattle.receive.proofs.Hops.{walk_none}
use Rattle.tunnel.specs.Tunnels.{Tunnel, tx_path, with_paths, ring_tunnel, one_dma, rings}
use Rattle.discovery.specs.Work.{rings_end, among}
use Rattle.discovery.proofs.Rings.{rings_split}
use Rattle.tables.specs.declared.Stand.{Stand}
use Rattle.tables.specs.declared.Tables.{Tables}
use Rattle.tables.specs.Tables.{Sized, rows_of}

-- ---- of more rings than entries, one is no entry's out HopID

unfoldable without : ℕ → List ℕ → List ℕ
without v [] = []
without v (x ∷ l) = cond (eqb x v) (without v l) (x ∷ without v l)

without_few : (v : ℕ) (l : List ℕ) → length (without v l) ≤ length l
unfolding without
without_few v [] = omega arith
without_few v (x ∷ l) = go (eqb x v) (without_few v l)
  where
    go : (b : Bool) → length (without v l) ≤ length l → length (cond b (without v l) (x ∷ without v l)) ≤ suc (length l)
    go true k = omega arith
    go false k = omega arith

without_fewer : (v : ℕ) (l : List ℕ) → among v l ≡ true → length (without v l) < length l
unfolding without among
without_fewer v [] e = absurd (false≢true e)
without_fewer v (x ∷ l) e = go (eqb x v) e (without_fewer v l)
  where
    go : (b : Bool) → (b || among v l) ≡ true → (among v l ≡ true → length (without v l) < length l) → length (cond b (without v l) (x ∷ without v l)) < suc (length l)
    go true f ih = omega (arith, without_few v l)
    go false f ih = let k = ih f in omega arith

without_other : (v q : ℕ) (l : List ℕ) → (q ≡ v → ⊥) → among q (without v l) ≡ false → among q l ≡ false
unfolding without among
without_other v q [] n e = refl
without_other v q (x ∷ l) n e = go (eqb x v) refl e (without_other v q l n)
  where
    go : (b : Bool) → eqb x v ≡ b → among q (cond b (without v l) (x ∷ without v l)) ≡ false → (among q (without v l) ≡ false → among q l ≡ false) → (eqb x q || among q l) ≡ false
    go true f g ih = ap (λ c. c || among q l) (ne_eqb x q (λ k. n (sym k ∙ eqb-true x v f))) ∙ ih g
    go false f g ih = pick (eqb x q) g
      where
        pick : (c : Bool) → (c || among q (without v l)) ≡ false → (c || among q l) ≡ false
        pick true h = absurd (true≢false h)
        pick false h = ih h

fresh : (n : ℕ) (l : List ℕ) → length l ≤ n → (q : ℕ) × (1 ≤ q) × (q ≤ n + 1) × (among q l ≡ false)
unfolding among
fresh zero [] k = (1, omega arith, omega arith, refl)
fresh zero (x ∷ l) k = absurd (omega arith)
fresh (suc n) l k = go (among (suc n + 1) l) refl (fresh n (without (suc n + 1) l))
  where
    go : (b : Bool) → among (suc n + 1) l ≡ b → (length (without (suc n + 1) l) ≤ n → (q : ℕ) × (1 ≤ q) × (q ≤ n + 1) × (among q (without (suc n + 1) l) ≡ false)) → (q : ℕ) × (1 ≤ q) × (q ≤ suc n + 1) × (among q l ≡ false)
    go false e ih = (suc n + 1, omega arith, omega arith, e)
    go true e ih =
        let w = ih (omega (arith, without_fewer (suc n + 1) l e)) in
        (w.0, w.1, omega (arith, w.2), without_other (suc n + 1) w.0 l (λ f. omega (arith, w.2)) w.3)

-- ---- a ring that no entry leaves by

-- no entry that is found leaves by it
unfoldable pub Unused : Rows → ℕ → Type 0
Unused x v = (p a h : ℕ) (e : EntryRow) → entry_in x.entries p a h ≡ Some e → e.out_hop ≡ v → ⊥

abbrev outs : List EntryRow → List ℕ
outs es = map (λ (e : EntryRow). e.out_hop) es

found_among : (es : List EntryRow) (p a h : ℕ) (e : EntryRow) → entry_in es p a h ≡ Some e → among e.out_hop (outs es) ≡ true
unfolding entry_in among
found_among [] p a h e q = absurd (let z : ◌≡◌ {A = ℕ} 0 1 = cc in omega arith)
found_among (y ∷ es) p a h e q = go (eqb y.device p && eqb y.adapter a && eqb y.in_hop h) q (found_among es p a h e)
  where
    go : (b : Bool) → cond b (Some y) (entry_in es p a h) ≡ Some e → (entry_in es p a h ≡ Some e → among e.out_hop (outs es) ≡ true) → (eqb y.out_hop e.out_hop || among e.out_hop (outs es)) ≡ true
    go true f ih = let z : y ≡ e = cc in ap (λ b. b || among e.out_hop (outs es)) (eq-eqb y.out_hop e.out_hop (ap (λ (r : EntryRow). r.out_hop) z))
    go false f ih = pick (eqb y.out_hop e.out_hop) (ih f)
      where
        pick : (c : Bool) → among e.out_hop (outs es) ≡ true → (c || among e.out_hop (outs es)) ≡ true
        pick true g = refl
        pick false g = g

pub unused : (x : Rows) (v : ℕ) → among v (outs x.entries) ≡ false → Unused x v
unfolding Unused
unused x v n p a h e q f = true≢false (sym (found_among x.entries p a h e q) ∙ ap (λ k. among k (outs x.entries)) f ∙ n)

-- the last hop of a path is an entry that was found
last_at : (d e : EntryRow) (es : List EntryRow) → get_or (e ∷ es) (length es) d ≡ last_of e es
unfolding last_of
last_at d e [] = refl
last_at d e (h ∷ es) = last_at d h es

last_found : (x : Rows) (s : Stand) (e : EntryRow) (es : List EntryRow) → walk_from x s ≡ value (Some (e ∷ es)) → (y : Stand) × ((walk_on x).hop y ≡ Some (last_of e es))
last_found x s e es q =
    let h = hopped x s (e ∷ es) q in
    let l : length es < h.count = omega (arith, h.long) in
    let w = hop_to_make (walk_on x) s (length es) (h.ends.hops (length es) l) in
    (w.0, w.3 ∙ ap Some (sym (hop_at_lem (walk_on x) s h.count (length es) w.0 w.1 e l h.ends.hops w.2 w.3) ∙ ap (λ z. get_or z (length es) e) h.hops ∙ last_at e e es))

not_used : (x : Rows) (v : ℕ) (s : Stand) (hs : List EntryRow) → Unused x v → walk_from x s ≡ value (Some hs) → uses_ring v hs ≡ false
unfolding uses_ring Unused walk_on
not_used x v s [] u q = refl
not_used x v s (e ∷ es) u q = let w = last_found x s e es q in ne_eqb (last_of e es).out_hop v (u w.0.place w.0.adapter w.0.hop_id (last_of e es) w.1)

-- ---- rings that no entry leaves by are searched alike, and not found

module _ (x : Rows) (v w : ℕ) (u : Unused x v) (t : Unused x w) where
  hops_alike : (q n h k : ℕ) → among_hops x v q n h k ≡ among_hops x w q n h k
  unfolding among_hops bind or_rest
  hops_alike q n h zero = refl
  hops_alike q n h (suc k) = go (walk_from x (at q n h)) refl (hops_alike q n (suc h) k)
    where
      go : (o : Outcome (Option (List EntryRow))) → walk_from x (at q n h) ≡ o → among_hops x v q n (suc h) k ≡ among_hops x w q n (suc h) k → bind o (or_rest v (among_hops x v q n (suc h) k)) ≡ bind o (or_rest w (among_hops x w q n (suc h) k))
      go (refused j vs) e ih = refl
      go (value None) e ih = ih
      go (value (Some hs)) e ih =
          ap (λ b. cond b (value (received hs)) (among_hops x v q n (suc h) k)) (not_used x v (at q n h) hs u e) ∙ ih ∙ sym (ap (λ b. cond b (value (received hs)) (among_hops x w q n (suc h) k)) (not_used x w (at q n h) hs t e))

  lane_alike : (l : Lane) → at_lane x v l ≡ at_lane x w l
  unfolding at_lane
  lane_alike (lane q n lo hi) = hops_alike q n lo (hi + 1 - lo)
  lane_alike passed = refl
  lane_alike dropped = refl

  devices_alike : (p : ℕ) (ds : List DeviceRow) → among_devices x v p ds ≡ among_devices x w p ds
  unfolding among_devices bind
  devices_alike p [] = refl
  devices_alike p (d ∷ ds) = go (lane_of x p d) ∙ ap (λ r. bind (bind (lane_of x p d) (at_lane x w)) (or_next r)) (devices_alike (suc p) ds)
    where
      go : (o : Outcome Lane) → bind (bind o (at_lane x v)) (or_next (among_devices x v (suc p) ds)) ≡ bind (bind o (at_lane x w)) (or_next (among_devices x v (suc p) ds))
      go (refused j vs) = refl
      go (value l) = ap (λ r. bind r (or_next (among_devices x v (suc p) ds))) (lane_alike l)

  pub receive_alike : receive x v ≡ receive x w
  unfolding receive
  receive_alike = devices_alike 0 x.devices

-- what an unused ring's search doesn't come to
unfoldable Bare : Outcome Receive → Type 0
Bare o = (hs : List EntryRow) → o ≡ value (received hs) → ⊥

module _ (x : Rows) (v : ℕ) (u : Unused x v) where
  hops_bare : (q n h k : ℕ) → Bare (among_hops x v q n h k)
  unfolding among_hops bind or_rest Bare
  hops_bare q n h zero hs e = let z : ◌≡◌ {A = ℕ} 0 1 = cc in omega arith
  hops_bare q n h (suc k) hs e = go (walk_from x (at q n h)) refl (hops_bare q n (suc h) k hs) e
    where
      go : (o : Outcome (Option (List EntryRow))) → walk_from x (at q n h) ≡ o → (among_hops x v q n (suc h) k ≡ value (received hs) → ⊥) → bind o (or_rest v (among_hops x v q n (suc h) k)) ≡ value (received hs) → ⊥
      go (refused j vs) f ih g = let z : ◌≡◌ {A = ℕ} 0 1 = cc in omega arith
      go (value None) f ih g = ih g
      go (value (Some ks)) f ih g = ih (sym (ap (λ b. cond b (value (received ks)) (among_hops x v q n (suc h) k)) (not_used x v (at q n h) ks u f)) ∙ g)

  devices_bare : (p : ℕ) (ds : List DeviceRow) → Bare (among_devices x v p ds)
  unfolding among_devices bind or_next at_lane Bare
  devices_bare p [] hs e = let z : ◌≡◌ {A = ℕ} 0 1 = cc in omega arith
  devices_bare p (d ∷ ds) hs e = along (lane_of x p d) (devices_bare (suc p) ds hs) e
    where
      next : (o : Outcome Receive) → (o ≡ value (received hs) → ⊥) → (among_devices x v (suc p) ds ≡ value (received hs) → ⊥) → bind o (or_next (among_devices x v (suc p) ds)) ≡ value (received hs) → ⊥
      next (refused j vs) b ih g = let z : ◌≡◌ {A = ℕ} 0 1 = cc in omega arith
      next (value (received ks)) b ih g = b g
      next (value nothing) b ih g = ih g
      next (value lost) b ih g = let z : ◌≡◌ {A = ℕ} 0 1 = cc in omega arith

      along : (o : Outcome Lane) → (among_devices x v (suc p) ds ≡ value (received hs) → ⊥) → bind (bind o (at_lane x v)) (or_next (among_devices x v (suc p) ds)) ≡ value (received hs) → ⊥
      along (refused j vs) ih g = let z : ◌≡◌ {A = ℕ} 0 1 = cc in omega arith
      along (value (lane q n lo hi)) ih g = next (among_hops x v q n lo (hi + 1 - lo)) (hops_bare q n lo (hi + 1 - lo) hs) ih g
      along (value passed) ih g = ih g
      along (value dropped) ih g = let z : ◌≡◌ {A = ℕ} 0 1 = cc in omega arith

  -- such a ring has no tunnel, where it has no DMA TX path
  pub bare_tunnel : (r : Receive) → receive x v ≡ value r → ring_tunnel None r ≡ None
  unfolding receive ring_tunnel with_paths tx_path Bare
  bare_tunnel (received hs) e = absurd (devices_bare 0 x.devices hs e)
  bare_tunnel nothing e = refl
  bare_tunnel lost e = refl

-- ---- rings past 65,535

module _ (tables : Tables) where
  abbrev x : Rows
  x = rows_of tables

  past_walk : (p a h : ℕ) → 65535 < h → walk_from x (at p a h) ≡ value None
  unfolding rows_of at
  past_walk p a h k = walk_none x (at p a h) (past_hops tables.entries.now p a h k)

  past_out : (l : List ℕ) (v : ℕ) → 65535 < v → among v (outs (entries_in l)) ≡ false
  unfolding among entry_word
  past_out [] v k = refl
  past_out (w ∷ l) v k = ap (λ b. b || among v (outs (entries_in l))) (ne_eqb (w % 65536) v (λ e. omega arith)) ∙ past_out l v k

  -- a ring past them is as one of 1 to 4,097 that isn't received
  past_ring : (p a v : ℕ) → Sized tables → 65535 < v → ((h : ℕ) → 1 ≤ h → h < 65536 → (t : Option Tunnel) × (one_dma x p a h ≡ value t)) → one_dma x p a v ≡ value None
  unfolding one_dma bind rows_of
  past_ring p a v z k each = go (fresh 4096 (outs (entries_in tables.entries.now)) (omega (arith, z.entries, length-map (entries_in tables.entries.now) (λ (e : EntryRow). e.out_hop), length-map tables.entries.now entry_word)))
    where
      u : Unused x v
      u = unused x v (past_out tables.entries.now v k)

      go : (q : ℕ) × (1 ≤ q) × (q ≤ 4096 + 1) × (among q (outs (entries_in tables.entries.now)) ≡ false) → one_dma x p a v ≡ value None
      go (q, from, to, n) = there (each q from (omega arith))
        where
          alike : receive x v ≡ receive x q
          alike = receive_alike x v q u (unused x q n)

          -- the other ring's search comes to something
          there : (t : Option Tunnel) × (one_dma x p a q ≡ value t) → one_dma x p a v ≡ value None
          there (t, f) = by (walk_from x (at p a q)) (receive x q) refl f
            where
              by : (s : Outcome (Option (List EntryRow))) (o : Outcome Receive) → receive x q ≡ o → bind s (λ tx. bind o (λ r. value (ring_tunnel tx r))) ≡ value t → one_dma x p a v ≡ value None
              by (refused j vs) o e g = absurd (let y : ◌≡◌ {A = ℕ} 0 1 = cc in omega arith)
              by (value tx) (refused j vs) e g = absurd (let y : ◌≡◌ {A = ℕ} 0 1 = cc in omega arith)
              by (value tx) (value r) e g =
                  ap (λ s. bind s (λ tx. bind (receive x v) (λ r. value (ring_tunnel tx r)))) (past_walk p a v k)
                  ∙ ap (λ o. bind o (λ r. value (ring_tunnel None r))) (alike ∙ e)
                  ∙ ap value (bare_tunnel x v u r (alike ∙ e))

  -- every ring of those that are discovered
  each_ring : (p a h k : ℕ) (ts : List Tunnel) → rings x p a h k ≡ value ts → (j : ℕ) → h ≤ j → j < h + k → (t : Option Tunnel) × (one_dma x p a j ≡ value t)
  each_ring p a h zero ts e j l m = absurd (omega arith)
  each_ring p a h (suc k) ts e j l m = go (rings_split x p a h k ts e) (dec_lt h j) (λ vs g n. each_ring p a (suc h) k vs g j n (omega arith))
    where
      go : (t : Option Tunnel) × (vs : List Tunnel) × (one_dma x p a h ≡ value t) × (rings x p a (suc h) k ≡ value vs) × (ts ≡ option_to_list t ++ vs) → Dec (h < j) → ((vs : List Tunnel) → rings x p a (suc h) k ≡ value vs → suc h ≤ j → (t : Option Tunnel) × (one_dma x p a j ≡ value t)) → (t : Option Tunnel) × (one_dma x p a j ≡ value t)
      go (t, vs, f, g, q) (yes n) ih = ih vs g (omega arith)
      go (t, vs, f, g, q) (no n) ih = (t, ap (one_dma x p a) (let y : j ≡ h = omega arith in y) ∙ f)

  -- more rings, past those that end it
  rings_refused : (p a h k m j : ℕ) (vs : List ℕ) → rings x p a h k ≡ refused j vs → rings x p a h (k + m) ≡ refused j vs
  unfolding rings bind
  rings_refused p a h zero m j vs e = absurd (let y : ◌≡◌ {A = ℕ} 0 1 = cc in omega arith)
  rings_refused p a h (suc k) m j vs e = ap (rings x p a h) (let y : suc k + m ≡ suc (k + m) = omega arith in y) ∙ go (one_dma x p a h) (rings x p a (suc h) k) refl (rings_refused p a (suc h) k m j vs) e
    where
      go : (o : Outcome (Option Tunnel)) (q : Outcome (List Tunnel)) → rings x p a (suc h) k ≡ q → (rings x p a (suc h) k ≡ refused j vs → rings x p a (suc h) (k + m) ≡ refused j vs) → bind o (λ t. bind q (λ ts. value (option_to_list t ++ ts))) ≡ refused j vs
          → bind o (λ t. bind (rings x p a (suc h) (k + m)) (λ ts. value (option_to_list t ++ ts))) ≡ refused j vs
      go (refused i us) q f ih g = g
      go (value t) (refused i us) f ih g = ap (λ r. bind r (λ ts. value (option_to_list t ++ ts))) (ih (f ∙ (let y : i ≡ j = cc in let z : us ≡ vs = cc in ap (λ n. refused n us) y ∙ ap (refused j) z)))
      go (value t) (value us) f ih g = absurd (let y : ◌≡◌ {A = ℕ} 0 1 = cc in omega arith)

  rings_same : (p a h k m : ℕ) → rings x p a (h + k) m ≡ value [] → rings x p a h (k + m) ≡ rings x p a h k
  unfolding rings
  rings_same p a h zero m e = ap (λ n. rings x p a n (0 + m)) (let y : h ≡ h + 0 = omega arith in y) ∙ ap (rings x p a (h + 0)) (let y : 0 + m ≡ m = omega arith in y) ∙ e
  rings_same p a h (suc k) m e =
      ap (rings x p a h) (let y : suc k + m ≡ suc (k + m) = omega arith in y)
      ∙ ap (λ r. bind (one_dma x p a h) (λ t. bind r (λ ts. value (option_to_list t ++ ts)))) (rings_same p a (suc h) k m (ap (λ n. rings x p a n m) (let y : suc h + k ≡ h + suc k = omega arith in y) ∙ e))

  rings_none : (p a h m : ℕ) → ((v : ℕ) → h ≤ v → one_dma x p a v ≡ value None) → rings x p a h m ≡ value []
  unfolding rings bind
  rings_none p a h zero f = refl
  rings_none p a h (suc m) f =
      ap (λ o. bind o (λ t. bind (rings x p a (suc h) m) (λ ts. value (option_to_list t ++ ts)))) (f h (omega arith))
      ∙ ap (λ r. bind r (λ ts. value ([] ++ ts))) (rings_none p a (suc h) m (λ v l. f v (omega arith)))

  pub rings_capped : (p a hi : ℕ) → Sized tables → rings x p a 1 hi ≡ rings x p a 1 (rings_end hi - 1)
  unfolding rings_end
  rings_capped p a hi z = go (dec_lt 65535 hi)
    where
      past : (o : Outcome (List Tunnel)) → rings x p a 1 65535 ≡ o → rings x p a 1 (65535 + (hi - 65535)) ≡ rings x p a 1 65535
      past (refused j vs) e = rings_refused p a 1 65535 (hi - 65535) j vs e ∙ sym e
      past (value ts) e = rings_same p a 1 65535 (hi - 65535) (rings_none p a (1 + 65535) (hi - 65535) (λ v l. past_ring p a v z (omega arith) (λ h from to. each_ring p a 1 65535 ts e h from (omega arith))))

      go : Dec (65535 < hi) → rings x p a 1 hi ≡ rings x p a 1 (cond (ltb 65535 hi) 65536 (hi + 1) - 1)
      go (yes l) = ap (rings x p a 1) (let y : hi ≡ 65535 + (hi - 65535) = omega arith in y) ∙ past (rings x p a 1 65535) refl ∙ ap (λ b. rings x p a 1 (cond b 65536 (hi + 1) - 1)) (sym (lt-ltb 65535 hi l))
      go (no l) = ap (rings x p a 1) (let y : hi ≡ hi + 1 - 1 = omega arith in y) ∙ ap (λ b. rings x p a 1 (cond b 65536 (hi + 1) - 1)) (sym (le-ltb 65535 hi (omega arith)))

-- where they end
pub end_range : (hi : ℕ) → (1 ≤ rings_end hi) × (rings_end hi ≤ 65536)
unfolding rings_end
end_range hi = go (dec_lt 65535 hi)
  where
    go : Dec (65535 < hi) → (1 ≤ cond (ltb 65535 hi) 65536 (hi + 1)) × (cond (ltb 65535 hi) 65536 (hi + 1) ≤ 65536)
    go (yes l) = subst (λ b. (1 ≤ cond b 65536 (hi + 1)) × (cond b 65536 (hi + 1) ≤ 65536)) (sym (lt-ltb 65535 hi l)) (omega arith, omega arith)
    go (no l) = subst (λ b. (1 ≤ cond b 65536 (hi + 1)) × (cond b 65536 (hi + 1) ≤ 65536)) (sym (le-ltb 65535 hi (omega arith))) (omega arith, omega arith)
