-- Laws of walks. With a rank below N that tells the states with a hop to make apart, a walk ends within N hops or never.
use Prim.Native.Nat.{ℕ, zero, suc, ◌+◌, ◌≤◌, ◌<◌}
use mathlib.Core.Path.{◌≡◌, refl, sym, ap, ◌∙◌}
use mathlib.Core.Logic.{◌⊎◌, inl, inr, ⊎_elim, ◌↔◌}
use mathlib.Core.Bool.{Bool, true, false, cond, true≢false, false≢true}
use mathlib.Core.List.{List, [], ◌∷◌, ◌++◌, append-nil}
use Rattle.std.specs.Prelude.{Option, None, Some}
use native.Mathlib.Omega.{arith}
use native.Mathlib.Decide.{ℕ_discrete, dec_lt, dec_le}
use native.Mathlib.Numerals.{add-one}
use lib.ListN.{length, get_or, length-append, get_or-append}
use lib.Seq.{get_or_at}
use Rattle.orbit.specs.Walk.{Turn, Turn.on, Turn.ends, Walk, Spot, Spot.stand, Spot.ended, Spot.stopped, going, found, arrive, turned, made, onward, walk_n, hop_at, hops_n, EndsAfter, Never, Again, Apart}

-- ---- N + 1 numbers below N: two are equal

-- two places of f up to n that hold one value
abbrev pub Twice : (ℕ → ℕ) → ℕ → Type 0
Twice f n = (i : ℕ) × (j : ℕ) × (i < j) × (j ≤ n) × (f i ≡ f j)

-- v is among f 0 .. f (n - 1), or is not
among : (f : ℕ → ℕ) (v n : ℕ) → ((i : ℕ) × (i < n) × (f i ≡ v)) ⊎ ((i : ℕ) → i < n → f i ≡ v → ⊥)
among f v zero = inr (λ i l e. omega arith)
among f v (suc n) = ⊎_elim (λ w. inl (w.0, omega arith, w.2)) (λ h. go h (ℕ_discrete (f n) v)) (among f v n)
  where
    go : ((i : ℕ) → i < n → f i ≡ v → ⊥) → Dec (f n ≡ v) → ((i : ℕ) × (i < suc n) × (f i ≡ v)) ⊎ ((i : ℕ) → i < suc n → f i ≡ v → ⊥)
    go h (yes e) = inl (n, omega arith, e)
    go h (no ne) = inr (λ i l e. last i l e (dec_lt i n))
      where
        last : (i : ℕ) → i < suc n → f i ≡ v → Dec (i < n) → ⊥
        last i l e (yes lt) = h i lt e
        last i l e (no nl) = ne (ap f (let q : n ≡ i = omega arith in q) ∙ e)

-- x, but v where x is N
put : (N v x : ℕ) → Dec (x ≡ N) → ℕ
put N v x (yes e) = v
put N v x (no ne) = x

put_below : (N v x : ℕ) (d : Dec (x ≡ N)) → x < suc N → v < suc N → (x ≡ v → ⊥) → put N v x d < N
unfolding put
put_below N v x (yes e) lx lv ne = omega arith
put_below N v x (no n) lx lv ne = omega arith

put_inj : (N v x y : ℕ) (d : Dec (x ≡ N)) (d' : Dec (y ≡ N)) → (x ≡ v → ⊥) → (y ≡ v → ⊥) → put N v x d ≡ put N v y d' → x ≡ y
unfolding put
put_inj N v x y (yes e) (yes e') nx ny p = omega arith
put_inj N v x y (yes e) (no n) nx ny p = omega arith
put_inj N v x y (no n) (yes e) nx ny p = omega arith
put_inj N v x y (no n) (no n') nx ny p = p

-- The last value v is among those before it; or no other value is v, and N is renamed to v, so that one number less is in use.
pub pigeonhole : (N : ℕ) (f : ℕ → ℕ) → ((i : ℕ) → i ≤ N → f i < N) → Twice f N
pigeonhole zero f below = absurd (let h = below 0 (omega arith) in omega arith)
pigeonhole (suc N) f below = ⊎_elim
    (λ w. (w.0, suc N, w.1, omega arith, w.2))
    (λ new. wider new (pigeonhole N g (λ i l. put_below N v (f i) (ℕ_discrete (f i) N) (below i (omega arith)) (below (suc N) (omega arith)) (new i (omega arith)))))
    (among f v (suc N))
  where
    v : ℕ
    v = f (suc N)

    g : ℕ → ℕ
    g i = put N v (f i) (ℕ_discrete (f i) N)

    wider : ((i : ℕ) → i < suc N → f i ≡ v → ⊥) → Twice g N → Twice f (suc N)
    wider new w = (w.0, w.1, w.2, omega arith, put_inj N v (f w.0) (f w.1) _ _ (new w.0 (omega arith)) (new w.1 (omega arith)) w.4)

-- ---- spots

stand_going : {S E : Type 0} {p : Spot S E} {x : S} → p ≡ stand x → going p ≡ true
unfolding going
stand_going e = ap going e

module _ {S H E : Type 0} (W : Walk S H E) where
  still : (p : Spot S E) → going p ≡ false → onward W p ≡ p
  unfolding going onward
  still (stand x) g = absurd (true≢false g)
  still (ended e) g = refl
  still stopped g = refl

  no_hop : (p : Spot S E) → going p ≡ false → hop_at W p ≡ []
  unfolding going hop_at
  no_hop (stand x) g = absurd (true≢false g)
  no_hop (ended e) g = refl
  no_hop stopped g = refl

  -- where a walk stands there is a hop to make
  abbrev Ready : Spot S E → Type 0
  Ready (stand x) = (h : H) × (W.hop x ≡ Some h)
  Ready (ended e) = Unit {0}
  Ready stopped = Unit {0}

  ready_arrive : (x : S) → Ready (arrive W x)
  unfolding arrive found
  ready_arrive x = go (W.hop x) refl
    where
      go : (o : Option H) → W.hop x ≡ o → Ready (found x o)
      go None e = tt
      go (Some h) e = (h, e)

  ready_turned : (t : Turn S E) → Ready (turned W t)
  unfolding turned
  ready_turned (on x) = ready_arrive x
  ready_turned (ends e) = tt

  ready_made : (x : S) (o : Option H) → Ready (made W x o)
  unfolding made
  ready_made x None = tt
  ready_made x (Some h) = ready_turned (W.next x h)

  ready_onward : (p : Spot S E) → Ready (onward W p)
  unfolding onward
  ready_onward (stand x) = ready_made x (W.hop x)
  ready_onward (ended e) = tt
  ready_onward stopped = tt

  -- the state and the hop at a spot
  abbrev pub Standing : Spot S E → Type 0
  Standing p = (x : S) × (h : H) × (p ≡ stand x) × (W.hop x ≡ Some h)

  standing : (p : Spot S E) → Ready p → going p ≡ true → Standing p
  unfolding going
  standing (stand x) r g = (x, r.0, refl, r.1)
  standing (ended e) r g = absurd (false≢true g)
  standing stopped r g = absurd (false≢true g)

module _ {S H E : Type 0} (W : Walk S H E) (s : S) where
  ready : (n : ℕ) → Ready W (walk_n W s n)
  unfolding walk_n
  ready zero = ready_arrive W s
  ready (suc n) = ready_onward W (walk_n W s n)

  pub hop_to_make : (n : ℕ) → going (walk_n W s n) ≡ true → Standing W (walk_n W s n)
  hop_to_make n g = standing W (walk_n W s n) (ready n) g

  -- ---- a walk that is over stays as it is

  pub walk_stays : (n k : ℕ) → n ≤ k → going (walk_n W s n) ≡ false → walk_n W s k ≡ walk_n W s n
  unfolding walk_n
  walk_stays n zero l g = ap (walk_n W s) (let q : 0 ≡ n = omega arith in q)
  walk_stays n (suc k) l g = go (λ m. walk_stays n k m g) (dec_le n k)
    where
      go : (n ≤ k → walk_n W s k ≡ walk_n W s n) → Dec (n ≤ k) → walk_n W s (suc k) ≡ walk_n W s n
      go ih (yes m) = ap (onward W) (ih m) ∙ still W (walk_n W s n) g
      go ih (no m) = ap (walk_n W s) (let q : suc k ≡ n = omega arith in q)

  pub hops_stay : (n k : ℕ) → n ≤ k → going (walk_n W s n) ≡ false → hops_n W s k ≡ hops_n W s n
  unfolding hops_n
  hops_stay n zero l g = ap (hops_n W s) (let q : 0 ≡ n = omega arith in q)
  hops_stay n (suc k) l g = go (λ m. hops_stay n k m g) (dec_le n k)
    where
      go : (n ≤ k → hops_n W s k ≡ hops_n W s n) → Dec (n ≤ k) → hops_n W s (suc k) ≡ hops_n W s n
      go ih (yes m) = rw (no_hop W (walk_n W s k) (ap going (walk_stays n k m g) ∙ g)) (append-nil (hops_n W s k) ∙ ih m)
      go ih (no m) = ap (hops_n W s) (let q : suc k ≡ n = omega arith in q)

  -- so there were hops to make all the way to where there is one
  pub going_before : (i j : ℕ) → i ≤ j → going (walk_n W s j) ≡ true → going (walk_n W s i) ≡ true
  going_before i j l g = go (going (walk_n W s i)) refl
    where
      go : (b : Bool) → going (walk_n W s i) ≡ b → b ≡ true
      go true q = refl
      go false q = absurd (false≢true (sym q ∙ sym (ap going (walk_stays i j l q)) ∙ g))

  -- ---- a state that comes twice comes for ever

  -- every spot is one of those before the second time
  cycle : (i j : ℕ) → i < j → walk_n W s i ≡ walk_n W s j → (n : ℕ) → (m : ℕ) × (m < j) × (walk_n W s n ≡ walk_n W s m)
  unfolding walk_n
  cycle i j l e zero = (0, omega arith, refl)
  cycle i j l e (suc n) = go (cycle i j l e n)
    where
      go : (m : ℕ) × (m < j) × (walk_n W s n ≡ walk_n W s m) → (m : ℕ) × (m < j) × (walk_n W s (suc n) ≡ walk_n W s m)
      go w = pick (dec_lt (suc w.0) j)
        where
          pick : Dec (suc w.0 < j) → (m : ℕ) × (m < j) × (walk_n W s (suc n) ≡ walk_n W s m)
          pick (yes m) = (suc w.0, m, ap (onward W) w.2)
          pick (no m) = (i, l, ap (onward W) w.2 ∙ ap (walk_n W s) (let q : suc w.0 ≡ j = omega arith in q) ∙ sym e)

  pub again_never : Again W s → Never W s
  again_never (i, j, x, l, e, f) k =
      let w = cycle i j l (e ∙ sym f) k in
      ap going w.2 ∙ going_before w.0 j (omega arith) (stand_going f)

  -- ---- ending

  pub ends_not_never : {n : ℕ} → EndsAfter W s n → Never W s → ⊥
  ends_not_never {n} e h = true≢false (sym (h n) ∙ e.over)

  pub ends_once : {n m : ℕ} → EndsAfter W s n → EndsAfter W s m → n ≡ m
  ends_once {n} {m} e f = go (dec_lt n m) (dec_lt m n)
    where
      go : Dec (n < m) → Dec (m < n) → n ≡ m
      go (yes l) d = absurd (true≢false (sym (f.hops n l) ∙ e.over))
      go (no l) (yes k) = absurd (true≢false (sym (e.hops m k) ∙ f.over))
      go (no l) (no k) = omega arith

  -- over after k hops: it ended by then
  pub ends_by : (k : ℕ) → going (walk_n W s k) ≡ false → (n : ℕ) × (n ≤ k) × EndsAfter W s n
  ends_by zero g = (0, omega arith, record { hops = λ k l. absurd (omega arith); over = g })
  ends_by (suc k) g = go (λ q. ends_by k q) (going (walk_n W s k)) refl
    where
      go : (going (walk_n W s k) ≡ false → (n : ℕ) × (n ≤ k) × EndsAfter W s n) → (b : Bool) → going (walk_n W s k) ≡ b → (n : ℕ) × (n ≤ suc k) × EndsAfter W s n
      go ih true q = (suc k, omega arith, record { hops = λ j l. going_before j k (omega arith) q; over = g })
      go ih false q = let w = ih q in (w.0, omega arith, w.2)

  pub ends_stays : {n : ℕ} → EndsAfter W s n → (k : ℕ) → n ≤ k → (walk_n W s k ≡ walk_n W s n) × (hops_n W s k ≡ hops_n W s n)
  ends_stays {n} e k l = (walk_stays n k l e.over, hops_stay n k l e.over)

  pub ends_apart : {n : ℕ} → EndsAfter W s n → Apart W s n
  ends_apart e i j x l m p q = ends_not_never e (again_never (i, j, x, l, p, q))

  -- ---- the hops

  -- a hop to make is the next of the hops
  pub hops_more : (n : ℕ) (x : S) (h : H) → walk_n W s n ≡ stand x → W.hop x ≡ Some h → hops_n W s (suc n) ≡ hops_n W s n ++ (h ∷ [])
  unfolding hops_n hop_at
  hops_more n x h e f = rw (e, f)

  pub length_hops : (n : ℕ) → ((k : ℕ) → k < n → going (walk_n W s k) ≡ true) → length (hops_n W s n) ≡ n
  unfolding hops_n
  length_hops zero g = refl
  length_hops (suc n) g = go (hop_to_make n (g n (omega arith))) (length_hops n (λ k l. g k (omega arith)))
    where
      go : Standing W (walk_n W s n) → length (hops_n W s n) ≡ n → length (hops_n W s (suc n)) ≡ suc n
      go (x, h, e, f) ih = rw (hops_more n x h e f) (omega (arith, length-append (hops_n W s n) (h ∷ [])))

  pub ends_length : {n : ℕ} → EndsAfter W s n → length (hops_n W s n) ≡ n
  ends_length {n} e = length_hops n e.hops

  -- hop i is the one made after i hops
  pub hop_at_lem : (n i : ℕ) (x : S) (h d : H) → i < n → ((k : ℕ) → k < n → going (walk_n W s k) ≡ true) → walk_n W s i ≡ stand x → W.hop x ≡ Some h → get_or (hops_n W s n) i d ≡ h
  hop_at_lem zero i x h d l g e f = absurd (omega arith)
  hop_at_lem (suc n) i x h d l g e f = go (hop_to_make n (g n (omega arith))) (length_hops n before) (λ m. hop_at_lem n i x h d m before e f) (dec_lt i n)
    where
      before : (k : ℕ) → k < n → going (walk_n W s k) ≡ true
      before k m = g k (omega arith)

      go : Standing W (walk_n W s n) → length (hops_n W s n) ≡ n → (i < n → get_or (hops_n W s n) i d ≡ h) → Dec (i < n) → get_or (hops_n W s (suc n)) i d ≡ h
      go (y, c, p, q) w ih (yes m) = rw (hops_more n y c p q) (get_or-append (hops_n W s n) (c ∷ []) d i (omega arith) ∙ ih m)
      go v w ih (no m) =
          let q : n ≡ i = omega arith in
          rw (hops_more n x h (ap (walk_n W s) q ∙ e) f) (get_or_at (hops_n W s n) h [] d i (w ∙ q))

  -- where a hop tells its state, no two hops of a walk that ends tell the same
  pub keys_apart : (key : H → S) → ((x : S) (h : H) → W.hop x ≡ Some h → key h ≡ x) → (d : H) {n : ℕ} → EndsAfter W s n
      → (i j : ℕ) → i < j → j < n → key (get_or (hops_n W s n) i d) ≡ key (get_or (hops_n W s n) j d) → ⊥
  keys_apart key tells d {n} e i j l m q =
      let v = at i (omega arith) in
      let w = at j m in
      ends_apart e i j v.0 l m v.1 (w.1 ∙ ap stand (sym w.2 ∙ sym q ∙ v.2))
    where
      at : (k : ℕ) → k < n → (x : S) × (walk_n W s k ≡ stand x) × (key (get_or (hops_n W s n) k d) ≡ x)
      at k b = let v = hop_to_make k (e.hops k b) in (v.0, v.2, ap key (hop_at_lem n k v.0 v.1 d b e.hops v.2 v.3) ∙ tells v.0 v.1 v.3)

-- ---- for a loop: what holds where n hops are made and the walk has come to x, and what a turn makes of it

pub record Reached {S H E : Type 0} (W : Walk S H E) (s : S) (n : ℕ) (x : S) : Type 0 where
  pub hops : (k : ℕ) → k < n → going (walk_n W s k) ≡ true
  pub here : walk_n W s n ≡ arrive W x

module _ {S H E : Type 0} (W : Walk S H E) (s : S) where
  pub reach_start : Reached W s 0 s
  unfolding walk_n
  reach_start = record { hops = λ k l. absurd (omega arith); here = refl }

  pub reach_stand : {n : ℕ} {x : S} {h : H} → Reached W s n x → W.hop x ≡ Some h → walk_n W s n ≡ stand x
  unfolding arrive found
  reach_stand r f = r.here ∙ rw f

  pub reach_next : {n : ℕ} {x : S} {h : H} → Reached W s n x → W.hop x ≡ Some h → walk_n W s (n + 1) ≡ turned W (W.next x h)
  unfolding walk_n onward made
  reach_next {n} r f = rw (add-one n, reach_stand r f, f)

  reach_more : {n : ℕ} {x : S} {h : H} → Reached W s n x → W.hop x ≡ Some h → (k : ℕ) → k < n + 1 → going (walk_n W s k) ≡ true
  reach_more {n} r f k l = going_before W s k n (omega arith) (stand_going (reach_stand r f))

  pub reach_on : {n : ℕ} {x y : S} {h : H} → Reached W s n x → W.hop x ≡ Some h → W.next x h ≡ on y → Reached W s (n + 1) y
  unfolding turned
  reach_on r f q = record { hops = reach_more r f; here = reach_next r f ∙ ap (turned W) q }

  pub reach_ends : {n : ℕ} {x : S} {h : H} {e : E} → Reached W s n x → W.hop x ≡ Some h → W.next x h ≡ ends e → EndsAfter W s (n + 1) × (walk_n W s (n + 1) ≡ ended e)
  unfolding turned going
  reach_ends r f q = let w = reach_next r f ∙ ap (turned W) q in (record { hops = reach_more r f; over = ap going w }, w)

  pub reach_stops : {n : ℕ} {x : S} → Reached W s n x → W.hop x ≡ None → EndsAfter W s n × (walk_n W s n ≡ stopped)
  unfolding arrive found going
  reach_stops {n} r f = let w : walk_n W s n ≡ stopped = r.here ∙ rw f in (record { hops = r.hops; over = ap going w }, w)

  pub reach_hops : {n : ℕ} {x : S} {h : H} → Reached W s n x → W.hop x ≡ Some h → hops_n W s (n + 1) ≡ hops_n W s n ++ (h ∷ [])
  reach_hops {n} {x} {h} r f = rw (add-one n) (hops_more W s n x h (reach_stand r f) f)

-- ---- with a rank

-- a number below N for each state with a hop to make, no number for two of them
pub record Ranked {S H E : Type 0} (W : Walk S H E) (N : ℕ) : Type 0 where
  pub rank : S → ℕ
  pub below : (x : S) (h : H) → W.hop x ≡ Some h → rank x < N
  pub apart : (x y : S) (h g : H) → W.hop x ≡ Some h → W.hop y ≡ Some g → rank x ≡ rank y → x ≡ y

abbrev rank_at : {S E : Type 0} → (S → ℕ) → Spot S E → ℕ
rank_at rank (stand x) = rank x
rank_at rank (ended e) = 0
rank_at rank stopped = 0

module _ {S H E : Type 0} (W : Walk S H E) (N : ℕ) (r : Ranked W N) (s : S) where
  -- a hop to make after N hops: a state has come twice
  again_at : going (walk_n W s N) ≡ true → Again W s
  again_at g =
      let w = pigeonhole N rank (λ i l. let v = at i l in rw v.2 (r.below v.0 v.1 v.3)) in
      both w.0 w.1 w.2 w.4 (at w.0 (omega arith)) (at w.1 w.3)
    where
      rank : ℕ → ℕ
      rank i = rank_at r.rank (walk_n W s i)

      at : (i : ℕ) → i ≤ N → Standing W (walk_n W s i)
      at i l = hop_to_make W s i (going_before W s i N l g)

      both : (i j : ℕ) → i < j → rank i ≡ rank j → Standing W (walk_n W s i) → Standing W (walk_n W s j) → Again W s
      both i j l q (x, h, e, f) (y, k, d, p) =
          let z : x ≡ y = r.apart x y h k f p (sym (ap (rank_at r.rank) e) ∙ q ∙ ap (rank_at r.rank) d) in
          (i, j, y, l, e ∙ ap stand z, d)

  -- a hop to make after N hops or more: it never ends
  pub never_at : (k : ℕ) → N ≤ k → going (walk_n W s k) ≡ true → Never W s
  never_at k l g = again_never W s (again_at (going_before W s N k l g))

  -- which of the two is told by whether there is a hop to make after N hops
  pub ends_or_never : ((n : ℕ) × (n ≤ N) × EndsAfter W s n) ⊎ Never W s
  ends_or_never = go (going (walk_n W s N)) refl
    where
      go : (b : Bool) → going (walk_n W s N) ≡ b → ((n : ℕ) × (n ≤ N) × EndsAfter W s n) ⊎ Never W s
      go true q = inr (never_at N (omega arith) q)
      go false q = inl (ends_by W s N q)

  pub never_again : Never W s ↔ Again W s
  never_again = (λ h. again_at (h N), again_never W s)

  pub ends_within : {n : ℕ} → EndsAfter W s n → n ≤ N
  ends_within {n} e = go (dec_lt N n)
    where
      go : Dec (N < n) → n ≤ N
      go (yes l) = absurd (ends_not_never W s e (never_at N (omega arith) (e.hops N l)))
      go (no l) = omega arith

  -- any number of hops from N on tells the outcome
  pub enough : {n : ℕ} → EndsAfter W s n → (k : ℕ) → N ≤ k → (walk_n W s k ≡ walk_n W s n) × (hops_n W s k ≡ hops_n W s n)
  enough e k l = let b = ends_within e in ends_stays W s e k (omega arith)

  -- a loop that has made N hops and finds one more never ends
  pub reach_never : {x : S} {h : H} → Reached W s N x → W.hop x ≡ Some h → Never W s
  reach_never q f = never_at N (omega arith) (stand_going (reach_stand W s q f))

-- ---- a rank from a table: the place of the first entry at the state

module _ {A : Type 0} where
  -- some entry passes
  unfoldable pub has : (A → Bool) → List A → Bool
  has p [] = false
  has p (e ∷ es) = cond (p e) true (has p es)

  -- how many entries stand before the first that passes
  place : (A → Bool) → List A → ℕ
  place p [] = 0
  place p (e ∷ es) = cond (p e) 0 (suc (place p es))

  place_below : (p : A → Bool) (es : List A) → has p es ≡ true → place p es < length es
  unfolding has place
  place_below p [] h = absurd (false≢true h)
  place_below p (e ∷ es) h = go (p e) (λ g. place_below p es g) h
    where
      go : (b : Bool) → (has p es ≡ true → place p es < length es) → cond b true (has p es) ≡ true → cond b 0 (suc (place p es)) < suc (length es)
      go true ih g = omega arith
      go false ih g = let m = ih g in omega arith

  same_place : (p q : A → Bool) (es : List A) → has p es ≡ true → has q es ≡ true → place p es ≡ place q es → (e : A) × (p e ≡ true) × (q e ≡ true)
  unfolding has place
  same_place p q [] h g w = absurd (false≢true h)
  same_place p q (e ∷ es) h g w = go (p e) (q e) refl refl (λ u v z. same_place p q es u v z) h g w
    where
      go : (b c : Bool) → p e ≡ b → q e ≡ c → (has p es ≡ true → has q es ≡ true → place p es ≡ place q es → (a : A) × (p a ≡ true) × (q a ≡ true))
          → cond b true (has p es) ≡ true → cond c true (has q es) ≡ true → cond b 0 (suc (place p es)) ≡ cond c 0 (suc (place q es)) → (a : A) × (p a ≡ true) × (q a ≡ true)
      go true true u v ih h g w = (e, u, v)
      go true false u v ih h g w = absurd (omega arith)
      go false true u v ih h g w = absurd (omega arith)
      go false false u v ih h g w = ih h g (omega arith)

-- an entry is at one state at most, and there is a hop only where an entry is
module _ {S H E A : Type 0} (W : Walk S H E) (es : List A) (at : S → A → Bool)
    (one : (x y : S) (e : A) → at x e ≡ true → at y e ≡ true → x ≡ y)
    (held : (x : S) (h : H) → W.hop x ≡ Some h → has (at x) es ≡ true) where
  pub table_ranked : Ranked W (length es)
  table_ranked = record {
    rank = λ x. place (at x) es;
    below = λ x h f. place_below (at x) es (held x h f);
    apart = λ x y h g f q w. let v = same_place (at x) (at y) es (held x h f) (held y g q) w in one x y v.0 v.1 v.2;
  }
