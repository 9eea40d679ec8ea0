-- Laws of the loops over rings: what is left to count or write gives the whole. Assumes nothing.
use Rattle.std.specs.Option.{option_to_list}
use Prim.Native.Nat.{ℕ, suc, ◌+◌, ◌-◌, ◌*◌, ◌≤◌, ◌<◌}
use mathlib.Core.Path.{◌≡◌, refl, sym, ap, ◌∙◌, subst}
use mathlib.Core.Bool.{Bool, true, false, cond, true≢false}
use mathlib.Core.Logic.{◌⊎◌, inl, inr, ⊎_elim}
use mathlib.Core.List.{List, [], ◌∷◌, ◌++◌, append_assoc, append-nil}
use Rattle.std.specs.Prelude.{Option, None, Some, Err, Ok, Result}
use native.Mathlib.Omega.{arith}
use native.Mathlib.Decide.{dec_lt}
use lib.Dec.{ltb}
use lib.ListN.{length, get_or, take, set, replicate, length-append, length-replicate, get_or-replicate, get_or-eq_default}
use lib.Seq.{length-take-le, take_all, get_or-set_other}
use Rattle.refusal.specs.Outcome.{Outcome, refused, value, bind}
use Rattle.tables.specs.Rows.{Rows}
use Rattle.refusal.specs.Refusal.{refused_by, of_walk}
use Rattle.refusal.proofs.Laws.{walk_bind}
use Rattle.path.proofs.Writing.{refused_as_lem}
use Rattle.tunnel.specs.Tunnels.{Tunnel, one_dma, rings}
use Rattle.tunnel.specs.Words.{tunnel_words, tunnels_words}
use Rattle.tunnel.specs.Plans.{Plan, starts_as, plan_of, plan_if, planned_outcome, words_by, Plans}
use Rattle.tunnel.specs.declared.Plan.{Plan as Planned}
use Rattle.discovery.specs.Work.{Wrote, tally_of, mark_of, Marked, Idle, Drafted, Tallies, RingPut, RingsPut, PlanPut}
use Rattle.discovery.proofs.Walks.{one_dma_walks}
use Rattle.discovery.proofs.Writing.{wrote_nothing, wrote_front}
use Rattle.tables.specs.declared.Tables.{Tables}
use Rattle.tables.specs.Tables.{Sized, Tabled, rows_of}
use Rattle.refusal.specs.declared.WalkError.{WalkError}

-- ---- a plan, by what it is the plan of

abbrev Planning : Result (Option Planned) WalkError → Outcome (Option Tunnel) → Type 0
Planning plan o = planned_outcome plan ≡ bind o (λ t. value (plan_if t))

-- its words are the tunnel's
pub plan_words : (plan : Option Planned) (o : Outcome (Option Tunnel)) → Planning (Ok plan) o → (w : ℕ) → tally_of plan ≡ w → (t : Option Tunnel) × (o ≡ value t) × (w ≡ length (tunnels_words (option_to_list t))) × (planned_outcome (Ok plan) ≡ value (plan_if t))
unfolding planned_outcome bind plan_if plan_of tally_of tunnels_words
plan_words (Some p) (refused j vs) e w f = absurd (let z : ◌≡◌ {A = ℕ} 0 1 = cc in omega arith)
plan_words (Some p) (value None) e w f = absurd (let z : ◌≡◌ {A = ℕ} 0 1 = cc in omega arith)
plan_words (Some p) (value (Some t)) e w f =
    let z : record { type = p.kind; closed = p.closed; words = p.words; starts = starts_as p.starts } ≡ plan_of t = cc in
    let u : p.words ≡ length (tunnel_words t) = ap (λ (q : Plan). q.words) z in
    (Some t, refl, omega (arith, f, u, length-append (tunnel_words t) []), e)
plan_words None (refused j vs) e w f = absurd (let z : ◌≡◌ {A = ℕ} 0 1 = cc in omega arith)
plan_words None (value None) e w f = (None, refl, sym f, e)
plan_words None (value (Some t)) e w f = absurd (let z : ◌≡◌ {A = ℕ} 0 1 = cc in omega arith)

pub plan_refused : (r : WalkError) (o : Outcome (Option Tunnel)) → Planning (Err r) o → (k : ℕ) × (vs : List ℕ) × (o ≡ refused k vs) × ((A : Type 0) → refused_by {A = A} (of_walk r) ≡ refused k vs)
unfolding planned_outcome bind plan_if
plan_refused r (refused k vs) e = (k, vs, refl, λ A. sym (walk_bind r (λ y. refused 0 [])) ∙ ap (λ w. bind w (λ y. refused 0 [])) e)
plan_refused r (value t) e = absurd (let w = refused_as_lem (value (plan_if t)) (of_walk r) e in let v = w.2 in let z : ◌≡◌ {A = ℕ} 0 1 = cc in omega arith)

-- what is refused, but for what is answered
pub not_ok : {A E : Type 0} (q : Result A E) → ((a : A) → q ≡ Ok a → ⊥) → (e : E) × (q ≡ Err e)
not_ok (Ok a) n = absurd (n a refl)
not_ok (Err e) n = (e, refl)

pub tally_few : (plan : Option Planned) (w : ℕ) → tally_of plan ≡ w → words_by (Ok plan) ≤ 1048576 → w ≤ 1048576
unfolding tally_of words_by
tally_few (Some p) w f l = omega (arith, f, l)
tally_few None w f l = omega (arith, f)

-- ---- rings one by one

pub tunnels_append : (ts us : List Tunnel) → tunnels_words (ts ++ us) ≡ tunnels_words ts ++ tunnels_words us
unfolding tunnels_words
tunnels_append [] us = refl
tunnels_append (t ∷ ts) us = ap (λ l. tunnel_words t ++ l) (tunnels_append ts us) ∙ sym (append_assoc (tunnel_words t) (tunnels_words ts) (tunnels_words us))

-- the words of k rings from h on, and n before them
unfoldable pub counts : Rows → ℕ → ℕ → ℕ → ℕ → ℕ → Outcome ℕ
counts x p a h k n = bind (rings x p a h k) (λ ts. value (n + length (tunnels_words ts)))

counts_step : (x : Rows) (p a h k n : ℕ) (t : Option Tunnel) → one_dma x p a h ≡ value t → counts x p a h (suc k) n ≡ counts x p a (suc h) k (n + length (tunnels_words (option_to_list t)))
unfolding counts rings bind
counts_step x p a h k n t e = ap (λ o. bind (bind o (λ t. bind (rings x p a (suc h) k) (λ ts. value (option_to_list t ++ ts)))) (λ ts. value (n + length (tunnels_words ts)))) e ∙ go (rings x p a (suc h) k)
  where
    go : (o : Outcome (List Tunnel)) → bind (bind o (λ ts. value (option_to_list t ++ ts))) (λ ts. value (n + length (tunnels_words ts))) ≡ bind o (λ ts. value (n + length (tunnels_words (option_to_list t)) + length (tunnels_words ts)))
    go (refused j vs) = refl
    go (value ts) = ap value (omega (arith, ap length (tunnels_append (option_to_list t) ts), length-append (tunnels_words (option_to_list t)) (tunnels_words ts)))

-- a ring that is refused
counts_refused : (x : Rows) (p a h k n j : ℕ) (vs : List ℕ) → one_dma x p a h ≡ refused j vs → counts x p a h (suc k) n ≡ refused j vs
unfolding counts rings bind
counts_refused x p a h k n j vs e = ap (λ o. bind (bind o (λ t. bind (rings x p a (suc h) k) (λ ts. value (option_to_list t ++ ts)))) (λ ts. value (n + length (tunnels_words ts)))) e

-- the first of rings that are discovered, and the others
pub rings_split : (x : Rows) (p a h k : ℕ) (us : List Tunnel) → rings x p a h (suc k) ≡ value us → (t : Option Tunnel) × (vs : List Tunnel) × (one_dma x p a h ≡ value t) × (rings x p a (suc h) k ≡ value vs) × (us ≡ option_to_list t ++ vs)
unfolding rings bind
rings_split x p a h k us e = go (one_dma x p a h) (rings x p a (suc h) k) e
  where
    go : (o : Outcome (Option Tunnel)) (q : Outcome (List Tunnel)) → bind o (λ t. bind q (λ ts. value (option_to_list t ++ ts))) ≡ value us → (t : Option Tunnel) × (vs : List Tunnel) × (o ≡ value t) × (q ≡ value vs) × (us ≡ option_to_list t ++ vs)
    go (refused j vs) q f = absurd (let z : ◌≡◌ {A = ℕ} 0 1 = cc in omega arith)
    go (value t) (refused j vs) f = absurd (let z : ◌≡◌ {A = ℕ} 0 1 = cc in omega arith)
    go (value t) (value vs) f = (t, vs, refl, refl, cc)

-- ---- rings that have no tunnel

no_words : (t : Option Tunnel) → length (tunnels_words (option_to_list t)) < 1 → t ≡ None
unfolding tunnels_words tunnel_words
no_words None l = refl
no_words (Some t) l = absurd (omega (arith, length-append (tunnel_words t) []))

no_length : (l : List ℕ) → length l ≡ 0 → l ≡ []
no_length [] e = refl
no_length (x ∷ l) e = absurd (omega arith)

pub not_marked : (ring words : ℕ) (idle : List Bool) → Marked ring words idle idle
not_marked ring words idle = record { marks = λ j e. inl e }

pub marked : (ring words : ℕ) (idle : List Bool) → words ≤ 0 → ring ≤ 2046 → Marked ring words idle (set idle ring true)
marked ring words idle l m = record { marks = λ j e. go j e (dec_lt j ring) (dec_lt ring j) }
  where
    go : (j : ℕ) → get_or (set idle ring true) j false ≡ true → Dec (j < ring) → Dec (ring < j) → (get_or idle j false ≡ true) ⊎ ((j ≡ ring) × (ring < 2047) × (words < 1))
    go j e (yes k) n = inl (sym (get_or-set_other idle ring j true false (λ q. omega arith)) ∙ e)
    go j e (no k) (yes n) = inl (sym (get_or-set_other idle ring j true false (λ q. omega arith)) ∙ e)
    go j e (no k) (no n) = inr (omega arith, omega arith, omega arith)

-- a mark below 2,047 is one ring's
own_mark : (j ring : ℕ) → mark_of j ≡ ring → ring < 2047 → j ≡ ring
unfolding mark_of
own_mark j ring e l = go (ltb 2047 j) refl e
  where
    go : (b : Bool) → ltb 2047 j ≡ b → cond b 2047 j ≡ ring → j ≡ ring
    go true f g = absurd (omega arith)
    go false f g = g

module _ (tables : Tables) (p a : ℕ) where
  -- none is marked
  pub idle_start : (n : ℕ) → Idle tables p a (replicate n false)
  idle_start n = record { rests = λ z t q j e. absurd (go (mark_of j) e (dec_lt (mark_of j) n)) }
    where
      go : (j : ℕ) → get_or (replicate n false) j false ≡ true → Dec (j < n) → ⊥
      go j e (yes l) = true≢false (sym e ∙ get_or-replicate n j false false l)
      go j e (no l) = true≢false (sym e ∙ get_or-eq_default (replicate n false) false {n = j} (omega (arith, length-replicate n false)))

  pub idle_marked : (idle idle' : List Bool) → Idle tables p a idle → (ring : ℕ) (plan : Option Planned) → Plans tables p (λ x. one_dma x p a ring) (Ok plan) → (w : ℕ) → tally_of plan ≡ w → Marked ring w idle idle' → Idle tables p a idle'
  idle_marked idle idle' i ring plan f w e m = record { rests = λ z t q j g. ⊎_elim (i.rests z t q j) (λ h. subst (λ k. one_dma (rows_of tables) p a k ≡ value None) (sym (own_mark j ring h.0 h.1)) (here z t q h.2)) (m.marks (mark_of j) g) }
    where
      here : Sized tables → Tabled tables → p < 65536 → w < 1 → one_dma (rows_of tables) p a ring ≡ value None
      here z t q l = let y = plan_words plan (one_dma (rows_of tables) p a ring) (f.answers z t q) w e in y.1 ∙ ap value (no_words y.0 (omega (arith, y.2)))

  pub ring_idle : (idle : List Bool) → Idle tables p a idle → (ring : ℕ) → get_or idle (mark_of ring) false ≡ true → (at : ℕ) (out : List ℕ) → at ≤ length out → RingPut tables p a ring at out at out
  unfolding tunnels_words
  ring_idle idle i ring e at out l = record {
    within = l;
    long = refl;
    words = λ z t q o g room. let y = sym (i.rests z t q ring e) ∙ g in let v : None ≡ o = cc in subst (λ k. Wrote at (tunnels_words (option_to_list k)) out at out) v (wrote_nothing at out);
  }

  pub ring_put : (ring : ℕ) (plan : Option Planned) → Plans tables p (λ x. one_dma x p a ring) (Ok plan) → (at : ℕ) (out : List ℕ) (r : ℕ) (out' : List ℕ) → PlanPut tables plan at out r out' → RingPut tables p a ring at out r out'
  unfolding bind
  ring_put ring plan f at out r out' w = record {
    within = w.within;
    long = w.long;
    words = λ z t q o e room. w.words z t o (f.answers z t q ∙ ap (λ y. bind y (λ t. value (plan_if t))) e) (one_dma_walks (rows_of tables) p a ring o e) room;
  }

  -- what refuses its plan refuses the ring, which then has no tunnel
  pub ring_unput : (ring : ℕ) (r : WalkError) → Plans tables p (λ x. one_dma x p a ring) (Err r) → (at : ℕ) (out : List ℕ) → at ≤ length out → RingPut tables p a ring at out at out
  unfolding planned_outcome bind
  ring_unput ring r f at out l = record {
    within = l;
    long = refl;
    words = λ z t q o e room. absurd (let y = refused_as_lem (value (plan_if o)) (of_walk r) (f.answers z t q ∙ ap (λ y. bind y (λ t. value (plan_if t))) e) in let v = y.2 in let u : ◌≡◌ {A = ℕ} 0 1 = cc in omega arith);
  }

  pub idle_plan : (idle : List Bool) → Idle tables p a idle → (ring : ℕ) → get_or idle (mark_of ring) false ≡ true → Plans tables p (λ x. one_dma x p a ring) (Ok None)
  unfolding planned_outcome words_by plan_if bind
  idle_plan idle i ring e = record {
    answers = λ z t l. sym (ap (λ o. bind o (λ k. value (plan_if k))) (i.rests z t l ring e));
    few = omega arith;
  }

-- rings that are refused have no words to draft
pub drafted_refused : (tables : Tables) (p a k : ℕ) (r : WalkError) → Tallies tables p a k (Err r) → (draft : List ℕ) → Drafted tables p a k draft
unfolding bind
drafted_refused tables p a k r t draft = record {
  words = λ z l q ts e n. absurd (let y = refused_as_lem (value (length (tunnels_words ts))) (of_walk r) (t.counts z l q ∙ ap (λ o. bind o (λ us. value (length (tunnels_words us)))) e) in let v = y.2 in let u : ◌≡◌ {A = ℕ} 0 1 = cc in omega arith);
}

-- what was drafted is put
pub drafted_put : (tables : Tables) (p a k : ℕ) (draft out : List ℕ) → Drafted tables p a k draft → length out ≤ length draft → (out' : List ℕ) → out' ≡ take (length out) draft → RingsPut tables p a k out out'
drafted_put tables p a k draft out d l out' f = record {
  long = ap length f ∙ length-take-le (length out) draft l;
  words = λ z t q ts e n. f ∙ ap (λ j. take j draft) n ∙ d.words z t q ts e (omega (arith, n));
}

-- ---- the tally

module _ (tables : Tables) (p a end : ℕ) where
  pub record Counted (need ring : ℕ) : Type 0 where
    pub from : 1 ≤ ring
    pub to : ring ≤ end
    pub few : need ≤ 1048576 * ring
    pub rest : Sized tables → Tabled tables → p < 65536 → bind (rings (rows_of tables) p a 1 (end - 1)) (λ ts. value (length (tunnels_words ts))) ≡ counts (rows_of tables) p a ring (end - ring) need

  pub counted_start : 1 ≤ end → Counted 0 1
  unfolding counts bind
  counted_start l = record { from = omega arith; to = l; few = omega arith; rest = λ z t q. go (rings (rows_of tables) p a 1 (end - 1)) }
    where
      go : (o : Outcome (List Tunnel)) → bind o (λ ts. value (length (tunnels_words ts))) ≡ bind o (λ ts. value (0 + length (tunnels_words ts)))
      go (refused j vs) = refl
      go (value ts) = ap value (omega arith)

  pub counted_end : (need ring : ℕ) → Counted need ring → end ≤ ring → Tallies tables p a (end - 1) (Ok need)
  unfolding counts rings bind tunnels_words
  counted_end need ring c l = record {
    counts = λ z t q. sym (c.rest z t q ∙ ap (λ k. counts (rows_of tables) p a ring k need) (let y : end - ring ≡ 0 = omega arith in y) ∙ ap value (let y : need + 0 ≡ need = omega arith in y));
  }

  module _ (need ring : ℕ) (c : Counted need ring) (more : ring < end) where
    left : end - ring ≡ suc (end - (ring + 1))
    left = omega arith

    pub counted_on : (plan : Option Planned) → Plans tables p (λ x. one_dma x p a ring) (Ok plan) → (w : ℕ) → tally_of plan ≡ w → Counted (need + w) (ring + 1)
    counted_on plan f w e = record {
      from = omega arith;
      to = omega arith;
      few = omega (arith, c.few, tally_few plan w e f.few);
      rest = λ z t q.
          let y = plan_words plan (one_dma (rows_of tables) p a ring) (f.answers z t q) w e in
          c.rest z t q ∙ ap (λ k. counts (rows_of tables) p a ring k need) left ∙ counts_step (rows_of tables) p a ring (end - (ring + 1)) need y.0 y.1
          ∙ ap (λ k. counts (rows_of tables) p a k (end - (ring + 1)) (need + length (tunnels_words (option_to_list y.0)))) (let v : suc ring ≡ ring + 1 = omega arith in v)
          ∙ ap (λ k. counts (rows_of tables) p a (ring + 1) (end - (ring + 1)) (need + k)) (sym y.2);
    }

    pub counted_refused : (r : WalkError) → Plans tables p (λ x. one_dma x p a ring) (Err r) → Tallies tables p a (end - 1) (Err r)
    counted_refused r f = record {
      counts = λ z t q.
          let y = plan_refused r (one_dma (rows_of tables) p a ring) (f.answers z t q) in
          y.3 ℕ ∙ sym (c.rest z t q ∙ ap (λ k. counts (rows_of tables) p a ring k need) left ∙ counts_refused (rows_of tables) p a ring (end - (ring + 1)) need y.0 y.1 y.2);
    }

  -- a ring that has none is passed
  pub counted_past : (need ring : ℕ) → Counted need ring → ring < end → (idle : List Bool) → Idle tables p a idle → get_or idle (mark_of ring) false ≡ true → Counted need (ring + 1)
  unfolding tally_of
  counted_past need ring c more idle i e = subst (λ n. Counted n (ring + 1)) (let y : need + 0 ≡ need = omega arith in y) (counted_on need ring c more None (idle_plan tables p a idle i ring e) 0 refl)

  -- ---- the words

  pub record Putting (out₀ : List ℕ) (at ring : ℕ) (out : List ℕ) : Type 0 where
    pub from : 1 ≤ ring
    pub to : ring ≤ end
    pub within : at ≤ length out
    pub long : length out ≡ length out₀
    pub rest : Sized tables → Tabled tables → p < 65536 → (ts : List Tunnel) → rings (rows_of tables) p a 1 (end - 1) ≡ value ts → length (tunnels_words ts) ≤ length out₀
        → (us : List Tunnel) × (rings (rows_of tables) p a ring (end - ring) ≡ value us) × (take at out ++ tunnels_words us ≡ tunnels_words ts)

  pub putting_start : (out : List ℕ) → 1 ≤ end → Putting out 0 1 out
  putting_start out l = record { from = omega arith; to = l; within = omega arith; long = refl; rest = λ z t q ts e n. (ts, e, refl) }

  module _ (out₀ : List ℕ) (at ring : ℕ) (out : List ℕ) (c : Putting out₀ at ring out) where
    -- no ring is left
    put_all : end ≤ ring → Sized tables → Tabled tables → p < 65536 → (ts : List Tunnel) → rings (rows_of tables) p a 1 (end - 1) ≡ value ts → length (tunnels_words ts) ≤ length out₀ → take at out ≡ tunnels_words ts
    unfolding rings tunnels_words
    put_all l z t q ts e n =
        let y = c.rest z t q ts e n in
        let k : value [] ≡ value y.0 = ap (rings (rows_of tables) p a ring) (let v : 0 ≡ end - ring = omega arith in v) ∙ y.1 in
        let none_left : [] ≡ y.0 = cc in
        sym (append-nil (take at out)) ∙ ap (λ us. take at out ++ tunnels_words us) none_left ∙ y.2

    pub putting_end : end ≤ ring → RingsPut tables p a (end - 1) out₀ out
    putting_end l = record {
      long = c.long;
      words = λ z t q ts e n.
          let whole = put_all l z t q ts e (omega (arith, n)) in
          sym (take_all at out (omega (arith, n, c.long, ap length whole, length-take-le at out c.within))) ∙ whole;
    }

    pub putting_drafted : end ≤ ring → Drafted tables p a (end - 1) out
    putting_drafted l = record {
      words = λ z t q ts e n.
          let whole = put_all l z t q ts e (omega (arith, n, c.long)) in
          ap (λ k. take k out) (let v : length (tunnels_words ts) ≡ at = omega (arith, ap length whole, length-take-le at out c.within) in v) ∙ whole;
    }

    -- no words are left
    pub putting_full : length out ≤ at → RingsPut tables p a (end - 1) out₀ out
    putting_full l = record {
      long = c.long;
      words = λ z t q ts e n.
          let y = c.rest z t q ts e (omega (arith, n)) in
          let whole : out ++ tunnels_words y.0 ≡ tunnels_words ts = ap (λ k. k ++ tunnels_words y.0) (sym (take_all at out l)) ∙ y.2 in
          sym (append-nil out) ∙ ap (λ k. out ++ k) (sym (no_length (tunnels_words y.0) (omega (arith, n, c.long, ap length whole, length-append out (tunnels_words y.0))))) ∙ whole;
    }

    -- the words of the next ring are put before those that are left
    module _ (r : ℕ) (out' : List ℕ) (w : RingPut tables p a ring at out r out') (z : Sized tables) (l : Tabled tables) (q : p < 65536) (ts us vs : List Tunnel) (t : Option Tunnel) (n : length (tunnels_words ts) ≤ length out₀)
        (whole : take at out ++ tunnels_words us ≡ tunnels_words ts) (e : us ≡ option_to_list t ++ vs) (d : one_dma (rows_of tables) p a ring ≡ value t) where
      split : tunnels_words us ≡ tunnels_words (option_to_list t) ++ tunnels_words vs
      split = ap tunnels_words e ∙ tunnels_append (option_to_list t) vs

      room : at + length (tunnels_words (option_to_list t)) ≤ length out
      room = omega (arith, n, c.long, ap length whole, length-append (take at out) (tunnels_words us), length-take-le at out c.within, ap length split, length-append (tunnels_words (option_to_list t)) (tunnels_words vs))

      put_next : take r out' ++ tunnels_words vs ≡ tunnels_words ts
      put_next =
          ap (λ l. l ++ tunnels_words vs) (wrote_front at (tunnels_words (option_to_list t)) out r out' room (w.words z l q t d room))
          ∙ append_assoc (take at out) (tunnels_words (option_to_list t)) (tunnels_words vs) ∙ ap (λ l. take at out ++ l) (sym split) ∙ whole

    pub putting_on : ring < end → (r : ℕ) (out' : List ℕ) → RingPut tables p a ring at out r out' → Putting out₀ r (ring + 1) out'
    putting_on more r out' w = record {
      from = omega arith;
      to = omega arith;
      within = omega (arith, w.within, w.long);
      long = w.long ∙ c.long;
      rest = λ z l q ts e n. go z l q ts n (c.rest z l q ts e n);
    }
      where
        go : Sized tables → Tabled tables → p < 65536 → (ts : List Tunnel) → length (tunnels_words ts) ≤ length out₀ → (us : List Tunnel) × (rings (rows_of tables) p a ring (end - ring) ≡ value us) × (take at out ++ tunnels_words us ≡ tunnels_words ts)
            → (vs : List Tunnel) × (rings (rows_of tables) p a (ring + 1) (end - (ring + 1)) ≡ value vs) × (take r out' ++ tunnels_words vs ≡ tunnels_words ts)
        go z l q ts n (us, e, whole) = next (rings_split (rows_of tables) p a ring (end - (ring + 1)) us (ap (rings (rows_of tables) p a ring) (let v : suc (end - (ring + 1)) ≡ end - ring = omega arith in v) ∙ e))
          where
            next : (t : Option Tunnel) × (vs : List Tunnel) × (one_dma (rows_of tables) p a ring ≡ value t) × (rings (rows_of tables) p a (suc ring) (end - (ring + 1)) ≡ value vs) × (us ≡ option_to_list t ++ vs)
                → (vs : List Tunnel) × (rings (rows_of tables) p a (ring + 1) (end - (ring + 1)) ≡ value vs) × (take r out' ++ tunnels_words vs ≡ tunnels_words ts)
            next (t, vs, d, g, h) = (
              vs,
              ap (λ k. rings (rows_of tables) p a k (end - (ring + 1))) (let v : ring + 1 ≡ suc ring = omega arith in v) ∙ g,
              put_next r out' w z l q ts us vs t n whole h d,
            )
