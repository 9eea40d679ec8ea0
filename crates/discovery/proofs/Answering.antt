-- Laws of what is answered and written of what is discovered. Assumes nothing.
use Rattle.std.specs.Option.{option_to_list}
use Prim.Native.Nat.{ℕ, ◌+◌, ◌-◌, ◌≤◌, ◌<◌}
use mathlib.Core.Path.{◌≡◌, refl, sym, ap, ◌∙◌, subst}
use mathlib.Core.Bool.{Bool, true, false, cond, ◌&&◌, ◌||◌, true≢false}
use mathlib.Core.List.{List, [], ◌∷◌, ◌++◌, append-nil}
use Rattle.std.specs.Prelude.{Option, None, Some, Err, Ok, Result}
use native.Mathlib.Omega.{arith}
use native.Mathlib.Decide.{dec_lt}
use lib.Dec.{ltb, eqb}
use lib.ListN.{length, take, drop, drop_of_length-le}
use lib.Seq.{length-take-le, length_front, drop_at}
use borrow.Author.Tests.{lt-ltb, le-ltb, ne_eqb}
use Rattle.refusal.specs.Outcome.{Outcome, refused, value, bind}
use Rattle.refusal.specs.Refusal.{at as site-at, refusal_of, field_at, is_given, IsMet, of_walk, refused_by, walk_outcome}
use Rattle.refusal.specs.declared.Fault.TheVariants.{NoField}
use Rattle.usb4.specs.Numbers.{type_number, state_number}
use Rattle.usb4.specs.declared.AdapterType.{AdapterType}
use Rattle.usb4.specs.declared.AdapterType.TheVariants as type
use Rattle.usb4.specs.declared.State.{State}
use Rattle.usb4.specs.declared.State.TheVariants as state
use Rattle.usb4.specs.declared.TunnelType.TheVariants as tunnel_type
use Rattle.state.specs.State.{is_protocol, is_enabled}
use Rattle.adapter.specs.Adapter.{AdapterRow, min_hop, adapter_site, facts_row}
use Rattle.adapter.specs.declared.Facts.{Facts}
use Rattle.tables.specs.Rows.{Rows, adapter_in, device_in}
use Rattle.tables.specs.Packed.{type_by, adapters_in, devices_in}
use Rattle.tables.specs.Found.{device_found, adapter_found, AdapterSought}
use Rattle.tables.specs.declared.DeviceFacts.{DeviceFacts}
use Rattle.tables.proofs.Laws.{type_round, device_past}
use Rattle.load.specs.Answers.{present, asked_device, asked_adapter}
use Rattle.refusal.specs.Refusal.{refused_by, field_at, is_given, IsMet, of_walk, walk_outcome}
use Rattle.refusal.specs.declared.Refusal.{Refusal}
use Rattle.refusal.specs.declared.Refusal.TheVariants as refusal
use Rattle.refusal.specs.declared.WalkError.TheVariants as walk
use Rattle.tunnel.specs.Tunnels.{Tunnel, down_and_up, display_port, rings, or_none, dma, alone, of_kind, discover}
use Rattle.tunnel.specs.Words.{tunnels_words}
use Rattle.tunnel.specs.Plans.{plan_if, planned_as, planned_outcome, words_by, Plans}
use Rattle.tunnel.specs.declared.Plan.{Plan as Planned}
use Rattle.discovery.specs.Answers.{discover_at, in_room, output_by}
use Rattle.discovery.specs.Tables.{Discovered}
use Rattle.discovery.specs.Work.{Wrote, Walks, PlanPut, tally_of, Tallies, RingsPut, Follows, Free, OneAnswered, Answered, ring_list, dma_by, tunnel_by, rings_end}
use Rattle.discovery.proofs.Walks.{down_and_up_walks, display_port_walks}
use Rattle.refusal.proofs.Laws.{walk_bind}
use Rattle.path.proofs.Writing.{refused_as_lem}
use Rattle.discovery.proofs.Past.{rings_capped}
use Rattle.discovery.proofs.Rings.{plan_words, plan_refused}
use Rattle.refusal.specs.declared.FieldError.{FieldError}
use Rattle.refusal.specs.declared.FieldError.TheVariants as field
use Rattle.tables.specs.declared.Tables.{Tables}
use Rattle.tables.specs.Tables.{Sized, Tabled, rows_of}
use Rattle.refusal.specs.declared.WalkError.{WalkError}
use Rattle.refusal.specs.declared.Site.{Site}
use mathlib.Core.Logic.{inl, inr}

-- ---- by what is discovered

module _ (o : Outcome (Option (List Tunnel))) (out : List ℕ) where
  module _ (ts : List Tunnel) (w : ℕ) (e : o ≡ value (Some ts)) (n : w ≡ length (tunnels_words ts)) where
    by_room : (b : Bool) → ltb (length out) (length (tunnels_words ts)) ≡ b → bind o (in_room (length out)) ≡ cond b (refused 2 (w ∷ [])) (value (Some w))
    unfolding bind in_room
    by_room b q = ap (λ y. bind y (in_room (length out))) e ∙ ap (λ y. cond y (refused 2 (length (tunnels_words ts) ∷ [])) (value (Some (length (tunnels_words ts))))) q ∙ ap (λ y. cond b (refused 2 (y ∷ [])) (value (Some y))) (sym n)

    by_words : (b : Bool) → ltb (length out) (length (tunnels_words ts)) ≡ b → output_by o out ≡ cond b out (tunnels_words ts ++ drop w out)
    unfolding output_by
    by_words b q = ap (λ y. output_by y out) e ∙ ap (λ y. cond y out (tunnels_words ts ++ drop (length (tunnels_words ts)) out)) q ∙ ap (λ y. cond b out (tunnels_words ts ++ drop y out)) (sym n)

    pub follows_words : w ≤ length out → (S : List ℕ) → S ≡ tunnels_words ts → Follows o out (Ok (Some w)) (S ++ drop w out)
    follows_words l S q =
        let b = le-ltb (length out) (length (tunnels_words ts)) (omega arith) in
        record { answers = sym (by_room false b); writes = ap (λ y. y ++ drop w out) q ∙ sym (by_words false b) }

    pub follows_short : length out < w → Follows o out (Err (refusal.Short w)) out
    follows_short l =
        let b = lt-ltb (length out) (length (tunnels_words ts)) (omega arith) in
        record { answers = sym (by_room true b); writes = sym (by_words true b) }

  pub follows_none : o ≡ value None → Follows o out (Ok None) out
  unfolding bind in_room output_by
  follows_none e = record { answers = sym (ap (λ y. bind y (in_room (length out))) e); writes = sym (ap (λ y. output_by y out) e) }

  pub follows_refused : (r : Refusal) (k : ℕ) (vs : List ℕ) → o ≡ refused k vs → ((A : Type 0) → refused_by {A = A} r ≡ refused k vs) → Follows o out (Err r) out
  unfolding bind output_by
  follows_refused r k vs e f = record { answers = f (Option ℕ) ∙ sym (ap (λ y. bind y (in_room (length out))) e); writes = sym (ap (λ y. output_by y out) e) }

-- ---- on any tables

pub free_kept : (out : List ℕ) (r : Result (Option ℕ) Refusal) → is_given r ≡ false → ((m : Refusal) → r ≡ Err m → IsMet m) → Free out r out
unfolding is_given
free_kept out r b met = record { met = met; kept = λ q. refl; fits = λ n e. absurd (true≢false (sym (ap is_given e) ∙ b)); tail = λ n e. refl; long = refl }

pub free_words : (out S : List ℕ) (w : ℕ) → w ≤ length out → length S ≡ length (take w out) → Free out (Ok (Some w)) (S ++ drop w out)
unfolding is_given
free_words out S w l n = record {
  met = λ m e. absurd (let z : ◌≡◌ {A = ℕ} 0 1 = cc in omega arith);
  kept = λ q. absurd (true≢false q);
  fits = λ k e. let z : w ≡ k = cc in omega arith;
  tail = λ k e. subst (λ j. drop j (S ++ drop w out) ≡ drop j out) (let z : w ≡ k = cc in z) (drop_at S (drop w out) w (n ∙ length-take-le w out l));
  long = length_front out S w n;
}

-- what is refused, if anything is
none_met : (m : Refusal) → ◌≡◌ {A = Result (Option ℕ) Refusal} (Ok None) (Err m) → IsMet m
none_met m e = absurd (let z : ◌≡◌ {A = ℕ} 0 1 = cc in omega arith)

short_met : (w : ℕ) (m : Refusal) → ◌≡◌ {A = Result (Option ℕ) Refusal} (Err (refusal.Short w)) (Err m) → IsMet m
unfolding IsMet
short_met w m e = inr (w, cc)

walk_met : (r : WalkError) (m : Refusal) → ◌≡◌ {A = Result (Option ℕ) Refusal} (Err (of_walk r)) (Err m) → IsMet m
unfolding IsMet
walk_met r m e = inl (r, cc)

-- what is discovered, by another definition
answered_as : (tables : Tables) (p : ℕ) (f g : Rows → Outcome (Option (List Tunnel))) (out : List ℕ) (r : Result (Option ℕ) Refusal) (out' : List ℕ) → (Sized tables → f (rows_of tables) ≡ g (rows_of tables)) → Answered tables p g out r out' → Answered tables p f out r out'
answered_as tables p f g out r out' e w = record { follows = λ z t l. subst (λ o. Follows o out r out') (sym (e z)) (w.follows z t l); free = w.free }

-- ---- one tunnel

module _ (tables : Tables) (plan : Option Planned) (out : List ℕ) where
  pub one_absent : plan ≡ None → OneAnswered tables plan out (Ok None) out
  unfolding is_given planned_outcome bind plan_if alone
  one_absent e = record { follows = λ z t o f w. follows_none (bind o alone) out (go o (sym (ap (λ q. planned_outcome (Ok q)) e) ∙ f)); free = free_kept out (Ok None) refl none_met }
    where
      go : (o : Outcome (Option Tunnel)) → value None ≡ bind o (λ t. value (plan_if t)) → bind o alone ≡ value None
      go (refused k vs) f = absurd (let z : ◌≡◌ {A = ℕ} 0 1 = cc in omega arith)
      go (value None) f = refl
      go (value (Some t)) f = absurd (let z : ◌≡◌ {A = ℕ} 0 1 = cc in omega arith)

  -- a tunnel that is planned is a list of one
  module _ (w : ℕ) (e : tally_of plan ≡ w) (some-planned : planned_outcome (Ok plan) ≡ value None → ⊥) (o : Outcome (Option Tunnel)) (f : planned_outcome (Ok plan) ≡ bind o (λ t. value (plan_if t))) where
    pub one_planned : (t : Tunnel) × (o ≡ value (Some t)) × (bind o alone ≡ value (Some (t ∷ []))) × (w ≡ length (tunnels_words (t ∷ []))) × (planned_outcome (Ok plan) ≡ value (plan_if (Some t)))
    unfolding bind alone plan_if
    one_planned = go (plan_words plan o f w e)
      where
        go : (t : Option Tunnel) × (o ≡ value t) × (w ≡ length (tunnels_words (option_to_list t))) × (planned_outcome (Ok plan) ≡ value (plan_if t)) → (t : Tunnel) × (o ≡ value (Some t)) × (bind o alone ≡ value (Some (t ∷ []))) × (w ≡ length (tunnels_words (t ∷ []))) × (planned_outcome (Ok plan) ≡ value (plan_if (Some t)))
        go (None, q, n, g) = absurd (some-planned g)
        go (Some t, q, n, g) = (t, q, ap (λ y. bind y alone) q, n, g)

  module _ (k : _) (c : Bool) (w : ℕ) (l : _) (e : plan ≡ Some (planned_as k c w l)) where
    tunnel_planned : planned_outcome (Ok plan) ≡ value None → ⊥
    unfolding planned_outcome
    tunnel_planned f = let z = sym (ap (λ q. planned_outcome (Ok q)) e) ∙ f in let y : ◌≡◌ {A = ℕ} 0 1 = cc in omega arith

    tunnel_words_lem : tally_of plan ≡ w
    unfolding tally_of
    tunnel_words_lem = ap tally_of e

    pub one_short : length out < w → OneAnswered tables plan out (Err (refusal.Short w)) out
    unfolding is_given
    one_short i = record {
      follows = λ z t o f q. let y = one_planned w tunnel_words_lem tunnel_planned o f in follows_short (bind o alone) out (y.0 ∷ []) w y.2 y.3 i;
      free = free_kept out _ refl (short_met w);
    }

    pub one_put : (S : List ℕ) (r : ℕ) → w ≤ length out → length S ≡ length (take w out) → PlanPut tables (Some (planned_as k c w l)) 0 (take w out) r S → OneAnswered tables plan out (Ok (Some w)) (S ++ drop w out)
    one_put S r i m p = record {
      follows = λ z t o f q. let y = one_planned w tunnel_words_lem tunnel_planned o f in follows_words (bind o alone) out (y.0 ∷ []) w y.2 y.3 i S (whole z t y.0 y.3 y.4 (q (Some y.0) y.1));
      free = free_words out S w i m;
    }
      where
        whole : Sized tables → Tabled tables → (t : Tunnel) → w ≡ length (tunnels_words (t ∷ [])) → planned_outcome (Ok plan) ≡ value (plan_if (Some t)) → Walks (rows_of tables) (Some t) → S ≡ tunnels_words (t ∷ [])
        whole z g t j f q = all (p.words z g (Some t) (sym (ap (λ q. planned_outcome (Ok q)) e) ∙ f) q (omega (arith, j, length-take-le w out i)))
          where
            all : Wrote 0 (tunnels_words (t ∷ [])) (take w out) r S → S ≡ tunnels_words (t ∷ [])
            all v = v.whole ∙ ap (λ y. tunnels_words (t ∷ []) ++ y) (drop_of_length-le (take w out) {i = r} (omega (arith, j, v.next, length-take-le w out i))) ∙ append-nil (tunnels_words (t ∷ []))

-- ---- the rings of a host interface

counted_words : (o : Outcome (List Tunnel)) (w : ℕ) → value w ≡ bind o (λ ts. value (length (tunnels_words ts))) → (ts : List Tunnel) × (o ≡ value ts) × (w ≡ length (tunnels_words ts))
unfolding bind
counted_words (refused k vs) w e = absurd (let z : ◌≡◌ {A = ℕ} 0 1 = cc in omega arith)
counted_words (value ts) w e = (ts, refl, cc)

counted_refused : (o : Outcome (List Tunnel)) (r : WalkError) → refused_by (of_walk r) ≡ bind o (λ ts. value (length (tunnels_words ts))) → (k : ℕ) × (vs : List ℕ) × (o ≡ refused k vs) × ((A : Type 0) → refused_by {A = A} (of_walk r) ≡ refused k vs)
unfolding bind
counted_refused (refused k vs) r e = (k, vs, refl, λ A. sym (walk_bind r (λ y. refused 0 [])) ∙ ap (λ w. bind w (λ y. refused 0 [])) e)
counted_refused (value ts) r e = absurd (let w = refused_as_lem (value (length (tunnels_words ts))) (of_walk r) e in let v = w.2 in let z : ◌≡◌ {A = ℕ} 0 1 = cc in omega arith)

module _ (tables : Tables) (s : Site) (out : List ℕ) where
  abbrev Rung : Result (Option ℕ) FieldError → Result (Option ℕ) Refusal → List ℕ → Type 0
  Rung m r out' = Answered tables s.place (λ x. dma_by x s.place s.adapter (field_at s m)) out r out'

  pub dma_absent : (m : Result (Option ℕ) FieldError) → m ≡ (Ok None) → Rung m (Ok None) out
  unfolding is_given dma_by bind or_none
  dma_absent m e = record {
    follows = λ z t l. follows_none (dma_by (rows_of tables) s.place s.adapter (field_at s m)) out (ap (λ q. dma_by (rows_of tables) s.place s.adapter (field_at s q)) e);
    free = free_kept out (Ok None) refl none_met;
  }

  pub dma_unread : (m : Result (Option ℕ) FieldError) → m ≡ (Err field.NoField) → Rung m (Err (refusal.Fault (NoField s))) out
  unfolding is_given dma_by bind refusal_of
  dma_unread m e = record {
    follows = λ z t l. follows_refused (dma_by (rows_of tables) s.place s.adapter (field_at s m)) out (refusal.Fault (NoField s)) 6 (site-at s) (ap (λ q. dma_by (rows_of tables) s.place s.adapter (field_at s q)) e) (λ A. refl);
    free = free_kept out _ refl (walk_met (walk.Fault (NoField s)));
  }

  -- those past 65,535 have no tunnel
  pub dma_rings : (m : Result (Option ℕ) FieldError) (hi end : ℕ) → m ≡ Ok (Some hi) → end ≡ rings_end hi → (r : Result (Option ℕ) Refusal) (out' : List ℕ) → Answered tables s.place (λ x. ring_list x s.place s.adapter (end - 1)) out r out' → Rung m r out'
  unfolding dma_by bind or_none
  dma_rings m hi end e is r out' w = answered_as tables s.place _ _ out r out'
      (λ z.
      ap (λ y. dma_by (rows_of tables) s.place s.adapter (field_at s y)) e
      ∙ ap (λ y. bind y (λ ts. value (Some ts))) (rings_capped tables s.place s.adapter hi z ∙ ap (λ y. rings (rows_of tables) s.place s.adapter 1 (y - 1)) (sym is)))
      w

module _ (tables : Tables) (p a : ℕ) (out : List ℕ) (k : ℕ) where
  abbrev Listed : Result (Option ℕ) Refusal → List ℕ → Type 0
  Listed r out' = Answered tables p (λ x. ring_list x p a k) out r out'

  module _ (c : Result ℕ WalkError) (f : Tallies tables p a k c) where
    pub list_refused : (r : WalkError) → c ≡ Err r → Listed (Err (of_walk r)) out
    unfolding is_given bind
    list_refused r d = record {
      follows = λ z t l. let y = counted_refused (rings (rows_of tables) p a 1 k) r (sym (ap walk_outcome d) ∙ f.counts z t l) in follows_refused (ring_list (rows_of tables) p a k) out (of_walk r) y.0 y.1 (ap (λ o. bind o (λ ts. value (Some ts))) y.2) y.3;
      free = free_kept out (Err (of_walk r)) refl (walk_met r);
    }

    module _ (w : ℕ) (d : c ≡ Ok w) where
      all_rings : Sized tables → Tabled tables → p < 65536 → (ts : List Tunnel) × (rings (rows_of tables) p a 1 k ≡ value ts) × (w ≡ length (tunnels_words ts)) × (ring_list (rows_of tables) p a k ≡ value (Some ts))
      unfolding bind
      all_rings z t l = let y = counted_words (rings (rows_of tables) p a 1 k) w (sym (ap walk_outcome d) ∙ f.counts z t l) in (y.0, y.1, y.2, ap (λ o. bind o (λ ts. value (Some ts))) y.1)

      pub list_short : length out < w → Listed (Err (refusal.Short w)) out
      unfolding is_given
      list_short n = record {
        follows = λ z t l. let y = all_rings z t l in follows_short (ring_list (rows_of tables) p a k) out y.0 w y.3 y.2 n;
        free = free_kept out _ refl (short_met w);
      }

      pub list_put : w ≤ length out → (S : List ℕ) → length S ≡ length (take w out) → RingsPut tables p a k (take w out) S → Listed (Ok (Some w)) (S ++ drop w out)
      list_put n S e v = record {
        follows = λ z t l. let y = all_rings z t l in follows_words (ring_list (rows_of tables) p a k) out y.0 w y.3 y.2 n S (v.words z t l y.0 y.1 (length-take-le w out n ∙ y.2));
        free = free_words out S w n e;
      }

-- ---- by the adapter's kind

no_host : (k : AdapterType) → (k ≡ type.HostInterface → ⊥) → type_number k ≡ 3 → ⊥
unfolding type_by
no_host k n e = n (sym (type_round k) ∙ ap type_by e)

no_enabled : (st : State) → (st ≡ state.Enabled → ⊥) → eqb (state_number st) 2 ≡ false
no_enabled state.Unknown n = refl
no_enabled state.Disabled n = refl
no_enabled state.Enabled n = absurd (n refl)
no_enabled state.Training n = refl
no_enabled state.Cl0 n = refl
no_enabled state.Cl0sTx n = refl
no_enabled state.Cl0sRx n = refl
no_enabled state.Cl1 n = refl
no_enabled state.Cl2 n = refl
no_enabled state.Cld n = refl

never_and : (b : Bool) → (b && false) ≡ false
never_and true = refl
never_and false = refl

not_enabled : (k : AdapterType) (st : State) → (k ≡ type.HostInterface → ⊥) → (st ≡ state.Enabled → ⊥) → is_enabled k st ≡ false
unfolding is_enabled
not_enabled k st f g = ap (λ b. b || (is_protocol k && eqb (state_number st) 2)) (ne_eqb (type_number k) 3 (no_host k f)) ∙ ap (λ b. is_protocol k && b) (no_enabled st g) ∙ never_and (is_protocol k)

-- an enabled adapter that isn't a host interface
by_number : (x : Rows) (p : ℕ) (y : AdapterRow) (k : AdapterType) (st : State) → (type_number k ≡ 3 → ⊥) → eqb (state_number st) 2 ≡ true → cond (is_enabled k st) (of_kind x p y k) (value None) ≡ bind (tunnel_by x p y.number (type_number k)) alone
unfolding is_enabled is_protocol of_kind tunnel_by bind alone
by_number x p y type.Unknown st h e = refl
by_number x p y type.Inactive st h e = refl
by_number x p y type.Lane st h e = refl
by_number x p y type.HostInterface st h e = absurd (h refl)
by_number x p y type.DisplayPortIn st h e = ap (λ b. cond b (of_kind x p y type.DisplayPortIn) (value None)) e
by_number x p y type.DisplayPortOut st h e = ap (λ b. cond b (of_kind x p y type.DisplayPortOut) (value None)) e
by_number x p y type.PcieDown st h e = ap (λ b. cond b (of_kind x p y type.PcieDown) (value None)) e
by_number x p y type.PcieUp st h e = ap (λ b. cond b (of_kind x p y type.PcieUp) (value None)) e
by_number x p y type.Usb3Down st h e = ap (λ b. cond b (of_kind x p y type.Usb3Down) (value None)) e
by_number x p y type.Usb3Up st h e = ap (λ b. cond b (of_kind x p y type.Usb3Up) (value None)) e
by_number x p y type.Usb3GenTDown st h e = ap (λ b. cond b (of_kind x p y type.Usb3GenTDown) (value None)) e
by_number x p y type.Usb3GenTUp st h e = ap (λ b. cond b (of_kind x p y type.Usb3GenTUp) (value None)) e

tunnel_walks : (x : Rows) (p a n : ℕ) (t : Option Tunnel) → tunnel_by x p a n ≡ value t → Walks x t
unfolding tunnel_by Walks
tunnel_walks x p a n t e = go (eqb n 4) (eqb n 6) (eqb n 8) t e
  where
    go : (b c d : Bool) (t : Option Tunnel) → cond b (display_port x p a) (cond c (down_and_up x tunnel_type.Pcie 5 6 p a) (cond d (down_and_up x tunnel_type.Usb3 0 1 p a) (value None))) ≡ value t → Walks x t
    go true c d t e = display_port_walks x p a t e
    go false true d t e = down_and_up_walks x tunnel_type.Pcie 5 6 p a t e
    go false false true t e = down_and_up_walks x tunnel_type.Usb3 0 1 p a t e
    go false false false None e = omega arith
    go false false false (Some t) e = absurd (let z : ◌≡◌ {A = ℕ} 0 1 = cc in omega arith)

-- a plan by a kind
module _ (tables : Tables) (p a : ℕ) (k : AdapterType) where
  plans_as : (f : Rows → Outcome (Option Tunnel)) (r : Result (Option Planned) WalkError) → ((x : Rows) → tunnel_by x p a (type_number k) ≡ f x) → Plans tables p f r → Plans tables p (λ x. tunnel_by x p a (type_number k)) r
  plans_as f r e g = record { answers = λ z t l. g.answers z t l ∙ ap (λ o. bind o (λ t. value (plan_if t))) (sym (e (rows_of tables))); few = g.few }

  pub plan_display_port : k ≡ type.DisplayPortIn → (r : Result (Option Planned) WalkError) → Plans tables p (λ x. display_port x p a) r → Plans tables p (λ x. tunnel_by x p a (type_number k)) r
  unfolding tunnel_by
  plan_display_port e r g = plans_as (λ x. display_port x p a) r (λ x. ap (λ t. tunnel_by x p a (type_number t)) e) g

  pub plan_pcie : k ≡ type.PcieDown → (r : Result (Option Planned) WalkError) → Plans tables p (λ x. down_and_up x tunnel_type.Pcie 5 6 p a) r → Plans tables p (λ x. tunnel_by x p a (type_number k)) r
  unfolding tunnel_by
  plan_pcie e r g = plans_as (λ x. down_and_up x tunnel_type.Pcie 5 6 p a) r (λ x. ap (λ t. tunnel_by x p a (type_number t)) e) g

  pub plan_usb3 : k ≡ type.Usb3Down → (r : Result (Option Planned) WalkError) → Plans tables p (λ x. down_and_up x tunnel_type.Usb3 0 1 p a) r → Plans tables p (λ x. tunnel_by x p a (type_number k)) r
  unfolding tunnel_by
  plan_usb3 e r g = plans_as (λ x. down_and_up x tunnel_type.Usb3 0 1 p a) r (λ x. ap (λ t. tunnel_by x p a (type_number t)) e) g

none_by : (x : Rows) (p a : ℕ) (k : AdapterType) → (k ≡ type.DisplayPortIn → ⊥) → (k ≡ type.PcieDown → ⊥) → (k ≡ type.Usb3Down → ⊥) → tunnel_by x p a (type_number k) ≡ value None
unfolding tunnel_by
none_by x p a type.Unknown i j l = refl
none_by x p a type.Inactive i j l = refl
none_by x p a type.Lane i j l = refl
none_by x p a type.HostInterface i j l = refl
none_by x p a type.DisplayPortIn i j l = absurd (i refl)
none_by x p a type.DisplayPortOut i j l = refl
none_by x p a type.PcieDown i j l = absurd (j refl)
none_by x p a type.PcieUp i j l = refl
none_by x p a type.Usb3Down i j l = absurd (l refl)
none_by x p a type.Usb3Up i j l = refl
none_by x p a type.Usb3GenTDown i j l = refl
none_by x p a type.Usb3GenTUp i j l = refl

pub plan_other : (tables : Tables) (p a : ℕ) (k : AdapterType) → (k ≡ type.DisplayPortIn → ⊥) → (k ≡ type.PcieDown → ⊥) → (k ≡ type.Usb3Down → ⊥) → Plans tables p (λ x. tunnel_by x p a (type_number k)) (Ok None)
unfolding planned_outcome words_by plan_if bind
plan_other tables p a k i j l = record { answers = λ z t n. sym (ap (λ o. bind o (λ t. value (plan_if t))) (none_by (rows_of tables) p a k i j l)); few = omega arith }

module _ (tables : Tables) (p : ℕ) (f : Facts) (out : List ℕ) (r : Result (Option ℕ) Refusal) (out' : List ℕ) where
  abbrev Told : Type 0
  Told = Answered tables p (λ x. discover x p (facts_row p f)) out r out'

  by_kind : Rows → AdapterType → Outcome (Option (List Tunnel))
  by_kind x k = cond (is_enabled k f.state) (of_kind x p (facts_row p f) k) (value None)

  discover_as : (x : Rows) (k : AdapterType) → f.kind ≡ k → discover x p (facts_row p f) ≡ by_kind x k
  unfolding discover facts_row by_kind
  discover_as x k e = ap (by_kind x) e

  host_rings : (x : Rows) → f.kind ≡ type.HostInterface → discover x p (facts_row p f) ≡ dma_by x p f.number (field_at (adapter_site p f.number) f.max_hop)
  unfolding by_kind is_enabled of_kind dma dma_by facts_row min_hop or_none bind
  host_rings x e =
      discover_as x type.HostInterface e ∙ ap (λ k. or_none (min_hop k) (λ lo. bind (field_at (adapter_site p f.number) f.max_hop) (λ m. or_none m (λ hi. bind (rings x p f.number lo (hi + 1 - lo)) (λ ts. value (Some ts)))))) e
      ∙ go (field_at (adapter_site p f.number) f.max_hop)
    where
      go : (o : Outcome (Option ℕ)) → bind o (λ m. or_none m (λ hi. bind (rings x p f.number 1 (hi + 1 - 1)) (λ ts. value (Some ts)))) ≡ bind o (λ m. or_none m (λ hi. bind (rings x p f.number 1 hi) (λ ts. value (Some ts))))
      go (refused k vs) = refl
      go (value None) = refl
      go (value (Some hi)) = ap (λ n. bind (rings x p f.number 1 n) (λ ts. value (Some ts))) (let z : hi + 1 - 1 ≡ hi = omega arith in z)

  pub told_host : f.kind ≡ type.HostInterface → Answered tables p (λ x. dma_by x p f.number (field_at (adapter_site p f.number) f.max_hop)) out r out' → Told
  told_host e a = answered_as tables p _ _ out r out' (λ z. host_rings (rows_of tables) e) a

  module _ (h : f.kind ≡ type.HostInterface → ⊥) (on : f.state ≡ state.Enabled) where
    -- one plan's tunnel
    kind_as : (x : Rows) → discover x p (facts_row p f) ≡ bind (tunnel_by x p f.number (type_number f.kind)) alone
    unfolding discover facts_row
    kind_as x = by_number x p (facts_row p f) f.kind f.state (no_host f.kind h) (ap (λ (s : State). eqb (state_number s) 2) on)

    pub told_enabled : (plan : Option Planned) → Plans tables p (λ x. tunnel_by x p f.number (type_number f.kind)) (Ok plan) → OneAnswered tables plan out r out' → Told
    told_enabled plan g a = record {
      follows = λ z t l. subst (λ q. Follows q out r out') (sym (kind_as (rows_of tables))) (a.follows z t (tunnel_by (rows_of tables) p f.number (type_number f.kind)) (g.answers z t l) (tunnel_walks (rows_of tables) p f.number (type_number f.kind)));
      free = a.free;
    }

-- its plan is refused
pub told_unplanned : (tables : Tables) (p : ℕ) (f : Facts) (out : List ℕ) → (f.kind ≡ type.HostInterface → ⊥) → f.state ≡ state.Enabled → (e : WalkError) → Plans tables p (λ x. tunnel_by x p f.number (type_number f.kind)) (Err e) → Told tables p f out (Err (of_walk e)) out
unfolding bind is_given
told_unplanned tables p f out h on e g = record {
  follows = λ z t l.
      let o = tunnel_by (rows_of tables) p f.number (type_number f.kind) in
      let y = plan_refused e o (g.answers z t l) in
      subst (λ q. Follows q out (Err (of_walk e)) out) (sym (kind_as tables p f out (Err (of_walk e)) out h on (rows_of tables))) (follows_refused (bind o alone) out (of_walk e) y.0 y.1 (ap (λ q. bind q alone) y.2) y.3);
  free = free_kept out (Err (of_walk e)) refl (walk_met e);
}

module _ (tables : Tables) (p : ℕ) (f : Facts) (out : List ℕ) where
  told_none : ((x : Rows) → discover x p (facts_row p f) ≡ value None) → Told tables p f out (Ok None) out
  unfolding is_given
  told_none e = record { follows = λ z t l. follows_none (discover (rows_of tables) p (facts_row p f)) out (e (rows_of tables)); free = free_kept out (Ok None) refl none_met }

  -- a disabled adapter
  pub told_disabled : (f.kind ≡ type.HostInterface → ⊥) → (f.state ≡ state.Enabled → ⊥) → Told tables p f out (Ok None) out
  unfolding discover facts_row
  told_disabled a b = told_none (λ x. ap (λ y. cond y (of_kind x p (facts_row p f) f.kind) (value None)) (not_enabled f.kind f.state a b))

-- ---- the device and the adapter that are asked for

module _ (tables : Tables) (p a : ℕ) (out : List ℕ) where
  pub in_larger : (Sized tables → ⊥) → Discovered tables p a out (Ok None) out
  unfolding is_given
  in_larger n = let f = free_kept out (Ok None) refl none_met in record { answers = λ z t. absurd (n z); writes = λ z t. absurd (n z); larger = λ k. refl; met = f.met; kept = f.kept; fits = f.fits; tail = f.tail; long = f.long }

  in_by : (r : Result (Option ℕ) Refusal) (out' : List ℕ) → Sized tables → (Tabled tables → Follows (discover_at (rows_of tables) p a) out r out') → Free out r out' → Discovered tables p a out r out'
  in_by r out' z f g = record { answers = λ y t. (f t).answers; writes = λ y t. (f t).writes; larger = λ n. absurd (n z); met = g.met; kept = g.kept; fits = g.fits; tail = g.tail; long = g.long }

  in_missing : Sized tables → (Tabled tables → asked_adapter (rows_of tables) p a ≡ refused 14 []) → Discovered tables p a out (Err refusal.Missing) out
  unfolding is_given discover_at bind
  in_missing z f = in_by (Err refusal.Missing) out z
      (λ t. follows_refused (discover_at (rows_of tables) p a) out refusal.Missing 14 [] (ap (λ o. bind o (λ y. discover (rows_of tables) p y)) (f t)) (λ A. refl))
      (free_kept out (Err refusal.Missing) refl (walk_met walk.Missing))

  module _ (z : Sized tables) (d : Option DeviceFacts) (e : device_found p d ≡ device_in (devices_in tables.devices.now) p) where
    pub no_device : d ≡ None → Discovered tables p a out (Err refusal.Missing) out
    unfolding device_found asked_adapter asked_device present bind rows_of
    no_device q = in_missing z (λ t. ap (λ o. bind (present o) (λ x. present (adapter_in (adapters_in tables.adapters.now) p a))) (sym e ∙ ap (device_found p) q))

    module _ (v : DeviceFacts) (q : d ≡ Some v) where
      near : p < length tables.devices.now
      unfolding device_found
      near = go (dec_lt p (length tables.devices.now))
        where
          go : Dec (p < length tables.devices.now) → p < length tables.devices.now
          go (yes l) = l
          go (no l) = absurd (let w = sym (ap (device_found p) q) ∙ e ∙ sym (device_past 0 tables.devices.now p (omega arith)) in let y : ◌≡◌ {A = ℕ} 0 1 = cc in omega arith)

      asked : asked_adapter (rows_of tables) p a ≡ present (adapter_in (adapters_in tables.adapters.now) p a)
      unfolding device_found asked_adapter asked_device present bind rows_of
      asked = ap (λ o. bind (present o) (λ x. present (adapter_in (adapters_in tables.adapters.now) p a))) (sym e ∙ ap (device_found p) q)

      module _ (s : Option Facts) (g : AdapterSought tables.adapters.now p a s) where
        sought : Tabled tables → adapter_found p s ≡ adapter_in (adapters_in tables.adapters.now) p a
        sought t = g.first (omega (arith, near, z.devices)) t.others.adapters

        pub no_adapter : s ≡ None → Discovered tables p a out (Err refusal.Missing) out
        unfolding adapter_found present
        no_adapter k = in_missing z (λ t. asked ∙ ap present (sym (sought t) ∙ ap (adapter_found p) k))

        pub in_kind : (f : Facts) → s ≡ Some f → (r : Result (Option ℕ) Refusal) (out' : List ℕ) → Answered tables p (λ x. discover x p (facts_row p f)) out r out' → Discovered tables p a out r out'
        unfolding adapter_found present discover_at bind
        in_kind f k r out' w = in_by r out' z
            (λ t. subst (λ o. Follows o out r out') (sym (ap (λ o. bind o (λ y. discover (rows_of tables) p y)) (asked ∙ ap present (sym (sought t) ∙ ap (adapter_found p) k)))) (w.follows z t (omega (arith, near, z.devices))))
            w.free
