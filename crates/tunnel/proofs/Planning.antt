-- Laws of plans: what a tunnel's paths come to, by where they start, and what is answered of each walk. Assumes nothing.
use Prim.Native.Nat.{ℕ, ◌+◌, ◌*◌, ◌≤◌, ◌<◌}
use mathlib.Core.Path.{◌≡◌, refl, sym, ap, ◌∙◌}
use mathlib.Core.Bool.{Bool, false, ◌&&◌}
use mathlib.Core.List.{List, [], ◌∷◌}
use Rattle.std.specs.Prelude.{Option, None, Some, Ok, Err, Result}
use native.Mathlib.Omega.{arith}
use lib.Dec.{eqb}
use lib.ListN.{length, length-append}
use Rattle.refusal.specs.Outcome.{Outcome, refused, value, bind}
use Rattle.usb4.specs.declared.TunnelType.{TunnelType}
use Rattle.usb4.specs.declared.TunnelType.TheVariants as tunnel_type
use Rattle.tables.specs.Rows.{EntryRow, Rows}
use Rattle.refusal.specs.Refusal.{refused_by, of_walk}
use Rattle.refusal.proofs.Laws.{walk_bind}
use Rattle.walk.specs.Rule.{walk_from, stand_of}
use Rattle.walk.specs.Tables.{Tallied}
use Rattle.path.specs.Words.{path_words, words_needed}
use Rattle.path.specs.Names.{name_number}
use Rattle.path.specs.declared.PathName.{PathName}
use Rattle.path.specs.declared.TheConstants.PathName as name
use Rattle.path.proofs.Writing.{length_path_words, stood}
use Rattle.path.proofs.Answering.{hops_few}
use Rattle.receive.specs.Receive.{at}
use Rattle.tunnel.specs.Tunnels.{Path, Tunnel, path, leaving, or_absent, needed, tunnel_of, down_and_up, display_port}
use Rattle.tunnel.specs.Words.{back_to, last_path, closed_by, closed, paths_words, tunnel_words}
use Rattle.tunnel.specs.Plans.{Start, Plan, start_of, from_of, plan_of, plan_if, planned_as, planned_outcome, words_by, Plans}
use Rattle.tunnel.specs.Work.{Draws, start_by, leaves_by, last_plan, finished, auxiliary}
use Rattle.tunnel.specs.declared.Start.{Start as Started}
use Rattle.tunnel.specs.declared.Starts.{Starts}
use Rattle.tunnel.specs.declared.Starts.TheVariants as starts
use Rattle.tunnel.specs.declared.Plan.{Plan as Planned}
use Rattle.tunnel.proofs.Going.{path_start, tally_refused, tally_absent, tally_path}
use Rattle.walk.specs.Tables.{walked_to}
use Rattle.walk.specs.declared.Walked.{Walked}
use Rattle.tables.specs.declared.Stand.{Stand}
use Rattle.tables.specs.declared.Tables.{Tables}
use Rattle.tables.specs.Tables.{Tabled, rows_of}
use Rattle.refusal.specs.declared.WalkError.{WalkError}

-- ---- a walk that must give a path

module _ {A : Type 0} (x : Rows) (s : Stand) where
  pub needed_path : (hs : List EntryRow) (f : List EntryRow → Outcome (Option A)) → walk_from x s ≡ value (Some hs) → needed x s f ≡ f hs
  unfolding needed bind or_absent
  needed_path hs f e = ap (λ o. bind o (λ y. or_absent y f)) e

  pub needed_none : (f : List EntryRow → Outcome (Option A)) → walk_from x s ≡ value None → needed x s f ≡ value None
  unfolding needed bind or_absent
  needed_none f e = ap (λ o. bind o (λ y. or_absent y f)) e

  -- only its own path matters
  pub needed_same : (f g : List EntryRow → Outcome (Option A)) → ((hs : List EntryRow) → walk_from x s ≡ value (Some hs) → f hs ≡ g hs) → needed x s f ≡ needed x s g
  unfolding needed bind or_absent
  needed_same f g h = go (walk_from x s) refl
    where
      go : (o : Outcome (Option (List EntryRow))) → walk_from x s ≡ o → bind o (λ y. or_absent y f) ≡ bind o (λ y. or_absent y g)
      go (refused n vs) e = refl
      go (value None) e = refl
      go (value (Some hs)) e = h hs e

-- a plan, if there is one
abbrev pub planned : Outcome (Option Tunnel) → Outcome (Option Plan)
planned o = bind o (λ t. value (plan_if t))

pub needed_plan : (x : Rows) (s : Stand) (f : List EntryRow → Outcome (Option Tunnel)) → planned (needed x s f) ≡ needed x s (λ hs. planned (f hs))
unfolding needed bind or_absent plan_if
needed_plan x s f = go (walk_from x s)
  where
    go : (o : Outcome (Option (List EntryRow))) → planned (bind o (λ y. or_absent y f)) ≡ bind o (λ y. or_absent y (λ hs. planned (f hs)))
    go (refused n vs) = refl
    go (value None) = refl
    go (value (Some hs)) = refl

-- ---- words, and the closed mark

pub paths_words_lem : (p : Path) (ps : List Path) → length (paths_words (p ∷ ps)) ≡ 1 + 2 * length p.hops + length (paths_words ps)
unfolding paths_words words_needed
paths_words_lem p ps = omega (arith, length-append (path_words p.name p.hops) (paths_words ps), length_path_words p.name p.hops)

no_words : length (paths_words []) ≡ 0
unfolding paths_words
no_words = refl

-- closed: it leaves by where the first path starts
pub back_to_lem : (fs ls : List EntryRow) → 0 < length fs → back_to fs ls ≡ leaves_by ls (start_of fs).place (start_of fs).adapter
unfolding back_to leaves_by start_of stand_of
back_to_lem [] ls l = absurd (omega arith)
back_to_lem (e ∷ es) [] l = refl
back_to_lem (e ∷ es) (h ∷ hs) l = refl

abbrev pub plan : TunnelType → Bool → ℕ → List Start → Plan
plan t c w l = record { type = t; closed = c; words = w; starts = l }

abbrev pub from : Stand → ℕ → Start
from s n = record { stand = s; name = n }

pub same_plan : (t : TunnelType) {c d : Bool} {v w : ℕ} {l m : List Start} → c ≡ d → v ≡ w → l ≡ m → value (Some (plan t c v l)) ≡ value (Some (plan t d w m))
same_plan t {c} {d} {v} {w} {l} {m} e f g = ap (λ z. value (Some (plan t z v l))) e ∙ ap (λ z. value (Some (plan t d z l))) f ∙ ap (λ z. value (Some (plan t d w z))) g

-- a tunnel of one path, of two, and of three
pub one_plan_lem : (t : TunnelType) (n : ℕ) (s : Stand) (hs : List EntryRow) → start_of hs ≡ s → value (Some (plan_of (record { type = t; paths = path n hs ∷ [] }))) ≡ value (Some (plan t false (1 + (1 + 2 * length hs)) (from s n ∷ [])))
unfolding plan_of path closed closed_by tunnel_words from_of
one_plan_lem t n s hs e = same_plan t refl (omega (arith, paths_words_lem (path n hs) [], no_words)) (ap (λ z. from z n ∷ []) e)

pub two_paths : (t : TunnelType) (down up p a h w : ℕ) (s : Stand) (ds us : List EntryRow) → 0 < length ds → start_of ds ≡ at p a h → start_of us ≡ s → w ≡ 1 + 2 * length ds
    → planned (tunnel_of t (path down ds ∷ path up us ∷ [])) ≡ value (Some (plan t (leaves_by us p a) (1 + w + (1 + 2 * length us)) (from (at p a h) down ∷ from s up ∷ [])))
unfolding bind tunnel_of plan_if plan_of path closed closed_by last_path tunnel_words from_of at
two_paths t down up p a h w s ds us l e f g = same_plan t
    (back_to_lem ds us l ∙ ap (λ (z : Stand). leaves_by us z.place z.adapter) e)
    (omega (arith, g, paths_words_lem (path down ds) (path up us ∷ []), paths_words_lem (path up us) [], no_words))
    (ap (λ z. from z down ∷ from (start_of us) up ∷ []) e ∙ ap (λ z. from (at p a h) down ∷ from z up ∷ []) f)

three_paths : (p a w : ℕ) (s : Stand) (vs ts rs : List EntryRow) → 0 < length vs → start_of vs ≡ at p a 9 → start_of ts ≡ at p a 8 → start_of rs ≡ s → w ≡ 1 + 2 * length vs
    → planned (tunnel_of tunnel_type.DisplayPort (path 2 vs ∷ path 3 ts ∷ path 4 rs ∷ []))
    ≡ value (Some (plan tunnel_type.DisplayPort (leaves_by rs p a) (1 + w + (1 + 2 * length ts) + (1 + 2 * length rs)) (from (at p a 9) 2 ∷ from (at p a 8) 3 ∷ from s 4 ∷ [])))
unfolding bind tunnel_of plan_if plan_of path closed closed_by last_path tunnel_words from_of at
three_paths p a w s vs ts rs l e f g k = same_plan tunnel_type.DisplayPort
    (back_to_lem vs rs l ∙ ap (λ (z : Stand). leaves_by rs z.place z.adapter) e)
    (omega (arith, k, paths_words_lem (path 2 vs) (path 3 ts ∷ path 4 rs ∷ []), paths_words_lem (path 3 ts) (path 4 rs ∷ []), paths_words_lem (path 4 rs) [], no_words))
    (ap (λ z. from z 2 ∷ from (start_of ts) 3 ∷ from (start_of rs) 4 ∷ []) e ∙ ap (λ z. from (at p a 9) 2 ∷ from z 3 ∷ from (start_of rs) 4 ∷ []) f ∙ ap (λ z. from (at p a 9) 2 ∷ from (at p a 8) 3 ∷ from z 4 ∷ []) g)

-- ---- what is answered

-- what the number of words of a path is: exact on tables no larger than a survey's
abbrev pub Words : ℕ → ℕ → Type 0
Words n w = (w ≤ 131071) × (n < 65536 → w ≡ 1 + 2 * n)

module _ (tables : Tables) (p : ℕ) where
  pub plans_refused : (f : Rows → Outcome (Option Tunnel)) (z : WalkError) → (Tabled tables → p < 65536 → refused_by (of_walk z) ≡ f (rows_of tables)) → Plans tables p f (Err z)
  unfolding planned_outcome words_by
  plans_refused f z g = record { answers = λ y t l. sym (walk_bind z (λ o. value (plan_if o))) ∙ ap planned (g t l); few = omega arith }

  pub plans_absent : (f : Rows → Outcome (Option Tunnel)) → (Tabled tables → p < 65536 → value None ≡ f (rows_of tables)) → Plans tables p f (Ok None)
  unfolding planned_outcome words_by bind plan_if
  plans_absent f g = record { answers = λ y t l. ap planned (g t l); few = omega arith }

  pub draws_refused : (f : Rows → Outcome (Option Plan)) (z : WalkError) → (Tabled tables → p < 65536 → refused_by (of_walk z) ≡ f (rows_of tables)) → Draws tables p f (Err z)
  unfolding planned_outcome words_by
  draws_refused f z g = record { answers = λ y t l. g t l; few = omega arith }

  pub draws_absent : (f : Rows → Outcome (Option Plan)) → (Tabled tables → p < 65536 → value None ≡ f (rows_of tables)) → Draws tables p f (Ok None)
  unfolding planned_outcome words_by
  draws_absent f g = record { answers = λ y t l. g t l; few = omega arith }

-- the last path
module _ (tables : Tables) (kind : TunnelType) (words p a : ℕ) (s : Stand) (l : Starts) (r : Result (Option Walked) WalkError) (f : Tallied tables s r) where
  pub finish_refused : (z : WalkError) → r ≡ Err z → Draws tables s.place (λ x. finished x kind words p a s l) (Err z)
  unfolding finished needed at
  finish_refused z e = draws_refused tables _ _ z (λ t i. tally_refused tables _ r f t i z _ e)

  pub finish_absent : r ≡ (Ok None) → Draws tables s.place (λ x. finished x kind words p a s l) (Ok None)
  unfolding finished at
  finish_absent e = draws_absent tables _ _ (λ t i. sym (needed_none _ _ _ (tally_absent tables _ r f t i e)))

  pub finish_path : (n q b h w : ℕ) (c : Bool) → r ≡ walked_to n q b h → c ≡ (eqb q p && eqb b a) → Words n w → words ≤ 262143
      → Draws tables s.place (λ x. finished x kind words p a s l) (Ok (Some (planned_as kind c (words + w) l)))
  unfolding finished at last_plan planned_outcome words_by
  finish_path n q b h w c e g (m, k) v = record {
    answers = λ y t i.
        let u = tally_path tables _ r f t i n q b h e in
        let hs = u.0 in
        same_plan kind (g ∙ sym (u.1.end p a)) (omega (arith, u.1.count, k (omega (arith, hops_few tables _ r y f n q b h e)))) refl
        ∙ sym (needed_path _ _ u.0 _ u.1.walk);
    few = omega arith;
  }

-- two paths
module _ (tables : Tables) (p a : ℕ) (kind : TunnelType) (down up : PathName) (r : Result (Option Walked) WalkError) (f : Tallied tables (stood p a 8) r) where
  pub down_refused : (z : WalkError) → r ≡ Err z → Plans tables p (λ x. down_and_up x kind (name_number down) (name_number up) p a) (Err z)
  unfolding down_and_up needed at
  down_refused z e = plans_refused tables p _ z (λ t l. tally_refused tables _ r f t l z _ e)

  pub down_absent : r ≡ (Ok None) → Plans tables p (λ x. down_and_up x kind (name_number down) (name_number up) p a) (Ok None)
  unfolding down_and_up at
  down_absent e = plans_absent tables p _ (λ t l. sym (needed_none _ _ _ (tally_absent tables _ r f t l e)))

  pub down_path : (n q b h w : ℕ) (first last : Started) (y : Result (Option Planned) WalkError) → r ≡ walked_to n q b h → Words n w → first ≡ start_by (at p a 8) down → last ≡ start_by (at q b 8) up
      → Draws tables last.stand.place (λ x. finished x kind (1 + w) p a last.stand (starts.Two first last)) y → Plans tables p (λ x. down_and_up x kind (name_number down) (name_number up) p a) y
  unfolding down_and_up at finished last_plan
  down_path n q b h w first last y e (m, k) i j d = record {
    answers = λ v t l.
        let x = rows_of tables in
        let u = tally_path tables _ r f t l n q b h e in
        let ds = u.0 in
        let few = hops_few tables _ r v f n q b h e in
        d.answers v t (omega (arith, ap (λ (s : Started). s.stand.place) j, u.1.there, t.others.devices))
        ∙ ap (λ s. finished x kind (1 + w) p a last.stand (starts.Two s last)) i
        ∙ ap (λ (s : Started). finished x kind (1 + w) p a s.stand (starts.Two (start_by (at p a 8) down) s)) j
        ∙ needed_same x (at q b 8) _ _ (λ us z. sym (two_paths kind (name_number down) (name_number up) p a 8 w (at q b 8) ds us (omega (arith, u.1.count, few)) u.1.start (path_start x (at q b 8) us z) (k (omega (arith, few)) ∙ ap (λ c. 1 + 2 * c) (sym u.1.count))))
        ∙ sym (needed_plan x (at q b 8) _)
        ∙ ap (λ s. planned (needed x s (λ us. tunnel_of kind (path (name_number down) ds ∷ path (name_number up) us ∷ [])))) (sym (u.1.leave 8))
        ∙ ap planned (sym (needed_path x (at p a 8) ds _ u.1.walk));
    few = d.few;
  }

-- AUX TX, then AUX RX from where it leaves
module _ (tables : Tables) (p a words : ℕ) (r : Result (Option Walked) WalkError) (f : Tallied tables (stood p a 8) r) where
  pub aux_refused : (z : WalkError) → r ≡ Err z → Draws tables p (λ x. auxiliary x p a words) (Err z)
  unfolding auxiliary needed at
  aux_refused z e = draws_refused tables p _ z (λ t l. tally_refused tables _ r f t l z _ e)

  pub aux_absent : r ≡ (Ok None) → Draws tables p (λ x. auxiliary x p a words) (Ok None)
  unfolding auxiliary at
  aux_absent e = draws_absent tables p _ (λ t l. sym (needed_none _ _ _ (tally_absent tables _ r f t l e)))

  pub aux_path : (n q b h w : ℕ) (first second third : Started) (y : Result (Option Planned) WalkError) → r ≡ walked_to n q b h → Words n w → first ≡ start_by (at p a 9) name.VIDEO → second ≡ start_by (at p a 8) name.AUX_TX → third ≡ start_by (at q b 8) name.AUX_RX
      → Draws tables third.stand.place (λ x. finished x tunnel_type.DisplayPort (words + w) p a third.stand (starts.Three first second third)) y → Draws tables p (λ x. auxiliary x p a words) y
  unfolding auxiliary at
  aux_path n q b h w first second third y e (m, k) i j o d = record {
    answers = λ v t l.
        let x = rows_of tables in
        let u = tally_path tables _ r f t l n q b h e in
        let few = hops_few tables _ r v f n q b h e in
        d.answers v t (omega (arith, ap (λ (s : Started). s.stand.place) o, u.1.there, t.others.devices))
        ∙ ap (λ s. finished x tunnel_type.DisplayPort (words + w) p a third.stand (starts.Three s second third)) i
        ∙ ap (λ s. finished x tunnel_type.DisplayPort (words + w) p a third.stand (starts.Three (start_by (at p a 9) name.VIDEO) s third)) j
        ∙ ap (λ (s : Started). finished x tunnel_type.DisplayPort (words + w) p a s.stand (starts.Three (start_by (at p a 9) name.VIDEO) (start_by (at p a 8) name.AUX_TX) s)) (o ∙ ap (λ s. start_by s name.AUX_RX) (sym (u.1.leave 8)))
        ∙ ap (λ c. finished x tunnel_type.DisplayPort (words + c) p a (leaving 8 u.0) (starts.Three (start_by (at p a 9) name.VIDEO) (start_by (at p a 8) name.AUX_TX) (start_by (leaving 8 u.0) name.AUX_RX))) (k (omega (arith, few)) ∙ ap (λ c. 1 + 2 * c) (sym u.1.count))
        ∙ sym (needed_path x (at p a 8) u.0 _ u.1.walk);
    few = d.few;
  }

-- three paths
module _ (tables : Tables) (p a : ℕ) (r : Result (Option Walked) WalkError) (f : Tallied tables (stood p a 9) r) where
  pub video_refused : (z : WalkError) → r ≡ Err z → Plans tables p (λ x. display_port x p a) (Err z)
  unfolding display_port needed at
  video_refused z e = plans_refused tables p _ z (λ t l. tally_refused tables _ r f t l z _ e)

  pub video_absent : r ≡ (Ok None) → Plans tables p (λ x. display_port x p a) (Ok None)
  unfolding display_port at
  video_absent e = plans_absent tables p _ (λ t l. sym (needed_none _ _ _ (tally_absent tables _ r f t l e)))

  pub video_path : (n q b h w : ℕ) (y : Result (Option Planned) WalkError) → r ≡ walked_to n q b h → Words n w → Draws tables p (λ x. auxiliary x p a (1 + w)) y → Plans tables p (λ x. display_port x p a) y
  unfolding display_port auxiliary at finished last_plan
  video_path n q b h w y e (m, k) d = record {
    answers = λ v t l.
        let x = rows_of tables in
        let u = tally_path tables _ r f t l n q b h e in
        let few = hops_few tables _ r v f n q b h e in
        d.answers v t l
        ∙ needed_same x (at p a 8) _ _ (λ ts i. needed_same x (leaving 8 ts) _ _ (λ rs j.
        sym (three_paths p a w (leaving 8 ts) u.0 ts rs (omega (arith, u.1.count, few)) u.1.start (path_start x (at p a 8) ts i) (path_start x (leaving 8 ts) rs j) (k (omega (arith, few)) ∙ ap (λ c. 1 + 2 * c) (sym u.1.count))))
        ∙ sym (needed_plan x (leaving 8 ts) _))
        ∙ sym (needed_plan x (at p a 8) _)
        ∙ ap planned (sym (needed_path x (at p a 9) u.0 _ u.1.walk));
    few = d.few;
  }
