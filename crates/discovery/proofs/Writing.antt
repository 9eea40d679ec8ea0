-- Laws of words put one after another: a path, a tunnel. Assumes nothing.
use Rattle.std.specs.Option.{option_to_list}
use Prim.Native.Nat.{ℕ, suc, ◌+◌, ◌-◌, ◌*◌, ◌≤◌, ◌<◌}
use mathlib.Core.Path.{◌≡◌, refl, sym, ap, ◌∙◌, subst}
use mathlib.Core.Bool.{Bool, true, false, cond}
use mathlib.Core.List.{List, [], ◌∷◌, ◌++◌, map, append_assoc, append-nil}
use Rattle.std.specs.Prelude.{Option, None, Some, Ok}
use native.Mathlib.Omega.{arith}
use lib.ListN.{length, take, drop, set, length-map, length-append, length-drop, length-set, take-append-drop, drop_of_length-le}
use lib.Seq.{length-take-le, take_all, take_at, drop_at, drop-drop, set_split}
use borrow.Rule.Slice.PartMut.{put_mid}
use Rattle.refusal.specs.Outcome.{value}
use Rattle.usb4.specs.Numbers.{tunnel_number}
use Rattle.usb4.specs.declared.TunnelType.{TunnelType}
use Rattle.usb4.specs.declared.TunnelType.TheVariants as tunnel_type
use Rattle.path.specs.Words.{path_words, words_needed, with_path}
use Rattle.path.specs.Put.{WalkPut}
use Rattle.tunnel.specs.Tunnels.{Path, Tunnel}
use Rattle.tunnel.specs.Words.{closed, paths_words, tunnel_word, tunnel_words, tunnels_words}
use Rattle.tunnel.specs.Plans.{Start, Plan, start_as, starts_as, from_of, plan_of, plan_if, planned_as, planned_outcome}
use Rattle.tunnel.specs.declared.Start.{Start as Started}
use Rattle.tunnel.specs.declared.Starts.{Starts}
use Rattle.tunnel.specs.declared.Starts.TheVariants as starts
use Rattle.tunnel.specs.declared.Plan.{Plan as Planned}
use Rattle.discovery.specs.Work.{Wrote, PathPut, AllWalk, Walks, PlanPut}
use Rattle.tables.specs.declared.Stand.{Stand}
use Rattle.tables.specs.declared.Tables.{Tables}
use Rattle.tables.specs.Tables.{Sized, Tabled, rows_of}

-- ---- words put one after another

pub wrote_nothing : (at : ℕ) (out : List ℕ) → Wrote at [] out at out
wrote_nothing at out = record { next = omega arith; whole = sym (ap (λ l. l ++ drop at out) (append-nil (take at out)) ∙ take-append-drop at out) }

module _ (at : ℕ) (ws out : List ℕ) (r : ℕ) (mid : List ℕ) (room : at + length ws ≤ length out) (w : Wrote at ws out r mid) where
  front_long : length (take at out ++ ws) ≡ r
  front_long = length-append (take at out) ws ∙ omega (arith, length-take-le at out (omega arith), w.next)

  pub wrote_front : take r mid ≡ take at out ++ ws
  wrote_front = ap (take r) w.whole ∙ take_at (take at out ++ ws) (drop r out) r front_long

  wrote_back : drop r mid ≡ drop r out
  wrote_back = ap (drop r) w.whole ∙ drop_at (take at out ++ ws) (drop r out) r front_long

  wrote_then : (vs : List ℕ) (r' : ℕ) (out' : List ℕ) → Wrote r vs mid r' out' → Wrote at (ws ++ vs) out r' out'
  wrote_then vs r' out' v = record {
    next = omega (arith, w.next, v.next, length-append ws vs);
    whole =
        v.whole
        ∙ ap (λ l. (l ++ vs) ++ drop r' mid) wrote_front
        ∙ ap (λ l. ((take at out ++ ws) ++ vs) ++ l) (ap (λ k. drop k mid) v.next ∙ sym (drop-drop (length vs) r mid) ∙ ap (drop (length vs)) wrote_back ∙ drop-drop (length vs) r out ∙ ap (λ k. drop k out) (sym v.next))
        ∙ ap (λ l. l ++ drop r' out) (append_assoc (take at out) ws vs);
  }

-- one word
wrote_word : (at w : ℕ) (out : List ℕ) → at < length out → Wrote at (w ∷ []) out (at + 1) (set out at w)
wrote_word at w out l = record {
  next = refl;
  whole = set_split out at w l ∙ ap (λ k. take at out ++ w ∷ drop k out) (let z : suc at ≡ at + 1 = omega arith in z) ∙ sym (append_assoc (take at out) (w ∷ []) (drop (at + 1) out));
}

-- ---- a path, in the part lent from a place to the end

part_is : (out : List ℕ) (at : ℕ) → take (length out - at) (drop at out) ≡ drop at out
part_is out at = take_all (length out - at) (drop at out) (omega (arith, length-drop at out))

put_back : (out S : List ℕ) (at : ℕ) → put_mid at (length out - at) out S ≡ take at out ++ S
put_back out S at = ap (λ l. take at out ++ (S ++ l)) (drop_of_length-le (drop at out) {i = length out - at} (omega (arith, length-drop at out))) ∙ ap (λ l. take at out ++ l) (append-nil S)

module _ (tables : Tables) (out S : List ℕ) (s : Stand) (name at r : ℕ) (room : at ≤ length out) (p : WalkPut tables s name (take (length out - at) (drop at out)) r S) where
  part_long : length (take (length out - at) (drop at out)) ≡ length out - at
  part_long = ap length (part_is out at) ∙ length-drop at out

  all_long : length (put_mid at (length out - at) out S) ≡ length out
  all_long = ap length (put_back out S at) ∙ length-append (take at out) S ∙ omega (arith, length-take-le at out room, p.long, part_long)

  pub path_fits : at + r ≤ length out
  path_fits = omega (arith, p.fits, part_long)

  pub path_put : PathPut tables (record { stand = s; name = name }) at out (at + r) (put_mid at (length out - at) out S)
  unfolding words_needed with_path
  path_put = record {
    within = path_fits;
    long = all_long;
    words = λ z t hs e fits.
        let f : words_needed name hs ≤ length (take (length out - at) (drop at out)) = omega (arith, part_long) in
        let k : r ≡ length (path_words name hs) = p.answers z t hs e f in
        record {
          next = ap (λ j. at + j) k;
          whole =
              put_back out S at
              ∙ ap (λ l. take at out ++ l) (p.writes z t hs e f ∙ ap (λ l. path_words name hs ++ drop (length (path_words name hs)) l) (part_is out at))
              ∙ sym (append_assoc (take at out) (path_words name hs) _)
              ∙ ap (λ l. (take at out ++ path_words name hs) ++ l) (drop-drop (length (path_words name hs)) at out ∙ ap (λ j. drop (at + j) out) (sym k));
        };
  }

-- ---- a tunnel

module _ (tables : Tables) where
  -- paths put one after another
  unfoldable pub Laid : List Start → ℕ → List ℕ → ℕ → List ℕ → Type 0
  Laid [] at out r out' = (r ≡ at) × (out' ≡ out)
  Laid (f ∷ fs) at out r out' = (m : ℕ) × (mid : List ℕ) × PathPut tables f at out m mid × Laid fs m mid r out'

  laid_words : Sized tables → Tabled tables → (ps : List Path) → AllWalk (rows_of tables) ps → (at : ℕ) (out : List ℕ) (r : ℕ) (out' : List ℕ) → Laid (map from_of ps) at out r out' → at + length (paths_words ps) ≤ length out
      → Wrote at (paths_words ps) out r out'
  unfolding Laid AllWalk paths_words from_of
  laid_words z t [] a at out r out' l room = rw (l.0, l.1) (wrote_nothing at out)
  laid_words z t (p ∷ ps) a at out r out' (m, mid, f, l) room =
      let n = length-append (path_words p.name p.hops) (paths_words ps) in
      let w = f.words z t p.hops a.0 (omega (arith, n)) in
      wrote_then at (path_words p.name p.hops) out m mid (omega (arith, n)) w (paths_words ps) r out' (laid_words z t ps a.1 m mid r out' l (omega (arith, n, w.next, f.long)))

  -- no tunnel is planned, or there is no room for it
  pub plan_not_put : (plan : Option Planned) (at : ℕ) (out : List ℕ) → at ≤ length out → ((t : Tunnel) → planned_outcome (Ok plan) ≡ value (Some (plan_of t)) → at < length out → ⊥) → PlanPut tables plan at out at out
  unfolding plan_if tunnels_words tunnel_words
  plan_not_put plan at out room never = record { within = room; long = refl; words = λ z t o e w fits. go o e fits }
    where
      go : (o : Option Tunnel) → planned_outcome (Ok plan) ≡ value (plan_if o) → at + length (tunnels_words (option_to_list o)) ≤ length out → Wrote at (tunnels_words (option_to_list o)) out at out
      go None e fits = wrote_nothing at out
      go (Some t) e fits = absurd (never t e (omega (arith, length-append (tunnel_words t) [])))

  pub plan_none : (plan : Option Planned) (at : ℕ) (out : List ℕ) → at ≤ length out → plan ≡ None → PlanPut tables plan at out at out
  unfolding planned_outcome
  plan_none plan at out room k = plan_not_put plan at out room (λ t e l. let w = sym (ap (λ z. planned_outcome (Ok z)) k) ∙ e in let z : ◌≡◌ {A = ℕ} 0 1 = cc in omega arith)

  pub plan_full : (plan : Option Planned) (at : ℕ) (out : List ℕ) → at ≤ length out → length out ≤ at → PlanPut tables plan at out at out
  plan_full plan at out room l = plan_not_put plan at out room (λ t e k. omega arith)

  module _ (plan : Option Planned) (k : TunnelType) (c : Bool) (w : ℕ) (s : Starts) (is-plan : plan ≡ Some (planned_as k c w s)) (at : ℕ) (out : List ℕ) (room : at < length out) (word : ℕ)
      (is : word ≡ 8 * 268435456 + cond c 65536 0 + length (starts_as s) * 256 + tunnel_number k) where
    -- the paths that are planned
    plan_put : (r : ℕ) (out' : List ℕ) → r ≤ length out → length out' ≡ length out → Laid (starts_as s) (at + 1) (set out at word) r out' → PlanPut tables plan at out r out'
    unfolding planned_outcome plan_if plan_of tunnels_words tunnel_words tunnel_word Walks
    plan_put r out' within long laid = record { within = within; long = long; words = λ z t o q v fits. go z t o (sym (ap (λ y. planned_outcome (Ok y)) is-plan) ∙ q) v fits }
      where
        go : Sized tables → Tabled tables → (o : Option Tunnel) → planned_outcome (Ok (Some (planned_as k c w s))) ≡ value (plan_if o) → Walks (rows_of tables) o → at + length (tunnels_words (option_to_list o)) ≤ length out → Wrote at (tunnels_words (option_to_list o)) out r out'
        go z t None q v fits = absurd (let y : ◌≡◌ {A = ℕ} 0 1 = cc in omega arith)
        go z t (Some u) q v fits =
            let plan-is : record { type = k; closed = c; words = w; starts = starts_as s } ≡ plan_of u = cc in
            let paths : starts_as s ≡ map from_of u.paths = ap (λ (y : Plan). y.starts) plan-is in
            let head : word ≡ tunnel_word u = is
            ∙ ap (λ y. 8 * 268435456 + cond y 65536 0 + length (starts_as s) * 256 + tunnel_number k) (ap (λ (y : Plan). y.closed) plan-is)
            ∙ ap (λ y. 8 * 268435456 + cond (closed u) 65536 0 + y * 256 + tunnel_number k) (ap length paths ∙ length-map u.paths from_of)
            ∙ ap (λ y. 8 * 268435456 + cond (closed u) 65536 0 + length u.paths * 256 + tunnel_number y) (ap (λ (y : Plan). y.type) plan-is) in
            let f = length-append (tunnel_words u) [] in
            let one = wrote_word at word out room in
            let rest = laid_words z t u.paths v (at + 1) (set out at word) r out' (subst (λ y. Laid y (at + 1) (set out at word) r out') paths laid) (omega (arith, f, length-set out at word)) in
            subst (λ y. Wrote at y out r out') (ap (λ y. y ∷ paths_words u.paths) head ∙ sym (append-nil (tunnel_words u))) (wrote_then at (word ∷ []) out (at + 1) (set out at word) (omega arith) one (paths_words u.paths) r out' rest)

  -- a tunnel of one path, of two, and of three
  module _ (plan : Option Planned) (k : TunnelType) (c : Bool) (w : ℕ) (at : ℕ) (out : List ℕ) (room : at < length out) (word : ℕ) where
    abbrev Head : ℕ → Type 0
    Head n = word ≡ 8 * 268435456 + cond c 65536 0 + n * 256 + tunnel_number k

    pub plan_put_1 : (a : Started) → plan ≡ Some (planned_as k c w (starts.One a)) → Head 1 → (r : ℕ) (out' : List ℕ) → PathPut tables (start_as a) (at + 1) (set out at word) r out' → PlanPut tables plan at out r out'
    unfolding Laid
    plan_put_1 a e is r out' f =
        plan_put plan k c w (starts.One a) e at out room word is r out' (omega (arith, f.within, length-set out at word)) (f.long ∙ length-set out at word) (r, out', f, (refl, refl))

    pub plan_put_2 : (a b : Started) → plan ≡ Some (planned_as k c w (starts.Two a b)) → Head 2 → (i : ℕ) (one : List ℕ) → PathPut tables (start_as a) (at + 1) (set out at word) i one
        → (r : ℕ) (out' : List ℕ) → PathPut tables (start_as b) i one r out' → PlanPut tables plan at out r out'
    unfolding Laid
    plan_put_2 a b e is i one f r out' h =
        let l = f.long ∙ length-set out at word in
        plan_put plan k c w (starts.Two a b) e at out room word is r out' (omega (arith, h.within, l)) (h.long ∙ l) (i, one, f, (r, out', h, (refl, refl)))

    pub plan_put_3 : (a b d : Started) → plan ≡ Some (planned_as k c w (starts.Three a b d)) → Head 3 → (i : ℕ) (one : List ℕ) → PathPut tables (start_as a) (at + 1) (set out at word) i one
        → (j : ℕ) (two : List ℕ) → PathPut tables (start_as b) i one j two → (r : ℕ) (out' : List ℕ) → PathPut tables (start_as d) j two r out' → PlanPut tables plan at out r out'
    unfolding Laid
    plan_put_3 a b d e is i one f j two h r out' x =
        let l = h.long ∙ f.long ∙ length-set out at word in
        plan_put plan k c w (starts.Three a b d) e at out room word is r out' (omega (arith, x.within, l)) (x.long ∙ l) (i, one, f, (j, two, h, (r, out', x, (refl, refl))))

-- ---- the head word

pub number_few : (k : TunnelType) → tunnel_number k ≤ 3
number_few tunnel_type.Usb3 = omega arith
number_few tunnel_type.DisplayPort = omega arith
number_few tunnel_type.Pcie = omega arith
number_few tunnel_type.Dma = omega arith

pub closed_word : (c : Bool) (m n k : ℕ) → c ≡ true → n ≡ k → 2147483648 + m * 256 + n + 65536 ≡ 8 * 268435456 + cond c 65536 0 + m * 256 + k
closed_word c m n k e f = omega (arith, f) ∙ ap (λ b. 8 * 268435456 + cond b 65536 0 + m * 256 + k) (sym e)

pub open_word : (c : Bool) (m n k : ℕ) → c ≡ false → n ≡ k → 2147483648 + m * 256 + n ≡ 8 * 268435456 + cond c 65536 0 + m * 256 + k
open_word c m n k e f = omega (arith, f) ∙ ap (λ b. 8 * 268435456 + cond b 65536 0 + m * 256 + k) (sym e)
