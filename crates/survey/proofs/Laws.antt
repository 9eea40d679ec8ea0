-- Laws on survey groups. Assumes nothing.
use Rattle.std.specs.Prelude.{None, Some}
use Prim.Native.Nat.{ℕ, suc, ◌+◌, ◌-◌, ◌<◌, ◌≤◌}
use native.Mathlib.Omega.{arith}
use mathlib.Core.Path.{◌≡◌, refl, ◌∙◌, ap, sym}
use mathlib.Core.Bool.{Bool, true, false, cond, not, ◌&&◌, ◌||◌, false≢true}
use mathlib.Core.List.{List, [], ◌∷◌}
use lib.ListN.{length, get_or, drop, drop_of_length-le, length-drop}
use lib.Seq.{drop-cons, drop-drop, get_or-drop}
use native.Mathlib.Numerals.{add-one}
use lib.Dec.{eqb, leb}
use borrow.Author.Tests.{eq-eqb, ne_eqb, lt-ltb, le-ltb}
use Rattle.refusal.specs.Outcome.{refused, value}
use Rattle.layout.specs.Layout.{bits, low, kind}
use Rattle.survey.specs.Rules.{max_words, start, check_of, good_device, good_adapter, good_register, after_device, after_adapter, after_register, may_stand, step_of, step_by, size_by, on_step, first_bad}
use Rattle.survey.specs.Places.{is_device, device_heads_from, device_heads, group_at}
use Rattle.survey.specs.Work.{heads_at, NextHead}
use native.Mathlib.Decide.{dec_lt}
use Rattle.survey.specs.declared.Under.{Under}
use Rattle.survey.specs.Words.{is_long, size_of, group, cut, groups_of}

-- the first group of a list of words, and those after it
pub short_group : (w : ℕ) (s : List ℕ) → is_long w ≡ false → groups_of (w ∷ s) ≡ group w 0 0 0 ∷ groups_of s
unfolding groups_of
short_group w [] e = simp e
short_group w (a ∷ []) e = simp e
short_group w (a ∷ b ∷ []) e = simp e
short_group w (a ∷ b ∷ c ∷ s) e = simp e

long_group : (w a b c : ℕ) (s : List ℕ) → is_long w ≡ true → groups_of (w ∷ a ∷ b ∷ c ∷ s) ≡ group w a b c ∷ groups_of s
unfolding groups_of
long_group w a b c s e = simp e

cut_group : (w : ℕ) (s : List ℕ) → is_long w ≡ true → length s < 3 → groups_of (w ∷ s) ≡ cut ∷ []
unfolding groups_of
cut_group w [] e h = simp e
cut_group w (a ∷ []) e h = simp e
cut_group w (a ∷ b ∷ []) e h = simp e
cut_group w (a ∷ b ∷ c ∷ s) e h = absurd (omega arith)

-- a short group's step rests on its head alone
or_false : (a b : Bool) → a || b ≡ false → (a ≡ false) × (b ≡ false)
or_false true b e = absurd (false≢true (sym e))
or_false false b e = (refl, e)

short_step : (u : Under) (w a b : ℕ) → is_long w ≡ false → step_of u w a ≡ step_of u w b
unfolding is_long step_of
short_step u w a b e = ap (λ x. cond (eqb (kind w) 3) (cond (good_device w) (Some (after_device w)) None) (cond (eqb (kind w) 4) (cond (u.begun && good_adapter w) (Some (after_adapter w)) None) x)) (no_register a ∙ sym (no_register b))
  where
    no_register : (v : ℕ) → cond (eqb (kind w) 5) (cond (good_register w v && may_stand u (bits w 16 16) (low w 15)) (Some (after_register u w)) None) None ≡ None
    no_register v = ap (λ t. cond t (cond (good_register w v && may_stand u (bits w 16 16) (low w 15)) (Some (after_register u w)) None) None) (or_false (eqb (kind w) 3) (eqb (kind w) 5) e).1

-- the group at a place of a list
module _ (t : List ℕ) (i : ℕ) (here : i < length t) where
  pub size_long : is_long (get_or t i 0) ≡ true → size_of (get_or t i 0) ≡ 4
  unfolding size_of
  size_long e = simp e

  size_short : is_long (get_or t i 0) ≡ false → size_of (get_or t i 0) ≡ 1
  unfolding size_of
  size_short e = simp e

  pub short_at_lem : is_long (get_or t i 0) ≡ false → groups_of (drop i t) ≡ group (get_or t i 0) 0 0 0 ∷ groups_of (drop (i + 1) t)
  short_at_lem e = ap (λ l. groups_of l) (drop-cons t i 0 here) ∙ short_group (get_or t i 0) (drop (suc i) t) e ∙ ap (λ n. group (get_or t i 0) 0 0 0 ∷ groups_of (drop n t)) (sym (add-one i))

  pub long_at : is_long (get_or t i 0) ≡ true → 4 ≤ length t - i → groups_of (drop i t) ≡ group (get_or t i 0) (get_or t (i + 1) 0) (get_or t (i + 2) 0) (get_or t (i + 3) 0) ∷ groups_of (drop (i + 4) t)
  long_at e h =
      let e1 : i + 1 ≡ suc i = omega arith in
      let e2 : i + 2 ≡ suc (suc i) = omega arith in
      let e3 : i + 3 ≡ suc (suc (suc i)) = omega arith in
      let e4 : i + 4 ≡ suc (suc (suc (suc i))) = omega arith in
      simp (e1, e2, e3, e4) (rw (drop-cons t i 0 here, drop-cons t (suc i) 0 (omega arith), drop-cons t (suc (suc i)) 0 (omega arith), drop-cons t (suc (suc (suc i))) 0 (omega arith)) (long_group _ _ _ _ _ e))

  -- cut off by the end
  pub group_cut : length t - i < size_of (get_or t i 0) → groups_of (drop i t) ≡ cut ∷ []
  group_cut h = step (is_long (get_or t i 0)) refl
    where
      step : (b : Bool) → is_long (get_or t i 0) ≡ b → groups_of (drop i t) ≡ cut ∷ []
      step true e = ap (λ l. groups_of l) (drop-cons t i 0 here) ∙ cut_group (get_or t i 0) (drop (suc i) t) e (omega (arith, size_long e, length-drop (suc i) t))
      step false e = absurd (omega (arith, size_short e))

  -- whole: the group, and those after it
  pub group_whole : size_of (get_or t i 0) ≤ length t - i → (u : Under) → first_bad i u (groups_of (drop i t)) ≡ on_step (step_of u (get_or t i 0) (get_or t (i + 2) 0)) (λ v. first_bad (i + size_of (get_or t i 0)) v (groups_of (drop (i + size_of (get_or t i 0)) t))) (refused 4 (i ∷ []))
  unfolding first_bad step_by size_by
  group_whole h u = step (is_long (get_or t i 0)) refl
    where
      step : (b : Bool) → is_long (get_or t i 0) ≡ b → first_bad i u (groups_of (drop i t)) ≡ on_step (step_of u (get_or t i 0) (get_or t (i + 2) 0)) (λ v. first_bad (i + size_of (get_or t i 0)) v (groups_of (drop (i + size_of (get_or t i 0)) t))) (refused 4 (i ∷ []))
      step true e = ap (λ gs. first_bad i u gs) (long_at e (omega (arith, size_long e)) ∙ ap (λ n. group (get_or t i 0) (get_or t (i + 1) 0) (get_or t (i + 2) 0) (get_or t (i + 3) 0) ∷ groups_of (drop (i + n) t)) (sym (size_long e)))
      step false e = ap (λ gs. first_bad i u gs) (short_at_lem e ∙ ap (λ n. group (get_or t i 0) 0 0 0 ∷ groups_of (drop (i + n) t)) (sym (size_short e))) ∙ ap (λ x. on_step x (λ v. first_bad (i + size_of (get_or t i 0)) v (groups_of (drop (i + size_of (get_or t i 0)) t))) (refused 4 (i ∷ []))) (short_step u (get_or t i 0) 0 (get_or t (i + 2) 0) e)

-- no more groups
pub groups_end : (t : List ℕ) (i : ℕ) (u : Under) → length t ≤ i → first_bad i u (groups_of (drop i t)) ≡ value tt
unfolding first_bad groups_of
groups_end t i u h = ap (λ l. first_bad i u (groups_of l)) (drop_of_length-le t h)

pub cut_bad : (t : List ℕ) (i : ℕ) (u : Under) → groups_of (drop i t) ≡ cut ∷ [] → first_bad i u (groups_of (drop i t)) ≡ refused 4 (i ∷ [])
unfolding first_bad step_by on_step
cut_bad t i u e = ap (λ gs. first_bad i u gs) e

-- where a register may stand
module _ (u : Under) (path offset : ℕ) where
  pub adapter_space_lem : path ≡ 0 → may_stand u path offset ≡ u.registers && not u.listing && leb u.least offset
  unfolding may_stand
  adapter_space_lem e = ap (λ b. cond b (u.registers && not u.listing && leb u.least offset) (u.paths && (not u.listing || leb u.least offset))) (eq-eqb path 0 e)

  pub path_space_lem : (path ≡ 0 → ⊥) → may_stand u path offset ≡ u.paths && (not u.listing || leb u.least offset)
  unfolding may_stand
  path_space_lem n = ap (λ b. cond b (u.registers && not u.listing && leb u.least offset) (u.paths && (not u.listing || leb u.least offset))) (ne_eqb path 0 n)

-- what `check` answers, by where its loop stands
module _ (t : List ℕ) where
  pub too_long : max_words < length t → refused 4 (max_words ∷ []) ≡ check_of t
  unfolding check_of
  too_long h = simp (lt-ltb max_words (length t) h)

  module _ (short : length t ≤ max_words) (i : ℕ) (u : Under) (inv : first_bad 0 start (groups_of t) ≡ first_bad i u (groups_of (drop i t))) where
    so_far : check_of t ≡ first_bad i u (groups_of (drop i t))
    unfolding check_of
    so_far = simp (le-ltb max_words (length t) short) inv

    pub at_end : length t ≤ i → value tt ≡ check_of t
    at_end h = sym (so_far ∙ groups_end t i u h)

    module _ (here : i < length t) where
      pub at_cut : length t - i < size_of (get_or t i 0) → refused 4 (i ∷ []) ≡ check_of t
      at_cut h = sym (so_far ∙ cut_bad t i u (group_cut t i here h))

      pub at_broken : size_of (get_or t i 0) ≤ length t - i → step_of u (get_or t i 0) (get_or t (i + 2) 0) ≡ None → refused 4 (i ∷ []) ≡ check_of t
      unfolding on_step
      at_broken h e = sym (so_far ∙ group_whole t i here h u ∙ ap (λ x. on_step x (λ v. first_bad (i + size_of (get_or t i 0)) v (groups_of (drop (i + size_of (get_or t i 0)) t))) (refused 4 (i ∷ []))) e)

      pub at_next : size_of (get_or t i 0) ≤ length t - i → (v : Under) → step_of u (get_or t i 0) (get_or t (i + 2) 0) ≡ Some v → first_bad 0 start (groups_of t) ≡ first_bad (i + size_of (get_or t i 0)) v (groups_of (drop (i + size_of (get_or t i 0)) t))
      unfolding on_step
      at_next h v e = inv ∙ group_whole t i here h u ∙ ap (λ x. on_step x (λ v. first_bad (i + size_of (get_or t i 0)) v (groups_of (drop (i + size_of (get_or t i 0)) t))) (refused 4 (i ∷ []))) e

pub size_pos : (w : ℕ) → (1 ≤ size_of w) × (size_of w ≤ 4)
unfolding size_of
size_pos w = step (is_long w)
  where
    step : (b : Bool) → (1 ≤ cond b 4 1) × (cond b 4 1 ≤ 4)
    step true = (omega arith, omega arith)
    step false = (omega arith, omega arith)

-- a device takes four words
device_size : (w : ℕ) → kind w ≡ 3 → size_of w ≡ 4
unfolding size_of is_long
device_size w k = simp (eq-eqb (kind w) 3 k)

-- device heads by places
module _ (t : List ℕ) (i : ℕ) where
  pub heads_end : length t ≤ i → heads_at t i ≡ []
  unfolding device_heads_from groups_of
  heads_end h = ap (λ l. device_heads_from i (groups_of l)) (drop_of_length-le t h)

  module _ (here : i < length t) where
    pub heads_cut : length t - i < size_of (get_or t i 0) → heads_at t i ≡ []
    unfolding device_heads_from is_device
    heads_cut h = ap (λ gs. device_heads_from i gs) (group_cut t i here h)

    -- a whole group: its head word and the groups after it
    whole_heads : size_of (get_or t i 0) ≤ length t - i → heads_at t i ≡ cond (eqb (kind (get_or t i 0)) 3) (i ∷ heads_at t (i + size_of (get_or t i 0))) (heads_at t (i + size_of (get_or t i 0)))
    unfolding device_heads_from is_device size_by
    whole_heads h = step (is_long (get_or t i 0)) refl
      where
        step : (b : Bool) → is_long (get_or t i 0) ≡ b → heads_at t i ≡ cond (eqb (kind (get_or t i 0)) 3) (i ∷ heads_at t (i + size_of (get_or t i 0))) (heads_at t (i + size_of (get_or t i 0)))
        step true e = ap (λ gs. device_heads_from i gs) (long_at t i here e (omega (arith, size_long t i here e)) ∙ ap (λ n. group (get_or t i 0) (get_or t (i + 1) 0) (get_or t (i + 2) 0) (get_or t (i + 3) 0) ∷ groups_of (drop (i + n) t)) (sym (size_long t i here e)))
        step false e = ap (λ gs. device_heads_from i gs) (short_at_lem t i here e ∙ ap (λ n. group (get_or t i 0) 0 0 0 ∷ groups_of (drop (i + n) t)) (sym (size_short t i here e)))

    pub heads_device : kind (get_or t i 0) ≡ 3 → size_of (get_or t i 0) ≤ length t - i → (size_of (get_or t i 0) ≡ 4) × (heads_at t i ≡ i ∷ heads_at t (i + 4))
    heads_device k h =
        let s = device_size (get_or t i 0) k in
        (s, whole_heads h ∙ ap (λ b. cond b (i ∷ heads_at t (i + size_of (get_or t i 0))) (heads_at t (i + size_of (get_or t i 0)))) (eq-eqb (kind (get_or t i 0)) 3 k) ∙ ap (λ n. i ∷ heads_at t (i + n)) s)

    pub heads_other : (kind (get_or t i 0) ≡ 3 → ⊥) → size_of (get_or t i 0) ≤ length t - i → heads_at t i ≡ heads_at t (i + size_of (get_or t i 0))
    heads_other n h = whole_heads h ∙ ap (λ b. cond b (i ∷ heads_at t (i + size_of (get_or t i 0))) (heads_at t (i + size_of (get_or t i 0)))) (ne_eqb (kind (get_or t i 0)) 3 n)

-- a device's group, from where its heads are known
module _ (t : List ℕ) (k at : ℕ) (so_far : drop k (device_heads t) ≡ heads_at t at) where
  pub no_group : (p : ℕ) → k ≤ p → length t ≤ at → None ≡ group_at t p
  unfolding group_at
  no_group p h l =
      let n : length (device_heads t) ≤ p = omega (arith, ap length (so_far ∙ heads_end t at l), length-drop k (device_heads t)) in
      simp (le-ltb p (length (device_heads t)) n)

  module _ (is-head : heads_at t at ≡ at ∷ heads_at t (at + 4)) where
    pub next_group : drop (k + 1) (device_heads t) ≡ heads_at t (at + 4)
    next_group = sym (drop-drop 1 k (device_heads t)) ∙ ap (λ l. drop 1 l) (so_far ∙ is-head)

    -- the first of the heads from e on, or the length
    first_head : (e : ℕ) → NextHead t (at + 4) e → get_or (heads_at t (at + 4)) 0 (length t) ≡ e
    first_head e n = go (dec_lt e (length t))
      where
        go : Dec (e < length t) → get_or (heads_at t (at + 4)) 0 (length t) ≡ e
        go (yes h) = ap (λ l. get_or l 0 (length t)) (n.same ∙ n.head h)
        go (no h) = ap (λ l. get_or l 0 (length t)) (n.same ∙ heads_end t e (omega arith)) ∙ omega (arith, n.within)

    pub this_group : (e : ℕ) → NextHead t (at + 4) e → Some (record { start = at; end = e }) ≡ group_at t k
    unfolding group_at
    this_group e n =
        let z : k + 0 ≡ k = omega arith in
        let o : k + 1 ≡ suc k = omega arith in
        let l : k < length (device_heads t) = omega (arith, ap length (so_far ∙ is-head), length-drop k (device_heads t)) in
        let a : get_or (device_heads t) k 0 ≡ at = ap (λ m. get_or (device_heads t) m 0) (sym z) ∙ sym (get_or-drop k (device_heads t) 0 0) ∙ ap (λ x. get_or x 0 0) (so_far ∙ is-head) in
        let b : get_or (device_heads t) (suc k) (length t) ≡ e = ap (λ m. get_or (device_heads t) m (length t)) (sym o) ∙ sym (get_or-drop k (device_heads t) 1 (length t)) ∙ ap (λ x. get_or x 1 (length t)) (so_far ∙ is-head) ∙ first_head e n in
        simp (lt-ltb k (length (device_heads t)) l, a, b)
