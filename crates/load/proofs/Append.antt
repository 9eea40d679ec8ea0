-- Surveys one after another: they load part by part, where the second begins with a device, at the places behind the first. Assumes nothing.
use Rattle.std.specs.Prelude.{None, Option, Some}
use Prim.Native.Nat.{ℕ, suc, ◌+◌, ◌≤◌}
use native.Mathlib.Omega.{arith}
use native.Mathlib.Nat.{add-zero, zero-add, add_assoc}
use mathlib.Core.Path.{◌≡◌, refl, ◌∙◌, ap, sym, subst}
use mathlib.Core.Bool.{Bool, true, false, cond, false≢true}
use mathlib.Core.List.{List, [], ◌∷◌, ◌++◌}
use lib.Dec.{eqb}
use lib.ListN.{length, length-append}
use borrow.Author.Tests.{le-ltb}
use Rattle.refusal.specs.Outcome.{Outcome, refused, value, bind}
use Rattle.layout.specs.Layout.{bits, kind}
use Rattle.layout.specs.Description.{Description}
use Rattle.description.specs.Rules.{read_descriptions}
use Rattle.survey.specs.Words.{is_long, size_of, Group, group, cut, groups_of}
use Rattle.survey.specs.Rules.{max_words, start, step_by, size_by, on_step, first_bad, check_of}
use Rattle.survey.specs.Devices.{Device, Gathered, register_in, with_register, with_adapter, with_device, with_group, gather, devices_of, read_survey}
use Rattle.survey.specs.Places.{is_device}
use Rattle.survey.specs.declared.Under.{Under}
use Rattle.survey.proofs.Append.{uncut, groups_append, extended, Complete, gather_append, sizes, Fresh, fresh_none, fresh_device, check_append, accepted_uncut}
use Rattle.tables.specs.Rows.{Rows, joined}
use Rattle.load.specs.Loading.{and_then, load_device, load_from, loaded, valid_entries}
use Rattle.load.proofs.Joining.{then_assoc, none_then}
use Rattle.load.proofs.Counting.{devices_count}

-- N adds up
pub entries_add : (x y : Rows) → valid_entries (joined x y) ≡ valid_entries x + valid_entries y
unfolding joined
entries_add x y = length-append x.entries y.entries

-- ---- devices one after another

pub load_append : (ds : List Description) (p : ℕ) (xs ys : List Device) → load_from ds p (xs ++ ys) ≡ and_then (load_from ds p xs) (load_from ds (p + length xs) ys)
unfolding load_from
load_append ds p [] ys = ap (λ n. load_from ds n ys) (sym (add-zero p)) ∙ sym (none_then (load_from ds (p + 0) ys))
load_append ds p (x ∷ xs) ys =
    ap (λ o. and_then (load_device ds p x) o) (load_append ds (suc p) xs ys)
    ∙ sym (then_assoc (load_device ds p x) (load_from ds (suc p) xs) (load_from ds (suc p + length xs) ys))
    ∙ ap (λ n. and_then (and_then (load_device ds p x) (load_from ds (suc p) xs)) (load_from ds n ys)) (let e : suc p + length xs ≡ p + suc (length xs) = omega arith in e)

-- ---- words one after another

-- nothing, or a device first
abbrev pub Begins : List Group → Type 0
Begins [] = 0 ≤ 0
Begins (g ∷ gs) = is_device g ≡ true

begins_fresh : (gs : List Group) → Begins gs → Fresh gs
begins_fresh [] b = fresh_none
begins_fresh (g ∷ gs) b = fresh_device g gs b

begins_complete : (gs : List Group) → Begins gs → Complete (gather gs)
unfolding gather with_group with_device is_device
begins_complete [] b = record { registers = refl; entries = refl; adapters = refl }
begins_complete (cut ∷ gs) b = absurd (false≢true b)
begins_complete (group w a b c ∷ gs) e = first (gather gs)
  where
    first : (g : Gathered) → Complete (with_group (group w a b c) g)
    first g =
        subst (λ d. Complete (cond d (with_device w a b c g) (cond (eqb (kind w) 4) (with_adapter w g) (cond (eqb (kind w) 5) (with_register (bits w 16 16) (register_in w a b c) g) g)))) (sym e)
        (record { registers = refl; entries = refl; adapters = refl })

-- the words of whole groups
sizes_length : (s : List ℕ) → uncut (groups_of s) ≡ true → sizes (groups_of s) ≡ length s
unfolding groups_of uncut sizes size_by size_of
sizes_length [] u = refl
sizes_length (w ∷ []) u = step (is_long w) refl u
  where
    step : (l : Bool) → is_long w ≡ l → uncut (cond l (cut ∷ []) (group w 0 0 0 ∷ [])) ≡ true → sizes (cond l (cut ∷ []) (group w 0 0 0 ∷ [])) ≡ 1
    step true e u = absurd (false≢true u)
    step false e u = ap (λ b. cond b 4 1 + 0) e
sizes_length (w ∷ a ∷ []) u = step (is_long w) refl u (λ h. sizes_length (a ∷ []) h)
  where
    step : (l : Bool) → is_long w ≡ l → uncut (cond l (cut ∷ []) (group w 0 0 0 ∷ groups_of (a ∷ []))) ≡ true → (uncut (groups_of (a ∷ [])) ≡ true → sizes (groups_of (a ∷ [])) ≡ 1) → sizes (cond l (cut ∷ []) (group w 0 0 0 ∷ groups_of (a ∷ []))) ≡ 2
    step true e u ih = absurd (false≢true u)
    step false e u ih = ap (λ b. cond b 4 1 + sizes (groups_of (a ∷ []))) e ∙ ap (λ n. 1 + n) (ih u)
sizes_length (w ∷ a ∷ b ∷ []) u = step (is_long w) refl u (λ h. sizes_length (a ∷ b ∷ []) h)
  where
    step : (l : Bool) → is_long w ≡ l → uncut (cond l (cut ∷ []) (group w 0 0 0 ∷ groups_of (a ∷ b ∷ []))) ≡ true → (uncut (groups_of (a ∷ b ∷ [])) ≡ true → sizes (groups_of (a ∷ b ∷ [])) ≡ 2) → sizes (cond l (cut ∷ []) (group w 0 0 0 ∷ groups_of (a ∷ b ∷ []))) ≡ 3
    step true e u ih = absurd (false≢true u)
    step false e u ih = ap (λ b'. cond b' 4 1 + sizes (groups_of (a ∷ b ∷ []))) e ∙ ap (λ n. 1 + n) (ih u)
sizes_length (w ∷ a ∷ b ∷ c ∷ s) u = step (is_long w) refl u (λ h. sizes_length s h) (λ h. sizes_length (a ∷ b ∷ c ∷ s) h)
  where
    step : (l : Bool) → is_long w ≡ l → uncut (cond l (group w a b c ∷ groups_of s) (group w 0 0 0 ∷ groups_of (a ∷ b ∷ c ∷ s))) ≡ true → (uncut (groups_of s) ≡ true → sizes (groups_of s) ≡ length s) → (uncut (groups_of (a ∷ b ∷ c ∷ s)) ≡ true → sizes (groups_of (a ∷ b ∷ c ∷ s)) ≡ length (a ∷ b ∷ c ∷ s)) → sizes (cond l (group w a b c ∷ groups_of s) (group w 0 0 0 ∷ groups_of (a ∷ b ∷ c ∷ s))) ≡ length (w ∷ a ∷ b ∷ c ∷ s)
    step true e u long short = ap (λ b'. cond b' 4 1 + sizes (groups_of s)) e ∙ omega (arith, long u)
    step false e u long short = ap (λ b'. cond b' 4 1 + sizes (groups_of (a ∷ b ∷ c ∷ s))) e ∙ omega (arith, short u)

-- a refusal whose place stands k words further on
unfoldable pub moved : ℕ → Outcome Unit → Outcome Unit
moved k (refused n []) = refused n []
moved k (refused n (p ∷ ps)) = refused n ((k + p) ∷ ps)
moved k (value a) = value a

move_check : (k : ℕ) (gs : List Group) (i : ℕ) (u : Under) → first_bad (k + i) u gs ≡ moved k (first_bad i u gs)
unfolding first_bad moved on_step
move_check k [] i u = refl
move_check k (g ∷ gs) i u = step (step_by u g) (λ v. move_check k gs (i + size_by g) v)
  where
    step : (x : Option Under) → ((v : Under) → first_bad (k + (i + size_by g)) v gs ≡ moved k (first_bad (i + size_by g) v gs)) → on_step x (λ v. first_bad (k + i + size_by g) v gs) (refused 4 ((k + i) ∷ [])) ≡ moved k (on_step x (λ v. first_bad (i + size_by g) v gs) (refused 4 (i ∷ [])))
    step (Some v) ih = ap (λ n. first_bad n v gs) (add_assoc k i (size_by g)) ∙ ih v
    step None ih = refl

-- the check of words that are not too long
short_check : (t : List ℕ) → length t ≤ max_words → check_of t ≡ first_bad 0 start (groups_of t)
unfolding check_of
short_check t l = ap (λ b. cond b (refused 4 (max_words ∷ [])) (first_bad 0 start (groups_of t))) (le-ltb max_words (length t) l)

bind_same : {A B : Type 0} (o : Outcome A) (f g : A → Outcome B) → ((a : A) → f a ≡ g a) → bind o f ≡ bind o g
unfolding bind
bind_same (refused n vs) f g e = refl
bind_same (value a) f g e = e a

bind_known : {A B C : Type 0} (o : Outcome A) (b : B) (f : B → Outcome C) → bind (bind o (λ a. value b)) f ≡ bind o (λ a. f b)
unfolding bind
bind_known (refused n vs) b f = refl
bind_known (value a) b f = refl

module _ (s t : List ℕ) (short : length s + length t ≤ max_words) (good : check_of s ≡ value tt) (device : Begins (groups_of t)) where
  first_good : first_bad 0 start (groups_of s) ≡ value tt
  first_good = sym (short_check s (omega arith)) ∙ good

  whole : uncut (groups_of s) ≡ true
  whole = accepted_uncut (groups_of s) 0 start first_good

  -- the second part's fault, at its place behind the first
  pub check_both : check_of (s ++ t) ≡ moved (length s) (check_of t)
  unfolding bind
  check_both =
      short_check (s ++ t) (omega (arith, length-append s t))
      ∙ ap (λ gs. first_bad 0 start gs) (groups_append s t whole)
      ∙ check_append (groups_of s) (groups_of t) (begins_fresh (groups_of t) device) 0 start
      ∙ ap (λ o. bind o (λ ok. first_bad (0 + sizes (groups_of s)) start (groups_of t))) first_good
      ∙ ap (λ n. first_bad n start (groups_of t)) (let e : 0 + sizes (groups_of s) ≡ length s + 0 = omega (arith, sizes_length s whole) in e)
      ∙ move_check (length s) (groups_of t) 0 start
      ∙ ap (λ o. moved (length s) o) (sym (short_check t (omega arith)))

  pub devices_both : devices_of (s ++ t) ≡ devices_of s ++ devices_of t
  unfolding devices_of extended
  devices_both =
      ap (λ gs. (gather gs).devices) (groups_append s t whole)
      ∙ ap (λ g. g.devices) (gather_append (groups_of s) (groups_of t) (begins_complete (groups_of t) device))

  -- both parts load, the second from the place behind the first's devices on
  pub loaded_both : (d : List ℕ) → loaded d (s ++ t) ≡ bind (read_descriptions d) (λ ds. bind (moved (length s) (check_of t)) (λ ok. and_then (load_from ds 0 (devices_of s)) (load_from ds (length (devices_of s)) (devices_of t))))
  unfolding loaded read_survey
  loaded_both d = bind_same (read_descriptions d) _ _ parts
    where
      parts : (ds : List Description) → bind (bind (check_of (s ++ t)) (λ ok. value (devices_of (s ++ t)))) (λ devices. load_from ds 0 devices) ≡ bind (moved (length s) (check_of t)) (λ ok. and_then (load_from ds 0 (devices_of s)) (load_from ds (length (devices_of s)) (devices_of t)))
      parts ds =
          ap (λ o. bind (bind o (λ ok. value (devices_of (s ++ t)))) (λ devices. load_from ds 0 devices)) check_both
          ∙ ap (λ l. bind (bind (moved (length s) (check_of t)) (λ ok. value l)) (λ devices. load_from ds 0 devices)) devices_both
          ∙ bind_known (moved (length s) (check_of t)) (devices_of s ++ devices_of t) (λ devices. load_from ds 0 devices)
          ∙ ap (λ o. bind (moved (length s) (check_of t)) (λ ok. o)) (load_append ds 0 (devices_of s) (devices_of t) ∙ ap (λ n. and_then (load_from ds 0 (devices_of s)) (load_from ds n (devices_of t))) (zero-add (length (devices_of s))))

  first_alone : (ds : List Description) → bind (read_survey s) (λ devices. load_from ds 0 devices) ≡ load_from ds 0 (devices_of s)
  unfolding read_survey bind
  first_alone ds = ap (λ o. bind (bind o (λ ok. value (devices_of s))) (λ devices. load_from ds 0 devices)) good

  module _ (d : List ℕ) (fine : check_of t ≡ value tt) where
    -- a second part that is well formed, by how it loads from a place on
    second : (ds : List Description) (o : Outcome Rows) → bind (read_survey s) (λ devices. load_from ds 0 devices) ≡ o → bind (moved (length s) (check_of t)) (λ ok. and_then (load_from ds 0 (devices_of s)) (load_from ds (length (devices_of s)) (devices_of t))) ≡ and_then o (load_from ds (length (devices_of s)) (devices_of t))
    unfolding bind moved
    second ds o e =
        ap (λ c. bind (moved (length s) c) (λ ok. and_then (load_from ds 0 (devices_of s)) (load_from ds (length (devices_of s)) (devices_of t)))) fine
        ∙ ap (λ a. and_then a (load_from ds (length (devices_of s)) (devices_of t))) (sym (first_alone ds) ∙ e)

    -- where loading refuses the first part, it refuses the whole alike
    pub refused_both : (n : ℕ) (vs : List ℕ) → loaded d s ≡ refused n vs → loaded d (s ++ t) ≡ refused n vs
    unfolding loaded bind and_then
    refused_both n vs e = loaded_both d ∙ by_descriptions (read_descriptions d) e
      where
        by_descriptions : (o : Outcome (List Description)) → bind o (λ ds. bind (read_survey s) (λ devices. load_from ds 0 devices)) ≡ refused n vs → bind o (λ ds. bind (moved (length s) (check_of t)) (λ ok. and_then (load_from ds 0 (devices_of s)) (load_from ds (length (devices_of s)) (devices_of t)))) ≡ refused n vs
        by_descriptions (refused m ws) h = h
        by_descriptions (value ds) h = second ds (refused n vs) h

    -- where the first part is accepted, the whole loads to its rows and those of the second from its devices' number on
    pub accepted_both : (x : Rows) → loaded d s ≡ value x → loaded d (s ++ t) ≡ bind (read_descriptions d) (λ ds. bind (load_from ds (length x.devices) (devices_of t)) (λ y. value (joined x y)))
    unfolding loaded bind and_then
    accepted_both x e = loaded_both d ∙ by_descriptions (read_descriptions d) e
      where
        by_descriptions : (o : Outcome (List Description)) → bind o (λ ds. bind (read_survey s) (λ devices. load_from ds 0 devices)) ≡ value x → bind o (λ ds. bind (moved (length s) (check_of t)) (λ ok. and_then (load_from ds 0 (devices_of s)) (load_from ds (length (devices_of s)) (devices_of t)))) ≡ bind o (λ ds. bind (load_from ds (length x.devices) (devices_of t)) (λ y. value (joined x y)))
        by_descriptions (refused m ws) h = refl
        by_descriptions (value ds) h = second ds (value x) h ∙ ap (λ n. bind (load_from ds n (devices_of t)) (λ y. value (joined x y))) (sym (devices_count ds 0 (devices_of s) x (sym (first_alone ds) ∙ h)))

    -- both accepted: the rows one after another, and N is the sum
    pub rows_both : (ds : List Description) (x y : Rows) → read_descriptions d ≡ value ds → loaded d s ≡ value x → load_from ds (length x.devices) (devices_of t) ≡ value y → loaded d (s ++ t) ≡ value (joined x y)
    unfolding bind
    rows_both ds x y r e f =
        accepted_both x e
        ∙ ap (λ o. bind o (λ z. bind (load_from z (length x.devices) (devices_of t)) (λ w. value (joined x w)))) r
        ∙ ap (λ o. bind o (λ w. value (joined x w))) f
