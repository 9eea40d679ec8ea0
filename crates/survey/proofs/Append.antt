-- Surveys one after another: groups, devices and acceptance go part by part, where the second part begins with a device. Assumes nothing.
use Rattle.std.specs.Prelude.{None, Option, Some}
use Prim.Native.Nat.{ℕ, ◌+◌}
use native.Mathlib.Omega.{arith}
use native.Mathlib.Nat.{add-zero, add_assoc}
use mathlib.Core.Path.{◌≡◌, refl, ◌∙◌, ap, sym}
use mathlib.Core.Bool.{Bool, true, false, cond, false≢true}
use mathlib.Core.List.{List, [], ◌∷◌, ◌++◌}
use lib.Dec.{eqb}
use Rattle.refusal.specs.Outcome.{refused, value, bind}
use Rattle.layout.specs.Layout.{bits, kind}
use Rattle.survey.specs.Words.{is_long, Group, group, cut, groups_of}
use Rattle.survey.specs.Rules.{start, step_of, step_by, size_by, on_step, first_bad}
use Rattle.survey.specs.Devices.{Device, Gathered, register_in, with_register, with_adapter, with_device, with_group, gather}
use Rattle.survey.specs.Places.{is_device}
use Rattle.survey.specs.declared.Under.{Under}
use Rattle.survey.proofs.Laws.{short_group}

-- no group is cut off
unfoldable pub uncut : List Group → Bool
uncut [] = true
uncut (group w a b c ∷ gs) = uncut gs
uncut (cut ∷ gs) = false

-- whole groups and then any words
pub groups_append : (s t : List ℕ) → uncut (groups_of s) ≡ true → groups_of (s ++ t) ≡ groups_of s ++ groups_of t
unfolding groups_of uncut
groups_append [] t h = refl
groups_append (w ∷ []) t h = step (is_long w) refl h
  where
    step : (l : Bool) → is_long w ≡ l → uncut (cond l (cut ∷ []) (group w 0 0 0 ∷ [])) ≡ true → groups_of (w ∷ t) ≡ cond l (cut ∷ []) (group w 0 0 0 ∷ []) ++ groups_of t
    step true e u = absurd (false≢true u)
    step false e u = short_group w t e
groups_append (w ∷ a ∷ []) t h = step (is_long w) refl h (λ u. groups_append (a ∷ []) t u)
  where
    step : (l : Bool) → is_long w ≡ l → uncut (cond l (cut ∷ []) (group w 0 0 0 ∷ groups_of (a ∷ []))) ≡ true → (uncut (groups_of (a ∷ [])) ≡ true → groups_of (a ∷ t) ≡ groups_of (a ∷ []) ++ groups_of t) → groups_of (w ∷ a ∷ t) ≡ cond l (cut ∷ []) (group w 0 0 0 ∷ groups_of (a ∷ [])) ++ groups_of t
    step true e u ih = absurd (false≢true u)
    step false e u ih = short_group w (a ∷ t) e ∙ ap (λ gs. group w 0 0 0 ∷ gs) (ih u)
groups_append (w ∷ a ∷ b ∷ []) t h = step (is_long w) refl h (λ u. groups_append (a ∷ b ∷ []) t u)
  where
    step : (l : Bool) → is_long w ≡ l → uncut (cond l (cut ∷ []) (group w 0 0 0 ∷ groups_of (a ∷ b ∷ []))) ≡ true → (uncut (groups_of (a ∷ b ∷ [])) ≡ true → groups_of (a ∷ b ∷ t) ≡ groups_of (a ∷ b ∷ []) ++ groups_of t) → groups_of (w ∷ a ∷ b ∷ t) ≡ cond l (cut ∷ []) (group w 0 0 0 ∷ groups_of (a ∷ b ∷ [])) ++ groups_of t
    step true e u ih = absurd (false≢true u)
    step false e u ih = short_group w (a ∷ b ∷ t) e ∙ ap (λ gs. group w 0 0 0 ∷ gs) (ih u)
groups_append (w ∷ a ∷ b ∷ c ∷ s) t h = step (is_long w) h (λ u. groups_append s t u) (λ u. groups_append (a ∷ b ∷ c ∷ s) t u)
  where
    step : (l : Bool) → uncut (cond l (group w a b c ∷ groups_of s) (group w 0 0 0 ∷ groups_of (a ∷ b ∷ c ∷ s))) ≡ true → (uncut (groups_of s) ≡ true → groups_of (s ++ t) ≡ groups_of s ++ groups_of t) → (uncut (groups_of (a ∷ b ∷ c ∷ s)) ≡ true → groups_of (a ∷ b ∷ c ∷ (s ++ t)) ≡ groups_of (a ∷ b ∷ c ∷ s) ++ groups_of t) → cond l (group w a b c ∷ groups_of (s ++ t)) (group w 0 0 0 ∷ groups_of (a ∷ b ∷ c ∷ (s ++ t))) ≡ cond l (group w a b c ∷ groups_of s) (group w 0 0 0 ∷ groups_of (a ∷ b ∷ c ∷ s)) ++ groups_of t
    step true u long short = ap (λ gs. group w a b c ∷ gs) (long u)
    step false u long short = ap (λ gs. group w 0 0 0 ∷ gs) (short u)

-- what was gathered, with more devices behind
unfoldable pub extended : Gathered → List Device → Gathered
extended g ds = record { registers = g.registers; entries = g.entries; adapters = g.adapters; devices = g.devices ++ ds }

extend_group : (x : Group) (g : Gathered) (ds : List Device) → with_group x (extended g ds) ≡ extended (with_group x g) ds
unfolding with_group with_device with_adapter with_register extended
extend_group cut g ds = refl
extend_group (group w a b c) g ds = step (eqb (kind w) 3) (eqb (kind w) 4) (eqb (kind w) 5) (eqb (bits w 16 16) 0)
  where
    step : (d n r p : Bool) → cond d (with_device w a b c (extended g ds)) (cond n (with_adapter w (extended g ds)) (cond r (cond p (record { registers = register_in w a b c ∷ g.registers; entries = g.entries; adapters = g.adapters; devices = g.devices ++ ds }) (record { registers = g.registers; entries = register_in w a b c ∷ g.entries; adapters = g.adapters; devices = g.devices ++ ds })) (extended g ds))) ≡ extended (cond d (with_device w a b c g) (cond n (with_adapter w g) (cond r (cond p (record { registers = register_in w a b c ∷ g.registers; entries = g.entries; adapters = g.adapters; devices = g.devices }) (record { registers = g.registers; entries = register_in w a b c ∷ g.entries; adapters = g.adapters; devices = g.devices })) g))) ds
    step true n r p = refl
    step false true r p = refl
    step false false true true = refl
    step false false true false = refl
    step false false false p = refl

-- nothing waits for a head before it
pub record Complete (g : Gathered) : Type 0 where
  pub registers : g.registers ≡ []
  pub entries : g.entries ≡ []
  pub adapters : g.adapters ≡ []

-- the devices of the one, then those of the other
pub gather_append : (xs ys : List Group) → Complete (gather ys) → gather (xs ++ ys) ≡ extended (gather xs) (gather ys).devices
unfolding gather extended
gather_append [] ys c = alone (gather ys) c
  where
    alone : (g : Gathered) → Complete g → g ≡ record { registers = []; entries = []; adapters = []; devices = g.devices }
    alone g c =
        ap (λ rs. record { registers = rs; entries = g.entries; adapters = g.adapters; devices = g.devices }) c.registers
        ∙ ap (λ es. record { registers = []; entries = es; adapters = g.adapters; devices = g.devices }) c.entries
        ∙ ap (λ as'. record { registers = []; entries = []; adapters = as'; devices = g.devices }) c.adapters
gather_append (x ∷ xs) ys c = ap (λ g. with_group x g) (gather_append xs ys c) ∙ extend_group x (gather xs) (gather ys).devices

-- the words of groups
unfoldable pub sizes : List Group → ℕ
sizes [] = 0
sizes (g ∷ gs) = size_by g + sizes gs

-- a device's step rests on its head alone, whatever stood before
device_step : (g : Group) → is_device g ≡ true → (u v : Under) → step_by u g ≡ step_by v g
unfolding is_device step_by step_of
device_step (group w a b c) e u v = simp e
device_step cut e u v = refl

-- groups whose check does not rest on what stood before: none, or a device first
pub Fresh : List Group → Type 0
Fresh ys = (j : ℕ) (v : Under) → first_bad j v ys ≡ first_bad j start ys

pub fresh_none : Fresh []
unfolding first_bad Fresh
fresh_none j v = refl

pub fresh_device : (g : Group) (gs : List Group) → is_device g ≡ true → Fresh (g ∷ gs)
unfolding first_bad Fresh
fresh_device g gs e j v = ap (λ x. on_step x (λ u. first_bad (j + size_by g) u gs) (refused 4 (j ∷ []))) (device_step g e v start)

-- the first part's fault, or else the second's, at its place behind the first
pub check_append : (xs ys : List Group) → Fresh ys → (i : ℕ) (u : Under) → first_bad i u (xs ++ ys) ≡ bind (first_bad i u xs) (λ ok. first_bad (i + sizes xs) start ys)
unfolding first_bad sizes bind on_step Fresh
check_append [] ys f i u = f i u ∙ ap (λ n. first_bad n start ys) (sym (add-zero i))
check_append (x ∷ xs) ys f i u = step (step_by u x) (λ v. check_append xs ys f (i + size_by x) v)
  where
    step : (s : Option Under) → ((v : Under) → first_bad (i + size_by x) v (xs ++ ys) ≡ bind (first_bad (i + size_by x) v xs) (λ ok. first_bad (i + size_by x + sizes xs) start ys)) → on_step s (λ v. first_bad (i + size_by x) v (xs ++ ys)) (refused 4 (i ∷ [])) ≡ bind (on_step s (λ v. first_bad (i + size_by x) v xs) (refused 4 (i ∷ []))) (λ ok. first_bad (i + (size_by x + sizes xs)) start ys)
    step (Some v) ih = ih v ∙ ap (λ n. bind (first_bad (i + size_by x) v xs) (λ ok. first_bad n start ys)) (add_assoc i (size_by x) (sizes xs))
    step None ih = refl

-- what is accepted has no group that is cut off
pub accepted_uncut : (gs : List Group) (i : ℕ) (u : Under) → first_bad i u gs ≡ value tt → uncut gs ≡ true
unfolding first_bad uncut on_step step_by
accepted_uncut [] i u e = refl
accepted_uncut (cut ∷ gs) i u e = absurd (let z : ◌≡◌ {A = ℕ} 0 1 = cc in omega arith)
accepted_uncut (group w a b c ∷ gs) i u e = step (step_of u w b) e (λ v h. accepted_uncut gs (i + size_by (group w a b c)) v h)
  where
    step : (s : Option Under) → on_step s (λ v. first_bad (i + size_by (group w a b c)) v gs) (refused 4 (i ∷ [])) ≡ value tt → ((v : Under) → first_bad (i + size_by (group w a b c)) v gs ≡ value tt → uncut gs ≡ true) → uncut gs ≡ true
    step (Some v) h ih = ih v h
    step None h ih = absurd (let z : ◌≡◌ {A = ℕ} 0 1 = cc in omega arith)
