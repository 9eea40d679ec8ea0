-- Three devices, the second with an adapter: where their groups stand and what they are, by the definitions. Assumes nothing.
use Prim.Native.Nat.{ℕ}
use mathlib.Core.Path.{◌≡◌, refl}
use mathlib.Core.List.{List, [], ◌∷◌}
use Rattle.refusal.specs.Outcome.{refused, value, bind}
use Rattle.survey.specs.Words.{is_long, size_of, groups_of}
use Rattle.survey.specs.Rules.{good_device, good_adapter, after_device, after_adapter, step_of, step_by, size_by, on_step, first_bad, check_of}
use Rattle.survey.specs.Places.{is_device, device_heads_from, device_heads, group_at}
use Rattle.view.specs.View.{bounds_by, group_place, words_by, group_words}

abbrev device : ℕ
device = 805306368

abbrev adapter : ℕ
adapter = 1073741825

abbrev three : List ℕ
three = device ∷ 0 ∷ 1 ∷ 0 ∷ device ∷ 0 ∷ 2 ∷ 0 ∷ adapter ∷ device ∷ 0 ∷ 3 ∷ 0 ∷ []

-- an adapter with no device before it
abbrev broken : List ℕ
broken = adapter ∷ three

-- the second, the last, none such; and 4 before 14
groups : (group_place three 1 ≡ value (record { start = 4; end = 9 })) × (group_words three 1 ≡ device ∷ 0 ∷ 2 ∷ 0 ∷ adapter ∷ []) × (group_words three 2 ≡ device ∷ 0 ∷ 3 ∷ 0 ∷ []) × (group_place three 3 ≡ refused 14 []) × (group_place broken 3 ≡ refused 4 (0 ∷ [])) × (group_words broken 1 ≡ [])
unfolding bind is_long size_of groups_of good_device good_adapter after_device after_adapter step_of step_by size_by on_step first_bad check_of is_device device_heads_from device_heads group_at bounds_by group_place words_by group_words
groups = (refl, refl, refl, refl, refl, refl)
