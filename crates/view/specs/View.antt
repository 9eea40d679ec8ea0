-- Document 01, the survey view: one device's group, its head up to the next device's head, and no other. 4, then 14. Assumes nothing.
use Rattle.std.specs.Prelude.{ℕ, ◌-◌, List, [], take, drop, Option, None, Some}
use Rattle.refusal.specs.Outcome.{Outcome, refused, value, bind}
use Rattle.survey.specs.Rules.{check_of}
use Rattle.survey.specs.Places.{group_at}
use Rattle.survey.specs.declared.Bounds.{Bounds}

unfoldable pub bounds_by : Option Bounds → Outcome Bounds
bounds_by (Some b) = value b
bounds_by None = refused 14 []

-- 4 where the words break the rules, then 14 where there is no such device
unfoldable pub group_place : List ℕ → ℕ → Outcome Bounds
group_place t p = bind (check_of t) (λ ok. bounds_by (group_at t p))

unfoldable pub words_by : List ℕ → Outcome Bounds → List ℕ
words_by t (refused n vs) = []
words_by t (value b) = take (b.end - b.start) (drop b.start t)

-- the group's words; none where its place is refused
unfoldable pub group_words : List ℕ → ℕ → List ℕ
group_words t p = words_by t (group_place t p)
