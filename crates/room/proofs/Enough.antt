-- Whether there is room, answer by answer. Assumes nothing.
use Rattle.std.specs.Prelude.{Err, Ok}
use Prim.Native.Nat.{ℕ, ◌*◌, ◌/◌, ◌≤◌}
use native.Mathlib.Omega.{arith}
use mathlib.Core.Path.{◌≡◌, refl, ◌∙◌, ap, sym}
use mathlib.Core.Bool.{Bool, true, false, ◌||◌}
use mathlib.Core.List.{List}
use lib.Dec.{ltb}
use lib.ListN.{length}
use borrow.Author.Tests.{ltb-false}
use Rattle.scan.specs.Scan.{lines}
use Rattle.room.specs.Records.{records_of, words_needed, RoomFor}
use Rattle.refusal.specs.declared.Refusal.TheVariants as refusal

or_true : (b : Bool) → (b || true) ≡ true
or_true true = refl
or_true false = refl

-- room by the records
module _ (s : List ℕ) (a b n : ℕ) (en : n ≡ length (records_of (lines s))) where
  pub short_scratch : ltb a (4 * n) ≡ true → RoomFor s a b (Err (refusal.Short (4 * n)))
  unfolding RoomFor words_needed
  short_scratch h = (ap (λ m. refusal.Short (4 * m)) en, ap (λ m. ltb a (4 * m) || ltb b (4 * m)) (sym en) ∙ ap (λ x. x || ltb b (4 * n)) h)

  pub short_output : ltb b (4 * n) ≡ true → RoomFor s a b (Err (refusal.Short (4 * n)))
  unfolding RoomFor words_needed
  short_output h = (ap (λ m. refusal.Short (4 * m)) en, ap (λ m. ltb a (4 * m) || ltb b (4 * m)) (sym en) ∙ ap (λ x. ltb a (4 * n) || x) h ∙ or_true (ltb a (4 * n)))

  pub room_enough : ltb a (4 * n) ≡ false → ltb b (4 * n) ≡ false → RoomFor s a b (Ok tt)
  unfolding RoomFor words_needed
  room_enough h k = (omega (arith, en, ltb-false a (4 * n) h), omega (arith, en, ltb-false b (4 * n) k))

-- room for no fewer records than there are
pub room_plenty : (s : List ℕ) (a b most : ℕ) → length (records_of (lines s)) ≤ most → ltb (a / 4) most ≡ false → ltb (b / 4) most ≡ false → RoomFor s a b (Ok tt)
unfolding RoomFor words_needed
room_plenty s a b most m h k = (omega (arith, m, ltb-false (a / 4) most h), omega (arith, m, ltb-false (b / 4) most k))
