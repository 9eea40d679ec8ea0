-- Words handed out by an exported call. Assumes nothing.
use Rattle.std.specs.Prelude.{ℕ, ◌≡◌, false, List, length}
use Rattle.refusal.specs.Outcome.{value}
use Rattle.description.specs.Rules.{read_descriptions}
use Rattle.metadata.specs.Ours.{ours}
use Rattle.text.specs.Text.{in_room, output_by}
use Rattle.answers.specs.Said.{said, answered, always, one}

-- words handed out: 2 with the words needed where there is too little room, and then the output is as it was
pub record HandedOut (words output output' answer : List ℕ) : Type 0 where
  pub says : answer ≡ said (always one (in_room (length output) words))
  pub writes : output' ≡ output_by (value words) output
  pub kept : answered answer ≡ false → output' ≡ output

-- our descriptions handed out, as words that read as them
pub record OursSaid (output output' answer : List ℕ) : Type 0 where
  pub words : List ℕ
  pub reads : read_descriptions words ≡ value ours
  pub size : length words ≡ 91
  pub handed : HandedOut words output output' answer
