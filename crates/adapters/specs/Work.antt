-- For the contracts of private functions only. No promise to a caller rests on these. Assumes nothing.
use Rattle.std.specs.Prelude.{Err, Ok, Result, ℕ}
use Rattle.refusal.specs.Outcome.{Outcome, value}
use Rattle.adapter.specs.Adapter.{AdapterRow, facts_row}
use Rattle.refusal.specs.Refusal.{refused_by}
use Rattle.refusal.specs.declared.Refusal.{Refusal}
use Rattle.adapter.specs.declared.Facts.{Facts}

unfoldable pub row_outcome : ℕ → Result Facts Refusal → Outcome AdapterRow
row_outcome p (Ok f) = value (facts_row p f)
row_outcome p (Err r) = refused_by r
