use mathlib.Core.Bool.{true≢false}
use native.Mathlib.Omega.{arith}
use borrow.Author.Tests.{ltb-true, ltb-false}
use Rattle.report.proofs.larger.Goals as goal

-- `report::larger` meets its contract.
pub returns-then-tables-gt-MOST_ENTRIES : goal.returns-then-tables-gt-MOST_ENTRIES
returns-then-tables-gt-MOST_ENTRIES c = (λ e. absurd (true≢false e), λ e z. omega (arith, z.sized.entries, c.if-tables-gt-MOST_ENTRIES.true))

pub returns-then-tables-gt-MOST_ADAPTERS : goal.returns-then-tables-gt-MOST_ADAPTERS
returns-then-tables-gt-MOST_ADAPTERS c = (λ e. absurd (true≢false e), λ e z. omega (arith, z.adapters, c.if-tables-gt-MOST_ADAPTERS.true))

pub returns : goal.returns
returns c = (λ e. record { sized = record { entries = omega (arith, c.if-tables-gt-MOST_ENTRIES.false); devices = omega (arith, ltb-false) }; adapters = omega (arith, c.if-tables-gt-MOST_ADAPTERS.false) }, λ e z. omega (arith, z.sized.devices, ltb-true))
