use native.Mathlib.Omega.{arith}
use mathlib.Core.Bool.{not}
use borrow.Author.Tests.{not-true, not-false}
use mathlib.Core.Path.{ap}
use Rattle.scan.specs.Scan.{is_line_feed}
use Rattle.scan.proofs.Laws.{place_within}
use Rattle.text.proofs.Sections.{stays, stays_end, goes_past}
use Rattle.text.proofs.past_mark.Goals as goal

pub returns-then-not-passed : goal.returns-then-not-passed
returns-then-not-passed c = rw (not-true c.args.passed (ap (λ b. not b) c.if-not-passed.true)) (stays _ _ c.requires)

pub returns-then-text-at : goal.returns-then-text-at
returns-then-text-at c = stays_end _ _ _ c.requires c.if-text-at.true

pub after_line-requires : goal.after_line-requires
after_line-requires c = omega (arith, place_within is_line_feed c.args.text.now c.args.at (omega (arith, c.if-text-at.false)), c.line_end-end.ensures)

pub next_marker-requires : goal.next_marker-requires
next_marker-requires c = c.after_line.ensures.within

pub returns : goal.returns
returns c = rw (not-false c.args.passed (ap (λ b. not b) c.if-not-passed.false)) (goes_past _ _ _ _ _ c.line_end-end.ensures c.if-text-at.false (c.requires c.if-text-at.false) c.after_line.ensures c.next_marker.ensures)
