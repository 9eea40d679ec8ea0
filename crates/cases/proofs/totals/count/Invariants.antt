use Rattle.std.proofs.Common.{◌+◌, ◌-◌, ◌≤◌, length, drop}
use Rattle.scan.specs.Scan.{lines}
use Rattle.cases.specs.Cases.{no_cases, Counts}
use Rattle.cases.specs.declared.totals.Totals.{Totals}
use Rattle.cases.proofs.totals.count.Given as goal

-- What is counted of the lines that are left, after those so far, is counted of all. Each case takes at least a byte of the file.
abbrev pub invariant-loop-start : goal.invariant-loop-start
invariant-loop-start g l = record {
  rest : (z : _) (t : Totals) → Counts g.C.Compare.answers l.of (lines (drop l.start l.text)) (length l.text - l.start) l.t z t → Counts g.C.Compare.answers l.initial.of (lines l.text) (length l.text) no_cases z t;
  differ_in : l.t.differ ≤ l.t.cases;
  cases_in : l.t.cases ≤ l.start;
  start_in : l.start ≤ length l.text + 1;
}

abbrev pub decreases-loop-start : goal.decreases-loop-start
decreases-loop-start g l = length l.text - l.start
