use Rattle.std.specs.Prelude.{Err, Ok}
use mathlib.Core.Path.{sym, ◌∙◌, ◌≡◌}
use lib.ListN.{length}
use borrow.Author.Tests.{lt-ltb, le-ltb}
use Prim.Native.Nat.{◌<◌, ◌≤◌}
use native.Mathlib.Omega.{arith}
use Rattle.scan.specs.Scan.{is_high, place_from}
use Rattle.register.specs.Line.{meaning, line_answer, record_of}
use Rattle.register.proofs.parse_debugfs.Goals as goal

pub returns-then-high-line : goal.returns-then-high-line
unfolding line_answer
returns-then-high-line c = let s = c.args.line.now in
    let p : place_from is_high s 0 < length s = omega (arith, c.first_high-high.ensures) in
    simp (lt-ltb _ _ p, c.first_high-high.ensures)

pub returns-in_default : goal.returns-in_default
unfolding line_answer record_of
returns-in_default c = let s = c.args.line.now in
    let p : length s ≤ place_from is_high s 0 = omega (arith, c.first_high-high.ensures) in
    let e : meaning s ≡ Err c.in_default.field-0 = sym c.read_line.ensures ∙ c.in_default.is in
    simp (le-ltb _ _ p, e)

pub returns : goal.returns
unfolding line_answer record_of
returns c = let s = c.args.line.now in
    let p : length s ≤ place_from is_high s 0 = omega (arith, c.first_high-high.ensures) in
    let e : meaning s ≡ Ok c.in-Ok.r = sym c.read_line.ensures ∙ c.in-Ok.is in
    simp (le-ltb _ _ p, e)
