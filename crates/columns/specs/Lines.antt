-- Document 01, module 3: the lines of a text, one after another. Assumes nothing.
use Rattle.std.specs.Prelude.{ℕ, ◌-◌, ◌≡◌, List, take, drop}
use Rattle.scan.specs.Scan.{is_line_feed, place_from}
use Rattle.register.specs.Line.{meaning}
use Rattle.columns.specs.declared.LineAt.{LineAt}

-- what the line from i on is, and where it ends: at LF or the end; i itself where i is past the end
abbrev pub MetAt : List ℕ → ℕ → LineAt → Type 0
MetAt s i r = (r.end ≡ place_from is_line_feed s i) × (r.met ≡ meaning (take (r.end - i) (drop i s)))
