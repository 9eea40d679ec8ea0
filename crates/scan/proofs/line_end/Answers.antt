use borrow.Author.Rules.{rules}
use Rattle.scan.specs.Scan.{is_line_feed}
use Rattle.scan.proofs.line_end.Goals as goal

pub returns : goal.returns
unfolding is_line_feed
returns c = c.place.ensures is_line_feed (λ b r h k. search rules)
