use Rattle.std.proofs.lemmas.Result.{err_from_is_err_and}
use Rattle.grammar.proofs.Checking.{too_long, not_ascii, wrong_line, many_words, all_words}
use Rattle.grammar.proofs.check.Goals as goal

pub returns-then-text-gt-MOST_BYTES : goal.returns-then-text-gt-MOST_BYTES
returns-then-text-gt-MOST_BYTES c = too_long _ c.if-text-gt-MOST_BYTES.true

pub returns-then-high-text : goal.returns-then-high-text
returns-then-high-text c = not_ascii _ c.if-text-gt-MOST_BYTES.false _ c.first_high-high.ensures c.if-high-text.true

pub returns-in_err-n : goal.returns-in_err-n
returns-in_err-n c =
    let p = err_from_is_err_and c.from_residual.result c.from_residual.ensures.1 in
    rw (p.1, p.2) (wrong_line _ c.if-text-gt-MOST_BYTES.false _ c.first_high-high.ensures c.if-high-text.false _ c.check_lines.ensures _ c.in_err-n.was)

pub returns-then-n-gt-MOST_WORDS : goal.returns-then-n-gt-MOST_WORDS
returns-then-n-gt-MOST_WORDS c = many_words _ c.if-text-gt-MOST_BYTES.false _ c.first_high-high.ensures c.if-high-text.false _ c.check_lines.ensures _ c.in_ok-n.was c.if-n-gt-MOST_WORDS.true

pub returns : goal.returns
returns c = all_words _ c.if-text-gt-MOST_BYTES.false _ c.first_high-high.ensures c.if-high-text.false _ c.check_lines.ensures _ c.in_ok-n.was c.if-n-gt-MOST_WORDS.false
