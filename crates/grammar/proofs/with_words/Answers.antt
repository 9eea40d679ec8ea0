use mathlib.Core.Path.{sym, ap, ◌∙◌}
use Rattle.grammar.specs.Work.{with_words}
use Rattle.grammar.proofs.with_words.Goals as goal

pub returns-in_err-under : goal.returns-in_err-under
unfolding with_words
returns-in_err-under c = c.from_residual.ensures ∙ sym (ap (with_words c.args.words) c.in_err-under.was)

pub returns : goal.returns
unfolding with_words
returns c = sym (ap (with_words c.args.words) c.in_ok-under.was)
