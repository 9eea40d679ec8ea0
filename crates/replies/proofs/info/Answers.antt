use mathlib.Core.Path.{sym, ◌∙◌}
use Rattle.text.proofs.Sections.{bit_is}
use Rattle.replies.proofs.Laws.{info_said}
use Rattle.replies.proofs.info.Goals as goal

pub returns : goal.returns
returns c = info_said _ _ _ _ _ _ _ c.from.ensures c.from-2.ensures (c.from-3.ensures ∙ sym (bit_is _)) (c.from-4.ensures ∙ sym (bit_is _)) c.hop_or.ensures (c.from-5.ensures ∙ sym (bit_is _))
