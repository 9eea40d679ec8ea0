use Rattle.load.proofs.Fitting as laws
use Rattle.util.specs.Text.{bytes_of}
use Rattle.load.proofs.router_cs_1.Goals as goal

pub returns-then-w-ne1 : goal.returns-then-w-ne1
returns-then-w-ne1 c = let r = laws.other_kind _ _ _ _ c.word_at-w.ensures c.if-w-ne1.true in record { answer = r.0; within = r.1 }

pub returns-then-w-ne1-2 : goal.returns-then-w-ne1-2
returns-then-w-ne1-2 c = let r = laws.router_unread _ _ _ _ c.word_at-w.ensures c.if-w-ne1.false c.if-w-ne1-2.true in record { answer = r.0; within = r.1 }

pub returns : goal.returns
unfolding bytes_of
returns c = record { answer = laws.router_read _ _ _ _ c.word_at-w.ensures c.if-w-ne1.false c.if-w-ne1-2.false _ c.by_name.ensures.answer; within = c.by_name.ensures.within }
