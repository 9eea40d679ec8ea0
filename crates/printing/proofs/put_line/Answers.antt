use Rattle.printing.proofs.Laws as laws
use lib.ListN.{drop}
use Rattle.printing.proofs.put_line.Goals as goal

pub returns-then-kind-eq8 : goal.returns-then-kind-eq8
returns-then-kind-eq8 c = rw (laws.line_tunnel (drop c.args.i c.args.words.now) c.word_after-w.ensures c.word_after.ensures c.if-kind-eq8.true) c.put_tunnel.ensures

pub returns-then-kind-eq9 : goal.returns-then-kind-eq9
returns-then-kind-eq9 c = rw (laws.line_path (drop c.args.i c.args.words.now) c.word_after-w.ensures c.if-kind-eq9.true) c.put_path.ensures

pub returns-then-kind-eq10 : goal.returns-then-kind-eq10
returns-then-kind-eq10 c = rw (laws.line_hop (drop c.args.i c.args.words.now) c.word_after-w.ensures c.word_after-then-kind-eq10.ensures c.if-kind-eq10.true) c.put_hop.ensures

pub returns : goal.returns
returns c = rw (laws.line_none (drop c.args.i c.args.words.now) c.word_after-w.ensures c.if-kind-eq8.false c.if-kind-eq9.false c.if-kind-eq10.false) c.put_text.ensures
