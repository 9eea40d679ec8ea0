use Rattle.std.proofs.Common.{arith, refl, take, length, length-take-le, ◌≡◌}
use Rattle.util.specs.Text.{bytes_of}
use Rattle.cases.specs.Cases.{long_line}
use Rattle.cases.proofs.Counting.{on_ok}
use Rattle.cases.proofs.totals.replay_opened.Goals as goal

-- What was read is the front of the buffer.
pub returns-then-n-eq1000000 : goal.returns-then-n-eq1000000
unfolding long_line bytes_of
returns-then-n-eq1000000 g c =
    let m : length (take c.in_ok-n.n c.read_full.new.text) ≡ c.in_ok-n.n = length-take-le _ _ c.in_ok-n.ensures.within in
    on_ok c.write.result (λ p. record {
      text = take c.in_ok-n.n c.read_full.new.text;
      rest = g.R.Read.remaining c.read_full.new.from;
      read = c.in_ok-n.ensures.bytes;
      whole = λ h. absurd (omega (arith, m, h, c.if-n-eq1000000.true));
      long = λ h. (refl, p);
    }) c.write.ensures.bytes

pub returns : goal.returns
returns g c =
    let m : length (take c.in_ok-n.n c.read_full.new.text) ≡ c.in_ok-n.n = length-take-le _ _ c.in_ok-n.ensures.within in
    on_ok c.print.result (λ p. record {
      text = take c.in_ok-n.n c.read_full.new.text;
      rest = g.R.Read.remaining c.read_full.new.from;
      read = c.in_ok-n.ensures.bytes;
      whole = λ h. (c.in_ok-n.ensures.end (omega (arith, m, h, c.room-text.ensures.length, c.read_full.auto.text)), (_, c.count-t.ensures.counts, p));
      long = λ h. absurd (c.if-n-eq1000000.false (omega (arith, m, h, c.in_ok-n.ensures.within, c.room-text.ensures.length, c.read_full.auto.text)));
    }) c.print.ensures
