use Rattle.std.specs.Prelude.{◌≡◌}
use Rattle.description.specs.Rules.{good_name}
use Rattle.description.proofs.Laws.{words_from}
use Rattle.description.proofs.good_name.Given as goal

abbrev pub invariant-loop-k : goal.invariant-loop-k
invariant-loop-k l = good_name l.t l.p l.n ≡ words_from l.t l.p l.n l.k
