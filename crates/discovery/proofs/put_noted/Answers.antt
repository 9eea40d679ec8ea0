use Rattle.std.proofs.lemmas.Result.{err_from_is_err_and}
use Rattle.discovery.proofs.Answering.{list_refused, list_short, list_put}
use Rattle.discovery.proofs.put_noted.Goals as goal

pub tally_rings-requires : goal.tally_rings-requires
tally_rings-requires c = (c.requires.0, c.requires.1, c.at_rest-idle.ensures c.requires.3, c.requires.2)

pub returns-in_err-need : goal.returns-in_err-need
returns-in_err-need c = let p = err_from_is_err_and c.from_residual.result c.from_residual.ensures.1 in
    rw (p.1, p.2) (list_refused _ _ _ _ _ _ c.tally_rings.ensures.tallies.0 _ c.in_err-need.was)

pub returns-then-output-need : goal.returns-then-output-need
returns-then-output-need c = list_short _ _ _ _ _ _ c.tally_rings.ensures.tallies.0 _ c.in_ok-need.was c.if-output-need.true

pub put_tallied-requires : goal.put_tallied-requires
put_tallied-requires c = (c.requires.0, c.requires.1, c.tally_rings.ensures.tallies.1, c.tally_rings.ensures.drafted, c.requires.2)

pub returns : goal.returns
returns c = list_put _ _ _ _ _ _ c.tally_rings.ensures.tallies.0 _ c.in_ok-need.was c.if-output-need.false c.put_tallied.new.output c.put_tallied.auto.output c.put_tallied.ensures
