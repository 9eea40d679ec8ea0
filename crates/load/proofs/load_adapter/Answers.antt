use Rattle.std.proofs.lemmas.Result.{err_from_is_err_and}
use Rattle.listing.specs.After.{adapter_at}
use Rattle.load.proofs.Joining.{room_adapter}
use Rattle.load.proofs.One as laws
use native.Mathlib.Omega.{arith}
use mathlib.Core.Bool.{not}
use mathlib.Core.Path.{ap}
use Rattle.load.proofs.load_adapter.Goals as goal
use Rattle.load.proofs.load_adapter.Goals.{then-word_at-eq2+else-not-lane1, else-word_at-eq2}

pub returns-in_err-facts-clause-rows : goal.returns-in_err-facts-clause-rows
returns-in_err-facts-clause-rows c = let p = err_from_is_err_and c.from_residual.result c.from_residual.ensures.1 in
    rw (p.1, p.2) (laws.refuses _ _ _ (laws.decode_refused _ _ _ _ _ c.decode.ensures _ c.in_err-facts.was _))

pub returns-then-not-lane1-clause-rows : goal.returns-then-not-lane1-clause-rows
returns-then-not-lane1-clause-rows c = laws.refuses _ _ _ (laws.dump_missed _ _ _ _ _ c.decode.ensures _ c.in_ok-facts.was _ (laws.its_paths _ _ _ c.word_at.ensures) c.if-word_at-eq2.true (ap (λ b. not b) c.if-not-lane1.true) _)

pub put_adapter-requires : goal.put_adapter-requires
put_adapter-requires c = (omega (arith, c.requires.0.adapters, c.requires.0.short, c.requires.1), c.requires.2, laws.facts_fit _ _ _ _ _ c.decode.ensures _ c.in_ok-facts.was)

pub push_entries-requires : goal.push_entries-requires
push_entries-requires c = (room_adapter _ _ _ c.requires.0 c.requires.1 _ _ c.put_adapter.ensures, c.requires.2)

pub returns-in_default-clause-rows : goal.returns-in_default-clause-rows
unfolding adapter_at
returns-in_default-clause-rows c = let k = c.in_ok-facts.was in
    let d = c.decode.ensures in
    let w = laws.its_paths c.args.survey.now c.args.at _ c.word_at.ensures in
    laws.entries_put _ _ _ _ _ d _ k (elim c.if-word_at-eq2.branch [ then-word_at-eq2+else-not-lane1 x ↦ laws.dump_lane1 _ _ _ _ _ d _ k _ w (ap (λ b. not b) x.if-not-lane1.false) | else-word_at-eq2 x ↦ laws.dump_other _ _ _ _ _ d _ k _ w x.if-word_at-eq2.false ]) _ _ c.put_adapter.ensures _ _ c.push_entries.ensures.rows _ c.in_default.is

pub returns-clause-rows : goal.returns-clause-rows
unfolding adapter_at
returns-clause-rows c = let k = c.in_ok-facts.was in
    let d = c.decode.ensures in
    let w = laws.its_paths c.args.survey.now c.args.at _ c.word_at.ensures in
    laws.entries_put _ _ _ _ _ d _ k (elim c.if-word_at-eq2.branch [ then-word_at-eq2+else-not-lane1 x ↦ laws.dump_lane1 _ _ _ _ _ d _ k _ w (ap (λ b. not b) x.if-not-lane1.false) | else-word_at-eq2 x ↦ laws.dump_other _ _ _ _ _ d _ k _ w x.if-word_at-eq2.false ]) _ _ c.put_adapter.ensures _ _ c.push_entries.ensures.rows _ c.in-Ok.is
