use native.Mathlib.Omega.{arith}
use Rattle.view.proofs.Laws.{stand_bounds, words_had, words_none}
use Rattle.view.proofs.words_of.Goals as goal

pub offset_bounds-survey-group : goal.offset_bounds-survey-group
offset_bounds-survey-group c =
    omega (arith, stand_bounds c.args.survey.now c.args.place c.stand_of.result c.stand_of.ensures c.in-Ok.group c.in-Ok.is, c.well_formed)

pub slice_bounds-result-count : goal.slice_bounds-result-count
slice_bounds-result-count c =
    omega (arith, stand_bounds c.args.survey.now c.args.place c.stand_of.result c.stand_of.ensures c.in-Ok.group c.in-Ok.is)

pub slice_bounds-result-start : goal.slice_bounds-result-start
slice_bounds-result-start c =
    omega (arith, stand_bounds c.args.survey.now c.args.place c.stand_of.result c.stand_of.ensures c.in-Ok.group c.in-Ok.is)

pub slice_bounds-result-end : goal.slice_bounds-result-end
slice_bounds-result-end c =
    omega (arith, stand_bounds c.args.survey.now c.args.place c.stand_of.result c.stand_of.ensures c.in-Ok.group c.in-Ok.is)

pub returns-in-Ok : goal.returns-in-Ok
returns-in-Ok c = words_had c.args.survey.now c.args.place c.stand_of.result c.stand_of.ensures c.in-Ok.group c.in-Ok.is

pub returns-in-Err : goal.returns-in-Err
returns-in-Err c = words_none c.args.survey.now c.args.place c.stand_of.result c.stand_of.ensures c.in-Err.field-0 c.in-Err.is
