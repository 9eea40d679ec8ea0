use mathlib.Core.Path.{◌∙◌, sym, ap}
use mathlib.Core.Bool.{not, ◌&&◌, ◌||◌}
use lib.Dec.{leb}
use Rattle.survey.proofs.Laws.{adapter_space_lem, path_space_lem}
use borrow.Author.Tests.{not-true, not-false}
use Rattle.rules.proofs.may_stand.Goals as goal

pub returns-then-not-u : goal.returns-then-not-u
returns-then-not-u c = sym (adapter_space_lem c.args.u c.args.path c.args.offset c.if-path-eq0.true ∙ ap (λ b. b && not c.args.u.listing && leb c.args.u.least c.args.offset) (not-true c.args.u.registers c.if-not-u.true))

pub returns-then-u : goal.returns-then-u
returns-then-u c = sym (adapter_space_lem c.args.u c.args.path c.args.offset c.if-path-eq0.true ∙ ap (λ b. b && not c.args.u.listing && leb c.args.u.least c.args.offset) (not-false c.args.u.registers c.if-not-u.false) ∙ ap (λ b. not b && leb c.args.u.least c.args.offset) c.if-u.true)

pub returns-then-path-eq0 : goal.returns-then-path-eq0
returns-then-path-eq0 c = sym (adapter_space_lem c.args.u c.args.path c.args.offset c.if-path-eq0.true ∙ ap (λ b. b && not c.args.u.listing && leb c.args.u.least c.args.offset) (not-false c.args.u.registers c.if-not-u.false) ∙ ap (λ b. not b && leb c.args.u.least c.args.offset) c.if-u.false)

pub returns-then-not-u-2 : goal.returns-then-not-u-2
returns-then-not-u-2 c = sym (path_space_lem c.args.u c.args.path c.args.offset c.if-path-eq0.false ∙ ap (λ b. b && (not c.args.u.listing || leb c.args.u.least c.args.offset)) (not-true c.args.u.paths c.if-not-u-2.true))

pub returns-then-not-u-3 : goal.returns-then-not-u-3
returns-then-not-u-3 c = sym (path_space_lem c.args.u c.args.path c.args.offset c.if-path-eq0.false ∙ ap (λ b. b && (not c.args.u.listing || leb c.args.u.least c.args.offset)) (not-false c.args.u.paths c.if-not-u-2.false) ∙ ap (λ b. not b || leb c.args.u.least c.args.offset) (not-true c.args.u.listing c.if-not-u-3.true))

pub returns : goal.returns
returns c = sym (path_space_lem c.args.u c.args.path c.args.offset c.if-path-eq0.false ∙ ap (λ b. b && (not c.args.u.listing || leb c.args.u.least c.args.offset)) (not-false c.args.u.paths c.if-not-u-2.false) ∙ ap (λ b. not b || leb c.args.u.least c.args.offset) (not-false c.args.u.listing c.if-not-u-3.false))
