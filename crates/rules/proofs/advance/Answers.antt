use mathlib.Core.Path.{sym, ◌∙◌, ap}
use borrow.Author.Tests.{eq-eqb, ne_eqb, not-true, not-false}
use Rattle.survey.specs.Rules.{step_of, after_device, after_adapter, after_register}
use mathlib.Core.Bool.{not}
use Rattle.rules.proofs.advance.Goals as goal

pub returns-then-not-good_device : goal.returns-then-not-good_device
unfolding step_of
returns-then-not-good_device c = simp (eq-eqb _ _ c.if-kind-eq3.true, sym c.good_device.ensures ∙ not-true _ (ap (λ b. not b) c.if-not-good_device.true))

pub returns-then-kind-eq3 : goal.returns-then-kind-eq3
unfolding step_of after_device
returns-then-kind-eq3 c = simp (eq-eqb _ _ c.if-kind-eq3.true, sym c.good_device.ensures ∙ not-false _ (ap (λ b. not b) c.if-not-good_device.false))

pub returns-then-not-u : goal.returns-then-not-u
unfolding step_of
returns-then-not-u c = simp (ne_eqb _ _ c.if-kind-eq3.false, eq-eqb _ _ c.if-kind-eq4.true, not-true c.args.u.begun c.if-not-u.true)

pub returns-then-not-good_adapter : goal.returns-then-not-good_adapter
unfolding step_of
returns-then-not-good_adapter c = simp (ne_eqb _ _ c.if-kind-eq3.false, eq-eqb _ _ c.if-kind-eq4.true, not-false c.args.u.begun c.if-not-u.false, sym c.good_adapter.ensures ∙ not-true _ (ap (λ b. not b) c.if-not-good_adapter.true))

pub returns-then-kind-eq4 : goal.returns-then-kind-eq4
unfolding step_of after_adapter
returns-then-kind-eq4 c = simp (ne_eqb _ _ c.if-kind-eq3.false, eq-eqb _ _ c.if-kind-eq4.true, not-false c.args.u.begun c.if-not-u.false, sym c.good_adapter.ensures ∙ not-false _ (ap (λ b. not b) c.if-not-good_adapter.false))

pub returns-then-kind-ne5 : goal.returns-then-kind-ne5
unfolding step_of
returns-then-kind-ne5 c = simp (ne_eqb _ _ c.if-kind-eq3.false, ne_eqb _ _ c.if-kind-eq4.false, ne_eqb _ _ c.if-kind-ne5.true)

pub returns-then-not-good_register : goal.returns-then-not-good_register
unfolding step_of
returns-then-not-good_register c = simp (ne_eqb _ _ c.if-kind-eq3.false, ne_eqb _ _ c.if-kind-eq4.false, eq-eqb _ _ c.if-kind-ne5.false, sym c.good_register.ensures ∙ not-true _ (ap (λ b. not b) c.if-not-good_register.true))

pub returns-then-not-may_stand : goal.returns-then-not-may_stand
unfolding step_of
returns-then-not-may_stand c = simp (ne_eqb _ _ c.if-kind-eq3.false, ne_eqb _ _ c.if-kind-eq4.false, eq-eqb _ _ c.if-kind-ne5.false, sym c.good_register.ensures ∙ not-false _ (ap (λ b. not b) c.if-not-good_register.false), sym c.may_stand.ensures ∙ not-true _ (ap (λ b. not b) c.if-not-may_stand.true))

pub returns : goal.returns
unfolding step_of after_register
returns c = simp (ne_eqb _ _ c.if-kind-eq3.false, ne_eqb _ _ c.if-kind-eq4.false, eq-eqb _ _ c.if-kind-ne5.false, sym c.good_register.ensures ∙ not-false _ (ap (λ b. not b) c.if-not-good_register.false), sym c.may_stand.ensures ∙ not-false _ (ap (λ b. not b) c.if-not-may_stand.false))
