use borrow.Author.Tests.{eq-eqb, ne_eqb, not-true, not-false}
use mathlib.Core.Path.{refl, sym, ◌∙◌, ap}
use mathlib.Core.Bool.{true, false, not}
use Rattle.naming.proofs.Naming as naming
use Rattle.naming.proofs.is_candidate.Goals as goal

pub returns-then-w-ne1 : goal.returns-then-w-ne1
returns-then-w-ne1 c = let a = c.args in
    sym (naming.fit_parts a.t.now a.q a.i _ _ _ c.word_at-w.ensures refl refl false _ _ _ _ _ (ne_eqb _ _ c.if-w-ne1.true) refl refl refl refl refl)

pub returns-then-w-q : goal.returns-then-w-q
returns-then-w-q c = let a = c.args in
    sym (naming.fit_parts a.t.now a.q a.i _ _ _ c.word_at-w.ensures refl refl true false _ _ _ _ (eq-eqb _ _ c.if-w-ne1.false) (ne_eqb _ _ c.if-w-q.true) refl refl refl refl)

pub returns-then-w-q-2 : goal.returns-then-w-q-2
returns-then-w-q-2 c = let a = c.args in
    sym (naming.fit_parts a.t.now a.q a.i _ _ _ c.word_at-w.ensures refl refl true true false _ _ _ (eq-eqb _ _ c.if-w-ne1.false) (eq-eqb _ _ c.if-w-q.false) (ne_eqb _ _ c.if-w-q-2.true) refl refl refl)

pub returns-then-not-kind_fits : goal.returns-then-not-kind_fits
returns-then-not-kind_fits c = let a = c.args in
    sym (naming.fit_parts a.t.now a.q a.i _ _ _ c.word_at-w.ensures refl c.word_at.ensures true true true false _ _ (eq-eqb _ _ c.if-w-ne1.false) (eq-eqb _ _ c.if-w-q.false) (eq-eqb _ _ c.if-w-q-2.false) (sym c.kind_fits.ensures ∙ not-true _ (ap (λ b. not b) c.if-not-kind_fits.true)) refl refl)

pub returns-then-not-cap_fits : goal.returns-then-not-cap_fits
returns-then-not-cap_fits c = let a = c.args in
    sym (naming.fit_parts a.t.now a.q a.i _ _ _ c.word_at-w.ensures c.word_at-ids.ensures c.word_at.ensures true true true true false _ (eq-eqb _ _ c.if-w-ne1.false) (eq-eqb _ _ c.if-w-q.false) (eq-eqb _ _ c.if-w-q-2.false) (sym c.kind_fits.ensures ∙ not-false _ (ap (λ b. not b) c.if-not-kind_fits.false)) (sym c.cap_fits.ensures ∙ not-true _ (ap (λ b. not b) c.if-not-cap_fits.true)) refl)

pub returns : goal.returns
returns c = let a = c.args in
    sym (naming.fit_parts a.t.now a.q a.i _ _ _ c.word_at-w.ensures c.word_at-ids.ensures c.word_at.ensures true true true true true _ (eq-eqb _ _ c.if-w-ne1.false) (eq-eqb _ _ c.if-w-q.false) (eq-eqb _ _ c.if-w-q-2.false) (sym c.kind_fits.ensures ∙ not-false _ (ap (λ b. not b) c.if-not-kind_fits.false)) (sym c.cap_fits.ensures ∙ not-false _ (ap (λ b. not b) c.if-not-cap_fits.false)) (sym c.vs_fits.ensures))
