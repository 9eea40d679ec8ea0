use mathlib.Core.Path.{sym, ap, ◌∙◌}
use native.Mathlib.Omega.{arith}
use Rattle.layout.proofs.Laws.{byte_small}
use Rattle.fields.specs.Names.{lower}
use Rattle.fields.proofs.Names as names
use Rattle.fields.proofs.same_name.Goals as goal

pub returns-then-name-n : goal.returns-then-name-n
returns-then-name-n c = sym (names.other_length _ _ _ _ c.if-name-n.true)

pub loop-j-init : goal.loop-j-init
loop-j-init c = (c.if-name-n.false, names.left_all _ _ _ _)

pub lower_case-requires : goal.lower_case-requires
lower_case-requires c = rw c.byte_at.ensures (byte_small _ _ _)

pub returns-then-lower_case : goal.returns-then-lower_case
returns-then-lower_case c = let h = c.loop-j.invariant in let k = c.lower_case.ensures ∙ ap lower c.byte_at.ensures in
    sym (names.left_other _ _ _ _ _ h.1 (omega arith) (omega arith) (λ e. c.if-lower_case.true (k ∙ e ∙ sym c.lower_case-in-loop-j.ensures)))

pub loop-j-preserved : goal.loop-j-preserved
loop-j-preserved c = let h = c.loop-j.invariant in let k = c.lower_case.ensures ∙ ap lower c.byte_at.ensures in
    (h.0, names.left_more _ _ _ _ _ h.1 (omega arith) (omega arith) (sym k ∙ c.if-lower_case.false ∙ c.lower_case-in-loop-j.ensures))

pub returns : goal.returns
returns c = let h = c.loop-j.invariant in sym (names.left_none _ _ _ _ _ h.1 (omega arith) c.loop-j-test.false)
