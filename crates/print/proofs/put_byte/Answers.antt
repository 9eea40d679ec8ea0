use mathlib.Core.Path.{◌≡◌, sym, ◌∙◌}
use native.Mathlib.Omega.{arith}
use lib.ListN.{set}
use lib.Seq.{set_out}
use Rattle.print.proofs.Laws.{byte_in, byte_at_most}
use Rattle.print.proofs.put_byte.Goals as goal
use Rattle.print.proofs.put_byte.Goals.{then-at-out, else-at-out}

-- where there is no room a store changes nothing
pub returns-then-at-lt18446744073709551615 : goal.returns-then-at-lt18446744073709551615
returns-then-at-lt18446744073709551615 c =
    let stored : c.if-at-out.out ≡ set c.args.out.now c.args.at c.args.b = elim c.if-at-out.branch [ then-at-out w ↦ w.out-is | else-at-out w ↦ w.out-is ∙ sym (set_out _ _ _ w.if-at-out.false) ] in
    rw stored (byte_in _ _ _ c.if-at-lt18446744073709551615.true)

pub returns : goal.returns
returns c =
    let stored : c.if-at-out.out ≡ set c.args.out.now c.args.at c.args.b = elim c.if-at-out.branch [ then-at-out w ↦ w.out-is | else-at-out w ↦ w.out-is ∙ sym (set_out _ _ _ w.if-at-out.false) ] in
    rw stored (byte_at_most _ _ _ (omega arith))
