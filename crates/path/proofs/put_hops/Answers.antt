use Rattle.refusal.proofs.Laws.{ok_same, err_no_ok}
use mathlib.Core.Path.{sym}
use Rattle.std.specs.Prelude.{Ok}
use Prim.Native.Nat.{◌+◌, ◌*◌}
use mathlib.Core.Path.{refl, ap, ◌∙◌, subst}
use Rattle.path.specs.Work.{HopsPut}
use native.Mathlib.Omega.{arith}
use lib.ListN.{set, length-set}
use Rattle.path.proofs.Writing.{kept_start, kept_full, kept_missing, kept_on, kept_last}
use Rattle.path.proofs.put_hops.Goals as goal

pub loop-i-init : goal.loop-i-init
loop-i-init c = kept_start _ c.args.stand _ (omega arith) c.requires

pub shape_of-output-in_default : goal.shape_of-output-in_default
shape_of-output-in_default c = c.loop-i.invariant.long

pub returns-in_default : goal.returns-in_default
returns-in_default c = kept_missing _ _ _ _ _ _ _ _ c.loop-i.invariant c.loop-i-test.true _ c.find_entry.ensures c.in_default.is

pub bounds-output-i : goal.bounds-output-i
bounds-output-i c = omega (arith, c.loop-i.invariant.long, c.loop-i-test.true)

pub overflow_cast-output : goal.overflow_cast-output
overflow_cast-output c = omega (arith, c.loop-i.invariant.hop_id)

pub overflow_mul-output-in-loop-i : goal.overflow_mul-output-in-loop-i
overflow_mul-output-in-loop-i c = omega (arith, c.loop-i.invariant.hop_id)

pub overflow_add-output-in-loop-i : goal.overflow_add-output-in-loop-i
overflow_add-output-in-loop-i c = omega (arith, c.loop-i.invariant.hop_id)

pub bounds-output-i-in-loop-i : goal.bounds-output-i-in-loop-i
bounds-output-i-in-loop-i c = omega (arith, c.loop-i.invariant.long, c.loop-i-test.true, length-set c.loop-i.output (1 + 2 * c.loop-i.i) c.hop_word.result)

pub shape_of-output-in_default-leads : goal.shape_of-output-in_default-leads
shape_of-output-in_default-leads c = length-set (set c.loop-i.output (1 + 2 * c.loop-i.i) c.hop_word.result) (2 + 2 * c.loop-i.i) _ ∙ length-set c.loop-i.output (1 + 2 * c.loop-i.i) _ ∙ c.loop-i.invariant.long

pub shape_of-output-in_default-next : goal.shape_of-output-in_default-next
shape_of-output-in_default-next c = length-set (set c.loop-i.output (1 + 2 * c.loop-i.i) c.hop_word.result) (2 + 2 * c.loop-i.i) _ ∙ length-set c.loop-i.output (1 + 2 * c.loop-i.i) _ ∙ c.loop-i.invariant.long

pub returns-in_default-leads : goal.returns-in_default-leads
returns-in_default-leads c = kept_last _ _ _ _ _ _ _ _ c.loop-i.invariant c.loop-i-test.true _ c.find_entry.ensures _ _ _ _ c.in-Some.is c.hop_word.ensures refl _ c.leads.ensures (λ q b e. err_no_ok _ _ (sym c.in_default-leads.is ∙ e))

pub returns-in_default-next : goal.returns-in_default-next
returns-in_default-next c = kept_last _ _ _ _ _ _ _ _ c.loop-i.invariant c.loop-i-test.true _ c.find_entry.ensures _ _ _ _ c.in-Some.is c.hop_word.ensures refl _ c.leads.ensures (λ q b e. c.in_default-next.not-On q b (ok_same _ _ (sym c.in-Ok.is ∙ e)))

pub loop-i-preserved : goal.loop-i-preserved
loop-i-preserved c = kept_on _ _ _ _ _ _ _ _ c.loop-i.invariant c.loop-i-test.true _ c.find_entry.ensures _ _ _ _ c.in-Some.is c.hop_word.ensures refl _ c.leads.ensures _ _ (omega arith) (c.in-Ok.is ∙ ap Ok c.in-On.is)

pub shape_of-output : goal.shape_of-output
shape_of-output c = c.loop-i.invariant.long

pub returns : goal.returns
returns c = subst (λ n. HopsPut c.args.tables.now c.args.stand c.args.output.now n c.loop-i.output) (omega (arith, c.loop-i.auto.i-end, c.loop-i-test.false)) (kept_full _ _ _ _ _ _ _ _ c.loop-i.invariant c.loop-i-test.false)
