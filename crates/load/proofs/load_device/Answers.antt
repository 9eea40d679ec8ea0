use Rattle.std.proofs.lemmas.Result.{err_from_is_err_and}
use Rattle.listing.specs.After.{device_at}
use Rattle.layout.specs.Description.{descriptions_of}
use lib.ListN.{length}
use native.Mathlib.Omega.{arith}
use mathlib.Core.Bool.{false}
use mathlib.Core.Path.{◌≡◌, ◌∙◌, ap}
use Rattle.adapter.specs.Adapter.{adapter_site}
use Rattle.load.specs.Loading.{itself, upstream_in, no_registers}
use Rattle.load.specs.Answers.{counts_of}
use Rattle.load.proofs.Joining.{room_device, registers_none, registers_some, registers_unread, same_usb4, device_told, device_few, device_unfit, device_put}
use Rattle.load.proofs.load_device.Goals as goal
use Rattle.load.proofs.load_device.Goals.{then-w-eq1+else-survey-next_register, else-w-eq1}

pub returns-then-survey-next_register-clause-rows : goal.returns-then-survey-next_register-clause-rows
unfolding counts_of itself adapter_site
returns-then-survey-next_register-clause-rows c = device_few _ _ _ _ _ (ap (λ n. n.devices) c.counts-place.ensures) (registers_none _ _ _ c.word_at-w.ensures c.if-w-eq1.true _ c.next_register.ensures c.if-survey-next_register.true) _

pub returns-in_err-fits_device-clause-rows : goal.returns-in_err-fits_device-clause-rows
unfolding counts_of
returns-in_err-fits_device-clause-rows c = let e = c.word_at-w.ensures in
    let some : no_registers (device_at c.args.survey.now c.args.at) ≡ false = elim c.if-w-eq1.branch [ then-w-eq1+else-survey-next_register w ↦ registers_some _ _ _ e w.if-w-eq1.true _ w.next_register.ensures w.if-survey-next_register.false | else-w-eq1 w ↦ registers_unread _ _ _ e w.if-w-eq1.false ] in
    let p = err_from_is_err_and c.from_residual.result c.from_residual.ensures.1 in
    rw (p.1, p.2) (device_unfit _ _ _ _ _ (ap (λ n. n.devices) c.counts-place.ensures) some _ _ c.fits_device.ensures c.router_cs_1-cs1.ensures.answer _ c.in_err-fits_device.was _)

pub load_adapters-requires : goal.load_adapters-requires
unfolding counts_of
load_adapters-requires c = let r = c.requires.0 in
    let n : c.counts-place.result.devices ≡ length c.args.rows.now.devices = ap (λ n. n.devices) c.counts-place.ensures in
    (room_device _ _ _ r c.requires.1 _ _ c.put_device.ensures, omega (arith, n, r.devices, r.short, c.requires.1))

pub returns-clause-rows : goal.returns-clause-rows
unfolding counts_of
returns-clause-rows c = let e = c.word_at-w.ensures in
    let some : no_registers (device_at c.args.survey.now c.args.at) ≡ false = elim c.if-w-eq1.branch [ then-w-eq1+else-survey-next_register w ↦ registers_some _ _ _ e w.if-w-eq1.true _ w.next_register.ensures w.if-survey-next_register.false | else-w-eq1 w ↦ registers_unread _ _ _ e w.if-w-eq1.false ] in
    let row = device_told _ _ _ e (descriptions_of c.args.descriptions.now) c.counts-place.result.devices _ _ _ _ _ c.from.ensures c.word_at.ensures c.word_at-low.ensures c.word_at-high.ensures (c.upstream_of.ensures c.counts-place.result.devices ∙ ap (λ n. upstream_in c.counts-place.result.devices n) c.router_cs_1-cs1.ensures.answer) in
    device_put _ _ _ _ _ (ap (λ n. n.devices) c.counts-place.ensures) some _ _ c.fits_device.ensures c.router_cs_1-cs1.ensures.answer _ c.in_ok-fits_device.was _ _ c.put_device.ensures row _ (same_usb4 _ _ _ e) _ c.load_adapters.ensures.rows
