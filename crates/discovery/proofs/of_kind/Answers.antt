use Rattle.std.proofs.lemmas.Result.{err_from_is_err_and}
use Rattle.adapter.specs.Adapter.{adapter_site}
use Rattle.discovery.proofs.Answering.{told_host, told_disabled, told_enabled, told_unplanned}
use Rattle.discovery.proofs.of_kind.Goals as goal

pub returns-in-HostInterface : goal.returns-in-HostInterface
unfolding adapter_site
returns-in-HostInterface c = told_host _ _ _ _ _ _ c.in-HostInterface.is c.put_dma.ensures

pub returns-in_default-state : goal.returns-in_default-state
returns-in_default-state c = told_disabled _ _ _ _ c.in_default.not-HostInterface c.in_default-state.not-Enabled

pub returns-in_err-plan : goal.returns-in_err-plan
returns-in_err-plan c =
    let p = err_from_is_err_and c.from_residual.result c.from_residual.ensures.1 in
    rw (p.1, p.2) (told_unplanned _ _ _ _ c.in_default.not-HostInterface c.in-Enabled.is _ (rw c.in_err-plan.was at c.plan_of.ensures))

pub returns : goal.returns
returns c = told_enabled _ _ _ _ _ _ c.in_default.not-HostInterface c.in-Enabled.is _ (rw c.in_ok-plan.was at c.plan_of.ensures) c.put_one.ensures
