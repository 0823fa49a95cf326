use Rattle.chi_plain_costs.proofs.Labels.{spends_local}
use Rattle.chi_plain_costs.proofs.spending.spends.Goals as goal

pub returns-in-Local : goal.returns-in-Local
returns-in-Local c =
    spends_local c.args.core.now c.args.configuration.now c.args.label.now c.in-Local.pid c.args.left c.view-view.result c.local_spends.result c.in-Local.is c.if-left-eq0.false
    c.view-view.ensures c.local_spends.ensures
