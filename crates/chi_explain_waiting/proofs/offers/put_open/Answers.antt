use Rattle.chi_explain_waiting.proofs.Writing.{open-told}
use Rattle.chi_explain_waiting.proofs.offers.put_open.Goals as goal

pub returns : goal.returns
returns c =
    open-told c.args.configuration.now c.args.pid c.args.offers.now c.first_offers-told.result.now c.saturating_sub-more.result c.args.out.now.items _ _
    c.in_ok-put_more.ensures c.in_ok-put_acts.ensures c.first_offers-told.ensures c.saturating_sub-more.ensures
