use Rattle.chi_explain_waiting.proofs.Writing.{joining-told}
use Rattle.chi_explain_waiting.proofs.waiting.put_joining.Goals as goal

pub returns : goal.returns
returns c =
    joining-told c.args.configuration.now c.args.pid c.args.pids.now _ _ _ _ c.args.out.now.items _ c.in_ok-put_joins.ensures c.deref-2.ensures.value
    c.in_ok-left.ensures c.deref.ensures.value c.in_ok-some.ensures
