use Rattle.chi_explain_waiting.proofs.Writing.{left-told}
use Rattle.chi_explain_waiting.proofs.waiting.put_left.Goals as goal

pub returns : goal.returns
returns c =
    left-told c.args.configuration.now c.args.pid c.args.left.now c.first_numbers-told.result.now c.saturating_sub-more.result _ c.args.out.now.items _ _ _ _ _
    c.in_ok-put_ring.ensures c.in_ok-put_more.ensures c.in_ok-push.ensures.items c.in_ok-put_listed.ensures c.in_ok-extend_from_slice.ensures.items
    c.first_numbers-told.ensures c.saturating_sub-more.ensures c.in_ok-ring.ensures
