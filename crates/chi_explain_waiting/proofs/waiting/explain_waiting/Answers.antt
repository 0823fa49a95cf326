use Rattle.std.proofs.Common.{ℕ}
use Rattle.std.specs.Prelude.{codes}
use Rattle.std.specs.List.{slice_get}
use Rattle.chi_explain_waiting.specs.WaitingText.{instance_told, unfinished}
use Rattle.chi_explain_waiting.proofs.Writing.{all-told}
use Rattle.chi_explain_waiting.proofs.waiting.explain_waiting.Goals as goal

pub returns : goal.returns
returns c =
    let config = c.args.configuration.now in
    all-told (λ (p : ℕ). instance_told c.args.core.now c.args.source.now c.args.lines.now config p (slice_get config.instances p))
    (codes "more that haven't finished: ") (unfinished config) c.in_ok-pids.pids.items c.as_slice-all.result.now c.first_numbers-told.result.now
    c.saturating_sub-more.result c.in_ok-text.text.items c.put_more.new.out.items c.in_ok-put_more.ensures c.in_ok-text.ensures c.first_numbers-told.ensures
    c.saturating_sub-more.ensures c.as_slice-all.ensures.value c.in_ok-pids.ensures
