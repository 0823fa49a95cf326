use Rattle.std.proofs.Common.{ℕ, List, ◌++◌, ap, ◌∙◌}
use Rattle.chi_explain_runs.specs.Turns.{spent_in}
use Rattle.chi_explain_waiting.specs.WaitingText.{waiting_text}
use Rattle.chi_explain_runs.proofs.run.told_at.Goals as goal

pub returns : goal.returns
returns c =
    let config = c.args.configuration.now in
    c.in_ok-put_spent.ensures
    ∙ ap (λ (text : List ℕ). text ++ spent_in c.args.core.now config c.args.notes.now.counts.items c.args.spent)
    (c.in_ok-text.ensures ∙ ap (λ (lines : List ℕ). waiting_text c.args.core.now c.args.source.now lines config) c.deref.ensures.value)
