use Rattle.std.proofs.Common.{ℕ, List, ◌++◌, ap, ◌∙◌}
use Rattle.chi_explain.specs.Excerpts.{front_shown}
use Rattle.chi_explain_waiting.specs.Whereabouts.{trimmed}
use Rattle.chi_explain_waiting.proofs.whereabouts.put_line.Goals as goal

pub returns : goal.returns
returns c =
    c.in_ok-put_front.ensures
    ∙ ap (λ (t : List ℕ). c.args.out.now.items ++ front_shown t) (c.trimmed-text.ensures ∙ ap trimmed c.numbered_line.ensures)
