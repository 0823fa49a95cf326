use Rattle.std.proofs.Common.{◌∙◌, ap}
use Rattle.chi_tool.specs.Explaining.{text_alone}
use Rattle.chi_tool.proofs.explain.refusal_told.Goals as goal

pub returns : goal.returns
returns c = (c.in_ok-text.text.items, c.in_ok-text.ensures, c.alone.ensures ∙ ap (λ s. text_alone s c.in_ok-text.text.items) c.status_of_refusal-status.ensures)
