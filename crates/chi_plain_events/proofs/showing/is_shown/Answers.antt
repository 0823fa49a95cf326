use Rattle.std.proofs.Common.{◌∙◌, ap}
use Rattle.chi_trace.specs.Filters.{admits}
use Rattle.chi_trace_events.proofs.Unmade.{shown_told}
use Rattle.chi_plain_events.proofs.showing.is_shown.Goals as goal

pub returns : goal.returns
returns c =
    λ core turn e is. c.admits.ensures.tells ∙ ap (admits c.args.filter.now c.args.label.now) c.channel_of.ensures
    ∙ shown_told core turn c.args.configuration.now c.args.label.now e c.args.filter.now is
