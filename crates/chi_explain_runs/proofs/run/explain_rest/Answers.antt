use Rattle.std.proofs.Common.{ℤ, Option, subst}
use Rattle.chi_core.specs.Beginning.{start}
use Rattle.chi_explain_runs.specs.Waits.{IsWaitingTold}
use Rattle.chi_explain_runs.proofs.Turns.{if_ok}
use Rattle.chi_explain_runs.proofs.run.explain_rest.Goals as goal

pub returns : goal.returns
returns g c =
    let core = c.args.core.now in
    let terms = c.args.terms.now in
    if_ok c.rest_of-text.result
    (λ text told pick answers.
    subst (λ (until : Option ℤ). IsWaitingTold core c.args.source.now (start core c.args.arguments.items terms.seed until) pick terms.bound text.items) c.units_of_until-until.ensures
    (told _ c.in_ok-runner.ensures.start pick answers))
    c.rest_of-text.ensures
