use Rattle.chi_explain_runs.proofs.Turns.{if_ok, rest_told}
use Rattle.chi_explain_runs.proofs.run.rest_of.Goals as goal

pub returns : goal.returns
returns g c =
    if_ok c.told_in.result (λ text e. rest_told (g.P.Chooser.gives c.args.policy.now) _ _ _ _ _ c.run_on.new.runner.stage
    c.run_on.new.notes.lines.items c.run_on.new.notes.counts.items c.in_ok-spent.spent _ c.requires.same_core c.in_ok-spent.ensures.ran e)
    c.told_in.ensures
