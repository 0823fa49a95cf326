use Rattle.std.proofs.Common.{subst}
use Rattle.chi_engine.specs.Settings.{policy_of}
use Rattle.chi_xper.specs.Ends.{EndsAs}
use Rattle.chi_xper.specs.Experiments.{Told, experiment}
use Rattle.chi_xper_machines.specs.Runs.{outcomes_by}
use Rattle.chi_xper_machines.proofs.Closing.{closes_told, may_close}
use Rattle.chi_xper_machines.proofs.Telling.{runs_end_by}
use Rattle.chi_xper_machines.proofs.whole.tell_made.Goals as goal

pub line_for-line-requires : goal.line_for-line-requires
line_for-line-requires c =
    let core = c.args.core.now in
    let terms = c.args.terms in
    let told : Told = experiment core c.args.values.now terms.seed (outcomes_by core (policy_of terms.pick) terms.bound) terms.bound in
    may_close core told c.new-out.result.items c.make-end.new.out.items c.make-end.result c.make-end.ensures
    (runs_end_by c.picked_law.ensures.always c.ending_run_law.ensures.without_value c.verdict_law.ensures.told core c.requires.sound terms.pick terms.bound c.requires.bound c.args.values.now
    c.requires.constants terms.seed)

pub returns : goal.returns
returns c =
    let core = c.args.core.now in
    let terms = c.args.terms in
    let told : Told = experiment core c.args.values.now terms.seed (outcomes_by core (policy_of terms.pick) terms.bound) terms.bound in
    closes_told core told c.make-end.result _ c.requires.some
    (runs_end_by c.picked_law.ensures.always c.ending_run_law.ensures.without_value c.verdict_law.ensures.told core c.requires.sound terms.pick terms.bound c.requires.bound c.args.values.now
    c.requires.constants terms.seed)
    (subst (λ before. EndsAs told before c.make-end.new.out.items c.make-end.result) c.new-out.ensures.items c.make-end.ensures) c.in_ok-log.ensures.ended c.word_for-ended.ensures
    c.in_ok-log.ensures.line
