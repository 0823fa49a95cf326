use Rattle.std.proofs.Common.{◌≡◌, ◌++◌, subst, sym}
use Rattle.chi_io.specs.Counts.{Rose}
use Rattle.chi_io.specs.Sink.{Grew}
use Rattle.chi_machine_traces.specs.Below.chi_machine.specs.Calls.{MayBegin}
use Rattle.chi_sched.specs.Policies.{Answers}
use Rattle.chi_engine.specs.Courses.{IsRunOf}
use Rattle.chi_engine.specs.Running.{RunsTo}
use Rattle.chi_engine.specs.Settings.{Settings}
use Rattle.chi_engine.proofs.Policies.{exchanged}
use Rattle.chi_engine.proofs.machines.run_by_policy.Goals as goal

pub run_guided-requires-clause-begins : goal.run_guided-requires-clause-begins
run_guided-requires-clause-begins g c = subst (λ terms. MayBegin c.args.code.now c.args.job.arguments.items terms.bound) (sym c.with-terms.ensures) c.requires.begins

pub returns-clause-comes : goal.returns-clause-comes
returns-clause-comes g c = λ core runs pick answers.
    let at : Settings → Type 0 = λ s.
    RunsTo (IsRunOf core s) core (Grew (g.O.Sink.taken c.args.out.now) (g.O.Sink.taken c.run_guided.new.out)) (λ lines. c.run_guided.new.log.items ≡ c.args.log.now.items ++ lines)
    (Rose (g.O.Sink.faults c.args.out.now) (g.O.Sink.faults c.run_guided.new.out)) (g.O.Sink.stopped c.run_guided.new.out) c.run_guided.result in
    exchanged at pick c.args.job.arguments.items c.args.job.terms c.args.policy c.with-terms.result c.with-terms.ensures
    (c.run_guided.ensures.comes core runs pick (subst (λ terms. Answers (g.C.Chooser.gives terms.policy) pick) (sym c.with-terms.ensures) answers))
