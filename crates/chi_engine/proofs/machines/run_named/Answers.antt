use Rattle.std.proofs.Common.{◌≡◌, ◌++◌}
use Rattle.chi_cli.specs.declared.request.Pick.TheVariants.{First, Last, Spread}
use Rattle.chi_io.specs.Counts.{Rose}
use Rattle.chi_io.specs.Sink.{Grew}
use Rattle.chi_engine.proofs.Policies.{named_ran}
use Rattle.chi_engine.proofs.machines.run_named.Goals as goal

pub returns-in-First-clause-comes : goal.returns-in-First-clause-comes
returns-in-First-clause-comes g c = λ core runs.
    named_ran First c.args.job core (Grew (g.O.Sink.taken c.args.out.now) (g.O.Sink.taken c.run_by_policy.new.out)) (λ lines. c.run_by_policy.new.log.items ≡ c.args.log.now.items ++ lines) (Rose (g.O.Sink.faults c.args.out.now) (g.O.Sink.faults c.run_by_policy.new.out)) (g.O.Sink.stopped c.run_by_policy.new.out) c.run_by_policy.result
    c.in-First.is (c.run_by_policy.ensures.comes core runs)

pub returns-in-Last-clause-comes : goal.returns-in-Last-clause-comes
returns-in-Last-clause-comes g c = λ core runs.
    named_ran Last c.args.job core (Grew (g.O.Sink.taken c.args.out.now) (g.O.Sink.taken c.run_by_policy-in-Last.new.out)) (λ lines. c.run_by_policy-in-Last.new.log.items ≡ c.args.log.now.items ++ lines) (Rose (g.O.Sink.faults c.args.out.now) (g.O.Sink.faults c.run_by_policy-in-Last.new.out)) (g.O.Sink.stopped c.run_by_policy-in-Last.new.out) c.run_by_policy-in-Last.result
    c.in-Last.is (c.run_by_policy-in-Last.ensures.comes core runs)

pub returns-in-Spread-clause-comes : goal.returns-in-Spread-clause-comes
returns-in-Spread-clause-comes g c = λ core runs.
    named_ran (Spread c.in-Spread.salt) c.args.job core (Grew (g.O.Sink.taken c.args.out.now) (g.O.Sink.taken c.run_by_policy-in-Spread.new.out)) (λ lines. c.run_by_policy-in-Spread.new.log.items ≡ c.args.log.now.items ++ lines) (Rose (g.O.Sink.faults c.args.out.now) (g.O.Sink.faults c.run_by_policy-in-Spread.new.out)) (g.O.Sink.stopped c.run_by_policy-in-Spread.new.out) c.run_by_policy-in-Spread.result
    c.in-Spread.is (c.run_by_policy-in-Spread.ensures.comes core runs)
