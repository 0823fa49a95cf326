use Rattle.std.proofs.Common.{◌≡◌, ◌++◌, option_map, refl}
use Rattle.std.specs.Prelude.{Result}
use Rattle.chi_core.specs.Options.{Ending}
use Rattle.chi_io.specs.Counts.{Rose}
use Rattle.chi_io.specs.Sink.{Grew}
use Rattle.chi_machine_traces.specs.declared.passing.PassFault.{PassFault}
use Rattle.chi_engine.specs.Courses.{IsRunOf}
use Rattle.chi_engine.specs.Running.{RunsTo}
use Rattle.chi_engine.specs.Settings.{settings_by}
use Rattle.chi_engine.proofs.Passed.{terms_may_be_had, course_told, told_run, verdict_may, passed_all, passed_part, run_lost, runs_fault}
use Rattle.chi_engine.proofs.guided.run_guided.Goals as goal

pub pass_end-requires : goal.pass_end-requires
pass_end-requires g c = c.in_ok-ran.ensures.passes.0

pub returns-in-Ok-clause-comes : goal.returns-in-Ok-clause-comes
returns-in-Ok-clause-comes g c = λ core runs pick answers.
    let arguments = c.args.arguments.items in
    let terms = c.args.terms.now in
    let trace = option_map g.S.Sieve.keeps_to terms.trace in
    let s = settings_by pick trace arguments terms in
    let may = terms_may_be_had (g.C.Chooser.gives terms.policy) core c.args.code.now arguments terms pick trace runs c.requires.begins.bounded answers in
    let p = c.in_ok-ran.ensures.passes in
    let t = p.3 core runs pick answers in
    let ran = c.in_ok-ran.ran in
    passed_all (IsRunOf core s) core (λ lines. c.pass_end.new.log.items ≡ c.args.log.now.items ++ lines) (g.O.Sink.taken c.args.out.now) (g.O.Sink.taken c.run_told.new.out) (g.O.Sink.taken c.pass_end.new.out)
    (g.O.Sink.faults c.args.out.now) (g.O.Sink.faults c.run_told.new.out) (g.O.Sink.faults c.pass_end.new.out) (g.O.Sink.stopped c.pass_end.new.out) c.in_ok-ran.ensures.count (course_told p.1 ran)
    (told_run core s p.1 ran t) p.1 ran.told.out.items refl p.2 ran.ending refl
    (verdict_may c.picked_law.ensures.derived c.endings_law.ensures.told core runs.sound s may p.1 ran t) c.in-Ok.ensures.logged c.in-Ok.ensures.passes.0 c.in-Ok.ensures.passes.1

pub returns-in-Err-clause-comes : goal.returns-in-Err-clause-comes
returns-in-Err-clause-comes g c = λ core runs pick answers.
    let arguments = c.args.arguments.items in
    let terms = c.args.terms.now in
    let trace = option_map g.S.Sieve.keeps_to terms.trace in
    let s = settings_by pick trace arguments terms in
    let p = c.in_ok-ran.ensures.passes in
    let t = p.3 core runs pick answers in
    let ran = c.in_ok-ran.ran in
    passed_part (IsRunOf core s) core (λ lines. c.pass_end.new.log.items ≡ c.args.log.now.items ++ lines) (g.O.Sink.taken c.args.out.now) (g.O.Sink.taken c.run_told.new.out) (g.O.Sink.taken c.pass_end.new.out)
    (g.O.Sink.faults c.args.out.now) (g.O.Sink.faults c.run_told.new.out) (g.O.Sink.faults c.pass_end.new.out) (g.O.Sink.stopped c.pass_end.new.out) c.in_ok-ran.ensures.count (course_told p.1 ran)
    (told_run core s p.1 ran t) p.1 ran.told.out.items refl p.2 c.in-Err.fault c.in-Err.ensures.passes

pub returns-in_err-ran-clause-comes : goal.returns-in_err-ran-clause-comes
returns-in_err-ran-clause-comes g c = λ core runs pick answers.
    let arguments = c.args.arguments.items in
    let terms = c.args.terms.now in
    let trace = option_map g.S.Sieve.keeps_to terms.trace in
    let took = Grew (g.O.Sink.taken c.args.out.now) (g.O.Sink.taken c.run_told.new.out) in
    let rose = Rose (g.O.Sink.faults c.args.out.now) (g.O.Sink.faults c.run_told.new.out) in
    let stopped = g.O.Sink.stopped c.run_told.new.out in
    let at : Result Ending PassFault → Type 0 = RunsTo (IsRunOf core (settings_by pick trace arguments terms)) core took (λ lines. c.args.log.now.items ≡ c.args.log.now.items ++ lines) rose stopped in
    runs_fault at c.from_residual.result c.in_err-ran.field-0.0 c.from_residual.ensures.1
    (run_lost c.course_law.ensures.some (g.C.Chooser.gives terms.policy) core c.args.code.now arguments terms pick trace runs c.requires.begins.bounded answers took
    (λ lines. c.args.log.now.items ≡ c.args.log.now.items ++ lines) rose stopped c.in_err-ran.field-0.0 c.in_err-ran.ensures.passes)
