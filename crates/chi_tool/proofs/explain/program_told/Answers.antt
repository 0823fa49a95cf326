use Rattle.std.proofs.Common.{◌≡◌, ℕ, List, Some, subst, sym, ◌∙◌, refl}
use Rattle.std.specs.Prelude.{[], IfOk, slice_get}
use Rattle.chi_core.specs.declared.program.ProcDef.{ProcDef}
use Rattle.chi_core.specs.Kinds.{kinds_of}
use Rattle.chi_core.specs.Of.{at_start, AreOf}
use Rattle.chi_value.specs.declared.value.Value.{Value}
use Rattle.chi_tool.specs.Call.{sink_use}
use Rattle.chi_tool.specs.Explaining.{IsProgramTold, misfit, ran, run_told}
use Rattle.chi_tool.specs.Readings.{AreFittedAs}
use Rattle.chi_tool.specs.Reported.{report_in}
use Rattle.chi_tool.specs.Running.{IsRestTold, end_told}
use Rattle.chi_tool.specs.Settings.{settings_with, wanted_of}
use Rattle.chi_tool.proofs.Made.{makes_apart, makes_fault, makes_lost, told_makes, runs_fault}
use Rattle.chi_tool.proofs.Rests.{rest_known, rest_of}
use Rattle.chi_tool.proofs.Runs.{if_ok}
use Rattle.chi_tool.proofs.explain.program_told.Goals as goal

pub misfit_told-requires : goal.misfit_told-requires
misfit_told-requires g c = subst (AreFittedAs c.args.core.now c.as_slice-texts.result.now) c.in-Unfit.is c.in_ok-misfit.ensures

pub run_by_engine-requires-clause-arguments : goal.run_by_engine-requires-clause-arguments
run_by_engine-requires-clause-arguments g c =
    let means = subst (AreFittedAs c.args.core.now c.as_slice-texts.result.now) c.in-Fit.is c.in_ok-misfit.ensures in means.1

pub course_told-requires-clause-arguments : goal.course_told-requires-clause-arguments
course_told-requires-clause-arguments g c =
    let means = subst (AreFittedAs c.args.core.now c.as_slice-texts.result.now) c.in-Fit.is c.in_ok-misfit.ensures in
    subst (λ (vs : List Value). (d : ProcDef) → slice_get c.args.core.now.procs c.args.core.now.model ≡ Some d → AreOf (at_start c.args.core.now.names.kinds) vs (kinds_of d.params))
    (sym (c.in_ok-again-in-Fit.ensures ∙ c.deref.ensures.value)) means.1

pub course_told-requires-clause-may : goal.course_told-requires-clause-may
course_told-requires-clause-may g c = c.in_ok-ran-in-Fit.ensures.1.1.may

pub returns-in-Unfit : goal.returns-in-Unfit
returns-in-Unfit g c =
    makes_apart g.O.Sink.taken g.O.Sink.faults g.O.Sink.stopped c.args.out.now c.requires.out_goes
    (IsProgramTold (g.E.Engine.outcome c.args.engine.now) c.args.source.now c.args.core.now (wanted_of c.args.asked.now)) c.misfit_told.result c.unpassed.result c.unpassed.ensures
    (if_ok c.misfit_told.result (λ r told. misfit c.in-Unfit.misfit.wanted c.in-Unfit.misfit.fault told) (rw (c.as_slice-texts.ensures.same) at c.misfit_told.ensures))

pub returns-in_ok-ran-in-Fit : goal.returns-in_ok-ran-in-Fit
returns-in_ok-ran-in-Fit g c =
    let means = rw (c.as_slice-texts.ensures.same) at (subst (AreFittedAs c.args.core.now c.as_slice-texts.result.now) c.in-Fit.is c.in_ok-misfit.ensures) in
    let runs = g.E.Engine.outcome c.args.engine.now in
    let core = c.args.core.now in
    let w = wanted_of c.args.asked.now in
    let rest = rest_of c.waiting_law.ensures.some core c.args.source.now c.requires.sound c.args.asked.now c.requires.bound c.in-Fit.arguments.items means.0 means.1 in
    told_makes runs core (settings_with w c.in-Fit.arguments.items) (sink_use g.O.Sink.taken g.O.Sink.faults g.O.Sink.stopped c.args.out.now c.run_by_engine.new.out)
    (λ lines. c.in_ok-ran-in-Fit.ran.log.items ≡ lines) (end_told c.args.source.now core rest.0) (IsProgramTold runs c.args.source.now core w) c.in_ok-ran-in-Fit.ran.ending c.in_ok-ran-in-Fit.ran.log.items (λ lines e. e) c.in_ok-ran-in-Fit.ensures.0
    c.in_ok-ran-in-Fit.ensures.1 (ran c.in-Fit.arguments.items means.0 c.in_ok-ran-in-Fit.ensures.1.1.course c.in_ok-ran-in-Fit.ensures.1.1.run rest.0 rest.1 refl) c.course_told.result c.unpassed-in-Fit.result
    c.unpassed-in-Fit.ensures
    (rest_known c.waiting_law.ensures.one core c.args.source.now (settings_with w c.in-Fit.arguments.items) rest.0 rest.1 c.in_ok-ran-in-Fit.ran.log.items c.in_ok-ran-in-Fit.ran.ending c.course_told.result
    (subst
    (λ (vs : List Value). IfOk c.course_told.result (λ r. (other : List ℕ) × IsRestTold core c.args.source.now (settings_with w vs) other
    × (report_in r ≡ run_told c.args.source.now core other (record { output = []; log = c.in_ok-ran-in-Fit.ran.log.items; ending = c.in_ok-ran-in-Fit.ran.ending }))))
    (c.in_ok-again-in-Fit.ensures ∙ c.deref.ensures.value) c.course_told.ensures))

pub returns-in_err-ran-in-Fit : goal.returns-in_err-ran-in-Fit
returns-in_err-ran-in-Fit g c =
    let means = rw (c.as_slice-texts.ensures.same) at (subst (AreFittedAs c.args.core.now c.as_slice-texts.result.now) c.in-Fit.is c.in_ok-misfit.ensures) in
    let runs = g.E.Engine.outcome c.args.engine.now in
    let core = c.args.core.now in
    let w = wanted_of c.args.asked.now in
    let out = sink_use g.O.Sink.taken g.O.Sink.faults g.O.Sink.stopped c.args.out.now c.run_by_engine.new.out in
    let rest = rest_of c.waiting_law.ensures.some core c.args.source.now c.requires.sound c.args.asked.now c.requires.bound c.in-Fit.arguments.items means.0 means.1 in
    makes_fault (IsProgramTold runs c.args.source.now core w) out c.from_residual-in_err-ran-in-Fit.result c.in_err-ran-in-Fit.field-0.0 c.from_residual-in_err-ran-in-Fit.ensures.1
    (runs_fault runs core (settings_with w c.in-Fit.arguments.items) out (end_told c.args.source.now core rest.0) (IsProgramTold runs c.args.source.now core w)
    (λ course run. ran c.in-Fit.arguments.items means.0 course run rest.0 rest.1 refl) c.in_err-ran-in-Fit.field-0.0 c.in_err-ran-in-Fit.ensures)

pub returns-in_err-again-in-Fit : goal.returns-in_err-again-in-Fit
returns-in_err-again-in-Fit g c =
    makes_lost g.O.Sink.taken g.O.Sink.faults g.O.Sink.stopped c.args.out.now c.requires.out_goes
    (IsProgramTold (g.E.Engine.outcome c.args.engine.now) c.args.source.now c.args.core.now (wanted_of c.args.asked.now)) c.from_residual-in_err-again-in-Fit.result c.from_residual-in_err-again-in-Fit.ensures.1

pub returns-in_err-misfit : goal.returns-in_err-misfit
returns-in_err-misfit g c =
    makes_lost g.O.Sink.taken g.O.Sink.faults g.O.Sink.stopped c.args.out.now c.requires.out_goes
    (IsProgramTold (g.E.Engine.outcome c.args.engine.now) c.args.source.now c.args.core.now (wanted_of c.args.asked.now)) c.from_residual.result c.from_residual.ensures.1
