use Rattle.std.proofs.Common.{◌∙◌, ap, sym, subst, rules}
use Rattle.chi_core.specs.declared.statement.CStat.{out-CStat}
use Rattle.chi_core.specs.Answer.{Answer, giving}
use Rattle.chi_core_frame.specs.Stops.{Stops}
use Rattle.chi_plain_eval.specs.Surroundings.{value_in}
use Rattle.chi_plain_steps.specs.Plans.{Plan, Waits, Runs, Starts, planned}
use Rattle.chi_plain_open.proofs.Going.{giving_stops}
use Rattle.chi_plain_steps.proofs.Planned.{planned_select, planned_run_by, planned_start_by}
use Rattle.chi_plain_steps.proofs.planning.plan.Goals as goal

pub returns-in_err-changed-in-Select-clause-stops : goal.returns-in_err-changed-in-Select-clause-stops
returns-in_err-changed-in-Select-clause-stops c =
    let P : Answer Plan → Type 0 = Stops c.in_err-changed-in-Select.field-0.0 in
    let stops : P (planned c.args.core.now (value_in c.args.scene.now) c.args.scene.now.clock c.args.variables.now (out-CStat c.args.statement.now) c.args.view.now)
    = subst P (sym (planned_select c.args.core.now (value_in c.args.scene.now) c.args.scene.now.clock c.args.variables.now c.args.view.now c.args.statement.now _ _ _ c.in-Select.is c.as_slice-in-Select.ensures.same))
    (giving_stops _ _ Waits c.in_err-changed-in-Select.ensures.stops) in
    search (rules, stops)

pub returns-in_ok-changed-in-Select-clause-deed : goal.returns-in_ok-changed-in-Select-clause-deed
returns-in_ok-changed-in-Select-clause-deed c =
    planned_select c.args.core.now (value_in c.args.scene.now) c.args.scene.now.clock c.args.variables.now c.args.view.now c.args.statement.now _ _ _ c.in-Select.is c.as_slice-in-Select.ensures.same
    ∙ ap (giving Waits) c.in_ok-changed-in-Select.ensures.opened

pub returns-in_err-changed-in-Run-clause-stops : goal.returns-in_err-changed-in-Run-clause-stops
returns-in_err-changed-in-Run-clause-stops c =
    let P : Answer Plan → Type 0 = Stops c.in_err-changed-in-Run.field-0.0 in
    let stops : P (planned c.args.core.now (value_in c.args.scene.now) c.args.scene.now.clock c.args.variables.now (out-CStat c.args.statement.now) c.args.view.now)
    = subst P (sym (planned_run_by c.args.core.now (value_in c.args.scene.now) c.args.scene.now.clock c.args.variables.now c.args.view.now c.args.statement.now _ _ _ _ c.in-Run.is c.as_slice-in-Run.ensures.same c.as_slice-procs.ensures.same))
    (giving_stops _ _ Runs c.in_err-changed-in-Run.ensures.stops) in
    search (rules, stops)

pub returns-in_ok-changed-in-Run-clause-deed : goal.returns-in_ok-changed-in-Run-clause-deed
returns-in_ok-changed-in-Run-clause-deed c =
    planned_run_by c.args.core.now (value_in c.args.scene.now) c.args.scene.now.clock c.args.variables.now c.args.view.now c.args.statement.now _ _ _ _ c.in-Run.is c.as_slice-in-Run.ensures.same c.as_slice-procs.ensures.same
    ∙ ap (giving Runs) c.in_ok-changed-in-Run.ensures.started

pub returns-in_err-changed-in-Start-clause-stops : goal.returns-in_err-changed-in-Start-clause-stops
returns-in_err-changed-in-Start-clause-stops c =
    let P : Answer Plan → Type 0 = Stops c.in_err-changed-in-Start.field-0.0 in
    let stops : P (planned c.args.core.now (value_in c.args.scene.now) c.args.scene.now.clock c.args.variables.now (out-CStat c.args.statement.now) c.args.view.now)
    = subst P (sym (planned_start_by c.args.core.now (value_in c.args.scene.now) c.args.scene.now.clock c.args.variables.now c.args.view.now c.args.statement.now _ _ _ _ c.in-Start.is c.as_slice-in-Start.ensures.same c.as_slice-procs.ensures.same))
    (giving_stops _ _ Starts c.in_err-changed-in-Start.ensures.stops) in
    search (rules, stops)

pub returns-in_ok-changed-in-Start-clause-deed : goal.returns-in_ok-changed-in-Start-clause-deed
returns-in_ok-changed-in-Start-clause-deed c =
    planned_start_by c.args.core.now (value_in c.args.scene.now) c.args.scene.now.clock c.args.variables.now c.args.view.now c.args.statement.now _ _ _ _ c.in-Start.is c.as_slice-in-Start.ensures.same c.as_slice-procs.ensures.same
    ∙ ap (giving Starts) c.in_ok-changed-in-Start.ensures.started
