use Rattle.std.proofs.Common.{◌∙◌, ap, subst, rules}
use Rattle.chi_core.specs.Answer.{Answer, through}
use Rattle.chi_core.specs.Starting.{Started, starts, all_started}
use Rattle.chi_core_frame.specs.Stops.{Stops}
use Rattle.chi_plain_eval.specs.Surroundings.{value_in}
use Rattle.chi_plain_open.specs.Drafts.{Made, started_of}
use Rattle.chi_plain_open.proofs.Through.{through_map}
use Rattle.chi_plain_open.proofs.elements.start_all.Goals as goal

pub returns-in_err-start_each-clause-stops : goal.returns-in_err-start_each-clause-stops
returns-in_err-start_each-clause-stops c =
    let P : Answer Started → Type 0 = Stops c.in_err-start_each.field-0.0 in
    let stops : P (all_started (value_in c.args.scene.now) c.args.procs.now c.args.variables.now c.args.elements.now c.args.view.now)
    = subst P (through_map (starts (value_in c.args.scene.now) c.args.procs.now) (λ starts. starts) c.args.elements.now _ c.args.view.now
    ∙ ap (λ (m : Made). through (starts (value_in c.args.scene.now) c.args.procs.now) c.args.elements.now (started_of m) c.args.view.now) c.new-starting.ensures)
    c.in_err-start_each.ensures.stops in
    search (rules, stops)
