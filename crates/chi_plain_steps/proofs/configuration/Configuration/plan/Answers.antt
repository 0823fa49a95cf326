use Rattle.std.proofs.Common.{◌∙◌, sym, subst, ap}
use Rattle.chi_core.specs.Answer.{Answer, Gives, giving}
use Rattle.chi_core.specs.Performing.{Change}
use Rattle.chi_core.specs.Variables.{Variables}
use Rattle.chi_core_frame.specs.Stops.{Stops}
use Rattle.chi_plain_open.specs.Instances.{rest_of}
use Rattle.chi_plain_steps.specs.Plans.{change_of, plan_of}
use Rattle.chi_plain_open.proofs.Going.{giving_stops, if_ok, if_err}
use Rattle.chi_plain_steps.proofs.Planned.{seen_own}
use Rattle.chi_plain_steps.proofs.configuration.Configuration.plan.Goals as goal

pub plan-deed-requires : goal.plan-deed-requires
plan-deed-requires c = λ e.
    c.requires.well (seen_own c.args.core.now c.args.self.now c.args.pid c.args.instance.now c.args.view.now c.scene-scene.result c.requires.at c.scene-scene.ensures.scene c.scene-scene.ensures.functions
    c.args.statement.now c.variables.result.now c.requires.own c.variables.ensures ∙ ap (giving (change_of c.args.core.now c.args.self.now c.args.pid (rest_of c.args.instance.now))) e)

pub returns-clause-deed : goal.returns-clause-deed
returns-clause-deed c =
    if_ok c.plan-deed.result c.plan-deed.ensures.deed (λ deed e.
    seen_own c.args.core.now c.args.self.now c.args.pid c.args.instance.now c.args.view.now c.scene-scene.result c.requires.at c.scene-scene.ensures.scene c.scene-scene.ensures.functions
    c.args.statement.now c.variables.result.now c.requires.own c.variables.ensures
    ∙ ap (giving (change_of c.args.core.now c.args.self.now c.args.pid (rest_of c.args.instance.now))) e
    ∙ ap (λ (vs : Variables). Gives (change_of c.args.core.now c.args.self.now c.args.pid (rest_of c.args.instance.now) (plan_of vs deed)) c.plan-deed.new.view) c.variables.ensures)

pub returns-clause-stops : goal.returns-clause-stops
returns-clause-stops c =
    if_err c.plan-deed.result c.plan-deed.ensures.stops (λ stop e.
    let P : Answer Change → Type 0 = Stops stop in
    subst P (sym (seen_own c.args.core.now c.args.self.now c.args.pid c.args.instance.now c.args.view.now c.scene-scene.result c.requires.at c.scene-scene.ensures.scene c.scene-scene.ensures.functions
    c.args.statement.now c.variables.result.now c.requires.own c.variables.ensures)) (giving_stops stop _ (change_of c.args.core.now c.args.self.now c.args.pid (rest_of c.args.instance.now)) e))
