use Rattle.std.proofs.Common.{◌≡◌, ◌<◌, length, arith, sym, ◌∙◌}
use Rattle.chi_plain.specs.Stage.{options_at}
use Rattle.chi_explain_runs.proofs.Turns.{ChoiceLaw, has_option, may_option, may_advance, picks_advance, picks_counted}
use Rattle.chi_explain_runs.proofs.run.picked_label.Goals as goal

pub choose-requires-2 : goal.choose-requires-2
choose-requires-2 g c =
    let law : ChoiceLaw = record { option = c.choice_law.ensures.option; advance = c.choice_law.ensures.advance; may_come = c.choice_law.ensures.may_come; some = c.choice_law.ensures.some } in
    let some : 0 < length (options_at c.args.runner.now.stage c.actor_at-actor.result) = has_option law c.args.runner.now.stage _ _ c.actor_at-actor.ensures.actor in
    let same = c.option_count-options.ensures.count in
    omega arith

pub returns-clause-may : goal.returns-clause-may
returns-clause-may g c = may_option c.options_law.ensures.may_come _ _ _ _ c.requires.goes_on c.option_at.ensures.option

pub returns-clause-picks : goal.returns-clause-picks
returns-clause-picks g c =
    let law : ChoiceLaw = record { option = c.choice_law.ensures.option; advance = c.choice_law.ensures.advance; may_come = c.choice_law.ensures.may_come; some = c.choice_law.ensures.some } in
    let stage = c.args.runner.now.stage in
    let options : c.option_count-options.result ≡ length (options_at stage c.actor_at-actor.result) = c.option_count-options.ensures.count in
    let several = c.if-actors-eq0.false in
    let count = c.actor_count-actors.type_inv in
    let some : 0 < length (options_at stage c.actor_at-actor.result) = has_option law stage _ _ c.actor_at-actor.ensures.actor in
    picks_counted law (g.P.Chooser.gives c.args.policy.now) c.args.turn (g.met.P.Chooser.one c.args.policy.now) stage c.requires.goes_on c.requires.early
    c.actor_count-actors.result _ _ c.option_count-options.result _ c.option_at.result
    c.actor_count-actors.ensures.count (omega arith) (omega arith) c.choose.ensures.given c.actor_at-actor.ensures.actor
    options (omega arith) c.option_count-options.type_inv c.choose-2.ensures.given c.option_at.ensures.option

pub returns-then-actors-eq0-clause-picks : goal.returns-then-actors-eq0-clause-picks
returns-then-actors-eq0-clause-picks g c =
    let law : ChoiceLaw = record { option = c.choice_law.ensures.option; advance = c.choice_law.ensures.advance; may_come = c.choice_law.ensures.may_come; some = c.choice_law.ensures.some } in
    picks_advance law (g.P.Chooser.gives c.args.policy.now) c.args.turn c.args.runner.now.stage c.requires.goes_on (sym c.actor_count-actors.ensures.count ∙ c.if-actors-eq0.true)

pub returns-then-actors-eq0-clause-may : goal.returns-then-actors-eq0-clause-may
returns-then-actors-eq0-clause-may g c =
    let law : ChoiceLaw = record { option = c.choice_law.ensures.option; advance = c.choice_law.ensures.advance; may_come = c.choice_law.ensures.may_come; some = c.choice_law.ensures.some } in
    may_advance law c.args.runner.now.stage c.requires.goes_on (sym c.actor_count-actors.ensures.count ∙ c.if-actors-eq0.true)
