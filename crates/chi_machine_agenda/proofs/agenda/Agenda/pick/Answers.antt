use Rattle.std.proofs.Common.{◌<◌, length, ◌∙◌, arith}
use Rattle.chi_core.specs.Options.{actors, options}
use Rattle.chi_machine_agenda.specs.Reading.{config_of}
use Rattle.chi_machine_agenda.proofs.Endings.{no-list, actor-has, picks-none, picks-one}
use Rattle.chi_machine_agenda.proofs.agenda.Agenda.pick.Goals as goal

pub advance_label-requires : goal.advance_label-requires
advance_label-requires g c =
    let e = c.actor_count-actors.ensures in
    let z = c.if-actors-eq0.true in
    no-list (actors (config_of c.args.self.now)) (omega (arith, e, z))

pub returns-then-actors-eq0 : goal.returns-then-actors-eq0
returns-then-actors-eq0 g c pick answers =
    let e = c.actor_count-actors.ensures in
    let z = c.if-actors-eq0.true in
    c.advance_label.ensures
    ∙ picks-none (g.C.Chooser.gives c.args.chooser.now) (g.met.C.Chooser.one c.args.chooser.now) c.args.turn c.requires (config_of c.args.self.now)
    (no-list (actors (config_of c.args.self.now)) (omega (arith, e, z))) pick

pub choose-requires-2 : goal.choose-requires-2
choose-requires-2 g c =
    let some = actor-has (config_of c.args.self.now) _ _ c.actor_at-actor.ensures in
    let same = c.option_count-options.ensures in
    omega (arith, some, same)

pub returns : goal.returns
returns g c =
    let config = config_of c.args.self.now in
    let several = c.if-actors-eq0.false in
    let count = c.actor_count-actors.type_inv in
    let some : 0 < length (options config c.actor_at-actor.result) = actor-has config _ _ c.actor_at-actor.ensures in
    let same = c.option_count-options.ensures in
    picks-one (g.C.Chooser.gives c.args.chooser.now) (g.met.C.Chooser.one c.args.chooser.now) c.args.turn c.requires config
    c.actor_count-actors.result _ c.actor_at-actor.result c.option_count-options.result _ c.option_at.result
    c.actor_count-actors.ensures (omega (arith, several)) (omega (arith, count)) c.choose.ensures.given c.actor_at-actor.ensures
    c.option_count-options.ensures (omega (arith, some, same)) c.option_count-options.type_inv c.choose-2.ensures.given c.option_at.ensures
