use Rattle.std.proofs.Common.{sym, ◌∙◌, arith}
use Rattle.chi_core.specs.Options.{actors}
use Rattle.chi_machine_agenda.specs.Reading.{config_of}
use Rattle.chi_machine_agenda.proofs.Endings.{no-list, ends-acts, ends-advances, ends-rests}
use Rattle.chi_machine_agenda.proofs.agenda.Agenda.ending.Goals as goal

pub returns-then-actor_count-gt0 : goal.returns-then-actor_count-gt0
returns-then-actor_count-gt0 c =
    let e = c.actor_count.ensures in
    let h = c.if-actor_count-gt0.true in
    ends-acts (config_of c.args.self.now) (omega (arith, e, h))

pub returns-in-Some : goal.returns-in-Some
returns-in-Some c =
    let e = c.actor_count.ensures in
    let h = c.if-actor_count-gt0.false in
    ends-advances (config_of c.args.self.now) _ (no-list (actors (config_of c.args.self.now)) (omega (arith, e, h))) (sym c.in-Some.is ∙ c.advance_label.ensures)

pub returns-in-None : goal.returns-in-None
returns-in-None c =
    let e = c.actor_count.ensures in
    let h = c.if-actor_count-gt0.false in
    ends-rests (config_of c.args.self.now) c.at_rest.result (no-list (actors (config_of c.args.self.now)) (omega (arith, e, h))) (sym c.in-None.is ∙ c.advance_label.ensures) c.at_rest.ensures
