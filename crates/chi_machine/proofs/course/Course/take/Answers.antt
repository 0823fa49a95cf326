use Rattle.std.proofs.Common.{◌+◌, ◌<◌, ◌^◌, rules, w64, FitsSigned, ◌∙◌, arith}
use Rattle.std.proofs.lemmas.Int.{to_z-of_z}
use Rattle.chi_machine.proofs.Turned.{turn_may, turn_counts, turn_on, turn_over, turn_cut}
use Rattle.chi_machine.proofs.course.Course.take.Goals as goal

pub take-requires-clause-kept : goal.take-requires-clause-kept
take-requires-clause-kept c = c.requires.course.kept

pub take-requires-clause-may : goal.take-requires-clause-may
take-requires-clause-may c = turn_may c.safe_law.ensures.safe c.args.code.now c.args.self.now c.requires.course c.args.label.now c.requires.picked

pub overflow_add-self : goal.overflow_add-self
overflow_add-self c =
    let h : c.args.self.now.turn + 1 < 2 ^ 64 = turn_counts c.safe_law.ensures.safe c.args.code.now c.args.self.now c.requires.course c.args.label.now c.requires.picked in
    grind arith

pub returns-in-On-clause-taken : goal.returns-in-On-clause-taken
returns-in-On-clause-taken c =
    turn_on c.safe_law.ensures.safe c.args.code.now c.args.self.now c.requires.course c.args.label.now c.requires.picked c.args.out.now.items c.take.new.out.items c.in_ok-rest.field-0 c.take.new.self
    c.in_ok-rest.ensures.taken c.in-On.rest c.in-On.is

pub returns-in-Over-clause-taken : goal.returns-in-Over-clause-taken
returns-in-Over-clause-taken c =
    let fits : FitsSigned w64 c.clock-clock.result = search rules in
    turn_over c.safe_law.ensures.safe c.args.code.now c.args.self.now c.requires.course c.args.label.now c.requires.picked c.args.out.now.items c.take.new.out.items c.in_ok-rest.field-0 c.take.new.self
    c.in_ok-rest.ensures.taken _ (to_z-of_z w64 c.clock-clock.result fits ∙ c.clock-clock.ensures) c.args.self.now c.of.result c.in-Over.verdict c.in-Over.is c.of.ensures

pub returns-in-Spent-clause-taken : goal.returns-in-Spent-clause-taken
returns-in-Spent-clause-taken c =
    let fits : FitsSigned w64 c.clock-clock.result = search rules in
    turn_cut c.safe_law.ensures.safe c.args.code.now c.args.self.now c.requires.course c.args.label.now c.requires.picked c.args.out.now.items c.take.new.out.items c.in_ok-rest.field-0 c.take.new.self
    c.in_ok-rest.ensures.taken _ (to_z-of_z w64 c.clock-clock.result fits ∙ c.clock-clock.ensures) c.args.self.now c.of-in-Spent.result c.in-Spent.is c.of-in-Spent.ensures
