use Rattle.std.proofs.Common.{◌≡◌, length, rules, arith, sym, subst}
use Rattle.std.proofs.lemmas.Grind.{common_steps}
use Rattle.chi_machine.proofs.Added.{Adding, adding_first, adding_room, adding_more, adding_becomes}
use Rattle.chi_machine.proofs.crowd.Crowd.add_all.Goals as goal

pub loop-new-init : goal.loop-new-init
loop-new-init c =
    let e : c.into_iter-new-iterator.result.rest.items ≡ c.args.made.items = search rules in
    subst (λ l. Adding c.args.code.now c.args.self.now c.args.self.now l c.args.made.items) (sym e) (adding_first c.args.code.now c.args.self.now c.args.made.items c.requires.kept c.requires.room)

pub add-requires-clause-kept : goal.add-requires-clause-kept
add-requires-clause-kept c = c.loop-new.invariant.kept

pub add-requires-clause-room : goal.add-requires-clause-room
add-requires-clause-room c = adding_room c.args.code.now c.args.self.now c.args.made.items c.loop-new.self c.loop-new.new-iterator.rest.items c.loop-new.invariant c.in-Some.new _ c.in-Some.ensures.steps.0

pub loop-new-preserved : goal.loop-new-preserved
loop-new-preserved c =
    adding_more c.args.code.now c.args.self.now c.args.made.items c.loop-new.self c.loop-new.new-iterator.rest.items c.loop-new.invariant c.add.new.self c.in-Some.new _ c.in-Some.ensures.steps.0
    c.in_ok-add.ensures.kept c.in_ok-add.ensures.added c.in_ok-add.ensures.first

pub returns-clause-added : goal.returns-clause-added
returns-clause-added c =
    let steps = c.in-None.ensures.steps in
    let none : length c.loop-new.new-iterator.rest.items ≡ 0 = grind (arith, common_steps) in
    adding_becomes c.args.code.now c.args.self.now c.args.made.items c.loop-new.self c.loop-new.new-iterator.rest.items c.loop-new.invariant none
