use Rattle.chi_xper.proofs.Tasks.{walk_bound, walk_goes}
use Rattle.chi_xper.proofs.term.Term.walk.Goals as goal

pub bind-requires : goal.bind-requires
bind-requires c =
    walk_bound c.args.variables.now c.args.self.now c.self.inside.tasks.items c.pop.new.self.items c.in-Some-Walk.line c.in-Some-Walk.slots
    c.in-Some-Walk.elements c.in-Some-Walk.block c.next.new.self c.in-Some.element c.self.view_is (rw c.in-Some-Walk.field-0-is at c.in-Some-Walk.ensures.items)
    (rw c.in-Some.is at c.in_ok-next-in-Some-Walk.ensures) c.requires

pub returns-in_ok-push_block-in-Some : goal.returns-in_ok-push_block-in-Some
returns-in_ok-push_block-in-Some c =
    walk_goes c.args.variables.now c.args.self.now c.self.inside.tasks.items c.pop.new.self.items c.in-Some-Walk.line c.in-Some-Walk.slots
    c.in-Some-Walk.elements c.in-Some-Walk.block c.next.new.self c.in-Some.element c.bind.new.self c.push.new.self.items c.push_block.new.tasks.items
    c.self.view_is (rw c.in-Some-Walk.field-0-is at c.in-Some-Walk.ensures.items) (rw c.in-Some.is at c.in_ok-next-in-Some-Walk.ensures) c.in_ok-bind-in-Some.ensures
    c.in_ok-push-in-Some.ensures.items c.in_ok-push_block-in-Some.ensures
