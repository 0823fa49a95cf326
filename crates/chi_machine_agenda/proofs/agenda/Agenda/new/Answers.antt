use Rattle.std.proofs.Common.{List, pos, ap}
use Rattle.chi_machine_agenda.specs.declared.standing.Standing.{Standing}
use Rattle.chi_machine_agenda.specs.Kept.{phases_from}
use Rattle.chi_machine_agenda.proofs.More.{kept-none}
use Rattle.chi_machine_agenda.proofs.agenda.Agenda.new.Goals as goal

pub invariant_of-result : goal.invariant_of-result
invariant_of-result c =
    kept-none (pos 0) c.new.result.items c.new-2.result.items c.new-3.result c.new-4.result c.new-5.result c.new-6.result.numbers c.new-6.result.left.items c.new-6.result.watchers
    c.new.ensures.items c.new-2.ensures.items c.new-3.ensures c.new-4.ensures c.new-5.ensures c.new-6.ensures.numbers c.new-6.ensures.left

pub returns : goal.returns
returns c = ap (λ (ss : List Standing). record { clock = pos 0; until = c.args.until; phases = phases_from 0 ss c.new-3.result c.new-6.result.numbers }) c.new.ensures.items
