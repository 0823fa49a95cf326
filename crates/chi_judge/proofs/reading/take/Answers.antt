use Rattle.std.proofs.Common.{◌+◌, ◌-◌, refl}
use Rattle.chi_judge.specs.declared.reader.Reader.{Reader}
use Rattle.chi_judge.proofs.Readings.{take_next, take_over}
use Rattle.chi_judge.proofs.reading.take.Goals as goal

pub returns-in-Next-clause-taken : goal.returns-in-Next-clause-taken
returns-in-Next-clause-taken c =
    let old = c.args.reader.now in
    let new : Reader = record { runner = c.plain_step.new.self; turn = old.turn + 1; left = old.left - c.in-Next.cost; picks = c.add_picks.new.picks } in
    take_next old new c.args.found.now c.args.out.now.items c.plain_step.new.out.items c.in-Next.cost c.plain_step.new.self.stage c.requires.placed c.in-Next.ensures.steps refl refl refl
    c.in_ok-add_picks.ensures

pub returns-in-Over-clause-taken : goal.returns-in-Over-clause-taken
returns-in-Over-clause-taken c =
    let old = c.args.reader.now in
    let new : Reader = record { runner = c.plain_step.new.self; turn = old.turn; left = old.left; picks = c.add_picks.new.picks } in
    take_over old new c.args.found.now c.args.out.now.items c.plain_step.new.out.items c.plain_step.new.self.stage c.requires.placed c.in-Over.ensures.steps refl c.in_ok-add_picks.ensures
