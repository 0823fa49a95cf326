use Rattle.chi_machine.specs.Views.{whole_of}
use Rattle.chi_machine.proofs.Answers.{if_ok}
use Rattle.chi_machine.proofs.Stepped.{step_may, step_took, none_took}
use Rattle.chi_machine.proofs.world.World.take.Goals as goal

pub returns-then-left-eq0-clause-taken : goal.returns-then-left-eq0-clause-taken
returns-then-left-eq0-clause-taken c = none_took c.args.code.now (whole_of c.args.self.now) c.args.label.now c.args.left c.args.self.now c.args.out.now.items c.if-left-eq0.true

pub local-requires-clause-may : goal.local-requires-clause-may
local-requires-clause-may c = step_may c.args.code.now (whole_of c.args.self.now) c.args.label.now _ c.args.left c.in-Local.is c.if-left-eq0.false c.requires.may

pub meet-requires-clause-may : goal.meet-requires-clause-may
meet-requires-clause-may c = step_may c.args.code.now (whole_of c.args.self.now) c.args.label.now _ c.args.left c.in-Pair.is c.if-left-eq0.false c.requires.may

pub wake-requires-clause-may : goal.wake-requires-clause-may
wake-requires-clause-may c = step_may c.args.code.now (whole_of c.args.self.now) c.args.label.now _ c.args.left c.in-Wake.is c.if-left-eq0.false c.requires.may

pub go_on-requires-clause-may : goal.go_on-requires-clause-may
go_on-requires-clause-may c = step_may c.args.code.now (whole_of c.args.self.now) c.args.label.now _ c.args.left c.in-Join.is c.if-left-eq0.false c.requires.may

pub advance-requires-clause-idle : goal.advance-requires-clause-idle
advance-requires-clause-idle c = c.requires.may.idle c.in-Advance.is

pub returns-in-Local-clause-taken : goal.returns-in-Local-clause-taken
returns-in-Local-clause-taken c =
    if_ok c.local.result c.local.ensures.taken
    (λ taken t. step_took c.args.code.now (whole_of c.args.self.now) c.args.label.now _ c.args.left c.in-Local.is c.if-left-eq0.false c.args.out.now.items c.local.new.out.items taken c.local.new.self t)
