use Rattle.std.proofs.Common.{refl}
use Rattle.chi_machine.specs.Views.{whole_of}
use Rattle.chi_machine.proofs.Answers.{if_ok}
use Rattle.chi_machine.proofs.Locally.{may_run, pauses_few, pauses_took, waits_few, waits_took, joins_few, joins_are_there, joins_took, exits_took, faults_there, stops_took}
use Rattle.chi_machine.proofs.world.World.local.Goals as goal

pub run-requires-clause-may : goal.run-requires-clause-may
run-requires-clause-may c = may_run c.args.code.now (whole_of c.args.self.now) c.args.p c.args.left c.requires.may

pub unreachable-requires : goal.unreachable-requires
unreachable-requires c = c.in-Goes.ensures.ran.ran

pub pause-requires-clause-runs : goal.pause-requires-clause-runs
pause-requires-clause-runs c = c.in-Pauses.ensures.ran.runs

pub pause-requires-clause-room : goal.pause-requires-clause-room
pause-requires-clause-room c = pauses_few c.args.code.now (whole_of c.args.self.now) c.args.p c.args.left c.requires.may c.run.new.self c.in-Pauses.ensures.kept c.in-Pauses.ensures.ran

pub wait-requires-clause-runs : goal.wait-requires-clause-runs
wait-requires-clause-runs c = c.in-Waits.ensures.ran.runs

pub wait-requires-clause-room : goal.wait-requires-clause-room
wait-requires-clause-room c = waits_few c.args.code.now (whole_of c.args.self.now) c.args.p c.args.left c.requires.may c.run.new.self c.in-Waits.ensures.kept c.in-Waits.ensures.ran

pub join-requires-clause-runs : goal.join-requires-clause-runs
join-requires-clause-runs c = c.in-Joins.ensures.ran.runs

pub join-requires-clause-room : goal.join-requires-clause-room
join-requires-clause-room c = joins_few c.args.code.now (whole_of c.args.self.now) c.args.p c.args.left c.requires.may c.run.new.self c.in-Joins.ensures.kept c.in-Joins.ensures.ran

pub join-requires-clause-there : goal.join-requires-clause-there
join-requires-clause-there c = joins_are_there c.args.code.now (whole_of c.args.self.now) c.args.p c.args.left c.requires.may c.run.new.self c.in-Joins.ensures.kept c.in-Joins.ensures.ran

pub stopped-requires : goal.stopped-requires
stopped-requires c = faults_there c.args.code.now (whole_of c.args.self.now) c.args.p c.args.left c.requires.may c.run.new.self c.in-Stops.ensures.kept c.in-Stops.ensures.ran

pub returns-in-Pauses-clause-taken : goal.returns-in-Pauses-clause-taken
returns-in-Pauses-clause-taken c =
    if_ok c.pause.result c.pause.ensures.rests (λ taken f.
    pauses_took c.args.code.now (whole_of c.args.self.now) c.args.p c.args.left c.requires.may c.run.new.self c.in-Pauses.ensures.kept c.in-Pauses.ensures.ran c.pause.new.self c.args.out.now.items c.pause.new.out.items taken f)

pub returns-in-Waits-clause-taken : goal.returns-in-Waits-clause-taken
returns-in-Waits-clause-taken c =
    if_ok c.wait.result c.wait.ensures.rests (λ taken f.
    waits_took c.args.code.now (whole_of c.args.self.now) c.args.p c.args.left c.requires.may c.run.new.self c.in-Waits.ensures.kept c.in-Waits.ensures.ran c.wait.new.self c.args.out.now.items c.wait.new.out.items taken f)

pub returns-in-Joins-clause-taken : goal.returns-in-Joins-clause-taken
returns-in-Joins-clause-taken c =
    if_ok c.join.result c.join.ensures.rests (λ taken f.
    joins_took c.args.code.now (whole_of c.args.self.now) c.args.p c.args.left c.requires.may c.run.new.self c.in-Joins.ensures.kept c.in-Joins.ensures.ran c.join.new.self c.args.out.now.items c.join.new.out.items taken f)

pub returns-in-Exits-clause-taken : goal.returns-in-Exits-clause-taken
returns-in-Exits-clause-taken c =
    exits_took c.args.code.now (whole_of c.args.self.now) c.args.p c.args.left c.requires.may c.run.new.self c.in-Exits.ensures.kept c.in-Exits.ensures.ran c.run.new.self c.args.out.now.items c.take.result c.take.ensures.value

pub returns-in-Stops-clause-taken : goal.returns-in-Stops-clause-taken
returns-in-Stops-clause-taken c =
    if_ok c.stopped.result c.stopped.ensures (λ taken s.
    stops_took c.args.code.now (whole_of c.args.self.now) c.args.p c.args.left c.requires.may c.run.new.self c.in-Stops.ensures.kept c.in-Stops.ensures.ran c.run.new.self c.args.out.now.items
    c.run.new.self.exec.stop taken refl s)
