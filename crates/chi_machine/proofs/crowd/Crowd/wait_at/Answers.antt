use Rattle.std.proofs.Common.{refl}
use Rattle.chi_machine_agenda.specs.Phases.{Running}
use Rattle.chi_machine.proofs.Answers.{on_ok, vec_within}
use Rattle.chi_machine.proofs.Crowded.{within}
use Rattle.chi_machine.proofs.Placed.{has_room, waits_kept, waits_becomes}
use Rattle.chi_machine.proofs.crowd.Crowd.wait_at.Goals as goal

pub index_mut-instance-requires : goal.index_mut-instance-requires
index_mut-instance-requires c = vec_within c.args.self.now.instances c.args.p (within c.args.self.now c.requires.kept c.args.p Running c.requires.runs)

pub unreachable-requires : goal.unreachable-requires
unreachable-requires c =
    has_room c.args.self.now c.requires.kept c.args.p c.requires.runs c.index_mut-instance.result.now c.index_mut-instance.ensures.value c.in-None.is

pub returns-clause-kept : goal.returns-clause-kept
returns-clause-kept c =
    on_ok c.wait.result c.wait.ensures.ok
    (waits_kept c.args.self.now c.requires.kept c.args.p c.requires.runs c.index_mut-instance.result.now c.index_mut-instance.ensures.value _ c.args.at refl c.in-Some.room c.in-Some.is
    c.offers.result.now c.offers.ensures.offers)

pub returns-clause-waits : goal.returns-clause-waits
returns-clause-waits c =
    on_ok c.wait.result c.wait.ensures.ok
    (waits_becomes c.args.self.now c.requires.kept c.args.p c.requires.runs c.index_mut-instance.result.now c.index_mut-instance.ensures.value _ c.args.at refl c.in-Some.room c.in-Some.is
    c.offers.result.now c.offers.ensures.offers)
