use Rattle.std.proofs.Common.{refl, sym, ◌∙◌}
use Rattle.chi_machine_agenda.specs.Phases.{Running}
use Rattle.chi_machine.proofs.Answers.{ok_so, vec_within}
use Rattle.chi_machine.proofs.Crowded.{within}
use Rattle.chi_machine.proofs.Placed.{has_room, finished_kept, finished_becomes, finished_others}
use Rattle.chi_machine.proofs.crowd.Crowd.finish.Goals as goal

pub index_mut-instance-requires : goal.index_mut-instance-requires
index_mut-instance-requires c = vec_within c.args.self.now.instances c.args.p (within c.args.self.now c.requires.kept c.args.p Running c.requires.runs)

pub unreachable-requires : goal.unreachable-requires
unreachable-requires c =
    has_room c.args.self.now c.requires.kept c.args.p c.requires.runs c.index_mut-instance.result.now c.index_mut-instance.ensures.value (sym c.take.ensures.value ∙ c.in-None.is)

pub returns-clause-kept : goal.returns-clause-kept
returns-clause-kept c =
    ok_so c.spared.result (finished_kept c.args.self.now c.requires.kept c.args.p c.requires.runs c.index_mut-instance.result.now c.index_mut-instance.ensures.value _ _ c.take.ensures.after refl c.in_ok-finish.ensures.ok)

pub returns-clause-finished : goal.returns-clause-finished
returns-clause-finished c =
    ok_so c.spared.result (finished_becomes c.args.self.now c.requires.kept c.args.p c.requires.runs c.index_mut-instance.result.now c.index_mut-instance.ensures.value _ _ c.take.ensures.after refl c.in_ok-finish.ensures.ok)

pub returns-clause-others : goal.returns-clause-others
returns-clause-others c =
    ok_so c.spared.result (finished_others c.args.self.now c.requires.kept c.args.p c.requires.runs c.index_mut-instance.result.now c.index_mut-instance.ensures.value _ _ c.take.ensures.after refl c.in_ok-finish.ensures.ok)
