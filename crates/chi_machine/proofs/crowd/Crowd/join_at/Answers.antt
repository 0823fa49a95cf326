use Rattle.std.proofs.Common.{◌<◌, refl, sym, subst}
use Rattle.chi_machine_agenda.specs.Phases.{Running}
use Rattle.chi_machine.proofs.Answers.{on_ok, vec_within}
use Rattle.chi_machine.proofs.Crowded.{as_many, within}
use Rattle.chi_machine.proofs.Placed.{joins_kept, joins_becomes}
use Rattle.chi_machine.proofs.crowd.Crowd.join_at.Goals as goal

pub index_mut-instance-requires : goal.index_mut-instance-requires
index_mut-instance-requires c = vec_within c.args.self.now.instances c.args.p (within c.args.self.now c.requires.kept c.args.p Running c.requires.runs)

pub join-requires-clause-there : goal.join-requires-clause-there
join-requires-clause-there c = λ k q e. subst (λ n. q < n) (sym (as_many c.args.self.now c.requires.kept)) (c.requires.there k q e)

pub returns-clause-kept : goal.returns-clause-kept
returns-clause-kept c =
    on_ok c.join.result c.join.ensures.ok
    (joins_kept c.args.self.now c.requires.kept c.args.p c.requires.runs c.index_mut-instance.result.now c.index_mut-instance.ensures.value _ c.args.at refl c.args.numbers.now)

pub returns-clause-joins : goal.returns-clause-joins
returns-clause-joins c =
    on_ok c.join.result c.join.ensures.ok
    (joins_becomes c.args.self.now c.requires.kept c.args.p c.requires.runs c.index_mut-instance.result.now c.index_mut-instance.ensures.value _ c.args.at refl c.args.numbers.now)
