use Rattle.std.proofs.Common.{refl, ap, ◌∙◌}
use Rattle.chi_machine_agenda.specs.Phases.{Running}
use Rattle.chi_machine.specs.Ends.{held_so}
use Rattle.chi_machine.proofs.Answers.{on_ok, vec_within}
use Rattle.chi_machine.proofs.Crowded.{within}
use Rattle.chi_machine.proofs.Placed.{moved_kept, moved_becomes, moved_others, ended_becomes, ended_others}
use Rattle.chi_machine.proofs.crowd.Crowd.rest_at.Goals as goal

pub index_mut-instance-requires : goal.index_mut-instance-requires
index_mut-instance-requires c = vec_within c.args.self.now.instances c.args.p (within c.args.self.now c.requires.kept c.args.p Running c.requires.runs)

pub finish-requires-clause-kept : goal.finish-requires-clause-kept
finish-requires-clause-kept c =
    moved_kept c.args.self.now c.requires.kept c.args.p c.requires.runs c.index_mut-instance.result.now c.index_mut-instance.ensures.value _ c.args.at refl refl

pub returns-then-ends_at-clause-rests : goal.returns-then-ends_at-clause-rests
returns-then-ends_at-clause-rests c =
    on_ok c.finish.result c.finish.ensures.finished (λ f.
    ended_becomes c.args.self.now c.requires.kept c.args.p c.requires.runs c.index_mut-instance.result.now c.index_mut-instance.ensures.value _ c.args.at refl refl _ c.args.code.now
    (λ definition frame. c.ends_at.ensures definition frame ∙ ap (λ b. held_so b definition frame c.args.at) c.if-ends_at.true) f)

pub returns-then-ends_at-clause-others : goal.returns-then-ends_at-clause-others
returns-then-ends_at-clause-others c =
    on_ok c.finish.result c.finish.ensures.others
    (ended_others c.args.self.now c.requires.kept c.args.p c.requires.runs c.index_mut-instance.result.now c.index_mut-instance.ensures.value _ c.args.at refl refl _)

pub returns-else-ends_at-clause-kept : goal.returns-else-ends_at-clause-kept
returns-else-ends_at-clause-kept c =
    moved_kept c.args.self.now c.requires.kept c.args.p c.requires.runs c.index_mut-instance.result.now c.index_mut-instance.ensures.value _ c.args.at refl refl

pub returns-else-ends_at-clause-rests : goal.returns-else-ends_at-clause-rests
returns-else-ends_at-clause-rests c =
    moved_becomes c.args.self.now c.requires.kept c.args.p c.requires.runs c.index_mut-instance.result.now c.index_mut-instance.ensures.value _ c.args.at refl refl c.args.code.now
    (λ definition frame. c.ends_at.ensures definition frame ∙ ap (λ b. held_so b definition frame c.args.at) c.if-ends_at.false)

pub returns-else-ends_at-clause-others : goal.returns-else-ends_at-clause-others
returns-else-ends_at-clause-others c =
    moved_others c.args.self.now c.requires.kept c.args.p c.requires.runs c.index_mut-instance.result.now c.index_mut-instance.ensures.value _ c.args.at refl refl
