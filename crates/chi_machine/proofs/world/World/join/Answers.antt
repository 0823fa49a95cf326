use Rattle.std.proofs.Common.{ℕ, List, refl, subst, ◌∙◌}
use Rattle.std.specs.Prelude.{slice_set}
use Rattle.chi_machine_laws.specs.Instances as law
use Rattle.chi_machine_laws.specs.Instances.{Held}
use Rattle.chi_machine.specs.declared.instance.Instance.{Instance}
use Rattle.chi_machine.specs.Crowds.{Becomes}
use Rattle.chi_machine.specs.Views.{frame_at, instances_of}
use Rattle.chi_machine.proofs.Answers.{if_and}
use Rattle.chi_machine.proofs.Rested.{still_runs, rested_so, joined_there}
use Rattle.chi_machine.proofs.world.World.join.Goals as goal

pub join_at-requires-clause-runs : goal.join_at-requires-clause-runs
join_at-requires-clause-runs c = still_runs c.args.code.now c.args.self.now _ c.requires.kept c.args.p c.requires.runs _ c.in_ok-start.ensures.added c.in_ok-start.ensures.first c.in_ok-start.ensures.rest

pub returns-clause-rests : goal.returns-clause-rests
returns-clause-rests c =
    let F : ℕ → List ℕ → Instance → Held = λ at numbers i. record { definition = i.process; at = at; frame = frame_at i.room; standing = law.Joining numbers } in
    if_and c.write.result c.write.ensures.taken c.write.ensures.text (λ taken took written.
    rested_so c.args.code.now c.args.self.now _ c.requires.kept c.args.p c.requires.runs _ c.in_ok-start.ensures.added c.in_ok-start.ensures.first c.in_ok-start.ensures.rest
    F _ c.in_ok-join_at.ensures.kept refl c.in_ok-start.ensures.joins c.in_ok-start.ensures.text (λ i at. subst (λ ns. Becomes c.start.new.self.crowd c.join_at.new.self (slice_set (instances_of c.start.new.self.crowd) c.args.p (F c.start.new.self.exec.at ns i))) c.as_slice.ensures.value
    (c.in_ok-join_at.ensures.joins i at)) c.args.out.now.items c.write.new.out.items taken took written)

pub join_at-requires-clause-there : goal.join_at-requires-clause-there
join_at-requires-clause-there c =
    joined_there c.args.code.now c.args.self.now.crowd c.start.new.self.crowd c.requires.kept.crowd c.in_ok-start.ensures.kept c.args.self.now.brought.made.items c.in_ok-start.ensures.added _ c.as_slice.result.now
    (c.as_slice.ensures.value ∙ c.in_ok-start.ensures.joins) c.requires.there
