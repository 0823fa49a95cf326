use Rattle.std.proofs.Common.{ℕ, List, refl}
use Rattle.chi_machine_laws.specs.Instances as law
use Rattle.chi_machine_laws.specs.Instances.{Held}
use Rattle.chi_machine.specs.declared.instance.Instance.{Instance}
use Rattle.chi_machine.specs.Views.{frame_at, offers_at}
use Rattle.chi_machine.proofs.Answers.{if_and}
use Rattle.chi_machine.proofs.Rested.{still_runs, rested_so}
use Rattle.chi_machine.proofs.world.World.wait.Goals as goal

pub wait_at-requires-clause-runs : goal.wait_at-requires-clause-runs
wait_at-requires-clause-runs c = still_runs c.args.code.now c.args.self.now _ c.requires.kept c.args.p c.requires.runs _ c.in_ok-start.ensures.added c.in_ok-start.ensures.first c.in_ok-start.ensures.rest

pub returns-clause-rests : goal.returns-clause-rests
returns-clause-rests c =
    let F : ℕ → List ℕ → Instance → Held = λ at numbers i. record { definition = i.process; at = at; frame = frame_at i.room; standing = law.Waiting (offers_at i.room) } in
    if_and c.write.result c.write.ensures.taken c.write.ensures.text (λ taken took written.
    rested_so c.args.code.now c.args.self.now _ c.requires.kept c.args.p c.requires.runs _ c.in_ok-start.ensures.added c.in_ok-start.ensures.first c.in_ok-start.ensures.rest
    F _ c.in_ok-wait_at.ensures.kept refl c.in_ok-start.ensures.joins c.in_ok-start.ensures.text c.in_ok-wait_at.ensures.waits c.args.out.now.items c.write.new.out.items taken took written)
