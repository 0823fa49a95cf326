use Rattle.std.proofs.Common.{subst}
use Rattle.chi_plain.specs.declared.progress.Progress.{Progress}
use Rattle.chi_plain.specs.Stage.{Appends, Runner, Steps}
use Rattle.chi_plain.specs.Progressing.{stage_of}
use Rattle.chi_plain.proofs.plain.Plain.plain_step.Goals as goal

pub returns-clause-steps : goal.returns-clause-steps
returns-clause-steps c =
    let P : Runner → Type 0 = λ r. Appends c.args.out.now.items c.step-progress.new.out.items
    (λ text. Steps r.core r.stage (stage_of c.step-progress.result.0) c.args.label.now c.args.left text c.step-progress.result.1) in
    let Q : Progress → Type 0 = λ s. Appends c.args.out.now.items c.step-progress.new.out.items
    (λ text. Steps c.self.inside.core.now (stage_of s) (stage_of c.step-progress.result.0) c.args.label.now c.args.left text c.step-progress.result.1) in
    subst P c.self.view_is (subst Q c.replace-progress.ensures.value c.step-progress.ensures.steps)
