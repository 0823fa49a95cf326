use Rattle.std.proofs.Common.{◌≡◌, ℤ, w64, FitsSigned, rules, subst}
use Rattle.std.proofs.lemmas.Int.{to_z-of_z}
use Rattle.std.specs.Prelude.{◌↔◌, IfOk, IsTrue}
use Rattle.chi_core.specs.declared.program.Core.{Core}
use Rattle.chi_core.specs.declared.verdict.Verdict.TheVariants.{OutOfSteps}
use Rattle.chi_core.specs.VerdictLine.{verdict_line_of}
use Rattle.chi_judge.specs.declared.asking.Question.TheVariants.{Spent}
use Rattle.chi_judge.specs.Asking.{IsFirst}
use Rattle.chi_judge.proofs.Endings.{cut_all}
use Rattle.chi_judge.proofs.ending.cut_by.Goals as goal

pub returns-then-branch : goal.returns-then-branch
returns-then-branch c =
    let asked = c.in_ok-is_ending_line-in-None in
    let fits : FitsSigned w64 c.clock.result = search rules in
    let tells = subst (λ (clock : ℤ). IsTrue asked.field-0 ↔ (c.args.line.now ≡ verdict_line_of c.args.core.now.names.kinds OutOfSteps clock)) (to_z-of_z w64 c.clock.result fits) asked.ensures in
    let first = subst (λ (core : Core). IfOk c.first_label.result (IsFirst core c.args.runner.now.stage (Spent c.args.left))) c.requires c.first_label.ensures in
    cut_all c.args.core.now c.args.line.now c.args.left c.clock.result asked.field-0 tells c.first_label.result c.args.runner.now.stage c.in-None.ensures.verdict c.clock.ensures.time
    c.if-branch.true first
