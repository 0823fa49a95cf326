use Rattle.std.proofs.Common.{List, ℕ, [], length, length-append, append-nil, arith, ap, sym, subst, ◌∙◌}
use Rattle.chi_trace.specs.Lines.{first_line}
use Rattle.chi_trace.specs.Logs.{ended}
use Rattle.chi_judge.specs.Reading.{IsJudgedSoFar}
use Rattle.chi_judge.proofs.judging.judge_text.Goals as goal

pub judge_lines-requires-clause-short : goal.judge_lines-requires-clause-short
judge_lines-requires-clause-short c =
    let whole = ap length c.in-Some.ensures ∙ length-append (ended first_line) _ in
    let within = c.requires.within in
    omega (arith, whole, within)

pub returns-in-Some : goal.returns-in-Some
returns-in-Some c =
    λ begin is begun.
    subst (λ (text : List ℕ). IsJudgedSoFar c.args.core.now begin c.args.bound text c.args.out.now.items c.judge_lines.new.out.items c.judge_lines.result) (sym c.in-Some.ensures)
    (c.judge_lines.ensures begin is begun)

pub returns-in-None : goal.returns-in-None
returns-in-None c = λ begin is begun. (([], sym (append-nil _)), c.reading_law.ensures.first_wrong _ begin _ _ (λ rest e. c.in-None.ensures rest e))
