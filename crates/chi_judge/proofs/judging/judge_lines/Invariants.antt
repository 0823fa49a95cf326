use Rattle.std.proofs.Common.{length}
use Rattle.chi_judge.specs.Reading.{Keeps}
use Rattle.chi_judge.proofs.judging.judge_lines.Given as goal

abbrev pub invariant-line : goal.invariant-line
invariant-line l =
    Keeps l.core l.initial.reader.runner.stage l.initial.reader.left l.lines l.initial.out.items l.reader l.rest l.count l.out.items

abbrev pub decreases-line : goal.decreases-line
decreases-line l = length l.rest
