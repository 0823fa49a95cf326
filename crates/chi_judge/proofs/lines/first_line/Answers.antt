use Rattle.std.proofs.Common.{◌+◌, length, refl}
use Rattle.chi_judge.proofs.Cuts.{cut_first, cut_whole}
use Rattle.chi_judge.proofs.lines.first_line.Goals as goal

pub returns-in-Some : goal.returns-in-Some
returns-in-Some c =
    let text = c.args.text.now in
    let line = c.in-Some.line.now in
    let more = c.in-Some.field-0-1.now in
    let front = c.split_at.result.0.now in
    let back = c.split_at.result.1.now in
    let halves = c.split_at.ensures in
    (cut_first text line more c.in-Some.ensures front back (length line + 1) refl halves.front halves.back, cut_whole text line more c.in-Some.ensures front back (length line + 1) refl halves.front halves.back)
