use Rattle.std.proofs.Common.{◌∙◌}
use Rattle.chi_machine_constants.proofs.Lined.{line_here, line_later, no_line}
use Rattle.chi_machine_constants.proofs.lines.line_from.Goals as goal

pub loop-place-preserved : goal.loop-place-preserved
loop-place-preserved c =
    line_later c.args.instrs.now c.loop-place.place c.index-instrs-place.result c.line_in.result c.loop-place-test.true c.index-instrs-place.is c.line_in.ensures c.in_default.is ∙ c.loop-place.invariant

pub returns-in-Some : goal.returns-in-Some
returns-in-Some c =
    line_here c.args.instrs.now c.loop-place.place c.index-instrs-place.result c.line_in.result c.loop-place-test.true c.index-instrs-place.is c.line_in.ensures c.in-Some.line c.in-Some.is ∙ c.loop-place.invariant

pub returns : goal.returns
returns c = no_line c.args.instrs.now c.loop-place.place c.loop-place-test.false ∙ c.loop-place.invariant
