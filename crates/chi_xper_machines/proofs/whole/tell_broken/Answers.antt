use Rattle.std.proofs.Common.{◌≡◌, ◌++◌, refl, rules, arith}
use Rattle.std.proofs.lemmas.Grind.{common_steps}
use Rattle.chi_core.specs.VerdictLine.{verdict_line_of}
use Rattle.chi_xper_machines.proofs.Telling.{broken_told}
use Rattle.chi_xper_machines.proofs.whole.tell_broken.Goals as goal

pub returns : goal.returns
returns c =
    let line : c.verdict_told.new.line.items ≡ c.new-log.result.items ++ verdict_line_of c.args.core.now.names.kinds c.args.ending.now.verdict c.args.ending.now.clock
    = first_of (search rules, grind (arith, common_steps)) in
    broken_told c.args.core.now c.args.ending.now _ c.new-log.result.items refl c.new.ensures.items line c.new-log.ensures.items
