use Rattle.std.proofs.Common.{ap, ◌∙◌, arith}
use Rattle.std.specs.Int.Count.{ones as count_ones}
use Rattle.chi_order.proofs.Words.{lowest-bit, ones-bit, some-word}
use Rattle.chi_order.proofs.bits.lowest_of.Goals as goal

pub returns-clause-within : goal.returns-clause-within
returns-clause-within c =
    let l = lowest-bit 64 c.args.word c.ranges.word.fits (some-word c.args.word c.requires) in
    l.0

pub returns-clause-set : goal.returns-clause-set
returns-clause-set c =
    let l = lowest-bit 64 c.args.word c.ranges.word.fits (some-word c.args.word c.requires) in
    l.1

pub returns-clause-before : goal.returns-clause-before
returns-clause-before c =
    let l = lowest-bit 64 c.args.word c.ranges.word.fits (some-word c.args.word c.requires) in
    ap count_ones l.2 ∙ ones-bit 0 (omega arith)
