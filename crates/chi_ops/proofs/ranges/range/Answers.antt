use Rattle.std.proofs.Common.{rules, ◌≡◌, ◌≢◌, ◌≤◌, pos, map}
use Rattle.chi_value.specs.declared.value.Value.TheVariants as value
use Rattle.chi_ops.specs.Progression.{count_from, progression}
use Rattle.chi_ops.proofs.Walks.{range_gives}
use Rattle.chi_ops.proofs.ranges.range.Goals as goal

pub returns-clause-value : goal.returns-clause-value
returns-clause-value c =
    let moves : c.args.by ≢ pos 0 = search rules in
    let within : count_from c.args.from c.args.upto c.args.by ≤ 1_048_576 = search rules in
    let is : c.in_ok-of.field-0 ≡ map value.Int (progression c.args.from c.args.upto c.args.by) = search rules in
    range_gives c.args.from c.args.upto c.args.by c.in_ok-of.field-0 moves within is
