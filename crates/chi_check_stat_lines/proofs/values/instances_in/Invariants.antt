use Rattle.std.proofs.Common.{◌≡◌, drop, map}
use Rattle.chi_check_types.specs.Faults.{first_of}
use Rattle.chi_check_stat_lines.specs.Stated.{joined}
use Rattle.chi_check_stat_lines.specs.Values.{all_of, instance_in}
use Rattle.chi_check_stat_lines.proofs.values.instances_in.Given as goal

abbrev pub invariant-loop-e : goal.invariant-loop-e
invariant-loop-e l =
    let whole = all_of (map (instance_in l.home l.scope) l.es) in
    let rest = all_of (map (instance_in l.home l.scope) (drop l.e-index l.es)) in
    record { made : whole.made ≡ joined l.all rest.made; noted : first_of l.fn.kept whole.faults ≡ first_of l.kept rest.faults }
