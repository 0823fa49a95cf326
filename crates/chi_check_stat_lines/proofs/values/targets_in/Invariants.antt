use Rattle.std.proofs.Common.{◌≡◌, ◌++◌, drop, map}
use Rattle.chi_check_types.specs.Faults.{first_of}
use Rattle.chi_check_stat_lines.specs.Values.{made_of, all_faults, target_in}
use Rattle.chi_check_stat_lines.proofs.values.targets_in.Given as goal

abbrev pub invariant-loop-target : goal.invariant-loop-target
invariant-loop-target l =
    let rest = map (target_in l.home l.scope) (drop l.target-index l.targets) in
    record {
      made : map made_of (map (target_in l.home l.scope) l.targets) ≡ l.all.items ++ map made_of rest;
      noted : first_of l.fn.kept (all_faults (map (target_in l.home l.scope) l.targets)) ≡ first_of l.kept (all_faults rest);
    }
