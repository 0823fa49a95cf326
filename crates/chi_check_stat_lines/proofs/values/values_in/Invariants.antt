use Rattle.std.proofs.Common.{◌≡◌, ◌++◌, drop, map}
use Rattle.chi_check_types.specs.Faults.{first_of}
use Rattle.chi_check_stat_lines.specs.Values.{made_of, all_faults, value_in}
use Rattle.chi_check_stat_lines.proofs.values.values_in.Given as goal

abbrev pub invariant-loop-e : goal.invariant-loop-e
invariant-loop-e l =
    let rest = map (value_in l.home l.scope) (drop l.e-index l.es) in
    record {
      made : map made_of (map (value_in l.home l.scope) l.es) ≡ l.all.items ++ map made_of rest;
      noted : first_of l.fn.kept (all_faults (map (value_in l.home l.scope) l.es)) ≡ first_of l.kept (all_faults rest);
    }
