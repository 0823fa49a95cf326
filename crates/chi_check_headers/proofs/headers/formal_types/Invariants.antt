use Rattle.std.proofs.Common.{◌≡◌, ◌++◌, drop, None}
use Rattle.chi_check_types.specs.Faults.{first_of}
use Rattle.chi_check_headers.specs.Headers.{formal_types}
use Rattle.chi_check_headers.proofs.headers.formal_types.Given as goal

abbrev pub invariant-loop-formal : goal.invariant-loop-formal
invariant-loop-formal l = record {
  given : (formal_types l.site l.scope None l.formals).given ≡ l.types.items ++ (formal_types l.site l.scope l.last (drop l.formal-index l.formals)).given;
  noted : first_of l.fn.kept (formal_types l.site l.scope None l.formals).faults ≡ first_of l.kept (formal_types l.site l.scope l.last (drop l.formal-index l.formals)).faults;
}
