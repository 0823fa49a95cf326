use Rattle.std.proofs.Common.{◌≡◌, drop}
use Rattle.chi_check_headers.specs.Headers.{all_types}
use Rattle.chi_check_headers.proofs.Typed.{before}
use Rattle.chi_check_headers.proofs.headers.all_types.Given as goal

abbrev pub invariant-loop-ty : goal.invariant-loop-ty
invariant-loop-ty l = all_types l.types ≡ before l.all.items (all_types (drop l.ty-index l.types))
