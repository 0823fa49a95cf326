use Rattle.std.proofs.Common.{◌≡◌, ◌++◌, drop, map}
use Rattle.chi_check_types.specs.Faults.{first_of}
use Rattle.chi_check_headers.specs.Headers.{header_in, header_faults}
use Rattle.chi_check_headers.proofs.late.headers_in.Given as goal

abbrev pub invariant-loop-item : goal.invariant-loop-item
invariant-loop-item l = record {
  given : map (λ h. h.given) (map (header_in l.scope) (map (λ item. item.definition) l.items)) ≡ l.headers.items ++ map (λ h. h.given) (map (header_in l.scope) (map (λ item. item.definition) (drop l.item-index l.items)));
  noted : first_of l.fn.kept (header_faults (map (header_in l.scope) (map (λ item. item.definition) l.items))) ≡ first_of l.kept (header_faults (map (header_in l.scope) (map (λ item. item.definition) (drop l.item-index l.items))));
}
