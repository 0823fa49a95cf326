use Rattle.std.proofs.Common.{◌≡◌, ◌++◌, drop}
use Rattle.std.specs.Fmt.{decimal}
use Rattle.std.specs.List.{flat_map}
use Rattle.std.specs.Prelude.{codes}
use Rattle.chi_explain_waiting.proofs.pieces.put_rest.Given as goal

abbrev pub invariant-loop-number : goal.invariant-loop-number
invariant-loop-number l =
    l.out.items ++ flat_map (λ r. codes ", " ++ decimal r) (drop l.number-index l.numbers) ≡ l.fn.out.items ++ flat_map (λ r. codes ", " ++ decimal r) l.numbers
