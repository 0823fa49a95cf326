use Rattle.std.proofs.Common.{◌≡◌, ◌<◌, to_z, of_z, ◌-ℤ◌, ◌*ℤ◌, ◌∙◌, arith, rules}
use Rattle.std.specs.Prelude.{unsigned_abs}
use Rattle.std.specs.Int.{w64, w128}
use Rattle.std.proofs.lemmas.Int.{ints, to_z-of_z}
use Rattle.chi_num.proofs.Rest.{multiple_size, rest_below, IsRemainder-of}
use Rattle.chi_num.proofs.division.rest_of.Goals as goal

pub multiple-requires : goal.multiple-requires
multiple-requires c =
    let d = to_z w64 (of_z w64 c.args.divisor) in
    let q = to_z w128 (of_z w128 c.floor_of-quotient.result) in
    multiple_size c.args.number c.args.divisor c.floor_of-quotient.result _ _ d q c.requires.divides c.floor_of-quotient.ensures (omega (arith, ints)) (omega (arith, ints)) (omega (arith, ints)) (omega (arith, ints)) c.requires.small c.ranges.divisor

times : (c : goal.After-multiple) → c.multiple.result ≡ c.args.divisor *ℤ c.floor_of-quotient.result
times c =
    c.multiple.ensures ∙ (λ i. to_z-of_z w64 c.args.divisor c.ranges.divisor i *ℤ to_z-of_z w128 c.floor_of-quotient.result (search rules) i)

small : (c : goal.After-multiple) → unsigned_abs (c.args.number -ℤ c.multiple.result) < unsigned_abs c.args.divisor
small c = rest_below _ _ _ _ _ _ c.requires.divides c.floor_of-quotient.ensures (omega (arith, ints)) (omega (arith, ints)) (times c)

pub overflow_sub-result : goal.overflow_sub-result
overflow_sub-result c = let s = small c in omega (arith, ints)

pub returns : goal.returns
returns c =
    let s = small c in
    let d = to_z w64 (of_z w64 c.args.divisor) in
    let rest : to_z w128 (of_z w128 (to_z w128 (of_z w128 c.args.number) -ℤ to_z w128 (of_z w128 c.multiple.result))) ≡ c.args.number -ℤ c.multiple.result = omega (arith, ints) in
    record {
      rest = IsRemainder-of c.args.number c.args.divisor _ _ _ _ _ c.floor_of-quotient.ensures (omega (arith, ints)) (omega (arith, ints)) (times c) rest;
      bound = rw rest s;
    }
