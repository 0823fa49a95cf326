use Rattle.std.proofs.Common.{rules, ◌≡◌}
use Rattle.chi_value.specs.declared.value.Value.TheVariants as value
use Rattle.chi_ops.proofs.TidyLaws.{set_ascends, second_of_three}
use Rattle.chi_ops.proofs.sorted.minus_keys.Goals as goal

pub minus_keys-requires : goal.minus_keys-requires
minus_keys-requires c =
    let is : c.args.keys.now ≡ value.SetOf c.as_slice-in-DictOf-SetOf.result.now = search rules in
    record { ascending = set_ascends c.args.keys.now _ is (second_of_three c.args.d.now c.args.keys.now _ c.requires.fits) }
