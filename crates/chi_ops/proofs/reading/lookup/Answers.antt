use Rattle.std.proofs.Common.{rules, ◌≡◌}
use Rattle.chi_value.specs.declared.value.Value.TheVariants as value
use Rattle.chi_ops.specs.Conditions.{is_key}
use Rattle.chi_ops.proofs.TidyLaws.{dictionary_ascends, first_of_three}
use Rattle.chi_ops.proofs.reading.lookup.Goals as goal

pub value_at-requires : goal.value_at-requires
value_at-requires c =
    let is : c.args.d.now ≡ value.DictOf c.as_slice.result.now = search rules in
    record { ascending = dictionary_ascends c.args.d.now _ is (first_of_three c.args.d.now (is_key c.args.key.now) _ c.requires.fits) }
