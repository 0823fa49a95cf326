use Rattle.std.proofs.Common.{rules, ◌≡◌}
use Rattle.chi_value.specs.declared.value.Value.TheVariants as value
use Rattle.chi_ops.specs.Conditions.{is_key}
use Rattle.chi_ops.proofs.TidyLaws.{set_ascends, dictionary_ascends, first_of_three}
use Rattle.chi_ops.proofs.reading.has.Goals as goal

pub has-requires : goal.has-requires
has-requires c =
    let is : c.args.v.now ≡ value.SetOf c.as_slice.result.now = search rules in
    record { ascending = set_ascends c.args.v.now _ is (first_of_three c.args.v.now (is_key c.args.x.now) _ c.requires.fits) }

pub has_key-requires : goal.has_key-requires
has_key-requires c =
    let is : c.args.v.now ≡ value.DictOf c.as_slice-in-DictOf.result.now = search rules in
    record { ascending = dictionary_ascends c.args.v.now _ is (first_of_three c.args.v.now (is_key c.args.x.now) _ c.requires.fits) }
