use Rattle.std.proofs.Common.{rules, ◌≡◌}
use Rattle.chi_value.specs.declared.value.Value.TheVariants as value
use Rattle.chi_ops.specs.Kinds.{is_container}
use Rattle.chi_ops.proofs.TidyLaws.{dictionary_entries, first_of_two}
use Rattle.chi_ops.proofs.popping.popped.Goals as goal

pub pop_entry-requires : goal.pop_entry-requires
pop_entry-requires c =
    let is : c.args.v ≡ value.DictOf c.in-DictOf.entries = search rules in
    dictionary_entries c.args.v _ is (first_of_two c.args.v (is_container c.args.v) c.requires.fits)
