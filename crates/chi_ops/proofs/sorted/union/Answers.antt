use Rattle.std.proofs.Common.{rules, ◌≡◌}
use Rattle.chi_value.specs.declared.value.Value.TheVariants as value
use Rattle.chi_ops.specs.Kinds.{is_sorted}
use Rattle.chi_ops.proofs.TidyLaws.{set_ascends, dictionary_ascends, peers_left, peers_right}
use Rattle.chi_ops.proofs.sorted.union.Goals as goal

pub set_union-requires-clause-left : goal.set_union-requires-clause-left
set_union-requires-clause-left c =
    let is : c.args.a.now ≡ value.SetOf c.as_slice.result.now = search rules in
    set_ascends c.args.a.now _ is (peers_left c.args.a.now c.args.b.now (is_sorted c.args.a.now) c.requires.fits)

pub set_union-requires-clause-right : goal.set_union-requires-clause-right
set_union-requires-clause-right c =
    let is : c.args.b.now ≡ value.SetOf c.as_slice-in-SetOf-SetOf.result.now = search rules in
    set_ascends c.args.b.now _ is (peers_right c.args.a.now c.args.b.now (is_sorted c.args.a.now) c.requires.fits)

pub dictionary_union-requires-clause-left : goal.dictionary_union-requires-clause-left
dictionary_union-requires-clause-left c =
    let is : c.args.a.now ≡ value.DictOf c.as_slice-in-DictOf-DictOf.result.now = search rules in
    dictionary_ascends c.args.a.now _ is (peers_left c.args.a.now c.args.b.now (is_sorted c.args.a.now) c.requires.fits)

pub dictionary_union-requires-clause-right : goal.dictionary_union-requires-clause-right
dictionary_union-requires-clause-right c =
    let is : c.args.b.now ≡ value.DictOf c.as_slice-in-DictOf-DictOf-2.result.now = search rules in
    dictionary_ascends c.args.b.now _ is (peers_right c.args.a.now c.args.b.now (is_sorted c.args.a.now) c.requires.fits)
