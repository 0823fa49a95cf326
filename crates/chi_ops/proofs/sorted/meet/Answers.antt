use Rattle.std.proofs.Common.{rules, ◌≡◌}
use Rattle.chi_value.specs.declared.value.Value.TheVariants as value
use Rattle.chi_ops.specs.Kinds.{is_set}
use Rattle.chi_ops.proofs.TidyLaws.{set_ascends, peers_left, peers_right}
use Rattle.chi_ops.proofs.sorted.meet.Goals as goal

pub set_meet-requires-clause-left : goal.set_meet-requires-clause-left
set_meet-requires-clause-left c =
    let is : c.args.a.now ≡ value.SetOf c.as_slice.result.now = search rules in
    set_ascends c.args.a.now _ is (peers_left c.args.a.now c.args.b.now (is_set c.args.a.now) c.requires.fits)

pub set_meet-requires-clause-right : goal.set_meet-requires-clause-right
set_meet-requires-clause-right c =
    let is : c.args.b.now ≡ value.SetOf c.as_slice-in-SetOf-SetOf.result.now = search rules in
    set_ascends c.args.b.now _ is (peers_right c.args.a.now c.args.b.now (is_set c.args.a.now) c.requires.fits)
