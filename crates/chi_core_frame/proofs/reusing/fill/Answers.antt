use Rattle.std.proofs.Common.{◌≡◌, ◌≢◌, ◌+◌, ◌-◌, ◌<◌, [], ◌∷◌, ◌++◌, Some, length, slice_set, ap, arith}
use Rattle.chi_core_frame.proofs.Begun.{fill_there, fill_goes, filled_slots, filled_rest}
use Rattle.chi_core_frame.proofs.reusing.fill.Goals as goal

pub index_mut-requires : goal.index_mut-requires
index_mut-requires c =
    let more : 0 < c.loop-left.left = omega arith in
    let there : c.loop-left.left - 1 < length c.loop-left.slots.items =
    fill_there c.args.arity c.loop-left.left c.loop-left.slots.items c.args.values.now.items c.loop-left.values.items c.loop-left.invariant more in
    omega (arith, c.loop-left.slots.ok.0)

pub loop-left-preserved : goal.loop-left-preserved
loop-left-preserved c =
    let less : c.loop-left.left ≡ c.loop-left.left - 1 + 1 = omega arith in
    let set : c.replace.new.dest ≡ Some c.in-Some.value = cc in
    fill_goes c.args.arity c.loop-left.left c.loop-left.slots.items c.args.values.now.items c.loop-left.values.items c.loop-left.invariant (c.loop-left.left - 1)
    (slice_set c.loop-left.slots.items (c.loop-left.left - 1) c.replace.new.dest) c.pop.new.self.items c.in-Some.value less c.in-Some.ensures.items
    (ap (slice_set c.loop-left.slots.items (c.loop-left.left - 1)) set)

pub returns-clause-filled : goal.returns-clause-filled
returns-clause-filled c =
    filled_slots c.args.arity c.loop-left.left c.loop-left.slots.items c.args.values.now.items c.loop-left.values.items c.loop-left.invariant c.loop-left-test.false

pub returns-clause-rest : goal.returns-clause-rest
returns-clause-rest c =
    filled_rest c.args.arity c.loop-left.left c.loop-left.slots.items c.args.values.now.items c.loop-left.values.items c.loop-left.invariant c.loop-left-test.false
