use Rattle.std.proofs.Common.{◌≡◌, arith, ap, length}
use Rattle.chi_machine.proofs.Begins.{enough, first_one, held_first, no_crowd}
use Rattle.chi_machine.proofs.beginning.alone.Goals as goal

pub room_with-requires : goal.room_with-requires
room_with-requires c = enough c.args.arguments.items c.args.entry.now.arity c.requires.arity

pub add-requires-clause-kept : goal.add-requires-clause-kept
add-requires-clause-kept c = (no_crowd (record { instances = c.new.result; agenda = c.new-2.result }) c.args.until c.new.ensures.items c.new-2.ensures).0

pub add-requires-clause-room : goal.add-requires-clause-room
add-requires-clause-room c = let n : length c.new.result.items ≡ 0 = ap length c.new.ensures.items in omega (arith, n)

pub returns : goal.returns
returns c =
    let entry = c.args.entry.now in
    first_one c.args.code.now c.args.arguments.items c.args.until (record { instances = c.new.result; agenda = c.new-2.result }) c.add.new.self entry _ c.new.ensures.items c.new-2.ensures
    c.in_ok-add.ensures.kept c.requires.there
    (held_first c.args.code.now entry c.args.arguments.items c.in_ok-room.room c.requires.arity c.in_ok-room.ensures.begun c.in_ok-room.ensures.idle) c.in_ok-add.ensures.added
