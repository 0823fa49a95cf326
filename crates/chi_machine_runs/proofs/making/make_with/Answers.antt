use Rattle.std.proofs.Common.{refl, sym, subst, ◌∙◌, ◌≡◌}
use Rattle.std.specs.Prelude.{IfErr, OnOk}
use Rattle.chi_exec_steps.specs.Views.{state_of}
use Rattle.chi_exec_law.specs.Runs.{Goes}
use Rattle.chi_machine_laws.specs.Deeds.{Deed, aims_of}
use Rattle.chi_machine_runs.specs.Views.{brought_of, there, Failed}
use Rattle.chi_machine_runs.proofs.News.{arguments_there, spots_there, makes_new}
use Rattle.chi_machine_runs.proofs.making.make_with.Goals as goal

pub spot_for-requires : goal.spot_for-requires
spot_for-requires c =
    let making = c.args.making.now in
    let code = c.args.w.now.code.now in
    spots_there code making.process (aims_of making.target.now) making.entry.now c.args.keys.items c.args.m.now.stack.items (state_of c.args.m.now)
    (brought_of code c.args.opened.now c.args.brought.now) c.requires.sound

pub room_with-requires : goal.room_with-requires
room_with-requires c =
    let making = c.args.making.now in
    let code = c.args.w.now.code.now in
    arguments_there code making.process (aims_of making.target.now) making.entry.now c.args.keys.items c.args.m.now.stack.items (state_of c.args.m.now)
    (brought_of code c.args.opened.now c.args.brought.now) c.requires.sound

pub add-requires-clause-sound : goal.add-requires-clause-sound
add-requires-clause-sound c =
    let making = c.args.making.now in
    let code = c.args.w.now.code.now in
    λ stuck. c.requires.sound
    (makes_new code making.process (aims_of making.target.now) making.entry.now c.args.keys.items c.args.m.now.stack.items c.room_with.new.stack.items (state_of c.args.m.now)
    (brought_of code c.args.opened.now c.args.brought.now) c.in_ok-spot.spot (record { process = making.process; at = making.entry.now.entry; room = c.in_ok-room.room })
    c.requires.sound c.in_ok-spot.ensures.spot c.in_ok-room.ensures.rest refl refl c.in_ok-room.ensures.begun c.in_ok-room.ensures.idle ∙ stuck)

pub returns-clause-goes : goal.returns-clause-goes
returns-clause-goes c =
    let making = c.args.making.now in
    let code = c.args.w.now.code.now in
    subst (λ (d : Deed). OnOk c.add.result (d ≡ Goes (there code c.add.new.m c.args.opened.now c.add.new.brought)))
    (sym (makes_new code making.process (aims_of making.target.now) making.entry.now c.args.keys.items c.args.m.now.stack.items c.room_with.new.stack.items (state_of c.args.m.now)
    (brought_of code c.args.opened.now c.args.brought.now) c.in_ok-spot.spot (record { process = making.process; at = making.entry.now.entry; room = c.in_ok-room.room })
    c.requires.sound c.in_ok-spot.ensures.spot c.in_ok-room.ensures.rest refl refl c.in_ok-room.ensures.begun c.in_ok-room.ensures.idle))
    c.add.ensures.goes

pub returns-clause-ends : goal.returns-clause-ends
returns-clause-ends c =
    let making = c.args.making.now in
    let code = c.args.w.now.code.now in
    subst (λ (d : Deed). IfErr c.add.result (λ stop. Failed stop d))
    (sym (makes_new code making.process (aims_of making.target.now) making.entry.now c.args.keys.items c.args.m.now.stack.items c.room_with.new.stack.items (state_of c.args.m.now)
    (brought_of code c.args.opened.now c.args.brought.now) c.in_ok-spot.spot (record { process = making.process; at = making.entry.now.entry; room = c.in_ok-room.room })
    c.requires.sound c.in_ok-spot.ensures.spot c.in_ok-room.ensures.rest refl refl c.in_ok-room.ensures.begun c.in_ok-room.ensures.idle))
    c.add.ensures.ends
