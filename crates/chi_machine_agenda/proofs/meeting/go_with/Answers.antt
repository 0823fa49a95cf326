use Rattle.std.proofs.Common.{ℤ, None, Bool, true, List, length, ◌∙◌, ap, arith}
use Rattle.std.proofs.lemmas.Int.{to_z-of_z}
use Rattle.std.specs.Prelude.{slice_set}
use mir.Val.{to_z, of_z}
use mir.Syntax.{w64}
use Rattle.chi_machine_agenda.specs.Asking.{asks, told_for}
use Rattle.chi_machine_agenda.proofs.Telling.{told_for-length}
use Rattle.chi_machine_agenda.proofs.Seats.{seats-within}
use Rattle.chi_machine_agenda.proofs.meeting.go_with.Goals as goal

pub ask_for-requires : goal.ask_for-requires
ask_for-requires c = seats-within c.args.pid c.args.waiting.now c.withdraw_with.new.self c.args.ready.now c.args.dues.now None c.requires.seats c.withdraw_with.ensures

pub insert-requires : goal.insert-requires
insert-requires c =
    let h = c.requires.seats.ready in
    let l = ap length c.ask_for.ensures ∙ told_for-length (asks c.withdraw_with.new.self (to_z w64 (of_z w64 c.args.clock))) c.withdraw_with.new.self c.args.offers.now c.args.ready.now in
    omega (arith, h, l)

pub returns : goal.returns
returns c =
    let k = to_z-of_z w64 c.args.clock c.ranges.clock in
    let new = c.withdraw_with.new.self in
    let offers = c.args.offers.now in
    let pid = c.args.pid in
    record {
      waits = c.withdraw_with.ensures;
      ready = c.insert.ensures ∙ ap (λ (m : List Bool). slice_set m pid true) c.ask_for.ensures ∙ ap (λ (t : ℤ). slice_set (told_for (asks new t) new offers c.args.ready.now) pid true) k;
      due = c.undate.ensures;
    }
