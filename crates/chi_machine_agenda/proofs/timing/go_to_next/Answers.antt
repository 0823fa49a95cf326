use Rattle.std.proofs.Common.{ℤ, sym, subst, refl, rules}
use Rattle.std.proofs.lemmas.Int.{to_z-of_z}
use mir.Val.{SFits}
use mir.Syntax.{w64}
use Rattle.chi_machine_agenda.specs.Timed.{AreWoken, Moves}
use Rattle.chi_machine_agenda.specs.Timed as timed
use Rattle.chi_machine_agenda.proofs.timing.go_to_next.Goals as goal

pub returns-in-None : goal.returns-in-None
returns-in-None c = timed.Moves.stays c.in-None.ensures refl refl refl

pub wake_all-requires-clause-room : goal.wake_all-requires-clause-room
wake_all-requires-clause-room c = c.requires

pub returns : goal.returns
returns c =
    let due = c.in-Some.due in
    let f : SFits w64 due = search rules in
    let e = to_z-of_z w64 due f in
    subst (λ (t : ℤ). Moves c.args.clock.now c.args.ready.now c.args.dues.now t c.wake_all.new.ready c.wake_all.new.dues) (sym e)
    (timed.Moves.goes_on c.in-Some.field-0-1 c.in-Some.ensures
    (subst (λ (t : ℤ). AreWoken t c.args.ready.now c.wake_all.new.ready c.args.dues.now c.wake_all.new.dues) e c.wake_all.ensures.woken)
    c.wake_all.ensures.ready c.wake_all.ensures.dues)
