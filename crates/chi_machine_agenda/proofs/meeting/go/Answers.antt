use Rattle.std.proofs.Common.{ℤ, List, Some, sym, ◌∙◌, ap, subst}
use Rattle.std.proofs.lemmas.Int.{to_z-of_z}
use mir.Val.{to_z, of_z}
use mir.Syntax.{w64}
use Rattle.chi_chan.specs.declared.offers.Offer.{Offer}
use Rattle.chi_machine_agenda.specs.Meeting.{Goes}
use Rattle.chi_machine_agenda.proofs.meeting.go.Goals as goal

pub go_alone-requires-clause-waits : goal.go_alone-requires-clause-waits
go_alone-requires-clause-waits c = c.requires.waits ∙ ap Some c.in-Some.ensures

pub returns-in-Some : goal.returns-in-Some
returns-in-Some c =
    let k = to_z-of_z w64 c.args.clock c.ranges.clock in
    let new = c.go_alone.new in
    subst (λ (t : ℤ). Goes t c.args.pid c.args.offers.now c.args.waiting.now c.args.ready.now c.args.dues.now new.waiting new.ready new.dues) k
    (subst (λ (os : List Offer). Goes (to_z w64 (of_z w64 c.args.clock)) c.args.pid os c.args.waiting.now c.args.ready.now c.args.dues.now new.waiting new.ready new.dues)
    (sym c.in-Some.ensures) c.go_alone.ensures)

pub returns-in-None : goal.returns-in-None
returns-in-None c =
    let k = to_z-of_z w64 c.args.clock c.ranges.clock in
    let new = c.go_with.new in
    subst (λ (t : ℤ). Goes t c.args.pid c.args.offers.now c.args.waiting.now c.args.ready.now c.args.dues.now new.waiting new.ready new.dues) k c.go_with.ensures
