use Rattle.std.proofs.Common.{ℤ, List, sym, subst}
use Rattle.std.proofs.lemmas.Int.{to_z-of_z}
use Rattle.std.specs.Prelude.{OnOk}
use mir.Val.{to_z, of_z}
use mir.Syntax.{w64}
use Rattle.chi_chan.specs.declared.offers.Offer.{Offer}
use Rattle.chi_machine_agenda.specs.Meeting.{Comes}
use Rattle.chi_machine_agenda.proofs.meeting.come.Goals as goal

pub returns-in-Some-clause-ok : goal.returns-in-Some-clause-ok
returns-in-Some-clause-ok c =
    let k = to_z-of_z w64 c.args.clock c.ranges.clock in
    let new = c.come_alone.new in
    subst (λ (t : ℤ). OnOk c.come_alone.result (Comes t c.args.pid c.args.offers.now c.args.waiting.now c.args.ready.now c.args.dues.now new.waiting new.ready new.dues)) k
    (subst (λ (os : List Offer). OnOk c.come_alone.result (Comes (to_z w64 (of_z w64 c.args.clock)) c.args.pid os c.args.waiting.now c.args.ready.now c.args.dues.now new.waiting new.ready new.dues))
    (sym c.in-Some.ensures) c.come_alone.ensures.ok)

pub returns-in-None-clause-ok : goal.returns-in-None-clause-ok
returns-in-None-clause-ok c =
    let k = to_z-of_z w64 c.args.clock c.ranges.clock in
    let new = c.come_with.new in
    subst (λ (t : ℤ). OnOk c.come_with.result (Comes t c.args.pid c.args.offers.now c.args.waiting.now c.args.ready.now c.args.dues.now new.waiting new.ready new.dues)) k
    c.come_with.ensures.ok
