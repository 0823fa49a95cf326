use Rattle.std.proofs.Common.{ℤ, Option, Some, true, length, ◌∙◌, ap, subst, refl, arith}
use Rattle.std.proofs.lemmas.Int.{to_z-of_z}
use Rattle.std.specs.Prelude.{slice_set}
use mir.Syntax.{w64}
use Rattle.chi_machine_agenda.specs.Asking.{asks, told_for}
use Rattle.chi_machine_agenda.specs.Timed.{Awaits, Dates}
use Rattle.chi_machine_agenda.proofs.Lists.{on-err}
use Rattle.chi_machine_agenda.proofs.Telling.{told_for-length}
use Rattle.chi_machine_agenda.proofs.Seats.{seats-within}
use Rattle.chi_machine_agenda.proofs.meeting.come_with.Goals as goal

pub free_for-requires : goal.free_for-requires
free_for-requires c = seats-within c.args.pid c.args.waiting.now c.offer.new.self c.args.ready.now c.args.dues.now (Some c.args.offers.now) c.requires.seats c.in_ok-offer.ensures.ok

pub asks_with-requires : goal.asks_with-requires
asks_with-requires c = c.in_ok-offer.ensures.ok.changed

pub tell-requires : goal.tell-requires
tell-requires c =
    let h = c.requires.seats.ready in
    let l = ap length c.free_for.ensures ∙ told_for-length (λ q. true) c.offer.new.self c.args.offers.now c.args.ready.now in
    omega (arith, h, l)

pub returns-clause-ok : goal.returns-clause-ok
returns-clause-ok c =
    let k = to_z-of_z w64 c.args.clock c.ranges.clock in
    let new = c.offer.new.self in
    let offers = c.args.offers.now in
    let pid = c.args.pid in
    record {
      waits = c.in_ok-offer.ensures.ok;
      ready = c.tell.ensures ∙ (λ j. slice_set (c.free_for.ensures j) pid (c.asks_with.ensures j)) ∙ ap (λ (t : ℤ). slice_set (told_for (λ q. true) new offers c.args.ready.now) pid (asks new t pid)) k;
      due = subst (λ (t : ℤ). (due : Option ℤ) × Awaits t (Some offers) due × Dates c.args.dues.now c.date.new.dues pid due) k c.date.ensures;
    }

pub returns-in_err-offer-clause-err : goal.returns-in_err-offer-clause-err
returns-in_err-offer-clause-err c = on-err c.from_residual.result _ (record { waits = c.in_err-offer.ensures.err; ready = refl; dues = refl })
