use Rattle.std.proofs.Common.{◌≡◌, ◌+◌, get_or, ℤ, Some, false, sym, ◌∙◌, ap, subst, rules}
use Rattle.std.proofs.lemmas.Int.{to_z-of_z}
use Rattle.std.specs.Prelude.{int_lt}
use mir.Val.{to_z, of_z, SFits}
use mir.Syntax.{w64}
use Rattle.chi_chan.specs.declared.offers.Offer.TheVariants.{Send}
use Rattle.chi_machine_agenda.specs.Timed.{Awaits, AwaitsBelow}
use Rattle.chi_machine_agenda.specs.Timed as timed
use Rattle.chi_machine_agenda.proofs.Lists.{got}
use Rattle.chi_machine_agenda.proofs.Times.{awaits-first, awaits-past, awaits-more, awaits-all, not-send, not-receive, not-true, not-false}
use Rattle.chi_machine_agenda.proofs.timing.awaited.Goals.{in-Send, in-Receive, in-Delay+else-is_due}
use Rattle.chi_machine_agenda.proofs.timing.awaited.Goals as goal

pub loop-offer-init : goal.loop-offer-init
loop-offer-init c = awaits-first (to_z w64 (of_z w64 c.args.clock)) c.args.offers.now

pub loop-offer-preserved : goal.loop-offer-preserved
loop-offer-preserved c =
    let k = to_z w64 (of_z w64 c.args.clock) in
    let offers = c.args.offers.now in
    let i = c.loop-offer.offer-index in
    let there = got offers i (Send 0) c.loop-offer-test.true in
    elim c.match-offer.branch [
      | in-Send w ↦ subst (AwaitsBelow k offers (i + 1)) (sym w.least-is)
          (awaits-past k offers i (get_or offers i (Send 0)) c.loop-offer.least there (not-send _ _ w.in-Send.is) c.loop-offer.invariant)
      | in-Receive w ↦ subst (AwaitsBelow k offers (i + 1)) (sym w.least-is)
          (awaits-past k offers i (get_or offers i (Send 0)) c.loop-offer.least there (not-receive _ _ w.in-Receive.is) c.loop-offer.invariant)
      | in-Delay+else-is_due w ↦
          let f : SFits w64 w.sooner.result = search rules in
          subst (AwaitsBelow k offers (i + 1)) (sym (w.least-is ∙ ap Some (to_z-of_z w64 w.sooner.result f ∙ w.sooner.ensures)))
          (awaits-more k offers i w.in-Delay.due c.loop-offer.least (there ∙ ap Some w.in-Delay.is) (not-false _ (sym w.is_due.ensures ∙ w.if-is_due.false)) c.loop-offer.invariant)
    ]

pub returns-then-is_due : goal.returns-then-is_due
returns-then-is_due c =
    let k = to_z-of_z w64 c.args.clock c.ranges.clock in
    let due = c.in-Delay.due in
    let d : int_lt (to_z w64 (of_z w64 c.args.clock)) due ≡ false = not-true _ (sym c.is_due.ensures ∙ c.if-is_due.true) in
    timed.Awaits.already c.loop-offer.offer-index due (got c.args.offers.now c.loop-offer.offer-index (Send 0) c.loop-offer-test.true ∙ ap Some c.in-Delay.is)
    (sym (ap (λ (t : ℤ). int_lt t due) k) ∙ d)

pub returns : goal.returns
returns c =
    subst (λ (t : ℤ). Awaits t (Some c.args.offers.now) c.loop-offer.least) (to_z-of_z w64 c.args.clock c.ranges.clock)
    (awaits-all (to_z w64 (of_z w64 c.args.clock)) c.args.offers.now c.loop-offer.offer-index c.loop-offer.least c.loop-offer-test.false c.loop-offer.invariant)
