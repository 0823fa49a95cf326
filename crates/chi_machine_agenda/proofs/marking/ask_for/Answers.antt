use Rattle.std.proofs.Common.{ℕ, ℤ, ◌+◌, Bool, get_or, drop, length, sym, ◌∙◌, ap, subst}
use Rattle.std.proofs.lemmas.Int.{to_z-of_z}
use mir.Val.{to_z, of_z}
use mir.Syntax.{w64}
use Rattle.chi_chan.specs.declared.offers.Offer.TheVariants.{Send}
use Rattle.chi_machine_agenda.specs.Asking.{asks, told_for, AllWithin}
use Rattle.chi_machine_agenda.proofs.Telling.{told_by-length, told_for-step, told_for-end}
use Rattle.chi_machine_agenda.proofs.marking.ask_for.Goals as goal

pub ask_by-requires : goal.ask_by-requires
ask_by-requires c = subst (λ (n : ℕ). AllWithin n c.args.waiting.now) (sym c.loop-offer.invariant.room) c.requires

pub loop-offer-preserved : goal.loop-offer-preserved
loop-offer-preserved c =
    let told : ℕ → Bool = asks c.args.waiting.now (to_z w64 (of_z w64 c.args.clock)) in
    let i = c.loop-offer.offer-index in
    let marks = c.loop-offer.ready in
    record {
      told = ap (told_for told c.args.waiting.now (drop (i + 1) c.args.offers.now)) c.ask_by.ensures
          ∙ sym (told_for-step told c.args.waiting.now c.args.offers.now i (Send 0) marks c.loop-offer-test.true) ∙ c.loop-offer.invariant.told;
      room = ap length c.ask_by.ensures ∙ told_by-length told c.args.waiting.now (get_or c.args.offers.now i (Send 0)) marks ∙ c.loop-offer.invariant.room;
    }

pub returns : goal.returns
returns c =
    let k = to_z-of_z w64 c.args.clock c.ranges.clock in
    let told : ℤ → ℕ → Bool = asks c.args.waiting.now in
    sym (told_for-end (told (to_z w64 (of_z w64 c.args.clock))) c.args.waiting.now c.args.offers.now c.loop-offer.offer-index c.loop-offer.ready c.loop-offer-test.false)
    ∙ c.loop-offer.invariant.told ∙ ap (λ (t : ℤ). told_for (told t) c.args.waiting.now c.args.offers.now c.args.ready.now) k
