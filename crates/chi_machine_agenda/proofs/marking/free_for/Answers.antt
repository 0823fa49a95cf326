use Rattle.std.proofs.Common.{ℕ, ◌+◌, Bool, true, get_or, drop, length, sym, ◌∙◌, ap, subst}
use Rattle.chi_chan.specs.declared.offers.Offer.TheVariants.{Send}
use Rattle.chi_machine_agenda.specs.Asking.{told_for, AllWithin}
use Rattle.chi_machine_agenda.proofs.Telling.{told_by-length, told_for-step, told_for-end}
use Rattle.chi_machine_agenda.proofs.marking.free_for.Goals as goal

pub free_by-requires : goal.free_by-requires
free_by-requires c = subst (λ (n : ℕ). AllWithin n c.args.waiting.now) (sym c.loop-offer.invariant.room) c.requires

pub loop-offer-preserved : goal.loop-offer-preserved
loop-offer-preserved c =
    let told : ℕ → Bool = λ p. true in
    let i = c.loop-offer.offer-index in
    let marks = c.loop-offer.ready in
    record {
      told = ap (told_for told c.args.waiting.now (drop (i + 1) c.args.offers.now)) c.free_by.ensures
          ∙ sym (told_for-step told c.args.waiting.now c.args.offers.now i (Send 0) marks c.loop-offer-test.true) ∙ c.loop-offer.invariant.told;
      room = ap length c.free_by.ensures ∙ told_by-length told c.args.waiting.now (get_or c.args.offers.now i (Send 0)) marks ∙ c.loop-offer.invariant.room;
    }

pub returns : goal.returns
returns c = sym (told_for-end (λ p. true) c.args.waiting.now c.args.offers.now c.loop-offer.offer-index c.loop-offer.ready c.loop-offer-test.false) ∙ c.loop-offer.invariant.told
