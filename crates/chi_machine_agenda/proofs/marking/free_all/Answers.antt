use Rattle.std.proofs.Common.{ℕ, ◌+◌, ◌<◌, Bool, true, get_or, drop, length, sym, ◌∙◌, ap, subst}
use Rattle.chi_chan.specs.Lined.{nobody_here}
use Rattle.chi_machine_agenda.specs.Asking.{told_all}
use Rattle.chi_machine_agenda.proofs.Lists.{got, set-length}
use Rattle.chi_machine_agenda.proofs.Telling.{told_all-step, told_all-end}
use Rattle.chi_machine_agenda.proofs.marking.free_all.Goals as goal

pub insert-requires : goal.insert-requires
insert-requires c =
    let i = c.loop-party.party-index in
    let its = get_or c.args.parties.now i nobody_here in
    subst (λ (n : ℕ). its.pid < n) (sym c.loop-party.invariant.room) (c.requires i its (got c.args.parties.now i nobody_here c.loop-party-test.true))

pub loop-party-preserved : goal.loop-party-preserved
loop-party-preserved c =
    let told : ℕ → Bool = λ p. true in
    let i = c.loop-party.party-index in
    let marks = c.loop-party.ready in
    record {
      told = ap (told_all told (drop (i + 1) c.args.parties.now)) c.insert.ensures
          ∙ sym (told_all-step told c.args.parties.now i nobody_here marks c.loop-party-test.true) ∙ c.loop-party.invariant.told;
      room = ap length c.insert.ensures ∙ set-length marks (get_or c.args.parties.now i nobody_here).pid true ∙ c.loop-party.invariant.room;
    }

pub returns : goal.returns
returns c = sym (told_all-end (λ p. true) c.args.parties.now c.loop-party.party-index c.loop-party.ready c.loop-party-test.false) ∙ c.loop-party.invariant.told
