use Rattle.std.proofs.Common.{ℕ, ℤ, ◌+◌, ◌<◌, Bool, get_or, drop, length, sym, ◌∙◌, ap, subst}
use Rattle.std.proofs.lemmas.Int.{to_z-of_z}
use mir.Val.{to_z, of_z}
use mir.Syntax.{w64}
use Rattle.std.specs.Prelude.{slice_set}
use Rattle.chi_chan.specs.Lined.{nobody_here}
use Rattle.chi_machine_agenda.specs.Asking.{asks, told_all}
use Rattle.chi_machine_agenda.proofs.Lists.{got, set-length}
use Rattle.chi_machine_agenda.proofs.Telling.{told_all-step, told_all-end}
use Rattle.chi_machine_agenda.proofs.marking.ask_all.Goals as goal

pub tell-requires : goal.tell-requires
tell-requires c =
    let i = c.loop-party.party-index in
    let its = get_or c.args.parties.now i nobody_here in
    subst (λ (n : ℕ). its.pid < n) (sym c.loop-party.invariant.room) (c.requires i its (got c.args.parties.now i nobody_here c.loop-party-test.true))

pub loop-party-preserved : goal.loop-party-preserved
loop-party-preserved c =
    let told : ℕ → Bool = asks c.args.waiting.now (to_z w64 (of_z w64 c.args.clock)) in
    let i = c.loop-party.party-index in
    let its = get_or c.args.parties.now i nobody_here in
    let marks = c.loop-party.ready in
    record {
      told = ap (told_all told (drop (i + 1) c.args.parties.now)) (c.tell.ensures ∙ ap (λ b. slice_set marks its.pid b) c.asks.ensures)
          ∙ sym (told_all-step told c.args.parties.now i nobody_here marks c.loop-party-test.true) ∙ c.loop-party.invariant.told;
      room = ap length c.tell.ensures ∙ set-length marks its.pid c.asks.result ∙ c.loop-party.invariant.room;
    }

pub returns : goal.returns
returns c =
    let k = to_z-of_z w64 c.args.clock c.ranges.clock in
    let told : ℤ → ℕ → Bool = asks c.args.waiting.now in
    sym (told_all-end (told (to_z w64 (of_z w64 c.args.clock))) c.args.parties.now c.loop-party.party-index c.loop-party.ready c.loop-party-test.false)
    ∙ c.loop-party.invariant.told ∙ ap (λ (t : ℤ). told_all (told t) c.args.parties.now c.args.ready.now) k
