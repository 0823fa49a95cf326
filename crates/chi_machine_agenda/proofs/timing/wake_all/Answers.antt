use Rattle.std.proofs.Common.{◌≡◌, ℤ, List, Bool, Option, Some, None, true, false, length, sym, ◌∙◌, ap, subst, rules, arith}
use Rattle.std.proofs.lemmas.Int.{to_z-of_z}
use Rattle.std.specs.Prelude.{int_lt, not, slice_set}
use mir.Val.{to_z, of_z, SFits}
use mir.Syntax.{w64}
use Rattle.chi_machine_agenda.specs.Timed.{AreWoken, due_count, is_due}
use Rattle.chi_machine_agenda.proofs.Lists.{set-length}
use Rattle.chi_machine_agenda.proofs.Times.{AreWaking, count-less, waking-more, waking-later, waking-room}
use Rattle.chi_machine_agenda.proofs.timing.wake_all.Goals as goal

pub loop-due-preserved : goal.loop-due-preserved
loop-due-preserved g c =
    let k = to_z w64 (of_z w64 c.args.clock) in
    let t = c.in-Some.due in
    let x = c.in-Some.pid in
    let f : SFits w64 t = search rules in
    let marks = c.args.ready.now in
    let times = c.args.dues.now in
    let i = c.loop-due.invariant in
    let h = waking-room k marks c.loop-due.ready times c.loop-due.dues x t i.waking c.in-Some.ensures.is_due c.requires.room i.ready in
    let d : is_due k (Some t) ≡ true = sym (ap (λ (u : ℤ). not (int_lt k u)) (to_z-of_z w64 t f)) ∙ sym c.is_due.ensures ∙ c.if-not-is_due.false in
    record {
      waking = subst (λ (m : List Bool). AreWaking k marks m times c.withdraw.new.self) (sym c.insert.ensures)
          (subst (λ (ts : List (Option ℤ)). AreWaking k marks (slice_set c.loop-due.ready x true) times ts) (sym c.withdraw.ensures.taken)
          (waking-more k marks c.loop-due.ready times c.loop-due.dues x t i.waking c.in-Some.ensures.is_due d h));
      ready = ap length c.insert.ensures ∙ set-length c.loop-due.ready x true ∙ i.ready;
      dues = ap length c.withdraw.ensures.taken ∙ set-length c.loop-due.dues x None ∙ i.dues;
    }

pub loop-due-smaller : goal.loop-due-smaller
loop-due-smaller g c =
    let e = ap due_count c.withdraw.ensures.taken in
    let h = count-less c.loop-due.dues c.in-Some.pid c.in-Some.due c.in-Some.ensures.is_due in
    omega (arith, e, h)

pub insert-requires : goal.insert-requires
insert-requires g c =
    let i = c.loop-due.invariant in
    waking-room (to_z w64 (of_z w64 c.args.clock)) c.args.ready.now c.loop-due.ready c.args.dues.now c.loop-due.dues c.in-Some.pid c.in-Some.due i.waking c.in-Some.ensures.is_due
    c.requires.room i.ready

pub returns-then-not-is_due-clause-woken : goal.returns-then-not-is_due-clause-woken
returns-then-not-is_due-clause-woken g c =
    let k = to_z w64 (of_z w64 c.args.clock) in
    let t = c.in-Some.due in
    let f : SFits w64 t = search rules in
    let d : is_due k (Some t) ≡ false = sym (ap (λ (u : ℤ). not (int_lt k u)) (to_z-of_z w64 t f)) ∙ sym c.is_due.ensures ∙ c.if-not-is_due.true in
    subst (λ (u : ℤ). AreWoken u c.args.ready.now c.loop-due.ready c.args.dues.now c.loop-due.dues) (to_z-of_z w64 c.args.clock c.ranges.clock)
    (waking-later k c.args.ready.now c.loop-due.ready c.args.dues.now c.loop-due.dues t c.in-Some.pid c.loop-due.invariant.waking c.in-Some.ensures d)
