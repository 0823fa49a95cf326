use Rattle.std.proofs.Common.{◌∙◌, [], ap, sym, refl}
use Rattle.std.specs.List.{slice_get}
use Rattle.std.proofs.lemmas.List.{append-nil}
use Rattle.chi_core.specs.declared.label.Label.{Label}
use Rattle.chi_core.specs.Config.{with_view}
use Rattle.chi_core.specs.Meeting.{offer_at, paired, woken, joined, next_due, advanced}
use Rattle.chi_core.specs.Step.{taken}
use Rattle.chi_plain_steps.proofs.Moves.{step_none, move_gives}
use Rattle.chi_plain_steps.proofs.configuration.Configuration.take.Goals as goal
use Rattle.chi_plain_steps.proofs.configuration.Configuration.take.Goals.{in-Pair+in_ok-pair-in-Pair, in-Wake+in_ok-wake-in-Wake, in-Join, in-Advance}

pub returns-then-left-eq0-clause-taken : goal.returns-then-left-eq0-clause-taken
returns-then-left-eq0-clause-taken c =
    ([], sym (append-nil c.args.out.now.items), (step_none c.args.core.now c.args.self.now c.args.label.now c.args.left c.if-left-eq0.true, refl, refl))

pub returns-clause-taken : goal.returns-clause-taken
returns-clause-taken c =
    elim c.match-label.branch [
      | in-Pair+in_ok-pair-in-Pair w ↦ (
        [],
        sym (append-nil c.args.out.now.items),
        move_gives c.args.core.now c.args.self.now c.args.label.now c.args.left c.view-view.result (paired c.args.self.now w.in-Pair.pid (slice_get c.args.self.now.instances w.in-Pair.pid) (offer_at (slice_get c.args.self.now.instances w.in-Pair.pid) w.in-Pair.number) w.in-Pair.other (slice_get c.args.self.now.instances w.in-Pair.other) (offer_at (slice_get c.args.self.now.instances w.in-Pair.other) w.in-Pair.accepting) c.view-view.result) w.pair.new.self c.use_up.new.self c.if-left-eq0.false c.view-view.ensures
            (ap (λ (l : Label). taken c.args.core.now c.args.self.now l c.view-view.result) w.in-Pair.is) w.in_ok-pair-in-Pair.ensures (c.use_up.ensures ∙ ap (with_view c.view-view.result) w.self-is),
      )
      | in-Wake+in_ok-wake-in-Wake w ↦ (
        [],
        sym (append-nil c.args.out.now.items),
        move_gives c.args.core.now c.args.self.now c.args.label.now c.args.left c.view-view.result (woken c.args.self.now w.in-Wake.pid (slice_get c.args.self.now.instances w.in-Wake.pid) (offer_at (slice_get c.args.self.now.instances w.in-Wake.pid) w.in-Wake.number) c.view-view.result) w.wake.new.self c.use_up.new.self c.if-left-eq0.false c.view-view.ensures
            (ap (λ (l : Label). taken c.args.core.now c.args.self.now l c.view-view.result) w.in-Wake.is) w.in_ok-wake-in-Wake.ensures (c.use_up.ensures ∙ ap (with_view c.view-view.result) w.self-is),
      )
      | in-Join w ↦ (
        [],
        sym (append-nil c.args.out.now.items),
        move_gives c.args.core.now c.args.self.now c.args.label.now c.args.left c.view-view.result (joined c.args.self.now w.in-Join.pid (slice_get c.args.self.now.instances w.in-Join.pid) c.view-view.result) w.join.new.self c.use_up.new.self c.if-left-eq0.false c.view-view.ensures
            (ap (λ (l : Label). taken c.args.core.now c.args.self.now l c.view-view.result) w.in-Join.is) w.join.ensures (c.use_up.ensures ∙ ap (with_view c.view-view.result) w.self-is),
      )
      | in-Advance w ↦ (
        [],
        sym (append-nil c.args.out.now.items),
        move_gives c.args.core.now c.args.self.now c.args.label.now c.args.left c.view-view.result (advanced c.args.self.now (next_due c.args.self.now) c.view-view.result) w.advance.new.self c.use_up.new.self c.if-left-eq0.false c.view-view.ensures
            (ap (λ (l : Label). taken c.args.core.now c.args.self.now l c.view-view.result) w.in-Advance.is) w.advance.ensures (c.use_up.ensures ∙ ap (with_view c.view-view.result) w.self-is),
      )
    ]
