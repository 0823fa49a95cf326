use Rattle.std.proofs.Common.{[], ◌∷◌, ◌+◌, reverse, sym, ap, ◌∙◌}
use Rattle.chi_exec_law.specs.Runs.{Goes}
use Rattle.chi_exec_law.specs.State.{state, frame_of}
use Rattle.chi_exec_law.specs.Instructions.{entered}
use Rattle.chi_exec_steps.specs.Views.{state_of, under_of, frame_in, callers_of}
use Rattle.chi_exec_steps.proofs.Turns.{enough, many_off}
use Rattle.chi_exec_steps.proofs.calling.enter.Goals as goal

pub returns-clause-goes : goal.returns-clause-goes
returns-clause-goes c =
    let f = c.args.f.now in
    let m = c.args.m.now in
    many_off f.arity m.stack.items (λ arguments rest. Goes (entered f arguments rest (state_of m))) (enough f.arity m.stack.items [] _ c.requires.sound)
    ∙ (λ j. Goes (state f.entry (reverse (sym c.in_ok-frame.ensures.rest j)) (frame_of (sym c.in_ok-frame.ensures.begun j) (under_of (sym c.in_ok-frame.ensures.idle j)))
    (record { back = m.at + 1; frame = frame_in m.frame.value } ∷ callers_of m.callers.items) m.view))
    ∙ ap Goes (sym c.in_ok-go_within.ensures.goes)
