use Rattle.std.proofs.Common.{refl, sym, subst, ◌∙◌}
use Rattle.std.specs.Prelude.{IfErr}
use Rattle.chi_exec_steps.specs.Views.{state_of}
use Rattle.chi_machine_laws.specs.Deeds.{Deed, aims_of}
use Rattle.chi_machine_runs.specs.Views.{brought_of, Failed}
use Rattle.chi_machine_runs.proofs.News.{keys_taken}
use Rattle.chi_machine_runs.proofs.making.make_by.Goals as goal

pub make_with-requires-clause-sound : goal.make_with-requires-clause-sound
make_with-requires-clause-sound c =
    let making = c.args.making.now in
    let code = c.args.w.now.code.now in
    λ stuck. c.requires.sound
    (keys_taken code making.process (aims_of making.target.now) making.entry.now c.in_ok-keys.keys.items c.args.m.now.stack.items (state_of c.args.m.now)
    (brought_of code c.args.opened.now c.args.brought.now) c.pop_many.new.stack.items refl c.in_ok-keys.ensures.rest (c.in_ok-keys.ensures.many ∙ c.key_count.ensures) ∙ stuck)

pub returns-clause-ends : goal.returns-clause-ends
returns-clause-ends c =
    let making = c.args.making.now in
    let code = c.args.w.now.code.now in
    subst (λ (d : Deed). IfErr c.make_with.result (λ stop. Failed stop d))
    (sym (keys_taken code making.process (aims_of making.target.now) making.entry.now c.in_ok-keys.keys.items c.args.m.now.stack.items (state_of c.args.m.now)
    (brought_of code c.args.opened.now c.args.brought.now) c.pop_many.new.stack.items refl c.in_ok-keys.ensures.rest (c.in_ok-keys.ensures.many ∙ c.key_count.ensures)))
    c.make_with.ensures.ends
