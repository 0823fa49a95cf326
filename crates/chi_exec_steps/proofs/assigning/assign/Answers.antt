use Rattle.std.proofs.Common.{◌≡◌, rules, sym, subst, ◌∙◌, arith}
use Rattle.std.specs.Prelude.{IfErr, OnOk}
use Rattle.chi_exec_law.specs.Runs.{Goes}
use Rattle.chi_exec_law.specs.State.{Step}
use Rattle.chi_exec_law.specs.Instructions.{assign_on}
use Rattle.chi_exec_steps.specs.Assigned.{assign_item_on}
use Rattle.chi_exec_steps.specs.Views.{state_of, Ended}
use Rattle.chi_exec_steps.proofs.Aims.{only_one, item_one}
use Rattle.chi_exec_steps.proofs.assigning.assign.Goals as goal

pub assign_item-requires-clause-sound : goal.assign_item-requires-clause-sound
assign_item-requires-clause-sound c = λ stuck.
    c.requires.sound
    (item_one c.args.aims.now c.aim-item.result (state_of c.args.m.now) (only_one c.args.aims.now c.aim-item.result (omega arith) c.aim-item.is)
    (sym c.as_slice-steps.ensures.same ∙ c.is_one_index.ensures (search rules)) ∙ stuck)

pub returns-then-is_one_index-clause-goes : goal.returns-then-is_one_index-clause-goes
returns-then-is_one_index-clause-goes c =
    let is : assign_on c.args.aims.now (state_of c.args.m.now) ≡ assign_item_on c.aim-item.result.slot (state_of c.args.m.now) =
    item_one c.args.aims.now c.aim-item.result (state_of c.args.m.now) (only_one c.args.aims.now c.aim-item.result (omega arith) c.aim-item.is)
    (sym c.as_slice-steps.ensures.same ∙ c.is_one_index.ensures (search rules)) in
    subst (λ (n : Step). OnOk c.assign_item.result (n ≡ Goes (state_of c.assign_item.new.m))) (sym is) c.assign_item.ensures.goes

pub returns-then-is_one_index-clause-ends : goal.returns-then-is_one_index-clause-ends
returns-then-is_one_index-clause-ends c =
    let is : assign_on c.args.aims.now (state_of c.args.m.now) ≡ assign_item_on c.aim-item.result.slot (state_of c.args.m.now) =
    item_one c.args.aims.now c.aim-item.result (state_of c.args.m.now) (only_one c.args.aims.now c.aim-item.result (omega arith) c.aim-item.is)
    (sym c.as_slice-steps.ensures.same ∙ c.is_one_index.ensures (search rules)) in
    subst (λ (n : Step). IfErr c.assign_item.result (λ stop. Ended stop n)) (sym is) c.assign_item.ensures.ends
