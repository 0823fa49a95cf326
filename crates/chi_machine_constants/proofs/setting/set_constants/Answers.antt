use Rattle.std.proofs.Common.{[], List, sym, subst}
use Rattle.chi_value.specs.declared.value.Value.{Value}
use Rattle.chi_machine_constants.specs.declared.setting.Next.{Next}
use Rattle.chi_machine_constants.specs.Moves.{Moved}
use Rattle.chi_machine_constants.specs.Settings.{LeadsTo, AreSet}
use Rattle.chi_machine_constants.proofs.Once.{all_set, broken_from, leads_further, leads_nowhere, may_further}
use Rattle.chi_machine_constants.proofs.setting.set_constants.Goals as goal

pub loop-constant-init : goal.loop-constant-init
loop-constant-init c =
    subst (λ (l : List Value). LeadsTo c.args.code.now c.args.seed 0 [] 0 l) (sym c.new-values.ensures.items) (leads_nowhere c.args.code.now c.args.seed 0 [])

pub set_next-requires-clause-may : goal.set_next-requires-clause-may
set_next-requires-clause-may c = may_further c.args.code.now c.args.seed 0 c.loop-constant.at [] c.loop-constant.values.items c.loop-constant.invariant c.requires.may

pub loop-constant-preserved : goal.loop-constant-preserved
loop-constant-preserved c =
    leads_further c.args.code.now c.args.seed 0 c.loop-constant.at c.in-Set.place [] c.loop-constant.values.items c.set_next.new.values.items c.loop-constant.invariant
    (subst (λ (n : Next). Moved c.args.code.now c.args.seed c.loop-constant.at c.loop-constant.values.items n c.set_next.new.values.items) c.in-Set.is c.in_ok-next.ensures)

pub returns-in-Over : goal.returns-in-Over
returns-in-Over c =
    let o = subst (λ (n : Next). Moved c.args.code.now c.args.seed c.loop-constant.at c.loop-constant.values.items n c.set_next.new.values.items) c.in-Over.is c.in_ok-next.ensures in
    subst (λ (l : List Value). AreSet c.args.code.now c.args.seed l) (sym o.1)
    (all_set c.args.code.now c.args.seed c.loop-constant.at c.loop-constant.values.items c.loop-constant.invariant o.0)

pub returns-in-Broken : goal.returns-in-Broken
returns-in-Broken c =
    broken_from c.args.code.now c.args.seed 0 c.loop-constant.at [] c.loop-constant.values.items c.in-Broken.kind c.in-Broken.line c.loop-constant.invariant
    (subst (λ (n : Next). Moved c.args.code.now c.args.seed c.loop-constant.at c.loop-constant.values.items n c.set_next.new.values.items) c.in-Broken.is c.in_ok-next.ensures)
