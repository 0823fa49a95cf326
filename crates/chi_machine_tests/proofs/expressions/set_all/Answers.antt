use Rattle.std.proofs.Common.{List, length, ap, sym, subst, arith}
use Rattle.chi_value.specs.declared.value.Value.{Value}
use Rattle.chi_machine_tests.specs.Programs.{StandAt}
use Rattle.chi_machine_tests.proofs.Constants.{all_kinded, first_stand}
use Rattle.chi_machine_tests.proofs.expressions.set_all.Goals as goal

pub loop-constant-init : goal.loop-constant-init
loop-constant-init g c =
    let core = c.args.p.now.core in
    let code = c.args.p.now.code in
    record {
      stand = subst (λ (values : List Value). StandAt core code values 0) (sym c.requires.none) (first_stand core code c.requires.has);
      count = ap length (sym c.requires.none);
      right = c.requires.right;
    }

pub set_next-requires-clause-more : goal.set_next-requires-clause-more
set_next-requires-clause-more g c =
    let l = c.loop-constant-test.true in
    let all = ap length c.as_slice-constant-items.ensures.same in
    let count = c.loop-constant.invariant.count in
    omega (arith, l, all, count)

pub returns-clause-kinded : goal.returns-clause-kinded
returns-clause-kinded g c =
    let all = ap length c.as_slice-constant-items.ensures.same in
    let count = c.loop-constant.invariant.count in
    all_kinded c.args.p.now.core c.args.p.now.code _ _ c.loop-constant.invariant.stand (omega (arith, all, count))
