use Rattle.std.proofs.Common.{rules, ◌≡◌, true, false, arith}
use Rattle.std.proofs.lemmas.Int.{ints}
use Rattle.chi_ops.specs.Progression.{comes_before}
use Rattle.chi_ops.proofs.Walks.{near, walk_on, one_more, no_more}
use Rattle.chi_ops.proofs.walk.Walk.step.Goals as goal

pub returns-then-comes_before-clause-fit : goal.returns-then-comes_before-clause-fit
returns-then-comes_before-clause-fit c =
    let w = c.args.self.now in
    let before : comes_before w.by w.next w.last ≡ true = search rules in
    let bound = near w c.requires before in
    let size = c.requires.step in
    walk_on w _ c.requires (omega (arith, ints, bound, size))

pub returns-then-comes_before-clause-ints : goal.returns-then-comes_before-clause-ints
returns-then-comes_before-clause-ints c =
    let w = c.args.self.now in
    let before : comes_before w.by w.next w.last ≡ true = search rules in
    let bound = near w c.requires before in
    let size = c.requires.step in
    one_more w _ _ c.requires before (omega (arith, ints, bound)) (omega (arith, ints, bound, size))

pub returns-else-comes_before-clause-ints : goal.returns-else-comes_before-clause-ints
returns-else-comes_before-clause-ints c =
    let w = c.args.self.now in
    let before : comes_before w.by w.next w.last ≡ false = search rules in
    no_more w before
