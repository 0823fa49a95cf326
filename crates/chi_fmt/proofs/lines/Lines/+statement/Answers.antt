use Rattle.std.proofs.Common.{arith}
use Rattle.std.proofs.lemmas.Result.{on_ok_weaker}
use Rattle.chi_fmt.proofs.Blocks.{block_begin, block_end, block_turn}
use Rattle.chi_fmt.proofs.lines.Lines.+statement.Goals as goal

pub block-loop-step-init : goal.block-loop-step-init
block-loop-step-init t c =
    block_begin c.args.margin c.args.steps.now c.in-Some.front.now c.in-Some.last.now c.args.self.now.lines.items c.in-Some.ensures.cases.0

pub block-loop-step-preserved : goal.block-loop-step-preserved
block-loop-step-preserved t c =
    block_turn c.args.margin c.loop-step.step-index c.in-Some.front.now c.step-item.result c.in-Some.last.now c.loop-step.self.lines.items _ _
    c.in_ok-step.ensures c.loop-step.invariant (omega arith) c.step-item.is

pub block-returns : goal.block-returns
block-returns t c =
    on_ok_weaker c.step-2.result
    (block_end c.args.margin c.loop-step.step-index c.in-Some.front.now c.in-Some.last.now c.loop-step.self.lines.items _ _ (omega arith) c.loop-step.invariant)
    c.step-2.ensures
