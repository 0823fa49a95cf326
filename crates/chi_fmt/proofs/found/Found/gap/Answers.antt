use Rattle.std.proofs.Common.{◌+◌, ◌-◌, length, take, drop, refl, arith}
use Rattle.std.proofs.lemmas.Grind.{common_steps}
use Rattle.std.proofs.lemmas.Result.{on_ok_weaker}
use Rattle.chi_fmt.proofs.FoundLines.{gap_last, gap_step, left_within}
use Rattle.chi_fmt.proofs.found.Found.gap.Goals as goal

pub lines-preserved : goal.lines-preserved
lines-preserved c = (
  gap_step c.args.before c.lines.stop c.lines.rest.now (take c.lines.stop c.lines.rest.now) (take (length c.lines.rest.now - (c.lines.stop + 1)) (drop (c.lines.stop + 1) c.lines.rest.now)) c.lines.self.comments.items _ _ c.in_ok-line.ensures c.lines.invariant.0 c.lines.invariant.1
      (omega arith) refl (grind (arith, common_steps)),
  c.first_index-stop-in-lines.ensures.first,
  c.first_index-stop-in-lines.ensures.within,
  left_within c.lines.stop _ c.lines.rest.now _ c.lines.invariant.3 (grind (arith, common_steps)),
)

pub returns : goal.returns
returns c =
    on_ok_weaker c.line-2.result
    (gap_last c.args.before c.lines.stop c.lines.rest.now c.lines.self.comments.items _ _ c.lines.invariant.1 c.lines.invariant.2 (omega arith) c.lines.invariant.0)
    c.line-2.ensures
