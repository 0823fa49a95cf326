use Rattle.std.proofs.Common.{◌≡◌, Ok, Err, Result, ap, arith, sym, ◌∙◌}
use Rattle.std.specs.Result.{IsErrAnd}
use Rattle.chi_lex.specs.declared.lexer.TheConstants.{MOST_BYTES}
use Rattle.chi_fmt.proofs.PageLines.{line_long, line_step}
use Rattle.chi_fmt.proofs.page.Page.lines.Goals as goal

-- the fault that is handed on
refused : {X E : Type 0} (r : Result X E) (e f : E) → IsErrAnd r (λ x. x ≡ e) → r ≡ Err f → e ≡ f
refused (Ok x) e f h k = absurd h
refused (Err x) e f h k = let same : x ≡ f = cc in sym h ∙ same

pub returns-in_err-line_with-clause-too_long : goal.returns-in_err-line_with-clause-too_long
returns-in_err-line_with-clause-too_long c = λ long.
    line_long MOST_BYTES c.args.lines.now c.loop-line.line-index c.loop-line.passed c.in_ok-stop.stop c.comments_before-count.result c.line-item.result
    c.loop-line.rest.now c.split_at.result.0.now c.split_at.result.1.now c.loop-line.self.bytes.items _
    (omega arith) c.line-item.is c.in_ok-stop.ensures c.comments_before-count.ensures.count c.split_at.ensures.front c.split_at.ensures.back
    c.loop-line.invariant.same (c.in_err-line_with.ensures.too_long (ap Err (refused _ _ _ c.from_residual-in_err-line_with.ensures.1 long)))

pub loop-line-preserved : goal.loop-line-preserved
loop-line-preserved c = record {
  same = line_step c.args.lines.now c.loop-line.line-index c.loop-line.passed c.in_ok-stop.stop c.comments_before-count.result c.in_ok-passed.passed c.line-item.result
      c.loop-line.rest.now c.split_at.result.0.now c.split_at.result.1.now c.loop-line.self.bytes.items _ _
      (omega arith) c.line-item.is c.in_ok-stop.ensures c.comments_before-count.ensures.count c.split_at.ensures.front c.split_at.ensures.back
      c.in_ok-passed.ensures c.loop-line.invariant.same c.in_ok-line_with.ensures.added;
  within = c.in_ok-line_with.ensures.within;
}
