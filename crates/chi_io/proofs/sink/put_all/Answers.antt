use Rattle.std.proofs.Common.{◌<◌, length, ap, arith}
use Rattle.chi_io.proofs.Passed.{Passed-took, Passed-some}
use Rattle.chi_io.proofs.sink.put_all.Goals as goal

pub loop-rest-preserved : goal.loop-rest-preserved
loop-rest-preserved g c =
    let puts = c.in-Took.ensures.puts in
    let left : 0 < length c.loop-rest.rest.now = omega (arith, puts) in
    record {
      passed = rw c.split_at.ensures.back (Passed-took _ _ _ _ _ _ c.loop-rest.invariant.passed puts.2);
      goes_on = puts.3;
      count = omega (arith, c.in-Took.ensures.count, c.loop-rest.invariant.count);
      nothing = λ none. absurd (omega (arith, ap length none, Passed-some _ _ _ _ c.loop-rest.invariant.passed left));
    }
