use Rattle.chi_dist.proofs.Successes.{one_more, taken_more, is_one, one_at_most}
use Rattle.chi_dist.proofs.stream.Stream.successes.Goals as goal

pub loop-trial-preserved : goal.loop-trial-preserved
loop-trial-preserved c =
    let l = c.loop-trial in (
      λ seed kept. (
        one_more seed c.args.number c.args.self.now.taken l._trial l.self.taken c.draw.result l.successes c.from-successes.result c.args.chance l.invariant.1
            (c.draw.ensures.draw seed (l.invariant.0 seed kept).1) (is_one _ _ _ c.succeeds.ensures c.from-successes.ensures) (l.invariant.0 seed kept).0,
        c.draw.ensures.kept seed (l.invariant.0 seed kept).1,
      ),
      taken_more c.args.self.now.taken l._trial l.self.taken c.draw.new.self.taken l.invariant.1 c.draw.ensures.taken,
      one_at_most _ _ _ _ c.from-successes.ensures l.invariant.2,
    )
