use Rattle.chi_trace.proofs.Kept.{kept_answer}
use Rattle.chi_trace.proofs.probe.ProbeSieve.shown.Goals as goal

pub returns : goal.returns
returns dyn c = record { tells = kept_answer _ _ _ c.args.self.now.faithful c.args.event c.ask.result c.ask.ensures.in_range c.ask.ensures.asked }
