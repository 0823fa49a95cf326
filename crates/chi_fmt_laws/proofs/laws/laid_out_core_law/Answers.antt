use Rattle.chi_fmt_laws.proofs.Alike.{of_source, accepted_alike}
use Rattle.chi_fmt_laws.proofs.laws.laid_out_core_law.Goals as goal

pub returns : goal.returns
returns c source tokens tree core reads is answers =
    accepted_alike c.streams_without_lines.ensures tree core answers
    (c.laid_out_law.ensures tree _ (of_source reads is) (c.comments_law.ensures source tokens))
