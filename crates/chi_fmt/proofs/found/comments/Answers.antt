use Rattle.std.proofs.Common.{◌++◌, ap, arith}
use Rattle.chi_lex.proofs.LawLemmas.{Reads-SpanFrom}
use Rattle.chi_fmt.specs.Comments.{comments_of}
use Rattle.chi_fmt.proofs.found.comments.Goals as goal

pub loop-t-init : goal.loop-t-init
loop-t-init c = (
  ap (λ found. found ++ comments_of c.args.source.now c.args.tokens.now) c.new.ensures.items,
  Reads-SpanFrom c.args.source.now c.args.tokens.now c.requires.read,
  omega arith,
  omega arith,
)
