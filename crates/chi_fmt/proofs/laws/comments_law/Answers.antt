use Rattle.chi_fmt.proofs.CommentTexts.{comments-are}
use Rattle.chi_fmt.proofs.laws.comments_law.Goals as goal

pub returns : goal.returns
returns c = comments-are
