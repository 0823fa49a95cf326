use Rattle.std.proofs.Common.{◌++◌, ◌∙◌}
use Rattle.chi_fmt.specs.Pages.{lines_text}
use Rattle.chi_fmt.proofs.Rereads.{reread_as}
use Rattle.chi_fmt.proofs.written.canonical.Goals as goal

pub returns-clause-reread : goal.returns-clause-reread
returns-clause-reread c =
    reread_as c.args.tree.now c.args.comments.now c.lines.new.self.bytes.items
    (c.in_ok-lines-2.ensures.added
    ∙ (λ i. c.new.ensures.items i ++ lines_text 0 ((c.as_slice.ensures.value ∙ c.in_ok-lines.ensures) i) c.args.comments.now))
