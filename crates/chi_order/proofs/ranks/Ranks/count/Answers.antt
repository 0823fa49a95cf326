use Rattle.std.proofs.Common.{◌≡◌, List, Bool, length, subst, sym, ◌∙◌}
use Rattle.chi_order.specs.Marked.{members}
use Rattle.chi_order.proofs.Words.{length-members}
use Rattle.chi_order.proofs.ranks.Ranks.count.Goals as goal

pub returns : goal.returns
returns c =
    subst (λ (marks : List Bool). c.self.inside.count ≡ length (members marks)) c.self.view_is
    (c.self.invariant.all ∙ sym (length-members c.self.inside.words.items))
