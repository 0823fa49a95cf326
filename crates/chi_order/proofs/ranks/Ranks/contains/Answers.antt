use Rattle.std.proofs.Common.{◌≡◌, ◌%◌, ℕ, List, Bool, ap, ◌∙◌, sym, subst}
use Rattle.chi_order.specs.Counted.{is_set}
use Rattle.chi_order.specs.Marked.{is_marked}
use Rattle.chi_order.proofs.Words.{is_marked-bits, has-at}
use Rattle.chi_order.proofs.ranks.Ranks.contains.Goals as goal

pub returns : goal.returns
returns c =
    subst (λ (marks : List Bool). c.is_set.result ≡ is_marked marks c.args.number) c.self.view_is
    (c.is_set.ensures ∙ ap (λ (n : ℕ). is_set n (c.args.number % 64)) c.word_at.ensures
    ∙ sym (has-at c.self.inside.words.items c.args.number) ∙ sym (is_marked-bits c.self.inside.words.items c.args.number))
