use Rattle.chi_explain_expected.proofs.Asked.{followed}
use Rattle.chi_explain_expected.proofs.copies.followed_by.Goals as goal

pub returns-clause-tokens : goal.returns-clause-tokens
returns-clause-tokens c =
    followed c.args.tokens.now c.first_tokens.result.now c.in_ok-all.all.items c.push.new.self.items c.args.k c.nowhere.result c.args.next
    c.first_tokens.ensures c.in_ok-all.ensures c.nowhere.ensures c.in_ok-push.ensures.items
