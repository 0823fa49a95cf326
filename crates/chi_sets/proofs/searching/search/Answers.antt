use Rattle.std.proofs.Common.{rules}
use Rattle.std.proofs.lemmas.Fn.{always_returns_same}
use Rattle.chi_sets.specs.By.{order_by}
use Rattle.chi_sets.proofs.searching.search.Goals as goal

pub returns-clause-place : goal.returns-clause-place
returns-clause-place c =
    c.binary_search_by.ensures.position (λ y. order_by c.args.by y c.args.x.now) (always_returns_same _ _ _ (λ a r f called. search rules))
