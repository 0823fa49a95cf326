use Rattle.std.proofs.Common.{rules}
use Rattle.std.proofs.lemmas.Fn.{always_returns_same}
use Rattle.chi_sets.specs.Dictionaries.{against_key}
use Rattle.chi_sets.proofs.searching.search_key.Goals as goal

pub returns-clause-place : goal.returns-clause-place
returns-clause-place c = c.binary_search_by.ensures.position (against_key c.args.key.now) (always_returns_same _ _ _ (λ a r f called. search rules))
