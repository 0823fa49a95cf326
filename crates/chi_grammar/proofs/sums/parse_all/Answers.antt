use Rattle.chi_grammar.specs.Rules.{part}
use Rattle.chi_grammar.specs.Sample.{Sum, sample, has_round}
use Rattle.chi_grammar.proofs.Exact.{more_left, all_failed}
use Rattle.chi_grammar.proofs.sums.parse_all.Goals as goal

pub returns-in_err-shown : goal.returns-in_err-shown
returns-in_err-shown c = all_failed sample _ (part Sum) has_round has_round _ _ _ c.from_residual.ensures.1 c.in_err-shown.ensures

pub returns-then-end-tokens : goal.returns-then-end-tokens
returns-then-end-tokens c = more_left sample _ (part Sum) has_round _ _ _ c.in_ok-shown.ensures c.if-end-tokens.true
