use Rattle.std.proofs.Common.{◌==◌, refl, sym, ap, ◌∙◌}
use Rattle.chi_grammar.specs.RuleRuns as runs
use Rattle.chi_grammar.specs.Sample.{sample, sample_table, has_round, open_round}
use Rattle.chi_grammar.proofs.Exits.{read, run_word}
use Rattle.chi_grammar.proofs.sums.take_if.Goals as goal

pub returns-then-begins : goal.returns-then-begins
returns-then-begins c room =
    let sign = c.in_ok-end.ensures in
    read sample sample_table _ has_round c.requires.inside
    (runs.once (sym c.begins.ensures ∙ c.if-begins.true) (run_word sample sample_table _ sign))
    (ap (λ x. x == open_round) sign.of_class ∙ c.requires.no_bracket)

pub returns : goal.returns
returns c room = read sample sample_table _ has_round c.requires.inside (runs.never (sym c.begins.ensures ∙ c.if-begins.false)) refl
