use Rattle.std.proofs.Common.{sym, ap, ◌∙◌}
use Rattle.chi_grammar.specs.Rules.{leaf, part}
use Rattle.chi_grammar.specs.RuleRuns as runs
use Rattle.chi_grammar.proofs.Exits.{read, failed}
use Rattle.chi_tree.specs.Parts as s
use Rattle.chi_tree.specs.Rules.{grammar}
use Rattle.chi_tree.specs.Tables.{table}
use Rattle.chi_tree.specs.Words.{launch_words}
use Rattle.chi_tree.specs.Statements.{last_ends, launched}
use Rattle.chi_parse_look.proofs.Words.{run_one_of, run_none_of}
use Rattle.chi_parse.specs.Heads.{shown}
use Rattle.chi_parse.proofs.Rows.{launch_row}
use Rattle.chi_parse.proofs.launches.launch.Goals as goal

pub returns-in_err-word : goal.returns-in_err-word
returns-in_err-word c = failed grammar table _ shown _ (part s.Launch) _ _ _ c.from_residual.ensures.1
    (runs.part_fails (runs.first_fails (run_none_of launch_words.first launch_words.more c.in_err-word.ensures)))

pub returns-in_err-elements : goal.returns-in_err-elements
returns-in_err-elements c = failed grammar table _ shown _ (part s.Launch) _ _ _ c.from_residual-in_err-elements.ensures.1
    (runs.part_fails (runs.next_fails (run_one_of launch_words.first launch_words.more c.in_ok-word.ensures) c.in_err-elements.ensures))

pub returns : goal.returns
returns c = read grammar table _ (shown) c.requires.inside
    (runs.part (runs.both (run_one_of launch_words.first launch_words.more c.in_ok-word.ensures) c.in_ok-elements.ensures.runs))
    (λ i. ((ap (launched (leaf c.in_ok-word.word.now)) (c.in_ok-elements.ensures.shows) ∙ sym c.launched.ensures) i, (ap last_ends ((c.in_ok-elements.ensures.shows) ∙ sym c.as_slice.ensures.same) ∙ sym c.last_ends-ends.ensures) i))

pub launched-requires : goal.launched-requires
launched-requires c = launch_row c.in_ok-word.word.now.token c.in_ok-word.ensures.of_classes
