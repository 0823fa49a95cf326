use Rattle.std.proofs.Common.{ap}
use Rattle.chi_grammar.specs.Rules.{part}
use Rattle.chi_grammar.specs.RuleRuns as runs
use Rattle.chi_grammar.proofs.Exits.{read, failed}
use Rattle.chi_tree.specs.declared.type_tree.TypeTree.TheVariants as type
use Rattle.chi_tree.specs.declared.type_tree.TypeWord.TheVariants as type_word
use Rattle.chi_tree.specs.Parts as s
use Rattle.chi_tree.specs.Rules.{grammar}
use Rattle.chi_tree.specs.Tables.{table}
use Rattle.chi_tree.specs.Words.{type_words}
use Rattle.chi_tree.specs.View.{given_or, type_of}
use Rattle.chi_parse_look.proofs.Words.{run_one_of, run_none_of}
use Rattle.chi_parse_expr.proofs.Rows.{type_word_row}
use Rattle.chi_parse_expr.proofs.types.word_type.Goals as goal

pub returns-in_err-word : goal.returns-in_err-word
returns-in_err-word c room =
    failed grammar table _ type_of _ (part s.WordType) _ _ _ c.from_residual.ensures.1
    (runs.part_fails (run_none_of type_words.first type_words.more c.in_err-word.ensures))

pub returns : goal.returns
returns c room =
    let word = c.in_ok-word.ensures in
    read grammar table _ type_of c.requires.inside
    (runs.part (run_one_of type_words.first type_words.more word))
    (λ i. type.Word (ap (given_or type_word.Bool) c.type_word_of.ensures i) c.in_ok-word.word.now.place)

pub type_word_of-requires : goal.type_word_of-requires
type_word_of-requires c = type_word_row c.in_ok-word.word.now.token c.in_ok-word.ensures.of_classes
