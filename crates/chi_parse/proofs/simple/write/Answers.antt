use Rattle.std.proofs.Common.{false, ◌++◌, sym, ap, ◌∙◌}
use Rattle.chi_grammar.specs.declared.room.Nesting.TheVariants.{Expression}
use Rattle.chi_grammar.specs.Rules.{part}
use Rattle.chi_grammar.specs.RuleRuns as runs
use Rattle.chi_grammar.proofs.Exits.{read, run_word, run_no_word, run_refused, failed, no_memory}
use Rattle.chi_tree.specs.declared.statement.Statement.TheVariants as statement
use Rattle.chi_tree.specs.Parts as s
use Rattle.chi_tree.specs.Rules.{grammar}
use Rattle.chi_tree.specs.Tables.{table}
use Rattle.chi_tree.specs.Words.{write_words}
use Rattle.chi_tree.specs.View.{given_or, more_exprs_of}
use Rattle.chi_tree.specs.Statements.{statement_of}
use Rattle.chi_parse_look.proofs.Words.{run_one_of, run_none_of}
use Rattle.chi_parse.proofs.Rows.{write_row}
use Rattle.chi_parse.proofs.simple.write.Goals as goal

pub returns-in_err-word : goal.returns-in_err-word
returns-in_err-word c = failed grammar table _ statement_of _ (part s.Write) _ _ _ c.from_residual.ensures.1
    (runs.part_fails (runs.first_fails (run_none_of write_words.first write_words.more c.in_err-word.ensures)))

pub returns-in_err-inner : goal.returns-in_err-inner
returns-in_err-inner c = failed grammar table _ statement_of _ (part s.Write) _ _ _ c.from_residual-in_err-inner.ensures.1
    (runs.part_fails (runs.next_fails (run_one_of write_words.first write_words.more c.in_ok-word.ensures) (run_refused grammar table _ _ Expression (part s.Written) _ _ c.in_err-inner.ensures.0 c.in_err-inner.ensures.1)))

pub returns-in_err-from : goal.returns-in_err-from
returns-in_err-from c = failed grammar table _ statement_of _ (part s.Write) _ _ _ c.from_residual-in_err-from.ensures.1
    (runs.part_fails (runs.next_fails (run_one_of write_words.first write_words.more c.in_ok-word.ensures) (runs.deeper c.in_ok-inner.ensures (runs.part_fails (runs.first_fails (run_no_word grammar table _ c.in_err-from.ensures))))))

pub returns-in_err-text : goal.returns-in_err-text
returns-in_err-text c = failed grammar table _ statement_of _ (part s.Write) _ _ _ c.from_residual-in_err-text.ensures.1
    (runs.part_fails (runs.next_fails (run_one_of write_words.first write_words.more c.in_ok-word.ensures) (runs.deeper c.in_ok-inner.ensures (runs.part_fails (runs.next_fails (run_word grammar table _ c.in_ok-from.ensures) (runs.first_fails (run_no_word grammar table _ c.in_err-text.ensures)))))))

pub returns-in_err-values : goal.returns-in_err-values
returns-in_err-values c = failed grammar table _ statement_of _ (part s.Write) _ _ _ c.from_residual-in_err-values.ensures.1
    (runs.part_fails (runs.next_fails (run_one_of write_words.first write_words.more c.in_ok-word.ensures) (runs.deeper c.in_ok-inner.ensures (runs.part_fails (runs.next_fails (run_word grammar table _ c.in_ok-from.ensures) (runs.next_fails (run_word grammar table _ c.in_ok-text.ensures) (runs.first_fails c.in_err-values.ensures)))))))

pub returns-in_err-end : goal.returns-in_err-end
returns-in_err-end c = failed grammar table _ statement_of _ (part s.Write) _ _ _ c.from_residual-in_err-end.ensures.1
    (runs.part_fails (runs.next_fails (run_one_of write_words.first write_words.more c.in_ok-word.ensures) (runs.deeper c.in_ok-inner.ensures (runs.part_fails (runs.next_fails (run_word grammar table _ c.in_ok-from.ensures) (runs.next_fails (run_word grammar table _ c.in_ok-text.ensures) (runs.next_fails c.in_ok-values.ensures.runs (run_no_word grammar table _ c.in_err-end.ensures))))))))

pub returns-in_err-format : goal.returns-in_err-format
returns-in_err-format c = no_memory grammar table _ statement_of _ (part s.Write) _ _ c.from_residual-in_err-format.ensures.1

pub returns : goal.returns
returns c = read grammar table _ (statement_of) c.requires.inside
    (runs.part (runs.both (run_one_of write_words.first write_words.more c.in_ok-word.ensures) (runs.deeper c.in_ok-inner.ensures (runs.part (runs.both (run_word grammar table _ c.in_ok-from.ensures) (runs.both (run_word grammar table _ c.in_ok-text.ensures) (runs.both c.in_ok-values.ensures.runs (run_word grammar table _ c.in_ok-end.ensures))))))))
    (λ i. statement.Write c.in_ok-word.word.now.place (ap (given_or false) c.ends_line.ensures i) (sym (c.in_ok-format.ensures.copied ∙ c.bytes_of.ensures) i) c.in_ok-text.text.now.place ((ap (λ xs. xs ++ more_exprs_of c.in_ok-values.ensures.tree) (sym c.new.ensures.items) ∙ (c.in_ok-values.ensures.shows)) i))

pub ends_line-requires : goal.ends_line-requires
ends_line-requires c = write_row c.in_ok-word.word.now.token c.in_ok-word.ensures.of_classes
