use Rattle.std.proofs.Common.{sym, ◌∙◌}
use Rattle.chi_grammar.proofs.Exits.{read, run_word, run_no_word, failed, no_memory}
use Rattle.chi_tree.specs.Rules.{grammar, name}
use Rattle.chi_tree.specs.Tables.{table}
use Rattle.chi_tree.specs.View.{name_in}
use Rattle.chi_parse_look.proofs.look.take_name.Goals as goal

pub returns-in_err-spanned : goal.returns-in_err-spanned
returns-in_err-spanned c room =
    failed grammar table _ name_in room name _ _ _ c.from_residual.ensures.1 (run_no_word grammar table _ c.in_err-spanned.ensures)

pub returns-in_err-text : goal.returns-in_err-text
returns-in_err-text c room = no_memory grammar table _ name_in room name _ _ c.from_residual-in_err-text.ensures.1

pub returns : goal.returns
returns c room =
    read grammar table _ name_in c.requires.inside (run_word grammar table _ c.in_ok-spanned.ensures)
    (λ i. record { text = sym (c.in_ok-text.ensures.copied ∙ c.bytes_of.ensures) i; place = c.in_ok-spanned.spanned.now.place })
