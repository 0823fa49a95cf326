use Rattle.chi_grammar.specs.Rules.{part, ◌▸◌}
use Rattle.chi_grammar.specs.RuleRuns as runs
use Rattle.chi_grammar.proofs.Exits.{read, failed}
use Rattle.chi_tree.specs.Parts as s
use Rattle.chi_tree.specs.Rules.{grammar}
use Rattle.chi_tree.specs.Tables.{table}
use Rattle.chi_parse.specs.Rests.{callable_of}
use Rattle.chi_parse.proofs.definitions.callable.Goals as goal

pub returns-in_err-formals : goal.returns-in_err-formals
returns-in_err-formals c = failed grammar table _ callable_of _ (part s.Parameters ▸ part s.Body) _ _ _ c.from_residual.ensures.1
    (runs.first_fails c.in_err-formals.ensures)

pub returns-in_err-block : goal.returns-in_err-block
returns-in_err-block c = failed grammar table _ callable_of _ (part s.Parameters ▸ part s.Body) _ _ _ c.from_residual-in_err-block.ensures.1
    (runs.next_fails c.in_ok-formals.ensures.runs c.in_err-block.ensures)

pub returns : goal.returns
returns c = read grammar table _ callable_of c.requires.inside
    (runs.both c.in_ok-formals.ensures.runs c.in_ok-block.ensures.runs)
    (λ i. (c.in_ok-formals.ensures.shows i, c.in_ok-block.ensures.shows i))
