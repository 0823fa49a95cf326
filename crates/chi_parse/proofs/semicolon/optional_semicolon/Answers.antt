use Rattle.std.proofs.Common.{refl}
use Rattle.chi_grammar.specs.RuleRuns as runs
use Rattle.chi_grammar.proofs.Exits.{read, run_word}
use Rattle.chi_tree.specs.Rules.{grammar}
use Rattle.chi_tree.specs.Tables.{table}
use Rattle.chi_parse.specs.Heads.{is_there}
use Rattle.chi_parse.proofs.Shapes.{token_next}
use Rattle.chi_parse.proofs.semicolon.optional_semicolon.Goals as goal

pub returns-in-Ok : goal.returns-in-Ok
returns-in-Ok c room = read grammar table _ is_there c.requires.inside
    (runs.once (token_next c.in-Ok.ensures) (run_word grammar table _ c.in-Ok.ensures)) refl

pub returns-in-Err : goal.returns-in-Err
returns-in-Err c room = read grammar table _ is_there c.requires.inside (runs.never c.in-Err.ensures.1) refl
