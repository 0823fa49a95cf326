use Rattle.chi_grammar.specs.Rules.{part, ◌▸◌}
use Rattle.chi_grammar.specs.RuleRuns as runs
use Rattle.chi_grammar.proofs.Exits.{run_word, run_no_word, reads_then, failed}
use Rattle.chi_token.specs.declared.sign.Sign.TheVariants.{Comma}
use Rattle.chi_tree.specs.Parts as s
use Rattle.chi_tree.specs.Rules.{grammar, sign}
use Rattle.chi_tree.specs.Tables.{table}
use Rattle.chi_parse.specs.Rests.{guarded_of}
use Rattle.chi_parse.proofs.offers.after_guard.Goals as goal

pub returns-in_err-start : goal.returns-in_err-start
returns-in_err-start c = failed grammar table _ guarded_of _ (sign Comma ▸ part s.Communication) _ _ _ c.from_residual.ensures.1
    (runs.first_fails (run_no_word grammar table _ c.in_err-start.ensures))

pub returns : goal.returns
returns c = reads_then grammar table _ _ _ (sign Comma) (part s.Communication) _ _ _ _ (run_word grammar table _ c.in_ok-start.ensures) c.communication.ensures
