use Rattle.std.proofs.Common.{refl, ◌∙◌, Some}
use Rattle.chi_grammar.specs.Rules.{part, maybe}
use Rattle.chi_grammar.specs.RuleRuns as runs
use Rattle.chi_grammar.proofs.Exits.{read, failed}
use Rattle.chi_tree.specs.Parts as s
use Rattle.chi_tree.specs.Rules.{grammar}
use Rattle.chi_tree.specs.Tables.{table}
use Rattle.chi_tree.specs.Statements.{initial_of}
use Rattle.chi_parse.proofs.Shapes.{initial_shows}
use Rattle.chi_parse.proofs.declared.initial.Goals as goal

pub returns-then-not-is_next : goal.returns-then-not-is_next
returns-then-not-is_next c = read grammar table _ (initial_of) c.requires.inside (runs.never (c.is_next.ensures ∙ c.if-not-is_next.true)) refl

pub returns-in_err-initial : goal.returns-in_err-initial
returns-in_err-initial c = failed grammar table _ initial_of _ (maybe (part s.Initial)) _ _ _ c.from_residual.ensures.1
    (runs.once (c.is_next.ensures ∙ c.if-not-is_next.false) (runs.part_fails c.in_err-initial.ensures))

pub returns : goal.returns
returns c = read grammar table _ (initial_of) c.requires.inside
    (runs.once (c.is_next.ensures ∙ c.if-not-is_next.false) (runs.part c.in_ok-initial.ensures.runs))
    (initial_shows c.in_ok-initial.ensures.runs ∙ (λ i. Some (c.in_ok-initial.ensures.shows i)))
