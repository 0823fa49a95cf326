use Rattle.std.proofs.Common.{◌∷◌, sym, ◌∙◌, Some}
use Rattle.chi_grammar.specs.Rules.{part, maybe}
use Rattle.chi_grammar.specs.RuleRuns as runs
use Rattle.chi_grammar.proofs.Exits.{read, reads_part, reads_once, reads_then, failed, no_memory}
use Rattle.chi_tree.specs.Parts as s
use Rattle.chi_tree.specs.Rules.{grammar}
use Rattle.chi_tree.specs.Tables.{table}
use Rattle.chi_tree.specs.View.{formals_of, more_formals_of}
use Rattle.chi_parse.proofs.Shapes.{reads_as}
use Rattle.chi_parse.proofs.formal.formals.Goals as goal

pub returns-in_err-of : goal.returns-in_err-of
returns-in_err-of c = no_memory grammar table _ formals_of _ (maybe (part s.Formals)) _ _ c.from_residual.ensures.1

pub returns-then-not-is_next : goal.returns-then-not-is_next
returns-then-not-is_next c = read grammar table _ (formals_of) c.requires.inside (runs.never (c.is_next.ensures ∙ c.if-not-is_next.true)) (sym (c.in_ok-of.ensures.same ∙ c.new.ensures.items))

pub returns-in_err-own : goal.returns-in_err-own
returns-in_err-own c = failed grammar table _ formals_of _ (maybe (part s.Formals)) _ _ _ c.from_residual-in_err-own.ensures.1
    (runs.once (c.is_next.ensures ∙ c.if-not-is_next.false) (runs.part_fails (runs.first_fails c.in_err-own.ensures)))

pub returns-in_err-name : goal.returns-in_err-name
returns-in_err-name c = failed grammar table _ formals_of _ (maybe (part s.Formals)) _ _ _ c.from_residual-in_err-name.ensures.1
    (runs.once (c.is_next.ensures ∙ c.if-not-is_next.false) (runs.part_fails (runs.next_fails c.in_ok-own.ensures.runs (runs.first_fails (c.in_err-name.ensures c.args.room)))))

pub more_formals-requires-clause-inside : goal.more_formals-requires-clause-inside
more_formals-requires-clause-inside c = (c.in_ok-name.ensures c.args.room).inside

pub returns : goal.returns
returns c = reads_once grammar table _ _ _ _ _ _ (c.is_next.ensures ∙ c.if-not-is_next.false)
    (reads_part grammar table _ _ _ s.Formals _ _
    (reads_then grammar table _ _ _ _ _ _ _ _ _ c.in_ok-own.ensures.runs
    (reads_then grammar table _ _ _ _ _ _ _ _ _ (c.in_ok-name.ensures c.args.room).runs
    (reads_as _ _ _ (λ u i. record { ty = Some (c.in_ok-own.ensures.shows i); name = (c.in_ok-name.ensures c.args.room).shows i } ∷ more_formals_of u) _ _ _ _ c.more_formals.ensures))))
