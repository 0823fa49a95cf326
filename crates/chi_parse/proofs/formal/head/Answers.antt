use Rattle.std.proofs.Common.{◌≡◌, refl, ◌∙◌, Some, None}
use Rattle.chi_grammar.specs.Rules.{leaf, node, pair, none, part}
use Rattle.chi_grammar.specs.RuleRuns as runs
use Rattle.chi_grammar.proofs.Exits.{read, failed}
use Rattle.chi_tree.specs.declared.type_tree.TypeTree.TheVariants as type
use Rattle.chi_tree.specs.Parts as s
use Rattle.chi_tree.specs.Rules.{grammar}
use Rattle.chi_tree.specs.Tables.{table}
use Rattle.chi_tree.specs.View.{name_in, type_of}
use Rattle.chi_tree.specs.Statements.{head_of}
use Rattle.chi_parse.proofs.Shapes.{by_part, by_word}
use Rattle.chi_parse.proofs.formal.head.Goals as goal

pub returns-in_err-ty : goal.returns-in_err-ty
returns-in_err-ty c = failed grammar table _ head_of _ (part s.Head) _ _ _ c.from_residual.ensures.1
    (runs.part_fails (runs.left (c.is_next.ensures ∙ c.if-is_next.true) (runs.first_fails c.in_err-ty.ensures)))

pub returns-in_err-ty-2 : goal.returns-in_err-ty-2
returns-in_err-ty-2 c = failed grammar table _ head_of _ (part s.Head) _ _ _ c.from_residual-in_err-ty-2.ensures.1
    (runs.part_fails (runs.left (c.is_next.ensures ∙ c.if-is_next.true) (runs.next_fails c.in_ok-ty.ensures.runs (c.in_err-ty-2.ensures _ _ _ _ _ (c.take_name.ensures c.args.room)))))

pub returns-then-is_next : goal.returns-then-is_next
returns-then-is_next c =
    let q = c.in_ok-ty-2.ensures _ _ _ _ _ (c.take_name.ensures c.args.room) in
    read grammar table _ (head_of) c.requires.inside (runs.part (runs.left (c.is_next.ensures ∙ c.if-is_next.true) (runs.both c.in_ok-ty.ensures.runs q.runs)))
    (by_part (λ t. head_of (node s.Head (pair t q.tree)) ≡ (Some (type_of t), name_in q.tree)) (λ u. refl) c.in_ok-ty.ensures.runs
    ∙ (λ i. (Some (c.in_ok-ty.ensures.shows i), name_in q.tree)) ∙ (λ i. (Some (q.shows i).0, (q.shows i).1)))

pub returns-in_err-first : goal.returns-in_err-first
returns-in_err-first c = failed grammar table _ head_of _ (part s.Head) _ _ _ c.from_residual-in_err-first.ensures.1
    (runs.part_fails (runs.right (c.is_next.ensures ∙ c.if-is_next.false) (runs.first_fails (c.in_err-first.ensures c.args.room))))

pub returns-then-not-is_next : goal.returns-then-not-is_next
returns-then-not-is_next c = read grammar table _ (head_of) c.requires.inside (runs.part (runs.right (c.is_next.ensures ∙ c.if-is_next.false) (runs.both (c.in_ok-first.ensures c.args.room).runs (runs.never (c.is_next-2.ensures ∙ c.if-not-is_next.true)))))
    (by_word (λ t. head_of (node s.Head (pair t none)) ≡ (None, name_in t)) (λ x. refl) (c.in_ok-first.ensures c.args.room).runs ∙ (λ i. (None, (c.in_ok-first.ensures c.args.room).shows i)))

pub returns-in_err-second : goal.returns-in_err-second
returns-in_err-second c = failed grammar table _ head_of _ (part s.Head) _ _ _ c.from_residual-in_err-second.ensures.1
    (runs.part_fails (runs.right (c.is_next.ensures ∙ c.if-is_next.false) (runs.next_fails (c.in_ok-first.ensures c.args.room).runs (runs.once (c.is_next-2.ensures ∙ c.if-not-is_next.false) (c.in_err-second.ensures c.args.room)))))

pub take_name-requires-3-clause-inside : goal.take_name-requires-3-clause-inside
take_name-requires-3-clause-inside c = (c.in_ok-first.ensures c.args.room).inside

pub returns : goal.returns
returns c = read grammar table _ (head_of) c.requires.inside (runs.part (runs.right (c.is_next.ensures ∙ c.if-is_next.false) (runs.both (c.in_ok-first.ensures c.args.room).runs (runs.once (c.is_next-2.ensures ∙ c.if-not-is_next.false) (c.in_ok-second.ensures c.args.room).runs))))
    (by_word (λ t. head_of (node s.Head (pair t (c.in_ok-second.ensures c.args.room).tree)) ≡ (Some (type.Defined (name_in t)), name_in (c.in_ok-second.ensures c.args.room).tree))
    (λ x. by_word (λ n. head_of (node s.Head (pair (leaf x) n)) ≡ (Some (type.Defined (name_in (leaf x))), name_in n)) (λ y. refl) (c.in_ok-second.ensures c.args.room).runs) (c.in_ok-first.ensures c.args.room).runs
    ∙ (λ i. (Some (type.Defined ((c.in_ok-first.ensures c.args.room).shows i)), (c.in_ok-second.ensures c.args.room).shows i)))
