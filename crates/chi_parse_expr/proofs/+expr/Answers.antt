use Rattle.std.proofs.Common.{true, ap, Some, None, [], ◌∷◌, ◌++◌, refl, sym, ◌∙◌, append_assoc, arith, rules, List}
use Rattle.chi_tree.specs.declared.expr.Expr.{Expr}
use Rattle.chi_grammar.specs.declared.room.Nesting.TheVariants.{Expression}
use Rattle.chi_grammar.specs.Rules.{leaf, part, many, maybe, ◌▸◌, ◌∣◌}
use Rattle.chi_grammar.specs.Rules as rule
use Rattle.chi_grammar.specs.RuleRuns as runs
use Rattle.chi_grammar.proofs.Exits.{read, run_word, run_no_word, run_refused, reads_part, reads_left, reads_right, reads_once, reads_deeper, reads_then, failed, no_memory}
use Rattle.chi_token.specs.declared.sign.Sign.TheVariants.{LeftParen, RightParen, Less, Greater, Comma, Colon}
use Rattle.chi_tree.specs.declared.class.Class.TheVariants as class
use Rattle.chi_tree.specs.declared.expr.Expr.TheVariants as expr
use Rattle.chi_tree.specs.declared.expr.Postfix.TheVariants as postfix
use Rattle.chi_tree.specs.declared.operator.CastWord.TheVariants as cast
use Rattle.chi_tree.specs.declared.operator.Operator.TheVariants as operator
use Rattle.chi_tree.specs.declared.operator.PrefixSign.TheVariants as prefix
use Rattle.chi_tree.specs.declared.operator.RelationSign.TheVariants as relation
use Rattle.chi_tree.specs.declared.type_tree.TypeTree.TheVariants as type
use Rattle.chi_tree.specs.Classes.{number_of}
use Rattle.chi_tree.specs.Parts as s
use Rattle.chi_tree.specs.Rules.{grammar, nested, sign}
use Rattle.chi_tree.specs.Tables.{table}
use Rattle.chi_tree.specs.Words.{prefix_signs, relation_signs, cast_words}
use Rattle.chi_tree.specs.View.{given_or, type_of, size_of, carried_of, formals_of, more_formals_of, formal_of, expr_of, links_of, link_of, related, powered, postfixes_of, postfix_of, inside, indexed, sliced, stepped, arguments_of, exprs_of, more_exprs_of, bracketed, braced, entries_of, entry_of, blank, optional, chained, parted}
use Rattle.chi_parse_expr.specs.Grouping.{chain_part, link_part}
use Rattle.chi_parse_look.proofs.Words.{run_one_of, run_none_of}
use Rattle.chi_parse_expr.proofs.Grouping.{chain_rule, chain_shows, link_rule, link_shows, link_next, run_by, run_operator, run_no_operator}
use Rattle.chi_parse_expr.proofs.Shapes.{entry_shows, optional_part, called_part, carried_type, formal_name, reads_same}
use Rattle.chi_parse_expr.specs.Values.{value_of}
use Rattle.chi_parse_expr.proofs.Rows.{operator_row, relation_row, prefix_row, cast_row}
use Rattle.chi_parse_expr.proofs.Loops.{gathered_start, gathered_more, gathered_fails, gathered_stop, part_moves}
use Rattle.chi_parse_expr.proofs.+expr.Goals as goal

pub levels::chain-returns-in_err-first : goal.levels::chain-returns-in_err-first
levels::chain-returns-in_err-first t c =
    let level = c.args.level in
    failed grammar table _ expr_of _ (part (chain_part level)) _ _ _ c.from_residual.ensures.1
    (runs.part_fails (run_by (chain_rule level) (runs.first_fails c.in_err-first.ensures)))

pub levels::chain-returns-in_err-first-2 : goal.levels::chain-returns-in_err-first-2
levels::chain-returns-in_err-first-2 t c =
    let level = c.args.level in
    let first = c.in_ok-first.ensures in
    failed grammar table _ expr_of _ (part (chain_part level)) _ _ _ c.from_residual-in_err-first-2.ensures.1
    (runs.part_fails (run_by (chain_rule level) (runs.next_fails first.runs (c.in_err-first-2.ensures _ _ _ _ _ c.links.ensures))))

pub levels::chain-returns-in_err-chain : goal.levels::chain-returns-in_err-chain
levels::chain-returns-in_err-chain t c =
    no_memory grammar table _ expr_of _ (part (chain_part c.args.level)) _ _ c.from_residual-in_err-chain.ensures.1

pub levels::chain-returns : goal.levels::chain-returns
levels::chain-returns t c =
    let level = c.args.level in
    let first = c.in_ok-first.ensures in
    let links = c.in_ok-first-2.ensures _ _ _ _ _ c.links.ensures in
    read grammar table _ expr_of c.requires.inside
    (runs.part (run_by (chain_rule level) (runs.both first.runs links.runs)))
    (chain_shows level first.tree links.tree ∙ ((λ i. chained (first.shows i) (links_of links.tree)) ∙ ((λ i. chained (links.shows i).0 (links.shows i).1) ∙ sym c.in_ok-chain.ensures)))

pub levels::links-turn-init : goal.levels::links-turn-init
levels::links-turn-init t c =
    gathered_start _ [] c.new-found.ensures.items (λ u. refl) c.requires.inside

pub levels::links-returns-in_err-one : goal.levels::links-returns-in_err-one
levels::links-returns-in_err-one t c =
    let level = c.args.level in
    failed grammar table _ links_of _ (many (part (link_part level))) _ _ _ c.from_residual.ensures.1
    (gathered_fails _ c.turn.invariant (link_next c.args.tokens.now c.turn.end level c.signs.ensures c.is_next.ensures c.turn-test.true) c.in_err-one.ensures)

pub levels::links-returns-in_err-push : goal.levels::links-returns-in_err-push
levels::links-returns-in_err-push t c =
    no_memory grammar table _ links_of _ (many (part (link_part c.args.level))) _ _ c.from_residual-in_err-push.ensures.1

pub levels::links-turn-preserved : goal.levels::links-turn-preserved
levels::links-turn-preserved t c =
    let level = c.args.level in
    let one = c.in_ok-one.ensures in
    gathered_more c.turn.invariant (link_next c.args.tokens.now c.turn.end level c.signs.ensures c.is_next.ensures c.turn-test.true) one.runs _ (λ u i. one.shows i ∷ links_of u) one.inside _ c.in_ok-push.ensures.items

pub levels::links-turn-smaller : goal.levels::links-turn-smaller
levels::links-turn-smaller t c =
    let one = c.in_ok-one.ensures in
    omega (arith, part_moves one.runs, one.inside)

pub levels::links-returns-in_err-items : goal.levels::links-returns-in_err-items
levels::links-returns-in_err-items t c =
    no_memory grammar table _ links_of _ (many (part (link_part c.args.level))) _ _ c.from_residual-in_err-items.ensures.1

pub levels::links-returns : goal.levels::links-returns
levels::links-returns t c =
    let level = c.args.level in
    gathered_stop c.turn.invariant (link_next c.args.tokens.now c.turn.end level c.signs.ensures c.is_next.ensures c.turn-test.false) refl c.requires.inside _ c.in_ok-items.ensures.same

pub levels::link-returns-in_err-word : goal.levels::link-returns-in_err-word
levels::link-returns-in_err-word t c =
    let level = c.args.level in
    failed grammar table _ link_of _ (part (link_part level)) _ _ _ c.from_residual.ensures.1
    (runs.part_fails (run_by (link_rule level) (runs.first_fails (run_no_operator level c.signs.ensures c.in_err-word.ensures))))

pub levels::link-returns-in_err-right : goal.levels::link-returns-in_err-right
levels::link-returns-in_err-right t c =
    let level = c.args.level in
    let word = c.in_ok-word.ensures in
    failed grammar table _ link_of _ (part (link_part level)) _ _ _ c.from_residual-in_err-right.ensures.1
    (runs.part_fails (run_by (link_rule level) (runs.next_fails (run_operator level c.signs.ensures word) c.in_err-right.ensures)))

pub levels::link-returns : goal.levels::link-returns
levels::link-returns t c =
    let level = c.args.level in
    let word = c.in_ok-word.ensures in
    let right = c.in_ok-right.ensures in
    read grammar table _ link_of c.requires.inside
    (runs.part (run_by (link_rule level) (runs.both (run_operator level c.signs.ensures word) right.runs)))
    (link_shows level c.in_ok-word.word.now right.tree ∙ (λ i. record { operator = ap (given_or operator.Or) c.operator_of.ensures i; place = c.in_ok-word.word.now.place; operand = right.shows i }))

pub levels::link-operator_of-requires : goal.levels::link-operator_of-requires
levels::link-operator_of-requires t c = operator_row c.args.level c.signs.ensures c.in_ok-word.word.now.token c.in_ok-word.ensures.of_classes

pub levels::neg-returns-then-is_next : goal.levels::neg-returns-then-is_next
levels::neg-returns-then-is_next t c =
    reads_part grammar table _ _ _ s.Neg _ _ (reads_left grammar table _ _ _ (nested (part s.NotNeg)) (part s.Rel) _ _ (c.is_next.ensures ∙ c.if-is_next.true) c.not_neg.ensures)

pub levels::neg-returns : goal.levels::neg-returns
levels::neg-returns t c =
    reads_part grammar table _ _ _ s.Neg _ _ (reads_right grammar table _ _ _ (nested (part s.NotNeg)) (part s.Rel) _ _ (c.is_next.ensures ∙ c.if-is_next.false) c.rel.ensures)

pub terms::unary-returns-then-is_next : goal.terms::unary-returns-then-is_next
terms::unary-returns-then-is_next t c =
    reads_part grammar table _ _ _ s.Unary _ _ (reads_left grammar table _ _ _ (nested (part s.Prefixed)) (part s.Power) _ _ (c.is_next.ensures ∙ c.if-is_next.true) c.prefixed.ensures)

pub terms::unary-returns : goal.terms::unary-returns
terms::unary-returns t c =
    reads_part grammar table _ _ _ s.Unary _ _ (reads_right grammar table _ _ _ (nested (part s.Prefixed)) (part s.Power) _ _ (c.is_next.ensures ∙ c.if-is_next.false) c.power.ensures)

pub levels::not_neg-returns-in_err-inner : goal.levels::not_neg-returns-in_err-inner
levels::not_neg-returns-in_err-inner t c =
    failed grammar table _ expr_of _ (nested (part s.NotNeg)) _ _ _ c.from_residual.ensures.1
    (run_refused grammar table _ _ Expression (part s.NotNeg) _ _ c.in_err-inner.ensures.0 c.in_err-inner.ensures.1)

pub levels::not_neg-returns-in_err-word : goal.levels::not_neg-returns-in_err-word
levels::not_neg-returns-in_err-word t c =
    failed grammar table _ expr_of _ (nested (part s.NotNeg)) _ _ _ c.from_residual-in_err-word.ensures.1
    (runs.deeper c.in_ok-inner.ensures (runs.part_fails (runs.first_fails (run_no_word grammar table _ c.in_err-word.ensures))))

pub levels::not_neg-returns-in_err-operand : goal.levels::not_neg-returns-in_err-operand
levels::not_neg-returns-in_err-operand t c =
    let word = c.in_ok-word.ensures in
    failed grammar table _ expr_of _ (nested (part s.NotNeg)) _ _ _ c.from_residual-in_err-operand.ensures.1
    (runs.deeper c.in_ok-inner.ensures (runs.part_fails (runs.next_fails (run_word grammar table _ word) (c.in_err-operand.ensures _ _ _ _ _ c.neg.ensures))))

pub levels::not_neg-returns : goal.levels::not_neg-returns
levels::not_neg-returns t c =
    let word = c.in_ok-word.ensures in
    let operand = c.in_ok-operand.ensures _ _ _ _ _ c.neg.ensures in
    read grammar table _ expr_of c.requires.inside
    (runs.deeper c.in_ok-inner.ensures (runs.part (runs.both (run_word grammar table _ word) operand.runs)))
    (λ i. expr.Prefix prefix.Not c.in_ok-word.word.now.place (operand.shows i))

pub terms::prefixed-returns-in_err-inner : goal.terms::prefixed-returns-in_err-inner
terms::prefixed-returns-in_err-inner t c =
    failed grammar table _ expr_of _ (nested (part s.Prefixed)) _ _ _ c.from_residual.ensures.1
    (run_refused grammar table _ _ Expression (part s.Prefixed) _ _ c.in_err-inner.ensures.0 c.in_err-inner.ensures.1)

pub terms::prefixed-returns-in_err-word : goal.terms::prefixed-returns-in_err-word
terms::prefixed-returns-in_err-word t c =
    failed grammar table _ expr_of _ (nested (part s.Prefixed)) _ _ _ c.from_residual-in_err-word.ensures.1
    (runs.deeper c.in_ok-inner.ensures (runs.part_fails (runs.first_fails (run_none_of prefix_signs.first prefix_signs.more c.in_err-word.ensures))))

pub terms::prefixed-returns-in_err-operand : goal.terms::prefixed-returns-in_err-operand
terms::prefixed-returns-in_err-operand t c =
    let word = c.in_ok-word.ensures in
    failed grammar table _ expr_of _ (nested (part s.Prefixed)) _ _ _ c.from_residual-in_err-operand.ensures.1
    (runs.deeper c.in_ok-inner.ensures (runs.part_fails (runs.next_fails (run_one_of prefix_signs.first prefix_signs.more word) (c.in_err-operand.ensures _ _ _ _ _ c.unary.ensures))))

pub terms::prefixed-returns : goal.terms::prefixed-returns
terms::prefixed-returns t c =
    let word = c.in_ok-word.ensures in
    let operand = c.in_ok-operand.ensures _ _ _ _ _ c.unary.ensures in
    read grammar table _ expr_of c.requires.inside
    (runs.deeper c.in_ok-inner.ensures (runs.part (runs.both (run_one_of prefix_signs.first prefix_signs.more word) operand.runs)))
    (λ i. expr.Prefix (ap (given_or prefix.Not) c.prefix_of.ensures i) c.in_ok-word.word.now.place (operand.shows i))

pub terms::prefixed-prefix_of-requires : goal.terms::prefixed-prefix_of-requires
terms::prefixed-prefix_of-requires t c = prefix_row c.in_ok-word.word.now.token c.in_ok-word.ensures.of_classes

pub levels::rel-returns-in_err-left : goal.levels::rel-returns-in_err-left
levels::rel-returns-in_err-left t c =
    failed grammar table _ expr_of _ (part s.Rel) _ _ _ c.from_residual.ensures.1
    (runs.part_fails (runs.first_fails c.in_err-left.ensures))

pub levels::rel-returns-in_err-boxed : goal.levels::rel-returns-in_err-boxed
levels::rel-returns-in_err-boxed t c =
    no_memory grammar table _ expr_of _ (part s.Rel) _ _ c.from_residual-in_err-boxed.ensures.1

pub levels::rel-returns-then-is_next : goal.levels::rel-returns-then-is_next
levels::rel-returns-then-is_next t c =
    let left = c.in_ok-left.ensures in
    reads_part grammar table _ _ _ s.Rel _ _ (reads_then grammar table _ _ _ (part s.Sum) (maybe (part s.RelLink)) _ _ _ _ left.runs (reads_same _ _ _ _ (maybe (part s.RelLink)) _ _ (λ u i. related ((left.shows ∙ sym c.in_ok-boxed.ensures.same) i) u) (reads_once grammar table _ _ _ (part s.RelLink) _ _ (c.is_next.ensures ∙ c.if-is_next.true) c.rel_link.ensures)))

pub levels::rel-returns : goal.levels::rel-returns
levels::rel-returns t c =
    let left = c.in_ok-left.ensures in
    read grammar table _ expr_of c.requires.inside
    (runs.part (runs.both left.runs (runs.never (c.is_next.ensures ∙ c.if-is_next.false))))
    left.shows

pub terms::power-returns-in_err-base : goal.terms::power-returns-in_err-base
terms::power-returns-in_err-base t c =
    failed grammar table _ expr_of _ (part s.Power) _ _ _ c.from_residual.ensures.1
    (runs.part_fails (runs.first_fails c.in_err-base.ensures))

pub terms::power-returns-in_err-boxed : goal.terms::power-returns-in_err-boxed
terms::power-returns-in_err-boxed t c =
    no_memory grammar table _ expr_of _ (part s.Power) _ _ c.from_residual-in_err-boxed.ensures.1

pub terms::power-returns-then-is_next : goal.terms::power-returns-then-is_next
terms::power-returns-then-is_next t c =
    let base = c.in_ok-base.ensures in
    reads_part grammar table _ _ _ s.Power _ _ (reads_then grammar table _ _ _ (part s.Post) (maybe (part s.PowerLink)) _ _ _ _ base.runs (reads_same _ _ _ _ (maybe (part s.PowerLink)) _ _ (λ u i. powered ((base.shows ∙ sym c.in_ok-boxed.ensures.same) i) u) (reads_once grammar table _ _ _ (part s.PowerLink) _ _ (c.is_next.ensures ∙ c.if-is_next.true) c.power_link.ensures)))

pub terms::power-returns : goal.terms::power-returns
terms::power-returns t c =
    let base = c.in_ok-base.ensures in
    read grammar table _ expr_of c.requires.inside
    (runs.part (runs.both base.runs (runs.never (c.is_next.ensures ∙ c.if-is_next.false))))
    base.shows

pub levels::rel_link-returns-in_err-word : goal.levels::rel_link-returns-in_err-word
levels::rel_link-returns-in_err-word t c =
    failed grammar table _ (related c.args.left) _ (part s.RelLink) _ _ _ c.from_residual.ensures.1
    (runs.part_fails (runs.first_fails (run_none_of relation_signs.first relation_signs.more c.in_err-word.ensures)))

pub levels::rel_link-returns-in_err-right : goal.levels::rel_link-returns-in_err-right
levels::rel_link-returns-in_err-right t c =
    let word = c.in_ok-word.ensures in
    failed grammar table _ (related c.args.left) _ (part s.RelLink) _ _ _ c.from_residual-in_err-right.ensures.1
    (runs.part_fails (runs.next_fails (run_one_of relation_signs.first relation_signs.more word) (c.in_err-right.ensures _ _ _ _ _ c.chain.ensures)))

pub levels::rel_link-returns : goal.levels::rel_link-returns
levels::rel_link-returns t c =
    let word = c.in_ok-word.ensures in
    let right = c.in_ok-right.ensures _ _ _ _ _ c.chain.ensures in
    read grammar table _ (related c.args.left) c.requires.inside
    (runs.part (runs.both (run_one_of relation_signs.first relation_signs.more word) right.runs))
    (λ i. expr.Relation c.args.left (ap (given_or relation.Less) c.relation_of.ensures i) c.in_ok-word.word.now.place (right.shows i))

pub levels::rel_link-relation_of-requires : goal.levels::rel_link-relation_of-requires
levels::rel_link-relation_of-requires t c = relation_row c.in_ok-word.word.now.token c.in_ok-word.ensures.of_classes

pub terms::power_link-returns-in_err-word : goal.terms::power_link-returns-in_err-word
terms::power_link-returns-in_err-word t c =
    failed grammar table _ (powered c.args.base) _ (part s.PowerLink) _ _ _ c.from_residual.ensures.1
    (runs.part_fails (runs.first_fails (run_no_word grammar table _ c.in_err-word.ensures)))

pub terms::power_link-returns-in_err-inner : goal.terms::power_link-returns-in_err-inner
terms::power_link-returns-in_err-inner t c =
    let word = c.in_ok-word.ensures in
    failed grammar table _ (powered c.args.base) _ (part s.PowerLink) _ _ _ c.from_residual-in_err-inner.ensures.1
    (runs.part_fails (runs.next_fails (run_word grammar table _ word) (run_refused grammar table _ _ Expression (part s.Unary) _ _ c.in_err-inner.ensures.0 c.in_err-inner.ensures.1)))

pub terms::power_link-returns-in_err-exponent : goal.terms::power_link-returns-in_err-exponent
terms::power_link-returns-in_err-exponent t c =
    let word = c.in_ok-word.ensures in
    failed grammar table _ (powered c.args.base) _ (part s.PowerLink) _ _ _ c.from_residual-in_err-exponent.ensures.1
    (runs.part_fails (runs.next_fails (run_word grammar table _ word) (runs.deeper c.in_ok-inner.ensures (c.in_err-exponent.ensures _ _ _ _ _ c.unary.ensures))))

pub terms::power_link-returns : goal.terms::power_link-returns
terms::power_link-returns t c =
    let word = c.in_ok-word.ensures in
    let exponent = c.in_ok-exponent.ensures _ _ _ _ _ c.unary.ensures in
    read grammar table _ (powered c.args.base) c.requires.inside
    (runs.part (runs.both (run_word grammar table _ word) (runs.deeper c.in_ok-inner.ensures exponent.runs)))
    (λ i. expr.Power c.args.base c.in_ok-word.word.now.place (exponent.shows i))

pub postfixes::post-returns-in_err-whole : goal.postfixes::post-returns-in_err-whole
postfixes::post-returns-in_err-whole t c =
    failed grammar table _ expr_of _ (part s.Post) _ _ _ c.from_residual.ensures.1
    (runs.part_fails (runs.first_fails c.in_err-whole.ensures))

pub postfixes::post-returns-in_err-whole-2 : goal.postfixes::post-returns-in_err-whole-2
postfixes::post-returns-in_err-whole-2 t c =
    let whole = c.in_ok-whole.ensures in
    failed grammar table _ expr_of _ (part s.Post) _ _ _ c.from_residual-in_err-whole-2.ensures.1
    (runs.part_fails (runs.next_fails whole.runs (c.in_err-whole-2.ensures _ _ _ _ _ c.postfixes.ensures)))

pub postfixes::post-returns-in_err-taken : goal.postfixes::post-returns-in_err-taken
postfixes::post-returns-in_err-taken t c =
    no_memory grammar table _ expr_of _ (part s.Post) _ _ c.from_residual-in_err-taken.ensures.1

pub postfixes::post-returns : goal.postfixes::post-returns
postfixes::post-returns t c =
    let whole = c.in_ok-whole.ensures in
    let parts = c.in_ok-whole-2.ensures _ _ _ _ _ c.postfixes.ensures in
    read grammar table _ expr_of c.requires.inside
    (runs.part (runs.both whole.runs parts.runs))
    ((λ i. parted (whole.shows i) (postfixes_of parts.tree)) ∙ ((λ i. parted (parts.shows i).0 (parts.shows i).1) ∙ sym c.in_ok-taken.ensures))

pub postfixes::postfixes-turn-init : goal.postfixes::postfixes-turn-init
postfixes::postfixes-turn-init t c =
    gathered_start _ [] c.new-found.ensures.items (λ u. refl) c.requires.inside

pub postfixes::postfixes-returns-in_err-one : goal.postfixes::postfixes-returns-in_err-one
postfixes::postfixes-returns-in_err-one t c =
    failed grammar table _ postfixes_of _ (many (part s.Postfix)) _ _ _ c.from_residual.ensures.1
    (gathered_fails _ c.turn.invariant (c.is_next.ensures ∙ c.turn-test.true) c.in_err-one.ensures)

pub postfixes::postfixes-returns-in_err-push : goal.postfixes::postfixes-returns-in_err-push
postfixes::postfixes-returns-in_err-push t c =
    no_memory grammar table _ postfixes_of _ (many (part s.Postfix)) _ _ c.from_residual-in_err-push.ensures.1

pub postfixes::postfixes-turn-preserved : goal.postfixes::postfixes-turn-preserved
postfixes::postfixes-turn-preserved t c =
    let one = c.in_ok-one.ensures in
    gathered_more c.turn.invariant (c.is_next.ensures ∙ c.turn-test.true) one.runs _ (λ u i. one.shows i ∷ postfixes_of u) one.inside _ c.in_ok-push.ensures.items

pub postfixes::postfixes-turn-smaller : goal.postfixes::postfixes-turn-smaller
postfixes::postfixes-turn-smaller t c =
    let one = c.in_ok-one.ensures in
    omega (arith, part_moves one.runs, one.inside)

pub postfixes::postfixes-returns-in_err-items : goal.postfixes::postfixes-returns-in_err-items
postfixes::postfixes-returns-in_err-items t c =
    no_memory grammar table _ postfixes_of _ (many (part s.Postfix)) _ _ c.from_residual-in_err-items.ensures.1

pub postfixes::postfixes-returns : goal.postfixes::postfixes-returns
postfixes::postfixes-returns t c =
    gathered_stop c.turn.invariant (c.is_next.ensures ∙ c.turn-test.false) refl c.requires.inside _ c.in_ok-items.ensures.same

pub postfixes::postfix-returns-then-is_next : goal.postfixes::postfix-returns-then-is_next
postfixes::postfix-returns-then-is_next t c =
    reads_part grammar table _ _ _ s.Postfix _ _ (reads_left grammar table _ _ _ (nested (part s.Bracket)) (part s.Field) _ _ (c.is_next.ensures ∙ c.if-is_next.true) c.bracket.ensures)

pub postfixes::postfix-returns : goal.postfixes::postfix-returns
postfixes::postfix-returns t c =
    reads_part grammar table _ _ _ s.Postfix _ _ (reads_right grammar table _ _ _ (nested (part s.Bracket)) (part s.Field) _ _ (c.is_next.ensures ∙ c.if-is_next.false) (c.field.ensures c.args.room))

pub postfixes::bracket-returns-in_err-inner : goal.postfixes::bracket-returns-in_err-inner
postfixes::bracket-returns-in_err-inner t c =
    failed grammar table _ postfix_of _ (nested (part s.Bracket)) _ _ _ c.from_residual.ensures.1
    (run_refused grammar table _ _ Expression (part s.Bracket) _ _ c.in_err-inner.ensures.0 c.in_err-inner.ensures.1)

pub postfixes::bracket-returns-in_err-word : goal.postfixes::bracket-returns-in_err-word
postfixes::bracket-returns-in_err-word t c =
    failed grammar table _ postfix_of _ (nested (part s.Bracket)) _ _ _ c.from_residual-in_err-word.ensures.1
    (runs.deeper c.in_ok-inner.ensures (runs.part_fails (runs.first_fails (run_no_word grammar table _ c.in_err-word.ensures))))

pub postfixes::bracket-returns-in_err-postfix : goal.postfixes::bracket-returns-in_err-postfix
postfixes::bracket-returns-in_err-postfix t c =
    let word = c.in_ok-word.ensures in
    failed grammar table _ postfix_of _ (nested (part s.Bracket)) _ _ _ c.from_residual-in_err-postfix.ensures.1
    (runs.deeper c.in_ok-inner.ensures (runs.part_fails (runs.next_fails (run_word grammar table _ word) (runs.first_fails c.in_err-postfix.ensures))))

pub postfixes::bracket-returns-in_err-postfix-2 : goal.postfixes::bracket-returns-in_err-postfix-2
postfixes::bracket-returns-in_err-postfix-2 t c =
    let word = c.in_ok-word.ensures in
    let postfix = c.in_ok-postfix.ensures in
    failed grammar table _ postfix_of _ (nested (part s.Bracket)) _ _ _ c.from_residual-in_err-postfix-2.ensures.1
    (runs.deeper c.in_ok-inner.ensures (runs.part_fails (runs.next_fails (run_word grammar table _ word) (runs.next_fails postfix.runs (run_no_word grammar table _ c.in_err-postfix-2.ensures)))))

pub postfixes::bracket-returns : goal.postfixes::bracket-returns
postfixes::bracket-returns t c =
    let word = c.in_ok-word.ensures in
    let postfix = c.in_ok-postfix.ensures in
    let end = c.in_ok-postfix-2.ensures in
    read grammar table _ postfix_of c.requires.inside
    (runs.deeper c.in_ok-inner.ensures (runs.part (runs.both (run_word grammar table _ word) (runs.both postfix.runs (run_word grammar table _ end.2)))))
    (postfix.shows ∙ sym end.0)

pub postfixes::bracketed-returns-in_err-from : goal.postfixes::bracketed-returns-in_err-from
postfixes::bracketed-returns-in_err-from t c =
    failed grammar table _ (inside c.args.place) _ (part s.Inside) _ _ _ c.from_residual.ensures.1
    (runs.part_fails (runs.left (c.is_next.ensures ∙ c.if-is_next.true) (runs.first_fails (c.in_err-from.ensures _ _ _ _ _ c.expr.ensures))))

pub postfixes::bracketed-returns-then-is_next : goal.postfixes::bracketed-returns-then-is_next
postfixes::bracketed-returns-then-is_next t c =
    let from = c.in_ok-from.ensures _ _ _ _ _ c.expr.ensures in
    reads_part grammar table _ _ _ s.Inside _ _ (reads_left grammar table _ _ _ (part s.Expr ▸ maybe (part s.Upto)) (part s.Upto) _ _ (c.is_next.ensures ∙ c.if-is_next.true) (reads_then grammar table _ _ _ (part s.Expr) (maybe (part s.Upto)) _ _ _ _ from.runs (reads_same _ _ _ _ (maybe (part s.Upto)) _ _ (λ u i. indexed c.args.place (from.shows i) u) c.indexed.ensures)))

pub postfixes::bracketed-returns : goal.postfixes::bracketed-returns
postfixes::bracketed-returns t c =
    reads_part grammar table _ _ _ s.Inside _ _ (reads_right grammar table _ _ _ (part s.Expr ▸ maybe (part s.Upto)) (part s.Upto) _ _ (c.is_next.ensures ∙ c.if-is_next.false) (reads_part grammar table _ _ _ s.Upto _ _ c.sliced.ensures))

pub postfixes::bracketed-indexed-requires : goal.postfixes::bracketed-indexed-requires
postfixes::bracketed-indexed-requires t c =
    let from = c.in_ok-from.ensures _ _ _ _ _ c.expr.ensures in
    (search rules, (c.requires.short, from.inside))

pub postfixes::indexed-returns-then-is_next : goal.postfixes::indexed-returns-then-is_next
postfixes::indexed-returns-then-is_next t c =
    reads_once grammar table _ _ _ (part s.Upto) _ _ (c.is_next.ensures ∙ c.if-is_next.true) (reads_part grammar table _ _ _ s.Upto _ _ c.sliced.ensures)

pub postfixes::indexed-returns : goal.postfixes::indexed-returns
postfixes::indexed-returns t c =
    read grammar table _ (indexed c.args.place c.args.from) c.requires.inside
    (runs.never (c.is_next.ensures ∙ c.if-is_next.false))
    refl

pub postfixes::sliced-optional_expr-requires : goal.postfixes::sliced-optional_expr-requires
postfixes::sliced-optional_expr-requires t c =
    let start = c.in_ok-from.ensures.2 in
    (search rules, (c.requires.short, start.inside))

pub postfixes::sliced-stepped-requires : goal.postfixes::sliced-stepped-requires
postfixes::sliced-stepped-requires t c =
    let upto = c.in_ok-bounds.ensures _ _ _ _ _ c.optional_expr.ensures in
    (search rules, (c.requires.short, upto.inside))

pub postfixes::sliced-returns-in_err-from : goal.postfixes::sliced-returns-in_err-from
postfixes::sliced-returns-in_err-from t c =
    failed grammar table _ (sliced c.args.place c.args.from) _ (grammar.rule_of s.Upto) _ _ _ c.from_residual.ensures.1
    (runs.first_fails (run_no_word grammar table _ c.in_err-from.ensures))

pub postfixes::sliced-returns-in_err-bounds : goal.postfixes::sliced-returns-in_err-bounds
postfixes::sliced-returns-in_err-bounds t c =
    let start = c.in_ok-from.ensures.2 in
    failed grammar table _ (sliced c.args.place c.args.from) _ (grammar.rule_of s.Upto) _ _ _ c.from_residual-in_err-bounds.ensures.1
    (runs.next_fails (run_word grammar table _ start) (runs.first_fails (c.in_err-bounds.ensures _ _ _ _ _ c.optional_expr.ensures)))

pub postfixes::sliced-returns : goal.postfixes::sliced-returns
postfixes::sliced-returns t c =
    let start = c.in_ok-from.ensures.2 in
    let upto = c.in_ok-bounds.ensures _ _ _ _ _ c.optional_expr.ensures in
    reads_then grammar table _ _ _ (sign Colon) (maybe (part s.Expr) ▸ maybe (part s.ByStep)) _ _ _ _ (run_word grammar table _ start) (reads_then grammar table _ _ _ (maybe (part s.Expr)) (maybe (part s.ByStep)) _ _ _ _ upto.runs (reads_same _ _ _ _ (maybe (part s.ByStep)) _ _
    (λ u. (λ i. stepped c.args.place (sym c.in_ok-from.ensures.0 i) (optional upto.tree (expr_of upto.tree)) u) ∙ (λ i. stepped c.args.place (upto.shows i).0 (upto.shows i).1 u))
    c.stepped.ensures))

pub postfixes::stepped-optional_expr-requires : goal.postfixes::stepped-optional_expr-requires
postfixes::stepped-optional_expr-requires t c =
    let start = c.in_ok-bounds.ensures.2 in
    (search rules, (c.requires.short, start.inside))

pub postfixes::stepped-returns-in_err-bounds : goal.postfixes::stepped-returns-in_err-bounds
postfixes::stepped-returns-in_err-bounds t c =
    failed grammar table _ (stepped c.args.place c.args.bounds.0 c.args.bounds.1) _ (maybe (part s.ByStep)) _ _ _ c.from_residual.ensures.1
    (runs.once (c.is_next.ensures ∙ c.if-is_next.true) (runs.part_fails (runs.first_fails (run_no_word grammar table _ c.in_err-bounds.ensures))))

pub postfixes::stepped-returns-in_err-from : goal.postfixes::stepped-returns-in_err-from
postfixes::stepped-returns-in_err-from t c =
    let start = c.in_ok-bounds.ensures.2 in
    failed grammar table _ (stepped c.args.place c.args.bounds.0 c.args.bounds.1) _ (maybe (part s.ByStep)) _ _ _ c.from_residual-in_err-from.ensures.1
    (runs.once (c.is_next.ensures ∙ c.if-is_next.true) (runs.part_fails (runs.next_fails (run_word grammar table _ start) (c.in_err-from.ensures _ _ _ _ _ c.optional_expr.ensures))))

pub postfixes::stepped-returns-then-is_next : goal.postfixes::stepped-returns-then-is_next
postfixes::stepped-returns-then-is_next t c =
    let start = c.in_ok-bounds.ensures.2 in
    let step = c.in_ok-from.ensures _ _ _ _ _ c.optional_expr.ensures in
    read grammar table _ (stepped c.args.place c.args.bounds.0 c.args.bounds.1) c.requires.inside
    (runs.once (c.is_next.ensures ∙ c.if-is_next.true) (runs.part (runs.both (run_word grammar table _ start) step.runs)))
    ((λ i. postfix.Slice c.args.place (sym c.in_ok-bounds.ensures.0 i).0 (sym c.in_ok-bounds.ensures.0 i).1 true (optional step.tree (expr_of step.tree)))
    ∙ (λ i. postfix.Slice c.args.place (step.shows i).0.0 (step.shows i).0.1 true (step.shows i).1))

pub postfixes::stepped-returns : goal.postfixes::stepped-returns
postfixes::stepped-returns t c =
    read grammar table _ (stepped c.args.place c.args.bounds.0 c.args.bounds.1) c.requires.inside
    (runs.never (c.is_next.ensures ∙ c.if-is_next.false))
    refl

pub postfixes::optional_expr-returns-in_err-value : goal.postfixes::optional_expr-returns-in_err-value
postfixes::optional_expr-returns-in_err-value t c =
    failed grammar table _ (λ t. optional t (expr_of t)) _ (maybe (part s.Expr)) _ _ _ c.from_residual.ensures.1
    (runs.once (c.is_next.ensures ∙ c.if-is_next.true) (c.in_err-value.ensures _ _ _ _ _ c.expr.ensures))

pub postfixes::optional_expr-returns-then-is_next : goal.postfixes::optional_expr-returns-then-is_next
postfixes::optional_expr-returns-then-is_next t c =
    let value = c.in_ok-value.ensures _ _ _ _ _ c.expr.ensures in
    read grammar table _ (λ t. optional t (expr_of t)) c.requires.inside
    (runs.once (c.is_next.ensures ∙ c.if-is_next.true) value.runs)
    (optional_part value.runs (expr_of value.tree) ∙ (λ i. Some (value.shows i)))

pub postfixes::optional_expr-returns : goal.postfixes::optional_expr-returns
postfixes::optional_expr-returns t c =
    read grammar table _ (λ t. optional t (expr_of t)) c.requires.inside
    (runs.never (c.is_next.ensures ∙ c.if-is_next.false))
    refl

pub primaries::primary-returns-then-is_next : goal.primaries::primary-returns-then-is_next
primaries::primary-returns-then-is_next t c =
    reads_part grammar table _ _ _ s.Primary _ _ (reads_left grammar table _ _ _ (part s.Literal) (part s.Named ∣ part s.Cast ∣ nested (part s.Round) ∣ nested (part s.Square) ∣ nested (part s.Curly) ∣ part s.Blank) _ _ (c.is_next.ensures ∙ c.if-is_next.true) (c.literal.ensures c.args.room))

pub primaries::primary-returns-then-is_next-2 : goal.primaries::primary-returns-then-is_next-2
primaries::primary-returns-then-is_next-2 t c =
    reads_part grammar table _ _ _ s.Primary _ _ (reads_right grammar table _ _ _ (part s.Literal) (part s.Named ∣ part s.Cast ∣ nested (part s.Round) ∣ nested (part s.Square) ∣ nested (part s.Curly) ∣ part s.Blank) _ _ (c.is_next.ensures ∙ c.if-is_next.false) (reads_left grammar table _ _ _ (part s.Named) (part s.Cast ∣ nested (part s.Round) ∣ nested (part s.Square) ∣ nested (part s.Curly) ∣ part s.Blank) _ _ (c.is_next-2.ensures ∙ c.if-is_next-2.true) c.named.ensures))

pub primaries::primary-returns-then-is_next-3 : goal.primaries::primary-returns-then-is_next-3
primaries::primary-returns-then-is_next-3 t c =
    reads_part grammar table _ _ _ s.Primary _ _ (reads_right grammar table _ _ _ (part s.Literal) (part s.Named ∣ part s.Cast ∣ nested (part s.Round) ∣ nested (part s.Square) ∣ nested (part s.Curly) ∣ part s.Blank) _ _ (c.is_next.ensures ∙ c.if-is_next.false) (reads_right grammar table _ _ _ (part s.Named) (part s.Cast ∣ nested (part s.Round) ∣ nested (part s.Square) ∣ nested (part s.Curly) ∣ part s.Blank) _ _ (c.is_next-2.ensures ∙ c.if-is_next-2.false) (reads_left grammar table _ _ _ (part s.Cast) (nested (part s.Round) ∣ nested (part s.Square) ∣ nested (part s.Curly) ∣ part s.Blank) _ _ (c.is_next-3.ensures ∙ c.if-is_next-3.true) c.cast.ensures)))

pub primaries::primary-returns-then-is_next-4 : goal.primaries::primary-returns-then-is_next-4
primaries::primary-returns-then-is_next-4 t c =
    reads_part grammar table _ _ _ s.Primary _ _ (reads_right grammar table _ _ _ (part s.Literal) (part s.Named ∣ part s.Cast ∣ nested (part s.Round) ∣ nested (part s.Square) ∣ nested (part s.Curly) ∣ part s.Blank) _ _ (c.is_next.ensures ∙ c.if-is_next.false) (reads_right grammar table _ _ _ (part s.Named) (part s.Cast ∣ nested (part s.Round) ∣ nested (part s.Square) ∣ nested (part s.Curly) ∣ part s.Blank) _ _ (c.is_next-2.ensures ∙ c.if-is_next-2.false) (reads_right grammar table _ _ _ (part s.Cast) (nested (part s.Round) ∣ nested (part s.Square) ∣ nested (part s.Curly) ∣ part s.Blank) _ _ (c.is_next-3.ensures ∙ c.if-is_next-3.false) (reads_left grammar table _ _ _ (nested (part s.Round)) (nested (part s.Square) ∣ nested (part s.Curly) ∣ part s.Blank) _ _ (c.is_next-4.ensures ∙ c.if-is_next-4.true) c.round.ensures))))

pub primaries::primary-returns-then-is_next-5 : goal.primaries::primary-returns-then-is_next-5
primaries::primary-returns-then-is_next-5 t c =
    reads_part grammar table _ _ _ s.Primary _ _ (reads_right grammar table _ _ _ (part s.Literal) (part s.Named ∣ part s.Cast ∣ nested (part s.Round) ∣ nested (part s.Square) ∣ nested (part s.Curly) ∣ part s.Blank) _ _ (c.is_next.ensures ∙ c.if-is_next.false) (reads_right grammar table _ _ _ (part s.Named) (part s.Cast ∣ nested (part s.Round) ∣ nested (part s.Square) ∣ nested (part s.Curly) ∣ part s.Blank) _ _ (c.is_next-2.ensures ∙ c.if-is_next-2.false) (reads_right grammar table _ _ _ (part s.Cast) (nested (part s.Round) ∣ nested (part s.Square) ∣ nested (part s.Curly) ∣ part s.Blank) _ _ (c.is_next-3.ensures ∙ c.if-is_next-3.false) (reads_right grammar table _ _ _ (nested (part s.Round)) (nested (part s.Square) ∣ nested (part s.Curly) ∣ part s.Blank) _ _ (c.is_next-4.ensures ∙ c.if-is_next-4.false) (reads_left grammar table _ _ _ (nested (part s.Square)) (nested (part s.Curly) ∣ part s.Blank) _ _ (c.is_next-5.ensures ∙ c.if-is_next-5.true) c.square.ensures)))))

pub primaries::primary-returns-then-is_next-6 : goal.primaries::primary-returns-then-is_next-6
primaries::primary-returns-then-is_next-6 t c =
    reads_part grammar table _ _ _ s.Primary _ _ (reads_right grammar table _ _ _ (part s.Literal) (part s.Named ∣ part s.Cast ∣ nested (part s.Round) ∣ nested (part s.Square) ∣ nested (part s.Curly) ∣ part s.Blank) _ _ (c.is_next.ensures ∙ c.if-is_next.false) (reads_right grammar table _ _ _ (part s.Named) (part s.Cast ∣ nested (part s.Round) ∣ nested (part s.Square) ∣ nested (part s.Curly) ∣ part s.Blank) _ _ (c.is_next-2.ensures ∙ c.if-is_next-2.false) (reads_right grammar table _ _ _ (part s.Cast) (nested (part s.Round) ∣ nested (part s.Square) ∣ nested (part s.Curly) ∣ part s.Blank) _ _ (c.is_next-3.ensures ∙ c.if-is_next-3.false) (reads_right grammar table _ _ _ (nested (part s.Round)) (nested (part s.Square) ∣ nested (part s.Curly) ∣ part s.Blank) _ _ (c.is_next-4.ensures ∙ c.if-is_next-4.false) (reads_right grammar table _ _ _ (nested (part s.Square)) (nested (part s.Curly) ∣ part s.Blank) _ _ (c.is_next-5.ensures ∙ c.if-is_next-5.false) (reads_left grammar table _ _ _ (nested (part s.Curly)) (part s.Blank) _ _ (c.is_next-6.ensures ∙ c.if-is_next-6.true) c.curly.ensures))))))

pub primaries::primary-returns : goal.primaries::primary-returns
primaries::primary-returns t c =
    reads_part grammar table _ _ _ s.Primary _ _ (reads_right grammar table _ _ _ (part s.Literal) (part s.Named ∣ part s.Cast ∣ nested (part s.Round) ∣ nested (part s.Square) ∣ nested (part s.Curly) ∣ part s.Blank) _ _ (c.is_next.ensures ∙ c.if-is_next.false) (reads_right grammar table _ _ _ (part s.Named) (part s.Cast ∣ nested (part s.Round) ∣ nested (part s.Square) ∣ nested (part s.Curly) ∣ part s.Blank) _ _ (c.is_next-2.ensures ∙ c.if-is_next-2.false) (reads_right grammar table _ _ _ (part s.Cast) (nested (part s.Round) ∣ nested (part s.Square) ∣ nested (part s.Curly) ∣ part s.Blank) _ _ (c.is_next-3.ensures ∙ c.if-is_next-3.false) (reads_right grammar table _ _ _ (nested (part s.Round)) (nested (part s.Square) ∣ nested (part s.Curly) ∣ part s.Blank) _ _ (c.is_next-4.ensures ∙ c.if-is_next-4.false) (reads_right grammar table _ _ _ (nested (part s.Square)) (nested (part s.Curly) ∣ part s.Blank) _ _ (c.is_next-5.ensures ∙ c.if-is_next-5.false) (reads_right grammar table _ _ _ (nested (part s.Curly)) (part s.Blank) _ _ (c.is_next-6.ensures ∙ c.if-is_next-6.false) c.blank.ensures))))))

pub primaries::named-returns-in_err-name : goal.primaries::named-returns-in_err-name
primaries::named-returns-in_err-name t c =
    failed grammar table _ expr_of _ (part s.Named) _ _ _ c.from_residual.ensures.1
    (runs.part_fails (runs.first_fails (c.in_err-name.ensures c.args.room)))

pub primaries::named-returns-in_err-values : goal.primaries::named-returns-in_err-values
primaries::named-returns-in_err-values t c =
    let name = c.in_ok-name.ensures c.args.room in
    failed grammar table _ expr_of _ (part s.Named) _ _ _ c.from_residual-in_err-values.ensures.1
    (runs.part_fails (runs.next_fails name.runs (runs.once (c.is_next.ensures ∙ c.if-is_next.true) c.in_err-values.ensures)))

pub primaries::named-returns-then-is_next : goal.primaries::named-returns-then-is_next
primaries::named-returns-then-is_next t c =
    let name = c.in_ok-name.ensures c.args.room in
    let values = c.in_ok-values.ensures in
    read grammar table _ expr_of c.requires.inside
    (runs.part (runs.both name.runs (runs.once (c.is_next.ensures ∙ c.if-is_next.true) values.runs)))
    (called_part values.runs _ _ ∙ (λ i. expr.Call (name.shows i) (values.shows i)))

pub primaries::named-returns : goal.primaries::named-returns
primaries::named-returns t c =
    let name = c.in_ok-name.ensures c.args.room in
    read grammar table _ expr_of c.requires.inside
    (runs.part (runs.both name.runs (runs.never (c.is_next.ensures ∙ c.if-is_next.false))))
    (λ i. expr.Named (name.shows i))

pub primaries::cast-returns-in_err-word : goal.primaries::cast-returns-in_err-word
primaries::cast-returns-in_err-word t c =
    failed grammar table _ expr_of _ (part s.Cast) _ _ _ c.from_residual.ensures.1
    (runs.part_fails (runs.first_fails (run_none_of cast_words.first cast_words.more c.in_err-word.ensures)))

pub primaries::cast-returns-in_err-inner : goal.primaries::cast-returns-in_err-inner
primaries::cast-returns-in_err-inner t c =
    let word = c.in_ok-word.ensures in
    failed grammar table _ expr_of _ (part s.Cast) _ _ _ c.from_residual-in_err-inner.ensures.1
    (runs.part_fails (runs.next_fails (run_one_of cast_words.first cast_words.more word) (run_refused grammar table _ _ Expression (sign LeftParen ▸ part s.Expr ▸ sign RightParen) _ _ c.in_err-inner.ensures.0 c.in_err-inner.ensures.1)))

pub primaries::cast-returns-in_err-left : goal.primaries::cast-returns-in_err-left
primaries::cast-returns-in_err-left t c =
    let word = c.in_ok-word.ensures in
    failed grammar table _ expr_of _ (part s.Cast) _ _ _ c.from_residual-in_err-left.ensures.1
    (runs.part_fails (runs.next_fails (run_one_of cast_words.first cast_words.more word) (runs.deeper c.in_ok-inner.ensures (runs.first_fails (run_no_word grammar table _ c.in_err-left.ensures)))))

pub primaries::cast-returns-in_err-operand : goal.primaries::cast-returns-in_err-operand
primaries::cast-returns-in_err-operand t c =
    let word = c.in_ok-word.ensures in
    let left = c.in_ok-left.ensures in
    failed grammar table _ expr_of _ (part s.Cast) _ _ _ c.from_residual-in_err-operand.ensures.1
    (runs.part_fails (runs.next_fails (run_one_of cast_words.first cast_words.more word) (runs.deeper c.in_ok-inner.ensures (runs.next_fails (run_word grammar table _ left) (runs.first_fails (c.in_err-operand.ensures _ _ _ _ _ c.expr.ensures))))))

pub primaries::cast-returns-in_err-end : goal.primaries::cast-returns-in_err-end
primaries::cast-returns-in_err-end t c =
    let word = c.in_ok-word.ensures in
    let left = c.in_ok-left.ensures in
    let operand = c.in_ok-operand.ensures _ _ _ _ _ c.expr.ensures in
    failed grammar table _ expr_of _ (part s.Cast) _ _ _ c.from_residual-in_err-end.ensures.1
    (runs.part_fails (runs.next_fails (run_one_of cast_words.first cast_words.more word) (runs.deeper c.in_ok-inner.ensures (runs.next_fails (run_word grammar table _ left) (runs.next_fails operand.runs (run_no_word grammar table _ c.in_err-end.ensures))))))

pub primaries::cast-returns : goal.primaries::cast-returns
primaries::cast-returns t c =
    let word = c.in_ok-word.ensures in
    let left = c.in_ok-left.ensures in
    let operand = c.in_ok-operand.ensures _ _ _ _ _ c.expr.ensures in
    let end = c.in_ok-end.ensures in
    read grammar table _ expr_of c.requires.inside
    (runs.part (runs.both (run_one_of cast_words.first cast_words.more word) (runs.deeper c.in_ok-inner.ensures (runs.both (run_word grammar table _ left) (runs.both operand.runs (run_word grammar table _ end))))))
    (λ i. expr.Cast (ap (given_or cast.Int) c.cast_of.ensures i) c.in_ok-word.word.now.place (operand.shows i))

pub primaries::cast-cast_of-requires : goal.primaries::cast-cast_of-requires
primaries::cast-cast_of-requires t c = cast_row c.in_ok-word.word.now.token c.in_ok-word.ensures.of_classes

pub primaries::round-returns-in_err-inner : goal.primaries::round-returns-in_err-inner
primaries::round-returns-in_err-inner t c =
    failed grammar table _ expr_of _ (nested (part s.Round)) _ _ _ c.from_residual.ensures.1
    (run_refused grammar table _ _ Expression (part s.Round) _ _ c.in_err-inner.ensures.0 c.in_err-inner.ensures.1)

pub primaries::round-returns-in_err-word : goal.primaries::round-returns-in_err-word
primaries::round-returns-in_err-word t c =
    failed grammar table _ expr_of _ (nested (part s.Round)) _ _ _ c.from_residual-in_err-word.ensures.1
    (runs.deeper c.in_ok-inner.ensures (runs.part_fails (runs.first_fails (run_no_word grammar table _ c.in_err-word.ensures))))

pub primaries::round-returns-in_err-first : goal.primaries::round-returns-in_err-first
primaries::round-returns-in_err-first t c =
    let word = c.in_ok-word.ensures in
    failed grammar table _ expr_of _ (nested (part s.Round)) _ _ _ c.from_residual-in_err-first.ensures.1
    (runs.deeper c.in_ok-inner.ensures (runs.part_fails (runs.next_fails (run_word grammar table _ word) (runs.first_fails c.in_err-first.ensures))))

pub primaries::round-returns-in_err-value : goal.primaries::round-returns-in_err-value
primaries::round-returns-in_err-value t c =
    let word = c.in_ok-word.ensures in
    let first = c.in_ok-first.ensures in
    failed grammar table _ expr_of _ (nested (part s.Round)) _ _ _ c.from_residual-in_err-value.ensures.1
    (runs.deeper c.in_ok-inner.ensures (runs.part_fails (runs.next_fails (run_word grammar table _ word) (runs.next_fails first.runs (runs.first_fails c.in_err-value.ensures)))))

pub primaries::round-returns-in_err-value-2 : goal.primaries::round-returns-in_err-value-2
primaries::round-returns-in_err-value-2 t c =
    let word = c.in_ok-word.ensures in
    let first = c.in_ok-first.ensures in
    let value = c.in_ok-value.ensures in
    failed grammar table _ expr_of _ (nested (part s.Round)) _ _ _ c.from_residual-in_err-value-2.ensures.1
    (runs.deeper c.in_ok-inner.ensures (runs.part_fails (runs.next_fails (run_word grammar table _ word) (runs.next_fails first.runs (runs.next_fails value.runs (run_no_word grammar table _ c.in_err-value-2.ensures))))))

pub primaries::round-returns : goal.primaries::round-returns
primaries::round-returns t c =
    let word = c.in_ok-word.ensures in
    let first = c.in_ok-first.ensures in
    let value = c.in_ok-value.ensures in
    let end = c.in_ok-value-2.ensures in
    read grammar table _ expr_of c.requires.inside
    (runs.deeper c.in_ok-inner.ensures (runs.part (runs.both (run_word grammar table _ word) (runs.both first.runs (runs.both value.runs (run_word grammar table _ end.2))))))
    ((λ i. bracketed c.in_ok-word.word.now.place (first.shows i) value.tree) ∙ (value.shows ∙ sym end.0))

pub primaries::tuple_or_round-exprs_after-requires : goal.primaries::tuple_or_round-exprs_after-requires
primaries::tuple_or_round-exprs_after-requires t c =
    let start = c.in_ok-first.ensures.2 in
    (search rules, (c.requires.short, start.inside))

pub primaries::tuple_or_round-returns-in_err-first : goal.primaries::tuple_or_round-returns-in_err-first
primaries::tuple_or_round-returns-in_err-first t c =
    failed grammar table _ (bracketed c.args.place c.args.first) _ (maybe (part s.Others)) _ _ _ c.from_residual.ensures.1
    (runs.once (c.is_next.ensures ∙ c.if-is_next.true) (runs.part_fails (runs.first_fails (run_no_word grammar table _ c.in_err-first.ensures))))

pub primaries::tuple_or_round-returns-in_err-found : goal.primaries::tuple_or_round-returns-in_err-found
primaries::tuple_or_round-returns-in_err-found t c =
    no_memory grammar table _ (bracketed c.args.place c.args.first) _ (maybe (part s.Others)) _ _ c.from_residual-in_err-found.ensures.1

pub primaries::tuple_or_round-returns-in_err-values : goal.primaries::tuple_or_round-returns-in_err-values
primaries::tuple_or_round-returns-in_err-values t c =
    let start = c.in_ok-first.ensures.2 in
    failed grammar table _ (bracketed c.args.place c.args.first) _ (maybe (part s.Others)) _ _ _ c.from_residual-in_err-values.ensures.1
    (runs.once (c.is_next.ensures ∙ c.if-is_next.true) (runs.part_fails (runs.next_fails (run_word grammar table _ start) c.in_err-values.ensures)))

pub primaries::tuple_or_round-returns-in_err-boxed : goal.primaries::tuple_or_round-returns-in_err-boxed
primaries::tuple_or_round-returns-in_err-boxed t c =
    no_memory grammar table _ (bracketed c.args.place c.args.first) _ (maybe (part s.Others)) _ _ c.from_residual-in_err-boxed.ensures.1

pub primaries::tuple_or_round-returns-then-is_next : goal.primaries::tuple_or_round-returns-then-is_next
primaries::tuple_or_round-returns-then-is_next t c =
    let start = c.in_ok-first.ensures.2 in
    let values = c.in_ok-values.ensures in
    read grammar table _ (bracketed c.args.place c.args.first) c.requires.inside
    (runs.once (c.is_next.ensures ∙ c.if-is_next.true) (runs.part (runs.both (run_word grammar table _ start) values.runs)))
    ((λ i. expr.TupleOf c.args.place (sym c.in_ok-first.ensures.0 i ∷ exprs_of values.tree))
    ∙ (λ i. expr.TupleOf c.args.place (sym c.in_ok-found.ensures.items i ++ exprs_of values.tree)) ∙ (λ i. expr.TupleOf c.args.place (values.shows i)))

pub primaries::tuple_or_round-returns : goal.primaries::tuple_or_round-returns
primaries::tuple_or_round-returns t c =
    read grammar table _ (bracketed c.args.place c.args.first) c.requires.inside
    (runs.never (c.is_next.ensures ∙ c.if-is_next.false))
    (λ i. expr.Round c.args.place (sym c.in_ok-boxed.ensures.same i))

pub primaries::square-returns-in_err-inner : goal.primaries::square-returns-in_err-inner
primaries::square-returns-in_err-inner t c =
    failed grammar table _ expr_of _ (nested (part s.Square)) _ _ _ c.from_residual.ensures.1
    (run_refused grammar table _ _ Expression (part s.Square) _ _ c.in_err-inner.ensures.0 c.in_err-inner.ensures.1)

pub primaries::square-returns-in_err-word : goal.primaries::square-returns-in_err-word
primaries::square-returns-in_err-word t c =
    failed grammar table _ expr_of _ (nested (part s.Square)) _ _ _ c.from_residual-in_err-word.ensures.1
    (runs.deeper c.in_ok-inner.ensures (runs.part_fails (runs.first_fails (run_no_word grammar table _ c.in_err-word.ensures))))

pub primaries::square-returns-in_err-values : goal.primaries::square-returns-in_err-values
primaries::square-returns-in_err-values t c =
    let word = c.in_ok-word.ensures in
    failed grammar table _ expr_of _ (nested (part s.Square)) _ _ _ c.from_residual-in_err-values.ensures.1
    (runs.deeper c.in_ok-inner.ensures (runs.part_fails (runs.next_fails (run_word grammar table _ word) (runs.first_fails c.in_err-values.ensures))))

pub primaries::square-returns-in_err-end : goal.primaries::square-returns-in_err-end
primaries::square-returns-in_err-end t c =
    let word = c.in_ok-word.ensures in
    let values = c.in_ok-values.ensures in
    failed grammar table _ expr_of _ (nested (part s.Square)) _ _ _ c.from_residual-in_err-end.ensures.1
    (runs.deeper c.in_ok-inner.ensures (runs.part_fails (runs.next_fails (run_word grammar table _ word) (runs.next_fails values.runs (run_no_word grammar table _ c.in_err-end.ensures)))))

pub primaries::square-returns : goal.primaries::square-returns
primaries::square-returns t c =
    let word = c.in_ok-word.ensures in
    let values = c.in_ok-values.ensures in
    let end = c.in_ok-end.ensures in
    read grammar table _ expr_of c.requires.inside
    (runs.deeper c.in_ok-inner.ensures (runs.part (runs.both (run_word grammar table _ word) (runs.both values.runs (run_word grammar table _ end)))))
    (λ i. expr.ListOf c.in_ok-word.word.now.place (values.shows i))

pub sequences::arguments-returns-in_err-inner : goal.sequences::arguments-returns-in_err-inner
sequences::arguments-returns-in_err-inner t c =
    failed grammar table _ arguments_of _ (part s.Arguments) _ _ _ c.from_residual.ensures.1
    (runs.part_fails (run_refused grammar table _ _ Expression (sign LeftParen ▸ maybe (part s.Exprs) ▸ sign RightParen) _ _ c.in_err-inner.ensures.0 c.in_err-inner.ensures.1))

pub sequences::arguments-returns-in_err-start : goal.sequences::arguments-returns-in_err-start
sequences::arguments-returns-in_err-start t c =
    failed grammar table _ arguments_of _ (part s.Arguments) _ _ _ c.from_residual-in_err-start.ensures.1
    (runs.part_fails (runs.deeper c.in_ok-inner.ensures (runs.first_fails (run_no_word grammar table _ c.in_err-start.ensures))))

pub sequences::arguments-returns-in_err-values : goal.sequences::arguments-returns-in_err-values
sequences::arguments-returns-in_err-values t c =
    let start = c.in_ok-start.ensures in
    failed grammar table _ arguments_of _ (part s.Arguments) _ _ _ c.from_residual-in_err-values.ensures.1
    (runs.part_fails (runs.deeper c.in_ok-inner.ensures (runs.next_fails (run_word grammar table _ start) (runs.first_fails c.in_err-values.ensures))))

pub sequences::arguments-returns-in_err-end : goal.sequences::arguments-returns-in_err-end
sequences::arguments-returns-in_err-end t c =
    let start = c.in_ok-start.ensures in
    let values = c.in_ok-values.ensures in
    failed grammar table _ arguments_of _ (part s.Arguments) _ _ _ c.from_residual-in_err-end.ensures.1
    (runs.part_fails (runs.deeper c.in_ok-inner.ensures (runs.next_fails (run_word grammar table _ start) (runs.next_fails values.runs (run_no_word grammar table _ c.in_err-end.ensures)))))

pub sequences::arguments-returns : goal.sequences::arguments-returns
sequences::arguments-returns t c =
    let start = c.in_ok-start.ensures in
    let values = c.in_ok-values.ensures in
    let end = c.in_ok-end.ensures in
    read grammar table _ arguments_of c.requires.inside
    (runs.part (runs.deeper c.in_ok-inner.ensures (runs.both (run_word grammar table _ start) (runs.both values.runs (run_word grammar table _ end)))))
    values.shows

pub sequences::optional_exprs-returns-then-is_next : goal.sequences::optional_exprs-returns-then-is_next
sequences::optional_exprs-returns-then-is_next t c =
    reads_once grammar table _ _ _ (part s.Exprs) _ _ (c.is_next.ensures ∙ c.if-is_next.true) c.exprs.ensures

pub sequences::optional_exprs-returns-in_err-items : goal.sequences::optional_exprs-returns-in_err-items
sequences::optional_exprs-returns-in_err-items t c =
    no_memory grammar table _ exprs_of _ (maybe (part s.Exprs)) _ _ c.from_residual.ensures.1

pub sequences::optional_exprs-returns : goal.sequences::optional_exprs-returns
sequences::optional_exprs-returns t c =
    read grammar table _ exprs_of c.requires.inside
    (runs.never (c.is_next.ensures ∙ c.if-is_next.false))
    (sym (c.in_ok-items.ensures.same ∙ c.new.ensures.items))

pub sequences::exprs-returns : goal.sequences::exprs-returns
sequences::exprs-returns t c =
    reads_same _ _ _ _ (part s.Exprs) _ _ (λ u i. sym c.new.ensures.items i ++ exprs_of u) c.exprs_after.ensures

pub sequences::exprs_after-returns-in_err-first : goal.sequences::exprs_after-returns-in_err-first
sequences::exprs_after-returns-in_err-first t c =
    failed grammar table _ (λ t. c.args.found.items ++ exprs_of t) _ (part s.Exprs) _ _ _ c.from_residual.ensures.1
    (runs.part_fails (runs.first_fails c.in_err-first.ensures))

pub sequences::exprs_after-returns-in_err-push : goal.sequences::exprs_after-returns-in_err-push
sequences::exprs_after-returns-in_err-push t c =
    no_memory grammar table _ (λ t. c.args.found.items ++ exprs_of t) _ (part s.Exprs) _ _ c.from_residual-in_err-push.ensures.1

pub sequences::exprs_after-returns : goal.sequences::exprs_after-returns
sequences::exprs_after-returns t c =
    let first = c.in_ok-first.ensures in
    reads_part grammar table _ _ _ s.Exprs _ _ (reads_then grammar table _ _ _ (part s.Expr) (many (sign Comma ▸ part s.Expr)) _ _ _ _ first.runs (reads_same _ _ _ _ (many (sign Comma ▸ part s.Expr)) _ _ (λ u.
    (λ i. c.args.found.items ++ (first.shows i ∷ more_exprs_of u))
    ∙ (sym {A = List Expr} (append_assoc c.args.found.items (c.in_ok-first.first ∷ []) (more_exprs_of u)) ∙ (λ i. sym c.in_ok-push.ensures.items i ++ more_exprs_of u))) c.more_exprs.ensures))

pub sequences::more_exprs-turn-init : goal.sequences::more_exprs-turn-init
sequences::more_exprs-turn-init t c =
    gathered_start _ c.args.found.items refl (λ u. refl) c.requires.inside

pub sequences::more_exprs-returns-in_err-start : goal.sequences::more_exprs-returns-in_err-start
sequences::more_exprs-returns-in_err-start t c =
    failed grammar table _ (λ t. c.args.found.items ++ more_exprs_of t) _ (many (sign Comma ▸ part s.Expr)) _ _ _ c.from_residual.ensures.1
    (gathered_fails _ c.turn.invariant (c.is_next.ensures ∙ c.turn-test.true) (runs.first_fails (run_no_word grammar table _ c.in_err-start.ensures)))

pub sequences::more_exprs-returns-in_err-one : goal.sequences::more_exprs-returns-in_err-one
sequences::more_exprs-returns-in_err-one t c =
    failed grammar table _ (λ t. c.args.found.items ++ more_exprs_of t) _ (many (sign Comma ▸ part s.Expr)) _ _ _ c.from_residual-in_err-one.ensures.1
    (gathered_fails _ c.turn.invariant (c.is_next.ensures ∙ c.turn-test.true) (runs.next_fails (run_word grammar table _ c.in_ok-start.ensures) c.in_err-one.ensures))

pub sequences::more_exprs-returns-in_err-push : goal.sequences::more_exprs-returns-in_err-push
sequences::more_exprs-returns-in_err-push t c =
    no_memory grammar table _ (λ t. c.args.found.items ++ more_exprs_of t) _ (many (sign Comma ▸ part s.Expr)) _ _ c.from_residual-in_err-push.ensures.1

pub sequences::more_exprs-turn-preserved : goal.sequences::more_exprs-turn-preserved
sequences::more_exprs-turn-preserved t c =
    let one = c.in_ok-one.ensures in
    gathered_more c.turn.invariant (c.is_next.ensures ∙ c.turn-test.true) (runs.both (run_word grammar table _ c.in_ok-start.ensures) one.runs) _ (λ u i. one.shows i ∷ more_exprs_of u) one.inside _ c.in_ok-push.ensures.items

pub sequences::more_exprs-returns-in_err-items : goal.sequences::more_exprs-returns-in_err-items
sequences::more_exprs-returns-in_err-items t c =
    no_memory grammar table _ (λ t. c.args.found.items ++ more_exprs_of t) _ (many (sign Comma ▸ part s.Expr)) _ _ c.from_residual-in_err-items.ensures.1

pub sequences::more_exprs-returns : goal.sequences::more_exprs-returns
sequences::more_exprs-returns t c =
    gathered_stop c.turn.invariant (c.is_next.ensures ∙ c.turn-test.false) refl c.requires.inside _ c.in_ok-items.ensures.same

pub braces::curly-returns-in_err-inner : goal.braces::curly-returns-in_err-inner
braces::curly-returns-in_err-inner t c =
    failed grammar table _ expr_of _ (nested (part s.Curly)) _ _ _ c.from_residual.ensures.1
    (run_refused grammar table _ _ Expression (part s.Curly) _ _ c.in_err-inner.ensures.0 c.in_err-inner.ensures.1)

pub braces::curly-returns-in_err-word : goal.braces::curly-returns-in_err-word
braces::curly-returns-in_err-word t c =
    failed grammar table _ expr_of _ (nested (part s.Curly)) _ _ _ c.from_residual-in_err-word.ensures.1
    (runs.deeper c.in_ok-inner.ensures (runs.part_fails (runs.first_fails (run_no_word grammar table _ c.in_err-word.ensures))))

pub braces::curly-returns-in_err-first : goal.braces::curly-returns-in_err-first
braces::curly-returns-in_err-first t c =
    let word = c.in_ok-word.ensures in
    failed grammar table _ expr_of _ (nested (part s.Curly)) _ _ _ c.from_residual-in_err-first.ensures.1
    (runs.deeper c.in_ok-inner.ensures (runs.part_fails (runs.next_fails (run_word grammar table _ word) (runs.first_fails c.in_err-first.ensures))))

pub braces::curly-returns-in_err-value : goal.braces::curly-returns-in_err-value
braces::curly-returns-in_err-value t c =
    let word = c.in_ok-word.ensures in
    let first = c.in_ok-first.ensures in
    failed grammar table _ expr_of _ (nested (part s.Curly)) _ _ _ c.from_residual-in_err-value.ensures.1
    (runs.deeper c.in_ok-inner.ensures (runs.part_fails (runs.next_fails (run_word grammar table _ word) (runs.next_fails first.runs (runs.first_fails c.in_err-value.ensures)))))

pub braces::curly-returns-in_err-value-2 : goal.braces::curly-returns-in_err-value-2
braces::curly-returns-in_err-value-2 t c =
    let word = c.in_ok-word.ensures in
    let first = c.in_ok-first.ensures in
    let value = c.in_ok-value.ensures in
    failed grammar table _ expr_of _ (nested (part s.Curly)) _ _ _ c.from_residual-in_err-value-2.ensures.1
    (runs.deeper c.in_ok-inner.ensures (runs.part_fails (runs.next_fails (run_word grammar table _ word) (runs.next_fails first.runs (runs.next_fails value.runs (run_no_word grammar table _ c.in_err-value-2.ensures))))))

pub braces::curly-returns : goal.braces::curly-returns
braces::curly-returns t c =
    let word = c.in_ok-word.ensures in
    let first = c.in_ok-first.ensures in
    let value = c.in_ok-value.ensures in
    let end = c.in_ok-value-2.ensures in
    read grammar table _ expr_of c.requires.inside
    (runs.deeper c.in_ok-inner.ensures (runs.part (runs.both (run_word grammar table _ word) (runs.both first.runs (runs.both value.runs (run_word grammar table _ end.2))))))
    ((λ i. braced c.in_ok-word.word.now.place (first.shows i) value.tree) ∙ (value.shows ∙ sym end.0))

pub braces::set_or_dict-returns-then-is_next : goal.braces::set_or_dict-returns-then-is_next
braces::set_or_dict-returns-then-is_next t c =
    reads_once grammar table _ _ _ (part s.Contents) _ _ (c.is_next.ensures ∙ c.if-is_next.true) c.contents.ensures

pub braces::set_or_dict-returns-in_err-found : goal.braces::set_or_dict-returns-in_err-found
braces::set_or_dict-returns-in_err-found t c =
    no_memory grammar table _ (braced c.args.place c.args.first) _ (maybe (part s.Contents)) _ _ c.from_residual.ensures.1

pub braces::set_or_dict-returns-in_err-values : goal.braces::set_or_dict-returns-in_err-values
braces::set_or_dict-returns-in_err-values t c =
    no_memory grammar table _ (braced c.args.place c.args.first) _ (maybe (part s.Contents)) _ _ c.from_residual-in_err-values.ensures.1

pub braces::set_or_dict-returns : goal.braces::set_or_dict-returns
braces::set_or_dict-returns t c =
    read grammar table _ (braced c.args.place c.args.first) c.requires.inside
    (runs.never (c.is_next.ensures ∙ c.if-is_next.false))
    (λ i. expr.SetOf c.args.place (sym (c.in_ok-values.ensures.same ∙ c.in_ok-found.ensures.items) i))

pub braces::contents-exprs_after-requires : goal.braces::contents-exprs_after-requires
braces::contents-exprs_after-requires t c =
    let start = c.in_ok-first.ensures.2 in
    (search rules, (c.requires.short, start.inside))

pub braces::contents-returns-in_err-first : goal.braces::contents-returns-in_err-first
braces::contents-returns-in_err-first t c =
    failed grammar table _ (braced c.args.place c.args.first) _ (part s.Contents) _ _ _ c.from_residual.ensures.1
    (runs.part_fails (runs.left (c.is_next.ensures ∙ c.if-is_next.true) (runs.part_fails (runs.first_fails (run_no_word grammar table _ c.in_err-first.ensures)))))

pub braces::contents-returns-in_err-found : goal.braces::contents-returns-in_err-found
braces::contents-returns-in_err-found t c =
    no_memory grammar table _ (braced c.args.place c.args.first) _ (part s.Contents) _ _ c.from_residual-in_err-found.ensures.1

pub braces::contents-returns-in_err-values : goal.braces::contents-returns-in_err-values
braces::contents-returns-in_err-values t c =
    let start = c.in_ok-first.ensures.2 in
    failed grammar table _ (braced c.args.place c.args.first) _ (part s.Contents) _ _ _ c.from_residual-in_err-values.ensures.1
    (runs.part_fails (runs.left (c.is_next.ensures ∙ c.if-is_next.true) (runs.part_fails (runs.next_fails (run_word grammar table _ start) c.in_err-values.ensures))))

pub braces::contents-returns-then-is_next : goal.braces::contents-returns-then-is_next
braces::contents-returns-then-is_next t c =
    let start = c.in_ok-first.ensures.2 in
    let values = c.in_ok-values.ensures in
    read grammar table _ (braced c.args.place c.args.first) c.requires.inside
    (runs.part (runs.left (c.is_next.ensures ∙ c.if-is_next.true) (runs.part (runs.both (run_word grammar table _ start) values.runs))))
    ((λ i. expr.SetOf c.args.place (sym c.in_ok-first.ensures.0 i ∷ exprs_of values.tree))
    ∙ (λ i. expr.SetOf c.args.place (sym c.in_ok-found.ensures.items i ++ exprs_of values.tree)) ∙ (λ i. expr.SetOf c.args.place (values.shows i)))

pub braces::contents-returns : goal.braces::contents-returns
braces::contents-returns t c =
    reads_part grammar table _ _ _ s.Contents _ _ (reads_right grammar table _ _ _ (part s.Others) (part s.Entries) _ _ (c.is_next.ensures ∙ c.if-is_next.false) c.entries.ensures)

pub braces::entries-expr-requires : goal.braces::entries-expr-requires
braces::entries-expr-requires t c =
    let start = c.in_ok-key.ensures.2 in
    (search rules, (c.requires.short, start.inside))

pub braces::entries-returns-in_err-key : goal.braces::entries-returns-in_err-key
braces::entries-returns-in_err-key t c =
    failed grammar table _ (braced c.args.place c.args.key) _ (part s.Entries) _ _ _ c.from_residual.ensures.1
    (runs.part_fails (runs.first_fails (run_no_word grammar table _ c.in_err-key.ensures)))

pub braces::entries-returns-in_err-key-2 : goal.braces::entries-returns-in_err-key-2
braces::entries-returns-in_err-key-2 t c =
    let start = c.in_ok-key.ensures.2 in
    failed grammar table _ (braced c.args.place c.args.key) _ (part s.Entries) _ _ _ c.from_residual-in_err-key-2.ensures.1
    (runs.part_fails (runs.next_fails (run_word grammar table _ start) (runs.first_fails (c.in_err-key-2.ensures _ _ _ _ _ c.expr.ensures))))

pub braces::entries-returns-in_err-found : goal.braces::entries-returns-in_err-found
braces::entries-returns-in_err-found t c =
    no_memory grammar table _ (braced c.args.place c.args.key) _ (part s.Entries) _ _ c.from_residual-in_err-found.ensures.1

pub braces::entries-returns-in_err-values : goal.braces::entries-returns-in_err-values
braces::entries-returns-in_err-values t c =
    let start = c.in_ok-key.ensures.2 in
    let value = c.in_ok-key-2.ensures _ _ _ _ _ c.expr.ensures in
    failed grammar table _ (braced c.args.place c.args.key) _ (part s.Entries) _ _ _ c.from_residual-in_err-values.ensures.1
    (runs.part_fails (runs.next_fails (run_word grammar table _ start) (runs.next_fails value.runs c.in_err-values.ensures)))

pub braces::entries-returns : goal.braces::entries-returns
braces::entries-returns t c =
    let start = c.in_ok-key.ensures.2 in
    let value = c.in_ok-key-2.ensures _ _ _ _ _ c.expr.ensures in
    let values = c.in_ok-values.ensures in
    read grammar table _ (braced c.args.place c.args.key) c.requires.inside
    (runs.part (runs.both (run_word grammar table _ start) (runs.both value.runs values.runs)))
    ((λ i. expr.DictOf c.args.place (record { key = sym c.in_ok-key.ensures.0 i; value = expr_of value.tree } ∷ entries_of values.tree))
    ∙ (λ i. expr.DictOf c.args.place (record { key = (value.shows i).0; value = (value.shows i).1 } ∷ entries_of values.tree))
    ∙ ((λ i. expr.DictOf c.args.place (sym c.in_ok-found.ensures.items i ++ entries_of values.tree)) ∙ (λ i. expr.DictOf c.args.place (values.shows i))))

pub braces::entries-more_entries-requires : goal.braces::entries-more_entries-requires
braces::entries-more_entries-requires t c =
    let value = c.in_ok-key-2.ensures _ _ _ _ _ c.expr.ensures in
    (search rules, (c.requires.short, value.inside))

pub braces::more_entries-turn-init : goal.braces::more_entries-turn-init
braces::more_entries-turn-init t c =
    gathered_start _ c.args.found.items refl (λ u. refl) c.requires.inside

pub braces::more_entries-returns-in_err-one : goal.braces::more_entries-returns-in_err-one
braces::more_entries-returns-in_err-one t c =
    failed grammar table _ (λ t. c.args.found.items ++ entries_of t) _ (many (part s.MoreEntry)) _ _ _ c.from_residual.ensures.1
    (gathered_fails _ c.turn.invariant (c.is_next.ensures ∙ c.turn-test.true) c.in_err-one.ensures)

pub braces::more_entries-returns-in_err-push : goal.braces::more_entries-returns-in_err-push
braces::more_entries-returns-in_err-push t c =
    no_memory grammar table _ (λ t. c.args.found.items ++ entries_of t) _ (many (part s.MoreEntry)) _ _ c.from_residual-in_err-push.ensures.1

pub braces::more_entries-turn-preserved : goal.braces::more_entries-turn-preserved
braces::more_entries-turn-preserved t c =
    let one = c.in_ok-one.ensures in
    gathered_more c.turn.invariant (c.is_next.ensures ∙ c.turn-test.true) one.runs _ (λ u i. one.shows i ∷ entries_of u) one.inside _ c.in_ok-push.ensures.items

pub braces::more_entries-turn-smaller : goal.braces::more_entries-turn-smaller
braces::more_entries-turn-smaller t c =
    let one = c.in_ok-one.ensures in
    omega (arith, part_moves one.runs, one.inside)

pub braces::more_entries-returns-in_err-items : goal.braces::more_entries-returns-in_err-items
braces::more_entries-returns-in_err-items t c =
    no_memory grammar table _ (λ t. c.args.found.items ++ entries_of t) _ (many (part s.MoreEntry)) _ _ c.from_residual-in_err-items.ensures.1

pub braces::more_entries-returns : goal.braces::more_entries-returns
braces::more_entries-returns t c =
    gathered_stop c.turn.invariant (c.is_next.ensures ∙ c.turn-test.false) refl c.requires.inside _ c.in_ok-items.ensures.same

pub braces::more_entry-returns-in_err-start : goal.braces::more_entry-returns-in_err-start
braces::more_entry-returns-in_err-start t c =
    failed grammar table _ entry_of _ (part s.MoreEntry) _ _ _ c.from_residual.ensures.1
    (runs.part_fails (runs.first_fails (run_no_word grammar table _ c.in_err-start.ensures)))

pub braces::more_entry-returns-in_err-key : goal.braces::more_entry-returns-in_err-key
braces::more_entry-returns-in_err-key t c =
    let start = c.in_ok-start.ensures in
    failed grammar table _ entry_of _ (part s.MoreEntry) _ _ _ c.from_residual-in_err-key.ensures.1
    (runs.part_fails (runs.next_fails (run_word grammar table _ start) (runs.first_fails c.in_err-key.ensures)))

pub braces::more_entry-returns-in_err-key-2 : goal.braces::more_entry-returns-in_err-key-2
braces::more_entry-returns-in_err-key-2 t c =
    let start = c.in_ok-start.ensures in
    let key = c.in_ok-key.ensures in
    failed grammar table _ entry_of _ (part s.MoreEntry) _ _ _ c.from_residual-in_err-key-2.ensures.1
    (runs.part_fails (runs.next_fails (run_word grammar table _ start) (runs.next_fails key.runs (c.in_err-key-2.ensures _ _ _ _ _ c.entry_value.ensures))))

pub braces::more_entry-returns : goal.braces::more_entry-returns
braces::more_entry-returns t c =
    let start = c.in_ok-start.ensures in
    let key = c.in_ok-key.ensures in
    let value = c.in_ok-key-2.ensures _ _ _ _ _ c.entry_value.ensures in
    read grammar table _ entry_of c.requires.inside
    (runs.part (runs.both (run_word grammar table _ start) (runs.both key.runs value.runs)))
    (entry_shows (run_word grammar table _ start) value.runs key.tree ∙ ((λ i. record { key = key.shows i; value = value_of value.tree }) ∙ (λ i. record { key = (value.shows i).0; value = (value.shows i).1 })))

pub braces::entry_value-returns-in_err-start : goal.braces::entry_value-returns-in_err-start
braces::entry_value-returns-in_err-start t c =
    failed grammar table _ value_of _ (sign Colon ▸ part s.Expr) _ _ _ c.from_residual.ensures.1
    (runs.first_fails (run_no_word grammar table _ c.in_err-start.ensures))

pub braces::entry_value-returns : goal.braces::entry_value-returns
braces::entry_value-returns t c =
    reads_then grammar table _ _ _ (sign Colon) (part s.Expr) _ _ _ _ (run_word grammar table _ c.in_ok-start.ensures) c.expr.ensures

pub blanks::blank-returns-in_err-word : goal.blanks::blank-returns-in_err-word
blanks::blank-returns-in_err-word t c =
    failed grammar table _ expr_of _ (part s.Blank) _ _ _ c.from_residual.ensures.1
    (runs.part_fails (runs.first_fails (run_no_word grammar table _ c.in_err-word.ensures)))

pub blanks::blank-returns-in_err-of : goal.blanks::blank-returns-in_err-of
blanks::blank-returns-in_err-of t c =
    let word = c.in_ok-word.ensures in
    failed grammar table _ expr_of _ (part s.Blank) _ _ _ c.from_residual-in_err-of.ensures.1
    (runs.part_fails (runs.next_fails (run_word grammar table _ word) (runs.first_fails (c.in_err-of.ensures _ _ _ _ _ c.any_type.ensures))))

pub blanks::blank-returns : goal.blanks::blank-returns
blanks::blank-returns t c =
    let word = c.in_ok-word.ensures in
    let of = c.in_ok-of.ensures _ _ _ _ _ c.any_type.ensures in
    reads_part grammar table _ _ _ s.Blank _ _ (reads_then grammar table _ _ _ (sign Less) (part s.AnyType ▸ part s.BlankEnd) _ _ _ _ (run_word grammar table _ word) (reads_then grammar table _ _ _ (part s.AnyType) (part s.BlankEnd) _ _ _ _ of.runs (reads_same _ _ _ _ (part s.BlankEnd) _ _ (λ u i. blank c.in_ok-word.word.now.place (of.shows i) u) c.blank_end.ensures)))

pub blanks::blank-blank_end-requires : goal.blanks::blank-blank_end-requires
blanks::blank-blank_end-requires t c =
    let of = c.in_ok-of.ensures _ _ _ _ _ c.any_type.ensures in
    (search rules, (c.requires.short, of.inside))

pub blanks::blank_end-returns-in_err-next : goal.blanks::blank_end-returns-in_err-next
blanks::blank_end-returns-in_err-next t c =
    failed grammar table _ (blank c.args.place c.args.of) _ (part s.BlankEnd) _ _ _ c.from_residual.ensures.1
    (runs.part_fails (runs.left (c.is_next.ensures ∙ c.if-is_next.true) (runs.first_fails (run_no_word grammar table _ c.in_err-next.ensures))))

pub blanks::blank_end-returns-in_err-start : goal.blanks::blank_end-returns-in_err-start
blanks::blank_end-returns-in_err-start t c =
    failed grammar table _ (blank c.args.place c.args.of) _ (part s.BlankEnd) _ _ _ c.from_residual-in_err-start.ensures.1
    (runs.part_fails (runs.right (c.is_next.ensures ∙ c.if-is_next.false) (runs.first_fails (run_no_word grammar table _ c.in_err-start.ensures))))

pub blanks::blank_end-returns-in_err-value : goal.blanks::blank_end-returns-in_err-value
blanks::blank_end-returns-in_err-value t c =
    let start = c.in_ok-start.ensures in
    failed grammar table _ (blank c.args.place c.args.of) _ (part s.BlankEnd) _ _ _ c.from_residual-in_err-value.ensures.1
    (runs.part_fails (runs.right (c.is_next.ensures ∙ c.if-is_next.false) (runs.next_fails (run_word grammar table _ start) (runs.first_fails (c.in_err-value.ensures _ _ _ _ _ c.any_type.ensures)))))

pub blanks::blank_end-returns-in_err-last : goal.blanks::blank_end-returns-in_err-last
blanks::blank_end-returns-in_err-last t c =
    let start = c.in_ok-start.ensures in
    let value = c.in_ok-value.ensures _ _ _ _ _ c.any_type.ensures in
    failed grammar table _ (blank c.args.place c.args.of) _ (part s.BlankEnd) _ _ _ c.from_residual-in_err-last.ensures.1
    (runs.part_fails (runs.right (c.is_next.ensures ∙ c.if-is_next.false) (runs.next_fails (run_word grammar table _ start) (runs.next_fails value.runs (runs.first_fails (run_no_word grammar table _ c.in_err-last.ensures))))))

pub blanks::blank_end-returns-in_err-end : goal.blanks::blank_end-returns-in_err-end
blanks::blank_end-returns-in_err-end t c =
    let start = c.in_ok-start.ensures in
    let value = c.in_ok-value.ensures _ _ _ _ _ c.any_type.ensures in
    let last = c.in_ok-last.ensures in
    failed grammar table _ (blank c.args.place c.args.of) _ (part s.BlankEnd) _ _ _ c.from_residual-in_err-end.ensures.1
    (runs.part_fails (runs.right (c.is_next.ensures ∙ c.if-is_next.false) (runs.next_fails (run_word grammar table _ start) (runs.next_fails value.runs (runs.next_fails (run_word grammar table _ last) c.in_err-end.ensures)))))

pub blanks::blank_end-returns-then-is_next : goal.blanks::blank_end-returns-then-is_next
blanks::blank_end-returns-then-is_next t c =
    let next = c.in_ok-next.ensures in
    reads_part grammar table _ _ _ s.BlankEnd _ _ (reads_left grammar table _ _ _ (sign Greater ▸ (nested (part s.BlankItems) ∣ nested (part s.BlankElements))) (sign Colon ▸ part s.AnyType ▸ sign Greater ▸ nested (part s.BlankElements)) _ _ (c.is_next.ensures ∙ c.if-is_next.true) (reads_then grammar table _ _ _ (sign Greater) (nested (part s.BlankItems) ∣ nested (part s.BlankElements)) _ _ _ _ (run_word grammar table _ next) (c.blank_items.ensures (leaf c.in_ok-next.field-0-0.now))))

pub blanks::blank_end-returns : goal.blanks::blank_end-returns
blanks::blank_end-returns t c =
    let start = c.in_ok-start.ensures in
    let value = c.in_ok-value.ensures _ _ _ _ _ c.any_type.ensures in
    let last = c.in_ok-last.ensures in
    let end = c.in_ok-end.ensures in
    read grammar table _ (blank c.args.place c.args.of) c.requires.inside
    (runs.part (runs.right (c.is_next.ensures ∙ c.if-is_next.false) (runs.both (run_word grammar table _ start) (runs.both value.runs (runs.both (run_word grammar table _ last) end.runs)))))
    (λ i. expr.EmptyDict c.args.place c.args.of (value.shows i))

pub types::any_type-returns-then-is_next : goal.types::any_type-returns-then-is_next
types::any_type-returns-then-is_next t c =
    reads_part grammar table _ _ _ s.AnyType _ _ (reads_left grammar table _ _ _ (part s.BuiltType) (part s.NamedType) _ _ (c.is_next.ensures ∙ c.if-is_next.true) c.built_type.ensures)

pub types::any_type-returns : goal.types::any_type-returns
types::any_type-returns t c =
    reads_part grammar table _ _ _ s.AnyType _ _ (reads_right grammar table _ _ _ (part s.BuiltType) (part s.NamedType) _ _ (c.is_next.ensures ∙ c.if-is_next.false) (c.named_type.ensures c.args.room))

pub types::nested_type-returns-in_err-inner : goal.types::nested_type-returns-in_err-inner
types::nested_type-returns-in_err-inner t c =
    failed grammar table _ type_of _ (nested (part s.AnyType)) _ _ _ c.from_residual.ensures.1
    (run_refused grammar table _ _ Expression (part s.AnyType) _ _ c.in_err-inner.ensures.0 c.in_err-inner.ensures.1)

pub types::nested_type-returns : goal.types::nested_type-returns
types::nested_type-returns t c =
    reads_deeper grammar table _ _ _ _ Expression (part s.AnyType) _ _ c.in_ok-inner.ensures (c.boxed.ensures _ _ _ _ _ c.any_type.ensures)

pub types::built_type-returns-then-is_next : goal.types::built_type-returns-then-is_next
types::built_type-returns-then-is_next t c =
    reads_part grammar table _ _ _ s.BuiltType _ _ (reads_left grammar table _ _ _ (part s.WordType) (part s.ListType ∣ part s.SetType ∣ part s.DistType ∣ part s.DictType ∣ part s.TupleType ∣ part s.ChanType) _ _ (c.is_next.ensures ∙ c.if-is_next.true) (c.word_type.ensures c.args.room))

pub types::built_type-returns-then-is_next-2 : goal.types::built_type-returns-then-is_next-2
types::built_type-returns-then-is_next-2 t c =
    reads_part grammar table _ _ _ s.BuiltType _ _ (reads_right grammar table _ _ _ (part s.WordType) (part s.ListType ∣ part s.SetType ∣ part s.DistType ∣ part s.DictType ∣ part s.TupleType ∣ part s.ChanType) _ _ (c.is_next.ensures ∙ c.if-is_next.false) (reads_left grammar table _ _ _ (part s.ListType) (part s.SetType ∣ part s.DistType ∣ part s.DictType ∣ part s.TupleType ∣ part s.ChanType) _ _ (c.is_next-2.ensures ∙ c.if-is_next-2.true) c.list_type.ensures))

pub types::built_type-returns-then-is_next-3 : goal.types::built_type-returns-then-is_next-3
types::built_type-returns-then-is_next-3 t c =
    reads_part grammar table _ _ _ s.BuiltType _ _ (reads_right grammar table _ _ _ (part s.WordType) (part s.ListType ∣ part s.SetType ∣ part s.DistType ∣ part s.DictType ∣ part s.TupleType ∣ part s.ChanType) _ _ (c.is_next.ensures ∙ c.if-is_next.false) (reads_right grammar table _ _ _ (part s.ListType) (part s.SetType ∣ part s.DistType ∣ part s.DictType ∣ part s.TupleType ∣ part s.ChanType) _ _ (c.is_next-2.ensures ∙ c.if-is_next-2.false) (reads_left grammar table _ _ _ (part s.SetType) (part s.DistType ∣ part s.DictType ∣ part s.TupleType ∣ part s.ChanType) _ _ (c.is_next-3.ensures ∙ c.if-is_next-3.true) c.set_type.ensures)))

pub types::built_type-returns-then-is_next-4 : goal.types::built_type-returns-then-is_next-4
types::built_type-returns-then-is_next-4 t c =
    reads_part grammar table _ _ _ s.BuiltType _ _ (reads_right grammar table _ _ _ (part s.WordType) (part s.ListType ∣ part s.SetType ∣ part s.DistType ∣ part s.DictType ∣ part s.TupleType ∣ part s.ChanType) _ _ (c.is_next.ensures ∙ c.if-is_next.false) (reads_right grammar table _ _ _ (part s.ListType) (part s.SetType ∣ part s.DistType ∣ part s.DictType ∣ part s.TupleType ∣ part s.ChanType) _ _ (c.is_next-2.ensures ∙ c.if-is_next-2.false) (reads_right grammar table _ _ _ (part s.SetType) (part s.DistType ∣ part s.DictType ∣ part s.TupleType ∣ part s.ChanType) _ _ (c.is_next-3.ensures ∙ c.if-is_next-3.false) (reads_left grammar table _ _ _ (part s.DistType) (part s.DictType ∣ part s.TupleType ∣ part s.ChanType) _ _ (c.is_next-4.ensures ∙ c.if-is_next-4.true) c.dist_type.ensures))))

pub types::built_type-returns-then-is_next-5 : goal.types::built_type-returns-then-is_next-5
types::built_type-returns-then-is_next-5 t c =
    reads_part grammar table _ _ _ s.BuiltType _ _ (reads_right grammar table _ _ _ (part s.WordType) (part s.ListType ∣ part s.SetType ∣ part s.DistType ∣ part s.DictType ∣ part s.TupleType ∣ part s.ChanType) _ _ (c.is_next.ensures ∙ c.if-is_next.false) (reads_right grammar table _ _ _ (part s.ListType) (part s.SetType ∣ part s.DistType ∣ part s.DictType ∣ part s.TupleType ∣ part s.ChanType) _ _ (c.is_next-2.ensures ∙ c.if-is_next-2.false) (reads_right grammar table _ _ _ (part s.SetType) (part s.DistType ∣ part s.DictType ∣ part s.TupleType ∣ part s.ChanType) _ _ (c.is_next-3.ensures ∙ c.if-is_next-3.false) (reads_right grammar table _ _ _ (part s.DistType) (part s.DictType ∣ part s.TupleType ∣ part s.ChanType) _ _ (c.is_next-4.ensures ∙ c.if-is_next-4.false) (reads_left grammar table _ _ _ (part s.DictType) (part s.TupleType ∣ part s.ChanType) _ _ (c.is_next-5.ensures ∙ c.if-is_next-5.true) c.dict_type.ensures)))))

pub types::built_type-returns-then-is_next-6 : goal.types::built_type-returns-then-is_next-6
types::built_type-returns-then-is_next-6 t c =
    reads_part grammar table _ _ _ s.BuiltType _ _ (reads_right grammar table _ _ _ (part s.WordType) (part s.ListType ∣ part s.SetType ∣ part s.DistType ∣ part s.DictType ∣ part s.TupleType ∣ part s.ChanType) _ _ (c.is_next.ensures ∙ c.if-is_next.false) (reads_right grammar table _ _ _ (part s.ListType) (part s.SetType ∣ part s.DistType ∣ part s.DictType ∣ part s.TupleType ∣ part s.ChanType) _ _ (c.is_next-2.ensures ∙ c.if-is_next-2.false) (reads_right grammar table _ _ _ (part s.SetType) (part s.DistType ∣ part s.DictType ∣ part s.TupleType ∣ part s.ChanType) _ _ (c.is_next-3.ensures ∙ c.if-is_next-3.false) (reads_right grammar table _ _ _ (part s.DistType) (part s.DictType ∣ part s.TupleType ∣ part s.ChanType) _ _ (c.is_next-4.ensures ∙ c.if-is_next-4.false) (reads_right grammar table _ _ _ (part s.DictType) (part s.TupleType ∣ part s.ChanType) _ _ (c.is_next-5.ensures ∙ c.if-is_next-5.false) (reads_left grammar table _ _ _ (part s.TupleType) (part s.ChanType) _ _ (c.is_next-6.ensures ∙ c.if-is_next-6.true) c.tuple_type.ensures))))))

pub types::built_type-returns : goal.types::built_type-returns
types::built_type-returns t c =
    reads_part grammar table _ _ _ s.BuiltType _ _ (reads_right grammar table _ _ _ (part s.WordType) (part s.ListType ∣ part s.SetType ∣ part s.DistType ∣ part s.DictType ∣ part s.TupleType ∣ part s.ChanType) _ _ (c.is_next.ensures ∙ c.if-is_next.false) (reads_right grammar table _ _ _ (part s.ListType) (part s.SetType ∣ part s.DistType ∣ part s.DictType ∣ part s.TupleType ∣ part s.ChanType) _ _ (c.is_next-2.ensures ∙ c.if-is_next-2.false) (reads_right grammar table _ _ _ (part s.SetType) (part s.DistType ∣ part s.DictType ∣ part s.TupleType ∣ part s.ChanType) _ _ (c.is_next-3.ensures ∙ c.if-is_next-3.false) (reads_right grammar table _ _ _ (part s.DistType) (part s.DictType ∣ part s.TupleType ∣ part s.ChanType) _ _ (c.is_next-4.ensures ∙ c.if-is_next-4.false) (reads_right grammar table _ _ _ (part s.DictType) (part s.TupleType ∣ part s.ChanType) _ _ (c.is_next-5.ensures ∙ c.if-is_next-5.false) (reads_right grammar table _ _ _ (part s.TupleType) (part s.ChanType) _ _ (c.is_next-6.ensures ∙ c.if-is_next-6.false) c.chan_type.ensures))))))

pub types::list_type-returns-in_err-word : goal.types::list_type-returns-in_err-word
types::list_type-returns-in_err-word t c =
    failed grammar table _ type_of _ (part s.ListType) _ _ _ c.from_residual.ensures.1
    (runs.part_fails (runs.first_fails (run_no_word grammar table _ c.in_err-word.ensures)))

pub types::list_type-returns-in_err-size : goal.types::list_type-returns-in_err-size
types::list_type-returns-in_err-size t c =
    let word = c.in_ok-word.ensures in
    failed grammar table _ type_of _ (part s.ListType) _ _ _ c.from_residual-in_err-size.ensures.1
    (runs.part_fails (runs.next_fails (run_word grammar table _ word) (runs.first_fails c.in_err-size.ensures)))

pub types::list_type-returns-in_err-of : goal.types::list_type-returns-in_err-of
types::list_type-returns-in_err-of t c =
    let word = c.in_ok-word.ensures in
    let size = c.in_ok-size.ensures in
    failed grammar table _ type_of _ (part s.ListType) _ _ _ c.from_residual-in_err-of.ensures.1
    (runs.part_fails (runs.next_fails (run_word grammar table _ word) (runs.next_fails size.runs c.in_err-of.ensures)))

pub types::list_type-returns : goal.types::list_type-returns
types::list_type-returns t c =
    let word = c.in_ok-word.ensures in
    let size = c.in_ok-size.ensures in
    let of = c.in_ok-of.ensures in
    read grammar table _ type_of c.requires.inside
    (runs.part (runs.both (run_word grammar table _ word) (runs.both size.runs of.runs)))
    (λ i. type.List c.in_ok-word.word.now.place (size.shows i) (of.shows i))

pub types::list_size-returns-in_err-inner : goal.types::list_size-returns-in_err-inner
types::list_size-returns-in_err-inner t c =
    failed grammar table _ size_of _ (maybe (nested (sign LeftParen ▸ part s.Expr ▸ sign RightParen))) _ _ _ c.from_residual.ensures.1
    (runs.once (c.is_next.ensures ∙ c.if-is_next.true) (run_refused grammar table _ _ Expression (sign LeftParen ▸ part s.Expr ▸ sign RightParen) _ _ c.in_err-inner.ensures.0 c.in_err-inner.ensures.1))

pub types::list_size-returns-in_err-start : goal.types::list_size-returns-in_err-start
types::list_size-returns-in_err-start t c =
    failed grammar table _ size_of _ (maybe (nested (sign LeftParen ▸ part s.Expr ▸ sign RightParen))) _ _ _ c.from_residual-in_err-start.ensures.1
    (runs.once (c.is_next.ensures ∙ c.if-is_next.true) (runs.deeper c.in_ok-inner.ensures (runs.first_fails (run_no_word grammar table _ c.in_err-start.ensures))))

pub types::list_size-returns-in_err-size : goal.types::list_size-returns-in_err-size
types::list_size-returns-in_err-size t c =
    let start = c.in_ok-start.ensures in
    failed grammar table _ size_of _ (maybe (nested (sign LeftParen ▸ part s.Expr ▸ sign RightParen))) _ _ _ c.from_residual-in_err-size.ensures.1
    (runs.once (c.is_next.ensures ∙ c.if-is_next.true) (runs.deeper c.in_ok-inner.ensures (runs.next_fails (run_word grammar table _ start) (runs.first_fails (c.in_err-size.ensures _ _ _ _ _ c.expr.ensures)))))

pub types::list_size-returns-in_err-end : goal.types::list_size-returns-in_err-end
types::list_size-returns-in_err-end t c =
    let start = c.in_ok-start.ensures in
    let size = c.in_ok-size.ensures _ _ _ _ _ c.expr.ensures in
    failed grammar table _ size_of _ (maybe (nested (sign LeftParen ▸ part s.Expr ▸ sign RightParen))) _ _ _ c.from_residual-in_err-end.ensures.1
    (runs.once (c.is_next.ensures ∙ c.if-is_next.true) (runs.deeper c.in_ok-inner.ensures (runs.next_fails (run_word grammar table _ start) (runs.next_fails size.runs (run_no_word grammar table _ c.in_err-end.ensures)))))

pub types::list_size-returns-then-is_next : goal.types::list_size-returns-then-is_next
types::list_size-returns-then-is_next t c =
    let start = c.in_ok-start.ensures in
    let size = c.in_ok-size.ensures _ _ _ _ _ c.expr.ensures in
    let end = c.in_ok-end.ensures in
    read grammar table _ size_of c.requires.inside
    (runs.once (c.is_next.ensures ∙ c.if-is_next.true) (runs.deeper c.in_ok-inner.ensures (runs.both (run_word grammar table _ start) (runs.both size.runs (run_word grammar table _ end)))))
    (λ i. Some (size.shows i))

pub types::list_size-returns : goal.types::list_size-returns
types::list_size-returns t c =
    read grammar table _ size_of c.requires.inside
    (runs.never (c.is_next.ensures ∙ c.if-is_next.false))
    refl

pub types::set_type-returns-in_err-word : goal.types::set_type-returns-in_err-word
types::set_type-returns-in_err-word t c =
    failed grammar table _ type_of _ (part s.SetType) _ _ _ c.from_residual.ensures.1
    (runs.part_fails (runs.first_fails (run_no_word grammar table _ c.in_err-word.ensures)))

pub types::set_type-returns-in_err-of : goal.types::set_type-returns-in_err-of
types::set_type-returns-in_err-of t c =
    let word = c.in_ok-word.ensures in
    failed grammar table _ type_of _ (part s.SetType) _ _ _ c.from_residual-in_err-of.ensures.1
    (runs.part_fails (runs.next_fails (run_word grammar table _ word) c.in_err-of.ensures))

pub types::set_type-returns : goal.types::set_type-returns
types::set_type-returns t c =
    let word = c.in_ok-word.ensures in
    let of = c.in_ok-of.ensures in
    read grammar table _ type_of c.requires.inside
    (runs.part (runs.both (run_word grammar table _ word) of.runs))
    (λ i. type.Set c.in_ok-word.word.now.place (of.shows i))

pub types::dist_type-returns-in_err-word : goal.types::dist_type-returns-in_err-word
types::dist_type-returns-in_err-word t c =
    failed grammar table _ type_of _ (part s.DistType) _ _ _ c.from_residual.ensures.1
    (runs.part_fails (runs.first_fails (run_no_word grammar table _ c.in_err-word.ensures)))

pub types::dist_type-returns-in_err-of : goal.types::dist_type-returns-in_err-of
types::dist_type-returns-in_err-of t c =
    let word = c.in_ok-word.ensures in
    failed grammar table _ type_of _ (part s.DistType) _ _ _ c.from_residual-in_err-of.ensures.1
    (runs.part_fails (runs.next_fails (run_word grammar table _ word) c.in_err-of.ensures))

pub types::dist_type-returns : goal.types::dist_type-returns
types::dist_type-returns t c =
    let word = c.in_ok-word.ensures in
    let of = c.in_ok-of.ensures in
    read grammar table _ type_of c.requires.inside
    (runs.part (runs.both (run_word grammar table _ word) of.runs))
    (λ i. type.Dist c.in_ok-word.word.now.place (of.shows i))

pub compounds::dict_type-returns-in_err-word : goal.compounds::dict_type-returns-in_err-word
compounds::dict_type-returns-in_err-word t c =
    failed grammar table _ type_of _ (part s.DictType) _ _ _ c.from_residual.ensures.1
    (runs.part_fails (runs.first_fails (run_no_word grammar table _ c.in_err-word.ensures)))

pub compounds::dict_type-returns-in_err-inner : goal.compounds::dict_type-returns-in_err-inner
compounds::dict_type-returns-in_err-inner t c =
    let word = c.in_ok-word.ensures in
    failed grammar table _ type_of _ (part s.DictType) _ _ _ c.from_residual-in_err-inner.ensures.1
    (runs.part_fails (runs.next_fails (run_word grammar table _ word) (run_refused grammar table _ _ Expression (sign LeftParen ▸ nested (part s.AnyType) ▸ sign Colon ▸ nested (part s.AnyType) ▸ sign RightParen) _ _ c.in_err-inner.ensures.0 c.in_err-inner.ensures.1)))

pub compounds::dict_type-returns-in_err-left : goal.compounds::dict_type-returns-in_err-left
compounds::dict_type-returns-in_err-left t c =
    let word = c.in_ok-word.ensures in
    failed grammar table _ type_of _ (part s.DictType) _ _ _ c.from_residual-in_err-left.ensures.1
    (runs.part_fails (runs.next_fails (run_word grammar table _ word) (runs.deeper c.in_ok-inner.ensures (runs.first_fails (run_no_word grammar table _ c.in_err-left.ensures)))))

pub compounds::dict_type-returns-in_err-key : goal.compounds::dict_type-returns-in_err-key
compounds::dict_type-returns-in_err-key t c =
    let word = c.in_ok-word.ensures in
    let left = c.in_ok-left.ensures in
    failed grammar table _ type_of _ (part s.DictType) _ _ _ c.from_residual-in_err-key.ensures.1
    (runs.part_fails (runs.next_fails (run_word grammar table _ word) (runs.deeper c.in_ok-inner.ensures (runs.next_fails (run_word grammar table _ left) (runs.first_fails c.in_err-key.ensures)))))

pub compounds::dict_type-returns-in_err-next : goal.compounds::dict_type-returns-in_err-next
compounds::dict_type-returns-in_err-next t c =
    let word = c.in_ok-word.ensures in
    let left = c.in_ok-left.ensures in
    let key = c.in_ok-key.ensures in
    failed grammar table _ type_of _ (part s.DictType) _ _ _ c.from_residual-in_err-next.ensures.1
    (runs.part_fails (runs.next_fails (run_word grammar table _ word) (runs.deeper c.in_ok-inner.ensures (runs.next_fails (run_word grammar table _ left) (runs.next_fails key.runs (runs.first_fails (run_no_word grammar table _ c.in_err-next.ensures)))))))

pub compounds::dict_type-returns-in_err-value : goal.compounds::dict_type-returns-in_err-value
compounds::dict_type-returns-in_err-value t c =
    let word = c.in_ok-word.ensures in
    let left = c.in_ok-left.ensures in
    let key = c.in_ok-key.ensures in
    let next = c.in_ok-next.ensures in
    failed grammar table _ type_of _ (part s.DictType) _ _ _ c.from_residual-in_err-value.ensures.1
    (runs.part_fails (runs.next_fails (run_word grammar table _ word) (runs.deeper c.in_ok-inner.ensures (runs.next_fails (run_word grammar table _ left) (runs.next_fails key.runs (runs.next_fails (run_word grammar table _ next) (runs.first_fails c.in_err-value.ensures)))))))

pub compounds::dict_type-returns-in_err-end : goal.compounds::dict_type-returns-in_err-end
compounds::dict_type-returns-in_err-end t c =
    let word = c.in_ok-word.ensures in
    let left = c.in_ok-left.ensures in
    let key = c.in_ok-key.ensures in
    let next = c.in_ok-next.ensures in
    let value = c.in_ok-value.ensures in
    failed grammar table _ type_of _ (part s.DictType) _ _ _ c.from_residual-in_err-end.ensures.1
    (runs.part_fails (runs.next_fails (run_word grammar table _ word) (runs.deeper c.in_ok-inner.ensures (runs.next_fails (run_word grammar table _ left) (runs.next_fails key.runs (runs.next_fails (run_word grammar table _ next) (runs.next_fails value.runs (run_no_word grammar table _ c.in_err-end.ensures))))))))

pub compounds::dict_type-returns : goal.compounds::dict_type-returns
compounds::dict_type-returns t c =
    let word = c.in_ok-word.ensures in
    let left = c.in_ok-left.ensures in
    let key = c.in_ok-key.ensures in
    let next = c.in_ok-next.ensures in
    let value = c.in_ok-value.ensures in
    let end = c.in_ok-end.ensures in
    read grammar table _ type_of c.requires.inside
    (runs.part (runs.both (run_word grammar table _ word) (runs.deeper c.in_ok-inner.ensures (runs.both (run_word grammar table _ left) (runs.both key.runs (runs.both (run_word grammar table _ next) (runs.both value.runs (run_word grammar table _ end))))))))
    (λ i. type.Dict c.in_ok-word.word.now.place (key.shows i) (value.shows i))

pub compounds::tuple_type-returns-in_err-word : goal.compounds::tuple_type-returns-in_err-word
compounds::tuple_type-returns-in_err-word t c =
    failed grammar table _ type_of _ (part s.TupleType) _ _ _ c.from_residual.ensures.1
    (runs.part_fails (runs.first_fails (run_no_word grammar table _ c.in_err-word.ensures)))

pub compounds::tuple_type-returns-in_err-inner : goal.compounds::tuple_type-returns-in_err-inner
compounds::tuple_type-returns-in_err-inner t c =
    let word = c.in_ok-word.ensures in
    failed grammar table _ type_of _ (part s.TupleType) _ _ _ c.from_residual-in_err-inner.ensures.1
    (runs.part_fails (runs.next_fails (run_word grammar table _ word) (run_refused grammar table _ _ Expression (sign LeftParen ▸ part s.Fields ▸ sign RightParen) _ _ c.in_err-inner.ensures.0 c.in_err-inner.ensures.1)))

pub compounds::tuple_type-returns-in_err-left : goal.compounds::tuple_type-returns-in_err-left
compounds::tuple_type-returns-in_err-left t c =
    let word = c.in_ok-word.ensures in
    failed grammar table _ type_of _ (part s.TupleType) _ _ _ c.from_residual-in_err-left.ensures.1
    (runs.part_fails (runs.next_fails (run_word grammar table _ word) (runs.deeper c.in_ok-inner.ensures (runs.first_fails (run_no_word grammar table _ c.in_err-left.ensures)))))

pub compounds::tuple_type-returns-in_err-formals : goal.compounds::tuple_type-returns-in_err-formals
compounds::tuple_type-returns-in_err-formals t c =
    let word = c.in_ok-word.ensures in
    let left = c.in_ok-left.ensures in
    failed grammar table _ type_of _ (part s.TupleType) _ _ _ c.from_residual-in_err-formals.ensures.1
    (runs.part_fails (runs.next_fails (run_word grammar table _ word) (runs.deeper c.in_ok-inner.ensures (runs.next_fails (run_word grammar table _ left) (runs.first_fails c.in_err-formals.ensures)))))

pub compounds::tuple_type-returns-in_err-end : goal.compounds::tuple_type-returns-in_err-end
compounds::tuple_type-returns-in_err-end t c =
    let word = c.in_ok-word.ensures in
    let left = c.in_ok-left.ensures in
    let formals = c.in_ok-formals.ensures in
    failed grammar table _ type_of _ (part s.TupleType) _ _ _ c.from_residual-in_err-end.ensures.1
    (runs.part_fails (runs.next_fails (run_word grammar table _ word) (runs.deeper c.in_ok-inner.ensures (runs.next_fails (run_word grammar table _ left) (runs.next_fails formals.runs (run_no_word grammar table _ c.in_err-end.ensures))))))

pub compounds::tuple_type-returns : goal.compounds::tuple_type-returns
compounds::tuple_type-returns t c =
    let word = c.in_ok-word.ensures in
    let left = c.in_ok-left.ensures in
    let formals = c.in_ok-formals.ensures in
    let end = c.in_ok-end.ensures in
    read grammar table _ type_of c.requires.inside
    (runs.part (runs.both (run_word grammar table _ word) (runs.deeper c.in_ok-inner.ensures (runs.both (run_word grammar table _ left) (runs.both formals.runs (run_word grammar table _ end))))))
    (λ i. type.Tuple c.in_ok-word.word.now.place (formals.shows i))

pub compounds::fields-more_field-requires : goal.compounds::fields-more_field-requires
compounds::fields-more_field-requires t c =
    let read = c.in_ok-name.ensures c.args.room in
    (search rules, (c.requires.short, read.inside))

pub compounds::fields-returns-in_err-ty : goal.compounds::fields-returns-in_err-ty
compounds::fields-returns-in_err-ty t c =
    failed grammar table _ formals_of _ (part s.Fields) _ _ _ c.from_residual.ensures.1
    (runs.part_fails (runs.first_fails c.in_err-ty.ensures))

pub compounds::fields-returns-in_err-name : goal.compounds::fields-returns-in_err-name
compounds::fields-returns-in_err-name t c =
    let ty = c.in_ok-ty.ensures in
    failed grammar table _ formals_of _ (part s.Fields) _ _ _ c.from_residual-in_err-name.ensures.1
    (runs.part_fails (runs.next_fails ty.runs (runs.first_fails (c.in_err-name.ensures c.args.room))))

pub compounds::fields-returns-in_err-second : goal.compounds::fields-returns-in_err-second
compounds::fields-returns-in_err-second t c =
    let ty = c.in_ok-ty.ensures in
    let name = c.in_ok-name.ensures c.args.room in
    failed grammar table _ formals_of _ (part s.Fields) _ _ _ c.from_residual-in_err-second.ensures.1
    (runs.part_fails (runs.next_fails ty.runs (runs.next_fails name.runs (runs.first_fails c.in_err-second.ensures))))

pub compounds::fields-returns-in_err-found : goal.compounds::fields-returns-in_err-found
compounds::fields-returns-in_err-found t c =
    no_memory grammar table _ formals_of _ (part s.Fields) _ _ c.from_residual-in_err-found.ensures.1

pub compounds::fields-returns : goal.compounds::fields-returns
compounds::fields-returns t c =
    let ty = c.in_ok-ty.ensures in
    let name = c.in_ok-name.ensures c.args.room in
    let second = c.in_ok-second.ensures in
    reads_part grammar table _ _ _ s.Fields _ _ (reads_then grammar table _ _ _ (nested (part s.AnyType)) (rule.word (number_of class.Name) ▸ part s.MoreField ▸ many (part s.MoreField)) _ _ _ _ ty.runs (reads_then grammar table _ _ _ (rule.word (number_of class.Name)) (part s.MoreField ▸ many (part s.MoreField)) _ _ _ _ name.runs (reads_then grammar table _ _ _ (part s.MoreField) (many (part s.MoreField)) _ _ _ _ second.runs (reads_same _ _ _ _ (many (part s.MoreField)) _ _ (λ u.
    (λ i. record { ty = Some (ty.shows i); name = name.shows i } ∷ second.shows i ∷ more_formals_of u) ∙ (λ i. sym c.in_ok-found.ensures.items i ++ more_formals_of u)) c.more_fields.ensures))))

pub compounds::more_fields-turn-init : goal.compounds::more_fields-turn-init
compounds::more_fields-turn-init t c =
    gathered_start _ c.args.found.items refl (λ u. refl) c.requires.inside

pub compounds::more_fields-returns-in_err-one : goal.compounds::more_fields-returns-in_err-one
compounds::more_fields-returns-in_err-one t c =
    failed grammar table _ (λ t. c.args.found.items ++ more_formals_of t) _ (many (part s.MoreField)) _ _ _ c.from_residual.ensures.1
    (gathered_fails _ c.turn.invariant (c.is_next.ensures ∙ c.turn-test.true) c.in_err-one.ensures)

pub compounds::more_fields-returns-in_err-push : goal.compounds::more_fields-returns-in_err-push
compounds::more_fields-returns-in_err-push t c =
    no_memory grammar table _ (λ t. c.args.found.items ++ more_formals_of t) _ (many (part s.MoreField)) _ _ c.from_residual-in_err-push.ensures.1

pub compounds::more_fields-turn-preserved : goal.compounds::more_fields-turn-preserved
compounds::more_fields-turn-preserved t c =
    let one = c.in_ok-one.ensures in
    gathered_more c.turn.invariant (c.is_next.ensures ∙ c.turn-test.true) one.runs _ (λ u i. one.shows i ∷ more_formals_of u) one.inside _ c.in_ok-push.ensures.items

pub compounds::more_fields-turn-smaller : goal.compounds::more_fields-turn-smaller
compounds::more_fields-turn-smaller t c =
    let one = c.in_ok-one.ensures in
    omega (arith, part_moves one.runs, one.inside)

pub compounds::more_fields-returns-in_err-items : goal.compounds::more_fields-returns-in_err-items
compounds::more_fields-returns-in_err-items t c =
    no_memory grammar table _ (λ t. c.args.found.items ++ more_formals_of t) _ (many (part s.MoreField)) _ _ c.from_residual-in_err-items.ensures.1

pub compounds::more_fields-returns : goal.compounds::more_fields-returns
compounds::more_fields-returns t c =
    gathered_stop c.turn.invariant (c.is_next.ensures ∙ c.turn-test.false) refl c.requires.inside _ c.in_ok-items.ensures.same

pub compounds::more_field-returns-in_err-start : goal.compounds::more_field-returns-in_err-start
compounds::more_field-returns-in_err-start t c =
    failed grammar table _ formal_of _ (part s.MoreField) _ _ _ c.from_residual.ensures.1
    (runs.part_fails (runs.left (c.is_next.ensures ∙ c.if-is_next.true) (runs.first_fails (run_no_word grammar table _ c.in_err-start.ensures))))

pub compounds::more_field-returns-in_err-name : goal.compounds::more_field-returns-in_err-name
compounds::more_field-returns-in_err-name t c =
    let start = c.in_ok-start.ensures in
    failed grammar table _ formal_of _ (part s.MoreField) _ _ _ c.from_residual-in_err-name.ensures.1
    (runs.part_fails (runs.left (c.is_next.ensures ∙ c.if-is_next.true) (runs.next_fails (run_word grammar table _ start) (c.in_err-name.ensures c.args.room))))

pub compounds::more_field-returns-in_err-next : goal.compounds::more_field-returns-in_err-next
compounds::more_field-returns-in_err-next t c =
    failed grammar table _ formal_of _ (part s.MoreField) _ _ _ c.from_residual-in_err-next.ensures.1
    (runs.part_fails (runs.right (c.is_next.ensures ∙ c.if-is_next.false) (runs.first_fails (run_no_word grammar table _ c.in_err-next.ensures))))

pub compounds::more_field-returns-in_err-ty : goal.compounds::more_field-returns-in_err-ty
compounds::more_field-returns-in_err-ty t c =
    let next = c.in_ok-next.ensures in
    failed grammar table _ formal_of _ (part s.MoreField) _ _ _ c.from_residual-in_err-ty.ensures.1
    (runs.part_fails (runs.right (c.is_next.ensures ∙ c.if-is_next.false) (runs.next_fails (run_word grammar table _ next) (runs.first_fails c.in_err-ty.ensures))))

pub compounds::more_field-returns-in_err-name-2 : goal.compounds::more_field-returns-in_err-name-2
compounds::more_field-returns-in_err-name-2 t c =
    let next = c.in_ok-next.ensures in
    let ty = c.in_ok-ty.ensures in
    failed grammar table _ formal_of _ (part s.MoreField) _ _ _ c.from_residual-in_err-name-2.ensures.1
    (runs.part_fails (runs.right (c.is_next.ensures ∙ c.if-is_next.false) (runs.next_fails (run_word grammar table _ next) (runs.next_fails ty.runs (c.in_err-name-2.ensures c.args.room)))))

pub compounds::more_field-returns-then-is_next : goal.compounds::more_field-returns-then-is_next
compounds::more_field-returns-then-is_next t c =
    let start = c.in_ok-start.ensures in
    let name = c.in_ok-name.ensures c.args.room in
    read grammar table _ formal_of c.requires.inside
    (runs.part (runs.left (c.is_next.ensures ∙ c.if-is_next.true) (runs.both (run_word grammar table _ start) name.runs)))
    (formal_name name.runs (leaf c.in_ok-start.field-0-0.now) ∙ (λ i. record { ty = None; name = name.shows i }))

pub compounds::more_field-returns : goal.compounds::more_field-returns
compounds::more_field-returns t c =
    let next = c.in_ok-next.ensures in
    let ty = c.in_ok-ty.ensures in
    let name-2 = c.in_ok-name-2.ensures c.args.room in
    read grammar table _ formal_of c.requires.inside
    (runs.part (runs.right (c.is_next.ensures ∙ c.if-is_next.false) (runs.both (run_word grammar table _ next) (runs.both ty.runs name-2.runs))))
    (λ i. record { ty = Some (ty.shows i); name = name-2.shows i })

pub compounds::chan_type-carried-requires : goal.compounds::chan_type-carried-requires
compounds::chan_type-carried-requires t c =
    let read = c.in_ok-way.ensures c.args.room in
    (search rules, (c.requires.short, read.inside))

pub compounds::chan_type-returns-in_err-word : goal.compounds::chan_type-returns-in_err-word
compounds::chan_type-returns-in_err-word t c =
    failed grammar table _ type_of _ (part s.ChanType) _ _ _ c.from_residual.ensures.1
    (runs.part_fails (runs.first_fails (run_no_word grammar table _ c.in_err-word.ensures)))

pub compounds::chan_type-returns-in_err-way : goal.compounds::chan_type-returns-in_err-way
compounds::chan_type-returns-in_err-way t c =
    let word = c.in_ok-word.ensures in
    failed grammar table _ type_of _ (part s.ChanType) _ _ _ c.from_residual-in_err-way.ensures.1
    (runs.part_fails (runs.next_fails (run_word grammar table _ word) (runs.first_fails (c.in_err-way.ensures c.args.room))))

pub compounds::chan_type-returns-in_err-sent : goal.compounds::chan_type-returns-in_err-sent
compounds::chan_type-returns-in_err-sent t c =
    let word = c.in_ok-word.ensures in
    let way = c.in_ok-way.ensures c.args.room in
    failed grammar table _ type_of _ (part s.ChanType) _ _ _ c.from_residual-in_err-sent.ensures.1
    (runs.part_fails (runs.next_fails (run_word grammar table _ word) (runs.next_fails way.runs c.in_err-sent.ensures)))

pub compounds::chan_type-returns : goal.compounds::chan_type-returns
compounds::chan_type-returns t c =
    let word = c.in_ok-word.ensures in
    let way = c.in_ok-way.ensures c.args.room in
    let sent = c.in_ok-sent.ensures in
    read grammar table _ type_of c.requires.inside
    (runs.part (runs.both (run_word grammar table _ word) (runs.both way.runs sent.runs)))
    (λ i. type.Chan c.in_ok-word.word.now.place (way.shows i) (sent.shows i))

pub compounds::carried-returns-in_err-end : goal.compounds::carried-returns-in_err-end
compounds::carried-returns-in_err-end t c =
    failed grammar table _ carried_of _ (part s.Carried) _ _ _ c.from_residual.ensures.1
    (runs.part_fails (runs.left (c.is_next.ensures ∙ c.if-is_next.true) (run_no_word grammar table _ c.in_err-end.ensures)))

pub compounds::carried-returns-in_err-sent : goal.compounds::carried-returns-in_err-sent
compounds::carried-returns-in_err-sent t c =
    failed grammar table _ carried_of _ (part s.Carried) _ _ _ c.from_residual-in_err-sent.ensures.1
    (runs.part_fails (runs.right (c.is_next.ensures ∙ c.if-is_next.false) c.in_err-sent.ensures))

pub compounds::carried-returns-then-is_next : goal.compounds::carried-returns-then-is_next
compounds::carried-returns-then-is_next t c =
    let end = c.in_ok-end.ensures in
    read grammar table _ carried_of c.requires.inside
    (runs.part (runs.left (c.is_next.ensures ∙ c.if-is_next.true) (run_word grammar table _ end)))
    refl

pub compounds::carried-returns : goal.compounds::carried-returns
compounds::carried-returns t c =
    let sent = c.in_ok-sent.ensures in
    read grammar table _ carried_of c.requires.inside
    (runs.part (runs.right (c.is_next.ensures ∙ c.if-is_next.false) sent.runs))
    (carried_type sent.runs ∙ (λ i. Some (sent.shows i)))
