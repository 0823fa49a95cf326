-- The grammar's rules build exactly the formed expressions and types.
use Rattle.std.proofs.Common.{◌≡◌, ◌↔◌, subst}
use Rattle.chi_grammar.specs.declared.room.Room.{Room}
use Rattle.chi_grammar.specs.Rules.{Rule, node, part}
use Rattle.chi_grammar.specs.Trees.{Is}
use Rattle.chi_token.specs.declared.place.Spanned.{Spanned}
use Rattle.chi_tree.specs.declared.type_tree.TypeTree.{TypeTree}
use Rattle.chi_tree.specs.declared.expr.Expr.{Expr}
use Rattle.chi_tree.specs.Parts.{Part}
use Rattle.chi_tree.specs.Parts as s
use Rattle.chi_tree.specs.Rules.{grammar, rule_of}
use Rattle.chi_tree.specs.View.{Built, type_of, expr_of}
use Rattle.chi_tree_laws.specs.Levels as level
use Rattle.chi_tree_laws.specs.Expressions.{FormedType, FormedExpr}
use Rattle.chi_tree.proofs.Made.{made}
use Rattle.chi_tree.proofs.Made as made
use Rattle.chi_tree_laws.proofs.ShownExpressions.{Formed}
use Rattle.chi_tree_laws.proofs.TypeFormed.{F, any_type, named_type, built_type, word_type, list_type, set_type, dist_type, dict_type, tuple_type, chan_type, carried, formals_formed, fields_formed, more_formal, more_field}
use Rattle.chi_tree_laws.proofs.ExprFormed.{expr_formed, or_link, conj, and_link, neg, not_neg, rel, rel_link, sum, sum_link, prod, prod_link, unary, prefixed, power, power_link, post, postfix_formed, target_step, target_index, field, bracket, inside_formed, upto_formed, by_step, primary, literal_formed, named, arguments, cast_formed, round_formed, others, square_formed, curly_formed, contents, entries, more_entry, blank_formed, blank_end, exprs}
use Rattle.chi_tree_laws.proofs.ExprBuilt.{build_expr, build_type}

step : (room : Room) (s : Part) (t : Built) → F room (rule_of s) t → Formed room s (node s t)
step room s.AnyType t p = any_type p
step room s.NamedType t p = named_type p
step room s.BuiltType t p = built_type p
step room s.WordType t p = word_type p
step room s.ListType t p = list_type p
step room s.SetType t p = set_type p
step room s.DistType t p = dist_type p
step room s.DictType t p = dict_type p
step room s.TupleType t p = tuple_type p
step room s.ChanType t p = chan_type p
step room s.Carried t p = carried p
step room s.Formals t p = formals_formed p
step room s.Fields t p = fields_formed p
step room s.MoreFormal t p = more_formal p
step room s.MoreField t p = more_field p
step room s.Expr t p = expr_formed p
step room s.OrLink t p = or_link p
step room s.Conj t p = conj p
step room s.AndLink t p = and_link p
step room s.Neg t p = neg p
step room s.NotNeg t p = not_neg p
step room s.Rel t p = rel p
step room s.RelLink t p = rel_link p
step room s.Sum t p = sum p
step room s.SumLink t p = sum_link p
step room s.Prod t p = prod p
step room s.ProdLink t p = prod_link p
step room s.Unary t p = unary p
step room s.Prefixed t p = prefixed p
step room s.Power t p = power p
step room s.PowerLink t p = power_link p
step room s.Post t p = post p
step room s.Postfix t p = postfix_formed p
step room s.TargetStep t p = target_step p
step room s.TargetIndex t p = target_index p
step room s.Field t p = field p
step room s.Bracket t p = bracket p
step room s.Inside t p = inside_formed p
step room s.Upto t p = upto_formed p
step room s.ByStep t p = by_step p
step room s.Primary t p = primary p
step room s.Literal t p = literal_formed p
step room s.Named t p = named p
step room s.Arguments t p = arguments p
step room s.Cast t p = cast_formed p
step room s.Round t p = round_formed p
step room s.Others t p = others p
step room s.Square t p = square_formed p
step room s.Curly t p = curly_formed p
step room s.Contents t p = contents p
step room s.Entries t p = entries p
step room s.MoreEntry t p = more_entry p
step room s.Blank t p = blank_formed p
step room s.BlankEnd t p = blank_end p
step room s.Exprs t p = exprs p
step room _ t p = tt

pub formed : {room : Room} {r : Rule Spanned Part} {t : Built} → Is grammar room r t → F room r t
formed p = made Formed step p

of_type : {room : Room} {t : Built} → F room (part s.AnyType) t → FormedType room.expressions (type_of t)
of_type (made.part p) = p

of_expr : {room : Room} {t : Built} → F room (part s.Expr) t → FormedExpr level.Expr room.expressions (expr_of t)
of_expr (made.part p) = p

pub formed_types : (room : Room) (ty : TypeTree)
    → FormedType room.expressions ty ↔ ((t : Built) × Is grammar room (part s.AnyType) t × (type_of t ≡ ty))
formed_types room ty = (
  (λ p. let u = build_type room.blocks p in (u.tree, u.built, u.shown)),
  (λ u. subst (λ ty. FormedType room.expressions ty) u.2 (of_type (formed u.1))),
)

pub formed_exprs : (room : Room) (e : Expr)
    → FormedExpr level.Expr room.expressions e ↔ ((t : Built) × Is grammar room (part s.Expr) t × (expr_of t ≡ e))
formed_exprs room e = (
  (λ p. let u = build_expr room.blocks p in (u.tree, u.built, u.shown)),
  (λ u. subst (λ e. FormedExpr level.Expr room.expressions e) u.2 (of_expr (formed u.1))),
)
