-- Where a tree without places begins is nowhere, and what its parts are.
use Rattle.std.proofs.Common.{◌≡◌, map, Option, Some, None, sym, ap, subst, ◌∙◌}
use Rattle.std.specs.Option.{option_map}
use Rattle.chi_token.specs.declared.place.Place.{Place}
use Rattle.chi_tree.specs.declared.type_tree.Name.{Name}
use Rattle.chi_tree.specs.declared.type_tree.TypeTree.{TypeTree, TypeTree-F, out-TypeTree, map-TypeTree, fold-TypeTree, fold_out-TypeTree}
use Rattle.chi_tree.specs.declared.type_tree.TypeTree.TheVariants as type
use Rattle.chi_tree.specs.declared.type_tree.Formal.{Formal, fold-Formal, fold_out-Formal}
use Rattle.chi_tree.specs.declared.expr.Expr.{Expr, Expr-F, roll-Expr, map-Expr, fold-roll-Expr, ind-Expr}
use Rattle.chi_tree.specs.declared.expr.Expr.TheVariants as expr
use Rattle.chi_tree.specs.declared.expr.Postfix.{Postfix, Postfix-F, out-Postfix, map-Postfix, fold-Postfix, fold_out-Postfix}
use Rattle.chi_tree.specs.declared.expr.Postfix.TheVariants as postfix
use Rattle.chi_tree.specs.declared.expr.Entry.{Entry, fold-Entry}
use Rattle.chi_tree.specs.declared.expr.Link.{Link, fold-Link}
use Rattle.chi_tree.specs.View.{nowhere}
use Rattle.chi_tree_laws.specs.Unplaced.{unplaced_name, expr_without, postfix_without, type_without, entry_without, link_without, formal_without, unplaced_expr, unplaced_postfix, unplaced_type, unplaced_entry, unplaced_link, unplaced_formal}
use Rattle.chi_check.specs.Below.chi_check_stat_rules.specs.Places.{expr_step, expr_place, type_step, type_place}

-- ---- expressions

abbrev PE : Expr → Type 0
PE e = expr_place (unplaced_expr e) ≡ nowhere

abbrev XE : Type 0
XE = (e : Expr) × PE e

abbrev XP : Type 0
XP = (p : Postfix) × Unit {0}

abbrev XT : Type 0
XT = (t : TypeTree) × Unit {0}

abbrev XN : Type 0
XN = (e : Entry) × Unit {0}

abbrev XL : Type 0
XL = (l : Link) × Unit {0}

abbrev XF : Type 0
XF = (f : Formal) × Unit {0}

abbrev parts : Expr-F XE XP XT XN XL XF → Expr-F Expr Postfix TypeTree Entry Link Formal
parts y = map-Expr XE XP XT XN XL XF Expr Postfix TypeTree Entry Link Formal (λ y. y.0) (λ y. y.0) (λ y. y.0) (λ y. y.0) (λ y. y.0) (λ y. y.0) y

abbrev unplaced_parts : Expr-F Expr Postfix TypeTree Entry Link Formal → Expr-F Expr Postfix TypeTree Entry Link Formal
unplaced_parts o = map-Expr Expr Postfix TypeTree Entry Link Formal Expr Postfix TypeTree Entry Link Formal unplaced_expr unplaced_postfix unplaced_type unplaced_entry unplaced_link unplaced_formal o

abbrev place_of_parts : Expr-F Expr Postfix TypeTree Entry Link Formal → Place
place_of_parts o = expr_step (map-Expr Expr Postfix TypeTree Entry Link Formal Place (Unit {0}) (Unit {0}) (Unit {0}) (Unit {0}) (Unit {0}) expr_place (fold-Postfix Place (Unit {0}) (Unit {0}) (Unit {0}) (Unit {0}) (Unit {0}) expr_step (λ p. tt) (λ t. tt) (λ e. tt) (λ l. tt) (λ f. tt)) (fold-TypeTree Place (Unit {0}) (Unit {0}) (Unit {0}) (Unit {0}) (Unit {0}) expr_step (λ p. tt) (λ t. tt) (λ e. tt) (λ l. tt) (λ f. tt)) (fold-Entry Place (Unit {0}) (Unit {0}) (Unit {0}) (Unit {0}) (Unit {0}) expr_step (λ p. tt) (λ t. tt) (λ e. tt) (λ l. tt) (λ f. tt)) (fold-Link Place (Unit {0}) (Unit {0}) (Unit {0}) (Unit {0}) (Unit {0}) expr_step (λ p. tt) (λ t. tt) (λ e. tt) (λ l. tt) (λ f. tt)) (fold-Formal Place (Unit {0}) (Unit {0}) (Unit {0}) (Unit {0}) (Unit {0}) expr_step (λ p. tt) (λ t. tt) (λ e. tt) (λ l. tt) (λ f. tt)) o)

at : (o : Expr-F Expr Postfix TypeTree Entry Link Formal) {v : Expr} → roll-Expr o ≡ v → expr_place v ≡ place_of_parts o
at o r = ap expr_place (sym r) ∙ fold-roll-Expr Place (Unit {0}) (Unit {0}) (Unit {0}) (Unit {0}) (Unit {0}) expr_step (λ p. tt) (λ t. tt) (λ e. tt) (λ l. tt) (λ f. tt) o

nowhere-such : (y : Expr-F XE XP XT XN XL XF) → expr_place (expr_without (unplaced_parts (parts y))) ≡ nowhere
nowhere-such (Expr-F.Chain e ls) = at (Expr-F.Chain (unplaced_expr e.0) (map unplaced_link (map (λ y. y.0) ls))) (expr.rolls-Chain (unplaced_expr e.0) (map unplaced_link (map (λ y. y.0) ls))) ∙ e.1
nowhere-such (Expr-F.Prefix sign place e) = at (Expr-F.Prefix sign nowhere (unplaced_expr e.0)) (expr.rolls-Prefix sign nowhere (unplaced_expr e.0))
nowhere-such (Expr-F.Relation e sign place f) = at (Expr-F.Relation (unplaced_expr e.0) sign nowhere (unplaced_expr f.0)) (expr.rolls-Relation (unplaced_expr e.0) sign nowhere (unplaced_expr f.0)) ∙ e.1
nowhere-such (Expr-F.Power e place f) = at (Expr-F.Power (unplaced_expr e.0) nowhere (unplaced_expr f.0)) (expr.rolls-Power (unplaced_expr e.0) nowhere (unplaced_expr f.0)) ∙ e.1
nowhere-such (Expr-F.Part e ps) = at (Expr-F.Part (unplaced_expr e.0) (map unplaced_postfix (map (λ y. y.0) ps))) (expr.rolls-Part (unplaced_expr e.0) (map unplaced_postfix (map (λ y. y.0) ps))) ∙ e.1
nowhere-such (Expr-F.Int digits place) = at (Expr-F.Int digits nowhere) (expr.rolls-Int digits nowhere)
nowhere-such (Expr-F.Real digits place) = at (Expr-F.Real digits nowhere) (expr.rolls-Real digits nowhere)
nowhere-such (Expr-F.Text bytes place) = at (Expr-F.Text bytes nowhere) (expr.rolls-Text bytes nowhere)
nowhere-such (Expr-F.Bool truth place) = at (Expr-F.Bool truth nowhere) (expr.rolls-Bool truth nowhere)
nowhere-such (Expr-F.Time place) = at (Expr-F.Time nowhere) (expr.rolls-Time nowhere)
nowhere-such (Expr-F.Named name) = at (Expr-F.Named (unplaced_name name)) (expr.rolls-Named (unplaced_name name))
nowhere-such (Expr-F.Call name es) = at (Expr-F.Call (unplaced_name name) (map unplaced_expr (map (λ y. y.0) es))) (expr.rolls-Call (unplaced_name name) (map unplaced_expr (map (λ y. y.0) es)))
nowhere-such (Expr-F.Cast word place e) = at (Expr-F.Cast word nowhere (unplaced_expr e.0)) (expr.rolls-Cast word nowhere (unplaced_expr e.0))
nowhere-such (Expr-F.Round place e) = at (Expr-F.Round nowhere (unplaced_expr e.0)) (expr.rolls-Round nowhere (unplaced_expr e.0))
nowhere-such (Expr-F.TupleOf place es) = at (Expr-F.TupleOf nowhere (map unplaced_expr (map (λ y. y.0) es))) (expr.rolls-TupleOf nowhere (map unplaced_expr (map (λ y. y.0) es)))
nowhere-such (Expr-F.ListOf place es) = at (Expr-F.ListOf nowhere (map unplaced_expr (map (λ y. y.0) es))) (expr.rolls-ListOf nowhere (map unplaced_expr (map (λ y. y.0) es)))
nowhere-such (Expr-F.SetOf place es) = at (Expr-F.SetOf nowhere (map unplaced_expr (map (λ y. y.0) es))) (expr.rolls-SetOf nowhere (map unplaced_expr (map (λ y. y.0) es)))
nowhere-such (Expr-F.DictOf place es) = at (Expr-F.DictOf nowhere (map unplaced_entry (map (λ y. y.0) es))) (expr.rolls-DictOf nowhere (map unplaced_entry (map (λ y. y.0) es)))
nowhere-such (Expr-F.EmptyList place t) = at (Expr-F.EmptyList nowhere (unplaced_type t.0)) (expr.rolls-EmptyList nowhere (unplaced_type t.0))
nowhere-such (Expr-F.EmptySet place t) = at (Expr-F.EmptySet nowhere (unplaced_type t.0)) (expr.rolls-EmptySet nowhere (unplaced_type t.0))
nowhere-such (Expr-F.EmptyDict place t u) = at (Expr-F.EmptyDict nowhere (unplaced_type t.0) (unplaced_type u.0)) (expr.rolls-EmptyDict nowhere (unplaced_type t.0) (unplaced_type u.0))

nowhere-step : (y : Expr-F XE XP XT XN XL XF) → PE (roll-Expr (parts y))
nowhere-step y = ap expr_place (fold-roll-Expr Expr Postfix TypeTree Entry Link Formal expr_without postfix_without type_without entry_without link_without formal_without (parts y)) ∙ nowhere-such y

pub expr-nowhere : (e : Expr) → expr_place (unplaced_expr e) ≡ nowhere
expr-nowhere = ind-Expr PE (λ p. Unit {0}) (λ t. Unit {0}) (λ e. Unit {0}) (λ l. Unit {0}) (λ f. Unit {0})
    (λ x y h. subst (λ x. PE (roll-Expr x)) h (nowhere-step y)) (λ x y h. tt) (λ x y h. tt) (λ x y h. tt) (λ x y h. tt) (λ x y h. tt)

-- ---- types

type-begins : (o : TypeTree-F Expr Postfix TypeTree Entry Link Formal) → type_place (type_without o) ≡ nowhere
type-begins (TypeTree-F.Word word place) = ap type_step (type.outs-Word word nowhere)
type-begins (TypeTree-F.Defined name) = ap type_step (type.outs-Defined (unplaced_name name))
type-begins (TypeTree-F.List place size t) = ap type_step (type.outs-List nowhere size t)
type-begins (TypeTree-F.Set place t) = ap type_step (type.outs-Set nowhere t)
type-begins (TypeTree-F.Dist place t) = ap type_step (type.outs-Dist nowhere t)
type-begins (TypeTree-F.Dict place k v) = ap type_step (type.outs-Dict nowhere k v)
type-begins (TypeTree-F.Tuple place fields) = ap type_step (type.outs-Tuple nowhere fields)
type-begins (TypeTree-F.Chan place way t) = ap type_step (type.outs-Chan nowhere way t)

pub type-nowhere : (t : TypeTree) → type_place (unplaced_type t) ≡ nowhere
type-nowhere t =
    ap type_place (fold_out-TypeTree Expr Postfix TypeTree Entry Link Formal expr_without postfix_without type_without entry_without link_without formal_without t)
    ∙ type-begins (map-TypeTree Expr Postfix TypeTree Entry Link Formal Expr Postfix TypeTree Entry Link Formal unplaced_expr unplaced_postfix unplaced_type unplaced_entry unplaced_link unplaced_formal (out-TypeTree t))

-- ---- what takes a part, and formals

abbrev pub bare_postfix : Postfix-F Expr Postfix TypeTree Entry Link Formal → Postfix-F Expr Postfix TypeTree Entry Link Formal
bare_postfix (Postfix-F.Index place e) = Postfix-F.Index nowhere e
bare_postfix (Postfix-F.Slice place from upto second by) = Postfix-F.Slice nowhere from upto second by
bare_postfix (Postfix-F.Field name) = Postfix-F.Field (unplaced_name name)

abbrev pub unplaced_postfix_parts : Postfix-F Expr Postfix TypeTree Entry Link Formal → Postfix-F Expr Postfix TypeTree Entry Link Formal
unplaced_postfix_parts o = map-Postfix Expr Postfix TypeTree Entry Link Formal Expr Postfix TypeTree Entry Link Formal unplaced_expr unplaced_postfix unplaced_type unplaced_entry unplaced_link unplaced_formal o

postfix-begins : (o : Postfix-F Expr Postfix TypeTree Entry Link Formal) → out-Postfix (postfix_without o) ≡ bare_postfix o
postfix-begins (Postfix-F.Index place e) = postfix.outs-Index nowhere e
postfix-begins (Postfix-F.Slice place from upto second by) = postfix.outs-Slice nowhere from upto second by
postfix-begins (Postfix-F.Field name) = postfix.outs-Field (unplaced_name name)

pub postfix-out : (p : Postfix) → out-Postfix (unplaced_postfix p) ≡ bare_postfix (unplaced_postfix_parts (out-Postfix p))
postfix-out p =
    ap out-Postfix (fold_out-Postfix Expr Postfix TypeTree Entry Link Formal expr_without postfix_without type_without entry_without link_without formal_without p) ∙ postfix-begins (unplaced_postfix_parts (out-Postfix p))

abbrev pub formal : Option TypeTree → Name → Formal
formal t name = record { ty = t; name = name }

formal-of : (t : Option TypeTree) (name : Name) → unplaced_formal (formal t name) ≡ formal (option_map unplaced_type t) (unplaced_name name)
formal-of None name = fold_out-Formal Expr Postfix TypeTree Entry Link Formal expr_without postfix_without type_without entry_without link_without formal_without (formal None name)
formal-of (Some t) name = fold_out-Formal Expr Postfix TypeTree Entry Link Formal expr_without postfix_without type_without entry_without link_without formal_without (formal (Some t) name)

pub formal-is : (f : Formal) → unplaced_formal f ≡ formal (option_map unplaced_type f.ty) (unplaced_name f.name)
formal-is f = formal-of f.ty f.name
