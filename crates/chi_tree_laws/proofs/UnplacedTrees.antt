-- What each kind of expression and type is without its places, by what its parts are without theirs.
use Rattle.std.proofs.Common.{◌≡◌, ℕ, Bool, List, Option, Some, None, map, ap, sym, ◌∙◌}
use Rattle.std.specs.Option.{option_map}
use Rattle.chi_token.specs.declared.place.Place.{Place}
use Rattle.chi_tree.specs.declared.operator.Operator.{Operator}
use Rattle.chi_tree.specs.declared.operator.RelationSign.{RelationSign}
use Rattle.chi_tree.specs.declared.operator.PrefixSign.{PrefixSign}
use Rattle.chi_tree.specs.declared.operator.CastWord.{CastWord}
use Rattle.chi_tree.specs.declared.type_tree.Name.{Name}
use Rattle.chi_tree.specs.declared.type_tree.TypeWord.{TypeWord}
use Rattle.chi_tree.specs.declared.type_tree.Way.{Way}
use Rattle.chi_tree.specs.declared.type_tree.TypeTree.{TypeTree, TypeTree-F, fold-roll-TypeTree}
use Rattle.chi_tree.specs.declared.type_tree.TypeTree.TheVariants as type
use Rattle.chi_tree.specs.declared.type_tree.Formal.{Formal, fold_out-Formal}
use Rattle.chi_tree.specs.declared.expr.Expr.{Expr, Expr-F, fold-roll-Expr}
use Rattle.chi_tree.specs.declared.expr.Expr.TheVariants as expr
use Rattle.chi_tree.specs.declared.expr.Postfix.{Postfix, Postfix-F, fold-roll-Postfix}
use Rattle.chi_tree.specs.declared.expr.Postfix.TheVariants as postfix
use Rattle.chi_tree.specs.declared.expr.Entry.{Entry, fold_out-Entry}
use Rattle.chi_tree.specs.declared.expr.Link.{Link, fold_out-Link}
use Rattle.chi_tree.specs.View.{nowhere}
use Rattle.chi_tree_laws.specs.Expressions.{link, entry, formal}
use Rattle.chi_tree_laws.specs.Unplaced.{expr_without, postfix_without, type_without, entry_without, link_without, formal_without, unplaced_name, unplaced_expr, unplaced_postfix, unplaced_type, unplaced_entry, unplaced_link, unplaced_formal}

pub without-Chain : (e : Expr) (ls : List Link) → unplaced_expr (expr.Chain e ls) ≡ expr.Chain (unplaced_expr e) (map unplaced_link ls)
without-Chain e ls = ap unplaced_expr (sym (expr.rolls-Chain e ls)) ∙ fold-roll-Expr Expr Postfix TypeTree Entry Link Formal expr_without postfix_without type_without entry_without link_without formal_without (Expr-F.Chain e ls)

pub without-Prefix : (w : PrefixSign) (p : Place) (e : Expr) → unplaced_expr (expr.Prefix w p e) ≡ expr.Prefix w nowhere (unplaced_expr e)
without-Prefix w p e = ap unplaced_expr (sym (expr.rolls-Prefix w p e)) ∙ fold-roll-Expr Expr Postfix TypeTree Entry Link Formal expr_without postfix_without type_without entry_without link_without formal_without (Expr-F.Prefix w p e)

pub without-Relation : (e : Expr) (w : RelationSign) (p : Place) (f : Expr) → unplaced_expr (expr.Relation e w p f) ≡ expr.Relation (unplaced_expr e) w nowhere (unplaced_expr f)
without-Relation e w p f = ap unplaced_expr (sym (expr.rolls-Relation e w p f)) ∙ fold-roll-Expr Expr Postfix TypeTree Entry Link Formal expr_without postfix_without type_without entry_without link_without formal_without (Expr-F.Relation e w p f)

pub without-Power : (e : Expr) (p : Place) (f : Expr) → unplaced_expr (expr.Power e p f) ≡ expr.Power (unplaced_expr e) nowhere (unplaced_expr f)
without-Power e p f = ap unplaced_expr (sym (expr.rolls-Power e p f)) ∙ fold-roll-Expr Expr Postfix TypeTree Entry Link Formal expr_without postfix_without type_without entry_without link_without formal_without (Expr-F.Power e p f)

pub without-Part : (e : Expr) (ps : List Postfix) → unplaced_expr (expr.Part e ps) ≡ expr.Part (unplaced_expr e) (map unplaced_postfix ps)
without-Part e ps = ap unplaced_expr (sym (expr.rolls-Part e ps)) ∙ fold-roll-Expr Expr Postfix TypeTree Entry Link Formal expr_without postfix_without type_without entry_without link_without formal_without (Expr-F.Part e ps)

pub without-Int : (digits : List ℕ) (p : Place) → unplaced_expr (expr.Int digits p) ≡ expr.Int digits nowhere
without-Int digits p = ap unplaced_expr (sym (expr.rolls-Int digits p)) ∙ fold-roll-Expr Expr Postfix TypeTree Entry Link Formal expr_without postfix_without type_without entry_without link_without formal_without (Expr-F.Int digits p)

pub without-Real : (digits : List ℕ) (p : Place) → unplaced_expr (expr.Real digits p) ≡ expr.Real digits nowhere
without-Real digits p = ap unplaced_expr (sym (expr.rolls-Real digits p)) ∙ fold-roll-Expr Expr Postfix TypeTree Entry Link Formal expr_without postfix_without type_without entry_without link_without formal_without (Expr-F.Real digits p)

pub without-Text : (text : List ℕ) (p : Place) → unplaced_expr (expr.Text text p) ≡ expr.Text text nowhere
without-Text text p = ap unplaced_expr (sym (expr.rolls-Text text p)) ∙ fold-roll-Expr Expr Postfix TypeTree Entry Link Formal expr_without postfix_without type_without entry_without link_without formal_without (Expr-F.Text text p)

pub without-Bool : (b : Bool) (p : Place) → unplaced_expr (expr.Bool b p) ≡ expr.Bool b nowhere
without-Bool b p = ap unplaced_expr (sym (expr.rolls-Bool b p)) ∙ fold-roll-Expr Expr Postfix TypeTree Entry Link Formal expr_without postfix_without type_without entry_without link_without formal_without (Expr-F.Bool b p)

pub without-Time : (p : Place) → unplaced_expr (expr.Time p) ≡ expr.Time nowhere
without-Time p = ap unplaced_expr (sym (expr.rolls-Time p)) ∙ fold-roll-Expr Expr Postfix TypeTree Entry Link Formal expr_without postfix_without type_without entry_without link_without formal_without (Expr-F.Time p)

pub without-Named : (n : Name) → unplaced_expr (expr.Named n) ≡ expr.Named (unplaced_name n)
without-Named n = ap unplaced_expr (sym (expr.rolls-Named n)) ∙ fold-roll-Expr Expr Postfix TypeTree Entry Link Formal expr_without postfix_without type_without entry_without link_without formal_without (Expr-F.Named n)

pub without-Call : (n : Name) (es : List Expr) → unplaced_expr (expr.Call n es) ≡ expr.Call (unplaced_name n) (map unplaced_expr es)
without-Call n es = ap unplaced_expr (sym (expr.rolls-Call n es)) ∙ fold-roll-Expr Expr Postfix TypeTree Entry Link Formal expr_without postfix_without type_without entry_without link_without formal_without (Expr-F.Call n es)

pub without-Cast : (w : CastWord) (p : Place) (e : Expr) → unplaced_expr (expr.Cast w p e) ≡ expr.Cast w nowhere (unplaced_expr e)
without-Cast w p e = ap unplaced_expr (sym (expr.rolls-Cast w p e)) ∙ fold-roll-Expr Expr Postfix TypeTree Entry Link Formal expr_without postfix_without type_without entry_without link_without formal_without (Expr-F.Cast w p e)

pub without-Round : (p : Place) (e : Expr) → unplaced_expr (expr.Round p e) ≡ expr.Round nowhere (unplaced_expr e)
without-Round p e = ap unplaced_expr (sym (expr.rolls-Round p e)) ∙ fold-roll-Expr Expr Postfix TypeTree Entry Link Formal expr_without postfix_without type_without entry_without link_without formal_without (Expr-F.Round p e)

pub without-TupleOf : (p : Place) (es : List Expr) → unplaced_expr (expr.TupleOf p es) ≡ expr.TupleOf nowhere (map unplaced_expr es)
without-TupleOf p es = ap unplaced_expr (sym (expr.rolls-TupleOf p es)) ∙ fold-roll-Expr Expr Postfix TypeTree Entry Link Formal expr_without postfix_without type_without entry_without link_without formal_without (Expr-F.TupleOf p es)

pub without-ListOf : (p : Place) (es : List Expr) → unplaced_expr (expr.ListOf p es) ≡ expr.ListOf nowhere (map unplaced_expr es)
without-ListOf p es = ap unplaced_expr (sym (expr.rolls-ListOf p es)) ∙ fold-roll-Expr Expr Postfix TypeTree Entry Link Formal expr_without postfix_without type_without entry_without link_without formal_without (Expr-F.ListOf p es)

pub without-SetOf : (p : Place) (es : List Expr) → unplaced_expr (expr.SetOf p es) ≡ expr.SetOf nowhere (map unplaced_expr es)
without-SetOf p es = ap unplaced_expr (sym (expr.rolls-SetOf p es)) ∙ fold-roll-Expr Expr Postfix TypeTree Entry Link Formal expr_without postfix_without type_without entry_without link_without formal_without (Expr-F.SetOf p es)

pub without-DictOf : (p : Place) (es : List Entry) → unplaced_expr (expr.DictOf p es) ≡ expr.DictOf nowhere (map unplaced_entry es)
without-DictOf p es = ap unplaced_expr (sym (expr.rolls-DictOf p es)) ∙ fold-roll-Expr Expr Postfix TypeTree Entry Link Formal expr_without postfix_without type_without entry_without link_without formal_without (Expr-F.DictOf p es)

pub without-EmptyList : (p : Place) (t : TypeTree) → unplaced_expr (expr.EmptyList p t) ≡ expr.EmptyList nowhere (unplaced_type t)
without-EmptyList p t = ap unplaced_expr (sym (expr.rolls-EmptyList p t)) ∙ fold-roll-Expr Expr Postfix TypeTree Entry Link Formal expr_without postfix_without type_without entry_without link_without formal_without (Expr-F.EmptyList p t)

pub without-EmptySet : (p : Place) (t : TypeTree) → unplaced_expr (expr.EmptySet p t) ≡ expr.EmptySet nowhere (unplaced_type t)
without-EmptySet p t = ap unplaced_expr (sym (expr.rolls-EmptySet p t)) ∙ fold-roll-Expr Expr Postfix TypeTree Entry Link Formal expr_without postfix_without type_without entry_without link_without formal_without (Expr-F.EmptySet p t)

pub without-EmptyDict : (p : Place) (k v : TypeTree) → unplaced_expr (expr.EmptyDict p k v) ≡ expr.EmptyDict nowhere (unplaced_type k) (unplaced_type v)
without-EmptyDict p k v = ap unplaced_expr (sym (expr.rolls-EmptyDict p k v)) ∙ fold-roll-Expr Expr Postfix TypeTree Entry Link Formal expr_without postfix_without type_without entry_without link_without formal_without (Expr-F.EmptyDict p k v)

pub without-Index : (p : Place) (e : Expr) → unplaced_postfix (postfix.Index p e) ≡ postfix.Index nowhere (unplaced_expr e)
without-Index p e = ap unplaced_postfix (sym (postfix.rolls-Index p e)) ∙ fold-roll-Postfix Expr Postfix TypeTree Entry Link Formal expr_without postfix_without type_without entry_without link_without formal_without (Postfix-F.Index p e)

pub without-Slice : (p : Place) (a b : Option Expr) (has : Bool) (c : Option Expr) → unplaced_postfix (postfix.Slice p a b has c) ≡ postfix.Slice nowhere (option_map unplaced_expr a) (option_map unplaced_expr b) has (option_map unplaced_expr c)
without-Slice p None None has None = ap unplaced_postfix (sym (postfix.rolls-Slice p None None has None)) ∙ fold-roll-Postfix Expr Postfix TypeTree Entry Link Formal expr_without postfix_without type_without entry_without link_without formal_without (Postfix-F.Slice p None None has None)
without-Slice p None None has (Some c) = ap unplaced_postfix (sym (postfix.rolls-Slice p None None has (Some c))) ∙ fold-roll-Postfix Expr Postfix TypeTree Entry Link Formal expr_without postfix_without type_without entry_without link_without formal_without (Postfix-F.Slice p None None has (Some c))
without-Slice p None (Some b) has None = ap unplaced_postfix (sym (postfix.rolls-Slice p None (Some b) has None)) ∙ fold-roll-Postfix Expr Postfix TypeTree Entry Link Formal expr_without postfix_without type_without entry_without link_without formal_without (Postfix-F.Slice p None (Some b) has None)
without-Slice p None (Some b) has (Some c) = ap unplaced_postfix (sym (postfix.rolls-Slice p None (Some b) has (Some c))) ∙ fold-roll-Postfix Expr Postfix TypeTree Entry Link Formal expr_without postfix_without type_without entry_without link_without formal_without (Postfix-F.Slice p None (Some b) has (Some c))
without-Slice p (Some a) None has None = ap unplaced_postfix (sym (postfix.rolls-Slice p (Some a) None has None)) ∙ fold-roll-Postfix Expr Postfix TypeTree Entry Link Formal expr_without postfix_without type_without entry_without link_without formal_without (Postfix-F.Slice p (Some a) None has None)
without-Slice p (Some a) None has (Some c) = ap unplaced_postfix (sym (postfix.rolls-Slice p (Some a) None has (Some c))) ∙ fold-roll-Postfix Expr Postfix TypeTree Entry Link Formal expr_without postfix_without type_without entry_without link_without formal_without (Postfix-F.Slice p (Some a) None has (Some c))
without-Slice p (Some a) (Some b) has None = ap unplaced_postfix (sym (postfix.rolls-Slice p (Some a) (Some b) has None)) ∙ fold-roll-Postfix Expr Postfix TypeTree Entry Link Formal expr_without postfix_without type_without entry_without link_without formal_without (Postfix-F.Slice p (Some a) (Some b) has None)
without-Slice p (Some a) (Some b) has (Some c) = ap unplaced_postfix (sym (postfix.rolls-Slice p (Some a) (Some b) has (Some c))) ∙ fold-roll-Postfix Expr Postfix TypeTree Entry Link Formal expr_without postfix_without type_without entry_without link_without formal_without (Postfix-F.Slice p (Some a) (Some b) has (Some c))

pub without-Field : (n : Name) → unplaced_postfix (postfix.Field n) ≡ postfix.Field (unplaced_name n)
without-Field n = ap unplaced_postfix (sym (postfix.rolls-Field n)) ∙ fold-roll-Postfix Expr Postfix TypeTree Entry Link Formal expr_without postfix_without type_without entry_without link_without formal_without (Postfix-F.Field n)

pub without-Word : (w : TypeWord) (p : Place) → unplaced_type (type.Word w p) ≡ type.Word w nowhere
without-Word w p = ap unplaced_type (sym (type.rolls-Word w p)) ∙ fold-roll-TypeTree Expr Postfix TypeTree Entry Link Formal expr_without postfix_without type_without entry_without link_without formal_without (TypeTree-F.Word w p)

pub without-Defined : (n : Name) → unplaced_type (type.Defined n) ≡ type.Defined (unplaced_name n)
without-Defined n = ap unplaced_type (sym (type.rolls-Defined n)) ∙ fold-roll-TypeTree Expr Postfix TypeTree Entry Link Formal expr_without postfix_without type_without entry_without link_without formal_without (TypeTree-F.Defined n)

pub without-List : (p : Place) (size : Option Expr) (t : TypeTree) → unplaced_type (type.List p size t) ≡ type.List nowhere (option_map unplaced_expr size) (unplaced_type t)
without-List p None t = ap unplaced_type (sym (type.rolls-List p None t)) ∙ fold-roll-TypeTree Expr Postfix TypeTree Entry Link Formal expr_without postfix_without type_without entry_without link_without formal_without (TypeTree-F.List p None t)
without-List p (Some size) t = ap unplaced_type (sym (type.rolls-List p (Some size) t)) ∙ fold-roll-TypeTree Expr Postfix TypeTree Entry Link Formal expr_without postfix_without type_without entry_without link_without formal_without (TypeTree-F.List p (Some size) t)

pub without-Set : (p : Place) (t : TypeTree) → unplaced_type (type.Set p t) ≡ type.Set nowhere (unplaced_type t)
without-Set p t = ap unplaced_type (sym (type.rolls-Set p t)) ∙ fold-roll-TypeTree Expr Postfix TypeTree Entry Link Formal expr_without postfix_without type_without entry_without link_without formal_without (TypeTree-F.Set p t)

pub without-Dist : (p : Place) (t : TypeTree) → unplaced_type (type.Dist p t) ≡ type.Dist nowhere (unplaced_type t)
without-Dist p t = ap unplaced_type (sym (type.rolls-Dist p t)) ∙ fold-roll-TypeTree Expr Postfix TypeTree Entry Link Formal expr_without postfix_without type_without entry_without link_without formal_without (TypeTree-F.Dist p t)

pub without-Dict : (p : Place) (k v : TypeTree) → unplaced_type (type.Dict p k v) ≡ type.Dict nowhere (unplaced_type k) (unplaced_type v)
without-Dict p k v = ap unplaced_type (sym (type.rolls-Dict p k v)) ∙ fold-roll-TypeTree Expr Postfix TypeTree Entry Link Formal expr_without postfix_without type_without entry_without link_without formal_without (TypeTree-F.Dict p k v)

pub without-Tuple : (p : Place) (fs : List Formal) → unplaced_type (type.Tuple p fs) ≡ type.Tuple nowhere (map unplaced_formal fs)
without-Tuple p fs = ap unplaced_type (sym (type.rolls-Tuple p fs)) ∙ fold-roll-TypeTree Expr Postfix TypeTree Entry Link Formal expr_without postfix_without type_without entry_without link_without formal_without (TypeTree-F.Tuple p fs)

pub without-Chan : (p : Place) (way : Way) (t : Option TypeTree) → unplaced_type (type.Chan p way t) ≡ type.Chan nowhere way (option_map unplaced_type t)
without-Chan p way None = ap unplaced_type (sym (type.rolls-Chan p way None)) ∙ fold-roll-TypeTree Expr Postfix TypeTree Entry Link Formal expr_without postfix_without type_without entry_without link_without formal_without (TypeTree-F.Chan p way None)
without-Chan p way (Some t) = ap unplaced_type (sym (type.rolls-Chan p way (Some t))) ∙ fold-roll-TypeTree Expr Postfix TypeTree Entry Link Formal expr_without postfix_without type_without entry_without link_without formal_without (TypeTree-F.Chan p way (Some t))

pub without-link : (w : Operator) (p : Place) (e : Expr) → unplaced_link (link w p e) ≡ link w nowhere (unplaced_expr e)
without-link w p e = fold_out-Link Expr Postfix TypeTree Entry Link Formal expr_without postfix_without type_without entry_without link_without formal_without (link w p e)

pub without-entry : (k v : Expr) → unplaced_entry (entry k v) ≡ entry (unplaced_expr k) (unplaced_expr v)
without-entry k v = fold_out-Entry Expr Postfix TypeTree Entry Link Formal expr_without postfix_without type_without entry_without link_without formal_without (entry k v)

pub without-formal : (t : Option TypeTree) (n : Name) → unplaced_formal (formal t n) ≡ formal (option_map unplaced_type t) (unplaced_name n)
without-formal None n = fold_out-Formal Expr Postfix TypeTree Entry Link Formal expr_without postfix_without type_without entry_without link_without formal_without (formal None n)
without-formal (Some t) n = fold_out-Formal Expr Postfix TypeTree Entry Link Formal expr_without postfix_without type_without entry_without link_without formal_without (formal (Some t) n)
