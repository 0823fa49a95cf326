-- The nestings in each kind of expression and type, by those in its parts.
use Rattle.std.proofs.Common.{◌≡◌, ℕ, Bool, List, [], ◌∷◌, ◌++◌, Option, Some, None, map, refl, ap, sym, ◌∙◌, append_assoc, append-nil}
use Rattle.std.specs.Option.{option_map}
use Rattle.chi_token.specs.declared.place.Place.{Place}
use Rattle.chi_tree.specs.declared.operator.RelationSign.{RelationSign}
use Rattle.chi_tree.specs.declared.operator.PrefixSign.{PrefixSign}
use Rattle.chi_tree.specs.declared.operator.CastWord.{CastWord}
use Rattle.chi_tree.specs.declared.type_tree.Name.{Name}
use Rattle.chi_tree.specs.declared.type_tree.TypeWord.{TypeWord}
use Rattle.chi_tree.specs.declared.type_tree.Way.{Way}
use Rattle.chi_tree.specs.declared.expr.Expr.{Expr, Expr-F, fold-roll-Expr}
use Rattle.chi_tree.specs.declared.expr.Expr.TheVariants as expr
use Rattle.chi_tree.specs.declared.expr.Postfix.{Postfix, Postfix-F, fold-roll-Postfix}
use Rattle.chi_tree.specs.declared.expr.Postfix.TheVariants as postfix
use Rattle.chi_tree.specs.declared.expr.Entry.{Entry, fold_out-Entry}
use Rattle.chi_tree.specs.declared.expr.Link.{Link, fold_out-Link}
use Rattle.chi_tree.specs.declared.type_tree.TypeTree.{TypeTree, TypeTree-F, fold-roll-TypeTree}
use Rattle.chi_tree.specs.declared.type_tree.TypeTree.TheVariants as type
use Rattle.chi_tree.specs.declared.type_tree.Formal.{Formal, fold_out-Formal}
use Rattle.chi_tree.specs.View.{chained, parted}
use Rattle.chi_tree_laws.specs.Nestings.{Nestings, outside, in_level, bracketed, if_any, all, each_after, separated}
use Rattle.chi_tree_laws.specs.ExprNestings.{Declared, further, formals, as_field, fields, expr_step, postfix_step, type_step, entry_step, link_step, formal_step, by_nestings, size_nestings, way_nestings, carried_nestings, expr_nestings, postfix_nestings, type_nestings, entry_nestings, link_nestings, declared, formal_nestings}

pub expr-Chain : (e : Expr) (ls : List Link) → expr_nestings (expr.Chain e ls) ≡ expr_nestings e ++ all (map link_nestings ls)
expr-Chain e ls = ap expr_nestings (sym (expr.rolls-Chain e ls)) ∙ fold-roll-Expr Nestings Nestings Nestings Nestings Nestings Declared expr_step postfix_step type_step entry_step link_step formal_step (Expr-F.Chain e ls)

pub expr-Prefix : (w : PrefixSign) (p : Place) (e : Expr) → expr_nestings (expr.Prefix w p e) ≡ in_level (outside ∷ expr_nestings e)
expr-Prefix w p e = ap expr_nestings (sym (expr.rolls-Prefix w p e)) ∙ fold-roll-Expr Nestings Nestings Nestings Nestings Nestings Declared expr_step postfix_step type_step entry_step link_step formal_step (Expr-F.Prefix w p e)

pub expr-Relation : (e : Expr) (w : RelationSign) (p : Place) (f : Expr) → expr_nestings (expr.Relation e w p f) ≡ expr_nestings e ++ outside ∷ expr_nestings f
expr-Relation e w p f = ap expr_nestings (sym (expr.rolls-Relation e w p f)) ∙ fold-roll-Expr Nestings Nestings Nestings Nestings Nestings Declared expr_step postfix_step type_step entry_step link_step formal_step (Expr-F.Relation e w p f)

pub expr-Power : (e : Expr) (p : Place) (f : Expr) → expr_nestings (expr.Power e p f) ≡ expr_nestings e ++ outside ∷ in_level (expr_nestings f)
expr-Power e p f = ap expr_nestings (sym (expr.rolls-Power e p f)) ∙ fold-roll-Expr Nestings Nestings Nestings Nestings Nestings Declared expr_step postfix_step type_step entry_step link_step formal_step (Expr-F.Power e p f)

pub expr-Part : (e : Expr) (ps : List Postfix) → expr_nestings (expr.Part e ps) ≡ expr_nestings e ++ all (map postfix_nestings ps)
expr-Part e ps = ap expr_nestings (sym (expr.rolls-Part e ps)) ∙ fold-roll-Expr Nestings Nestings Nestings Nestings Nestings Declared expr_step postfix_step type_step entry_step link_step formal_step (Expr-F.Part e ps)

pub expr-Int : (digits : List ℕ) (p : Place) → expr_nestings (expr.Int digits p) ≡ outside ∷ []
expr-Int digits p = ap expr_nestings (sym (expr.rolls-Int digits p)) ∙ fold-roll-Expr Nestings Nestings Nestings Nestings Nestings Declared expr_step postfix_step type_step entry_step link_step formal_step (Expr-F.Int digits p)

pub expr-Real : (digits : List ℕ) (p : Place) → expr_nestings (expr.Real digits p) ≡ outside ∷ []
expr-Real digits p = ap expr_nestings (sym (expr.rolls-Real digits p)) ∙ fold-roll-Expr Nestings Nestings Nestings Nestings Nestings Declared expr_step postfix_step type_step entry_step link_step formal_step (Expr-F.Real digits p)

pub expr-Text : (text : List ℕ) (p : Place) → expr_nestings (expr.Text text p) ≡ outside ∷ []
expr-Text text p = ap expr_nestings (sym (expr.rolls-Text text p)) ∙ fold-roll-Expr Nestings Nestings Nestings Nestings Nestings Declared expr_step postfix_step type_step entry_step link_step formal_step (Expr-F.Text text p)

pub expr-Bool : (b : Bool) (p : Place) → expr_nestings (expr.Bool b p) ≡ outside ∷ []
expr-Bool b p = ap expr_nestings (sym (expr.rolls-Bool b p)) ∙ fold-roll-Expr Nestings Nestings Nestings Nestings Nestings Declared expr_step postfix_step type_step entry_step link_step formal_step (Expr-F.Bool b p)

pub expr-Time : (p : Place) → expr_nestings (expr.Time p) ≡ outside ∷ []
expr-Time p = ap expr_nestings (sym (expr.rolls-Time p)) ∙ fold-roll-Expr Nestings Nestings Nestings Nestings Nestings Declared expr_step postfix_step type_step entry_step link_step formal_step (Expr-F.Time p)

pub expr-Named : (n : Name) → expr_nestings (expr.Named n) ≡ outside ∷ []
expr-Named n = ap expr_nestings (sym (expr.rolls-Named n)) ∙ fold-roll-Expr Nestings Nestings Nestings Nestings Nestings Declared expr_step postfix_step type_step entry_step link_step formal_step (Expr-F.Named n)

pub expr-Call : (n : Name) (es : List Expr) → expr_nestings (expr.Call n es) ≡ outside ∷ bracketed (separated (map expr_nestings es))
expr-Call n es = ap expr_nestings (sym (expr.rolls-Call n es)) ∙ fold-roll-Expr Nestings Nestings Nestings Nestings Nestings Declared expr_step postfix_step type_step entry_step link_step formal_step (Expr-F.Call n es)

pub expr-Cast : (w : CastWord) (p : Place) (e : Expr) → expr_nestings (expr.Cast w p e) ≡ outside ∷ bracketed (expr_nestings e)
expr-Cast w p e = ap expr_nestings (sym (expr.rolls-Cast w p e)) ∙ fold-roll-Expr Nestings Nestings Nestings Nestings Nestings Declared expr_step postfix_step type_step entry_step link_step formal_step (Expr-F.Cast w p e)

pub expr-Round : (p : Place) (e : Expr) → expr_nestings (expr.Round p e) ≡ bracketed (expr_nestings e)
expr-Round p e = ap expr_nestings (sym (expr.rolls-Round p e)) ∙ fold-roll-Expr Nestings Nestings Nestings Nestings Nestings Declared expr_step postfix_step type_step entry_step link_step formal_step (Expr-F.Round p e)

pub expr-TupleOf : (p : Place) (es : List Expr) → expr_nestings (expr.TupleOf p es) ≡ bracketed (separated (map expr_nestings es))
expr-TupleOf p es = ap expr_nestings (sym (expr.rolls-TupleOf p es)) ∙ fold-roll-Expr Nestings Nestings Nestings Nestings Nestings Declared expr_step postfix_step type_step entry_step link_step formal_step (Expr-F.TupleOf p es)

pub expr-ListOf : (p : Place) (es : List Expr) → expr_nestings (expr.ListOf p es) ≡ bracketed (separated (map expr_nestings es))
expr-ListOf p es = ap expr_nestings (sym (expr.rolls-ListOf p es)) ∙ fold-roll-Expr Nestings Nestings Nestings Nestings Nestings Declared expr_step postfix_step type_step entry_step link_step formal_step (Expr-F.ListOf p es)

pub expr-SetOf : (p : Place) (es : List Expr) → expr_nestings (expr.SetOf p es) ≡ bracketed (separated (map expr_nestings es))
expr-SetOf p es = ap expr_nestings (sym (expr.rolls-SetOf p es)) ∙ fold-roll-Expr Nestings Nestings Nestings Nestings Nestings Declared expr_step postfix_step type_step entry_step link_step formal_step (Expr-F.SetOf p es)

pub expr-DictOf : (p : Place) (es : List Entry) → expr_nestings (expr.DictOf p es) ≡ bracketed (separated (map entry_nestings es))
expr-DictOf p es = ap expr_nestings (sym (expr.rolls-DictOf p es)) ∙ fold-roll-Expr Nestings Nestings Nestings Nestings Nestings Declared expr_step postfix_step type_step entry_step link_step formal_step (Expr-F.DictOf p es)

pub expr-EmptyList : (p : Place) (t : TypeTree) → expr_nestings (expr.EmptyList p t) ≡ outside ∷ type_nestings t ++ outside ∷ bracketed []
expr-EmptyList p t = ap expr_nestings (sym (expr.rolls-EmptyList p t)) ∙ fold-roll-Expr Nestings Nestings Nestings Nestings Nestings Declared expr_step postfix_step type_step entry_step link_step formal_step (Expr-F.EmptyList p t)

pub expr-EmptySet : (p : Place) (t : TypeTree) → expr_nestings (expr.EmptySet p t) ≡ outside ∷ type_nestings t ++ outside ∷ bracketed []
expr-EmptySet p t = ap expr_nestings (sym (expr.rolls-EmptySet p t)) ∙ fold-roll-Expr Nestings Nestings Nestings Nestings Nestings Declared expr_step postfix_step type_step entry_step link_step formal_step (Expr-F.EmptySet p t)

pub expr-EmptyDict : (p : Place) (k : TypeTree) (v : TypeTree) → expr_nestings (expr.EmptyDict p k v) ≡ outside ∷ type_nestings k ++ (outside ∷ type_nestings v ++ outside ∷ bracketed [])
expr-EmptyDict p k v = ap expr_nestings (sym (expr.rolls-EmptyDict p k v)) ∙ fold-roll-Expr Nestings Nestings Nestings Nestings Nestings Declared expr_step postfix_step type_step entry_step link_step formal_step (Expr-F.EmptyDict p k v)

pub postfix-Index : (p : Place) (e : Expr) → postfix_nestings (postfix.Index p e) ≡ bracketed (expr_nestings e)
postfix-Index p e = ap postfix_nestings (sym (postfix.rolls-Index p e)) ∙ fold-roll-Postfix Nestings Nestings Nestings Nestings Nestings Declared expr_step postfix_step type_step entry_step link_step formal_step (Postfix-F.Index p e)

pub postfix-Slice : (p : Place) (from : Option Expr) (upto : Option Expr) (has : Bool) (by : Option Expr) → postfix_nestings (postfix.Slice p from upto has by) ≡ bracketed (if_any (option_map expr_nestings from) ++ (outside ∷ if_any (option_map expr_nestings upto) ++ by_nestings has (option_map expr_nestings by)))
postfix-Slice p None None has None = ap postfix_nestings (sym (postfix.rolls-Slice p None None has None)) ∙ fold-roll-Postfix Nestings Nestings Nestings Nestings Nestings Declared expr_step postfix_step type_step entry_step link_step formal_step (Postfix-F.Slice p None None has None)
postfix-Slice p None None has (Some c) = ap postfix_nestings (sym (postfix.rolls-Slice p None None has (Some c))) ∙ fold-roll-Postfix Nestings Nestings Nestings Nestings Nestings Declared expr_step postfix_step type_step entry_step link_step formal_step (Postfix-F.Slice p None None has (Some c))
postfix-Slice p None (Some b) has None = ap postfix_nestings (sym (postfix.rolls-Slice p None (Some b) has None)) ∙ fold-roll-Postfix Nestings Nestings Nestings Nestings Nestings Declared expr_step postfix_step type_step entry_step link_step formal_step (Postfix-F.Slice p None (Some b) has None)
postfix-Slice p None (Some b) has (Some c) = ap postfix_nestings (sym (postfix.rolls-Slice p None (Some b) has (Some c))) ∙ fold-roll-Postfix Nestings Nestings Nestings Nestings Nestings Declared expr_step postfix_step type_step entry_step link_step formal_step (Postfix-F.Slice p None (Some b) has (Some c))
postfix-Slice p (Some a) None has None = ap postfix_nestings (sym (postfix.rolls-Slice p (Some a) None has None)) ∙ fold-roll-Postfix Nestings Nestings Nestings Nestings Nestings Declared expr_step postfix_step type_step entry_step link_step formal_step (Postfix-F.Slice p (Some a) None has None)
postfix-Slice p (Some a) None has (Some c) = ap postfix_nestings (sym (postfix.rolls-Slice p (Some a) None has (Some c))) ∙ fold-roll-Postfix Nestings Nestings Nestings Nestings Nestings Declared expr_step postfix_step type_step entry_step link_step formal_step (Postfix-F.Slice p (Some a) None has (Some c))
postfix-Slice p (Some a) (Some b) has None = ap postfix_nestings (sym (postfix.rolls-Slice p (Some a) (Some b) has None)) ∙ fold-roll-Postfix Nestings Nestings Nestings Nestings Nestings Declared expr_step postfix_step type_step entry_step link_step formal_step (Postfix-F.Slice p (Some a) (Some b) has None)
postfix-Slice p (Some a) (Some b) has (Some c) = ap postfix_nestings (sym (postfix.rolls-Slice p (Some a) (Some b) has (Some c))) ∙ fold-roll-Postfix Nestings Nestings Nestings Nestings Nestings Declared expr_step postfix_step type_step entry_step link_step formal_step (Postfix-F.Slice p (Some a) (Some b) has (Some c))

pub postfix-Field : (n : Name) → postfix_nestings (postfix.Field n) ≡ outside ∷ outside ∷ []
postfix-Field n = ap postfix_nestings (sym (postfix.rolls-Field n)) ∙ fold-roll-Postfix Nestings Nestings Nestings Nestings Nestings Declared expr_step postfix_step type_step entry_step link_step formal_step (Postfix-F.Field n)

pub type-Word : (w : TypeWord) (p : Place) → type_nestings (type.Word w p) ≡ outside ∷ []
type-Word w p = ap type_nestings (sym (type.rolls-Word w p)) ∙ fold-roll-TypeTree Nestings Nestings Nestings Nestings Nestings Declared expr_step postfix_step type_step entry_step link_step formal_step (TypeTree-F.Word w p)

pub type-Defined : (n : Name) → type_nestings (type.Defined n) ≡ outside ∷ []
type-Defined n = ap type_nestings (sym (type.rolls-Defined n)) ∙ fold-roll-TypeTree Nestings Nestings Nestings Nestings Nestings Declared expr_step postfix_step type_step entry_step link_step formal_step (TypeTree-F.Defined n)

pub type-List : (p : Place) (size : Option Expr) (t : TypeTree) → type_nestings (type.List p size t) ≡ outside ∷ size_nestings (option_map expr_nestings size) ++ in_level (type_nestings t)
type-List p None t = ap type_nestings (sym (type.rolls-List p None t)) ∙ fold-roll-TypeTree Nestings Nestings Nestings Nestings Nestings Declared expr_step postfix_step type_step entry_step link_step formal_step (TypeTree-F.List p None t)
type-List p (Some e) t = ap type_nestings (sym (type.rolls-List p (Some e) t)) ∙ fold-roll-TypeTree Nestings Nestings Nestings Nestings Nestings Declared expr_step postfix_step type_step entry_step link_step formal_step (TypeTree-F.List p (Some e) t)

pub type-Set : (p : Place) (t : TypeTree) → type_nestings (type.Set p t) ≡ outside ∷ in_level (type_nestings t)
type-Set p t = ap type_nestings (sym (type.rolls-Set p t)) ∙ fold-roll-TypeTree Nestings Nestings Nestings Nestings Nestings Declared expr_step postfix_step type_step entry_step link_step formal_step (TypeTree-F.Set p t)

pub type-Dist : (p : Place) (t : TypeTree) → type_nestings (type.Dist p t) ≡ outside ∷ in_level (type_nestings t)
type-Dist p t = ap type_nestings (sym (type.rolls-Dist p t)) ∙ fold-roll-TypeTree Nestings Nestings Nestings Nestings Nestings Declared expr_step postfix_step type_step entry_step link_step formal_step (TypeTree-F.Dist p t)

pub type-Dict : (p : Place) (k : TypeTree) (v : TypeTree) → type_nestings (type.Dict p k v) ≡ outside ∷ bracketed (in_level (type_nestings k) ++ outside ∷ in_level (type_nestings v))
type-Dict p k v = ap type_nestings (sym (type.rolls-Dict p k v)) ∙ fold-roll-TypeTree Nestings Nestings Nestings Nestings Nestings Declared expr_step postfix_step type_step entry_step link_step formal_step (TypeTree-F.Dict p k v)

pub type-Tuple : (p : Place) (fs : List Formal) → type_nestings (type.Tuple p fs) ≡ outside ∷ bracketed (fields (map declared fs))
type-Tuple p fs = ap type_nestings (sym (type.rolls-Tuple p fs)) ∙ fold-roll-TypeTree Nestings Nestings Nestings Nestings Nestings Declared expr_step postfix_step type_step entry_step link_step formal_step (TypeTree-F.Tuple p fs)

pub type-Chan : (p : Place) (way : Way) (t : Option TypeTree) → type_nestings (type.Chan p way t) ≡ outside ∷ way_nestings way ++ carried_nestings (option_map type_nestings t)
type-Chan p way None = ap type_nestings (sym (type.rolls-Chan p way None)) ∙ fold-roll-TypeTree Nestings Nestings Nestings Nestings Nestings Declared expr_step postfix_step type_step entry_step link_step formal_step (TypeTree-F.Chan p way None)
type-Chan p way (Some t) = ap type_nestings (sym (type.rolls-Chan p way (Some t))) ∙ fold-roll-TypeTree Nestings Nestings Nestings Nestings Nestings Declared expr_step postfix_step type_step entry_step link_step formal_step (TypeTree-F.Chan p way (Some t))

pub entry-in : (e : Entry) → entry_nestings e ≡ expr_nestings e.key ++ outside ∷ expr_nestings e.value
entry-in e = fold_out-Entry Nestings Nestings Nestings Nestings Nestings Declared expr_step postfix_step type_step entry_step link_step formal_step e

pub link-in : (l : Link) → link_nestings l ≡ outside ∷ expr_nestings l.operand
link-in l = fold_out-Link Nestings Nestings Nestings Nestings Nestings Declared expr_step postfix_step type_step entry_step link_step formal_step l

pub formal-bare : (n : Name) → declared (record { ty = None; name = n }) ≡ None
formal-bare n = fold_out-Formal Nestings Nestings Nestings Nestings Nestings Declared expr_step postfix_step type_step entry_step link_step formal_step (record { ty = None; name = n })

pub formal-typed : (t : TypeTree) (n : Name) → declared (record { ty = Some t; name = n }) ≡ Some (type_nestings t)
formal-typed t n = fold_out-Formal Nestings Nestings Nestings Nestings Nestings Declared expr_step postfix_step type_step entry_step link_step formal_step (record { ty = Some t; name = n })

-- an expression with what stands after it, where anything does

pub chained-in : (e : Expr) (ls : List Link) → expr_nestings (chained e ls) ≡ expr_nestings e ++ all (map link_nestings ls)
chained-in e [] = sym (append-nil (expr_nestings e))
chained-in e (l ∷ ls) = expr-Chain e (l ∷ ls)

pub parted-in : (e : Expr) (ps : List Postfix) → expr_nestings (parted e ps) ≡ expr_nestings e ++ all (map postfix_nestings ps)
parted-in e [] = sym (append-nil (expr_nestings e))
parted-in e (p ∷ ps) = expr-Part e (p ∷ ps)

-- what stands in brackets after what comes first in them
pub in_brackets : (ns ms : Nestings) → in_level (outside ∷ ns ++ (ms ++ outside ∷ [])) ≡ bracketed (ns ++ ms)
in_brackets ns ms = ap (λ xs. in_level (outside ∷ xs)) (sym (append_assoc ns ms (outside ∷ [])))

-- links and entries

pub linked : (l : Link) (ns ms : Nestings) → ns ≡ outside ∷ [] → ms ≡ expr_nestings l.operand → ns ++ ms ≡ link_nestings l
linked l ns ms e f = (λ i. e i ++ f i) ∙ sym (link-in l)

pub entered : (k v : Expr) (ns ms : Nestings) → ns ≡ expr_nestings k → ms ≡ expr_nestings v
    → ns ++ outside ∷ ms ≡ entry_nestings (record { key = k; value = v })
entered k v ns ms e f = (λ i. e i ++ outside ∷ f i) ∙ sym (entry-in (record { key = k; value = v }))

pub entries_in : (k v : Expr) (es : List Entry)
    → bracketed (expr_nestings k ++ (outside ∷ expr_nestings v ++ each_after (map entry_nestings es)))
    ≡ bracketed (separated (map entry_nestings (record { key = k; value = v } ∷ es)))
entries_in k v es =
    ap bracketed (sym (append_assoc (expr_nestings k) (outside ∷ expr_nestings v) (each_after (map entry_nestings es)))
    ∙ ap (λ ns. ns ++ each_after (map entry_nestings es)) (entered k v (expr_nestings k) (expr_nestings v) refl refl))

-- formals and fields

abbrev pub more_formals : List Formal → Nestings
more_formals fs = all (map further (map declared fs))

abbrev pub more_fields : List Formal → Nestings
more_fields fs = all (map further (map as_field (map declared fs)))

abbrev typed : TypeTree → Name → Formal
typed t n = record { ty = Some t; name = n }

abbrev bare : Name → Formal
bare n = record { ty = None; name = n }

pub formals-first : (t : TypeTree) (n : Name) (fs : List Formal)
    → formal_nestings (typed t n ∷ fs) ≡ type_nestings t ++ outside ∷ more_formals fs
formals-first t n fs = ap (λ d. formals (d ∷ map declared fs)) (formal-typed t n)

pub fields-first : (t : TypeTree) (n : Name) (fs : List Formal)
    → fields (map declared (typed t n ∷ fs)) ≡ in_level (type_nestings t) ++ outside ∷ more_fields fs
fields-first t n fs = ap (λ d. fields (d ∷ map declared fs)) (formal-typed t n)

pub further-bare : (n : Name) → outside ∷ outside ∷ [] ≡ further (declared (bare n))
further-bare n = ap further (sym (formal-bare n))

pub further-typed : (t : TypeTree) (n : Name) (ns : Nestings) → ns ≡ type_nestings t
    → outside ∷ ns ++ outside ∷ [] ≡ further (declared (typed t n))
further-typed t n ns e = ap (λ ns. outside ∷ ns ++ outside ∷ []) e ∙ ap further (sym (formal-typed t n))

pub field-bare : (n : Name) → outside ∷ outside ∷ [] ≡ further (as_field (declared (bare n)))
field-bare n = ap (λ d. further (as_field d)) (sym (formal-bare n))

pub field-typed : (t : TypeTree) (n : Name) (ns : Nestings) → ns ≡ type_nestings t
    → outside ∷ in_level ns ++ outside ∷ [] ≡ further (as_field (declared (typed t n)))
field-typed t n ns e = ap (λ ns. outside ∷ in_level ns ++ outside ∷ []) e ∙ ap (λ d. further (as_field d)) (sym (formal-typed t n))
