-- A tree with its places put in anew, each in turn, as a reader of them: what keeps a place takes that of its token.
use Rattle.std.proofs.Common.{◌≡◌, ℕ, Bool, true, false, List, [], ◌∷◌, Option, Some, None, map, ap, sym, ◌∙◌}
use Rattle.std.specs.Option.{option_map}
use Rattle.chi_token.specs.declared.place.Place.{Place}
use Rattle.chi_tree.specs.declared.operator.RelationSign.{RelationSign}
use Rattle.chi_tree.specs.declared.operator.PrefixSign.{PrefixSign}
use Rattle.chi_tree.specs.declared.operator.CastWord.{CastWord}
use Rattle.chi_tree.specs.declared.type_tree.Name.{Name}
use Rattle.chi_tree.specs.declared.type_tree.TypeWord.{TypeWord}
use Rattle.chi_tree.specs.declared.type_tree.Way.{Way}
use Rattle.chi_tree.specs.declared.type_tree.Way.TheVariants as way
use Rattle.chi_tree.specs.declared.type_tree.TypeTree.{TypeTree, TypeTree-F, fold-TypeTree, fold-roll-TypeTree}
use Rattle.chi_tree.specs.declared.type_tree.TypeTree.TheVariants as type
use Rattle.chi_tree.specs.declared.type_tree.Formal.{Formal, Formal-F, fold-Formal, fold_out-Formal}
use Rattle.chi_tree.specs.declared.expr.Expr.{Expr, Expr-F, fold-Expr, fold-roll-Expr}
use Rattle.chi_tree.specs.declared.expr.Expr.TheVariants as expr
use Rattle.chi_tree.specs.declared.expr.Postfix.{Postfix, Postfix-F, fold-Postfix, fold-roll-Postfix}
use Rattle.chi_tree.specs.declared.expr.Postfix.TheVariants as postfix
use Rattle.chi_tree.specs.declared.expr.Entry.{Entry, Entry-F, fold-Entry, fold_out-Entry}
use Rattle.chi_tree.specs.declared.expr.Link.{Link, Link-F, fold-Link, fold_out-Link}
use Rattle.chi_tree.specs.View.{nowhere}
use Rattle.chi_tree_laws.specs.Unplaced.{unplaced_name, expr_without, postfix_without, type_without, entry_without, link_without, formal_without, unplaced_expr, unplaced_postfix, unplaced_type, unplaced_entry, unplaced_link, unplaced_formal}
use Rattle.chi_tree_laws.proofs.Readers.{Reader, keep, pass, bind, last, done, each, between, optional}

abbrev pub name_at : List ℕ → Place → Name
name_at text place = record { text = text; place = place }

-- a formal: its type, where one stands before it, and its name
pub record Declared : Type 0 where
  pub ty : Option (Reader TypeTree)
  pub text : List ℕ

abbrev pub formal_at : Option TypeTree → List ℕ → Place → Formal
formal_at ty text place = record { ty = ty; name = name_at text place }

abbrev pub further : Declared → Reader Formal
further d = pass (bind (optional d.ty) (λ t. keep (λ q. done (formal_at t d.text q))))

abbrev pub formals : List Declared → Reader (List Formal)
formals [] = done []
formals (d ∷ ds) = bind (optional d.ty) (λ t. keep (λ q. last (each (map further ds)) (λ fs. formal_at t d.text q ∷ fs)))

abbrev pub by_reader : Bool → Option (Reader Expr) → Reader (Option Expr)
by_reader false by = done None
by_reader true by = pass (optional by)

abbrev pub size_reader : Option (Reader Expr) → Reader (Option Expr)
size_reader None = done None
size_reader (Some f) = pass (bind f (λ x. pass (done (Some x))))

abbrev pub way_reader : Way → Reader (Unit {0})
way_reader way.Both = done tt
way_reader way.Send = pass (done tt)
way_reader way.Receive = pass (done tt)

abbrev pub carried_reader : Option (Reader TypeTree) → Reader (Option TypeTree)
carried_reader None = pass (done None)
carried_reader (Some f) = last f (λ x. Some x)

abbrev pub expr_reader : Expr-F (Reader Expr) (Reader Postfix) (Reader TypeTree) (Reader Entry) (Reader Link) Declared → Reader Expr
expr_reader (Expr-F.Chain e links) = bind e (λ x. last (each links) (λ ls. expr.Chain x ls))
expr_reader (Expr-F.Prefix w p e) = keep (λ q. last e (λ x. expr.Prefix w q x))
expr_reader (Expr-F.Relation e w p f) = bind e (λ x. keep (λ q. last f (λ y. expr.Relation x w q y)))
expr_reader (Expr-F.Power e p f) = bind e (λ x. keep (λ q. last f (λ y. expr.Power x q y)))
expr_reader (Expr-F.Part e ps) = bind e (λ x. last (each ps) (λ ys. expr.Part x ys))
expr_reader (Expr-F.Int digits p) = keep (λ q. done (expr.Int digits q))
expr_reader (Expr-F.Real digits p) = keep (λ q. done (expr.Real digits q))
expr_reader (Expr-F.Text bytes p) = keep (λ q. done (expr.Text bytes q))
expr_reader (Expr-F.Bool truth p) = keep (λ q. done (expr.Bool truth q))
expr_reader (Expr-F.Time p) = keep (λ q. done (expr.Time q))
expr_reader (Expr-F.Named n) = keep (λ q. done (expr.Named (name_at n.text q)))
expr_reader (Expr-F.Call n es) = keep (λ q. pass (bind (between es) (λ xs. pass (done (expr.Call (name_at n.text q) xs)))))
expr_reader (Expr-F.Cast w p e) = keep (λ q. pass (bind e (λ x. pass (done (expr.Cast w q x)))))
expr_reader (Expr-F.Round p e) = keep (λ q. bind e (λ x. pass (done (expr.Round q x))))
expr_reader (Expr-F.TupleOf p es) = keep (λ q. bind (between es) (λ xs. pass (done (expr.TupleOf q xs))))
expr_reader (Expr-F.ListOf p es) = keep (λ q. bind (between es) (λ xs. pass (done (expr.ListOf q xs))))
expr_reader (Expr-F.SetOf p es) = keep (λ q. bind (between es) (λ xs. pass (done (expr.SetOf q xs))))
expr_reader (Expr-F.DictOf p es) = keep (λ q. bind (between es) (λ xs. pass (done (expr.DictOf q xs))))
expr_reader (Expr-F.EmptyList p t) = keep (λ q. bind t (λ x. pass (pass (pass (done (expr.EmptyList q x))))))
expr_reader (Expr-F.EmptySet p t) = keep (λ q. bind t (λ x. pass (pass (pass (done (expr.EmptySet q x))))))
expr_reader (Expr-F.EmptyDict p k v) = keep (λ q. bind {A = TypeTree × TypeTree} (bind k (λ x. pass (last v (λ y. (x, y))))) (λ z. pass (pass (pass (done (expr.EmptyDict q z.0 z.1))))))

abbrev pub postfix_reader : Postfix-F (Reader Expr) (Reader Postfix) (Reader TypeTree) (Reader Entry) (Reader Link) Declared → Reader Postfix
postfix_reader (Postfix-F.Index p e) = keep (λ q. bind e (λ x. pass (done (postfix.Index q x))))
postfix_reader (Postfix-F.Slice p from upto has by) = keep (λ q. bind {A = (Option Expr × Option Expr) × Option Expr} (bind {A = Option Expr × Option Expr} (bind (optional from) (λ a. pass (last (optional upto) (λ c. (a, c))))) (λ z. last (by_reader has by) (λ d. (z, d)))) (λ z. pass (done (postfix.Slice q z.0.0 z.0.1 has z.1))))
postfix_reader (Postfix-F.Field n) = pass (keep (λ q. done (postfix.Field (name_at n.text q))))

abbrev pub type_reader : TypeTree-F (Reader Expr) (Reader Postfix) (Reader TypeTree) (Reader Entry) (Reader Link) Declared → Reader TypeTree
type_reader (TypeTree-F.Word w p) = keep (λ q. done (type.Word w q))
type_reader (TypeTree-F.Defined n) = keep (λ q. done (type.Defined (name_at n.text q)))
type_reader (TypeTree-F.List p size t) = keep (λ q. bind (size_reader size) (λ a. last t (λ x. type.List q a x)))
type_reader (TypeTree-F.Set p t) = keep (λ q. last t (λ x. type.Set q x))
type_reader (TypeTree-F.Dist p t) = keep (λ q. last t (λ x. type.Dist q x))
type_reader (TypeTree-F.Dict p k v) = keep (λ q. pass (bind {A = TypeTree × TypeTree} (bind k (λ x. pass (last v (λ y. (x, y))))) (λ z. pass (done (type.Dict q z.0 z.1)))))
type_reader (TypeTree-F.Tuple p fs) = keep (λ q. pass (bind (formals fs) (λ xs. pass (done (type.Tuple q xs)))))
type_reader (TypeTree-F.Chan p way t) = keep (λ q. bind (way_reader way) (λ u. last (carried_reader t) (λ x. type.Chan q way x)))

abbrev pub entry_reader : Entry-F (Reader Expr) (Reader Postfix) (Reader TypeTree) (Reader Entry) (Reader Link) Declared → Reader Entry
entry_reader e = bind e.key (λ x. pass (last e.value (λ y. record { key = x; value = y })))

abbrev pub link_reader : Link-F (Reader Expr) (Reader Postfix) (Reader TypeTree) (Reader Entry) (Reader Link) Declared → Reader Link
link_reader l = keep (λ q. last l.operand (λ x. record { operator = l.operator; place = q; operand = x }))

abbrev pub formal_reader : Formal-F (Reader Expr) (Reader Postfix) (Reader TypeTree) (Reader Entry) (Reader Link) Declared → Declared
formal_reader f = record { ty = f.ty; text = f.name.text }

abbrev pub refilled_expr : Expr → Reader Expr
refilled_expr = fold-Expr (Reader Expr) (Reader Postfix) (Reader TypeTree) (Reader Entry) (Reader Link) Declared expr_reader postfix_reader type_reader entry_reader link_reader formal_reader

-- of a tree without its places
abbrev pub again_expr : Expr → Reader Expr
again_expr x = refilled_expr (unplaced_expr x)

abbrev pub refilled_postfix : Postfix → Reader Postfix
refilled_postfix = fold-Postfix (Reader Expr) (Reader Postfix) (Reader TypeTree) (Reader Entry) (Reader Link) Declared expr_reader postfix_reader type_reader entry_reader link_reader formal_reader

-- of a tree without its places
abbrev pub again_postfix : Postfix → Reader Postfix
again_postfix x = refilled_postfix (unplaced_postfix x)

abbrev pub refilled_type : TypeTree → Reader TypeTree
refilled_type = fold-TypeTree (Reader Expr) (Reader Postfix) (Reader TypeTree) (Reader Entry) (Reader Link) Declared expr_reader postfix_reader type_reader entry_reader link_reader formal_reader

-- of a tree without its places
abbrev pub again_type : TypeTree → Reader TypeTree
again_type x = refilled_type (unplaced_type x)

abbrev pub refilled_entry : Entry → Reader Entry
refilled_entry = fold-Entry (Reader Expr) (Reader Postfix) (Reader TypeTree) (Reader Entry) (Reader Link) Declared expr_reader postfix_reader type_reader entry_reader link_reader formal_reader

-- of a tree without its places
abbrev pub again_entry : Entry → Reader Entry
again_entry x = refilled_entry (unplaced_entry x)

abbrev pub refilled_link : Link → Reader Link
refilled_link = fold-Link (Reader Expr) (Reader Postfix) (Reader TypeTree) (Reader Entry) (Reader Link) Declared expr_reader postfix_reader type_reader entry_reader link_reader formal_reader

-- of a tree without its places
abbrev pub again_link : Link → Reader Link
again_link x = refilled_link (unplaced_link x)

abbrev pub refilled_formal : Formal → Declared
refilled_formal = fold-Formal (Reader Expr) (Reader Postfix) (Reader TypeTree) (Reader Entry) (Reader Link) Declared expr_reader postfix_reader type_reader entry_reader link_reader formal_reader

-- of a tree without its places
abbrev pub again_formal : Formal → Declared
again_formal x = refilled_formal (unplaced_formal x)

pub expr-Chain : (e : Expr) (links : List Link) → again_expr (expr.Chain e links) ≡ bind (again_expr e) (λ x. last (each (map refilled_link (map unplaced_link links))) (λ ls. expr.Chain x ls))
expr-Chain e links =
    ap refilled_expr (ap unplaced_expr (sym (expr.rolls-Chain e links)) ∙ fold-roll-Expr Expr Postfix TypeTree Entry Link Formal expr_without postfix_without type_without entry_without link_without formal_without (Expr-F.Chain e links))
    ∙ (ap refilled_expr (sym (expr.rolls-Chain (unplaced_expr e) (map unplaced_link links))) ∙ fold-roll-Expr (Reader Expr) (Reader Postfix) (Reader TypeTree) (Reader Entry) (Reader Link) Declared expr_reader postfix_reader type_reader entry_reader link_reader formal_reader (Expr-F.Chain (unplaced_expr e) (map unplaced_link links)))

pub expr-Prefix : (w : PrefixSign) (p : Place) (e : Expr) → again_expr (expr.Prefix w p e) ≡ keep (λ q. last (again_expr e) (λ x. expr.Prefix w q x))
expr-Prefix w p e =
    ap refilled_expr (ap unplaced_expr (sym (expr.rolls-Prefix w p e)) ∙ fold-roll-Expr Expr Postfix TypeTree Entry Link Formal expr_without postfix_without type_without entry_without link_without formal_without (Expr-F.Prefix w p e))
    ∙ (ap refilled_expr (sym (expr.rolls-Prefix w nowhere (unplaced_expr e))) ∙ fold-roll-Expr (Reader Expr) (Reader Postfix) (Reader TypeTree) (Reader Entry) (Reader Link) Declared expr_reader postfix_reader type_reader entry_reader link_reader formal_reader (Expr-F.Prefix w nowhere (unplaced_expr e)))

pub expr-Relation : (e : Expr) (w : RelationSign) (p : Place) (f : Expr) → again_expr (expr.Relation e w p f) ≡ bind (again_expr e) (λ x. keep (λ q. last (again_expr f) (λ y. expr.Relation x w q y)))
expr-Relation e w p f =
    ap refilled_expr (ap unplaced_expr (sym (expr.rolls-Relation e w p f)) ∙ fold-roll-Expr Expr Postfix TypeTree Entry Link Formal expr_without postfix_without type_without entry_without link_without formal_without (Expr-F.Relation e w p f))
    ∙ (ap refilled_expr (sym (expr.rolls-Relation (unplaced_expr e) w nowhere (unplaced_expr f))) ∙ fold-roll-Expr (Reader Expr) (Reader Postfix) (Reader TypeTree) (Reader Entry) (Reader Link) Declared expr_reader postfix_reader type_reader entry_reader link_reader formal_reader (Expr-F.Relation (unplaced_expr e) w nowhere (unplaced_expr f)))

pub expr-Power : (e : Expr) (p : Place) (f : Expr) → again_expr (expr.Power e p f) ≡ bind (again_expr e) (λ x. keep (λ q. last (again_expr f) (λ y. expr.Power x q y)))
expr-Power e p f =
    ap refilled_expr (ap unplaced_expr (sym (expr.rolls-Power e p f)) ∙ fold-roll-Expr Expr Postfix TypeTree Entry Link Formal expr_without postfix_without type_without entry_without link_without formal_without (Expr-F.Power e p f))
    ∙ (ap refilled_expr (sym (expr.rolls-Power (unplaced_expr e) nowhere (unplaced_expr f))) ∙ fold-roll-Expr (Reader Expr) (Reader Postfix) (Reader TypeTree) (Reader Entry) (Reader Link) Declared expr_reader postfix_reader type_reader entry_reader link_reader formal_reader (Expr-F.Power (unplaced_expr e) nowhere (unplaced_expr f)))

pub expr-Part : (e : Expr) (ps : List Postfix) → again_expr (expr.Part e ps) ≡ bind (again_expr e) (λ x. last (each (map refilled_postfix (map unplaced_postfix ps))) (λ ys. expr.Part x ys))
expr-Part e ps =
    ap refilled_expr (ap unplaced_expr (sym (expr.rolls-Part e ps)) ∙ fold-roll-Expr Expr Postfix TypeTree Entry Link Formal expr_without postfix_without type_without entry_without link_without formal_without (Expr-F.Part e ps))
    ∙ (ap refilled_expr (sym (expr.rolls-Part (unplaced_expr e) (map unplaced_postfix ps))) ∙ fold-roll-Expr (Reader Expr) (Reader Postfix) (Reader TypeTree) (Reader Entry) (Reader Link) Declared expr_reader postfix_reader type_reader entry_reader link_reader formal_reader (Expr-F.Part (unplaced_expr e) (map unplaced_postfix ps)))

pub expr-Int : (digits : List ℕ) (p : Place) → again_expr (expr.Int digits p) ≡ keep (λ q. done (expr.Int digits q))
expr-Int digits p =
    ap refilled_expr (ap unplaced_expr (sym (expr.rolls-Int digits p)) ∙ fold-roll-Expr Expr Postfix TypeTree Entry Link Formal expr_without postfix_without type_without entry_without link_without formal_without (Expr-F.Int digits p))
    ∙ (ap refilled_expr (sym (expr.rolls-Int digits nowhere)) ∙ fold-roll-Expr (Reader Expr) (Reader Postfix) (Reader TypeTree) (Reader Entry) (Reader Link) Declared expr_reader postfix_reader type_reader entry_reader link_reader formal_reader (Expr-F.Int digits nowhere))

pub expr-Real : (digits : List ℕ) (p : Place) → again_expr (expr.Real digits p) ≡ keep (λ q. done (expr.Real digits q))
expr-Real digits p =
    ap refilled_expr (ap unplaced_expr (sym (expr.rolls-Real digits p)) ∙ fold-roll-Expr Expr Postfix TypeTree Entry Link Formal expr_without postfix_without type_without entry_without link_without formal_without (Expr-F.Real digits p))
    ∙ (ap refilled_expr (sym (expr.rolls-Real digits nowhere)) ∙ fold-roll-Expr (Reader Expr) (Reader Postfix) (Reader TypeTree) (Reader Entry) (Reader Link) Declared expr_reader postfix_reader type_reader entry_reader link_reader formal_reader (Expr-F.Real digits nowhere))

pub expr-Text : (bytes : List ℕ) (p : Place) → again_expr (expr.Text bytes p) ≡ keep (λ q. done (expr.Text bytes q))
expr-Text bytes p =
    ap refilled_expr (ap unplaced_expr (sym (expr.rolls-Text bytes p)) ∙ fold-roll-Expr Expr Postfix TypeTree Entry Link Formal expr_without postfix_without type_without entry_without link_without formal_without (Expr-F.Text bytes p))
    ∙ (ap refilled_expr (sym (expr.rolls-Text bytes nowhere)) ∙ fold-roll-Expr (Reader Expr) (Reader Postfix) (Reader TypeTree) (Reader Entry) (Reader Link) Declared expr_reader postfix_reader type_reader entry_reader link_reader formal_reader (Expr-F.Text bytes nowhere))

pub expr-Bool : (truth : Bool) (p : Place) → again_expr (expr.Bool truth p) ≡ keep (λ q. done (expr.Bool truth q))
expr-Bool truth p =
    ap refilled_expr (ap unplaced_expr (sym (expr.rolls-Bool truth p)) ∙ fold-roll-Expr Expr Postfix TypeTree Entry Link Formal expr_without postfix_without type_without entry_without link_without formal_without (Expr-F.Bool truth p))
    ∙ (ap refilled_expr (sym (expr.rolls-Bool truth nowhere)) ∙ fold-roll-Expr (Reader Expr) (Reader Postfix) (Reader TypeTree) (Reader Entry) (Reader Link) Declared expr_reader postfix_reader type_reader entry_reader link_reader formal_reader (Expr-F.Bool truth nowhere))

pub expr-Time : (p : Place) → again_expr (expr.Time p) ≡ keep (λ q. done (expr.Time q))
expr-Time p =
    ap refilled_expr (ap unplaced_expr (sym (expr.rolls-Time p)) ∙ fold-roll-Expr Expr Postfix TypeTree Entry Link Formal expr_without postfix_without type_without entry_without link_without formal_without (Expr-F.Time p))
    ∙ (ap refilled_expr (sym (expr.rolls-Time nowhere)) ∙ fold-roll-Expr (Reader Expr) (Reader Postfix) (Reader TypeTree) (Reader Entry) (Reader Link) Declared expr_reader postfix_reader type_reader entry_reader link_reader formal_reader (Expr-F.Time nowhere))

pub expr-Named : (n : Name) → again_expr (expr.Named n) ≡ keep (λ q. done (expr.Named (name_at n.text q)))
expr-Named n =
    ap refilled_expr (ap unplaced_expr (sym (expr.rolls-Named n)) ∙ fold-roll-Expr Expr Postfix TypeTree Entry Link Formal expr_without postfix_without type_without entry_without link_without formal_without (Expr-F.Named n))
    ∙ (ap refilled_expr (sym (expr.rolls-Named (unplaced_name n))) ∙ fold-roll-Expr (Reader Expr) (Reader Postfix) (Reader TypeTree) (Reader Entry) (Reader Link) Declared expr_reader postfix_reader type_reader entry_reader link_reader formal_reader (Expr-F.Named (unplaced_name n)))

pub expr-Call : (n : Name) (es : List Expr) → again_expr (expr.Call n es) ≡ keep (λ q. pass (bind (between (map refilled_expr (map unplaced_expr es))) (λ xs. pass (done (expr.Call (name_at n.text q) xs)))))
expr-Call n es =
    ap refilled_expr (ap unplaced_expr (sym (expr.rolls-Call n es)) ∙ fold-roll-Expr Expr Postfix TypeTree Entry Link Formal expr_without postfix_without type_without entry_without link_without formal_without (Expr-F.Call n es))
    ∙ (ap refilled_expr (sym (expr.rolls-Call (unplaced_name n) (map unplaced_expr es))) ∙ fold-roll-Expr (Reader Expr) (Reader Postfix) (Reader TypeTree) (Reader Entry) (Reader Link) Declared expr_reader postfix_reader type_reader entry_reader link_reader formal_reader (Expr-F.Call (unplaced_name n) (map unplaced_expr es)))

pub expr-Cast : (w : CastWord) (p : Place) (e : Expr) → again_expr (expr.Cast w p e) ≡ keep (λ q. pass (bind (again_expr e) (λ x. pass (done (expr.Cast w q x)))))
expr-Cast w p e =
    ap refilled_expr (ap unplaced_expr (sym (expr.rolls-Cast w p e)) ∙ fold-roll-Expr Expr Postfix TypeTree Entry Link Formal expr_without postfix_without type_without entry_without link_without formal_without (Expr-F.Cast w p e))
    ∙ (ap refilled_expr (sym (expr.rolls-Cast w nowhere (unplaced_expr e))) ∙ fold-roll-Expr (Reader Expr) (Reader Postfix) (Reader TypeTree) (Reader Entry) (Reader Link) Declared expr_reader postfix_reader type_reader entry_reader link_reader formal_reader (Expr-F.Cast w nowhere (unplaced_expr e)))

pub expr-Round : (p : Place) (e : Expr) → again_expr (expr.Round p e) ≡ keep (λ q. bind (again_expr e) (λ x. pass (done (expr.Round q x))))
expr-Round p e =
    ap refilled_expr (ap unplaced_expr (sym (expr.rolls-Round p e)) ∙ fold-roll-Expr Expr Postfix TypeTree Entry Link Formal expr_without postfix_without type_without entry_without link_without formal_without (Expr-F.Round p e))
    ∙ (ap refilled_expr (sym (expr.rolls-Round nowhere (unplaced_expr e))) ∙ fold-roll-Expr (Reader Expr) (Reader Postfix) (Reader TypeTree) (Reader Entry) (Reader Link) Declared expr_reader postfix_reader type_reader entry_reader link_reader formal_reader (Expr-F.Round nowhere (unplaced_expr e)))

pub expr-TupleOf : (p : Place) (es : List Expr) → again_expr (expr.TupleOf p es) ≡ keep (λ q. bind (between (map refilled_expr (map unplaced_expr es))) (λ xs. pass (done (expr.TupleOf q xs))))
expr-TupleOf p es =
    ap refilled_expr (ap unplaced_expr (sym (expr.rolls-TupleOf p es)) ∙ fold-roll-Expr Expr Postfix TypeTree Entry Link Formal expr_without postfix_without type_without entry_without link_without formal_without (Expr-F.TupleOf p es))
    ∙ (ap refilled_expr (sym (expr.rolls-TupleOf nowhere (map unplaced_expr es))) ∙ fold-roll-Expr (Reader Expr) (Reader Postfix) (Reader TypeTree) (Reader Entry) (Reader Link) Declared expr_reader postfix_reader type_reader entry_reader link_reader formal_reader (Expr-F.TupleOf nowhere (map unplaced_expr es)))

pub expr-ListOf : (p : Place) (es : List Expr) → again_expr (expr.ListOf p es) ≡ keep (λ q. bind (between (map refilled_expr (map unplaced_expr es))) (λ xs. pass (done (expr.ListOf q xs))))
expr-ListOf p es =
    ap refilled_expr (ap unplaced_expr (sym (expr.rolls-ListOf p es)) ∙ fold-roll-Expr Expr Postfix TypeTree Entry Link Formal expr_without postfix_without type_without entry_without link_without formal_without (Expr-F.ListOf p es))
    ∙ (ap refilled_expr (sym (expr.rolls-ListOf nowhere (map unplaced_expr es))) ∙ fold-roll-Expr (Reader Expr) (Reader Postfix) (Reader TypeTree) (Reader Entry) (Reader Link) Declared expr_reader postfix_reader type_reader entry_reader link_reader formal_reader (Expr-F.ListOf nowhere (map unplaced_expr es)))

pub expr-SetOf : (p : Place) (es : List Expr) → again_expr (expr.SetOf p es) ≡ keep (λ q. bind (between (map refilled_expr (map unplaced_expr es))) (λ xs. pass (done (expr.SetOf q xs))))
expr-SetOf p es =
    ap refilled_expr (ap unplaced_expr (sym (expr.rolls-SetOf p es)) ∙ fold-roll-Expr Expr Postfix TypeTree Entry Link Formal expr_without postfix_without type_without entry_without link_without formal_without (Expr-F.SetOf p es))
    ∙ (ap refilled_expr (sym (expr.rolls-SetOf nowhere (map unplaced_expr es))) ∙ fold-roll-Expr (Reader Expr) (Reader Postfix) (Reader TypeTree) (Reader Entry) (Reader Link) Declared expr_reader postfix_reader type_reader entry_reader link_reader formal_reader (Expr-F.SetOf nowhere (map unplaced_expr es)))

pub expr-DictOf : (p : Place) (es : List Entry) → again_expr (expr.DictOf p es) ≡ keep (λ q. bind (between (map refilled_entry (map unplaced_entry es))) (λ xs. pass (done (expr.DictOf q xs))))
expr-DictOf p es =
    ap refilled_expr (ap unplaced_expr (sym (expr.rolls-DictOf p es)) ∙ fold-roll-Expr Expr Postfix TypeTree Entry Link Formal expr_without postfix_without type_without entry_without link_without formal_without (Expr-F.DictOf p es))
    ∙ (ap refilled_expr (sym (expr.rolls-DictOf nowhere (map unplaced_entry es))) ∙ fold-roll-Expr (Reader Expr) (Reader Postfix) (Reader TypeTree) (Reader Entry) (Reader Link) Declared expr_reader postfix_reader type_reader entry_reader link_reader formal_reader (Expr-F.DictOf nowhere (map unplaced_entry es)))

pub expr-EmptyList : (p : Place) (t : TypeTree) → again_expr (expr.EmptyList p t) ≡ keep (λ q. bind (again_type t) (λ x. pass (pass (pass (done (expr.EmptyList q x))))))
expr-EmptyList p t =
    ap refilled_expr (ap unplaced_expr (sym (expr.rolls-EmptyList p t)) ∙ fold-roll-Expr Expr Postfix TypeTree Entry Link Formal expr_without postfix_without type_without entry_without link_without formal_without (Expr-F.EmptyList p t))
    ∙ (ap refilled_expr (sym (expr.rolls-EmptyList nowhere (unplaced_type t))) ∙ fold-roll-Expr (Reader Expr) (Reader Postfix) (Reader TypeTree) (Reader Entry) (Reader Link) Declared expr_reader postfix_reader type_reader entry_reader link_reader formal_reader (Expr-F.EmptyList nowhere (unplaced_type t)))

pub expr-EmptySet : (p : Place) (t : TypeTree) → again_expr (expr.EmptySet p t) ≡ keep (λ q. bind (again_type t) (λ x. pass (pass (pass (done (expr.EmptySet q x))))))
expr-EmptySet p t =
    ap refilled_expr (ap unplaced_expr (sym (expr.rolls-EmptySet p t)) ∙ fold-roll-Expr Expr Postfix TypeTree Entry Link Formal expr_without postfix_without type_without entry_without link_without formal_without (Expr-F.EmptySet p t))
    ∙ (ap refilled_expr (sym (expr.rolls-EmptySet nowhere (unplaced_type t))) ∙ fold-roll-Expr (Reader Expr) (Reader Postfix) (Reader TypeTree) (Reader Entry) (Reader Link) Declared expr_reader postfix_reader type_reader entry_reader link_reader formal_reader (Expr-F.EmptySet nowhere (unplaced_type t)))

pub expr-EmptyDict : (p : Place) (k : TypeTree) (v : TypeTree) → again_expr (expr.EmptyDict p k v) ≡ keep (λ q. bind {A = TypeTree × TypeTree} (bind (again_type k) (λ x. pass (last (again_type v) (λ y. (x, y))))) (λ z. pass (pass (pass (done (expr.EmptyDict q z.0 z.1))))))
expr-EmptyDict p k v =
    ap refilled_expr (ap unplaced_expr (sym (expr.rolls-EmptyDict p k v)) ∙ fold-roll-Expr Expr Postfix TypeTree Entry Link Formal expr_without postfix_without type_without entry_without link_without formal_without (Expr-F.EmptyDict p k v))
    ∙ (ap refilled_expr (sym (expr.rolls-EmptyDict nowhere (unplaced_type k) (unplaced_type v))) ∙ fold-roll-Expr (Reader Expr) (Reader Postfix) (Reader TypeTree) (Reader Entry) (Reader Link) Declared expr_reader postfix_reader type_reader entry_reader link_reader formal_reader (Expr-F.EmptyDict nowhere (unplaced_type k) (unplaced_type v)))

pub postfix-Index : (p : Place) (e : Expr) → again_postfix (postfix.Index p e) ≡ keep (λ q. bind (again_expr e) (λ x. pass (done (postfix.Index q x))))
postfix-Index p e =
    ap refilled_postfix (ap unplaced_postfix (sym (postfix.rolls-Index p e)) ∙ fold-roll-Postfix Expr Postfix TypeTree Entry Link Formal expr_without postfix_without type_without entry_without link_without formal_without (Postfix-F.Index p e))
    ∙ (ap refilled_postfix (sym (postfix.rolls-Index nowhere (unplaced_expr e))) ∙ fold-roll-Postfix (Reader Expr) (Reader Postfix) (Reader TypeTree) (Reader Entry) (Reader Link) Declared expr_reader postfix_reader type_reader entry_reader link_reader formal_reader (Postfix-F.Index nowhere (unplaced_expr e)))

pub postfix-Slice : (p : Place) (from : Option Expr) (upto : Option Expr) (has : Bool) (by : Option Expr) → again_postfix (postfix.Slice p from upto has by) ≡ keep (λ q. bind {A = (Option Expr × Option Expr) × Option Expr} (bind {A = Option Expr × Option Expr} (bind (optional (option_map refilled_expr (option_map unplaced_expr from))) (λ a. pass (last (optional (option_map refilled_expr (option_map unplaced_expr upto))) (λ c. (a, c))))) (λ z. last (by_reader has (option_map refilled_expr (option_map unplaced_expr by))) (λ d. (z, d)))) (λ z. pass (done (postfix.Slice q z.0.0 z.0.1 has z.1))))
postfix-Slice p None None has None =
    ap refilled_postfix (ap unplaced_postfix (sym (postfix.rolls-Slice p None None has None)) ∙ fold-roll-Postfix Expr Postfix TypeTree Entry Link Formal expr_without postfix_without type_without entry_without link_without formal_without (Postfix-F.Slice p None None has None))
    ∙ (ap refilled_postfix (sym (postfix.rolls-Slice nowhere None None has None)) ∙ fold-roll-Postfix (Reader Expr) (Reader Postfix) (Reader TypeTree) (Reader Entry) (Reader Link) Declared expr_reader postfix_reader type_reader entry_reader link_reader formal_reader (Postfix-F.Slice nowhere None None has None))
postfix-Slice p None None has (Some by) =
    ap refilled_postfix (ap unplaced_postfix (sym (postfix.rolls-Slice p None None has (Some by))) ∙ fold-roll-Postfix Expr Postfix TypeTree Entry Link Formal expr_without postfix_without type_without entry_without link_without formal_without (Postfix-F.Slice p None None has (Some by)))
    ∙ (ap refilled_postfix (sym (postfix.rolls-Slice nowhere None None has (Some (unplaced_expr by)))) ∙ fold-roll-Postfix (Reader Expr) (Reader Postfix) (Reader TypeTree) (Reader Entry) (Reader Link) Declared expr_reader postfix_reader type_reader entry_reader link_reader formal_reader (Postfix-F.Slice nowhere None None has (Some (unplaced_expr by))))
postfix-Slice p None (Some upto) has None =
    ap refilled_postfix (ap unplaced_postfix (sym (postfix.rolls-Slice p None (Some upto) has None)) ∙ fold-roll-Postfix Expr Postfix TypeTree Entry Link Formal expr_without postfix_without type_without entry_without link_without formal_without (Postfix-F.Slice p None (Some upto) has None))
    ∙ (ap refilled_postfix (sym (postfix.rolls-Slice nowhere None (Some (unplaced_expr upto)) has None)) ∙ fold-roll-Postfix (Reader Expr) (Reader Postfix) (Reader TypeTree) (Reader Entry) (Reader Link) Declared expr_reader postfix_reader type_reader entry_reader link_reader formal_reader (Postfix-F.Slice nowhere None (Some (unplaced_expr upto)) has None))
postfix-Slice p None (Some upto) has (Some by) =
    ap refilled_postfix (ap unplaced_postfix (sym (postfix.rolls-Slice p None (Some upto) has (Some by))) ∙ fold-roll-Postfix Expr Postfix TypeTree Entry Link Formal expr_without postfix_without type_without entry_without link_without formal_without (Postfix-F.Slice p None (Some upto) has (Some by)))
    ∙ (ap refilled_postfix (sym (postfix.rolls-Slice nowhere None (Some (unplaced_expr upto)) has (Some (unplaced_expr by)))) ∙ fold-roll-Postfix (Reader Expr) (Reader Postfix) (Reader TypeTree) (Reader Entry) (Reader Link) Declared expr_reader postfix_reader type_reader entry_reader link_reader formal_reader (Postfix-F.Slice nowhere None (Some (unplaced_expr upto)) has (Some (unplaced_expr by))))
postfix-Slice p (Some from) None has None =
    ap refilled_postfix (ap unplaced_postfix (sym (postfix.rolls-Slice p (Some from) None has None)) ∙ fold-roll-Postfix Expr Postfix TypeTree Entry Link Formal expr_without postfix_without type_without entry_without link_without formal_without (Postfix-F.Slice p (Some from) None has None))
    ∙ (ap refilled_postfix (sym (postfix.rolls-Slice nowhere (Some (unplaced_expr from)) None has None)) ∙ fold-roll-Postfix (Reader Expr) (Reader Postfix) (Reader TypeTree) (Reader Entry) (Reader Link) Declared expr_reader postfix_reader type_reader entry_reader link_reader formal_reader (Postfix-F.Slice nowhere (Some (unplaced_expr from)) None has None))
postfix-Slice p (Some from) None has (Some by) =
    ap refilled_postfix (ap unplaced_postfix (sym (postfix.rolls-Slice p (Some from) None has (Some by))) ∙ fold-roll-Postfix Expr Postfix TypeTree Entry Link Formal expr_without postfix_without type_without entry_without link_without formal_without (Postfix-F.Slice p (Some from) None has (Some by)))
    ∙ (ap refilled_postfix (sym (postfix.rolls-Slice nowhere (Some (unplaced_expr from)) None has (Some (unplaced_expr by)))) ∙ fold-roll-Postfix (Reader Expr) (Reader Postfix) (Reader TypeTree) (Reader Entry) (Reader Link) Declared expr_reader postfix_reader type_reader entry_reader link_reader formal_reader (Postfix-F.Slice nowhere (Some (unplaced_expr from)) None has (Some (unplaced_expr by))))
postfix-Slice p (Some from) (Some upto) has None =
    ap refilled_postfix (ap unplaced_postfix (sym (postfix.rolls-Slice p (Some from) (Some upto) has None)) ∙ fold-roll-Postfix Expr Postfix TypeTree Entry Link Formal expr_without postfix_without type_without entry_without link_without formal_without (Postfix-F.Slice p (Some from) (Some upto) has None))
    ∙ (ap refilled_postfix (sym (postfix.rolls-Slice nowhere (Some (unplaced_expr from)) (Some (unplaced_expr upto)) has None)) ∙ fold-roll-Postfix (Reader Expr) (Reader Postfix) (Reader TypeTree) (Reader Entry) (Reader Link) Declared expr_reader postfix_reader type_reader entry_reader link_reader formal_reader (Postfix-F.Slice nowhere (Some (unplaced_expr from)) (Some (unplaced_expr upto)) has None))
postfix-Slice p (Some from) (Some upto) has (Some by) =
    ap refilled_postfix (ap unplaced_postfix (sym (postfix.rolls-Slice p (Some from) (Some upto) has (Some by))) ∙ fold-roll-Postfix Expr Postfix TypeTree Entry Link Formal expr_without postfix_without type_without entry_without link_without formal_without (Postfix-F.Slice p (Some from) (Some upto) has (Some by)))
    ∙ (ap refilled_postfix (sym (postfix.rolls-Slice nowhere (Some (unplaced_expr from)) (Some (unplaced_expr upto)) has (Some (unplaced_expr by)))) ∙ fold-roll-Postfix (Reader Expr) (Reader Postfix) (Reader TypeTree) (Reader Entry) (Reader Link) Declared expr_reader postfix_reader type_reader entry_reader link_reader formal_reader (Postfix-F.Slice nowhere (Some (unplaced_expr from)) (Some (unplaced_expr upto)) has (Some (unplaced_expr by))))

pub postfix-Field : (n : Name) → again_postfix (postfix.Field n) ≡ pass (keep (λ q. done (postfix.Field (name_at n.text q))))
postfix-Field n =
    ap refilled_postfix (ap unplaced_postfix (sym (postfix.rolls-Field n)) ∙ fold-roll-Postfix Expr Postfix TypeTree Entry Link Formal expr_without postfix_without type_without entry_without link_without formal_without (Postfix-F.Field n))
    ∙ (ap refilled_postfix (sym (postfix.rolls-Field (unplaced_name n))) ∙ fold-roll-Postfix (Reader Expr) (Reader Postfix) (Reader TypeTree) (Reader Entry) (Reader Link) Declared expr_reader postfix_reader type_reader entry_reader link_reader formal_reader (Postfix-F.Field (unplaced_name n)))

pub type-Word : (w : TypeWord) (p : Place) → again_type (type.Word w p) ≡ keep (λ q. done (type.Word w q))
type-Word w p =
    ap refilled_type (ap unplaced_type (sym (type.rolls-Word w p)) ∙ fold-roll-TypeTree Expr Postfix TypeTree Entry Link Formal expr_without postfix_without type_without entry_without link_without formal_without (TypeTree-F.Word w p))
    ∙ (ap refilled_type (sym (type.rolls-Word w nowhere)) ∙ fold-roll-TypeTree (Reader Expr) (Reader Postfix) (Reader TypeTree) (Reader Entry) (Reader Link) Declared expr_reader postfix_reader type_reader entry_reader link_reader formal_reader (TypeTree-F.Word w nowhere))

pub type-Defined : (n : Name) → again_type (type.Defined n) ≡ keep (λ q. done (type.Defined (name_at n.text q)))
type-Defined n =
    ap refilled_type (ap unplaced_type (sym (type.rolls-Defined n)) ∙ fold-roll-TypeTree Expr Postfix TypeTree Entry Link Formal expr_without postfix_without type_without entry_without link_without formal_without (TypeTree-F.Defined n))
    ∙ (ap refilled_type (sym (type.rolls-Defined (unplaced_name n))) ∙ fold-roll-TypeTree (Reader Expr) (Reader Postfix) (Reader TypeTree) (Reader Entry) (Reader Link) Declared expr_reader postfix_reader type_reader entry_reader link_reader formal_reader (TypeTree-F.Defined (unplaced_name n)))

pub type-List : (p : Place) (size : Option Expr) (t : TypeTree) → again_type (type.List p size t) ≡ keep (λ q. bind (size_reader (option_map refilled_expr (option_map unplaced_expr size))) (λ a. last (again_type t) (λ x. type.List q a x)))
type-List p None t =
    ap refilled_type (ap unplaced_type (sym (type.rolls-List p None t)) ∙ fold-roll-TypeTree Expr Postfix TypeTree Entry Link Formal expr_without postfix_without type_without entry_without link_without formal_without (TypeTree-F.List p None t))
    ∙ (ap refilled_type (sym (type.rolls-List nowhere None (unplaced_type t))) ∙ fold-roll-TypeTree (Reader Expr) (Reader Postfix) (Reader TypeTree) (Reader Entry) (Reader Link) Declared expr_reader postfix_reader type_reader entry_reader link_reader formal_reader (TypeTree-F.List nowhere None (unplaced_type t)))
type-List p (Some size) t =
    ap refilled_type (ap unplaced_type (sym (type.rolls-List p (Some size) t)) ∙ fold-roll-TypeTree Expr Postfix TypeTree Entry Link Formal expr_without postfix_without type_without entry_without link_without formal_without (TypeTree-F.List p (Some size) t))
    ∙ (ap refilled_type (sym (type.rolls-List nowhere (Some (unplaced_expr size)) (unplaced_type t))) ∙ fold-roll-TypeTree (Reader Expr) (Reader Postfix) (Reader TypeTree) (Reader Entry) (Reader Link) Declared expr_reader postfix_reader type_reader entry_reader link_reader formal_reader (TypeTree-F.List nowhere (Some (unplaced_expr size)) (unplaced_type t)))

pub type-Set : (p : Place) (t : TypeTree) → again_type (type.Set p t) ≡ keep (λ q. last (again_type t) (λ x. type.Set q x))
type-Set p t =
    ap refilled_type (ap unplaced_type (sym (type.rolls-Set p t)) ∙ fold-roll-TypeTree Expr Postfix TypeTree Entry Link Formal expr_without postfix_without type_without entry_without link_without formal_without (TypeTree-F.Set p t))
    ∙ (ap refilled_type (sym (type.rolls-Set nowhere (unplaced_type t))) ∙ fold-roll-TypeTree (Reader Expr) (Reader Postfix) (Reader TypeTree) (Reader Entry) (Reader Link) Declared expr_reader postfix_reader type_reader entry_reader link_reader formal_reader (TypeTree-F.Set nowhere (unplaced_type t)))

pub type-Dist : (p : Place) (t : TypeTree) → again_type (type.Dist p t) ≡ keep (λ q. last (again_type t) (λ x. type.Dist q x))
type-Dist p t =
    ap refilled_type (ap unplaced_type (sym (type.rolls-Dist p t)) ∙ fold-roll-TypeTree Expr Postfix TypeTree Entry Link Formal expr_without postfix_without type_without entry_without link_without formal_without (TypeTree-F.Dist p t))
    ∙ (ap refilled_type (sym (type.rolls-Dist nowhere (unplaced_type t))) ∙ fold-roll-TypeTree (Reader Expr) (Reader Postfix) (Reader TypeTree) (Reader Entry) (Reader Link) Declared expr_reader postfix_reader type_reader entry_reader link_reader formal_reader (TypeTree-F.Dist nowhere (unplaced_type t)))

pub type-Dict : (p : Place) (k : TypeTree) (v : TypeTree) → again_type (type.Dict p k v) ≡ keep (λ q. pass (bind {A = TypeTree × TypeTree} (bind (again_type k) (λ x. pass (last (again_type v) (λ y. (x, y))))) (λ z. pass (done (type.Dict q z.0 z.1)))))
type-Dict p k v =
    ap refilled_type (ap unplaced_type (sym (type.rolls-Dict p k v)) ∙ fold-roll-TypeTree Expr Postfix TypeTree Entry Link Formal expr_without postfix_without type_without entry_without link_without formal_without (TypeTree-F.Dict p k v))
    ∙ (ap refilled_type (sym (type.rolls-Dict nowhere (unplaced_type k) (unplaced_type v))) ∙ fold-roll-TypeTree (Reader Expr) (Reader Postfix) (Reader TypeTree) (Reader Entry) (Reader Link) Declared expr_reader postfix_reader type_reader entry_reader link_reader formal_reader (TypeTree-F.Dict nowhere (unplaced_type k) (unplaced_type v)))

pub type-Tuple : (p : Place) (fs : List Formal) → again_type (type.Tuple p fs) ≡ keep (λ q. pass (bind (formals (map refilled_formal (map unplaced_formal fs))) (λ xs. pass (done (type.Tuple q xs)))))
type-Tuple p fs =
    ap refilled_type (ap unplaced_type (sym (type.rolls-Tuple p fs)) ∙ fold-roll-TypeTree Expr Postfix TypeTree Entry Link Formal expr_without postfix_without type_without entry_without link_without formal_without (TypeTree-F.Tuple p fs))
    ∙ (ap refilled_type (sym (type.rolls-Tuple nowhere (map unplaced_formal fs))) ∙ fold-roll-TypeTree (Reader Expr) (Reader Postfix) (Reader TypeTree) (Reader Entry) (Reader Link) Declared expr_reader postfix_reader type_reader entry_reader link_reader formal_reader (TypeTree-F.Tuple nowhere (map unplaced_formal fs)))

pub type-Chan : (p : Place) (way : Way) (t : Option TypeTree) → again_type (type.Chan p way t) ≡ keep (λ q. bind (way_reader way) (λ u. last (carried_reader (option_map refilled_type (option_map unplaced_type t))) (λ x. type.Chan q way x)))
type-Chan p way None =
    ap refilled_type (ap unplaced_type (sym (type.rolls-Chan p way None)) ∙ fold-roll-TypeTree Expr Postfix TypeTree Entry Link Formal expr_without postfix_without type_without entry_without link_without formal_without (TypeTree-F.Chan p way None))
    ∙ (ap refilled_type (sym (type.rolls-Chan nowhere way None)) ∙ fold-roll-TypeTree (Reader Expr) (Reader Postfix) (Reader TypeTree) (Reader Entry) (Reader Link) Declared expr_reader postfix_reader type_reader entry_reader link_reader formal_reader (TypeTree-F.Chan nowhere way None))
type-Chan p way (Some t) =
    ap refilled_type (ap unplaced_type (sym (type.rolls-Chan p way (Some t))) ∙ fold-roll-TypeTree Expr Postfix TypeTree Entry Link Formal expr_without postfix_without type_without entry_without link_without formal_without (TypeTree-F.Chan p way (Some t)))
    ∙ (ap refilled_type (sym (type.rolls-Chan nowhere way (Some (unplaced_type t)))) ∙ fold-roll-TypeTree (Reader Expr) (Reader Postfix) (Reader TypeTree) (Reader Entry) (Reader Link) Declared expr_reader postfix_reader type_reader entry_reader link_reader formal_reader (TypeTree-F.Chan nowhere way (Some (unplaced_type t))))

pub entry-in : (k v : Expr) → again_entry (record { key = k; value = v }) ≡ bind (again_expr k) (λ x. pass (last (again_expr v) (λ y. record { key = x; value = y })))
entry-in k v =
    ap refilled_entry (fold_out-Entry Expr Postfix TypeTree Entry Link Formal expr_without postfix_without type_without entry_without link_without formal_without (record { key = k; value = v }))
    ∙ fold_out-Entry (Reader Expr) (Reader Postfix) (Reader TypeTree) (Reader Entry) (Reader Link) Declared expr_reader postfix_reader type_reader entry_reader link_reader formal_reader (record { key = unplaced_expr k; value = unplaced_expr v })

pub link-in : (l : Link) → again_link l ≡ keep (λ q. last (again_expr l.operand) (λ x. record { operator = l.operator; place = q; operand = x }))
link-in l =
    ap refilled_link (fold_out-Link Expr Postfix TypeTree Entry Link Formal expr_without postfix_without type_without entry_without link_without formal_without l)
    ∙ fold_out-Link (Reader Expr) (Reader Postfix) (Reader TypeTree) (Reader Entry) (Reader Link) Declared expr_reader postfix_reader type_reader entry_reader link_reader formal_reader (record { operator = l.operator; place = nowhere; operand = unplaced_expr l.operand })

pub formal-bare : (n : Name) → again_formal (record { ty = None; name = n }) ≡ record { ty = None; text = n.text }
formal-bare n =
    ap refilled_formal (fold_out-Formal Expr Postfix TypeTree Entry Link Formal expr_without postfix_without type_without entry_without link_without formal_without (record { ty = None; name = n }))
    ∙ fold_out-Formal (Reader Expr) (Reader Postfix) (Reader TypeTree) (Reader Entry) (Reader Link) Declared expr_reader postfix_reader type_reader entry_reader link_reader formal_reader (record { ty = None; name = unplaced_name n })

pub formal-typed : (t : TypeTree) (n : Name) → again_formal (record { ty = Some t; name = n }) ≡ record { ty = Some (again_type t); text = n.text }
formal-typed t n =
    ap refilled_formal (fold_out-Formal Expr Postfix TypeTree Entry Link Formal expr_without postfix_without type_without entry_without link_without formal_without (record { ty = Some t; name = n }))
    ∙ fold_out-Formal (Reader Expr) (Reader Postfix) (Reader TypeTree) (Reader Entry) (Reader Link) Declared expr_reader postfix_reader type_reader entry_reader link_reader formal_reader (record { ty = Some (unplaced_type t); name = unplaced_name n })
