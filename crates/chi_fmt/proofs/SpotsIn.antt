-- The spots of each kind of expression and type, by those of its parts.
use Rattle.std.proofs.Common.{◌≡◌, ℕ, Bool, List, [], ◌∷◌, ◌++◌, Option, Some, None, map, ap, sym, ◌∙◌}
use Rattle.std.specs.Option.{option_map}
use Rattle.chi_token.specs.declared.place.Place.{Place}
use Rattle.chi_token.specs.declared.keyword.Keyword.TheVariants.{ChanWord, DictWord, DistWord, ListWord, SetWord, TimeWord, TupleWord}
use Rattle.chi_token.specs.declared.sign.Sign.TheVariants.{Caret, Colon, Dot}
use Rattle.chi_token.specs.declared.token.Token.TheVariants.{Word, Sign}
use Rattle.chi_token.specs.declared.token.Token.TheVariants as token
use Rattle.chi_tree.specs.declared.operator.RelationSign.{RelationSign}
use Rattle.chi_tree.specs.declared.operator.PrefixSign.{PrefixSign}
use Rattle.chi_tree.specs.declared.operator.CastWord.{CastWord}
use Rattle.chi_tree.specs.declared.type_tree.Name.{Name}
use Rattle.chi_tree.specs.declared.type_tree.TypeWord.{TypeWord}
use Rattle.chi_tree.specs.declared.type_tree.Way.{Way}
use Rattle.chi_tree.specs.declared.expr.Expr.{Expr, Expr-F, fold-roll-Expr}
use Rattle.chi_tree.specs.declared.expr.Expr.TheVariants as expr
use Rattle.chi_tree.specs.declared.expr.Postfix.{Postfix, Postfix-F, fold-roll-Postfix}
use Rattle.chi_tree.specs.declared.expr.Postfix.TheVariants as postfix
use Rattle.chi_tree.specs.declared.expr.Entry.{Entry, fold_out-Entry}
use Rattle.chi_tree.specs.declared.expr.Link.{Link, fold_out-Link}
use Rattle.chi_tree.specs.declared.type_tree.TypeTree.{TypeTree, TypeTree-F, fold-roll-TypeTree}
use Rattle.chi_tree.specs.declared.type_tree.TypeTree.TheVariants as type
use Rattle.chi_tree.specs.declared.type_tree.Formal.{Formal, fold_out-Formal}
use Rattle.chi_tree_spell.specs.Words.{operator_token, relation_token, cast_token, type_token, truth_token, if_any, all}
use Rattle.chi_tree_spell.specs.Expressions.{Declared, bare, kept, put_name, put_commas, put_round, put_square, put_curly, round_at, square_at, curly_at, postfix_step, type_step, entry_step, link_step, formal_step, put_by, put_size, put_carried, put_way}
use Rattle.chi_fmt.specs.declared.spot.Spot.{Spot}
use Rattle.chi_fmt.specs.Expressions.{Spots, usual, opening, closing, prefix_spot, spots_step, expr_spots, link_spots, postfix_spots, entry_spots, type_spots, formal_spots, formals_spots}

pub expr-Chain : (e : Expr) (ls : List Link) → expr_spots (expr.Chain e ls) ≡ expr_spots e ++ all (map link_spots ls)
expr-Chain e ls = ap expr_spots (sym (expr.rolls-Chain e ls)) ∙ fold-roll-Expr Spots Spots Spots Spots Spots (Declared Spot) spots_step (postfix_step usual) (type_step usual) (entry_step usual) (link_step usual) (formal_step usual) (Expr-F.Chain e ls)

pub expr-Prefix : (w : PrefixSign) (p : Place) (e : Expr) → expr_spots (expr.Prefix w p e) ≡ prefix_spot w ∷ expr_spots e
expr-Prefix w p e = ap expr_spots (sym (expr.rolls-Prefix w p e)) ∙ fold-roll-Expr Spots Spots Spots Spots Spots (Declared Spot) spots_step (postfix_step usual) (type_step usual) (entry_step usual) (link_step usual) (formal_step usual) (Expr-F.Prefix w p e)

pub expr-Relation : (e : Expr) (w : RelationSign) (p : Place) (f : Expr) → expr_spots (expr.Relation e w p f) ≡ expr_spots e ++ kept usual (relation_token w) p ∷ expr_spots f
expr-Relation e w p f = ap expr_spots (sym (expr.rolls-Relation e w p f)) ∙ fold-roll-Expr Spots Spots Spots Spots Spots (Declared Spot) spots_step (postfix_step usual) (type_step usual) (entry_step usual) (link_step usual) (formal_step usual) (Expr-F.Relation e w p f)

pub expr-Power : (e : Expr) (p : Place) (f : Expr) → expr_spots (expr.Power e p f) ≡ expr_spots e ++ kept usual (Sign Caret) p ∷ expr_spots f
expr-Power e p f = ap expr_spots (sym (expr.rolls-Power e p f)) ∙ fold-roll-Expr Spots Spots Spots Spots Spots (Declared Spot) spots_step (postfix_step usual) (type_step usual) (entry_step usual) (link_step usual) (formal_step usual) (Expr-F.Power e p f)

pub expr-Part : (e : Expr) (ps : List Postfix) → expr_spots (expr.Part e ps) ≡ expr_spots e ++ all (map postfix_spots ps)
expr-Part e ps = ap expr_spots (sym (expr.rolls-Part e ps)) ∙ fold-roll-Expr Spots Spots Spots Spots Spots (Declared Spot) spots_step (postfix_step usual) (type_step usual) (entry_step usual) (link_step usual) (formal_step usual) (Expr-F.Part e ps)

pub expr-Int : (digits : List ℕ) (p : Place) → expr_spots (expr.Int digits p) ≡ kept usual (token.Int digits) p ∷ []
expr-Int digits p = ap expr_spots (sym (expr.rolls-Int digits p)) ∙ fold-roll-Expr Spots Spots Spots Spots Spots (Declared Spot) spots_step (postfix_step usual) (type_step usual) (entry_step usual) (link_step usual) (formal_step usual) (Expr-F.Int digits p)

pub expr-Real : (digits : List ℕ) (p : Place) → expr_spots (expr.Real digits p) ≡ kept usual (token.Real digits) p ∷ []
expr-Real digits p = ap expr_spots (sym (expr.rolls-Real digits p)) ∙ fold-roll-Expr Spots Spots Spots Spots Spots (Declared Spot) spots_step (postfix_step usual) (type_step usual) (entry_step usual) (link_step usual) (formal_step usual) (Expr-F.Real digits p)

pub expr-Text : (text : List ℕ) (p : Place) → expr_spots (expr.Text text p) ≡ kept usual (token.Text text) p ∷ []
expr-Text text p = ap expr_spots (sym (expr.rolls-Text text p)) ∙ fold-roll-Expr Spots Spots Spots Spots Spots (Declared Spot) spots_step (postfix_step usual) (type_step usual) (entry_step usual) (link_step usual) (formal_step usual) (Expr-F.Text text p)

pub expr-Bool : (b : Bool) (p : Place) → expr_spots (expr.Bool b p) ≡ kept usual (truth_token b) p ∷ []
expr-Bool b p = ap expr_spots (sym (expr.rolls-Bool b p)) ∙ fold-roll-Expr Spots Spots Spots Spots Spots (Declared Spot) spots_step (postfix_step usual) (type_step usual) (entry_step usual) (link_step usual) (formal_step usual) (Expr-F.Bool b p)

pub expr-Time : (p : Place) → expr_spots (expr.Time p) ≡ kept usual (Word TimeWord) p ∷ []
expr-Time p = ap expr_spots (sym (expr.rolls-Time p)) ∙ fold-roll-Expr Spots Spots Spots Spots Spots (Declared Spot) spots_step (postfix_step usual) (type_step usual) (entry_step usual) (link_step usual) (formal_step usual) (Expr-F.Time p)

pub expr-Named : (n : Name) → expr_spots (expr.Named n) ≡ put_name usual n ∷ []
expr-Named n = ap expr_spots (sym (expr.rolls-Named n)) ∙ fold-roll-Expr Spots Spots Spots Spots Spots (Declared Spot) spots_step (postfix_step usual) (type_step usual) (entry_step usual) (link_step usual) (formal_step usual) (Expr-F.Named n)

pub expr-Call : (n : Name) (es : List Expr) → expr_spots (expr.Call n es) ≡ put_name usual n ∷ put_round usual (put_commas usual (map expr_spots es))
expr-Call n es = ap expr_spots (sym (expr.rolls-Call n es)) ∙ fold-roll-Expr Spots Spots Spots Spots Spots (Declared Spot) spots_step (postfix_step usual) (type_step usual) (entry_step usual) (link_step usual) (formal_step usual) (Expr-F.Call n es)

pub expr-Cast : (w : CastWord) (p : Place) (e : Expr) → expr_spots (expr.Cast w p e) ≡ kept usual (cast_token w) p ∷ put_round usual (expr_spots e)
expr-Cast w p e = ap expr_spots (sym (expr.rolls-Cast w p e)) ∙ fold-roll-Expr Spots Spots Spots Spots Spots (Declared Spot) spots_step (postfix_step usual) (type_step usual) (entry_step usual) (link_step usual) (formal_step usual) (Expr-F.Cast w p e)

pub expr-Round : (p : Place) (e : Expr) → expr_spots (expr.Round p e) ≡ round_at usual p (expr_spots e)
expr-Round p e = ap expr_spots (sym (expr.rolls-Round p e)) ∙ fold-roll-Expr Spots Spots Spots Spots Spots (Declared Spot) spots_step (postfix_step usual) (type_step usual) (entry_step usual) (link_step usual) (formal_step usual) (Expr-F.Round p e)

pub expr-TupleOf : (p : Place) (es : List Expr) → expr_spots (expr.TupleOf p es) ≡ round_at usual p (put_commas usual (map expr_spots es))
expr-TupleOf p es = ap expr_spots (sym (expr.rolls-TupleOf p es)) ∙ fold-roll-Expr Spots Spots Spots Spots Spots (Declared Spot) spots_step (postfix_step usual) (type_step usual) (entry_step usual) (link_step usual) (formal_step usual) (Expr-F.TupleOf p es)

pub expr-ListOf : (p : Place) (es : List Expr) → expr_spots (expr.ListOf p es) ≡ square_at usual p (put_commas usual (map expr_spots es))
expr-ListOf p es = ap expr_spots (sym (expr.rolls-ListOf p es)) ∙ fold-roll-Expr Spots Spots Spots Spots Spots (Declared Spot) spots_step (postfix_step usual) (type_step usual) (entry_step usual) (link_step usual) (formal_step usual) (Expr-F.ListOf p es)

pub expr-SetOf : (p : Place) (es : List Expr) → expr_spots (expr.SetOf p es) ≡ curly_at usual p (put_commas usual (map expr_spots es))
expr-SetOf p es = ap expr_spots (sym (expr.rolls-SetOf p es)) ∙ fold-roll-Expr Spots Spots Spots Spots Spots (Declared Spot) spots_step (postfix_step usual) (type_step usual) (entry_step usual) (link_step usual) (formal_step usual) (Expr-F.SetOf p es)

pub expr-DictOf : (p : Place) (es : List Entry) → expr_spots (expr.DictOf p es) ≡ curly_at usual p (put_commas usual (map entry_spots es))
expr-DictOf p es = ap expr_spots (sym (expr.rolls-DictOf p es)) ∙ fold-roll-Expr Spots Spots Spots Spots Spots (Declared Spot) spots_step (postfix_step usual) (type_step usual) (entry_step usual) (link_step usual) (formal_step usual) (Expr-F.DictOf p es)

pub expr-EmptyList : (p : Place) (t : TypeTree) → expr_spots (expr.EmptyList p t) ≡ opening ∷ type_spots t ++ closing ∷ put_square usual []
expr-EmptyList p t = ap expr_spots (sym (expr.rolls-EmptyList p t)) ∙ fold-roll-Expr Spots Spots Spots Spots Spots (Declared Spot) spots_step (postfix_step usual) (type_step usual) (entry_step usual) (link_step usual) (formal_step usual) (Expr-F.EmptyList p t)

pub expr-EmptySet : (p : Place) (t : TypeTree) → expr_spots (expr.EmptySet p t) ≡ opening ∷ type_spots t ++ closing ∷ put_curly usual []
expr-EmptySet p t = ap expr_spots (sym (expr.rolls-EmptySet p t)) ∙ fold-roll-Expr Spots Spots Spots Spots Spots (Declared Spot) spots_step (postfix_step usual) (type_step usual) (entry_step usual) (link_step usual) (formal_step usual) (Expr-F.EmptySet p t)

pub expr-EmptyDict : (p : Place) (k v : TypeTree) → expr_spots (expr.EmptyDict p k v) ≡ opening ∷ type_spots k ++ bare usual (Sign Colon) ∷ type_spots v ++ closing ∷ put_curly usual []
expr-EmptyDict p k v = ap expr_spots (sym (expr.rolls-EmptyDict p k v)) ∙ fold-roll-Expr Spots Spots Spots Spots Spots (Declared Spot) spots_step (postfix_step usual) (type_step usual) (entry_step usual) (link_step usual) (formal_step usual) (Expr-F.EmptyDict p k v)

pub postfix-Index : (p : Place) (e : Expr) → postfix_spots (postfix.Index p e) ≡ square_at usual p (expr_spots e)
postfix-Index p e = ap postfix_spots (sym (postfix.rolls-Index p e)) ∙ fold-roll-Postfix Spots Spots Spots Spots Spots (Declared Spot) spots_step (postfix_step usual) (type_step usual) (entry_step usual) (link_step usual) (formal_step usual) (Postfix-F.Index p e)

pub postfix-Field : (n : Name) → postfix_spots (postfix.Field n) ≡ bare usual (Sign Dot) ∷ put_name usual n ∷ []
postfix-Field n = ap postfix_spots (sym (postfix.rolls-Field n)) ∙ fold-roll-Postfix Spots Spots Spots Spots Spots (Declared Spot) spots_step (postfix_step usual) (type_step usual) (entry_step usual) (link_step usual) (formal_step usual) (Postfix-F.Field n)

pub type-Word : (w : TypeWord) (p : Place) → type_spots (type.Word w p) ≡ kept usual (type_token w) p ∷ []
type-Word w p = ap type_spots (sym (type.rolls-Word w p)) ∙ fold-roll-TypeTree Spots Spots Spots Spots Spots (Declared Spot) spots_step (postfix_step usual) (type_step usual) (entry_step usual) (link_step usual) (formal_step usual) (TypeTree-F.Word w p)

pub type-Defined : (n : Name) → type_spots (type.Defined n) ≡ put_name usual n ∷ []
type-Defined n = ap type_spots (sym (type.rolls-Defined n)) ∙ fold-roll-TypeTree Spots Spots Spots Spots Spots (Declared Spot) spots_step (postfix_step usual) (type_step usual) (entry_step usual) (link_step usual) (formal_step usual) (TypeTree-F.Defined n)

pub type-Set : (p : Place) (t : TypeTree) → type_spots (type.Set p t) ≡ kept usual (Word SetWord) p ∷ type_spots t
type-Set p t = ap type_spots (sym (type.rolls-Set p t)) ∙ fold-roll-TypeTree Spots Spots Spots Spots Spots (Declared Spot) spots_step (postfix_step usual) (type_step usual) (entry_step usual) (link_step usual) (formal_step usual) (TypeTree-F.Set p t)

pub type-Dist : (p : Place) (t : TypeTree) → type_spots (type.Dist p t) ≡ kept usual (Word DistWord) p ∷ type_spots t
type-Dist p t = ap type_spots (sym (type.rolls-Dist p t)) ∙ fold-roll-TypeTree Spots Spots Spots Spots Spots (Declared Spot) spots_step (postfix_step usual) (type_step usual) (entry_step usual) (link_step usual) (formal_step usual) (TypeTree-F.Dist p t)

pub type-Dict : (p : Place) (k v : TypeTree) → type_spots (type.Dict p k v) ≡ kept usual (Word DictWord) p ∷ put_round usual (type_spots k ++ bare usual (Sign Colon) ∷ type_spots v)
type-Dict p k v = ap type_spots (sym (type.rolls-Dict p k v)) ∙ fold-roll-TypeTree Spots Spots Spots Spots Spots (Declared Spot) spots_step (postfix_step usual) (type_step usual) (entry_step usual) (link_step usual) (formal_step usual) (TypeTree-F.Dict p k v)

pub type-Tuple : (p : Place) (fs : List Formal) → type_spots (type.Tuple p fs) ≡ kept usual (Word TupleWord) p ∷ put_round usual (formals_spots fs)
type-Tuple p fs = ap type_spots (sym (type.rolls-Tuple p fs)) ∙ fold-roll-TypeTree Spots Spots Spots Spots Spots (Declared Spot) spots_step (postfix_step usual) (type_step usual) (entry_step usual) (link_step usual) (formal_step usual) (TypeTree-F.Tuple p fs)

pub link-tokens : (l : Link) → link_spots l ≡ kept usual (operator_token l.operator) l.place ∷ expr_spots l.operand
link-tokens l = fold_out-Link Spots Spots Spots Spots Spots (Declared Spot) spots_step (postfix_step usual) (type_step usual) (entry_step usual) (link_step usual) (formal_step usual) l

pub entry-tokens : (e : Entry) → entry_spots e ≡ expr_spots e.key ++ bare usual (Sign Colon) ∷ expr_spots e.value
entry-tokens e = fold_out-Entry Spots Spots Spots Spots Spots (Declared Spot) spots_step (postfix_step usual) (type_step usual) (entry_step usual) (link_step usual) (formal_step usual) e

pub formal-bare : (n : Name) → formal_spots (record { ty = None; name = n }) ≡ record { ty = None; name = put_name usual n }
formal-bare n = fold_out-Formal Spots Spots Spots Spots Spots (Declared Spot) spots_step (postfix_step usual) (type_step usual) (entry_step usual) (link_step usual) (formal_step usual) (record { ty = None; name = n })

pub formal-typed : (t : TypeTree) (n : Name) → formal_spots (record { ty = Some t; name = n }) ≡ record { ty = Some (type_spots t); name = put_name usual n }
formal-typed t n = fold_out-Formal Spots Spots Spots Spots Spots (Declared Spot) spots_step (postfix_step usual) (type_step usual) (entry_step usual) (link_step usual) (formal_step usual) (record { ty = Some t; name = n })

-- the tokens of an expression that may be left out
abbrev pub spots_if : Option Expr → Spots
spots_if e = if_any (option_map expr_spots e)

pub postfix-Slice : (p : Place) (a b : Option Expr) (has : Bool) (c : Option Expr)
    → postfix_spots (postfix.Slice p a b has c) ≡ square_at usual p (spots_if a ++ bare usual (Sign Colon) ∷ spots_if b ++ put_by usual has (option_map expr_spots c))
postfix-Slice p None None has None = ap postfix_spots (sym (postfix.rolls-Slice p None None has None)) ∙ fold-roll-Postfix Spots Spots Spots Spots Spots (Declared Spot) spots_step (postfix_step usual) (type_step usual) (entry_step usual) (link_step usual) (formal_step usual) (Postfix-F.Slice p None None has None)
postfix-Slice p None None has (Some c) = ap postfix_spots (sym (postfix.rolls-Slice p None None has (Some c))) ∙ fold-roll-Postfix Spots Spots Spots Spots Spots (Declared Spot) spots_step (postfix_step usual) (type_step usual) (entry_step usual) (link_step usual) (formal_step usual) (Postfix-F.Slice p None None has (Some c))
postfix-Slice p None (Some b) has None = ap postfix_spots (sym (postfix.rolls-Slice p None (Some b) has None)) ∙ fold-roll-Postfix Spots Spots Spots Spots Spots (Declared Spot) spots_step (postfix_step usual) (type_step usual) (entry_step usual) (link_step usual) (formal_step usual) (Postfix-F.Slice p None (Some b) has None)
postfix-Slice p None (Some b) has (Some c) = ap postfix_spots (sym (postfix.rolls-Slice p None (Some b) has (Some c))) ∙ fold-roll-Postfix Spots Spots Spots Spots Spots (Declared Spot) spots_step (postfix_step usual) (type_step usual) (entry_step usual) (link_step usual) (formal_step usual) (Postfix-F.Slice p None (Some b) has (Some c))
postfix-Slice p (Some a) None has None = ap postfix_spots (sym (postfix.rolls-Slice p (Some a) None has None)) ∙ fold-roll-Postfix Spots Spots Spots Spots Spots (Declared Spot) spots_step (postfix_step usual) (type_step usual) (entry_step usual) (link_step usual) (formal_step usual) (Postfix-F.Slice p (Some a) None has None)
postfix-Slice p (Some a) None has (Some c) = ap postfix_spots (sym (postfix.rolls-Slice p (Some a) None has (Some c))) ∙ fold-roll-Postfix Spots Spots Spots Spots Spots (Declared Spot) spots_step (postfix_step usual) (type_step usual) (entry_step usual) (link_step usual) (formal_step usual) (Postfix-F.Slice p (Some a) None has (Some c))
postfix-Slice p (Some a) (Some b) has None = ap postfix_spots (sym (postfix.rolls-Slice p (Some a) (Some b) has None)) ∙ fold-roll-Postfix Spots Spots Spots Spots Spots (Declared Spot) spots_step (postfix_step usual) (type_step usual) (entry_step usual) (link_step usual) (formal_step usual) (Postfix-F.Slice p (Some a) (Some b) has None)
postfix-Slice p (Some a) (Some b) has (Some c) = ap postfix_spots (sym (postfix.rolls-Slice p (Some a) (Some b) has (Some c))) ∙ fold-roll-Postfix Spots Spots Spots Spots Spots (Declared Spot) spots_step (postfix_step usual) (type_step usual) (entry_step usual) (link_step usual) (formal_step usual) (Postfix-F.Slice p (Some a) (Some b) has (Some c))

pub type-List : (p : Place) (size : Option Expr) (t : TypeTree) → type_spots (type.List p size t) ≡ kept usual (Word ListWord) p ∷ put_size usual (option_map expr_spots size) ++ type_spots t
type-List p None t = ap type_spots (sym (type.rolls-List p None t)) ∙ fold-roll-TypeTree Spots Spots Spots Spots Spots (Declared Spot) spots_step (postfix_step usual) (type_step usual) (entry_step usual) (link_step usual) (formal_step usual) (TypeTree-F.List p None t)
type-List p (Some e) t = ap type_spots (sym (type.rolls-List p (Some e) t)) ∙ fold-roll-TypeTree Spots Spots Spots Spots Spots (Declared Spot) spots_step (postfix_step usual) (type_step usual) (entry_step usual) (link_step usual) (formal_step usual) (TypeTree-F.List p (Some e) t)

pub type-Chan : (p : Place) (way : Way) (t : Option TypeTree) → type_spots (type.Chan p way t) ≡ kept usual (Word ChanWord) p ∷ put_way usual way ++ put_carried usual (option_map type_spots t)
type-Chan p way None = ap type_spots (sym (type.rolls-Chan p way None)) ∙ fold-roll-TypeTree Spots Spots Spots Spots Spots (Declared Spot) spots_step (postfix_step usual) (type_step usual) (entry_step usual) (link_step usual) (formal_step usual) (TypeTree-F.Chan p way None)
type-Chan p way (Some t) = ap type_spots (sym (type.rolls-Chan p way (Some t))) ∙ fold-roll-TypeTree Spots Spots Spots Spots Spots (Declared Spot) spots_step (postfix_step usual) (type_step usual) (entry_step usual) (link_step usual) (formal_step usual) (TypeTree-F.Chan p way (Some t))
