-- What each kind of expression and type is spelled as, by what its parts are.
use Rattle.std.proofs.Common.{◌≡◌, ℕ, Bool, List, [], ◌∷◌, ◌++◌, Option, Some, None, map, ap, sym, ◌∙◌}
use Rattle.std.specs.Option.{option_map}
use Rattle.chi_token.specs.declared.place.Place.{Place}
use Rattle.chi_token.specs.declared.keyword.Keyword.TheVariants.{ChanWord, DictWord, DistWord, ListWord, SetWord, TimeWord, TupleWord}
use Rattle.chi_token.specs.declared.sign.Sign.TheVariants.{Less, Greater, Caret, Colon, Dot}
use Rattle.chi_token.specs.declared.token.Token.TheVariants.{Word, Sign}
use Rattle.chi_token.specs.declared.token.Token.TheVariants as token
use Rattle.chi_tree.specs.declared.operator.RelationSign.{RelationSign}
use Rattle.chi_tree.specs.declared.operator.PrefixSign.{PrefixSign}
use Rattle.chi_tree.specs.declared.operator.CastWord.{CastWord}
use Rattle.chi_tree.specs.declared.type_tree.Name.{Name}
use Rattle.chi_tree.specs.declared.type_tree.TypeWord.{TypeWord}
use Rattle.chi_tree.specs.declared.type_tree.Way.{Way}
use Rattle.chi_tree.specs.declared.expr.Expr.{Expr, Expr-F, fold-roll-Expr}
use Rattle.chi_tree.specs.declared.expr.Expr.TheVariants as expr
use Rattle.chi_tree.specs.declared.expr.Postfix.{Postfix, Postfix-F, fold-roll-Postfix}
use Rattle.chi_tree.specs.declared.expr.Postfix.TheVariants as postfix
use Rattle.chi_tree.specs.declared.expr.Entry.{Entry, fold_out-Entry}
use Rattle.chi_tree.specs.declared.expr.Link.{Link, fold_out-Link}
use Rattle.chi_tree.specs.declared.type_tree.TypeTree.{TypeTree, TypeTree-F, fold-roll-TypeTree}
use Rattle.chi_tree.specs.declared.type_tree.TypeTree.TheVariants as type
use Rattle.chi_tree.specs.declared.type_tree.Formal.{Formal, fold_out-Formal}
use Rattle.chi_tree_spell.specs.Marks.{Put}
use Rattle.chi_tree_spell.specs.Words.{operator_token, relation_token, prefix_token, cast_token, type_token, truth_token, if_any, all}
use Rattle.chi_tree_spell.specs.Expressions.{Declared, bare, kept, put_name, put_commas, put_round, put_square, put_curly, round_at, square_at, curly_at, expr_step, postfix_step, type_step, entry_step, link_step, formal_step, put_by, put_size, put_carried, put_way, put_expr, put_postfix, put_type, put_entry, put_link, put_declared, put_formals}

module _ {X : Type 0} (put : Put X) where
  pub expr-Chain : (e : Expr) (ls : List Link) → put_expr put (expr.Chain e ls) ≡ put_expr put e ++ all (map (put_link put) ls)
  expr-Chain e ls = ap (put_expr put) (sym (expr.rolls-Chain e ls)) ∙ fold-roll-Expr (List X) (List X) (List X) (List X) (List X) (Declared X) (expr_step put) (postfix_step put) (type_step put) (entry_step put) (link_step put) (formal_step put) (Expr-F.Chain e ls)

  pub expr-Prefix : (w : PrefixSign) (p : Place) (e : Expr) → put_expr put (expr.Prefix w p e) ≡ kept put (prefix_token w) p ∷ put_expr put e
  expr-Prefix w p e = ap (put_expr put) (sym (expr.rolls-Prefix w p e)) ∙ fold-roll-Expr (List X) (List X) (List X) (List X) (List X) (Declared X) (expr_step put) (postfix_step put) (type_step put) (entry_step put) (link_step put) (formal_step put) (Expr-F.Prefix w p e)

  pub expr-Relation : (e : Expr) (w : RelationSign) (p : Place) (f : Expr) → put_expr put (expr.Relation e w p f) ≡ put_expr put e ++ kept put (relation_token w) p ∷ put_expr put f
  expr-Relation e w p f = ap (put_expr put) (sym (expr.rolls-Relation e w p f)) ∙ fold-roll-Expr (List X) (List X) (List X) (List X) (List X) (Declared X) (expr_step put) (postfix_step put) (type_step put) (entry_step put) (link_step put) (formal_step put) (Expr-F.Relation e w p f)

  pub expr-Power : (e : Expr) (p : Place) (f : Expr) → put_expr put (expr.Power e p f) ≡ put_expr put e ++ kept put (Sign Caret) p ∷ put_expr put f
  expr-Power e p f = ap (put_expr put) (sym (expr.rolls-Power e p f)) ∙ fold-roll-Expr (List X) (List X) (List X) (List X) (List X) (Declared X) (expr_step put) (postfix_step put) (type_step put) (entry_step put) (link_step put) (formal_step put) (Expr-F.Power e p f)

  pub expr-Part : (e : Expr) (ps : List Postfix) → put_expr put (expr.Part e ps) ≡ put_expr put e ++ all (map (put_postfix put) ps)
  expr-Part e ps = ap (put_expr put) (sym (expr.rolls-Part e ps)) ∙ fold-roll-Expr (List X) (List X) (List X) (List X) (List X) (Declared X) (expr_step put) (postfix_step put) (type_step put) (entry_step put) (link_step put) (formal_step put) (Expr-F.Part e ps)

  pub expr-Int : (digits : List ℕ) (p : Place) → put_expr put (expr.Int digits p) ≡ kept put (token.Int digits) p ∷ []
  expr-Int digits p = ap (put_expr put) (sym (expr.rolls-Int digits p)) ∙ fold-roll-Expr (List X) (List X) (List X) (List X) (List X) (Declared X) (expr_step put) (postfix_step put) (type_step put) (entry_step put) (link_step put) (formal_step put) (Expr-F.Int digits p)

  pub expr-Real : (digits : List ℕ) (p : Place) → put_expr put (expr.Real digits p) ≡ kept put (token.Real digits) p ∷ []
  expr-Real digits p = ap (put_expr put) (sym (expr.rolls-Real digits p)) ∙ fold-roll-Expr (List X) (List X) (List X) (List X) (List X) (Declared X) (expr_step put) (postfix_step put) (type_step put) (entry_step put) (link_step put) (formal_step put) (Expr-F.Real digits p)

  pub expr-Text : (text : List ℕ) (p : Place) → put_expr put (expr.Text text p) ≡ kept put (token.Text text) p ∷ []
  expr-Text text p = ap (put_expr put) (sym (expr.rolls-Text text p)) ∙ fold-roll-Expr (List X) (List X) (List X) (List X) (List X) (Declared X) (expr_step put) (postfix_step put) (type_step put) (entry_step put) (link_step put) (formal_step put) (Expr-F.Text text p)

  pub expr-Bool : (b : Bool) (p : Place) → put_expr put (expr.Bool b p) ≡ kept put (truth_token b) p ∷ []
  expr-Bool b p = ap (put_expr put) (sym (expr.rolls-Bool b p)) ∙ fold-roll-Expr (List X) (List X) (List X) (List X) (List X) (Declared X) (expr_step put) (postfix_step put) (type_step put) (entry_step put) (link_step put) (formal_step put) (Expr-F.Bool b p)

  pub expr-Time : (p : Place) → put_expr put (expr.Time p) ≡ kept put (Word TimeWord) p ∷ []
  expr-Time p = ap (put_expr put) (sym (expr.rolls-Time p)) ∙ fold-roll-Expr (List X) (List X) (List X) (List X) (List X) (Declared X) (expr_step put) (postfix_step put) (type_step put) (entry_step put) (link_step put) (formal_step put) (Expr-F.Time p)

  pub expr-Named : (n : Name) → put_expr put (expr.Named n) ≡ put_name put n ∷ []
  expr-Named n = ap (put_expr put) (sym (expr.rolls-Named n)) ∙ fold-roll-Expr (List X) (List X) (List X) (List X) (List X) (Declared X) (expr_step put) (postfix_step put) (type_step put) (entry_step put) (link_step put) (formal_step put) (Expr-F.Named n)

  pub expr-Call : (n : Name) (es : List Expr) → put_expr put (expr.Call n es) ≡ put_name put n ∷ put_round put (put_commas put (map (put_expr put) es))
  expr-Call n es = ap (put_expr put) (sym (expr.rolls-Call n es)) ∙ fold-roll-Expr (List X) (List X) (List X) (List X) (List X) (Declared X) (expr_step put) (postfix_step put) (type_step put) (entry_step put) (link_step put) (formal_step put) (Expr-F.Call n es)

  pub expr-Cast : (w : CastWord) (p : Place) (e : Expr) → put_expr put (expr.Cast w p e) ≡ kept put (cast_token w) p ∷ put_round put (put_expr put e)
  expr-Cast w p e = ap (put_expr put) (sym (expr.rolls-Cast w p e)) ∙ fold-roll-Expr (List X) (List X) (List X) (List X) (List X) (Declared X) (expr_step put) (postfix_step put) (type_step put) (entry_step put) (link_step put) (formal_step put) (Expr-F.Cast w p e)

  pub expr-Round : (p : Place) (e : Expr) → put_expr put (expr.Round p e) ≡ round_at put p (put_expr put e)
  expr-Round p e = ap (put_expr put) (sym (expr.rolls-Round p e)) ∙ fold-roll-Expr (List X) (List X) (List X) (List X) (List X) (Declared X) (expr_step put) (postfix_step put) (type_step put) (entry_step put) (link_step put) (formal_step put) (Expr-F.Round p e)

  pub expr-TupleOf : (p : Place) (es : List Expr) → put_expr put (expr.TupleOf p es) ≡ round_at put p (put_commas put (map (put_expr put) es))
  expr-TupleOf p es = ap (put_expr put) (sym (expr.rolls-TupleOf p es)) ∙ fold-roll-Expr (List X) (List X) (List X) (List X) (List X) (Declared X) (expr_step put) (postfix_step put) (type_step put) (entry_step put) (link_step put) (formal_step put) (Expr-F.TupleOf p es)

  pub expr-ListOf : (p : Place) (es : List Expr) → put_expr put (expr.ListOf p es) ≡ square_at put p (put_commas put (map (put_expr put) es))
  expr-ListOf p es = ap (put_expr put) (sym (expr.rolls-ListOf p es)) ∙ fold-roll-Expr (List X) (List X) (List X) (List X) (List X) (Declared X) (expr_step put) (postfix_step put) (type_step put) (entry_step put) (link_step put) (formal_step put) (Expr-F.ListOf p es)

  pub expr-SetOf : (p : Place) (es : List Expr) → put_expr put (expr.SetOf p es) ≡ curly_at put p (put_commas put (map (put_expr put) es))
  expr-SetOf p es = ap (put_expr put) (sym (expr.rolls-SetOf p es)) ∙ fold-roll-Expr (List X) (List X) (List X) (List X) (List X) (Declared X) (expr_step put) (postfix_step put) (type_step put) (entry_step put) (link_step put) (formal_step put) (Expr-F.SetOf p es)

  pub expr-DictOf : (p : Place) (es : List Entry) → put_expr put (expr.DictOf p es) ≡ curly_at put p (put_commas put (map (put_entry put) es))
  expr-DictOf p es = ap (put_expr put) (sym (expr.rolls-DictOf p es)) ∙ fold-roll-Expr (List X) (List X) (List X) (List X) (List X) (Declared X) (expr_step put) (postfix_step put) (type_step put) (entry_step put) (link_step put) (formal_step put) (Expr-F.DictOf p es)

  pub expr-EmptyList : (p : Place) (t : TypeTree) → put_expr put (expr.EmptyList p t) ≡ kept put (Sign Less) p ∷ put_type put t ++ bare put (Sign Greater) ∷ put_square put []
  expr-EmptyList p t = ap (put_expr put) (sym (expr.rolls-EmptyList p t)) ∙ fold-roll-Expr (List X) (List X) (List X) (List X) (List X) (Declared X) (expr_step put) (postfix_step put) (type_step put) (entry_step put) (link_step put) (formal_step put) (Expr-F.EmptyList p t)

  pub expr-EmptySet : (p : Place) (t : TypeTree) → put_expr put (expr.EmptySet p t) ≡ kept put (Sign Less) p ∷ put_type put t ++ bare put (Sign Greater) ∷ put_curly put []
  expr-EmptySet p t = ap (put_expr put) (sym (expr.rolls-EmptySet p t)) ∙ fold-roll-Expr (List X) (List X) (List X) (List X) (List X) (Declared X) (expr_step put) (postfix_step put) (type_step put) (entry_step put) (link_step put) (formal_step put) (Expr-F.EmptySet p t)

  pub expr-EmptyDict : (p : Place) (k v : TypeTree) → put_expr put (expr.EmptyDict p k v) ≡ kept put (Sign Less) p ∷ put_type put k ++ bare put (Sign Colon) ∷ put_type put v ++ bare put (Sign Greater) ∷ put_curly put []
  expr-EmptyDict p k v = ap (put_expr put) (sym (expr.rolls-EmptyDict p k v)) ∙ fold-roll-Expr (List X) (List X) (List X) (List X) (List X) (Declared X) (expr_step put) (postfix_step put) (type_step put) (entry_step put) (link_step put) (formal_step put) (Expr-F.EmptyDict p k v)

  pub postfix-Index : (p : Place) (e : Expr) → put_postfix put (postfix.Index p e) ≡ square_at put p (put_expr put e)
  postfix-Index p e = ap (put_postfix put) (sym (postfix.rolls-Index p e)) ∙ fold-roll-Postfix (List X) (List X) (List X) (List X) (List X) (Declared X) (expr_step put) (postfix_step put) (type_step put) (entry_step put) (link_step put) (formal_step put) (Postfix-F.Index p e)

  pub postfix-Field : (n : Name) → put_postfix put (postfix.Field n) ≡ bare put (Sign Dot) ∷ put_name put n ∷ []
  postfix-Field n = ap (put_postfix put) (sym (postfix.rolls-Field n)) ∙ fold-roll-Postfix (List X) (List X) (List X) (List X) (List X) (Declared X) (expr_step put) (postfix_step put) (type_step put) (entry_step put) (link_step put) (formal_step put) (Postfix-F.Field n)

  pub type-Word : (w : TypeWord) (p : Place) → put_type put (type.Word w p) ≡ kept put (type_token w) p ∷ []
  type-Word w p = ap (put_type put) (sym (type.rolls-Word w p)) ∙ fold-roll-TypeTree (List X) (List X) (List X) (List X) (List X) (Declared X) (expr_step put) (postfix_step put) (type_step put) (entry_step put) (link_step put) (formal_step put) (TypeTree-F.Word w p)

  pub type-Defined : (n : Name) → put_type put (type.Defined n) ≡ put_name put n ∷ []
  type-Defined n = ap (put_type put) (sym (type.rolls-Defined n)) ∙ fold-roll-TypeTree (List X) (List X) (List X) (List X) (List X) (Declared X) (expr_step put) (postfix_step put) (type_step put) (entry_step put) (link_step put) (formal_step put) (TypeTree-F.Defined n)

  pub type-Set : (p : Place) (t : TypeTree) → put_type put (type.Set p t) ≡ kept put (Word SetWord) p ∷ put_type put t
  type-Set p t = ap (put_type put) (sym (type.rolls-Set p t)) ∙ fold-roll-TypeTree (List X) (List X) (List X) (List X) (List X) (Declared X) (expr_step put) (postfix_step put) (type_step put) (entry_step put) (link_step put) (formal_step put) (TypeTree-F.Set p t)

  pub type-Dist : (p : Place) (t : TypeTree) → put_type put (type.Dist p t) ≡ kept put (Word DistWord) p ∷ put_type put t
  type-Dist p t = ap (put_type put) (sym (type.rolls-Dist p t)) ∙ fold-roll-TypeTree (List X) (List X) (List X) (List X) (List X) (Declared X) (expr_step put) (postfix_step put) (type_step put) (entry_step put) (link_step put) (formal_step put) (TypeTree-F.Dist p t)

  pub type-Dict : (p : Place) (k v : TypeTree) → put_type put (type.Dict p k v) ≡ kept put (Word DictWord) p ∷ put_round put (put_type put k ++ bare put (Sign Colon) ∷ put_type put v)
  type-Dict p k v = ap (put_type put) (sym (type.rolls-Dict p k v)) ∙ fold-roll-TypeTree (List X) (List X) (List X) (List X) (List X) (Declared X) (expr_step put) (postfix_step put) (type_step put) (entry_step put) (link_step put) (formal_step put) (TypeTree-F.Dict p k v)

  pub type-Tuple : (p : Place) (fs : List Formal) → put_type put (type.Tuple p fs) ≡ kept put (Word TupleWord) p ∷ put_round put (put_formals put fs)
  type-Tuple p fs = ap (put_type put) (sym (type.rolls-Tuple p fs)) ∙ fold-roll-TypeTree (List X) (List X) (List X) (List X) (List X) (Declared X) (expr_step put) (postfix_step put) (type_step put) (entry_step put) (link_step put) (formal_step put) (TypeTree-F.Tuple p fs)

  pub link-tokens : (l : Link) → put_link put l ≡ kept put (operator_token l.operator) l.place ∷ put_expr put l.operand
  link-tokens l = fold_out-Link (List X) (List X) (List X) (List X) (List X) (Declared X) (expr_step put) (postfix_step put) (type_step put) (entry_step put) (link_step put) (formal_step put) l

  pub entry-tokens : (e : Entry) → put_entry put e ≡ put_expr put e.key ++ bare put (Sign Colon) ∷ put_expr put e.value
  entry-tokens e = fold_out-Entry (List X) (List X) (List X) (List X) (List X) (Declared X) (expr_step put) (postfix_step put) (type_step put) (entry_step put) (link_step put) (formal_step put) e

  pub formal-bare : (n : Name) → put_declared put (record { ty = None; name = n }) ≡ record { ty = None; name = put_name put n }
  formal-bare n = fold_out-Formal (List X) (List X) (List X) (List X) (List X) (Declared X) (expr_step put) (postfix_step put) (type_step put) (entry_step put) (link_step put) (formal_step put) (record { ty = None; name = n })

  pub formal-typed : (t : TypeTree) (n : Name) → put_declared put (record { ty = Some t; name = n }) ≡ record { ty = Some (put_type put t); name = put_name put n }
  formal-typed t n = fold_out-Formal (List X) (List X) (List X) (List X) (List X) (Declared X) (expr_step put) (postfix_step put) (type_step put) (entry_step put) (link_step put) (formal_step put) (record { ty = Some t; name = n })

  -- the tokens of an expression that may be left out
  abbrev pub put_if : Option Expr → List X
  put_if e = if_any (option_map (put_expr put) e)

  pub postfix-Slice : (p : Place) (a b : Option Expr) (has : Bool) (c : Option Expr)
      → put_postfix put (postfix.Slice p a b has c) ≡ square_at put p (put_if a ++ bare put (Sign Colon) ∷ put_if b ++ put_by put has (option_map (put_expr put) c))
  postfix-Slice p None None has None = ap (put_postfix put) (sym (postfix.rolls-Slice p None None has None)) ∙ fold-roll-Postfix (List X) (List X) (List X) (List X) (List X) (Declared X) (expr_step put) (postfix_step put) (type_step put) (entry_step put) (link_step put) (formal_step put) (Postfix-F.Slice p None None has None)
  postfix-Slice p None None has (Some c) = ap (put_postfix put) (sym (postfix.rolls-Slice p None None has (Some c))) ∙ fold-roll-Postfix (List X) (List X) (List X) (List X) (List X) (Declared X) (expr_step put) (postfix_step put) (type_step put) (entry_step put) (link_step put) (formal_step put) (Postfix-F.Slice p None None has (Some c))
  postfix-Slice p None (Some b) has None = ap (put_postfix put) (sym (postfix.rolls-Slice p None (Some b) has None)) ∙ fold-roll-Postfix (List X) (List X) (List X) (List X) (List X) (Declared X) (expr_step put) (postfix_step put) (type_step put) (entry_step put) (link_step put) (formal_step put) (Postfix-F.Slice p None (Some b) has None)
  postfix-Slice p None (Some b) has (Some c) = ap (put_postfix put) (sym (postfix.rolls-Slice p None (Some b) has (Some c))) ∙ fold-roll-Postfix (List X) (List X) (List X) (List X) (List X) (Declared X) (expr_step put) (postfix_step put) (type_step put) (entry_step put) (link_step put) (formal_step put) (Postfix-F.Slice p None (Some b) has (Some c))
  postfix-Slice p (Some a) None has None = ap (put_postfix put) (sym (postfix.rolls-Slice p (Some a) None has None)) ∙ fold-roll-Postfix (List X) (List X) (List X) (List X) (List X) (Declared X) (expr_step put) (postfix_step put) (type_step put) (entry_step put) (link_step put) (formal_step put) (Postfix-F.Slice p (Some a) None has None)
  postfix-Slice p (Some a) None has (Some c) = ap (put_postfix put) (sym (postfix.rolls-Slice p (Some a) None has (Some c))) ∙ fold-roll-Postfix (List X) (List X) (List X) (List X) (List X) (Declared X) (expr_step put) (postfix_step put) (type_step put) (entry_step put) (link_step put) (formal_step put) (Postfix-F.Slice p (Some a) None has (Some c))
  postfix-Slice p (Some a) (Some b) has None = ap (put_postfix put) (sym (postfix.rolls-Slice p (Some a) (Some b) has None)) ∙ fold-roll-Postfix (List X) (List X) (List X) (List X) (List X) (Declared X) (expr_step put) (postfix_step put) (type_step put) (entry_step put) (link_step put) (formal_step put) (Postfix-F.Slice p (Some a) (Some b) has None)
  postfix-Slice p (Some a) (Some b) has (Some c) = ap (put_postfix put) (sym (postfix.rolls-Slice p (Some a) (Some b) has (Some c))) ∙ fold-roll-Postfix (List X) (List X) (List X) (List X) (List X) (Declared X) (expr_step put) (postfix_step put) (type_step put) (entry_step put) (link_step put) (formal_step put) (Postfix-F.Slice p (Some a) (Some b) has (Some c))

  pub type-List : (p : Place) (size : Option Expr) (t : TypeTree) → put_type put (type.List p size t) ≡ kept put (Word ListWord) p ∷ put_size put (option_map (put_expr put) size) ++ put_type put t
  type-List p None t = ap (put_type put) (sym (type.rolls-List p None t)) ∙ fold-roll-TypeTree (List X) (List X) (List X) (List X) (List X) (Declared X) (expr_step put) (postfix_step put) (type_step put) (entry_step put) (link_step put) (formal_step put) (TypeTree-F.List p None t)
  type-List p (Some e) t = ap (put_type put) (sym (type.rolls-List p (Some e) t)) ∙ fold-roll-TypeTree (List X) (List X) (List X) (List X) (List X) (Declared X) (expr_step put) (postfix_step put) (type_step put) (entry_step put) (link_step put) (formal_step put) (TypeTree-F.List p (Some e) t)

  pub type-Chan : (p : Place) (way : Way) (t : Option TypeTree) → put_type put (type.Chan p way t) ≡ kept put (Word ChanWord) p ∷ put_way put way ++ put_carried put (option_map (put_type put) t)
  type-Chan p way None = ap (put_type put) (sym (type.rolls-Chan p way None)) ∙ fold-roll-TypeTree (List X) (List X) (List X) (List X) (List X) (Declared X) (expr_step put) (postfix_step put) (type_step put) (entry_step put) (link_step put) (formal_step put) (TypeTree-F.Chan p way None)
  type-Chan p way (Some t) = ap (put_type put) (sym (type.rolls-Chan p way (Some t))) ∙ fold-roll-TypeTree (List X) (List X) (List X) (List X) (List X) (Declared X) (expr_step put) (postfix_step put) (type_step put) (entry_step put) (link_step put) (formal_step put) (TypeTree-F.Chan p way (Some t))
