-- What a built tree shows, without its places, is what the tree without its places shows.
use Rattle.std.proofs.Common.{◌≡◌, true, false, [], ◌∷◌, Option, Some, None, map, refl, ap, ◌∙◌}
use Rattle.std.specs.Option.{option_map}
use Rattle.chi_grammar.specs.Rules.{leaf, node, pair, none}
use Rattle.chi_token.specs.declared.place.Place.{Place}
use Rattle.chi_tree.specs.declared.operator.Operator.TheVariants as operator
use Rattle.chi_tree.specs.declared.operator.PrefixSign.TheVariants as prefix
use Rattle.chi_tree.specs.declared.type_tree.TypeTree.{TypeTree}
use Rattle.chi_tree.specs.declared.type_tree.TypeTree.TheVariants as type
use Rattle.chi_tree.specs.declared.expr.Expr.{Expr}
use Rattle.chi_tree.specs.declared.expr.Expr.TheVariants as expr
use Rattle.chi_tree.specs.declared.expr.Postfix.TheVariants as postfix
use Rattle.chi_tree.specs.Parts as s
use Rattle.chi_tree.specs.View.{operator_shown, relation_shown, prefix_shown, cast_shown, type_word_shown, Built, nowhere, place_in, name_in, way_in, chained, parted, optional, called, no_expr, no_link, type_of, size_of, carried_of, formals_of, more_formals_of, formal_of, formal_in, expr_of, links_of, link_of, link_in, related, powered, postfixes_of, postfix_of, inside, indexed, sliced, stepped, arguments_of, exprs_of, more_exprs_of, bracketed, braced, entries_of, entry_of, blank}
use Rattle.chi_tree_laws.specs.Expressions.{link, entry, formal}
use Rattle.chi_tree_laws.specs.Unplaced.{unplaced_type, unplaced_formal, unplaced_expr, unplaced_postfix, unplaced_link, unplaced_entry}
use Rattle.chi_tree_laws.proofs.UnplacedBuilt.{unplaced_tree}
use Rattle.chi_tree_laws.proofs.UnplacedTrees.{without-Prefix, without-Relation, without-Power, without-Time, without-Cast, without-Round, without-TupleOf, without-ListOf, without-SetOf, without-DictOf, without-EmptyList, without-EmptySet, without-EmptyDict, without-Index, without-Slice, without-Field, without-Word, without-Defined, without-List, without-Set, without-Dist, without-Dict, without-Tuple, without-Chan, without-link, without-entry, without-formal}
use Rattle.chi_tree_laws.proofs.UnplacedParts.{shown_place, shown_name, shown_way, shown_optional, shown_literal, without-chained, without-parted, without-called}

-- what is shown of what no rule builds

pub no_expr_shown : unplaced_expr no_expr ≡ no_expr
no_expr_shown = without-Time nowhere

no_link_shown : unplaced_link no_link ≡ no_link
no_link_shown = without-link operator.Remainder nowhere no_expr ∙ ap (λ e. link operator.Remainder nowhere e) no_expr_shown

no_index_shown : (p : Place) → unplaced_postfix (postfix.Index p no_expr) ≡ postfix.Index nowhere no_expr
no_index_shown p = without-Index p no_expr ∙ ap (λ e. postfix.Index nowhere e) no_expr_shown

no_entry_shown : unplaced_entry (entry no_expr no_expr) ≡ entry no_expr no_expr
no_entry_shown = without-entry no_expr no_expr ∙ (λ i. entry (no_expr_shown i) (no_expr_shown i))

mutual
  pub shown_type : (t : Built) → unplaced_type (type_of t) ≡ type_of (unplaced_tree t)
  shown_type (node s.AnyType t) = shown_type t
  shown_type (node s.BuiltType t) = shown_type t
  shown_type (node s.NamedType t) = without-Defined (name_in t) ∙ ap type.Defined (shown_name t)
  shown_type (node s.WordType (leaf x)) = without-Word (type_word_shown x.token) x.place
  shown_type (node s.ListType (pair w (pair size t))) =
      without-List (place_in w) (size_of size) (type_of t) ∙ (λ i. type.List (shown_place w i) (shown_size size i) (shown_type t i))
  shown_type (node s.SetType (pair w t)) = without-Set (place_in w) (type_of t) ∙ (λ i. type.Set (shown_place w i) (shown_type t i))
  shown_type (node s.DistType (pair w t)) = without-Dist (place_in w) (type_of t) ∙ (λ i. type.Dist (shown_place w i) (shown_type t i))
  shown_type (node s.DictType (pair w (pair l (pair k (pair c (pair v r)))))) =
      without-Dict (place_in w) (type_of k) (type_of v) ∙ (λ i. type.Dict (shown_place w i) (shown_type k i) (shown_type v i))
  shown_type (node s.TupleType (pair w (pair l (pair f r)))) =
      without-Tuple (place_in w) (formals_of f) ∙ (λ i. type.Tuple (shown_place w i) (shown_formals f i))
  shown_type (node s.ChanType (pair w (pair way c))) =
      without-Chan (place_in w) (way_in way) (carried_of c) ∙ (λ i. type.Chan (shown_place w i) (shown_way way i) (shown_carried c i))
  shown_type _ = without-Defined (name_in none)

  pub shown_size : (t : Built) → option_map unplaced_expr (size_of t) ≡ size_of (unplaced_tree t)
  shown_size (pair l (pair e r)) = ap (λ e. Some e) (shown_expr e)
  shown_size _ = refl

  pub shown_carried : (t : Built) → option_map unplaced_type (carried_of t) ≡ carried_of (unplaced_tree t)
  shown_carried (node s.Carried (leaf x)) = refl
  shown_carried (node s.Carried t) = ap (λ t. Some t) (shown_type t)
  shown_carried _ = refl

  pub shown_formals : (t : Built) → map unplaced_formal (formals_of t) ≡ formals_of (unplaced_tree t)
  shown_formals (node s.Formals (pair t (pair n fs))) =
      ap (λ f. f ∷ map unplaced_formal (more_formals_of fs)) (without-formal (Some (type_of t)) (name_in n))
      ∙ (λ i. formal (Some (shown_type t i)) (shown_name n i) ∷ shown_more_formals fs i)
  shown_formals (node s.Fields (pair t (pair n (pair f fs)))) =
      ap (λ g. g ∷ unplaced_formal (formal_of f) ∷ map unplaced_formal (more_formals_of fs)) (without-formal (Some (type_of t)) (name_in n))
      ∙ (λ i. formal (Some (shown_type t i)) (shown_name n i) ∷ shown_formal f i ∷ shown_more_formals fs i)
  shown_formals _ = refl

  pub shown_more_formals : (t : Built) → map unplaced_formal (more_formals_of t) ≡ more_formals_of (unplaced_tree t)
  shown_more_formals (pair f fs) = λ i. shown_formal f i ∷ shown_more_formals fs i
  shown_more_formals _ = refl

  pub shown_formal : (t : Built) → unplaced_formal (formal_of t) ≡ formal_of (unplaced_tree t)
  shown_formal (node s.MoreFormal t) = shown_formal_in t
  shown_formal (node s.MoreField t) = shown_formal_in t
  shown_formal _ = without-formal None (name_in none)

  shown_formal_in : (t : Built) → unplaced_formal (formal_in t) ≡ formal_in (unplaced_tree t)
  shown_formal_in (pair c (pair t n)) =
      without-formal (Some (type_of t)) (name_in n) ∙ (λ i. formal (Some (shown_type t i)) (shown_name n i))
  shown_formal_in (pair c n) = without-formal None (name_in n) ∙ (λ i. formal None (shown_name n i))
  shown_formal_in _ = without-formal None (name_in none)

  pub shown_expr : (t : Built) → unplaced_expr (expr_of t) ≡ expr_of (unplaced_tree t)
  shown_expr (node s.Expr (pair e ls)) = without-chained (expr_of e) (links_of ls) ∙ (λ i. chained (shown_expr e i) (shown_links ls i))
  shown_expr (node s.Conj (pair e ls)) = without-chained (expr_of e) (links_of ls) ∙ (λ i. chained (shown_expr e i) (shown_links ls i))
  shown_expr (node s.Neg t) = shown_expr t
  shown_expr (node s.NotNeg (pair w e)) =
      without-Prefix prefix.Not (place_in w) (expr_of e) ∙ (λ i. expr.Prefix prefix.Not (shown_place w i) (shown_expr e i))
  shown_expr (node s.Rel (pair e more)) = shown_related (expr_of e) more ∙ (λ i. related (shown_expr e i) (unplaced_tree more))
  shown_expr (node s.Sum (pair e ls)) = without-chained (expr_of e) (links_of ls) ∙ (λ i. chained (shown_expr e i) (shown_links ls i))
  shown_expr (node s.Prod (pair e ls)) = without-chained (expr_of e) (links_of ls) ∙ (λ i. chained (shown_expr e i) (shown_links ls i))
  shown_expr (node s.Unary t) = shown_expr t
  shown_expr (node s.Prefixed (pair (leaf x) e)) =
      without-Prefix (prefix_shown x.token) x.place (expr_of e) ∙ (λ i. expr.Prefix (prefix_shown x.token) nowhere (shown_expr e i))
  shown_expr (node s.Power (pair e more)) = shown_powered (expr_of e) more ∙ (λ i. powered (shown_expr e i) (unplaced_tree more))
  shown_expr (node s.Post (pair e ps)) = without-parted (expr_of e) (postfixes_of ps) ∙ (λ i. parted (shown_expr e i) (shown_postfixes ps i))
  shown_expr (node s.Primary t) = shown_expr t
  shown_expr (node s.Literal (leaf x)) = shown_literal x.token x.place
  shown_expr (node s.Named (pair n more)) =
      without-called (name_in n) more (arguments_of more) ∙ (λ i. called (shown_name n i) (unplaced_tree more) (shown_arguments more i))
  shown_expr (node s.Cast (pair (leaf x) (pair l (pair e r)))) =
      without-Cast (cast_shown x.token) x.place (expr_of e) ∙ (λ i. expr.Cast (cast_shown x.token) nowhere (shown_expr e i))
  shown_expr (node s.Round (pair l (pair e (pair more r)))) =
      shown_bracketed (place_in l) (expr_of e) more ∙ (λ i. bracketed (shown_place l i) (shown_expr e i) (unplaced_tree more))
  shown_expr (node s.Square (pair l (pair es r))) =
      without-ListOf (place_in l) (exprs_of es) ∙ (λ i. expr.ListOf (shown_place l i) (shown_exprs es i))
  shown_expr (node s.Curly (pair l (pair e (pair more r)))) =
      shown_braced (place_in l) (expr_of e) more ∙ (λ i. braced (shown_place l i) (shown_expr e i) (unplaced_tree more))
  shown_expr (node s.Blank (pair l (pair t end))) =
      shown_blank (place_in l) (type_of t) end ∙ (λ i. blank (shown_place l i) (shown_type t i) (unplaced_tree end))
  shown_expr _ = no_expr_shown

  pub shown_links : (t : Built) → map unplaced_link (links_of t) ≡ links_of (unplaced_tree t)
  shown_links (pair l ls) = λ i. shown_link l i ∷ shown_links ls i
  shown_links _ = refl

  shown_link : (t : Built) → unplaced_link (link_of t) ≡ link_of (unplaced_tree t)
  shown_link (node s.OrLink t) = shown_link_in t
  shown_link (node s.AndLink t) = shown_link_in t
  shown_link (node s.SumLink t) = shown_link_in t
  shown_link (node s.ProdLink t) = shown_link_in t
  shown_link _ = no_link_shown

  shown_link_in : (t : Built) → unplaced_link (link_in t) ≡ link_in (unplaced_tree t)
  shown_link_in (pair (leaf x) e) =
      without-link (operator_shown x.token) x.place (expr_of e) ∙ (λ i. link (operator_shown x.token) nowhere (shown_expr e i))
  shown_link_in _ = no_link_shown

  shown_related : (e : Expr) (t : Built) → unplaced_expr (related e t) ≡ related (unplaced_expr e) (unplaced_tree t)
  shown_related e (node s.RelLink (pair (leaf x) f)) =
      without-Relation e (relation_shown x.token) x.place (expr_of f) ∙ (λ i. expr.Relation (unplaced_expr e) (relation_shown x.token) nowhere (shown_expr f i))
  shown_related e _ = refl

  shown_powered : (e : Expr) (t : Built) → unplaced_expr (powered e t) ≡ powered (unplaced_expr e) (unplaced_tree t)
  shown_powered e (node s.PowerLink (pair w f)) =
      without-Power e (place_in w) (expr_of f) ∙ (λ i. expr.Power (unplaced_expr e) (shown_place w i) (shown_expr f i))
  shown_powered e _ = refl

  pub shown_postfixes : (t : Built) → map unplaced_postfix (postfixes_of t) ≡ postfixes_of (unplaced_tree t)
  shown_postfixes (pair p ps) = λ i. shown_postfix p i ∷ shown_postfixes ps i
  shown_postfixes _ = refl

  pub shown_postfix : (t : Built) → unplaced_postfix (postfix_of t) ≡ postfix_of (unplaced_tree t)
  shown_postfix (node s.Postfix t) = shown_postfix t
  shown_postfix (node s.TargetStep t) = shown_postfix t
  shown_postfix (node s.Field (pair d n)) = without-Field (name_in n) ∙ ap postfix.Field (shown_name n)
  shown_postfix (node s.TargetIndex (pair l (pair e r))) =
      without-Index (place_in l) (expr_of e) ∙ (λ i. postfix.Index (shown_place l i) (shown_expr e i))
  shown_postfix (node s.Bracket (pair l (pair t r))) = shown_inside (place_in l) t ∙ (λ i. inside (shown_place l i) (unplaced_tree t))
  shown_postfix _ = without-Field (name_in none)

  shown_inside : (p : Place) (t : Built) → unplaced_postfix (inside p t) ≡ inside nowhere (unplaced_tree t)
  shown_inside p (node s.Inside (pair e more)) = shown_indexed p (expr_of e) more ∙ (λ i. indexed nowhere (shown_expr e i) (unplaced_tree more))
  shown_inside p (node s.Inside (node s.Upto t)) = shown_sliced p None t
  shown_inside p _ = no_index_shown p

  shown_indexed : (p : Place) (e : Expr) (t : Built) → unplaced_postfix (indexed p e t) ≡ indexed nowhere (unplaced_expr e) (unplaced_tree t)
  shown_indexed p e (node s.Upto t) = shown_sliced p (Some e) t
  shown_indexed p e _ = without-Index p e

  shown_sliced : (p : Place) (from : Option Expr) (t : Built)
      → unplaced_postfix (sliced p from t) ≡ sliced nowhere (option_map unplaced_expr from) (unplaced_tree t)
  shown_sliced p from (pair c (pair e more)) =
      shown_stepped p from (optional e (expr_of e)) more
      ∙ (λ i. stepped nowhere (option_map unplaced_expr from) (shown_optional unplaced_expr e (expr_of e) (expr_of (unplaced_tree e)) (shown_expr e) i) (unplaced_tree more))
  shown_sliced p from _ = without-Slice p from None false None

  shown_stepped : (p : Place) (from upto : Option Expr) (t : Built)
      → unplaced_postfix (stepped p from upto t) ≡ stepped nowhere (option_map unplaced_expr from) (option_map unplaced_expr upto) (unplaced_tree t)
  shown_stepped p from upto (node s.ByStep (pair c e)) =
      without-Slice p from upto true (optional e (expr_of e))
      ∙ (λ i. postfix.Slice nowhere (option_map unplaced_expr from) (option_map unplaced_expr upto) true (shown_optional unplaced_expr e (expr_of e) (expr_of (unplaced_tree e)) (shown_expr e) i))
  shown_stepped p from upto _ = without-Slice p from upto false None

  pub shown_arguments : (t : Built) → map unplaced_expr (arguments_of t) ≡ arguments_of (unplaced_tree t)
  shown_arguments (node s.Arguments (pair l (pair es r))) = shown_exprs es
  shown_arguments _ = refl

  pub shown_exprs : (t : Built) → map unplaced_expr (exprs_of t) ≡ exprs_of (unplaced_tree t)
  shown_exprs (node s.Exprs (pair e es)) = λ i. shown_expr e i ∷ shown_more_exprs es i
  shown_exprs _ = refl

  pub shown_more_exprs : (t : Built) → map unplaced_expr (more_exprs_of t) ≡ more_exprs_of (unplaced_tree t)
  shown_more_exprs (pair (pair c e) es) = λ i. shown_expr e i ∷ shown_more_exprs es i
  shown_more_exprs _ = refl

  shown_bracketed : (p : Place) (e : Expr) (t : Built) → unplaced_expr (bracketed p e t) ≡ bracketed nowhere (unplaced_expr e) (unplaced_tree t)
  shown_bracketed p e (node s.Others (pair c es)) =
      without-TupleOf p (e ∷ exprs_of es) ∙ (λ i. expr.TupleOf nowhere (unplaced_expr e ∷ shown_exprs es i))
  shown_bracketed p e _ = without-Round p e

  shown_braced : (p : Place) (e : Expr) (t : Built) → unplaced_expr (braced p e t) ≡ braced nowhere (unplaced_expr e) (unplaced_tree t)
  shown_braced p e (node s.Contents t) = shown_braced p e t
  shown_braced p e (node s.Others (pair c es)) =
      without-SetOf p (e ∷ exprs_of es) ∙ (λ i. expr.SetOf nowhere (unplaced_expr e ∷ shown_exprs es i))
  shown_braced p e (node s.Entries (pair c (pair v es))) =
      without-DictOf p (entry e (expr_of v) ∷ entries_of es)
      ∙ ap (λ x. expr.DictOf nowhere (x ∷ map unplaced_entry (entries_of es))) (without-entry e (expr_of v))
      ∙ (λ i. expr.DictOf nowhere (entry (unplaced_expr e) (shown_expr v i) ∷ shown_entries es i))
  shown_braced p e _ = without-SetOf p (e ∷ [])

  shown_entries : (t : Built) → map unplaced_entry (entries_of t) ≡ entries_of (unplaced_tree t)
  shown_entries (pair x xs) = λ i. shown_entry x i ∷ shown_entries xs i
  shown_entries _ = refl

  shown_entry : (t : Built) → unplaced_entry (entry_of t) ≡ entry_of (unplaced_tree t)
  shown_entry (node s.MoreEntry (pair c (pair k (pair d v)))) =
      without-entry (expr_of k) (expr_of v) ∙ (λ i. entry (shown_expr k i) (shown_expr v i))
  shown_entry _ = no_entry_shown

  shown_blank : (p : Place) (ty : TypeTree) (t : Built) → unplaced_expr (blank p ty t) ≡ blank nowhere (unplaced_type ty) (unplaced_tree t)
  shown_blank p ty (node s.BlankEnd u) = shown_blank p ty u
  shown_blank p ty (pair w (node s.BlankItems u)) = without-EmptyList p ty
  shown_blank p ty (pair w (node s.BlankElements u)) = without-EmptySet p ty
  shown_blank p ty (pair w (pair v end)) =
      without-EmptyDict p ty (type_of v) ∙ (λ i. expr.EmptyDict nowhere (unplaced_type ty) (shown_type v i))
  shown_blank p ty _ = no_expr_shown
