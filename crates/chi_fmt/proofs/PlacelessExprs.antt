-- The spots of a formed expression or type are those of the same without its places.
use Rattle.std.proofs.Common.{◌≡◌, ℕ, true, false, List, [], ◌∷◌, ◌++◌, Option, Some, None, map, refl, ap, sym, ◌∙◌}
use Rattle.std.specs.Option.{option_map}
use Rattle.chi_token.specs.declared.keyword.Keyword.TheVariants.{ChanWord, DictWord, DistWord, ListWord, SetWord, TupleWord}
use Rattle.chi_token.specs.declared.place.Place.{Place}
use Rattle.chi_token.specs.declared.sign.Sign.TheVariants.{Caret, Colon}
use Rattle.chi_tree.specs.declared.operator.Operator.{Operator}
use Rattle.chi_tree.specs.declared.operator.Operator.TheVariants as operator
use Rattle.chi_tree.specs.declared.operator.PrefixSign.{PrefixSign}
use Rattle.chi_tree.specs.declared.operator.PrefixSign.TheVariants as prefix
use Rattle.chi_tree.specs.declared.type_tree.Name.{Name}
use Rattle.chi_tree.specs.declared.type_tree.TypeTree.{TypeTree}
use Rattle.chi_tree.specs.declared.type_tree.Formal.{Formal}
use Rattle.chi_tree.specs.declared.expr.Expr.{Expr}
use Rattle.chi_tree.specs.declared.expr.Expr.TheVariants as expr
use Rattle.chi_tree.specs.declared.expr.Link.{Link}
use Rattle.chi_tree.specs.declared.expr.Entry.{Entry}
use Rattle.chi_tree.specs.declared.expr.Postfix.{Postfix}
use Rattle.chi_tree.specs.View.{nowhere, chained, parted}
use Rattle.chi_tree_spell.specs.Words.{operator_token, relation_token, cast_token, all}
use Rattle.chi_tree_spell.specs.Expressions.{declared_formals, put_name, put_commas, put_round, put_square, put_curly, put_size, put_way, put_carried}
use Rattle.chi_tree_laws.specs.Levels.{Level}
use Rattle.chi_tree_laws.specs.Expressions.{FormedType, FormedFormals, MoreFormals, FormedExpr, FormedLinks, FormedPostfix, FormedPostfixes, FormedIfAny, FormedExprs, FormedEntries, formal, link, entry}
use Rattle.chi_tree_laws.specs.Expressions as formed
use Rattle.chi_tree_laws.specs.Unplaced.{unplaced_name, unplaced_expr, unplaced_postfix, unplaced_type, unplaced_entry, unplaced_link, unplaced_formal}
use Rattle.chi_tree_laws.proofs.UnplacedTrees as without
use Rattle.chi_fmt.specs.Expressions.{usual, opening, closing, prefix_spot, expr_spots, link_spots, postfix_spots, entry_spots, type_spots, formal_spots}
use Rattle.chi_fmt.specs.Parts.{word, sign}
use Rattle.chi_fmt.proofs.SpotsIn as spots

-- chains and parts

chain-same : (e : Expr) (ls : List Link) → expr_spots (unplaced_expr e) ≡ expr_spots e → map link_spots (map unplaced_link ls) ≡ map link_spots ls
    → expr_spots (unplaced_expr (chained e ls)) ≡ expr_spots (chained e ls)
chain-same e [] s r = s
chain-same e (l ∷ ls) s r =
    ap expr_spots (without.without-Chain e (l ∷ ls)) ∙ spots.expr-Chain (unplaced_expr e) (map unplaced_link (l ∷ ls))
    ∙ (λ i. s i ++ all (r i)) ∙ sym (spots.expr-Chain e (l ∷ ls))

part-same : (e : Expr) (ps : List Postfix) → expr_spots (unplaced_expr e) ≡ expr_spots e → map postfix_spots (map unplaced_postfix ps) ≡ map postfix_spots ps
    → expr_spots (unplaced_expr (parted e ps)) ≡ expr_spots (parted e ps)
part-same e [] s r = s
part-same e (p ∷ ps) s r =
    ap expr_spots (without.without-Part e (p ∷ ps)) ∙ spots.expr-Part (unplaced_expr e) (map unplaced_postfix (p ∷ ps))
    ∙ (λ i. s i ++ all (r i)) ∙ sym (spots.expr-Part e (p ∷ ps))

link-same : (o : Operator) (p : Place) (e : Expr) → expr_spots (unplaced_expr e) ≡ expr_spots e → link_spots (unplaced_link (link o p e)) ≡ link_spots (link o p e)
link-same o p e s =
    ap link_spots (without.without-link o p e) ∙ spots.link-tokens (link o nowhere (unplaced_expr e))
    ∙ ap (λ xs. usual (operator_token o) None ∷ xs) s ∙ sym (spots.link-tokens (link o p e))

entry-same : (k v : Expr) → expr_spots (unplaced_expr k) ≡ expr_spots k → expr_spots (unplaced_expr v) ≡ expr_spots v
    → entry_spots (unplaced_entry (entry k v)) ≡ entry_spots (entry k v)
entry-same k v s r =
    ap entry_spots (without.without-entry k v) ∙ spots.entry-tokens (entry (unplaced_expr k) (unplaced_expr v))
    ∙ (λ i. s i ++ sign Colon ∷ r i) ∙ sym (spots.entry-tokens (entry k v))

formal-same : (t : TypeTree) (n : Name) → type_spots (unplaced_type t) ≡ type_spots t → formal_spots (unplaced_formal (formal (Some t) n)) ≡ formal_spots (formal (Some t) n)
formal-same t n s =
    ap formal_spots (without.without-formal (Some t) n) ∙ spots.formal-typed (unplaced_type t) (unplaced_name n)
    ∙ (λ i. record { ty = Some (s i); name = put_name usual n }) ∙ sym (spots.formal-typed t n)

bare-same : (n : Name) → formal_spots (unplaced_formal (formal None n)) ≡ formal_spots (formal None n)
bare-same n = ap formal_spots (without.without-formal None n) ∙ spots.formal-bare (unplaced_name n) ∙ sym (spots.formal-bare n)

prefix-same : (w : PrefixSign) (p : Place) (e : Expr) → expr_spots (unplaced_expr e) ≡ expr_spots e
    → expr_spots (unplaced_expr (expr.Prefix w p e)) ≡ expr_spots (expr.Prefix w p e)
prefix-same w p e s =
    ap expr_spots (without.without-Prefix w p e) ∙ spots.expr-Prefix w nowhere (unplaced_expr e) ∙ ap (λ xs. prefix_spot w ∷ xs) s ∙ sym (spots.expr-Prefix w p e)

mutual
  pub type-same : {d : ℕ} {t : TypeTree} → FormedType d t → type_spots (unplaced_type t) ≡ type_spots t
  type-same (formed.word {word = w} {place = p}) = ap type_spots (without.without-Word w p) ∙ spots.type-Word w nowhere ∙ sym (spots.type-Word w p)
  type-same (formed.named {name = n}) = ap type_spots (without.without-Defined n) ∙ spots.type-Defined (unplaced_name n) ∙ sym (spots.type-Defined n)
  type-same (formed.list {place = p} {t = t} h) =
      ap type_spots (without.without-List p None t) ∙ spots.type-List nowhere None (unplaced_type t)
      ∙ ap (λ xs. word ListWord ∷ put_size usual None ++ xs) (type-same h) ∙ sym (spots.type-List p None t)
  type-same (formed.sized_list {place = p} {e = e} {t = t} j h) =
      ap type_spots (without.without-List p (Some e) t) ∙ spots.type-List nowhere (Some (unplaced_expr e)) (unplaced_type t)
      ∙ (λ i. word ListWord ∷ put_size usual (Some (expr-same j i)) ++ type-same h i) ∙ sym (spots.type-List p (Some e) t)
  type-same (formed.set {place = p} {t = t} h) =
      ap type_spots (without.without-Set p t) ∙ spots.type-Set nowhere (unplaced_type t) ∙ ap (λ xs. word SetWord ∷ xs) (type-same h) ∙ sym (spots.type-Set p t)
  type-same (formed.dist {place = p} {t = t} h) =
      ap type_spots (without.without-Dist p t) ∙ spots.type-Dist nowhere (unplaced_type t) ∙ ap (λ xs. word DistWord ∷ xs) (type-same h) ∙ sym (spots.type-Dist p t)
  type-same (formed.dict {place = p} {k = k} {v = v} h j) =
      ap type_spots (without.without-Dict p k v) ∙ spots.type-Dict nowhere (unplaced_type k) (unplaced_type v)
      ∙ (λ i. word DictWord ∷ put_round usual (type-same h i ++ sign Colon ∷ type-same j i)) ∙ sym (spots.type-Dict p k v)
  type-same (formed.tuple {place = p} {first = f} {second = g} {more = fs} h) =
      ap type_spots (without.without-Tuple p (f ∷ g ∷ fs)) ∙ spots.type-Tuple nowhere (map unplaced_formal (f ∷ g ∷ fs))
      ∙ ap (λ ds. word TupleWord ∷ put_round usual (declared_formals usual ds)) (formals-same h) ∙ sym (spots.type-Tuple p (f ∷ g ∷ fs))
  type-same (formed.void {place = p} {way = w}) =
      ap type_spots (without.without-Chan p w None) ∙ spots.type-Chan nowhere w None ∙ sym (spots.type-Chan p w None)
  type-same (formed.chan {place = p} {way = w} {t = t} h) =
      ap type_spots (without.without-Chan p w (Some t)) ∙ spots.type-Chan nowhere w (Some (unplaced_type t))
      ∙ ap (λ xs. word ChanWord ∷ put_way usual w ++ put_carried usual (Some xs)) (type-same h) ∙ sym (spots.type-Chan p w (Some t))

  pub formals-same : {d : ℕ} {fs : List Formal} → FormedFormals d fs → map formal_spots (map unplaced_formal fs) ≡ map formal_spots fs
  formals-same (formed.formals {t = t} {name = n} h hs) = λ i. formal-same t n (type-same h) i ∷ more-same hs i

  more-same : {d : ℕ} {fs : List Formal} → MoreFormals d fs → map formal_spots (map unplaced_formal fs) ≡ map formal_spots fs
  more-same formed.no_more = refl
  more-same (formed.comma {name = n} hs) = λ i. bare-same n i ∷ more-same hs i
  more-same (formed.semicolon {t = t} {name = n} h hs) = λ i. formal-same t n (type-same h) i ∷ more-same hs i

  pub expr-same : {level : Level} {d : ℕ} {e : Expr} → FormedExpr level d e → expr_spots (unplaced_expr e) ≡ expr_spots e
  expr-same (formed.disjunction {e = e} {links = ls} h hs) = chain-same e ls (expr-same h) (links-same hs)
  expr-same (formed.conjunction {e = e} {links = ls} h hs) = chain-same e ls (expr-same h) (links-same hs)
  expr-same (formed.negation {place = p} {e = e} h) = prefix-same prefix.Not p e (expr-same h)
  expr-same (formed.no_negation h) = expr-same h
  expr-same (formed.relation {sign = w} {place = p} {e = e} {f = f} h j) =
      ap expr_spots (without.without-Relation e w p f) ∙ spots.expr-Relation (unplaced_expr e) w nowhere (unplaced_expr f)
      ∙ (λ i. expr-same h i ++ usual (relation_token w) None ∷ expr-same j i) ∙ sym (spots.expr-Relation e w p f)
  expr-same (formed.no_relation h) = expr-same h
  expr-same (formed.sum {e = e} {links = ls} h hs) = chain-same e ls (expr-same h) (links-same hs)
  expr-same (formed.product {e = e} {links = ls} h hs) = chain-same e ls (expr-same h) (links-same hs)
  expr-same (formed.prefixed {sign = w} {place = p} {e = e} is h) = prefix-same w p e (expr-same h)
  expr-same (formed.no_prefix h) = expr-same h
  expr-same (formed.power {place = p} {e = e} {f = f} h j) =
      ap expr_spots (without.without-Power e p f) ∙ spots.expr-Power (unplaced_expr e) nowhere (unplaced_expr f)
      ∙ (λ i. expr-same h i ++ sign Caret ∷ expr-same j i) ∙ sym (spots.expr-Power e p f)
  expr-same (formed.no_power h) = expr-same h
  expr-same (formed.post {e = e} {postfixes = ps} h hs) = part-same e ps (expr-same h) (postfixes-same hs)
  expr-same (formed.int {digits = x} {place = p}) = ap expr_spots (without.without-Int x p) ∙ spots.expr-Int x nowhere ∙ sym (spots.expr-Int x p)
  expr-same (formed.real {digits = x} {place = p}) = ap expr_spots (without.without-Real x p) ∙ spots.expr-Real x nowhere ∙ sym (spots.expr-Real x p)
  expr-same (formed.text {text = x} {place = p}) = ap expr_spots (without.without-Text x p) ∙ spots.expr-Text x nowhere ∙ sym (spots.expr-Text x p)
  expr-same (formed.bool {truth = x} {place = p}) = ap expr_spots (without.without-Bool x p) ∙ spots.expr-Bool x nowhere ∙ sym (spots.expr-Bool x p)
  expr-same (formed.time {place = p}) = ap expr_spots (without.without-Time p) ∙ spots.expr-Time nowhere ∙ sym (spots.expr-Time p)
  expr-same (formed.name {name = n}) = ap expr_spots (without.without-Named n) ∙ spots.expr-Named (unplaced_name n) ∙ sym (spots.expr-Named n)
  expr-same (formed.call {name = n} {es = es} hs) =
      ap expr_spots (without.without-Call n es) ∙ spots.expr-Call (unplaced_name n) (map unplaced_expr es)
      ∙ ap (λ xs. put_name usual n ∷ put_round usual (put_commas usual xs)) (exprs-same hs) ∙ sym (spots.expr-Call n es)
  expr-same (formed.cast {word = w} {place = p} {e = e} h) =
      ap expr_spots (without.without-Cast w p e) ∙ spots.expr-Cast w nowhere (unplaced_expr e)
      ∙ ap (λ xs. usual (cast_token w) None ∷ put_round usual xs) (expr-same h) ∙ sym (spots.expr-Cast w p e)
  expr-same (formed.round {place = p} {e = e} h) =
      ap expr_spots (without.without-Round p e) ∙ spots.expr-Round nowhere (unplaced_expr e) ∙ ap (put_round usual) (expr-same h) ∙ sym (spots.expr-Round p e)
  expr-same (formed.tuple_of {place = p} {e = e} {f = f} {es = es} hs) =
      ap expr_spots (without.without-TupleOf p (e ∷ f ∷ es)) ∙ spots.expr-TupleOf nowhere (map unplaced_expr (e ∷ f ∷ es))
      ∙ ap (λ xs. put_round usual (put_commas usual xs)) (exprs-same hs) ∙ sym (spots.expr-TupleOf p (e ∷ f ∷ es))
  expr-same (formed.list_of {place = p} {e = e} {es = es} hs) =
      ap expr_spots (without.without-ListOf p (e ∷ es)) ∙ spots.expr-ListOf nowhere (map unplaced_expr (e ∷ es))
      ∙ ap (λ xs. put_square usual (put_commas usual xs)) (exprs-same hs) ∙ sym (spots.expr-ListOf p (e ∷ es))
  expr-same (formed.set_of {place = p} {e = e} {es = es} hs) =
      ap expr_spots (without.without-SetOf p (e ∷ es)) ∙ spots.expr-SetOf nowhere (map unplaced_expr (e ∷ es))
      ∙ ap (λ xs. put_curly usual (put_commas usual xs)) (exprs-same hs) ∙ sym (spots.expr-SetOf p (e ∷ es))
  expr-same (formed.dict_of {place = p} {e = e} {es = es} hs) =
      ap expr_spots (without.without-DictOf p (e ∷ es)) ∙ spots.expr-DictOf nowhere (map unplaced_entry (e ∷ es))
      ∙ ap (λ xs. put_curly usual (put_commas usual xs)) (entries-same hs) ∙ sym (spots.expr-DictOf p (e ∷ es))
  expr-same (formed.empty_list {place = p} {t = t} h) =
      ap expr_spots (without.without-EmptyList p t) ∙ spots.expr-EmptyList nowhere (unplaced_type t)
      ∙ ap (λ xs. opening ∷ xs ++ closing ∷ put_square usual []) (type-same h) ∙ sym (spots.expr-EmptyList p t)
  expr-same (formed.empty_set {place = p} {t = t} h) =
      ap expr_spots (without.without-EmptySet p t) ∙ spots.expr-EmptySet nowhere (unplaced_type t)
      ∙ ap (λ xs. opening ∷ xs ++ closing ∷ put_curly usual []) (type-same h) ∙ sym (spots.expr-EmptySet p t)
  expr-same (formed.empty_dict {place = p} {k = k} {v = v} h j) =
      ap expr_spots (without.without-EmptyDict p k v) ∙ spots.expr-EmptyDict nowhere (unplaced_type k) (unplaced_type v)
      ∙ (λ i. opening ∷ type-same h i ++ sign Colon ∷ type-same j i ++ closing ∷ put_curly usual []) ∙ sym (spots.expr-EmptyDict p k v)

  links-same : {level : Level} {d : ℕ} {ls : List Link} → FormedLinks level d ls → map link_spots (map unplaced_link ls) ≡ map link_spots ls
  links-same formed.no_links = refl
  links-same (formed.or_link {place = p} {e = e} h hs) = λ i. link-same operator.Or p e (expr-same h) i ∷ links-same hs i
  links-same (formed.and_link {place = p} {e = e} h hs) = λ i. link-same operator.And p e (expr-same h) i ∷ links-same hs i
  links-same (formed.sum_link {operator = o} {place = p} {e = e} is h hs) = λ i. link-same o p e (expr-same h) i ∷ links-same hs i
  links-same (formed.product_link {operator = o} {place = p} {e = e} is h hs) = λ i. link-same o p e (expr-same h) i ∷ links-same hs i

  pub postfixes-same : {d : ℕ} {ps : List Postfix} → FormedPostfixes d ps → map postfix_spots (map unplaced_postfix ps) ≡ map postfix_spots ps
  postfixes-same formed.no_postfixes = refl
  postfixes-same (formed.postfixes h hs) = λ i. postfix-same h i ∷ postfixes-same hs i

  pub postfix-same : {d : ℕ} {p : Postfix} → FormedPostfix d p → postfix_spots (unplaced_postfix p) ≡ postfix_spots p
  postfix-same (formed.index {place = p} {e = e} h) =
      ap postfix_spots (without.without-Index p e) ∙ spots.postfix-Index nowhere (unplaced_expr e) ∙ ap (put_square usual) (expr-same h) ∙ sym (spots.postfix-Index p e)
  postfix-same (formed.slice {place = p} {from = a} {upto = c} h j) =
      ap postfix_spots (without.without-Slice p a c false None) ∙ spots.postfix-Slice nowhere (option_map unplaced_expr a) (option_map unplaced_expr c) false None
      ∙ (λ i. put_square usual (if-same h i ++ sign Colon ∷ if-same j i ++ [])) ∙ sym (spots.postfix-Slice p a c false None)
  postfix-same (formed.slice_by {place = p} {from = a} {upto = c} {by = by} h j k) =
      ap postfix_spots (without.without-Slice p a c true by)
      ∙ spots.postfix-Slice nowhere (option_map unplaced_expr a) (option_map unplaced_expr c) true (option_map unplaced_expr by)
      ∙ (λ i. put_square usual (if-same h i ++ sign Colon ∷ if-same j i ++ sign Colon ∷ if-same k i)) ∙ sym (spots.postfix-Slice p a c true by)
  postfix-same (formed.field {name = n}) =
      ap postfix_spots (without.without-Field n) ∙ spots.postfix-Field (unplaced_name n) ∙ sym (spots.postfix-Field n)

  -- what may be left out
  pub if-same : {d : ℕ} {e : Option Expr} → FormedIfAny d e → spots.spots_if (option_map unplaced_expr e) ≡ spots.spots_if e
  if-same formed.left_out = refl
  if-same (formed.given h) = expr-same h

  pub exprs-same : {d : ℕ} {es : List Expr} → FormedExprs d es → map expr_spots (map unplaced_expr es) ≡ map expr_spots es
  exprs-same formed.no_exprs = refl
  exprs-same (formed.exprs h hs) = λ i. expr-same h i ∷ exprs-same hs i

  entries-same : {d : ℕ} {es : List Entry} → FormedEntries d es → map entry_spots (map unplaced_entry es) ≡ map entry_spots es
  entries-same formed.no_entries = refl
  entries-same (formed.entries {k = k} {v = v} h j hs) = λ i. entry-same k v (expr-same h) (expr-same j) i ∷ entries-same hs i
