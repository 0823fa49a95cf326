-- The places that the marks of an expression or a type keep are all its places: put in anew from places that fit they make
-- the same tree.
use Rattle.std.proofs.Common.{ℕ, true, false, List, [], ◌∷◌, Option, Some, None, map, ap}
use Rattle.std.specs.Option.{option_map}
use Rattle.chi_token.specs.declared.sign.Sign.TheVariants.{Comma}
use Rattle.chi_token.specs.declared.token.Token.TheVariants.{Sign}
use Rattle.chi_tree.specs.declared.operator.Operator.TheVariants as operator
use Rattle.chi_tree.specs.declared.operator.PrefixSign.TheVariants as prefix
use Rattle.chi_tree.specs.declared.type_tree.Name.{Name}
use Rattle.chi_tree.specs.declared.type_tree.TypeTree.{TypeTree}
use Rattle.chi_tree.specs.declared.type_tree.Formal.{Formal}
use Rattle.chi_tree.specs.declared.type_tree.Way.{Way}
use Rattle.chi_tree.specs.declared.type_tree.Way.TheVariants as way
use Rattle.chi_tree.specs.declared.expr.Expr.{Expr}
use Rattle.chi_tree.specs.declared.expr.Link.{Link}
use Rattle.chi_tree.specs.declared.expr.Entry.{Entry}
use Rattle.chi_tree.specs.declared.expr.Postfix.{Postfix}
use Rattle.chi_tree.specs.View.{chained, parted}
use Rattle.chi_tree_spell.specs.Expressions.{put_expr, put_postfix, put_type, put_entry, put_link, put_declared, put_further, declared_formals, put_way}
use Rattle.chi_tree_spell.specs.Marks.{mark}
use Rattle.chi_tree_spell.specs.Words.{if_any, all, each_after, separated}
use Rattle.chi_tree_spell.proofs.ExprTokens as spelled
use Rattle.chi_tree_laws.specs.Levels.{Level}
use Rattle.chi_tree_laws.specs.Expressions.{FormedType, FormedFormals, MoreFormals, FormedExpr, FormedLinks, FormedPostfix, FormedPostfixes, FormedIfAny, FormedExprs, FormedEntries}
use Rattle.chi_tree_laws.specs.Expressions as formed
use Rattle.chi_tree_laws.specs.Unplaced.{unplaced_expr, unplaced_postfix, unplaced_entry, unplaced_link, unplaced_formal}
use Rattle.chi_tree_laws.proofs.Readers.{each, after_each, between, optional, Gives, gives-done, gives-keep, gives-pass, gives-bind, gives-last, gives_as, gives-more, gives-after_more, gives-between}
use Rattle.chi_tree_laws.proofs.Refilled.{further, formals, way_reader, refilled_expr, refilled_postfix, refilled_type, refilled_entry, refilled_link, refilled_formal, again_expr, again_postfix, again_type, again_entry, again_link, again_formal}
use Rattle.chi_tree_laws.proofs.Refilled as again

-- a tree is made again of its places

abbrev pub TypeAgain : TypeTree → Type 0
TypeAgain t = Gives (again_type t) (put_type mark t) t

abbrev pub ExprAgain : Expr → Type 0
ExprAgain e = Gives (again_expr e) (put_expr mark e) e

abbrev pub PostfixAgain : Postfix → Type 0
PostfixAgain p = Gives (again_postfix p) (put_postfix mark p) p

abbrev pub LinkAgain : Link → Type 0
LinkAgain l = Gives (again_link l) (put_link mark l) l

abbrev pub EntryAgain : Entry → Type 0
EntryAgain e = Gives (again_entry e) (put_entry mark e) e

-- lists of them

abbrev pub LinksAgain : List Link → Type 0
LinksAgain ls = Gives (each (map refilled_link (map unplaced_link ls))) (all (map (put_link mark) ls)) ls

abbrev pub PostfixesAgain : List Postfix → Type 0
PostfixesAgain ps = Gives (each (map refilled_postfix (map unplaced_postfix ps))) (all (map (put_postfix mark) ps)) ps

abbrev pub ExprsAgain : List Expr → Type 0
ExprsAgain es = Gives (between (map refilled_expr (map unplaced_expr es))) (separated (mark (Sign Comma) None) (map (put_expr mark) es)) es

abbrev pub ExprsAfter : List Expr → Type 0
ExprsAfter es = Gives (after_each (map refilled_expr (map unplaced_expr es))) (each_after (mark (Sign Comma) None) (map (put_expr mark) es)) es

abbrev EntriesAgain : List Entry → Type 0
EntriesAgain es = Gives (between (map refilled_entry (map unplaced_entry es))) (separated (mark (Sign Comma) None) (map (put_entry mark) es)) es

abbrev EntriesAfter : List Entry → Type 0
EntriesAfter es = Gives (after_each (map refilled_entry (map unplaced_entry es))) (each_after (mark (Sign Comma) None) (map (put_entry mark) es)) es

abbrev pub IfAnyAgain : Option Expr → Type 0
IfAnyAgain e = Gives (optional (option_map refilled_expr (option_map unplaced_expr e))) (if_any (option_map (put_expr mark) e)) e

abbrev pub FormalsAgain : List Formal → Type 0
FormalsAgain fs = Gives (formals (map refilled_formal (map unplaced_formal fs))) (declared_formals mark (map (put_declared mark) fs)) fs

abbrev MoreAgain : List Formal → Type 0
MoreAgain fs = Gives (each (map further (map refilled_formal (map unplaced_formal fs)))) (all (map (put_further mark) (map (put_declared mark) fs))) fs

-- by their parts

link_again : (l : Link) → ExprAgain l.operand → LinkAgain l
link_again l h = gives_as (again.link-in l) (spelled.link-tokens mark l) (gives-keep _ l.place _ (gives-last _ h))

entry_again : (k v : Expr) → ExprAgain k → ExprAgain v → EntryAgain (formed.entry k v)
entry_again k v h j = gives_as (again.entry-in k v) (spelled.entry-tokens mark (formed.entry k v)) (gives-bind _ h (gives-pass _ (gives-last _ j)))

chain_again : (e : Expr) (ls : List Link) → ExprAgain e → LinksAgain ls → ExprAgain (chained e ls)
chain_again e [] h hs = h
chain_again e (l ∷ ls) h hs = gives_as (again.expr-Chain e (l ∷ ls)) (spelled.expr-Chain mark e (l ∷ ls)) (gives-bind _ h (gives-last _ hs))

part_again : (e : Expr) (ps : List Postfix) → ExprAgain e → PostfixesAgain ps → ExprAgain (parted e ps)
part_again e [] h hs = h
part_again e (p ∷ ps) h hs = gives_as (again.expr-Part e (p ∷ ps)) (spelled.expr-Part mark e (p ∷ ps)) (gives-bind _ h (gives-last _ hs))

way_again : (w : Way) → Gives (way_reader w) (put_way mark w) tt
way_again way.Both = gives-done tt
way_again way.Send = gives-pass _ (gives-done tt)
way_again way.Receive = gives-pass _ (gives-done tt)

bare_again : (n : Name) → Gives (further (again_formal (formed.formal None n))) (put_further mark (put_declared mark (formed.formal None n))) (formed.formal None n)
bare_again n =
    gives_as (ap further (again.formal-bare n)) (ap (put_further mark) (spelled.formal-bare mark n))
    (gives-pass _ (gives-bind _ (gives-done None) (gives-keep _ n.place _ (gives-done _))))

typed_again : (t : TypeTree) (n : Name) → TypeAgain t
    → Gives (further (again_formal (formed.formal (Some t) n))) (put_further mark (put_declared mark (formed.formal (Some t) n))) (formed.formal (Some t) n)
typed_again t n h =
    gives_as (ap further (again.formal-typed t n)) (ap (put_further mark) (spelled.formal-typed mark t n))
    (gives-pass _ (gives-bind _ (gives-last _ h) (gives-keep _ n.place _ (gives-done _))))

first_again : (t : TypeTree) (n : Name) (fs : List Formal) → TypeAgain t → MoreAgain fs → FormalsAgain (formed.formal (Some t) n ∷ fs)
first_again t n fs h hs =
    gives_as (ap (λ d. formals (d ∷ map refilled_formal (map unplaced_formal fs))) (again.formal-typed t n))
    (ap (λ d. declared_formals mark (d ∷ map (put_declared mark) fs)) (spelled.formal-typed mark t n))
    (gives-bind _ (gives-last _ h) (gives-keep _ n.place _ (gives-last _ hs)))

links_more : (l : Link) (ls : List Link) → LinkAgain l → LinksAgain ls → LinksAgain (l ∷ ls)
links_more l ls h hs = gives-more (map refilled_link (map unplaced_link ls)) (map (put_link mark) ls) h hs

postfixes_more : (p : Postfix) (ps : List Postfix) → PostfixAgain p → PostfixesAgain ps → PostfixesAgain (p ∷ ps)
postfixes_more p ps h hs = gives-more (map refilled_postfix (map unplaced_postfix ps)) (map (put_postfix mark) ps) h hs

formals_more : (f : Formal) (fs : List Formal) → Gives (further (again_formal f)) (put_further mark (put_declared mark f)) f → MoreAgain fs
    → MoreAgain (f ∷ fs)
formals_more f fs h hs =
    gives-more (map further (map refilled_formal (map unplaced_formal fs))) (map (put_further mark) (map (put_declared mark) fs)) h hs

mutual
  pub type_again : {d : ℕ} {t : TypeTree} → FormedType d t → TypeAgain t
  type_again (formed.word {word = w} {place = p}) = gives_as (again.type-Word w p) (spelled.type-Word mark w p) (gives-keep _ p _ (gives-done _))
  type_again (formed.named {name = n}) = gives_as (again.type-Defined n) (spelled.type-Defined mark n) (gives-keep _ n.place _ (gives-done _))
  type_again (formed.list {place = p} {t = t} h) =
      gives_as (again.type-List p None t) (spelled.type-List mark p None t) (gives-keep _ p _ (gives-bind _ (gives-done None) (gives-last _ (type_again h))))
  type_again (formed.sized_list {place = p} {e = e} {t = t} j h) =
      gives_as (again.type-List p (Some e) t) (spelled.type-List mark p (Some e) t)
      (gives-keep _ p _ (gives-bind _ (gives-pass _ (gives-bind _ (expr_again j) (gives-pass _ (gives-done _)))) (gives-last _ (type_again h))))
  type_again (formed.set {place = p} {t = t} h) = gives_as (again.type-Set p t) (spelled.type-Set mark p t) (gives-keep _ p _ (gives-last _ (type_again h)))
  type_again (formed.dist {place = p} {t = t} h) = gives_as (again.type-Dist p t) (spelled.type-Dist mark p t) (gives-keep _ p _ (gives-last _ (type_again h)))
  type_again (formed.dict {place = p} {k = k} {v = v} h j) =
      gives_as (again.type-Dict p k v) (spelled.type-Dict mark p k v)
      (gives-keep _ p _ (gives-pass _ (gives-bind _ (gives-bind _ (type_again h) (gives-pass _ (gives-last _ (type_again j)))) (gives-pass _ (gives-done _)))))
  type_again (formed.tuple {place = p} {first = f} {second = g} {more = fs} h) =
      gives_as (again.type-Tuple p (f ∷ g ∷ fs)) (spelled.type-Tuple mark p (f ∷ g ∷ fs))
      (gives-keep _ p _ (gives-pass _ (gives-bind _ (formals_again h) (gives-pass _ (gives-done _)))))
  type_again (formed.void {place = p} {way = w}) =
      gives_as (again.type-Chan p w None) (spelled.type-Chan mark p w None)
      (gives-keep _ p _ (gives-bind _ (way_again w) (gives-last _ (gives-pass _ (gives-done None)))))
  type_again (formed.chan {place = p} {way = w} {t = t} h) =
      gives_as (again.type-Chan p w (Some t)) (spelled.type-Chan mark p w (Some t))
      (gives-keep _ p _ (gives-bind _ (way_again w) (gives-last _ (gives-last _ (type_again h)))))

  pub formals_again : {d : ℕ} {fs : List Formal} → FormedFormals d fs → FormalsAgain fs
  formals_again (formed.formals {t = t} {name = n} {more = fs} h hs) = first_again t n fs (type_again h) (more_again hs)

  more_again : {d : ℕ} {fs : List Formal} → MoreFormals d fs → MoreAgain fs
  more_again formed.no_more = gives-done []
  more_again (formed.comma {name = n} {more = fs} hs) = formals_more (formed.formal None n) fs (bare_again n) (more_again hs)
  more_again (formed.semicolon {t = t} {name = n} {more = fs} h hs) =
      formals_more (formed.formal (Some t) n) fs (typed_again t n (type_again h)) (more_again hs)

  pub expr_again : {level : Level} {d : ℕ} {e : Expr} → FormedExpr level d e → ExprAgain e
  expr_again (formed.disjunction {e = e} {links = ls} h hs) = chain_again e ls (expr_again h) (links_again hs)
  expr_again (formed.conjunction {e = e} {links = ls} h hs) = chain_again e ls (expr_again h) (links_again hs)
  expr_again (formed.negation {place = p} {e = e} h) =
      gives_as (again.expr-Prefix prefix.Not p e) (spelled.expr-Prefix mark prefix.Not p e) (gives-keep _ p _ (gives-last _ (expr_again h)))
  expr_again (formed.no_negation h) = expr_again h
  expr_again (formed.relation {sign = w} {place = p} {e = e} {f = f} h j) =
      gives_as (again.expr-Relation e w p f) (spelled.expr-Relation mark e w p f) (gives-bind _ (expr_again h) (gives-keep _ p _ (gives-last _ (expr_again j))))
  expr_again (formed.no_relation h) = expr_again h
  expr_again (formed.sum {e = e} {links = ls} h hs) = chain_again e ls (expr_again h) (links_again hs)
  expr_again (formed.product {e = e} {links = ls} h hs) = chain_again e ls (expr_again h) (links_again hs)
  expr_again (formed.prefixed {sign = w} {place = p} {e = e} is h) =
      gives_as (again.expr-Prefix w p e) (spelled.expr-Prefix mark w p e) (gives-keep _ p _ (gives-last _ (expr_again h)))
  expr_again (formed.no_prefix h) = expr_again h
  expr_again (formed.power {place = p} {e = e} {f = f} h j) =
      gives_as (again.expr-Power e p f) (spelled.expr-Power mark e p f) (gives-bind _ (expr_again h) (gives-keep _ p _ (gives-last _ (expr_again j))))
  expr_again (formed.no_power h) = expr_again h
  expr_again (formed.post {e = e} {postfixes = ps} h hs) = part_again e ps (expr_again h) (postfixes_again hs)
  expr_again (formed.int {digits = x} {place = p}) = gives_as (again.expr-Int x p) (spelled.expr-Int mark x p) (gives-keep _ p _ (gives-done _))
  expr_again (formed.real {digits = x} {place = p}) = gives_as (again.expr-Real x p) (spelled.expr-Real mark x p) (gives-keep _ p _ (gives-done _))
  expr_again (formed.text {text = x} {place = p}) = gives_as (again.expr-Text x p) (spelled.expr-Text mark x p) (gives-keep _ p _ (gives-done _))
  expr_again (formed.bool {truth = x} {place = p}) = gives_as (again.expr-Bool x p) (spelled.expr-Bool mark x p) (gives-keep _ p _ (gives-done _))
  expr_again (formed.time {place = p}) = gives_as (again.expr-Time p) (spelled.expr-Time mark p) (gives-keep _ p _ (gives-done _))
  expr_again (formed.name {name = n}) = gives_as (again.expr-Named n) (spelled.expr-Named mark n) (gives-keep _ n.place _ (gives-done _))
  expr_again (formed.call {name = n} {es = es} hs) =
      gives_as (again.expr-Call n es) (spelled.expr-Call mark n es)
      (gives-keep _ n.place _ (gives-pass _ (gives-bind _ (exprs_again hs) (gives-pass _ (gives-done _)))))
  expr_again (formed.cast {word = w} {place = p} {e = e} h) =
      gives_as (again.expr-Cast w p e) (spelled.expr-Cast mark w p e)
      (gives-keep _ p _ (gives-pass _ (gives-bind _ (expr_again h) (gives-pass _ (gives-done _)))))
  expr_again (formed.round {place = p} {e = e} h) =
      gives_as (again.expr-Round p e) (spelled.expr-Round mark p e) (gives-keep _ p _ (gives-bind _ (expr_again h) (gives-pass _ (gives-done _))))
  expr_again (formed.tuple_of {place = p} {e = e} {f = f} {es = es} hs) =
      gives_as (again.expr-TupleOf p (e ∷ f ∷ es)) (spelled.expr-TupleOf mark p (e ∷ f ∷ es))
      (gives-keep _ p _ (gives-bind _ (exprs_again hs) (gives-pass _ (gives-done _))))
  expr_again (formed.list_of {place = p} {e = e} {es = es} hs) =
      gives_as (again.expr-ListOf p (e ∷ es)) (spelled.expr-ListOf mark p (e ∷ es))
      (gives-keep _ p _ (gives-bind _ (exprs_again hs) (gives-pass _ (gives-done _))))
  expr_again (formed.set_of {place = p} {e = e} {es = es} hs) =
      gives_as (again.expr-SetOf p (e ∷ es)) (spelled.expr-SetOf mark p (e ∷ es))
      (gives-keep _ p _ (gives-bind _ (exprs_again hs) (gives-pass _ (gives-done _))))
  expr_again (formed.dict_of {place = p} {e = e} {es = es} hs) =
      gives_as (again.expr-DictOf p (e ∷ es)) (spelled.expr-DictOf mark p (e ∷ es))
      (gives-keep _ p _ (gives-bind _ (entries_again hs) (gives-pass _ (gives-done _))))
  expr_again (formed.empty_list {place = p} {t = t} h) =
      gives_as (again.expr-EmptyList p t) (spelled.expr-EmptyList mark p t)
      (gives-keep _ p _ (gives-bind _ (type_again h) (gives-pass _ (gives-pass _ (gives-pass _ (gives-done _))))))
  expr_again (formed.empty_set {place = p} {t = t} h) =
      gives_as (again.expr-EmptySet p t) (spelled.expr-EmptySet mark p t)
      (gives-keep _ p _ (gives-bind _ (type_again h) (gives-pass _ (gives-pass _ (gives-pass _ (gives-done _))))))
  expr_again (formed.empty_dict {place = p} {k = k} {v = v} h j) =
      gives_as (again.expr-EmptyDict p k v) (spelled.expr-EmptyDict mark p k v)
      (gives-keep _ p _ (gives-bind _ (gives-bind _ (type_again h) (gives-pass _ (gives-last _ (type_again j))))
      (gives-pass _ (gives-pass _ (gives-pass _ (gives-done _))))))

  links_again : {level : Level} {d : ℕ} {ls : List Link} → FormedLinks level d ls → LinksAgain ls
  links_again formed.no_links = gives-done []
  links_again (formed.or_link {place = p} {e = e} {links = ls} h hs) =
      links_more (formed.link operator.Or p e) ls (link_again (formed.link operator.Or p e) (expr_again h)) (links_again hs)
  links_again (formed.and_link {place = p} {e = e} {links = ls} h hs) =
      links_more (formed.link operator.And p e) ls (link_again (formed.link operator.And p e) (expr_again h)) (links_again hs)
  links_again (formed.sum_link {operator = o} {place = p} {e = e} {links = ls} is h hs) =
      links_more (formed.link o p e) ls (link_again (formed.link o p e) (expr_again h)) (links_again hs)
  links_again (formed.product_link {operator = o} {place = p} {e = e} {links = ls} is h hs) =
      links_more (formed.link o p e) ls (link_again (formed.link o p e) (expr_again h)) (links_again hs)

  postfixes_again : {d : ℕ} {ps : List Postfix} → FormedPostfixes d ps → PostfixesAgain ps
  postfixes_again formed.no_postfixes = gives-done []
  postfixes_again (formed.postfixes {p = p} {ps = ps} h hs) = postfixes_more p ps (postfix_again h) (postfixes_again hs)

  postfix_again : {d : ℕ} {p : Postfix} → FormedPostfix d p → PostfixAgain p
  postfix_again (formed.index {place = p} {e = e} h) =
      gives_as (again.postfix-Index p e) (spelled.postfix-Index mark p e) (gives-keep _ p _ (gives-bind _ (expr_again h) (gives-pass _ (gives-done _))))
  postfix_again (formed.slice {place = p} {from = a} {upto = c} h j) =
      gives_as (again.postfix-Slice p a c false None) (spelled.postfix-Slice mark p a c false None)
      (gives-keep _ p _ (gives-bind _ (gives-bind _ (gives-bind _ (if_again h) (gives-pass _ (gives-last _ (if_again j)))) (gives-last _ (gives-done None)))
      (gives-pass _ (gives-done _))))
  postfix_again (formed.slice_by {place = p} {from = a} {upto = c} {by = by} h j k) =
      gives_as (again.postfix-Slice p a c true by) (spelled.postfix-Slice mark p a c true by)
      (gives-keep _ p _ (gives-bind _ (gives-bind _ (gives-bind _ (if_again h) (gives-pass _ (gives-last _ (if_again j)))) (gives-last _ (gives-pass _ (if_again k))))
      (gives-pass _ (gives-done _))))
  postfix_again (formed.field {name = n}) =
      gives_as (again.postfix-Field n) (spelled.postfix-Field mark n) (gives-pass _ (gives-keep _ n.place _ (gives-done _)))

  pub if_again : {d : ℕ} {e : Option Expr} → FormedIfAny d e → IfAnyAgain e
  if_again formed.left_out = gives-done None
  if_again (formed.given h) = gives-last _ (expr_again h)

  pub exprs_again : {d : ℕ} {es : List Expr} → FormedExprs d es → ExprsAgain es
  exprs_again formed.no_exprs = gives-done []
  exprs_again (formed.exprs {es = es} h hs) =
      gives-between (Sign Comma) (map refilled_expr (map unplaced_expr es)) (map (put_expr mark) es) (expr_again h) (exprs_after hs)

  pub exprs_after : {d : ℕ} {es : List Expr} → FormedExprs d es → ExprsAfter es
  exprs_after formed.no_exprs = gives-done []
  exprs_after (formed.exprs {es = es} h hs) =
      gives-after_more (Sign Comma) (map refilled_expr (map unplaced_expr es)) (map (put_expr mark) es) (expr_again h) (exprs_after hs)

  entries_again : {d : ℕ} {es : List Entry} → FormedEntries d es → EntriesAgain es
  entries_again formed.no_entries = gives-done []
  entries_again (formed.entries {k = k} {v = v} {es = es} h j hs) =
      gives-between (Sign Comma) (map refilled_entry (map unplaced_entry es)) (map (put_entry mark) es) (entry_again k v (expr_again h) (expr_again j)) (entries_after hs)

  entries_after : {d : ℕ} {es : List Entry} → FormedEntries d es → EntriesAfter es
  entries_after formed.no_entries = gives-done []
  entries_after (formed.entries {k = k} {v = v} {es = es} h j hs) =
      gives-after_more (Sign Comma) (map refilled_entry (map unplaced_entry es)) (map (put_entry mark) es) (entry_again k v (expr_again h) (expr_again j)) (entries_after hs)
