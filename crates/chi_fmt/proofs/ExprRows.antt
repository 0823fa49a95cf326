-- The spots of formed expressions and types are sound rows, and show their tokens.
use Rattle.std.proofs.Common.{◌≡◌, ℕ, Bool, true, false, List, [], ◌∷◌, ◌++◌, Option, Some, None, map, refl, ap}
use Rattle.chi_token.specs.declared.keyword.Keyword.TheVariants.{ChanWord, DictWord, DistWord, ListWord, NotWord, SampleWord, SetWord, TimeWord, TupleWord, VoidWord}
use Rattle.chi_token.specs.declared.sign.Sign.TheVariants.{Bang, Caret, Colon, Comma, Question, Semicolon}
use Rattle.chi_token.specs.declared.token.Token.{Token}
use Rattle.chi_token.specs.declared.token.Token.TheVariants.{Word, Sign, Name}
use Rattle.chi_token.specs.declared.token.Token.TheVariants as token
use Rattle.chi_tree.specs.declared.operator.Operator.{Operator}
use Rattle.chi_tree.specs.declared.operator.Operator.TheVariants as operator
use Rattle.chi_tree.specs.declared.operator.RelationSign.{RelationSign}
use Rattle.chi_tree.specs.declared.operator.RelationSign.TheVariants as relation
use Rattle.chi_tree.specs.declared.operator.PrefixSign.{PrefixSign}
use Rattle.chi_tree.specs.declared.operator.PrefixSign.TheVariants as prefix
use Rattle.chi_tree.specs.declared.operator.CastWord.{CastWord}
use Rattle.chi_tree.specs.declared.operator.CastWord.TheVariants as cast
use Rattle.chi_tree.specs.declared.type_tree.TypeTree.{TypeTree}
use Rattle.chi_tree.specs.declared.type_tree.TypeWord.{TypeWord}
use Rattle.chi_tree.specs.declared.type_tree.TypeWord.TheVariants as type_word
use Rattle.chi_tree.specs.declared.type_tree.Formal.{Formal}
use Rattle.chi_tree.specs.declared.type_tree.Way.{Way}
use Rattle.chi_tree.specs.declared.type_tree.Way.TheVariants as way
use Rattle.chi_tree.specs.declared.expr.Expr.{Expr}
use Rattle.chi_tree.specs.declared.expr.Link.{Link}
use Rattle.chi_tree.specs.declared.expr.Entry.{Entry}
use Rattle.chi_tree.specs.declared.expr.Postfix.{Postfix}
use Rattle.chi_tree.specs.View.{chained, parted}
use Rattle.chi_tree_spell.specs.Expressions.{put_further, put_way, declared_formals, spelled_expr, spelled_link, spelled_postfix, spelled_type, spelled_entry, declared, spelled_formals}
use Rattle.chi_tree_spell.specs.Expressions as spell
use Rattle.chi_tree_spell.specs.Marks.{plain}
use Rattle.chi_tree_spell.specs.Words.{Tokens, operator_token, relation_token, prefix_token, cast_token, type_token, truth_token, all, each_after}
use Rattle.chi_tree_spell.proofs.ExprTokens as spelled
use Rattle.chi_tree_laws.specs.Levels.{Level}
use Rattle.chi_tree_laws.specs.Expressions.{FormedType, FormedFormals, MoreFormals, FormedExpr, FormedLinks, FormedPostfix, FormedPostfixes, FormedIfAny, FormedExprs, FormedEntries}
use Rattle.chi_tree_laws.specs.Expressions as formed
use Rattle.chi_fmt.specs.Expressions.{Spots, usual, opening, closing, prefix_spot, expr_spots, link_spots, postfix_spots, entry_spots, type_spots, formal_spots, formals_spots, commas}
use Rattle.chi_fmt.specs.Parts.{sign}
use Rattle.chi_fmt.specs.Spaces.{opens}
use Rattle.chi_fmt.specs.Sound.{is_dot, starts_equal}
use Rattle.chi_fmt.proofs.SpotsIn as spots
use Rattle.chi_fmt.proofs.Starts.{Row, Start, Within, row_as, row-nothing, row-start, row-after, row-tight, row-then, row-field, row-round, row-square, start_as, start-after, start-one, start-tight, start-then, start-round, start-square, start-curly, within-start, within-nothing}

-- tokens that are no brackets, no point and, but for some relations, no equals sign

pub record Quiet (t : Token) : Type 0 where
  pub no_open : opens t ≡ false
  pub no_dot : is_dot t ≡ false

pub record Calm (t : Token) : Type 0 where
  pub no_open : opens t ≡ false
  pub no_dot : is_dot t ≡ false
  pub no_equal : starts_equal t ≡ false

operator-quiet : (o : Operator) → Quiet (operator_token o)
operator-quiet operator.Or = record { no_open = refl; no_dot = refl }
operator-quiet _ = record { no_open = refl; no_dot = refl }

relation-quiet : (r : RelationSign) → Quiet (relation_token r)
relation-quiet relation.Less = record { no_open = refl; no_dot = refl }
relation-quiet _ = record { no_open = refl; no_dot = refl }

cast-calm : (c : CastWord) → Calm (cast_token c)
cast-calm cast.Int = record { no_open = refl; no_dot = refl; no_equal = refl }
cast-calm _ = record { no_open = refl; no_dot = refl; no_equal = refl }

type-calm : (w : TypeWord) → Calm (type_token w)
type-calm type_word.Bool = record { no_open = refl; no_dot = refl; no_equal = refl }
type-calm _ = record { no_open = refl; no_dot = refl; no_equal = refl }

truth-calm : (b : Bool) → Calm (truth_token b)
truth-calm true = record { no_open = refl; no_dot = refl; no_equal = refl }
truth-calm false = record { no_open = refl; no_dot = refl; no_equal = refl }

-- single parts

after-sign : {xs : Spots} {ts : Tokens} (t : Token) → Quiet t → Row xs ts → Row (usual t None ∷ xs) (t ∷ ts)
after-sign t q r = row-after t q.no_open q.no_dot r

after-word : {xs : Spots} {ts : Tokens} (t : Token) → Calm t → Row xs ts → Start (usual t None ∷ xs) (t ∷ ts)
after-word t q r = start-after t q.no_open q.no_dot q.no_equal r

prefix-start : {xs : Spots} {ts : Tokens} (w : PrefixSign) → Start xs ts → Start (prefix_spot w ∷ xs) (prefix_token w ∷ ts)
prefix-start prefix.Minus s = start-tight (prefix_spot prefix.Minus) refl refl refl s
prefix-start prefix.Plus s = start-tight (prefix_spot prefix.Plus) refl refl refl s
prefix-start prefix.Not s = start-after (Word NotWord) refl refl refl (row-start s)
prefix-start prefix.Sample s = start-after (Word SampleWord) refl refl refl (row-start s)

way-row : (w : Way) → Row (put_way usual w) (put_way plain w)
way-row way.Both = row-nothing
way-row way.Send = row-after (Sign Bang) refl refl row-nothing
way-row way.Receive = row-after (Sign Question) refl refl row-nothing

chain-start : (e : Expr) (ls : List Link) → Start (expr_spots e) (spelled_expr e) → Row (all (map link_spots ls)) (all (map spelled_link ls))
    → Start (expr_spots (chained e ls)) (spelled_expr (chained e ls))
chain-start e [] s r = s
chain-start e (l ∷ ls) s r = start_as (spots.expr-Chain e (l ∷ ls)) (spelled.expr-Chain plain e (l ∷ ls)) (start-then s r)

part-start : (e : Expr) (ps : List Postfix) → Start (expr_spots e) (spelled_expr e) → Row (all (map postfix_spots ps)) (all (map spelled_postfix ps))
    → Start (expr_spots (parted e ps)) (spelled_expr (parted e ps))
part-start e [] s r = s
part-start e (p ∷ ps) s r = start_as (spots.expr-Part e (p ∷ ps)) (spelled.expr-Part plain e (p ∷ ps)) (start-then s r)

link-row : (l : Link) → Start (expr_spots l.operand) (spelled_expr l.operand) → Row (link_spots l) (spelled_link l)
link-row l s = row_as (spots.link-tokens l) (spelled.link-tokens plain l) (after-sign (operator_token l.operator) (operator-quiet l.operator) (row-start s))

entry-start : (k v : Expr) → Start (expr_spots k) (spelled_expr k) → Start (expr_spots v) (spelled_expr v)
    → Start (entry_spots (formed.entry k v)) (spelled_entry (formed.entry k v))
entry-start k v s r =
    start_as (spots.entry-tokens (formed.entry k v)) (spelled.entry-tokens plain (formed.entry k v))
    (start-then s (row-after (Sign Colon) refl refl (row-start r)))

mutual
  pub type-start : {d : ℕ} {t : TypeTree} → FormedType d t → Start (type_spots t) (spelled_type t)
  type-start (formed.word {word = w} {place = p}) =
      start_as (spots.type-Word w p) (spelled.type-Word plain w p) (after-word (type_token w) (type-calm w) row-nothing)
  type-start (formed.named {name = n}) =
      start_as (spots.type-Defined n) (spelled.type-Defined plain n) (start-one (Name n.text) refl refl refl)
  type-start (formed.list {place = p} {t = t} h) =
      start_as (spots.type-List p None t) (spelled.type-List plain p None t) (start-after (Word ListWord) refl refl refl (row-start (type-start h)))
  type-start (formed.sized_list {place = p} {e = e} {t = t} j h) =
      start_as (spots.type-List p (Some e) t) (spelled.type-List plain p (Some e) t)
      (start-after (Word ListWord) refl refl refl (row-then (row-round (within-start (expr-start j))) (row-start (type-start h))))
  type-start (formed.set {place = p} {t = t} h) =
      start_as (spots.type-Set p t) (spelled.type-Set plain p t) (start-after (Word SetWord) refl refl refl (row-start (type-start h)))
  type-start (formed.dist {place = p} {t = t} h) =
      start_as (spots.type-Dist p t) (spelled.type-Dist plain p t) (start-after (Word DistWord) refl refl refl (row-start (type-start h)))
  type-start (formed.dict {place = p} {k = k} {v = v} h j) =
      start_as (spots.type-Dict p k v) (spelled.type-Dict plain p k v)
      (start-after (Word DictWord) refl refl refl
      (row-round (within-start (start-then (type-start h) (row-after (Sign Colon) refl refl (row-start (type-start j)))))))
  type-start (formed.tuple {place = p} {first = f} {second = g} {more = fs} h) =
      start_as (spots.type-Tuple p (f ∷ g ∷ fs)) (spelled.type-Tuple plain p (f ∷ g ∷ fs))
      (start-after (Word TupleWord) refl refl refl (row-round (within-start (formals-start h))))
  type-start (formed.void {place = p} {way = w}) =
      start_as (spots.type-Chan p w None) (spelled.type-Chan plain p w None)
      (start-after (Word ChanWord) refl refl refl (row-then (way-row w) (row-after (Word VoidWord) refl refl row-nothing)))
  type-start (formed.chan {place = p} {way = w} {t = t} h) =
      start_as (spots.type-Chan p w (Some t)) (spelled.type-Chan plain p w (Some t))
      (start-after (Word ChanWord) refl refl refl (row-then (way-row w) (row-start (type-start h))))

  pub formals-start : {d : ℕ} {fs : List Formal} → FormedFormals d fs → Start (formals_spots fs) (spelled_formals fs)
  formals-start (formed.formals {t = t} {name = n} {more = fs} h hs) =
      start_as (ap (λ d. declared_formals usual (d ∷ map formal_spots fs)) (spots.formal-typed t n))
      (ap (λ d. declared_formals plain (d ∷ map declared fs)) (spelled.formal-typed plain t n))
      (start-then (type-start h) (row-after (Name n.text) refl refl (more-row hs)))

  more-row : {d : ℕ} {fs : List Formal} → MoreFormals d fs
      → Row (all (map (put_further usual) (map formal_spots fs))) (all (map (put_further plain) (map declared fs)))
  more-row formed.no_more = row-nothing
  more-row (formed.comma {name = n} {more = fs} hs) =
      row-then
      (row_as (ap (put_further usual) (spots.formal-bare n)) (ap (put_further plain) (spelled.formal-bare plain n))
      (row-after (Sign Comma) refl refl (row-after (Name n.text) refl refl row-nothing)))
      (more-row hs)
  more-row (formed.semicolon {t = t} {name = n} {more = fs} h hs) =
      row-then
      (row_as (ap (put_further usual) (spots.formal-typed t n)) (ap (put_further plain) (spelled.formal-typed plain t n))
      (row-after (Sign Semicolon) refl refl (row-then (row-start (type-start h)) (row-after (Name n.text) refl refl row-nothing))))
      (more-row hs)

  pub expr-start : {level : Level} {d : ℕ} {e : Expr} → FormedExpr level d e → Start (expr_spots e) (spelled_expr e)
  expr-start (formed.disjunction {e = e} {links = ls} h hs) = chain-start e ls (expr-start h) (links-row hs)
  expr-start (formed.conjunction {e = e} {links = ls} h hs) = chain-start e ls (expr-start h) (links-row hs)
  expr-start (formed.negation {place = p} {e = e} h) =
      start_as (spots.expr-Prefix prefix.Not p e) (spelled.expr-Prefix plain prefix.Not p e) (prefix-start prefix.Not (expr-start h))
  expr-start (formed.no_negation h) = expr-start h
  expr-start (formed.relation {sign = w} {place = p} {e = e} {f = f} h j) =
      start_as (spots.expr-Relation e w p f) (spelled.expr-Relation plain e w p f)
      (start-then (expr-start h) (after-sign (relation_token w) (relation-quiet w) (row-start (expr-start j))))
  expr-start (formed.no_relation h) = expr-start h
  expr-start (formed.sum {e = e} {links = ls} h hs) = chain-start e ls (expr-start h) (links-row hs)
  expr-start (formed.product {e = e} {links = ls} h hs) = chain-start e ls (expr-start h) (links-row hs)
  expr-start (formed.prefixed {sign = w} {place = p} {e = e} is h) =
      start_as (spots.expr-Prefix w p e) (spelled.expr-Prefix plain w p e) (prefix-start w (expr-start h))
  expr-start (formed.no_prefix h) = expr-start h
  expr-start (formed.power {place = p} {e = e} {f = f} h j) =
      start_as (spots.expr-Power e p f) (spelled.expr-Power plain e p f)
      (start-then (expr-start h) (row-after (Sign Caret) refl refl (row-start (expr-start j))))
  expr-start (formed.no_power h) = expr-start h
  expr-start (formed.post {e = e} {postfixes = ps} h hs) = part-start e ps (expr-start h) (postfixes-row hs)
  expr-start (formed.int {digits = x} {place = p}) =
      start_as (spots.expr-Int x p) (spelled.expr-Int plain x p) (start-one (token.Int x) refl refl refl)
  expr-start (formed.real {digits = x} {place = p}) =
      start_as (spots.expr-Real x p) (spelled.expr-Real plain x p) (start-one (token.Real x) refl refl refl)
  expr-start (formed.text {text = x} {place = p}) =
      start_as (spots.expr-Text x p) (spelled.expr-Text plain x p) (start-one (token.Text x) refl refl refl)
  expr-start (formed.bool {truth = x} {place = p}) =
      start_as (spots.expr-Bool x p) (spelled.expr-Bool plain x p) (after-word (truth_token x) (truth-calm x) row-nothing)
  expr-start (formed.time {place = p}) =
      start_as (spots.expr-Time p) (spelled.expr-Time plain p) (start-one (Word TimeWord) refl refl refl)
  expr-start (formed.name {name = n}) =
      start_as (spots.expr-Named n) (spelled.expr-Named plain n) (start-one (Name n.text) refl refl refl)
  expr-start (formed.call {name = n} {es = es} hs) =
      start_as (spots.expr-Call n es) (spelled.expr-Call plain n es) (start-after (Name n.text) refl refl refl (row-round (exprs-within hs)))
  expr-start (formed.cast {word = w} {place = p} {e = e} h) =
      start_as (spots.expr-Cast w p e) (spelled.expr-Cast plain w p e)
      (after-word (cast_token w) (cast-calm w) (row-round (within-start (expr-start h))))
  expr-start (formed.round {place = p} {e = e} h) =
      start_as (spots.expr-Round p e) (spelled.expr-Round plain p e) (start-round (within-start (expr-start h)))
  expr-start (formed.tuple_of {place = p} {e = e} {f = f} {es = es} hs) =
      start_as (spots.expr-TupleOf p (e ∷ f ∷ es)) (spelled.expr-TupleOf plain p (e ∷ f ∷ es)) (start-round (exprs-within hs))
  expr-start (formed.list_of {place = p} {e = e} {es = es} hs) =
      start_as (spots.expr-ListOf p (e ∷ es)) (spelled.expr-ListOf plain p (e ∷ es)) (start-square (exprs-within hs))
  expr-start (formed.set_of {place = p} {e = e} {es = es} hs) =
      start_as (spots.expr-SetOf p (e ∷ es)) (spelled.expr-SetOf plain p (e ∷ es)) (start-curly (exprs-within hs))
  expr-start (formed.dict_of {place = p} {e = e} {es = es} hs) =
      start_as (spots.expr-DictOf p (e ∷ es)) (spelled.expr-DictOf plain p (e ∷ es)) (start-curly (entries-within hs))
  expr-start (formed.empty_list {place = p} {t = t} h) =
      start_as (spots.expr-EmptyList p t) (spelled.expr-EmptyList plain p t)
      (start-tight opening refl refl refl (start-then (type-start h) (row-tight closing refl refl (start-square within-nothing))))
  expr-start (formed.empty_set {place = p} {t = t} h) =
      start_as (spots.expr-EmptySet p t) (spelled.expr-EmptySet plain p t)
      (start-tight opening refl refl refl (start-then (type-start h) (row-tight closing refl refl (start-curly within-nothing))))
  expr-start (formed.empty_dict {place = p} {k = k} {v = v} h j) =
      start_as (spots.expr-EmptyDict p k v) (spelled.expr-EmptyDict plain p k v)
      (start-tight opening refl refl refl
      (start-then (start-then (type-start h) (row-after (Sign Colon) refl refl (row-start (type-start j))))
      (row-tight closing refl refl (start-curly within-nothing))))

  links-row : {level : Level} {d : ℕ} {ls : List Link} → FormedLinks level d ls → Row (all (map link_spots ls)) (all (map spelled_link ls))
  links-row formed.no_links = row-nothing
  links-row (formed.or_link {place = p} {e = e} h hs) = row-then (link-row (formed.link operator.Or p e) (expr-start h)) (links-row hs)
  links-row (formed.and_link {place = p} {e = e} h hs) = row-then (link-row (formed.link operator.And p e) (expr-start h)) (links-row hs)
  links-row (formed.sum_link {operator = o} {place = p} {e = e} is h hs) = row-then (link-row (formed.link o p e) (expr-start h)) (links-row hs)
  links-row (formed.product_link {operator = o} {place = p} {e = e} is h hs) = row-then (link-row (formed.link o p e) (expr-start h)) (links-row hs)

  pub postfixes-row : {d : ℕ} {ps : List Postfix} → FormedPostfixes d ps → Row (all (map postfix_spots ps)) (all (map spelled_postfix ps))
  postfixes-row formed.no_postfixes = row-nothing
  postfixes-row (formed.postfixes h hs) = row-then (postfix-row h) (postfixes-row hs)

  pub postfix-row : {d : ℕ} {p : Postfix} → FormedPostfix d p → Row (postfix_spots p) (spelled_postfix p)
  postfix-row (formed.index {place = p} {e = e} h) =
      row_as (spots.postfix-Index p e) (spelled.postfix-Index plain p e) (row-square (within-start (expr-start h)))
  postfix-row (formed.slice {place = p} {from = a} {upto = c} h j) =
      row_as (spots.postfix-Slice p a c false None) (spelled.postfix-Slice plain p a c false None)
      (row-square (within-start (start-then (colon-start h (if-row j)) row-nothing)))
  postfix-row (formed.slice_by {place = p} {from = a} {upto = c} {by = by} h j k) =
      row_as (spots.postfix-Slice p a c true by) (spelled.postfix-Slice plain p a c true by)
      (row-square (within-start (start-then (colon-start h (if-row j)) (row-after (Sign Colon) refl refl (if-row k)))))
  postfix-row (formed.field {name = n}) = row_as (spots.postfix-Field n) (spelled.postfix-Field plain n) (row-field n.text)

  -- what may be left out, before a colon
  colon-start : {d : ℕ} {e : Option Expr} {xs : Spots} {ts : Tokens} → FormedIfAny d e → Row xs ts
      → Start (spots.spots_if e ++ sign Colon ∷ xs) (spelled.put_if plain e ++ Sign Colon ∷ ts)
  colon-start formed.left_out r = start-after (Sign Colon) refl refl refl r
  colon-start (formed.given h) r = start-then (expr-start h) (row-after (Sign Colon) refl refl r)

  pub if-row : {d : ℕ} {e : Option Expr} → FormedIfAny d e → Row (spots.spots_if e) (spelled.put_if plain e)
  if-row formed.left_out = row-nothing
  if-row (formed.given h) = row-start (expr-start h)

  pub exprs-within : {d : ℕ} {es : List Expr} → FormedExprs d es → Within (commas (map expr_spots es)) (spell.commas (map spelled_expr es))
  exprs-within formed.no_exprs = within-nothing
  exprs-within (formed.exprs h hs) = within-start (start-then (expr-start h) (exprs-after hs))

  pub exprs-after : {d : ℕ} {es : List Expr} → FormedExprs d es
      → Row (each_after (sign Comma) (map expr_spots es)) (each_after (Sign Comma) (map spelled_expr es))
  exprs-after formed.no_exprs = row-nothing
  exprs-after (formed.exprs h hs) = row-then (row-after (Sign Comma) refl refl (row-start (expr-start h))) (exprs-after hs)

  entries-within : {d : ℕ} {es : List Entry} → FormedEntries d es → Within (commas (map entry_spots es)) (spell.commas (map spelled_entry es))
  entries-within formed.no_entries = within-nothing
  entries-within (formed.entries {k = k} {v = v} h j hs) =
      within-start (start-then (entry-start k v (expr-start h) (expr-start j)) (entries-after hs))

  entries-after : {d : ℕ} {es : List Entry} → FormedEntries d es
      → Row (each_after (sign Comma) (map entry_spots es)) (each_after (Sign Comma) (map spelled_entry es))
  entries-after formed.no_entries = row-nothing
  entries-after (formed.entries {k = k} {v = v} h j hs) =
      row-then (row-after (Sign Comma) refl refl (row-start (entry-start k v (expr-start h) (expr-start j)))) (entries-after hs)
