-- What the checker makes of an expression or a type of a short source has short text literals.
use Rattle.std.proofs.Common.{◌≡◌, ℕ, Bool, true, false, ◌++◌, List, [], ◌∷◌, map, Option, Some, None, refl, sym, ap, subst, ◌∙◌}
use Rattle.std.specs.Option.{option_map}
use Rattle.chi_token.specs.declared.place.Place.{Place}
use Rattle.chi_token.specs.declared.token.Token.{Token}
use Rattle.chi_token.specs.declared.token.Token.TheVariants as token
use Rattle.chi_token.specs.declared.sign.Sign.TheVariants as sign
use Rattle.chi_tree.specs.declared.operator.PrefixSign.TheVariants as prefix
use Rattle.chi_tree.specs.declared.type_tree.Name.{Name}
use Rattle.chi_tree.specs.declared.type_tree.TypeTree.{TypeTree, TypeTree-F, out-TypeTree, map-TypeTree, fold_out-TypeTree}
use Rattle.chi_tree.specs.declared.type_tree.TypeTree.TheVariants as type
use Rattle.chi_tree.specs.declared.type_tree.Formal.{Formal}
use Rattle.chi_tree.specs.declared.expr.Expr.{Expr, Expr-F, out-Expr, map-Expr, fold_out-Expr}
use Rattle.chi_tree.specs.declared.expr.Expr.TheVariants as expr
use Rattle.chi_tree.specs.declared.expr.Postfix.{Postfix, Postfix-F, out-Postfix, map-Postfix, fold_out-Postfix}
use Rattle.chi_tree.specs.declared.expr.Postfix.TheVariants as postfix
use Rattle.chi_tree.specs.declared.expr.Entry.{Entry, fold_out-Entry}
use Rattle.chi_tree.specs.declared.expr.Link.{Link, fold_out-Link}
use Rattle.chi_tree.specs.View.{chained, parted}
use Rattle.chi_tree_spell.specs.Words.{Tokens, operator_token, if_any, all, each_after, separated}
use Rattle.chi_tree_spell.specs.Marks.{plain}
use Rattle.chi_tree_spell.specs.Expressions as spell
use Rattle.chi_tree_spell.specs.Expressions.{Declared, spelled_expr, spelled_postfix, spelled_type, spelled_entry, spelled_link, declared}
use Rattle.chi_tree_laws.specs.Levels.{Level}
use Rattle.chi_tree_laws.specs.Expressions as formed
use Rattle.chi_tree_laws.specs.Expressions.{FormedType, FormedExpr, FormedLinks, FormedPostfixes, FormedPostfix, FormedIfAny, FormedExprs, FormedEntries}
use Rattle.chi_types.specs.declared.ty.Ty.TheVariants as ty
use Rattle.chi_check_types.specs.declared.meant.Made.{Made}
use Rattle.chi_check_types.specs.declared.predefined.Predefined.{Predefined}
use Rattle.chi_check_types.specs.declared.predefined.Predefined.TheVariants as predefined
use Rattle.chi_check_types.specs.declared.rules.TheConstants.{LITERAL_RANGE}
use Rattle.chi_check_types.specs.declared.site.Site.{Site}
use Rattle.chi_check_types.specs.Names.{Names, known_in}
use Rattle.chi_check_types.specs.Predefined.{predefined_of}
use Rattle.chi_check_types.specs.Typed.{Typed}
use Rattle.chi_check_types.specs.TypeRules as types
use Rattle.chi_check_expr_rules.specs.Operators.{chain_of}
use Rattle.chi_check_expr_rules.specs.Literals.{int_literal, real_literal}
use Rattle.chi_check_expr.specs.Calls as calls
use Rattle.chi_check_expr.specs.Calls.{is_insertion, function_known, call_by, called_with}
use Rattle.chi_check_expr.specs.Expressions as check
use Rattle.chi_check_expr.specs.Expressions.{part_of}
use Rattle.chi_check_expr.specs.Reads.{Read, Taken, index, slice, field, Reading, Paired, Linked, Field, typed_of, made_of, key_made, value_made, each_bound}
use Rattle.chi_check_expr.specs.TypeTrees.{type_step, parts_from}
use Rattle.chi_check_expr.specs.Typing.{read, taken, paired, linked, formal, reading, typing}
use Rattle.chi_check_expr.proofs.Kept.{Each, IfGiven}
use Rattle.chi_check_expr.proofs.Opened.{read_is, taken_is, reading_is, linked_is, paired_is}
use Rattle.chi_check_parsed.proofs.Tokens.{AllFit, fit_left, fit_right}
use Rattle.chi_check_parsed.proofs.Short.{settled_on, MadeShort, SizesShort, text_short}
use Rattle.chi_check_parsed.proofs.Rules.{chain_on, power_on, prefix_on, relation_on, cast_on, index_on, slice_on, field_on, int_on, real_on, bool_on, name_on, time_on, function_on}
use Rattle.chi_check_parsed.proofs.Predefined.{predefined_on, tuple_on, list_on, set_on, dict_on, empty_list_on, empty_set_on, empty_dict_on, type_name_on, unsized_list_on, sized_list_on, set_type_on, dict_type_on, dist_on, chan_on, tuple_type_on, type_on}

-- ---- the tokens of each construct

abbrev pub expr_tokens : Expr-F Expr Postfix TypeTree Entry Link Formal → Tokens
expr_tokens o = spell.expr_step plain (map-Expr Expr Postfix TypeTree Entry Link Formal Tokens Tokens Tokens Tokens Tokens (Declared Token) spelled_expr spelled_postfix spelled_type spelled_entry spelled_link declared o)

pub expr_spelled : (e : Expr) (o : Expr-F Expr Postfix TypeTree Entry Link Formal) → out-Expr e ≡ o → spelled_expr e ≡ expr_tokens o
expr_spelled e o h = fold_out-Expr Tokens Tokens Tokens Tokens Tokens (Declared Token) (spell.expr_step plain) (spell.postfix_step plain) (spell.type_step plain) (spell.entry_step plain) (spell.link_step plain) (spell.formal_step plain) e ∙ ap expr_tokens h

abbrev pub postfix_tokens : Postfix-F Expr Postfix TypeTree Entry Link Formal → Tokens
postfix_tokens o = spell.postfix_step plain (map-Postfix Expr Postfix TypeTree Entry Link Formal Tokens Tokens Tokens Tokens Tokens (Declared Token) spelled_expr spelled_postfix spelled_type spelled_entry spelled_link declared o)

pub postfix_spelled : (p : Postfix) (o : Postfix-F Expr Postfix TypeTree Entry Link Formal) → out-Postfix p ≡ o → spelled_postfix p ≡ postfix_tokens o
postfix_spelled p o h = fold_out-Postfix Tokens Tokens Tokens Tokens Tokens (Declared Token) (spell.expr_step plain) (spell.postfix_step plain) (spell.type_step plain) (spell.entry_step plain) (spell.link_step plain) (spell.formal_step plain) p ∙ ap postfix_tokens h

abbrev type_tokens : TypeTree-F Expr Postfix TypeTree Entry Link Formal → Tokens
type_tokens o = spell.type_step plain (map-TypeTree Expr Postfix TypeTree Entry Link Formal Tokens Tokens Tokens Tokens Tokens (Declared Token) spelled_expr spelled_postfix spelled_type spelled_entry spelled_link declared o)

type_spelled : (t : TypeTree) (o : TypeTree-F Expr Postfix TypeTree Entry Link Formal) → out-TypeTree t ≡ o → spelled_type t ≡ type_tokens o
type_spelled t o h = fold_out-TypeTree Tokens Tokens Tokens Tokens Tokens (Declared Token) (spell.expr_step plain) (spell.postfix_step plain) (spell.type_step plain) (spell.entry_step plain) (spell.link_step plain) (spell.formal_step plain) t ∙ ap type_tokens h

link_spelled : (l : Link) → spelled_link l ≡ operator_token l.operator ∷ spelled_expr l.operand
link_spelled l = fold_out-Link Tokens Tokens Tokens Tokens Tokens (Declared Token) (spell.expr_step plain) (spell.postfix_step plain) (spell.type_step plain) (spell.entry_step plain) (spell.link_step plain) (spell.formal_step plain) l

entry_spelled : (e : Entry) → spelled_entry e ≡ spelled_expr e.key ++ token.Sign sign.Colon ∷ spelled_expr e.value
entry_spelled e = fold_out-Entry Tokens Tokens Tokens Tokens Tokens (Declared Token) (spell.expr_step plain) (spell.postfix_step plain) (spell.type_step plain) (spell.entry_step plain) (spell.link_step plain) (spell.formal_step plain) e

slice_parts : (start middle last : Tokens) → AllFit (spell.square (start ++ token.Sign sign.Colon ∷ middle ++ last)) → AllFit start × AllFit middle × AllFit last
slice_parts start middle last fit =
    let inner = fit_left (start ++ token.Sign sign.Colon ∷ middle ++ last) (token.Sign sign.RightBracket ∷ []) fit.1 in
    let before = fit_left (start ++ token.Sign sign.Colon ∷ middle) last inner in
    let after = fit_right start (token.Sign sign.Colon ∷ middle) before in
    (fit_left start (token.Sign sign.Colon ∷ middle) before, after.1, fit_right (start ++ token.Sign sign.Colon ∷ middle) last inner)

-- ---- what is made of parts

abbrev pub TypedShort : Typed Made → Type 0
TypedShort t = IfGiven MadeShort t.made

abbrev ReadShort : Read → Type 0
ReadShort r = TypedShort r.typed

abbrev TakenShort : Taken → Type 0
TakenShort (index place t) = TypedShort t
TakenShort (slice place b) = IfGiven TypedShort b.from × IfGiven TypedShort b.upto × IfGiven TypedShort b.by
TakenShort (field name) = Unit {0}

abbrev PairedShort : Paired → Type 0
PairedShort e = TypedShort e.key × TypedShort e.value

abbrev LinkedShort : Linked → Type 0
LinkedShort l = TypedShort l.operand

mades : (rs : List Read) → Each ReadShort rs → Each (IfGiven MadeShort) (map made_of (map typed_of rs))
mades [] h = tt
mades (r ∷ rs) h = (h.0, mades rs h.1)

keys : (es : List Paired) → Each PairedShort es → Each (IfGiven MadeShort) (map key_made es)
keys [] h = tt
keys (e ∷ es) h = (h.0.0, keys es h.1)

values : (es : List Paired) → Each PairedShort es → Each (IfGiven MadeShort) (map value_made es)
values [] h = tt
values (e ∷ es) h = (h.0.1, values es h.1)

links_on : (left : Option Made) (ls : List Linked) → IfGiven MadeShort left → Each LinkedShort ls → IfGiven MadeShort (check.chained left ls).made
links_on left [] h k = h
links_on left (l ∷ ls) h k = links_on (chain_of l.operator l.place left l.operand.made).made ls (chain_on l.operator l.place left l.operand.made h k.0) k.1

bound_on : (b : Option (Typed Made)) → IfGiven TypedShort b → IfGiven (IfGiven MadeShort) (option_map made_of b)
bound_on None h = tt
bound_on (Some t) h = h

taken_on : (whole : Option Made) (t : Taken) → IfGiven MadeShort whole → TakenShort t → IfGiven MadeShort (part_of whole t).made
taken_on whole (index place i) h k = index_on place whole i.made h k
taken_on whole (slice place b) h k = slice_on place whole (each_bound made_of b) h (bound_on b.from k.0, bound_on b.upto k.1, bound_on b.by k.2)
taken_on whole (field name) h k = field_on name whole h

takens_on : (whole : Option Made) (ts : List Taken) → IfGiven MadeShort whole → Each TakenShort ts → IfGiven MadeShort (check.parted whole ts).made
takens_on whole [] h k = h
takens_on whole (t ∷ ts) h k = takens_on (part_of whole t).made ts (taken_on whole t h k.0) k.1

module _ (site : Site) (names : Names) where
  -- ---- calls

  by_on : (name : Name) (p : Option Predefined) (os : List (Option Made)) → Each (IfGiven MadeShort) os → IfGiven MadeShort (call_by site names name p os).made
  by_on name None os h = function_on site name.place (known_in names name.text) os h
  by_on name (Some p) os h = predefined_on site name.place p os None h

  with_on : (name : Name) (rs : List Read) → Each ReadShort rs → IfGiven MadeShort (called_with site names name (map typed_of rs)).made
  with_on name rs h = by_on name (predefined_of name.text) _ (mades rs h)

  called_on : (name : Name) (b : Bool) (rs : List Read) → Each ReadShort rs → IfGiven MadeShort (calls.called site names name b rs).made
  called_on name true (a ∷ b ∷ c ∷ []) h = predefined_on site name.place predefined.Insert (a.typed.made ∷ b.typed.made ∷ None ∷ []) (function_known names c.name) (h.0, (h.1.0, (tt, tt)))
  called_on name true [] h = with_on name [] h
  called_on name true (a ∷ []) h = with_on name (a ∷ []) h
  called_on name true (a ∷ b ∷ []) h = with_on name (a ∷ b ∷ []) h
  called_on name true (a ∷ b ∷ c ∷ d ∷ rs) h = with_on name (a ∷ b ∷ c ∷ d ∷ rs) h
  called_on name false rs h = with_on name rs h

  call_on : (name : Name) (rs : List Read) → Each ReadShort rs → IfGiven MadeShort (calls.call site names name rs).made
  call_on name rs h = called_on name (is_insertion (predefined_of name.text)) rs h

  -- ---- each construct

  abbrev ExprShort : Expr → Type 0
  ExprShort e = AllFit (spelled_expr e) → ReadShort (read site names e)

  abbrev TypeShort : TypeTree → Type 0
  TypeShort t = AllFit (spelled_type t) → (sizes : Bool) → IfGiven SizesShort (reading site names t sizes).made

  abbrev LinksShort : List Link → Type 0
  LinksShort ls = AllFit (all (map spelled_link ls)) → Each LinkedShort (map (linked site names) ls)

  abbrev PostfixShort : Postfix → Type 0
  PostfixShort p = AllFit (spelled_postfix p) → TakenShort (taken site names p)

  abbrev PostfixesShort : List Postfix → Type 0
  PostfixesShort ps = AllFit (all (map spelled_postfix ps)) → Each TakenShort (map (taken site names) ps)

  abbrev IfAnyShort : Option Expr → Type 0
  IfAnyShort o = AllFit (if_any (option_map spelled_expr o)) → IfGiven TypedShort (option_map typed_of (option_map (read site names) o))

  abbrev reads : List Expr → List Read
  reads es = map (read site names) es

  abbrev made_reads : List Expr → List (Option Made)
  made_reads es = map made_of (map typed_of (reads es))

  -- after a comma each
  abbrev ExprsShort : List Expr → Type 0
  ExprsShort es = AllFit (each_after (token.Sign sign.Comma) (map spelled_expr es)) → Each ReadShort (map (read site names) es)

  abbrev EntriesShort : List Entry → Type 0
  EntriesShort es = AllFit (each_after (token.Sign sign.Comma) (map spelled_entry es)) → Each PairedShort (map (paired site names) es)

  abbrev made_expr : Expr-F Expr Postfix TypeTree Entry Link Formal → Read
  made_expr o = check.expr_step site names (map-Expr Expr Postfix TypeTree Entry Link Formal Read Taken Reading Paired Linked Field (read site names) (taken site names) (reading site names) (paired site names) (linked site names) (formal site names) o)

  at_expr : (e : Expr) (o : Expr-F Expr Postfix TypeTree Entry Link Formal) → out-Expr e ≡ o → (AllFit (expr_tokens o) → ReadShort (made_expr o)) → ExprShort e
  at_expr e o h k fit = subst ReadShort (sym (read_is site names e o h)) (k (subst AllFit (expr_spelled e o h) fit))

  abbrev made_postfix : Postfix-F Expr Postfix TypeTree Entry Link Formal → Taken
  made_postfix o = check.postfix_step (map-Postfix Expr Postfix TypeTree Entry Link Formal Read Taken Reading Paired Linked Field (read site names) (taken site names) (reading site names) (paired site names) (linked site names) (formal site names) o)

  at_postfix : (p : Postfix) (o : Postfix-F Expr Postfix TypeTree Entry Link Formal) → out-Postfix p ≡ o → (AllFit (postfix_tokens o) → TakenShort (made_postfix o)) → PostfixShort p
  at_postfix p o h k fit = subst TakenShort (sym (taken_is site names p o h)) (k (subst AllFit (postfix_spelled p o h) fit))

  abbrev made_type : TypeTree-F Expr Postfix TypeTree Entry Link Formal → Reading
  made_type o = type_step names (map-TypeTree Expr Postfix TypeTree Entry Link Formal Read Taken Reading Paired Linked Field (read site names) (taken site names) (reading site names) (paired site names) (linked site names) (formal site names) o)

  at_type : (t : TypeTree) (o : TypeTree-F Expr Postfix TypeTree Entry Link Formal) → out-TypeTree t ≡ o → (AllFit (type_tokens o) → (sizes : Bool) → IfGiven SizesShort (made_type o sizes).made) → TypeShort t
  at_type t o h k fit sizes = subst (λ (r : Reading). IfGiven SizesShort (r sizes).made) (sym (reading_is site names t o h)) (k (subst AllFit (type_spelled t o h) fit) sizes)

  chain_short : (e : Expr) (ls : List Link) → ExprShort e → LinksShort ls → ExprShort (chained e ls)
  chain_short e [] h k = h
  chain_short e (l ∷ ls) h k = at_expr _ _ (expr.outs-Chain e (l ∷ ls)) (λ fit. links_on (typing site names e).made (map (linked site names) (l ∷ ls)) (h (fit_left _ _ fit)) (k (fit_right _ _ fit)))

  link_short : (l : Link) (ls : List Link) → ExprShort l.operand → LinksShort ls → LinksShort (l ∷ ls)
  link_short l ls h k fit =
      let own : AllFit (operator_token l.operator ∷ spelled_expr l.operand) = subst AllFit (link_spelled l) (fit_left (spelled_link l) (all (map spelled_link ls)) fit) in
      (subst LinkedShort (sym (linked_is site names l)) (h own.1), k (fit_right (spelled_link l) (all (map spelled_link ls)) fit))

  parted_short : (e : Expr) (ps : List Postfix) → ExprShort e → PostfixesShort ps → ExprShort (parted e ps)
  parted_short e [] h k = h
  parted_short e (p ∷ ps) h k = at_expr _ _ (expr.outs-Part e (p ∷ ps)) (λ fit. takens_on (typing site names e).made (map (taken site names) (p ∷ ps)) (h (fit_left _ _ fit)) (k (fit_right _ _ fit)))

  entry_short : (e : Entry) → ExprShort e.key → ExprShort e.value → AllFit (spelled_entry e) → PairedShort (paired site names e)
  entry_short e h k fit =
      let own = subst AllFit (entry_spelled e) fit in
      let after : AllFit (token.Sign sign.Colon ∷ spelled_expr e.value) = fit_right (spelled_expr e.key) (token.Sign sign.Colon ∷ spelled_expr e.value) own in
      subst PairedShort (sym (paired_is site names e)) (h (fit_left (spelled_expr e.key) (token.Sign sign.Colon ∷ spelled_expr e.value) own), k after.1)

  -- the first, and those after a comma each
  exprs_short : (e : Expr) (es : List Expr) (more : Tokens) → ExprsShort (e ∷ es) → AllFit (separated (token.Sign sign.Comma) (map spelled_expr (e ∷ es)) ++ more) → Each ReadShort (map (read site names) (e ∷ es))
  exprs_short e es more h fit = h (tt, fit_left (separated (token.Sign sign.Comma) (map spelled_expr (e ∷ es))) more fit)

  slice_spelled : (place : Place) (from upto by : Option Expr) (second : Bool) → postfix_tokens (Postfix-F.Slice place from upto second by)
      ≡ spell.square (if_any (option_map spelled_expr from) ++ token.Sign sign.Colon ∷ if_any (option_map spelled_expr upto) ++ spell.step_tokens second (option_map spelled_expr by))
  slice_spelled place None None None second = refl
  slice_spelled place None None (Some c) second = refl
  slice_spelled place None (Some b) None second = refl
  slice_spelled place None (Some b) (Some c) second = refl
  slice_spelled place (Some a) None None second = refl
  slice_spelled place (Some a) None (Some c) second = refl
  slice_spelled place (Some a) (Some b) None second = refl
  slice_spelled place (Some a) (Some b) (Some c) second = refl

  abbrev typed_bound : Option Expr → Option (Typed Made)
  typed_bound o = option_map typed_of (option_map (read site names) o)

  slice_made : (place : Place) (from upto by : Option Expr) (second : Bool) → made_postfix (Postfix-F.Slice place from upto second by) ≡ slice place (record { from = typed_bound from; upto = typed_bound upto; by = typed_bound by })
  slice_made place None None None second = refl
  slice_made place None None (Some c) second = refl
  slice_made place None (Some b) None second = refl
  slice_made place None (Some b) (Some c) second = refl
  slice_made place (Some a) None None second = refl
  slice_made place (Some a) None (Some c) second = refl
  slice_made place (Some a) (Some b) None second = refl
  slice_made place (Some a) (Some b) (Some c) second = refl

  slice_short : (place : Place) (from upto by : Option Expr) (second : Bool) → IfAnyShort from → IfAnyShort upto → IfAnyShort by
      → (AllFit (spell.step_tokens second (option_map spelled_expr by)) → AllFit (if_any (option_map spelled_expr by))) → PostfixShort (postfix.Slice place from upto second by)
  slice_short place from upto by second h j k given = at_postfix _ _ (postfix.outs-Slice place from upto second by) (λ fit.
      let parts = slice_parts (if_any (option_map spelled_expr from)) (if_any (option_map spelled_expr upto)) (spell.step_tokens second (option_map spelled_expr by)) (subst AllFit (slice_spelled place from upto by second) fit) in
      subst TakenShort (sym (slice_made place from upto by second)) (h parts.0, j parts.1, k (given parts.2)))

  -- ---- all trees

  mutual
    pub expr_short : (l : Level) (d : ℕ) (e : Expr) → FormedExpr l d e → ExprShort e
    expr_short _ _ _ (formed.disjunction {d = d} {e = e} {links = links} f fs) = chain_short e links (expr_short _ d e f) (links_short _ d links fs)
    expr_short _ _ _ (formed.conjunction {d = d} {e = e} {links = links} f fs) = chain_short e links (expr_short _ d e f) (links_short _ d links fs)
    expr_short _ _ _ (formed.negation {d = d} {place = place} {e = e} f) = at_expr _ _ (expr.outs-Prefix prefix.Not place e) (λ fit. prefix_on site prefix.Not place (typing site names e).made (expr_short _ d e f fit.1))
    expr_short _ _ _ (formed.no_negation {d = d} {e = e} f) = expr_short _ d e f
    expr_short _ _ _ (formed.relation {d = d} {sign = s} {place = place} {e = a} {f = b} f g) = at_expr _ _ (expr.outs-Relation a s place b) (λ fit.
        relation_on s place (typing site names a).made (typing site names b).made (expr_short _ d a f (fit_left _ _ fit)) (expr_short _ d b g (fit_right (spelled_expr a) _ fit).1))
    expr_short _ _ _ (formed.no_relation {d = d} {e = e} f) = expr_short _ d e f
    expr_short _ _ _ (formed.sum {d = d} {e = e} {links = links} f fs) = chain_short e links (expr_short _ d e f) (links_short _ d links fs)
    expr_short _ _ _ (formed.product {d = d} {e = e} {links = links} f fs) = chain_short e links (expr_short _ d e f) (links_short _ d links fs)
    expr_short _ _ _ (formed.prefixed {d = d} {sign = s} {place = place} {e = e} is f) = at_expr _ _ (expr.outs-Prefix s place e) (λ fit. prefix_on site s place (typing site names e).made (expr_short _ d e f fit.1))
    expr_short _ _ _ (formed.no_prefix {d = d} {e = e} f) = expr_short _ d e f
    expr_short _ _ _ (formed.power {d = d} {place = place} {e = a} {f = b} f g) = at_expr _ _ (expr.outs-Power a place b) (λ fit.
        power_on place (typing site names a).made (typing site names b).made (expr_short _ _ a f (fit_left _ _ fit)) (expr_short _ d b g (fit_right (spelled_expr a) _ fit).1))
    expr_short _ _ _ (formed.no_power {d = d} {e = e} f) = expr_short _ d e f
    expr_short _ _ _ (formed.post {d = d} {e = e} {postfixes = ps} f fs) = parted_short e ps (expr_short _ d e f) (postfixes_short d ps fs)
    expr_short _ _ _ (formed.int {digits = digits} {place = place}) = at_expr _ _ (expr.outs-Int digits place) (λ fit. settled_on MadeShort LITERAL_RANGE place (int_literal digits) (int_on digits))
    expr_short _ _ _ (formed.real {digits = digits} {place = place}) = at_expr _ _ (expr.outs-Real digits place) (λ fit. settled_on MadeShort LITERAL_RANGE place (real_literal digits) (real_on digits))
    expr_short _ _ _ (formed.text {text = text} {place = place}) = at_expr _ _ (expr.outs-Text text place) (λ fit. text_short text fit.0)
    expr_short _ _ _ (formed.bool {truth = truth} {place = place}) = at_expr _ _ (expr.outs-Bool truth place) (λ fit. bool_on truth)
    expr_short _ _ _ (formed.time {place = place}) = at_expr _ _ (expr.outs-Time place) (λ fit. time_on site place)
    expr_short _ _ _ (formed.name {name = name}) = at_expr _ _ (expr.outs-Named name) (λ fit. name_on names name)
    expr_short _ _ _ (formed.call {d = d} {name = name} {es = []} fs) = at_expr _ _ (expr.outs-Call name []) (λ fit. call_on name [] tt)
    expr_short _ _ _ (formed.call {d = d} {name = name} {es = e ∷ es} fs) = at_expr _ _ (expr.outs-Call name (e ∷ es)) (λ fit. call_on name (reads (e ∷ es)) (exprs_short e es _ (after_short d (e ∷ es) fs) fit.1.1))
    expr_short _ _ _ (formed.cast {d = d} {word = word} {place = place} {e = e} f) = at_expr _ _ (expr.outs-Cast word place e) (λ fit. cast_on site word place (typing site names e).made (expr_short _ d e f (fit_left (spelled_expr e) _ fit.1.1)))
    expr_short _ _ _ (formed.round {d = d} {place = place} {e = e} f) = at_expr _ _ (expr.outs-Round place e) (λ fit. expr_short _ d e f (fit_left (spelled_expr e) _ fit.1))
    expr_short _ _ _ (formed.tuple_of {d = d} {place = place} {e = a} {f = b} {es = es} fs) = at_expr _ _ (expr.outs-TupleOf place (a ∷ b ∷ es)) (λ fit. tuple_on place (made_reads (a ∷ b ∷ es)) (mades (reads (a ∷ b ∷ es)) (exprs_short a (b ∷ es) _ (after_short d (a ∷ b ∷ es) fs) fit.1)))
    expr_short _ _ _ (formed.list_of {d = d} {place = place} {e = e} {es = es} fs) = at_expr _ _ (expr.outs-ListOf place (e ∷ es)) (λ fit. list_on place (made_reads (e ∷ es)) (mades (reads (e ∷ es)) (exprs_short e es _ (after_short d (e ∷ es) fs) fit.1)))
    expr_short _ _ _ (formed.set_of {d = d} {place = place} {e = e} {es = es} fs) = at_expr _ _ (expr.outs-SetOf place (e ∷ es)) (λ fit. set_on place (made_reads (e ∷ es)) (mades (reads (e ∷ es)) (exprs_short e es _ (after_short d (e ∷ es) fs) fit.1)))
    expr_short _ _ _ (formed.dict_of {d = d} {place = place} {e = e} {es = es} fs) = at_expr _ _ (expr.outs-DictOf place (e ∷ es)) (λ fit.
        let each = entries_short d (e ∷ es) fs (tt, fit_left (separated (token.Sign sign.Comma) (map spelled_entry (e ∷ es))) _ fit.1) in
        dict_on place (map key_made (map (paired site names) (e ∷ es))) (map value_made (map (paired site names) (e ∷ es))) (keys (map (paired site names) (e ∷ es)) each) (values (map (paired site names) (e ∷ es)) each))
    expr_short _ _ _ (formed.empty_list {place = place} {t = t} f) = at_expr _ _ (expr.outs-EmptyList place t) (λ fit. empty_list_on place (reading site names t false).made)
    expr_short _ _ _ (formed.empty_set {place = place} {t = t} f) = at_expr _ _ (expr.outs-EmptySet place t) (λ fit. empty_set_on place (reading site names t false).made)
    expr_short _ _ _ (formed.empty_dict {place = place} {k = k} {v = v} f g) = at_expr _ _ (expr.outs-EmptyDict place k v) (λ fit. empty_dict_on place (reading site names k false).made (reading site names v false).made)

    links_short : (l : Level) (d : ℕ) (ls : List Link) → FormedLinks l d ls → LinksShort ls
    links_short _ _ _ formed.no_links = λ fit. tt
    links_short _ _ _ (formed.or_link {d = d} {e = e} {links = ls} f fs) = link_short _ ls (expr_short _ d e f) (links_short _ d ls fs)
    links_short _ _ _ (formed.and_link {d = d} {e = e} {links = ls} f fs) = link_short _ ls (expr_short _ d e f) (links_short _ d ls fs)
    links_short _ _ _ (formed.sum_link {d = d} {e = e} {links = ls} is f fs) = link_short _ ls (expr_short _ d e f) (links_short _ d ls fs)
    links_short _ _ _ (formed.product_link {d = d} {e = e} {links = ls} is f fs) = link_short _ ls (expr_short _ d e f) (links_short _ d ls fs)

    postfixes_short : (d : ℕ) (ps : List Postfix) → FormedPostfixes d ps → PostfixesShort ps
    postfixes_short _ _ formed.no_postfixes = λ fit. tt
    postfixes_short _ _ (formed.postfixes {d = d} {p = p} {ps = ps} f fs) = λ fit. (postfix_short d p f (fit_left (spelled_postfix p) _ fit), postfixes_short d ps fs (fit_right (spelled_postfix p) _ fit))

    postfix_short : (d : ℕ) (p : Postfix) → FormedPostfix d p → PostfixShort p
    postfix_short _ _ (formed.index {d = d} {place = place} {e = e} f) = at_postfix _ _ (postfix.outs-Index place e) (λ fit. expr_short _ d e f (fit_left (spelled_expr e) _ fit.1))
    postfix_short _ _ (formed.slice {d = d} {place = place} {from = from} {upto = upto} f g) = slice_short place from upto None false (any_short d from f) (any_short d upto g) (λ fit. tt) (λ fit. tt)
    postfix_short _ _ (formed.slice_by {d = d} {place = place} {from = from} {upto = upto} {by = by} f g h) = slice_short place from upto by true (any_short d from f) (any_short d upto g) (any_short d by h) (λ fit. fit.1)
    postfix_short _ _ (formed.field {name = name}) = at_postfix _ _ (postfix.outs-Field name) (λ fit. tt)

    any_short : (d : ℕ) (o : Option Expr) → FormedIfAny d o → IfAnyShort o
    any_short _ _ formed.left_out = λ fit. tt
    any_short _ _ (formed.given {d = d} {e = e} f) = expr_short _ d e f

    after_short : (d : ℕ) (es : List Expr) → FormedExprs d es → ExprsShort es
    after_short _ _ formed.no_exprs = λ fit. tt
    after_short _ _ (formed.exprs {d = d} {e = e} {es = es} f fs) = λ fit. (expr_short _ d e f (fit_left (spelled_expr e) _ fit.1), after_short d es fs (fit_right (spelled_expr e) _ fit.1))

    entries_short : (d : ℕ) (es : List Entry) → FormedEntries d es → EntriesShort es
    entries_short _ _ formed.no_entries = λ fit. tt
    entries_short _ _ (formed.entries {d = d} {k = k} {v = v} {es = es} f g fs) = λ fit.
        (entry_short _ (expr_short _ d k f) (expr_short _ d v g) (fit_left (spelled_entry _) _ fit.1), entries_short d es fs (fit_right (spelled_entry _) _ fit.1))

    pub type_short : (d : ℕ) (t : TypeTree) → FormedType d t → TypeShort t
    type_short _ _ (formed.word {word = word} {place = place}) = at_type _ _ (type.outs-Word word place) (λ fit sizes. type_on place [] (types.meaning (types.word_type word)) tt)
    type_short _ _ (formed.named {name = name}) = at_type _ _ (type.outs-Defined name) (λ fit sizes. type_name_on names name)
    type_short _ _ (formed.list {place = place} {t = t} f) = at_type _ _ (type.outs-List place None t) (λ fit sizes. unsized_list_on place (reading site names t false).made)
    type_short _ _ (formed.sized_list {d = d} {place = place} {e = e} {t = t} f g) = at_type _ _ (type.outs-List place (Some e) t) (λ fit sizes.
        sized_list_on place sizes (typing site names e).made (reading site names t sizes).made (expr_short _ d e f (fit_left (spelled_expr e) _ (fit_left (spelled_expr e ++ token.Sign sign.RightParen ∷ []) _ fit.1.1)))
        (type_short d t g (fit_right (spelled_expr e ++ token.Sign sign.RightParen ∷ []) _ fit.1.1) sizes))
    type_short _ _ (formed.set {place = place} {t = t} f) = at_type _ _ (type.outs-Set place t) (λ fit sizes. set_type_on place (reading site names t false).made)
    type_short _ _ (formed.dist {place = place} {t = t} f) = at_type _ _ (type.outs-Dist place t) (λ fit sizes. dist_on place (reading site names t false).made)
    type_short _ _ (formed.dict {place = place} {k = k} {v = v} f g) = at_type _ _ (type.outs-Dict place k v) (λ fit sizes. dict_type_on place (reading site names k false).made (reading site names v false).made)
    type_short _ _ (formed.tuple {place = place} {first = first} {second = second} {more = more} fs) = at_type _ _ (type.outs-Tuple place (first ∷ second ∷ more)) (λ fit sizes. tuple_type_on place (map (λ f. f.name) (map (formal site names) (first ∷ second ∷ more))) (parts_from None (map (formal site names) (first ∷ second ∷ more))))
    type_short _ _ (formed.void {place = place} {way = way}) = at_type _ _ (type.outs-Chan place way None) (λ fit sizes. type_on place [] (types.meaning (ty.Chan (types.way_of way) ty.Void)) tt)
    type_short _ _ (formed.chan {place = place} {way = way} {t = t} f) = at_type _ _ (type.outs-Chan place way (Some t)) (λ fit sizes. chan_on place way (reading site names t false).made)
