-- What the grammar builds as an expression is shown as a formed one: part by part.
use Rattle.std.proofs.Common.{◌≡◌, ℕ, suc, List, ◌∷◌, Some, None, refl, ap, sym, subst}
use Rattle.chi_grammar.specs.declared.room.Room.{Room}
use Rattle.chi_grammar.specs.Rules.{node, part, ◌▸◌, maybe, many}
use Rattle.chi_token.specs.declared.place.Place.{Place}
use Rattle.chi_token.specs.declared.place.Spanned.{Spanned}
use Rattle.chi_token.specs.declared.sign.Sign.TheVariants.{Comma}
use Rattle.chi_tree.specs.declared.expr.Expr.{Expr}
use Rattle.chi_tree.specs.declared.expr.Link.{Link}
use Rattle.chi_tree.specs.declared.expr.Expr.TheVariants as expr
use Rattle.chi_tree.specs.declared.operator.Operator.{Operator}
use Rattle.chi_tree.specs.Classes.{class_of, number_of}
use Rattle.chi_tree.specs.Parts.{Part}
use Rattle.chi_tree.specs.Parts as s
use Rattle.chi_tree.specs.Rules.{rule_of, sign}
use Rattle.chi_tree.specs.Tokens.{bytes_of}
use Rattle.chi_tree.specs.View.{operator_shown, prefix_shown, literal_shown, Built, expr_of, links_of, postfixes_of, optional, more_exprs_of, entries_of}
use Rattle.chi_tree_laws.specs.Levels.{Level, level_of, prefix_level}
use Rattle.chi_tree_laws.specs.Levels as level
use Rattle.chi_tree_laws.specs.Expressions.{FormedType, FormedFormals, MoreFormals, FormedExpr, FormedLinks, FormedPostfix, FormedPostfixes, FormedIfAny, FormedExprs, FormedEntries}
use Rattle.chi_tree_laws.specs.Expressions as formed
use Rattle.chi_tree.proofs.ClassTokens.{token_at, token_is}
use Rattle.chi_tree.proofs.Made.{Made}
use Rattle.chi_tree.proofs.Made as made
use Rattle.chi_tree_laws.proofs.ShownExpressions.{Formed}
use Rattle.chi_tree_laws.proofs.TypeFormed.{F, deep_expr, deep_postfix, at_type, at_expr}

-- chains

or_links : {room : Room} {t : Built} → F room (many (part s.OrLink)) t → FormedLinks level.Expr room.expressions (links_of t)
or_links made.enough = formed.no_links
or_links (made.more (made.part p) ps) = p _ (or_links ps)

and_links : {room : Room} {t : Built} → F room (many (part s.AndLink)) t → FormedLinks level.Conj room.expressions (links_of t)
and_links made.enough = formed.no_links
and_links (made.more (made.part p) ps) = p _ (and_links ps)

sum_links : {room : Room} {t : Built} → F room (many (part s.SumLink)) t → FormedLinks level.Sum room.expressions (links_of t)
sum_links made.enough = formed.no_links
sum_links (made.more (made.part p) ps) = p _ (sum_links ps)

prod_links : {room : Room} {t : Built} → F room (many (part s.ProdLink)) t → FormedLinks level.Prod room.expressions (links_of t)
prod_links made.enough = formed.no_links
prod_links (made.more (made.part p) ps) = p _ (prod_links ps)

operator_is : (x : Spanned) {n : ℕ} → number_of (class_of x.token) ≡ n → operator_shown x.token ≡ operator_shown (token_at n (bytes_of x.token))
operator_is x e = ap operator_shown (token_is x.token e)

with_operator : {level : Level} {d : ℕ} {o p : Operator} {place : Place} {e : Expr} {links : List Link} → o ≡ p
    → FormedLinks level d (formed.link p place e ∷ links) → FormedLinks level d (formed.link o place e ∷ links)
with_operator {level = level} {d = d} {place = place} {e = e} {links = links} is h =
    subst (λ o. FormedLinks level d (formed.link o place e ∷ links)) (sym is) h

pub expr_formed : {room : Room} {t : Built} → F room (rule_of s.Expr) t → Formed room s.Expr (node s.Expr t)
expr_formed (made.both (made.part p) ls) = formed.disjunction p (or_links ls)

pub or_link : {room : Room} {t : Built} → F room (rule_of s.OrLink) t → Formed room s.OrLink (node s.OrLink t)
or_link (made.both (made.word {x = x} e) (made.part {t = t} p)) =
    λ links ls. with_operator (operator_is x e) (formed.or_link p ls)

pub conj : {room : Room} {t : Built} → F room (rule_of s.Conj) t → Formed room s.Conj (node s.Conj t)
conj (made.both (made.part p) ls) = formed.conjunction p (and_links ls)

pub and_link : {room : Room} {t : Built} → F room (rule_of s.AndLink) t → Formed room s.AndLink (node s.AndLink t)
and_link (made.both (made.word {x = x} e) (made.part {t = t} p)) =
    λ links ls. with_operator (operator_is x e) (formed.and_link p ls)

pub neg : {room : Room} {t : Built} → F room (rule_of s.Neg) t → Formed room s.Neg (node s.Neg t)
neg (made.left (made.deeper i (made.part {t = t} p))) =
    deep_expr i p
neg (made.right (made.part p)) = formed.no_negation p

pub not_neg : {room : Room} {t : Built} → F room (rule_of s.NotNeg) t → Formed room s.NotNeg (node s.NotNeg t)
not_neg (made.both w (made.part p)) = formed.negation p

pub rel : {room : Room} {t : Built} → F room (rule_of s.Rel) t → Formed room s.Rel (node s.Rel t)
rel (made.both (made.part p) made.never) = formed.no_relation p
rel (made.both (made.part p) (made.once (made.part q))) = q _ p

pub rel_link : {room : Room} {t : Built} → F room (rule_of s.RelLink) t → Formed room s.RelLink (node s.RelLink t)
rel_link (made.both (made.left (made.word x)) (made.part q)) = λ e p. formed.relation p q
rel_link (made.both (made.right (made.left (made.word x))) (made.part q)) = λ e p. formed.relation p q
rel_link (made.both (made.right (made.right (made.left (made.word x)))) (made.part q)) = λ e p. formed.relation p q
rel_link (made.both (made.right (made.right (made.right (made.left (made.word x))))) (made.part q)) =
    λ e p. formed.relation p q
rel_link (made.both (made.right (made.right (made.right (made.right (made.left (made.word x)))))) (made.part q)) =
    λ e p. formed.relation p q
rel_link (made.both (made.right (made.right (made.right (made.right (made.right (made.left (made.word x))))))) (made.part q)) =
    λ e p. formed.relation p q
rel_link (made.both (made.right (made.right (made.right (made.right (made.right (made.right (made.left (made.word x)))))))) (made.part q)) =
    λ e p. formed.relation p q
rel_link (made.both (made.right (made.right (made.right (made.right (made.right (made.right (made.right (made.word x)))))))) (made.part q)) =
    λ e p. formed.relation p q

pub sum : {room : Room} {t : Built} → F room (rule_of s.Sum) t → Formed room s.Sum (node s.Sum t)
sum (made.both (made.part p) ls) = formed.sum p (sum_links ls)

pub sum_link : {room : Room} {t : Built} → F room (rule_of s.SumLink) t → Formed room s.SumLink (node s.SumLink t)
sum_link (made.both (made.left (made.word {x = x} e)) (made.part p)) =
    λ links ls. formed.sum_link (ap level_of (operator_is x e)) p ls
sum_link (made.both (made.right (made.word {x = x} e)) (made.part p)) =
    λ links ls. formed.sum_link (ap level_of (operator_is x e)) p ls

pub prod : {room : Room} {t : Built} → F room (rule_of s.Prod) t → Formed room s.Prod (node s.Prod t)
prod (made.both (made.part p) ls) = formed.product p (prod_links ls)

pub prod_link : {room : Room} {t : Built} → F room (rule_of s.ProdLink) t → Formed room s.ProdLink (node s.ProdLink t)
prod_link (made.both (made.left (made.word {x = x} e)) (made.part p)) =
    λ links ls. formed.product_link (ap level_of (operator_is x e)) p ls
prod_link (made.both (made.right (made.left (made.word {x = x} e))) (made.part p)) =
    λ links ls. formed.product_link (ap level_of (operator_is x e)) p ls
prod_link (made.both (made.right (made.right (made.left (made.word {x = x} e)))) (made.part p)) =
    λ links ls. formed.product_link (ap level_of (operator_is x e)) p ls
prod_link (made.both (made.right (made.right (made.right (made.word {x = x} e)))) (made.part p)) =
    λ links ls. formed.product_link (ap level_of (operator_is x e)) p ls

pub unary : {room : Room} {t : Built} → F room (rule_of s.Unary) t → Formed room s.Unary (node s.Unary t)
unary (made.left (made.deeper i (made.part {t = t} p))) =
    deep_expr i p
unary (made.right (made.part p)) = formed.no_prefix p

pub prefixed : {room : Room} {t : Built} → F room (rule_of s.Prefixed) t → Formed room s.Prefixed (node s.Prefixed t)
prefixed (made.both (made.left (made.word {x = x} e)) (made.part p)) =
    formed.prefixed (ap (λ w. prefix_level (prefix_shown w)) (token_is x.token e)) p
prefixed (made.both (made.right (made.left (made.word {x = x} e))) (made.part p)) =
    formed.prefixed (ap (λ w. prefix_level (prefix_shown w)) (token_is x.token e)) p
prefixed (made.both (made.right (made.right (made.word {x = x} e))) (made.part p)) =
    formed.prefixed (ap (λ w. prefix_level (prefix_shown w)) (token_is x.token e)) p

pub power : {room : Room} {t : Built} → F room (rule_of s.Power) t → Formed room s.Power (node s.Power t)
power (made.both (made.part p) made.never) = formed.no_power p
power (made.both (made.part p) (made.once (made.part q))) = q _ p

pub power_link : {room : Room} {t : Built} → F room (rule_of s.PowerLink) t → Formed room s.PowerLink (node s.PowerLink t)
power_link (made.both w (made.deeper i (made.part {t = t} q))) =
    λ e p. deep_expr i
    (formed.power (at_expr i.1 p) q)

-- parts of an expression

postfixes : {room : Room} {t : Built} → F room (many (part s.Postfix)) t → FormedPostfixes room.expressions (postfixes_of t)
postfixes made.enough = formed.no_postfixes
postfixes (made.more (made.part p) ps) = formed.postfixes p (postfixes ps)

pub post : {room : Room} {t : Built} → F room (rule_of s.Post) t → Formed room s.Post (node s.Post t)
post (made.both (made.part p) ps) = formed.post p (postfixes ps)

pub postfix_formed : {room : Room} {t : Built} → F room (rule_of s.Postfix) t → Formed room s.Postfix (node s.Postfix t)
postfix_formed (made.left (made.deeper i (made.part {t = t} p))) = deep_postfix i p
postfix_formed (made.right (made.part p)) = p

pub target_step : {room : Room} {t : Built} → F room (rule_of s.TargetStep) t → Formed room s.TargetStep (node s.TargetStep t)
target_step (made.left (made.deeper i (made.part {t = t} p))) =
    deep_postfix i p
target_step (made.right (made.part p)) = p

pub target_index : {room : Room} {t : Built} → F room (rule_of s.TargetIndex) t → Formed room s.TargetIndex (node s.TargetIndex t)
target_index (made.both l (made.both (made.part p) r)) = formed.index p

pub field : {room : Room} {t : Built} → F room (rule_of s.Field) t → Formed room s.Field (node s.Field t)
field (made.both w n) = formed.field

pub bracket : {room : Room} {t : Built} → F room (rule_of s.Bracket) t → Formed room s.Bracket (node s.Bracket t)
bracket (made.both l (made.both (made.part p) r)) = p _

pub inside_formed : {room : Room} {t : Built} → F room (rule_of s.Inside) t → Formed room s.Inside (node s.Inside t)
inside_formed (made.left (made.both (made.part p) made.never)) = λ place. formed.index p
inside_formed (made.left (made.both (made.part p) (made.once (made.part q)))) = λ place. q.after place _ p
inside_formed (made.right (made.part q)) = q.alone

expr_if : {room : Room} {t : Built} → F room (maybe (part s.Expr)) t → FormedIfAny room.expressions (optional t (expr_of t))
expr_if made.never = formed.left_out
expr_if (made.once (made.part p)) = formed.given p

pub upto_formed : {room : Room} {t : Built} → F room (rule_of s.Upto) t → Formed room s.Upto (node s.Upto t)
upto_formed (made.both c (made.both p made.never)) =
    record {
      after = λ place e q. formed.slice (formed.given q) (expr_if p);
      alone = λ place. formed.slice formed.left_out (expr_if p);
    }
upto_formed (made.both c (made.both p (made.once (made.part q)))) =
    record {
      after = λ place e h. q place (Some e) _ (formed.given h) (expr_if p);
      alone = λ place. q place None _ formed.left_out (expr_if p);
    }

pub by_step : {room : Room} {t : Built} → F room (rule_of s.ByStep) t → Formed room s.ByStep (node s.ByStep t)
by_step (made.both c p) = λ place from upto q r. formed.slice_by q r (expr_if p)

-- what is no operator's operand

pub primary : {room : Room} {t : Built} → F room (rule_of s.Primary) t → Formed room s.Primary (node s.Primary t)
primary (made.left (made.part p)) = p
primary (made.right (made.left (made.part p))) = p
primary (made.right (made.right (made.left (made.part p)))) = p
primary (made.right (made.right (made.right (made.left (made.deeper i (made.part {t = t} p)))))) =
    deep_expr i p
primary (made.right (made.right (made.right (made.right (made.left (made.deeper i (made.part {t = t} p))))))) =
    deep_expr i p
primary (made.right (made.right (made.right (made.right (made.right (made.left (made.deeper i (made.part {t = t} p)))))))) =
    deep_expr i p
primary (made.right (made.right (made.right (made.right (made.right (made.right (made.part p))))))) = p

literal_is : (x : Spanned) {n : ℕ} {d : ℕ} → number_of (class_of x.token) ≡ n
    → FormedExpr level.Primary d (literal_shown (token_at n (bytes_of x.token)) x.place) → FormedExpr level.Primary d (literal_shown x.token x.place)
literal_is x {d = d} e p = subst (λ w. FormedExpr level.Primary d (literal_shown w x.place)) (sym (token_is x.token e)) p

pub literal_formed : {room : Room} {t : Built} → F room (rule_of s.Literal) t → Formed room s.Literal (node s.Literal t)
literal_formed (made.left (made.word {x = x} e)) = literal_is x e formed.int
literal_formed (made.right (made.left (made.word {x = x} e))) = literal_is x e formed.real
literal_formed (made.right (made.right (made.left (made.word {x = x} e)))) = literal_is x e formed.text
literal_formed (made.right (made.right (made.right (made.left (made.word {x = x} e))))) = literal_is x e formed.bool
literal_formed (made.right (made.right (made.right (made.right (made.left (made.word {x = x} e)))))) = literal_is x e formed.bool
literal_formed (made.right (made.right (made.right (made.right (made.right (made.word {x = x} e)))))) = literal_is x e formed.time

pub named : {room : Room} {t : Built} → F room (rule_of s.Named) t → Formed room s.Named (node s.Named t)
named (made.both n made.never) = formed.name
named (made.both n (made.once (made.part {t = t} p))) =
    deep_expr p.is_inside (formed.call p.formed)

pub arguments : {room : Room} {t : Built} → F room (rule_of s.Arguments) t → Formed room s.Arguments (node s.Arguments t)
arguments (made.deeper {inner = inner} i (made.both l (made.both made.never r))) =
    record { inner = inner; is_inside = i; formed = formed.no_exprs }
arguments (made.deeper {inner = inner} i (made.both l (made.both (made.once (made.part p)) r))) =
    record { inner = inner; is_inside = i; formed = subst (λ es. FormedExprs inner.expressions es) (sym p.are) p.formed }

pub cast_formed : {room : Room} {t : Built} → F room (rule_of s.Cast) t → Formed room s.Cast (node s.Cast t)
cast_formed (made.both (made.left (made.word e)) (made.deeper i (made.both l (made.both (made.part {t = t} p) r)))) =
    deep_expr i (formed.cast p)
cast_formed (made.both (made.right (made.left (made.word e))) (made.deeper i (made.both l (made.both (made.part {t = t} p) r)))) =
    deep_expr i (formed.cast p)
cast_formed (made.both (made.right (made.right (made.left (made.word e)))) (made.deeper i (made.both l (made.both (made.part {t = t} p) r)))) =
    deep_expr i (formed.cast p)
cast_formed (made.both (made.right (made.right (made.right (made.left (made.word e))))) (made.deeper i (made.both l (made.both (made.part {t = t} p) r)))) =
    deep_expr i (formed.cast p)
cast_formed (made.both (made.right (made.right (made.right (made.right (made.word e))))) (made.deeper i (made.both l (made.both (made.part {t = t} p) r)))) =
    deep_expr i (formed.cast p)

pub round_formed : {room : Room} {t : Built} → F room (rule_of s.Round) t → Formed room s.Round (node s.Round t)
round_formed (made.both l (made.both (made.part p) (made.both made.never r))) = formed.round p
round_formed (made.both l (made.both (made.part p) (made.both (made.once (made.part q)) r))) = q.tuple _ _ p

pub others : {room : Room} {t : Built} → F room (rule_of s.Others) t → Formed room s.Others (node s.Others t)
others {room = room} (made.both c (made.part p)) =
    record {
      tuple = λ place e q. subst (λ es. FormedExpr level.Primary (suc room.expressions) (expr.TupleOf place (e ∷ es))) (sym p.are) (formed.tuple_of (formed.exprs q p.formed));
      set = λ place e q. subst (λ es. FormedExpr level.Primary (suc room.expressions) (expr.SetOf place (e ∷ es))) (sym p.are) (formed.set_of (formed.exprs q p.formed));
    }

with_items : {d : ℕ} {place : Place} {es fs : List Expr} → es ≡ fs → FormedExpr level.Primary d (expr.ListOf place fs)
    → FormedExpr level.Primary d (expr.ListOf place es)
with_items {d = d} {place = place} is p = subst (λ es. FormedExpr level.Primary d (expr.ListOf place es)) (sym is) p

pub square_formed : {room : Room} {t : Built} → F room (rule_of s.Square) t → Formed room s.Square (node s.Square t)
square_formed (made.both l (made.both (made.part p) r)) =
    with_items p.are (formed.list_of p.formed)

pub curly_formed : {room : Room} {t : Built} → F room (rule_of s.Curly) t → Formed room s.Curly (node s.Curly t)
curly_formed (made.both l (made.both (made.part p) (made.both made.never r))) = formed.set_of (formed.exprs p formed.no_exprs)
curly_formed (made.both l (made.both (made.part p) (made.both (made.once (made.part q)) r))) = q _ _ p

pub contents : {room : Room} {t : Built} → F room (rule_of s.Contents) t → Formed room s.Contents (node s.Contents t)
contents (made.left (made.part q)) = q.set
contents (made.right (made.part q)) = q

more_entries : {room : Room} {t : Built} → F room (many (part s.MoreEntry)) t → FormedEntries room.expressions (entries_of t)
more_entries made.enough = formed.no_entries
more_entries (made.more (made.part p) ps) = p _ (more_entries ps)

pub entries : {room : Room} {t : Built} → F room (rule_of s.Entries) t → Formed room s.Entries (node s.Entries t)
entries (made.both c (made.both (made.part p) es)) = λ place e q. formed.dict_of (formed.entries q p (more_entries es))

pub more_entry : {room : Room} {t : Built} → F room (rule_of s.MoreEntry) t → Formed room s.MoreEntry (node s.MoreEntry t)
more_entry (made.both c (made.both (made.part p) (made.both w (made.part q)))) = λ es ps. formed.entries p q ps

pub blank_formed : {room : Room} {t : Built} → F room (rule_of s.Blank) t → Formed room s.Blank (node s.Blank t)
blank_formed (made.both l (made.both (made.part p) (made.part q))) = q _ _ p

pub blank_end : {room : Room} {t : Built} → F room (rule_of s.BlankEnd) t → Formed room s.BlankEnd (node s.BlankEnd t)
blank_end (made.left (made.both g (made.left (made.deeper i (made.part p))))) =
    λ place ty q. deep_expr i (formed.empty_list (at_type i.1 q))
blank_end (made.left (made.both g (made.right (made.deeper i (made.part p))))) =
    λ place ty q. deep_expr i (formed.empty_set (at_type i.1 q))
blank_end (made.right (made.both c (made.both (made.part {t = t} r) (made.both g (made.deeper i (made.part p)))))) =
    λ place ty q. deep_expr i
    (formed.empty_dict (at_type i.1 q) (at_type i.1 r))

pub more_exprs : {room : Room} {t : Built} → F room (many (sign Comma ▸ part s.Expr)) t → FormedExprs room.expressions (more_exprs_of t)
more_exprs made.enough = formed.no_exprs
more_exprs (made.more (made.both c (made.part p)) ps) = formed.exprs p (more_exprs ps)

pub exprs : {room : Room} {t : Built} → F room (rule_of s.Exprs) t → Formed room s.Exprs (node s.Exprs t)
exprs (made.both (made.part p) ps) = record { first = _; more = _; are = refl; formed = formed.exprs p (more_exprs ps) }
