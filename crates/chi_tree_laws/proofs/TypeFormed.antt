-- What the grammar builds as a type is shown as a formed one: part by part.
use Rattle.std.proofs.Common.{◌≡◌, ℕ, suc, List, refl, ap, sym, subst, arith}
use Rattle.chi_grammar.specs.declared.room.Nesting.TheVariants as nesting
use Rattle.chi_grammar.specs.declared.room.Room.{Room}
use Rattle.chi_grammar.specs.Rooms.{IsInside}
use Rattle.chi_grammar.specs.Rules.{Rule, node, part, many}
use Rattle.chi_token.specs.declared.place.Place.{Place}
use Rattle.chi_token.specs.declared.place.Spanned.{Spanned}
use Rattle.chi_tree.specs.declared.type_tree.TypeTree.{TypeTree}
use Rattle.chi_tree.specs.declared.type_tree.TypeTree.TheVariants as type
use Rattle.chi_tree.specs.declared.type_tree.Formal.{Formal}
use Rattle.chi_tree.specs.declared.expr.Expr.{Expr}
use Rattle.chi_tree.specs.declared.expr.Postfix.{Postfix}
use Rattle.chi_tree.specs.Parts.{Part}
use Rattle.chi_tree.specs.Parts as s
use Rattle.chi_tree.specs.Rules.{rule_of}
use Rattle.chi_tree.specs.View.{Built, more_formals_of}
use Rattle.chi_tree_laws.specs.Levels.{Level}
use Rattle.chi_tree_laws.specs.Expressions.{FormedType, FormedFormals, MoreFormals, FormedExpr, FormedLinks, FormedPostfix, FormedPostfixes, FormedIfAny, FormedExprs, FormedEntries}
use Rattle.chi_tree_laws.specs.Expressions as formed
use Rattle.chi_tree.proofs.Made.{Made}
use Rattle.chi_tree.proofs.Made as made
use Rattle.chi_tree_laws.proofs.ShownExpressions.{Formed}

-- what the rule builds, where each part in it is shown as a formed one
abbrev pub F : Room → Rule Spanned Part → Built → Type 0
F = Made Formed

-- what is formed with a level more than there is inside, is formed in the room around

pub deep_type : {room inner : Room} {t : TypeTree} → IsInside nesting.Expression room inner → FormedType (suc inner.expressions) t → FormedType room.expressions t
deep_type {t = t} i p = subst (λ d. FormedType d t) (sym i.1) p

pub deep_expr : {room inner : Room} {level : Level} {e : Expr} → IsInside nesting.Expression room inner → FormedExpr level (suc inner.expressions) e → FormedExpr level room.expressions e
deep_expr {level = level} {e = e} i p = subst (λ d. FormedExpr level d e) (sym i.1) p

pub deep_postfix : {room inner : Room} {p : Postfix} → IsInside nesting.Expression room inner → FormedPostfix (suc inner.expressions) p → FormedPostfix room.expressions p
deep_postfix {p = p} i q = subst (λ d. FormedPostfix d p) (sym i.1) q

-- with as many levels

pub at_type : {c d : ℕ} {t : TypeTree} → c ≡ d → FormedType c t → FormedType d t
at_type {t = t} is p = subst (λ d. FormedType d t) is p

pub at_expr : {level : Level} {c d : ℕ} {e : Expr} → c ≡ d → FormedExpr level c e → FormedExpr level d e
at_expr {level = level} {e = e} is p = subst (λ d. FormedExpr level d e) is p

-- the levels inside are as many, whatever way in
pub alike : {room inner other : Room} → IsInside nesting.Expression room inner → IsInside nesting.Expression room other → inner.expressions ≡ other.expressions
alike i j = omega (arith, i.1, j.1)

-- types

pub any_type : {room : Room} {t : Built} → F room (rule_of s.AnyType) t → Formed room s.AnyType (node s.AnyType t)
any_type (made.left (made.part p)) = p
any_type (made.right (made.part p)) = p

pub named_type : {room : Room} {t : Built} → F room (rule_of s.NamedType) t → Formed room s.NamedType (node s.NamedType t)
named_type (made.word e) = formed.named

pub built_type : {room : Room} {t : Built} → F room (rule_of s.BuiltType) t → Formed room s.BuiltType (node s.BuiltType t)
built_type (made.left (made.part p)) = p
built_type (made.right (made.left (made.part p))) = p
built_type (made.right (made.right (made.left (made.part p)))) = p
built_type (made.right (made.right (made.right (made.left (made.part p))))) = p
built_type (made.right (made.right (made.right (made.right (made.left (made.part p)))))) = p
built_type (made.right (made.right (made.right (made.right (made.right (made.left (made.part p))))))) = p
built_type (made.right (made.right (made.right (made.right (made.right (made.right (made.part p))))))) = p

pub word_type : {room : Room} {t : Built} → F room (rule_of s.WordType) t → Formed room s.WordType (node s.WordType t)
word_type (made.left (made.word e)) = formed.word
word_type (made.right (made.left (made.word e))) = formed.word
word_type (made.right (made.right (made.left (made.word e)))) = formed.word
word_type (made.right (made.right (made.right (made.left (made.word e))))) = formed.word
word_type (made.right (made.right (made.right (made.right (made.left (made.word e)))))) = formed.word
word_type (made.right (made.right (made.right (made.right (made.right (made.word e)))))) = formed.word

pub list_type : {room : Room} {t : Built} → F room (rule_of s.ListType) t → Formed room s.ListType (node s.ListType t)
list_type (made.both w (made.both made.never (made.deeper i (made.part {t = t} p)))) =
    deep_type i (formed.list p)
list_type (made.both w (made.both (made.once (made.deeper i (made.both l (made.both (made.part {t = u} e) r)))) (made.deeper j (made.part {t = t} p)))) =
    deep_type i
    (formed.sized_list e (at_type (alike j i) p))

pub set_type : {room : Room} {t : Built} → F room (rule_of s.SetType) t → Formed room s.SetType (node s.SetType t)
set_type (made.both w (made.deeper i (made.part {t = t} p))) =
    deep_type i (formed.set p)

pub dist_type : {room : Room} {t : Built} → F room (rule_of s.DistType) t → Formed room s.DistType (node s.DistType t)
dist_type (made.both w (made.deeper i (made.part {t = t} p))) =
    deep_type i (formed.dist p)

pub dict_type : {room : Room} {t : Built} → F room (rule_of s.DictType) t → Formed room s.DictType (node s.DictType t)
dict_type (made.both w (made.deeper i (made.both l (made.both (made.deeper j (made.part {t = t} p)) (made.both c (made.both (made.deeper k (made.part {t = u} q)) r)))))) =
    deep_type i (at_type (ap (λ n. suc n) (sym j.1)) (formed.dict p (at_type (alike k j) q)))

with_fields : {d : ℕ} {place : Place} {fs gs : List Formal} → fs ≡ gs → FormedType d (type.Tuple place gs) → FormedType d (type.Tuple place fs)
with_fields {d = d} {place = place} is p = subst (λ fs. FormedType d (type.Tuple place fs)) (sym is) p

pub tuple_type : {room : Room} {t : Built} → F room (rule_of s.TupleType) t → Formed room s.TupleType (node s.TupleType t)
tuple_type (made.both w (made.deeper i (made.both l (made.both (made.part p) r)))) =
    with_fields p.are (deep_type i (at_type (ap (λ n. suc n) (sym p.is_inside.1)) (formed.tuple p.formed)))

pub chan_type : {room : Room} {t : Built} → F room (rule_of s.ChanType) t → Formed room s.ChanType (node s.ChanType t)
chan_type (made.both w (made.both way (made.part p))) = p _ _

pub carried : {room : Room} {t : Built} → F room (rule_of s.Carried) t → Formed room s.Carried (node s.Carried t)
carried (made.left (made.word e)) = λ place way. formed.void
carried (made.right (made.deeper i (made.part {t = t} p))) =
    λ place way. deep_type i (formed.chan p)

-- formals and fields

more_formals : {room : Room} {t : Built} → F room (many (part s.MoreFormal)) t → MoreFormals room.expressions (more_formals_of t)
more_formals made.enough = formed.no_more
more_formals (made.more (made.part p) ps) = p _ (more_formals ps)

more_fields : {room inner : Room} {t : Built} → IsInside nesting.Expression room inner → F room (many (part s.MoreField)) t
    → MoreFormals inner.expressions (more_formals_of t)
more_fields i made.enough = formed.no_more
more_fields i (made.more (made.part p) ps) = p _ i.1 _ (more_fields i ps)

pub formals_formed : {room : Room} {t : Built} → F room (rule_of s.Formals) t → Formed room s.Formals (node s.Formals t)
formals_formed (made.both (made.part p) (made.both n fs)) = formed.formals p (more_formals fs)

pub fields_formed : {room : Room} {t : Built} → F room (rule_of s.Fields) t → Formed room s.Fields (node s.Fields t)
fields_formed (made.both (made.deeper {inner = inner} i (made.part p)) (made.both n (made.both (made.part f) fs))) =
    record {
      inner = inner;
      is_inside = i;
      first = _;
      second = _;
      more = _;
      are = refl;
      formed = formed.formals p (f _ i.1 _ (more_fields i fs));
    }

pub more_formal : {room : Room} {t : Built} → F room (rule_of s.MoreFormal) t → Formed room s.MoreFormal (node s.MoreFormal t)
more_formal (made.left (made.both c (made.word e))) = λ fs p. formed.comma p
more_formal (made.right (made.both c (made.both (made.part q) n))) = λ fs p. formed.semicolon q p

pub more_field : {room : Room} {t : Built} → F room (rule_of s.MoreField) t → Formed room s.MoreField (node s.MoreField t)
more_field (made.left (made.both c (made.word e))) = λ d is fs p. formed.comma p
more_field (made.right (made.both c (made.both (made.deeper i (made.part {t = t} q)) n))) =
    λ d is fs p. formed.semicolon (at_type (omega (arith, i.1, is)) q) p
