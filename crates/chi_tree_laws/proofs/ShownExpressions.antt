-- For each part that an expression or a type is built of: what it is shown as is formed.
use Rattle.std.proofs.Common.{◌≡◌, ℕ, suc, List, ◌∷◌, Option}
use Rattle.chi_grammar.specs.declared.room.Nesting.TheVariants as nesting
use Rattle.chi_grammar.specs.declared.room.Room.{Room}
use Rattle.chi_grammar.specs.Rooms.{IsInside}
use Rattle.chi_grammar.specs.Rules.{node}
use Rattle.chi_token.specs.declared.place.Place.{Place}
use Rattle.chi_tree.specs.declared.type_tree.TypeTree.{TypeTree}
use Rattle.chi_tree.specs.declared.type_tree.TypeTree.TheVariants as type
use Rattle.chi_tree.specs.declared.type_tree.Way.{Way}
use Rattle.chi_tree.specs.declared.type_tree.Formal.{Formal}
use Rattle.chi_tree.specs.declared.expr.Expr.{Expr}
use Rattle.chi_tree.specs.declared.expr.Entry.{Entry}
use Rattle.chi_tree.specs.declared.expr.Link.{Link}
use Rattle.chi_tree.specs.Parts.{Part}
use Rattle.chi_tree.specs.Parts as s
use Rattle.chi_tree.specs.View.{Built, type_of, carried_of, formals_of, formal_of, expr_of, link_of, related, powered, postfix_of, inside, indexed, stepped, arguments_of, exprs_of, bracketed, braced, entry_of, blank}
use Rattle.chi_tree_laws.specs.Levels.{Level}
use Rattle.chi_tree_laws.specs.Levels as level
use Rattle.chi_tree_laws.specs.Expressions.{FormedType, FormedFormals, MoreFormals, FormedExpr, FormedLinks, FormedPostfix, FormedIfAny, FormedExprs, FormedEntries}

-- the fields of a tuple, in its brackets
pub record FieldsFormed (room : Room) (t : Built) : Type 0 where
  pub inner : Room
  pub is_inside : IsInside nesting.Expression room inner
  pub first : Formal
  pub second : Formal
  pub more : List Formal
  pub are : formals_of t ≡ first ∷ second ∷ more
  pub formed : FormedFormals inner.expressions (first ∷ second ∷ more)

pub record ArgumentsFormed (room : Room) (t : Built) : Type 0 where
  pub inner : Room
  pub is_inside : IsInside nesting.Expression room inner
  pub formed : FormedExprs inner.expressions (arguments_of t)

pub record ExprsFormed (room : Room) (t : Built) : Type 0 where
  pub first : Expr
  pub more : List Expr
  pub are : exprs_of t ≡ first ∷ more
  pub formed : FormedExprs room.expressions (first ∷ more)

pub record OthersFormed (room : Room) (t : Built) : Type 0 where
  pub tuple : (place : Place) (e : Expr) → FormedExpr level.Expr room.expressions e → FormedExpr level.Primary (suc room.expressions) (bracketed place e t)
  pub set : (place : Place) (e : Expr) → FormedExpr level.Expr room.expressions e → FormedExpr level.Primary (suc room.expressions) (braced place e t)

pub record UptoFormed (room : Room) (t : Built) : Type 0 where
  pub after : (place : Place) (e : Expr) → FormedExpr level.Expr room.expressions e → FormedPostfix (suc room.expressions) (indexed place e t)
  pub alone : (place : Place) → FormedPostfix (suc room.expressions) (inside place (node s.Inside t))

-- one more of the operators of a level
abbrev pub LinkFormed : Level → Room → Link → Type 0
LinkFormed level room link = (links : List Link) → FormedLinks level room.expressions links → FormedLinks level room.expressions (link ∷ links)

abbrev pub Formed : Room → Part → Built → Type 0
Formed room s.AnyType t = FormedType room.expressions (type_of t)
Formed room s.NamedType t = FormedType room.expressions (type_of t)
Formed room s.BuiltType t = FormedType room.expressions (type_of t)
Formed room s.WordType t = FormedType room.expressions (type_of t)
Formed room s.ListType t = FormedType room.expressions (type_of t)
Formed room s.SetType t = FormedType room.expressions (type_of t)
Formed room s.DistType t = FormedType room.expressions (type_of t)
Formed room s.DictType t = FormedType room.expressions (type_of t)
Formed room s.TupleType t = FormedType room.expressions (type_of t)
Formed room s.ChanType t = FormedType room.expressions (type_of t)
Formed room s.Carried t = (place : Place) (way : Way) → FormedType room.expressions (type.Chan place way (carried_of t))
Formed room s.Formals t = FormedFormals room.expressions (formals_of t)
Formed room s.Fields t = FieldsFormed room t
Formed room s.MoreFormal t = (fs : List Formal) → MoreFormals room.expressions fs → MoreFormals room.expressions (formal_of t ∷ fs)
Formed room s.MoreField t = (d : ℕ) → room.expressions ≡ suc d → (fs : List Formal) → MoreFormals d fs → MoreFormals d (formal_of t ∷ fs)
Formed room s.Expr t = FormedExpr level.Expr room.expressions (expr_of t)
Formed room s.Conj t = FormedExpr level.Conj room.expressions (expr_of t)
Formed room s.Neg t = FormedExpr level.Neg room.expressions (expr_of t)
Formed room s.Rel t = FormedExpr level.Rel room.expressions (expr_of t)
Formed room s.Sum t = FormedExpr level.Sum room.expressions (expr_of t)
Formed room s.Prod t = FormedExpr level.Prod room.expressions (expr_of t)
Formed room s.Unary t = FormedExpr level.Unary room.expressions (expr_of t)
Formed room s.Power t = FormedExpr level.Power room.expressions (expr_of t)
Formed room s.Post t = FormedExpr level.Post room.expressions (expr_of t)
Formed room s.Primary t = FormedExpr level.Primary room.expressions (expr_of t)
Formed room s.Literal t = FormedExpr level.Primary room.expressions (expr_of t)
Formed room s.Named t = FormedExpr level.Primary room.expressions (expr_of t)
Formed room s.Cast t = FormedExpr level.Primary room.expressions (expr_of t)
Formed room s.Blank t = FormedExpr level.Primary room.expressions (expr_of t)
Formed room s.NotNeg t = FormedExpr level.Neg (suc room.expressions) (expr_of t)
Formed room s.Prefixed t = FormedExpr level.Unary (suc room.expressions) (expr_of t)
Formed room s.Round t = FormedExpr level.Primary (suc room.expressions) (expr_of t)
Formed room s.Square t = FormedExpr level.Primary (suc room.expressions) (expr_of t)
Formed room s.Curly t = FormedExpr level.Primary (suc room.expressions) (expr_of t)
Formed room s.OrLink t = LinkFormed level.Expr room (link_of t)
Formed room s.AndLink t = LinkFormed level.Conj room (link_of t)
Formed room s.SumLink t = LinkFormed level.Sum room (link_of t)
Formed room s.ProdLink t = LinkFormed level.Prod room (link_of t)
Formed room s.RelLink t = (e : Expr) → FormedExpr level.Sum room.expressions e → FormedExpr level.Rel room.expressions (related e t)
Formed room s.PowerLink t = (e : Expr) → FormedExpr level.Post room.expressions e → FormedExpr level.Power room.expressions (powered e t)
Formed room s.Postfix t = FormedPostfix room.expressions (postfix_of t)
Formed room s.TargetStep t = FormedPostfix room.expressions (postfix_of t)
Formed room s.Field t = FormedPostfix room.expressions (postfix_of t)
Formed room s.Bracket t = FormedPostfix (suc room.expressions) (postfix_of t)
Formed room s.TargetIndex t = FormedPostfix (suc room.expressions) (postfix_of t)
Formed room s.Inside t = (place : Place) → FormedPostfix (suc room.expressions) (inside place t)
Formed room s.Upto t = UptoFormed room t
Formed room s.ByStep t = (place : Place) (from upto : Option Expr) → FormedIfAny room.expressions from → FormedIfAny room.expressions upto
    → FormedPostfix (suc room.expressions) (stepped place from upto t)
Formed room s.Arguments t = ArgumentsFormed room t
Formed room s.Exprs t = ExprsFormed room t
Formed room s.Others t = OthersFormed room t
Formed room s.Contents t = (place : Place) (e : Expr) → FormedExpr level.Expr room.expressions e → FormedExpr level.Primary (suc room.expressions) (braced place e t)
Formed room s.Entries t = (place : Place) (e : Expr) → FormedExpr level.Expr room.expressions e → FormedExpr level.Primary (suc room.expressions) (braced place e t)
Formed room s.MoreEntry t = (es : List Entry) → FormedEntries room.expressions es → FormedEntries room.expressions (entry_of t ∷ es)
Formed room s.BlankEnd t = (place : Place) (ty : TypeTree) → FormedType room.expressions ty → FormedExpr level.Primary room.expressions (blank place ty t)
Formed room _ t = Unit {0}
