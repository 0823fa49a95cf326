-- What the tokens of a source are as a program; and what those from an index on are as an expression or a type.
use Rattle.std.specs.Prelude.{ℕ, ◌+◌, ◌≡◌, List, map, take, drop, Result, Ok, Err}
use Rattle.chi_token.specs.declared.place.Spanned.{Spanned}
use Rattle.chi_tree.specs.declared.definition.Program.{Program}
use Rattle.chi_tree.specs.declared.expr.Expr.{Expr}
use Rattle.chi_tree.specs.declared.type_tree.TypeTree.{TypeTree}
use Rattle.chi_grammar.specs.declared.fault.ParseFault.{ParseFault}
use Rattle.chi_grammar.specs.declared.fault.ParseFault.TheVariants.{Syntax, TooDeep, NoMemory}
use Rattle.chi_grammar.specs.declared.room.Room.{Room}
use Rattle.chi_tree.specs.Limits.{whole_room}
use Rattle.chi_tree_spell.specs.Expressions.{spelled_expr, spelled_type, marked_expr, marked_type}
use Rattle.chi_tree_spell.specs.Marks.{Agree}
use Rattle.chi_tree_spell.specs.Statements.{spelled, AgreesWith}
use Rattle.chi_tree_spell.specs.Words.{token_of}
use Rattle.chi_tree_laws.specs.Beginnings.{NamesDepth, NamesFault, StandsLongest, NamesStop}
use Rattle.chi_tree_laws.specs.Definitions.{FormedProgram}
use Rattle.chi_tree_laws.specs.Expressions.{FormedType, FormedExpr}
use Rattle.chi_tree_laws.specs.Levels as level
use Rattle.chi_tree_laws.specs.ExprNestings.{expr_nestings, type_nestings}
use Rattle.chi_tree_laws.specs.StatementNestings.{nestings}

-- an expression or a type has no blocks

abbrev pub ExprWithin : ℕ → ℕ → Expr → Type 0
ExprWithin b d e = FormedExpr level.Expr d e

abbrev pub TypeWithin : ℕ → ℕ → TypeTree → Type 0
TypeWithin b d ty = FormedType d ty

-- a source

-- the tokens are this program: it is formed within the limits, they are its spelling, and each place that it keeps is that of
-- its token
pub record IsProgram (tokens : List Spanned) (program : Program) : Type 0 where
  pub formed : FormedProgram whole_room.blocks whole_room.expressions program
  pub same : spelled program ≡ map token_of tokens
  pub agrees : AgreesWith program tokens

-- token k of them is the first that is too deep
abbrev pub IsDepth : List Spanned → ℕ → Type 0
IsDepth tokens k = NamesDepth FormedProgram spelled nestings whole_room.blocks whole_room.expressions (map token_of tokens) k

-- they are no program: token k is the first with which none goes on
abbrev pub IsFault : List Spanned → ℕ → Type 0
IsFault tokens k = NamesFault FormedProgram spelled nestings whole_room.blocks whole_room.expressions (map token_of tokens) k

-- They are this program, or they are none: token k is at fault, or the first that is too deep. Want of memory is none of these.
abbrev pub IsAnswer : List Spanned → Result Program ParseFault → Type 0
IsAnswer tokens (Ok program) = IsProgram tokens program
IsAnswer tokens (Err (Syntax k)) = IsFault tokens k
IsAnswer tokens (Err (TooDeep k)) = IsDepth tokens k
IsAnswer tokens (Err NoMemory) = ⊥

-- the tokens from an index on, within limits on nesting; an index is counted among all the tokens
module _ (tokens : List Spanned) (at : ℕ) (room : Room) where
  -- the longest expression that stands there is this one, with its places, and ends before the index
  abbrev pub IsLongestExpr : Expr → ℕ → Type 0
  IsLongestExpr e end =
      (n : ℕ) × (end ≡ at + n)
      × StandsLongest ExprWithin spelled_expr expr_nestings room.blocks room.expressions (map token_of (drop at tokens)) n e
      × Agree (marked_expr e) (take n (drop at tokens))

  -- no expression goes on with the token, and none ends before it
  abbrev pub IsExprStop : ℕ → Type 0
  IsExprStop k =
      (n : ℕ) × (k ≡ at + n) × NamesStop ExprWithin spelled_expr expr_nestings room.blocks room.expressions (map token_of (drop at tokens)) n

  -- the token is the first of an expression that is too deep
  abbrev pub IsExprDepth : ℕ → Type 0
  IsExprDepth k =
      (n : ℕ) × (k ≡ at + n) × NamesDepth ExprWithin spelled_expr expr_nestings room.blocks room.expressions (map token_of (drop at tokens)) n

  -- the same of a type

  abbrev pub IsLongestType : TypeTree → ℕ → Type 0
  IsLongestType ty end =
      (n : ℕ) × (end ≡ at + n)
      × StandsLongest TypeWithin spelled_type type_nestings room.blocks room.expressions (map token_of (drop at tokens)) n ty
      × Agree (marked_type ty) (take n (drop at tokens))

  abbrev pub IsTypeStop : ℕ → Type 0
  IsTypeStop k =
      (n : ℕ) × (k ≡ at + n) × NamesStop TypeWithin spelled_type type_nestings room.blocks room.expressions (map token_of (drop at tokens)) n

  abbrev pub IsTypeDepth : ℕ → Type 0
  IsTypeDepth k =
      (n : ℕ) × (k ≡ at + n) × NamesDepth TypeWithin spelled_type type_nestings room.blocks room.expressions (map token_of (drop at tokens)) n
