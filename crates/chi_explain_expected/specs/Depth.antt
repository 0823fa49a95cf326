-- Which limit on nesting a token passes.
use Rattle.std.specs.Prelude.{ℕ, List, [], ◌∷◌, ◌++◌}
use Rattle.chi_token.specs.declared.keyword.Keyword.TheVariants.{PassWord}
use Rattle.chi_token.specs.declared.place.Spanned.{Spanned}
use Rattle.chi_token.specs.declared.token.Token.TheVariants.{Word}
use Rattle.chi_tree.specs.Limits.{whole_room}
use Rattle.chi_tree_spell.specs.Statements.{spelled}
use Rattle.chi_tree_spell.specs.Words.{Tokens}
use Rattle.chi_tree_laws.specs.Beginnings.{NamesDepth}
use Rattle.chi_tree_laws.specs.Definitions.{FormedProgram}
use Rattle.chi_tree_laws.specs.StatementNestings.{nestings}
use Rattle.chi_explain_expected.specs.Expected.{tokens_before}

-- token k is the first of the tokens that passes a limit
abbrev pub IsFirstTooDeep : Tokens → ℕ → Type 0
IsFirstTooDeep tokens k = NamesDepth FormedProgram spelled nestings whole_room.blocks whole_room.expressions tokens k

-- A statement is too deep at token k: `pass`, which is the shortest, would pass a limit there. So the limit is that on blocks,
-- since no statement stands in an expression or a type.
abbrev pub IsBlockTooDeep : List Spanned → ℕ → Type 0
IsBlockTooDeep tokens k = IsFirstTooDeep (tokens_before tokens k ++ Word PassWord ∷ []) k
