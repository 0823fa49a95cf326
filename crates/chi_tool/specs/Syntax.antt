-- What the tokens of a source are as a program, and the lines of the parser's refusals.
use Rattle.std.specs.Prelude.{ℕ, List, [], ◌++◌, length, slice_get, codes, Option, Some, None}
use Rattle.std.specs.Fmt.{decimal}
use Rattle.chi_token.specs.declared.place.Place.{Place}
use Rattle.chi_token.specs.declared.place.Spanned.{Spanned}
use Rattle.chi_lex.specs.Places.{place_of}
use Rattle.chi_grammar.specs.declared.fault.ParseFault.{ParseFault}
use Rattle.chi_grammar.specs.declared.fault.ParseFault.TheVariants.{Syntax, TooDeep, NoMemory}
use Rattle.chi_tree.specs.declared.definition.Program.{Program}
use Rattle.chi_tree_laws.specs.Answers.{IsProgram, IsFault, IsDepth}

-- the tokens are this program: it is formed within the limits on nesting, and they are its spelling, with its places
abbrev pub HasTree : List Spanned → Program → Type 0
HasTree tokens tree = IsProgram tokens tree

-- The tokens are no program: token k is the first with which none goes on, or the first that stands too deep.
-- Want of memory is no fault of the tokens.
abbrev pub HasFault : List Spanned → ParseFault → Type 0
HasFault tokens (Syntax k) = IsFault tokens k
HasFault tokens (TooDeep k) = IsDepth tokens k
HasFault tokens NoMemory = ⊥

-- where a line of a refusal stands
abbrev pub placed : Place → List ℕ → List ℕ
placed place what = codes "line " ++ decimal place.line ++ codes " column " ++ decimal place.column ++ codes ": " ++ what

-- the place of a token of a source, or of the source's end
abbrev pub place_of_token : List ℕ → Option Spanned → Place
place_of_token source (Some token) = token.place
place_of_token source None = place_of source (length source)

-- what is wrong with token k, counted from 0, at its place
abbrev pub token_text : List ℕ → List Spanned → List ℕ → ℕ → List ℕ
token_text source tokens what k = placed (place_of_token source (slice_get tokens k)) (what ++ codes " at token " ++ decimal k)

-- the line of a fault of the tokens
abbrev pub syntax_text : List ℕ → List Spanned → ParseFault → List ℕ
syntax_text source tokens (Syntax k) = token_text source tokens (codes "syntax") k
syntax_text source tokens (TooDeep k) = token_text source tokens (codes "too deep") k
syntax_text source tokens NoMemory = []
