-- How statements are lines. `margin` is the number of spaces before the first token of a line; what stands in a block is two
-- spaces further in. A statement is given its margin and the `;` after it, which ends its last line.
use Rattle.std.specs.Prelude.{ℕ, ◌+◌, Bool, true, false, List, [], ◌∷◌, ◌++◌, map}
use Rattle.std.specs.Option.{option_map}
use Rattle.chi_token.specs.declared.keyword.Keyword.TheVariants.{AltWord, BreakWord, ContinueWord, ElifWord, ElseWord, EndWord, ExitWord, FinishWord, ForWord, IfWord, PassWord, ReturnWord, RunWord, SelectWord, StartWord, UnwindWord, WhileWord}
use Rattle.chi_token.specs.declared.sign.Sign.TheVariants.{Assign, Colon, Comma}
use Rattle.chi_token.specs.declared.token.Token.TheVariants.{Text}
use Rattle.chi_tree.specs.declared.statement.Step.{Step, Step-F, fold-Step}
use Rattle.chi_tree.specs.declared.statement.Statement.{Statement, Statement-F, fold-Statement}
use Rattle.chi_tree.specs.declared.statement.Branch.{Branch, Branch-F, fold-Branch}
use Rattle.chi_tree.specs.declared.statement.Alternative.{Alternative, Alternative-F, fold-Alternative}
use Rattle.chi_tree_spell.specs.Words.{write_word, if_any, each_after}
use Rattle.chi_fmt.specs.declared.line.Line.{Line}
use Rattle.chi_fmt.specs.declared.line.Semicolon.{Semicolon}
use Rattle.chi_fmt.specs.declared.spot.Role.TheVariants.{Usual}
use Rattle.chi_fmt.specs.Expressions.{Spots, spot, expr_spots, exprs_spots, type_spots, commas, round}
use Rattle.chi_fmt.specs.Parts.{word, sign, variable_spots, target_spots, walk_spots, communication_spots, elements_spots, offer_spots}

-- two spaces further in
abbrev pub inside : ℕ → ℕ
inside margin = margin + 2

-- lines

-- no `;` is written, and none is kept
abbrev pub no_semicolon : Semicolon
no_semicolon = record { written = false; kept = false }

-- a line at a margin, with no empty line before it
abbrev pub line : ℕ → Spots → Semicolon → Line
line margin spots semicolon = record { after_empty = false; margin = margin; spots = spots; semicolon = semicolon }

-- a line that ends with a colon
abbrev pub header : ℕ → Spots → Line
header margin spots = line margin (spots ++ sign Colon ∷ []) no_semicolon

abbrev pub end_line : ℕ → Semicolon → Line
end_line margin semicolon = line margin (word EndWord ∷ []) semicolon

-- what stands in blocks, given its margin

-- a statement of a block, told whether another one follows
abbrev pub InBlock : Type 0
InBlock = ℕ → Bool → List Line

-- an alternative or a branch, told the tokens with which its first line begins
abbrev pub Led : Type 0
Led = ℕ → Spots → List Line

abbrev pub is_some : {X : Type 0} → List X → Bool
is_some [] = false
is_some (x ∷ xs) = true

abbrev pub block_lines : ℕ → List InBlock → List Line
block_lines margin [] = []
block_lines margin (statement ∷ more) = statement margin (is_some more) ++ block_lines margin more

-- the first one's line begins with these tokens, that of each other with those
abbrev pub led_lines : ℕ → Spots → Spots → List Led → List Line
led_lines margin first others [] = []
led_lines margin first others (part ∷ more) = part margin first ++ led_lines margin others others more

-- a line, and after it the block where there is one, for which the line ends with a colon
abbrev pub lines_with : ℕ → Spots → List InBlock → List Line
lines_with margin spots [] = line margin spots no_semicolon ∷ []
lines_with margin spots (first ∷ more) = header margin spots ∷ block_lines (inside margin) (first ∷ more)

-- nothing where there is no `else`
abbrev pub else_lines : ℕ → List InBlock → List Line
else_lines margin [] = []
else_lines margin (first ∷ more) = header margin (word ElseWord ∷ []) ∷ block_lines (inside margin) (first ∷ more)

-- a line that ends with a colon, the block, and a line with `end`
abbrev pub lines_to_end : ℕ → Spots → List InBlock → Semicolon → List Line
lines_to_end margin spots block semicolon =
    header margin spots ∷ block_lines (inside margin) block ++ end_line margin semicolon ∷ []

-- an unwind: its line, the alternatives in it two spaces further in, and a line with `end`
abbrev pub unwound_lines : ℕ → Spots → List Led → List Line
unwound_lines margin spots alternatives =
    header margin spots ∷ led_lines (inside margin) [] (word AltWord ∷ []) alternatives ++ end_line margin no_semicolon ∷ []

-- statements

abbrev pub OfStatement : Type 0
OfStatement = ℕ → Semicolon → List Line

-- a statement without a block
abbrev pub one_line : Spots → OfStatement
one_line spots margin semicolon = line margin spots semicolon ∷ []

abbrev pub statement_step : Statement-F Led OfStatement Led InBlock → OfStatement
statement_step (Statement-F.Declare ty variables) = one_line (type_spots ty ++ commas (map variable_spots variables))
statement_step (Statement-F.Assign targets equals values) =
    one_line (commas (map target_spots targets) ++ sign Assign ∷ exprs_spots values)
statement_step (Statement-F.Communicate communication) = one_line (communication_spots communication)
statement_step (Statement-F.Pass place) = one_line (word PassWord ∷ [])
statement_step (Statement-F.Break place) = one_line (word BreakWord ∷ [])
statement_step (Statement-F.Continue place) = one_line (word ContinueWord ∷ [])
statement_step (Statement-F.Select place alternatives) = λ margin semicolon.
    led_lines margin (word SelectWord ∷ []) (word AltWord ∷ []) alternatives ++ end_line margin semicolon ∷ []
statement_step (Statement-F.If place branches otherwise) = λ margin semicolon.
    led_lines margin (word IfWord ∷ []) (word ElifWord ∷ []) branches ++ else_lines margin otherwise ++ end_line margin semicolon ∷ []
statement_step (Statement-F.While place condition block) = λ margin semicolon.
    lines_to_end margin (word WhileWord ∷ expr_spots condition) block semicolon
statement_step (Statement-F.For place walk block) = λ margin semicolon.
    lines_to_end margin (word ForWord ∷ walk_spots walk) block semicolon
statement_step (Statement-F.Return place value) = one_line (word ReturnWord ∷ expr_spots value)
statement_step (Statement-F.Exit place value) = one_line (word ExitWord ∷ if_any (option_map expr_spots value))
statement_step (Statement-F.Run place elements) = one_line (word RunWord ∷ elements_spots elements)
statement_step (Statement-F.Start place elements) = one_line (word StartWord ∷ elements_spots elements)
statement_step (Statement-F.Finish place instances) = one_line (word FinishWord ∷ exprs_spots instances)
statement_step (Statement-F.Write place ends_line format format_place values) =
    one_line (word (write_word ends_line) ∷ round (spot (Text format) Usual ∷ each_after (sign Comma) (map expr_spots values)))

-- the `;` after a statement is kept exactly where another statement follows, whether one is written there or not
abbrev pub step_step : Step-F Led OfStatement Led InBlock → InBlock
step_step step = λ margin follows. step.statement margin (record { written = step.semicolon; kept = follows })

abbrev pub branch_step : Branch-F Led OfStatement Led InBlock → Led
branch_step branch = λ margin first. header margin (first ++ expr_spots branch.condition) ∷ block_lines (inside margin) branch.block

abbrev pub alternative_step : Alternative-F Led OfStatement Led InBlock → Led
alternative_step (Alternative-F.Guarded guard communication block) = λ margin first.
    lines_with margin (first ++ offer_spots guard communication) block
alternative_step (Alternative-F.Unwind place walk alternatives) = λ margin first.
    unwound_lines margin (first ++ word UnwindWord ∷ walk_spots walk) alternatives

abbrev pub step_lines : Step → InBlock
step_lines = fold-Step Led OfStatement Led InBlock alternative_step statement_step branch_step step_step

abbrev pub statement_lines : Statement → OfStatement
statement_lines = fold-Statement Led OfStatement Led InBlock alternative_step statement_step branch_step step_step

abbrev pub branch_lines : Branch → Led
branch_lines = fold-Branch Led OfStatement Led InBlock alternative_step statement_step branch_step step_step

abbrev pub alternative_lines : Alternative → Led
alternative_lines = fold-Alternative Led OfStatement Led InBlock alternative_step statement_step branch_step step_step
