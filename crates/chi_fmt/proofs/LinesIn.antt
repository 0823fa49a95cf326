-- The lines of each kind of statement, by those of its parts.
use Rattle.std.proofs.Common.{◌≡◌, ℕ, Bool, List, [], ◌∷◌, ◌++◌, Option, map, ap, sym, ◌∙◌}
use Rattle.std.specs.Option.{option_map}
use Rattle.chi_token.specs.declared.place.Place.{Place}
use Rattle.chi_token.specs.declared.keyword.Keyword.TheVariants.{AltWord, BreakWord, ContinueWord, ElifWord, ExitWord, FinishWord, ForWord, IfWord, PassWord, ReturnWord, RunWord, SelectWord, StartWord, UnwindWord, WhileWord}
use Rattle.chi_token.specs.declared.sign.Sign.TheVariants.{Assign, Comma}
use Rattle.chi_token.specs.declared.token.Token.TheVariants.{Text}
use Rattle.chi_tree.specs.declared.type_tree.TypeTree.{TypeTree}
use Rattle.chi_tree.specs.declared.expr.Expr.{Expr}
use Rattle.chi_tree.specs.declared.statement.Variable.{Variable}
use Rattle.chi_tree.specs.declared.statement.Target.{Target}
use Rattle.chi_tree.specs.declared.statement.Walk.{Walk}
use Rattle.chi_tree.specs.declared.statement.Communication.{Communication}
use Rattle.chi_tree.specs.declared.statement.Element.{Element}
use Rattle.chi_tree.specs.declared.statement.Step.{Step, fold_out-Step}
use Rattle.chi_tree.specs.declared.statement.Statement.{Statement-F, fold-roll-Statement}
use Rattle.chi_tree.specs.declared.statement.Statement.TheVariants as statement
use Rattle.chi_tree.specs.declared.statement.Branch.{Branch, roll-Branch, fold-roll-Branch}
use Rattle.chi_tree.specs.declared.statement.Alternative.{Alternative, Alternative-F, fold-roll-Alternative}
use Rattle.chi_tree.specs.declared.statement.Alternative.TheVariants as alternative
use Rattle.chi_tree_spell.specs.Words.{write_word, if_any, each_after}
use Rattle.chi_fmt.specs.declared.spot.Role.TheVariants.{Usual}
use Rattle.chi_fmt.specs.Expressions.{spot, expr_spots, exprs_spots, type_spots, commas, round}
use Rattle.chi_fmt.specs.Parts.{word, sign, variable_spots, target_spots, walk_spots, communication_spots, elements_spots, offer_spots}
use Rattle.chi_fmt.specs.Lines.{Led, OfStatement, InBlock, inside, header, end_line, block_lines, led_lines, lines_with, else_lines, lines_to_end, unwound_lines, one_line, statement_step, step_step, branch_step, alternative_step, step_lines, statement_lines, branch_lines, alternative_lines}

pub lines-Declare : (ty : TypeTree) (vs : List Variable) → statement_lines (statement.Declare ty vs) ≡ one_line (type_spots ty ++ commas (map variable_spots vs))
lines-Declare ty vs = ap statement_lines (sym (statement.rolls-Declare ty vs)) ∙ fold-roll-Statement Led OfStatement Led InBlock alternative_step statement_step branch_step step_step (Statement-F.Declare ty vs)

pub lines-Assign : (ts : List Target) (p : Place) (es : List Expr) → statement_lines (statement.Assign ts p es) ≡ one_line (commas (map target_spots ts) ++ sign Assign ∷ exprs_spots es)
lines-Assign ts p es = ap statement_lines (sym (statement.rolls-Assign ts p es)) ∙ fold-roll-Statement Led OfStatement Led InBlock alternative_step statement_step branch_step step_step (Statement-F.Assign ts p es)

pub lines-Communicate : (c : Communication) → statement_lines (statement.Communicate c) ≡ one_line (communication_spots c)
lines-Communicate c = ap statement_lines (sym (statement.rolls-Communicate c)) ∙ fold-roll-Statement Led OfStatement Led InBlock alternative_step statement_step branch_step step_step (Statement-F.Communicate c)

pub lines-Pass : (p : Place) → statement_lines (statement.Pass p) ≡ one_line (word PassWord ∷ [])
lines-Pass p = ap statement_lines (sym (statement.rolls-Pass p)) ∙ fold-roll-Statement Led OfStatement Led InBlock alternative_step statement_step branch_step step_step (Statement-F.Pass p)

pub lines-Break : (p : Place) → statement_lines (statement.Break p) ≡ one_line (word BreakWord ∷ [])
lines-Break p = ap statement_lines (sym (statement.rolls-Break p)) ∙ fold-roll-Statement Led OfStatement Led InBlock alternative_step statement_step branch_step step_step (Statement-F.Break p)

pub lines-Continue : (p : Place) → statement_lines (statement.Continue p) ≡ one_line (word ContinueWord ∷ [])
lines-Continue p = ap statement_lines (sym (statement.rolls-Continue p)) ∙ fold-roll-Statement Led OfStatement Led InBlock alternative_step statement_step branch_step step_step (Statement-F.Continue p)

pub lines-Select : (p : Place) (xs : List Alternative) → statement_lines (statement.Select p xs) ≡ (λ margin semicolon. led_lines margin (word SelectWord ∷ []) (word AltWord ∷ []) (map alternative_lines xs) ++ end_line margin semicolon ∷ [])
lines-Select p xs = ap statement_lines (sym (statement.rolls-Select p xs)) ∙ fold-roll-Statement Led OfStatement Led InBlock alternative_step statement_step branch_step step_step (Statement-F.Select p xs)

pub lines-If : (p : Place) (bs : List Branch) (other : List Step) → statement_lines (statement.If p bs other) ≡ (λ margin semicolon. led_lines margin (word IfWord ∷ []) (word ElifWord ∷ []) (map branch_lines bs) ++ else_lines margin (map step_lines other) ++ end_line margin semicolon ∷ [])
lines-If p bs other = ap statement_lines (sym (statement.rolls-If p bs other)) ∙ fold-roll-Statement Led OfStatement Led InBlock alternative_step statement_step branch_step step_step (Statement-F.If p bs other)

pub lines-While : (p : Place) (e : Expr) (b : List Step) → statement_lines (statement.While p e b) ≡ (λ margin semicolon. lines_to_end margin (word WhileWord ∷ expr_spots e) (map step_lines b) semicolon)
lines-While p e b = ap statement_lines (sym (statement.rolls-While p e b)) ∙ fold-roll-Statement Led OfStatement Led InBlock alternative_step statement_step branch_step step_step (Statement-F.While p e b)

pub lines-For : (p : Place) (w : Walk) (b : List Step) → statement_lines (statement.For p w b) ≡ (λ margin semicolon. lines_to_end margin (word ForWord ∷ walk_spots w) (map step_lines b) semicolon)
lines-For p w b = ap statement_lines (sym (statement.rolls-For p w b)) ∙ fold-roll-Statement Led OfStatement Led InBlock alternative_step statement_step branch_step step_step (Statement-F.For p w b)

pub lines-Return : (p : Place) (e : Expr) → statement_lines (statement.Return p e) ≡ one_line (word ReturnWord ∷ expr_spots e)
lines-Return p e = ap statement_lines (sym (statement.rolls-Return p e)) ∙ fold-roll-Statement Led OfStatement Led InBlock alternative_step statement_step branch_step step_step (Statement-F.Return p e)

pub lines-Exit : (p : Place) (e : Option Expr) → statement_lines (statement.Exit p e) ≡ one_line (word ExitWord ∷ if_any (option_map expr_spots e))
lines-Exit p e = ap statement_lines (sym (statement.rolls-Exit p e)) ∙ fold-roll-Statement Led OfStatement Led InBlock alternative_step statement_step branch_step step_step (Statement-F.Exit p e)

pub lines-Run : (p : Place) (es : List Element) → statement_lines (statement.Run p es) ≡ one_line (word RunWord ∷ elements_spots es)
lines-Run p es = ap statement_lines (sym (statement.rolls-Run p es)) ∙ fold-roll-Statement Led OfStatement Led InBlock alternative_step statement_step branch_step step_step (Statement-F.Run p es)

pub lines-Start : (p : Place) (es : List Element) → statement_lines (statement.Start p es) ≡ one_line (word StartWord ∷ elements_spots es)
lines-Start p es = ap statement_lines (sym (statement.rolls-Start p es)) ∙ fold-roll-Statement Led OfStatement Led InBlock alternative_step statement_step branch_step step_step (Statement-F.Start p es)

pub lines-Finish : (p : Place) (es : List Expr) → statement_lines (statement.Finish p es) ≡ one_line (word FinishWord ∷ exprs_spots es)
lines-Finish p es = ap statement_lines (sym (statement.rolls-Finish p es)) ∙ fold-roll-Statement Led OfStatement Led InBlock alternative_step statement_step branch_step step_step (Statement-F.Finish p es)

pub lines-Write : (p : Place) (line : Bool) (text : List ℕ) (at : Place) (es : List Expr) → statement_lines (statement.Write p line text at es) ≡ one_line (word (write_word line) ∷ round (spot (Text text) Usual ∷ each_after (sign Comma) (map expr_spots es)))
lines-Write p line text at es = ap statement_lines (sym (statement.rolls-Write p line text at es)) ∙ fold-roll-Statement Led OfStatement Led InBlock alternative_step statement_step branch_step step_step (Statement-F.Write p line text at es)

pub lines-Guarded : (guard : Option Expr) (c : Communication) (b : List Step) → alternative_lines (alternative.Guarded guard c b)
    ≡ (λ margin first. lines_with margin (first ++ offer_spots guard c) (map step_lines b))
lines-Guarded guard c b =
    ap alternative_lines (sym (alternative.rolls-Guarded guard c b)) ∙ fold-roll-Alternative Led OfStatement Led InBlock alternative_step statement_step branch_step step_step (Alternative-F.Guarded guard c b)

pub lines-Unwind : (p : Place) (w : Walk) (xs : List Alternative) → alternative_lines (alternative.Unwind p w xs)
    ≡ (λ margin first. unwound_lines margin (first ++ word UnwindWord ∷ walk_spots w) (map alternative_lines xs))
lines-Unwind p w xs =
    ap alternative_lines (sym (alternative.rolls-Unwind p w xs)) ∙ fold-roll-Alternative Led OfStatement Led InBlock alternative_step statement_step branch_step step_step (Alternative-F.Unwind p w xs)

pub lines-Step : (s : Step) → step_lines s ≡ (λ margin follows. statement_lines s.statement margin (record { written = s.semicolon; kept = follows }))
lines-Step s = fold_out-Step Led OfStatement Led InBlock alternative_step statement_step branch_step step_step s

pub lines-Branch : (e : Expr) (b : List Step) → branch_lines (roll-Branch (record { condition = e; block = b }))
    ≡ (λ margin first. header margin (first ++ expr_spots e) ∷ block_lines (inside margin) (map step_lines b))
lines-Branch e b = fold-roll-Branch Led OfStatement Led InBlock alternative_step statement_step branch_step step_step (record { condition = e; block = b })
