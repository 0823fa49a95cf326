-- The lines of formed statements are those of the same without their places.
use Rattle.std.proofs.Common.{◌≡◌, ℕ, Bool, true, false, List, [], ◌∷◌, ◌++◌, map, ap, sym, ◌∙◌}
use Rattle.std.specs.Option.{option_map}
use Rattle.chi_token.specs.declared.keyword.Keyword.TheVariants.{AltWord, ElifWord, ExitWord, FinishWord, ForWord, IfWord, ReturnWord, RunWord, SelectWord, StartWord, UnwindWord, WhileWord}
use Rattle.chi_token.specs.declared.sign.Sign.TheVariants.{Assign, Comma}
use Rattle.chi_token.specs.declared.token.Token.TheVariants.{Text}
use Rattle.chi_tree.specs.declared.expr.Expr.{Expr}
use Rattle.chi_tree.specs.declared.statement.Step.{Step}
use Rattle.chi_tree.specs.declared.statement.Statement.{Statement}
use Rattle.chi_tree.specs.declared.statement.Branch.{Branch}
use Rattle.chi_tree.specs.declared.statement.Alternative.{Alternative}
use Rattle.chi_tree.specs.Statements.{step}
use Rattle.chi_tree.specs.View.{nowhere}
use Rattle.chi_tree_spell.specs.Words.{each_after, write_word}
use Rattle.chi_tree_laws.specs.Statements.{FormedBlock, FormedInner, FormedStatement, FormedBranches, FormedAlternatives, FormedAlternative}
use Rattle.chi_tree_laws.specs.Statements as formed
use Rattle.chi_tree_laws.specs.Unplaced.{unplaced_expr, unplaced_type}
use Rattle.chi_tree_laws.specs.UnplacedStatements.{unplaced_variable, unplaced_target, unplaced_walk, unplaced_communication, unplaced_element, unplaced_statement, unplaced_step, unplaced_branch, unplaced_alternative}
use Rattle.chi_tree_laws.proofs.UnplacedStatementTrees as without
use Rattle.chi_fmt.specs.declared.spot.Role.TheVariants.{Usual}
use Rattle.chi_fmt.specs.Expressions.{expr_spots, spot, commas, round}
use Rattle.chi_fmt.specs.Parts.{sign, word}
use Rattle.chi_fmt.specs.Lines.{inside, header, end_line, block_lines, led_lines, lines_with, else_lines, lines_to_end, unwound_lines, one_line, step_lines, statement_lines, branch_lines, alternative_lines}
use Rattle.chi_fmt.proofs.LinesIn as lines
use Rattle.chi_fmt.proofs.PlacelessExprs.{type-same, expr-same, exprs-same, if-same}
use Rattle.chi_fmt.proofs.PlacelessParts.{variables-same, targets-same, walk-same, communication-same, offer-same, elements-same}

step-same : (s : Statement) (c : Bool) → statement_lines (unplaced_statement s) ≡ statement_lines s → step_lines (unplaced_step (step s c)) ≡ step_lines (step s c)
step-same s c e =
    ap step_lines (without.step-without (step s c)) ∙ lines.lines-Step (step (unplaced_statement s) c)
    ∙ (λ i margin follows. e i margin (record { written = c; kept = follows })) ∙ sym (lines.lines-Step (step s c))

branch-same : (e : Expr) (b : List Step) → expr_spots (unplaced_expr e) ≡ expr_spots e → map step_lines (map unplaced_step b) ≡ map step_lines b
    → branch_lines (unplaced_branch (formed.branch e b)) ≡ branch_lines (formed.branch e b)
branch-same e b s r =
    ap branch_lines (without.branch-without e b) ∙ lines.lines-Branch (unplaced_expr e) (map unplaced_step b)
    ∙ (λ i margin first. header margin (first ++ s i) ∷ block_lines (inside margin) (r i)) ∙ sym (lines.lines-Branch e b)

mutual
  pub block-same : {b d : ℕ} {block : List Step} → FormedBlock b d block → map step_lines (map unplaced_step block) ≡ map step_lines block
  block-same (formed.last {semicolon = c} {s = s} h) = λ i. step-same s c (statement-same h) i ∷ []
  block-same (formed.next {s = s} h hs) = λ i. step-same s true (statement-same h) i ∷ block-same hs i
  block-same (formed.after_end {s = s} h hs) = λ i. step-same s false (statement-same h) i ∷ block-same hs i

  pub inner-same : {b d : ℕ} {block : List Step} → FormedInner b d block → map step_lines (map unplaced_step block) ≡ map step_lines block
  inner-same (formed.inner h) = block-same h

  statement-same : {ends : Bool} {b d : ℕ} {s : Statement} → FormedStatement ends b d s → statement_lines (unplaced_statement s) ≡ statement_lines s
  statement-same (formed.declare {t = t} {vs = vs} h hs) =
      ap statement_lines (without.statement-Declare t vs) ∙ lines.lines-Declare (unplaced_type t) (map unplaced_variable vs)
      ∙ (λ i. one_line (type-same h i ++ commas (variables-same hs i))) ∙ sym (lines.lines-Declare t vs)
  statement-same (formed.assign {ts = ts} {place = p} {e = e} {es = es} h hs) =
      ap statement_lines (without.statement-Assign ts p (e ∷ es)) ∙ lines.lines-Assign (map unplaced_target ts) nowhere (map unplaced_expr (e ∷ es))
      ∙ (λ i. one_line (commas (targets-same h i) ++ sign Assign ∷ commas (exprs-same hs i))) ∙ sym (lines.lines-Assign ts p (e ∷ es))
  statement-same (formed.communicate {c = c} h) =
      ap statement_lines (without.statement-Communicate c) ∙ lines.lines-Communicate (unplaced_communication c)
      ∙ ap one_line (communication-same h) ∙ sym (lines.lines-Communicate c)
  statement-same (formed.pass {place = p}) = ap statement_lines (without.statement-Pass p) ∙ lines.lines-Pass nowhere ∙ sym (lines.lines-Pass p)
  statement-same (formed.leave {place = p}) = ap statement_lines (without.statement-Break p) ∙ lines.lines-Break nowhere ∙ sym (lines.lines-Break p)
  statement-same (formed.continue {place = p}) = ap statement_lines (without.statement-Continue p) ∙ lines.lines-Continue nowhere ∙ sym (lines.lines-Continue p)
  statement-same (formed.select {place = p} {xs = xs} hs) =
      ap statement_lines (without.statement-Select p xs) ∙ lines.lines-Select nowhere (map unplaced_alternative xs)
      ∙ (λ i margin semicolon. led_lines margin (word SelectWord ∷ []) (word AltWord ∷ []) (alternatives-same hs i) ++ end_line margin semicolon ∷ [])
      ∙ sym (lines.lines-Select p xs)
  statement-same (formed.if_branches {place = p} {bs = bs} hs) =
      ap statement_lines (without.statement-If p bs []) ∙ lines.lines-If nowhere (map unplaced_branch bs) []
      ∙ (λ i margin semicolon. led_lines margin (word IfWord ∷ []) (word ElifWord ∷ []) (branches-same hs i) ++ else_lines margin [] ++ end_line margin semicolon ∷ [])
      ∙ sym (lines.lines-If p bs [])
  statement-same (formed.if_else {place = p} {bs = bs} {block = block} hs j) =
      ap statement_lines (without.statement-If p bs block) ∙ lines.lines-If nowhere (map unplaced_branch bs) (map unplaced_step block)
      ∙ (λ i margin semicolon. led_lines margin (word IfWord ∷ []) (word ElifWord ∷ []) (branches-same hs i) ++ else_lines margin (inner-same j i) ++ end_line margin semicolon ∷ [])
      ∙ sym (lines.lines-If p bs block)
  statement-same (formed.while {place = p} {e = e} {block = block} h j) =
      ap statement_lines (without.statement-While p e block) ∙ lines.lines-While nowhere (unplaced_expr e) (map unplaced_step block)
      ∙ (λ i margin semicolon. lines_to_end margin (word WhileWord ∷ expr-same h i) (inner-same j i) semicolon) ∙ sym (lines.lines-While p e block)
  statement-same (formed.for_each {place = p} {walk = w} {block = block} h j) =
      ap statement_lines (without.statement-For p w block) ∙ lines.lines-For nowhere (unplaced_walk w) (map unplaced_step block)
      ∙ (λ i margin semicolon. lines_to_end margin (word ForWord ∷ walk-same h i) (inner-same j i) semicolon) ∙ sym (lines.lines-For p w block)
  statement-same (formed.return {place = p} {e = e} h) =
      ap statement_lines (without.statement-Return p e) ∙ lines.lines-Return nowhere (unplaced_expr e)
      ∙ ap (λ xs. one_line (word ReturnWord ∷ xs)) (expr-same h) ∙ sym (lines.lines-Return p e)
  statement-same (formed.exit {place = p} {e = e} h) =
      ap statement_lines (without.statement-Exit p e) ∙ lines.lines-Exit nowhere (option_map unplaced_expr e)
      ∙ ap (λ xs. one_line (word ExitWord ∷ xs)) (if-same h) ∙ sym (lines.lines-Exit p e)
  statement-same (formed.run {place = p} {es = es} hs) =
      ap statement_lines (without.statement-Run p es) ∙ lines.lines-Run nowhere (map unplaced_element es)
      ∙ ap (λ xs. one_line (word RunWord ∷ commas xs)) (elements-same hs) ∙ sym (lines.lines-Run p es)
  statement-same (formed.start {place = p} {es = es} hs) =
      ap statement_lines (without.statement-Start p es) ∙ lines.lines-Start nowhere (map unplaced_element es)
      ∙ ap (λ xs. one_line (word StartWord ∷ commas xs)) (elements-same hs) ∙ sym (lines.lines-Start p es)
  statement-same (formed.finish {place = p} {e = e} {es = es} hs) =
      ap statement_lines (without.statement-Finish p (e ∷ es)) ∙ lines.lines-Finish nowhere (map unplaced_expr (e ∷ es))
      ∙ ap (λ xs. one_line (word FinishWord ∷ commas xs)) (exprs-same hs) ∙ sym (lines.lines-Finish p (e ∷ es))
  statement-same (formed.write {place = p} {line = line} {text = text} {at = at} {es = es} hs) =
      ap statement_lines (without.statement-Write p line text at es) ∙ lines.lines-Write nowhere line text nowhere (map unplaced_expr es)
      ∙ ap (λ xs. one_line (word (write_word line) ∷ round (spot (Text text) Usual ∷ each_after (sign Comma) xs))) (exprs-same hs)
      ∙ sym (lines.lines-Write p line text at es)

  branches-same : {b d : ℕ} {bs : List Branch} → FormedBranches b d bs → map branch_lines (map unplaced_branch bs) ≡ map branch_lines bs
  branches-same (formed.one_branch {e = e} {block = block} h j) = λ i. branch-same e block (expr-same h) (inner-same j) i ∷ []
  branches-same (formed.branches {e = e} {block = block} h j hs) = λ i. branch-same e block (expr-same h) (inner-same j) i ∷ branches-same hs i

  alternatives-same : {b d : ℕ} {xs : List Alternative} → FormedAlternatives b d xs → map alternative_lines (map unplaced_alternative xs) ≡ map alternative_lines xs
  alternatives-same (formed.one_alternative h) = λ i. alternative-same h i ∷ []
  alternatives-same (formed.alternatives h hs) = λ i. alternative-same h i ∷ alternatives-same hs i

  alternative-same : {b d : ℕ} {x : Alternative} → FormedAlternative b d x → alternative_lines (unplaced_alternative x) ≡ alternative_lines x
  alternative-same (formed.offer {guard = g} {c = c} h j) =
      ap alternative_lines (without.alternative-Guarded g c []) ∙ lines.lines-Guarded (option_map unplaced_expr g) (unplaced_communication c) []
      ∙ (λ i margin first. lines_with margin (first ++ offer-same h j i) []) ∙ sym (lines.lines-Guarded g c [])
  alternative-same (formed.offer_block {guard = g} {c = c} {block = block} h j k) =
      ap alternative_lines (without.alternative-Guarded g c block) ∙ lines.lines-Guarded (option_map unplaced_expr g) (unplaced_communication c) (map unplaced_step block)
      ∙ (λ i margin first. lines_with margin (first ++ offer-same h j i) (inner-same k i)) ∙ sym (lines.lines-Guarded g c block)
  alternative-same (formed.unwind {place = p} {walk = w} {xs = xs} h hs) =
      ap alternative_lines (without.alternative-Unwind p w xs) ∙ lines.lines-Unwind nowhere (unplaced_walk w) (map unplaced_alternative xs)
      ∙ (λ i margin first. unwound_lines margin (first ++ word UnwindWord ∷ walk-same h i) (alternatives-same hs i)) ∙ sym (lines.lines-Unwind p w xs)
