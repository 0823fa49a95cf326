-- What each kind of statement is spelled as, by what its parts are.
use Rattle.std.proofs.Common.{◌≡◌, ℕ, Bool, List, [], ◌∷◌, ◌++◌, Option, map, ap, sym, ◌∙◌}
use Rattle.std.specs.Option.{option_map}
use Rattle.chi_token.specs.declared.place.Place.{Place}
use Rattle.chi_token.specs.declared.keyword.Keyword.TheVariants.{AltWord, BreakWord, ContinueWord, ElifWord, EndWord, ExitWord, FinishWord, ForWord, IfWord, PassWord, ReturnWord, RunWord, SelectWord, StartWord, UnwindWord, WhileWord}
use Rattle.chi_token.specs.declared.sign.Sign.TheVariants.{Assign, Comma, Colon}
use Rattle.chi_token.specs.declared.token.Token.TheVariants.{Word, Sign, Text}
use Rattle.chi_tree.specs.declared.type_tree.Name.{Name}
use Rattle.chi_tree.specs.declared.type_tree.TypeTree.{TypeTree}
use Rattle.chi_tree.specs.declared.expr.Expr.{Expr}
use Rattle.chi_tree.specs.declared.statement.Variable.{Variable}
use Rattle.chi_tree.specs.declared.statement.Target.{Target}
use Rattle.chi_tree.specs.declared.statement.Walk.{Walk}
use Rattle.chi_tree.specs.declared.statement.Communication.{Communication}
use Rattle.chi_tree.specs.declared.statement.Element.{Element, Element-F, fold-roll-Element}
use Rattle.chi_tree.specs.declared.statement.Element.TheVariants as element
use Rattle.chi_tree.specs.declared.statement.Step.{Step, fold_out-Step}
use Rattle.chi_tree.specs.declared.statement.Statement.{Statement-F, fold-roll-Statement}
use Rattle.chi_tree.specs.declared.statement.Statement.TheVariants as statement
use Rattle.chi_tree.specs.declared.statement.Branch.{Branch, roll-Branch, fold-roll-Branch}
use Rattle.chi_tree.specs.declared.statement.Alternative.{Alternative, Alternative-F, fold-roll-Alternative}
use Rattle.chi_tree.specs.declared.statement.Alternative.TheVariants as alternative
use Rattle.chi_tree_spell.specs.Marks.{Put}
use Rattle.chi_tree_spell.specs.Words.{write_word, if_any, each_after, separated}
use Rattle.chi_tree_spell.specs.Expressions.{bare, kept, put_name, put_commas, put_round, put_expr, put_type}
use Rattle.chi_tree_spell.specs.Statements.{put_semicolon, put_exprs, put_variable, put_target, put_walk, put_communication, put_assigned, element_step, put_element, put_elements, put_guard, put_body, put_else, put_to_end, alternative_step, statement_step, branch_step, step_step, put_alternative, put_statement, put_branch, put_step, put_block}

module _ {X : Type 0} (put : Put X) where
  pub statement-Declare : (ty : TypeTree) (vs : List Variable) → put_statement put (statement.Declare ty vs) ≡ put_type put ty ++ put_commas put (map (put_variable put) vs)
  statement-Declare ty vs = ap (put_statement put) (sym (statement.rolls-Declare ty vs)) ∙ fold-roll-Statement (List X) (List X) (List X) (List X) (alternative_step put) (statement_step put) (branch_step put) (step_step put) (Statement-F.Declare ty vs)

  pub statement-Assign : (ts : List Target) (p : Place) (es : List Expr) → put_statement put (statement.Assign ts p es) ≡ put_commas put (map (put_target put) ts) ++ kept put (Sign Assign) p ∷ put_exprs put es
  statement-Assign ts p es = ap (put_statement put) (sym (statement.rolls-Assign ts p es)) ∙ fold-roll-Statement (List X) (List X) (List X) (List X) (alternative_step put) (statement_step put) (branch_step put) (step_step put) (Statement-F.Assign ts p es)

  pub statement-Communicate : (c : Communication) → put_statement put (statement.Communicate c) ≡ put_communication put c
  statement-Communicate c = ap (put_statement put) (sym (statement.rolls-Communicate c)) ∙ fold-roll-Statement (List X) (List X) (List X) (List X) (alternative_step put) (statement_step put) (branch_step put) (step_step put) (Statement-F.Communicate c)

  pub statement-Pass : (p : Place) → put_statement put (statement.Pass p) ≡ kept put (Word PassWord) p ∷ []
  statement-Pass p = ap (put_statement put) (sym (statement.rolls-Pass p)) ∙ fold-roll-Statement (List X) (List X) (List X) (List X) (alternative_step put) (statement_step put) (branch_step put) (step_step put) (Statement-F.Pass p)

  pub statement-Break : (p : Place) → put_statement put (statement.Break p) ≡ kept put (Word BreakWord) p ∷ []
  statement-Break p = ap (put_statement put) (sym (statement.rolls-Break p)) ∙ fold-roll-Statement (List X) (List X) (List X) (List X) (alternative_step put) (statement_step put) (branch_step put) (step_step put) (Statement-F.Break p)

  pub statement-Continue : (p : Place) → put_statement put (statement.Continue p) ≡ kept put (Word ContinueWord) p ∷ []
  statement-Continue p = ap (put_statement put) (sym (statement.rolls-Continue p)) ∙ fold-roll-Statement (List X) (List X) (List X) (List X) (alternative_step put) (statement_step put) (branch_step put) (step_step put) (Statement-F.Continue p)

  pub statement-Select : (p : Place) (xs : List Alternative) → put_statement put (statement.Select p xs) ≡ kept put (Word SelectWord) p ∷ separated (bare put (Word AltWord)) (map (put_alternative put) xs) ++ bare put (Word EndWord) ∷ []
  statement-Select p xs = ap (put_statement put) (sym (statement.rolls-Select p xs)) ∙ fold-roll-Statement (List X) (List X) (List X) (List X) (alternative_step put) (statement_step put) (branch_step put) (step_step put) (Statement-F.Select p xs)

  pub statement-If : (p : Place) (bs : List Branch) (other : List Step) → put_statement put (statement.If p bs other) ≡ kept put (Word IfWord) p ∷ separated (bare put (Word ElifWord)) (map (put_branch put) bs) ++ put_else put (map (put_step put) other) ++ bare put (Word EndWord) ∷ []
  statement-If p bs other = ap (put_statement put) (sym (statement.rolls-If p bs other)) ∙ fold-roll-Statement (List X) (List X) (List X) (List X) (alternative_step put) (statement_step put) (branch_step put) (step_step put) (Statement-F.If p bs other)

  pub statement-While : (p : Place) (e : Expr) (b : List Step) → put_statement put (statement.While p e b) ≡ kept put (Word WhileWord) p ∷ put_expr put e ++ put_to_end put (map (put_step put) b)
  statement-While p e b = ap (put_statement put) (sym (statement.rolls-While p e b)) ∙ fold-roll-Statement (List X) (List X) (List X) (List X) (alternative_step put) (statement_step put) (branch_step put) (step_step put) (Statement-F.While p e b)

  pub statement-For : (p : Place) (w : Walk) (b : List Step) → put_statement put (statement.For p w b) ≡ kept put (Word ForWord) p ∷ put_walk put w ++ put_to_end put (map (put_step put) b)
  statement-For p w b = ap (put_statement put) (sym (statement.rolls-For p w b)) ∙ fold-roll-Statement (List X) (List X) (List X) (List X) (alternative_step put) (statement_step put) (branch_step put) (step_step put) (Statement-F.For p w b)

  pub statement-Return : (p : Place) (e : Expr) → put_statement put (statement.Return p e) ≡ kept put (Word ReturnWord) p ∷ put_expr put e
  statement-Return p e = ap (put_statement put) (sym (statement.rolls-Return p e)) ∙ fold-roll-Statement (List X) (List X) (List X) (List X) (alternative_step put) (statement_step put) (branch_step put) (step_step put) (Statement-F.Return p e)

  pub statement-Exit : (p : Place) (e : Option Expr) → put_statement put (statement.Exit p e) ≡ kept put (Word ExitWord) p ∷ if_any (option_map (put_expr put) e)
  statement-Exit p e = ap (put_statement put) (sym (statement.rolls-Exit p e)) ∙ fold-roll-Statement (List X) (List X) (List X) (List X) (alternative_step put) (statement_step put) (branch_step put) (step_step put) (Statement-F.Exit p e)

  pub statement-Run : (p : Place) (es : List Element) → put_statement put (statement.Run p es) ≡ kept put (Word RunWord) p ∷ put_elements put es
  statement-Run p es = ap (put_statement put) (sym (statement.rolls-Run p es)) ∙ fold-roll-Statement (List X) (List X) (List X) (List X) (alternative_step put) (statement_step put) (branch_step put) (step_step put) (Statement-F.Run p es)

  pub statement-Start : (p : Place) (es : List Element) → put_statement put (statement.Start p es) ≡ kept put (Word StartWord) p ∷ put_elements put es
  statement-Start p es = ap (put_statement put) (sym (statement.rolls-Start p es)) ∙ fold-roll-Statement (List X) (List X) (List X) (List X) (alternative_step put) (statement_step put) (branch_step put) (step_step put) (Statement-F.Start p es)

  pub statement-Finish : (p : Place) (es : List Expr) → put_statement put (statement.Finish p es) ≡ kept put (Word FinishWord) p ∷ put_exprs put es
  statement-Finish p es = ap (put_statement put) (sym (statement.rolls-Finish p es)) ∙ fold-roll-Statement (List X) (List X) (List X) (List X) (alternative_step put) (statement_step put) (branch_step put) (step_step put) (Statement-F.Finish p es)

  pub statement-Write : (p : Place) (line : Bool) (text : List ℕ) (at : Place) (es : List Expr) → put_statement put (statement.Write p line text at es) ≡ kept put (Word (write_word line)) p ∷ put_round put (kept put (Text text) at ∷ each_after (bare put (Sign Comma)) (map (put_expr put) es))
  statement-Write p line text at es = ap (put_statement put) (sym (statement.rolls-Write p line text at es)) ∙ fold-roll-Statement (List X) (List X) (List X) (List X) (alternative_step put) (statement_step put) (branch_step put) (step_step put) (Statement-F.Write p line text at es)

  pub alternative-Guarded : (guard : Option Expr) (c : Communication) (b : List Step) → put_alternative put (alternative.Guarded guard c b) ≡ put_guard put guard ++ put_communication put c ++ put_body put (map (put_step put) b)
  alternative-Guarded guard c b = ap (put_alternative put) (sym (alternative.rolls-Guarded guard c b)) ∙ fold-roll-Alternative (List X) (List X) (List X) (List X) (alternative_step put) (statement_step put) (branch_step put) (step_step put) (Alternative-F.Guarded guard c b)

  pub alternative-Unwind : (p : Place) (w : Walk) (xs : List Alternative) → put_alternative put (alternative.Unwind p w xs) ≡ kept put (Word UnwindWord) p ∷ put_walk put w ++ bare put (Sign Colon) ∷ separated (bare put (Word AltWord)) (map (put_alternative put) xs) ++ bare put (Word EndWord) ∷ []
  alternative-Unwind p w xs = ap (put_alternative put) (sym (alternative.rolls-Unwind p w xs)) ∙ fold-roll-Alternative (List X) (List X) (List X) (List X) (alternative_step put) (statement_step put) (branch_step put) (step_step put) (Alternative-F.Unwind p w xs)

  pub element-Make : (t : Option Target) (n : Name) (es : List Expr) → put_element put (element.Make t n es) ≡ put_assigned put t ++ put_name put n ∷ put_round put (put_exprs put es)
  element-Make t n es = ap (put_element put) (sym (element.rolls-Make t n es)) ∙ fold-roll-Element (List X) (element_step put) (Element-F.Make t n es)

  pub element-Unwind : (p : Place) (w : Walk) (es : List Element) → put_element put (element.Unwind p w es) ≡ kept put (Word UnwindWord) p ∷ put_walk put w ++ bare put (Sign Colon) ∷ put_elements put es ++ bare put (Word EndWord) ∷ []
  element-Unwind p w es = ap (put_element put) (sym (element.rolls-Unwind p w es)) ∙ fold-roll-Element (List X) (element_step put) (Element-F.Unwind p w es)

  pub step-tokens : (s : Step) → put_step put s ≡ put_statement put s.statement ++ put_semicolon put s.semicolon
  step-tokens s = fold_out-Step (List X) (List X) (List X) (List X) (alternative_step put) (statement_step put) (branch_step put) (step_step put) s

  pub branch-tokens : (e : Expr) (b : List Step) → put_branch put (roll-Branch (record { condition = e; block = b })) ≡ put_expr put e ++ bare put (Sign Colon) ∷ put_block put b
  branch-tokens e b = fold-roll-Branch (List X) (List X) (List X) (List X) (alternative_step put) (statement_step put) (branch_step put) (step_step put) (record { condition = e; block = b })
