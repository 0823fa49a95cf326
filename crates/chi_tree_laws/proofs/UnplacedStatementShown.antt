-- Statements and blocks are shown without their places where what was built has none.
use Rattle.std.proofs.Common.{◌≡◌, Bool, true, false, List, [], ◌∷◌, map, None, if◌then◌else◌, refl, ap, ◌∙◌}
use Rattle.chi_grammar.specs.Rules.{leaf, node, pair}
use Rattle.chi_token.specs.declared.keyword.Keyword.TheVariants as keyword
use Rattle.chi_token.specs.declared.place.Place.{Place}
use Rattle.chi_token.specs.declared.token.Token.{Token}
use Rattle.chi_token.specs.declared.token.Token.TheVariants as token
use Rattle.chi_tree.specs.declared.type_tree.TypeTree.TheVariants as type
use Rattle.chi_tree.specs.declared.statement.Target.{Target}
use Rattle.chi_tree.specs.declared.statement.Communication.TheVariants.{Delay}
use Rattle.chi_tree.specs.declared.statement.Element.{Element}
use Rattle.chi_tree.specs.declared.statement.Branch.{Branch, roll-Branch}
use Rattle.chi_tree.specs.declared.statement.Step.{Step}
use Rattle.chi_tree.specs.declared.statement.Alternative.TheVariants as alternative
use Rattle.chi_tree.specs.declared.statement.Statement.{Statement}
use Rattle.chi_tree.specs.declared.statement.Statement.TheVariants as statement
use Rattle.chi_tree.specs.Parts as s
use Rattle.chi_tree.specs.Tokens.{bytes_of}
use Rattle.chi_tree.specs.View.{Built, nowhere, place_in, expr_of, exprs_of, more_exprs_of, optional, type_of, no_expr}
use Rattle.chi_tree.specs.Statements.{jump_shown, ends_line_shown, is_run_shown, target_of, more_targets_of, walk_of, variables_of, communicated, communication_of, offer_of, elements_of, led, launched, written, step, statement_of, block_of, followed, inner_of, body_of, branch_of, elifs_of, elif_of, else_of, alternatives_of, more_alternatives_of, alternative_of, alternative_body_of}
use Rattle.chi_tree_laws.specs.Unplaced.{unplaced_expr}
use Rattle.chi_tree_laws.specs.UnplacedStatements.{unplaced_target, unplaced_element, unplaced_step, unplaced_statement, unplaced_branch, unplaced_alternative}
use Rattle.chi_tree_laws.proofs.UnplacedBuilt.{unplaced_tree}
use Rattle.chi_tree_laws.proofs.UnplacedTrees.{without-Defined}
use Rattle.chi_tree_laws.proofs.UnplacedParts.{shown_place, shown_optional}
use Rattle.chi_tree_laws.proofs.UnplacedShown.{no_expr_shown, shown_type, shown_expr, shown_exprs, shown_more_exprs}
use Rattle.chi_tree_laws.proofs.UnplacedStatementTrees.{statement-Declare, statement-Assign, statement-Communicate, statement-Pass, statement-Break, statement-Continue, statement-Select, statement-If, statement-While, statement-For, statement-Return, statement-Exit, statement-Run, statement-Start, statement-Finish, statement-Write, alternative-Guarded, alternative-Unwind, step-without, branch-without}
use Rattle.chi_tree_laws.proofs.UnplacedTargetShown.{shown_target, shown_more_targets, shown_walk, shown_variables, shown_communicated, shown_communication}
use Rattle.chi_tree_laws.proofs.UnplacedElementShown.{shown_offer, shown_elements}

-- what nothing is shown as

no_statement_shown : unplaced_statement (statement.Pass nowhere) ≡ statement.Pass nowhere
no_statement_shown = statement-Pass nowhere

abbrev no_branch : Branch
no_branch = roll-Branch (record { condition = no_expr; block = [] })

no_branch_shown : unplaced_branch no_branch ≡ no_branch
no_branch_shown = branch-without no_expr [] ∙ (λ i. roll-Branch (record { condition = no_expr_shown i; block = [] }))

no_alternative_shown : unplaced_alternative (alternative.Guarded None (Delay nowhere no_expr) []) ≡ alternative.Guarded None (Delay nowhere no_expr) []
no_alternative_shown =
    alternative-Guarded None (Delay nowhere no_expr) [] ∙ (λ i. alternative.Guarded None (Delay nowhere (no_expr_shown i)) [])

-- single statements

shown_jump : (t : Token) (p : Place) → unplaced_statement (jump_shown t p) ≡ jump_shown t nowhere
shown_jump (token.Word keyword.BreakWord) p = statement-Break p
shown_jump (token.Word keyword.ContinueWord) p = statement-Continue p
shown_jump (token.Word keyword.PassWord) p = statement-Pass p
shown_jump _ p = no_statement_shown

pub shown_led : (target : Target) (t : Built) → unplaced_statement (led target t) ≡ led (unplaced_target target) (unplaced_tree t)
shown_led target (node s.AfterName t) = shown_led target t
shown_led target (node s.AfterTarget t) = shown_led target t
shown_led target (node s.Variables t) =
    statement-Declare (type.Defined target.name) (variables_of (node s.Variables t))
    ∙ (λ i. statement.Declare (without-Defined target.name i) (shown_variables (node s.Variables t) i))
shown_led target (node s.CommunicationEnd t) =
    statement-Communicate (communicated target t) ∙ (λ i. statement.Communicate (shown_communicated target t i))
shown_led target (node s.Assignment (pair ts (pair eq es))) =
    statement-Assign (target ∷ more_targets_of ts) (place_in eq) (exprs_of es)
    ∙ (λ i. statement.Assign (unplaced_target target ∷ shown_more_targets ts i) (shown_place eq i) (shown_exprs es i))
shown_led target _ = no_statement_shown

launched_by : (b : Bool) (p : Place) (es : List Element)
    → unplaced_statement (if b then statement.Run p es else statement.Start p es)
    ≡ (if b then statement.Run nowhere (map unplaced_element es) else statement.Start nowhere (map unplaced_element es))
launched_by true p es = statement-Run p es
launched_by false p es = statement-Start p es

pub shown_launched : (t : Built) (es : List Element) → unplaced_statement (launched t es) ≡ launched (unplaced_tree t) (map unplaced_element es)
shown_launched (leaf x) es = launched_by (is_run_shown x.token) x.place es
shown_launched _ es = no_statement_shown

pub shown_written : (w t : Built) → unplaced_statement (written w t) ≡ written (unplaced_tree w) (unplaced_tree t)
shown_written (leaf x) (node s.Written (pair l (pair (leaf y) (pair es r)))) =
    statement-Write x.place (ends_line_shown x.token) (bytes_of y.token) y.place (more_exprs_of es)
    ∙ (λ i. statement.Write nowhere (ends_line_shown x.token) (bytes_of y.token) nowhere (shown_more_exprs es i))
shown_written _ _ = no_statement_shown

-- an alternative with its offer, and a step, by what they are made of

shown_guarded : (o : Built) (block : List Step) → unplaced_alternative (alternative.Guarded (offer_of o).0 (offer_of o).1 block)
    ≡ alternative.Guarded (offer_of (unplaced_tree o)).0 (offer_of (unplaced_tree o)).1 (map unplaced_step block)
shown_guarded o block =
    alternative-Guarded (offer_of o).0 (offer_of o).1 block
    ∙ (λ i. alternative.Guarded (shown_offer o i).0 (shown_offer o i).1 (map unplaced_step block))

-- statements and blocks

mutual
  pub shown_statement : (t : Built) → unplaced_statement (statement_of t) ≡ statement_of (unplaced_tree t)
  shown_statement (node s.Closed t) = shown_statement t
  shown_statement (node s.Open t) = shown_statement t
  shown_statement (node s.Select (pair w (pair xs end))) =
      statement-Select (place_in w) (alternatives_of xs) ∙ (λ i. statement.Select (shown_place w i) (shown_alternatives xs i))
  shown_statement (node s.If (pair w (pair b (pair bs (pair other end))))) =
      statement-If (place_in w) (branch_of b ∷ elifs_of bs) (else_of other)
      ∙ (λ i. statement.If (shown_place w i) (shown_branch b i ∷ shown_elifs bs i) (shown_else other i))
  shown_statement (node s.While (pair w (pair e b))) =
      statement-While (place_in w) (expr_of e) (body_of b) ∙ (λ i. statement.While (shown_place w i) (shown_expr e i) (shown_body b i))
  shown_statement (node s.For (pair w (pair walk b))) =
      statement-For (place_in w) (walk_of walk) (body_of b) ∙ (λ i. statement.For (shown_place w i) (shown_walk walk i) (shown_body b i))
  shown_statement (node s.Launch (pair w es)) = shown_launched w (elements_of es) ∙ ap (launched (unplaced_tree w)) (shown_elements es)
  shown_statement (node s.Declaration (pair t vs)) =
      statement-Declare (type_of t) (variables_of vs) ∙ (λ i. statement.Declare (shown_type t i) (shown_variables vs i))
  shown_statement (node s.NameLed (pair t rest)) =
      shown_led (target_of t) rest ∙ ap (λ target. led target (unplaced_tree rest)) (shown_target t)
  shown_statement (node s.Timed t) = statement-Communicate (communication_of t) ∙ ap statement.Communicate (shown_communication t)
  shown_statement (node s.Jump (leaf x)) = shown_jump x.token x.place
  shown_statement (node s.Return (pair w e)) =
      statement-Return (place_in w) (expr_of e) ∙ (λ i. statement.Return (shown_place w i) (shown_expr e i))
  shown_statement (node s.Exit (pair w e)) =
      statement-Exit (place_in w) (optional e (expr_of e))
      ∙ (λ i. statement.Exit (shown_place w i) (shown_optional unplaced_expr e (expr_of e) (expr_of (unplaced_tree e)) (shown_expr e) i))
  shown_statement (node s.Finish (pair w es)) =
      statement-Finish (place_in w) (exprs_of es) ∙ (λ i. statement.Finish (shown_place w i) (shown_exprs es i))
  shown_statement (node s.Write (pair w t)) = shown_written w t
  shown_statement _ = no_statement_shown

  pub shown_block : (t : Built) → map unplaced_step (block_of t) ≡ block_of (unplaced_tree t)
  shown_block (node s.Block (pair t rest)) =
      shown_followed rest (statement_of t) ∙ ap (λ s. followed s (unplaced_tree rest)) (shown_statement t)
  shown_block _ = refl

  pub shown_followed : (t : Built) (s : Statement) → map unplaced_step (followed s t) ≡ followed (unplaced_statement s) (unplaced_tree t)
  shown_followed (node s.AfterEnd (pair c more)) s = λ i. step-without (step s true) i ∷ shown_block more i
  shown_followed (node s.AfterEnd t) s = λ i. step-without (step s false) i ∷ shown_block t i
  shown_followed (node s.AfterOpen (pair c more)) s = λ i. step-without (step s true) i ∷ shown_block more i
  shown_followed _ s = λ i. step-without (step s false) i ∷ []

  pub shown_inner : (t : Built) → map unplaced_step (inner_of t) ≡ inner_of (unplaced_tree t)
  shown_inner (node s.Inner t) = shown_block t
  shown_inner _ = refl

  pub shown_body : (t : Built) → map unplaced_step (body_of t) ≡ body_of (unplaced_tree t)
  shown_body (node s.Body (pair c (pair t end))) = shown_inner t
  shown_body _ = refl

  pub shown_branch : (t : Built) → unplaced_branch (branch_of t) ≡ branch_of (unplaced_tree t)
  shown_branch (node s.Branch (pair e (pair c t))) =
      branch-without (expr_of e) (inner_of t) ∙ (λ i. roll-Branch (record { condition = shown_expr e i; block = shown_inner t i }))
  shown_branch _ = no_branch_shown

  pub shown_elifs : (t : Built) → map unplaced_branch (elifs_of t) ≡ elifs_of (unplaced_tree t)
  shown_elifs (pair t ts) = λ i. shown_elif t i ∷ shown_elifs ts i
  shown_elifs _ = refl

  pub shown_elif : (t : Built) → unplaced_branch (elif_of t) ≡ elif_of (unplaced_tree t)
  shown_elif (node s.Elif (pair w t)) = shown_branch t
  shown_elif _ = no_branch_shown

  pub shown_else : (t : Built) → map unplaced_step (else_of t) ≡ else_of (unplaced_tree t)
  shown_else (node s.Else (pair w (pair c t))) = shown_inner t
  shown_else _ = refl

  pub shown_alternatives : (t : Built) → map unplaced_alternative (alternatives_of t) ≡ alternatives_of (unplaced_tree t)
  shown_alternatives (node s.Alternatives (pair a xs)) = λ i. shown_alternative a i ∷ shown_more_alternatives xs i
  shown_alternatives _ = refl

  pub shown_more_alternatives : (t : Built) → map unplaced_alternative (more_alternatives_of t) ≡ more_alternatives_of (unplaced_tree t)
  shown_more_alternatives (pair (pair w a) xs) = λ i. shown_alternative a i ∷ shown_more_alternatives xs i
  shown_more_alternatives _ = refl

  pub shown_alternative : (t : Built) → unplaced_alternative (alternative_of t) ≡ alternative_of (unplaced_tree t)
  shown_alternative (node s.Alternative t) = shown_alternative t
  shown_alternative (node s.UnwoundAlternatives (pair w (pair walk (pair c (pair xs end))))) =
      alternative-Unwind (place_in w) (walk_of walk) (alternatives_of xs)
      ∙ (λ i. alternative.Unwind (shown_place w i) (shown_walk walk i) (shown_alternatives xs i))
  shown_alternative (node s.GuardedAlternative (pair o b)) =
      shown_guarded o (alternative_body_of b)
      ∙ ap (alternative.Guarded (offer_of (unplaced_tree o)).0 (offer_of (unplaced_tree o)).1) (shown_alternative_body b)
  shown_alternative _ = no_alternative_shown

  pub shown_alternative_body : (t : Built) → map unplaced_step (alternative_body_of t) ≡ alternative_body_of (unplaced_tree t)
  shown_alternative_body (node s.AlternativeBody (pair c t)) = shown_inner t
  shown_alternative_body _ = refl
