-- What each kind of statement is without its places, by its parts without theirs.
use Rattle.std.proofs.Common.{◌≡◌, ℕ, Bool, List, Option, map, ap, sym, ◌∙◌}
use Rattle.std.specs.Option.{option_map}
use Rattle.chi_token.specs.declared.place.Place.{Place}
use Rattle.chi_tree.specs.declared.type_tree.Name.{Name}
use Rattle.chi_tree.specs.declared.type_tree.TypeTree.{TypeTree}
use Rattle.chi_tree.specs.declared.expr.Expr.{Expr}
use Rattle.chi_tree.specs.declared.statement.Variable.{Variable}
use Rattle.chi_tree.specs.declared.statement.Target.{Target}
use Rattle.chi_tree.specs.declared.statement.Walk.{Walk}
use Rattle.chi_tree.specs.declared.statement.Communication.{Communication}
use Rattle.chi_tree.specs.declared.statement.Element.{Element, Element-F, fold-roll-Element}
use Rattle.chi_tree.specs.declared.statement.Element.TheVariants as element
use Rattle.chi_tree.specs.declared.statement.Step.{Step, fold_out-Step}
use Rattle.chi_tree.specs.declared.statement.Statement.{Statement, Statement-F, fold-roll-Statement}
use Rattle.chi_tree.specs.declared.statement.Statement.TheVariants as statement
use Rattle.chi_tree.specs.declared.statement.Branch.{Branch, roll-Branch, fold-roll-Branch}
use Rattle.chi_tree.specs.declared.statement.Alternative.{Alternative, Alternative-F, fold-roll-Alternative}
use Rattle.chi_tree.specs.declared.statement.Alternative.TheVariants as alternative
use Rattle.chi_tree.specs.Statements.{step}
use Rattle.chi_tree.specs.View.{nowhere}
use Rattle.chi_tree_laws.specs.Unplaced.{unplaced_name, unplaced_type, unplaced_expr}
use Rattle.chi_tree_laws.specs.UnplacedStatements.{unplaced_variable, unplaced_target, unplaced_walk, unplaced_communication, element_without, unplaced_element, alternative_without, statement_without, branch_without, step_without, unplaced_alternative, unplaced_statement, unplaced_branch, unplaced_step, unplaced_block}

pub statement-Declare : (ty : TypeTree) (vs : List Variable) → unplaced_statement (statement.Declare ty vs) ≡ statement.Declare (unplaced_type ty) (map unplaced_variable vs)
statement-Declare ty vs = ap unplaced_statement (sym (statement.rolls-Declare ty vs)) ∙ fold-roll-Statement Alternative Statement Branch Step alternative_without statement_without branch_without step_without (Statement-F.Declare ty vs)

pub statement-Assign : (ts : List Target) (p : Place) (es : List Expr) → unplaced_statement (statement.Assign ts p es) ≡ statement.Assign (map unplaced_target ts) nowhere (map unplaced_expr es)
statement-Assign ts p es = ap unplaced_statement (sym (statement.rolls-Assign ts p es)) ∙ fold-roll-Statement Alternative Statement Branch Step alternative_without statement_without branch_without step_without (Statement-F.Assign ts p es)

pub statement-Communicate : (c : Communication) → unplaced_statement (statement.Communicate c) ≡ statement.Communicate (unplaced_communication c)
statement-Communicate c = ap unplaced_statement (sym (statement.rolls-Communicate c)) ∙ fold-roll-Statement Alternative Statement Branch Step alternative_without statement_without branch_without step_without (Statement-F.Communicate c)

pub statement-Pass : (p : Place) → unplaced_statement (statement.Pass p) ≡ statement.Pass nowhere
statement-Pass p = ap unplaced_statement (sym (statement.rolls-Pass p)) ∙ fold-roll-Statement Alternative Statement Branch Step alternative_without statement_without branch_without step_without (Statement-F.Pass p)

pub statement-Break : (p : Place) → unplaced_statement (statement.Break p) ≡ statement.Break nowhere
statement-Break p = ap unplaced_statement (sym (statement.rolls-Break p)) ∙ fold-roll-Statement Alternative Statement Branch Step alternative_without statement_without branch_without step_without (Statement-F.Break p)

pub statement-Continue : (p : Place) → unplaced_statement (statement.Continue p) ≡ statement.Continue nowhere
statement-Continue p = ap unplaced_statement (sym (statement.rolls-Continue p)) ∙ fold-roll-Statement Alternative Statement Branch Step alternative_without statement_without branch_without step_without (Statement-F.Continue p)

pub statement-Select : (p : Place) (xs : List Alternative) → unplaced_statement (statement.Select p xs) ≡ statement.Select nowhere (map unplaced_alternative xs)
statement-Select p xs = ap unplaced_statement (sym (statement.rolls-Select p xs)) ∙ fold-roll-Statement Alternative Statement Branch Step alternative_without statement_without branch_without step_without (Statement-F.Select p xs)

pub statement-If : (p : Place) (bs : List Branch) (other : List Step) → unplaced_statement (statement.If p bs other) ≡ statement.If nowhere (map unplaced_branch bs) (map unplaced_step other)
statement-If p bs other = ap unplaced_statement (sym (statement.rolls-If p bs other)) ∙ fold-roll-Statement Alternative Statement Branch Step alternative_without statement_without branch_without step_without (Statement-F.If p bs other)

pub statement-While : (p : Place) (e : Expr) (b : List Step) → unplaced_statement (statement.While p e b) ≡ statement.While nowhere (unplaced_expr e) (map unplaced_step b)
statement-While p e b = ap unplaced_statement (sym (statement.rolls-While p e b)) ∙ fold-roll-Statement Alternative Statement Branch Step alternative_without statement_without branch_without step_without (Statement-F.While p e b)

pub statement-For : (p : Place) (w : Walk) (b : List Step) → unplaced_statement (statement.For p w b) ≡ statement.For nowhere (unplaced_walk w) (map unplaced_step b)
statement-For p w b = ap unplaced_statement (sym (statement.rolls-For p w b)) ∙ fold-roll-Statement Alternative Statement Branch Step alternative_without statement_without branch_without step_without (Statement-F.For p w b)

pub statement-Return : (p : Place) (e : Expr) → unplaced_statement (statement.Return p e) ≡ statement.Return nowhere (unplaced_expr e)
statement-Return p e = ap unplaced_statement (sym (statement.rolls-Return p e)) ∙ fold-roll-Statement Alternative Statement Branch Step alternative_without statement_without branch_without step_without (Statement-F.Return p e)

pub statement-Exit : (p : Place) (e : Option Expr) → unplaced_statement (statement.Exit p e) ≡ statement.Exit nowhere (option_map unplaced_expr e)
statement-Exit p e = ap unplaced_statement (sym (statement.rolls-Exit p e)) ∙ fold-roll-Statement Alternative Statement Branch Step alternative_without statement_without branch_without step_without (Statement-F.Exit p e)

pub statement-Run : (p : Place) (es : List Element) → unplaced_statement (statement.Run p es) ≡ statement.Run nowhere (map unplaced_element es)
statement-Run p es = ap unplaced_statement (sym (statement.rolls-Run p es)) ∙ fold-roll-Statement Alternative Statement Branch Step alternative_without statement_without branch_without step_without (Statement-F.Run p es)

pub statement-Start : (p : Place) (es : List Element) → unplaced_statement (statement.Start p es) ≡ statement.Start nowhere (map unplaced_element es)
statement-Start p es = ap unplaced_statement (sym (statement.rolls-Start p es)) ∙ fold-roll-Statement Alternative Statement Branch Step alternative_without statement_without branch_without step_without (Statement-F.Start p es)

pub statement-Finish : (p : Place) (es : List Expr) → unplaced_statement (statement.Finish p es) ≡ statement.Finish nowhere (map unplaced_expr es)
statement-Finish p es = ap unplaced_statement (sym (statement.rolls-Finish p es)) ∙ fold-roll-Statement Alternative Statement Branch Step alternative_without statement_without branch_without step_without (Statement-F.Finish p es)

pub statement-Write : (p : Place) (line : Bool) (text : List ℕ) (at : Place) (es : List Expr) → unplaced_statement (statement.Write p line text at es) ≡ statement.Write nowhere line text nowhere (map unplaced_expr es)
statement-Write p line text at es = ap unplaced_statement (sym (statement.rolls-Write p line text at es)) ∙ fold-roll-Statement Alternative Statement Branch Step alternative_without statement_without branch_without step_without (Statement-F.Write p line text at es)

pub alternative-Guarded : (guard : Option Expr) (c : Communication) (b : List Step) → unplaced_alternative (alternative.Guarded guard c b) ≡ alternative.Guarded (option_map unplaced_expr guard) (unplaced_communication c) (map unplaced_step b)
alternative-Guarded guard c b = ap unplaced_alternative (sym (alternative.rolls-Guarded guard c b)) ∙ fold-roll-Alternative Alternative Statement Branch Step alternative_without statement_without branch_without step_without (Alternative-F.Guarded guard c b)

pub alternative-Unwind : (p : Place) (w : Walk) (xs : List Alternative) → unplaced_alternative (alternative.Unwind p w xs) ≡ alternative.Unwind nowhere (unplaced_walk w) (map unplaced_alternative xs)
alternative-Unwind p w xs = ap unplaced_alternative (sym (alternative.rolls-Unwind p w xs)) ∙ fold-roll-Alternative Alternative Statement Branch Step alternative_without statement_without branch_without step_without (Alternative-F.Unwind p w xs)

pub element-Make : (t : Option Target) (n : Name) (es : List Expr) → unplaced_element (element.Make t n es) ≡ element.Make (option_map unplaced_target t) (unplaced_name n) (map unplaced_expr es)
element-Make t n es = ap unplaced_element (sym (element.rolls-Make t n es)) ∙ fold-roll-Element Element element_without (Element-F.Make t n es)

pub element-Unwind : (p : Place) (w : Walk) (es : List Element) → unplaced_element (element.Unwind p w es) ≡ element.Unwind nowhere (unplaced_walk w) (map unplaced_element es)
element-Unwind p w es = ap unplaced_element (sym (element.rolls-Unwind p w es)) ∙ fold-roll-Element Element element_without (Element-F.Unwind p w es)

pub step-without : (s : Step) → unplaced_step s ≡ step (unplaced_statement s.statement) s.semicolon
step-without s = fold_out-Step Alternative Statement Branch Step alternative_without statement_without branch_without step_without s

pub branch-without : (e : Expr) (b : List Step) → unplaced_branch (roll-Branch (record { condition = e; block = b })) ≡ roll-Branch (record { condition = unplaced_expr e; block = unplaced_block b })
branch-without e b = fold-roll-Branch Alternative Statement Branch Step alternative_without statement_without branch_without step_without (record { condition = e; block = b })
