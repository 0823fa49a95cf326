-- The kept tree of each kind of statement, by those of its parts.
use Rattle.std.proofs.Common.{◌≡◌, ℕ, Bool, List, Option, map, ap, sym, ◌∙◌}
use Rattle.chi_token.specs.declared.place.Place.{Place}
use Rattle.chi_tree.specs.declared.type_tree.TypeTree.{TypeTree}
use Rattle.chi_tree.specs.declared.expr.Expr.{Expr}
use Rattle.chi_tree.specs.declared.statement.Variable.{Variable}
use Rattle.chi_tree.specs.declared.statement.Target.{Target}
use Rattle.chi_tree.specs.declared.statement.Walk.{Walk}
use Rattle.chi_tree.specs.declared.statement.Communication.{Communication}
use Rattle.chi_tree.specs.declared.statement.Element.{Element}
use Rattle.chi_tree.specs.declared.statement.Step.{Step, fold_out-Step}
use Rattle.chi_tree.specs.declared.statement.Statement.{Statement, Statement-F, fold-roll-Statement}
use Rattle.chi_tree.specs.declared.statement.Statement.TheVariants as statement
use Rattle.chi_tree.specs.declared.statement.Branch.{Branch, roll-Branch, fold-roll-Branch}
use Rattle.chi_tree.specs.declared.statement.Alternative.{Alternative, Alternative-F, fold-roll-Alternative}
use Rattle.chi_tree.specs.declared.statement.Alternative.TheVariants as alternative
use Rattle.chi_tree.specs.Statements.{step}
use Rattle.chi_fmt.specs.Kept.{kept_statement_step, kept_step_step, kept_branch_step, kept_alternative_step, kept_step, kept_statement, kept_branch, kept_alternative, kept_block}

pub kept-Declare : (ty : TypeTree) (vs : List Variable) → kept_statement (statement.Declare ty vs) ≡ statement.Declare ty vs
kept-Declare ty vs =
    ap kept_statement (sym (statement.rolls-Declare ty vs)) ∙ fold-roll-Statement Alternative Statement Branch Step kept_alternative_step kept_statement_step kept_branch_step kept_step_step (Statement-F.Declare ty vs) ∙ statement.rolls-Declare ty vs

pub kept-Assign : (ts : List Target) (p : Place) (es : List Expr) → kept_statement (statement.Assign ts p es) ≡ statement.Assign ts p es
kept-Assign ts p es =
    ap kept_statement (sym (statement.rolls-Assign ts p es)) ∙ fold-roll-Statement Alternative Statement Branch Step kept_alternative_step kept_statement_step kept_branch_step kept_step_step (Statement-F.Assign ts p es) ∙ statement.rolls-Assign ts p es

pub kept-Communicate : (c : Communication) → kept_statement (statement.Communicate c) ≡ statement.Communicate c
kept-Communicate c =
    ap kept_statement (sym (statement.rolls-Communicate c)) ∙ fold-roll-Statement Alternative Statement Branch Step kept_alternative_step kept_statement_step kept_branch_step kept_step_step (Statement-F.Communicate c) ∙ statement.rolls-Communicate c

pub kept-Pass : (p : Place) → kept_statement (statement.Pass p) ≡ statement.Pass p
kept-Pass p =
    ap kept_statement (sym (statement.rolls-Pass p)) ∙ fold-roll-Statement Alternative Statement Branch Step kept_alternative_step kept_statement_step kept_branch_step kept_step_step (Statement-F.Pass p) ∙ statement.rolls-Pass p

pub kept-Break : (p : Place) → kept_statement (statement.Break p) ≡ statement.Break p
kept-Break p =
    ap kept_statement (sym (statement.rolls-Break p)) ∙ fold-roll-Statement Alternative Statement Branch Step kept_alternative_step kept_statement_step kept_branch_step kept_step_step (Statement-F.Break p) ∙ statement.rolls-Break p

pub kept-Continue : (p : Place) → kept_statement (statement.Continue p) ≡ statement.Continue p
kept-Continue p =
    ap kept_statement (sym (statement.rolls-Continue p)) ∙ fold-roll-Statement Alternative Statement Branch Step kept_alternative_step kept_statement_step kept_branch_step kept_step_step (Statement-F.Continue p) ∙ statement.rolls-Continue p

pub kept-Select : (p : Place) (xs : List Alternative) → kept_statement (statement.Select p xs) ≡ statement.Select p (map kept_alternative xs)
kept-Select p xs =
    ap kept_statement (sym (statement.rolls-Select p xs)) ∙ fold-roll-Statement Alternative Statement Branch Step kept_alternative_step kept_statement_step kept_branch_step kept_step_step (Statement-F.Select p xs) ∙ statement.rolls-Select p (map kept_alternative xs)

pub kept-If : (p : Place) (bs : List Branch) (other : List Step) → kept_statement (statement.If p bs other) ≡ statement.If p (map kept_branch bs) (kept_block other)
kept-If p bs other =
    ap kept_statement (sym (statement.rolls-If p bs other)) ∙ fold-roll-Statement Alternative Statement Branch Step kept_alternative_step kept_statement_step kept_branch_step kept_step_step (Statement-F.If p bs other) ∙ statement.rolls-If p (map kept_branch bs) (kept_block other)

pub kept-While : (p : Place) (e : Expr) (b : List Step) → kept_statement (statement.While p e b) ≡ statement.While p e (kept_block b)
kept-While p e b =
    ap kept_statement (sym (statement.rolls-While p e b)) ∙ fold-roll-Statement Alternative Statement Branch Step kept_alternative_step kept_statement_step kept_branch_step kept_step_step (Statement-F.While p e b) ∙ statement.rolls-While p e (kept_block b)

pub kept-For : (p : Place) (w : Walk) (b : List Step) → kept_statement (statement.For p w b) ≡ statement.For p w (kept_block b)
kept-For p w b =
    ap kept_statement (sym (statement.rolls-For p w b)) ∙ fold-roll-Statement Alternative Statement Branch Step kept_alternative_step kept_statement_step kept_branch_step kept_step_step (Statement-F.For p w b) ∙ statement.rolls-For p w (kept_block b)

pub kept-Return : (p : Place) (e : Expr) → kept_statement (statement.Return p e) ≡ statement.Return p e
kept-Return p e =
    ap kept_statement (sym (statement.rolls-Return p e)) ∙ fold-roll-Statement Alternative Statement Branch Step kept_alternative_step kept_statement_step kept_branch_step kept_step_step (Statement-F.Return p e) ∙ statement.rolls-Return p e

pub kept-Exit : (p : Place) (e : Option Expr) → kept_statement (statement.Exit p e) ≡ statement.Exit p e
kept-Exit p e =
    ap kept_statement (sym (statement.rolls-Exit p e)) ∙ fold-roll-Statement Alternative Statement Branch Step kept_alternative_step kept_statement_step kept_branch_step kept_step_step (Statement-F.Exit p e) ∙ statement.rolls-Exit p e

pub kept-Run : (p : Place) (es : List Element) → kept_statement (statement.Run p es) ≡ statement.Run p es
kept-Run p es =
    ap kept_statement (sym (statement.rolls-Run p es)) ∙ fold-roll-Statement Alternative Statement Branch Step kept_alternative_step kept_statement_step kept_branch_step kept_step_step (Statement-F.Run p es) ∙ statement.rolls-Run p es

pub kept-Start : (p : Place) (es : List Element) → kept_statement (statement.Start p es) ≡ statement.Start p es
kept-Start p es =
    ap kept_statement (sym (statement.rolls-Start p es)) ∙ fold-roll-Statement Alternative Statement Branch Step kept_alternative_step kept_statement_step kept_branch_step kept_step_step (Statement-F.Start p es) ∙ statement.rolls-Start p es

pub kept-Finish : (p : Place) (es : List Expr) → kept_statement (statement.Finish p es) ≡ statement.Finish p es
kept-Finish p es =
    ap kept_statement (sym (statement.rolls-Finish p es)) ∙ fold-roll-Statement Alternative Statement Branch Step kept_alternative_step kept_statement_step kept_branch_step kept_step_step (Statement-F.Finish p es) ∙ statement.rolls-Finish p es

pub kept-Write : (p : Place) (line : Bool) (text : List ℕ) (at : Place) (es : List Expr) → kept_statement (statement.Write p line text at es) ≡ statement.Write p line text at es
kept-Write p line text at es =
    ap kept_statement (sym (statement.rolls-Write p line text at es)) ∙ fold-roll-Statement Alternative Statement Branch Step kept_alternative_step kept_statement_step kept_branch_step kept_step_step (Statement-F.Write p line text at es) ∙ statement.rolls-Write p line text at es

pub kept-Guarded : (guard : Option Expr) (c : Communication) (b : List Step) → kept_alternative (alternative.Guarded guard c b) ≡ alternative.Guarded guard c (kept_block b)
kept-Guarded guard c b =
    ap kept_alternative (sym (alternative.rolls-Guarded guard c b)) ∙ fold-roll-Alternative Alternative Statement Branch Step kept_alternative_step kept_statement_step kept_branch_step kept_step_step (Alternative-F.Guarded guard c b) ∙ alternative.rolls-Guarded guard c (kept_block b)

pub kept-Unwind : (p : Place) (w : Walk) (xs : List Alternative) → kept_alternative (alternative.Unwind p w xs) ≡ alternative.Unwind p w (map kept_alternative xs)
kept-Unwind p w xs =
    ap kept_alternative (sym (alternative.rolls-Unwind p w xs)) ∙ fold-roll-Alternative Alternative Statement Branch Step kept_alternative_step kept_statement_step kept_branch_step kept_step_step (Alternative-F.Unwind p w xs) ∙ alternative.rolls-Unwind p w (map kept_alternative xs)

pub kept-Step : (s : Statement) (semicolon : Bool) → kept_step (step s semicolon) ≡ step (kept_statement s) semicolon
kept-Step s semicolon = fold_out-Step Alternative Statement Branch Step kept_alternative_step kept_statement_step kept_branch_step kept_step_step (step s semicolon)

pub kept-Branch : (e : Expr) (b : List Step) → kept_branch (roll-Branch (record { condition = e; block = b })) ≡ roll-Branch (record { condition = e; block = kept_block b })
kept-Branch e b = fold-roll-Branch Alternative Statement Branch Step kept_alternative_step kept_statement_step kept_branch_step kept_step_step (record { condition = e; block = b })
