-- Statements, definitions and programs with their places put in anew.
use Rattle.std.proofs.Common.{◌≡◌, ℕ, Bool, true, false, List, [], ◌∷◌, Option, Some, None, map, ap, sym, ◌∙◌}
use Rattle.std.specs.Option.{option_map}
use Rattle.chi_token.specs.declared.place.Place.{Place}
use Rattle.chi_tree.specs.declared.type_tree.Name.{Name}
use Rattle.chi_tree.specs.declared.type_tree.TypeTree.{TypeTree}
use Rattle.chi_tree.specs.declared.type_tree.Formal.{Formal}
use Rattle.chi_tree.specs.declared.expr.Expr.{Expr}
use Rattle.chi_tree.specs.declared.expr.Postfix.{Postfix}
use Rattle.chi_tree.specs.declared.statement.Variable.{Variable}
use Rattle.chi_tree.specs.declared.statement.Initial.{Initial}
use Rattle.chi_tree.specs.declared.statement.Target.{Target}
use Rattle.chi_tree.specs.declared.statement.Walk.{Walk}
use Rattle.chi_tree.specs.declared.statement.Communication.{Communication}
use Rattle.chi_tree.specs.declared.statement.Communication.TheVariants.{Send, Receive, Delay}
use Rattle.chi_tree.specs.declared.statement.Element.{Element, Element-F, fold-Element, fold-roll-Element}
use Rattle.chi_tree.specs.declared.statement.Element.TheVariants as element
use Rattle.chi_tree.specs.declared.statement.Step.{Step, Step-F, fold-Step, fold_out-Step}
use Rattle.chi_tree.specs.declared.statement.Statement.{Statement, Statement-F, fold-Statement, fold-roll-Statement}
use Rattle.chi_tree.specs.declared.statement.Statement.TheVariants as statement
use Rattle.chi_tree.specs.declared.statement.Branch.{Branch, Branch-F, fold-Branch, fold-roll-Branch}
use Rattle.chi_tree.specs.declared.statement.Alternative.{Alternative, Alternative-F, fold-Alternative, fold-roll-Alternative}
use Rattle.chi_tree.specs.declared.statement.Alternative.TheVariants as alternative
use Rattle.chi_tree.specs.declared.definition.Definition.{Definition}
use Rattle.chi_tree.specs.declared.definition.Definition.TheVariants as definition
use Rattle.chi_tree.specs.declared.definition.Item.{Item}
use Rattle.chi_tree.specs.View.{nowhere}
use Rattle.chi_tree.specs.Statements.{step}
use Rattle.chi_tree_laws.specs.Statements.{variable, branch}
use Rattle.chi_tree_laws.specs.Unplaced.{unplaced_name, unplaced_expr, unplaced_type}
use Rattle.chi_tree_laws.specs.UnplacedStatements.{unplaced_variable, unplaced_target, unplaced_walk, unplaced_communication, element_without, unplaced_element, statement_without, step_without, branch_without, alternative_without, unplaced_step, unplaced_statement, unplaced_branch, unplaced_alternative}
use Rattle.chi_tree_laws.proofs.Readers.{Reader, keep, pass, bind, last, done, each, after_each, between, optional}
use Rattle.chi_tree_laws.proofs.Refilled.{name_at, formals, refilled_expr, refilled_postfix, refilled_type, refilled_formal}

-- names, variables, targets, walks and communications

abbrev pub refilled_name : Name → Reader Name
refilled_name n = keep (λ q. done (name_at n.text q))

abbrev pub refilled_initial : Option Initial → Reader (Option Initial)
refilled_initial None = done None
refilled_initial (Some i) = keep (λ q. last (refilled_expr i.value) (λ x. Some (record { equals = q; value = x })))

abbrev pub refilled_variable : Variable → Reader Variable
refilled_variable v = keep (λ q. last (refilled_initial v.initial) (λ i. variable (name_at v.name.text q) i))

abbrev pub target_at : List ℕ → Place → List Postfix → Target
target_at text place steps = record { name = name_at text place; steps = steps }

abbrev pub refilled_target : Target → Reader Target
refilled_target t = keep (λ q. last (each (map refilled_postfix t.steps)) (λ steps. target_at t.name.text q steps))

abbrev pub walk_over : List Name → Expr → Walk
walk_over names container = record { names = names; container = container }

abbrev pub refilled_walk : Walk → Reader Walk
refilled_walk w = bind (between (map refilled_name w.names)) (λ ns. pass (last (refilled_expr w.container) (λ e. walk_over ns e)))

abbrev pub refilled_communication : Communication → Reader Communication
refilled_communication (Send t p e) =
    bind (refilled_target t) (λ u. keep (λ q. last (optional (option_map refilled_expr e)) (λ x. Send u q x)))
refilled_communication (Receive t p n) =
    bind (refilled_target t) (λ u. keep (λ q. last (optional (option_map refilled_name n)) (λ m. Receive u q m)))
refilled_communication (Delay p e) = keep (λ q. last (refilled_expr e) (λ x. Delay q x))

-- what is run or started, and parts of statements

abbrev pub assigned_reader : Option Target → Reader (Option Target)
assigned_reader None = done None
assigned_reader (Some t) = bind (refilled_target t) (λ u. pass (done (Some u)))

abbrev pub guard_reader : Option Expr → Reader (Option Expr)
guard_reader None = done None
guard_reader (Some e) = bind (refilled_expr e) (λ x. pass (done (Some x)))

abbrev pub body_reader : List (Reader Step) → Reader (List Step)
body_reader [] = done []
body_reader (f ∷ fs) = pass (each (f ∷ fs))

abbrev pub else_reader : List (Reader Step) → Reader (List Step)
else_reader [] = done []
else_reader (f ∷ fs) = pass (pass (each (f ∷ fs)))

abbrev pub to_end : List (Reader Step) → Reader (List Step)
to_end block = pass (bind (each block) (λ ys. pass (done ys)))

abbrev pub semicolon_reader : Bool → Reader (Unit {0})
semicolon_reader false = done tt
semicolon_reader true = pass (done tt)

abbrev pub element_reader : Element-F (Reader Element) → Reader Element
element_reader (Element-F.Make t n es) = bind (assigned_reader t) (λ u. keep (λ q. pass (bind (between (map refilled_expr es)) (λ ys. pass (done (element.Make u (name_at n.text q) ys))))))
element_reader (Element-F.Unwind p w xs) = keep (λ q. bind {A = Walk × List Element} (bind (refilled_walk w) (λ u. pass (last (between xs) (λ ys. (u, ys))))) (λ z. pass (done (element.Unwind q z.0 z.1))))

abbrev pub refilled_element : Element → Reader Element
refilled_element = fold-Element (Reader Element) element_reader

-- of one without its places
abbrev pub again_element : Element → Reader Element
again_element e = refilled_element (unplaced_element e)

pub element-Make : (t : Option Target) (n : Name) (es : List Expr) → again_element (element.Make t n es) ≡ bind (assigned_reader (option_map unplaced_target t)) (λ u. keep (λ q. pass (bind (between (map refilled_expr (map unplaced_expr es))) (λ ys. pass (done (element.Make u (name_at n.text q) ys))))))
element-Make t n es =
    ap refilled_element (ap unplaced_element (sym (element.rolls-Make t n es)) ∙ fold-roll-Element Element element_without (Element-F.Make t n es))
    ∙ (ap refilled_element (sym (element.rolls-Make (option_map unplaced_target t) (unplaced_name n) (map unplaced_expr es))) ∙ fold-roll-Element (Reader Element) element_reader (Element-F.Make (option_map unplaced_target t) (unplaced_name n) (map unplaced_expr es)))

pub element-Unwind : (p : Place) (w : Walk) (xs : List Element) → again_element (element.Unwind p w xs) ≡ keep (λ q. bind {A = Walk × List Element} (bind (refilled_walk (unplaced_walk w)) (λ u. pass (last (between (map refilled_element (map unplaced_element xs))) (λ ys. (u, ys))))) (λ z. pass (done (element.Unwind q z.0 z.1))))
element-Unwind p w xs =
    ap refilled_element (ap unplaced_element (sym (element.rolls-Unwind p w xs)) ∙ fold-roll-Element Element element_without (Element-F.Unwind p w xs))
    ∙ (ap refilled_element (sym (element.rolls-Unwind nowhere (unplaced_walk w) (map unplaced_element xs))) ∙ fold-roll-Element (Reader Element) element_reader (Element-F.Unwind nowhere (unplaced_walk w) (map unplaced_element xs)))

abbrev pub statement_reader : Statement-F (Reader Alternative) (Reader Statement) (Reader Branch) (Reader Step) → Reader Statement
statement_reader (Statement-F.Declare ty vs) = bind (refilled_type ty) (λ t. last (between (map refilled_variable vs)) (λ ys. statement.Declare t ys))
statement_reader (Statement-F.Assign ts p es) = bind (between (map refilled_target ts)) (λ us. keep (λ q. last (between (map refilled_expr es)) (λ ys. statement.Assign us q ys)))
statement_reader (Statement-F.Communicate c) = last (refilled_communication c) (λ x. statement.Communicate x)
statement_reader (Statement-F.Pass p) = keep (λ q. done (statement.Pass q))
statement_reader (Statement-F.Break p) = keep (λ q. done (statement.Break q))
statement_reader (Statement-F.Continue p) = keep (λ q. done (statement.Continue q))
statement_reader (Statement-F.Select p xs) = keep (λ q. bind (between xs) (λ ys. pass (done (statement.Select q ys))))
statement_reader (Statement-F.If p bs other) = keep (λ q. bind {A = List Branch × List Step} (bind (between bs) (λ ys. last (else_reader other) (λ zs. (ys, zs)))) (λ z. pass (done (statement.If q z.0 z.1))))
statement_reader (Statement-F.While p e b) = keep (λ q. bind (refilled_expr e) (λ x. last (to_end b) (λ ys. statement.While q x ys)))
statement_reader (Statement-F.For p w b) = keep (λ q. bind (refilled_walk w) (λ u. last (to_end b) (λ ys. statement.For q u ys)))
statement_reader (Statement-F.Return p e) = keep (λ q. last (refilled_expr e) (λ x. statement.Return q x))
statement_reader (Statement-F.Exit p e) = keep (λ q. last (optional (option_map refilled_expr e)) (λ x. statement.Exit q x))
statement_reader (Statement-F.Run p es) = keep (λ q. last (between (map refilled_element es)) (λ ys. statement.Run q ys))
statement_reader (Statement-F.Start p es) = keep (λ q. last (between (map refilled_element es)) (λ ys. statement.Start q ys))
statement_reader (Statement-F.Finish p es) = keep (λ q. last (between (map refilled_expr es)) (λ ys. statement.Finish q ys))
statement_reader (Statement-F.Write p line text at es) = keep (λ q. pass (keep (λ r. bind (after_each (map refilled_expr es)) (λ ys. pass (done (statement.Write q line text r ys))))))

abbrev pub alternative_reader : Alternative-F (Reader Alternative) (Reader Statement) (Reader Branch) (Reader Step) → Reader Alternative
alternative_reader (Alternative-F.Guarded guard c b) = bind {A = Option Expr × Communication} (bind (guard_reader guard) (λ g. last (refilled_communication c) (λ x. (g, x)))) (λ z. last (body_reader b) (λ ys. alternative.Guarded z.0 z.1 ys))
alternative_reader (Alternative-F.Unwind p w xs) = keep (λ q. bind {A = Walk × List Alternative} (bind (refilled_walk w) (λ u. pass (last (between xs) (λ ys. (u, ys))))) (λ z. pass (done (alternative.Unwind q z.0 z.1))))

abbrev pub branch_reader : Branch-F (Reader Alternative) (Reader Statement) (Reader Branch) (Reader Step) → Reader Branch
branch_reader b = bind (refilled_expr b.condition) (λ x. pass (last (each b.block) (λ ys. branch x ys)))

abbrev pub step_reader : Step-F (Reader Alternative) (Reader Statement) (Reader Branch) (Reader Step) → Reader Step
step_reader s = bind s.statement (λ x. last (semicolon_reader s.semicolon) (λ u. step x s.semicolon))

abbrev pub refilled_statement : Statement → Reader Statement
refilled_statement = fold-Statement (Reader Alternative) (Reader Statement) (Reader Branch) (Reader Step) alternative_reader statement_reader branch_reader step_reader

abbrev pub again_statement : Statement → Reader Statement
again_statement x = refilled_statement (unplaced_statement x)

abbrev pub refilled_alternative : Alternative → Reader Alternative
refilled_alternative = fold-Alternative (Reader Alternative) (Reader Statement) (Reader Branch) (Reader Step) alternative_reader statement_reader branch_reader step_reader

abbrev pub again_alternative : Alternative → Reader Alternative
again_alternative x = refilled_alternative (unplaced_alternative x)

abbrev pub refilled_branch : Branch → Reader Branch
refilled_branch = fold-Branch (Reader Alternative) (Reader Statement) (Reader Branch) (Reader Step) alternative_reader statement_reader branch_reader step_reader

abbrev pub again_branch : Branch → Reader Branch
again_branch x = refilled_branch (unplaced_branch x)

abbrev pub refilled_step : Step → Reader Step
refilled_step = fold-Step (Reader Alternative) (Reader Statement) (Reader Branch) (Reader Step) alternative_reader statement_reader branch_reader step_reader

abbrev pub again_step : Step → Reader Step
again_step x = refilled_step (unplaced_step x)

pub statement-Declare : (ty : TypeTree) (vs : List Variable) → again_statement (statement.Declare ty vs) ≡ bind (refilled_type (unplaced_type ty)) (λ t. last (between (map refilled_variable (map unplaced_variable vs))) (λ ys. statement.Declare t ys))
statement-Declare ty vs =
    ap refilled_statement (ap unplaced_statement (sym (statement.rolls-Declare ty vs)) ∙ fold-roll-Statement Alternative Statement Branch Step alternative_without statement_without branch_without step_without (Statement-F.Declare ty vs))
    ∙ (ap refilled_statement (sym (statement.rolls-Declare (unplaced_type ty) (map unplaced_variable vs))) ∙ fold-roll-Statement (Reader Alternative) (Reader Statement) (Reader Branch) (Reader Step) alternative_reader statement_reader branch_reader step_reader (Statement-F.Declare (unplaced_type ty) (map unplaced_variable vs)))

pub statement-Assign : (ts : List Target) (p : Place) (es : List Expr) → again_statement (statement.Assign ts p es) ≡ bind (between (map refilled_target (map unplaced_target ts))) (λ us. keep (λ q. last (between (map refilled_expr (map unplaced_expr es))) (λ ys. statement.Assign us q ys)))
statement-Assign ts p es =
    ap refilled_statement (ap unplaced_statement (sym (statement.rolls-Assign ts p es)) ∙ fold-roll-Statement Alternative Statement Branch Step alternative_without statement_without branch_without step_without (Statement-F.Assign ts p es))
    ∙ (ap refilled_statement (sym (statement.rolls-Assign (map unplaced_target ts) nowhere (map unplaced_expr es))) ∙ fold-roll-Statement (Reader Alternative) (Reader Statement) (Reader Branch) (Reader Step) alternative_reader statement_reader branch_reader step_reader (Statement-F.Assign (map unplaced_target ts) nowhere (map unplaced_expr es)))

pub statement-Communicate : (c : Communication) → again_statement (statement.Communicate c) ≡ last (refilled_communication (unplaced_communication c)) (λ x. statement.Communicate x)
statement-Communicate c =
    ap refilled_statement (ap unplaced_statement (sym (statement.rolls-Communicate c)) ∙ fold-roll-Statement Alternative Statement Branch Step alternative_without statement_without branch_without step_without (Statement-F.Communicate c))
    ∙ (ap refilled_statement (sym (statement.rolls-Communicate (unplaced_communication c))) ∙ fold-roll-Statement (Reader Alternative) (Reader Statement) (Reader Branch) (Reader Step) alternative_reader statement_reader branch_reader step_reader (Statement-F.Communicate (unplaced_communication c)))

pub statement-Pass : (p : Place) → again_statement (statement.Pass p) ≡ keep (λ q. done (statement.Pass q))
statement-Pass p =
    ap refilled_statement (ap unplaced_statement (sym (statement.rolls-Pass p)) ∙ fold-roll-Statement Alternative Statement Branch Step alternative_without statement_without branch_without step_without (Statement-F.Pass p))
    ∙ (ap refilled_statement (sym (statement.rolls-Pass nowhere)) ∙ fold-roll-Statement (Reader Alternative) (Reader Statement) (Reader Branch) (Reader Step) alternative_reader statement_reader branch_reader step_reader (Statement-F.Pass nowhere))

pub statement-Break : (p : Place) → again_statement (statement.Break p) ≡ keep (λ q. done (statement.Break q))
statement-Break p =
    ap refilled_statement (ap unplaced_statement (sym (statement.rolls-Break p)) ∙ fold-roll-Statement Alternative Statement Branch Step alternative_without statement_without branch_without step_without (Statement-F.Break p))
    ∙ (ap refilled_statement (sym (statement.rolls-Break nowhere)) ∙ fold-roll-Statement (Reader Alternative) (Reader Statement) (Reader Branch) (Reader Step) alternative_reader statement_reader branch_reader step_reader (Statement-F.Break nowhere))

pub statement-Continue : (p : Place) → again_statement (statement.Continue p) ≡ keep (λ q. done (statement.Continue q))
statement-Continue p =
    ap refilled_statement (ap unplaced_statement (sym (statement.rolls-Continue p)) ∙ fold-roll-Statement Alternative Statement Branch Step alternative_without statement_without branch_without step_without (Statement-F.Continue p))
    ∙ (ap refilled_statement (sym (statement.rolls-Continue nowhere)) ∙ fold-roll-Statement (Reader Alternative) (Reader Statement) (Reader Branch) (Reader Step) alternative_reader statement_reader branch_reader step_reader (Statement-F.Continue nowhere))

pub statement-Select : (p : Place) (xs : List Alternative) → again_statement (statement.Select p xs) ≡ keep (λ q. bind (between (map refilled_alternative (map unplaced_alternative xs))) (λ ys. pass (done (statement.Select q ys))))
statement-Select p xs =
    ap refilled_statement (ap unplaced_statement (sym (statement.rolls-Select p xs)) ∙ fold-roll-Statement Alternative Statement Branch Step alternative_without statement_without branch_without step_without (Statement-F.Select p xs))
    ∙ (ap refilled_statement (sym (statement.rolls-Select nowhere (map unplaced_alternative xs))) ∙ fold-roll-Statement (Reader Alternative) (Reader Statement) (Reader Branch) (Reader Step) alternative_reader statement_reader branch_reader step_reader (Statement-F.Select nowhere (map unplaced_alternative xs)))

pub statement-If : (p : Place) (bs : List Branch) (other : List Step) → again_statement (statement.If p bs other) ≡ keep (λ q. bind {A = List Branch × List Step} (bind (between (map refilled_branch (map unplaced_branch bs))) (λ ys. last (else_reader (map refilled_step (map unplaced_step other))) (λ zs. (ys, zs)))) (λ z. pass (done (statement.If q z.0 z.1))))
statement-If p bs other =
    ap refilled_statement (ap unplaced_statement (sym (statement.rolls-If p bs other)) ∙ fold-roll-Statement Alternative Statement Branch Step alternative_without statement_without branch_without step_without (Statement-F.If p bs other))
    ∙ (ap refilled_statement (sym (statement.rolls-If nowhere (map unplaced_branch bs) (map unplaced_step other))) ∙ fold-roll-Statement (Reader Alternative) (Reader Statement) (Reader Branch) (Reader Step) alternative_reader statement_reader branch_reader step_reader (Statement-F.If nowhere (map unplaced_branch bs) (map unplaced_step other)))

pub statement-While : (p : Place) (e : Expr) (b : List Step) → again_statement (statement.While p e b) ≡ keep (λ q. bind (refilled_expr (unplaced_expr e)) (λ x. last (to_end (map refilled_step (map unplaced_step b))) (λ ys. statement.While q x ys)))
statement-While p e b =
    ap refilled_statement (ap unplaced_statement (sym (statement.rolls-While p e b)) ∙ fold-roll-Statement Alternative Statement Branch Step alternative_without statement_without branch_without step_without (Statement-F.While p e b))
    ∙ (ap refilled_statement (sym (statement.rolls-While nowhere (unplaced_expr e) (map unplaced_step b))) ∙ fold-roll-Statement (Reader Alternative) (Reader Statement) (Reader Branch) (Reader Step) alternative_reader statement_reader branch_reader step_reader (Statement-F.While nowhere (unplaced_expr e) (map unplaced_step b)))

pub statement-For : (p : Place) (w : Walk) (b : List Step) → again_statement (statement.For p w b) ≡ keep (λ q. bind (refilled_walk (unplaced_walk w)) (λ u. last (to_end (map refilled_step (map unplaced_step b))) (λ ys. statement.For q u ys)))
statement-For p w b =
    ap refilled_statement (ap unplaced_statement (sym (statement.rolls-For p w b)) ∙ fold-roll-Statement Alternative Statement Branch Step alternative_without statement_without branch_without step_without (Statement-F.For p w b))
    ∙ (ap refilled_statement (sym (statement.rolls-For nowhere (unplaced_walk w) (map unplaced_step b))) ∙ fold-roll-Statement (Reader Alternative) (Reader Statement) (Reader Branch) (Reader Step) alternative_reader statement_reader branch_reader step_reader (Statement-F.For nowhere (unplaced_walk w) (map unplaced_step b)))

pub statement-Return : (p : Place) (e : Expr) → again_statement (statement.Return p e) ≡ keep (λ q. last (refilled_expr (unplaced_expr e)) (λ x. statement.Return q x))
statement-Return p e =
    ap refilled_statement (ap unplaced_statement (sym (statement.rolls-Return p e)) ∙ fold-roll-Statement Alternative Statement Branch Step alternative_without statement_without branch_without step_without (Statement-F.Return p e))
    ∙ (ap refilled_statement (sym (statement.rolls-Return nowhere (unplaced_expr e))) ∙ fold-roll-Statement (Reader Alternative) (Reader Statement) (Reader Branch) (Reader Step) alternative_reader statement_reader branch_reader step_reader (Statement-F.Return nowhere (unplaced_expr e)))

pub statement-Exit : (p : Place) (e : Option Expr) → again_statement (statement.Exit p e) ≡ keep (λ q. last (optional (option_map refilled_expr (option_map unplaced_expr e))) (λ x. statement.Exit q x))
statement-Exit p e =
    ap refilled_statement (ap unplaced_statement (sym (statement.rolls-Exit p e)) ∙ fold-roll-Statement Alternative Statement Branch Step alternative_without statement_without branch_without step_without (Statement-F.Exit p e))
    ∙ (ap refilled_statement (sym (statement.rolls-Exit nowhere (option_map unplaced_expr e))) ∙ fold-roll-Statement (Reader Alternative) (Reader Statement) (Reader Branch) (Reader Step) alternative_reader statement_reader branch_reader step_reader (Statement-F.Exit nowhere (option_map unplaced_expr e)))

pub statement-Run : (p : Place) (es : List Element) → again_statement (statement.Run p es) ≡ keep (λ q. last (between (map refilled_element (map unplaced_element es))) (λ ys. statement.Run q ys))
statement-Run p es =
    ap refilled_statement (ap unplaced_statement (sym (statement.rolls-Run p es)) ∙ fold-roll-Statement Alternative Statement Branch Step alternative_without statement_without branch_without step_without (Statement-F.Run p es))
    ∙ (ap refilled_statement (sym (statement.rolls-Run nowhere (map unplaced_element es))) ∙ fold-roll-Statement (Reader Alternative) (Reader Statement) (Reader Branch) (Reader Step) alternative_reader statement_reader branch_reader step_reader (Statement-F.Run nowhere (map unplaced_element es)))

pub statement-Start : (p : Place) (es : List Element) → again_statement (statement.Start p es) ≡ keep (λ q. last (between (map refilled_element (map unplaced_element es))) (λ ys. statement.Start q ys))
statement-Start p es =
    ap refilled_statement (ap unplaced_statement (sym (statement.rolls-Start p es)) ∙ fold-roll-Statement Alternative Statement Branch Step alternative_without statement_without branch_without step_without (Statement-F.Start p es))
    ∙ (ap refilled_statement (sym (statement.rolls-Start nowhere (map unplaced_element es))) ∙ fold-roll-Statement (Reader Alternative) (Reader Statement) (Reader Branch) (Reader Step) alternative_reader statement_reader branch_reader step_reader (Statement-F.Start nowhere (map unplaced_element es)))

pub statement-Finish : (p : Place) (es : List Expr) → again_statement (statement.Finish p es) ≡ keep (λ q. last (between (map refilled_expr (map unplaced_expr es))) (λ ys. statement.Finish q ys))
statement-Finish p es =
    ap refilled_statement (ap unplaced_statement (sym (statement.rolls-Finish p es)) ∙ fold-roll-Statement Alternative Statement Branch Step alternative_without statement_without branch_without step_without (Statement-F.Finish p es))
    ∙ (ap refilled_statement (sym (statement.rolls-Finish nowhere (map unplaced_expr es))) ∙ fold-roll-Statement (Reader Alternative) (Reader Statement) (Reader Branch) (Reader Step) alternative_reader statement_reader branch_reader step_reader (Statement-F.Finish nowhere (map unplaced_expr es)))

pub statement-Write : (p : Place) (line : Bool) (text : List ℕ) (at : Place) (es : List Expr) → again_statement (statement.Write p line text at es) ≡ keep (λ q. pass (keep (λ r. bind (after_each (map refilled_expr (map unplaced_expr es))) (λ ys. pass (done (statement.Write q line text r ys))))))
statement-Write p line text at es =
    ap refilled_statement (ap unplaced_statement (sym (statement.rolls-Write p line text at es)) ∙ fold-roll-Statement Alternative Statement Branch Step alternative_without statement_without branch_without step_without (Statement-F.Write p line text at es))
    ∙ (ap refilled_statement (sym (statement.rolls-Write nowhere line text nowhere (map unplaced_expr es))) ∙ fold-roll-Statement (Reader Alternative) (Reader Statement) (Reader Branch) (Reader Step) alternative_reader statement_reader branch_reader step_reader (Statement-F.Write nowhere line text nowhere (map unplaced_expr es)))

pub alternative-Guarded : (guard : Option Expr) (c : Communication) (b : List Step) → again_alternative (alternative.Guarded guard c b) ≡ bind {A = Option Expr × Communication} (bind (guard_reader (option_map unplaced_expr guard)) (λ g. last (refilled_communication (unplaced_communication c)) (λ x. (g, x)))) (λ z. last (body_reader (map refilled_step (map unplaced_step b))) (λ ys. alternative.Guarded z.0 z.1 ys))
alternative-Guarded guard c b =
    ap refilled_alternative (ap unplaced_alternative (sym (alternative.rolls-Guarded guard c b)) ∙ fold-roll-Alternative Alternative Statement Branch Step alternative_without statement_without branch_without step_without (Alternative-F.Guarded guard c b))
    ∙ (ap refilled_alternative (sym (alternative.rolls-Guarded (option_map unplaced_expr guard) (unplaced_communication c) (map unplaced_step b))) ∙ fold-roll-Alternative (Reader Alternative) (Reader Statement) (Reader Branch) (Reader Step) alternative_reader statement_reader branch_reader step_reader (Alternative-F.Guarded (option_map unplaced_expr guard) (unplaced_communication c) (map unplaced_step b)))

pub alternative-Unwind : (p : Place) (w : Walk) (xs : List Alternative) → again_alternative (alternative.Unwind p w xs) ≡ keep (λ q. bind {A = Walk × List Alternative} (bind (refilled_walk (unplaced_walk w)) (λ u. pass (last (between (map refilled_alternative (map unplaced_alternative xs))) (λ ys. (u, ys))))) (λ z. pass (done (alternative.Unwind q z.0 z.1))))
alternative-Unwind p w xs =
    ap refilled_alternative (ap unplaced_alternative (sym (alternative.rolls-Unwind p w xs)) ∙ fold-roll-Alternative Alternative Statement Branch Step alternative_without statement_without branch_without step_without (Alternative-F.Unwind p w xs))
    ∙ (ap refilled_alternative (sym (alternative.rolls-Unwind nowhere (unplaced_walk w) (map unplaced_alternative xs))) ∙ fold-roll-Alternative (Reader Alternative) (Reader Statement) (Reader Branch) (Reader Step) alternative_reader statement_reader branch_reader step_reader (Alternative-F.Unwind nowhere (unplaced_walk w) (map unplaced_alternative xs)))

pub branch-in : (e : Expr) (b : List Step)
    → again_branch (branch e b) ≡ bind (refilled_expr (unplaced_expr e)) (λ x. pass (last (each (map refilled_step (map unplaced_step b))) (λ ys. branch x ys)))
branch-in e b =
    ap refilled_branch (fold-roll-Branch Alternative Statement Branch Step alternative_without statement_without branch_without step_without (record { condition = e; block = b }))
    ∙ fold-roll-Branch (Reader Alternative) (Reader Statement) (Reader Branch) (Reader Step) alternative_reader statement_reader branch_reader step_reader (record { condition = unplaced_expr e; block = map unplaced_step b })

pub step-in : (s : Step) → again_step s ≡ bind (again_statement s.statement) (λ x. last (semicolon_reader s.semicolon) (λ u. step x s.semicolon))
step-in s =
    ap refilled_step (fold_out-Step Alternative Statement Branch Step alternative_without statement_without branch_without step_without s)
    ∙ fold_out-Step (Reader Alternative) (Reader Statement) (Reader Branch) (Reader Step) alternative_reader statement_reader branch_reader step_reader (step (unplaced_statement s.statement) s.semicolon)

-- definitions

abbrev pub callable_reader : List Formal → List Step → Reader (List Formal × List Step)
callable_reader fs block =
    pass (bind (bind (formals (map refilled_formal fs)) (λ xs. pass (done xs))) (λ xs. last (to_end (map refilled_step block)) (λ ys. (xs, ys))))

abbrev pub head_reader : Option TypeTree → Name → Reader (Option TypeTree × Name)
head_reader t n = bind (optional (option_map refilled_type t)) (λ x. keep (λ r. done (x, name_at n.text r)))

abbrev pub refilled_definition : Definition → Reader Definition
refilled_definition (definition.Enum p n names) =
    keep (λ q. keep (λ r. pass (pass (bind (between (map refilled_name names)) (λ ns. pass (done (definition.Enum q (name_at n.text r) ns)))))))
refilled_definition (definition.Const p ty n at e) =
    keep (λ q. bind (refilled_type ty) (λ t. keep (λ r. keep (λ s. last (refilled_expr e) (λ x. definition.Const q t (name_at n.text r) s x)))))
refilled_definition (definition.TypeWord p n ty) =
    keep (λ q. keep (λ r. pass (last (refilled_type ty) (λ t. definition.TypeWord q (name_at n.text r) t))))
refilled_definition (definition.Func p ty n fs block) =
    keep (λ q. bind (refilled_type ty) (λ t. keep (λ r. last (callable_reader fs block) (λ z. definition.Func q t (name_at n.text r) z.0 z.1))))
refilled_definition (definition.Proc p ty n fs block) =
    keep (λ q. bind (head_reader ty n) (λ h. last (callable_reader fs block) (λ z. definition.Proc q h.0 h.1 z.0 z.1)))
refilled_definition (definition.Model p ty n fs block) =
    keep (λ q. bind (head_reader ty n) (λ h. last (callable_reader fs block) (λ z. definition.Model q h.0 h.1 z.0 z.1)))
refilled_definition (definition.Xper p n block) =
    keep (λ q. keep (λ r. last (callable_reader [] block) (λ z. definition.Xper q (name_at n.text r) z.1)))

abbrev pub refilled_item : Item → Reader Item
refilled_item i =
    bind (refilled_definition i.definition) (λ x. last (semicolon_reader i.semicolon) (λ u. record { definition = x; semicolon = i.semicolon }))
