-- The nestings in each kind of statement, by those in its parts.
use Rattle.std.proofs.Common.{◌≡◌, ℕ, Bool, List, [], ◌∷◌, ◌++◌, Option, map, ap, sym, ◌∙◌}
use Rattle.std.specs.Option.{option_map}
use Rattle.chi_token.specs.declared.place.Place.{Place}
use Rattle.chi_tree.specs.declared.type_tree.Name.{Name}
use Rattle.chi_tree.specs.declared.type_tree.TypeTree.{TypeTree}
use Rattle.chi_tree.specs.declared.expr.Expr.{Expr}
use Rattle.chi_tree.specs.declared.statement.Variable.{Variable}
use Rattle.chi_tree.specs.declared.statement.Target.{Target}
use Rattle.chi_tree.specs.declared.statement.Walk.{Walk}
use Rattle.chi_tree.specs.declared.statement.Communication.{Communication}
use Rattle.chi_tree.specs.declared.statement.Element.{Element, Element-F, fold-roll-Element}
use Rattle.chi_tree.specs.declared.statement.Element.TheVariants as element
use Rattle.chi_tree.specs.declared.statement.Step.{Step, fold_out-Step}
use Rattle.chi_tree.specs.declared.statement.Statement.{Statement-F, fold-roll-Statement}
use Rattle.chi_tree.specs.declared.statement.Statement.TheVariants as statement
use Rattle.chi_tree.specs.declared.statement.Branch.{Branch, roll-Branch, fold-roll-Branch}
use Rattle.chi_tree.specs.declared.statement.Alternative.{Alternative, Alternative-F, fold-roll-Alternative}
use Rattle.chi_tree.specs.declared.statement.Alternative.TheVariants as alternative
use Rattle.chi_tree_laws.specs.Nestings.{Nestings, outside, in_block, bracketed, if_any, each_after, separated}
use Rattle.chi_tree_laws.specs.ExprNestings.{expr_nestings, type_nestings}
use Rattle.chi_tree_laws.specs.StatementNestings.{semicolon_if, exprs_nestings, variable_nestings, target_nestings, walk_nestings, communication_nestings, assigned_nestings, element_step, element_nestings, elements_nestings, guard_nestings, body_nestings, else_nestings, to_end, alternative_step, statement_step, branch_step, step_step, alternative_nestings, statement_nestings, branch_nestings, step_nestings, block_nestings}

pub statement-Declare : (ty : TypeTree) (vs : List Variable) → statement_nestings (statement.Declare ty vs) ≡ type_nestings ty ++ separated (map variable_nestings vs)
statement-Declare ty vs = ap statement_nestings (sym (statement.rolls-Declare ty vs)) ∙ fold-roll-Statement Nestings Nestings Nestings Nestings alternative_step statement_step branch_step step_step (Statement-F.Declare ty vs)

pub statement-Assign : (ts : List Target) (p : Place) (es : List Expr) → statement_nestings (statement.Assign ts p es) ≡ separated (map target_nestings ts) ++ outside ∷ exprs_nestings es
statement-Assign ts p es = ap statement_nestings (sym (statement.rolls-Assign ts p es)) ∙ fold-roll-Statement Nestings Nestings Nestings Nestings alternative_step statement_step branch_step step_step (Statement-F.Assign ts p es)

pub statement-Communicate : (c : Communication) → statement_nestings (statement.Communicate c) ≡ communication_nestings c
statement-Communicate c = ap statement_nestings (sym (statement.rolls-Communicate c)) ∙ fold-roll-Statement Nestings Nestings Nestings Nestings alternative_step statement_step branch_step step_step (Statement-F.Communicate c)

pub statement-Pass : (p : Place) → statement_nestings (statement.Pass p) ≡ outside ∷ []
statement-Pass p = ap statement_nestings (sym (statement.rolls-Pass p)) ∙ fold-roll-Statement Nestings Nestings Nestings Nestings alternative_step statement_step branch_step step_step (Statement-F.Pass p)

pub statement-Break : (p : Place) → statement_nestings (statement.Break p) ≡ outside ∷ []
statement-Break p = ap statement_nestings (sym (statement.rolls-Break p)) ∙ fold-roll-Statement Nestings Nestings Nestings Nestings alternative_step statement_step branch_step step_step (Statement-F.Break p)

pub statement-Continue : (p : Place) → statement_nestings (statement.Continue p) ≡ outside ∷ []
statement-Continue p = ap statement_nestings (sym (statement.rolls-Continue p)) ∙ fold-roll-Statement Nestings Nestings Nestings Nestings alternative_step statement_step branch_step step_step (Statement-F.Continue p)

pub statement-Select : (p : Place) (xs : List Alternative) → statement_nestings (statement.Select p xs) ≡ outside ∷ separated (map alternative_nestings xs) ++ outside ∷ []
statement-Select p xs = ap statement_nestings (sym (statement.rolls-Select p xs)) ∙ fold-roll-Statement Nestings Nestings Nestings Nestings alternative_step statement_step branch_step step_step (Statement-F.Select p xs)

pub statement-If : (p : Place) (bs : List Branch) (other : List Step) → statement_nestings (statement.If p bs other) ≡ outside ∷ separated (map branch_nestings bs) ++ (else_nestings (map step_nestings other) ++ outside ∷ [])
statement-If p bs other = ap statement_nestings (sym (statement.rolls-If p bs other)) ∙ fold-roll-Statement Nestings Nestings Nestings Nestings alternative_step statement_step branch_step step_step (Statement-F.If p bs other)

pub statement-While : (p : Place) (e : Expr) (b : List Step) → statement_nestings (statement.While p e b) ≡ outside ∷ expr_nestings e ++ to_end (map step_nestings b)
statement-While p e b = ap statement_nestings (sym (statement.rolls-While p e b)) ∙ fold-roll-Statement Nestings Nestings Nestings Nestings alternative_step statement_step branch_step step_step (Statement-F.While p e b)

pub statement-For : (p : Place) (w : Walk) (b : List Step) → statement_nestings (statement.For p w b) ≡ outside ∷ walk_nestings w ++ to_end (map step_nestings b)
statement-For p w b = ap statement_nestings (sym (statement.rolls-For p w b)) ∙ fold-roll-Statement Nestings Nestings Nestings Nestings alternative_step statement_step branch_step step_step (Statement-F.For p w b)

pub statement-Return : (p : Place) (e : Expr) → statement_nestings (statement.Return p e) ≡ outside ∷ expr_nestings e
statement-Return p e = ap statement_nestings (sym (statement.rolls-Return p e)) ∙ fold-roll-Statement Nestings Nestings Nestings Nestings alternative_step statement_step branch_step step_step (Statement-F.Return p e)

pub statement-Exit : (p : Place) (e : Option Expr) → statement_nestings (statement.Exit p e) ≡ outside ∷ if_any (option_map expr_nestings e)
statement-Exit p e = ap statement_nestings (sym (statement.rolls-Exit p e)) ∙ fold-roll-Statement Nestings Nestings Nestings Nestings alternative_step statement_step branch_step step_step (Statement-F.Exit p e)

pub statement-Run : (p : Place) (es : List Element) → statement_nestings (statement.Run p es) ≡ outside ∷ elements_nestings es
statement-Run p es = ap statement_nestings (sym (statement.rolls-Run p es)) ∙ fold-roll-Statement Nestings Nestings Nestings Nestings alternative_step statement_step branch_step step_step (Statement-F.Run p es)

pub statement-Start : (p : Place) (es : List Element) → statement_nestings (statement.Start p es) ≡ outside ∷ elements_nestings es
statement-Start p es = ap statement_nestings (sym (statement.rolls-Start p es)) ∙ fold-roll-Statement Nestings Nestings Nestings Nestings alternative_step statement_step branch_step step_step (Statement-F.Start p es)

pub statement-Finish : (p : Place) (es : List Expr) → statement_nestings (statement.Finish p es) ≡ outside ∷ exprs_nestings es
statement-Finish p es = ap statement_nestings (sym (statement.rolls-Finish p es)) ∙ fold-roll-Statement Nestings Nestings Nestings Nestings alternative_step statement_step branch_step step_step (Statement-F.Finish p es)

pub statement-Write : (p : Place) (line : Bool) (text : List ℕ) (at : Place) (es : List Expr) → statement_nestings (statement.Write p line text at es) ≡ outside ∷ bracketed (outside ∷ each_after (map expr_nestings es))
statement-Write p line text at es = ap statement_nestings (sym (statement.rolls-Write p line text at es)) ∙ fold-roll-Statement Nestings Nestings Nestings Nestings alternative_step statement_step branch_step step_step (Statement-F.Write p line text at es)

pub alternative-Guarded : (guard : Option Expr) (c : Communication) (b : List Step) → alternative_nestings (alternative.Guarded guard c b) ≡ guard_nestings guard ++ communication_nestings c ++ body_nestings (map step_nestings b)
alternative-Guarded guard c b = ap alternative_nestings (sym (alternative.rolls-Guarded guard c b)) ∙ fold-roll-Alternative Nestings Nestings Nestings Nestings alternative_step statement_step branch_step step_step (Alternative-F.Guarded guard c b)

pub alternative-Unwind : (p : Place) (w : Walk) (xs : List Alternative) → alternative_nestings (alternative.Unwind p w xs) ≡ outside ∷ walk_nestings w ++ (outside ∷ in_block (separated (map alternative_nestings xs)) ++ outside ∷ [])
alternative-Unwind p w xs = ap alternative_nestings (sym (alternative.rolls-Unwind p w xs)) ∙ fold-roll-Alternative Nestings Nestings Nestings Nestings alternative_step statement_step branch_step step_step (Alternative-F.Unwind p w xs)

pub element-Make : (t : Option Target) (n : Name) (es : List Expr) → element_nestings (element.Make t n es) ≡ assigned_nestings t ++ outside ∷ bracketed (exprs_nestings es)
element-Make t n es = ap element_nestings (sym (element.rolls-Make t n es)) ∙ fold-roll-Element Nestings element_step (Element-F.Make t n es)

pub element-Unwind : (p : Place) (w : Walk) (es : List Element) → element_nestings (element.Unwind p w es) ≡ outside ∷ walk_nestings w ++ (outside ∷ in_block (elements_nestings es) ++ outside ∷ [])
element-Unwind p w es = ap element_nestings (sym (element.rolls-Unwind p w es)) ∙ fold-roll-Element Nestings element_step (Element-F.Unwind p w es)

pub step-in : (s : Step) → step_nestings s ≡ statement_nestings s.statement ++ semicolon_if s.semicolon
step-in s = fold_out-Step Nestings Nestings Nestings Nestings alternative_step statement_step branch_step step_step s

pub branch-in : (e : Expr) (b : List Step) → branch_nestings (roll-Branch (record { condition = e; block = b })) ≡ expr_nestings e ++ outside ∷ in_block (block_nestings b)
branch-in e b = fold-roll-Branch Nestings Nestings Nestings Nestings alternative_step statement_step branch_step step_step (record { condition = e; block = b })
