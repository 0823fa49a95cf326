-- Trees in which each assignment has a target, and each walk a name: the grammar has no others.
use Rattle.std.specs.Prelude.{Bool, true, false, ◌&&◌, List, [], ◌∷◌, map}
use Rattle.std.specs.List.{list_all}
use Rattle.chi_value.specs.Plain.{itself}
use Rattle.chi_tree.specs.declared.statement.Alternative.{Alternative, Alternative-F, fold-Alternative}
use Rattle.chi_tree.specs.declared.statement.Branch.{Branch, Branch-F, fold-Branch}
use Rattle.chi_tree.specs.declared.statement.Element.{Element, Element-F, fold-Element}
use Rattle.chi_tree.specs.declared.statement.Statement.{Statement, Statement-F, fold-Statement}
use Rattle.chi_tree.specs.declared.statement.Step.{Step, Step-F, fold-Step}

abbrev pub has_any : {A : Type 0} → List A → Bool
has_any [] = false
has_any (x ∷ xs) = true

abbrev pub element_step : Element-F Bool → Bool
element_step (Element-F.Make target name arguments) = true
element_step (Element-F.Unwind place walk elements) = has_any walk.names && list_all itself elements

abbrev pub element_is_whole : Element → Bool
element_is_whole = fold-Element Bool element_step

abbrev pub elements_are_whole : List Element → Bool
elements_are_whole es = list_all itself (map element_is_whole es)

abbrev pub statement_step : Statement-F Bool Bool Bool Bool → Bool
statement_step (Statement-F.Declare tree variables) = true
statement_step (Statement-F.Assign targets equals values) = has_any targets
statement_step (Statement-F.Communicate c) = true
statement_step (Statement-F.Pass place) = true
statement_step (Statement-F.Break place) = true
statement_step (Statement-F.Continue place) = true
statement_step (Statement-F.Select place alternatives) = list_all itself alternatives
statement_step (Statement-F.If place branches otherwise) = list_all itself branches && list_all itself otherwise
statement_step (Statement-F.While place test block) = list_all itself block
statement_step (Statement-F.For place walk block) = has_any walk.names && list_all itself block
statement_step (Statement-F.Return place value) = true
statement_step (Statement-F.Exit place value) = true
statement_step (Statement-F.Run place elements) = elements_are_whole elements
statement_step (Statement-F.Start place elements) = elements_are_whole elements
statement_step (Statement-F.Finish place instances) = true
statement_step (Statement-F.Write place ends_line format format_place values) = true

abbrev pub branch_step : Branch-F Bool Bool Bool Bool → Bool
branch_step b = list_all itself b.block

abbrev pub alternative_step : Alternative-F Bool Bool Bool Bool → Bool
alternative_step (Alternative-F.Guarded guard c block) = list_all itself block
alternative_step (Alternative-F.Unwind place walk alternatives) = has_any walk.names && list_all itself alternatives

abbrev pub step_step : Step-F Bool Bool Bool Bool → Bool
step_step step = step.statement

abbrev pub statement_is_whole : Statement → Bool
statement_is_whole = fold-Statement Bool Bool Bool Bool alternative_step statement_step branch_step step_step

abbrev pub step_is_whole : Step → Bool
step_is_whole = fold-Step Bool Bool Bool Bool alternative_step statement_step branch_step step_step

abbrev pub branch_is_whole : Branch → Bool
branch_is_whole = fold-Branch Bool Bool Bool Bool alternative_step statement_step branch_step step_step

abbrev pub alternative_is_whole : Alternative → Bool
alternative_is_whole = fold-Alternative Bool Bool Bool Bool alternative_step statement_step branch_step step_step

abbrev pub steps_are_whole : List Step → Bool
steps_are_whole steps = list_all itself (map step_is_whole steps)
