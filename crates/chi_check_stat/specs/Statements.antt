-- The broken rules of statements, in the order in which they are met, and what they come to where there are none.
use Rattle.std.specs.Prelude.{Bool, true, List, [], ◌∷◌, ◌++◌, map, Option}
use Rattle.chi_tree.specs.declared.statement.Alternative.{Alternative, Alternative-F, fold-Alternative}
use Rattle.chi_tree.specs.declared.statement.Branch.{Branch, Branch-F, fold-Branch}
use Rattle.chi_tree.specs.declared.statement.Element.{Element, Element-F, fold-Element}
use Rattle.chi_tree.specs.declared.statement.Statement.{Statement, Statement-F, fold-Statement}
use Rattle.chi_tree.specs.declared.statement.Step.{Step, Step-F, fold-Step}
use Rattle.chi_core.specs.declared.element.CElem.{CElem}
use Rattle.chi_core.specs.declared.element.CElem.TheVariants as element
use Rattle.chi_core.specs.declared.statement.Branch.{Branch as CBranch}
use Rattle.chi_core.specs.declared.statement.CAlt.{CAlt}
use Rattle.chi_core.specs.declared.statement.CStat.{CStat}
use Rattle.chi_core.specs.declared.statement.CStat.TheVariants as statement
use Rattle.chi_check_types.specs.Typed.{unless}
use Rattle.chi_check_stat_rules.specs.declared.home.Home.{Home}
use Rattle.chi_check_stat_rules.specs.Endings.{loop_rule}
use Rattle.chi_check_stat_rules.specs.Homes.{running_rule}
use Rattle.chi_check_stat_lines.specs.declared.state.Binder.TheVariants as binder
use Rattle.chi_check_stat_lines.specs.declared.state.State.{State}
use Rattle.chi_check_stat_lines.specs.declared.state.Opened.{Opened}
use Rattle.chi_check_stat_lines.specs.Stated.{Turn, both, in_turn, alone, held_by}
use Rattle.chi_check_stat_lines.specs.States.{closed, block, Going, each_in}
use Rattle.chi_check_stat_lines.specs.Values.{test_in, guard_in, assignment_in}
use Rattle.chi_check_stat_lines.specs.Declarations.{declaration_in, walk_in}
use Rattle.chi_check_stat_lines.specs.Lines.{communication_in, communicating, element_in, write_in, return_in, exit_in, finish_in}
use Rattle.chi_check_stat_lines.specs.Blocks.{offers, runs, starts, chosen, looped, walked, branched, guarded, offered}

-- ---- what is run and started

abbrev pub unwound : Option Opened → Option (List CElem) → Option (List CElem)
unwound = both (λ w es. element.Unwind w.slots w.container es ∷ [])

module _ (home : Home) where
  abbrev pub element_step : Element-F (Turn State CElem) → Turn State CElem
  element_step (Element-F.Make target name arguments) s = alone s (element_in home s.names target name arguments)
  element_step (Element-F.Unwind place walk elements) s =
      let w = walk_in home binder.Unwind walk s in
      let inner = in_turn elements w.next in
      closed s (record { next = inner.next; faults = w.faults ++ inner.faults; made = unwound w.made inner.made })

  abbrev pub starting : Element → Turn State CElem
  starting = fold-Element (Turn State CElem) element_step

  -- ---- statements

  abbrev pub statement_step : Statement-F (Going CAlt) (Going CStat) (Going CBranch) (Going CStat) → Going CStat
  statement_step (Statement-F.Declare tree variables) loop s = declaration_in home tree variables s
  statement_step (Statement-F.Assign targets equals values) loop s = alone s (assignment_in home s.names targets equals values)
  statement_step (Statement-F.Communicate c) loop s = alone s (communicating home s.names c)
  statement_step (Statement-F.Pass place) loop s = alone s (unless [] (statement.Pass place.line))
  statement_step (Statement-F.Break place) loop s = alone s (unless (loop_rule loop place) (statement.Break place.line))
  statement_step (Statement-F.Continue place) loop s = alone s (unless (loop_rule loop place) (statement.Continue place.line))
  statement_step (Statement-F.Select place alternatives) loop s =
      let inner = in_turn (each_in loop alternatives) s in
      held_by (running_rule home place) (record {
        next = inner.next;
        faults = inner.faults;
        made = offers place.line inner.made;
      })
  statement_step (Statement-F.If place branches otherwise) loop s =
      let first = in_turn (each_in loop branches) s in
      let last = block (each_in loop otherwise) first.next in
      record { next = last.next; faults = first.faults ++ last.faults; made = chosen place.line first.made last.made }
  statement_step (Statement-F.While place test inner) loop s =
      let t = test_in home s.names test in
      let b = block (each_in true inner) s in
      record { next = b.next; faults = t.faults ++ b.faults; made = looped place.line t.made b.made }
  statement_step (Statement-F.For place walk inner) loop s =
      let w = walk_in home binder.Variable walk s in
      let b = in_turn (each_in true inner) w.next in
      closed s (record { next = b.next; faults = w.faults ++ b.faults; made = walked place.line w.made b.made })
  statement_step (Statement-F.Return place value) loop s = alone s (return_in home s.names place value)
  statement_step (Statement-F.Exit place value) loop s = alone s (exit_in home s.names place value)
  statement_step (Statement-F.Run place elements) loop s =
      let es = in_turn (map starting elements) s in
      held_by (running_rule home place) (record { next = es.next; faults = es.faults; made = runs place.line es.made })
  statement_step (Statement-F.Start place elements) loop s =
      let es = in_turn (map starting elements) s in
      held_by (running_rule home place) (record { next = es.next; faults = es.faults; made = starts place.line es.made })
  statement_step (Statement-F.Finish place instances) loop s = alone s (finish_in home s.names place instances)
  statement_step (Statement-F.Write place ends_line format format_place values) loop s =
      alone s (write_in home s.names place ends_line format format_place values)

  abbrev pub branch_step : Branch-F (Going CAlt) (Going CStat) (Going CBranch) (Going CStat) → Going CBranch
  branch_step b loop s =
      let t = test_in home s.names b.condition in
      let inner = block (each_in loop b.block) s in
      record { next = inner.next; faults = t.faults ++ inner.faults; made = branched t.made inner.made }

  abbrev pub alternative_step : Alternative-F (Going CAlt) (Going CStat) (Going CBranch) (Going CStat) → Going CAlt
  alternative_step (Alternative-F.Guarded guard c inner) loop s =
      let g = guard_in home s.names guard in
      let offer = communication_in home s.names c in
      let b = block (each_in loop inner) s in
      record { next = b.next; faults = g.faults ++ offer.faults ++ b.faults; made = guarded g.made offer.made b.made }
  alternative_step (Alternative-F.Unwind place walk alternatives) loop s =
      let w = walk_in home binder.Unwind walk s in
      let inner = in_turn (each_in loop alternatives) w.next in
      closed s (record { next = inner.next; faults = w.faults ++ inner.faults; made = offered w.made inner.made })

  abbrev pub step_step : Step-F (Going CAlt) (Going CStat) (Going CBranch) (Going CStat) → Going CStat
  step_step step = step.statement

  unfoldable pub stating : Statement → Going CStat
  stating = fold-Statement (Going CAlt) (Going CStat) (Going CBranch) (Going CStat) alternative_step statement_step branch_step step_step

  unfoldable pub stepping : Step → Going CStat
  stepping = fold-Step (Going CAlt) (Going CStat) (Going CBranch) (Going CStat) alternative_step statement_step branch_step step_step

  unfoldable pub branching : Branch → Going CBranch
  branching = fold-Branch (Going CAlt) (Going CStat) (Going CBranch) (Going CStat) alternative_step statement_step branch_step step_step

  unfoldable pub offering : Alternative → Going CAlt
  offering = fold-Alternative (Going CAlt) (Going CStat) (Going CBranch) (Going CStat) alternative_step statement_step branch_step step_step

  -- each where a loop stands around it or not
  abbrev pub stepping_in : Bool → Step → Turn State CStat
  stepping_in loop step = stepping step loop

  abbrev pub branching_in : Bool → Branch → Turn State CBranch
  branching_in loop b = branching b loop

  abbrev pub offering_in : Bool → Alternative → Turn State CAlt
  offering_in loop a = offering a loop

  abbrev pub stating_all : Bool → List Step → Turn State CStat
  stating_all loop steps = in_turn (map (stepping_in loop) steps)
