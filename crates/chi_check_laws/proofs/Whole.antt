-- Whole lists of statements.
use Rattle.std.proofs.Common.{◌≡◌, Bool, true, List, map, Some}
use Rattle.chi_tree.specs.declared.statement.Step.{Step}
use Rattle.chi_core.specs.declared.statement.CStat.{CStat}
use Rattle.chi_core.specs.Scopes.{Scope}
use Rattle.chi_core.specs.SetSlots.{Known as Set}
use Rattle.chi_check.specs.Below.chi_check_stat_rules.specs.declared.home.Home.{Home}
use Rattle.chi_check.specs.Below.chi_check_stat_lines.specs.declared.state.State.{State}
use Rattle.chi_check.specs.Below.chi_check_stat.specs.Statements.{stepping_in, stating_all}
use Rattle.chi_check_laws.specs.Bodies.{role_of, reads_as, SlotsHave, set_by, Agrees, SoundBody}
use Rattle.chi_check_laws.specs.Whole.{steps_are_whole}
use Rattle.chi_check_laws.proofs.Assignments.{assign_kept}
use Rattle.chi_check_laws.proofs.Blocks.{select_kept, guarded_kept, offered_kept, choose_kept, branch_kept, while_kept, walk_kept, unwound_kept, run_kept, start_kept}
use Rattle.chi_check_laws.proofs.Bodies.{AllSound, StatementKept, BranchKept, OfferKept, MakeKept, statements_by_parts, body_sound}
use Rattle.chi_check_laws.proofs.Communications.{communicate_kept}
use Rattle.chi_check_laws.proofs.Declarations.{declare_kept}
use Rattle.chi_check_laws.proofs.Elements.{make_kept}
use Rattle.chi_check_laws.proofs.Endings.{return_kept, exit_kept, pass_kept, break_kept, continue_kept, finish_kept}
use Rattle.chi_check_laws.proofs.Induction.{all_stepping}
use Rattle.chi_check_laws.proofs.Nodes.{Keeps}
use Rattle.chi_check_laws.proofs.Turns.{in_turn_kept}
use Rattle.chi_check_laws.proofs.Values.{as_its_role}
use Rattle.chi_check_laws.proofs.Writes.{write_kept}

module _ (h : Home) (scope : Scope) (own : role_of h ≡ Some scope.role) where
  role : reads_as h ≡ Some scope.role
  role = as_its_role h scope.role own

  keeps_sound : Keeps h (StatementKept scope) (BranchKept scope) (OfferKept scope) (MakeKept scope)
  keeps_sound = record {
    declare = λ tree variables loop. declare_kept h scope role loop tree variables;
    assign = λ targets equals values some loop. assign_kept h scope role loop targets equals values some;
    communicate = λ c loop. communicate_kept h scope role loop c;
    pass = λ place loop. pass_kept h scope role loop place;
    break = λ place loop. break_kept h scope role loop place;
    continue = λ place loop. continue_kept h scope role loop place;
    select = select_kept h scope role;
    choose = choose_kept h scope role;
    while = while_kept h scope role;
    walk = walk_kept h scope role;
    return = λ place value loop. return_kept h scope role loop place value;
    exit = λ place value loop. exit_kept h scope role loop place value;
    run = run_kept h scope role;
    start = start_kept h scope role;
    finish = λ place instances loop. finish_kept h scope role loop place instances;
    write = λ place ends_line format format_place values loop. write_kept h scope role loop own place ends_line format format_place values;
    branch = branch_kept h scope role;
    guarded = guarded_kept h scope role;
    offered = offered_kept h scope role;
    make = make_kept h scope role;
    unwound = unwound_kept h scope role;
  }

  all_kept : (loop : Bool) (steps : List Step) → steps_are_whole steps ≡ true → StatementKept scope loop (stating_all h loop steps)
  all_kept loop steps w = in_turn_kept scope (AllSound scope loop) set_by (statements_by_parts scope loop) (map (stepping_in h loop) steps)
      (all_stepping h (StatementKept scope) (BranchKept scope) (OfferKept scope) (MakeKept scope) keeps_sound steps w loop)

  pub statements_sound : (set : Set) (loop : Bool) (steps : List Step) (s : State) (body : List CStat) → steps_are_whole steps ≡ true → SlotsHave scope (stating_all h loop steps s).next.slots → Agrees scope set s
      → (stating_all h loop steps s).made ≡ Some body → SoundBody scope loop set body × Agrees scope (set_by body set) (stating_all h loop steps s).next
  statements_sound set loop steps s body w have all e =
      let k = (all_kept loop steps w).sound set s body have all e in
      (body_sound scope loop set body k.0, k.1)
