-- What whole lists of statements set.
use Rattle.std.proofs.Common.{◌≡◌, ℕ, ◌≤◌, Bool, true, false, List, map, length, Some, inl, inr, sym, subst}
use Rattle.chi_tree.specs.declared.statement.Step.{Step}
use Rattle.chi_core.specs.declared.statement.CStat.{CStat}
use Rattle.chi_core.specs.Fills.{Fills, unwound, by_statement, by_body, UnwindsOwn}
use Rattle.chi_check.specs.Below.chi_check_stat_rules.specs.declared.home.Home.{Home}
use Rattle.chi_check.specs.Below.chi_check_streams.specs.Streams.{each, of_statement}
use Rattle.chi_check.specs.Below.chi_check_stat_lines.specs.declared.state.State.{State}
use Rattle.chi_check.specs.Below.chi_check_stat.specs.Statements.{stepping_in, stating_all}
use Rattle.chi_check_laws.specs.Bodies.{HaveSlots, Grows}
use Rattle.chi_check_laws.specs.Whole.{steps_are_whole}
use Rattle.chi_check_laws.proofs.Apart.{each_found, set_once}
use Rattle.chi_check_laws.proofs.Filled.{Mine, Filled, Filling, in_turn_filling}
use Rattle.chi_check_laws.proofs.FilledBlocks.{StatementFills, BranchFills, OfferFills, MakeFills, select_fills, guarded_fills, offered_fills, choose_fills, branch_fills, while_fills, loop_fills, unwound_fills, run_fills, start_fills}
use Rattle.chi_check_laws.proofs.FilledLines.{declare_filling, assign_filling, communicate_filling, pass_filling, break_filling, continue_filling, return_filling, exit_filling, finish_filling, write_filling, make_filling}
use Rattle.chi_check_laws.proofs.Induction.{all_stepping}
use Rattle.chi_check_laws.proofs.Nodes.{Keeps}
use Rattle.chi_check_laws.proofs.SetStreams.{body_still}

own_slots : (s n : State) (fs : Fills) → Filled s n fs → UnwindsOwn (length s.slots) fs
own_slots s n fs h k slot is = (new (each_found (Mine s n) fs k (unwound slot) h.each is), set_once fs h.apart k slot is)
  where
    true_false : true ≡ false → ⊥
    true_false e = cc

    new : Mine s n (unwound slot) → length s.slots ≤ slot
    new (inl old) = absurd (true_false old.0)
    new (inr fresh) = fresh.0

module _ (h : Home) where
  keeps_fills : Keeps h StatementFills BranchFills OfferFills MakeFills
  keeps_fills = record {
    declare = λ tree variables loop. declare_filling h tree variables;
    assign = λ targets equals values some loop. assign_filling h targets equals values;
    communicate = λ c loop. communicate_filling h c;
    pass = λ place loop. pass_filling h place;
    break = λ place loop. break_filling h loop place;
    continue = λ place loop. continue_filling h loop place;
    select = select_fills h;
    choose = choose_fills h;
    while = while_fills h;
    walk = loop_fills h;
    return = λ place value loop. return_filling h place value;
    exit = λ place value loop. exit_filling h place value;
    run = run_fills h;
    start = start_fills h;
    finish = λ place instances loop. finish_filling h place instances;
    write = λ place ends_line format format_place values loop. write_filling h place ends_line format format_place values;
    branch = branch_fills h;
    guarded = guarded_fills h;
    offered = offered_fills h;
    make = make_filling h;
    unwound = unwound_fills h;
  }

  all_filling : (loop : Bool) (steps : List Step) → steps_are_whole steps ≡ true → Filling by_statement (stating_all h loop steps)
  all_filling loop steps w = in_turn_filling by_statement (map (stepping_in h loop) steps) (all_stepping h StatementFills BranchFills OfferFills MakeFills keeps_fills steps w loop)

  pub statements_grow : (loop : Bool) (steps : List Step) (s : State) → steps_are_whole steps ≡ true → Grows s (stating_all h loop steps s).next
  statements_grow loop steps s w = (all_filling loop steps w).grows s

  pub unwinds_own : (loop : Bool) (steps : List Step) (s : State) (body : List CStat) → steps_are_whole steps ≡ true → HaveSlots s → (stating_all h loop steps s).made ≡ Some body
      → (count : ℕ) → UnwindsOwn (length s.slots) (by_body (each (map of_statement body) count).part)
  unwinds_own loop steps s body w low e count =
      let f = (all_filling loop steps w).fills s body (λ slot v. low v.0 slot v.1 v.2) e in
      subst (UnwindsOwn (length s.slots)) (sym (body_still body count)) (own_slots s (stating_all h loop steps s).next (by_body body) f)
