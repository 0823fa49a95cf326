-- Statements of experiments with blocks inside: what they come to is sound, and the names agree with the program after them.
use Rattle.std.proofs.Common.{◌≡◌, Bool, true, List, [], ◌∷◌, Some, subst}
use Rattle.chi_token.specs.declared.place.Place.{Place}
use Rattle.chi_tree.specs.declared.expr.Expr.{Expr}
use Rattle.chi_tree.specs.declared.statement.Branch.{Branch-F}
use Rattle.chi_tree.specs.declared.statement.Statement.{Statement-F}
use Rattle.chi_tree.specs.declared.statement.Walk.{Walk}
use Rattle.chi_core.specs.declared.experiment.XBranch.{XBranch}
use Rattle.chi_core.specs.declared.experiment.XStat.{XStat}
use Rattle.chi_core.specs.declared.experiment.XStat.TheVariants as trial
use Rattle.chi_core.specs.Scopes.{Scope}
use Rattle.chi_core.specs.SetSlots.{Known as Set, also_all}
use Rattle.chi_check_expr.proofs.Kept.{Each}
use Rattle.chi_check.specs.Below.chi_check_stat_rules.specs.declared.home.Home.TheVariants.{Experiment}
use Rattle.chi_check.specs.Below.chi_check_stat_lines.specs.declared.state.Binder.TheVariants as binder
use Rattle.chi_check.specs.Below.chi_check_stat_lines.specs.declared.state.State.{State}
use Rattle.chi_check.specs.Below.chi_check_stat_lines.specs.Stated.{in_turn}
use Rattle.chi_check.specs.Below.chi_check_stat_lines.specs.States.{block, Going, each_in}
use Rattle.chi_check.specs.Below.chi_check_stat_lines.specs.Values.{test_in}
use Rattle.chi_check.specs.Below.chi_check_stat_lines.specs.Declarations.{walk_in}
use Rattle.chi_check.specs.Below.chi_check_experiments.specs.Experiments.{trial_step, trial_branch}
use Rattle.chi_check_laws.specs.Bodies.{reads_as, Agrees}
use Rattle.chi_check_laws.specs.Trials.{set_by_trials}
use Rattle.chi_check_laws.specs.Whole.{has_any}
use Rattle.chi_check_laws.proofs.Blocks.{each_going}
use Rattle.chi_check_laws.proofs.Bodies.{nothing_more, each_by_parts}
use Rattle.chi_check_laws.proofs.Nodes.{Goes}
use Rattle.chi_check_laws.proofs.States.{grows_on, cut_grows, agrees_cut, agrees_more, slots_before}
use Rattle.chi_check_laws.proofs.TrialBodies.{SoundTrial, SoundTrialBranch, AllTried, TrialKept, TrialBranchKept, trials_by_parts, branch, branch_sound, one_choose, one_while, one_walk, set_more}
use Rattle.chi_check_laws.proofs.Turns.{both_made, in_turn_kept, block_sound, block_grows}
use Rattle.chi_check_laws.proofs.Values.{test_has}
use Rattle.chi_check_laws.proofs.Walks.{walk_grows, walk_sound}

module _ (scope : Scope) (role : reads_as Experiment ≡ Some scope.role) where
  -- one statement, after which as many names agree with the program as before it
  alone_in : (loop : Bool) (set : Set) (s : State) (x : XStat) (xs : List XStat) → x ∷ [] ≡ xs → SoundTrial scope loop set x → Agrees scope set s → AllTried scope loop set xs × Agrees scope (set_by_trials xs set) s
  alone_in loop set s x xs is h all = (subst (AllTried scope loop set) is (h, tt), agrees_more scope set (set_by_trials xs set) s (set_more scope loop set xs) all)

  steps_in : (loop : Bool) (gs : List (Going XStat)) → Each (Goes (TrialKept scope)) gs → Each (TrialKept scope loop) (each_in loop gs)
  steps_in loop gs = each_going (TrialKept scope) loop gs

  branches_kept : (loop : Bool) (gs : List (Going XBranch)) → Each (Goes (TrialBranchKept scope)) gs → TrialBranchKept scope loop (in_turn (each_in loop gs))
  branches_kept loop gs k = in_turn_kept scope _ nothing_more (each_by_parts scope XBranch (SoundTrialBranch scope loop)) (each_in loop gs) (each_going (TrialBranchKept scope) loop gs k)

  pub choose_kept : (place : Place) (gs : List (Going XBranch)) (hs : List (Going XStat)) → Each (Goes (TrialBranchKept scope)) gs → Each (Goes (TrialKept scope)) hs → Goes (TrialKept scope) (trial_step (Statement-F.If place gs hs))
  choose_kept place gs hs k l loop =
      let first = branches_kept loop gs k in
      let last_grows = block_grows scope (AllTried scope loop) set_by_trials (trials_by_parts scope loop) (each_in loop hs) (steps_in loop hs l) in
      record {
        grows = λ s.
            let middle = (in_turn (each_in loop gs) s).next in
            grows_on s middle (block (each_in loop hs) middle).next (first.grows s) (last_grows middle);
        sound = λ set s xs have all e.
            let t = in_turn (each_in loop gs) s in
            let u = block (each_in loop hs) t.next in
            let m = both_made (λ branches otherwise. trial.If place.line branches otherwise ∷ []) t.made u.made xs e in
            let i = first.sound set s m.0 (slots_before scope t.next u.next (last_grows t.next) have) all m.2 in
            let j = block_sound scope (AllTried scope loop) set_by_trials (trials_by_parts scope loop) (each_in loop hs) (steps_in loop hs l) set t.next m.1 have i.1 m.3 in
            alone_in loop set u.next (trial.If place.line m.0 m.1) xs m.4 (one_choose scope loop set place.line m.0 m.1 i.0 j.0) j.1;
      }

  pub branch_kept : (b : Branch-F (Unit {0}) (Going XStat) (Going XBranch) (Going XStat)) → Each (Goes (TrialKept scope)) b.block → Goes (TrialBranchKept scope) (trial_branch b)
  branch_kept b k loop = record {
    grows = block_grows scope (AllTried scope loop) set_by_trials (trials_by_parts scope loop) (each_in loop b.block) (steps_in loop b.block k);
    sound = λ set s xs have all e.
        let t = block (each_in loop b.block) s in
        let m = both_made (λ test inner. branch scope loop test inner ∷ []) (test_in Experiment s.names b.condition).made t.made xs e in
        let i = block_sound scope (AllTried scope loop) set_by_trials (trials_by_parts scope loop) (each_in loop b.block) (steps_in loop b.block k) set s m.1 have all m.3 in
        (subst (Each (SoundTrialBranch scope loop set)) m.4 (branch_sound scope loop set m.0 m.1 (test_has Experiment scope role set s.names all.names b.condition m.0 m.2) i.0, tt), i.1);
  }

  -- ---- loops

  pub while_kept : (place : Place) (test : Expr) (gs : List (Going XStat)) → Each (Goes (TrialKept scope)) gs → Goes (TrialKept scope) (trial_step (Statement-F.While place test gs))
  while_kept place test gs k loop = record {
    grows = block_grows scope (AllTried scope true) set_by_trials (trials_by_parts scope true) (each_in true gs) (steps_in true gs k);
    sound = λ set s xs have all e.
        let t = block (each_in true gs) s in
        let m = both_made (λ test inner. trial.While place.line test inner ∷ []) (test_in Experiment s.names test).made t.made xs e in
        let i = block_sound scope (AllTried scope true) set_by_trials (trials_by_parts scope true) (each_in true gs) (steps_in true gs k) set s m.1 have all m.3 in
        alone_in loop set t.next (trial.While place.line m.0 m.1) xs m.4 (one_while scope loop set place.line m.0 m.1 (test_has Experiment scope role set s.names all.names test m.0 m.2) i.0) i.1;
  }

  pub walk_kept : (place : Place) (walk : Walk) (gs : List (Going XStat)) → has_any walk.names ≡ true → Each (Goes (TrialKept scope)) gs → Goes (TrialKept scope) (trial_step (Statement-F.For place walk gs))
  walk_kept place walk gs some k loop =
      let inner = in_turn_kept scope (AllTried scope true) set_by_trials (trials_by_parts scope true) (each_in true gs) (steps_in true gs k) in
      record {
        grows = λ s.
            let w = walk_in Experiment binder.Variable walk s in
            let t = in_turn (each_in true gs) w.next in
            cut_grows s t.next (grows_on s w.next t.next (walk_grows Experiment scope role binder.Variable walk s) (inner.grows w.next));
        sound = λ set s xs have all e.
            let w = walk_in Experiment binder.Variable walk s in
            let t = in_turn (each_in true gs) w.next in
            let m = both_made (λ w inner. trial.For place.line w.slots w.container inner ∷ []) w.made t.made xs e in
            let o = walk_sound Experiment scope role binder.Variable walk set s m.0 some (slots_before scope w.next t.next (inner.grows w.next) have) all m.2 in
            let i = inner.sound (also_all m.0.slots set) w.next m.1 have o.1 m.3 in
            let grown = grows_on s w.next t.next (walk_grows Experiment scope role binder.Variable walk s) (inner.grows w.next) in
            let after = agrees_cut scope set _ s t.next grown all i.1 in
            alone_in loop set _ (trial.For place.line m.0.slots m.0.container m.1) xs m.4 (one_walk scope loop set place.line m.0.slots m.0.container m.1 o.0 i.0) after;
      }
