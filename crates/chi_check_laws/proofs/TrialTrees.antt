-- Whole bodies of experiments, by induction over their trees.
use Rattle.std.proofs.Common.{◌≡◌, Bool, true, List, [], ◌∷◌, map, Some, sym, subst, ◌∙◌}
use Rattle.std.proofs.lemmas.Bool.{and_parts}
use Rattle.std.specs.List.{list_all}
use Rattle.chi_value.specs.Plain.{itself}
use Rattle.chi_tree.specs.declared.statement.Alternative.{Alternative}
use Rattle.chi_tree.specs.declared.statement.Branch.{Branch, Branch-F, map-Branch, roll-Branch, fold-roll-Branch}
use Rattle.chi_tree.specs.declared.statement.Statement.{Statement, Statement-F, map-Statement, roll-Statement, fold-roll-Statement}
use Rattle.chi_tree.specs.declared.statement.Step.{Step, Step-F, roll-Step, fold-roll-Step, ind-Step}
use Rattle.chi_core.specs.declared.experiment.XBranch.{XBranch}
use Rattle.chi_core.specs.declared.experiment.XStat.{XStat}
use Rattle.chi_core.specs.Scopes.{Scope}
use Rattle.chi_core.specs.SetSlots.{Known as Set}
use Rattle.chi_check_expr.proofs.Kept.{Each}
use Rattle.chi_check.specs.Below.chi_check_stat_rules.specs.declared.home.Home.TheVariants.{Experiment}
use Rattle.chi_check.specs.Below.chi_check_stat_lines.specs.declared.state.State.{State}
use Rattle.chi_check.specs.Below.chi_check_stat_lines.specs.States.{Going}
use Rattle.chi_check.specs.Below.chi_check_experiments.specs.Experiments.{no_alternative, trial_step, trial_branch, trial_inner, stating_tried, trying, branch_tried, trying_in, trying_all}
use Rattle.chi_check_laws.specs.Bodies.{reads_as, SlotsHave, Agrees}
use Rattle.chi_check_laws.specs.Trials.{set_by_trials, SoundTrials}
use Rattle.chi_check_laws.specs.Whole as whole
use Rattle.chi_check_laws.specs.Whole.{statement_is_whole, step_is_whole, branch_is_whole, alternative_is_whole, steps_are_whole}
use Rattle.chi_check_laws.proofs.Nodes.{Goes}
use Rattle.chi_check_laws.proofs.TrialBlocks.{choose_kept, branch_kept, while_kept, walk_kept}
use Rattle.chi_check_laws.proofs.TrialBodies.{AllTried, TrialKept, TrialBranchKept, trials_by_parts, trials_sound}
use Rattle.chi_check_laws.proofs.TrialDeclarations.{declare_kept}
use Rattle.chi_check_laws.proofs.TrialLines.{assign_kept, communicate_kept, pass_kept, break_kept, continue_kept, refused_kept, return_kept, exit_kept, finish_kept, write_kept}
use Rattle.chi_check_laws.proofs.Turns.{in_turn_kept}

-- ---- the equations of the folds

abbrev nothing_of : Alternative → Unit {0}
nothing_of a = tt

abbrev pub of_statement : Statement-F Alternative Statement Branch Step → Going XStat
of_statement o = trial_step (map-Statement Alternative Statement Branch Step (Unit {0}) (Going XStat) (Going XBranch) (Going XStat) nothing_of stating_tried branch_tried trying o)

abbrev pub of_branch : Branch-F Alternative Statement Branch Step → Going XBranch
of_branch o = trial_branch (map-Branch Alternative Statement Branch Step (Unit {0}) (Going XStat) (Going XBranch) (Going XStat) nothing_of stating_tried branch_tried trying o)

pub statement_rolled : (o : Statement-F Alternative Statement Branch Step) → stating_tried (roll-Statement o) ≡ of_statement o
unfolding stating_tried trying branch_tried
statement_rolled o = fold-roll-Statement (Unit {0}) (Going XStat) (Going XBranch) (Going XStat) no_alternative trial_step trial_branch trial_inner o

pub branch_rolled : (o : Branch-F Alternative Statement Branch Step) → branch_tried (roll-Branch o) ≡ of_branch o
unfolding stating_tried trying branch_tried
branch_rolled o = fold-roll-Branch (Unit {0}) (Going XStat) (Going XBranch) (Going XStat) no_alternative trial_step trial_branch trial_inner o

pub step_rolled : (o : Step-F Alternative Statement Branch Step) → trying (roll-Step o) ≡ stating_tried o.statement
unfolding stating_tried trying branch_tried
step_rolled o = fold-roll-Step (Unit {0}) (Going XStat) (Going XBranch) (Going XStat) no_alternative trial_step trial_branch trial_inner o

module _ (scope : Scope) (role : reads_as Experiment ≡ Some scope.role) where
  -- ---- each form, over parts that are sound

  abbrev PA : Alternative → Type 0
  PA x = Unit {0}

  abbrev PS : Statement → Type 0
  PS x = statement_is_whole x ≡ true → Goes (TrialKept scope) (stating_tried x)

  abbrev PB : Branch → Type 0
  PB x = branch_is_whole x ≡ true → Goes (TrialBranchKept scope) (branch_tried x)

  abbrev PT : Step → Type 0
  PT x = step_is_whole x ≡ true → Goes (TrialKept scope) (trying x)

  abbrev XA : Type 0
  XA = (x : Alternative) × PA x

  abbrev XS : Type 0
  XS = (x : Statement) × PS x

  abbrev XB : Type 0
  XB = (x : Branch) × PB x

  abbrev XT : Type 0
  XT = (x : Step) × PT x

  branches_such : (ys : List XB) → list_all itself (map branch_is_whole (map (λ y. y.0) ys)) ≡ true → Each (Goes (TrialBranchKept scope)) (map branch_tried (map (λ y. y.0) ys))
  branches_such [] w = tt
  branches_such (y ∷ ys) w = let both = and_parts _ _ w in (y.1 both.0, branches_such ys both.1)

  steps_such : (ys : List XT) → list_all itself (map step_is_whole (map (λ y. y.0) ys)) ≡ true → Each (Goes (TrialKept scope)) (map trying (map (λ y. y.0) ys))
  steps_such [] w = tt
  steps_such (y ∷ ys) w = let both = and_parts _ _ w in (y.1 both.0, steps_such ys both.1)

  abbrev whole_statement : Statement-F Alternative Statement Branch Step → Bool
  whole_statement o = whole.statement_step (map-Statement Alternative Statement Branch Step Bool Bool Bool Bool alternative_is_whole statement_is_whole branch_is_whole step_is_whole o)

  abbrev statement_parts : Statement-F XA XS XB XT → Statement-F Alternative Statement Branch Step
  statement_parts y = map-Statement XA XS XB XT Alternative Statement Branch Step (λ y. y.0) (λ y. y.0) (λ y. y.0) (λ y. y.0) y

  statement_such : (y : Statement-F XA XS XB XT) → whole_statement (statement_parts y) ≡ true → Goes (TrialKept scope) (of_statement (statement_parts y))
  statement_such (Statement-F.Declare tree variables) w = λ loop. declare_kept scope role loop tree variables
  statement_such (Statement-F.Assign targets equals values) w = λ loop. assign_kept scope role loop targets equals values w
  statement_such (Statement-F.Communicate c) w = λ loop. communicate_kept scope role loop c
  statement_such (Statement-F.Pass place) w = λ loop. pass_kept scope role loop place
  statement_such (Statement-F.Break place) w = λ loop. break_kept scope role loop place
  statement_such (Statement-F.Continue place) w = λ loop. continue_kept scope role loop place
  statement_such (Statement-F.Select place xs) w = λ loop. refused_kept scope role loop place
  statement_such (Statement-F.If place xs ys) w = let both = and_parts _ _ w in choose_kept scope role place _ _ (branches_such xs both.0) (steps_such ys both.1)
  statement_such (Statement-F.While place test xs) w = while_kept scope role place test _ (steps_such xs w)
  statement_such (Statement-F.For place walk xs) w = let both = and_parts _ _ w in walk_kept scope role place walk _ both.0 (steps_such xs both.1)
  statement_such (Statement-F.Return place value) w = λ loop. return_kept scope role loop place value
  statement_such (Statement-F.Exit place value) w = λ loop. exit_kept scope role loop place value
  statement_such (Statement-F.Run place elements) w = λ loop. refused_kept scope role loop place
  statement_such (Statement-F.Start place elements) w = λ loop. refused_kept scope role loop place
  statement_such (Statement-F.Finish place instances) w = λ loop. finish_kept scope role loop place instances
  statement_such (Statement-F.Write place ends_line format format_place values) w = λ loop. write_kept scope role loop place ends_line format format_place values

  statement_whole : (o : Statement-F Alternative Statement Branch Step) → statement_is_whole (roll-Statement o) ≡ whole_statement o
  statement_whole o = fold-roll-Statement Bool Bool Bool Bool whole.alternative_step whole.statement_step whole.branch_step whole.step_step o

  branch_whole : (o : Branch-F Alternative Statement Branch Step) → branch_is_whole (roll-Branch o) ≡ list_all itself (map step_is_whole o.block)
  branch_whole o = fold-roll-Branch Bool Bool Bool Bool whole.alternative_step whole.statement_step whole.branch_step whole.step_step o

  step_whole : (o : Step-F Alternative Statement Branch Step) → step_is_whole (roll-Step o) ≡ statement_is_whole o.statement
  step_whole o = fold-roll-Step Bool Bool Bool Bool whole.alternative_step whole.statement_step whole.branch_step whole.step_step o

  -- ---- the induction

  trying_kept : (x : Step) → PT x
  trying_kept = ind-Step PA PS PB PT
      (λ x y h. tt)
      (λ x y h. subst (λ x. PS (roll-Statement x)) h (λ w. subst (Goes (TrialKept scope)) (sym (statement_rolled _)) (statement_such y (sym (statement_whole _) ∙ w))))
      (λ x y h. subst (λ x. PB (roll-Branch x)) h (λ w. subst (Goes (TrialBranchKept scope)) (sym (branch_rolled _)) (branch_kept scope role _ (steps_such y.block (sym (branch_whole _) ∙ w)))))
      (λ x y h. subst (λ x. PT (roll-Step x)) h (λ w. subst (Goes (TrialKept scope)) (sym (step_rolled _)) (y.statement.1 (sym (step_whole _) ∙ w))))

  all_trying : (xs : List Step) → steps_are_whole xs ≡ true → (loop : Bool) → Each (TrialKept scope loop) (map (trying_in loop) xs)
  all_trying [] w loop = tt
  all_trying (x ∷ xs) w loop = let both = and_parts _ _ w in (trying_kept x both.0 loop, all_trying xs both.1 loop)

  -- a body
  pub trials_kept : (loop : Bool) (steps : List Step) → steps_are_whole steps ≡ true → TrialKept scope loop (trying_all loop steps)
  trials_kept loop steps w = in_turn_kept scope (AllTried scope loop) set_by_trials (trials_by_parts scope loop) (map (trying_in loop) steps) (all_trying steps w loop)

  pub tried_sound : (set : Set) (loop : Bool) (steps : List Step) (s : State) (body : List XStat) → steps_are_whole steps ≡ true → SlotsHave scope (trying_all loop steps s).next.slots → Agrees scope set s
      → (trying_all loop steps s).made ≡ Some body → SoundTrials scope loop set body × Agrees scope (set_by_trials body set) (trying_all loop steps s).next
  tried_sound set loop steps s body w have all e =
      let k = (trials_kept loop steps w).sound set s body have all e in
      (trials_sound scope loop set body k.0, k.1)
