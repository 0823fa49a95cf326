-- Private to proofs. Statements come to something where no rule is broken, and leave names that have types: by induction on their trees.
use Rattle.std.proofs.Common.{◌≡◌, Bool, true, List, [], ◌∷◌, ◌++◌, map, Option, Some, None, sym, subst}
use Rattle.chi_tree.specs.declared.statement.Alternative.{Alternative, Alternative-F, roll-Alternative, map-Alternative, fold-roll-Alternative}
use Rattle.chi_tree.specs.declared.statement.Branch.{Branch, Branch-F, roll-Branch, map-Branch, fold-roll-Branch}
use Rattle.chi_tree.specs.declared.statement.Statement.{Statement, Statement-F, roll-Statement, map-Statement, fold-roll-Statement}
use Rattle.chi_tree.specs.declared.statement.Step.{Step, Step-F, roll-Step, map-Step, fold-roll-Step, ind-Step}
use Rattle.chi_core.specs.declared.communication.CComm.{CComm}
use Rattle.chi_core.specs.declared.expression.CExpr.{CExpr}
use Rattle.chi_core.specs.declared.statement.Branch.{Branch as CBranch}
use Rattle.chi_core.specs.declared.statement.CAlt.{CAlt}
use Rattle.chi_core.specs.declared.statement.CAlt.TheVariants as alternative
use Rattle.chi_core.specs.declared.statement.CStat.{CStat}
use Rattle.chi_core.specs.declared.statement.CStat.TheVariants as statement
use Rattle.chi_check_types.specs.Typed.{unless}
use Rattle.chi_check_expr.proofs.Nodes.{left_nil, right_nil}
use Rattle.chi_check.specs.Below.chi_check_stat_rules.specs.declared.home.Home.{Home}
use Rattle.chi_check.specs.Below.chi_check_stat_rules.specs.Endings.{loop_rule}
use Rattle.chi_check.specs.Below.chi_check_stat_rules.specs.Homes.{running_rule}
use Rattle.chi_check.specs.Below.chi_check_stat_lines.specs.declared.state.Binder.TheVariants as binder
use Rattle.chi_check.specs.Below.chi_check_stat_lines.specs.declared.state.State.{State}
use Rattle.chi_check.specs.Below.chi_check_stat_lines.specs.Stated.{in_turn}
use Rattle.chi_check.specs.Below.chi_check_stat_lines.specs.States.{block, Going, each_in}
use Rattle.chi_check.specs.Below.chi_check_stat_lines.specs.Values.{assignment_in, test_in, guard_in}
use Rattle.chi_check.specs.Below.chi_check_stat_lines.specs.Declarations.{walk_in}
use Rattle.chi_check.specs.Below.chi_check_stat_lines.specs.Lines.{communicating, communication_in, return_in, exit_in, finish_in, write_in}
use Rattle.chi_check.specs.Below.chi_check_stat_lines.specs.Blocks.{offers, runs, starts, walked, guarded, offered}
use Rattle.chi_check.specs.Below.chi_check_stat.specs.Statements.{starting, statement_step, branch_step, alternative_step, step_step, stating, stepping, branching, offering, stepping_in, stating_all}
use Rattle.chi_check_laws.proofs.MadeCommunications.{communicating_whole, communication_whole}
use Rattle.chi_check_laws.proofs.MadeElements.{starting_keeps}
use Rattle.chi_check_laws.proofs.Lines.{TypedHome, return_in_whole, exit_in_whole, finish_in_whole, write_in_whole}
use Rattle.chi_check_laws.proofs.ProgramTurns.{Keeps, turns_keep, each_keeps, Holds, held_leaves, alone_leaves, closed_leaves, WholeGoing, block_keeps, each_going}
use Rattle.chi_check_laws.proofs.MadeValues.{test_whole, guard_whole, assignment_whole}
use Rattle.chi_check_laws.proofs.WholeHeaders.{Comes, unless_whole, mapped_comes, both_comes}

-- ---- the folds, at one layer

module _ (home : Home) where
  pub alternative_rolled : (o : Alternative-F Alternative Statement Branch Step) → offering home (roll-Alternative o) ≡ alternative_step home (map-Alternative Alternative Statement Branch Step (Going CAlt) (Going CStat) (Going CBranch) (Going CStat) (offering home) (stating home) (branching home) (stepping home) o)
  unfolding stating stepping branching offering
  alternative_rolled o = fold-roll-Alternative (Going CAlt) (Going CStat) (Going CBranch) (Going CStat) (alternative_step home) (statement_step home) (branch_step home) (step_step home) o

  pub statement_rolled : (o : Statement-F Alternative Statement Branch Step) → stating home (roll-Statement o) ≡ statement_step home (map-Statement Alternative Statement Branch Step (Going CAlt) (Going CStat) (Going CBranch) (Going CStat) (offering home) (stating home) (branching home) (stepping home) o)
  unfolding stating stepping branching offering
  statement_rolled o = fold-roll-Statement (Going CAlt) (Going CStat) (Going CBranch) (Going CStat) (alternative_step home) (statement_step home) (branch_step home) (step_step home) o

  pub branch_rolled : (o : Branch-F Alternative Statement Branch Step) → branching home (roll-Branch o) ≡ branch_step home (map-Branch Alternative Statement Branch Step (Going CAlt) (Going CStat) (Going CBranch) (Going CStat) (offering home) (stating home) (branching home) (stepping home) o)
  unfolding stating stepping branching offering
  branch_rolled o = fold-roll-Branch (Going CAlt) (Going CStat) (Going CBranch) (Going CStat) (alternative_step home) (statement_step home) (branch_step home) (step_step home) o

  pub step_rolled : (o : Step-F Alternative Statement Branch Step) → stepping home (roll-Step o) ≡ step_step home (map-Step Alternative Statement Branch Step (Going CAlt) (Going CStat) (Going CBranch) (Going CStat) (offering home) (stating home) (branching home) (stepping home) o)
  unfolding stating stepping branching offering
  step_rolled o = fold-roll-Step (Going CAlt) (Going CStat) (Going CBranch) (Going CStat) (alternative_step home) (statement_step home) (branch_step home) (step_step home) o

guarded_comes : (g : Option (Option CExpr)) (c : Option CComm) (b : Option (List CStat)) → Comes g → Comes c → Comes b → Comes (guarded g c b)
guarded_comes None c b x y z = absurd x
guarded_comes (Some g) c b x y z = both_comes (λ c b. alternative.Guarded g c b ∷ []) c b y z

module _ (home : Home) (typed : TypedHome home) (P : State → Type 0) (k : Holds home P) where
  abbrev XA : Type 0
  XA = (x : Alternative) × WholeGoing P (offering home x)

  abbrev XS : Type 0
  XS = (x : Statement) × WholeGoing P (stating home x)

  abbrev XB : Type 0
  XB = (x : Branch) × WholeGoing P (branching home x)

  abbrev XT : Type 0
  XT = (x : Step) × WholeGoing P (stepping home x)

  abbrev steps_of : List XT → List (Going CStat)
  steps_of inner = map (stepping home) (map (λ x. x.0) inner)

  -- ---- each construct, over parts that come to something

  alternative_whole : (y : Alternative-F XA XS XB XT) → WholeGoing P (alternative_step home (map-Alternative Alternative Statement Branch Step (Going CAlt) (Going CStat) (Going CBranch) (Going CStat) (offering home) (stating home) (branching home) (stepping home)
      (map-Alternative XA XS XB XT Alternative Statement Branch Step (λ x. x.0) (λ x. x.0) (λ x. x.0) (λ x. x.0) y)))
  alternative_whole (Alternative-F.Guarded guard c inner) loop s p = λ e.
      let g = guard_in home s.names guard in
      let offer = communication_in home s.names c in
      let b = block (each_in loop (steps_of inner)) s in
      let first = left_nil (g.faults ++ offer.faults) b.faults e in
      let last = block_keeps P k.closes (each_in loop (steps_of inner)) (each_going P (stepping home) inner loop) s p (right_nil (g.faults ++ offer.faults) b.faults e) in
      (guarded_comes g.made offer.made b.made (guard_whole home s.names (k.fine s p) guard (left_nil g.faults offer.faults first)) (communication_whole home s.names (k.fine s p) c (right_nil g.faults offer.faults first)) last.0, last.1)
  alternative_whole (Alternative-F.Unwind place walk alternatives) loop s p =
      let w = walk_in home binder.Unwind walk s in
      let turns = each_in loop (map (offering home) (map (λ x. x.0) alternatives)) in
      let inner = in_turn turns w.next in
      closed_leaves P k.closes s (record { next = inner.next; faults = w.faults ++ inner.faults; made = offered w.made inner.made }) p (λ e.
      let first = k.walks binder.Unwind walk s p (left_nil w.faults inner.faults e) in
      let rest = turns_keep P turns (each_going P (offering home) alternatives loop) w.next first.1 (right_nil w.faults inner.faults e) in
      (both_comes (λ w inner. alternative.Unwind w.slots w.container inner ∷ []) w.made inner.made first.0 rest.0, rest.1))

  branch_whole : (y : Branch-F XA XS XB XT) → WholeGoing P (branch_step home (map-Branch Alternative Statement Branch Step (Going CAlt) (Going CStat) (Going CBranch) (Going CStat) (offering home) (stating home) (branching home) (stepping home)
      (map-Branch XA XS XB XT Alternative Statement Branch Step (λ x. x.0) (λ x. x.0) (λ x. x.0) (λ x. x.0) y)))
  branch_whole y loop s p e =
      let t = test_in home s.names y.condition in
      let inner = block (each_in loop (steps_of y.block)) s in
      let rest = block_keeps P k.closes (each_in loop (steps_of y.block)) (each_going P (stepping home) y.block loop) s p (right_nil t.faults inner.faults e) in
      (both_comes (λ test inner. record { test = test; block = inner } ∷ []) t.made inner.made (test_whole home s.names (k.fine s p) y.condition (left_nil t.faults inner.faults e)) rest.0, rest.1)

  statement_whole : (y : Statement-F XA XS XB XT) → WholeGoing P (statement_step home (map-Statement Alternative Statement Branch Step (Going CAlt) (Going CStat) (Going CBranch) (Going CStat) (offering home) (stating home) (branching home) (stepping home)
      (map-Statement XA XS XB XT Alternative Statement Branch Step (λ x. x.0) (λ x. x.0) (λ x. x.0) (λ x. x.0) y)))
  statement_whole (Statement-F.Declare tree variables) loop s p = k.declares tree variables s p
  statement_whole (Statement-F.Assign targets equals values) loop s p = alone_leaves P s (assignment_in home s.names targets equals values) p (assignment_whole home s.names (k.fine s p) targets equals values)
  statement_whole (Statement-F.Communicate c) loop s p = alone_leaves P s (communicating home s.names c) p (communicating_whole home s.names (k.fine s p) c)
  statement_whole (Statement-F.Pass place) loop s p = alone_leaves P s (unless [] (statement.Pass place.line)) p (λ e. tt)
  statement_whole (Statement-F.Break place) loop s p = alone_leaves P s (unless (loop_rule loop place) (statement.Break place.line)) p (unless_whole (loop_rule loop place) (statement.Break place.line))
  statement_whole (Statement-F.Continue place) loop s p = alone_leaves P s (unless (loop_rule loop place) (statement.Continue place.line)) p (unless_whole (loop_rule loop place) (statement.Continue place.line))
  statement_whole (Statement-F.Select place alternatives) loop s p =
      let turns = each_in loop (map (offering home) (map (λ x. x.0) alternatives)) in
      let inner = in_turn turns s in
      held_leaves P (running_rule home place) (record { next = inner.next; faults = inner.faults; made = offers place.line inner.made }) (λ e.
      let each = turns_keep P turns (each_going P (offering home) alternatives loop) s p e in
      (mapped_comes (λ each. statement.Select place.line each ∷ []) inner.made each.0, each.1))
  statement_whole (Statement-F.If place branches otherwise) loop s p = λ e.
      let turns = each_in loop (map (branching home) (map (λ x. x.0) branches)) in
      let first = in_turn turns s in
      let last = block (each_in loop (steps_of otherwise)) first.next in
      let one = turns_keep P turns (each_going P (branching home) branches loop) s p (left_nil first.faults last.faults e) in
      let rest = block_keeps P k.closes (each_in loop (steps_of otherwise)) (each_going P (stepping home) otherwise loop) first.next one.1 (right_nil first.faults last.faults e) in
      (both_comes (λ branches otherwise. statement.If place.line branches otherwise ∷ []) first.made last.made one.0 rest.0, rest.1)
  statement_whole (Statement-F.While place test inner) loop s p = λ e.
      let t = test_in home s.names test in
      let b = block (each_in true (steps_of inner)) s in
      let rest = block_keeps P k.closes (each_in true (steps_of inner)) (each_going P (stepping home) inner true) s p (right_nil t.faults b.faults e) in
      (both_comes (λ test inner. statement.While place.line test inner ∷ []) t.made b.made (test_whole home s.names (k.fine s p) test (left_nil t.faults b.faults e)) rest.0, rest.1)
  statement_whole (Statement-F.For place walk inner) loop s p =
      let w = walk_in home binder.Variable walk s in
      let turns = each_in true (steps_of inner) in
      let b = in_turn turns w.next in
      closed_leaves P k.closes s (record { next = b.next; faults = w.faults ++ b.faults; made = walked place.line w.made b.made }) p (λ e.
      let first = k.walks binder.Variable walk s p (left_nil w.faults b.faults e) in
      let rest = turns_keep P turns (each_going P (stepping home) inner true) w.next first.1 (right_nil w.faults b.faults e) in
      (both_comes (λ w inner. statement.For place.line w.slots w.container inner ∷ []) w.made b.made first.0 rest.0, rest.1))
  statement_whole (Statement-F.Return place value) loop s p = alone_leaves P s (return_in home s.names place value) p (return_in_whole home typed s.names (k.fine s p) place value)
  statement_whole (Statement-F.Exit place value) loop s p = alone_leaves P s (exit_in home s.names place value) p (exit_in_whole home typed s.names (k.fine s p) place value)
  statement_whole (Statement-F.Run place elements) loop s p =
      let es = in_turn (map (starting home) elements) s in
      held_leaves P (running_rule home place) (record { next = es.next; faults = es.faults; made = runs place.line es.made }) (λ e.
      let each = turns_keep P (map (starting home) elements) (each_keeps P (starting home) (starting_keeps home P k) elements) s p e in
      (mapped_comes (λ each. statement.Run place.line each ∷ []) es.made each.0, each.1))
  statement_whole (Statement-F.Start place elements) loop s p =
      let es = in_turn (map (starting home) elements) s in
      held_leaves P (running_rule home place) (record { next = es.next; faults = es.faults; made = starts place.line es.made }) (λ e.
      let each = turns_keep P (map (starting home) elements) (each_keeps P (starting home) (starting_keeps home P k) elements) s p e in
      (mapped_comes (λ each. statement.Start place.line each ∷ []) es.made each.0, each.1))
  statement_whole (Statement-F.Finish place instances) loop s p = alone_leaves P s (finish_in home s.names place instances) p (finish_in_whole home typed s.names (k.fine s p) place instances)
  statement_whole (Statement-F.Write place ends_line format format_place values) loop s p =
      alone_leaves P s (write_in home s.names place ends_line format format_place values) p (write_in_whole home typed s.names (k.fine s p) place ends_line format format_place values)

  -- ---- the induction

  abbrev PA : Alternative → Type 0
  PA x = WholeGoing P (offering home x)

  abbrev PS : Statement → Type 0
  PS x = WholeGoing P (stating home x)

  abbrev PB : Branch → Type 0
  PB x = WholeGoing P (branching home x)

  abbrev PT : Step → Type 0
  PT x = WholeGoing P (stepping home x)

  pub stepping_whole : (x : Step) → WholeGoing P (stepping home x)
  stepping_whole = ind-Step PA PS PB PT
      (λ x y h. subst (λ x. PA (roll-Alternative x)) h (subst (WholeGoing P) (sym (alternative_rolled home _)) (alternative_whole y)))
      (λ x y h. subst (λ x. PS (roll-Statement x)) h (subst (WholeGoing P) (sym (statement_rolled home _)) (statement_whole y)))
      (λ x y h. subst (λ x. PB (roll-Branch x)) h (subst (WholeGoing P) (sym (branch_rolled home _)) (branch_whole y)))
      (λ x y h. subst (λ x. PT (roll-Step x)) h (subst (WholeGoing P) (sym (step_rolled home _)) y.statement.1))

  -- a body
  pub stating_keeps : (loop : Bool) (steps : List Step) → Keeps P (stating_all home loop steps)
  stating_keeps loop steps = turns_keep P (map (stepping_in home loop) steps) (each_keeps P (stepping_in home loop) (λ x. stepping_whole x loop) steps)
