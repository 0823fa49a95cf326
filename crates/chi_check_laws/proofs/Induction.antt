-- What each form keeps, each tree has: the induction over trees, once for every fact.
use Rattle.std.proofs.Common.{◌≡◌, Bool, true, List, [], ◌∷◌, map, sym, subst, ◌∙◌}
use Rattle.std.proofs.lemmas.Bool.{and_parts}
use Rattle.std.specs.List.{list_all}
use Rattle.chi_value.specs.Plain.{itself}
use Rattle.chi_tree.specs.declared.statement.Alternative.{Alternative, Alternative-F, map-Alternative, roll-Alternative, fold-roll-Alternative}
use Rattle.chi_tree.specs.declared.statement.Branch.{Branch, Branch-F, map-Branch, roll-Branch, fold-roll-Branch}
use Rattle.chi_tree.specs.declared.statement.Element.{Element, Element-F, map-Element, roll-Element, fold-roll-Element, ind-Element}
use Rattle.chi_tree.specs.declared.statement.Statement.{Statement, Statement-F, map-Statement, roll-Statement, fold-roll-Statement}
use Rattle.chi_tree.specs.declared.statement.Step.{Step, Step-F, roll-Step, fold-roll-Step, ind-Step}
use Rattle.chi_core.specs.declared.element.CElem.{CElem}
use Rattle.chi_core.specs.declared.statement.Branch.{Branch as CBranch}
use Rattle.chi_core.specs.declared.statement.CAlt.{CAlt}
use Rattle.chi_core.specs.declared.statement.CStat.{CStat}
use Rattle.chi_check.specs.Below.chi_check_stat_rules.specs.declared.home.Home.{Home}
use Rattle.chi_check_expr.proofs.Kept.{Each}
use Rattle.chi_check.specs.Below.chi_check_stat_lines.specs.declared.state.State.{State}
use Rattle.chi_check.specs.Below.chi_check_stat_lines.specs.Stated.{Turn}
use Rattle.chi_check.specs.Below.chi_check_stat_lines.specs.States.{Going}
use Rattle.chi_check.specs.Below.chi_check_stat.specs.Statements.{element_step, starting, statement_step, branch_step, alternative_step, step_step, stating, stepping, branching, offering, stepping_in}
use Rattle.chi_check_laws.specs.Whole as whole
use Rattle.chi_check_laws.specs.Whole.{element_is_whole, elements_are_whole, statement_is_whole, step_is_whole, branch_is_whole, alternative_is_whole, steps_are_whole}
use Rattle.chi_check_laws.proofs.Nodes.{Goes, Keeps}

module _ (home : Home) (S : Bool → Turn State CStat → Type 0) (B : Bool → Turn State CBranch → Type 0) (A : Bool → Turn State CAlt → Type 0) (E : Turn State CElem → Type 0) (k : Keeps home S B A E) where
  -- ---- elements

  abbrev PE : Element → Type 0
  PE x = element_is_whole x ≡ true → E (starting home x)

  abbrev XE : Type 0
  XE = (x : Element) × PE x

  elements_such : (ys : List XE) → list_all itself (map element_is_whole (map (λ y. y.0) ys)) ≡ true → Each E (map (starting home) (map (λ y. y.0) ys))
  elements_such [] w = tt
  elements_such (y ∷ ys) w = let both = and_parts _ _ w in (y.1 both.0, elements_such ys both.1)

  element_such : (y : Element-F XE) → whole.element_step (map-Element Element Bool element_is_whole (map-Element XE Element (λ y. y.0) y)) ≡ true
      → E (element_step home (map-Element Element (Turn State CElem) (starting home) (map-Element XE Element (λ y. y.0) y)))
  element_such (Element-F.Make target name arguments) w = k.make target name arguments
  element_such (Element-F.Unwind place walk es) w = let both = and_parts _ _ w in k.unwound place walk (map (starting home) (map (λ y. y.0) es)) both.0 (elements_such es both.1)

  element_rolled : (o : Element-F Element) → starting home (roll-Element o) ≡ element_step home (map-Element Element (Turn State CElem) (starting home) o)
  element_rolled o = fold-roll-Element (Turn State CElem) (element_step home) o

  element_whole : (o : Element-F Element) → element_is_whole (roll-Element o) ≡ whole.element_step (map-Element Element Bool element_is_whole o)
  element_whole o = fold-roll-Element Bool whole.element_step o

  pub starting_keeps : (x : Element) → PE x
  starting_keeps = ind-Element PE (λ x y h. subst (λ x. PE (roll-Element x)) h (λ w. subst E (sym (element_rolled _)) (element_such y (sym (element_whole _) ∙ w))))

  all_starting : (xs : List Element) → elements_are_whole xs ≡ true → Each E (map (starting home) xs)
  all_starting [] w = tt
  all_starting (x ∷ xs) w = let both = and_parts _ _ w in (starting_keeps x both.0, all_starting xs both.1)

  -- ---- statements, branches and alternatives

  abbrev PA : Alternative → Type 0
  PA x = alternative_is_whole x ≡ true → Goes A (offering home x)

  abbrev PS : Statement → Type 0
  PS x = statement_is_whole x ≡ true → Goes S (stating home x)

  abbrev PB : Branch → Type 0
  PB x = branch_is_whole x ≡ true → Goes B (branching home x)

  abbrev PT : Step → Type 0
  PT x = step_is_whole x ≡ true → Goes S (stepping home x)

  abbrev XA : Type 0
  XA = (x : Alternative) × PA x

  abbrev XS : Type 0
  XS = (x : Statement) × PS x

  abbrev XB : Type 0
  XB = (x : Branch) × PB x

  abbrev XT : Type 0
  XT = (x : Step) × PT x

  alternatives_such : (ys : List XA) → list_all itself (map alternative_is_whole (map (λ y. y.0) ys)) ≡ true → Each (Goes A) (map (offering home) (map (λ y. y.0) ys))
  alternatives_such [] w = tt
  alternatives_such (y ∷ ys) w = let both = and_parts _ _ w in (y.1 both.0, alternatives_such ys both.1)

  branches_such : (ys : List XB) → list_all itself (map branch_is_whole (map (λ y. y.0) ys)) ≡ true → Each (Goes B) (map (branching home) (map (λ y. y.0) ys))
  branches_such [] w = tt
  branches_such (y ∷ ys) w = let both = and_parts _ _ w in (y.1 both.0, branches_such ys both.1)

  steps_such : (ys : List XT) → list_all itself (map step_is_whole (map (λ y. y.0) ys)) ≡ true → Each (Goes S) (map (stepping home) (map (λ y. y.0) ys))
  steps_such [] w = tt
  steps_such (y ∷ ys) w = let both = and_parts _ _ w in (y.1 both.0, steps_such ys both.1)

  abbrev of_statement : Statement-F Alternative Statement Branch Step → Going CStat
  of_statement o = statement_step home (map-Statement Alternative Statement Branch Step (Going CAlt) (Going CStat) (Going CBranch) (Going CStat) (offering home) (stating home) (branching home) (stepping home) o)

  abbrev of_alternative : Alternative-F Alternative Statement Branch Step → Going CAlt
  of_alternative o = alternative_step home (map-Alternative Alternative Statement Branch Step (Going CAlt) (Going CStat) (Going CBranch) (Going CStat) (offering home) (stating home) (branching home) (stepping home) o)

  abbrev of_branch : Branch-F Alternative Statement Branch Step → Going CBranch
  of_branch o = branch_step home (map-Branch Alternative Statement Branch Step (Going CAlt) (Going CStat) (Going CBranch) (Going CStat) (offering home) (stating home) (branching home) (stepping home) o)

  abbrev whole_statement : Statement-F Alternative Statement Branch Step → Bool
  whole_statement o = whole.statement_step (map-Statement Alternative Statement Branch Step Bool Bool Bool Bool alternative_is_whole statement_is_whole branch_is_whole step_is_whole o)

  abbrev whole_alternative : Alternative-F Alternative Statement Branch Step → Bool
  whole_alternative o = whole.alternative_step (map-Alternative Alternative Statement Branch Step Bool Bool Bool Bool alternative_is_whole statement_is_whole branch_is_whole step_is_whole o)

  abbrev statement_parts : Statement-F XA XS XB XT → Statement-F Alternative Statement Branch Step
  statement_parts y = map-Statement XA XS XB XT Alternative Statement Branch Step (λ y. y.0) (λ y. y.0) (λ y. y.0) (λ y. y.0) y

  abbrev alternative_parts : Alternative-F XA XS XB XT → Alternative-F Alternative Statement Branch Step
  alternative_parts y = map-Alternative XA XS XB XT Alternative Statement Branch Step (λ y. y.0) (λ y. y.0) (λ y. y.0) (λ y. y.0) y

  statement_such : (y : Statement-F XA XS XB XT) → whole_statement (statement_parts y) ≡ true → Goes S (of_statement (statement_parts y))
  statement_such (Statement-F.Declare tree variables) w = k.declare tree variables
  statement_such (Statement-F.Assign targets equals values) w = k.assign targets equals values w
  statement_such (Statement-F.Communicate c) w = k.communicate c
  statement_such (Statement-F.Pass place) w = k.pass place
  statement_such (Statement-F.Break place) w = k.break place
  statement_such (Statement-F.Continue place) w = k.continue place
  statement_such (Statement-F.Select place xs) w = k.select place _ (alternatives_such xs w)
  statement_such (Statement-F.If place xs ys) w = let both = and_parts _ _ w in k.choose place _ _ (branches_such xs both.0) (steps_such ys both.1)
  statement_such (Statement-F.While place test xs) w = k.while place test _ (steps_such xs w)
  statement_such (Statement-F.For place walk xs) w = let both = and_parts _ _ w in k.walk place walk _ both.0 (steps_such xs both.1)
  statement_such (Statement-F.Return place value) w = k.return place value
  statement_such (Statement-F.Exit place value) w = k.exit place value
  statement_such (Statement-F.Run place elements) w = k.run place elements (all_starting elements w)
  statement_such (Statement-F.Start place elements) w = k.start place elements (all_starting elements w)
  statement_such (Statement-F.Finish place instances) w = k.finish place instances
  statement_such (Statement-F.Write place ends_line format format_place values) w = k.write place ends_line format format_place values

  alternative_such : (y : Alternative-F XA XS XB XT) → whole_alternative (alternative_parts y) ≡ true → Goes A (of_alternative (alternative_parts y))
  alternative_such (Alternative-F.Guarded guard c xs) w = k.guarded guard c _ (steps_such xs w)
  alternative_such (Alternative-F.Unwind place walk xs) w = let both = and_parts _ _ w in k.offered place walk _ both.0 (alternatives_such xs both.1)

  -- ---- the equations of the folds

  statement_rolled : (o : Statement-F Alternative Statement Branch Step) → stating home (roll-Statement o) ≡ of_statement o
  unfolding stating stepping branching offering
  statement_rolled o = fold-roll-Statement (Going CAlt) (Going CStat) (Going CBranch) (Going CStat) (alternative_step home) (statement_step home) (branch_step home) (step_step home) o

  alternative_rolled : (o : Alternative-F Alternative Statement Branch Step) → offering home (roll-Alternative o) ≡ of_alternative o
  unfolding stating stepping branching offering
  alternative_rolled o = fold-roll-Alternative (Going CAlt) (Going CStat) (Going CBranch) (Going CStat) (alternative_step home) (statement_step home) (branch_step home) (step_step home) o

  branch_rolled : (o : Branch-F Alternative Statement Branch Step) → branching home (roll-Branch o) ≡ of_branch o
  unfolding stating stepping branching offering
  branch_rolled o = fold-roll-Branch (Going CAlt) (Going CStat) (Going CBranch) (Going CStat) (alternative_step home) (statement_step home) (branch_step home) (step_step home) o

  step_rolled : (o : Step-F Alternative Statement Branch Step) → stepping home (roll-Step o) ≡ stating home o.statement
  unfolding stating stepping branching offering
  step_rolled o = fold-roll-Step (Going CAlt) (Going CStat) (Going CBranch) (Going CStat) (alternative_step home) (statement_step home) (branch_step home) (step_step home) o

  statement_whole : (o : Statement-F Alternative Statement Branch Step) → statement_is_whole (roll-Statement o) ≡ whole_statement o
  statement_whole o = fold-roll-Statement Bool Bool Bool Bool whole.alternative_step whole.statement_step whole.branch_step whole.step_step o

  alternative_whole : (o : Alternative-F Alternative Statement Branch Step) → alternative_is_whole (roll-Alternative o) ≡ whole_alternative o
  alternative_whole o = fold-roll-Alternative Bool Bool Bool Bool whole.alternative_step whole.statement_step whole.branch_step whole.step_step o

  branch_whole : (o : Branch-F Alternative Statement Branch Step) → branch_is_whole (roll-Branch o) ≡ list_all itself (map step_is_whole o.block)
  branch_whole o = fold-roll-Branch Bool Bool Bool Bool whole.alternative_step whole.statement_step whole.branch_step whole.step_step o

  step_whole : (o : Step-F Alternative Statement Branch Step) → step_is_whole (roll-Step o) ≡ statement_is_whole o.statement
  step_whole o = fold-roll-Step Bool Bool Bool Bool whole.alternative_step whole.statement_step whole.branch_step whole.step_step o

  -- ---- the induction

  stepping_keeps : (x : Step) → PT x
  stepping_keeps = ind-Step PA PS PB PT
      (λ x y h. subst (λ x. PA (roll-Alternative x)) h (λ w. subst (Goes A) (sym (alternative_rolled _)) (alternative_such y (sym (alternative_whole _) ∙ w))))
      (λ x y h. subst (λ x. PS (roll-Statement x)) h (λ w. subst (Goes S) (sym (statement_rolled _)) (statement_such y (sym (statement_whole _) ∙ w))))
      (λ x y h. subst (λ x. PB (roll-Branch x)) h (λ w. subst (Goes B) (sym (branch_rolled _)) (k.branch _ (steps_such y.block (sym (branch_whole _) ∙ w)))))
      (λ x y h. subst (λ x. PT (roll-Step x)) h (λ w. subst (Goes S) (sym (step_rolled _)) (y.statement.1 (sym (step_whole _) ∙ w))))

  pub all_stepping : (xs : List Step) → steps_are_whole xs ≡ true → (loop : Bool) → Each (S loop) (map (stepping_in home loop) xs)
  all_stepping [] w loop = tt
  all_stepping (x ∷ xs) w loop = let both = and_parts _ _ w in (stepping_keeps x both.0 loop, all_stepping xs both.1 loop)
