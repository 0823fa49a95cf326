-- What is formed is whole.
use Rattle.std.proofs.Common.{◌≡◌, ℕ, Bool, true, false, List, map, refl, ap, ◌∙◌}
use Rattle.std.specs.List.{list_all}
use Rattle.chi_value.specs.Plain.{itself}
use Rattle.chi_tree.specs.declared.expr.Expr.{Expr}
use Rattle.chi_tree.specs.declared.statement.Alternative.{Alternative, Alternative-F, map-Alternative, out-Alternative, fold_out-Alternative}
use Rattle.chi_tree.specs.declared.statement.Alternative.TheVariants as alternative
use Rattle.chi_tree.specs.declared.statement.Branch.{Branch, fold-roll-Branch}
use Rattle.chi_tree.specs.declared.statement.Element.{Element, Element-F, map-Element, out-Element, fold_out-Element}
use Rattle.chi_tree.specs.declared.statement.Element.TheVariants as element
use Rattle.chi_tree.specs.declared.statement.Statement.{Statement, Statement-F, map-Statement, out-Statement, fold_out-Statement}
use Rattle.chi_tree.specs.declared.statement.Statement.TheVariants as statement
use Rattle.chi_tree.specs.declared.statement.Step.{Step, fold-roll-Step}
use Rattle.chi_tree.specs.declared.statement.Target.{Target}
use Rattle.chi_tree.specs.declared.statement.Walk.{Walk}
use Rattle.chi_tree.specs.Statements.{step}
use Rattle.chi_tree_laws.specs.Statements as formed
use Rattle.chi_tree_laws.specs.Statements.{FormedTargets, FormedWalk, FormedElement, FormedElements, FormedBlock, FormedInner, FormedStatement, FormedBranches, FormedAlternatives, FormedAlternative}
use Rattle.chi_check_laws.specs.Whole as whole
use Rattle.chi_check_laws.specs.Whole.{has_any, element_is_whole, elements_are_whole, statement_is_whole, step_is_whole, branch_is_whole, alternative_is_whole, steps_are_whole}
use Rattle.chi_check_parsed.proofs.Short.{both_true}

-- ---- by the outermost layers

statement_at : (x : Statement) (o : Statement-F Alternative Statement Branch Step) → out-Statement x ≡ o
    → statement_is_whole x ≡ whole.statement_step (map-Statement Alternative Statement Branch Step Bool Bool Bool Bool alternative_is_whole statement_is_whole branch_is_whole step_is_whole o)
statement_at x o h = fold_out-Statement Bool Bool Bool Bool whole.alternative_step whole.statement_step whole.branch_step whole.step_step x
    ∙ ap (λ o. whole.statement_step (map-Statement Alternative Statement Branch Step Bool Bool Bool Bool alternative_is_whole statement_is_whole branch_is_whole step_is_whole o)) h

alternative_at : (x : Alternative) (o : Alternative-F Alternative Statement Branch Step) → out-Alternative x ≡ o
    → alternative_is_whole x ≡ whole.alternative_step (map-Alternative Alternative Statement Branch Step Bool Bool Bool Bool alternative_is_whole statement_is_whole branch_is_whole step_is_whole o)
alternative_at x o h = fold_out-Alternative Bool Bool Bool Bool whole.alternative_step whole.statement_step whole.branch_step whole.step_step x
    ∙ ap (λ o. whole.alternative_step (map-Alternative Alternative Statement Branch Step Bool Bool Bool Bool alternative_is_whole statement_is_whole branch_is_whole step_is_whole o)) h

element_at : (x : Element) (o : Element-F Element) → out-Element x ≡ o → element_is_whole x ≡ whole.element_step (map-Element Element Bool element_is_whole o)
element_at x o h = fold_out-Element Bool whole.element_step x ∙ ap (λ o. whole.element_step (map-Element Element Bool element_is_whole o)) h

step_at : (s : Statement) (semicolon : Bool) → step_is_whole (step s semicolon) ≡ statement_is_whole s
step_at s semicolon = fold-roll-Step Bool Bool Bool Bool whole.alternative_step whole.statement_step whole.branch_step whole.step_step (record { statement = s; semicolon = semicolon })

branch_at : (e : Expr) (block : List Step) → branch_is_whole (formed.branch e block) ≡ steps_are_whole block
branch_at e block = fold-roll-Branch Bool Bool Bool Bool whole.alternative_step whole.statement_step whole.branch_step whole.step_step (record { condition = e; block = block })

-- ---- targets and walks

targets_some : (d : ℕ) (ts : List Target) → FormedTargets d ts → has_any ts ≡ true
targets_some _ _ (formed.one_target f) = refl
targets_some _ _ (formed.targets f fs) = refl

walk_some : (d : ℕ) (w : Walk) → FormedWalk d w → has_any w.names ≡ true
walk_some _ _ (formed.walk f) = refl

-- ---- elements

mutual
  element_whole : (ends : Bool) (b d : ℕ) (x : Element) → FormedElement ends b d x → element_is_whole x ≡ true
  element_whole _ _ _ _ (formed.make f) = element_at _ _ (element.outs-Make _ _ _)
  element_whole _ _ _ _ (formed.assigned_make t f) = element_at _ _ (element.outs-Make _ _ _)
  element_whole _ _ _ _ (formed.unwind_elements {b = b} {d = d} {ends = ends} {walk = walk} {es = es} w f) =
      element_at _ _ (element.outs-Unwind _ _ _) ∙ both_true (has_any walk.names) (elements_are_whole es) (walk_some d walk w) (all_elements ends b d es f)

  all_elements : (ends : Bool) (b d : ℕ) (xs : List Element) → FormedElements ends b d xs → elements_are_whole xs ≡ true
  all_elements _ _ _ _ (formed.one_element {ends = ends} {b = b} {d = d} {e = e} f) = both_true (element_is_whole e) true (element_whole ends b d e f) refl
  all_elements _ _ _ _ (formed.elements {middle = middle} {ends = ends} {b = b} {d = d} {e = e} {more = more} f fs) =
      both_true (element_is_whole e) (elements_are_whole more) (element_whole middle b d e f) (all_elements ends b d more fs)

-- ---- statements

mutual
  pub block_whole : (b d : ℕ) (xs : List Step) → FormedBlock b d xs → steps_are_whole xs ≡ true
  block_whole _ _ _ (formed.last {ends = ends} {semicolon = semicolon} {b = b} {d = d} {s = s} f) = both_true (step_is_whole (step s semicolon)) true (step_at s semicolon ∙ statement_whole ends b d s f) refl
  block_whole _ _ _ (formed.next {ends = ends} {b = b} {d = d} {s = s} {more = more} f fs) =
      both_true (step_is_whole (step s true)) (steps_are_whole more) (step_at s true ∙ statement_whole ends b d s f) (block_whole b d more fs)
  block_whole _ _ _ (formed.after_end {b = b} {d = d} {s = s} {more = more} f fs) =
      both_true (step_is_whole (step s false)) (steps_are_whole more) (step_at s false ∙ statement_whole true b d s f) (block_whole b d more fs)

  pub inner_whole : (b d : ℕ) (xs : List Step) → FormedInner b d xs → steps_are_whole xs ≡ true
  inner_whole _ _ _ (formed.inner {b = b} {d = d} {block = block} f) = block_whole b d block f

  statement_whole : (ends : Bool) (b d : ℕ) (x : Statement) → FormedStatement ends b d x → statement_is_whole x ≡ true
  statement_whole _ _ _ _ (formed.declare t vs) = statement_at _ _ (statement.outs-Declare _ _)
  statement_whole _ _ _ _ (formed.assign {d = d} {ts = ts} f es) = statement_at _ _ (statement.outs-Assign _ _ _) ∙ targets_some d ts f
  statement_whole _ _ _ _ (formed.communicate f) = statement_at _ _ (statement.outs-Communicate _)
  statement_whole _ _ _ _ formed.pass = statement_at _ _ (statement.outs-Pass _)
  statement_whole _ _ _ _ formed.leave = statement_at _ _ (statement.outs-Break _)
  statement_whole _ _ _ _ formed.continue = statement_at _ _ (statement.outs-Continue _)
  statement_whole _ _ _ _ (formed.select {b = b} {d = d} {xs = xs} f) = statement_at _ _ (statement.outs-Select _ _) ∙ all_alternatives b d xs f
  statement_whole _ _ _ _ (formed.if_branches {b = b} {d = d} {bs = bs} f) = statement_at _ _ (statement.outs-If _ _ _) ∙ both_true (list_all itself (map branch_is_whole bs)) true (all_branches b d bs f) refl
  statement_whole _ _ _ _ (formed.if_else {b = b} {d = d} {bs = bs} {block = block} f k) =
      statement_at _ _ (statement.outs-If _ _ _) ∙ both_true (list_all itself (map branch_is_whole bs)) (steps_are_whole block) (all_branches b d bs f) (inner_whole b d block k)
  statement_whole _ _ _ _ (formed.while {b = b} {d = d} {block = block} e k) = statement_at _ _ (statement.outs-While _ _ _) ∙ inner_whole b d block k
  statement_whole _ _ _ _ (formed.for_each {b = b} {d = d} {walk = walk} {block = block} w k) =
      statement_at _ _ (statement.outs-For _ _ _) ∙ both_true (has_any walk.names) (steps_are_whole block) (walk_some d walk w) (inner_whole b d block k)
  statement_whole _ _ _ _ (formed.return f) = statement_at _ _ (statement.outs-Return _ _)
  statement_whole _ _ _ _ (formed.exit f) = statement_at _ _ (statement.outs-Exit _ _)
  statement_whole _ _ _ _ (formed.run {ends = ends} {b = b} {d = d} {es = es} f) = statement_at _ _ (statement.outs-Run _ _) ∙ all_elements ends b d es f
  statement_whole _ _ _ _ (formed.start {ends = ends} {b = b} {d = d} {es = es} f) = statement_at _ _ (statement.outs-Start _ _) ∙ all_elements ends b d es f
  statement_whole _ _ _ _ (formed.finish f) = statement_at _ _ (statement.outs-Finish _ _)
  statement_whole _ _ _ _ (formed.write f) = statement_at _ _ (statement.outs-Write _ _ _ _ _)

  all_branches : (b d : ℕ) (xs : List Branch) → FormedBranches b d xs → list_all itself (map branch_is_whole xs) ≡ true
  all_branches _ _ _ (formed.one_branch {b = b} {d = d} {e = e} {block = block} f k) = both_true (branch_is_whole (formed.branch e block)) true (branch_at e block ∙ inner_whole b d block k) refl
  all_branches _ _ _ (formed.branches {b = b} {d = d} {e = e} {block = block} {more = more} f k fs) =
      both_true (branch_is_whole (formed.branch e block)) (list_all itself (map branch_is_whole more)) (branch_at e block ∙ inner_whole b d block k) (all_branches b d more fs)

  all_alternatives : (b d : ℕ) (xs : List Alternative) → FormedAlternatives b d xs → list_all itself (map alternative_is_whole xs) ≡ true
  all_alternatives _ _ _ (formed.one_alternative {b = b} {d = d} {x = x} f) = both_true (alternative_is_whole x) true (alternative_whole b d x f) refl
  all_alternatives _ _ _ (formed.alternatives {b = b} {d = d} {x = x} {more = more} f fs) =
      both_true (alternative_is_whole x) (list_all itself (map alternative_is_whole more)) (alternative_whole b d x f) (all_alternatives b d more fs)

  alternative_whole : (b d : ℕ) (x : Alternative) → FormedAlternative b d x → alternative_is_whole x ≡ true
  alternative_whole _ _ _ (formed.offer g c) = alternative_at _ _ (alternative.outs-Guarded _ _ _)
  alternative_whole _ _ _ (formed.offer_block {b = b} {d = d} {block = block} g c k) = alternative_at _ _ (alternative.outs-Guarded _ _ _) ∙ inner_whole b d block k
  alternative_whole _ _ _ (formed.unwind {b = b} {d = d} {walk = walk} {xs = xs} w f) =
      alternative_at _ _ (alternative.outs-Unwind _ _ _) ∙ both_true (has_any walk.names) (list_all itself (map alternative_is_whole xs)) (walk_some d walk w) (all_alternatives b d xs f)
