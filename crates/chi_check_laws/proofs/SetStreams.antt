-- What is set doesn't depend on streams.
use Rattle.std.proofs.Common.{◌≡◌, ℕ, List, [], ◌∷◌, ◌++◌, map, Option, None, Some, refl, sym, ap, subst, ◌∙◌}
use Rattle.chi_core.specs.declared.communication.CComm.{CComm}
use Rattle.chi_core.specs.declared.communication.CComm.TheVariants as comm
use Rattle.chi_core.specs.declared.element.CElem.{CElem, CElem-F, map-CElem, roll-CElem, out-roll-CElem, ind-CElem}
use Rattle.chi_core.specs.declared.statement.Branch.{Branch, Branch-F, map-Branch, roll-Branch, out-roll-Branch}
use Rattle.chi_core.specs.declared.statement.CAlt.{CAlt, CAlt-F, map-CAlt, roll-CAlt, out-roll-CAlt}
use Rattle.chi_core.specs.declared.statement.CStat.{CStat, CStat-F, map-CStat, roll-CStat, out-roll-CStat, ind-CStat}
use Rattle.chi_core.specs.declared.target.CTarget.{CTarget}
use Rattle.chi_core.specs.Fills.{Fills, filled, unwound, one_after_another, by_target, by_target_if, by_communication, by_element, by_alternative, by_branch, by_statement, by_body}
use Rattle.chi_check.specs.Below.chi_check_streams.specs.Streams.{Counted, Counting, each, some, of_expression, of_target, of_communication, of_element, of_statement, of_branch, of_alternative, statement_step, branch_step, alternative_step, element_step}
use Rattle.chi_check_laws.proofs.Layers.{statement_parts, alternative_parts, branch_parts, element_parts, statement_streams, alternative_streams, branch_streams, element_streams}
use Rattle.chi_check_laws.proofs.Set.{statement_fills, alternative_fills, element_fills, statement_sets, alternative_sets, branch_sets, element_sets, declare_sets, assign_sets, choose_sets, while_sets, walk_sets, pass_sets, break_sets, continue_sets, return_sets, exit_sets, write_sets, select_sets, run_sets, start_sets, finish_sets, guarded_sets, offered_sets, make_sets, unwound_sets}

targets_counted : (targets : List CTarget) (count : ℕ) → map by_target (each (map of_target targets) count).part ≡ map by_target targets
targets_counted [] count = refl
targets_counted (t ∷ targets) count = ap (λ rest. filled t.slot ∷ rest) (targets_counted targets (of_target t count).next)

target_if_counted : (t : Option CTarget) (count : ℕ) → by_target_if (some of_target t count).part ≡ by_target_if t
target_if_counted None count = refl
target_if_counted (Some t) count = refl

communication_counted : (c : CComm) (count : ℕ) → by_communication (of_communication c count).part ≡ by_communication c
communication_counted (comm.Send t e) count = refl
communication_counted (comm.Receive t slot) count = refl
communication_counted (comm.Delay e) count = refl
communication_counted (comm.Timer e) count = refl

-- parts in turn
module _ {A : Type 0} (by : A → Fills) (of : A → Counting A) where
  abbrev Still : A → Type 0
  Still x = (count : ℕ) → by (of x count).part ≡ by x

  each_still : (ys : List ((x : A) × Still x)) (count : ℕ) → one_after_another (map by (each (map of (map (λ y. y.0) ys)) count).part) ≡ one_after_another (map by (map (λ y. y.0) ys))
  each_still [] count = refl
  each_still (y ∷ ys) count = λ i. y.1 count i ++ each_still ys (of y.0 count).next i

  all_still : ((x : A) → Still x) → (xs : List A) (count : ℕ) → one_after_another (map by (each (map of xs) count).part) ≡ one_after_another (map by xs)
  all_still h [] count = refl
  all_still h (x ∷ xs) count = λ i. h x count i ++ all_still h xs (of x count).next i

-- ---- elements

abbrev StillE : CElem → Type 0
StillE = Still by_element of_element

abbrev XE : Type 0
XE = (x : CElem) × StillE x

element_layer : (y : CElem-F XE) (count : ℕ) → by_element (element_step (element_parts (map-CElem XE CElem (λ y. y.0) y)) count).part ≡ element_fills (map-CElem XE CElem (λ y. y.0) y)
element_layer (CElem-F.Make t process arguments) count = make_sets _ process _ ∙ target_if_counted t count
element_layer (CElem-F.Unwind slots container es) count = unwound_sets slots _ _ ∙ ap (λ rest. map unwound slots ++ rest) (each_still by_element of_element es _)

element_still : (x : CElem) → StillE x
element_still = ind-CElem StillE (λ x y h. subst (λ x. StillE (roll-CElem x)) h (λ count.
    let o = map-CElem XE CElem (λ y. y.0) y in
    ap (λ (made : Counted CElem). by_element made.part) (element_streams (roll-CElem o) o (out-roll-CElem o) count) ∙ element_layer y count ∙ sym (element_sets (roll-CElem o) o (out-roll-CElem o))))

-- ---- statements

abbrev StillA : CAlt → Type 0
StillA = Still by_alternative of_alternative

abbrev StillS : CStat → Type 0
StillS = Still by_statement of_statement

abbrev StillB : Branch → Type 0
StillB = Still by_branch of_branch

abbrev XA : Type 0
XA = (x : CAlt) × StillA x

abbrev XS : Type 0
XS = (x : CStat) × StillS x

abbrev XB : Type 0
XB = (x : Branch) × StillB x

abbrev statement_of : CStat-F XA XS XB → CStat-F CAlt CStat Branch
statement_of y = map-CStat XA XS XB CAlt CStat Branch (λ y. y.0) (λ y. y.0) (λ y. y.0) y

abbrev alternative_of : CAlt-F XA XS XB → CAlt-F CAlt CStat Branch
alternative_of y = map-CAlt XA XS XB CAlt CStat Branch (λ y. y.0) (λ y. y.0) (λ y. y.0) y

abbrev branch_of : Branch-F XA XS XB → Branch-F CAlt CStat Branch
branch_of y = map-Branch XA XS XB CAlt CStat Branch (λ y. y.0) (λ y. y.0) (λ y. y.0) y

statement_layer : (y : CStat-F XA XS XB) (count : ℕ) → by_statement (statement_step (statement_parts (statement_of y)) count).part ≡ statement_fills (statement_of y)
statement_layer (CStat-F.Declare line slot e) count = declare_sets line slot _
statement_layer (CStat-F.Assign line targets es) count = assign_sets line _ _ ∙ targets_counted targets count
statement_layer (CStat-F.If line xs ys) count = choose_sets line _ _ ∙ (λ i. each_still by_branch of_branch xs count i ++ each_still by_statement of_statement ys (each (map of_branch (map (λ y. y.0) xs)) count).next i)
statement_layer (CStat-F.While line test xs) count = while_sets line _ _ ∙ each_still by_statement of_statement xs _
statement_layer (CStat-F.For line slots container xs) count = walk_sets line slots _ _ ∙ ap (λ rest. map filled slots ++ rest) (each_still by_statement of_statement xs _)
statement_layer (CStat-F.Break line) count = break_sets line
statement_layer (CStat-F.Continue line) count = continue_sets line
statement_layer (CStat-F.Pass line) count = pass_sets line
statement_layer (CStat-F.Return line e) count = return_sets line _
statement_layer (CStat-F.Exit line e) count = exit_sets line _
statement_layer (CStat-F.Write line pieces es) count = write_sets line pieces _
statement_layer (CStat-F.Select line xs) count = select_sets line _ ∙ each_still by_alternative of_alternative xs count
statement_layer (CStat-F.Run line elements) count = run_sets line _ ∙ all_still by_element of_element element_still elements count
statement_layer (CStat-F.Start line elements) count = start_sets line _ ∙ all_still by_element of_element element_still elements count
statement_layer (CStat-F.Finish line es) count = finish_sets line _

alternative_layer : (y : CAlt-F XA XS XB) (count : ℕ) → by_alternative (alternative_step (alternative_parts (alternative_of y)) count).part ≡ alternative_fills (alternative_of y)
alternative_layer (CAlt-F.Guarded guard c xs) count =
    let at = (some of_expression guard count).next in
    guarded_sets _ _ _ ∙ (λ i. communication_counted c at i ++ each_still by_statement of_statement xs (of_communication c at).next i)
alternative_layer (CAlt-F.Unwind slots container xs) count = offered_sets slots _ _ ∙ ap (λ rest. map unwound slots ++ rest) (each_still by_alternative of_alternative xs _)

branch_layer : (y : Branch-F XA XS XB) (count : ℕ) → by_branch (branch_step (branch_parts (branch_of y)) count).part ≡ one_after_another (map by_statement (branch_of y).block)
branch_layer y count = branch_sets _ _ (out-roll-Branch _) ∙ each_still by_statement of_statement y.block _

statement_still : (x : CStat) → StillS x
statement_still = ind-CStat StillA StillS StillB
    (λ x y h. subst (λ x. StillA (roll-CAlt x)) h (λ count.
    let o = alternative_of y in
    ap (λ (made : Counted CAlt). by_alternative made.part) (alternative_streams (roll-CAlt o) o (out-roll-CAlt o) count) ∙ alternative_layer y count ∙ sym (alternative_sets (roll-CAlt o) o (out-roll-CAlt o))))
    (λ x y h. subst (λ x. StillS (roll-CStat x)) h (λ count.
    let o = statement_of y in
    ap (λ (made : Counted CStat). by_statement made.part) (statement_streams (roll-CStat o) o (out-roll-CStat o) count) ∙ statement_layer y count ∙ sym (statement_sets (roll-CStat o) o (out-roll-CStat o))))
    (λ x y h. subst (λ x. StillB (roll-Branch x)) h (λ count.
    let o = branch_of y in
    ap (λ (made : Counted Branch). by_branch made.part) (branch_streams (roll-Branch o) o (out-roll-Branch o) count) ∙ branch_layer y count ∙ sym (branch_sets (roll-Branch o) o (out-roll-Branch o))))

pub body_still : (body : List CStat) (count : ℕ) → by_body (each (map of_statement body) count).part ≡ by_body body
body_still body count = all_still by_statement of_statement statement_still body count
