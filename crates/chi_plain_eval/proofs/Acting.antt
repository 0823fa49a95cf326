-- What an item does: where it isn't amiss, nor is what it evaluates, and each value is of its kind.
use Rattle.std.proofs.Common.{◌≡◌, ◌≢◌, ℕ, ◌<◌, Bool, true, false, nat_lt, List, [], ◌∷◌, Option, Some, None, length, ap, sym, refl, ◌∙◌, rules, slice_set}
use Rattle.std.specs.Prelude.{if◌then◌else◌, option_map}
use Rattle.chi_value.specs.declared.value.Value.{Value}
use Rattle.chi_value.specs.declared.format.Piece.{Piece}
use Rattle.chi_core.specs.declared.expression.CExpr.{CExpr}
use Rattle.chi_core.specs.declared.statement.CStat.{CStat, CStat-F, out-CStat}
use Rattle.chi_core.specs.declared.statement.CStat.TheVariants as s
use Rattle.chi_core.specs.declared.statement.CAlt.{CAlt}
use Rattle.chi_core.specs.declared.statement.Branch.{Branch}
use Rattle.chi_core.specs.declared.target.CTarget.{CTarget}
use Rattle.chi_core.specs.declared.element.CElem.{CElem}
use Rattle.chi_core.specs.declared.view.View.{View}
use Rattle.chi_core.specs.Answer.{Answer, Gives, Amiss, gives, wanted, giving}
use Rattle.chi_core.specs.Reading.{truth_of, elements_of}
use Rattle.chi_core.specs.Variables.{Variables, with_slot, bound}
use Rattle.chi_core.specs.Evaluation.{Evaluates, on_truth}
use Rattle.chi_core.specs.Terms.{Term, Did, On, Do, Loop, Walk, act_stat, declared, walking, tested, chosen, assigned, on_with, after_loop, from_loop, first_the}
use Rattle.chi_core_frame.specs.Heads.{IsWalk, walk_done}
use Rattle.chi_core_frame.specs.Terms.{first_of}
use Rattle.chi_plain_eval.specs.Terms.{act_first}
use Rattle.chi_core_frame.proofs.Stopping.{then_there, next_there}

giving_there : {A B : Type 0} (f : A → B) (it : Answer A) → giving f it ≢ Amiss → it ≢ Amiss
giving_there f it h e = h (ap (giving f) e)

wanted_there : {A : Type 0} (o : Option A) (view : View) → wanted o view ≢ Amiss → o ≢ None
wanted_there o view h e = h (ap (λ o. wanted o view) e)

pub slot_there : (slot : ℕ) (x : Value) (variables : Variables) → with_slot slot x variables ≢ None → slot < length variables
slot_there slot x variables h = by_test (nat_lt slot (length variables)) refl h
  where
    by_test : (b : Bool) → nat_lt slot (length variables) ≡ b → (if b then Some (slice_set variables slot (Some x)) else None) ≢ None → slot < length variables
    by_test true e h = search (rules, e)
    by_test false e h = absurd (h refl)

module _ (m : Evaluates) (variables : Variables) (x : CStat) (rest : Term) (view : View) where
  at : (o : CStat-F CAlt CStat Branch) → out-CStat x ≡ o → act_stat m variables (out-CStat x) rest view ≢ Amiss → act_stat m variables o rest view ≢ Amiss
  at o e h a = h (ap (λ o. act_stat m variables o rest view) e ∙ a)

  -- what each kind of statement is
  pub declare_is : (l slot : ℕ) (e : CExpr) → x ≡ s.Declare l slot e → act_stat m variables (out-CStat x) rest view ≡ declared m variables slot e rest view
  declare_is l slot e is = ap (λ o. act_stat m variables o rest view) (ap out-CStat is ∙ s.outs-Declare l slot e)

  pub assign_is : (l : ℕ) (targets ts : List CTarget) (values vs : List CExpr) → x ≡ s.Assign l targets values → ts ≡ targets → vs ≡ values
      → act_stat m variables (out-CStat x) rest view ≡ assigned m variables ts vs rest view
  assign_is l targets ts values vs is same next =
      ap (λ o. act_stat m variables o rest view) (ap out-CStat (is ∙ (λ i. s.Assign l (sym same i) (sym next i))) ∙ s.outs-Assign l ts vs)

  pub if_is : (l : ℕ) (branches bs : List Branch) (otherwise os : List CStat) → x ≡ s.If l branches otherwise → bs ≡ branches → os ≡ otherwise
      → act_stat m variables (out-CStat x) rest view ≡ chosen m variables bs os rest view
  if_is l branches bs otherwise os is same next =
      ap (λ o. act_stat m variables o rest view) (ap out-CStat (is ∙ (λ i. s.If l (sym same i) (sym next i))) ∙ s.outs-If l bs os)

  pub while_is : (l : ℕ) (test : CExpr) (block b : List CStat) → x ≡ s.While l test block → b ≡ block
      → act_stat m variables (out-CStat x) rest view ≡ tested m variables l test b rest view
  while_is l test block b is same = ap (λ o. act_stat m variables o rest view) (ap out-CStat (is ∙ ap (s.While l test) (sym same)) ∙ s.outs-While l test b)

  pub for_is : (l : ℕ) (slots ns : List ℕ) (e : CExpr) (block b : List CStat) → x ≡ s.For l slots e block → ns ≡ slots → b ≡ block
      → act_stat m variables (out-CStat x) rest view ≡ walking m variables l ns e b rest view
  for_is l slots ns e block b is same next =
      ap (λ o. act_stat m variables o rest view) (ap out-CStat (is ∙ (λ i. s.For l (sym same i) e (sym next i))) ∙ s.outs-For l ns e b)

  pub return_first : (l : ℕ) (e : CExpr) → x ≡ s.Return l e → act_stat m variables (out-CStat x) rest view ≢ Amiss → m e view ≢ Amiss
  return_first l e is h = giving_there _ (m e view) (at _ (ap out-CStat is ∙ s.outs-Return l e) h)

  pub break_there : (l : ℕ) → x ≡ s.Break l → act_stat m variables (out-CStat x) rest view ≢ Amiss → after_loop rest ≢ None
  break_there l is h = wanted_there (after_loop rest) view (giving_there (On variables) (wanted (after_loop rest) view) (at _ (ap out-CStat is ∙ s.outs-Break l) h))

  pub continue_there : (l : ℕ) → x ≡ s.Continue l → act_stat m variables (out-CStat x) rest view ≢ Amiss → from_loop rest ≢ None
  continue_there l is h = wanted_there (from_loop rest) view (giving_there (On variables) (wanted (from_loop rest) view) (at _ (ap out-CStat is ∙ s.outs-Continue l) h))

  -- statements of processes alone
  pub exit_amiss : (l : ℕ) (e : Option CExpr) → x ≡ s.Exit l e → act_stat m variables (out-CStat x) rest view ≢ Amiss → ⊥
  exit_amiss l e is h = at _ (ap out-CStat is ∙ s.outs-Exit l e) h refl

  pub write_amiss : (l : ℕ) (pieces : List Piece) (es : List CExpr) → x ≡ s.Write l pieces es → act_stat m variables (out-CStat x) rest view ≢ Amiss → ⊥
  write_amiss l pieces es is h = at _ (ap out-CStat is ∙ s.outs-Write l pieces es) h refl

  pub select_amiss : (l : ℕ) (alternatives : List CAlt) → x ≡ s.Select l alternatives → act_stat m variables (out-CStat x) rest view ≢ Amiss → ⊥
  select_amiss l alternatives is h = at _ (ap out-CStat is ∙ s.outs-Select l alternatives) h refl

  pub run_amiss : (l : ℕ) (elements : List CElem) → x ≡ s.Run l elements → act_stat m variables (out-CStat x) rest view ≢ Amiss → ⊥
  run_amiss l elements is h = at _ (ap out-CStat is ∙ s.outs-Run l elements) h refl

  pub start_amiss : (l : ℕ) (elements : List CElem) → x ≡ s.Start l elements → act_stat m variables (out-CStat x) rest view ≢ Amiss → ⊥
  start_amiss l elements is h = at _ (ap out-CStat is ∙ s.outs-Start l elements) h refl

  pub finish_amiss : (l : ℕ) (es : List CExpr) → x ≡ s.Finish l es → act_stat m variables (out-CStat x) rest view ≢ Amiss → ⊥
  finish_amiss l es is h = at _ (ap out-CStat is ∙ s.outs-Finish l es) h refl

-- the beginning of a walk
module _ (m : Evaluates) (variables : Variables) (line : ℕ) (slots : List ℕ) (e : CExpr) (block : List CStat) (rest : Term) (view : View) where
  pub walk_first : walking m variables line slots e block rest view ≢ Amiss → m e view ≢ Amiss
  walk_first h = then_there (m e view) (λ x now. giving (λ elements. On variables (Walk line slots elements block ∷ rest)) (wanted (elements_of x) now)) h

  pub elements_there : (v : Value) (now : View) → m e view ≡ Gives v now → walking m variables line slots e block rest view ≢ Amiss → elements_of v ≢ None
  elements_there v now got h =
      wanted_there (elements_of v) now (giving_there (λ elements. On variables (Walk line slots elements block ∷ rest)) (wanted (elements_of v) now)
      (next_there (m e view) (λ x now. giving (λ elements. On variables (Walk line slots elements block ∷ rest)) (wanted (elements_of x) now)) v now h got))

-- the test of a loop
module _ (m : Evaluates) (variables : Variables) (line : ℕ) (test : CExpr) (block : List CStat) (rest : Term) (view : View) where
  pub test_first : tested m variables line test block rest view ≢ Amiss → m test view ≢ Amiss
  test_first h = then_there (m test view) (λ x. on_truth (truth_of x) (gives (On variables (first_the block (Loop line test block ∷ rest)))) (gives (On variables rest))) h

  pub test_truth : (v : Value) (now : View) → m test view ≡ Gives v now → tested m variables line test block rest view ≢ Amiss → truth_of v ≢ None
  test_truth v now got h none =
      next_there (m test view) (λ x. on_truth (truth_of x) (gives (On variables (first_the block (Loop line test block ∷ rest)))) (gives (On variables rest))) v now h got
      (ap (λ o. on_truth o (gives (On variables (first_the block (Loop line test block ∷ rest)))) (gives (On variables rest)) now) none)

-- a walk, as the first item

abbrev on_pair : Variables × Term → Did
on_pair p = On p.0 p.1

pub walk_is : (m : Evaluates) (variables : Variables) (term : Term) (view : View) → IsWalk (first_of term)
    → act_first m variables term view ≡ giving on_pair (wanted (walk_done variables term) view)
walk_is m variables [] view e = absurd e
walk_is m variables (Do s ∷ rest) view e = absurd e
walk_is m variables (Loop line test block ∷ rest) view e = absurd e
walk_is m variables (Walk line slots [] block ∷ rest) view e = refl
walk_is m variables (Walk line slots (x ∷ xs) block ∷ rest) view e = by_bound (bound slots x variables)
  where
    by_bound : (o : Option Variables)
        → giving (on_with (first_the block (Walk line slots xs block ∷ rest))) (wanted o view)
        ≡ giving on_pair (wanted (option_map (λ new. (new, first_the block (Walk line slots xs block ∷ rest))) o) view)
    by_bound None = refl
    by_bound (Some new) = refl

pub walk_there : (m : Evaluates) (variables : Variables) (term : Term) (view : View) → IsWalk (first_of term) → act_first m variables term view ≢ Amiss → walk_done variables term ≢ None
walk_there m variables term view is h none = h (walk_is m variables term view is ∙ ap (λ o. giving on_pair (wanted o view)) none)

pub walk_goes : (m : Evaluates) (variables variables2 : Variables) (term term2 : Term) (view : View) → IsWalk (first_of term) → walk_done variables term ≡ Some (variables2, term2)
    → act_first m variables term view ≡ Gives (On variables2 term2) view
walk_goes m variables variables2 term term2 view is e = walk_is m variables term view is ∙ ap (λ o. giving on_pair (wanted o view)) e

pub ruleset acting = (return_first, break_there, continue_there, exit_amiss, write_amiss, select_amiss, run_amiss, start_amiss, finish_amiss)

pub ruleset beginning = (walk_first, elements_there)

pub ruleset testing = (test_first, test_truth)

pub ruleset walks = (walk_there, walk_goes)
