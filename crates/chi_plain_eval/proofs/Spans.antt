-- How large statements are, and what is left to do.
use Rattle.std.proofs.Common.{get_or, ◌≡◌, ℕ, suc-mul, zero, suc, ◌-◌, Bool, true, false, nat_eq, subst, ◌+◌, ◌*◌, ◌<◌, ◌≤◌, max, List, [], ◌∷◌, ◌++◌, Option, Some, None, length, map, sym, ◌∙◌, ap, refl, arith}
use Rattle.std.specs.Prelude.{slice_get, if◌then◌else◌}
use Rattle.std.specs.Option.{option_and_then}
use denote.Param.Weighed.{most}
use Rattle.chi_value.specs.declared.value.Value.{Value}
use Rattle.chi_core.specs.declared.expression.CExpr.{CExpr, size-CExpr}
use Rattle.chi_core.specs.declared.statement.CStat.{CStat, CStat-F, out-CStat, fold_out-CStat, map-CStat}
use Rattle.chi_core.specs.declared.statement.CAlt.{CAlt, fold-CAlt}
use Rattle.chi_core.specs.declared.statement.Branch.{Branch, out-Branch, fold_out-Branch}
use Rattle.chi_core.specs.declared.target.CTarget.{CTarget}
use Rattle.chi_core.specs.declared.program.FuncDef.{FuncDef}
use Rattle.chi_core.specs.Functions.{callee, taking}
use Rattle.chi_core.specs.declared.view.View.{View}
use Rattle.chi_core.specs.declared.statement.CStat.TheVariants as s
use Rattle.chi_core.specs.Answer.{Answer, Gives, Fails, Spent, Amiss, Does, then_do, gives, wanted, giving, in_turn, through}
use Rattle.chi_core.specs.Reading.{truth_of, elements_of}
use Rattle.chi_core.specs.Spots.{spot_of, store}
use Rattle.chi_core.specs.Variables.{Variables, with_slot, side_by_side, bound}
use Rattle.chi_core.specs.Evaluation.{Evaluates, on_truth}
use Rattle.chi_core.specs.Terms.{Item, Term, Do, Loop, Walk, Did, On, Returns, act_stat, tested, chosen, walked, on_with, goes_on, first_the, after_loop, from_loop, spread}
use Rattle.chi_core_frame.specs.Terms.{first_of}
use Rattle.chi_plain_eval.specs.Terms.{act_first}
use Rattle.chi_plain_eval.specs.Spans.{itself, span, branch_span, span_step, alt_span_step, branch_span_step, target_span, item_span, body_span, reach}

most_map : {A : Type 0} (f : A → ℕ) (xs : List A) → most itself (map f xs) ≡ most f xs
most_map f [] = refl
most_map f (x ∷ xs) = ap (max (f x)) (most_map f xs)

most_append : {A : Type 0} (f : A → ℕ) (xs ys : List A) → most f (xs ++ ys) ≡ max (most f xs) (most f ys)
most_append f [] ys = omega arith
most_append f (x ∷ xs) ys = omega (arith, most_append f xs ys)

pub most_do : (block : List CStat) → most item_span (map Do block) ≡ most span block
most_do [] = refl
most_do (x ∷ xs) = ap (max (span x)) (most_do xs)

pub most_block : (block : List CStat) (term : Term) → most item_span (map Do block ++ term) ≡ max (most span block) (most item_span term)
most_block block term = most_append item_span (map Do block) term ∙ ap (λ n. max n (most item_span term)) (most_do block)

alt_span : CAlt → ℕ
alt_span = fold-CAlt ℕ ℕ ℕ alt_span_step span_step branch_span_step

-- a branch by its layer
pub branch_within : (b : Branch) → max (size-CExpr (out-Branch b).test) (most span (out-Branch b).block) ≤ branch_span b
unfolding span branch_span alt_span
branch_within b = omega (arith, fold_out-Branch ℕ ℕ ℕ alt_span_step span_step branch_span_step b, most_map span (out-Branch b).block)

-- by its layer
layer_span : CStat-F CAlt CStat Branch → ℕ
layer_span o = span_step (map-CStat CAlt CStat Branch ℕ ℕ ℕ alt_span span branch_span o)

span_out : (x : CStat) → span x ≡ layer_span (out-CStat x)
unfolding span branch_span alt_span layer_span
span_out x = fold_out-CStat ℕ ℕ ℕ alt_span_step span_step branch_span_step x

module _ (x : CStat) where
  pub at_declare : (l slot : ℕ) (e : CExpr) → out-CStat x ≡ CStat-F.Declare l slot e → span x ≡ size-CExpr e
  unfolding layer_span
  at_declare l slot e h = span_out x ∙ ap layer_span h

  pub at_return : (l : ℕ) (e : CExpr) → out-CStat x ≡ CStat-F.Return l e → span x ≡ size-CExpr e
  unfolding layer_span
  at_return l e h = span_out x ∙ ap layer_span h

  pub at_while : (l : ℕ) (e : CExpr) (block : List CStat) → out-CStat x ≡ CStat-F.While l e block → span x ≡ max (size-CExpr e) (most span block)
  unfolding layer_span
  at_while l e block h = span_out x ∙ ap layer_span h ∙ ap (max (size-CExpr e)) (most_map span block)

  pub at_for : (l : ℕ) (slots : List ℕ) (e : CExpr) (block : List CStat) → out-CStat x ≡ CStat-F.For l slots e block → span x ≡ max (size-CExpr e) (most span block)
  unfolding layer_span
  at_for l slots e block h = span_out x ∙ ap layer_span h ∙ ap (max (size-CExpr e)) (most_map span block)

  pub at_assign : (l : ℕ) (targets : List CTarget) (values : List CExpr) → out-CStat x ≡ CStat-F.Assign l targets values → span x ≡ max (most target_span targets) (most size-CExpr values)
  unfolding layer_span
  at_assign l targets values h = span_out x ∙ ap layer_span h

  pub at_if : (l : ℕ) (branches : List Branch) (otherwise : List CStat) → out-CStat x ≡ CStat-F.If l branches otherwise
      → span x ≡ max (most branch_span branches) (most span otherwise)
  unfolding layer_span
  at_if l branches otherwise h = span_out x ∙ ap layer_span h ∙ (λ i. max (most_map branch_span branches i) (most_map span otherwise i))

body_in : (functions : List FuncDef) (k : ℕ) (f : FuncDef) → slice_get functions k ≡ Some f → most span f.body ≤ most body_span functions
body_in [] k f e = absurd (cc)
body_in (g ∷ functions) zero f e = let same : g ≡ f = cc in omega (arith, ap body_span same)
body_in (g ∷ functions) (suc k) f e = omega (arith, body_in functions k f e)

taken : (count : ℕ) (o : Option FuncDef) (f : FuncDef) → option_and_then (taking count) o ≡ Some f → o ≡ Some f
taken count None f e = absurd (cc)
taken count (Some g) f e = by_test (nat_eq count g.arity) e
  where
    by_test : (b : Bool) → (if b then Some g else None) ≡ Some f → Some g ≡ Some f
    by_test true e = e
    by_test false e = absurd (cc)

pub body_within : (functions : List FuncDef) (k count : ℕ) (f : FuncDef) → callee functions k count ≡ Some f → (5 * most span f.body) + 10 < reach functions
unfolding reach
body_within functions k count f e = omega (arith, body_in functions k f (taken count (slice_get functions k) f e))

-- the measure falls at a call
pub call_falls : (more r s : ℕ) → 0 < more → s < r → ((more - 1) * r) + s < more * r
call_falls zero r s h k = absurd (omega arith)
call_falls (suc more) r s h k = let e : suc more - 1 ≡ more = omega arith in
    let P : ℕ → Type 0 = λ n. (n * r) + s < suc more * r in subst P (sym e) (omega (arith, suc-mul more r))

-- as a statement stands in the code

module _ (x : CStat) where
  pub is_declare : (l slot : ℕ) (e : CExpr) → x ≡ s.Declare l slot e → span x ≡ size-CExpr e
  is_declare l slot e is = at_declare x l slot e (ap out-CStat is ∙ s.outs-Declare l slot e)

  pub is_return : (l : ℕ) (e : CExpr) → x ≡ s.Return l e → span x ≡ size-CExpr e
  is_return l e is = at_return x l e (ap out-CStat is ∙ s.outs-Return l e)

  pub is_while : (l : ℕ) (e : CExpr) (block : List CStat) → x ≡ s.While l e block → span x ≡ max (size-CExpr e) (most span block)
  is_while l e block is = at_while x l e block (ap out-CStat is ∙ s.outs-While l e block)

  pub is_for : (l : ℕ) (slots : List ℕ) (e : CExpr) (block : List CStat) → x ≡ s.For l slots e block → span x ≡ max (size-CExpr e) (most span block)
  is_for l slots e block is = at_for x l slots e block (ap out-CStat is ∙ s.outs-For l slots e block)

  pub is_assign : (l : ℕ) (targets : List CTarget) (values : List CExpr) → x ≡ s.Assign l targets values → span x ≡ max (most target_span targets) (most size-CExpr values)
  is_assign l targets values is = at_assign x l targets values (ap out-CStat is ∙ s.outs-Assign l targets values)

  pub is_if : (l : ℕ) (branches : List Branch) (otherwise : List CStat) → x ≡ s.If l branches otherwise → span x ≡ max (most branch_span branches) (most span otherwise)
  is_if l branches otherwise is = at_if x l branches otherwise (ap out-CStat is ∙ s.outs-If l branches otherwise)

-- the measure of a body that is called
pub body_falls : (functions : List FuncDef) (k n more : ℕ) (f : FuncDef) (body : List CStat) → 0 < more → callee functions k n ≡ Some f → body ≡ f.body
    → ((more - 1) * reach functions) + (5 * most span body) + 10 < more * reach functions
body_falls functions k n more f body h found b =
    let within : (5 * most span body) + 10 < reach functions = omega (arith, body_within functions k n f found, ap (most span) b) in
    omega (arith, call_falls more (reach functions) ((5 * most span body) + 10) h within)

-- what is left after an item is no larger than what was

abbrev Sized : ℕ → Answer Did → Type 0
Sized n (Gives (On variables term) view) = most item_span term ≤ n
Sized n (Gives (Returns v) view) = Unit {0}
Sized n (Fails kind) = Unit {0}
Sized n Spent = Unit {0}
Sized n Amiss = Unit {0}

module _ (n : ℕ) where
  then_sized : {A : Type 0} (it : Answer A) (next : A → Does Did) → ((x : A) (view : View) → Sized n (next x view)) → Sized n (then_do it next)
  then_sized (Gives x view) next h = h x view
  then_sized (Fails kind) next h = tt
  then_sized Spent next h = tt
  then_sized Amiss next h = tt

  on_sized : (term : Term) (it : Answer Variables) → most item_span term ≤ n → Sized n (giving (on_with term) it)
  on_sized term (Gives x view) h = h
  on_sized term (Fails kind) h = tt
  on_sized term Spent h = tt
  on_sized term Amiss h = tt

  returns_sized : (it : Answer Value) → Sized n (giving Returns it)
  returns_sized (Gives x view) = tt
  returns_sized (Fails kind) = tt
  returns_sized Spent = tt
  returns_sized Amiss = tt

  truth_sized : (o : Option Bool) (a b : Does Did) (view : View) → Sized n (a view) → Sized n (b view) → Sized n (on_truth o a b view)
  truth_sized (Some true) a b view h k = h
  truth_sized (Some false) a b view h k = k
  truth_sized None a b view h k = tt

  goes_sized : (variables : Variables) (o : Option Term) (view : View) → ((t : Term) → o ≡ Some t → most item_span t ≤ n) → Sized n (goes_on variables o view)
  goes_sized variables None view h = tt
  goes_sized variables (Some t) view h = h t refl

  begins_sized : (variables : Variables) (line : ℕ) (slots : List ℕ) (block : List CStat) (rest : Term) (o : Option (List Value)) (view : View)
      → most span block ≤ n → most item_span rest ≤ n → Sized n (giving (λ elements. On variables (Walk line slots elements block ∷ rest)) (wanted o view))
  begins_sized variables line slots block rest None view h k = tt
  begins_sized variables line slots block rest (Some elements) view h k = omega arith

  chosen_sized : (m : Evaluates) (variables : Variables) (branches : List Branch) (otherwise : List CStat) (rest : Term) (view : View)
      → most branch_span branches ≤ n → most span otherwise ≤ n → most item_span rest ≤ n → Sized n (chosen m variables branches otherwise rest view)
  chosen_sized m variables [] otherwise rest view h k l = omega (arith, most_block otherwise rest)
  chosen_sized m variables (b ∷ bs) otherwise rest view h k l =
      then_sized (m (out-Branch b).test view) _
      (λ x now. truth_sized (truth_of x) (gives (On variables (first_the (out-Branch b).block rest))) (chosen m variables bs otherwise rest) now
      (omega (arith, most_block (out-Branch b).block rest, branch_within b))
      (chosen_sized m variables bs otherwise rest now (omega arith) k l))

after_sized : (term t : Term) → after_loop term ≡ Some t → most item_span t ≤ most item_span term
after_sized [] t e = absurd (cc)
after_sized (Do s ∷ term) t e = omega (arith, after_sized term t e)
after_sized (Loop line test block ∷ term) t e = let same : term ≡ t = cc in omega (arith, ap (most item_span) same)
after_sized (Walk line slots elements block ∷ term) t e = let same : term ≡ t = cc in omega (arith, ap (most item_span) same)

from_sized : (term t : Term) → from_loop term ≡ Some t → most item_span t ≤ most item_span term
from_sized [] t e = absurd (cc)
from_sized (Do s ∷ term) t e = omega (arith, from_sized term t e)
from_sized (Loop line test block ∷ term) t e = let same : Loop line test block ∷ term ≡ t = cc in omega (arith, ap (most item_span) same)
from_sized (Walk line slots elements block ∷ term) t e = let same : Walk line slots elements block ∷ term ≡ t = cc in omega (arith, ap (most item_span) same)

module _ (m : Evaluates) (variables : Variables) (rest : Term) (view : View) (n : ℕ) (h : most item_span rest ≤ n) where
  tested_sized : (line : ℕ) (test : CExpr) (block : List CStat) → max (size-CExpr test) (most span block) ≤ n → Sized n (tested m variables line test block rest view)
  tested_sized line test block k =
      then_sized n (m test view) _
      (λ x now. truth_sized n (truth_of x) (gives (On variables (first_the block (Loop line test block ∷ rest)))) (gives (On variables rest)) now
      (omega (arith, most_block block (Loop line test block ∷ rest))) h)

  stat_sized : (x : CStat) (o : CStat-F CAlt CStat Branch) → out-CStat x ≡ o → span x ≤ n → Sized n (act_stat m variables o rest view)
  stat_sized x (CStat-F.Declare line slot e) is k = then_sized n (m e view) _ (λ v now. on_sized n rest (wanted (with_slot slot v variables) now) h)
  stat_sized x (CStat-F.Assign line targets values) is k =
      then_sized n (in_turn (map m values) view) _ (λ given now.
      then_sized n (wanted (spread targets given) now) _ (λ each later.
      then_sized n (in_turn (map (spot_of m) targets) later) _ (λ spots new.
      then_sized n (wanted (side_by_side spots each) new) _ (λ stores last. on_sized n rest (through store stores variables last) h))))
  stat_sized x (CStat-F.If line branches otherwise) is k =
      chosen_sized n m variables branches otherwise rest view (omega (arith, at_if x line branches otherwise is)) (omega (arith, at_if x line branches otherwise is)) h
  stat_sized x (CStat-F.While line test block) is k = tested_sized line test block (omega (arith, at_while x line test block is))
  stat_sized x (CStat-F.For line slots e block) is k =
      then_sized n (m e view) _ (λ v now. begins_sized n variables line slots block rest (elements_of v) now (omega (arith, at_for x line slots e block is)) h)
  stat_sized x (CStat-F.Break line) is k = goes_sized n variables (after_loop rest) view (λ t e. omega (arith, after_sized rest t e))
  stat_sized x (CStat-F.Continue line) is k = goes_sized n variables (from_loop rest) view (λ t e. omega (arith, from_sized rest t e))
  stat_sized x (CStat-F.Pass line) is k = h
  stat_sized x (CStat-F.Return line e) is k = returns_sized n (m e view)
  stat_sized x (CStat-F.Exit line e) is k = tt
  stat_sized x (CStat-F.Write line pieces values) is k = tt
  stat_sized x (CStat-F.Select line alternatives) is k = tt
  stat_sized x (CStat-F.Run line elements) is k = tt
  stat_sized x (CStat-F.Start line elements) is k = tt
  stat_sized x (CStat-F.Finish line expressions) is k = tt

  walked_sized : (line : ℕ) (slots : List ℕ) (elements : List Value) (block : List CStat) → most span block ≤ n → Sized n (walked variables line slots elements block rest view)
  walked_sized line slots [] block k = h
  walked_sized line slots (x ∷ xs) block k =
      on_sized n (first_the block (Walk line slots xs block ∷ rest)) (wanted (bound slots x variables) view) (omega (arith, most_block block (Walk line slots xs block ∷ rest)))

first_sized : (m : Evaluates) (variables : Variables) (term : Term) (view : View) → Sized (most item_span term) (act_first m variables term view)
first_sized m variables [] view = tt
first_sized m variables (Do x ∷ rest) view = stat_sized m variables rest view (most item_span (Do x ∷ rest)) (omega arith) x (out-CStat x) refl (omega arith)
first_sized m variables (Loop line test block ∷ rest) view = tested_sized m variables rest view (most item_span (Loop line test block ∷ rest)) (omega arith) line test block (omega arith)
first_sized m variables (Walk line slots elements block ∷ rest) view =
    walked_sized m variables rest view (most item_span (Walk line slots elements block ∷ rest)) (omega arith) line slots elements block (omega arith)

pub act_sized : (m : Evaluates) (variables variables2 : Variables) (term term2 : Term) (view view2 : View) → act_first m variables term view ≡ Gives (On variables2 term2) view2
    → most item_span term2 ≤ most item_span term
act_sized m variables variables2 term term2 view view2 e =
    let P : Answer Did → Type 0 = Sized (most item_span term) in subst P e (first_sized m variables term view)

pub head_within : (term : Term) (i : Item) → first_of term ≡ Some i → item_span i ≤ most item_span term
head_within [] i e = absurd (cc)
head_within (x ∷ rest) i e = let same : x ≡ i = cc in omega (arith, ap item_span same)

pub ruleset falling = (is_declare, is_return, is_while, is_for, is_assign, is_if, head_within)

most_at : {A : Type 0} (f : A → ℕ) (all : List A) (i : ℕ) (x : A) → i < length all → x ≡ get_or all i x → f x ≤ most f all
most_at f [] i x h is = absurd (omega arith)
most_at f (a ∷ all) zero x h is = let same : x ≡ a = is in omega (arith, ap f same)
most_at f (a ∷ all) (suc i) x h is = omega (arith, most_at f all i x (omega arith) is)

pub test_within : (all : List Branch) (i : ℕ) (b : Branch) → i < length all → b ≡ get_or all i b → size-CExpr (out-Branch b).test ≤ most branch_span all
test_within all i b h is = omega (arith, most_at branch_span all i b h is, branch_within b)

pub part_within : (parts : List CExpr) (i : ℕ) (a : CExpr) → i < length parts → a ≡ get_or parts i a → size-CExpr a ≤ most size-CExpr parts
part_within = most_at size-CExpr
