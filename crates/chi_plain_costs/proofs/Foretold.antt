-- What is evaluated of an item tells whether it costs too much.
use Rattle.std.proofs.Common.{◌≡◌, ◌≢◌, List, [], ◌∷◌, ◌++◌, Option, Some, None, Bool, true, false, map, sym, ap, subst, refl}
use Rattle.chi_value.specs.declared.value.Value.{Value}
use Rattle.chi_core.specs.declared.expression.CExpr.{CExpr}
use Rattle.chi_core.specs.declared.statement.Branch.{Branch, out-Branch}
use Rattle.chi_core.specs.declared.statement.CAlt.{CAlt}
use Rattle.chi_core.specs.declared.statement.CStat.{CStat, CStat-F, out-CStat}
use Rattle.chi_core.specs.declared.target.CTarget.{CTarget}
use Rattle.chi_core.specs.declared.view.View.{View}
use Rattle.chi_core.specs.Answer.{Answer, Does, Gives, Fails, Spent, Amiss, then_do, gives, wanted, giving, gathered, in_turn, through}
use Rattle.chi_core.specs.Config.{Instance}
use Rattle.chi_core.specs.Evaluation.{Evaluates, on_truth}
use Rattle.chi_core.specs.Reading.{truth_of, elements_of}
use Rattle.chi_core.specs.Spots.{Spot, spot_of, store}
use Rattle.chi_core.specs.Terms.{Item, Do, Loop, Walk, Term, Did, On, Returns, on_with, first_the, spread, chosen, assigned, act_stat, act}
use Rattle.chi_core.specs.Variables.{Variables, side_by_side}
use Rattle.chi_core_frame.specs.Terms.{first_of}
use Rattle.chi_core_frame.specs.declared.stop.Stop.{Stop}
use Rattle.chi_core_frame.specs.declared.stop.Stop.TheVariants as stop
use Rattle.chi_core_frame.specs.Stops.{Stops}
use Rattle.chi_plain_eval.specs.Terms.{act_first}
use Rattle.chi_plain_open.specs.Acted.{acted, went_on}
use Rattle.chi_plain_costs.specs.Tried.{Tries, tried_target, tried_assignment, tried_tests, tried_statement, tried_item}
use Rattle.chi_plain_costs.proofs.Unspent.{IsCheap, cheap_wanted, cheap_giving, cheap_stores, not_spent}

-- what was tried tells it of the whole, where that isn't amiss
abbrev Tells : {A : Type 0} → Answer (Unit {0}) → Answer A → Type 0
Tells (Gives x view) whole = whole ≢ Spent
Tells (Fails kind) whole = whole ≡ Fails kind
Tells Spent whole = whole ≡ Spent
Tells Amiss whole = ⊥

abbrev Foretells : {A : Type 0} → Answer (Unit {0}) → Answer A → Type 0
Foretells tried whole = whole ≢ Amiss → Tells tried whole

-- something is evaluated, and what comes after it costs nothing
one : {X A : Type 0} (it : Answer X) (next : X → Does A) → ((x : X) (now : View) → IsCheap (next x now)) → Foretells (giving (λ x. tt) it) (then_do it next)
one (Gives x now) next cheap well = not_spent (next x now) (cheap x now)
one (Fails kind) next cheap well = refl
one Spent next cheap well = refl
one Amiss next cheap well = absurd (well refl)

-- something is evaluated, and then more
more : {X A : Type 0} (it : Answer X) (tried : X → Tries) (next : X → Does A) → ((x : X) (now : View) → Foretells (tried x now) (next x now))
    → Foretells (then_do it tried) (then_do it next)
more (Gives x now) tried next each well = each x now well
more (Fails kind) tried next each well = refl
more Spent tried next each well = refl
more Amiss tried next each well = absurd (well refl)

-- and after the whole something comes that costs nothing
after_tells : {A B : Type 0} (tried : Answer (Unit {0})) (whole : Answer A) (next : A → Does B) → ((x : A) (now : View) → IsCheap (next x now))
    → whole ≢ Amiss → Tells tried whole → Tells tried (then_do whole next)
after_tells (Gives x view) (Gives y now) next cheap well t = not_spent (next y now) (cheap y now)
after_tells (Gives x view) (Fails kind) next cheap well t = λ e. absurd (cc)
after_tells (Gives x view) Spent next cheap well t = absurd (t refl)
after_tells (Gives x view) Amiss next cheap well t = absurd (well refl)
after_tells (Fails kind) whole next cheap well t = ap (λ w. then_do w next) t
after_tells Spent whole next cheap well t = ap (λ w. then_do w next) t
after_tells Amiss whole next cheap well t = absurd t

after : {A B : Type 0} (tried : Answer (Unit {0})) (whole : Answer A) (next : A → Does B) → ((x : A) (now : View) → IsCheap (next x now))
    → Foretells tried whole → Foretells tried (then_do whole next)
after tried whole next cheap tells well =
    let there : whole ≢ Amiss = λ e. well (ap (λ w. then_do w next) e) in
    after_tells tried whole next cheap there (tells there)

module _ (m : Evaluates) (variables : Variables) where
  -- the tests of branches
  tests_tell : (branches : List Branch) (otherwise : List CStat) (rest : Term) (view : View)
      → Foretells (tried_tests m branches view) (chosen m variables branches otherwise rest view)
  tests_tell [] otherwise rest view = λ well e. absurd (cc)
  tests_tell (b ∷ bs) otherwise rest view =
      more (m (out-Branch b).test view) (λ x. on_truth (truth_of x) (gives tt) (tried_tests m bs))
      (λ x. on_truth (truth_of x) (gives (On variables (first_the (out-Branch b).block rest))) (chosen m variables bs otherwise rest))
      (λ x now. by_truth (λ later. tests_tell bs otherwise rest later) (truth_of x) now)
    where
      by_truth : ((later : View) → Foretells (tried_tests m bs later) (chosen m variables bs otherwise rest later)) → (t : Option Bool) (now : View)
          → Foretells (on_truth t (gives tt) (tried_tests m bs) now) (on_truth t (gives (On variables (first_the (out-Branch b).block rest))) (chosen m variables bs otherwise rest) now)
      by_truth again (Some true) now = λ well e. absurd (cc)
      by_truth again (Some false) now = again now
      by_truth again None now = λ well. absurd (well refl)

  -- spots are gathered as targets are tried
  targets_gathered : (found : List Spot) (targets : List CTarget) (view : View)
      → through (tried_target m) targets tt view ≡ giving (λ spots. tt) (gathered found (map (spot_of m) targets) view)
  targets_gathered found [] view = refl
  targets_gathered found (t ∷ ts) view = by_spot (λ spot now. targets_gathered (found ++ spot ∷ []) ts now) (spot_of m t view)
    where
      by_spot : ((spot : Spot) (now : View) → through (tried_target m) ts tt now ≡ giving (λ spots. tt) (gathered (found ++ spot ∷ []) (map (spot_of m) ts) now))
          → (it : Answer Spot) → then_do (giving (λ spot. tt) it) (through (tried_target m) ts)
          ≡ giving (λ spots. tt) (then_do it (λ spot. gathered (found ++ spot ∷ []) (map (spot_of m) ts)))
      by_spot again (Gives spot now) = again spot now
      by_spot again (Fails kind) = refl
      by_spot again Spent = refl
      by_spot again Amiss = refl

  -- an assignment
  module _ (targets : List CTarget) (rest : Term) where
    stored : List Value → List Spot → Does Did
    stored values spots new = then_do (wanted (side_by_side spots values) new) (λ stores last. giving (on_with rest) (through store stores variables last))

    placed : List Value → Does Did
    placed values later = then_do (in_turn (map (spot_of m) targets) later) (stored values)

    cheap_stored : (values : List Value) (spots : List Spot) (new : View) → IsCheap (stored values spots new)
    unfolding stored
    cheap_stored values spots new = by_stores (side_by_side spots values)
      where
        by_stores : (o : Option (List (Spot × Value))) → IsCheap (then_do (wanted o new) (λ stores last. giving (on_with rest) (through store stores variables last)))
        by_stores None = tt
        by_stores (Some stores) = cheap_giving (through store stores variables new) (on_with rest) (cheap_stores stores variables new)

    targets_tell : (values : List Value) (later : View) → Foretells (through (tried_target m) targets tt later) (placed values later)
    unfolding placed
    targets_tell values later =
        subst (λ (t : Answer (Unit {0})). Foretells t (then_do (in_turn (map (spot_of m) targets) later) (stored values)))
        (sym (targets_gathered [] targets later))
        (one (in_turn (map (spot_of m) targets) later) (stored values) (λ spots new. cheap_stored values spots new))

    values_tell : (given : List Value) (now : View) → Foretells (through (tried_target m) targets tt now) (then_do (wanted (spread targets given) now) placed)
    values_tell given now = by_parts (spread targets given)
      where
        by_parts : (o : Option (List Value)) → Foretells (through (tried_target m) targets tt now) (then_do (wanted o now) placed)
        by_parts None = λ well. absurd (well refl)
        by_parts (Some values) = targets_tell values now

    assignment_tells : (expressions : List CExpr) (view : View) → Foretells (tried_assignment m targets expressions view) (assigned m variables targets expressions rest view)
    unfolding placed stored
    assignment_tells expressions view =
        more (in_turn (map m expressions) view) (λ values. through (tried_target m) targets tt)
        (λ given now. then_do (wanted (spread targets given) now) placed) values_tell

  statement_tells : (layer : CStat-F CAlt CStat Branch) (rest : Term) (view : View) → Foretells (tried_statement m layer view) (act_stat m variables layer rest view)
  statement_tells (CStat-F.Declare line slot e) rest view = one (m e view) _ (λ x now. cheap_giving _ (on_with rest) (cheap_wanted _ now))
  statement_tells (CStat-F.Assign line targets values) rest view = assignment_tells targets rest values view
  statement_tells (CStat-F.If line branches otherwise) rest view = tests_tell branches otherwise rest view
  statement_tells (CStat-F.While line test block) rest view = one (m test view) _ (λ x now. by_truth (truth_of x) now)
    where
      by_truth : (t : Option Bool) (now : View) → IsCheap (on_truth t (gives (On variables (first_the block (Loop line test block ∷ rest)))) (gives (On variables rest)) now)
      by_truth (Some true) now = tt
      by_truth (Some false) now = tt
      by_truth None now = tt
  statement_tells (CStat-F.For line slots e block) rest view = one (m e view) _ (λ x now. cheap_giving _ _ (cheap_wanted (elements_of x) now))
  statement_tells (CStat-F.Return line e) rest view = one (m e view) _ (λ x now. tt)
  statement_tells (CStat-F.Break line) rest view = λ well. not_spent _ (cheap_giving _ (On variables) (cheap_wanted _ view))
  statement_tells (CStat-F.Continue line) rest view = λ well. not_spent _ (cheap_giving _ (On variables) (cheap_wanted _ view))
  statement_tells (CStat-F.Pass line) rest view = λ well e. absurd (cc)
  statement_tells (CStat-F.Exit line e) rest view = λ well. absurd (well refl)
  statement_tells (CStat-F.Write line pieces values) rest view = λ well. absurd (well refl)
  statement_tells (CStat-F.Select line alternatives) rest view = λ well. absurd (well refl)
  statement_tells (CStat-F.Run line elements) rest view = λ well. absurd (well refl)
  statement_tells (CStat-F.Start line elements) rest view = λ well. absurd (well refl)
  statement_tells (CStat-F.Finish line expressions) rest view = λ well. absurd (well refl)

  item_tells : (item : Item) (rest : Term) (view : View) → Foretells (tried_item m item view) (act m variables item rest view)
  item_tells (Do s) rest view = statement_tells (out-CStat s) rest view
  item_tells (Loop line test block) rest view = one (m test view) _ (λ x now. by_truth (truth_of x) now)
    where
      by_truth : (t : Option Bool) (now : View) → IsCheap (on_truth t (gives (On variables (first_the block (Loop line test block ∷ rest)))) (gives (On variables rest)) now)
      by_truth (Some true) now = tt
      by_truth (Some false) now = tt
      by_truth None now = tt
  item_tells (Walk line slots [] block) rest view = λ well e. absurd (cc)
  item_tells (Walk line slots (x ∷ xs) block) rest view = λ well. not_spent _ (cheap_giving _ _ (cheap_wanted _ view))

-- the first item of an instance

module _ (value_in : Variables → Evaluates) (i : Instance) (item : Item) (view : View) where
  cheap_went : (did : Did) (now : View) → IsCheap (went_on i did now)
  cheap_went (On variables term) now = tt
  cheap_went (Returns v) now = tt

  term_tells : (term : Term) → first_of term ≡ Some item
      → Foretells (tried_item (value_in i.variables) item view) (then_do (act_first (value_in i.variables) i.variables term view) (went_on i))
  term_tells [] e = absurd (cc)
  term_tells (x ∷ rest) e =
      let same : x ≡ item = cc in
      subst (λ (y : Item). Foretells (tried_item (value_in i.variables) y view) (then_do (act_first (value_in i.variables) i.variables (x ∷ rest) view) (went_on i))) same
      (after (tried_item (value_in i.variables) x view) (act (value_in i.variables) i.variables x rest view) (went_on i) cheap_went
      (item_tells (value_in i.variables) i.variables x rest view))

  first_tells : first_of i.term ≡ Some item → Foretells (tried_item (value_in i.variables) item view) (acted value_in i view)
  first_tells = term_tells i.term

  pub tried_well : first_of i.term ≡ Some item → acted value_in i view ≢ Amiss → tried_item (value_in i.variables) item view ≢ Amiss
  tried_well e well amiss =
      subst (λ (t : Answer (Unit {0})). Tells t (acted value_in i view)) amiss (first_tells e well)

  pub tried_goes : (now : View) → first_of i.term ≡ Some item → acted value_in i view ≢ Amiss → tried_item (value_in i.variables) item view ≡ Gives tt now → acted value_in i view ≢ Spent
  tried_goes now e well goes =
      subst (λ (t : Answer (Unit {0})). Tells t (acted value_in i view)) goes (first_tells e well)

  pub tried_stops : (why : Stop) → first_of i.term ≡ Some item → acted value_in i view ≢ Amiss → Stops why (tried_item (value_in i.variables) item view) → Stops why (acted value_in i view)
  tried_stops (stop.Fault kind) e well s = subst (λ (t : Answer (Unit {0})). Tells t (acted value_in i view)) s (first_tells e well)
  tried_stops stop.Spent e well s = subst (λ (t : Answer (Unit {0})). Tells t (acted value_in i view)) s (first_tells e well)
  tried_stops stop.NoMemory e well s = tt

pub ruleset foretelling = (tried_well, tried_goes, tried_stops)
