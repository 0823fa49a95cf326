-- Spots of targets, as they are gathered.
use Rattle.std.proofs.Common.{◌≡◌, ◌≢◌, ℕ, ◌+◌, ◌<◌, List, [], ◌∷◌, ◌++◌, length, map, drop, get_or, ap, sym, ◌∙◌, subst}
use Rattle.std.proofs.lemmas.List.{map-append, drop_more}
use Rattle.chi_value.specs.declared.value.Value.{Value}
use Rattle.chi_ops.specs.declared.path.Path.{Path}
use Rattle.chi_ops.specs.Paths.{step_of, steps_of}
use Rattle.chi_ops.specs.Store.{Step, by}
use Rattle.chi_core.specs.declared.expression.CExpr.{CExpr}
use Rattle.chi_core.specs.declared.target.CStep.{CStep}
use Rattle.chi_core.specs.declared.target.CStep.TheVariants as step
use Rattle.chi_core.specs.declared.target.CTarget.{CTarget}
use Rattle.chi_core.specs.declared.view.View.{View}
use Rattle.chi_core.specs.Answer.{Answer, Does, Gives, Amiss, then_do, giving, in_turn, gathered}
use Rattle.chi_core.specs.Evaluation.{Evaluates}
use Rattle.chi_core.specs.Spots.{step_at, spot_of}
use Rattle.chi_core_frame.specs.declared.spots.Spot.{Spot}
use Rattle.chi_core_frame.specs.declared.stop.Stop.{Stop}
use Rattle.chi_core_frame.specs.Spots.{spot_in}
use Rattle.chi_core_frame.specs.Stops.{Stops}
use Rattle.chi_core_frame.proofs.Stopping.{then_stops, then_there, giving_stops}

module _ (m : Evaluates) (x : CStep) (view : View) where
  pub index_there : (e : CExpr) → x ≡ step.Index e → step_at m x view ≢ Amiss → m e view ≢ Amiss
  index_there e is h a = h (ap (λ x. step_at m x view) is ∙ ap (giving by) a)

  pub index_is : (e : CExpr) (v : Value) (now : View) → x ≡ step.Index e → m e view ≡ Gives v now → step_at m x view ≡ Gives (by v) now
  index_is e v now is got = ap (λ x. step_at m x view) is ∙ ap (giving by) got

  pub index_stops : (e : CExpr) (stop : Stop) → x ≡ step.Index e → Stops stop (m e view) → Stops stop (step_at m x view)
  index_stops e stop is s =
      let P : Answer Step → Type 0 = Stops stop in
      subst P (sym (ap (λ x. step_at m x view) is)) (giving_stops stop (m e view) by s)

-- one more of what is gathered in turn
module _ {A X : Type 0} (does : X → Does A) (all : List X) (i : ℕ) (x : X) (before : List A) (view : View) (h : i < length all) (is : x ≡ get_or all i x) where
  turn : gathered before (map does (drop i all)) view ≡ then_do (does x view) (λ a. gathered (before ++ a ∷ []) (map does (drop (i + 1) all)))
  turn = ap (λ xs. gathered before (map does xs) view) (drop_more all i x h) ∙ ap (λ y. gathered before (map does (y ∷ drop (i + 1) all)) view) (sym is)

  pub turn_there : gathered before (map does (drop i all)) view ≢ Amiss → does x view ≢ Amiss
  turn_there there = then_there _ (λ a. gathered (before ++ a ∷ []) (map does (drop (i + 1) all))) (λ a. there (turn ∙ a))

  pub turn_goes : (a : A) (now : View) → does x view ≡ Gives a now → gathered before (map does (drop i all)) view ≡ gathered (before ++ a ∷ []) (map does (drop (i + 1) all)) now
  turn_goes a now got = turn ∙ ap (λ it. then_do it (λ a. gathered (before ++ a ∷ []) (map does (drop (i + 1) all)))) got

  pub turn_stops : (stop : Stop) → Stops stop (does x view) → Stops stop (gathered before (map does (drop i all)) view)
  turn_stops stop s =
      let P : Answer (List A) → Type 0 = Stops stop in
      subst P (sym turn) (then_stops stop _ (λ a. gathered (before ++ a ∷ []) (map does (drop (i + 1) all))) s)

-- a path with one more step, and spots with one more
pub steps_more : (path : List Path) (p : Path) → steps_of (path ++ p ∷ []) ≡ steps_of path ++ step_of p ∷ []
steps_more path p = map-append step_of path (p ∷ [])

pub spots_more : (before : List Spot) (s : Spot) → map spot_in (before ++ s ∷ []) ≡ map spot_in before ++ spot_in s ∷ []
spots_more before s = map-append spot_in before (s ∷ [])

-- the spot of a target
module _ (m : Evaluates) (target : CTarget) (view : View) where
  pub spot_there : spot_of m target view ≢ Amiss → in_turn (map (step_at m) target.steps) view ≢ Amiss
  spot_there h a = h (ap (giving (λ path. record { slot = target.slot; path = path })) a)

pub ruleset steps = (index_there, index_is, index_stops)

pub ruleset paths = (steps_more)

pub ruleset places = (spots_more, spot_there)
