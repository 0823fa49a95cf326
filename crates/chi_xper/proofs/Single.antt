-- Statements without blocks, and calls of models.
use Rattle.std.proofs.Common.{◌≡◌, ◌≢◌, ℕ, Bool, true, List, [], ◌∷◌, Option, Some, None, ap, sym, refl, subst, ◌∙◌, map}
use Rattle.chi_value.specs.declared.format.Piece.{Piece}
use Rattle.chi_value.specs.declared.value.Value.{Value}
use Rattle.chi_core.specs.declared.expression.CExpr.{CExpr}
use Rattle.chi_core.specs.declared.program.Core.{Core}
use Rattle.chi_core.specs.declared.statement.Branch.{Branch}
use Rattle.chi_core.specs.declared.statement.CAlt.{CAlt}
use Rattle.chi_core.specs.declared.statement.CStat.{CStat, CStat-F, out-CStat}
use Rattle.chi_core.specs.declared.statement.CStat.TheVariants as s
use Rattle.chi_core.specs.declared.target.CTarget.{CTarget}
use Rattle.chi_core.specs.declared.view.View.{View}
use Rattle.chi_core.specs.Answer.{Answer, Gives, Fails, Spent, Amiss, Does, then_do, giving, in_turn}
use Rattle.chi_core.specs.Evaluation.{Evaluates}
use Rattle.chi_core.specs.Performing.{written}
use Rattle.chi_core.specs.Spots.{Spot, spot_of}
use Rattle.chi_core.specs.Terms as terms
use Rattle.chi_core.specs.Terms.{act_stat}
use Rattle.chi_core.specs.Variables.{Variables}
use Rattle.chi_plain_eval.specs.Terms.{came_to}
use Rattle.chi_core_frame.specs.declared.stop.Stop.{Stop}
use Rattle.chi_core_frame.specs.Stops.{Stops}
use Rattle.chi_core_frame.proofs.Stopping.{then_stops, giving_stops, next_there}
use Rattle.chi_xper.specs.Deeds.{is_alone}
use Rattle.chi_xper.specs.Items.{Term, Did, On, Calls, quietly, lined, goes_on, after_loop, from_loop, done_line, calling}

-- what is done where nothing else is left

-- where it isn't amiss, it goes on, with nothing left
lined_on : (rest : Term) (returned : Option Value) (variables : Variables) (term : terms.Term) (view : View) → lined rest (came_to returned variables term) view ≢ Amiss
    → (returned ≡ None) × (term ≡ [])
lined_on rest None variables [] view h = (refl, refl)
lined_on rest None variables (i ∷ term) view h = absurd (h refl)
lined_on rest (Some v) variables term view h = absurd (h refl)

module _ (it : Answer terms.Did) (rest : Term) (returned : Option Value) (variables : Variables) (term : terms.Term) (view : View) (h : then_do it (lined rest) ≢ Amiss)
    (is : it ≡ Gives (came_to returned variables term) view) where
  alone : (returned ≡ None) × (term ≡ [])
  alone = lined_on rest returned variables term view (next_there it (lined rest) (came_to returned variables term) view h is)

  pub never_returns : (v : Value) → returned ≡ Some v → ⊥
  never_returns v e = let none = alone.0 in absurd (cc)

  pub nothing_left : term ≡ []
  nothing_left = alone.1

  pub goes_alone : it ≡ Gives (terms.On variables []) view
  goes_alone = is ∙ (λ k. Gives (came_to (alone.0 k) variables (alone.1 k)) view)

pub ruleset sharing = (never_returns, nothing_left, goes_alone)

-- a statement without blocks, with what is left to do after it
module _ (core : Core) (m : Evaluates) (variables : Variables) (x : CStat) (rest : Term) (view : View) where
  abbrev does : Answer Did
  does = done_line core m variables (out-CStat x) rest view

  -- as where nothing else is left
  abbrev acts : Answer terms.Did
  acts = act_stat m variables (out-CStat x) [] view

  by_layer : (layer : CStat-F CAlt CStat Branch) → is_alone layer ≡ true → done_line core m variables layer rest view ≡ then_do (act_stat m variables layer [] view) (lined rest)
  by_layer (CStat-F.Declare line slot e) is = refl
  by_layer (CStat-F.Assign line targets values) is = refl
  by_layer (CStat-F.If line branches otherwise) is = refl
  by_layer (CStat-F.While line test block) is = refl
  by_layer (CStat-F.For line slots e block) is = refl
  by_layer (CStat-F.Break line) is = absurd (cc)
  by_layer (CStat-F.Continue line) is = absurd (cc)
  by_layer (CStat-F.Pass line) is = refl
  by_layer (CStat-F.Return line e) is = refl
  by_layer (CStat-F.Exit line e) is = refl
  by_layer (CStat-F.Write line pieces values) is = absurd (cc)
  by_layer (CStat-F.Select line alternatives) is = refl
  by_layer (CStat-F.Run line elements) is = refl
  by_layer (CStat-F.Start line elements) is = refl
  by_layer (CStat-F.Finish line expressions) is = refl

  alone_is : is_alone (out-CStat x) ≡ true → does ≡ then_do acts (lined rest)
  alone_is is = by_layer (out-CStat x) is

  lined_there : (it : Answer terms.Did) → then_do it (lined rest) ≢ Amiss → then_do it (lined []) ≢ Amiss
  lined_there (Gives (terms.On after []) now) h e = absurd (cc)
  lined_there (Gives (terms.On after (i ∷ term)) now) h e = h refl
  lined_there (Gives (terms.Returns v) now) h e = h refl
  lined_there (Fails kind) h e = absurd (cc)
  lined_there Spent h e = absurd (cc)
  lined_there Amiss h e = h refl

  pub alone_there : is_alone (out-CStat x) ≡ true → does ≢ Amiss → then_do acts (lined []) ≢ Amiss
  alone_there is h = lined_there acts (λ e. h (alone_is is ∙ e))

  pub alone_goes : (after : Variables) (now : View) → is_alone (out-CStat x) ≡ true → acts ≡ Gives (terms.On after []) now → does ≡ Gives (quietly after rest) now
  alone_goes after now is e = alone_is is ∙ ap (λ a. then_do a (lined rest)) e

  pub alone_stops : (stop : Stop) → is_alone (out-CStat x) ≡ true → Stops stop acts → Stops stop does
  alone_stops stop is e = let P : Answer Did → Type 0 = Stops stop in subst P (sym (alone_is is)) (then_stops stop acts (lined rest) e)

  at_layer : (layer : CStat-F CAlt CStat Branch) → out-CStat x ≡ layer → does ≡ done_line core m variables layer rest view
  at_layer layer e = ap (λ l. done_line core m variables l rest view) e

  break_is : (l : ℕ) → x ≡ s.Break l → does ≡ goes_on variables (after_loop rest) view
  break_is l is = at_layer (CStat-F.Break l) (ap out-CStat is ∙ s.outs-Break l)

  pub break_there : (l : ℕ) → x ≡ s.Break l → does ≢ Amiss → after_loop rest ≢ None
  break_there l is h none = h (break_is l is ∙ ap (λ o. goes_on variables o view) none)

  pub break_goes : (l : ℕ) (after : Term) → x ≡ s.Break l → after_loop rest ≡ Some after → does ≡ Gives (quietly variables after) view
  break_goes l after is e = break_is l is ∙ ap (λ o. goes_on variables o view) e

  continue_is : (l : ℕ) → x ≡ s.Continue l → does ≡ goes_on variables (from_loop rest) view
  continue_is l is = at_layer (CStat-F.Continue l) (ap out-CStat is ∙ s.outs-Continue l)

  pub continue_there : (l : ℕ) → x ≡ s.Continue l → does ≢ Amiss → from_loop rest ≢ None
  continue_there l is h none = h (continue_is l is ∙ ap (λ o. goes_on variables o view) none)

  pub continue_goes : (l : ℕ) (after : Term) → x ≡ s.Continue l → from_loop rest ≡ Some after → does ≡ Gives (quietly variables after) view
  continue_goes l after is e = continue_is l is ∙ ap (λ o. goes_on variables o view) e

  pub write_is : (l : ℕ) (pieces ps : List Piece) (values es : List CExpr) → x ≡ s.Write l pieces values → ps ≡ pieces → es ≡ values
      → does ≡ giving (On variables rest) (written core m ps es view)
  write_is l pieces ps values es is same next =
      at_layer (CStat-F.Write l pieces values) (ap out-CStat is ∙ s.outs-Write l pieces values)
      ∙ (λ k. giving (On variables rest) (written core m (sym same k) (sym next k) view))

  pub write_there : (l : ℕ) (pieces ps : List Piece) (values es : List CExpr) → x ≡ s.Write l pieces values → ps ≡ pieces → es ≡ values → does ≢ Amiss → written core m ps es view ≢ Amiss
  write_there l pieces ps values es is same next h e = h (write_is l pieces ps values es is same next ∙ ap (giving (On variables rest)) e)

  pub write_goes : (l : ℕ) (pieces ps : List Piece) (values es : List CExpr) (text : List ℕ) (now : View) → x ≡ s.Write l pieces values → ps ≡ pieces → es ≡ values
      → written core m ps es view ≡ Gives text now → does ≡ Gives (On variables rest text) now
  write_goes l pieces ps values es text now is same next e = write_is l pieces ps values es is same next ∙ ap (giving (On variables rest)) e

  pub write_stops : (l : ℕ) (pieces ps : List Piece) (values es : List CExpr) (stop : Stop) → x ≡ s.Write l pieces values → ps ≡ pieces → es ≡ values
      → Stops stop (written core m ps es view) → Stops stop does
  write_stops l pieces ps values es stop is same next e =
      let P : Answer Did → Type 0 = Stops stop in
      subst P (sym (write_is l pieces ps values es is same next)) (giving_stops stop (written core m ps es view) (On variables rest) e)

pub ruleset lines = (alone_there, alone_goes, alone_stops, break_there, break_goes, continue_there, continue_goes, write_there, write_goes, write_stops)

-- the call of a model
module _ (m : Evaluates) (variables : Variables) (target : CTarget) (model : ℕ) (arguments : List CExpr) (widen : Bool) (rest : Term) (view : View) where
  abbrev calls : Answer Did
  calls = calling m variables target model arguments widen rest view

  made : List Value → Spot → Did
  made values spot = Calls (record { model = model; arguments = values; spot = spot; widen = widen }) variables rest

  at_spot : List Value → Does Did
  at_spot values now = giving (made values) (spot_of m target now)

  calls_is : calls ≡ then_do (in_turn (map m arguments) view) at_spot
  unfolding made at_spot
  calls_is = refl

  pub arguments_there : calls ≢ Amiss → in_turn (map m arguments) view ≢ Amiss
  arguments_there h e = h (calls_is ∙ ap (λ a. then_do a at_spot) e)

  module _ (values : List Value) (now : View) (given : in_turn (map m arguments) view ≡ Gives values now) where
    then_spot : calls ≡ giving (made values) (spot_of m target now)
    unfolding at_spot
    then_spot = calls_is ∙ ap (λ a. then_do a at_spot) given

    pub spot_there : calls ≢ Amiss → spot_of m target now ≢ Amiss
    spot_there h e = h (then_spot ∙ ap (giving (made values)) e)

    pub call_goes : (spot : Spot) (later : View) → spot_of m target now ≡ Gives spot later
        → calls ≡ Gives (Calls (record { model = model; arguments = values; spot = spot; widen = widen }) variables rest) later
    unfolding made
    call_goes spot later e = then_spot ∙ ap (giving (made values)) e

    pub spot_stops : (stop : Stop) → Stops stop (spot_of m target now) → Stops stop calls
    spot_stops stop e = let P : Answer Did → Type 0 = Stops stop in subst P (sym then_spot) (giving_stops stop (spot_of m target now) (made values) e)

  pub arguments_stop : (stop : Stop) → Stops stop (in_turn (map m arguments) view) → Stops stop calls
  arguments_stop stop e = let P : Answer Did → Type 0 = Stops stop in subst P (sym calls_is) (then_stops stop (in_turn (map m arguments) view) at_spot e)

pub ruleset calls_models = (arguments_there, spot_there, call_goes, spot_stops, arguments_stop)
