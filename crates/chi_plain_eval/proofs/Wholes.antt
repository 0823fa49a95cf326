-- Whole variables that are set, each of which was let go of before.
use Rattle.std.proofs.Common.{◌≡◌, ◌≢◌, ℕ, ◌<◌, List, [], ◌∷◌, Option, Some, None, length, get_or, map, ap, sym, subst, refl, ◌∙◌, arith}
use Rattle.chi_value.specs.declared.value.Value.{Value}
use Rattle.chi_core.specs.declared.expression.CExpr.{CExpr}
use Rattle.chi_core.specs.declared.target.CTarget.{CTarget}
use Rattle.chi_core.specs.declared.target.CStep.{CStep}
use Rattle.chi_core.specs.declared.view.View.{View}
use Rattle.chi_core.specs.Answer.{Answer, Does, Gives, Fails, Spent, Amiss, then_do, wanted, giving, in_turn, through}
use Rattle.chi_core.specs.Evaluation.{Evaluates}
use Rattle.chi_core.specs.Spots.{spot_of, store}
use Rattle.chi_core.specs.Terms.{Term, Did, On, on_with, assigned, declared, spread}
use Rattle.chi_core.specs.Variables.{Variables, with_slot, side_by_side}
use Rattle.chi_core_frame.specs.declared.stop.Stop.{Stop}
use Rattle.chi_core_frame.specs.Alike.{AreAlikeBut}
use Rattle.chi_core_frame.specs.Stops.{Stops}
use Rattle.chi_core_frame.proofs.Stopping.{then_there, next_there, giving_stops, wanted_there}
use Rattle.chi_plain_eval.specs.Settings.{set_to}
use Rattle.chi_plain_eval.proofs.Acting.{slot_there}
use Rattle.chi_plain_eval.proofs.Operating.{only_one}

pub given_last : {A B C : Type 0} (it : Answer A) (f : B → C) (next : A → Does B) → then_do it (λ x now. giving f (next x now)) ≡ giving f (then_do it next)
given_last (Gives x now) f next = refl
given_last (Fails kind) f next = refl
given_last Spent f next = refl
given_last Amiss f next = refl

-- a whole variable is set
module _ (m : Evaluates) (slot : ℕ) (e : CExpr) (variables : Variables) (view : View) where
  pub set_first : set_to m slot e variables view ≢ Amiss → m e view ≢ Amiss
  set_first h = then_there (m e view) (λ x. wanted (with_slot slot x variables)) h

  -- the value, where the variable was let go of before
  module _ (v : Value) (now : View) (taken : Variables) (got : m e view ≡ Gives v now) (alike : AreAlikeBut slot variables taken) where
    pub set_slot : set_to m slot e variables view ≢ Amiss → slot < length taken
    set_slot h =
        let within = slot_there slot v variables (wanted_there (with_slot slot v variables) now (next_there (m e view) (λ x. wanted (with_slot slot x variables)) v now h got)) in
        omega (arith, within, alike.0)

    pub set_goes : (new : Variables) → with_slot slot v taken ≡ Some new → set_to m slot e variables view ≡ Gives new now
    set_goes new is = ap (λ a. then_do a (λ x. wanted (with_slot slot x variables))) got ∙ ap (λ o. wanted o now) (sym (alike.1 v) ∙ is)

-- what a declaration and the assignment of one expression to one whole variable are
module _ (m : Evaluates) (variables : Variables) (slot : ℕ) (e : CExpr) (rest : Term) (view : View) where
  declared_is : declared m variables slot e rest view ≡ giving (on_with rest) (set_to m slot e variables view)
  declared_is = given_last (m e view) (on_with rest) (λ x. wanted (with_slot slot x variables))

  pub declare_there : declared m variables slot e rest view ≢ Amiss → set_to m slot e variables view ≢ Amiss
  declare_there h a = h (declared_is ∙ ap (giving (on_with rest)) a)

  pub declare_stops : (stop : Stop) → Stops stop (set_to m slot e variables view) → Stops stop (declared m variables slot e rest view)
  declare_stops stop s = let P : Answer Did → Type 0 = Stops stop in subst P (sym declared_is) (giving_stops stop (set_to m slot e variables view) (on_with rest) s)

  pub declare_goes : (new : Variables) (now : View) → set_to m slot e variables view ≡ Gives new now → declared m variables slot e rest view ≡ Gives (On new rest) now
  declare_goes new now is = declared_is ∙ ap (giving (on_with rest)) is

  -- one expression is assigned to one whole variable
  rest_of : List Value → Does Did
  rest_of given now =
      then_do (wanted (spread (record { slot = slot; steps = [] } ∷ []) given) now) (λ values later.
      then_do (in_turn (map (spot_of m) (record { slot = slot; steps = [] } ∷ [])) later) (λ spots new.
      then_do (wanted (side_by_side spots values) new) (λ stores last.
      giving (on_with rest) (through store stores variables last))))

  last_store : (o : Option Variables) (last : View) → giving (on_with rest) (then_do (wanted o last) (through store [])) ≡ giving (on_with rest) (wanted o last)
  last_store None last = refl
  last_store (Some new) last = refl

  one_assigned : assigned m variables (record { slot = slot; steps = [] } ∷ []) (e ∷ []) rest view ≡ giving (on_with rest) (set_to m slot e variables view)
  unfolding rest_of
  one_assigned = by_value (m e view)
    where
      by_value : (it : Answer Value) → then_do (then_do it (λ x now. Gives (x ∷ []) now)) rest_of ≡ giving (on_with rest) (then_do it (λ x. wanted (with_slot slot x variables)))
      by_value (Gives x now) = last_store (with_slot slot x variables) now
      by_value (Fails kind) = refl
      by_value Spent = refl
      by_value Amiss = refl

  module _ (targets : List CTarget) (es : List CExpr) (one : targets ≡ record { slot = slot; steps = [] } ∷ []) (alone : es ≡ e ∷ []) where
    assigned_is : assigned m variables targets es rest view ≡ giving (on_with rest) (set_to m slot e variables view)
    assigned_is = (λ i. assigned m variables (one i) (alone i) rest view) ∙ one_assigned

    pub assign_there : assigned m variables targets es rest view ≢ Amiss → set_to m slot e variables view ≢ Amiss
    assign_there h a = h (assigned_is ∙ ap (giving (on_with rest)) a)

    pub assign_stops : (stop : Stop) → Stops stop (set_to m slot e variables view) → Stops stop (assigned m variables targets es rest view)
    assign_stops stop s = let P : Answer Did → Type 0 = Stops stop in subst P (sym assigned_is) (giving_stops stop (set_to m slot e variables view) (on_with rest) s)

    pub assign_goes : (new : Variables) (now : View) → set_to m slot e variables view ≡ Gives new now → assigned m variables targets es rest view ≡ Gives (On new rest) now
    assign_goes new now is = assigned_is ∙ ap (giving (on_with rest)) is

pub one_whole : (targets : List CTarget) (t : CTarget) → length targets ≡ 1 → t ≡ get_or targets 0 t → length t.steps ≡ 0 → targets ≡ record { slot = t.slot; steps = [] } ∷ []
one_whole targets t n at none = only_one targets t n at ∙ ap (λ s. record { slot = t.slot; steps = s } ∷ []) (nothing t.steps none)
  where
    nothing : (steps : List CStep) → length steps ≡ 0 → steps ≡ []
    nothing [] n = refl
    nothing (s ∷ steps) n = absurd (omega arith)

pub one_value : (es : List CExpr) (e : CExpr) → length es ≡ 1 → e ≡ get_or es 0 e → es ≡ e ∷ []
one_value es e n at = only_one es e n at

pub ruleset declaring = (declare_there, declare_stops, declare_goes)

pub ruleset assigning = (assign_there, assign_stops, assign_goes)

pub ruleset wholes = (one_whole, one_value)

pub ruleset setting = (set_first, set_slot, set_goes)
