-- Operators, whose operands are evaluated one by one.
use Rattle.std.proofs.Common.{◌≡◌, ◌≢◌, List, [], ◌∷◌, length, get_or, map, ap, sym, subst, ◌∙◌, arith}
use Rattle.chi_value.specs.declared.value.Value.{Value}
use Rattle.chi_core.specs.declared.expression.CExpr.{CExpr}
use Rattle.chi_core.specs.declared.view.View.{View}
use Rattle.chi_core.specs.Answer.{Answer, Does, Gives, Amiss, then_do, in_turn}
use Rattle.chi_core.specs.Evaluation.{Evaluates}
use Rattle.chi_core_frame.specs.declared.stop.Stop.{Stop}
use Rattle.chi_core_frame.specs.Stops.{Stops}
use Rattle.chi_core_frame.proofs.Stopping.{then_stops, then_there, next_there}

pub only_one : {A : Type 0} (parts : List A) (a : A) → length parts ≡ 1 → a ≡ get_or parts 0 a → parts ≡ a ∷ []
only_one [] a n at = absurd (omega arith)
only_one (x ∷ []) a n at = ap (λ x. x ∷ []) (sym at)
only_one (x ∷ y ∷ rest) a n at = absurd (omega arith)

only_two : (parts : List CExpr) (a b : CExpr) → length parts ≡ 2 → a ≡ get_or parts 0 a → b ≡ get_or parts 1 b → parts ≡ a ∷ b ∷ []
only_two [] a b n at next = absurd (omega arith)
only_two (x ∷ []) a b n at next = absurd (omega arith)
only_two (x ∷ y ∷ []) a b n at next = λ i. sym at i ∷ sym next i ∷ []
only_two (x ∷ y ∷ z ∷ rest) a b n at next = absurd (omega arith)

module _ (m : Evaluates) (parts : List CExpr) (view : View) where
  -- one operand
  module _ (a : CExpr) (n : length parts ≡ 1) (at : a ≡ get_or parts 0 a) where
    one_is : in_turn (map m parts) view ≡ then_do (m a view) (λ x now. Gives (x ∷ []) now)
    one_is = ap (λ l. in_turn (map m l) view) (only_one parts a n at)

    pub one_there : in_turn (map m parts) view ≢ Amiss → m a view ≢ Amiss
    one_there h = then_there (m a view) (λ x now. Gives (x ∷ []) now) (λ e. h (one_is ∙ e))

    pub one_stops : (stop : Stop) → Stops stop (m a view) → Stops stop (in_turn (map m parts) view)
    one_stops stop s = let P : Answer (List Value) → Type 0 = Stops stop in subst P (sym one_is) (then_stops stop (m a view) (λ x now. Gives (x ∷ []) now) s)

    pub one_goes : (x : Value) (now : View) → m a view ≡ Gives x now → in_turn (map m parts) view ≡ Gives (x ∷ []) now
    one_goes x now got = one_is ∙ ap (λ it. then_do it (λ x now. Gives (x ∷ []) now)) got

  -- two operands
  module _ (a b : CExpr) (n : length parts ≡ 2) (at : a ≡ get_or parts 0 a) (at_next : b ≡ get_or parts 1 b) where
    second : Value → Does (List Value)
    second x now = then_do (m b now) (λ y last. Gives (x ∷ y ∷ []) last)

    two_is : in_turn (map m parts) view ≡ then_do (m a view) second
    unfolding second
    two_is = ap (λ l. in_turn (map m l) view) (only_two parts a b n at at_next)

    pub two_first : in_turn (map m parts) view ≢ Amiss → m a view ≢ Amiss
    two_first h = then_there (m a view) second (λ e. h (two_is ∙ e))

    pub two_stops : (stop : Stop) → Stops stop (m a view) → Stops stop (in_turn (map m parts) view)
    two_stops stop s = let P : Answer (List Value) → Type 0 = Stops stop in subst P (sym two_is) (then_stops stop (m a view) second s)

    module _ (x : Value) (now : View) (got : m a view ≡ Gives x now) where
      then_second : in_turn (map m parts) view ≡ second x now
      then_second = two_is ∙ ap (λ it. then_do it second) got

      pub two_second : in_turn (map m parts) view ≢ Amiss → m b now ≢ Amiss
      unfolding second
      two_second h = then_there (m b now) (λ y last. Gives (x ∷ y ∷ []) last) (λ e. h (then_second ∙ e))

      pub two_second_stops : (stop : Stop) → Stops stop (m b now) → Stops stop (in_turn (map m parts) view)
      unfolding second
      two_second_stops stop s = let P : Answer (List Value) → Type 0 = Stops stop in subst P (sym then_second) (then_stops stop (m b now) (λ y last. Gives (x ∷ y ∷ []) last) s)

      pub two_goes : (y : Value) (last : View) → m b now ≡ Gives y last → in_turn (map m parts) view ≡ Gives (x ∷ y ∷ []) last
      unfolding second
      two_goes y last found = then_second ∙ ap (λ it. then_do it (λ y last. Gives (x ∷ y ∷ []) last)) found

-- what comes after them
module _ (m : Evaluates) (next : List Value → Does Value) (parts : List CExpr) (view : View) where
  pub all_there : then_do (in_turn (map m parts) view) next ≢ Amiss → in_turn (map m parts) view ≢ Amiss
  all_there h = then_there (in_turn (map m parts) view) next h

  module _ (values : List Value) (now : View) (got : in_turn (map m parts) view ≡ Gives values now) where
    pub all_next : then_do (in_turn (map m parts) view) next ≢ Amiss → next values now ≢ Amiss
    all_next h = next_there (in_turn (map m parts) view) next values now h got

    pub all_ends : (stop : Stop) → Stops stop (next values now) → Stops stop (then_do (in_turn (map m parts) view) next)
    all_ends stop s = let P : Answer Value → Type 0 = Stops stop in subst P (sym (ap (λ it. then_do it next) got)) s

pub ruleset operating = (one_there, one_stops, one_goes, two_first, two_stops, two_second, two_second_stops, two_goes)

pub ruleset gathering = (all_there, all_next, all_ends)
