-- Values that are evaluated so many times.
use Rattle.std.proofs.Common.{◌≡◌, ◌≢◌, ℕ, suc, ◌+◌, ◌-◌, ◌<◌, ◌≤◌, Bool, true, false, pos, negsuc, nat_le, List, [], ◌∷◌, ◌++◌, Some, None, ap, sym, subst, refl, ◌∙◌, arith, rules}
use Rattle.std.specs.Prelude.{if◌then◌else◌}
use Rattle.chi_value.specs.declared.value.TheConstants.{MOST_ELEMENTS}
use Rattle.chi_value.specs.declared.value.Value.{Value, Value-F, out-Value}
use Rattle.chi_value.specs.declared.value.Value.TheVariants as value
use Rattle.chi_core.specs.declared.expression.CExpr.{CExpr}
use Rattle.chi_core.specs.declared.fault.FaultKind.TheVariants.{TooLarge}
use Rattle.chi_core.specs.declared.view.View.{View}
use Rattle.chi_core.specs.Answer.{Answer, Does, Gives, Fails, Amiss, then_do, giving, gathered_times, times}
use Rattle.chi_core.specs.Evaluation.{Evaluates, repeated}
use Rattle.chi_core.specs.Reading.{int_of, int_in}
use Rattle.chi_core_frame.specs.declared.stop.Stop.{Stop}
use Rattle.chi_core_frame.specs.Stops.{Stops}
use Rattle.chi_plain_eval.specs.Kinds.{repeated_each}
use Rattle.chi_core_frame.proofs.Stopping.{then_stops, then_there, giving_stops}

-- one more
module _ (each : Does Value) (values : List Value) (n k : ℕ) (view : View) (h : k < n) where
  one : gathered_times values (n - k) each view ≡ then_do (each view) (λ x. gathered_times (values ++ x ∷ []) (n - (k + 1)) each)
  one = let m : n - k ≡ suc (n - (k + 1)) = omega arith in ap (λ j. gathered_times values j each view) m

  pub one_there : gathered_times values (n - k) each view ≢ Amiss → each view ≢ Amiss
  one_there there = then_there _ (λ x. gathered_times (values ++ x ∷ []) (n - (k + 1)) each) (λ a. there (one ∙ a))

  pub one_goes : (x : Value) (now : View) → each view ≡ Gives x now → gathered_times values (n - k) each view ≡ gathered_times (values ++ x ∷ []) (n - (k + 1)) each now
  one_goes x now got = one ∙ ap (λ a. then_do a (λ x. gathered_times (values ++ x ∷ []) (n - (k + 1)) each)) got

  pub one_stops : (stop : Stop) → Stops stop (each view) → Stops stop (gathered_times values (n - k) each view)
  one_stops stop s = let P : Answer (List Value) → Type 0 = Stops stop in subst P (sym one) (then_stops stop _ (λ x. gathered_times (values ++ x ∷ []) (n - (k + 1)) each) s)

pub all_done : (each : Does Value) (values : List Value) (n k : ℕ) (view : View) → n ≤ k → gathered_times values (n - k) each view ≡ Gives values view
all_done each values n k view h = let m : n - k ≡ 0 = omega arith in ap (λ j. gathered_times values j each view) m

-- how many

few_in : (each : Does Value) (view : View) (v : Value-F Value) (n : ℕ) → int_in v ≡ Some (pos n) → n ≤ MOST_ELEMENTS → repeated each v view ≡ giving value.ListOf (times n each view)
few_in each view (Value-F.Int z) n e h =
    let same : z ≡ pos n = cc in
    ap (λ z. repeated each (Value-F.Int z) view) same ∙ by_test (nat_le n MOST_ELEMENTS) (search (rules, h))
  where
    by_test : (b : Bool) → b ≡ true → (if b then giving value.ListOf (times n each view) else Fails TooLarge) ≡ giving value.ListOf (times n each view)
    by_test true e = refl
    by_test false e = absurd (cc)
few_in each view _ n e h = absurd (cc)

many_in : (each : Does Value) (view : View) (v : Value-F Value) → int_in v ≢ None → ((n : ℕ) → int_in v ≡ Some (pos n) → MOST_ELEMENTS < n) → repeated each v view ≡ Fails TooLarge
many_in each view (Value-F.Int (pos n)) h over =
    let past : MOST_ELEMENTS < n = over n refl in by_test (nat_le n MOST_ELEMENTS) (search (rules, past))
  where
    by_test : (b : Bool) → b ≡ false → (if b then giving value.ListOf (times n each view) else Fails TooLarge) ≡ Fails TooLarge
    by_test false e = refl
    by_test true e = absurd (cc)
many_in each view (Value-F.Int (negsuc n)) h over = refl
many_in each view _ h over = absurd (h refl)

count_in : (each : Does Value) (view : View) (v : Value-F Value) → repeated each v view ≢ Amiss → int_in v ≢ None
count_in each view (Value-F.Int (pos n)) h = λ e. absurd (cc)
count_in each view (Value-F.Int (negsuc n)) h = λ e. absurd (cc)
count_in each view _ h = absurd (h refl)

module _ (m : Evaluates) (n each : CExpr) (view : View) where
  made : Value → Does Value
  made v = repeated (m each) (out-Value v)

  pub repeat_first : repeated_each m n each view ≢ Amiss → m n view ≢ Amiss
  unfolding made
  repeat_first h = then_there (m n view) made h

  pub repeat_stops : (stop : Stop) → Stops stop (m n view) → Stops stop (repeated_each m n each view)
  unfolding made
  repeat_stops stop s = then_stops stop (m n view) made s

  module _ (v : Value) (now : View) (got : m n view ≡ Gives v now) where
    goes : repeated_each m n each view ≡ repeated (m each) (out-Value v) now
    unfolding made
    goes = ap (λ a. then_do a made) got

    pub repeat_count : repeated_each m n each view ≢ Amiss → int_of v ≢ None
    repeat_count h = count_in (m each) now (out-Value v) (λ a. h (goes ∙ a))

    pub repeat_many : int_of v ≢ None → ((n : ℕ) → int_of v ≡ Some (pos n) → MOST_ELEMENTS < n) → repeated_each m n each view ≡ Fails TooLarge
    repeat_many h over = goes ∙ many_in (m each) now (out-Value v) h over

    module _ (k : ℕ) (few : int_of v ≡ Some (pos k)) (small : k ≤ MOST_ELEMENTS) where
      listed : repeated_each m n each view ≡ giving value.ListOf (times k (m each) now)
      listed = goes ∙ few_in (m each) now (out-Value v) k few small

      pub repeat_times : repeated_each m n each view ≢ Amiss → times k (m each) now ≢ Amiss
      repeat_times h a = h (listed ∙ ap (giving value.ListOf) a)

      pub repeat_times_stops : (stop : Stop) → Stops stop (times k (m each) now) → Stops stop (repeated_each m n each view)
      repeat_times_stops stop s =
          let P : Answer Value → Type 0 = Stops stop in subst P (sym listed) (giving_stops stop (times k (m each) now) value.ListOf s)

pub ruleset repeating = (one_there, one_goes, one_stops, all_done)

pub ruleset repeats = (repeat_first, repeat_stops, repeat_count, repeat_many, repeat_times, repeat_times_stops)
