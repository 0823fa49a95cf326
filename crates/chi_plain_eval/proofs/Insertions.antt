-- Insertion by a function: how far the elements are passed, and what then comes.
use Rattle.std.proofs.Common.{◌≡◌, ◌≢◌, ℕ, suc, ◌+◌, ◌<◌, ◌≤◌, Bool, true, false, List, [], ◌∷◌, Some, None, length, drop, get_or, refl, ap, sym, subst, ◌∙◌, arith}
use Rattle.std.proofs.lemmas.List.{drop_more, drop_all}
use Rattle.chi_value.specs.declared.value.Value.{Value, Value-F, out-Value}
use Rattle.chi_ops.specs.Sequences.{insert_at}
use Rattle.chi_core.specs.declared.expression.CExpr.{CExpr}
use Rattle.chi_core.specs.declared.view.View.{View}
use Rattle.chi_core.specs.Answer.{Answer, Does, Gives, Fails, Spent, Amiss, then_do, gives, giving}
use Rattle.chi_core.specs.Containers.{done}
use Rattle.chi_core.specs.Evaluation.{Run, Evaluates, inserted, on_truth, place_before}
use Rattle.chi_core.specs.Reading.{truth_of}
use Rattle.chi_core_frame.specs.declared.stop.Stop.{Stop}
use Rattle.chi_plain_eval.specs.Calls.{before_by}
use Rattle.chi_plain_eval.specs.Kinds.{inserted_by, items_of}
use Rattle.chi_core_frame.specs.Stops.{Stops}
use Rattle.chi_core_frame.proofs.Stopping.{then_stops, then_there, giving_stops}

-- the list, and where the element goes
module _ (run : Run) (k : ℕ) (xs x : Value) (view : View) where
  insert_into : Value → ℕ → Does Value
  insert_into xs place = done (insert_at xs place x)

  list_in : (o : Value-F Value) → inserted run k xs x o view ≢ Amiss → items_of o ≢ None
  list_in (Value-F.ListOf items) h = λ e. absurd (cc)
  list_in _ h = absurd (h refl)

  list_is_in : (o : Value-F Value) (items : List Value) → inserted run k xs x o view ≢ Amiss → items_of o ≡ Some items
      → inserted run k xs x o view ≡ then_do (place_before (before_by run k x) items view) (λ place. done (insert_at xs place x))
  list_is_in (Value-F.ListOf l) items h e =
      let same : l ≡ items = cc in ap (λ l. then_do (place_before (before_by run k x) l view) (λ place. done (insert_at xs place x))) same
  list_is_in _ items h e = absurd (h refl)

  pub list_there : inserted run k xs x (out-Value xs) view ≢ Amiss → items_of (out-Value xs) ≢ None
  list_there h = list_in (out-Value xs) h

  module _ (items : List Value) (are : items_of (out-Value xs) ≡ Some items) (h : inserted run k xs x (out-Value xs) view ≢ Amiss) where
    list_is : inserted run k xs x (out-Value xs) view ≡ then_do (place_before (before_by run k x) items view) (insert_into xs)
    unfolding insert_into
    list_is = list_is_in (out-Value xs) items h are

-- one evaluated, then the other, then how far the elements are passed
module _ (m : Evaluates) (run : Run) (k : ℕ) (a b : CExpr) (view : View) where
  with_list : Value → Does Value
  with_list xs now = then_do (m b now) (λ v. inserted run k xs v (out-Value xs))

  pub list_first : inserted_by m run k a b view ≢ Amiss → m a view ≢ Amiss
  unfolding with_list
  list_first h = then_there (m a view) with_list h

  pub list_stops : (stop : Stop) → Stops stop (m a view) → Stops stop (inserted_by m run k a b view)
  unfolding with_list
  list_stops stop s = then_stops stop (m a view) with_list s

  module _ (xs : Value) (now : View) (got : m a view ≡ Gives xs now) where
    then_element : inserted_by m run k a b view ≡ with_list xs now
    unfolding with_list
    then_element = ap (λ it. then_do it with_list) got

    pub element_there : inserted_by m run k a b view ≢ Amiss → m b now ≢ Amiss
    unfolding with_list
    element_there h = then_there (m b now) (λ v. inserted run k xs v (out-Value xs)) (λ e. h (then_element ∙ e))

    pub element_stops : (stop : Stop) → Stops stop (m b now) → Stops stop (inserted_by m run k a b view)
    unfolding with_list
    element_stops stop s = let P : Answer Value → Type 0 = Stops stop in subst P (sym then_element) (then_stops stop (m b now) (λ v. inserted run k xs v (out-Value xs)) s)

    module _ (x : Value) (last : View) (found : m b now ≡ Gives x last) where
      is_inserted : inserted_by m run k a b view ≡ inserted run k xs x (out-Value xs) last
      unfolding with_list
      is_inserted = then_element ∙ ap (λ it. then_do it (λ v. inserted run k xs v (out-Value xs))) found

      pub items_there : inserted_by m run k a b view ≢ Amiss → items_of (out-Value xs) ≢ None
      items_there h = list_there run k xs x last (λ e. h (is_inserted ∙ e))

      module _ (items : List Value) (are : items_of (out-Value xs) ≡ Some items) (h : inserted_by m run k a b view ≢ Amiss) where
        is_placed : inserted_by m run k a b view ≡ then_do (place_before (before_by run k x) items last) (insert_into run k xs x last xs)
        is_placed = is_inserted ∙ list_is run k xs x last items are (λ e. h (is_inserted ∙ e))

        pub place_there : place_before (before_by run k x) items last ≢ Amiss
        place_there = then_there _ (insert_into run k xs x last xs) (λ e. h (is_placed ∙ e))

        pub place_stops : (stop : Stop) → Stops stop (place_before (before_by run k x) items last) → Stops stop (inserted_by m run k a b view)
        place_stops stop s = let P : Answer Value → Type 0 = Stops stop in subst P (sym is_placed) (then_stops stop _ (insert_into run k xs x last xs) s)

        module _ (n : ℕ) (new : View) (at : place_before (before_by run k x) items last ≡ Gives n new) where
          pub place_goes : inserted_by m run k a b view ≡ done (insert_at xs n x) new
          unfolding insert_into
          place_goes = is_placed ∙ ap (λ it. then_do it (insert_into run k xs x last xs)) at

pub ruleset inserting = (list_first, list_stops, element_there, element_stops, items_there, place_there, place_stops, place_goes)

-- what was found to go where is put there
module _ (m : Evaluates) (run : Run) (k : ℕ) (a b : CExpr) (view : View) (xs x : Value) (n : ℕ) (new : View) (is : inserted_by m run k a b view ≡ done (insert_at xs n x) new) where
  pub put_there : inserted_by m run k a b view ≢ Amiss → done (insert_at xs n x) new ≢ Amiss
  put_there h e = h (is ∙ e)

  pub put_goes : (v : Value) → done (insert_at xs n x) new ≡ Gives v new → inserted_by m run k a b view ≡ Gives v new
  put_goes v e = is ∙ e

  pub put_stops : (stop : Stop) → Stops stop (done (insert_at xs n x) new) → Stops stop (inserted_by m run k a b view)
  put_stops stop s = let P : Answer Value → Type 0 = Stops stop in subst P (sym is) s

pub ruleset putting = (put_there, put_goes, put_stops)

-- one more is passed
added : (i : ℕ) (it : Answer ℕ) → giving (λ n. i + n) (giving suc it) ≡ giving (λ n. (i + 1) + n) it
added i (Gives n view) = let same : i + suc n ≡ (i + 1) + n = omega arith in ap (λ n. Gives n view) same
added i (Fails kind) = refl
added i Spent = refl
added i Amiss = refl

module _ (run : Run) (k : ℕ) (x : Value) (all : List Value) (i : ℕ) (view : View) where
  pub all_passed : (whole : Answer ℕ) → length all ≤ i → whole ≡ giving (λ n. i + n) (place_before (before_by run k x) (drop i all) view) → whole ≡ Gives i view
  all_passed whole h is =
      let none : i + 0 ≡ i = omega arith in
      is ∙ ap (λ l. giving (λ n. i + n) (place_before (before_by run k x) l view)) (drop_all i all h) ∙ ap (λ n. Gives n view) none

  module _ (y : Value) (pair : List Value) (h : i < length all) (is : y ≡ get_or all i y) (both : pair ≡ x ∷ y ∷ []) where
    next : Value → Does ℕ
    next v = on_truth (truth_of v) (gives 0) (λ new. giving suc (place_before (before_by run k x) (drop (i + 1) all) new))

    turn : place_before (before_by run k x) (drop i all) view ≡ then_do (run k pair view) next
    unfolding next
    turn =
        ap (λ l. place_before (before_by run k x) l view) (drop_more all i y h)
        ∙ ap (λ z. place_before (before_by run k x) (z ∷ drop (i + 1) all) view) (sym is)
        ∙ ap (λ p. then_do (run k p view) (λ v. on_truth (truth_of v) (gives 0) (λ new. giving suc (place_before (before_by run k x) (drop (i + 1) all) new)))) (sym both)

    pub test_there : place_before (before_by run k x) (drop i all) view ≢ Amiss → run k pair view ≢ Amiss
    test_there there = then_there (run k pair view) next (λ a. there (turn ∙ a))

    pub test_stops : (whole : Answer ℕ) (stop : Stop) → whole ≡ giving (λ n. i + n) (place_before (before_by run k x) (drop i all) view) → Stops stop (run k pair view) → Stops stop whole
    test_stops whole stop e s =
        let P : Answer ℕ → Type 0 = Stops stop in
        subst P (sym (e ∙ ap (giving (λ n. i + n)) turn)) (giving_stops stop (then_do (run k pair view) next) (λ n. i + n) (then_stops stop (run k pair view) next s))

    module _ (v : Value) (now : View) (got : run k pair view ≡ Gives v now) where
      goes : place_before (before_by run k x) (drop i all) view ≡ next v now
      goes = turn ∙ ap (λ it. then_do it next) got

      pub test_truth : place_before (before_by run k x) (drop i all) view ≢ Amiss → truth_of v ≢ None
      unfolding next
      test_truth there none =
          there (goes ∙ ap (λ o. on_truth o (gives 0) (λ new. giving suc (place_before (before_by run k x) (drop (i + 1) all) new)) now) none)

      pub place_found : (whole : Answer ℕ) (t : Bool) → whole ≡ giving (λ n. i + n) (place_before (before_by run k x) (drop i all) view) → truth_of v ≡ Some t → t ≡ true → whole ≡ Gives i now
      unfolding next
      place_found whole t e so holds =
          let none : i + 0 ≡ i = omega arith in
          e ∙ ap (giving (λ n. i + n)) (goes ∙ ap (λ o. on_truth o (gives 0) (λ new. giving suc (place_before (before_by run k x) (drop (i + 1) all) new)) now) (so ∙ ap Some holds))
          ∙ ap (λ n. Gives n now) none

      passes : (t : Bool) → truth_of v ≡ Some t → t ≡ false → place_before (before_by run k x) (drop i all) view ≡ giving suc (place_before (before_by run k x) (drop (i + 1) all) now)
      unfolding next
      passes t so fails =
          goes ∙ ap (λ o. on_truth o (gives 0) (λ new. giving suc (place_before (before_by run k x) (drop (i + 1) all) new)) now) (so ∙ ap Some fails)

      pub place_passed : (whole : Answer ℕ) (t : Bool) → whole ≡ giving (λ n. i + n) (place_before (before_by run k x) (drop i all) view) → truth_of v ≡ Some t → t ≡ false
          → whole ≡ giving (λ n. (i + 1) + n) (place_before (before_by run k x) (drop (i + 1) all) now)
      place_passed whole t e so fails = e ∙ ap (giving (λ n. i + n)) (passes t so fails) ∙ added i (place_before (before_by run k x) (drop (i + 1) all) now)

      pub rest_there : (t : Bool) → place_before (before_by run k x) (drop i all) view ≢ Amiss → truth_of v ≡ Some t → t ≡ false → place_before (before_by run k x) (drop (i + 1) all) now ≢ Amiss
      rest_there t there so fails a = there (passes t so fails ∙ ap (giving suc) a)

pub none_passed : (it : Answer ℕ) → it ≡ giving (λ n. 0 + n) it
none_passed (Gives n view) = let same : n ≡ 0 + n = omega arith in ap (λ n. Gives n view) same
none_passed (Fails kind) = refl
none_passed Spent = refl
none_passed Amiss = refl

pub ruleset placing = (all_passed, test_there, test_stops, test_truth, place_found, place_passed, rest_there, none_passed)
