-- Several whole variables that are set at once: it comes to the same where one of them was let go of before.
use Rattle.std.proofs.Common.{◌≡◌, ◌≢◌, ℕ, Bool, true, false, nat_lt, nat_eq, IsTrue, List, [], ◌∷◌, ◌++◌, Option, Some, None, length, map, ap, sym, subst, refl, ◌∙◌, arith, slice_set}
use Rattle.std.specs.Prelude.{if◌then◌else◌, ◌&&◌, ◌||◌, option_map}
use Rattle.std.specs.List.{list_all, list_any}
use Rattle.std.proofs.lemmas.Bool.{eqb-true, eqb-false}
use Rattle.std.proofs.lemmas.List.{append-nil, append_assoc, length-set, set_comm}
use Rattle.chi_value.specs.declared.value.Value.{Value}
use Rattle.chi_core.specs.declared.expression.CExpr.{CExpr}
use Rattle.chi_core.specs.declared.target.CTarget.{CTarget}
use Rattle.chi_core.specs.declared.target.CStep.{CStep}
use Rattle.chi_core.specs.declared.view.View.{View}
use Rattle.chi_core.specs.Answer.{Answer, Does, Gives, Fails, Spent, Amiss, then_do, wanted, giving, in_turn, gathered, through}
use Rattle.chi_core.specs.Evaluation.{Evaluates}
use Rattle.chi_core.specs.Spots.{Spot, spot_of, step_at, store}
use Rattle.chi_core.specs.Terms.{Term, Did, On, on_with, assigned, spread}
use Rattle.chi_core.specs.Variables.{Variables, with_slot, side_by_side}
use Rattle.chi_core_frame.specs.Assignments.{each_stored}
use Rattle.chi_core_frame.specs.Alike.{AreAlikeBut}
use Rattle.chi_core_frame.specs.declared.stop.Stop.{Stop}
use Rattle.chi_core_frame.specs.Stops.{Stops}
use Rattle.chi_plain_eval.specs.Settings.{is_whole, names, whole_spot, parted, set_each}
use Rattle.chi_plain_eval.proofs.Wholes.{given_last}
use Rattle.chi_core_frame.proofs.Stopping.{then_there, giving_stops}

is_true : {b : Bool} → IsTrue b → b ≡ true
is_true h = h

-- another slot is set in both
module _ (i s : ℕ) (a : Option Value) (x : Value) (variables : Variables) where
  set_later : i ≢ s → with_slot s x (slice_set variables i a) ≡ option_map (λ v. slice_set v i a) (with_slot s x variables)
  set_later ne =
      ap (λ n. if nat_lt s n then Some (slice_set (slice_set variables i a) s (Some x)) else None) (length-set variables i a)
      ∙ by_test (nat_lt s (length variables))
    where
      by_test : (b : Bool) → (if b then Some (slice_set (slice_set variables i a) s (Some x)) else None) ≡ option_map (λ v. slice_set v i a) (if b then Some (slice_set variables s (Some x)) else None)
      by_test true = ap Some (set_comm variables i s a (Some x) ne)
      by_test false = refl

alike_later : (i s : ℕ) (a : Option Value) (v u : Variables) → i ≢ s → AreAlikeBut s v u → AreAlikeBut s (slice_set v i a) (slice_set u i a)
alike_later i s a v u ne alike = (
  length-set u i a ∙ alike.0 ∙ sym (length-set v i a),
  λ x. set_later i s a x u ne ∙ ap (option_map (λ w. slice_set w i a)) (alike.1 x) ∙ sym (set_later i s a x v ne),
)

-- the stores of whole variables, one of which is the one that was let go of
module _ (s : ℕ) (view : View) where
  after : CTarget → Value → List (Spot × Value) → Bool → Variables → Answer Variables
  after t x stores b variables = then_do (wanted (if b then Some (slice_set variables t.slot (Some x)) else None) view) (through store stores)

  after_is : (t : CTarget) (x : Value) (stores : List (Spot × Value)) (variables : Variables)
      → each_stored (Some ((whole_spot t, x) ∷ stores)) variables view ≡ after t x stores (nat_lt t.slot (length variables)) variables
  unfolding after
  after_is t x stores variables = refl

  same_stored : (t : CTarget) (x : Value) (stores : List (Spot × Value)) (v u : Variables) → AreAlikeBut s v u → t.slot ≡ s
      → each_stored (Some ((whole_spot t, x) ∷ stores)) u view ≡ each_stored (Some ((whole_spot t, x) ∷ stores)) v view
  same_stored t x stores v u alike is =
      let same : with_slot t.slot x u ≡ with_slot t.slot x v = ap (λ n. with_slot n x u) is ∙ alike.1 x ∙ ap (λ n. with_slot n x v) (sym is) in
      ap (λ o. then_do (wanted o view) (through store stores)) same

  other_stored : (t : CTarget) (x : Value) (stores : List (Spot × Value)) (v u : Variables) → AreAlikeBut s v u → t.slot ≢ s
      → ((v2 u2 : Variables) → AreAlikeBut s v2 u2 → through store stores u2 view ≡ through store stores v2 view)
      → each_stored (Some ((whole_spot t, x) ∷ stores)) u view ≡ each_stored (Some ((whole_spot t, x) ∷ stores)) v view
  unfolding after
  other_stored t x stores v u alike ne later =
      after_is t x stores u ∙ by_test (nat_lt t.slot (length u)) ∙ ap (λ n. after t x stores (nat_lt t.slot n) v) alike.0 ∙ sym (after_is t x stores v)
    where
      by_test : (b : Bool) → after t x stores b u ≡ after t x stores b v
      by_test false = refl
      by_test true = later (slice_set v t.slot (Some x)) (slice_set u t.slot (Some x)) (alike_later t.slot s (Some x) v u ne alike)

  all_stored : (ts : List CTarget) (xs : List Value) (v u : Variables) → AreAlikeBut s v u → list_any (names s) ts ≡ true
      → each_stored (side_by_side (map whole_spot ts) xs) u view ≡ each_stored (side_by_side (map whole_spot ts) xs) v view
  all_stored [] xs v u alike among = absurd (cc)
  all_stored (t ∷ ts) [] v u alike among = refl
  all_stored (t ∷ ts) (x ∷ xs) v u alike among =
      by_rest (λ v2 u2 later rest. all_stored ts xs v2 u2 later rest) (side_by_side (map whole_spot ts) xs) refl
    where
      by_slot : ((v2 u2 : Variables) → AreAlikeBut s v2 u2 → list_any (names s) ts ≡ true
          → each_stored (side_by_side (map whole_spot ts) xs) u2 view ≡ each_stored (side_by_side (map whole_spot ts) xs) v2 view)
          → (stores : List (Spot × Value)) → side_by_side (map whole_spot ts) xs ≡ Some stores → (b : Bool) → nat_eq t.slot s ≡ b
          → each_stored (Some ((whole_spot t, x) ∷ stores)) u view ≡ each_stored (Some ((whole_spot t, x) ∷ stores)) v view
      by_slot later_same stores e true is = same_stored t x stores v u alike (eqb-true t.slot s is)
      by_slot later_same stores e false is =
          let ne : t.slot ≢ s = eqb-false t.slot s is in
          let rest : list_any (names s) ts ≡ true = ap (λ b. b || list_any (names s) ts) (sym is) ∙ among in
          other_stored t x stores v u alike ne
          (λ v2 u2 later. ap (λ o. each_stored o u2 view) (sym e) ∙ later_same v2 u2 later rest ∙ ap (λ o. each_stored o v2 view) e)

      by_rest : ((v2 u2 : Variables) → AreAlikeBut s v2 u2 → list_any (names s) ts ≡ true
          → each_stored (side_by_side (map whole_spot ts) xs) u2 view ≡ each_stored (side_by_side (map whole_spot ts) xs) v2 view)
          → (o : Option (List (Spot × Value))) → side_by_side (map whole_spot ts) xs ≡ o
          → each_stored (option_map (λ stores. (whole_spot t, x) ∷ stores) o) u view ≡ each_stored (option_map (λ stores. (whole_spot t, x) ∷ stores) o) v view
      by_rest later_same None e = refl
      by_rest later_same (Some stores) e = by_slot later_same stores e (nat_eq t.slot s) refl

-- the spots of whole variables
steps_nothing : (steps : List CStep) → nat_eq (length steps) 0 ≡ true → steps ≡ []
steps_nothing [] e = refl
steps_nothing (s ∷ steps) e = absurd (omega (arith, eqb-true (length (s ∷ steps)) 0 e))

both_first : (a b : Bool) → (a && b) ≡ true → a ≡ true
both_first true b e = refl
both_first false b e = absurd (cc)

both_second : (a b : Bool) → (a && b) ≡ true → b ≡ true
both_second true b e = e
both_second false b e = absurd (cc)

module _ (m : Evaluates) where
  spot_is : (t : CTarget) (view : View) → is_whole t ≡ true → spot_of m t view ≡ Gives (whole_spot t) view
  spot_is t view e =
      ap (λ steps. giving (λ path. record { slot = t.slot; path = path }) (in_turn (map (step_at m) steps) view)) (steps_nothing t.steps e)

  gathered_are : (found : List Spot) (ts : List CTarget) (view : View) → list_all is_whole ts ≡ true → gathered found (map (spot_of m) ts) view ≡ Gives (found ++ map whole_spot ts) view
  gathered_are found [] view e = ap (λ l. Gives l view) (sym (append-nil found))
  gathered_are found (t ∷ ts) view e =
      ap (λ a. then_do a (λ x. gathered (found ++ x ∷ []) (map (spot_of m) ts))) (spot_is t view (both_first (is_whole t) (list_all is_whole ts) e))
      ∙ gathered_are (found ++ whole_spot t ∷ []) ts view (both_second (is_whole t) (list_all is_whole ts) e)
      ∙ ap (λ l. Gives l view) (append_assoc found (whole_spot t ∷ []) (map whole_spot ts))

  spots_are : (ts : List CTarget) (view : View) → list_all is_whole ts ≡ true → in_turn (map (spot_of m) ts) view ≡ Gives (map whole_spot ts) view
  spots_are = gathered_are []

-- a value goes to them
module _ (ts : List CTarget) (x : Value) (variables : Variables) (view : View) where
  pub parts_there : (given : List Value) → given ≡ x ∷ [] → parted ts x variables view ≢ Amiss → spread ts given ≢ None
  parts_there given is h none = h (ap (λ o. then_do (wanted o view) (λ xs. each_stored (side_by_side (map whole_spot ts) xs) variables)) (ap (spread ts) (sym is) ∙ none))

  module _ (given xs : List Value) (spots : List Spot) (is : given ≡ x ∷ []) (parts : spread ts given ≡ Some xs) (found : spots ≡ map whole_spot ts) where
    parts_are : parted ts x variables view ≡ each_stored (side_by_side spots xs) variables view
    parts_are =
        ap (λ o. then_do (wanted o view) (λ xs. each_stored (side_by_side (map whole_spot ts) xs) variables)) (ap (spread ts) (sym is) ∙ parts)
        ∙ ap (λ l. each_stored (side_by_side l xs) variables view) (sym found)

    pub stores_there : parted ts x variables view ≢ Amiss → each_stored (side_by_side spots xs) variables view ≢ Amiss
    stores_there h a = h (parts_are ∙ a)

    pub stores_stop : (stop : Stop) → Stops stop (each_stored (side_by_side spots xs) variables view) → Stops stop (parted ts x variables view)
    stores_stop stop s = let P : Answer Variables → Type 0 = Stops stop in subst P (sym parts_are) s

    pub stores_go : (new : Variables) → each_stored (side_by_side spots xs) variables view ≡ Gives new view → parted ts x variables view ≡ Gives new view
    stores_go new e = parts_are ∙ e

pub ruleset parting = (parts_there, stores_there, stores_stop, stores_go)

-- it comes to the same where one of them was let go of
parted_same : (s : ℕ) (ts : List CTarget) (v : Value) (variables taken : Variables) (view : View) → AreAlikeBut s variables taken → list_any (names s) ts ≡ true
    → parted ts v taken view ≡ parted ts v variables view
parted_same s ts v variables taken view alike among = by_parts (spread ts (v ∷ []))
  where
    by_parts : (o : Option (List Value)) → then_do (wanted o view) (λ xs. each_stored (side_by_side (map whole_spot ts) xs) taken)
        ≡ then_do (wanted o view) (λ xs. each_stored (side_by_side (map whole_spot ts) xs) variables)
    by_parts None = refl
    by_parts (Some xs) = all_stored s view ts xs variables taken alike among

module _ (m : Evaluates) (ts : List CTarget) (e : CExpr) (variables : Variables) (view : View) where
  pub each_first : set_each m ts e variables view ≢ Amiss → m e view ≢ Amiss
  each_first h = then_there (m e view) (λ x. parted ts x variables) h

  module _ (slot : ℕ) (v : Value) (now : View) (taken : Variables) (among : IsTrue (list_any (names slot) ts)) (got : m e view ≡ Gives v now) (alike : AreAlikeBut slot variables taken) where
    each_is : set_each m ts e variables view ≡ parted ts v taken now
    each_is = ap (λ a. then_do a (λ x. parted ts x variables)) got ∙ sym (parted_same slot ts v variables taken now alike (is_true among))

    pub each_there : set_each m ts e variables view ≢ Amiss → parted ts v taken now ≢ Amiss
    each_there h a = h (each_is ∙ a)

    pub each_stops : (stop : Stop) → Stops stop (parted ts v taken now) → Stops stop (set_each m ts e variables view)
    each_stops stop s = let P : Answer Variables → Type 0 = Stops stop in subst P (sym each_is) s

    pub each_goes : (new : Variables) → parted ts v taken now ≡ Gives new now → set_each m ts e variables view ≡ Gives new now
    each_goes new is = each_is ∙ is

pub ruleset releasing = (each_first, each_there, each_stops, each_goes)

-- one expression is assigned to whole variables
module _ (m : Evaluates) (variables : Variables) (ts : List CTarget) (e : CExpr) (rest : Term) (view : View) where
  last : List Value → List Spot → Does Did
  last xs spots new = then_do (wanted (side_by_side spots xs) new) (λ stores end. giving (on_with rest) (through store stores variables end))

  spread_over : List Value → Does Did
  spread_over given now = then_do (wanted (spread ts given) now) (λ xs later. then_do (in_turn (map (spot_of m) ts) later) (last xs))

  assigned_whole : list_all is_whole ts ≡ true → assigned m variables ts (e ∷ []) rest view ≡ giving (on_with rest) (set_each m ts e variables view)
  unfolding spread_over last
  assigned_whole whole = by_value (m e view)
    where
      by_parts : (o : Option (List Value)) (now : View) → then_do (wanted o now) (λ xs later. then_do (in_turn (map (spot_of m) ts) later) (last xs))
          ≡ giving (on_with rest) (then_do (wanted o now) (λ xs. each_stored (side_by_side (map whole_spot ts) xs) variables))
      by_parts None now = refl
      by_parts (Some xs) now =
          ap (λ a. then_do a (last xs)) (spots_are m ts now whole)
          ∙ given_last (wanted (side_by_side (map whole_spot ts) xs) now) (on_with rest) (λ stores. through store stores variables)

      by_value : (it : Answer Value) → then_do (then_do it (λ x now. Gives (x ∷ []) now)) spread_over ≡ giving (on_with rest) (then_do it (λ x. parted ts x variables))
      by_value (Gives x now) = by_parts (spread ts (x ∷ [])) now
      by_value (Fails kind) = refl
      by_value Spent = refl
      by_value Amiss = refl

  module _ (es : List CExpr) (whole : IsTrue (list_all is_whole ts)) (alone : es ≡ e ∷ []) where
    assigned_is : assigned m variables ts es rest view ≡ giving (on_with rest) (set_each m ts e variables view)
    assigned_is = ap (λ es. assigned m variables ts es rest view) alone ∙ assigned_whole (is_true whole)

    pub assign_there : assigned m variables ts es rest view ≢ Amiss → set_each m ts e variables view ≢ Amiss
    assign_there h a = h (assigned_is ∙ ap (giving (on_with rest)) a)

    pub assign_stops : (stop : Stop) → Stops stop (set_each m ts e variables view) → Stops stop (assigned m variables ts es rest view)
    assign_stops stop s = let P : Answer Did → Type 0 = Stops stop in subst P (sym assigned_is) (giving_stops stop (set_each m ts e variables view) (on_with rest) s)

    pub assign_goes : (new : Variables) (now : View) → set_each m ts e variables view ≡ Gives new now → assigned m variables ts es rest view ≡ Gives (On new rest) now
    assign_goes new now is = assigned_is ∙ ap (giving (on_with rest)) is

pub ruleset assigning = (assign_there, assign_stops, assign_goes)
