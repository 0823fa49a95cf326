-- The turns of an experiment, as they are made.
use Rattle.std.proofs.Common.{◌≡◌, ◌≢◌, ℕ, ℤ, suc, ◌+◌, ◌-◌, ◌<◌, ◌≤◌, Bool, true, false, List, [], ◌∷◌, ◌++◌, Option, Some, None, refl, sym, ap, subst, ◌∙◌, arith, IsTrue}
use Rattle.std.specs.Prelude.{◌↔◌}
use Rattle.chi_value.specs.declared.value.Value.{Value}
use Rattle.chi_core.specs.declared.program.Core.{Core}
use Rattle.chi_core.specs.declared.verdict.Verdict.{Verdict}
use Rattle.chi_core.specs.declared.view.View.{View}
use Rattle.chi_core.specs.Answer.{Answer, Gives, Fails, then_do}
use Rattle.chi_core.specs.Answer as answer
use Rattle.chi_core.specs.Beginning.{constant_scene}
use Rattle.chi_core.specs.Evaluation.{eval}
use Rattle.chi_core.specs.Functions.{calls}
use Rattle.chi_core.specs.Variables.{Variables}
use Rattle.chi_core_frame.specs.declared.stop.Stop.{Stop}
use Rattle.chi_core_frame.specs.declared.stop.Stop.TheVariants as stop
use Rattle.chi_core_frame.specs.Stops.{Stops}
use Rattle.chi_plain_eval.specs.declared.surroundings.Surroundings.{Surroundings}
use Rattle.chi_plain_eval.specs.Surroundings as surroundings
use Rattle.chi_plain_eval.specs.Surroundings.{scene_in}
use Rattle.chi_xper.specs.declared.ending.XEnd.{XEnd}
use Rattle.chi_xper.specs.declared.ending.XEnd.TheVariants as end
use Rattle.chi_xper.specs.Deeds.{first_done}
use Rattle.chi_xper.specs.Conditions.{IsFine}
use Rattle.chi_xper.specs.Ends.{EndsAs, EndsBy, StopsAs}
use Rattle.chi_xper.specs.Experiments.{Outcome, Outcomes, Made, Told, Done, Run, Fault, Spent, over, after, unless_over, value_in, did_then, came_back, made_by, outcome_of, exit_value, taken, goes}
use Rattle.chi_xper.specs.Items.{Item, Term, Call, Did, On, Calls, line_of, done}
use Rattle.chi_xper.specs.Leading.{Leads}
use Rattle.chi_xper.specs.Ran.{StoppedSo, StopsBy, TakesBy}
use Rattle.chi_xper.specs.Tasks.{first_of}
use Rattle.chi_xper.proofs.Leading.{leads_start, leads_more, leads_over, leads_part, leads_part_more, fine_rest, fine_run, fine_next}
use Rattle.chi_xper.proofs.Turns.{goes_none, goes_over, goes_spent, goes_turn}

module _ (core : Core) (s : Surroundings) (outcomes : Outcomes) (scene_is : scene_in s ≡ constant_scene core s.seed s.constants.now) (functions : s.functions.now ≡ core.funcs) where
  -- what is told from there
  abbrev from : ℕ → ℕ → Variables → Term → View → Told
  from = goes core s.constants.now s.seed outcomes

  -- what is told from an item on that comes to this, where so many turns are left after it
  abbrev told_by : ℕ → ℕ → ℕ → Answer Did → Told
  told_by turns count line it = unless_over line count (did_then core s.constants.now s.seed outcomes line count (from turns)) it

  evaluates : (variables : Variables) → value_in core s.constants.now s.seed outcomes variables ≡ surroundings.value_in s variables
  evaluates variables = (λ k. eval (calls (sym functions k) (sym scene_is k)) (sym scene_is k) variables)

  module _ (count : ℕ) (variables : Variables) (term : Term) (view : View) where
    abbrev less : View
    less = record view { left = view.left - 1 }

    -- what the first item comes to
    abbrev first : Answer Did
    first = first_done core (surroundings.value_in s variables) variables term less

    turn_of : (t : Term) (i : Item) (n : ℕ) → first_of t ≡ Some i → 0 < n → 0 < view.left
        → from n count variables t view ≡ told_by (n - 1) count (line_of i) (first_done core (surroundings.value_in s variables) variables t less)
    turn_of [] i n e h l = absurd (cc)
    turn_of (j ∷ rest) i n e h l =
        let same : j ≡ i = cc in
        goes_turn core s.constants.now s.seed outcomes count variables view j rest n h l
        ∙ (λ k. told_by (n - 1) count (line_of (same k)) (done core (evaluates variables k) variables j rest less))

    over_of : (t : Term) (b : Bool) → (IsTrue b ↔ (t ≡ [])) → b ≡ false → from 0 count variables t view ≡ over (Spent count)
    over_of [] b both differ = let yes : b ≡ true = both.1 refl in absurd (cc)
    over_of (j ∷ rest) b both differ = goes_over core s.constants.now s.seed outcomes count variables view j rest

    spent_of : (t : Term) (i : Item) (n : ℕ) → first_of t ≡ Some i → view.left ≡ 0 → from n count variables t view ≡ over (Spent count)
    spent_of [] i n e z = absurd (cc)
    spent_of (j ∷ rest) i n e z = goes_spent core s.constants.now s.seed outcomes count variables view j rest n z

    -- the turn of a loop over so many, and what is told of it all
    module _ (whole : Told) (before now : List ℕ) (all turn : ℕ) (leads : Leads whole before now (from (all - turn) count variables term view)) where
      pub ends_done : term ≡ [] → EndsBy whole before now (Done count)
      ends_done e =
          leads_over whole (from (all - turn) count variables term view) before now leads (Done count)
          (ap (λ t. from (all - turn) count variables t view) e ∙ goes_none core s.constants.now s.seed outcomes count variables view (all - turn))

      pub ends_spent : (i : Item) → first_of term ≡ Some i → view.left ≡ 0 → EndsBy whole before now (Spent count)
      ends_spent i e z = leads_over whole (from (all - turn) count variables term view) before now leads (Spent count) (spent_of term i (all - turn) e z)

      pub ends_last : (b : Bool) → (IsTrue b ↔ (term ≡ [])) → b ≡ false → all ≤ turn → EndsBy whole before now (Spent count)
      ends_last b both differ past =
          let none : all - turn ≡ 0 = omega (arith, past) in
          leads_over whole (from (all - turn) count variables term view) before now leads (Spent count)
          (ap (λ n. from n count variables term view) none ∙ over_of term b both differ)

      module _ (allows : ℕ → List Value → Type 0) (fine : IsFine allows whole) (i : Item) (first_is : first_of term ≡ Some i) (more : turn < all) (some : 0 < view.left) where
        rest_is : from (all - turn) count variables term view ≡ told_by (all - (turn + 1)) count (line_of i) first
        rest_is =
            let left : 0 < all - turn = omega (arith, more) in
            let next : all - turn - 1 ≡ all - (turn + 1) = omega arith in
            turn_of term i (all - turn) first_is left some ∙ ap (λ n. told_by n count (line_of i) first) next

        fine_here : IsFine allows (told_by (all - (turn + 1)) count (line_of i) first)
        fine_here =
            let P : Told → Type 0 = IsFine allows in
            subst P rest_is (fine_rest allows whole (from (all - turn) count variables term view) before now leads fine)

        leads_here : Leads whole before now (told_by (all - (turn + 1)) count (line_of i) first)
        leads_here = let P : Told → Type 0 = Leads whole before now in subst P rest_is leads

        pub first_there : first ≢ answer.Amiss
        first_there e = fine_here.well (ap (λ a. (told_by (all - (turn + 1)) count (line_of i) a).end) e)

        -- an item is done
        module _ (new : Variables) (rest : Term) (view2 : View) (text now2 : List ℕ) (does : first ≡ Gives (On new rest text) view2) where
          next_is : told_by (all - (turn + 1)) count (line_of i) first ≡ after [] text (from (all - (turn + 1)) count new rest view2)
          next_is = ap (told_by (all - (turn + 1)) count (line_of i)) does

          pub leads_on : now2 ≡ now ++ text → Leads whole before now2 (from (all - (turn + 1)) count new rest view2)
          leads_on grown = leads_more whole _ before now leads_here [] text now2 (from (all - (turn + 1)) count new rest view2) next_is grown

        -- it isn't
        pub ends_stopped : (stop : Stop) (result : XEnd) (line : ℕ) → line ≡ line_of i → StopsAs stop line count result → Stops stop first → EndsAs whole before now result
        ends_stopped (stop.Fault kind) result line e so stops =
            let P : XEnd → Type 0 = EndsAs whole before now in
            subst P (sym (so ∙ ap (λ l. end.Fault kind l count) e))
            (leads_over whole _ before now leads_here (Fault kind (line_of i) count) (ap (told_by (all - (turn + 1)) count (line_of i)) stops))
        ends_stopped stop.Spent result line e so stops =
            let P : XEnd → Type 0 = EndsAs whole before now in
            subst P (sym so) (leads_over whole _ before now leads_here (Spent count) (ap (told_by (all - (turn + 1)) count (line_of i)) stops))
        ends_stopped stop.NoMemory result line e so stops =
            let P : XEnd → Type 0 = EndsAs whole before now in
            subst P (sym so) (leads_part whole _ before now leads_here)

        -- a model is called
        module _ (c : Call) (new : Variables) (rest : Term) (view2 : View) (does : first ≡ Gives (Calls c new rest) view2) where
          abbrev made : Made
          made = made_by s.seed count c

          abbrev outcome : Outcome
          outcome = outcome_of outcomes made

          abbrev next : Variables → View → Told
          next after = from (all - (turn + 1)) (suc count) after rest

          abbrev back : Told
          back = came_back (line_of i) count c new next view2 outcome (exit_value outcome.verdict)

          called_is : told_by (all - (turn + 1)) count (line_of i) first ≡ after (made ∷ []) outcome.output back
          called_is = ap (told_by (all - (turn + 1)) count (line_of i)) does

          pub call_allowed : allows c.model c.arguments
          call_allowed = fine_run allows _ back made outcome.output called_is fine_here

          fine_back : IsFine allows back
          fine_back = fine_next allows _ back (made ∷ []) outcome.output called_is fine_here

          back_with : (v : Value) → exit_value outcome.verdict ≡ Some v → back ≡ unless_over (line_of i) (suc count) next (taken c.widen c.spot new v view2)
          back_with v e = ap (came_back (line_of i) count c new next view2 outcome) e

          pub taken_there : (v : Value) → exit_value outcome.verdict ≡ Some v → taken c.widen c.spot new v view2 ≢ answer.Amiss
          taken_there v e a = fine_back.well (ap (λ told. told.end) (back_with v e ∙ ap (unless_over (line_of i) (suc count) next) a))

          -- the value of its exit is taken
          pub leads_taken : (new2 : Variables) (view3 : View) (now2 : List ℕ) → TakesBy (taken c.widen c.spot new) view2 new2 view3 (exit_value outcome.verdict) → now2 ≡ now ++ outcome.output
              → Leads whole before now2 (from (all - (turn + 1)) (count + 1) new2 rest view3)
          leads_taken new2 view3 now2 takes grown =
              let one_more : suc count ≡ count + 1 = omega arith in
              let P : ℕ → Type 0 = λ n. Leads whole before now2 (from (all - (turn + 1)) n new2 rest view3) in
              subst P one_more (by_value (exit_value outcome.verdict) refl takes)
            where
              by_value : (o : Option Value) → exit_value outcome.verdict ≡ o → TakesBy (taken c.widen c.spot new) view2 new2 view3 o
                  → Leads whole before now2 (from (all - (turn + 1)) (suc count) new2 rest view3)
              by_value (Some v) e takes =
                  leads_more whole _ before now leads_here (made ∷ []) outcome.output now2 _
                  (called_is ∙ ap (after (made ∷ []) outcome.output) (back_with v e ∙ ap (unless_over (line_of i) (suc count) next) takes)) grown
              by_value None e takes = absurd takes

          -- there is none
          pub ends_run : (verdict : Verdict) (clock : ℤ) (now2 : List ℕ) → exit_value outcome.verdict ≡ None → verdict ≡ outcome.verdict → clock ≡ outcome.clock → now2 ≡ now ++ outcome.output
              → EndsBy whole before now2 (Run count c.model verdict clock)
          ends_run verdict clock now2 none e at grown =
              leads_over whole back before now2 (leads_more whole _ before now leads_here (made ∷ []) outcome.output now2 back called_is grown)
              (Run count c.model verdict clock)
              (ap (came_back (line_of i) count c new next view2 outcome) none ∙ (λ k. over (Run count c.model (sym e k) (sym at k))))

          -- it isn't taken, or memory was wanting
          pub ends_after_run : (stop : Stop) (result : XEnd) (line : ℕ) (now2 : List ℕ) → line ≡ line_of i → StopsAs stop line (count + 1) result
              → StoppedSo outcome (taken c.widen c.spot new) view2 now now2 stop → EndsAs whole before now2 result
          ends_after_run (stop.Fault kind) result line now2 e so stops = by_value (exit_value outcome.verdict) refl stops.0
            where
              by_value : (o : Option Value) → exit_value outcome.verdict ≡ o → StopsBy (taken c.widen c.spot new) view2 (stop.Fault kind) o → EndsAs whole before now2 result
              by_value (Some v) is fails =
                  let one_more : suc count ≡ count + 1 = omega arith in
                  let P : XEnd → Type 0 = EndsAs whole before now2 in
                  subst P (sym (so ∙ (λ k. end.Fault kind (e k) (sym one_more k))))
                  (leads_over whole back before now2 (leads_more whole _ before now leads_here (made ∷ []) outcome.output now2 back called_is stops.1)
                  (Fault kind (line_of i) (suc count)) (back_with v is ∙ ap (unless_over (line_of i) (suc count) next) fails))
              by_value None is fails = absurd fails
          ends_after_run stop.Spent result line now2 e so stops = by_value (exit_value outcome.verdict) refl stops.0
            where
              by_value : (o : Option Value) → exit_value outcome.verdict ≡ o → StopsBy (taken c.widen c.spot new) view2 stop.Spent o → EndsAs whole before now2 result
              by_value (Some v) is fails =
                  let one_more : suc count ≡ count + 1 = omega arith in
                  let P : XEnd → Type 0 = EndsAs whole before now2 in
                  subst P (sym (so ∙ (λ k. end.Spent (sym one_more k))))
                  (leads_over whole back before now2 (leads_more whole _ before now leads_here (made ∷ []) outcome.output now2 back called_is stops.1)
                  (Spent (suc count)) (back_with v is ∙ ap (unless_over (line_of i) (suc count) next) fails))
              by_value None is fails = absurd fails
          ends_after_run stop.NoMemory result line now2 e so part =
              let P : XEnd → Type 0 = EndsAs whole before now2 in
              subst P (sym so) (leads_part_more whole _ before now leads_here (made ∷ []) outcome.output now2 back called_is part)

-- how far the turns of a loop have come, by a runner whose meaning no run changes
pub record Gone (core : Core) (s : Surroundings) (outcomes now_outcomes : Outcomes) (allows now_allows : ℕ → List Value → Type 0) (whole : Told) (before now : List ℕ) (all turn count : ℕ)
    (variables : Variables) (term : Term) (view : View) : Type 0 where
  pub counted : count ≤ turn
  pub same_outcome : now_outcomes ≡ outcomes
  pub same_allowed : (number : ℕ) (values : List Value) → now_allows number values ↔ allows number values
  pub leads : Leads whole before now (goes core s.constants.now s.seed outcomes (all - turn) count variables term view)

-- at the start
pub gone_start : (core : Core) (s : Surroundings) (outcomes : Outcomes) (allows : ℕ → List Value → Type 0) (before : List ℕ) (all count : ℕ) (variables : Variables) (term : Term) (view : View) → count ≡ 0
    → Gone core s outcomes outcomes allows allows (goes core s.constants.now s.seed outcomes all count variables term view) before before all 0 count variables term view
gone_start core s outcomes allows before all count variables term view none_yet = record {
  counted = omega (arith, none_yet);
  same_outcome = refl;
  same_allowed = λ number values. (λ h. h, λ h. h);
  leads =
      let none : all - 0 ≡ all = omega arith in
      let whole : Told = goes core s.constants.now s.seed outcomes all count variables term view in
      let P : ℕ → Type 0 = λ n. Leads whole before before (goes core s.constants.now s.seed outcomes n count variables term view) in
      subst P (sym none) (leads_start whole before);
}

-- by a runner whose meaning one more run doesn't change
pub still_allowed : (allows before after : ℕ → List Value → Type 0) → ((number : ℕ) (values : List Value) → after number values ↔ before number values)
    → ((number : ℕ) (values : List Value) → before number values ↔ allows number values) → (number : ℕ) (values : List Value) → after number values ↔ allows number values
still_allowed allows before after a b number values = (λ h. (b number values).0 ((a number values).0 h), λ h. (a number values).1 ((b number values).1 h))
