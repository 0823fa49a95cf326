-- From each place a run goes on, and its log tells it.
use Rattle.std.proofs.Common.{◌≡◌, ℕ, zero, suc, ◌<◌, ◌≤◌, List, [], ◌∷◌, ◌++◌, map, Option, Some, length, append_assoc, inl, inr, sym, ◌∙◌, ap, subst, refl, arith}
use Rattle.std.specs.List.{flat_map, Contains}
use Rattle.chi_core.specs.declared.label.Label.{Label}
use Rattle.chi_core.specs.declared.program.Core.{Core}
use Rattle.chi_core.specs.declared.verdict.Verdict.TheVariants.{OutOfSteps}
use Rattle.chi_core.specs.Config.{Config}
use Rattle.chi_core.specs.Kinded.{Kinded}
use Rattle.chi_core.specs.Options.{at_rest, enabled, ending_at, ending_of}
use Rattle.chi_core.specs.Runs.{MayDerive, Runs, Told, along, nothing}
use Rattle.chi_core.specs.Step as outcome
use Rattle.chi_core.specs.Step.{Outcome, Next, Over, step}
use Rattle.chi_core_kinds.specs.Keeps.{GoesKinded}
use Rattle.chi_core_runs.specs.Turns.{told_first, told_last}
use Rattle.chi_core_runs.proofs.Lists.{contains-at}
use Rattle.chi_core_runs.proofs.Time.{each_costs}
use Rattle.chi_core_runs.proofs.Turns.{along-none, along-step}
use Rattle.chi_trace.specs.declared.event.Event.{Event}
use Rattle.chi_trace.specs.Lines.{event_line}
use Rattle.chi_trace_events.specs.Traces.{event_at, event_told}
use Rattle.chi_log.specs.Allowed.{ending_line, first_lines}
use Rattle.chi_log.specs.Reading.{At, End, GoesOn, IsLine, IsSoundAt, LeadsTo, MayEnd, Place, Rest}
use Rattle.chi_log.proofs.EventLines.{event_in_line}
use Rattle.chi_log.proofs.Lines.{alone, first_is_front, first_is_line}
use Rattle.chi_log.proofs.Places.{Laws, apart, end_is_line, rest_ends, same_end}
use Rattle.chi_log.proofs.Going.{NextIs, a_label, an_end, first_some, goes_on, leads_sound, next_is, no_events, one_way}

module _ (core : Core) (laws : Laws core) where
  -- from each place a run goes on

  some_here : (turn : ℕ) (config : Config) (left : ℕ) → Kinded core config
      → ((new : Config) (rest : ℕ) → rest < left → Kinded core new → (told : Told) × (log : List ℕ) × GoesOn core (suc turn) new rest told log)
      → (told : Told) × (log : List ℕ) × GoesOn core turn config left told log
  some_here turn config left kinded below = by_enabled (enabled config) refl
    where
      by_outcome : (label : Label) → Contains (enabled config) label → (s : Outcome) → step core config label left ≡ s → GoesKinded core s
          → (told : Told) × (log : List ℕ) × GoesOn core turn config left told log
      by_outcome label may (Next new text some) is good =
          let e = laws.event core laws.sound config kinded label may turn in
          let r = below new some (each_costs core config label new text some left is) good in (
            told_first label text r.0,
            event_line e.0 ++ r.1,
            goes_on core laws turn config left (event_line e.0) label text (At (suc turn) new some) (record {
              may = may;
              line_of = record { event = e.0; told = e.1; is = refl };
              leads = subst (λ (s : Outcome). LeadsTo turn config s text (At (suc turn) new some)) (sym is) (refl, refl);
            }) r.0 r.1 r.2,
          )
      by_outcome label may (Over verdict) is good =
          let e = laws.event core laws.sound config kinded label may turn in
          let end = ending_at verdict config in (
            told_first label [] (told_last end),
            event_line e.0 ++ ending_line core end,
            goes_on core laws turn config left (event_line e.0) label [] (End end) (record {
              may = may;
              line_of = record { event = e.0; told = e.1; is = refl };
              leads = subst (λ (s : Outcome). LeadsTo turn config s [] (End end)) (sym is) (refl, refl);
            }) (told_last end) (ending_line core end) (refl, refl),
          )
      by_outcome label may outcome.Spent is good =
          let end = ending_at OutOfSteps config in
          (told_last end, ending_line core end, rest_ends core laws (At turn config left) end (inr (record { label = label; may_come = may; spent = is; out_of_steps = refl })))
      by_outcome label may outcome.Amiss is good = absurd good

      by_enabled : (ls : List Label) → enabled config ≡ ls → (told : Told) × (log : List ℕ) × GoesOn core turn config left told log
      by_enabled [] none =
          (told_last (at_rest config), ending_line core (at_rest config), rest_ends core laws (At turn config left) (at_rest config) (inl (ap (λ (ls : List Label). ending_of ls config) none)))
      by_enabled (label ∷ ls) some =
          let may : Contains (enabled config) label = subst (λ (xs : List Label). Contains xs label) (sym some) (contains-at (label ∷ ls) 0 label refl) in
          by_outcome label may (step core config label left) refl (laws.keeps config kinded label may left)

  some_from : (n turn : ℕ) (config : Config) (left : ℕ) → left ≤ n → Kinded core config → (told : Told) × (log : List ℕ) × GoesOn core turn config left told log
  some_from zero turn config left most kinded = some_here turn config left kinded (λ new rest less good. absurd (omega arith))
  some_from (suc n) turn config left most kinded =
      some_here turn config left kinded (λ new rest less good. some_from n (suc turn) new rest (omega arith) good)

  pub some_rest : (place : Place) → IsSoundAt core place → (told : Told) × (log : List ℕ) × Rest core place told log
  some_rest (At turn config left) kinded = some_from left turn config left (omega arith) kinded
  some_rest (End end) sound = (told_last end, ending_line core end, (refl, refl))

  -- what is logged begins with a line

  pub line_there : (place : Place) → IsSoundAt core place → (told : Told) (log : List ℕ) → Rest core place told log → (line : List ℕ) × (first_lines 1 log ≡ Some line)
  unfolding Runs
  line_there (End end) sound told log r =
      (ending_line core end, ap (first_lines 1) r.1 ∙ sound)
  line_there (At turn config left) kinded told log g = by told.labels refl
    where
      by_events : (label : Label) → Contains (enabled config) label → (events : List Event) → g.events ≡ events
          → (os : List (Option Event)) → event_at core turn config label ∷ os ≡ map Some g.events → (line : List ℕ) × (first_lines 1 log ≡ Some line)
      by_events label may events is os e =
          let f = first_some _ os g.events e in
          let own : IsLine (event_line f.0) = event_in_line core turn config label f.0 (laws.there core laws.sound config kinded label may) f.3 in (
            event_line f.0,
            ap (first_lines 1) (g.is ∙ ap (λ (events : List Event). flat_map event_line events ++ ending_line core told.ending) f.2
                ∙ append_assoc (event_line f.0) (flat_map event_line f.1) (ending_line core told.ending)) ∙ alone (event_line f.0) _ own,
          )

      by : (labels : List Label) → told.labels ≡ labels → (line : List ℕ) × (first_lines 1 log ≡ Some line)
      by [] none =
          let told_of : along (event_told core) nothing core turn config left [] ≡ map Some g.events
          = ap (along (event_told core) nothing core turn config left) (sym none) ∙ g.are in
          let no : g.events ≡ [] = no_events g.events (sym (along-none (event_told core) nothing core turn config left) ∙ told_of) in
          let ends : MayEnd core (At turn config left) told.ending
          = subst (λ (ls : List Label). Runs MayDerive core turn config left ls told.ending) none g.runs.0 in (
            ending_line core told.ending,
            ap (first_lines 1) (g.is ∙ ap (λ (events : List Event). flat_map event_line events ++ ending_line core told.ending) no)
                ∙ end_is_line core laws (At turn config left) told.ending kinded ends,
          )
      by (label ∷ labels) some =
          let runs = subst (λ (ls : List Label). Runs MayDerive core turn config left ls told.ending) some g.runs.0 in
          by_events label runs.0 g.events refl _
          (sym (along-step (event_told core) nothing core turn config left label labels (step core config label left) refl)
          ∙ ap (along (event_told core) nothing core turn config left) (sym some) ∙ g.are)

  -- and tells one run

  shorter : (label : Label) (output : List ℕ) (told rest : Told) (n : ℕ) → told ≡ told_first label output rest → length told.labels ≤ suc n → length rest.labels ≤ n
  shorter label output told rest n same most =
      let longer : length told.labels ≡ suc (length rest.labels) = ap (λ (t : Told). length t.labels) same in omega arith

  one_here : (turn : ℕ) (config : Config) (left : ℕ) → Kinded core config → (told other : Told) (line more : List ℕ) → IsLine line
      → ((label : Label) (output : List ℕ) (next : Place) → IsSoundAt core next → (rest : Told) → told ≡ told_first label output rest
      → (more' : Told) → Rest core next rest more → Rest core next more' more → rest ≡ more')
      → NextIs core laws turn config left told line more → NextIs core laws turn config left other line more → told ≡ other
  one_here turn config left kinded told other line more is below (a_label l next output t rest r same) (a_label m next' output' t' rest' r' same') =
      let w = one_way core laws turn config left kinded line l m output output' next next' t t' in
      let there : Rest core next rest' more = subst (λ (p : Place). Rest core p rest' more) (sym w.2) r' in
      let rests : rest ≡ rest' = below l output next (leads_sound core laws turn config left line l output next kinded t) rest same rest' r there in
      same ∙ (λ k. told_first (w.0 k) (w.1 k) (rests k)) ∙ sym same'
  one_here turn config left kinded told other line more is below (a_label l next output t rest r same) (an_end end may line_of none same') =
      absurd (apart core t.line_of.event end (t.line_of.is ∙ sym line_of))
  one_here turn config left kinded told other line more is below (an_end end may line_of none same) (a_label m next' output' t' rest' r' same') =
      absurd (apart core t'.line_of.event end (t'.line_of.is ∙ sym line_of))
  one_here turn config left kinded told other line more is below (an_end end may line_of none same) (an_end end' may' line_of' none' same') =
      same ∙ ap told_last (same_end core laws (At turn config left) end end' may may') ∙ sym same'

  one_from : (n : ℕ) (place : Place) → IsSoundAt core place → (told other : Told) (log : List ℕ) → length told.labels ≤ n
      → Rest core place told log → Rest core place other log → told ≡ other
  one_from n (End end) sound told other log most r r' = r.0 ∙ sym r'.0
  one_from zero (At turn config left) kinded told other log most g g' =
      let l = line_there (At turn config left) kinded told log g in
      let c = first_is_front 1 log l.0 l.1 in
      let P : List ℕ → Told → Type 0 = λ x t. GoesOn core turn config left t x in
      one_here turn config left kinded told other l.0 c.0 (first_is_line log l.0 l.1)
      (λ label output next sound' rest same more' r r'. absurd (
      let longer : length told.labels ≡ suc (length rest.labels) = ap (λ (t : Told). length t.labels) same in omega arith))
      (next_is core laws turn config left kinded l.0 c.0 (first_is_line log l.0 l.1) told (subst (λ (x : List ℕ). P x told) c.1 g))
      (next_is core laws turn config left kinded l.0 c.0 (first_is_line log l.0 l.1) other (subst (λ (x : List ℕ). P x other) c.1 g'))
  one_from (suc n) (At turn config left) kinded told other log most g g' =
      let l = line_there (At turn config left) kinded told log g in
      let c = first_is_front 1 log l.0 l.1 in
      let P : List ℕ → Told → Type 0 = λ x t. GoesOn core turn config left t x in
      one_here turn config left kinded told other l.0 c.0 (first_is_line log l.0 l.1)
      (λ label output next sound' rest same more' r r'. one_from n next sound' rest more' c.0 (shorter label output told rest n same most) r r')
      (next_is core laws turn config left kinded l.0 c.0 (first_is_line log l.0 l.1) told (subst (λ (x : List ℕ). P x told) c.1 g))
      (next_is core laws turn config left kinded l.0 c.0 (first_is_line log l.0 l.1) other (subst (λ (x : List ℕ). P x other) c.1 g'))

  pub one_rest : (place : Place) → IsSoundAt core place → (told other : Told) (log : List ℕ) → Rest core place told log → Rest core place other log → told ≡ other
  one_rest place sound told other log r r' = one_from (length told.labels) place sound told other log (omega arith) r r'
