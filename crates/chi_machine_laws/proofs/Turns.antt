-- Over any list of calls the machine takes the labels that the policy picks.
use Rattle.std.proofs.Common.{◌≡◌, ℕ, zero, suc, List, [], ◌∷◌, ◌++◌, append_assoc, Option, Some, None, refl, sym, ap, subst, ◌∙◌}
use Rattle.std.proofs.lemmas.List.{map-append}
use Rattle.chi_core.specs.declared.label.Label.{Label}
use Rattle.chi_core.specs.declared.program.Core.{Core}
use Rattle.chi_core.specs.declared.verdict.Verdict.{Verdict}
use Rattle.chi_core.specs.declared.verdict.Verdict.TheVariants.{OutOfSteps}
use Rattle.chi_core.specs.Config.{Config}
use Rattle.chi_core.specs.Options.{Ending, ending_at, ending}
use Rattle.chi_core.specs.Picks.{Pick, MayPick, picked_label, PicksFrom}
use Rattle.chi_core.specs.Runs.{nothing}
use Rattle.chi_core.specs.Step as step
use Rattle.chi_core_runs.proofs.Turns.{along-none, along-step, from-on, from-over, from-cut, from-rest}
use Rattle.chi_code.specs.declared.code.Code.{Code}
use Rattle.chi_code.specs.Codes.{Codes}
use Rattle.chi_machine_laws.specs.Instances.{Whole}
use Rattle.chi_machine_laws.specs.Choosing.{config_of}
use Rattle.chi_machine_laws.specs.Labels.{GoesOn, Over, Spent, Takes}
use Rattle.chi_machine_laws.specs.Laws.{Calling}
use Rattle.chi_machine_laws.specs.Stands.{Stands, Follows}
use Rattle.chi_machine_laws.specs.Turns.{Event, event, labels_of, Reached, Going, Ended, Advances, pauses, rests, cut_off, over, goes, AllAdvance, no_call, last_call, a_call, event_told, events_from, InBound, StaysInBound, Safe, told_of, told_after, PicksFirst, Follow}
use Rattle.chi_machine_laws.proofs.Choosing.{ending_alike, picked_alike}
use Rattle.chi_machine_laws.proofs.Exact.{steps_are_right}
use Rattle.chi_machine_laws.proofs.Steps.{steps_follow}

-- what comes first, and then the rest

labels_joined : (events others : List Event) → labels_of (events ++ others) ≡ labels_of events ++ labels_of others
labels_joined events others = map-append (λ (e : Event). e.label) events others

labels_then : (events others : List Event) (labels : List Label) → labels_of (events ++ others) ++ labels ≡ labels_of events ++ (labels_of others ++ labels)
labels_then events others labels = ap (λ ls. ls ++ labels) (labels_joined events others) ∙ append_assoc (labels_of events) (labels_of others) labels

module _ (core : Core) (pick : Pick) where
  nothing_first : (turn : ℕ) (config : Config) (left : ℕ) → PicksFirst core pick turn config left [] [] turn config left
  nothing_first turn config left = record { picks = λ told p. p; are = λ labels. refl }

  -- one label that goes on
  one_first : (turn : ℕ) (config : Config) (left : ℕ) (label : Label) (new : Config) (text : List ℕ) (rest : ℕ) → MayPick pick turn config label → step.step core config label left ≡ step.Next new text rest
      → PicksFirst core pick turn config left (event turn label new.clock ∷ []) text (suc turn) new rest
  one_first turn config left label new text rest may e = record {
    picks = λ told p. from-on (MayPick pick) core turn config left label new text rest told may e p;
    are = λ labels. along-step event_told nothing core turn config left label labels (step.Next new text rest) e;
  }

  module _ (turn : ℕ) (config : Config) (left : ℕ) (events : List Event) (text : List ℕ) (later : ℕ) (new : Config) (rest : ℕ) (first : PicksFirst core pick turn config left events text later new rest) where
    more_first : (others : List Event) (more : List ℕ) (last : ℕ) (final : Config) (few : ℕ) → PicksFirst core pick later new rest others more last final few
        → PicksFirst core pick turn config left (events ++ others) (text ++ more) last final few
    more_first others more last final few next = record {
      picks = λ told p.
          let same : told_after events text (told_after others more told) ≡ told_after (events ++ others) (text ++ more) told =
          λ j. record { labels = sym (labels_then events others told.labels) j; ending = told.ending; output = sym (append_assoc text more told.output) j } in
          subst (λ t. PicksFrom core pick turn config left t) same (first.picks (told_after others more told) (next.picks told p));
      are = λ labels.
          ap (events_from core turn config left) (labels_then events others labels) ∙ first.are (labels_of others ++ labels)
          ∙ ap (λ es. events ++ es) (next.are labels) ∙ sym (append_assoc events others (events_from core last final few labels));
    }

    follow_then : (code : Code) (others : List Event) (more : List ℕ) (r : Reached) → Follow core code pick later new rest others more r → Follow core code pick turn config left (events ++ others) (text ++ more) r
    follow_then code others more (Ended end) f =
        let same : told_after events text (told_of others more end) ≡ told_of (events ++ others) (text ++ more) end =
        λ j. record { labels = sym (labels_joined events others) j; ending = end; output = text ++ more } in (
          subst (λ t. PicksFrom core pick turn config left t) same (first.picks (told_of others more end) f.0),
          ap (events_from core turn config left) (labels_joined events others) ∙ first.are (labels_of others) ∙ ap (λ es. events ++ es) f.1,
        )
    follow_then code others more (Going last m few) f = (f.0, f.1, f.2, more_first others more last f.0 few f.3)

module _ (core : Core) (code : Code) (codes : Codes core code) (pick : Pick) (safe : Safe core pick) where
  abbrev Right : ℕ → Config → ℕ → List Event → List ℕ → Reached → Type 0
  Right turn config left events text r = Follow core code pick turn config left events text r

  -- whatever a label takes the machine to is what the language's step comes to, which isn't amiss
  module _ (turn : ℕ) (config : Config) (m : Whole) (left : ℕ) (good : InBound core turn config left) (st : Stands core code config m) (label : Label) (own : picked_label pick turn (config_of m) ≡ Some label) where
    may : MayPick pick turn config label
    may = sym (picked_alike core code config m st pick turn) ∙ own

    cut_right : Takes code m label left Spent → Right turn config left [] [] (Ended (ending_at OutOfSteps (config_of m)))
    cut_right t = by_outcome (step.step core config label left) refl (safe.keeps turn config left good label may) (steps_are_right core code codes config m st label left Spent t)
      where
        by_outcome : (o : step.Outcome) → step.step core config label left ≡ o → StaysInBound core turn o → Follows (λ u. Spent ≡ u) core code o → Right turn config left [] [] (Ended (ending_at OutOfSteps (config_of m)))
        by_outcome (step.Next new text rest) e stays f = let same = f.1 in absurd (cc)
        by_outcome (step.Over verdict) e stays f = absurd (cc)
        by_outcome step.Spent e stays f =
            subst (λ clock. Right turn config left [] [] (Ended (record { verdict = OutOfSteps; clock = clock }))) (sym st.clock)
            (from-cut (MayPick pick) core turn config left label may e, along-none event_told nothing core turn config left)
        by_outcome step.Amiss e stays f = absurd stays

    over_right : (verdict : Verdict) → Takes code m label left (Over verdict) → Right turn config left (event turn label m.clock ∷ []) [] (Ended (ending_at verdict (config_of m)))
    over_right verdict t = by_outcome (step.step core config label left) refl (safe.keeps turn config left good label may) (steps_are_right core code codes config m st label left (Over verdict) t)
      where
        by_outcome : (o : step.Outcome) → step.step core config label left ≡ o → StaysInBound core turn o → Follows (λ u. Over verdict ≡ u) core code o
            → Right turn config left (event turn label m.clock ∷ []) [] (Ended (ending_at verdict (config_of m)))
        by_outcome (step.Next new text rest) e stays f = let same = f.1 in absurd (cc)
        by_outcome (step.Over other) e stays f =
            let same : other ≡ verdict = cc in
            subst (λ clock. Right turn config left (event turn label clock ∷ []) [] (Ended (record { verdict = verdict; clock = clock }))) (sym st.clock)
            (from-over (MayPick pick) core turn config left label verdict may (e ∙ ap step.Over same), along-step event_told nothing core turn config left label [] (step.Over other) e)
        by_outcome step.Spent e stays f = absurd (cc)
        by_outcome step.Amiss e stays f = absurd stays

    on_right : (new : Whole) (text : List ℕ) (rest : ℕ) → Takes code m label left (GoesOn new text rest) → (events : List Event) (more : List ℕ) (r : Reached)
        → ((after : Config) → InBound core (suc turn) after rest → Stands core code after new → Right (suc turn) after rest events more r)
        → Right turn config left (event turn label new.clock ∷ events) (text ++ more) r
    on_right new text rest t events more r next = by_outcome (step.step core config label left) refl (safe.keeps turn config left good label may) (steps_are_right core code codes config m st label left (GoesOn new text rest) t)
      where
        by_outcome : (o : step.Outcome) → step.step core config label left ≡ o → StaysInBound core turn o → Follows (λ u. GoesOn new text rest ≡ u) core code o → Right turn config left (event turn label new.clock ∷ events) (text ++ more) r
        by_outcome (step.Next after written few) e stays f =
            let same : GoesOn new text rest ≡ GoesOn f.0 written few = f.1 in
            let news : f.0 ≡ new = cc in
            let texts : written ≡ text = cc in
            let fews : few ≡ rest = cc in
            let stood : Stands core code after new = subst (Stands core code after) news f.2 in
            let good' : InBound core (suc turn) after rest = subst (InBound core (suc turn) after) fews stays in
            let e' : step.step core config label left ≡ step.Next after text rest = e ∙ (λ j. step.Next after (texts j) (fews j)) in
            subst (λ clock. Right turn config left (event turn label clock ∷ events) (text ++ more) r) (sym stood.clock)
            (follow_then core pick turn config left (event turn label after.clock ∷ []) text (suc turn) after rest (one_first core pick turn config left label after text rest may e') code events more r (next after good' stood))
        by_outcome (step.Over verdict) e stays f = absurd (cc)
        by_outcome step.Spent e stays f = absurd (cc)
        by_outcome step.Amiss e stays f = absurd stays

  -- whatever a call does is right
  call_is_right : (n turn : ℕ) (config : Config) (m : Whole) (left : ℕ) (events : List Event) (text : List ℕ) (r : Reached) → InBound core turn config left → Stands core code config m
      → Advances code pick n turn m left events text r → Right turn config left events text r
  call_is_right _ _ config _ _ _ _ _ good st (pauses turn left m on) = (config, good, st, nothing_first core pick turn config left)
  call_is_right _ _ config _ _ _ _ _ good st (rests n turn left m end e) =
      (from-rest (MayPick pick) core turn config left end (sym (ending_alike core code config m st) ∙ e), along-none event_told nothing core turn config left)
  call_is_right _ _ config _ _ _ _ _ good st (cut_off n turn left m label on own t) = cut_right turn config m left good st label own t
  call_is_right _ _ config _ _ _ _ _ good st (over n turn left m label verdict on own t) = over_right turn config m left good st label own verdict t
  call_is_right _ _ config _ _ _ _ _ good st (goes n turn left rest m new label text more events r on own t a) =
      on_right turn config m left good st label own new text rest t events more r (λ after good' st'. call_is_right n (suc turn) after new rest events more r good' st' a)

  pub calls_are_right : (calls : List ℕ) (turn : ℕ) (config : Config) (m : Whole) (left : ℕ) → InBound core turn config left → Stands core code config m → (events : List Event) (text : List ℕ) (r : Reached)
      → AllAdvance code pick calls turn m left events text r → Right turn config left events text r
  calls_are_right _ _ config _ _ good st _ _ _ (no_call turn left m) = (config, good, st, nothing_first core pick turn config left)
  calls_are_right _ _ config _ _ good st _ _ _ (last_call n ns turn left m events text end a) = call_is_right n turn config m left events text (Ended end) good st a
  calls_are_right _ _ config _ _ good st _ _ _ (a_call n ns turn left later rest m new events others text more r a b) =
      let f = call_is_right n turn config m left events text (Going later new rest) good st a in
      follow_then core pick turn config left events text later f.0 rest f.3 code others more r (calls_are_right ns later f.0 new rest f.1 f.2 others more r b)

  -- and there is something that it does

  record Turning (turns turn : ℕ) (m : Whole) (left : ℕ) : Type 0 where
    events : List Event
    text : List ℕ
    reached : Reached
    advances : Advances code pick turns turn m left events text reached

  abbrev Goes_on : ℕ → Type 0
  Goes_on turns = (turn : ℕ) (config : Config) (m : Whole) (left : ℕ) → InBound core turn config left → Stands core code config m → Turning turns turn m left

  by_label : (turns : ℕ) → Goes_on turns → (turn : ℕ) (m : Whole) (left : ℕ) → ending (config_of m) ≡ None → (label : Label) → picked_label pick turn (config_of m) ≡ Some label → (o : step.Outcome)
      → StaysInBound core turn o → Follows (Takes code m label left) core code o → Turning (suc turns) turn m left
  by_label turns next turn m left on label own (step.Next new text rest) good f =
      let t = next (suc turn) new f.0 rest good f.2 in
      record { events = _; text = _; reached = t.reached; advances = goes turns turn left rest m f.0 label text t.text t.events t.reached on own f.1 t.advances }
  by_label turns next turn m left on label own (step.Over verdict) good f = record { events = _; text = _; reached = _; advances = over turns turn left m label verdict on own f }
  by_label turns next turn m left on label own step.Spent good f = record { events = _; text = _; reached = _; advances = cut_off turns turn left m label on own f }
  by_label turns next turn m left on label own step.Amiss good f = absurd good

  none_more : (turn : ℕ) (m : Whole) (left : ℕ) (o : Option Ending) → ending (config_of m) ≡ o → Turning zero turn m left
  none_more turn m left (Some end) e = record { events = _; text = _; reached = _; advances = rests zero turn left m end e }
  none_more turn m left None e = record { events = _; text = _; reached = _; advances = pauses turn left m e }

  some_more : (turns : ℕ) → Goes_on turns → (turn : ℕ) (config : Config) (m : Whole) (left : ℕ) → InBound core turn config left → Stands core code config m → (o : Option Ending) → ending (config_of m) ≡ o → Turning (suc turns) turn m left
  some_more turns next turn config m left good st (Some end) e = record { events = _; text = _; reached = _; advances = rests (suc turns) turn left m end e }
  some_more turns next turn config m left good st None e =
      let l = safe.chooses turn config left good (sym (ending_alike core code config m st) ∙ e) in
      by_label turns next turn m left e l.0 (picked_alike core code config m st pick turn ∙ l.1) (step.step core config l.0 left) (safe.keeps turn config left good l.0 l.1) (steps_follow core code codes config m st l.0 left)

  turns_go : (turns : ℕ) → Goes_on turns
  turns_go zero turn config m left good st = none_more turn m left (ending (config_of m)) refl
  turns_go (suc turns) turn config m left good st = some_more turns (turns_go turns) turn config m left good st (ending (config_of m)) refl

  record Called (calls : List ℕ) (turn : ℕ) (m : Whole) (left : ℕ) : Type 0 where
    events : List Event
    text : List ℕ
    reached : Reached
    advance : AllAdvance code pick calls turn m left events text reached

  by_reached : (n : ℕ) (ns : List ℕ) (turn : ℕ) (config : Config) (m : Whole) (left : ℕ) → ((later : ℕ) (new : Config) (m : Whole) (rest : ℕ) → InBound core later new rest → Stands core code new m → Called ns later m rest)
      → (events : List Event) (text : List ℕ) (r : Reached) → Advances code pick n turn m left events text r → Right turn config left events text r → Called (n ∷ ns) turn m left
  by_reached n ns turn config m left next events text (Ended end) a f = record { events = _; text = _; reached = _; advance = last_call n ns turn left m events text end a }
  by_reached n ns turn config m left next events text (Going later new rest) a f =
      let c = next later f.0 new rest f.1 f.2 in
      record { events = _; text = _; reached = _; advance = a_call n ns turn left later rest m new events c.events text c.text c.reached a c.advance }

  calls_go : (calls : List ℕ) (turn : ℕ) (config : Config) (m : Whole) (left : ℕ) → InBound core turn config left → Stands core code config m → Called calls turn m left
  calls_go [] turn config m left good st = record { events = _; text = _; reached = _; advance = no_call turn left m }
  calls_go (n ∷ ns) turn config m left good st =
      let t = turns_go n turn config m left good st in
      by_reached n ns turn config m left (calls_go ns) t.events t.text t.reached t.advances (call_is_right n turn config m left t.events t.text t.reached good st t.advances)

  pub calls_follow : (calls : List ℕ) (turn : ℕ) (config : Config) (m : Whole) (left : ℕ) → InBound core turn config left → Stands core code config m → Calling core code pick calls turn config m left
  calls_follow calls turn config m left good st =
      let c = calls_go calls turn config m left good st in
      record { events = c.events; text = c.text; reached = c.reached; advance = c.advance; follow = calls_are_right calls turn config m left good st c.events c.text c.reached c.advance }
