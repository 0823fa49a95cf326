-- What the next line of a run tells, and where it leads.
use Rattle.std.proofs.Common.{◌≡◌, ℕ, suc, List, [], ◌∷◌, ◌++◌, map, Option, Some, None, append_assoc, append-nil, sym, ◌∙◌, ap, subst, refl}
use Rattle.std.specs.List.{flat_map, Contains}
use Rattle.chi_core.specs.declared.label.Label.{Label}
use Rattle.chi_core.specs.declared.program.Core.{Core}
use Rattle.chi_core.specs.declared.verdict.Verdict.{Verdict}
use Rattle.chi_core.specs.Config.{Config}
use Rattle.chi_core.specs.Kinded.{Kinded}
use Rattle.chi_core.specs.Options.{Ending, enabled, ending_at}
use Rattle.chi_core.specs.Runs.{After, MayDerive, Runs, Told, along, nothing, text_told, told_after}
use Rattle.chi_core.specs.Step as outcome
use Rattle.chi_core.specs.Step.{Outcome, Next, Over, step}
use Rattle.chi_core_kinds.specs.Keeps.{GoesKinded}
use Rattle.chi_core_runs.specs.Turns.{told_first, told_last}
use Rattle.chi_core_runs.proofs.Turns.{along-none, along-step, from-on, from-over}
use Rattle.chi_trace.specs.declared.event.Event.{Event}
use Rattle.chi_trace.specs.Lines.{event_line}
use Rattle.chi_trace_events.specs.Traces.{event_told}
use Rattle.chi_log.specs.Allowed.{ending_line}
use Rattle.chi_log.specs.Reading.{At, End, GoesOn, IsLine, IsLineOf, IsSoundAt, LeadsTo, MayEnd, Place, Rest, Tells}
use Rattle.chi_log.proofs.EventLines.{event_in_line, same_label}
use Rattle.chi_log.proofs.Lines.{one_cut}
use Rattle.chi_log.proofs.Numbered.{numbered, over_named}
use Rattle.chi_log.proofs.Places.{Laws, end_is_line, end_told}

-- a line is that of a label's event, and what is logged after it
record Cut (core : Core) (turn : ℕ) (config : Config) (label : Label) (labels : List Label) (end : Ending) (line more : List ℕ) (s : Outcome) : Type 0 where
  line_of : IsLineOf core turn config label line
  events : List Event
  are : told_after (λ new rest. along (event_told core) nothing core (suc turn) new rest labels) s ≡ map Some events
  left_over : more ≡ flat_map event_line events ++ ending_line core end

-- the events of labels, which all have one

pub first_some : (o : Option Event) (os : List (Option Event)) (events : List Event) → o ∷ os ≡ map Some events
    → (e : Event) × (es : List Event) × (events ≡ e ∷ es) × (o ≡ Some e) × (os ≡ map Some es)
first_some o os [] e = absurd (cc)
first_some o os (x ∷ xs) e = (x, xs, refl, ap first e, ap rest e)
  where
    first : List (Option Event) → Option Event
    first [] = None
    first (y ∷ ys) = y

    rest : List (Option Event) → List (Option Event)
    rest [] = []
    rest (y ∷ ys) = ys

pub no_events : (events : List Event) → [] ≡ map Some events → events ≡ []
no_events [] e = refl
no_events (x ∷ xs) e = absurd (cc)

module _ (core : Core) (laws : Laws core) where
  -- a run goes on

  line_before : (e : Event) (events : List Event) (end : Ending) (line log : List ℕ) → event_line e ≡ line
      → log ≡ flat_map event_line events ++ ending_line core end → line ++ log ≡ flat_map event_line (e ∷ events) ++ ending_line core end
  line_before e events end line log same is =
      (λ k. sym same k ++ is k) ∙ sym (append_assoc (event_line e) (flat_map event_line events) (ending_line core end))

  pub goes_on : (turn : ℕ) (config : Config) (left : ℕ) (line : List ℕ) (label : Label) (output : List ℕ) (next : Place)
      → Tells core turn config left line label output next → (rest : Told) (log : List ℕ) → Rest core next rest log
      → GoesOn core turn config left (told_first label output rest) (line ++ log)
  goes_on turn config left line label output next t rest log r = by_outcome (step core config label left) refl t.leads
    where
      e : Event
      e = t.line_of.event

      on : (new : Config) (text : List ℕ) (some : ℕ) → step core config label left ≡ Next new text some → (told : Told)
          → GoesOn core (suc turn) new some told log → GoesOn core turn config left (told_first label text told) (line ++ log)
      on new text some is told g = record {
        runs = from-on MayDerive core turn config left label new text some told t.may is g.runs;
        events = e ∷ g.events;
        are = along-step (event_told core) nothing core turn config left label told.labels (Next new text some) is ∙ (λ k. t.line_of.told k ∷ g.are k);
        is = line_before e g.events told.ending line log t.line_of.is g.is;
      }

      over : (verdict : Verdict) → step core config label left ≡ Over verdict → (told : Told) → told ≡ told_last (ending_at verdict config)
          → log ≡ ending_line core (ending_at verdict config) → GoesOn core turn config left (told_first label [] told) (line ++ log)
      over verdict is told same last =
          subst (λ (x : Told). GoesOn core turn config left (told_first label [] x) (line ++ log)) (sym same) (record {
            runs = from-over MayDerive core turn config left label verdict t.may is;
            events = e ∷ [];
            are = along-step (event_told core) nothing core turn config left label [] (Over verdict) is ∙ (λ k. t.line_of.told k ∷ []);
            is = line_before e [] (ending_at verdict config) line log t.line_of.is last;
          })

      by_outcome : (s : Outcome) → step core config label left ≡ s → LeadsTo turn config s output next
          → GoesOn core turn config left (told_first label output rest) (line ++ log)
      by_outcome (Next new text some) is l =
          let there : Rest core (At (suc turn) new some) rest log = subst (λ (p : Place). Rest core p rest log) l.1 r in
          subst (λ (o : List ℕ). GoesOn core turn config left (told_first label o rest) (line ++ log)) (sym l.0) (on new text some is rest there)
      by_outcome (Over verdict) is l =
          let there : Rest core (End (ending_at verdict config)) rest log = subst (λ (p : Place). Rest core p rest log) l.1 r in
          subst (λ (o : List ℕ). GoesOn core turn config left (told_first label o rest) (line ++ log)) (sym l.0) (over verdict is rest there.0 there.1)
      by_outcome outcome.Spent is l = absurd l
      by_outcome outcome.Amiss is l = absurd l

  -- what the next line of a run tells
  pub data NextIs (turn : ℕ) (config : Config) (left : ℕ) (told : Told) (line more : List ℕ) : Type 0 where
    a_label : (label : Label) (next : Place) (output : List ℕ) → Tells core turn config left line label output next → (rest : Told) → Rest core next rest more
        → told ≡ told_first label output rest → NextIs turn config left told line more
    an_end : (end : Ending) → MayEnd core (At turn config left) end → ending_line core end ≡ line → more ≡ [] → told ≡ told_last end
        → NextIs turn config left told line more

  module _ (turn : ℕ) (config : Config) (left : ℕ) (kinded : Kinded core config) (line more : List ℕ) (is_line : IsLine line) where
    ended_next : (end : Ending) (output : List ℕ) → GoesOn core turn config left (record { labels = []; ending = end; output = output }) (line ++ more)
        → NextIs turn config left (record { labels = []; ending = end; output = output }) line more
    unfolding Runs
    ended_next end output g =
        let none : g.events ≡ [] = no_events g.events (sym (along-none (event_told core) nothing core turn config left) ∙ g.are) in
        let whole : line ++ more ≡ ending_line core end ++ []
        = g.is ∙ ap (λ (events : List Event). flat_map event_line events ++ ending_line core end) none ∙ sym (append-nil (ending_line core end)) in
        let cut = one_cut line (ending_line core end) more [] is_line (end_is_line core laws (At turn config left) end kinded g.runs.0) whole in
        let silent : output ≡ [] = g.runs.1 ∙ along-none text_told nothing core turn config left in
        an_end end g.runs.0 (sym cut.0) cut.1 (λ k. record { labels = []; ending = end; output = silent k })

    label_next : (label : Label) (labels : List Label) (end : Ending) (output : List ℕ)
        → GoesOn core turn config left (record { labels = label ∷ labels; ending = end; output = output }) (line ++ more)
        → NextIs turn config left (record { labels = label ∷ labels; ending = end; output = output }) line more
    unfolding Runs
    label_next label labels end output g = by_outcome (step core config label left) refl g.runs.0.1
      where
        may : Contains (enabled config) label
        may = g.runs.0.0

        cut_at : (s : Outcome) → step core config label left ≡ s → Cut core turn config label labels end line more s
        cut_at s is =
            let f = first_some _ _ g.events (sym (along-step (event_told core) nothing core turn config left label labels s is) ∙ g.are) in
            let own : IsLine (event_line f.0) = event_in_line core turn config label f.0 (laws.there core laws.sound config kinded label may) f.3 in
            let whole : line ++ more ≡ event_line f.0 ++ (flat_map event_line f.1 ++ ending_line core end)
            = g.is ∙ ap (λ (events : List Event). flat_map event_line events ++ ending_line core end) f.2
            ∙ append_assoc (event_line f.0) (flat_map event_line f.1) (ending_line core end) in
            let c = one_cut line (event_line f.0) more _ is_line own whole in
            record { line_of = record { event = f.0; told = f.3; is = sym c.0 }; events = f.1; are = f.4; left_over = c.1 }

        written : (s : Outcome) → step core config label left ≡ s
            → output ≡ text_told turn config label s ++ told_after (λ new rest. along text_told nothing core (suc turn) new rest labels) s
        written s is = g.runs.1 ∙ along-step text_told nothing core turn config left label labels s is

        by_outcome : (s : Outcome) → step core config label left ≡ s → After (λ new rest. Runs MayDerive core (suc turn) new rest labels end) s config labels end
            → NextIs turn config left (record { labels = label ∷ labels; ending = end; output = output }) line more
        by_outcome (Next new text some) is a =
            let c = cut_at (Next new text some) is in
            let after_it : Told = record { labels = labels; ending = end; output = along text_told nothing core (suc turn) new some labels } in
            a_label label (At (suc turn) new some) text
            (record { may = may; line_of = c.line_of; leads = subst (λ (s : Outcome). LeadsTo turn config s text (At (suc turn) new some)) (sym is) (refl, refl) })
            after_it (record { runs = (a, refl); events = c.events; are = c.are; is = c.left_over })
            (λ k. record { labels = label ∷ labels; ending = end; output = written (Next new text some) is k })
        by_outcome (Over verdict) is a =
            let c = cut_at (Over verdict) is in
            let none : c.events ≡ [] = no_events c.events c.are in
            let rest : more ≡ ending_line core (ending_at verdict config)
            = c.left_over ∙ ap (λ (events : List Event). flat_map event_line events ++ ending_line core end) none ∙ ap (ending_line core) a.1 in
            a_label label (End (ending_at verdict config)) []
            (record { may = may; line_of = c.line_of; leads = subst (λ (s : Outcome). LeadsTo turn config s [] (End (ending_at verdict config))) (sym is) (refl, refl) })
            (told_last (ending_at verdict config)) (refl, rest)
            (λ k. record { labels = label ∷ a.0 k; ending = a.1 k; output = written (Over verdict) is k })
        by_outcome outcome.Spent is a = absurd a
        by_outcome outcome.Amiss is a = absurd a

    pub next_is : (told : Told) → GoesOn core turn config left told (line ++ more) → NextIs turn config left told line more
    next_is told g = by told.labels refl
      where
        by : (labels : List Label) → told.labels ≡ labels → NextIs turn config left told line more
        by [] none =
            let same : told ≡ record { labels = []; ending = told.ending; output = told.output } = λ k. record { labels = none k; ending = told.ending; output = told.output } in
            subst (λ (t : Told). NextIs turn config left t line more) (sym same)
            (ended_next told.ending told.output (subst (λ (t : Told). GoesOn core turn config left t (line ++ more)) same g))
        by (label ∷ labels) some =
            let same : told ≡ record { labels = label ∷ labels; ending = told.ending; output = told.output }
            = λ k. record { labels = some k; ending = told.ending; output = told.output } in
            subst (λ (t : Told). NextIs turn config left t line more) (sym same)
            (label_next label labels told.ending told.output (subst (λ (t : Told). GoesOn core turn config left t (line ++ more)) same g))

  -- the place to which a line leads is sound

  pub leads_sound : (turn : ℕ) (config : Config) (left : ℕ) (line : List ℕ) (label : Label) (output : List ℕ) (next : Place) → Kinded core config
      → Tells core turn config left line label output next → IsSoundAt core next
  leads_sound turn config left line label output next kinded t = by (step core config label left) refl (laws.keeps config kinded label t.may left) t.leads
    where
      by : (s : Outcome) → step core config label left ≡ s → GoesKinded core s → LeadsTo turn config s output next → IsSoundAt core next
      by (Next new text some) is good l = subst (IsSoundAt core) (sym l.1) good
      by (Over verdict) is good l =
          subst (IsSoundAt core) (sym l.1) (end_told core laws (ending_at verdict config) (over_named core laws.sound config label left verdict is))
      by outcome.Spent is good l = absurd l
      by outcome.Amiss is good l = absurd l

  -- a line tells one label, and leads to one place

  same_lead : (turn : ℕ) (config : Config) (s : Outcome) (output other : List ℕ) (next there : Place) → LeadsTo turn config s output next
      → LeadsTo turn config s other there → (output ≡ other) × (next ≡ there)
  same_lead turn config (Next new text some) output other next there a b = (a.0 ∙ sym b.0, a.1 ∙ sym b.1)
  same_lead turn config (Over verdict) output other next there a b = (a.0 ∙ sym b.0, a.1 ∙ sym b.1)
  same_lead turn config outcome.Spent output other next there a b = absurd a
  same_lead turn config outcome.Amiss output other next there a b = absurd a

  pub one_label : (turn : ℕ) (config : Config) → Kinded core config → (l m : Label) → Contains (enabled config) l → Contains (enabled config) m
      → (line : List ℕ) → IsLineOf core turn config l line → IsLineOf core turn config m line → l ≡ m
  one_label turn config kinded l m may might line a b =
      same_label core turn config l m line (numbered core laws.keeps config kinded l may) (numbered core laws.keeps config kinded m might) a b

  pub one_way : (turn : ℕ) (config : Config) (left : ℕ) → Kinded core config → (line : List ℕ) (l m : Label) (output other : List ℕ) (next there : Place)
      → Tells core turn config left line l output next → Tells core turn config left line m other there → (l ≡ m) × (output ≡ other) × (next ≡ there)
  one_way turn config left kinded line l m output other next there a b =
      let same : l ≡ m = one_label turn config kinded l m a.may b.may line a.line_of b.line_of in
      let moved : LeadsTo turn config (step core config m left) output next
      = subst (λ (x : Label). LeadsTo turn config (step core config x left) output next) same a.leads in
      let rest = same_lead turn config (step core config m left) output other next there moved b.leads in
      (same, rest.0, rest.1)
