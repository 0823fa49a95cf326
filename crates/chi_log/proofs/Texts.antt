-- A log that is read: a line more of it, and its end.
use Rattle.std.proofs.Common.{◌≡◌, ℕ, List, [], ◌∷◌, ◌++◌, append_assoc, append-nil, sym, ◌∙◌, ap, subst, refl}
use Rattle.chi_core.specs.declared.label.Label.{Label}
use Rattle.chi_core.specs.declared.program.Core.{Core}
use Rattle.chi_core.specs.Beginning.{Beginning}
use Rattle.chi_core.specs.Config.{Config}
use Rattle.chi_core.specs.Kinded.{Kinded}
use Rattle.chi_core.specs.Options.{Ending}
use Rattle.chi_core.specs.Picks.{last_numbers, numbers_of, numbers_told, picks_of}
use Rattle.chi_core.specs.Runs.{Told}
use Rattle.chi_core.specs.Step as outcome
use Rattle.chi_core.specs.Step.{Outcome, Next, Over, step}
use Rattle.chi_core_runs.specs.Turns.{told_first, told_last}
use Rattle.chi_core_runs.proofs.Turns.{along-none, along-step}
use Rattle.chi_log.specs.Allowed.{ending_line, IsLogOf}
use Rattle.chi_log.specs.Reading.{At, End, GoesOn, IsLine, IsSoundAt, LeadsTo, MayEnd, Place, Read, ReadSoFar, Rest, Tells, numbers_last, numbers_left, read_more, told_before}
use Rattle.chi_log.proofs.Lines.{one_line_more}
use Rattle.chi_log.proofs.Places.{Laws, apart, line_is, rest_ends}
use Rattle.chi_log.proofs.Going.{NextIs, a_label, an_end, goes_on, leads_sound, next_is, one_way}

-- reading goes on

module _ (core : Core) (begin : Beginning) (bound : ℕ) (r : Read) (so_far : ReadSoFar core begin bound r) where
  -- what is left at a place, as it is left where the same place stands
  rest_at : (place other : Place) (told : Told) (log : List ℕ) → place ≡ other → Rest core place told log → Rest core other told log
  rest_at place other told log same rest = subst (λ (p : Place). Rest core p told log) same rest

  told_after_more : (label : Label) (output : List ℕ) (rest : Told)
      → told_before r.labels r.output (told_first label output rest) ≡ told_before (r.labels ++ label ∷ []) (r.output ++ output) rest
  told_after_more label output rest = λ k. record {
    labels = sym (append_assoc r.labels (label ∷ []) rest.labels) k;
    ending = rest.ending;
    output = sym (append_assoc r.output output rest.output) k;
  }

  module _ (laws : Laws core) (turn : ℕ) (config : Config) (left : ℕ) (here : r.place ≡ At turn config left)
      (line : List ℕ) (label : Label) (output : List ℕ) (next : Place) (t : Tells core turn config left line label output next) where
    kinded : Kinded core config
    kinded = subst (IsSoundAt core) here so_far.sound

    numbers_more : (rest : Told) → numbers_left core (At turn config left) (told_first label output rest) ≡ numbers_of config label ++ numbers_left core next rest
    numbers_more rest = by (step core config label left) refl t.leads
      where
        by : (s : Outcome) → step core config label left ≡ s → LeadsTo turn config s output next
            → numbers_left core (At turn config left) (told_first label output rest) ≡ numbers_of config label ++ numbers_left core next rest
        by (Next new text some) is l =
            along-step numbers_told (last_numbers core rest.ending.verdict) core turn config left label rest.labels (Next new text some) is
            ∙ ap (λ (p : Place). numbers_of config label ++ numbers_left core p rest) (sym l.1)
        by (Over verdict) is l =
            along-step numbers_told (last_numbers core rest.ending.verdict) core turn config left label rest.labels (Over verdict) is
            ∙ ap (λ (p : Place). numbers_of config label ++ numbers_left core p rest) (sym l.1)
        by outcome.Spent is l = absurd l
        by outcome.Amiss is l = absurd l

    leads_more : (rest : Told) (log : List ℕ) → Rest core next rest log
        → IsLogOf core begin bound (told_before (r.labels ++ label ∷ []) (r.output ++ output) rest) ((r.front ++ line) ++ log)
        × (picks_of core begin bound (told_before (r.labels ++ label ∷ []) (r.output ++ output) rest) ≡ (r.numbers ++ numbers_of config label) ++ numbers_left core next rest)
    leads_more rest log more =
        let g : GoesOn core turn config left (told_first label output rest) (line ++ log) = goes_on core laws turn config left line label output next t rest log more in
        let l = so_far.leads (told_first label output rest) (line ++ log) (rest_at (At turn config left) r.place (told_first label output rest) (line ++ log) (sym here) g) in
        let moved : IsLogOf core begin bound (told_before (r.labels ++ label ∷ []) (r.output ++ output) rest) (r.front ++ (line ++ log))
        = subst (λ (x : Told). IsLogOf core begin bound x (r.front ++ (line ++ log))) (told_after_more label output rest) l.0 in (
          subst (λ (x : List ℕ). IsLogOf core begin bound (told_before (r.labels ++ label ∷ []) (r.output ++ output) rest) x) (sym (append_assoc r.front line log)) moved,
          ap (picks_of core begin bound) (sym (told_after_more label output rest)) ∙ l.1
              ∙ ap (λ (p : Place). r.numbers ++ numbers_left core p (told_first label output rest)) here
              ∙ ap (λ (x : List ℕ). r.numbers ++ x) (numbers_more rest)
              ∙ sym (append_assoc r.numbers (numbers_of config label) (numbers_left core next rest)),
        )

    only_more : (told : Told) (log : List ℕ) → IsLogOf core begin bound told ((r.front ++ line) ++ log)
        → (rest : Told) × Rest core next rest log × (told ≡ told_before (r.labels ++ label ∷ []) (r.output ++ output) rest)
    only_more told log l =
        let moved : IsLogOf core begin bound told (r.front ++ (line ++ log)) = subst (λ (x : List ℕ). IsLogOf core begin bound told x) (append_assoc r.front line log) l in
        let o = so_far.only told (line ++ log) moved in
        let g : GoesOn core turn config left o.0 (line ++ log) = rest_at r.place (At turn config left) o.0 (line ++ log) here o.1 in
        by o.0 o.2 (next_is core laws turn config left kinded line log (is_line t) o.0 g)
      where
        is_line : Tells core turn config left line label output next → IsLine line
        is_line t' = line_is core laws turn config label line kinded t'.may t'.line_of

        by : (told' : Told) → told ≡ told_before r.labels r.output told' → NextIs core laws turn config left told' line log
            → (rest : Told) × Rest core next rest log × (told ≡ told_before (r.labels ++ label ∷ []) (r.output ++ output) rest)
        by told' same (a_label other there wrote t' rest more is) =
            let w = one_way core laws turn config left kinded line other label wrote output there next t' t in
            let first : told_first other wrote rest ≡ told_first label output rest = λ k. told_first (w.0 k) (w.1 k) rest in
            (rest, rest_at there next rest log w.2 more, same ∙ ap (told_before r.labels r.output) (is ∙ first) ∙ told_after_more label output rest)
        by told' same (an_end end may line_of none is) = absurd (apart core t.line_of.event end (t.line_of.is ∙ sym line_of))

    pub reading_goes_on : ReadSoFar core begin bound (read_more r line label output (numbers_of config label) next)
    reading_goes_on = record {
      lines = one_line_more r.count r.front line so_far.lines (line_is core laws turn config label line kinded t.may t.line_of);
      sound = leads_sound core laws turn config left line label output next kinded t;
      leads = leads_more;
      only = only_more;
    }

  -- reading ends

  pub reading_ends : (laws : Laws core) (end : Ending) → MayEnd core r.place end → (told : Told) → told ≡ record { labels = r.labels; ending = end; output = r.output }
      → IsLogOf core begin bound told (r.front ++ ending_line core end) × (picks_of core begin bound told ≡ r.numbers ++ numbers_last core r.place end)
  reading_ends laws end may told same =
      let l = so_far.leads (told_last end) (ending_line core end) (rest_ends core laws r.place end may) in
      let is : told_before r.labels r.output (told_last end) ≡ told
      = (λ k. record { labels = append-nil r.labels k; ending = end; output = append-nil r.output k }) ∙ sym same in (
        subst (λ (t : Told). IsLogOf core begin bound t (r.front ++ ending_line core end)) is l.0,
        ap (picks_of core begin bound) (sym is) ∙ l.1 ∙ ap (λ (x : List ℕ). r.numbers ++ x) (last r.place),
      )
    where
      last : (place : Place) → numbers_left core place (told_last end) ≡ numbers_last core place end
      last (At turn config left) = along-none numbers_told (last_numbers core end.verdict) core turn config left
      last (End other) = refl
