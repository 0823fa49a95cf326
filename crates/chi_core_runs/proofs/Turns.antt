-- Runs turn by turn: what is told along them, and each way to go on.
use Rattle.std.proofs.Common.{◌≡◌, ℕ, suc, ◌+◌, ◌≤◌, ◌<◌, List, [], ◌∷◌, ◌++◌, Some, length, length-append, append_assoc, append-nil, inl, inr, sym, ◌∙◌, ap, subst, refl, arith}
use Rattle.chi_core.specs.declared.label.Label.{Label}
use Rattle.chi_core.specs.declared.program.Core.{Core}
use Rattle.chi_core.specs.declared.verdict.Verdict.{Verdict}
use Rattle.chi_core.specs.declared.verdict.Verdict.TheVariants.{OutOfSteps}
use Rattle.chi_core.specs.Beginning.{Beginning, Begins}
use Rattle.chi_core.specs.Config.{Config}
use Rattle.chi_core.specs.Options.{Ending, ending_at, ending}
use Rattle.chi_core.specs.Picks.{Pick, MayPick, PicksFrom, Picked}
use Rattle.chi_core.specs.Runs.{Tells, TellsLast, nothing, told_after, along, text_told, IsAtRest, IsCutOff, After, Runs, Told, RunsFrom}
use Rattle.chi_core.specs.Step as outcome
use Rattle.chi_core.specs.Step.{Outcome, Next, Over, step}
use Rattle.chi_core_runs.specs.Turns.{told_first, told_last, UnderWay}
use Rattle.chi_core_runs.proofs.Time.{each_costs}

-- what is told along a run

module _ {A : Type 0} (tells : Tells A) (last : TellsLast A) (core : Core) (turn : ℕ) (config : Config) (left : ℕ) where
  pub along-none : along tells last core turn config left [] ≡ last config left
  unfolding along
  along-none = refl

  pub along-first : (label : Label) (labels : List Label)
      → along tells last core turn config left (label ∷ labels)
      ≡ tells turn config label (step core config label left)
      ++ told_after (λ new rest. along tells last core (suc turn) new rest labels) (step core config label left)
  unfolding along
  along-first label labels = refl

  pub along-step : (label : Label) (labels : List Label) (s : Outcome) → step core config label left ≡ s
      → along tells last core turn config left (label ∷ labels)
      ≡ tells turn config label s ++ told_after (λ new rest. along tells last core (suc turn) new rest labels) s
  along-step label labels s e =
      along-first label labels
      ∙ ap (λ t. tells turn config label t ++ told_after (λ new rest. along tells last core (suc turn) new rest labels) t) e

-- the equations of runs

module _ (may : ℕ → Config → Label → Type 0) (core : Core) (turn : ℕ) (config : Config) (left : ℕ) where
  runs-on : (label : Label) (new : Config) (text : List ℕ) (rest : ℕ) (labels : List Label) (end : Ending)
      → may turn config label → step core config label left ≡ Next new text rest
      → Runs may core (suc turn) new rest labels end → Runs may core turn config left (label ∷ labels) end
  unfolding Runs
  runs-on label new text rest labels end m e r = (
    m,
    let P : Outcome → Type 0 = λ s. After (λ new' rest'. Runs may core (suc turn) new' rest' labels end) s config labels end in
        subst P (sym e) r,
  )

  runs-over : (label : Label) (verdict : Verdict) → may turn config label → step core config label left ≡ Over verdict
      → Runs may core turn config left (label ∷ []) (ending_at verdict config)
  unfolding Runs
  runs-over label verdict m e = (
    m,
    let P : Outcome → Type 0 = λ s. After (λ new' rest'. Runs may core (suc turn) new' rest' [] (ending_at verdict config)) s config [] (ending_at verdict config) in
        subst P (sym e) (refl, refl),
  )

  runs-rests : (end : Ending) → IsAtRest config end → Runs may core turn config left [] end
  unfolding Runs
  runs-rests end h = inl h

  runs-cut : (end : Ending) → IsCutOff (may turn config) core config left end → Runs may core turn config left [] end
  unfolding Runs
  runs-cut end h = inr h

  -- the ways to go on

  pub from-on : (label : Label) (new : Config) (text : List ℕ) (rest : ℕ) (told : Told)
      → may turn config label → step core config label left ≡ Next new text rest
      → RunsFrom may core (suc turn) new rest told → RunsFrom may core turn config left (told_first label text told)
  from-on label new text rest told m e r = (
    runs-on label new text rest told.labels told.ending m e r.0,
    ap (λ output. text ++ output) r.1 ∙ sym (along-step text_told nothing core turn config left label told.labels (Next new text rest) e),
  )

  pub from-over : (label : Label) (verdict : Verdict) → may turn config label → step core config label left ≡ Over verdict
      → RunsFrom may core turn config left (told_first label [] (told_last (ending_at verdict config)))
  from-over label verdict m e =
      (runs-over label verdict m e, sym (along-step text_told nothing core turn config left label [] (Over verdict) e))

  pub from-cut : (label : Label) → may turn config label → step core config label left ≡ outcome.Spent
      → RunsFrom may core turn config left (told_last (ending_at OutOfSteps config))
  from-cut label m e = (
    runs-cut (ending_at OutOfSteps config) (record { label = label; may_come = m; spent = e; out_of_steps = refl }),
    sym (along-none text_told nothing core turn config left),
  )

  pub from-rest : (end : Ending) → ending config ≡ Some end → RunsFrom may core turn config left (told_last end)
  from-rest end e = (runs-rests end e, sym (along-none text_told nothing core turn config left))

-- a run whose labels may come is one whose labels may come by a wider rule

after-map : {R S : Config → ℕ → Type 0} → (s : Outcome) → (config : Config) (labels : List Label) (end : Ending)
    → ((new : Config) (rest : ℕ) → R new rest → S new rest) → After R s config labels end → After S s config labels end
after-map (Next new text rest) config labels end f a = f new rest a
after-map (Over verdict) config labels end f a = a
after-map outcome.Spent config labels end f a = a
after-map outcome.Amiss config labels end f a = a

pub runs-map : {may wider : ℕ → Config → Label → Type 0}
    → ((turn : ℕ) (config : Config) (label : Label) → may turn config label → wider turn config label)
    → (core : Core) (turn : ℕ) (config : Config) (left : ℕ) (labels : List Label) (end : Ending)
    → Runs may core turn config left labels end → Runs wider core turn config left labels end
unfolding Runs
runs-map f core turn config left [] end (inl at_rest) = inl at_rest
runs-map f core turn config left [] end (inr cut) =
    inr (record { label = cut.label; may_come = f turn config cut.label cut.may_come; spent = cut.spent; out_of_steps = cut.out_of_steps })
runs-map f core turn config left (label ∷ labels) end r = (
  f turn config label r.0,
  after-map (step core config label left) config labels end (λ new rest h. runs-map f core (suc turn) new rest labels end h) r.1,
)

-- runs under way

pub way-begins : (core : Core) (pick : Pick) (bound : ℕ) (config : Config) → UnderWay core (Begins config) pick bound [] [] config bound
way-begins core pick bound config = record { within = omega arith; leads = λ told r. r }

module _ (core : Core) (start : Beginning) (pick : Pick) (bound : ℕ) (labels : List Label) (text : List ℕ) (config : Config) (left : ℕ)
    (way : UnderWay core start pick bound labels text config left) where
  pub way-on : (label : Label) → MayPick pick (length labels) config label
      → (new : Config) (more : List ℕ) (rest : ℕ) → step core config label left ≡ Next new more rest
      → UnderWay core start pick bound (labels ++ label ∷ []) (text ++ more) new rest
  way-on label m new more rest e = record {
    within =
        let cost : rest < left = each_costs core config label new more rest left e in
        let longer : length (labels ++ label ∷ []) ≡ length labels + 1 = length-append labels (label ∷ []) in
        let w : length labels + left ≤ bound = way.within in
        omega arith;
    leads = λ told r.
        let longer : length (labels ++ label ∷ []) ≡ suc (length labels) = simp length-append (omega arith) in
        let r' : PicksFrom core pick (suc (length labels)) new rest told = subst (λ (n : ℕ). PicksFrom core pick n new rest told) longer r in
        let whole = way.leads (told_first label more told) (from-on (MayPick pick) core (length labels) config left label new more rest told m e r') in
        subst (λ (t : Told). Picked core start pick bound t)
        (λ i. record { labels = sym (append_assoc labels (label ∷ []) told.labels) i; ending = told.ending; output = sym (append_assoc text more told.output) i })
        whole;
  }

  text_alone : text ++ [] ≡ text
  text_alone = append-nil text

  pub way-over : (label : Label) → MayPick pick (length labels) config label → (verdict : Verdict) → step core config label left ≡ Over verdict
      → Picked core start pick bound (record { labels = labels ++ label ∷ []; ending = ending_at verdict config; output = text })
  way-over label m verdict e =
      subst (λ (t : Told). Picked core start pick bound t) (λ i. record { labels = labels ++ label ∷ []; ending = ending_at verdict config; output = text_alone i })
      (way.leads (told_first label [] (told_last (ending_at verdict config))) (from-over (MayPick pick) core (length labels) config left label verdict m e))

  pub way-cut : (label : Label) → MayPick pick (length labels) config label → step core config label left ≡ outcome.Spent
      → Picked core start pick bound (record { labels = labels; ending = ending_at OutOfSteps config; output = text })
  way-cut label m e =
      subst (λ (t : Told). Picked core start pick bound t)
      (λ i. record { labels = append-nil labels i; ending = ending_at OutOfSteps config; output = text_alone i })
      (way.leads (told_last (ending_at OutOfSteps config)) (from-cut (MayPick pick) core (length labels) config left label m e))

  pub way-rests : (end : Ending) → ending config ≡ Some end → Picked core start pick bound (record { labels = labels; ending = end; output = text })
  way-rests end e =
      subst (λ (t : Told). Picked core start pick bound t)
      (λ i. record { labels = append-nil labels i; ending = end; output = text_alone i })
      (way.leads (told_last end) (from-rest (MayPick pick) core (length labels) config left end e))
