-- A turn of a run under way.
use Rattle.std.proofs.Common.{◌≡◌, ℕ, ◌<◌, List, [], ◌∷◌, ◌++◌, length, Option, Some, None, Bool, true, refl, sym, ap, subst, ◌∙◌, arith, append-nil, append_assoc, length-append}
use Rattle.std.specs.Prelude.{if◌then◌else◌}
use Rattle.chi_core.specs.declared.label.Label.{Label}
use Rattle.chi_core.specs.declared.program.Core.{Core}
use Rattle.chi_core.specs.declared.verdict.Verdict.{Verdict}
use Rattle.chi_core.specs.declared.verdict.Verdict.TheVariants.{OutOfSteps}
use Rattle.chi_core.specs.Beginning.{Beginning}
use Rattle.chi_core.specs.Config.{Config}
use Rattle.chi_core.specs.Options.{Ending, ending, ending_at}
use Rattle.chi_core.specs.Picks.{Pick, IsLawful, MayPick, Picked, picked_label}
use Rattle.chi_core.specs.Runs.{Told}
use Rattle.chi_core_runs.specs.Choices.{PickedMayCome}
use Rattle.chi_core_runs.specs.Time.{EachCosts}
use Rattle.chi_core_runs.specs.Turns.{UnderWay, WayGoesOn, WayIsOver, WayIsCutOff, WayRests}
use Rattle.chi_code.specs.declared.code.Code.{Code}
use Rattle.chi_exec_law.specs.Runs.{End}
use Rattle.chi_machine_laws.specs.Choosing.{config_of}
use Rattle.chi_machine_laws.specs.Deeds.{Rest}
use Rattle.chi_machine_laws.specs.Instances.{Whole}
use Rattle.chi_machine_laws.specs.Labels.{After, exited, broke, Over, Takes, goes}
use Rattle.chi_machine_laws.specs.Laws.{EndingsAlike}
use Rattle.chi_machine_laws.specs.Turns.{InBound}
use Rattle.chi_machine_told.specs.Below.chi_machine.specs.declared.course.Course.{Course}
use Rattle.chi_machine_told.specs.Below.chi_machine.specs.Courses.{IsCourse, IsPicked, LeadsTo, EndsBy, over, cut_off, TakesTo}
use Rattle.chi_machine_told.specs.Below.chi_machine.specs.Views.{whole_of}
use Rattle.chi_machine_told.specs.Telling.{MayTell}
use Rattle.chi_trace.specs.declared.filter.Filter.{Filter}
use Rattle.chi_trace_events.specs.Traces.{IsLogged}
use Rattle.chi_machine_traces.specs.declared.run.Telling.{Telling}
use Rattle.chi_machine_traces.specs.Told.{IsTold}
use Rattle.chi_machine_traces.specs.Turns.{was_taken, logged_by, IsLine, LogsBy, LoggedSoFar, IsUnderWay, ComesTo}
use Rattle.chi_machine_traces.proofs.Logged.{TraceLaw, log_on, log_over, log_whole}
use Rattle.chi_machine_traces.proofs.Steps as steps
use Rattle.chi_machine_traces.proofs.Steps.{StepLaw, leaves_less}

-- the laws of a run that is picked turn by turn
pub record WayLaw : Type 0 where
  pub on : WayGoesOn
  pub over : WayIsOver
  pub cut_off : WayIsCutOff
  pub at_rest : WayRests

-- a label that ends the run was taken
over_taken : (code : Code) (m : Whole) (label : Label) (left : ℕ) (verdict : Verdict) (config : Config) → Takes code m label left (Over verdict) → was_taken (Some (ending_at verdict config)) ≡ true
over_taken code m _ _ verdict config (goes p left line h e _ there runs marks reaches after) = by_after e verdict after
  where
    by_after : (e : End Rest) (verdict : Verdict) → After code m p h.definition line e (Over verdict) → was_taken (Some (ending_at verdict config)) ≡ true
    by_after _ _ (exited v) = refl
    by_after _ _ (broke kind name named) = refl

module _ (law : StepLaw) (endings : EndingsAlike) (way : WayLaw) (traces : TraceLaw) (trace : Option Filter) (core : Core) (code : Code) (beginning : Beginning) (pick : Pick) (lawful : IsLawful pick) (bound : ℕ) (passed : List ℕ) (c : Course) (before : Telling) (u : IsUnderWay trace core code beginning pick bound passed c before) where
  -- nothing may come next
  pub rests : (o : Option Ending) → o ≡ ending (config_of (whole_of c.world)) → (o ≡ None → ⊥) → ComesTo trace core code beginning pick bound passed o c before
  rests None e some = absurd (some refl)
  rests (Some end) e some =
      let is : ending u.config ≡ Some end = sym (endings core code u.config (whole_of c.world) u.stands) ∙ sym e in
      record {
        labels = u.labels;
        picked = way.at_rest core beginning pick bound u.labels (passed ++ before.out.items) u.config c.left u.way end is;
        logged = log_whole traces core beginning bound u.labels before.log.items u.config c.left trace u.logged end (passed ++ before.out.items);
      }

  module _ (label : Label) (own : picked_label pick c.turn (config_of (whole_of c.world)) ≡ Some label) where
    its : MayPick pick (length u.labels) u.config label
    its = subst (λ n. MayPick pick n u.config label) (sym u.counted) (steps.may law.picks core code u.config (whole_of c.world) u.stands c.turn pick label own)

    pub tells : PickedMayCome → MayTell code (whole_of c.world) label core u.config
    tells may_come = steps.tells law.picks core code u.config (whole_of c.world) u.stands c.turn pick label own may_come u.codes u.sound u.within.0

    module _ (after : Telling) (line : List ℕ) (is : IsLine trace core c.turn u.config label line) where
      -- the label leads on
      leads_on : (new : Course) (text : List ℕ) → LeadsTo code c label new text → after.out.items ≡ before.out.items ++ text → after.log.items ≡ before.log.items ++ line
          → IsUnderWay trace core code beginning pick bound passed new after
      leads_on new text leads written logged =
          let g = steps.goes law core code u.codes u.sound u.config (whole_of c.world) u.stands c.turn c.left u.within pick lawful label own (whole_of new.world) text new.left leads.takes in
          let labels : List Label = u.labels ++ label ∷ [] in
          let count = length-append u.labels (label ∷ []) in
          let was = u.counted in
          let next = leads.turn in
          record {
            codes = u.codes;
            sound = u.sound;
            config = g.0;
            stands = g.2;
            within = subst (λ n. InBound core n g.0 new.left) (sym leads.turn) g.3;
            labels = labels;
            counted = omega (arith, count, was, next);
            way = subst (λ out. UnderWay core beginning pick bound labels out g.0 new.left) (append_assoc passed before.out.items text ∙ ap (λ out. passed ++ out) (sym written))
                (way.on core beginning pick bound u.labels (passed ++ before.out.items) u.config c.left u.way label its g.0 text new.left g.1);
            logged = subst (λ log. LoggedSoFar trace core beginning bound labels log g.0 new.left) (sym logged)
                (log_on traces core beginning bound u.labels before.log.items u.config c.left trace u.logged c.turn u.counted label line is g.0 text new.left g.1);
          }

      -- what is told in the end, with the output, the ending and the log as they are known
      told_so : (labels : List Label) (end : Ending) (output log : List ℕ) (known : Ending) → known ≡ end → passed ++ after.out.items ≡ output → after.log.items ≡ log
          → Picked core beginning pick bound (record { labels = labels; ending = end; output = output })
          → IsLogged trace core beginning bound (record { labels = labels; ending = end; output = output }) log → IsTold trace core beginning pick bound passed (record { ending = known; told = after })
      told_so labels end output log known same written logged picked is =
          let P : Told → Type 0 = λ told. Picked core beginning pick bound told in
          let L : Told → Type 0 = λ told. IsLogged trace core beginning bound told after.log.items in
          record {
            labels = labels;
            picked = subst P (λ i. record { labels = labels; ending = sym same i; output = sym written i }) picked;
            logged = subst L (λ i. record { labels = labels; ending = sym same i; output = sym written i })
                (subst (IsLogged trace core beginning bound (record { labels = labels; ending = end; output = output })) (sym logged) is);
          }

      -- or ends the run
      ends : (end : Ending) → EndsBy code c label end → after.out.items ≡ before.out.items → after.log.items ≡ before.log.items ++ logged_by (Some end) line
          → IsTold trace core beginning pick bound passed (record { ending = end; told = after })
      ends _ (over verdict takes) written logged =
          let e = steps.ends law core code u.codes u.sound u.config (whole_of c.world) u.stands c.turn c.left u.within pick lawful label own verdict takes in
          let taken = over_taken code (whole_of c.world) label c.left verdict (config_of (whole_of c.world)) takes in
          told_so (u.labels ++ label ∷ []) (ending_at verdict u.config) (passed ++ before.out.items) (before.log.items ++ line) (ending_at verdict (config_of (whole_of c.world)))
          (λ i. record { verdict = verdict; clock = u.stands.clock i }) (ap (λ out. passed ++ out) written) (logged ∙ ap (λ (b : Bool). before.log.items ++ (if b then line else [])) taken)
          (way.over core beginning pick bound u.labels (passed ++ before.out.items) u.config c.left u.way label its verdict e)
          (log_over traces core beginning bound u.labels before.log.items u.config c.left trace u.logged c.turn u.counted label line is verdict e (ending_at verdict u.config) (passed ++ before.out.items))
      ends _ (cut_off takes) written logged =
          let e = steps.cuts law core code u.codes u.sound u.config (whole_of c.world) u.stands c.turn c.left u.within pick lawful label own takes in
          told_so u.labels (ending_at OutOfSteps u.config) (passed ++ before.out.items) before.log.items (ending_at OutOfSteps (config_of (whole_of c.world)))
          (λ i. record { verdict = OutOfSteps; clock = u.stands.clock i }) (ap (λ out. passed ++ out) written) (logged ∙ append-nil before.log.items)
          (way.cut_off core beginning pick bound u.labels (passed ++ before.out.items) u.config c.left u.way label its e)
          (log_whole traces core beginning bound u.labels before.log.items u.config c.left trace u.logged (ending_at OutOfSteps u.config) (passed ++ before.out.items))

    -- what the turn comes to
    pub comes_to : (new : Course) (after : Telling) (end : Option Ending) (text : List ℕ) → after.out.items ≡ before.out.items ++ text → TakesTo code c label end new text
        → LogsBy trace core c.turn u.config label end before.log.items after.log.items → ComesTo trace core code beginning pick bound passed end new after
    comes_to new after None text written takes logs = leads_on after logs.0 logs.1 new text takes written logs.2
    comes_to new after (Some end) text written takes logs =
        ends after logs.0 logs.1 end takes.0 (written ∙ ap (λ more. before.out.items ++ more) takes.1 ∙ append-nil before.out.items) logs.2

-- a turn that leads on leaves less of the bound
pub goes_well : (law : StepLaw) → EachCosts → (code : Code) (c : Course) → IsCourse code c → (label : Label) → IsPicked c label → (new : Course) (end : Option Ending) (text : List ℕ) → TakesTo code c label end new text
    → end ≡ None → IsCourse code new × (new.left < c.left)
goes_well law costs code c is label by new end text takes e =
    let leads : LeadsTo code c label new text = subst (λ x. TakesTo code c label x new text) e takes in
    (leads.course, leaves_less law costs code c is label by new text leads)
