-- The turns of a run: what each of them leaves of it.
use Rattle.std.proofs.Common.{◌≡◌, ℕ, ◌+◌, ◌*◌, ◌-◌, ◌<◌, ◌≤◌, ◌^◌, List, [], ◌∷◌, ◌++◌, Option, Some, None, length, sym, ◌∙◌, ap, subst, subst₂, refl, arith, length-append}
use Rattle.std.specs.Prelude.{option_map, Result, Ok, Err, IfOk}
use Rattle.std.specs.List.{slice_get}
use Rattle.std.proofs.Math.Logic.{∥∥₁_elim}
use Rattle.std.specs.Coded.{Coded-set, coded_ℕ}
use Rattle.chi_sched.specs.Policies.{Answers, GivesOne, IsAsked}
use Rattle.chi_core.specs.declared.program.Core.{Core}
use Rattle.chi_core.specs.declared.label.Label.{Label}
use Rattle.chi_core.specs.declared.label.Label.TheVariants.{Advance}
use Rattle.chi_core.specs.declared.verdict.Verdict.{Verdict}
use Rattle.chi_core.specs.declared.verdict.Verdict.TheVariants.{OutOfSteps}
use Rattle.chi_core.specs.Beginning.{Beginning, Begins, Breaks}
use Rattle.chi_core.specs.Beginning as beginning
use Rattle.chi_core.specs.Config.{Config}
use Rattle.chi_core.specs.Options.{Ending, ending_at, actors, options}
use Rattle.chi_core.specs.Options as option
use Rattle.chi_core.specs.Picks.{Pick, MayPick}
use Rattle.chi_core_runs.proofs.Lists.{contains-at}
use Rattle.chi_core_runs.specs.Choices.{OptionIsPicked, AdvanceIsPicked, PickedMayCome, ActorsHaveOptions}
use Rattle.chi_core_runs.specs.Once.{EachMayCome}
use Rattle.chi_core_runs.specs.Time.{EachCosts}
use Rattle.chi_core_runs.specs.Turns.{UnderWay, WayBegins, WayGoesOn, WayIsOver, WayIsCutOff, WayRests}
use Rattle.chi_core.specs.Step as outcome
use Rattle.chi_core.specs.Step.{Outcome, step}
use Rattle.chi_plain.specs.declared.stepped.Stepped.{Stepped}
use Rattle.chi_plain.specs.declared.stepped.Stepped.TheVariants.{Next, Over, Spent}
use Rattle.chi_plain.specs.Stage.{Stage, At, Ended, Lost, Runner, Begun, actors_at, options_at, verdict_at, MayStep, Steps, Appends}
use Rattle.chi_explain_labels.specs.Labels.{takers, Counted}
use Rattle.chi_explain_runs.specs.declared.notes.Done.{Done}
use Rattle.chi_explain_runs.specs.Waits.{IsWaitingTold}
use Rattle.chi_explain_runs.specs.Turns.{done_by, done_at, with_done, GoesOn, PicksAt, IsThere, ToldIn, Leads, Keeps, told_in, HasRun}
use Rattle.chi_explain_runs.proofs.Counts.{counts_more, few_more}
use Rattle.chi_explain_runs.proofs.Telling.{told_last, told_on, told_over, told_rest, told_spent}

-- what is picked at a turn, as its law gives it
pub record ChoiceLaw : Type 0 where
  pub option : OptionIsPicked
  pub advance : AdvanceIsPicked
  pub may_come : PickedMayCome
  pub some : ActorsHaveOptions

-- the laws of runs that are picked turn by turn
pub record TurnLaw : Type 0 where
  pub begins : WayBegins
  pub on : WayGoesOn
  pub over : WayIsOver
  pub cut_off : WayIsCutOff
  pub at_rest : WayRests

none_of : {A : Type 0} (xs : List A) → length xs ≡ 0 → xs ≡ []
none_of [] e = refl
none_of (x ∷ xs) e = absurd (omega arith)

-- the label that a policy picks

module _ (law : ChoiceLaw) (gives : ℕ → ℕ → ℕ → Type 0) (turn : ℕ) where
  pub picks_advance : (stage : Stage) → GoesOn stage → length (actors_at stage) ≡ 0 → PicksAt gives turn stage Advance
  picks_advance (At config) goes e = λ pick answers. law.advance pick turn config (none_of (actors config) e) goes
  picks_advance (Ended end) goes e = absurd goes
  picks_advance Lost goes e = absurd goes

  answered : GivesOne gives → (pick : Pick) → Answers gives pick → (question count answer : ℕ) → IsAsked question count → gives question count answer
      → pick question count ≡ answer
  answered one pick answers question count answer asked given =
      ∥∥₁_elim (answers question count asked).1 (Coded-set coded_ℕ (pick question count) answer)
      (λ told. one question count (pick question count) answer asked told given)

  pub picks_option : GivesOne gives → (stage : Stage) → GoesOn stage → (a p b : ℕ) (label : Label)
      → IsAsked (2 * turn) (length (actors_at stage)) → gives (2 * turn) (length (actors_at stage)) a → slice_get (actors_at stage) a ≡ Some p
      → IsAsked (2 * turn + 1) (length (options_at stage p)) → gives (2 * turn + 1) (length (options_at stage p)) b → slice_get (options_at stage p) b ≡ Some label
      → PicksAt gives turn stage label
  picks_option one (At config) goes a p b label asks given there asks' given' there' =
      λ pick answers.
      law.option pick turn config p label
      (ap (slice_get (actors config)) (answered one pick answers (2 * turn) (length (actors config)) a asks given) ∙ there)
      (ap (slice_get (options config p)) (answered one pick answers (2 * turn + 1) (length (options config p)) b asks' given') ∙ there')
  picks_option one (Ended end) goes a p b label asks given there asks' given' there' = absurd goes
  picks_option one Lost goes a p b label asks given there asks' given' there' = absurd goes

  -- the same, of counts
  pub picks_counted : GivesOne gives → (stage : Stage) → GoesOn stage → turn < 2 ^ 63 → (n a p m b : ℕ) (label : Label)
      → n ≡ length (actors_at stage) → 0 < n → n < 2 ^ 64 → gives (2 * turn) n a → slice_get (actors_at stage) a ≡ Some p
      → m ≡ length (options_at stage p) → 0 < m → m < 2 ^ 64 → gives (2 * turn + 1) m b → slice_get (options_at stage p) b ≡ Some label
      → PicksAt gives turn stage label
  picks_counted one stage goes early n a p m b label same some few given there same' some' few' given' there' =
      picks_option one stage goes a p b label
      (subst (IsAsked (2 * turn)) same (record { numbered = omega arith; some = some; counted = few }))
      (subst (λ k. gives (2 * turn) k a) same given) there
      (subst (IsAsked (2 * turn + 1)) same' (record { numbered = omega arith; some = some'; counted = few' }))
      (subst (λ k. gives (2 * turn + 1) k b) same' given') there'

module _ (law : ChoiceLaw) where
  -- an instance that has an option has one
  pub has_option : (stage : Stage) (i p : ℕ) → slice_get (actors_at stage) i ≡ Some p → 0 < length (options_at stage p)
  has_option (At config) i p e = law.some config p (contains-at (actors config) i p e)
  has_option (Ended end) i p e = absurd (cc)
  has_option Lost i p e = absurd (cc)

  pub may_advance : (stage : Stage) → GoesOn stage → length (actors_at stage) ≡ 0 → MayStep stage Advance
  may_advance (At config) goes e =
      law.may_come (λ question count. 0) 0 config Advance (law.advance (λ question count. 0) 0 config (none_of (actors config) e) goes)
  may_advance (Ended end) goes e = absurd goes
  may_advance Lost goes e = absurd goes

pub may_option : EachMayCome → (stage : Stage) (p b : ℕ) (label : Label) → GoesOn stage → slice_get (options_at stage p) b ≡ Some label → MayStep stage label
may_option law (At config) p b label goes e = (law config p label (contains-at (options config p) b label e)).0
may_option law (Ended end) p b label goes e = absurd goes
may_option law Lost p b label goes e = absurd goes

-- how many turns may come yet
abbrev pub turns_left : ℕ → Stage → ℕ
turns_left left (At config) = 2 * left + 1
turns_left left (Ended end) = 2 * left
turns_left left Lost = 0

module _ (law : TurnLaw) (gives : ℕ → ℕ → ℕ → Type 0) (core : Core) (first : Stage) (bound : ℕ) where
  -- a run begins
  leads_first : (beginning : Beginning) (stage : Stage) → Begun beginning stage → (pick : Pick) → Leads core beginning pick bound stage 0 bound [] []
  leads_first (Begins config) stage is pick =
      let P : Stage → Type 0 = λ s. Leads core (Begins config) pick bound s 0 bound [] [] in
      subst P (sym is) ([], refl, ([], law.begins core pick bound config), (λ last more. refl), λ p. refl)
  leads_first (Breaks end) stage is pick =
      let P : Stage → Type 0 = λ s. Leads core (Breaks end) pick bound s 0 bound [] [] in
      subst P (sym is) (λ source. record { told = record { labels = []; ending = end; output = [] }; picked = refl; is = refl })
  leads_first beginning.Amiss stage is pick = absurd is

  pub begins : (runner : Runner) (lines counts : List ℕ) → lines ≡ [] → counts ≡ [] → runner.core ≡ core → runner.stage ≡ first → IsThere runner.stage
      → Keeps gives core first bound runner 0 bound lines counts
  begins runner lines counts none none' same is there = subst₂ (λ (l m : List ℕ). Keeps gives core first bound runner 0 bound l m) (sym none) (sym none') (record {
    same_core = same;
    there = there;
    room = omega arith;
    few = λ p. let least : 0 ≤ 0 = omega arith in least;
    leads = λ beginning begun pick answers. leads_first beginning runner.stage (subst (λ s. Begun beginning s) (sym is) begun) pick;
  })

  pub goes_on : (runner : Runner) (turn left : ℕ) (lines counts : List ℕ) → Keeps gives core first bound runner turn left lines counts → verdict_at runner.stage ≡ None → GoesOn runner.stage
  goes_on runner turn left lines counts k e = by_stage runner.stage k.there e
    where
      by_ending : (o : Option Ending) → option_map (λ end. end.verdict) o ≡ None → o ≡ None
      by_ending None e' = refl
      by_ending (Some end) e' = absurd (cc)

      by_stage : (stage : Stage) → IsThere stage → verdict_at stage ≡ None → GoesOn stage
      by_stage (At config) there e' = by_ending (option.ending config) e'
      by_stage (Ended end) there e' = absurd (cc)
      by_stage Lost there e' = absurd there

  -- the run is over
  pub rests : (runner : Runner) (turn left : ℕ) (lines counts : List ℕ) (verdict : Verdict) → Keeps gives core first bound runner turn left lines counts → verdict_at runner.stage ≡ Some verdict
      → HasRun gives core first bound runner.stage lines counts None
  rests runner turn left lines counts verdict k e begin begun pick answers source = by_stage runner.stage (k.leads begin begun pick answers) e
    where
      ends_at : (config : Config) → Leads core begin pick bound (At config) turn left lines counts → (o : Option Ending) → option.ending config ≡ o
          → option_map (λ end. end.verdict) o ≡ Some verdict → IsWaitingTold core source begin pick bound (told_in core source (At config) lines counts None)
      ends_at config l None is e' = absurd (cc)
      ends_at config l (Some end) is e' = record {
        told = record { labels = l.0; ending = end; output = l.2.0 };
        picked = law.at_rest core begin pick bound l.0 l.2.0 config left l.2.1 end is;
        is = told_rest core source bound l.0 lines config end is ∙ told_last core source begin bound l.0 lines config left l.3 end l.2.0;
      }

      by_stage : (stage : Stage) → Leads core begin pick bound stage turn left lines counts → verdict_at stage ≡ Some verdict
          → IsWaitingTold core source begin pick bound (told_in core source stage lines counts None)
      by_stage (At config) l e' = ends_at config l (option.ending config) refl e'
      by_stage (Ended end) l e' = l source
      by_stage Lost l e' = absurd l

  may_at : {turn : ℕ} (pick : Pick) (config : Config) (label : Label) (labels : List Label) → length labels ≡ turn → MayPick pick turn config label
      → MayPick pick (length labels) config label
  may_at pick config label labels same may = subst (λ n. MayPick pick n config label) (sym same) may

  -- a label that was picked, and what it did
  pub record Took (old new : Runner) (turn : ℕ) (label : Label) (left : ℕ) (before : List ℕ) (after' : List ℕ) (answer : Stepped) : Type 0 where
    pub picked : PicksAt gives turn old.stage label
    pub same_core : new.core ≡ old.core
    pub steps : Appends before after' (λ text. Steps old.core old.stage new.stage label left text answer)

  stepped : (old new : Runner) (turn : ℕ) (label : Label) (left : ℕ) (lines counts before after' : List ℕ) (answer : Stepped) → Keeps gives core first bound old turn left lines counts
      → Took old new turn label left before after' answer → Appends before after' (λ text. Steps core old.stage new.stage label left text answer)
  stepped old new turn label left lines counts before after' answer k t =
      let P : Core → Type 0 = λ c. Appends before after' (λ text. Steps c old.stage new.stage label left text answer) in subst P k.same_core t.steps

  -- the next label costs too much
  pub spends : (old new : Runner) (turn : ℕ) (label : Label) (left : ℕ) (lines counts before after' : List ℕ) → Keeps gives core first bound old turn left lines counts
      → Took old new turn label left before after' Spent → HasRun gives core first bound new.stage lines counts (Some bound)
  spends old new turn label left lines counts before after' k t begin begun pick answers source =
      let s = stepped old new turn label left lines counts before after' Spent k t in
      by_stage old.stage new.stage (k.leads begin begun pick answers) t.picked s.0 s.2
    where
      stays : (config : Config) (stage' : Stage) → Leads core begin pick bound (At config) turn left lines counts → PicksAt gives turn (At config) label
          → (text : List ℕ) → (step core config label left ≡ outcome.Spent) × (stage' ≡ At config) × (text ≡ [])
          → IsWaitingTold core source begin pick bound (told_in core source stage' lines counts (Some bound))
      stays config stage' l p text s =
          subst (λ x. IsWaitingTold core source begin pick bound (told_in core source x lines counts (Some bound))) (sym s.1)
          (record {
            told = record { labels = l.0; ending = ending_at OutOfSteps config; output = l.2.0 };
            picked = law.cut_off core begin pick bound l.0 l.2.0 config left l.2.1 label (may_at pick config label l.0 l.1 (p pick answers)) s.0;
            is = told_spent core source bound l.0 lines counts config l.4 ∙ told_last core source begin bound l.0 lines config left l.3 (ending_at OutOfSteps config) l.2.0;
          })

      by_stage : (stage stage' : Stage) → Leads core begin pick bound stage turn left lines counts → PicksAt gives turn stage label
          → (text : List ℕ) → Steps core stage stage' label left text Spent → IsWaitingTold core source begin pick bound (told_in core source stage' lines counts (Some bound))
      by_stage (Ended end) stage' l p text s = absurd p
      by_stage Lost stage' l p text s = absurd p
      by_stage (At config) (At config') l p text s = stays config (At config') l p text s
      by_stage (At config) (Ended end) l p text s = stays config (Ended end) l p text s
      by_stage (At config) Lost l p text s = stays config Lost l p text s

  -- the run goes on
  pub goes_next : (old new : Runner) (turn : ℕ) (label : Label) (left cost : ℕ) (lines counts before after' : List ℕ) → Keeps gives core first bound old turn left lines counts
      → (0 < cost) × (cost ≤ left) → Took old new turn label left before after' (Next cost)
      → (newer : List ℕ) → Counted (takers label) counts newer → Keeps gives core first bound new (turn + 1) (left - cost) (with_done lines (done_at old.stage label)) newer
  goes_next old new turn label left cost lines counts before after' k some t newer counted =
      let s = stepped old new turn label left lines counts before after' (Next cost) k t in
      let n = by_stage old.stage new.stage k.leads t.picked s.0 s.2 in
      let room = k.room in
      let positive = some.0 in
      let within = some.1 in
      record {
        same_core = t.same_core ∙ k.same_core;
        there = n.0;
        room = omega arith;
        few = few_more label counts newer turn counted k.few;
        leads = n.2;
      }
    where
      leads_on : (config new' : Config) → ((begin : Beginning) → Begun begin first → (pick : Pick) → Answers gives pick → Leads core begin pick bound (At config) turn left lines counts)
          → PicksAt gives turn (At config) label
          → (text : List ℕ) → (rest : ℕ) → step core config label left ≡ outcome.Next new' text rest → left - cost ≡ rest
          → (begin : Beginning) → Begun begin first → (pick : Pick) → Answers gives pick → Leads core begin pick bound (At new') (turn + 1) (left - cost) (with_done lines (done_by config label)) newer
      leads_on config new' l p text rest e same begin begun pick answers =
          let old' = l begin begun pick answers in
          let long : length (old'.0 ++ label ∷ []) ≡ turn + 1 = length-append old'.0 (label ∷ []) ∙ ap (λ n. n + 1) old'.1 in
          let on = law.on core begin pick bound old'.0 old'.2.0 config left old'.2.1 label (may_at pick config label old'.0 old'.1 (p pick answers)) new' text rest e in (
            old'.0 ++ label ∷ [],
            long,
            (old'.2.0 ++ text, subst (λ n. UnderWay core begin pick bound (old'.0 ++ label ∷ []) (old'.2.0 ++ text) new' n) (sym same) on),
            subst (λ n. ToldIn core begin bound (old'.0 ++ label ∷ []) (with_done lines (done_by config label)) new' n) (sym same)
                (told_on core begin bound old'.0 lines config left old'.3 label new' text rest e),
            counts_more old'.0 label counts newer counted old'.4,
          )

      by_stage : (stage stage' : Stage) → ((begin : Beginning) → Begun begin first → (pick : Pick) → Answers gives pick → Leads core begin pick bound stage turn left lines counts)
          → PicksAt gives turn stage label
          → (text : List ℕ) → Steps core stage stage' label left text (Next cost)
          → IsThere stage' × (cost ≤ left) × ((begin : Beginning) → Begun begin first → (pick : Pick) → Answers gives pick → Leads core begin pick bound stage' (turn + 1) (left - cost) (with_done lines (done_at stage label)) newer)
      by_stage (Ended end) stage' l p text s = absurd p
      by_stage Lost stage' l p text s = absurd p
      by_stage (At config) (Ended end) l p text s = absurd s
      by_stage (At config) Lost l p text s = absurd s
      by_stage (At config) (At config') l p text s =
          let spent = s.2 in
          let same : left - cost ≡ s.0 = omega arith in
          (tt, omega arith, leads_on config config' l p text s.0 s.1 same)

  -- or is over
  pub goes_over : (old new : Runner) (turn : ℕ) (label : Label) (left : ℕ) (lines counts before after' : List ℕ) → Keeps gives core first bound old turn left lines counts
      → Took old new turn label left before after' Over → Keeps gives core first bound new turn left lines counts
  goes_over old new turn label left lines counts before after' k t =
      let s = stepped old new turn label left lines counts before after' Over k t in
      let n = by_stage old.stage new.stage k.leads t.picked s.0 s.2 in
      record {
        same_core = t.same_core ∙ k.same_core;
        there = n.0;
        room = k.room;
        few = k.few;
        leads = n.1;
      }
    where
      leads_over : (config : Config) (end : Ending) → ((begin : Beginning) → Begun begin first → (pick : Pick) → Answers gives pick → Leads core begin pick bound (At config) turn left lines counts)
          → PicksAt gives turn (At config) label
          → (text : List ℕ) → (step core config label left ≡ outcome.Over end.verdict) × (end ≡ ending_at end.verdict config) × (text ≡ [])
          → (begin : Beginning) → Begun begin first → (pick : Pick) → Answers gives pick → Leads core begin pick bound (Ended end) turn left lines counts
      leads_over config end l p text s begin begun pick answers source =
          let old' = l begin begun pick answers in
          record {
            told = record { labels = old'.0 ++ label ∷ []; ending = ending_at end.verdict config; output = old'.2.0 };
            picked = law.over core begin pick bound old'.0 old'.2.0 config left old'.2.1 label (may_at pick config label old'.0 old'.1 (p pick answers)) end.verdict s.0;
            is = told_over core source begin bound old'.0 lines config left old'.3 label end.verdict (ending_at end.verdict config) old'.2.0 s.0;
          }

      by_stage : (stage stage' : Stage) → ((begin : Beginning) → Begun begin first → (pick : Pick) → Answers gives pick → Leads core begin pick bound stage turn left lines counts)
          → PicksAt gives turn stage label
          → (text : List ℕ) → Steps core stage stage' label left text Over
          → IsThere stage' × ((begin : Beginning) → Begun begin first → (pick : Pick) → Answers gives pick → Leads core begin pick bound stage' turn left lines counts)
      by_stage (Ended end) stage' l p text s = absurd p
      by_stage Lost stage' l p text s = absurd p
      by_stage (At config) (At config') l p text s = absurd s
      by_stage (At config) Lost l p text s = absurd s
      by_stage (At config) (Ended end) l p text s = (tt, leads_over config end l p text s)

  -- it costs something, and no more than is left
  pub costs_next : EachCosts → (old new : Runner) (turn : ℕ) (label : Label) (left cost : ℕ) (lines counts before after' : List ℕ) → Keeps gives core first bound old turn left lines counts
      → Took old new turn label left before after' (Next cost) → (0 < cost) × (cost ≤ left) × (turns_left (left - cost) new.stage < turns_left left old.stage)
  costs_next law' old new turn label left cost lines counts before after' k t =
      let s = stepped old new turn label left lines counts before after' (Next cost) k t in
      by_stage old.stage new.stage t.picked s.0 s.2
    where
      by_stage : (stage stage' : Stage) → PicksAt gives turn stage label → (text : List ℕ) → Steps core stage stage' label left text (Next cost)
          → (0 < cost) × (cost ≤ left) × (turns_left (left - cost) stage' < turns_left left stage)
      by_stage (Ended end) stage' p text s = absurd p
      by_stage Lost stage' p text s = absurd p
      by_stage (At config) (Ended end) p text s = absurd s
      by_stage (At config) Lost p text s = absurd s
      by_stage (At config) (At config') p text s =
          let less : s.0 < left = law' core config label left config' text s.0 s.1 in
          let spent = s.2 in
          let some : 0 < cost = omega arith in
          let within : cost ≤ left = omega arith in
          (some, within, omega arith)

  pub ends_over : (old new : Runner) (turn : ℕ) (label : Label) (left : ℕ) (lines counts before after' : List ℕ) → Keeps gives core first bound old turn left lines counts
      → Took old new turn label left before after' Over → turns_left left new.stage < turns_left left old.stage
  ends_over old new turn label left lines counts before after' k t =
      let s = stepped old new turn label left lines counts before after' Over k t in
      by_stage old.stage new.stage t.picked s.0 s.2
    where
      by_stage : (stage stage' : Stage) → PicksAt gives turn stage label → (text : List ℕ) → Steps core stage stage' label left text Over
          → turns_left left stage' < turns_left left stage
      by_stage (Ended end) stage' p text s = absurd p
      by_stage Lost stage' p text s = absurd p
      by_stage (At config) (At config') p text s = absurd s
      by_stage (At config) Lost p text s = absurd s
      by_stage (At config) (Ended end) p text s = omega arith

  -- and notes what it did
  pub noted_next : (old new : Runner) (turn : ℕ) (label : Label) (left cost : ℕ) (lines counts noted newer before after' : List ℕ) (made : Option Done)
      → made ≡ done_at old.stage label → noted ≡ with_done lines made → Counted (takers label) counts newer → Keeps gives core first bound old turn left lines counts
      → (0 < cost) × (cost ≤ left) → Took old new turn label left before after' (Next cost) → Keeps gives core first bound new (turn + 1) (left - cost) noted newer
  noted_next old new turn label left cost lines counts noted newer before after' made is so counted k some t =
      subst (λ l. Keeps gives core first bound new (turn + 1) (left - cost) l newer) (sym (so ∙ ap (with_done lines) is))
      (goes_next old new turn label left cost lines counts before after' k some t newer counted)

-- what follows of a result, where there is one
pub if_ok : {A E : Type 0} {P Q : A → Type 0} (result : Result A E) → ((a : A) → P a → Q a) → IfOk result P → IfOk result Q
if_ok (Ok r) follows is = follows r is
if_ok (Err lost) follows is = tt

-- what is told where the runner is left is told of the run
pub rest_told : (gives : ℕ → ℕ → ℕ → Type 0) (core other : Core) (source : List ℕ) (first : Stage) (bound : ℕ) (stage : Stage) (lines counts : List ℕ)
    → (spent : Option ℕ) (text : List ℕ) → other ≡ core
    → HasRun gives other first bound stage lines counts spent → text ≡ told_in core source stage lines counts spent
    → (begin : Beginning) → Begun begin first → (pick : Pick) → Answers gives pick → IsWaitingTold core source begin pick bound text
rest_told gives core other source first bound stage lines counts spent text same ran is begin begun pick answers =
    subst (λ (t : List ℕ). IsWaitingTold core source begin pick bound t) (sym is)
    (subst (λ (c : Core). IsWaitingTold c source begin pick bound (told_in c source stage lines counts spent)) same (ran begin begun pick answers source))
