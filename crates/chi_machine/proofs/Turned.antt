-- What is picked at a turn, and what taking it comes to.
use Rattle.std.proofs.Common.{◌≡◌, ◌≢◌, ℕ, suc, ◌+◌, ◌<◌, ◌^◌, ℤ, List, [], ◌∷◌, ◌++◌, Option, Some, None, sym, ap, subst, ◌∙◌, arith}
use Rattle.chi_sched.specs.Policies.{Answers}
use Rattle.chi_core.specs.declared.label.Label.{Label}
use Rattle.chi_core.specs.declared.verdict.Verdict.{Verdict}
use Rattle.chi_core.specs.declared.verdict.Verdict.TheVariants.{OutOfSteps}
use Rattle.chi_core.specs.Options.{Ending, ending}
use Rattle.chi_core.specs.Picks.{Pick, picked_label}
use Rattle.chi_code.specs.declared.code.Code.{Code}
use Rattle.chi_machine_laws.specs.Choosing.{config_of}
use Rattle.chi_machine_laws.specs.Laws.{SafeAlways}
use Rattle.chi_machine_laws.specs.Turns.{Event, event, Ended, Advances}
use Rattle.chi_machine_laws.specs.Turns as advance
use Rattle.chi_machine_agenda.specs.Laws.{EndingsAlike, PicksAlike}
use Rattle.chi_machine_agenda.specs.Reading as agenda
use Rattle.chi_machine.specs.declared.course.Course.{Course}
use Rattle.chi_machine.specs.declared.taken.Taken.{Taken}
use Rattle.chi_machine.specs.declared.taken.Taken.TheVariants.{On, Over, Spent}
use Rattle.chi_machine.specs.declared.world.World.{World}
use Rattle.chi_machine.specs.Courses.{IsCourse, IsPicked, EndsBy, over, cut_off, TakesTo}
use Rattle.chi_machine.specs.Crowds.{IsCrowd}
use Rattle.chi_machine.specs.Sane.{IsSane}
use Rattle.chi_machine.specs.Takings.{MayTake, Took}
use Rattle.chi_machine.specs.Views.{whole_of}
use Rattle.chi_machine.proofs.Timed.{agenda_is}
use Rattle.chi_machine.proofs.Turning.{is_lawful, picks_none, may_take, sane_after}

pub ending_is : EndingsAlike → (w : World) → IsCrowd w.crowd → ending (agenda.config_of w.crowd.agenda) ≡ ending (config_of (whole_of w))
ending_is endings w kept = ap (λ a. ending (agenda.config_of a)) (sym (agenda_is w kept)) ∙ endings (config_of (whole_of w))

pub picked_is : PicksAlike → (w : World) → IsCrowd w.crowd → (pick : Pick) (turn : ℕ)
    → picked_label pick turn (agenda.config_of w.crowd.agenda) ≡ picked_label pick turn (config_of (whole_of w))
picked_is picks w kept pick turn = ap (λ a. picked_label pick turn (agenda.config_of a)) (sym (agenda_is w kept)) ∙ picks (config_of (whole_of w)) pick turn

-- the policy picks the label, or none, whichever function tells what it answers
abbrev pub PicksIt : (ℕ → ℕ → ℕ → Type 0) → Course → Option Label → Type 0
PicksIt gives c o = (pick : Pick) → Answers gives pick → o ≡ picked_label pick c.turn (config_of (whole_of c.world))

pub picked_by : (gives : ℕ → ℕ → ℕ → Type 0) (c : Course) (label : Label) → PicksIt gives c (Some label) → (pick : Pick) → Answers gives pick → IsPicked c label
picked_by gives c label own pick answers = record { pick = pick; lawful = is_lawful gives pick answers; picked = sym (own pick answers) }

-- where none is picked the run has ended
pub none_ends : SafeAlways → (code : Code) (c : Course) → IsCourse code c → (gives : ℕ → ℕ → ℕ → Type 0) → PicksIt gives c None → (pick : Pick) → Answers gives pick → ending (config_of (whole_of c.world)) ≢ None
none_ends safe code c is gives none pick answers = picks_none safe code c.turn c.left (whole_of c.world) is.sane pick (is_lawful gives pick answers) (sym (none pick answers))

module _ (safe : SafeAlways) (code : Code) (c : Course) (is : IsCourse code c) (label : Label) (by : IsPicked c label) where
  pub turn_may : MayTake code (whole_of c.world) label c.left
  turn_may = may_take safe code c.turn c.left (whole_of c.world) is.sane by.pick by.lawful label by.picked

  -- the turn may be counted
  pub turn_counts : c.turn + 1 < 2 ^ 64
  turn_counts = let b = is.sane.bound.1 in omega (arith, b)

  module _ (before after : List ℕ) (taken : Taken) (w : World) (t : (text : List ℕ) × (after ≡ before ++ text) × Took code (whole_of c.world) label c.left taken w text) where
    -- the run goes on
    pub turn_on : (rest : ℕ) → taken ≡ On rest
        → (text : List ℕ) × (after ≡ before ++ text) × TakesTo code c label None (record { world = w; turn = c.turn + 1; left = rest }) text
    turn_on rest e =
        let took : Took code (whole_of c.world) label c.left (On rest) w t.0 = subst (λ k. Took code (whole_of c.world) label c.left k w t.0) e t.2 in
        let next : suc c.turn ≡ c.turn + 1 = omega arith in (
          t.0,
          t.1,
          record {
            takes = took.0;
            turn = sym next;
            course = record {
              kept = took.1;
              sane = subst (λ n. IsSane code n (whole_of w) rest) next (sane_after safe code c.turn c.left (whole_of c.world) is.sane by.pick by.lawful label by.picked (whole_of w) t.0 rest took.0);
            };
          },
        )

    module _ (clock : ℤ) (same : clock ≡ c.world.crowd.agenda.clock) (new : Course) (end : Ending) where
      -- the label ends it
      pub turn_over : (verdict : Verdict) → taken ≡ Over verdict → end ≡ record { verdict = verdict; clock = clock } → (text : List ℕ) × (after ≡ before ++ text) × TakesTo code c label (Some end) new text
      turn_over verdict e is =
          let took : Took code (whole_of c.world) label c.left (Over verdict) w t.0 = subst (λ k. Took code (whole_of c.world) label c.left k w t.0) e t.2 in
          (t.0, t.1, (subst (EndsBy code c label) (sym is) (subst (λ time. EndsBy code c label (record { verdict = verdict; clock = time })) (sym same) (over verdict took.0)), took.1))

      -- it costs too much
      pub turn_cut : taken ≡ Spent → end ≡ record { verdict = OutOfSteps; clock = clock } → (text : List ℕ) × (after ≡ before ++ text) × TakesTo code c label (Some end) new text
      turn_cut e is =
          let took : Took code (whole_of c.world) label c.left Spent w t.0 = subst (λ k. Took code (whole_of c.world) label c.left k w t.0) e t.2 in
          (t.0, t.1, (subst (EndsBy code c label) (sym is) (subst (λ time. EndsBy code c label (record { verdict = OutOfSteps; clock = time })) (sym same) (cut_off took.0)), took.1))

-- a turn that ends the run, among turns
pub ends_there : (code : Code) (c : Course) (label : Label) (end : Ending) → EndsBy code c label end → (pick : Pick) → ending (config_of (whole_of c.world)) ≡ None
    → picked_label pick c.turn (config_of (whole_of c.world)) ≡ Some label
    → (events : List Event) × ((n : ℕ) → Advances code pick (suc n) c.turn (whole_of c.world) c.left events [] (Ended end))
ends_there code c label _ (over verdict takes) pick on own =
    (event c.turn label c.world.crowd.agenda.clock ∷ [], λ n. advance.over n c.turn c.left (whole_of c.world) label verdict on own takes)
ends_there code c label _ (cut_off takes) pick on own = ([], λ n. advance.cut_off n c.turn c.left (whole_of c.world) label on own takes)
