-- Turns of a run, one after another.
use Rattle.std.proofs.Common.{◌≡◌, ℕ, suc, ◌+◌, ◌-◌, ◌<◌, ◌≤◌, ◌^◌, List, [], ◌∷◌, ◌++◌, append_assoc, Option, Some, None, sym, ap, subst, ◌∙◌, arith}
use Rattle.std.proofs.lemmas.List.{append-nil}
use Rattle.chi_sched.specs.Policies.{Answers}
use Rattle.chi_core.specs.declared.label.Label.{Label}
use Rattle.chi_core.specs.Options.{Ending, ending}
use Rattle.chi_core.specs.Picks.{Pick}
use Rattle.chi_code.specs.declared.code.Code.{Code}
use Rattle.chi_machine_laws.specs.Choosing.{config_of}
use Rattle.chi_machine_laws.specs.Turns.{Event, event, Going, Ended, Advances, pauses, rests}
use Rattle.chi_machine.specs.declared.course.Course.{Course}
use Rattle.chi_machine.specs.Courses.{IsCourse, LeadsTo, EndsBy, TakesTo, AdvancesTo, HasGone}
use Rattle.chi_machine.specs.Views.{whole_of}
use Rattle.chi_machine.specs.Went.{Went, nowhere}
use Rattle.chi_machine.proofs.Advancing.{went_on, went_then}
use Rattle.chi_machine.proofs.Turned.{PicksIt, ends_there}
use Rattle.chi_machine.proofs.Turning.{picks_on}

-- A run has gone on for so many turns, and has written this.
pub record Coursing (code : Code) (gives : ℕ → ℕ → ℕ → Type 0) (done : ℕ) (old now : Course) (before after : List ℕ) : Type 0 where
  pub course : IsCourse code now
  pub text : List ℕ
  pub written : after ≡ before ++ text
  pub went : (pick : Pick) → Answers gives pick → (events : List Event) × Went code pick done old.turn (whole_of old.world) old.left events text now.turn (whole_of now.world) now.left

module _ (code : Code) (gives : ℕ → ℕ → ℕ → Type 0) where
  pub course_first : (c : Course) (out : List ℕ) → IsCourse code c → Coursing code gives 0 c c out out
  course_first c out is = record { course = is; text = []; written = sym (append-nil out); went = λ pick answers. ([], nowhere c.turn c.left (whole_of c.world)) }

  module _ (done : ℕ) (old now : Course) (before after : List ℕ) (k : Coursing code gives done old now before after) where
    pub turn_early : now.turn < 2 ^ 63
    turn_early = let b = k.course.sane.bound.1 in omega (arith, b)

    module _ (label : Label) (own : PicksIt gives now (Some label)) (new : Course) (last more : List ℕ) (written : last ≡ after ++ more) where
      all_written : last ≡ before ++ (k.text ++ more)
      all_written = written ∙ ap (λ l. l ++ more) k.written ∙ append_assoc before k.text more

      on : (pick : Pick) → Answers gives pick → ending (config_of (whole_of now.world)) ≡ None
      on pick answers = picks_on pick now.turn (config_of (whole_of now.world)) label (sym (own pick answers))

      -- one label more
      course_more : LeadsTo code now label new more → Coursing code gives (done + 1) old new before last
      course_more leads =
          let count : suc done ≡ done + 1 = omega arith in
          record {
            course = leads.course;
            text = k.text ++ more;
            written = all_written;
            went = λ pick answers.
                let before_it = k.went pick answers in
                let es : List Event = before_it.0 ++ event now.turn label new.world.crowd.agenda.clock ∷ [] in
                let w = went_on code pick done old.turn old.left now.turn now.left new.left (whole_of old.world) (whole_of now.world) (whole_of new.world) label before_it.0 k.text more before_it.1 (on pick answers)
                (sym (own pick answers)) leads.takes in (
                  es,
                  subst (λ n. Went code pick n old.turn (whole_of old.world) old.left es (k.text ++ more) new.turn (whole_of new.world) new.left) count
                      (subst (λ n. Went code pick (suc done) old.turn (whole_of old.world) old.left es (k.text ++ more) n (whole_of new.world) new.left) (sym leads.turn) w),
                );
          }

      -- the run ends there
      course_over : (end : Ending) → EndsBy code now label end × (more ≡ []) → (turns : ℕ) → done < turns → (any : Course)
          → (text : List ℕ) × (last ≡ before ++ text) × ((pick : Pick) → Answers gives pick → AdvancesTo code pick turns old any (Some end) text)
      course_over end ends turns few any = (
        k.text ++ more,
        all_written,
        λ pick answers.
            let b = k.went pick answers in
            let e = ends_there code now label end ends.0 pick (on pick answers) (sym (own pick answers)) in
            let rest : done + suc (turns - done - 1) ≡ turns = omega (arith, few) in
            let a = went_then code pick done old.turn old.left now.turn now.left (suc (turns - done - 1)) (whole_of old.world) (whole_of now.world) b.0 e.0 k.text [] (Ended end) b.1 (e.1 (turns - done - 1)) in (
              b.0 ++ e.0,
              subst (λ n. Advances code pick n old.turn (whole_of old.world) old.left (b.0 ++ e.0) (k.text ++ more) (Ended end)) rest
                  (subst (λ l. Advances code pick (done + suc (turns - done - 1)) old.turn (whole_of old.world) old.left (b.0 ++ e.0) (k.text ++ l) (Ended end)) (sym ends.1) a),
            ),
      )

    -- the same by what taking it came to

    module _ (label : Label) (own : PicksIt gives now (Some label)) (new : Course) (last : List ℕ) (end : Option Ending) (t : (more : List ℕ) × (last ≡ after ++ more) × TakesTo code now label end new more) where
      pub course_on : end ≡ None → Coursing code gives (done + 1) old new before last
      course_on e = course_more label own new last t.0 t.1 (subst (λ x. TakesTo code now label x new t.0) e t.2)

      pub course_ends : (ends : Ending) → end ≡ Some ends → (turns : ℕ) → done < turns → (any : Course)
          → (text : List ℕ) × (last ≡ before ++ text) × ((pick : Pick) → Answers gives pick → AdvancesTo code pick turns old any (Some ends) text)
      course_ends ends e turns few any = course_over label own new last t.0 t.1 ends (subst (λ x. TakesTo code now label x new t.0) e t.2) turns few any

    -- memory was wanting
    pub course_lost : (turns : ℕ) → done ≤ turns → (last : List ℕ) → last ≡ after → (text : List ℕ) × (last ≡ before ++ text) × ((pick : Pick) → Answers gives pick → HasGone code pick turns old text)
    course_lost turns few last same = (
      k.text,
      same ∙ k.written,
      λ pick answers. let b = k.went pick answers in record { count = done; within = few; events = b.0; turn = now.turn; whole = whole_of now.world; left = now.left; went = b.1 },
    )

    -- no turn more is taken: so many were, or the run has ended
    pub course_stops : (turns : ℕ) → done ≤ turns → ((pick : Pick) → Answers gives pick → ending (config_of (whole_of now.world)) ≡ None → turns ≡ done) → (o : Option Ending)
        → o ≡ ending (config_of (whole_of now.world)) → (text : List ℕ) × (after ≡ before ++ text) × ((pick : Pick) → Answers gives pick → AdvancesTo code pick turns old now o text)
    course_stops turns few all o e = (k.text, k.written, λ pick answers. by_ending pick (k.went pick answers) (all pick answers) o e)
      where
        by_ending : (pick : Pick) → (events : List Event) × Went code pick done old.turn (whole_of old.world) old.left events k.text now.turn (whole_of now.world) now.left
            → (ending (config_of (whole_of now.world)) ≡ None → turns ≡ done) → (o : Option Ending) → o ≡ ending (config_of (whole_of now.world)) → AdvancesTo code pick turns old now o k.text
        by_ending pick b all None e =
            let same = all (sym e) in
            let none_more : done + 0 ≡ turns = omega (arith, same) in
            let a = went_then code pick done old.turn old.left now.turn now.left 0 (whole_of old.world) (whole_of now.world) b.0 [] k.text [] (Going now.turn (whole_of now.world) now.left) b.1 (pauses now.turn now.left (whole_of now.world) (sym e)) in (
              (
                b.0 ++ [],
                subst (λ n. Advances code pick n old.turn (whole_of old.world) old.left (b.0 ++ []) k.text (Going now.turn (whole_of now.world) now.left)) none_more
                    (subst (λ l. Advances code pick (done + 0) old.turn (whole_of old.world) old.left (b.0 ++ []) l (Going now.turn (whole_of now.world) now.left)) (append-nil k.text) a),
              ),
              k.course,
            )
        by_ending pick b all (Some end) e =
            let n = turns - done in
            let rest : done + n ≡ turns = omega (arith, few) in
            let a = went_then code pick done old.turn old.left now.turn now.left n (whole_of old.world) (whole_of now.world) b.0 [] k.text [] (Ended end) b.1 (rests n now.turn now.left (whole_of now.world) end (sym e)) in (
              b.0 ++ [],
              subst (λ m. Advances code pick m old.turn (whole_of old.world) old.left (b.0 ++ []) k.text (Ended end)) rest
                  (subst (λ l. Advances code pick (done + n) old.turn (whole_of old.world) old.left (b.0 ++ []) l (Ended end)) (append-nil k.text) a),
            )
