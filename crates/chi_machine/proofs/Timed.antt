-- What is known of the instances beside them is what the machine's state says of them; and the time goes on.
use Rattle.std.proofs.Common.{◌≡◌, ◌≤◌, ℕ, suc, ℤ, List, [], ◌∷◌, length, Option, Some, None, refl, sym, ap, subst, ◌∙◌}
use Rattle.std.specs.Prelude.{map}
use Rattle.chi_chan_laws.specs.Agreement.{offered_by, offered_as}
use Rattle.chi_code.specs.declared.code.Code.{Code}
use Rattle.chi_core.specs.declared.label.Label.TheVariants.{Advance}
use Rattle.chi_core.specs.declared.limits.TheConstants.{MOST_INSTANCES}
use Rattle.chi_core.specs.Meeting.{next_due}
use Rattle.chi_core.specs.Options.{actors}
use Rattle.chi_machine_laws.specs.Choosing.{offer_of, instance_of, config_of}
use Rattle.chi_machine_laws.specs.Instances.{Kept, Whole}
use Rattle.chi_machine_laws.specs.Labels.{Outcome, GoesOn, Takes, advances}
use Rattle.chi_machine_laws.specs.Stands.{Pairwise, none, more}
use Rattle.chi_machine_runs.specs.declared.made.Room.{Room}
use Rattle.chi_machine_agenda.specs.Phases.{Agenda, Phase, Running, Waiting, Joining, Finished, reached}
use Rattle.chi_machine_agenda.specs.Reading as agenda
use Rattle.chi_machine_agenda.specs.Reading.{phase_of, agenda_of}
use Rattle.chi_machine_agenda.specs.Laws.{ActorsAlike, DueAlike}
use Rattle.chi_machine.specs.declared.instance.Instance.{Instance}
use Rattle.chi_machine.specs.declared.taken.Taken.TheVariants.{On}
use Rattle.chi_machine.specs.declared.world.World.{World}
use Rattle.chi_machine.specs.Crowds.{RoomFits, Fits, IsCrowd, IsWorld}
use Rattle.chi_machine.specs.Takings.{MayTake, Took}
use Rattle.chi_machine.specs.Views.{held_of, all_held, whole_of}

offers_seen : (ks : List Kept) → map offered_as (map offer_of ks) ≡ map (λ (k : Kept). offered_by k.act) ks
offers_seen [] = refl
offers_seen (k ∷ ks) = ap (λ l. offered_by k.act ∷ l) (offers_seen ks)

phase_so : (phase : Phase) (room : Option Room) (process at : ℕ) → RoomFits phase room → phase_of (instance_of (held_of (record { process = process; at = at; room = room }) phase)) ≡ phase
phase_so Running None process at fits = absurd fits
phase_so Running (Some room) process at fits = refl
phase_so (Waiting seen) None process at fits = absurd fits
phase_so (Waiting seen) (Some room) process at fits = ap Waiting (offers_seen room.opened ∙ sym fits)
phase_so (Joining numbers) None process at fits = absurd fits
phase_so (Joining numbers) (Some room) process at fits = refl
phase_so Finished None process at fits = refl
phase_so Finished (Some room) process at fits = absurd fits

phases_so : (is : List Instance) (ps : List Phase) → Pairwise Fits is ps → map phase_of (map instance_of (all_held is ps)) ≡ ps
phases_so _ _ none = refl
phases_so _ _ (more i phase is ps fits rest) = λ j. phase_so phase i.room i.process i.at fits j ∷ phases_so is ps rest j

pub agenda_is : (w : World) → IsCrowd w.crowd → agenda_of (config_of (whole_of w)) ≡ w.crowd.agenda
agenda_is w kept = λ j. record { clock = w.crowd.agenda.clock; until = w.crowd.agenda.until; phases = phases_so w.crowd.instances.items w.crowd.agenda.phases kept.fits j }

pub idle_too : ActorsAlike → (w : World) → IsCrowd w.crowd → actors (config_of (whole_of w)) ≡ [] → actors (agenda.config_of w.crowd.agenda) ≡ []
idle_too law w kept e = ap (λ a. actors (agenda.config_of a)) (sym (agenda_is w kept)) ∙ law (config_of (whole_of w)) ∙ e

pub due_too : DueAlike → (w : World) → IsCrowd w.crowd → next_due (agenda.config_of w.crowd.agenda) ≡ next_due (config_of (whole_of w))
due_too law w kept = ap (λ a. next_due (agenda.config_of a)) (sym (agenda_is w kept)) ∙ law (config_of (whole_of w))

record Advances (m : Whole) (left : ℕ) (o : Outcome) : Type 0 where
  time : ℤ
  due : next_due (config_of m) ≡ Some time
  is : o ≡ GoesOn (record m { clock = time }) [] left

advances_so : (code : Code) (m : Whole) (left : ℕ) (o : Outcome) → Takes code m Advance (suc left) o → Advances m left o
advances_so code m left _ (advances _ time due may) = record { time = time; due = due; is = refl }

pub advance_took : DueAlike → (code : Code) (w new : World) (left : ℕ) → IsWorld code w → MayTake code (whole_of w) Advance (suc left) → new ≡ record w { crowd = new.crowd } → new.crowd.instances.items ≡ w.crowd.instances.items
    → new.crowd.agenda ≡ reached w.crowd.agenda (next_due (agenda.config_of w.crowd.agenda)) → Took code (whole_of w) Advance (suc left) (On left) new []
advance_took law code w new left kept t same is known =
    let f = advances_so code (whole_of w) left t.outcome t.takes in
    let now : new.crowd.agenda ≡ record w.crowd.agenda { clock = f.time } = known ∙ ap (reached w.crowd.agenda) (due_too law w kept.crowd ∙ f.due) in
    let whole : whole_of new ≡ record (whole_of w) { clock = f.time } = λ j. record {
      clock = (now j).clock;
      draws = (same j).exec.view.draws;
      channels = (same j).exec.view.channels;
      instances = all_held (is j) (now j).phases;
      seed = (same j).seed;
      until = (now j).until;
      constants = (same j).constants.items;
    } in
    let leads : t.outcome ≡ GoesOn (whole_of new) [] left = f.is ∙ (λ j. GoesOn (sym whole j) [] left) in
    let few = kept.crowd.few in
    let crowd : IsCrowd new.crowd = record {
      fits = subst (λ is. Pairwise Fits is new.crowd.agenda.phases) (sym is) (subst (λ (a : Agenda). Pairwise Fits w.crowd.instances.items a.phases) (sym now) kept.crowd.fits);
      few = subst (λ is. length is ≤ MOST_INSTANCES) (sym is) few;
    } in
    (subst (Takes code (whole_of w) Advance (suc left)) leads t.takes, subst (λ (w : World). IsWorld code w) (sym same) (record { hints = kept.hints; crowd = crowd }))
