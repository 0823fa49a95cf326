-- The instances, with what each waits for, after one of them has changed.
use Rattle.std.proofs.Common.{◌≡◌, ◌≢◌, ℕ, ◌<◌, List, [], ◌∷◌, ◌++◌, length, Option, Some, None, refl, sym, ap, subst, ◌∙◌, length-append, arith}
use Rattle.std.specs.Prelude.{slice_get, slice_set, map}
use Rattle.std.proofs.lemmas.Option.{slice_get_within}
use Rattle.chi_core.specs.declared.limits.TheConstants.{MOST_INSTANCES}
use Rattle.chi_chan.specs.declared.offers.Offer.{Offer}
use Rattle.chi_chan_laws.specs.Agreement.{offered_by}
use Rattle.chi_machine_laws.specs.Instances.{Held}
use Rattle.chi_machine_laws.specs.Stands.{Pairwise}
use Rattle.chi_machine_laws.proofs.Pairs.{pairs_length, pairs_end, pairs_set, pairs_get}
use Rattle.chi_machine_runs.specs.declared.made.Room.{Room}
use Rattle.chi_machine_agenda.specs.Phases.{Agenda, Phase, Running, Waiting, Joining, with_phase, with_more}
use Rattle.chi_machine.specs.declared.crowd.Crowd.{Crowd}
use Rattle.chi_machine.specs.declared.instance.Instance.{Instance}
use Rattle.chi_machine.specs.Crowds.{RoomFits, Fits, IsCrowd, Becomes, OthersStay}
use Rattle.chi_machine.specs.Views.{held_of, all_held, instances_of}
use Rattle.chi_machine.proofs.Helds.{held_set}
use Rattle.chi_machine.proofs.Listed.{set_own, set_again, get_other, length_set}

-- who runs has a room
pub runs_fit : (room : Option Room) → room ≢ None → RoomFits Running room
runs_fit None h = absurd (h refl)
runs_fit (Some room) h = tt

pub room_of_running : (room : Option Room) → RoomFits Running room → room ≢ None
room_of_running None h e = h
room_of_running (Some room) h e = cc

pub room_of_waiting : (seen : List Offer) (room : Option Room) → RoomFits (Waiting seen) room → room ≢ None
room_of_waiting seen None h e = h
room_of_waiting seen (Some room) h e = cc

pub room_of_joining : (numbers : List ℕ) (room : Option Room) → RoomFits (Joining numbers) room → room ≢ None
room_of_joining numbers None h e = h
room_of_joining numbers (Some room) h e = cc

pub joins_fit : (numbers : List ℕ) (room : Option Room) → room ≢ None → RoomFits (Joining numbers) room
joins_fit numbers None h = absurd (h refl)
joins_fit numbers (Some room) h = tt

pub waits_fit : (seen : List Offer) (room : Room) (r : Option Room) → r ≡ Some room → seen ≡ map (λ k. offered_by k.act) room.opened → RoomFits (Waiting seen) r
waits_fit seen room r e h = subst (RoomFits (Waiting seen)) (sym e) h

module _ (c : Crowd) (kept : IsCrowd c) where
  pub as_many : length c.agenda.phases ≡ length c.instances.items
  as_many = pairs_length Fits c.instances.items c.agenda.phases kept.fits

  -- whose phase is known is there
  pub within : (p : ℕ) (phase : Phase) → slice_get c.agenda.phases p ≡ Some phase → p < length c.instances.items
  within p phase e = omega (arith, slice_get_within c.agenda.phases p phase e, as_many)

  -- and fits it
  pub fits_there : (p : ℕ) (i : Instance) (phase : Phase) → slice_get c.instances.items p ≡ Some i → slice_get c.agenda.phases p ≡ Some phase → RoomFits phase i.room
  fits_there p i phase at e =
      let f = pairs_get Fits c.instances.items c.agenda.phases p i kept.fits at in
      let g = f.1 in
      let same : f.0 ≡ phase = cc in
      subst (λ phase. RoomFits phase i.room) same f.2

  -- one instance stands elsewhere, or has another phase
  pub kept_set : (new : Crowd) (p : ℕ) (i : Instance) (phase : Phase) → new.instances.items ≡ slice_set c.instances.items p i → new.agenda ≡ with_phase c.agenda p phase → RoomFits phase i.room → IsCrowd new
  kept_set new p i phase at known h = record {
    fits = subst (λ is. Pairwise Fits is new.agenda.phases) (sym at)
        (subst (λ (a : Agenda). Pairwise Fits (slice_set c.instances.items p i) a.phases) (sym known) (pairs_set Fits c.instances.items c.agenda.phases p i phase kept.fits h));
    few = omega (arith, kept.few, ap length at, length_set c.instances.items p i);
  }

  pub kept_moved : (new : Crowd) (p : ℕ) (i : Instance) (phase : Phase) → slice_get c.agenda.phases p ≡ Some phase → new.instances.items ≡ slice_set c.instances.items p i → new.agenda ≡ c.agenda → RoomFits phase i.room → IsCrowd new
  kept_moved new p i phase there at known h =
      kept_set new p i phase at (known ∙ (λ j. record c.agenda { phases = sym (set_own c.agenda.phases p phase there) j })) h

  pub kept_more : (new : Crowd) (i : Instance) → length c.instances.items < MOST_INSTANCES → new.instances.items ≡ c.instances.items ++ i ∷ [] → new.agenda ≡ with_more c.agenda → RoomFits Running i.room → IsCrowd new
  kept_more new i room at known h = record {
    fits = subst (λ is. Pairwise Fits is new.agenda.phases) (sym at)
        (subst (λ (a : Agenda). Pairwise Fits (c.instances.items ++ i ∷ []) a.phases) (sym known) (pairs_end Fits c.instances.items c.agenda.phases i Running kept.fits h));
    few = omega (arith, room, ap length at, length-append c.instances.items (i ∷ []));
  }

module _ (old mid : Crowd) (p : ℕ) (i : Instance) (phase : Phase) (at : mid.instances.items ≡ slice_set old.instances.items p i) (known : mid.agenda ≡ with_phase old.agenda p phase) where
  -- what the instances stand for, where one was set
  pub held_now : instances_of mid ≡ slice_set (instances_of old) p (held_of i phase)
  held_now = (λ j. all_held (at j) (known j).phases) ∙ held_set old.instances.items old.agenda.phases p i phase

  pub becomes_set : Becomes old mid (slice_set (instances_of old) p (held_of i phase))
  becomes_set = record { clock = ap (λ (a : Agenda). a.clock) known; until = ap (λ (a : Agenda). a.until) known; held = held_now }

  pub others_set : OthersStay old mid p
  others_set = record {
    instances = λ q other. ap (λ l. slice_get l q) at ∙ get_other old.instances.items p q i other;
    phases = λ q other. ap (λ (a : Agenda). slice_get a.phases q) known ∙ get_other old.agenda.phases p q phase other;
  }

  -- and then it is set once more
  pub becomes_again : (new : Crowd) (x : Held) → Becomes mid new (slice_set (instances_of mid) p x) → Becomes old new (slice_set (instances_of old) p x)
  becomes_again new x b = record {
    clock = b.clock ∙ ap (λ (a : Agenda). a.clock) known;
    until = b.until ∙ ap (λ (a : Agenda). a.until) known;
    held = b.held ∙ ap (λ l. slice_set l p x) held_now ∙ set_again (instances_of old) p (held_of i phase) x;
  }

  pub others_again : (new : Crowd) → OthersStay mid new p → OthersStay old new p
  others_again new o = record {
    instances = λ q other. o.instances q other ∙ others_set.instances q other;
    phases = λ q other. o.phases q other ∙ others_set.phases q other;
  }

-- the same where its phase stays
pub stays_known : (old mid : Crowd) (p : ℕ) (phase : Phase) → slice_get old.agenda.phases p ≡ Some phase → mid.agenda ≡ old.agenda → mid.agenda ≡ with_phase old.agenda p phase
stays_known old mid p phase e known = known ∙ (λ j. record old.agenda { phases = sym (set_own old.agenda.phases p phase e) j })
