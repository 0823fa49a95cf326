-- An instance that runs is put elsewhere, or has another phase.
use Rattle.std.proofs.Common.{◌≡◌, ◌≢◌, ℕ, List, length, Option, Some, None, true, false, get_or, refl, sym, ap, subst, ◌∙◌}
use Rattle.std.specs.Prelude.{slice_get, slice_set, map}
use Rattle.std.proofs.lemmas.Option.{slice_get_read}
use Rattle.chi_chan.specs.declared.offers.Offer.{Offer}
use Rattle.chi_chan_laws.specs.Agreement.{offered_by}
use Rattle.chi_code.specs.declared.code.Code.{Code}
use Rattle.chi_exec_law.specs.State.{Frame}
use Rattle.chi_machine_laws.specs.Deeds.{held_there}
use Rattle.chi_machine_laws.specs.Instances as law
use Rattle.chi_machine_laws.specs.Instances.{Held}
use Rattle.chi_machine_runs.specs.declared.made.Room.{Room}
use Rattle.chi_machine_agenda.specs.Phases.{Running, Waiting, Joining, Finished, with_phase}
use Rattle.chi_machine.specs.declared.crowd.Crowd.{Crowd}
use Rattle.chi_machine.specs.declared.instance.Instance.{Instance}
use Rattle.chi_machine.specs.Crowds.{RoomFits, IsCrowd, Becomes, OthersStay}
use Rattle.chi_machine.specs.Ends.{held_so}
use Rattle.chi_machine.specs.Views.{frame_at, offers_at, instances_of}
use Rattle.chi_machine.proofs.Crowded.{within, fits_there, kept_set, kept_moved, becomes_set, others_set, becomes_again, others_again, stays_known, room_of_running, runs_fit, joins_fit, waits_fit}
use Rattle.chi_machine.proofs.Listed.{get_set}

finishes_fit : (room : Option Room) → room ≡ None → RoomFits Finished room
finishes_fit room e = subst (RoomFits Finished) (sym e) tt

module _ (old : Crowd) (kept : IsCrowd old) (p : ℕ) (runs : slice_get old.agenda.phases p ≡ Some Running) (own : Instance) (read : own ≡ get_or old.instances.items p own) where
  pub here : slice_get old.instances.items p ≡ Some own
  here = slice_get_read old.instances.items (length old.instances.items) p own refl (within old kept p Running runs) read

  pub has_room : own.room ≢ None
  has_room = room_of_running own.room (fits_there old kept p own Running here runs)

  same : (i : Instance) → slice_get old.instances.items p ≡ Some i → own ≡ i
  same i e = let h = here in cc

  -- it has finished

  module _ (mid : Crowd) (room : Option Room) (none : room ≡ None) (at : mid.instances.items ≡ slice_set old.instances.items p (record own { room = room })) (known : mid.agenda ≡ with_phase old.agenda p Finished) where
    pub finished_kept : IsCrowd mid
    finished_kept = kept_set old kept mid p (record own { room = room }) Finished at known (finishes_fit room none)

    pub finished_becomes : (i : Instance) → slice_get old.instances.items p ≡ Some i → Becomes old mid (slice_set (instances_of old) p (held_so true i.process (frame_at i.room) i.at))
    finished_becomes i e =
        subst (λ (i : Instance). Becomes old mid (slice_set (instances_of old) p (held_so true i.process (frame_at i.room) i.at))) (same i e)
        (subst (λ room. Becomes old mid (slice_set (instances_of old) p (record { definition = own.process; at = own.at; frame = frame_at room; standing = law.Finished }))) none
        (becomes_set old mid p (record own { room = room }) Finished at known))

    pub finished_others : OthersStay old mid p
    finished_others = others_set old mid p (record own { room = room }) Finished at known

  -- it stands at another place

  module _ (mid : Crowd) (place : ℕ) (at : mid.instances.items ≡ slice_set old.instances.items p (record own { at = place })) (known : mid.agenda ≡ old.agenda) where
    now : Instance
    now = record own { at = place }

    pub moved_kept : IsCrowd mid
    moved_kept = kept_moved old kept mid p (record own { at = place }) Running runs at known (runs_fit own.room has_room)

    pub moved_becomes : (code : Code) → ((definition : ℕ) (frame : Frame) → held_there code definition frame place ≡ held_so false definition frame place)
        → (i : Instance) → slice_get old.instances.items p ≡ Some i → Becomes old mid (slice_set (instances_of old) p (held_there code i.process (frame_at i.room) place))
    moved_becomes code goes i e =
        subst (λ (i : Instance). Becomes old mid (slice_set (instances_of old) p (held_there code i.process (frame_at i.room) place))) (same i e)
        (subst (λ h. Becomes old mid (slice_set (instances_of old) p h)) (sym (goes own.process (frame_at own.room)))
        (becomes_set old mid p (record own { at = place }) Running at (stays_known old mid p Running runs known)))

    pub moved_others : OthersStay old mid p
    moved_others = others_set old mid p (record own { at = place }) Running at (stays_known old mid p Running runs known)

    pub moved_runs : slice_get mid.agenda.phases p ≡ Some Running
    moved_runs = (λ j. slice_get (known j).phases p) ∙ runs

    -- and has finished there
    module _ (new : Crowd) where
      pub ended_becomes : (code : Code) → ((definition : ℕ) (frame : Frame) → held_there code definition frame place ≡ held_so true definition frame place)
          → ((i : Instance) → slice_get mid.instances.items p ≡ Some i → Becomes mid new (slice_set (instances_of mid) p (held_so true i.process (frame_at i.room) i.at)))
          → (i : Instance) → slice_get old.instances.items p ≡ Some i → Becomes old new (slice_set (instances_of old) p (held_there code i.process (frame_at i.room) place))
      ended_becomes code ends then_so i e =
          let set : slice_get mid.instances.items p ≡ Some (record own { at = place }) = ap (λ l. slice_get l p) at ∙ get_set old.instances.items p (record own { at = place }) (within old kept p Running runs) in
          subst (λ (i : Instance). Becomes old new (slice_set (instances_of old) p (held_there code i.process (frame_at i.room) place))) (same i e)
          (subst (λ h. Becomes old new (slice_set (instances_of old) p h)) (sym (ends own.process (frame_at own.room)))
          (becomes_again old mid p (record own { at = place }) Running at (stays_known old mid p Running runs known) new _ (then_so (record own { at = place }) set)))

      pub ended_others : OthersStay mid new p → OthersStay old new p
      ended_others o = others_again old mid p (record own { at = place }) Running at (stays_known old mid p Running runs known) new o

  -- it waits or joins at another place

  module _ (mid : Crowd) (place : ℕ) (at : mid.instances.items ≡ slice_set old.instances.items p (record own { at = place })) where
    module _ (numbers : List ℕ) (known : mid.agenda ≡ with_phase old.agenda p (Joining numbers)) where
      pub joins_kept : IsCrowd mid
      joins_kept = kept_set old kept mid p (record own { at = place }) (Joining numbers) at known (joins_fit numbers own.room has_room)

      pub joins_becomes : (i : Instance) → slice_get old.instances.items p ≡ Some i
          → Becomes old mid (slice_set (instances_of old) p (record { definition = i.process; at = place; frame = frame_at i.room; standing = law.Joining numbers }))
      joins_becomes i e =
          subst (λ (i : Instance). Becomes old mid (slice_set (instances_of old) p (record { definition = i.process; at = place; frame = frame_at i.room; standing = law.Joining numbers }))) (same i e)
          (becomes_set old mid p (record own { at = place }) (Joining numbers) at known)

    module _ (room : Room) (has : own.room ≡ Some room) (seen : List Offer) (offered : seen ≡ map (λ k. offered_by k.act) room.opened) (known : mid.agenda ≡ with_phase old.agenda p (Waiting seen)) where
      pub waits_kept : IsCrowd mid
      waits_kept = kept_set old kept mid p (record own { at = place }) (Waiting seen) at known (waits_fit seen room own.room has offered)

      pub waits_becomes : (i : Instance) → slice_get old.instances.items p ≡ Some i
          → Becomes old mid (slice_set (instances_of old) p (record { definition = i.process; at = place; frame = frame_at i.room; standing = law.Waiting (offers_at i.room) }))
      waits_becomes i e =
          subst (λ (i : Instance). Becomes old mid (slice_set (instances_of old) p (record { definition = i.process; at = place; frame = frame_at i.room; standing = law.Waiting (offers_at i.room) }))) (same i e)
          (becomes_set old mid p (record own { at = place }) (Waiting seen) at known)
