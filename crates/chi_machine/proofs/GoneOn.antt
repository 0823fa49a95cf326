-- Instances that go on, among the others.
use Rattle.std.proofs.Common.{◌≡◌, ◌≢◌, ℕ, ◌<◌, List, length, Option, Some, None, get_or, refl, sym, ap, subst, ◌∙◌, arith}
use Rattle.std.specs.Prelude.{slice_get, slice_set, map}
use Rattle.std.proofs.lemmas.Option.{slice_get_read, slice_get_within}
use Rattle.chi_value.specs.declared.value.Value.{Value}
use Rattle.chi_chan.specs.declared.offers.Offer.{Offer}
use Rattle.chi_chan_laws.specs.Agreement.{offered_by}
use Rattle.chi_code.specs.declared.code.Code.{Code}
use Rattle.chi_exec_law.specs.Runs.{Rests, Reaches, Halts}
use Rattle.chi_machine_laws.specs.Deeds.{held_there}
use Rattle.chi_machine_laws.specs.Instances.{Kept, Held}
use Rattle.chi_machine_laws.specs.Labels.{jumps}
use Rattle.chi_machine_runs.specs.declared.made.Room.{Room}
use Rattle.chi_machine_runs.specs.Resuming.{value_by, resumed_at, sent_at}
use Rattle.chi_machine_agenda.specs.Phases.{Running, Waiting, IsJoining, with_phase}
use Rattle.chi_machine.specs.declared.crowd.Crowd.{Crowd}
use Rattle.chi_machine.specs.declared.instance.Instance.{Instance}
use Rattle.chi_machine.specs.Crowds.{IsCrowd, Becomes}
use Rattle.chi_machine.specs.Resuming.{MayResume, MayGoOn}
use Rattle.chi_machine.specs.Views.{frame_at, offers_at, instances_of}
use Rattle.chi_machine.proofs.Crowded.{as_many, kept_set, becomes_again, runs_fit}
use Rattle.chi_machine.proofs.Helds.{held_find}
use Rattle.chi_machine.proofs.Listed.{set_own, get_set}
use Rattle.chi_machine.proofs.Resumed.{seen_there, has_room, may_resume, sends_so, settles_so, next_is, joining_there, room_there, goes_on_so, goes_on_to}

-- who is stood for is there
there_within : (c : Crowd) (p : ℕ) (h : Held) → slice_get (instances_of c) p ≡ Some h → p < length c.instances.items
there_within c p h there = let f = held_find c.instances.items c.agenda.phases p h there in slice_get_within c.instances.items p f.i f.instance

-- it has another phase and stands so

module _ (old mid : Crowd) (kept : IsCrowd old) (p : ℕ) (within : p < length old.instances.items) (now : Instance) (at : mid.instances.items ≡ slice_set old.instances.items p now) (known : mid.agenda ≡ with_phase old.agenda p Running) where
  now_there : slice_get mid.instances.items p ≡ Some now
  now_there = ap (λ l. slice_get l p) at ∙ get_set old.instances.items p now within

  now_runs : slice_get mid.agenda.phases p ≡ Some Running
  now_runs = let many = as_many old kept in (λ j. slice_get (known j).phases p) ∙ get_set old.agenda.phases p Running (omega (arith, within, many))

  now_becomes : (new : Crowd) (code : Code) (z : ℕ) (x : Held) → ((i : Instance) → slice_get mid.instances.items p ≡ Some i → Becomes mid new (slice_set (instances_of mid) p (held_there code i.process (frame_at i.room) z)))
      → held_there code now.process (frame_at now.room) z ≡ x → Becomes old new (slice_set (instances_of old) p x)
  now_becomes new code z x rests is = becomes_again old mid p now Running at known new x (subst (λ h. Becomes mid new (slice_set (instances_of mid) p h)) is (rests now now_there))

module _ (code : Code) (old : Crowd) (kept : IsCrowd old) (p a : ℕ) (x : Option Value) (r : MayResume code (instances_of old) p a x) where
  pub takes_within : p < length old.instances.items
  takes_within = there_within old p r.h r.there

  module _ (own : Instance) (read : own ≡ get_or old.instances.items p own) where
    here : slice_get old.instances.items p ≡ Some own
    here = slice_get_read old.instances.items (length old.instances.items) p own refl takes_within read

    pub takes_room : own.room ≢ None
    takes_room = has_room code old.instances.items old.agenda.phases p own here a x r kept.fits

    pub takes_seen : (room : Room) → own.room ≡ Some room → (offers : List Offer) → offers ≡ map (λ (k : Kept). offered_by k.act) room.opened → slice_get old.agenda.phases p ≡ Some (Waiting offers)
    takes_seen room has offers e = seen_there code old.instances.items old.agenda.phases p own here a x r kept.fits room has offers e

    pub takes_may : resumed_at (offers_at own.room) a x (frame_at own.room).variables ≢ None
    takes_may = may_resume code old.instances.items old.agenda.phases p own here a x r

    pub takes_sent : (sent : Option Value) → sent ≡ sent_at (offers_at own.room) a → sent ≡ value_by r.kept.act
    takes_sent sent e = e ∙ sends_so code old.instances.items old.agenda.phases p own here a x r

    module _ (now : Instance) (place : ℕ) (resumed : resumed_at (offers_at own.room) a x (frame_at own.room).variables ≡ Some ((frame_at now.room).variables, place)) where
      pub takes_halt : Halts (jumps code.instrs) place
      takes_halt = settles_so code old.instances.items old.agenda.phases p own here a x r (frame_at now.room).variables place resumed

      pub takes_becomes : (mid new : Crowd) (z : ℕ) → mid.instances.items ≡ slice_set old.instances.items p now → mid.agenda ≡ with_phase old.agenda p Running → Reaches (jumps code.instrs) place (Rests z)
          → now.process ≡ own.process → (frame_at now.room).under ≡ (frame_at own.room).under
          → ((i : Instance) → slice_get mid.instances.items p ≡ Some i → Becomes mid new (slice_set (instances_of mid) p (held_there code i.process (frame_at i.room) z)))
          → Becomes old new (slice_set (instances_of old) p r.next)
      takes_becomes mid new z at known reaches process under rests =
          now_becomes old mid kept p takes_within now at known new code z r.next rests
          (next_is code old.instances.items old.agenda.phases p own here a x r (frame_at now.room).variables place resumed z now reaches process refl under)

  pub takes_kept : (mid : Crowd) (now : Instance) → now.room ≢ None → mid.instances.items ≡ slice_set old.instances.items p now → mid.agenda ≡ with_phase old.agenda p Running → IsCrowd mid
  takes_kept mid now there at known = kept_set old kept mid p now Running at known (runs_fit now.room there)

  pub takes_runs : (mid : Crowd) (now : Instance) → mid.instances.items ≡ slice_set old.instances.items p now → mid.agenda ≡ with_phase old.agenda p Running → slice_get mid.agenda.phases p ≡ Some Running
  takes_runs mid now at known = now_runs old mid kept p takes_within now at known

module _ (code : Code) (old : Crowd) (kept : IsCrowd old) (p : ℕ) (r : MayGoOn code (instances_of old) p) where
  pub joins_within : p < length old.instances.items
  joins_within = there_within old p r.h r.there

  module _ (own : Instance) (read : own ≡ get_or old.instances.items p own) where
    there : slice_get old.instances.items p ≡ Some own
    there = slice_get_read old.instances.items (length old.instances.items) p own refl joins_within read

    pub joins_rest : IsJoining (slice_get old.agenda.phases p)
    joins_rest = joining_there code old.instances.items old.agenda.phases p own there r

    pub joins_halt : Halts (jumps code.instrs) own.at
    joins_halt = goes_on_so code old.instances.items old.agenda.phases p own there r

    -- where nothing else has changed
    module _ (mid : Crowd) (at : mid.instances.items ≡ old.instances.items) (known : mid.agenda ≡ with_phase old.agenda p Running) where
      set : mid.instances.items ≡ slice_set old.instances.items p own
      set = at ∙ sym (set_own old.instances.items p own there)

      pub joined_kept : IsCrowd mid
      joined_kept = kept_set old kept mid p own Running set known (runs_fit own.room (room_there code old.instances.items old.agenda.phases p own there r kept.fits))

      pub joined_runs : slice_get mid.agenda.phases p ≡ Some Running
      joined_runs = now_runs old mid kept p joins_within own set known

      pub joined_becomes : (new : Crowd) (z : ℕ) → Reaches (jumps code.instrs) own.at (Rests z)
          → ((i : Instance) → slice_get mid.instances.items p ≡ Some i → Becomes mid new (slice_set (instances_of mid) p (held_there code i.process (frame_at i.room) z)))
          → Becomes old new (slice_set (instances_of old) p (held_there code r.h.definition r.h.frame r.place))
      joined_becomes new z reaches rests =
          now_becomes old mid kept p joins_within own set known new code z (held_there code r.h.definition r.h.frame r.place) rests
          (goes_on_to code old.instances.items old.agenda.phases p own there r z reaches)
