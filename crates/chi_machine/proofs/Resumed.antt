-- An instance that waits or joins goes on.
use Rattle.std.proofs.Common.{◌≡◌, ◌≢◌, ℕ, List, Option, Some, None, refl, sym, ap, subst, ◌∙◌}
use Rattle.std.specs.Prelude.{slice_get, map}
use Rattle.std.specs.Option.{option_and_then, option_map}
use Rattle.std.proofs.lemmas.Option.{some_pair_parts}
use Rattle.chi_value.specs.declared.value.Value.{Value}
use Rattle.chi_chan.specs.declared.offers.Offer.{Offer}
use Rattle.chi_chan_laws.specs.Agreement.{offered_by}
use Rattle.chi_core.specs.Meeting.{filled}
use Rattle.chi_core.specs.Variables.{Variables}
use Rattle.chi_code.specs.declared.code.Code.{Code}
use Rattle.chi_exec_law.specs.Runs.{Rests, Reaches, Halts}
use Rattle.chi_exec_law.specs.State.{frame_of}
use Rattle.chi_exec_law.proofs.Ends.{ends_alike}
use Rattle.chi_machine_laws.specs.Deeds.{held_there}
use Rattle.chi_machine_laws.specs.Instances as law
use Rattle.chi_machine_laws.specs.Instances.{Kept, Held}
use Rattle.chi_machine_laws.specs.Labels.{jumps}
use Rattle.chi_machine_laws.specs.Stands.{Pairwise}
use Rattle.chi_machine_laws.proofs.Pairs.{pairs_get}
use Rattle.chi_machine_runs.specs.declared.made.Room.{Room}
use Rattle.chi_machine_runs.specs.Resuming.{slot_by, value_by, filled_by, resumed_at, sent_at}
use Rattle.chi_machine_agenda.specs.Phases.{Phase, Running, Waiting, Joining, Finished, IsJoining}
use Rattle.chi_machine.specs.declared.instance.Instance.{Instance}
use Rattle.chi_machine.specs.Crowds.{RoomFits, Fits}
use Rattle.chi_machine.specs.Resuming.{MayResume, MayGoOn}
use Rattle.chi_machine.specs.Views.{frame_at, offers_at, standing_of, held_of, all_held}
use Rattle.chi_machine.proofs.Crowded.{room_of_waiting, room_of_joining}
use Rattle.chi_machine.proofs.Helds.{Found, held_find}

-- what is known of one that waits, and of one that joins

record WaitsSo (i : Instance) (phase : Phase) (offers : List Kept) : Type 0 where
  seen : List Offer
  is : phase ≡ Waiting seen
  same : offers_at i.room ≡ offers

waits_so : (i : Instance) (phase : Phase) (offers : List Kept) → standing_of phase (offers_at i.room) ≡ law.Waiting offers → WaitsSo i phase offers
waits_so i Running offers e = absurd (cc)
waits_so i (Waiting seen) offers e = record { seen = seen; is = refl; same = let s : offers_at i.room ≡ offers = cc in s }
waits_so i (Joining numbers) offers e = absurd (cc)
waits_so i Finished offers e = absurd (cc)

joins_so : (i : Instance) (phase : Phase) (numbers : List ℕ) → standing_of phase (offers_at i.room) ≡ law.Joining numbers → phase ≡ Joining numbers
joins_so i Running numbers e = absurd (cc)
joins_so i (Waiting seen) numbers e = absurd (cc)
joins_so i (Joining others) numbers e = let s : others ≡ numbers = cc in ap Joining s
joins_so i Finished numbers e = absurd (cc)

settled_once : (code : Code) (place y z : ℕ) → Reaches (jumps code.instrs) place (Rests y) → Reaches (jumps code.instrs) place (Rests z) → y ≡ z
settled_once code place y z r s = let e = ends_alike (jumps code.instrs) place (Rests y) (Rests z) r s in cc

module _ (code : Code) (is : List Instance) (ps : List Phase) (p : ℕ) (i : Instance) (at : slice_get is p ≡ Some i) where
  module _ (h : Held) (there : slice_get (all_held is ps) p ≡ Some h) where
    pub found : Found is ps p h
    found = held_find is ps p h there

    pub known : slice_get ps p ≡ Some found.phase
    known = found.known

    pub held_is : h ≡ held_of i found.phase
    held_is =
        let f = found in
        let e = f.instance in
        let same : f.i ≡ i = cc in
        f.is_held ∙ ap (λ i. held_of i f.phase) same

  -- its offer of a number is taken
  module _ (a : ℕ) (x : Option Value) (r : MayResume code (all_held is ps) p a x) where
    own : WaitsSo i (found r.h r.there).phase r.offers
    own = waits_so i (found r.h r.there).phase r.offers (ap (λ (h : Held). h.standing) (sym (held_is r.h r.there)) ∙ r.waits)

    waits_there : slice_get ps p ≡ Some (Waiting own.seen)
    waits_there = known r.h r.there ∙ ap Some own.is

    -- with what others see
    pub seen_there : Pairwise Fits is ps → (room : Room) → i.room ≡ Some room → (offers : List Offer) → offers ≡ map (λ (k : Kept). offered_by k.act) room.opened → slice_get ps p ≡ Some (Waiting offers)
    seen_there fits room has offers e =
        let f = pairs_get Fits is ps p i fits at in
        let known = f.1 in
        let there = waits_there in
        let same : f.0 ≡ Waiting own.seen = cc in
        let its : RoomFits (Waiting own.seen) (Some room) = subst (RoomFits (Waiting own.seen)) has (subst (λ phase. RoomFits phase i.room) same f.2) in
        waits_there ∙ ap (λ os. Some (Waiting os)) (its ∙ sym e)

    pub has_room : Pairwise Fits is ps → i.room ≢ None
    has_room fits =
        let f = pairs_get Fits is ps p i fits at in
        let known = f.1 in
        let there = waits_there in
        let same : f.0 ≡ Waiting own.seen = cc in
        room_of_waiting own.seen i.room (subst (λ phase. RoomFits phase i.room) same f.2)

    frames : (frame_at i.room).variables ≡ r.h.frame.variables
    frames = ap (λ (h : Held). h.frame.variables) (sym (held_is r.h r.there))

    by_kept : Variables → Kept → Option (Variables × ℕ)
    by_kept variables k = option_map (λ full. (full, k.place)) (filled_by k x variables)

    pub resumes_as : resumed_at (offers_at i.room) a x (frame_at i.room).variables ≡ Some (r.resumes.full, r.kept.place)
    unfolding by_kept
    resumes_as =
        (λ j. resumed_at (own.same j) a x (frames j))
        ∙ ap (option_and_then (by_kept r.h.frame.variables)) r.offered
        ∙ ap (λ b. option_map (λ full. (full, r.kept.place)) (option_and_then (filled (slot_by r.kept.act) x) b)) r.resumes.binds
        ∙ ap (option_map (λ full. (full, r.kept.place))) r.resumes.fills

    pub may_resume : resumed_at (offers_at i.room) a x (frame_at i.room).variables ≢ None
    may_resume e = let s = resumes_as in cc

    pub sends_so : sent_at (offers_at i.room) a ≡ value_by r.kept.act
    sends_so = ap (λ os. sent_at os a) own.same ∙ ap (option_and_then (λ (k : Kept). value_by k.act)) r.offered

    -- where it has gone on with these variables, from this place
    module _ (variables : Variables) (place : ℕ) (e : resumed_at (offers_at i.room) a x (frame_at i.room).variables ≡ Some (variables, place)) where
      parts : (variables ≡ r.resumes.full) × (place ≡ r.kept.place)
      parts = some_pair_parts variables r.resumes.full place r.kept.place (sym e ∙ resumes_as)

      pub settles_so : Halts (jumps code.instrs) place
      settles_so = (Rests r.resumes.place, subst (λ n. Reaches (jumps code.instrs) n (Rests r.resumes.place)) (sym parts.1) r.resumes.settles)

      pub next_is : (z : ℕ) (now : Instance) → Reaches (jumps code.instrs) place (Rests z) → now.process ≡ i.process → (frame_at now.room).variables ≡ variables → (frame_at now.room).under ≡ (frame_at i.room).under
          → held_there code now.process (frame_at now.room) z ≡ r.next
      next_is z now reaches process its under =
          let definition : now.process ≡ r.h.definition = process ∙ ap (λ (h : Held). h.definition) (sym (held_is r.h r.there)) in
          let full : (frame_at now.room).variables ≡ r.resumes.full = its ∙ parts.0 in
          let below : (frame_at now.room).under ≡ r.h.frame.under = under ∙ ap (λ (h : Held). h.frame.under) (sym (held_is r.h r.there)) in
          let there : z ≡ r.resumes.place = settled_once code r.kept.place z r.resumes.place (subst (λ n. Reaches (jumps code.instrs) n (Rests z)) parts.1 reaches) r.resumes.settles in
          (λ j. held_there code (definition j) (frame_of (full j) (below j)) (there j)) ∙ sym r.resumes.is

  -- it has joined
  module _ (r : MayGoOn code (all_held is ps) p) where
    pub joins_there : slice_get ps p ≡ Some (Joining r.numbers)
    joins_there =
        known r.h r.there ∙ ap Some (joins_so i (found r.h r.there).phase r.numbers (ap (λ (h : Held). h.standing) (sym (held_is r.h r.there)) ∙ r.joins))

    pub joining_there : IsJoining (slice_get ps p)
    joining_there = subst IsJoining (sym joins_there) tt

    pub room_there : Pairwise Fits is ps → i.room ≢ None
    room_there fits =
        let f = pairs_get Fits is ps p i fits at in
        let known = f.1 in
        let there = joins_there in
        let same : f.0 ≡ Joining r.numbers = cc in
        room_of_joining r.numbers i.room (subst (λ phase. RoomFits phase i.room) same f.2)

    stands : i.at ≡ r.h.at
    stands = ap (λ (h : Held). h.at) (sym (held_is r.h r.there))

    pub goes_on_so : Halts (jumps code.instrs) i.at
    goes_on_so = (Rests r.place, subst (λ n. Reaches (jumps code.instrs) n (Rests r.place)) (sym stands) r.settles)

    pub goes_on_to : (z : ℕ) → Reaches (jumps code.instrs) i.at (Rests z) → held_there code i.process (frame_at i.room) z ≡ held_there code r.h.definition r.h.frame r.place
    goes_on_to z reaches =
        let there : z ≡ r.place = settled_once code r.h.at z r.place (subst (λ n. Reaches (jumps code.instrs) n (Rests z)) stands reaches) r.settles in
        let held = held_is r.h r.there in
        λ j. held_there code (sym held j).definition (sym held j).frame (there j)
