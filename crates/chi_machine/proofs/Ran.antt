-- A run of one instance: what it begins with, and what the machine stands for after it.
use Rattle.std.proofs.Common.{◌≡◌, ◌≢◌, ℕ, ℤ, get_or, ◌+◌, ◌<◌, ◌^◌, List, [], ◌∷◌, Some, None, Bool, length, refl, sym, ap, subst, ◌∙◌, arith}
use Rattle.std.specs.Prelude.{slice_get, slice_set, map}
use Rattle.std.proofs.lemmas.List.{length-map}
use Rattle.std.proofs.lemmas.Option.{slice_get_read}
use Rattle.chi_value.specs.declared.value.Value.{Value}
use Rattle.chi_core.specs.Config.{has_finished}
use Rattle.chi_code.specs.declared.code.Code.{Code}
use Rattle.chi_code.specs.declared.instr.Instr.{Instr}
use Rattle.chi_exec_steps.specs.declared.machinery.Machine.{Machine}
use Rattle.chi_exec_law.specs.Runs.{Halts}
use Rattle.chi_exec_law.specs.State.{Frame, state}
use Rattle.chi_machine_laws.specs.Choosing.{instance_of}
use Rattle.chi_machine_laws.specs.Deeds.{Within, nothing, moves}
use Rattle.chi_machine_laws.specs.Instances as law
use Rattle.chi_machine_laws.specs.Instances.{Kept, Held, Whole}
use Rattle.chi_machine_laws.specs.Labels.{within_at, view_at, going}
use Rattle.chi_machine_runs.specs.declared.doing.Doing.{Doing}
use Rattle.chi_machine_runs.specs.Views.{brought_of, Ran}
use Rattle.chi_machine_agenda.specs.Phases.{Phase, Running, Waiting, Joining, Finished, is_over, are_over}
use Rattle.chi_machine.specs.declared.instance.Instance.{Instance}
use Rattle.chi_machine.specs.declared.world.World.{World}
use Rattle.chi_machine.specs.Crowds.{IsWorld}
use Rattle.chi_machine.specs.Runs.{MayRun, HasRun}
use Rattle.chi_machine.specs.Views.{frame_at, offers_at, standing_of, held_of, all_held, instances_of, whole_of, state_with}
use Rattle.chi_machine.proofs.Crowded.{as_many, within, fits_there, room_of_running}
use Rattle.chi_machine.proofs.Helds.{held_find, held_instance, held_length}

-- who has finished, by what is known of each

over_so : (phase : Phase) (offers : List Kept) (definition at : ℕ) (frame : Frame) → is_over phase ≡ has_finished (instance_of (record { definition = definition; at = at; frame = frame; standing = standing_of phase offers }))
over_so Running offers definition at frame = refl
over_so (Waiting seen) offers definition at frame = refl
over_so (Joining numbers) offers definition at frame = refl
over_so Finished offers definition at frame = refl

pub overs_so : (is : List Instance) (ps : List Phase) → length ps ≡ length is → are_over ps ≡ map (λ h. has_finished (instance_of h)) (all_held is ps)
overs_so [] [] h = refl
overs_so [] (q ∷ ps) h = absurd (omega (arith, h))
overs_so (i ∷ is) [] h = absurd (omega (arith, h))
overs_so (i ∷ is) (q ∷ ps) h = λ j. over_so q (offers_at i.room) i.process i.at (frame_at i.room) j ∷ overs_so is ps (omega (arith, h)) j

runs_so : (phase : Phase) (offers : List Kept) → standing_of phase offers ≡ law.Running → phase ≡ Running
runs_so Running offers e = refl
runs_so (Waiting seen) offers e = absurd (cc)
runs_so (Joining numbers) offers e = absurd (cc)
runs_so Finished offers e = absurd (cc)

-- an instance that the state has as one that runs
module _ (is : List Instance) (ps : List Phase) (p : ℕ) (i : Instance) (at : slice_get is p ≡ Some i) (h : Held) (there : slice_get (all_held is ps) p ≡ Some h) (runs : h.standing ≡ law.Running) where
  pub phase_runs : slice_get ps p ≡ Some Running
  phase_runs =
      let f = held_find is ps p h there in
      f.known ∙ ap Some (runs_so f.phase (offers_at f.i.room) (ap (λ (h : Held). h.standing) (sym f.is_held) ∙ runs))

  pub held_running : h ≡ held_of i Running
  held_running =
      let f = held_find is ps p h there in
      let e = f.instance in
      let same : f.i ≡ i = cc in
      let phase : f.phase ≡ Running = runs_so f.phase (offers_at f.i.room) (ap (λ (h : Held). h.standing) (sym f.is_held) ∙ runs) in
      f.is_held ∙ (λ j. held_of (same j) (phase j))

module _ (code : Code) (w : World) (kept : IsWorld code w) (p left : ℕ) (r : MayRun code (whole_of w) p left) where
  pub runs_there : slice_get w.crowd.agenda.phases p ≡ Some Running
  runs_there =
      let f = held_find w.crowd.instances.items w.crowd.agenda.phases p r.h r.there in
      phase_runs w.crowd.instances.items w.crowd.agenda.phases p f.i f.instance r.h r.there r.runs

  pub there_within : p < length w.crowd.instances.items
  there_within = within w.crowd kept.crowd p Running runs_there

  module _ (i : Instance) (at : slice_get w.crowd.instances.items p ≡ Some i) where
    is_held : r.h ≡ held_of i Running
    is_held = held_running w.crowd.instances.items w.crowd.agenda.phases p i at r.h r.there r.runs

    pub has_room : i.room ≢ None
    has_room = room_of_running i.room (fits_there w.crowd kept.crowd p i Running at runs_there)

    pub place_within : i.at < length code.instrs
    place_within = subst (λ (h : Held). h.at < length code.instrs) is_held r.within

    -- what it runs within, and begins with
    module _ (exec : Machine) (inside : Within) (stands : (frame : Frame) → state_with frame exec ≡ state (i.at + 1) [] frame [] (record w.exec.view { left = left; instances = length w.crowd.instances.items }))
        (same : inside ≡ within_at code (whole_of w)) where
      begins_so : state_with (frame_at i.room) exec ≡ going r.h (view_at (whole_of w) left)
      begins_so =
          stands (frame_at i.room)
          ∙ (λ j. state ((sym is_held j).at + 1) [] (sym is_held j).frame [] (record w.exec.view { left = left; instances = sym (held_length w.crowd.instances.items w.crowd.agenda.phases (as_many w.crowd kept.crowd)) j }))

      pub halts_so : Halts (moves inside) (state_with (frame_at i.room) exec, nothing)
      halts_so =
          subst (λ w. Halts (moves w) (state_with (frame_at i.room) exec, nothing)) (sym same) (subst (λ s. Halts (moves (within_at code (whole_of w))) (s, nothing)) (sym begins_so) r.halts)

      -- it has run
      pub has_run : (new : World) (now : Instance) (doing : Doing) → Ran doing inside (state_with (frame_at i.room) exec, nothing) (state_with (frame_at now.room) new.exec) (brought_of code (offers_at now.room) new.brought) new.brought new.exec.stop
          → now.process ≡ i.process → now.at ≡ i.at → new.crowd.instances.items ≡ slice_set w.crowd.instances.items p now → new.crowd.agenda ≡ w.crowd.agenda → slice_get new.crowd.instances.items p ≡ Some now
          → new.seed ≡ w.seed → new.constants.items ≡ w.constants.items → HasRun code (whole_of w) p left new doing
      has_run new now doing ran process place set known is seed constants = record {
        h = r.h;
        there = r.there;
        i = now;
        is = is;
        runs = (λ j. slice_get (known j).phases p) ∙ runs_there;
        process = process ∙ ap (λ (h : Held). h.definition) (sym is_held);
        at = place ∙ ap (λ (h : Held). h.at) (sym is_held);
        ran = subst (λ s. Ran doing (within_at code (whole_of w)) (s, nothing) (state_with (frame_at now.room) new.exec) (brought_of code (offers_at now.room) new.brought) new.brought new.exec.stop) begins_so
            (subst (λ w. Ran doing w (state_with (frame_at i.room) exec, nothing) (state_with (frame_at now.room) new.exec) (brought_of code (offers_at now.room) new.brought) new.brought new.exec.stop) same ran);
        whole = λ j. record {
          clock = (known j).clock;
          draws = new.exec.view.draws;
          channels = new.exec.view.channels;
          instances = ((λ j. all_held (set j) (known j).phases) ∙ held_instance w.crowd.instances.items w.crowd.agenda.phases p now Running runs_there) j;
          seed = seed j;
          until = (known j).until;
          constants = constants j;
        };
      }

-- the same for an instance that was read

pub place_fits : (xs : List Instr) (at : ℕ) → at < length xs → length xs < 18446744073709551616 → at + 1 < 2 ^ 64
place_fits xs at h k = omega (arith, h, k)

module _ (code : Code) (w : World) (kept : IsWorld code w) (p left : ℕ) (r : MayRun code (whole_of w) p left) where
  module _ (i : Instance) (read : i ≡ get_or w.crowd.instances.items p i) where
    it_is : slice_get w.crowd.instances.items p ≡ Some i
    it_is = slice_get_read w.crowd.instances.items (length w.crowd.instances.items) p i refl (there_within code w kept p left r) read

    pub place_read : i.at < length code.instrs
    place_read = place_within code w kept p left r i it_is

    pub room_read : i.room ≢ None
    room_read = has_room code w kept p left r i it_is

    module _ (exec : Machine) (inside : Within) (stands : (frame : Frame) → state_with frame exec ≡ state (i.at + 1) [] frame [] (record w.exec.view { left = left; instances = length w.crowd.instances.items }))
        (same : inside ≡ within_at code (whole_of w)) where
      pub halts_read : Halts (moves inside) (state_with (frame_at i.room) exec, nothing)
      halts_read = halts_so code w kept p left r i it_is exec inside stands same

      pub has_run_read : (new : World) (now : Instance) (doing : Doing) → Ran doing inside (state_with (frame_at i.room) exec, nothing) (state_with (frame_at now.room) new.exec) (brought_of code (offers_at now.room) new.brought) new.brought new.exec.stop
          → now.process ≡ i.process → now.at ≡ i.at → new.crowd.instances.items ≡ slice_set w.crowd.instances.items p now → new.crowd.agenda ≡ w.crowd.agenda → slice_get new.crowd.instances.items p ≡ Some now
          → new.seed ≡ w.seed → new.constants.items ≡ w.constants.items → HasRun code (whole_of w) p left new doing
      has_run_read = has_run code w kept p left r i it_is exec inside stands same

  -- it was read twice
  pub stands_read : (first i : Instance) → first ≡ get_or w.crowd.instances.items p first → i ≡ get_or w.crowd.instances.items p i → (exec : Machine) (count : ℕ) → count ≡ length w.crowd.instances.items
      → ((frame : Frame) → state_with frame exec ≡ state (first.at + 1) [] frame [] (record w.exec.view { left = left; instances = count }))
      → (frame : Frame) → state_with frame exec ≡ state (i.at + 1) [] frame [] (record w.exec.view { left = left; instances = length w.crowd.instances.items })
  stands_read first i one two exec count many stands frame =
      let a = it_is first one in
      let b = it_is i two in
      let same : first ≡ i = cc in
      stands frame ∙ (λ j. state ((same j).at + 1) [] frame [] (record w.exec.view { left = left; instances = many j }))

-- what it runs within, field by field

abbrev pub within_by : Code → ℕ → ℤ → List Value → List Bool → Within
within_by code seed clock constants finished =
    record { code = code; scene = record { names = code.names; seed = seed; clock = clock; constants = constants; finished = finished }; count = length finished }

pub within_same : (code : Code) (w : World) (seed : ℕ) (clock : ℤ) (constants : List Value) (finished : List Bool) → length w.crowd.agenda.phases ≡ length w.crowd.instances.items → seed ≡ w.seed → clock ≡ w.crowd.agenda.clock
    → constants ≡ w.constants.items → finished ≡ are_over w.crowd.agenda.phases
    → within_by code seed clock constants finished ≡ within_at code (whole_of w)
within_same code w seed clock constants finished many s c k f =
    let over : finished ≡ map (λ h. has_finished (instance_of h)) (instances_of w.crowd) = f ∙ overs_so w.crowd.instances.items w.crowd.agenda.phases many in
    let count : length finished ≡ length (instances_of w.crowd) = ap length over ∙ length-map (instances_of w.crowd) (λ h. has_finished (instance_of h)) in
    λ j. record { code = code; scene = record { names = code.names; seed = s j; clock = c j; constants = k j; finished = over j }; count = count j }
