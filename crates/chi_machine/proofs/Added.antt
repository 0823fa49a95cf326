-- Instances that are added.
use Rattle.std.proofs.Common.{◌≡◌, ◌≢◌, ℕ, ◌+◌, ◌<◌, ◌≤◌, List, [], ◌∷◌, ◌++◌, length, Some, refl, sym, ap, ◌∙◌, length-append, append_assoc, arith}
use Rattle.std.specs.Prelude.{slice_get, slice_set, map}
use Rattle.std.proofs.lemmas.List.{append-nil}
use Rattle.chi_core.specs.declared.limits.TheConstants.{MOST_INSTANCES}
use Rattle.chi_code.specs.declared.code.Code.{Code}
use Rattle.chi_machine_laws.specs.Deeds.{held_there}
use Rattle.chi_machine_runs.specs.declared.made.Made.{Made}
use Rattle.chi_machine_runs.specs.declared.made.Room.{Room}
use Rattle.chi_machine_runs.specs.Views.{held_in}
use Rattle.chi_machine_agenda.specs.Phases.{Agenda, Running, with_more}
use Rattle.chi_machine.specs.declared.crowd.Crowd.{Crowd}
use Rattle.chi_machine.specs.declared.instance.Instance.{Instance}
use Rattle.chi_machine.specs.Crowds.{IsCrowd, Becomes, OthersStay, FirstStay}
use Rattle.chi_machine.specs.Views.{frame_at, held_of, all_held, instances_of}
use Rattle.chi_machine.proofs.Crowded.{as_many, kept_more}
use Rattle.chi_machine.proofs.Helds.{held_end, held_length}
use Rattle.chi_machine.proofs.Listed.{set_last, get_last, get_before}

abbrev pub new_of : ℕ → ℕ → Room → Instance
new_of process at room = record { process = process; at = at; room = Some room }

pub room_for : (c : Crowd) → IsCrowd c → length c.instances.items < MOST_INSTANCES → length c.agenda.phases < MOST_INSTANCES
room_for c kept room = let many = as_many c kept in omega (arith, many, room)

-- nothing is added
pub none_added : (c : Crowd) (code : Code) (made : List Made) → made ≡ [] → Becomes c c (instances_of c ++ map (held_in code) made)
none_added c code made e = record {
  clock = refl;
  until = refl;
  held = sym (append-nil (instances_of c)) ∙ ap (λ l. instances_of c ++ map (held_in code) l) (sym e);
}

pub nothing_more : (out text : List ℕ) → text ≡ [] → out ≡ out ++ text
nothing_more out text e = sym (append-nil out) ∙ ap (λ l. out ++ l) (sym e)

pub none_first : (c : Crowd) → FirstStay c c
none_first c = record { instances = λ q h. refl; phases = λ q h. refl }

module _ (old mid : Crowd) (kept : IsCrowd old) (room : length old.instances.items < MOST_INSTANCES) (process place : ℕ) (its : Room) (at : mid.instances.items ≡ old.instances.items ++ new_of process place its ∷ [])
    (known : mid.agenda ≡ with_more old.agenda) (p : ℕ) (is : p ≡ length old.instances.items) where
  pub more_kept : IsCrowd mid
  more_kept = kept_more old kept mid (new_of process place its) room at known tt

  pub more_runs : slice_get mid.agenda.phases p ≡ Some Running
  more_runs = (λ j. slice_get (known j).phases p) ∙ get_last old.agenda.phases p Running (is ∙ sym (as_many old kept))

  more_there : slice_get mid.instances.items p ≡ Some (new_of process place its)
  more_there = ap (λ l. slice_get l p) at ∙ get_last old.instances.items p (new_of process place its) is

  more_held : instances_of mid ≡ instances_of old ++ held_of (new_of process place its) Running ∷ []
  more_held = (λ j. all_held (at j) (known j).phases) ∙ held_end old.instances.items old.agenda.phases (new_of process place its) Running (as_many old kept)

  pub added_becomes : (new : Crowd) (code : Code) → ((i : Instance) → slice_get mid.instances.items p ≡ Some i → Becomes mid new (slice_set (instances_of mid) p (held_there code i.process (frame_at i.room) place)))
      → Becomes old new (instances_of old ++ held_in code (record { process = process; at = place; room = its }) ∷ [])
  added_becomes new code rests =
      let b = rests (new_of process place its) more_there in
      let last : p ≡ length (instances_of old) = is ∙ sym (held_length old.instances.items old.agenda.phases (as_many old kept)) in
      record {
        clock = b.clock ∙ ap (λ (a : Agenda). a.clock) known;
        until = b.until ∙ ap (λ (a : Agenda). a.until) known;
        held = b.held ∙ ap (λ l. slice_set l p (held_there code process (frame_at (Some its)) place)) more_held
            ∙ set_last (instances_of old) p (held_of (new_of process place its) Running) (held_there code process (frame_at (Some its)) place) last;
      }

  pub added_first : (new : Crowd) → OthersStay mid new p → FirstStay old new
  added_first new o = record {
    instances = λ q h. o.instances q (other q h) ∙ ap (λ l. slice_get l q) at ∙ get_before old.instances.items (new_of process place its ∷ []) q h;
    phases = λ q h. o.phases q (other q h) ∙ (λ j. slice_get (known j).phases q) ∙ get_before old.agenda.phases (Running ∷ []) q (within q h);
  }
    where
      other : (q : ℕ) → q < length old.instances.items → q ≢ p
      other q h e = absurd (omega (arith, h, e, is))

      within : (q : ℕ) → q < length old.instances.items → q < length old.agenda.phases
      within q h = let many = as_many old kept in omega (arith, h, many)

-- some have been added, and others are left
pub record Adding (code : Code) (old now : Crowd) (rest all : List Made) : Type 0 where
  pub kept : IsCrowd now
  pub room : length now.instances.items + length rest ≤ MOST_INSTANCES
  pub clock : now.agenda.clock ≡ old.agenda.clock
  pub until : now.agenda.until ≡ old.agenda.until
  pub held : instances_of now ++ map (held_in code) rest ≡ instances_of old ++ map (held_in code) all
  pub more : length old.instances.items ≤ length now.instances.items
  pub first : FirstStay old now

module _ (code : Code) (old : Crowd) (all : List Made) where
  pub adding_first : IsCrowd old → length old.instances.items + length all ≤ MOST_INSTANCES → Adding code old old all all
  adding_first kept room = record {
    kept = kept;
    room = room;
    clock = refl;
    until = refl;
    held = refl;
    more = omega arith;
    first = record { instances = λ q h. refl; phases = λ q h. refl };
  }

  module _ (now : Crowd) (before : List Made) (a : Adding code old now before all) where
    pub adding_room : (x : Made) (after : List Made) → before ≡ x ∷ after → length now.instances.items < MOST_INSTANCES
    adding_room x after e = let room = a.room in omega (arith, room, ap length e)

    pub adding_more : (new : Crowd) (x : Made) (after : List Made) → before ≡ x ∷ after → IsCrowd new → Becomes now new (instances_of now ++ held_in code x ∷ []) → FirstStay now new → Adding code old new after all
    adding_more new x after e kept b f =
        let count : length new.instances.items ≡ length now.instances.items + 1 = omega (
          arith,
          held_length new.instances.items new.agenda.phases (as_many new kept),
          ap length b.held,
          length-append (instances_of now) (held_in code x ∷ []),
          held_length now.instances.items now.agenda.phases (as_many now a.kept),
        ) in
        let room = a.room in
        let more = a.more in
        record {
          kept = kept;
          room = omega (arith, room, count, ap length e);
          clock = b.clock ∙ a.clock;
          until = b.until ∙ a.until;
          held = ap (λ l. l ++ map (held_in code) after) b.held ∙ append_assoc (instances_of now) (held_in code x ∷ []) (map (held_in code) after)
              ∙ ap (λ l. instances_of now ++ map (held_in code) l) (sym e) ∙ a.held;
          more = omega (arith, more, count);
          first = record {
            instances = λ q h. f.instances q (omega (arith, h, more)) ∙ a.first.instances q h;
            phases = λ q h. f.phases q (omega (arith, h, more)) ∙ a.first.phases q h;
          };
        }

    pub adding_becomes : length before ≡ 0 → Becomes old now (instances_of old ++ map (held_in code) all)
    adding_becomes none = record { clock = a.clock; until = a.until; held = done before none a.held }
      where
        done : (rest : List Made) → length rest ≡ 0 → instances_of now ++ map (held_in code) rest ≡ instances_of old ++ map (held_in code) all → instances_of now ≡ instances_of old ++ map (held_in code) all
        done [] h e = sym (append-nil (instances_of now)) ∙ e
        done (x ∷ rest) h e = absurd (omega (arith, h))
