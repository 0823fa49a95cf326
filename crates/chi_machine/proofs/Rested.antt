-- An instance that ran rests, and those that it made have come behind the others.
use Rattle.std.proofs.Common.{◌≡◌, ℕ, ◌<◌, List, ◌++◌, length, Some, sym, ap, subst, ◌∙◌, ◌+◌, length-append, arith}
use Rattle.std.specs.Prelude.{slice_get, slice_set, map}
use Rattle.std.proofs.lemmas.List.{length-map}
use Rattle.chi_code.specs.declared.code.Code.{Code}
use Rattle.chi_machine_laws.specs.Instances.{Held}
use Rattle.chi_machine_runs.specs.Views.{held_in}
use Rattle.chi_machine_runs.specs.declared.made.Made.{Made}
use Rattle.chi_machine_agenda.specs.Phases.{Running, AreThere}
use Rattle.chi_machine.specs.declared.crowd.Crowd.{Crowd}
use Rattle.chi_machine.specs.declared.instance.Instance.{Instance}
use Rattle.chi_machine.specs.declared.taken.Taken.{Taken}
use Rattle.chi_machine.specs.declared.taken.Taken.TheVariants.{On}
use Rattle.chi_machine.specs.declared.world.World.{World}
use Rattle.chi_machine.specs.Crowds.{IsCrowd, IsWorld, Becomes, FirstStay}
use Rattle.chi_machine.specs.Runs.{HasRested}
use Rattle.chi_machine.specs.Views.{instances_of}
use Rattle.chi_machine.proofs.Crowded.{within, as_many}
use Rattle.chi_machine.proofs.Helds.{held_length}
use Rattle.chi_machine.proofs.Meetings.{whole_moved, kept_moved}

module _ (code : Code) (old mid : World) (kept : IsWorld code old) (p : ℕ) (runs : slice_get old.crowd.agenda.phases p ≡ Some Running) (made : List Held)
    (added : Becomes old.crowd mid.crowd (instances_of old.crowd ++ made)) (first : FirstStay old.crowd mid.crowd) (same : mid ≡ record old { crowd = mid.crowd; brought = mid.brought }) where
  there : p < length old.crowd.instances.items
  there = within old.crowd kept.crowd p Running runs

  pub still_runs : slice_get mid.crowd.agenda.phases p ≡ Some Running
  still_runs = first.phases p there ∙ runs

  -- where it then stands depends on its place and on what it joins
  pub rested_so : (F : ℕ → List ℕ → Instance → Held) (new : World) → IsCrowd new.crowd → new ≡ record mid { crowd = new.crowd; brought = new.brought } → mid.brought.joins.items ≡ old.brought.joins.items
      → new.brought.text.items ≡ old.brought.text.items
      → ((i : Instance) → slice_get mid.crowd.instances.items p ≡ Some i → Becomes mid.crowd new.crowd (slice_set (instances_of mid.crowd) p (F mid.exec.at mid.brought.joins.items i)))
      → (before after : List ℕ) (taken : Taken) → taken ≡ On new.exec.view.left → after ≡ before ++ new.brought.text.items
      → (i : Instance) → slice_get old.crowd.instances.items p ≡ Some i → HasRested code old new (slice_set (instances_of old.crowd ++ made) p (F old.exec.at old.brought.joins.items i)) before after taken
  rested_so F new crowd moved joins text rests before after taken took written i at =
      let exec : mid.exec ≡ old.exec = ap (λ (w : World). w.exec) same in
      let b = rests i (first.instances p there ∙ at) in
      let all : Becomes old.crowd new.crowd (slice_set (instances_of old.crowd ++ made) p (F old.exec.at old.brought.joins.items i)) = record {
        clock = b.clock ∙ added.clock;
        until = b.until ∙ added.until;
        held = b.held ∙ (λ j. slice_set (added.held j) p (F (exec j).at (joins j) i));
      } in
      let whole : new ≡ record old { crowd = new.crowd; brought = new.brought } = moved ∙ (λ j. record (same j) { crowd = new.crowd; brought = new.brought }) in
      record {
        taken = took ∙ ap (λ (w : World). On w.exec.view.left) whole;
        kept = kept_moved code old new kept crowd whole;
        whole = whole_moved old new _ all whole;
        text = written ∙ ap (λ l. before ++ l) text;
      }

-- those that are joined are there, once all have come
pub joined_there : (code : Code) (old mid : Crowd) → IsCrowd old → IsCrowd mid → (made : List Made) → Becomes old mid (instances_of old ++ map (held_in code) made) → (numbers seen : List ℕ) → seen ≡ numbers
    → AreThere (length old.instances.items + length made) numbers → AreThere (length mid.instances.items) seen
joined_there code old mid kept crowd made added numbers seen same there =
    let count : length mid.instances.items ≡ length old.instances.items + length made = omega (
      arith,
      held_length mid.instances.items mid.agenda.phases (as_many mid crowd),
      ap length added.held,
      length-append (instances_of old) (map (held_in code) made),
      held_length old.instances.items old.agenda.phases (as_many old kept),
      length-map made (held_in code),
    ) in
    subst (λ n. AreThere n seen) (sym count) (subst (AreThere (length old.instances.items + length made)) (sym same) there)
