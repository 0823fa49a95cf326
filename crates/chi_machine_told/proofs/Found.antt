-- An instance, by what the machine keeps of it.
use Rattle.std.proofs.Common.{◌≡◌, ◌≢◌, ℕ, zero, suc, ◌<◌, ◌≤◌, List, [], ◌∷◌, length, get_or, Option, Some, None, Bool, true, false, refl, sym, ap, ◌∙◌, arith}
use Rattle.std.specs.Prelude.{nat_lt, option_and_then, slice_get}
use Rattle.std.proofs.lemmas.Option.{slice_get-get_or, slice_get_past}
use Rattle.chi_core.specs.declared.act.Act.{Act}
use Rattle.chi_machine_laws.specs.Instances.{Held}
use Rattle.chi_machine.specs.Below.chi_machine_runs.specs.declared.made.Room.{Room}
use Rattle.chi_machine_agenda.specs.Phases.{Phase, Running, Waiting, Joining, Finished, waits}
use Rattle.chi_machine.specs.declared.instance.Instance.{Instance}
use Rattle.chi_machine.specs.Views.{offers_at, held_of, all_held}
use Rattle.chi_machine_events.specs.Events.{act_held}
use Rattle.chi_machine_told.specs.There.{act_in}

abbrev both : Option Instance → Option Phase → Option Held
both None phase = None
both (Some i) None = None
both (Some i) (Some phase) = Some (held_of i phase)

both_none : (i : Option Instance) → None ≡ both i None
both_none None = refl
both_none (Some i) = refl

held_at : (is : List Instance) (ps : List Phase) (p : ℕ) → slice_get (all_held is ps) p ≡ both (slice_get is p) (slice_get ps p)
held_at [] ps p = refl
held_at (i ∷ is) [] p = both_none (slice_get (i ∷ is) p)
held_at (i ∷ is) (phase ∷ ps) zero = refl
held_at (i ∷ is) (phase ∷ ps) (suc p) = held_at is ps p

module _ (is : List Instance) (ps : List Phase) (p : ℕ) where
  -- who is told of is there
  pub within : {A : Type 0} (f : Held → Option A) → option_and_then f (slice_get (all_held is ps) p) ≢ None → p < length is
  within f well = by_test (nat_lt p (length is)) (λ e. grind arith) (λ e. well (none (grind arith)))
    where
      none : length is ≤ p → option_and_then f (slice_get (all_held is ps) p) ≡ None
      none past = ap (option_and_then f) (held_at is ps p ∙ ap (λ i. both i (slice_get ps p)) (slice_get_past is p past))

      by_test : (t : Bool) → (t ≡ true → p < length is) → (t ≡ false → ⊥) → p < length is
      by_test true h n = h refl
      by_test false h n = absurd (n refl)

  pub read : (i : Instance) → p < length is → i ≡ get_or is p i → slice_get is p ≡ Some i
  read i h e = slice_get-get_or is p i h ∙ ap Some (sym e)

  -- what is told of it, where that doesn't hang on what is known beside
  pub told_by : {A : Type 0} (f : Held → Option A) (g : Instance → Option A) → ((i : Instance) (phase : Phase) → f (held_of i phase) ≡ g i) → (i : Instance) → slice_get is p ≡ Some i
      → option_and_then f (slice_get (all_held is ps) p) ≢ None → option_and_then f (slice_get (all_held is ps) p) ≡ g i
  told_by f g same i there well = found ∙ by_phase (slice_get ps p) (λ e. well (found ∙ e))
    where
      found : option_and_then f (slice_get (all_held is ps) p) ≡ option_and_then f (both (Some i) (slice_get ps p))
      found = ap (option_and_then f) (held_at is ps p ∙ ap (λ i. both i (slice_get ps p)) there)

      by_phase : (phase : Option Phase) → option_and_then f (both (Some i) phase) ≢ None → option_and_then f (both (Some i) phase) ≡ g i
      by_phase None well = absurd (well refl)
      by_phase (Some phase) well = same i phase

  -- its offers

  abbrev acts : ℕ → Option Held → Option Act
  acts a place = act_held place a

  acts_by : (a : ℕ) (i : Instance) → slice_get is p ≡ Some i → act_held (slice_get (all_held is ps) p) a ≡ act_held (both (Some i) (slice_get ps p)) a
  acts_by a i there = ap (acts a) (held_at is ps p ∙ ap (λ i. both i (slice_get ps p)) there)

  act_by : (a : ℕ) (i : Instance) (sends : Act) (phase : Option Phase) → act_held (both (Some i) phase) a ≡ Some sends → act_in (offers_at i.room) a ≡ Some sends
  act_by a i sends None e = absurd (cc)
  act_by a i sends (Some Running) e = absurd (cc)
  act_by a i sends (Some (Waiting seen)) e = e
  act_by a i sends (Some (Joining numbers)) e = absurd (cc)
  act_by a i sends (Some Finished) e = absurd (cc)

  pub act_there : (a : ℕ) (i : Instance) (sends : Act) → slice_get is p ≡ Some i → act_held (slice_get (all_held is ps) p) a ≡ Some sends → act_in (offers_at i.room) a ≡ Some sends
  act_there a i sends there e = act_by a i sends (slice_get ps p) (sym (acts_by a i there) ∙ e)

  pub act_within : (a : ℕ) (sends : Act) → act_held (slice_get (all_held is ps) p) a ≡ Some sends → p < length is
  act_within a sends e = within Some (λ none. by_held (slice_get (all_held is ps) p) none e)
    where
      by_held : (h : Option Held) → option_and_then Some h ≡ None → act_held h a ≡ Some sends → ⊥
      by_held None n e = absurd (cc)
      by_held (Some h) n e = absurd (cc)

  -- an instance that waits has its offers in its room

  by_waits : (a : ℕ) (i : Instance) (phase : Option Phase) → waits phase ≡ true → act_held (both (Some i) phase) a ≡ act_in (offers_at i.room) a
  by_waits a i None w = absurd (cc)
  by_waits a i (Some Running) w = absurd (cc)
  by_waits a i (Some (Waiting seen)) w = refl
  by_waits a i (Some (Joining numbers)) w = absurd (cc)
  by_waits a i (Some Finished) w = absurd (cc)

  pub acts_waiting : (a : ℕ) (i : Instance) → slice_get is p ≡ Some i → waits (slice_get ps p) ≡ true → act_held (slice_get (all_held is ps) p) a ≡ act_in (offers_at i.room) a
  acts_waiting a i there w = acts_by a i there ∙ by_waits a i (slice_get ps p) w

  by_not : (a : ℕ) (i : Option Instance) (phase : Option Phase) → waits phase ≡ false → act_held (both i phase) a ≡ None
  by_not a None phase w = refl
  by_not a (Some i) None w = refl
  by_not a (Some i) (Some Running) w = refl
  by_not a (Some i) (Some (Waiting seen)) w = absurd (cc)
  by_not a (Some i) (Some (Joining numbers)) w = refl
  by_not a (Some i) (Some Finished) w = refl

  pub acts_not : (a : ℕ) → waits (slice_get ps p) ≡ false → act_held (slice_get (all_held is ps) p) a ≡ None
  acts_not a w = ap (acts a) (held_at is ps p) ∙ by_not a (slice_get is p) (slice_get ps p) w

  pub acts_past : (a : ℕ) → length is ≤ p → act_held (slice_get (all_held is ps) p) a ≡ None
  acts_past a past = ap (acts a) (held_at is ps p ∙ ap (λ i. both i (slice_get ps p)) (slice_get_past is p past))

-- what an instance without room offers: nothing
pub no_room : (room : Option Room) (a : ℕ) (sends : Act) → room ≡ None → act_in (offers_at room) a ≡ Some sends → ⊥
no_room None a sends e is = absurd (cc)
no_room (Some room) a sends e is = absurd (cc)

pub in_room : (place : Option Room) (room : Room) (a : ℕ) → place ≡ Some room → act_in room.opened a ≡ act_in (offers_at place) a
in_room place room a e = ap (λ r. act_in (offers_at r) a) (sym e)
