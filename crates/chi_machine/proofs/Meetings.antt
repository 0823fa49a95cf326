-- Offers that are taken, instances that have joined, and the time.
use Rattle.std.proofs.Common.{◌≡◌, ◌≢◌, ℕ, suc, List, [], Option, None, false, refl, sym, ap, subst, ◌∙◌, arith}
use Rattle.std.specs.Prelude.{nat_eq, slice_get, slice_set}
use Rattle.chi_value.specs.declared.value.Value.{Value}
use Rattle.chi_core.specs.declared.label.Label.TheVariants.{Pair, Wake, Join}
use Rattle.chi_code.specs.declared.code.Code.{Code}
use Rattle.chi_machine_laws.specs.Deeds.{held_there}
use Rattle.chi_machine_laws.specs.Instances.{Kept, Held, Whole}
use Rattle.chi_machine_laws.specs.Labels.{Outcome, GoesOn, Resumed, Keeps, Takes, meets, wakes, joins}
use Rattle.chi_machine_runs.specs.Resuming.{slot_by, value_by}
use Rattle.chi_machine.specs.declared.crowd.Crowd.{Crowd}
use Rattle.chi_machine.specs.declared.taken.Taken.TheVariants.{On}
use Rattle.chi_machine.specs.declared.world.World.{World}
use Rattle.chi_machine.specs.Crowds.{IsCrowd, IsWorld, Becomes}
use Rattle.chi_machine.specs.Resuming.{MayResume, MayGoOn}
use Rattle.chi_machine.specs.Takings.{MayTake, Took}
use Rattle.chi_machine.specs.Views.{instances_of, whole_of}
use Rattle.chi_machine.proofs.Listed.{get_other}

-- the world with other instances

pub whole_moved : (old new : World) (held : List Held) → Becomes old.crowd new.crowd held → new ≡ record old { crowd = new.crowd; brought = new.brought } → whole_of new ≡ record (whole_of old) { instances = held }
whole_moved old new held b same = λ j. record {
  clock = b.clock j;
  draws = (same j).exec.view.draws;
  channels = (same j).exec.view.channels;
  instances = b.held j;
  seed = (same j).seed;
  until = b.until j;
  constants = (same j).constants.items;
}

pub kept_moved : (code : Code) (old new : World) → IsWorld code old → IsCrowd new.crowd → new ≡ record old { crowd = new.crowd; brought = new.brought } → IsWorld code new
kept_moved code old new kept crowd same = subst (λ (w : World). IsWorld code w) (sym same) (record { hints = kept.hints; crowd = crowd })

module _ (code : Code) (m : Whole) where
  abbrev resumes_by : (p a : ℕ) (h new : Held) (k : Kept) (slot : Option ℕ) (x : Option Value) → Keeps m p h a k → slot_by k.act ≡ slot → Resumed code h k slot x new → MayResume code m.instances p a x
  resumes_by p a h new k slot x keeps e one = record {
    h = h;
    there = keeps.there;
    offers = keeps.offers;
    waits = keeps.waits;
    kept = k;
    offered = keeps.kept;
    next = new;
    resumes = subst (λ slot. Resumed code h k slot x new) (sym e) one;
  }

  record Wakes (p a left : ℕ) (o : Outcome) : Type 0 where
    r : MayResume code m.instances p a None
    is : o ≡ GoesOn (record m { instances = slice_set m.instances p r.next }) [] left

  wakes_so : (p a left : ℕ) (o : Outcome) → Takes code m (Wake p a) (suc left) o → Wakes p a left o
  wakes_so p a left _ (wakes _ _ _ t h new k keeps acts past one) = record { r = resumes_by p a h new k None None keeps (ap slot_by acts) one; is = refl }

  record Goes (p left : ℕ) (o : Outcome) : Type 0 where
    r : MayGoOn code m.instances p
    is : o ≡ GoesOn (record m { instances = slice_set m.instances p (held_there code r.h.definition r.h.frame r.place) }) [] left

  goes_so : (p left : ℕ) (o : Outcome) → Takes code m (Join p) (suc left) o → Goes p left o
  goes_so p left _ (joins _ _ place h numbers there stood over reaches) =
      record { r = record { h = h; there = there; numbers = numbers; joins = stood; place = place; settles = reaches }; is = refl }

  pub record Meets (p a q b left : ℕ) (o : Outcome) : Type 0 where
    pub x : Option Value
    pub apart : nat_eq p q ≡ false
    pub r : MayResume code m.instances p a None
    pub sends : value_by r.kept.act ≡ x
    pub s : MayResume code m.instances q b x
    pub is : o ≡ GoesOn (record m { instances = slice_set (slice_set m.instances p r.next) q s.next }) [] left

  meets_so : (p a q b left : ℕ) (o : Outcome) → Takes code m (Pair p a q b) (suc left) o → Meets p a q b left o
  meets_so p a q b left _ (meets _ _ _ _ _ channel x slot h g new next k l apart hk ks gl ls one two) = record {
    x = x;
    apart = apart;
    r = resumes_by p a h new k None None hk (ap slot_by ks) one;
    sends = ap value_by ks;
    s = resumes_by q b g next l slot x gl (ap slot_by ls) two;
    is = refl;
  }

module _ (code : Code) (w : World) (kept : IsWorld code w) (left : ℕ) where
  -- a delay is over

  pub wake_may : (p a : ℕ) → MayTake code (whole_of w) (Wake p a) (suc left) → MayResume code (instances_of w.crowd) p a None
  wake_may p a t = (wakes_so code (whole_of w) p a left t.outcome t.takes).r

  pub wake_took : (p a : ℕ) → MayTake code (whole_of w) (Wake p a) (suc left) → (new : World) → IsCrowd new.crowd → new ≡ record w { crowd = new.crowd; brought = new.brought }
      → ((r : MayResume code (instances_of w.crowd) p a None) → Becomes w.crowd new.crowd (slice_set (instances_of w.crowd) p r.next)) → Took code (whole_of w) (Wake p a) (suc left) (On left) new []
  wake_took p a t new crowd same moves =
      let f = wakes_so code (whole_of w) p a left t.outcome t.takes in
      let leads : t.outcome ≡ GoesOn (whole_of new) [] left = f.is ∙ (λ j. GoesOn (sym (whole_moved w new _ (moves f.r) same) j) [] left) in
      (subst (Takes code (whole_of w) (Wake p a) (suc left)) leads t.takes, kept_moved code w new kept crowd same)

  -- those that were joined have finished

  pub join_may : (p : ℕ) → MayTake code (whole_of w) (Join p) (suc left) → MayGoOn code (instances_of w.crowd) p
  join_may p t = (goes_so code (whole_of w) p left t.outcome t.takes).r

  pub join_took : (p : ℕ) → MayTake code (whole_of w) (Join p) (suc left) → (new : World) → IsCrowd new.crowd → new ≡ record w { crowd = new.crowd; brought = new.brought }
      → ((r : MayGoOn code (instances_of w.crowd) p) → Becomes w.crowd new.crowd (slice_set (instances_of w.crowd) p (held_there code r.h.definition r.h.frame r.place))) → Took code (whole_of w) (Join p) (suc left) (On left) new []
  join_took p t new crowd same moves =
      let f = goes_so code (whole_of w) p left t.outcome t.takes in
      let leads : t.outcome ≡ GoesOn (whole_of new) [] left = f.is ∙ (λ j. GoesOn (sym (whole_moved w new _ (moves f.r) same) j) [] left) in
      (subst (Takes code (whole_of w) (Join p) (suc left)) leads t.takes, kept_moved code w new kept crowd same)

  -- two meet

  module _ (p a q b : ℕ) (t : MayTake code (whole_of w) (Pair p a q b) (suc left)) where
    pub pairs : Meets code (whole_of w) p a q b left t.outcome
    pairs = meets_so code (whole_of w) p a q b left t.outcome t.takes

    pub pair_may : MayResume code (instances_of w.crowd) p a None
    pair_may = pairs.r

    module _ (mid : Crowd) (sent : Option Value) (moved : (r : MayResume code (instances_of w.crowd) p a None) → Becomes w.crowd mid (slice_set (instances_of w.crowd) p r.next))
        (gave : (r : MayResume code (instances_of w.crowd) p a None) → sent ≡ value_by r.kept.act) where
      pub others : q ≢ p
      others e = let f = pairs.apart in grind (arith, e, f)

      abbrev pub pair_next : MayResume code (instances_of mid) q b sent
      pair_next = record {
        h = pairs.s.h;
        there = ap (λ l. slice_get l q) (moved pairs.r).held ∙ get_other (instances_of w.crowd) p q pairs.r.next others ∙ pairs.s.there;
        offers = pairs.s.offers;
        waits = pairs.s.waits;
        kept = pairs.s.kept;
        offered = pairs.s.offered;
        next = pairs.s.next;
        resumes = subst (λ x. Resumed code pairs.s.h pairs.s.kept (slot_by pairs.s.kept.act) x pairs.s.next) (sym (gave pairs.r ∙ pairs.sends)) pairs.s.resumes;
      }

      pub pair_took : (new : World) → IsCrowd new.crowd → new ≡ record w { crowd = new.crowd; brought = new.brought }
          → ((r : MayResume code (instances_of mid) q b sent) → Becomes mid new.crowd (slice_set (instances_of mid) q r.next)) → Took code (whole_of w) (Pair p a q b) (suc left) (On left) new []
      pair_took new crowd same moves =
          let f = pairs in
          let first = moved pairs.r in
          let second = moves pair_next in
          let all : Becomes w.crowd new.crowd (slice_set (slice_set (instances_of w.crowd) p pairs.r.next) q pairs.s.next) = record {
            clock = second.clock ∙ first.clock;
            until = second.until ∙ first.until;
            held = second.held ∙ ap (λ l. slice_set l q pairs.s.next) first.held;
          } in
          let leads : t.outcome ≡ GoesOn (whole_of new) [] left = f.is ∙ (λ j. GoesOn (sym (whole_moved w new _ all same) j) [] left) in
          (subst (Takes code (whole_of w) (Pair p a q b) (suc left)) leads t.takes, kept_moved code w new kept crowd same)
