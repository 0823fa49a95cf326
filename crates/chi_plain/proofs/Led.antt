-- What is kept beside a configuration, from the one before a step to the one after it.
use Rattle.std.proofs.Common.{◌≡◌, ◌≢◌, ℕ, ◌<◌, ◌≤◌, List, Option, Bool, true, false, length, inl, inr, sym, ◌∙◌, ap, subst}
use Rattle.std.specs.List.{slice_get, Contains}
use Rattle.std.proofs.lemmas.Bool.{false≢true}
use Rattle.chi_core.specs.declared.label.Label.{Label}
use Rattle.chi_core.specs.declared.label.Label.TheVariants.{Advance}
use Rattle.chi_core.specs.declared.program.Core.{Core}
use Rattle.chi_core.specs.Config.{Config, Instance}
use Rattle.chi_core.specs.Meeting.{is_over}
use Rattle.chi_core.specs.Step.{Next, step}
use Rattle.chi_core_runs.proofs.Time.{stands_still}
use Rattle.chi_plain_steps.specs.declared.stepping.Went.{Went}
use Rattle.chi_plain_steps.specs.declared.stepping.Went.TheVariants as wents
use Rattle.chi_plain_steps.specs.Takings.{Appends, Takes}
use Rattle.chi_plain.specs.declared.watching.Before.{Before}
use Rattle.chi_plain.specs.declared.watching.Kept.{Kept}
use Rattle.chi_plain_options.specs.declared.parties.Parties.{Parties}
use Rattle.chi_order.specs.Marked.{is_marked}
use Rattle.chi_plain.specs.Watching.{is_advance, IsAffected, IsJoined, IsWatched, first_named, second_named}
use Rattle.chi_plain_options.specs.Listing.{AllJoiners, AllParties, IsJoiner, IsParty, Keeps, KeepsLists, KeepsParties, listed_at}
use Rattle.chi_plain_options.specs.Reaching.{Covers, CoversFrom}
use Rattle.chi_plain.specs.Led.{IsBefore, IsListed, Leads, Led, Settles}
use Rattle.chi_plain_options.proofs.Keeping.{keeps-trans}
use Rattle.chi_plain_options.proofs.Listings.{covers-kept, party-kept, joiner-kept}
use Rattle.chi_plain.proofs.Touched.{touches}
use Rattle.chi_plain.proofs.Mending.{RightBut, holds_of_all, right-led, settles_still, settles_later}

pub is_before : (parties : Parties) (label : Label) (old : List Instance) (b : Before) (one : List ℕ) → b.first ≡ first_named label
    → b.second ≡ second_named label → b.count ≡ length old → b.first_over ≡ is_over (slice_get old b.first)
    → b.second_over ≡ is_over (slice_get old b.second) → Covers parties old b.first one → Keeps one b.covered.items
    → Covers parties old b.second b.covered.items → IsBefore parties label old b
is_before parties label old b one first second count under other covered keeps also = record {
  first = first;
  second = second;
  count = count;
  first_over = under ∙ ap (λ k. is_over (slice_get old k)) first;
  second_over = other ∙ ap (λ k. is_over (slice_get old k)) second;
  first_covered = subst (λ (k : ℕ). Covers parties old k b.covered.items) first (covers-kept parties old b.first one b.covered.items covered keeps);
  second_covered = subst (λ (k : ℕ). Covers parties old k b.covered.items) second also;
}

module _ (parties : Parties) (joiners : List (List ℕ)) (new : List Instance) (b : Before) (one two three four some : List ℕ)
    (k1 : Keeps b.covered.items one) (first : Covers parties new b.first one) (k2 : Keeps one two) (second : Covers parties new b.second two)
    (k3 : Keeps two three) (added : CoversFrom parties joiners new b.count three)
    (k4 : Keeps three four) (first_joined : IsJoined joiners new b.first b.first_over four)
    (k5 : Keeps four some) (second_joined : IsJoined joiners new b.second b.second_over some) where
  -- what is told of a number is told of the one that is named
  joined-named : (k m : ℕ) (was before : Bool) → k ≡ m → was ≡ before → IsJoined joiners new k was some → IsJoined joiners new m before some
  joined-named k m was before e is (inl all) = inl (subst (λ (r : ℕ). Keeps (listed_at joiners r) some) e all)
  joined-named k m was before e is (inr same) = inr (ap (λ r. is_over (slice_get new r)) (sym e) ∙ same ∙ is)

  joined-kept : IsJoined joiners new b.first b.first_over four → IsJoined joiners new b.first b.first_over some
  joined-kept (inl all) = inl (keeps-trans (listed_at joiners b.first) four some all k5)
  joined-kept (inr same) = inr same

  pub is_affected : (label : Label) (old : List Instance) → IsBefore parties label old b
      → IsAffected parties joiners (first_named label) (second_named label) old new some
  is_affected label old before = record {
    first_old = covers-kept parties old (first_named label) b.covered.items some before.first_covered all;
    second_old = covers-kept parties old (second_named label) b.covered.items some before.second_covered all;
    first_new = covers-kept parties new (first_named label) one some (subst (λ (k : ℕ). Covers parties new k one) before.first first) from_one;
    second_new = covers-kept parties new (second_named label) two some (subst (λ (k : ℕ). Covers parties new k two) before.second second) from_two;
    added = λ r h l.
        let both = added r (subst (λ (k : ℕ). k ≤ r) (sym before.count) h) l in
        (covers-kept parties new r three some both.0 from_three, keeps-trans (listed_at joiners r) three some both.1 from_three);
    first_joined = joined-named b.first (first_named label) b.first_over (is_over (slice_get old (first_named label))) before.first
        before.first_over (joined-kept first_joined);
    second_joined = joined-named b.second (second_named label) b.second_over (is_over (slice_get old (second_named label))) before.second
        before.second_over second_joined;
  }
    where
      from_three : Keeps three some
      from_three = keeps-trans three four some k4 k5

      from_two : Keeps two some
      from_two = keeps-trans two three some k3 from_three

      from_one : Keeps one some
      from_one = keeps-trans one two some k2 from_two

      all : Keeps b.covered.items some
      all = keeps-trans b.covered.items one some k1 from_one

other_label : (label : Label) → is_advance label ≡ false → label ≢ Advance
other_label label e is = let wrong : true ≡ false = sym (ap is_advance is) ∙ e in false≢true (sym wrong)

-- what unsettled tells
abbrev pub AllSettled : Label → Config → Parties → List (List ℕ) → Before → List ℕ → Type 0
AllSettled label new parties joiners b some =
    (old : Config) → Leads label old new → IsListed old parties joiners → IsBefore parties label old.instances b → Settles old new some

pub settled_others : (label : Label) (new : Config) (parties : Parties) (joiners : List (List ℕ)) (b : Before) (some : List ℕ) (advance : Bool)
    → advance ≡ is_advance label → advance ≡ false
    → ((label : Label) (old : List Instance) → IsBefore parties label old b
    → IsAffected parties joiners (first_named label) (second_named label) old new.instances some)
    → AllSettled label new parties joiners b some
settled_others label new parties joiners b some advance e still affected old leads listed before =
    settles_still label old new leads parties joiners some (other_label label (sym e ∙ still)) listed (affected label old.instances before)

pub settled_all : (label : Label) (new : Config) (parties : Parties) (joiners : List (List ℕ)) (b : Before) (some : List ℕ) (n : ℕ) → n ≡ length new.instances
    → ((p : ℕ) → p < n → Contains some p) → AllSettled label new parties joiners b some
settled_all label new parties joiners b some n e all old leads listed before =
    settles_later label old new leads some (λ p h. all p (subst (λ (k : ℕ). p < k) (sym e) h))

-- the label has led on
pub leads_on : (core : Core) (old new : Config) (label : Label) (left : ℕ) (text : List ℕ) (rest : ℕ) → step core old label left ≡ Next new text rest → Leads label old new
leads_on core old new label left text rest e = record {
  others = touches core old label left new text rest e;
  still = λ other. stands_still core old label new text rest left e other;
}

pub led_on : (core : Core) (old new : Config) (label : Label) (left : ℕ) (before after : List ℕ) (went : Went) (rest : ℕ) (kept : Kept) (b : Before)
    → IsWatched old kept → IsBefore kept.parties label old.instances b
    → Appends before after (λ text. Takes (step core old label left) old new text went) → went ≡ wents.On rest → Led label new kept b
led_on core old new label left before after went rest kept b watched known took is = record {
  old = old;
  watched = watched;
  before = known;
  leads = let P : Went → Type 0 = λ w. Takes (step core old label left) old new took.0 w in leads_on core old new label left took.0 rest (subst P is took.2);
}

-- of whichever instance the one is so, of that is the other
abbrev Stays : (P Q : ℕ → Option Instance → Type 0) → Type 0
Stays P Q = (r : ℕ) (o : Option Instance) → P r o → Q r o

-- all is mended
module _ (label : Label) (new : Config) (kept : Kept) (b : Before) (led : Led label new kept b) where
  old_listed : IsListed led.old kept.parties kept.joiners
  old_listed = record { communicating = led.watched.communicating; waiting = led.watched.waiting }

  pub led_settled : (some : List ℕ) → AllSettled label new kept.parties kept.joiners b some → Settles led.old new some
  led_settled some settled = settled led.old led.leads old_listed led.before

  pub led_right : (longer : List Bool) (some : List ℕ) → ((p : ℕ) → is_marked longer p ≡ is_marked kept.marks p) → AllSettled label new kept.parties kept.joiners b some
      → RightBut new longer some
  led_right longer some same settled = right-led led.old new kept.marks longer some led.watched.marked same (led_settled some settled)

  module _ (first second : ℕ) (is_first : first ≡ first_named label) (is_second : second ≡ second_named label) where
    -- of all instances, through three changes of what is kept: at the first that was named, at the second, and at the new ones
    led_all : (P Q R S : ℕ → Option Instance → Type 0) → Stays P Q → Stays Q R → Stays R S → ((r : ℕ) → P r (slice_get led.old.instances r))
        → Q first (slice_get new.instances first) → R second (slice_get new.instances second)
        → ((r : ℕ) → b.count ≤ r → S r (slice_get new.instances r)) → (r : ℕ) → S r (slice_get new.instances r)
    led_all P Q R S s1 s2 s3 held one two added =
        holds_of_all label led.old new led.leads P S (λ r o h. s3 r o (s2 r o (s1 r o h))) held
        (subst Holds is_first (s3 first (slice_get new.instances first) (s2 first (slice_get new.instances first) one)))
        (subst Holds is_second (s3 second (slice_get new.instances second) two))
        (λ r h. added r (subst (λ (k : ℕ). k ≤ r) (sym led.before.count) h))
      where
        Holds : ℕ → Type 0
        Holds k = S k (slice_get new.instances k)

    pub led_parties : (one two three : Parties) → KeepsParties kept.parties one → KeepsParties one two → KeepsParties two three
        → IsParty one first (slice_get new.instances first) → IsParty two second (slice_get new.instances second)
        → ((r : ℕ) → b.count ≤ r → IsParty three r (slice_get new.instances r)) → AllParties three new.instances
    led_parties one two three k1 k2 k3 f s added =
        led_all (IsParty kept.parties) (IsParty one) (IsParty two) (IsParty three) (λ r o. party-kept kept.parties one r o k1) (λ r o. party-kept one two r o k2)
        (λ r o. party-kept two three r o k3) led.watched.communicating f s added

    pub led_joiners : (one two three : List (List ℕ)) → KeepsLists kept.joiners one → KeepsLists one two → KeepsLists two three
        → IsJoiner one first (slice_get new.instances first) → IsJoiner two second (slice_get new.instances second)
        → ((r : ℕ) → b.count ≤ r → IsJoiner three r (slice_get new.instances r)) → AllJoiners three new.instances
    led_joiners one two three k1 k2 k3 f s added =
        led_all (IsJoiner kept.joiners) (IsJoiner one) (IsJoiner two) (IsJoiner three) (λ r o. joiner-kept kept.joiners one r o k1) (λ r o. joiner-kept one two r o k2)
        (λ r o. joiner-kept two three r o k3) led.watched.waiting f s added
