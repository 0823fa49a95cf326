-- Who isn't affected by a step has an option where it had one.
use Rattle.std.proofs.Common.{◌≡◌, ◌≢◌, ℕ, zero, suc, ◌<◌, ◌≤◌, List, [], ◌∷◌, ◌++◌, Option, Some, None, Bool, true, false, cond, length, ◌⊎◌, inl, inr, sym, ◌∙◌, ap, subst, refl, arith}
use Rattle.std.specs.Prelude.{nat_eq, nat_lt, int_lt, ◌&&◌}
use Rattle.std.specs.List.{slice_get, Contains, flat_map, list_all}
use Rattle.std.proofs.lemmas.Bool.{eq-eqb, false≢true}
use Rattle.std.proofs.lemmas.Grind.{flat_map-append}
use Rattle.std.proofs.lemmas.List.{append-nil}
use Rattle.std.proofs.lemmas.Option.{slice_get_past}
use Rattle.chi_core.specs.declared.act.Act.{Act}
use Rattle.chi_core.specs.declared.act.Act.TheVariants.{Send, Receive, Delay}
use Rattle.chi_core.specs.declared.label.Label.TheVariants.{Wake, Join}
use Rattle.chi_core.specs.Config.{Config, Instance, Offer, State, Running, Waiting, Joining, Finished, offers_in}
use Rattle.chi_core.specs.Meeting.{is_over, are_over}
use Rattle.chi_core.specs.Options.{numbers, receivers, pairs_with, pairs, options_by, options_for, options_in, options_of, options}
use Rattle.chi_plain_options.specs.declared.parties.Parties.{Parties}
use Rattle.chi_plain_options.specs.Listing.{AllJoiners, AllParties, IsJoiner, IsListedFor, IsParty, IsPartyBy, Keeps, listed_at, waited_in}
use Rattle.chi_plain_options.specs.Reaching.{Covers, Reaches}
use Rattle.chi_plain.specs.Watching.{IsAffected, IsJoined, Others}
use Rattle.chi_plain_options.specs.Acting.{acts}
use Rattle.chi_plain.specs.Led.{Settles}
use Rattle.chi_plain_options.proofs.Lists.{eq-cases}
use Rattle.chi_plain_options.proofs.Havings.{no-receivers, receives-reaches, pairs_with-none, acts-none}

-- lists of numbers

contains-cases : (xs : List ℕ) (x : ℕ) → Contains xs x ⊎ (Contains xs x → ⊥)
contains-cases [] x = inr (λ c. let h : c.0 < 0 = c.1 in omega (arith, h))
contains-cases (y ∷ ys) x = by_first (nat_eq y x) refl (contains-cases ys x)
  where
    later : Contains ys x → Contains (y ∷ ys) x
    later c = (suc c.0, (let h : c.0 < length ys = c.1 in omega (arith, h)), c.2)

    nowhere : nat_eq y x ≡ false → (Contains ys x → ⊥) → Contains (y ∷ ys) x → ⊥
    nowhere d rest (zero, h, e) = let wrong : true ≡ false = sym (eq-eqb y x e) ∙ d in false≢true (sym wrong)
    nowhere d rest (suc k, h, e) = rest (k, (omega (arith, h)), e)

    by_first : (b : Bool) → nat_eq y x ≡ b → Contains ys x ⊎ (Contains ys x → ⊥) → Contains (y ∷ ys) x ⊎ (Contains (y ∷ ys) x → ⊥)
    by_first true is rest = inl (0, omega arith, grind arith)
    by_first false is (inl c) = inl (later c)
    by_first false is (inr d) = inr (nowhere is d)

flat-same : {B : Type 0} (f g : ℕ → List B) (xs : List ℕ) → ((x : ℕ) → f x ≡ g x) → flat_map f xs ≡ flat_map g xs
flat-same f g [] h = refl
flat-same f g (x ∷ xs) h = (λ k. h x k ++ flat-same f g xs h k)

flat-append : {B : Type 0} (f : ℕ → List B) (xs ys : List ℕ) → flat_map f ys ≡ [] → flat_map f (xs ++ ys) ≡ flat_map f xs
flat-append f xs ys e = flat_map-append f xs ys ∙ ap (λ l. flat_map f xs ++ l) e ∙ append-nil (flat_map f xs)

-- what is beyond n adds nothing
flat-beyond : {B : Type 0} (f : ℕ → List B) (m n : ℕ) → m ≤ n → ((x : ℕ) → m ≤ x → f x ≡ []) → flat_map f (numbers n) ≡ flat_map f (numbers m)
flat-beyond f m zero h none = let e : m ≡ 0 = omega (arith, h) in ap (λ k. flat_map f (numbers k)) (sym e)
flat-beyond f m (suc n) h none = by_cases (flat-beyond f m n) (let c : (m ≤ n) ⊎ (m ≡ suc n) = grind arith in c)
  where
    by_cases : (m ≤ n → ((x : ℕ) → m ≤ x → f x ≡ []) → flat_map f (numbers n) ≡ flat_map f (numbers m))
        → (m ≤ n) ⊎ (m ≡ suc n) → flat_map f (numbers (suc n)) ≡ flat_map f (numbers m)
    by_cases before (inl l) = flat-append f (numbers n) (n ∷ []) (ap (λ xs. xs ++ []) (none n l)) ∙ before l none
    by_cases before (inr e) = ap (λ k. flat_map f (numbers k)) (sym e)

all-same : (f g : ℕ → Bool) (xs : List ℕ) → ((x : ℕ) → Contains xs x → f x ≡ g x) → list_all f xs ≡ list_all g xs
all-same f g [] h = refl
all-same f g (x ∷ xs) h = (λ k. h x first k && all-same f g xs (λ y c. h y (later y c)) k)
  where
    first : Contains (x ∷ xs) x
    first = (0, omega arith, refl)

    later : (y : ℕ) → Contains xs y → Contains (x ∷ xs) y
    later y c = (suc c.0, (let h : c.0 < length xs = c.1 in omega (arith, h)), c.2)

module _ (old new : Config) (parties : Parties) (joiners : List (List ℕ)) (p q : ℕ) (some : List ℕ)
    (others : Others p q old.instances new.instances) (still : new.clock ≡ old.clock)
    (parts : AllParties parties old.instances) (joins : AllJoiners joiners old.instances)
    (affected : IsAffected parties joiners p q old.instances new.instances some) where
  -- an instance that is covered, and one that isn't among those that are affected but sends on a channel
  no_receiver : (is : List Instance) (r x channel : ℕ) (j : Instance) → Covers parties is r some → slice_get is r ≡ Some j → (Contains some x → ⊥)
      → Contains (listed_at parties.senders channel) x → receivers channel (offers_in j.state) ≡ []
  no_receiver is r x channel j covers at out listed =
      let reaches : Reaches parties (Some j) some = subst (λ (o : Option Instance). Reaches parties o some) at covers.reaches in
      no-receivers channel (offers_in j.state)
      (λ s. out (receives-reaches parties channel s.offer.act some s.receives (reaches s.place s.offer s.at) x listed))

  no_pairs : (is : List Instance) (r x a channel : ℕ) → Covers parties is r some → (Contains some x → ⊥) → Contains (listed_at parties.senders channel) x
      → pairs_with x a channel r (slice_get is r) ≡ []
  no_pairs is r x a channel covers out listed = by_instance (slice_get is r) refl
    where
      by_instance : (o : Option Instance) → slice_get is r ≡ o → pairs_with x a channel r (slice_get is r) ≡ []
      by_instance None at = ap (pairs_with x a channel r) at
      by_instance (Some j) at = ap (pairs_with x a channel r) at ∙ pairs_with-none x a channel r j (no_receiver is r x channel j covers at out listed)

  module _ (x : ℕ) (out : Contains some x → ⊥) where
    -- with each other instance it may make the same pairs
    same_pairs_with : (a channel r : ℕ) → Contains (listed_at parties.senders channel) x
        → pairs_with x a channel r (slice_get new.instances r) ≡ pairs_with x a channel r (slice_get old.instances r)
    same_pairs_with a channel r listed = by_first (eq-cases r p)
      where
        at_named : (m : ℕ) → r ≡ m → Covers parties new.instances m some → Covers parties old.instances m some
            → pairs_with x a channel r (slice_get new.instances r) ≡ pairs_with x a channel r (slice_get old.instances r)
        at_named m e cn co =
            ap (λ k. pairs_with x a channel k (slice_get new.instances k)) e ∙ no_pairs new.instances m x a channel cn out listed
            ∙ sym (ap (λ k. pairs_with x a channel k (slice_get old.instances k)) e ∙ no_pairs old.instances m x a channel co out listed)

        past : length old.instances ≤ r → pairs_with x a channel r (slice_get old.instances r) ≡ []
        past h = ap (pairs_with x a channel r) (slice_get_past old.instances r h)

        by_new : length old.instances ≤ r → (r < length new.instances) ⊎ (length new.instances ≤ r)
            → pairs_with x a channel r (slice_get new.instances r) ≡ pairs_with x a channel r (slice_get old.instances r)
        by_new h (inl l) = no_pairs new.instances r x a channel (affected.added r h l).0 out listed ∙ sym (past h)
        by_new h (inr g) = ap (pairs_with x a channel r) (slice_get_past new.instances r g) ∙ sym (past h)

        by_old : r ≢ p → r ≢ q → (r < length old.instances) ⊎ (length old.instances ≤ r)
            → pairs_with x a channel r (slice_get new.instances r) ≡ pairs_with x a channel r (slice_get old.instances r)
        by_old f g (inl l) = ap (pairs_with x a channel r) (others.same r f g l)
        by_old f g (inr h) = by_new h (let c : (r < length new.instances) ⊎ (length new.instances ≤ r) = grind arith in c)

        by_second : r ≢ p → (r ≡ q) ⊎ (r ≢ q) → pairs_with x a channel r (slice_get new.instances r) ≡ pairs_with x a channel r (slice_get old.instances r)
        by_second f (inl e) = at_named q e affected.second_new affected.second_old
        by_second f (inr g) = by_old f g (let c : (r < length old.instances) ⊎ (length old.instances ≤ r) = grind arith in c)

        by_first : (r ≡ p) ⊎ (r ≢ p) → pairs_with x a channel r (slice_get new.instances r) ≡ pairs_with x a channel r (slice_get old.instances r)
        by_first (inl e) = at_named p e affected.first_new affected.first_old
        by_first (inr f) = by_second f (eq-cases r q)

    same_pairs : (a channel : ℕ) → Contains (listed_at parties.senders channel) x → pairs new x a channel ≡ pairs old x a channel
    same_pairs a channel listed =
        flat-same (λ r. pairs_with x a channel r (slice_get new.instances r)) (λ r. pairs_with x a channel r (slice_get old.instances r))
        (numbers (length new.instances)) (λ r. same_pairs_with a channel r listed)
        ∙ flat-beyond (λ r. pairs_with x a channel r (slice_get old.instances r)) (length old.instances) (length new.instances) others.grown
        (λ r h. ap (pairs_with x a channel r) (slice_get_past old.instances r h))

    same_by : (a : ℕ) (act : Act) → IsPartyBy parties x act
        → options_by new x a act ≡ options_by old x a act
    same_by a (Send channel v) listed = same_pairs a channel listed
    same_by a (Receive channel slot) listed = refl
    same_by a (Delay due) listed = ap (λ t. cond (int_lt t due) [] (Wake x a ∷ [])) still

    same_for : (i : Instance) → slice_get old.instances x ≡ Some i → (a : ℕ) (o : Option Offer) → slice_get (offers_in i.state) a ≡ o
        → options_for new x a o ≡ options_for old x a o
    same_for i at a None offered = refl
    same_for i at a (Some o) offered =
        let party : IsParty parties x (Some i) = subst (λ (m : Option Instance). IsParty parties x m) at (parts x) in
        same_by a o.act (party a o offered)

    -- those for which it waits are over as they were
    same_over : (waited : List ℕ) → IsListedFor joiners x waited → (r : ℕ) → Contains waited r
        → is_over (slice_get new.instances r) ≡ is_over (slice_get old.instances r)
    same_over waited listed r waits = by_first (eq-cases r p)
      where
        over : List Instance → ℕ → Bool
        over is k = is_over (slice_get is k)

        not_all : Keeps (listed_at joiners r) some → ⊥
        not_all all = out (all x (listed r waits))

        at_named : (m : ℕ) → r ≡ m → IsJoined joiners new.instances m (over old.instances m) some → over new.instances r ≡ over old.instances r
        at_named m e (inl all) = absurd (not_all (subst (λ (k : ℕ). Keeps (listed_at joiners k) some) (sym e) all))
        at_named m e (inr same) = ap (over new.instances) e ∙ same ∙ sym (ap (over old.instances) e)

        by_new : length old.instances ≤ r → (r < length new.instances) ⊎ (length new.instances ≤ r) → over new.instances r ≡ over old.instances r
        by_new h (inl l) = absurd (not_all (affected.added r h l).1)
        by_new h (inr g) = ap is_over (slice_get_past new.instances r g ∙ sym (slice_get_past old.instances r h))

        by_old : r ≢ p → r ≢ q → (r < length old.instances) ⊎ (length old.instances ≤ r) → over new.instances r ≡ over old.instances r
        by_old f g (inl l) = ap is_over (others.same r f g l)
        by_old f g (inr h) = by_new h (let c : (r < length new.instances) ⊎ (length new.instances ≤ r) = grind arith in c)

        by_second : r ≢ p → (r ≡ q) ⊎ (r ≢ q) → over new.instances r ≡ over old.instances r
        by_second f (inl e) = at_named q e affected.second_joined
        by_second f (inr g) = by_old f g (let c : (r < length old.instances) ⊎ (length old.instances ≤ r) = grind arith in c)

        by_first : (r ≡ p) ⊎ (r ≢ p) → over new.instances r ≡ over old.instances r
        by_first (inl e) = at_named p e affected.first_joined
        by_first (inr f) = by_second f (eq-cases r q)

    same_joining : (i : Instance) (waited : List ℕ) → slice_get old.instances x ≡ Some i → i.state ≡ Joining waited
        → are_over new waited ≡ are_over old waited
    same_joining i waited at is =
        all-same (λ r. is_over (slice_get new.instances r)) (λ r. is_over (slice_get old.instances r)) waited (same_over waited listed)
      where
        listed : IsListedFor joiners x waited
        listed =
            let joiner : IsJoiner joiners x (Some i) = subst (λ (m : Option Instance). IsJoiner joiners x m) at (joins x) in
            subst (λ (s : State). IsListedFor joiners x (waited_in s)) is joiner

    same_in : (i : Instance) → slice_get old.instances x ≡ Some i → (s : State) → i.state ≡ s → options_in new x s ≡ options_in old x s
    same_in i at Running is = refl
    same_in i at (Waiting offers) is =
        flat-same (λ a. options_for new x a (slice_get offers a)) (λ a. options_for old x a (slice_get offers a)) (numbers (length offers))
        (λ a. same_for i at a (slice_get offers a) (ap (λ s. slice_get (offers_in s) a) is))
    same_in i at (Joining waited) is = ap (λ b. cond b (Join x ∷ []) []) (same_joining i waited at is)
    same_in i at Finished is = refl

    stays : slice_get new.instances x ≡ slice_get old.instances x
    stays = by_old (let c : (x < length old.instances) ⊎ (length old.instances ≤ x) = grind arith in c)
      where
        not_at : (m : ℕ) (is : List Instance) → Covers parties is m some → x ≢ m
        not_at m is covers e = out (subst (λ (k : ℕ). Contains some k) (sym e) covers.itself)

        by_new : length old.instances ≤ x → (x < length new.instances) ⊎ (length new.instances ≤ x) → slice_get new.instances x ≡ slice_get old.instances x
        by_new h (inl l) = let covers : Covers parties new.instances x some = (affected.added x h l).0 in absurd (out covers.itself)
        by_new h (inr g) = slice_get_past new.instances x g ∙ sym (slice_get_past old.instances x h)

        by_old : (x < length old.instances) ⊎ (length old.instances ≤ x) → slice_get new.instances x ≡ slice_get old.instances x
        by_old (inl l) = others.same x (not_at p old.instances affected.first_old) (not_at q old.instances affected.second_old) l
        by_old (inr h) = by_new h (let c : (x < length new.instances) ⊎ (length new.instances ≤ x) = grind arith in c)

    same_options : options new x ≡ options old x
    same_options = by_instance (slice_get old.instances x) refl
      where
        by_instance : (o : Option Instance) → slice_get old.instances x ≡ o → options new x ≡ options old x
        by_instance None at = ap (options_of new x) (stays ∙ at) ∙ sym (ap (options_of old x) at)
        by_instance (Some i) at = ap (options_of new x) (stays ∙ at) ∙ same_in i at i.state refl ∙ sym (ap (options_of old x) at)

  pub settles : Settles old new some
  settles x = by_among (contains-cases some x)
    where
      by_among : Contains some x ⊎ (Contains some x → ⊥) → (acts new x ≡ acts old x) ⊎ Contains some x
      by_among (inl c) = inr c
      by_among (inr out) = inl (ap (λ l. nat_lt 0 (length l)) (same_options x out))

-- once the time has gone on, all are looked at
pub settles-all : (old new : Config) (some : List ℕ) → length old.instances ≤ length new.instances
    → ((p : ℕ) → p < length new.instances → Contains some p) → Settles old new some
settles-all old new some grown all x = by_old (let c : (x < length new.instances) ⊎ (length new.instances ≤ x) = grind arith in c)
  where
    by_old : (x < length new.instances) ⊎ (length new.instances ≤ x) → (acts new x ≡ acts old x) ⊎ Contains some x
    by_old (inl l) = inr (all x l)
    by_old (inr g) = inl (acts-none new x (slice_get_past new.instances x g)
        ∙ sym (acts-none old x (slice_get_past old.instances x (omega (arith, g, grown)))))
