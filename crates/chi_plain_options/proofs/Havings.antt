-- Whether there is an option, with only those in view that communicate on the same channels.
use Rattle.std.proofs.Common.{◌≡◌, ℕ, ◌+◌, ◌<◌, ◌≤◌, List, [], ◌∷◌, ◌++◌, Option, Some, None, Bool, true, false, cond, length, get_or, ◌⊎◌, inl, inr, sym, ◌∙◌, ap, subst, refl, arith}
use Rattle.std.specs.Prelude.{map, nat_eq, nat_lt}
use Rattle.std.specs.List.{slice_get, Contains, flat_map}
use Rattle.std.proofs.lemmas.Bool.{false≢true}
use Rattle.std.proofs.lemmas.Option.{slice_get_within, slice_get_read}
use Rattle.chi_core.specs.declared.act.Act.{Act}
use Rattle.chi_core.specs.declared.act.Act.TheVariants.{Send, Receive, Delay}
use Rattle.chi_core.specs.declared.label.Label.TheVariants.{Pair, Join}
use Rattle.chi_core.specs.Config.{Config, Instance, Offer, Waiting, Joining, offers_in}
use Rattle.chi_core.specs.Meeting.{are_over}
use Rattle.chi_core.specs.Options.{numbers, receives_on, is_receiver, receivers, pairs_with, pairs, options_for, options_in, options_of}
use Rattle.chi_core_runs.proofs.Lists.{some_below, joined-none, kept, number-at}
use Rattle.chi_plain_options.specs.Scanning.{offered_below}
use Rattle.chi_plain_options.specs.declared.parties.Parties.{Parties}
use Rattle.chi_plain_options.specs.Listing.{AllParties, IsParty, IsPartyBy, Keeps, listed_at}
use Rattle.chi_plain_options.specs.Reaching.{ReachesBy}
use Rattle.chi_plain_options.specs.Acting.{acts}
use Rattle.chi_plain_options.proofs.Lists.{get_or-within, none-of, lt-true, lt-false}

-- lists that have something

pub none-false : {A : Type 0} (xs : List A) → xs ≡ [] → nat_lt 0 (length xs) ≡ false
none-false xs e = ap (λ l. nat_lt 0 (length l)) e

pub false-none : {A : Type 0} (xs : List A) → nat_lt 0 (length xs) ≡ false → xs ≡ []
false-none xs e = none-of xs (lt-false (length xs) e)

lt-some : (n : ℕ) → 0 < n → nat_lt 0 n ≡ true
lt-some n h = grind arith

not-none : {A : Type 0} (xs : List A) → (xs ≡ [] → ⊥) → nat_lt 0 (length xs) ≡ true
not-none [] h = absurd (h refl)
not-none (x ∷ xs) h = let some : 0 < length (x ∷ xs) = omega arith in grind arith

some-not : {A : Type 0} (xs : List A) → nat_lt 0 (length xs) ≡ true → xs ≡ [] → ⊥
some-not [] e h = false≢true e
some-not (x ∷ xs) e h = cc

pub flat-none : {B : Type 0} (f : ℕ → List B) (xs : List ℕ) → ((x : ℕ) → f x ≡ []) → flat_map f xs ≡ []
flat-none f [] h = refl
flat-none f (x ∷ xs) h = ap (λ l. l ++ flat_map f xs) (h x) ∙ flat-none f xs h

flat-some : {B : Type 0} (f : ℕ → List B) (n k : ℕ) → k < n → nat_lt 0 (length (f k)) ≡ true → nat_lt 0 (length (flat_map f (numbers n))) ≡ true
flat-some f n k h e =
    not-none (flat_map f (numbers n)) (λ none. some-not (f k) e (joined-none f (numbers n) k k none (number-at n k h)))

-- an offer that receives

eqb-channel : (m n : ℕ) → nat_eq m n ≡ true → m ≡ n
eqb-channel m n e = grind arith

pub receives-listed : (parties : Parties) (p channel : ℕ) (act : Act) → receives_on channel act ≡ true → IsPartyBy parties p act
    → Contains (listed_at parties.receivers channel) p
receives-listed parties p channel (Send number x) e h = absurd (false≢true e)
receives-listed parties p channel (Receive number slot) e h =
    subst (λ (k : ℕ). Contains (listed_at parties.receivers k) p) (eqb-channel number channel e) h
receives-listed parties p channel (Delay due) e h = absurd (false≢true e)

pub receives-reaches : (parties : Parties) (channel : ℕ) (act : Act) (some : List ℕ) → receives_on channel act ≡ true → ReachesBy parties act some
    → Keeps (listed_at parties.senders channel) some
receives-reaches parties channel (Send number x) some e h = absurd (false≢true e)
receives-reaches parties channel (Receive number slot) some e h =
    subst (λ (k : ℕ). Keeps (listed_at parties.senders k) some) (eqb-channel number channel e) h
receives-reaches parties channel (Delay due) some e h = absurd (false≢true e)

pub record Receiver (channel : ℕ) (offers : List Offer) : Type 0 where
  pub place : ℕ
  pub offer : Offer
  pub at : slice_get offers place ≡ Some offer
  pub receives : receives_on channel offer.act ≡ true

receiver-of : (channel : ℕ) (offers : List Offer) (b : ℕ) (o : Option Offer) → slice_get offers b ≡ o → is_receiver channel o ≡ true → Receiver channel offers
receiver-of channel offers b None at e = absurd (false≢true e)
receiver-of channel offers b (Some o) at e = record { place = b; offer = o; at = at; receives = e }

pub receiver : (channel : ℕ) (offers : List Offer) → nat_lt 0 (length (receivers channel offers)) ≡ true → Receiver channel offers
receiver channel offers e =
    let first = some_below (receivers channel offers) 0 (lt-true _ e) in
    receiver-of channel offers first.0 (slice_get offers first.0) refl
    (kept (λ b. is_receiver channel (slice_get offers b)) (numbers (length offers)) 0 first.0 first.1).0

pub no-receivers : (channel : ℕ) (offers : List Offer) → (Receiver channel offers → ⊥) → receivers channel offers ≡ []
no-receivers channel offers h = by_any (nat_lt 0 (length (receivers channel offers))) refl
  where
    by_any : (b : Bool) → nat_lt 0 (length (receivers channel offers)) ≡ b → receivers channel offers ≡ []
    by_any true is = absurd (h (receiver channel offers is))
    by_any false is = false-none (receivers channel offers) is

pub pairs_with-none : (p a channel q : ℕ) (j : Instance) → receivers channel (offers_in j.state) ≡ [] → pairs_with p a channel q (Some j) ≡ []
pairs_with-none p a channel q j none = by_test (nat_eq q p)
  where
    by_test : (b : Bool) → cond b [] (map (λ b. Pair p a q b) (receivers channel (offers_in j.state))) ≡ []
    by_test true = refl
    by_test false = ap (map (λ b. Pair p a q b)) none

-- all other instances

pub pairs-some : (config : Config) (q p channel n : ℕ) → ((a : ℕ) → n ≡ length (pairs_with p a channel q (slice_get config.instances q))) → 0 < n
    → (a : ℕ) → true ≡ nat_lt 0 (length (pairs config p a channel))
pairs-some config q p channel n e some a = by_instance (slice_get config.instances q) refl (e a)
  where
    by_instance : (o : Option Instance) → slice_get config.instances q ≡ o → n ≡ length (pairs_with p a channel q o)
        → true ≡ nat_lt 0 (length (pairs config p a channel))
    by_instance None at h = absurd (omega (arith, h, some))
    by_instance (Some j) at h =
        let has : nat_lt 0 (length (pairs_with p a channel q (Some j))) ≡ true = ap (nat_lt 0) (sym h) ∙ lt-some n some in
        sym (flat-some (λ r. pairs_with p a channel r (slice_get config.instances r)) (length config.instances) q
        (slice_get_within config.instances q j at) (ap (λ o. nat_lt 0 (length (pairs_with p a channel q o))) at ∙ has))

-- who isn't listed may not pair
pub pairs-unlisted : (config : Config) (parties : Parties) (p a channel q : ℕ) → AllParties parties config.instances
    → (pairs_with p a channel q (slice_get config.instances q) ≡ []) ⊎ Contains (listed_at parties.receivers channel) q
pairs-unlisted config parties p a channel q parts = by_instance (slice_get config.instances q) refl
  where
    by_any : (j : Instance) → slice_get config.instances q ≡ Some j → (b : Bool) → nat_lt 0 (length (receivers channel (offers_in j.state))) ≡ b
        → (pairs_with p a channel q (slice_get config.instances q) ≡ []) ⊎ Contains (listed_at parties.receivers channel) q
    by_any j at true e =
        let r = receiver channel (offers_in j.state) e in
        let party : IsParty parties q (Some j) = subst (λ (o : Option Instance). IsParty parties q o) at (parts q) in
        inr (receives-listed parties q channel r.offer.act r.receives (party r.place r.offer r.at))
    by_any j at false e = inl (ap (pairs_with p a channel q) at ∙ pairs_with-none p a channel q j (false-none (receivers channel (offers_in j.state)) e))

    by_instance : (o : Option Instance) → slice_get config.instances q ≡ o
        → (pairs_with p a channel q (slice_get config.instances q) ≡ []) ⊎ Contains (listed_at parties.receivers channel) q
    by_instance None at = inl (ap (pairs_with p a channel q) at)
    by_instance (Some j) at = by_any j at (nat_lt 0 (length (receivers channel (offers_in j.state)))) refl

-- none of those that are listed may pair
abbrev pub NonePairs : Config → ℕ → ℕ → List ℕ → ℕ → Type 0
NonePairs config p channel listed n = (k : ℕ) → k < n → (q : ℕ) → slice_get listed k ≡ Some q
    → (a : ℕ) → pairs_with p a channel q (slice_get config.instances q) ≡ []

pub pairs-none : (config : Config) (parties : Parties) (p channel n : ℕ) (listed : List ℕ) → AllParties parties config.instances
    → listed ≡ listed_at parties.receivers channel → length listed ≤ n → NonePairs config p channel listed n
    → (a : ℕ) → false ≡ nat_lt 0 (length (pairs config p a channel))
pairs-none config parties p channel n listed parts is all none a =
    sym (none-false (pairs config p a channel)
    (flat-none (λ q. pairs_with p a channel q (slice_get config.instances q)) (numbers (length config.instances))
    (λ q. by_listed q (pairs-unlisted config parties p a channel q parts))))
  where
    by_listed : (q : ℕ) → (pairs_with p a channel q (slice_get config.instances q) ≡ []) ⊎ Contains (listed_at parties.receivers channel) q
        → pairs_with p a channel q (slice_get config.instances q) ≡ []
    by_listed q (inl e) = e
    by_listed q (inr c') =
        let c : Contains listed q = subst (λ (l : List ℕ). Contains l q) (sym is) c' in
        none c.0 (let h : c.0 < length listed = c.1 in omega (arith, h, all)) q (slice_get_read listed (length listed) c.0 q refl c.1 (sym c.2)) a

pub none_pairs-none : (config : Config) (p channel : ℕ) (listed : List ℕ) → NonePairs config p channel listed 0
none_pairs-none config p channel listed k h = absurd (omega arith)

-- one more of those that are listed may not
pub none_pairs-more : (config : Config) (p channel k q n : ℕ) (listed : List ℕ) → NonePairs config p channel listed k → q ≡ get_or listed k 0 → k < length listed
    → ((a : ℕ) → n ≡ length (pairs_with p a channel q (slice_get config.instances q))) → n ≤ 0 → NonePairs config p channel listed (k + 1)
none_pairs-more config p channel k q n listed none at h e fails j less r found a = by_cases (let c : (j < k) ⊎ (j ≡ k) = grind arith in c)
  where
    by_cases : (j < k) ⊎ (j ≡ k) → pairs_with p a channel r (slice_get config.instances r) ≡ []
    by_cases (inl l) = none j l r found a
    by_cases (inr same) =
        let here : slice_get listed k ≡ Some q = slice_get_read listed (length listed) k q refl h (at ∙ get_or-within listed k 0 q h) in
        let both : Some r ≡ Some q = sym found ∙ ap (slice_get listed) same ∙ here in
        let one : r ≡ q = cc in
        let few = e a in
        ap (λ m. pairs_with p a channel m (slice_get config.instances m)) one
        ∙ none-of (pairs_with p a channel q (slice_get config.instances q)) (omega (arith, few, fails))

-- offers

pub offered-none_below : (config : Config) (p : ℕ) (offers : List Offer) → nat_lt 0 (length (offered_below config p offers 0)) ≡ false
unfolding offered_below
offered-none_below config p offers = refl

-- none of the offers below number n has an option
abbrev pub NoneOffers : Config → ℕ → List Offer → ℕ → Type 0
NoneOffers config p offers n = (k : ℕ) → k < n → options_for config p k (slice_get offers k) ≡ []

pub none_offers-none : (config : Config) (p : ℕ) (offers : List Offer) → NoneOffers config p offers 0
none_offers-none config p offers k h = absurd (omega arith)

pub none_offers-more : (config : Config) (p k : ℕ) (offers : List Offer) (o : Offer) (has : Bool) → NoneOffers config p offers k → k < length offers → o ≡ get_or offers k o
    → ((a : ℕ) → has ≡ nat_lt 0 (length (options_for config p a (Some o)))) → has ≡ false → NoneOffers config p offers (k + 1)
none_offers-more config p k offers o has none h is e fails j less = by_cases (let c : (j < k) ⊎ (j ≡ k) = grind arith in c)
  where
    by_cases : (j < k) ⊎ (j ≡ k) → options_for config p j (slice_get offers j) ≡ []
    by_cases (inl l) = none j l
    by_cases (inr same) =
        let here : slice_get offers k ≡ Some o = slice_get_read offers (length offers) k o refl h is in
        ap (λ m. options_for config p m (slice_get offers m)) same ∙ ap (options_for config p k) here
        ∙ false-none (options_for config p k (Some o)) (sym (e k) ∙ fails)

pub none_offers-all : (config : Config) (p n : ℕ) (offers : List Offer) → NoneOffers config p offers n → length offers ≤ n
    → false ≡ nat_lt 0 (length (offered_below config p offers (length offers)))
unfolding offered_below
none_offers-all config p n offers none all =
    sym (none-false (offered_below config p offers (length offers))
    (flat-none (λ a. options_for config p a (slice_get offers a)) (numbers (length offers)) (λ a. by_offer a (slice_get offers a) refl)))
  where
    by_offer : (a : ℕ) (o : Option Offer) → slice_get offers a ≡ o → options_for config p a (slice_get offers a) ≡ []
    by_offer a None at = ap (options_for config p a) at
    by_offer a (Some o) at = none a (let h = slice_get_within offers a o at in omega (arith, h, all))

pub offered-some : (config : Config) (p k : ℕ) (offers : List Offer) (o : Offer) (has : Bool) → k < length offers → o ≡ get_or offers k o
    → ((a : ℕ) → has ≡ nat_lt 0 (length (options_for config p a (Some o)))) → has ≡ true
    → true ≡ nat_lt 0 (length (offered_below config p offers (length offers)))
unfolding offered_below
offered-some config p k offers o has h is e some =
    let here : slice_get offers k ≡ Some o = slice_get_read offers (length offers) k o refl h is in
    sym (flat-some (λ a. options_for config p a (slice_get offers a)) (length offers) k h
    (ap (λ x. nat_lt 0 (length (options_for config p k x))) here ∙ sym (e k) ∙ some))

-- states

pub acts-waiting : (config : Config) (p : ℕ) (offers : List Offer) (has : Bool) → has ≡ nat_lt 0 (length (offered_below config p offers (length offers)))
    → has ≡ nat_lt 0 (length (options_in config p (Waiting offers)))
unfolding offered_below
acts-waiting config p offers has e = e

pub acts-joining : (config : Config) (p : ℕ) (waited : List ℕ) (has : Bool) → has ≡ are_over config waited
    → has ≡ nat_lt 0 (length (options_in config p (Joining waited)))
acts-joining config p waited true e = ap (λ b. nat_lt 0 (length (cond b (Join p ∷ []) []))) e
acts-joining config p waited false e = ap (λ b. nat_lt 0 (length (cond b (Join p ∷ []) []))) e

pub acts-some : (config : Config) (p : ℕ) (i : Instance) (has : Bool) → slice_get config.instances p ≡ Some i
    → has ≡ nat_lt 0 (length (options_in config p i.state)) → has ≡ acts config p
acts-some config p i has at e = e ∙ sym (ap (λ o. nat_lt 0 (length (options_of config p o))) at)

pub acts-none : (config : Config) (p : ℕ) → slice_get config.instances p ≡ None → acts config p ≡ false
acts-none config p at = ap (λ o. nat_lt 0 (length (options_of config p o))) at

pub ruleset acting = (none_offers-none, none_offers-more, none_offers-all, offered-some, acts-waiting, acts-joining, acts-some, acts-none)

pub ruleset pairing = (pairs-some, pairs-none, none_pairs-none, none_pairs-more)
