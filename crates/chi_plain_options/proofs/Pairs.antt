-- The options of an instance by its offers, counted and found one offer, and one other instance, after another.
use Rattle.std.proofs.Common.{◌≡◌, ℕ, zero, suc, ◌+◌, ◌<◌, ◌≤◌, List, [], ◌∷◌, ◌++◌, Option, Some, None, Bool, true, false, cond, length, get_or, take, ◌⊎◌, inl, inr, sym, ◌∙◌, ap, subst, refl, arith, length-append}
use Rattle.std.specs.Prelude.{map, nat_eq}
use Rattle.std.specs.List.{slice_get, flat_map, Contains}
use Rattle.std.specs.Option.{option_map}
use Rattle.std.proofs.lemmas.Bool.{eq-eqb}
use Rattle.std.proofs.lemmas.Grind.{flat_map-append}
use Rattle.std.proofs.lemmas.List.{append-nil, length-map, take_all}
use Rattle.std.proofs.lemmas.Option.{slice_get-map, slice_get_read, slice_get_past}
use Rattle.chi_core.specs.declared.label.Label.{Label}
use Rattle.chi_core.specs.declared.limits.TheConstants.{MOST_INSTANCES}
use Rattle.chi_core.specs.declared.label.Label.TheVariants.{Pair}
use Rattle.chi_core.specs.Config.{Config, Instance, Offer, offers_in}
use Rattle.chi_core.specs.Options.{numbers, receivers, pairs_with, pairs, options_for}
use Rattle.chi_plain_options.specs.declared.parties.Parties.{Parties}
use Rattle.chi_plain_options.specs.Ascending.{Ascends}
use Rattle.chi_plain_options.specs.Scanning.{pairs_among, offered_below}
use Rattle.chi_plain_options.specs.Listing.{AllParties, listed_at}
use Rattle.chi_plain_options.proofs.Ascending.{ascends-length, joined-listed}
use Rattle.chi_plain_options.proofs.Havings.{pairs-unlisted}
use Rattle.chi_plain_options.proofs.Lists.{get_or-within}

flat-suc : {B : Type 0} (f : ℕ → List B) (n : ℕ) → flat_map f (numbers (suc n)) ≡ flat_map f (numbers n) ++ f n
flat-suc f n = flat_map-append f (numbers n) (n ∷ []) ∙ ap (λ l. flat_map f (numbers n) ++ l) (append-nil (f n))

length-flat-suc : {B : Type 0} (f : ℕ → List B) (n : ℕ) → length (flat_map f (numbers (n + 1))) ≡ length (flat_map f (numbers n)) + length (f n)
length-flat-suc f n =
    let one : n + 1 ≡ suc n = omega arith in
    rw one (ap length (flat-suc f n) ∙ length-append (flat_map f (numbers n)) (f n))

slice_get-front : {A : Type 0} (xs ys : List A) (k : ℕ) (x : A) → slice_get xs k ≡ Some x → slice_get (xs ++ ys) k ≡ Some x
slice_get-front [] ys k x e = absurd (cc)
slice_get-front (z ∷ zs) ys zero x e = e
slice_get-front (z ∷ zs) ys (suc k) x e = slice_get-front zs ys k x e

slice_get-back : {A : Type 0} (xs ys : List A) (k : ℕ) → slice_get (xs ++ ys) (length xs + k) ≡ slice_get ys k
slice_get-back [] ys k = let e : 0 + k ≡ k = omega arith in ap (slice_get ys) e
slice_get-back (x ∷ xs) ys k =
    let e : length (x ∷ xs) + k ≡ suc (length xs + k) = omega arith in
    ap (slice_get (x ∷ (xs ++ ys))) e ∙ slice_get-back xs ys k

-- the place of an element of list number n, among all below m
flat-at : {B : Type 0} (f : ℕ → List B) (m n i : ℕ) (y : B) → n < m → slice_get (f n) i ≡ Some y
    → slice_get (flat_map f (numbers m)) (length (flat_map f (numbers n)) + i) ≡ Some y
flat-at f zero n i y h e = absurd (omega arith)
flat-at {B} f (suc m) n i y h e = by_cases (flat-at f m n i y) (let c : (n < m) ⊎ (n ≡ m) = grind arith in c)
  where
    k : ℕ
    k = length (flat_map f (numbers n)) + i

    by_cases : (n < m → slice_get (f n) i ≡ Some y → slice_get (flat_map f (numbers m)) k ≡ Some y)
        → (n < m) ⊎ (n ≡ m) → slice_get (flat_map f (numbers (suc m))) k ≡ Some y
    by_cases before (inl l) =
        ap (λ xs. slice_get xs k) (flat-suc f m) ∙ slice_get-front (flat_map f (numbers m)) (f m) k y (before l e)
    by_cases before (inr same) =
        let P : ℕ → Type 0 = λ j. slice_get (flat_map f (numbers (suc j))) k ≡ Some y in
        subst P same (ap (λ xs. slice_get xs k) (flat-suc f n) ∙ slice_get-back (flat_map f (numbers n)) (f n) i ∙ e)

-- two families of lists that are as long one by one
same_lengths : {A B C : Type 0} (f : A → List B) (g : A → List C) (xs : List A) → ((x : A) → length (f x) ≡ length (g x))
    → length (flat_map f xs) ≡ length (flat_map g xs)
same_lengths f g [] h = refl
same_lengths f g (x ∷ xs) h =
    length-append (f x) (flat_map f xs) ∙ (let e = h x in let r = same_lengths f g xs h in omega arith) ∙ sym (length-append (g x) (flat_map g xs))

-- one other instance

pub partner-none : (p a channel q n : ℕ) (j : Instance) → q ≡ p → n ≡ 0 → n ≡ length (pairs_with p a channel q (Some j))
partner-none p a channel q n j same none =
    none ∙ sym (ap (λ b. length (cond b [] (map (λ b. Pair p a q b) (receivers channel (offers_in j.state))))) (eq-eqb q p same))

partner-others : (p a channel q : ℕ) (j : Instance) → nat_eq q p ≡ false
    → pairs_with p a channel q (Some j) ≡ map (λ b. Pair p a q b) (receivers channel (offers_in j.state))
partner-others p a channel q j other = ap (λ b. cond b [] (map (λ b. Pair p a q b) (receivers channel (offers_in j.state)))) other

pub partner-some : (p a channel q n : ℕ) (j : Instance) → nat_eq q p ≡ false → n ≡ length (receivers channel (offers_in j.state))
    → n ≡ length (pairs_with p a channel q (Some j))
partner-some p a channel q n j other e =
    e ∙ sym (length-map (receivers channel (offers_in j.state)) (λ b. Pair p a q b)) ∙ sym (ap length (partner-others p a channel q j other))

-- an element of these pairs is one with another instance
partner-other : (p a channel q i : ℕ) (j : Instance) → i < length (pairs_with p a channel q (Some j)) → nat_eq q p ≡ false
partner-other p a channel q i j h = by_test (nat_eq q p) h
  where
    by_test : (t : Bool) → i < length (cond t [] (map (λ b. Pair p a q b) (receivers channel (offers_in j.state)))) → t ≡ false
    by_test true h' = absurd (omega arith)
    by_test false h' = refl

pub partner-within : (p a channel q i : ℕ) (j : Instance) → i < length (pairs_with p a channel q (Some j))
    → i < length (receivers channel (offers_in j.state))
partner-within p a channel q i j h =
    let e = partner-some p a channel q (length (receivers channel (offers_in j.state))) j (partner-other p a channel q i j h) refl in omega arith

pub partner-at : (p a channel q i b : ℕ) (j : Instance) → i < length (pairs_with p a channel q (Some j))
    → slice_get (receivers channel (offers_in j.state)) i ≡ Some b → slice_get (pairs_with p a channel q (Some j)) i ≡ Some (Pair p a q b)
partner-at p a channel q i b j h e =
    ap (λ l. slice_get l i) (partner-others p a channel q j (partner-other p a channel q i j h))
    ∙ slice_get-map (λ b. Pair p a q b) (receivers channel (offers_in j.state)) i ∙ ap (option_map (λ b. Pair p a q b)) e

-- the other instance by its number

pub partner-there : (is : List Instance) (p channel q n : ℕ) (j : Instance) → slice_get is q ≡ Some j → ((a : ℕ) → n ≡ length (pairs_with p a channel q (Some j)))
    → (a : ℕ) → n ≡ length (pairs_with p a channel q (slice_get is q))
partner-there is p channel q n j at e a = e a ∙ sym (ap (λ o. length (pairs_with p a channel q o)) at)

pub partner-nowhere : (is : List Instance) (p channel q n : ℕ) → slice_get is q ≡ None → n ≡ 0 → (a : ℕ) → n ≡ length (pairs_with p a channel q (slice_get is q))
partner-nowhere is p channel q n at none a = none ∙ sym (ap (λ o. length (pairs_with p a channel q o)) at)

-- an element of these pairs is one with an instance that there is
pub partner-somewhere : (is : List Instance) (p a channel q i : ℕ) → i < length (pairs_with p a channel q (slice_get is q)) → slice_get is q ≡ None → ⊥
partner-somewhere is p a channel q i h at =
    let none : length (pairs_with p a channel q (slice_get is q)) ≡ 0 = ap (λ o. length (pairs_with p a channel q o)) at in omega (arith, h, none)

length-pairs_with : (p a a' channel q : ℕ) (o : Option Instance) → length (pairs_with p a channel q o) ≡ length (pairs_with p a' channel q o)
length-pairs_with p a a' channel q None = refl
length-pairs_with p a a' channel q (Some j) = by_test (nat_eq q p)
  where
    by_test : (t : Bool) → length (cond t [] (map (λ b. Pair p a q b) (receivers channel (offers_in j.state))))
        ≡ length (cond t [] (map (λ b. Pair p a' q b) (receivers channel (offers_in j.state))))
    by_test true = refl
    by_test false = length-map (receivers channel (offers_in j.state)) (λ b. Pair p a q b) ∙ sym (length-map (receivers channel (offers_in j.state)) (λ b. Pair p a' q b))

-- all other instances that are listed

pub listed-few : (listed : List ℕ) → Ascends 0 MOST_INSTANCES listed → length listed ≤ MOST_INSTANCES
listed-few listed up = let h = ascends-length 0 MOST_INSTANCES listed up (omega arith) in omega (arith, h)

pub length-pairs_among-none : (config : Config) (p a channel : ℕ) (listed : List ℕ) → length (pairs_among config p a channel (take 0 listed)) ≡ 0
unfolding pairs_among
length-pairs_among-none config p a channel listed = refl

take-next : (xs : List ℕ) (k x : ℕ) → k < length xs → x ≡ get_or xs k x → take (k + 1) xs ≡ take k xs ++ x ∷ []
take-next xs k x h e = let one : k + 1 ≡ suc k = omega arith in rw one (by_place xs k h e)
  where
    by_place : (xs : List ℕ) (k : ℕ) → k < length xs → x ≡ get_or xs k x → take (suc k) xs ≡ take k xs ++ x ∷ []
    by_place [] k h e = absurd (omega (arith, h))
    by_place (y ∷ ys) zero h e = ap (λ z. z ∷ []) (sym e)
    by_place (y ∷ ys) (suc k) h e = ap (λ l. y ∷ l) (by_place ys k (omega (arith, h)) e)

pub length-pairs_among-more : (config : Config) (p a channel k q n : ℕ) (listed : List ℕ) → k < length listed → q ≡ get_or listed k 0
    → ((b : ℕ) → n ≡ length (pairs_with p b channel q (slice_get config.instances q)))
    → length (pairs_among config p a channel (take (k + 1) listed)) ≡ length (pairs_among config p a channel (take k listed)) + n
unfolding pairs_among
length-pairs_among-more config p a channel k q n listed h at e =
    let f : ℕ → List Label = λ q. pairs_with p a channel q (slice_get config.instances q) in
    ap (λ l. length (flat_map f l)) (take-next listed k q h (at ∙ get_or-within listed k 0 q h))
    ∙ ap length (flat_map-append f (take k listed) (q ∷ []) ∙ ap (λ l. flat_map f (take k listed) ++ l) (append-nil (f q)))
    ∙ length-append (flat_map f (take k listed)) (f q) ∙ ap (λ m. length (flat_map f (take k listed)) + m) (sym (e a))

-- what an element of a list gives, among all that is joined
flat-place : {B : Type 0} (f : ℕ → List B) (xs : List ℕ) (k x i : ℕ) (y : B) → k < length xs → x ≡ get_or xs k x → slice_get (f x) i ≡ Some y
    → slice_get (flat_map f xs) (length (flat_map f (take k xs)) + i) ≡ Some y
flat-place f [] k x i y h at e = absurd (omega (arith, h))
flat-place f (z ∷ zs) zero x i y h at e =
    let none : 0 + i ≡ i = omega arith in
    ap (slice_get (f z ++ flat_map f zs)) none ∙ slice_get-front (f z) (flat_map f zs) i y (ap (λ (w : ℕ). slice_get (f w) i) (sym at) ∙ e)
flat-place f (z ∷ zs) (suc k) x i y h at e =
    let all : length (flat_map f (take (suc k) (z ∷ zs))) + i ≡ length (f z) + (length (flat_map f (take k zs)) + i)
    = (let l = length-append (f z) (flat_map f (take k zs)) in omega (arith, l)) in
    ap (slice_get (f z ++ flat_map f zs)) all ∙ slice_get-back (f z) (flat_map f zs) (length (flat_map f (take k zs)) + i)
    ∙ flat-place f zs k x i y (omega (arith, h)) at e

module _ (config : Config) (parties : Parties) (p a channel : ℕ) (listed : List ℕ) (parts : AllParties parties config.instances)
    (is : listed ≡ listed_at parties.receivers channel) (up : Ascends 0 MOST_INSTANCES listed) where
  -- those that are listed make all pairs
  all_pairs : pairs_among config p a channel listed ≡ pairs config p a channel
  unfolding pairs_among
  all_pairs =
      joined-listed (λ q. pairs_with p a channel q (slice_get config.instances q)) MOST_INSTANCES (length config.instances) listed up
      (λ q h. by_listed q (pairs-unlisted config parties p a channel q parts))
      (λ q h. ap (pairs_with p a channel q) (slice_get_past config.instances q h))
    where
      by_listed : (q : ℕ) → (pairs_with p a channel q (slice_get config.instances q) ≡ []) ⊎ Contains (listed_at parties.receivers channel) q
          → (pairs_with p a channel q (slice_get config.instances q) ≡ []) ⊎ Contains listed q
      by_listed q (inl e) = inl e
      by_listed q (inr c) = inr (subst (λ (l : List ℕ). Contains l q) (sym is) c)

  pub length-pairs : (b n : ℕ) → length listed ≤ n → length (pairs_among config p b channel (take n listed)) ≡ length (pairs config p a channel)
  unfolding pairs_among
  length-pairs b n all =
      ap (λ l. length (pairs_among config p b channel l)) (take_all n listed all) ∙ same_pairs ∙ ap length all_pairs
    where
      same_pairs : length (pairs_among config p b channel listed) ≡ length (pairs_among config p a channel listed)
      same_pairs =
          same_lengths (λ q. pairs_with p b channel q (slice_get config.instances q)) (λ q. pairs_with p a channel q (slice_get config.instances q)) listed
          (λ q. length-pairs_with p b a channel q (slice_get config.instances q))

  pub pairs-at : (k q seen i j : ℕ) (label : Label) → k < length listed → q ≡ get_or listed k 0
      → seen ≡ length (pairs_among config p a channel (take k listed)) → i ≡ seen + j
      → slice_get (pairs_with p a channel q (slice_get config.instances q)) j ≡ Some label → slice_get (pairs config p a channel) i ≡ Some label
  unfolding pairs_among
  pairs-at k q seen i j label h at e same has =
      let place : i ≡ length (pairs_among config p a channel (take k listed)) + j = same ∙ ap (λ n. n + j) e in
      ap (λ l. slice_get l i) (sym all_pairs) ∙ ap (slice_get (pairs_among config p a channel listed)) place ∙ found
    where
      found : slice_get (pairs_among config p a channel listed) (length (pairs_among config p a channel (take k listed)) + j) ≡ Some label
      found = flat-place (λ q. pairs_with p a channel q (slice_get config.instances q)) listed k q j label h (at ∙ get_or-within listed k 0 q h) has

-- all offers

pub length-offered_below-none : (config : Config) (p : ℕ) (offers : List Offer) → length (offered_below config p offers 0) ≡ 0
unfolding offered_below
length-offered_below-none config p offers = refl

pub length-offered_below-more : (config : Config) (p a n : ℕ) (offers : List Offer) (o : Offer) → a < length offers → o ≡ get_or offers a o
    → n ≡ length (options_for config p a (Some o))
    → length (offered_below config p offers (a + 1)) ≡ length (offered_below config p offers a) + n
unfolding offered_below
length-offered_below-more config p a n offers o h at e =
    let here : length (options_for config p a (slice_get offers a)) ≡ n
    = ap (λ x. length (options_for config p a x)) (slice_get_read offers (length offers) a o refl h at) ∙ sym e in
    length-flat-suc (λ a. options_for config p a (slice_get offers a)) a
    ∙ ap (λ k. length (offered_below config p offers a) + k) here

pub length-offered_below-all : (config : Config) (p n : ℕ) (offers : List Offer) → n ≡ length offers
    → length (offered_below config p offers n) ≡ length (offered_below config p offers (length offers))
length-offered_below-all config p n offers e = ap (λ k. length (offered_below config p offers k)) e

pub offered-at : (config : Config) (p a seen i k : ℕ) (offers : List Offer) (o : Offer) (label : Label) → a < length offers → o ≡ get_or offers a o
    → seen ≡ length (offered_below config p offers a) → i ≡ seen + k → slice_get (options_for config p a (Some o)) k ≡ Some label
    → slice_get (offered_below config p offers (length offers)) i ≡ Some label
unfolding offered_below
offered-at config p a seen i k offers o label h at e is has =
    let f : ℕ → List Label = λ a. options_for config p a (slice_get offers a) in
    let place : i ≡ length (flat_map f (numbers a)) + k = is ∙ ap (λ n. n + k) e in
    ap (slice_get (flat_map f (numbers (length offers)))) place
    ∙ flat-at f (length offers) a k label h
    (ap (λ x. slice_get (options_for config p a x) k) (slice_get_read offers (length offers) a o refl h at) ∙ has)

pub ruleset partners = (partner-none, partner-some, partner-within, partner-at, partner-there, partner-nowhere, partner-somewhere)

pub ruleset pairing = (listed-few, length-pairs_among-none, length-pairs_among-more, length-pairs)

pub ruleset offering = (length-offered_below-none, length-offered_below-more, length-offered_below-all)
