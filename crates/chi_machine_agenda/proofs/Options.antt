-- The options of an instance, and who has one, by what is kept.
use Rattle.std.proofs.Common.{◌≡◌, ℕ, zero, suc, ◌<◌, ◌≤◌, ℤ, List, [], ◌∷◌, ◌++◌, Option, Some, None, Bool, true, false, cond, map, length, get_or, ◌⊎◌, inl, inr, sym, ◌∙◌, ap, subst, refl, arith}
use Rattle.std.proofs.lemmas.List.{length-map}
use Rattle.std.specs.Prelude.{filter, nat_eq, nat_lt, option_map, ◌&&◌}
use Rattle.std.specs.List.{slice_get, list_all}
use Rattle.chi_core.specs.declared.label.Label.{Label}
use Rattle.chi_core.specs.declared.label.Label.TheVariants as label
use Rattle.chi_core.specs.Config.{Config, Instance}
use Rattle.chi_core.specs.Meeting.{is_over, are_over}
use Rattle.chi_core.specs.Options.{numbers, options_of, options, actors}
use Rattle.chi_chan.specs.declared.offers.Offer.{Offer}
use Rattle.chi_chan.specs.declared.offers.Offer.TheVariants.{Send, Receive, Delay}
use Rattle.chi_chan.specs.Held as chan
use Rattle.chi_chan.specs.Held.{Offered, held}
use Rattle.chi_chan.specs.Kept.{offers_or}
use Rattle.chi_chan_laws.specs.Agreement.{Agrees, label_of, offered_as, offered_at}
use Rattle.chi_chan_laws.proofs.Agreeing.{agree}
use Rattle.chi_order.specs.Marked.{is_marked, members}
use Rattle.chi_order.specs.Marked.{numbers as numbers_below}
use Rattle.chi_machine_agenda.specs.declared.joining.Joins.{Joins}
use Rattle.chi_machine_agenda.specs.declared.standing.Standing.{Standing}
use Rattle.chi_machine_agenda.specs.declared.standing.Standing.TheVariants as stands
use Rattle.chi_machine_agenda.specs.Joined.{has_ended, numbers_at, Watches}
use Rattle.chi_machine_agenda.specs.Kept.{phase_by, phase_at, phases_from, is_finished, goes, IsKept, IsJoined, IsSeated}
use Rattle.chi_machine_agenda.specs.Phases.{Agenda, Waiting}
use Rattle.chi_machine_agenda.specs.Reading.{offer_of, instance_of, config_of}
use Rattle.chi_machine_agenda.proofs.Following.{ended-is}
use Rattle.chi_machine_agenda.proofs.Lists.{eq-yes, eq-no, got, got-none, map-got}
use Rattle.chi_machine_agenda.proofs.Phases.{phases-at, phases-length}

-- an offer is read back

read-offer : (o : Offer) → offered_as (offer_of o) ≡ o
read-offer (Send c) = refl
read-offer (Receive c) = refl
read-offer (Delay t) = refl

read-back : (os : List Offer) → map offered_as (map offer_of os) ≡ os
read-back [] = refl
read-back (o ∷ os) = λ j. read-offer o j ∷ read-back os j

-- all of a list

all-yes : (f : ℕ → Bool) (xs : List ℕ) → ((k x : ℕ) → slice_get xs k ≡ Some x → f x ≡ true) → list_all f xs ≡ true
all-yes f [] h = refl
all-yes f (x ∷ xs) h = ap (λ b. b && list_all f xs) (h 0 x refl) ∙ all-yes f xs (λ k y e. h (suc k) y e)

all-no : (f : ℕ → Bool) (xs : List ℕ) (k x : ℕ) → slice_get xs k ≡ Some x → f x ≡ false → list_all f xs ≡ false
all-no f [] k x e g = absurd (cc)
all-no f (y ∷ ys) zero x e g = let same : x ≡ y = cc in ap (λ b. b && list_all f ys) (sym (ap f same) ∙ g)
all-no f (y ∷ ys) (suc k) x e g = ap (λ b. f y && b) (all-no f ys k x e g) ∙ none (f y)
  where
    none : (b : Bool) → (b && false) ≡ false
    none true = refl
    none false = refl

-- numbers that pass a test

filter-append : (f : ℕ → Bool) (xs ys : List ℕ) → filter f (xs ++ ys) ≡ filter f xs ++ filter f ys
filter-append f [] ys = refl
filter-append f (x ∷ xs) ys = by_test (f x) (filter-append f xs ys)
  where
    by_test : (b : Bool) → filter f (xs ++ ys) ≡ filter f xs ++ filter f ys → cond b (x ∷ filter f (xs ++ ys)) (filter f (xs ++ ys)) ≡ cond b (x ∷ filter f xs) (filter f xs) ++ filter f ys
    by_test true e = ap (λ l. x ∷ l) e
    by_test false e = e

append-none : (xs : List ℕ) → xs ++ [] ≡ xs
append-none [] = refl
append-none (x ∷ xs) = ap (λ l. x ∷ l) (append-none xs)

filter-same : (f g : ℕ → Bool) (xs : List ℕ) → ((x : ℕ) → f x ≡ g x) → filter f xs ≡ filter g xs
filter-same f g [] h = refl
filter-same f g (x ∷ xs) h = λ k. cond (h x k) (x ∷ filter-same f g xs h k) (filter-same f g xs h k)

same-numbers : (n : ℕ) → numbers_below n ≡ numbers n
same-numbers zero = refl
same-numbers (suc n) = ap (λ (l : List ℕ). l ++ n ∷ []) (same-numbers n)

failing : (f : ℕ → Bool) (n : ℕ) → f n ≡ false → filter f (numbers (suc n)) ≡ filter f (numbers n)
failing f n e = filter-append f (numbers n) (n ∷ []) ∙ ap (λ b. filter f (numbers n) ++ cond b (n ∷ []) []) e ∙ append-none (filter f (numbers n))

-- past a number none passes
no-more : (f : ℕ → Bool) (m n : ℕ) → ((x : ℕ) → m ≤ x → f x ≡ false) → m ≤ n → filter f (numbers n) ≡ filter f (numbers m)
no-more f m zero h l = let e : 0 ≡ m = omega (arith, l) in ap (λ (k : ℕ). filter f (numbers k)) e
no-more f m (suc n) h l = by_cases (no-more f m n h) (let c : (m ≤ n) ⊎ (suc n ≡ m) = grind arith in c)
  where
    by_cases : (m ≤ n → filter f (numbers n) ≡ filter f (numbers m)) → (m ≤ n) ⊎ (suc n ≡ m) → filter f (numbers (suc n)) ≡ filter f (numbers m)
    by_cases before (inl g) = failing f n (h n g) ∙ before g
    by_cases before (inr e) = ap (λ (k : ℕ). filter f (numbers k)) e

-- where none passes, each fails
none-passes : (f : ℕ → Bool) (n x : ℕ) → filter f (numbers n) ≡ [] → x < n → f x ≡ false
none-passes f zero x e l = absurd (omega (arith, l))
none-passes f (suc n) x e l = by_cases (none-passes f n x (first (filter f (numbers n)) (filter f (n ∷ [])) both)) (let c : (x < n) ⊎ (x ≡ n) = grind arith in c)
  where
    both : filter f (numbers n) ++ filter f (n ∷ []) ≡ []
    both = sym (filter-append f (numbers n) (n ∷ [])) ∙ e

    first : (xs ys : List ℕ) → xs ++ ys ≡ [] → xs ≡ []
    first [] ys g = refl
    first (z ∷ zs) ys g = absurd (cc)

    second : (xs ys : List ℕ) → xs ++ ys ≡ [] → ys ≡ []
    second [] ys g = g
    second (z ∷ zs) ys g = absurd (cc)

    last : (b : Bool) → f n ≡ b → cond b (n ∷ []) [] ≡ [] → f n ≡ false
    last true g h = absurd (cc)
    last false g h = g

    by_cases : (x < n → f x ≡ false) → (x < n) ⊎ (x ≡ n) → f x ≡ false
    by_cases before (inl g) = before g
    by_cases before (inr g) = ap f g ∙ last (f n) refl (second (filter f (numbers n)) (filter f (n ∷ [])) both)

-- whoever is first among those that pass does
pub some-passes : (f : ℕ → Bool) (n p : ℕ) (ps : List ℕ) → filter f (numbers n) ≡ p ∷ ps → f p ≡ true
some-passes f n p ps e = by_list (numbers n) e
  where
    by_list : (xs : List ℕ) → filter f xs ≡ p ∷ ps → f p ≡ true
    by_list [] g = absurd (cc)
    by_list (x ∷ xs) g = by_test (f x) refl g (by_list xs)
      where
        by_test : (b : Bool) → f x ≡ b → cond b (x ∷ filter f xs) (filter f xs) ≡ p ∷ ps → (filter f xs ≡ p ∷ ps → f p ≡ true) → f p ≡ true
        by_test true h k rest = let same : x ≡ p = cc in sym (ap f same) ∙ h
        by_test false h k rest = rest k

-- and so does each of them
pub each-passes : (f : ℕ → Bool) (xs : List ℕ) (k p : ℕ) → slice_get (filter f xs) k ≡ Some p → f p ≡ true
each-passes f [] k p e = absurd (cc)
each-passes f (x ∷ xs) k p e = by_test (f x) refl k e (each-passes f xs)
  where
    by_test : (b : Bool) → f x ≡ b → (k : ℕ) → slice_get (cond b (x ∷ filter f xs) (filter f xs)) k ≡ Some p → ((k p : ℕ) → slice_get (filter f xs) k ≡ Some p → f p ≡ true) → f p ≡ true
    by_test true h zero g rest = let same : x ≡ p = cc in sym (ap f same) ∙ h
    by_test true h (suc k) g rest = rest k p g
    by_test false h k g rest = rest k p g

-- lists of one label, or of one or none

pub only-label : (labels : List Label) (l : Label) (i : ℕ) → labels ≡ l ∷ [] → i < length labels → slice_get labels i ≡ Some l
only-label labels l i e h = by_place i (let n = ap length e in omega (arith, n, h))
  where
    by_place : (k : ℕ) → k < 1 → slice_get labels k ≡ Some l
    by_place zero g = ap (λ x. slice_get x 0) e
    by_place (suc k) g = absurd (omega (arith, g))

pub maybe-label : (labels : List Label) (l : Label) (b : Bool) (i : ℕ) → labels ≡ cond b (l ∷ []) [] → i < length labels → slice_get labels i ≡ Some l
maybe-label labels l true i e h = only-label labels l i e h
maybe-label labels l false i e h = absurd (let n = ap length e in omega (arith, n, h))

pub maybe-count : (l : Label) (b : Bool) → cond b 1 0 ≡ length (cond b (l ∷ []) [])
maybe-count l true = refl
maybe-count l false = refl

module _ (clock : ℤ) (until : Option ℤ) (ss : List Standing) (ended : List Bool) (old : Offered) (marks : List Bool) (times : List (Option ℤ)) (joins : Joins)
    (is : IsKept clock ss ended old marks times joins.numbers joins.left.items joins.watchers) where
  abbrev pub agenda : Agenda
  agenda = record { clock = clock; until = until; phases = phases_from 0 ss old joins.numbers }

  abbrev pub its : Config
  its = config_of agenda

  pub count-is : length its.instances ≡ length ss
  count-is = length-map agenda.phases instance_of ∙ phases-length 0 ss old joins.numbers

  pub instance-at : (p : ℕ) → slice_get its.instances p ≡ option_map instance_of (phase_at ss old joins.numbers p)
  instance-at p = map-got instance_of agenda.phases p ∙ ap (option_map instance_of) (phases-at ss old joins.numbers p)

  abbrev stood : ℕ → Option Standing → Option Instance
  stood p o = option_map instance_of (option_map (λ s. phase_by s (held old p) (numbers_at joins.numbers p)) o)

  pub instance-is : (p : ℕ) (o : Option Standing) → slice_get ss p ≡ o → slice_get its.instances p ≡ stood p o
  instance-is p o e = instance-at p ∙ ap (stood p) e

  pub agrees : Agrees old its
  agrees p = by_standing (slice_get ss p) (held old p) (is.seated p) ∙ sym (ap offered_at (instance-at p))
    where
      by_standing : (o : Option Standing) (w : Option (List Offer)) → IsSeated o w
          → w ≡ offered_at (option_map instance_of (option_map (λ s. phase_by s w (numbers_at joins.numbers p)) o))
      by_standing None w h = h
      by_standing (Some stands.Running) w h = h
      by_standing (Some stands.Waiting) None h = absurd (let z : false ≡ true = h in cc)
      by_standing (Some stands.Waiting) (Some os) h = ap Some (sym (read-back os))
      by_standing (Some stands.Joining) w h = h
      by_standing (Some stands.Finished) w h = h

  -- options, by how an instance stands

  options-stood : (p : ℕ) (o : Option Standing) → slice_get ss p ≡ o → options its p ≡ options_of its p (stood p o)
  options-stood p o e = ap (options_of its p) (instance-is p o e)

  pub options-none : (p : ℕ) → slice_get ss p ≡ None → options its p ≡ []
  options-none p e = options-stood p None e

  pub options-runs : (p : ℕ) → slice_get ss p ≡ Some stands.Running → options its p ≡ label.Local p ∷ []
  options-runs p e = options-stood p (Some stands.Running) e

  pub options-over : (p : ℕ) → slice_get ss p ≡ Some stands.Finished → options its p ≡ []
  options-over p e = options-stood p (Some stands.Finished) e

  pub options-waits : (p : ℕ) → slice_get ss p ≡ Some stands.Waiting → options its p ≡ map (label_of p) (chan.options old clock p)
  options-waits p e =
      agree old its agrees p (instance_of (Waiting (offers_or (held old p)))) (map offer_of (offers_or (held old p))) (instance-is p (Some stands.Waiting) e) refl

  over-stood : (q : ℕ) (s : Standing) → is_over (stood q (Some s)) ≡ is_finished s
  over-stood q stands.Running = refl
  over-stood q stands.Waiting = refl
  over-stood q stands.Joining = refl
  over-stood q stands.Finished = refl

  over-is : (q : ℕ) → q < length ss → is_over (slice_get its.instances q) ≡ has_ended ended q
  over-is q h =
      let at = got ss q stands.Running h in
      ap is_over (instance-is q (Some (get_or ss q stands.Running)) at) ∙ over-stood q (get_or ss q stands.Running)
      ∙ sym (ended-is clock ss ended old marks times joins is q (get_or ss q stands.Running) at)

  all-over : (p : ℕ) → Watches ended joins.numbers joins.left.items joins.watchers p → are_over its (numbers_at joins.numbers p) ≡ nat_eq (get_or joins.left.items p 0) 0
  all-over p w = by_count (get_or joins.left.items p 0) refl
    where
      own : List ℕ
      own = numbers_at joins.numbers p

      test : ℕ → Bool
      test q = is_over (slice_get its.instances q)

      by_ended : (q : ℕ) → q < length ss → (b : Bool) → has_ended ended q ≡ b → test q ≡ b
      by_ended q h b e = over-is q h ∙ e

      by_count : (n : ℕ) → get_or joins.left.items p 0 ≡ n → are_over its own ≡ nat_eq (get_or joins.left.items p 0) 0
      by_count zero e =
          all-yes test own (λ k q g. by_ended q (is.ahead.there p k q g) true (w.over k q (omega (arith, e)) g)) ∙ sym (eq-yes (get_or joins.left.items p 0) 0 e)
      by_count (suc n) e =
          let h = is.ahead.within p in
          let at = got own n 0 (omega (arith, h, e)) in
          all-no test own n (get_or own n 0) at (by_ended (get_or own n 0) (is.ahead.there p n (get_or own n 0) at) false (w.next n e).0)
          ∙ sym (eq-no (get_or joins.left.items p 0) 0 (λ z. omega (arith, z, e)))

  pub options-joins : (p : ℕ) → slice_get ss p ≡ Some stands.Joining → options its p ≡ cond (nat_eq (get_or joins.left.items p 0) 0) (label.Join p ∷ []) []
  options-joins p e =
      options-stood p (Some stands.Joining) e
      ∙ ap (λ b. cond b (label.Join p ∷ []) []) (all-over p (subst (IsJoined ended joins.numbers joins.left.items joins.watchers p) e (is.joined p)))

  -- who has one

  abbrev pub acts : ℕ → Bool
  acts p = nat_lt 0 (length (options its p))

  pub acts-goes : (p : ℕ) → acts p ≡ goes old clock joins.left.items p (slice_get ss p)
  acts-goes p = by_standing (slice_get ss p) refl
    where
      by_left : (b : Bool) → nat_lt 0 (length (cond b (label.Join p ∷ []) [])) ≡ b
      by_left true = refl
      by_left false = refl

      by_standing : (o : Option Standing) → slice_get ss p ≡ o → acts p ≡ goes old clock joins.left.items p o
      by_standing None e = ap (λ l. nat_lt 0 (length l)) (options-none p e)
      by_standing (Some stands.Running) e = ap (λ l. nat_lt 0 (length l)) (options-runs p e)
      by_standing (Some stands.Waiting) e = ap (λ l. nat_lt 0 (length l)) (options-waits p e) ∙ ap (nat_lt 0) (length-map (chan.options old clock p) (label_of p))
      by_standing (Some stands.Joining) e = ap (λ l. nat_lt 0 (length l)) (options-joins p e) ∙ by_left (nat_eq (get_or joins.left.items p 0) 0)
      by_standing (Some stands.Finished) e = ap (λ l. nat_lt 0 (length l)) (options-over p e)

  past-none : (p : ℕ) → length ss ≤ p → acts p ≡ false
  past-none p h = acts-goes p ∙ ap (goes old clock joins.left.items p) (got-none ss p h)

  pub ready-actors : members marks ≡ actors its
  unfolding members
  ready-actors =
      ap (filter (is_marked marks)) (same-numbers (length marks))
      ∙ filter-same (is_marked marks) acts (numbers (length marks)) (λ p. is.ready p ∙ sym (acts-goes p))
      ∙ no-more acts (length ss) (length marks) past-none is.room.ready
      ∙ sym (ap (λ (n : ℕ). filter acts (numbers n)) count-is)

  pub ready-count : length (members marks) ≡ length (actors its)
  ready-count = ap length ready-actors

  -- where nobody has
  pub none-goes : actors its ≡ [] → (q : ℕ) → goes old clock joins.left.items q (slice_get ss q) ≡ false
  none-goes e q = by_place (let c : (q < length ss) ⊎ (length ss ≤ q) = grind arith in c)
    where
      by_place : (q < length ss) ⊎ (length ss ≤ q) → goes old clock joins.left.items q (slice_get ss q) ≡ false
      by_place (inl h) = sym (acts-goes q) ∙ none-passes acts (length its.instances) q e (let n = count-is in omega (arith, h, n))
      by_place (inr h) = ap (goes old clock joins.left.items q) (got-none ss q h)
