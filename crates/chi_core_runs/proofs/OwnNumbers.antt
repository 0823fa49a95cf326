-- A derivation is picked by its own numbers.
use Rattle.std.proofs.Common.{◌≡◌, ℕ, zero, suc, ◌+◌, ◌*◌, ◌<◌, List, [], ◌∷◌, ◌++◌, Option, Some, None, Bool, true, false, cond, length, length-append, append_assoc, inl, inr, sym, ◌∙◌, ap, subst, refl, arith}
use Rattle.std.specs.Prelude.{nat_lt, not, ◌==◌, position, find}
use Rattle.std.specs.List.{slice_get, Contains, position_or_len}
use Rattle.std.specs.Option.{option_and_then}
use Rattle.std.proofs.lemmas.Bool.{eq-eqb, eqb-true, and_from, and_parts, false≢true}
use Rattle.chi_core.specs.declared.label.Label.{Label}
use Rattle.chi_core.specs.declared.label.Label.TheVariants.{Local, Pair, Wake, Join, Advance}
use Rattle.chi_core.specs.declared.program.Core.{Core}
use Rattle.chi_core.specs.Beginning.{Beginning, Begins, Breaks}
use Rattle.chi_core.specs.Beginning as beginning
use Rattle.chi_core.specs.Config.{Config}
use Rattle.chi_core.specs.Options.{Ending, options, actors, enabled}
use Rattle.chi_core.specs.Picks.{Pick, IsLawful, picked_from, picked_option, picked_among, MayPick, Picked, same_label, both_places, places_of, numbers_of, numbers_told, is_spent, numbers_of_some, last_numbers, picks_of, below_or_zero, listed}
use Rattle.chi_core.specs.Runs.{told_after, along, IsCutOff, After, Runs, MayDerive, Told, Derivation}
use Rattle.chi_core.specs.Step as outcome
use Rattle.chi_core.specs.Step.{Outcome, Next, Over, step}
use Rattle.chi_core_runs.proofs.Lists.{contains-at, at-contains}
use Rattle.chi_core_runs.proofs.Options.{actor_of, actor-option, is_actor}
use Rattle.chi_core_runs.proofs.Enabled.{IsEnabled, an_option, goes_on, enabled-is}
use Rattle.chi_core_runs.specs.Picked.{PicksOnly}
use Rattle.chi_core_runs.proofs.Picks.{picks_only}
use Rattle.chi_core_runs.proofs.Turns.{along-none, along-step}

pub listed-lawful : (numbers : List ℕ) → IsLawful (listed numbers)
listed-lawful numbers question count early some few = by_answer (slice_get numbers question)
  where
    by_test : (n : ℕ) (b : Bool) → nat_lt n count ≡ b → cond b n 0 < count
    by_test n true is = grind arith
    by_test n false is = some

    by_answer : (o : Option ℕ) → below_or_zero count o < count
    by_answer None = some
    by_answer (Some n) = by_test n (nat_lt n count) refl

-- the place at which a list has the first element that passes a test
record Place {A : Type 0} (test : A → Bool) (xs : List A) : Type 0 where
  at : ℕ
  element : A
  first : position test xs ≡ Some at
  has : slice_get xs at ≡ Some element
  passes : test element ≡ true

-- position, with its length in the way
place_from : {A : Type 0} (test : A → Bool) (xs : List A) (k : ℕ) (x : A) → slice_get xs k ≡ Some x → test x ≡ true
    → (n : ℕ) × (position_or_len test xs ≡ n) × (y : A) × (slice_get xs n ≡ Some y) × (test y ≡ true)
place_from test [] k x e t = absurd (cc)
place_from {A} test (z ∷ zs) k x e t = by_test (test z) refl (λ j g. place_from test zs j x g t) k e
  where
    by_test : (b : Bool) → test z ≡ b
        → ((j : ℕ) → slice_get zs j ≡ Some x → (n : ℕ) × (position_or_len test zs ≡ n) × (y : A) × (slice_get zs n ≡ Some y) × (test y ≡ true))
        → (j : ℕ) → slice_get (z ∷ zs) j ≡ Some x
        → (n : ℕ) × (position_or_len test (z ∷ zs) ≡ n) × (y : A) × (slice_get (z ∷ zs) n ≡ Some y) × (test y ≡ true)
    by_test true is below j g = (0, ap (λ b. cond (not b) (1 + position_or_len test zs) 0) is, z, refl, is)
    by_test false is below zero g = let same : z ≡ x = cc in absurd (false≢true (sym is ∙ ap test same ∙ t))
    by_test false is below (suc j) g =
        let r = below j g in (
          suc r.0,
          ap (λ b. cond (not b) (1 + position_or_len test zs) 0) is ∙ (let h : 1 + position_or_len test zs ≡ suc r.0 = let l = r.1 in omega arith in h),
          r.2,
          r.3,
          r.4,
        )

within_list : {A : Type 0} (xs : List A) (n : ℕ) (y : A) → slice_get xs n ≡ Some y → nat_lt n (length xs) ≡ true
within_list [] n y e = absurd (cc)
within_list (x ∷ xs) zero y e = grind arith
within_list (x ∷ xs) (suc n) y e = let h : nat_lt n (length xs) ≡ true = within_list xs n y e in grind arith

place_of : {A : Type 0} (test : A → Bool) (xs : List A) (k : ℕ) (x : A) → slice_get xs k ≡ Some x → test x ≡ true → Place test xs
place_of test xs k x e t =
    let r = place_from test xs k x e t in
    let at : slice_get xs (position_or_len test xs) ≡ Some r.2 = ap (slice_get xs) r.1 ∙ r.3 in
    record {
      at = position_or_len test xs;
      element = r.2;
      first = ap (λ b. cond b (Some (position_or_len test xs)) None) (within_list xs (position_or_len test xs) r.2 at);
      has = at;
      passes = r.4;
    }

-- labels are the same where they are told to be

same_itself : (l : Label) → same_label l l ≡ true
same_itself (Local p) = eq-eqb p p refl
same_itself (Pair p a q b) =
    and_from _ _ (and_from _ _ (and_from _ _ (eq-eqb p p refl) (eq-eqb a a refl)) (eq-eqb q q refl)) (eq-eqb b b refl)
same_itself (Wake p a) = and_from _ _ (eq-eqb p p refl) (eq-eqb a a refl)
same_itself (Join p) = eq-eqb p p refl
same_itself Advance = refl

same_is : (l m : Label) → same_label l m ≡ true → m ≡ l
same_is (Local p) (Local q) e = ap Local (sym (eqb-true p q e))
same_is (Pair p a q b) (Pair r c s d) e =
    let h = and_parts _ _ e in
    let g = and_parts _ _ h.0 in
    let f = and_parts _ _ g.0 in
    let ps : p ≡ r = eqb-true p r f.0 in
    let as_ : a ≡ c = eqb-true a c f.1 in
    let qs : q ≡ s = eqb-true q s g.1 in
    let bs : b ≡ d = eqb-true b d h.1 in
    λ i. Pair (sym ps i) (sym as_ i) (sym qs i) (sym bs i)
same_is (Wake p a) (Wake q b) e =
    let h = and_parts _ _ e in
    let ps : p ≡ q = eqb-true p q h.0 in
    let as_ : a ≡ b = eqb-true a b h.1 in
    λ i. Wake (sym ps i) (sym as_ i)
same_is (Join p) (Join q) e = ap Join (sym (eqb-true p q e))
same_is Advance Advance e = refl
same_is _ _ e = absurd (false≢true e)

-- a policy that answers a number wherever it is a choice
abbrev pub Answers : Pick → ℕ → ℕ → Type 0
Answers pick question n = (count : ℕ) → nat_lt n count ≡ true → pick question count ≡ n

-- the two numbers of an enabled label: a policy that answers them picks it
record Numbered (config : Config) (label : Label) : Type 0 where
  m : ℕ
  n : ℕ
  are : numbers_of config label ≡ m ∷ n ∷ []
  picked : (pick : Pick) (turn : ℕ) → Answers pick (2 * turn) m → Answers pick (2 * turn + 1) n → MayPick pick turn config label

numbers_of-option : (config : Config) (p : ℕ) (label : Label) → actor_of label ≡ Some p → numbers_of config label ≡ places_of config p label
numbers_of-option config p (Local q) e = let same : q ≡ p = cc in ap (λ r. places_of config r (Local q)) same
numbers_of-option config p (Pair q a r b) e = let same : q ≡ p = cc in ap (λ s. places_of config s (Pair q a r b)) same
numbers_of-option config p (Wake q a) e = let same : q ≡ p = cc in ap (λ r. places_of config r (Wake q a)) same
numbers_of-option config p (Join q) e = let same : q ≡ p = cc in ap (λ r. places_of config r (Join q)) same
numbers_of-option config p Advance e = absurd (cc)

-- what is picked of a list by the place of an element
picked_at : {A : Type 0} (pick : Pick) (question : ℕ) (xs : List A) (n : ℕ) (x : A) → slice_get xs n ≡ Some x → Answers pick question n
    → picked_from pick question xs ≡ Some x
picked_at pick question xs n x at answers = ap (slice_get xs) (answers (length xs) (within_list xs n x at)) ∙ at

numbered-option : (config : Config) (p k : ℕ) (label : Label) → slice_get (options config p) k ≡ Some label → Numbered config label
numbered-option config p k label e =
    let actor : Contains (actors config) p = is_actor config p k label e in
    let who : Place (λ q. q == p) (actors config) = place_of (λ q. q == p) (actors config) actor.0 p (at-contains (actors config) p actor) (eq-eqb p p refl) in
    let what : Place (same_label label) (options config p) = place_of (same_label label) (options config p) k label e (same_itself label) in
    let at_p : slice_get (actors config) who.at ≡ Some p = who.has ∙ ap Some (eqb-true who.element p who.passes) in
    let at_label : slice_get (options config p) what.at ≡ Some label = what.has ∙ ap Some (same_is label what.element what.passes) in
    record {
      m = who.at;
      n = what.at;
      are = numbers_of-option config p label (actor-option config p k label e) ∙ (λ i. both_places (who.first i) (what.first i));
      picked = λ pick turn h g.
          among pick turn (actors config) (picked_at pick (2 * turn) (actors config) who.at p at_p h)
          (picked_at pick (2 * turn + 1) (options config p) what.at label at_label g);
    }
  where
    among : (pick : Pick) (turn : ℕ) (ps : List ℕ) → picked_from pick (2 * turn) ps ≡ Some p → picked_option pick turn config p ≡ Some label
        → picked_among pick turn config ps ≡ Some label
    among pick turn [] h g = absurd (cc)
    among pick turn (q ∷ qs) h g = ap (option_and_then (picked_option pick turn config)) h ∙ g

numbered : (config : Config) (label : Label) → Contains (enabled config) label → Numbered config label
numbered config label c = by_cases (enabled-is config label c)
  where
    by_cases : IsEnabled config label → Numbered config label
    by_cases (an_option p k e) = numbered-option config p k label e
    by_cases (goes_on is none t due reach next) = record {
      m = 0;
      n = 0;
      are = ap (numbers_of config) is;
      picked = λ pick turn h g. ap (picked_among pick turn config) none ∙ next ∙ ap Some (sym is);
    }

-- a list of numbers answers them at their places

listed-answers : (numbers : List ℕ) (question n : ℕ) → slice_get numbers question ≡ Some n → Answers (listed numbers) question n
listed-answers numbers question n e count h = ap (below_or_zero count) e ∙ ap (λ b. cond b n 0) h

get_after : {A : Type 0} (xs ys : List A) (k : ℕ) → slice_get (xs ++ ys) (length xs + k) ≡ slice_get ys k
get_after [] ys k = ap (slice_get ys) (omega arith)
get_after (x ∷ xs) ys k = let e : length (x ∷ xs) + k ≡ suc (length xs + k) = omega arith in ap (slice_get (x ∷ xs ++ ys)) e ∙ get_after xs ys k

-- so a policy that answers a list picks the label whose numbers stand there
picked_next : (config : Config) (label : Label) (n : Numbered config label) (turn : ℕ) (before after : List ℕ) → length before ≡ 2 * turn
    → MayPick (listed (before ++ n.m ∷ n.n ∷ after)) turn config label
picked_next config label n turn before after so_many =
    n.picked (listed (before ++ n.m ∷ n.n ∷ after)) turn (listed-answers _ (2 * turn) n.m first) (listed-answers _ (2 * turn + 1) n.n second)
  where
    first : slice_get (before ++ n.m ∷ n.n ∷ after) (2 * turn) ≡ Some n.m
    first =
        let e : 2 * turn ≡ length before + 0 = omega arith in
        ap (slice_get (before ++ n.m ∷ n.n ∷ after)) e ∙ get_after before (n.m ∷ n.n ∷ after) 0

    second : slice_get (before ++ n.m ∷ n.n ∷ after) (2 * turn + 1) ≡ Some n.n
    second =
        let e : 2 * turn + 1 ≡ length before + 1 = omega arith in
        ap (slice_get (before ++ n.m ∷ n.n ∷ after)) e ∙ get_after before (n.m ∷ n.n ∷ after) 1

-- the first label that costs too much, where there is one
module _ (core : Core) (config : Config) (left : ℕ) where
  abbrev costs_too_much : Label → Bool
  costs_too_much l = is_spent (step core config l left)

  record FirstSpent (ls : List Label) : Type 0 where
    label : Label
    found : find costs_too_much ls ≡ Some label
    among : Contains ls label
    spent : step core config label left ≡ outcome.Spent

  further : (x : Label) (xs : List Label) → costs_too_much x ≡ false → FirstSpent xs → FirstSpent (x ∷ xs)
  further x xs cheap r = record {
    label = r.label;
    found = ap (λ b. cond b (Some x) (find costs_too_much xs)) cheap ∙ r.found;
    among = contains-at (x ∷ xs) (suc r.among.0) r.label (at-contains xs r.label r.among);
    spent = r.spent;
  }

  is_first : (x : Label) (xs : List Label) → step core config x left ≡ outcome.Spent → FirstSpent (x ∷ xs)
  is_first x xs is = record {
    label = x;
    found = ap (λ o. cond (is_spent o) (Some x) (find costs_too_much xs)) is;
    among = contains-at (x ∷ xs) 0 x refl;
    spent = is;
  }

  spent_found : (ls : List Label) (k : ℕ) (l : Label) → slice_get ls k ≡ Some l → step core config l left ≡ outcome.Spent → FirstSpent ls
  spent_found [] k l e s = absurd (cc)
  spent_found (x ∷ xs) zero l e s = let same : l ≡ x = cc in is_first x xs (ap (λ y. step core config y left) (sym same) ∙ s)
  spent_found (x ∷ xs) (suc k) l e s = by_step (step core config x left) refl (spent_found xs k l e s)
    where
      by_step : (o : Outcome) → step core config x left ≡ o → FirstSpent xs → FirstSpent (x ∷ xs)
      by_step outcome.Spent is below = is_first x xs is
      by_step (Next new text rest) is below = further x xs (ap is_spent is) below
      by_step (Over verdict) is below = further x xs (ap is_spent is) below
      by_step outcome.Amiss is below = further x xs (ap is_spent is) below

-- a run of enabled labels is picked by numbers that end with its own

-- what its labels and its end have, from a configuration on
abbrev numbers_from : Core → Ending → ℕ → Config → ℕ → List Label → List ℕ
numbers_from core end turn config left labels = along numbers_told (last_numbers core end.verdict) core turn config left labels

-- and after a step
abbrev numbers_after : Core → Ending → ℕ → List Label → Outcome → List ℕ
numbers_after core end turn labels s = told_after (λ new rest. numbers_from core end (suc turn) new rest labels) s

abbrev PicksAfter : Core → ℕ → Config → List Label → Ending → List ℕ → Outcome → Type 0
PicksAfter core turn config labels end numbers s = After (λ new rest. Runs (MayPick (listed numbers)) core (suc turn) new rest labels end) s config labels end

at_end : (core : Core) (turn : ℕ) (config : Config) (left : ℕ) (end : Ending) (before : List ℕ) → length before ≡ 2 * turn
    → IsCutOff (MayDerive turn config) core config left end
    → IsCutOff (MayPick (listed (before ++ numbers_from core end turn config left [])) turn config) core config left end
at_end core turn config left end before so_many cut = record {
  label = f.label;
  may_come = subst (λ (xs : List ℕ). MayPick (listed (before ++ xs)) turn config f.label) (sym own) (picked_next config f.label n turn before [] so_many);
  spent = f.spent;
  out_of_steps = cut.out_of_steps;
}
  where
    f : FirstSpent core config left (enabled config)
    f = spent_found core config left (enabled config) cut.may_come.0 cut.label (at-contains (enabled config) cut.label cut.may_come) cut.spent

    n : Numbered config f.label
    n = numbered config f.label f.among

    own : numbers_from core end turn config left [] ≡ n.m ∷ n.n ∷ []
    own =
        along-none numbers_told (last_numbers core end.verdict) core turn config left
        ∙ ap (λ (e : Ending). last_numbers core e.verdict config left) cut.out_of_steps ∙ ap (numbers_of_some config) f.found ∙ n.are

own_from : (core : Core) (turn : ℕ) (config : Config) (left : ℕ) (labels : List Label) (end : Ending) → Runs MayDerive core turn config left labels end
    → (before : List ℕ) → length before ≡ 2 * turn
    → Runs (MayPick (listed (before ++ numbers_from core end turn config left labels))) core turn config left labels end
unfolding Runs
own_from core turn config left [] end (inl rests) before so_many = inl rests
own_from core turn config left [] end (inr cut) before so_many = inr (at_end core turn config left end before so_many cut)
own_from core turn config left (label ∷ labels) end r before so_many =
    by_outcome (step core config label left) refl r.1 (λ new rest h. own_from core (suc turn) new rest labels end h)
  where
    n : Numbered config label
    n = numbered config label r.0

    own : (s : Outcome) → step core config label left ≡ s → numbers_from core end turn config left (label ∷ labels) ≡ n.m ∷ n.n ∷ numbers_after core end turn labels s
    own s is =
        along-step numbers_told (last_numbers core end.verdict) core turn config left label labels s is
        ∙ ap (λ xs. xs ++ told_after (λ new rest. numbers_from core end (suc turn) new rest labels) s) n.are

    picks : (s : Outcome) → step core config label left ≡ s
        → MayPick (listed (before ++ numbers_from core end turn config left (label ∷ labels))) turn config label
    picks s is =
        subst (λ (xs : List ℕ). MayPick (listed (before ++ xs)) turn config label) (sym (own s is)) (picked_next config label n turn before (numbers_after core end turn labels s) so_many)

    by_outcome : (s : Outcome) → step core config label left ≡ s → After (λ new rest. Runs MayDerive core (suc turn) new rest labels end) s config labels end
        → ((new : Config) (rest : ℕ) → Runs MayDerive core (suc turn) new rest labels end → (front : List ℕ) → length front ≡ 2 * suc turn
        → Runs (MayPick (listed (front ++ numbers_from core end (suc turn) new rest labels))) core (suc turn) new rest labels end)
        → Runs (MayPick (listed (before ++ numbers_from core end turn config left (label ∷ labels)))) core turn config left (label ∷ labels) end
    by_outcome (Next new text rest) is a later =
        let longer : length (before ++ n.m ∷ n.n ∷ []) ≡ 2 * suc turn = simp length-append (omega arith) in
        let whole : (before ++ n.m ∷ n.n ∷ []) ++ numbers_from core end (suc turn) new rest labels ≡ before ++ numbers_from core end turn config left (label ∷ labels)
        = append_assoc before (n.m ∷ n.n ∷ []) (numbers_from core end (suc turn) new rest labels) ∙ ap (λ xs. before ++ xs) (sym (own (Next new text rest) is)) in
        let rest_runs = subst (λ (xs : List ℕ). Runs (MayPick (listed xs)) core (suc turn) new rest labels end) whole
        (later new rest a (before ++ n.m ∷ n.n ∷ []) longer) in
        (picks (Next new text rest) is, subst (λ (s : Outcome). PicksAfter core turn config labels end (before ++ numbers_from core end turn config left (label ∷ labels)) s) (sym is) rest_runs)
    by_outcome (Over verdict) is a later = (picks (Over verdict) is, subst (λ (s : Outcome). PicksAfter core turn config labels end (before ++ numbers_from core end turn config left (label ∷ labels)) s) (sym is) a)
    by_outcome outcome.Spent is a later = absurd a
    by_outcome outcome.Amiss is a later = absurd a

own_numbers : (core : Core) (start : Beginning) (bound : ℕ) (told : Told) → Derivation core start bound told
    → Picked core start (listed (picks_of core start bound told)) bound told
own_numbers core (Begins config) bound told r = (own_from core 0 config bound told.labels told.ending r.0 [] refl, r.1)
own_numbers core (Breaks end) bound told r = r
own_numbers core beginning.Amiss bound told r = r

pub own_numbers_pick : (core : Core) (start : Beginning) (bound : ℕ) (told : Told) → Derivation core start bound told
    → PicksOnly core start (listed (picks_of core start bound told)) bound told
own_numbers_pick core start bound told r =
    picks_only core start (listed (picks_of core start bound told)) bound told (own_numbers core start bound told r)
