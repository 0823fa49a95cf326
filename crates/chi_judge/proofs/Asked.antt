-- The first label that may come of which the answer is yes, as it is looked for.
use Rattle.std.proofs.Common.{◌≡◌, ◌≢◌, ℕ, ◌+◌, ◌<◌, ◌≤◌, ℤ, List, [], ◌∷◌, Option, Some, None, Bool, true, false, cond, length, drop, ◌⊎◌, inl, inr, sym, ◌∙◌, ap, subst, refl, arith}
use Rattle.std.specs.Prelude.{◌↔◌, IsTrue, bytes_eq, find}
use Rattle.std.specs.Borrow.{Bor}
use Rattle.std.specs.List.{slice_get, Contains, flat_map}
use Rattle.std.specs.Option.{option_or, option_to_list}
use Rattle.std.proofs.lemmas.List.{drop_more, drop_all}
use Rattle.std.proofs.lemmas.List.Folds.{find-append}
use Rattle.std.proofs.lemmas.Option.{slice_get_within, get_or_from_slice_get}
use Rattle.chi_core.specs.declared.label.Label.{Label}
use Rattle.chi_core.specs.declared.label.Label.TheVariants.{Advance}
use Rattle.chi_core.specs.declared.program.Core.{Core}
use Rattle.chi_core.specs.Config.{Config}
use Rattle.chi_core.specs.Meeting.{next_due, may_reach}
use Rattle.chi_core.specs.Options.{actors, advance_to, enabled, enabled_of, options}
use Rattle.chi_core_runs.proofs.Lists.{contains-at, some_below}
use Rattle.chi_plain.specs.Stage.{Stage, At, Ended, Lost, IsEventAt, TellsSpent, actors_at, enabled_at, options_at}
use Rattle.chi_core.specs.Picks.{is_spent}
use Rattle.chi_core.specs.Step.{Outcome, Next, Over, Amiss, step}
use Rattle.chi_core.specs.Step as outcome
use Rattle.chi_trace.specs.declared.event.Event.{Event}
use Rattle.chi_trace.specs.declared.filter.Filter.TheVariants.{All}
use Rattle.chi_trace.specs.Filters.{where_shown}
use Rattle.chi_trace.specs.Lines.{event_line}
use Rattle.chi_judge.specs.declared.asking.Question.{Question}
use Rattle.chi_judge.specs.declared.asking.Question.TheVariants as question
use Rattle.chi_judge.specs.declared.places.Found.{Found}
use Rattle.chi_log.specs.Reading.{has_line, has_line_at}
use Rattle.chi_log.proofs.Deciding.{found_passes, none_passes}
use Rattle.chi_judge.specs.Asking.{passes, HasLine, Passes, IsPlaced, IsFirstOf, IsFirst, IsTheLabel}
use Rattle.chi_judge.proofs.Placed.{placed_option, placed_advance}

-- answers

line_of_event : (core : Core) (stage : Stage) (turn : ℕ) (label : Label) (line text : List ℕ) (has : Bool) (e : Event)
    → IsEventAt core stage turn label e → text ≡ event_line e → has ≡ bytes_eq text line → HasLine core stage turn label line has
line_of_event core (At config) turn label line text has e told is compared =
    compared ∙ ap (λ t. bytes_eq t line) is ∙ sym (ap (has_line line) told)
line_of_event core (Ended end) turn label line text has e told is compared = absurd told
line_of_event core Lost turn label line text has e told is compared = absurd told

pub line_told : (core : Core) (stage : Stage) (turn : ℕ) (label : Label) (line text : List ℕ) (has : Bool) (made : Event)
    → (e : Event) × IsEventAt core stage turn label e × (Some made ≡ where_shown All e) → text ≡ event_line made → has ≡ bytes_eq text line
    → HasLine core stage turn label line has
line_told core stage turn label line text has made (e, told, shown) is compared =
    let same : made ≡ e = cc in
    line_of_event core stage turn label line text has e told (is ∙ ap event_line same) compared

pub spent_told : (core : Core) (stage : Stage) (label : Label) (left : ℕ) (spent : Bool) → TellsSpent core stage label left spent
    → Passes core stage (question.Spent left) label spent
spent_told core (At config) label left spent tells = by_step (step core config label left) spent refl tells
  where
    by_step : (o : Outcome) (b : Bool) → step core config label left ≡ o → IsTrue b ↔ (step core config label left ≡ outcome.Spent) → b ≡ is_spent (step core config label left)
    by_step outcome.Spent b is t = t.1 is ∙ sym (ap is_spent is)
    by_step (Next new text rest) true is t = absurd (let isnt : Next new text rest ≡ outcome.Spent = sym is ∙ t.0 refl in cc)
    by_step (Next new text rest) false is t = sym (ap is_spent is)
    by_step (Over verdict) true is t = absurd (let isnt : Over verdict ≡ outcome.Spent = sym is ∙ t.0 refl in cc)
    by_step (Over verdict) false is t = sym (ap is_spent is)
    by_step Amiss true is t = absurd (let isnt : Amiss ≡ outcome.Spent = sym is ∙ t.0 refl in cc)
    by_step Amiss false is t = sym (ap is_spent is)
spent_told core (Ended end) label left spent tells = absurd tells
spent_told core Lost label left spent tells = absurd tells

-- a list from a place on

drop_at : {A : Type 0} (xs : List A) (k : ℕ) (x : A) → slice_get xs k ≡ Some x → drop k xs ≡ x ∷ drop (k + 1) xs
drop_at xs k x at = drop_more xs k x (slice_get_within xs k x at) ∙ ap (λ y. y ∷ drop (k + 1) xs) (get_or_from_slice_get xs k x x at)

find_no : {A : Type 0} (test : A → Bool) (x : A) (xs : List A) → test x ≡ false → find test (x ∷ xs) ≡ find test xs
find_no test x xs isnt = ap (λ b. cond b (Some x) (find test xs)) isnt

find_yes : {A : Type 0} (test : A → Bool) (x : A) (xs : List A) → test x ≡ true → find test (x ∷ xs) ≡ Some x
find_yes test x xs is_so = ap (λ b. cond b (Some x) (find test xs)) is_so

module _ (core : Core) (q : Question) where
  -- the options of an instance, from number j on

  abbrev pub OptionsLeft : Stage → ℕ → ℕ → Type 0
  OptionsLeft (At config) p j = find (passes core config q) (options config p) ≡ find (passes core config q) (drop j (options config p))
  OptionsLeft (Ended end) p j = Unit {0}
  OptionsLeft Lost p j = Unit {0}

  pub options_first : (stage : Stage) (p : ℕ) → OptionsLeft stage p 0
  options_first (At config) p = refl
  options_first (Ended end) p = tt
  options_first Lost p = tt

  pub options_more : (stage : Stage) (p j : ℕ) (label : Label) (is_so : Bool) → slice_get (options_at stage p) j ≡ Some label → Passes core stage q label is_so
      → is_so ≡ false → OptionsLeft stage p j → OptionsLeft stage p (j + 1)
  options_more (At config) p j label is_so chosen answer isnt so_far =
      so_far ∙ ap (find (passes core config q)) (drop_at (options config p) j label chosen)
      ∙ find_no (passes core config q) label (drop (j + 1) (options config p)) (sym answer ∙ isnt)
  options_more (Ended end) p j label is_so chosen answer isnt so_far = tt
  options_more Lost p j label is_so chosen answer isnt so_far = tt

  same_actor : (config : Config) (i p r : ℕ) → slice_get (actors config) i ≡ Some p → slice_get (actors config) i ≡ Some r → p ≡ r
  same_actor config i p r e g = let both : Some p ≡ Some r = sym e ∙ g in cc

  pub options_found : (stage : Stage) (i p j : ℕ) (label : Label) (is_so : Bool) → slice_get (actors_at stage) i ≡ Some p → slice_get (options_at stage p) j ≡ Some label
      → Passes core stage q label is_so → is_so ≡ true → OptionsLeft stage p j → IsFirstOf core stage q i (Some (record { label = label; actor = i; option = j }))
  options_found (At config) i p j label is_so acts chosen answer is so_far = λ r acts'.
      let found : find (passes core config q) (options config p) ≡ Some label
      = so_far ∙ ap (find (passes core config q)) (drop_at (options config p) j label chosen)
      ∙ find_yes (passes core config q) label (drop (j + 1) (options config p)) (sym answer ∙ is) in
      (ap (λ s. find (passes core config q) (options config s)) (sym (same_actor config i p r acts acts')) ∙ found, placed_option (At config) i p j label acts chosen)
  options_found (Ended end) i p j label is_so acts chosen answer is so_far = absurd answer
  options_found Lost i p j label is_so acts chosen answer is so_far = absurd answer

  pub options_all : (stage : Stage) (i p n : ℕ) → slice_get (actors_at stage) i ≡ Some p → n ≡ length (options_at stage p) → OptionsLeft stage p n → IsFirstOf core stage q i None
  options_all (At config) i p n acts count so_far = λ r acts'.
      let all : length (options config p) ≤ n = omega (arith, count) in
      let found : find (passes core config q) (options config p) ≡ None = so_far ∙ ap (find (passes core config q)) (drop_all n (options config p) all) in
      (ap (λ s. find (passes core config q) (options config s)) (sym (same_actor config i p r acts acts')) ∙ found, tt)
  options_all (Ended end) i p n acts count so_far = absurd (cc)
  options_all Lost i p n acts count so_far = absurd (cc)

  -- the instances that have an option, from number i on

  abbrev pub ActorsLeft : Stage → ℕ → Type 0
  ActorsLeft (At config) i = find (passes core config q) (enabled config) ≡ find (passes core config q) (flat_map (options config) (drop i (actors config)))
  ActorsLeft (Ended end) i = Unit {0}
  ActorsLeft Lost i = Unit {0}

  pub actors_first : (stage : Stage) (n : ℕ) → n ≡ length (actors_at stage) → n ≢ 0 → ActorsLeft stage 0
  actors_first (At config) n count some = ap (find (passes core config q)) (by_actors (actors config) (λ e. some (count ∙ ap length e)))
    where
      by_actors : (ps : List ℕ) → ps ≢ [] → enabled_of config ps ≡ flat_map (options config) ps
      by_actors [] h = absurd (h refl)
      by_actors (p ∷ ps) h = refl
  actors_first (Ended end) n count some = tt
  actors_first Lost n count some = tt

  actors_next : (config : Config) (i p : ℕ) → slice_get (actors config) i ≡ Some p
      → find (passes core config q) (flat_map (options config) (drop i (actors config)))
      ≡ option_or (find (passes core config q) (options config p)) (find (passes core config q) (flat_map (options config) (drop (i + 1) (actors config))))
  actors_next config i p acts =
      ap (λ ps. find (passes core config q) (flat_map (options config) ps)) (drop_at (actors config) i p acts)
      ∙ find-append (passes core config q) (options config p) (flat_map (options config) (drop (i + 1) (actors config)))

  pub actors_more : (stage : Stage) (i n : ℕ) → n ≡ length (actors_at stage) → i < n → IsFirstOf core stage q i None → ActorsLeft stage i → ActorsLeft stage (i + 1)
  actors_more (At config) i n count within none so_far =
      let there = some_below (actors config) i (omega (arith, count, within)) in
      so_far ∙ actors_next config i there.0 there.1
      ∙ ap (λ o. option_or o (find (passes core config q) (flat_map (options config) (drop (i + 1) (actors config))))) (none there.0 there.1).0
  actors_more (Ended end) i n count within none so_far = tt
  actors_more Lost i n count within none so_far = tt

  pub actors_found : (stage : Stage) (i n : ℕ) (f : Found) → n ≡ length (actors_at stage) → i < n → IsFirstOf core stage q i (Some f) → ActorsLeft stage i → IsFirst core stage q (Some f)
  actors_found (At config) i n f count within found so_far =
      let there = some_below (actors config) i (omega (arith, count, within)) in
      let it = found there.0 there.1 in (
        so_far ∙ actors_next config i there.0 there.1
            ∙ ap (λ o. option_or o (find (passes core config q) (flat_map (options config) (drop (i + 1) (actors config))))) it.0,
        it.1,
      )
  actors_found (Ended end) i n f count within found so_far = absurd found
  actors_found Lost i n f count within found so_far = absurd found

  pub actors_all : (stage : Stage) (n : ℕ) → n ≡ length (actors_at stage) → ActorsLeft stage n → IsFirst core stage q None
  actors_all (At config) n count so_far =
      let all : length (actors config) ≤ n = omega (arith, count) in
      (so_far ∙ ap (λ ps. find (passes core config q) (flat_map (options config) ps)) (drop_all n (actors config) all), tt)
  actors_all (Ended end) n count so_far = refl
  actors_all Lost n count so_far = refl

  -- Advance, where no instance has an option

  none_of : {A : Type 0} (xs : List A) → length xs ≡ 0 → xs ≡ []
  none_of [] e = refl
  none_of (x ∷ xs) e = absurd (omega arith)

  is_advance : (config : Config) → length (actors config) ≡ 0 → (enabled config ≡ []) ⊎ (enabled config ≡ Advance ∷ [])
  is_advance config none = by_due (next_due config) (ap (enabled_of config) (none_of (actors config) none))
    where
      by_reach : (t : ℤ) (b : Bool) → enabled config ≡ option_to_list (cond b (Some Advance) None) → (enabled config ≡ []) ⊎ (enabled config ≡ Advance ∷ [])
      by_reach t true e = inr e
      by_reach t false e = inl e

      by_due : (o : Option ℤ) → enabled config ≡ option_to_list (advance_to config o) → (enabled config ≡ []) ⊎ (enabled config ≡ Advance ∷ [])
      by_due None e = inl e
      by_due (Some t) e = by_reach t (may_reach config.until t) e

  can_then : (config : Config) (can : Bool) → IsTrue can ↔ Contains (enabled config) Advance → enabled config ≡ Advance ∷ [] → can ≡ true
  can_then config can tells e =
      tells.1 (contains-at (enabled config) 0 Advance (ap (λ ls. slice_get ls 0) e))

  cannot_then : (config : Config) (can : Bool) → IsTrue can ↔ Contains (enabled config) Advance → enabled config ≡ [] → can ≡ true → ⊥
  cannot_then config can tells e is =
      let c : Contains [] Advance = subst (λ ls. Contains ls Advance) e (tells.0 is) in
      let h : c.0 < 0 = c.1 in omega arith

  pub advance_never : (stage : Stage) (can : Bool) → length (actors_at stage) ≡ 0 → IsTrue can ↔ Contains (enabled_at stage) Advance → can ≡ false → IsFirst core stage q None
  advance_never (At config) can none tells is = by (is_advance config none)
    where
      by : (enabled config ≡ []) ⊎ (enabled config ≡ Advance ∷ []) → IsFirst core (At config) q None
      by (inl e) = (ap (find (passes core config q)) e, tt)
      by (inr e) = absurd (let isnt : true ≡ false = sym (can_then config can tells e) ∙ is in cc)
  advance_never (Ended end) can none tells is = refl
  advance_never Lost can none tells is = refl

  pub advance_yes : (stage : Stage) (can is_so : Bool) → length (actors_at stage) ≡ 0 → IsTrue can ↔ Contains (enabled_at stage) Advance → can ≡ true
      → Passes core stage q Advance is_so → is_so ≡ true → IsFirst core stage q (Some (record { label = Advance; actor = 0; option = 0 }))
  advance_yes (At config) can is_so none tells is answer so = by (is_advance config none)
    where
      by : (enabled config ≡ []) ⊎ (enabled config ≡ Advance ∷ []) → IsFirst core (At config) q (Some (record { label = Advance; actor = 0; option = 0 }))
      by (inl e) = absurd (cannot_then config can tells e is)
      by (inr e) = (
        ap (find (passes core config q)) e ∙ find_yes (passes core config q) Advance [] (sym answer ∙ so),
        placed_advance (At config) can tells is,
      )
  advance_yes (Ended end) can is_so none tells is answer so = absurd answer
  advance_yes Lost can is_so none tells is answer so = absurd answer

  pub advance_no : (stage : Stage) (can is_so : Bool) → length (actors_at stage) ≡ 0 → IsTrue can ↔ Contains (enabled_at stage) Advance → can ≡ true
      → Passes core stage q Advance is_so → is_so ≡ false → IsFirst core stage q None
  advance_no (At config) can is_so none tells is answer so = by (is_advance config none)
    where
      by : (enabled config ≡ []) ⊎ (enabled config ≡ Advance ∷ []) → IsFirst core (At config) q None
      by (inl e) = absurd (cannot_then config can tells e is)
      by (inr e) = (ap (find (passes core config q)) e ∙ find_no (passes core config q) Advance [] (sym answer ∙ so), tt)
  advance_no (Ended end) can is_so none tells is answer so = refl
  advance_no Lost can is_so none tells is answer so = refl

pub ruleset answering = (line_told, spent_told)

pub ruleset optioning = (options_first, options_more, options_found, options_all)

pub ruleset acting = (actors_first, actors_more, actors_found, actors_all)

pub ruleset advancing = (advance_never, advance_yes, advance_no)

-- what is found

module _ (core : Core) (turn : ℕ) (line : Bor (List ℕ)) where
  pub label_guessed : (stage : Stage) (f : Found) (is_so : Bool) → IsPlaced stage f → Passes core stage (question.Line turn line) f.label is_so → is_so ≡ true
      → IsTheLabel core stage turn line.now (Some f)
  label_guessed (At config) f is_so placed answer is = (placed, sym answer ∙ is)
  label_guessed (Ended end) f is_so placed answer is = absurd placed
  label_guessed Lost f is_so placed answer is = absurd placed

  pub label_first : (stage : Stage) (found : Option Found) → IsFirst core stage (question.Line turn line) found → IsTheLabel core stage turn line.now found
  label_first (At config) None first = λ label may.
      none_passes (has_line_at core turn config line.now) (enabled config) label first.0 may
  label_first (At config) (Some f) first = (first.1, (found_passes (has_line_at core turn config line.now) (enabled config) f.label first.0).0)
  label_first (Ended end) found first = first
  label_first Lost found first = first

pub ruleset labelling = (label_guessed, label_first)
