-- What may come next: an option of one instance, or Advance where there is none.
use Rattle.std.proofs.Common.{◌≡◌, ◌≢◌, ℕ, zero, suc, ◌<◌, ℤ, List, [], ◌∷◌, Option, Some, None, Bool, true, false, cond, length, sym, ◌∙◌, ap, subst, refl, arith}
use Rattle.std.specs.List.{slice_get, Contains, flat_map}
use Rattle.std.specs.Option.{option_to_list}
use Rattle.chi_core.specs.declared.label.Label.{Label}
use Rattle.chi_core.specs.declared.label.Label.TheVariants.{Advance}
use Rattle.chi_core.specs.Config.{Config}
use Rattle.chi_core.specs.Meeting.{next_due, may_reach}
use Rattle.chi_core.specs.Options.{options, actors, advance_to, advance, enabled_of, enabled}
use Rattle.chi_core_runs.specs.Once.{OptionOfOne}
use Rattle.chi_core_runs.proofs.Lists.{contains-at, at-contains, Joined, joined-at, contains-joined, once-of}
use Rattle.chi_core_runs.proofs.Options.{actor_of, actor-option, distinct-options, distinct-actors, is_actor}

-- an enabled label is an option of an instance, or Advance
pub data IsEnabled (config : Config) (label : Label) : Type 0 where
  an_option : (p k : ℕ) → slice_get (options config p) k ≡ Some label → IsEnabled config label
  goes_on : label ≡ Advance → actors config ≡ [] → (t : ℤ) → next_due config ≡ Some t → may_reach config.until t ≡ true → advance config ≡ Some Advance
      → IsEnabled config label

first-only : {A : Type 0} (x y : A) → Contains (x ∷ []) y → y ≡ x
first-only x y (zero, within, at) = sym at
first-only x y (suc k, within, at) = absurd (omega arith)

pub enabled-is : (config : Config) (label : Label) → Contains (enabled config) label → IsEnabled config label
enabled-is config label c = by_actors (actors config) refl c
  where
    by_reach : actors config ≡ [] → (t : ℤ) → next_due config ≡ Some t → (b : Bool) → may_reach config.until t ≡ b
        → Contains (option_to_list (cond b (Some Advance) None)) label → IsEnabled config label
    by_reach none t due true is c' =
        goes_on (first-only Advance label c') none t due is (ap (advance_to config) due ∙ ap (λ b. cond b (Some Advance) None) is)
    by_reach none t due false is c' = absurd (let h : c'.0 < 0 = c'.1 in omega arith)

    by_due : actors config ≡ [] → (o : Option ℤ) → next_due config ≡ o → Contains (option_to_list (advance_to config o)) label → IsEnabled config label
    by_due none None due c' = absurd (let h : c'.0 < 0 = c'.1 in omega arith)
    by_due none (Some t) due c' = by_reach none t due (may_reach config.until t) refl c'

    by_actors : (ps : List ℕ) → actors config ≡ ps → Contains (enabled_of config ps) label → IsEnabled config label
    by_actors [] none c' = by_due none (next_due config) refl c'
    by_actors (p ∷ ps) some c' =
        let r : Joined (options config) (p ∷ ps) label = joined-at (options config) (p ∷ ps) c'.0 label (at-contains (flat_map (options config) (p ∷ ps)) label c') in
        an_option r.from r.inner r.has

pub once : (config : Config) (label : Label) → Contains (enabled config) label → label ≢ Advance → OptionOfOne config label
once config label c other = by_cases (enabled-is config label c)
  where
    by_cases : IsEnabled config label → OptionOfOne config label
    by_cases (goes_on is none t due reach next) = absurd (other is)
    by_cases (an_option p k e) = record {
      actor = p;
      among = once-of (actors config) p (distinct-actors config) (is_actor config p k label e);
      once = once-of (options config p) label (distinct-options config p) (contains-at (options config p) k label e);
      no_other = λ q o.
          let its : actor_of label ≡ Some q = actor-option config q o.0 label (at-contains (options config q) label o) in
          let own : actor_of label ≡ Some p = actor-option config p k label e in
          cc;
    }

pub may_come : (config : Config) (p : ℕ) (label : Label) → Contains (options config p) label → Contains (enabled config) label × (label ≢ Advance)
may_come config p label c = (by_actors (actors config) (is_actor config p c.0 label at), other)
  where
    at : slice_get (options config p) c.0 ≡ Some label
    at = at-contains (options config p) label c

    by_actors : (ps : List ℕ) → Contains ps p → Contains (enabled_of config ps) label
    by_actors [] m = absurd (let h : m.0 < 0 = m.1 in omega arith)
    by_actors (q ∷ qs) m = contains-joined (options config) (q ∷ qs) m.0 p label (at-contains (q ∷ qs) p m) c

    other : label ≡ Advance → ⊥
    other is =
        let own : actor_of label ≡ Some p = actor-option config p c.0 label at in
        let P : Label → Type 0 = λ l. actor_of l ≡ Some p in
        let h : None ≡ Some p = subst P is own in
        cc

-- where no instance is among those with an option, none has one
pub no_option : (config : Config) → actors config ≡ [] → (p : ℕ) → options config p ≡ []
no_option config none p = by_options (options config p) refl
  where
    by_options : (ls : List Label) → options config p ≡ ls → options config p ≡ []
    by_options [] is = is
    by_options (l ∷ ls) is =
        let c : Contains (actors config) p = is_actor config p 0 l (ap (λ xs. slice_get xs 0) is) in
        absurd (let h : c.0 < length (actors config) = c.1 in let n : length (actors config) ≡ 0 = ap length none in omega arith)

pub advance_last : (config : Config) → Contains (enabled config) Advance → actors config ≡ []
advance_last config c = by_cases (enabled-is config Advance c)
  where
    by_cases : IsEnabled config Advance → actors config ≡ []
    by_cases (goes_on is none t due reach next) = none
    by_cases (an_option p k e) = absurd (let h : None ≡ Some p = actor-option config p k Advance e in cc)

pub advance_is_last : (config : Config) → Contains (enabled config) Advance → (p : ℕ) → options config p ≡ []
advance_is_last config c = no_option config (advance_last config c)
