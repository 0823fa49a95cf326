-- The lines where instances stand, and those that they did last.
use Rattle.std.proofs.Common.{◌≡◌, ◌≢◌, ℕ, List, [], Option, Some, None, get_or, sym, ap, ◌∙◌, subst}
use Rattle.std.specs.Prelude.{IfSome, IsSomeAnd}
use Rattle.std.specs.List.{slice_get}
use Rattle.std.specs.Option.{option_map, unwrap_or}
use Rattle.std.proofs.lemmas.Option.{get_or_from_slice_get, none-some, unwrap_or-slice_get}
use Rattle.chi_core.specs.Config.{Config, Instance}
use Rattle.chi_core.specs.Step.{line_of}
use Rattle.chi_core.specs.Terms.{Item}
use Rattle.chi_core_frame.specs.Terms.{first_of}
use Rattle.chi_explain_waiting.specs.Whereabouts.{next_line}

pub line-may : (config : Config) (p : ℕ) (i : Instance) (item : Item) → slice_get config.instances p ≡ Some i → first_of i.term ≡ Some item
    → IsSomeAnd (slice_get config.instances p) (λ j. first_of j.term ≢ None)
line-may config p i item at first =
    subst (λ (o : Option Instance). IsSomeAnd o (λ j. first_of j.term ≢ None)) (sym at) (λ e. none-some item (sym e ∙ first))

pub line-next : (config : Config) (p line : ℕ) (i : Instance) → slice_get config.instances p ≡ Some i
    → IfSome (slice_get config.instances p) (λ j. option_map line_of (first_of j.term) ≡ Some line) → Some line ≡ next_line i
line-next config p line i at h =
    sym (subst (λ (o : Option Instance). IfSome o (λ j. option_map line_of (first_of j.term) ≡ Some line)) at h)

pub line-none : (i : Instance) → i.term ≡ [] → None ≡ next_line i
line-none i e = sym (ap (λ t. option_map line_of (first_of t)) e)

pub last-some : (lines : List ℕ) (p line : ℕ) → slice_get lines p ≡ Some line → line ≡ get_or lines p 0
last-some lines p line at = sym (get_or_from_slice_get lines p line 0 at)

pub last-none : (lines : List ℕ) (p : ℕ) → slice_get lines p ≡ None → 0 ≡ get_or lines p 0
last-none lines p at = ap (λ o. unwrap_or o 0) (sym at) ∙ unwrap_or-slice_get lines p 0

pub ruleset lines = (line-may, line-next, line-none, last-some, last-none)
