-- Whether an instance waits for itself: it is found among those that are reached from it.
use Rattle.std.proofs.Common.{◌≡◌, ℕ, ◌<◌, Bool, true, false, List, [], Some, None, length, get_or, refl, sym, ap, ◌∙◌, subst, eqb}
use Rattle.std.specs.List.{Contains, list_any, slice_get}
use Rattle.std.proofs.lemmas.Bool.{false≢true}
use Rattle.chi_core.specs.Config.{Config, Instance}
use Rattle.chi_explain_waiting.specs.Finding.{IsMarked}
use Rattle.chi_explain_waiting.specs.Joins.{through, waited, waited_by, waited_in}
use Rattle.chi_explain_waiting.proofs.Findings.{Round, any_in, has_mark, in_any, round_first, round_next}

pub waited-some : (config : Config) (p : ℕ) (i : Instance) (some : List ℕ) → slice_get config.instances p ≡ Some i → some ≡ waited_in config i.state
    → some ≡ waited config p
waited-some config p i some at is = is ∙ sym (ap (waited_by config) at)

pub waited-none : (config : Config) (p : ℕ) (some : List ℕ) → slice_get config.instances p ≡ None → some ≡ [] → some ≡ waited config p
waited-none config p some at is = is ∙ sym (ap (waited_by config) at)

pub ring_is : (step : ℕ → List ℕ) (p n m first : ℕ) (numbers : List ℕ) (marks : List Bool) (ring : Bool) → Round step p n first numbers
    → IsMarked numbers marks → n ≡ m → p < length marks → ring ≡ get_or marks p ring → ring ≡ list_any (λ q. eqb q p) (through step m p)
ring_is step p n m first numbers marks ring r k same l is =
    by_any (list_any (λ q. eqb q p) numbers) (list_any (λ q. eqb q p) reached) refl refl (has_mark numbers marks p ring k l is)
  where
    reached : List ℕ
    reached = through step m p

    to_reached : Contains numbers p → Contains reached p
    to_reached c = subst (λ (j : ℕ). Contains (through step j p) p) same (r.comes p c)

    from_reached : Contains reached p → Contains numbers p
    from_reached c = r.all p (subst (λ (j : ℕ). Contains (through step j p) p) (sym same) c)

    by_any : (a b : Bool) → list_any (λ q. eqb q p) numbers ≡ a → list_any (λ q. eqb q p) reached ≡ b → ring ≡ a → ring ≡ b
    by_any true b e f h = h ∙ sym (any_in reached p (to_reached (in_any numbers p e))) ∙ f
    by_any false false e f h = h
    by_any false true e f h = absurd (false≢true (sym e ∙ any_in numbers p (from_reached (in_any reached p f))))

pub ruleset rings = (waited-some, waited-none, ring_is, round_first, round_next)
