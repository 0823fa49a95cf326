-- What a policy picks: an enabled label, where there is one, and so exactly one run.
use Rattle.std.proofs.Common.{◌≡◌, ℕ, zero, suc, ◌+◌, ◌*◌, ◌^◌, ◌<◌, ◌≤◌, List, [], ◌∷◌, Option, Some, None, true, length, inl, inr, sym, ◌∙◌, ap, subst, refl, arith}
use Rattle.std.specs.Prelude.{nat_lt}
use Rattle.std.specs.List.{Contains}
use Rattle.std.specs.Option.{option_and_then, option_to_list}
use Rattle.chi_core.specs.declared.label.Label.{Label}
use Rattle.chi_core.specs.declared.program.Core.{Core}
use Rattle.chi_core.specs.declared.verdict.Verdict.{Verdict}
use Rattle.chi_core.specs.declared.verdict.Verdict.TheVariants.{OutOfSteps}
use Rattle.chi_core.specs.Beginning.{Beginning, Begins, Breaks}
use Rattle.chi_core.specs.Beginning as beginning
use Rattle.chi_core.specs.Config.{Config}
use Rattle.chi_core.specs.Kinded.{Kinded}
use Rattle.chi_core.specs.Options.{Ending, ending_at, numbers, options, actors, advance, enabled_of, enabled, at_rest, ending_of}
use Rattle.chi_core.specs.Picks.{Pick, IsLawful, picked_from, picked_option, picked_among, MayPick, PicksFrom, Picked}
use Rattle.chi_core.specs.Runs.{nothing, along, text_told, After, IsAtRest, Runs, MayDerive, Told, Derivation}
use Rattle.chi_core.specs.Step as outcome
use Rattle.chi_core.specs.Step.{Outcome, Next, Over, step}
use Rattle.chi_core_kinds.specs.Keeps.{BeginsKinded, BeginsAlways, GoesKinded, KeepsKinded}
use Rattle.chi_core_runs.specs.Picked.{IsBeginning, PicksOnly}
use Rattle.chi_core_runs.specs.Turns.{told_first, told_last}
use Rattle.chi_core_runs.proofs.Bounds.{few_actors, few_options}
use Rattle.chi_core_runs.proofs.Lists.{contains-at, contains-joined, kept, some_below}
use Rattle.chi_core_runs.proofs.Time.{each_costs}
use Rattle.chi_core_runs.proofs.Turns.{from-on, from-over, from-cut, from-rest, runs-map}

-- what is picked of two lists in turn
option_parts : (pick : Pick) (turn : ℕ) (config : Config) (label : Label) (o : Option ℕ)
    → option_and_then (picked_option pick turn config) o ≡ Some label → (p : ℕ) × (o ≡ Some p) × (picked_option pick turn config p ≡ Some label)
option_parts pick turn config label None e = absurd (cc)
option_parts pick turn config label (Some p) e = (p, refl, e)

-- a picked label is enabled
pub picked-enabled : (pick : Pick) (turn : ℕ) (config : Config) (label : Label) → MayPick pick turn config label → MayDerive turn config label
picked-enabled pick turn config label e = by_actors (actors config) e
  where
    by_advance : (o : Option Label) → o ≡ Some label → Contains (option_to_list o) label
    by_advance None e' = absurd (cc)
    by_advance (Some l) e' = (0, omega arith, cc)

    by_actors : (ps : List ℕ) → picked_among pick turn config ps ≡ Some label → Contains (enabled_of config ps) label
    by_actors [] e' = by_advance (advance config) e'
    by_actors (p ∷ ps) e' =
        let r : (q : ℕ) × (picked_from pick (2 * turn) (p ∷ ps) ≡ Some q) × (picked_option pick turn config q ≡ Some label)
        = option_parts pick turn config label (picked_from pick (2 * turn) (p ∷ ps)) e' in
        contains-joined (options config) (p ∷ ps) _ r.0 label r.1 (contains-at (options config r.0) _ label r.2)

pub picked-derived : (core : Core) (start : Beginning) (pick : Pick) (bound : ℕ) (told : Told)
    → Picked core start pick bound told → Derivation core start bound told
picked-derived core (Begins config) pick bound told r = (runs-map (picked-enabled pick) core 0 config bound told.labels told.ending r.0, r.1)
picked-derived core (Breaks end) pick bound told r = r
picked-derived core beginning.Amiss pick bound told r = r

-- A label has a step: it goes on, or ends the run, or costs more than is left.
data HasStep (core : Core) (config : Config) (label : Label) (left : ℕ) : Type 0 where
  goes : (new : Config) (text : List ℕ) (rest : ℕ) → step core config label left ≡ Next new text rest → rest < left → Kinded core new
      → HasStep core config label left
  ends : (verdict : Verdict) → step core config label left ≡ Over verdict → HasStep core config label left
  stops : step core config label left ≡ outcome.Spent → HasStep core config label left

has_step : (core : Core) → KeepsKinded core → (config : Config) (label : Label) (left : ℕ) → Kinded core config → Contains (enabled config) label
    → HasStep core config label left
has_step core keeps config label left kinded may = by_outcome (step core config label left) refl (keeps config kinded label may left)
  where
    by_outcome : (s : Outcome) → step core config label left ≡ s → GoesKinded core s → HasStep core config label left
    by_outcome (Next new text rest) is good = goes new text rest is (each_costs core config label new text rest left is) good
    by_outcome (Over verdict) is good = ends verdict is
    by_outcome outcome.Spent is good = stops is
    by_outcome outcome.Amiss is good = absurd good

-- a label that a policy picks
record PicksOne (pick : Pick) (turn : ℕ) (config : Config) : Type 0 where
  label : Label
  picked : MayPick pick turn config label

pub is_some_of : (n : ℕ) → nat_lt 0 n ≡ true → 0 < n
is_some_of zero e = absurd (cc)
is_some_of (suc n) e = omega arith

-- where an instance has an option, a lawful policy picks one
picks_option : (core : Core) (pick : Pick) → IsLawful pick → (turn : ℕ) → turn < 2 ^ 63 → (config : Config) → Kinded core config
    → (p : ℕ) (ps : List ℕ) → actors config ≡ p ∷ ps → PicksOne pick turn config
picks_option core pick lawful turn early config kinded p ps some =
    let few : length (p ∷ ps) < 2 ^ 64 = subst (λ (xs : List ℕ). length xs < 2 ^ 64) some (few_actors core config kinded) in
    let a = some_below (p ∷ ps) (pick (2 * turn) (length (p ∷ ps))) (lawful (2 * turn) (length (p ∷ ps)) (omega arith) (omega arith) few) in
    let at : picked_from pick (2 * turn) (actors config) ≡ Some a.0 = ap (picked_from pick (2 * turn)) some ∙ a.1 in
    let has : nat_lt 0 (length (options config a.0)) ≡ true
    = (kept (λ q. nat_lt 0 (length (options config q))) (numbers (length config.instances)) _ a.0 at).0 in
    let o = some_below (options config a.0) (pick (2 * turn + 1) (length (options config a.0)))
    (lawful (2 * turn + 1) (length (options config a.0)) (omega arith) (is_some_of _ has) (few_options core config kinded a.0)) in
    record {
      label = o.0;
      picked = ap (picked_among pick turn config) some ∙ ap (option_and_then (picked_option pick turn config)) a.1 ∙ o.1;
    }

-- a run that a policy picks
record PicksSome (core : Core) (pick : Pick) (turn : ℕ) (config : Config) (left : ℕ) : Type 0 where
  told : Told
  runs : PicksFrom core pick turn config left told

module _ (core : Core) (keeps : KeepsKinded core) (pick : Pick) (lawful : IsLawful pick) where
  -- the run from a configuration, where each shorter rest of the bound has one
  picks_here : (turn : ℕ) (config : Config) (left : ℕ) → turn < 2 ^ 63 → Kinded core config
      → ((new : Config) (rest : ℕ) → rest < left → Kinded core new → PicksSome core pick (suc turn) new rest)
      → PicksSome core pick turn config left
  picks_here turn config left early kinded below = by_actors (actors config) refl
    where
      by_step : (label : Label) → MayPick pick turn config label → HasStep core config label left → PicksSome core pick turn config left
      by_step label m (stops spent) = record {
        told = told_last (ending_at OutOfSteps config);
        runs = from-cut (MayPick pick) core turn config left label m spent;
      }
      by_step label m (ends verdict over) = record {
        told = told_first label [] (told_last (ending_at verdict config));
        runs = from-over (MayPick pick) core turn config left label verdict m over;
      }
      by_step label m (goes new text rest next costs stays) =
          let after : PicksSome core pick (suc turn) new rest = below new rest costs stays in
          record {
            told = told_first label text after.told;
            runs = from-on (MayPick pick) core turn config left label new text rest after.told m next after.runs;
          }

      by_one : PicksOne pick turn config → PicksSome core pick turn config left
      by_one o = by_step o.label o.picked (has_step core keeps config o.label left kinded (picked-enabled pick turn config o.label o.picked))

      by_advance : actors config ≡ [] → (o : Option Label) → advance config ≡ o → PicksSome core pick turn config left
      by_advance none None e =
          let none_enabled : enabled config ≡ [] = ap (enabled_of config) none ∙ ap option_to_list e in
          record {
            told = told_last (at_rest config);
            runs = from-rest (MayPick pick) core turn config left (at_rest config) (ap (λ ls. ending_of ls config) none_enabled);
          }
      by_advance none (Some label) e = by_one (record { label = label; picked = ap (picked_among pick turn config) none ∙ e })

      by_actors : (ps : List ℕ) → actors config ≡ ps → PicksSome core pick turn config left
      by_actors [] none = by_advance none (advance config) refl
      by_actors (p ∷ ps) some = by_one (picks_option core pick lawful turn early config kinded p ps some)

  -- the turns and what is left of the bound stay below 2 ^ 63 together
  picks_some : (n turn : ℕ) (config : Config) (left : ℕ) → left ≤ n → turn + left < 2 ^ 63 → Kinded core config → PicksSome core pick turn config left
  picks_some zero turn config left most early kinded = picks_here turn config left (omega arith) kinded (λ new rest h s. absurd (omega arith))
  picks_some (suc n) turn config left most early kinded =
      picks_here turn config left (omega arith) kinded (λ new rest h s. picks_some n (suc turn) new rest (omega arith) (omega arith) s)

  picks_from : (start : Beginning) → BeginsKinded core start → (bound : ℕ) → bound < 2 ^ 63 → (told : Told) × Picked core start pick bound told
  picks_from (Begins config) kinded bound small =
      let r : PicksSome core pick 0 config bound = picks_some bound 0 config bound (omega arith) (omega arith) kinded in (r.told, r.runs)
  picks_from (Breaks end) kinded bound small = (record { labels = []; ending = end; output = [] }, refl)
  picks_from beginning.Amiss kinded bound small = absurd kinded

-- where a run is at rest no label is picked
rests_unpicked : (pick : Pick) (turn : ℕ) (config : Config) (end : Ending) (label : Label) → IsAtRest config end → MayPick pick turn config label → ⊥
rests_unpicked pick turn config end label r m = by_enabled (enabled config) refl r
  where
    by_enabled : (ls : List Label) → enabled config ≡ ls → ending_of ls config ≡ Some end → ⊥
    by_enabled (l ∷ ls) e r' = cc
    by_enabled [] e r' =
        let c : Contains (enabled config) label = picked-enabled pick turn config label m in
        let l : length (enabled config) ≡ 0 = ap length e in
        let k = c.1 in omega arith

same_picked : (pick : Pick) (turn : ℕ) (config : Config) (l l' : Label) → MayPick pick turn config l → MayPick pick turn config l' → l ≡ l'
same_picked pick turn config l l' m m' = cc

-- after a step that costs too much, no run goes on
spent_stops : (R : Config → ℕ → Type 0) (core : Core) (config : Config) (label picked : Label) (left : ℕ) (labels : List Label) (end : Ending)
    → picked ≡ label → step core config picked left ≡ outcome.Spent → After R (step core config label left) config labels end → ⊥
spent_stops R core config label picked left labels end same spent a =
    let P : Outcome → Type 0 = λ s. After R s config labels end in
    subst P (ap (λ l. step core config l left) (sym same) ∙ spent) a

-- two runs that go on from one step are one, where those from each configuration are
after_one : (R : Config → ℕ → List Label → Ending → Type 0) (s : Outcome) (config : Config) (ls ls' : List Label) (end end' : Ending)
    → ((new : Config) (rest : ℕ) → R new rest ls end → R new rest ls' end' → (ls ≡ ls') × (end ≡ end'))
    → After (λ new rest. R new rest ls end) s config ls end → After (λ new rest. R new rest ls' end') s config ls' end'
    → (ls ≡ ls') × (end ≡ end')
after_one R (Next new text rest) config ls ls' end end' one a a' = one new rest a a'
after_one R (Over verdict) config ls ls' end end' one a a' = (a.0 ∙ sym a'.0, a.1 ∙ sym a'.1)
after_one R outcome.Spent config ls ls' end end' one a a' = absurd a
after_one R outcome.Amiss config ls ls' end end' one a a' = absurd a

longer : (l l' : Label) (ls ls' : List Label) (end end' : Ending) → l ≡ l' → (ls ≡ ls') × (end ≡ end') → (l ∷ ls ≡ l' ∷ ls') × (end ≡ end')
longer l l' ls ls' end end' same e = ((λ i. same i ∷ e.0 i), e.1)

-- two runs of the labels that one policy picks are one
runs_one : (core : Core) (pick : Pick) (turn : ℕ) (config : Config) (left : ℕ) (labels labels' : List Label) (end end' : Ending)
    → Runs (MayPick pick) core turn config left labels end → Runs (MayPick pick) core turn config left labels' end' → (labels ≡ labels') × (end ≡ end')
unfolding Runs
runs_one core pick turn config left [] [] end end' (inl r) (inl r') = (refl, let same : end ≡ end' = cc in same)
runs_one core pick turn config left [] [] end end' (inl r) (inr c') = absurd (rests_unpicked pick turn config end c'.label r c'.may_come)
runs_one core pick turn config left [] [] end end' (inr c) (inl r') = absurd (rests_unpicked pick turn config end' c.label r' c.may_come)
runs_one core pick turn config left [] [] end end' (inr c) (inr c') = (refl, c.out_of_steps ∙ sym c'.out_of_steps)
runs_one core pick turn config left [] (l' ∷ ls') end end' (inl r) s = absurd (rests_unpicked pick turn config end l' r s.0)
runs_one core pick turn config left [] (l' ∷ ls') end end' (inr c) s =
    absurd (spent_stops (λ new rest. Runs (MayPick pick) core (suc turn) new rest ls' end') core config l' c.label left ls' end'
    (same_picked pick turn config c.label l' c.may_come s.0) c.spent s.1)
runs_one core pick turn config left (l ∷ ls) [] end end' s (inl r) = absurd (rests_unpicked pick turn config end' l r s.0)
runs_one core pick turn config left (l ∷ ls) [] end end' s (inr c) =
    absurd (spent_stops (λ new rest. Runs (MayPick pick) core (suc turn) new rest ls end) core config l c.label left ls end
    (same_picked pick turn config c.label l c.may_come s.0) c.spent s.1)
runs_one core pick turn config left (l ∷ ls) (l' ∷ ls') end end' s s' =
    let R : Config → ℕ → List Label → Ending → Type 0 = λ new rest. Runs (MayPick pick) core (suc turn) new rest in
    let same : l ≡ l' = same_picked pick turn config l l' s.0 s'.0 in
    let P : Label → Type 0 = λ x. After (λ new rest. R new rest ls' end') (step core config x left) config ls' end' in
    longer l l' ls ls' end end' same
    (after_one R (step core config l left) config ls ls' end end'
    (λ new rest r r'. runs_one core pick (suc turn) new rest ls ls' end end' r r') s.1 (subst P (sym same) s'.1))

-- told of the same labels, and with the same ending, they are one
pub from_one : (core : Core) (pick : Pick) (turn : ℕ) (config : Config) (left : ℕ) (told other : Told)
    → PicksFrom core pick turn config left told → PicksFrom core pick turn config left other → told ≡ other
from_one core pick turn config left told other r s =
    let same = runs_one core pick turn config left told.labels other.labels told.ending other.ending r.0 s.0 in
    let text : told.output ≡ other.output
    = r.1 ∙ ap (λ labels. along text_told nothing core turn config left labels) same.0 ∙ sym s.1 in
    λ i. record { labels = same.0 i; ending = same.1 i; output = text i }

pub picked-once : (core : Core) (start : Beginning) (pick : Pick) (bound : ℕ) (told other : Told)
    → Picked core start pick bound told → Picked core start pick bound other → told ≡ other
picked-once core (Begins config) pick bound told other r s = from_one core pick 0 config bound told other r s
picked-once core (Breaks end) pick bound told other r s = r ∙ sym s
picked-once core beginning.Amiss pick bound told other r s = absurd r

-- and it picks no other
pub picks_only : (core : Core) (start : Beginning) (pick : Pick) (bound : ℕ) (told : Told) → Picked core start pick bound told
    → PicksOnly core start pick bound told
picks_only core start pick bound told r = (r, λ other s. picked-once core start pick bound other told s r)

pub picked-always : (core : Core) → BeginsAlways core → KeepsKinded core → (start : Beginning) → IsBeginning core start
    → (pick : Pick) → IsLawful pick → (bound : ℕ) → bound < 2 ^ 63 → (told : Told) × PicksOnly core start pick bound told
picked-always core begins keeps start is pick lawful bound small =
    let kinded : BeginsKinded core start
    = subst (λ (b : Beginning). BeginsKinded core b) (sym is.begins) (begins is.model is.is is.arguments is.fit is.seed is.until) in
    let r = picks_from core keeps pick lawful start kinded bound small in
    (r.0, picks_only core start pick bound r.0 r.1)
