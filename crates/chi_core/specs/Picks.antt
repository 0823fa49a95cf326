-- Policies: which run a function of question and count picks, and by which numbers.
use Rattle.std.specs.Prelude.{◌≡◌, ℕ, ◌+◌, ◌*◌, ◌^◌, ◌<◌, nat_lt, ◌==◌, List, [], ◌∷◌, Option, Some, None, length, slice_get, position, find, Bool, true, false, ◌&&◌, if◌then◌else◌}
use Rattle.std.specs.Option.{option_and_then}
use Rattle.chi_core.specs.declared.program.Core.{Core}
use Rattle.chi_core.specs.declared.label.Label.{Label}
use Rattle.chi_core.specs.declared.label.Label.TheVariants.{Local, Pair, Wake, Join, Advance}
use Rattle.chi_core.specs.declared.verdict.Verdict.{Verdict}
use Rattle.chi_core.specs.declared.verdict.Verdict.TheVariants.{OutOfSteps}
use Rattle.chi_core.specs.Config.{Config}
use Rattle.chi_core.specs.Step.{Outcome, Next, Over, Spent, Amiss, step}
use Rattle.chi_core.specs.Options.{actors, options, advance, enabled}
use Rattle.chi_core.specs.Beginning.{Beginning, Begins, Breaks}
use Rattle.chi_core.specs.Beginning as beginning
use Rattle.chi_core.specs.Runs.{Tells, TellsLast, along, Told, RunsFrom, RunsFromStart}

-- what a policy answers to a question, by its number and the count of choices
abbrev pub Pick : Type 0
Pick = ℕ → ℕ → ℕ

-- each answer is one of the choices, where there are any; numbers of questions and counts are those below 2 ^ 64
abbrev pub IsLawful : Pick → Type 0
IsLawful pick = (question count : ℕ) → question < 2 ^ 64 → 0 < count → count < 2 ^ 64 → pick question count < count

-- the choice that a policy picks
abbrev pub picked_from : {A : Type 0} → Pick → ℕ → List A → Option A
picked_from pick question choices = slice_get choices (pick question (length choices))

-- the option of instance p that a policy picks
abbrev pub picked_option : Pick → ℕ → Config → ℕ → Option Label
picked_option pick turn config p = picked_from pick (2 * turn + 1) (options config p)

abbrev pub picked_among : Pick → ℕ → Config → List ℕ → Option Label
picked_among pick turn config [] = advance config
picked_among pick turn config (p ∷ ps) =
    option_and_then (picked_option pick turn config) (picked_from pick (2 * turn) (p ∷ ps))

-- The label that a policy picks at turn t of a run: question 2t is for an instance among those with an option,
-- and question 2t + 1 for one of its options. Advance is taken unasked.
abbrev pub picked_label : Pick → ℕ → Config → Option Label
picked_label pick turn config = picked_among pick turn config (actors config)

abbrev pub MayPick : Pick → ℕ → Config → Label → Type 0
MayPick pick turn config label = picked_label pick turn config ≡ Some label

-- from a configuration at a turn, the policy picks this run
abbrev pub PicksFrom : Core → Pick → ℕ → Config → ℕ → Told → Type 0
PicksFrom core pick = RunsFrom (MayPick pick) core

-- the run of a program that the policy picks
abbrev pub Picked : Core → Beginning → Pick → ℕ → Told → Type 0
Picked core beginning pick bound told = RunsFromStart (MayPick pick) core beginning bound told

-- the numbers by which a run is picked

abbrev pub same_label : Label → Label → Bool
same_label (Local p) (Local q) = p == q
same_label (Pair p a q b) (Pair r c s d) = (p == r) && (a == c) && (q == s) && (b == d)
same_label (Wake p a) (Wake q b) = (p == q) && (a == b)
same_label (Join p) (Join q) = p == q
same_label Advance Advance = true
same_label _ _ = false

abbrev pub both_places : Option ℕ → Option ℕ → List ℕ
both_places (Some m) (Some n) = m ∷ n ∷ []
both_places _ _ = []

-- the place of instance p among those with an option, and of an enabled label among its options
abbrev pub places_of : Config → ℕ → Label → List ℕ
places_of config p label = both_places (position (λ q. q == p) (actors config)) (position (same_label label) (options config p))

-- the two numbers by which an enabled label is picked: 0 and 0 for Advance, which is taken unasked
abbrev pub numbers_of : Config → Label → List ℕ
numbers_of config (Local p) = places_of config p (Local p)
numbers_of config (Pair p a q b) = places_of config p (Pair p a q b)
numbers_of config (Wake p a) = places_of config p (Wake p a)
numbers_of config (Join p) = places_of config p (Join p)
numbers_of config Advance = 0 ∷ 0 ∷ []

-- two for each label in turn
abbrev pub numbers_told : Tells ℕ
numbers_told turn config label outcome = numbers_of config label

abbrev pub is_spent : Outcome → Bool
is_spent (Next config text left) = false
is_spent (Over verdict) = false
is_spent Spent = true
is_spent Amiss = false

abbrev pub numbers_of_some : Config → Option Label → List ℕ
numbers_of_some config None = []
numbers_of_some config (Some label) = numbers_of config label

-- where a run was cut off, those of the first enabled label that costs too much
abbrev pub last_numbers : Core → Verdict → TellsLast ℕ
last_numbers core OutOfSteps config left = numbers_of_some config (find (λ l. is_spent (step core config l left)) (enabled config))
last_numbers core _ config left = []

-- the numbers by which the labels of a run are picked
abbrev pub picks_of : Core → Beginning → ℕ → Told → List ℕ
picks_of core (Begins config) bound told = along numbers_told (last_numbers core told.ending.verdict) core 0 config bound told.labels
picks_of core (Breaks ending) bound told = []
picks_of core beginning.Amiss bound told = []

abbrev pub below_or_zero : ℕ → Option ℕ → ℕ
below_or_zero count None = 0
below_or_zero count (Some n) = if nat_lt n count then n else 0

-- the policy that answers a list of numbers in turn, and 0 where there is none or it is no choice
abbrev pub listed : List ℕ → Pick
listed numbers question count = below_or_zero count (slice_get numbers question)
