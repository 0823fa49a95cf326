-- For whom instances wait that join, and whether one waits for itself.
use Rattle.std.specs.Prelude.{ℕ, zero, suc, nat_eq, Bool, not, List, [], ◌∷◌, ◌++◌, length, filter, fold, Option, Some, None, slice_get, if◌then◌else◌}
use Rattle.std.specs.List.{flat_map, list_any}
use Rattle.chi_core.specs.Config.{Config, Instance, State, Running, Waiting, Joining, Finished}
use Rattle.chi_core.specs.Meeting.{is_over}

-- those of these numbers of which there is no instance that has finished
abbrev pub not_over : Config → List ℕ → List ℕ
not_over config numbers = filter (λ q. not (is_over (slice_get config.instances q))) numbers

-- numbers, and after them one more, where it isn't among them
abbrev pub with_number : List ℕ → ℕ → List ℕ
with_number numbers p = if list_any (λ q. nat_eq q p) numbers then numbers else numbers ++ p ∷ []

-- numbers, and after them each of others that isn't among them yet
abbrev pub with_numbers : List ℕ → List ℕ → List ℕ
with_numbers numbers others = fold with_number numbers others

-- each of these numbers once, in the order in which they stand first
abbrev pub once : List ℕ → List ℕ
once numbers = with_numbers [] numbers

abbrev pub waited_in : Config → State → List ℕ
waited_in config Running = []
waited_in config (Waiting offers) = []
waited_in config (Joining numbers) = not_over config numbers
waited_in config Finished = []

abbrev pub waited_by : Config → Option Instance → List ℕ
waited_by config None = []
waited_by config (Some i) = waited_in config i.state

-- those of the numbers for which instance p waits of which there is no instance that has finished
abbrev pub waited : Config → ℕ → List ℕ
waited config p = waited_by config (slice_get config.instances p)

-- what a step reaches from p, and from each of these, and so on: with at most so many between
unfoldable pub through : (ℕ → List ℕ) → ℕ → ℕ → List ℕ
through step zero p = step p
through step (suc n) p = through step n p ++ flat_map step (through step n p)

-- instance p waits for itself, in a ring: between p and p there are no more than there are instances
abbrev pub is_in_ring : Config → ℕ → Bool
is_in_ring config p = list_any (λ q. nat_eq q p) (through (waited config) (length config.instances) p)
