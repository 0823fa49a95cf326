-- The text that says, where the bound on steps is used up, which instances took the most labels.
use Rattle.std.specs.Prelude.{ℕ, List, [], ◌∷◌, ◌++◌, length, flat_map, codes, Option, Some, None, slice_get}
use Rattle.std.specs.Fmt.{decimal}
use Rattle.chi_core.specs.declared.program.Core.{Core}
use Rattle.chi_core.specs.Config.{Config, Instance}
use Rattle.chi_explain.specs.Excerpts.{ended}
use Rattle.chi_explain_labels.specs.Labels.{first_ranked}
use Rattle.chi_explain_waiting.specs.WaitingText.{name_told}

-- what comes after the bound, where instances are told
abbrev pub lead_in : List ℕ → List ℕ
lead_in [] = []
lead_in (p ∷ ps) = codes "; the instances with the most labels:"

abbrev pub bound_told : ℕ → List ℕ → List ℕ
bound_told bound ranks = ended (codes "the bound on steps is " ++ decimal bound ++ lead_in ranks)

-- an instance, its process, and how many labels it took
abbrev pub rank_told : Core → ℕ → ℕ → Option Instance → List ℕ
rank_told core p count None = []
rank_told core p count (Some i) = ended (codes "  instance " ++ decimal p ++ codes " " ++ name_told core i.definition ++ codes ": " ++ decimal count)

-- with a program, a configuration of it, and a count of labels for each instance
module _ (core : Core) (config : Config) (count : ℕ → ℕ) where
  abbrev pub ranks_told : List ℕ → List ℕ
  ranks_told ranks = flat_map (λ p. rank_told core p (count p) (slice_get config.instances p)) ranks

  abbrev pub labels_text : ℕ → List ℕ
  labels_text bound =
      let ranks = first_ranked count (length config.instances) in
      bound_told bound ranks ++ ranks_told ranks
