-- What is told of instances, one after another.
use Rattle.std.proofs.Common.{◌≡◌, ℕ, ◌+◌, ◌<◌, List, ◌++◌, Some, None, length, get_or, drop, sym, ap, ◌∙◌}
use Rattle.std.specs.Prelude.{codes}
use Rattle.std.specs.Fmt.{decimal}
use Rattle.std.specs.List.{flat_map, slice_get}
use Rattle.std.proofs.lemmas.List.{append-nil, append_assoc, drop_more}
use Rattle.chi_core.specs.declared.program.Core.{Core}
use Rattle.chi_core.specs.Config.{Config, Instance}
use Rattle.chi_explain.specs.Excerpts.{ended}
use Rattle.chi_explain_labels.specs.Labels.{first_ranked}
use Rattle.chi_explain_labels.specs.LabelsText.{bound_told, labels_text, rank_told, ranks_told}
use Rattle.chi_explain_waiting.specs.WaitingText.{name_told}

pub rank-some : (core : Core) (config : Config) (p count n : ℕ) (i : Instance) (name old new : List ℕ)
    → new ≡ old ++ ended (codes "  instance " ++ decimal p ++ codes " " ++ name ++ codes ": " ++ decimal count)
    → slice_get config.instances p ≡ Some i → name ≡ name_told core n → n ≡ i.definition
    → new ≡ old ++ rank_told core p count (slice_get config.instances p)
rank-some core config p count n i name old new is at named defines =
    is ∙ ap (λ (m : List ℕ). old ++ ended (codes "  instance " ++ decimal p ++ codes " " ++ m ++ codes ": " ++ decimal count)) (named ∙ ap (name_told core) defines)
    ∙ sym (ap (λ o. old ++ rank_told core p count o) at)

pub rank-none : (core : Core) (config : Config) (p count : ℕ) (old : List ℕ) → slice_get config.instances p ≡ None
    → old ≡ old ++ rank_told core p count (slice_get config.instances p)
rank-none core config p count old at = sym (append-nil old) ∙ sym (ap (λ o. old ++ rank_told core p count o) at)

pub ranks-more : (g : ℕ → ℕ → List ℕ) (count : ℕ → ℕ) (ranks : List ℕ) (i n : ℕ) (old new all : List ℕ)
    → old ++ flat_map (λ p. g p (count p)) (drop i ranks) ≡ all → i < length ranks → new ≡ old ++ g (get_or ranks i 0) n → n ≡ count (get_or ranks i 0)
    → new ++ flat_map (λ p. g p (count p)) (drop (i + 1) ranks) ≡ all
ranks-more g count ranks i n old new all before l is counted =
    let p : ℕ = get_or ranks i 0 in
    let rest : List ℕ = flat_map (λ q. g q (count q)) (drop (i + 1) ranks) in
    ap (λ (t : List ℕ). t ++ rest) is
    ∙ ap (λ (m : ℕ). (old ++ g p m) ++ rest) counted
    ∙ append_assoc old (g p (count p)) rest
    ∙ ap (λ (ps : List ℕ). old ++ flat_map (λ q. g q (count q)) ps) (sym (drop_more ranks i 0 l))
    ∙ before

pub labels-told : (core : Core) (config : Config) (count : ℕ → ℕ) (bound n : ℕ) (instances : List Instance) (ranks told old mid new : List ℕ)
    → new ≡ mid ++ ranks_told core config count told → mid ≡ old ++ bound_told bound told → told ≡ ranks → ranks ≡ first_ranked count n
    → n ≡ length instances → instances ≡ config.instances → new ≡ old ++ labels_text core config count bound
labels-told core config count bound n instances ranks told old mid new is before same those all here =
    is ∙ ap (λ (t : List ℕ). t ++ ranks_told core config count told) before
    ∙ append_assoc old (bound_told bound told) (ranks_told core config count told)
    ∙ ap (λ (ps : List ℕ). old ++ (bound_told bound ps ++ ranks_told core config count ps)) (same ∙ those)
    ∙ ap (λ (m : ℕ). old ++ (bound_told bound (first_ranked count m) ++ ranks_told core config count (first_ranked count m))) (all ∙ ap length here)

pub ruleset telling = (rank-some, rank-none)
