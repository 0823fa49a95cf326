-- Instances that haven't finished, one after another.
use Rattle.std.proofs.Common.{◌≡◌, ℕ, suc, ◌+◌, ◌<◌, ◌≤◌, Bool, true, false, cond, List, [], ◌∷◌, ◌++◌, length, get_or, drop, not, ap, ◌∙◌, sym, arith}
use Rattle.std.specs.List.{slice_get}
use Rattle.std.proofs.lemmas.List.{append-nil, append_assoc, drop_all, drop_more}
use Rattle.chi_plain_open.proofs.Numbers.{passing, failing}
use Rattle.chi_core.specs.Config.{Config}
use Rattle.chi_core.specs.Meeting.{is_over}
use Rattle.chi_core.specs.Options.{numbers}
use Rattle.chi_explain_waiting.specs.Joins.{not_over}
use Rattle.chi_explain_waiting.specs.WaitingText.{unfinished}

-- all numbers below n

pub below-more : (config : Config) (n : ℕ) (b : Bool) (old new : List ℕ) → old ≡ not_over config (numbers n) → b ≡ is_over (slice_get config.instances n)
    → b ≡ false → new ≡ old ++ n ∷ [] → new ≡ not_over config (numbers (n + 1))
below-more config n b old new before is e added =
    let one : suc n ≡ n + 1 = omega arith in
    added ∙ ap (λ (ns : List ℕ). ns ++ n ∷ []) before
    ∙ sym (passing (λ q. not (is_over (slice_get config.instances q))) n (ap not (sym is ∙ e)))
    ∙ ap (λ (m : ℕ). not_over config (numbers m)) one

pub below-same : (config : Config) (n : ℕ) (b : Bool) (old : List ℕ) → old ≡ not_over config (numbers n) → b ≡ is_over (slice_get config.instances n)
    → b ≡ true → old ≡ not_over config (numbers (n + 1))
below-same config n b old before is e =
    let one : suc n ≡ n + 1 = omega arith in
    before ∙ sym (failing (λ q. not (is_over (slice_get config.instances q))) n (ap not (sym is ∙ e)))
    ∙ ap (λ (m : ℕ). not_over config (numbers m)) one

pub below-all : (config : Config) (n : ℕ) (some : List ℕ) → some ≡ not_over config (numbers n) → n ≡ length config.instances → some ≡ unfinished config
below-all config n some is same = is ∙ ap (λ (m : ℕ). not_over config (numbers m)) same

-- those of a list

at : (config : Config) (pids : List ℕ) (i x : ℕ) (b : Bool) → x ≡ get_or pids i 0 → i < length pids → is_over (slice_get config.instances x) ≡ b
    → not_over config (drop i pids) ≡ cond (not b) (x ∷ not_over config (drop (i + 1) pids)) (not_over config (drop (i + 1) pids))
at config pids i x b is l e =
    let rest : List ℕ = drop (i + 1) pids in
    ap (not_over config) (drop_more pids i 0 l ∙ ap (λ (y : ℕ). y ∷ rest) (sym is))
    ∙ ap (λ (t : Bool). cond (not t) (x ∷ not_over config rest) (not_over config rest)) e

pub listed-more : (config : Config) (pids : List ℕ) (i x : ℕ) (b : Bool) (old new all : List ℕ) → old ++ not_over config (drop i pids) ≡ all
    → x ≡ get_or pids i 0 → i < length pids → b ≡ is_over (slice_get config.instances x) → b ≡ false → new ≡ old ++ x ∷ []
    → new ++ not_over config (drop (i + 1) pids) ≡ all
listed-more config pids i x b old new all before is l e t added =
    ap (λ (ns : List ℕ). ns ++ not_over config (drop (i + 1) pids)) added
    ∙ append_assoc old (x ∷ []) (not_over config (drop (i + 1) pids))
    ∙ ap (λ (ns : List ℕ). old ++ ns) (sym (at config pids i x false is l (sym e ∙ t)))
    ∙ before

pub listed-same : (config : Config) (pids : List ℕ) (i x : ℕ) (b : Bool) (old all : List ℕ) → old ++ not_over config (drop i pids) ≡ all
    → x ≡ get_or pids i 0 → i < length pids → b ≡ is_over (slice_get config.instances x) → b ≡ true
    → old ++ not_over config (drop (i + 1) pids) ≡ all
listed-same config pids i x b old all before is l e f =
    ap (λ (ns : List ℕ). old ++ ns) (sym (at config pids i x true is l (sym e ∙ f))) ∙ before

pub listed-all : (config : Config) (pids : List ℕ) (i : ℕ) (some : List ℕ) → some ++ not_over config (drop i pids) ≡ not_over config pids
    → length pids ≤ i → some ≡ not_over config pids
listed-all config pids i some e l =
    sym (append-nil some) ∙ ap (λ (ns : List ℕ). some ++ not_over config ns) (sym (drop_all i pids l)) ∙ e

pub ruleset numbering = (below-more, below-same, below-all, listed-more, listed-same, listed-all)
