-- The limits of what is told of instances, to be held against `docs/LANGUAGE.md`: what each constant is that the definitions cite.
use Rattle.std.specs.Prelude.{◌≡◌}
use Rattle.chi_explain_labels.specs.declared.ranks.TheConstants.{MOST_RANKED}
use Rattle.chi_explain_waiting.specs.declared.pieces.TheConstants.{MOST_TOLD}

-- instances that are told, alternatives of each, and those for which it waits; instances with the most labels
abbrev pub LimitsAre : Type 0
LimitsAre =
    (MOST_TOLD ≡ 100) ×
    (MOST_RANKED ≡ 10)
