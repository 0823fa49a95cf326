use Rattle.std.proofs.Common.{◌≡◌, [], ◌∷◌, ◌++◌, drop}
use Rattle.std.specs.List.{flat_map}
use Rattle.chi_token.specs.Characters.{quote}
use Rattle.chi_token.specs.Texts.{quoted_byte}
use Rattle.chi_token.proofs.escape.quoted.Given as goal

-- what is spelled, before the rest, is the whole
abbrev pub invariant-loop-byte : goal.invariant-loop-byte
invariant-loop-byte l =
    l.spelled.items ++ flat_map quoted_byte (drop l.byte-index l.text) ≡ (quote ∷ []) ++ flat_map quoted_byte l.text
