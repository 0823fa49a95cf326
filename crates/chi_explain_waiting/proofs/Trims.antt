-- A text without the blanks around it.
use Rattle.std.proofs.Common.{◌≡◌, ℕ, List, drop, refl}
use Rattle.std.specs.Char.{is_ascii_whitespace}
use Rattle.std.specs.List.{prefix_len}
use Rattle.std.specs.Str.{IsTrimAscii}
use Rattle.std.proofs.lemmas.Str.Ascii.{trim_ascii_is}
use Rattle.chi_explain_waiting.specs.Whereabouts.{trimmed}

pub trimmed-is : (text rest : List ℕ) → IsTrimAscii text rest → rest ≡ trimmed text
trimmed-is text rest h = trim_ascii_is text rest (drop (prefix_len is_ascii_whitespace text) text) refl h

pub ruleset trims = (trimmed-is)
