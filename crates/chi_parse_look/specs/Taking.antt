-- What functions that read one token answer. Private to proofs of parsers.
use Rattle.std.specs.Prelude.{ℕ, ◌≡◌, ◌+◌, ◌≤◌, true, false, Some, List, length, map, slice_get}
use Rattle.chi_grammar.specs.declared.fault.ParseFault.{ParseFault}
use Rattle.chi_grammar.specs.declared.fault.ParseFault.TheVariants.{Syntax}
use Rattle.chi_grammar.specs.Lookahead.{Next, holds}
use Rattle.chi_token.specs.declared.place.Spanned.{Spanned}
use Rattle.chi_tree.specs.declared.class.Class.{Class}
use Rattle.chi_tree.specs.Classes.{number_of}
use Rattle.chi_tree.specs.Rules.{grammar}

-- a token of one of the classes stands at the index, and another index is the one after it
pub record OneAt (tokens : List Spanned) (classes : List Class) (at : ℕ) (x : Spanned) (end : ℕ) : Type 0 where
  pub stands : slice_get tokens at ≡ Some x
  pub of_classes : holds (map number_of classes) (grammar.class_of x) ≡ true
  pub after : end ≡ at + 1
  pub inside : end ≤ length tokens

-- no token of the classes stands at the index
abbrev pub NoneAt : List Spanned → List Class → ℕ → ParseFault → Type 0
NoneAt tokens classes at fault = (fault ≡ Syntax at) × Next grammar tokens at (map number_of classes) false
