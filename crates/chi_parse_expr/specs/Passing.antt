-- What functions answer that go over a tree of which nothing is kept. Private vocabulary of proofs.
use Rattle.std.specs.Prelude.{ℕ, ◌≤◌, Result, Ok, Err, List, length}
use Rattle.chi_grammar.specs.declared.fault.ParseFault.{ParseFault}
use Rattle.chi_grammar.specs.declared.room.Room.{Room}
use Rattle.chi_grammar.specs.Rules.{Tree, Rule}
use Rattle.chi_grammar.specs.RuleRuns.{Done, Fail, RuleRuns}
use Rattle.chi_token.specs.declared.place.Spanned.{Spanned}
use Rattle.chi_tree.specs.Parts.{Part}
use Rattle.chi_tree.specs.Rules.{grammar}
use Rattle.chi_tree.specs.Tables.{table}

-- a tree of the rule stands from `at` to before `end`
pub record PassesTo (tokens : List Spanned) (room : Room) (r : Rule Spanned Part) (at end : ℕ) : Type 0 where
  pub tree : Tree Spanned Part
  pub runs : RuleRuns grammar table tokens room r at (Done tree end)
  pub ordered : at ≤ end
  pub inside : end ≤ length tokens

-- the answer of a function that goes over a tree of which nothing is kept
abbrev pub Passes : List Spanned → Room → Rule Spanned Part → ℕ → Result ℕ ParseFault → Type 0
Passes tokens room r at (Ok end) = PassesTo tokens room r at end
Passes tokens room r at (Err fault) = RuleRuns grammar table tokens room r at (Fail fault)
