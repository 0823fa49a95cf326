-- What a run means: the longest tree, or the token at which every tree is ruled out.
use Rattle.std.proofs.Common.{◌≡◌, ℕ, suc, ◌≤◌, List}
use Rattle.chi_grammar.specs.declared.fault.ParseFault.{ParseFault}
use Rattle.chi_grammar.specs.declared.fault.ParseFault.TheVariants.{Syntax, TooDeep, NoMemory}
use Rattle.chi_grammar.specs.declared.room.Room.{Room}
use Rattle.chi_grammar.specs.Rules.{Tree, spelling, Rule, Grammar}
use Rattle.chi_grammar.specs.Trees.{Is}
use Rattle.chi_grammar.specs.Fronts.{Front}
use Rattle.chi_grammar.specs.RuleRuns.{Outcome, Done, Fail}
use Rattle.chi_grammar.proofs.At.{At}

module _ {A S : Type 0} (g : Grammar A S) (ts : List A) where
  -- a front of the rule within the room reaches an index
  pub record Reaches (room : Room) (r : Rule A S) (i k : ℕ) : Type 0 where
    pub tokens : List A
    pub is : Front g room r tokens
    pub at : At ts i tokens k

  -- no front of the rule, within a room of which something holds, goes past the index
  abbrev pub Ends : (Room → Type 0) → Rule A S → ℕ → ℕ → Type 0
  Ends E r i k = (room : Room) (f : List A) (j : ℕ) → E room → Front g room r f → At ts i f j → j ≤ k

  abbrev pub Any : Room → Type 0
  Any room = Unit {0}

  abbrev pub Only : Room → Room → Type 0
  Only room other = other ≡ room

  -- the longest tree that stands there
  pub record Longest (room : Room) (r : Rule A S) (i : ℕ) (t : Tree A S) (j : ℕ) : Type 0 where
    pub is : Is g room r t
    pub at : At ts i (spelling t) j
    pub ends : Ends Any r i j

  -- no tree goes on to the index, and none ends there
  pub record Stuck (room : Room) (r : Rule A S) (i k : ℕ) : Type 0 where
    pub reaches : Reaches room r i k
    pub ends : Ends Any r i k
    pub no_tree : (any : Room) (t : Tree A S) → Is g any r t → At ts i (spelling t) k → ⊥

  -- within the room no tree goes on to the index, but in a larger one
  pub record Deep (room : Room) (r : Rule A S) (i k : ℕ) : Type 0 where
    pub reaches : Reaches room r i k
    pub ends : Ends (Only room) r i k
    pub larger : Room
    pub further : Reaches larger r i (suc k)

  abbrev pub FailMeans : Room → Rule A S → ℕ → ParseFault → Type 0
  FailMeans room r i (Syntax k) = Stuck room r i k
  FailMeans room r i (TooDeep k) = Deep room r i k
  FailMeans room r i NoMemory = Unit {0}

  abbrev pub Means : Room → Rule A S → ℕ → Outcome A S → Type 0
  Means room r i (Done t j) = Longest room r i t j
  Means room r i (Fail fault) = FailMeans room r i fault
