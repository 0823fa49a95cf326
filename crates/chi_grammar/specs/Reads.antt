-- What a parsing function promises of its answer to those above it.
use Rattle.std.specs.Prelude.{ℕ, ◌≡◌, ◌+◌, ◌≤◌, ◌⊎◌, true, false, Some, List, [], ◌∷◌, length, slice_get, Result, Ok, Err}
use Rattle.chi_grammar.specs.declared.fault.ParseFault.{ParseFault}
use Rattle.chi_grammar.specs.declared.fault.ParseFault.TheVariants.{Syntax, TooDeep}
use Rattle.chi_grammar.specs.declared.room.Room.{Room}
use Rattle.chi_grammar.specs.Rules.{Tree, pair, Rule, many, Grammar}
use Rattle.chi_grammar.specs.Lookahead.{Table, Next}
use Rattle.chi_grammar.specs.RuleRuns.{Outcome, Done, Fail, RuleRuns}

module _ {A S : Type 0} (g : Grammar A S) (table : Table S) (tokens : List A) where
  -- a tree that a run gives, as it is shown, with the index after it
  pub record ReadsTree {T : Type 0} (view : Tree A S → T) (room : Room) (r : Rule A S) (at : ℕ) (shown : T) (end : ℕ) : Type 0 where
    pub tree : Tree A S
    pub runs : RuleRuns g table tokens room r at (Done tree end)
    pub shows : view tree ≡ shown
    pub ordered : at ≤ end
    pub inside : end ≤ length tokens

  -- the answer of a parsing function is that of a run
  abbrev pub Reads : {T : Type 0} → (Tree A S → T) → Room → Rule A S → ℕ → Result (T × ℕ) ParseFault → Type 0
  Reads view room r at (Ok p) = ReadsTree view room r at p.0 p.1
  Reads view room r at (Err fault) = RuleRuns g table tokens room r at (Fail fault)

module _ {A S : Type 0} (g : Grammar A S) (tokens : List A) where
  -- a token of the class stands at the index, and another index is the one after it
  pub record TokenAt (class at : ℕ) (x : A) (end : ℕ) : Type 0 where
    pub stands : slice_get tokens at ≡ Some x
    pub of_class : g.class_of x ≡ class
    pub after : end ≡ at + 1
    pub inside : end ≤ length tokens

  -- the answer of a function that reads one token: it and the index after it, or that none of the class stands here
  abbrev pub Takes : ℕ → ℕ → Result (A × ℕ) ParseFault → Type 0
  Takes class at (Ok p) = TokenAt class at p.0 p.1
  Takes class at (Err fault) = (fault ≡ Syntax at) × Next g tokens at (class ∷ []) false

  -- the fault where a rule that begins with the classes stands too deep
  abbrev pub Refuses : List ℕ → ℕ → ParseFault → Type 0
  Refuses classes at fault =
      ((fault ≡ TooDeep at) × Next g tokens at classes true) ⊎ ((fault ≡ Syntax at) × Next g tokens at classes false)

-- trees before a further one
abbrev pub attach : {A S : Type 0} → List (Tree A S) → Tree A S → Tree A S
attach [] rest = rest
attach (t ∷ ts) rest = pair t (attach ts rest)

-- an outcome with trees before it
abbrev pub after : {A S : Type 0} → List (Tree A S) → Outcome A S → Outcome A S
after ts (Done t end) = Done (attach ts t) end
after ts (Fail fault) = Fail fault

-- Trees were read in turn from `at` to before `i`: however the rest is read, with them before it the whole is.
abbrev pub Along : {A S : Type 0} → Grammar A S → Table S → List A → Room → Rule A S → ℕ → ℕ → List (Tree A S) → Type 0
Along {A} {S} g table tokens room a at i ts =
    (o : Outcome A S) → RuleRuns g table tokens room (many a) i o → RuleRuns g table tokens room (many a) at (after ts o)
