-- Loops: trees read in turn, and how the reading of the rest ends the whole.
use Rattle.std.proofs.Common.{◌≡◌, ℕ, true, false, List, [], ◌∷◌, ◌++◌, refl, sym, subst}
use Rattle.chi_grammar.specs.declared.fault.ParseFault.{ParseFault}
use Rattle.chi_grammar.specs.declared.room.Room.{Room}
use Rattle.chi_grammar.specs.Rules.{Tree, pair, none, Rule, many, Grammar}
use Rattle.chi_grammar.specs.Lookahead.{Table, Next, first}
use Rattle.chi_grammar.specs.RuleRuns.{Outcome, Done, Fail, RuleRuns}
use Rattle.chi_grammar.specs.RuleRuns as runs
use Rattle.chi_grammar.specs.Reads.{attach, Along}

attach-append : {A S : Type 0} (ts : List (Tree A S)) (t u : Tree A S) → attach (ts ++ t ∷ []) u ≡ attach ts (pair t u)
attach-append [] t u = refl
attach-append (x ∷ ts) t u = λ i. pair x (attach-append ts t u i)

module _ {A S : Type 0} (g : Grammar A S) (table : Table S) (tokens : List A) (room : Room) (a : Rule A S) (at : ℕ) where
  pub along_start : Along g table tokens room a at at []
  along_start (Done t k) p = p
  along_start (Fail fault) p = p

  pub along_more : (i j : ℕ) (ts : List (Tree A S)) (t : Tree A S) → Along g table tokens room a at i ts
      → Next g tokens i (first table a) true → RuleRuns g table tokens room a i (Done t j)
      → Along g table tokens room a at j (ts ++ t ∷ [])
  along_more i j ts t along h p (Done u k) q =
      subst (λ x. RuleRuns g table tokens room (many a) at (Done x k)) (sym (attach-append ts t u)) (along (Done (pair t u) k) (runs.more h p q))
  along_more i j ts t along h p (Fail fault) q = along (Fail fault) (runs.rest_fails h p q)

  -- the loop ends
  pub along_stop : (i : ℕ) (ts : List (Tree A S)) → Along g table tokens room a at i ts → Next g tokens i (first table a) false
      → RuleRuns g table tokens room (many a) at (Done (attach ts none) i)
  along_stop i ts along h = along (Done none i) (runs.enough h)

  -- an item fails
  pub along_fails : (i : ℕ) (ts : List (Tree A S)) (fault : ParseFault) → Along g table tokens room a at i ts
      → Next g tokens i (first table a) true → RuleRuns g table tokens room a i (Fail fault)
      → RuleRuns g table tokens room (many a) at (Fail fault)
  along_fails i ts fault along h p = along (Fail fault) (runs.item_fails h p)
