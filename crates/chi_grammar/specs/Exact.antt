-- What a parser answers that is exact: the longest tree, or the first token at which every tree is ruled out.
use Rattle.std.specs.Prelude.{ℕ, ◌≡◌, ◌+◌, ◌≤◌, ⊤, List, length, slice_range, Result, Ok, Err}
use Rattle.chi_grammar.specs.declared.fault.ParseFault.{ParseFault}
use Rattle.chi_grammar.specs.declared.fault.ParseFault.TheVariants.{Syntax, TooDeep, NoMemory}
use Rattle.chi_grammar.specs.declared.room.Room.{Room}
use Rattle.chi_grammar.specs.Rules.{Tree, spelling, Rule, Grammar}
use Rattle.chi_grammar.specs.Trees.{Is}
use Rattle.chi_grammar.specs.Fronts.{Front}

-- the tokens from index `at` to before `end` are these
pub record Stands {A : Type 0} (tokens : List A) (at : ℕ) (f : List A) (end : ℕ) : Type 0 where
  pub ordered : at ≤ end
  pub inside : end ≤ length tokens
  pub same : slice_range tokens at end ≡ f

module _ {A S : Type 0} (g : Grammar A S) (tokens : List A) where
  -- a tree of the rule stands from `at` to before `end`
  pub record TreeTo (room : Room) (r : Rule A S) (at end : ℕ) : Type 0 where
    pub tree : Tree A S
    pub is : Is g room r tree
    pub stands : Stands tokens at (spelling tree) end

  -- the tokens from `at` to before `end` are a front of the rule
  pub record FrontTo (room : Room) (r : Rule A S) (at end : ℕ) : Type 0 where
    pub begins : List A
    pub is : Front g room r begins
    pub stands : Stands tokens at begins end

  -- no front, however deep, goes on with token k
  abbrev pub NoneFurther : Rule A S → ℕ → ℕ → Type 0
  NoneFurther r at k = (room : Room) (end : ℕ) → FrontTo room r at end → end ≤ k

  -- the tree stands from `at` to before k, within the room, and no front goes on after it: it is the longest that stands there
  pub record IsLongest (room : Room) (r : Rule A S) (at : ℕ) (t : Tree A S) (k : ℕ) : Type 0 where
    pub is : Is g room r t
    pub stands : Stands tokens at (spelling t) k
    pub none_further : NoneFurther r at k

  -- The tokens from `at` to before k are a front within the room; no front, however deep, goes on with token k; and no tree,
  -- however deep, ends right before k.
  pub record IsStuck (room : Room) (r : Rule A S) (at k : ℕ) : Type 0 where
    pub front : FrontTo room r at k
    pub none_further : NoneFurther r at k
    pub no_tree : (any : Room) → TreeTo any r at k → ⊥

  -- token k is the first that stands too deep: the tokens before it are a front within the room, with it one in a larger room alone
  pub record IsTooDeep (room : Room) (r : Rule A S) (at k : ℕ) : Type 0 where
    pub front : FrontTo room r at k
    pub none_within : (end : ℕ) → FrontTo room r at end → end ≤ k
    pub deeper : (larger : Room) × FrontTo larger r at (k + 1)

  -- the answer of a parser for a rule, from `at` on: what it makes of the longest tree with the index after it, or the fault
  abbrev pub Parses : {T : Type 0} → (Tree A S → T) → Room → Rule A S → ℕ → Result (T × ℕ) ParseFault → Type 0
  Parses view room r at (Ok p) = (t : Tree A S) × (view t ≡ p.0) × IsLongest room r at t p.1
  Parses view room r at (Err (Syntax k)) = IsStuck room r at k
  Parses view room r at (Err (TooDeep k)) = IsTooDeep room r at k
  Parses view room r at (Err NoMemory) = ⊤

  -- The tokens to before k are a front within the room; no front, however deep, goes on with token k; and no tree, however
  -- deep, has all the tokens.
  pub record IsBad (room : Room) (r : Rule A S) (k : ℕ) : Type 0 where
    pub front : FrontTo room r 0 k
    pub none_further : NoneFurther r 0 k
    pub no_tree : (any : Room) (t : Tree A S) → Is g any r t → spelling t ≡ tokens → ⊥

  -- the answer of a parser for a rule and all the tokens: what it makes of the tree that has them, or the fault
  abbrev pub ParsesAll : {T : Type 0} → (Tree A S → T) → Room → Rule A S → Result T ParseFault → Type 0
  ParsesAll view room r (Ok shown) = (t : Tree A S) × (view t ≡ shown) × Is g room r t × (spelling t ≡ tokens)
  ParsesAll view room r (Err (Syntax k)) = IsBad room r k
  ParsesAll view room r (Err (TooDeep k)) = IsTooDeep room r 0 k
  ParsesAll view room r (Err NoMemory) = ⊤
