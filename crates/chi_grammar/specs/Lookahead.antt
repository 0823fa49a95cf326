-- Which classes of tokens tell a reader where to go: those with which a rule begins, and those with which a tree of it goes on.
use Rattle.std.specs.Prelude.{ℕ, ◌≡◌, ◌==◌, ◌&&◌, ◌||◌, Bool, true, false, Option, Some, None, List, [], ◌∷◌, ◌++◌, slice_get, if◌then◌else◌}
use Rattle.std.specs.List.{list_any}
use Rattle.chi_grammar.specs.Rules.{Rule, word, part, ◌▸◌, ◌∣◌, maybe, many, deeper, when, Grammar}

-- For each part: the classes of its first token, those with which a tree of it may go on, and a number that falls
-- from a part to those at its beginning. They are worked out from the rules, and `is_fine` holds them against these.
pub record Table (S : Type 0) : Type 0 where
  pub begins : S → List ℕ
  pub goes_on : S → List ℕ
  pub rank : S → ℕ

-- the class is one of these
abbrev pub holds : List ℕ → ℕ → Bool
holds classes class = list_any (λ c. c == class) classes

-- the token, if there is one, is of one of the classes
abbrev pub starts_in : {A : Type 0} → (A → ℕ) → List ℕ → Option A → Bool
starts_in class_of classes None = false
starts_in class_of classes (Some x) = holds classes (class_of x)

-- whether the token at the index is of one of the classes
abbrev pub Next : {A S : Type 0} → Grammar A S → List A → ℕ → List ℕ → Bool → Type 0
Next g tokens i classes answer = starts_in g.class_of classes (slice_get tokens i) ≡ answer

-- a tree of the rule may have no tokens: no part's has none
abbrev pub may_be_empty : {A S : Type 0} → Rule A S → Bool
may_be_empty (word class) = false
may_be_empty (part s) = false
may_be_empty (a ▸ b) = may_be_empty a && may_be_empty b
may_be_empty (a ∣ b) = may_be_empty a || may_be_empty b
may_be_empty (maybe a) = true
may_be_empty (many a) = true
may_be_empty (deeper nesting a) = may_be_empty a
may_be_empty (when a test b c) = false

-- the classes of the first token
abbrev pub first : {A S : Type 0} → Table S → Rule A S → List ℕ
first table (word class) = class ∷ []
first table (part s) = table.begins s
first table (a ▸ b) = if may_be_empty a then first table a ++ first table b else first table a
first table (a ∣ b) = first table a ++ first table b
first table (maybe a) = first table a
first table (many a) = first table a
first table (deeper nesting a) = first table a
first table (when a test b c) = first table a

-- the classes of a token that may follow within a longer front, where a tree has ended
abbrev pub going_on : {A S : Type 0} → Table S → Rule A S → List ℕ
going_on table (word class) = []
going_on table (part s) = table.goes_on s
going_on table (a ▸ b) = if may_be_empty b then going_on table b ++ going_on table a else going_on table b
going_on table (a ∣ b) = going_on table a ++ going_on table b
going_on table (maybe a) = first table a ++ going_on table a
going_on table (many a) = first table a ++ going_on table a
going_on table (deeper nesting a) = going_on table a
going_on table (when a test b c) =
    (if may_be_empty b || may_be_empty c then going_on table a else []) ++ (going_on table b ++ going_on table c)
