-- With which tokens something formed can begin, and how a list of tokens isn't formed: at one token it nests too deep, or at
-- one token nothing goes on. What is formed are programs, expressions or types, with their spelling and the nestings of its tokens.
use Rattle.std.specs.Prelude.{ℕ, ◌+◌, ◌<◌, ◌≤◌, ◌≡◌, Some, None, ◌++◌, length, take}
use Rattle.chi_tree_spell.specs.Words.{Tokens}
use Rattle.chi_tree_laws.specs.Nestings.{Nestings, first_passing}

module _ {X : Type 0} (Formed : ℕ → ℕ → X → Type 0) (spelled : X → Tokens) (nestings : X → Nestings) where
  -- something formed begins with the tokens, however deep it nests
  pub record FormedFront (tokens : Tokens) : Type 0 where
    pub blocks : ℕ
    pub expressions : ℕ
    pub whole : X
    pub formed : Formed blocks expressions whole
    pub more : Tokens
    pub same : spelled whole ≡ tokens ++ more

  -- something formed begins with the tokens, and none of them passes a limit
  pub record FormedFrontWithin (b d : ℕ) (tokens : Tokens) : Type 0 where
    pub front : FormedFront tokens
    pub keeps : first_passing b d (take (length tokens) (nestings front.whole)) ≡ None

  -- Token k is the first too deep: something formed begins with the tokens up to it, and there it is the first whose nesting
  -- passes a limit.
  pub record NamesDepth (b d : ℕ) (tokens : Tokens) (k : ℕ) : Type 0 where
    pub inside : k < length tokens
    pub front : FormedFront (take (k + 1) tokens)
    pub first : first_passing b d (nestings front.whole) ≡ Some k

  -- nothing formed begins with the first k tokens and token k
  abbrev pub NoneGoesOn : Tokens → ℕ → Type 0
  NoneGoesOn tokens k = k < length tokens → FormedFront (take (k + 1) tokens) → ⊥

  -- nothing formed has just these tokens, however deep it nests
  abbrev pub NoneHas : Tokens → Type 0
  NoneHas tokens = (b d : ℕ) (x : X) → Formed b d x → spelled x ≡ tokens → ⊥

  -- Token k is the first with which nothing goes on, and where something begins with all the tokens k is the number of them.
  -- None of the tokens before it passes a limit, and nothing has just these tokens.
  pub record NamesFault (b d : ℕ) (tokens : Tokens) (k : ℕ) : Type 0 where
    pub inside : k ≤ length tokens
    pub front : FormedFrontWithin b d (take k tokens)
    pub none_goes_on : NoneGoesOn tokens k
    pub none_has_all : NoneHas tokens

  -- the first k tokens are something formed within the limits, and nothing formed goes on after them
  pub record StandsLongest (b d : ℕ) (tokens : Tokens) (k : ℕ) (x : X) : Type 0 where
    pub inside : k ≤ length tokens
    pub formed : Formed b d x
    pub same : spelled x ≡ take k tokens
    pub none_goes_on : NoneGoesOn tokens k

  -- Token k is the first with which nothing goes on, and where something begins with all the tokens k is the number of them.
  -- None of the tokens before it passes a limit, and nothing has just those.
  pub record NamesStop (b d : ℕ) (tokens : Tokens) (k : ℕ) : Type 0 where
    pub inside : k ≤ length tokens
    pub front : FormedFrontWithin b d (take k tokens)
    pub none_goes_on : NoneGoesOn tokens k
    pub none_has_them : NoneHas (take k tokens)
