-- The innermost of what is under way is a walk. Private to proofs.
use Rattle.std.specs.Prelude.{◌≡◌, List, [], ◌∷◌}
use Rattle.chi_value.specs.declared.value.Value.{Value}
use Rattle.chi_exec_law.specs.State.{Turning, Walking}

pub record Walks (under : List Turning) : Type 0 where
  pub elements : List Value
  pub rest : List Turning
  pub is : under ≡ Walking elements ∷ rest

-- it has gone on by an element
pub record Walked (x : Value) (before after : List Turning) : Type 0 where
  pub elements : List Value
  pub rest : List Turning
  pub was : before ≡ Walking (x ∷ elements) ∷ rest
  pub now : after ≡ Walking elements ∷ rest

-- it had no element left
pub record WalkedOut (before after : List Turning) : Type 0 where
  pub rest : List Turning
  pub last : List Value
  pub was : before ≡ Walking [] ∷ rest
  pub now : after ≡ Walking last ∷ rest
