-- How far an experiment has come. Private to proofs.
use Rattle.std.specs.Prelude.{◌≡◌, ℕ, List, ◌++◌}
use Rattle.chi_xper.specs.Experiments.{Made, Told, after}

-- of all that is told these runs and this text have come, and the text is appended
pub record Leads (whole : Told) (before now : List ℕ) (rest : Told) : Type 0 where
  pub runs : List Made
  pub text : List ℕ
  pub is : whole ≡ after runs text rest
  pub grown : now ≡ before ++ text
