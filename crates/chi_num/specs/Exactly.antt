-- Properties that leave no choice.
use Rattle.std.specs.Prelude.{◌≡◌, ℤ}

-- exactly one whole number has the property
pub record ExactlyOne (Has : ℤ → Type 0) : Type 0 where
  pub the_one : ℤ
  pub has : Has the_one
  pub only : (r : ℤ) → Has r → r ≡ the_one
