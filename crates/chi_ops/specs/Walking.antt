-- A walk along ints by equal steps: where it began, where it stands, before what it ends, and its step.
use Rattle.std.specs.Prelude.{◌≡◌, ◌≢◌, ◌≤◌, ◌^◌, false, ℤ, pos, unsigned_abs, List}
use Rattle.chi_ops.specs.declared.walk.Walk.{Walk}
use Rattle.chi_ops.specs.Progression.{comes_before, progression}

-- the ints that are still to come
abbrev pub rest_of : Walk → List ℤ
rest_of walk = progression walk.next walk.last walk.by

-- the step is not 0, no number is far out, and the walk does not stand before where it began
pub record IsWalk (walk : Walk) : Type 0 where
  pub moves : walk.by ≢ pos 0
  pub step : unsigned_abs walk.by ≤ 2 ^ 64
  pub first : unsigned_abs walk.first ≤ 2 ^ 64
  pub last : unsigned_abs walk.last ≤ 2 ^ 64
  pub ahead : comes_before walk.by walk.next walk.first ≡ false
