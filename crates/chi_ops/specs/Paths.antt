-- The steps that a path is.
use Rattle.std.specs.Prelude.{Bool, true, false, List, map}
use Rattle.chi_value.specs.declared.value.Value.TheVariants as value
use Rattle.chi_ops.specs.declared.path.Path.{Path}
use Rattle.chi_ops.specs.declared.path.Path.TheVariants as path
use Rattle.chi_ops.specs.Kinds.{is_int}
use Rattle.chi_ops.specs.Store.{Step, by, part}

abbrev pub step_of : Path → Step
step_of (path.At i) = by (value.Int i)
step_of (path.Key key) = by key
step_of (path.Part k) = part k

abbrev pub steps_of : List Path → List Step
steps_of = map step_of

-- a step by an int
abbrev pub is_index : Step → Bool
is_index (by i) = is_int i
is_index (part k) = false

-- a step by an index or a key
abbrev pub is_by : Step → Bool
is_by (by i) = true
is_by (part k) = false
