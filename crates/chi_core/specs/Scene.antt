-- What evaluations read beside variables.
use Rattle.std.specs.Prelude.{ℕ, Bool, false, nat_lt, Option, Some, None, slice_get, if◌then◌else◌}
pub use Rattle.chi_core.specs.declared.scene.Scene.{Scene}

-- of an instance that there was before the step, what the scene tells; one that was made in it isn't finished
abbrev pub finished_or_new : Option Bool → ℕ → ℕ → Option Bool
finished_or_new (Some finished) p instances = Some finished
finished_or_new None p instances = if nat_lt p instances then Some false else None

-- whether instance p is finished, where there are so many instances
abbrev pub finished_at : Scene → ℕ → ℕ → Option Bool
finished_at scene instances p = finished_or_new (slice_get scene.finished p) p instances
