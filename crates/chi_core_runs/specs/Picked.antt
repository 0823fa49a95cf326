-- What a policy picks is a derivation; and of a sound program a lawful policy picks exactly one.
use Rattle.std.specs.Prelude.{◌≡◌, ℕ, ◌^◌, ◌<◌, ℤ, Option, Some, List, slice_get}
use Rattle.chi_value.specs.declared.value.Value.{Value}
use Rattle.chi_core.specs.declared.program.Core.{Core}
use Rattle.chi_core.specs.declared.program.ProcDef.{ProcDef}
use Rattle.chi_core.specs.Beginning.{Beginning, start}
use Rattle.chi_core.specs.Kinds.{kinds_of}
use Rattle.chi_core.specs.Of.{at_start, AreOf}
use Rattle.chi_core.specs.Picks.{Pick, IsLawful, Picked}
use Rattle.chi_core.specs.Runs.{Told, Derivation}
use Rattle.chi_core.specs.Sound.{Sound}

-- so a run of the program begins, with arguments of the kinds of its model's parameters
pub record IsBeginning (core : Core) (beginning : Beginning) : Type 0 where
  pub model : ProcDef
  pub is : slice_get core.procs core.model ≡ Some model
  pub arguments : List Value
  pub fit : AreOf (at_start core.names.kinds) arguments (kinds_of model.params)
  pub seed : ℕ
  pub until : Option ℤ
  pub begins : beginning ≡ start core arguments seed until

-- what a policy picks is a derivation
abbrev pub PickedIsDerived : Type 0
PickedIsDerived =
    (core : Core) (beginning : Beginning) (pick : Pick) (bound : ℕ) (told : Told)
    → Picked core beginning pick bound told → Derivation core beginning bound told

-- no policy picks two runs
abbrev pub PickedOnce : Type 0
PickedOnce =
    (core : Core) (beginning : Beginning) (pick : Pick) (bound : ℕ) (told other : Told)
    → Picked core beginning pick bound told → Picked core beginning pick bound other → told ≡ other

-- this run and no other
abbrev pub PicksOnly : Core → Beginning → Pick → ℕ → Told → Type 0
PicksOnly core beginning pick bound told =
    Picked core beginning pick bound told × ((other : Told) → Picked core beginning pick bound other → other ≡ told)

-- of a sound program a lawful policy picks exactly one run, within any bound below 2 ^ 63
abbrev pub PickedAlways : Type 0
PickedAlways =
    (core : Core) → Sound core → (beginning : Beginning) → IsBeginning core beginning
    → (pick : Pick) → IsLawful pick → (bound : ℕ) → bound < 2 ^ 63 → (told : Told) × PicksOnly core beginning pick bound told
