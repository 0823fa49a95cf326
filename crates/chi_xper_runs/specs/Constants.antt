-- The constants of a program, before its experiment begins.
use Rattle.std.specs.Prelude.{◌≡◌, ◌≢◌, ℕ, pos, List, [], ◌∷◌, ◌++◌, codes}
use Rattle.chi_value.specs.declared.value.Value.{Value}
use Rattle.chi_core.specs.declared.program.ConstDef.{ConstDef}
use Rattle.chi_core.specs.declared.program.Core.{Core}
use Rattle.chi_core.specs.declared.verdict.Verdict.TheVariants.{Fault}
use Rattle.chi_core.specs.Answer as answer
use Rattle.chi_core.specs.Answer.{Answer, Gives, Fails}
use Rattle.chi_core.specs.Beginning.{constant_value}
use Rattle.chi_core.specs.Kinded.{KindedConstants}
use Rattle.chi_core.specs.Options.{Ending}
use Rattle.chi_core.specs.Sound.{Sound}

-- All have a value, in file order; or a fault in one of them ends it, as it ends a run. It is amiss where something isn't there, which
-- never happens in a sound program.
pub data Constants : Type 0 where
  Set : List Value → Constants
  Breaks : Ending → Constants
  Amiss : Constants

module _ (core : Core) (seed : ℕ) where
  abbrev pub with_constant : (List Value → Constants) → List Value → ConstDef → Answer Value → Constants
  with_constant rest before c (Gives v view) = rest (before ++ v ∷ [])
  with_constant rest before c (Fails kind) = Breaks (record { verdict = Fault kind (codes "const") c.line; clock = pos 0 })
  with_constant rest before c answer.Spent = Amiss
  with_constant rest before c answer.Amiss = Amiss

  -- the constants that are left, after those whose values these are
  abbrev pub set_after : List Value → List ConstDef → Constants
  set_after values [] = Set values
  set_after values (c ∷ cs) = with_constant (λ more. set_after more cs) values c (constant_value core seed values c)

  -- the constants of a program
  abbrev pub constants : Constants
  constants = set_after [] core.consts

-- those of a sound program are of their kinds, where no fault ends it
abbrev pub ConstantsAreSet : Type 0
ConstantsAreSet =
    (core : Core) → Sound core → (seed : ℕ)
    → (constants core seed ≢ Amiss) × ((values : List Value) → constants core seed ≡ Set values → KindedConstants core values)
