-- What the code of constants sets.
use Rattle.std.specs.Prelude.{◌≡◌, ℕ, ℤ, true, List, [], Option, Some, None, length, nat_eq, slice_get}
use Rattle.chi_value.specs.declared.value.Value.{Value}
use Rattle.chi_core.specs.declared.fault.FaultKind.{FaultKind}
use Rattle.chi_code.specs.declared.code.Code.{Code}
use Rattle.chi_code.specs.declared.code.Entry.{Entry}
use Rattle.chi_machine_laws.specs.Beginning.{Begun, Ready, Broken, broken_at, first_whole, Begins}
use Rattle.chi_machine_constants.specs.declared.setting.Constants.{Constants}
use Rattle.chi_machine_constants.specs.declared.setting.Constants.TheVariants as constants

abbrev pub or_else : {A : Type 0} → Option A → Option A → Option A
or_else None other = other
or_else (Some x) other = Some x

-- from a place on, after constants of these values, the machine begins somehow
abbrev pub MayBegin : Code → ℕ → ℕ → List Value → Type 0
MayBegin code seed a before = (arguments : List Value) × (until : Option ℤ) × (o : Begun) × Begins code arguments seed until a before o

-- A place, after constants of these values, leads to another, after more of them: as the machine begins from there, so it
-- does from here, and not otherwise.
pub record LeadsTo (code : Code) (seed : ℕ) (a : ℕ) (before : List Value) (b : ℕ) (values : List Value) : Type 0 where
  pub on : (arguments : List Value) (until : Option ℤ) (o : Begun) → Begins code arguments seed until a before o → Begins code arguments seed until b values o
  pub back : (arguments : List Value) (until : Option ℤ) (o : Begun) → Begins code arguments seed until b values o → Begins code arguments seed until a before o

-- All are set, and these are their values: with any arguments that its process takes the model's instance is there alone, and
-- the machine doesn't begin with others.
pub record AreSet (code : Code) (seed : ℕ) (values : List Value) : Type 0 where
  pub ready : (arguments : List Value) (until : Option ℤ) (entry : Entry) → slice_get code.procs code.model ≡ Some entry → nat_eq (length arguments) entry.arity ≡ true
      → Begins code arguments seed until 0 [] (Ready (first_whole code seed until arguments values entry))
  pub model : (arguments : List Value) (until : Option ℤ) (o : Begun) → Begins code arguments seed until 0 [] o
      → (entry : Entry) × (slice_get code.procs code.model ≡ Some entry) × (nat_eq (length arguments) entry.arity ≡ true)

-- a fault in a constant of this line ends the run before it begins
abbrev pub IsBroken : Code → ℕ → ℕ → List Value → FaultKind → ℕ → Type 0
IsBroken code seed a before kind line = (arguments : List Value) (until : Option ℤ) → Begins code arguments seed until a before (Broken (broken_at kind line))

abbrev pub HaveCome : Code → ℕ → Constants → Type 0
HaveCome code seed (constants.Set values) = AreSet code seed values.items
HaveCome code seed (constants.Broken kind line) = IsBroken code seed 0 [] kind line
