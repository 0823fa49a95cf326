-- How the machine begins.
use Rattle.std.specs.Prelude.{◌≡◌, ℕ, ℤ, pos, List, [], ◌∷◌, Option, Some, slice_get}
use Rattle.chi_value.specs.declared.value.Value.{Value}
use Rattle.chi_code.specs.declared.code.Code.{Code}
use Rattle.chi_code.specs.declared.code.Entry.{Entry}
use Rattle.chi_machine_laws.specs.Beginning.{Ready, Broken, broken_at, Begins}
use Rattle.chi_machine_laws.specs.Deeds.{held_of}
use Rattle.chi_machine.specs.declared.beginning.Begun.{Begun}
use Rattle.chi_machine.specs.declared.beginning.Begun.TheVariants as begun
use Rattle.chi_machine.specs.declared.crowd.Crowd.{Crowd}
use Rattle.chi_machine.specs.Crowds.{IsCrowd, IsWorld}
use Rattle.chi_machine.specs.Views.{instances_of, whole_of}

-- the model's instance is there alone, with these arguments, at the time 0.0
pub record IsFirst (code : Code) (arguments : List Value) (stop : Option ℤ) (c : Crowd) : Type 0 where
  pub kept : IsCrowd c
  pub clock : c.agenda.clock ≡ pos 0
  pub until : c.agenda.until ≡ stop
  pub held : (entry : Entry) → slice_get code.procs code.model ≡ Some entry → instances_of c ≡ held_of code code.model entry arguments ∷ []

-- The machine begins so by the laws, in a world that is as ever; or it ends with a fault.
abbrev pub HasBegun : Code → List Value → ℕ → Option ℤ → Begun → Type 0
HasBegun code arguments seed until (begun.Ready w) = Begins code arguments seed until 0 [] (Ready (whole_of w)) × IsWorld code w
HasBegun code arguments seed until (begun.Broken kind line) = Begins code arguments seed until 0 [] (Broken (broken_at kind line))
