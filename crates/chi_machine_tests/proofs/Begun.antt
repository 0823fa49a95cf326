-- A run of a sound program may begin, and goes on as one.
use Rattle.std.proofs.Common.{◌≡◌, ◌<◌, ◌^◌, ℕ, ℤ, List, [], Option, Some, sym, subst, ◌∙◌}
use Rattle.std.specs.Prelude.{slice_get}
use Rattle.chi_value.specs.declared.value.Value.{Value}
use Rattle.chi_core.specs.declared.program.Core.{Core}
use Rattle.chi_core.specs.declared.program.ProcDef.{ProcDef}
use Rattle.chi_core.specs.Kinds.{kinds_of}
use Rattle.chi_core.specs.Of.{at_start, AreOf, none_of}
use Rattle.chi_code.specs.declared.code.Code.{Code}
use Rattle.chi_machine.specs.declared.machine.Machine.{Machine}
use Rattle.chi_machine.specs.declared.machine.Machine.TheVariants.{Going, Ended, Lost}
use Rattle.chi_machine.specs.Calls.{IsMachine, MayBegin, StartsSo}
use Rattle.chi_machine_tests.specs.Programs.{HasCode}

pub may_begin : (core : Core) (code : Code) → HasCode core code → (d : ProcDef) → slice_get core.procs core.model ≡ Some d → d.params ≡ [] → (bound : ℕ) → bound < 2 ^ 63 → MayBegin code [] bound
may_begin core code has d there none bound l = record {
  core = core;
  codes = has.codes;
  sound = has.sound;
  model_takes = λ other e.
      let same : d ≡ other = cc (sym there ∙ e) in
      subst (λ (p : ProcDef). AreOf (at_start core.names.kinds) [] (kinds_of p.params)) same (subst (λ ts. AreOf (at_start core.names.kinds) [] (kinds_of ts)) (sym none) none_of);
  bounded = l;
}

pub is_begun : (code : Code) (arguments : List Value) (seed : ℕ) (until : Option ℤ) (bound : ℕ) (machine : Machine) → StartsSo code arguments seed until bound machine → IsMachine code machine
is_begun code arguments seed until bound (Going course) s = s.3
is_begun code arguments seed until bound (Ended end) s = tt
is_begun code arguments seed until bound Lost s = tt
