-- A run of a program's code: its start, and its calls.
use Rattle.std.proofs.Common.{◌≡◌, ℕ, ◌<◌, ◌^◌, ℤ, List, ◌++◌, [], Option, Some, None, refl, sym, subst, arith}
use Rattle.std.specs.Prelude.{Result, Ok, IfOk}
use Rattle.chi_sched.specs.Policies.{Answers}
use Rattle.chi_core.specs.Options.{Ending}
use Rattle.chi_core.specs.Picks.{Pick}
use Rattle.chi_value.specs.declared.value.Value.{Value}
use Rattle.chi_core.specs.declared.program.Core.{Core}
use Rattle.chi_core.specs.Beginning.{Beginning, Begins, Breaks, start}
use Rattle.chi_core.specs.Beginning as beginning
use Rattle.chi_core.specs.Sound.{Sound}
use Rattle.chi_core_kinds.specs.Keeps.{BeginsKinded, BeginsAlways}
use Rattle.chi_code.specs.declared.code.Code.{Code}
use Rattle.chi_code.specs.Codes.{Codes}
use Rattle.chi_machine_laws.specs.Beginning.{Begun, Ready, Broken, BeginsAlike}
use Rattle.chi_machine_laws.specs.Beginning as law
use Rattle.chi_machine_laws.specs.Instances.{Whole}
use Rattle.chi_machine_laws.specs.Stands.{Stands}
use Rattle.chi_machine_laws.specs.Laws.{BeginningsFollow, BeginningsAreRight}
use Rattle.chi_machine.specs.declared.course.Course.{Course}
use Rattle.chi_machine.specs.declared.world.World.{World}
use Rattle.chi_machine.specs.declared.machine.After.TheVariants as stands
use Rattle.chi_machine.specs.declared.machine.Machine.{Machine}
use Rattle.chi_machine.specs.declared.machine.Machine.TheVariants.{Going, Ended}
use Rattle.chi_machine.specs.Calls.{MayBegin, CallsTo}
use Rattle.chi_machine.specs.Courses.{IsCourse, AdvancesTo}
use Rattle.chi_machine.specs.Crowds.{IsWorld}
use Rattle.chi_machine.specs.Sane.{IsSane}
use Rattle.chi_machine.specs.Views.{whole_of}

-- it begins somehow
some_begin : (core : Core) (code : Code) (P : Begun → Type 0) (b : Beginning) → BeginsKinded core b → BeginsAlike core code P b → (o : Begun) × P o
some_begin core code P (Begins config) kinded alike = (Ready alike.0, alike.1)
some_begin core code P (Breaks end) kinded alike = (Broken end, alike)
some_begin core code P beginning.Amiss kinded alike = absurd kinded

-- where it begins ready, it stands for a kinded configuration
sane_begin : (core : Core) (code : Code) (m : Whole) (turn bound : ℕ) → Codes core code → Sound core → turn ≡ 0 → bound < 2 ^ 63 → (b : Beginning) → BeginsKinded core b → BeginsAlike core code (λ u. Ready m ≡ u) b → IsSane code turn m bound
sane_begin core code m turn bound codes sound at bounded (Begins config) kinded alike =
    record { core = core; codes = codes; sound = sound; config = config; bound = (kinded, omega (arith, at, bounded)); stands = (let same : alike.0 ≡ m = cc in subst (Stands core code config) same alike.2) }
sane_begin core code m turn bound codes sound at bounded (Breaks end) kinded alike = absurd (cc)
sane_begin core code m turn bound codes sound at bounded beginning.Amiss kinded alike = absurd kinded

module _ (begins : BeginningsFollow) (exact : BeginningsAreRight) (kinded : (core : Core) → Sound core → BeginsAlways core) (code : Code) (arguments : List Value) (seed : ℕ) (stop : Option ℤ) (bound : ℕ) (may : MayBegin code arguments bound) where
  well : BeginsKinded may.core (start may.core arguments seed stop)
  well = let m = may.sound.model in kinded may.core may.sound m.0 m.1 arguments (may.model_takes m.0 m.1) seed stop

  pub begins_somehow : (o : Begun) × law.Begins code arguments seed stop 0 [] o
  begins_somehow = some_begin may.core code (law.Begins code arguments seed stop 0 []) (start may.core arguments seed stop) well (begins may.core code may.codes arguments seed stop)

  pub begins_course : (w : World) → law.Begins code arguments seed stop 0 [] (Ready (whole_of w)) → IsWorld code w → IsCourse code (record { world = w; turn = 0; left = bound })
  begins_course w b kept = record {
    kept = kept;
    sane = sane_begin may.core code (whole_of w) 0 bound may.codes may.sound refl may.bounded (start may.core arguments seed stop) well (exact may.core code may.codes arguments seed stop (Ready (whole_of w)) b);
  }

-- A call, from where a run goes on.
module _ (code : Code) (gives : ℕ → ℕ → ℕ → Type 0) (turns : ℕ) (before later : List ℕ) (old new : Course) where
  abbrev pub Came : Option Ending → Type 0
  Came end = (text : List ℕ) × (later ≡ before ++ text) × ((pick : Pick) → Answers gives pick → AdvancesTo code pick turns old new end text)

  pub call_kept : {E : Type 0} (r : Result (Option Ending) E) → r ≡ Ok None → IfOk r Came → (pick : Pick) → Answers gives pick → IsCourse code new
  call_kept r e came pick answers = let h : Came None = subst (λ r. IfOk r Came) e came in (h.2 pick answers).1

  module _ (m : Machine) (is : m ≡ Going old) where
    pub call_goes : {E : Type 0} (r : Result (Option Ending) E) → r ≡ Ok None → IfOk r Came
        → (text : List ℕ) × (later ≡ before ++ text) × ((pick : Pick) → Answers gives pick → CallsTo code pick turns m (Going new) text stands.Going)
    call_goes r e came =
        let h : Came None = subst (λ r. IfOk r Came) e came in
        (h.0, h.1, λ pick answers. subst (λ m. CallsTo code pick turns m (Going new) h.0 stands.Going) (sym is) (h.2 pick answers).0)

    pub call_ends : {E : Type 0} (end : Ending) (r : Result (Option Ending) E) → r ≡ Ok (Some end) → IfOk r Came
        → (text : List ℕ) × (later ≡ before ++ text) × ((pick : Pick) → Answers gives pick → CallsTo code pick turns m (Ended end) text stands.Ended)
    call_ends end r e came =
        let h : Came (Some end) = subst (λ r. IfOk r Came) e came in
        (h.0, h.1, λ pick answers. subst (λ m. CallsTo code pick turns m (Ended end) h.0 stands.Ended) (sym is) (h.2 pick answers))
