-- A run of a program's code begins.
use Rattle.std.proofs.Common.{◌≡◌, ℕ, ◌<◌, ◌^◌, ℤ, List, [], Option, sym, subst, arith}
use Rattle.chi_value.specs.declared.value.Value.{Value}
use Rattle.chi_core.specs.declared.program.Core.{Core}
use Rattle.chi_core.specs.Beginning.{Beginning, Begins, Breaks, start}
use Rattle.chi_core.specs.Beginning as beginning
use Rattle.chi_core.specs.Options.{Ending}
use Rattle.chi_core.specs.Picks.{Pick}
use Rattle.chi_core.specs.Sound.{Sound}
use Rattle.chi_core_kinds.specs.Keeps.{BeginsAlways, BeginsKinded}
use Rattle.chi_core_runs.specs.Turns.{UnderWay, WayBegins}
use Rattle.chi_code.specs.declared.code.Code.{Code}
use Rattle.chi_machine_laws.specs.Beginning.{BeginsAlike, Broken, Ready}
use Rattle.chi_machine_laws.specs.Beginning as law
use Rattle.chi_machine_laws.specs.Laws.{BeginningsAreRight}
use Rattle.chi_machine_laws.specs.Stands.{Stands}
use Rattle.chi_machine_told.specs.Below.chi_machine.specs.declared.course.Course.{Course}
use Rattle.chi_machine_told.specs.Below.chi_machine.specs.Views.{whole_of}
use Rattle.chi_trace.specs.declared.filter.Filter.{Filter}
use Rattle.chi_trace_events.specs.Traces.{IsLogged}
use Rattle.chi_machine_traces.specs.declared.run.Telling.{Telling}
use Rattle.chi_machine_traces.specs.Told.{IsTold, RunsCode}
use Rattle.chi_machine_traces.specs.Turns.{first_log, LoggedSoFar, IsUnderWay}
use Rattle.chi_machine_traces.proofs.Logged.{TraceLaw, log_begins, log_of_none}

module _ (traces : TraceLaw) (trace : Option Filter) (core : Core) (code : Code) (pick : Pick) (bound : ℕ) (told : Telling) (silent : told.out.items ≡ []) (fresh : told.log.items ≡ first_log trace) where
  -- it is under way, where the machine is ready
  ready_at : WayBegins → (arguments : List Value) → RunsCode core code arguments → bound < 2 ^ 63 → (c : Course) → c.turn ≡ 0 → c.left ≡ bound
      → (b : Beginning) → BeginsKinded core b → BeginsAlike core code (λ u. Ready (whole_of c.world) ≡ u) b → IsUnderWay trace core code b pick bound [] c told
  ready_at ways arguments runs few c first all (Begins config) kinded alike =
      let same : alike.0 ≡ whole_of c.world = (let e = alike.1 in cc) in
      record {
        codes = runs.codes;
        sound = runs.sound;
        config = config;
        stands = subst (Stands core code config) same alike.2;
        within = (kinded, omega (arith, first, all, few));
        labels = [];
        counted = sym first;
        way = subst (λ out. UnderWay core (Begins config) pick bound [] out config c.left) (sym silent) (subst (UnderWay core (Begins config) pick bound [] [] config) (sym all) (ways core pick bound config));
        logged = subst (λ log. LoggedSoFar trace core (Begins config) bound [] log config c.left) (sym fresh)
            (subst (LoggedSoFar trace core (Begins config) bound [] (first_log trace) config) (sym all) (log_begins traces core trace config bound));
      }
  ready_at ways arguments runs few c first all (Breaks end) kinded alike = absurd (cc)
  ready_at ways arguments runs few c first all beginning.Amiss kinded alike = absurd kinded

  -- a fault in a constant has ended it
  broken_at : (end : Ending) (b : Beginning) → BeginsKinded core b → BeginsAlike core code (λ u. Broken end ≡ u) b → IsTold trace core b pick bound [] (record { ending = end; told = told })
  broken_at end (Begins config) kinded alike = let e : Broken end ≡ Ready alike.0 = alike.1 in absurd (cc)
  broken_at end (Breaks other) kinded alike =
      let same : other ≡ end = cc in
      record {
        labels = [];
        picked = λ i. record { labels = []; ending = sym same i; output = silent i };
        logged = subst (IsLogged trace core (Breaks other) bound (record { labels = []; ending = end; output = told.out.items })) (sym fresh) (log_of_none traces core trace other end bound told.out.items);
      }
  broken_at end beginning.Amiss kinded alike = absurd kinded

  module _ (exact : BeginningsAreRight) (always : (core : Core) → Sound core → BeginsAlways core) (arguments : List Value) (seed : ℕ) (until : Option ℤ) (runs : RunsCode core code arguments) where
    kinded : BeginsKinded core (start core arguments seed until)
    kinded = let m = runs.sound.model in always core runs.sound m.0 m.1 arguments (runs.model_takes m.0 m.1) seed until

    pub begins_going : WayBegins → bound < 2 ^ 63 → (c : Course) → c.turn ≡ 0 → c.left ≡ bound → law.Begins code arguments seed until 0 [] (Ready (whole_of c.world))
        → IsUnderWay trace core code (start core arguments seed until) pick bound [] c told
    begins_going ways few c first all b =
        ready_at ways arguments runs few c first all (start core arguments seed until) kinded (exact core code runs.codes arguments seed until (Ready (whole_of c.world)) b)

    pub begins_ended : (end : Ending) → law.Begins code arguments seed until 0 [] (Broken end) → IsTold trace core (start core arguments seed until) pick bound [] (record { ending = end; told = told })
    begins_ended end b = broken_at end (start core arguments seed until) kinded (exact core code runs.codes arguments seed until (Broken end) b)
