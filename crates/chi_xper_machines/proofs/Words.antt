-- How an experiment ended has one word and one line.
use Rattle.std.proofs.Common.{◌≡◌, ◌≢◌, ℕ, ℤ, List, ◌++◌, Option, refl, ap}
use Rattle.std.specs.Prelude.{Some, None, codes, slice_get}
use Rattle.std.specs.Fmt.{decimal}
use Rattle.chi_core.specs.declared.experiment.XperDef.{XperDef}
use Rattle.chi_core.specs.declared.program.Core.{Core}
use Rattle.chi_core.specs.declared.program.ProcDef.{ProcDef}
use Rattle.chi_core.specs.declared.verdict.Verdict.{Verdict}
use Rattle.chi_core.specs.declared.verdict.Verdict.TheVariants as by
use Rattle.chi_core.specs.Fault.{kind_name}
use Rattle.chi_core.specs.VerdictLine.{verdict_line_of}
use Rattle.chi_xper.specs.Experiments.{End, Run, exit_value}
use Rattle.chi_xper_machines.specs.declared.tale.Ended.{Ended}
use Rattle.chi_xper_machines.specs.Closings.{word_by}
use Rattle.chi_xper_machines.specs.Laws.{OneWord, OneLine}
use Rattle.chi_xper_machines.specs.Trials as trials
use Rattle.chi_xper_machines.specs.Trials.{EndOf, TellsEnd, after_runs}

same_word : (it : End) (e f : Ended) → EndOf it e → EndOf it f → e ≡ f
same_word _ _ _ (trials.EndOf.done count) (trials.EndOf.done _) = refl
same_word _ _ _ (trials.EndOf.run_completed number model clock) (trials.EndOf.run_completed _ _ _) = refl
same_word _ _ _ (trials.EndOf.run_exited number model clock) (trials.EndOf.run_exited _ _ _) = refl
same_word _ _ _ (trials.EndOf.run_deadlocked number model clock) (trials.EndOf.run_deadlocked _ _ _) = refl
same_word _ _ _ (trials.EndOf.run_faulted number model kind name line clock) (trials.EndOf.run_faulted _ _ _ _ _ _) = refl
same_word _ _ _ (trials.EndOf.run_spent number model clock) (trials.EndOf.run_spent _ _ _) = refl
same_word _ _ _ (trials.EndOf.fault kind line count) (trials.EndOf.fault _ _ _) = refl
same_word _ _ _ (trials.EndOf.spent count) (trials.EndOf.spent _) = refl

pub one_word : OneWord
one_word _ _ _ trials.EndsSo.missing trials.EndsSo.missing = refl
one_word _ _ _ (trials.EndsSo.broken ending) (trials.EndsSo.broken _) = refl
one_word _ _ _ (trials.EndsSo.tried told e k) (trials.EndsSo.tried _ f l) = same_word told.end e f k l

some_same : {A : Type 0} (o : Option A) (x y : A) → o ≡ Some x → o ≡ Some y → x ≡ y
some_same o x y h k = cc

same_line : (core : Core) (it : End) (l m : List ℕ) → TellsEnd core it l → TellsEnd core it m → l ≡ m
same_line core _ _ _ (trials.TellsEnd.done count) (trials.TellsEnd.done _) = refl
same_line core _ _ _ (trials.TellsEnd.run number model verdict clock d is) (trials.TellsEnd.run _ _ _ _ other here) =
    ap (λ (p : ProcDef). codes "run " ++ decimal number ++ codes " of " ++ p.name ++ codes ": " ++ verdict_line_of core.names.kinds verdict clock)
    (some_same (slice_get core.procs model) d other is here)
same_line core _ _ _ (trials.TellsEnd.fault kind line count x is) (trials.TellsEnd.fault _ _ _ other here) =
    ap (λ (p : XperDef). codes "fault " ++ kind_name kind ++ codes " in " ++ p.name ++ codes " line " ++ decimal line ++ after_runs count)
    (some_same (slice_get core.xpers 0) x other is here)
same_line core _ _ _ (trials.TellsEnd.spent count) (trials.TellsEnd.spent _) = refl

pub one_line : OneLine
one_line core _ _ _ trials.Logs.missing trials.Logs.missing = refl
one_line core _ _ _ (trials.Logs.broken ending) (trials.Logs.broken _) = refl
one_line core _ _ _ (trials.Logs.tried told l k) (trials.Logs.tried _ m h) = same_line core told.end l m k h

-- a run that ends an experiment has its word
pub word_of_run : (number model : ℕ) (verdict : Verdict) (clock : ℤ) → exit_value verdict ≡ None → verdict ≢ by.Stopped → EndOf (Run number model verdict clock) (word_by verdict)
word_of_run number model by.Completed clock none goes_on = trials.EndOf.run_completed number model clock
word_of_run number model (by.Exit None) clock none goes_on = trials.EndOf.run_exited number model clock
word_of_run number model (by.Exit (Some v)) clock none goes_on = absurd (cc)
word_of_run number model by.Deadlock clock none goes_on = trials.EndOf.run_deadlocked number model clock
word_of_run number model (by.Fault kind name line) clock none goes_on = trials.EndOf.run_faulted number model kind name line clock
word_of_run number model by.OutOfSteps clock none goes_on = trials.EndOf.run_spent number model clock
word_of_run number model by.Stopped clock none goes_on = absurd (goes_on refl)
