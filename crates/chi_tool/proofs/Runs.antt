-- What is asked for with a run, and that one thing comes of it.
use Rattle.std.proofs.Common.{◌≡◌, ℕ, ◌≤◌, List, length, true, Some, refl, sym, subst}
use Rattle.std.specs.Prelude.{slice_get, Result, Ok, Err, IfOk}
use Rattle.chi_cli.specs.declared.args.ArgFault.{ArgFault}
use Rattle.chi_cli.specs.declared.args.ArgFault.TheVariants as arg
use Rattle.chi_cli.specs.Arguments.{values_of, IsRefused}
use Rattle.chi_lex.specs.declared.lexer.TheConstants.{MOST_BYTES}
use Rattle.chi_value.specs.declared.value.Value.{Value}
use Rattle.chi_core.specs.declared.program.Core.{Core}
use Rattle.chi_core.specs.declared.program.ProcDef.{ProcDef}
use Rattle.chi_core.specs.Kinds.{kinds_of}
use Rattle.chi_core.specs.Of.{at_start, AreOf}
use Rattle.chi_core.specs.Picks.{IsLawful}
use Rattle.chi_engine.proofs.Policies.{named_lawful}
use Rattle.chi_engine.specs.Courses.{Course, Runs, MayHave, IsRunOf, ComesToOne, ComesToSome}
use Rattle.chi_engine.specs.Settings.{Settings}
use Rattle.chi_sched.specs.Formulas.{listed_below}
use Rattle.chi_sched.specs.Policies.{listed}
use Rattle.chi_tool.specs.declared.task.PairPurpose.{PairPurpose}
use Rattle.chi_tool.specs.declared.task.PairPurpose.TheVariants.{Replay, OnLog}
use Rattle.chi_tool.specs.declared.task.Purpose.{Purpose}
use Rattle.chi_tool.specs.declared.task.Purpose.TheVariants.{OfProgram, Explain, LayOut}
use Rattle.chi_tool.specs.declared.task.ProgramPurpose.{ProgramPurpose}
use Rattle.chi_tool.specs.declared.task.ProgramPurpose.TheVariants.{Simulate, Check, ListCode, Experiment}
use Rattle.chi_tool.specs.Arguments.{Misfits, is_misfit}
use Rattle.chi_tool.specs.Headline.{IsRunAsked}
use Rattle.chi_tool.specs.Running.{runs_for}
use Rattle.chi_tool.specs.Settings.{Wanted, simulates, replays, judges, checks, lists, tries, Aim, of_program, lays_out, program_aim, aim_of, pair_aim, IsBoundedFor, IsBoundedPair, IsBounded, MayBeAimedAt, MayBeAimed, settings_with}
use Rattle.chi_tool.specs.Sources.{ComesTo}
use Rattle.chi_tool.proofs.LawClauses.{CheckLaw, RunLaw, ValuesLaw, comes_sound}

-- what words ask for is within what is counted, and by a lawful policy
may_be_aimed_at : (purpose : ProgramPurpose) → IsBoundedFor purpose → MayBeAimedAt (program_aim purpose)
may_be_aimed_at (Simulate a) bounded = (bounded, named_lawful a.terms.policy)
may_be_aimed_at Check bounded = tt
may_be_aimed_at ListCode bounded = tt
may_be_aimed_at (Experiment t) bounded = (bounded, named_lawful t.pick)

pub may_be_aimed : (purpose : Purpose) → IsBounded purpose → MayBeAimed (aim_of purpose)
may_be_aimed (OfProgram purpose) bounded = may_be_aimed_at purpose bounded
may_be_aimed (Explain a) bounded = (bounded, named_lawful a.terms.policy)
may_be_aimed LayOut bounded = tt

-- the numbers of a list are such a policy
pub listed_lawful : (numbers : List ℕ) → IsLawful (listed numbers)
listed_lawful numbers question count early some few = listed_below numbers question count (record { numbered = early; some = some; counted = few })

pub pair_may_be_aimed : (purpose : PairPurpose) (text : List ℕ) → IsBoundedPair purpose → MayBeAimedAt (pair_aim purpose text)
pair_may_be_aimed (Replay a) text bounded = bounded
pair_may_be_aimed (OnLog purpose a) text bounded = tt

-- and so is each run that is asked for
pub run_may_be_asked : (aim : Aim) (w : Wanted) → IsRunAsked aim w → MayBeAimed aim → MayBeAimedAt (simulates w)
run_may_be_asked (of_program (simulates v)) w is may = subst (λ (x : Wanted). MayBeAimedAt (simulates x)) (sym is) may
run_may_be_asked (of_program (replays u text)) w is may = subst (λ (x : Wanted). MayBeAimedAt (simulates x)) (sym is.2) (may, listed_lawful is.0)
run_may_be_asked (of_program (judges purpose u text)) w is may = absurd is
run_may_be_asked (of_program checks) w is may = absurd is
run_may_be_asked (of_program lists) w is may = absurd is
run_may_be_asked (of_program (tries t)) w is may = absurd is
run_may_be_asked lays_out w is may = absurd is

-- settings that are wanted may be had
pub asked_settings : ValuesLaw → (core : Core) (w : Wanted) (values : List Value) (d : ProcDef) → slice_get core.procs core.model ≡ Some d
    → values_of d.params w.texts ≡ Ok values → MayBeAimedAt (simulates w) → MayHave core (settings_with w values)
asked_settings kinded core w values d is read bounded = record {
  model = d;
  is = is;
  arguments = kinded core.names.kinds d.params w.texts values read;
  lawful = bounded.1;
  bound = bounded.0;
}

-- of each run that is asked for comes one thing: with an engine, of which that holds, or by the meaning
pub asked_runs : (runs : Runs) → CheckLaw → ComesToSome runs → ComesToOne runs → ComesToSome IsRunOf → ComesToOne IsRunOf → RunLaw runs
asked_runs runs check some one its_some its_one = record { some = some_for; one = one_for }
  where
    found : (its : Runs) → ComesToSome its → (source : List ℕ) (core : Core) → length source ≤ MOST_BYTES → ComesTo source core → (s : Settings) → MayHave core s → (course : Course) × its core s course
    found its there source core within comes s may = there core (comes_sound check source core within comes) s may

    some_for : (aim : Aim) (source : List ℕ) (core : Core) → length source ≤ MOST_BYTES → ComesTo source core → (s : Settings) → MayHave core s → (course : Course) × runs_for runs aim core s course
    some_for (of_program (simulates w)) = found runs some
    some_for (of_program (replays u text)) = found IsRunOf its_some
    some_for (of_program (judges purpose u text)) = found IsRunOf its_some
    some_for (of_program checks) = found IsRunOf its_some
    some_for (of_program lists) = found IsRunOf its_some
    some_for (of_program (tries t)) = found IsRunOf its_some
    some_for lays_out = found IsRunOf its_some

    one_for : (aim : Aim) → ComesToOne (runs_for runs aim)
    one_for (of_program (simulates w)) = one
    one_for (of_program (replays u text)) = its_one
    one_for (of_program (judges purpose u text)) = its_one
    one_for (of_program checks) = its_one
    one_for (of_program lists) = its_one
    one_for (of_program (tries t)) = its_one
    one_for lays_out = its_one

-- what follows of a result, where there is one
pub if_ok : {A E : Type 0} {P Q : A → Type 0} (result : Result A E) → ((a : A) → P a → Q a) → IfOk result P → IfOk result Q
if_ok (Ok r) follows is = follows r is
if_ok (Err lost) follows is = tt

-- the arguments that were read, or the refusal of these

module _ (core : Core) (texts : List (List ℕ)) (d : ProcDef) (is : slice_get core.procs core.model ≡ Some d) where
  pub arguments_fit : ValuesLaw → (values : List Value) → values_of d.params texts ≡ Ok values
      → (e : ProcDef) → slice_get core.procs core.model ≡ Some e → AreOf (at_start core.names.kinds) values (kinds_of e.params)
  arguments_fit kinded values read e there =
      let same : d ≡ e = cc (is, there) in
      kinded core.names.kinds e.params texts values (subst (λ (x : ProcDef). values_of x.params texts ≡ Ok values) same read)

  abbrev Misread : ArgFault → Type 0
  Misread fault = Misfits core texts (length d.params) fault

  misread : (fault : ArgFault) → values_of d.params texts ≡ Err fault → Misread fault
  misread fault read = record { model = d; is = is; read = read; count = refl }

  pub arguments_refused : (fault : ArgFault) → is_misfit fault ≡ true → IsRefused (values_of d.params texts) fault → Misread fault
  arguments_refused arg.Count other refused = misread arg.Count refused
  arguments_refused (arg.Kind k) other refused = misread (arg.Kind k) refused
  arguments_refused (arg.Text k) other refused = misread (arg.Text k) refused
  arguments_refused arg.NoMemory other refused = absurd (cc)
