-- When each status comes of a call, by how it was served.
use Rattle.std.proofs.Common.{◌≡◌, ◌≢◌, ℕ, ◌≤◌, false, List, length, inl, inr, sym, subst, arith}
use Rattle.chi_io.specs.Shelf.{Files}
use Rattle.chi_lex.specs.declared.lexer.TheConstants.{MOST_BYTES}
use Rattle.chi_core.specs.declared.verdict.Verdict.TheVariants as verdict
use Rattle.chi_engine.specs.Courses.{Runs}
use Rattle.chi_xper_machines.specs.declared.tale.Ended.TheVariants.{Missing, WithoutValue, Deadlocked, Faulted, OutOfSteps}
use Rattle.chi_tool.specs.Call.{Call}
use Rattle.chi_tool.specs.Delivery.{whole, out_broke, log_broke, DeliversReport}
use Rattle.chi_tool.specs.Serving.{Serves, served, refused, ServesPair}
use Rattle.chi_tool.specs.declared.task.Pair.{Pair}
use Rattle.chi_tool.specs.declared.task.Purpose.TheVariants.{OfProgram}
use Rattle.chi_tool.specs.declared.task.ProgramPurpose.TheVariants.{Simulate}
use Rattle.chi_tool.specs.declared.task.Task.{Task}
use Rattle.chi_tool.specs.declared.task.Task.TheVariants.{OfPair}
use Rattle.chi_tool.specs.Headline.{Headline, IsAskedSource, held, beside, made, HasLexicalFault, HasSyntaxFault, IsMistyped, Ends, Tries, EndsOrTries, IsExit, IsFault, HasUnfitArguments, HasMispick, HasNoLog, IsTooLong, IsUnread, CannotBeRead, IsExactly, IsExactlyOf, Causes, IsComplete}
use Rattle.chi_tool.specs.Refusals.{Report, usage}
use Rattle.chi_tool.specs.Settings.{Aim, MayBeAimed, plain, settings_with}
use Rattle.chi_tool.specs.Words.{Wish, nothing, of_task, wish_of}
use Rattle.chi_tool.proofs.Causes.{of_source_status, of_done_status, of_misfit_status, ends_complete}
use Rattle.chi_tool.proofs.Contents.{IsOfFile}
use Rattle.chi_tool.proofs.Endings.{goes_stopped, Breaks, Ended, ended_for, delivered_ended, silent_ended, tells_ended, refuses_ended}
use Rattle.chi_tool.proofs.LawClauses.{RunLaw, CodeLaw, ReportLaw, ValuesLaw, RangeLaw}
use Rattle.chi_tool.proofs.StatusCauses.{StatusOf, exit_status, stopped_status, lexical_status, syntax_status, mistyped_status, unfit_status, mispicked_status, no_log_status, too_long_status}
use Rattle.chi_tool.proofs.TrialCauses.{deadlock_status, fault_status, out_of_steps_status, without_value_status, no_experiment_status}
use Rattle.chi_tool.proofs.TwoFiles.{names_pair, pair_one, pair_ended}
use Rattle.chi_tool.proofs.Promises.{IsLost, met_of, asks_something, names_file, served_one, named-headline, usage-headline, lost-headline}
use Rattle.chi_tool.proofs.Runs.{may_be_aimed, pair_may_be_aimed, run_may_be_asked, asked_settings}
use Rattle.chi_tool.proofs.Wishes.{IsBoundedWish, bounded_wish, factory_within}

-- what is asked for is within what is counted
asked_bound : RangeLaw → (call : Call) (files : Files) (aim : Aim) (source : List ℕ) → IsAskedSource call files aim source → MayBeAimed aim
asked_bound bounds call files aim source (held name purpose asked there within same) =
    subst MayBeAimed (sym same) (may_be_aimed purpose (subst IsBoundedWish asked (bounded_wish bounds call.words)))
asked_bound bounds call files aim source (beside pair text asked there within also short same) =
    subst MayBeAimed (sym same) (pair_may_be_aimed pair.purpose text (subst IsBoundedWish asked (bounded_wish bounds call.words)))
asked_bound bounds call files aim source (made size asked same plainly) = subst MayBeAimed (sym plainly) (may_be_aimed (OfProgram (Simulate plain)) (omega arith))

-- and its source within the limit
asked_within : RangeLaw → (call : Call) (files : Files) (aim : Aim) (source : List ℕ) → IsAskedSource call files aim source → length source ≤ MOST_BYTES
asked_within bounds call files aim source (held name purpose asked there within same) = within
asked_within bounds call files aim source (beside pair text asked there within also short same) = within
asked_within bounds call files aim source (made size asked same plainly) =
    subst (λ s. length s ≤ MOST_BYTES) (sym same) (factory_within size (subst IsBoundedWish asked (bounded_wish bounds call.words)))

-- the parts of the causes that rest on how the call was served
module _ (runs : Runs) (law : ReportLaw runs) (coded : CodeLaw) (call : Call) (head : Headline runs call) where
  of_source : (n : ℕ) (P : Aim → List ℕ → Type 0) → StatusOf runs n P → (n ≢ 5) → (n ≢ 0) × (n ≢ 24) → IsExactlyOf call n P
  of_source = of_source_status runs law coded call head

  pub causes : Breaks call.status call.out call.log
      → (call.out.stopped ≡ false → call.log.stopped ≡ false → IsExactly call 3 (wish_of call.words ≡ nothing))
      → (call.status ≡ 4 → CannotBeRead call.shelf (wish_of call.words)) → Causes runs call
  causes breaks request unread = record {
    done = of_done_status runs law coded call head;
    exit = of_source 10 (Ends runs IsExit) (exit_status runs) (λ e. omega arith) (λ e. omega arith, λ e. omega arith);
    deadlock = of_source 11 (EndsOrTries runs (λ v. v ≡ verdict.Deadlock) Deadlocked) (deadlock_status runs) (λ e. omega arith) (λ e. omega arith, λ e. omega arith);
    fault = of_source 12 (EndsOrTries runs IsFault Faulted) (fault_status runs) (λ e. omega arith) (λ e. omega arith, λ e. omega arith);
    out_of_steps = of_source 13 (EndsOrTries runs (λ v. v ≡ verdict.OutOfSteps) OutOfSteps) (out_of_steps_status runs) (λ e. omega arith) (λ e. omega arith, λ e. omega arith);
    stopped = of_source 14 (Ends runs (λ v. v ≡ verdict.Stopped)) (stopped_status runs) (λ e. omega arith) (λ e. omega arith, λ e. omega arith);
    without_value = of_source 15 (Tries WithoutValue) (without_value_status runs) (λ e. omega arith) (λ e. omega arith, λ e. omega arith);
    no_experiment = of_source 28 (Tries Missing) (no_experiment_status runs) (λ e. omega arith) (λ e. omega arith, λ e. omega arith);
    lexical = of_source 20 (λ aim. HasLexicalFault) (lexical_status runs) (λ e. omega arith) (λ e. omega arith, λ e. omega arith);
    syntax = of_source 21 (λ aim. HasSyntaxFault) (syntax_status runs) (λ e. omega arith) (λ e. omega arith, λ e. omega arith);
    typing = of_source 22 IsMistyped (mistyped_status runs) (λ e. omega arith) (λ e. omega arith, λ e. omega arith);
    arguments = of_source 23 HasUnfitArguments (unfit_status runs) (λ e. omega arith) (λ e. omega arith, λ e. omega arith);
    mispicked = of_source 26 HasMispick (mispicked_status runs) (λ e. omega arith) (λ e. omega arith, λ e. omega arith);
    no_log = of_source 25 HasNoLog (no_log_status runs) (λ e. omega arith) (λ e. omega arith, λ e. omega arith);
    layout_too_long = of_source 27 IsTooLong (too_long_status runs) (λ e. omega arith) (λ e. omega arith, λ e. omega arith);
    misfit = of_misfit_status runs law coded call head;
    no_request = request;
    not_read = unread;
    not_written = (breaks.stops, breaks.tells);
    out_failed = breaks.out_failed;
    log_failed = breaks.log_failed;
  }

  pub complete : RunLaw runs → ValuesLaw → RangeLaw → IsComplete runs call
  complete ran fit bounds =
      λ files well aim source asked w is core comes arguments means.
      let bounded = run_may_be_asked aim w is (asked_bound bounds call files aim source asked) in
      let its = ran.some aim source core (asked_within bounds call files aim source asked) comes (settings_with w arguments) (asked_settings fit core w arguments means.model means.is means.read bounded) in
      (its.0, its.1, ends_complete runs law coded call files (met_of runs call head files well) aim source asked w is core comes arguments means its.0 its.1)

-- of a task
module _ (runs : Runs) (t : Task) (call : Call) (asked : wish_of call.words ≡ of_task t) (law : ReportLaw runs) (coded : CodeLaw) (head : Headline runs call)
    (ended : Ended ⊥ (CannotBeRead call.shelf (of_task t)) call.status call.out call.log) where
  pub task-causes : Causes runs call
  task-causes =
      causes runs law coded call head ended.breaks
      (λ out log. ((λ is. absurd (ended.request is)), λ none. absurd (asks_something (wish_of call.words) t asked none)))
      (λ is. let Q : Wish → Type 0 = CannotBeRead call.shelf in subst Q (sym asked) (ended.unread is))

  pub task-complete : RunLaw runs → ValuesLaw → RangeLaw → IsComplete runs call
  task-complete = complete runs law coded call head

-- of a task with one file
module _ (runs : Runs) (t : Task) (name : List ℕ) (most : ℕ) (P : List ℕ → Report → Type 0) (of : IsOfFile runs t name most P) (call : Call)
    (asked : wish_of call.words ≡ of_task t) (law : ReportLaw runs) where
  served_ended : Serves most P name call.shelf call.status call.out call.log → Ended ⊥ (CannotBeRead call.shelf (of_task t)) call.status call.out call.log
  served_ended (served content is tells) = tells_ended ⊥ _ (P content) call.status call.out call.log (of.own content) tells
  served_ended (refused refuses) =
      ended_for ⊥ (IsUnread most name call.shelf) _ call.status call.out call.log (of.unread call.shelf) (refuses_ended most name ⊥ call.shelf call.status call.out call.log refuses)

  pub served-headline : Serves most P name call.shelf call.status call.out call.log → Headline runs call
  served-headline s =
      named-headline runs call (names_file runs t name most P of (wish_of call.words) asked) (served_one runs t name most P of call asked law s) (served_ended s).stopped

  pub served-causes : CodeLaw → Serves most P name call.shelf call.status call.out call.log → Causes runs call
  served-causes coded s = task-causes runs t call asked law coded (served-headline s) (served_ended s)

  pub served-complete : CodeLaw → RunLaw runs → ValuesLaw → RangeLaw → Serves most P name call.shelf call.status call.out call.log → IsComplete runs call
  served-complete coded ran fit bounds s = task-complete runs t call asked law coded (served-headline s) (served_ended s) ran fit bounds

-- of one with two
module _ (runs : Runs) (pair : Pair) (call : Call) (asked : wish_of call.words ≡ of_task (OfPair pair)) (law : ReportLaw runs) where
  pub pair-headline : ServesPair pair call.shelf call.status call.out call.log → Headline runs call
  pair-headline s = named-headline runs call (names_pair pair (wish_of call.words) asked) (pair_one runs pair call asked law s) (pair_ended pair call.shelf call.status call.out call.log s).stopped

  pub pair-causes : CodeLaw → ServesPair pair call.shelf call.status call.out call.log → Causes runs call
  pair-causes coded s = task-causes runs (OfPair pair) call asked law coded (pair-headline s) (pair_ended pair call.shelf call.status call.out call.log s)

  pub pair-complete : CodeLaw → RunLaw runs → ValuesLaw → RangeLaw → ServesPair pair call.shelf call.status call.out call.log → IsComplete runs call
  pair-complete coded ran fit bounds s =
      task-complete runs (OfPair pair) call asked law coded (pair-headline s) (pair_ended pair call.shelf call.status call.out call.log s) ran fit bounds

-- a refusal that is told by the words alone

usage_ended : (call : Call) → DeliversReport usage call.status call.out call.log → Ended (Unit {0}) ⊥ call.status call.out call.log
usage_ended call d = delivered_ended (Unit {0}) ⊥ _ _ _ call.status call.out call.log (λ e. tt) (λ e. absurd (omega arith)) (λ e. omega arith) d

usage_exactly : (call : Call) → wish_of call.words ≡ nothing → DeliversReport usage call.status call.out call.log
    → call.out.stopped ≡ false → call.log.stopped ≡ false → IsExactly call 3 (wish_of call.words ≡ nothing)
usage_exactly call none (whole s o l) out log = ((λ is. none), λ h. inl s)
usage_exactly call none (out_broke s o l) out log = absurd (goes_stopped call.out out o.stopped)
usage_exactly call none (log_broke s o l) out log = absurd (goes_stopped call.log log l.stopped)

pub usage-causes : (runs : Runs) → ReportLaw runs → CodeLaw → (call : Call) → wish_of call.words ≡ nothing → DeliversReport usage call.status call.out call.log → Causes runs call
usage-causes runs law coded call none d =
    let ended = usage_ended call d in
    causes runs law coded call (usage-headline runs call none d) ended.breaks (usage_exactly call none d) (λ is. absurd (ended.unread is))

pub usage-complete : (runs : Runs) → RunLaw runs → ValuesLaw → RangeLaw → ReportLaw runs → CodeLaw → (call : Call) → wish_of call.words ≡ nothing → DeliversReport usage call.status call.out call.log → IsComplete runs call
usage-complete runs ran fit bounds law coded call none d = complete runs law coded call (usage-headline runs call none d) ran fit bounds

-- memory was wanting before the words were read

lost_ended : (call : Call) → IsLost call → Ended ⊥ ⊥ call.status call.out call.log
lost_ended call l =
    let lost = l.status in
    silent_ended ⊥ ⊥ call.status call.out call.log (λ is. omega arith) (λ is. omega arith) (λ is. omega arith) l.out.goes l.log.goes l.log.took

pub lost-causes : (runs : Runs) → ReportLaw runs → CodeLaw → (call : Call) → IsLost call → Causes runs call
lost-causes runs law coded call l =
    let ended = lost_ended call l in
    causes runs law coded call (lost-headline runs law call l) ended.breaks
    (λ out log. ((λ is. absurd (ended.request is)), λ none. inr l.status)) (λ is. absurd (ended.unread is))

pub lost-complete : (runs : Runs) → RunLaw runs → ValuesLaw → RangeLaw → ReportLaw runs → CodeLaw → (call : Call) → IsLost call → IsComplete runs call
lost-complete runs ran fit bounds law coded call l = complete runs law coded call (lost-headline runs law call l) ran fit bounds
