-- Private to proofs: the ways in which a report is made and told, and in which a file is served.
use Rattle.std.specs.Prelude.{◌≡◌, ◌≢◌, ℕ, ◌≤◌, ◌<◌, ◌⊎◌, List, [], length, Option, Some, None, IfSome, IsSomeAnd, Result, Ok, Err}
use Rattle.chi_core.specs.declared.program.Core.{Core}
use Rattle.chi_io.specs.Counts.{Rose}
use Rattle.chi_io.specs.Shelf.{Files}
use Rattle.chi_io.specs.Sink.{Grew}
use Rattle.chi_lex.specs.declared.lexer.TheConstants.{MOST_BYTES}
use Rattle.chi_engine.specs.Below.chi_machine_traces.specs.declared.passing.PassFault.{PassFault}
use Rattle.chi_engine.specs.Below.chi_machine_traces.specs.declared.passing.PassFault.TheVariants.{Stopped, NoMemory}
use Rattle.chi_engine.specs.Courses.{Runs, IsRunOf}
use Rattle.chi_engine.specs.Running.{RunsTo}
use Rattle.chi_engine.specs.Settings.{Settings}
use Rattle.chi_tool.specs.declared.by_engine.Ran.{Ran}
use Rattle.chi_tool.specs.declared.report.Reported.{Reported}
use Rattle.chi_tool.specs.declared.task.TheConstants.{MOST_BESIDE}
use Rattle.chi_tool.specs.declared.task.Pair.{Pair}
use Rattle.chi_tool.specs.Refusals.{Report, no_such_file, file_too_long}
use Rattle.chi_tool.specs.Report.{IsReportOfSource}
use Rattle.chi_tool.specs.Reported.{report_after}
use Rattle.chi_tool.specs.Settings.{pair_aim}
use Rattle.chi_tool.specs.Statuses as statuses
use Rattle.chi_tool.specs.Call.{SinkUse, ShelfUse, ShelfRose}
use Rattle.chi_tool.specs.Delivery.{TookWhole, TookPart, BrokeOff, DeliversReport}

-- A report of which P holds is made: the sink took a part of its output, and the rest of the report is held; or the sink broke off, or
-- memory was wanting, before the sink took anything or after it took a front of the output.
abbrev pub Makes : (Report → Type 0) → SinkUse → Result Reported PassFault → Type 0
Makes P out (Ok r) = (passed : List ℕ) × TookWhole out passed × (out.faults_before ≤ out.faults_after) × P (report_after passed r)
Makes P out (Err Stopped) = (r : Report) × P r × BrokeOff out r.out
Makes P out (Err NoMemory) = TookWhole out [] ⊎ ((r : Report) × P r × TookPart out r.out)

-- A run has ended so, and this is logged of it; or the sink broke off, or memory was wanting, before the run began or in its course.
abbrev pub RunsAs : Runs → Core → Settings → SinkUse → Result Ran PassFault → Type 0
RunsAs runs core s out (Ok ran) =
    (out.faults_before ≤ out.faults_after)
    × RunsTo (runs core s) core (Grew out.before out.after) (λ lines. ran.log.items ≡ lines) (Rose out.faults_before out.faults_after) out.stopped (Ok ran.ending)
RunsAs runs core s out (Err lost) =
    ((lost ≡ NoMemory) × TookWhole out [])
    ⊎ RunsTo (runs core s) core (Grew out.before out.after) (λ lines. ⊥) (Rose out.faults_before out.faults_after) out.stopped (Err lost)

-- the status where no report is made
abbrev pub status_without : PassFault → ℕ
status_without Stopped = statuses.not_written
status_without NoMemory = statuses.no_memory

-- a report of which P holds is delivered; or memory is wanting, and a front of its output is written, or nothing
pub data Tells (P : Report → Type 0) (result : ℕ) (out log : SinkUse) : Type 0 where
  told : (r : Report) → P r → DeliversReport r result out log → Tells P result out log
  cut_short : (r : Report) → P r → result ≡ statuses.no_memory → TookPart out r.out → TookWhole log [] → Tells P result out log
  untold : result ≡ statuses.no_memory → TookWhole out [] → TookWhole log [] → Tells P result out log

-- this is the content of a file of this name, within a limit, where the shelf tells its files
abbrev pub IsContent : ℕ → List ℕ → Option Files → List ℕ → Type 0
IsContent most name held content = (length content ≤ most) × IfSome held (λ files. files name ≡ Some content)

-- a file within a limit is refused, or the shelf failed, or memory is wanting
pub data Refuses (most : ℕ) (name : List ℕ) (shelf : ShelfUse) (result : ℕ) (out log : SinkUse) : Type 0 where
  missing : IsSomeAnd shelf.files (λ files. files name ≡ None) ⊎ ShelfRose shelf
      → DeliversReport no_such_file result out log → Refuses most name shelf result out log
  long : IsSomeAnd shelf.files (λ files. IsSomeAnd (files name) (λ content. most < length content)) ⊎ ShelfRose shelf
      → DeliversReport file_too_long result out log → Refuses most name shelf result out log
  failed : ShelfRose shelf → result ≡ statuses.not_read → TookWhole out [] → TookWhole log [] → Refuses most name shelf result out log
  lost : result ≡ statuses.no_memory → TookWhole out [] → TookWhole log [] → Refuses most name shelf result out log

-- a file is served: the report of its content by P is told, or it is refused
pub data Serves (most : ℕ) (P : List ℕ → Report → Type 0) (name : List ℕ) (shelf : ShelfUse) (result : ℕ) (out log : SinkUse) : Type 0 where
  served : (content : List ℕ) → IsContent most name shelf.files content → Tells (P content) result out log → Serves most P name shelf result out log
  refused : Refuses most name shelf result out log → Serves most P name shelf result out log

-- a second file is served after this content of the first: where they have one name, the report of that as both is told; else the
-- report of both, or the second is refused
pub data ServesBeside (pair : Pair) (source : List ℕ) (shelf : ShelfUse) (result : ℕ) (out log : SinkUse) : Type 0 where
  same : pair.beside ≡ pair.file → Tells (IsReportOfSource IsRunOf source (pair_aim pair.purpose source)) result out log → ServesBeside pair source shelf result out log
  both : (text : List ℕ) → pair.beside ≢ pair.file → IsContent MOST_BESIDE pair.beside shelf.files text
      → Tells (IsReportOfSource IsRunOf source (pair_aim pair.purpose text)) result out log → ServesBeside pair source shelf result out log
  no_second : Refuses MOST_BESIDE pair.beside shelf result out log → ServesBeside pair source shelf result out log

-- two files are served: the second after the first, or the first is refused
pub data ServesPair (pair : Pair) (shelf : ShelfUse) (result : ℕ) (out log : SinkUse) : Type 0 where
  first : (source : List ℕ) → IsContent MOST_BYTES pair.file shelf.files source → ServesBeside pair source shelf result out log → ServesPair pair shelf result out log
  no_first : Refuses MOST_BYTES pair.file shelf result out log → ServesPair pair shelf result out log
