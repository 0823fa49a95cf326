-- What follows of a call that is told a report by its words alone, of a task that names no file.
use Rattle.std.proofs.Common.{◌≡◌, sym, subst}
use Rattle.chi_io.specs.Shelf.{Files}
use Rattle.chi_engine.specs.Courses.{Runs}
use Rattle.chi_tool.specs.declared.task.Task.{Task}
use Rattle.chi_tool.specs.Call.{Call}
use Rattle.chi_tool.specs.Headline.{delivered, wanting, alone, CannotBeRead, Causes, Headline, IsComplete}
use Rattle.chi_tool.specs.Refusals.{Report}
use Rattle.chi_tool.specs.Report.{IsReportOfWish, IsReport}
use Rattle.chi_tool.specs.Serving.{Tells, told, cut_short, untold}
use Rattle.chi_tool.specs.Words.{Wish, of_task, wish_of}
use Rattle.chi_tool.proofs.Contents.{IsUnfiled}
use Rattle.chi_tool.proofs.Endings.{Ended, tells_ended}
use Rattle.chi_tool.proofs.LawClauses.{RunLaw, CodeLaw, ReportLaw, ValuesLaw, RangeLaw}
use Rattle.chi_tool.proofs.Promises.{MeetsOne, MeetsOneAlone, by_files, by_any, any_alone}
use Rattle.chi_tool.proofs.Served.{task-causes, task-complete}
use Rattle.chi_tool.proofs.Sinks.{none_part}

module _ (runs : Runs) (t : Task) (P : Report → Type 0) (of : IsUnfiled runs t P) (call : Call) (asked : wish_of call.words ≡ of_task t) where
  report_by : (files : Files) (r : Report) → P r → IsReport runs call.words files r
  report_by files r is = let at_wish : Wish → Type 0 = λ w. IsReportOfWish runs w files r in subst at_wish (sym asked) (of.reports files r is)

  one_by : ReportLaw runs → Tells P call.status call.out call.log → MeetsOne runs call
  one_by law (told r is d) = by_files runs call r (λ files. report_by files r is) (alone (delivered d))
  one_by law (cut_short r is status part log) = by_files runs call r (λ files. report_by files r is) (alone (wanting status part log))
  one_by law (untold status out log) = by_any runs law call (λ r. alone (wanting status (none_part call.out r.out out) log))

  alone_by : ReportLaw runs → (files : Files) → Tells P call.status call.out call.log → MeetsOneAlone runs call files
  alone_by law files (told r is d) = (r, report_by files r is, delivered d)
  alone_by law files (cut_short r is status part log) = (r, report_by files r is, wanting status part log)
  alone_by law files (untold status out log) = any_alone runs law call files (record { status = status; out = out; log = log })

  ended_by : Tells P call.status call.out call.log → Ended ⊥ (CannotBeRead call.shelf (of_task t)) call.status call.out call.log
  ended_by tells = tells_ended ⊥ _ P call.status call.out call.log of.own tells

  pub unfiled-headline : ReportLaw runs → Tells P call.status call.out call.log → Headline runs call
  unfiled-headline law tells = record {
    report = one_by law tells;
    by_words = λ same files. alone_by law files tells;
    out_stopped = (ended_by tells).stopped;
  }

  pub unfiled-causes : ReportLaw runs → CodeLaw → Tells P call.status call.out call.log → Causes runs call
  unfiled-causes law coded tells = task-causes runs t call asked law coded (unfiled-headline law tells) (ended_by tells)

  pub unfiled-complete : RunLaw runs → ValuesLaw → RangeLaw → ReportLaw runs → CodeLaw → Tells P call.status call.out call.log → IsComplete runs call
  unfiled-complete ran fit bounds law coded tells = task-complete runs t call asked law coded (unfiled-headline law tells) (ended_by tells) ran fit bounds
