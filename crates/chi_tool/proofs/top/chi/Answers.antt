use Rattle.std.proofs.Common.{refl, sym, subst, ◌∙◌}
use Rattle.chi_cli.specs.Saying.{texts}
use Rattle.chi_lex.specs.declared.lexer.TheConstants.{MOST_BYTES}
use Rattle.chi_trace.specs.declared.log.TheConstants.{MOST_LOG_BYTES}
use Rattle.chi_tool.specs.declared.task.Task.TheVariants.{OfFile, OfPair, OfLog, OfFactory, OfTopic}
use Rattle.chi_tool.specs.Report.{IsReportOfLog, IsReportTo}
use Rattle.chi_tool.proofs.Contents.{source_of_file, log_of_file, IsOfFactory, of_factory, IsOfTopic, of_topic}
use Rattle.chi_tool.proofs.LawClauses.{RunLaw, CodeLaw, ReportLaw}
use Rattle.chi_tool.proofs.TwoFiles.{names_pair}
use Rattle.chi_tool.proofs.Promises.{names_file, usage-headline, lost-headline}
use Rattle.chi_tool.proofs.Served.{served-headline, served-causes, served-complete, pair-headline, pair-causes, pair-complete, usage-causes, usage-complete, lost-causes, lost-complete}
use Rattle.chi_tool.proofs.Sinks.{still}
use Rattle.chi_tool.proofs.Unfiled.{unfiled-headline, unfiled-causes, unfiled-complete}
use Rattle.chi_tool.proofs.Wishes.{IsBoundedWish, bounded_wish, wish_task, wish_nothing}
use Rattle.chi_tool.proofs.top.chi.Goals as goal

pub serve-requires-clause-bounded : goal.serve-requires-clause-bounded
serve-requires-clause-bounded g c =
    subst IsBoundedWish (wish_task (texts c.args.words.now) c.in-Ok.request (OfFile c.in-OfFile.file c.in-OfFile.purpose) c.in-Ok.ensures.request c.in-OfFile.ensures) (bounded_wish c.numbers_are_in_range.ensures (texts c.args.words.now))

pub returns-in-OfFile-clause-headline : goal.returns-in-OfFile-clause-headline
returns-in-OfFile-clause-headline g c =
    let law : ReportLaw (g.E.Engine.outcome c.args.engine.now) = record { some = c.report_law.ensures.some; one = c.report_law.ensures.one; explained = c.report_law.ensures.explained; tried = c.report_law.ensures.tried } in
    served-headline (g.E.Engine.outcome c.args.engine.now) (OfFile c.in-OfFile.file c.in-OfFile.purpose) c.in-OfFile.file MOST_BYTES (IsReportTo (g.E.Engine.outcome c.args.engine.now) c.in-OfFile.file c.in-OfFile.purpose) (source_of_file (g.E.Engine.outcome c.args.engine.now) c.in-OfFile.file c.in-OfFile.purpose) _
    (wish_task (texts c.args.words.now) c.in-Ok.request (OfFile c.in-OfFile.file c.in-OfFile.purpose) c.in-Ok.ensures.request c.in-OfFile.ensures) law c.serve.ensures

pub returns-in-OfFile-clause-causes : goal.returns-in-OfFile-clause-causes
returns-in-OfFile-clause-causes g c =
    let law : ReportLaw (g.E.Engine.outcome c.args.engine.now) = record { some = c.report_law.ensures.some; one = c.report_law.ensures.one; explained = c.report_law.ensures.explained; tried = c.report_law.ensures.tried } in
    let coded : CodeLaw = record { some = c.one_code_law.ensures.some; one = c.one_code_law.ensures.one } in
    served-causes (g.E.Engine.outcome c.args.engine.now) (OfFile c.in-OfFile.file c.in-OfFile.purpose) c.in-OfFile.file MOST_BYTES (IsReportTo (g.E.Engine.outcome c.args.engine.now) c.in-OfFile.file c.in-OfFile.purpose) (source_of_file (g.E.Engine.outcome c.args.engine.now) c.in-OfFile.file c.in-OfFile.purpose) _
    (wish_task (texts c.args.words.now) c.in-Ok.request (OfFile c.in-OfFile.file c.in-OfFile.purpose) c.in-Ok.ensures.request c.in-OfFile.ensures) law coded c.serve.ensures

pub returns-in-OfFile-clause-complete : goal.returns-in-OfFile-clause-complete
returns-in-OfFile-clause-complete g c =
    let law : ReportLaw (g.E.Engine.outcome c.args.engine.now) = record { some = c.report_law.ensures.some; one = c.report_law.ensures.one; explained = c.report_law.ensures.explained; tried = c.report_law.ensures.tried } in
    let coded : CodeLaw = record { some = c.one_code_law.ensures.some; one = c.one_code_law.ensures.one } in
    let ran : RunLaw (g.E.Engine.outcome c.args.engine.now) = record { some = c.asked_runs_law.ensures.some; one = c.asked_runs_law.ensures.one } in
    served-complete (g.E.Engine.outcome c.args.engine.now) (OfFile c.in-OfFile.file c.in-OfFile.purpose) c.in-OfFile.file MOST_BYTES (IsReportTo (g.E.Engine.outcome c.args.engine.now) c.in-OfFile.file c.in-OfFile.purpose) (source_of_file (g.E.Engine.outcome c.args.engine.now) c.in-OfFile.file c.in-OfFile.purpose) _
    (wish_task (texts c.args.words.now) c.in-Ok.request (OfFile c.in-OfFile.file c.in-OfFile.purpose) c.in-Ok.ensures.request c.in-OfFile.ensures) law coded ran c.values_are_of_parameters.ensures c.numbers_are_in_range.ensures c.serve.ensures

pub returns-in-OfFile-clause-untouched : goal.returns-in-OfFile-clause-untouched
returns-in-OfFile-clause-untouched g c =
    λ none. absurd (names_file (g.E.Engine.outcome c.args.engine.now) (OfFile c.in-OfFile.file c.in-OfFile.purpose) c.in-OfFile.file MOST_BYTES (IsReportTo (g.E.Engine.outcome c.args.engine.now) c.in-OfFile.file c.in-OfFile.purpose) (source_of_file (g.E.Engine.outcome c.args.engine.now) c.in-OfFile.file c.in-OfFile.purpose) _
    (wish_task (texts c.args.words.now) c.in-Ok.request (OfFile c.in-OfFile.file c.in-OfFile.purpose) c.in-Ok.ensures.request c.in-OfFile.ensures) none)

pub serve_pair-requires-clause-bounded : goal.serve_pair-requires-clause-bounded
serve_pair-requires-clause-bounded g c =
    subst IsBoundedWish (wish_task (texts c.args.words.now) c.in-Ok.request (OfPair c.in-OfPair.pair) c.in-Ok.ensures.request c.in-OfPair.ensures) (bounded_wish c.numbers_are_in_range.ensures (texts c.args.words.now))

pub returns-in-OfPair-clause-headline : goal.returns-in-OfPair-clause-headline
returns-in-OfPair-clause-headline g c =
    let law : ReportLaw (g.E.Engine.outcome c.args.engine.now) = record { some = c.report_law.ensures.some; one = c.report_law.ensures.one; explained = c.report_law.ensures.explained; tried = c.report_law.ensures.tried } in
    pair-headline (g.E.Engine.outcome c.args.engine.now) c.in-OfPair.pair _ (wish_task (texts c.args.words.now) c.in-Ok.request (OfPair c.in-OfPair.pair) c.in-Ok.ensures.request c.in-OfPair.ensures) law c.serve_pair.ensures

pub returns-in-OfPair-clause-causes : goal.returns-in-OfPair-clause-causes
returns-in-OfPair-clause-causes g c =
    let law : ReportLaw (g.E.Engine.outcome c.args.engine.now) = record { some = c.report_law.ensures.some; one = c.report_law.ensures.one; explained = c.report_law.ensures.explained; tried = c.report_law.ensures.tried } in
    let coded : CodeLaw = record { some = c.one_code_law.ensures.some; one = c.one_code_law.ensures.one } in
    pair-causes (g.E.Engine.outcome c.args.engine.now) c.in-OfPair.pair _ (wish_task (texts c.args.words.now) c.in-Ok.request (OfPair c.in-OfPair.pair) c.in-Ok.ensures.request c.in-OfPair.ensures) law coded c.serve_pair.ensures

pub returns-in-OfPair-clause-complete : goal.returns-in-OfPair-clause-complete
returns-in-OfPair-clause-complete g c =
    let law : ReportLaw (g.E.Engine.outcome c.args.engine.now) = record { some = c.report_law.ensures.some; one = c.report_law.ensures.one; explained = c.report_law.ensures.explained; tried = c.report_law.ensures.tried } in
    let coded : CodeLaw = record { some = c.one_code_law.ensures.some; one = c.one_code_law.ensures.one } in
    let ran : RunLaw (g.E.Engine.outcome c.args.engine.now) = record { some = c.asked_runs_law.ensures.some; one = c.asked_runs_law.ensures.one } in
    pair-complete (g.E.Engine.outcome c.args.engine.now) c.in-OfPair.pair _ (wish_task (texts c.args.words.now) c.in-Ok.request (OfPair c.in-OfPair.pair) c.in-Ok.ensures.request c.in-OfPair.ensures) law coded ran
    c.values_are_of_parameters.ensures c.numbers_are_in_range.ensures c.serve_pair.ensures

pub returns-in-OfPair-clause-untouched : goal.returns-in-OfPair-clause-untouched
returns-in-OfPair-clause-untouched g c =
    λ none. absurd (names_pair c.in-OfPair.pair _ (wish_task (texts c.args.words.now) c.in-Ok.request (OfPair c.in-OfPair.pair) c.in-Ok.ensures.request c.in-OfPair.ensures) none)

pub returns-in-OfLog-clause-headline : goal.returns-in-OfLog-clause-headline
returns-in-OfLog-clause-headline g c =
    let law : ReportLaw (g.E.Engine.outcome c.args.engine.now) = record { some = c.report_law.ensures.some; one = c.report_law.ensures.one; explained = c.report_law.ensures.explained; tried = c.report_law.ensures.tried } in
    served-headline (g.E.Engine.outcome c.args.engine.now) (OfLog c.in-OfLog.file) c.in-OfLog.file MOST_LOG_BYTES IsReportOfLog (log_of_file (g.E.Engine.outcome c.args.engine.now) c.in-OfLog.file) _
    (wish_task (texts c.args.words.now) c.in-Ok.request (OfLog c.in-OfLog.file) c.in-Ok.ensures.request c.in-OfLog.ensures) law (rw (c.as_slice.ensures.same) at c.serve_log.ensures)

pub returns-in-OfLog-clause-causes : goal.returns-in-OfLog-clause-causes
returns-in-OfLog-clause-causes g c =
    let law : ReportLaw (g.E.Engine.outcome c.args.engine.now) = record { some = c.report_law.ensures.some; one = c.report_law.ensures.one; explained = c.report_law.ensures.explained; tried = c.report_law.ensures.tried } in
    let coded : CodeLaw = record { some = c.one_code_law.ensures.some; one = c.one_code_law.ensures.one } in
    served-causes (g.E.Engine.outcome c.args.engine.now) (OfLog c.in-OfLog.file) c.in-OfLog.file MOST_LOG_BYTES IsReportOfLog (log_of_file (g.E.Engine.outcome c.args.engine.now) c.in-OfLog.file) _
    (wish_task (texts c.args.words.now) c.in-Ok.request (OfLog c.in-OfLog.file) c.in-Ok.ensures.request c.in-OfLog.ensures) law coded (rw (c.as_slice.ensures.same) at c.serve_log.ensures)

pub returns-in-OfLog-clause-complete : goal.returns-in-OfLog-clause-complete
returns-in-OfLog-clause-complete g c =
    let law : ReportLaw (g.E.Engine.outcome c.args.engine.now) = record { some = c.report_law.ensures.some; one = c.report_law.ensures.one; explained = c.report_law.ensures.explained; tried = c.report_law.ensures.tried } in
    let coded : CodeLaw = record { some = c.one_code_law.ensures.some; one = c.one_code_law.ensures.one } in
    let ran : RunLaw (g.E.Engine.outcome c.args.engine.now) = record { some = c.asked_runs_law.ensures.some; one = c.asked_runs_law.ensures.one } in
    served-complete (g.E.Engine.outcome c.args.engine.now) (OfLog c.in-OfLog.file) c.in-OfLog.file MOST_LOG_BYTES IsReportOfLog (log_of_file (g.E.Engine.outcome c.args.engine.now) c.in-OfLog.file) _
    (wish_task (texts c.args.words.now) c.in-Ok.request (OfLog c.in-OfLog.file) c.in-Ok.ensures.request c.in-OfLog.ensures) law coded ran c.values_are_of_parameters.ensures c.numbers_are_in_range.ensures (rw (c.as_slice.ensures.same) at c.serve_log.ensures)

pub returns-in-OfLog-clause-untouched : goal.returns-in-OfLog-clause-untouched
returns-in-OfLog-clause-untouched g c =
    λ none. absurd (names_file (g.E.Engine.outcome c.args.engine.now) (OfLog c.in-OfLog.file) c.in-OfLog.file MOST_LOG_BYTES IsReportOfLog (log_of_file (g.E.Engine.outcome c.args.engine.now) c.in-OfLog.file) _
    (wish_task (texts c.args.words.now) c.in-Ok.request (OfLog c.in-OfLog.file) c.in-Ok.ensures.request c.in-OfLog.ensures) none)

pub returns-then-not-is_refusal-clause-headline : goal.returns-then-not-is_refusal-clause-headline
returns-then-not-is_refusal-clause-headline g c =
    let law : ReportLaw (g.E.Engine.outcome c.args.engine.now) = record { some = c.report_law.ensures.some; one = c.report_law.ensures.one; explained = c.report_law.ensures.explained; tried = c.report_law.ensures.tried } in
    lost-headline (g.E.Engine.outcome c.args.engine.now) law _ (record { status = refl; out = record { took = still _; goes = c.requires.out_goes }; log = record { took = still _; goes = c.requires.log_goes } })

pub returns-then-not-is_refusal-clause-causes : goal.returns-then-not-is_refusal-clause-causes
returns-then-not-is_refusal-clause-causes g c =
    let law : ReportLaw (g.E.Engine.outcome c.args.engine.now) = record { some = c.report_law.ensures.some; one = c.report_law.ensures.one; explained = c.report_law.ensures.explained; tried = c.report_law.ensures.tried } in
    let coded : CodeLaw = record { some = c.one_code_law.ensures.some; one = c.one_code_law.ensures.one } in
    lost-causes (g.E.Engine.outcome c.args.engine.now) law coded _ (record { status = refl; out = record { took = still _; goes = c.requires.out_goes }; log = record { took = still _; goes = c.requires.log_goes } })

pub returns-then-not-is_refusal-clause-complete : goal.returns-then-not-is_refusal-clause-complete
returns-then-not-is_refusal-clause-complete g c =
    let law : ReportLaw (g.E.Engine.outcome c.args.engine.now) = record { some = c.report_law.ensures.some; one = c.report_law.ensures.one; explained = c.report_law.ensures.explained; tried = c.report_law.ensures.tried } in
    let coded : CodeLaw = record { some = c.one_code_law.ensures.some; one = c.one_code_law.ensures.one } in
    let ran : RunLaw (g.E.Engine.outcome c.args.engine.now) = record { some = c.asked_runs_law.ensures.some; one = c.asked_runs_law.ensures.one } in
    lost-complete (g.E.Engine.outcome c.args.engine.now) ran c.values_are_of_parameters.ensures c.numbers_are_in_range.ensures law coded _ (record { status = refl; out = record { took = still _; goes = c.requires.out_goes }; log = record { took = still _; goes = c.requires.log_goes } })

pub returns-else-not-is_refusal-clause-headline : goal.returns-else-not-is_refusal-clause-headline
returns-else-not-is_refusal-clause-headline g c = usage-headline (g.E.Engine.outcome c.args.engine.now) _ (wish_nothing (texts c.args.words.now) c.in-Err.fault (sym c.is_refusal.ensures ∙ c.if-not-is_refusal.false) c.in-Err.ensures.fault) c.deliver.ensures

pub returns-else-not-is_refusal-clause-causes : goal.returns-else-not-is_refusal-clause-causes
returns-else-not-is_refusal-clause-causes g c =
    let law : ReportLaw (g.E.Engine.outcome c.args.engine.now) = record { some = c.report_law.ensures.some; one = c.report_law.ensures.one; explained = c.report_law.ensures.explained; tried = c.report_law.ensures.tried } in
    let coded : CodeLaw = record { some = c.one_code_law.ensures.some; one = c.one_code_law.ensures.one } in
    usage-causes (g.E.Engine.outcome c.args.engine.now) law coded _ (wish_nothing (texts c.args.words.now) c.in-Err.fault (sym c.is_refusal.ensures ∙ c.if-not-is_refusal.false) c.in-Err.ensures.fault) c.deliver.ensures

pub returns-else-not-is_refusal-clause-complete : goal.returns-else-not-is_refusal-clause-complete
returns-else-not-is_refusal-clause-complete g c =
    let law : ReportLaw (g.E.Engine.outcome c.args.engine.now) = record { some = c.report_law.ensures.some; one = c.report_law.ensures.one; explained = c.report_law.ensures.explained; tried = c.report_law.ensures.tried } in
    let coded : CodeLaw = record { some = c.one_code_law.ensures.some; one = c.one_code_law.ensures.one } in
    let ran : RunLaw (g.E.Engine.outcome c.args.engine.now) = record { some = c.asked_runs_law.ensures.some; one = c.asked_runs_law.ensures.one } in
    usage-complete (g.E.Engine.outcome c.args.engine.now) ran c.values_are_of_parameters.ensures c.numbers_are_in_range.ensures law coded _ (wish_nothing (texts c.args.words.now) c.in-Err.fault (sym c.is_refusal.ensures ∙ c.if-not-is_refusal.false) c.in-Err.ensures.fault) c.deliver.ensures

pub serve_factory-requires-clause-some : goal.serve_factory-requires-clause-some
serve_factory-requires-clause-some g c =
    (subst IsBoundedWish (wish_task (texts c.args.words.now) c.in-Ok.request (OfFactory c.in-OfFactory.size) c.in-Ok.ensures.request c.in-OfFactory.ensures) (bounded_wish c.numbers_are_in_range.ensures (texts c.args.words.now))).0

pub serve_factory-requires-clause-most : goal.serve_factory-requires-clause-most
serve_factory-requires-clause-most g c =
    (subst IsBoundedWish (wish_task (texts c.args.words.now) c.in-Ok.request (OfFactory c.in-OfFactory.size) c.in-Ok.ensures.request c.in-OfFactory.ensures) (bounded_wish c.numbers_are_in_range.ensures (texts c.args.words.now))).1

pub returns-in-OfFactory-clause-headline : goal.returns-in-OfFactory-clause-headline
returns-in-OfFactory-clause-headline g c =
    let law : ReportLaw (g.E.Engine.outcome c.args.engine.now) = record { some = c.report_law.ensures.some; one = c.report_law.ensures.one; explained = c.report_law.ensures.explained; tried = c.report_law.ensures.tried } in
    unfiled-headline (g.E.Engine.outcome c.args.engine.now) (OfFactory c.in-OfFactory.size) (IsOfFactory (g.E.Engine.outcome c.args.engine.now) c.in-OfFactory.size) (of_factory (g.E.Engine.outcome c.args.engine.now) c.in-OfFactory.size) _ (wish_task (texts c.args.words.now) c.in-Ok.request (OfFactory c.in-OfFactory.size) c.in-Ok.ensures.request c.in-OfFactory.ensures) law c.serve_factory.ensures

pub returns-in-OfFactory-clause-causes : goal.returns-in-OfFactory-clause-causes
returns-in-OfFactory-clause-causes g c =
    let law : ReportLaw (g.E.Engine.outcome c.args.engine.now) = record { some = c.report_law.ensures.some; one = c.report_law.ensures.one; explained = c.report_law.ensures.explained; tried = c.report_law.ensures.tried } in
    let coded : CodeLaw = record { some = c.one_code_law.ensures.some; one = c.one_code_law.ensures.one } in
    unfiled-causes (g.E.Engine.outcome c.args.engine.now) (OfFactory c.in-OfFactory.size) (IsOfFactory (g.E.Engine.outcome c.args.engine.now) c.in-OfFactory.size) (of_factory (g.E.Engine.outcome c.args.engine.now) c.in-OfFactory.size) _ (wish_task (texts c.args.words.now) c.in-Ok.request (OfFactory c.in-OfFactory.size) c.in-Ok.ensures.request c.in-OfFactory.ensures) law coded c.serve_factory.ensures

pub returns-in-OfFactory-clause-complete : goal.returns-in-OfFactory-clause-complete
returns-in-OfFactory-clause-complete g c =
    let law : ReportLaw (g.E.Engine.outcome c.args.engine.now) = record { some = c.report_law.ensures.some; one = c.report_law.ensures.one; explained = c.report_law.ensures.explained; tried = c.report_law.ensures.tried } in
    let coded : CodeLaw = record { some = c.one_code_law.ensures.some; one = c.one_code_law.ensures.one } in
    let ran : RunLaw (g.E.Engine.outcome c.args.engine.now) = record { some = c.asked_runs_law.ensures.some; one = c.asked_runs_law.ensures.one } in
    unfiled-complete (g.E.Engine.outcome c.args.engine.now) (OfFactory c.in-OfFactory.size) (IsOfFactory (g.E.Engine.outcome c.args.engine.now) c.in-OfFactory.size) (of_factory (g.E.Engine.outcome c.args.engine.now) c.in-OfFactory.size) _ (wish_task (texts c.args.words.now) c.in-Ok.request (OfFactory c.in-OfFactory.size) c.in-Ok.ensures.request c.in-OfFactory.ensures) ran c.values_are_of_parameters.ensures c.numbers_are_in_range.ensures law coded c.serve_factory.ensures

pub returns-in-OfTopic-clause-headline : goal.returns-in-OfTopic-clause-headline
returns-in-OfTopic-clause-headline g c =
    let law : ReportLaw (g.E.Engine.outcome c.args.engine.now) = record { some = c.report_law.ensures.some; one = c.report_law.ensures.one; explained = c.report_law.ensures.explained; tried = c.report_law.ensures.tried } in
    unfiled-headline (g.E.Engine.outcome c.args.engine.now) (OfTopic c.in-OfTopic.topic) (IsOfTopic c.in-OfTopic.topic) (of_topic (g.E.Engine.outcome c.args.engine.now) c.in-OfTopic.topic) _ (wish_task (texts c.args.words.now) c.in-Ok.request (OfTopic c.in-OfTopic.topic) c.in-Ok.ensures.request c.in-OfTopic.ensures) law c.serve_help.ensures

pub returns-in-OfTopic-clause-causes : goal.returns-in-OfTopic-clause-causes
returns-in-OfTopic-clause-causes g c =
    let law : ReportLaw (g.E.Engine.outcome c.args.engine.now) = record { some = c.report_law.ensures.some; one = c.report_law.ensures.one; explained = c.report_law.ensures.explained; tried = c.report_law.ensures.tried } in
    let coded : CodeLaw = record { some = c.one_code_law.ensures.some; one = c.one_code_law.ensures.one } in
    unfiled-causes (g.E.Engine.outcome c.args.engine.now) (OfTopic c.in-OfTopic.topic) (IsOfTopic c.in-OfTopic.topic) (of_topic (g.E.Engine.outcome c.args.engine.now) c.in-OfTopic.topic) _ (wish_task (texts c.args.words.now) c.in-Ok.request (OfTopic c.in-OfTopic.topic) c.in-Ok.ensures.request c.in-OfTopic.ensures) law coded c.serve_help.ensures

pub returns-in-OfTopic-clause-complete : goal.returns-in-OfTopic-clause-complete
returns-in-OfTopic-clause-complete g c =
    let law : ReportLaw (g.E.Engine.outcome c.args.engine.now) = record { some = c.report_law.ensures.some; one = c.report_law.ensures.one; explained = c.report_law.ensures.explained; tried = c.report_law.ensures.tried } in
    let coded : CodeLaw = record { some = c.one_code_law.ensures.some; one = c.one_code_law.ensures.one } in
    let ran : RunLaw (g.E.Engine.outcome c.args.engine.now) = record { some = c.asked_runs_law.ensures.some; one = c.asked_runs_law.ensures.one } in
    unfiled-complete (g.E.Engine.outcome c.args.engine.now) (OfTopic c.in-OfTopic.topic) (IsOfTopic c.in-OfTopic.topic) (of_topic (g.E.Engine.outcome c.args.engine.now) c.in-OfTopic.topic) _ (wish_task (texts c.args.words.now) c.in-Ok.request (OfTopic c.in-OfTopic.topic) c.in-Ok.ensures.request c.in-OfTopic.ensures) ran c.values_are_of_parameters.ensures c.numbers_are_in_range.ensures law coded c.serve_help.ensures
