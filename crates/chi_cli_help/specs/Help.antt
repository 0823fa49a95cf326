-- The texts of help: what a command does, its options with what holds without them, its statuses, and one example.
use Rattle.std.specs.Prelude.{ℕ, List, [], ◌∷◌}
use Rattle.std.specs.List.{concat}
use Rattle.chi_cli_help.specs.declared.topic.Topic.{Topic}
use Rattle.chi_cli_help.specs.declared.topic.Topic.TheVariants as topic
use Rattle.chi_cli_help.specs.declared.texts.TheConstants as text

abbrev pub Text : Type 0
Text = List ℕ

-- the parts of a topic's text, in their order
abbrev pub parts_of : Topic → List Text
parts_of topic.AllCommands = text.USAGE.now ∷ text.SIM_LINE.now ∷ text.EXPLAIN_LINE.now ∷ text.XPER_LINE.now ∷ text.CHECK_LINE.now ∷ text.CODE_LINE.now ∷ text.FMT_LINE.now ∷ text.REPLAY_LINE.now ∷ text.JUDGE_LINE.now ∷ text.PICKS_LINE.now ∷ text.LOAD_LINE.now ∷ text.TRACE_UP_LINE.now ∷ text.HELP_LINE.now ∷ []
parts_of topic.Sim = text.SIM.now ∷ text.OPTIONS.now ∷ text.SEED.now ∷ text.STEPS.now ∷ text.POLICY.now ∷ text.SALT.now ∷ text.UNTIL.now ∷ text.TRACE.now ∷ text.PROBE.now ∷ text.STATUSES.now ∷ text.RUN_ENDED.now ∷ text.UNREAD.now ∷ text.UNTYPED.now ∷ text.UNFIT.now ∷ text.NO_REQUEST.now ∷ text.NO_FILE.now ∷ text.FAILED.now ∷ text.SIM_EXAMPLE.now ∷ []
parts_of topic.Explain = text.EXPLAIN.now ∷ text.OPTIONS.now ∷ text.SEED.now ∷ text.STEPS.now ∷ text.POLICY.now ∷ text.SALT.now ∷ text.UNTIL.now ∷ text.STATUSES.now ∷ text.RUN_ENDED.now ∷ text.UNREAD.now ∷ text.UNTYPED.now ∷ text.UNFIT.now ∷ text.NO_REQUEST.now ∷ text.NO_FILE.now ∷ text.FAILED.now ∷ text.EXPLAIN_EXAMPLE.now ∷ []
parts_of topic.Xper = text.XPER.now ∷ text.OPTIONS.now ∷ text.SEED.now ∷ text.STEPS.now ∷ text.POLICY.now ∷ text.SALT.now ∷ text.STATUSES.now ∷ text.XPER_ENDED.now ∷ text.UNREAD.now ∷ text.UNTYPED.now ∷ text.NO_XPER.now ∷ text.NO_REQUEST.now ∷ text.NO_FILE.now ∷ text.FAILED.now ∷ text.XPER_EXAMPLE.now ∷ []
parts_of topic.Check = text.CHECK.now ∷ text.STATUSES.now ∷ text.ACCEPTED.now ∷ text.UNREAD.now ∷ text.UNTYPED.now ∷ text.NO_REQUEST.now ∷ text.NO_FILE.now ∷ text.FAILED.now ∷ text.CHECK_EXAMPLE.now ∷ []
parts_of topic.Code = text.CODE.now ∷ text.STATUSES.now ∷ text.TOLD.now ∷ text.UNREAD.now ∷ text.UNTYPED.now ∷ text.NO_REQUEST.now ∷ text.NO_FILE.now ∷ text.FAILED.now ∷ text.CODE_EXAMPLE.now ∷ []
parts_of topic.Fmt = text.FMT.now ∷ text.STATUSES.now ∷ text.TOLD.now ∷ text.UNREAD.now ∷ text.NO_LAYOUT.now ∷ text.NO_REQUEST.now ∷ text.NO_FILE.now ∷ text.FAILED.now ∷ text.FMT_EXAMPLE.now ∷ []
parts_of topic.Replay = text.REPLAY.now ∷ text.OPTIONS.now ∷ text.SEED.now ∷ text.STEPS.now ∷ text.UNTIL.now ∷ text.TRACE.now ∷ text.STATUSES.now ∷ text.RUN_ENDED.now ∷ text.UNREAD.now ∷ text.UNTYPED.now ∷ text.UNFIT.now ∷ text.NO_PICKS.now ∷ text.NO_REQUEST.now ∷ text.NO_FILE.now ∷ text.FAILED.now ∷ text.REPLAY_EXAMPLE.now ∷ []
parts_of topic.Judge = text.JUDGE.now ∷ text.OPTIONS.now ∷ text.SEED.now ∷ text.STEPS.now ∷ text.UNTIL.now ∷ text.STATUSES.now ∷ text.JUDGED.now ∷ text.UNREAD.now ∷ text.UNTYPED.now ∷ text.UNFIT.now ∷ text.NO_LOG.now ∷ text.NO_REQUEST.now ∷ text.NO_FILE.now ∷ text.FAILED.now ∷ text.JUDGE_EXAMPLE.now ∷ []
parts_of topic.Picks = text.PICKS.now ∷ text.OPTIONS.now ∷ text.SEED.now ∷ text.STEPS.now ∷ text.UNTIL.now ∷ text.STATUSES.now ∷ text.TOLD.now ∷ text.UNREAD.now ∷ text.UNTYPED.now ∷ text.UNFIT.now ∷ text.NO_LOG.now ∷ text.NO_REQUEST.now ∷ text.NO_FILE.now ∷ text.FAILED.now ∷ text.PICKS_EXAMPLE.now ∷ []
parts_of topic.Load = text.LOAD.now ∷ text.STATUSES.now ∷ text.RUN_ENDED.now ∷ text.NO_REQUEST.now ∷ text.FAILED.now ∷ text.LOAD_EXAMPLE.now ∷ []
parts_of topic.TraceUp = text.TRACE_UP.now ∷ text.STATUSES.now ∷ text.TOLD.now ∷ text.NO_TRACE.now ∷ text.NO_REQUEST.now ∷ text.NO_FILE.now ∷ text.FAILED.now ∷ text.TRACE_UP_EXAMPLE.now ∷ []
parts_of topic.Help = text.HELP.now ∷ text.STATUSES.now ∷ text.TOLD.now ∷ text.NO_REQUEST.now ∷ text.FAILED.now ∷ text.HELP_EXAMPLE.now ∷ []

-- they stand one after another
abbrev pub help_text : Topic → Text
help_text t = concat (parts_of t)
