-- Which command a word names, of which help is asked.
use Rattle.std.specs.Prelude.{ℕ, bytes_eq, codes, List, Option, Some, None, if◌then◌else◌}
use Rattle.chi_cli_help.specs.declared.topic.Topic.{Topic}
use Rattle.chi_cli_help.specs.declared.topic.Topic.TheVariants as topic

abbrev pub topic_named : List ℕ → Option Topic
topic_named word =
    if bytes_eq word (codes "sim") then Some topic.Sim
    else if bytes_eq word (codes "explain") then Some topic.Explain
    else if bytes_eq word (codes "xper") then Some topic.Xper
    else if bytes_eq word (codes "check") then Some topic.Check
    else if bytes_eq word (codes "code") then Some topic.Code
    else if bytes_eq word (codes "fmt") then Some topic.Fmt
    else if bytes_eq word (codes "replay") then Some topic.Replay
    else if bytes_eq word (codes "judge") then Some topic.Judge
    else if bytes_eq word (codes "picks") then Some topic.Picks
    else if bytes_eq word (codes "load") then Some topic.Load
    else if bytes_eq word (codes "trace-up") then Some topic.TraceUp
    else if bytes_eq word (codes "help") then Some topic.Help
    else None
