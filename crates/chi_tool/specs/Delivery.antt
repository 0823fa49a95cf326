-- How the delivery of a report ends: its output is put, that of a run as it goes, and then its log, until a sink fails.
use Rattle.std.specs.Prelude.{◌≡◌, ℕ, true, false, List, []}
use Rattle.chi_io.specs.Sink.{GrewByProperFront}
use Rattle.chi_tool.specs.Refusals.{Report}
use Rattle.chi_tool.specs.Statuses as statuses
use Rattle.chi_tool.specs.Call.{SinkUse, Took, TookFront, SinkRose}

-- the sink took all of the bytes, and goes on
pub record TookWhole (sink : SinkUse) (bytes : List ℕ) : Type 0 where
  pub took : Took sink bytes
  pub goes : sink.stopped ≡ false

-- it took a front of them, and goes on
pub record TookPart (sink : SinkUse) (bytes : List ℕ) : Type 0 where
  pub took : TookFront sink bytes
  pub goes : sink.stopped ≡ false

-- it failed, and took less than all of them
pub record BrokeOff (sink : SinkUse) (bytes : List ℕ) : Type 0 where
  pub took : GrewByProperFront sink.before sink.after bytes
  pub rose : SinkRose sink
  pub stopped : sink.stopped ≡ true

-- a report is delivered whole, or the output broke off and nothing is logged, or the log broke off
pub data Delivers (status : ℕ) (output lines : List ℕ) (result : ℕ) (out log : SinkUse) : Type 0 where
  whole : result ≡ status → TookWhole out output → TookWhole log lines → Delivers status output lines result out log
  out_broke : result ≡ statuses.not_written → BrokeOff out output → TookWhole log [] → Delivers status output lines result out log
  log_broke : result ≡ statuses.not_written → TookWhole out output → BrokeOff log lines → Delivers status output lines result out log

-- the delivery of a report
abbrev pub DeliversReport : Report → ℕ → SinkUse → SinkUse → Type 0
DeliversReport r result out log = Delivers r.status r.out r.log result out log
