-- Private to proofs: a report as the program holds it.
use Rattle.std.specs.Prelude.{ℕ, List, ◌++◌, Result, Ok, Err}
use Rattle.chi_base.specs.declared.no_memory.NoMemory.{NoMemory}
use Rattle.chi_engine.specs.Below.chi_machine_traces.specs.declared.passing.PassFault.{PassFault}
use Rattle.chi_engine.specs.Below.chi_machine_traces.specs.declared.passing.PassFault.TheVariants as fault
use Rattle.chi_tool.specs.Refusals.{Report}
use Rattle.chi_tool.specs.declared.report.Reported.{Reported}

-- the report that is held
abbrev pub report_in : Reported → Report
report_in r = record { status = r.status; out = r.out.items; log = r.log.items }

-- the report of which the rest is held, after this was passed on of its output
abbrev pub report_after : List ℕ → Reported → Report
report_after passed r = record { status = r.status; out = passed ++ r.out.items; log = r.log.items }

-- the same where nothing is passed on
abbrev pub unpassed : Result Reported NoMemory → Result Reported PassFault
unpassed (Ok r) = Ok r
unpassed (Err lost) = Err fault.NoMemory
