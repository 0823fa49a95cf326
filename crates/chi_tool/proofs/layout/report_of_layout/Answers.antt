use Rattle.std.proofs.Common.{sym, subst}
use Rattle.chi_tool.specs.Readings.{IsParsedAs}
use Rattle.chi_tool.specs.Report.{faulty}
use Rattle.chi_tool.proofs.layout.report_of_layout.Goals as goal

pub laid_out-requires-clause-read : goal.laid_out-requires-clause-read
laid_out-requires-clause-read c = rw (sym c.deref.ensures.value) at (subst (IsParsedAs c.args.source.now) c.in-Written.is c.in_ok-refusal.ensures).0

pub laid_out-requires-clause-parsed : goal.laid_out-requires-clause-parsed
laid_out-requires-clause-parsed c = rw (sym c.deref.ensures.value) at (subst (IsParsedAs c.args.source.now) c.in-Written.is c.in_ok-refusal.ensures).1

pub returns-in-Refused : goal.returns-in-Refused
returns-in-Refused c = faulty (subst (IsParsedAs c.args.source.now) c.in-Refused.is c.in_ok-refusal.ensures)
