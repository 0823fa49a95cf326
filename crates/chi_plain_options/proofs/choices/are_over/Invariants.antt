use Rattle.std.proofs.Common.{◌≡◌, drop}
use Rattle.chi_core.specs.Meeting.{are_over}
use Rattle.chi_plain_options.proofs.choices.are_over.Given as goal

abbrev pub invariant-loop-pid : goal.invariant-loop-pid
invariant-loop-pid l = are_over l.fn.config (drop l.pid-index l.waited) ≡ are_over l.fn.config l.waited
