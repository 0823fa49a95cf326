-- The lines of verdicts.
use Rattle.std.proofs.Common.{◌≡◌, refl, ℕ, pos, List, [], None, Some}
use Rattle.std.specs.Prelude.{codes}
use Rattle.std.specs.Fmt.{digits}
use Rattle.chi_num.specs.Decimal.{last_digits}
use Rattle.chi_num.specs.RealText.{trimmed}
use Rattle.chi_value.specs.Text.{quoted_text}
use Rattle.chi_core.specs.declared.fault.FaultKind.TheVariants.{DivideByZero}
use Rattle.chi_core.specs.declared.verdict.Verdict.{Verdict}
use Rattle.chi_core.specs.declared.verdict.Verdict.TheVariants.{Completed, Exit, Deadlock, Fault, OutOfSteps, Stopped}
use Rattle.chi_core.specs.VerdictLine.{verdict_line_of}
use Rattle.chi_core_rows.proofs.Closed.{closed}
use Rattle.chi_core_rows.proofs.Small.{int}

abbrev line : Verdict → List ℕ
line verdict = verdict_line_of [] verdict (pos 1_500_000_000)

completed : line Completed ≡ codes "completed at time 1.5\n"
unfolding verdict_line_of digits last_digits trimmed
completed = refl

exit : line (Exit None) ≡ codes "exit at time 1.5\n"
unfolding verdict_line_of digits last_digits trimmed
exit = refl

exit_with : line (Exit (Some (int 7))) ≡ codes "exit 7 at time 1.5\n"
unfolding verdict_line_of digits last_digits trimmed
exit_with = simp (closed, quoted_text)

deadlock : line Deadlock ≡ codes "deadlock at time 1.5\n"
unfolding verdict_line_of digits last_digits trimmed
deadlock = refl

fault : line (Fault DivideByZero (codes "M") 12) ≡ codes "fault DivideByZero in M line 12 at time 1.5\n"
unfolding verdict_line_of digits last_digits trimmed
fault = refl

out_of_steps : line OutOfSteps ≡ codes "out of steps at time 1.5\n"
unfolding verdict_line_of digits last_digits trimmed
out_of_steps = refl

stopped : line Stopped ≡ codes "stopped at time 1.5\n"
unfolding verdict_line_of digits last_digits trimmed
stopped = refl
