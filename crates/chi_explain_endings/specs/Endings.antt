-- The text that explains how a run ended.
use Rattle.std.specs.Prelude.{ℕ, ℤ, List, [], ◌++◌}
use Rattle.chi_core.specs.declared.verdict.Verdict.{Verdict}
use Rattle.chi_core.specs.declared.verdict.Verdict.TheVariants.{Completed, Exit, Deadlock, Fault, OutOfSteps, Stopped}
use Rattle.chi_core.specs.VerdictLine.{verdict_line_of}
use Rattle.chi_explain.specs.Excerpts.{ended, line_alone}
use Rattle.chi_explain_endings.specs.Faults.{fault_words}

-- what is told of a verdict after its line: of a fault the line of the source where it came, and what it means
abbrev pub told_of : List ℕ → Verdict → List ℕ
told_of source Completed = []
told_of source (Exit value) = []
told_of source Deadlock = []
told_of source (Fault kind name line) = line_alone source line ++ ended (fault_words kind)
told_of source OutOfSteps = []
told_of source Stopped = []

-- the line of the verdict as every log has it, and what is told of it
abbrev pub ending_text : List ℕ → List (List (List ℕ)) → Verdict → ℤ → List ℕ
ending_text source names verdict clock = verdict_line_of names verdict clock ++ told_of source verdict
