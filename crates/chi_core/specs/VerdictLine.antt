-- The line that tells how a run ended.
use Rattle.std.specs.Prelude.{ℕ, ◌≤◌, ℤ, List, [], ◌∷◌, ◌++◌, codes, length, Some, None, Bool, true, ◌&&◌, IsTrue}
use Rattle.std.specs.Fmt.{decimal}
use Rattle.chi_num.specs.RealText.{real_text_of}
use Rattle.chi_value.specs.Plain.{is_plain, within}
use Rattle.chi_value.specs.Text.{quoted_text}
use Rattle.chi_value.specs.declared.text.limit.TheConstants.{MOST_TEXT}
use Rattle.chi_core.specs.declared.program.Core.{Core}
use Rattle.chi_core.specs.declared.verdict.Verdict.{Verdict}
use Rattle.chi_core.specs.declared.verdict.Verdict.TheVariants.{Completed, Exit, Deadlock, Fault, OutOfSteps, Stopped}
use Rattle.chi_core.specs.Fault.{kind_name}

-- the value of an exit is plain, and its enumeration values have names
abbrev pub may_tell : List (List (List ℕ)) → Verdict → Bool
may_tell names (Exit (Some v)) = is_plain v && within names v
may_tell names _ = true

-- how long the quoted text of an exit's value is
abbrev pub told_length : List (List (List ℕ)) → Verdict → ℕ
told_length names (Exit (Some v)) = length (quoted_text names v)
told_length names _ = 0

abbrev pub verdict_text : List (List (List ℕ)) → Verdict → List ℕ
verdict_text names Completed = codes "completed"
verdict_text names (Exit None) = codes "exit"
verdict_text names (Exit (Some v)) = codes "exit " ++ quoted_text names v
verdict_text names Deadlock = codes "deadlock"
verdict_text names (Fault kind name line) = codes "fault " ++ kind_name kind ++ codes " in " ++ name ++ codes " line " ++ decimal line
verdict_text names OutOfSteps = codes "out of steps"
verdict_text names Stopped = codes "stopped"

-- the verdict and the time, and a line feed
unfoldable pub verdict_line_of : List (List (List ℕ)) → Verdict → ℤ → List ℕ
verdict_line_of names verdict clock = verdict_text names verdict ++ codes " at time " ++ real_text_of clock ++ 10 ∷ []

-- the line of the verdict of a run of the program can be told
pub record MayTell (core : Core) (verdict : Verdict) : Type 0 where
  pub may : IsTrue (may_tell core.names.kinds verdict)
  pub within : told_length core.names.kinds verdict ≤ MOST_TEXT
