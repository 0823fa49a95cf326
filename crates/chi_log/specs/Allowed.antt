-- The log of a run with its trace, and which texts are logs that a program can give, whatever policy makes them.
use Rattle.std.specs.Prelude.{◌≡◌, ℕ, zero, suc, ◌≤◌, ◌<◌, ◌==◌, List, [], ◌∷◌, ◌++◌, Option, Some, None, option_map, if◌then◌else◌}
use Rattle.chi_core.specs.declared.program.Core.{Core}
use Rattle.chi_core.specs.Beginning.{Beginning}
use Rattle.chi_core.specs.Options.{Ending}
use Rattle.chi_core.specs.Runs.{Told, Derivation}
use Rattle.chi_core.specs.VerdictLine.{verdict_line_of}
use Rattle.chi_trace.specs.declared.filter.Filter.TheVariants.{All}
use Rattle.chi_trace_events.specs.Traces.{IsTrace}

-- the line that tells how and when a run ended
abbrev pub ending_line : Core → Ending → List ℕ
ending_line core end = verdict_line_of core.names.kinds end.verdict end.clock

-- all that is logged of a run: its whole trace, and the line of its ending
pub record IsLog (core : Core) (beginning : Beginning) (bound : ℕ) (told : Told) (text : List ℕ) : Type 0 where
  pub trace : List ℕ
  pub traced : IsTrace All core beginning bound told trace
  pub is : text ≡ trace ++ ending_line core told.ending

-- the text is the log of this derivation
pub record IsLogOf (core : Core) (beginning : Beginning) (bound : ℕ) (told : Told) (text : List ℕ) : Type 0 where
  pub derived : Derivation core beginning bound told
  pub logged : IsLog core beginning bound told text

-- the program can give this log: it is that of some derivation
abbrev pub IsAllowed : Core → Beginning → ℕ → List ℕ → Type 0
IsAllowed core beginning bound text = (told : Told) × IsLogOf core beginning bound told text

-- the first k lines of a text, each with its line feed, where it has so many
abbrev pub first_lines : ℕ → List ℕ → Option (List ℕ)
first_lines zero text = Some []
first_lines (suc k) [] = None
first_lines (suc k) (c ∷ cs) = option_map (λ front. c ∷ front) (if c == 10 then first_lines k cs else first_lines (suc k) cs)

-- the text has k lines, and its first k lines are those of a log that the program can give
pub record Fit (core : Core) (beginning : Beginning) (bound : ℕ) (text : List ℕ) (k : ℕ) : Type 0 where
  pub front : List ℕ
  pub here : first_lines k text ≡ Some front
  pub log : List ℕ
  pub allowed : IsAllowed core beginning bound log
  pub there : first_lines k log ≡ Some front

-- line k, counted from 1, is the first that is wrong: all lines before it fit, and with it they don't. A line that isn't
-- there, or that no line feed ends, doesn't fit.
pub record IsFirstWrong (core : Core) (beginning : Beginning) (bound : ℕ) (text : List ℕ) (k : ℕ) : Type 0 where
  pub counted : 1 ≤ k
  pub wrong : Fit core beginning bound text k → ⊥
  pub before : (j : ℕ) → 1 ≤ j → j < k → Fit core beginning bound text j
