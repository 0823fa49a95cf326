-- What holds of logs: a text is the log of one derivation at most, and how it is told line by line whether it is one.
use Rattle.std.specs.Prelude.{◌≡◌, ◌≢◌, ◌⊎◌, ℕ, suc, List, [], ◌++◌, Some, None, Contains}
use Rattle.chi_core.specs.declared.label.Label.{Label}
use Rattle.chi_core.specs.declared.program.Core.{Core}
use Rattle.chi_core.specs.Beginning.{Beginning}
use Rattle.chi_core.specs.Config.{Config}
use Rattle.chi_core.specs.Options.{Ending, enabled}
use Rattle.chi_core.specs.Picks.{last_numbers, numbers_of, picks_of}
use Rattle.chi_core.specs.Runs.{IsAtRest, Told}
use Rattle.chi_core.specs.Sound.{Sound}
use Rattle.chi_core.specs.Step.{Spent, step}
use Rattle.chi_core_runs.specs.Picked.{IsBeginning}
use Rattle.chi_trace.specs.Lines.{first_line}
use Rattle.chi_trace.specs.Logs.{ended}
use Rattle.chi_log.specs.Allowed.{ending_line, first_lines, IsAllowed, IsFirstWrong, IsLogOf}
use Rattle.chi_log.specs.Reading.{At, IsLineOf, MayEnd, NoEnding, NoLabel, Place, Read, ReadSoFar, Stands, Tells, numbers_last, read_first, read_more}

-- no text is the log of two derivations
abbrev pub OneLog : Type 0
OneLog =
    (core : Core) → Sound core → (beginning : Beginning) → IsBeginning core beginning → (bound : ℕ) (told other : Told) (text : List ℕ)
    → IsLogOf core beginning bound told text → IsLogOf core beginning bound other text → told ≡ other

-- and none has two first wrong lines
abbrev pub OneFirstWrong : Type 0
OneFirstWrong =
    (core : Core) (beginning : Beginning) (bound : ℕ) (text : List ℕ) (j k : ℕ)
    → IsFirstWrong core beginning bound text j → IsFirstWrong core beginning bound text k → j ≡ k

-- the text isn't a log of the program, and this is its first wrong line
pub record IsRefused (core : Core) (beginning : Beginning) (bound : ℕ) (text : List ℕ) (k : ℕ) : Type 0 where
  pub not_allowed : IsAllowed core beginning bound text → ⊥
  pub first_wrong : IsFirstWrong core beginning bound text k

-- each text is a log of the program, or has a first wrong line
abbrev pub EachIsJudged : Type 0
EachIsJudged =
    (core : Core) → Sound core → (beginning : Beginning) → IsBeginning core beginning → (bound : ℕ) (text : List ℕ)
    → IsAllowed core beginning bound text ⊎ ((k : ℕ) × IsRefused core beginning bound text k)

-- reading line by line

-- a text that doesn't begin with the first line of a trace
abbrev pub FirstLineWrong : Type 0
FirstLineWrong =
    (core : Core) (beginning : Beginning) (bound : ℕ) (text : List ℕ) → ((rest : List ℕ) → text ≢ ended first_line ++ rest)
    → IsRefused core beginning bound text 1

-- the first line of a trace was read
abbrev pub ReadingBegins : Type 0
ReadingBegins =
    (core : Core) → Sound core → (beginning : Beginning) → IsBeginning core beginning → (bound : ℕ) (place : Place) → Stands beginning bound place
    → ReadSoFar core beginning bound (read_first place)

-- a line more tells a label
abbrev pub ReadingGoesOn : Type 0
ReadingGoesOn =
    (core : Core) → Sound core → (beginning : Beginning) (bound : ℕ) (r : Read) → ReadSoFar core beginning bound r
    → (turn : ℕ) (config : Config) (left : ℕ) → r.place ≡ At turn config left
    → (line : List ℕ) (label : Label) (output : List ℕ) (next : Place) → Tells core turn config left line label output next
    → ReadSoFar core beginning bound (read_more r line label output (numbers_of config label) next)

-- the line of an ending makes it a log
abbrev pub ReadingEnds : Type 0
ReadingEnds =
    (core : Core) → Sound core → (beginning : Beginning) (bound : ℕ) (r : Read) → ReadSoFar core beginning bound r
    → (end : Ending) → MayEnd core r.place end → (told : Told) → told ≡ record { labels = r.labels; ending = end; output = r.output }
    → IsLogOf core beginning bound told (r.front ++ ending_line core end)
    × (picks_of core beginning bound told ≡ r.numbers ++ numbers_last core r.place end)

-- the text has no line more
abbrev pub NoLineMore : Type 0
NoLineMore =
    (core : Core) → Sound core → (beginning : Beginning) (bound : ℕ) (r : Read) → ReadSoFar core beginning bound r
    → (rest : List ℕ) → first_lines 1 rest ≡ None → IsRefused core beginning bound (r.front ++ rest) (suc r.count)

-- the next line tells no label and no ending
abbrev pub NextLineWrong : Type 0
NextLineWrong =
    (core : Core) → Sound core → (beginning : Beginning) (bound : ℕ) (r : Read) → ReadSoFar core beginning bound r
    → (rest line : List ℕ) → first_lines 1 rest ≡ Some line → NoLabel core r.place line → NoEnding core r.place line
    → IsRefused core beginning bound (r.front ++ rest) (suc r.count)

-- the next line tells a label that costs more than is left
abbrev pub LabelTooDear : Type 0
LabelTooDear =
    (core : Core) → Sound core → (beginning : Beginning) (bound : ℕ) (r : Read) → ReadSoFar core beginning bound r
    → (turn : ℕ) (config : Config) (left : ℕ) → r.place ≡ At turn config left → (rest line : List ℕ) → first_lines 1 rest ≡ Some line
    → (label : Label) → Contains (enabled config) label → IsLineOf core turn config label line → step core config label left ≡ Spent
    → IsRefused core beginning bound (r.front ++ rest) (suc r.count)

-- something stands after the line of an ending
abbrev pub NothingAfterTheEnd : Type 0
NothingAfterTheEnd =
    (core : Core) → Sound core → (beginning : Beginning) (bound : ℕ) (r : Read) → ReadSoFar core beginning bound r
    → (end : Ending) → MayEnd core r.place end → (more : List ℕ) → more ≢ []
    → IsRefused core beginning bound (r.front ++ (ending_line core end ++ more)) (suc (suc r.count))

-- a run at rest ends with no numbers
abbrev pub RestsWithoutNumbers : Type 0
RestsWithoutNumbers =
    (core : Core) (config : Config) (left : ℕ) (end : Ending) → IsAtRest config end → last_numbers core end.verdict config left ≡ []
