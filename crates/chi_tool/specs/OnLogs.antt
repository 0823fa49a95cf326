-- What a text is as a log of a program that is asked for with arguments, whatever policy makes it.
use Rattle.std.specs.Prelude.{ℕ, List}
use Rattle.chi_core.specs.declared.program.Core.{Core}
use Rattle.chi_core.specs.Beginning.{start}
use Rattle.chi_judge.specs.Judging.{IsLogBy}
use Rattle.chi_log.specs.Laws.{IsRefused}
use Rattle.chi_value.specs.declared.value.Value.{Value}
use Rattle.chi_tool.specs.Settings.{Unpicked}

-- the program can give it: it is the log of a run which wrote this output and is made by these picks
abbrev pub IsLogWith : Core → Unpicked → List Value → List ℕ → List ℕ → List ℕ → Type 0
IsLogWith core u arguments text output picks = IsLogBy core (start core arguments u.seed u.until) u.bound text output picks

-- the program can't, and line k is its first wrong one
abbrev pub IsNoLogWith : Core → Unpicked → List Value → List ℕ → ℕ → Type 0
IsNoLogWith core u arguments text k = IsRefused core (start core arguments u.seed u.until) u.bound text k
