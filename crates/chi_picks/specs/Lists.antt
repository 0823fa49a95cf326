-- Texts of picks: a line for each number.
use Rattle.std.specs.Prelude.{◌≡◌, ◌≢◌, ℕ, ◌+◌, List, [], ◌++◌, length, map, Option, Some}
use Rattle.std.specs.Fmt.{decimal}
use Rattle.std.specs.List.{flat_map}
use Rattle.chi_cli.specs.Numbers.{number_in}
use Rattle.chi_picks.specs.declared.fault.PicksFault.{PicksFault}
use Rattle.chi_picks.specs.declared.fault.PicksFault.TheVariants as fault
use Rattle.chi_trace.specs.Logs.{ended}

-- the number that a line is: 1 to 20 digits of a number below 2^64
abbrev pub pick_in : List ℕ → Option ℕ
pick_in line = number_in 0 18_446_744_073_709_551_615 line

-- the lines are these numbers, each at its place
abbrev pub AreOf : List (List ℕ) → List ℕ → Type 0
AreOf lines picks = map pick_in lines ≡ map (λ pick. Some pick) picks

-- the text is a line for each of these numbers, each ended by a line feed
pub record Has (text picks : List ℕ) : Type 0 where
  pub lines : List (List ℕ)
  pub are : AreOf lines picks
  pub is : text ≡ flat_map ended lines

-- something that doesn't begin with a number and a line feed
pub record BeginsOddly (rest : List ℕ) : Type 0 where
  pub some : rest ≢ []
  pub no_line : (line more : List ℕ) (pick : ℕ) → pick_in line ≡ Some pick → rest ≢ ended line ++ more

-- line k, counted from 1, is the first that doesn't fit
pub record Misfits (text : List ℕ) (k : ℕ) : Type 0 where
  pub lines : List (List ℕ)
  pub picks : List ℕ
  pub are : AreOf lines picks
  pub rest : List ℕ
  pub odd : BeginsOddly rest
  pub is : text ≡ flat_map ended lines ++ rest
  pub counted : k ≡ length lines + 1

-- what is refused, and with which line; want of memory is tied to nothing
abbrev pub IsRefused : List ℕ → PicksFault → Type 0
IsRefused text (fault.Line k) = Misfits text k
IsRefused text fault.NoMemory = Unit {0}

-- picks as a text: each as a decimal number and a line feed
abbrev pub spelled : List ℕ → List ℕ
spelled picks = flat_map (λ pick. ended (decimal pick)) picks
