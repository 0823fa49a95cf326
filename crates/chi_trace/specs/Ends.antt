-- Lines cut off a text, and what comes of one that is none of an event.
use Rattle.std.specs.Prelude.{◌≡◌, ◌≢◌, ℕ, ◌+◌, ◌==◌, not, ◌++◌, ◌⊎◌, Bool, true, false, List, []}
use Rattle.chi_trace.specs.declared.fault.LogFault.{LogFault}
use Rattle.chi_trace.specs.declared.fault.LogFault.TheVariants.{Form, NoMemory}
use Rattle.chi_trace.specs.Logs.{ended, begins_small, is_one_line}

abbrev pub is_line_byte : ℕ → Bool
is_line_byte c = not (c == 10)

abbrev pub OneLine : List ℕ → Type 0
OneLine line = is_one_line line ≡ true

-- a line stands at the front of a text, and that is left
pub record IsCut (text line more : List ℕ) : Type 0 where
  pub one_line : OneLine line
  pub is : text ≡ ended line ++ more

-- it is the last line, and ends the log
pub record IsLastOf (line more front log : List ℕ) : Type 0 where
  pub small : begins_small line ≡ true
  pub none : more ≡ []
  pub is : log ≡ front ++ ended line

-- it, or the line after it, doesn't fit
abbrev pub IsRefusedAt : List ℕ → List ℕ → ℕ → LogFault → Type 0
IsRefusedAt line more number (Form k) =
    ((begins_small line ≡ false) × (k ≡ number)) ⊎ ((begins_small line ≡ true) × (more ≢ []) × (k ≡ number + 1))
IsRefusedAt line more number NoMemory = Unit {0}
