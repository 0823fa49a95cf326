-- When a text is refused.
use Rattle.std.specs.Prelude.{ℕ, ◌<◌, Option, Some, None, List, length}
use Rattle.chi_value.specs.declared.text.limit.TheConstants.{MOST_TEXT}
use Rattle.chi_value.specs.declared.text.fault.TextFault.{TextFault}
use Rattle.chi_value.specs.declared.text.fault.TextFault.TheVariants as text_fault
use Rattle.chi_format.specs.FormatCodes.{HasBadCode}
use Rattle.chi_format.specs.declared.format_fault.FormatFault.{FormatFault}
use Rattle.chi_format.specs.declared.format_fault.FormatFault.TheVariants as format_fault
use Rattle.chi_format.specs.declared.render_fault.RenderFault.{RenderFault}
use Rattle.chi_format.specs.declared.render_fault.RenderFault.TheVariants as fault

-- the fault of the limit stands only where there is a text, and it is longer than one may be
abbrev pub PastLimit : RenderFault → Option (List ℕ) → Type 0
PastLimit fault.Limit (Some text) = MOST_TEXT < length text
PastLimit fault.Limit None = ⊥
PastLimit fault.NoMemory text = Unit {0}

-- what refuses a value's text refuses the whole
abbrev pub refusal_of : TextFault → RenderFault
refusal_of text_fault.Limit = fault.Limit
refusal_of text_fault.NoMemory = fault.NoMemory

-- the fault of a bad code stands only at the first percent sign that begins no code
abbrev pub IsBadFormat : FormatFault → List ℕ → Type 0
IsBadFormat (format_fault.BadCode offset) text = HasBadCode text offset
IsBadFormat format_fault.NoMemory text = Unit {0}
