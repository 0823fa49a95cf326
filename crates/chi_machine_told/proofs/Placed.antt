-- Processes by their numbers, and turns by their places.
use Rattle.std.proofs.Common.{◌≡◌, ◌≢◌, ℕ, List, Some, None, ap, ◌∙◌}
use Rattle.std.specs.Prelude.{option_map, slice_get}
use Rattle.chi_code.specs.declared.code.Code.{Code}
use Rattle.chi_code.specs.declared.code.Entry.{Entry}
use Rattle.chi_code.specs.declared.instr.Instr.{Instr}
use Rattle.chi_machine_events.specs.Events.{turn_line}
use Rattle.chi_machine_laws.specs.Labels.{name_at}

pub named_is : (code : Code) (process : ℕ) (e : Entry) → slice_get code.procs process ≡ Some e → name_at code process ≡ Some e.name
named_is code process e there = ap (option_map (λ (e : Entry). e.name)) there

pub named_there : (code : Code) (process : ℕ) → name_at code process ≢ None → slice_get code.procs process ≢ None
named_there code process well none = well (ap (option_map (λ (e : Entry). e.name)) none)

pub ruleset naming = (named_is, named_there)

module _ (code : List Instr) (at : ℕ) where
  pub turned_there : turn_line (slice_get code at) ≢ None → slice_get code at ≢ None
  turned_there well none = well (ap turn_line none)

  pub turned_well : (x : Instr) → slice_get code at ≡ Some x → turn_line (slice_get code at) ≢ None → turn_line (Some x) ≢ None
  turned_well x there well none = well (ap turn_line there ∙ none)

  pub turned_is : (x : Instr) (line : ℕ) → slice_get code at ≡ Some x → turn_line (Some x) ≡ Some line → turn_line (slice_get code at) ≡ Some line
  turned_is x line there is = ap turn_line there ∙ is

pub ruleset turning = (turned_there, turned_well, turned_is)
