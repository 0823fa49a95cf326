-- What the contracts of alternatives and elements say.
use Rattle.std.proofs.Common.{[], ◌+◌, length, refl}
use Rattle.chi_core.specs.declared.limits.TheConstants.{MOST_CALLS}
use Rattle.chi_core.specs.declared.program.Core.{Core}
use Rattle.chi_core.specs.Functions.{calls}
use Rattle.chi_code.specs.Codes.{Codes}
use Rattle.chi_exec_law.specs.Laws.{Calls}
use Rattle.chi_exec_law.proofs.Bodies.{calls_run}
use Rattle.chi_machine_laws.specs.Deeds.{Within, setting}
use Rattle.chi_machine_laws.specs.Parts.{OpeningsLead, StartingsLead}
use Rattle.chi_machine_laws.proofs.Openings.{alts_run}
use Rattle.chi_machine_laws.proofs.Startings.{elems_run}

calls_here : (core : Core) (w : Within) → Codes core w.code → Calls (setting w) (calls core.funcs w.scene) []
calls_here core w codes = calls_run (setting w) core.funcs (codes.over + 1) codes.second codes.functions MOST_CALLS [] refl refl

pub openings_lead : OpeningsLead
openings_lead core w codes slots around end names xs p q a z h made text under variables offers kept all view =
    alts_run w (calls core.funcs w.scene) (calls_here core w codes) slots around end made text names xs p q a z h under variables offers kept all view

pub startings_lead : StartingsLead
startings_lead core w codes xs a z h under variables made new all view =
    elems_run core w (calls core.funcs w.scene) (calls_here core w codes) codes.second (length w.code.instrs) codes.processes xs a z h under variables made new all view
