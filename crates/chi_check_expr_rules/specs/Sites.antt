-- What may not stand in a constant's expression, in a function and in an experiment.
use Rattle.std.specs.Prelude.{ℕ, Bool, true, false, List, []}
use Rattle.chi_token.specs.declared.place.Place.{Place}
use Rattle.chi_check_types.specs.declared.fault.Fault.{Fault}
use Rattle.chi_check_types.specs.declared.rules.TheConstants.{NAME_KIND, IN_CONSTANT, IN_FUNCTION, IN_EXPERIMENT, MODEL_CALL}
use Rattle.chi_check_types.specs.declared.site.Site.{Site}
use Rattle.chi_check_types.specs.declared.site.Site.TheVariants as site
use Rattle.chi_check_types.specs.Typed.{broken_if}

-- what calls a function
abbrev pub calling_rule : Site → Place → List Fault
calling_rule site.Constant place = broken_if true IN_CONSTANT place
calling_rule site.Function place = []
calling_rule site.Process place = []
calling_rule site.Experiment place = []

-- what depends on the run
abbrev pub running_rule : Site → Place → List Fault
running_rule site.Constant place = broken_if true IN_CONSTANT place
running_rule site.Function place = broken_if true IN_FUNCTION place
running_rule site.Process place = []
running_rule site.Experiment place = broken_if true IN_EXPERIMENT place

abbrev pub running_rule_if : Bool → Site → Place → List Fault
running_rule_if true s place = running_rule s place
running_rule_if false s place = []

-- the rule that a call of a model breaks in an expression: only an experiment calls models, and only as whole values
abbrev pub model_call_rule : Site → ℕ
model_call_rule site.Constant = NAME_KIND
model_call_rule site.Function = NAME_KIND
model_call_rule site.Process = NAME_KIND
model_call_rule site.Experiment = MODEL_CALL
