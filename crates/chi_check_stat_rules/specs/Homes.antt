-- What may stand in a function, in a process and in an experiment, and what may not.
use Rattle.std.specs.Prelude.{Bool, true, false, not, List, [], Option, Some, None}
use Rattle.chi_token.specs.declared.place.Place.{Place}
use Rattle.chi_types.specs.declared.ty.Ty.{Ty, fold-Ty}
use Rattle.chi_types.specs.Plain.{is_plain}
use Rattle.chi_core.specs.Kinds.{holds_channel_step}
use Rattle.chi_check_types.specs.declared.fault.Fault.{Fault}
use Rattle.chi_check_types.specs.declared.rules.TheConstants.{IN_FUNCTION, CHANNEL_IN_FUNCTION, IN_EXPERIMENT}
use Rattle.chi_check_types.specs.declared.site.Site.{Site}
use Rattle.chi_check_types.specs.declared.site.Site.TheVariants as site
use Rattle.chi_check_types.specs.Typed.{broken_if}
use Rattle.chi_check_stat_rules.specs.declared.home.Home.{Home}
use Rattle.chi_check_stat_rules.specs.declared.home.Home.TheVariants as home

-- where its expressions stand
abbrev pub site_of : Home → Site
site_of (home.Function result) = site.Function
site_of (home.Process exit) = site.Process
site_of home.Experiment = site.Experiment

-- what communicates, waits, starts or ends a run stands in no function and in no experiment
abbrev pub running_rule : Home → Place → List Fault
running_rule (home.Function result) place = broken_if true IN_FUNCTION place
running_rule (home.Process exit) place = []
running_rule home.Experiment place = broken_if true IN_EXPERIMENT place

-- what writes stands in no function
abbrev pub writing_rule : Home → Place → List Fault
writing_rule (home.Function result) place = broken_if true IN_FUNCTION place
writing_rule (home.Process exit) place = []
writing_rule home.Experiment place = []

-- a channel is in the type, at some depth
abbrev pub has_channel : Ty → Bool
has_channel = fold-Ty Bool holds_channel_step

abbrev pub local_in_rule : Home → Place → Ty → List Fault
local_in_rule (home.Function result) place t = broken_if (has_channel t) CHANNEL_IN_FUNCTION place
local_in_rule (home.Process exit) place t = []
local_in_rule home.Experiment place t = broken_if (not (is_plain t)) IN_EXPERIMENT place

-- no local variable of a function has a type with a channel in it, and none of an experiment one that isn't plain
abbrev pub local_rule : Home → Place → Option Ty → List Fault
local_rule h place None = []
local_rule h place (Some t) = local_in_rule h place t
