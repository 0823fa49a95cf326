-- What the parts of a definition are said within: the program, the kinds of the slots, and what the definition is.
use Rattle.std.specs.Prelude.{ℕ, nat_lt, Bool, true, false, not, Option, List, [], option_map, take}
use Rattle.std.specs.List.{list_any}
use Rattle.chi_types.specs.declared.ty.Ty.{Ty-F}
use Rattle.chi_value.specs.declared.shape.Shape.{Shape, Shape-F, fold-Shape}
use Rattle.chi_value.specs.Plain.{itself}
use Rattle.chi_core.specs.declared.program.Core.{Core}
use Rattle.chi_core.specs.declared.program.FuncDef.{FuncDef}
use Rattle.chi_core.specs.declared.program.ProcDef.{ProcDef}
use Rattle.chi_core.specs.declared.experiment.XperDef.{XperDef}
use Rattle.chi_core.specs.declared.statement.CStat.{CStat}
use Rattle.chi_core.specs.declared.op_name.OpName.{OpName}
use Rattle.chi_core.specs.Kinds.{Kind, kind_of, kinds_of, holds_channel}
use Rattle.chi_core.specs.OperatorKinds.{depends_on_run}

-- the constant of a number; a function, with the kind of its result; or a process or model, with the kind of
-- the value of its exits, if they have one
pub data Role : Type 0 where
  constant : ℕ → Role
  function : Kind → Role
  process : Option Kind → Role

pub record Scope : Type 0 where
  pub core : Core
  pub slots : List Kind
  pub role : Role

-- a constant reads only those before it
abbrev pub may_read : Role → ℕ → Bool
may_read (constant number) other = nat_lt other number
may_read (function result) other = true
may_read (process exit) other = true

-- a constant calls no function
abbrev pub may_call : Role → Bool
may_call (constant number) = false
may_call (function result) = true
may_call (process exit) = true

-- only a process depends on the run
abbrev pub may_apply : Role → OpName → List Kind → Bool
may_apply (constant number) name operands = not (depends_on_run name operands)
may_apply (function result) name operands = not (depends_on_run name operands)
may_apply (process exit) name operands = true

abbrev pub makes_channel_step : Shape-F Bool → Bool
makes_channel_step Shape-F.Chan = true
makes_channel_step (Shape-F.TupleOf shapes) = list_any itself shapes
makes_channel_step _ = false

-- a default of the shape has a channel in it
abbrev pub makes_channel : Shape → Bool
makes_channel = fold-Shape Bool makes_channel_step

-- only a process makes channels
abbrev pub may_make : Role → Shape → Bool
may_make (constant number) shape = not (makes_channel shape)
may_make (function result) shape = not (makes_channel shape)
may_make (process exit) shape = true

-- no variable that a function declares holds a channel
abbrev pub may_declare : Role → Kind → Bool
may_declare (constant number) T = true
may_declare (function result) T = not (holds_channel T)
may_declare (process exit) T = true

-- a body, what it is said within, and the kinds of its parameters, which are its first slots
pub record Home : Type 0 where
  pub scope : Scope
  pub params : List Kind
  pub body : List CStat

-- a constant has no slots
abbrev pub constant_scope : Core → ℕ → Scope
constant_scope core number = record { core = core; slots = []; role = constant number }

-- the parameters of a function: so many of its slots
abbrev pub params_of : FuncDef → List Kind
params_of f = take f.arity (kinds_of f.slots)

abbrev pub function_home : Core → FuncDef → Home
function_home core f = record {
  scope = record { core = core; slots = kinds_of f.slots; role = function (kind_of f.result) };
  params = params_of f;
  body = f.body;
}

-- the kind of the value of a process's exits
abbrev pub exit_of : ProcDef → Option Kind
exit_of d = option_map kind_of d.exit

abbrev pub process_home : Core → ProcDef → Home
process_home core d = record {
  scope = record { core = core; slots = kinds_of d.slots; role = process (exit_of d) };
  params = kinds_of d.params;
  body = d.body;
}

-- what an experiment is said within: its expressions are those of a function, and nothing returns
abbrev pub experiment_scope : Core → XperDef → Scope
experiment_scope core x = record { core = core; slots = kinds_of x.slots; role = function Ty-F.Void }
