-- Experiments: their items in turn, the models that they run, and how they end.
use Rattle.std.specs.Prelude.{ℕ, zero, suc, ◌+◌, ◌%◌, ◌^◌, ℤ, Bool, true, false, Option, Some, None, List, [], ◌∷◌, ◌++◌, length, map, slice_get}
use Rattle.chi_value.specs.declared.value.Value.{Value}
use Rattle.chi_core.specs.declared.experiment.XperDef.{XperDef}
use Rattle.chi_core.specs.declared.fault.FaultKind.{FaultKind}
use Rattle.chi_core.specs.declared.program.Core.{Core}
use Rattle.chi_core.specs.declared.scene.Scene.{Scene}
use Rattle.chi_core.specs.declared.verdict.Verdict.{Verdict}
use Rattle.chi_core.specs.declared.verdict.Verdict.TheVariants.{Exit}
use Rattle.chi_core.specs.declared.view.View.{View}
use Rattle.chi_core.specs.Answer as answer
use Rattle.chi_core.specs.Answer.{Answer, Gives, Fails, Does, then_do, gives, tick}
use Rattle.chi_core.specs.Arithmetic.{widened}
use Rattle.chi_core.specs.Beginning.{constant_scene, constant_view}
use Rattle.chi_core.specs.Evaluation.{Evaluates, eval}
use Rattle.chi_core.specs.Functions.{calls}
use Rattle.chi_core.specs.Spots.{Spot, store}
use Rattle.chi_core.specs.Variables.{Variables, variables_of}
use Rattle.chi_xper.specs.Items.{Do, Term, Call, Did, On, Calls, line_of, done}

-- what came of the run of a model: its output, and how and when it ended
pub record Outcome : Type 0 where
  pub output : List ℕ
  pub verdict : Verdict
  pub clock : ℤ

-- what comes of each run, by the model's number, the arguments and the seed
abbrev pub Outcomes : Type 0
Outcomes = ℕ → List Value → ℕ → Outcome

-- How an experiment ends. Its body ends after so many runs; or the run of this number, of this model, has no value
-- for it; or a fault comes in a line, or the next item costs more than is left, after so many runs. It is amiss where
-- something isn't there or isn't of its kind, which never happens in a sound program.
pub data End : Type 0 where
  Done : ℕ → End
  Run : ℕ → ℕ → Verdict → ℤ → End
  Fault : FaultKind → ℕ → ℕ → End
  Spent : ℕ → End
  Amiss : End

-- a run that is made
pub record Made : Type 0 where
  pub model : ℕ
  pub arguments : List Value
  pub seed : ℕ

-- all that an experiment did: the runs that it made, what it wrote with what they wrote, and how it ended
pub record Told : Type 0 where
  pub runs : List Made
  pub output : List ℕ
  pub end : End

-- it is over
abbrev pub over : End → Told
over end = record { runs = []; output = []; end = end }

-- these runs and this text come first
abbrev pub after : List Made → List ℕ → Told → Told
after runs text told = record told { runs = runs ++ told.runs; output = text ++ told.output }

-- after so many runs something in a line is done: what is told from there, unless the experiment is over by it
abbrev pub unless_over : {A : Type 0} → ℕ → ℕ → (A → View → Told) → Answer A → Told
unless_over line count next (Gives x view) = next x view
unless_over line count next (Fails kind) = over (Fault kind line count)
unless_over line count next answer.Spent = over (Spent count)
unless_over line count next answer.Amiss = over Amiss

-- an int as a real, where that is wanted
abbrev pub converted : Bool → Value → Does Value
converted true v = widened v
converted false v = gives v

-- the value of an exit, converted to a real or not, goes to a spot
abbrev pub taken : Bool → Spot → Variables → Value → Does Variables
taken widen spot variables v view = then_do (converted widen v view) (λ x. store (spot, x) variables)

-- the seed of a run by its number, where that of the first is given
abbrev pub seed_of : ℕ → ℕ → ℕ
seed_of seed number = (seed + number) % (2 ^ 64)

-- the value of an exit that has one
abbrev pub exit_value : Verdict → Option Value
exit_value (Exit v) = v
exit_value _ = None

-- The run of a number, called in a line, is over. Where it has exited with a value, that is taken, after one run more;
-- else the experiment is over.
abbrev pub came_back : ℕ → ℕ → Call → Variables → (Variables → View → Told) → View → Outcome → Option Value → Told
came_back line number call variables next view outcome (Some v) = unless_over line (suc number) next (taken call.widen call.spot variables v view)
came_back line number call variables next view outcome None = over (Run number call.model outcome.verdict outcome.clock)

-- the run of a number, where the seed of the first is given
abbrev pub made_by : ℕ → ℕ → Call → Made
made_by seed number call = record { model = call.model; arguments = call.arguments; seed = seed_of seed number }

abbrev pub outcome_of : Outcomes → Made → Outcome
outcome_of outcomes made = outcomes made.model made.arguments made.seed

-- a run is made, and comes to this
abbrev pub comes_to : ℕ → ℕ → Call → Variables → (Variables → View → Told) → View → Made → Outcome → Told
comes_to line number call variables next view made outcome =
    after (made ∷ []) outcome.output (came_back line number call variables next view outcome (exit_value outcome.verdict))

-- with these values of the program's constants, this seed, and what comes of runs
module _ (core : Core) (constants : List Value) (seed : ℕ) (outcomes : Outcomes) where
  abbrev pub here : Scene
  here = constant_scene core seed constants

  -- the evaluation of expressions, with these variables
  abbrev pub value_in : Variables → Evaluates
  value_in variables = eval (calls core.funcs here) here variables

  -- what is told from an item of a line on, after so many runs
  abbrev pub did_then : ℕ → ℕ → (ℕ → Variables → Term → View → Told) → Did → View → Told
  did_then line count next (On variables term text) view = after [] text (next count variables term view)
  did_then line count next (Calls call variables term) view =
      let made = made_by seed count call in
      comes_to line count call variables (λ new. next (suc count) new term) view made (outcome_of outcomes made)

  -- The items in turn, each of which uses up 1, after so many runs, in so many turns at most. As many as are left of
  -- the bound are enough.
  unfoldable pub goes : ℕ → ℕ → Variables → Term → View → Told
  goes turns count variables [] view = over (Done count)
  goes zero count variables (i ∷ term) view = over (Spent count)
  goes (suc turns) count variables (i ∷ term) view =
      unless_over (line_of i) count (did_then (line_of i) count (goes turns))
      (then_do (tick view) (λ ticked. done core (value_in variables) variables i term))

  abbrev pub begins : ℕ → Option XperDef → Told
  begins bound None = over Amiss
  begins bound (Some x) = goes bound 0 (variables_of (length x.slots) []) (map Do x.body) (record constant_view { left = bound })

  -- the first experiment of the program, within a bound
  abbrev pub experiment : ℕ → Told
  experiment bound = begins bound (slice_get core.xpers 0)
