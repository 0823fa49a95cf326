-- Functions: the items of their bodies are done in turn, at a cost of 1 each.
use Rattle.std.specs.Prelude.{ℕ, zero, suc, nat_eq, Option, Some, None, List, [], ◌∷◌, length, map, slice_get, if◌then◌else◌}
use Rattle.std.specs.Option.{option_and_then}
use Rattle.chi_value.specs.declared.value.Value.{Value}
use Rattle.chi_core.specs.declared.limits.TheConstants.{MOST_CALLS}
use Rattle.chi_core.specs.declared.program.FuncDef.{FuncDef}
use Rattle.chi_core.specs.declared.fault.FaultKind.TheVariants.{CallDepth, NoReturn}
use Rattle.chi_core.specs.Answer.{Gives, Fails, Spent, Amiss, Does, then_do, tick}
use Rattle.chi_core.specs.Variables.{Variables, variables_of}
use Rattle.chi_core.specs.Scene.{Scene}
use Rattle.chi_core.specs.Evaluation.{Run, eval}
use Rattle.chi_core.specs.Terms.{Do, Term, Did, On, Returns, act}

-- what comes after an item: the rest of the body, unless the function returns
abbrev pub did_then : (Variables → Term → Does Value) → Did → Does Value
did_then next (On variables term) = next variables term
did_then next (Returns v) = λ view. Gives v view

-- The items in turn, each of which uses up 1, in so many turns at most. As many as are left of the bound are enough.
unfoldable pub exec : ℕ → Run → Scene → Variables → Term → Does Value
exec turns run scene variables [] view = Fails NoReturn
exec zero run scene variables (i ∷ term) view = Spent
exec (suc turns) run scene variables (i ∷ term) view =
    then_do (tick view) (λ ticked now.
    then_do (act (eval run scene variables) variables i term now) (did_then (exec turns run scene)))

abbrev pub taking : ℕ → FuncDef → Option FuncDef
taking count f = if nat_eq count f.arity then Some f else None

-- the function of a number, which takes so many arguments
abbrev pub callee : List FuncDef → ℕ → ℕ → Option FuncDef
callee functions number count = option_and_then (taking count) (slice_get functions number)

-- its body, with the arguments in its first slots
abbrev pub body_run : Run → Scene → Option FuncDef → List Value → Does Value
body_run run scene None arguments view = Amiss
body_run run scene (Some f) arguments view =
    exec view.left run scene (variables_of (length f.slots) arguments) (map Do f.body) view

-- calls of functions, of which so many may still be within each other
unfoldable pub run_at : ℕ → List FuncDef → Scene → Run
run_at zero functions scene number arguments view = Fails CallDepth
run_at (suc more) functions scene number arguments view =
    body_run (run_at more functions scene) scene (callee functions number (length arguments)) arguments view

-- calls from outside of all functions
abbrev pub calls : List FuncDef → Scene → Run
calls functions scene = run_at MOST_CALLS functions scene
