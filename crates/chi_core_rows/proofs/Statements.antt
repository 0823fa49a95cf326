-- One step of each statement that functions and processes share.
use Rattle.std.proofs.Common.{◌≡◌, ℕ, pos, negsuc, List, [], ◌∷◌, Some, None, map, true, false, refl}
use Rattle.std.specs.Prelude.{codes}
use Rattle.chi_value.specs.declared.value.Value.{Value}
use Rattle.chi_value.specs.declared.value.Value.TheVariants as value
use Rattle.chi_core.specs.declared.expression.CExpr.{CExpr}
use Rattle.chi_core.specs.declared.expression.CExpr.TheVariants as e
use Rattle.chi_core.specs.declared.statement.Branch.{Branch, roll-Branch}
use Rattle.chi_core.specs.declared.statement.CStat.{CStat}
use Rattle.chi_core.specs.declared.statement.CStat.TheVariants as s
use Rattle.chi_core.specs.declared.target.CStep.TheVariants.{Index}
use Rattle.chi_core.specs.declared.label.Label.TheVariants.{Local}
use Rattle.chi_core.specs.declared.program.Core.{Core}
use Rattle.chi_core.specs.declared.fault.FaultKind.TheVariants.{IndexRange}
use Rattle.chi_core.specs.declared.verdict.Verdict.TheVariants.{Fault}
use Rattle.chi_core.specs.Terms.{Do, Loop, Walk, Item, Term}
use Rattle.chi_core.specs.Config.{Finished}
use Rattle.chi_core.specs.Variables.{Variables}
use Rattle.chi_core.specs.Step.{step, Outcome, Next, Over, Spent, Amiss}
use Rattle.chi_core.proofs.Equations.{eval_lit, eval_var}
use Rattle.chi_core_rows.proofs.Closed.{containers, layers}
use Rattle.chi_core_rows.proofs.Small.{int, number, whole, process, core_of, config_of, instance, alone, set}

abbrev core : Core
core = core_of (process [] [] ∷ [])

-- the step of the only instance, which has these variables and items
abbrev does : Variables → Term → Outcome
does variables term = step core (alone variables term) (Local 0) 50

-- it goes on with these
abbrev goes : Variables → Term → Outcome
goes variables term = Next (alone variables term) [] 49

-- what comes behind the statement
abbrev rest : Item
rest = Do (s.Pass 2)

abbrev block : List CStat
block = s.Pass 3 ∷ []

abbrev true_test : CExpr
true_test = e.Lit (value.Bool true)

abbrev false_test : CExpr
false_test = e.Lit (value.Bool false)

-- int x = 3
declares : does (None ∷ []) (Do (s.Declare 1 0 (number 3)) ∷ rest ∷ []) ≡ goes (set 3 ∷ []) (rest ∷ [])
unfolding step denote.Hole.Carrier.out
declares = simp (s.outs-Declare, eval_lit)

-- x, y = y, x
swaps : does (set 3 ∷ set 4 ∷ []) (Do (s.Assign 1 (whole 0 ∷ whole 1 ∷ []) (e.Var 1 ∷ e.Var 0 ∷ [])) ∷ rest ∷ []) ≡ goes (set 4 ∷ set 3 ∷ []) (rest ∷ [])
unfolding step denote.Hole.Carrier.out
swaps = simp (s.outs-Assign, eval_var)

abbrev list : List ℕ → Value
list ns = value.ListOf (map int ns)

-- xs[1] = 9
stores : does (Some (list (7 ∷ 8 ∷ [])) ∷ []) (Do (s.Assign 1 (record { slot = 0; steps = Index (number 1) ∷ [] } ∷ []) (number 9 ∷ [])) ∷ rest ∷ []) ≡ goes (Some (list (7 ∷ 9 ∷ [])) ∷ []) (rest ∷ [])
unfolding step denote.Hole.Carrier.out
stores = simp (s.outs-Assign, eval_lit, containers)

-- xss[-1][0] = 9
stores_deeper : does (Some (value.ListOf (list (7 ∷ []) ∷ list (8 ∷ 5 ∷ []) ∷ [])) ∷ [])
    (Do (s.Assign 1 (record { slot = 0; steps = Index (e.Lit (value.Int (negsuc 0))) ∷ Index (number 0) ∷ [] } ∷ []) (number 9 ∷ [])) ∷ rest ∷ [])
    ≡ goes (Some (value.ListOf (list (7 ∷ []) ∷ list (9 ∷ 5 ∷ []) ∷ [])) ∷ []) (rest ∷ [])
unfolding step denote.Hole.Carrier.out
stores_deeper = simp (s.outs-Assign, eval_lit, containers)

-- xs[2] = 9, of which the fault has the name of the process and the line of the statement
faults : does (Some (list (7 ∷ 8 ∷ [])) ∷ []) (Do (s.Assign 5 (record { slot = 0; steps = Index (number 2) ∷ [] } ∷ []) (number 9 ∷ [])) ∷ rest ∷ []) ≡ Over (Fault IndexRange (codes "P") 5)
unfolding step denote.Hole.Carrier.out
faults = simp (s.outs-Assign, eval_lit, containers)

-- x, y = t
spreads : does (None ∷ None ∷ Some (value.TupleOf (int 1 ∷ int 2 ∷ [])) ∷ []) (Do (s.Assign 1 (whole 0 ∷ whole 1 ∷ []) (e.Var 2 ∷ [])) ∷ rest ∷ []) ≡ goes (set 1 ∷ set 2 ∷ Some (value.TupleOf (int 1 ∷ int 2 ∷ [])) ∷ []) (rest ∷ [])
unfolding step denote.Hole.Carrier.out
spreads = simp (s.outs-Assign, eval_var, layers)

abbrev branch : CExpr → List CStat → Branch
branch test block = roll-Branch (record { test = test; block = block })

-- the second branch, since the first test is false
branches : does [] (Do (s.If 1 (branch false_test [] ∷ branch true_test block ∷ []) []) ∷ rest ∷ []) ≡ goes [] (Do (s.Pass 3) ∷ rest ∷ [])
unfolding step denote.Hole.Carrier.out
branches = simp (s.outs-If, eval_lit, layers)

otherwise : does [] (Do (s.If 1 (branch false_test [] ∷ []) block) ∷ rest ∷ []) ≡ goes [] (Do (s.Pass 3) ∷ rest ∷ [])
unfolding step denote.Hole.Carrier.out
otherwise = simp (s.outs-If, eval_lit, layers)

-- a loop goes in, turns, and is dropped
loops : does [] (Do (s.While 1 true_test block) ∷ rest ∷ []) ≡ goes [] (Do (s.Pass 3) ∷ Loop 1 true_test block ∷ rest ∷ [])
unfolding step denote.Hole.Carrier.out
loops = simp (s.outs-While, eval_lit, layers)

turns : does [] (Loop 1 true_test block ∷ rest ∷ []) ≡ goes [] (Do (s.Pass 3) ∷ Loop 1 true_test block ∷ rest ∷ [])
unfolding step denote.Hole.Carrier.out
turns = simp (eval_lit, layers)

drops : does [] (Loop 1 false_test block ∷ rest ∷ []) ≡ goes [] (rest ∷ [])
unfolding step denote.Hole.Carrier.out
drops = simp (eval_lit, layers)

-- for i in xs
walks : does (None ∷ Some (list (7 ∷ 8 ∷ [])) ∷ []) (Do (s.For 1 (0 ∷ []) (e.Var 1) block) ∷ rest ∷ []) ≡ goes (None ∷ Some (list (7 ∷ 8 ∷ [])) ∷ []) (Walk 1 (0 ∷ []) (int 7 ∷ int 8 ∷ []) block ∷ rest ∷ [])
unfolding step denote.Hole.Carrier.out
walks = simp (s.outs-For, eval_var, layers)

walk_turns : does (None ∷ []) (Walk 1 (0 ∷ []) (int 7 ∷ int 8 ∷ []) block ∷ rest ∷ []) ≡ goes (set 7 ∷ []) (Do (s.Pass 3) ∷ Walk 1 (0 ∷ []) (int 8 ∷ []) block ∷ rest ∷ [])
unfolding step
walk_turns = refl

-- of several names each takes its part
walk_parts : does (None ∷ None ∷ []) (Walk 1 (0 ∷ 1 ∷ []) (value.TupleOf (int 7 ∷ int 8 ∷ []) ∷ []) block ∷ rest ∷ []) ≡ goes (set 7 ∷ set 8 ∷ []) (Do (s.Pass 3) ∷ Walk 1 (0 ∷ 1 ∷ []) [] block ∷ rest ∷ [])
unfolding step denote.Hole.Carrier.out
walk_parts = simp layers

walk_ends : does (set 8 ∷ []) (Walk 1 (0 ∷ []) [] block ∷ rest ∷ []) ≡ goes (set 8 ∷ []) (rest ∷ [])
unfolding step
walk_ends = refl

breaks : does [] (Do (s.Break 4) ∷ Do (s.Pass 3) ∷ Loop 1 true_test block ∷ rest ∷ []) ≡ goes [] (rest ∷ [])
unfolding step denote.Hole.Carrier.out
breaks = simp s.outs-Break

breaks_walk : does [] (Do (s.Break 4) ∷ Walk 1 (0 ∷ []) (int 8 ∷ []) block ∷ rest ∷ []) ≡ goes [] (rest ∷ [])
unfolding step denote.Hole.Carrier.out
breaks_walk = simp s.outs-Break

continues : does [] (Do (s.Continue 4) ∷ Do (s.Pass 3) ∷ Loop 1 true_test block ∷ rest ∷ []) ≡ goes [] (Loop 1 true_test block ∷ rest ∷ [])
unfolding step denote.Hole.Carrier.out
continues = simp s.outs-Continue

passes : does [] (Do (s.Pass 1) ∷ rest ∷ []) ≡ goes [] (rest ∷ [])
unfolding step denote.Hole.Carrier.out
passes = simp s.outs-Pass

-- after its last item an instance is finished
finishes : does [] (rest ∷ []) ≡ Next (config_of (pos 0) 0 (instance 0 [] [] Finished ∷ [])) [] 49
unfolding step denote.Hole.Carrier.out
finishes = simp s.outs-Pass

-- nothing returns in a process, and there is no loop to break here
no_return : does [] (Do (s.Return 1 (number 3)) ∷ rest ∷ []) ≡ Amiss
unfolding step denote.Hole.Carrier.out
no_return = simp (s.outs-Return, eval_lit)

no_loop : does [] (Do (s.Break 4) ∷ rest ∷ []) ≡ Amiss
unfolding step denote.Hole.Carrier.out
no_loop = simp s.outs-Break

-- nothing is done where nothing is left of the bound
spent : step core (alone [] (rest ∷ [])) (Local 0) 0 ≡ Spent
unfolding step
spent = refl
