-- How the first item of what is left to do is done.
use Rattle.std.specs.Prelude.{[], ◌∷◌, Option, Some, None}
use Rattle.chi_value.specs.declared.value.Value.{Value}
use Rattle.chi_core.specs.Answer.{Does, amiss}
use Rattle.chi_core.specs.Evaluation.{Evaluates}
use Rattle.chi_core.specs.Variables.{Variables}
use Rattle.chi_core.specs.Terms.{Term, Did, On, Returns, act}

-- the first item is done
abbrev pub act_first : Evaluates → Variables → Term → Does Did
act_first value_of variables [] = amiss
act_first value_of variables (item ∷ rest) = act value_of variables item rest

-- after it: a function returns, or there are these variables, and this is left to do
abbrev pub came_to : Option Value → Variables → Term → Did
came_to None variables term = On variables term
came_to (Some v) variables term = Returns v
