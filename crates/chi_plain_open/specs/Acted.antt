-- Private to proofs: an instance that does its first item.
use Rattle.chi_core.specs.Answer.{Does, then_do, gives, amiss}
use Rattle.chi_core.specs.Config.{Instance}
use Rattle.chi_core.specs.Evaluation.{Evaluates}
use Rattle.chi_core.specs.Terms.{Did, On, Returns}
use Rattle.chi_core.specs.Variables.{Variables}
use Rattle.chi_plain_eval.specs.Terms.{act_first}

-- an instance that does its first item, which is one that functions have too
abbrev pub went_on : Instance → Did → Does Instance
went_on i (On variables term) = gives (record i { variables = variables; term = term })
went_on i (Returns v) = amiss

abbrev pub acted : (Variables → Evaluates) → Instance → Does Instance
acted value_in i view = then_do (act_first (value_in i.variables) i.variables i.term view) (went_on i)
