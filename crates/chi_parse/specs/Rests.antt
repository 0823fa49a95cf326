-- What is shown of the rest of a production. Private to proofs.
use Rattle.std.specs.Prelude.{List, [], Option}
use Rattle.chi_grammar.specs.Rules.{pair, none}
use Rattle.chi_tree.specs.declared.expr.Expr.{Expr}
use Rattle.chi_tree.specs.declared.statement.Alternative.{Alternative}
use Rattle.chi_tree.specs.declared.statement.Communication.{Communication}
use Rattle.chi_tree.specs.declared.statement.Communication.TheVariants as communication
use Rattle.chi_tree.specs.declared.statement.Element.{Element}
use Rattle.chi_tree.specs.declared.statement.Initial.{Initial}
use Rattle.chi_tree.specs.declared.statement.Step.{Step}
use Rattle.chi_tree.specs.declared.type_tree.Formal.{Formal}
use Rattle.chi_tree.specs.declared.type_tree.Name.{Name}
use Rattle.chi_tree.specs.declared.type_tree.TypeTree.{TypeTree}
use Rattle.chi_tree.specs.Statements.{alternatives_of, body_of, communication_of, elements_of, head_of, offer_of, offered, parameters_of}
use Rattle.chi_parse.specs.declared.offers.GuardedCommunication.{GuardedCommunication}
use Rattle.chi_tree.specs.View.{Built, expr_of, names_in, no_expr, nowhere, place_in}

-- what an unwind repeats, between `:` and `end`

abbrev pub repeated_elements_of : Built → List Element
repeated_elements_of (pair c (pair es end)) = elements_of es
repeated_elements_of _ = []

abbrev pub repeated_alternatives_of : Built → List Alternative
repeated_alternatives_of (pair c (pair xs end)) = alternatives_of xs
repeated_alternatives_of _ = []

-- the formals of a definition, and its block
abbrev pub callable_of : Built → List Formal × List Step
callable_of (pair ps b) = (parameters_of ps, body_of b)
callable_of _ = ([], [])

-- the head of a process or a model, its formals and its block
abbrev pub headed_of : Built → (Option TypeTree × Name) × (List Formal × List Step)
headed_of (pair h c) = (head_of h, callable_of c)
headed_of _ = (head_of none, ([], []))

-- `=` and what stands after it
abbrev pub assigned_of : Built → Initial
assigned_of (pair eq e) = record { equals = place_in eq; value = expr_of e }
assigned_of _ = record { equals = nowhere; value = no_expr }

-- the values of an enumeration, after `=` and in brackets
abbrev pub values_of : Built → List Name
values_of (pair eq (pair l (pair ns r))) = names_in ns
values_of _ = []

-- the communication that a guard stands before, after the comma
abbrev pub guarded_of : Built → Communication
guarded_of (pair c m) = communication_of m
guarded_of _ = communication.Delay nowhere no_expr

-- an offer

abbrev pub offered_shown : Expr → Built → GuardedCommunication
offered_shown e t = record { guard = (offered e t).0; communication = (offered e t).1 }

abbrev pub offer_shown : Built → GuardedCommunication
offer_shown t = record { guard = (offer_of t).0; communication = (offer_of t).1 }
