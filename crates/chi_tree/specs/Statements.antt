-- What the grammar has built of statements and definitions, shown as the tree of the language.
use Rattle.std.specs.Prelude.{Bool, true, false, List, [], ◌∷◌, Option, Some, None, if◌then◌else◌}
use Rattle.std.specs.List.{list_all}
use Rattle.chi_grammar.specs.Rules.{leaf, node, pair, none, spelling}
use Rattle.chi_token.specs.declared.place.Place.{Place}
use Rattle.chi_token.specs.declared.place.Spanned.{Spanned}
use Rattle.chi_token.specs.declared.token.Token.{Token}
use Rattle.chi_tree.specs.declared.type_tree.Name.{Name}
use Rattle.chi_tree.specs.declared.type_tree.TypeTree.{TypeTree}
use Rattle.chi_tree.specs.declared.type_tree.TypeTree.TheVariants as type
use Rattle.chi_tree.specs.declared.type_tree.Formal.{Formal}
use Rattle.chi_tree.specs.declared.expr.Expr.{Expr, Expr-F, out-Expr}
use Rattle.chi_tree.specs.declared.expr.Postfix.{Postfix, Postfix-F, out-Postfix}
use Rattle.chi_tree.specs.declared.statement.Variable.{Variable}
use Rattle.chi_tree.specs.declared.statement.Initial.{Initial}
use Rattle.chi_tree.specs.declared.statement.Target.{Target}
use Rattle.chi_tree.specs.declared.statement.Walk.{Walk}
use Rattle.chi_tree.specs.declared.statement.Branch.{Branch, roll-Branch}
use Rattle.chi_tree.specs.declared.statement.Step.{Step}
use Rattle.chi_tree.specs.declared.statement.Communication.{Communication}
use Rattle.chi_tree.specs.declared.statement.Communication.TheVariants as communication
use Rattle.chi_tree.specs.declared.statement.Alternative.{Alternative}
use Rattle.chi_tree.specs.declared.statement.Alternative.TheVariants as alternative
use Rattle.chi_tree.specs.declared.statement.Element.{Element, Element-F, out-Element}
use Rattle.chi_tree.specs.declared.statement.Element.TheVariants as element
use Rattle.chi_tree.specs.declared.statement.Statement.{Statement}
use Rattle.chi_tree.specs.declared.statement.Statement.TheVariants as statement
use Rattle.chi_tree.specs.declared.definition.Definition.{Definition}
use Rattle.chi_tree.specs.declared.definition.Definition.TheVariants as definition
use Rattle.chi_tree.specs.declared.definition.Item.{Item}
use Rattle.chi_tree.specs.declared.definition.Program.{Program}
use Rattle.chi_tree.specs.Tokens.{bytes_of, jump_of, ends_line, is_run}
use Rattle.chi_tree.specs.Parts.{Part}
use Rattle.chi_tree.specs.Parts as s
use Rattle.chi_tree.specs.View.{Built, nowhere, given_or, place_in, name_in, names_in, no_expr, optional, type_of, formals_of, expr_of, exprs_of, more_exprs_of, arguments_of, postfixes_of}

-- targets, walks and variables

abbrev pub target_of : Built → Target
target_of (node s.Target (pair n steps)) = record { name = name_in n; steps = postfixes_of steps }
target_of _ = record { name = name_in none; steps = [] }

abbrev pub more_targets_of : Built → List Target
more_targets_of (pair (pair c t) ts) = target_of t ∷ more_targets_of ts
more_targets_of _ = []

abbrev pub walk_of : Built → Walk
walk_of (node s.Walk (pair ns (pair w e))) = record { names = names_in ns; container = expr_of e }
walk_of _ = record { names = []; container = no_expr }

abbrev pub initial_of : Built → Option Initial
initial_of (node s.Initial (pair eq e)) = Some (record { equals = place_in eq; value = expr_of e })
initial_of _ = None

abbrev pub variable_of : Built → Variable
variable_of (node s.Variable (pair n initial)) = record { name = name_in n; initial = initial_of initial }
variable_of _ = record { name = name_in none; initial = None }

abbrev pub more_variables_of : Built → List Variable
more_variables_of (pair (pair c v) vs) = variable_of v ∷ more_variables_of vs
more_variables_of _ = []

abbrev pub variables_of : Built → List Variable
variables_of (node s.Variables (pair v vs)) = variable_of v ∷ more_variables_of vs
variables_of _ = []

-- communications

abbrev pub communicated : Target → Built → Communication
communicated target (node s.CommunicationEnd t) = communicated target t
communicated target (node s.Sending (pair w e)) = communication.Send target (place_in w) (optional e (expr_of e))
communicated target (node s.Receiving (pair w n)) = communication.Receive target (place_in w) (optional n (name_in n))
communicated target _ = communication.Receive target nowhere None

abbrev pub communication_of : Built → Communication
communication_of (node s.Communication t) = communication_of t
communication_of (node s.Delay (pair w e)) = communication.Delay (place_in w) (expr_of e)
communication_of (pair t end) = communicated (target_of t) end
communication_of _ = communication.Delay nowhere no_expr

-- which expressions are targets: a name, or parts of one by indexes and fields

abbrev pub is_step_in : {A B C D : Type 0} → Postfix-F Expr Postfix A B C D → Bool
is_step_in (Postfix-F.Index place e) = true
is_step_in (Postfix-F.Slice place from upto has_by by) = false
is_step_in (Postfix-F.Field name) = true

abbrev pub name_target : {A B C D : Type 0} → Expr-F Expr Postfix A B C D → List Postfix → Option Target
name_target (Expr-F.Named name) steps = Some (record { name = name; steps = steps })
name_target _ steps = None

abbrev pub target_in : {A B C D : Type 0} → Expr-F Expr Postfix A B C D → Option Target
target_in (Expr-F.Part e steps) =
    if list_all (λ p. is_step_in (out-Postfix p)) steps then name_target (out-Expr e) steps else None
target_in e = name_target e []

-- the target that an expression is, if it is one
abbrev pub as_target : Expr → Option Target
as_target e = target_in (out-Expr e)

abbrev pub target_or_none : Option Target → Target
target_or_none (Some target) = target
target_or_none None = record { name = name_in none; steps = [] }

abbrev pub is_some : {T : Type 0} → Option T → Bool
is_some (Some x) = true
is_some None = false

-- a guard where there is one, and the communication, of which the expression is given that comes first
abbrev pub offered : Expr → Built → Option Expr × Communication
offered e (node s.Offered t) = offered e t
offered e (node s.Guarded (pair c m)) = (Some e, communication_of m)
offered e t = (None, communicated (target_or_none (as_target e)) t)

abbrev pub offer_of : Built → Option Expr × Communication
offer_of (node s.Offer (pair e t)) = offered (expr_of e) t
offer_of (node s.Offer t) = (None, communication_of t)
offer_of _ = (None, communication.Delay nowhere no_expr)

-- what is run or started

abbrev pub made : Target → Built → Element
made target (node s.Made t) = made target t
made target (node s.AssignedMake (pair eq (pair n args))) = element.Make (Some target) (name_in n) (arguments_of args)
made target t = element.Make None target.name (arguments_of t)

abbrev mutual
  pub elements_of : Built → List Element
  elements_of (node s.Elements (pair e es)) = element_of e ∷ more_elements_of es
  elements_of _ = []

  pub more_elements_of : Built → List Element
  more_elements_of (pair (pair c e) es) = element_of e ∷ more_elements_of es
  more_elements_of _ = []

  pub element_of : Built → Element
  element_of (node s.Element t) = element_of t
  element_of (node s.UnwoundElements (pair w (pair walk (pair c (pair es end))))) = element.Unwind (place_in w) (walk_of walk) (elements_of es)
  element_of (node s.Make (pair t m)) = made (target_of t) m
  element_of _ = element.Make None (name_in none) []

-- whether the last token of an element is "end"
abbrev pub ends_element : Element-F Element → Bool
ends_element (Element-F.Make target name arguments) = false
ends_element (Element-F.Unwind place walk elements) = true

abbrev pub last_ends : List Element → Bool
last_ends [] = false
last_ends (e ∷ []) = ends_element (out-Element e)
last_ends (e ∷ f ∷ es) = last_ends (f ∷ es)

-- statements

abbrev pub jump_shown : Token → Place → Statement
jump_shown token place = given_or (statement.Pass nowhere) (jump_of token place)

abbrev pub ends_line_shown : Token → Bool
ends_line_shown token = given_or false (ends_line token)

abbrev pub is_run_shown : Token → Bool
is_run_shown token = given_or false (is_run token)

-- a statement that begins with a target
abbrev pub led : Target → Built → Statement
led target (node s.AfterName t) = led target t
led target (node s.AfterTarget t) = led target t
led target (node s.Variables t) = statement.Declare (type.Defined target.name) (variables_of (node s.Variables t))
led target (node s.CommunicationEnd t) = statement.Communicate (communicated target t)
led target (node s.Assignment (pair ts (pair eq es))) = statement.Assign (target ∷ more_targets_of ts) (place_in eq) (exprs_of es)
led target _ = statement.Pass nowhere

abbrev pub launched : Built → List Element → Statement
launched (leaf x) elements = if is_run_shown x.token then statement.Run x.place elements else statement.Start x.place elements
launched _ elements = statement.Pass nowhere

abbrev pub written : Built → Built → Statement
written (leaf x) (node s.Written (pair l (pair (leaf y) (pair es r)))) =
    statement.Write x.place (ends_line_shown x.token) (bytes_of y.token) y.place (more_exprs_of es)
written _ _ = statement.Pass nowhere

abbrev pub step : Statement → Bool → Step
step statement semicolon = record { statement = statement; semicolon = semicolon }

abbrev mutual
  pub statement_of : Built → Statement
  statement_of (node s.Closed t) = statement_of t
  statement_of (node s.Open t) = statement_of t
  statement_of (node s.Select (pair w (pair xs end))) = statement.Select (place_in w) (alternatives_of xs)
  statement_of (node s.If (pair w (pair b (pair bs (pair other end))))) = statement.If (place_in w) (branch_of b ∷ elifs_of bs) (else_of other)
  statement_of (node s.While (pair w (pair e b))) = statement.While (place_in w) (expr_of e) (body_of b)
  statement_of (node s.For (pair w (pair walk b))) = statement.For (place_in w) (walk_of walk) (body_of b)
  statement_of (node s.Launch (pair w es)) = launched w (elements_of es)
  statement_of (node s.Declaration (pair t vs)) = statement.Declare (type_of t) (variables_of vs)
  statement_of (node s.NameLed (pair t rest)) = led (target_of t) rest
  statement_of (node s.Timed t) = statement.Communicate (communication_of t)
  statement_of (node s.Jump (leaf x)) = jump_shown x.token x.place
  statement_of (node s.Return (pair w e)) = statement.Return (place_in w) (expr_of e)
  statement_of (node s.Exit (pair w e)) = statement.Exit (place_in w) (optional e (expr_of e))
  statement_of (node s.Finish (pair w es)) = statement.Finish (place_in w) (exprs_of es)
  statement_of (node s.Write (pair w t)) = written w t
  statement_of _ = statement.Pass nowhere

  pub block_of : Built → List Step
  block_of (node s.Block (pair t rest)) = followed (statement_of t) rest
  block_of _ = []

  -- a statement and what stands after it
  pub followed : Statement → Built → List Step
  followed statement (node s.AfterEnd (pair c more)) = step statement true ∷ block_of more
  followed statement (node s.AfterEnd t) = step statement false ∷ block_of t
  followed statement (node s.AfterOpen (pair c more)) = step statement true ∷ block_of more
  followed statement _ = step statement false ∷ []

  pub inner_of : Built → List Step
  inner_of (node s.Inner t) = block_of t
  inner_of _ = []

  pub body_of : Built → List Step
  body_of (node s.Body (pair c (pair t end))) = inner_of t
  body_of _ = []

  pub branch_of : Built → Branch
  branch_of (node s.Branch (pair e (pair c t))) = roll-Branch (record { condition = expr_of e; block = inner_of t })
  branch_of _ = roll-Branch (record { condition = no_expr; block = [] })

  pub elifs_of : Built → List Branch
  elifs_of (pair t ts) = elif_of t ∷ elifs_of ts
  elifs_of _ = []

  pub elif_of : Built → Branch
  elif_of (node s.Elif (pair w t)) = branch_of t
  elif_of _ = roll-Branch (record { condition = no_expr; block = [] })

  pub else_of : Built → List Step
  else_of (node s.Else (pair w (pair c t))) = inner_of t
  else_of _ = []

  pub alternatives_of : Built → List Alternative
  alternatives_of (node s.Alternatives (pair a xs)) = alternative_of a ∷ more_alternatives_of xs
  alternatives_of _ = []

  pub more_alternatives_of : Built → List Alternative
  more_alternatives_of (pair (pair w a) xs) = alternative_of a ∷ more_alternatives_of xs
  more_alternatives_of _ = []

  pub alternative_of : Built → Alternative
  alternative_of (node s.Alternative t) = alternative_of t
  alternative_of (node s.UnwoundAlternatives (pair w (pair walk (pair c (pair xs end))))) = alternative.Unwind (place_in w) (walk_of walk) (alternatives_of xs)
  alternative_of (node s.GuardedAlternative (pair o b)) =
      let offer : Option Expr × Communication = offer_of o in alternative.Guarded offer.0 offer.1 (alternative_body_of b)
  alternative_of _ = alternative.Guarded None (communication.Delay nowhere no_expr) []

  pub alternative_body_of : Built → List Step
  alternative_body_of (node s.AlternativeBody (pair c t)) = inner_of t
  alternative_body_of _ = []

-- definitions

-- the type, where there is one, and the name
abbrev pub head_of : Built → Option TypeTree × Name
head_of (node s.Head (pair (leaf x) none)) = (None, name_in (leaf x))
head_of (node s.Head (pair (leaf x) n)) = (Some (type.Defined (name_in (leaf x))), name_in n)
head_of (node s.Head (pair t n)) = (Some (type_of t), name_in n)
head_of _ = (None, name_in none)

abbrev pub parameters_of : Built → List Formal
parameters_of (node s.Parameters (pair l (pair fs r))) = formals_of fs
parameters_of _ = []

abbrev pub definition_of : Built → Definition
definition_of (node s.Defined t) = definition_of t
definition_of (node s.EnumDef (pair w (pair n (pair eq (pair l (pair ns r)))))) = definition.Enum (place_in w) (name_in n) (names_in ns)
definition_of (node s.ConstDef (pair w (pair t (pair n (pair eq e))))) = definition.Const (place_in w) (type_of t) (name_in n) (place_in eq) (expr_of e)
definition_of (node s.TypeDef (pair w (pair n (pair eq t)))) = definition.TypeWord (place_in w) (name_in n) (type_of t)
definition_of (node s.FuncDef (pair w (pair t (pair n (pair ps b))))) = definition.Func (place_in w) (type_of t) (name_in n) (parameters_of ps) (body_of b)
definition_of (node s.ProcDef (pair w (pair h (pair ps b)))) =
    let head : Option TypeTree × Name = head_of h in definition.Proc (place_in w) head.0 head.1 (parameters_of ps) (body_of b)
definition_of (node s.ModelDef (pair w (pair h (pair ps b)))) =
    let head : Option TypeTree × Name = head_of h in definition.Model (place_in w) head.0 head.1 (parameters_of ps) (body_of b)
definition_of (node s.XperDef (pair w (pair n (pair ps b)))) = definition.Xper (place_in w) (name_in n) (body_of b)
definition_of _ = definition.Xper nowhere (name_in none) []

abbrev pub item_of : Built → Item
item_of (node s.Definition (pair t semicolon)) = record { definition = definition_of t; semicolon = is_some (optional semicolon semicolon) }
item_of _ = record { definition = definition_of none; semicolon = false }

abbrev pub items_of : Built → List Item
items_of (pair t ts) = item_of t ∷ items_of ts
items_of _ = []

-- the place of the last of these tokens
abbrev pub last_place : List Spanned → Place
last_place [] = nowhere
last_place (x ∷ []) = x.place
last_place (x ∷ y ∷ ys) = last_place (y ∷ ys)

abbrev pub program_of : Built → Program
program_of (node s.Program (pair t ts)) =
    record { items = item_of t ∷ items_of ts; last = last_place (spelling (node s.Program (pair t ts))) }
program_of _ = record { items = []; last = nowhere }

-- where the grammar asks what a tree is

-- a target without steps
abbrev pub is_bare : List Postfix → Bool
is_bare [] = true
is_bare (p ∷ ps) = false

abbrev pub is_name : Built → Bool
is_name t = let target : Target = target_of t in is_bare target.steps

abbrev pub is_target : Built → Bool
is_target t = is_some (as_target (expr_of t))

-- a statement whose last token is "end"
abbrev pub ends_in_end : Built → Bool
ends_in_end (node s.Closed t) = true
ends_in_end (node s.Launch (pair w es)) = last_ends (elements_of es)
ends_in_end _ = false
