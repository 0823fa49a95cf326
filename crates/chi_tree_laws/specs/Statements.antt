-- Which statements are formed: the grammar of the language, line by line, over the trees. The first number is how many
-- levels of blocks there are for them, the second how many levels of nesting for their expressions and types: an inner
-- block, and what an unwind repeats, is one level of blocks deeper. The truth value says whether the last token is "end".
use Rattle.std.specs.Prelude.{ℕ, suc, Bool, true, false, List, [], ◌∷◌, Option, Some, None}
use Rattle.chi_token.specs.declared.place.Place.{Place}
use Rattle.chi_tree.specs.declared.type_tree.Name.{Name}
use Rattle.chi_tree.specs.declared.type_tree.TypeTree.{TypeTree}
use Rattle.chi_tree.specs.declared.expr.Expr.{Expr}
use Rattle.chi_tree.specs.declared.expr.Postfix.{Postfix}
use Rattle.chi_tree.specs.declared.expr.Postfix.TheVariants.{Index, Field}
use Rattle.chi_tree.specs.declared.statement.Target.{Target}
use Rattle.chi_tree.specs.declared.statement.Variable.{Variable}
use Rattle.chi_tree.specs.declared.statement.Initial.{Initial}
use Rattle.chi_tree.specs.declared.statement.Walk.{Walk}
use Rattle.chi_tree.specs.declared.statement.Communication.{Communication}
use Rattle.chi_tree.specs.declared.statement.Communication.TheVariants.{Send, Receive, Delay}
use Rattle.chi_tree.specs.declared.statement.Element.{Element}
use Rattle.chi_tree.specs.declared.statement.Element.TheVariants as element
use Rattle.chi_tree.specs.declared.statement.Branch.{Branch, roll-Branch}
use Rattle.chi_tree.specs.declared.statement.Alternative.{Alternative}
use Rattle.chi_tree.specs.declared.statement.Alternative.TheVariants.{Guarded, Unwind}
use Rattle.chi_tree.specs.declared.statement.Step.{Step}
use Rattle.chi_tree.specs.declared.statement.Statement.{Statement}
use Rattle.chi_tree.specs.declared.statement.Statement.TheVariants as statement
use Rattle.chi_tree.specs.Statements.{step}
use Rattle.chi_tree_laws.specs.Levels as level
use Rattle.chi_tree_laws.specs.Expressions.{FormedType, FormedExpr, FormedExprs, FormedIfAny}

-- target = name { "[" expr "]" | "." name }
pub data FormedSteps : ℕ → List Postfix → Type 0 where
  no_steps : {d : ℕ} → FormedSteps d []
  index_step : {d : ℕ} {place : Place} {e : Expr} {steps : List Postfix}
      → FormedExpr level.Expr d e → FormedSteps (suc d) steps → FormedSteps (suc d) (Index place e ∷ steps)
  field_step : {d : ℕ} {name : Name} {steps : List Postfix} → FormedSteps d steps → FormedSteps d (Field name ∷ steps)

abbrev pub FormedTarget : ℕ → Target → Type 0
FormedTarget d target = FormedSteps d target.steps

-- target { "," target }
pub data FormedTargets : ℕ → List Target → Type 0 where
  one_target : {d : ℕ} {target : Target} → FormedTarget d target → FormedTargets d (target ∷ [])
  targets : {d : ℕ} {target : Target} {more : List Target}
      → FormedTarget d target → FormedTargets d more → FormedTargets d (target ∷ more)

abbrev pub variable : Name → Option Initial → Variable
variable name initial = record { name = name; initial = initial }

-- name [ "=" expr ]
pub data FormedVariable : ℕ → Variable → Type 0 where
  bare : {d : ℕ} {name : Name} → FormedVariable d (variable name None)
  with_value : {d : ℕ} {name : Name} {place : Place} {e : Expr}
      → FormedExpr level.Expr d e → FormedVariable d (variable name (Some (record { equals = place; value = e })))

-- name [ "=" expr ] { "," name [ "=" expr ] }
pub data FormedVariables : ℕ → List Variable → Type 0 where
  one_variable : {d : ℕ} {v : Variable} → FormedVariable d v → FormedVariables d (v ∷ [])
  variables : {d : ℕ} {v : Variable} {more : List Variable}
      → FormedVariable d v → FormedVariables d more → FormedVariables d (v ∷ more)

-- walk = name { "," name } "in" expr
pub data FormedWalk : ℕ → Walk → Type 0 where
  walk : {d : ℕ} {name : Name} {names : List Name} {e : Expr}
      → FormedExpr level.Expr d e → FormedWalk d (record { names = name ∷ names; container = e })

-- comm = target "!" [ expr ] | target "?" [ name ] | "delay" expr
pub data FormedCommunication : ℕ → Communication → Type 0 where
  send : {d : ℕ} {target : Target} {place : Place} {e : Option Expr}
      → FormedTarget d target → FormedIfAny d e → FormedCommunication d (Send target place e)
  receive : {d : ℕ} {target : Target} {place : Place} {name : Option Name}
      → FormedTarget d target → FormedCommunication d (Receive target place name)
  delay : {d : ℕ} {place : Place} {e : Expr} → FormedExpr level.Expr d e → FormedCommunication d (Delay place e)

mutual
  -- element = [ target "=" ] name "(" [ exprs ] ")" | "unwind" walk ":" elements "end"
  pub data FormedElement : Bool → ℕ → ℕ → Element → Type 0 where
    make : {b d : ℕ} {name : Name} {es : List Expr}
        → FormedExprs d es → FormedElement false b (suc d) (element.Make None name es)
    assigned_make : {b d : ℕ} {target : Target} {name : Name} {es : List Expr}
        → FormedTarget (suc d) target → FormedExprs d es → FormedElement false b (suc d) (element.Make (Some target) name es)
    unwind_elements : {b d : ℕ} {ends : Bool} {place : Place} {walk : Walk} {es : List Element}
        → FormedWalk d walk → FormedElements ends b d es → FormedElement true (suc b) d (element.Unwind place walk es)

  -- elements = element { "," element }
  pub data FormedElements : Bool → ℕ → ℕ → List Element → Type 0 where
    one_element : {ends : Bool} {b d : ℕ} {e : Element} → FormedElement ends b d e → FormedElements ends b d (e ∷ [])
    elements : {middle ends : Bool} {b d : ℕ} {e : Element} {more : List Element}
        → FormedElement middle b d e → FormedElements ends b d more → FormedElements ends b d (e ∷ more)

abbrev pub branch : Expr → List Step → Branch
branch condition block = roll-Branch (record { condition = condition; block = block })

mutual
  -- block = statement { [ ";" ] statement } [ ";" ], where the ";" between two statements may be left out only where the
  -- first one's last token is "end"
  pub data FormedBlock : ℕ → ℕ → List Step → Type 0 where
    last : {ends semicolon : Bool} {b d : ℕ} {s : Statement} → FormedStatement ends b d s → FormedBlock b d (step s semicolon ∷ [])
    next : {ends : Bool} {b d : ℕ} {s : Statement} {more : List Step}
        → FormedStatement ends b d s → FormedBlock b d more → FormedBlock b d (step s true ∷ more)
    after_end : {b d : ℕ} {s : Statement} {more : List Step}
        → FormedStatement true b d s → FormedBlock b d more → FormedBlock b d (step s false ∷ more)

  pub data FormedInner : ℕ → ℕ → List Step → Type 0 where
    inner : {b d : ℕ} {block : List Step} → FormedBlock b d block → FormedInner (suc b) d block

  pub data FormedStatement : Bool → ℕ → ℕ → Statement → Type 0 where
    -- type name [ "=" expr ] { "," name [ "=" expr ] }
    declare : {b d : ℕ} {t : TypeTree} {vs : List Variable}
        → FormedType d t → FormedVariables d vs → FormedStatement false b d (statement.Declare t vs)
    -- target { "," target } "=" exprs
    assign : {b d : ℕ} {ts : List Target} {place : Place} {e : Expr} {es : List Expr}
        → FormedTargets d ts → FormedExprs d (e ∷ es) → FormedStatement false b d (statement.Assign ts place (e ∷ es))
    communicate : {b d : ℕ} {c : Communication} → FormedCommunication d c → FormedStatement false b d (statement.Communicate c)
    -- "pass" | "break" | "continue"
    pass : {b d : ℕ} {place : Place} → FormedStatement false b d (statement.Pass place)
    leave : {b d : ℕ} {place : Place} → FormedStatement false b d (statement.Break place)
    continue : {b d : ℕ} {place : Place} → FormedStatement false b d (statement.Continue place)
    -- "select" alts "end"
    select : {b d : ℕ} {place : Place} {xs : List Alternative}
        → FormedAlternatives b d xs → FormedStatement true b d (statement.Select place xs)
    -- "if" expr ":" block { "elif" expr ":" block } [ "else" ":" block ] "end"
    if_branches : {b d : ℕ} {place : Place} {bs : List Branch}
        → FormedBranches b d bs → FormedStatement true b d (statement.If place bs [])
    if_else : {b d : ℕ} {place : Place} {bs : List Branch} {block : List Step}
        → FormedBranches b d bs → FormedInner b d block → FormedStatement true b d (statement.If place bs block)
    -- "while" expr ":" block "end" | "for" walk ":" block "end"
    while : {b d : ℕ} {place : Place} {e : Expr} {block : List Step}
        → FormedExpr level.Expr d e → FormedInner b d block → FormedStatement true b d (statement.While place e block)
    for_each : {b d : ℕ} {place : Place} {walk : Walk} {block : List Step}
        → FormedWalk d walk → FormedInner b d block → FormedStatement true b d (statement.For place walk block)
    -- "return" expr | "exit" [ expr ]
    return : {b d : ℕ} {place : Place} {e : Expr} → FormedExpr level.Expr d e → FormedStatement false b d (statement.Return place e)
    exit : {b d : ℕ} {place : Place} {e : Option Expr} → FormedIfAny d e → FormedStatement false b d (statement.Exit place e)
    -- ( "run" | "start" ) elements
    run : {ends : Bool} {b d : ℕ} {place : Place} {es : List Element}
        → FormedElements ends b d es → FormedStatement ends b d (statement.Run place es)
    start : {ends : Bool} {b d : ℕ} {place : Place} {es : List Element}
        → FormedElements ends b d es → FormedStatement ends b d (statement.Start place es)
    -- "finish" exprs
    finish : {b d : ℕ} {place : Place} {e : Expr} {es : List Expr}
        → FormedExprs d (e ∷ es) → FormedStatement false b d (statement.Finish place (e ∷ es))
    -- ( "write" | "writeln" ) "(" text { "," expr } ")"
    write : {b d : ℕ} {place : Place} {line : Bool} {text : List ℕ} {at : Place} {es : List Expr}
        → FormedExprs d es → FormedStatement false b (suc d) (statement.Write place line text at es)

  pub data FormedBranches : ℕ → ℕ → List Branch → Type 0 where
    one_branch : {b d : ℕ} {e : Expr} {block : List Step}
        → FormedExpr level.Expr d e → FormedInner b d block → FormedBranches b d (branch e block ∷ [])
    branches : {b d : ℕ} {e : Expr} {block : List Step} {more : List Branch}
        → FormedExpr level.Expr d e → FormedInner b d block → FormedBranches b d more → FormedBranches b d (branch e block ∷ more)

  -- alts = alt { "alt" alt }
  pub data FormedAlternatives : ℕ → ℕ → List Alternative → Type 0 where
    one_alternative : {b d : ℕ} {x : Alternative} → FormedAlternative b d x → FormedAlternatives b d (x ∷ [])
    alternatives : {b d : ℕ} {x : Alternative} {more : List Alternative}
        → FormedAlternative b d x → FormedAlternatives b d more → FormedAlternatives b d (x ∷ more)

  -- alt = [ expr "," ] comm [ ":" block ] | "unwind" walk ":" alts "end"
  pub data FormedAlternative : ℕ → ℕ → Alternative → Type 0 where
    offer : {b d : ℕ} {guard : Option Expr} {c : Communication}
        → FormedIfAny d guard → FormedCommunication d c → FormedAlternative b d (Guarded guard c [])
    offer_block : {b d : ℕ} {guard : Option Expr} {c : Communication} {block : List Step}
        → FormedIfAny d guard → FormedCommunication d c → FormedInner b d block → FormedAlternative b d (Guarded guard c block)
    unwind : {b d : ℕ} {place : Place} {walk : Walk} {xs : List Alternative}
        → FormedWalk d walk → FormedAlternatives b d xs → FormedAlternative (suc b) d (Unwind place walk xs)
