-- For each part that a statement, a definition or a program is built of: what it is shown as is formed. Of the parts of
-- expressions and types that is known already.
use Rattle.std.proofs.Common.{◌≡◌, suc, Bool, true, false, List, [], ◌∷◌, Option}
use Rattle.chi_grammar.specs.declared.room.Room.{Room}
use Rattle.chi_grammar.specs.Rules.{leaf}
use Rattle.chi_token.specs.declared.place.Spanned.{Spanned}
use Rattle.chi_tree.specs.declared.type_tree.Name.{Name}
use Rattle.chi_tree.specs.declared.type_tree.TypeTree.{TypeTree}
use Rattle.chi_tree.specs.declared.expr.Expr.{Expr}
use Rattle.chi_tree.specs.declared.expr.Postfix.{Postfix}
use Rattle.chi_tree.specs.declared.statement.Target.{Target}
use Rattle.chi_tree.specs.declared.statement.Communication.{Communication}
use Rattle.chi_tree.specs.declared.statement.Element.{Element, out-Element}
use Rattle.chi_tree.specs.declared.statement.Branch.{Branch}
use Rattle.chi_tree.specs.declared.statement.Statement.{Statement}
use Rattle.chi_tree.specs.declared.definition.Item.{Item}
use Rattle.chi_tree.specs.Parts.{Part}
use Rattle.chi_tree.specs.Parts as s
use Rattle.chi_tree.specs.View.{Built, names_in, postfix_of}
use Rattle.chi_tree.specs.Statements.{target_of, walk_of, initial_of, variable_of, variables_of, communicated, communication_of, offered, offer_of, made, elements_of, element_of, ends_element, last_ends, ends_in_end, led, written, statement_of, block_of, followed, inner_of, body_of, branch_of, elif_of, else_of, alternatives_of, alternative_of, alternative_body_of, head_of, parameters_of, definition_of, item_of, program_of}
use Rattle.chi_tree_laws.specs.Levels as level
use Rattle.chi_tree_laws.specs.Expressions.{FormedExpr, FormedIfAny}
use Rattle.chi_tree_laws.specs.Statements.{FormedSteps, FormedTarget, FormedVariable, FormedVariables, FormedWalk, FormedCommunication, FormedElement, FormedElements, FormedBlock, FormedInner, FormedStatement, FormedBranches, FormedAlternative, FormedAlternatives, variable}
use Rattle.chi_tree_laws.specs.Definitions.{FormedParameters, FormedExitType, FormedDefinition, FormedItems, FormedProgram}
use Rattle.chi_tree_laws.proofs.ShownExpressions.{Formed}

-- names, one at least
pub record NamesShown (t : Built) : Type 0 where
  pub first : Name
  pub more : List Name
  pub are : names_in t ≡ first ∷ more

-- one more step of a target
abbrev pub StepFormed : Room → Postfix → Type 0
StepFormed room step = (steps : List Postfix) → FormedSteps room.expressions steps → FormedSteps room.expressions (step ∷ steps)

-- the same within its brackets
abbrev pub IndexFormed : Room → Postfix → Type 0
IndexFormed room step = (steps : List Postfix) → FormedSteps (suc room.expressions) steps → FormedSteps (suc room.expressions) (step ∷ steps)

-- what stands after a target
abbrev pub SentFormed : Room → Built → Type 0
SentFormed room t = (target : Target) → FormedTarget room.expressions target → FormedCommunication room.expressions (communicated target t)

abbrev pub LedFormed : Room → Built → Type 0
LedFormed room t = (target : Target) → FormedTarget room.expressions target → FormedStatement false room.blocks room.expressions (led target t)

abbrev pub ElementFormed : Room → Element → Type 0
ElementFormed room e = FormedElement (ends_element (out-Element e)) room.blocks room.expressions e

abbrev pub MadeFormed : Room → Built → Type 0
MadeFormed room t = (target : Target) → FormedTarget room.expressions target → ElementFormed room (made target t)

-- a guard where there is one, and a communication
pub record OfferFormed (room : Room) (offer : Option Expr × Communication) : Type 0 where
  pub guard : FormedIfAny room.expressions offer.0
  pub communication : FormedCommunication room.expressions offer.1

-- what stands after the expression with which an alternative begins
abbrev pub OfferedFormed : Room → Built → Type 0
OfferedFormed room t = (e : Expr) → FormedExpr level.Expr room.expressions e → OfferFormed room (offered e t)

-- the last branch, and one before others
pub record BranchFormed (room : Room) (branch : Branch) : Type 0 where
  pub last : FormedBranches room.blocks room.expressions (branch ∷ [])
  pub next : (more : List Branch) → FormedBranches room.blocks room.expressions more → FormedBranches room.blocks room.expressions (branch ∷ more)

-- what stands after a statement
abbrev pub AfterFormed : Room → Built → Type 0
AfterFormed room t = (statement : Statement) → FormedStatement true room.blocks room.expressions statement
    → FormedBlock room.blocks room.expressions (followed statement t)

abbrev pub AfterAnyFormed : Room → Built → Type 0
AfterAnyFormed room t = (ends : Bool) (statement : Statement) → FormedStatement ends room.blocks room.expressions statement
    → FormedBlock room.blocks room.expressions (followed statement t)

abbrev pub HeadFormed : Room → Option TypeTree × Name → Type 0
HeadFormed room head = FormedExitType room.expressions head.0

-- the last item, and one before others
pub record ItemFormed (room : Room) (item : Item) : Type 0 where
  pub last : FormedItems room.blocks room.expressions (item ∷ [])
  pub next : (more : List Item) → FormedItems room.blocks room.expressions more → FormedItems room.blocks room.expressions (item ∷ more)

abbrev pub Stated : Room → Part → Built → Type 0
Stated room s.Names t = NamesShown t
Stated room s.TargetStep t = StepFormed room (postfix_of t)
Stated room s.TargetIndex t = IndexFormed room (postfix_of t)
Stated room s.Field t = StepFormed room (postfix_of t)
Stated room s.Target t = FormedTarget room.expressions (target_of t)
Stated room s.Initial t = (name : Name) → FormedVariable room.expressions (variable name (initial_of t))
Stated room s.Variable t = FormedVariable room.expressions (variable_of t)
Stated room s.Variables t = FormedVariables room.expressions (variables_of t)
Stated room s.Walk t = FormedWalk room.expressions (walk_of t)
Stated room s.Delay t = FormedCommunication room.expressions (communication_of t)
Stated room s.Communication t = FormedCommunication room.expressions (communication_of t)
Stated room s.CommunicationEnd t = SentFormed room t
Stated room s.Sending t = SentFormed room t
Stated room s.Receiving t = SentFormed room t
Stated room s.Elements t = FormedElements (last_ends (elements_of t)) room.blocks room.expressions (elements_of t)
Stated room s.Element t = ElementFormed room (element_of t)
Stated room s.UnwoundElements t = ElementFormed room (element_of t)
Stated room s.Make t = ElementFormed room (element_of t)
Stated room s.Made t = MadeFormed room t
Stated room s.AssignedMake t = MadeFormed room t
Stated room s.Closed t = FormedStatement true room.blocks room.expressions (statement_of t)
Stated room s.Select t = FormedStatement true room.blocks room.expressions (statement_of t)
Stated room s.If t = FormedStatement true room.blocks room.expressions (statement_of t)
Stated room s.While t = FormedStatement true room.blocks room.expressions (statement_of t)
Stated room s.For t = FormedStatement true room.blocks room.expressions (statement_of t)
Stated room s.Launch t = FormedStatement (ends_in_end t) room.blocks room.expressions (statement_of t)
Stated room s.Open t = FormedStatement false room.blocks room.expressions (statement_of t)
Stated room s.Declaration t = FormedStatement false room.blocks room.expressions (statement_of t)
Stated room s.NameLed t = FormedStatement false room.blocks room.expressions (statement_of t)
Stated room s.Timed t = FormedStatement false room.blocks room.expressions (statement_of t)
Stated room s.Jump t = FormedStatement false room.blocks room.expressions (statement_of t)
Stated room s.Return t = FormedStatement false room.blocks room.expressions (statement_of t)
Stated room s.Exit t = FormedStatement false room.blocks room.expressions (statement_of t)
Stated room s.Finish t = FormedStatement false room.blocks room.expressions (statement_of t)
Stated room s.Write t = FormedStatement false room.blocks room.expressions (statement_of t)
Stated room s.Written t = (x : Spanned) → FormedStatement false room.blocks (suc room.expressions) (written (leaf x) t)
Stated room s.AfterName t = LedFormed room t
Stated room s.AfterTarget t = LedFormed room t
Stated room s.Assignment t = LedFormed room t
Stated room s.Block t = FormedBlock room.blocks room.expressions (block_of t)
Stated room s.AfterEnd t = AfterFormed room t
Stated room s.AfterOpen t = AfterAnyFormed room t
Stated room s.Inner t = FormedInner room.blocks room.expressions (inner_of t)
Stated room s.Body t = FormedInner room.blocks room.expressions (body_of t)
Stated room s.Branch t = BranchFormed room (branch_of t)
Stated room s.Elif t = BranchFormed room (elif_of t)
Stated room s.Else t = FormedInner room.blocks room.expressions (else_of t)
Stated room s.Alternatives t = FormedAlternatives room.blocks room.expressions (alternatives_of t)
Stated room s.Alternative t = FormedAlternative room.blocks room.expressions (alternative_of t)
Stated room s.UnwoundAlternatives t = FormedAlternative room.blocks room.expressions (alternative_of t)
Stated room s.GuardedAlternative t = FormedAlternative room.blocks room.expressions (alternative_of t)
Stated room s.AlternativeBody t = FormedInner room.blocks room.expressions (alternative_body_of t)
Stated room s.Offer t = OfferFormed room (offer_of t)
Stated room s.Offered t = OfferedFormed room t
Stated room s.Guarded t = OfferedFormed room t
Stated room s.Parameters t = FormedParameters room.expressions (parameters_of t)
Stated room s.Head t = HeadFormed room (head_of t)
Stated room s.Defined t = FormedDefinition room.blocks room.expressions (definition_of t)
Stated room s.EnumDef t = FormedDefinition room.blocks room.expressions (definition_of t)
Stated room s.ConstDef t = FormedDefinition room.blocks room.expressions (definition_of t)
Stated room s.TypeDef t = FormedDefinition room.blocks room.expressions (definition_of t)
Stated room s.FuncDef t = FormedDefinition room.blocks room.expressions (definition_of t)
Stated room s.ProcDef t = FormedDefinition room.blocks room.expressions (definition_of t)
Stated room s.ModelDef t = FormedDefinition room.blocks room.expressions (definition_of t)
Stated room s.XperDef t = FormedDefinition room.blocks room.expressions (definition_of t)
Stated room s.Definition t = ItemFormed room (item_of t)
Stated room s.Program t = FormedProgram room.blocks room.expressions (program_of t)
Stated room s t = Formed room s t
