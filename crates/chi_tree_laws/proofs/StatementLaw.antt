-- The grammar's rules build exactly the formed blocks and programs.
use Rattle.std.proofs.Common.{◌≡◌, ◌↔◌, List, subst}
use Rattle.chi_grammar.specs.declared.room.Room.{Room}
use Rattle.chi_grammar.specs.Rules.{Rule, node, part}
use Rattle.chi_grammar.specs.Trees.{Is}
use Rattle.chi_grammar.specs.Trees as is
use Rattle.chi_token.specs.declared.place.Spanned.{Spanned}
use Rattle.chi_tree.specs.declared.definition.Item.{Item}
use Rattle.chi_tree.specs.declared.statement.Step.{Step}
use Rattle.chi_tree.specs.Parts.{Part}
use Rattle.chi_tree.specs.Parts as s
use Rattle.chi_tree.specs.Rules.{grammar, rule_of}
use Rattle.chi_tree.specs.View.{Built}
use Rattle.chi_tree.specs.Statements.{block_of, program_of}
use Rattle.chi_tree_laws.specs.Statements.{FormedBlock}
use Rattle.chi_tree_laws.specs.Definitions.{FormedItems, FormedProgram}
use Rattle.chi_tree_laws.proofs.BlocksBuilt.{build_block}
use Rattle.chi_tree_laws.proofs.DefinitionsBuilt.{build_program}
use Rattle.chi_tree.proofs.Made as made
use Rattle.chi_tree_laws.proofs.ShownExpressions.{Formed}
use Rattle.chi_tree_laws.proofs.TypeFormed.{F}
use Rattle.chi_tree_laws.proofs.ExprLaw as expression
use Rattle.chi_tree_laws.proofs.MadeWith.{made_with}
use Rattle.chi_tree_laws.proofs.ShownStatements.{Stated}
use Rattle.chi_tree_laws.proofs.StatementFormed.{G, names, target_step, target_index, field, target, initial, variable, variables, walk, delay, communication_formed, communication_end, sending, receiving, elements, element_formed, unwound_elements, make, made_formed, assigned_make, closed_formed, select_formed, if_formed, while_formed, for_formed, launch, open_formed, declaration, name_led, timed, jump_formed, return_formed, exit_formed, finish_formed, write_formed, written_formed, after_name, after_target, assignment, block, after_end, after_open, inner, body, branch, elif_formed, else_formed, alternatives, alternative_formed, unwound_alternatives, guarded_alternative, alternative_body, offer_formed, offered_formed, guarded}
use Rattle.chi_tree_laws.proofs.DefinitionFormed.{parameters, head, any_definition, enum_def, const_def, type_def, func_def, proc_def, model_def, xper_def, definition_formed, program}

-- a part of an expression or a type
known : {room : Room} {s : Part} {t : Built} → F room (part s) t → Formed room s t
known (made.part p) = p

step : (room : Room) (s : Part) (t : Built) → Is grammar room (rule_of s) t → G room (rule_of s) t → Stated room s (node s t)
step room s.Names t i p = names p
step room s.TargetStep t i p = target_step p
step room s.TargetIndex t i p = target_index p
step room s.Field t i p = field p
step room s.Target t i p = target p
step room s.Initial t i p = initial p
step room s.Variable t i p = variable p
step room s.Variables t i p = variables p
step room s.Walk t i p = walk p
step room s.Delay t i p = delay p
step room s.Communication t i p = communication_formed p
step room s.CommunicationEnd t i p = communication_end p
step room s.Sending t i p = sending p
step room s.Receiving t i p = receiving p
step room s.Elements t i p = elements p
step room s.Element t i p = element_formed p
step room s.UnwoundElements t i p = unwound_elements p
step room s.Make t i p = make p
step room s.Made t i p = made_formed p
step room s.AssignedMake t i p = assigned_make p
step room s.Closed t i p = closed_formed p
step room s.Select t i p = select_formed p
step room s.If t i p = if_formed p
step room s.While t i p = while_formed p
step room s.For t i p = for_formed p
step room s.Launch t i p = launch p
step room s.Open t i p = open_formed p
step room s.Declaration t i p = declaration p
step room s.NameLed t i p = name_led p
step room s.Timed t i p = timed p
step room s.Jump t i p = jump_formed p
step room s.Return t i p = return_formed p
step room s.Exit t i p = exit_formed p
step room s.Finish t i p = finish_formed p
step room s.Write t i p = write_formed p
step room s.Written t i p = written_formed p
step room s.AfterName t i p = after_name p
step room s.AfterTarget t i p = after_target p
step room s.Assignment t i p = assignment p
step room s.Block t i p = block p
step room s.AfterEnd t i p = after_end p
step room s.AfterOpen t i p = after_open p
step room s.Inner t i p = inner p
step room s.Body t i p = body p
step room s.Branch t i p = branch p
step room s.Elif t i p = elif_formed p
step room s.Else t i p = else_formed p
step room s.Alternatives t i p = alternatives p
step room s.Alternative t i p = alternative_formed p
step room s.UnwoundAlternatives t i p = unwound_alternatives p
step room s.GuardedAlternative t i p = guarded_alternative p
step room s.AlternativeBody t i p = alternative_body p
step room s.Offer t i p = offer_formed p
step room s.Offered t i p = offered_formed p
step room s.Guarded t i p = guarded p
step room s.Parameters t i p = parameters p
step room s.Head t i p = head p
step room s.Defined t i p = any_definition p
step room s.EnumDef t i p = enum_def p
step room s.ConstDef t i p = const_def p
step room s.TypeDef t i p = type_def p
step room s.FuncDef t i p = func_def p
step room s.ProcDef t i p = proc_def p
step room s.ModelDef t i p = model_def p
step room s.XperDef t i p = xper_def p
step room s.Definition t i p = definition_formed p
step room s.Program t i p = program p
step room s t i p = known {s = s} (expression.formed (is.part {s = s} i))

stated : {room : Room} {r : Rule Spanned Part} {t : Built} → Is grammar room r t → G room r t
stated p = made_with Stated step p

block_in : {room : Room} {t : Built} → G room (part s.Block) t → FormedBlock room.blocks room.expressions (block_of t)
block_in (made.part p) = p

program_in : {room : Room} {t : Built} → G room (part s.Program) t → FormedProgram room.blocks room.expressions (program_of t)
program_in (made.part p) = p

pub formed_blocks : (room : Room) (block : List Step)
    → FormedBlock room.blocks room.expressions block ↔ ((t : Built) × Is grammar room (part s.Block) t × (block_of t ≡ block))
formed_blocks room block = (
  (λ p. let u = build_block room.blocks p in (u.tree, u.built, u.shown)),
  (λ u. subst (λ block. FormedBlock room.blocks room.expressions block) u.2 (block_in (stated u.1))),
)

pub formed_items : (room : Room) (items : List Item)
    → FormedItems room.blocks room.expressions items ↔ ((t : Built) × Is grammar room (part s.Program) t × ((program_of t).items ≡ items))
formed_items room items = (
  (λ p. let u = build_program room.blocks p in (u.tree, u.built, u.shown)),
  (λ u. subst (λ items. FormedItems room.blocks room.expressions items) u.2 (program_in (stated u.1))),
)
