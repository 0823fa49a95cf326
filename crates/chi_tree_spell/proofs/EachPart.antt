-- Whatever the grammar builds is shown as a tree that is read as its tokens.
use Rattle.chi_grammar.specs.declared.room.Room.{Room}
use Rattle.chi_grammar.specs.Rules.{Rule, node, part, spelling}
use Rattle.chi_grammar.specs.Trees.{Is}
use Rattle.chi_token.specs.declared.place.Spanned.{Spanned}
use Rattle.chi_tree.specs.Parts.{Part}
use Rattle.chi_tree.specs.Parts as s
use Rattle.chi_tree.specs.Rules.{grammar, rule_of}
use Rattle.chi_tree.specs.View.{Built, type_of, expr_of}
use Rattle.chi_tree.specs.Statements.{block_of, program_of}
use Rattle.chi_tree_spell.specs.Marks.{OneByOne}
use Rattle.chi_tree_spell.specs.Expressions.{put_expr, put_type}
use Rattle.chi_tree_spell.specs.Statements.{put_block, put_program}
use Rattle.chi_tree.proofs.Made.{made}
use Rattle.chi_tree.proofs.Made as made
use Rattle.chi_tree_spell.proofs.BuiltTokens.{Reading}
use Rattle.chi_tree_spell.proofs.ShownTokens.{Shown, M}
use Rattle.chi_tree_spell.proofs.ExprSpelling.{any_type, named_type, built_type, word_type, list_type, set_type, dist_type, dict_type, tuple_type, chan_type, carried, formals_shown, fields_shown, more_formal, more_field, expr_shown, or_link, conj, and_link, neg, not_neg, rel, rel_link, sum, sum_link, prod, prod_link, unary, prefixed, power, power_link, post, postfix_shown, target_step, target_index, field, bracket, inside_shown, upto_shown, by_step, primary, literal_shown, named, arguments, cast_shown, round_shown, others, square_shown, curly_shown, contents, entries, more_entry, blank_shown, blank_end, blank_items, blank_elements, exprs}
use Rattle.chi_tree_spell.proofs.TargetSpelling.{names, target, initial, variable, variables, walk, delay, sending, receiving, communication_end, communication_shown, elements, element_shown, unwound_elements, make, made_shown, assigned_make}
use Rattle.chi_tree_spell.proofs.StatementSpelling.{closed_shown, open_shown, declaration, name_led, after_name, after_target, assignment, timed, jump_part_shown, return_shown, exit_shown, finish_shown, write_shown, written_shown, branch, elif_shown, else_shown, if_shown, body, while_shown, for_shown, alternatives, select_shown, alternative_shown, unwound_alternatives, alternative_body, guarded_alternative, offer_shown, offered_shown, guarded, launch, block, after_end, after_open, inner}
use Rattle.chi_tree_spell.proofs.DefinitionSpelling.{parameters, head, enum_def, const_def, type_def, func_def, proc_def, model_def, xper_def, defined, definition_shown, program}

module _ (reading : Reading) where
  step : (room : Room) (s : Part) (t : Built) → M reading room (rule_of s) t → Shown reading room s (node s t)
  step room s.AnyType t p = any_type reading p
  step room s.NamedType t p = named_type reading p
  step room s.BuiltType t p = built_type reading p
  step room s.WordType t p = word_type reading p
  step room s.ListType t p = list_type reading p
  step room s.SetType t p = set_type reading p
  step room s.DistType t p = dist_type reading p
  step room s.DictType t p = dict_type reading p
  step room s.TupleType t p = tuple_type reading p
  step room s.ChanType t p = chan_type reading p
  step room s.Carried t p = carried reading p
  step room s.Formals t p = formals_shown reading p
  step room s.Fields t p = fields_shown reading p
  step room s.MoreFormal t p = more_formal reading p
  step room s.MoreField t p = more_field reading p
  step room s.Expr t p = expr_shown reading p
  step room s.OrLink t p = or_link reading p
  step room s.Conj t p = conj reading p
  step room s.AndLink t p = and_link reading p
  step room s.Neg t p = neg reading p
  step room s.NotNeg t p = not_neg reading p
  step room s.Rel t p = rel reading p
  step room s.RelLink t p = rel_link reading p
  step room s.Sum t p = sum reading p
  step room s.SumLink t p = sum_link reading p
  step room s.Prod t p = prod reading p
  step room s.ProdLink t p = prod_link reading p
  step room s.Unary t p = unary reading p
  step room s.Prefixed t p = prefixed reading p
  step room s.Power t p = power reading p
  step room s.PowerLink t p = power_link reading p
  step room s.Post t p = post reading p
  step room s.Postfix t p = postfix_shown reading p
  step room s.TargetStep t p = target_step reading p
  step room s.TargetIndex t p = target_index reading p
  step room s.Field t p = field reading p
  step room s.Bracket t p = bracket reading p
  step room s.Inside t p = inside_shown reading p
  step room s.Upto t p = upto_shown reading p
  step room s.ByStep t p = by_step reading p
  step room s.Primary t p = primary reading p
  step room s.Literal t p = literal_shown reading p
  step room s.Named t p = named reading p
  step room s.Arguments t p = arguments reading p
  step room s.Cast t p = cast_shown reading p
  step room s.Round t p = round_shown reading p
  step room s.Others t p = others reading p
  step room s.Square t p = square_shown reading p
  step room s.Curly t p = curly_shown reading p
  step room s.Contents t p = contents reading p
  step room s.Entries t p = entries reading p
  step room s.MoreEntry t p = more_entry reading p
  step room s.Blank t p = blank_shown reading p
  step room s.BlankEnd t p = blank_end reading p
  step room s.BlankItems t p = blank_items reading p
  step room s.BlankElements t p = blank_elements reading p
  step room s.Exprs t p = exprs reading p
  step room s.Names t p = names reading p
  step room s.Target t p = target reading p
  step room s.Initial t p = initial reading p
  step room s.Variable t p = variable reading p
  step room s.Variables t p = variables reading p
  step room s.Walk t p = walk reading p
  step room s.Delay t p = delay reading p
  step room s.Sending t p = sending reading p
  step room s.Receiving t p = receiving reading p
  step room s.CommunicationEnd t p = communication_end reading p
  step room s.Communication t p = communication_shown reading p
  step room s.Elements t p = elements reading p
  step room s.Element t p = element_shown reading p
  step room s.UnwoundElements t p = unwound_elements reading p
  step room s.Make t p = make reading p
  step room s.Made t p = made_shown reading p
  step room s.AssignedMake t p = assigned_make reading p
  step room s.Closed t p = closed_shown reading p
  step room s.Open t p = open_shown reading p
  step room s.Declaration t p = declaration reading p
  step room s.NameLed t p = name_led reading p
  step room s.AfterName t p = after_name reading p
  step room s.AfterTarget t p = after_target reading p
  step room s.Assignment t p = assignment reading p
  step room s.Timed t p = timed reading p
  step room s.Jump t p = jump_part_shown reading p
  step room s.Return t p = return_shown reading p
  step room s.Exit t p = exit_shown reading p
  step room s.Finish t p = finish_shown reading p
  step room s.Write t p = write_shown reading p
  step room s.Written t p = written_shown reading p
  step room s.Branch t p = branch reading p
  step room s.Elif t p = elif_shown reading p
  step room s.Else t p = else_shown reading p
  step room s.If t p = if_shown reading p
  step room s.Body t p = body reading p
  step room s.While t p = while_shown reading p
  step room s.For t p = for_shown reading p
  step room s.Alternatives t p = alternatives reading p
  step room s.Select t p = select_shown reading p
  step room s.Alternative t p = alternative_shown reading p
  step room s.UnwoundAlternatives t p = unwound_alternatives reading p
  step room s.AlternativeBody t p = alternative_body reading p
  step room s.GuardedAlternative t p = guarded_alternative reading p
  step room s.Offer t p = offer_shown reading p
  step room s.Offered t p = offered_shown reading p
  step room s.Guarded t p = guarded reading p
  step room s.Launch t p = launch reading p
  step room s.Block t p = block reading p
  step room s.AfterEnd t p = after_end reading p
  step room s.AfterOpen t p = after_open reading p
  step room s.Inner t p = inner reading p
  step room s.Parameters t p = parameters reading p
  step room s.Head t p = head reading p
  step room s.EnumDef t p = enum_def reading p
  step room s.ConstDef t p = const_def reading p
  step room s.TypeDef t p = type_def reading p
  step room s.FuncDef t p = func_def reading p
  step room s.ProcDef t p = proc_def reading p
  step room s.ModelDef t p = model_def reading p
  step room s.XperDef t p = xper_def reading p
  step room s.Defined t p = defined reading p
  step room s.Definition t p = definition_shown reading p
  step room s.Program t p = program reading p

  pub shown : {room : Room} {rule : Rule Spanned Part} {t : Built} → Is grammar room rule t → M reading room rule t
  shown p = made (Shown reading) step p

  of_type : {room : Room} {t : Built} → M reading room (part s.AnyType) t → OneByOne reading.Fits (put_type reading.put (type_of t)) (spelling t)
  of_type (made.part p) = p.same

  of_expr : {room : Room} {t : Built} → M reading room (part s.Expr) t → OneByOne reading.Fits (put_expr reading.put (expr_of t)) (spelling t)
  of_expr (made.part p) = p.same

  of_block : {room : Room} {t : Built} → M reading room (part s.Block) t → OneByOne reading.Fits (put_block reading.put (block_of t)) (spelling t)
  of_block (made.part p) = p.spells.same

  of_program : {room : Room} {t : Built} → M reading room (part s.Program) t → OneByOne reading.Fits (put_program reading.put (program_of t)) (spelling t)
  of_program (made.part p) = p.same

  pub type_read : {room : Room} {t : Built} → Is grammar room (part s.AnyType) t → OneByOne reading.Fits (put_type reading.put (type_of t)) (spelling t)
  type_read p = of_type (shown p)

  pub expr_read : {room : Room} {t : Built} → Is grammar room (part s.Expr) t → OneByOne reading.Fits (put_expr reading.put (expr_of t)) (spelling t)
  expr_read p = of_expr (shown p)

  pub block_read : {room : Room} {t : Built} → Is grammar room (part s.Block) t → OneByOne reading.Fits (put_block reading.put (block_of t)) (spelling t)
  block_read p = of_block (shown p)

  pub program_read : {room : Room} {t : Built} → Is grammar room (part s.Program) t → OneByOne reading.Fits (put_program reading.put (program_of t)) (spelling t)
  program_read p = of_program (shown p)
