-- The spots of what stands within one line are sound rows, and show their tokens.
use Rattle.std.proofs.Common.{◌≡◌, ℕ, Bool, List, [], ◌∷◌, ◌++◌, Option, Some, None, map, refl, ap, sym, ◌∙◌}
use Rattle.chi_token.specs.declared.keyword.Keyword.TheVariants.{DelayWord, EndWord, InWord, UnwindWord}
use Rattle.chi_token.specs.declared.sign.Sign.TheVariants.{Assign, Bang, Colon, Comma, Question}
use Rattle.chi_token.specs.declared.token.Token.TheVariants.{Word, Sign, Name}
use Rattle.chi_token.specs.declared.place.Place.{Place}
use Rattle.chi_tree.specs.declared.type_tree.Name as names
use Rattle.chi_tree.specs.declared.statement.Variable.{Variable}
use Rattle.chi_tree.specs.declared.statement.Target.{Target}
use Rattle.chi_tree.specs.declared.statement.Walk.{Walk}
use Rattle.chi_tree.specs.declared.statement.Communication.{Communication}
use Rattle.chi_tree.specs.declared.statement.Element.{Element, Element-F, fold-roll-Element}
use Rattle.chi_tree.specs.declared.statement.Element.TheVariants as element
use Rattle.chi_tree.specs.declared.expr.Expr.{Expr}
use Rattle.chi_tree.specs.declared.expr.Postfix.{Postfix}
use Rattle.chi_tree_spell.specs.Expressions as spell
use Rattle.chi_tree_spell.specs.Marks.{plain}
use Rattle.chi_tree_spell.specs.Statements.{spelled_names, spelled_variable, spelled_target, spelled_walk, spelled_communication, spelled_element, spelled_elements, guard_tokens}
use Rattle.chi_tree_spell.specs.Words.{all, each_after}
use Rattle.chi_tree_spell.proofs.ExprTokens as spelled
use Rattle.chi_tree_spell.proofs.StatementTokens as spelled_more
use Rattle.chi_tree_laws.specs.Expressions.{FormedIfAny}
use Rattle.chi_tree_laws.specs.Expressions as formed_expr
use Rattle.chi_tree_laws.specs.Statements.{FormedSteps, FormedTarget, FormedTargets, FormedVariable, FormedVariables, FormedWalk, FormedCommunication, FormedElement, FormedElements}
use Rattle.chi_tree_laws.specs.Statements as formed
use Rattle.chi_fmt.specs.Expressions.{Spots, postfix_spots, commas, exprs_spots, round}
use Rattle.chi_fmt.specs.Parts.{sign, word, assigned_spots, name_spot, names_spots, name_spots, variable_spots, target_spots, walk_spots, communicates, communication_spots, element_step, element_spots, elements_spots, offer_spots}
use Rattle.chi_fmt.proofs.SpotsIn as spots
use Rattle.chi_fmt.proofs.Starts.{Row, Start, Tail, Ending, start_as, row-nothing, row-start, row-after, row-tight, row-then, row-round, start-after, start-one, start-then, tail-row, tail-sign, ending-start, ending-then, ending-both}
use Rattle.chi_fmt.proofs.ExprRows.{expr-start, exprs-within, postfix-row}

-- names

names-after : (ns : List names.Name) → Row (each_after (sign Comma) (map name_spots ns)) (each_after (Sign Comma) (map (λ n. Name n.text ∷ []) ns))
names-after [] = row-nothing
names-after (n ∷ ns) = row-then (row-after (Sign Comma) refl refl (row-after (Name n.text) refl refl row-nothing)) (names-after ns)

pub names-start : (n : names.Name) (ns : List names.Name) → Start (names_spots (n ∷ ns)) (spelled_names (n ∷ ns))
names-start n ns = start-then (start-one (Name n.text) refl refl refl) (names-after ns)

-- targets

steps-row : {d : ℕ} {ps : List Postfix} → FormedSteps d ps → Row (all (map postfix_spots ps)) (all (map spell.spelled_postfix ps))
steps-row formed.no_steps = row-nothing
steps-row (formed.index_step h hs) = row-then (postfix-row (formed_expr.index h)) (steps-row hs)
steps-row (formed.field_step {d = d} {name = n} hs) = row-then (postfix-row (formed_expr.field {d = d} {name = n})) (steps-row hs)

pub target-start : {d : ℕ} (target : Target) → FormedTarget d target → Start (target_spots target) (spelled_target target)
target-start target h = start-after (Name target.name.text) refl refl refl (steps-row h)

targets-after : {d : ℕ} {ts : List Target} → FormedTargets d ts → Row (each_after (sign Comma) (map target_spots ts)) (each_after (Sign Comma) (map spelled_target ts))
targets-after (formed.one_target {target = t} h) = row-then (row-after (Sign Comma) refl refl (row-start (target-start t h))) row-nothing
targets-after (formed.targets {target = t} h hs) = row-then (row-after (Sign Comma) refl refl (row-start (target-start t h))) (targets-after hs)

pub targets-start : {d : ℕ} {ts : List Target} → FormedTargets d ts → Start (commas (map target_spots ts)) (spell.commas (map spelled_target ts))
targets-start (formed.one_target {target = t} h) = start-then (target-start t h) row-nothing
targets-start (formed.targets {target = t} h hs) = start-then (target-start t h) (targets-after hs)

-- variables

variable-start : {d : ℕ} {v : Variable} → FormedVariable d v → Start (variable_spots v) (spelled_variable v)
variable-start (formed.bare {name = n}) = start-one (Name n.text) refl refl refl
variable-start (formed.with_value {name = n} h) =
    start-after (Name n.text) refl refl refl (row-after (Sign Assign) refl refl (row-start (expr-start h)))

variables-after : {d : ℕ} {vs : List Variable} → FormedVariables d vs
    → Row (each_after (sign Comma) (map variable_spots vs)) (each_after (Sign Comma) (map spelled_variable vs))
variables-after (formed.one_variable h) = row-then (row-after (Sign Comma) refl refl (row-start (variable-start h))) row-nothing
variables-after (formed.variables h hs) = row-then (row-after (Sign Comma) refl refl (row-start (variable-start h))) (variables-after hs)

pub variables-start : {d : ℕ} {vs : List Variable} → FormedVariables d vs → Start (commas (map variable_spots vs)) (spell.commas (map spelled_variable vs))
variables-start (formed.one_variable h) = start-then (variable-start h) row-nothing
variables-start (formed.variables h hs) = start-then (variable-start h) (variables-after hs)

-- walks

pub walk-start : {d : ℕ} {walk : Walk} → FormedWalk d walk → Start (walk_spots walk) (spelled_walk walk)
walk-start (formed.walk {name = n} {names = ns} h) =
    start-then (names-start n ns) (row-after (Word InWord) refl refl (row-start (expr-start h)))

-- communications

-- the sign, and what is sent, if anything is
sent-tail : {d : ℕ} {e : Option Expr} → FormedIfAny d e → Tail (communicates Bang ∷ spots.spots_if e) (Sign Bang ∷ spelled.put_if plain e)
sent-tail formed_expr.left_out = tail-sign (communicates Bang) refl refl
sent-tail (formed_expr.given h) = tail-row (row-tight (communicates Bang) refl refl (expr-start h))

pub communication-ending : {d : ℕ} {c : Communication} → FormedCommunication d c → Ending (communication_spots c) (spelled_communication c)
communication-ending (formed.send {target = t} h j) = ending-then (target-start t h) (sent-tail j)
communication-ending (formed.receive {target = t} {name = None} h) = ending-then (target-start t h) (tail-sign (communicates Question) refl refl)
communication-ending (formed.receive {target = t} {name = Some n} h) =
    ending-then (target-start t h) (tail-row (row-tight (communicates Question) refl refl (start-one (Name n.text) refl refl refl)))
communication-ending (formed.delay h) = ending-start (start-after (Word DelayWord) refl refl refl (row-start (expr-start h)))

-- an offer, after its condition where one is written
pub offer-ending : {d : ℕ} {guard : Option Expr} {c : Communication} → FormedIfAny d guard → FormedCommunication d c
    → Ending (offer_spots guard c) (guard_tokens guard ++ spelled_communication c)
offer-ending formed_expr.left_out j = communication-ending j
offer-ending (formed_expr.given h) j = ending-both (start-then (expr-start h) (row-after (Sign Comma) refl refl row-nothing)) (communication-ending j)

-- what is run or started

pub element-Make : (t : Option Target) (n : names.Name) (es : List Expr)
    → element_spots (element.Make t n es) ≡ assigned_spots t ++ name_spot n ∷ round (exprs_spots es)
element-Make t n es = ap element_spots (sym (element.rolls-Make t n es)) ∙ fold-roll-Element Spots element_step (Element-F.Make t n es)

pub element-Unwind : (p : Place) (w : Walk) (es : List Element)
    → element_spots (element.Unwind p w es) ≡ word UnwindWord ∷ walk_spots w ++ sign Colon ∷ elements_spots es ++ word EndWord ∷ []
element-Unwind p w es = ap element_spots (sym (element.rolls-Unwind p w es)) ∙ fold-roll-Element Spots element_step (Element-F.Unwind p w es)

mutual
  pub element-start : {ends : Bool} {b d : ℕ} {e : Element} → FormedElement ends b d e → Start (element_spots e) (spelled_element e)
  element-start (formed.make {name = n} {es = es} hs) =
      start_as (element-Make None n es) (spelled_more.element-Make plain None n es)
      (start-after (Name n.text) refl refl refl (row-round (exprs-within hs)))
  element-start (formed.assigned_make {target = t} {name = n} {es = es} h hs) =
      start_as (element-Make (Some t) n es) (spelled_more.element-Make plain (Some t) n es)
      (start-then (start-then (target-start t h) (row-after (Sign Assign) refl refl row-nothing)) (row-after (Name n.text) refl refl (row-round (exprs-within hs))))
  element-start (formed.unwind_elements {place = p} {walk = w} {es = es} h hs) =
      start_as (element-Unwind p w es) (spelled_more.element-Unwind plain p w es)
      (start-after (Word UnwindWord) refl refl refl
      (row-then (row-then (row-start (walk-start h)) (row-after (Sign Colon) refl refl (row-start (elements-start hs)))) (row-after (Word EndWord) refl refl row-nothing)))

  pub elements-start : {ends : Bool} {b d : ℕ} {es : List Element} → FormedElements ends b d es → Start (elements_spots es) (spelled_elements es)
  elements-start (formed.one_element h) = start-then (element-start h) row-nothing
  elements-start (formed.elements h hs) = start-then (element-start h) (elements-after hs)

  elements-after : {ends : Bool} {b d : ℕ} {es : List Element} → FormedElements ends b d es
      → Row (each_after (sign Comma) (map element_spots es)) (each_after (Sign Comma) (map spelled_element es))
  elements-after (formed.one_element h) = row-then (row-after (Sign Comma) refl refl (row-start (element-start h))) row-nothing
  elements-after (formed.elements h hs) = row-then (row-after (Sign Comma) refl refl (row-start (element-start h))) (elements-after hs)
