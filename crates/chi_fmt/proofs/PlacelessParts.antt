-- The spots of what stands within one line, and is formed, are those of the same without its places.
use Rattle.std.proofs.Common.{◌≡◌, ℕ, Bool, List, [], ◌∷◌, ◌++◌, Option, Some, None, map, refl, ap, sym, ◌∙◌}
use Rattle.std.specs.Option.{option_map}
use Rattle.chi_token.specs.declared.keyword.Keyword.TheVariants.{DelayWord, EndWord, InWord, UnwindWord}
use Rattle.chi_token.specs.declared.sign.Sign.TheVariants.{Assign, Bang, Colon, Comma, Question}
use Rattle.chi_tree.specs.declared.type_tree.Name.{Name}
use Rattle.chi_tree.specs.declared.expr.Expr.{Expr}
use Rattle.chi_tree.specs.declared.expr.Postfix.{Postfix}
use Rattle.chi_tree.specs.declared.statement.Variable.{Variable}
use Rattle.chi_tree.specs.declared.statement.Target.{Target}
use Rattle.chi_tree.specs.declared.statement.Walk.{Walk}
use Rattle.chi_tree.specs.declared.statement.Communication.{Communication}
use Rattle.chi_tree.specs.declared.statement.Element.{Element}
use Rattle.chi_tree.specs.View.{nowhere}
use Rattle.chi_tree_spell.specs.Words.{all, if_any}
use Rattle.chi_tree_laws.specs.Expressions.{FormedIfAny}
use Rattle.chi_tree_laws.specs.Expressions as formed_expr
use Rattle.chi_tree_laws.specs.Statements.{FormedSteps, FormedTarget, FormedTargets, FormedVariable, FormedVariables, FormedWalk, FormedCommunication, FormedElement, FormedElements}
use Rattle.chi_tree_laws.specs.Statements as formed
use Rattle.chi_tree_laws.specs.Unplaced.{unplaced_name, unplaced_expr, unplaced_postfix}
use Rattle.chi_tree_laws.specs.UnplacedStatements.{unplaced_variable, unplaced_target, unplaced_walk, unplaced_communication, unplaced_element}
use Rattle.chi_tree_laws.proofs.UnplacedStatementTrees as without
use Rattle.chi_fmt.specs.Expressions.{commas, postfix_spots, round}
use Rattle.chi_fmt.specs.Parts.{sign, word, name_spot, name_spots, variable_spots, target_spots, walk_spots, communicates, communication_spots, element_spots, offer_spots}
use Rattle.chi_fmt.proofs.PlacelessExprs.{expr-same, exprs-same, if-same, postfix-same}
use Rattle.chi_fmt.proofs.PartRows as spots

pub names-same : (ns : List Name) → map name_spots (map unplaced_name ns) ≡ map name_spots ns
names-same [] = refl
names-same (n ∷ ns) = ap (λ xs. name_spots n ∷ xs) (names-same ns)

-- targets

steps-same : {d : ℕ} {ps : List Postfix} → FormedSteps d ps → map postfix_spots (map unplaced_postfix ps) ≡ map postfix_spots ps
steps-same formed.no_steps = refl
steps-same (formed.index_step {place = p} h hs) = λ i. postfix-same (formed_expr.index {place = p} h) i ∷ steps-same hs i
steps-same (formed.field_step {d = d} {name = n} hs) = λ i. postfix-same (formed_expr.field {d = d} {name = n}) i ∷ steps-same hs i

pub target-same : {d : ℕ} (target : Target) → FormedTarget d target → target_spots (unplaced_target target) ≡ target_spots target
target-same target h = ap (λ xs. name_spot target.name ∷ all xs) (steps-same h)

pub targets-same : {d : ℕ} {ts : List Target} → FormedTargets d ts → map target_spots (map unplaced_target ts) ≡ map target_spots ts
targets-same (formed.one_target {target = t} h) = λ i. target-same t h i ∷ []
targets-same (formed.targets {target = t} h hs) = λ i. target-same t h i ∷ targets-same hs i

-- variables

variable-same : {d : ℕ} {v : Variable} → FormedVariable d v → variable_spots (unplaced_variable v) ≡ variable_spots v
variable-same (formed.bare {name = n}) = refl
variable-same (formed.with_value {name = n} h) = ap (λ xs. name_spot n ∷ sign Assign ∷ xs) (expr-same h)

pub variables-same : {d : ℕ} {vs : List Variable} → FormedVariables d vs → map variable_spots (map unplaced_variable vs) ≡ map variable_spots vs
variables-same (formed.one_variable h) = λ i. variable-same h i ∷ []
variables-same (formed.variables h hs) = λ i. variable-same h i ∷ variables-same hs i

-- walks and communications

pub walk-same : {d : ℕ} {walk : Walk} → FormedWalk d walk → walk_spots (unplaced_walk walk) ≡ walk_spots walk
walk-same (formed.walk {name = n} {names = ns} h) = λ i. commas (names-same (n ∷ ns) i) ++ word InWord ∷ expr-same h i

name-same : (name : Option Name) → option_map name_spots (option_map unplaced_name name) ≡ option_map name_spots name
name-same None = refl
name-same (Some n) = refl

pub communication-same : {d : ℕ} {c : Communication} → FormedCommunication d c → communication_spots (unplaced_communication c) ≡ communication_spots c
communication-same (formed.send {target = t} h j) = λ i. target-same t h i ++ communicates Bang ∷ if-same j i
communication-same (formed.receive {target = t} {name = n} h) = λ i. target-same t h i ++ communicates Question ∷ if_any (name-same n i)
communication-same (formed.delay h) = ap (λ xs. word DelayWord ∷ xs) (expr-same h)

pub offer-same : {d : ℕ} {guard : Option Expr} {c : Communication} → FormedIfAny d guard → FormedCommunication d c
    → offer_spots (option_map unplaced_expr guard) (unplaced_communication c) ≡ offer_spots guard c
offer-same formed_expr.left_out j = communication-same j
offer-same (formed_expr.given h) j = λ i. (expr-same h i ++ sign Comma ∷ []) ++ communication-same j i

-- what is run or started

mutual
  element-same : {ends : Bool} {b d : ℕ} {e : Element} → FormedElement ends b d e → element_spots (unplaced_element e) ≡ element_spots e
  element-same (formed.make {name = n} {es = es} hs) =
      ap element_spots (without.element-Make None n es) ∙ spots.element-Make None (unplaced_name n) (map unplaced_expr es)
      ∙ ap (λ xs. name_spot n ∷ round (commas xs)) (exprs-same hs) ∙ sym (spots.element-Make None n es)
  element-same (formed.assigned_make {target = t} {name = n} {es = es} h hs) =
      ap element_spots (without.element-Make (Some t) n es) ∙ spots.element-Make (Some (unplaced_target t)) (unplaced_name n) (map unplaced_expr es)
      ∙ (λ i. (target-same t h i ++ sign Assign ∷ []) ++ name_spot n ∷ round (commas (exprs-same hs i))) ∙ sym (spots.element-Make (Some t) n es)
  element-same (formed.unwind_elements {place = p} {walk = w} {es = es} h hs) =
      ap element_spots (without.element-Unwind p w es) ∙ spots.element-Unwind nowhere (unplaced_walk w) (map unplaced_element es)
      ∙ (λ i. word UnwindWord ∷ walk-same h i ++ sign Colon ∷ commas (elements-same hs i) ++ word EndWord ∷ []) ∙ sym (spots.element-Unwind p w es)

  pub elements-same : {ends : Bool} {b d : ℕ} {es : List Element} → FormedElements ends b d es → map element_spots (map unplaced_element es) ≡ map element_spots es
  elements-same (formed.one_element h) = λ i. element-same h i ∷ []
  elements-same (formed.elements h hs) = λ i. element-same h i ∷ elements-same hs i
