-- The places that the marks of a statement, a definition and a program keep are all its places.
use Rattle.std.proofs.Common.{ℕ, Bool, true, false, List, [], ◌∷◌, Option, Some, None, map}
use Rattle.std.specs.Option.{option_map}
use Rattle.chi_token.specs.declared.keyword.Keyword.TheVariants.{AltWord, ElifWord}
use Rattle.chi_token.specs.declared.sign.Sign.TheVariants.{Comma}
use Rattle.chi_token.specs.declared.token.Token.TheVariants.{Sign, Word}
use Rattle.chi_tree.specs.declared.type_tree.Name.{Name}
use Rattle.chi_tree.specs.declared.type_tree.TypeTree.{TypeTree}
use Rattle.chi_tree.specs.declared.type_tree.Formal.{Formal}
use Rattle.chi_tree.specs.declared.expr.Expr.{Expr}
use Rattle.chi_tree.specs.declared.expr.Postfix.{Postfix}
use Rattle.chi_tree.specs.declared.statement.Variable.{Variable}
use Rattle.chi_tree.specs.declared.statement.Target.{Target}
use Rattle.chi_tree.specs.declared.statement.Walk.{Walk}
use Rattle.chi_tree.specs.declared.statement.Communication.{Communication}
use Rattle.chi_tree.specs.declared.statement.Element.{Element}
use Rattle.chi_tree.specs.declared.statement.Step.{Step}
use Rattle.chi_tree.specs.declared.statement.Statement.{Statement}
use Rattle.chi_tree.specs.declared.statement.Branch.{Branch}
use Rattle.chi_tree.specs.declared.statement.Alternative.{Alternative}
use Rattle.chi_tree.specs.declared.definition.Definition.{Definition}
use Rattle.chi_tree.specs.declared.definition.Item.{Item}
use Rattle.chi_tree.specs.Statements.{step}
use Rattle.chi_tree_spell.specs.Marks.{mark}
use Rattle.chi_tree_spell.specs.Words.{if_any, all, each_after, separated}
use Rattle.chi_tree_spell.specs.Expressions.{put_name, put_postfix}
use Rattle.chi_tree_spell.specs.Statements.{put_semicolon, put_variable, put_target, put_walk, put_communication, put_element, put_guard, put_body, put_else, put_to_end, put_step, put_statement, put_branch, put_alternative, put_callable, put_head, put_definition, put_item}
use Rattle.chi_tree_spell.proofs.ExprTokens as spelled_expr
use Rattle.chi_tree_spell.proofs.StatementTokens as spelled
use Rattle.chi_tree_laws.specs.Definitions.{FormedParameters, FormedExitType, FormedDefinition, FormedItems, item}
use Rattle.chi_tree_laws.specs.Definitions as defined
use Rattle.chi_tree_laws.specs.Expressions.{FormedIfAny}
use Rattle.chi_tree_laws.specs.Expressions as expression
use Rattle.chi_tree_laws.specs.Statements.{FormedSteps, FormedTarget, FormedTargets, FormedVariable, FormedVariables, FormedWalk, FormedCommunication, FormedElement, FormedElements, FormedBlock, FormedInner, FormedStatement, FormedBranches, FormedAlternatives, FormedAlternative, branch}
use Rattle.chi_tree_laws.specs.Statements as formed
use Rattle.chi_tree_laws.specs.Unplaced.{unplaced_name, unplaced_postfix, unplaced_type, unplaced_formal, unplaced_expr}
use Rattle.chi_tree_laws.specs.UnplacedStatements.{unplaced_variable, unplaced_target, unplaced_walk, unplaced_communication, unplaced_element, unplaced_step, unplaced_branch, unplaced_alternative, unplaced_definition, unplaced_item}
use Rattle.chi_tree_laws.proofs.Readers.{each, after_each, between, optional, Gives, gives-done, gives-keep, gives-pass, gives-bind, gives-last, gives_as, gives-more, gives-after_more, gives-between}
use Rattle.chi_tree_laws.proofs.Refilled.{refilled_postfix, refilled_type}
use Rattle.chi_tree_laws.proofs.Refilled as again_expr
use Rattle.chi_tree_laws.proofs.RefilledStatements.{refilled_name, refilled_variable, refilled_target, refilled_walk, refilled_communication, guard_reader, body_reader, else_reader, to_end, semicolon_reader, refilled_element, again_element, refilled_step, again_step, refilled_statement, again_statement, refilled_branch, again_branch, refilled_alternative, again_alternative, callable_reader, head_reader, refilled_definition, refilled_item}
use Rattle.chi_tree_laws.proofs.RefilledStatements as again
use Rattle.chi_tree_laws.proofs.ExprPlaces.{PostfixesAgain, FormalsAgain, ExprAgain, type_again, formals_again, expr_again, if_again, exprs_again, exprs_after}

-- names, targets, variables, walks and communications

name_again : (n : Name) → Gives (refilled_name (unplaced_name n)) (put_name mark n ∷ []) n
name_again n = gives-keep _ n.place _ (gives-done _)

names_after : (ns : List Name)
    → Gives (after_each (map refilled_name (map unplaced_name ns))) (each_after (mark (Sign Comma) None) (map (λ n. put_name mark n ∷ []) ns)) ns
names_after [] = gives-done []
names_after (n ∷ ns) = gives-after_more (Sign Comma) (map refilled_name (map unplaced_name ns)) (map (λ n. put_name mark n ∷ []) ns) (name_again n) (names_after ns)

names_again : (n : Name) (ns : List Name)
    → Gives (between (map refilled_name (map unplaced_name (n ∷ ns)))) (separated (mark (Sign Comma) None) (map (λ n. put_name mark n ∷ []) (n ∷ ns))) (n ∷ ns)
names_again n ns = gives-between (Sign Comma) (map refilled_name (map unplaced_name ns)) (map (λ n. put_name mark n ∷ []) ns) (name_again n) (names_after ns)

steps_again : {d : ℕ} {ps : List Postfix} → FormedSteps d ps → PostfixesAgain ps
steps_again formed.no_steps = gives-done []
steps_again (formed.index_step {place = p} {e = e} {steps = ps} h hs) =
    gives-more (map refilled_postfix (map unplaced_postfix ps)) (map (put_postfix mark) ps) (gives_as (again_expr.postfix-Index p e) (spelled_expr.postfix-Index mark p e)
    (gives-keep _ p _ (gives-bind _ (expr_again h) (gives-pass _ (gives-done _))))) (steps_again hs)
steps_again (formed.field_step {name = n} {steps = ps} hs) =
    gives-more (map refilled_postfix (map unplaced_postfix ps)) (map (put_postfix mark) ps) (gives_as (again_expr.postfix-Field n) (spelled_expr.postfix-Field mark n) (gives-pass _ (gives-keep _ n.place _ (gives-done _)))) (steps_again hs)

abbrev TargetAgain : Target → Type 0
TargetAgain t = Gives (refilled_target (unplaced_target t)) (put_target mark t) t

target_again : {d : ℕ} (t : Target) → FormedTarget d t → TargetAgain t
target_again t h = let n = t.name in gives-keep _ n.place _ (gives-last _ (steps_again h))

targets_after : {d : ℕ} {ts : List Target} → FormedTargets d ts
    → Gives (after_each (map refilled_target (map unplaced_target ts))) (each_after (mark (Sign Comma) None) (map (put_target mark) ts)) ts
targets_after (formed.one_target {target = t} h) = gives-after_more (Sign Comma) [] [] (target_again t h) (gives-done [])
targets_after (formed.targets {target = t} {more = more} h hs) =
    gives-after_more (Sign Comma) (map refilled_target (map unplaced_target more)) (map (put_target mark) more) (target_again t h) (targets_after hs)

targets_again : {d : ℕ} {ts : List Target} → FormedTargets d ts
    → Gives (between (map refilled_target (map unplaced_target ts))) (separated (mark (Sign Comma) None) (map (put_target mark) ts)) ts
targets_again (formed.one_target {target = t} h) = gives-between (Sign Comma) [] [] (target_again t h) (gives-done [])
targets_again (formed.targets {target = t} {more = more} h hs) =
    gives-between (Sign Comma) (map refilled_target (map unplaced_target more)) (map (put_target mark) more) (target_again t h) (targets_after hs)

abbrev VariableAgain : Variable → Type 0
VariableAgain v = Gives (refilled_variable (unplaced_variable v)) (put_variable mark v) v

variable_again : {d : ℕ} {v : Variable} → FormedVariable d v → VariableAgain v
variable_again (formed.bare {name = n}) = gives-keep _ n.place _ (gives-last _ (gives-done None))
variable_again (formed.with_value {name = n} {place = p} h) = gives-keep _ n.place _ (gives-last _ (gives-keep _ p _ (gives-last _ (expr_again h))))

variables_after : {d : ℕ} {vs : List Variable} → FormedVariables d vs
    → Gives (after_each (map refilled_variable (map unplaced_variable vs))) (each_after (mark (Sign Comma) None) (map (put_variable mark) vs)) vs
variables_after (formed.one_variable h) = gives-after_more (Sign Comma) [] [] (variable_again h) (gives-done [])
variables_after (formed.variables {more = more} h hs) =
    gives-after_more (Sign Comma) (map refilled_variable (map unplaced_variable more)) (map (put_variable mark) more) (variable_again h) (variables_after hs)

variables_again : {d : ℕ} {vs : List Variable} → FormedVariables d vs
    → Gives (between (map refilled_variable (map unplaced_variable vs))) (separated (mark (Sign Comma) None) (map (put_variable mark) vs)) vs
variables_again (formed.one_variable h) = gives-between (Sign Comma) [] [] (variable_again h) (gives-done [])
variables_again (formed.variables {more = more} h hs) =
    gives-between (Sign Comma) (map refilled_variable (map unplaced_variable more)) (map (put_variable mark) more) (variable_again h) (variables_after hs)

abbrev WalkAgain : Walk → Type 0
WalkAgain w = Gives (refilled_walk (unplaced_walk w)) (put_walk mark w) w

walk_again : {d : ℕ} {w : Walk} → FormedWalk d w → WalkAgain w
walk_again (formed.walk {name = n} {names = ns} h) = gives-bind _ (names_again n ns) (gives-pass _ (gives-last _ (expr_again h)))

abbrev CommunicationAgain : Communication → Type 0
CommunicationAgain c = Gives (refilled_communication (unplaced_communication c)) (put_communication mark c) c

optional_name : (n : Option Name)
    → Gives (optional (option_map refilled_name (option_map unplaced_name n))) (if_any (option_map (λ n. put_name mark n ∷ []) n)) n
optional_name None = gives-done None
optional_name (Some n) = gives-last _ (name_again n)

communication_again : {d : ℕ} {c : Communication} → FormedCommunication d c → CommunicationAgain c
communication_again (formed.send {target = t} {place = p} h j) = gives-bind _ (target_again t h) (gives-keep _ p _ (gives-last _ (if_again j)))
communication_again (formed.receive {target = t} {place = p} {name = n} h) =
    gives-bind _ (target_again t h) (gives-keep _ p _ (gives-last _ (optional_name n)))
communication_again (formed.delay {place = p} h) = gives-keep _ p _ (gives-last _ (expr_again h))

-- what is run or started

abbrev ElementAgain : Element → Type 0
ElementAgain e = Gives (again_element e) (put_element mark e) e

mutual
  element_again : {ends : Bool} {b d : ℕ} {e : Element} → FormedElement ends b d e → ElementAgain e
  element_again (formed.make {name = n} {es = es} hs) =
      gives_as (again.element-Make None n es) (spelled.element-Make mark None n es)
      (gives-bind _ (gives-done None) (gives-keep _ n.place _ (gives-pass _ (gives-bind _ (exprs_again hs) (gives-pass _ (gives-done _))))))
  element_again (formed.assigned_make {target = t} {name = n} {es = es} h hs) =
      gives_as (again.element-Make (Some t) n es) (spelled.element-Make mark (Some t) n es)
      (gives-bind _ (gives-bind _ (target_again t h) (gives-pass _ (gives-done (Some t))))
      (gives-keep _ n.place _ (gives-pass _ (gives-bind _ (exprs_again hs) (gives-pass _ (gives-done _))))))
  element_again (formed.unwind_elements {place = p} {walk = w} {es = es} h hs) =
      gives_as (again.element-Unwind p w es) (spelled.element-Unwind mark p w es)
      (gives-keep _ p _ (gives-bind _ (gives-bind _ (walk_again h) (gives-pass _ (gives-last _ (elements_again hs)))) (gives-pass _ (gives-done _))))

  elements_again : {ends : Bool} {b d : ℕ} {es : List Element} → FormedElements ends b d es
      → Gives (between (map refilled_element (map unplaced_element es))) (separated (mark (Sign Comma) None) (map (put_element mark) es)) es
  elements_again (formed.one_element h) = gives-between (Sign Comma) [] [] (element_again h) (gives-done [])
  elements_again (formed.elements {more = more} h hs) =
      gives-between (Sign Comma) (map refilled_element (map unplaced_element more)) (map (put_element mark) more) (element_again h) (elements_after hs)

  elements_after : {ends : Bool} {b d : ℕ} {es : List Element} → FormedElements ends b d es
      → Gives (after_each (map refilled_element (map unplaced_element es))) (each_after (mark (Sign Comma) None) (map (put_element mark) es)) es
  elements_after (formed.one_element h) = gives-after_more (Sign Comma) [] [] (element_again h) (gives-done [])
  elements_after (formed.elements {more = more} h hs) =
      gives-after_more (Sign Comma) (map refilled_element (map unplaced_element more)) (map (put_element mark) more) (element_again h) (elements_after hs)

-- statements

abbrev StatementAgain : Statement → Type 0
StatementAgain s = Gives (again_statement s) (put_statement mark s) s

abbrev StepAgain : Step → Type 0
StepAgain s = Gives (again_step s) (put_step mark s) s

abbrev pub BlockAgain : List Step → Type 0
BlockAgain ss = Gives (each (map refilled_step (map unplaced_step ss))) (all (map (put_step mark) ss)) ss

abbrev BranchAgain : Branch → Type 0
BranchAgain b = Gives (again_branch b) (put_branch mark b) b

abbrev AlternativeAgain : Alternative → Type 0
AlternativeAgain x = Gives (again_alternative x) (put_alternative mark x) x

semicolon_again : (b : Bool) → Gives (semicolon_reader b) (put_semicolon mark b) tt
semicolon_again true = gives-pass _ (gives-done tt)
semicolon_again false = gives-done tt

step_again : (s : Statement) (semicolon : Bool) → StatementAgain s → StepAgain (step s semicolon)
step_again s semicolon h =
    gives_as (again.step-in (step s semicolon)) (spelled.step-tokens mark (step s semicolon)) (gives-bind _ h (gives-last _ (semicolon_again semicolon)))

to_end_again : (ss : List Step) → BlockAgain ss → Gives (to_end (map refilled_step (map unplaced_step ss))) (put_to_end mark (map (put_step mark) ss)) ss
to_end_again ss h = gives-pass _ (gives-bind _ h (gives-pass _ (gives-done ss)))

guard_again : {d : ℕ} {e : Option Expr} → FormedIfAny d e → Gives (guard_reader (option_map unplaced_expr e)) (put_guard mark e) e
guard_again expression.left_out = gives-done None
guard_again (expression.given h) = gives-bind _ (expr_again h) (gives-pass _ (gives-done _))

body_again : (ss : List Step) → BlockAgain ss → Gives (body_reader (map refilled_step (map unplaced_step ss))) (put_body mark (map (put_step mark) ss)) ss
body_again [] h = gives-done []
body_again (s ∷ ss) h = gives-pass _ h

else_again : (ss : List Step) → BlockAgain ss → Gives (else_reader (map refilled_step (map unplaced_step ss))) (put_else mark (map (put_step mark) ss)) ss
else_again [] h = gives-done []
else_again (s ∷ ss) h = gives-pass _ (gives-pass _ h)

branch_again : {e : Expr} {ss : List Step} → ExprAgain e → BlockAgain ss → BranchAgain (branch e ss)
branch_again {e = e} {ss = ss} h j = gives_as (again.branch-in e ss) (spelled.branch-tokens mark e ss) (gives-bind _ h (gives-pass _ (gives-last _ j)))

mutual
  pub block_again : {b d : ℕ} {ss : List Step} → FormedBlock b d ss → BlockAgain ss
  block_again (formed.last {semicolon = semicolon} {s = s} h) = gives-more [] [] (step_again s semicolon (statement_again h)) (gives-done [])
  block_again (formed.next {s = s} {more = ss} h hs) = gives-more (map refilled_step (map unplaced_step ss)) (map (put_step mark) ss) (step_again s true (statement_again h)) (block_again hs)
  block_again (formed.after_end {s = s} {more = ss} h hs) = gives-more (map refilled_step (map unplaced_step ss)) (map (put_step mark) ss) (step_again s false (statement_again h)) (block_again hs)

  inner_again : {b d : ℕ} {ss : List Step} → FormedInner b d ss → BlockAgain ss
  inner_again (formed.inner h) = block_again h

  statement_again : {ends : Bool} {b d : ℕ} {s : Statement} → FormedStatement ends b d s → StatementAgain s
  statement_again (formed.declare {t = t} {vs = vs} h hs) =
      gives_as (again.statement-Declare t vs) (spelled.statement-Declare mark t vs) (gives-bind _ (type_again h) (gives-last _ (variables_again hs)))
  statement_again (formed.assign {ts = ts} {place = p} {e = e} {es = es} hs js) =
      gives_as (again.statement-Assign ts p (e ∷ es)) (spelled.statement-Assign mark ts p (e ∷ es))
      (gives-bind _ (targets_again hs) (gives-keep _ p _ (gives-last _ (exprs_again js))))
  statement_again (formed.communicate {c = c} h) =
      gives_as (again.statement-Communicate c) (spelled.statement-Communicate mark c) (gives-last _ (communication_again h))
  statement_again (formed.pass {place = p}) = gives_as (again.statement-Pass p) (spelled.statement-Pass mark p) (gives-keep _ p _ (gives-done _))
  statement_again (formed.leave {place = p}) = gives_as (again.statement-Break p) (spelled.statement-Break mark p) (gives-keep _ p _ (gives-done _))
  statement_again (formed.continue {place = p}) = gives_as (again.statement-Continue p) (spelled.statement-Continue mark p) (gives-keep _ p _ (gives-done _))
  statement_again (formed.select {place = p} {xs = xs} hs) =
      gives_as (again.statement-Select p xs) (spelled.statement-Select mark p xs)
      (gives-keep _ p _ (gives-bind _ (alternatives_again hs) (gives-pass _ (gives-done _))))
  statement_again (formed.if_branches {place = p} {bs = bs} hs) =
      gives_as (again.statement-If p bs []) (spelled.statement-If mark p bs [])
      (gives-keep _ p _ (gives-bind _ (gives-bind _ (branches_again hs) (gives-last _ (gives-done []))) (gives-pass _ (gives-done _))))
  statement_again (formed.if_else {place = p} {bs = bs} {block = ss} hs j) =
      gives_as (again.statement-If p bs ss) (spelled.statement-If mark p bs ss)
      (gives-keep _ p _ (gives-bind _ (gives-bind _ (branches_again hs) (gives-last _ (else_again ss (inner_again j)))) (gives-pass _ (gives-done _))))
  statement_again (formed.while {place = p} {e = e} {block = ss} h j) =
      gives_as (again.statement-While p e ss) (spelled.statement-While mark p e ss)
      (gives-keep _ p _ (gives-bind _ (expr_again h) (gives-last _ (to_end_again ss (inner_again j)))))
  statement_again (formed.for_each {place = p} {walk = w} {block = ss} h j) =
      gives_as (again.statement-For p w ss) (spelled.statement-For mark p w ss)
      (gives-keep _ p _ (gives-bind _ (walk_again h) (gives-last _ (to_end_again ss (inner_again j)))))
  statement_again (formed.return {place = p} {e = e} h) =
      gives_as (again.statement-Return p e) (spelled.statement-Return mark p e) (gives-keep _ p _ (gives-last _ (expr_again h)))
  statement_again (formed.exit {place = p} {e = e} h) =
      gives_as (again.statement-Exit p e) (spelled.statement-Exit mark p e) (gives-keep _ p _ (gives-last _ (if_again h)))
  statement_again (formed.run {place = p} {es = es} hs) =
      gives_as (again.statement-Run p es) (spelled.statement-Run mark p es) (gives-keep _ p _ (gives-last _ (elements_again hs)))
  statement_again (formed.start {place = p} {es = es} hs) =
      gives_as (again.statement-Start p es) (spelled.statement-Start mark p es) (gives-keep _ p _ (gives-last _ (elements_again hs)))
  statement_again (formed.finish {place = p} {e = e} {es = es} hs) =
      gives_as (again.statement-Finish p (e ∷ es)) (spelled.statement-Finish mark p (e ∷ es)) (gives-keep _ p _ (gives-last _ (exprs_again hs)))
  statement_again (formed.write {place = p} {line = line} {text = text} {at = at} {es = es} hs) =
      gives_as (again.statement-Write p line text at es) (spelled.statement-Write mark p line text at es)
      (gives-keep _ p _ (gives-pass _ (gives-keep _ at _ (gives-bind _ (exprs_after hs) (gives-pass _ (gives-done _))))))

  branches_again : {b d : ℕ} {bs : List Branch} → FormedBranches b d bs
      → Gives (between (map refilled_branch (map unplaced_branch bs))) (separated (mark (Word ElifWord) None) (map (put_branch mark) bs)) bs
  branches_again (formed.one_branch h j) = gives-between (Word ElifWord) [] [] (branch_again (expr_again h) (inner_again j)) (gives-done [])
  branches_again (formed.branches {more = more} h j hs) =
      gives-between (Word ElifWord) (map refilled_branch (map unplaced_branch more)) (map (put_branch mark) more) (branch_again (expr_again h) (inner_again j)) (branches_after hs)

  branches_after : {b d : ℕ} {bs : List Branch} → FormedBranches b d bs
      → Gives (after_each (map refilled_branch (map unplaced_branch bs))) (each_after (mark (Word ElifWord) None) (map (put_branch mark) bs)) bs
  branches_after (formed.one_branch h j) = gives-after_more (Word ElifWord) [] [] (branch_again (expr_again h) (inner_again j)) (gives-done [])
  branches_after (formed.branches {more = more} h j hs) =
      gives-after_more (Word ElifWord) (map refilled_branch (map unplaced_branch more)) (map (put_branch mark) more) (branch_again (expr_again h) (inner_again j)) (branches_after hs)

  alternatives_again : {b d : ℕ} {xs : List Alternative} → FormedAlternatives b d xs
      → Gives (between (map refilled_alternative (map unplaced_alternative xs))) (separated (mark (Word AltWord) None) (map (put_alternative mark) xs)) xs
  alternatives_again (formed.one_alternative h) = gives-between (Word AltWord) [] [] (alternative_again h) (gives-done [])
  alternatives_again (formed.alternatives {more = more} h hs) =
      gives-between (Word AltWord) (map refilled_alternative (map unplaced_alternative more)) (map (put_alternative mark) more) (alternative_again h) (alternatives_after hs)

  alternatives_after : {b d : ℕ} {xs : List Alternative} → FormedAlternatives b d xs
      → Gives (after_each (map refilled_alternative (map unplaced_alternative xs))) (each_after (mark (Word AltWord) None) (map (put_alternative mark) xs)) xs
  alternatives_after (formed.one_alternative h) = gives-after_more (Word AltWord) [] [] (alternative_again h) (gives-done [])
  alternatives_after (formed.alternatives {more = more} h hs) =
      gives-after_more (Word AltWord) (map refilled_alternative (map unplaced_alternative more)) (map (put_alternative mark) more) (alternative_again h) (alternatives_after hs)

  alternative_again : {b d : ℕ} {x : Alternative} → FormedAlternative b d x → AlternativeAgain x
  alternative_again (formed.offer {guard = g} {c = c} h j) =
      gives_as (again.alternative-Guarded g c []) (spelled.alternative-Guarded mark g c [])
      (gives-bind _ (gives-bind _ (guard_again h) (gives-last _ (communication_again j))) (gives-last _ (gives-done [])))
  alternative_again (formed.offer_block {guard = g} {c = c} {block = ss} h j k) =
      gives_as (again.alternative-Guarded g c ss) (spelled.alternative-Guarded mark g c ss)
      (gives-bind _ (gives-bind _ (guard_again h) (gives-last _ (communication_again j))) (gives-last _ (body_again ss (inner_again k))))
  alternative_again (formed.unwind {place = p} {walk = w} {xs = xs} h hs) =
      gives_as (again.alternative-Unwind p w xs) (spelled.alternative-Unwind mark p w xs)
      (gives-keep _ p _ (gives-bind _ (gives-bind _ (walk_again h) (gives-pass _ (gives-last _ (alternatives_again hs)))) (gives-pass _ (gives-done _))))

-- definitions

parameters_again : {d : ℕ} {fs : List Formal} → FormedParameters d fs → FormalsAgain fs
parameters_again defined.no_parameters = gives-done []
parameters_again (defined.parameters h) = formals_again h

callable_again : (fs : List Formal) (ss : List Step) → FormalsAgain fs → BlockAgain ss
    → Gives (callable_reader (map unplaced_formal fs) (map unplaced_step ss)) (put_callable mark fs ss) (fs, ss)
callable_again fs ss h j = gives-pass _ (gives-bind _ (gives-bind _ h (gives-pass _ (gives-done fs))) (gives-last _ (to_end_again ss j)))

head_again : {d : ℕ} {t : Option TypeTree} → FormedExitType d t → (n : Name)
    → Gives (head_reader (option_map unplaced_type t) (unplaced_name n)) (put_head mark t n) (t, n)
head_again defined.no_exit_type n = gives-bind _ (gives-done None) (gives-keep _ n.place _ (gives-done _))
head_again (defined.exit_type h) n = gives-bind _ (gives-last _ (type_again h)) (gives-keep _ n.place _ (gives-done _))

definition_again : {b d : ℕ} {x : Definition} → FormedDefinition b d x → Gives (refilled_definition (unplaced_definition x)) (put_definition mark x) x
definition_again (defined.enumeration {place = p} {name = n} {first = m} {more = ms}) =
    gives-keep _ p _ (gives-keep _ n.place _ (gives-pass _ (gives-pass _ (gives-bind _ (names_again m ms) (gives-pass _ (gives-done _))))))
definition_again (defined.constant {place = p} {at = q} {name = n} h j) =
    gives-keep _ p _ (gives-bind _ (type_again h) (gives-keep _ n.place _ (gives-keep _ q _ (gives-last _ (expr_again j)))))
definition_again (defined.type_name {place = p} {name = n} h) = gives-keep _ p _ (gives-keep _ n.place _ (gives-pass _ (gives-last _ (type_again h))))
definition_again (defined.function {place = p} {name = n} {fs = fs} {block = ss} h j k) =
    gives-keep _ p _ (gives-bind _ (type_again h) (gives-keep _ n.place _ (gives-last _ (callable_again fs ss (parameters_again j) (inner_again k)))))
definition_again (defined.process {place = p} {name = n} {fs = fs} {block = ss} h j k) =
    gives-keep _ p _ (gives-bind _ (head_again h n) (gives-last _ (callable_again fs ss (parameters_again j) (inner_again k))))
definition_again (defined.model {place = p} {name = n} {fs = fs} {block = ss} h j k) =
    gives-keep _ p _ (gives-bind _ (head_again h n) (gives-last _ (callable_again fs ss (parameters_again j) (inner_again k))))
definition_again (defined.experiment {place = p} {name = n} {block = ss} h) =
    gives-keep _ p _ (gives-keep _ n.place _ (gives-last _ (callable_again [] ss (gives-done []) (inner_again h))))

item_again : {b d : ℕ} (x : Definition) (semicolon : Bool) → FormedDefinition b d x
    → Gives (refilled_item (unplaced_item (item x semicolon))) (put_item mark (item x semicolon)) (item x semicolon)
item_again x semicolon h = gives-bind _ (definition_again h) (gives-last _ (semicolon_again semicolon))

pub items_again : {b d : ℕ} {items : List Item} → FormedItems b d items
    → Gives (each (map refilled_item (map unplaced_item items))) (all (map (put_item mark) items)) items
items_again (defined.one_item {definition = x} {semicolon = semicolon} h) = gives-more [] [] (item_again x semicolon h) (gives-done [])
items_again (defined.items {definition = x} {semicolon = semicolon} {more = items} h hs) =
    gives-more (map refilled_item (map unplaced_item items)) (map (put_item mark) items) (item_again x semicolon h) (items_again hs)
