-- What the checker makes of the parts of statements of a short source has short text literals.
use Rattle.std.proofs.Common.{ℕ, Bool, true, ◌++◌, List, [], ◌∷◌, map, length, Option, Some, None, refl, sym, subst, ◌∙◌}
use Rattle.std.specs.Prelude.{option_map}
use Rattle.chi_token.specs.declared.place.Place.{Place}
use Rattle.chi_token.specs.declared.token.Token.{Token}
use Rattle.chi_token.specs.declared.token.Token.TheVariants as token
use Rattle.chi_token.specs.declared.sign.Sign.TheVariants as sign
use Rattle.chi_token.specs.declared.keyword.Keyword.TheVariants as keyword
use Rattle.chi_tree.specs.declared.expr.Expr.{Expr}
use Rattle.chi_tree.specs.declared.expr.Postfix.{Postfix, Postfix-F, out-Postfix}
use Rattle.chi_tree.specs.declared.expr.Postfix.TheVariants as postfix
use Rattle.chi_tree.specs.declared.statement.Communication.{Communication}
use Rattle.chi_tree.specs.declared.statement.Target.{Target}
use Rattle.chi_tree.specs.declared.statement.Variable.{Variable}
use Rattle.chi_tree.specs.declared.statement.Walk.{Walk}
use Rattle.chi_tree.specs.declared.type_tree.Name.{Name}
use Rattle.chi_tree.specs.declared.type_tree.TypeTree.{TypeTree}
use Rattle.chi_tree_spell.specs.Words.{Tokens, if_any, all, each_after, separated}
use Rattle.chi_tree_spell.specs.Expressions.{round, spelled_expr, spelled_postfix, spelled_type}
use Rattle.chi_tree_spell.specs.Statements.{spelled_names, spelled_exprs, spelled_target, spelled_variable, spelled_walk, spelled_communication, assigned_tokens}
use Rattle.chi_tree_laws.specs.Levels as level
use Rattle.chi_tree_laws.specs.Expressions.{FormedType, FormedExpr, FormedIfAny, FormedExprs}
use Rattle.chi_tree_laws.specs.Expressions as expressions
use Rattle.chi_tree_laws.specs.Statements as formed
use Rattle.chi_tree_laws.specs.Statements.{FormedSteps, FormedTarget, FormedTargets, FormedVariable, FormedVariables, FormedWalk, FormedCommunication}
use Rattle.chi_core.specs.declared.communication.CComm.{CComm}
use Rattle.chi_core.specs.declared.statement.CAlt.TheVariants as alternative
use Rattle.chi_core.specs.declared.statement.CStat.TheVariants as statement
use Rattle.chi_check_types.specs.declared.fault.Fault.{Fault}
use Rattle.chi_check_types.specs.declared.meant.Made.{Made}
use Rattle.chi_check_types.specs.declared.meant.Meant.{Meant}
use Rattle.chi_check_types.specs.Defaults.{default_of}
use Rattle.chi_check_types.specs.Faults.{are_none}
use Rattle.chi_check_types.specs.Names.{Names}
use Rattle.chi_check_types.specs.Typed.{after}
use Rattle.chi_check_laws.specs.Below.chi_check_stat_rules.specs.declared.home.Home.{Home}
use Rattle.chi_check_laws.specs.Below.chi_check_stat_rules.specs.declared.parts.Aim.{Aim}
use Rattle.chi_check_laws.specs.Below.chi_check_stat_rules.specs.Elements.{start_of}
use Rattle.chi_check_laws.specs.Below.chi_check_stat_rules.specs.Homes.{site_of, running_rule, writing_rule, local_rule}
use Rattle.chi_check_laws.specs.Below.chi_check_stat_rules.specs.Places.{expr_place, type_place}
use Rattle.chi_check_laws.specs.Below.chi_check_stat_rules.specs.Targets.{named_target}
use Rattle.chi_check_laws.specs.Below.chi_check_stat_rules.specs.Walks.{walk_of}
use Rattle.chi_check_laws.specs.Below.chi_check_stat_rules.specs.Writes.{ended, pieces_of, write_of}
use Rattle.chi_check_expr.specs.Typing.{reading}
use Rattle.chi_check_expr.proofs.Kept.{Each, IfGiven}
use Rattle.chi_check_laws.specs.Below.chi_check_stat_lines.specs.declared.state.Binder.{Binder}
use Rattle.chi_check_laws.specs.Below.chi_check_stat_lines.specs.declared.state.Binder.TheVariants as binder
use Rattle.chi_check_laws.specs.Below.chi_check_stat_lines.specs.declared.state.Opened.{Opened}
use Rattle.chi_check_laws.specs.Below.chi_check_stat_lines.specs.declared.state.State.{State}
use Rattle.chi_check_laws.specs.Below.chi_check_stat_lines.specs.Stated.{Stated, Turn, both, in_turn, one, held_by}
use Rattle.chi_check_laws.specs.Below.chi_check_stat_lines.specs.States.{next_slot, new_name_rule, with_variable, bindings}
use Rattle.chi_check_laws.specs.Below.chi_check_stat_lines.specs.Values.{made_of, made_if, all_of, all_faults, value_in, values_in, test_in, guard_in, instance_in, step_in, steps_in, target_in, assignment_place, assignment_in, goal_in}
use Rattle.chi_check_laws.specs.Below.chi_check_stat_lines.specs.Declarations.{walk_place, declaration, types_of, opened, initial_in, declared, declaration_in, walk_in}
use Rattle.chi_check_laws.specs.Below.chi_check_stat_lines.specs.Lines.{communication_place, receiver_in, placed, selected, parts_in, communication_in, communicating, element_in, write_in, return_in, exit_in, finish_in}
use Rattle.chi_check_laws.proofs.Layers.{statement_short, alternative_short}
use Rattle.chi_check_parsed.proofs.Tokens.{Fits, AllFit, fit_left, fit_right}
use Rattle.chi_check_laws.proofs.Turns.{each_append}
use Rattle.chi_check_parsed.proofs.Short.{on_map, on_then, on_if, barred_on, Short, Shorts, MadeShort, SizesShort, both_true, all_short, default_on}
use Rattle.chi_check_parsed.proofs.Trees.{postfix_spelled, expr_short, type_short}
use Rattle.chi_check_parsed.proofs.Lines.{any_given, AimShort, TargetShort, ShortIfAny, WrittenShort, CommunicationShort, StatementShort, OfferShort, MakeShort, WalkShort, initial_on, condition_on, finished_on, named_target_on, index_step_on, field_step_on, assigned_on, send_of_on, receive_of_on, delay_on, instance_target_on, start_on, element_on, return_on, exit_on, walk_on, write_on}

-- ---- several parts

-- all that is made of it
abbrev pub TurnShort : {S A : Type 0} → (A → Type 0) → Turn S A → Type 0
TurnShort {S} P f = (s : S) → IfGiven (Each P) (f s).made

pub both_on : {A B C : Type 0} (P : A → Type 0) (Q : B → Type 0) (R : C → Type 0) (f : A → B → C) (o : Option A) (p : Option B) → ((a : A) (b : B) → P a → Q b → R (f a b)) → IfGiven P o → IfGiven Q p → IfGiven R (both f o p)
both_on P Q R f None p h k l = tt
both_on P Q R f (Some a) None h k l = tt
both_on P Q R f (Some a) (Some b) h k l = h a b k l

pub one_of : {A : Type 0} (P : A → Type 0) (o : Option A) → IfGiven P o → IfGiven (Each P) (one o)
one_of P None h = tt
one_of P (Some a) h = (h, tt)

pub held_on : {S B : Type 0} (P : B → Type 0) (fs : List Fault) (t : Stated S B) → IfGiven P t.made → IfGiven P (held_by fs t).made
held_on P fs t h = on_if P (are_none fs) t.made h

pub turns_short : {S A : Type 0} (P : A → Type 0) (fs : List (Turn S A)) → Each (TurnShort P) fs → TurnShort P (in_turn fs)
turns_short P [] h s = tt
turns_short P (f ∷ fs) h s = both_on (Each P) (Each P) (Each P) (λ x y. x ++ y) (f s).made (in_turn fs (f s).next).made (λ xs ys k l. each_append P xs ys k l) (h.0 s) (turns_short P fs h.1 (f s).next)

-- what stands between each two fits, and so all of them after one each
pub after_each : (between : Token) → Fits between → (ts : List Tokens) → AllFit (separated between ts) → AllFit (each_after between ts)
after_each between own [] h = tt
after_each between own (t ∷ ts) h = (own, h)

abbrev pub OpenShort : Opened → Type 0
OpenShort o = Short o.container

module _ (home : Home) where
  -- ---- values

  pub value_short : (names : Names) (d : ℕ) (e : Expr) → FormedExpr level.Expr d e → AllFit (spelled_expr e) → IfGiven MadeShort (value_in home names e).made
  value_short names d e f = expr_short (site_of home) names level.Expr d e f

  after_values : (names : Names) (d : ℕ) (es : List Expr) → FormedExprs d es → AllFit (each_after (token.Sign sign.Comma) (map spelled_expr es)) → Each (IfGiven MadeShort) (map made_of (values_in home names es))
  after_values names _ _ expressions.no_exprs fit = tt
  after_values names _ _ (expressions.exprs {d = d} {e = e} {es = es} f fs) fit = (value_short names d e f (fit_left (spelled_expr e) _ fit.1), after_values names d es fs (fit_right (spelled_expr e) _ fit.1))

  pub values_short : (names : Names) (d : ℕ) (es : List Expr) → FormedExprs d es → AllFit (spelled_exprs es) → Each (IfGiven MadeShort) (map made_of (values_in home names es))
  values_short names d es f fit = after_values names d es f (after_each (token.Sign sign.Comma) tt (map spelled_expr es) fit)

  pub test_short : (names : Names) (d : ℕ) (e : Expr) → FormedExpr level.Expr d e → AllFit (spelled_expr e) → IfGiven Short (test_in home names e).made
  test_short names d e f fit = condition_on (expr_place e) (value_in home names e).made (value_short names d e f fit)

  pub any_value : (names : Names) (d : ℕ) (o : Option Expr) → FormedIfAny d o → AllFit (if_any (option_map spelled_expr o)) → IfGiven (IfGiven MadeShort) (made_if (option_map (value_in home names) o))
  any_value names _ _ expressions.left_out fit = tt
  any_value names _ _ (expressions.given {d = d} {e = e} f) fit = value_short names d e f fit

  -- ---- targets

  steps_short : (names : Names) (d : ℕ) (ps : List Postfix) → FormedSteps d ps → AllFit (all (map spelled_postfix ps)) → (place : Place) (a : Option Aim) → IfGiven AimShort a → IfGiven AimShort (steps_in home names place a ps).made
  steps_short names _ _ formed.no_steps fit place a h = h
  steps_short names _ _ (formed.index_step {d = d} {place = at} {e = e} {steps = ps} f fs) fit place a h =
      let own : AllFit (token.Sign sign.LeftBracket ∷ spelled_expr e ++ token.Sign sign.RightBracket ∷ []) = subst AllFit (postfix_spelled _ _ (postfix.outs-Index at e)) (fit_left (spelled_postfix (postfix.Index at e)) _ fit) in
      let first : IfGiven AimShort (step_in home names place a (Postfix-F.Index at e)).made = index_step_on place at a (value_in home names e).made h (value_short names d e f (fit_left (spelled_expr e) _ own.1)) in
      steps_short names _ ps fs (fit_right (spelled_postfix (postfix.Index at e)) _ fit) place (step_in home names place a (out-Postfix (postfix.Index at e))).made (subst (λ o. IfGiven AimShort (step_in home names place a o).made) (sym (postfix.outs-Index at e)) first)
  steps_short names _ _ (formed.field_step {d = d} {name = name} {steps = ps} fs) fit place a h =
      let first : IfGiven AimShort (step_in home names place a (Postfix-F.Field name)).made = field_step_on name a h in
      steps_short names d ps fs (fit_right (spelled_postfix (postfix.Field name)) _ fit) place (step_in home names place a (out-Postfix (postfix.Field name))).made (subst (λ o. IfGiven AimShort (step_in home names place a o).made) (sym (postfix.outs-Field name)) first)

  pub target_short : (names : Names) (d : ℕ) (t : Target) → FormedTarget d t → AllFit (spelled_target t) → IfGiven AimShort (target_in home names t).made
  target_short names d t f fit = steps_short names d t.steps f fit.1 t.name.place (named_target names t.name).made (named_target_on names t.name)

  pub after_targets : (names : Names) (d : ℕ) (ts : List Target) → FormedTargets d ts → AllFit (each_after (token.Sign sign.Comma) (map spelled_target ts)) → Each (IfGiven AimShort) (map made_of (map (target_in home names) ts))
  after_targets names _ _ (formed.one_target {d = d} {target = t} f) fit = (target_short names d t f (fit_left (spelled_target t) _ fit.1), tt)
  after_targets names _ _ (formed.targets {d = d} {target = t} {more = ts} f fs) fit = (target_short names d t f (fit_left (spelled_target t) _ fit.1), after_targets names d ts fs (fit_right (spelled_target t) _ fit.1))

  pub assignment_short : (names : Names) (d : ℕ) (ts : List Target) (equals : Place) (es : List Expr) → FormedTargets d ts → FormedExprs d es
      → AllFit (separated (token.Sign sign.Comma) (map spelled_target ts) ++ token.Sign sign.Assign ∷ spelled_exprs es) → IfGiven StatementShort (assignment_in home names ts equals es).made
  assignment_short names d ts equals es f g fit =
      let own = fit_left (separated (token.Sign sign.Comma) (map spelled_target ts)) (token.Sign sign.Assign ∷ spelled_exprs es) fit in
      let rest = fit_right (separated (token.Sign sign.Comma) (map spelled_target ts)) (token.Sign sign.Assign ∷ spelled_exprs es) fit in
      assigned_on (assignment_place ts equals).line equals (map made_of (map (target_in home names) ts)) (after_targets names d ts f (after_each (token.Sign sign.Comma) tt (map spelled_target ts) own)) (map made_of (values_in home names es)) (values_short names d es g rest.1)

  -- ---- declarations

  initial_short : (names : Names) (m : Option Meant) (d : ℕ) (v : Variable) → FormedVariable d v → IfGiven SizesShort m → AllFit (spelled_variable v) → IfGiven Short (initial_in home names m v.initial).made
  initial_short names m _ _ formed.bare h fit = on_then SizesShort Short (λ m. default_of m.ty m.sizes) m (λ m h. default_on m.ty m.sizes h) h
  initial_short names m _ _ (formed.with_value {d = d} {place = place} {e = e} f) h fit = initial_on place (value_in home names e).made (option_map (λ m. m.ty) m) (value_short names d e f fit.1.1)

  pub declared_short : (line : ℕ) (m : Option Meant) (d : ℕ) (v : Variable) → FormedVariable d v → IfGiven SizesShort m → AllFit (spelled_variable v) → TurnShort StatementShort (declared home line m v)
  declared_short line m d v f h fit s = held_on (Each StatementShort) (new_name_rule s.names v.name) (record { next = with_variable binder.Variable v.name (option_map (λ m. m.ty) m) s; faults = (initial_in home s.names m v.initial).faults; made = declaration line (next_slot s) (initial_in home s.names m v.initial).made })
      (on_map Short (Each StatementShort) (λ e. statement.Declare line (next_slot s) e ∷ []) (initial_in home s.names m v.initial).made
      (λ e k. (statement_short _ _ (statement.outs-Declare line (next_slot s) e) ∙ k, tt)) (initial_short s.names m d v f h fit))

  after_variables : (line : ℕ) (m : Option Meant) (d : ℕ) (vs : List Variable) → FormedVariables d vs → IfGiven SizesShort m → AllFit (each_after (token.Sign sign.Comma) (map spelled_variable vs)) → Each (TurnShort StatementShort) (map (declared home line m) vs)
  after_variables line m _ _ (formed.one_variable {d = d} {v = v} f) h fit = (declared_short line m d v f h (fit_left (spelled_variable v) _ fit.1), tt)
  after_variables line m _ _ (formed.variables {d = d} {v = v} {more = vs} f fs) h fit = (declared_short line m d v f h (fit_left (spelled_variable v) _ fit.1), after_variables line m d vs fs h (fit_right (spelled_variable v) _ fit.1))

  pub declaration_short : (d : ℕ) (t : TypeTree) (vs : List Variable) → FormedType d t → FormedVariables d vs → AllFit (spelled_type t ++ separated (token.Sign sign.Comma) (map spelled_variable vs)) → TurnShort StatementShort (declaration_in home t vs)
  declaration_short d t vs f g fit s =
      let m = (reading (site_of home) s.names t true).made in
      let sizes = type_short (site_of home) s.names d t f (fit_left (spelled_type t) _ fit) true in
      held_on (Each StatementShort) (local_rule home (type_place t) (option_map (λ m. m.ty) m)) (in_turn (map (declared home (type_place t).line m) vs) s)
      (turns_short StatementShort (map (declared home (type_place t).line m) vs) (after_variables (type_place t).line m d vs g sizes (after_each (token.Sign sign.Comma) tt (map spelled_variable vs) (fit_right (spelled_type t) _ fit))) s)

  -- ---- walks

  pub walk_short : (b : Binder) (d : ℕ) (w : Walk) → FormedWalk d w → AllFit (spelled_walk w) → (s : State) → IfGiven OpenShort (walk_in home b w s).made
  walk_short b _ _ (formed.walk {d = d} {name = name} {names = names} {e = e} f) fit s =
      let place = expr_place e in
      let rest = fit_right (spelled_names (name ∷ names)) (token.Word keyword.InWord ∷ spelled_expr e) fit in
      let over = (walk_of place (walk_place (name ∷ names) place) (length (name ∷ names)) (value_in home s.names e).made).made in
      let slots = (in_turn (bindings b (name ∷ names) (types_of over)) s).made in
      both_on Short (λ slots. Unit {0}) OpenShort opened (option_map (λ w. w.container) over) slots (λ c slots h k. h)
      (on_map WalkShort Short (λ w. w.container) over (λ w h. h) (walk_on place (walk_place (name ∷ names) place) (length (name ∷ names)) (value_in home s.names e).made (value_short s.names d e f rest.1))) (any_given slots)

  -- ---- communications

  communication_parts : (names : Names) (d : ℕ) (c : Communication) → FormedCommunication d c → AllFit (spelled_communication c) → IfGiven CommunicationShort (parts_in home names c).made
  communication_parts names _ _ (formed.send {d = d} {target = t} {place = place} {e = e} f g) fit =
      send_of_on place (target_in home names t).made (made_if (option_map (value_in home names) e)) (target_short names d t f (fit_left (spelled_target t) _ fit)) (any_value names d e g (fit_right (spelled_target t) _ fit).1)
  communication_parts names _ _ (formed.receive {d = d} {target = t} {place = place} {name = name} f) fit =
      receive_of_on place (target_in home names t).made (made_if (option_map (receiver_in place names) name)) (target_short names d t f (fit_left (spelled_target t) _ fit))
  communication_parts names _ _ (formed.delay {d = d} {place = place} {e = e} f) fit = delay_on place (value_in home names e).made (value_short names d e f fit.1)

  pub communication_short : (names : Names) (d : ℕ) (c : Communication) → FormedCommunication d c → AllFit (spelled_communication c) → IfGiven CommunicationShort (communication_in home names c).made
  communication_short names d c f fit = barred_on CommunicationShort (running_rule home (communication_place c)) (parts_in home names c) (communication_parts names d c f fit)

  selected_short : (line : ℕ) (c : CComm) → CommunicationShort c → StatementShort (selected line c)
  selected_short line c h =
      let own : OfferShort (alternative.Guarded None c []) = alternative_short _ _ (alternative.outs-Guarded None c []) ∙ both_true _ _ h refl in
      statement_short _ _ (statement.outs-Select line _) ∙ both_true _ _ own refl

  pub communicating_short : (names : Names) (d : ℕ) (c : Communication) → FormedCommunication d c → AllFit (spelled_communication c) → IfGiven StatementShort (communicating home names c).made
  communicating_short names d c f fit = on_map CommunicationShort StatementShort (selected (communication_place c).line) (communication_in home names c).made (λ x h. selected_short (communication_place c).line x h) (communication_short names d c f fit)

  -- ---- what is run and started

  -- where it goes, if it goes anywhere
  goal_short : (names : Names) (d : ℕ) (t : Target) → FormedTarget d t → AllFit (spelled_target t) → IfGiven TargetShort (goal_in home names t).made
  goal_short names d t f fit = instance_target_on t.name.place (target_in home names t).made (target_short names d t f fit)

  pub made_element : (names : Names) (d : ℕ) (name : Name) (es : List Expr) → FormedExprs d es → AllFit (token.Name name.text ∷ round (spelled_exprs es))
      → IfGiven MakeShort (element_in home names None name es).made
  made_element names d name es f fit = element_on None (start_of home names name (map made_of (values_in home names es))).made tt (start_on home names name (map made_of (values_in home names es)) (values_short names d es f (fit_left (spelled_exprs es) _ fit.1.1)))

  pub assigned_element : (names : Names) (d c : ℕ) (t : Target) (name : Name) (es : List Expr) → FormedTarget d t → FormedExprs c es
      → AllFit (assigned_tokens (Some t) ++ token.Name name.text ∷ round (spelled_exprs es)) → IfGiven MakeShort (element_in home names (Some t) name es).made
  assigned_element names d c t name es g f fit =
      let own = fit_left (spelled_target t) _ (fit_left (assigned_tokens (Some t)) _ fit) in
      let rest : AllFit (token.Name name.text ∷ round (spelled_exprs es)) = fit_right (assigned_tokens (Some t)) _ fit in
      element_on (Some (goal_in home names t).made) (start_of home names name (map made_of (values_in home names es))).made (goal_short names d t g own) (start_on home names name (map made_of (values_in home names es)) (values_short names c es f (fit_left (spelled_exprs es) _ rest.1.1)))

  -- ---- writes

  placed_short : (es : List Expr) (os : List (Option Made)) → Each (IfGiven MadeShort) os → Each WrittenShort (placed es os)
  placed_short [] os h = tt
  placed_short (e ∷ es) [] h = tt
  placed_short (e ∷ es) (o ∷ os) h = (h.0, placed_short es os h.1)

  pub write_short : (names : Names) (place : Place) (ends_line : Bool) (format : List ℕ) (at : Place) (d : ℕ) (es : List Expr) → FormedExprs d es → AllFit (each_after (token.Sign sign.Comma) (map spelled_expr es))
      → IfGiven StatementShort (write_in home names place ends_line format at es).made
  write_short names place ends_line format at d es f fit = barred_on StatementShort (writing_rule home place) (after (all_faults (values_in home names es)) (write_of place.line at (pieces_of (ended ends_line format)) (placed es (map made_of (values_in home names es)))))
      (write_on place.line at (pieces_of (ended ends_line format)) (placed es (map made_of (values_in home names es))) (placed_short es (map made_of (values_in home names es)) (after_values names d es f fit)))

  -- ---- endings

  pub return_short : (names : Names) (place : Place) (d : ℕ) (e : Expr) → FormedExpr level.Expr d e → AllFit (spelled_expr e) → IfGiven StatementShort (return_in home names place e).made
  return_short names place d e f fit = return_on home place (value_in home names e).made (value_short names d e f fit)

  pub exit_short : (names : Names) (place : Place) (d : ℕ) (o : Option Expr) → FormedIfAny d o → AllFit (if_any (option_map spelled_expr o)) → IfGiven StatementShort (exit_in home names place o).made
  exit_short names place d o f fit = exit_on home place (made_if (option_map (value_in home names) o)) (any_value names d o f fit)

  after_instances : (names : Names) (d : ℕ) (es : List Expr) → FormedExprs d es → AllFit (each_after (token.Sign sign.Comma) (map spelled_expr es)) → IfGiven Shorts (all_of (map (instance_in home names) es)).made
  after_instances names _ _ expressions.no_exprs fit = tt
  after_instances names _ _ (expressions.exprs {d = d} {e = e} {es = es} f fs) fit =
      both_on Short Shorts Shorts (λ x xs. x ∷ xs) (instance_in home names e).made (all_of (map (instance_in home names) es)).made (λ x xs h k. (h, k))
      (finished_on (expr_place e) (value_in home names e).made (value_short names d e f (fit_left (spelled_expr e) _ fit.1))) (after_instances names d es fs (fit_right (spelled_expr e) _ fit.1))

  pub finish_short : (names : Names) (place : Place) (d : ℕ) (es : List Expr) → FormedExprs d es → AllFit (spelled_exprs es) → IfGiven StatementShort (finish_in home names place es).made
  finish_short names place d es f fit = barred_on StatementShort (running_rule home place) (record { faults = (all_of (map (instance_in home names) es)).faults; made = option_map (statement.Finish place.line) (all_of (map (instance_in home names) es)).made })
      (on_map Shorts StatementShort (statement.Finish place.line) (all_of (map (instance_in home names) es)).made (λ es h. statement_short _ _ (statement.outs-Finish place.line es) ∙ all_short es h)
      (after_instances names d es f (after_each (token.Sign sign.Comma) tt (map spelled_expr es) fit)))

  -- ---- guards

  pub guard_short : (names : Names) (d : ℕ) (o : Option Expr) → FormedIfAny d o → AllFit (if_any (option_map spelled_expr o)) → IfGiven ShortIfAny (guard_in home names o).made
  guard_short names _ _ expressions.left_out fit = tt
  guard_short names _ _ (expressions.given {d = d} {e = e} f) fit = on_map Short ShortIfAny Some (test_in home names e).made (λ e h. h) (test_short names d e f fit)
