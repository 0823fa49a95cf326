-- What statements of one line set: declarations new slots, assignments and receives variables that are visible.
use Rattle.std.proofs.Common.{◌≡◌, ℕ, Bool, true, false, List, [], ◌∷◌, ◌++◌, map, length, Option, Some, None, refl, sym, ap, subst, ◌∙◌, append-nil}
use Rattle.std.specs.Prelude.{nat_eq, option_map, if◌then◌else◌}
use Rattle.chi_token.specs.declared.place.Place.{Place}
use Rattle.chi_tree.specs.declared.expr.Expr.{Expr}
use Rattle.chi_tree.specs.declared.statement.Communication.{Communication}
use Rattle.chi_tree.specs.declared.statement.Communication.TheVariants as communication
use Rattle.chi_tree.specs.declared.statement.Target.{Target}
use Rattle.chi_tree.specs.declared.statement.Variable.{Variable}
use Rattle.chi_tree.specs.declared.type_tree.Name.{Name}
use Rattle.chi_tree.specs.declared.type_tree.TypeTree.{TypeTree}
use Rattle.chi_types.specs.declared.ty.Ty.{Ty, Ty-F, out-Ty}
use Rattle.chi_types.specs.Same.{same}
use Rattle.chi_value.specs.declared.format.Piece.{Piece}
use Rattle.chi_core.specs.declared.communication.CComm.{CComm}
use Rattle.chi_core.specs.declared.communication.CComm.TheVariants as comm
use Rattle.chi_core.specs.declared.element.CElem.{CElem}
use Rattle.chi_core.specs.declared.expression.CExpr.{CExpr}
use Rattle.chi_core.specs.declared.statement.CStat.{CStat}
use Rattle.chi_core.specs.declared.statement.CStat.TheVariants as statement
use Rattle.chi_core.specs.declared.target.CTarget.{CTarget}
use Rattle.chi_core.specs.Fills.{filled, one_after_another, by_target, by_communication, by_element, by_statement}
use Rattle.chi_core.specs.Kinds.{is_void}
use Rattle.chi_check_types.specs.declared.meant.Made.{Made}
use Rattle.chi_check_types.specs.declared.meant.Meant.{Meant}
use Rattle.chi_check_types.specs.declared.rules.TheConstants.{ASSIGNED_VALUE, TARGET_COUNT, SENT_VALUE, RECEIVING_NAME, DELAY, ELEMENT_TARGET, RETURN, EXIT, FORMAT}
use Rattle.chi_check_types.specs.Names.{Names}
use Rattle.chi_check_types.specs.Predefined.{is_predefined}
use Rattle.chi_check_types.specs.Typed.{unless, untyped, refused}
use Rattle.chi_check_expr_rules.specs.Conversions.{converted, passed}
use Rattle.chi_check_expr_rules.specs.Nodes.{of_one, all_made}
use Rattle.chi_check_expr.specs.Typing.{reading}
use Rattle.chi_check_expr.proofs.Kept.{Each}
use Rattle.chi_check_expr.proofs.Nodes.{barred_made}
use Rattle.chi_types.specs.declared.ty.Ty.TheVariants as ty
use Rattle.chi_check_laws.proofs.Conversions.{some_is, mapped, chained, chosen, chosen_some}
use Rattle.chi_types.specs.Plain.{is_plain}
use Rattle.chi_check.specs.Below.chi_check_stat_rules.specs.declared.home.ExitType.TheVariants as exit
use Rattle.chi_check.specs.Below.chi_check_stat_rules.specs.declared.home.Home.{Home}
use Rattle.chi_check.specs.Below.chi_check_stat_rules.specs.declared.home.Home.TheVariants as home
use Rattle.chi_check.specs.Below.chi_check_stat_rules.specs.declared.parts.Aim.{Aim}
use Rattle.chi_check.specs.Below.chi_check_stat_rules.specs.declared.parts.Receiver.{Receiver}
use Rattle.chi_check.specs.Below.chi_check_stat_rules.specs.declared.parts.Started.{Started}
use Rattle.chi_check.specs.Below.chi_check_stat_rules.specs.Assignments.{all_aims, assign, stored, parts_fit, spread, spread_value, only_one, uneven, even}
use Rattle.chi_check.specs.Below.chi_check_stat_rules.specs.Channels.{sent_type, send_void, sending, send_value, send_on, send_of, received_type, receive_void, receiving, receive_value, receive_on, receive_of, delayed, delaying}
use Rattle.chi_check.specs.Below.chi_check_stat_rules.specs.Elements.{as_instance_target, make, element_made}
use Rattle.chi_check.specs.Below.chi_check_stat_rules.specs.Endings.{returning, return_of, exiting, exit_of, loop_rule}
use Rattle.chi_check.specs.Below.chi_check_stat_rules.specs.Homes.{site_of, running_rule, writing_rule, local_rule}
use Rattle.chi_check.specs.Below.chi_check_stat_rules.specs.Places.{type_place}
use Rattle.chi_check.specs.Below.chi_check_stat_rules.specs.Values.{is_inst, fitted}
use Rattle.chi_check.specs.Below.chi_check_stat_rules.specs.Writes.{ended, pieces_of, shown_count, Written, all_shown, written, write_of}
use Rattle.chi_check.specs.Below.chi_check_stat_lines.specs.declared.state.Binder.TheVariants as binder
use Rattle.chi_check.specs.Below.chi_check_stat_lines.specs.declared.state.State.{State}
use Rattle.chi_check.specs.Below.chi_check_stat_lines.specs.Stated.{in_turn, alone}
use Rattle.chi_check.specs.Below.chi_check_stat_lines.specs.States.{next_slot, new_name_rule}
use Rattle.chi_check.specs.Below.chi_check_stat_lines.specs.Values.{made_of, made_if, all_of, assignment_place, value_in, values_in, instance_in, target_in, goal_in, assignment_in}
use Rattle.chi_check.specs.Below.chi_check_stat_lines.specs.Declarations.{declaration, initial_in, declared, declaration_in}
use Rattle.chi_check.specs.Below.chi_check_stat_lines.specs.Lines.{placed, communication_place, selected, receiver_in, parts_in, communication_in, communicating, element_in, return_in, exit_in, finish_in, write_in}
use Rattle.chi_check_laws.proofs.Declarations.{no_initial}
use Rattle.chi_check_laws.proofs.Filled.{Visible, Old, Filled, Filling, in_turn_filling, alone_filling}
use Rattle.chi_check_laws.proofs.FilledNames.{new_filled, target_seen, receiver_seen}
use Rattle.chi_check_laws.proofs.Set.{declare_sets, assign_sets, pass_sets, break_sets, continue_sets, return_sets, exit_sets, write_sets, finish_sets, select_sets, guarded_sets, make_sets}
use Rattle.chi_check_laws.proofs.States.{variable_grows}
use Rattle.chi_check_laws.proofs.Turns.{held_made}
use Rattle.chi_check_laws.proofs.Values.{one_made, two_made}

-- a statement that sets nothing
nothing : (names : Names) (x : CStat) → by_statement x ≡ [] → Each (Old names) (by_statement x)
nothing names x is = subst (Each (Old names)) (sym is) tt

-- ---- endings

return_nothing : (h : Home) (place : Place) (o : Option Made) (x : CStat) → (return_of h place o).made ≡ Some x → by_statement x ≡ []
return_nothing (home.Function None) place o x e = absurd (cc)
return_nothing (home.Function (Some t)) place o x e =
    let f = one_made RETURN place (returning place.line t) o x e in
    let g = mapped (statement.Return place.line) (fitted f.0 t) x f.2 in
    ap by_statement (sym g.2) ∙ return_sets place.line g.0
return_nothing (home.Process own) place o x e = absurd (cc)
return_nothing home.Experiment place o x e = absurd (cc)

exit_nothing : (h : Home) (place : Place) (o : Option (Option Made)) (x : CStat) → (exit_of h place o).made ≡ Some x → by_statement x ≡ []
exit_nothing (home.Function t) place o x e = absurd (cc)
exit_nothing home.Experiment place o x e = absurd (cc)
exit_nothing (home.Process exit.Nothing) place None x e = ap by_statement (sym (some_is (statement.Exit place.line None) x e)) ∙ exit_sets place.line None
exit_nothing (home.Process exit.Nothing) place (Some m) x e = absurd (cc)
exit_nothing (home.Process exit.Untyped) place None x e = absurd (cc)
exit_nothing (home.Process exit.Untyped) place (Some None) x e = absurd (cc)
exit_nothing (home.Process exit.Untyped) place (Some (Some m)) x e = never (is_plain m.ty) e
  where
    never : (b : Bool) → (if b then untyped [] else refused EXIT place).made ≡ Some x → by_statement x ≡ []
    never true e = absurd (cc)
    never false e = absurd (cc)
exit_nothing (home.Process (exit.Given t)) place None x e = absurd (cc)
exit_nothing (home.Process (exit.Given t)) place (Some m) x e =
    let f = one_made EXIT place (exiting place.line t) m x e in
    let c = chosen_some (is_plain f.0.ty) (option_map (λ e. statement.Exit place.line (Some e)) (fitted f.0 t)) x f.2 in
    let g = mapped (λ e. statement.Exit place.line (Some e)) (fitted f.0 t) x c.1 in
    ap by_statement (sym g.2) ∙ exit_sets place.line (Some g.0)

break_nothing : (loop : Bool) (place : Place) (x : CStat) → (unless (loop_rule loop place) (statement.Break place.line)).made ≡ Some x → by_statement x ≡ []
break_nothing true place x e = ap by_statement (sym (some_is (statement.Break place.line) x e)) ∙ break_sets place.line
break_nothing false place x e = absurd (cc)

continue_nothing : (loop : Bool) (place : Place) (x : CStat) → (unless (loop_rule loop place) (statement.Continue place.line)).made ≡ Some x → by_statement x ≡ []
continue_nothing true place x e = ap by_statement (sym (some_is (statement.Continue place.line) x e)) ∙ continue_sets place.line
continue_nothing false place x e = absurd (cc)

write_nothing : (line : ℕ) (place : Place) (o : Option (List Piece)) (vs : List Written) (x : CStat) → (write_of line place o vs).made ≡ Some x → by_statement x ≡ []
write_nothing line place None vs x e = absurd (cc)
write_nothing line place (Some pieces) vs x e = by (nat_eq (shown_count pieces) (length vs)) e
  where
    by : (b : Bool) → (if b then written line pieces (all_shown pieces vs) else refused FORMAT place).made ≡ Some x → by_statement x ≡ []
    by true e = let m = mapped (statement.Write line pieces) (all_shown pieces vs).made x e in ap by_statement (sym m.2) ∙ write_sets line pieces m.0
    by false e = absurd (cc)

-- ---- assignments

-- what it assigns to
abbrev pub Assigns : List (Option Aim) → CStat → Type 0
Assigns os x = (aims : List Aim) × (line : ℕ) × (es : List CExpr) × (all_aims os ≡ Some aims) × (assign line aims es ≡ x)

module _ (line : ℕ) (equals : Place) (os : List (Option Aim)) where
  parts_assign : (b : Bool) (tuple : CExpr) (parts : List (List ℕ × Ty)) (x : CStat) → (if b then of_one ASSIGNED_VALUE equals (spread line tuple parts) (all_aims os) else refused TARGET_COUNT equals).made ≡ Some x → Assigns os x
  parts_assign true tuple parts x e =
      let f = one_made ASSIGNED_VALUE equals (spread line tuple parts) (all_aims os) x e in
      let c = chosen (parts_fit parts f.0) (assign line f.0 (tuple ∷ [])) x f.2 in
      (f.0, line, tuple ∷ [], f.1, c.1)
  parts_assign false tuple parts x e = absurd (cc)

  value_assigns : (tuple : CExpr) (layer : Ty-F Ty) (x : CStat) → (spread_value line equals os tuple layer).made ≡ Some x → Assigns os x
  value_assigns tuple (Ty-F.TupleOf parts) x e = parts_assign (nat_eq (length parts) (length os)) tuple parts x e
  value_assigns tuple _ x e = absurd (cc)

  uneven_assigns : (o : Option (Option Made)) (x : CStat) → (uneven line equals os o).made ≡ Some x → Assigns os x
  uneven_assigns None x e = absurd (cc)
  uneven_assigns (Some None) x e = absurd (cc)
  uneven_assigns (Some (Some m)) x e = value_assigns m.core (out-Ty m.ty) x e

  pub assigned_assigns : (b : Bool) (values : List (Option Made)) (x : CStat) → (if b then even line equals os values else uneven line equals os (only_one values)).made ≡ Some x → Assigns os x
  assigned_assigns true values x e =
      let f = two_made ASSIGNED_VALUE equals (stored line) (all_made values) (all_aims os) x e in
      let m = mapped (assign line f.1) (passed f.0 (map (λ a. a.ty) f.1)) x f.4 in
      (f.1, line, m.0, f.3, m.2)
  assigned_assigns false values x e = uneven_assigns (only_one values) x e

module _ (h : Home) (names : Names) where
  aims_old : (targets : List Target) (aims : List Aim) → all_aims (map made_of (map (target_in h names) targets)) ≡ Some aims → Each (Old names) (map by_target (map (λ a. a.target) aims))
  aims_old [] aims e = subst (λ aims. Each (Old names) (map by_target (map (λ (a : Aim). a.target) aims))) (some_is [] aims e) tt
  aims_old (t ∷ targets) aims e =
      let f = chained (λ first. option_map (λ rest. first ∷ rest) (all_aims (map made_of (map (target_in h names) targets)))) (target_in h names t).made aims e in
      let g = mapped (λ rest. f.0 ∷ rest) (all_aims (map made_of (map (target_in h names) targets))) aims f.2 in
      subst (λ aims. Each (Old names) (map by_target (map (λ (a : Aim). a.target) aims))) g.2 ((refl, target_seen names h t f.0 f.1), aims_old targets g.0 g.1)

  assign_old : (targets : List Target) (equals : Place) (values : List Expr) (x : CStat) → (assignment_in h names targets equals values).made ≡ Some x → Each (Old names) (by_statement x)
  assign_old targets equals values x e =
      let os = map made_of (map (target_in h names) targets) in
      let ms = map made_of (values_in h names values) in
      let a = assigned_assigns (assignment_place targets equals).line equals os (nat_eq (length ms) (length os)) ms x e in
      subst (λ x. Each (Old names) (by_statement x)) a.4 (subst (Each (Old names)) (sym (assign_sets a.1 (map (λ a. a.target) a.0) a.2)) (aims_old targets a.0 a.3))

  -- ---- communications

  send_none : (place : Place) (o : Option Aim) (value : Option (Option Made)) (c : CComm) → (send_of place o value).made ≡ Some c → by_communication c ≡ []
  send_none place None value c e = absurd (cc)
  send_none place (Some a) value c e = on (sent_type (out-Ty a.ty)) e
    where
      full : (b : Bool) (t : Ty) (value : Option (Option Made)) → (if b then send_void place a value else send_value place a t value).made ≡ Some c → by_communication c ≡ []
      full true t None e = ap by_communication (sym (some_is (comm.Send a.target None) c e))
      full true t (Some v) e = absurd (cc)
      full false t None e = absurd (cc)
      full false t (Some v) e =
          let f = one_made SENT_VALUE place (sending a t) v c e in
          let m = mapped (λ e. comm.Send a.target (Some e)) (fitted f.0 t) c f.2 in
          ap by_communication (sym m.2)

      on : (o : Option Ty) → (send_on place a o value).made ≡ Some c → by_communication c ≡ []
      on None e = absurd (cc)
      on (Some t) e = full (is_void (out-Ty t)) t value e

  delay_none : (m : Made) (layer : Ty-F Ty) (c : CComm) → delayed layer m ≡ Some c → by_communication c ≡ []
  delay_none m Ty-F.Int c e = ap by_communication (sym (some_is (comm.Delay (converted m ty.Real)) c e))
  delay_none m Ty-F.Real c e = ap by_communication (sym (some_is (comm.Delay m.core) c e))
  delay_none m Ty-F.Timer c e = ap by_communication (sym (some_is (comm.Timer m.core) c e))
  delay_none m _ c e = absurd (cc)

  receive_old : (place : Place) (o : Option Aim) (r : Option (Option Receiver)) (c : CComm) → ((x : Receiver) → r ≡ Some (Some x) → Visible names x.slot) → (receive_of place o r).made ≡ Some c → Each (Old names) (by_communication c)
  receive_old place None r c seen e = absurd (cc)
  receive_old place (Some a) r c seen e = on (received_type (out-Ty a.ty)) e
    where
      full : (b : Bool) (t : Ty) (r : Option (Option Receiver)) → ((x : Receiver) → r ≡ Some (Some x) → Visible names x.slot) → (if b then receive_void place a r else receive_value place a t r).made ≡ Some c → Each (Old names) (by_communication c)
      full true t None seen e = subst (λ c. Each (Old names) (by_communication c)) (some_is (comm.Receive a.target None) c e) tt
      full true t (Some r) seen e = absurd (cc)
      full false t None seen e = absurd (cc)
      full false t (Some r) seen e =
          let f = one_made RECEIVING_NAME place (receiving a t) r c e in
          let m = chosen (same f.0.ty t) (comm.Receive a.target (Some f.0.slot)) c f.2 in
          subst (λ c. Each (Old names) (by_communication c)) m.1 ((refl, seen f.0 (ap Some f.1)), tt)

      on : (o : Option Ty) → (receive_on place a o r).made ≡ Some c → Each (Old names) (by_communication c)
      on None e = absurd (cc)
      on (Some t) e = full (is_void (out-Ty t)) t r seen e

  given_seen : (place : Place) (o : Option Name) (r : Receiver) → made_if (option_map (receiver_in place names) o) ≡ Some (Some r) → Visible names r.slot
  given_seen place None r e = absurd (cc)
  given_seen place (Some name) r e = receiver_seen names (is_predefined name.text) place name r (some_is _ (Some r) e)

  parts_old : (c : Communication) (x : CComm) → (parts_in h names c).made ≡ Some x → Each (Old names) (by_communication x)
  parts_old (communication.Send target place value) x e = subst (Each (Old names)) (sym (send_none place (target_in h names target).made (made_if (option_map (value_in h names) value)) x e)) tt
  parts_old (communication.Receive target place name) x e = receive_old place (target_in h names target).made (made_if (option_map (receiver_in place names) name)) x (given_seen place name) e
  parts_old (communication.Delay place length) x e =
      let f = one_made DELAY place delaying (value_in h names length).made x e in
      subst (Each (Old names)) (sym (delay_none f.0 (out-Ty f.0.ty) x f.2)) tt

  pub communication_old : (c : Communication) (x : CComm) → (communication_in h names c).made ≡ Some x → Each (Old names) (by_communication x)
  communication_old c x e = parts_old c x (barred_made (running_rule h (communication_place c)) (parts_in h names c) x e).1

  communicating_old : (c : Communication) (x : CStat) → (communicating h names c).made ≡ Some x → Each (Old names) (by_statement x)
  communicating_old c x e =
      let m = mapped (selected (communication_place c).line) (communication_in h names c).made x e in
      let sets : by_statement (selected (communication_place c).line m.0) ≡ by_communication m.0 = select_sets _ _ ∙ append-nil _ ∙ guarded_sets None m.0 [] ∙ append-nil _ in
      subst (λ x. Each (Old names) (by_statement x)) m.2 (subst (Each (Old names)) (sym sets) (communication_old c m.0 m.1))

  -- ---- elements

  element_old : (t : Option (Option CTarget)) (s : Option Started) (x : CElem) → ((g : CTarget) → t ≡ Some (Some g) → Visible names g.slot) → element_made t s ≡ Some x → Each (Old names) (by_element x)
  element_old None s x seen e =
      let m = mapped (make None) s x e in
      subst (λ x. Each (Old names) (by_element x)) m.2 (subst (Each (Old names)) (sym (make_sets None m.0.process m.0.arguments)) tt)
  element_old (Some None) s x seen e = absurd (cc)
  element_old (Some (Some g)) s x seen e =
      let m = mapped (make (Some g)) s x e in
      subst (λ x. Each (Old names) (by_element x)) m.2 (subst (Each (Old names)) (sym (make_sets (Some g) m.0.process m.0.arguments)) ((refl, seen g refl), tt))

  goal_seen : (o : Option Target) (g : CTarget) → made_if (option_map (goal_in h names) o) ≡ Some (Some g) → Visible names g.slot
  goal_seen None g e = absurd (cc)
  goal_seen (Some target) g e =
      let f = one_made ELEMENT_TARGET target.name.place as_instance_target (target_in h names target).made g (some_is _ (Some g) e) in
      let c = chosen (is_inst (out-Ty f.0.ty)) f.0.target g f.2 in
      subst (λ (g : CTarget). Visible names g.slot) c.1 (target_seen names h target f.0 f.1)

-- ---- turns

module _ (h : Home) where
  pub assign_filling : (targets : List Target) (equals : Place) (values : List Expr) → Filling by_statement (λ s. alone s (assignment_in h s.names targets equals values))
  assign_filling targets equals values = alone_filling by_statement (λ names. assignment_in h names targets equals values) (λ names. assign_old h names targets equals values)

  pub communicate_filling : (c : Communication) → Filling by_statement (λ s. alone s (communicating h s.names c))
  communicate_filling c = alone_filling by_statement (λ names. communicating h names c) (λ names. communicating_old h names c)

  pub pass_filling : (place : Place) → Filling by_statement (λ s. alone s (unless [] (statement.Pass place.line)))
  pass_filling place = alone_filling by_statement (λ names. unless [] (statement.Pass place.line)) (λ names x e. nothing names x (ap by_statement (sym (some_is (statement.Pass place.line) x e)) ∙ pass_sets place.line))

  pub break_filling : (loop : Bool) (place : Place) → Filling by_statement (λ s. alone s (unless (loop_rule loop place) (statement.Break place.line)))
  break_filling loop place = alone_filling by_statement (λ names. unless (loop_rule loop place) (statement.Break place.line)) (λ names x e. nothing names x (break_nothing loop place x e))

  pub continue_filling : (loop : Bool) (place : Place) → Filling by_statement (λ s. alone s (unless (loop_rule loop place) (statement.Continue place.line)))
  continue_filling loop place = alone_filling by_statement (λ names. unless (loop_rule loop place) (statement.Continue place.line)) (λ names x e. nothing names x (continue_nothing loop place x e))

  pub return_filling : (place : Place) (value : Expr) → Filling by_statement (λ s. alone s (return_in h s.names place value))
  return_filling place value = alone_filling by_statement (λ names. return_in h names place value) (λ names x e. nothing names x (return_nothing h place (value_in h names value).made x e))

  pub exit_filling : (place : Place) (value : Option Expr) → Filling by_statement (λ s. alone s (exit_in h s.names place value))
  exit_filling place value = alone_filling by_statement (λ names. exit_in h names place value) (λ names x e. nothing names x (exit_nothing h place (made_if (option_map (value_in h names) value)) x e))

  pub finish_filling : (place : Place) (instances : List Expr) → Filling by_statement (λ s. alone s (finish_in h s.names place instances))
  finish_filling place instances = alone_filling by_statement (λ names. finish_in h names place instances) (λ names x e.
      let b = barred_made (running_rule h place) _ x e in
      let m = mapped (statement.Finish place.line) (all_of (map (instance_in h names) instances)).made x b.1 in
      nothing names x (ap by_statement (sym m.2) ∙ finish_sets place.line m.0))

  pub write_filling : (place : Place) (ends_line : Bool) (format : List ℕ) (format_place : Place) (values : List Expr) → Filling by_statement (λ s. alone s (write_in h s.names place ends_line format format_place values))
  write_filling place ends_line format format_place values = alone_filling by_statement (λ names. write_in h names place ends_line format format_place values) (λ names x e.
      let b = barred_made (writing_rule h place) _ x e in
      nothing names x (write_nothing place.line format_place (pieces_of (ended ends_line format)) (placed values (map made_of (values_in h names values))) x b.1))

  pub make_filling : (target : Option Target) (name : Name) (arguments : List Expr) → Filling by_element (λ s. alone s (element_in h s.names target name arguments))
  make_filling target name arguments = alone_filling by_element (λ names. element_in h names target name arguments) (λ names x e. element_old h names (made_if (option_map (goal_in h names) target)) _ x (goal_seen h names target) e)

  -- ---- declarations

  declared_by : (line : ℕ) (meant : Option Meant) (v : Variable) (s : State) (xs : List CStat) → (declared h line meant v s).made ≡ Some xs → Filled s (declared h line meant v s).next (one_after_another (map by_statement xs))
  declared_by line None v s xs e =
      let b = held_made (new_name_rule s.names v.name) (declaration line (next_slot s) (initial_in h s.names None v.initial).made) xs e in
      let m = mapped (λ e. statement.Declare line (next_slot s) e ∷ []) (initial_in h s.names None v.initial).made xs b.1 in
      absurd (no_initial h s.names v.initial m.0 m.1)
  declared_by line (Some meant) v s xs e =
      let next = (declared h line (Some meant) v s).next in
      let b = held_made (new_name_rule s.names v.name) (declaration line (next_slot s) (initial_in h s.names (Some meant) v.initial).made) xs e in
      let m = mapped (λ e. statement.Declare line (next_slot s) e ∷ []) (initial_in h s.names (Some meant) v.initial).made xs b.1 in
      let sets : by_statement (statement.Declare line (next_slot s) m.0) ++ [] ≡ filled (next_slot s) ∷ [] = append-nil _ ∙ declare_sets line (next_slot s) m.0 in
      subst (λ xs. Filled s next (one_after_another (map by_statement xs))) m.2 (subst (Filled s next) (sym sets) (new_filled binder.Variable v.name meant.ty s))

  all_declaring : (line : ℕ) (meant : Option Meant) (vs : List Variable) → Each (Filling by_statement) (map (declared h line meant) vs)
  all_declaring line meant [] = tt
  all_declaring line meant (v ∷ vs) = (record { grows = variable_grows binder.Variable v.name (option_map (λ m. m.ty) meant); fills = λ s xs low e. declared_by line meant v s xs e }, all_declaring line meant vs)

  pub declare_filling : (tree : TypeTree) (variables : List Variable) → Filling by_statement (declaration_in h tree variables)
  declare_filling tree variables = record {
    grows = λ s. (in_turn_filling by_statement _ (all_declaring (type_place tree).line (reading (site_of h) s.names tree true).made variables)).grows s;
    fills = λ s xs low e.
        let meant = (reading (site_of h) s.names tree true).made in
        let place = type_place tree in
        let b = held_made (local_rule h place (option_map (λ m. m.ty) meant)) (in_turn (map (declared h place.line meant) variables) s).made xs e in
        (in_turn_filling by_statement _ (all_declaring place.line meant variables)).fills s xs low b.1;
  }
