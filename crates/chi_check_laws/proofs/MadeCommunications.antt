-- Private to proofs. Communications, and what is run and started, come to something where no rule is broken.
use Rattle.std.proofs.Common.{ℕ, ◌≡◌, Bool, true, false, nat_eq, length, List, ◌++◌, map, Option, Some, None, refl}
use Rattle.std.specs.Prelude.{option_map}
use Rattle.chi_token.specs.declared.place.Place.{Place}
use Rattle.chi_tree.specs.declared.expr.Expr.{Expr}
use Rattle.chi_tree.specs.declared.statement.Communication.{Communication}
use Rattle.chi_tree.specs.declared.statement.Communication.TheVariants as communication
use Rattle.chi_tree.specs.declared.statement.Target.{Target}
use Rattle.chi_tree.specs.declared.type_tree.Name.{Name}
use Rattle.chi_types.specs.declared.ty.Ty.{Ty, out-Ty}
use Rattle.chi_core.specs.declared.target.CTarget.{CTarget}
use Rattle.chi_core.specs.Kinds.{is_void}
use Rattle.chi_check_types.specs.declared.known.Known.{Known}
use Rattle.chi_check_types.specs.declared.known.Known.TheVariants as known
use Rattle.chi_check_types.specs.declared.meant.Made.{Made}
use Rattle.chi_check_types.specs.declared.rules.TheConstants.{SEND, RECEIVE, SENT_VALUE, RECEIVING_NAME, DELAY, NAME_KIND, VISIBLE_NAME, ELEMENT_ARGUMENTS, ELEMENT_TARGET}
use Rattle.chi_check_types.specs.Names.{Names, known_in}
use Rattle.chi_check_types.specs.Predefined.{is_predefined}
use Rattle.chi_check_types.specs.Typed.{refused}
use Rattle.chi_check_expr_rules.specs.Nodes.{of_all, all_made}
use Rattle.chi_check_expr.proofs.Nodes.{left_nil, right_nil, cons_nil}
use Rattle.chi_check.specs.Below.chi_check_stat_rules.specs.declared.home.Home.{Home}
use Rattle.chi_check.specs.Below.chi_check_stat_rules.specs.declared.parts.Aim.{Aim}
use Rattle.chi_check.specs.Below.chi_check_stat_rules.specs.declared.parts.Receiver.{Receiver}
use Rattle.chi_check.specs.Below.chi_check_stat_rules.specs.declared.parts.Started.{Started}
use Rattle.chi_check.specs.Below.chi_check_stat_rules.specs.Channels.{sent_type, send_void, sending, send_value, send_on, send_of, received_type, visible_receiver, receive_void, receiving, receive_value, receive_on, receive_of, delaying, delay_of}
use Rattle.chi_check.specs.Below.chi_check_stat_rules.specs.Elements.{as_instance_target, instance_target, exit_rule, started, process_start, visible_start, start_of, make, element_made}
use Rattle.chi_check.specs.Below.chi_check_stat_rules.specs.Homes.{running_rule}
use Rattle.chi_check.specs.Below.chi_check_stat_lines.specs.Values.{made_of, all_faults, faults_if, made_if, value_in, values_in, target_in, goal_in}
use Rattle.chi_check.specs.Below.chi_check_stat_lines.specs.Lines.{communication_place, receiver_in, parts_in, communication_in, communicating, selected, element_in}
use Rattle.chi_check_laws.proofs.Entries.{Entries, known_entry}
use Rattle.chi_check_laws.proofs.Shaped.{Fine}
use Rattle.chi_check_laws.proofs.MadeValues.{GivenComes, if_given, all_made_comes, value_whole, values_come, target_whole}
use Rattle.chi_check_laws.proofs.WholeHeaders.{Comes, WholeTyped, EachComes, refused_whole, settled_whole, barred_whole, cond_whole, of_one_whole, then_whole, mapped_comes}

-- ---- sends

send_void_whole : (place : Place) (a : Aim) (value : Option (Option Made)) → WholeTyped (send_void place a value)
send_void_whole place a None e = tt
send_void_whole place a (Some value) e = refused_whole SENT_VALUE place e

send_value_whole : (place : Place) (a : Aim) (t : Ty) (value : Option (Option Made)) → GivenComes value → WholeTyped (send_value place a t value)
send_value_whole place a t None g = refused_whole SENT_VALUE place
send_value_whole place a t (Some value) g = of_one_whole SENT_VALUE place (sending a t) value g

send_on_whole : (place : Place) (a : Aim) (t : Option Ty) (value : Option (Option Made)) → GivenComes value → WholeTyped (send_on place a t value)
send_on_whole place a None value g = refused_whole SEND place
send_on_whole place a (Some t) value g = cond_whole (is_void (out-Ty t)) (send_void place a value) (send_value place a t value) (send_void_whole place a value) (send_value_whole place a t value g)

send_whole : (place : Place) (to : Option Aim) (value : Option (Option Made)) → Comes to → GivenComes value → WholeTyped (send_of place to value)
send_whole place None value c g = absurd c
send_whole place (Some a) value c g = send_on_whole place a (sent_type (out-Ty a.ty)) value g

-- ---- receives

known_receiver : (place name : Place) (k : Known) → Fine k → WholeTyped (visible_receiver place name (Some k))
known_receiver place name (known.Var slot t) h = λ e. tt
known_receiver place name (known.Untyped k) h = absurd h
known_receiver place name (known.Fixed slot t) h = refused_whole RECEIVING_NAME place
known_receiver place name (known.Const number t) h = refused_whole RECEIVING_NAME place
known_receiver place name (known.Kind t) h = refused_whole RECEIVING_NAME place
known_receiver place name (known.Value enumeration position) h = refused_whole RECEIVING_NAME place
known_receiver place name (known.Func number params result) h = refused_whole RECEIVING_NAME place
known_receiver place name (known.Proc number params exit) h = refused_whole RECEIVING_NAME place
known_receiver place name (known.Model number params exit) h = refused_whole RECEIVING_NAME place
known_receiver place name (known.Xper number) h = refused_whole RECEIVING_NAME place

visible_receiver_whole : (place name : Place) (o : Option Known) → ((k : Known) → o ≡ Some k → Fine k) → WholeTyped (visible_receiver place name o)
visible_receiver_whole place name None h = λ e. absurd (cons_nil _ _ e)
visible_receiver_whole place name (Some k) h = known_receiver place name k (h k refl)

receive_void_whole : (place : Place) (a : Aim) (r : Option (Option Receiver)) → WholeTyped (receive_void place a r)
receive_void_whole place a None e = tt
receive_void_whole place a (Some r) e = refused_whole RECEIVING_NAME place e

receive_value_whole : (place : Place) (a : Aim) (t : Ty) (r : Option (Option Receiver)) → GivenComes r → WholeTyped (receive_value place a t r)
receive_value_whole place a t None g = refused_whole RECEIVING_NAME place
receive_value_whole place a t (Some r) g = of_one_whole RECEIVING_NAME place (receiving a t) r g

receive_on_whole : (place : Place) (a : Aim) (t : Option Ty) (r : Option (Option Receiver)) → GivenComes r → WholeTyped (receive_on place a t r)
receive_on_whole place a None r g = refused_whole RECEIVE place
receive_on_whole place a (Some t) r g = cond_whole (is_void (out-Ty t)) (receive_void place a r) (receive_value place a t r) (receive_void_whole place a r) (receive_value_whole place a t r g)

receive_whole : (place : Place) (from : Option Aim) (r : Option (Option Receiver)) → Comes from → GivenComes r → WholeTyped (receive_of place from r)
receive_whole place None r c g = absurd c
receive_whole place (Some a) r c g = receive_on_whole place a (received_type (out-Ty a.ty)) r g

-- ---- starts

pub of_all_whole : {B : Type 0} (rule : ℕ) (place : Place) (right : Bool) (f : List Made → Option B) (o : Option (List Made)) → Comes o → WholeTyped (of_all rule place right f o)
of_all_whole rule place false f o c = refused_whole rule place
of_all_whole rule place true f None c = absurd c
of_all_whole rule place true f (Some ms) c = settled_whole rule place (f ms)

known_start : (home : Home) (place : Place) (k : Known) (arguments : List (Option Made)) → Fine k → EachComes arguments → WholeTyped (visible_start home place (Some k) arguments)
known_start home place (known.Proc number params exit) arguments h c =
    barred_whole (exit_rule home place exit) (process_start place number params arguments)
    (of_all_whole ELEMENT_ARGUMENTS place (nat_eq (length arguments) (length params)) (started number params) (all_made arguments) (all_made_comes arguments c))
known_start home place (known.Untyped k) arguments h c = absurd h
known_start home place (known.Var slot t) arguments h c = refused_whole NAME_KIND place
known_start home place (known.Fixed slot t) arguments h c = refused_whole NAME_KIND place
known_start home place (known.Const number t) arguments h c = refused_whole NAME_KIND place
known_start home place (known.Kind t) arguments h c = refused_whole NAME_KIND place
known_start home place (known.Value enumeration position) arguments h c = refused_whole NAME_KIND place
known_start home place (known.Func number params result) arguments h c = refused_whole NAME_KIND place
known_start home place (known.Model number params exit) arguments h c = refused_whole NAME_KIND place
known_start home place (known.Xper number) arguments h c = refused_whole NAME_KIND place

visible_start_whole : (home : Home) (place : Place) (o : Option Known) (arguments : List (Option Made)) → ((k : Known) → o ≡ Some k → Fine k) → EachComes arguments → WholeTyped (visible_start home place o arguments)
visible_start_whole home place None arguments h c = refused_whole VISIBLE_NAME place
visible_start_whole home place (Some k) arguments h c = known_start home place k arguments (h k refl) c

element_comes : (to : Option (Option CTarget)) (s : Option Started) → GivenComes to → Comes s → Comes (element_made to s)
element_comes None s g c = mapped_comes (make None) s c
element_comes (Some None) s g c = absurd g
element_comes (Some (Some t)) s g c = mapped_comes (make (Some t)) s c

module _ (home : Home) (names : Names) (fine : Entries Fine names) where
  receiver_whole : (place : Place) (name : Name) → WholeTyped (receiver_in place names name)
  receiver_whole place name =
      cond_whole (is_predefined name.text) (refused RECEIVING_NAME place) (visible_receiver place name.place (known_in names name.text)) (refused_whole RECEIVING_NAME place)
      (visible_receiver_whole place name.place (known_in names name.text) (λ k found. known_entry Fine names name.text k fine found))

  parts_whole : (c : Communication) → WholeTyped (parts_in home names c)
  parts_whole (communication.Send target place value) e =
      let to = target_in home names target in
      let v = option_map (value_in home names) value in
      let parts = left_nil (to.faults ++ faults_if v) _ e in
      send_whole place to.made (made_if v) (target_whole home names fine target (left_nil to.faults _ parts)) (if_given (value_in home names) (value_whole home names fine) value (right_nil to.faults _ parts)) (right_nil (to.faults ++ faults_if v) _ e)
  parts_whole (communication.Receive target place name) e =
      let from = target_in home names target in
      let r = option_map (receiver_in place names) name in
      let parts = left_nil (from.faults ++ faults_if r) _ e in
      receive_whole place from.made (made_if r) (target_whole home names fine target (left_nil from.faults _ parts)) (if_given (receiver_in place names) (receiver_whole place) name (right_nil from.faults _ parts)) (right_nil (from.faults ++ faults_if r) _ e)
  parts_whole (communication.Delay place length) e =
      then_whole (value_in home names length).faults (value_in home names length).made (delay_of place) (value_whole home names fine length) (λ m. of_one_whole DELAY place delaying (Some m) tt) e

  pub communication_whole : (c : Communication) → WholeTyped (communication_in home names c)
  communication_whole c = barred_whole (running_rule home (communication_place c)) (parts_in home names c) (parts_whole c)

  pub communicating_whole : (c : Communication) → WholeTyped (communicating home names c)
  communicating_whole c e = mapped_comes (selected (communication_place c).line) (communication_in home names c).made (communication_whole c e)

  -- ---- what is run and started

  goal_whole : (t : Target) → WholeTyped (goal_in home names t)
  goal_whole t = then_whole (target_in home names t).faults (target_in home names t).made (instance_target t.name.place) (target_whole home names fine t) (λ a. of_one_whole ELEMENT_TARGET t.name.place as_instance_target (Some a) tt)

  pub element_whole : (target : Option Target) (name : Name) (arguments : List Expr) → WholeTyped (element_in home names target name arguments)
  element_whole target name arguments e =
      let to = option_map (goal_in home names) target in
      let given = values_in home names arguments in
      let s = start_of home names name (map made_of given) in
      let first = left_nil (faults_if to ++ all_faults given) s.faults e in
      let there = values_come home names fine arguments (right_nil (faults_if to) (all_faults given) first) in
      let start : WholeTyped s = cond_whole (is_predefined name.text) (refused NAME_KIND name.place) (visible_start home name.place (known_in names name.text) (map made_of given)) (refused_whole NAME_KIND name.place)
      (visible_start_whole home name.place (known_in names name.text) (map made_of given) (λ k found. known_entry Fine names name.text k fine found) there) in
      element_comes (made_if to) s.made (if_given (goal_in home names) goal_whole target (left_nil (faults_if to) (all_faults given) first)) (start (right_nil (faults_if to ++ all_faults given) s.faults e))
