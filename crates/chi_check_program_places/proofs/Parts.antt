-- What the parts of statements come to is the same without places: targets, communications, what is started, values and walks.
use Rattle.std.proofs.Common.{◌≡◌, ℕ, List, length, Option, Some, None, refl}
use Rattle.std.specs.Prelude.{nat_eq, not}
use Rattle.chi_token.specs.declared.place.Place.{Place}
use Rattle.chi_tree.specs.declared.type_tree.Name.{Name}
use Rattle.chi_tree.specs.View.{nowhere}
use Rattle.chi_tree_laws.specs.Unplaced.{unplaced_name}
use Rattle.chi_types.specs.declared.ty.Ty.{Ty, out-Ty}
use Rattle.chi_types.specs.Plain.{is_plain}
use Rattle.chi_core.specs.Kinds.{is_void}
use Rattle.chi_core.specs.declared.expression.CExpr.{CExpr}
use Rattle.chi_check_types.specs.declared.known.Known.{Known}
use Rattle.chi_check_types.specs.declared.known.Known.TheVariants as known
use Rattle.chi_check_types.specs.declared.known.NameKind.{NameKind}
use Rattle.chi_check_types.specs.declared.known.NameKind.TheVariants as kind
use Rattle.chi_check_types.specs.declared.meant.Made.{Made}
use Rattle.chi_check_types.specs.declared.rules.TheConstants.{INDEX, FIELD, SENT_VALUE, RECEIVING_NAME, DELAY, ELEMENT_ARGUMENTS, ELEMENT_TARGET, STARTED_EXIT, INITIAL_VALUE, CONDITION, FINISH, WALK_NAMES, CHANNEL_IN_FUNCTION, IN_EXPERIMENT}
use Rattle.chi_check_types.specs.Names.{Names, known_in}
use Rattle.chi_check_types.specs.Predefined.{is_predefined}
use Rattle.chi_check_expr_rules.specs.Nodes.{all_made}
use Rattle.chi_check.specs.Below.chi_check_stat_rules.specs.declared.home.Home.{Home}
use Rattle.chi_check.specs.Below.chi_check_stat_rules.specs.declared.home.Home.TheVariants as home
use Rattle.chi_check.specs.Below.chi_check_stat_rules.specs.declared.parts.Aim.{Aim}
use Rattle.chi_check.specs.Below.chi_check_stat_rules.specs.declared.parts.Receiver.{Receiver}
use Rattle.chi_check.specs.Below.chi_check_stat_rules.specs.Channels.{sent_type, send_void, sending, send_value, send_on, send_of, received_type, untyped_receiver, visible_receiver, named_receiver, receive_void, receiving, receive_value, receive_on, receive_of, delaying, delay_of}
use Rattle.chi_check.specs.Below.chi_check_stat_rules.specs.Elements.{as_instance_target, instance_target, is_other_exit, exit_in, exit_rule, started, process_start, untyped_start, visible_start, start_of}
use Rattle.chi_check.specs.Below.chi_check_stat_rules.specs.Homes.{running_rule, writing_rule, has_channel, local_in_rule, local_rule}
use Rattle.chi_check.specs.Below.chi_check_stat_rules.specs.Targets.{untyped_target, visible_target, named_target, is_text, indexed, index_step, field_of, field_step}
use Rattle.chi_check.specs.Below.chi_check_stat_rules.specs.Values.{fitted, initial_value, lives, constant_rule, constant_value, as_bool, condition, as_instance, finished_one}
use Rattle.chi_check.specs.Below.chi_check_stat_rules.specs.Walks.{element_type, walked_by, walk_over, walk_of}
use Rattle.chi_check_places.specs.UnplacedTyped.{unplaced_faults, unplaced_typed}
use Rattle.chi_check_places.proofs.Faults.{broken-unplaced, tested, barred-both, settled-unplaced, all-unplaced, one-unplaced, two-unplaced}

-- ---- homes

pub running-unplaced : (h : Home) (place : Place) → running_rule h nowhere ≡ unplaced_faults (running_rule h place)
running-unplaced (home.Function result) place = refl
running-unplaced (home.Process own) place = refl
running-unplaced home.Experiment place = refl

pub writing-unplaced : (h : Home) (place : Place) → writing_rule h nowhere ≡ unplaced_faults (writing_rule h place)
writing-unplaced (home.Function result) place = refl
writing-unplaced (home.Process own) place = refl
writing-unplaced home.Experiment place = refl

local-in-unplaced : (h : Home) (place : Place) (t : Ty) → local_in_rule h nowhere t ≡ unplaced_faults (local_in_rule h place t)
local-in-unplaced (home.Function result) place t = broken-unplaced (has_channel t) CHANNEL_IN_FUNCTION place
local-in-unplaced (home.Process own) place t = refl
local-in-unplaced home.Experiment place t = broken-unplaced (not (is_plain t)) IN_EXPERIMENT place

pub local-unplaced : (h : Home) (place : Place) (t : Option Ty) → local_rule h nowhere t ≡ unplaced_faults (local_rule h place t)
local-unplaced h place None = refl
local-unplaced h place (Some t) = local-in-unplaced h place t

-- ---- targets

untyped-target-unplaced : (place : Place) (k : NameKind) → untyped_target nowhere k ≡ unplaced_typed (untyped_target place k)
untyped-target-unplaced place kind.Variable = refl
untyped-target-unplaced place _ = refl

visible-target-unplaced : (place : Place) (k : Option Known) → visible_target nowhere k ≡ unplaced_typed (visible_target place k)
visible-target-unplaced place None = refl
visible-target-unplaced place (Some (known.Untyped k)) = untyped-target-unplaced place k
visible-target-unplaced place (Some _) = refl

pub named-target-unplaced : (names : Names) (name : Name) → named_target names (unplaced_name name) ≡ unplaced_typed (named_target names name)
named-target-unplaced names name = tested unplaced_typed (is_predefined name.text) refl (visible-target-unplaced name.place (known_in names name.text))

pub index-step-unplaced : (name place : Place) (a : Option Aim) (i : Option Made) → index_step nowhere nowhere a i ≡ unplaced_typed (index_step name place a i)
index-step-unplaced name place None i = refl
index-step-unplaced name place (Some a) i = tested unplaced_typed (is_text (out-Ty a.ty)) refl (one-unplaced INDEX place (indexed (out-Ty a.ty) a) i)

pub field-step-unplaced : (name : Name) (a : Option Aim) → field_step (unplaced_name name) a ≡ unplaced_typed (field_step name a)
field-step-unplaced name a = one-unplaced FIELD name.place (field_of name.text) a

-- ---- sends

send-void-unplaced : (place : Place) (a : Aim) (value : Option (Option Made)) → send_void nowhere a value ≡ unplaced_typed (send_void place a value)
send-void-unplaced place a None = refl
send-void-unplaced place a (Some m) = refl

send-value-unplaced : (place : Place) (a : Aim) (t : Ty) (value : Option (Option Made)) → send_value nowhere a t value ≡ unplaced_typed (send_value place a t value)
send-value-unplaced place a t None = refl
send-value-unplaced place a t (Some m) = one-unplaced SENT_VALUE place (sending a t) m

send-on-unplaced : (place : Place) (a : Aim) (t : Option Ty) (value : Option (Option Made)) → send_on nowhere a t value ≡ unplaced_typed (send_on place a t value)
send-on-unplaced place a None value = refl
send-on-unplaced place a (Some t) value = tested unplaced_typed (is_void (out-Ty t)) (send-void-unplaced place a value) (send-value-unplaced place a t value)

pub send-unplaced : (place : Place) (a : Option Aim) (value : Option (Option Made)) → send_of nowhere a value ≡ unplaced_typed (send_of place a value)
send-unplaced place None value = refl
send-unplaced place (Some a) value = send-on-unplaced place a (sent_type (out-Ty a.ty)) value

-- ---- receives

untyped-receiver-unplaced : (place : Place) (k : NameKind) → untyped_receiver nowhere k ≡ unplaced_typed (untyped_receiver place k)
untyped-receiver-unplaced place kind.Variable = refl
untyped-receiver-unplaced place _ = refl

visible-receiver-unplaced : (place name : Place) (k : Option Known) → visible_receiver nowhere nowhere k ≡ unplaced_typed (visible_receiver place name k)
visible-receiver-unplaced place name None = refl
visible-receiver-unplaced place name (Some (known.Untyped k)) = untyped-receiver-unplaced place k
visible-receiver-unplaced place name (Some _) = refl

pub receiver-unplaced : (place : Place) (names : Names) (name : Name) → named_receiver nowhere names (unplaced_name name) ≡ unplaced_typed (named_receiver place names name)
receiver-unplaced place names name = tested unplaced_typed (is_predefined name.text) refl (visible-receiver-unplaced place name.place (known_in names name.text))

receive-void-unplaced : (place : Place) (a : Aim) (r : Option (Option Receiver)) → receive_void nowhere a r ≡ unplaced_typed (receive_void place a r)
receive-void-unplaced place a None = refl
receive-void-unplaced place a (Some r) = refl

receive-value-unplaced : (place : Place) (a : Aim) (t : Ty) (r : Option (Option Receiver)) → receive_value nowhere a t r ≡ unplaced_typed (receive_value place a t r)
receive-value-unplaced place a t None = refl
receive-value-unplaced place a t (Some r) = one-unplaced RECEIVING_NAME place (receiving a t) r

receive-on-unplaced : (place : Place) (a : Aim) (t : Option Ty) (r : Option (Option Receiver)) → receive_on nowhere a t r ≡ unplaced_typed (receive_on place a t r)
receive-on-unplaced place a None r = refl
receive-on-unplaced place a (Some t) r = tested unplaced_typed (is_void (out-Ty t)) (receive-void-unplaced place a r) (receive-value-unplaced place a t r)

pub receive-unplaced : (place : Place) (a : Option Aim) (r : Option (Option Receiver)) → receive_of nowhere a r ≡ unplaced_typed (receive_of place a r)
receive-unplaced place None r = refl
receive-unplaced place (Some a) r = receive-on-unplaced place a (received_type (out-Ty a.ty)) r

pub delay-unplaced : (place : Place) (m : Option Made) → delay_of nowhere m ≡ unplaced_typed (delay_of place m)
delay-unplaced place m = one-unplaced DELAY place delaying m

-- ---- what is run and started

pub instance-target-unplaced : (place : Place) (a : Option Aim) → instance_target nowhere a ≡ unplaced_typed (instance_target place a)
instance-target-unplaced place a = one-unplaced ELEMENT_TARGET place as_instance_target a

exit-in-unplaced : (h : Home) (place : Place) (t : Ty) → exit_in h nowhere t ≡ unplaced_faults (exit_in h place t)
exit-in-unplaced (home.Function result) place t = refl
exit-in-unplaced (home.Process own) place t = broken-unplaced (is_other_exit own t) STARTED_EXIT place
exit-in-unplaced home.Experiment place t = refl

exit-rule-unplaced : (h : Home) (place : Place) (t : Option Ty) → exit_rule h nowhere t ≡ unplaced_faults (exit_rule h place t)
exit-rule-unplaced h place None = refl
exit-rule-unplaced h place (Some t) = exit-in-unplaced h place t

untyped-start-unplaced : (place : Place) (k : NameKind) → untyped_start nowhere k ≡ unplaced_typed (untyped_start place k)
untyped-start-unplaced place kind.Process = refl
untyped-start-unplaced place _ = refl

process-unplaced : (place : Place) (number : ℕ) (params : List Ty) (ms : List (Option Made)) → process_start nowhere number params ms ≡ unplaced_typed (process_start place number params ms)
process-unplaced place number params ms = all-unplaced ELEMENT_ARGUMENTS place (nat_eq (length ms) (length params)) (started number params) (all_made ms)

visible-start-unplaced : (h : Home) (place : Place) (k : Option Known) (ms : List (Option Made)) → visible_start h nowhere k ms ≡ unplaced_typed (visible_start h place k ms)
visible-start-unplaced h place None ms = refl
visible-start-unplaced h place (Some (known.Proc number params exit)) ms =
    barred-both (exit_rule h place exit) (process_start place number params ms) (exit-rule-unplaced h place exit) (process-unplaced place number params ms)
visible-start-unplaced h place (Some (known.Untyped k)) ms = untyped-start-unplaced place k
visible-start-unplaced h place (Some _) ms = refl

pub start-unplaced : (h : Home) (names : Names) (name : Name) (ms : List (Option Made)) → start_of h names (unplaced_name name) ms ≡ unplaced_typed (start_of h names name ms)
start-unplaced h names name ms = tested unplaced_typed (is_predefined name.text) refl (visible-start-unplaced h name.place (known_in names name.text) ms)

-- ---- values and walks

pub initial-unplaced : (equals : Place) (m : Option Made) (t : Option Ty) → initial_value nowhere m t ≡ unplaced_typed (initial_value equals m t)
initial-unplaced equals m t = two-unplaced INITIAL_VALUE equals fitted m t

constant-rule-unplaced : (equals : Place) (t : Option Ty) → constant_rule nowhere t ≡ unplaced_faults (constant_rule equals t)
constant-rule-unplaced equals None = refl
constant-rule-unplaced equals (Some t) = broken-unplaced (lives t) INITIAL_VALUE equals

pub constant-unplaced : (equals : Place) (m : Option Made) (t : Option Ty) → constant_value nowhere m t ≡ unplaced_typed (constant_value equals m t)
constant-unplaced equals m t = barred-both (constant_rule equals t) (initial_value equals m t) (constant-rule-unplaced equals t) (initial-unplaced equals m t)

pub condition-unplaced : (place : Place) (m : Option Made) → condition nowhere m ≡ unplaced_typed (condition place m)
condition-unplaced place m = one-unplaced CONDITION place as_bool m

pub finished-unplaced : (place : Place) (m : Option Made) → finished_one nowhere m ≡ unplaced_typed (finished_one place m)
finished-unplaced place m = one-unplaced FINISH place as_instance m

walk-over-unplaced : (place first : Place) (count : ℕ) (container : CExpr) (t : Option Ty) → walk_over nowhere nowhere count container t ≡ unplaced_typed (walk_over place first count container t)
walk-over-unplaced place first count container None = refl
walk-over-unplaced place first count container (Some t) = settled-unplaced WALK_NAMES first (walked_by count container t)

pub walk-unplaced : (place first : Place) (count : ℕ) (m : Option Made) → walk_of nowhere nowhere count m ≡ unplaced_typed (walk_of place first count m)
walk-unplaced place first count None = refl
walk-unplaced place first count (Some m) = walk-over-unplaced place first count m.core (element_type (out-Ty m.ty))
