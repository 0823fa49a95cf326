-- Sends, receives and delays. The place is that of `!`, `?` or `delay`.
use Rattle.std.specs.Prelude.{ℕ, [], ◌∷◌, Option, Some, None, option_map, if◌then◌else◌}
use Rattle.chi_token.specs.declared.place.Place.{Place}
use Rattle.chi_tree.specs.declared.type_tree.Name.{Name}
use Rattle.chi_types.specs.declared.ty.Ty.{Ty, Ty-F, out-Ty}
use Rattle.chi_types.specs.declared.ty.Ty.TheVariants as ty
use Rattle.chi_types.specs.declared.ty.Way.TheVariants as way
use Rattle.chi_types.specs.Same.{same}
use Rattle.chi_core.specs.declared.communication.CComm.{CComm}
use Rattle.chi_core.specs.declared.communication.CComm.TheVariants as comm
use Rattle.chi_core.specs.Kinds.{is_void}
use Rattle.chi_check_types.specs.declared.known.Known.{Known}
use Rattle.chi_check_types.specs.declared.known.Known.TheVariants as known
use Rattle.chi_check_types.specs.declared.known.NameKind.{NameKind}
use Rattle.chi_check_types.specs.declared.known.NameKind.TheVariants as kind
use Rattle.chi_check_types.specs.declared.meant.Made.{Made}
use Rattle.chi_check_types.specs.declared.rules.TheConstants.{VISIBLE_NAME, SEND, RECEIVE, SENT_VALUE, RECEIVING_NAME, DELAY}
use Rattle.chi_check_types.specs.Faults.{fault}
use Rattle.chi_check_types.specs.Names.{Names, known_in}
use Rattle.chi_check_types.specs.Predefined.{is_predefined}
use Rattle.chi_check_types.specs.Typed.{Typed, unless, untyped, refused}
use Rattle.chi_check_expr_rules.specs.Conversions.{converted}
use Rattle.chi_check_expr_rules.specs.Nodes.{of_one}
use Rattle.chi_check_stat_rules.specs.declared.parts.Aim.{Aim}
use Rattle.chi_check_stat_rules.specs.declared.parts.Receiver.{Receiver}
use Rattle.chi_check_stat_rules.specs.Values.{fitted}

-- ---- sends

-- what is sent on a channel for sending
abbrev pub sent_type : Ty-F Ty → Option Ty
sent_type (Ty-F.Chan way.Both carried) = Some carried
sent_type (Ty-F.Chan way.Send carried) = Some carried
sent_type _ = None

abbrev pub send_void : Place → Aim → Option (Option Made) → Typed CComm
send_void place a None = unless [] (comm.Send a.target None)
send_void place a (Some value) = refused SENT_VALUE place

abbrev pub sending : Aim → Ty → Made → Option CComm
sending a t m = option_map (λ e. comm.Send a.target (Some e)) (fitted m t)

abbrev pub send_value : Place → Aim → Ty → Option (Option Made) → Typed CComm
send_value place a t None = refused SENT_VALUE place
send_value place a t (Some value) = of_one SENT_VALUE place (sending a t) value

abbrev pub send_on : Place → Aim → Option Ty → Option (Option Made) → Typed CComm
send_on place a None value = refused SEND place
send_on place a (Some t) value = if is_void (out-Ty t) then send_void place a value else send_value place a t value

-- the value is none where none stands there, and may have no type
abbrev pub send_of : Place → Option Aim → Option (Option Made) → Typed CComm
send_of place None value = untyped []
send_of place (Some a) value = send_on place a (sent_type (out-Ty a.ty)) value

-- ---- receives

abbrev pub received_type : Ty-F Ty → Option Ty
received_type (Ty-F.Chan way.Both carried) = Some carried
received_type (Ty-F.Chan way.Receive carried) = Some carried
received_type _ = None

abbrev pub receiver : ℕ → Ty → Receiver
receiver slot t = record { slot = slot; ty = t }

-- a name whose own type breaks a rule receives only where it is a variable that no unwind binds
abbrev pub untyped_receiver : Place → NameKind → Typed Receiver
untyped_receiver place kind.Variable = untyped []
untyped_receiver place kind.Unwound = refused RECEIVING_NAME place
untyped_receiver place kind.Constant = refused RECEIVING_NAME place
untyped_receiver place kind.Type = refused RECEIVING_NAME place
untyped_receiver place kind.Function = refused RECEIVING_NAME place
untyped_receiver place kind.Process = refused RECEIVING_NAME place
untyped_receiver place kind.Model = refused RECEIVING_NAME place

-- what is known of the name; one that isn't visible is no variable either
abbrev pub visible_receiver : Place → Place → Option Known → Typed Receiver
visible_receiver place name None = untyped (fault RECEIVING_NAME place ∷ fault VISIBLE_NAME name ∷ [])
visible_receiver place name (Some (known.Var slot t)) = unless [] (receiver slot t)
visible_receiver place name (Some (known.Untyped k)) = untyped_receiver place k
visible_receiver place name (Some (known.Fixed slot t)) = refused RECEIVING_NAME place
visible_receiver place name (Some (known.Const number t)) = refused RECEIVING_NAME place
visible_receiver place name (Some (known.Kind t)) = refused RECEIVING_NAME place
visible_receiver place name (Some (known.Value enumeration position)) = refused RECEIVING_NAME place
visible_receiver place name (Some (known.Func number params result)) = refused RECEIVING_NAME place
visible_receiver place name (Some (known.Proc number params exit)) = refused RECEIVING_NAME place
visible_receiver place name (Some (known.Model number params exit)) = refused RECEIVING_NAME place
visible_receiver place name (Some (known.Xper number)) = refused RECEIVING_NAME place

abbrev pub named_receiver : Place → Names → Name → Typed Receiver
named_receiver place names name =
    if is_predefined name.text then refused RECEIVING_NAME place else visible_receiver place name.place (known_in names name.text)

abbrev pub receive_void : Place → Aim → Option (Option Receiver) → Typed CComm
receive_void place a None = unless [] (comm.Receive a.target None)
receive_void place a (Some r) = refused RECEIVING_NAME place

abbrev pub receiving : Aim → Ty → Receiver → Option CComm
receiving a t r = if same r.ty t then Some (comm.Receive a.target (Some r.slot)) else None

abbrev pub receive_value : Place → Aim → Ty → Option (Option Receiver) → Typed CComm
receive_value place a t None = refused RECEIVING_NAME place
receive_value place a t (Some r) = of_one RECEIVING_NAME place (receiving a t) r

abbrev pub receive_on : Place → Aim → Option Ty → Option (Option Receiver) → Typed CComm
receive_on place a None r = refused RECEIVE place
receive_on place a (Some t) r = if is_void (out-Ty t) then receive_void place a r else receive_value place a t r

-- the name is none where none stands there, and may have no type
abbrev pub receive_of : Place → Option Aim → Option (Option Receiver) → Typed CComm
receive_of place None r = untyped []
receive_of place (Some a) r = receive_on place a (received_type (out-Ty a.ty)) r

-- ---- delays

abbrev pub delayed : Ty-F Ty → Made → Option CComm
delayed Ty-F.Int m = Some (comm.Delay (converted m ty.Real))
delayed Ty-F.Real m = Some (comm.Delay m.core)
delayed Ty-F.Timer m = Some (comm.Timer m.core)
delayed _ m = None

abbrev pub delaying : Made → Option CComm
delaying m = delayed (out-Ty m.ty) m

abbrev pub delay_of : Place → Option Made → Typed CComm
delay_of place m = of_one DELAY place delaying m
