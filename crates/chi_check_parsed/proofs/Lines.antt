-- Statements and their parts whose text literals are short; and what the rules of statements make of such parts.
use Rattle.std.proofs.Common.{◌≡◌, ℕ, Bool, true, false, cond, List, [], ◌∷◌, map, length, Option, Some, None, refl, ◌∙◌}
use Rattle.std.specs.Prelude.{option_map, nat_eq}
use Rattle.std.specs.List.{list_all}
use Rattle.chi_token.specs.declared.place.Place.{Place}
use Rattle.chi_tree.specs.declared.type_tree.Name.{Name}
use Rattle.chi_types.specs.declared.ty.Ty.{Ty, Ty-F, out-Ty}
use Rattle.chi_types.specs.declared.ty.Ty.TheVariants as ty
use Rattle.chi_types.specs.Fits.{fits}
use Rattle.chi_types.specs.Plain.{is_plain}
use Rattle.chi_types.specs.Same.{same}
use Rattle.chi_value.specs.declared.format.Piece.{Piece}
use Rattle.chi_value.specs.declared.format.Piece.TheVariants as piece
use Rattle.chi_value.specs.Plain.{itself}
use Rattle.chi_core.specs.declared.communication.CComm.{CComm}
use Rattle.chi_core.specs.declared.communication.CComm.TheVariants as comm
use Rattle.chi_core.specs.declared.element.CElem.{CElem}
use Rattle.chi_core.specs.declared.element.CElem.TheVariants as element
use Rattle.chi_core.specs.declared.expression.CExpr.{CExpr}
use Rattle.chi_core.specs.declared.statement.Branch.{Branch}
use Rattle.chi_core.specs.declared.statement.CAlt.{CAlt}
use Rattle.chi_core.specs.declared.statement.CStat.{CStat}
use Rattle.chi_core.specs.declared.statement.CStat.TheVariants as statement
use Rattle.chi_core.specs.declared.target.CStep.{CStep}
use Rattle.chi_core.specs.declared.target.CStep.TheVariants as step
use Rattle.chi_core.specs.declared.target.CTarget.{CTarget}
use Rattle.chi_core.specs.Kinds.{is_void}
use Rattle.chi_check_types.specs.declared.known.Known.{Known}
use Rattle.chi_check_types.specs.declared.known.Known.TheVariants as known
use Rattle.chi_check_types.specs.declared.known.NameKind.{NameKind}
use Rattle.chi_check_types.specs.declared.known.NameKind.TheVariants as kind
use Rattle.chi_check_types.specs.declared.meant.Made.{Made}
use Rattle.chi_check_types.specs.declared.rules.TheConstants.{TARGET, TARGET_COUNT, ASSIGNED_VALUE, INITIAL_VALUE, CONDITION, FINISH, INDEX, FIELD, SENT_VALUE, RECEIVING_NAME, DELAY, NAME_KIND, ELEMENT_ARGUMENTS, ELEMENT_TARGET, RETURN, EXIT, WALK_NAMES, FORMAT, FORMAT_VALUE}
use Rattle.chi_check_types.specs.Names.{Names, known_in}
use Rattle.chi_check_types.specs.Predefined.{is_predefined}
use Rattle.chi_check_types.specs.Typed.{Typed, untyped, refused}
use Rattle.chi_check_types.specs.TypeRules.{is_int}
use Rattle.chi_check_expr_rules.specs.Conversions.{converted, passed}
use Rattle.chi_check_expr_rules.specs.Nodes.{of_one, all_made}
use Rattle.chi_check_expr_rules.specs.Parts.{field_in}
use Rattle.chi_check_laws.specs.Below.chi_check_stat_rules.specs.declared.home.ExitType.{ExitType}
use Rattle.chi_check_laws.specs.Below.chi_check_stat_rules.specs.declared.home.ExitType.TheVariants as exit
use Rattle.chi_check_laws.specs.Below.chi_check_stat_rules.specs.declared.home.Home.{Home}
use Rattle.chi_check_laws.specs.Below.chi_check_stat_rules.specs.declared.home.Home.TheVariants as home
use Rattle.chi_check_laws.specs.Below.chi_check_stat_rules.specs.declared.parts.Aim.{Aim}
use Rattle.chi_check_laws.specs.Below.chi_check_stat_rules.specs.declared.parts.Receiver.{Receiver}
use Rattle.chi_check_laws.specs.Below.chi_check_stat_rules.specs.declared.parts.Started.{Started}
use Rattle.chi_check_laws.specs.Below.chi_check_stat_rules.specs.declared.parts.Walked.{Walked}
use Rattle.chi_check_laws.specs.Below.chi_check_stat_rules.specs.Assignments.{all_aims, assign, stored, parts_fit, spread, spread_parts, spread_value, only_one, uneven, even, assigned}
use Rattle.chi_check_laws.specs.Below.chi_check_stat_rules.specs.Channels.{sent_type, send_void, sending, send_value, send_on, send_of, received_type, receive_void, receiving, receive_value, receive_on, receive_of, delayed, delaying, delay_of}
use Rattle.chi_check_laws.specs.Below.chi_check_stat_rules.specs.Elements.{as_instance_target, instance_target, exit_rule, started, process_start, untyped_start, visible_start, start_of, make, element_made}
use Rattle.chi_check_laws.specs.Below.chi_check_stat_rules.specs.Endings.{returning, return_of, exiting, plain_exit, exit_with, exit_of}
use Rattle.chi_check_laws.specs.Below.chi_check_stat_rules.specs.Targets.{untyped_target, visible_target, named_target, stepped, indexed, is_text, index_step, to_part, field_of, field_step}
use Rattle.chi_check_laws.specs.Below.chi_check_stat_rules.specs.Values.{fitted, initial_value, constant_rule, constant_value, is_bool, as_bool, condition, is_inst, as_instance, finished_one}
use Rattle.chi_check_laws.specs.Below.chi_check_stat_rules.specs.Walks.{element_type, name_types, walked, walked_by, walk_over, walk_of}
use Rattle.chi_check_laws.specs.Below.chi_check_stat_rules.specs.Writes.{Written, shown_count, next_shown, showing, shown_one, with_first, shown_then, all_shown, written, write_of}
use Rattle.chi_check_laws.specs.Parts.{step_texts, target_texts, texts_if_any, communication_texts}
use Rattle.chi_check_expr.proofs.Kept.{Each, IfGiven}
use Rattle.chi_check_laws.specs.Texts.{element_texts, statement_texts, branch_texts, alternative_texts}
use Rattle.chi_check_laws.proofs.Layers.{statement_short, element_short}
use Rattle.chi_check_laws.proofs.Turns.{each_append}
use Rattle.chi_check_parsed.proofs.Short.{on_map, on_any, on_then, on_if, settled_on, one_on, two_on, all_on, barred_on, made_on, Short, Shorts, MadeShort, both_true, all_short, converted_short, passed_on}

-- ---- parts of statements

abbrev pub StepShort : CStep → Type 0
StepShort s = step_texts s ≡ true

abbrev pub TargetShort : CTarget → Type 0
TargetShort t = Each StepShort t.steps

abbrev pub AimShort : Aim → Type 0
AimShort a = TargetShort a.target

abbrev pub ShortIfAny : Option CExpr → Type 0
ShortIfAny = IfGiven Short

abbrev pub StartShort : Started → Type 0
StartShort s = Shorts s.arguments

abbrev pub WalkShort : Walked → Type 0
WalkShort w = Short w.container

abbrev pub CommunicationShort : CComm → Type 0
CommunicationShort c = communication_texts c ≡ true

abbrev pub MakeShort : CElem → Type 0
MakeShort x = element_texts x ≡ true

abbrev pub StatementShort : CStat → Type 0
StatementShort x = statement_texts x ≡ true

abbrev pub BranchShort : Branch → Type 0
BranchShort x = branch_texts x ≡ true

abbrev pub OfferShort : CAlt → Type 0
OfferShort x = alternative_texts x ≡ true

-- ---- of lists

all_true : {A : Type 0} (f : A → Bool) (xs : List A) → Each (λ x. f x ≡ true) xs → list_all f xs ≡ true
all_true f [] h = refl
all_true f (x ∷ xs) h = both_true (f x) (list_all f xs) h.0 (all_true f xs h.1)

pub all_mapped : {A : Type 0} (f : A → Bool) (xs : List A) → Each (λ x. f x ≡ true) xs → list_all itself (map f xs) ≡ true
all_mapped f [] h = refl
all_mapped f (x ∷ xs) h = both_true (f x) (list_all itself (map f xs)) h.0 (all_mapped f xs h.1)

pub target_true : (t : CTarget) → TargetShort t → target_texts t ≡ true
target_true t h = all_true step_texts t.steps h

targets_true : (ts : List CTarget) → Each TargetShort ts → list_all target_texts ts ≡ true
targets_true [] h = refl
targets_true (t ∷ ts) h = both_true (target_texts t) (list_all target_texts ts) (target_true t h.0) (targets_true ts h.1)

pub if_any_true : (o : Option CExpr) → ShortIfAny o → texts_if_any o ≡ true
if_any_true None h = refl
if_any_true (Some e) h = h

pub any_given : {A : Type 0} (o : Option A) → IfGiven (λ a. Unit {0}) o
any_given None = tt
any_given (Some a) = tt

-- ---- values

pub fitted_on : (m : Made) (t : Ty) → MadeShort m → IfGiven Short (fitted m t)
fitted_on m t h = on_if Short (fits m.ty t) _ (converted_short m t h)

pub initial_on : (equals : Place) (m : Option Made) (t : Option Ty) → IfGiven MadeShort m → IfGiven Short (initial_value equals m t).made
initial_on equals m t h = two_on MadeShort (λ t. Unit {0}) Short INITIAL_VALUE equals fitted m t (λ m t h k. fitted_on m t h) h (any_given t)

pub constant_on : (equals : Place) (m : Option Made) (t : Option Ty) → IfGiven MadeShort m → IfGiven Short (constant_value equals m t).made
constant_on equals m t h = barred_on Short (constant_rule equals t) (initial_value equals m t) (initial_on equals m t h)

pub condition_on : (place : Place) (m : Option Made) → IfGiven MadeShort m → IfGiven Short (condition place m).made
condition_on place m h = one_on MadeShort Short CONDITION place as_bool m (λ m h. on_if Short (is_bool (out-Ty m.ty)) _ h) h

pub finished_on : (place : Place) (m : Option Made) → IfGiven MadeShort m → IfGiven Short (finished_one place m).made
finished_on place m h = one_on MadeShort Short FINISH place as_instance m (λ m h. on_if Short (is_inst (out-Ty m.ty)) _ h) h

-- ---- targets

untyped_target_on : (place : Place) (k : NameKind) → IfGiven AimShort (untyped_target place k).made
untyped_target_on place kind.Variable = tt
untyped_target_on place kind.Unwound = tt
untyped_target_on place kind.Constant = tt
untyped_target_on place kind.Type = tt
untyped_target_on place kind.Function = tt
untyped_target_on place kind.Process = tt
untyped_target_on place kind.Model = tt

visible_target_on : (place : Place) (o : Option Known) → IfGiven AimShort (visible_target place o).made
visible_target_on place None = tt
visible_target_on place (Some (known.Var slot t)) = tt
visible_target_on place (Some (known.Untyped k)) = untyped_target_on place k
visible_target_on place (Some (known.Fixed slot t)) = tt
visible_target_on place (Some (known.Const number t)) = tt
visible_target_on place (Some (known.Kind t)) = tt
visible_target_on place (Some (known.Value enumeration position)) = tt
visible_target_on place (Some (known.Func number params result)) = tt
visible_target_on place (Some (known.Proc number params exit)) = tt
visible_target_on place (Some (known.Model number params exit)) = tt
visible_target_on place (Some (known.Xper number)) = tt

pub named_target_on : (names : Names) (name : Name) → IfGiven AimShort (named_target names name).made
named_target_on names name = by (is_predefined name.text)
  where
    by : (b : Bool) → IfGiven AimShort (cond b (refused TARGET name.place) (visible_target name.place (known_in names name.text))).made
    by true = tt
    by false = visible_target_on name.place (known_in names name.text)

stepped_short : (a : Aim) (s : CStep) (t : Ty) → AimShort a → StepShort s → AimShort (stepped a s t)
stepped_short a s t h k = each_append StepShort a.target.steps (s ∷ []) h (k, tt)

indexed_on : (layer : Ty-F Ty) (a : Aim) (i : Made) → AimShort a → MadeShort i → IfGiven AimShort (indexed layer a i)
indexed_on (Ty-F.ListOf element) a i h k = on_if AimShort (is_int (out-Ty i.ty)) _ (stepped_short a (step.Index i.core) element h k)
indexed_on (Ty-F.DictOf key value) a i h k = on_if AimShort (fits i.ty key) _ (stepped_short a (step.Index (converted i key)) value h (converted_short i key k))
indexed_on _ a i h k = tt

pub index_step_on : (name place : Place) (a : Option Aim) (i : Option Made) → IfGiven AimShort a → IfGiven MadeShort i → IfGiven AimShort (index_step name place a i).made
index_step_on name place None i h k = tt
index_step_on name place (Some a) i h k = by (is_text (out-Ty a.ty))
  where
    by : (b : Bool) → IfGiven AimShort (cond b (refused TARGET name) (of_one INDEX place (indexed (out-Ty a.ty) a) i)).made
    by true = tt
    by false = one_on MadeShort AimShort INDEX place (indexed (out-Ty a.ty) a) i (λ i k. indexed_on (out-Ty a.ty) a i h k) k

pub field_step_on : (name : Name) (a : Option Aim) → IfGiven AimShort a → IfGiven AimShort (field_step name a).made
field_step_on name a h = one_on AimShort AimShort FIELD name.place (field_of name.text) a
    (λ a h. on_any AimShort (to_part a) (field_in (out-Ty a.ty) name.text) (λ found. stepped_short a (step.Part found.0) found.1 h refl)) h

-- ---- assignments

aims_on : (os : List (Option Aim)) → Each (IfGiven AimShort) os → IfGiven (Each AimShort) (all_aims os)
aims_on [] h = tt
aims_on (o ∷ os) h = on_then AimShort (Each AimShort) (λ first. option_map (λ rest. first ∷ rest) (all_aims os)) o
    (λ first k. on_map (Each AimShort) (Each AimShort) (λ rest. first ∷ rest) (all_aims os) (λ rest l. (k, l)) (aims_on os h.1)) h.0

targets_of : (aims : List Aim) → Each AimShort aims → Each TargetShort (map (λ a. a.target) aims)
targets_of [] h = tt
targets_of (a ∷ aims) h = (h.0, targets_of aims h.1)

assign_short : (line : ℕ) (aims : List Aim) (es : List CExpr) → Each AimShort aims → Shorts es → StatementShort (assign line aims es)
assign_short line aims es h k = statement_short _ _ (statement.outs-Assign line _ es) ∙ both_true _ _ (targets_true _ (targets_of aims h)) (all_short es k)

stored_on : (line : ℕ) (ms : List Made) (aims : List Aim) → Each MadeShort ms → Each AimShort aims → IfGiven StatementShort (stored line ms aims)
stored_on line ms aims h k = on_map Shorts StatementShort (assign line aims) (passed ms (map (λ a. a.ty) aims)) (λ es l. assign_short line aims es k l) (passed_on ms _ h)

spread_on : (line : ℕ) (e : CExpr) (parts : List (List ℕ × Ty)) (aims : List Aim) → Short e → Each AimShort aims → IfGiven StatementShort (spread line e parts aims)
spread_on line e parts aims h k = on_if StatementShort (parts_fit parts aims) _ (assign_short line aims (e ∷ []) k (h, tt))

module _ (line : ℕ) (equals : Place) (aims : List (Option Aim)) (k : Each (IfGiven AimShort) aims) where
  spread_parts_on : (e : CExpr) (parts : List (List ℕ × Ty)) → Short e → IfGiven StatementShort (spread_parts line equals aims e parts).made
  spread_parts_on e parts h = by (nat_eq (length parts) (length aims))
    where
      by : (b : Bool) → IfGiven StatementShort (cond b (of_one ASSIGNED_VALUE equals (spread line e parts) (all_aims aims)) (refused TARGET_COUNT equals)).made
      by true = one_on (Each AimShort) StatementShort ASSIGNED_VALUE equals (spread line e parts) (all_aims aims) (λ them l. spread_on line e parts them h l) (aims_on aims k)
      by false = tt

  spread_value_on : (e : CExpr) (layer : Ty-F Ty) → Short e → IfGiven StatementShort (spread_value line equals aims e layer).made
  spread_value_on e (Ty-F.TupleOf parts) h = spread_parts_on e parts h
  spread_value_on e _ h = tt

  uneven_on : (values : List (Option Made)) → Each (IfGiven MadeShort) values → IfGiven StatementShort (uneven line equals aims (only_one values)).made
  uneven_on [] h = tt
  uneven_on (None ∷ []) h = tt
  uneven_on (Some m ∷ []) h = spread_value_on m.core (out-Ty m.ty) h.0
  uneven_on (a ∷ b ∷ more) h = tt

  pub assigned_on : (values : List (Option Made)) → Each (IfGiven MadeShort) values → IfGiven StatementShort (assigned line equals aims values).made
  assigned_on values h = by (nat_eq (length values) (length aims))
    where
      by : (b : Bool) → IfGiven StatementShort (cond b (even line equals aims values) (uneven line equals aims (only_one values))).made
      by true = two_on (Each MadeShort) (Each AimShort) StatementShort ASSIGNED_VALUE equals (stored line) (all_made values) (all_aims aims) (stored_on line) (made_on MadeShort values h) (aims_on aims k)
      by false = uneven_on values h

-- ---- communications

send_on_on : (place : Place) (a : Aim) (t : Option Ty) (value : Option (Option Made)) → AimShort a → IfGiven (IfGiven MadeShort) value → IfGiven CommunicationShort (send_on place a t value).made
send_on_on place a None value h k = tt
send_on_on place a (Some t) value h k = by (is_void (out-Ty t)) value k
  where
    by : (b : Bool) (value : Option (Option Made)) → IfGiven (IfGiven MadeShort) value → IfGiven CommunicationShort (cond b (send_void place a value) (send_value place a t value)).made
    by true None k = both_true _ _ (target_true a.target h) refl
    by true (Some v) k = tt
    by false None k = tt
    by false (Some v) k = one_on MadeShort CommunicationShort SENT_VALUE place (sending a t) v
        (λ m k. on_map Short CommunicationShort (λ e. comm.Send a.target (Some e)) (fitted m t) (λ e l. both_true _ _ (target_true a.target h) l) (fitted_on m t k)) k

pub send_of_on : (place : Place) (a : Option Aim) (value : Option (Option Made)) → IfGiven AimShort a → IfGiven (IfGiven MadeShort) value → IfGiven CommunicationShort (send_of place a value).made
send_of_on place None value h k = tt
send_of_on place (Some a) value h k = send_on_on place a (sent_type (out-Ty a.ty)) value h k

receive_on_on : (place : Place) (a : Aim) (t : Option Ty) (r : Option (Option Receiver)) → AimShort a → IfGiven CommunicationShort (receive_on place a t r).made
receive_on_on place a None r h = tt
receive_on_on place a (Some t) r h = by (is_void (out-Ty t)) r
  where
    by : (b : Bool) (r : Option (Option Receiver)) → IfGiven CommunicationShort (cond b (receive_void place a r) (receive_value place a t r)).made
    by true None = target_true a.target h
    by true (Some r) = tt
    by false None = tt
    by false (Some r) = one_on (λ r. Unit {0}) CommunicationShort RECEIVING_NAME place (receiving a t) r (λ r k. on_if CommunicationShort (same r.ty t) _ (target_true a.target h)) (any_given r)

pub receive_of_on : (place : Place) (a : Option Aim) (r : Option (Option Receiver)) → IfGiven AimShort a → IfGiven CommunicationShort (receive_of place a r).made
receive_of_on place None r h = tt
receive_of_on place (Some a) r h = receive_on_on place a (received_type (out-Ty a.ty)) r h

delayed_on : (layer : Ty-F Ty) (m : Made) → MadeShort m → IfGiven CommunicationShort (delayed layer m)
delayed_on Ty-F.Int m h = converted_short m ty.Real h
delayed_on Ty-F.Real m h = h
delayed_on Ty-F.Timer m h = h
delayed_on _ m h = tt

pub delay_on : (place : Place) (m : Option Made) → IfGiven MadeShort m → IfGiven CommunicationShort (delay_of place m).made
delay_on place m h = one_on MadeShort CommunicationShort DELAY place delaying m (λ m. delayed_on (out-Ty m.ty) m) h

-- ---- elements

pub instance_target_on : (place : Place) (a : Option Aim) → IfGiven AimShort a → IfGiven TargetShort (instance_target place a).made
instance_target_on place a h = one_on AimShort TargetShort ELEMENT_TARGET place as_instance_target a (λ a h. on_if TargetShort (is_inst (out-Ty a.ty)) _ h) h

untyped_start_on : (place : Place) (k : NameKind) → IfGiven StartShort (untyped_start place k).made
untyped_start_on place kind.Process = tt
untyped_start_on place kind.Variable = tt
untyped_start_on place kind.Unwound = tt
untyped_start_on place kind.Constant = tt
untyped_start_on place kind.Type = tt
untyped_start_on place kind.Function = tt
untyped_start_on place kind.Model = tt

visible_start_on : (h : Home) (place : Place) (o : Option Known) (arguments : List (Option Made)) → Each (IfGiven MadeShort) arguments → IfGiven StartShort (visible_start h place o arguments).made
visible_start_on h place None arguments k = tt
visible_start_on h place (Some (known.Proc number params exit)) arguments k =
    barred_on StartShort (exit_rule h place exit) (process_start place number params arguments)
    (all_on MadeShort StartShort ELEMENT_ARGUMENTS place (nat_eq (length arguments) (length params)) (started number params) (all_made arguments)
    (λ ms l. on_map Shorts StartShort _ (passed ms params) (λ es l. l) (passed_on ms params l)) (made_on MadeShort arguments k))
visible_start_on h place (Some (known.Untyped k)) arguments l = untyped_start_on place k
visible_start_on h place (Some (known.Var slot t)) arguments k = tt
visible_start_on h place (Some (known.Fixed slot t)) arguments k = tt
visible_start_on h place (Some (known.Const number t)) arguments k = tt
visible_start_on h place (Some (known.Kind t)) arguments k = tt
visible_start_on h place (Some (known.Value enumeration position)) arguments k = tt
visible_start_on h place (Some (known.Func number params result)) arguments k = tt
visible_start_on h place (Some (known.Model number params exit)) arguments k = tt
visible_start_on h place (Some (known.Xper number)) arguments k = tt

pub start_on : (h : Home) (names : Names) (name : Name) (arguments : List (Option Made)) → Each (IfGiven MadeShort) arguments → IfGiven StartShort (start_of h names name arguments).made
start_on h names name arguments k = by (is_predefined name.text)
  where
    by : (b : Bool) → IfGiven StartShort (cond b (refused NAME_KIND name.place) (visible_start h name.place (known_in names name.text) arguments)).made
    by true = tt
    by false = visible_start_on h name.place (known_in names name.text) arguments k

make_short : (t : Option CTarget) (s : Started) → IfGiven TargetShort t → StartShort s → MakeShort (make t s)
make_short None s h k = element_short _ _ (element.outs-Make None s.process s.arguments) ∙ all_short s.arguments k
make_short (Some t) s h k = element_short _ _ (element.outs-Make (Some t) s.process s.arguments) ∙ both_true _ _ (target_true t h) (all_short s.arguments k)

pub element_on : (t : Option (Option CTarget)) (s : Option Started) → IfGiven (IfGiven TargetShort) t → IfGiven StartShort s → IfGiven MakeShort (element_made t s)
element_on None s h k = on_map StartShort MakeShort (make None) s (λ s k. make_short None s tt k) k
element_on (Some None) s h k = tt
element_on (Some (Some t)) s h k = on_map StartShort MakeShort (make (Some t)) s (λ s k. make_short (Some t) s h k) k

-- ---- endings

pub return_on : (h : Home) (place : Place) (m : Option Made) → IfGiven MadeShort m → IfGiven StatementShort (return_of h place m).made
return_on (home.Function None) place m k = tt
return_on (home.Function (Some t)) place m k = one_on MadeShort StatementShort RETURN place (returning place.line t) m
    (λ m k. on_map Short StatementShort (statement.Return place.line) (fitted m t) (λ e l. statement_short _ _ (statement.outs-Return place.line e) ∙ l) (fitted_on m t k)) k
return_on (home.Process own) place m k = tt
return_on home.Experiment place m k = tt

exit_short : (line : ℕ) (o : Option CExpr) → ShortIfAny o → StatementShort (statement.Exit line o)
exit_short line o h = statement_short _ _ (statement.outs-Exit line o) ∙ if_any_true o h

plain_exit_on : (place : Place) (m : Option Made) → IfGiven StatementShort (plain_exit place m).made
plain_exit_on place None = tt
plain_exit_on place (Some m) = by (is_plain m.ty)
  where
    by : (b : Bool) → IfGiven StatementShort (cond b (untyped []) (refused EXIT place)).made
    by true = tt
    by false = tt

exit_with_on : (own : ExitType) (place : Place) (o : Option (Option Made)) → IfGiven (IfGiven MadeShort) o → IfGiven StatementShort (exit_with own place o).made
exit_with_on exit.Nothing place None k = exit_short place.line None tt
exit_with_on exit.Untyped place None k = tt
exit_with_on (exit.Given t) place None k = tt
exit_with_on exit.Nothing place (Some m) k = tt
exit_with_on exit.Untyped place (Some m) k = plain_exit_on place m
exit_with_on (exit.Given t) place (Some m) k = one_on MadeShort StatementShort EXIT place (exiting place.line t) m
    (λ m k. on_if StatementShort (is_plain m.ty) _ (on_map Short StatementShort (λ e. statement.Exit place.line (Some e)) (fitted m t) (λ e l. exit_short place.line (Some e) l) (fitted_on m t k))) k

pub exit_on : (h : Home) (place : Place) (o : Option (Option Made)) → IfGiven (IfGiven MadeShort) o → IfGiven StatementShort (exit_of h place o).made
exit_on (home.Function result) place o k = tt
exit_on (home.Process own) place o k = exit_with_on own place o k
exit_on home.Experiment place o k = tt

-- ---- walks

walk_over_on : (place first : Place) (count : ℕ) (e : CExpr) (o : Option Ty) → Short e → IfGiven WalkShort (walk_over place first count e o).made
walk_over_on place first count e None h = tt
walk_over_on place first count e (Some t) h = settled_on WalkShort WALK_NAMES first (walked_by count e t) (on_any WalkShort (walked e) (name_types count t) (λ ts. h))

pub walk_on : (place first : Place) (count : ℕ) (m : Option Made) → IfGiven MadeShort m → IfGiven WalkShort (walk_of place first count m).made
walk_on place first count None h = tt
walk_on place first count (Some m) h = walk_over_on place first count m.core (element_type (out-Ty m.ty)) h

-- ---- writes

showing_on : (p : Piece) (m : Made) → MadeShort m → IfGiven Short (showing p m)
showing_on (piece.Plain bytes) m h = tt
showing_on (piece.Any field) m h = on_if Short (is_plain m.ty) _ h
showing_on (piece.Whole field) m h = on_if Short (is_int (out-Ty m.ty)) _ h
showing_on (piece.Fixed field decimals) m h = fitted_on m ty.Real h

abbrev pub WrittenShort : Written → Type 0
WrittenShort v = IfGiven MadeShort v.1

with_first_on : (e : Typed CExpr) (es : Typed (List CExpr)) → IfGiven Short e.made → IfGiven Shorts es.made → IfGiven Shorts (with_first e es).made
with_first_on e es h k = on_then Short Shorts (λ e. option_map (λ es. e ∷ es) es.made) e.made (λ e h. on_map Shorts Shorts (λ es. e ∷ es) es.made (λ es k. (h, k)) k) h

shown_then_on : (o : Option (Piece × List Piece)) (v : Written) (more : List Piece → Typed (List CExpr)) → WrittenShort v → ((ps : List Piece) → IfGiven Shorts (more ps).made) → IfGiven Shorts (shown_then o v more).made
shown_then_on None v more h k = tt
shown_then_on (Some next) v more h k = with_first_on (shown_one next.0 v) (more next.1) (one_on MadeShort Short FORMAT_VALUE v.0 (showing next.0) v.1 (showing_on next.0) h) (k next.1)

all_shown_on : (ps : List Piece) (vs : List Written) → Each WrittenShort vs → IfGiven Shorts (all_shown ps vs).made
all_shown_on ps [] h = tt
all_shown_on ps (v ∷ vs) h = shown_then_on (next_shown ps) v (λ rest. all_shown rest vs) h.0 (λ rest. all_shown_on rest vs h.1)

pub write_on : (line : ℕ) (place : Place) (o : Option (List Piece)) (vs : List Written) → Each WrittenShort vs → IfGiven StatementShort (write_of line place o vs).made
write_on line place None vs h = tt
write_on line place (Some ps) vs h = by (nat_eq (shown_count ps) (length vs))
  where
    by : (b : Bool) → IfGiven StatementShort (cond b (written line ps (all_shown ps vs)) (refused FORMAT place)).made
    by true = on_map Shorts StatementShort (statement.Write line ps) (all_shown ps vs).made (λ es k. statement_short _ _ (statement.outs-Write line ps es) ∙ all_short es k) (all_shown_on ps vs h)
    by false = tt
