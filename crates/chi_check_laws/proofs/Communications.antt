-- Targets, and sends, receives and delays.
use Rattle.std.proofs.Common.{◌≡◌, ℕ, Bool, true, false, List, [], ◌∷◌, Option, Some, None, refl, sym, ap, subst, ◌∙◌}
use Rattle.std.proofs.lemmas.Bool.{and_parts}
use Rattle.std.specs.Prelude.{option_map, if◌then◌else◌}
use Rattle.chi_token.specs.declared.place.Place.{Place}
use Rattle.chi_tree.specs.declared.expr.Entry.{Entry}
use Rattle.chi_tree.specs.declared.expr.Expr.{Expr}
use Rattle.chi_tree.specs.declared.expr.Link.{Link}
use Rattle.chi_tree.specs.declared.expr.Postfix.{Postfix, Postfix-F, out-Postfix}
use Rattle.chi_tree.specs.declared.statement.Communication.{Communication}
use Rattle.chi_tree.specs.declared.statement.Communication.TheVariants as communication
use Rattle.chi_tree.specs.declared.statement.Target.{Target}
use Rattle.chi_tree.specs.declared.type_tree.Formal.{Formal}
use Rattle.chi_tree.specs.declared.type_tree.Name.{Name}
use Rattle.chi_tree.specs.declared.type_tree.TypeTree.{TypeTree}
use Rattle.chi_types.specs.declared.ty.Ty.{Ty, Ty-F, out-Ty}
use Rattle.chi_core.specs.declared.communication.CComm.{CComm}
use Rattle.chi_core.specs.declared.expression.CExpr.{CExpr}
use Rattle.chi_core.specs.declared.statement.CAlt.TheVariants as alternative
use Rattle.chi_core.specs.declared.statement.CStat.{CStat}
use Rattle.chi_core.specs.Kinds.{is_void}
use Rattle.chi_core.specs.Scopes.{Scope}
use Rattle.chi_core.specs.SetSlots.{Known as Set}
use Rattle.chi_core.specs.SoundParts as part
use Rattle.chi_core.specs.SoundParts.{SoundGuard}
use Rattle.chi_core.specs.SoundStatements as sound
use Rattle.chi_core.specs.SoundStatements.{SoundAlternative}
use Rattle.chi_check.specs.Below.chi_check_streams.specs.Streams.{some, of_expression}
use Rattle.chi_check_types.specs.declared.known.Known.{Known}
use Rattle.chi_check_types.specs.declared.known.Known.TheVariants as known
use Rattle.chi_check_types.specs.declared.known.NameKind.{NameKind}
use Rattle.chi_check_types.specs.declared.known.NameKind.TheVariants as kind
use Rattle.chi_check_types.specs.declared.meant.Made.{Made}
use Rattle.chi_check_types.specs.declared.rules.TheConstants.{INDEX, FIELD, TARGET, SENT_VALUE, RECEIVING_NAME, DELAY}
use Rattle.chi_check_types.specs.Names.{Names, known_in}
use Rattle.chi_check_types.specs.Predefined.{is_predefined}
use Rattle.chi_check_types.specs.Typed.{Typed, refused}
use Rattle.chi_check_expr_rules.specs.Nodes.{of_one}
use Rattle.chi_check_expr.proofs.Nodes.{barred_made}
use Rattle.chi_check_laws.specs.KnownNames.{AllStand, Has, SoundMade, Stands}
use Rattle.chi_check_laws.proofs.Conversions.{some_is, mapped}
use Rattle.chi_check.specs.Below.chi_check_stat_rules.specs.declared.home.Home.{Home}
use Rattle.chi_check.specs.Below.chi_check_stat_rules.specs.declared.parts.Aim.{Aim}
use Rattle.chi_check.specs.Below.chi_check_stat_rules.specs.declared.parts.Receiver.{Receiver}
use Rattle.chi_check.specs.Below.chi_check_stat_rules.specs.Channels.{sent_type, send_void, sending, send_value, send_on, send_of, received_type, receiver, untyped_receiver, visible_receiver, receive_void, receiving, receive_value, receive_on, receive_of, delaying}
use Rattle.chi_check.specs.Below.chi_check_stat_rules.specs.Homes.{running_rule}
use Rattle.chi_check.specs.Below.chi_check_stat_rules.specs.Targets.{visible_target, named_target, is_text, indexed, index_step, field_of, field_step}
use Rattle.chi_check_laws.specs.Parts.{texts_if_any, SoundAim, SoundReceiver, Communicates}
use Rattle.chi_check_laws.proofs.SoundCommunications.{sending_sound, void_sending_sound, receiving_sound, void_receiving_sound, delaying_sound}
use Rattle.chi_check_laws.proofs.Targets.{target_name_sound, target_index_sound, target_field_sound}
use Rattle.chi_check.specs.Below.chi_check_stat_lines.specs.Stated.{alone}
use Rattle.chi_check.specs.Below.chi_check_stat_lines.specs.Values.{made_if, value_in, step_in, steps_in, target_in, guard_in, test_in}
use Rattle.chi_check.specs.Below.chi_check_stat_lines.specs.Lines.{communication_place, selected, receiver_in, parts_in, communication_in, communicating}
use Rattle.chi_check_laws.specs.Bodies.{reads_as}
use Rattle.chi_check_laws.proofs.Bodies.{SoundOne, SoundOffer, AllSound, StatementKept, offer_at, body_sound, statements_by_parts}
use Rattle.chi_check_laws.proofs.Endings.{runs_in}
use Rattle.chi_check_laws.proofs.Statements.{one_select}
use Rattle.chi_check_laws.proofs.Turns.{alone_kept}
use Rattle.chi_check_laws.proofs.Values.{one_made, value_sound, test_has}

pub unrefused : {A : Type 0} (b : Bool) (rule : ℕ) (place : Place) (t : Typed A) (a : A) → (if b then refused rule place else t).made ≡ Some a → t.made ≡ Some a
unrefused true rule place t a e = absurd (cc)
unrefused false rule place t a e = e

module _ (scope : Scope) (set : Set) where
  -- ---- targets

  -- what may be a sound target
  abbrev pub AimIf : Option Aim → Type 0
  AimIf o = (a : Aim) → o ≡ Some a → SoundAim scope set a

  visible_aim : (place : Place) (o : Option Known) → ((k : Known) → o ≡ Some k → Stands scope set k) → AimIf (visible_target place o).made
  visible_aim place None st a e = absurd (cc)
  visible_aim place (Some k) st a e = target_name_sound scope set place k a (st k refl) e

  indexed_aim : (name place : Place) (o : Option Aim) (i : Option Made) → AimIf o → ((m : Made) → i ≡ Some m → SoundMade scope set m) → AimIf (index_step name place o i).made
  indexed_aim name place None i h s b e = absurd (cc)
  indexed_aim name place (Some a) i h s b e =
      let f = one_made INDEX place (indexed (out-Ty a.ty) a) i b (unrefused (is_text (out-Ty a.ty)) TARGET name (of_one INDEX place (indexed (out-Ty a.ty) a) i) b e) in
      target_index_sound scope set a f.0 b (h a refl) (s f.0 f.1) f.2

  field_aim : (name : Name) (o : Option Aim) → AimIf o → AimIf (field_step name o).made
  field_aim name o h b e =
      let f = one_made FIELD name.place (field_of name.text) o b e in
      target_field_sound scope set name.text f.0 b (h f.0 f.1) f.2

  -- ---- sends, receives and delays

  sent_by : (full : Bool) (place : Place) (a : Aim) (t : Ty) (value : Option (Option Made)) (c : CComm) → sent_type (out-Ty a.ty) ≡ Some t → is_void (out-Ty t) ≡ full → SoundAim scope set a
      → ((m : Made) → value ≡ Some (Some m) → SoundMade scope set m) → (if full then send_void place a value else send_value place a t value).made ≡ Some c → Communicates scope set c
  sent_by true place a t None c is full h s e = subst (Communicates scope set) (some_is _ c e) (void_sending_sound scope set a t is full h)
  sent_by true place a t (Some value) c is full h s e = absurd (cc)
  sent_by false place a t None c is full h s e = absurd (cc)
  sent_by false place a t (Some value) c is full h s e =
      let f = one_made SENT_VALUE place (sending a t) value c e in
      sending_sound scope set a t f.0 c is full h (s f.0 (ap Some f.1)) f.2

  send_on_by : (place : Place) (a : Aim) (o : Option Ty) (value : Option (Option Made)) (c : CComm) → sent_type (out-Ty a.ty) ≡ o → SoundAim scope set a
      → ((m : Made) → value ≡ Some (Some m) → SoundMade scope set m) → (send_on place a o value).made ≡ Some c → Communicates scope set c
  send_on_by place a None value c is h s e = absurd (cc)
  send_on_by place a (Some t) value c is h s e = sent_by (is_void (out-Ty t)) place a t value c is refl h s e

  send_by : (place : Place) (o : Option Aim) (value : Option (Option Made)) (c : CComm) → AimIf o → ((m : Made) → value ≡ Some (Some m) → SoundMade scope set m) → (send_of place o value).made ≡ Some c → Communicates scope set c
  send_by place None value c h s e = absurd (cc)
  send_by place (Some a) value c h s e = send_on_by place a (sent_type (out-Ty a.ty)) value c refl (h a refl) s e

  received_by : (full : Bool) (place : Place) (a : Aim) (t : Ty) (r : Option (Option Receiver)) (c : CComm) → received_type (out-Ty a.ty) ≡ Some t → is_void (out-Ty t) ≡ full → SoundAim scope set a
      → ((x : Receiver) → r ≡ Some (Some x) → SoundReceiver scope x) → (if full then receive_void place a r else receive_value place a t r).made ≡ Some c → Communicates scope set c
  received_by true place a t None c is full h s e = subst (Communicates scope set) (some_is _ c e) (void_receiving_sound scope set a t is full h)
  received_by true place a t (Some r) c is full h s e = absurd (cc)
  received_by false place a t None c is full h s e = absurd (cc)
  received_by false place a t (Some r) c is full h s e =
      let f = one_made RECEIVING_NAME place (receiving a t) r c e in
      receiving_sound scope set a t f.0 c is full h (s f.0 (ap Some f.1)) f.2

  receive_on_by : (place : Place) (a : Aim) (o : Option Ty) (r : Option (Option Receiver)) (c : CComm) → received_type (out-Ty a.ty) ≡ o → SoundAim scope set a
      → ((x : Receiver) → r ≡ Some (Some x) → SoundReceiver scope x) → (receive_on place a o r).made ≡ Some c → Communicates scope set c
  receive_on_by place a None r c is h s e = absurd (cc)
  receive_on_by place a (Some t) r c is h s e = received_by (is_void (out-Ty t)) place a t r c is refl h s e

  receive_by : (place : Place) (o : Option Aim) (r : Option (Option Receiver)) (c : CComm) → AimIf o → ((x : Receiver) → r ≡ Some (Some x) → SoundReceiver scope x) → (receive_of place o r).made ≡ Some c → Communicates scope set c
  receive_by place None r c h s e = absurd (cc)
  receive_by place (Some a) r c h s e = receive_on_by place a (received_type (out-Ty a.ty)) r c refl (h a refl) s e

  untyped_never : (place : Place) (k : NameKind) (r : Receiver) → (untyped_receiver place k).made ≡ Some r → ⊥
  untyped_never place kind.Variable r e = absurd (cc)
  untyped_never place _ r e = absurd (cc)

  visible_received : (place at : Place) (o : Option Known) → ((k : Known) → o ≡ Some k → Stands scope set k) → (r : Receiver) → (visible_receiver place at o).made ≡ Some r → SoundReceiver scope r
  visible_received place at None st r e = absurd (cc)
  visible_received place at (Some (known.Var slot t)) st r e = subst (SoundReceiver scope) (some_is (receiver slot t) r e) (st (known.Var slot t) refl).is
  visible_received place at (Some (known.Untyped k)) st r e = absurd (untyped_never place k r e)
  visible_received place at _ st r e = absurd (cc)

  -- ---- what an alternative offers

  abbrev pub GuardHas : Option CExpr → Type 0
  GuardHas guard = (e : CExpr) → guard ≡ Some e → Has scope set e Ty-F.Bool

  guard_counted : (guard : Option CExpr) → GuardHas guard → texts_if_any guard ≡ true → (count : ℕ) → SoundGuard scope set (some of_expression guard count).part
  guard_counted None h short count = part.no_guard
  guard_counted (Some e) h short count = part.a_guard _ (h e refl short count)

  pub offer_sound : (loop : Bool) (guard : Option CExpr) (c : CComm) (block : List CStat) → GuardHas guard → Communicates scope set c → AllSound scope loop set block → SoundOffer scope loop set (alternative.Guarded guard c block)
  offer_sound loop guard c block h k b = offer_at scope loop set _ _ (alternative.outs-Guarded guard c block) (λ short count.
      let first = and_parts _ _ short in
      let rest = and_parts _ _ first.1 in
      let counted = some of_expression guard count in
      subst (SoundAlternative scope loop set) (sym (alternative.outs-Guarded _ _ _))
      (sound.guarded loop set _ _ _ (guard_counted guard h first.0 count) (k rest.0 counted.next) (body_sound scope loop set block b rest.1 _)))

module _ (h : Home) (scope : Scope) (role : reads_as h ≡ Some scope.role) (set : Set) (names : Names) (all : AllStand scope set names) where
  named_by : (b : Bool) (name : Name) → AimIf scope set (if b then refused TARGET name.place else visible_target name.place (known_in names name.text)).made
  named_by true name a e = absurd (cc)
  named_by false name a e = visible_aim scope set name.place (known_in names name.text) (all name.text) a e

  step_aim : (name : Place) (o : Option Aim) (p : Postfix-F Expr Postfix TypeTree Entry Link Formal) → AimIf scope set o → AimIf scope set (step_in h names name o p).made
  step_aim name o (Postfix-F.Index place index) k = indexed_aim scope set name place o (value_in h names index).made k (value_sound h scope role set names all index)
  step_aim name o (Postfix-F.Slice place from upto second by) k = λ a e. absurd (cc)
  step_aim name o (Postfix-F.Field field) k = field_aim scope set field o k

  steps_aim : (name : Place) (o : Option Aim) (ps : List Postfix) → AimIf scope set o → AimIf scope set (steps_in h names name o ps).made
  steps_aim name o [] k = k
  steps_aim name o (p ∷ ps) k = steps_aim name (step_in h names name o (out-Postfix p)).made ps (step_aim name o (out-Postfix p) k)

  pub target_aim : (t : Target) → AimIf scope set (target_in h names t).made
  target_aim t = steps_aim t.name.place (named_target names t.name).made t.steps (named_by (is_predefined t.name.text) t.name)

  given_value : (o : Option Expr) (m : Made) → made_if (option_map (value_in h names) o) ≡ Some (Some m) → SoundMade scope set m
  given_value None m e = absurd (cc)
  given_value (Some x) m e = value_sound h scope role set names all x m (some_is _ (Some m) e)

  receiver_by : (b : Bool) (place : Place) (name : Name) (r : Receiver) → (if b then refused RECEIVING_NAME place else visible_receiver place name.place (known_in names name.text)).made ≡ Some r → SoundReceiver scope r
  receiver_by true place name r e = absurd (cc)
  receiver_by false place name r e = visible_received scope set place name.place (known_in names name.text) (all name.text) r e

  given_receiver : (place : Place) (o : Option Name) (r : Receiver) → made_if (option_map (receiver_in place names) o) ≡ Some (Some r) → SoundReceiver scope r
  given_receiver place None r e = absurd (cc)
  given_receiver place (Some name) r e = receiver_by (is_predefined name.text) place name r (some_is _ (Some r) e)

  parts_sound : (c : Communication) (x : CComm) → (parts_in h names c).made ≡ Some x → Communicates scope set x
  parts_sound (communication.Send target place value) x e = send_by scope set place (target_in h names target).made (made_if (option_map (value_in h names) value)) x (target_aim target) (given_value value) e
  parts_sound (communication.Receive target place name) x e = receive_by scope set place (target_in h names target).made (made_if (option_map (receiver_in place names) name)) x (target_aim target) (given_receiver place name) e
  parts_sound (communication.Delay place length) x e =
      let f = one_made DELAY place delaying (value_in h names length).made x e in
      delaying_sound scope set f.0 x (value_sound h scope role set names all length f.0 f.1) f.2

  pub communication_sound : (c : Communication) (x : CComm) → (communication_in h names c).made ≡ Some x → Communicates scope set x
  communication_sound c x e = parts_sound c x (barred_made (running_rule h (communication_place c)) (parts_in h names c) x e).1

  pub guard_sound : (guard : Option Expr) (g : Option CExpr) → (guard_in h names guard).made ≡ Some g → GuardHas scope set g
  guard_sound None g e x is = absurd (cc)
  guard_sound (Some test) g e x is =
      let m = mapped Some (test_in h names test).made g e in
      let same : Some m.0 ≡ Some x = m.2 ∙ is in
      test_has h scope role set names all test x (m.1 ∙ same)

  communicating_sound : (loop : Bool) (c : Communication) (x : CStat) → (communicating h names c).made ≡ Some x → SoundOne scope loop set x
  communicating_sound loop c x e =
      let m = mapped (selected (communication_place c).line) (communication_in h names c).made x e in
      let p = runs_in h scope.role (communication_place c) role (barred_made (running_rule h (communication_place c)) (parts_in h names c) m.0 m.1).0 in
      let none : GuardHas scope set None = λ e is. absurd (cc) in
      subst (SoundOne scope loop set) m.2
      (one_select scope loop set (communication_place c).line (alternative.Guarded None m.0 [] ∷ []) p.0 p.1 (offer_sound scope set loop None m.0 [] none (communication_sound c m.0 m.1) tt, tt))

pub communicate_kept : (h : Home) (scope : Scope) → reads_as h ≡ Some scope.role → (loop : Bool) (c : Communication) → StatementKept scope loop (λ s. alone s (communicating h s.names c))
communicate_kept h scope role loop c = alone_kept scope _ _ (statements_by_parts scope loop) (λ names. communicating h names c) (λ set names x all e. (communicating_sound h scope role set names all loop c x e, tt))
