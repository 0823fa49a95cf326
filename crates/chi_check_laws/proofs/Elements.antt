-- What is run and started.
use Rattle.std.proofs.Common.{◌≡◌, ℕ, Bool, true, false, List, [], map, length, Option, Some, None, refl, sym, ap, subst, ◌∙◌}
use Rattle.std.proofs.lemmas.Bool.{and_parts}
use Rattle.std.specs.Prelude.{nat_eq, option_map, if◌then◌else◌}
use Rattle.chi_token.specs.declared.place.Place.{Place}
use Rattle.chi_tree.specs.declared.expr.Expr.{Expr}
use Rattle.chi_tree.specs.declared.statement.Target.{Target}
use Rattle.chi_tree.specs.declared.type_tree.Name.{Name}
use Rattle.chi_types.specs.declared.ty.Ty.{Ty, Ty-F, out-Ty}
use Rattle.chi_types.specs.Same.{same}
use Rattle.chi_core.specs.declared.element.CElem.{CElem}
use Rattle.chi_core.specs.declared.element.CElem.TheVariants as element
use Rattle.chi_core.specs.declared.target.CTarget.{CTarget}
use Rattle.chi_core.specs.Kinds.{Kind, kind_of, kinds_of}
use Rattle.chi_core.specs.Scopes.{Role, function, process, Scope}
use Rattle.chi_core.specs.SetSlots.{Known as Set}
use Rattle.chi_core.specs.SoundExpressions.{HaveKinds}
use Rattle.chi_core.specs.SoundParts as part
use Rattle.chi_core.specs.SoundParts.{MayStart, TakesInstance, SoundElement, TargetTakes}
use Rattle.chi_core.proofs.Erased.{kind_at, same_kind}
use Rattle.chi_check.specs.Below.chi_check_streams.specs.Streams.{some, of_target, of_expressions}
use Rattle.chi_check_types.specs.declared.known.Known.{Known}
use Rattle.chi_check_types.specs.declared.known.Known.TheVariants as known
use Rattle.chi_check_types.specs.declared.known.NameKind.{NameKind}
use Rattle.chi_check_types.specs.declared.known.NameKind.TheVariants as kind
use Rattle.chi_check_types.specs.declared.meant.Made.{Made}
use Rattle.chi_check_types.specs.declared.rules.TheConstants.{NAME_KIND, STARTED_EXIT, ELEMENT_TARGET, ELEMENT_ARGUMENTS}
use Rattle.chi_check_types.specs.Names.{Names, known_in}
use Rattle.chi_check_types.specs.Predefined.{is_predefined}
use Rattle.chi_check_types.specs.Typed.{refused}
use Rattle.chi_check_expr_rules.specs.Conversions.{passed}
use Rattle.chi_check_expr_rules.specs.Nodes.{of_all, all_made}
use Rattle.chi_check_expr.proofs.Kept.{Each}
use Rattle.chi_check_expr.proofs.Nodes.{barred_made, settled_made}
use Rattle.chi_check_laws.specs.KnownNames.{AllStand, SoundMade, Stands, ProcessStands}
use Rattle.chi_check_laws.proofs.Conversions.{some_is, mapped, chosen, passed_have}
use Rattle.chi_check_laws.proofs.Has.{Have}
use Rattle.chi_check.specs.Below.chi_check_stat_rules.specs.declared.home.ExitType.{ExitType}
use Rattle.chi_check.specs.Below.chi_check_stat_rules.specs.declared.home.ExitType.TheVariants as exit
use Rattle.chi_check.specs.Below.chi_check_stat_rules.specs.declared.home.Home.{Home}
use Rattle.chi_check.specs.Below.chi_check_stat_rules.specs.declared.home.Home.TheVariants as home
use Rattle.chi_check.specs.Below.chi_check_stat_rules.specs.declared.parts.Aim.{Aim}
use Rattle.chi_check.specs.Below.chi_check_stat_rules.specs.declared.parts.Started.{Started}
use Rattle.chi_check.specs.Below.chi_check_stat_rules.specs.Elements.{as_instance_target, is_other_exit, exit_rule, started, process_start, untyped_start, visible_start, make, element_made}
use Rattle.chi_check.specs.Below.chi_check_stat_rules.specs.Values.{is_inst}
use Rattle.chi_check_laws.specs.Parts.{SoundAim}
use Rattle.chi_check_laws.proofs.Targets.{aim_takes}
use Rattle.chi_check.specs.Below.chi_check_stat_lines.specs.Stated.{alone}
use Rattle.chi_check.specs.Below.chi_check_stat_lines.specs.Values.{made_of, made_if, values_in, goal_in, target_in}
use Rattle.chi_check.specs.Below.chi_check_stat_lines.specs.Lines.{element_in}
use Rattle.chi_check_laws.specs.Bodies.{reads_as}
use Rattle.chi_check_laws.specs.Texts.{target_texts_if}
use Rattle.chi_check_laws.proofs.Bodies.{SoundMake, MakeKept, make_at, nothing_more, each_by_parts}
use Rattle.chi_check_laws.proofs.Communications.{target_aim}
use Rattle.chi_check_laws.proofs.Turns.{alone_kept, unbroken, not_false}
use Rattle.chi_check_laws.proofs.Values.{one_made, values_sound}

instance_layer : (t : Ty) (layer : Ty-F Ty) → out-Ty t ≡ layer → is_inst layer ≡ true → kind_of t ≡ Ty-F.Inst
instance_layer t Ty-F.Inst p h = kind_at t _ p
instance_layer t _ p h = absurd (cc)

-- ---- exits

own_exit : (own : ExitType) (r : Role) (e : Option Kind) (t : Ty) → reads_as (home.Process own) ≡ Some r → r ≡ process e → is_other_exit own t ≡ false → e ≡ Some (kind_of t)
own_exit exit.Nothing r e t role is h = absurd (cc)
own_exit exit.Untyped r e t role is h = absurd (cc)
own_exit (exit.Given own) r e t role is h =
    let first : process (Some (kind_of own)) ≡ process e = some_is (process (Some (kind_of own))) r role ∙ is in
    let exits : Some (kind_of own) ≡ e = cc in
    sym exits ∙ ap Some (sym (same_kind t own (not_false (same t own) h)))

may_start : (h : Home) (r : Role) (e : Option Kind) (place : Place) (t : Option Ty) → reads_as h ≡ Some r → r ≡ process e → exit_rule h place t ≡ [] → MayStart e (option_map kind_of t)
may_start h r e place None role is none = part.none e
may_start (home.Function (Some result)) r e place (Some t) role is none = absurd (cc)
may_start (home.Function None) r e place (Some t) role is none = absurd (cc)
may_start home.Experiment r e place (Some t) role is none =
    let never : function Ty-F.Void ≡ process e = some_is (function Ty-F.Void) r role ∙ is in
    absurd (cc)
may_start (home.Process own) r e place (Some t) role is none =
    let same = own_exit own r e t role is (unbroken (is_other_exit own t) STARTED_EXIT place none) in
    subst (λ o. MayStart e o) same (part.its_own e)

-- ---- arguments

module _ (h : Home) (scope : Scope) (role : reads_as h ≡ Some scope.role) (set : Set) where
  -- what is started, with its arguments
  record StartedBy (x : Started) : Type 0 where
    params : List Ty
    exits : Option Ty
    stands : ProcessStands scope x.process params exits
    may : (e : Option Kind) → scope.role ≡ process e → MayStart e (option_map kind_of exits)
    have : Have scope set x.arguments (kinds_of params)

  start_by : (b : Bool) (place : Place) (number : ℕ) (params : List Ty) (o : Option (List Made)) (x : Started) → ((ms : List Made) → o ≡ Some ms → Each (SoundMade scope set) ms)
      → (of_all ELEMENT_ARGUMENTS place b (started number params) o).made ≡ Some x → (x.process ≡ number) × Have scope set x.arguments (kinds_of params)
  start_by false place number params o x s e = absurd (cc)
  start_by true place number params None x s e = absurd (cc)
  start_by true place number params (Some ms) x s e =
      let m = mapped (λ es. record { process = number; arguments = es }) (passed ms params) x (settled_made ELEMENT_ARGUMENTS place (started number params ms) x e) in
      subst (λ (x : Started). (x.process ≡ number) × Have scope set x.arguments (kinds_of params)) m.2 (refl, passed_have scope set ms params m.0 (s ms refl) m.1)

  untyped_never : (place : Place) (k : NameKind) (x : Started) → (untyped_start place k).made ≡ Some x → ⊥
  untyped_never place kind.Variable x e = absurd (cc)
  untyped_never place _ x e = absurd (cc)

  visible_by : (place : Place) (o : Option Known) (arguments : List (Option Made)) (x : Started) → ((k : Known) → o ≡ Some k → Stands scope set k)
      → ((ms : List Made) → all_made arguments ≡ Some ms → Each (SoundMade scope set) ms) → (visible_start h place o arguments).made ≡ Some x → StartedBy x
  visible_by place None arguments x st s e = absurd (cc)
  visible_by place (Some (known.Proc number params exits)) arguments x st s e =
      let b = barred_made (exit_rule h place exits) (process_start place number params arguments) x e in
      let f = start_by (nat_eq (length arguments) (length params)) place number params (all_made arguments) x s b.1 in
      let stands = st (known.Proc number params exits) refl in
      record {
        params = params;
        exits = exits;
        stands = subst (λ number. ProcessStands scope number params exits) (sym f.0) stands;
        may = λ e is. may_start h scope.role e place exits role is b.0;
        have = f.1;
      }
  visible_by place (Some (known.Untyped k)) arguments x st s e = absurd (untyped_never place k x e)
  visible_by place _ arguments x st s e = absurd (cc)

  named_by : (b : Bool) (name : Name) (o : Option Known) (arguments : List (Option Made)) (x : Started) → ((k : Known) → o ≡ Some k → Stands scope set k)
      → ((ms : List Made) → all_made arguments ≡ Some ms → Each (SoundMade scope set) ms) → (if b then refused NAME_KIND name.place else visible_start h name.place o arguments).made ≡ Some x → StartedBy x
  named_by true name o arguments x st s e = absurd (cc)
  named_by false name o arguments x st s e = visible_by name.place o arguments x st s e

  -- ---- where the instance goes

  abbrev GoalIf : Option CTarget → Type 0
  GoalIf t = target_texts_if t ≡ true → (count : ℕ) → TakesInstance scope set (some of_target t count).part

  aim_goal : (a : Aim) (t : CTarget) → SoundAim scope set a → as_instance_target a ≡ Some t → GoalIf (Some t)
  aim_goal a t s e =
      let c = chosen (is_inst (out-Ty a.ty)) a.target t e in
      subst (λ t. GoalIf (Some t)) c.1 (λ short count.
      part.target (of_target a.target count).part (subst (TargetTakes scope set a.target.slot (of_target a.target count).part.steps) (instance_layer a.ty (out-Ty a.ty) refl c.0) (aim_takes scope set a s short count)))

  -- ---- an element

  make_sound : (t : Option CTarget) (x : Started) → GoalIf t → StartedBy x → SoundMake scope set (make t x)
  make_sound t x goal s = make_at scope set _ _ (element.outs-Make t x.process x.arguments) (λ e is short count.
      let both = and_parts _ _ short in
      subst (SoundElement scope e set) (sym (element.outs-Make _ x.process _))
      (part.makes set _ x.process _ s.stands.d s.stands.is (subst (λ o. MayStart e (option_map kind_of o)) (sym s.stands.exits) (s.may e is))
      (subst (λ ts. HaveKinds scope set (of_expressions x.arguments (some of_target t count).next).part (kinds_of ts)) (sym s.stands.takes) (s.have both.1 (some of_target t count).next)) (goal both.0 count)))

  nowhere : GoalIf None
  nowhere short count = part.nowhere

  element_by : (t : Option (Option CTarget)) (s : Option Started) (x : CElem) → ((g : CTarget) → t ≡ Some (Some g) → GoalIf (Some g)) → ((y : Started) → s ≡ Some y → StartedBy y)
      → element_made t s ≡ Some x → SoundMake scope set x
  element_by None s x goal st e = let m = mapped (make None) s x e in subst (SoundMake scope set) m.2 (make_sound None m.0 nowhere (st m.0 m.1))
  element_by (Some None) s x goal st e = absurd (cc)
  element_by (Some (Some g)) s x goal st e = let m = mapped (make (Some g)) s x e in subst (SoundMake scope set) m.2 (make_sound (Some g) m.0 (goal g refl) (st m.0 m.1))

  module _ (names : Names) (all : AllStand scope set names) where
    goal_by : (o : Option Target) (g : CTarget) → made_if (option_map (goal_in h names) o) ≡ Some (Some g) → GoalIf (Some g)
    goal_by None g e = absurd (cc)
    goal_by (Some target) g e =
        let f = one_made ELEMENT_TARGET target.name.place as_instance_target (target_in h names target).made g (some_is _ (Some g) e) in
        aim_goal f.0 g (target_aim h scope role set names all target f.0 f.1) f.2

    element_sound : (target : Option Target) (name : Name) (arguments : List Expr) (x : CElem) → (element_in h names target name arguments).made ≡ Some x → SoundMake scope set x
    element_sound target name arguments x e = element_by (made_if (option_map (goal_in h names) target)) _ x (goal_by target)
        (λ y is. named_by (is_predefined name.text) name (known_in names name.text) (map made_of (values_in h names arguments)) y (all name.text) (values_sound h scope role set names all arguments) is) e

pub make_kept : (h : Home) (scope : Scope) → reads_as h ≡ Some scope.role → (target : Option Target) (name : Name) (arguments : List Expr) → MakeKept scope (λ s. alone s (element_in h s.names target name arguments))
make_kept h scope role target name arguments = alone_kept scope _ nothing_more (each_by_parts scope CElem (SoundMake scope)) (λ names. element_in h names target name arguments) (λ set names x all e.
    (element_sound h scope role set names all target name arguments x e, tt))
