-- Declarations: each variable begins with a value of its type.
use Rattle.std.proofs.Common.{◌≡◌, ℕ, Bool, true, false, not, List, [], ◌∷◌, ◌++◌, map, Option, Some, None, refl, sym, ap, subst, ◌∙◌}
use Rattle.std.specs.Prelude.{option_map}
use Rattle.chi_token.specs.declared.place.Place.{Place}
use Rattle.chi_tree.specs.declared.statement.Initial.{Initial}
use Rattle.chi_tree.specs.declared.statement.Variable.{Variable}
use Rattle.chi_tree.specs.declared.type_tree.TypeTree.{TypeTree}
use Rattle.chi_types.specs.declared.ty.Ty.{Ty, Ty-F}
use Rattle.chi_types.specs.Plain.{is_plain}
use Rattle.chi_core.specs.declared.expression.CExpr.{CExpr}
use Rattle.chi_core.specs.declared.statement.CStat.{CStat, out-CStat}
use Rattle.chi_core.specs.declared.statement.CStat.TheVariants as statement
use Rattle.chi_core.specs.Kinds.{kind_of, holds_channel}
use Rattle.chi_core.specs.Scopes.{Role, function, process, Scope, may_declare}
use Rattle.chi_core.specs.SetSlots.{Known as Set, also, sets}
use Rattle.chi_check_types.specs.declared.meant.Meant.{Meant}
use Rattle.chi_check_types.specs.declared.rules.TheConstants.{NEW_NAME, INITIAL_VALUE, CHANNEL_IN_FUNCTION, IN_EXPERIMENT}
use Rattle.chi_check_types.specs.Names.{Names}
use Rattle.chi_check_expr.specs.Typing.{reading}
use Rattle.chi_check_laws.specs.KnownNames.{AllStand, Has, SoundMeant, may_make_default}
use Rattle.chi_check_laws.proofs.Conversions.{some_is, mapped}
use Rattle.chi_check_laws.proofs.Types.{default_sound}
use Rattle.chi_check.specs.Below.chi_check_stat_rules.specs.declared.home.ExitType.TheVariants as exit
use Rattle.chi_check.specs.Below.chi_check_stat_rules.specs.declared.home.Home.{Home}
use Rattle.chi_check.specs.Below.chi_check_stat_rules.specs.declared.home.Home.TheVariants as home
use Rattle.chi_check.specs.Below.chi_check_stat_rules.specs.Homes.{site_of, has_channel, local_rule}
use Rattle.chi_check.specs.Below.chi_check_stat_rules.specs.Places.{type_place}
use Rattle.chi_check.specs.Below.chi_check_stat_rules.specs.Values.{fitted}
use Rattle.chi_check_laws.proofs.SoundValues.{fitted_has}
use Rattle.chi_check.specs.Below.chi_check_stat_lines.specs.declared.state.Binder.TheVariants as binder
use Rattle.chi_check.specs.Below.chi_check_stat_lines.specs.declared.state.State.{State}
use Rattle.chi_check.specs.Below.chi_check_stat_lines.specs.Stated.{in_turn}
use Rattle.chi_check.specs.Below.chi_check_stat_lines.specs.States.{is_taken, next_slot, new_name_rule}
use Rattle.chi_check.specs.Below.chi_check_stat_lines.specs.Values.{value_in}
use Rattle.chi_check.specs.Below.chi_check_stat_lines.specs.Declarations.{declaration, initial_in, declared, declaration_in}
use Rattle.chi_check_laws.specs.Bodies.{reads_as, SlotsHave, set_by, Agrees, Grows}
use Rattle.chi_check_laws.proofs.Bodies.{AllSound, StatementKept, all_append, set_append}
use Rattle.chi_check_laws.proofs.Channels.{channel_kind, plain_holds_none}
use Rattle.chi_check_laws.proofs.More.{also_more, meant_more}
use Rattle.chi_check_laws.proofs.States.{grows_none, grows_on, slots_before, variable_grows}
use Rattle.chi_check_laws.proofs.Statements.{one_declare}
use Rattle.chi_check_laws.proofs.Turns.{both_made, held_made, unbroken}
use Rattle.chi_check_laws.proofs.Values.{two_made, value_sound, read_sound}
use Rattle.chi_check_laws.proofs.Walks.{variable_stands}

-- no local variable of a function or of an experiment has a type with a channel in it
not_held : (t : Ty) → has_channel t ≡ false → not (holds_channel (kind_of t)) ≡ true
not_held t h = ap not (channel_kind t ∙ h)

pub may_hold : (h : Home) (r : Role) (place : Place) (t : Ty) → reads_as h ≡ Some r → local_rule h place (Some t) ≡ [] → (may_declare r (kind_of t) ≡ true) × (may_make_default r (kind_of t) ≡ true)
may_hold (home.Function None) r place t role e = absurd (cc)
may_hold (home.Function (Some result)) r place t role e =
    let none = not_held t (unbroken (has_channel t) CHANNEL_IN_FUNCTION place e) in
    let is : function (kind_of result) ≡ r = some_is (function (kind_of result)) r role in
    subst (λ r. (may_declare r (kind_of t) ≡ true) × (may_make_default r (kind_of t) ≡ true)) is (none, none)
may_hold (home.Process exit.Nothing) r place t role e =
    subst (λ r. (may_declare r (kind_of t) ≡ true) × (may_make_default r (kind_of t) ≡ true)) (some_is (process None) r role) (refl, refl)
may_hold (home.Process exit.Untyped) r place t role e = absurd (cc)
may_hold (home.Process (exit.Given own)) r place t role e =
    subst (λ r. (may_declare r (kind_of t) ≡ true) × (may_make_default r (kind_of t) ≡ true)) (some_is (process (Some (kind_of own))) r role) (refl, refl)
may_hold home.Experiment r place t role e =
    let none = not_held t (plain_holds_none t (unbroken (not (is_plain t)) IN_EXPERIMENT place e)) in
    subst (λ r. (may_declare r (kind_of t) ≡ true) × (may_make_default r (kind_of t) ≡ true)) (some_is (function Ty-F.Void) r role) (none, none)

-- the set slots after a declaration
declare_sets : (line slot : ℕ) (e : CExpr) (set : Set) → sets (out-CStat (statement.Declare line slot e)) set ≡ also slot set
declare_sets line slot e set = ap (λ o. sets o set) (statement.outs-Declare line slot e)

-- a variable without a type has no initial value
pub no_initial : (h : Home) (names : Names) (o : Option Initial) (e : CExpr) → (initial_in h names None o).made ≡ Some e → ⊥
no_initial h names None e is = absurd (cc)
no_initial h names (Some initial) e is =
    let f = two_made INITIAL_VALUE initial.equals fitted (value_in h names initial.value).made None e is in
    never f.1 f.3
  where
    never : (t : Ty) → None ≡ Some t → ⊥
    never t e = cc

module _ (h : Home) (scope : Scope) (role : reads_as h ≡ Some scope.role) (loop : Bool) (line : ℕ) where
  -- what the type means, and what may be of it
  pub record Declares (set : Set) (m : Meant) : Type 0 where
    pub meant : SoundMeant scope set m
    pub may : may_declare scope.role (kind_of m.ty) ≡ true
    pub default : may_make_default scope.role (kind_of m.ty) ≡ true

  pub declares_more : (slot : ℕ) (set : Set) (m : Meant) → Declares set m → Declares (also slot set) m
  declares_more slot set m d = record { meant = meant_more scope set (also slot set) (also_more slot set) m d.meant; may = d.may; default = d.default }

  initial_has : (set : Set) (names : Names) (all : AllStand scope set names) (m : Meant) (o : Option Initial) (e : CExpr) → Declares set m → (initial_in h names (Some m) o).made ≡ Some e → Has scope set e (kind_of m.ty)
  initial_has set names all m None e d is = default_sound scope set m e d.meant d.default is
  initial_has set names all m (Some initial) e d is =
      let f = two_made INITIAL_VALUE initial.equals fitted (value_in h names initial.value).made (Some m.ty) e is in
      let same : m.ty ≡ f.1 = some_is m.ty f.1 f.3 in
      subst (λ t. Has scope set e (kind_of t)) (sym same) (fitted_has scope set f.0 f.1 e (value_sound h scope role set names all initial.value f.0 f.2) f.4)

  pub declared_grows : (meant : Option Meant) (v : Variable) (s : State) → Grows s (declared h line meant v s).next
  declared_grows meant v s = variable_grows binder.Variable v.name (option_map (λ m. m.ty) meant) s

  all_grow : (meant : Option Meant) (vs : List Variable) (s : State) → Grows s (in_turn (map (declared h line meant) vs) s).next
  all_grow meant [] s = grows_none s
  all_grow meant (v ∷ vs) s =
      let middle = (declared h line meant v s).next in
      grows_on s middle (in_turn (map (declared h line meant) vs) middle).next (declared_grows meant v s) (all_grow meant vs middle)

  pub declared_sound : (meant : Option Meant) (v : Variable) (set : Set) (s : State) (xs : List CStat) → ((m : Meant) → meant ≡ Some m → Declares set m) → SlotsHave scope (declared h line meant v s).next.slots → Agrees scope set s
      → (declared h line meant v s).made ≡ Some xs → AllSound scope loop set xs × Agrees scope (set_by xs set) (declared h line meant v s).next × (set_by xs set ≡ also (next_slot s) set)
  declared_sound None v set s xs d have all e =
      let b = held_made (new_name_rule s.names v.name) (declaration line (next_slot s) (initial_in h s.names None v.initial).made) xs e in
      let m = mapped (λ e. statement.Declare line (next_slot s) e ∷ []) (initial_in h s.names None v.initial).made xs b.1 in
      absurd (no_initial h s.names v.initial m.0 m.1)
  declared_sound (Some meant) v set s xs d have all e =
      let slot = next_slot s in
      let b = held_made (new_name_rule s.names v.name) (declaration line slot (initial_in h s.names (Some meant) v.initial).made) xs e in
      let m = mapped (λ e. statement.Declare line slot e ∷ []) (initial_in h s.names (Some meant) v.initial).made xs b.1 in
      let own = d meant refl in
      let new = unbroken (is_taken s.names v.name.text) NEW_NAME v.name.place b.0 in
      let var = variable_stands scope binder.Variable v.name meant.ty set s new own.meant.ty have all in
      let sets_slot = declare_sets line slot m.0 set in
      let one = one_declare scope loop set line slot m.0 (kind_of meant.ty) var.0 own.may (initial_has set s.names all.names meant v.initial m.0 own m.1) in (
        subst (AllSound scope loop set) m.2 (one, tt),
        subst (λ xs. Agrees scope (set_by xs set) (declared h line (Some meant) v s).next) m.2 (subst (λ set. Agrees scope set (declared h line (Some meant) v s).next) (sym sets_slot) var.1),
        subst (λ xs. set_by xs set ≡ also slot set) m.2 sets_slot,
      )

  all_declared : (meant : Option Meant) (vs : List Variable) (set : Set) (s : State) (xs : List CStat) → ((m : Meant) → meant ≡ Some m → Declares set m) → SlotsHave scope (in_turn (map (declared h line meant) vs) s).next.slots → Agrees scope set s
      → (in_turn (map (declared h line meant) vs) s).made ≡ Some xs → AllSound scope loop set xs × Agrees scope (set_by xs set) (in_turn (map (declared h line meant) vs) s).next
  all_declared meant [] set s xs d have all e =
      let none : [] ≡ xs = some_is [] xs e in
      (subst (AllSound scope loop set) none tt, subst (λ xs. Agrees scope (set_by xs set) s) none all)
  all_declared meant (v ∷ vs) set s xs d have all e =
      let middle = (declared h line meant v s).next in
      let last = (in_turn (map (declared h line meant) vs) middle).next in
      let m = both_made (λ x y. x ++ y) (declared h line meant v s).made (in_turn (map (declared h line meant) vs) middle).made xs e in
      let first = declared_sound meant v set s m.0 d (slots_before scope middle last (all_grow meant vs middle) have) all m.2 in
      let own : (other : Meant) → meant ≡ Some other → Declares (set_by m.0 set) other = λ other is. subst (λ set. Declares set other) (sym first.2) (declares_more (next_slot s) set other (d other is)) in
      let rest = all_declared meant vs (set_by m.0 set) middle m.1 own have first.1 m.3 in (
        subst (AllSound scope loop set) m.4 (all_append scope loop set m.0 m.1 first.0 rest.0),
        subst (λ xs. Agrees scope (set_by xs set) last) m.4 (subst (λ set. Agrees scope set last) (sym (set_append scope loop set m.0 m.1)) rest.1),
      )

pub declare_kept : (h : Home) (scope : Scope) → reads_as h ≡ Some scope.role → (loop : Bool) (tree : TypeTree) (variables : List Variable) → StatementKept scope loop (declaration_in h tree variables)
declare_kept h scope role loop tree variables = record {
  grows = λ s. all_grow h scope role loop (type_place tree).line (reading (site_of h) s.names tree true).made variables s;
  sound = λ set s xs have all e.
      let meant = (reading (site_of h) s.names tree true).made in
      let place = type_place tree in
      let b = held_made (local_rule h place (option_map (λ m. m.ty) meant)) (in_turn (map (declared h place.line meant) variables) s).made xs e in
      let own : (m : Meant) → meant ≡ Some m → Declares h scope role loop place.line set m = λ m is.
      let may = may_hold h scope.role place m.ty role (ap (λ o. local_rule h place (option_map (λ m. m.ty) o)) (sym is) ∙ b.0) in
      record { meant = read_sound h scope role set s.names all.names tree true m is; may = may.0; default = may.1 }
      in
      all_declared h scope role loop place.line meant variables set s xs own have all b.1;
}
