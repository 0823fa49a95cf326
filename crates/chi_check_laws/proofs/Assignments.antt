-- Assignments of as many values as targets, and of one tuple to several targets.
use Rattle.std.proofs.Common.{◌≡◌, ℕ, suc, Bool, true, false, List, [], ◌∷◌, map, length, Option, Some, None, refl, sym, ap, subst, ◌∙◌, arith}
use Rattle.std.proofs.lemmas.Bool.{and_parts}
use Rattle.std.specs.Prelude.{nat_eq, option_map, if◌then◌else◌}
use Rattle.chi_token.specs.declared.place.Place.{Place}
use Rattle.chi_tree.specs.declared.expr.Expr.{Expr}
use Rattle.chi_tree.specs.declared.statement.Target.{Target}
use Rattle.chi_types.specs.declared.ty.Ty.{Ty, Ty-F, out-Ty}
use Rattle.chi_types.specs.Same.{nameless, beside}
use Rattle.chi_core.specs.declared.statement.CStat.{CStat}
use Rattle.chi_core.specs.Kinds.{kind_of, kinds_of, erased, part_kinds}
use Rattle.chi_core.specs.Scopes.{Scope}
use Rattle.chi_core.specs.SetSlots.{Known as Set}
use Rattle.chi_core.proofs.Erased.{kind_at, served_kind}
use Rattle.chi_check_types.specs.declared.meant.Made.{Made}
use Rattle.chi_check_types.specs.declared.rules.TheConstants.{ASSIGNED_VALUE, TARGET_COUNT}
use Rattle.chi_check_types.specs.Names.{Names}
use Rattle.chi_check_types.specs.Typed.{refused}
use Rattle.chi_check_expr_rules.specs.Conversions.{passed}
use Rattle.chi_check_expr_rules.specs.Nodes.{of_one, all_made}
use Rattle.chi_check_expr.proofs.Kept.{Each}
use Rattle.chi_check_laws.specs.KnownNames.{AllStand, Has, SoundMade}
use Rattle.chi_check_laws.proofs.Conversions.{some_is, mapped, chained, chosen, passed_have}
use Rattle.chi_check_laws.proofs.Has.{Have}
use Rattle.chi_check.specs.Below.chi_check_stat_rules.specs.declared.home.Home.{Home}
use Rattle.chi_check.specs.Below.chi_check_stat_rules.specs.declared.parts.Aim.{Aim}
use Rattle.chi_check.specs.Below.chi_check_stat_rules.specs.Assignments.{all_aims, assign, stored, parts_fit, spread, spread_value, spread_one, only_one, uneven, even}
use Rattle.chi_check_laws.specs.Parts.{SoundAim}
use Rattle.chi_check_laws.proofs.Targets.{aims_take}
use Rattle.chi_check.specs.Below.chi_check_stat_lines.specs.Stated.{alone}
use Rattle.chi_check.specs.Below.chi_check_stat_lines.specs.Values.{made_of, assignment_place, values_in, target_in, assignment_in}
use Rattle.chi_check_laws.specs.Bodies.{reads_as}
use Rattle.chi_check_laws.specs.Whole.{has_any}
use Rattle.chi_check_laws.proofs.Bodies.{SoundOne, StatementKept, statements_by_parts}
use Rattle.chi_check_laws.proofs.Communications.{target_aim}
use Rattle.chi_check_laws.proofs.Statements.{Take, one_assign, one_spread}
use Rattle.chi_check_laws.proofs.Turns.{alone_kept}
use Rattle.chi_check_laws.proofs.Values.{one_made, two_made, values_sound}

aim_kinds : (aims : List Aim) → kinds_of (map (λ a. a.ty) aims) ≡ map (λ a. kind_of a.ty) aims
aim_kinds [] = refl
aim_kinds (a ∷ aims) = ap (λ rest. kind_of a.ty ∷ rest) (aim_kinds aims)

-- the parts of a tuple are of the kinds of their targets
fitting_parts : (parts : List (List ℕ × Ty)) (aims : List Aim) → parts_fit parts aims ≡ true → map (λ a. kind_of a.ty) aims ≡ part_kinds (nameless (map (beside erased) parts))
fitting_parts [] [] h = refl
fitting_parts [] (a ∷ aims) h = absurd (cc)
fitting_parts (p ∷ parts) [] h = absurd (cc)
fitting_parts (p ∷ parts) (a ∷ aims) h =
    let both = and_parts _ _ h in
    let first : kind_of a.ty ≡ kind_of p.1 = sym (served_kind p.1 a.ty both.0) in
    let rest = fitting_parts parts aims both.1 in
    λ i. first i ∷ rest i

-- as many aims
all_length : (os : List (Option Aim)) (aims : List Aim) → all_aims os ≡ Some aims → length os ≡ length aims
all_length [] aims e = ap length (some_is [] aims e)
all_length (o ∷ os) aims e =
    let f = chained (λ first. option_map (λ rest. first ∷ rest) (all_aims os)) o aims e in
    let g = mapped (λ rest. f.0 ∷ rest) (all_aims os) aims f.2 in
    ap suc (all_length os g.0 g.1) ∙ ap length g.2

only : (values : List (Option Made)) (o : Option Made) → only_one values ≡ Some o → length values ≡ 1
only [] o e = absurd (cc)
only (v ∷ []) o e = refl
only (v ∷ w ∷ more) o e = absurd (cc)

module _ (scope : Scope) (loop : Bool) (set : Set) (line : ℕ) where
  -- as many values as targets
  stored_sound : (ms : List Made) (aims : List Aim) (x : CStat) → Each (SoundMade scope set) ms → Each (SoundAim scope set) aims → stored line ms aims ≡ Some x → SoundOne scope loop set x
  stored_sound ms aims x h k e =
      let m = mapped (assign line aims) (passed ms (map (λ a. a.ty) aims)) x e in
      subst (SoundOne scope loop set) m.2 (one_assign scope loop set line (map (λ a. a.target) aims) m.0 (map (λ a. kind_of a.ty) aims)
      (subst (Have scope set m.0) (aim_kinds aims) (passed_have scope set ms (map (λ a. a.ty) aims) m.0 h m.1)) (aims_take scope set aims k))

  -- one tuple and at least two targets
  spread_by : (m : Made) (parts : List (List ℕ × Ty)) (aims : List Aim) (x : CStat) → out-Ty m.ty ≡ Ty-F.TupleOf parts → SoundMade scope set m → Each (SoundAim scope set) aims → (length aims ≡ 0 → ⊥) → (length aims ≡ 1 → ⊥)
      → spread line m.core parts aims ≡ Some x → SoundOne scope loop set x
  spread_by m parts [] x is h k some several e = absurd (some refl)
  spread_by m parts (a ∷ []) x is h k some several e = absurd (several refl)
  spread_by m parts (a ∷ b ∷ more) x is h k some several e =
      let c = chosen (parts_fit parts (a ∷ b ∷ more)) (assign line (a ∷ b ∷ more) (m.core ∷ [])) x e in
      let kinds = fitting_parts parts (a ∷ b ∷ more) c.0 in
      subst (SoundOne scope loop set) c.1 (one_spread scope loop set line a.target b.target (map (λ a. a.target) more) m.core (nameless (map (beside erased) parts))
      (subst (Has scope set m.core) (kind_at m.ty _ is) h.kind) (subst (Take scope set (map (λ a. a.target) (a ∷ b ∷ more))) kinds (aims_take scope set (a ∷ b ∷ more) k)))

  module _ (equals : Place) (os : List (Option Aim)) (aims_sound : (aims : List Aim) → all_aims os ≡ Some aims → Each (SoundAim scope set) aims) where
    parts_by : (b : Bool) (m : Made) (parts : List (List ℕ × Ty)) (x : CStat) → out-Ty m.ty ≡ Ty-F.TupleOf parts → SoundMade scope set m → (length os ≡ 0 → ⊥) → (length os ≡ 1 → ⊥)
        → (if b then of_one ASSIGNED_VALUE equals (spread line m.core parts) (all_aims os) else refused TARGET_COUNT equals).made ≡ Some x → SoundOne scope loop set x
    parts_by true m parts x is h some several e =
        let f = one_made ASSIGNED_VALUE equals (spread line m.core parts) (all_aims os) x e in
        let long = all_length os f.0 f.1 in
        spread_by m parts f.0 x is h (aims_sound f.0 f.1) (λ z. some (long ∙ z)) (λ z. several (long ∙ z)) f.2
    parts_by false m parts x is h some several e = absurd (cc)

    value_by : (m : Made) (layer : Ty-F Ty) (x : CStat) → out-Ty m.ty ≡ layer → SoundMade scope set m → (length os ≡ 0 → ⊥) → (length os ≡ 1 → ⊥)
        → (spread_value line equals os m.core layer).made ≡ Some x → SoundOne scope loop set x
    value_by m (Ty-F.TupleOf parts) x is h some several e = parts_by (nat_eq (length parts) (length os)) m parts x is h some several e
    value_by m _ x is h some several e = absurd (cc)

    one_by : (o : Option Made) (x : CStat) → ((m : Made) → o ≡ Some m → SoundMade scope set m) → (length os ≡ 0 → ⊥) → (length os ≡ 1 → ⊥) → (spread_one line equals os o).made ≡ Some x → SoundOne scope loop set x
    one_by None x s some several e = absurd (cc)
    one_by (Some m) x s some several e = value_by m (out-Ty m.ty) x refl (s m refl) some several e

    uneven_by : (values : List (Option Made)) (o : Option (Option Made)) (x : CStat) → only_one values ≡ o → ((v : Option Made) (m : Made) → only_one values ≡ Some v → v ≡ Some m → SoundMade scope set m)
        → (length os ≡ 0 → ⊥) → nat_eq (length values) (length os) ≡ false → (uneven line equals os o).made ≡ Some x → SoundOne scope loop set x
    uneven_by values None x is s some odd e = absurd (cc)
    uneven_by values (Some v) x is s some odd e =
        let single = only values v is in
        let several : length os ≡ 1 → ⊥ = λ z. two_ways (sym odd ∙ (λ i. nat_eq (single i) (z i))) in
        one_by v x (λ m. s v m is) some several e
      where
        two_ways : false ≡ true → ⊥
        two_ways e = cc

    assigned_by : (b : Bool) (values : List (Option Made)) (x : CStat) → nat_eq (length values) (length os) ≡ b → ((ms : List Made) → all_made values ≡ Some ms → Each (SoundMade scope set) ms)
        → ((v : Option Made) (m : Made) → only_one values ≡ Some v → v ≡ Some m → SoundMade scope set m) → (length os ≡ 0 → ⊥)
        → (if b then even line equals os values else uneven line equals os (only_one values)).made ≡ Some x → SoundOne scope loop set x
    assigned_by true values x is all s some e =
        let f = two_made ASSIGNED_VALUE equals (stored line) (all_made values) (all_aims os) x e in
        stored_sound f.0 f.1 x (all f.0 f.2) (aims_sound f.1 f.3) f.4
    assigned_by false values x is all s some e = uneven_by values (only_one values) x refl s some is e

module _ (h : Home) (scope : Scope) (role : reads_as h ≡ Some scope.role) (set : Set) (names : Names) (all : AllStand scope set names) where
  aims_in : (targets : List Target) (aims : List Aim) → all_aims (map made_of (map (target_in h names) targets)) ≡ Some aims → Each (SoundAim scope set) aims
  aims_in [] aims e = subst (Each (SoundAim scope set)) (some_is [] aims e) tt
  aims_in (t ∷ targets) aims e =
      let f = chained (λ first. option_map (λ rest. first ∷ rest) (all_aims (map made_of (map (target_in h names) targets)))) (target_in h names t).made aims e in
      let g = mapped (λ rest. f.0 ∷ rest) (all_aims (map made_of (map (target_in h names) targets))) aims f.2 in
      subst (Each (SoundAim scope set)) g.2 (target_aim h scope role set names all t f.0 f.1, aims_in targets g.0 g.1)

  only_in : (values : List Expr) (v : Option Made) (m : Made) → only_one (map made_of (values_in h names values)) ≡ Some v → v ≡ Some m → SoundMade scope set m
  only_in [] v m e is = absurd (cc)
  only_in (x ∷ []) v m e is = (values_sound h scope role set names all (x ∷ []) (m ∷ []) (ap (λ o. all_made (o ∷ [])) (some_is _ v e ∙ is))).0
  only_in (x ∷ y ∷ more) v m e is = absurd (cc)

  some_targets : (targets : List Target) → has_any targets ≡ true → length (map made_of (map (target_in h names) targets)) ≡ 0 → ⊥
  some_targets [] w e = absurd (cc)
  some_targets (t ∷ targets) w e = suc_never _ e
    where
      suc_never : (n : ℕ) → suc n ≡ 0 → ⊥
      suc_never n e = absurd (omega (arith, e))

  pub assignment_sound : (loop : Bool) (targets : List Target) (equals : Place) (values : List Expr) (x : CStat) → has_any targets ≡ true → (assignment_in h names targets equals values).made ≡ Some x → SoundOne scope loop set x
  assignment_sound loop targets equals values x w e =
      let os = map made_of (map (target_in h names) targets) in
      let ms = map made_of (values_in h names values) in
      assigned_by scope loop set (assignment_place targets equals).line equals os (aims_in targets) (nat_eq (length ms) (length os)) ms x refl (values_sound h scope role set names all values) (only_in values) (some_targets targets w) e

pub assign_kept : (h : Home) (scope : Scope) → reads_as h ≡ Some scope.role → (loop : Bool) (targets : List Target) (equals : Place) (values : List Expr) → has_any targets ≡ true
    → StatementKept scope loop (λ s. alone s (assignment_in h s.names targets equals values))
assign_kept h scope role loop targets equals values w = alone_kept scope _ _ (statements_by_parts scope loop) (λ names. assignment_in h names targets equals values) (λ set names x all e.
    (assignment_sound h scope role set names all loop targets equals values x w e, tt))
