-- Private to proofs. Constants have values of their types, which read earlier constants alone; and so do the names of types.
use Rattle.std.proofs.Common.{ℕ, ◌≡◌, ◌<◌, ◌≤◌, ◌+◌, Bool, true, false, cond, List, [], ◌∷◌, ◌++◌, map, length, Option, Some, None, refl, sym, ap, subst, ◌∙◌, arith, lt_of_lt_of_le, append_assoc, append-nil}
use Rattle.std.proofs.lemmas.Bool.{lt-ltb}
use Rattle.std.specs.Prelude.{slice_get}
use Rattle.chi_token.specs.declared.place.Place.{Place}
use Rattle.chi_tree.specs.declared.definition.Definition.{Definition}
use Rattle.chi_tree.specs.declared.definition.Definition.TheVariants as definition
use Rattle.chi_tree.specs.declared.expr.Expr.{Expr}
use Rattle.chi_tree.specs.declared.type_tree.Name.{Name}
use Rattle.chi_tree.specs.declared.type_tree.TypeTree.{TypeTree}
use Rattle.chi_types.specs.declared.ty.Ty.{Ty}
use Rattle.chi_value.specs.Names.{name_at}
use Rattle.chi_core.specs.declared.expression.CExpr.{CExpr}
use Rattle.chi_core.specs.declared.program.ConstDef.{ConstDef}
use Rattle.chi_core.specs.declared.program.Core.{Core}
use Rattle.chi_core.specs.Kinds.{kind_of}
use Rattle.chi_core.specs.Scopes.{constant_scope}
use Rattle.chi_core.specs.Sound.{SoundIn, nothing_known}
use Rattle.chi_check_types.specs.declared.known.Known.{Known}
use Rattle.chi_check_types.specs.declared.known.Known.TheVariants as known
use Rattle.chi_check_types.specs.declared.known.NameKind.TheVariants as kind
use Rattle.chi_check_types.specs.declared.meant.Made.{Made}
use Rattle.chi_check_types.specs.declared.meant.Meant.{Meant}
use Rattle.chi_check_types.specs.declared.rules.TheConstants.{INITIAL_VALUE}
use Rattle.chi_check_types.specs.declared.site.Site.TheVariants as site
use Rattle.chi_check_types.specs.Names.{Names, known_in}
use Rattle.chi_check_expr.specs.Typing.{typing, reading}
use Rattle.chi_check_expr.proofs.Nodes.{settled_made, barred_made}
use Rattle.chi_check.specs.Below.chi_check_stat_rules.specs.Values.{fitted, constant_rule, initial_value, constant_value}
use Rattle.chi_check.specs.Below.chi_check_streams.specs.Streams.{of_constant, each}
use Rattle.chi_check.specs.Below.chi_check_stat_lines.specs.Stated.{in_turn}
use Rattle.chi_check.specs.Below.chi_check_stat_lines.specs.States.{with_name}
use Rattle.chi_check.specs.Below.chi_check_headers.specs.declared.sketch.Early.{Early}
use Rattle.chi_check.specs.Below.chi_check_headers.specs.Headers.{type_in}
use Rattle.chi_check.specs.Below.chi_check_headers.specs.Definitions.{means, constant_known, constant, constant_defined, type_known, type_defined, early_defined}
use Rattle.chi_check_laws.proofs.SoundValues.{fitted_has}
use Rattle.chi_check_laws.specs.KnownNames.{AllStand, Has, Stands, ConstantStands}
use Rattle.chi_check_laws.proofs.WholeParts.{expression_sound, type_sound}
use Rattle.chi_check_laws.proofs.Entries.{Entries, known_entry, entries_with, entries_so}
use Rattle.chi_check_laws.proofs.Positions.{length_join, get_seam, joined_parts, both_parts, map_parts, some_same, get_counted}

-- a constant has this type
pub record ConstantIs (core : Core) (number : ℕ) (t : Ty) : Type 0 where
  pub c : ConstDef
  pub is : slice_get core.consts number ≡ Some c
  pub typed : c.ty ≡ t
  pub ty : SoundIn core t

-- what is known of a type, a value or a constant agrees with a program, of which so many constants may be read
abbrev pub EarlyStands : Core → ℕ → Known → Type 0
EarlyStands core count (known.Kind t) = SoundIn core t
EarlyStands core count (known.Value enumeration position) = (name : List ℕ) × (name_at core.names.kinds enumeration position ≡ Some name)
EarlyStands core count (known.Const number t) = (number < count) × ConstantIs core number t
EarlyStands core count _ = ⊥

module _ (core : Core) where
  still_stands : (count more : ℕ) → count ≤ more → (k : Known) → EarlyStands core count k → EarlyStands core more k
  still_stands count more l (known.Kind t) h = h
  still_stands count more l (known.Value enumeration position) h = h
  still_stands count more l (known.Const number t) h = (lt_of_lt_of_le h.0 l, h.1)
  still_stands count more l (known.Var slot t) h = absurd h
  still_stands count more l (known.Fixed slot t) h = absurd h
  still_stands count more l (known.Func number params result) h = absurd h
  still_stands count more l (known.Proc number params exit) h = absurd h
  still_stands count more l (known.Model number params exit) h = absurd h
  still_stands count more l (known.Xper number) h = absurd h
  still_stands count more l (known.Untyped k) h = absurd h

  constant_stands : (number : ℕ) (t : Ty) (count : ℕ) → (number < count) × ConstantIs core number t → ConstantStands (constant_scope core count) number t
  constant_stands number t count h = record { c = h.1.c; is = h.1.is; read = lt-ltb number count h.0; typed = h.1.typed; ty = h.1.ty }

  in_scope : (count : ℕ) (k : Known) → EarlyStands core count k → Stands (constant_scope core count) nothing_known k
  in_scope count (known.Kind t) h = h
  in_scope count (known.Value enumeration position) h = record { name = h.0; is = h.1 }
  in_scope count (known.Const number t) h = constant_stands number t count h
  in_scope count (known.Var slot t) h = absurd h
  in_scope count (known.Fixed slot t) h = absurd h
  in_scope count (known.Func number params result) h = absurd h
  in_scope count (known.Proc number params exit) h = absurd h
  in_scope count (known.Model number params exit) h = absurd h
  in_scope count (known.Xper number) h = absurd h
  in_scope count (known.Untyped k) h = absurd h

  all_stand : (count : ℕ) (names : Names) → Entries (EarlyStands core count) names → AllStand (constant_scope core count) nothing_known names
  all_stand count names h name k found = in_scope count k (known_entry (EarlyStands core count) names name k h found)

-- ---- a constant of a number

pub record ConstantAt (core : Core) (number : ℕ) (c : ConstDef) : Type 0 where
  pub ty : SoundIn core c.ty
  pub value : Has (constant_scope core number) nothing_known c.value (kind_of c.ty)

abbrev pub ConstantsFrom : Core → ℕ → List ConstDef → Type 0
ConstantsFrom core number [] = Unit {0}
ConstantsFrom core number (c ∷ cs) = ConstantAt core number c × ConstantsFrom core (number + 1) cs

-- what holds after more constants
pub record Next (core : Core) (prior more : List ConstDef) (next : Early) : Type 0 where
  pub counted : next.constants ≡ length (prior ++ more)
  pub visible : Entries (EarlyStands core (length (prior ++ more))) next.names
  pub sound : ConstantsFrom core (length prior) more

-- the value of a constant was typed, and fits its type
value_made : (equals : Place) (m : Option Made) (t : Ty) (e : CExpr) → (constant_value equals m (Some t)).made ≡ Some e → (a : Made) × (m ≡ Some a) × (fitted a t ≡ Some e)
value_made equals None t e h = absurd (let b = (barred_made (constant_rule equals (Some t)) (initial_value equals None (Some t)) e h).1 in cc)
value_made equals (Some a) t e h =
    let b = barred_made (constant_rule equals (Some t)) (initial_value equals (Some a) (Some t)) e h in
    (a, refl, settled_made INITIAL_VALUE equals (fitted a t) e b.1)

-- the constants of a program, with its streams
module _ (core : Core) (consts : List ConstDef) (streamed : core.consts ≡ (each (map of_constant consts) 0).part) where
  constant_there : (prior rest : List ConstDef) (c : ConstDef) → consts ≡ prior ++ c ∷ rest → SoundIn core c.ty → ConstantIs core (length prior) c.ty
  constant_there prior rest c e sound =
      let at : slice_get consts (length prior) ≡ Some c = ap (λ cs. slice_get cs (length prior)) e ∙ get_seam prior rest c in
      let found = get_counted of_constant consts 0 (length prior) c at in
      record { c = (of_constant c found.0).part; is = ap (λ cs. slice_get cs (length prior)) streamed ∙ found.1; typed = refl; ty = sound }

  abbrev Before : List ConstDef → Early → Type 0
  Before prior s = (s.constants ≡ length prior) × Entries (EarlyStands core (length prior)) s.names

  later : (prior more : List ConstDef) (names : Names) → Entries (EarlyStands core (length prior)) names → Entries (EarlyStands core (length (prior ++ more))) names
  later prior more names h =
      let longer = length_join prior more in
      entries_so (EarlyStands core (length prior)) (EarlyStands core (length (prior ++ more))) (still_stands core (length prior) (length (prior ++ more)) (omega (arith, longer))) names h

  either_definition : (P : Known → Type 0) (b : Bool) (names : Names) (text : List ℕ) (k : Known) → Entries P names → P k → Entries P (cond b (with_name names text k) names)
  either_definition P true names text k h p = entries_with P names text k h p
  either_definition P false names text k h p = h

  known_constant : (count number : ℕ) (o : Option Ty) (t : Ty) → o ≡ Some t → (number < count) × ConstantIs core number t → EarlyStands core count (constant_known number o)
  known_constant count number o t e h = subst (λ o. EarlyStands core count (constant_known number o)) (sym e) h

  known_type : (count : ℕ) (o : Option Ty) (t : Ty) → o ≡ Some t → SoundIn core t → EarlyStands core count (type_known o)
  known_type count o t e h = subst (λ o. EarlyStands core count (type_known o)) (sym e) h

  sound_type : (prior : List ConstDef) (s : Early) (tree : TypeTree) (t : Ty) → Entries (EarlyStands core (length prior)) s.names → (type_in site.Constant s.names tree).given ≡ Some t → SoundIn core t
  sound_type prior s tree t h e =
      let r = reading site.Constant s.names tree false in
      let found = map_parts (λ (m : Meant). m.ty) r.made t e in
      subst (SoundIn core) found.2 (type_sound (constant_scope core (length prior)) nothing_known site.Constant s.names tt (all_stand core (length prior) s.names h) tree false found.0 found.1).ty

  constant_next : (all : Names) (place : Place) (tree : TypeTree) (name : Name) (equals : Place) (value : Expr) (prior rest more : List ConstDef) (s : Early)
      → (constant_defined all place tree name equals value s).made ≡ Some more → consts ≡ prior ++ (more ++ rest) → Before prior s → Next core prior more (constant_defined all place tree name equals value s).next
  constant_next all place tree name equals value prior rest more s e whole h =
      let t = type_in site.Constant s.names tree in
      let v = typing site.Constant s.names value in
      let x = constant_value equals v.made t.given in
      let parts = both_parts (constant place.line) t.given x.made more e in
      let c : ConstDef = record { line = place.line; ty = parts.0; value = parts.1 } in
      let sound = sound_type prior s tree parts.0 h.1 parts.2 in
      let typed = value_made equals v.made parts.0 parts.1 (subst (λ o. (constant_value equals v.made o).made ≡ Some parts.1) parts.2 parts.3) in
      let made = expression_sound (constant_scope core (length prior)) nothing_known site.Constant s.names tt (all_stand core (length prior) s.names h.1) value typed.0 typed.1 in
      let there = constant_there prior rest c (subst (λ more. consts ≡ prior ++ (more ++ rest)) (sym parts.4) whole) sound in
      let longer = length_join prior (c ∷ []) in
      let count = h.0 in
      let Now : Known → Type 0 = EarlyStands core (length (prior ++ c ∷ [])) in
      let number : (s.constants < length (prior ++ c ∷ [])) × ConstantIs core s.constants parts.0 = (omega (arith, longer, count), subst (λ n. ConstantIs core n parts.0) (sym h.0) there) in
      let next = (constant_defined all place tree name equals value s).next in
      subst (λ more. Next core prior more next) parts.4 (record {
        counted = omega (arith, longer, count);
        visible = either_definition Now (means kind.Constant (known_in all name.text)) s.names name.text (constant_known s.constants t.given) (later prior (c ∷ []) s.names h.1)
            (known_constant (length (prior ++ c ∷ [])) s.constants t.given parts.0 parts.2 number);
        sound = (record { ty = sound; value = fitted_has (constant_scope core (length prior)) nothing_known typed.0 parts.0 parts.1 made typed.2 }, tt);
      })

  none_next : (prior more : List ConstDef) (s next : Early) → Some [] ≡ Some more → next.constants ≡ s.constants → Entries (EarlyStands core (length prior)) next.names → Before prior s → Next core prior more next
  none_next prior more s next e c v h = subst (λ more. Next core prior more next) (some_same [] more e) (record {
    counted = c ∙ h.0 ∙ ap length (sym (append-nil prior));
    visible = subst (λ cs. Entries (EarlyStands core (length cs)) next.names) (sym (append-nil prior)) v;
    sound = tt;
  })

  type_next : (all : Names) (name : Name) (tree : TypeTree) (prior more : List ConstDef) (s : Early) → (type_defined all name tree s).made ≡ Some more → Before prior s → Next core prior more (type_defined all name tree s).next
  type_next all name tree prior more s e h =
      let t = type_in site.Constant s.names tree in
      let parts = map_parts {B = List ConstDef} (λ t. []) t.given more e in
      none_next prior more s (type_defined all name tree s).next (ap Some parts.2) refl
      (either_definition (EarlyStands core (length prior)) (means kind.Type (known_in all name.text)) s.names name.text (type_known t.given) h.1
      (known_type (length prior) t.given parts.0 parts.1 (sound_type prior s tree parts.0 h.1 parts.1))) h

  one_next : (all : Names) (d : Definition) (prior rest more : List ConstDef) (s : Early) → (early_defined all d s).made ≡ Some more → consts ≡ prior ++ (more ++ rest) → Before prior s → Next core prior more (early_defined all d s).next
  one_next all (definition.Const place tree name equals value) prior rest more s e whole h = constant_next all place tree name equals value prior rest more s e whole h
  one_next all (definition.TypeWord place name tree) prior rest more s e whole h = type_next all name tree prior more s e h
  one_next all (definition.Enum place name values) prior rest more s e whole h = none_next prior more s s e refl h.1 h
  one_next all (definition.Func place tree name formals steps) prior rest more s e whole h = none_next prior more s s e refl h.1 h
  one_next all (definition.Proc place tree name formals steps) prior rest more s e whole h = none_next prior more s s e refl h.1 h
  one_next all (definition.Model place tree name formals steps) prior rest more s e whole h = none_next prior more s s e refl h.1 h
  one_next all (definition.Xper place name steps) prior rest more s e whole h = none_next prior more s s e refl h.1 h

  more_from : (number : ℕ) (cs ds : List ConstDef) → ConstantsFrom core number cs → ConstantsFrom core (number + length cs) ds → ConstantsFrom core number (cs ++ ds)
  more_from number [] ds h k = subst (λ n. ConstantsFrom core n ds) (let e = number in omega arith) k
  more_from number (c ∷ cs) ds h k = (h.0, more_from (number + 1) cs ds h.1 (subst (λ n. ConstantsFrom core n ds) (omega arith) k))

  pub constants_next : (all : Names) (ds : List Definition) (prior more : List ConstDef) (s : Early) → (in_turn (map (early_defined all) ds) s).made ≡ Some more → consts ≡ prior ++ more → Before prior s
      → Next core prior more (in_turn (map (early_defined all) ds) s).next
  constants_next all [] prior more s e whole h = none_next prior more s s e refl h.1 h
  constants_next all (d ∷ ds) prior more s e whole h =
      let first = early_defined all d s in
      let last = in_turn (map (early_defined all) ds) first.next in
      let parts = joined_parts first.made last.made more e in
      let one = one_next all d prior parts.1 parts.0 s parts.2 (whole ∙ ap (λ more. prior ++ more) (sym parts.4)) h in
      let rest = constants_next all ds (prior ++ parts.0) parts.1 first.next parts.3 (whole ∙ ap (λ more. prior ++ more) (sym parts.4) ∙ sym (append_assoc prior parts.0 parts.1)) (one.counted, one.visible) in
      let again : (prior ++ parts.0) ++ parts.1 ≡ prior ++ more = append_assoc prior parts.0 parts.1 ∙ ap (λ more. prior ++ more) parts.4 in
      record {
        counted = rest.counted ∙ ap length again;
        visible = subst (λ cs. Entries (EarlyStands core (length cs)) last.next.names) again rest.visible;
        sound = subst (ConstantsFrom core (length prior)) parts.4 (more_from (length prior) parts.0 parts.1 one.sound (subst (λ n. ConstantsFrom core n parts.1) (length_join prior parts.0) rest.sound));
      }
