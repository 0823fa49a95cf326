-- Expressions and types that come to something are sound: each rule keeps that, and so do all trees.
use Rattle.std.proofs.Common.{◌≡◌, ℕ, suc, Bool, true, false, cond, List, [], ◌∷◌, length, Option, Some, None, refl, ap, subst}
use Rattle.std.specs.Prelude.{option_map, nat_eq}
use Rattle.chi_token.specs.declared.place.Place.{Place}
use Rattle.chi_types.specs.declared.ty.Ty.{Ty, out-Ty}
use Rattle.chi_core.specs.Scopes.{Scope}
use Rattle.chi_core.specs.SetSlots.{Known as Set}
use Rattle.chi_core.specs.SoundTypes as sound
use Rattle.chi_core.specs.SoundTypes.{SoundType, SoundParts}
use Rattle.chi_check_types.specs.declared.known.Known.{Known}
use Rattle.chi_check_types.specs.declared.known.Known.TheVariants as known
use Rattle.chi_check_types.specs.declared.known.NameKind.{NameKind}
use Rattle.chi_check_types.specs.declared.known.NameKind.TheVariants as kind
use Rattle.chi_check_types.specs.declared.meant.Made.{Made}
use Rattle.chi_check_types.specs.declared.meant.Meant.{Meant}
use Rattle.chi_check_types.specs.declared.predefined.Predefined.{Predefined}
use Rattle.chi_check_types.specs.declared.predefined.Predefined.TheVariants as predefined_name
use Rattle.chi_check_types.specs.declared.rules.TheConstants.{CALL_ARGUMENTS, PREDEFINED}
use Rattle.chi_check_types.specs.declared.site.Site.{Site}
use Rattle.chi_check_types.specs.Names.{Names, known_in}
use Rattle.chi_check_expr_rules.specs.Nodes.{of_all, all_made}
use Rattle.chi_check_expr_rules.specs.Sites.{calling_rule}
use Rattle.chi_check_expr_rules.specs.Operators.{binary, power}
use Rattle.chi_check_expr_rules.specs.Comparisons.{related}
use Rattle.chi_check_expr_rules.specs.Calls.{called, function_call, untyped_call, call_of}
use Rattle.chi_check_expr_rules.specs.PredefinedCalls.{is_count, predefined, before_third, insert_parts, insert_call, plain_call, is_insert, predefined_rule, predefined_made, predefined_call}
use Rattle.chi_check_expr_rules.specs.Parts.{indexed, field}
use Rattle.chi_check_expr_rules.specs.Containers as literals
use Rattle.chi_check_expr.proofs.Kept.{Each, FieldOk, typed_parts, Keeps}
use Rattle.chi_check_laws.specs.KnownNames.{IsSite, AllStand, SoundMade, SoundMeant}
use Rattle.chi_check_laws.proofs.Sites.{may_call_there, settled_made, barred_made}
use Rattle.chi_check_laws.proofs.Operators.{binary_sound, power_sound, prefix_sound}
use Rattle.chi_check_laws.proofs.Comparisons.{related_sound}
use Rattle.chi_check_laws.proofs.Casts.{cast_sound}
use Rattle.chi_check_laws.proofs.Parts.{indexed_sound, sliced_sound, field_sound}
use Rattle.chi_check_laws.proofs.Containers.{tuple_sound, list_sound, set_sound, dictionary_sound, empty_list_sound, empty_set_sound, empty_dictionary_sound}
use Rattle.chi_check_laws.proofs.PredefinedCalls.{predefined_sound, insertion_sound}
use Rattle.chi_check_laws.proofs.Names.{int_literal_sound, real_literal_sound, text_literal_sound, bool_literal_sound, name_sound, time_sound, called_sound}
use Rattle.chi_check_laws.proofs.Types.{word_sound, named_type_sound, list_type_sound, sized_list_sound, set_type_sound, dictionary_type_sound, dist_sound, tuple_type_sound, chan_sound, void_chan_sound}

-- ---- parts that all have types

all_typed : (ms : List Made) → all_made (typed_parts ms) ≡ Some ms
all_typed [] = refl
all_typed (m ∷ ms) = ap (option_map (λ more. m ∷ more)) (all_typed ms)

length_typed : (ms : List Made) → length (typed_parts ms) ≡ length ms
length_typed [] = refl
length_typed (m ∷ ms) = ap suc (length_typed ms)

all_of : {B : Type 0} (rule : ℕ) (place : Place) (count : Bool) (f : List Made → Option B) (ms : List Made) (m : B) → (of_all rule place count f (Some ms)).made ≡ Some m → (count ≡ true) × (f ms ≡ Some m)
all_of rule place true f ms m e = (refl, settled_made rule place (f ms) m e)
all_of rule place false f ms m e = absurd (cc)

module _ (scope : Scope) (set : Set) (s : Site) (names : Names) (at : IsSite s scope.role) (all : AllStand scope set names) where
  abbrev T : Made → Type 0
  T = SoundMade scope set

  abbrev U : Meant → Type 0
  U = SoundMeant scope set

  untyped_never : (place : Place) (k : NameKind) (m : Made) → (untyped_call s place k).made ≡ Some m → ⊥
  untyped_never place kind.Variable m e = absurd (cc)
  untyped_never place _ m e = absurd (cc)

  call_by : (name : List ℕ) (place : Place) (k : Known) (ms : List Made) (m : Made) → known_in names name ≡ Some k → Each T ms → (call_of s place (Some k) (typed_parts ms)).made ≡ Some m → T m
  call_by name place (known.Func number params result) ms m found hs e =
      let both = barred_made (calling_rule s place) (function_call place number params result (typed_parts ms)) m e in
      let whole = subst (λ (o : Option (List Made)). (of_all CALL_ARGUMENTS place (nat_eq (length (typed_parts ms)) (length params)) (called number params result) o).made ≡ Some m) (all_typed ms) both.1 in
      called_sound scope set number params result ms m (may_call_there s scope.role place at both.0) (all name _ found) hs (all_of CALL_ARGUMENTS place _ (called number params result) ms m whole).1
  call_by name place (known.Untyped k) ms m found hs e = absurd (untyped_never place k m e)
  call_by name place _ ms m found hs e = absurd (cc)

  -- without a name as the third argument nothing is inserted
  none_inserted : (place : Place) (parts : Option (Option Made × Option Made)) (m : Made) → (insert_parts place parts None).made ≡ Some m → ⊥
  none_inserted place None m e = absurd (cc)
  none_inserted place (Some (None, x)) m e = absurd (cc)
  none_inserted place (Some (Some list, None)) m e = absurd (cc)
  none_inserted place (Some (Some list, Some x)) m e = absurd (cc)

  predefined_by : (p : Predefined) (place : Place) (ms : List Made) (m : Made) → Each T ms → (predefined_call s place p (typed_parts ms) None).made ≡ Some m → T m
  predefined_by p place ms m hs e =
      let both = barred_made (predefined_rule s p place) (predefined_made place p (typed_parts ms) None) m e in
      by (is_insert p) both.0 both.1
    where
      by : (b : Bool) → predefined_rule s p place ≡ [] → (cond b (insert_call place (typed_parts ms) None) (plain_call place p (typed_parts ms))).made ≡ Some m → T m
      by true rule e = absurd (none_inserted place (before_third (typed_parts ms)) m e)
      by false rule e =
          let whole = subst (λ (o : Option (List Made)). (of_all PREDEFINED place (is_count p (length (typed_parts ms))) (predefined p) o).made ≡ Some m) (all_typed ms) e in
          let counted = all_of PREDEFINED place (is_count p (length (typed_parts ms))) (predefined p) ms m whole in
          predefined_sound scope set p s place ms m at rule (subst (λ n. is_count p n ≡ true) (length_typed ms) counted.0) hs counted.1

  insertion_by : (place : Place) (list x : Made) (by : List ℕ) (k : Known) (m : Made) → T list → T x → known_in names by ≡ Some k
      → (predefined_call s place predefined_name.Insert (Some list ∷ Some x ∷ None ∷ []) (Some k)).made ≡ Some m → T m
  insertion_by place list x by k m h j found e =
      let both = barred_made (calling_rule s place) (predefined_made place predefined_name.Insert (Some list ∷ Some x ∷ None ∷ []) (Some k)) m e in
      insertion_sound scope set place list x k m (may_call_there s scope.role place at both.0) (all by k found) h j both.1

  each_part : (parts : List (List ℕ × Ty)) → Each (FieldOk U) parts → SoundParts (length scope.core.names.kinds) parts
  each_part [] h = sound.no_part
  each_part (part ∷ parts) h = sound.one_part part parts (subst (λ t. SoundType (length scope.core.names.kinds) (out-Ty t)) h.0.2 h.0.1.ty) (each_part parts h.1)

  pub keeps_sound : Keeps s names T U
  keeps_sound = record {
    int = int_literal_sound scope set;
    real = real_literal_sound scope set;
    text = text_literal_sound scope set;
    bool = bool_literal_sound scope set;
    time = λ place m e. time_sound scope set s place m at e;
    name = λ name k m found e. name_sound scope set name.place k m (all name.text k found) e;
    chain = λ sign place a b m h k e. binary_sound scope set sign a b m h k (settled_made _ place (binary sign a b) m e);
    prefix = λ sign place a m h e. prefix_sound scope set s sign place a m at h e;
    relation = λ sign place a b m h k e. related_sound scope set sign a b m h k (settled_made _ place (related sign a b) m e);
    power = λ place a b m h k e. power_sound scope set a b m h k (settled_made _ place (power a b) m e);
    cast = λ word place a m h e. cast_sound scope set s word place a m at h e;
    index = λ place whole i m h k e. indexed_sound scope set whole i m h k (settled_made _ place (indexed whole i) m e);
    slice = λ whole b bounds m h hs are e. sliced_sound scope set b whole bounds m are h hs e;
    field = λ name whole m h e. field_sound scope set name.text whole m h (settled_made _ name.place (field name.text whole) m e);
    call = λ name k ms m found hs e. call_by name.text name.place k ms m found hs e;
    predefined_name = predefined_by;
    insertion = insertion_by;
    tuple = λ place ms m hs e. tuple_sound scope set place ms m hs (subst (λ (o : Option (List Made)). (literals.tuple_parts place o).made ≡ Some m) (all_typed ms) e);
    list = λ place ms m hs e. list_sound scope set place ms (literals.joined_all ms) m hs refl (subst (λ (o : Option (List Made)). (literals.list_parts place o).made ≡ Some m) (all_typed ms) e);
    set = λ place ms m hs e. set_sound scope set place ms (literals.joined_all ms) m hs refl (subst (λ (o : Option (List Made)). (literals.set_parts place o).made ≡ Some m) (all_typed ms) e);
    dict = λ place ks vs m hs js e. dictionary_sound scope set place ks vs (literals.joined_all ks) (literals.joined_all vs) m hs js refl refl
        (subst (λ (o : Option (List Made)). (literals.dict_parts place (Some ks) o).made ≡ Some m) (all_typed vs) (subst (λ (o : Option (List Made)). (literals.dict_parts place o (all_made (typed_parts vs))).made ≡ Some m) (all_typed ks) e));
    empty_list = λ place element m h e. empty_list_sound scope set place element m h.ty e;
    empty_set = λ place element m h e. empty_set_sound scope set place element m h.ty e;
    empty_dict = λ place key value m h k e. empty_dictionary_sound scope set place key value m h.ty k.ty e;
    word = word_sound scope set;
    named_type = λ name k m found e. named_type_sound scope set name.place k m (all name.text k found) e;
    list_type = list_type_sound scope set;
    sized_list = sized_list_sound scope set;
    set_type = set_type_sound scope set;
    dict_type = dictionary_type_sound scope set;
    dist = dist_sound scope set;
    tuple_type = λ place fields parts m h e. tuple_type_sound scope set place fields parts m (each_part parts h) e;
    chan = chan_sound scope set;
    void_chan = void_chan_sound scope set;
  }
