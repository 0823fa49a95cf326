-- Private to proofs. The types of headers are sound where the types that are visible are.
use Rattle.std.proofs.Common.{ℕ, suc, ◌≡◌, Bool, true, false, cond, List, [], ◌∷◌, map, length, Option, Some, None, refl, ap, subst}
use Rattle.chi_token.specs.declared.place.Place.{Place}
use Rattle.chi_tree.specs.declared.definition.Definition.{Definition}
use Rattle.chi_tree.specs.declared.definition.Definition.TheVariants as definition
use Rattle.chi_tree.specs.declared.type_tree.Formal.{Formal}
use Rattle.chi_tree.specs.declared.type_tree.TypeTree.{TypeTree}
use Rattle.chi_types.specs.declared.ty.Ty.{Ty, out-Ty}
use Rattle.chi_core.specs.SoundTypes.{SoundType, SoundParts, no_part, one_part}
use Rattle.chi_check_types.specs.declared.fault.Fault.{Fault}
use Rattle.chi_check_types.specs.declared.known.Known.{Known}
use Rattle.chi_check_types.specs.declared.known.Known.TheVariants as known
use Rattle.chi_check_types.specs.declared.known.NameKind.{NameKind}
use Rattle.chi_check_types.specs.declared.known.NameKind.TheVariants as kind
use Rattle.chi_check_types.specs.declared.meant.Meant.{Meant}
use Rattle.chi_check_types.specs.declared.rules.TheConstants.{NAME_KIND}
use Rattle.chi_check_types.specs.declared.site.Site.{Site}
use Rattle.chi_check_types.specs.declared.site.Site.TheVariants as site
use Rattle.chi_check_types.specs.Names.{Names, known_in}
use Rattle.chi_check_types.specs.Predefined.{is_predefined}
use Rattle.chi_check_types.specs.Typed.{refused}
use Rattle.chi_check_types.specs.TypeLaws.{IsSound}
use Rattle.chi_check_types.specs.TypeRules.{visible_type, named_type}
use Rattle.chi_check_types.proofs.TypeLaws as types
use Rattle.chi_check_expr.specs.Typing.{reading}
use Rattle.chi_check_expr.proofs.Kept.{Good, Each, FieldOk}
use Rattle.chi_check_expr.proofs.Nodes.{node_good}
use Rattle.chi_check.specs.Below.chi_check_stat_rules.specs.declared.home.ExitType.{ExitType}
use Rattle.chi_check.specs.Below.chi_check_stat_rules.specs.declared.home.ExitType.TheVariants as exit
use Rattle.chi_check.specs.Below.chi_check_stat_rules.specs.declared.home.Home.{Home}
use Rattle.chi_check.specs.Below.chi_check_stat_rules.specs.declared.home.Home.TheVariants as home
use Rattle.chi_check.specs.Below.chi_check_headers.specs.declared.header.Header.{Header}
use Rattle.chi_check.specs.Below.chi_check_headers.specs.Headers.{type_of, type_in, formal_type, formal_types, exit_given, exit_type_in, process_header, header_in}
use Rattle.chi_check_laws.proofs.Entries.{Entries, known_entry, entries_so}
use Rattle.chi_check_laws.proofs.Headers.{StandsForOne, name_exact}
use Rattle.chi_check_laws.proofs.Unsized.{KeepsTypes, reading_unsized}

-- a name that stands for a type has a sound one, in a program with so many enumerations
abbrev pub StandsForSound : ℕ → Known → Type 0
StandsForSound n (known.Kind t) = SoundType n (out-Ty t)
StandsForSound n (known.Untyped kind.Type) = ⊥
StandsForSound n _ = Unit {0}

untyped_for_one : (n : ℕ) (k : NameKind) → StandsForSound n (known.Untyped k) → StandsForOne (known.Untyped k)
untyped_for_one n kind.Type h = absurd h
untyped_for_one n kind.Variable h = tt
untyped_for_one n kind.Unwound h = tt
untyped_for_one n kind.Constant h = tt
untyped_for_one n kind.Function h = tt
untyped_for_one n kind.Process h = tt
untyped_for_one n kind.Model h = tt

for_one : (n : ℕ) (k : Known) → StandsForSound n k → StandsForOne k
for_one n (known.Kind t) h = tt
for_one n (known.Untyped k) h = untyped_for_one n k h
for_one n (known.Var slot t) h = tt
for_one n (known.Fixed slot t) h = tt
for_one n (known.Const number t) h = tt
for_one n (known.Value enumeration position) h = tt
for_one n (known.Func number params result) h = tt
for_one n (known.Proc number params exit) h = tt
for_one n (known.Model number params exit) h = tt
for_one n (known.Xper number) h = tt

-- ---- headers with sound types

abbrev pub SoundGiven : ℕ → Option Ty → Type 0
SoundGiven n None = Unit {0}
SoundGiven n (Some t) = SoundType n (out-Ty t)

abbrev pub SoundOwn : ℕ → ExitType → Type 0
SoundOwn n exit.Nothing = Unit {0}
SoundOwn n exit.Untyped = Unit {0}
SoundOwn n (exit.Given t) = SoundType n (out-Ty t)

abbrev pub SoundTypes : ℕ → Home → Type 0
SoundTypes n (home.Function result) = SoundGiven n result
SoundTypes n (home.Process own) = SoundOwn n own
SoundTypes n home.Experiment = Unit {0}

pub record SoundHeader (n : ℕ) (written : List Formal) (h : Header) : Type 0 where
  pub counted : length h.formals ≡ length written
  pub formals : Each (SoundGiven n) h.formals
  pub home : SoundTypes n h.home

abbrev pub HeaderSound : ℕ → Definition → Option Header → Type 0
HeaderSound n (definition.Func place tree name formals steps) None = ⊥
HeaderSound n (definition.Func place tree name formals steps) (Some h) = SoundHeader n formals h
HeaderSound n (definition.Proc place tree name formals steps) None = ⊥
HeaderSound n (definition.Proc place tree name formals steps) (Some h) = SoundHeader n formals h
HeaderSound n (definition.Model place tree name formals steps) None = ⊥
HeaderSound n (definition.Model place tree name formals steps) (Some h) = SoundHeader n formals h
HeaderSound n (definition.Enum place name values) h = Unit {0}
HeaderSound n (definition.Const place tree name equals value) h = Unit {0}
HeaderSound n (definition.TypeWord place name tree) h = Unit {0}
HeaderSound n (definition.Xper place name steps) h = Unit {0}

abbrev pub HeadersSound : ℕ → List Definition → List (Option Header) → Type 0
HeadersSound n [] hs = Unit {0}
HeadersSound n (d ∷ ds) [] = ⊥
HeadersSound n (d ∷ ds) (h ∷ hs) = HeaderSound n d h × HeadersSound n ds hs

module _ (n : ℕ) where
  known_sound : (place : Place) (k : Known) (m : Meant) → StandsForSound n k → (visible_type place (Some k)).made ≡ Some m → IsSound n m
  known_sound place (known.Kind t) m h e = types.sound_name n place t h m e
  known_sound place (known.Untyped k) m h e = absurd (types.untyped_never place k m e)
  known_sound place _ m h e = absurd (cc)

  visible_sound : (place : Place) (o : Option Known) (m : Meant) → ((k : Known) → o ≡ Some k → StandsForSound n k) → (visible_type place o).made ≡ Some m → IsSound n m
  visible_sound place None m h e = absurd (cc)
  visible_sound place (Some k) m h e = known_sound place k m (h k refl) e

  either_sound : (b : Bool) (place : Place) (o : Option Known) (m : Meant) → ((k : Known) → o ≡ Some k → StandsForSound n k) → (cond b (refused NAME_KIND place) (visible_type place o)).made ≡ Some m → IsSound n m
  either_sound true place o m h e = absurd (cc)
  either_sound false place o m h e = visible_sound place o m h e

  each_part : (parts : List (List ℕ × Ty)) → Each (FieldOk (IsSound n)) parts → SoundParts n parts
  each_part [] h = no_part
  each_part (part ∷ parts) h = one_part part parts (subst (λ t. SoundType n (out-Ty t)) h.0.2 h.0.1) (each_part parts h.1)

  sound_types : (names : Names) → Entries (StandsForSound n) names → KeepsTypes names (IsSound n)
  sound_types names all = record {
    word = types.sound_word n;
    named = λ name. node_good (IsSound n) (named_type names name) (name_exact names (entries_so (StandsForSound n) StandsForOne (for_one n) names all) name)
        (λ m e. either_sound (is_predefined name.text) name.place (known_in names name.text) m (λ k found. known_entry (StandsForSound n) names name.text k all found) e);
    list_type = λ place element m h e. types.sound_list n place element h m e;
    set_type = λ place element m h e. types.sound_set n place element h m e;
    dict_type = λ place key value m h k e. types.sound_dict n place key value h k m e;
    dist = λ place drawn m h e. types.sound_dist n place drawn h m e;
    tuple_type = λ place fields parts m h e. types.sound_tuple n place fields parts (each_part parts h) m e;
    chan = λ place way carried m h e. types.sound_chan n place way carried h m e;
    void_chan = λ place way m e. types.sound_void_chan n place way m e;
  }

  good_given : (fs : List Fault) (o : Option Meant) → Good (IsSound n) fs o → SoundGiven n (type_of o)
  good_given fs None g = tt
  good_given fs (Some m) g = g.1

  module _ (names : Names) (all : Entries (StandsForSound n) names) where
    in_sound : (s : Site) (tree : TypeTree) → SoundGiven n (type_in s names tree).given
    in_sound s tree = let t = reading s names tree false in good_given t.faults t.made (reading_unsized (IsSound n) s names (sound_types names all) tree)

    one_sound : (s : Site) (last : Option Ty) (ty : Option TypeTree) → SoundGiven n last → SoundGiven n (formal_type s names last ty).given
    one_sound s last None h = h
    one_sound s last (Some tree) h = in_sound s tree

    formals_sound : (s : Site) (last : Option Ty) (fs : List Formal) → SoundGiven n last → Each (SoundGiven n) (formal_types s names last fs).given
    formals_sound s last [] h = tt
    formals_sound s last (f ∷ fs) h =
        let t = formal_type s names last f.ty in
        let one = one_sound s last f.ty h in
        (one, formals_sound s t.given fs one)

    formals_counted : (s : Site) (last : Option Ty) (fs : List Formal) → length (formal_types s names last fs).given ≡ length fs
    formals_counted s last [] = refl
    formals_counted s last (f ∷ fs) = ap suc (formals_counted s (formal_type s names last f.ty).given fs)

    given_sound : (t : Option Ty) → SoundGiven n t → SoundOwn n (exit_given t)
    given_sound None h = tt
    given_sound (Some t) h = h

    own_sound : (tree : Option TypeTree) → SoundOwn n (exit_type_in names tree).given
    own_sound None = tt
    own_sound (Some tree) = given_sound (type_in site.Process names tree).given (in_sound site.Process tree)

    process_sound : (tree : Option TypeTree) (formals : List Formal) → SoundHeader n formals (process_header names tree formals).given
    process_sound tree formals = record { counted = formals_counted site.Process None formals; formals = formals_sound site.Process None formals tt; home = own_sound tree }

    header_sound : (d : Definition) → HeaderSound n d (header_in names d).given
    header_sound (definition.Func place tree name formals steps) = record { counted = formals_counted site.Function None formals; formals = formals_sound site.Function None formals tt; home = in_sound site.Function tree }
    header_sound (definition.Proc place tree name formals steps) = process_sound tree formals
    header_sound (definition.Model place tree name formals steps) = process_sound tree formals
    header_sound (definition.Enum place name values) = tt
    header_sound (definition.Const place tree name equals value) = tt
    header_sound (definition.TypeWord place name tree) = tt
    header_sound (definition.Xper place name steps) = tt

    pub headers_sound : (ds : List Definition) → HeadersSound n ds (map (λ h. h.given) (map (header_in names) ds))
    headers_sound [] = tt
    headers_sound (d ∷ ds) = (header_sound d, headers_sound ds)
