-- Private to proofs. Headers have types where no rule is broken.
use Rattle.std.proofs.Common.{◌≡◌, Bool, true, false, cond, List, [], ◌∷◌, map, Option, Some, None, refl}
use Rattle.std.proofs.lemmas.Bool.{and_parts}
use Rattle.std.specs.Prelude.{is_some, IsTrue}
use Rattle.chi_token.specs.declared.place.Place.{Place}
use Rattle.chi_tree.specs.declared.definition.Definition.{Definition}
use Rattle.chi_tree.specs.declared.definition.Definition.TheVariants as definition
use Rattle.chi_tree.specs.declared.type_tree.Formal.{Formal}
use Rattle.chi_tree.specs.declared.type_tree.Name.{Name}
use Rattle.chi_tree.specs.declared.type_tree.TypeTree.{TypeTree}
use Rattle.chi_types.specs.declared.ty.Ty.{Ty}
use Rattle.chi_check_types.specs.declared.fault.Fault.{Fault}
use Rattle.chi_check_types.specs.declared.known.Known.{Known}
use Rattle.chi_check_types.specs.declared.known.Known.TheVariants as known
use Rattle.chi_check_types.specs.declared.known.NameKind.{NameKind}
use Rattle.chi_check_types.specs.declared.known.NameKind.TheVariants as kind
use Rattle.chi_check_types.specs.declared.meant.Meant.{Meant}
use Rattle.chi_check_types.specs.declared.rules.TheConstants.{NAME_KIND, VISIBLE_NAME}
use Rattle.chi_check_types.specs.declared.site.Site.{Site}
use Rattle.chi_check_types.specs.declared.site.Site.TheVariants as site
use Rattle.chi_check_types.specs.Names.{Names, known_in}
use Rattle.chi_check_types.specs.Predefined.{is_predefined}
use Rattle.chi_check_types.specs.Typed.{Typed, refused}
use Rattle.chi_check_types.specs.TypeRules.{untyped_name, visible_type, named_type}
use Rattle.chi_check_expr.specs.Typing.{reading}
use Rattle.chi_check_expr.proofs.Exact.{Anything}
use Rattle.chi_check_expr.proofs.Kept.{Good}
use Rattle.chi_check_expr.proofs.Nodes.{left_nil, right_nil, ExactTyped, unless_exact, refused_exact, node_good}
use Rattle.chi_check.specs.Below.chi_check_headers.specs.declared.header.Header.{Header}
use Rattle.chi_check.specs.Below.chi_check_headers.specs.Headers.{type_of, type_in, formal_type, formal_types, exit_given, exit_type_in, process_header, header_in, header_faults}
use Rattle.chi_check.specs.Bodies.{result_of, exit_known, exit_of}
use Rattle.chi_check_laws.specs.Formals.{begin_typed, headers_are_typed, header_is_typed}
use Rattle.chi_check_laws.proofs.Entries.{Entries, known_entry}
use Rattle.chi_check_laws.proofs.Unsized.{KeepsTypes, reading_unsized}
use Rattle.chi_check_laws.proofs.WholeHeaders.{Comes, EachComes}

-- ---- types, where functions and processes are visible without theirs

-- a name that stands for a type has that type
abbrev pub StandsForOne : Known → Type 0
StandsForOne (known.Untyped kind.Type) = ⊥
StandsForOne _ = Unit {0}

kind_exact : (place : Place) (k : NameKind) → StandsForOne (known.Untyped k) → ExactTyped (untyped_name place k)
kind_exact place kind.Type h = absurd h
kind_exact place kind.Variable h = refused_exact Meant NAME_KIND place
kind_exact place kind.Unwound h = refused_exact Meant NAME_KIND place
kind_exact place kind.Constant h = refused_exact Meant NAME_KIND place
kind_exact place kind.Function h = refused_exact Meant NAME_KIND place
kind_exact place kind.Process h = refused_exact Meant NAME_KIND place
kind_exact place kind.Model h = refused_exact Meant NAME_KIND place

known_exact : (place : Place) (k : Known) → StandsForOne k → ExactTyped (visible_type place (Some k))
known_exact place (known.Kind t) h = unless_exact _ _
known_exact place (known.Untyped k) h = kind_exact place k h
known_exact place (known.Var slot t) h = refused_exact Meant NAME_KIND place
known_exact place (known.Fixed slot t) h = refused_exact Meant NAME_KIND place
known_exact place (known.Const number t) h = refused_exact Meant NAME_KIND place
known_exact place (known.Value enumeration position) h = refused_exact Meant NAME_KIND place
known_exact place (known.Func number params result) h = refused_exact Meant NAME_KIND place
known_exact place (known.Proc number params exit) h = refused_exact Meant NAME_KIND place
known_exact place (known.Model number params exit) h = refused_exact Meant NAME_KIND place
known_exact place (known.Xper number) h = refused_exact Meant NAME_KIND place

visible_exact : (place : Place) (o : Option Known) → ((k : Known) → o ≡ Some k → StandsForOne k) → ExactTyped (visible_type place o)
visible_exact place None h = refused_exact Meant VISIBLE_NAME place
visible_exact place (Some k) h = known_exact place k (h k refl)

either_exact : (b : Bool) (t u : Typed Meant) → ExactTyped t → ExactTyped u → ExactTyped (cond b t u)
either_exact true t u h k = h
either_exact false t u h k = k

pub name_exact : (names : Names) → Entries StandsForOne names → (name : Name) → ExactTyped (named_type names name)
name_exact names all name =
    either_exact (is_predefined name.text) (refused NAME_KIND name.place) (visible_type name.place (known_in names name.text)) (refused_exact Meant NAME_KIND name.place)
    (visible_exact name.place (known_in names name.text) (λ k found. known_entry StandsForOne names name.text k all found))

exact_types : (names : Names) → Entries StandsForOne names → KeepsTypes names Anything
exact_types names all = record {
  word = λ _ _ _ _. tt;
  named = λ name. node_good Anything (named_type names name) (name_exact names all name) (λ _ _. tt);
  list_type = λ _ _ _ _ _. tt;
  set_type = λ _ _ _ _ _. tt;
  dict_type = λ _ _ _ _ _ _ _. tt;
  dist = λ _ _ _ _ _. tt;
  tuple_type = λ _ _ _ _ _ _. tt;
  chan = λ _ _ _ _ _ _. tt;
  void_chan = λ _ _ _ _. tt;
}

type_comes : (fs : List Fault) (m : Option Meant) → Good Anything fs m → fs ≡ [] → Comes (type_of m)
type_comes fs None g e = absurd (g e)
type_comes fs (Some m) g e = tt

-- ---- headers

-- the header of a definition has all its types
abbrev pub HeaderTyped : Definition → Option Header → Type 0
HeaderTyped (definition.Func place tree name formals steps) None = ⊥
HeaderTyped (definition.Func place tree name formals steps) (Some h) = EachComes h.formals × Comes (result_of h.home)
HeaderTyped (definition.Proc place tree name formals steps) None = ⊥
HeaderTyped (definition.Proc place tree name formals steps) (Some h) = EachComes h.formals × Comes (exit_of h.home)
HeaderTyped (definition.Model place tree name formals steps) None = ⊥
HeaderTyped (definition.Model place tree name formals steps) (Some h) = EachComes h.formals × Comes (exit_of h.home)
HeaderTyped (definition.Enum place name values) h = Unit {0}
HeaderTyped (definition.Const place tree name equals value) h = Unit {0}
HeaderTyped (definition.TypeWord place name tree) h = Unit {0}
HeaderTyped (definition.Xper place name steps) h = Unit {0}

abbrev pub HeadersTyped : List Definition → List (Option Header) → Type 0
HeadersTyped [] hs = Unit {0}
HeadersTyped (d ∷ ds) [] = ⊥
HeadersTyped (d ∷ ds) (h ∷ hs) = HeaderTyped d h × HeadersTyped ds hs

module _ (names : Names) (all : Entries StandsForOne names) where
  in_comes : (s : Site) (tree : TypeTree) → (type_in s names tree).faults ≡ [] → Comes (type_in s names tree).given
  in_comes s tree e = let t = reading s names tree false in type_comes t.faults t.made (reading_unsized Anything s names (exact_types names all) tree) e

  one_comes : (s : Site) (last : Option Ty) (ty : Option TypeTree) → Comes last → (formal_type s names last ty).faults ≡ [] → Comes (formal_type s names last ty).given
  one_comes s last None c e = c
  one_comes s last (Some tree) c e = in_comes s tree e

  formals_come : (s : Site) (last : Option Ty) (fs : List Formal) → Comes last → (formal_types s names last fs).faults ≡ [] → EachComes (formal_types s names last fs).given
  formals_come s last [] c e = tt
  formals_come s last (f ∷ fs) c e =
      let t = formal_type s names last f.ty in
      let one = one_comes s last f.ty c (left_nil t.faults _ e) in
      (one, formals_come s t.given fs one (right_nil t.faults _ e))

  first_comes : (s : Site) (ty : Option TypeTree) → IsTrue (is_some ty) → (formal_type s names None ty).faults ≡ [] → Comes (formal_type s names None ty).given
  first_comes s None h e = absurd (cc)
  first_comes s (Some tree) h e = in_comes s tree e

  all_come : (s : Site) (fs : List Formal) → IsTrue (begin_typed fs) → (formal_types s names None fs).faults ≡ [] → EachComes (formal_types s names None fs).given
  all_come s [] h e = tt
  all_come s (f ∷ fs) h e =
      let t = formal_type s names None f.ty in
      let one = first_comes s f.ty h (left_nil t.faults _ e) in
      (one, formals_come s t.given fs one (right_nil t.faults _ e))

  given_comes : (t : Option Ty) → Comes t → Comes (exit_known (exit_given t))
  given_comes None c = absurd c
  given_comes (Some t) c = tt

  exit_comes : (tree : Option TypeTree) → (exit_type_in names tree).faults ≡ [] → Comes (exit_known (exit_type_in names tree).given)
  exit_comes None e = tt
  exit_comes (Some tree) e = given_comes (type_in site.Process names tree).given (in_comes site.Process tree e)

  process_typed : (tree : Option TypeTree) (formals : List Formal) → IsTrue (begin_typed formals) → (process_header names tree formals).faults ≡ []
      → EachComes (process_header names tree formals).given.formals × Comes (exit_of (process_header names tree formals).given.home)
  process_typed tree formals h e =
      let x = exit_type_in names tree in
      (all_come site.Process formals h (right_nil x.faults _ e), exit_comes tree (left_nil x.faults _ e))

  header_typed : (d : Definition) → IsTrue (header_is_typed d) → (header_in names d).faults ≡ [] → HeaderTyped d (header_in names d).given
  header_typed (definition.Func place tree name formals steps) h e =
      let r = type_in site.Function names tree in
      (all_come site.Function formals h (right_nil r.faults _ e), in_comes site.Function tree (left_nil r.faults _ e))
  header_typed (definition.Proc place tree name formals steps) h e = process_typed tree formals h e
  header_typed (definition.Model place tree name formals steps) h e = process_typed tree formals h e
  header_typed (definition.Enum place name values) h e = tt
  header_typed (definition.Const place tree name equals value) h e = tt
  header_typed (definition.TypeWord place name tree) h e = tt
  header_typed (definition.Xper place name steps) h e = tt

  pub headers_typed : (ds : List Definition) → IsTrue (headers_are_typed ds) → header_faults (map (header_in names) ds) ≡ [] → HeadersTyped ds (map (λ h. h.given) (map (header_in names) ds))
  headers_typed [] h e = tt
  headers_typed (d ∷ ds) h e =
      let both = and_parts (header_is_typed d) (headers_are_typed ds) h in
      (header_typed d both.0 (left_nil (header_in names d).faults _ e), headers_typed ds both.1 (right_nil (header_in names d).faults _ e))
