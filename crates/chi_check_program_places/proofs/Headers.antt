-- What headers mean is the same without places.
use Rattle.std.proofs.Common.{◌≡◌, false, List, [], ◌∷◌, ◌++◌, map, Option, Some, None, refl, ap, ◌∙◌}
use Rattle.std.specs.Option.{option_map}
use Rattle.chi_tree.specs.declared.definition.Definition.{Definition}
use Rattle.chi_tree.specs.declared.definition.Definition.TheVariants as definition
use Rattle.chi_tree.specs.declared.type_tree.Formal.{Formal}
use Rattle.chi_tree.specs.declared.type_tree.TypeTree.{TypeTree}
use Rattle.chi_tree_laws.specs.Unplaced.{unplaced_type, unplaced_formal}
use Rattle.chi_tree_laws.specs.UnplacedStatements.{unplaced_definition}
use Rattle.chi_types.specs.declared.ty.Ty.{Ty}
use Rattle.chi_check_types.specs.declared.site.Site.{Site}
use Rattle.chi_check_types.specs.declared.site.Site.TheVariants as site
use Rattle.chi_check_types.specs.Names.{Names}
use Rattle.chi_check.specs.Below.chi_check_stat_rules.specs.declared.home.Home.TheVariants as home
use Rattle.chi_check.specs.Below.chi_check_headers.specs.declared.header.Header.{Header}
use Rattle.chi_check.specs.Below.chi_check_headers.specs.Headers.{Found, type_of, type_in, formal_type, formal_types, exit_given, exit_type_in, header, function_header, process_header, with_header, header_in, header_faults}
use Rattle.chi_check_places.specs.UnplacedTyped.{unplaced_faults}
use Rattle.chi_check_places.proofs.Faults.{faults-append, both-faults}
use Rattle.chi_check_places.proofs.Induction.{type-unplaced}
use Rattle.chi_check_program_places.proofs.Places.{formal-is}

abbrev pub unplaced_found : {A : Type 0} → Found A → Found A
unplaced_found f = record { faults = unplaced_faults f.faults; given = f.given }

pub type-in-unplaced : (s : Site) (names : Names) (t : TypeTree) → type_in s names (unplaced_type t) ≡ unplaced_found (type_in s names t)
type-in-unplaced s names t = λ i. record { faults = (type-unplaced s names t false i).faults; given = type_of (type-unplaced s names t false i).made }

formal-type-unplaced : (s : Site) (names : Names) (last : Option Ty) (t : Option TypeTree) → formal_type s names last (option_map unplaced_type t) ≡ unplaced_found (formal_type s names last t)
formal-type-unplaced s names last None = refl
formal-type-unplaced s names last (Some t) = type-in-unplaced s names t

formals-unplaced : (s : Site) (names : Names) (last : Option Ty) (fs : List Formal) → formal_types s names last (map unplaced_formal fs) ≡ unplaced_found (formal_types s names last fs)
formals-unplaced s names last [] = refl
formals-unplaced s names last (f ∷ fs) =
    let t = formal_type s names last f.ty in
    let more = formal_types s names t.given fs in
    let first : formal_type s names last (unplaced_formal f).ty ≡ unplaced_found t =
    ap (λ (g : Formal). formal_type s names last g.ty) (formal-is f) ∙ formal-type-unplaced s names last f.ty in
    (λ i. record {
      faults = (first i).faults ++ (formal_types s names (first i).given (map unplaced_formal fs)).faults;
      given = (first i).given ∷ (formal_types s names (first i).given (map unplaced_formal fs)).given;
    })
    ∙ (λ i. record { faults = unplaced_faults t.faults ++ (formals-unplaced s names t.given fs i).faults; given = t.given ∷ (formals-unplaced s names t.given fs i).given })
    ∙ (λ i. record { faults = faults-append t.faults more.faults i; given = t.given ∷ more.given })

exit-type-unplaced : (names : Names) (t : Option TypeTree) → exit_type_in names (option_map unplaced_type t) ≡ unplaced_found (exit_type_in names t)
exit-type-unplaced names None = refl
exit-type-unplaced names (Some t) =
    λ i. record { faults = (type-in-unplaced site.Process names t i).faults; given = exit_given (type-in-unplaced site.Process names t i).given }

function-header-unplaced : (names : Names) (t : TypeTree) (fs : List Formal) → function_header names (unplaced_type t) (map unplaced_formal fs) ≡ unplaced_found (function_header names t fs)
function-header-unplaced names t fs =
    let r = type_in site.Function names t in
    let formals = formal_types site.Function names None fs in
    (λ i. record {
      faults = (type-in-unplaced site.Function names t i).faults ++ (formals-unplaced site.Function names None fs i).faults;
      given = header (formals-unplaced site.Function names None fs i).given (home.Function (type-in-unplaced site.Function names t i).given);
    })
    ∙ (λ i. record { faults = faults-append r.faults formals.faults i; given = header formals.given (home.Function r.given) })

process-header-unplaced : (names : Names) (t : Option TypeTree) (fs : List Formal) → process_header names (option_map unplaced_type t) (map unplaced_formal fs) ≡ unplaced_found (process_header names t fs)
process-header-unplaced names t fs =
    let e = exit_type_in names t in
    let formals = formal_types site.Process names None fs in
    (λ i. record {
      faults = (exit-type-unplaced names t i).faults ++ (formals-unplaced site.Process names None fs i).faults;
      given = header (formals-unplaced site.Process names None fs i).given (home.Process (exit-type-unplaced names t i).given);
    })
    ∙ (λ i. record { faults = faults-append e.faults formals.faults i; given = header formals.given (home.Process e.given) })

header-unplaced : (names : Names) (d : Definition) → header_in names (unplaced_definition d) ≡ unplaced_found (header_in names d)
header-unplaced names (definition.Func place t name fs steps) = ap with_header (function-header-unplaced names t fs)
header-unplaced names (definition.Proc place t name fs steps) = ap with_header (process-header-unplaced names t fs)
header-unplaced names (definition.Model place t name fs steps) = ap with_header (process-header-unplaced names t fs)
header-unplaced names (definition.Enum place name values) = refl
header-unplaced names (definition.Const place t name equals value) = refl
header-unplaced names (definition.TypeWord place name t) = refl
header-unplaced names (definition.Xper place name steps) = refl

pub headers-unplaced : (names : Names) (ds : List Definition) → map (header_in names) (map unplaced_definition ds) ≡ map unplaced_found (map (header_in names) ds)
headers-unplaced names [] = refl
headers-unplaced names (d ∷ ds) = λ i. header-unplaced names d i ∷ headers-unplaced names ds i

pub header-faults-unplaced : (hs : List (Found (Option Header))) → header_faults (map unplaced_found hs) ≡ unplaced_faults (header_faults hs)
header-faults-unplaced [] = refl
header-faults-unplaced (h ∷ hs) = both-faults h.faults (header_faults hs) refl (header-faults-unplaced hs)

pub headers-given : (hs : List (Found (Option Header))) → map (λ h. h.given) (map unplaced_found hs) ≡ map (λ h. h.given) hs
headers-given [] = refl
headers-given (h ∷ hs) = ap (λ gs. h.given ∷ gs) (headers-given hs)
