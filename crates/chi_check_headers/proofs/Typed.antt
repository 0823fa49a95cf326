-- Private to proofs. The types of formals and the names of definitions, one by one.
use Rattle.std.proofs.Common.{ℕ, ◌≡◌, ◌+◌, ◌<◌, ◌≤◌, List, [], ◌∷◌, ◌++◌, map, drop, length, get_or, Option, Some, None, refl, sym, ap, ◌∙◌, append_assoc}
use Rattle.std.specs.Prelude.{option_map}
use Rattle.std.specs.Option.{option_and_then}
use Rattle.std.proofs.lemmas.List.{append-nil}
use Rattle.chi_tree.specs.declared.definition.Definition.{Definition}
use Rattle.chi_tree.specs.declared.definition.Item.{Item}
use Rattle.chi_tree.specs.declared.type_tree.Formal.{Formal}
use Rattle.chi_types.specs.declared.ty.Ty.{Ty}
use Rattle.chi_check_types.specs.declared.fault.Fault.{Fault}
use Rattle.chi_check_types.specs.declared.site.Site.{Site}
use Rattle.chi_check_types.specs.Faults.{first_of}
use Rattle.chi_check_types.specs.Names.{Names}
use Rattle.chi_check_types.proofs.Firsts.{first_of_append, first_of_none}
use Rattle.chi_check_headers.specs.declared.header.Header.{Header}
use Rattle.chi_check_headers.specs.Headers.{Found, formal_type, formal_types, header_in, all_types, header_faults}
use Rattle.chi_check_stat_lines.proofs.Turns.{at, none_left}

abbrev pub before : {A : Type 0} → List A → Option (List A) → Option (List A)
before done None = None
before done (Some rest) = Some (done ++ rest)

-- ---- all types

one_typed : (all : List Ty) (t : Ty) (more : Option (List Ty)) → before all (option_map (λ more. t ∷ more) more) ≡ before (all ++ t ∷ []) more
one_typed all t None = refl
one_typed all t (Some more) = ap Some (sym (append_assoc all (t ∷ []) more))

module _ (types : List (Option Ty)) (all : List Ty) where
  pub one_more_type : (i : ℕ) (x : Option Ty) (t : Ty) → i < length types → x ≡ get_or types i x → x ≡ Some t → before all (all_types (drop i types)) ≡ before (all ++ t ∷ []) (all_types (drop (i + 1) types))
  one_more_type i x t h e is = ap (λ ts. before all (all_types ts)) (at types i x h e) ∙ ap (λ x. before all (all_types (x ∷ drop (i + 1) types))) is ∙ one_typed all t (all_types (drop (i + 1) types))

  pub one_untyped : (i : ℕ) (x : Option Ty) → i < length types → x ≡ get_or types i x → x ≡ None → before all (all_types (drop i types)) ≡ None
  one_untyped i x h e is = ap (λ ts. before all (all_types ts)) (at types i x h e) ∙ ap (λ x. before all (all_types (x ∷ drop (i + 1) types))) is

  pub all_end : (i : ℕ) → length types ≤ i → before all (all_types (drop i types)) ≡ Some all
  all_end i h = ap (λ ts. before all (all_types ts)) (none_left types i h) ∙ ap Some (append-nil all)

-- ---- the types of formals

module _ (s : Site) (names : Names) (formals : List Formal) where
  pub one_given : (whole types grown : List (Option Ty)) (i : ℕ) (x : Formal) (last t next : Option Ty) → whole ≡ types ++ (formal_types s names last (drop i formals)).given → i < length formals → x ≡ get_or formals i x
      → t ≡ (formal_type s names last x.ty).given → next ≡ t → grown ≡ types ++ t ∷ [] → whole ≡ grown ++ (formal_types s names next (drop (i + 1) formals)).given
  one_given whole types grown i x last t next w h e is n g =
      w ∙ ap (λ fs. types ++ (formal_types s names last fs).given) (at formals i x h e)
      ∙ ap (λ t. types ++ t ∷ (formal_types s names t (drop (i + 1) formals)).given) (sym is)
      ∙ sym (append_assoc types (t ∷ []) _)
      ∙ (λ j. sym g j ++ (formal_types s names (sym n j) (drop (i + 1) formals)).given)

  pub one_noted : (whole kept after : Option Fault) (i : ℕ) (x : Formal) (last t next : Option Ty) → whole ≡ first_of kept (formal_types s names last (drop i formals)).faults → i < length formals → x ≡ get_or formals i x
      → t ≡ (formal_type s names last x.ty).given → next ≡ t → after ≡ first_of kept (formal_type s names last x.ty).faults → whole ≡ first_of after (formal_types s names next (drop (i + 1) formals)).faults
  one_noted whole kept after i x last t next w h e is n k =
      w ∙ ap (λ fs. first_of kept (formal_types s names last fs).faults) (at formals i x h e) ∙ first_of_append kept _ _
      ∙ (λ j. first_of (sym k j) (formal_types s names (sym (n ∙ is) j) (drop (i + 1) formals)).faults)

  pub given_end : (i : ℕ) (last : Option Ty) (types : List (Option Ty)) → length formals ≤ i → types ++ (formal_types s names last (drop i formals)).given ≡ types
  given_end i last types h = ap (λ fs. types ++ (formal_types s names last fs).given) (none_left formals i h) ∙ append-nil types

  pub noted_end : (i : ℕ) (last : Option Ty) (kept : Option Fault) → length formals ≤ i → first_of kept (formal_types s names last (drop i formals)).faults ≡ kept
  noted_end i last kept h = ap (λ fs. first_of kept (formal_types s names last fs).faults) (none_left formals i h) ∙ first_of_none kept [] refl

-- ---- definitions

abbrev pub definitions : List Item → List Definition
definitions items = map (λ item. item.definition) items

module _ (items : List Item) where
  pub rest : (i : ℕ) (x : Item) → i < length items → x ≡ get_or items i x → definitions (drop i items) ≡ x.definition ∷ definitions (drop (i + 1) items)
  rest i x h e = ap definitions (at items i x h e)

  pub no_rest : (i : ℕ) → length items ≤ i → definitions (drop i items) ≡ []
  no_rest i h = ap definitions (none_left items i h)

  module _ (names : Names) where
    pub header_given : (whole headers grown : List (Option Header)) (i : ℕ) (x : Item) (g : Option Header) → whole ≡ headers ++ map (λ h. h.given) (map (header_in names) (definitions (drop i items))) → i < length items → x ≡ get_or items i x
        → g ≡ (header_in names x.definition).given → grown ≡ headers ++ g ∷ [] → whole ≡ grown ++ map (λ h. h.given) (map (header_in names) (definitions (drop (i + 1) items)))
    header_given whole headers grown i x g w h e is m =
        w ∙ ap (λ ds. headers ++ map (λ (h : Found (Option Header)). h.given) (map (header_in names) ds)) (rest i x h e)
        ∙ ap (λ g. headers ++ g ∷ map (λ (h : Found (Option Header)). h.given) (map (header_in names) (definitions (drop (i + 1) items)))) (sym is)
        ∙ sym (append_assoc headers (g ∷ []) _)
        ∙ ap (λ hs. hs ++ map (λ (h : Found (Option Header)). h.given) (map (header_in names) (definitions (drop (i + 1) items)))) (sym m)

    pub header_noted : (whole kept after : Option Fault) (i : ℕ) (x : Item) → whole ≡ first_of kept (header_faults (map (header_in names) (definitions (drop i items)))) → i < length items → x ≡ get_or items i x
        → after ≡ first_of kept (header_in names x.definition).faults → whole ≡ first_of after (header_faults (map (header_in names) (definitions (drop (i + 1) items))))
    header_noted whole kept after i x w h e k =
        w ∙ ap (λ ds. first_of kept (header_faults (map (header_in names) ds))) (rest i x h e) ∙ first_of_append kept _ _
        ∙ ap (λ k. first_of k (header_faults (map (header_in names) (definitions (drop (i + 1) items))))) (sym k)

    pub headers_end : (i : ℕ) (headers : List (Option Header)) → length items ≤ i → headers ++ map (λ h. h.given) (map (header_in names) (definitions (drop i items))) ≡ headers
    headers_end i headers h = ap (λ ds. headers ++ map (λ (h : Found (Option Header)). h.given) (map (header_in names) ds)) (no_rest i h) ∙ append-nil headers

    pub headers_noted : (i : ℕ) (kept : Option Fault) → length items ≤ i → first_of kept (header_faults (map (header_in names) (definitions (drop i items)))) ≡ kept
    headers_noted i kept h = ap (λ ds. first_of kept (header_faults (map (header_in names) ds))) (no_rest i h) ∙ first_of_none kept [] refl
