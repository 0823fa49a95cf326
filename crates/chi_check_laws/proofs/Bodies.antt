-- Statements, branches, alternatives and elements that are sound with their streams.
use Rattle.std.proofs.Common.{◌≡◌, ℕ, Bool, true, List, [], ◌∷◌, ◌++◌, map, Option, refl, sym, subst, ◌∙◌}
use Rattle.std.proofs.lemmas.Bool.{and_parts}
use Rattle.std.specs.List.{list_all}
use Rattle.chi_value.specs.Plain.{itself}
use Rattle.chi_types.specs.declared.ty.Ty.{Ty-F}
use Rattle.chi_core.specs.declared.element.CElem.{CElem, CElem-F, out-CElem}
use Rattle.chi_core.specs.declared.expression.CExpr.{out-CExpr}
use Rattle.chi_core.specs.declared.statement.Branch.{Branch, Branch-F, out-Branch}
use Rattle.chi_core.specs.declared.statement.CAlt.{CAlt, CAlt-F, out-CAlt}
use Rattle.chi_core.specs.declared.statement.CStat.{CStat, out-CStat}
use Rattle.chi_core.specs.Kinds.{Kind}
use Rattle.chi_core.specs.Scopes.{Scope, process}
use Rattle.chi_core.specs.SetSlots.{StatLayer, Known as Set, sets}
use Rattle.chi_core.specs.SoundExpressions.{HasKind}
use Rattle.chi_core.specs.SoundParts as part
use Rattle.chi_core.specs.SoundParts.{SoundElement, SoundElements}
use Rattle.chi_core.specs.SoundStatements as sound
use Rattle.chi_core.specs.SoundStatements.{SoundStat, SoundBlock, SoundBranches, SoundAlternative, SoundAlternatives}
use Rattle.chi_check.specs.Below.chi_check_streams.specs.Streams.{Counted, each, of_statement, of_branch, of_alternative, of_element, statement_step, branch_step, alternative_step, element_step}
use Rattle.chi_check_expr.proofs.Kept.{Each}
use Rattle.chi_check.specs.Below.chi_check_stat_lines.specs.declared.state.State.{State}
use Rattle.chi_check.specs.Below.chi_check_stat_lines.specs.Stated.{Turn}
use Rattle.chi_check_laws.specs.Bodies.{set_by, SoundBody}
use Rattle.chi_check_laws.specs.Texts.{element_texts, statement_texts, branch_texts, alternative_texts}
use Rattle.chi_check_laws.proofs.Layers.{statement_parts, alternative_parts, branch_parts, element_parts, statement_streams, alternative_streams, branch_streams, element_streams, statement_texts_of, alternative_texts_of, branch_texts_of, element_texts_of, statement_short, alternative_short, branch_short, element_short, streams_set}
use Rattle.chi_check_laws.proofs.More.{set_by_more}
use Rattle.chi_check_laws.proofs.Turns.{each_append, ByParts, Kept}

module _ (scope : Scope) (loop : Bool) where
  -- ---- one of each

  abbrev pub SoundOne : Set → CStat → Type 0
  SoundOne set x = statement_texts x ≡ true → (count : ℕ) → SoundStat scope loop set (out-CStat (of_statement x count).part)

  pub record BranchAt (set : Set) (b : Branch-F CAlt CStat Branch) : Type 0 where
    pub test : HasKind scope set (out-CExpr b.test) Ty-F.Bool
    pub block : SoundBlock scope loop set b.block

  abbrev pub SoundBranch : Set → Branch → Type 0
  SoundBranch set b = branch_texts b ≡ true → (count : ℕ) → BranchAt set (out-Branch (of_branch b count).part)

  abbrev pub SoundOffer : Set → CAlt → Type 0
  SoundOffer set a = alternative_texts a ≡ true → (count : ℕ) → SoundAlternative scope loop set (out-CAlt (of_alternative a count).part)

  -- by their outermost layers
  pub one_at : (set : Set) (x : CStat) (layer : StatLayer) → out-CStat x ≡ layer
      → (statement_texts_of layer ≡ true → (count : ℕ) → SoundStat scope loop set (out-CStat (statement_step (statement_parts layer) count).part)) → SoundOne set x
  one_at set x layer h p short count =
      subst (λ (made : Counted CStat). SoundStat scope loop set (out-CStat made.part)) (sym (statement_streams x layer h count)) (p (sym (statement_short x layer h) ∙ short) count)

  pub branch_at : (set : Set) (x : Branch) (layer : Branch-F CAlt CStat Branch) → out-Branch x ≡ layer
      → (branch_texts_of layer ≡ true → (count : ℕ) → BranchAt set (out-Branch (branch_step (branch_parts layer) count).part)) → SoundBranch set x
  branch_at set x layer h p short count =
      subst (λ (made : Counted Branch). BranchAt set (out-Branch made.part)) (sym (branch_streams x layer h count)) (p (sym (branch_short x layer h) ∙ short) count)

  pub offer_at : (set : Set) (x : CAlt) (layer : CAlt-F CAlt CStat Branch) → out-CAlt x ≡ layer
      → (alternative_texts_of layer ≡ true → (count : ℕ) → SoundAlternative scope loop set (out-CAlt (alternative_step (alternative_parts layer) count).part)) → SoundOffer set x
  offer_at set x layer h p short count =
      subst (λ (made : Counted CAlt). SoundAlternative scope loop set (out-CAlt made.part)) (sym (alternative_streams x layer h count)) (p (sym (alternative_short x layer h) ∙ short) count)

  pub at : (set : Set) (x : CStat) (layer : StatLayer) → out-CStat x ≡ layer → SoundStat scope loop set layer → SoundStat scope loop set (out-CStat x)
  at set x layer h p = subst (SoundStat scope loop set) (sym h) p

  -- ---- in turn

  abbrev pub AllSound : Set → List CStat → Type 0
  AllSound set [] = Unit {0}
  AllSound set (x ∷ xs) = SoundOne set x × AllSound (sets (out-CStat x) set) xs

  pub body_sound : (set : Set) (xs : List CStat) → AllSound set xs → SoundBody scope loop set xs
  body_sound set [] h short count = sound.no_statement loop set
  body_sound set (x ∷ xs) h short count =
      let both = and_parts _ _ short in
      sound.one_statement loop set (of_statement x count).part _ (h.0 both.0 count)
      (subst (λ set. SoundBlock scope loop set (each (map of_statement xs) (of_statement x count).next).part) (sym (streams_set x set count)) (body_sound (sets (out-CStat x) set) xs h.1 both.1 (of_statement x count).next))

  pub branches_sound : (set : Set) (bs : List Branch) → Each (SoundBranch set) bs → list_all itself (map branch_texts bs) ≡ true → (count : ℕ) → SoundBranches scope loop set (each (map of_branch bs) count).part
  branches_sound set [] h short count = sound.no_branch loop set
  branches_sound set (b ∷ bs) h short count =
      let both = and_parts _ _ short in
      let first = h.0 both.0 count in
      sound.one_branch loop set (of_branch b count).part _ first.test first.block (branches_sound set bs h.1 both.1 (of_branch b count).next)

  pub offers_sound : (set : Set) (xs : List CAlt) → Each (SoundOffer set) xs → list_all itself (map alternative_texts xs) ≡ true → (count : ℕ) → SoundAlternatives scope loop set (each (map of_alternative xs) count).part
  offers_sound set [] h short count = sound.no_alternative loop set
  offers_sound set (x ∷ xs) h short count =
      let both = and_parts _ _ short in
      sound.one_alternative loop set (of_alternative x count).part _ (h.0 both.0 count) (offers_sound set xs h.1 both.1 (of_alternative x count).next)

  pub all_append : (set : Set) (xs ys : List CStat) → AllSound set xs → AllSound (set_by xs set) ys → AllSound set (xs ++ ys)
  all_append set [] ys h k = k
  all_append set (x ∷ xs) ys h k = (h.0, all_append (sets (out-CStat x) set) xs ys h.1 k)

  pub set_append : (set : Set) (xs ys : List CStat) → set_by (xs ++ ys) set ≡ set_by ys (set_by xs set)
  set_append set [] ys = refl
  set_append set (x ∷ xs) ys = set_append (sets (out-CStat x) set) xs ys

  pub statements_by_parts : ByParts scope AllSound set_by
  statements_by_parts = record {
    none = λ set. tt;
    append = all_append;
    next_none = λ set. refl;
    next_append = set_append;
    next_more = λ set xs. set_by_more xs set;
  }

-- ---- what sets nothing for what comes after it

abbrev pub nothing_more : {A : Type 0} → List A → Set → Set
nothing_more xs set = set

pub each_by_parts : (scope : Scope) (A : Type 0) (P : Set → A → Type 0) → ByParts scope (λ set. Each (P set)) nothing_more
each_by_parts scope A P = record {
  none = λ set. tt;
  append = λ set xs ys. each_append (P set) xs ys;
  next_none = λ set. refl;
  next_append = λ set xs ys. refl;
  next_more = λ set xs slot h. h;
}

-- ---- elements, which only processes have

module _ (scope : Scope) where
  abbrev pub SoundMake : Set → CElem → Type 0
  SoundMake set e = (exit : Option Kind) → scope.role ≡ process exit → element_texts e ≡ true → (count : ℕ) → SoundElement scope exit set (out-CElem (of_element e count).part)

  pub make_at : (set : Set) (x : CElem) (layer : CElem-F CElem) → out-CElem x ≡ layer
      → ((exit : Option Kind) → scope.role ≡ process exit → element_texts_of layer ≡ true → (count : ℕ) → SoundElement scope exit set (out-CElem (element_step (element_parts layer) count).part)) → SoundMake set x
  make_at set x layer h p exit is short count =
      subst (λ (made : Counted CElem). SoundElement scope exit set (out-CElem made.part)) (sym (element_streams x layer h count)) (p exit is (sym (element_short x layer h) ∙ short) count)

  pub makes_sound : (set : Set) (xs : List CElem) → Each (SoundMake set) xs → (exit : Option Kind) → scope.role ≡ process exit → list_all itself (map element_texts xs) ≡ true → (count : ℕ)
      → SoundElements scope exit set (each (map of_element xs) count).part
  makes_sound set [] h exit is short count = part.no_element set
  makes_sound set (x ∷ xs) h exit is short count =
      let both = and_parts _ _ short in
      part.one_element set (of_element x count).part _ (h.0 exit is both.0 count) (makes_sound set xs h.1 exit is both.1 (of_element x count).next)

  -- what turns come to
  abbrev pub StatementKept : Bool → Turn State CStat → Type 0
  StatementKept loop = Kept scope (AllSound scope loop) set_by

  abbrev pub BranchKept : Bool → Turn State Branch → Type 0
  BranchKept loop = Kept scope (λ set. Each (SoundBranch scope loop set)) nothing_more

  abbrev pub OfferKept : Bool → Turn State CAlt → Type 0
  OfferKept loop = Kept scope (λ set. Each (SoundOffer scope loop set)) nothing_more

  abbrev pub MakeKept : Turn State CElem → Type 0
  MakeKept = Kept scope (λ set. Each (SoundMake set)) nothing_more
