-- Statements with their streams: what each comes to by its outermost layer, and what it sets.
use Rattle.std.proofs.Common.{◌≡◌, ℕ, Bool, List, [], ◌∷◌, map, refl, ap, ◌∙◌}
use Rattle.chi_core.specs.declared.element.CElem.{CElem, CElem-F, out-CElem, map-CElem, fold_out-CElem}
use Rattle.chi_core.specs.declared.statement.Branch.{Branch, Branch-F, out-Branch, map-Branch, fold_out-Branch}
use Rattle.chi_core.specs.declared.statement.CAlt.{CAlt, CAlt-F, out-CAlt, map-CAlt, fold_out-CAlt}
use Rattle.chi_core.specs.declared.statement.CStat.{CStat, CStat-F, out-CStat, map-CStat, fold_out-CStat}
use Rattle.chi_core.specs.declared.statement.CStat.TheVariants as statement
use Rattle.chi_core.specs.declared.target.CStep.{CStep}
use Rattle.chi_core.specs.declared.target.CTarget.{CTarget}
use Rattle.chi_core.specs.SetSlots.{StatLayer, Known as Set, also_all, whole_or, wholes, sets}
use Rattle.chi_check.specs.Below.chi_check_streams.specs.Streams.{Counted, Counting, each, of_step, of_target, of_element, of_statement, of_branch, of_alternative, element_step, statement_step, branch_step, alternative_step}
use Rattle.chi_check_laws.specs.Texts as texts
use Rattle.chi_check_laws.specs.Texts.{element_texts, statement_texts, branch_texts, alternative_texts}

-- ---- with streams

abbrev pub statement_parts : StatLayer → CStat-F (Counting CAlt) (Counting CStat) (Counting Branch)
statement_parts o = map-CStat CAlt CStat Branch (Counting CAlt) (Counting CStat) (Counting Branch) of_alternative of_statement of_branch o

abbrev pub alternative_parts : CAlt-F CAlt CStat Branch → CAlt-F (Counting CAlt) (Counting CStat) (Counting Branch)
alternative_parts o = map-CAlt CAlt CStat Branch (Counting CAlt) (Counting CStat) (Counting Branch) of_alternative of_statement of_branch o

abbrev pub branch_parts : Branch-F CAlt CStat Branch → Branch-F (Counting CAlt) (Counting CStat) (Counting Branch)
branch_parts o = map-Branch CAlt CStat Branch (Counting CAlt) (Counting CStat) (Counting Branch) of_alternative of_statement of_branch o

abbrev pub element_parts : CElem-F CElem → CElem-F (Counting CElem)
element_parts o = map-CElem CElem (Counting CElem) of_element o

pub statement_streams : (x : CStat) (layer : StatLayer) → out-CStat x ≡ layer → (count : ℕ) → of_statement x count ≡ statement_step (statement_parts layer) count
unfolding of_statement of_branch of_alternative
statement_streams x layer h count =
    ap (λ f. f count) (fold_out-CStat (Counting CAlt) (Counting CStat) (Counting Branch) alternative_step statement_step branch_step x)
    ∙ ap (λ o. statement_step (statement_parts o) count) h

pub alternative_streams : (x : CAlt) (layer : CAlt-F CAlt CStat Branch) → out-CAlt x ≡ layer → (count : ℕ) → of_alternative x count ≡ alternative_step (alternative_parts layer) count
unfolding of_statement of_branch of_alternative
alternative_streams x layer h count =
    ap (λ f. f count) (fold_out-CAlt (Counting CAlt) (Counting CStat) (Counting Branch) alternative_step statement_step branch_step x)
    ∙ ap (λ o. alternative_step (alternative_parts o) count) h

pub branch_streams : (x : Branch) (layer : Branch-F CAlt CStat Branch) → out-Branch x ≡ layer → (count : ℕ) → of_branch x count ≡ branch_step (branch_parts layer) count
unfolding of_statement of_branch of_alternative
branch_streams x layer h count =
    ap (λ f. f count) (fold_out-Branch (Counting CAlt) (Counting CStat) (Counting Branch) alternative_step statement_step branch_step x)
    ∙ ap (λ o. branch_step (branch_parts o) count) h

pub element_streams : (x : CElem) (layer : CElem-F CElem) → out-CElem x ≡ layer → (count : ℕ) → of_element x count ≡ element_step (element_parts layer) count
unfolding of_element
element_streams x layer h count = ap (λ f. f count) (fold_out-CElem (Counting CElem) element_step x) ∙ ap (λ o. element_step (element_parts o) count) h

-- ---- text literals

abbrev pub statement_texts_of : StatLayer → Bool
statement_texts_of o = texts.statement_step (map-CStat CAlt CStat Branch Bool Bool Bool alternative_texts statement_texts branch_texts o)

abbrev pub alternative_texts_of : CAlt-F CAlt CStat Branch → Bool
alternative_texts_of o = texts.alternative_step (map-CAlt CAlt CStat Branch Bool Bool Bool alternative_texts statement_texts branch_texts o)

abbrev pub branch_texts_of : Branch-F CAlt CStat Branch → Bool
branch_texts_of o = texts.branch_step (map-Branch CAlt CStat Branch Bool Bool Bool alternative_texts statement_texts branch_texts o)

abbrev pub element_texts_of : CElem-F CElem → Bool
element_texts_of o = texts.element_step (map-CElem CElem Bool element_texts o)

pub statement_short : (x : CStat) (layer : StatLayer) → out-CStat x ≡ layer → statement_texts x ≡ statement_texts_of layer
statement_short x layer h = fold_out-CStat Bool Bool Bool texts.alternative_step texts.statement_step texts.branch_step x ∙ ap statement_texts_of h

pub alternative_short : (x : CAlt) (layer : CAlt-F CAlt CStat Branch) → out-CAlt x ≡ layer → alternative_texts x ≡ alternative_texts_of layer
alternative_short x layer h = fold_out-CAlt Bool Bool Bool texts.alternative_step texts.statement_step texts.branch_step x ∙ ap alternative_texts_of h

pub branch_short : (x : Branch) (layer : Branch-F CAlt CStat Branch) → out-Branch x ≡ layer → branch_texts x ≡ branch_texts_of layer
branch_short x layer h = fold_out-Branch Bool Bool Bool texts.alternative_step texts.statement_step texts.branch_step x ∙ ap branch_texts_of h

pub element_short : (x : CElem) (layer : CElem-F CElem) → out-CElem x ≡ layer → element_texts x ≡ element_texts_of layer
element_short x layer h = fold_out-CElem Bool texts.element_step x ∙ ap element_texts_of h

-- ---- what a statement sets doesn't depend on its streams

whole_counted : (steps : List CStep) (slot : ℕ) (slots : List ℕ) (count : ℕ) → whole_or (each (map of_step steps) count).part slot slots ≡ whole_or steps slot slots
whole_counted [] slot slots count = refl
whole_counted (s ∷ steps) slot slots count = refl

pub wholes_counted : (targets : List CTarget) (count : ℕ) → wholes (each (map of_target targets) count).part ≡ wholes targets
wholes_counted [] count = refl
wholes_counted (t ∷ targets) count =
    whole_counted t.steps t.slot (wholes (each (map of_target targets) (of_target t count).next).part) count
    ∙ ap (whole_or t.steps t.slot) (wholes_counted targets (of_target t count).next)

layer_sets : (layer : StatLayer) (set : Set) (count : ℕ) → sets (out-CStat (statement_step (statement_parts layer) count).part) set ≡ sets layer set
layer_sets (CStat-F.Declare line slot e) set count = ap (λ o. sets o set) (statement.outs-Declare line slot _)
layer_sets (CStat-F.Assign line targets es) set count = ap (λ o. sets o set) (statement.outs-Assign line _ _) ∙ ap (λ slots. also_all slots set) (wholes_counted targets count)
layer_sets (CStat-F.If line branches otherwise) set count = ap (λ o. sets o set) (statement.outs-If line _ _)
layer_sets (CStat-F.While line test block) set count = ap (λ o. sets o set) (statement.outs-While line _ _)
layer_sets (CStat-F.For line slots container block) set count = ap (λ o. sets o set) (statement.outs-For line slots _ _)
layer_sets (CStat-F.Break line) set count = ap (λ o. sets o set) (statement.outs-Break line)
layer_sets (CStat-F.Continue line) set count = ap (λ o. sets o set) (statement.outs-Continue line)
layer_sets (CStat-F.Pass line) set count = ap (λ o. sets o set) (statement.outs-Pass line)
layer_sets (CStat-F.Return line e) set count = ap (λ o. sets o set) (statement.outs-Return line _)
layer_sets (CStat-F.Exit line e) set count = ap (λ o. sets o set) (statement.outs-Exit line _)
layer_sets (CStat-F.Write line pieces es) set count = ap (λ o. sets o set) (statement.outs-Write line pieces _)
layer_sets (CStat-F.Select line alternatives) set count = ap (λ o. sets o set) (statement.outs-Select line _)
layer_sets (CStat-F.Run line elements) set count = ap (λ o. sets o set) (statement.outs-Run line _)
layer_sets (CStat-F.Start line elements) set count = ap (λ o. sets o set) (statement.outs-Start line _)
layer_sets (CStat-F.Finish line es) set count = ap (λ o. sets o set) (statement.outs-Finish line _)

pub streams_set : (x : CStat) (set : Set) (count : ℕ) → sets (out-CStat (of_statement x count).part) set ≡ sets (out-CStat x) set
streams_set x set count = ap (λ (made : Counted CStat). sets (out-CStat made.part) set) (statement_streams x (out-CStat x) refl count) ∙ layer_sets (out-CStat x) set count
