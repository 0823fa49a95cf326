-- Statements of experiments with their streams: what each comes to by its outermost layer, and what it sets.
use Rattle.std.proofs.Common.{◌≡◌, ℕ, Bool, true, [], ◌∷◌, refl, ap, ◌∙◌}
use Rattle.chi_core.specs.declared.experiment.XBranch.{XBranch, XBranch-F, out-XBranch, map-XBranch, fold_out-XBranch}
use Rattle.chi_core.specs.declared.experiment.XStat.{XStat, XStat-F, out-XStat, map-XStat, fold_out-XStat}
use Rattle.chi_core.specs.declared.experiment.XStat.TheVariants as trial
use Rattle.chi_core.specs.declared.statement.CStat.{CStat, CStat-F, out-CStat}
use Rattle.chi_core.specs.declared.statement.CStat.TheVariants as statement
use Rattle.chi_core.specs.SetSlots.{StatLayer, Known as Set, also_all, wholes}
use Rattle.chi_core.specs.SoundExperiments.{XLayer, sets_by, is_line}
use Rattle.chi_check.specs.Below.chi_check_streams.specs.Streams.{Counted, Counting, of_statement, of_xstat, of_xbranch, xstat_step, xbranch_step, statement_step}
use Rattle.chi_check_laws.specs.Trials as texts
use Rattle.chi_check_laws.specs.Trials.{trial_texts, branch_texts}
use Rattle.chi_check_laws.proofs.Layers.{statement_parts, statement_streams, streams_set, wholes_counted}
use Rattle.chi_check_laws.proofs.More.{Within, also_all_more, sets_more}

-- ---- with streams

abbrev pub trial_parts : XLayer → XStat-F (Counting XStat) (Counting XBranch)
trial_parts o = map-XStat XStat XBranch (Counting XStat) (Counting XBranch) of_xstat of_xbranch o

abbrev pub branch_parts : XBranch-F XStat XBranch → XBranch-F (Counting XStat) (Counting XBranch)
branch_parts o = map-XBranch XStat XBranch (Counting XStat) (Counting XBranch) of_xstat of_xbranch o

pub trial_streams : (x : XStat) (layer : XLayer) → out-XStat x ≡ layer → (count : ℕ) → of_xstat x count ≡ xstat_step (trial_parts layer) count
unfolding of_xstat of_xbranch
trial_streams x layer h count = ap (λ f. f count) (fold_out-XStat (Counting XStat) (Counting XBranch) xstat_step xbranch_step x) ∙ ap (λ o. xstat_step (trial_parts o) count) h

pub branch_streams : (x : XBranch) (layer : XBranch-F XStat XBranch) → out-XBranch x ≡ layer → (count : ℕ) → of_xbranch x count ≡ xbranch_step (branch_parts layer) count
unfolding of_xstat of_xbranch
branch_streams x layer h count = ap (λ f. f count) (fold_out-XBranch (Counting XStat) (Counting XBranch) xstat_step xbranch_step x) ∙ ap (λ o. xbranch_step (branch_parts o) count) h

-- ---- text literals

abbrev pub trial_texts_of : XLayer → Bool
trial_texts_of o = texts.trial_step (map-XStat XStat XBranch Bool Bool trial_texts branch_texts o)

abbrev pub branch_texts_of : XBranch-F XStat XBranch → Bool
branch_texts_of o = texts.branch_step (map-XBranch XStat XBranch Bool Bool trial_texts branch_texts o)

pub trial_short : (x : XStat) (layer : XLayer) → out-XStat x ≡ layer → trial_texts x ≡ trial_texts_of layer
trial_short x layer h = fold_out-XStat Bool Bool texts.trial_step texts.branch_step x ∙ ap trial_texts_of h

pub branch_short : (x : XBranch) (layer : XBranch-F XStat XBranch) → out-XBranch x ≡ layer → branch_texts x ≡ branch_texts_of layer
branch_short x layer h = fold_out-XBranch Bool Bool texts.trial_step texts.branch_step x ∙ ap branch_texts_of h

-- ---- what a statement sets doesn't depend on its streams

layer_sets : (layer : XLayer) (set : Set) (count : ℕ) → sets_by (out-XStat (xstat_step (trial_parts layer) count).part) set ≡ sets_by layer set
layer_sets (XStat-F.Line s) set count = ap (λ o. sets_by o set) (trial.outs-Line _) ∙ streams_set s set count
layer_sets (XStat-F.If line branches otherwise) set count = ap (λ o. sets_by o set) (trial.outs-If line _ _)
layer_sets (XStat-F.While line test block) set count = ap (λ o. sets_by o set) (trial.outs-While line _ _)
layer_sets (XStat-F.For line slots container block) set count = ap (λ o. sets_by o set) (trial.outs-For line slots _ _)
layer_sets (XStat-F.RunModel line target model arguments widen) set count =
    ap (λ o. sets_by o set) (trial.outs-RunModel line _ model _ widen) ∙ ap (λ slots. also_all slots set) (wholes_counted (target ∷ []) count)

pub trial_streams_set : (x : XStat) (set : Set) (count : ℕ) → sets_by (out-XStat (of_xstat x count).part) set ≡ sets_by (out-XStat x) set
trial_streams_set x set count = ap (λ (made : Counted XStat). sets_by (out-XStat made.part) set) (trial_streams x (out-XStat x) refl count) ∙ layer_sets (out-XStat x) set count

-- what a statement sets is added
pub sets_by_more : (layer : XLayer) (set : Set) → Within set (sets_by layer set)
sets_by_more (XStat-F.Line s) set k h = sets_more (out-CStat s) set k h
sets_by_more (XStat-F.RunModel line target model arguments widen) set k h = also_all_more (wholes (target ∷ [])) set k h
sets_by_more (XStat-F.If line branches otherwise) set k h = h
sets_by_more (XStat-F.While line test block) set k h = h
sets_by_more (XStat-F.For line slots container block) set k h = h

-- ---- a statement without blocks stays one

layer_line : (layer : StatLayer) (count : ℕ) → is_line layer ≡ true → is_line (out-CStat (statement_step (statement_parts layer) count).part) ≡ true
layer_line (CStat-F.Declare line slot e) count h = ap is_line (statement.outs-Declare line slot _)
layer_line (CStat-F.Assign line targets es) count h = ap is_line (statement.outs-Assign line _ _)
layer_line (CStat-F.Break line) count h = ap is_line (statement.outs-Break line)
layer_line (CStat-F.Continue line) count h = ap is_line (statement.outs-Continue line)
layer_line (CStat-F.Pass line) count h = ap is_line (statement.outs-Pass line)
layer_line _ count h = absurd (cc)

pub streams_line : (s : CStat) (count : ℕ) → is_line (out-CStat s) ≡ true → is_line (out-CStat (of_statement s count).part) ≡ true
streams_line s count h = ap (λ (made : Counted CStat). is_line (out-CStat made.part)) (statement_streams s (out-CStat s) refl count) ∙ layer_line (out-CStat s) count h
