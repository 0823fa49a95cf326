-- Statements and branches of experiments that are sound with their streams: by their parts, and in turn.
use Rattle.std.proofs.Common.{◌≡◌, ℕ, Bool, true, List, [], ◌∷◌, ◌++◌, map, Some, refl, sym, ap, subst, ◌∙◌}
use Rattle.std.proofs.lemmas.Bool.{and_parts}
use Rattle.std.specs.List.{list_all}
use Rattle.std.specs.Prelude.{slice_get}
use Rattle.chi_types.specs.declared.ty.Ty.{Ty-F}
use Rattle.chi_value.specs.declared.format.Piece.{Piece}
use Rattle.chi_value.specs.Plain.{itself}
use Rattle.chi_core.specs.declared.experiment.XBranch.{XBranch, XBranch-F, roll-XBranch, out-XBranch, out-roll-XBranch}
use Rattle.chi_core.specs.declared.experiment.XStat.{XStat, out-XStat}
use Rattle.chi_core.specs.declared.experiment.XStat.TheVariants as trial
use Rattle.chi_core.specs.declared.expression.CExpr.{CExpr, out-CExpr}
use Rattle.chi_core.specs.declared.program.ProcDef.{ProcDef}
use Rattle.chi_core.specs.declared.statement.CStat.{CStat, out-CStat}
use Rattle.chi_core.specs.declared.statement.CStat.TheVariants as statement
use Rattle.chi_core.specs.declared.target.CTarget.{CTarget}
use Rattle.chi_core.specs.Kinds.{Kind, kinds_of, is_plain_kind}
use Rattle.chi_core.specs.Scopes.{Scope, exit_of}
use Rattle.chi_core.specs.SetSlots.{Known as Set, also_all}
use Rattle.chi_core.specs.SoundExperiments as sound
use Rattle.chi_core.specs.SoundExperiments.{XLayer, TakenAs, SoundXStat, SoundXBlock, SoundXBranches, sets_by, is_line}
use Rattle.chi_core.specs.SoundExpressions.{HasKind}
use Rattle.chi_core.specs.SoundParts.{TargetTakes, Shows}
use Rattle.chi_check.specs.Below.chi_check_streams.specs.Streams.{Counted, each, of_target, of_expressions, of_xstat, of_xbranch, xstat_step, xbranch_step}
use Rattle.chi_check_expr.proofs.Kept.{Each}
use Rattle.chi_check_laws.specs.KnownNames.{Has}
use Rattle.chi_check_laws.specs.Parts.{target_texts}
use Rattle.chi_check_laws.specs.Trials.{trial_texts, branch_texts, set_by_trials, SoundTrials}
use Rattle.chi_check_laws.proofs.Bodies.{SoundOne, nothing_more}
use Rattle.chi_check_laws.proofs.Has.{Have}
use Rattle.chi_check_laws.proofs.Layers.{statement_streams, statement_short}
use Rattle.chi_check_laws.proofs.More.{Within}
use Rattle.chi_check_laws.proofs.Statements.{SoundWalk}
use Rattle.chi_check_laws.proofs.TrialLayers.{trial_parts, branch_parts, trial_streams, branch_streams, trial_texts_of, branch_texts_of, trial_short, branch_short, trial_streams_set, sets_by_more, streams_line}
use Rattle.chi_check_laws.proofs.Turns.{ByParts, Kept}
use Rattle.chi_check.specs.Below.chi_check_stat_lines.specs.declared.state.State.{State}
use Rattle.chi_check.specs.Below.chi_check_stat_lines.specs.Stated.{Turn}

module _ (scope : Scope) (loop : Bool) where
  -- ---- one of each

  abbrev pub SoundTrial : Set → XStat → Type 0
  SoundTrial set x = trial_texts x ≡ true → (count : ℕ) → SoundXStat scope loop set (out-XStat (of_xstat x count).part)

  pub record BranchAt (set : Set) (b : XBranch-F XStat XBranch) : Type 0 where
    pub test : HasKind scope set (out-CExpr b.test) Ty-F.Bool
    pub block : SoundXBlock scope loop set b.block

  abbrev pub SoundTrialBranch : Set → XBranch → Type 0
  SoundTrialBranch set b = branch_texts b ≡ true → (count : ℕ) → BranchAt set (out-XBranch (of_xbranch b count).part)

  -- by their outermost layers
  trial_at : (set : Set) (x : XStat) (layer : XLayer) → out-XStat x ≡ layer
      → (trial_texts_of layer ≡ true → (count : ℕ) → SoundXStat scope loop set (out-XStat (xstat_step (trial_parts layer) count).part)) → SoundTrial set x
  trial_at set x layer h p short count =
      subst (λ (made : Counted XStat). SoundXStat scope loop set (out-XStat made.part)) (sym (trial_streams x layer h count)) (p (sym (trial_short x layer h) ∙ short) count)

  branch_at : (set : Set) (x : XBranch) (layer : XBranch-F XStat XBranch) → out-XBranch x ≡ layer
      → (branch_texts_of layer ≡ true → (count : ℕ) → BranchAt set (out-XBranch (xbranch_step (branch_parts layer) count).part)) → SoundTrialBranch set x
  branch_at set x layer h p short count =
      subst (λ (made : Counted XBranch). BranchAt set (out-XBranch made.part)) (sym (branch_streams x layer h count)) (p (sym (branch_short x layer h) ∙ short) count)

  at : (set : Set) (x : XStat) (layer : XLayer) → out-XStat x ≡ layer → SoundXStat scope loop set layer → SoundXStat scope loop set (out-XStat x)
  at set x layer h p = subst (SoundXStat scope loop set) (sym h) p

  -- ---- in turn

  abbrev pub AllTried : Set → List XStat → Type 0
  AllTried set [] = Unit {0}
  AllTried set (x ∷ xs) = SoundTrial set x × AllTried (sets_by (out-XStat x) set) xs

  pub trials_sound : (set : Set) (xs : List XStat) → AllTried set xs → SoundTrials scope loop set xs
  trials_sound set [] h short count = sound.no_statement loop set
  trials_sound set (x ∷ xs) h short count =
      let both = and_parts _ _ short in
      let next = (of_xstat x count).next in
      sound.one_statement loop set (of_xstat x count).part _ (h.0 both.0 count)
      (subst (λ set. SoundXBlock scope loop set (each (map of_xstat xs) next).part) (sym (trial_streams_set x set count)) (trials_sound (sets_by (out-XStat x) set) xs h.1 both.1 next))

  pub branches_sound : (set : Set) (bs : List XBranch) → Each (SoundTrialBranch set) bs → list_all itself (map branch_texts bs) ≡ true → (count : ℕ) → SoundXBranches scope loop set (each (map of_xbranch bs) count).part
  branches_sound set [] h short count = sound.no_branch loop set
  branches_sound set (b ∷ bs) h short count =
      let both = and_parts _ _ short in
      let first = h.0 both.0 count in
      sound.one_branch loop set (of_xbranch b count).part _ first.test first.block (branches_sound set bs h.1 both.1 (of_xbranch b count).next)

  pub all_append : (set : Set) (xs ys : List XStat) → AllTried set xs → AllTried (set_by_trials xs set) ys → AllTried set (xs ++ ys)
  all_append set [] ys h k = k
  all_append set (x ∷ xs) ys h k = (h.0, all_append (sets_by (out-XStat x) set) xs ys h.1 k)

  pub set_append : (set : Set) (xs ys : List XStat) → set_by_trials (xs ++ ys) set ≡ set_by_trials ys (set_by_trials xs set)
  set_append set [] ys = refl
  set_append set (x ∷ xs) ys = set_append (sets_by (out-XStat x) set) xs ys

  pub set_more : (set : Set) (xs : List XStat) → Within set (set_by_trials xs set)
  set_more set [] k h = h
  set_more set (x ∷ xs) k h = set_more (sets_by (out-XStat x) set) xs k (sets_by_more (out-XStat x) set k h)

  pub trials_by_parts : ByParts scope AllTried set_by_trials
  trials_by_parts = record {
    none = λ set. tt;
    append = all_append;
    next_none = λ set. refl;
    next_append = set_append;
    next_more = set_more;
  }

  -- ---- a rule for each form

  pub one_line : (set : Set) (s : CStat) → is_line (out-CStat s) ≡ true → SoundOne scope loop set s → SoundTrial set (trial.Line s)
  one_line set s line h = trial_at set _ _ (trial.outs-Line s) (λ short count.
      at set _ _ (trial.outs-Line _) (sound.one_line loop set _ (streams_line s count line) (h short count)))

  pub one_write : (set : Set) (line : ℕ) (pieces : List Piece) (es : List CExpr) (Ts : List Kind) → Have scope set es Ts → Shows pieces Ts → SoundTrial set (trial.Line (statement.Write line pieces es))
  one_write set line pieces es Ts h shows = trial_at set _ _ (trial.outs-Line _) (λ short count.
      let s = statement.Write line pieces es in
      let same = statement_streams s _ (statement.outs-Write line pieces es) count in
      let is = ap (λ (made : Counted CStat). out-CStat made.part) same ∙ statement.outs-Write line pieces _ in
      at set _ _ (trial.outs-Line _) (sound.one_write loop set _ line pieces (of_expressions es count).part Ts is (h (sym (statement_short s _ (statement.outs-Write line pieces es)) ∙ short) count) shows))

  pub one_choose : (set : Set) (line : ℕ) (branches : List XBranch) (otherwise : List XStat) → Each (SoundTrialBranch set) branches → AllTried set otherwise → SoundTrial set (trial.If line branches otherwise)
  one_choose set line branches otherwise h k = trial_at set _ _ (trial.outs-If line branches otherwise) (λ short count.
      let both = and_parts _ _ short in
      at set _ _ (trial.outs-If line _ _) (sound.chooses loop set line _ _ (branches_sound set branches h both.0 count) (trials_sound set otherwise k both.1 _)))

  pub one_run : (set : Set) (line : ℕ) (target : CTarget) (model : ℕ) (arguments : List CExpr) (widen : Bool) (d : ProcDef) (exit taken : Kind) → slice_get scope.core.procs model ≡ Some d → exit_of d ≡ Some exit
      → list_all is_plain_kind (kinds_of d.params) ≡ true → Have scope set arguments (kinds_of d.params) → TakenAs exit widen taken
      → (target_texts target ≡ true → (count : ℕ) → TargetTakes scope set target.slot (of_target target count).part.steps taken) → SoundTrial set (trial.RunModel line target model arguments widen)
  one_run set line target model arguments widen d exit taken is exits plain h taking takes = trial_at set _ _ (trial.outs-RunModel line target model arguments widen) (λ short count.
      let both = and_parts _ _ short in
      at set _ _ (trial.outs-RunModel line _ model _ widen) (sound.runs loop set line _ model _ widen d exit taken is exits plain (h both.1 (of_target target count).next) taking (takes both.0 count)))

module _ (scope : Scope) (loop : Bool) where
  pub one_while : (set : Set) (line : ℕ) (test : CExpr) (block : List XStat) → Has scope set test Ty-F.Bool → AllTried scope true set block → SoundTrial scope loop set (trial.While line test block)
  one_while set line test block h k = trial_at scope loop set _ _ (trial.outs-While line test block) (λ short count.
      let both = and_parts _ _ short in
      at scope loop set _ _ (trial.outs-While line _ _) (sound.loops loop set line _ _ (h both.0 count) (trials_sound scope true set block k both.1 _)))

  pub one_walk : (set : Set) (line : ℕ) (slots : List ℕ) (container : CExpr) (block : List XStat) → SoundWalk scope set slots container → AllTried scope true (also_all slots set) block
      → SoundTrial scope loop set (trial.For line slots container block)
  one_walk set line slots container block h k = trial_at scope loop set _ _ (trial.outs-For line slots container block) (λ short count.
      let both = and_parts _ _ short in
      at scope loop set _ _ (trial.outs-For line slots _ _) (sound.walks loop set line slots _ _ (h both.0 count) (trials_sound scope true (also_all slots set) block k both.1 _)))

  abbrev pub branch : CExpr → List XStat → XBranch
  branch test block = roll-XBranch (record { test = test; block = block })

  pub branch_sound : (set : Set) (test : CExpr) (inner : List XStat) → Has scope set test Ty-F.Bool → AllTried scope loop set inner → SoundTrialBranch scope loop set (branch test inner)
  branch_sound set test inner t k = branch_at scope loop set (branch test inner) (record { test = test; block = inner }) (out-roll-XBranch _) (λ short count.
      let both = and_parts _ _ short in
      subst (BranchAt scope loop set) (sym (out-roll-XBranch _)) (record { test = t both.0 count; block = trials_sound scope loop set inner k both.1 _ }))

-- ---- what turns come to

module _ (scope : Scope) where
  abbrev pub TrialKept : Bool → Turn State XStat → Type 0
  TrialKept loop = Kept scope (AllTried scope loop) set_by_trials

  abbrev pub TrialBranchKept : Bool → Turn State XBranch → Type 0
  TrialBranchKept loop = Kept scope (λ set. Each (SoundTrialBranch scope loop set)) nothing_more
