-- Statements of experiments: when their text literals are short, and when what they come to is sound.
use Rattle.std.specs.Prelude.{ℕ, Bool, ◌&&◌, List, [], ◌∷◌, map, IsTrue}
use Rattle.std.specs.List.{list_all}
use Rattle.chi_value.specs.Plain.{itself}
use Rattle.chi_core.specs.declared.experiment.XBranch.{XBranch, XBranch-F, fold-XBranch}
use Rattle.chi_core.specs.declared.experiment.XStat.{XStat, XStat-F, fold-XStat, out-XStat}
use Rattle.chi_core.specs.Scopes.{Scope}
use Rattle.chi_core.specs.SetSlots.{Known as Set}
use Rattle.chi_core.specs.SoundExperiments.{SoundXBlock, sets_by}
use Rattle.chi_check.specs.Below.chi_check_streams.specs.Streams.{each, of_xstat}
use Rattle.chi_check_laws.specs.TypedTexts.{texts_are_short}
use Rattle.chi_check_laws.specs.Parts.{target_texts}
use Rattle.chi_check_laws.specs.Texts.{all_texts, statement_texts}

-- ---- their text literals

abbrev pub trial_step : XStat-F Bool Bool → Bool
trial_step (XStat-F.Line s) = statement_texts s
trial_step (XStat-F.If line branches otherwise) = list_all itself branches && list_all itself otherwise
trial_step (XStat-F.While line test block) = texts_are_short test && list_all itself block
trial_step (XStat-F.For line slots container block) = texts_are_short container && list_all itself block
trial_step (XStat-F.RunModel line target model arguments widen) = target_texts target && all_texts arguments

abbrev pub branch_step : XBranch-F Bool Bool → Bool
branch_step b = texts_are_short b.test && list_all itself b.block

abbrev pub trial_texts : XStat → Bool
trial_texts = fold-XStat Bool Bool trial_step branch_step

abbrev pub branch_texts : XBranch → Bool
branch_texts = fold-XBranch Bool Bool trial_step branch_step

-- each text literal in the body of an experiment is shorter than 2^32 bytes
abbrev pub trials_texts : List XStat → Bool
trials_texts body = list_all itself (map trial_texts body)

-- ---- what they come to

-- what counts as set after statements in turn
abbrev pub set_by_trials : List XStat → Set → Set
set_by_trials [] set = set
set_by_trials (x ∷ xs) set = set_by_trials xs (sets_by (out-XStat x) set)

-- a body with its streams, however many calls come before it; its text literals are short
abbrev pub SoundTrials : Scope → Bool → Set → List XStat → Type 0
SoundTrials scope loop set body = IsTrue (trials_texts body) → (count : ℕ) → SoundXBlock scope loop set (each (map of_xstat body) count).part
