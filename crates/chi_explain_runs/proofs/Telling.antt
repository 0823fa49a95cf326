-- What is told along the labels of a run, and where it comes to rest.
use Rattle.std.proofs.Common.{◌≡◌, ℕ, Bool, true, false, List, [], ◌∷◌, ◌++◌, Option, Some, None, get_or, sym, ◌∙◌, ap, refl, append_assoc, append-nil}
use Rattle.std.specs.Prelude.{ℤ, option_map, if◌then◌else◌}
use Rattle.std.specs.Option.{option_and_then}
use Rattle.std.specs.List.{slice_get}
use Rattle.std.proofs.Math.Path.{fun_ext}
use Rattle.chi_core.specs.declared.program.Core.{Core}
use Rattle.chi_core.specs.declared.label.Label.{Label}
use Rattle.chi_core.specs.declared.label.Label.TheVariants.{Local, Pair, Wake, Join, Advance}
use Rattle.chi_core.specs.declared.verdict.Verdict.{Verdict}
use Rattle.chi_core.specs.declared.verdict.Verdict.TheVariants.{Completed}
use Rattle.chi_core.specs.Beginning.{Beginning, Begins, Breaks}
use Rattle.chi_core.specs.Beginning as beginning
use Rattle.chi_core.specs.Config.{Config, Instance}
use Rattle.chi_core.specs.Meeting.{next_due}
use Rattle.chi_core.specs.Options.{Ending, ending_at, all_finished, at_rest, enabled, ending_of, stopped_at}
use Rattle.chi_core.specs.Options as option
use Rattle.chi_core.specs.Runs.{told_after}
use Rattle.chi_core.specs.Step as outcome
use Rattle.chi_core.specs.Step.{Outcome, step}
use Rattle.chi_explain_labels.specs.Labels.{taken}
use Rattle.chi_explain_labels.specs.LabelsText.{labels_text}
use Rattle.chi_explain_runs.specs.Waits.{rest_text, spent_told, waits_along, waits_of}
use Rattle.chi_explain_runs.specs.Turns.{done_next, done_by, with_done, AreCounts, ToldIn}
use Rattle.chi_explain_waiting.specs.WaitingText.{waiting_text}
use Rattle.chi_explain_waiting.specs.Whereabouts.{next_line, with_line, line_done, lines_after}

-- the lines that instances did last

done_lines : (lines : List ℕ) (p : ℕ) (found : Option Instance) → with_done lines (option_and_then (done_next p) found) ≡ line_done lines p found
done_lines lines p None = refl
done_lines lines p (Some i) = by_line (next_line i)
  where
    by_line : (next : Option ℕ) → with_done lines (option_map (λ line. record { pid = p; line = line }) next) ≡ with_line lines p next
    by_line None = refl
    by_line (Some line) = refl

same_lines : (config : Config) (label : Label) (lines : List ℕ) → with_done lines (done_by config label) ≡ lines_after config label lines
same_lines config (Local p) lines = done_lines lines p (slice_get config.instances p)
same_lines config (Pair p a q b) lines = refl
same_lines config (Wake p a) lines = refl
same_lines config (Join p) lines = refl
same_lines config Advance lines = refl

-- what is told along labels

module _ (last : List ℕ → Config → List ℕ) (core : Core) where
  waits-none : (lines : List ℕ) (config : Config) (left : ℕ) → waits_along last core lines config left [] ≡ last lines config
  unfolding waits_along
  waits-none lines config left = refl

  waits-first : (lines : List ℕ) (config : Config) (left : ℕ) (label : Label) (labels : List Label)
      → waits_along last core lines config left (label ∷ labels)
      ≡ told_after (λ new rest. waits_along last core (lines_after config label lines) new rest labels) (step core config label left)
  unfolding waits_along
  waits-first lines config left label labels = refl

  waits-step : (lines : List ℕ) (config : Config) (left : ℕ) (label : Label) (labels : List Label) (s : Outcome) → step core config label left ≡ s
      → waits_along last core lines config left (label ∷ labels)
      ≡ told_after (λ new rest. waits_along last core (lines_after config label lines) new rest labels) s
  waits-step lines config left label labels s e =
      waits-first lines config left label labels ∙ ap (told_after (λ new rest. waits_along last core (lines_after config label lines) new rest labels)) e

pub told_on : (core : Core) (beginning : Beginning) (bound : ℕ) (labels : List Label) (lines : List ℕ) (config : Config) (left : ℕ)
    → ToldIn core beginning bound labels lines config left
    → (label : Label) (new : Config) (text : List ℕ) (rest : ℕ) → step core config label left ≡ outcome.Next new text rest
    → ToldIn core beginning bound (labels ++ label ∷ []) (with_done lines (done_by config label)) new rest
told_on core (Begins first) bound labels lines config left so label new text rest goes = λ last more.
    ap (waits_along last core [] first bound) (append_assoc labels (label ∷ []) more)
    ∙ so last (label ∷ more)
    ∙ waits-step last core lines config left label more (outcome.Next new text rest) goes
    ∙ ap (λ l. waits_along last core l new rest more) (sym (same_lines config label lines))
told_on core (Breaks end) bound labels lines config left so label new text rest goes = absurd so
told_on core beginning.Amiss bound labels lines config left so label new text rest goes = absurd so

module _ (core : Core) (source : List ℕ) where
  pub told_over : (beginning : Beginning) (bound : ℕ) (labels : List Label) (lines : List ℕ) (config : Config) (left : ℕ)
      → ToldIn core beginning bound labels lines config left
      → (label : Label) (verdict : Verdict) (end : Ending) (output : List ℕ) → step core config label left ≡ outcome.Over verdict
      → [] ≡ waits_of core source beginning bound (record { labels = labels ++ label ∷ []; ending = end; output = output })
  told_over (Begins first) bound labels lines config left so label verdict end output goes =
      let last = rest_text core source bound (record { labels = labels ++ label ∷ []; ending = end; output = output }) in
      sym (so last (label ∷ []) ∙ waits-step last core lines config left label [] (outcome.Over verdict) goes)
  told_over (Breaks end) bound labels lines config left so label verdict _ output goes = refl
  told_over beginning.Amiss bound labels lines config left so label verdict end output goes = refl

  pub told_last : (beginning : Beginning) (bound : ℕ) (labels : List Label) (lines : List ℕ) (config : Config) (left : ℕ)
      → ToldIn core beginning bound labels lines config left → (end : Ending) (output : List ℕ)
      → rest_text core source bound (record { labels = labels; ending = end; output = output }) lines config
      ≡ waits_of core source beginning bound (record { labels = labels; ending = end; output = output })
  told_last (Begins first) bound labels lines config left so end output =
      let last = rest_text core source bound (record { labels = labels; ending = end; output = output }) in
      sym (ap (waits_along last core [] first bound) (sym (append-nil labels)) ∙ so last [] ∙ waits-none last core lines config left)
  told_last (Breaks end) bound labels lines config left so _ output = absurd so
  told_last beginning.Amiss bound labels lines config left so end output = absurd so

-- what is told of the bound

module _ (core : Core) (bound : ℕ) (labels : List Label) (config : Config) where
  rest_untold : (finished : Bool) (due until : Option ℤ)
      → spent_told core bound labels config (if finished then ending_at Completed config else stopped_at config due until).verdict ≡ []
  rest_untold true due until = refl
  rest_untold false None until = refl
  rest_untold false (Some t) None = refl
  rest_untold false (Some t) (Some u) = refl

  ending_untold : (end : Ending) → option.ending config ≡ Some end → spent_told core bound labels config end.verdict ≡ []
  ending_untold end e = by_labels (enabled config) e
    where
      by_labels : (ls : List Label) → ending_of ls config ≡ Some end → spent_told core bound labels config end.verdict ≡ []
      by_labels [] e' =
          let same : at_rest config ≡ end = cc in
          ap (λ (x : Ending). spent_told core bound labels config x.verdict) (sym same) ∙ rest_untold (all_finished config) (next_due config) config.until
      by_labels (l ∷ ls) e' = absurd (cc)

-- nothing where nothing can happen
pub told_rest : (core : Core) (source : List ℕ) (bound : ℕ) (labels : List Label) (lines : List ℕ) (config : Config) (end : Ending)
    → option.ending config ≡ Some end → waiting_text core source lines config ++ [] ≡ waiting_text core source lines config ++ spent_told core bound labels config end.verdict
told_rest core source bound labels lines config end e =
    ap (λ (t : List ℕ). waiting_text core source lines config ++ t) (sym (ending_untold core bound labels config end e))

-- and by the counts, out of steps
pub told_spent : (core : Core) (source : List ℕ) (bound : ℕ) (labels : List Label) (lines counts : List ℕ) (config : Config) → AreCounts labels counts
    → waiting_text core source lines config ++ labels_text core config (λ p. get_or counts p 0) bound
    ≡ waiting_text core source lines config ++ labels_text core config (taken labels) bound
told_spent core source bound labels lines counts config are =
    ap (λ (f : ℕ → ℕ). waiting_text core source lines config ++ labels_text core config f bound) (fun_ext are)
