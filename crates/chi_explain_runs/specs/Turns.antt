-- Private to proofs: a run under a policy, turn by turn, with the lines that instances did last and the labels that they took.
use Rattle.std.specs.Prelude.{◌≡◌, ℕ, ◌+◌, ◌*◌, ◌≤◌, List, [], ◌++◌, length, Option, Some, None, option_map, slice_get, slice_index}
use Rattle.std.specs.Option.{option_and_then}
use Rattle.chi_core.specs.declared.label.Label.{Label}
use Rattle.chi_core.specs.declared.label.Label.TheVariants.{Local, Pair, Wake, Join, Advance}
use Rattle.chi_core.specs.declared.program.Core.{Core}
use Rattle.chi_core.specs.Beginning.{Beginning, Begins, Breaks}
use Rattle.chi_core.specs.Beginning as beginning
use Rattle.chi_core.specs.Config.{Config, Instance}
use Rattle.chi_core.specs.Options.{ending}
use Rattle.chi_core.specs.Picks.{Pick, MayPick}
use Rattle.chi_core_runs.specs.Turns.{UnderWay}
use Rattle.chi_explain_labels.specs.Labels.{taken}
use Rattle.chi_explain_labels.specs.LabelsText.{labels_text}
use Rattle.chi_explain_runs.specs.declared.notes.Done.{Done}
use Rattle.chi_explain_runs.specs.Waits.{waits_along, IsWaitingTold}
use Rattle.chi_explain_waiting.specs.WaitingText.{waiting_text}
use Rattle.chi_explain_waiting.specs.Whereabouts.{next_line, with_line}
use Rattle.chi_plain.specs.Stage.{Stage, At, Ended, Lost, Runner, Begun}
use Rattle.chi_sched.specs.Policies.{Answers}

-- the item that a label has an instance do, by its line
abbrev pub done_next : ℕ → Instance → Option Done
done_next p i = option_map (λ line. record { pid = p; line = line }) (next_line i)

abbrev pub done_by : Config → Label → Option Done
done_by config (Local p) = option_and_then (done_next p) (slice_get config.instances p)
done_by config (Pair p a q b) = None
done_by config (Wake p a) = None
done_by config (Join p) = None
done_by config Advance = None

abbrev pub done_at : Stage → Label → Option Done
done_at (At config) label = done_by config label
done_at (Ended end) label = None
done_at Lost label = None

abbrev pub with_done : List ℕ → Option Done → List ℕ
with_done lines None = lines
with_done lines (Some done) = with_line lines done.pid (Some done.line)

-- something can happen
abbrev pub GoesOn : Stage → Type 0
GoesOn (At config) = ending config ≡ None
GoesOn (Ended end) = ⊥
GoesOn Lost = ⊥

-- the label is the one that a policy picks there, whichever function tells what it gives
abbrev pub PicksAt : (ℕ → ℕ → ℕ → Type 0) → ℕ → Stage → Label → Type 0
PicksAt gives turn (At config) label = (pick : Pick) → Answers gives pick → MayPick pick turn config label
PicksAt gives turn (Ended end) label = ⊥
PicksAt gives turn Lost label = ⊥

abbrev pub IsThere : Stage → Type 0
IsThere (At config) = Unit {0}
IsThere (Ended end) = Unit {0}
IsThere Lost = ⊥

-- whatever labels come yet, what is told after all is told from there
abbrev pub ToldIn : Core → Beginning → ℕ → List Label → List ℕ → Config → ℕ → Type 0
ToldIn core (Begins first) bound labels lines config left =
    (last : List ℕ → Config → List ℕ) (more : List Label)
    → waits_along last core [] first bound (labels ++ more) ≡ waits_along last core lines config left more
ToldIn core (Breaks ending) bound labels lines config left = ⊥
ToldIn core beginning.Amiss bound labels lines config left = ⊥

-- each instance took as many of these labels as is counted
abbrev pub AreCounts : List Label → List ℕ → Type 0
AreCounts labels counts = (p : ℕ) → slice_index counts p ≡ taken labels p

-- the run that the policy picks is under way, or has come to its end
abbrev pub Leads : Core → Beginning → Pick → ℕ → Stage → ℕ → ℕ → List ℕ → List ℕ → Type 0
Leads core beginning pick bound (At config) turn left lines counts =
    (labels : List Label) × (length labels ≡ turn)
    × ((output : List ℕ) × UnderWay core beginning pick bound labels output config left)
    × ToldIn core beginning bound labels lines config left × AreCounts labels counts
Leads core beginning pick bound (Ended end) turn left lines counts = (source : List ℕ) → IsWaitingTold core source beginning pick bound []
Leads core beginning pick bound Lost turn left lines counts = ⊥

-- a runner that stood at first, at a turn of the run, with so much left of the bound
pub record Keeps (gives : ℕ → ℕ → ℕ → Type 0) (core : Core) (first : Stage) (bound : ℕ) (runner : Runner) (turn left : ℕ) (lines counts : List ℕ) : Type 0 where
  pub same_core : runner.core ≡ core
  pub there : IsThere runner.stage
  pub room : turn + left ≤ bound
  pub few : (p : ℕ) → slice_index counts p ≤ 2 * turn
  pub leads : (beginning : Beginning) → Begun beginning first → (pick : Pick) → Answers gives pick → Leads core beginning pick bound runner.stage turn left lines counts

-- what is told of the bound, where it is used up
abbrev pub spent_in : Core → Config → List ℕ → Option ℕ → List ℕ
spent_in core config counts (Some bound) = labels_text core config (slice_index counts) bound
spent_in core config counts None = []

-- what is told of where a runner is, with the lines that instances did last and the labels that they took
abbrev pub told_in : Core → List ℕ → Stage → List ℕ → List ℕ → Option ℕ → List ℕ
told_in core source (At config) lines counts spent = waiting_text core source lines config ++ spent_in core config counts spent
told_in core source (Ended ending) lines counts spent = []
told_in core source Lost lines counts spent = []

-- the runner is where the run comes to rest
abbrev pub HasRun : (ℕ → ℕ → ℕ → Type 0) → Core → Stage → ℕ → Stage → List ℕ → List ℕ → Option ℕ → Type 0
HasRun gives core first bound stage lines counts spent =
    (beginning : Beginning) → Begun beginning first → (pick : Pick) → Answers gives pick → (source : List ℕ)
    → IsWaitingTold core source beginning pick bound (told_in core source stage lines counts spent)
