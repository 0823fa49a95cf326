-- Private to proofs. What each statement of an experiment is with its streams.
use Rattle.std.proofs.Common.{◌≡◌, ℕ, Bool, List, map, ap, ◌∙◌}
use Rattle.chi_core.specs.declared.experiment.XBranch.{XBranch, out-XBranch, fold_out-XBranch}
use Rattle.chi_core.specs.declared.experiment.XStat.{XStat, XStat-F, map-XStat, out-XStat, fold_out-XStat}
use Rattle.chi_core.specs.declared.experiment.XStat.TheVariants as trial
use Rattle.chi_core.specs.declared.expression.CExpr.{CExpr}
use Rattle.chi_core.specs.declared.statement.CStat.{CStat}
use Rattle.chi_core.specs.declared.target.CTarget.{CTarget}
use Rattle.chi_check_streams.specs.Streams.{Counted, Counting, xstat_step, xbranch_step, of_xstat, of_xbranch}

trial_is : (x : XStat) (o : XStat-F XStat XBranch) (count : ℕ) → out-XStat x ≡ o
    → of_xstat x count ≡ xstat_step (map-XStat XStat XBranch (Counting XStat) (Counting XBranch) of_xstat of_xbranch o) count
unfolding of_xstat of_xbranch
trial_is x o count h = ap (λ (g : Counting XStat). g count) (fold_out-XStat (Counting XStat) (Counting XBranch) xstat_step xbranch_step x
    ∙ ap (λ o. xstat_step (map-XStat XStat XBranch (Counting XStat) (Counting XBranch) of_xstat of_xbranch o)) h)

branch_is : (b : XBranch) (count : ℕ) → of_xbranch b count ≡ xbranch_step (record { test = (out-XBranch b).test; block = map of_xstat (out-XBranch b).block }) count
unfolding of_xstat of_xbranch
branch_is b count = ap (λ (g : Counting XBranch). g count) (fold_out-XBranch (Counting XStat) (Counting XBranch) xstat_step xbranch_step b)

pub part_branch : (b : XBranch) (count : ℕ) → (of_xbranch b count).part ≡ (xbranch_step (record { test = (out-XBranch b).test; block = map of_xstat (out-XBranch b).block }) count).part
part_branch b count = ap (λ (t : Counted XBranch). t.part) (branch_is b count)

pub next_branch : (b : XBranch) (count : ℕ) → (of_xbranch b count).next ≡ (xbranch_step (record { test = (out-XBranch b).test; block = map of_xstat (out-XBranch b).block }) count).next
next_branch b count = ap (λ (t : Counted XBranch). t.next) (branch_is b count)

pub part_line : (whole : XStat) (s : CStat) (count : ℕ) → whole ≡ trial.Line s → (of_xstat whole count).part ≡ (xstat_step (XStat-F.Line s) count).part
part_line whole s count h = ap (λ (t : Counted XStat). t.part) (trial_is whole (XStat-F.Line s) count (ap out-XStat h ∙ trial.outs-Line s))

pub next_line : (whole : XStat) (s : CStat) (count : ℕ) → whole ≡ trial.Line s → (of_xstat whole count).next ≡ (xstat_step (XStat-F.Line s) count).next
next_line whole s count h = ap (λ (t : Counted XStat). t.next) (trial_is whole (XStat-F.Line s) count (ap out-XStat h ∙ trial.outs-Line s))

pub part_if : (whole : XStat) (line : ℕ) (branches : List XBranch) (otherwise : List XStat) (count : ℕ) → whole ≡ trial.If line branches otherwise → (of_xstat whole count).part ≡ (xstat_step (XStat-F.If line (map of_xbranch branches) (map of_xstat otherwise)) count).part
part_if whole line branches otherwise count h = ap (λ (t : Counted XStat). t.part) (trial_is whole (XStat-F.If line branches otherwise) count (ap out-XStat h ∙ trial.outs-If line branches otherwise))

pub next_if : (whole : XStat) (line : ℕ) (branches : List XBranch) (otherwise : List XStat) (count : ℕ) → whole ≡ trial.If line branches otherwise → (of_xstat whole count).next ≡ (xstat_step (XStat-F.If line (map of_xbranch branches) (map of_xstat otherwise)) count).next
next_if whole line branches otherwise count h = ap (λ (t : Counted XStat). t.next) (trial_is whole (XStat-F.If line branches otherwise) count (ap out-XStat h ∙ trial.outs-If line branches otherwise))

pub part_while : (whole : XStat) (line : ℕ) (test : CExpr) (block : List XStat) (count : ℕ) → whole ≡ trial.While line test block → (of_xstat whole count).part ≡ (xstat_step (XStat-F.While line test (map of_xstat block)) count).part
part_while whole line test block count h = ap (λ (t : Counted XStat). t.part) (trial_is whole (XStat-F.While line test block) count (ap out-XStat h ∙ trial.outs-While line test block))

pub next_while : (whole : XStat) (line : ℕ) (test : CExpr) (block : List XStat) (count : ℕ) → whole ≡ trial.While line test block → (of_xstat whole count).next ≡ (xstat_step (XStat-F.While line test (map of_xstat block)) count).next
next_while whole line test block count h = ap (λ (t : Counted XStat). t.next) (trial_is whole (XStat-F.While line test block) count (ap out-XStat h ∙ trial.outs-While line test block))

pub part_for : (whole : XStat) (line : ℕ) (slots : List ℕ) (container : CExpr) (block : List XStat) (count : ℕ) → whole ≡ trial.For line slots container block → (of_xstat whole count).part ≡ (xstat_step (XStat-F.For line slots container (map of_xstat block)) count).part
part_for whole line slots container block count h = ap (λ (t : Counted XStat). t.part) (trial_is whole (XStat-F.For line slots container block) count (ap out-XStat h ∙ trial.outs-For line slots container block))

pub next_for : (whole : XStat) (line : ℕ) (slots : List ℕ) (container : CExpr) (block : List XStat) (count : ℕ) → whole ≡ trial.For line slots container block → (of_xstat whole count).next ≡ (xstat_step (XStat-F.For line slots container (map of_xstat block)) count).next
next_for whole line slots container block count h = ap (λ (t : Counted XStat). t.next) (trial_is whole (XStat-F.For line slots container block) count (ap out-XStat h ∙ trial.outs-For line slots container block))

pub part_run : (whole : XStat) (line : ℕ) (to : CTarget) (model : ℕ) (arguments : List CExpr) (widens : Bool) (count : ℕ) → whole ≡ trial.RunModel line to model arguments widens → (of_xstat whole count).part ≡ (xstat_step (XStat-F.RunModel line to model arguments widens) count).part
part_run whole line to model arguments widens count h = ap (λ (t : Counted XStat). t.part) (trial_is whole (XStat-F.RunModel line to model arguments widens) count (ap out-XStat h ∙ trial.outs-RunModel line to model arguments widens))

pub next_run : (whole : XStat) (line : ℕ) (to : CTarget) (model : ℕ) (arguments : List CExpr) (widens : Bool) (count : ℕ) → whole ≡ trial.RunModel line to model arguments widens → (of_xstat whole count).next ≡ (xstat_step (XStat-F.RunModel line to model arguments widens) count).next
next_run whole line to model arguments widens count h = ap (λ (t : Counted XStat). t.next) (trial_is whole (XStat-F.RunModel line to model arguments widens) count (ap out-XStat h ∙ trial.outs-RunModel line to model arguments widens))
