-- What each kind of statement of an experiment is without its lines, by what its parts are without theirs.
use Rattle.std.proofs.Common.{◌≡◌, ℕ, Bool, List, map, ap, sym, ◌∙◌}
use Rattle.chi_core.specs.declared.experiment.XBranch.{XBranch, fold_out-XBranch}
use Rattle.chi_core.specs.declared.experiment.XStat.{XStat, XStat-F, fold-roll-XStat}
use Rattle.chi_core.specs.declared.experiment.XStat.TheVariants as trial
use Rattle.chi_core.specs.declared.expression.CExpr.{CExpr}
use Rattle.chi_core.specs.declared.statement.CStat.{CStat}
use Rattle.chi_core.specs.declared.target.CTarget.{CTarget}
use Rattle.chi_check_program_places.specs.Lineless.{lineless_statement, xstat_without, xbranch_without, lineless_xstat, lineless_xbranch}

pub without-Line : (s : CStat) → lineless_xstat (trial.Line s) ≡ trial.Line (lineless_statement s)
without-Line s = ap lineless_xstat (sym (trial.rolls-Line s)) ∙ fold-roll-XStat XStat XBranch xstat_without xbranch_without (XStat-F.Line s)

pub without-If : (line : ℕ) (bs : List XBranch) (xs : List XStat) → lineless_xstat (trial.If line bs xs) ≡ trial.If 0 (map lineless_xbranch bs) (map lineless_xstat xs)
without-If line bs xs = ap lineless_xstat (sym (trial.rolls-If line bs xs)) ∙ fold-roll-XStat XStat XBranch xstat_without xbranch_without (XStat-F.If line bs xs)

pub without-While : (line : ℕ) (e : CExpr) (xs : List XStat) → lineless_xstat (trial.While line e xs) ≡ trial.While 0 e (map lineless_xstat xs)
without-While line e xs = ap lineless_xstat (sym (trial.rolls-While line e xs)) ∙ fold-roll-XStat XStat XBranch xstat_without xbranch_without (XStat-F.While line e xs)

pub without-For : (line : ℕ) (slots : List ℕ) (e : CExpr) (xs : List XStat) → lineless_xstat (trial.For line slots e xs) ≡ trial.For 0 slots e (map lineless_xstat xs)
without-For line slots e xs = ap lineless_xstat (sym (trial.rolls-For line slots e xs)) ∙ fold-roll-XStat XStat XBranch xstat_without xbranch_without (XStat-F.For line slots e xs)

pub without-RunModel : (line : ℕ) (t : CTarget) (model : ℕ) (es : List CExpr) (widen : Bool) → lineless_xstat (trial.RunModel line t model es widen) ≡ trial.RunModel 0 t model es widen
without-RunModel line t model es widen =
    ap lineless_xstat (sym (trial.rolls-RunModel line t model es widen)) ∙ fold-roll-XStat XStat XBranch xstat_without xbranch_without (XStat-F.RunModel line t model es widen)

pub without-branch : (e : CExpr) (xs : List XStat) → lineless_xbranch (record { test = e; block = xs }) ≡ record { test = e; block = map lineless_xstat xs }
without-branch e xs = fold_out-XBranch XStat XBranch xstat_without xbranch_without (record { test = e; block = xs })
