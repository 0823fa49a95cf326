-- What each kind of statement of a core is without its lines, by what its parts are without theirs.
use Rattle.std.proofs.Common.{◌≡◌, ℕ, List, Option, map, ap, sym, ◌∙◌}
use Rattle.chi_value.specs.declared.format.Piece.{Piece}
use Rattle.chi_core.specs.declared.communication.CComm.{CComm}
use Rattle.chi_core.specs.declared.element.CElem.{CElem}
use Rattle.chi_core.specs.declared.expression.CExpr.{CExpr}
use Rattle.chi_core.specs.declared.statement.Branch.{Branch, fold_out-Branch}
use Rattle.chi_core.specs.declared.statement.CAlt.{CAlt, CAlt-F, fold-roll-CAlt}
use Rattle.chi_core.specs.declared.statement.CAlt.TheVariants as alternative
use Rattle.chi_core.specs.declared.statement.CStat.{CStat, CStat-F, fold-roll-CStat}
use Rattle.chi_core.specs.declared.statement.CStat.TheVariants as statement
use Rattle.chi_core.specs.declared.target.CTarget.{CTarget}
use Rattle.chi_check_program_places.specs.Lineless.{statement_without, branch_without, alternative_without, lineless_statement, lineless_branch, lineless_alternative}

pub without-Declare : (line : ℕ) (slot : ℕ) (e : CExpr) → lineless_statement (statement.Declare line slot e) ≡ statement.Declare 0 slot e
without-Declare line slot e =
    ap lineless_statement (sym (statement.rolls-Declare line slot e)) ∙ fold-roll-CStat CAlt CStat Branch alternative_without statement_without branch_without (CStat-F.Declare line slot e)

pub without-Assign : (line : ℕ) (ts : List CTarget) (es : List CExpr) → lineless_statement (statement.Assign line ts es) ≡ statement.Assign 0 ts es
without-Assign line ts es =
    ap lineless_statement (sym (statement.rolls-Assign line ts es)) ∙ fold-roll-CStat CAlt CStat Branch alternative_without statement_without branch_without (CStat-F.Assign line ts es)

pub without-If : (line : ℕ) (bs : List Branch) (xs : List CStat) → lineless_statement (statement.If line bs xs) ≡ statement.If 0 (map lineless_branch bs) (map lineless_statement xs)
without-If line bs xs =
    ap lineless_statement (sym (statement.rolls-If line bs xs)) ∙ fold-roll-CStat CAlt CStat Branch alternative_without statement_without branch_without (CStat-F.If line bs xs)

pub without-While : (line : ℕ) (e : CExpr) (xs : List CStat) → lineless_statement (statement.While line e xs) ≡ statement.While 0 e (map lineless_statement xs)
without-While line e xs =
    ap lineless_statement (sym (statement.rolls-While line e xs)) ∙ fold-roll-CStat CAlt CStat Branch alternative_without statement_without branch_without (CStat-F.While line e xs)

pub without-For : (line : ℕ) (slots : List ℕ) (e : CExpr) (xs : List CStat) → lineless_statement (statement.For line slots e xs) ≡ statement.For 0 slots e (map lineless_statement xs)
without-For line slots e xs =
    ap lineless_statement (sym (statement.rolls-For line slots e xs)) ∙ fold-roll-CStat CAlt CStat Branch alternative_without statement_without branch_without (CStat-F.For line slots e xs)

pub without-Break : (line : ℕ) → lineless_statement (statement.Break line) ≡ statement.Break 0
without-Break line =
    ap lineless_statement (sym (statement.rolls-Break line)) ∙ fold-roll-CStat CAlt CStat Branch alternative_without statement_without branch_without (CStat-F.Break line)

pub without-Continue : (line : ℕ) → lineless_statement (statement.Continue line) ≡ statement.Continue 0
without-Continue line =
    ap lineless_statement (sym (statement.rolls-Continue line)) ∙ fold-roll-CStat CAlt CStat Branch alternative_without statement_without branch_without (CStat-F.Continue line)

pub without-Pass : (line : ℕ) → lineless_statement (statement.Pass line) ≡ statement.Pass 0
without-Pass line =
    ap lineless_statement (sym (statement.rolls-Pass line)) ∙ fold-roll-CStat CAlt CStat Branch alternative_without statement_without branch_without (CStat-F.Pass line)

pub without-Return : (line : ℕ) (e : CExpr) → lineless_statement (statement.Return line e) ≡ statement.Return 0 e
without-Return line e =
    ap lineless_statement (sym (statement.rolls-Return line e)) ∙ fold-roll-CStat CAlt CStat Branch alternative_without statement_without branch_without (CStat-F.Return line e)

pub without-Exit : (line : ℕ) (e : Option CExpr) → lineless_statement (statement.Exit line e) ≡ statement.Exit 0 e
without-Exit line e =
    ap lineless_statement (sym (statement.rolls-Exit line e)) ∙ fold-roll-CStat CAlt CStat Branch alternative_without statement_without branch_without (CStat-F.Exit line e)

pub without-Write : (line : ℕ) (ps : List Piece) (es : List CExpr) → lineless_statement (statement.Write line ps es) ≡ statement.Write 0 ps es
without-Write line ps es =
    ap lineless_statement (sym (statement.rolls-Write line ps es)) ∙ fold-roll-CStat CAlt CStat Branch alternative_without statement_without branch_without (CStat-F.Write line ps es)

pub without-Select : (line : ℕ) (xs : List CAlt) → lineless_statement (statement.Select line xs) ≡ statement.Select 0 (map lineless_alternative xs)
without-Select line xs =
    ap lineless_statement (sym (statement.rolls-Select line xs)) ∙ fold-roll-CStat CAlt CStat Branch alternative_without statement_without branch_without (CStat-F.Select line xs)

pub without-Run : (line : ℕ) (es : List CElem) → lineless_statement (statement.Run line es) ≡ statement.Run 0 es
without-Run line es =
    ap lineless_statement (sym (statement.rolls-Run line es)) ∙ fold-roll-CStat CAlt CStat Branch alternative_without statement_without branch_without (CStat-F.Run line es)

pub without-Start : (line : ℕ) (es : List CElem) → lineless_statement (statement.Start line es) ≡ statement.Start 0 es
without-Start line es =
    ap lineless_statement (sym (statement.rolls-Start line es)) ∙ fold-roll-CStat CAlt CStat Branch alternative_without statement_without branch_without (CStat-F.Start line es)

pub without-Finish : (line : ℕ) (es : List CExpr) → lineless_statement (statement.Finish line es) ≡ statement.Finish 0 es
without-Finish line es =
    ap lineless_statement (sym (statement.rolls-Finish line es)) ∙ fold-roll-CStat CAlt CStat Branch alternative_without statement_without branch_without (CStat-F.Finish line es)

pub without-branch : (e : CExpr) (xs : List CStat) → lineless_branch (record { test = e; block = xs }) ≡ record { test = e; block = map lineless_statement xs }
without-branch e xs = fold_out-Branch CAlt CStat Branch alternative_without statement_without branch_without (record { test = e; block = xs })

pub without-Guarded : (guard : Option CExpr) (c : CComm) (xs : List CStat) → lineless_alternative (alternative.Guarded guard c xs) ≡ alternative.Guarded guard c (map lineless_statement xs)
without-Guarded guard c xs =
    ap lineless_alternative (sym (alternative.rolls-Guarded guard c xs)) ∙ fold-roll-CAlt CAlt CStat Branch alternative_without statement_without branch_without (CAlt-F.Guarded guard c xs)

pub without-Unwind : (slots : List ℕ) (e : CExpr) (xs : List CAlt) → lineless_alternative (alternative.Unwind slots e xs) ≡ alternative.Unwind slots e (map lineless_alternative xs)
without-Unwind slots e xs =
    ap lineless_alternative (sym (alternative.rolls-Unwind slots e xs)) ∙ fold-roll-CAlt CAlt CStat Branch alternative_without statement_without branch_without (CAlt-F.Unwind slots e xs)
