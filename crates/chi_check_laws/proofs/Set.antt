-- What each form of a statement sets.
use Rattle.std.proofs.Common.{◌≡◌, ℕ, List, [], ◌∷◌, ◌++◌, map, Option, ap, ◌∙◌}
use Rattle.chi_value.specs.declared.format.Piece.{Piece}
use Rattle.chi_core.specs.declared.communication.CComm.{CComm}
use Rattle.chi_core.specs.declared.element.CElem.{CElem, CElem-F, out-CElem, map-CElem, fold_out-CElem}
use Rattle.chi_core.specs.declared.element.CElem.TheVariants as element
use Rattle.chi_core.specs.declared.expression.CExpr.{CExpr}
use Rattle.chi_core.specs.declared.statement.Branch.{Branch, Branch-F, out-Branch, fold_out-Branch}
use Rattle.chi_core.specs.declared.statement.CAlt.{CAlt, CAlt-F, out-CAlt, map-CAlt, fold_out-CAlt}
use Rattle.chi_core.specs.declared.statement.CAlt.TheVariants as alternative
use Rattle.chi_core.specs.declared.statement.CStat.{CStat, CStat-F, out-CStat, map-CStat, fold_out-CStat}
use Rattle.chi_core.specs.declared.statement.CStat.TheVariants as statement
use Rattle.chi_core.specs.declared.target.CTarget.{CTarget}
use Rattle.chi_core.specs.Fills.{Fills, filled, unwound, one_after_another, by_target, by_target_if, by_communication, by_element_step, by_element, by_alternative_step, by_branch_step, by_statement_step, by_statement, by_alternative, by_branch}

abbrev pub statement_fills : CStat-F CAlt CStat Branch → Fills
statement_fills o = by_statement_step (map-CStat CAlt CStat Branch Fills Fills Fills by_alternative by_statement by_branch o)

pub statement_sets : (x : CStat) (layer : CStat-F CAlt CStat Branch) → out-CStat x ≡ layer → by_statement x ≡ statement_fills layer
statement_sets x layer h = fold_out-CStat Fills Fills Fills by_alternative_step by_statement_step by_branch_step x ∙ ap statement_fills h

abbrev pub alternative_fills : CAlt-F CAlt CStat Branch → Fills
alternative_fills o = by_alternative_step (map-CAlt CAlt CStat Branch Fills Fills Fills by_alternative by_statement by_branch o)

pub alternative_sets : (x : CAlt) (layer : CAlt-F CAlt CStat Branch) → out-CAlt x ≡ layer → by_alternative x ≡ alternative_fills layer
alternative_sets x layer h = fold_out-CAlt Fills Fills Fills by_alternative_step by_statement_step by_branch_step x ∙ ap alternative_fills h

pub branch_sets : (x : Branch) (layer : Branch-F CAlt CStat Branch) → out-Branch x ≡ layer → by_branch x ≡ one_after_another (map by_statement layer.block)
branch_sets x layer h = fold_out-Branch Fills Fills Fills by_alternative_step by_statement_step by_branch_step x ∙ ap (λ (o : Branch-F CAlt CStat Branch). one_after_another (map by_statement o.block)) h

abbrev pub element_fills : CElem-F CElem → Fills
element_fills o = by_element_step (map-CElem CElem Fills by_element o)

pub element_sets : (x : CElem) (layer : CElem-F CElem) → out-CElem x ≡ layer → by_element x ≡ element_fills layer
element_sets x layer h = fold_out-CElem Fills by_element_step x ∙ ap element_fills h

-- ---- each form

pub declare_sets : (line slot : ℕ) (e : CExpr) → by_statement (statement.Declare line slot e) ≡ filled slot ∷ []
declare_sets line slot e = statement_sets _ _ (statement.outs-Declare line slot e)

pub assign_sets : (line : ℕ) (targets : List CTarget) (es : List CExpr) → by_statement (statement.Assign line targets es) ≡ map by_target targets
assign_sets line targets es = statement_sets _ _ (statement.outs-Assign line targets es)

pub choose_sets : (line : ℕ) (branches : List Branch) (otherwise : List CStat) → by_statement (statement.If line branches otherwise) ≡ one_after_another (map by_branch branches) ++ one_after_another (map by_statement otherwise)
choose_sets line branches otherwise = statement_sets _ _ (statement.outs-If line branches otherwise)

pub while_sets : (line : ℕ) (test : CExpr) (block : List CStat) → by_statement (statement.While line test block) ≡ one_after_another (map by_statement block)
while_sets line test block = statement_sets _ _ (statement.outs-While line test block)

pub walk_sets : (line : ℕ) (slots : List ℕ) (container : CExpr) (block : List CStat) → by_statement (statement.For line slots container block) ≡ map filled slots ++ one_after_another (map by_statement block)
walk_sets line slots container block = statement_sets _ _ (statement.outs-For line slots container block)

pub pass_sets : (line : ℕ) → by_statement (statement.Pass line) ≡ []
pass_sets line = statement_sets _ _ (statement.outs-Pass line)

pub break_sets : (line : ℕ) → by_statement (statement.Break line) ≡ []
break_sets line = statement_sets _ _ (statement.outs-Break line)

pub continue_sets : (line : ℕ) → by_statement (statement.Continue line) ≡ []
continue_sets line = statement_sets _ _ (statement.outs-Continue line)

pub return_sets : (line : ℕ) (e : CExpr) → by_statement (statement.Return line e) ≡ []
return_sets line e = statement_sets _ _ (statement.outs-Return line e)

pub exit_sets : (line : ℕ) (e : Option CExpr) → by_statement (statement.Exit line e) ≡ []
exit_sets line e = statement_sets _ _ (statement.outs-Exit line e)

pub write_sets : (line : ℕ) (pieces : List Piece) (es : List CExpr) → by_statement (statement.Write line pieces es) ≡ []
write_sets line pieces es = statement_sets _ _ (statement.outs-Write line pieces es)

pub select_sets : (line : ℕ) (alternatives : List CAlt) → by_statement (statement.Select line alternatives) ≡ one_after_another (map by_alternative alternatives)
select_sets line alternatives = statement_sets _ _ (statement.outs-Select line alternatives)

pub run_sets : (line : ℕ) (elements : List CElem) → by_statement (statement.Run line elements) ≡ one_after_another (map by_element elements)
run_sets line elements = statement_sets _ _ (statement.outs-Run line elements)

pub start_sets : (line : ℕ) (elements : List CElem) → by_statement (statement.Start line elements) ≡ one_after_another (map by_element elements)
start_sets line elements = statement_sets _ _ (statement.outs-Start line elements)

pub finish_sets : (line : ℕ) (es : List CExpr) → by_statement (statement.Finish line es) ≡ []
finish_sets line es = statement_sets _ _ (statement.outs-Finish line es)

pub guarded_sets : (guard : Option CExpr) (c : CComm) (block : List CStat) → by_alternative (alternative.Guarded guard c block) ≡ by_communication c ++ one_after_another (map by_statement block)
guarded_sets guard c block = alternative_sets _ _ (alternative.outs-Guarded guard c block)

pub offered_sets : (slots : List ℕ) (container : CExpr) (alternatives : List CAlt) → by_alternative (alternative.Unwind slots container alternatives) ≡ map unwound slots ++ one_after_another (map by_alternative alternatives)
offered_sets slots container alternatives = alternative_sets _ _ (alternative.outs-Unwind slots container alternatives)

pub make_sets : (t : Option CTarget) (process : ℕ) (es : List CExpr) → by_element (element.Make t process es) ≡ by_target_if t
make_sets t process es = element_sets _ _ (element.outs-Make t process es)

pub unwound_sets : (slots : List ℕ) (container : CExpr) (elements : List CElem) → by_element (element.Unwind slots container elements) ≡ map unwound slots ++ one_after_another (map by_element elements)
unwound_sets slots container elements = element_sets _ _ (element.outs-Unwind slots container elements)
