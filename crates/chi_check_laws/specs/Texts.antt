-- Statements whose text literals are short.
use Rattle.std.specs.Prelude.{Bool, true, ◌&&◌, List, map, Option, Some, None}
use Rattle.std.specs.List.{list_all}
use Rattle.chi_value.specs.Plain.{itself}
use Rattle.chi_core.specs.declared.element.CElem.{CElem, CElem-F, fold-CElem}
use Rattle.chi_core.specs.declared.expression.CExpr.{CExpr}
use Rattle.chi_core.specs.declared.statement.Branch.{Branch, Branch-F, fold-Branch}
use Rattle.chi_core.specs.declared.statement.CAlt.{CAlt, CAlt-F, fold-CAlt}
use Rattle.chi_core.specs.declared.statement.CStat.{CStat, CStat-F, fold-CStat}
use Rattle.chi_core.specs.declared.target.CTarget.{CTarget}
use Rattle.chi_check_laws.specs.TypedTexts.{texts_are_short}
use Rattle.chi_check_laws.specs.Parts.{target_texts, texts_if_any, communication_texts}

abbrev pub all_texts : List CExpr → Bool
all_texts es = list_all itself (map texts_are_short es)

abbrev pub target_texts_if : Option CTarget → Bool
target_texts_if None = true
target_texts_if (Some t) = target_texts t

abbrev pub element_step : CElem-F Bool → Bool
element_step (CElem-F.Make t process arguments) = target_texts_if t && all_texts arguments
element_step (CElem-F.Unwind slots container elements) = texts_are_short container && list_all itself elements

abbrev pub element_texts : CElem → Bool
element_texts = fold-CElem Bool element_step

abbrev pub statement_step : CStat-F Bool Bool Bool → Bool
statement_step (CStat-F.Declare line slot e) = texts_are_short e
statement_step (CStat-F.Assign line targets es) = list_all target_texts targets && all_texts es
statement_step (CStat-F.If line branches otherwise) = list_all itself branches && list_all itself otherwise
statement_step (CStat-F.While line test block) = texts_are_short test && list_all itself block
statement_step (CStat-F.For line slots container block) = texts_are_short container && list_all itself block
statement_step (CStat-F.Break line) = true
statement_step (CStat-F.Continue line) = true
statement_step (CStat-F.Pass line) = true
statement_step (CStat-F.Return line e) = texts_are_short e
statement_step (CStat-F.Exit line e) = texts_if_any e
statement_step (CStat-F.Write line pieces es) = all_texts es
statement_step (CStat-F.Select line alternatives) = list_all itself alternatives
statement_step (CStat-F.Run line elements) = list_all itself (map element_texts elements)
statement_step (CStat-F.Start line elements) = list_all itself (map element_texts elements)
statement_step (CStat-F.Finish line es) = all_texts es

abbrev pub branch_step : Branch-F Bool Bool Bool → Bool
branch_step b = texts_are_short b.test && list_all itself b.block

abbrev pub alternative_step : CAlt-F Bool Bool Bool → Bool
alternative_step (CAlt-F.Guarded guard c block) = texts_if_any guard && (communication_texts c && list_all itself block)
alternative_step (CAlt-F.Unwind slots container alternatives) = texts_are_short container && list_all itself alternatives

abbrev pub statement_texts : CStat → Bool
statement_texts = fold-CStat Bool Bool Bool alternative_step statement_step branch_step

abbrev pub branch_texts : Branch → Bool
branch_texts = fold-Branch Bool Bool Bool alternative_step statement_step branch_step

abbrev pub alternative_texts : CAlt → Bool
alternative_texts = fold-CAlt Bool Bool Bool alternative_step statement_step branch_step

-- each text literal in a body is shorter than 2^32 bytes
abbrev pub body_texts : List CStat → Bool
body_texts body = list_all itself (map statement_texts body)
