-- Private to proofs. What each construct is with its streams.
use Rattle.std.proofs.Common.{◌≡◌, ℕ, List, map, Option, ap, ◌∙◌}
use Rattle.chi_value.specs.declared.format.Kind.{Kind}
use Rattle.chi_value.specs.declared.format.Piece.{Piece}
use Rattle.chi_value.specs.declared.shape.Shape.{Shape}
use Rattle.chi_value.specs.declared.value.Value.{Value}
use Rattle.chi_core.specs.declared.communication.CComm.{CComm}
use Rattle.chi_core.specs.declared.element.CElem.{CElem, CElem-F, map-CElem, out-CElem, fold_out-CElem}
use Rattle.chi_core.specs.declared.element.CElem.TheVariants as element
use Rattle.chi_core.specs.declared.expression.CExpr.{CExpr, CExpr-F, map-CExpr, out-CExpr, fold_out-CExpr}
use Rattle.chi_core.specs.declared.expression.CExpr.TheVariants as expression
use Rattle.chi_core.specs.declared.op_name.OpName.{OpName}
use Rattle.chi_core.specs.declared.statement.Branch.{Branch, out-Branch, fold_out-Branch}
use Rattle.chi_core.specs.declared.statement.CAlt.{CAlt, CAlt-F, map-CAlt, out-CAlt, fold_out-CAlt}
use Rattle.chi_core.specs.declared.statement.CAlt.TheVariants as alternative
use Rattle.chi_core.specs.declared.statement.CStat.{CStat, CStat-F, map-CStat, out-CStat, fold_out-CStat}
use Rattle.chi_core.specs.declared.statement.CStat.TheVariants as statement
use Rattle.chi_core.specs.declared.target.CTarget.{CTarget}
use Rattle.chi_check_streams.specs.Streams.{Counted, Counting, expression_step, of_expression, element_step, of_element, statement_step, branch_step, alternative_step, of_statement, of_branch, of_alternative}

expression_is : (e : CExpr) (o : CExpr-F CExpr) (count : ℕ) → out-CExpr e ≡ o → of_expression e count ≡ expression_step (map-CExpr CExpr (Counting CExpr) of_expression o) count
unfolding of_expression
expression_is e o count h = ap (λ (g : Counting CExpr). g count) (fold_out-CExpr (Counting CExpr) expression_step e ∙ ap (λ o. expression_step (map-CExpr CExpr (Counting CExpr) of_expression o)) h)

element_is : (e : CElem) (o : CElem-F CElem) (count : ℕ) → out-CElem e ≡ o → of_element e count ≡ element_step (map-CElem CElem (Counting CElem) of_element o) count
unfolding of_element
element_is e o count h = ap (λ (g : Counting CElem). g count) (fold_out-CElem (Counting CElem) element_step e ∙ ap (λ o. element_step (map-CElem CElem (Counting CElem) of_element o)) h)

statement_is : (s : CStat) (o : CStat-F CAlt CStat Branch) (count : ℕ) → out-CStat s ≡ o
    → of_statement s count ≡ statement_step (map-CStat CAlt CStat Branch (Counting CAlt) (Counting CStat) (Counting Branch) of_alternative of_statement of_branch o) count
unfolding of_alternative of_statement of_branch
statement_is s o count h = ap (λ (g : Counting CStat). g count) (fold_out-CStat (Counting CAlt) (Counting CStat) (Counting Branch) alternative_step statement_step branch_step s
    ∙ ap (λ o. statement_step (map-CStat CAlt CStat Branch (Counting CAlt) (Counting CStat) (Counting Branch) of_alternative of_statement of_branch o)) h)

alternative_is : (a : CAlt) (o : CAlt-F CAlt CStat Branch) (count : ℕ) → out-CAlt a ≡ o
    → of_alternative a count ≡ alternative_step (map-CAlt CAlt CStat Branch (Counting CAlt) (Counting CStat) (Counting Branch) of_alternative of_statement of_branch o) count
unfolding of_alternative of_statement of_branch
alternative_is a o count h = ap (λ (g : Counting CAlt). g count) (fold_out-CAlt (Counting CAlt) (Counting CStat) (Counting Branch) alternative_step statement_step branch_step a
    ∙ ap (λ o. alternative_step (map-CAlt CAlt CStat Branch (Counting CAlt) (Counting CStat) (Counting Branch) of_alternative of_statement of_branch o)) h)

branch_is : (b : Branch) (count : ℕ) → of_branch b count ≡ branch_step (record { test = (out-Branch b).test; block = map of_statement (out-Branch b).block }) count
unfolding of_alternative of_statement of_branch
branch_is b count = ap (λ (g : Counting Branch). g count) (fold_out-Branch (Counting CAlt) (Counting CStat) (Counting Branch) alternative_step statement_step branch_step b)

pub part_branch : (b : Branch) (count : ℕ) → (of_branch b count).part ≡ (branch_step (record { test = (out-Branch b).test; block = map of_statement (out-Branch b).block }) count).part
part_branch b count = ap (λ (t : Counted Branch). t.part) (branch_is b count)

pub next_branch : (b : Branch) (count : ℕ) → (of_branch b count).next ≡ (branch_step (record { test = (out-Branch b).test; block = map of_statement (out-Branch b).block }) count).next
next_branch b count = ap (λ (t : Counted Branch). t.next) (branch_is b count)

pub part_lit : (whole : CExpr) (v : Value) (count : ℕ) → whole ≡ expression.Lit v → (of_expression whole count).part ≡ (expression_step (CExpr-F.Lit v) count).part
part_lit whole v count h = ap (λ (t : Counted CExpr). t.part) (expression_is whole (CExpr-F.Lit v) count (ap out-CExpr h ∙ expression.outs-Lit v))

pub next_lit : (whole : CExpr) (v : Value) (count : ℕ) → whole ≡ expression.Lit v → (of_expression whole count).next ≡ (expression_step (CExpr-F.Lit v) count).next
next_lit whole v count h = ap (λ (t : Counted CExpr). t.next) (expression_is whole (CExpr-F.Lit v) count (ap out-CExpr h ∙ expression.outs-Lit v))

pub part_var : (whole : CExpr) (slot : ℕ) (count : ℕ) → whole ≡ expression.Var slot → (of_expression whole count).part ≡ (expression_step (CExpr-F.Var slot) count).part
part_var whole slot count h = ap (λ (t : Counted CExpr). t.part) (expression_is whole (CExpr-F.Var slot) count (ap out-CExpr h ∙ expression.outs-Var slot))

pub next_var : (whole : CExpr) (slot : ℕ) (count : ℕ) → whole ≡ expression.Var slot → (of_expression whole count).next ≡ (expression_step (CExpr-F.Var slot) count).next
next_var whole slot count h = ap (λ (t : Counted CExpr). t.next) (expression_is whole (CExpr-F.Var slot) count (ap out-CExpr h ∙ expression.outs-Var slot))

pub part_const : (whole : CExpr) (number : ℕ) (count : ℕ) → whole ≡ expression.Const number → (of_expression whole count).part ≡ (expression_step (CExpr-F.Const number) count).part
part_const whole number count h = ap (λ (t : Counted CExpr). t.part) (expression_is whole (CExpr-F.Const number) count (ap out-CExpr h ∙ expression.outs-Const number))

pub next_const : (whole : CExpr) (number : ℕ) (count : ℕ) → whole ≡ expression.Const number → (of_expression whole count).next ≡ (expression_step (CExpr-F.Const number) count).next
next_const whole number count h = ap (λ (t : Counted CExpr). t.next) (expression_is whole (CExpr-F.Const number) count (ap out-CExpr h ∙ expression.outs-Const number))

pub part_op : (whole : CExpr) (name : OpName) (es : List CExpr) (count : ℕ) → whole ≡ expression.Op name es → (of_expression whole count).part ≡ (expression_step (CExpr-F.Op name (map of_expression es)) count).part
part_op whole name es count h = ap (λ (t : Counted CExpr). t.part) (expression_is whole (CExpr-F.Op name es) count (ap out-CExpr h ∙ expression.outs-Op name es))

pub next_op : (whole : CExpr) (name : OpName) (es : List CExpr) (count : ℕ) → whole ≡ expression.Op name es → (of_expression whole count).next ≡ (expression_step (CExpr-F.Op name (map of_expression es)) count).next
next_op whole name es count h = ap (λ (t : Counted CExpr). t.next) (expression_is whole (CExpr-F.Op name es) count (ap out-CExpr h ∙ expression.outs-Op name es))

pub part_and : (whole : CExpr) (a : CExpr) (b : CExpr) (count : ℕ) → whole ≡ expression.And a b → (of_expression whole count).part ≡ (expression_step (CExpr-F.And (of_expression a) (of_expression b)) count).part
part_and whole a b count h = ap (λ (t : Counted CExpr). t.part) (expression_is whole (CExpr-F.And a b) count (ap out-CExpr h ∙ expression.outs-And a b))

pub next_and : (whole : CExpr) (a : CExpr) (b : CExpr) (count : ℕ) → whole ≡ expression.And a b → (of_expression whole count).next ≡ (expression_step (CExpr-F.And (of_expression a) (of_expression b)) count).next
next_and whole a b count h = ap (λ (t : Counted CExpr). t.next) (expression_is whole (CExpr-F.And a b) count (ap out-CExpr h ∙ expression.outs-And a b))

pub part_or : (whole : CExpr) (a : CExpr) (b : CExpr) (count : ℕ) → whole ≡ expression.Or a b → (of_expression whole count).part ≡ (expression_step (CExpr-F.Or (of_expression a) (of_expression b)) count).part
part_or whole a b count h = ap (λ (t : Counted CExpr). t.part) (expression_is whole (CExpr-F.Or a b) count (ap out-CExpr h ∙ expression.outs-Or a b))

pub next_or : (whole : CExpr) (a : CExpr) (b : CExpr) (count : ℕ) → whole ≡ expression.Or a b → (of_expression whole count).next ≡ (expression_step (CExpr-F.Or (of_expression a) (of_expression b)) count).next
next_or whole a b count h = ap (λ (t : Counted CExpr). t.next) (expression_is whole (CExpr-F.Or a b) count (ap out-CExpr h ∙ expression.outs-Or a b))

pub part_build : (whole : CExpr) (kind : Kind) (es : List CExpr) (count : ℕ) → whole ≡ expression.Build kind es → (of_expression whole count).part ≡ (expression_step (CExpr-F.Build kind (map of_expression es)) count).part
part_build whole kind es count h = ap (λ (t : Counted CExpr). t.part) (expression_is whole (CExpr-F.Build kind es) count (ap out-CExpr h ∙ expression.outs-Build kind es))

pub next_build : (whole : CExpr) (kind : Kind) (es : List CExpr) (count : ℕ) → whole ≡ expression.Build kind es → (of_expression whole count).next ≡ (expression_step (CExpr-F.Build kind (map of_expression es)) count).next
next_build whole kind es count h = ap (λ (t : Counted CExpr). t.next) (expression_is whole (CExpr-F.Build kind es) count (ap out-CExpr h ∙ expression.outs-Build kind es))

pub part_part : (whole : CExpr) (e : CExpr) (number : ℕ) (count : ℕ) → whole ≡ expression.Part e number → (of_expression whole count).part ≡ (expression_step (CExpr-F.Part (of_expression e) number) count).part
part_part whole e number count h = ap (λ (t : Counted CExpr). t.part) (expression_is whole (CExpr-F.Part e number) count (ap out-CExpr h ∙ expression.outs-Part e number))

pub next_part : (whole : CExpr) (e : CExpr) (number : ℕ) (count : ℕ) → whole ≡ expression.Part e number → (of_expression whole count).next ≡ (expression_step (CExpr-F.Part (of_expression e) number) count).next
next_part whole e number count h = ap (λ (t : Counted CExpr). t.next) (expression_is whole (CExpr-F.Part e number) count (ap out-CExpr h ∙ expression.outs-Part e number))

pub part_call : (whole : CExpr) (number : ℕ) (es : List CExpr) (count : ℕ) → whole ≡ expression.Call number es → (of_expression whole count).part ≡ (expression_step (CExpr-F.Call number (map of_expression es)) count).part
part_call whole number es count h = ap (λ (t : Counted CExpr). t.part) (expression_is whole (CExpr-F.Call number es) count (ap out-CExpr h ∙ expression.outs-Call number es))

pub next_call : (whole : CExpr) (number : ℕ) (es : List CExpr) (count : ℕ) → whole ≡ expression.Call number es → (of_expression whole count).next ≡ (expression_step (CExpr-F.Call number (map of_expression es)) count).next
next_call whole number es count h = ap (λ (t : Counted CExpr). t.next) (expression_is whole (CExpr-F.Call number es) count (ap out-CExpr h ∙ expression.outs-Call number es))

pub part_insert_by : (whole : CExpr) (xs : CExpr) (x : CExpr) (number : ℕ) (count : ℕ) → whole ≡ expression.InsertBy xs x number → (of_expression whole count).part ≡ (expression_step (CExpr-F.InsertBy (of_expression xs) (of_expression x) number) count).part
part_insert_by whole xs x number count h = ap (λ (t : Counted CExpr). t.part) (expression_is whole (CExpr-F.InsertBy xs x number) count (ap out-CExpr h ∙ expression.outs-InsertBy xs x number))

pub next_insert_by : (whole : CExpr) (xs : CExpr) (x : CExpr) (number : ℕ) (count : ℕ) → whole ≡ expression.InsertBy xs x number → (of_expression whole count).next ≡ (expression_step (CExpr-F.InsertBy (of_expression xs) (of_expression x) number) count).next
next_insert_by whole xs x number count h = ap (λ (t : Counted CExpr). t.next) (expression_is whole (CExpr-F.InsertBy xs x number) count (ap out-CExpr h ∙ expression.outs-InsertBy xs x number))

pub part_default : (whole : CExpr) (shape : Shape) (count : ℕ) → whole ≡ expression.Default shape → (of_expression whole count).part ≡ (expression_step (CExpr-F.Default shape) count).part
part_default whole shape count h = ap (λ (t : Counted CExpr). t.part) (expression_is whole (CExpr-F.Default shape) count (ap out-CExpr h ∙ expression.outs-Default shape))

pub next_default : (whole : CExpr) (shape : Shape) (count : ℕ) → whole ≡ expression.Default shape → (of_expression whole count).next ≡ (expression_step (CExpr-F.Default shape) count).next
next_default whole shape count h = ap (λ (t : Counted CExpr). t.next) (expression_is whole (CExpr-F.Default shape) count (ap out-CExpr h ∙ expression.outs-Default shape))

pub part_repeat : (whole : CExpr) (size : CExpr) (inner : CExpr) (count : ℕ) → whole ≡ expression.Repeat size inner → (of_expression whole count).part ≡ (expression_step (CExpr-F.Repeat (of_expression size) (of_expression inner)) count).part
part_repeat whole size inner count h = ap (λ (t : Counted CExpr). t.part) (expression_is whole (CExpr-F.Repeat size inner) count (ap out-CExpr h ∙ expression.outs-Repeat size inner))

pub next_repeat : (whole : CExpr) (size : CExpr) (inner : CExpr) (count : ℕ) → whole ≡ expression.Repeat size inner → (of_expression whole count).next ≡ (expression_step (CExpr-F.Repeat (of_expression size) (of_expression inner)) count).next
next_repeat whole size inner count h = ap (λ (t : Counted CExpr). t.next) (expression_is whole (CExpr-F.Repeat size inner) count (ap out-CExpr h ∙ expression.outs-Repeat size inner))

pub part_declare : (whole : CStat) (line : ℕ) (slot : ℕ) (e : CExpr) (count : ℕ) → whole ≡ statement.Declare line slot e → (of_statement whole count).part ≡ (statement_step (CStat-F.Declare line slot e) count).part
part_declare whole line slot e count h = ap (λ (t : Counted CStat). t.part) (statement_is whole (CStat-F.Declare line slot e) count (ap out-CStat h ∙ statement.outs-Declare line slot e))

pub next_declare : (whole : CStat) (line : ℕ) (slot : ℕ) (e : CExpr) (count : ℕ) → whole ≡ statement.Declare line slot e → (of_statement whole count).next ≡ (statement_step (CStat-F.Declare line slot e) count).next
next_declare whole line slot e count h = ap (λ (t : Counted CStat). t.next) (statement_is whole (CStat-F.Declare line slot e) count (ap out-CStat h ∙ statement.outs-Declare line slot e))

pub part_assign : (whole : CStat) (line : ℕ) (targets : List CTarget) (es : List CExpr) (count : ℕ) → whole ≡ statement.Assign line targets es → (of_statement whole count).part ≡ (statement_step (CStat-F.Assign line targets es) count).part
part_assign whole line targets es count h = ap (λ (t : Counted CStat). t.part) (statement_is whole (CStat-F.Assign line targets es) count (ap out-CStat h ∙ statement.outs-Assign line targets es))

pub next_assign : (whole : CStat) (line : ℕ) (targets : List CTarget) (es : List CExpr) (count : ℕ) → whole ≡ statement.Assign line targets es → (of_statement whole count).next ≡ (statement_step (CStat-F.Assign line targets es) count).next
next_assign whole line targets es count h = ap (λ (t : Counted CStat). t.next) (statement_is whole (CStat-F.Assign line targets es) count (ap out-CStat h ∙ statement.outs-Assign line targets es))

pub part_if : (whole : CStat) (line : ℕ) (branches : List Branch) (otherwise : List CStat) (count : ℕ) → whole ≡ statement.If line branches otherwise → (of_statement whole count).part ≡ (statement_step (CStat-F.If line (map of_branch branches) (map of_statement otherwise)) count).part
part_if whole line branches otherwise count h = ap (λ (t : Counted CStat). t.part) (statement_is whole (CStat-F.If line branches otherwise) count (ap out-CStat h ∙ statement.outs-If line branches otherwise))

pub next_if : (whole : CStat) (line : ℕ) (branches : List Branch) (otherwise : List CStat) (count : ℕ) → whole ≡ statement.If line branches otherwise → (of_statement whole count).next ≡ (statement_step (CStat-F.If line (map of_branch branches) (map of_statement otherwise)) count).next
next_if whole line branches otherwise count h = ap (λ (t : Counted CStat). t.next) (statement_is whole (CStat-F.If line branches otherwise) count (ap out-CStat h ∙ statement.outs-If line branches otherwise))

pub part_while : (whole : CStat) (line : ℕ) (test : CExpr) (block : List CStat) (count : ℕ) → whole ≡ statement.While line test block → (of_statement whole count).part ≡ (statement_step (CStat-F.While line test (map of_statement block)) count).part
part_while whole line test block count h = ap (λ (t : Counted CStat). t.part) (statement_is whole (CStat-F.While line test block) count (ap out-CStat h ∙ statement.outs-While line test block))

pub next_while : (whole : CStat) (line : ℕ) (test : CExpr) (block : List CStat) (count : ℕ) → whole ≡ statement.While line test block → (of_statement whole count).next ≡ (statement_step (CStat-F.While line test (map of_statement block)) count).next
next_while whole line test block count h = ap (λ (t : Counted CStat). t.next) (statement_is whole (CStat-F.While line test block) count (ap out-CStat h ∙ statement.outs-While line test block))

pub part_for : (whole : CStat) (line : ℕ) (slots : List ℕ) (container : CExpr) (block : List CStat) (count : ℕ) → whole ≡ statement.For line slots container block → (of_statement whole count).part ≡ (statement_step (CStat-F.For line slots container (map of_statement block)) count).part
part_for whole line slots container block count h = ap (λ (t : Counted CStat). t.part) (statement_is whole (CStat-F.For line slots container block) count (ap out-CStat h ∙ statement.outs-For line slots container block))

pub next_for : (whole : CStat) (line : ℕ) (slots : List ℕ) (container : CExpr) (block : List CStat) (count : ℕ) → whole ≡ statement.For line slots container block → (of_statement whole count).next ≡ (statement_step (CStat-F.For line slots container (map of_statement block)) count).next
next_for whole line slots container block count h = ap (λ (t : Counted CStat). t.next) (statement_is whole (CStat-F.For line slots container block) count (ap out-CStat h ∙ statement.outs-For line slots container block))

pub part_break : (whole : CStat) (line : ℕ) (count : ℕ) → whole ≡ statement.Break line → (of_statement whole count).part ≡ (statement_step (CStat-F.Break line) count).part
part_break whole line count h = ap (λ (t : Counted CStat). t.part) (statement_is whole (CStat-F.Break line) count (ap out-CStat h ∙ statement.outs-Break line))

pub next_break : (whole : CStat) (line : ℕ) (count : ℕ) → whole ≡ statement.Break line → (of_statement whole count).next ≡ (statement_step (CStat-F.Break line) count).next
next_break whole line count h = ap (λ (t : Counted CStat). t.next) (statement_is whole (CStat-F.Break line) count (ap out-CStat h ∙ statement.outs-Break line))

pub part_continue : (whole : CStat) (line : ℕ) (count : ℕ) → whole ≡ statement.Continue line → (of_statement whole count).part ≡ (statement_step (CStat-F.Continue line) count).part
part_continue whole line count h = ap (λ (t : Counted CStat). t.part) (statement_is whole (CStat-F.Continue line) count (ap out-CStat h ∙ statement.outs-Continue line))

pub next_continue : (whole : CStat) (line : ℕ) (count : ℕ) → whole ≡ statement.Continue line → (of_statement whole count).next ≡ (statement_step (CStat-F.Continue line) count).next
next_continue whole line count h = ap (λ (t : Counted CStat). t.next) (statement_is whole (CStat-F.Continue line) count (ap out-CStat h ∙ statement.outs-Continue line))

pub part_pass : (whole : CStat) (line : ℕ) (count : ℕ) → whole ≡ statement.Pass line → (of_statement whole count).part ≡ (statement_step (CStat-F.Pass line) count).part
part_pass whole line count h = ap (λ (t : Counted CStat). t.part) (statement_is whole (CStat-F.Pass line) count (ap out-CStat h ∙ statement.outs-Pass line))

pub next_pass : (whole : CStat) (line : ℕ) (count : ℕ) → whole ≡ statement.Pass line → (of_statement whole count).next ≡ (statement_step (CStat-F.Pass line) count).next
next_pass whole line count h = ap (λ (t : Counted CStat). t.next) (statement_is whole (CStat-F.Pass line) count (ap out-CStat h ∙ statement.outs-Pass line))

pub part_return : (whole : CStat) (line : ℕ) (e : CExpr) (count : ℕ) → whole ≡ statement.Return line e → (of_statement whole count).part ≡ (statement_step (CStat-F.Return line e) count).part
part_return whole line e count h = ap (λ (t : Counted CStat). t.part) (statement_is whole (CStat-F.Return line e) count (ap out-CStat h ∙ statement.outs-Return line e))

pub next_return : (whole : CStat) (line : ℕ) (e : CExpr) (count : ℕ) → whole ≡ statement.Return line e → (of_statement whole count).next ≡ (statement_step (CStat-F.Return line e) count).next
next_return whole line e count h = ap (λ (t : Counted CStat). t.next) (statement_is whole (CStat-F.Return line e) count (ap out-CStat h ∙ statement.outs-Return line e))

pub part_exit : (whole : CStat) (line : ℕ) (e : Option CExpr) (count : ℕ) → whole ≡ statement.Exit line e → (of_statement whole count).part ≡ (statement_step (CStat-F.Exit line e) count).part
part_exit whole line e count h = ap (λ (t : Counted CStat). t.part) (statement_is whole (CStat-F.Exit line e) count (ap out-CStat h ∙ statement.outs-Exit line e))

pub next_exit : (whole : CStat) (line : ℕ) (e : Option CExpr) (count : ℕ) → whole ≡ statement.Exit line e → (of_statement whole count).next ≡ (statement_step (CStat-F.Exit line e) count).next
next_exit whole line e count h = ap (λ (t : Counted CStat). t.next) (statement_is whole (CStat-F.Exit line e) count (ap out-CStat h ∙ statement.outs-Exit line e))

pub part_write : (whole : CStat) (line : ℕ) (pieces : List Piece) (es : List CExpr) (count : ℕ) → whole ≡ statement.Write line pieces es → (of_statement whole count).part ≡ (statement_step (CStat-F.Write line pieces es) count).part
part_write whole line pieces es count h = ap (λ (t : Counted CStat). t.part) (statement_is whole (CStat-F.Write line pieces es) count (ap out-CStat h ∙ statement.outs-Write line pieces es))

pub next_write : (whole : CStat) (line : ℕ) (pieces : List Piece) (es : List CExpr) (count : ℕ) → whole ≡ statement.Write line pieces es → (of_statement whole count).next ≡ (statement_step (CStat-F.Write line pieces es) count).next
next_write whole line pieces es count h = ap (λ (t : Counted CStat). t.next) (statement_is whole (CStat-F.Write line pieces es) count (ap out-CStat h ∙ statement.outs-Write line pieces es))

pub part_select : (whole : CStat) (line : ℕ) (alternatives : List CAlt) (count : ℕ) → whole ≡ statement.Select line alternatives → (of_statement whole count).part ≡ (statement_step (CStat-F.Select line (map of_alternative alternatives)) count).part
part_select whole line alternatives count h = ap (λ (t : Counted CStat). t.part) (statement_is whole (CStat-F.Select line alternatives) count (ap out-CStat h ∙ statement.outs-Select line alternatives))

pub next_select : (whole : CStat) (line : ℕ) (alternatives : List CAlt) (count : ℕ) → whole ≡ statement.Select line alternatives → (of_statement whole count).next ≡ (statement_step (CStat-F.Select line (map of_alternative alternatives)) count).next
next_select whole line alternatives count h = ap (λ (t : Counted CStat). t.next) (statement_is whole (CStat-F.Select line alternatives) count (ap out-CStat h ∙ statement.outs-Select line alternatives))

pub part_run : (whole : CStat) (line : ℕ) (elements : List CElem) (count : ℕ) → whole ≡ statement.Run line elements → (of_statement whole count).part ≡ (statement_step (CStat-F.Run line elements) count).part
part_run whole line elements count h = ap (λ (t : Counted CStat). t.part) (statement_is whole (CStat-F.Run line elements) count (ap out-CStat h ∙ statement.outs-Run line elements))

pub next_run : (whole : CStat) (line : ℕ) (elements : List CElem) (count : ℕ) → whole ≡ statement.Run line elements → (of_statement whole count).next ≡ (statement_step (CStat-F.Run line elements) count).next
next_run whole line elements count h = ap (λ (t : Counted CStat). t.next) (statement_is whole (CStat-F.Run line elements) count (ap out-CStat h ∙ statement.outs-Run line elements))

pub part_start : (whole : CStat) (line : ℕ) (elements : List CElem) (count : ℕ) → whole ≡ statement.Start line elements → (of_statement whole count).part ≡ (statement_step (CStat-F.Start line elements) count).part
part_start whole line elements count h = ap (λ (t : Counted CStat). t.part) (statement_is whole (CStat-F.Start line elements) count (ap out-CStat h ∙ statement.outs-Start line elements))

pub next_start : (whole : CStat) (line : ℕ) (elements : List CElem) (count : ℕ) → whole ≡ statement.Start line elements → (of_statement whole count).next ≡ (statement_step (CStat-F.Start line elements) count).next
next_start whole line elements count h = ap (λ (t : Counted CStat). t.next) (statement_is whole (CStat-F.Start line elements) count (ap out-CStat h ∙ statement.outs-Start line elements))

pub part_finish : (whole : CStat) (line : ℕ) (es : List CExpr) (count : ℕ) → whole ≡ statement.Finish line es → (of_statement whole count).part ≡ (statement_step (CStat-F.Finish line es) count).part
part_finish whole line es count h = ap (λ (t : Counted CStat). t.part) (statement_is whole (CStat-F.Finish line es) count (ap out-CStat h ∙ statement.outs-Finish line es))

pub next_finish : (whole : CStat) (line : ℕ) (es : List CExpr) (count : ℕ) → whole ≡ statement.Finish line es → (of_statement whole count).next ≡ (statement_step (CStat-F.Finish line es) count).next
next_finish whole line es count h = ap (λ (t : Counted CStat). t.next) (statement_is whole (CStat-F.Finish line es) count (ap out-CStat h ∙ statement.outs-Finish line es))

pub part_guarded : (whole : CAlt) (guard : Option CExpr) (c : CComm) (block : List CStat) (count : ℕ) → whole ≡ alternative.Guarded guard c block → (of_alternative whole count).part ≡ (alternative_step (CAlt-F.Guarded guard c (map of_statement block)) count).part
part_guarded whole guard c block count h = ap (λ (t : Counted CAlt). t.part) (alternative_is whole (CAlt-F.Guarded guard c block) count (ap out-CAlt h ∙ alternative.outs-Guarded guard c block))

pub next_guarded : (whole : CAlt) (guard : Option CExpr) (c : CComm) (block : List CStat) (count : ℕ) → whole ≡ alternative.Guarded guard c block → (of_alternative whole count).next ≡ (alternative_step (CAlt-F.Guarded guard c (map of_statement block)) count).next
next_guarded whole guard c block count h = ap (λ (t : Counted CAlt). t.next) (alternative_is whole (CAlt-F.Guarded guard c block) count (ap out-CAlt h ∙ alternative.outs-Guarded guard c block))

pub part_unwind_alternatives : (whole : CAlt) (slots : List ℕ) (container : CExpr) (alternatives : List CAlt) (count : ℕ) → whole ≡ alternative.Unwind slots container alternatives → (of_alternative whole count).part ≡ (alternative_step (CAlt-F.Unwind slots container (map of_alternative alternatives)) count).part
part_unwind_alternatives whole slots container alternatives count h = ap (λ (t : Counted CAlt). t.part) (alternative_is whole (CAlt-F.Unwind slots container alternatives) count (ap out-CAlt h ∙ alternative.outs-Unwind slots container alternatives))

pub next_unwind_alternatives : (whole : CAlt) (slots : List ℕ) (container : CExpr) (alternatives : List CAlt) (count : ℕ) → whole ≡ alternative.Unwind slots container alternatives → (of_alternative whole count).next ≡ (alternative_step (CAlt-F.Unwind slots container (map of_alternative alternatives)) count).next
next_unwind_alternatives whole slots container alternatives count h = ap (λ (t : Counted CAlt). t.next) (alternative_is whole (CAlt-F.Unwind slots container alternatives) count (ap out-CAlt h ∙ alternative.outs-Unwind slots container alternatives))

pub part_make : (whole : CElem) (t : Option CTarget) (process : ℕ) (arguments : List CExpr) (count : ℕ) → whole ≡ element.Make t process arguments → (of_element whole count).part ≡ (element_step (CElem-F.Make t process arguments) count).part
part_make whole t process arguments count h = ap (λ (t : Counted CElem). t.part) (element_is whole (CElem-F.Make t process arguments) count (ap out-CElem h ∙ element.outs-Make t process arguments))

pub next_make : (whole : CElem) (t : Option CTarget) (process : ℕ) (arguments : List CExpr) (count : ℕ) → whole ≡ element.Make t process arguments → (of_element whole count).next ≡ (element_step (CElem-F.Make t process arguments) count).next
next_make whole t process arguments count h = ap (λ (t : Counted CElem). t.next) (element_is whole (CElem-F.Make t process arguments) count (ap out-CElem h ∙ element.outs-Make t process arguments))

pub part_unwind_elements : (whole : CElem) (slots : List ℕ) (container : CExpr) (elements : List CElem) (count : ℕ) → whole ≡ element.Unwind slots container elements → (of_element whole count).part ≡ (element_step (CElem-F.Unwind slots container (map of_element elements)) count).part
part_unwind_elements whole slots container elements count h = ap (λ (t : Counted CElem). t.part) (element_is whole (CElem-F.Unwind slots container elements) count (ap out-CElem h ∙ element.outs-Unwind slots container elements))

pub next_unwind_elements : (whole : CElem) (slots : List ℕ) (container : CExpr) (elements : List CElem) (count : ℕ) → whole ≡ element.Unwind slots container elements → (of_element whole count).next ≡ (element_step (CElem-F.Unwind slots container (map of_element elements)) count).next
next_unwind_elements whole slots container elements count h = ap (λ (t : Counted CElem). t.next) (element_is whole (CElem-F.Unwind slots container elements) count (ap out-CElem h ∙ element.outs-Unwind slots container elements))
