-- The size of each kind of statement, for the calls that measure.
use Rattle.std.proofs.Common.{◌≡◌, ℕ, ◌+◌, Bool, true, false, List, ap, ◌∙◌, arith, Option}
use Rattle.chi_value.specs.declared.format.Piece.{Piece}
use Rattle.chi_core.specs.declared.communication.CComm.{CComm}
use Rattle.chi_core.specs.declared.element.CElem.{CElem}
use Rattle.chi_core.specs.declared.expression.CExpr.{CExpr}
use Rattle.chi_core.specs.declared.statement.Branch.{Branch, out-Branch}
use Rattle.chi_core.specs.declared.statement.CAlt.{CAlt, CAlt-F, out-CAlt, map-CAlt}
use Rattle.chi_core.specs.declared.statement.CAlt.TheVariants as alternative
use Rattle.chi_core.specs.declared.statement.CStat.{CStat, CStat-F, out-CStat, map-CStat}
use Rattle.chi_core.specs.declared.statement.CStat.TheVariants as s
use Rattle.chi_core.specs.declared.target.CTarget.{CTarget}
use Rattle.chi_code.specs.Aims.{indexes_of}
use Rattle.chi_code.specs.Sizes.{size, sizes, spread_size, elements_size, exit_size, guard_size, comm_size, Two, leaving, statement_step, alternative_step, statement_size, branch_size, alternative_size, block_size, branches_size, fronts_size, bodies_size}
use Rattle.chi_code.proofs.Sized.{statement_out, branch_out, alternative_out}

module _ (x : CStat) (w : Bool) where
  layer : (o : CStat-F CAlt CStat Branch) → out-CStat x ≡ o → statement_size x w ≡ statement_step (map-CStat _ _ _ _ _ _ alternative_size statement_size branch_size o) w
  layer o h = statement_out x w ∙ ap (λ o. statement_step (map-CStat _ _ _ _ _ _ alternative_size statement_size branch_size o) w) h

  pub size_declare : (line slot : ℕ) (v : CExpr) → x ≡ s.Declare line slot v → statement_size x w ≡ size v + 2
  size_declare line slot v h = layer _ (ap out-CStat h ∙ s.outs-Declare line slot v)

  pub size_assign : (line : ℕ) (targets : List CTarget) (es : List CExpr) → x ≡ s.Assign line targets es → statement_size x w ≡ sizes es + spread_size targets es + sizes (indexes_of targets) + 2
  size_assign line targets es h = layer _ (ap out-CStat h ∙ s.outs-Assign line targets es)

  pub size_if : (line : ℕ) (branches : List Branch) (otherwise : List CStat) → x ≡ s.If line branches otherwise → statement_size x w ≡ 1 + branches_size branches w + block_size otherwise w
  size_if line branches otherwise h = layer _ (ap out-CStat h ∙ s.outs-If line branches otherwise)

  pub size_while : (line : ℕ) (v : CExpr) (block : List CStat) → x ≡ s.While line v block → statement_size x w ≡ size v + 3 + block_size block false
  size_while line v block h = let e = layer _ (ap out-CStat h ∙ s.outs-While line v block) in omega (arith, e)

  pub size_for : (line : ℕ) (names : List ℕ) (v : CExpr) (block : List CStat) → x ≡ s.For line names v block → statement_size x w ≡ size v + 5 + block_size block true
  size_for line names v block h = let e = layer _ (ap out-CStat h ∙ s.outs-For line names v block) in omega (arith, e)

  pub size_break : (line : ℕ) → x ≡ s.Break line → statement_size x w ≡ leaving w
  size_break line h = layer _ (ap out-CStat h ∙ s.outs-Break line)

  pub size_continue : (line : ℕ) → x ≡ s.Continue line → statement_size x w ≡ 2
  size_continue line h = layer _ (ap out-CStat h ∙ s.outs-Continue line)

  pub size_pass : (line : ℕ) → x ≡ s.Pass line → statement_size x w ≡ 1
  size_pass line h = layer _ (ap out-CStat h ∙ s.outs-Pass line)

  pub size_return : (line : ℕ) (v : CExpr) → x ≡ s.Return line v → statement_size x w ≡ size v + 2
  size_return line v h = layer _ (ap out-CStat h ∙ s.outs-Return line v)

  pub size_exit : (line : ℕ) (v : Option CExpr) → x ≡ s.Exit line v → statement_size x w ≡ exit_size v
  size_exit line v h = layer _ (ap out-CStat h ∙ s.outs-Exit line v)

  pub size_write : (line : ℕ) (pieces : List Piece) (es : List CExpr) → x ≡ s.Write line pieces es → statement_size x w ≡ sizes es + 2
  size_write line pieces es h = layer _ (ap out-CStat h ∙ s.outs-Write line pieces es)

  pub size_select : (line : ℕ) (alternatives : List CAlt) → x ≡ s.Select line alternatives → statement_size x w ≡ 1 + fronts_size alternatives w + 1 + bodies_size alternatives w
  size_select line alternatives h = layer _ (ap out-CStat h ∙ s.outs-Select line alternatives)

  pub size_run : (line : ℕ) (elements : List CElem) → x ≡ s.Run line elements → statement_size x w ≡ elements_size elements + 2
  size_run line elements h = layer _ (ap out-CStat h ∙ s.outs-Run line elements)

  pub size_start : (line : ℕ) (elements : List CElem) → x ≡ s.Start line elements → statement_size x w ≡ elements_size elements + 1
  size_start line elements h = layer _ (ap out-CStat h ∙ s.outs-Start line elements)

  pub size_finish : (line : ℕ) (es : List CExpr) → x ≡ s.Finish line es → statement_size x w ≡ sizes es + 2
  size_finish line es h = layer _ (ap out-CStat h ∙ s.outs-Finish line es)

-- the parts of a branch are those of its layer
pub size_branch : (x : Branch) (w : Bool) → branch_size x w ≡ size (out-Branch x).test + 1 + block_size (out-Branch x).block w + 1
size_branch x w = branch_out x w

module _ (x : CAlt) (w : Bool) where
  alternative_layer : (o : CAlt-F CAlt CStat Branch) → out-CAlt x ≡ o → alternative_size x w ≡ alternative_step (map-CAlt _ _ _ _ _ _ alternative_size statement_size branch_size o) w
  alternative_layer o h = alternative_out x w ∙ ap (λ o. alternative_step (map-CAlt _ _ _ _ _ _ alternative_size statement_size branch_size o) w) h

  pub front_guarded : (guard : Option CExpr) (communication : CComm) (body : List CStat) → x ≡ alternative.Guarded guard communication body → (alternative_size x w).front ≡ guard_size guard + comm_size communication
  front_guarded guard communication body h = ap (λ (z : Two). z.front) (alternative_layer _ (ap out-CAlt h ∙ alternative.outs-Guarded guard communication body))

  pub bodies_guarded : (guard : Option CExpr) (communication : CComm) (body : List CStat) → x ≡ alternative.Guarded guard communication body → (alternative_size x w).bodies ≡ block_size body w + 1
  bodies_guarded guard communication body h = ap (λ (z : Two). z.bodies) (alternative_layer _ (ap out-CAlt h ∙ alternative.outs-Guarded guard communication body))

  pub front_unwind : (names : List ℕ) (e : CExpr) (alternatives : List CAlt) → x ≡ alternative.Unwind names e alternatives → (alternative_size x w).front ≡ size e + 3 + fronts_size alternatives w
  front_unwind names e alternatives h = let k = ap (λ (z : Two). z.front) (alternative_layer _ (ap out-CAlt h ∙ alternative.outs-Unwind names e alternatives)) in omega (arith, k)

  pub bodies_unwind : (names : List ℕ) (e : CExpr) (alternatives : List CAlt) → x ≡ alternative.Unwind names e alternatives → (alternative_size x w).bodies ≡ bodies_size alternatives w
  bodies_unwind names e alternatives h = ap (λ (z : Two). z.bodies) (alternative_layer _ (ap out-CAlt h ∙ alternative.outs-Unwind names e alternatives))
