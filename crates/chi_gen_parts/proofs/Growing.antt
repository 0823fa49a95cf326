-- Code that grows keeps what stands in it.
use Rattle.std.proofs.Common.{◌≡◌, ℕ, zero, suc, ◌+◌, List, [], ◌∷◌, ◌++◌, length, Option, Some, refl, ap, ◌∙◌, length-append}
use Rattle.std.specs.Prelude.{slice_get}
use Rattle.chi_types.specs.declared.ty.Ty.{Ty, Ty-F, out-Ty}
use Rattle.chi_core.specs.declared.communication.CComm.{CComm}
use Rattle.chi_core.specs.declared.element.CElem.{CElem, CElem-F, out-CElem}
use Rattle.chi_core.specs.declared.expression.CExpr.{CExpr, CExpr-F, out-CExpr}
use Rattle.chi_core.specs.declared.statement.Branch.{Branch, out-Branch}
use Rattle.chi_core.specs.declared.statement.CAlt.{CAlt, CAlt-F, out-CAlt}
use Rattle.chi_core.specs.declared.statement.CStat.{CStat, CStat-F, out-CStat}
use Rattle.chi_core.specs.declared.target.CStep.{CStep}
use Rattle.chi_core.specs.declared.target.CTarget.{CTarget}
use Rattle.chi_core.specs.declared.program.ConstDef.{ConstDef}
use Rattle.chi_core.specs.declared.program.FuncDef.{FuncDef}
use Rattle.chi_core.specs.declared.program.ProcDef.{ProcDef}
use Rattle.chi_code.specs.declared.code.Entry.{Entry}
use Rattle.chi_code.specs.declared.instr.Instr.{Instr}
use Rattle.chi_code.specs.Aims.{indexes_of, some_indexes}
use Rattle.chi_code.specs.Codes.{in_function, in_process, ConstsAt, no_constant, one_constant, FuncsAt, no_function, one_function, ProcsAt, no_process, one_process}
use Rattle.chi_code.specs.ExpressionLayout.{ExprAt, literal, variable, constant, operation, both, either, container, part, call, insertion, fresh, repetition, ExprsAt, no_expression, one_expression}
use Rattle.chi_code.specs.declared.code.Around.{Around}
use Rattle.chi_code.specs.StatementLayout.{IntoAt, no_step, into_list, into_dictionary, into_tuple, ReadAt, reads, GuardAt, no_guard, a_guard, CommAt, sends, sends_void, receives, receives_void, delays, waits_for_timer, ElemAt, makes, unwinds_elements, ElemsAt, no_element, one_element, SpreadAt, no_spread, a_spread, StatAt, declares, assigns, chooses, loops, walks, breaks, leaves, continues, passes, returns, exits_with, exits, writes, selects, runs, starts, finishes, LoopAt, loop, WalkAt, walk, BranchesAt, last, branch, BlockAt, no_statement, one_statement, AltsAt, no_alternative, one_alternative, AltAt, guarded, unwinds}
use Rattle.chi_gen_parts.specs.Added.{Grows, AddsOne}

pub grows_same : (c : List Instr) → Grows c c
grows_same c = record { has = λ p x h. h }

pub grows_on : (b c d : List Instr) → Grows b c → Grows c d → Grows b d
grows_on b c d g h = record { has = λ p x k. h.has p x (g.has p x k) }

end_get : (c : List Instr) (y : Instr) → slice_get (c ++ y ∷ []) (length c) ≡ Some y
end_get [] y = refl
end_get (x ∷ c) y = end_get c y

before_get : (c : List Instr) (y : Instr) (p : ℕ) (x : Instr) → slice_get c p ≡ Some x → slice_get (c ++ y ∷ []) p ≡ Some x
before_get [] y p x h = absurd (cc)
before_get (z ∷ c) y zero x h = h
before_get (z ∷ c) y (suc p) x h = before_get c y p x h

-- an instruction at the end
pub one_added : (c d : List Instr) (y : Instr) → d ≡ c ++ y ∷ [] → AddsOne y c d
one_added c d y h = record {
  grows = record { has = λ p x k. ap (λ l. slice_get l p) h ∙ before_get c y p x k };
  has = ap (λ l. slice_get l (length c)) h ∙ end_get c y;
  end = ap length h ∙ length-append c (y ∷ []);
}

module _ (c d : List Instr) (g : Grows c d) where
  mutual
    pub grow_expr : (o : CExpr-F CExpr) (a b : ℕ) → ExprAt c o a b → ExprAt d o a b
    grow_expr _ _ _ (literal v a h) = literal v a (g.has _ _ h)
    grow_expr _ _ _ (variable slot a h) = variable slot a (g.has _ _ h)
    grow_expr _ _ _ (constant number a h) = constant number a (g.has _ _ h)
    grow_expr _ _ _ (operation name es a b h k) = operation name es a b (grow_exprs es a b h) (g.has _ _ k)
    grow_expr _ _ _ (both x y a b n h k l) = both x y a b n (grow_expr (out-CExpr x) a b h) (g.has _ _ k) (grow_expr (out-CExpr y) (b + 1) n l)
    grow_expr _ _ _ (either x y a b n h k l) = either x y a b n (grow_expr (out-CExpr x) a b h) (g.has _ _ k) (grow_expr (out-CExpr y) (b + 1) n l)
    grow_expr _ _ _ (container kind es a b h k) = container kind es a b (grow_exprs es a b h) (g.has _ _ k)
    grow_expr _ _ _ (part x number a b h k) = part x number a b (grow_expr (out-CExpr x) a b h) (g.has _ _ k)
    grow_expr _ _ _ (call number es a b h k) = call number es a b (grow_exprs es a b h) (g.has _ _ k)
    grow_expr _ _ _ (insertion x y number a b n h k s p l f q) =
        insertion x y number a b n (grow_expr (out-CExpr x) a b h) (grow_expr (out-CExpr y) b n k) (g.has _ _ s) (g.has _ _ p) (g.has _ _ l) (g.has _ _ f) (g.has _ _ q)
    grow_expr _ _ _ (fresh shape a h) = fresh shape a (g.has _ _ h)
    grow_expr _ _ _ (repetition x y a b n h r m k l j) =
        repetition x y a b n (grow_expr (out-CExpr x) a b h) (g.has _ _ r) (g.has _ _ m) (grow_expr (out-CExpr y) (b + 1 + 1) n k) (g.has _ _ l) (g.has _ _ j)

    pub grow_exprs : (es : List CExpr) (a b : ℕ) → ExprsAt c es a b → ExprsAt d es a b
    grow_exprs _ _ _ (no_expression a) = no_expression a
    grow_exprs _ _ _ (one_expression x xs a b n h k) = one_expression x xs a b n (grow_expr (out-CExpr x) a b h) (grow_exprs xs b n k)

  pub grow_into : (T : Ty-F Ty) (steps : List CStep) (a b : ℕ) → IntoAt c T steps a b → IntoAt d T steps a b
  grow_into _ _ _ _ (no_step T a) = no_step T a
  grow_into _ _ _ _ (into_list t e steps a b n h k l) = into_list t e steps a b n (grow_expr (out-CExpr e) a b h) (g.has _ _ k) (grow_into (out-Ty t) steps (b + 1) n l)
  grow_into _ _ _ _ (into_dictionary key has e steps a b n h k l) = into_dictionary key has e steps a b n (grow_expr (out-CExpr e) a b h) (g.has _ _ k) (grow_into (out-Ty has) steps (b + 1) n l)
  grow_into _ _ _ _ (into_tuple parts p number steps a n s h l) = into_tuple parts p number steps a n s (g.has _ _ h) (grow_into (out-Ty p.1) steps (a + 1) n l)

  pub grow_guard : (end : ℕ) (o : Option CExpr) (a b : ℕ) → GuardAt c end o a b → GuardAt d end o a b
  grow_guard end _ _ _ (no_guard a) = no_guard a
  grow_guard end _ _ _ (a_guard x a b h k) = a_guard x a b (grow_expr (out-CExpr x) a b h) (g.has _ _ k)

  pub grow_spread : (targets : List CTarget) (es : List CExpr) (a b : ℕ) → SpreadAt c targets es a b → SpreadAt d targets es a b
  grow_spread targets es _ _ (no_spread a h) = no_spread a h
  grow_spread targets es _ _ (a_spread a h k) = a_spread a h (g.has _ _ k)

  mutual
    pub grow_element : (o : CElem-F CElem) (a b : ℕ) → ElemAt c o a b → ElemAt d o a b
    grow_element _ _ _ (makes target process es a b n h k l) = makes target process es a b n (grow_exprs es a b h) (grow_exprs (some_indexes target) b n k) (g.has _ _ l)
    grow_element _ _ _ (unwinds_elements names e elements a b n h w k l j) =
        unwinds_elements names e elements a b n (grow_expr (out-CExpr e) a b h) (g.has _ _ w) (g.has _ _ k) (grow_elements elements (b + 1 + 1) n l) (g.has _ _ j)

    pub grow_elements : (xs : List CElem) (a b : ℕ) → ElemsAt c xs a b → ElemsAt d xs a b
    grow_elements _ _ _ (no_element a) = no_element a
    grow_elements _ _ _ (one_element x xs a b n h k) = one_element x xs a b n (grow_element (out-CElem x) a b h) (grow_elements xs b n k)

  module _ (slots : List Ty) where
    pub grow_read : (t : CTarget) (a b : ℕ) → ReadAt c slots t a b → ReadAt d slots t a b
    grow_read t _ _ (reads T a b s h k) = reads T a b s (g.has _ _ h) (grow_into (out-Ty T) t.steps (a + 1) b k)

    pub grow_comm : (names : List ℕ) (p : ℕ) (o : CComm) (a b : ℕ) → CommAt c slots names p o a b → CommAt d slots names p o a b
    grow_comm names p _ _ _ (sends t e a b n h k l) = sends t e a b n (grow_read t a b h) (grow_expr (out-CExpr e) b n k) (g.has _ _ l)
    grow_comm names p _ _ _ (sends_void t a b h k) = sends_void t a b (grow_read t a b h) (g.has _ _ k)
    grow_comm names p _ _ _ (receives t slot a b h k) = receives t slot a b (grow_read t a b h) (g.has _ _ k)
    grow_comm names p _ _ _ (receives_void t a b h k) = receives_void t a b (grow_read t a b h) (g.has _ _ k)
    grow_comm names p _ _ _ (delays e a b h k) = delays e a b (grow_expr (out-CExpr e) a b h) (g.has _ _ k)
    grow_comm names p _ _ _ (waits_for_timer e a b h k) = waits_for_timer e a b (grow_expr (out-CExpr e) a b h) (g.has _ _ k)

    module _ (turn : ℕ → Instr) where
      mutual
        pub grow_statement : (around : List Around) (o : CStat-F CAlt CStat Branch) (a b : ℕ) → StatAt c turn slots around o a b → StatAt d turn slots around o a b
        grow_statement _ _ _ _ (declares around line slot e a b s h k) = declares around line slot e a b (g.has _ _ s) (grow_expr (out-CExpr e) (a + 1) b h) (g.has _ _ k)
        grow_statement _ _ _ _ (assigns around line targets es a b n m s h k l j) =
            assigns around line targets es a b n m (g.has _ _ s) (grow_exprs es (a + 1) b h) (grow_spread targets es b n k) (grow_exprs (indexes_of targets) n m l) (g.has _ _ j)
        grow_statement _ _ _ _ (chooses around line bs otherwise a b s h) = chooses around line bs otherwise a b (g.has _ _ s) (grow_branches around b bs otherwise (a + 1) h)
        grow_statement _ _ _ _ (loops around line test block a b h) = loops around line test block a b (grow_loop around line test block a b h)
        grow_statement _ _ _ _ (walks around line names e block a b n s h k w) =
            walks around line names e block a b n (g.has _ _ s) (grow_expr (out-CExpr e) (a + 1) b h) (g.has _ _ k) (grow_walk around line names block (b + 1) n w)
        grow_statement _ _ _ _ (breaks around line top end a s k) = breaks around line top end a (g.has _ _ s) (g.has _ _ k)
        grow_statement _ _ _ _ (leaves around line top end a s k j) = leaves around line top end a (g.has _ _ s) (g.has _ _ k) (g.has _ _ j)
        grow_statement _ _ _ _ (continues l around line a s k) = continues l around line a (g.has _ _ s) (g.has _ _ k)
        grow_statement _ _ _ _ (passes around line a s) = passes around line a (g.has _ _ s)
        grow_statement _ _ _ _ (returns around line e a b s h k) = returns around line e a b (g.has _ _ s) (grow_expr (out-CExpr e) (a + 1) b h) (g.has _ _ k)
        grow_statement _ _ _ _ (exits_with around line e a b s h k) = exits_with around line e a b (g.has _ _ s) (grow_expr (out-CExpr e) (a + 1) b h) (g.has _ _ k)
        grow_statement _ _ _ _ (exits around line a s k) = exits around line a (g.has _ _ s) (g.has _ _ k)
        grow_statement _ _ _ _ (writes around line pieces es a b s h k) = writes around line pieces es a b (g.has _ _ s) (grow_exprs es (a + 1) b h) (g.has _ _ k)
        grow_statement _ _ _ _ (selects around line alternatives a b end s h k) =
            selects around line alternatives a b end (g.has _ _ s) (grow_alternatives around end [] alternatives (b + 1) end (a + 1) b h) (g.has _ _ k)
        grow_statement _ _ _ _ (runs around line elements a b s h k) = runs around line elements a b (g.has _ _ s) (grow_elements elements (a + 1) b h) (g.has _ _ k)
        grow_statement _ _ _ _ (starts around line elements a b s h) = starts around line elements a b (g.has _ _ s) (grow_elements elements (a + 1) b h)
        grow_statement _ _ _ _ (finishes around line es a b s h k) = finishes around line es a b (g.has _ _ s) (grow_exprs es (a + 1) b h) (g.has _ _ k)

        grow_loop : (around : List Around) (line : ℕ) (test : CExpr) (block : List CStat) (a b : ℕ) → LoopAt c turn slots around line test block a b → LoopAt d turn slots around line test block a b
        grow_loop _ _ _ _ _ _ (loop around line test block a b n s h k l j) = loop around line test block a b n (g.has _ _ s) (grow_expr (out-CExpr test) (a + 1) b h) (g.has _ _ k) (grow_block _ block (b + 1) n l) (g.has _ _ j)

        grow_walk : (around : List Around) (line : ℕ) (names : List ℕ) (block : List CStat) (a b : ℕ) → WalkAt c turn slots around line names block a b → WalkAt d turn slots around line names block a b
        grow_walk _ _ _ _ _ _ (walk around line names block a n s k l j) = walk around line names block a n (g.has _ _ s) (g.has _ _ k) (grow_block _ block (a + 1 + 1) n l) (g.has _ _ j)

        pub grow_branches : (around : List Around) (end : ℕ) (bs : List Branch) (otherwise : List CStat) (a : ℕ) → BranchesAt c turn slots around end bs otherwise a → BranchesAt d turn slots around end bs otherwise a
        grow_branches _ _ _ _ _ (last around otherwise a end h) = last around otherwise a end (grow_block around otherwise a end h)
        grow_branches _ _ _ _ _ (branch around x xs otherwise a b n end h k l j r) =
            branch around x xs otherwise a b n end (grow_expr (out-CExpr (out-Branch x).test) a b h) (g.has _ _ k) (grow_block around (out-Branch x).block (b + 1) n l) (g.has _ _ j)
            (grow_branches around end xs otherwise (n + 1) r)

        pub grow_block : (around : List Around) (xs : List CStat) (a b : ℕ) → BlockAt c turn slots around xs a b → BlockAt d turn slots around xs a b
        grow_block _ _ _ _ (no_statement around a) = no_statement around a
        grow_block _ _ _ _ (one_statement around x xs a b n h k) = one_statement around x xs a b n (grow_statement around (out-CStat x) a b h) (grow_block around xs b n k)

        grow_alternatives : (around : List Around) (end : ℕ) (names : List ℕ) (xs : List CAlt) (p q a b : ℕ) → AltsAt c turn slots around end names xs p q a b → AltsAt d turn slots around end names xs p q a b
        grow_alternatives _ _ _ _ _ _ _ _ (no_alternative around end names p a) = no_alternative around end names p a
        grow_alternatives _ _ _ _ _ _ _ _ (one_alternative around end names x xs p q r a b n h k) =
            one_alternative around end names x xs p q r a b n (grow_alternative around end names (out-CAlt x) p q a b h) (grow_alternatives around end names xs q r b n k)

        grow_alternative : (around : List Around) (end : ℕ) (names : List ℕ) (o : CAlt-F CAlt CStat Branch) (p q a b : ℕ) → AltAt c turn slots around end names o p q a b → AltAt d turn slots around end names o p q a b
        grow_alternative _ _ _ _ _ _ _ _ (guarded around end names guard communication body p q a b n h k block j) =
            guarded around end names guard communication body p q a b n (grow_guard n guard a b h) (grow_comm names p communication b n k) (grow_block around body p q block) (g.has _ _ j)
        grow_alternative _ _ _ _ _ _ _ _ (unwinds around end names own e alternatives p q a b n h w k l j) =
            unwinds around end names own e alternatives p q a b n (grow_expr (out-CExpr e) a b h) (g.has _ _ w) (g.has _ _ k) (grow_alternatives around end (names ++ own) alternatives p q (b + 1 + 1) n l) (g.has _ _ j)

  pub grow_constants : (number : ℕ) (ks : List ConstDef) (a b : ℕ) → ConstsAt c number ks a b → ConstsAt d number ks a b
  grow_constants _ _ _ _ (no_constant number a) = no_constant number a
  grow_constants _ _ _ _ (one_constant number k ks a b n h j l) = one_constant number k ks a b n (grow_expr (out-CExpr k.value) a b h) (g.has _ _ j) (grow_constants (number + 1) ks (b + 1) n l)

  pub grow_functions : (fs : List FuncDef) (es : List Entry) (a b : ℕ) → FuncsAt c fs es a b → FuncsAt d fs es a b
  grow_functions _ _ _ _ (no_function a) = no_function a
  grow_functions _ _ _ _ (one_function f fs es a b n h k l) = one_function f fs es a b n (grow_block f.slots in_function [] f.body a b h) (g.has _ _ k) (grow_functions fs es (b + 1) n l)

  pub grow_processes : (ds : List ProcDef) (es : List Entry) (a b : ℕ) → ProcsAt c ds es a b → ProcsAt d ds es a b
  grow_processes _ _ _ _ (no_process a) = no_process a
  grow_processes _ _ _ _ (one_process f fs es a b n h k l) = one_process f fs es a b n (grow_block f.slots in_process [] f.body a b h) (g.has _ _ k) (grow_processes fs es (b + 1) n l)
