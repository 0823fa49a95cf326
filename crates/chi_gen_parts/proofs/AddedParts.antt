-- Guards, communications and what is started, as the generator writes them.
use Rattle.std.proofs.Common.{◌≡◌, ℕ, ◌+◌, ◌<◌, ◌≤◌, true, false, List, [], ◌∷◌, ◌++◌, length, set, Option, Some, None, sym, ap, subst, ◌∙◌, arith, take, get_or}
use Rattle.std.proofs.lemmas.List.{take_more}
use Rattle.chi_types.specs.declared.ty.Ty.{Ty}
use Rattle.chi_core.specs.declared.communication.CComm.{CComm}
use Rattle.chi_core.specs.declared.communication.CComm.TheVariants as comm
use Rattle.chi_core.specs.declared.element.CElem.{CElem, CElem-F, out-CElem}
use Rattle.chi_core.specs.declared.element.CElem.TheVariants as element
use Rattle.chi_core.specs.declared.expression.CExpr.{CExpr}
use Rattle.chi_core.specs.declared.target.CTarget.{CTarget}
use Rattle.chi_code.specs.declared.instr.Aim.{Aim}
use Rattle.chi_code.specs.declared.instr.Instr.{Instr}
use Rattle.chi_code.specs.declared.instr.Instr.TheVariants as i
use Rattle.chi_code.specs.Aims.{some_indexes, some_aim, is_spread}
use Rattle.chi_code.specs.ExpressionLayout.{Has}
use Rattle.chi_code.specs.StatementLayout.{GuardAt, no_guard, a_guard, CommAt, sends, sends_void, receives, receives_void, delays, waits_for_timer, ElemAt, makes, unwinds_elements, ElemsAt, no_element, one_element, SpreadAt, no_spread, a_spread}
use Rattle.chi_code.proofs.Sized.{elements_sized}
use Rattle.chi_gen_parts.specs.Added.{AddsOne, AddsHole, AddsExpr, AddsExprs, AddsRead, AddsGuard, AddsComm, AddsElem, AddsElems, AddsSpread}
use Rattle.chi_gen_parts.proofs.Growing.{grows_same, grows_on, grow_expr, grow_exprs, grow_read, grow_elements}
use Rattle.chi_gen_parts.proofs.Keeping.{keep_elements, filled_end, filled_has, filled_keeps, filled_grows}
use Rattle.chi_gen_parts.proofs.AddedExpressions.{has_at, goal_at}

-- the names of an instruction are a copy
pub renamed : (f : List ℕ → Instr) (own names : List ℕ) (c d : List Instr) → own ≡ names → AddsOne (f own) c d → AddsOne (f names) c d
renamed f own names c d e h = subst (λ s. AddsOne (f s) c d) e h

pub add_no_guard : (end : ℕ) (g : Option CExpr) (c : List Instr) → g ≡ None → AddsGuard end g c c
add_no_guard end g c is = subst (λ g. AddsGuard end g c c) (sym is) (record { grows = grows_same c; at = no_guard (length c) })

pub add_guard : (end : ℕ) (g : Option CExpr) (e : CExpr) (c c1 d : List Instr) → g ≡ Some e → AddsExpr e c c1 → AddsOne (i.IfFalse end) c1 d → AddsGuard end g c d
add_guard end g e c c1 d is ee h = subst (λ g. AddsGuard end g c d) (sym is)
    (record { grows = grows_on c c1 d ee.grows h.grows; at = subst (GuardAt d end (Some e) (length c)) (sym h.end) (a_guard e (length c) (length c1) (grow_expr c1 d h.grows _ _ _ ee.at) h.has) })

module _ (slots : List Ty) (names : List ℕ) (body : ℕ) where
  ends : (d : List Instr) (o : CComm) (a b b' : ℕ) → CommAt d slots names body o a b → b' ≡ b → CommAt d slots names body o a b'
  ends d o a b b' h e = subst (CommAt d slots names body o a) (sym e) h

  pub add_send : (t : CTarget) (v : Option CExpr) (e : CExpr) (c c1 c2 d : List Instr) → v ≡ Some e → AddsRead slots t c c1 → AddsExpr e c1 c2 → AddsOne (i.Send body names) c2 d → AddsComm slots names body (comm.Send t v) c d
  add_send t v e c c1 c2 d is r ee h =
      let g1 = grows_on c1 c2 d ee.grows h.grows in
      subst (λ v. AddsComm slots names body (comm.Send t v) c d) (sym is)
      (record { grows = grows_on c c1 d r.grows g1; at = ends d _ _ _ _ (sends t e (length c) (length c1) (length c2) (grow_read c1 d g1 slots t _ _ r.at) (grow_expr c2 d h.grows _ _ _ ee.at) h.has) h.end })

  pub add_send_void : (t : CTarget) (v : Option CExpr) (c c1 d : List Instr) → v ≡ None → AddsRead slots t c c1 → AddsOne (i.SendVoid body names) c1 d → AddsComm slots names body (comm.Send t v) c d
  add_send_void t v c c1 d is r h = subst (λ v. AddsComm slots names body (comm.Send t v) c d) (sym is)
      (record { grows = grows_on c c1 d r.grows h.grows; at = ends d _ _ _ _ (sends_void t (length c) (length c1) (grow_read c1 d h.grows slots t _ _ r.at) h.has) h.end })

  pub add_receive : (t : CTarget) (v : Option ℕ) (slot : ℕ) (c c1 d : List Instr) → v ≡ Some slot → AddsRead slots t c c1 → AddsOne (i.Receive body slot names) c1 d → AddsComm slots names body (comm.Receive t v) c d
  add_receive t v slot c c1 d is r h = subst (λ v. AddsComm slots names body (comm.Receive t v) c d) (sym is)
      (record { grows = grows_on c c1 d r.grows h.grows; at = ends d _ _ _ _ (receives t slot (length c) (length c1) (grow_read c1 d h.grows slots t _ _ r.at) h.has) h.end })

  pub add_receive_void : (t : CTarget) (v : Option ℕ) (c c1 d : List Instr) → v ≡ None → AddsRead slots t c c1 → AddsOne (i.ReceiveVoid body names) c1 d → AddsComm slots names body (comm.Receive t v) c d
  add_receive_void t v c c1 d is r h = subst (λ v. AddsComm slots names body (comm.Receive t v) c d) (sym is)
      (record { grows = grows_on c c1 d r.grows h.grows; at = ends d _ _ _ _ (receives_void t (length c) (length c1) (grow_read c1 d h.grows slots t _ _ r.at) h.has) h.end })

  pub add_delay : (e : CExpr) (c c1 d : List Instr) → AddsExpr e c c1 → AddsOne (i.Delay body names) c1 d → AddsComm slots names body (comm.Delay e) c d
  add_delay e c c1 d ee h = record { grows = grows_on c c1 d ee.grows h.grows; at = ends d _ _ _ _ (delays e (length c) (length c1) (grow_expr c1 d h.grows _ _ _ ee.at) h.has) h.end }

  pub add_timer : (e : CExpr) (c c1 d : List Instr) → AddsExpr e c c1 → AddsOne (i.Timer body names) c1 d → AddsComm slots names body (comm.Timer e) c d
  add_timer e c c1 d ee h = record { grows = grows_on c c1 d ee.grows h.grows; at = ends d _ _ _ _ (waits_for_timer e (length c) (length c1) (grow_expr c1 d h.grows _ _ _ ee.at) h.has) h.end }

  pub as_comm : (x y : CComm) (c d : List Instr) → x ≡ y → AddsComm slots names body y c d → AddsComm slots names body x c d
  as_comm x y c d is h = subst (λ x. AddsComm slots names body x c d) (sym is) h

pub add_spread : (targets : List CTarget) (es : List CExpr) (n : ℕ) (c d : List Instr) → is_spread targets es ≡ true → n ≡ length targets → AddsOne (i.Spread n) c d → AddsSpread targets es c d
add_spread targets es n c d is ne h = record { grows = h.grows; at = subst (SpreadAt d targets es (length c)) (sym h.end) (a_spread (length c) is (goal_at d i.Spread _ _ _ h.has ne)) }

pub add_no_spread : (targets : List CTarget) (es : List CExpr) (c : List Instr) → is_spread targets es ≡ false → AddsSpread targets es c c
add_no_spread targets es c is = record { grows = grows_same c; at = no_spread (length c) is }

pub elem_of : (d : List Instr) (x : CElem) (o : CElem-F CElem) (a b b' : ℕ) → out-CElem x ≡ o → ElemAt d o a b → b' ≡ b → ElemAt d (out-CElem x) a b'
elem_of d x o a b b' h k q = subst (λ o. ElemAt d o a b') (sym h) (subst (ElemAt d o a) (sym q) k)

pub add_make : (target : Option CTarget) (process : ℕ) (es : List CExpr) (aim : Option Aim) (c c1 c2 d : List Instr) → AddsExprs es c c1 → AddsExprs (some_indexes target) c1 c2 → aim ≡ some_aim target
    → AddsOne (i.Make process aim) c2 d → AddsElem (element.Make target process es) c d
add_make target process es aim c c1 c2 d ee ei ae h =
    let g1 = grows_on c1 c2 d ei.grows h.grows in
    record {
      grows = grows_on c c1 d ee.grows g1;
      at = elem_of d _ _ _ _ _ (element.outs-Make target process es)
          (makes target process es (length c) (length c1) (length c2) (grow_exprs c1 d g1 es _ _ ee.at) (grow_exprs c2 d h.grows (some_indexes target) _ _ ei.at) (subst (λ a. Has d (length c2) (i.Make process a)) ae h.has)) h.end;
    }

pub as_elem : (x y : CElem) (c d : List Instr) → x ≡ y → AddsElem y c d → AddsElem x c d
as_elem x y c d is h = subst (λ x. AddsElem x c d) (sym is) h

pub add_unwind : (x : CElem) (names own : List ℕ) (e : CExpr) (elements : List CElem) (n top : ℕ) (c c1 c2 c3 c4 c5 d : List Instr) → x ≡ element.Unwind names e elements → AddsExpr e c c1 → AddsOne i.Walk c1 c2 → own ≡ names
    → AddsHole top c2 c3 → AddsElems elements c3 c4 → AddsOne (i.Jump top) c4 c5 → n ≡ length c5 → d ≡ set c5 top (i.Next n own) → AddsElem x c d
add_unwind x names own e elements n top c c1 c2 c3 c4 c5 d is ee w se h es j ne ie =
    let same : d ≡ set c5 (length c2) (i.Next n own) = ie ∙ ap (λ k. set c5 k (i.Next n own)) h.place in
    let g2 = filled_grows c2 c5 d (i.Next n own) same (grows_on c2 c3 c5 h.grows (grows_on c3 c4 c5 es.grows j.grows)) in
    let g1 = grows_on c1 c2 d w.grows g2 in
    let keeps = filled_keeps c2 c5 d (i.Next n own) same in
    let k = keep_elements c5 d (length c2 + 1) keeps elements (length c3) (length c4) (grow_elements c4 c5 j.grows elements _ _ es.at) (omega (arith, h.end)) in
    let there : Has d (length c2) (i.Next n own) = filled_has c2 c5 d (i.Next n own) same (omega (arith, k.1, j.end)) in
    let e3 : length c3 ≡ length c1 + 1 + 1 = omega (arith, h.end, w.end) in
    let turn : Has d (length c4) (i.Jump top) = keeps _ _ k.1 j.has in
    record {
      grows = grows_on c c1 d ee.grows g1;
      at = elem_of d x _ _ _ _ (ap out-CElem is ∙ element.outs-Unwind names e elements)
          (unwinds_elements names e elements (length c) (length c1) (length c4) (grow_expr c1 d g1 _ _ _ ee.at) (g2.has _ _ w.has)
          (has_at d _ _ _ (subst (λ s. Has d (length c2) (i.Next (length c4 + 1) s)) se (goal_at d (λ m. i.Next m own) _ _ _ there (ne ∙ j.end))) w.end)
          (subst (λ a. ElemsAt d elements a (length c4)) e3 k.0) (goal_at d i.Jump _ _ _ turn (h.place ∙ w.end))) (filled_end c2 c5 d (i.Next n own) same ∙ j.end);
    }

pub elements_longer : (xs : List CElem) (c d : List Instr) → AddsElems xs c d → length c ≤ length d
elements_longer xs c d h = omega (arith, elements_sized d xs _ _ h.at)

snoc : {code : List Instr} (xs : List CElem) (x : CElem) (a b n : ℕ) → ElemsAt code xs a b → ElemAt code (out-CElem x) b n → ElemsAt code (xs ++ x ∷ []) a n
snoc _ x _ _ n (no_element a) k = one_element x [] a n n k (no_element n)
snoc _ x _ _ n (one_element y ys a b m h r) k = one_element y (ys ++ x ∷ []) a b n h (snoc ys x b m n r k)

pub add_no_element : (c : List Instr) → AddsElems [] c c
add_no_element c = record { grows = grows_same c; at = no_element (length c) }

pub add_next_element : (all : List CElem) (k : ℕ) (x : CElem) (c c1 d : List Instr) → k < length all → x ≡ get_or all k x → AddsElems (take k all) c c1 → AddsElem x c1 d → AddsElems (take (k + 1) all) c d
add_next_element all k x c c1 d h is em en =
    subst (λ l. AddsElems l c d) (sym (take_more all k x h ∙ ap (λ y. take k all ++ y ∷ []) (sym is)))
    (record { grows = grows_on c c1 d em.grows en.grows; at = snoc (take k all) x _ _ _ (grow_elements c1 d en.grows (take k all) _ _ em.at) en.at })
