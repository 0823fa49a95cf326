-- Bodies of functions and calls: what their code does is what they mean.
use Rattle.std.proofs.Common.{◌≡◌, ℕ, zero, suc, ◌+◌, ◌≤◌, List, [], ◌∷◌, map, length, Some, None, Bool, true, false, cond, refl, sym, ap, subst, ◌∙◌, arith}
use Rattle.std.proofs.lemmas.List.{append-nil}
use Rattle.std.specs.Prelude.{slice_get, nat_eq}
use Rattle.std.specs.Option.{option_and_then}
use Rattle.chi_types.specs.declared.ty.Ty.{Ty}
use Rattle.chi_value.specs.declared.value.Value.{Value}
use Rattle.chi_core.specs.declared.fault.FaultKind.TheVariants.{CallDepth}
use Rattle.chi_core.specs.declared.limits.TheConstants.{MOST_CALLS}
use Rattle.chi_core.specs.declared.program.FuncDef.{FuncDef}
use Rattle.chi_core.specs.declared.view.View.{View}
use Rattle.chi_core.specs.Answer.{Gives, then_do, tick, ticked}
use Rattle.chi_core.specs.Evaluation.{Run, eval}
use Rattle.chi_core.specs.Functions.{exec, run_at, body_run, callee, taking, did_then, calls}
use Rattle.chi_core.specs.Terms.{Item, Do, Term, Did, act}
use Rattle.chi_core.specs.Variables.{Variables, variables_of}
use Rattle.chi_core.proofs.Bodies.{exec_empty, exec_on, exec_over, run_none}
use Rattle.chi_code.specs.declared.code.Around.{Around}
use Rattle.chi_code.specs.declared.code.Entry.{Entry}
use Rattle.chi_code.specs.declared.instr.Instr.TheVariants as i
use Rattle.chi_code.specs.Codes.{in_function, FuncsAt, no_function, one_function, function_entry}
use Rattle.chi_code.specs.ExpressionLayout.{Has}
use Rattle.chi_code.specs.StatementLayout.{BlockAt}
use Rattle.chi_exec_law.specs.Runs.{Faults, Goes, Ends, taken, Goal, Just, Brings}
use Rattle.chi_exec_law.specs.State.{Turning, Frame, Caller, State, state, frame_of, on_stack, pushed}
use Rattle.chi_exec_law.specs.Instructions.{enter}
use Rattle.chi_exec_law.specs.Machine.{Inner, Setting, halts, step}
use Rattle.chi_exec_law.specs.Standing.{TermAt, here, ReadyAt, over, DidAt, went, gave}
use Rattle.chi_exec_law.specs.Laws.{Calls}
use Rattle.chi_exec_law.proofs.Going.{leads_step, reaches_step, after, then_brings, fewer, brings_here}
use Rattle.chi_exec_law.proofs.Moving.{many, acts}
use Rattle.chi_exec_law.proofs.Standing.{block_term, settle}
use Rattle.chi_exec_law.proofs.Items.{item_runs}
use Rattle.chi_exec_law.proofs.Lines.{item_line}

module _ (m : Setting) where
  -- a body of a function that was called from c
  module _ (run : Run) (slots : List Ty) (c : Caller) (cs : List Caller) (calls : Calls m run (c ∷ cs)) (stack : List Value) where
    abbrev Inside : ℕ → Variables → List Turning → View → State
    Inside a variables under view = state a stack (frame_of variables under) (c ∷ cs) view

    abbrev Returned : Goal State Value
    Returned = Just (on_stack c.back stack c.frame cs)

    abbrev Stands : List Around → List Turning → Term → ℕ → Type 0
    Stands = TermAt m.code.instrs in_function slots i.NoRet

    abbrev Body : ℕ → Type 0
    Body n = (around : List Around) (under : List Turning) (term : Term) (a : ℕ) → Stands around under term a → (variables : Variables) (view : View) → view.left ≤ n
        → Brings (step m) view.left (Inside a variables under view) Returned (exec n run m.scene variables term view)

    -- after an item
    goes_on : (n most : ℕ) → most ≤ n → Body n → (d : Did) (view : View) (u : State) → view.left ≤ most → DidAt m.code.instrs in_function slots i.NoRet stack (c ∷ cs) d view u
        → Brings (step m) most u Returned (did_then (exec n run m.scene) d view)
    goes_on n most bound next _ _ _ le (went around under variables term a view t) =
        fewer (step m) view.left most _ Returned _ le (next around under term a t variables view (omega arith))
    goes_on n most bound next _ _ _ le (gave x frame a view h) =
        after (step m) most _ (on_stack c.back stack c.frame cs x view) Returned (Gives x view) (leads_step (step m) _ _ (acts m i.Ret a (x ∷ stack) frame (c ∷ cs) view h refl))
        (brings_here (step m) most _ Returned x view le refl)

    -- one item, which costs 1
    one_item : (n : ℕ) → Body n → (around : List Around) (under : List Turning) (x : Item) (term : Term) (a : ℕ) → ReadyAt m.code.instrs in_function slots i.NoRet around under (x ∷ term) a
        → (variables : Variables) (view : View) → view.left ≤ suc n
        → Brings (step m) view.left (Inside a variables under view) Returned (then_do (tick view) (λ u now. then_do (act (eval run m.scene variables) variables x term now) (did_then (exec n run m.scene))))
    one_item n next around under x term a h variables view le = by_left view.left refl
      where
        turn : Has m.code.instrs a i.Tick
        turn = item_line m.code.instrs in_function slots i.NoRet around under x term a h

        by_left : (left : ℕ) → view.left ≡ left → Brings (step m) view.left (Inside a variables under view) Returned
            (then_do (ticked left view) (λ u now. then_do (act (eval run m.scene variables) variables x term now) (did_then (exec n run m.scene))))
        by_left zero e =
            reaches_step (step m) _ _ (acts m i.Tick a stack (frame_of variables under) (c ∷ cs) view turn refl ∙ ap (λ left. taken (ticked left view) (λ u now. Inside (a + 1) variables under now)) e)
        by_left (suc left) e =
            let now : View = record view { left = left } in
            after (step m) view.left _ (Inside (a + 1) variables under now) Returned _
            (leads_step (step m) _ _ (acts m i.Tick a stack (frame_of variables under) (c ∷ cs) view turn refl ∙ ap (λ left. taken (ticked left view) (λ u now. Inside (a + 1) variables under now)) e))
            (fewer (step m) left view.left _ Returned _ (omega (arith, e))
            (then_brings (step m) left _ (DidAt m.code.instrs in_function slots i.NoRet stack (c ∷ cs)) Returned _ (did_then (exec n run m.scene))
            (item_runs m in_function slots i.NoRet (c ∷ cs) stack run refl refl calls around under x term a h variables now)
            (goes_on n left (omega (arith, e, le)) next)))

    over_runs : (n : ℕ) (around : List Around) (under : List Turning) (a : ℕ) → ReadyAt m.code.instrs in_function slots i.NoRet around under [] a → (variables : Variables) (view : View)
        → Brings (step m) view.left (Inside a variables under view) Returned (exec n run m.scene variables [] view)
    over_runs n _ _ _ (over a k) variables view =
        subst (Brings (step m) view.left _ Returned) (sym (exec_empty run m.scene variables n view)) (reaches_step (step m) _ _ (acts m i.NoRet a stack (frame_of variables []) (c ∷ cs) view k refl))

    ready_runs : (n : ℕ) → ((k : ℕ) → suc k ≡ n → Body k) → (around : List Around) (under : List Turning) (term : Term) (a : ℕ) → ReadyAt m.code.instrs in_function slots i.NoRet around under term a
        → (variables : Variables) (view : View) → view.left ≤ n → Brings (step m) view.left (Inside a variables under view) Returned (exec n run m.scene variables term view)
    ready_runs n next around under [] a h variables view le = over_runs n around under a h variables view
    ready_runs zero next around under (x ∷ term) a h variables view le =
        let none : view.left ≡ 0 = omega (arith, le) in
        subst (Brings (step m) view.left _ Returned) (sym (exec_over run m.scene variables view zero x (x ∷ term) term refl refl))
        (reaches_step (step m) _ _ (acts m i.Tick a stack (frame_of variables under) (c ∷ cs) view (item_line m.code.instrs in_function slots i.NoRet around under x term a h) refl
        ∙ ap (λ left. taken (ticked left view) (λ u now. Inside (a + 1) variables under now)) none))
    ready_runs (suc n) next around under (x ∷ term) a h variables view le =
        subst (Brings (step m) view.left _ Returned) (sym (exec_on run m.scene variables n x term view)) (one_item n (next n refl) around under x term a h variables view le)

    at_place : (n : ℕ) → ((k : ℕ) → suc k ≡ n → Body k) → Body n
    at_place n next around under term a t variables view le =
        let r = settle m in_function slots i.NoRet stack (frame_of variables under) (c ∷ cs) view refl around under term a t in
        after (step m) view.left _ (Inside r.0 variables under view) Returned _ r.2 (ready_runs n next around under term r.0 r.1 variables view le)

    pub body_runs : (n : ℕ) → Body n
    body_runs zero = at_place zero (λ k e. absurd (omega (arith, e)))
    body_runs (suc n) = at_place (suc n) (λ k e. let same : n ≡ k = omega (arith, e) in subst Body same (body_runs n))

  -- the function of a number, in the core and in the code
  data Found (fs : List FuncDef) (entries : List Entry) (k : ℕ) : Type 0 where
    none_there : slice_get fs k ≡ None → Found fs entries k
    found : (f : FuncDef) (a b : ℕ) → slice_get fs k ≡ Some f → slice_get entries k ≡ Some (function_entry f a) → BlockAt m.code.instrs in_function f.slots [] f.body a b → Has m.code.instrs b i.NoRet → Found fs entries k

  find : (fs : List FuncDef) (entries : List Entry) (k a z : ℕ) → FuncsAt m.code.instrs fs entries a z → Found fs entries k
  find _ _ k _ _ (no_function a) = none_there refl
  find _ _ zero _ _ (one_function f fs entries a b c h e hs) = found f a b refl refl h e
  find _ _ (suc k) _ _ (one_function f fs entries a b c h e hs) = next (find fs entries k (b + 1) c hs)
    where
      next : Found fs entries k → Found (f ∷ fs) (function_entry f a ∷ entries) (suc k)
      next (none_there h) = none_there h
      next (found g p q is at h e) = found g p q is at h e

  -- a call
  module _ (functions : List FuncDef) (run : Run) (callers : List Caller) (frame : Frame) (k : ℕ) (xs : List Value) (a : ℕ) (stack : List Value) (view : View) where
    abbrev caller : Caller
    caller = record { back = a + 1; frame = frame }

    abbrev Calling : State
    Calling = state a (pushed xs stack) frame callers view

    abbrev Back : Goal State Value
    Back = Just (on_stack (a + 1) stack frame callers)

    entered : Calls m run (caller ∷ callers) → nat_eq (length callers) MOST_CALLS ≡ false → Has m.code.instrs a (i.Call k) → halts m callers (m.stops Inner) ≡ false → Found functions m.code.funcs k
        → Brings (step m) view.left Calling Back (body_run run m.scene (callee functions k (length xs)) xs view)
    entered calls free h inner (none_there e) =
        subst (λ o. Brings (step m) view.left Calling Back (body_run run m.scene (option_and_then (taking (length xs)) o) xs view)) (sym e) tt
    entered calls free h inner (found f p q is at block last) =
        subst (λ o. Brings (step m) view.left Calling Back (body_run run m.scene (option_and_then (taking (length xs)) o) xs view)) (sym is) (by_arity (nat_eq (length xs) f.arity) refl)
      where
        term : TermAt m.code.instrs in_function f.slots i.NoRet [] [] (map Do f.body) p
        term = subst (λ w. TermAt m.code.instrs in_function f.slots i.NoRet [] [] w p) (append-nil (map Do f.body))
            (block_term m.code.instrs in_function f.slots i.NoRet [] [] f.body [] p q block (here [] [] [] q (over q last)))

        by_arity : (t : Bool) → nat_eq (length xs) f.arity ≡ t → Brings (step m) view.left Calling Back (body_run run m.scene (cond t (Some f) None) xs view)
        by_arity true e =
            let same : length xs ≡ f.arity = grind arith in
            after (step m) view.left _ (state p stack (frame_of (variables_of (length f.slots) xs) []) (caller ∷ callers) view) _ _
            (leads_step (step m) _ _
            (acts m (i.Call k) a (pushed xs stack) frame callers view h inner
            ∙ ap (λ t. cond t (Ends (Faults CallDepth)) (enter (slice_get m.code.funcs k) Calling)) free
            ∙ ap (λ o. enter o Calling) at
            ∙ many xs stack [] f.arity 0 _ (omega (arith, same))
            ∙ ap (λ ys. Goes (state p stack (frame_of (variables_of (length f.slots) ys) []) (caller ∷ callers) view)) (append-nil xs)))
            (body_runs run f.slots caller callers calls stack view.left [] [] (map Do f.body) p term (variables_of (length f.slots) xs) view (omega arith))
        by_arity false e = tt

  module _ (functions : List FuncDef) (from upto : ℕ) (codes : FuncsAt m.code.instrs functions m.code.funcs from upto) where
    one_more : (more k : ℕ) (xs : List Value) (view : View) → run_at (suc more) functions m.scene k xs view ≡ body_run (run_at more functions m.scene) m.scene (callee functions k (length xs)) xs view
    unfolding run_at
    one_more more k xs view = refl

    -- inside of functions every call does; outside where expressions don't stop the run
    pub calls_run : (more : ℕ) (callers : List Caller) → length callers + more ≡ MOST_CALLS → halts m callers (m.stops Inner) ≡ false → Calls m (run_at more functions m.scene) callers
    calls_run zero callers e inner frame k xs a stack view h =
        let full : nat_eq (length callers) MOST_CALLS ≡ true = grind arith in
        subst (Brings (step m) view.left _ (Just (on_stack (a + 1) stack frame callers))) (sym (run_none functions m.scene k xs view zero refl))
        (reaches_step (step m) _ _ (acts m (i.Call k) a (pushed xs stack) frame callers view h inner
        ∙ ap (λ t. cond t (Ends (Faults CallDepth)) (enter (slice_get m.code.funcs k) (state a (pushed xs stack) frame callers view))) full))
    calls_run (suc more) callers e inner frame k xs a stack view h =
        let free : nat_eq (length callers) MOST_CALLS ≡ false = grind arith in
        subst (Brings (step m) view.left _ (Just (on_stack (a + 1) stack frame callers))) (sym (one_more more k xs view))
        (entered functions (run_at more functions m.scene) callers frame k xs a stack view
        (calls_run more (caller functions (run_at more functions m.scene) callers frame k xs a stack view ∷ callers) (omega (arith, e)) refl) free h inner (find functions m.code.funcs k from upto codes))
