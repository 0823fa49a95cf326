-- One turn of a function's body, and calls.
use Rattle.std.proofs.Common.{◌≡◌, ℕ, zero, suc, List, [], ◌∷◌, map, refl, sym, ap, ◌∙◌, Some, None, length, ◌<◌, ◌-◌, arith}
use Rattle.chi_value.specs.declared.value.Value.{Value}
use Rattle.chi_core.specs.declared.program.FuncDef.{FuncDef}
use Rattle.chi_core.specs.declared.fault.FaultKind.TheVariants.{NoReturn, CallDepth}
use Rattle.chi_core.specs.Answer.{Gives, Fails, Spent, Amiss, View, then_do, tick, ticked}
use Rattle.chi_core.specs.Variables.{Variables, variables_of}
use Rattle.chi_core.specs.Scene.{Scene}
use Rattle.chi_core.specs.Evaluation.{Run, eval}
use Rattle.chi_core.specs.Terms.{Item, Do, Term, On, Returns, act}
use Rattle.chi_core.specs.Functions.{exec, run_at, body_run, callee, did_then}

module _ (run : Run) (scene : Scene) (variables : Variables) where
  pub exec_empty : (n : ℕ) (view : View) → exec n run scene variables [] view ≡ Fails NoReturn
  unfolding exec
  exec_empty zero view = refl
  exec_empty (suc n) view = refl

  pub exec_on : (n : ℕ) (i : Item) (term : Term) (view : View) → exec (suc n) run scene variables (i ∷ term) view
      ≡ then_do (tick view) (λ ticked now. then_do (act (eval run scene variables) variables i term now) (did_then (exec n run scene)))
  unfolding exec
  exec_on n i term view = refl

module _ (functions : List FuncDef) (scene : Scene) (k : ℕ) (arguments : List Value) (view : View) where
  pub run_none : (more : ℕ) → more ≡ 0 → run_at more functions scene k arguments view ≡ Fails CallDepth
  unfolding run_at
  run_none zero e = refl
  run_none (suc more) e = absurd (omega arith)

  pub run_more : (more : ℕ) → 0 < more → run_at more functions scene k arguments view ≡ body_run (run_at (more - 1) functions scene) scene (callee functions k (length arguments)) arguments view
  unfolding run_at
  run_more zero h = absurd (omega arith)
  run_more (suc more) h = let e : suc more - 1 ≡ more = omega arith in
      λ i. body_run (run_at (sym e i) functions scene) scene (callee functions k (length arguments)) arguments view

  pub run_lost : (more : ℕ) → 0 < more → callee functions k (length arguments) ≡ None → run_at more functions scene k arguments view ≡ Amiss
  run_lost more h e = run_more more h ∙ ap (λ f. body_run (run_at (more - 1) functions scene) scene f arguments view) e

  pub run_found : (more : ℕ) (f : FuncDef) → 0 < more → callee functions k (length arguments) ≡ Some f
      → run_at more functions scene k arguments view ≡ exec view.left (run_at (more - 1) functions scene) scene (variables_of (length f.slots) arguments) (map Do f.body) view
  run_found more f h e = run_more more h ∙ ap (λ f. body_run (run_at (more - 1) functions scene) scene f arguments view) e

module _ (run : Run) (scene : Scene) (variables : Variables) (view : View) where
  -- a term with a first item, as it is known of a list
  pub exec_none : (n : ℕ) (term : Term) → term ≡ [] → exec n run scene variables term view ≡ Fails NoReturn
  exec_none n term e = ap (λ t. exec n run scene variables t view) e ∙ exec_empty run scene variables n view

  pub exec_over : (n : ℕ) (i : Item) (term rest : Term) → term ≡ i ∷ rest → n ≡ 0 → exec n run scene variables term view ≡ Spent
  unfolding exec
  exec_over n i term rest e z = (λ j. exec (z j) run scene variables (e j) view) ∙ last
    where
      last : exec zero run scene variables (i ∷ rest) view ≡ Spent
      last = refl

  pub exec_spent : (n : ℕ) (i : Item) (term rest : Term) → term ≡ i ∷ rest → view.left ≡ 0 → exec n run scene variables term view ≡ Spent
  unfolding exec
  exec_spent n i term rest e z = ap (λ t. exec n run scene variables t view) e ∙ by_turns n
    where
      by_turns : (n : ℕ) → exec n run scene variables (i ∷ rest) view ≡ Spent
      by_turns zero = refl
      by_turns (suc n) = ap (λ left. then_do (ticked left view) (λ t now. then_do (act (eval run scene variables) variables i rest now) (did_then (exec n run scene)))) z

  pub exec_turn : (n : ℕ) (i : Item) (term rest : Term) → term ≡ i ∷ rest → 0 < n → 0 < view.left
      → exec n run scene variables term view ≡ then_do (act (eval run scene variables) variables i rest (record view { left = view.left - 1 })) (did_then (exec (n - 1) run scene))
  unfolding exec
  exec_turn n i term rest e h l = ap (λ t. exec n run scene variables t view) e ∙ by_turns n h (view.left) l refl
    where
      by_turns : (n : ℕ) → 0 < n → (left : ℕ) → 0 < left → view.left ≡ left
          → exec n run scene variables (i ∷ rest) view ≡ then_do (act (eval run scene variables) variables i rest (record view { left = left - 1 })) (did_then (exec (n - 1) run scene))
      by_turns zero h left l e = absurd (omega arith)
      by_turns (suc n) h zero l e = absurd (omega arith)
      by_turns (suc n) h (suc left) l e =
          let back : suc n - 1 ≡ n = omega arith in
          let less : suc left - 1 ≡ left = omega arith in
          ap (λ left. then_do (ticked left view) (λ t now. then_do (act (eval run scene variables) variables i rest now) (did_then (exec n run scene)))) e
          ∙ (λ j. then_do (act (eval run scene variables) variables i rest (record view { left = sym less j })) (did_then (exec (sym back j) run scene)))

  pub exec_goes : (n : ℕ) (i : Item) (term rest : Term) (new : Variables) (more : Term) (after : View) → term ≡ i ∷ rest → 0 < n → 0 < view.left
      → act (eval run scene variables) variables i rest (record view { left = view.left - 1 }) ≡ Gives (On new more) after
      → exec n run scene variables term view ≡ exec (n - 1) run scene new more after
  exec_goes n i term rest new more after e h l goes = exec_turn n i term rest e h l ∙ ap (λ a. then_do a (did_then (exec (n - 1) run scene))) goes

  pub exec_gives : (n : ℕ) (i : Item) (term rest : Term) (v : Value) (after : View) → term ≡ i ∷ rest → 0 < n → 0 < view.left
      → act (eval run scene variables) variables i rest (record view { left = view.left - 1 }) ≡ Gives (Returns v) after
      → exec n run scene variables term view ≡ Gives v after
  exec_gives n i term rest v after e h l goes = exec_turn n i term rest e h l ∙ ap (λ a. then_do a (did_then (exec (n - 1) run scene))) goes
