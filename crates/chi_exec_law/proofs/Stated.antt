-- What the contracts of the laws say.
use Rattle.std.proofs.Common.{◌≡◌, ℕ, ◌+◌, List, [], ◌∷◌, map, length, reverse, true, false, refl, ap, subst, ◌∙◌}
use Rattle.std.specs.Prelude.{slice_get}
use Rattle.chi_value.specs.declared.value.Value.{Value}
use Rattle.chi_core.specs.declared.expression.CExpr.{CExpr}
use Rattle.chi_core.specs.declared.view.View.{View}
use Rattle.chi_core.specs.declared.scene.Scene.{Scene}
use Rattle.chi_core.specs.Answer.{Answer, Gives, Fails, Spent, Amiss, giving, in_turn}
use Rattle.chi_core.specs.Beginning.{no_call, constant_scene, constant_view}
use Rattle.chi_core.specs.Evaluation.{Run, eval}
use Rattle.chi_core.specs.Functions.{calls, run_at}
use Rattle.chi_core.specs.Variables.{Variables}
use Rattle.chi_core.specs.declared.limits.TheConstants.{MOST_CALLS}
use Rattle.chi_code.specs.ExpressionLayout.{ExprsAt, no_expression, one_expression}
use Rattle.chi_exec_law.specs.Runs.{Leads, Brings}
use Rattle.chi_exec_law.specs.State.{state, frame_of}
use Rattle.chi_exec_law.specs.Machine.{Setting, Inner, in_expressions, stops_at, step}
use Rattle.chi_exec_law.specs.Laws.{begun, Values, ExpressionsRun, ConstantsRun, SetsTo, ConstantsSet, All, Calls, CallsLead, ExpressionsLead, ItemsLead, ItemsHaveLines, BodiesLead}
use Rattle.chi_exec_law.proofs.Going.{reaches_step, reaches_on}
use Rattle.chi_exec_law.proofs.Moving.{pushed_all, rests_at}
use Rattle.chi_exec_law.proofs.Expressions.{exprs_run}
use Rattle.chi_exec_law.proofs.Items.{item_runs}
use Rattle.chi_exec_law.proofs.Lines.{item_line}
use Rattle.chi_exec_law.proofs.Bodies.{calls_run, body_runs}

pub calls_lead : CallsLead
calls_lead core m callers more w = calls_run m core.funcs (w.codes.over + 1) w.codes.second w.codes.functions more callers w.count w.free

pub expressions_lead : ExpressionsLead
expressions_lead core m callers more w es a z h variables under stack view =
    exprs_run m (run_at more core.funcs m.scene) callers w.free (calls_lead core m callers more w) variables es a z h stack under view

pub items_lead : ItemsLead
items_lead core m callers more w work turn slots end around under x term a h variables stack view =
    item_runs m turn slots end callers stack (run_at more core.funcs m.scene) w.free work (calls_lead core m callers more w) around under x term a h variables view

pub items_have_lines : ItemsHaveLines
items_have_lines code turn slots end around under x term a h = item_line code turn slots end around under x term a h

pub bodies_lead : BodiesLead
bodies_lead core m c callers more w slots around under term a t variables stack turns view le =
    body_runs m (run_at more core.funcs m.scene) slots c callers (calls_lead core m (c ∷ callers) more w) stack turns around under term a t variables view le

-- a whole run of a list of expressions, where the calls do what calls of the meaning do
whole : (m : Setting) (run : Run) → Calls m run [] → (es : List CExpr) (a z : ℕ) → ExprsAt m.code.instrs es a z → m.stops Inner ≡ false → stops_at m (slice_get m.code.instrs z) ≡ true
    → (variables : Variables) (view : View) → Values m z variables (begun a variables view) (in_turn (map (eval run m.scene variables) es) view)
whole m run called es a z h inner there variables view = told _ (exprs_run m run [] inner called variables es a z h [] [] view)
  where
    told : (o : Answer (List Value)) → Brings (step m) view.left (state a [] (frame_of variables []) [] view) (All (length es) z [] (frame_of variables []) []) o
        → Values m z variables (state a [] (frame_of variables []) [] view) o
    told (Gives xs now) r =
        reaches_on (step m) _ _ _
        (subst (λ u. Leads (step m) (state a [] (frame_of variables []) [] view) u) (r.1.holds.1 ∙ ap (λ s. state z s (frame_of variables []) [] now) (pushed_all xs)) r.1.leads)
        (reaches_step (step m) _ _ (rests_at m z (reverse xs) (frame_of variables []) now there))
    told (Fails kind) r = r
    told Spent r = r
    told Amiss r = tt

pub expressions_run : ExpressionsRun
expressions_run core code codes scene es a z h there variables view =
    let m = in_expressions code scene in
    whole m (calls core.funcs scene) (calls_run m core.funcs (codes.over + 1) codes.second codes.functions MOST_CALLS [] refl refl) es a z h refl there variables view

pub constants_run : ConstantsRun
constants_run code scene c number a z h k variables view =
    whole (in_expressions code scene) no_call (λ frame k xs a stack view h. tt) (c.value ∷ []) a z (one_expression c.value [] a z z h (no_expression z)) refl
    (ap (stops_at (in_expressions code scene)) k) variables view

pub constants_set : ConstantsSet
constants_set core code c number a z h k seed before = told _ (constants_run code scene c number a z h k [] constant_view)
  where
    scene : Scene
    scene = constant_scene core seed before

    told : (o : Answer Value) → Values (in_expressions code scene) z [] (begun a [] constant_view) (giving (λ v. v ∷ []) o)
        → SetsTo (in_expressions code scene) (begun a [] constant_view) number c.line before o
    told (Gives v view) r = (state z (v ∷ []) (frame_of [] []) [] view, r, k, refl)
    told (Fails kind) r = r
    told Spent r = r
    told Amiss r = tt
