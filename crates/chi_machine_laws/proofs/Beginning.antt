-- The machine begins as the program's run does.
use Rattle.std.proofs.Common.{◌≡◌, ℕ, ◌+◌, ℤ, List, [], ◌∷◌, ◌++◌, length, Option, Some, None, Bool, true, false, cond, refl, sym, ap, subst, ◌∙◌}
use Rattle.std.specs.Prelude.{slice_get, nat_eq, pos, drop}
use Rattle.std.specs.Option.{option_and_then}
use Rattle.chi_value.specs.declared.value.Value.{Value}
use Rattle.chi_core.specs.declared.expression.CExpr.{out-CExpr}
use Rattle.chi_core.specs.declared.program.ConstDef.{ConstDef}
use Rattle.chi_core.specs.declared.program.Core.{Core}
use Rattle.chi_core.specs.Answer.{Answer, Gives, Fails, Spent, Amiss, giving}
use Rattle.chi_core.specs.Beginning as beginning
use Rattle.chi_core.specs.Beginning.{no_call, constant_view, constant_value, model_begins, with_constant, begins_after}
use Rattle.chi_core.specs.Config.{settled, new_instance}
use Rattle.chi_core.specs.Evaluation.{eval}
use Rattle.chi_core.specs.Starting.{taking, started_by}
use Rattle.chi_code.specs.declared.code.Code.{Code}
use Rattle.chi_code.specs.declared.instr.Instr.TheVariants as i
use Rattle.chi_code.specs.Codes.{Codes, ConstsAt, no_constant, one_constant, process_entry}
use Rattle.chi_code.specs.ExpressionLayout.{Has, ExprAt}
use Rattle.chi_exec_law.specs.State.{state, frame_of}
use Rattle.chi_exec_law.specs.Machine.{Setting, in_expressions}
use Rattle.chi_exec_law.specs.Laws.{begun, Values}
use Rattle.chi_exec_law.proofs.Stated.{constants_run}
use Rattle.chi_machine_laws.specs.Beginning.{Ready, Broken, line_from, scene_before, first_whole, Begins, sets, breaks, is_ready, BeginsAlike}
use Rattle.chi_machine_laws.specs.Deeds.{held_of}
use Rattle.chi_machine_laws.specs.Laws.{BeginningsFollow}
use Rattle.chi_machine_laws.specs.Stands.{none, more, InstanceAt}
use Rattle.chi_machine_laws.proofs.Skipping.{at_drop, expr_skips}
use Rattle.chi_machine_laws.proofs.Startings.{Found, none_there, found, find, new_stands}

module _ (core : Core) (code : Code) (is_code : Codes core code) (arguments : List Value) (seed : ℕ) (until : Option ℤ) where
  abbrev Alike : ℕ → List Value → beginning.Beginning → Type 0
  Alike a before b = BeginsAlike core code (Begins code arguments seed until a before) b

  -- the model
  ready_so : (a : ℕ) (before : List Value) → Has code.instrs a i.Done → Found code.instrs core.procs code.procs core.model
      → Alike a before (model_begins seed until arguments before core.model (started_by core.procs core.model (length arguments)))
  ready_so a before over (none_there e) = subst (λ o. Alike a before (model_begins seed until arguments before core.model (option_and_then (taking (length arguments)) o))) (sym e) tt
  ready_so a before over (found d place z is entry block last) =
      subst (λ o. Alike a before (model_begins seed until arguments before core.model (option_and_then (taking (length arguments)) o))) (sym is) (by_count (nat_eq (length arguments) (length d.params)) refl)
    where
      same : code.model ≡ core.model
      same = is_code.model

      by_count : (t : Bool) → nat_eq (length arguments) (length d.params) ≡ t → Alike a before (model_begins seed until arguments before core.model (cond t (Some d) None))
      by_count false e = tt
      by_count true e = (
        first_whole code seed until arguments before (process_entry d place),
        is_ready a before (process_entry d place) over (ap (slice_get code.procs) same ∙ entry) e,
        record {
          clock = refl;
          draws = refl;
          channels = refl;
          seed = refl;
          until = refl;
          constants = refl;
          instances = more _ _ [] [] (subst (λ k. InstanceAt core code (settled (new_instance core.model d arguments)) (held_of code k (process_entry d place) arguments)) (sym same) (new_stands core code core.model d place z arguments is block last)) none;
        },
      )

  abbrev m : List Value → Setting
  m before = in_expressions code (scene_before code seed before)

  -- the value of one constant
  abbrev Valued : List Value → ℕ → ℕ → Answer Value → Type 0
  Valued before a z o = Values (m before) z [] (begun a [] constant_view) (giving (λ v. v ∷ []) o)

  valued : (before : List Value) (c : ConstDef) (number a z : ℕ) → ExprAt code.instrs (out-CExpr c.value) a z → Has code.instrs z (i.SetConst number c.line) → Valued before a z (constant_value core seed before c)
  valued before c number a z h k =
      subst (λ names. Valued before a z (eval no_call (record { names = names; seed = seed; clock = pos 0; constants = before; finished = [] }) [] c.value constant_view)) is_code.names
      (constants_run code (scene_before code seed before) c number a z h k [] constant_view)

  after_value : (c : ConstDef) (cs : List ConstDef) (before : List Value) (a z number : ℕ) → Has code.instrs z (i.SetConst number c.line) → line_from (drop a code.instrs) ≡ Some c.line → (o : Answer Value) → Valued before a z o
      → ((v : Value) → Alike (z + 1) (before ++ v ∷ []) (begins_after core arguments seed until (before ++ v ∷ []) cs))
      → Alike a before (with_constant core arguments seed until (λ more. begins_after core arguments seed until more cs) before c o)
  after_value c cs before a z number k own (Gives v view) r next = one_more (begins_after core arguments seed until (before ++ v ∷ []) cs) (next v)
    where
      one_more : (b : beginning.Beginning) → Alike (z + 1) (before ++ v ∷ []) b → Alike a before b
      one_more (beginning.Begins config) n = (n.0, sets a number c.line before (before ++ v ∷ []) (state z (v ∷ []) (frame_of [] []) [] view) (Ready n.0) r k refl n.1, n.2)
      one_more (beginning.Breaks ending) n = sets a number c.line before (before ++ v ∷ []) (state z (v ∷ []) (frame_of [] []) [] view) (Broken ending) r k refl n
      one_more beginning.Amiss n = tt
  after_value c cs before a z number k own (Fails kind) r next = breaks a c.line before kind r own
  after_value c cs before a z number k own Spent r next = tt
  after_value c cs before a z number k own Amiss r next = tt

  all_set : (cs : List ConstDef) (before : List Value) (number a z : ℕ) → ConstsAt code.instrs number cs a z → Has code.instrs z i.Done → Alike a before (begins_after core arguments seed until before cs)
  all_set _ before _ _ _ (no_constant number a) over = ready_so a before over (find code.instrs core.procs code.procs core.model is_code.second (length code.instrs) is_code.processes)
  all_set _ before _ _ z (one_constant number c cs a b _ h k r) over =
      after_value c cs before a b number k (expr_skips code.instrs (out-CExpr c.value) a b h ∙ ap line_from (at_drop code.instrs b (i.SetConst number c.line) k))
      (constant_value core seed before c) (valued before c number a b h k)
      (λ v. all_set cs (before ++ v ∷ []) (number + 1) (b + 1) z r over)

-- the machine begins as the run of the program
pub beginnings_follow : BeginningsFollow
beginnings_follow core code is_code arguments seed until = all_set core code is_code arguments seed until core.consts [] 0 0 is_code.over is_code.constants is_code.done
