-- Declarations of experiments: each variable begins with a value of its type, or with that of a model that is run.
use Rattle.std.proofs.Common.{◌≡◌, ℕ, Bool, true, List, [], ◌∷◌, ◌++◌, map, Option, Some, None, refl, sym, ap, subst, ◌∙◌}
use Rattle.std.specs.Prelude.{slice_get, option_map}
use Rattle.chi_token.specs.declared.place.Place.{Place}
use Rattle.chi_tree.specs.declared.statement.Variable.{Variable}
use Rattle.chi_tree.specs.declared.expr.Expr.{Expr}
use Rattle.chi_tree.specs.declared.type_tree.TypeTree.{TypeTree}
use Rattle.chi_types.specs.declared.ty.Ty.{Ty}
use Rattle.chi_core.specs.declared.experiment.XStat.{XStat, out-XStat}
use Rattle.chi_core.specs.declared.experiment.XStat.TheVariants as trial
use Rattle.chi_core.specs.declared.expression.CExpr.{CExpr}
use Rattle.chi_core.specs.declared.statement.CStat.{CStat, out-CStat}
use Rattle.chi_core.specs.declared.statement.CStat.TheVariants as statement
use Rattle.chi_core.specs.Kinds.{kind_of}
use Rattle.chi_core.specs.Scopes.{Scope}
use Rattle.chi_core.specs.SetSlots.{Known as Set, also, sets}
use Rattle.chi_core.specs.SoundExperiments.{sets_by, is_line}
use Rattle.chi_core.specs.SoundParts as part
use Rattle.chi_check_types.specs.declared.meant.Meant.{Meant}
use Rattle.chi_check_types.specs.declared.rules.TheConstants.{NEW_NAME, INITIAL_VALUE}
use Rattle.chi_check_expr.specs.Typing.{reading}
use Rattle.chi_check_expr.proofs.Kept.{Each}
use Rattle.chi_check.specs.Below.chi_check_stat_rules.specs.declared.home.Home.TheVariants.{Experiment}
use Rattle.chi_check.specs.Below.chi_check_stat_rules.specs.declared.parts.ModelRun.{ModelRun}
use Rattle.chi_check.specs.Below.chi_check_stat_rules.specs.Homes.{site_of, local_rule}
use Rattle.chi_check.specs.Below.chi_check_stat_rules.specs.ModelRuns.{run_into, first_run, initial_run}
use Rattle.chi_check.specs.Below.chi_check_stat_rules.specs.Places.{type_place}
use Rattle.chi_check.specs.Below.chi_check_stat_lines.specs.declared.state.Binder.TheVariants as binder
use Rattle.chi_check.specs.Below.chi_check_stat_lines.specs.declared.state.State.{State}
use Rattle.chi_check.specs.Below.chi_check_stat_lines.specs.Stated.{in_turn, one}
use Rattle.chi_check.specs.Below.chi_check_stat_lines.specs.States.{is_taken, next_slot, new_name_rule}
use Rattle.chi_check.specs.Below.chi_check_stat_lines.specs.Declarations.{declaration, initial_in, declared}
use Rattle.chi_check.specs.Below.chi_check_experiments.specs.Experiments.{ModelCall, model_call, run_called, initial_call, run_declared, declaring, variable_tried, declaration_tried}
use Rattle.chi_check_laws.specs.Bodies.{reads_as, SlotsHave, set_by, Agrees, Grows}
use Rattle.chi_check_laws.specs.Trials.{set_by_trials}
use Rattle.chi_check_laws.proofs.Bodies.{AllSound}
use Rattle.chi_check_laws.proofs.Conversions.{some_is, mapped, chosen}
use Rattle.chi_check_laws.proofs.Declarations.{Declares, declares_more, declared_sound, may_hold}
use Rattle.chi_check_laws.proofs.States.{grows_none, grows_on, slots_before, variable_grows}
use Rattle.chi_check_laws.proofs.TrialBodies.{AllTried, TrialKept, one_line, all_append, set_append}
use Rattle.chi_check_laws.proofs.TrialRuns.{first_call, called_sound, stored_run}
use Rattle.chi_check_laws.proofs.Turns.{both_made, held_made, unbroken}
use Rattle.chi_check_laws.proofs.Values.{two_made, read_sound}
use Rattle.chi_check_laws.proofs.Walks.{variable_stands}

-- the set slots after a run that a variable begins with
run_sets : (line slot : ℕ) (model : ℕ) (arguments : List CExpr) (widen : Bool) (set : Set) → sets_by (out-XStat (trial.RunModel line (record { slot = slot; steps = [] }) model arguments widen)) set ≡ also slot set
run_sets line slot model arguments widen set = ap (λ o. sets_by o set) (trial.outs-RunModel line (record { slot = slot; steps = [] }) model arguments widen)

into_sets : (line slot : ℕ) (t : Ty) (r : ModelRun) (x : XStat) (set : Set) → run_into line (record { slot = slot; steps = [] }) t r ≡ Some x → sets_by (out-XStat x) set ≡ also slot set
into_sets line slot t r x set e =
    let c = chosen _ _ x e in
    subst (λ x. sets_by (out-XStat x) set ≡ also slot set) c.1 (run_sets line slot r.model r.arguments _ set)

-- statements that functions have too
module _ (scope : Scope) (loop : Bool) where
  all_lines : (set : Set) (xs : List CStat) → AllSound scope loop set xs → Each (λ x. is_line (out-CStat x) ≡ true) xs → AllTried scope loop set (map trial.Line xs) × (set_by_trials (map trial.Line xs) set ≡ set_by xs set)
  all_lines set [] h line = (tt, refl)
  all_lines set (x ∷ xs) h line =
      let same : sets_by (out-XStat (trial.Line x)) set ≡ sets (out-CStat x) set = ap (λ o. sets_by o set) (trial.outs-Line x) in
      let rest = all_lines (sets (out-CStat x) set) xs h.1 line.1 in
      ((one_line scope loop set x line.0 h.0, subst (λ set. AllTried scope loop set (map trial.Line xs)) (sym same) rest.0), ap (set_by_trials (map trial.Line xs)) same ∙ rest.1)

module _ (scope : Scope) (role : reads_as Experiment ≡ Some scope.role) (loop : Bool) (line : ℕ) where
  abbrev Begins : Set → Meant → Type 0
  Begins set m = Declares Experiment scope role loop line set m

  tried_grows : (meant : Option Meant) (v : Variable) (s : State) → Grows s (variable_tried line meant v s).next
  tried_grows meant v s = by (initial_call s.names v.initial)
    where
      by : (o : Option (Place × ModelCall)) → Grows s (declaring line meant v o s).next
      by None = variable_grows binder.Variable v.name (option_map (λ m. m.ty) meant) s
      by (Some call) = variable_grows binder.Variable v.name (option_map (λ m. m.ty) meant) s

  all_grow : (meant : Option Meant) (vs : List Variable) (s : State) → Grows s (in_turn (map (variable_tried line meant) vs) s).next
  all_grow meant [] s = grows_none s
  all_grow meant (v ∷ vs) s =
      let middle = (variable_tried line meant v s).next in
      grows_on s middle (in_turn (map (variable_tried line meant) vs) middle).next (tried_grows meant v s) (all_grow meant vs middle)

  -- a declaration is a statement that functions have too
  declared_lines : (meant : Option Meant) (v : Variable) (s : State) (xs : List CStat) → (declared Experiment line meant v s).made ≡ Some xs → Each (λ x. is_line (out-CStat x) ≡ true) xs
  declared_lines meant v s xs e =
      let value = (initial_in Experiment s.names meant v.initial).made in
      let b = held_made (new_name_rule s.names v.name) (declaration line (next_slot s) value) xs e in
      let m = mapped (λ e. statement.Declare line (next_slot s) e ∷ []) value xs b.1 in
      subst (Each (λ x. is_line (out-CStat x) ≡ true)) m.2 (ap is_line (statement.outs-Declare line (next_slot s) m.0), tt)

  -- what holds after a variable
  abbrev After : Set → State → State → List XStat → Type 0
  After set s next xs = AllTried scope loop set xs × Agrees scope (set_by_trials xs set) next × (set_by_trials xs set ≡ also (next_slot s) set)

  called_by : (e : Expr) (meant : Option Meant) (v : Variable) (set : Set) (s : State) (call : Place × ModelCall) (xs : List XStat) → model_call s.names e ≡ Some call.1 → ((m : Meant) → meant ≡ Some m → Begins set m)
      → SlotsHave scope (run_declared line meant v call s).next.slots → Agrees scope set s → (run_declared line meant v call s).made ≡ Some xs → After set s (run_declared line meant v call s).next xs
  called_by e None v set s call xs is d have all made = absurd (never (run_called s.names call.1).made (held_made (new_name_rule s.names v.name) _ xs made).1)
    where
      never : (o : Option ModelRun) → one (initial_run line (next_slot s) call.0 None o).made ≡ Some xs → ⊥
      never o e = absurd (cc)
  called_by e (Some meant) v set s call xs is d have all made =
      let slot = next_slot s in
      let next = (run_declared line (Some meant) v call s).next in
      let first = (initial_run line slot call.0 (Some meant.ty) (run_called s.names call.1).made).made in
      let b = held_made (new_name_rule s.names v.name) (one first) xs made in
      let m = mapped (λ x. x ∷ []) first xs b.1 in
      let f = two_made INITIAL_VALUE call.0 (first_run line slot) (Some meant.ty) (run_called s.names call.1).made m.0 m.1 in
      let own = d meant refl in
      let new = unbroken (is_taken s.names v.name.text) NEW_NAME v.name.place b.0 in
      let var = variable_stands scope binder.Variable v.name meant.ty set s new own.meant.ty have all in
      let same : meant.ty ≡ f.0 = some_is meant.ty f.0 f.2 in
      let sets_slot = into_sets line slot f.0 f.1 m.0 set f.4 in
      let ran = stored_run scope set loop line (record { slot = slot; steps = [] }) f.0 f.1 m.0 (called_sound scope role set s.names all.names e call.1 f.1 is f.3)
      (λ short count. part.whole (kind_of f.0) (subst (λ t. slice_get scope.slots slot ≡ Some (kind_of t)) same var.0)) f.4
      in (
        subst (AllTried scope loop set) m.2 (ran, tt),
        subst (λ xs. Agrees scope (set_by_trials xs set) next) m.2 (subst (λ set. Agrees scope set next) (sym sets_slot) var.1),
        subst (λ xs. set_by_trials xs set ≡ also slot set) m.2 sets_slot,
      )

  tried_by : (meant : Option Meant) (v : Variable) (set : Set) (s : State) (o : Option (Place × ModelCall)) (xs : List XStat) → initial_call s.names v.initial ≡ o → ((m : Meant) → meant ≡ Some m → Begins set m)
      → SlotsHave scope (declaring line meant v o s).next.slots → Agrees scope set s → (declaring line meant v o s).made ≡ Some xs → After set s (declaring line meant v o s).next xs
  tried_by meant v set s None xs is d have all e =
      let next = (declared Experiment line meant v s).next in
      let m = mapped (map trial.Line) (declared Experiment line meant v s).made xs e in
      let k = declared_sound Experiment scope role loop line meant v set s m.0 d have all m.1 in
      let l = all_lines scope loop set m.0 k.0 (declared_lines meant v s m.0 m.1) in (
        subst (AllTried scope loop set) m.2 l.0,
        subst (λ xs. Agrees scope (set_by_trials xs set) next) m.2 (subst (λ set. Agrees scope set next) (sym l.1) k.1),
        subst (λ xs. set_by_trials xs set ≡ also (next_slot s) set) m.2 (l.1 ∙ k.2),
      )
  tried_by meant v set s (Some call) xs is d have all e =
      let c = first_call s.names v.initial call is in
      called_by c.0 meant v set s call xs c.1 d have all e

  all_tried : (meant : Option Meant) (vs : List Variable) (set : Set) (s : State) (xs : List XStat) → ((m : Meant) → meant ≡ Some m → Begins set m) → SlotsHave scope (in_turn (map (variable_tried line meant) vs) s).next.slots → Agrees scope set s
      → (in_turn (map (variable_tried line meant) vs) s).made ≡ Some xs → AllTried scope loop set xs × Agrees scope (set_by_trials xs set) (in_turn (map (variable_tried line meant) vs) s).next
  all_tried meant [] set s xs d have all e =
      let none : [] ≡ xs = some_is [] xs e in
      (subst (AllTried scope loop set) none tt, subst (λ xs. Agrees scope (set_by_trials xs set) s) none all)
  all_tried meant (v ∷ vs) set s xs d have all e =
      let middle = (variable_tried line meant v s).next in
      let last = (in_turn (map (variable_tried line meant) vs) middle).next in
      let m = both_made (λ x y. x ++ y) (variable_tried line meant v s).made (in_turn (map (variable_tried line meant) vs) middle).made xs e in
      let first = tried_by meant v set s (initial_call s.names v.initial) m.0 refl d (slots_before scope middle last (all_grow meant vs middle) have) all m.2 in
      let own : (other : Meant) → meant ≡ Some other → Begins (set_by_trials m.0 set) other =
      λ other is. subst (λ set. Begins set other) (sym first.2) (declares_more Experiment scope role loop line (next_slot s) set other (d other is))
      in
      let rest = all_tried meant vs (set_by_trials m.0 set) middle m.1 own have first.1 m.3 in (
        subst (AllTried scope loop set) m.4 (all_append scope loop set m.0 m.1 first.0 rest.0),
        subst (λ xs. Agrees scope (set_by_trials xs set) last) m.4 (subst (λ set. Agrees scope set last) (sym (set_append scope loop set m.0 m.1)) rest.1),
      )

pub declare_kept : (scope : Scope) → reads_as Experiment ≡ Some scope.role → (loop : Bool) (tree : TypeTree) (variables : List Variable) → TrialKept scope loop (declaration_tried tree variables)
declare_kept scope role loop tree variables = record {
  grows = λ s. all_grow scope role loop (type_place tree).line (reading (site_of Experiment) s.names tree true).made variables s;
  sound = λ set s xs have all e.
      let meant = (reading (site_of Experiment) s.names tree true).made in
      let place = type_place tree in
      let b = held_made (local_rule Experiment place (option_map (λ m. m.ty) meant)) (in_turn (map (variable_tried place.line meant) variables) s).made xs e in
      let own : (m : Meant) → meant ≡ Some m → Declares Experiment scope role loop place.line set m = λ m is.
      let may = may_hold Experiment scope.role place m.ty role (ap (λ o. local_rule Experiment place (option_map (λ m. m.ty) o)) (sym is) ∙ b.0) in
      record { meant = read_sound Experiment scope role set s.names all.names tree true m is; may = may.0; default = may.1 }
      in
      all_tried scope role loop place.line meant variables set s xs own have all b.1;
}
