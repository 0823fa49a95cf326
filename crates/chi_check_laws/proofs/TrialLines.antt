-- Statements of experiments without blocks: what they come to is sound, and the names agree with the program after them.
use Rattle.std.proofs.Common.{◌≡◌, ℕ, nat_eq, length, Bool, true, false, List, [], map, Option, Some, None, refl, ap, subst}
use Rattle.std.specs.Prelude.{option_map}
use Rattle.chi_token.specs.declared.place.Place.{Place}
use Rattle.chi_tree.specs.declared.expr.Expr.{Expr}
use Rattle.chi_tree.specs.declared.statement.Communication.{Communication}
use Rattle.chi_tree.specs.declared.statement.Target.{Target}
use Rattle.chi_core.specs.declared.experiment.XStat.{XStat}
use Rattle.chi_core.specs.declared.experiment.XStat.TheVariants as trial
use Rattle.chi_core.specs.declared.statement.CStat.{CStat, out-CStat}
use Rattle.chi_core.specs.declared.statement.CStat.TheVariants as statement
use Rattle.chi_core.specs.Scopes.{Scope}
use Rattle.chi_core.specs.SetSlots.{Known as Set}
use Rattle.chi_core.specs.SoundExperiments.{is_line}
use Rattle.chi_check_types.specs.declared.rules.TheConstants.{ASSIGNED_VALUE, IN_EXPERIMENT}
use Rattle.chi_check_types.specs.Names.{Names}
use Rattle.chi_check_types.specs.Typed.{Typed, unless, refused}
use Rattle.chi_check_expr.proofs.Nodes.{barred_made}
use Rattle.chi_check.specs.Below.chi_check_stat_rules.specs.declared.home.Home.TheVariants.{Experiment}
use Rattle.chi_check.specs.Below.chi_check_stat_rules.specs.declared.parts.Aim.{Aim}
use Rattle.chi_check.specs.Below.chi_check_stat_rules.specs.Endings.{loop_rule}
use Rattle.chi_check.specs.Below.chi_check_stat_rules.specs.Homes.{running_rule}
use Rattle.chi_check.specs.Below.chi_check_stat_rules.specs.ModelRuns.{run_at}
use Rattle.chi_check.specs.Below.chi_check_stat_lines.specs.Stated.{alone}
use Rattle.chi_check.specs.Below.chi_check_stat_lines.specs.Values.{made_of, all_of, assignment_place, values_in, instance_in, target_in, assignment_in}
use Rattle.chi_check.specs.Below.chi_check_stat_lines.specs.Lines.{communication_place, selected, parts_in, communication_in, communicating, write_in, return_in, exit_in, finish_in}
use Rattle.chi_check.specs.Below.chi_check_experiments.specs.Experiments.{ModelCall, lined, model_call, run_called, call_alone, run_assigned, assigning, assignment_tried}
use Rattle.chi_check_laws.specs.Bodies.{reads_as}
use Rattle.chi_check_laws.specs.KnownNames.{AllStand}
use Rattle.chi_check_laws.specs.Whole.{has_any}
use Rattle.chi_check_laws.proofs.Assignments.{assignment_sound}
use Rattle.chi_check_laws.proofs.Bodies.{SoundOne}
use Rattle.chi_check_laws.proofs.Communications.{target_aim}
use Rattle.chi_check_laws.proofs.Conversions.{some_is, mapped}
use Rattle.chi_check_laws.proofs.FilledLines.{assigned_assigns}
use Rattle.chi_check_laws.proofs.Statements as one
use Rattle.chi_check_laws.proofs.Targets.{aim_takes}
use Rattle.chi_check_laws.proofs.TrialBodies.{SoundTrial, TrialKept, trials_by_parts, one_line, one_write}
use Rattle.chi_check_laws.proofs.TrialRuns.{alone_call, called_sound, stored_run}
use Rattle.chi_check_laws.proofs.Turns.{alone_kept}
use Rattle.chi_check_laws.proofs.Values.{two_made}
use Rattle.chi_check_laws.proofs.Writes.{what_is_written}

never_runs : (place : Place) → running_rule Experiment place ≡ [] → ⊥
never_runs place e = cc

module _ (scope : Scope) (role : reads_as Experiment ≡ Some scope.role) (loop : Bool) where
  -- ---- what comes to a statement that functions have too

  lined_kept : (t : Names → Typed CStat) → ((set : Set) (names : Names) (x : CStat) → AllStand scope set names → (t names).made ≡ Some x → SoundTrial scope loop set (trial.Line x)) → TrialKept scope loop (λ s. alone s (lined (t s.names)))
  lined_kept t h = alone_kept scope _ _ (trials_by_parts scope loop) (λ names. lined (t names)) (λ set names x all e.
      let m = mapped trial.Line (t names).made x e in
      (subst (SoundTrial scope loop set) m.2 (h set names m.0 all m.1), tt))

  same_line : (set : Set) (s x : CStat) → s ≡ x → is_line (out-CStat s) ≡ true → SoundOne scope loop set s → SoundTrial scope loop set (trial.Line x)
  same_line set s x is line h = subst (λ x. SoundTrial scope loop set (trial.Line x)) is (one_line scope loop set s line h)

  pub pass_kept : (place : Place) → TrialKept scope loop (λ s. alone s (lined (unless [] (statement.Pass place.line))))
  pass_kept place = lined_kept (λ names. unless [] (statement.Pass place.line)) (λ set names x all e.
      same_line set _ x (some_is _ x e) (ap is_line (statement.outs-Pass place.line)) (one.one_pass scope loop set place.line))

  -- ---- what never comes to anything

  never_kept : (t : Names → Typed CStat) → ((names : Names) (x : CStat) → (t names).made ≡ Some x → ⊥) → TrialKept scope loop (λ s. alone s (lined (t s.names)))
  never_kept t never = lined_kept t (λ set names x all e. absurd (never names x e))

  pub communicate_kept : (c : Communication) → TrialKept scope loop (λ s. alone s (lined (communicating Experiment s.names c)))
  communicate_kept c = never_kept (λ names. communicating Experiment names c) (λ names x e.
      let m = mapped (selected (communication_place c).line) (communication_in Experiment names c).made x e in
      never_runs (communication_place c) (barred_made (running_rule Experiment (communication_place c)) (parts_in Experiment names c) m.0 m.1).0)

  pub return_kept : (place : Place) (value : Expr) → TrialKept scope loop (λ s. alone s (lined (return_in Experiment s.names place value)))
  return_kept place value = never_kept (λ names. return_in Experiment names place value) (λ names x e. absurd (cc))

  pub exit_kept : (place : Place) (value : Option Expr) → TrialKept scope loop (λ s. alone s (lined (exit_in Experiment s.names place value)))
  exit_kept place value = never_kept (λ names. exit_in Experiment names place value) (λ names x e. absurd (cc))

  pub finish_kept : (place : Place) (instances : List Expr) → TrialKept scope loop (λ s. alone s (lined (finish_in Experiment s.names place instances)))
  finish_kept place instances = never_kept (λ names. finish_in Experiment names place instances) (λ names x e.
      let es = all_of (map (instance_in Experiment names) instances) in
      let waits : Typed CStat = record { faults = es.faults; made = option_map (statement.Finish place.line) es.made } in
      never_runs place (barred_made (running_rule Experiment place) waits x e).0)

  pub refused_kept : (place : Place) → TrialKept scope loop (λ s. alone s (refused IN_EXPERIMENT place))
  refused_kept place = alone_kept scope _ _ (trials_by_parts scope loop) (λ names. refused IN_EXPERIMENT place) (λ set names x all e. absurd (cc))

  -- ---- writes

  pub write_kept : (place : Place) (ends_line : Bool) (format : List ℕ) (format_place : Place) (values : List Expr) → TrialKept scope loop (λ s. alone s (lined (write_in Experiment s.names place ends_line format format_place values)))
  write_kept place ends_line format format_place values = lined_kept (λ names. write_in Experiment names place ends_line format format_place values) (λ set names x all e.
      let w = (what_is_written Experiment scope role loop set names all place ends_line format format_place values x e).1 in
      subst (λ x. SoundTrial scope loop set (trial.Line x)) w.is (one_write scope loop set place.line w.pieces w.values w.kinds w.have w.shows))

  -- ---- assignments

  module _ (set : Set) (names : Names) (all : AllStand scope set names) where
    line_assigned : (targets : List Target) (equals : Place) (values : List Expr) (x : CStat) → has_any targets ≡ true → (assignment_in Experiment names targets equals values).made ≡ Some x → SoundTrial scope loop set (trial.Line x)
    line_assigned targets equals values x w e =
        let os = map made_of (map (target_in Experiment names) targets) in
        let ms = map made_of (values_in Experiment names values) in
        let a = assigned_assigns (assignment_place targets equals).line equals os (nat_eq (length ms) (length os)) ms x e in
        let line = ap is_line (statement.outs-Assign a.1 (map (λ (a : Aim). a.target) a.0) a.2) in
        one_line scope loop set x (subst (λ x. is_line (out-CStat x) ≡ true) a.4 line) (assignment_sound Experiment scope role set names all loop targets equals values x w e)

    run_stored : (equals : Place) (t : Target) (e : Expr) (c : ModelCall) (x : XStat) → model_call names e ≡ Some c → (run_assigned names equals t c).made ≡ Some x → SoundTrial scope loop set x
    run_stored equals t e c x is made =
        let f = two_made ASSIGNED_VALUE equals (run_at t.name.place.line) (target_in Experiment names t).made (run_called names c).made x made in
        let aim = target_aim Experiment scope role set names all t f.0 f.2 in
        stored_run scope set loop t.name.place.line f.0.target f.0.ty f.1 x (called_sound scope role set names all e c f.1 is f.3) (aim_takes scope set f.0 aim) f.4

    assigned_by : (targets : List Target) (equals : Place) (values : List Expr) (o : Option (Target × ModelCall)) (x : XStat) → has_any targets ≡ true → call_alone names targets values ≡ o
        → (assigning names targets equals values o).made ≡ Some x → SoundTrial scope loop set x
    assigned_by targets equals values None x w is e =
        let m = mapped trial.Line (assignment_in Experiment names targets equals values).made x e in
        subst (SoundTrial scope loop set) m.2 (line_assigned targets equals values m.0 w m.1)
    assigned_by targets equals values (Some c) x w is e =
        let call = alone_call names targets values c is in
        run_stored equals c.0 call.0 c.1 x call.1 e

  pub assign_kept : (targets : List Target) (equals : Place) (values : List Expr) → has_any targets ≡ true → TrialKept scope loop (λ s. alone s (assignment_tried s.names targets equals values))
  assign_kept targets equals values w = alone_kept scope _ _ (trials_by_parts scope loop) (λ names. assignment_tried names targets equals values) (λ set names x all e.
      (assigned_by set names all targets equals values (call_alone names targets values) x w refl e, tt))

-- ---- what goes on with a loop

module _ (scope : Scope) (role : reads_as Experiment ≡ Some scope.role) where
  break_by : (loop : Bool) (set : Set) (place : Place) (x : CStat) → (unless (loop_rule loop place) (statement.Break place.line)).made ≡ Some x → SoundTrial scope loop set (trial.Line x)
  break_by true set place x e = same_line scope role true set _ x (some_is _ x e) (ap is_line (statement.outs-Break place.line)) (one.one_break scope true set place.line refl)
  break_by false set place x e = absurd (cc)

  continue_by : (loop : Bool) (set : Set) (place : Place) (x : CStat) → (unless (loop_rule loop place) (statement.Continue place.line)).made ≡ Some x → SoundTrial scope loop set (trial.Line x)
  continue_by true set place x e = same_line scope role true set _ x (some_is _ x e) (ap is_line (statement.outs-Continue place.line)) (one.one_continue scope true set place.line refl)
  continue_by false set place x e = absurd (cc)

  pub break_kept : (loop : Bool) (place : Place) → TrialKept scope loop (λ s. alone s (lined (unless (loop_rule loop place) (statement.Break place.line))))
  break_kept loop place = lined_kept scope role loop (λ names. unless (loop_rule loop place) (statement.Break place.line)) (λ set names x all e. break_by loop set place x e)

  pub continue_kept : (loop : Bool) (place : Place) → TrialKept scope loop (λ s. alone s (lined (unless (loop_rule loop place) (statement.Continue place.line))))
  continue_kept loop place = lined_kept scope role loop (λ names. unless (loop_rule loop place) (statement.Continue place.line)) (λ set names x all e. continue_by loop set place x e)
