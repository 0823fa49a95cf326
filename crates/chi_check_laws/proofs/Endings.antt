-- Returns and exits, and what else stands alone in a line: pass, break, continue, and waiting for instances.
use Rattle.std.proofs.Common.{◌≡◌, ℕ, Bool, true, false, List, [], ◌∷◌, map, Option, Some, None, refl, sym, ap, subst}
use Rattle.std.specs.Prelude.{option_map}
use Rattle.chi_token.specs.declared.place.Place.{Place}
use Rattle.chi_tree.specs.declared.expr.Expr.{Expr}
use Rattle.chi_types.specs.declared.ty.Ty.{Ty-F}
use Rattle.chi_core.specs.declared.expression.CExpr.{CExpr}
use Rattle.chi_core.specs.declared.statement.CStat.{CStat}
use Rattle.chi_core.specs.declared.statement.CStat.TheVariants as statement
use Rattle.chi_core.specs.Kinds.{Kind, kind_of}
use Rattle.chi_core.specs.Scopes.{Role, function, process, Scope}
use Rattle.chi_core.specs.SetSlots.{Known as Set}
use Rattle.chi_check_types.specs.declared.meant.Made.{Made}
use Rattle.chi_check_types.specs.declared.rules.TheConstants.{RETURN, EXIT}
use Rattle.chi_check_types.specs.Names.{Names}
use Rattle.chi_check_types.specs.Typed.{unless}
use Rattle.chi_check_expr.proofs.Nodes.{barred_made}
use Rattle.chi_check_laws.specs.KnownNames.{AllStand, SoundMade}
use Rattle.chi_check_laws.proofs.Conversions.{some_is, mapped}
use Rattle.chi_check_laws.proofs.Has.{Have, have_none, have_one}
use Rattle.chi_check.specs.Below.chi_check_stat_rules.specs.declared.home.ExitType.TheVariants as exit
use Rattle.chi_check.specs.Below.chi_check_stat_rules.specs.declared.home.Home.{Home}
use Rattle.chi_check.specs.Below.chi_check_stat_rules.specs.declared.home.Home.TheVariants as home
use Rattle.chi_check.specs.Below.chi_check_stat_rules.specs.Endings.{returning, return_of, exiting, exit_of, loop_rule}
use Rattle.chi_check.specs.Below.chi_check_stat_rules.specs.Homes.{running_rule}
use Rattle.chi_check.specs.Below.chi_check_stat_rules.specs.Values.{fitted}
use Rattle.chi_check_laws.proofs.SoundValues.{fitted_has, exiting_sound}
use Rattle.chi_check.specs.Below.chi_check_stat_lines.specs.Stated.{alone}
use Rattle.chi_check.specs.Below.chi_check_stat_lines.specs.Values.{value_in, instance_in, all_of, made_if}
use Rattle.chi_check.specs.Below.chi_check_stat_lines.specs.Lines.{return_in, exit_in, finish_in}
use Rattle.chi_check_laws.specs.Bodies.{reads_as}
use Rattle.chi_check_laws.proofs.Bodies.{SoundOne, StatementKept, statements_by_parts}
use Rattle.chi_check_laws.proofs.Statements.{one_pass, one_break, one_continue, one_return, one_exit, one_exit_with, one_finish}
use Rattle.chi_check_laws.proofs.Turns.{both_made, alone_kept}
use Rattle.chi_check_laws.proofs.Values.{one_made, value_sound, waited_has}

-- what communicates, waits or starts stands in a process
pub runs_in : (h : Home) (role : Role) (place : Place) → reads_as h ≡ Some role → running_rule h place ≡ [] → (exit : Option Kind) × (role ≡ process exit)
runs_in (home.Function t) role place r e = absurd (cc)
runs_in (home.Process exit.Nothing) role place r e = (None, sym (some_is (process None) role r))
runs_in (home.Process exit.Untyped) role place r e = absurd (cc)
runs_in (home.Process (exit.Given t)) role place r e = (Some (kind_of t), sym (some_is (process (Some (kind_of t))) role r))
runs_in home.Experiment role place r e = absurd (cc)

module _ (scope : Scope) (loop : Bool) (set : Set) where
  return_by : (h : Home) → reads_as h ≡ Some scope.role → (place : Place) (o : Option Made) (x : CStat) → ((m : Made) → o ≡ Some m → SoundMade scope set m) → (return_of h place o).made ≡ Some x → SoundOne scope loop set x
  return_by (home.Function None) role place o x s e = absurd (cc)
  return_by (home.Function (Some t)) role place o x s e =
      let f = one_made RETURN place (returning place.line t) o x e in
      let g = mapped (statement.Return place.line) (fitted f.0 t) x f.2 in
      subst (SoundOne scope loop set) g.2 (one_return scope loop set place.line g.0 (kind_of t) (sym (some_is (function (kind_of t)) scope.role role)) (fitted_has scope set f.0 t g.0 (s f.0 f.1) g.1))
  return_by (home.Process own) role place o x s e = absurd (cc)
  return_by home.Experiment role place o x s e = absurd (cc)

  exit_by : (h : Home) → reads_as h ≡ Some scope.role → (place : Place) (o : Option (Option Made)) (x : CStat) → ((m : Made) → o ≡ Some (Some m) → SoundMade scope set m) → (exit_of h place o).made ≡ Some x → SoundOne scope loop set x
  exit_by (home.Function t) role place o x s e = absurd (cc)
  exit_by home.Experiment role place o x s e = absurd (cc)
  exit_by (home.Process exit.Nothing) role place None x s e =
      subst (SoundOne scope loop set) (some_is _ x e) (one_exit scope loop set place.line (sym (some_is (process None) scope.role role)))
  exit_by (home.Process exit.Nothing) role place (Some m) x s e = absurd (cc)
  exit_by (home.Process exit.Untyped) role place o x s e = absurd (cc)
  exit_by (home.Process (exit.Given t)) role place None x s e = absurd (cc)
  exit_by (home.Process (exit.Given t)) role place (Some m) x s e =
      let f = one_made EXIT place (exiting place.line t) m x e in
      let g = exiting_sound scope set place.line t f.0 x (s f.0 (ap Some f.1)) f.2 in
      subst (SoundOne scope loop set) (sym g.1) (one_exit_with scope loop set place.line g.0 (kind_of t) (sym (some_is (process (Some (kind_of t))) scope.role role)) g.2 g.3)

  pass_sound : (line : ℕ) (x : CStat) → Some (statement.Pass line) ≡ Some x → SoundOne scope loop set x
  pass_sound line x e = subst (SoundOne scope loop set) (some_is _ x e) (one_pass scope loop set line)

break_by : (scope : Scope) (set : Set) (loop : Bool) (place : Place) (x : CStat) → (unless (loop_rule loop place) (statement.Break place.line)).made ≡ Some x → SoundOne scope loop set x
break_by scope set true place x e = subst (SoundOne scope true set) (some_is _ x e) (one_break scope true set place.line refl)
break_by scope set false place x e = absurd (cc)

continue_by : (scope : Scope) (set : Set) (loop : Bool) (place : Place) (x : CStat) → (unless (loop_rule loop place) (statement.Continue place.line)).made ≡ Some x → SoundOne scope loop set x
continue_by scope set true place x e = subst (SoundOne scope true set) (some_is _ x e) (one_continue scope true set place.line refl)
continue_by scope set false place x e = absurd (cc)

module _ (h : Home) (scope : Scope) (role : reads_as h ≡ Some scope.role) (loop : Bool) where
  given_sound : (set : Set) (names : Names) (all : AllStand scope set names) (o : Option Expr) (m : Made) → made_if (option_map (value_in h names) o) ≡ Some (Some m) → SoundMade scope set m
  given_sound set names all None m e = absurd (cc)
  given_sound set names all (Some x) m e = value_sound h scope role set names all x m (some_is _ (Some m) e)

  pub return_kept : (place : Place) (value : Expr) → StatementKept scope loop (λ s. alone s (return_in h s.names place value))
  return_kept place value = alone_kept scope _ _ (statements_by_parts scope loop) (λ names. return_in h names place value) (λ set names x all e.
      (return_by scope loop set h role place (value_in h names value).made x (value_sound h scope role set names all value) e, tt))

  pub exit_kept : (place : Place) (value : Option Expr) → StatementKept scope loop (λ s. alone s (exit_in h s.names place value))
  exit_kept place value = alone_kept scope _ _ (statements_by_parts scope loop) (λ names. exit_in h names place value) (λ set names x all e.
      (exit_by scope loop set h role place (made_if (option_map (value_in h names) value)) x (given_sound set names all value) e, tt))

  pub pass_kept : (place : Place) → StatementKept scope loop (λ s. alone s (unless [] (statement.Pass place.line)))
  pass_kept place = alone_kept scope _ _ (statements_by_parts scope loop) (λ names. unless [] (statement.Pass place.line)) (λ set names x all e. (pass_sound scope loop set place.line x e, tt))

  pub break_kept : (place : Place) → StatementKept scope loop (λ s. alone s (unless (loop_rule loop place) (statement.Break place.line)))
  break_kept place = alone_kept scope _ _ (statements_by_parts scope loop) (λ names. unless (loop_rule loop place) (statement.Break place.line)) (λ set names x all e. (break_by scope set loop place x e, tt))

  pub continue_kept : (place : Place) → StatementKept scope loop (λ s. alone s (unless (loop_rule loop place) (statement.Continue place.line)))
  continue_kept place = alone_kept scope _ _ (statements_by_parts scope loop) (λ names. unless (loop_rule loop place) (statement.Continue place.line)) (λ set names x all e. (continue_by scope set loop place x e, tt))

  -- ---- waiting

  all_waited : (set : Set) (names : Names) → AllStand scope set names → (xs : List Expr) (es : List CExpr) → (all_of (map (instance_in h names) xs)).made ≡ Some es → Have scope set es (map (λ e. Ty-F.Inst) es)
  all_waited set names all [] es e = subst (λ es. Have scope set es (map (λ e. Ty-F.Inst) es)) (some_is [] es e) (have_none scope set)
  all_waited set names all (x ∷ xs) es e =
      let m = both_made (λ x xs. x ∷ xs) (instance_in h names x).made (all_of (map (instance_in h names) xs)).made es e in
      subst (λ es. Have scope set es (map (λ e. Ty-F.Inst) es)) m.4 (have_one scope set m.0 m.1 Ty-F.Inst _ (waited_has h scope role set names all x m.0 m.2) (all_waited set names all xs m.1 m.3))

  pub finish_kept : (place : Place) (instances : List Expr) → StatementKept scope loop (λ s. alone s (finish_in h s.names place instances))
  finish_kept place instances = alone_kept scope _ _ (statements_by_parts scope loop) (λ names. finish_in h names place instances) (λ set names x all e.
      let b = barred_made (running_rule h place) _ x e in
      let p = runs_in h scope.role place role b.0 in
      let m = mapped (statement.Finish place.line) (all_of (map (instance_in h names) instances)).made x b.1 in
      (subst (SoundOne scope loop set) m.2 (one_finish scope loop set place.line m.0 p.0 p.1 (all_waited set names all instances m.0 m.1)), tt))
