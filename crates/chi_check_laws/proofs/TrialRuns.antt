-- Calls of models: each names a model that gives a value, with arguments of the kinds of its parameters; and what takes the value.
use Rattle.std.proofs.Common.{◌≡◌, inl, inr, ℕ, nat_eq, length, Bool, true, false, not, ◌&&◌, List, [], ◌∷◌, map, Option, Some, None, refl, sym, ap, subst, ◌∙◌}
use Rattle.std.proofs.lemmas.Bool.{and_parts}
use Rattle.std.specs.List.{list_all}
use Rattle.std.specs.Prelude.{slice_get, option_map}
use Rattle.chi_token.specs.declared.place.Place.{Place}
use Rattle.chi_tree.specs.declared.expr.Entry.{Entry}
use Rattle.chi_tree.specs.declared.expr.Expr.{Expr, Expr-F, out-Expr}
use Rattle.chi_tree.specs.declared.expr.Link.{Link}
use Rattle.chi_tree.specs.declared.expr.Postfix.{Postfix}
use Rattle.chi_tree.specs.declared.statement.Initial.{Initial}
use Rattle.chi_tree.specs.declared.statement.Target.{Target}
use Rattle.chi_tree.specs.declared.type_tree.Formal.{Formal}
use Rattle.chi_tree.specs.declared.type_tree.TypeTree.{TypeTree}
use Rattle.chi_types.specs.declared.ty.Ty.{Ty, Ty-F, out-Ty}
use Rattle.chi_types.specs.Fits.{fits, widens}
use Rattle.chi_types.specs.Plain.{is_plain}
use Rattle.chi_core.specs.declared.experiment.XStat.{XStat}
use Rattle.chi_core.specs.declared.experiment.XStat.TheVariants as trial
use Rattle.chi_core.specs.declared.program.ProcDef.{ProcDef}
use Rattle.chi_core.specs.declared.target.CTarget.{CTarget}
use Rattle.chi_core.specs.Kinds.{kind_of, kinds_of, is_plain_kind}
use Rattle.chi_core.specs.Scopes.{Scope, exit_of}
use Rattle.chi_core.specs.SetSlots.{Known as Set}
use Rattle.chi_core.specs.SoundExperiments.{TakenAs, as_it_is, as_a_real}
use Rattle.chi_core.specs.SoundParts.{TargetTakes}
use Rattle.chi_check.specs.Below.chi_check_streams.specs.Streams.{of_target}
use Rattle.chi_check_types.specs.declared.known.Known.{Known}
use Rattle.chi_check_types.specs.declared.known.Known.TheVariants as known
use Rattle.chi_check_types.specs.declared.meant.Made.{Made}
use Rattle.chi_check_types.specs.declared.rules.TheConstants.{CALL_ARGUMENTS, MODEL_CALL}
use Rattle.chi_check_types.specs.Names.{Names, known_in}
use Rattle.chi_check_expr_rules.specs.Conversions.{passed}
use Rattle.chi_check_expr_rules.specs.Nodes.{of_all, all_made}
use Rattle.chi_check_expr.proofs.Kept.{Each}
use Rattle.chi_check_expr.proofs.Nodes.{barred_made, settled_made}
use Rattle.chi_check.specs.Below.chi_check_stat_rules.specs.declared.home.Home.TheVariants.{Experiment}
use Rattle.chi_check.specs.Below.chi_check_stat_rules.specs.declared.parts.Modelled.{Modelled}
use Rattle.chi_check.specs.Below.chi_check_stat_rules.specs.declared.parts.ModelRun.{ModelRun}
use Rattle.chi_check.specs.Below.chi_check_stat_rules.specs.ModelRuns.{model_known, may_run, model_rule, model_run, ran, arguments_of, run_of, run_into}
use Rattle.chi_check.specs.Below.chi_check_stat_lines.specs.Values.{made_of, values_in}
use Rattle.chi_check.specs.Below.chi_check_experiments.specs.Experiments.{ModelCall, call_with, model_call_step, model_call, run_called, call_alone, initial_call}
use Rattle.chi_check_laws.specs.Bodies.{reads_as}
use Rattle.chi_check_laws.specs.KnownNames.{ProcessStands, Stands, AllStand, SoundMade}
use Rattle.chi_check_laws.specs.Parts.{target_texts}
use Rattle.chi_check_laws.proofs.Conversions.{some_is, mapped, chosen, passed_have}
use Rattle.chi_check_laws.proofs.Has.{Have}
use Rattle.chi_check_laws.proofs.TrialBodies.{SoundTrial, one_run}
use Rattle.chi_check_laws.proofs.Turns.{unbroken, not_false}
use Rattle.chi_check_laws.proofs.TypeKinds.{Serves, fits_serves, widens_kinds, kinds_widen, plain_kind}
use Rattle.chi_check_laws.proofs.Values.{values_sound}

-- ---- where a call of a model stands

-- the whole value of an assignment
pub alone_call : (names : Names) (targets : List Target) (values : List Expr) (c : Target × ModelCall) → call_alone names targets values ≡ Some c → (e : Expr) × (model_call names e ≡ Some c.1)
alone_call names (t ∷ []) (e ∷ []) c is =
    let f = mapped (λ c. (t, c)) (model_call names e) c is in
    (e, f.1 ∙ ap (λ (c : Target × ModelCall). Some c.1) f.2)
alone_call names _ _ c is = absurd (cc)

-- an initial value
pub first_call : (names : Names) (o : Option Initial) (c : Place × ModelCall) → initial_call names o ≡ Some c → (e : Expr) × (model_call names e ≡ Some c.1)
first_call names None c is = absurd (cc)
first_call names (Some initial) c is =
    let f = mapped (λ c. (initial.equals, c)) (model_call names initial.value) c is in
    (initial.value, f.1 ∙ ap (λ (c : Place × ModelCall). Some c.1) f.2)

-- ---- runs

-- what is taken of a type that fits
taken_as : (a t : Ty) → fits a t ≡ true → TakenAs (kind_of a) (widens (out-Ty a) (out-Ty t)) (kind_of t)
taken_as a t h = by (widens (out-Ty a) (out-Ty t)) refl (fits_serves a t h)
  where
    by : (w : Bool) → widens (out-Ty a) (out-Ty t) ≡ w → Serves a t → TakenAs (kind_of a) w (kind_of t)
    by true p k = let is = widens_kinds a t p in subst (λ T. TakenAs T true (kind_of t)) (sym is.0) (subst (TakenAs Ty-F.Int true) (sym is.1) as_a_real)
    by false p (inl e) = subst (TakenAs (kind_of a) false) e (as_it_is (kind_of a))
    by false p (inr e) = let wide : widens (out-Ty a) (out-Ty t) ≡ true = kinds_widen a t e.0 e.1 in absurd (cc)

plain_kinds : (ts : List Ty) → list_all is_plain ts ≡ true → list_all is_plain_kind (kinds_of ts) ≡ true
plain_kinds [] h = refl
plain_kinds (t ∷ ts) h =
    let both = and_parts _ _ h in
    let first = plain_kind t both.0 in
    let rest = plain_kinds ts both.1 in
    λ i. first i && rest i

all_by : {B : Type 0} (rule : ℕ) (place : Place) (b : Bool) (f : List Made → Option B) (o : Option (List Made)) (x : B) → (of_all rule place b f o).made ≡ Some x → (ms : List Made) × (o ≡ Some ms) × (f ms ≡ Some x)
all_by rule place false f o x e = absurd (cc)
all_by rule place true f None x e = absurd (cc)
all_by rule place true f (Some ms) x e = (ms, refl, settled_made rule place (f ms) x e)

-- a model with an exit type, parameters of plain types, and arguments of their kinds
pub record SoundRun (scope : Scope) (set : Set) (r : ModelRun) : Type 0 where
  pub d : ProcDef
  pub is : slice_get scope.core.procs r.model ≡ Some d
  pub exits : exit_of d ≡ Some (kind_of r.exit)
  pub plain : list_all is_plain_kind (kinds_of d.params) ≡ true
  pub have : Have scope set r.arguments (kinds_of d.params)

-- a model that is called agrees with the program
abbrev CallStands : Scope → Option Modelled → Type 0
CallStands scope o = (m : Modelled) → o ≡ Some m → ProcessStands scope m.number m.params m.exit

module _ (scope : Scope) (set : Set) where
  known_stands : (o : Option Known) → ((k : Known) → o ≡ Some k → Stands scope set k) → (x : Option Modelled) → model_known o ≡ Some x → CallStands scope x
  known_stands None st x e m is = absurd (cc)
  known_stands (Some (known.Model number params exit)) st x e m is =
      let found : Some (record { number = number; params = params; exit = exit }) ≡ x = some_is _ x e in
      let same = some_is _ m (found ∙ is) in
      subst (λ (m : Modelled). ProcessStands scope m.number m.params m.exit) same (st (known.Model number params exit) refl)
  known_stands (Some (known.Untyped k)) st x e m is = absurd (st (known.Untyped k) refl)
  known_stands (Some _) st x e m is = absurd (cc)

  step_stands : (names : Names) → AllStand scope set names → (layer : Expr-F Expr Postfix TypeTree Entry Link Formal) (c : ModelCall) → model_call_step names layer ≡ Some c → CallStands scope c.model
  step_stands names all (Expr-F.Call name arguments) c e =
      let f = mapped (call_with name arguments) (model_known (known_in names name.text)) c e in
      subst (λ (c : ModelCall). CallStands scope c.model) f.2 (known_stands (known_in names name.text) (all name.text) f.0 f.1)
  step_stands names all _ c e = absurd (cc)

  pub call_stands : (names : Names) → AllStand scope set names → (e : Expr) (c : ModelCall) → model_call names e ≡ Some c → CallStands scope c.model
  call_stands names all e c is = step_stands names all (out-Expr e) c is

  ran_by : (place : Place) (number : ℕ) (params : List Ty) (exit : Option Ty) (os : List (Option Made)) (r : ModelRun) → ((ms : List Made) → all_made os ≡ Some ms → Each (SoundMade scope set) ms)
      → ProcessStands scope number params exit → list_all is_plain params ≡ true → (ran number exit (arguments_of place params os)).made ≡ Some r → SoundRun scope set r
  ran_by place number params None os r s stands plain e = absurd (cc)
  ran_by place number params (Some exit) os r s stands plain e =
      let f = mapped (model_run number exit) (arguments_of place params os).made r e in
      let g = all_by CALL_ARGUMENTS place (nat_eq (length os) (length params)) (λ ms. passed ms params) (all_made os) f.0 f.1 in
      let have = passed_have scope set g.0 params f.0 (s g.0 g.1) g.2 in
      subst (SoundRun scope set) f.2 (record {
        d = stands.d;
        is = stands.is;
        exits = ap (option_map kind_of) stands.exits;
        plain = subst (λ params. list_all is_plain_kind (kinds_of params) ≡ true) (sym stands.takes) (plain_kinds params plain);
        have = subst (λ params. Have scope set f.0 (kinds_of params)) (sym stands.takes) have;
      })

  run_by : (place : Place) (o : Option Modelled) (os : List (Option Made)) (r : ModelRun) → CallStands scope o → ((ms : List Made) → all_made os ≡ Some ms → Each (SoundMade scope set) ms) → (run_of place o os).made ≡ Some r → SoundRun scope set r
  run_by place None os r stands s e = absurd (cc)
  run_by place (Some m) os r stands s e =
      let b = barred_made (model_rule place m) (ran m.number m.exit (arguments_of place m.params os)) r e in
      let both = and_parts _ _ (not_false (may_run m) (unbroken (not (may_run m)) MODEL_CALL place b.0)) in
      ran_by place m.number m.params m.exit os r s (stands m refl) both.1 b.1

  -- where the value goes
  pub stored_run : (loop : Bool) (line : ℕ) (target : CTarget) (t : Ty) (r : ModelRun) (x : XStat) → SoundRun scope set r → (target_texts target ≡ true → (count : ℕ) → TargetTakes scope set target.slot (of_target target count).part.steps (kind_of t))
      → run_into line target t r ≡ Some x → SoundTrial scope loop set x
  stored_run loop line target t r x sound takes e =
      let c = chosen (fits r.exit t) (trial.RunModel line target r.model r.arguments (widens (out-Ty r.exit) (out-Ty t))) x e in
      subst (SoundTrial scope loop set) c.1 (one_run scope loop set line target r.model r.arguments (widens (out-Ty r.exit) (out-Ty t)) sound.d (kind_of r.exit) (kind_of t) sound.is sound.exits sound.plain sound.have (taken_as r.exit t c.0) takes)

module _ (scope : Scope) (role : reads_as Experiment ≡ Some scope.role) (set : Set) (names : Names) (all : AllStand scope set names) where
  pub called_sound : (e : Expr) (c : ModelCall) (r : ModelRun) → model_call names e ≡ Some c → (run_called names c).made ≡ Some r → SoundRun scope set r
  called_sound e c r is made =
      run_by scope set c.name.place c.model (map made_of (values_in Experiment names c.arguments)) r (call_stands scope set names all e c is) (values_sound Experiment scope role set names all c.arguments) made
