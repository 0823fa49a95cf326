-- The indexes of targets are evaluated one after another; with them an assignment knows its spots.
use Rattle.std.proofs.Common.{◌≡◌, ℕ, suc, List, [], ◌∷◌, ◌++◌, map, length, length-append, append_assoc, Some, false, refl, sym, ap, subst, ◌∙◌, arith}
use Rattle.std.proofs.lemmas.List.{append-nil}
use Rattle.std.specs.Prelude.{option_map}
use Rattle.chi_value.specs.declared.value.Value.{Value}
use Rattle.chi_ops.specs.Store.{Step, by, part}
use Rattle.chi_core.specs.declared.expression.CExpr.{CExpr}
use Rattle.chi_core.specs.declared.target.CStep.{CStep}
use Rattle.chi_core.specs.declared.target.CStep.TheVariants as into
use Rattle.chi_core.specs.declared.target.CTarget.{CTarget}
use Rattle.chi_core.specs.declared.view.View.{View}
use Rattle.chi_core.specs.Answer.{Answer, Gives, Fails, Spent, Amiss, Does, then_do, gives, giving, gathered, in_turn}
use Rattle.chi_core.specs.Evaluation.{Run, eval}
use Rattle.chi_core.specs.Spots.{Spot, step_at, spot_of}
use Rattle.chi_core.specs.Variables.{Variables}
use Rattle.chi_code.specs.Aims.{aim_step, aim_of, step_indexes, indexes_of}
use Rattle.chi_code.specs.ExpressionLayout.{ExprsAt, no_expression, one_expression}
use Rattle.chi_exec_law.specs.Runs.{Goal, Brings}
use Rattle.chi_exec_law.specs.State.{Turning, Caller, State, state, frame_of, on_stack, pushed}
use Rattle.chi_exec_law.specs.Instructions.{spots_from, index_count, step_count, path_from, spot_at}
use Rattle.chi_exec_law.specs.Machine.{Inner, Setting, halts, step}
use Rattle.chi_exec_law.specs.Laws.{Calls}
use Rattle.chi_exec_law.proofs.Going.{then_brings, just_brings, fewer, weaker, brings_here}
use Rattle.chi_exec_law.proofs.Moving.{pushed_more}
use Rattle.chi_exec_law.proofs.Expressions.{expr_runs}

-- the indexes and keys of a path, and of spots
abbrev pub path_keys : List Step → List Value
path_keys [] = []
path_keys (by k ∷ path) = k ∷ path_keys path
path_keys (part n ∷ path) = path_keys path

abbrev pub spots_keys : List Spot → List Value
spots_keys [] = []
spots_keys (s ∷ spots) = path_keys s.path ++ spots_keys spots

-- a path is of these steps, and spots are of these targets
pub data FitSteps : List CStep → List Step → Type 0 where
  fits_none : FitSteps [] []
  fits_index : (e : CExpr) (k : Value) (steps : List CStep) (path : List Step) → FitSteps steps path → FitSteps (into.Index e ∷ steps) (by k ∷ path)
  fits_part : (n : ℕ) (steps : List CStep) (path : List Step) → FitSteps steps path → FitSteps (into.Part n ∷ steps) (part n ∷ path)

pub data FitTargets : List CTarget → List Spot → Type 0 where
  no_spot : FitTargets [] []
  one_spot : (t : CTarget) (ts : List CTarget) (path : List Step) (spots : List Spot) → FitSteps t.steps path → FitTargets ts spots → FitTargets (t ∷ ts) (spot_at t.slot path ∷ spots)

path_back : (steps : List CStep) (path : List Step) (rest : List Value) → FitSteps steps path → path_from (map aim_step steps) (path_keys path ++ rest) ≡ Some (path, rest)
path_back _ _ rest fits_none = refl
path_back _ _ rest (fits_index e k steps path h) = ap (option_map (λ (r : List Step × List Value). (by k ∷ r.0, r.1))) (path_back steps path rest h)
path_back _ _ rest (fits_part n steps path h) = ap (option_map (λ (r : List Step × List Value). (part n ∷ r.0, r.1))) (path_back steps path rest h)

pub spots_back : (ts : List CTarget) (spots : List Spot) → FitTargets ts spots → spots_from (map aim_of ts) (spots_keys spots) ≡ Some spots
spots_back _ _ no_spot = refl
spots_back _ _ (one_spot t ts path spots h hs) = rw (path_back t.steps path (spots_keys spots) h, spots_back ts spots hs) refl

steps_counted : (steps : List CStep) (path : List Step) → FitSteps steps path → step_count (map aim_step steps) ≡ length (path_keys path)
steps_counted _ _ fits_none = refl
steps_counted _ _ (fits_index e k steps path h) = ap suc (steps_counted steps path h)
steps_counted _ _ (fits_part n steps path h) = steps_counted steps path h

pub keys_counted : (ts : List CTarget) (spots : List Spot) → FitTargets ts spots → index_count (map aim_of ts) ≡ length (spots_keys spots)
keys_counted _ _ no_spot = refl
keys_counted _ _ (one_spot t ts path spots h hs) = omega (arith, steps_counted t.steps path h, keys_counted ts spots hs, length-append (path_keys path) (spots_keys spots))

pub as_many_spots : (ts : List CTarget) (spots : List Spot) → FitTargets ts spots → length spots ≡ length ts
as_many_spots _ _ no_spot = refl
as_many_spots _ _ (one_spot t ts path spots h hs) = ap suc (as_many_spots ts spots hs)

-- one more
path_keys_on : (p q : List Step) → path_keys (p ++ q) ≡ path_keys p ++ path_keys q
path_keys_on [] q = refl
path_keys_on (by k ∷ p) q = ap (λ ks. k ∷ ks) (path_keys_on p q)
path_keys_on (part n ∷ p) q = path_keys_on p q

spots_keys_on : (p q : List Spot) → spots_keys (p ++ q) ≡ spots_keys p ++ spots_keys q
spots_keys_on [] q = refl
spots_keys_on (s ∷ p) q = ap (λ ks. path_keys s.path ++ ks) (spots_keys_on p q) ∙ sym (append_assoc (path_keys s.path) (spots_keys p) (spots_keys q))

giving_then : {A B C : Type 0} (f : A → B) (a : Answer A) (g : B → Does C) → then_do (giving f a) g ≡ then_do a (λ x. g (f x))
giving_then f (Gives x view) g = refl
giving_then f (Fails kind) g = refl
giving_then f Spent g = refl
giving_then f Amiss g = refl

module _ (m : Setting) (run : Run) (callers : List Caller) (free : halts m callers (m.stops Inner) ≡ false) (calls : Calls m run callers) (variables : Variables) (stack : List Value) (under : List Turning) where
  abbrev At : ℕ → List Value → View → State
  At a keys view = state a (pushed keys stack) (frame_of variables under) callers view

  abbrev value_of : CExpr → Does Value
  value_of = eval run m.scene variables

  -- after some steps, of which new ones are these
  abbrev After : List CStep → ℕ → List Value → List Step → Goal State (List Step)
  After steps z keys done path now u = (new : List Step) × (path ≡ done ++ new) × FitSteps steps new × (u ≡ At z (keys ++ path_keys path) now)

  -- from a on there is first what some indexes want, and then the rest
  record StepsRun (steps : List CStep) (rest : List CExpr) (a z : ℕ) : Type 0 where
    between : ℕ
    others : ExprsAt m.code.instrs rest between z
    runs : (keys : List Value) (done : List Step) (view : View) → Brings (step m) view.left (At a (keys ++ path_keys done) view)
        (After steps between keys done) (gathered done (map (step_at value_of) steps) view)

  key_added : (c : ℕ) (keys : List Value) (done : List Step) (k : Value) (view : View)
      → state c (k ∷ pushed (keys ++ path_keys done) stack) (frame_of variables under) callers view ≡ At c (keys ++ path_keys (done ++ by k ∷ [])) view
  key_added c keys done k view = ap (λ s. state c s (frame_of variables under) callers view)
      (sym (pushed_more (keys ++ path_keys done) k stack) ∙ ap (λ ks. pushed ks stack) (append_assoc keys (path_keys done) (k ∷ []) ∙ ap (λ ks. keys ++ ks) (sym (path_keys_on done (by k ∷ [])))))

  steps_run : (steps : List CStep) (rest : List CExpr) (a z : ℕ) → ExprsAt m.code.instrs (step_indexes steps ++ rest) a z → StepsRun steps rest a z
  steps_run [] rest a z h = record {
    between = a;
    others = h;
    runs = λ keys done view. brings_here (step m) view.left _ (After [] a keys done) done view (omega arith) ([], sym (append-nil done), fits_none, refl);
  }
  steps_run (into.Part n ∷ steps) rest a z h =
      let r = steps_run steps rest a z h in
      record {
        between = r.between;
        others = r.others;
        runs = λ keys done view.
            let same : path_keys (done ++ part n ∷ []) ≡ path_keys done = path_keys_on done (part n ∷ []) ∙ append-nil (path_keys done) in
            weaker (step m) view.left _ (After steps r.between keys (done ++ part n ∷ [])) (After (into.Part n ∷ steps) r.between keys done) _
            (λ path now u g. (part n ∷ g.0, g.1 ∙ append_assoc done (part n ∷ []) g.0, fits_part n steps g.0 g.2, g.3))
            (subst (λ ks. Brings (step m) view.left (At a (keys ++ ks) view) (After steps r.between keys (done ++ part n ∷ [])) (gathered (done ++ part n ∷ []) (map (step_at value_of) steps) view)) same
            (r.runs keys (done ++ part n ∷ []) view));
      }
  steps_run (into.Index e ∷ steps) rest _ _ (one_expression _ _ a c z h k) =
      let r = steps_run steps rest c z k in
      record {
        between = r.between;
        others = r.others;
        runs = λ keys done view.
            subst (Brings (step m) view.left (At a (keys ++ path_keys done) view) (After (into.Index e ∷ steps) r.between keys done))
            (sym (giving_then by (value_of e view) (λ s. gathered (done ++ s ∷ []) (map (step_at value_of) steps))))
            (just_brings (step m) view.left _ (on_stack c (pushed (keys ++ path_keys done) stack) (frame_of variables under) callers) (After (into.Index e ∷ steps) r.between keys done) (value_of e view)
            (λ k. gathered (done ++ by k ∷ []) (map (step_at value_of) steps))
            (expr_runs m run callers free calls variables e a c h (pushed (keys ++ path_keys done) stack) under view)
            (λ k now le. fewer (step m) now.left view.left _ (After (into.Index e ∷ steps) r.between keys done) _ le
            (weaker (step m) now.left _ (After steps r.between keys (done ++ by k ∷ [])) (After (into.Index e ∷ steps) r.between keys done) _
            (λ path new u g. (by k ∷ g.0, g.1 ∙ append_assoc done (by k ∷ []) g.0, fits_index e k steps g.0 g.2, g.3))
            (subst (λ u. Brings (step m) now.left u (After steps r.between keys (done ++ by k ∷ [])) (gathered (done ++ by k ∷ []) (map (step_at value_of) steps) now))
            (sym (key_added c keys done k now)) (r.runs keys (done ++ by k ∷ []) now)))));
      }

  -- after some targets
  abbrev Spotted : List CTarget → ℕ → List Spot → Goal State (List Spot)
  Spotted ts z done spots now u = (new : List Spot) × (spots ≡ done ++ new) × FitTargets ts new × (u ≡ At z (spots_keys spots) now)

  spot_added : (done : List Spot) (s : Spot) → spots_keys done ++ path_keys s.path ≡ spots_keys (done ++ s ∷ [])
  spot_added done s = ap (λ ks. spots_keys done ++ ks) (sym (append-nil (path_keys s.path))) ∙ sym (spots_keys_on done (s ∷ []))

  targets_gather : (ts : List CTarget) (a z : ℕ) → ExprsAt m.code.instrs (indexes_of ts) a z → (done : List Spot) (view : View)
      → Brings (step m) view.left (At a (spots_keys done) view) (Spotted ts z done) (gathered done (map (spot_of value_of) ts) view)
  targets_gather [] _ _ (no_expression a) done view = brings_here (step m) view.left _ (Spotted [] a done) done view (omega arith) ([], sym (append-nil done), no_spot, refl)
  targets_gather (t ∷ ts) a z h done view =
      let r = steps_run t.steps (indexes_of ts) a z h in
      let none : spots_keys done ≡ spots_keys done ++ [] = sym (append-nil (spots_keys done)) in
      subst (Brings (step m) view.left (At a (spots_keys done) view) (Spotted (t ∷ ts) z done))
      (sym (giving_then (spot_at t.slot) (in_turn (map (step_at value_of) t.steps) view) (λ s. gathered (done ++ s ∷ []) (map (spot_of value_of) ts))))
      (then_brings (step m) view.left _ (After t.steps r.between (spots_keys done) []) (Spotted (t ∷ ts) z done) (in_turn (map (step_at value_of) t.steps) view)
      (λ path. gathered (done ++ spot_at t.slot path ∷ []) (map (spot_of value_of) ts))
      (subst (λ ks. Brings (step m) view.left (At a ks view) (After t.steps r.between (spots_keys done) []) (in_turn (map (step_at value_of) t.steps) view)) (sym none) (r.runs (spots_keys done) [] view))
      (λ path now u le g. fewer (step m) now.left view.left _ (Spotted (t ∷ ts) z done) _ le
      (weaker (step m) now.left _ (Spotted ts z (done ++ spot_at t.slot path ∷ [])) (Spotted (t ∷ ts) z done) _
      (λ spots new v f. (spot_at t.slot path ∷ f.0, f.1 ∙ append_assoc done (spot_at t.slot path ∷ []) f.0, one_spot t ts path f.0 (subst (FitSteps t.steps) (sym g.1) g.2) f.2, f.3))
      (subst (λ u. Brings (step m) now.left u (Spotted ts z (done ++ spot_at t.slot path ∷ [])) (gathered (done ++ spot_at t.slot path ∷ []) (map (spot_of value_of) ts) now))
      (sym (g.3 ∙ ap (λ ks. At r.between ks now) (spot_added done (spot_at t.slot path))))
      (targets_gather ts r.between z r.others (done ++ spot_at t.slot path ∷ []) now)))))

  -- the indexes of the targets come on top
  pub targets_run : (ts : List CTarget) (a z : ℕ) → ExprsAt m.code.instrs (indexes_of ts) a z → (view : View)
      → Brings (step m) view.left (state a stack (frame_of variables under) callers view)
      (λ spots now u. FitTargets ts spots × (u ≡ state z (pushed (spots_keys spots) stack) (frame_of variables under) callers now)) (in_turn (map (spot_of value_of) ts) view)
  targets_run ts a z h view =
      weaker (step m) view.left _ (Spotted ts z []) (λ spots now u. FitTargets ts spots × (u ≡ At z (spots_keys spots) now)) _ (λ spots now u g. (subst (FitTargets ts) (sym g.1) g.2, g.3)) (targets_gather ts a z h [] view)

  ends_there : (a z : ℕ) → ExprsAt m.code.instrs [] a z → a ≡ z
  ends_there _ _ (no_expression a) = refl

  -- the indexes of one target
  pub target_runs : (t : CTarget) (a z : ℕ) → ExprsAt m.code.instrs (step_indexes t.steps) a z → (view : View)
      → Brings (step m) view.left (state a stack (frame_of variables under) callers view)
      (λ spot now u. FitTargets (t ∷ []) (spot ∷ []) × (u ≡ state z (pushed (path_keys spot.path) stack) (frame_of variables under) callers now)) (spot_of value_of t view)
  target_runs t a z h view =
      let r = steps_run t.steps [] a z (subst (λ es. ExprsAt m.code.instrs es a z) (sym (append-nil (step_indexes t.steps))) h) in
      then_brings (step m) view.left _ (After t.steps r.between [] [])
      (λ spot now u. FitTargets (t ∷ []) (spot ∷ []) × (u ≡ state z (pushed (path_keys spot.path) stack) (frame_of variables under) callers now))
      (in_turn (map (step_at value_of) t.steps) view) (λ path. gives (spot_at t.slot path))
      (r.runs [] [] view)
      (λ path now u le g. brings_here (step m) view.left u
      (λ spot now u. FitTargets (t ∷ []) (spot ∷ []) × (u ≡ state z (pushed (path_keys spot.path) stack) (frame_of variables under) callers now))
      (spot_at t.slot path) now le
      (one_spot t [] path [] (subst (FitSteps t.steps) (sym g.1) g.2) no_spot, g.3 ∙ ap (λ a. At a (path_keys path) now) (ends_there r.between z r.others)))
