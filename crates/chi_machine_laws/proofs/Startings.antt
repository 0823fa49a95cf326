-- What a list of elements starts within a step: a law by recursion on its code.
use Rattle.std.proofs.Common.{◌≡◌, ℕ, zero, suc, ◌+◌, ◌≤◌, List, [], ◌∷◌, ◌++◌, map, length, Option, Some, None, Bool, true, false, cond, refl, sym, ap, subst, ◌∙◌, arith}
use Rattle.std.proofs.lemmas.List.{append-nil}
use Rattle.std.specs.Prelude.{slice_get, nat_eq, nat_lt}
use Rattle.std.specs.Option.{option_and_then}
use Rattle.chi_types.specs.declared.ty.Ty.{Ty}
use Rattle.chi_value.specs.declared.value.Value.{Value}
use Rattle.chi_value.specs.declared.value.Value.TheVariants as value
use Rattle.chi_core.specs.declared.element.CElem.{CElem, CElem-F, out-CElem, roll-CElem, roll-out-CElem}
use Rattle.chi_core.specs.declared.element.CElem.TheVariants as element
use Rattle.chi_core.specs.declared.expression.CExpr.{CExpr}
use Rattle.chi_core.specs.declared.fault.FaultKind.TheVariants.{TooManyInstances}
use Rattle.chi_core.specs.declared.limits.TheConstants.{MOST_INSTANCES}
use Rattle.chi_core.specs.declared.program.Core.{Core}
use Rattle.chi_core.specs.declared.program.ProcDef.{ProcDef}
use Rattle.chi_core.specs.declared.statement.CStat.{CStat}
use Rattle.chi_core.specs.declared.target.CTarget.{CTarget}
use Rattle.chi_core.specs.declared.view.View.{View}
use Rattle.chi_core.specs.Answer.{Answer, Gives, Fails, Spent, Amiss, Does, then_do, gives, wanted, giving, through}
use Rattle.chi_core.specs.Config.{Instance, new_instance, settled}
use Rattle.chi_core.specs.Evaluation.{Run, eval, Evaluates}
use Rattle.chi_core.specs.Reading.{elements_of}
use Rattle.chi_core.specs.Spots.{Spot, spot_of}
use Rattle.chi_core.specs.Starting as starting
use Rattle.chi_core.specs.Starting.{Started, taking, started_by, numbered, made_by, Starts, told_at, makes, unwound, starts}
use Rattle.chi_core.specs.Terms.{Do}
use Rattle.chi_core.specs.Variables.{Variables, variables_of, bound}
use Rattle.chi_core.proofs.Started.{starts_make, starts_unwind}
use Rattle.chi_core.proofs.Used as used
use Rattle.chi_core.proofs.Used.{uses-wanted}
use Rattle.chi_core.proofs.UsedByTerms.{uses-store}
use Rattle.chi_code.specs.declared.code.Code.{Code}
use Rattle.chi_code.specs.declared.code.Entry.{Entry}
use Rattle.chi_code.specs.declared.instr.Instr.{Instr}
use Rattle.chi_code.specs.declared.instr.Instr.TheVariants as i
use Rattle.chi_code.specs.Aims.{aim_of, some_aim, some_indexes}
use Rattle.chi_code.specs.Codes.{in_process, ProcsAt, no_process, one_process, process_entry}
use Rattle.chi_code.specs.ExpressionLayout.{Has, ExprsAt, no_expression}
use Rattle.chi_code.specs.StatementLayout.{BlockAt, no_statement, one_statement, ElemAt, makes as makes_here, unwinds_elements, ElemsAt, no_element, one_element}
use Rattle.chi_exec_law.specs.Runs.{Goal, Just, Brings}
use Rattle.chi_exec_law.specs.State.{Turning, Walking, State, state, frame_of, on_stack, pushed}
use Rattle.chi_exec_law.specs.Instructions.{index_count, spots_from}
use Rattle.chi_exec_law.specs.Machine.{step}
use Rattle.chi_exec_law.specs.Standing.{TermAt, here, ReadyAt, over, does}
use Rattle.chi_exec_law.specs.Laws.{Calls, All}
use Rattle.chi_exec_law.proofs.Going.{leads_step, after, then_brings, just_brings, fewer, brings_here, taken_brings}
use Rattle.chi_exec_law.proofs.Moving.{many, acts}
use Rattle.chi_exec_law.proofs.Expressions.{expr_runs, exprs_run}
use Rattle.chi_exec_law.proofs.Standing.{block_term}
use Rattle.chi_exec_law.proofs.Targets.{path_keys, spots_keys, FitTargets, no_spot, spots_back, keys_counted, target_runs}
use Rattle.chi_machine_laws.specs.Instances.{Held}
use Rattle.chi_machine_laws.specs.Deeds.{Brought, Within, setting, held_of, told, aims_of, spot_in, makes_at, make_on, moves}
use Rattle.chi_machine_laws.specs.Parts.{News as NewsAt, Made as MadeAt, made_so}
use Rattle.chi_machine_laws.specs.Stands.{InstanceAt}
use Rattle.chi_machine_laws.proofs.Going.{lift, beside, first, deed_brings}
use Rattle.chi_machine_laws.proofs.Pairs.{pairs_end}
use Rattle.chi_machine_laws.proofs.Standing.{ready_instance}

makes_by : (e : CElem) (target : Option CTarget) (process : ℕ) (arguments : List CExpr) → out-CElem e ≡ CElem-F.Make target process arguments → e ≡ element.Make target process arguments
makes_by e target process arguments h = sym (roll-out-CElem e) ∙ ap roll-CElem h ∙ element.rolls-Make target process arguments

unwinds_by : (e : CElem) (slots : List ℕ) (container : CExpr) (elements : List CElem) → out-CElem e ≡ CElem-F.Unwind slots container elements → e ≡ element.Unwind slots container elements
unwinds_by e slots container elements h = sym (roll-out-CElem e) ∙ ap roll-CElem h ∙ element.rolls-Unwind slots container elements

-- the process of a number, in the core and in the code
pub data Found (code : List Instr) (ds : List ProcDef) (entries : List Entry) (k : ℕ) : Type 0 where
  none_there : slice_get ds k ≡ None → Found code ds entries k
  found : (d : ProcDef) (a b : ℕ) → slice_get ds k ≡ Some d → slice_get entries k ≡ Some (process_entry d a) → BlockAt code in_process d.slots [] d.body a b → Has code b i.Done → Found code ds entries k

pub find : (code : List Instr) (ds : List ProcDef) (entries : List Entry) (k a z : ℕ) → ProcsAt code ds entries a z → Found code ds entries k
find code _ _ k _ _ (no_process a) = none_there refl
find code _ _ zero _ _ (one_process d ds entries a b c h e hs) = found d a b refl refl h e
find code _ _ (suc k) _ _ (one_process d ds entries a b c h e hs) = next (find code ds entries k (b + 1) c hs)
  where
    next : Found code ds entries k → Found code (d ∷ ds) (process_entry d a ∷ entries) (suc k)
    next (none_there h) = none_there h
    next (found g p q is at h e) = found g p q is at h e

-- a new instance stands where its process begins
new_ready : (code : List Instr) (slots : List Ty) (body : List CStat) (a z : ℕ) → BlockAt code in_process slots [] body a z → Has code z i.Done → ReadyAt code in_process slots i.Done [] [] (map Do body) a
new_ready code slots _ _ _ (no_statement _ a) e = over a e
new_ready code slots _ _ _ (one_statement _ x xs a b z h k) e =
    does [] [] x (map Do xs) a b h
    (subst (λ u. TermAt code in_process slots i.Done [] [] u b) (append-nil (map Do xs)) (block_term code in_process slots i.Done [] [] xs [] b z k (here [] [] [] z (over z e))))

pub new_stands : (core : Core) (code : Code) (k : ℕ) (d : ProcDef) (a b : ℕ) (xs : List Value) → slice_get core.procs k ≡ Some d → BlockAt code.instrs in_process d.slots [] d.body a b → Has code.instrs b i.Done
    → InstanceAt core code (settled (new_instance k d xs)) (held_of code k (process_entry d a) xs)
new_stands core code k d a b xs is at last =
    ready_instance core code d k is k refl (variables_of (length d.slots) xs) (variables_of (length d.slots) xs) refl [] [] (map Do d.body) a (new_ready code.instrs d.slots d.body a b at last)

-- the target, as a list
abbrev targets_of : Option CTarget → List CTarget
targets_of None = []
targets_of (Some t) = t ∷ []

aims_are : (target : Option CTarget) → aims_of (some_aim target) ≡ map aim_of (targets_of target)
aims_are None = refl
aims_are (Some t) = refl

uses-numbered : used.Uses numbered
uses-numbered view = used.within-if (nat_lt view.instances MOST_INSTANCES) view.left (Gives view.instances (record view { instances = view.instances + 1 })) (Fails TooManyInstances) (omega arith) tt

uses-told : (spot : Option Spot) (number : ℕ) (variables : Variables) → used.Uses (told spot number variables)
uses-told None number variables view = omega arith
uses-told (Some spot) number variables view = uses-store (spot, value.Inst (Some number)) variables view

told_is : (spot : Option Spot) (number : ℕ) (s : Started) (view : View) → starting.told spot number s view ≡ giving (λ variables. record s { variables = variables }) (told spot number s.variables view)
told_is None number s view = refl
told_is (Some spot) number s view = refl

through_same : {X S : Type 0} (g : X → S → Does S) (xs : List X) → through (λ f. f) (map g xs) ≡ through g xs
through_same g [] = refl
through_same g (x ∷ xs) = λ j s v. then_do (g x s v) (through_same g xs j)

made_is : (process : ℕ) (d : ProcDef) (xs : List Value) (spot : Option Spot) (s : Started) (view : View) → made_by process d xs spot s view
    ≡ giving (λ variables. record { variables = variables; made = s.made ++ new_instance process d xs ∷ [] }) (then_do (numbered view) (λ number. told spot number s.variables))
unfolding made_by
made_is process d xs spot s view = by_number (numbered view)
  where
    by_number : (o : Answer ℕ) → then_do o (λ number. starting.told spot number (record s { made = s.made ++ new_instance process d xs ∷ [] }))
        ≡ giving (λ variables. record { variables = variables; made = s.made ++ new_instance process d xs ∷ [] }) (then_do o (λ number. told spot number s.variables))
    by_number (Gives number now) = told_is spot number (record s { made = s.made ++ new_instance process d xs ∷ [] }) now
    by_number (Fails kind) = refl
    by_number Spent = refl
    by_number Amiss = refl

module _ (core : Core) (w : Within) (run : Run) (calls : Calls (setting w) run []) (from upto : ℕ) (procs : ProcsAt w.code.instrs core.procs w.code.procs from upto) where
  abbrev code : List Instr
  code = w.code.instrs

  abbrev value_in : Variables → Evaluates
  value_in variables = eval run w.scene variables

  abbrev brought : List Held → Brought
  brought hs = record { offers = []; made = hs; text = [] }

  abbrev Bare : ℕ → List Value → Variables → List Turning → View → State
  Bare a values variables under view = state a values (frame_of variables under) [] view

  -- the machine stands at a place, with what it made so far
  abbrev At : ℕ → Variables → List Turning → List Held → View → State × Brought
  At a variables under hs view = (Bare a [] variables under view, brought hs)

  abbrev News : List Instance → List Held → Type 0
  News = NewsAt core w.code

  abbrev started : Variables → List Instance → Started
  started variables made = record { variables = variables; made = made }

  abbrev Made : ℕ → List Turning → Goal (State × Brought) Started
  Made = MadeAt core w

  pub made_brings : {B : Type 0} (most : ℕ) (s : State × Brought) (z : ℕ) (under : List Turning) (aim : Goal (State × Brought) B) (a : Answer Started) (go : Started → Does B) → Brings (moves w) most s (Made z under) a
      → ((variables : Variables) (made : List Instance) (hs : List Held) → News made hs → (view : View) → view.left ≤ most → Brings (moves w) most (At z variables under hs view) aim (go (started variables made) view))
      → Brings (moves w) most s aim (then_do a go)
  made_brings {B} most s z under aim a go r k = then_brings (moves w) most s (Made z under) aim a go r each
    where
      each : (o : Started) (view : View) (u : State × Brought) → view.left ≤ most → Made z under o view u → Brings (moves w) most u aim (go o view)
      each _ _ _ le (made_so variables made hs view all) = k variables made hs all view le

  abbrev Starts_here : ℕ → ℕ → (Started → Does Started) → Type 0
  Starts_here a z f = (under : List Turning) (variables : Variables) (made : List Instance) (hs : List Held) → News made hs → (view : View)
      → Brings (moves w) view.left (At a variables under hs view) (Made z under) (f (started variables made) view)

  -- the indexes of the target come on top
  abbrev Aimed : Option CTarget → ℕ → List Value → Variables → List Turning → Brought → Goal (State × Brought) (Option Spot)
  Aimed target c stack variables under b spot now u =
      (spots : List Spot) × FitTargets (targets_of target) spots × (spot ≡ spot_in spots) × (u ≡ (Bare c (pushed (spots_keys spots) stack) variables under now, b))

  aim_runs : (target : Option CTarget) (b c : ℕ) → ExprsAt code (some_indexes target) b c → (stack : List Value) (variables : Variables) (under : List Turning) (so : Brought) (view : View)
      → Brings (moves w) view.left (Bare b stack variables under view, so) (Aimed target c stack variables under so) (told_at value_in core.procs variables target view)
  unfolding told_at
  aim_runs None _ _ (no_expression a) stack variables under so view = brings_here (moves w) view.left _ (Aimed None a stack variables under so) None view (omega arith) ([], no_spot, refl, refl)
  aim_runs (Some t) b c h stack variables under so view =
      then_brings (moves w) view.left (Bare b stack variables under view, so)
      (λ spot now u. (FitTargets (t ∷ []) (spot ∷ []) × (u.0 ≡ Bare c (pushed (path_keys spot.path) stack) variables under now)) × (u.1 ≡ so))
      (Aimed (Some t) c stack variables under so) (spot_of (value_in variables) t view) (λ x. gives (Some x))
      (beside w view.left (Bare b stack variables under view) so
      (λ spot now u. FitTargets (t ∷ []) (spot ∷ []) × (u ≡ Bare c (pushed (path_keys spot.path) stack) variables under now)) (spot_of (value_in variables) t view)
      (target_runs (setting w) run [] refl calls variables stack under t b c h view))
      (λ x now u le g. brings_here (moves w) view.left u (Aimed (Some t) c stack variables under so) (Some x) now le (x ∷ [], g.0.0, refl, there x now u g.0.1 g.1))
    where
      there : (x : Spot) (now : View) (u : State × Brought) → u.0 ≡ Bare c (pushed (path_keys x.path) stack) variables under now → u.1 ≡ so
          → u ≡ (Bare c (pushed (spots_keys (x ∷ [])) stack) variables under now, so)
      there x now u p q = λ j. ((p ∙ ap (λ ks. Bare c (pushed ks stack) variables under now) (sym (append-nil (path_keys x.path)))) j, q j)

  -- the new instance, and its target
  make_runs : (target : Option CTarget) (k : ℕ) (c : ℕ) → Has code c (i.Make k (some_aim target)) → (under : List Turning) (variables : Variables) (made : List Instance) (hs : List Held) → News made hs
      → (xs : List Value) (spots : List Spot) → FitTargets (targets_of target) spots → (most : ℕ) (view : View) → view.left ≤ most
      → Brings (moves w) most (Bare c (pushed (spots_keys spots) (pushed xs [])) variables under view, brought hs) (Made (c + 1) under)
      (then_do (wanted (started_by core.procs k (length xs)) view) (λ d. made_by k d xs (spot_in spots) (started variables made)))
  make_runs target k c h under variables made hs all xs spots fits most view le = by_found (find code core.procs w.code.procs k from upto procs)
    where
      Here : State
      Here = Bare c (pushed (spots_keys spots) (pushed xs [])) variables under view

      Makes : Option ProcDef → Type 0
      Makes o = Brings (moves w) most (Bare c (pushed (spots_keys spots) (pushed xs [])) variables under view, brought hs) (Made (c + 1) under)
          (then_do (wanted o view) (λ d. made_by k d xs (spot_in spots) (started variables made)))

      by_arity : (d : ProcDef) (a b : ℕ) → slice_get core.procs k ≡ Some d → slice_get w.code.procs k ≡ Some (process_entry d a) → BlockAt code in_process d.slots [] d.body a b → Has code b i.Done
          → (t : Bool) → nat_eq (length xs) (length d.params) ≡ t → Makes (cond t (Some d) None)
      by_arity d a b is entry at last false e = tt
      by_arity d a b is entry at last true e =
          let same : length xs ≡ length d.params = grind arith in
          let new : Held = held_of w.code k (process_entry d a) xs in
          let s : State = Bare c (pushed (spots_keys spots) (pushed xs [])) variables under view in
          let t : Variables → View → State × Brought = λ afterwards now. At (c + 1) afterwards under (hs ++ new ∷ []) now in
          subst (Brings (moves w) most (s, brought hs) (Made (c + 1) under)) (sym (made_is k d xs (spot_in spots) (started variables made) view))
          (just_brings (moves w) most (s, brought hs) t (Made (c + 1) under) (then_do (numbered view) (λ number. told (spot_in spots) number variables))
          (λ afterwards. gives (started afterwards (made ++ new_instance k d xs ∷ [])))
          (deed_brings w (i.Make k (some_aim target)) c (pushed (spots_keys spots) (pushed xs [])) (frame_of variables under) view h refl most (brought hs) t
          (then_do (numbered view) (λ number. told (spot_in spots) number variables))
          (used.within-less view.left most le _ (used.within-then view.left (numbered view) (λ number. told (spot_in spots) number variables) (uses-numbered view) (λ number. uses-told (spot_in spots) number variables)))
          (ap (λ o. make_on w.code k (aims_of (some_aim target)) o s (brought hs)) entry
          ∙ ap (λ aims. make_on w.code k aims (Some (process_entry d a)) s (brought hs)) (aims_are target)
          ∙ many (spots_keys spots) (pushed xs []) [] (index_count (map aim_of (targets_of target))) 0 _ (omega (arith, keys_counted (targets_of target) spots fits))
          ∙ many xs [] [] (length d.params) 0 _ (omega (arith, same))
          ∙ (λ j. makes_at (held_of w.code k (process_entry d a) (append-nil xs j)) (spots_from (map aim_of (targets_of target)) (append-nil (spots_keys spots) j)) s [] (brought hs))
          ∙ ap (λ o. makes_at new o s [] (brought hs)) (spots_back (targets_of target) spots fits)))
          (λ afterwards now le'. brings_here (moves w) most _ (Made (c + 1) under) _ now le' (made_so afterwards (made ++ new_instance k d xs ∷ []) (hs ++ new ∷ []) now
          (pairs_end (λ p h. InstanceAt core w.code (settled p) h) made hs (new_instance k d xs) new all (new_stands core w.code k d a b xs is at last)))))

      by_found : Found code core.procs w.code.procs k → Makes (started_by core.procs k (length xs))
      by_found (none_there e) = subst (λ o. Makes (option_and_then (taking (length xs)) o)) (sym e) tt
      by_found (found d a b p q at last) = subst (λ o. Makes (option_and_then (taking (length xs)) o)) (sym p) (by_arity d a b p q at last (nat_eq (length xs) (length d.params)) refl)

  making : (target : Option CTarget) (k : ℕ) (es : List CExpr) (a b c : ℕ) → ExprsAt code es a b → ExprsAt code (some_indexes target) b c → Has code c (i.Make k (some_aim target)) → Starts_here a (c + 1) (makes value_in core.procs target k es)
  unfolding makes
  making target k es a b c h j l under variables made hs all view =
      then_brings (moves w) view.left _ (λ xs now u. All (length es) b [] (frame_of variables under) [] xs now u.0 × (u.1 ≡ brought hs)) (Made (c + 1) under) _ after_values
      (beside w view.left _ (brought hs) (All (length es) b [] (frame_of variables under) []) _ (exprs_run (setting w) run [] refl calls variables es a b h [] under view))
      (λ xs now u le g. moved xs now u (both u (Bare b (pushed xs []) variables under now) g.0.1 g.1)
      (fewer (moves w) now.left view.left _ (Made (c + 1) under) _ le
      (then_brings (moves w) now.left _ (Aimed target c (pushed xs []) variables under (brought hs)) (Made (c + 1) under) _ (last xs)
      (aim_runs target b c j (pushed xs []) variables under (brought hs) now)
      (λ spot new v le' g. subst (λ v. Brings (moves w) now.left v (Made (c + 1) under) (last xs spot new)) (sym g.3)
      (subst (λ spot. Brings (moves w) now.left (Bare c (pushed (spots_keys g.0) (pushed xs [])) variables under new, brought hs) (Made (c + 1) under) (last xs spot new)) (sym g.2)
      (make_runs target k c l under variables made hs all xs g.0 g.1 now.left new le'))))))
    where
      last : List Value → Option Spot → Does Started
      last xs spot new = then_do (wanted (started_by core.procs k (length xs)) new) (λ d. made_by k d xs spot (started variables made))

      after_values : List Value → Does Started
      after_values xs now = then_do (told_at value_in core.procs variables target now) (last xs)

      both : (u : State × Brought) (s : State) → u.0 ≡ s → u.1 ≡ brought hs → u ≡ (s, brought hs)
      both u s p q = λ j. (p j, q j)

      moved : (xs : List Value) (now : View) (u : State × Brought) → u ≡ (Bare b (pushed xs []) variables under now, brought hs)
          → Brings (moves w) view.left (Bare b (pushed xs []) variables under now, brought hs) (Made (c + 1) under) (after_values xs now) → Brings (moves w) view.left u (Made (c + 1) under) (after_values xs now)
      moved xs now u p r = subst (λ u. Brings (moves w) view.left u (Made (c + 1) under) (after_values xs now)) (sym p) r

  -- once for each element
  module _ (own : List ℕ) (a c : ℕ) (elements : List (Starts value_in core.procs)) (next : Has code a (i.Next (c + 1) own)) (jump : Has code c (i.Jump a))
      (inner : Starts_here (a + 1) c (through (λ starts. starts) elements)) where
    rounds : (xs : List Value) (under : List Turning) (variables : Variables) (made : List Instance) (hs : List Held) → News made hs → (view : View)
        → Brings (moves w) view.left (At a variables (Walking xs ∷ under) hs view) (Made (c + 1) under) (through (unwound value_in core.procs own elements) xs (started variables made) view)
    rounds [] under variables made hs all view =
        after (moves w) view.left _ (At (c + 1) variables under hs view) (Made (c + 1) under) (Gives (started variables made) view)
        (lift w _ _ (brought hs) (leads_step (step (setting w)) _ _ (acts (setting w) (i.Next (c + 1) own) a [] (frame_of variables (Walking [] ∷ under)) [] view next refl)))
        (brings_here (moves w) view.left _ (Made (c + 1) under) _ view (omega arith) (made_so variables made hs view all))
    rounds (x ∷ xs) under variables made hs all view =
        made_brings view.left _ c (Walking xs ∷ under) (Made (c + 1) under) _ (through (unwound value_in core.procs own elements) xs)
        (first w view.left _ (brought hs) (λ after now. Bare (a + 1) [] after (Walking xs ∷ under) now) (Made c (Walking xs ∷ under)) (wanted (bound own x variables) view)
        (λ after. through (λ starts. starts) elements (started after made))
        (taken_brings (step (setting w)) view.left _ (λ after now. Bare (a + 1) [] after (Walking xs ∷ under) now) _ (uses-wanted (bound own x variables) view)
        (acts (setting w) (i.Next (c + 1) own) a [] (frame_of variables (Walking (x ∷ xs) ∷ under)) [] view next refl))
        (λ after now le. fewer (moves w) now.left view.left _ (Made c (Walking xs ∷ under)) _ le (inner (Walking xs ∷ under) after made hs all now)))
        (λ afterwards made' hs' all' now le.
        after (moves w) view.left _ (At a afterwards (Walking xs ∷ under) hs' now) (Made (c + 1) under) (through (unwound value_in core.procs own elements) xs (started afterwards made') now)
        (lift w _ _ (brought hs') (leads_step (step (setting w)) _ _ (acts (setting w) (i.Jump a) c [] (frame_of afterwards (Walking xs ∷ under)) [] now jump refl)))
        (fewer (moves w) now.left view.left _ (Made (c + 1) under) _ le (rounds xs under afterwards made' hs' all' now)))

  mutual
    pub elems_run : (xs : List CElem) (a z : ℕ) → ElemsAt code xs a z → Starts_here a z (through (starts value_in core.procs) xs)
    elems_run _ _ _ (no_element a) under variables made hs all view = brings_here (moves w) view.left _ (Made a under) _ view (omega arith) (made_so variables made hs view all)
    elems_run _ _ _ (one_element x xs a c z h k) under variables made hs all view =
        made_brings view.left _ c under (Made z under) _ (through (starts value_in core.procs) xs)
        (elem_runs x (out-CElem x) refl a c h under variables made hs all view)
        (λ after made' hs' all' now le. fewer (moves w) now.left view.left _ (Made z under) _ le (elems_run xs c z k under after made' hs' all' now))

    elem_runs : (x : CElem) (o : CElem-F CElem) → out-CElem x ≡ o → (a z : ℕ) → ElemAt code o a z → Starts_here a z (starts value_in core.procs x)
    elem_runs x _ e _ _ (makes_here target k es a b c h j l) under variables made hs all view =
        subst (Brings (moves w) view.left _ (Made (c + 1) under)) (sym (starts_make value_in core.procs _ view x target k es (makes_by x target k es e)))
        (making target k es a b c h j l under variables made hs all view)
    elem_runs x _ is _ _ (unwinds_elements own e elements a d' d h v n l j) under variables made hs all view =
        subst (Brings (moves w) view.left _ (Made (d + 1) under)) (sym (starts_unwind value_in core.procs _ view x own e elements (unwinds_by x own e elements is)))
        (first w view.left _ (brought hs) (on_stack d' [] (frame_of variables under) []) (Made (d + 1) under) (value_in variables e view)
        (λ x now. then_do (wanted (elements_of x) now) (λ xs. through (unwound value_in core.procs own (map (starts value_in core.procs) elements)) xs (started variables made)))
        (expr_runs (setting w) run [] refl calls variables e a d' h [] under view)
        (λ x now le. first w view.left _ (brought hs) (λ xs new. Bare (d' + 1) [] variables (Walking xs ∷ under) new) (Made (d + 1) under) (wanted (elements_of x) now)
        (λ xs. through (unwound value_in core.procs own (map (starts value_in core.procs) elements)) xs (started variables made))
        (fewer (step (setting w)) now.left view.left _ (Just (λ xs new. Bare (d' + 1) [] variables (Walking xs ∷ under) new)) _ le
        (taken_brings (step (setting w)) now.left _ (λ xs new. Bare (d' + 1) [] variables (Walking xs ∷ under) new) _ (uses-wanted (elements_of x) now)
        (acts (setting w) i.Walk d' (x ∷ []) (frame_of variables under) [] now v refl)))
        (λ xs new le'. fewer (moves w) new.left view.left _ (Made (d + 1) under) _ le'
        (rounds own (d' + 1) d (map (starts value_in core.procs) elements) n j (subst (Starts_here (d' + 1 + 1) d) (sym (through_same (starts value_in core.procs) elements)) (elems_run elements (d' + 1 + 1) d l)) xs under variables made hs all new))))
