-- The code of expressions brings their values.
use Rattle.std.proofs.Common.{◌≡◌, ◌⊎◌, inl, inr, ℕ, zero, suc, ◌+◌, List, [], ◌∷◌, ◌++◌, map, length, length-append, append_assoc, Option, Some, None, Bool, true, false, cond, refl, sym, ap, subst, ◌∙◌, arith}
use Rattle.std.proofs.lemmas.List.{append-nil}
use Rattle.std.specs.Prelude.{option_map, slice_get, pos, negsuc, nat_le}
use Rattle.chi_value.specs.declared.value.Value.{Value, Value-F, out-Value}
use Rattle.chi_value.specs.declared.value.Value.TheVariants as value
use Rattle.chi_value.specs.declared.value.TheConstants.{MOST_ELEMENTS}
use Rattle.chi_ops.specs.Operations.{build}
use Rattle.chi_ops.specs.Sequences.{insert_at, index, byte_text}
use Rattle.chi_ops.specs.Operations.{lookup}
use Rattle.chi_sets.specs.Dictionaries.{value_at as dict_at}
use Rattle.chi_ops.specs.Conditions.{may_index, may_lookup}
use Rattle.chi_ops.specs.Outcome.{where_may, wrong, gives_or, index_fault, key_fault}
use Rattle.chi_ops.specs.Places.{at_place}
use Rattle.chi_core.specs.declared.fault.FaultKind.TheVariants.{TooLarge}
use Rattle.chi_core.specs.declared.op_name.OpName.{OpName}
use Rattle.chi_core.specs.declared.op_name.OpName.TheVariants as op
use Rattle.chi_core.specs.Arithmetic.{on_int}
use Rattle.chi_core.specs.Spots.{element_by}
use Rattle.chi_core.specs.declared.expression.CExpr.{CExpr, CExpr-F, out-CExpr, map-CExpr}
use Rattle.chi_core.specs.declared.scene.Scene.{Scene}
use Rattle.chi_core.specs.declared.view.View.{View}
use Rattle.chi_core.specs.Answer.{Gives, Fails, Amiss, Does, then_do, gives, wanted, giving, gathered, in_turn, gathered_times, times}
use Rattle.chi_core.specs.Containers.{done}
use Rattle.chi_core.specs.Operators.{applied}
use Rattle.chi_core.specs.Reading.{truth_of, part_of, elements_in, elements_of}
use Rattle.chi_core.specs.Variables.{Variables, value_at}
use Rattle.chi_core.specs.Evaluation.{Run, eval, eval_step, on_truth, fresh, repeated, place_before, inserted}
use Rattle.chi_core.proofs.Equations.{eval_out}
use Rattle.chi_code.specs.declared.instr.Instr.TheVariants as i
use Rattle.chi_code.specs.ExpressionLayout.{Has, ExprAt, literal, variable, constant, operation, both, either, container, part, call, insertion, fresh as fresh_at, repetition, ExprsAt, no_expression, one_expression}
use Rattle.chi_core.proofs.Used.{Within, Uses, uses-wanted}
use Rattle.chi_core.proofs.UsedByOperators.{uses-done, uses-applied}
use Rattle.chi_core.proofs.UsedByExpressions.{uses-fresh}
use Rattle.chi_core.proofs.UsedByTerms.{uses-element_by}
use Rattle.chi_exec_law.specs.Runs.{taken, Goal, Just, Brings}
use Rattle.chi_exec_law.specs.State.{Turning, Scanning, Repeating, Caller, State, state, frame_of, on_stack, pushed}
use Rattle.chi_exec_law.specs.Instructions.{item_in, probed, count_in, key_or}
use Rattle.chi_exec_law.specs.Machine.{Inner, Setting, halts, step}
use Rattle.chi_exec_law.specs.Laws.{All, Calls}
use Rattle.chi_exec_law.proofs.Going.{leads_on, leads_step, after, then_brings, just_brings, fewer, brings_here, taken_brings, truth_brings, either_brings}
use Rattle.chi_exec_law.proofs.Moving.{pushed_more, many, acts}

-- the forms of the meaning in which the machine does it

list_in : Value-F Value → Option (List Value)
list_in (Value-F.ListOf items) = Some items
list_in _ = None

list_has : (o : Value-F Value) (items : List Value) → list_in o ≡ Some items → elements_in o ≡ Some items
unfolding list_in
list_has (Value-F.ListOf l) items e = e
list_has _ items e = absurd (cc)

inserted_is : (run : Run) (k : ℕ) (xs x : Value) (o : Value-F Value) (view : View) → inserted run k xs x o view
    ≡ then_do (wanted (list_in o) view) (λ items now. then_do (place_before (λ y. run k (x ∷ y ∷ [])) items now) (λ place. done (insert_at xs place x)))
unfolding list_in
inserted_is run k xs x (Value-F.ListOf items) view = refl
inserted_is run k xs x _ view = refl

repeated_is : (each : Does Value) (o : Value-F Value) (view : View) → repeated each o view ≡ then_do (count_in o view) (λ n now. giving value.ListOf (times n each now))
repeated_is each (Value-F.Int (pos count)) view = by_size (nat_le count MOST_ELEMENTS)
  where
    by_size : (b : Bool) → cond b (giving value.ListOf (times count each view)) (Fails TooLarge) ≡ then_do (cond b (Gives count view) (Fails TooLarge)) (λ n now. giving value.ListOf (times n each now))
    by_size true = refl
    by_size false = refl
repeated_is each (Value-F.Int (negsuc n)) view = refl
repeated_is each _ view = refl

get_at : (front : List Value) (y : Value) (ys : List Value) → slice_get (front ++ y ∷ ys) (length front) ≡ Some y
get_at [] y ys = refl
get_at (x ∷ front) y ys = get_at front y ys

get_end : (front : List Value) → slice_get (front ++ []) (length front) ≡ None
get_end [] = refl
get_end (x ∷ front) = get_end front

-- where an operator has its meaning, the machine's way of an index or a key is the same
on_dict : (b : Bool) (view : View) → done (where_may b wrong) view ≡ Amiss
on_dict true view = refl
on_dict false view = refl

index_agrees : (v k : Value) (x y : Value-F Value) → out-Value v ≡ x → out-Value k ≡ y → (view : View) → (on_int (λ n. done (index v n)) y view ≡ Amiss) ⊎ (element_by v x k y view ≡ on_int (λ n. done (index v n)) y view)
index_agrees v k (Value-F.DictOf items) (Value-F.Int n) e f view = inl (ap (λ o. done (where_may (may_index v n) (elim o [ Value-F.ListOf items ↦ gives_or index_fault (at_place items n) | Value-F.Text bytes ↦ gives_or index_fault (option_map byte_text (at_place bytes n)) | _ ↦ wrong ])) view) e ∙ on_dict (may_index v n) view)
index_agrees v k (Value-F.DictOf items) _ e f view = inl refl
index_agrees v k _ (Value-F.Int n) e f view = inr refl
index_agrees v k _ _ e f view = inl refl

lookup_agrees : (v k : Value) (x y : Value-F Value) → out-Value v ≡ x → (view : View) → (done (lookup v k) view ≡ Amiss) ⊎ (element_by v x k y view ≡ done (lookup v k) view)
lookup_agrees v k (Value-F.DictOf items) y e view = inr refl
lookup_agrees v k x y e view = inl (ap (λ o. done (where_may (may_lookup v k) (elim o [ Value-F.DictOf items ↦ gives_or key_fault (dict_at items k) | _ ↦ wrong ])) view) e ∙ on_dict (may_lookup v k) view)

agrees : (scene : Scene) (name : OpName) (xs : List Value) (view : View) → (applied scene name xs view ≡ Amiss) ⊎ (key_or name xs (applied scene name xs) view ≡ applied scene name xs view)
agrees scene op.Index (v ∷ k ∷ []) view = index_agrees v k (out-Value v) (out-Value k) refl refl view
agrees scene op.Lookup (v ∷ k ∷ []) view = lookup_agrees v k (out-Value v) (out-Value k) refl view
agrees scene name xs view = inr refl

uses-key_or : (scene : Scene) (name : OpName) (xs : List Value) → Uses (key_or name xs (applied scene name xs))
uses-key_or scene op.Index (v ∷ k ∷ []) = uses-element_by v (out-Value v) k (out-Value k)
uses-key_or scene op.Lookup (v ∷ k ∷ []) = uses-element_by v (out-Value v) k (out-Value k)
uses-key_or scene name xs = uses-applied scene name xs

uses-count : (o : Value-F Value) → Uses (count_in o)
uses-count (Value-F.Int (pos count)) view = by_size (nat_le count MOST_ELEMENTS)
  where
    by_size : (b : Bool) → Within view.left (cond b (Gives count view) (Fails TooLarge))
    by_size true = omega arith
    by_size false = tt
uses-count (Value-F.Int (negsuc n)) view = tt
uses-count _ view = tt

module _ (m : Setting) where
  module _ (run : Run) (callers : List Caller) (free : halts m callers (m.stops Inner) ≡ false) (calls : Calls m run callers) (variables : Variables) where
    abbrev At : ℕ → List Value → List Turning → View → State
    At a stack under view = state a stack (frame_of variables under) callers view

    abbrev ValueOf : ℕ → List Value → List Turning → Goal State Value
    ValueOf at stack under = Just (on_stack at stack (frame_of variables under) callers)

    abbrev AllOf : ℕ → ℕ → List Value → List Turning → Goal State (List Value)
    AllOf n at stack under = All n at stack (frame_of variables under) callers

    -- from a to z the code brings what is done
    abbrev pub Coded : Does Value → ℕ → ℕ → Type 0
    Coded does a z = (stack : List Value) (under : List Turning) (view : View) → Brings (step m) view.left (At a stack under view) (ValueOf z stack under) (does view)

    abbrev layer : CExpr-F CExpr → Does Value
    layer o = eval_step run m.scene variables (map-CExpr _ _ (eval run m.scene variables) o)

    of_layer : (x : CExpr) (a z : ℕ) → Coded (layer (out-CExpr x)) a z → Coded (eval run m.scene variables x) a z
    of_layer x a z law stack under view = subst (Brings (step m) view.left (At a stack under view) (ValueOf z stack under)) (sym (eval_out run m.scene variables x (out-CExpr x) refl view)) (law stack under view)

    -- the rounds of a repetition
    repeat_runs : (each : Does Value) (b c : ℕ) → Has m.code.instrs (b + 1) (i.More (c + 1 + 1)) → Has m.code.instrs c i.Add → Has m.code.instrs (c + 1) (i.Jump (b + 1)) → Coded each (b + 1 + 1) c
        → (n : ℕ) (made stack : List Value) (under : List Turning) (view : View)
        → Brings (step m) view.left (At (b + 1) stack (Repeating n made ∷ under) view) (Just (λ ys now. At (c + 1 + 1) (value.ListOf ys ∷ stack) under now)) (gathered_times made n each view)
    repeat_runs each b c h k l law zero made stack under view =
        after (step m) view.left _ (At (c + 1 + 1) (value.ListOf made ∷ stack) under view) (Just (λ ys now. At (c + 1 + 1) (value.ListOf ys ∷ stack) under now)) (Gives made view)
        (leads_step (step m) _ _ (acts m (i.More (c + 1 + 1)) (b + 1) stack (frame_of variables (Repeating zero made ∷ under)) callers view h free))
        (brings_here (step m) view.left _ (Just (λ ys now. At (c + 1 + 1) (value.ListOf ys ∷ stack) under now)) made view (omega arith) refl)
    repeat_runs each b c h k l law (suc n) made stack under view =
        after (step m) view.left _ (At (b + 1 + 1) stack (Repeating n made ∷ under) view) (Just (λ ys now. At (c + 1 + 1) (value.ListOf ys ∷ stack) under now)) (then_do (each view) (λ x. gathered_times (made ++ x ∷ []) n each))
        (leads_step (step m) _ _ (acts m (i.More (c + 1 + 1)) (b + 1) stack (frame_of variables (Repeating (suc n) made ∷ under)) callers view h free))
        (just_brings (step m) view.left _ (on_stack c stack (frame_of variables (Repeating n made ∷ under)) callers) (Just (λ ys now. At (c + 1 + 1) (value.ListOf ys ∷ stack) under now)) (each view)
        (λ x. gathered_times (made ++ x ∷ []) n each) (law stack (Repeating n made ∷ under) view)
        (λ x now le. after (step m) view.left _ (At (b + 1) stack (Repeating n (made ++ x ∷ []) ∷ under) now) (Just (λ ys now. At (c + 1 + 1) (value.ListOf ys ∷ stack) under now)) (gathered_times (made ++ x ∷ []) n each now)
        (leads_on (step m) _ (At (c + 1) stack (Repeating n (made ++ x ∷ []) ∷ under) now) _
        (leads_step (step m) _ _ (acts m i.Add c (x ∷ stack) (frame_of variables (Repeating n made ∷ under)) callers now k free))
        (leads_step (step m) _ _ (acts m (i.Jump (b + 1)) (c + 1) stack (frame_of variables (Repeating n (made ++ x ∷ []) ∷ under)) callers now l free)))
        (fewer (step m) now.left view.left _ (Just (λ ys now. At (c + 1 + 1) (value.ListOf ys ∷ stack) under now)) _ le (repeat_runs each b c h k l law n (made ++ x ∷ []) stack under now))))

    -- the elements of a list are passed, from a place on
    module _ (k c : ℕ) (xs x : Value) (items : List Value) (is : elements_of xs ≡ Some items)
        (p : Has m.code.instrs (c + 1) (i.Probe (c + 1 + 1 + 1 + 1))) (q : Has m.code.instrs (c + 1 + 1) (i.Call k)) (f : Has m.code.instrs (c + 1 + 1 + 1) (i.Found (c + 1)))
        (stack : List Value) (under : List Turning) where
      abbrev Found : ℕ → Goal State ℕ
      Found place = Just (λ n now. At (c + 1 + 1 + 1 + 1) stack (Scanning xs x (place + n) ∷ under) now)

      scan_runs : (front ys : List Value) → items ≡ front ++ ys → (place : ℕ) → place ≡ length front → (view : View)
          → Brings (step m) view.left (At (c + 1) stack (Scanning xs x place ∷ under) view) (Found place) (place_before (λ y. run k (x ∷ y ∷ [])) ys view)
      scan_runs front [] e place at view =
          let none : place ≡ place + 0 = omega arith in
          let there : item_in (elements_of xs) place ≡ Some None = ap (λ o. item_in o place) is ∙ (λ j. Some (slice_get (e j) (at j))) ∙ ap Some (get_end front) in
          after (step m) view.left _ (At (c + 1 + 1 + 1 + 1) stack (Scanning xs x place ∷ under) view) (Found place) (Gives 0 view)
          (leads_step (step m) _ _ (acts m (i.Probe (c + 1 + 1 + 1 + 1)) (c + 1) stack (frame_of variables (Scanning xs x place ∷ under)) callers view p free
          ∙ ap (λ o. probed o x (c + 1 + 1 + 1 + 1) (At (c + 1) stack (Scanning xs x place ∷ under) view)) there))
          (brings_here (step m) view.left _ (Found place) 0 view (omega arith) (ap (λ n. At (c + 1 + 1 + 1 + 1) stack (Scanning xs x n ∷ under) view) none))
      scan_runs front (y ∷ ys) e place at view =
          let there : item_in (elements_of xs) place ≡ Some (Some y) = ap (λ o. item_in o place) is ∙ (λ j. Some (slice_get (e j) (at j))) ∙ ap Some (get_at front y ys) in
          let none : place ≡ place + 0 = omega arith in
          after (step m) view.left _ (At (c + 1 + 1) (y ∷ x ∷ stack) (Scanning xs x place ∷ under) view) (Found place) _
          (leads_step (step m) _ _ (acts m (i.Probe (c + 1 + 1 + 1 + 1)) (c + 1) stack (frame_of variables (Scanning xs x place ∷ under)) callers view p free
          ∙ ap (λ o. probed o x (c + 1 + 1 + 1 + 1) (At (c + 1) stack (Scanning xs x place ∷ under) view)) there))
          (just_brings (step m) view.left _ (on_stack (c + 1 + 1 + 1) stack (frame_of variables (Scanning xs x place ∷ under)) callers) (Found place) (run k (x ∷ y ∷ []) view)
          (λ v. on_truth (truth_of v) (gives 0) (λ new. giving suc (place_before (λ y. run k (x ∷ y ∷ [])) ys new)))
          (calls (frame_of variables (Scanning xs x place ∷ under)) k (x ∷ y ∷ []) (c + 1 + 1) stack view q)
          (λ v now le. truth_brings (step m) view.left _ (At (c + 1 + 1 + 1 + 1) stack (Scanning xs x place ∷ under) now) (At (c + 1) stack (Scanning xs x (place + 1) ∷ under) now) (Found place) (truth_of v)
          (gives 0) (λ new. giving suc (place_before (λ y. run k (x ∷ y ∷ [])) ys new)) now
          (acts m (i.Found (c + 1)) (c + 1 + 1 + 1) (v ∷ stack) (frame_of variables (Scanning xs x place ∷ under)) callers now f free)
          (brings_here (step m) view.left _ (Found place) 0 now le (ap (λ n. At (c + 1 + 1 + 1 + 1) stack (Scanning xs x n ∷ under) now) none))
          (fewer (step m) now.left view.left _ (Found place) _ le
          (just_brings (step m) now.left _ (λ n new. At (c + 1 + 1 + 1 + 1) stack (Scanning xs x (place + 1 + n) ∷ under) new) (Found place) (place_before (λ y. run k (x ∷ y ∷ [])) ys now) (λ n. gives (suc n))
          (scan_runs (front ++ y ∷ []) ys (e ∙ sym (append_assoc front (y ∷ []) ys)) (place + 1) (omega (arith, at, length-append front (y ∷ []))) now)
          (λ n new le'. let more : place + 1 + n ≡ place + suc n = omega arith in
          brings_here (step m) now.left _ (Found place) (suc n) new le' (ap (λ n. At (c + 1 + 1 + 1 + 1) stack (Scanning xs x n ∷ under) new) more))))))

    -- an insertion, once the list and the element are on the stack
    insert_runs : (k c : ℕ) → Has m.code.instrs c i.Scan → Has m.code.instrs (c + 1) (i.Probe (c + 1 + 1 + 1 + 1)) → Has m.code.instrs (c + 1 + 1) (i.Call k) → Has m.code.instrs (c + 1 + 1 + 1) (i.Found (c + 1))
        → Has m.code.instrs (c + 1 + 1 + 1 + 1) i.Place → (xs x : Value) (stack : List Value) (under : List Turning) (view : View)
        → Brings (step m) view.left (At c (x ∷ xs ∷ stack) under view) (ValueOf (c + 1 + 1 + 1 + 1 + 1) stack under) (inserted run k xs x (out-Value xs) view)
    insert_runs k c s p q f l xs x stack under view =
        subst (Brings (step m) view.left (At c (x ∷ xs ∷ stack) under view) (ValueOf (c + 1 + 1 + 1 + 1 + 1) stack under)) (sym (inserted_is run k xs x (out-Value xs) view)) (by_list (list_in (out-Value xs)) refl)
      where
        by_list : (o : Option (List Value)) → list_in (out-Value xs) ≡ o → Brings (step m) view.left (At c (x ∷ xs ∷ stack) under view) (ValueOf (c + 1 + 1 + 1 + 1 + 1) stack under)
            (then_do (wanted o view) (λ items now. then_do (place_before (λ y. run k (x ∷ y ∷ [])) items now) (λ place. done (insert_at xs place x))))
        by_list None e = tt
        by_list (Some items) e =
            after (step m) view.left _ (At (c + 1) stack (Scanning xs x 0 ∷ under) view) (ValueOf (c + 1 + 1 + 1 + 1 + 1) stack under) _
            (leads_step (step m) _ _ (acts m i.Scan c (x ∷ xs ∷ stack) (frame_of variables under) callers view s free
            ∙ ap (λ o. taken (wanted o view) (λ items now. At (c + 1) stack (Scanning xs x 0 ∷ under) now)) (list_has (out-Value xs) items e)))
            (just_brings (step m) view.left _ (λ n now. At (c + 1 + 1 + 1 + 1) stack (Scanning xs x (0 + n) ∷ under) now) (ValueOf (c + 1 + 1 + 1 + 1 + 1) stack under)
            (place_before (λ y. run k (x ∷ y ∷ [])) items view) (λ place. done (insert_at xs place x))
            (scan_runs k c xs x items (list_has (out-Value xs) items e) p q f stack under [] items refl 0 refl view)
            (λ n now le. let same : 0 + n ≡ n = omega arith in
            fewer (step m) now.left view.left _ (ValueOf (c + 1 + 1 + 1 + 1 + 1) stack under) _ le
            (taken_brings (step m) now.left _ (on_stack (c + 1 + 1 + 1 + 1 + 1) stack (frame_of variables under) callers) (done (insert_at xs n x) now) (uses-done (insert_at xs n x) now)
            (acts m i.Place (c + 1 + 1 + 1 + 1) stack (frame_of variables (Scanning xs x (0 + n) ∷ under)) callers now l free
            ∙ ap (λ n. taken (done (insert_at xs n x) now) (on_stack (c + 1 + 1 + 1 + 1 + 1) stack (frame_of variables under) callers)) same))))

    mutual
      layer_runs : (o : CExpr-F CExpr) (a z : ℕ) → ExprAt m.code.instrs o a z → Coded (layer o) a z
      layer_runs _ _ _ (literal v a h) stack under view =
          taken_brings (step m) view.left _ (on_stack (a + 1) stack (frame_of variables under) callers) (Gives v view) (omega arith) (acts m (i.Push v) a stack (frame_of variables under) callers view h free)
      layer_runs _ _ _ (variable slot a h) stack under view =
          taken_brings (step m) view.left _ (on_stack (a + 1) stack (frame_of variables under) callers) (wanted (value_at variables slot) view) (uses-wanted (value_at variables slot) view)
          (acts m (i.Load slot) a stack (frame_of variables under) callers view h free)
      layer_runs _ _ _ (constant k a h) stack under view =
          taken_brings (step m) view.left _ (on_stack (a + 1) stack (frame_of variables under) callers) (wanted (slice_get m.scene.constants k) view) (uses-wanted (slice_get m.scene.constants k) view)
          (acts m (i.Const k) a stack (frame_of variables under) callers view h free)
      layer_runs _ _ _ (operation name es a z h k) stack under view =
          then_brings (step m) view.left _ (AllOf (length es) z stack under) (ValueOf (z + 1) stack under) _ (applied m.scene name) (gather es a z h [] (length es) (omega arith) stack under view)
          (λ xs now u le g. subst (λ u. Brings (step m) view.left u (ValueOf (z + 1) stack under) (applied m.scene name xs now)) (sym g.1)
          (fewer (step m) now.left view.left _ (ValueOf (z + 1) stack under) _ le
          (either_brings (step m) now.left _ (ValueOf (z + 1) stack under) _ _ (agrees m.scene name xs now)
          (taken_brings (step m) now.left _ (on_stack (z + 1) stack (frame_of variables under) callers) (key_or name xs (applied m.scene name xs) now) (uses-key_or m.scene name xs now)
          (acts m (i.Op name (length es)) z (pushed xs stack) (frame_of variables under) callers now k free
          ∙ many xs stack [] (length es) 0 _ (omega (arith, g.0))
          ∙ ap (λ ys. taken (key_or name ys (applied m.scene name ys) now) (on_stack (z + 1) stack (frame_of variables under) callers)) (append-nil xs))))))
      layer_runs _ _ _ (both f g a c z h k l) stack under view =
          just_brings (step m) view.left _ (on_stack c stack (frame_of variables under) callers) (ValueOf z stack under) _ (λ x. on_truth (truth_of x) (eval run m.scene variables g) (gives x))
          (of_layer f a c (layer_runs (out-CExpr f) a c h) stack under view)
          (λ x now le. truth_brings (step m) view.left _ (At (c + 1) stack under now) (At z (x ∷ stack) under now) (ValueOf z stack under) (truth_of x) (eval run m.scene variables g) (gives x) now
          (acts m (i.And z) c (x ∷ stack) (frame_of variables under) callers now k free)
          (fewer (step m) now.left view.left _ (ValueOf z stack under) _ le (of_layer g (c + 1) z (layer_runs (out-CExpr g) (c + 1) z l) stack under now))
          (brings_here (step m) view.left _ (ValueOf z stack under) x now le refl))
      layer_runs _ _ _ (either f g a c z h k l) stack under view =
          just_brings (step m) view.left _ (on_stack c stack (frame_of variables under) callers) (ValueOf z stack under) _ (λ x. on_truth (truth_of x) (gives x) (eval run m.scene variables g))
          (of_layer f a c (layer_runs (out-CExpr f) a c h) stack under view)
          (λ x now le. truth_brings (step m) view.left _ (At z (x ∷ stack) under now) (At (c + 1) stack under now) (ValueOf z stack under) (truth_of x) (gives x) (eval run m.scene variables g) now
          (acts m (i.Or z) c (x ∷ stack) (frame_of variables under) callers now k free)
          (brings_here (step m) view.left _ (ValueOf z stack under) x now le refl)
          (fewer (step m) now.left view.left _ (ValueOf z stack under) _ le (of_layer g (c + 1) z (layer_runs (out-CExpr g) (c + 1) z l) stack under now)))
      layer_runs _ _ _ (container kind es a z h k) stack under view =
          then_brings (step m) view.left _ (AllOf (length es) z stack under) (ValueOf (z + 1) stack under) _ (λ xs. done (build kind xs)) (gather es a z h [] (length es) (omega arith) stack under view)
          (λ xs now u le g. subst (λ u. Brings (step m) view.left u (ValueOf (z + 1) stack under) (done (build kind xs) now)) (sym g.1)
          (fewer (step m) now.left view.left _ (ValueOf (z + 1) stack under) _ le
          (taken_brings (step m) now.left _ (on_stack (z + 1) stack (frame_of variables under) callers) (done (build kind xs) now) (uses-done (build kind xs) now)
          (acts m (i.Build kind (length es)) z (pushed xs stack) (frame_of variables under) callers now k free
          ∙ many xs stack [] (length es) 0 _ (omega (arith, g.0))
          ∙ ap (λ ys. taken (done (build kind ys) now) (on_stack (z + 1) stack (frame_of variables under) callers)) (append-nil xs)))))
      layer_runs _ _ _ (part f k a z h l) stack under view =
          just_brings (step m) view.left _ (on_stack z stack (frame_of variables under) callers) (ValueOf (z + 1) stack under) _ (λ x. wanted (part_of x k)) (of_layer f a z (layer_runs (out-CExpr f) a z h) stack under view)
          (λ x now le. fewer (step m) now.left view.left _ (ValueOf (z + 1) stack under) _ le
          (taken_brings (step m) now.left _ (on_stack (z + 1) stack (frame_of variables under) callers) (wanted (part_of x k) now) (uses-wanted (part_of x k) now)
          (acts m (i.Part k) z (x ∷ stack) (frame_of variables under) callers now l free)))
      layer_runs _ _ _ (call n es a z h k) stack under view =
          then_brings (step m) view.left _ (AllOf (length es) z stack under) (ValueOf (z + 1) stack under) _ (run n) (gather es a z h [] (length es) (omega arith) stack under view)
          (λ xs now u le g. subst (λ u. Brings (step m) view.left u (ValueOf (z + 1) stack under) (run n xs now)) (sym g.1)
          (fewer (step m) now.left view.left _ (ValueOf (z + 1) stack under) _ le (calls (frame_of variables under) n xs z stack now k)))
      layer_runs _ _ _ (insertion f g k a b c h l s p q o r) stack under view =
          just_brings (step m) view.left _ (on_stack b stack (frame_of variables under) callers) (ValueOf (c + 1 + 1 + 1 + 1 + 1) stack under) _
          (λ xs new. then_do (eval run m.scene variables g new) (λ x. inserted run k xs x (out-Value xs)))
          (of_layer f a b (layer_runs (out-CExpr f) a b h) stack under view)
          (λ xs now le. fewer (step m) now.left view.left _ (ValueOf (c + 1 + 1 + 1 + 1 + 1) stack under) _ le
          (just_brings (step m) now.left _ (on_stack c (xs ∷ stack) (frame_of variables under) callers) (ValueOf (c + 1 + 1 + 1 + 1 + 1) stack under) (eval run m.scene variables g now)
          (λ x. inserted run k xs x (out-Value xs))
          (of_layer g b c (layer_runs (out-CExpr g) b c l) (xs ∷ stack) under now)
          (λ x new le'. fewer (step m) new.left now.left _ (ValueOf (c + 1 + 1 + 1 + 1 + 1) stack under) _ le' (insert_runs k c s p q o r xs x stack under new))))
      layer_runs _ _ _ (fresh_at shape a h) stack under view =
          taken_brings (step m) view.left _ (on_stack (a + 1) stack (frame_of variables under) callers) (fresh shape view) (uses-fresh shape view) (acts m (i.Default shape) a stack (frame_of variables under) callers view h free)
      layer_runs _ _ _ (repetition n each a b c h r p l k j) stack under view =
          just_brings (step m) view.left _ (on_stack b stack (frame_of variables under) callers) (ValueOf (c + 1 + 1) stack under) _ (λ x. repeated (eval run m.scene variables each) (out-Value x))
          (of_layer n a b (layer_runs (out-CExpr n) a b h) stack under view)
          (λ x now le. fewer (step m) now.left view.left _ (ValueOf (c + 1 + 1) stack under) _ le
          (subst (Brings (step m) now.left (At b (x ∷ stack) under now) (ValueOf (c + 1 + 1) stack under)) (sym (repeated_is (eval run m.scene variables each) (out-Value x) now))
          (just_brings (step m) now.left _ (λ count new. At (b + 1) stack (Repeating count [] ∷ under) new) (ValueOf (c + 1 + 1) stack under) (count_in (out-Value x) now)
          (λ count new. giving value.ListOf (times count (eval run m.scene variables each) new))
          (taken_brings (step m) now.left _ (λ count new. At (b + 1) stack (Repeating count [] ∷ under) new) (count_in (out-Value x) now) (uses-count (out-Value x) now)
          (acts m i.Repeat b (x ∷ stack) (frame_of variables under) callers now r free))
          (λ count new le'. fewer (step m) new.left now.left _ (ValueOf (c + 1 + 1) stack under) _ le'
          (just_brings (step m) new.left _ (λ ys last. At (c + 1 + 1) (value.ListOf ys ∷ stack) under last) (ValueOf (c + 1 + 1) stack under) (times count (eval run m.scene variables each) new)
          (λ ys. gives (value.ListOf ys))
          (repeat_runs (eval run m.scene variables each) b c p k j (of_layer each (b + 1 + 1) c (layer_runs (out-CExpr each) (b + 1 + 1) c l)) count [] stack under new)
          (λ ys last le''. brings_here (step m) new.left _ (ValueOf (c + 1 + 1) stack under) (value.ListOf ys) last le'' refl))))))

      gather : (es : List CExpr) (a z : ℕ) → ExprsAt m.code.instrs es a z → (xs : List Value) (n : ℕ) → n ≡ length xs + length es → (stack : List Value) (under : List Turning) (view : View)
          → Brings (step m) view.left (At a (pushed xs stack) under view) (AllOf n z stack under) (gathered xs (map (eval run m.scene variables) es) view)
      gather _ _ _ (no_expression a) xs n e stack under view = brings_here (step m) view.left _ (AllOf n a stack under) xs view (omega arith) (omega (arith, e), refl)
      gather _ _ _ (one_expression x es a c z h k) xs n e stack under view =
          just_brings (step m) view.left _ (on_stack c (pushed xs stack) (frame_of variables under) callers) (AllOf n z stack under) _ (λ x. gathered (xs ++ x ∷ []) (map (eval run m.scene variables) es))
          (of_layer x a c (layer_runs (out-CExpr x) a c h) (pushed xs stack) under view)
          (λ y now le. fewer (step m) now.left view.left _ (AllOf n z stack under) _ le
          (subst (λ s. Brings (step m) now.left (At c s under now) (AllOf n z stack under) (gathered (xs ++ y ∷ []) (map (eval run m.scene variables) es) now)) (pushed_more xs y stack)
          (gather es c z k (xs ++ y ∷ []) n (omega (arith, e, length-append xs (y ∷ []))) stack under now)))

    pub expr_runs : (x : CExpr) (a z : ℕ) → ExprAt m.code.instrs (out-CExpr x) a z → Coded (eval run m.scene variables x) a z
    expr_runs x a z h = of_layer x a z (layer_runs (out-CExpr x) a z h)

    pub exprs_run : (es : List CExpr) (a z : ℕ) → ExprsAt m.code.instrs es a z → (stack : List Value) (under : List Turning) (view : View)
        → Brings (step m) view.left (At a stack under view) (AllOf (length es) z stack under) (in_turn (map (eval run m.scene variables) es) view)
    exprs_run es a z h stack under view = gather es a z h [] (length es) (omega arith) stack under view
