-- What an item of a term does, its code does: from behind the first instruction of a turn.
use Rattle.std.proofs.Common.{◌≡◌, ◌⊎◌, inl, inr, ℕ, suc, ◌+◌, ◌≤◌, List, [], ◌∷◌, map, length, Option, Some, None, true, false, refl, sym, ap, subst, ◌∙◌, arith}
use Rattle.std.proofs.lemmas.List.{append-nil, length-map}
use Rattle.std.specs.Prelude.{option_map}
use Rattle.chi_types.specs.declared.ty.Ty.{Ty}
use Rattle.chi_value.specs.declared.value.Value.{Value}
use Rattle.chi_core.specs.declared.expression.CExpr.{CExpr, out-CExpr}
use Rattle.chi_core.specs.declared.statement.Branch.{Branch, out-Branch}
use Rattle.chi_core.specs.declared.statement.CStat.{CStat, out-CStat}
use Rattle.chi_core.specs.declared.target.CTarget.{CTarget}
use Rattle.chi_core.specs.declared.view.View.{View}
use Rattle.chi_core.specs.Answer.{Gives, Does, then_do, gives, wanted, giving, in_turn, through}
use Rattle.chi_core.specs.Evaluation.{Run, eval, on_truth}
use Rattle.chi_core.specs.Reading.{truth_of, parts_of, elements_of}
use Rattle.chi_core.specs.SetSlots.{StatLayer}
use Rattle.chi_core.specs.Spots.{Spot, spot_of, store}
use Rattle.chi_core.specs.Terms.{Item, Loop, Walk, Term, Did, On, Returns, on_with, first_the, goes_on, walked, spread, chosen, tested, assigned, act_stat, act}
use Rattle.chi_core.specs.Variables.{Variables, with_slot, side_by_side, bound}
use Rattle.chi_code.specs.declared.code.Around.{Around}
use Rattle.chi_code.specs.declared.instr.Instr.{Instr}
use Rattle.chi_code.specs.declared.instr.Instr.TheVariants as i
use Rattle.chi_code.specs.Aims.{aim_of, indexes_of, is_spread}
use Rattle.chi_code.specs.ExpressionLayout.{Has, ExprAt, ExprsAt}
use Rattle.chi_code.specs.StatementLayout.{looping, walking, SpreadAt, no_spread, a_spread, StatAt, declares, assigns, chooses, loops, walks, breaks, leaves, continues, passes, returns, exits_with, exits, writes, selects, runs as runs_at, starts, finishes, LoopAt, loop, WalkAt, walk, BranchesAt, last, branch}
use Rattle.chi_core.proofs.Used.{within-then, uses-wanted, uses-through}
use Rattle.chi_core.proofs.UsedByTerms.{uses-store}
use Rattle.chi_exec_law.specs.Runs.{taken, Goal, Just, Brings}
use Rattle.chi_exec_law.specs.State.{Turning, Walking, Caller, State, state, frame_of, on_stack, pushed}
use Rattle.chi_exec_law.specs.Instructions.{stored, spots_from, index_count}
use Rattle.chi_exec_law.specs.Machine.{Inner, Work, Setting, halts, step}
use Rattle.chi_exec_law.specs.Standing.{TermAt, here, jumps, ReadyAt, does, again, walks_on, DidAt, went, gave}
use Rattle.chi_exec_law.specs.Laws.{All, Calls}
use Rattle.chi_exec_law.proofs.Going.{leads_step, after, then_brings, just_brings, fewer, brings_here, taken_brings, truth_brings}
use Rattle.chi_exec_law.proofs.Moving.{many, acts}
use Rattle.chi_exec_law.proofs.Expressions.{expr_runs, exprs_run}
use Rattle.chi_exec_law.proofs.Standing.{block_term, Left, same, popped, broken, continued}
use Rattle.chi_exec_law.proofs.Targets.{spots_keys, FitTargets, spots_back, keys_counted, as_many_spots, targets_run}

-- where there are more or fewer of one than of the other, they aren't side by side
beside : (spots : List Spot) (xs : List Value) → (length spots ≡ length xs) ⊎ (side_by_side spots xs ≡ None)
beside [] [] = inl refl
beside [] (x ∷ xs) = inr refl
beside (s ∷ spots) [] = inr refl
beside (s ∷ spots) (x ∷ xs) = more (beside spots xs)
  where
    more : (length spots ≡ length xs) ⊎ (side_by_side spots xs ≡ None) → (suc (length spots) ≡ suc (length xs)) ⊎ (option_map (λ rest. (s, x) ∷ rest) (side_by_side spots xs) ≡ None)
    more (inl e) = inl (ap suc e)
    more (inr e) = inr (ap (option_map (λ rest. (s, x) ∷ rest)) e)

-- values as they are
as_they_are : (ts : List CTarget) (es : List CExpr) (xs : List Value) → is_spread ts es ≡ false → length xs ≡ length es → spread ts xs ≡ Some xs
as_they_are [] es xs h e = refl
as_they_are (t ∷ []) es xs h e = refl
as_they_are (t ∷ t2 ∷ ts) es [] h e = refl
as_they_are (t ∷ t2 ∷ ts) [] (x ∷ []) h e = absurd (omega (arith, e))
as_they_are (t ∷ t2 ∷ ts) (f ∷ []) (x ∷ []) h e = absurd (cc)
as_they_are (t ∷ t2 ∷ ts) (f ∷ g ∷ es) (x ∷ []) h e = absurd (omega (arith, e))
as_they_are (t ∷ t2 ∷ ts) es (x ∷ y ∷ xs) h e = refl

-- one value, whose parts are wanted
data OnePart (ts : List CTarget) (xs : List Value) : Type 0 where
  one_part : (x : Value) → xs ≡ x ∷ [] → spread ts xs ≡ parts_of x → OnePart ts xs

only_one : (ts : List CTarget) (es : List CExpr) (xs : List Value) → is_spread ts es ≡ true → length xs ≡ length es → OnePart ts xs
only_one [] es xs h e = absurd (cc)
only_one (t ∷ []) es xs h e = absurd (cc)
only_one (t ∷ t2 ∷ ts) [] xs h e = absurd (cc)
only_one (t ∷ t2 ∷ ts) (f ∷ g ∷ es) xs h e = absurd (cc)
only_one (t ∷ t2 ∷ ts) (f ∷ []) [] h e = absurd (omega (arith, e))
only_one (t ∷ t2 ∷ ts) (f ∷ []) (x ∷ []) h e = one_part x refl refl
only_one (t ∷ t2 ∷ ts) (f ∷ []) (x ∷ y ∷ xs) h e = absurd (omega (arith, e))

module _ (m : Setting) (turn : ℕ → Instr) (slots : List Ty) (end : Instr) (callers : List Caller) (stack : List Value) where
  abbrev Stands : List Around → List Turning → Term → ℕ → Type 0
  Stands = TermAt m.code.instrs turn slots end

  abbrev DidHere : Goal State Did
  DidHere = DidAt m.code.instrs turn slots end stack callers

  module _ (run : Run) (free : halts m callers (m.stops Inner) ≡ false) (work : halts m callers (m.stops Work) ≡ false) (calls : Calls m run callers) (under : List Turning) (variables : Variables) where
    abbrev At : ℕ → List Value → View → State
    At a values view = state a values (frame_of variables under) callers view

    abbrev value_of : CExpr → Does Value
    value_of = eval run m.scene variables

    expr : (x : CExpr) (a z : ℕ) → ExprAt m.code.instrs (out-CExpr x) a z → (values : List Value) (view : View) → Brings (step m) view.left (At a values view) (Just (on_stack z values (frame_of variables under) callers)) (value_of x view)
    expr x a z h values view = expr_runs m run callers free calls variables x a z h values under view

    -- it goes on at a place with other variables
    on_here : (most : ℕ) (around : List Around) (inner : List Turning) (after : Variables) (term : Term) (a : ℕ) (view : View) → view.left ≤ most → Stands around inner term a
        → Brings (step m) most (state a stack (frame_of after inner) callers view) DidHere (Gives (On after term) view)
    on_here most around inner after term a view le t = brings_here (step m) most _ DidHere (On after term) view le (went around inner after term a view t)

    branches_run : (around : List Around) (bs : List Branch) (otherwise : List CStat) (a z : ℕ) → BranchesAt m.code.instrs turn slots around z bs otherwise a → (term : Term) → Stands around under term z → (view : View)
        → Brings (step m) view.left (At a stack view) DidHere (chosen value_of variables bs otherwise term view)
    branches_run _ _ _ _ _ (last around otherwise a z h) term t view =
        on_here view.left around under variables (first_the otherwise term) a view (omega arith) (block_term m.code.instrs turn slots end around under otherwise term a z h t)
    branches_run _ _ _ _ _ (branch around x xs otherwise a c d z h k l j r) term t view =
        just_brings (step m) view.left _ (on_stack c stack (frame_of variables under) callers) DidHere _
        (λ v. on_truth (truth_of v) (gives (On variables (first_the (out-Branch x).block term))) (chosen value_of variables xs otherwise term))
        (expr (out-Branch x).test a c h stack view)
        (λ v now le. truth_brings (step m) view.left _ (At (c + 1) stack now) (At (d + 1) stack now) DidHere (truth_of v) (gives (On variables (first_the (out-Branch x).block term)))
        (chosen value_of variables xs otherwise term) now (acts m (i.IfFalse (d + 1)) c (v ∷ stack) (frame_of variables under) callers now k work)
        (on_here view.left around under variables (first_the (out-Branch x).block term) (c + 1) now le
        (block_term m.code.instrs turn slots end around under (out-Branch x).block term (c + 1) d l (jumps around under term d z j t)))
        (fewer (step m) now.left view.left _ DidHere _ le (branches_run around xs otherwise (d + 1) z r term t now)))

    loop_runs : (around : List Around) (line : ℕ) (test : CExpr) (block : List CStat) (a z : ℕ) → LoopAt m.code.instrs turn slots around line test block a z → (term : Term) → Stands around under term z → (view : View)
        → Brings (step m) view.left (At (a + 1) stack view) DidHere (tested value_of variables line test block term view)
    loop_runs _ _ _ _ _ _ (loop around line test block a c d s h k l j) term t view =
        just_brings (step m) view.left _ (on_stack c stack (frame_of variables under) callers) DidHere _
        (λ v. on_truth (truth_of v) (gives (On variables (first_the block (Loop line test block ∷ term)))) (gives (On variables term)))
        (expr test (a + 1) c h stack view)
        (λ v now le. truth_brings (step m) view.left _ (At (c + 1) stack now) (At (d + 1) stack now) DidHere (truth_of v) (gives (On variables (first_the block (Loop line test block ∷ term))))
        (gives (On variables term)) now (acts m (i.IfFalse (d + 1)) c (v ∷ stack) (frame_of variables under) callers now k work)
        (on_here view.left (looping a (d + 1) ∷ around) under variables (first_the block (Loop line test block ∷ term)) (c + 1) now le
        (block_term m.code.instrs turn slots end (looping a (d + 1) ∷ around) under block (Loop line test block ∷ term) (c + 1) d l
        (jumps _ _ _ d a j (here _ _ _ a (again around under line test block term a (d + 1) (loop around line test block a c d s h k l j) t)))))
        (on_here view.left around under variables term (d + 1) now le t))

    -- the values are on the stack: the indexes, and the stores
    stores_run : (around : List Around) (ts : List CTarget) (xs : List Value) (c d : ℕ) → ExprsAt m.code.instrs (indexes_of ts) c d → Has m.code.instrs d (i.Assign (map aim_of ts)) → (term : Term) → Stands around under term (d + 1)
        → (view : View) → Brings (step m) view.left (At c (pushed xs stack) view) DidHere
        (then_do (in_turn (map (spot_of value_of) ts) view) (λ spots new. then_do (wanted (side_by_side spots xs) new) (λ stores later. giving (on_with term) (through store stores variables later))))
    stores_run around ts xs c d h k term t view =
        then_brings (step m) view.left _ (λ spots now u. FitTargets ts spots × (u ≡ state d (pushed (spots_keys spots) (pushed xs stack)) (frame_of variables under) callers now)) DidHere _ (storing)
        (targets_run m run callers free calls variables (pushed xs stack) under ts c d h view)
        (λ spots new u le g. subst (λ u. Brings (step m) view.left u DidHere (storing spots new)) (sym g.1) (by_number spots new le g.0 (beside spots xs)))
      where
        storing : List Spot → Does Did
        storing spots new = then_do (wanted (side_by_side spots xs) new) (λ stores later. giving (on_with term) (through store stores variables later))

        by_number : (spots : List Spot) (new : View) → new.left ≤ view.left → FitTargets ts spots → (length spots ≡ length xs) ⊎ (side_by_side spots xs ≡ None)
            → Brings (step m) view.left (At d (pushed (spots_keys spots) (pushed xs stack)) new) DidHere (storing spots new)
        by_number spots new le fits (inr e) = subst (λ o. Brings (step m) view.left (At d (pushed (spots_keys spots) (pushed xs stack)) new) DidHere
            (then_do (wanted o new) (λ stores later. giving (on_with term) (through store stores variables later)))) (sym e) tt
        by_number spots new le fits (inl e) =
            fewer (step m) new.left view.left _ DidHere _ le
            (subst (Brings (step m) new.left (At d (pushed (spots_keys spots) (pushed xs stack)) new) DidHere) (sym (as_stored (side_by_side spots xs) new))
            (just_brings (step m) new.left _ (λ after. state (d + 1) stack (frame_of after under) callers) DidHere (stored (Some spots) xs variables new) (λ after. gives (On after term))
            (taken_brings (step m) new.left _ (λ after. state (d + 1) stack (frame_of after under) callers) (stored (Some spots) xs variables new)
            (within-then new.left (wanted (side_by_side spots xs) new) (λ stores. through store stores variables) (uses-wanted (side_by_side spots xs) new) (λ stores. uses-through store uses-store stores variables))
            (acts m (i.Assign (map aim_of ts)) d (pushed (spots_keys spots) (pushed xs stack)) (frame_of variables under) callers new k work
            ∙ many (spots_keys spots) (pushed xs stack) [] (index_count (map aim_of ts)) 0 _ (omega (arith, keys_counted ts spots fits))
            ∙ many xs stack [] (length (map aim_of ts)) 0 _ (omega (arith, e, as_many_spots ts spots fits, length-map ts aim_of))
            ∙ (λ j. taken (stored (spots_from (map aim_of ts) (append-nil (spots_keys spots) j)) (append-nil xs j) variables new) (λ after. state (d + 1) stack (frame_of after under) callers))
            ∙ ap (λ o. taken (stored o xs variables new) (λ after. state (d + 1) stack (frame_of after under) callers)) (spots_back ts spots fits)))
            (λ after last le'. on_here new.left around under after term (d + 1) last le' t)))
          where
            as_stored : (o : Option (List (Spot × Value))) (new : View) → then_do (wanted o new) (λ stores later. giving (on_with term) (through store stores variables later))
                ≡ giving (on_with term) (then_do (wanted o new) (λ stores. through store stores variables))
            as_stored (Some stores) new = refl
            as_stored None new = refl

    assign_runs : (around : List Around) (line : ℕ) (ts : List CTarget) (es : List CExpr) (a b c d : ℕ) → ExprsAt m.code.instrs es (a + 1) b → SpreadAt m.code.instrs ts es b c → ExprsAt m.code.instrs (indexes_of ts) c d
        → Has m.code.instrs d (i.Assign (map aim_of ts)) → (term : Term) → Stands around under term (d + 1) → (view : View) → Brings (step m) view.left (At (a + 1) stack view) DidHere (assigned value_of variables ts es term view)
    assign_runs around line ts es a b c d h s k j term t view =
        then_brings (step m) view.left _ (All (length es) b stack (frame_of variables under) callers) DidHere _ (λ given now. then_do (wanted (spread ts given) now) storing)
        (exprs_run m run callers free calls variables es (a + 1) b h stack under view)
        (λ xs now u le g. subst (λ u. Brings (step m) view.left u DidHere (then_do (wanted (spread ts xs) now) storing)) (sym g.1) (fewer (step m) now.left view.left _ DidHere _ le (by_spread s k xs now g.0)))
      where
        storing : List Value → Does Did
        storing xs now = then_do (in_turn (map (spot_of value_of) ts) now) (λ spots new. then_do (wanted (side_by_side spots xs) new) (λ stores later. giving (on_with term) (through store stores variables later)))

        by_spread : {b c : ℕ} → SpreadAt m.code.instrs ts es b c → ExprsAt m.code.instrs (indexes_of ts) c d → (xs : List Value) (now : View) → length xs ≡ length es
            → Brings (step m) now.left (At b (pushed xs stack) now) DidHere (then_do (wanted (spread ts xs) now) storing)
        by_spread (no_spread a none) k xs now e =
            subst (λ o. Brings (step m) now.left (At a (pushed xs stack) now) DidHere (then_do (wanted o now) storing)) (sym (as_they_are ts es xs none e)) (stores_run around ts xs a d k j term t now)
        by_spread (a_spread a some p) k xs now e = by_one (only_one ts es xs some e)
          where
            by_one : OnePart ts xs → Brings (step m) now.left (At a (pushed xs stack) now) DidHere (then_do (wanted (spread ts xs) now) storing)
            by_one (one_part x is parts) =
                subst (λ o. Brings (step m) now.left (At a (pushed xs stack) now) DidHere (then_do (wanted o now) storing)) (sym parts)
                (subst (λ xs. Brings (step m) now.left (At a (pushed xs stack) now) DidHere (then_do (wanted (parts_of x) now) storing)) (sym is)
                (just_brings (step m) now.left _ (λ parts new. At (a + 1) (pushed parts stack) new) DidHere (wanted (parts_of x) now) storing
                (taken_brings (step m) now.left _ (λ parts new. At (a + 1) (pushed parts stack) new) (wanted (parts_of x) now) (uses-wanted (parts_of x) now)
                (acts m (i.Spread (length ts)) a (x ∷ stack) (frame_of variables under) callers now p work))
                (λ parts new le. fewer (step m) new.left now.left _ DidHere _ le (stores_run around ts parts (a + 1) d k j term t new))))

    pub stat_runs : (around : List Around) (o : StatLayer) (a z : ℕ) → StatAt m.code.instrs turn slots around o a z → (term : Term) → Stands around under term z → (view : View)
        → Brings (step m) view.left (At (a + 1) stack view) DidHere (act_stat value_of variables o term view)
    stat_runs _ _ _ _ (declares around line slot e a c s h k) term t view =
        just_brings (step m) view.left _ (on_stack c stack (frame_of variables under) callers) DidHere _ (λ x now. giving (on_with term) (wanted (with_slot slot x variables) now))
        (expr e (a + 1) c h stack view)
        (λ x now le. just_brings (step m) view.left _ (λ after. state (c + 1) stack (frame_of after under) callers) DidHere (wanted (with_slot slot x variables) now) (λ after. gives (On after term))
        (fewer (step m) now.left view.left _ (Just (λ after. state (c + 1) stack (frame_of after under) callers)) _ le
        (taken_brings (step m) now.left _ (λ after. state (c + 1) stack (frame_of after under) callers) _ (uses-wanted (with_slot slot x variables) now)
        (acts m (i.Store slot) c (x ∷ stack) (frame_of variables under) callers now k work)))
        (λ after new le'. on_here view.left around under after term (c + 1) new le' t))
    stat_runs _ _ _ _ (assigns around line ts es a b c d s h p k j) term t view = assign_runs around line ts es a b c d h p k j term t view
    stat_runs _ _ _ _ (chooses around line bs otherwise a z s h) term t view = branches_run around bs otherwise (a + 1) z h term t view
    stat_runs _ _ _ _ (loops around line test block a z h) term t view = loop_runs around line test block a z h term t view
    stat_runs _ _ _ _ (walks around line names e block a c z s h k w) term t view =
        just_brings (step m) view.left _ (on_stack c stack (frame_of variables under) callers) DidHere _
        (λ x now. giving (λ elements. On variables (Walk line names elements block ∷ term)) (wanted (elements_of x) now)) (expr e (a + 1) c h stack view)
        (λ x now le. just_brings (step m) view.left _ (λ xs. state (c + 1) stack (frame_of variables (Walking xs ∷ under)) callers) DidHere (wanted (elements_of x) now)
        (λ xs. gives (On variables (Walk line names xs block ∷ term)))
        (fewer (step m) now.left view.left _ (Just (λ xs. state (c + 1) stack (frame_of variables (Walking xs ∷ under)) callers)) _ le
        (taken_brings (step m) now.left _ (λ xs. state (c + 1) stack (frame_of variables (Walking xs ∷ under)) callers) _ (uses-wanted (elements_of x) now)
        (acts m i.Walk c (x ∷ stack) (frame_of variables under) callers now k work)))
        (λ xs new le'. on_here view.left (walking (c + 1) z ∷ around) (Walking xs ∷ under) variables (Walk line names xs block ∷ term) (c + 1) new le'
        (here _ _ _ (c + 1) (walks_on around under line names xs block term (c + 1) z w t))))
    stat_runs _ _ _ _ (breaks around line top out a s k) term t view =
        let r = broken m.code.instrs turn slots end (looping top out) around under term (a + 1 + 1) t in
        subst (λ o. Brings (step m) view.left (At (a + 1) stack view) DidHere (goes_on variables o view)) (sym r.is)
        (on_here view.left around under variables r.rest (a + 1) view (omega arith) (jumps around under r.rest (a + 1) out k (kept_under under r.outer r.rest r.left r.at)))
      where
        kept_under : (under outer : List Turning) (rest : Term) → Left false under outer → Stands around outer rest out → Stands around under rest out
        kept_under under _ rest (same _) t = t
    stat_runs _ _ _ _ (leaves around line top out a s k j) term t view =
        let r = broken m.code.instrs turn slots end (walking top out) around under term (a + 1 + 1 + 1) t in
        subst (λ o. Brings (step m) view.left (At (a + 1) stack view) DidHere (goes_on variables o view)) (sym r.is) (left_walk under r.outer r.rest r.left r.at)
      where
        left_walk : (under outer : List Turning) (rest : Term) → Left true under outer → Stands around outer rest out
            → Brings (step m) view.left (state (a + 1) stack (frame_of variables under) callers view) DidHere (Gives (On variables rest) view)
        left_walk _ _ rest (popped w outer) t =
            after (step m) view.left _ (state (a + 1 + 1) stack (frame_of variables outer) callers view) DidHere (Gives (On variables rest) view)
            (leads_step (step m) _ _ (acts m i.Drop (a + 1) stack (frame_of variables (Walking w ∷ outer)) callers view k work))
            (brings_here (step m) view.left _ DidHere (On variables rest) view (omega arith) (went around outer variables rest (a + 1 + 1) view (jumps around outer rest (a + 1 + 1) out j t)))
    stat_runs _ _ _ _ (continues l around line a s k) term t view =
        let r = continued m.code.instrs turn slots end l around under term (a + 1 + 1) t in
        subst (λ o. Brings (step m) view.left (At (a + 1) stack view) DidHere (goes_on variables o view)) (sym r.is)
        (on_here view.left (l ∷ around) under variables r.rest (a + 1) view (omega arith) (jumps (l ∷ around) under r.rest (a + 1) l.top k r.at))
    stat_runs _ _ _ _ (passes around line a s) term t view = on_here view.left around under variables term (a + 1) view (omega arith) t
    stat_runs _ _ _ _ (returns around line e a c s h k) term t view =
        just_brings (step m) view.left _ (on_stack c stack (frame_of variables under) callers) DidHere _ (λ x. gives (Returns x)) (expr e (a + 1) c h stack view)
        (λ x now le. brings_here (step m) view.left _ DidHere (Returns x) now le (gave x (frame_of variables under) c now k))
    stat_runs _ _ _ _ (exits_with around line e a c s h k) term t view = tt
    stat_runs _ _ _ _ (exits around line a s k) term t view = tt
    stat_runs _ _ _ _ (writes around line pieces es a c s h k) term t view = tt
    stat_runs _ _ _ _ (selects around line alternatives a c out s h k) term t view = tt
    stat_runs _ _ _ _ (runs_at around line elements a c s h k) term t view = tt
    stat_runs _ _ _ _ (starts around line elements a c s h) term t view = tt
    stat_runs _ _ _ _ (finishes around line es a c s h k) term t view = tt

  -- the turn of a walk
  module _ (work : halts m callers (m.stops Work) ≡ false) where
    walk_runs : (around : List Around) (under : List Turning) (line : ℕ) (names : List ℕ) (elements : List Value) (block : List CStat) (a z : ℕ) → WalkAt m.code.instrs turn slots around line names block a z
        → (term : Term) → Stands around under term z → (variables : Variables) (view : View)
        → Brings (step m) view.left (state (a + 1) stack (frame_of variables (Walking elements ∷ under)) callers view) DidHere (walked variables line names elements block term view)
    walk_runs _ under _ _ [] _ _ _ (walk around line names block a c s k l j) term t variables view =
        after (step m) view.left _ (state (c + 1) stack (frame_of variables under) callers view) DidHere (Gives (On variables term) view)
        (leads_step (step m) _ _ (acts m (i.Next (c + 1) names) (a + 1) stack (frame_of variables (Walking [] ∷ under)) callers view k work))
        (brings_here (step m) view.left _ DidHere (On variables term) view (omega arith) (went around under variables term (c + 1) view t))
    walk_runs _ under _ _ (x ∷ xs) _ _ _ (walk around line names block a c s k l j) term t variables view =
        just_brings (step m) view.left _ (λ after. state (a + 1 + 1) stack (frame_of after (Walking xs ∷ under)) callers) DidHere (wanted (bound names x variables) view)
        (λ bound. gives (On bound (first_the block (Walk line names xs block ∷ term))))
        (taken_brings (step m) view.left _ (λ after. state (a + 1 + 1) stack (frame_of after (Walking xs ∷ under)) callers) _ (uses-wanted (bound names x variables) view)
        (acts m (i.Next (c + 1) names) (a + 1) stack (frame_of variables (Walking (x ∷ xs) ∷ under)) callers view k work))
        (λ after new le. brings_here (step m) view.left _ DidHere _ new le (went (walking a (c + 1) ∷ around) (Walking xs ∷ under) after (first_the block (Walk line names xs block ∷ term)) (a + 1 + 1) new
        (block_term m.code.instrs turn slots end (walking a (c + 1) ∷ around) (Walking xs ∷ under) block (Walk line names xs block ∷ term) (a + 1 + 1) c l
        (jumps _ _ _ c a j (here _ _ _ a (walks_on around under line names xs block term a (c + 1) (walk around line names block a c s k l j) t))))))

  module _ (run : Run) (free : halts m callers (m.stops Inner) ≡ false) (work : halts m callers (m.stops Work) ≡ false) (calls : Calls m run callers) where
    -- the law of an item, for functions and for processes
    pub item_runs : (around : List Around) (under : List Turning) (x : Item) (term : Term) (a : ℕ) → ReadyAt m.code.instrs turn slots end around under (x ∷ term) a → (variables : Variables) (view : View)
        → Brings (step m) view.left (state (a + 1) stack (frame_of variables under) callers view) DidHere (act (eval run m.scene variables) variables x term view)
    item_runs around under _ _ _ (does _ _ x term a z h t) variables view = stat_runs run free work calls under variables around (out-CStat x) a z h term t view
    item_runs _ under _ _ _ (again around _ line test block term a z h t) variables view = loop_runs run free work calls under variables around line test block a z h term t view
    item_runs _ _ _ _ _ (walks_on around under line names elements block term a z h t) variables view = walk_runs work around under line names elements block a z h term t variables view
