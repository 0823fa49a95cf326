-- What an item does within a step, its code does.
use Rattle.std.proofs.Common.{◌≡◌, ◌⊎◌, inl, inr, ℕ, suc, ◌+◌, List, [], ◌∷◌, map, length, Option, Some, None, true, false, refl, sym, ap, subst, ◌∙◌, arith}
use Rattle.std.proofs.lemmas.List.{append-nil}
use Rattle.std.specs.Prelude.{slice_get, nat_le}
use Rattle.std.specs.List.{range_with_len}
use Rattle.std.specs.Option.{option_and_then}
use Rattle.chi_value.specs.declared.format.Piece.{Piece}
use Rattle.chi_value.specs.declared.format.Piece.TheVariants as piece
use Rattle.chi_value.specs.declared.text.limit.TheConstants.{MOST_TEXT}
use Rattle.chi_value.specs.declared.value.Value.{Value}
use Rattle.chi_format.specs.Format.{rendered, before, shown}
use Rattle.chi_core.specs.declared.element.CElem.{CElem}
use Rattle.chi_core.specs.declared.expression.CExpr.{CExpr, out-CExpr}
use Rattle.chi_core.specs.declared.fault.FaultKind.TheVariants.{TooLarge}
use Rattle.chi_core.specs.declared.limits.TheConstants.{MOST_CALLS}
use Rattle.chi_core.specs.declared.program.Core.{Core}
use Rattle.chi_core.specs.declared.program.ProcDef.{ProcDef}
use Rattle.chi_core.specs.declared.statement.CAlt.{CAlt}
use Rattle.chi_core.specs.declared.statement.CStat.{out-CStat}
use Rattle.chi_core.specs.declared.view.View.{View}
use Rattle.chi_core.specs.Answer.{Answer, Gives, Fails, Spent, Amiss, Does, then_do, gives, wanted, giving, in_turn}
use Rattle.chi_core.specs.Config as instance
use Rattle.chi_core.specs.Config.{Config, Instance, settled, run_of, value_in, with_instance, with_view}
use Rattle.chi_core.specs.Evaluation.{Run}
use Rattle.chi_core.specs.Opening.{Opening, opened}
use Rattle.chi_core.specs.Performing as meaning
use Rattle.chi_core.specs.Performing.{Change, within_text, all_named, quietly, came_to, waits, with_started, joins_started, joins, exits_with, performed_stat, performed}
use Rattle.chi_core.specs.Reading.{quoted_in}
use Rattle.chi_core.specs.SetSlots.{StatLayer}
use Rattle.chi_core.specs.Starting.{Started, all_started}
use Rattle.chi_core.specs.Terms.{Item, Do, Loop, Walk, Term, Did, act_stat}
use Rattle.chi_core.specs.Variables.{Variables}
use Rattle.chi_core.proofs.Used as used
use Rattle.chi_core.proofs.Used.{uses-wanted}
use Rattle.chi_code.specs.declared.code.Around.{Around}
use Rattle.chi_code.specs.declared.code.Code.{Code}
use Rattle.chi_code.specs.declared.instr.Instr.TheVariants as i
use Rattle.chi_code.specs.Codes.{in_process, Codes}
use Rattle.chi_code.specs.ExpressionLayout.{Has, ExprAt, ExprsAt}
use Rattle.chi_code.specs.StatementLayout.{StatAt, declares, assigns, chooses, loops, walks as walks_at, breaks as breaks_at, leaves, continues, passes, returns, exits_with as exits_with_at, exits, writes, selects, runs as runs_at, starts, finishes, AltsAt, ElemsAt}
use Rattle.chi_exec_law.specs.Runs.{End, Rests, Faults, Spends, Ends, taken, Goal, Just, Reaches, Leads, Brings}
use Rattle.chi_exec_law.specs.State.{Turning, State, state, frame_of, on_stack, pushed}
use Rattle.chi_exec_law.specs.Machine.{step}
use Rattle.chi_exec_law.specs.Standing.{TermAt, ReadyAt, over, does as does_at, DidAt, went, gave}
use Rattle.chi_exec_law.specs.Laws.{Calls, All}
use Rattle.chi_exec_law.proofs.Going.{reaches_on}
use Rattle.chi_exec_law.proofs.Lines.{item_line}
use Rattle.chi_exec_law.proofs.Moving.{many}
use Rattle.chi_exec_law.proofs.Expressions.{expr_runs, exprs_run}
use Rattle.chi_exec_law.proofs.Standing.{settle}
use Rattle.chi_exec_law.proofs.Items.{stat_runs, item_runs}
use Rattle.chi_exec_law.proofs.Bodies.{calls_run}
use Rattle.chi_machine_laws.specs.Instances.{Waiting, Joining, Held, Whole}
use Rattle.chi_machine_laws.specs.Deeds.{Brought, nothing, Rest, Pauses, Waits, Joins, Exits, resting, behind, exit_by, shown_in, text_by, joins_on, held_there, Within, deed, setting, moves}
use Rattle.chi_machine_laws.specs.Labels.{held_at, with_held, GoesOn, After, paused, waited, joined}
use Rattle.chi_machine_laws.specs.Parts.{Opened, opened_so, Made, made_so}
use Rattle.chi_machine_laws.specs.Stands.{none, waits as waits_so, joins as joins_so, InstanceAt, Stands}
use Rattle.chi_machine_laws.proofs.Going.{in_order, lift, beside, ends_so, deed_brings}
use Rattle.chi_machine_laws.proofs.Openings.{alts_run}
use Rattle.chi_machine_laws.proofs.Pairs.{pairs_length}
use Rattle.chi_machine_laws.proofs.Standing.{within_of, ready_instance, stands_after, stands_started}
use Rattle.chi_machine_laws.proofs.Startings.{elems_run}

one_more : (n : ℕ) (xs : List Value) (rest : Option (List ℕ)) (o : Option (List ℕ)) → (n ≡ length xs) ⊎ (rest ≡ None) → (suc n ≡ suc (length xs)) ⊎ (option_and_then (before rest) o ≡ None)
one_more n xs rest None h = inr refl
one_more n xs rest (Some text) (inl e) = inl (ap suc e)
one_more n xs rest (Some text) (inr e) = inr (ap (λ o. before o text) e)

-- as many values as the pieces show; or there is no text of them
shown_or_none : (names : List (List (List ℕ))) (pieces : List Piece) (xs : List Value) → (shown_in pieces ≡ length xs) ⊎ (rendered names pieces xs ≡ None)
shown_or_none names [] [] = inl refl
shown_or_none names [] (x ∷ xs) = inr refl
shown_or_none names (piece.Plain bytes ∷ pieces) xs = plain (shown_or_none names pieces xs)
  where
    plain : (shown_in pieces ≡ length xs) ⊎ (rendered names pieces xs ≡ None) → (shown_in pieces ≡ length xs) ⊎ (before (rendered names pieces xs) bytes ≡ None)
    plain (inl e) = inl e
    plain (inr e) = inr (ap (λ o. before o bytes) e)
shown_or_none names (piece.Any field ∷ pieces) [] = inr refl
shown_or_none names (piece.Any field ∷ pieces) (x ∷ xs) = one_more (shown_in pieces) xs (rendered names pieces xs) (shown names (piece.Any field) x) (shown_or_none names pieces xs)
shown_or_none names (piece.Whole field ∷ pieces) [] = inr refl
shown_or_none names (piece.Whole field ∷ pieces) (x ∷ xs) = one_more (shown_in pieces) xs (rendered names pieces xs) (shown names (piece.Whole field) x) (shown_or_none names pieces xs)
shown_or_none names (piece.Fixed field k ∷ pieces) [] = inr refl
shown_or_none names (piece.Fixed field k ∷ pieces) (x ∷ xs) = one_more (shown_in pieces) xs (rendered names pieces xs) (shown names (piece.Fixed field k) x) (shown_or_none names pieces xs)

exits_is : (core : Core) (v : Value) (view : View) → exits_with core v view ≡ giving meaning.Exits (exit_by core.names v view)
exits_is core v view = by_text (wanted (quoted_in core.names.kinds v) view)
  where
    inner : (o : Answer (List ℕ)) → giving (λ text. meaning.Exits (Some v)) o ≡ giving meaning.Exits (giving (λ text. Some v) o)
    inner (Gives text now) = refl
    inner (Fails kind) = refl
    inner Spent = refl
    inner Amiss = refl

    by_text : (o : Answer (List ℕ)) → then_do o (λ text now. giving (λ text. meaning.Exits (Some v)) (within_text text now)) ≡ giving meaning.Exits (then_do o (λ text now. giving (λ text. Some v) (within_text text now)))
    by_text (Gives text now) = inner (within_text text now)
    by_text (Fails kind) = refl
    by_text Spent = refl
    by_text Amiss = refl

uses-within_text : (text : List ℕ) → used.Uses (within_text text)
uses-within_text text view = used.within-if (nat_le (length text) MOST_TEXT) view.left (Gives text view) (Fails TooLarge) (omega arith) tt

module _ (core : Core) (code : Code) (codes : Codes core code) (config : Config) (m : Whole) (st : Stands core code config m) (p line definition : ℕ) where
  abbrev w : Within
  w = within_of core code config

  abbrev run : Run
  run = run_of core config

  calls : Calls (setting w) run []
  calls = calls_run (setting w) core.funcs (codes.over + 1) codes.second codes.functions MOST_CALLS [] refl refl

  abbrev Bare : ℕ → List Value → Variables → List Turning → View → State
  Bare a values variables under view = state a values (frame_of variables under) [] view

  -- the end of a run stands for what the step came to
  abbrev pub EndAt : Change → View → End Rest → Type 0
  EndAt (meaning.Goes new text) view e = (after : Whole) × After code m p definition line e (GoesOn after text view.left) × Stands core code (with_view view new) after
  EndAt (meaning.Exits v) view e = e ≡ Rests (Exits v)

  abbrev pub EndsIn : State × Brought → Answer Change → Type 0
  EndsIn s (Gives change view) = (e : End Rest) × Reaches (moves w) s e × EndAt change view e
  EndsIn s (Fails kind) = Reaches (moves w) s (Faults kind)
  EndsIn s Spent = Reaches (moves w) s Spends
  EndsIn s Amiss = Unit {0}

  led : (s t : State × Brought) (a : Answer Change) → Leads (moves w) s t → EndsIn t a → EndsIn s a
  led s t (Gives change view) l r = (r.0, reaches_on (moves w) s t r.0 l r.1, r.2)
  led s t (Fails kind) l r = reaches_on (moves w) s t _ l r
  led s t Spent l r = reaches_on (moves w) s t _ l r
  led s t Amiss l r = tt

  then_ends : {A : Type 0} (most : ℕ) (s : State × Brought) (goal : Goal (State × Brought) A) (a : Answer A) (go : A → Does Change) → Brings (moves w) most s goal a
      → ((x : A) (view : View) (u : State × Brought) → goal x view u → EndsIn u (go x view)) → EndsIn s (then_do a go)
  then_ends most s goal (Gives x view) go r k = led s r.1.there (go x view) r.1.leads (k x view r.1.there r.1.holds)
  then_ends most s goal (Fails kind) go r k = r
  then_ends most s goal Spent go r k = r
  then_ends most s goal Amiss go r k = tt

  -- what that machine brings goes first
  first_ends : {A : Type 0} (most : ℕ) (s : State) (b : Brought) (goal : Goal State A) (a : Answer A) (go : A → Does Change) → Brings (step (setting w)) most s goal a
      → ((x : A) (view : View) (u : State) → goal x view u → EndsIn (u, b) (go x view)) → EndsIn (s, b) (then_do a go)
  first_ends {A} most s b goal a go r k = then_ends most (s, b) (λ x view u. goal x view u.0 × (u.1 ≡ b)) a go (beside w most s b goal a r) (λ x view u g. here x view u g.1 (k x view u.0 g.0))
    where
      here : (x : A) (view : View) (u : State × Brought) → u.1 ≡ b → EndsIn (u.0, b) (go x view) → EndsIn u (go x view)
      here x view u e r = subst (λ c. EndsIn (u.0, c) (go x view)) (sym e) r

  module _ (process : ProcDef) (it : Instance) (defined : slice_get core.procs it.definition ≡ Some process) (same : definition ≡ it.definition) where
    abbrev Stood : List Around → List Turning → Term → ℕ → Type 0
    Stood = TermAt code.instrs in_process process.slots i.Done

    -- before a turn, and at the end, it rests
    rests_ready : (around : List Around) (under : List Turning) (term : Term) (a : ℕ) → ReadyAt code.instrs in_process process.slots i.Done around under term a → (variables : Variables) (b : Brought) (view : View)
        → Reaches (moves w) (Bare a [] variables under view, b) (Rests (Pauses (Bare a [] variables under view) b))
    rests_ready _ _ [] _ (over a e) variables b view = ends_so w i.Done a [] (frame_of variables []) view e refl b _ refl
    rests_ready around under (x ∷ term) a h variables b view =
        ends_so w (i.Mark _) a [] (frame_of variables under) view (item_line code.instrs in_process process.slots i.Done around under x term a h) refl b _ refl

    rests_at : (around : List Around) (under : List Turning) (term : Term) (a : ℕ) → Stood around under term a → (variables : Variables) (b : Brought) (view : View)
        → (z : ℕ) × Reaches (moves w) (Bare a [] variables under view, b) (Rests (Pauses (Bare z [] variables under view) b)) × ReadyAt code.instrs in_process process.slots i.Done around under term z
    rests_at around under term a t variables b view =
        let r = settle (setting w) in_process process.slots i.Done [] (frame_of variables under) [] view refl around under term a t in
        (r.0, reaches_on (moves w) _ _ _ (lift w _ _ b r.2) (rests_ready around under term r.0 r.1 variables b view), r.1)

    -- it goes on with its term
    goes_ends : (around : List Around) (under : List Turning) (term : Term) (a : ℕ) → Stood around under term a → (variables : Variables) (text : List ℕ) (view : View)
        → EndsIn (Bare a [] variables under view, record { offers = []; made = []; text = text }) (Gives (meaning.Goes (with_instance config p (record it { variables = variables; term = term; state = instance.Running })) text) view)
    goes_ends around under term a t variables text view =
        let b : Brought = record { offers = []; made = []; text = text } in
        let r = rests_at around under term a t variables b view in
        let s : State = Bare r.0 [] variables under view in (
          Rests (Pauses s b),
          r.1,
          (
            with_held m p (held_there code definition s.frame s.at) [] view,
            paused s b,
            stands_after core code config m st p view (record it { variables = variables; term = term; state = instance.Running }) _ (ready_instance core code process it.definition defined definition same variables variables refl around under term r.0 r.2),
          ),
        )

    module _ (stood : it.state ≡ instance.Running) where
      -- the item's shared part
      came : (s : State) (a : Answer Did) (most : ℕ) → Brings (step (setting w)) most s (DidAt code.instrs in_process process.slots i.Done [] []) a → EndsIn (s, nothing) (then_do a (came_to core config p it))
      came s a most r = first_ends most s nothing (DidAt code.instrs in_process process.slots i.Done [] []) a (came_to core config p it) r each
        where
          each : (d : Did) (view : View) (u : State) → DidAt code.instrs in_process process.slots i.Done [] [] d view u → EndsIn (u, nothing) (came_to core config p it d view)
          each _ _ _ (went around under variables term a view t) =
              subst (λ s. EndsIn (Bare a [] variables under view, nothing) (Gives (quietly (with_instance config p (record it { variables = variables; term = term; state = s }))) view)) (sym stood) (goes_ends around under term a t variables [] view)
          each _ _ _ (gave x frame a view h) = tt

      module _ (under : List Turning) (view : View) where
        abbrev variables : Variables
        variables = it.variables

        abbrev Performs : ℕ → Answer Change → Type 0
        Performs a r = EndsIn (Bare (a + 1) [] variables under view, nothing) r

        plain : (around : List Around) (o : StatLayer) (a z : ℕ) → StatAt code.instrs in_process process.slots around o a z → Stood around under it.term z
            → Performs a (then_do (act_stat (value_in core config variables) variables o it.term view) (came_to core config p it))
        plain around o a z h t = came _ _ view.left (stat_runs (setting w) in_process process.slots i.Done [] [] run refl refl calls under variables around o a z h it.term t view)

        -- the values of expressions are on the stack
        values_end : (es : List CExpr) (a c : ℕ) → ExprsAt code.instrs es a c → (go : List Value → Does Change)
            → ((xs : List Value) (now : View) → length xs ≡ length es → EndsIn (Bare c (pushed xs []) variables under now, nothing) (go xs now))
            → EndsIn (Bare a [] variables under view, nothing) (then_do (in_turn (map (value_in core config variables) es) view) go)
        values_end es a c h go k =
            first_ends view.left _ nothing (All (length es) c [] (frame_of variables under) []) _ go (exprs_run (setting w) run [] refl calls variables es a c h [] under view)
            (λ xs now u g. subst (λ u. EndsIn (u, nothing) (go xs now)) (sym g.1) (k xs now g.0))

        write_ends : (around : List Around) (pieces : List Piece) (es : List CExpr) (a c : ℕ) → ExprsAt code.instrs es (a + 1) c → Has code.instrs c (i.Write pieces) → Stood around under it.term (c + 1)
            → Performs a (giving (meaning.Goes (with_instance config p it)) (meaning.written core (value_in core config variables) pieces es view))
        write_ends around pieces es a c h k t =
            subst (Performs a) (in_order (in_turn (map (value_in core config variables) es) view) (text_by core.names pieces) (λ text. gives (meaning.Goes (with_instance config p it) text)))
            (values_end es (a + 1) c h (λ xs now. then_do (text_by core.names pieces xs now) (λ text. gives (meaning.Goes (with_instance config p it) text)))
            (λ xs now n. by_shown xs now (shown_or_none core.names.kinds pieces xs)))
          where
            so : List ℕ → Brought
            so text = record { offers = []; made = []; text = text }

            by_shown : (xs : List Value) (now : View) → (shown_in pieces ≡ length xs) ⊎ (rendered core.names.kinds pieces xs ≡ None)
                → EndsIn (Bare c (pushed xs []) variables under now, nothing) (then_do (text_by core.names pieces xs now) (λ text. gives (meaning.Goes (with_instance config p it) text)))
            by_shown xs now (inr e) =
                subst (λ o. EndsIn (Bare c (pushed xs []) variables under now, nothing) (then_do (then_do (wanted o now) within_text) (λ text. gives (meaning.Goes (with_instance config p it) text)))) (sym e) tt
            by_shown xs now (inl e) =
                then_ends now.left _ (Just (λ text new. (Bare (c + 1) [] variables under new, so text))) (text_by core.names pieces xs now) (λ text. gives (meaning.Goes (with_instance config p it) text))
                (deed_brings w (i.Write pieces) c (pushed xs []) (frame_of variables under) now k refl now.left nothing (λ text new. (Bare (c + 1) [] variables under new, so text))
                (text_by core.names pieces xs now) (used.within-then now.left (wanted (rendered core.names.kinds pieces xs) now) within_text (uses-wanted (rendered core.names.kinds pieces xs) now) uses-within_text)
                (many xs [] [] (shown_in pieces) 0 _ (omega (arith, e))
                ∙ ap (λ ys. taken (text_by core.names pieces ys now) (λ text new. behind (Bare c (pushed xs []) variables under now) [] (so text) new)) (append-nil xs)))
                (λ text new u g. subst (λ u. EndsIn u (Gives (meaning.Goes (with_instance config p it) text) new)) (sym g)
                (subst (λ s. EndsIn (Bare (c + 1) [] variables under new, so text) (Gives (meaning.Goes (with_instance config p (record it { state = s })) text) new)) (sym stood)
                (goes_ends around under it.term (c + 1) t variables text new)))

        exit_ends : (e : CExpr) (a c : ℕ) → ExprAt code.instrs (out-CExpr e) (a + 1) c → Has code.instrs c (i.Exit true) → Performs a (meaning.exited core (value_in core config variables) (Some e) view)
        exit_ends e a c h k =
            first_ends view.left _ nothing (Just (on_stack c [] (frame_of variables under) [])) (value_in core config variables e view) (exits_with core) (expr_runs (setting w) run [] refl calls variables e (a + 1) c h [] under view)
            (λ v now u g. subst (λ u. EndsIn (u, nothing) (exits_with core v now)) (sym g)
            (subst (EndsIn (Bare c (v ∷ []) variables under now, nothing)) (sym (exits_is core v now)) (by_text v now (exit_by core.names v now) refl)))
          where
            ended : (v : Value) (now : View) (o : Answer (Option Value)) → exit_by core.names v now ≡ o → (r : End Rest) → resting o (λ x view. Exits x) ≡ Ends r → Reaches (moves w) (Bare c (v ∷ []) variables under now, nothing) r
            ended v now o e r f = ends_so w (i.Exit true) c (v ∷ []) (frame_of variables under) now k refl nothing r (ap (λ o. resting o (λ x view. Exits x)) e ∙ f)

            by_text : (v : Value) (now : View) (o : Answer (Option Value)) → exit_by core.names v now ≡ o → EndsIn (Bare c (v ∷ []) variables under now, nothing) (giving meaning.Exits o)
            by_text v now (Gives x new) e = (Rests (Exits x), ended v now (Gives x new) e (Rests (Exits x)) refl, refl)
            by_text v now (Fails kind) e = ended v now (Fails kind) e (Faults kind) refl
            by_text v now Spent e = ended v now Spent e Spends refl
            by_text v now Amiss e = tt

        select_ends : (around : List Around) (alternatives : List CAlt) (a c end : ℕ) → AltsAt code.instrs in_process process.slots around end [] alternatives (c + 1) end (a + 1) c → Has code.instrs c i.Wait → Stood around under it.term end
            → Performs a (giving (waits core config p it) (opened (value_in core config) config.clock variables alternatives view))
        select_ends around alternatives a c end h k t =
            then_ends view.left _ (Opened w process.slots around end [] [] c under) (opened (value_in core config) config.clock variables alternatives view) (λ o. gives (waits core config p it o))
            (alts_run w run calls process.slots around end [] [] [] alternatives (c + 1) end (a + 1) c h under variables [] [] none view) each
          where
            each : (o : Opening) (now : View) (u : State × Brought) → Opened w process.slots around end [] [] c under o now u → EndsIn u (Gives (waits core config p it o) now)
            each _ _ _ (opened_so after offers ks now all) =
                let b : Brought = record { offers = ks; made = []; text = [] } in
                let s : State = Bare c [] after under now in (
                  Rests (Waits s b),
                  ends_so w i.Wait c [] (frame_of after under) now k refl b (Rests (Waits s b)) refl,
                  (
                    with_held m p (held_at definition s (Waiting ks)) [] now,
                    waited s b,
                    stands_after core code config m st p now (record it { variables = after; state = instance.Waiting offers }) (held_at definition s (Waiting ks))
                        (record { definition = same; variables = refl; process = process; is = defined; state = waits_so around under it.term c end offers ks all t }),
                  ),
                )

        abbrev Making : ℕ → Goal (State × Brought) Started
        Making c = Made core w c under

        makings : (elements : List CElem) (a c : ℕ) → ElemsAt code.instrs elements a c → Brings (moves w) view.left (Bare a [] variables under view, nothing) (Making c) (all_started (value_in core config) core.procs variables elements view)
        makings elements a c h = elems_run core w run calls codes.second (length code.instrs) codes.processes elements a c h under variables [] [] none view

        start_ends : (around : List Around) (elements : List CElem) (a c : ℕ) → ElemsAt code.instrs elements (a + 1) c → Stood around under it.term c
            → Performs a (giving (λ s. quietly (with_started core config p it instance.Running s)) (all_started (value_in core config) core.procs variables elements view))
        start_ends around elements a c h t =
            then_ends view.left _ (Making c) (all_started (value_in core config) core.procs variables elements view) (λ s. gives (quietly (with_started core config p it instance.Running s))) (makings elements (a + 1) c h) each
          where
            each : (o : Started) (now : View) (u : State × Brought) → Making c o now u → EndsIn u (Gives (quietly (with_started core config p it instance.Running o)) now)
            each _ _ _ (made_so after made hs now all) =
                let b : Brought = record { offers = []; made = hs; text = [] } in
                let r = rests_at around under it.term c t after b now in
                let s : State = Bare r.0 [] after under now in
                let held : Held = held_there code definition s.frame s.at in (
                  Rests (Pauses s b),
                  r.1,
                  (
                    with_held m p held hs now,
                    paused s b,
                    stands_started core code config m st p now (record it { variables = after; state = instance.Running }) held made hs
                        (ready_instance core code process it.definition defined definition same after after refl around under it.term r.0 r.2) all,
                  ),
                )

        run_ends : (around : List Around) (elements : List CElem) (a c : ℕ) → ElemsAt code.instrs elements (a + 1) c → Has code.instrs c i.Join → Stood around under it.term (c + 1)
            → Performs a (giving (joins_started core config p it) (all_started (value_in core config) core.procs variables elements view))
        run_ends around elements a c h k t =
            then_ends view.left _ (Making c) (all_started (value_in core config) core.procs variables elements view) (λ s. gives (joins_started core config p it s)) (makings elements (a + 1) c h) each
          where
            each : (o : Started) (now : View) (u : State × Brought) → Making c o now u → EndsIn u (Gives (joins_started core config p it o) now)
            each _ _ _ (made_so after made hs now all) =
                let b : Brought = record { offers = []; made = hs; text = [] } in
                let s : State = Bare (c + 1) [] after under now in
                let numbers : List ℕ = range_with_len (length config.instances) (length made) in
                let held : Held = held_at definition s (Joining numbers) in (
                  Rests (Joins numbers s b),
                  ends_so w i.Join c [] (frame_of after under) now k refl b (Rests (Joins numbers s b))
                      (ap (λ n. Ends (Rests (Joins (range_with_len (length config.instances) n) s b))) (pairs_length (λ p h. InstanceAt core code (settled p) h) made hs all)),
                  (
                    with_held m p held hs now,
                    joined numbers s b,
                    stands_started core code config m st p now (record it { variables = after; state = instance.Joining numbers }) held made hs
                        (record { definition = same; variables = refl; process = process; is = defined; state = joins_so around under it.term (c + 1) numbers t }) all,
                  ),
                )

        finish_ends : (around : List Around) (es : List CExpr) (a c : ℕ) → ExprsAt code.instrs es (a + 1) c → Has code.instrs c (i.Finish (length es)) → Stood around under it.term (c + 1)
            → Performs a (then_do (in_turn (map (value_in core config variables) es) view) (λ values now. giving (joins core config p it) (all_named [] values now)))
        finish_ends around es a c h k t =
            values_end es (a + 1) c h (λ values now. giving (joins core config p it) (all_named [] values now))
            (λ xs now n. by_names xs now (all_named [] xs now)
            (many xs [] [] (length es) 0 _ (omega (arith, n))
            ∙ ap (λ ys. resting (all_named [] ys now) (λ numbers new. joins_on numbers (Bare c (pushed xs []) variables under now) [] nothing new)) (append-nil xs)))
          where
            by_names : (xs : List Value) (now : View) (o : Answer (List ℕ))
                → deed w (Some (i.Finish (length es))) (Bare c (pushed xs []) variables under now) nothing ≡ resting o (λ numbers new. Joins numbers (Bare (c + 1) [] variables under new) nothing)
                → EndsIn (Bare c (pushed xs []) variables under now, nothing) (giving (joins core config p it) o)
            by_names xs now (Gives numbers new) e =
                let s : State = Bare (c + 1) [] variables under new in (
                  Rests (Joins numbers s nothing),
                  ends_so w (i.Finish (length es)) c (pushed xs []) (frame_of variables under) now k refl nothing (Rests (Joins numbers s nothing)) e,
                  (
                    with_held m p (held_at definition s (Joining numbers)) [] new,
                    joined numbers s nothing,
                    stands_after core code config m st p new (record it { state = instance.Joining numbers }) (held_at definition s (Joining numbers))
                        (record { definition = same; variables = refl; process = process; is = defined; state = joins_so around under it.term (c + 1) numbers t }),
                  ),
                )
            by_names xs now (Fails kind) e = ends_so w (i.Finish (length es)) c (pushed xs []) (frame_of variables under) now k refl nothing (Faults kind) e
            by_names xs now Spent e = ends_so w (i.Finish (length es)) c (pushed xs []) (frame_of variables under) now k refl nothing Spends e
            by_names xs now Amiss e = tt

        stat_ends : (around : List Around) (o : StatLayer) (a z : ℕ) → StatAt code.instrs in_process process.slots around o a z → Stood around under it.term z → Performs a (performed_stat core config p it o view)
        stat_ends _ _ _ _ (declares around line slot e a c s h k) t = plain around _ a (c + 1) (declares around line slot e a c s h k) t
        stat_ends _ _ _ _ (assigns around line ts es a b c d s h q k j) t = plain around _ a (d + 1) (assigns around line ts es a b c d s h q k j) t
        stat_ends _ _ _ _ (chooses around line bs otherwise a z s h) t = plain around _ a z (chooses around line bs otherwise a z s h) t
        stat_ends _ _ _ _ (loops around line test block a z h) t = plain around _ a z (loops around line test block a z h) t
        stat_ends _ _ _ _ (walks_at around line names e block a c z s h k v) t = plain around _ a z (walks_at around line names e block a c z s h k v) t
        stat_ends _ _ _ _ (breaks_at around line top end a s k) t = plain _ _ a (a + 1 + 1) (breaks_at around line top end a s k) t
        stat_ends _ _ _ _ (leaves around line top end a s k j) t = plain _ _ a (a + 1 + 1 + 1) (leaves around line top end a s k j) t
        stat_ends _ _ _ _ (continues l around line a s k) t = plain _ _ a (a + 1 + 1) (continues l around line a s k) t
        stat_ends _ _ _ _ (passes around line a s) t = plain around _ a (a + 1) (passes around line a s) t
        stat_ends _ _ _ _ (returns around line e a c s h k) t = plain around _ a (c + 1) (returns around line e a c s h k) t
        stat_ends _ _ _ _ (exits_with_at around line e a c s h k) t = exit_ends e a c h k
        stat_ends _ _ _ _ (exits around line a s k) t = (Rests (Exits None), ends_so w (i.Exit false) (a + 1) [] (frame_of variables under) view k refl nothing (Rests (Exits None)) refl, refl)
        stat_ends _ _ _ _ (writes around line pieces es a c s h k) t = write_ends around pieces es a c h k t
        stat_ends _ _ _ _ (selects around line alternatives a c end s h k) t = select_ends around alternatives a c end h k t
        stat_ends _ _ _ _ (runs_at around line elements a c s h k) t = run_ends around elements a c h k t
        stat_ends _ _ _ _ (starts around line elements a c s h) t = start_ends around elements a c h t
        stat_ends _ _ _ _ (finishes around line es a c s h k) t = finish_ends around es a c h k t

      -- an item, of which the term is left
      pub item_ends : (around : List Around) (under : List Turning) (x : Item) (a : ℕ) → ReadyAt code.instrs in_process process.slots i.Done around under (x ∷ it.term) a → (view : View)
          → EndsIn (Bare (a + 1) [] it.variables under view, nothing) (performed core config p it x view)
      item_ends around under (Do x) a h view = do_ends around under a h
        where
          do_ends : (around : List Around) (under : List Turning) (a : ℕ) → ReadyAt code.instrs in_process process.slots i.Done around under (Do x ∷ it.term) a → EndsIn (Bare (a + 1) [] it.variables under view, nothing) (performed core config p it (Do x) view)
          do_ends around under a (does_at _ _ _ _ _ z h t) = stat_ends under view around (out-CStat x) a z h t
      item_ends around under (Loop line test block) a h view =
          came _ _ view.left (item_runs (setting w) in_process process.slots i.Done [] [] run refl refl calls around under (Loop line test block) it.term a h it.variables view)
      item_ends around under (Walk line names elements block) a h view =
          came _ _ view.left (item_runs (setting w) in_process process.slots i.Done [] [] run refl refl calls around under (Walk line names elements block) it.term a h it.variables view)
