-- What a list of alternatives offers within a step: a law by recursion on its code.
use Rattle.std.proofs.Common.{◌≡◌, ℕ, ◌+◌, ◌≤◌, ℤ, List, [], ◌∷◌, ◌++◌, map, length, Option, Some, None, Bool, true, false, cond, refl, sym, ap, subst, ◌∙◌, arith}
use Rattle.std.specs.Prelude.{nat_lt, int_lt, option_map, pos, ◌+ℤ◌}
use Rattle.chi_num.specs.Results.{fits}
use Rattle.chi_types.specs.declared.ty.Ty.{Ty}
use Rattle.chi_value.specs.declared.value.Value.{Value}
use Rattle.chi_core.specs.declared.act.Act.{Act}
use Rattle.chi_core.specs.declared.act.Act.TheVariants.{Send, Receive, Delay}
use Rattle.chi_core.specs.declared.communication.CComm.{CComm}
use Rattle.chi_core.specs.declared.expression.CExpr.{CExpr}
use Rattle.chi_core.specs.declared.fault.FaultKind.TheVariants.{TooLarge, NegativeDelay, RealRange}
use Rattle.chi_core.specs.declared.limits.TheConstants.{MOST_OFFERS}
use Rattle.chi_core.specs.declared.statement.Branch.{Branch}
use Rattle.chi_core.specs.declared.statement.CAlt.{CAlt, CAlt-F, out-CAlt, roll-CAlt, roll-out-CAlt}
use Rattle.chi_core.specs.declared.statement.CAlt.TheVariants as alternative
use Rattle.chi_core.specs.declared.statement.CStat.{CStat}
use Rattle.chi_core.specs.declared.view.View.{View}
use Rattle.chi_core.specs.Answer.{Answer, Gives, Fails, Spent, Amiss, Does, then_do, gives, wanted, giving, through}
use Rattle.chi_core.specs.Config.{Offer}
use Rattle.chi_core.specs.Evaluation.{Run, eval, Evaluates, on_truth}
use Rattle.chi_core.specs.Opening.{Opening, sent, received, delayed_by, delayed, due, kept, offered, guarded, Opens, each_opens, unwound, opens}
use Rattle.chi_core.specs.Reading.{truth_of, channel_of, elements_of, real_of, due_of}
use Rattle.chi_core.specs.Variables.{Variables, Bindings, bound, bindings_at}
use Rattle.chi_core.proofs.Opened.{opens_guarded, opens_unwind}
use Rattle.chi_core.proofs.Used as used
use Rattle.chi_core.proofs.Used.{uses-wanted}
use Rattle.chi_code.specs.declared.code.Around.{Around}
use Rattle.chi_code.specs.declared.instr.Instr.{Instr}
use Rattle.chi_code.specs.declared.instr.Instr.TheVariants as i
use Rattle.chi_code.specs.Codes.{in_process}
use Rattle.chi_code.specs.ExpressionLayout.{Has}
use Rattle.chi_code.specs.StatementLayout.{BlockAt, GuardAt, no_guard, a_guard, CommAt, sends, sends_void, receives, receives_void, delays, waits_for_timer, AltsAt, no_alternative, one_alternative, AltAt, guarded as guarded_at, unwinds as unwinds_at}
use Rattle.chi_exec_law.specs.Runs.{taken, Goal, Just, Brings}
use Rattle.chi_exec_law.specs.State.{Turning, Walking, State, state, frame_of, on_stack}
use Rattle.chi_exec_law.specs.Machine.{class_of, past_work, step}
use Rattle.chi_exec_law.specs.Laws.{Calls}
use Rattle.chi_exec_law.proofs.Going.{leads_step, after, then_brings, fewer, brings_here, taken_brings, truth_brings}
use Rattle.chi_exec_law.proofs.Moving.{acts}
use Rattle.chi_exec_law.proofs.Expressions.{expr_runs}
use Rattle.chi_machine_laws.specs.Instances.{Kept, Held}
use Rattle.chi_machine_laws.specs.Deeds.{Brought, Deed, Within, keep, behind, offers_on, deed, setting, moves}
use Rattle.chi_machine_laws.specs.Parts.{Opened as OpenedAt, opened_so}
use Rattle.chi_machine_laws.specs.Stands.{Pairwise, OfferAt}
use Rattle.chi_machine_laws.proofs.Going.{in_order, lift, first, two_ways, does, ends_so}
use Rattle.chi_machine_laws.proofs.Pairs.{pairs_length, pairs_end}
use Rattle.chi_machine_laws.proofs.Reading.{read_runs}

guarded_by : (a : CAlt) (guard : Option CExpr) (c : CComm) (body : List CStat) → out-CAlt a ≡ CAlt-F.Guarded guard c body → a ≡ alternative.Guarded guard c body
guarded_by a guard c body e = sym (roll-out-CAlt a) ∙ ap roll-CAlt e ∙ alternative.rolls-Guarded guard c body

unwinds_by : (a : CAlt) (slots : List ℕ) (container : CExpr) (alternatives : List CAlt) → out-CAlt a ≡ CAlt-F.Unwind slots container alternatives → a ≡ alternative.Unwind slots container alternatives
unwinds_by a slots container alternatives e = sym (roll-out-CAlt a) ∙ ap roll-CAlt e ∙ alternative.rolls-Unwind slots container alternatives

uses-delayed : (clock : ℤ) (x : Value) → used.Uses (delayed clock x)
uses-delayed clock x view = used.within-then view.left (wanted (real_of x) view) (delayed_by clock) (uses-wanted (real_of x) view)
    (λ d now. used.within-if (int_lt d (pos 0)) now.left (Fails NegativeDelay) _ tt (used.within-if (fits (clock +ℤ d)) now.left (Gives (Delay (clock +ℤ d)) now) (Fails RealRange) (omega arith) tt))

module _ (w : Within) (run : Run) (calls : Calls (setting w) run []) (slots : List Ty) (around : List Around) (end : ℕ) (made : List Held) (text : List ℕ) where
  abbrev code : List Instr
  code = w.code.instrs

  abbrev clock : ℤ
  clock = w.scene.clock

  abbrev value_in : Variables → Evaluates
  value_in variables = eval run w.scene variables

  abbrev brought : List Kept → Brought
  brought ks = record { offers = ks; made = made; text = text }

  abbrev Bare : ℕ → List Value → Variables → List Turning → View → State
  Bare a values variables under view = state a values (frame_of variables under) [] view

  -- the machine stands at a place, with what it offers so far
  abbrev At : ℕ → Variables → List Turning → List Kept → View → State × Brought
  At a variables under ks view = (Bare a [] variables under view, brought ks)

  abbrev Offers : List Offer → List Kept → Type 0
  Offers = Pairwise (OfferAt code slots around end)

  abbrev opening : Variables → List Offer → Opening
  opening variables offers = record { variables = variables; offers = offers }

  abbrev Opened : ℕ → List Turning → Goal (State × Brought) Opening
  Opened = OpenedAt w slots around end made text

  -- what is done after an opening
  pub opened_brings : {B : Type 0} (most : ℕ) (s : State × Brought) (z : ℕ) (under : List Turning) (aim : Goal (State × Brought) B) (a : Answer Opening) (go : Opening → Does B) → Brings (moves w) most s (Opened z under) a
      → ((variables : Variables) (offers : List Offer) (ks : List Kept) → Offers offers ks → (view : View) → view.left ≤ most → Brings (moves w) most (At z variables under ks view) aim (go (opening variables offers) view))
      → Brings (moves w) most s aim (then_do a go)
  opened_brings {B} most s z under aim a go r k = then_brings (moves w) most s (Opened z under) aim a go r each
    where
      each : (o : Opening) (view : View) (u : State × Brought) → view.left ≤ most → Opened z under o view u → Brings (moves w) most u aim (go o view)
      each _ _ _ le (opened_so variables offers ks view all) = k variables offers ks all view le

  abbrev Opens_here : ℕ → ℕ → List ℕ → (List ℕ → Opening → Does Opening) → Type 0
  Opens_here a z names f = (under : List Turning) (variables : Variables) (offers : List Offer) (ks : List Kept) → Offers offers ks → (view : View)
      → Brings (moves w) view.left (At a variables under ks view) (Opened z under) (f names (opening variables offers) view)

  module _ (names : List ℕ) (body : List CStat) (p q : ℕ) (block : BlockAt code in_process slots around body p q) (jump : Has code q (i.Jump end)) where
    -- an instruction that makes an offer, which is kept
    module _ (x : Instr) (a : ℕ) (stack : List Value) (under : List Turning) (variables : Variables) (offers : List Offer) (ks : List Kept) (all : Offers offers ks) (view : View)
        (has : Has code a x) (outer : past_work (class_of x) ≡ true) where
      abbrev Here : State
      Here = Bare a stack variables under view

      abbrev Does_this : Deed → Type 0
      Does_this d = deed w (Some x) Here (brought ks) ≡ d

      kept_runs : (most : ℕ) (act : Act) (now : View) → now.left ≤ most → Does_this (taken (keep names p variables (brought ks) act now) (behind Here []))
          → Brings (moves w) most (Here, brought ks) (Opened (a + 1) under) (kept names body (opening variables offers) act now)
      kept_runs most act now le e =
          by_room (nat_lt (length offers) MOST_OFFERS)
          (e ∙ ap (λ n. taken (cond (nat_lt n MOST_OFFERS) (giving with_one (wanted (bindings_at names variables) now)) (Fails TooLarge)) (behind Here [])) (pairs_length (OfferAt code slots around end) offers ks all))
        where
          with_one : Bindings → Brought
          with_one bindings = brought (ks ++ record { act = act; bindings = bindings; place = p } ∷ [])

          and_one : Bindings → Opening
          and_one bindings = opening variables (offers ++ record { act = act; bindings = bindings; body = body } ∷ [])

          by_names : (o : Option Bindings) → Does_this (taken (giving with_one (wanted o now)) (behind Here [])) → Brings (moves w) most (Here, brought ks) (Opened (a + 1) under) (giving and_one (wanted o now))
          by_names None e = tt
          by_names (Some bs) e =
              let o : Offer = record { act = act; bindings = bs; body = body } in
              let k : Kept = record { act = act; bindings = bs; place = p } in
              after (moves w) most (Here, brought ks) (At (a + 1) variables under (ks ++ k ∷ []) now) (Opened (a + 1) under) (Gives (and_one bs) now)
              (does w x a stack (frame_of variables under) view has outer (brought ks) (At (a + 1) variables under (ks ++ k ∷ []) now) e)
              (brings_here (moves w) most (At (a + 1) variables under (ks ++ k ∷ []) now) (Opened (a + 1) under) (and_one bs) now le
              (opened_so variables (offers ++ o ∷ []) (ks ++ k ∷ []) now
              (pairs_end (OfferAt code slots around end) offers ks o k all (record { act = refl; bindings = refl; after = q; block = block; jump = jump }))))

          by_room : (c : Bool) → Does_this (taken (cond c (giving with_one (wanted (bindings_at names variables) now)) (Fails TooLarge)) (behind Here []))
              → Brings (moves w) most (Here, brought ks) (Opened (a + 1) under) (cond c (giving and_one (wanted (bindings_at names variables) now)) (Fails TooLarge))
          by_room true e = by_names (bindings_at names variables) e
          by_room false e = ends_so w x a stack (frame_of variables under) view has outer (brought ks) _ e

      offer_runs : (most : ℕ) (o : Answer Act) → used.Within most o → Does_this (offers_on names p Here [] (brought ks) o)
          → Brings (moves w) most (Here, brought ks) (Opened (a + 1) under) (then_do o (kept names body (opening variables offers)))
      offer_runs most (Gives act now) le e = kept_runs most act now le e
      offer_runs most (Fails kind) le e = ends_so w x a stack (frame_of variables under) view has outer (brought ks) _ e
      offer_runs most Spent le e = ends_so w x a stack (frame_of variables under) view has outer (brought ks) _ e
      offer_runs most Amiss le e = tt

      -- the same after what was evaluated for it
      offer_fewer : (most : ℕ) → view.left ≤ most → (does : Does Act) → used.Uses does → Does_this (offers_on names p Here [] (brought ks) (does view))
          → Brings (moves w) most (Here, brought ks) (Opened (a + 1) under) (then_do (does view) (kept names body (opening variables offers)))
      offer_fewer most le does uses e = offer_runs most (does view) (used.within-less view.left most le (does view) (uses view)) e

    -- one value, and the offer by it
    by_value : (x : Instr) (f : ℕ) (under : List Turning) (variables : Variables) (offers : List Offer) (ks : List Kept) → Offers offers ks → (view : View) → Has code f x → past_work (class_of x) ≡ true
        → (stack : List Value) (s : State) (value : Answer Value) → Brings (step (setting w)) view.left s (Just (on_stack f stack (frame_of variables under) [])) value
        → (does : Value → Does Act) → ((v : Value) → used.Uses (does v))
        → ((v : Value) (now : View) → deed w (Some x) (Bare f (v ∷ stack) variables under now) (brought ks) ≡ offers_on names p (Bare f (v ∷ stack) variables under now) [] (brought ks) (does v now))
        → Brings (moves w) view.left (s, brought ks) (Opened (f + 1) under) (then_do (then_do value does) (kept names body (opening variables offers)))
    by_value x f under variables offers ks all view has outer stack s value r does uses is =
        subst (Brings (moves w) view.left (s, brought ks) (Opened (f + 1) under)) (in_order value does (kept names body (opening variables offers)))
        (first w view.left s (brought ks) (on_stack f stack (frame_of variables under) []) (Opened (f + 1) under) value (λ v now. then_do (does v now) (kept names body (opening variables offers))) r
        (λ v now le. offer_fewer x f (v ∷ stack) under variables offers ks all now has outer view.left le (does v) (uses v) (is v now)))

    comm_runs : (c : CComm) (a z : ℕ) → CommAt code slots names p c a z → Opens_here a z names (λ names. offered value_in clock names c body)
    comm_runs _ _ _ (sends t e a d f h k l) under variables offers ks all view =
        subst (Brings (moves w) view.left _ (Opened (f + 1) under)) (in_order _ (λ v now. then_do (value_in variables e now) (λ x. sent v (Some x))) (kept names body (opening variables offers)))
        (first w view.left _ (brought ks) (on_stack d [] (frame_of variables under) []) (Opened (f + 1) under) _ _
        (read_runs (setting w) run [] refl calls variables [] under slots t a d h view)
        (λ v now le. fewer (moves w) now.left view.left _ (Opened (f + 1) under) _ le
        (by_value (i.Send p names) f under variables offers ks all now l refl (v ∷ []) _ (value_in variables e now)
        (expr_runs (setting w) run [] refl calls variables e d f k (v ∷ []) under now)
        (λ x. sent v (Some x)) (λ x. uses-wanted (option_map (λ number. Send number (Some x)) (channel_of v))) (λ x new. refl))))
    comm_runs _ _ _ (sends_void t a d h l) under variables offers ks all view =
        by_value (i.SendVoid p names) d under variables offers ks all view l refl [] _ _ (read_runs (setting w) run [] refl calls variables [] under slots t a d h view)
        (λ v. sent v None) (λ v. uses-wanted (option_map (λ number. Send number None) (channel_of v))) (λ v now. refl)
    comm_runs _ _ _ (receives t slot a d h l) under variables offers ks all view =
        by_value (i.Receive p slot names) d under variables offers ks all view l refl [] _ _ (read_runs (setting w) run [] refl calls variables [] under slots t a d h view)
        (λ v. received v (Some slot)) (λ v. uses-wanted (option_map (λ number. Receive number (Some slot)) (channel_of v))) (λ v now. refl)
    comm_runs _ _ _ (receives_void t a d h l) under variables offers ks all view =
        by_value (i.ReceiveVoid p names) d under variables offers ks all view l refl [] _ _ (read_runs (setting w) run [] refl calls variables [] under slots t a d h view)
        (λ v. received v None) (λ v. uses-wanted (option_map (λ number. Receive number None) (channel_of v))) (λ v now. refl)
    comm_runs _ _ _ (delays e a d h l) under variables offers ks all view =
        by_value (i.Delay p names) d under variables offers ks all view l refl [] _ _ (expr_runs (setting w) run [] refl calls variables e a d h [] under view)
        (delayed clock) (uses-delayed clock) (λ v now. refl)
    comm_runs _ _ _ (waits_for_timer e a d h l) under variables offers ks all view =
        by_value (i.Timer p names) d under variables offers ks all view l refl [] _ _ (expr_runs (setting w) run [] refl calls variables e a d h [] under view)
        due (λ v. uses-wanted (option_map Delay (due_of v))) (λ v now. refl)

    guarded_runs : (guard : Option CExpr) (c : CComm) (a d z : ℕ) → GuardAt code z guard a d → CommAt code slots names p c d z → Opens_here a z names (λ names. guarded value_in clock guard names c body)
    guarded_runs _ c _ _ z (no_guard d) k under variables offers ks all view = comm_runs c d z k under variables offers ks all view
    guarded_runs _ c _ _ z (a_guard g a d h j) k under variables offers ks all view =
        first w view.left _ (brought ks) (on_stack d [] (frame_of variables under) []) (Opened z under) (value_in variables g view)
        (λ x. on_truth (truth_of x) (offered value_in clock names c body (opening variables offers)) (gives (opening variables offers)))
        (expr_runs (setting w) run [] refl calls variables g a d h [] under view)
        (λ x now le. truth_brings (moves w) view.left _ (At (d + 1) variables under ks now) (At z variables under ks now) (Opened z under) (truth_of x)
        (offered value_in clock names c body (opening variables offers)) (gives (opening variables offers)) now
        (two_ways w (Bare d (x ∷ []) variables under now) (Bare (d + 1) [] variables under now) (Bare z [] variables under now) (brought ks) (truth_of x) (acts (setting w) (i.IfFalse z) d (x ∷ []) (frame_of variables under) [] now j refl))
        (fewer (moves w) now.left view.left _ (Opened z under) _ le (comm_runs c (d + 1) z k under variables offers ks all now))
        (brings_here (moves w) view.left _ (Opened z under) _ now le (opened_so variables offers ks now all)))

  -- once for each element
  module _ (names own : List ℕ) (a c : ℕ) (alternatives : List (Opens value_in clock)) (next : Has code a (i.Next (c + 1) own)) (jump : Has code c (i.Jump a))
      (inner : Opens_here (a + 1) c (names ++ own) (λ names. each_opens value_in clock names alternatives)) where
    rounds : (xs : List Value) (under : List Turning) (variables : Variables) (offers : List Offer) (ks : List Kept) → Offers offers ks → (view : View)
        → Brings (moves w) view.left (At a variables (Walking xs ∷ under) ks view) (Opened (c + 1) under) (through (unwound value_in clock names own alternatives) xs (opening variables offers) view)
    rounds [] under variables offers ks all view =
        after (moves w) view.left _ (At (c + 1) variables under ks view) (Opened (c + 1) under) (Gives (opening variables offers) view)
        (lift w _ _ (brought ks) (leads_step (step (setting w)) _ _ (acts (setting w) (i.Next (c + 1) own) a [] (frame_of variables (Walking [] ∷ under)) [] view next refl)))
        (brings_here (moves w) view.left _ (Opened (c + 1) under) _ view (omega arith) (opened_so variables offers ks view all))
    rounds (x ∷ xs) under variables offers ks all view =
        opened_brings view.left _ c (Walking xs ∷ under) (Opened (c + 1) under) _ (through (unwound value_in clock names own alternatives) xs)
        (first w view.left _ (brought ks) (λ after now. Bare (a + 1) [] after (Walking xs ∷ under) now) (Opened c (Walking xs ∷ under)) (wanted (bound own x variables) view)
        (λ after. each_opens value_in clock (names ++ own) alternatives (opening after offers))
        (taken_brings (step (setting w)) view.left _ (λ after now. Bare (a + 1) [] after (Walking xs ∷ under) now) _ (uses-wanted (bound own x variables) view)
        (acts (setting w) (i.Next (c + 1) own) a [] (frame_of variables (Walking (x ∷ xs) ∷ under)) [] view next refl))
        (λ after now le. fewer (moves w) now.left view.left _ (Opened c (Walking xs ∷ under)) _ le (inner (Walking xs ∷ under) after offers ks all now)))
        (λ afterwards offers' ks' all' now le.
        after (moves w) view.left _ (At a afterwards (Walking xs ∷ under) ks' now) (Opened (c + 1) under) (through (unwound value_in clock names own alternatives) xs (opening afterwards offers') now)
        (lift w _ _ (brought ks') (leads_step (step (setting w)) _ _ (acts (setting w) (i.Jump a) c [] (frame_of afterwards (Walking xs ∷ under)) [] now jump refl)))
        (fewer (moves w) now.left view.left _ (Opened (c + 1) under) _ le (rounds xs under afterwards offers' ks' all' now)))

  mutual
    pub alts_run : (names : List ℕ) (xs : List CAlt) (p q a z : ℕ) → AltsAt code in_process slots around end names xs p q a z
        → Opens_here a z names (λ names. each_opens value_in clock names (map (opens value_in clock) xs))
    alts_run _ _ _ _ _ _ (no_alternative _ _ names p a) under variables offers ks all view = brings_here (moves w) view.left _ (Opened a under) _ view (omega arith) (opened_so variables offers ks view all)
    alts_run _ _ _ _ _ _ (one_alternative _ _ names x xs p q r a c z h k) under variables offers ks all view =
        opened_brings view.left _ c under (Opened z under) _ (each_opens value_in clock names (map (opens value_in clock) xs))
        (alt_runs names x (out-CAlt x) refl p q a c h under variables offers ks all view)
        (λ after offers' ks' all' now le. fewer (moves w) now.left view.left _ (Opened z under) _ le (alts_run names xs q r c z k under after offers' ks' all' now))

    alt_runs : (names : List ℕ) (x : CAlt) (o : CAlt-F CAlt CStat Branch) → out-CAlt x ≡ o → (p q a z : ℕ) → AltAt code in_process slots around end names o p q a z → Opens_here a z names (λ names. opens value_in clock x names)
    alt_runs _ x _ e _ _ _ _ (guarded_at _ _ names guard communication body p q a c z g k block jump) under variables offers ks all view =
        subst (Brings (moves w) view.left _ (Opened z under)) (sym (opens_guarded value_in clock names _ view x guard communication body (guarded_by x guard communication body e)))
        (guarded_runs names body p q block jump guard communication a c z g k under variables offers ks all view)
    alt_runs _ x _ is _ _ _ _ (unwinds_at _ _ names own e alternatives p q a c d h v n l j) under variables offers ks all view =
        subst (Brings (moves w) view.left _ (Opened (d + 1) under)) (sym (opens_unwind value_in clock names _ view x own e alternatives (unwinds_by x own e alternatives is)))
        (first w view.left _ (brought ks) (on_stack c [] (frame_of variables under) []) (Opened (d + 1) under) (value_in variables e view)
        (λ x now. then_do (wanted (elements_of x) now) (λ xs. through (unwound value_in clock names own (map (opens value_in clock) alternatives)) xs (opening variables offers)))
        (expr_runs (setting w) run [] refl calls variables e a c h [] under view)
        (λ x now le. first w view.left _ (brought ks) (λ xs new. Bare (c + 1) [] variables (Walking xs ∷ under) new) (Opened (d + 1) under) (wanted (elements_of x) now)
        (λ xs. through (unwound value_in clock names own (map (opens value_in clock) alternatives)) xs (opening variables offers))
        (fewer (step (setting w)) now.left view.left _ (Just (λ xs new. Bare (c + 1) [] variables (Walking xs ∷ under) new)) _ le
        (taken_brings (step (setting w)) now.left _ (λ xs new. Bare (c + 1) [] variables (Walking xs ∷ under) new) _ (uses-wanted (elements_of x) now)
        (acts (setting w) i.Walk c (x ∷ []) (frame_of variables under) [] now v refl)))
        (λ xs new le'. fewer (moves w) new.left view.left _ (Opened (d + 1) under) _ le'
        (rounds names own (c + 1) d (map (opens value_in clock) alternatives) n j (alts_run (names ++ own) alternatives p q (c + 1 + 1) d l) xs under variables offers ks all new))))
