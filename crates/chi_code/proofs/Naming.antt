-- What the instructions of a sound program name is there.
use Rattle.std.proofs.Common.{◌≡◌, ℕ, suc, ◌+◌, ◌≤◌, ◌<◌, ◌⊎◌, inl, inr, Bool, true, false, List, [], ◌∷◌, ◌++◌, length, Option, Some, map, refl, sym, ap, subst, ◌∙◌, arith}
use Rattle.std.proofs.lemmas.Bool.{cases_lt}
use Rattle.std.specs.Prelude.{slice_get, IsTrue, pos, is_some}
use Rattle.chi_types.specs.declared.ty.Ty.{Ty, Ty-F, out-Ty}
use Rattle.chi_value.specs.declared.value.Value.{Value, Value-F, out-Value, map-Value, fold_out-Value}
use Rattle.chi_value.specs.declared.value.Value.TheVariants as value
use Rattle.chi_value.specs.Plain.{is_plain, plain_step, within, within_step}
use Rattle.chi_core.specs.declared.communication.CComm.{CComm}
use Rattle.chi_core.specs.declared.element.CElem.{CElem, CElem-F, out-CElem}
use Rattle.chi_core.specs.declared.expression.CExpr.{CExpr, CExpr-F, out-CExpr}
use Rattle.chi_core.specs.declared.expression.CExpr.TheVariants as expression
use Rattle.chi_core.specs.declared.target.CStep.{CStep}
use Rattle.std.proofs.lemmas.Option.{slice_get_within}
use Rattle.chi_value.specs.declared.names.Names.{Names}
use Rattle.chi_core.specs.Kinds.{Kind, kind_of, Every}
use Rattle.chi_core.specs.Sound.{Sound, SoundConstant, SoundFunction, SoundProcess, nothing_known}
use Rattle.chi_code.specs.declared.code.Code.{Code}
use Rattle.chi_code.specs.Codes.{in_function, in_process, ConstsAt, no_constant, one_constant, FuncsAt, no_function, one_function, ProcsAt, no_process, one_process, Codes}
use Rattle.chi_core.specs.Scopes.{Scope, constant_scope, function_home, process_home}
use Rattle.chi_core.specs.SetSlots.{Known}
use Rattle.chi_core.specs.SoundExpressions as k
use Rattle.chi_core.specs.SoundExpressions.{LiteralKind, HasKind, HaveKinds, stream_operand}
use Rattle.chi_core.specs.declared.program.ConstDef.{ConstDef}
use Rattle.chi_core.specs.declared.program.Core.{Core}
use Rattle.chi_core.specs.declared.program.FuncDef.{FuncDef}
use Rattle.chi_core.specs.declared.program.ProcDef.{ProcDef}
use Rattle.chi_core.specs.declared.statement.Branch.{Branch, out-Branch}
use Rattle.chi_core.specs.declared.statement.CAlt.{CAlt, CAlt-F, out-CAlt}
use Rattle.chi_core.specs.declared.statement.CStat.{CStat, CStat-F, out-CStat}
use Rattle.chi_core.specs.declared.target.CTarget.{CTarget}
use Rattle.chi_core.specs.SetSlots.{also_all, sets, params_known}
use Rattle.chi_core.specs.SoundParts as q
use Rattle.chi_core.specs.SoundParts.{StepsLead, SlotsTakeParts, SlotsTake, TargetTakes, TargetsTake, TakesInstance, SoundComm, SoundGuard, SoundElements, SoundElement}
use Rattle.chi_core.specs.SoundStatements as t
use Rattle.chi_core.specs.SoundStatements.{SoundStat, SoundBlock, SoundBranches, SoundAlternatives, SoundAlternative}
use Rattle.chi_code.specs.declared.code.Around.{Around}
use Rattle.chi_code.specs.declared.code.Entry.{Entry}
use Rattle.chi_code.specs.Aims.{aim_of, step_indexes, indexes_of, some_aim, some_indexes}
use Rattle.chi_code.specs.StatementLayout.{IntoAt, no_step, into_list, into_dictionary, into_tuple, ReadAt, reads, GuardAt, no_guard, a_guard, CommAt, sends, sends_void, receives, receives_void, delays, waits_for_timer, ElemAt, makes, unwinds_elements, ElemsAt, no_element, one_element, SpreadAt, no_spread, a_spread, StatAt, declares, assigns, chooses, loops, walks, breaks, leaves, continues, passes, returns, exits_with, exits, writes, selects, runs, starts, finishes, loop, walk, BranchesAt, last, branch, BlockAt, no_statement, one_statement, AltsAt, no_alternative, one_alternative, AltAt, guarded, unwinds}
use Rattle.chi_code.specs.declared.instr.Instr.{Instr}
use Rattle.chi_code.specs.declared.instr.Instr.TheVariants as i
use Rattle.chi_code.specs.Naming.{SlotsWithin, AimsWithin, AimWithin, Named}
use Rattle.chi_code.specs.ExpressionLayout.{Has, ExprAt, literal, variable, constant, operation, both, either, container, part, call, insertion, fresh, repetition, ExprsAt, no_expression, one_expression}

abbrev Told : List (List (List ℕ)) → Value → Type 0
Told names v = IsTrue (is_plain v) × IsTrue (within names v)

literal_layer : (names : List (List (List ℕ))) (v : Value) (o : Value-F Value) (T : Kind) → LiteralKind names o T → out-Value v ≡ o → Told names v
literal_layer names v _ _ (k.bool b) h = (fold_out-Value Bool plain_step v ∙ ap (λ o. plain_step (map-Value _ _ is_plain o)) h, fold_out-Value Bool (within_step names) v ∙ ap (λ o. within_step names (map-Value _ _ (within names) o)) h)
literal_layer names v _ _ (k.int n) h = (fold_out-Value Bool plain_step v ∙ ap (λ o. plain_step (map-Value _ _ is_plain o)) h, fold_out-Value Bool (within_step names) v ∙ ap (λ o. within_step names (map-Value _ _ (within names) o)) h)
literal_layer names v _ _ (k.real u) h = (fold_out-Value Bool plain_step v ∙ ap (λ o. plain_step (map-Value _ _ is_plain o)) h, fold_out-Value Bool (within_step names) v ∙ ap (λ o. within_step names (map-Value _ _ (within names) o)) h)
literal_layer names v _ _ (k.text bytes short) h = (fold_out-Value Bool plain_step v ∙ ap (λ o. plain_step (map-Value _ _ is_plain o)) h, fold_out-Value Bool (within_step names) v ∙ ap (λ o. within_step names (map-Value _ _ (within names) o)) h)
literal_layer names v _ _ (k.choice e p name is) h = (fold_out-Value Bool plain_step v ∙ ap (λ o. plain_step (map-Value _ _ is_plain o)) h, fold_out-Value Bool (within_step names) v ∙ ap (λ o. within_step names (map-Value _ _ (within names) o)) h ∙ ap is_some is)

-- each instruction from a to before b has a property
record Each (c : List Instr) (P : Instr → Type 0) (a b : ℕ) : Type 0 where
  each : (p : ℕ) → a ≤ p → p < b → (x : Instr) → Has c p x → P x

module _ (c : List Instr) (P : Instr → Type 0) where
  each_of_none : (a : ℕ) → Each c P a a
  each_of_none a = record { each = λ p h l. absurd (omega (arith, h, l)) }

  same_of : (o : Option Instr) (x y : Instr) → o ≡ Some x → o ≡ Some y → x ≡ y
  same_of o x y h l = cc

  each_of_one : (a : ℕ) (x : Instr) → Has c a x → P x → Each c P a (a + 1)
  each_of_one a x h g = record { each = λ p l m y t. let here : p ≡ a = omega (arith, l, m) in subst P (same_of (slice_get c a) x y h (ap (slice_get c) (sym here) ∙ t)) g }

  sides : (a b n : ℕ) → Each c P a b → Each c P b n → (p : ℕ) → (p < b) ⊎ (b ≤ p) → a ≤ p → p < n → (x : Instr) → Has c p x → P x
  sides a b n h l p (inl m) q r x t = h.each p q m x t
  sides a b n h l p (inr m) q r x t = l.each p m r x t

  each_joined : (a b n : ℕ) → Each c P a b → Each c P b n → Each c P a n
  each_joined a b n h l = record { each = λ p q r x t. sides a b n h l p (cases_lt p b) q r x t }

within_append : (n : ℕ) (xs ys : List ℕ) → SlotsWithin n xs → SlotsWithin n ys → SlotsWithin n (xs ++ ys)
within_append n [] ys h k = k
within_append n (x ∷ xs) ys h k = (h.0, within_append n xs ys h.1 k)

module _ (c : List Instr) (scope : Scope) where
  abbrev names : List (List (List ℕ))
  names = scope.core.names.kinds

  abbrev count : ℕ
  count = length scope.slots

  abbrev Good : Instr → Type 0
  Good = Named scope.core count

  abbrev Fine : ℕ → ℕ → Type 0
  Fine = Each c Good

  none : (a : ℕ) → Fine a a
  none = each_of_none c Good

  one : (a : ℕ) (x : Instr) → Has c a x → Good x → Fine a (a + 1)
  one = each_of_one c Good

  next : (a b n : ℕ) → Fine a b → Fine b n → Fine a n
  next = each_joined c Good

  parts_within : (slots : List ℕ) (parts : List (List ℕ × Ty)) → SlotsTakeParts scope slots parts → SlotsWithin count slots
  parts_within _ _ q.no_slot = tt
  parts_within _ _ (q.one_slot slot slots p parts is r) = (slice_get_within scope.slots slot (out-Ty p.1) is, parts_within slots parts r)

  -- the slots that a walk binds are there
  walked_within : (slots : List ℕ) (T : Kind) → SlotsTake scope slots T → SlotsWithin count slots
  walked_within _ _ (q.element_itself slot T is) = (slice_get_within scope.slots slot T is, tt)
  walked_within _ _ (q.its_parts slot other slots parts r) = parts_within (slot ∷ other ∷ slots) parts r

  target_within : (known : Known) (slot : ℕ) (steps : List CStep) (T : Kind) → TargetTakes scope known slot steps T → slot < count
  target_within known slot _ _ (q.whole T is) = slice_get_within scope.slots slot T is
  target_within known slot _ _ (q.within s steps T U set is r) = slice_get_within scope.slots slot T is

  targets_within : (known : Known) (ts : List CTarget) (Ts : List Kind) → TargetsTake scope known ts Ts → AimsWithin count (map aim_of ts)
  targets_within known _ _ q.no_target = tt
  targets_within known _ _ (q.one_target t ts T Ts g r) = (target_within known t.slot t.steps T g, targets_within known ts Ts r)

  instance_within : (known : Known) (o : Option CTarget) → TakesInstance scope known o → AimWithin count (some_aim o)
  instance_within known _ q.nowhere = tt
  instance_within known _ (q.target t g) = target_within known t.slot t.steps Ty-F.Inst g

  kinds_snoc : (known : Known) (es : List CExpr) (Ts : List Kind) (x : CExpr) (T : Kind) → HaveKinds scope known es Ts → HasKind scope known (out-CExpr x) T → HaveKinds scope known (es ++ x ∷ []) (Ts ++ T ∷ [])
  kinds_snoc known _ _ x T k.no_expression h = k.one_expression x [] T [] h k.no_expression
  kinds_snoc known _ _ x T (k.one_expression e es U Us g r) h = k.one_expression e (es ++ x ∷ []) U (Us ++ T ∷ []) g (kinds_snoc known es Us x T r h)

  stream_kind : (known : Known) (stream : ℕ) → HasKind scope known (out-CExpr (stream_operand stream)) Ty-F.Int
  stream_kind known stream = subst (λ o. HasKind scope known o Ty-F.Int) (sym (expression.outs-Lit (value.Int (pos stream))))
      (k.literal (value.Int (pos stream)) Ty-F.Int (subst (λ o. LiteralKind names o Ty-F.Int) (sym (value.outs-Int (pos stream))) (k.int (pos stream))))

  mutual
    fine_layer : (known : Known) (o : CExpr-F CExpr) (T : Kind) (a b : ℕ) → HasKind scope known o T → ExprAt c o a b → Fine a b
    fine_layer known _ _ _ _ (k.literal v T g) (literal _ a h) = one a (i.Push v) h (literal_layer names v (out-Value v) T g refl)
    fine_layer known _ _ _ _ (k.variable slot T s g) (variable _ a h) = one a _ h (slice_get_within scope.slots slot T g)
    fine_layer known _ _ _ _ (k.constant number d s g) (constant _ a h) = one a _ h (slice_get_within scope.core.consts number d s)
    fine_layer known _ _ _ _ (k.operation name es Ts T r s t g) (operation _ _ a b h l) = next a b (b + 1) (fine_exprs known es Ts a b g h) (one b _ l tt)
    fine_layer known _ _ _ _ (k.distribution name es operands Ts T stream is r s g t) (operation _ _ a b h l) =
        next a b (b + 1) (fine_exprs known es (Ts ++ Ty-F.Int ∷ []) a b (subst (λ xs. HaveKinds scope known xs (Ts ++ Ty-F.Int ∷ [])) (sym is) (kinds_snoc known operands Ts (stream_operand stream) Ty-F.Int g (stream_kind known stream))) h)
        (one b _ l tt)
    fine_layer known _ _ _ _ (k.both f g hf hg) (both _ _ a b n h l m) =
        next a b n (fine_layer known (out-CExpr f) _ a b hf h) (next b (b + 1) n (one b _ l tt) (fine_layer known (out-CExpr g) _ (b + 1) n hg m))
    fine_layer known _ _ _ _ (k.either f g hf hg) (either _ _ a b n h l m) =
        next a b n (fine_layer known (out-CExpr f) _ a b hf h) (next b (b + 1) n (one b _ l tt) (fine_layer known (out-CExpr g) _ (b + 1) n hg m))
    fine_layer known _ _ _ _ (k.tuple_literal es ts g) (container kind _ a b h l) = next a b (b + 1) (fine_exprs known es _ a b g h) (one b _ l tt)
    fine_layer known _ _ _ _ (k.list_literal es t g) (container kind _ a b h l) = next a b (b + 1) (fine_exprs known es _ a b g h) (one b _ l tt)
    fine_layer known _ _ _ _ (k.set_literal es t p g) (container kind _ a b h l) = next a b (b + 1) (fine_exprs known es _ a b g h) (one b _ l tt)
    fine_layer known _ _ _ _ (k.dictionary_literal es key has entries p g) (container kind _ a b h l) = next a b (b + 1) (fine_exprs known es _ a b g h) (one b _ l tt)
    fine_layer known _ _ _ _ (k.part x number parts p g s) (part _ _ a b h l) = next a b (b + 1) (fine_layer known (out-CExpr x) _ a b g h) (one b _ l tt)
    fine_layer known _ _ _ _ (k.call number es f s m g) (call _ _ a b h l) = next a b (b + 1) (fine_exprs known es _ a b g h) (one b _ l (slice_get_within scope.core.funcs number f s))
    fine_layer known _ _ _ _ (k.insertion xs x number t f s m ps r gx g) (insertion _ _ _ a b n h l sc pr ca fo pl) =
        next a b _ (fine_layer known (out-CExpr xs) _ a b gx h) (next b n _ (fine_layer known (out-CExpr x) _ b n g l)
        (next n (n + 1) _ (one n _ sc tt) (next (n + 1) (n + 1 + 1) _ (one (n + 1) _ pr tt) (next (n + 1 + 1) (n + 1 + 1 + 1) _ (one (n + 1 + 1) _ ca (slice_get_within scope.core.funcs number f s))
        (next (n + 1 + 1 + 1) (n + 1 + 1 + 1 + 1) _ (one (n + 1 + 1 + 1) _ fo tt) (one (n + 1 + 1 + 1 + 1) _ pl tt))))))
    fine_layer known _ _ _ _ (k.fresh_default shape T s m) (fresh _ a h) = one a _ h tt
    fine_layer known _ _ _ _ (k.repetition x y t gx gy) (repetition _ _ a b n h r m l ad j) =
        next a b _ (fine_layer known (out-CExpr x) _ a b gx h) (next b (b + 1) _ (one b _ r tt) (next (b + 1) (b + 1 + 1) _ (one (b + 1) _ m tt)
        (next (b + 1 + 1) n _ (fine_layer known (out-CExpr y) _ (b + 1 + 1) n gy l) (next n (n + 1) _ (one n _ ad tt) (one (n + 1) _ j tt)))))

    fine_exprs : (known : Known) (es : List CExpr) (Ts : List Kind) (a b : ℕ) → HaveKinds scope known es Ts → ExprsAt c es a b → Fine a b
    fine_exprs known _ _ _ _ k.no_expression (no_expression a) = none a
    fine_exprs known _ _ _ _ (k.one_expression x xs T Ts g r) (one_expression _ _ a b n h l) = next a b n (fine_layer known (out-CExpr x) T a b g h) (fine_exprs known xs Ts b n r l)

  kinds_append : (known : Known) (es fs : List CExpr) (Ts Us : List Kind) → HaveKinds scope known es Ts → HaveKinds scope known fs Us → HaveKinds scope known (es ++ fs) (Ts ++ Us)
  kinds_append known _ fs _ Us k.no_expression h = h
  kinds_append known _ fs _ Us (k.one_expression e es T Ts g r) h = k.one_expression e (es ++ fs) T (Ts ++ Us) g (kinds_append known es fs Ts Us r h)

  pub steps_kinds : (known : Known) (steps : List CStep) (T U : Kind) → StepsLead scope known steps T U → (Ts : List Kind) × HaveKinds scope known (step_indexes steps) Ts
  steps_kinds known _ _ _ (q.no_step T) = ([], k.no_expression)
  steps_kinds known _ _ _ (q.into_list e steps t U g r) = let m = steps_kinds known steps (out-Ty t) U r in (Ty-F.Int ∷ m.0, k.one_expression e (step_indexes steps) Ty-F.Int m.0 g m.1)
  steps_kinds known _ _ _ (q.into_dictionary e steps key has U g r) = let m = steps_kinds known steps (out-Ty has) U r in (out-Ty key ∷ m.0, k.one_expression e (step_indexes steps) (out-Ty key) m.0 g m.1)
  steps_kinds known _ _ _ (q.into_tuple number steps parts p U is r) = steps_kinds known steps (out-Ty p.1) U r

  target_kinds : (known : Known) (slot : ℕ) (steps : List CStep) (T : Kind) → TargetTakes scope known slot steps T → (Ts : List Kind) × HaveKinds scope known (step_indexes steps) Ts
  target_kinds known slot _ _ (q.whole T is) = ([], k.no_expression)
  target_kinds known slot _ _ (q.within s steps T U set is r) = steps_kinds known (s ∷ steps) T U r

  pub targets_kinds : (known : Known) (ts : List CTarget) (Ts : List Kind) → TargetsTake scope known ts Ts → (Us : List Kind) × HaveKinds scope known (indexes_of ts) Us
  targets_kinds known _ _ q.no_target = ([], k.no_expression)
  targets_kinds known _ _ (q.one_target t ts T Ts g r) =
      let m = target_kinds known t.slot t.steps T g in
      let n = targets_kinds known ts Ts r in
      (m.0 ++ n.0, kinds_append known (step_indexes t.steps) (indexes_of ts) m.0 n.0 m.1 n.1)

  pub instance_kinds : (known : Known) (o : Option CTarget) → TakesInstance scope known o → (Us : List Kind) × HaveKinds scope known (some_indexes o) Us
  instance_kinds known _ q.nowhere = ([], k.no_expression)
  instance_kinds known _ (q.target t g) = target_kinds known t.slot t.steps Ty-F.Inst g

  fine_into : (known : Known) (T : Ty-F Ty) (steps : List CStep) (K U : Kind) (a b : ℕ) → StepsLead scope known steps K U → IntoAt c T steps a b → Fine a b
  fine_into known _ _ _ _ _ _ (q.no_step K) (no_step T a) = none a
  fine_into known _ _ _ _ _ _ (q.into_list e steps t U g r) (into_list t' _ _ a b n h l m) = next a b n (fine_layer known (out-CExpr e) _ a b g h) (next b (b + 1) n (one b _ l tt) (fine_into known (out-Ty t') steps (out-Ty t) U (b + 1) n r m))
  fine_into known _ _ _ _ _ _ (q.into_list e steps t U g r) (into_dictionary key t' _ _ a b n h l m) = next a b n (fine_layer known (out-CExpr e) _ a b g h) (next b (b + 1) n (one b _ l tt) (fine_into known (out-Ty t') steps (out-Ty t) U (b + 1) n r m))
  fine_into known _ _ _ _ _ _ (q.into_dictionary e steps key has U g r) (into_list t' _ _ a b n h l m) = next a b n (fine_layer known (out-CExpr e) _ a b g h) (next b (b + 1) n (one b _ l tt) (fine_into known (out-Ty t') steps (out-Ty has) U (b + 1) n r m))
  fine_into known _ _ _ _ _ _ (q.into_dictionary e steps key has U g r) (into_dictionary key' t' _ _ a b n h l m) = next a b n (fine_layer known (out-CExpr e) _ a b g h) (next b (b + 1) n (one b _ l tt) (fine_into known (out-Ty t') steps (out-Ty has) U (b + 1) n r m))
  fine_into known _ _ _ _ _ _ (q.into_tuple number steps parts p U is r) (into_tuple parts' p' _ _ a n is' h l) = next a (a + 1) n (one a _ h tt) (fine_into known (out-Ty p'.1) steps (out-Ty p.1) U (a + 1) n r l)

  fine_read : (known : Known) (slots : List Ty) (t : CTarget) (K U : Kind) (a b : ℕ) → slice_get scope.slots t.slot ≡ Some K → StepsLead scope known t.steps K U → ReadAt c slots t a b → Fine a b
  fine_read known slots t K U _ _ there g (reads T a b is h l) = next a (a + 1) b (one a _ h (slice_get_within scope.slots t.slot K there)) (fine_into known (out-Ty T) t.steps K U (a + 1) b g l)

  fine_comm : (known : Known) (slots : List Ty) (ns : List ℕ) (p : ℕ) (o : CComm) (a b : ℕ) → SlotsWithin count ns → SoundComm scope known o → CommAt c slots ns p o a b → Fine a b
  fine_comm known slots ns p _ _ _ inside (q.sends t e element ch v g) (sends _ _ a b n h l m) = next a b _ (fine_read known slots t _ _ a b ch.is ch.steps h) (next b n _ (fine_layer known (out-CExpr e) _ b n g l) (one n _ m inside))
  fine_comm known slots ns p _ _ _ inside (q.sends_void t element ch v) (sends_void _ a b h m) = next a b _ (fine_read known slots t _ _ a b ch.is ch.steps h) (one b _ m inside)
  fine_comm known slots ns p _ _ _ inside (q.receives t slot element ch v is) (receives _ _ a b h m) = next a b _ (fine_read known slots t _ _ a b ch.is ch.steps h) (one b _ m (slice_get_within scope.slots slot (out-Ty element) is, inside))
  fine_comm known slots ns p _ _ _ inside (q.receives_void t element ch v) (receives_void _ a b h m) = next a b _ (fine_read known slots t _ _ a b ch.is ch.steps h) (one b _ m inside)
  fine_comm known slots ns p _ _ _ inside (q.delays e g) (delays _ a b h m) = next a b _ (fine_layer known (out-CExpr e) _ a b g h) (one b _ m inside)
  fine_comm known slots ns p _ _ _ inside (q.waits_for_timer e g) (waits_for_timer _ a b h m) = next a b _ (fine_layer known (out-CExpr e) _ a b g h) (one b _ m inside)

  fine_guard : (known : Known) (end : ℕ) (o : Option CExpr) (a b : ℕ) → SoundGuard scope known o → GuardAt c end o a b → Fine a b
  fine_guard known end _ _ _ q.no_guard (no_guard a) = none a
  fine_guard known end _ _ _ (q.a_guard e g) (a_guard _ a b h l) = next a b _ (fine_layer known (out-CExpr e) _ a b g h) (one b _ l tt)

  fine_spread : (targets : List CTarget) (es : List CExpr) (a b : ℕ) → SpreadAt c targets es a b → Fine a b
  fine_spread targets es _ _ (no_spread a is) = none a
  fine_spread targets es _ _ (a_spread a is h) = one a _ h tt

  mutual
    fine_element : (exit : Option Kind) (known : Known) (o : CElem-F CElem) (a b : ℕ) → SoundElement scope exit known o → ElemAt c o a b → Fine a b
    fine_element exit _ _ _ _ (q.makes known target number es d is may g takes) (makes _ _ _ a b n h l m) =
        let u = instance_kinds known target takes in
        next a b _ (fine_exprs known es _ a b g h) (next b n _ (fine_exprs known (some_indexes target) u.0 b n u.1 l) (one n _ m (slice_get_within scope.core.procs number d is, instance_within known target takes)))
    fine_element exit _ _ _ _ (q.unwinds known slots x elements w g) (unwinds_elements _ _ _ a b n h l m r j) =
        next a b _ (fine_layer known (out-CExpr x) _ a b w.has_kind h) (next b (b + 1) _ (one b _ l tt) (next (b + 1) (b + 1 + 1) _ (one (b + 1) _ m (walked_within slots w.element w.take))
        (next (b + 1 + 1) n _ (fine_elements exit (also_all slots known) elements (b + 1 + 1) n g r) (one n _ j tt))))

    fine_elements : (exit : Option Kind) (known : Known) (xs : List CElem) (a b : ℕ) → SoundElements scope exit known xs → ElemsAt c xs a b → Fine a b
    fine_elements exit _ _ _ _ (q.no_element known) (no_element a) = none a
    fine_elements exit _ _ _ _ (q.one_element known x xs g r) (one_element _ _ a b n h l) = next a b n (fine_element exit known (out-CElem x) a b g h) (fine_elements exit known xs b n r l)

  module _ (turn : ℕ → Instr) (fair : (line : ℕ) → Good (turn line)) (slots : List Ty) where
    mutual
      fine_statement : (lp : Bool) (known : Known) (around : List Around) (o : CStat-F CAlt CStat Branch) (a b : ℕ) → SoundStat scope lp known o → StatAt c turn slots around o a b → Fine a b
      fine_statement _ _ _ _ _ _ (t.declares lp known line slot e T is may g) (declares around _ _ _ a b s h l) = next a (a + 1) _ (one a _ s (fair line)) (next (a + 1) b _ (fine_layer known (out-CExpr e) T (a + 1) b g h) (one b _ l (slice_get_within scope.slots slot T is)))
      fine_statement _ _ _ _ _ _ (t.assigns lp known line targets es Ts g r) (assigns around _ _ _ a b n m s h l u v) =
          let w = targets_kinds known targets Ts r in
          next a (a + 1) _ (one a _ s (fair line)) (next (a + 1) b _ (fine_exprs known es Ts (a + 1) b g h) (next b n _ (fine_spread targets es b n l) (next n m _ (fine_exprs known (indexes_of targets) w.0 n m w.1 u) (one m _ v (targets_within known targets Ts r)))))
      fine_statement _ _ _ _ _ _ (t.spreads lp known line t1 t2 more e parts g r) (assigns around _ targets es a b n m s h l u v) =
          let w = targets_kinds known targets _ r in
          next a (a + 1) _ (one a _ s (fair line)) (next (a + 1) b _ (fine_exprs known es (Ty-F.TupleOf parts ∷ []) (a + 1) b (k.one_expression e [] (Ty-F.TupleOf parts) [] g k.no_expression) h)
          (next b n _ (fine_spread targets es b n l) (next n m _ (fine_exprs known (indexes_of targets) w.0 n m w.1 u) (one m _ v (targets_within known targets _ r)))))
      fine_statement _ _ _ _ _ _ (t.chooses lp known line bs otherwise g r) (chooses around _ _ _ a b s h) = next a (a + 1) b (one a _ s (fair line)) (fine_branches lp known around b bs otherwise (a + 1) g r h)
      fine_statement _ _ _ _ _ _ (t.loops lp known line test block g r) (loops around _ _ _ _ _ (loop _ _ _ _ a b n s h l m j)) =
          next a (a + 1) _ (one a _ s (fair line)) (next (a + 1) b _ (fine_layer known (out-CExpr test) _ (a + 1) b g h) (next b (b + 1) _ (one b _ l tt) (next (b + 1) n _ (fine_block true known _ block (b + 1) n r m) (one n _ j tt))))
      fine_statement _ _ _ _ _ _ (t.walks lp known line ns x block w r) (walks around _ _ _ _ a b _ s h l (walk _ _ _ _ _ n s2 m u j)) =
          next a (a + 1) _ (one a _ s (fair line)) (next (a + 1) b _ (fine_layer known (out-CExpr x) _ (a + 1) b w.has_kind h) (next b (b + 1) _ (one b _ l tt) (next (b + 1) (b + 1 + 1) _ (one (b + 1) _ s2 (fair line))
          (next (b + 1 + 1) (b + 1 + 1 + 1) _ (one (b + 1 + 1) _ m (walked_within ns w.element w.take)) (next (b + 1 + 1 + 1) n _ (fine_block true (also_all ns known) _ block (b + 1 + 1 + 1) n r u) (one n _ j tt))))))
      fine_statement _ _ _ _ _ _ (t.breaks known line) (breaks around _ top end a s l) = next a (a + 1) _ (one a _ s (fair line)) (one (a + 1) _ l tt)
      fine_statement _ _ _ _ _ _ (t.breaks known line) (leaves around _ top end a s l j) = next a (a + 1) _ (one a _ s (fair line)) (next (a + 1) (a + 1 + 1) _ (one (a + 1) _ l tt) (one (a + 1 + 1) _ j tt))
      fine_statement _ _ _ _ _ _ (t.continues known line) (continues lo around _ a s l) = next a (a + 1) _ (one a _ s (fair line)) (one (a + 1) _ l tt)
      fine_statement _ _ _ _ _ _ (t.passes lp known line) (passes around _ a s) = one a _ s (fair line)
      fine_statement _ _ _ _ _ _ (t.returns lp known line e T role g) (returns around _ _ a b s h l) = next a (a + 1) _ (one a _ s (fair line)) (next (a + 1) b _ (fine_layer known (out-CExpr e) T (a + 1) b g h) (one b _ l tt))
      fine_statement _ _ _ _ _ _ (t.exits lp known line _ exit role (q.with_value e T g plain)) (exits_with around _ _ a b s h l) = next a (a + 1) _ (one a _ s (fair line)) (next (a + 1) b _ (fine_layer known (out-CExpr e) T (a + 1) b g h) (one b _ l tt))
      fine_statement _ _ _ _ _ _ (t.exits lp known line _ exit role q.without_value) (exits around _ a s l) = next a (a + 1) _ (one a _ s (fair line)) (one (a + 1) _ l tt)
      fine_statement _ _ _ _ _ _ (t.writes lp known line pieces es exit Ts role g shows) (writes around _ _ _ a b s h l) = next a (a + 1) _ (one a _ s (fair line)) (next (a + 1) b _ (fine_exprs known es Ts (a + 1) b g h) (one b _ l tt))
      fine_statement _ _ _ _ _ _ (t.selects lp known line alternatives exit role g) (selects around _ _ a b end s h l) =
          let u = fine_alternatives lp known around end [] alternatives (b + 1) end (a + 1) b tt g h in
          next a (a + 1) _ (one a _ s (fair line)) (next (a + 1) b _ u.0 (next b (b + 1) end (one b _ l tt) u.1))
      fine_statement _ _ _ _ _ _ (t.runs lp known line elements exit role g) (runs around _ _ a b s h l) = next a (a + 1) _ (one a _ s (fair line)) (next (a + 1) b _ (fine_elements exit known elements (a + 1) b g h) (one b _ l tt))
      fine_statement _ _ _ _ _ _ (t.starts lp known line elements exit role g) (starts around _ _ a b s h) = next a (a + 1) b (one a _ s (fair line)) (fine_elements exit known elements (a + 1) b g h)
      fine_statement _ _ _ _ _ _ (t.finishes lp known line es exit role g) (finishes around _ _ a b s h l) = next a (a + 1) _ (one a _ s (fair line)) (next (a + 1) b _ (fine_exprs known es _ (a + 1) b g h) (one b _ l tt))

      fine_branches : (lp : Bool) (known : Known) (around : List Around) (end : ℕ) (bs : List Branch) (otherwise : List CStat) (a : ℕ) → SoundBranches scope lp known bs → SoundBlock scope lp known otherwise
          → BranchesAt c turn slots around end bs otherwise a → Fine a end
      fine_branches _ _ _ _ _ otherwise _ (t.no_branch lp known) r (last around _ a end h) = fine_block lp known around otherwise a end r h
      fine_branches _ _ _ _ _ otherwise _ (t.one_branch lp known x xs g gb gr) r (branch around _ _ _ a b n end h l m j u) =
          next a b end (fine_layer known (out-CExpr (out-Branch x).test) _ a b g h) (next b (b + 1) end (one b _ l tt) (next (b + 1) n end (fine_block lp known around (out-Branch x).block (b + 1) n gb m)
          (next n (n + 1) end (one n _ j tt) (fine_branches lp known around end xs otherwise (n + 1) gr r u))))

      fine_block : (lp : Bool) (known : Known) (around : List Around) (xs : List CStat) (a b : ℕ) → SoundBlock scope lp known xs → BlockAt c turn slots around xs a b → Fine a b
      fine_block _ _ _ _ _ _ (t.no_statement lp known) (no_statement around a) = none a
      fine_block _ _ _ _ _ _ (t.one_statement lp known x xs g r) (one_statement around _ _ a b n h l) = next a b n (fine_statement lp known around (out-CStat x) a b g h) (fine_block lp (sets (out-CStat x) known) around xs b n r l)

      fine_alternatives : (lp : Bool) (known : Known) (around : List Around) (end : ℕ) (ns : List ℕ) (xs : List CAlt) (p p' a b : ℕ) → SlotsWithin count ns → SoundAlternatives scope lp known xs → AltsAt c turn slots around end ns xs p p' a b → Fine a b × Fine p p'
      fine_alternatives _ _ _ _ _ _ _ _ _ _ inside (t.no_alternative lp known) (no_alternative around end ns p a) = (none a, none p)
      fine_alternatives _ _ _ _ _ _ _ _ _ _ inside (t.one_alternative lp known x xs g r) (one_alternative around end ns _ _ p p' m a b n h l) =
          let u = fine_alternative lp known around end ns (out-CAlt x) p p' a b inside g h in
          let v = fine_alternatives lp known around end ns xs p' m b n inside r l in
          (next a b n u.0 v.0, next p p' m u.1 v.1)

      fine_alternative : (lp : Bool) (known : Known) (around : List Around) (end : ℕ) (ns : List ℕ) (o : CAlt-F CAlt CStat Branch) (p p' a b : ℕ) → SlotsWithin count ns → SoundAlternative scope lp known o → AltAt c turn slots around end ns o p p' a b → Fine a b × Fine p p'
      fine_alternative _ _ _ _ _ _ _ _ _ _ inside (t.guarded lp known guard communication block gg gc gb) (guarded around end ns _ _ _ p p' a b n h l m j) =
          (next a b n (fine_guard known n guard a b gg h) (fine_comm known slots ns p communication b n inside gc l), next p p' _ (fine_block lp known around block p p' gb m) (one p' _ j tt))
      fine_alternative _ _ _ _ _ _ _ _ _ _ inside (t.unwinds lp known own x alternatives w g) (unwinds around end ns _ _ _ p p' a b n h l m r j) =
          let u = fine_alternatives lp (also_all own known) around end (ns ++ own) alternatives p p' (b + 1 + 1) n (within_append count ns own inside (walked_within own w.element w.take)) g r in
          (next a b _ (fine_layer known (out-CExpr x) _ a b w.has_kind h) (next b (b + 1) _ (one b _ l tt) (next (b + 1) (b + 1 + 1) _ (one (b + 1) _ m (walked_within own w.element w.take)) (next (b + 1 + 1) n _ u.0 (one n _ j tt)))), u.1)

length_map : {A B : Type 0} (f : A → B) (xs : List A) → length (map f xs) ≡ length xs
length_map f [] = refl
length_map f (x ∷ xs) = ap suc (length_map f xs)

each_as : (c : List Instr) (P Q : Instr → Type 0) (a b : ℕ) → ((x : Instr) → P x → Q x) → Each c P a b → Each c Q a b
each_as c P Q a b f h = record { each = λ p l m x t. f x (h.each p l m x t) }

module _ (core : Core) (c : List Instr) where
  function_fine : (f : FuncDef) (a b : ℕ) → SoundFunction core f → BlockAt c in_function f.slots [] f.body a b → Each c (Named core (length f.slots)) a b
  function_fine f a b s h =
      let fine = fine_block c (function_home core f).scope in_function (λ line. tt) f.slots false (params_known (function_home core f)) [] f.body a b s.home.body h in
      subst (λ n. Each c (Named core n) a b) (length_map kind_of f.slots) fine

  process_fine : (d : ProcDef) (a b : ℕ) → SoundProcess core d → BlockAt c in_process d.slots [] d.body a b → Each c (Named core (length d.slots)) a b
  process_fine d a b s h =
      let fine = fine_block c (process_home core d).scope in_process (λ line. tt) d.slots false (params_known (process_home core d)) [] d.body a b s.home.body h in
      subst (λ n. Each c (Named core n) a b) (length_map kind_of d.slots) fine

  -- in the terms of the program alone: there are some slots
  abbrev NamedSomewhere : Instr → Type 0
  NamedSomewhere x = (count : ℕ) × Named core count x

  abbrev Here : ℕ → ℕ → Type 0
  Here = Each c NamedSomewhere

  somewhere : (count a b : ℕ) → Each c (Named core count) a b → Here a b
  somewhere count a b h = each_as c (Named core count) NamedSomewhere a b (λ x n. (count, n)) h

  then_here : (a b n : ℕ) → Here a b → Here b n → Here a n
  then_here = each_joined c NamedSomewhere

  one_here : (a : ℕ) (x : Instr) → Has c a x → Named core 0 x → Here a (a + 1)
  one_here a x h g = each_of_one c NamedSomewhere a x h (0, g)

  constants_fine : (number : ℕ) (ks : List ConstDef) (a b : ℕ) → number + length ks ≤ length core.consts → ((m : ℕ) (d : ConstDef) → slice_get ks m ≡ Some d → SoundConstant core (number + m) d) → ConstsAt c number ks a b → Here a b
  constants_fine _ _ _ _ few g (no_constant number a) = each_of_none c NamedSomewhere a
  constants_fine _ _ _ _ few g (one_constant number d ds a b n h j l) =
      let here : SoundConstant core number d = subst (λ m. SoundConstant core m d) (omega arith) (g 0 d refl) in
      let there : number < length core.consts = omega (arith, few) in
      then_here a b n (somewhere 0 a b (fine_layer c (constant_scope core number) nothing_known (out-CExpr d.value) _ a b here.value h)) (then_here b (b + 1) n (one_here b _ j there)
      (constants_fine (number + 1) ds (b + 1) n (omega (arith, few)) (λ m x is. subst (λ z. SoundConstant core z x) (omega arith) (g (suc m) x is)) l))

  functions_fine : (fs : List FuncDef) (es : List Entry) (a b : ℕ) → Every (SoundFunction core) fs → FuncsAt c fs es a b → Here a b
  functions_fine _ _ _ _ g (no_function a) = each_of_none c NamedSomewhere a
  functions_fine _ _ _ _ g (one_function f fs es a b n h j l) =
      then_here a b n (somewhere (length f.slots) a b (function_fine f a b (g 0 f refl) h)) (then_here b (b + 1) n (one_here b _ j tt) (functions_fine fs es (b + 1) n (λ m x is. g (suc m) x is) l))

  processes_fine : (ds : List ProcDef) (es : List Entry) (a b : ℕ) → Every (SoundProcess core) ds → ProcsAt c ds es a b → Here a b
  processes_fine _ _ _ _ g (no_process a) = each_of_none c NamedSomewhere a
  processes_fine _ _ _ _ g (one_process d ds es a b n h j l) =
      then_here a b n (somewhere (length d.slots) a b (process_fine d a b (g 0 d refl) h)) (then_here b (b + 1) n (one_here b _ j tt) (processes_fine ds es (b + 1) n (λ m x is. g (suc m) x is) l))

-- each instruction of the code of a sound program names only what is there, where there are some slots
pub named_somewhere : (core : Core) (code : Code) → Sound core → Codes core code → (p : ℕ) (x : Instr) → slice_get code.instrs p ≡ Some x → (count : ℕ) × Named core count x
named_somewhere core code s h p x is =
    let c = code.instrs in
    let all = then_here core c 0 h.over (length c) (constants_fine core c 0 core.consts 0 h.over (omega arith) (λ m d e. subst (λ z. SoundConstant core z d) (omega arith) (s.constants m d e)) h.constants)
    (then_here core c h.over (h.over + 1) (length c) (one_here core c h.over _ h.done tt)
    (then_here core c (h.over + 1) h.second (length c) (functions_fine core c core.funcs code.funcs (h.over + 1) h.second s.functions h.functions)
    (processes_fine core c core.procs code.procs h.second (length c) s.processes h.processes))) in
    all.each p (omega arith) (slice_get_within c p x is) x is

-- and those of a function or a process only its own slots
pub named_in_function : (core : Core) (c : List Instr) (f : FuncDef) (a b : ℕ) → SoundFunction core f → BlockAt c in_function f.slots [] f.body a b → (p : ℕ) (x : Instr) → a ≤ p → p < b → Has c p x → Named core (length f.slots) x
named_in_function core c f a b s h p x l m t = (function_fine core c f a b s h).each p l m x t

pub named_in_process : (core : Core) (c : List Instr) (d : ProcDef) (a b : ℕ) → SoundProcess core d → BlockAt c in_process d.slots [] d.body a b → (p : ℕ) (x : Instr) → a ≤ p → p < b → Has c p x → Named core (length d.slots) x
named_in_process core c d a b s h p x l m t = (process_fine core c d a b s h).each p l m x t

-- a literal of the code of a sound program is plain, and its enumeration values have names
pub pushes_told : (core : Core) (code : Code) → Sound core → Codes core code → (p : ℕ) (v : Value) → slice_get code.instrs p ≡ Some (i.Push v) → IsTrue (is_plain v) × IsTrue (within code.names.kinds v)
pushes_told core code s h p v is =
    let told = (named_somewhere core code s h p (i.Push v) is).1 in
    (told.0, subst (λ (n : Names). IsTrue (within n.kinds v)) (sym h.names) told.1)
