-- What is sound in a program is so whichever of its models is the one that is run: expressions, and the parts of statements.
use Rattle.std.proofs.Common.{ℕ, List, Option}
use Rattle.chi_types.specs.declared.ty.Ty.{Ty}
use Rattle.chi_core.specs.declared.communication.CComm.{CComm}
use Rattle.chi_core.specs.declared.element.CElem.{CElem, CElem-F, out-CElem}
use Rattle.chi_core.specs.declared.expression.CExpr.{CExpr, CExpr-F, out-CExpr}
use Rattle.chi_core.specs.declared.program.Core.{Core}
use Rattle.chi_core.specs.declared.target.CStep.{CStep}
use Rattle.chi_core.specs.declared.target.CTarget.{CTarget}
use Rattle.chi_core.specs.Kinds.{Kind}
use Rattle.chi_core.specs.Scopes.{Scope}
use Rattle.chi_core.specs.SetSlots.{Known, also_all}
use Rattle.chi_core.specs.SoundExpressions as expr
use Rattle.chi_core.specs.SoundExpressions.{HasKind, HaveKinds}
use Rattle.chi_core.specs.SoundParts as part
use Rattle.chi_core.specs.SoundParts.{StepsLead, TargetTakes, TargetsTake, ChannelAt, SlotsTakeParts, SlotsTake, Walks, SoundComm, SoundGuard, SoundExit, TakesInstance, SoundElements, SoundElement}

-- the program with another model as the one that is run
abbrev pub other_model : Core → ℕ → Core
other_model core number = record core { model = number }

abbrev pub other_scope : Scope → ℕ → Scope
other_scope scope number = record scope { core = other_model scope.core number }

module _ (scope : Scope) (number : ℕ) where
  abbrev other : Scope
  other = other_scope scope number

  mutual
    pub kind_there : (known : Known) (e : CExpr-F CExpr) (T : Kind) → HasKind scope known e T → HasKind other known e T
    kind_there known _ _ (expr.literal v T is) = expr.literal v T is
    kind_there known _ _ (expr.variable slot T k e) = expr.variable slot T k e
    kind_there known _ _ (expr.constant n c e may) = expr.constant n c e may
    kind_there known _ _ (expr.operation name es Ts T row streamless may are) = expr.operation name es Ts T row streamless may (kinds_there known es Ts are)
    kind_there known _ _ (expr.distribution name es operands Ts T stream e row draws are l) =
        expr.distribution name es operands Ts T stream e row draws (kinds_there known operands Ts are) l
    kind_there known _ _ (expr.both a b h k) = expr.both a b (kind_there known (out-CExpr a) _ h) (kind_there known (out-CExpr b) _ k)
    kind_there known _ _ (expr.either a b h k) = expr.either a b (kind_there known (out-CExpr a) _ h) (kind_there known (out-CExpr b) _ k)
    kind_there known _ _ (expr.tuple_literal es ts are) = expr.tuple_literal es ts (kinds_there known es _ are)
    kind_there known _ _ (expr.list_literal es t are) = expr.list_literal es t (kinds_there known es _ are)
    kind_there known _ _ (expr.set_literal es t plain are) = expr.set_literal es t plain (kinds_there known es _ are)
    kind_there known _ _ (expr.dictionary_literal es key has entries plain are) = expr.dictionary_literal es key has entries plain (kinds_there known es _ are)
    kind_there known _ _ (expr.part e n parts p h at) = expr.part e n parts p (kind_there known (out-CExpr e) _ h) at
    kind_there known _ _ (expr.call n es f e may are) = expr.call n es f e may (kinds_there known es _ are)
    kind_there known _ _ (expr.insertion xs x n t f e may takes gives h k) =
        expr.insertion xs x n t f e may takes gives (kind_there known (out-CExpr xs) _ h) (kind_there known (out-CExpr x) _ k)
    kind_there known _ _ (expr.fresh_default shape T is may) = expr.fresh_default shape T is may
    kind_there known _ _ (expr.repetition count each t h k) = expr.repetition count each t (kind_there known (out-CExpr count) _ h) (kind_there known (out-CExpr each) _ k)

    pub kinds_there : (known : Known) (es : List CExpr) (Ts : List Kind) → HaveKinds scope known es Ts → HaveKinds other known es Ts
    kinds_there known _ _ expr.no_expression = expr.no_expression
    kinds_there known _ _ (expr.one_expression e es T Ts h are) = expr.one_expression e es T Ts (kind_there known (out-CExpr e) T h) (kinds_there known es Ts are)

  steps_there : (known : Known) (steps : List CStep) (T U : Kind) → StepsLead scope known steps T U → StepsLead other known steps T U
  steps_there known _ _ _ (part.no_step T) = part.no_step T
  steps_there known _ _ _ (part.into_list e steps t U h more) = part.into_list e steps t U (kind_there known (out-CExpr e) _ h) (steps_there known steps _ U more)
  steps_there known _ _ _ (part.into_dictionary e steps key has U h more) =
      part.into_dictionary e steps key has U (kind_there known (out-CExpr e) _ h) (steps_there known steps _ U more)
  steps_there known _ _ _ (part.into_tuple n steps parts p U at more) = part.into_tuple n steps parts p U at (steps_there known steps _ U more)

  pub target_there : (known : Known) (slot : ℕ) (steps : List CStep) (T : Kind) → TargetTakes scope known slot steps T → TargetTakes other known slot steps T
  target_there known slot _ _ (part.whole T e) = part.whole T e
  target_there known slot _ _ (part.within s steps T U k e leads) = part.within s steps T U k e (steps_there known _ T U leads)

  pub targets_there : (known : Known) (ts : List CTarget) (Ts : List Kind) → TargetsTake scope known ts Ts → TargetsTake other known ts Ts
  targets_there known _ _ part.no_target = part.no_target
  targets_there known _ _ (part.one_target t ts T Ts takes more) = part.one_target t ts T Ts (target_there known t.slot t.steps T takes) (targets_there known ts Ts more)

  channel_there : (known : Known) (t : CTarget) (element : Ty) → ChannelAt scope known t element → ChannelAt other known t element
  channel_there known t element at = record { kind = at.kind; set = at.set; is = at.is; steps = steps_there known t.steps at.kind _ at.steps }

  slot_parts_there : (slots : List ℕ) (parts : List (List ℕ × Ty)) → SlotsTakeParts scope slots parts → SlotsTakeParts other slots parts
  slot_parts_there _ _ part.no_slot = part.no_slot
  slot_parts_there _ _ (part.one_slot slot slots p parts e more) = part.one_slot slot slots p parts e (slot_parts_there slots parts more)

  slots_there : (slots : List ℕ) (T : Kind) → SlotsTake scope slots T → SlotsTake other slots T
  slots_there _ _ (part.element_itself slot T e) = part.element_itself slot T e
  slots_there _ _ (part.its_parts slot next slots parts take) = part.its_parts slot next slots parts (slot_parts_there _ parts take)

  pub walks_there : (known : Known) (slots : List ℕ) (container : CExpr) → Walks scope known slots container → Walks other known slots container
  walks_there known slots container walks = record {
    kind = walks.kind;
    element = walks.element;
    has_kind = kind_there known (out-CExpr container) walks.kind walks.has_kind;
    over = walks.over;
    take = slots_there slots walks.element walks.take;
  }

  pub comm_there : (known : Known) (communication : CComm) → SoundComm scope known communication → SoundComm other known communication
  comm_there known _ (part.sends t e element at carries h) = part.sends t e element (channel_there known t element at) carries (kind_there known (out-CExpr e) _ h)
  comm_there known _ (part.sends_void t element at void) = part.sends_void t element (channel_there known t element at) void
  comm_there known _ (part.receives t slot element at carries e) = part.receives t slot element (channel_there known t element at) carries e
  comm_there known _ (part.receives_void t element at void) = part.receives_void t element (channel_there known t element at) void
  comm_there known _ (part.delays e h) = part.delays e (kind_there known (out-CExpr e) _ h)
  comm_there known _ (part.waits_for_timer e h) = part.waits_for_timer e (kind_there known (out-CExpr e) _ h)

  pub guard_there : (known : Known) (guard : Option CExpr) → SoundGuard scope known guard → SoundGuard other known guard
  guard_there known _ part.no_guard = part.no_guard
  guard_there known _ (part.a_guard e h) = part.a_guard e (kind_there known (out-CExpr e) _ h)

  pub exit_there : (known : Known) (e : Option CExpr) (exit : Option Kind) → SoundExit scope known e exit → SoundExit other known e exit
  exit_there known _ _ part.without_value = part.without_value
  exit_there known _ _ (part.with_value e T h plain) = part.with_value e T (kind_there known (out-CExpr e) T h) plain

  takes_instance_there : (known : Known) (t : Option CTarget) → TakesInstance scope known t → TakesInstance other known t
  takes_instance_there known _ part.nowhere = part.nowhere
  takes_instance_there known _ (part.target t takes) = part.target t (target_there known t.slot t.steps _ takes)

  mutual
    pub elements_there : (exit : Option Kind) (known : Known) (es : List CElem) → SoundElements scope exit known es → SoundElements other exit known es
    elements_there exit _ _ (part.no_element known) = part.no_element known
    elements_there exit _ _ (part.one_element known e es h more) =
        part.one_element known e es (element_there exit known (out-CElem e) h) (elements_there exit known es more)

    element_there : (exit : Option Kind) (known : Known) (e : CElem-F CElem) → SoundElement scope exit known e → SoundElement other exit known e
    element_there exit _ _ (part.makes known t n arguments d e may are takes) =
        part.makes known t n arguments d e may (kinds_there known arguments _ are) (takes_instance_there known t takes)
    element_there exit _ _ (part.unwinds known slots container elements walks more) =
        part.unwinds known slots container elements (walks_there known slots container walks) (elements_there exit (also_all slots known) elements more)
