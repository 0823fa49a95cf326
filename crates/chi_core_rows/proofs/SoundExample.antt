-- The program of `Line` is sound, and a run of it begins in a kinded configuration.
use Rattle.std.proofs.Common.{◌≡◌, ℕ, zero, suc, pos, Bool, true, false, Some, None, List, [], ◌∷◌, ◌++◌, refl, sym, subst, ap, ◌∙◌, arith}
use Rattle.std.proofs.lemmas.Bool.{false≢true}
use Rattle.std.specs.Prelude.{slice_get, option_map}
use Rattle.chi_token.specs.Keywords.{keyword_of}
use Rattle.chi_token.specs.Tables.{value_at}
use Rattle.chi_token.specs.Tokens.{token_spelled_by}
use Rattle.chi_types.specs.declared.ty.Ty.{Ty-F, out-Ty}
use Rattle.chi_types.specs.declared.ty.Ty.TheVariants as ty
use Rattle.chi_types.specs.declared.ty.Way.{Way}
use Rattle.chi_types.specs.declared.ty.Way.TheVariants as way
use Rattle.chi_value.specs.declared.format.Piece.{Piece}
use Rattle.chi_value.specs.declared.format.Piece.TheVariants as piece
use Rattle.chi_value.specs.declared.shape.Shape.{out-Shape}
use Rattle.chi_value.specs.declared.shape.Shape.TheVariants as shape
use Rattle.chi_value.specs.declared.value.Value.TheVariants as value
use Rattle.chi_core.specs.declared.communication.CComm.TheVariants as comm
use Rattle.chi_core.specs.declared.element.CElem.{CElem, out-CElem}
use Rattle.chi_core.specs.declared.element.CElem.TheVariants as elem
use Rattle.chi_core.specs.declared.expression.CExpr.{CExpr, CExpr-F, out-CExpr}
use Rattle.chi_core.specs.declared.expression.CExpr.TheVariants as e
use Rattle.chi_core.specs.declared.op_name.OpName.TheVariants as op
use Rattle.chi_core.specs.declared.program.ProcDef.{ProcDef}
use Rattle.chi_core.specs.declared.statement.CAlt.{CAlt}
use Rattle.chi_core.specs.declared.statement.CAlt.TheVariants as a
use Rattle.chi_core.specs.declared.statement.CStat.TheVariants as s
use Rattle.chi_core.specs.Beginning.{first_config}
use Rattle.chi_core.specs.Kinded.{Kinded}
use Rattle.chi_core.specs.Of.{none_of}
use Rattle.chi_core.specs.Fills.{Fill, Fills, filled, unwound, by_body, by_element, by_statement, SetOnce, UnwindsOwn}
use Rattle.chi_core.specs.Kinds.{Kind, erased, kind_of, kinds_of, is_void}
use Rattle.chi_core.specs.OperatorKinds.{add_ints, range_to, ShapeKind, shape_int, shape_channel}
use Rattle.chi_core.specs.Scopes.{Scope, Home, function_home, process_home}
use Rattle.chi_core.specs.SetSlots.{Known, also, params_known}
use Rattle.chi_core.specs.Sound.{Sound, SoundIn, SoundEnumeration, SoundHome, SoundFunction, SoundProcess, SoundExperiment}
use Rattle.chi_core.specs.SoundExpressions.{HasKind, literal, int as an_int, variable, operation, call, fresh_default, HaveKinds, no_expression, one_expression, LiteralKind}
use Rattle.chi_core.specs.SoundParts.{ChannelAt, Walks, MayStart, no_step, element_itself, a_list, plain_text, whole_number, no_piece, sends, receives, no_guard, its_own, nowhere, SoundElement, no_element, one_element, makes, unwinds}
use Rattle.chi_core.specs.SoundStatements.{declares, returns, writes, selects, runs, no_statement, no_alternative, guarded}
use Rattle.chi_core.specs.SoundTypes.{SoundType}
use Rattle.chi_core.specs.SoundTypes as types
use Rattle.chi_core.proofs.Beginnings.{start_kinded}
use Rattle.chi_core_rows.proofs.Building.{int_kind, channel_kind, slot_is, has, with_statement, with_alternative, fills_at, alternative_fills_at, element_fills_at}
use Rattle.chi_core.proofs.Lists.{every_nil, every_cons}
use Rattle.chi_core_rows.proofs.Line.{slot, int, bare, twice, sender, receiver, model, line_of_two}

-- types

int_type : SoundIn line_of_two ty.Int
int_type = subst (SoundType 0) (sym ty.outs-Int) types.int

channel_type : (w : Way) → SoundIn line_of_two (ty.Chan w ty.Int)
channel_type w = subst (SoundType 0) (sym (ty.outs-Chan w ty.Int)) (types.channel w ty.Int int_type)

-- expressions

module _ (scope : Scope) (known : Known) where
  pub int_literal : (n : ℕ) → HasKind scope known (out-CExpr (int n)) Ty-F.Int
  int_literal n = has scope known (int n) (CExpr-F.Lit (value.Int (pos n))) Ty-F.Int (e.outs-Lit (value.Int (pos n)))
      (literal (value.Int (pos n)) Ty-F.Int (subst (λ v. LiteralKind scope.core.names.kinds v Ty-F.Int) (sym (value.outs-Int (pos n))) (an_int (pos n))))

  slot_read : (n : ℕ) (T : Kind) → known n ≡ true → slice_get scope.slots n ≡ Some T → HasKind scope known (out-CExpr (e.Var n)) T
  slot_read n T set is = has scope known (e.Var n) (CExpr-F.Var n) T (e.outs-Var n) (variable n T set is)

  pub as_int : (x : CExpr) → HasKind scope known (out-CExpr x) Ty-F.Int → HasKind scope known (out-CExpr x) (kind_of ty.Int)
  as_int x h = subst (HasKind scope known (out-CExpr x)) (sym int_kind) h

-- the function

in_twice : Home
in_twice = function_home line_of_two twice

twice_value : HasKind in_twice.scope (params_known in_twice) (out-CExpr (e.Op op.Add (e.Var 0 ∷ e.Var 0 ∷ []))) Ty-F.Int
unfolding in_twice
twice_value =
    let n = slot_read in_twice.scope (params_known in_twice) 0 Ty-F.Int refl (ap Some int_kind) in
    has in_twice.scope (params_known in_twice) _ (CExpr-F.Op op.Add (e.Var 0 ∷ e.Var 0 ∷ [])) Ty-F.Int (e.outs-Op op.Add (e.Var 0 ∷ e.Var 0 ∷ []))
    (operation op.Add (e.Var 0 ∷ e.Var 0 ∷ []) (Ty-F.Int ∷ Ty-F.Int ∷ []) Ty-F.Int add_ints refl refl
    (one_expression (e.Var 0) (e.Var 0 ∷ []) Ty-F.Int (Ty-F.Int ∷ []) n (one_expression (e.Var 0) [] Ty-F.Int [] n no_expression)))

twice_home : SoundHome in_twice
unfolding in_twice
twice_home = record {
  body = with_statement in_twice.scope false (params_known in_twice) _ [] _ (s.outs-Return 1 (e.Op op.Add (e.Var 0 ∷ e.Var 0 ∷ [])))
      (returns false (params_known in_twice) 1 (e.Op op.Add (e.Var 0 ∷ e.Var 0 ∷ [])) (kind_of ty.Int) refl
      (as_int in_twice.scope (params_known in_twice) (e.Op op.Add (e.Var 0 ∷ e.Var 0 ∷ [])) twice_value))
      (no_statement false (params_known in_twice));
  unwinds = subst (UnwindsOwn 1) (sym fills) (λ k slot e. absurd (cc));
}
  where
    fills : by_body twice.body ≡ []
    fills = ap (λ (f : Fills). f ++ []) (fills_at _ _ (s.outs-Return 1 (e.Op op.Add (e.Var 0 ∷ e.Var 0 ∷ []))))

sound_twice : SoundFunction line_of_two twice
unfolding in_twice token_spelled_by keyword_of value_at
sound_twice = record {
  name = refl;
  result = int_type;
  slots = every_cons (SoundIn line_of_two) ty.Int [] int_type (every_nil (SoundIn line_of_two));
  arity = omega arith;
  home = twice_home;
}

abbrev slot_of : Fill → ℕ
slot_of f = f.slot

abbrev by_unwind_of : Fill → Bool
by_unwind_of f = f.by_unwind

-- the sender

in_sender : Home
in_sender = process_home line_of_two sender

abbrev call_of_twice : CExpr
call_of_twice = e.Call 0 (int 3 ∷ [])

abbrev offer_to_send : CAlt
offer_to_send = a.Guarded None (comm.Send (slot 0) (Some call_of_twice)) []

-- the value of a channel's slot
channel_at : (scope : Scope) (known : Known) (w : Way) → known 0 ≡ true → slice_get scope.slots 0 ≡ Some (kind_of (ty.Chan w ty.Int)) → ChannelAt scope known (slot 0) (erased ty.Int)
channel_at scope known w set is = record {
  kind = Ty-F.Chan way.Both (erased ty.Int);
  set = set;
  is = slot_is scope.slots 0 _ _ is (channel_kind w ty.Int);
  steps = no_step (Ty-F.Chan way.Both (erased ty.Int));
}

sender_home : SoundHome in_sender
unfolding in_sender
sender_home = record {
  body = with_statement in_sender.scope false known _ [] _ (s.outs-Select 2 (offer_to_send ∷ []))
      (selects false known 2 (offer_to_send ∷ []) None refl
      (with_alternative in_sender.scope false known offer_to_send [] _ (a.outs-Guarded None (comm.Send (slot 0) (Some call_of_twice)) [])
      (guarded false known None (comm.Send (slot 0) (Some call_of_twice)) [] no_guard
      (sends (slot 0) call_of_twice (erased ty.Int) (channel_at in_sender.scope known way.Send refl refl) (ap is_void int_kind)
      (has in_sender.scope known call_of_twice _ (kind_of ty.Int) (e.outs-Call 0 (int 3 ∷ []))
      (call 0 (int 3 ∷ []) twice refl refl
      (one_expression (int 3) [] (kind_of ty.Int) [] (as_int in_sender.scope known (int 3) (int_literal in_sender.scope known 3)) no_expression))))
      (no_statement false known))
      (no_alternative false known)))
      (no_statement false known);
  unwinds = subst (UnwindsOwn 1) (sym fills) (λ k slot e. absurd (cc));
}
  where
    known : Known
    known = params_known in_sender

    fills : by_body sender.body ≡ []
    fills = ap (λ (f : Fills). f ++ [])
        (fills_at _ _ (s.outs-Select 2 (offer_to_send ∷ []))
        ∙ ap (λ (f : Fills). f ++ []) (alternative_fills_at _ _ (a.outs-Guarded None (comm.Send (slot 0) (Some call_of_twice)) [])))

sound_sender : SoundProcess line_of_two sender
unfolding in_sender token_spelled_by keyword_of value_at
sound_sender = record {
  name = refl;
  exit = tt;
  slots = every_cons (SoundIn line_of_two) (ty.Chan way.Send ty.Int) [] (channel_type way.Send) (every_nil (SoundIn line_of_two));
  params = ([], refl);
  home = sender_home;
}

-- the receiver

in_receiver : Home
in_receiver = process_home line_of_two receiver

abbrev offer_to_receive : CAlt
offer_to_receive = a.Guarded None (comm.Receive (slot 0) (Some 1)) []

abbrev receiver_scope : Scope
receiver_scope = (process_home line_of_two receiver).scope

abbrev receiver_known : Known
receiver_known = params_known (process_home line_of_two receiver)

abbrev receiver_after : Known
receiver_after = also 1 receiver_known

abbrev receiver_pieces : List Piece
receiver_pieces = piece.Whole bare ∷ piece.Plain (10 ∷ []) ∷ []

receiver_home : SoundHome in_receiver
unfolding in_receiver
receiver_home = record {
  body = with_statement receiver_scope false receiver_known _ _ _ (s.outs-Declare 3 1 (e.Default shape.Int))
      (declares false receiver_known 3 1 (e.Default shape.Int) (kind_of ty.Int) refl refl
      (has receiver_scope receiver_known (e.Default shape.Int) _ (kind_of ty.Int) (e.outs-Default shape.Int)
      (fresh_default shape.Int (kind_of ty.Int)
      (subst (ShapeKind 0 (out-Shape shape.Int)) (sym int_kind) (subst (λ z. ShapeKind 0 z Ty-F.Int) (sym shape.outs-Int) shape_int)) refl)))
      (with_statement receiver_scope false receiver_after _ _ _ (s.outs-Select 3 (offer_to_receive ∷ []))
      (selects false receiver_after 3 (offer_to_receive ∷ []) None refl
      (with_alternative receiver_scope false receiver_after offer_to_receive [] _ (a.outs-Guarded None (comm.Receive (slot 0) (Some 1)) [])
      (guarded false receiver_after None (comm.Receive (slot 0) (Some 1)) [] no_guard
      (receives (slot 0) 1 (erased ty.Int) (channel_at receiver_scope receiver_after way.Receive refl refl) (ap is_void int_kind) refl)
      (no_statement false receiver_after))
      (no_alternative false receiver_after)))
      (with_statement receiver_scope false receiver_after _ [] _ (s.outs-Write 3 receiver_pieces (e.Var 1 ∷ []))
      (writes false receiver_after 3 receiver_pieces (e.Var 1 ∷ []) None (Ty-F.Int ∷ []) refl
      (one_expression (e.Var 1) [] Ty-F.Int [] (slot_read receiver_scope receiver_after 1 Ty-F.Int refl (ap Some int_kind)) no_expression)
      (whole_number bare (piece.Plain (10 ∷ []) ∷ []) [] (plain_text (10 ∷ []) [] [] no_piece)))
      (no_statement false receiver_after)));
  unwinds = subst (UnwindsOwn 1) (sym fills) (λ k slot e. absurd (no_unwind k slot e));
}
  where
    fills : by_body receiver.body ≡ filled 1 ∷ filled 1 ∷ []
    fills = λ i. fills_at _ _ (s.outs-Declare 3 1 (e.Default shape.Int)) i ++ (selected i ++ (fills_at _ _ (s.outs-Write 3 receiver_pieces (e.Var 1 ∷ [])) i ++ []))
      where
        selected : by_statement (s.Select 3 (offer_to_receive ∷ [])) ≡ filled 1 ∷ []
        selected = fills_at _ _ (s.outs-Select 3 (offer_to_receive ∷ []))
            ∙ ap (λ (f : Fills). f ++ []) (alternative_fills_at _ _ (a.outs-Guarded None (comm.Receive (slot 0) (Some 1)) []))

    no_unwind : (k slot : ℕ) → slice_get (filled 1 ∷ filled 1 ∷ []) k ≡ Some (unwound slot) → ⊥
    no_unwind zero slot e = let same : filled 1 ≡ unwound slot = cc in false≢true (ap by_unwind_of same)
    no_unwind (suc zero) slot e = let same : filled 1 ≡ unwound slot = cc in false≢true (ap by_unwind_of same)
    no_unwind (suc (suc k)) slot e = absurd (cc)

sound_receiver : SoundProcess line_of_two receiver
unfolding in_receiver token_spelled_by keyword_of value_at
sound_receiver = record {
  name = refl;
  exit = tt;
  slots = every_cons (SoundIn line_of_two) (ty.Chan way.Receive ty.Int) (ty.Int ∷ []) (channel_type way.Receive)
      (every_cons (SoundIn line_of_two) ty.Int [] int_type (every_nil (SoundIn line_of_two)));
  params = (ty.Int ∷ [], refl);
  home = receiver_home;
}

-- the model

in_model : Home
in_model = process_home line_of_two model

abbrev start_senders : CElem
start_senders = elem.Unwind (1 ∷ []) (e.Op op.Range (int 1 ∷ [])) (elem.Make None 0 (e.Var 0 ∷ []) ∷ [])

abbrev start_receiver : CElem
start_receiver = elem.Make None 1 (e.Var 0 ∷ [])

made : (scope : Scope) (known : Known) (w : Way) (number : ℕ) (d : ProcDef) → scope.core ≡ line_of_two → slice_get line_of_two.procs number ≡ Some d → d.exit ≡ None → d.params ≡ ty.Chan w ty.Int ∷ []
    → known 0 ≡ true → slice_get scope.slots 0 ≡ Some (kind_of (ty.Chan way.Both ty.Int)) → SoundElement scope None known (out-CElem (elem.Make None number (e.Var 0 ∷ [])))
made scope known w number d in_line there quiet params set is =
    subst (SoundElement scope None known) (sym (elem.outs-Make None number (e.Var 0 ∷ [])))
    (makes known None number (e.Var 0 ∷ []) d (subst (λ c. slice_get c.procs number ≡ Some d) (sym in_line) there)
    (subst (λ x. MayStart None (option_map kind_of x)) (sym quiet) (its_own None))
    (subst (λ ts. HaveKinds scope known (e.Var 0 ∷ []) (kinds_of ts)) (sym params)
    (one_expression (e.Var 0) [] (kind_of (ty.Chan w ty.Int)) []
    (slot_read scope known 0 (kind_of (ty.Chan w ty.Int)) set (slot_is scope.slots 0 _ _ is (channel_kind way.Both ty.Int ∙ sym (channel_kind w ty.Int)))) no_expression))
    nowhere)

abbrev model_scope : Scope
model_scope = (process_home line_of_two model).scope

abbrev model_known : Known
model_known = params_known (process_home line_of_two model)

abbrev model_after : Known
model_after = also 0 model_known

model_home : SoundHome in_model
unfolding in_model
model_home = record {
  body = with_statement model_scope false model_known _ _ _ (s.outs-Declare 4 0 (e.Default shape.Chan))
      (declares false model_known 4 0 (e.Default shape.Chan) (kind_of (ty.Chan way.Both ty.Int)) refl refl
      (has model_scope model_known (e.Default shape.Chan) _ (kind_of (ty.Chan way.Both ty.Int)) (e.outs-Default shape.Chan)
      (fresh_default shape.Chan (kind_of (ty.Chan way.Both ty.Int))
      (subst (ShapeKind 0 (out-Shape shape.Chan)) (sym (channel_kind way.Both ty.Int))
      (subst (λ z. ShapeKind 0 z (Ty-F.Chan way.Both (erased ty.Int))) (sym shape.outs-Chan) (shape_channel (erased ty.Int)))) refl)))
      (with_statement model_scope false model_after _ [] _ (s.outs-Run 4 (start_senders ∷ start_receiver ∷ []))
      (runs false model_after 4 (start_senders ∷ start_receiver ∷ []) None refl
      (one_element model_after start_senders (start_receiver ∷ [])
      (subst (SoundElement model_scope None model_after) (sym (elem.outs-Unwind (1 ∷ []) (e.Op op.Range (int 1 ∷ [])) (elem.Make None 0 (e.Var 0 ∷ []) ∷ [])))
      (unwinds model_after (1 ∷ []) (e.Op op.Range (int 1 ∷ [])) (elem.Make None 0 (e.Var 0 ∷ []) ∷ []) over_range
      (one_element (also 1 model_after) (elem.Make None 0 (e.Var 0 ∷ [])) [] (made model_scope (also 1 model_after) way.Send 0 sender refl refl refl refl refl refl) (no_element (also 1 model_after)))))
      (one_element model_after start_receiver [] (made model_scope model_after way.Receive 1 receiver refl refl refl refl refl refl) (no_element model_after))))
      (no_statement false model_after));
  unwinds = subst (UnwindsOwn 0) (sym fills) owned;
}
  where
    over_range : Walks model_scope model_after (1 ∷ []) (e.Op op.Range (int 1 ∷ []))
    over_range = record {
      kind = Ty-F.ListOf ty.Int;
      element = out-Ty ty.Int;
      has_kind = has model_scope model_after _ _ (Ty-F.ListOf ty.Int) (e.outs-Op op.Range (int 1 ∷ []))
          (operation op.Range (int 1 ∷ []) (Ty-F.Int ∷ []) (Ty-F.ListOf ty.Int) range_to refl refl (one_expression (int 1) [] Ty-F.Int [] (int_literal model_scope model_after 1) no_expression));
      over = a_list ty.Int;
      take = element_itself 1 (out-Ty ty.Int) (ap Some (int_kind ∙ sym ty.outs-Int));
    }

    fills : by_body model.body ≡ filled 0 ∷ unwound 1 ∷ []
    fills = λ i. fills_at _ _ (s.outs-Declare 4 0 (e.Default shape.Chan)) i ++ (run i ++ [])
      where
        no_fill : (number : ℕ) → by_element (elem.Make None number (e.Var 0 ∷ [])) ≡ []
        no_fill number = element_fills_at _ _ (elem.outs-Make None number (e.Var 0 ∷ []))

        senders : by_element start_senders ≡ unwound 1 ∷ []
        senders = element_fills_at _ _ (elem.outs-Unwind (1 ∷ []) (e.Op op.Range (int 1 ∷ [])) (elem.Make None 0 (e.Var 0 ∷ []) ∷ []))
            ∙ ap (λ (f : Fills). unwound 1 ∷ (f ++ [])) (no_fill 0)

        run : by_statement (s.Run 4 (start_senders ∷ start_receiver ∷ [])) ≡ unwound 1 ∷ []
        run = fills_at _ _ (s.outs-Run 4 (start_senders ∷ start_receiver ∷ [])) ∙ (λ i. senders i ++ (no_fill 1 i ++ []))

    owned : UnwindsOwn 0 (filled 0 ∷ unwound 1 ∷ [])
    owned zero slot e = let same : filled 0 ≡ unwound slot = cc in absurd (false≢true (ap by_unwind_of same))
    owned (suc zero) slot e = let same : unwound 1 ≡ unwound slot = cc in (omega arith, once slot (ap slot_of same))
      where
        once : (slot : ℕ) → 1 ≡ slot → SetOnce (filled 0 ∷ unwound 1 ∷ []) 1 slot
        once slot one zero other e is = let same : filled 0 ≡ other = cc in absurd (omega (arith, ap slot_of same, is, one))
        once slot one (suc zero) other e is = refl
        once slot one (suc (suc j)) other e is = absurd (cc)
    owned (suc (suc k)) slot e = absurd (cc)

sound_model : SoundProcess line_of_two model
unfolding in_model token_spelled_by keyword_of value_at
sound_model = record {
  name = refl;
  exit = tt;
  slots = every_cons (SoundIn line_of_two) (ty.Chan way.Both ty.Int) (ty.Int ∷ []) (channel_type way.Both)
      (every_cons (SoundIn line_of_two) ty.Int [] int_type (every_nil (SoundIn line_of_two)));
  params = (ty.Chan way.Both ty.Int ∷ ty.Int ∷ [], refl);
  home = model_home;
}

pub line_is_sound : Sound line_of_two
line_is_sound = record {
  enumerations = every_nil SoundEnumeration;
  constants = λ number c e. absurd (cc);
  functions = every_cons (SoundFunction line_of_two) twice [] sound_twice (every_nil (SoundFunction line_of_two));
  processes = every_cons (SoundProcess line_of_two) sender (receiver ∷ model ∷ []) sound_sender
      (every_cons (SoundProcess line_of_two) receiver (model ∷ []) sound_receiver
      (every_cons (SoundProcess line_of_two) model [] sound_model (every_nil (SoundProcess line_of_two))));
  experiments = every_nil (SoundExperiment line_of_two);
  model = (model, refl);
}

-- so a run of it begins in a kinded configuration
pub line_begins : Kinded line_of_two (first_config 0 None [] [] 2 model)
line_begins = start_kinded line_of_two line_is_sound [] (λ number c e. absurd (cc)) model refl [] none_of 0 None
