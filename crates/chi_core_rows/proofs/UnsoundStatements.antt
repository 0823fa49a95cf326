-- Programs in which one statement or definition breaks one condition of soundness, and which so aren't sound.
use Rattle.std.proofs.Common.{◌≡◌, ℕ, pos, Bool, true, false, Option, Some, None, List, [], ◌∷◌, ◌++◌, refl, sym, subst, ap, ◌∙◌, arith}
use Rattle.std.proofs.lemmas.Bool.{false≢true}
use Rattle.std.specs.Prelude.{slice_get, codes}
use Rattle.chi_token.specs.Keywords.{keyword_of}
use Rattle.chi_token.specs.Tables.{value_at}
use Rattle.chi_token.specs.Tokens.{token_spelled_by}
use Rattle.chi_types.specs.declared.ty.Ty.{Ty, Ty-F, out-Ty}
use Rattle.chi_types.specs.declared.ty.Ty.TheVariants as ty
use Rattle.chi_types.specs.declared.ty.Way.TheVariants as way
use Rattle.chi_value.specs.declared.format.Field.{Field}
use Rattle.chi_value.specs.declared.format.Piece.TheVariants as piece
use Rattle.chi_value.specs.declared.shape.Shape.TheVariants as shape
use Rattle.chi_value.specs.declared.value.Value.TheVariants as value
use Rattle.chi_core.specs.declared.communication.CComm.TheVariants as comm
use Rattle.chi_core.specs.declared.element.CElem.{CElem, CElem-F}
use Rattle.chi_core.specs.declared.element.CElem.TheVariants as elem
use Rattle.chi_core.specs.declared.expression.CExpr.{CExpr}
use Rattle.chi_core.specs.declared.expression.CExpr.TheVariants as e
use Rattle.chi_core.specs.declared.op_name.OpName.TheVariants as op
use Rattle.chi_core.specs.declared.program.Core.{Core}
use Rattle.chi_core.specs.declared.program.ProcDef.{ProcDef}
use Rattle.chi_core.specs.declared.statement.Branch.{Branch}
use Rattle.chi_core.specs.declared.statement.CAlt.{CAlt, CAlt-F, out-CAlt}
use Rattle.chi_core.specs.declared.statement.CAlt.TheVariants as a
use Rattle.chi_core.specs.declared.statement.CStat.{CStat, CStat-F, out-CStat}
use Rattle.chi_core.specs.declared.statement.CStat.TheVariants as s
use Rattle.chi_core.specs.declared.target.CTarget.{CTarget}
use Rattle.chi_core.specs.Fills.{Fills, filled, unwound, by_body, by_statement}
use Rattle.chi_core.specs.Kinds.{Kind, erased, kind_of, is_plain_kind}
use Rattle.chi_core.specs.Scopes.{process, Scope, process_home}
use Rattle.chi_core.specs.SetSlots.{StatLayer, Known, params_known}
use Rattle.chi_core.specs.Sound.{Sound}
use Rattle.chi_core.specs.SoundExpressions.{HaveKinds, one_expression, no_expression}
use Rattle.chi_core.specs.SoundParts.{StepsLead, no_step, TargetsTake, one_target, ChannelAt, Shows, fixed_point, SoundComm, receives, SoundExit, with_value, MayStart, its_own, none, one_element, SoundElement, makes}
use Rattle.chi_core.specs.SoundStatements.{SoundStat, assigns, spreads, exits, writes, selects, starts, one_alternative, SoundAlternative, guarded}
use Rattle.chi_core_rows.proofs.Building.{int_kind, bool_kind, channel_kind, fills_at, element_fills_at}
use Rattle.chi_core.proofs.Erased.{kind_at}
use Rattle.chi_core_rows.proofs.Forms.{int, model_with, alone, scope_in, first_statement, declared, int_is, bool_is}

abbrev slot : ℕ → CTarget
slot n = record { slot = n; steps = [] }

abbrev known_in : Core → ProcDef → Known
known_in core d = params_known (process_home core d)

-- what the one statement of a model's body is, in a sound program
only : (slots : List Ty) (x : CStat) (layer : StatLayer) → out-CStat x ≡ layer → Sound (alone (model_with slots (x ∷ [])))
    → SoundStat (scope_in (alone (model_with slots (x ∷ []))) (model_with slots (x ∷ []))) false (known_in (alone (model_with slots (x ∷ []))) (model_with slots (x ∷ []))) layer
only slots x layer out sound =
    let d = model_with slots (x ∷ []) in
    first_statement (scope_in (alone d) d) (known_in (alone d) d) false x [] layer out (sound.processes 0 d refl).home.body

-- a bool is stored in an int

no_bool : Sound (alone (model_with (ty.Int ∷ []) (s.Declare 1 0 (e.Lit (value.Bool true)) ∷ []))) → ⊥
no_bool sound =
    let d = model_with (ty.Int ∷ []) (s.Declare 1 0 (e.Lit (value.Bool true)) ∷ []) in
    let scope = scope_in (alone d) d in
    let known = known_in (alone d) d in
    let h = declared scope known false 1 0 (e.Lit (value.Bool true)) (only (ty.Int ∷ []) _ _ (s.outs-Declare 1 0 (e.Lit (value.Bool true))) sound) in
    let slot_kind : kind_of ty.Int ≡ h.0 = cc in
    let same : Ty-F.Int ≡ Ty-F.Bool = sym int_kind ∙ slot_kind ∙ bool_is scope known true h.0 h.2 in
    absurd (cc)

-- two targets get one int

module _ (scope : Scope) (known : Known) where
  one_for_two : (loop : Bool) (line : ℕ) (t u : CTarget) (n : ℕ) → SoundStat scope loop known (CStat-F.Assign line (t ∷ u ∷ []) (int n ∷ [])) → ⊥
  one_for_two loop line t u n (assigns _ _ _ _ _ Ts have take) = uneven Ts (int n) have take
    where
      uneven : (Ts : List Kind) (x : CExpr) → HaveKinds scope known (x ∷ []) Ts → TargetsTake scope known (t ∷ u ∷ []) Ts → ⊥
      uneven _ x (one_expression _ _ T _ h no_expression) (one_target _ _ _ _ l rest) = elim rest [ ]
  one_for_two loop line t u n (spreads _ _ _ _ _ _ _ parts h take) = absurd (cc (int_is scope known n (Ty-F.TupleOf parts) h))

no_spread : Sound (alone (model_with (ty.Int ∷ ty.Int ∷ []) (s.Assign 1 (slot 0 ∷ slot 1 ∷ []) (int 1 ∷ []) ∷ []))) → ⊥
no_spread sound =
    let d = model_with (ty.Int ∷ ty.Int ∷ []) (s.Assign 1 (slot 0 ∷ slot 1 ∷ []) (int 1 ∷ []) ∷ []) in
    one_for_two (scope_in (alone d) d) (known_in (alone d) d) false 1 (slot 0) (slot 1) 1
    (only (ty.Int ∷ ty.Int ∷ []) _ _ (s.outs-Assign 1 (slot 0 ∷ slot 1 ∷ []) (int 1 ∷ [])) sound)

-- an int is received into a bool

abbrev receives_int : ProcDef
receives_int = record {
  name = codes "R";
  params = ty.Chan way.Receive ty.Int ∷ [];
  exit = None;
  slots = ty.Chan way.Receive ty.Int ∷ ty.Bool ∷ [];
  body = s.Select 1 (a.Guarded None (comm.Receive (slot 0) (Some 1)) [] ∷ []) ∷ [];
}

abbrev one_receiver : Core
one_receiver = record { consts = []; funcs = []; procs = receives_int ∷ []; model = 0; names = record { kinds = [] }; xpers = [] }

module _ (scope : Scope) (known : Known) where
  chosen : (loop : Bool) (line : ℕ) (x : CAlt) (layer : CAlt-F CAlt CStat Branch) → out-CAlt x ≡ layer → SoundStat scope loop known (CStat-F.Select line (x ∷ [])) → SoundAlternative scope loop known layer
  chosen loop line x layer out (selects _ _ _ _ exit is (one_alternative _ _ _ _ h rest)) = subst (SoundAlternative scope loop known) out h

  received : (loop : Bool) (t : CTarget) (into : ℕ) → SoundAlternative scope loop known (CAlt-F.Guarded None (comm.Receive t (Some into)) [])
      → (element : Ty) × ChannelAt scope known t element × (slice_get scope.slots into ≡ Some (out-Ty element))
  received loop t into (guarded _ _ _ _ _ guard c block) = it c
    where
      it : SoundComm scope known (comm.Receive t (Some into)) → (element : Ty) × ChannelAt scope known t element × (slice_get scope.slots into ≡ Some (out-Ty element))
      it (receives _ _ element channel carries is) = (element, channel, is)

  no_way_in : (T U : Kind) → StepsLead scope known [] T U → T ≡ U
  no_way_in _ _ (no_step T) = refl

no_receive : Sound one_receiver → ⊥
no_receive sound =
    let scope = scope_in one_receiver receives_int in
    let known = known_in one_receiver receives_int in
    let body = (sound.processes 0 receives_int refl).home.body in
    let x : CAlt = a.Guarded None (comm.Receive (slot 0) (Some 1)) [] in
    let r = received scope known false (slot 0) 1
    (chosen scope known false 1 x _ (a.outs-Guarded None (comm.Receive (slot 0) (Some 1)) [])
    (first_statement scope known false (s.Select 1 (x ∷ [])) [] _ (s.outs-Select 1 (x ∷ [])) body)) in
    let slot_kind : kind_of (ty.Chan way.Receive ty.Int) ≡ r.1.kind = cc (r.1.is) in
    let carried : Ty-F.Chan way.Both (erased ty.Int) ≡ Ty-F.Chan way.Both r.0 =
    sym (channel_kind way.Receive ty.Int) ∙ slot_kind ∙ no_way_in scope known r.1.kind (Ty-F.Chan way.Both r.0) r.1.steps in
    let element : erased ty.Int ≡ r.0 = cc in
    let into : kind_of ty.Bool ≡ out-Ty r.0 = cc in
    let same : Ty-F.Int ≡ Ty-F.Bool = sym int_kind ∙ ap out-Ty element ∙ sym into ∙ bool_kind in
    absurd (cc)

-- the value of an exit isn't plain

abbrev exits_with : Ty → List CStat → ProcDef
exits_with t body = record { name = codes "M"; params = []; exit = Some t; slots = []; body = body }

same_exit : (x y : Option Kind) → process x ≡ process y → x ≡ y
same_exit x y h = cc

same_kind : (T U : Kind) → Some T ≡ Some U → T ≡ U
same_kind T U h = cc

plain_exit : (scope : Scope) (known : Known) (loop : Bool) (line : ℕ) (x : CExpr) (T : Kind) → scope.role ≡ process (Some T) → SoundStat scope loop known (CStat-F.Exit line (Some x)) → is_plain_kind T ≡ true
plain_exit scope known loop line x T role (exits _ _ _ _ exit is h) = it exit (same_exit (Some T) exit (sym role ∙ is)) h
  where
    it : (exit : Option Kind) → Some T ≡ exit → SoundExit scope known (Some x) exit → is_plain_kind T ≡ true
    it _ same (with_value _ U has plain) = subst (λ V. is_plain_kind V ≡ true) (sym (same_kind T U same)) plain

no_exit : Sound (alone (exits_with ty.Inst (s.Exit 1 (Some (e.Default shape.Inst)) ∷ []))) → ⊥
no_exit sound =
    let d = exits_with ty.Inst (s.Exit 1 (Some (e.Default shape.Inst)) ∷ []) in
    let h = first_statement (scope_in (alone d) d) (known_in (alone d) d) false _ [] _ (s.outs-Exit 1 (Some (e.Default shape.Inst))) (sound.processes 0 d refl).home.body in
    let plain = plain_exit (scope_in (alone d) d) (known_in (alone d) d) false 1 (e.Default shape.Inst) (kind_of ty.Inst) refl h in
    false≢true (ap is_plain_kind (sym (kind_at ty.Inst Ty-F.Inst ty.outs-Inst)) ∙ plain)

-- a model that exits with an int starts a process that exits with a bool

abbrev starts_other : ProcDef
starts_other = exits_with ty.Int (s.Start 1 (elem.Make None 1 [] ∷ []) ∷ [])

abbrev two_exits : Core
two_exits = record { consts = []; funcs = []; procs = starts_other ∷ exits_with ty.Bool [] ∷ []; model = 0; names = record { kinds = [] }; xpers = [] }

started : (scope : Scope) (known : Known) (loop : Bool) (line number : ℕ) (T U : Kind) (d : ProcDef) → scope.role ≡ process (Some T) → slice_get scope.core.procs number ≡ Some d → (process_home scope.core d).scope.role ≡ process (Some U)
    → SoundStat scope loop known (CStat-F.Start line (elem.Make None number [] ∷ [])) → T ≡ U
started scope known loop line number T U d role there other (starts _ _ _ _ exit is (one_element _ _ _ h rest)) =
    by_element_made (subst (SoundElement scope exit known) (elem.outs-Make None number []) h)
  where
    by_exits : (x y : Option Kind) → Some T ≡ x → Some U ≡ y → MayStart x y → T ≡ U
    by_exits _ _ p q (its_own x) = same_kind T U (p ∙ sym q)
    by_exits _ _ p q (none x) = absurd (cc)

    by_element_made : SoundElement scope exit known (CElem-F.Make None number []) → T ≡ U
    by_element_made (makes _ _ _ _ c is_there may arguments into) =
        let same : d ≡ c = cc in
        by_exits exit _ (same_exit (Some T) exit (sym role ∙ is)) (same_exit (Some U) _ (sym (subst (λ d. (process_home scope.core d).scope.role ≡ process (Some U)) same other))) may

no_start : Sound two_exits → ⊥
no_start sound =
    let h = first_statement (scope_in two_exits starts_other) (known_in two_exits starts_other) false _ [] _ (s.outs-Start 1 (elem.Make None 1 [] ∷ [])) (sound.processes 0 starts_other refl).home.body in
    let same = started (scope_in two_exits starts_other) (known_in two_exits starts_other) false 1 1 (kind_of ty.Int) (kind_of ty.Bool) (exits_with ty.Bool []) refl refl refl h in
    let kinds : Ty-F.Int ≡ Ty-F.Bool = sym int_kind ∙ same ∙ bool_kind in
    absurd (cc)

-- a break outside of any loop, and a return in a model

no_loop : (scope : Scope) (known : Known) (line : ℕ) → SoundStat scope false known (CStat-F.Break line) → ⊥
no_loop scope known line h = elim h [ ]

no_break : Sound (alone (model_with [] (s.Break 1 ∷ []))) → ⊥
no_break sound =
    let d = model_with [] (s.Break 1 ∷ []) in
    no_loop (scope_in (alone d) d) (known_in (alone d) d) 1 (only [] _ _ (s.outs-Break 1) sound)

-- ten decimals are written

abbrev bare : Field
bare = record { left = false; width = 0 }

ten_decimals : (Ts : List Kind) → Shows (piece.Fixed bare 10 ∷ []) Ts → ⊥
ten_decimals _ (fixed_point _ _ _ _ few rest) = absurd (omega (arith, few))

written : (scope : Scope) (known : Known) (loop : Bool) (line : ℕ) (x : CExpr) → SoundStat scope loop known (CStat-F.Write line (piece.Fixed bare 10 ∷ []) (x ∷ [])) → ⊥
written scope known loop line x (writes _ _ _ _ _ exit Ts is have shows) = ten_decimals Ts shows

no_write : Sound (alone (model_with [] (s.Write 1 (piece.Fixed bare 10 ∷ []) (e.Lit (value.Real (pos 0)) ∷ []) ∷ []))) → ⊥
no_write sound =
    let d = model_with [] (s.Write 1 (piece.Fixed bare 10 ∷ []) (e.Lit (value.Real (pos 0)) ∷ []) ∷ []) in
    written (scope_in (alone d) d) (known_in (alone d) d) false 1 (e.Lit (value.Real (pos 0))) (only [] _ _ (s.outs-Write 1 (piece.Fixed bare 10 ∷ []) (e.Lit (value.Real (pos 0)) ∷ [])) sound)

-- a process is called by a keyword

abbrev called_if : ProcDef
called_if = record { name = codes "if"; params = []; exit = None; slots = []; body = [] }

no_name : Sound (alone called_if) → ⊥
unfolding token_spelled_by keyword_of value_at
no_name sound = absurd (cc ((sound.processes 0 called_if refl).name))

-- an enumeration has no value

abbrev no_values : Core
no_values = record { consts = []; funcs = []; procs = model_with [] [] ∷ []; model = 0; names = record { kinds = [] ∷ [] }; xpers = [] }

no_enumeration : Sound no_values → ⊥
no_enumeration sound = absurd (omega (arith, (sound.enumerations 0 [] refl).values))

-- a slot that an unwind binds is declared too

abbrev unwinds_declared : CElem
unwinds_declared = elem.Unwind (0 ∷ []) (e.Op op.Range (int 1 ∷ [])) []

abbrev declares_unwound : ProcDef
declares_unwound = model_with (ty.Int ∷ []) (s.Declare 1 0 (int 1) ∷ s.Start 1 (unwinds_declared ∷ []) ∷ [])

set_twice : by_body declares_unwound.body ≡ filled 0 ∷ unwound 0 ∷ []
set_twice = λ i. fills_at _ _ (s.outs-Declare 1 0 (int 1)) i ++ (start i ++ [])
  where
    start : by_statement (s.Start 1 (unwinds_declared ∷ [])) ≡ unwound 0 ∷ []
    start = fills_at _ _ (s.outs-Start 1 (unwinds_declared ∷ []))
        ∙ ap (λ (f : Fills). f ++ []) (element_fills_at _ _ (elem.outs-Unwind (0 ∷ []) (e.Op op.Range (int 1 ∷ [])) []))

no_unwind : Sound (alone declares_unwound) → ⊥
no_unwind sound =
    let own = (sound.processes 0 declares_unwound refl).home.unwinds 1 0 (ap (λ fills. slice_get fills 1) set_twice) in
    absurd (omega (arith, own.1 0 (filled 0) (ap (λ fills. slice_get fills 0) set_twice) refl))
