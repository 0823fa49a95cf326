-- Nothing is amiss in what a function of a sound program returns.
use Rattle.std.proofs.Common.{◌≡◌, ◌+◌, ◌<◌, ◌^◌, ℕ, zero, suc, false, ltb-true, List, [], ◌∷◌, length, get_or, Option, Some, None, refl, sym, ap, subst, ◌∙◌, arith}
use Rattle.std.proofs.lemmas.List.{length-map, length-take}
use Rattle.std.proofs.lemmas.Option.{slice_get-get_or}
use Rattle.std.specs.Prelude.{slice_get, IsTrue, IfSome, SomeIff}
use Rattle.chi_value.specs.declared.names.Names.{Names}
use Rattle.chi_value.specs.declared.value.Value.{Value}
use Rattle.chi_core.specs.declared.expression.CExpr.{CExpr, out-CExpr}
use Rattle.chi_core.specs.declared.program.Core.{Core}
use Rattle.chi_core.specs.declared.program.FuncDef.{FuncDef}
use Rattle.chi_core.specs.declared.scene.Scene.{Scene}
use Rattle.chi_core.specs.declared.statement.CStat.{CStat, CStat-F, out-CStat}
use Rattle.chi_core.specs.declared.statement.CStat.TheVariants as stat
use Rattle.chi_core.specs.declared.view.View.{View}
use Rattle.chi_core.specs.Answer.{Answer}
use Rattle.chi_core.specs.Beginning.{constant_view}
use Rattle.chi_core.specs.Functions.{calls}
use Rattle.chi_core.specs.Kinds.{Kind, kind_of, kinds_of}
use Rattle.chi_core.specs.Of.{nowhere, AreOf}
use Rattle.chi_core.specs.Scopes.{Home, Scope, function, function_home, params_of}
use Rattle.chi_core.specs.SetSlots.{Known, params_known}
use Rattle.chi_core.specs.SoundExpressions as sound
use Rattle.chi_core.specs.SoundExpressions.{HasKind}
use Rattle.chi_core.specs.SoundStatements as soundly
use Rattle.chi_core.specs.SoundStatements.{SoundBlock, SoundStat}
use Rattle.chi_core.specs.Variables.{Variables}
use Rattle.chi_core_kinds.specs.Well.{Kept, Same}
use Rattle.chi_core_kinds.proofs.Expressions.{Provides, Reads, well_values}
use Rattle.chi_core_kinds.proofs.Functions.{SceneFits, provided, calls_well}
use Rattle.chi_code.specs.declared.code.Code.{Code}
use Rattle.chi_code.specs.declared.code.Entry.{Entry}
use Rattle.chi_code.specs.declared.instr.Instr.{Instr}
use Rattle.chi_code.specs.declared.instr.Instr.TheVariants as i
use Rattle.chi_code.specs.Codes.{in_function, function_entry, FuncsAt, no_function, one_function}
use Rattle.chi_code.specs.ExpressionLayout as layout
use Rattle.chi_code.specs.ExpressionLayout.{Has, ExprAt}
use Rattle.chi_code.specs.StatementLayout.{StatAt, returns, BlockAt, one_statement}
use Rattle.chi_exec_law.specs.Laws.{evaluated}
use Rattle.chi_exec_law.specs.Machine.{in_expressions, stops_at}
use Rattle.chi_exec.specs.Evaluations.{Ready}
use Rattle.chi_machine_tests.specs.Programs.{HasCode, AllKinded, IsValueAt}
use Rattle.chi_machine_tests.proofs.Kept.{laws, fits}

body_at : (instrs : List Instr) (fs : List FuncDef) (entries : List Entry) (k a z : ℕ) → FuncsAt instrs fs entries a z
    → (f : FuncDef) (entry : Entry) → slice_get fs k ≡ Some f → slice_get entries k ≡ Some entry → (end : ℕ) × BlockAt instrs in_function f.slots [] f.body entry.entry end
body_at instrs _ _ k _ _ (no_function a) f entry e at = absurd (cc)
body_at instrs _ _ zero _ _ (one_function g fs entries a b c h k hs) f entry e at =
    let same : g ≡ f = cc in
    let there : function_entry g a ≡ entry = cc in
    (b, subst (λ (x : FuncDef). BlockAt instrs in_function x.slots [] x.body entry.entry b) same (subst (λ (x : Entry). BlockAt instrs in_function g.slots [] g.body x.entry b) there h))
body_at instrs _ _ (suc k) _ _ (one_function g fs entries a b c h l hs) f entry e at = body_at instrs fs entries k (b + 1) c hs f entry e at

pub record ReturnedAt (instrs : List Instr) (e : CExpr) (a : ℕ) : Type 0 where
  pub upto : ℕ
  pub laid : ExprAt instrs (out-CExpr e) (a + 1) upto
  pub ends : Has instrs upto i.Ret

returned_at : (f : FuncDef) (instrs : List Instr) (line : ℕ) (e : CExpr) (a b : ℕ) → StatAt instrs in_function f.slots [] (CStat-F.Return line e) a b → ReturnedAt instrs e a
returned_at f instrs _ _ _ _ (returns around line e a b t h r) = record { upto = b; laid = h; ends = r }

first_at : (f : FuncDef) (instrs : List Instr) (line : ℕ) (e : CExpr) (x : CStat) (xs : List CStat) (a z : ℕ) → out-CStat x ≡ CStat-F.Return line e → BlockAt instrs in_function f.slots [] (x ∷ xs) a z → ReturnedAt instrs e a
first_at f instrs line e _ _ _ _ is (one_statement around x xs a b c h more) = returned_at f instrs line e a b (subst (λ l. StatAt instrs in_function f.slots [] l a b) is h)

returned_kind : (scope : Scope) (known : Known) (line : ℕ) (e : CExpr) → SoundStat scope false known (CStat-F.Return line e) → (T : Kind) × HasKind scope known (out-CExpr e) T
returned_kind scope _ _ _ (soundly.returns loop known line e T role h) = (T, h)

first_kind : (scope : Scope) (known : Known) (line : ℕ) (e : CExpr) (x : CStat) (xs : List CStat) → out-CStat x ≡ CStat-F.Return line e → SoundBlock scope false known (x ∷ xs)
    → (T : Kind) × HasKind scope known (out-CExpr e) T
first_kind scope _ line e _ _ is (soundly.one_statement loop known x xs h more) = returned_kind scope known line e (subst (SoundStat scope false known) is h)

-- an element of a list that is lent
pub item_is : {A : Type 0} (xs lent : List A) → lent ≡ xs → (k : ℕ) (x : A) → k < length lent → x ≡ get_or lent k x → slice_get xs k ≡ Some x
item_is xs lent same k x l e = ap (λ ys. slice_get ys k) (sym same) ∙ slice_get-get_or lent k x l ∙ ap Some (sym e)

first_is : (xs : List CStat) (x : CStat) → slice_get xs 0 ≡ Some x → (rest : List CStat) × (xs ≡ x ∷ rest)
first_is [] x e = absurd (cc)
first_is (y ∷ ys) x e = let same : y ≡ x = cc in (ys, ap (λ z. z ∷ ys) same)

pub value_is : (core : Core) (code : Code) → HasCode core code → (f : FuncDef) (entry : Entry) (x : CStat) (line : ℕ) (e : CExpr) → slice_get core.funcs 0 ≡ Some f → slice_get code.funcs 0 ≡ Some entry
    → f.slots ≡ [] → slice_get f.body 0 ≡ Some x → x ≡ stat.Return line e → IsValueAt core code (entry.entry + 1)
value_is core code has f entry x line e there at none first is =
    let home : Home = function_home core f in
    let body = first_is f.body x first in
    let shown : out-CStat x ≡ CStat-F.Return line e = ap out-CStat is ∙ stat.outs-Return line e in
    let block = body_at code.instrs core.funcs code.funcs 0 (has.codes.over + 1) has.codes.second has.codes.functions f entry there at in
    let r = first_at f code.instrs line e x body.0 entry.entry block.0 shown (subst (λ ys. BlockAt code.instrs in_function f.slots [] ys entry.entry block.0) body.1 block.1) in
    let k = first_kind home.scope (params_known home) line e x body.0 shown (subst (SoundBlock home.scope false (params_known home)) body.1 (has.sound.functions 0 f there).home.body) in
    record { f = f; none = none; e = e; kind = k.0; is = k.1; upto = r.upto; laid = r.laid; ends = r.ends }

module _ (core : Core) (code : Code) (has : HasCode core code) (scene : Scene) (names : scene.names ≡ code.names) (kinded : AllKinded core scene.constants) (a : ℕ) (v : IsValueAt core code a) (left : ℕ) where
  abbrev scope : Scope
  scope = (function_home core v.f).scope

  abbrev known : Known
  known = params_known (function_home core v.f)

  rests : SceneFits core scene
  rests = record {
    enumerations = λ n values e. (has.sound.enumerations n values e).values;
    names = ap (λ (n : Names). n.kinds) (names ∙ has.codes.names);
    constants = kinded;
  }

  provides : Provides scope (calls core.funcs scene) scene
  provides = provided core (kinds_of v.f.slots) (function (kind_of v.f.result)) scene (calls core.funcs scene) rests (calls_well laws core has.sound scene rests)

  no_slot : length (kinds_of v.f.slots) ≡ 0
  no_slot = length-map v.f.slots kind_of ∙ ap length v.none

  none_known : (slot : ℕ) → IsTrue (known slot) → ⊥
  none_known slot is =
      let l : slot < length (params_of v.f) = ltb-true slot (length (params_of v.f)) is in
      let taken = length-take v.f.arity (kinds_of v.f.slots) in
      let none = no_slot in
      omega (arith, l, taken, none)

  reads : Reads (nowhere core.names.kinds) scope known []
  reads = record { names = refl; held = record { sized = sym no_slot; each = λ slot is. absurd (none_known slot is) } }

  abbrev view : View
  view = record constant_view { left = left }

  abbrev HaveKind : Answer (List Value) → Type 0
  HaveKind = Kept (nowhere core.names.kinds) (Same (nowhere core.names.kinds) (λ w xs. AreOf w xs (v.kind ∷ [])))

  kept : HaveKind (evaluated core scene [] (v.e ∷ []) view)
  kept =
      well_values laws scope (calls core.funcs scene) scene provides known [] (v.e ∷ []) (v.kind ∷ []) (sound.one_expression v.e [] v.kind [] v.is sound.no_expression)
      (nowhere core.names.kinds) reads view (fits core.names.kinds left)

  pub value_ready : Ready code scene a [] view
  value_ready = record {
    core = core;
    es = v.e ∷ [];
    stretch = record {
      codes = has.codes;
      upto = v.upto;
      laid = layout.one_expression v.e [] a v.upto v.upto v.laid (layout.no_expression v.upto);
      stops = ap (stops_at (in_expressions code scene)) v.ends;
      right = λ e. subst HaveKind e kept;
    };
  }

-- one more, where that is a number of the machine's
pub some_more : (P : ℕ → Type 0) (n : ℕ) (o : Option ℕ) → SomeIff o (n + 1 < 2 ^ 64) (n + 1) → P (n + 1) → IfSome o P
some_more P n None is h = tt
some_more P n (Some k) is h = subst P (sym is.1) h

pub ready_with : (core : Core) (code : Code) → HasCode core code → (scene : Scene) → scene.names ≡ code.names → AllKinded core scene.constants → (a : ℕ) → IsValueAt core code a → (left : ℕ)
    → (variables : Variables) (view : View) → variables ≡ [] → view ≡ record constant_view { left = left } → Ready code scene a variables view
ready_with core code has scene names kinded a v left variables view none e =
    subst (λ (vs : Variables). Ready code scene a vs view) (sym none) (subst (λ (w : View). Ready code scene a [] w) (sym e) (value_ready core code has scene names kinded a v left))
