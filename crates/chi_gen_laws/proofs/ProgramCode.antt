-- Each sound program has a code.
use Rattle.std.proofs.Common.{◌≡◌, ℕ, suc, ◌+◌, true, false, List, [], ◌∷◌, length, Some, None, refl, subst, arith}
use Rattle.std.specs.Prelude.{slice_get}
use Rattle.chi_core.specs.declared.expression.CExpr.{out-CExpr}
use Rattle.chi_core.specs.declared.program.ConstDef.{ConstDef}
use Rattle.chi_core.specs.declared.program.Core.{Core}
use Rattle.chi_core.specs.declared.program.FuncDef.{FuncDef}
use Rattle.chi_core.specs.declared.program.ProcDef.{ProcDef}
use Rattle.chi_core.specs.Kinds.{Every}
use Rattle.chi_core.specs.Scopes.{constant_scope, function_home, process_home}
use Rattle.chi_core.specs.SetSlots.{params_known}
use Rattle.chi_core.specs.Sound.{Sound, SoundConstant, SoundFunction, SoundProcess, nothing_known}
use Rattle.chi_code.specs.declared.code.Code.{Code}
use Rattle.chi_code.specs.declared.code.Entry.{Entry}
use Rattle.chi_code.specs.declared.instr.Instr.{Instr}
use Rattle.chi_code.specs.declared.instr.Instr.TheVariants as i
use Rattle.chi_code.specs.Codes.{in_function, in_process, ConstsAt, one_constant, FuncsAt, one_function, function_entry, ProcsAt, one_process, process_entry, Codes}
use Rattle.chi_gen_parts.specs.Added.{AddsConsts, AddsFuncs, AddsProcs}
use Rattle.chi_gen_parts.proofs.Growing.{grows_on, grow_expr, grow_block}
use Rattle.chi_gen.proofs.AddedPrograms.{add_no_constant, add_no_function, add_no_process, generated}
use Rattle.chi_gen_laws.proofs.ExpressionCode.{more, one_more, expr_code}
use Rattle.chi_gen_laws.proofs.StatementCode.{block_code}

record ConstsCode (number : ℕ) (ks : List ConstDef) (c : List Instr) : Type 0 where
  code : List Instr
  adds : AddsConsts number ks c code

record FuncsCode (fs : List FuncDef) (c : List Instr) : Type 0 where
  code : List Instr
  entries : List Entry
  adds : AddsFuncs fs entries c code

record ProcsCode (ds : List ProcDef) (c : List Instr) : Type 0 where
  code : List Instr
  entries : List Entry
  adds : AddsProcs ds entries c code

module _ (core : Core) where
  consts_code : (number : ℕ) (ks : List ConstDef) → ((m : ℕ) (d : ConstDef) → slice_get ks m ≡ Some d → SoundConstant core (number + m) d) → (c : List Instr) → ConstsCode number ks c
  consts_code number [] h c = record { code = c; adds = add_no_constant number c }
  consts_code number (k ∷ ks) h c =
      let here : SoundConstant core number k = subst (λ m. SoundConstant core m k) (omega arith) (h 0 k refl) in
      let a = expr_code (constant_scope core number) nothing_known k.value _ here.value c in
      let set = one_more (i.SetConst number k.line) a.code in
      let c2 = more a.code (i.SetConst number k.line) in
      let b = consts_code (number + 1) ks (λ m x is. subst (λ z. SoundConstant core z x) (omega arith) (h (suc m) x is)) c2 in
      let g = grows_on a.code c2 b.code set.grows b.adds.grows in
      record {
        code = b.code;
        adds = record {
          grows = grows_on c a.code b.code a.adds.grows g;
          at = one_constant number k ks (length c) (length a.code) (length b.code) (grow_expr a.code b.code g (out-CExpr k.value) _ _ a.adds.at) (b.adds.grows.has _ _ set.has)
              (subst (λ m. ConstsAt b.code (number + 1) ks m (length b.code)) set.end b.adds.at);
        };
      }

  funcs_code : (fs : List FuncDef) → Every (SoundFunction core) fs → (c : List Instr) → FuncsCode fs c
  funcs_code [] h c = record { code = c; entries = []; adds = add_no_function c }
  funcs_code (f ∷ fs) h c =
      let home = (h 0 f refl).home in
      let a = block_code false f.slots (function_home core f).scope refl false (params_known (function_home core f)) f.body home.body None refl c in
      let end = one_more i.NoRet a.code in
      let c2 = more a.code i.NoRet in
      let b = funcs_code fs (λ m x is. h (suc m) x is) c2 in
      let g = grows_on a.code c2 b.code end.grows b.adds.grows in
      record {
        code = b.code;
        entries = function_entry f (length c) ∷ b.entries;
        adds = record {
          grows = grows_on c a.code b.code a.adds.grows g;
          at = one_function f fs b.entries (length c) (length a.code) (length b.code) (grow_block a.code b.code g f.slots in_function [] f.body _ _ (a.adds.at [])) (b.adds.grows.has _ _ end.has)
              (subst (λ m. FuncsAt b.code fs b.entries m (length b.code)) end.end b.adds.at);
        };
      }

  procs_code : (ds : List ProcDef) → Every (SoundProcess core) ds → (c : List Instr) → ProcsCode ds c
  procs_code [] h c = record { code = c; entries = []; adds = add_no_process c }
  procs_code (d ∷ ds) h c =
      let home = (h 0 d refl).home in
      let a = block_code true d.slots (process_home core d).scope refl false (params_known (process_home core d)) d.body home.body None refl c in
      let end = one_more i.Done a.code in
      let c2 = more a.code i.Done in
      let b = procs_code ds (λ m x is. h (suc m) x is) c2 in
      let g = grows_on a.code c2 b.code end.grows b.adds.grows in
      record {
        code = b.code;
        entries = process_entry d (length c) ∷ b.entries;
        adds = record {
          grows = grows_on c a.code b.code a.adds.grows g;
          at = one_process d ds b.entries (length c) (length a.code) (length b.code) (grow_block a.code b.code g d.slots in_process [] d.body _ _ (a.adds.at [])) (b.adds.grows.has _ _ end.has)
              (subst (λ m. ProcsAt b.code ds b.entries m (length b.code)) end.end b.adds.at);
        };
      }

pub sound_has_code : (core : Core) → Sound core → (code : Code) × Codes core code
sound_has_code core h =
    let a = consts_code core 0 core.consts (λ m k is. subst (λ z. SoundConstant core z k) (omega arith) (h.constants m k is)) [] in
    let c2 = more a.code i.Done in
    let b = funcs_code core core.funcs h.functions c2 in
    let p = procs_code core core.procs h.processes b.code in (
      record { consts = length core.consts; funcs = b.entries; procs = p.entries; model = core.model; names = core.names; instrs = p.code },
      generated core (length core.consts) b.entries p.entries core.names a.code c2 b.code p.code a.adds (one_more i.Done a.code) b.adds p.adds refl refl,
    )
