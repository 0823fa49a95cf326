-- Private to chi_gen. What passes over the parts of a statement add to the code: the branches of a choice before its last
-- block; the alternatives of a select, with the places that their bodies are to have; and those bodies, in order.
use Rattle.std.specs.Prelude.{◌≡◌, ℕ, ◌+◌, Bool, Option, List, [], ◌∷◌, ◌++◌, length}
use Rattle.chi_types.specs.declared.ty.Ty.{Ty}
use Rattle.chi_core.specs.declared.communication.CComm.{CComm}
use Rattle.chi_core.specs.declared.expression.CExpr.{CExpr, out-CExpr}
use Rattle.chi_core.specs.declared.statement.Branch.{Branch, out-Branch}
use Rattle.chi_core.specs.declared.statement.CAlt.{CAlt, CAlt-F, out-CAlt}
use Rattle.chi_core.specs.declared.statement.CStat.{CStat}
use Rattle.chi_code.specs.declared.code.Around.{Around}
use Rattle.chi_code.specs.declared.instr.Instr.{Instr}
use Rattle.chi_code.specs.declared.instr.Instr.TheVariants as i
use Rattle.chi_code.specs.ExpressionLayout.{Has, ExprAt}
use Rattle.chi_code.specs.Sizes.{block_size}
use Rattle.chi_code.specs.StatementLayout.{GuardAt, CommAt, BlockAt}
use Rattle.chi_gen_parts.specs.Added.{Grows, around_of, turn_at}

-- branches, each of whose blocks leads to an end
pub data TestsAt (code : List Instr) (turn : ℕ → Instr) (slots : List Ty) (around : List Around) (end : ℕ) : List Branch → ℕ → ℕ → Type 0 where
  no_test : (a : ℕ) → TestsAt code turn slots around end [] a a
  one_test : (x : Branch) (xs : List Branch) (a b c d : ℕ) → ExprAt code (out-CExpr (out-Branch x).test) a b → Has code b (i.IfFalse (c + 1)) → BlockAt code turn slots around (out-Branch x).block (b + 1) c
      → Has code c (i.Jump end) → TestsAt code turn slots around end xs (c + 1) d → TestsAt code turn slots around end (x ∷ xs) a d

pub record AddsTests (process : Bool) (slots : List Ty) (near : Option Around) (end : ℕ) (xs : List Branch) (c d : List Instr) : Type 0 where
  pub grows : Grows c d
  pub at : (outer : List Around) → TestsAt d (turn_at process) slots (around_of near outer) end xs (length c) (length d)

-- alternatives, whose bodies will stand from p to before q
mutual
  pub data FrontsAt (code : List Instr) (slots : List Ty) (walks : Bool) : List ℕ → List CAlt → ℕ → ℕ → ℕ → ℕ → Type 0 where
    no_front : (names : List ℕ) (p a : ℕ) → FrontsAt code slots walks names [] p p a a
    one_front : (names : List ℕ) (x : CAlt) (xs : List CAlt) (p q r a b c : ℕ) → FrontAt code slots walks names (out-CAlt x) p q a b → FrontsAt code slots walks names xs q r b c
        → FrontsAt code slots walks names (x ∷ xs) p r a c

  pub data FrontAt (code : List Instr) (slots : List Ty) (walks : Bool) : List ℕ → CAlt-F CAlt CStat Branch → ℕ → ℕ → ℕ → ℕ → Type 0 where
    front : (names : List ℕ) (guard : Option CExpr) (communication : CComm) (body : List CStat) (p q a b c : ℕ) → GuardAt code c guard a b → CommAt code slots names p communication b c
        → q ≡ p + block_size body walks + 1 → FrontAt code slots walks names (CAlt-F.Guarded guard communication body) p q a c
    fronts_within : (names own : List ℕ) (e : CExpr) (alternatives : List CAlt) (p q a b c : ℕ) → ExprAt code (out-CExpr e) a b → Has code b i.Walk → Has code (b + 1) (i.Next (c + 1) own)
        → FrontsAt code slots walks (names ++ own) alternatives p q (b + 1 + 1) c → Has code c (i.Jump (b + 1)) → FrontAt code slots walks names (CAlt-F.Unwind own e alternatives) p q a (c + 1)

pub record AddsFronts (slots : List Ty) (walks : Bool) (names : List ℕ) (xs : List CAlt) (p q : ℕ) (c d : List Instr) : Type 0 where
  pub grows : Grows c d
  pub at : FrontsAt d slots walks names xs p q (length c) (length d)

-- a guard, if there is one, and a communication, whose body begins at a place
pub record AddsOffer (slots : List Ty) (names : List ℕ) (body : ℕ) (guard : Option CExpr) (communication : CComm) (c d : List Instr) : Type 0 where
  pub grows : Grows c d
  pub between : ℕ
  pub guarded : GuardAt d (length d) guard (length c) between
  pub offered : CommAt d slots names body communication between (length d)

-- bodies of alternatives, each of which leads to an end
mutual
  pub data BodiesAt (code : List Instr) (turn : ℕ → Instr) (slots : List Ty) (around : List Around) (end : ℕ) : List CAlt → ℕ → ℕ → Type 0 where
    no_body : (p : ℕ) → BodiesAt code turn slots around end [] p p
    one_body : (x : CAlt) (xs : List CAlt) (p q r : ℕ) → BodyOf code turn slots around end (out-CAlt x) p q → BodiesAt code turn slots around end xs q r → BodiesAt code turn slots around end (x ∷ xs) p r

  pub data BodyOf (code : List Instr) (turn : ℕ → Instr) (slots : List Ty) (around : List Around) (end : ℕ) : CAlt-F CAlt CStat Branch → ℕ → ℕ → Type 0 where
    body_of : (guard : Option CExpr) (communication : CComm) (body : List CStat) (p q : ℕ) → BlockAt code turn slots around body p q → Has code q (i.Jump end)
        → BodyOf code turn slots around end (CAlt-F.Guarded guard communication body) p (q + 1)
    bodies_of : (own : List ℕ) (e : CExpr) (alternatives : List CAlt) (p q : ℕ) → BodiesAt code turn slots around end alternatives p q → BodyOf code turn slots around end (CAlt-F.Unwind own e alternatives) p q

pub record AddsBodies (process : Bool) (slots : List Ty) (near : Option Around) (end : ℕ) (xs : List CAlt) (c d : List Instr) : Type 0 where
  pub grows : Grows c d
  pub at : (outer : List Around) → BodiesAt d (turn_at process) slots (around_of near outer) end xs (length c) (length d)
