-- Private to the generator. The sizes of statements and of their parts, in a walk or not, as they are measured.
use Rattle.std.specs.Prelude.{◌≡◌, ℕ, Bool, true, false, List, [], ◌∷◌, Option, map}
use Rattle.chi_core.specs.declared.communication.CComm.{CComm}
use Rattle.chi_core.specs.declared.expression.CExpr.{CExpr}
use Rattle.chi_core.specs.declared.statement.Branch.{Branch, out-Branch}
use Rattle.chi_core.specs.declared.statement.CAlt.{CAlt, CAlt-F, out-CAlt}
use Rattle.chi_core.specs.declared.statement.CStat.{CStat, CStat-F, out-CStat}
use Rattle.chi_code.specs.Sizes.{total, statement_size, branch_size, alternative_size}
use Rattle.chi_gen_sizes.specs.declared.measured.Measured.{Measured, out-Measured}

abbrev pub size_in : Measured → ℕ
size_in m = (out-Measured m).size

abbrev pub bodies_in : Measured → ℕ
bodies_in m = (out-Measured m).bodies

abbrev pub parts_in : Measured → List Measured
parts_in m = (out-Measured m).parts

abbrev pub others_in : Measured → List Measured
others_in m = (out-Measured m).others

abbrev pub sizes_in : List Measured → ℕ
sizes_in ms = total (map size_in ms)

abbrev pub all_bodies : List Measured → ℕ
all_bodies ms = total (map bodies_in ms)

abbrev pub has_blocks : CStat-F CAlt CStat Branch → Bool
has_blocks (CStat-F.If line branches otherwise) = true
has_blocks (CStat-F.While line test block) = true
has_blocks (CStat-F.For line names e block) = true
has_blocks (CStat-F.Select line alternatives) = true
has_blocks _ = false

mutual
  pub data StatMeasured : Bool → CStat → Measured → Type 0 where
    statement : (walks : Bool) (x : CStat) (m : Measured) → size_in m ≡ statement_size x walks → PartsMeasured walks (out-CStat x) m → StatMeasured walks x m

  pub data PartsMeasured : Bool → CStat-F CAlt CStat Branch → Measured → Type 0 where
    no_part : (walks : Bool) (o : CStat-F CAlt CStat Branch) (m : Measured) → has_blocks o ≡ false → PartsMeasured walks o m
    choice : (walks : Bool) (line : ℕ) (bs : List Branch) (otherwise : List CStat) (m : Measured) → BranchesMeasured walks bs (parts_in m) → BlockMeasured walks otherwise (others_in m)
        → PartsMeasured walks (CStat-F.If line bs otherwise) m
    loop : (walks : Bool) (line : ℕ) (test : CExpr) (block : List CStat) (m : Measured) → BlockMeasured false block (parts_in m) → PartsMeasured walks (CStat-F.While line test block) m
    walk : (walks : Bool) (line : ℕ) (names : List ℕ) (e : CExpr) (block : List CStat) (m : Measured) → BlockMeasured true block (parts_in m) → PartsMeasured walks (CStat-F.For line names e block) m
    select : (walks : Bool) (line : ℕ) (alternatives : List CAlt) (m : Measured) → AltsMeasured walks alternatives (parts_in m) → PartsMeasured walks (CStat-F.Select line alternatives) m

  pub data BlockMeasured : Bool → List CStat → List Measured → Type 0 where
    no_statement : (walks : Bool) → BlockMeasured walks [] []
    one_statement : (walks : Bool) (x : CStat) (xs : List CStat) (m : Measured) (ms : List Measured) → StatMeasured walks x m → BlockMeasured walks xs ms → BlockMeasured walks (x ∷ xs) (m ∷ ms)

  pub data BranchMeasured : Bool → Branch → Measured → Type 0 where
    branch : (walks : Bool) (x : Branch) (m : Measured) → size_in m ≡ branch_size x walks → BlockMeasured walks (out-Branch x).block (parts_in m) → BranchMeasured walks x m

  pub data BranchesMeasured : Bool → List Branch → List Measured → Type 0 where
    no_branch : (walks : Bool) → BranchesMeasured walks [] []
    one_branch : (walks : Bool) (x : Branch) (xs : List Branch) (m : Measured) (ms : List Measured) → BranchMeasured walks x m → BranchesMeasured walks xs ms → BranchesMeasured walks (x ∷ xs) (m ∷ ms)

  -- an alternative, its bodies apart
  pub data AltMeasured : Bool → CAlt → Measured → Type 0 where
    alternative : (walks : Bool) (x : CAlt) (m : Measured) → size_in m ≡ (alternative_size x walks).front → bodies_in m ≡ (alternative_size x walks).bodies → WithinMeasured walks (out-CAlt x) m
        → AltMeasured walks x m

  pub data WithinMeasured : Bool → CAlt-F CAlt CStat Branch → Measured → Type 0 where
    guarded : (walks : Bool) (guard : Option CExpr) (communication : CComm) (body : List CStat) (m : Measured) → BlockMeasured walks body (parts_in m)
        → WithinMeasured walks (CAlt-F.Guarded guard communication body) m
    unwinds : (walks : Bool) (names : List ℕ) (e : CExpr) (alternatives : List CAlt) (m : Measured) → AltsMeasured walks alternatives (parts_in m)
        → WithinMeasured walks (CAlt-F.Unwind names e alternatives) m

  pub data AltsMeasured : Bool → List CAlt → List Measured → Type 0 where
    no_alternative : (walks : Bool) → AltsMeasured walks [] []
    one_alternative : (walks : Bool) (x : CAlt) (xs : List CAlt) (m : Measured) (ms : List Measured) → AltMeasured walks x m → AltsMeasured walks xs ms → AltsMeasured walks (x ∷ xs) (m ∷ ms)
