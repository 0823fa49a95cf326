-- Which slots count as set at a place of a body: the parameters; what is declared, or assigned as a whole, before it
-- in the same block or in a block around it; and what the walks and unwinds around it bind.
use Rattle.std.specs.Prelude.{ℕ, nat_eq, nat_lt, Bool, ◌||◌, List, [], ◌∷◌, length}
use Rattle.chi_core.specs.declared.statement.Branch.{Branch}
use Rattle.chi_core.specs.declared.statement.CAlt.{CAlt}
use Rattle.chi_core.specs.declared.statement.CStat.{CStat, CStat-F}
use Rattle.chi_core.specs.declared.target.CStep.{CStep}
use Rattle.chi_core.specs.declared.target.CTarget.{CTarget}
use Rattle.chi_core.specs.Scopes.{Home}

-- the outermost layer of a statement
abbrev pub StatLayer : Type 0
StatLayer = CStat-F CAlt CStat Branch

-- the slots that count as set
abbrev pub Known : Type 0
Known = ℕ → Bool

abbrev pub also : ℕ → Known → Known
also slot known k = nat_eq k slot || known k

abbrev pub also_all : List ℕ → Known → Known
also_all [] known = known
also_all (slot ∷ slots) known = also_all slots (also slot known)

abbrev pub whole_or : List CStep → ℕ → List ℕ → List ℕ
whole_or [] slot slots = slot ∷ slots
whole_or (step ∷ steps) slot slots = slots

-- the slots that are assigned as a whole
abbrev pub wholes : List CTarget → List ℕ
wholes [] = []
wholes (target ∷ targets) = whole_or target.steps target.slot (wholes targets)

-- what counts as set after a statement, in its block: what did before, and what it declares or assigns as a whole
abbrev pub sets : StatLayer → Known → Known
sets (CStat-F.Declare line slot e) known = also slot known
sets (CStat-F.Assign line targets values) known = also_all (wholes targets) known
sets _ known = known

-- at the start of a body its parameters
abbrev pub params_known : Home → Known
params_known d k = nat_lt k (length d.params)
