-- Statements, branches and alternatives of what their parts come to, where each part comes to something.
use Rattle.std.specs.Prelude.{ℕ, List, [], ◌∷◌, Option, option_map}
use Rattle.std.specs.Option.{option_and_then}
use Rattle.chi_core.specs.declared.communication.CComm.{CComm}
use Rattle.chi_core.specs.declared.element.CElem.{CElem}
use Rattle.chi_core.specs.declared.expression.CExpr.{CExpr}
use Rattle.chi_core.specs.declared.statement.Branch.{Branch as CBranch}
use Rattle.chi_core.specs.declared.statement.CAlt.{CAlt}
use Rattle.chi_core.specs.declared.statement.CAlt.TheVariants as alternative
use Rattle.chi_core.specs.declared.statement.CStat.{CStat}
use Rattle.chi_core.specs.declared.statement.CStat.TheVariants as statement
use Rattle.chi_check_stat_lines.specs.declared.state.Opened.{Opened}
use Rattle.chi_check_stat_lines.specs.Stated.{both}

abbrev pub offers : ℕ → Option (List CAlt) → Option (List CStat)
offers line = option_map (λ each. statement.Select line each ∷ [])

abbrev pub runs : ℕ → Option (List CElem) → Option (List CStat)
runs line = option_map (λ each. statement.Run line each ∷ [])

abbrev pub starts : ℕ → Option (List CElem) → Option (List CStat)
starts line = option_map (λ each. statement.Start line each ∷ [])

abbrev pub chosen : ℕ → Option (List CBranch) → Option (List CStat) → Option (List CStat)
chosen line = both (λ branches otherwise. statement.If line branches otherwise ∷ [])

abbrev pub looped : ℕ → Option CExpr → Option (List CStat) → Option (List CStat)
looped line = both (λ test inner. statement.While line test inner ∷ [])

abbrev pub walked : ℕ → Option Opened → Option (List CStat) → Option (List CStat)
walked line = both (λ w inner. statement.For line w.slots w.container inner ∷ [])

abbrev pub branched : Option CExpr → Option (List CStat) → Option (List CBranch)
branched = both (λ test inner. record { test = test; block = inner } ∷ [])

abbrev pub guarded : Option (Option CExpr) → Option CComm → Option (List CStat) → Option (List CAlt)
guarded guard c inner = option_and_then (λ g. both (λ c b. alternative.Guarded g c b ∷ []) c inner) guard

abbrev pub offered : Option Opened → Option (List CAlt) → Option (List CAlt)
offered = both (λ w inner. alternative.Unwind w.slots w.container inner ∷ [])
