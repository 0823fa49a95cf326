use Rattle.std.proofs.Common.{◌≡◌, map, drop}
use Rattle.std.specs.Prelude.{is_some}
use Rattle.chi_check_types.specs.Names.{looked_up}
use Rattle.chi_explain_typing.proofs.predefined.has_name.Given as goal

-- the rows before this one have other names
abbrev pub invariant-loop-row : goal.invariant-loop-row
invariant-loop-row l =
    is_some (looked_up (map (λ row. (row.0.now, row.1)) l.rows) l.name)
    ≡ is_some (looked_up (map (λ row. (row.0.now, row.1)) (drop l.row-index l.rows)) l.name)
