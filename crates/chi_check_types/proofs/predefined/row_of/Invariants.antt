use Rattle.std.proofs.Common.{◌≡◌, map, drop}
use Rattle.chi_check_types.specs.Names.{looked_up}
use Rattle.chi_check_types.proofs.predefined.row_of.Given as goal

-- the rows before this one have other names
abbrev pub invariant-loop-row : goal.invariant-loop-row
invariant-loop-row l =
    looked_up (map (λ row. (row.0.now, row.1)) l.rows) l.name ≡ looked_up (map (λ row. (row.0.now, row.1)) (drop l.row-index l.rows)) l.name
