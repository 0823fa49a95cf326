use Rattle.std.proofs.Common.{◌≡◌, map, drop}
use Rattle.chi_token.specs.Tables.{value_at}
use Rattle.chi_token.proofs.table.value_of.Given as goal

-- the rows before this one have other spellings
abbrev pub invariant-loop-row : goal.invariant-loop-row
invariant-loop-row g l =
    value_at l.text (map (λ row. (row.0.now, row.1)) (drop l.row-index l.rows))
    ≡ value_at l.text (map (λ row. (row.0.now, row.1)) l.rows)
