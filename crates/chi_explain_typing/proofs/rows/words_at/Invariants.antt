use Rattle.std.proofs.Common.{◌≡◌, map, drop}
use Rattle.chi_explain_typing.specs.Rules.{words_at}
use Rattle.chi_explain_typing.proofs.rows.words_at.Given as goal

-- the rows before this one have other numbers
abbrev pub invariant-loop-row : goal.invariant-loop-row
invariant-loop-row l =
    words_at l.number (map (λ row. (row.0, row.1.now)) (drop l.row-index l.rows))
    ≡ words_at l.number (map (λ row. (row.0, row.1.now)) l.rows)
