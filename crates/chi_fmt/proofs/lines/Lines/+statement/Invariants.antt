use Rattle.std.proofs.Common.{◌≡◌, ◌++◌, [], ◌∷◌, map, drop}
use Rattle.chi_token.specs.declared.keyword.Keyword.TheVariants.{IfWord, ElifWord, AltWord}
use Rattle.chi_fmt.specs.Lines.{alternative_lines, block_lines, branch_lines, led_lines, step_lines}
use Rattle.chi_fmt.specs.Parts.{word}
use Rattle.chi_fmt.proofs.lines.Lines.+statement.Given as goal

abbrev pub invariant-block-loop-step : goal.invariant-block-loop-step
invariant-block-loop-step l =
    l.self.lines.items ++ block_lines l.margin (map step_lines (drop l.step-index l.front) ++ step_lines l.last ∷ [])
    ≡ l.fn.self.lines.items ++ block_lines l.margin (map step_lines l.fn.steps)

abbrev pub invariant-alternatives-loop-alternative : goal.invariant-alternatives-loop-alternative
invariant-alternatives-loop-alternative l =
    l.self.lines.items
    ++ led_lines l.margin (word AltWord ∷ []) (word AltWord ∷ []) (map alternative_lines (drop l.alternative-index l.more))
    ≡ l.fn.self.lines.items
    ++ led_lines l.margin l.fn.begun.spots.items (word AltWord ∷ []) (map alternative_lines l.fn.alternatives)

abbrev pub invariant-branches-loop-branch : goal.invariant-branches-loop-branch
invariant-branches-loop-branch l =
    l.self.lines.items ++ led_lines l.margin (word ElifWord ∷ []) (word ElifWord ∷ []) (map branch_lines (drop l.branch-index l.more))
    ≡ l.fn.self.lines.items ++ led_lines l.margin (word IfWord ∷ []) (word ElifWord ∷ []) (map branch_lines l.fn.branches)
