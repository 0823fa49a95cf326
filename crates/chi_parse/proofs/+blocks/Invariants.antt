use Rattle.std.proofs.Common.{◌+◌, ◌-◌, ◌*◌, ◌≤◌, ◌∷◌, length, if◌then◌else◌}
use Rattle.chi_token.specs.declared.keyword.Keyword.TheVariants as word_of
use Rattle.chi_grammar.specs.Rules.{part, ◌▸◌}
use Rattle.chi_tree.specs.Parts as s
use Rattle.chi_tree.specs.Rules.{keyword}
use Rattle.chi_tree.specs.Statements.{elifs_of, more_alternatives_of}
use Rattle.chi_parse_expr.proofs.Loops.{Gathered}
use Rattle.chi_parse.proofs.Stretch.{Stretch}
use Rattle.chi_parse.proofs.+blocks.Given as goal

abbrev pub invariant-blocks::more_branches-turn : goal.invariant-blocks::more_branches-turn
invariant-blocks::more_branches-turn l = Gathered (λ ts. l.fn.first ∷ elifs_of ts) elifs_of l.fn.tokens l.fn.room (part s.Elif) l.fn.at l.end l.branches.items

abbrev pub decreases-blocks::more_branches-turn : goal.decreases-blocks::more_branches-turn
decreases-blocks::more_branches-turn l = length l.tokens - l.end

abbrev pub invariant-selects::more_alternatives-turn : goal.invariant-selects::more_alternatives-turn
invariant-selects::more_alternatives-turn l = Gathered (λ ts. l.fn.first ∷ more_alternatives_of ts) more_alternatives_of l.fn.tokens l.fn.room (keyword word_of.AltWord ▸ part s.Alternative) l.fn.at l.end l.alternatives.items

abbrev pub decreases-selects::more_alternatives-turn : goal.decreases-selects::more_alternatives-turn
decreases-selects::more_alternatives-turn l = length l.tokens - l.end

abbrev pub decreases-blocks::inner : goal.decreases-blocks::inner
decreases-blocks::inner l = 16 * l.room.blocks + 1

abbrev pub decreases-selects::alternative_body : goal.decreases-selects::alternative_body
decreases-selects::alternative_body l = 16 * l.room.blocks + 2

abbrev pub decreases-selects::guarded_alternative : goal.decreases-selects::guarded_alternative
decreases-selects::guarded_alternative l = 16 * l.room.blocks + 3

abbrev pub decreases-selects::unwound_alternatives : goal.decreases-selects::unwound_alternatives
decreases-selects::unwound_alternatives l = 16 * l.room.blocks + 3

abbrev pub decreases-selects::repeated_alternatives : goal.decreases-selects::repeated_alternatives
decreases-selects::repeated_alternatives l = 16 * l.room.blocks + 2

abbrev pub decreases-selects::alternative : goal.decreases-selects::alternative
decreases-selects::alternative l = 16 * l.room.blocks + 4

abbrev pub decreases-selects::more_alternatives : goal.decreases-selects::more_alternatives
decreases-selects::more_alternatives l = 16 * l.room.blocks + 5

abbrev pub decreases-selects::alternatives : goal.decreases-selects::alternatives
decreases-selects::alternatives l = 16 * l.room.blocks + 6

abbrev pub decreases-blocks::body : goal.decreases-blocks::body
decreases-blocks::body l = 16 * l.room.blocks + 2

abbrev pub decreases-blocks::after_colon : goal.decreases-blocks::after_colon
decreases-blocks::after_colon l = 16 * l.room.blocks + 2

abbrev pub decreases-blocks::branch : goal.decreases-blocks::branch
decreases-blocks::branch l = 16 * l.room.blocks + 3

abbrev pub decreases-blocks::more_branches : goal.decreases-blocks::more_branches
decreases-blocks::more_branches l = 16 * l.room.blocks + 4

abbrev pub decreases-blocks::otherwise : goal.decreases-blocks::otherwise
decreases-blocks::otherwise l = 16 * l.room.blocks + 2

abbrev pub decreases-selects::select : goal.decreases-selects::select
decreases-selects::select l = 16 * l.room.blocks + 7

abbrev pub decreases-blocks::branching : goal.decreases-blocks::branching
decreases-blocks::branching l = 16 * l.room.blocks + 5

abbrev pub decreases-blocks::repetition : goal.decreases-blocks::repetition
decreases-blocks::repetition l = 16 * l.room.blocks + 3

abbrev pub decreases-blocks::walking : goal.decreases-blocks::walking
decreases-blocks::walking l = 16 * l.room.blocks + 3

abbrev pub decreases-blocks::closed : goal.decreases-blocks::closed
decreases-blocks::closed l = 16 * l.room.blocks + 8

abbrev pub decreases-blocks::statement : goal.decreases-blocks::statement
decreases-blocks::statement l = 16 * l.room.blocks + 9

abbrev pub decreases-blocks::block : goal.decreases-blocks::block
decreases-blocks::block l = 16 * l.room.blocks + 10

abbrev pub invariant-blocks::block-turn : goal.invariant-blocks::block-turn
invariant-blocks::block-turn l = Stretch l.fn.tokens l.fn.room l.fn.at l.more l.end l.steps.items × (l.end ≤ length l.tokens)

abbrev pub decreases-blocks::block-turn : goal.decreases-blocks::block-turn
decreases-blocks::block-turn l = (length l.tokens - l.end) + (if l.more then 1 else 0)
