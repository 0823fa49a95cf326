use Rattle.std.proofs.Common.{◌+◌, ◌-◌, ◌*◌, ◌++◌, length}
use Rattle.chi_grammar.specs.Rules.{part, ◌▸◌}
use Rattle.chi_token.specs.declared.sign.Sign.TheVariants.{Comma}
use Rattle.chi_tree.specs.Parts as s
use Rattle.chi_tree.specs.Rules.{sign}
use Rattle.chi_tree.specs.View.{entries_of, links_of, more_exprs_of, more_formals_of, postfixes_of}
use Rattle.chi_parse_expr.specs.Grouping.{link_part}
use Rattle.chi_parse_expr.proofs.Grouping.{height}
use Rattle.chi_parse_expr.proofs.Loops.{Gathered}
use Rattle.chi_parse_expr.proofs.+expr.Given as goal

abbrev pub decreases-blanks::blank : goal.decreases-blanks::blank
decreases-blanks::blank l = 38 * l.room.expressions + 7

abbrev pub decreases-blanks::blank_end : goal.decreases-blanks::blank_end
decreases-blanks::blank_end l = 38 * l.room.expressions + 6

abbrev pub decreases-braces::contents : goal.decreases-braces::contents
decreases-braces::contents l = 38 * l.room.expressions + 36

abbrev pub decreases-braces::curly : goal.decreases-braces::curly
decreases-braces::curly l = 38 * l.room.expressions + 0

abbrev pub decreases-braces::entries : goal.decreases-braces::entries
decreases-braces::entries l = 38 * l.room.expressions + 35

abbrev pub decreases-braces::more_entries : goal.decreases-braces::more_entries
decreases-braces::more_entries l = 38 * l.room.expressions + 34

abbrev pub decreases-braces::more_entry : goal.decreases-braces::more_entry
decreases-braces::more_entry l = 38 * l.room.expressions + 33

abbrev pub decreases-braces::entry_value : goal.decreases-braces::entry_value
decreases-braces::entry_value l = 38 * l.room.expressions + 32

abbrev pub decreases-braces::set_or_dict : goal.decreases-braces::set_or_dict
decreases-braces::set_or_dict l = 38 * l.room.expressions + 37

abbrev pub decreases-compounds::carried : goal.decreases-compounds::carried
decreases-compounds::carried l = 38 * l.room.expressions + 1

abbrev pub decreases-compounds::chan_type : goal.decreases-compounds::chan_type
decreases-compounds::chan_type l = 38 * l.room.expressions + 2

abbrev pub decreases-compounds::dict_type : goal.decreases-compounds::dict_type
decreases-compounds::dict_type l = 38 * l.room.expressions + 0

abbrev pub decreases-compounds::fields : goal.decreases-compounds::fields
decreases-compounds::fields l = 38 * l.room.expressions + 3

abbrev pub decreases-compounds::more_field : goal.decreases-compounds::more_field
decreases-compounds::more_field l = 38 * l.room.expressions + 1

abbrev pub decreases-compounds::more_fields : goal.decreases-compounds::more_fields
decreases-compounds::more_fields l = 38 * l.room.expressions + 2

abbrev pub decreases-compounds::tuple_type : goal.decreases-compounds::tuple_type
decreases-compounds::tuple_type l = 38 * l.room.expressions + 0

abbrev pub decreases-levels::chain : goal.decreases-levels::chain
decreases-levels::chain l = 38 * l.room.expressions + height l.level + 3

abbrev pub decreases-levels::expr : goal.decreases-levels::expr
decreases-levels::expr l = 38 * l.room.expressions + 31

abbrev pub decreases-levels::link : goal.decreases-levels::link
decreases-levels::link l = 38 * l.room.expressions + height l.level + 1

abbrev pub decreases-levels::links : goal.decreases-levels::links
decreases-levels::links l = 38 * l.room.expressions + height l.level + 2

abbrev pub decreases-levels::neg : goal.decreases-levels::neg
decreases-levels::neg l = 38 * l.room.expressions + 22

abbrev pub decreases-levels::not_neg : goal.decreases-levels::not_neg
decreases-levels::not_neg l = 38 * l.room.expressions + 0

abbrev pub decreases-levels::operand : goal.decreases-levels::operand
decreases-levels::operand l = 38 * l.room.expressions + height l.level

abbrev pub decreases-levels::rel : goal.decreases-levels::rel
decreases-levels::rel l = 38 * l.room.expressions + 21

abbrev pub decreases-levels::rel_link : goal.decreases-levels::rel_link
decreases-levels::rel_link l = 38 * l.room.expressions + 20

abbrev pub decreases-postfixes::bracket : goal.decreases-postfixes::bracket
decreases-postfixes::bracket l = 38 * l.room.expressions + 0

abbrev pub decreases-postfixes::bracketed : goal.decreases-postfixes::bracketed
decreases-postfixes::bracketed l = 38 * l.room.expressions + 37

abbrev pub decreases-postfixes::indexed : goal.decreases-postfixes::indexed
decreases-postfixes::indexed l = 38 * l.room.expressions + 36

abbrev pub decreases-postfixes::optional_expr : goal.decreases-postfixes::optional_expr
decreases-postfixes::optional_expr l = 38 * l.room.expressions + 33

abbrev pub decreases-postfixes::post : goal.decreases-postfixes::post
decreases-postfixes::post l = 38 * l.room.expressions + 9

abbrev pub decreases-postfixes::postfix : goal.decreases-postfixes::postfix
decreases-postfixes::postfix l = 38 * l.room.expressions + 1

abbrev pub decreases-postfixes::postfixes : goal.decreases-postfixes::postfixes
decreases-postfixes::postfixes l = 38 * l.room.expressions + 2

abbrev pub decreases-postfixes::sliced : goal.decreases-postfixes::sliced
decreases-postfixes::sliced l = 38 * l.room.expressions + 35

abbrev pub decreases-postfixes::stepped : goal.decreases-postfixes::stepped
decreases-postfixes::stepped l = 38 * l.room.expressions + 34

abbrev pub decreases-primaries::cast : goal.decreases-primaries::cast
decreases-primaries::cast l = 38 * l.room.expressions + 0

abbrev pub decreases-primaries::named : goal.decreases-primaries::named
decreases-primaries::named l = 38 * l.room.expressions + 1

abbrev pub decreases-primaries::primary : goal.decreases-primaries::primary
decreases-primaries::primary l = 38 * l.room.expressions + 8

abbrev pub decreases-primaries::round : goal.decreases-primaries::round
decreases-primaries::round l = 38 * l.room.expressions + 0

abbrev pub decreases-primaries::square : goal.decreases-primaries::square
decreases-primaries::square l = 38 * l.room.expressions + 0

abbrev pub decreases-primaries::tuple_or_round : goal.decreases-primaries::tuple_or_round
decreases-primaries::tuple_or_round l = 38 * l.room.expressions + 34

abbrev pub decreases-sequences::arguments : goal.decreases-sequences::arguments
decreases-sequences::arguments l = 38 * l.room.expressions + 0

abbrev pub decreases-sequences::exprs : goal.decreases-sequences::exprs
decreases-sequences::exprs l = 38 * l.room.expressions + 34

abbrev pub decreases-sequences::exprs_after : goal.decreases-sequences::exprs_after
decreases-sequences::exprs_after l = 38 * l.room.expressions + 33

abbrev pub decreases-sequences::more_exprs : goal.decreases-sequences::more_exprs
decreases-sequences::more_exprs l = 38 * l.room.expressions + 32

abbrev pub decreases-sequences::optional_exprs : goal.decreases-sequences::optional_exprs
decreases-sequences::optional_exprs l = 38 * l.room.expressions + 35

abbrev pub decreases-terms::power : goal.decreases-terms::power
decreases-terms::power l = 38 * l.room.expressions + 10

abbrev pub decreases-terms::power_link : goal.decreases-terms::power_link
decreases-terms::power_link l = 38 * l.room.expressions + 0

abbrev pub decreases-terms::prefixed : goal.decreases-terms::prefixed
decreases-terms::prefixed l = 38 * l.room.expressions + 0

abbrev pub decreases-terms::unary : goal.decreases-terms::unary
decreases-terms::unary l = 38 * l.room.expressions + 11

abbrev pub decreases-types::any_type : goal.decreases-types::any_type
decreases-types::any_type l = 38 * l.room.expressions + 4

abbrev pub decreases-types::built_type : goal.decreases-types::built_type
decreases-types::built_type l = 38 * l.room.expressions + 3

abbrev pub decreases-types::dist_type : goal.decreases-types::dist_type
decreases-types::dist_type l = 38 * l.room.expressions + 1

abbrev pub decreases-types::list_size : goal.decreases-types::list_size
decreases-types::list_size l = 38 * l.room.expressions + 0

abbrev pub decreases-types::list_type : goal.decreases-types::list_type
decreases-types::list_type l = 38 * l.room.expressions + 1

abbrev pub decreases-types::nested_type : goal.decreases-types::nested_type
decreases-types::nested_type l = 38 * l.room.expressions + 0

abbrev pub decreases-types::set_type : goal.decreases-types::set_type
decreases-types::set_type l = 38 * l.room.expressions + 1

abbrev pub invariant-levels::links-turn : goal.invariant-levels::links-turn
invariant-levels::links-turn l =
    Gathered links_of links_of l.fn.tokens l.fn.room (part (link_part l.fn.level)) l.fn.at l.end l.found.items

abbrev pub decreases-levels::links-turn : goal.decreases-levels::links-turn
decreases-levels::links-turn l = length l.tokens - l.end

abbrev pub invariant-postfixes::postfixes-turn : goal.invariant-postfixes::postfixes-turn
invariant-postfixes::postfixes-turn l =
    Gathered postfixes_of postfixes_of l.fn.tokens l.fn.room (part s.Postfix) l.fn.at l.end l.found.items

abbrev pub decreases-postfixes::postfixes-turn : goal.decreases-postfixes::postfixes-turn
decreases-postfixes::postfixes-turn l = length l.tokens - l.end

abbrev pub invariant-sequences::more_exprs-turn : goal.invariant-sequences::more_exprs-turn
invariant-sequences::more_exprs-turn l =
    Gathered (λ ts. l.fn.found.items ++ more_exprs_of ts) more_exprs_of l.fn.tokens l.fn.room (sign Comma ▸ part s.Expr) l.fn.at l.end l.found.items

abbrev pub decreases-sequences::more_exprs-turn : goal.decreases-sequences::more_exprs-turn
decreases-sequences::more_exprs-turn l = length l.tokens - l.end

abbrev pub invariant-braces::more_entries-turn : goal.invariant-braces::more_entries-turn
invariant-braces::more_entries-turn l =
    Gathered (λ ts. l.fn.found.items ++ entries_of ts) entries_of l.fn.tokens l.fn.room (part s.MoreEntry) l.fn.at l.end l.found.items

abbrev pub decreases-braces::more_entries-turn : goal.decreases-braces::more_entries-turn
decreases-braces::more_entries-turn l = length l.tokens - l.end

abbrev pub invariant-compounds::more_fields-turn : goal.invariant-compounds::more_fields-turn
invariant-compounds::more_fields-turn l =
    Gathered (λ ts. l.fn.found.items ++ more_formals_of ts) more_formals_of l.fn.tokens l.fn.room (part s.MoreField) l.fn.at l.end l.found.items

abbrev pub decreases-compounds::more_fields-turn : goal.decreases-compounds::more_fields-turn
decreases-compounds::more_fields-turn l = length l.tokens - l.end
