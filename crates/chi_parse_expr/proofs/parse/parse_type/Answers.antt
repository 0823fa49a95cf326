use Rattle.std.proofs.Common.{refl, subst}
use Rattle.chi_grammar.specs.Reads.{Reads}
use Rattle.chi_grammar.specs.Rules.{part}
use Rattle.chi_grammar.proofs.Exact.{parses}
use Rattle.chi_tree.specs.Parts as s
use Rattle.chi_tree.specs.Rules.{grammar}
use Rattle.chi_tree.specs.Tables.{table}
use Rattle.chi_tree.specs.View.{type_of}
use Rattle.chi_tree.proofs.Fine.{grammar_fine}
use Rattle.chi_parse_expr.proofs.parse.parse_type.Goals as goal

pub returns : goal.returns
returns c =
    parses grammar table grammar_fine type_of _ _ (part s.AnyType) refl _ c.requires.inside _
    (subst (λ room. Reads grammar table c.args.tokens.now type_of room (part s.AnyType) c.args.at c.any_type.result) c.room_inside.ensures c.any_type.ensures)
