use Rattle.std.proofs.Common.{[], ◌∷◌, refl, ap, ◌∙◌}
use Rattle.chi_grammar.specs.Rules.{maybe, ◌∣◌}
use Rattle.chi_grammar.specs.RuleRuns as runs
use Rattle.chi_grammar.proofs.Exits.{read, failed}
use Rattle.chi_token.specs.declared.sign.Sign.TheVariants.{Bang, Question}
use Rattle.chi_tree.specs.declared.class.Class.TheVariants as class
use Rattle.chi_tree.specs.declared.type_tree.Way.TheVariants as way
use Rattle.chi_tree.specs.Rules.{grammar, sign}
use Rattle.chi_tree.specs.Tables.{table}
use Rattle.chi_tree.specs.View.{given_or, way_in}
use Rattle.chi_parse_look.proofs.Words.{run_one_of, run_none_of}
use Rattle.chi_parse_expr.proofs.Rows.{way_row}
use Rattle.chi_parse_expr.proofs.compounds.channel_way.Goals as goal

pub returns-in_err-word : goal.returns-in_err-word
returns-in_err-word c room =
    failed grammar table _ way_in _ (maybe (sign Bang ∣ sign Question)) _ _ _ c.from_residual.ensures.1
    (runs.once (c.is_next.ensures ∙ c.if-is_next.true) (run_none_of (class.Sign Bang) (class.Sign Question ∷ []) c.in_err-word.ensures))

pub returns-then-is_next : goal.returns-then-is_next
returns-then-is_next c room =
    let word = c.in_ok-word.ensures in
    read grammar table _ way_in c.requires.inside
    (runs.once (c.is_next.ensures ∙ c.if-is_next.true) (run_one_of (class.Sign Bang) (class.Sign Question ∷ []) word))
    (ap (given_or way.Both) c.way_of.ensures)

pub returns : goal.returns
returns c room =
    read grammar table _ way_in c.requires.inside
    (runs.never (c.is_next.ensures ∙ c.if-is_next.false))
    refl

pub way_of-requires : goal.way_of-requires
way_of-requires c = way_row c.in_ok-word.word.now.token c.in_ok-word.ensures.of_classes
