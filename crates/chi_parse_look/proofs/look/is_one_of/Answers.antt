use Rattle.std.proofs.Common.{◌==◌, rules, sym, ◌∙◌}
use Rattle.std.proofs.lemmas.Iterator.{YieldsList-from_slice}
use Rattle.std.proofs.lemmas.Iterator.Search.{any_from_yields_List}
use Rattle.chi_tree.specs.Classes.{class_of, number_of}
use Rattle.chi_parse_look.proofs.Words.{list_any-map}
use Rattle.chi_parse_look.proofs.look.is_one_of.Goals as goal

pub returns : goal.returns
returns c =
    let n = number_of (class_of c.args.token.now) in
    any_from_yields_List (λ x. number_of x == n) _ _ _ c.any.ensures.ran (YieldsList-from_slice c.args.classes.now cc) (λ x b q k. search (rules))
    ∙ sym (list_any-map (λ m. m == n) number_of c.args.classes.now)
