use Rattle.std.proofs.Common.{sym, ap, ◌∙◌, rules}
use Rattle.std.proofs.lemmas.Iterator.{YieldsList-from_slice}
use Rattle.std.proofs.lemmas.Iterator.Search.{all_from_yields_List}
use Rattle.std.specs.List.{list_all}
use Rattle.chi_tree.specs.declared.expr.Expr.{out-Expr}
use Rattle.chi_tree.specs.declared.expr.Postfix.{out-Postfix}
use Rattle.chi_tree.specs.Statements.{is_some, is_step_in, name_target, target_in}
use Rattle.chi_parse.proofs.Ending.{out_part, kept_where}
use Rattle.chi_parse.proofs.offers.is_target.Goals as goal

pub returns-then-is_named : goal.returns-then-is_named
returns-then-is_named c =
    let base = c.in-Part.whole in
    let steps = c.in-Part.postfixes in
    all_from_yields_List (λ p. is_step_in (out-Postfix p)) _ _ _ c.all.ensures.ran (YieldsList-from_slice steps cc) (λ x b q k. search rules)
    ∙ sym (kept_where (list_all (λ p. is_step_in (out-Postfix p)) steps) (name_target (out-Expr base) steps)
    (ap (λ e. is_some (name_target (out-Expr e) steps)) (sym c.get.ensures.same) ∙ sym (c.is_named.ensures steps) ∙ c.if-is_named.true))
    ∙ sym (ap (λ x. is_some (target_in x)) (ap out-Expr c.in-Part.is ∙ out_part base steps))
