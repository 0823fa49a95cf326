use Rattle.std.proofs.Common.{◌∙◌, ap, map}
use Rattle.std.proofs.lemmas.Result.{IfOk-weaker}
use Rattle.chi_tree_spell.specs.Words.{token_of}
use Rattle.chi_explain_expected.specs.Expected.{tokens_before}
use Rattle.chi_explain_expected.proofs.Asked.{told_standing}
use Rattle.chi_explain_expected.proofs.following.can_stand.Goals as goal

pub returns : goal.returns
returns c =
    let same = ap (map token_of) c.deref.ensures.value ∙ c.in_ok-all.ensures.tokens in
    IfOk-weaker c.begins.result _ _ (λ b h. told_standing b (tokens_before c.args.tokens.now c.args.k) c.in_ok-next.next c.args.class _ c.in_ok-next.ensures same h)
    c.begins.ensures
