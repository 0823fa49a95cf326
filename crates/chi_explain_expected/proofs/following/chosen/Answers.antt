use Rattle.std.proofs.Common.{◌+◌, get_or, subst, sym}
use Rattle.std.specs.Prelude.{MatchBool}
use Rattle.chi_token.specs.declared.keyword.Keyword.TheVariants.{AltWord}
use Rattle.chi_tree.specs.declared.class.Class.TheVariants.{Word}
use Rattle.chi_explain_expected.specs.Expected.{CanStand, CannotStand, tokens_before}
use Rattle.chi_explain_expected.proofs.Choices.{Chosen, chosen_yes, chosen_no, chosen_all}
use Rattle.chi_explain_expected.proofs.following.chosen.Goals as goal
use Rattle.chi_explain_expected.proofs.following.chosen.Goals.{then-branch+in_ok-push, else-branch}

pub loop-class-preserved : goal.loop-class-preserved
loop-class-preserved c =
    let before = tokens_before c.args.tokens.now c.args.k in
    let l = c.loop-class in
    let d = Word AltWord in
    let x = get_or c.args.classes.now l.class-index d in
    elim c.if-branch.branch [
      | then-branch+in_ok-push w ↦
          let can = subst (λ b. MatchBool b (CanStand before x) (CannotStand before x)) w.if-branch.true c.in_ok-can_stand.ensures in
          subst (λ v. Chosen before c.args.classes.now (l.class-index + 1) v.items) (sym w.chosen-is)
          (subst (Chosen before c.args.classes.now (l.class-index + 1)) (sym w.in_ok-push.ensures.items)
          (chosen_yes before c.args.classes.now l.class-index l.chosen.items d c.loop-class-test.true can l.invariant))
      | else-branch w ↦
          let cannot = subst (λ b. MatchBool b (CanStand before x) (CannotStand before x)) w.if-branch.false c.in_ok-can_stand.ensures in
          subst (λ v. Chosen before c.args.classes.now (l.class-index + 1) v.items) (sym w.chosen-is)
          (chosen_no before c.args.classes.now l.class-index l.chosen.items d c.loop-class-test.true cannot l.invariant)
    ]

pub returns : goal.returns
returns c =
    chosen_all (tokens_before c.args.tokens.now c.args.k) c.args.classes.now c.loop-class.class-index c.loop-class.chosen.items
    c.loop-class-test.false c.loop-class.invariant
