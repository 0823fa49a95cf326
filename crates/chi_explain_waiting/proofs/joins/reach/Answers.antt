use Rattle.std.proofs.Common.{◌≡◌, ℕ, ap, ◌∙◌, subst, arith}
use Rattle.std.proofs.lemmas.List.{get_or_read}
use Rattle.chi_explain_waiting.specs.Finding.{Reaches}
use Rattle.chi_explain_waiting.specs.Joins.{waited}
use Rattle.chi_explain_waiting.proofs.Findings.{reaches_more}
use Rattle.chi_explain_waiting.proofs.joins.reach.Goals as goal

pub loop-at-preserved : goal.loop-at-preserved
loop-at-preserved c =
    let longer = c.loop-at.invariant.2.begins.longer in (
      c.in_ok-add_all.ensures.marked,
      c.in_ok-add_all.ensures.room ∙ c.loop-at.invariant.1,
      reaches_more (waited c.args.configuration.now) c.args.from c.loop-at.at c.args.found.now.numbers.items c.loop-at.found.numbers.items _ _ c.loop-at.invariant.2
          c.in_ok-add_all.ensures.adds (omega arith)
          (c.deref.ensures.value ∙ c.in_ok-more.ensures
          ∙ ap (waited c.args.configuration.now)
          (get_or_read c.loop-at.found.numbers.items c.loop-at.at _ (omega (arith, longer)) c.index-pid.ensures 0)),
    )

pub returns-clause-reaches : goal.returns-clause-reaches
returns-clause-reaches c =
    let same : c.loop-at.at ≡ c.args.to = omega arith in
    subst (λ (n : ℕ). Reaches (waited c.args.configuration.now) c.args.from n c.args.found.now.numbers.items c.loop-at.found.numbers.items) same
    c.loop-at.invariant.2
