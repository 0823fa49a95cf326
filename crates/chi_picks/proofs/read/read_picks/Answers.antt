use Rattle.std.proofs.Common.{length, sym, subst, ◌∙◌}
use Rattle.std.proofs.lemmas.Bool.{eqb-true}
use Rattle.chi_trace.proofs.LogLaws.{cut_shorter}
use Rattle.chi_trace.proofs.OneLine.{none_left, some_left}
use Rattle.chi_picks.specs.Lists.{IsRefused}
use Rattle.chi_picks.proofs.Lists.{Reads, open_odd, other_odd, reads_none, reads_next, reads_all, reads_odd}
use Rattle.chi_picks.proofs.read.read_picks.Goals as goal

pub line-init : goal.line-init
line-init c = rw c.new-picks.ensures.items (reads_none c.args.text.now)

pub line-smaller : goal.line-smaller
line-smaller c = cut_shorter _ _ _ c.in-Some.ensures

pub line-preserved : goal.line-preserved
line-preserved c =
    subst (λ picks. Reads c.args.text.now picks c.in-Some.more.now) (sym c.in_ok-push.ensures.items)
    (reads_next _ _ _ _ _ _ c.line.invariant c.in-Some.ensures (sym c.in-Some-pick_in.ensures))

pub returns-in_default-pick_in : goal.returns-in_default-pick_in
returns-in_default-pick_in c =
    subst (IsRefused c.args.text.now) (sym (rw (c.deref.ensures.value) at c.misfit_after.ensures))
    (reads_odd _ _ _ c.line.invariant (other_odd _ _ _ c.in-Some.ensures (sym c.in_default-pick_in.ensures)))

pub returns-then-is_empty : goal.returns-then-is_empty
returns-then-is_empty c =
    reads_all _ _ _ c.line.invariant (none_left c.line.rest.now (eqb-true (length c.line.rest.now) 0 (sym c.is_empty.ensures ∙ c.if-is_empty.true)))

pub returns-else-is_empty : goal.returns-else-is_empty
returns-else-is_empty c =
    subst (IsRefused c.args.text.now) (sym (rw (c.deref-else-is_empty.ensures.value) at c.misfit_after-else-is_empty.ensures))
    (reads_odd _ _ _ c.line.invariant (open_odd c.line.rest.now c.in_default.ensures (some_left c.line.rest.now (sym c.is_empty.ensures ∙ c.if-is_empty.false))))
