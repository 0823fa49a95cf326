use Rattle.std.proofs.Common.{◌+◌, length, arith, sym, subst, ◌∙◌, ap}
use Rattle.chi_trace.proofs.LogLaws.{ComesTo, comes_first, comes_next, comes_done, comes_open, cut_shorter, last_given}
use Rattle.std.specs.Prelude.{Err}
use Rattle.std.proofs.lemmas.Bool.{eqb-true}
use Rattle.chi_trace.specs.declared.fault.TraceFault.{TraceFault}
use Rattle.chi_trace.proofs.OneLine.{none_left, some_left}
use Rattle.chi_trace.proofs.log.log_up.Goals as goal

pub line-init : goal.line-init
line-init c = comes_first _ _ _ c.in-Some.ensures.rest c.in_ok-up.ensures

pub overflow_add-number : goal.overflow_add-number
overflow_add-number c = let counted = c.line.invariant.counted in let within = c.requires in omega arith

pub line-smaller : goal.line-smaller
line-smaller c = cut_shorter _ _ _ c.in-Some-next_line.ensures

pub line-preserved : goal.line-preserved
line-preserved c =
    let up = c.in-Ok.ensures.ok in
    subst (λ text. ComesTo c.args.text.now text c.in-Some-next_line.more.now (c.line.number + 1)) (sym up.2)
    (comes_next _ _ _ _ _ _ up.0 c.line.invariant c.in-Some-next_line.ensures up.1)

pub last_up-requires : goal.last_up-requires
last_up-requires c = let counted = c.line.invariant.counted in let within = c.requires in omega arith

pub returns-in-Err-Form : goal.returns-in-Err-Form
returns-in-Err-Form c =
    last_given (λ log. log.items) _ _ _ _ _ _ _ (subst (λ text. ComesTo c.args.text.now text c.line.rest.now c.line.number) (sym c.in-Err-Form.ensures.err) c.line.invariant)
    c.in-Some-next_line.ensures (c.in-Err-Form.ensures.form (ap (λ (f : TraceFault). Err f) c.in-Err-Form.field-0-is)) c.last_up.ensures

pub returns-then-is_empty : goal.returns-then-is_empty
returns-then-is_empty c =
    comes_done _ _ _ _ c.line.invariant (none_left c.line.rest.now (eqb-true (length c.line.rest.now) 0 (sym c.is_empty.ensures ∙ c.if-is_empty.true)))

pub returns-else-is_empty : goal.returns-else-is_empty
returns-else-is_empty c = comes_open _ _ _ _ c.line.invariant c.in_default-next_line.ensures (some_left c.line.rest.now (sym c.is_empty.ensures ∙ c.if-is_empty.false))
