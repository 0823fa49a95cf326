use Rattle.std.proofs.Common.{◌≡◌, ap, sym, ◌∙◌, arith}
use Rattle.std.proofs.lemmas.Grind.{common_steps}
use Rattle.chi_check_types.specs.Faults.{first_of}
use Rattle.chi_check_headers.specs.Headers.{formal_type}
use Rattle.chi_check_headers.proofs.Typed.{one_given, one_noted, noted_end}
use Rattle.chi_check_headers.proofs.headers.formal_types.Goals as goal

pub loop-formal-preserved : goal.loop-formal-preserved
loop-formal-preserved c =
    let l = c.loop-formal in
    let x = c.formal-item.result in
    let r = c.in_ok-ty.ensures in
    let v = c.as_ref.ensures.value in
    let g = r.given ∙ ap (λ last. (formal_type c.args.site c.args.scope.now last x.ty).given) v in
    let n = c.in_ok-last.ensures ∙ c.as_ref-in-loop-formal.ensures.value in
    record {
      given = one_given c.args.site c.args.scope.now c.args.formals.now _ l.types.items _ l.formal-index x l.last _ _ l.invariant.given c.loop-formal-test.true c.formal-item.is g n c.in_ok-push.ensures.items;
      noted = one_noted c.args.site c.args.scope.now c.args.formals.now _ l.kept _ l.formal-index x l.last _ _ l.invariant.noted c.loop-formal-test.true c.formal-item.is g n (r.noted ∙ ap (λ last. first_of l.kept (formal_type c.args.site c.args.scope.now last x.ty).faults) v);
    }

pub returns-clause-noted : goal.returns-clause-noted
returns-clause-noted c =
    let l = c.loop-formal in
    let e = sym (l.invariant.noted ∙ noted_end c.args.site c.args.scope.now c.args.formals.now l.formal-index l.last l.kept (omega arith)) in
    grind (arith, common_steps)
