use Rattle.std.proofs.Common.{◌≡◌, ◌+◌, List, ◌∷◌, [], map, drop, refl, sym, ap, ◌∙◌, arith}
use Rattle.std.specs.Prelude.{Option}
use Rattle.std.proofs.lemmas.List.{nil_from_length}
use Rattle.chi_tree.specs.declared.type_tree.Formal.{Formal}
use Rattle.chi_types.specs.declared.ty.Ty.{Ty}
use Rattle.chi_check_types.specs.Faults.{first_of}
use Rattle.chi_check_stat_lines.specs.declared.state.Binder.TheVariants as binder
use Rattle.chi_check_stat_lines.specs.States.{binding}
use Rattle.chi_check_stat_lines.specs.Stated.{joined}
use Rattle.chi_check.specs.Bodies.{formals_bound}
use Rattle.chi_check_stat_lines.proofs.Turns.{step_next, step_made, step_noted, end_noted, short_noted}
use Rattle.chi_check.proofs.bodies.bind_formals.Goals as goal

pub loop-formal-preserved : goal.loop-formal-preserved
loop-formal-preserved c =
    let l = c.loop-formal in
    let x = c.formal-item.result in
    let r = c.in_ok-made.ensures in
    let v = c.as_ref.ensures.value in
    record {
      next = step_next (λ (fs : List Formal). formals_bound fs l.others.now) c.args.formals.now _ l.formal-index l.state _ x (binding binder.Variable x.name c.in-Some.ty.now) (formals_bound (drop (l.formal-index + 1) c.args.formals.now) _) l.invariant.next c.loop-formal-test.true c.formal-item.is (ap (λ (ts : List (Option Ty)). formals_bound (x ∷ (drop (l.formal-index + 1) c.args.formals.now)) ts) c.in-Some.ensures.cases.0) (r.next ∙ ap (λ t. (binding binder.Variable x.name t l.state).next) v);
      made = step_made (λ (fs : List Formal). formals_bound fs l.others.now) c.args.formals.now _ l.formal-index l.state _ l.all _ x (binding binder.Variable x.name c.in-Some.ty.now) (formals_bound (drop (l.formal-index + 1) c.args.formals.now) _) l.invariant.made c.loop-formal-test.true c.formal-item.is (ap (λ (ts : List (Option Ty)). formals_bound (x ∷ (drop (l.formal-index + 1) c.args.formals.now)) ts) c.in-Some.ensures.cases.0) (r.next ∙ ap (λ t. (binding binder.Variable x.name t l.state).next) v) (c.in_ok-all-2.ensures ∙ ap (joined l.all) (r.made ∙ ap (λ t. (binding binder.Variable x.name t l.state).made) v));
      noted = step_noted (λ (fs : List Formal). formals_bound fs l.others.now) c.args.formals.now _ l.formal-index l.state _ l.kept _ x (binding binder.Variable x.name c.in-Some.ty.now) (formals_bound (drop (l.formal-index + 1) c.args.formals.now) _) l.invariant.noted c.loop-formal-test.true c.formal-item.is (ap (λ (ts : List (Option Ty)). formals_bound (x ∷ (drop (l.formal-index + 1) c.args.formals.now)) ts) c.in-Some.ensures.cases.0) (r.next ∙ ap (λ t. (binding binder.Variable x.name t l.state).next) v) (r.noted ∙ ap (λ t. first_of l.kept (binding binder.Variable x.name t l.state).faults) v);
    }

pub returns-clause-noted : goal.returns-clause-noted
returns-clause-noted c =
    let l = c.loop-formal in
    sym (l.invariant.noted ∙ end_noted (λ (fs : List Formal). formals_bound fs l.others.now) c.args.formals.now l.formal-index l.state l.kept (omega arith) refl)

pub returns-in_default-clause-noted : goal.returns-in_default-clause-noted
returns-in_default-clause-noted c =
    let l = c.loop-formal in
    let x = c.formal-item.result in
    sym (l.invariant.noted ∙ short_noted (λ (fs : List Formal). formals_bound fs l.others.now) c.args.formals.now l.formal-index l.state l.kept x c.loop-formal-test.true c.formal-item.is (ap (λ (ts : List (Option Ty)). formals_bound (x ∷ (drop (l.formal-index + 1) c.args.formals.now)) ts) (nil_from_length l.others.now c.in_default.ensures.cases)))
