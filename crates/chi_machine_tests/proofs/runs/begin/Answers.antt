use Rattle.std.proofs.Common.{◌≡◌, ◌∙◌, [], List, length, ap, sym, subst, arith}
use Rattle.std.proofs.lemmas.Bool.{eqb-true}
use Rattle.std.proofs.lemmas.List.{nil_from_length}
use Rattle.chi_value.specs.declared.value.Value.{Value}
use Rattle.chi_machine.specs.Calls.{MayBegin}
use Rattle.chi_machine_tests.proofs.Begun.{is_begun, may_begin}
use Rattle.chi_machine_tests.proofs.Values.{item_is}
use Rattle.chi_machine_tests.proofs.runs.begin.Goals as goal

pub begin-requires : goal.begin-requires
begin-requires c =
    let core = c.args.p.now.core in
    let code = c.args.p.now.code in
    let model = c.in-Some.model.now in
    let none : model.params ≡ [] =
    nil_from_length model.params (ap length (sym c.as_slice-2.ensures.same) ∙ eqb-true (length c.as_slice-2.result.now) 0 (sym c.if-not-is_empty.ensures)) in
    let there = item_is core.procs c.as_slice.result.now c.as_slice.ensures.same core.model model c.in-Some.ensures.lookup.3.0 c.in-Some.ensures.lookup.1 in
    let l = c.ranges.bound.fits in
    subst (λ (arguments : List Value). MayBegin code arguments c.args.bound) (sym c.new-arguments.ensures.items) (may_begin core code c.requires.has model there none c.args.bound (omega (arith, l)))

pub returns : goal.returns
returns c = is_begun c.args.p.now.code _ _ _ _ c.in_ok-begin.field-0 c.in_ok-begin.ensures
