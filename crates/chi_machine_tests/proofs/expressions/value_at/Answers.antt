use Rattle.std.proofs.Common.{◌≡◌, [], length, sym, ap, ◌∙◌}
use Rattle.std.proofs.lemmas.Bool.{eqb-true}
use Rattle.std.proofs.lemmas.List.{nil_from_length}
use Rattle.chi_machine_tests.specs.Programs.{IsValueAt}
use Rattle.chi_machine_tests.proofs.Values.{item_is, some_more, value_is}
use Rattle.chi_machine_tests.proofs.expressions.value_at.Goals as goal

pub returns-in-Some-Return : goal.returns-in-Some-Return
returns-in-Some-Return c =
    let core = c.args.p.now.core in
    let code = c.args.p.now.code in
    let f = c.in-Some.f.now in
    let entry = c.in-Some-get.entry.now in
    let none : f.slots ≡ [] = nil_from_length f.slots (ap length (sym c.as_slice-3.ensures.same) ∙ eqb-true (length c.as_slice-3.result.now) 0 (sym c.if-not-is_empty.ensures)) in
    some_more (IsValueAt core code) entry.entry c.checked_add.result c.checked_add.ensures
    (value_is core code c.requires.has f entry c.in-Some-Return.field-0.now _ _
    (item_is core.funcs c.as_slice.result.now c.as_slice.ensures.same 0 f c.in-Some.ensures.lookup.3.0 c.in-Some.ensures.lookup.1)
    (item_is code.funcs c.as_slice-2.result.now c.as_slice-2.ensures.same 0 entry c.in-Some-get.ensures.lookup.3.0 c.in-Some-get.ensures.lookup.1)
    none (item_is f.body c.as_slice-4.result.now c.as_slice-4.ensures.same 0 c.in-Some-Return.field-0.now c.in-Some-Return.ensures.lookup.3.0 c.in-Some-Return.ensures.lookup.1) c.in-Some-Return.field-0-is)
