use Rattle.std.proofs.Common.{◌≡◌, true, false, sym, ◌∙◌, [], ◌∷◌, ◌++◌, drop, ◌+◌, arith}
use Rattle.std.specs.Prelude.{is_some}
use Rattle.chi_check_types.specs.declared.rules.TheConstants.{FIELD_NAMES}
use Rattle.chi_check_types.specs.Faults.{fault, first_of, are_none}
use Rattle.chi_check_types.specs.Names.{looked_up}
use Rattle.chi_check_types.specs.TypeRules.{names_rule}
use Rattle.chi_check_types.proofs.Firsts.{first_of_append, first_of_none}
use Rattle.chi_check_types.proofs.FieldNames.{names_in, names_of, named_again, named_anew, names_end, held_again}
use Rattle.chi_check_types.proofs.tuple_rules.note_names.Goals.{then-has, else-has+in_ok-add}
use Rattle.chi_check_types.proofs.tuple_rules.note_names.Goals as goal

pub loop-field-preserved : goal.loop-field-preserved
loop-field-preserved c =
    let f = c.field-item.result in
    let i = c.loop-field.field-index in
    let fs = c.args.fields.now in
    let es = c.loop-field.before in
    let rest = names_rule (names_in es) (names_of (drop (i + 1) fs)) in
    elim c.if-has.branch [
      | then-has w ↦
          let known : is_some (looked_up es f.name.text) ≡ true = cc (w.if-has.true, c.has.ensures, c.as_slice-name.ensures.same) in
          let e = named_again es fs i f c.loop-field-test.true c.field-item.is known in
          let a = first_of_append c.loop-field.kept (fault FIELD_NAMES f.name.place ∷ []) rest in
          let h = held_again c.loop-field.holds _ rest _ e in
          record {
            noted = cc (c.loop-field.invariant.noted, e, a, w.note.ensures, w.kept-is, w.before-is);
            holding = cc (c.loop-field.invariant.holding, h, w.holds-is, w.before-is);
          }
      | else-has+in_ok-add w ↦
          let unknown : is_some (looked_up es f.name.text) ≡ false = cc (w.if-has.false, c.has.ensures, c.as_slice-name.ensures.same) in
          let grown : c.if-has.before ≡ es ++ (f.name.text, tt) ∷ [] = cc (w.in_ok-add.ensures.ok, w.before-is, c.as_slice-name.ensures.same) in
          let e = named_anew es c.if-has.before fs i f c.loop-field-test.true c.field-item.is unknown grown in
          record {
            noted = cc (c.loop-field.invariant.noted, e, w.kept-is);
            holding = cc (c.loop-field.invariant.holding, e, w.holds-is);
          }
    ]

pub returns-clause-noted : goal.returns-clause-noted
returns-clause-noted c =
    let e = names_end (names_in c.loop-field.before) c.args.fields.now c.loop-field.field-index (omega arith) in
    sym (c.loop-field.invariant.noted ∙ first_of_none c.loop-field.kept _ e)
