use Rattle.std.proofs.Common.{◌∙◌, ◌++◌, ap}
use Rattle.std.specs.Prelude.{codes}
use Rattle.std.specs.Fmt.{decimal}
use Rattle.chi_code_listing.specs.Listing.{shapes_text}
use Rattle.chi_code_listing.proofs.Written.{choice_text, tuple_text}
use Rattle.chi_code_listing.proofs.parts.+shape.Goals as goal

pub put_shape-returns-in_ok-numbered-in-Choice : goal.put_shape-returns-in_ok-numbered-in-Choice
put_shape-returns-in_ok-numbered-in-Choice t c = record { ok = choice_text c.args.out.now.items _ c.args.shape.now c.in-Choice.number c.in-Choice.is (c.in_ok-numbered-in-Choice.ensures.ok ∙ ap (λ n. c.args.out.now.items ++ codes "enum " ++ decimal n) c.from.ensures) }

pub put_shape-returns-in_ok-put_word-in-TupleOf-2 : goal.put_shape-returns-in_ok-put_word-in-TupleOf-2
put_shape-returns-in_ok-put_word-in-TupleOf-2 t c = record {
  ok = tuple_text c.args.out.now.items _ _ _ c.args.shape.now c.in-TupleOf.parts c.in-TupleOf.is c.in_ok-put_word-in-TupleOf.ensures.ok
      (c.in_ok-put_shapes-in-TupleOf.ensures.ok ∙ ap (λ ss. c.put_word-in-TupleOf.new.out.items ++ shapes_text ss) c.as_slice.ensures.same) c.in_ok-put_word-in-TupleOf-2.ensures.ok;
}
