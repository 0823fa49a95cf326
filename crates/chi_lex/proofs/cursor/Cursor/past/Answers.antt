use Rattle.std.proofs.Common.{◌++◌, [], ◌∷◌, ◌∙◌, take, get_or, subst, sym, ap, append_assoc, arith}
use Rattle.std.proofs.lemmas.List.{take_more, take_all}
use Rattle.chi_lex.specs.Cursors.{StandsAfter}
use Rattle.chi_lex.proofs.cursor.Cursor.past.Goals as goal

pub loop-byte-preserved : goal.loop-byte-preserved
loop-byte-preserved c = record {
  offset = omega arith;
  stands = λ before h.
      let bytes = c.args.bytes.now in
      let i = c.loop-byte.byte-index in
      let more = append_assoc before (take i bytes) (get_or bytes i 0 ∷ []) ∙ ap (λ xs. before ++ xs) (sym (take_more bytes i 0 c.loop-byte-test.true)) in
      subst (λ xs. StandsAfter xs c.past_byte-cursor.result) more
      (c.past_byte-cursor.ensures.stands (before ++ take i bytes) (c.loop-byte.invariant.stands before h));
}

pub returns-clause-stands : goal.returns-clause-stands
returns-clause-stands c =
    λ before h.
    subst (λ xs. StandsAfter (before ++ xs) c.loop-byte.cursor) (take_all c.loop-byte.byte-index c.args.bytes.now c.loop-byte-test.false)
    (c.loop-byte.invariant.stands before h)
