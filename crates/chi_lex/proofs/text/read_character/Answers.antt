use Rattle.std.proofs.Common.{Some, sym, ap, ◌∙◌}
use Rattle.chi_lex.proofs.CharacterLemmas.{plain-character, bad-character, line_feed-character}
use Rattle.chi_lex.proofs.text.read_character.Goals as goal

pub returns-in-Some : goal.returns-in-Some
returns-in-Some c =
    plain-character c.args.rest.now c.in-Some.byte.now c.in-Some.ensures.value (sym c.is_plain.ensures ∙ c.if-is_plain.true)

pub returns-in-Some-2 : goal.returns-in-Some-2
returns-in-Some-2 c =
    bad-character c.args.rest.now c.in-Some.byte.now c.in-Some.ensures.value (sym c.is_plain.ensures ∙ c.if-is_plain.false)
    (c.in-Some.byte-test.0.0.1) (c.in-Some.byte-test.0.1) (c.in-Some.byte-test.1)

pub returns-in-Some-eq10 : goal.returns-in-Some-eq10
returns-in-Some-eq10 c =
    line_feed-character c.args.rest.now
    (ap (λ b. Some b) (sym c.in-Some-eq10.field-0-test) ∙ c.in-Some-eq10.ensures.value)
