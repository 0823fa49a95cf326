use Rattle.std.proofs.Common.{arith}
use Rattle.std.proofs.lemmas.Bool.Decides.{nat_tests}
use Rattle.chi_lex.proofs.CharacterLemmas.{escape-character, bad_escape-character, lone_escape-character}
use Rattle.chi_lex.proofs.text.read_escape.Goals as goal

pub returns-in-Some-escaped : goal.returns-in-Some-escaped
returns-in-Some-escaped c =
    escape-character c.args.rest.now c.in-Some.letter.now c.in-Some-escaped.byte c.requires.backslash
    (grind (arith, nat_tests, c.in-Some.ensures.lookup)) c.in-Some.ensures.lookup.1 c.in-Some-escaped.ensures

pub returns-in-None-escaped : goal.returns-in-None-escaped
returns-in-None-escaped c =
    bad_escape-character c.args.rest.now c.in-Some.letter.now c.requires.backslash
    (grind (arith, nat_tests, c.in-Some.ensures.lookup)) c.in-Some.ensures.lookup.1 c.in-None-escaped.ensures

pub returns-in-None : goal.returns-in-None
returns-in-None c =
    lone_escape-character c.args.rest.now c.requires.some c.requires.backslash
    (grind (arith, nat_tests, c.in-None.ensures.lookup))
