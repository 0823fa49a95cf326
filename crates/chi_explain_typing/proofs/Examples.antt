-- What is said of broken rules in small sources, computed.
use Rattle.std.proofs.Common.{◌≡◌, ◌++◌, ℕ, [], refl}
use Rattle.std.specs.Prelude.{codes}
use Rattle.std.specs.Fmt.{decimal}
use Rattle.chi_token.specs.declared.place.Place.{Place}
use Rattle.chi_check_types.specs.Predefined.{predefined_of}
use Rattle.chi_explain_typing.specs.Names.{name_at, words_with}
use Rattle.chi_explain_typing.specs.Rules.{broken_words, named_words, words_at, words_of_rule}

-- a place on the first line
abbrev at : ℕ → Place
at column = record { line = 1; column = column }

-- a name ends at a byte that none goes on with, or with its line; a place within it has the rest; elsewhere there is none

a_name : name_at (codes "x_1 = y2+3") (at 1) ≡ codes "x_1"
a_name = refl

a_name_within : name_at (codes "x_1 = y2+3") (at 2) ≡ codes "_1"
a_name_within = refl

a_name_before_a_sign : name_at (codes "x_1 = y2+3") (at 7) ≡ codes "y2"
a_name_before_a_sign = refl

a_name_that_ends_its_line : name_at (codes "x_1\nend") (at 1) ≡ codes "x_1"
a_name_that_ends_its_line = refl

no_name : name_at (codes "x_1 = y2+3") (at 5) ≡ []
no_name = refl

no_line : name_at (codes "x") (record { line = 2; column = 1 }) ≡ []
no_line = refl

in_words : words_with (codes "x_1") (codes "the name `@` is") ≡ codes "the name `x_1` is"
in_words = refl

-- new names, of which one is predefined

predefined : broken_words (codes "int size") 1 (at 5) ≡ codes "the name `size` can't be given here: it is predefined: rule " ++ decimal 1
unfolding broken_words named_words predefined_of words_at words_of_rule
predefined = refl

visible : broken_words (codes "int x, x") 1 (at 8) ≡ codes "the name `x` can't be given here: it is visible already, or stands twice: rule " ++ decimal 1
unfolding broken_words named_words predefined_of words_at words_of_rule
visible = refl

-- other rules of names

no_field : broken_words (codes "t.c = 1") 38 (at 3) ≡ codes "what stands before the point has no field `c`: rule " ++ decimal 38
unfolding broken_words named_words words_at words_of_rule
no_field = refl

-- a rule whose words have no name, though one stands there; and a place where none does

a_condition : broken_words (codes "if n: pass end") 17 (at 4) ≡ codes "a condition or a guard is a bool, and this is none: rule " ++ decimal 17
unfolding broken_words named_words words_at words_of_rule
a_condition = refl

without_a_name : broken_words (codes "1.c") 38 (at 2) ≡ codes "what stands before the point has no such field: rule " ++ decimal 38
unfolding broken_words named_words words_at words_of_rule
without_a_name = refl

no_rule : broken_words (codes "x") 43 (at 1) ≡ codes "rule " ++ decimal 43
unfolding broken_words named_words words_at words_of_rule
no_rule = refl
