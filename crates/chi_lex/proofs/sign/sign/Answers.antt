use Rattle.chi_lex.proofs.SignLemmas.{longest-sign_of_two, longest-sign_of_one, no-sign}
use Rattle.chi_lex.proofs.sign.sign.Goals as goal

pub returns-in-Some : goal.returns-in-Some
returns-in-Some c =
    longest-sign_of_two c.args.rest.now _ c.requires.some
    record { no_name = c.requires.no_name; no_digit = c.requires.no_digit; no_quote = c.requires.no_quote }
    record { fits = c.in-Some.ensures.fits; short = c.in-Some.ensures.short }

pub returns-in-Some-sign_of_size : goal.returns-in-Some-sign_of_size
returns-in-Some-sign_of_size c =
    longest-sign_of_one c.args.rest.now _ c.requires.some
    record { no_name = c.requires.no_name; no_digit = c.requires.no_digit; no_quote = c.requires.no_quote }
    record { fits = c.in_default.ensures.fits; short = c.in_default.ensures.short }
    record { fits = c.in-Some-sign_of_size.ensures.fits; short = c.in-Some-sign_of_size.ensures.short }

pub returns-in-None : goal.returns-in-None
returns-in-None c =
    no-sign c.args.rest.now c.requires.some
    record { no_name = c.requires.no_name; no_digit = c.requires.no_digit; no_quote = c.requires.no_quote }
    record { fits = c.in_default.ensures.fits; short = c.in_default.ensures.short }
    record { fits = c.in-None.ensures.fits; short = c.in-None.ensures.short }
