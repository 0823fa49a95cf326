use Rattle.chi_lex.proofs.WordLemmas.{longest-keyword, longest-name}
use Rattle.chi_lex.proofs.word.word.Goals as goal

pub returns-in-Some : goal.returns-in-Some
returns-in-Some c =
    longest-keyword c.args.rest.now _ _ _ c.name_length-size.ensures.passed c.requires.some c.requires.start
    c.split_at.ensures.front c.in-Some.ensures

pub returns-in_ok-copy_of-in-None : goal.returns-in_ok-copy_of-in-None
returns-in_ok-copy_of-in-None c =
    longest-name c.args.rest.now _ _ _ c.name_length-size.ensures.passed c.requires.some c.requires.start
    c.split_at.ensures.front c.in-None.ensures c.in_ok-copy_of-in-None.ensures.copied
