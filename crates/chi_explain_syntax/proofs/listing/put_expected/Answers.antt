use Rattle.chi_explain_syntax.proofs.Telling.{tell_expected}
use Rattle.chi_explain_syntax.proofs.listing.put_expected.Goals as goal

pub returns : goal.returns
returns c = tell_expected c.args.words.now.items _ _ _ c.args.classes.now c.args.line _ c.in_ok-extend_from_slice.ensures.items c.in_ok-put_semicolon.ensures c.line_to_end.ensures c.in_ok-put_listed.ensures
