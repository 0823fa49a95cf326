use Rattle.std.proofs.Common.{◌++◌, Some, sym, ap, ◌∙◌}
use Rattle.std.proofs.lemmas.Option.{slice_get-get_or, slice_get_past}
use Rattle.chi_explain_syntax.specs.Standing.{standing_words}
use Rattle.chi_explain_syntax.proofs.standing.put_standing.Goals as goal

pub returns-in_ok-put_token-in-Some : goal.returns-in_ok-put_token-in-Some
returns-in_ok-put_token-in-Some c =
    let there = c.in-Some.there.now in
    let is = slice_get-get_or c.args.tokens.now c.args.at there c.in-Some.ensures.lookup.3.0 ∙ ap Some (sym c.in-Some.ensures.lookup.1) in
    c.in_ok-put_token-in-Some.ensures ∙ ap (λ o. c.args.words.now.items ++ standing_words o) (sym is)

pub returns-in_ok-extend_from_slice-in-None : goal.returns-in_ok-extend_from_slice-in-None
returns-in_ok-extend_from_slice-in-None c =
    let is = slice_get_past c.args.tokens.now c.args.at c.in-None.ensures.lookup.3 in
    c.in_ok-extend_from_slice-in-None.ensures.items ∙ ap (λ o. c.args.words.now.items ++ standing_words o) (sym is)
