use Rattle.std.proofs.Common.{◌≡◌, ◌∙◌, ℕ, List, [], Some, None, get_or, ap, sym, rules, tests}
use Rattle.std.specs.List.{slice_split, slice_get}
use Rattle.std.specs.Option.{option_map, unwrap_or}
use Rattle.std.proofs.lemmas.Iterator.Consumers.{nth_from_yields_List}
use Rattle.std.proofs.lemmas.Iterator.Splits.{YieldsList-from_slice_split}
use Rattle.std.proofs.lemmas.Option.{unwrap_or-slice_get, get_or_from_slice_get}
use Rattle.chi_lex.specs.Places.{is_line_feed}
use Rattle.chi_explain.proofs.excerpts.numbered_line.Goals as goal

read_some : (lines : List (List ℕ)) (n k : ℕ) (line : List ℕ) → Some line ≡ slice_get lines n → n ≡ k → line ≡ get_or lines k []
read_some lines n k line there same = sym (get_or_from_slice_get lines n line [] (sym there)) ∙ ap (λ m. get_or lines m []) same

read_none : (lines : List (List ℕ)) (n k : ℕ) → None ≡ slice_get lines n → n ≡ k → [] ≡ get_or lines k []
read_none lines n k there same = ap (λ o. unwrap_or o []) there ∙ unwrap_or-slice_get lines n [] ∙ ap (λ m. get_or lines m []) same

pub returns-in-Some : goal.returns-in-Some
returns-in-Some c =
    let lines : List (List ℕ) = slice_split is_line_feed c.args.source.now in
    let got =
    nth_from_yields_List c.nth.result _ _ c.nth.ensures.ran
    (YieldsList-from_slice_split _ is_line_feed c.args.source.now c.split-lines.ensures.rest c.split-lines.ensures.done c.split-lines.ensures.closure
    (λ x b q k. search (rules, tests))) in
    let there : Some c.in-Some.line.now ≡ slice_get lines c.saturating_sub-before.result =
    sym (ap (λ o. option_map (λ x. x.now) o) c.in-Some.is) ∙ got in
    read_some lines c.saturating_sub-before.result _ c.in-Some.line.now there c.saturating_sub-before.ensures

pub returns-in-None : goal.returns-in-None
returns-in-None c =
    let lines : List (List ℕ) = slice_split is_line_feed c.args.source.now in
    let got =
    nth_from_yields_List c.nth.result _ _ c.nth.ensures.ran
    (YieldsList-from_slice_split _ is_line_feed c.args.source.now c.split-lines.ensures.rest c.split-lines.ensures.done c.split-lines.ensures.closure
    (λ x b q k. search (rules, tests))) in
    let there : None ≡ slice_get lines c.saturating_sub-before.result =
    sym (ap (λ o. option_map (λ x. x.now) o) c.in-None.is) ∙ got in
    read_none lines c.saturating_sub-before.result _ there c.saturating_sub-before.ensures
