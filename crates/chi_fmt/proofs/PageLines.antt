-- A line of a page with its comments, and the lines after it.
use Rattle.std.proofs.Common.{◌≡◌, ℕ, ◌+◌, ◌<◌, nat_lt, List, ◌∷◌, ◌++◌, length, get_or, take, drop, refl, sym, ap, ◌∙◌, append_assoc, add-one}
use Rattle.std.specs.List.{prefix_len}
use Rattle.std.proofs.Math.Seq.{drop-cons}
use Rattle.chi_fmt.specs.declared.comment.Comment.{Comment}
use Rattle.chi_fmt.specs.declared.line.Line.{Line}
use Rattle.chi_fmt.specs.Pages.{kept_tokens, line_with, lines_text, source_tokens, stands_before}
use Rattle.chi_fmt.proofs.Lengths.{longer}

-- what a turn writes, and what is left after it
pub line_step : (lines : List Line) (i passed stop count next : ℕ) (line : Line) (rest here later : List Comment) (bytes more whole : List ℕ)
    → i < length lines → line ≡ get_or lines i line
    → stop ≡ passed + kept_tokens line → count ≡ prefix_len (λ (comment : Comment). nat_lt comment.before stop) rest
    → here ≡ take count rest → later ≡ drop count rest → next ≡ passed + source_tokens line
    → bytes ++ lines_text passed (drop i lines) rest ≡ whole → more ≡ bytes ++ line_with line here
    → more ++ lines_text next (drop (i + 1) lines) later ≡ whole
line_step lines i passed stop count next line rest here later bytes more whole low is to counted front back on same added =
    let cut : count ≡ prefix_len (stands_before passed line) rest =
    counted ∙ ap (λ n. prefix_len (λ (comment : Comment). nat_lt comment.before n) rest) to in
    let tail : drop i lines ≡ line ∷ drop (i + 1) lines =
    drop-cons lines i line low ∙ (λ j. sym is j ∷ drop (sym (add-one i) j) lines) in
    (λ j. added j ++ lines_text (on j) (drop (i + 1) lines) (back j))
    ∙ append_assoc bytes (line_with line here) (lines_text (passed + source_tokens line) (drop (i + 1) lines) (drop count rest))
    ∙ (λ j. bytes ++ (line_with line (front j) ++ lines_text (passed + source_tokens line) (drop (i + 1) lines) (drop count rest)))
    ∙ (λ j. bytes ++ (line_with line (take (cut j) rest) ++ lines_text (passed + source_tokens line) (drop (i + 1) lines) (drop (cut j) rest)))
    ∙ ap (λ ls. bytes ++ lines_text passed ls rest) (sym tail)
    ∙ same

-- where the turn's text is too long, the whole is
pub line_long : (most : ℕ) (lines : List Line) (i passed stop count : ℕ) (line : Line) (rest here later : List Comment) (bytes whole : List ℕ)
    → i < length lines → line ≡ get_or lines i line
    → stop ≡ passed + kept_tokens line → count ≡ prefix_len (λ (comment : Comment). nat_lt comment.before stop) rest
    → here ≡ take count rest → later ≡ drop count rest
    → bytes ++ lines_text passed (drop i lines) rest ≡ whole
    → most < length (bytes ++ line_with line here) → most < length whole
line_long most lines i passed stop count line rest here later bytes whole low is to counted front back same high =
    longer most (bytes ++ line_with line here) (lines_text (passed + source_tokens line) (drop (i + 1) lines) later) whole
    (line_step lines i passed stop count (passed + source_tokens line) line rest here later bytes (bytes ++ line_with line here) whole low is to counted front back refl same refl) high
