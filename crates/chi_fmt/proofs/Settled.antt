-- Lines whose `;` are those of the text, with the comments as they stand there, have the same text again.
use Rattle.std.proofs.Common.{◌≡◌, ℕ, suc, ◌+◌, ◌<◌, ◌≤◌, Bool, true, false, ◌&&◌, cond, ltb, List, [], ◌∷◌, ◌++◌, length, take, drop, map, refl, ap, subst, ◌∙◌, arith, append-nil}
use Rattle.std.specs.List.{flat_map, take_while, prefix_len}
use Rattle.std.proofs.Math.Seq.{take-append_seam}
use Rattle.std.proofs.lemmas.List.{drop_at}
use Rattle.std.proofs.lemmas.Bool.Decides.{nat_tests}
use Rattle.chi_fmt.specs.declared.comment.Comment.{Comment}
use Rattle.chi_fmt.specs.declared.line.Line.{Line}
use Rattle.chi_fmt.specs.Rows.{comment_text, empty_line, line_text}
use Rattle.chi_fmt.specs.Pages.{one_if, source_tokens, kept_tokens, stands_before, line_with, lines_text}
use Rattle.chi_fmt.specs.Reread.{before, moved, text_tokens, settled, HaveTokens}

same_bit : (b : Bool) → one_if (b && b) ≡ one_if b
same_bit true = refl
same_bit false = refl

settled-kept : (line : Line) → kept_tokens (settled line) ≡ text_tokens line
settled-kept line = ap (λ n. length line.spots + n) (same_bit line.semicolon.kept)

-- the texts of comments are all that their lines show
same_text : (margin index : ℕ) (cs : List Comment) → flat_map (comment_text margin) (before index cs) ≡ flat_map (comment_text margin) cs
same_text margin index [] = refl
same_text margin index (c ∷ cs) = ap (λ xs. comment_text margin c ++ xs) (same_text margin index cs)

-- comments before an index pass the test of a later one, and those at it don't
all-pass : (stop index : ℕ) (cs more : List Comment) → index < stop
    → prefix_len (λ (c : Comment). ltb c.before stop) (before index cs ++ more) ≡ length cs + prefix_len (λ (c : Comment). ltb c.before stop) more
all-pass stop index [] more low = omega arith
all-pass stop index (c ∷ cs) more low =
    let tail = prefix_len (λ (d : Comment). ltb d.before stop) more in
    let one : 1 + (length cs + tail) ≡ suc (length cs) + tail = omega arith in
    let yes : ltb index stop ≡ true = search (arith, nat_tests) in
    ap (λ b. cond b (1 + prefix_len (λ (d : Comment). ltb d.before stop) (before index cs ++ more)) 0) yes
    ∙ ap (λ n. 1 + n) (all-pass stop index cs more low)
    ∙ one

-- none of these passes the test of a lower index
at-least : (stop index : ℕ) (cs more : List Comment) → stop ≤ index → prefix_len (λ (c : Comment). ltb c.before stop) more ≡ 0
    → prefix_len (λ (c : Comment). ltb c.before stop) (before index cs ++ more) ≡ 0
at-least stop index [] more low none = none
at-least stop index (c ∷ cs) more low none =
    let no : ltb index stop ≡ false = search (arith, nat_tests) in
    ap (λ b. cond b (1 + prefix_len (λ (d : Comment). ltb d.before stop) (before index cs ++ more)) 0) no

none-pass : (stop index passed : ℕ) (lines : List Line) (cs : List Comment) → stop ≤ index
    → prefix_len (λ (c : Comment). ltb c.before stop) (moved index passed lines cs) ≡ 0
none-pass stop index passed [] cs low =
    subst (λ xs. prefix_len (λ (c : Comment). ltb c.before stop) xs ≡ 0) (append-nil (before index cs)) (at-least stop index cs [] low refl)
none-pass stop index passed (line ∷ lines) cs low =
    at-least stop index (take_while (stands_before passed line) cs)
    (moved (index + text_tokens line) (passed + source_tokens line) lines (drop (prefix_len (stands_before passed line) cs) cs)) low
    (none-pass stop (index + text_tokens line) (passed + source_tokens line) lines (drop (prefix_len (stands_before passed line) cs) cs) (omega arith))

length-before : (index : ℕ) (cs : List Comment) → length (before index cs) ≡ length cs
length-before index [] = refl
length-before index (c ∷ cs) = ap suc (length-before index cs)

-- one line, with the comments that were moved before it
settled-with : (line : Line) (index : ℕ) (here : List Comment) → line_with (settled line) (before index here) ≡ line_with line here
settled-with line index here =
    ap (λ xs. empty_line line.after_empty ++ xs ++ line_text line) (same_text line.margin index here)

pub again : (lines : List Line) (comments : List Comment) (index passed : ℕ) → HaveTokens lines
    → lines_text index (map settled lines) (moved index passed lines comments) ≡ lines_text passed lines comments
again [] comments index passed have = same_text 0 index comments
again (line ∷ lines) comments index passed have =
    let n = prefix_len (stands_before passed line) comments in
    let here = take n comments in
    let later = drop n comments in
    let stop = index + text_tokens line in
    let more = moved stop (passed + source_tokens line) lines later in
    let low : 0 < length line.spots = have.0 in
    let size : length here + 0 ≡ length (before index here) = omega (arith, length-before index here) in
    let count : prefix_len (stands_before index (settled line)) (before index here ++ more) ≡ length (before index here) =
    ap (λ m. prefix_len (λ (c : Comment). ltb c.before (index + m)) (before index here ++ more)) (settled-kept line)
    ∙ all-pass stop index here more (omega arith)
    ∙ ap (λ m. length here + m) (none-pass stop stop (passed + source_tokens line) lines later (omega arith))
    ∙ size in
    ap (λ m. line_with (settled line) (take m (before index here ++ more)) ++ lines_text stop (map settled lines) (drop m (before index here ++ more))) count
    ∙ ap (λ xs. line_with (settled line) xs ++ lines_text stop (map settled lines) (drop (length (before index here)) (before index here ++ more)))
    (take-append_seam (before index here) more)
    ∙ ap (λ xs. line_with (settled line) (before index here) ++ lines_text stop (map settled lines) xs)
    (drop_at (before index here) more (length (before index here)) refl)
    ∙ ap (λ xs. xs ++ lines_text stop (map settled lines) more) (settled-with line index here)
    ∙ ap (λ xs. line_with line here ++ xs) (again lines later stop (passed + source_tokens line) have.1)
