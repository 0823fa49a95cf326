-- The turns of the lexer's loop: what is read so far, before the reading of the rest, is the reading of the whole.
use Rattle.std.proofs.Common.{◌≡◌, ℕ, zero, suc, ◌+◌, ◌<◌, ◌≤◌, Some, None, Result, Ok, Err, List, [], ◌∷◌, ◌++◌, length, length-append, length-take, take, drop, append_assoc, append-nil, refl, sym, ap, ◌∙◌, arith}
use Rattle.std.proofs.Math.Seq.{take-append_seam}
use Rattle.std.proofs.lemmas.List.{take-append-drop, drop_at}
use Rattle.chi_token.specs.declared.place.Place.{Place}
use Rattle.chi_token.specs.declared.place.Spanned.{Spanned}
use Rattle.chi_token.specs.declared.token.Token.{Token}
use Rattle.chi_token.specs.Prefixes.{longest_prefix}
use Rattle.chi_token.specs.Tokens.{token_spelled_by}
use Rattle.chi_lex.specs.declared.cursor.Cursor.{Cursor}
use Rattle.chi_lex.specs.declared.fault.LexFault.{LexFault}
use Rattle.chi_lex.specs.Cursors.{StandsAfter}
use Rattle.chi_lex.specs.Stops.{stop_of, fault_of}
use Rattle.chi_lex.specs.Gaps.{gap_of}
use Rattle.chi_lex.specs.Places.{place_of, line_of, column_of}
use Rattle.chi_lex.proofs.ReadingFunction.{reading, reading_from, from_gap, from_token, token_then}
use Rattle.chi_lex.proofs.Sizes.{IsSizeIn}

-- tokens before a reading
abbrev pub prefixed : List Spanned → Result (List Spanned) LexFault → Result (List Spanned) LexFault
prefixed tokens (Ok more) = Ok (tokens ++ more)
prefixed tokens (Err fault) = Err fault

prefixed-before : (tokens : List Spanned) (token : Spanned) (next : Result (List Spanned) LexFault) → prefixed tokens (token_then token next) ≡ prefixed (tokens ++ token ∷ []) next
prefixed-before tokens token (Ok more) = ap (λ ts. Ok ts) (sym (append_assoc tokens (token ∷ []) more))
prefixed-before tokens token (Err fault) = refl

prefixed-none : (next : Result (List Spanned) LexFault) → prefixed [] next ≡ next
prefixed-none (Ok more) = refl
prefixed-none (Err fault) = refl

-- the place right after some bytes of a source
pub place_of-after : (done rest : List ℕ) → place_of (done ++ rest) (length done) ≡ record { line = line_of done; column = column_of done }
unfolding place_of
place_of-after done rest =
    let here : List ℕ → Place = λ bytes. record { line = line_of bytes; column = column_of bytes } in
    ap here (take-append_seam done rest)

-- the loop's state: the bytes passed, the rest, the cursor between them, and the tokens of the bytes passed
pub record HasLexed (source rest : List ℕ) (cursor : Cursor) (tokens : List Spanned) : Type 0 where
  pub done : List ℕ
  pub whole : done ++ rest ≡ source
  pub stands : StandsAfter done cursor
  pub room : cursor.offset + length rest ≡ length source
  pub left : ℕ
  pub enough : length rest ≤ left
  pub reads : prefixed tokens (reading_from left source cursor.offset) ≡ reading source

pub HasLexed-nothing : (source : List ℕ) (cursor : Cursor) → StandsAfter [] cursor → HasLexed source source cursor []
unfolding reading
HasLexed-nothing source cursor stands =
    let start = stands.offset in
    record {
      done = [];
      whole = refl;
      stands = stands;
      room = omega arith;
      left = length source;
      enough = omega arith;
      reads = prefixed-none (reading_from (length source) source cursor.offset) ∙ ap (λ i. reading_from (length source) source i) start;
    }

-- what the reading does at an offset with a rest
pub reading_from-step : (left : ℕ) (source rest : List ℕ) (offset : ℕ) → drop offset source ≡ rest → 0 < length rest → reading_from (suc left) source offset ≡ from_gap source offset (reading_from left source) rest (gap_of rest)
unfolding reading_from
reading_from-step left source [] offset is some = absurd (omega arith)
reading_from-step left source (c ∷ cs) offset is some = rw is refl

-- how the cursor goes past a part of the rest
pub record Passes (rest passed after : List ℕ) (size : ℕ) (cursor next : Cursor) : Type 0 where
  pub front : passed ≡ take size rest
  pub back : after ≡ drop size rest
  pub offset : next.offset ≡ cursor.offset + length passed
  pub stands : (done : List ℕ) → StandsAfter done cursor → StandsAfter (done ++ passed) next

passed-length : (rest passed after : List ℕ) (size : ℕ) (cursor next : Cursor) → Passes rest passed after size cursor next → IsSizeIn rest size → length passed ≡ size
passed-length rest passed after size cursor next passes fits =
    let low = fits.within in
    omega (arith, ap length passes.front, length-take size rest)

passed-after : (rest passed after : List ℕ) (size : ℕ) (cursor next : Cursor) → Passes rest passed after size cursor next → passed ++ after ≡ rest
passed-after rest passed after size cursor next passes =
    ap (λ xs. xs ++ after) passes.front ∙ ap (λ xs. take size rest ++ xs) passes.back ∙ take-append-drop size rest

-- a turn, by what the reading does in it
turn : (source rest passed after : List ℕ) (size : ℕ) (cursor next : Cursor) (tokens more : List Spanned) (h : HasLexed source rest cursor tokens) → IsSizeIn rest size → Passes rest passed after size cursor next → ((left : ℕ) → prefixed tokens (reading_from (suc left) source cursor.offset) ≡ prefixed more (reading_from left source next.offset)) → HasLexed source after next more
turn source rest passed after size cursor next tokens more h fits passes goes = by h.left h.enough h.reads
  where
    by : (left : ℕ) → length rest ≤ left → prefixed tokens (reading_from left source cursor.offset) ≡ reading source → HasLexed source after next more
    by zero enough reads = absurd (let some = fits.some in let within = fits.within in omega arith)
    by (suc left) enough reads =
        let some = fits.some in
        let old_room = h.room in
        let moved = passes.offset in
        let size_is = passed-length rest passed after size cursor next passes fits in
        let split = passed-after rest passed after size cursor next passes in
        let lengths : length passed + length after ≡ length rest = omega (arith, ap length split, length-append passed after) in
        record {
          done = h.done ++ passed;
          whole = append_assoc h.done passed after ∙ ap (λ xs. h.done ++ xs) split ∙ h.whole;
          stands = passes.stands h.done h.stands;
          room = omega arith;
          left = left;
          enough = omega arith;
          reads = sym (goes left) ∙ reads;
        }

rest-drop : (source rest : List ℕ) (cursor : Cursor) (tokens : List Spanned) → HasLexed source rest cursor tokens → drop cursor.offset source ≡ rest
rest-drop source rest cursor tokens h =
    ap (λ xs. drop cursor.offset xs) (sym h.whole) ∙ drop_at h.done rest cursor.offset (sym h.stands.offset)

some-rest : (rest : List ℕ) (size : ℕ) → IsSizeIn rest size → 0 < length rest
some-rest rest size fits = let some = fits.some in let within = fits.within in omega arith

pub HasLexed-gap : (source rest passed after : List ℕ) (size : ℕ) (cursor next : Cursor) (tokens : List Spanned) → HasLexed source rest cursor tokens → IsSizeIn rest size → gap_of rest ≡ Some size → Passes rest passed after size cursor next → HasLexed source after next tokens
HasLexed-gap source rest passed after size cursor next tokens h fits gap passes =
    let moved : cursor.offset + size ≡ next.offset =
    ap (λ n. cursor.offset + n) (sym (passed-length rest passed after size cursor next passes fits)) ∙ sym passes.offset in
    turn source rest passed after size cursor next tokens tokens h fits passes
    (λ left.
    ap (λ r. prefixed tokens r)
    (reading_from-step left source rest cursor.offset (rest-drop source rest cursor tokens h) (some-rest rest size fits)
    ∙ ap (λ o. from_gap source cursor.offset (reading_from left source) rest o) gap
    ∙ ap (λ i. reading_from left source i) moved))

-- the place that the cursor keeps is that of its offset
pub cursor-place : (source rest : List ℕ) (cursor : Cursor) (tokens : List Spanned) → HasLexed source rest cursor tokens → place_of source cursor.offset ≡ record { line = cursor.line; column = cursor.column }
cursor-place source rest cursor tokens h =
    let here : ℕ → ℕ → Place = λ l c. record { line = l; column = c } in
    ap (λ xs. place_of xs cursor.offset) (sym h.whole)
    ∙ ap (λ i. place_of (h.done ++ rest) i) h.stands.offset
    ∙ place_of-after h.done rest
    ∙ ap (λ l. here l (column_of h.done)) (sym h.stands.line)
    ∙ ap (λ c. here cursor.line c) (sym h.stands.column)

pub HasLexed-token : (source rest passed after : List ℕ) (size : ℕ) (cursor next : Cursor) (tokens : List Spanned) (token : Token) (place : Place) → HasLexed source rest cursor tokens → IsSizeIn rest size → gap_of rest ≡ None → longest_prefix token_spelled_by (length rest) rest ≡ Some (token, size) → Passes rest passed after size cursor next → place.line ≡ cursor.line → place.column ≡ cursor.column → HasLexed source after next (tokens ++ record { token = token; place = place; start = cursor.offset; stop = cursor.offset + size } ∷ [])
HasLexed-token source rest passed after size cursor next tokens token place h fits gap found passes line column =
    let moved : cursor.offset + size ≡ next.offset =
    ap (λ n. cursor.offset + n) (sym (passed-length rest passed after size cursor next passes fits)) ∙ sym passes.offset in
    let here : ℕ → ℕ → Place = λ l c. record { line = l; column = c } in
    let at : place_of source cursor.offset ≡ place =
    cursor-place source rest cursor tokens h
    ∙ ap (λ l. here l cursor.column) (sym line)
    ∙ ap (λ c. here place.line c) (sym column) in
    let make : Place → Spanned = λ p. record { token = token; place = p; start = cursor.offset; stop = cursor.offset + size } in
    turn source rest passed after size cursor next tokens (tokens ++ make place ∷ []) h fits passes
    (λ left.
    ap (λ r. prefixed tokens r)
    (reading_from-step left source rest cursor.offset (rest-drop source rest cursor tokens h) (some-rest rest size fits)
    ∙ ap (λ o. from_gap source cursor.offset (reading_from left source) rest o) gap
    ∙ ap (λ o. from_token source cursor.offset (reading_from left source) o) found
    ∙ ap (λ p. token_then (make p) (reading_from left source (cursor.offset + size))) at
    ∙ ap (λ i. token_then (make place) (reading_from left source i)) moved)
    ∙ prefixed-before tokens (make place) (reading_from left source next.offset))

pub HasLexed-end : (source rest : List ℕ) (cursor : Cursor) (tokens : List Spanned) → HasLexed source rest cursor tokens → length rest ≡ 0 → reading source ≡ Ok tokens
unfolding reading_from
HasLexed-end source (c ∷ cs) cursor tokens h none = absurd (omega arith)
HasLexed-end source [] cursor tokens h none = by h.left h.reads
  where
    by : (left : ℕ) → prefixed tokens (reading_from left source cursor.offset) ≡ reading source → reading source ≡ Ok tokens
    by zero reads = sym reads ∙ ap (λ ts. Ok ts) (append-nil tokens)
    by (suc left) reads =
        sym reads ∙ (rw (rest-drop source [] cursor tokens h) refl) ∙ ap (λ ts. Ok ts) (append-nil tokens)

pub HasLexed-stopped : (source rest : List ℕ) (cursor : Cursor) (tokens : List Spanned) → HasLexed source rest cursor tokens → 0 < length rest → gap_of rest ≡ None → longest_prefix token_spelled_by (length rest) rest ≡ None → reading source ≡ Err (fault_of source cursor.offset (stop_of rest))
HasLexed-stopped source rest cursor tokens h some gap none = by h.left h.enough h.reads
  where
    by : (left : ℕ) → length rest ≤ left → prefixed tokens (reading_from left source cursor.offset) ≡ reading source → reading source ≡ Err (fault_of source cursor.offset (stop_of rest))
    by zero enough reads = absurd (omega arith)
    by (suc left) enough reads =
        sym reads
        ∙ ap (λ r. prefixed tokens r)
        (reading_from-step left source rest cursor.offset (rest-drop source rest cursor tokens h) some
        ∙ ap (λ o. from_gap source cursor.offset (reading_from left source) rest o) gap
        ∙ ap (λ o. from_token source cursor.offset (reading_from left source) o) none)
        ∙ ap (λ xs. Err (fault_of source cursor.offset (stop_of xs))) (rest-drop source rest cursor tokens h)
