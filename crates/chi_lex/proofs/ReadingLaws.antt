-- The reading of a source, as a relation and as a function, is the same; so there is exactly one.
use Rattle.std.proofs.Common.{◌≡◌, ◌≢◌, ◌⊎◌, inl, inr, ℕ, zero, suc, ◌+◌, ◌≤◌, ◌<◌, Bool, true, false, Option, Some, None, Result, Ok, Err, List, [], ◌∷◌, length, length-drop, drop, refl, sym, ap, subst, ◌∙◌, arith}
use Rattle.std.specs.Prelude.{◌==◌}
use Rattle.std.proofs.lemmas.Bool.{eqb-true, eqb-false}
use Rattle.chi_token.specs.declared.place.Spanned.{Spanned}
use Rattle.chi_token.specs.declared.token.Token.{Token}
use Rattle.chi_token.specs.Characters.{line_feed, quote, backslash}
use Rattle.chi_lex.specs.declared.fault.LexFault.{LexFault}
use Rattle.chi_lex.specs.declared.fault.LexFault.TheVariants.{BadByte, OpenString, BadEscape, NoMemory}
use Rattle.chi_lex.specs.Faults.{IsFaultAt, bad_byte, open_string, bad_escape, bad_byte_in_text, characters_length, after_characters}
use Rattle.chi_lex.specs.Gaps.{gap_of}
use Rattle.chi_lex.specs.Places.{place_of}
use Rattle.chi_lex.specs.Reading.{ReadsFrom, at_end, past_gap, past_token, at_fault, Reads, HasFault, IsFaultOf, longest_token, spanned}
use Rattle.chi_lex.specs.declared.piece.Stop.TheVariants.{Byte, Open, Escape}
use Rattle.chi_lex.specs.Stops.{stop_of, fault_of, text_stop}
use Rattle.chi_lex.proofs.ReadingFunction.{reading, reading_from, from_gap, from_token, token_then}
use Rattle.chi_lex.proofs.Sizes.{gap-size, token-size}
use Rattle.chi_lex.proofs.Turns.{reading_from-step}

-- what the function answers to a reading
abbrev pub answer : List Spanned → Option LexFault → Result (List Spanned) LexFault
answer tokens None = Ok tokens
answer tokens (Some fault) = Err fault

answer-token : (t : Spanned) (tokens : List Spanned) (fault : Option LexFault) → token_then t (answer tokens fault) ≡ answer (t ∷ tokens) fault
answer-token t tokens None = refl
answer-token t tokens (Some fault) = refl

-- the fault at an offset, by the code's stop

text-fault : (source text rest : List ℕ) (offset : ℕ) → drop offset source ≡ quote ∷ text → after_characters text ≡ rest
    → IsFaultAt source offset (fault_of source offset (text_stop (1 + characters_length text) rest))
text-fault source text [] offset opens is = open_string text opens (inl is)
text-fault source text (c ∷ more) offset opens is = by_feed (c == line_feed) refl
  where
    by_backslash : (x : Bool) → (c == line_feed) ≡ false → (c == backslash) ≡ x → IsFaultAt source offset (fault_of source offset (text_stop (1 + characters_length text) (c ∷ more)))
    by_backslash true no_feed h = let same : c ≡ backslash = eqb-true c backslash h in
        let stops : text_stop (1 + characters_length text) (c ∷ more) ≡ Escape (1 + characters_length text) = rw no_feed rw h refl in
        subst (λ s. IsFaultAt source offset (fault_of source offset s)) (sym stops)
        (bad_escape text more opens (is ∙ ap (λ d. d ∷ more) same))
    by_backslash false no_feed h =
        let stops : text_stop (1 + characters_length text) (c ∷ more) ≡ Byte (1 + characters_length text) = rw no_feed rw h refl in
        subst (λ s. IsFaultAt source offset (fault_of source offset s)) (sym stops)
        (bad_byte_in_text text c more opens is (eqb-false c line_feed no_feed) (eqb-false c backslash h))

    by_feed : (x : Bool) → (c == line_feed) ≡ x → IsFaultAt source offset (fault_of source offset (text_stop (1 + characters_length text) (c ∷ more)))
    by_feed true h = let same : c ≡ line_feed = eqb-true c line_feed h in
        let stops : text_stop (1 + characters_length text) (c ∷ more) ≡ Open = rw h refl in
        subst (λ s. IsFaultAt source offset (fault_of source offset s)) (sym stops)
        (open_string text opens (inr (more, is ∙ ap (λ d. d ∷ more) same)))
    by_feed false h = by_backslash (c == backslash) h refl

fault-of-rest : (source : List ℕ) (offset c : ℕ) (more : List ℕ) → drop offset source ≡ c ∷ more → IsFaultAt source offset (fault_of source offset (stop_of (c ∷ more)))
unfolding stop_of
fault-of-rest source offset c more is = by_quote (c == quote) refl
  where
    by_quote : (x : Bool) → (c == quote) ≡ x → IsFaultAt source offset (fault_of source offset (stop_of (c ∷ more)))
    by_quote true h = let same : c ≡ quote = eqb-true c quote h in
        let stops : stop_of (c ∷ more) ≡ text_stop (1 + characters_length more) (after_characters more) = rw h refl in
        subst (λ s. IsFaultAt source offset (fault_of source offset s)) (sym stops)
        (text-fault source more (after_characters more) offset (is ∙ ap (λ d. d ∷ more) same) refl)
    by_quote false h =
        let stops : stop_of (c ∷ more) ≡ Byte 0 = rw h refl in
        subst (λ s. IsFaultAt source offset (fault_of source offset s)) (sym stops)
        (subst (λ n. IsFaultAt source offset (BadByte (place_of source n))) (omega arith) (bad_byte c more is (eqb-false c quote h)))

none-left : (rest : List ℕ) → length rest ≤ 0 → rest ≡ []
none-left [] few = refl
none-left (c ∷ more) few = absurd (omega arith)

-- from an offset on there is a reading
total : (left : ℕ) (source : List ℕ) (offset : ℕ) → length (drop offset source) ≤ left → (tokens : List Spanned) × ((fault : Option LexFault) × ReadsFrom source offset tokens fault)
total zero source offset enough = ([], (None, at_end offset (none-left (drop offset source) (omega arith))))
total (suc left) source offset enough = by_rest (drop offset source) refl (λ later less. total left source later less)
  where
    Later : Type 0
    Later = (later : ℕ) → length (drop later source) ≤ left → (tokens : List Spanned) × ((fault : Option LexFault) × ReadsFrom source later tokens fault)

    Here : Type 0
    Here = (tokens : List Spanned) × ((fault : Option LexFault) × ReadsFrom source offset tokens fault)

    by_token : (c : ℕ) (more : List ℕ) → drop offset source ≡ c ∷ more → gap_of (drop offset source) ≡ None
        → (o : Option (Token × ℕ)) → longest_token (drop offset source) ≡ o → Later → Here
    by_token c more is no_gap None none later =
        ([], (Some (fault_of source offset (stop_of (c ∷ more))), at_fault offset _ no_gap none (fault-of-rest source offset c more is)))
    by_token c more is no_gap (Some (token, size)) found later =
        let fits = token-size (drop offset source) token size found in
        let some = fits.some in
        let within = fits.within in
        let rest = later (offset + size) (omega (arith, length-drop offset source, length-drop (offset + size) source)) in
        (spanned source token offset (offset + size) ∷ rest.0, (rest.1.0, past_token offset token size rest.0 rest.1.0 no_gap found rest.1.1))

    by_gap : (c : ℕ) (more : List ℕ) → drop offset source ≡ c ∷ more → (o : Option ℕ) → gap_of (drop offset source) ≡ o → Later → Here
    by_gap c more is None no_gap later = by_token c more is no_gap (longest_token (drop offset source)) refl later
    by_gap c more is (Some size) gap later =
        let fits = gap-size (drop offset source) size gap in
        let some = fits.some in
        let within = fits.within in
        let rest = later (offset + size) (omega (arith, length-drop offset source, length-drop (offset + size) source)) in
        (rest.0, (rest.1.0, past_gap offset size rest.0 rest.1.0 gap rest.1.1))

    by_rest : (rest : List ℕ) → drop offset source ≡ rest → Later → Here
    by_rest [] is later = ([], (None, at_end offset is))
    by_rest (c ∷ more) is later = by_gap c more is (gap_of (drop offset source)) refl later

unequal : (a b : ℕ) → a ≢ b → (a == b) ≡ false
unequal a b other = by (a == b) refl
  where
    by : (x : Bool) → (a == b) ≡ x → (a == b) ≡ false
    by true h = absurd (other (eqb-true a b h))
    by false h = h

-- the fault at an offset is that of the code's stop
fault-is : (source : List ℕ) (offset : ℕ) (fault : LexFault) → IsFaultAt source offset fault → fault ≡ fault_of source offset (stop_of (drop offset source))
unfolding stop_of
fault-is source offset _ (bad_byte c more is other) =
    let here : BadByte (place_of source offset) ≡ BadByte (place_of source (offset + 0)) = ap (λ n. BadByte (place_of source n)) (omega arith) in
    let unquoted = unequal c quote other in
    rw is rw unquoted here
fault-is source offset _ (open_string text is (inl ends)) = rw is rw ends refl
fault-is source offset _ (open_string text is (inr ends)) = rw is rw ends.1 refl
fault-is source offset _ (bad_escape text more is ends) = rw is rw ends refl
fault-is source offset _ (bad_byte_in_text text c more is ends no_feed no_backslash) =
    let feed = unequal c line_feed no_feed in
    let slash = unequal c backslash no_backslash in
    rw is rw ends rw feed rw slash refl

-- where a fault is, something is left
fault-left : (source : List ℕ) (offset : ℕ) (fault : LexFault) → IsFaultAt source offset fault → 0 < length (drop offset source)
fault-left source offset _ (bad_byte c more is other) = omega (arith, ap length is)
fault-left source offset _ (open_string text is ends) = omega (arith, ap length is)
fault-left source offset _ (bad_escape text more is ends) = omega (arith, ap length is)
fault-left source offset _ (bad_byte_in_text text c more is ends no_feed no_backslash) = omega (arith, ap length is)

-- a reading is what the function answers
reads-answer : (source : List ℕ) (offset : ℕ) (tokens : List Spanned) (fault : Option LexFault) → ReadsFrom source offset tokens fault
    → (left : ℕ) → length (drop offset source) ≤ left → reading_from left source offset ≡ answer tokens fault
unfolding reading_from
reads-answer source offset _ _ (at_end _ is) zero enough = refl
reads-answer source offset _ _ (at_end _ is) (suc left) enough = rw is refl
reads-answer source offset tokens fault (past_gap _ size _ _ gap reads) zero enough =
    let fits = gap-size (drop offset source) size gap in
    let some = fits.some in
    let within = fits.within in
    absurd (omega arith)
reads-answer source offset tokens fault (past_gap _ size _ _ gap reads) (suc left) enough =
    let fits = gap-size (drop offset source) size gap in
    let some = fits.some in
    let within = fits.within in
    reading_from-step left source (drop offset source) offset refl (omega arith)
    ∙ ap (λ o. from_gap source offset (reading_from left source) (drop offset source) o) gap
    ∙ reads-answer source (offset + size) tokens fault reads left (omega (arith, length-drop offset source, length-drop (offset + size) source))
reads-answer source offset _ fault (past_token _ token size tokens _ no_gap found reads) zero enough =
    let fits = token-size (drop offset source) token size found in
    let some = fits.some in
    let within = fits.within in
    absurd (omega arith)
reads-answer source offset _ fault (past_token _ token size tokens _ no_gap found reads) (suc left) enough =
    let fits = token-size (drop offset source) token size found in
    let some = fits.some in
    let within = fits.within in
    reading_from-step left source (drop offset source) offset refl (omega arith)
    ∙ ap (λ o. from_gap source offset (reading_from left source) (drop offset source) o) no_gap
    ∙ ap (λ o. from_token source offset (reading_from left source) o) found
    ∙ ap (λ r. token_then (spanned source token offset (offset + size)) r)
    (reads-answer source (offset + size) tokens fault reads left (omega (arith, length-drop offset source, length-drop (offset + size) source)))
    ∙ answer-token (spanned source token offset (offset + size)) tokens fault
reads-answer source offset _ _ (at_fault _ fault no_gap none is) zero enough = absurd (omega (arith, fault-left source offset fault is))
reads-answer source offset _ _ (at_fault _ fault no_gap none is) (suc left) enough =
    reading_from-step left source (drop offset source) offset refl (fault-left source offset fault is)
    ∙ ap (λ o. from_gap source offset (reading_from left source) (drop offset source) o) no_gap
    ∙ ap (λ o. from_token source offset (reading_from left source) o) none
    ∙ ap (λ f. Err f) (sym (fault-is source offset fault is))

reading-is : (source : List ℕ) (tokens : List Spanned) (fault : Option LexFault) → ReadsFrom source 0 tokens fault → reading source ≡ answer tokens fault
unfolding reading
reading-is source tokens fault reads = reads-answer source 0 tokens fault reads (length source) (omega arith)

pub Reads-reading : (source : List ℕ) (tokens : List Spanned) → Reads source tokens → reading source ≡ Ok tokens
Reads-reading source tokens reads = reading-is source tokens None reads

HasFault-reading : (source : List ℕ) (fault : LexFault) → HasFault source fault → reading source ≡ Err fault
HasFault-reading source fault has = reading-is source has.0 (Some fault) has.1

same_list : (ts us : List Spanned) → ◌≡◌ {A = Result (List Spanned) LexFault} (Ok ts) (Ok us) → ts ≡ us
same_list ts us h = cc

same_fault : (f g : LexFault) → ◌≡◌ {A = Result (List Spanned) LexFault} (Err f) (Err g) → f ≡ g
same_fault f g h = cc

no_list : (ts : List Spanned) (f : LexFault) → ◌≡◌ {A = Result (List Spanned) LexFault} (Ok ts) (Err f) → ⊥
no_list ts f h = cc

pub reading-Reads : (source : List ℕ) (tokens : List Spanned) → reading source ≡ Ok tokens → Reads source tokens
reading-Reads source tokens is = by (total (length source) source 0 (omega arith))
  where
    by : (tokens : List Spanned) × ((fault : Option LexFault) × ReadsFrom source 0 tokens fault) → Reads source tokens
    by (others, (None, reads)) = subst (λ ts. Reads source ts) (same_list others tokens (sym (Reads-reading source others reads) ∙ is)) reads
    by (others, (Some fault, reads)) = absurd (no_list tokens fault (sym is ∙ HasFault-reading source fault (others, reads)))

reading-HasFault : (source : List ℕ) (fault : LexFault) → reading source ≡ Err fault → HasFault source fault
reading-HasFault source fault is = by (total (length source) source 0 (omega arith))
  where
    by : (tokens : List Spanned) × ((fault : Option LexFault) × ReadsFrom source 0 tokens fault) → HasFault source fault
    by (others, (None, reads)) = absurd (no_list others fault (sym (Reads-reading source others reads) ∙ is))
    by (others, (Some other, reads)) = subst (λ f. HasFault source f) (same_fault other fault (sym (HasFault-reading source other (others, reads)) ∙ is)) (others, reads)

pub reading-IsFaultOf : (source : List ℕ) (fault : LexFault) → reading source ≡ Err fault → IsFaultOf source fault
reading-IsFaultOf source (BadByte place) reads = reading-HasFault source (BadByte place) reads
reading-IsFaultOf source (OpenString place) reads = reading-HasFault source (OpenString place) reads
reading-IsFaultOf source (BadEscape place) reads = reading-HasFault source (BadEscape place) reads
reading-IsFaultOf source NoMemory reads = tt

pub some_reading : (source : List ℕ) → ((tokens : List Spanned) × Reads source tokens) ⊎ ((fault : LexFault) × HasFault source fault)
some_reading source = by (total (length source) source 0 (omega arith))
  where
    by : (tokens : List Spanned) × ((fault : Option LexFault) × ReadsFrom source 0 tokens fault) → ((tokens : List Spanned) × Reads source tokens) ⊎ ((fault : LexFault) × HasFault source fault)
    by (tokens, (None, reads)) = inl (tokens, reads)
    by (tokens, (Some fault, reads)) = inr (fault, (tokens, reads))

pub one_list : (source : List ℕ) (tokens others : List Spanned) → Reads source tokens → Reads source others → tokens ≡ others
one_list source tokens others reads also = same_list tokens others (sym (Reads-reading source tokens reads) ∙ Reads-reading source others also)

pub one_fault : (source : List ℕ) (fault other : LexFault) → HasFault source fault → HasFault source other → fault ≡ other
one_fault source fault other has also = same_fault fault other (sym (HasFault-reading source fault has) ∙ HasFault-reading source other also)

pub never_both : (source : List ℕ) (tokens : List Spanned) (fault : LexFault) → Reads source tokens → HasFault source fault → ⊥
never_both source tokens fault reads has = no_list tokens fault (sym (Reads-reading source tokens reads) ∙ HasFault-reading source fault has)
