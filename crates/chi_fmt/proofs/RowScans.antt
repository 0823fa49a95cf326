-- The text of a row of spots is read as its tokens.
use Rattle.std.proofs.Common.{◌≡◌, ℕ, ◌+◌, Bool, true, false, not, ◌||◌, ◌&&◌, cond, List, [], ◌∷◌, ◌++◌, length, map, refl, sym, ap, subst, ◌∙◌, arith, append_assoc, append-nil}
use Rattle.chi_token.specs.declared.token.Token.{Token}
use Rattle.chi_token.specs.Characters.{is_digit}
use Rattle.chi_token.specs.Spelling.{canonical_spelling}
use Rattle.chi_lex.specs.Gaps.{space}
use Rattle.chi_lex.proofs.Runs.{StopsAt, and_left, and_right}
use Rattle.chi_fmt.specs.declared.comment.Comment.{Comment}
use Rattle.chi_fmt.specs.declared.spot.Spot.{Spot}
use Rattle.chi_fmt.specs.Spaces.{is_joined}
use Rattle.chi_fmt.specs.Reread.{token_at}
use Rattle.chi_fmt.specs.Rows.{gap, text_after, text_of}
use Rattle.chi_fmt.proofs.Standing.{Breaks, standing}
use Rattle.chi_fmt.proofs.Scans.{Scans, blank, one_token}
use Rattle.chi_fmt.specs.Sound.{is_dot, is_name, role_fits, fits, next_fits, is_row, AreTokens}
use Rattle.chi_fmt.proofs.Joins.{joined, name-stops, space-breaks}

role-of : (s : Spot) (ss : List Spot) → is_row (s ∷ ss) ≡ true → role_fits s.role s.token ≡ true
role-of s ss row = and_left (role_fits s.role s.token) (next_fits s ss && is_row ss) row

next-of : (s : Spot) (ss : List Spot) → is_row (s ∷ ss) ≡ true → next_fits s ss ≡ true
next-of s ss row = and_left (next_fits s ss) (is_row ss) (and_right (role_fits s.role s.token) (next_fits s ss && is_row ss) row)

row-of : (s : Spot) (ss : List Spot) → is_row (s ∷ ss) ≡ true → is_row ss ≡ true
row-of s ss row = and_right (next_fits s ss) (is_row ss) (and_right (role_fits s.role s.token) (next_fits s ss && is_row ss) row)

-- after a point stands no digit

dot_name : (s u : Spot) → fits s u ≡ true → is_dot s.token ≡ true → is_name u.token ≡ true
dot_name s u fit dot = by (is_dot s.token) (is_name u.token) dot (and_right _ (not (is_dot s.token) || is_name u.token) fit)
  where
    by : (d n : Bool) → d ≡ true → (not d || n) ≡ true → n ≡ true
    by true n h e = e
    by false n h e = cc

gap-stops : (b : Bool) (bytes : List ℕ) → StopsAt is_digit bytes → StopsAt is_digit (cond b [] (space ∷ []) ++ bytes)
gap-stops true bytes stops = stops
gap-stops false bytes stops = refl

after-dot : (s : Spot) (more : List Spot) (back : List ℕ) → AreTokens more → next_fits s more ≡ true → is_dot s.token ≡ true → StopsAt is_digit back
    → StopsAt is_digit (text_after s more ++ back)
after-dot s [] back are next dot stops = stops
after-dot s (u ∷ more) back are next dot stops =
    subst (λ xs. StopsAt is_digit xs)
    (sym (append_assoc (gap s u ++ canonical_spelling u.token) (text_after u more) back ∙ append_assoc (gap s u) (canonical_spelling u.token) (text_after u more ++ back)))
    (gap-stops (is_joined s u) (canonical_spelling u.token ++ (text_after u more ++ back))
    (name-stops u.token (text_after u more ++ back) are.0 (dot_name s u next dot)))

-- a row, from its first spot on

row-scans : (s : Spot) (more : List Spot) (back : List ℕ) (index : ℕ) (tokens : List Token) (comments : List Comment)
    → AreTokens (s ∷ more) → is_row (s ∷ more) ≡ true → Breaks back → Scans back (index + length (s ∷ more)) tokens comments
    → Scans ((canonical_spelling s.token ++ text_after s more) ++ back) index (s.token ∷ map token_at more ++ tokens) comments
row-scans s [] back index tokens comments are row breaks later =
    subst (λ xs. Scans (xs ++ back) index (s.token ∷ tokens) comments) (sym (append-nil (canonical_spelling s.token)))
    (one_token s.token back index tokens comments are.0 (standing s.token back are.0 breaks) later)
row-scans s (u ∷ more) back index tokens comments are row breaks later =
    let size : index + length (s ∷ u ∷ more) ≡ index + 1 + length (u ∷ more) = omega arith in
    by (is_joined s u) refl
    (subst (λ xs. Scans xs (index + 1) (u.token ∷ map token_at more ++ tokens) comments) (append_assoc (canonical_spelling u.token) (text_after u more) back)
    (row-scans u more back (index + 1) tokens comments are.1 (row-of s (u ∷ more) row) breaks (subst (λ n. Scans back n tokens comments) size later)))
  where
    rest : List ℕ
    rest = text_after u more ++ back

    tail : List ℕ
    tail = canonical_spelling u.token ++ rest

    read : List Token
    read = u.token ∷ map token_at more ++ tokens

    whole : (b : Bool) → (canonical_spelling s.token ++ (cond b [] (space ∷ []) ++ canonical_spelling u.token ++ text_after u more)) ++ back
        ≡ canonical_spelling s.token ++ (cond b [] (space ∷ []) ++ tail)
    whole b =
        append_assoc (canonical_spelling s.token) (cond b [] (space ∷ []) ++ canonical_spelling u.token ++ text_after u more) back
        ∙ ap (λ xs. canonical_spelling s.token ++ xs)
        (append_assoc (cond b [] (space ∷ []) ++ canonical_spelling u.token) (text_after u more) back
        ∙ append_assoc (cond b [] (space ∷ [])) (canonical_spelling u.token) rest)

    by : (b : Bool) → is_joined s u ≡ b → Scans tail (index + 1) read comments
        → Scans ((canonical_spelling s.token ++ (cond b [] (space ∷ []) ++ canonical_spelling u.token ++ text_after u more)) ++ back) index (s.token ∷ read) comments
    by true at inner =
        subst (λ xs. Scans xs index (s.token ∷ read) comments) (sym (whole true))
        (one_token s.token tail index read comments are.0
        (joined s u rest are.0 are.1.0 (role-of s (u ∷ more) row) (role-of u more (row-of s (u ∷ more) row)) (next-of s (u ∷ more) row)
        (λ dot. after-dot u more back are.1.1 (next-of u more (row-of s (u ∷ more) row)) dot breaks.no_digit) at)
        inner)
    by false at inner =
        subst (λ xs. Scans xs index (s.token ∷ read) comments) (sym (whole false))
        (one_token s.token (space ∷ tail) index read comments are.0
        (standing s.token (space ∷ tail) are.0 (space-breaks tail))
        (blank space tail (index + 1) read comments refl inner))

-- a whole row before bytes that go on with none of its tokens
pub text-scans : (spots : List Spot) (back : List ℕ) (index : ℕ) (tokens : List Token) (comments : List Comment)
    → AreTokens spots → is_row spots ≡ true → Breaks back → Scans back (index + length spots) tokens comments
    → Scans (text_of spots ++ back) index (map token_at spots ++ tokens) comments
text-scans [] back index tokens comments are row breaks later =
    let size : index + 0 ≡ index = omega arith in
    subst (λ n. Scans back n tokens comments) size later
text-scans (s ∷ more) back index tokens comments are row breaks later = row-scans s more back index tokens comments are row breaks later
