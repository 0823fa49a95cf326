-- A text in quotes with its escapes means what it is made of.
use Rattle.std.proofs.Common.{◌≡◌, ℕ, Bool, true, false, cond, eqb, Option, Some, None, List, [], ◌∷◌, ◌++◌, refl, ap, subst, ◌∙◌}
use Rattle.std.specs.Option.{option_map}
use Rattle.std.specs.List.{flat_map}
use Rattle.std.proofs.lemmas.Bool.{eqb-true}
use Rattle.chi_token.specs.declared.token.Token.TheVariants as token
use Rattle.chi_token.specs.Characters.{is_plain, quote, backslash}
use Rattle.chi_token.specs.Texts.{meaning, escape_meaning, escaped, byte_then, quoted, quoted_by, quoted_byte}
use Rattle.chi_token.specs.Tokens.{token_spelled_by}
use Rattle.chi_lex.proofs.TextLemmas.{meaning-plain, meaning-empty, meaning-append, text_of-snoc}

-- the byte's spelling within quotes means that byte
abbrev Meant : ℕ → Type 0
Meant c = meaning (quoted_byte c) ≡ Some (c ∷ [])

AllMeant : List ℕ → Type 0
AllMeant [] = Unit {0}
AllMeant (c ∷ cs) = Meant c × AllMeant cs

Meant-escape : (letter byte c : ℕ) → meaning (backslash ∷ letter ∷ []) ≡ Some (byte ∷ []) → eqb byte c ≡ true → meaning (backslash ∷ letter ∷ []) ≡ Some (c ∷ [])
Meant-escape letter byte c means same = means ∙ ap (λ b. Some (b ∷ [])) (eqb-true byte c same)

Meant-plain : (c : ℕ) → is_plain c ≡ true → Meant c
unfolding meaning escape_meaning
Meant-plain c plain = by (eqb 10 c) refl (eqb 9 c) refl (eqb 34 c) refl (eqb 92 c) refl
  where
    Row : Type 0
    Row = ℕ × ℕ

    by : (n : Bool) → eqb 10 c ≡ n → (t : Bool) → eqb 9 c ≡ t → (q : Bool) → eqb 34 c ≡ q → (b : Bool) → eqb 92 c ≡ b → meaning (quoted_by (option_map {T = Row} (λ row. row.0) (cond n (Some (110, 10)) (cond t (Some (116, 9)) (cond q (Some (34, 34)) (cond b (Some (92, 92)) None))))) c) ≡ Some (c ∷ [])
    by true is t t' q q' b b' = Meant-escape 110 10 c refl is
    by false n true is q q' b b' = Meant-escape 116 9 c refl is
    by false n false t true is b b' = Meant-escape 34 34 c refl is
    by false n false t false q true is = Meant-escape 92 92 c refl is
    by false n false t false q false b = meaning-plain c [] plain

Meant-escaped : (letter c : ℕ) → escaped letter ≡ Some c → Meant c
unfolding meaning escape_meaning
Meant-escaped letter c is = by (eqb 110 letter) (eqb 116 letter) (eqb 34 letter) (eqb 92 letter) is
  where
    Row : Type 0
    Row = ℕ × ℕ

    by : (n t q b : Bool) → option_map {T = Row} (λ row. row.1) (cond n (Some (110, 10)) (cond t (Some (116, 9)) (cond q (Some (34, 34)) (cond b (Some (92, 92)) None)))) ≡ Some c → Meant c
    by true t q b h = let same : 10 ≡ c = cc in subst (λ x. Meant x) same refl
    by false true q b h = let same : 9 ≡ c = cc in subst (λ x. Meant x) same refl
    by false false true b h = let same : 34 ≡ c = cc in subst (λ x. Meant x) same refl
    by false false false true h = let same : 92 ≡ c = cc in subst (λ x. Meant x) same refl
    by false false false false h = cc

before-AllMeant : (o : Option ℕ) (here : Option (List ℕ)) (bs : List ℕ) → ((c : ℕ) → o ≡ Some c → Meant c) → ((ms : List ℕ) → here ≡ Some ms → AllMeant ms) → byte_then o here ≡ Some bs → AllMeant bs
unfolding AllMeant
before-AllMeant None here bs first rest h = cc
before-AllMeant (Some c) None bs first rest h = cc
before-AllMeant (Some c) (Some ms) bs first rest h =
    let same : c ∷ ms ≡ bs = cc in
    subst (λ xs. AllMeant xs) same (first c refl, rest ms refl)

meaning-AllMeant : (run bs : List ℕ) → meaning run ≡ Some bs → AllMeant bs
unfolding meaning escape_meaning AllMeant
meaning-AllMeant [] bs h = let none : [] ≡ bs = cc in subst (λ xs. AllMeant xs) none tt
meaning-AllMeant (c ∷ []) bs h = one (eqb c backslash) (is_plain c) refl h
  where
    one : (b p : Bool) → is_plain c ≡ p → cond b None (cond p (byte_then (Some c) (Some [])) None) ≡ Some bs → AllMeant bs
    one true p is h = cc
    one false true is h =
        let list : c ∷ [] ≡ bs = cc in
        subst (λ xs. AllMeant xs) list (Meant-plain c is, tt)
    one false false is h = cc
meaning-AllMeant (c ∷ d ∷ cs) bs h =
    two (eqb c backslash) (is_plain c) refl (λ ms is. meaning-AllMeant cs ms is) (λ ms is. meaning-AllMeant (d ∷ cs) ms is) h
  where
    two : (b p : Bool) → is_plain c ≡ p → ((ms : List ℕ) → meaning cs ≡ Some ms → AllMeant ms) → ((ms : List ℕ) → meaning (d ∷ cs) ≡ Some ms → AllMeant ms) → cond b (byte_then (escaped d) (meaning cs)) (cond p (byte_then (Some c) (meaning (d ∷ cs))) None) ≡ Some bs → AllMeant bs
    two true p is after next h = before-AllMeant (escaped d) (meaning cs) bs (λ e e_is. Meant-escaped d e e_is) after h
    two false true is after next h = before-AllMeant (Some c) (meaning (d ∷ cs)) bs (λ e e_is. let same : c ≡ e = cc in subst (λ x. Meant x) same (Meant-plain c is)) next h
    two false false is after next h = cc

meaning-flat_map : (bs : List ℕ) → AllMeant bs → meaning (flat_map quoted_byte bs) ≡ Some bs
unfolding AllMeant
meaning-flat_map [] all = meaning-empty
meaning-flat_map (c ∷ cs) all =
    meaning-append (quoted_byte c) (flat_map quoted_byte cs) (c ∷ []) all.0
    ∙ ap (λ o. option_map (λ b. (c ∷ []) ++ b) o) (meaning-flat_map cs all.1)

-- a text that some run means is spelled by its quoted form
pub token_spelled_by-quoted : (run bs : List ℕ) → meaning run ≡ Some bs → token_spelled_by (quoted bs) ≡ Some (token.Text bs)
unfolding token_spelled_by quoted
token_spelled_by-quoted run bs is =
    ap (λ o. option_map (λ t. token.Text t) o)
    (text_of-snoc (flat_map quoted_byte bs) quote ∙ meaning-flat_map bs (meaning-AllMeant run bs is))
