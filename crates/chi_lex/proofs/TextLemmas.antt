-- What runs of characters and texts mean.
use Rattle.std.proofs.Common.{◌≡◌, ◌≢◌, ℕ, ◌-◌, Bool, true, false, not, ◌||◌, cond, eqb, Option, Some, None, List, [], ◌∷◌, ◌++◌, length, take, get_or, length-append, refl, sym, ap, ◌∙◌, arith}
use Rattle.std.specs.Option.{option_map}
use Rattle.std.proofs.Math.Seq.{get_or-append_seam, take-append_seam}
use Rattle.std.proofs.lemmas.Bool.{ne_eqb}
use Rattle.chi_token.specs.Characters.{is_plain, quote, backslash}
use Rattle.chi_token.specs.Texts.{meaning, escape_meaning, escaped, byte_then, text_of}
use Rattle.chi_lex.proofs.Runs.{and_right}

not_or : (a b : Bool) → not (a || b) ≡ true → b ≡ false
not_or true b h = cc
not_or false true h = cc
not_or false false h = refl

plain_no_backslash : (c : ℕ) → is_plain c ≡ true → eqb c backslash ≡ false
plain_no_backslash c plain = not_or (eqb c quote) (eqb c backslash) (and_right _ (not (eqb c quote || eqb c backslash)) plain)

pub meaning-plain : (c : ℕ) (cs : List ℕ) → is_plain c ≡ true → meaning (c ∷ cs) ≡ byte_then (Some c) (meaning cs)
unfolding meaning escape_meaning
meaning-plain c cs plain =
    ap (λ b. cond b (escape_meaning cs) (cond (is_plain c) (byte_then (Some c) (meaning cs)) None)) (plain_no_backslash c plain)
    ∙ ap (λ b. cond b (byte_then (Some c) (meaning cs)) None) plain

pub meaning-escape : (letter : ℕ) (cs : List ℕ) → meaning (backslash ∷ letter ∷ cs) ≡ byte_then (escaped letter) (meaning cs)
unfolding meaning escape_meaning
meaning-escape letter cs = refl

pub meaning-lone : meaning (backslash ∷ []) ≡ None
unfolding meaning escape_meaning
meaning-lone = refl

-- a byte that is neither plain nor a backslash begins no run
pub meaning-bad : (c : ℕ) (cs : List ℕ) → is_plain c ≡ false → c ≢ backslash → meaning (c ∷ cs) ≡ None
unfolding meaning escape_meaning
meaning-bad c cs bad other =
    ap (λ b. cond b (escape_meaning cs) (cond (is_plain c) (byte_then (Some c) (meaning cs)) None)) (ne_eqb c backslash other)
    ∙ ap (λ b. cond b (byte_then (Some c) (meaning cs)) None) bad

pub meaning-empty : meaning [] ≡ Some []
unfolding meaning escape_meaning
meaning-empty = refl

-- a character before a run and its rest: by what is known of the rest after each run
before-append : (c : Option ℕ) (m : List ℕ) (here rest back : Option (List ℕ)) → ((bs : List ℕ) → here ≡ Some bs → rest ≡ option_map (λ b. bs ++ b) back) → byte_then c here ≡ Some m → byte_then c rest ≡ option_map (λ b. m ++ b) back
before-append None m here rest back go h = cc
before-append (Some c) m None rest back go h = cc
before-append (Some c) m (Some bs) rest back go h =
    let same : c ∷ bs ≡ m = cc in
    ap (λ o. byte_then (Some c) o) (go bs refl) ∙ onto back ∙ ap (λ xs. option_map (λ b. xs ++ b) back) same
  where
    onto : (o : Option (List ℕ)) → byte_then (Some c) (option_map (λ b. bs ++ b) o) ≡ option_map (λ b. (c ∷ bs) ++ b) o
    onto None = refl
    onto (Some b) = refl

nothing_before : (m : List ℕ) → [] ≡ m → (o : Option (List ℕ)) → o ≡ option_map (λ b. m ++ b) o
nothing_before m none None = refl
nothing_before m none (Some b) = ap (λ xs. Some (xs ++ b)) none

-- a run before more bytes
pub meaning-append : (xs ys m : List ℕ) → meaning xs ≡ Some m → meaning (xs ++ ys) ≡ option_map (λ b. m ++ b) (meaning ys)
unfolding meaning escape_meaning
meaning-append [] ys m h = let none : [] ≡ m = cc in nothing_before m none (meaning ys)
meaning-append (c ∷ []) ys m h = one (eqb c backslash) (is_plain c) h
  where
    one : (b p : Bool) → cond b None (cond p (byte_then (Some c) (Some [])) None) ≡ Some m → cond b (escape_meaning ys) (cond p (byte_then (Some c) (meaning ys)) None) ≡ option_map (λ b. m ++ b) (meaning ys)
    one true p h = cc
    one false true h = before-append (Some c) m (Some []) (meaning ys) (meaning ys) (λ bs is. let none : [] ≡ bs = cc in nothing_before bs none (meaning ys)) h
    one false false h = cc
meaning-append (c ∷ d ∷ cs) ys m h =
    two (eqb c backslash) (is_plain c) (λ bs is. meaning-append cs ys bs is) (λ bs is. meaning-append (d ∷ cs) ys bs is) h
  where
    two : (b p : Bool) → ((bs : List ℕ) → meaning cs ≡ Some bs → meaning (cs ++ ys) ≡ option_map (λ b. bs ++ b) (meaning ys)) → ((bs : List ℕ) → meaning (d ∷ cs) ≡ Some bs → meaning (d ∷ cs ++ ys) ≡ option_map (λ b. bs ++ b) (meaning ys)) → cond b (byte_then (escaped d) (meaning cs)) (cond p (byte_then (Some c) (meaning (d ∷ cs))) None) ≡ Some m → cond b (byte_then (escaped d) (meaning (cs ++ ys))) (cond p (byte_then (Some c) (meaning (d ∷ cs ++ ys))) None) ≡ option_map (λ b. m ++ b) (meaning ys)
    two true p after next h = before-append (escaped d) m (meaning cs) (meaning (cs ++ ys)) (meaning ys) after h
    two false true after next h = before-append (Some c) m (meaning (d ∷ cs)) (meaning (d ∷ cs ++ ys)) (meaning ys) next h
    two false false after next h = cc

-- what has no meaning has none after a run either
pub meaning-append-none : (xs ys m : List ℕ) → meaning xs ≡ Some m → meaning ys ≡ None → meaning (xs ++ ys) ≡ None
meaning-append-none xs ys m run none = meaning-append xs ys m run ∙ ap (λ o. option_map (λ b. m ++ b) o) none

pub meaning-quote : (ys : List ℕ) → meaning (quote ∷ ys) ≡ None
unfolding meaning escape_meaning
meaning-quote ys = refl

-- before a quote in a run no run ends
pub meaning-before-quote : (xs ys m : List ℕ) → meaning (xs ++ quote ∷ ys) ≡ Some m → meaning xs ≡ None
meaning-before-quote xs ys m run = by (meaning xs) refl
  where
    by : (o : Option (List ℕ)) → meaning xs ≡ o → meaning xs ≡ None
    by None is = is
    by (Some b) is =
        let none : meaning (xs ++ quote ∷ ys) ≡ None = meaning-append-none xs (quote ∷ ys) b is (meaning-quote ys) in
        let no : Some m ≡ None = sym run ∙ none in
        cc

-- a text by its last byte
pub text_of-snoc : (xs : List ℕ) (x : ℕ) → text_of (xs ++ x ∷ []) ≡ cond (eqb x quote) (meaning xs) None
text_of-snoc xs x =
    let size : length (xs ++ x ∷ []) - 1 ≡ length xs = omega (arith, length-append xs (x ∷ [])) in
    ap (λ n. cond (eqb (get_or (xs ++ x ∷ []) n 0) quote) (meaning (take n (xs ++ x ∷ []))) None) size
    ∙ ap (λ y. cond (eqb y quote) (meaning (take (length xs) (xs ++ x ∷ []))) None) (get_or-append_seam xs x [] 0)
    ∙ ap (λ ys. cond (eqb x quote) (meaning ys) None) (take-append_seam xs (x ∷ []))

-- no text where the bytes before the last one are no run
pub text_of-no_run : (xs : List ℕ) (x : ℕ) → meaning xs ≡ None → text_of (xs ++ x ∷ []) ≡ None
text_of-no_run xs x none = text_of-snoc xs x ∙ ap (λ o. cond (eqb x quote) o None) none ∙ same (eqb x quote) None
  where
    same : (b : Bool) (o : Option (List ℕ)) → cond b o o ≡ o
    same true o = refl
    same false o = refl

-- no text where the last byte is no quote
pub text_of-open : (xs : List ℕ) (x : ℕ) → x ≢ quote → text_of (xs ++ x ∷ []) ≡ None
text_of-open xs x other = text_of-snoc xs x ∙ ap (λ b. cond b (meaning xs) None) (ne_eqb x quote other)
