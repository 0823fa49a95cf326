-- The longest keyword or name.
use Rattle.std.proofs.Common.{◌≡◌, ℕ, suc, ◌+◌, ◌<◌, Bool, true, false, ◌||◌, ◌&&◌, cond, Some, None, List, [], ◌∷◌, ◌++◌, length, take, drop, get_or, refl, sym, ap, subst, ◌∙◌, arith}
use Rattle.std.proofs.lemmas.List.{take-append-drop}
use Rattle.std.specs.List.{list_all, prefix_len, take_while}
use Rattle.chi_token.specs.declared.keyword.Keyword.{Keyword}
use Rattle.chi_token.specs.declared.token.Token.TheVariants.{Word, Name}
use Rattle.chi_token.specs.Characters.{is_name_start, is_name_byte, is_digit}
use Rattle.chi_token.specs.Keywords.{keyword_of}
use Rattle.chi_token.specs.Prefixes.{longest_prefix}
use Rattle.chi_token.specs.Tokens.{token_spelled_by, word_or_name}
use Rattle.chi_lex.proofs.Prefixes.{longest_prefix-at}
use Rattle.std.proofs.lemmas.List.Folds.{length-prefix_len}
use Rattle.chi_lex.proofs.Runs.{StopsAt, one_suc, list_all-stop, list_all-take-prefix_len, StopsAt-drop-prefix_len}

start_name_byte : (c : ℕ) → is_name_start c ≡ true → is_name_byte c ≡ true
start_name_byte c start = ap (λ b. b || is_digit c) start

token_spelled_by-word : (c : ℕ) (cs : List ℕ) → is_name_start c ≡ true → list_all is_name_byte (c ∷ cs) ≡ true → token_spelled_by (c ∷ cs) ≡ Some (word_or_name (keyword_of (c ∷ cs)) (c ∷ cs))
unfolding token_spelled_by
token_spelled_by-word c cs start passes = rw start (rw (rest (is_name_byte c) (start_name_byte c start) passes) refl)
  where
    rest : (b : Bool) → b ≡ true → (b && list_all is_name_byte cs) ≡ true → list_all is_name_byte cs ≡ true
    rest true is h = h
    rest false is h = cc

token_spelled_by-no_word : (c : ℕ) (cs : List ℕ) → is_name_start c ≡ true → list_all is_name_byte cs ≡ false → token_spelled_by (c ∷ cs) ≡ None
unfolding token_spelled_by
token_spelled_by-no_word c cs start fails = rw start (rw fails refl)

-- a front of bytes of names, with more bytes after it
word-longer : (c : ℕ) (cs back : List ℕ) → is_name_start c ≡ true → StopsAt is_name_byte back → (k : ℕ) → k < length back → token_spelled_by ((c ∷ cs) ++ take (suc k) back) ≡ None
word-longer c cs [] start stops k low = absurd (omega arith)
word-longer c cs (x ∷ back) start stops k low =
    token_spelled_by-no_word c (cs ++ x ∷ take k back) start (list_all-stop is_name_byte cs x (take k back) stops)

word-at : (front back : List ℕ) → 0 < length front → is_name_start (get_or front 0 0) ≡ true → list_all is_name_byte front ≡ true → StopsAt is_name_byte back → longest_prefix token_spelled_by (length (front ++ back)) (front ++ back) ≡ Some (word_or_name (keyword_of front) front, length front)
word-at [] back some start passes stops = absurd (omega arith)
word-at (c ∷ cs) back some start passes stops =
    longest_prefix-at token_spelled_by (word_or_name (keyword_of (c ∷ cs)) (c ∷ cs)) (c ∷ cs) back
    (token_spelled_by-word c cs start passes)
    (word-longer c cs back start stops)

name_length-cons : (c : ℕ) (cs : List ℕ) → is_name_start c ≡ true → prefix_len is_name_byte (c ∷ cs) ≡ suc (prefix_len is_name_byte cs)
name_length-cons c cs start =
    ap (λ b. cond b (1 + prefix_len is_name_byte cs) 0) (start_name_byte c start) ∙ one_suc (prefix_len is_name_byte cs)

-- a rest that begins as a name does: all its bytes of names
pub longest-word : (rest : List ℕ) (n : ℕ) → n ≡ prefix_len is_name_byte rest → 0 < length rest → is_name_start (get_or rest 0 0) ≡ true → longest_prefix token_spelled_by (length rest) rest ≡ Some (word_or_name (keyword_of (take n rest)) (take n rest), n)
longest-word [] n is some start = absurd (omega arith)
longest-word (c ∷ cs) n is some start =
    let m = prefix_len is_name_byte cs in
    let front = c ∷ take m cs in
    let size : n ≡ suc m = is ∙ name_length-cons c cs start in
    let all : list_all is_name_byte front ≡ true =
    ap (λ b. b && list_all is_name_byte (take m cs)) (start_name_byte c start) ∙ list_all-take-prefix_len is_name_byte cs in
    let found = word-at front (drop m cs) (omega arith) start all (StopsAt-drop-prefix_len is_name_byte cs) in
    let whole : front ++ drop m cs ≡ c ∷ cs = ap (λ xs. c ∷ xs) (take-append-drop m cs) in
    let long : length front ≡ suc m = ap suc (length-prefix_len is_name_byte cs) in
    rw size (rw long at (subst (λ xs. longest_prefix token_spelled_by (length xs) xs ≡ Some (word_or_name (keyword_of front) front, length front)) whole found))

pub longest-keyword : (rest text : List ℕ) (n : ℕ) (keyword : Keyword) → n ≡ length (take_while is_name_byte rest) → 0 < length rest → is_name_start (get_or rest 0 0) ≡ true → text ≡ take n rest → Some keyword ≡ keyword_of text → longest_prefix token_spelled_by (length rest) rest ≡ Some (Word keyword, n)
longest-keyword rest text n keyword size some start is reads =
    let found = longest-word rest n (size ∙ length-prefix_len is_name_byte rest) some start in
    let reads' : keyword_of (take n rest) ≡ Some keyword = subst (λ t. keyword_of t ≡ Some keyword) is (sym reads) in
    found ∙ ap (λ k. Some (word_or_name k (take n rest), n)) reads'

pub longest-name : (rest text name : List ℕ) (n : ℕ) → n ≡ length (take_while is_name_byte rest) → 0 < length rest → is_name_start (get_or rest 0 0) ≡ true → text ≡ take n rest → None ≡ keyword_of text → name ≡ text → longest_prefix token_spelled_by (length rest) rest ≡ Some (Name name, n)
longest-name rest text name n size some start is reads named =
    let found = longest-word rest n (size ∙ length-prefix_len is_name_byte rest) some start in
    let reads' : keyword_of (take n rest) ≡ None = subst (λ t. keyword_of t ≡ None) is (sym reads) in
    found ∙ ap (λ k. Some (word_or_name k (take n rest), n)) reads' ∙ ap (λ t. Some (Name t, n)) (sym (named ∙ is))
