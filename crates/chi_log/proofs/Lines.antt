-- The first lines of a text, and of one text before another.
use Rattle.std.proofs.Common.{◌≡◌, ℕ, zero, suc, ◌≤◌, ◌&&◌, List, [], ◌∷◌, ◌++◌, append-nil, length, Option, Some, None, Bool, true, false, cond, sym, ◌∙◌, ap, subst, refl, arith}
use Rattle.std.specs.List.{list_all}
use Rattle.std.specs.Prelude.{◌==◌, not, option_map, unwrap_or}
use Rattle.chi_log.specs.Allowed.{first_lines}

some_same : {A : Type 0} (x y : A) → Some x ≡ Some y → x ≡ y
some_same x y e = ap (λ o. unwrap_or o x) e

-- what a list that goes on with c is, of one that is there
parts : (c : ℕ) (o : Option (List ℕ)) (front : List ℕ) → option_map (λ f. c ∷ f) o ≡ Some front → (more : List ℕ) × (o ≡ Some more) × (front ≡ c ∷ more)
parts c None front e = absurd (cc)
parts c (Some more) front e = (more, refl, sym (some_same (c ∷ more) front e))

abbrev pub tail_of : List ℕ → List ℕ
tail_of [] = []
tail_of (c ∷ cs) = cs

-- the first lines stand at the front of a text
pub first_is_front : (k : ℕ) (text front : List ℕ) → first_lines k text ≡ Some front → (rest : List ℕ) × (text ≡ front ++ rest)
first_is_front zero text front e = (text, ap (λ f. f ++ text) (some_same [] front e))
first_is_front (suc k) [] front e = absurd (cc)
first_is_front (suc k) (c ∷ cs) front e = by (c == 10) (λ f. first_is_front k cs f) (λ f. first_is_front (suc k) cs f) e
  where
    by : (b : Bool) → ((f : List ℕ) → first_lines k cs ≡ Some f → (rest : List ℕ) × (cs ≡ f ++ rest))
        → ((f : List ℕ) → first_lines (suc k) cs ≡ Some f → (rest : List ℕ) × (cs ≡ f ++ rest))
        → option_map (λ f. c ∷ f) (cond b (first_lines k cs) (first_lines (suc k) cs)) ≡ Some front → (rest : List ℕ) × ((c ∷ cs) ≡ front ++ rest)
    by true now later e' =
        let p = parts c (first_lines k cs) front e' in
        let r = now p.0 p.1 in
        (r.0, ap (λ x. c ∷ x) r.1 ∙ ap (λ f. f ++ r.0) (sym p.2))
    by false now later e' =
        let p = parts c (first_lines (suc k) cs) front e' in
        let r = later p.0 p.1 in
        (r.0, ap (λ x. c ∷ x) r.1 ∙ ap (λ f. f ++ r.0) (sym p.2))

-- one line more than a text has, where it stands before another one
pub line_next : (k : ℕ) (front rest : List ℕ) → first_lines k front ≡ Some front
    → first_lines (suc k) (front ++ rest) ≡ option_map (λ more. front ++ more) (first_lines 1 rest)
line_next zero [] rest e = by (first_lines 1 rest)
  where
    by : (o : Option (List ℕ)) → o ≡ option_map (λ more. [] ++ more) o
    by None = refl
    by (Some x) = refl
line_next zero (c ∷ cs) rest e = absurd (let no : [] ≡ c ∷ cs = some_same [] (c ∷ cs) e in cc)
line_next (suc k) [] rest e = absurd (cc)
line_next (suc k) (c ∷ cs) rest e = by (c == 10) (λ g. line_next k cs rest g) (λ g. line_next (suc k) cs rest g) e
  where
    twice : (o : Option (List ℕ)) → option_map (λ f. c ∷ f) (option_map (λ more. cs ++ more) o) ≡ option_map (λ more. (c ∷ cs) ++ more) o
    twice None = refl
    twice (Some x) = refl

    by : (b : Bool) → (first_lines k cs ≡ Some cs → first_lines (suc k) (cs ++ rest) ≡ option_map (λ more. cs ++ more) (first_lines 1 rest))
        → (first_lines (suc k) cs ≡ Some cs → first_lines (suc (suc k)) (cs ++ rest) ≡ option_map (λ more. cs ++ more) (first_lines 1 rest))
        → option_map (λ f. c ∷ f) (cond b (first_lines k cs) (first_lines (suc k) cs)) ≡ Some (c ∷ cs)
        → option_map (λ f. c ∷ f) (cond b (first_lines (suc k) (cs ++ rest)) (first_lines (suc (suc k)) (cs ++ rest)))
        ≡ option_map (λ more. (c ∷ cs) ++ more) (first_lines 1 rest)
    by true now later e' =
        let p = parts c (first_lines k cs) (c ∷ cs) e' in
        let same : p.0 ≡ cs = ap tail_of (sym p.2) in
        ap (option_map (λ f. c ∷ f)) (now (p.1 ∙ ap Some same)) ∙ twice (first_lines 1 rest)
    by false now later e' =
        let p = parts c (first_lines (suc k) cs) (c ∷ cs) e' in
        let same : p.0 ≡ cs = ap tail_of (sym p.2) in
        ap (option_map (λ f. c ∷ f)) (later (p.1 ∙ ap Some same)) ∙ twice (first_lines 1 rest)

-- fewer lines of it are the same before any other
pub fewer_lines : (j k : ℕ) (front : List ℕ) → first_lines k front ≡ Some front → j ≤ k
    → (some : List ℕ) × ((rest : List ℕ) → first_lines j (front ++ rest) ≡ Some some)
fewer_lines zero k front e less = ([], λ rest. refl)
fewer_lines (suc j) zero front e less = absurd (omega arith)
fewer_lines (suc j) (suc k) [] e less = absurd (cc)
fewer_lines (suc j) (suc k) (c ∷ cs) e less = by (c == 10) (λ g. fewer_lines j k cs g (omega arith)) (λ g. fewer_lines (suc j) (suc k) cs g less) e
  where
    by : (b : Bool) → (first_lines k cs ≡ Some cs → (some : List ℕ) × ((rest : List ℕ) → first_lines j (cs ++ rest) ≡ Some some))
        → (first_lines (suc k) cs ≡ Some cs → (some : List ℕ) × ((rest : List ℕ) → first_lines (suc j) (cs ++ rest) ≡ Some some))
        → option_map (λ f. c ∷ f) (cond b (first_lines k cs) (first_lines (suc k) cs)) ≡ Some (c ∷ cs)
        → (some : List ℕ) × ((rest : List ℕ) → option_map (λ f. c ∷ f) (cond b (first_lines j (cs ++ rest)) (first_lines (suc j) (cs ++ rest))) ≡ Some some)
    by true now later e' =
        let p = parts c (first_lines k cs) (c ∷ cs) e' in
        let r = now (p.1 ∙ ap Some (ap tail_of (sym p.2))) in
        (c ∷ r.0, λ rest. ap (option_map (λ f. c ∷ f)) (r.1 rest))
    by false now later e' =
        let p = parts c (first_lines (suc k) cs) (c ∷ cs) e' in
        let r = later (p.1 ∙ ap Some (ap tail_of (sym p.2))) in
        (c ∷ r.0, λ rest. ap (option_map (λ f. c ∷ f)) (r.1 rest))

-- there are no more lines than bytes
pub lines_are_few : (k : ℕ) (front : List ℕ) → first_lines k front ≡ Some front → k ≤ length front
lines_are_few zero front e = omega arith
lines_are_few (suc k) [] e = absurd (cc)
lines_are_few (suc k) (c ∷ cs) e = by (c == 10) (λ g. lines_are_few k cs g) (λ g. lines_are_few (suc k) cs g) e
  where
    by : (b : Bool) → (first_lines k cs ≡ Some cs → k ≤ length cs) → (first_lines (suc k) cs ≡ Some cs → suc k ≤ length cs)
        → option_map (λ f. c ∷ f) (cond b (first_lines k cs) (first_lines (suc k) cs)) ≡ Some (c ∷ cs) → suc k ≤ length (c ∷ cs)
    by true now later e' =
        let p = parts c (first_lines k cs) (c ∷ cs) e' in
        let h : k ≤ length cs = now (p.1 ∙ ap Some (ap tail_of (sym p.2))) in omega arith
    by false now later e' =
        let p = parts c (first_lines (suc k) cs) (c ∷ cs) e' in
        let h : suc k ≤ length cs = later (p.1 ∙ ap Some (ap tail_of (sym p.2))) in omega arith

-- k lines, and one more
pub one_line_more : (k : ℕ) (front line : List ℕ) → first_lines k front ≡ Some front → first_lines 1 line ≡ Some line
    → first_lines (suc k) (front ++ line) ≡ Some (front ++ line)
one_line_more k front line e l = line_next k front line e ∙ ap (option_map (λ more. front ++ more)) l

-- the first line of what is left, from the first lines of the whole
pub line_after : (k : ℕ) (front rest some : List ℕ) → first_lines k front ≡ Some front → first_lines (suc k) (front ++ rest) ≡ Some some
    → (line : List ℕ) × (first_lines 1 rest ≡ Some line) × (some ≡ front ++ line)
line_after k front rest some e is = by (first_lines 1 rest) (sym (line_next k front rest e) ∙ is)
  where
    by : (o : Option (List ℕ)) → option_map (λ more. front ++ more) o ≡ Some some → (line : List ℕ) × (o ≡ Some line) × (some ≡ front ++ line)
    by None e' = absurd (cc)
    by (Some line) e' = (line, refl, sym (some_same (front ++ line) some e'))

-- the first line is one line
pub first_is_line : (text line : List ℕ) → first_lines 1 text ≡ Some line → first_lines 1 line ≡ Some line
first_is_line [] line e = absurd (cc)
first_is_line (c ∷ cs) line e = by (c == 10) refl (λ f. first_is_line cs f) e
  where
    same : (b : Bool) → (c == 10) ≡ b → (more : List ℕ) → cond b (Some []) (first_lines 1 more) ≡ Some more → first_lines 1 (c ∷ more) ≡ Some (c ∷ more)
    same b q more h = ap (λ x. option_map (λ f. c ∷ f) (cond x (Some []) (first_lines 1 more))) q ∙ ap (option_map (λ f. c ∷ f)) h

    by : (b : Bool) → (c == 10) ≡ b → ((f : List ℕ) → first_lines 1 cs ≡ Some f → first_lines 1 f ≡ Some f)
        → option_map (λ f. c ∷ f) (cond b (Some []) (first_lines 1 cs)) ≡ Some line → first_lines 1 line ≡ Some line
    by true q later e' =
        let p = parts c (Some []) line e' in
        let none : [] ≡ p.0 = some_same [] p.0 p.1 in
        subst (λ (l : List ℕ). first_lines 1 l ≡ Some l) (ap (λ m. c ∷ m) none ∙ sym p.2) (same true q [] refl)
    by false q later e' =
        let p = parts c (first_lines 1 cs) line e' in
        subst (λ (l : List ℕ). first_lines 1 l ≡ Some l) (sym p.2) (same false q p.0 (later p.0 p.1))

-- a text with no line feed but at its end is one line
pub line_of_one : (text : List ℕ) → list_all (λ c. not (c == 10)) text ≡ true → first_lines 1 (text ++ 10 ∷ []) ≡ Some (text ++ 10 ∷ [])
line_of_one [] e = refl
line_of_one (c ∷ cs) e = by (c == 10) refl (λ g. line_of_one cs g) e
  where
    by : (b : Bool) → (c == 10) ≡ b → (list_all (λ c. not (c == 10)) cs ≡ true → first_lines 1 (cs ++ 10 ∷ []) ≡ Some (cs ++ 10 ∷ []))
        → (not b && list_all (λ c. not (c == 10)) cs) ≡ true
        → option_map (λ f. c ∷ f) (cond b (Some []) (first_lines 1 (cs ++ 10 ∷ []))) ≡ Some (c ∷ cs ++ 10 ∷ [])
    by true q later e' = absurd (cc)
    by false q later e' = ap (option_map (λ f. c ∷ f)) (later e')

-- one line before another text is its first line
pub alone : (line more : List ℕ) → first_lines 1 line ≡ Some line → first_lines 1 (line ++ more) ≡ Some line
alone line more l =
    let f = fewer_lines 1 1 line l (omega arith) in
    let own : line ≡ f.0 = some_same line f.0 (sym l ∙ ap (first_lines 1) (sym (append-nil line)) ∙ f.1 []) in
    f.1 more ∙ ap Some (sym own)

-- two texts that begin with one line each are cut in one way
pub one_cut : (line other more rest : List ℕ) → first_lines 1 line ≡ Some line → first_lines 1 other ≡ Some other → line ++ more ≡ other ++ rest
    → (line ≡ other) × (more ≡ rest)
one_cut line other more rest l o e =
    let a : first_lines 1 (line ++ more) ≡ Some line = alone line more l in
    let b : first_lines 1 (other ++ rest) ≡ Some other = alone other rest o in
    let same : line ≡ other = some_same line other (sym a ∙ ap (first_lines 1) e ∙ b) in
    (same, append_same line more rest (e ∙ ap (λ l. l ++ rest) (sym same)))
  where
    append_same : (x y z : List ℕ) → x ++ y ≡ x ++ z → y ≡ z
    append_same [] y z h = h
    append_same (c ∷ cs) y z h = append_same cs y z (ap tail_of h)

-- a text with no line feed has no line
pub no_line : (text : List ℕ) → list_all (λ c. not (c == 10)) text ≡ true → first_lines 1 text ≡ None
no_line [] e = refl
no_line (c ∷ cs) e = by (c == 10) (λ g. no_line cs g) e
  where
    by : (b : Bool) → (list_all (λ c. not (c == 10)) cs ≡ true → first_lines 1 cs ≡ None) → (not b && list_all (λ c. not (c == 10)) cs) ≡ true
        → option_map (λ f. c ∷ f) (cond b (Some []) (first_lines 1 cs)) ≡ None
    by true later e' = absurd (cc)
    by false later e' = ap (option_map (λ f. c ∷ f)) (later e')
