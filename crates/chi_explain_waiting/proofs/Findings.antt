-- Instances that are found, one after another, and those that are reached from them.
use Rattle.std.proofs.Common.{◌≡◌, ℕ, zero, suc, ◌+◌, ◌<◌, ◌≤◌, ◌⊎◌, inl, inr, Bool, true, false, List, [], ◌∷◌, ◌++◌, length, get_or, take, set, replicate, cond, eqb, refl, sym, ap, ◌∙◌, subst, arith}
use Rattle.std.specs.List.{Contains, flat_map, list_any}
use Rattle.std.proofs.lemmas.Bool.{cases_eq, cases_lt, eq-eqb, eqb-true, false≢true}
use Rattle.std.proofs.lemmas.List.{get_or_append_left, get_or_default, get_or_past, get_or-replicate, length-replicate, get_or-set_same, get_or-set_other, length-set, length_push, take_more, take_all}
use Rattle.std.proofs.lemmas.List.Elements.{Contains-append_cases, Contains-append_left, Contains-append_right, Contains-get_or, Contains-push, Contains-push_cases}
use Rattle.std.proofs.lemmas.List.Folds.{Any-from_list_any, list_any_at}
use Rattle.std.proofs.lemmas.List.Sums.{fold_more}
use Rattle.chi_explain_waiting.specs.Finding.{Adds, Begins, IsMarked, Reaches}
use Rattle.chi_explain_waiting.specs.Joins.{through, with_number, with_numbers}

none_in : (x : ℕ) → Contains {X = ℕ} [] x → ⊥
none_in x c = let h = c.1 in omega arith

one_in : (x y : ℕ) → Contains (x ∷ []) y → x ≡ y
one_in x y c = by_place c.0 c.1 c.2
  where
    by_place : (k : ℕ) → k < length (x ∷ []) → get_or (x ∷ []) k y ≡ y → x ≡ y
    by_place zero l e = e
    by_place (suc k) l e = absurd (omega arith)

-- what a test tells of whether a number is in a list

pub any_in : (xs : List ℕ) (p : ℕ) → Contains xs p → list_any (λ q. eqb q p) xs ≡ true
any_in xs p c = list_any_at (λ q. eqb q p) xs c.0 p c.1 (eq-eqb _ p c.2)

pub in_any : (xs : List ℕ) (p : ℕ) → list_any (λ q. eqb q p) xs ≡ true → Contains xs p
in_any xs p e =
    let a = Any-from_list_any (λ q. eqb q p) xs e in
    let same : a.1 ≡ p = eqb-true a.1 p a.4 in
    subst (λ (q : ℕ). Contains xs q) same (a.0, a.2, a.3)

-- what a step reaches from the elements of a list

flat_map_in : (f : ℕ → List ℕ) (xs : List ℕ) (y x : ℕ) → Contains xs y → Contains (f y) x → Contains (flat_map f xs) x
flat_map_in f [] y x c d = absurd (none_in y c)
flat_map_in f (z ∷ zs) y x c d = by_place (λ c'. flat_map_in f zs y x c' d) c.0 c.1 c.2
  where
    by_place : (Contains zs y → Contains (flat_map f zs) x) → (k : ℕ) → k < length (z ∷ zs) → get_or (z ∷ zs) k y ≡ y
        → Contains (f z ++ flat_map f zs) x
    by_place more zero l e = Contains-append_left (f z) (flat_map f zs) x (subst (λ (w : ℕ). Contains (f w) x) (sym e) d)
    by_place more (suc k) l e = Contains-append_right (f z) (flat_map f zs) x (more (k, (omega arith), e))

flat_map_from : (f : ℕ → List ℕ) (xs : List ℕ) (x : ℕ) → Contains (flat_map f xs) x → (y : ℕ) × Contains xs y × Contains (f y) x
flat_map_from f [] x c = absurd (none_in x c)
flat_map_from f (z ∷ zs) x c = by_part (flat_map_from f zs x) (Contains-append_cases (f z) (flat_map f zs) x c)
  where
    by_part : (Contains (flat_map f zs) x → (y : ℕ) × Contains zs y × Contains (f y) x) → Contains (f z) x ⊎ Contains (flat_map f zs) x
        → (y : ℕ) × Contains (z ∷ zs) y × Contains (f y) x
    by_part more (inl h) = (z, (0, (omega arith), refl), h)
    by_part more (inr h) = let r = more h in (r.0, (suc r.1.0, (let l = r.1.1 in omega arith), r.1.2), r.2)

-- lists that begin with a list

pub keeps : (old new : List ℕ) → Begins old new → (x : ℕ) → Contains old x → Contains new x
keeps old new b x c =
    let h : c.0 < length old = c.1 in
    let l : c.0 < length new = omega (arith, b.longer) in
    (c.0, l, get_or_default new c.0 x 0 l ∙ b.front c.0 h ∙ get_or_default old c.0 0 x h ∙ c.2)

begins_none : (xs : List ℕ) → Begins xs xs
begins_none xs = record { longer = omega arith; front = λ j h. refl }

begins_then : (a b c : List ℕ) → Begins a b → Begins b c → Begins a c
begins_then a b c p q = record {
  longer = omega (arith, p.longer, q.longer);
  front = λ j h. q.front j (omega (arith, p.longer)) ∙ p.front j h;
}

begins_push : (xs : List ℕ) (x : ℕ) → Begins xs (xs ++ x ∷ [])
begins_push xs x = record {
  longer = omega (arith, length_push xs x);
  front = λ j h. get_or_append_left xs (x ∷ []) 0 j h;
}

-- what is added

pub adds_none : (xs : List ℕ) → Adds xs xs []
adds_none xs = record {
  begins = begins_none xs;
  comes = λ x c. inl c;
  adds = λ x c. absurd (none_in x c);
}

pub adds_known : (xs : List ℕ) (x : ℕ) → Contains xs x → Adds xs xs (x ∷ [])
adds_known xs x c = record {
  begins = begins_none xs;
  comes = λ y d. inl d;
  adds = λ y d. subst (λ (z : ℕ). Contains xs z) (one_in x y d) c;
}

pub adds_push : (xs : List ℕ) (x : ℕ) → Adds xs (xs ++ x ∷ []) (x ∷ [])
adds_push xs x = record {
  begins = begins_push xs x;
  comes = λ y c. Contains-append_cases xs (x ∷ []) y c;
  adds = λ y c. Contains-append_right xs (x ∷ []) y c;
}

pub adds_has : (xs : List ℕ) (p : ℕ) (b : Bool) → b ≡ list_any (λ q. eqb q p) xs → b ≡ true → Adds xs xs (p ∷ [])
adds_has xs p b is e = adds_known xs p (in_any xs p (sym is ∙ e))

adds_then : (a b c some more : List ℕ) → Adds a b some → Adds b c more → Adds a c (some ++ more)
adds_then a b c some more p q = record {
  begins = begins_then a b c p.begins q.begins;
  comes = λ x d. by_last x (q.comes x d);
  adds = λ x d. by_part x (Contains-append_cases some more x d);
}
  where
    by_first : (x : ℕ) → Contains a x ⊎ Contains some x → Contains a x ⊎ Contains (some ++ more) x
    by_first x (inl e) = inl e
    by_first x (inr e) = inr (Contains-append_left some more x e)

    by_last : (x : ℕ) → Contains b x ⊎ Contains more x → Contains a x ⊎ Contains (some ++ more) x
    by_last x (inl e) = by_first x (p.comes x e)
    by_last x (inr e) = inr (Contains-append_right some more x e)

    by_part : (x : ℕ) → Contains some x ⊎ Contains more x → Contains c x
    by_part x (inl e) = keeps b c q.begins x (p.adds x e)
    by_part x (inr e) = q.adds x e

pub adds_more : (old mid new pids : List ℕ) (i x : ℕ) → Adds old mid (take i pids) → Adds mid new (x ∷ []) → i < length pids → x ≡ get_or pids i 0
    → Adds old new (take (i + 1) pids)
adds_more old mid new pids i x p q l e =
    let one : take (i + 1) pids ≡ take i pids ++ x ∷ [] = take_more pids i 0 l ∙ ap (λ (y : ℕ). take i pids ++ y ∷ []) (sym e) in
    subst (λ (s : List ℕ). Adds old new s) (sym one) (adds_then old mid new (take i pids) (x ∷ []) p q)

pub adds_all : (old new pids : List ℕ) (i : ℕ) → Adds old new (take i pids) → length pids ≤ i → Adds old new pids
adds_all old new pids i p l = subst (λ (s : List ℕ). Adds old new s) (take_all i pids l) p

-- each once

pub with_known : (xs : List ℕ) (p : ℕ) (b : Bool) → b ≡ list_any (λ q. eqb q p) xs → b ≡ true → xs ≡ with_number xs p
with_known xs p b is e = sym (ap (λ (a : Bool). cond a xs (xs ++ p ∷ [])) (sym is ∙ e))

pub with_new : (xs new : List ℕ) (p : ℕ) (b : Bool) → b ≡ list_any (λ q. eqb q p) xs → b ≡ false → new ≡ xs ++ p ∷ [] → new ≡ with_number xs p
with_new xs new p b is e added = added ∙ sym (ap (λ (a : Bool). cond a xs (xs ++ p ∷ [])) (sym is ∙ e))

pub with_more : (old mid new pids : List ℕ) (i x : ℕ) → mid ≡ with_numbers old (take i pids) → new ≡ with_number mid x → i < length pids
    → x ≡ get_or pids i 0 → new ≡ with_numbers old (take (i + 1) pids)
with_more old mid new pids i x before is l e =
    is ∙ ap (λ (ns : List ℕ). with_number ns x) before
    ∙ ap (λ (y : ℕ). with_number (with_numbers old (take i pids)) y) e
    ∙ sym (fold_more with_number old pids i 0 l)

pub with_all : (old new pids : List ℕ) (i : ℕ) → new ≡ with_numbers old (take i pids) → length pids ≤ i → new ≡ with_numbers old pids
with_all old new pids i is l = is ∙ ap (λ (ns : List ℕ). with_numbers old ns) (take_all i pids l)

-- marks

false_or_true : (b : Bool) → b ≡ false → b ≡ true → ⊥
false_or_true b f t = false≢true (sym f ∙ t)

unmarked : (n p : ℕ) → get_or (replicate n false) p false ≡ false
unmarked n p = by_cases (cases_lt p n)
  where
    by_cases : (p < n) ⊎ (n ≤ p) → get_or (replicate n false) p false ≡ false
    by_cases (inl l) = get_or-replicate n p false false l
    by_cases (inr g) = get_or_past (replicate n false) p false (omega (arith, length-replicate {A = Bool} n false))

pub marked_none : (numbers : List ℕ) (marks : List Bool) (n : ℕ) → numbers ≡ [] → marks ≡ replicate n false → IsMarked numbers marks
marked_none numbers marks n e f = record {
  marked = λ p t. absurd (false_or_true _ (ap (λ (ms : List Bool). get_or ms p false) f ∙ unmarked n p) t);
  found = λ p l c. absurd (none_in p (subst (λ (ns : List ℕ). Contains ns p) e c));
}

pub marked_push : (numbers : List ℕ) (marks : List Bool) (p : ℕ) → IsMarked numbers marks → p < length marks
    → IsMarked (numbers ++ p ∷ []) (set marks p true)
marked_push numbers marks p m l = record {
  marked = λ q t. by_mark q (cases_eq q p) t;
  found = λ q g c. by_place q (omega (arith, g, length-set {A = Bool} marks p true)) (cases_eq q p) (Contains-push_cases numbers p q c);
}
  where
    by_mark : (q : ℕ) → (q ≡ p) ⊎ (q ≡ p → ⊥) → get_or (set marks p true) q false ≡ true → Contains (numbers ++ p ∷ []) q
    by_mark q (inl e) t = subst (λ (r : ℕ). Contains (numbers ++ p ∷ []) r) (sym e) (Contains-push numbers p)
    by_mark q (inr n) t = Contains-append_left numbers (p ∷ []) q (m.marked q (sym (get_or-set_other marks p q true false n) ∙ t))

    here : (q : ℕ) → q ≡ p → get_or (set marks p true) q false ≡ true
    here q e = ap (λ (r : ℕ). get_or (set marks p true) r false) e ∙ get_or-set_same marks p true false l

    by_place : (q : ℕ) → q < length marks → (q ≡ p) ⊎ (q ≡ p → ⊥) → Contains numbers q ⊎ (p ≡ q) → get_or (set marks p true) q false ≡ true
    by_place q g (inl e) c = here q e
    by_place q g (inr n) (inl c) = get_or-set_other marks p q true false n ∙ m.found q g c
    by_place q g (inr n) (inr e) = here q (sym e)

-- a number past all marks has none
pub marked_past : (numbers : List ℕ) (marks : List Bool) (p : ℕ) → IsMarked numbers marks → length marks ≤ p → IsMarked (numbers ++ p ∷ []) marks
marked_past numbers marks p m past = record {
  marked = λ q t. Contains-append_left numbers (p ∷ []) q (m.marked q t);
  found = λ q g c. by_place q g (Contains-push_cases numbers p q c);
}
  where
    by_place : (q : ℕ) → q < length marks → Contains numbers q ⊎ (p ≡ q) → get_or marks q false ≡ true
    by_place q g (inl c) = m.found q g c
    by_place q g (inr e) = absurd (omega (arith, g, past, e))

-- the mark of a number tells whether it is found
pub has_mark : (numbers : List ℕ) (marks : List Bool) (p : ℕ) (b : Bool) → IsMarked numbers marks → p < length marks → b ≡ get_or marks p b
    → b ≡ list_any (λ q. eqb q p) numbers
has_mark numbers marks p b k l is = by_mark b (is ∙ get_or_default marks p b false l)
  where
    by_any : (a : Bool) → list_any (λ q. eqb q p) numbers ≡ a → false ≡ get_or marks p false → false ≡ a
    by_any false e f = refl
    by_any true e f = absurd (false≢true (f ∙ k.found p l (in_any numbers p e)))

    by_mark : (a : Bool) → a ≡ get_or marks p false → a ≡ list_any (λ q. eqb q p) numbers
    by_mark true e = sym (any_in numbers p (k.marked p (sym e)))
    by_mark false e = by_any (list_any (λ q. eqb q p) numbers) refl e

-- what is reached

pub reaches_none : (step : ℕ → List ℕ) (first : ℕ) (old : List ℕ) → Reaches step first first old old
reaches_none step first old = record {
  begins = begins_none old;
  comes = λ x c. inl c;
  adds = λ j a b. absurd (omega arith);
}

pub reaches_more : (step : ℕ → List ℕ) (first at : ℕ) (old new newer some : List ℕ) → Reaches step first at old new → Adds new newer some
    → at < length old → some ≡ step (get_or new at 0) → Reaches step first (at + 1) old newer
reaches_more step first at old new newer some p q l is = record {
  begins = begins_then old new newer p.begins q.begins;
  comes = λ x c. by_last x (q.comes x c);
  adds = λ j a b x c. by_place j (let e : (j < at) ⊎ (j ≡ at) = grind arith in e) a x c;
}
  where
    same : some ≡ step (get_or old at 0)
    same = is ∙ ap step (p.begins.front at l)

    by_first : (x : ℕ) → Contains old x ⊎ ((j : ℕ) × (j < at) × Contains (step (get_or old j 0)) x)
        → Contains old x ⊎ ((j : ℕ) × (j < at + 1) × Contains (step (get_or old j 0)) x)
    by_first x (inl e) = inl e
    by_first x (inr e) = inr (e.0, (let h = e.1 in omega arith), e.2)

    by_last : (x : ℕ) → Contains new x ⊎ Contains some x → Contains old x ⊎ ((j : ℕ) × (j < at + 1) × Contains (step (get_or old j 0)) x)
    by_last x (inl e) = by_first x (p.comes x e)
    by_last x (inr e) = inr (at, (omega arith), subst (λ (s : List ℕ). Contains s x) same e)

    by_place : (j : ℕ) → (j < at) ⊎ (j ≡ at) → first ≤ j → (x : ℕ) → Contains (step (get_or old j 0)) x → Contains newer x
    by_place j (inl h) a x c = keeps new newer q.begins x (p.adds j a h x c)
    by_place j (inr e) a x c =
        q.adds x (subst (λ (s : List ℕ). Contains s x) (sym same) (subst (λ (k : ℕ). Contains (step (get_or old k 0)) x) e c))

-- rounds

-- the numbers are those that are reached from p with at most n between, and what is reached from those before a place is among them
pub record Round (step : ℕ → List ℕ) (p n first : ℕ) (numbers : List ℕ) : Type 0 where
  pub comes : (x : ℕ) → Contains numbers x → Contains (through step n p) x
  pub all : (x : ℕ) → Contains (through step n p) x → Contains numbers x
  pub closed : (j : ℕ) → j < first → (x : ℕ) → Contains (step (get_or numbers j 0)) x → Contains numbers x
  pub within : first ≤ length numbers

pub round_first : (step : ℕ → List ℕ) (p : ℕ) (none new some given : List ℕ) → Adds none new some → none ≡ [] → some ≡ given → given ≡ step p
    → Round step p 0 0 new
unfolding through
round_first step p none new some given q empty same is = record {
  comes = λ x c. by_part x (q.comes x c);
  all = λ x c. q.adds x (subst (λ (s : List ℕ). Contains s x) (sym (same ∙ is)) c);
  closed = λ j h. absurd (omega arith);
  within = omega arith;
}
  where
    by_part : (x : ℕ) → Contains none x ⊎ Contains some x → Contains (step p) x
    by_part x (inl c) = absurd (none_in x (subst (λ (s : List ℕ). Contains s x) empty c))
    by_part x (inr c) = subst (λ (s : List ℕ). Contains s x) (same ∙ is) c

pub round_next : (step : ℕ → List ℕ) (p n first stop : ℕ) (old new : List ℕ) → Round step p n first old
    → Reaches step first stop old new → stop ≡ length old → Round step p (n + 1) stop new
unfolding through
round_next step p n first stop old new r q is = subst (λ (m : ℕ). Round step p m stop new) (let e : suc n ≡ n + 1 = omega arith in e) next
  where
    at : (y : ℕ) → (c : Contains old y) → get_or old c.0 0 ≡ y
    at y c = get_or_default old c.0 0 y c.1 ∙ c.2

    by_old : (x : ℕ) → Contains old x ⊎ ((j : ℕ) × (j < stop) × Contains (step (get_or old j 0)) x)
        → Contains (through step n p ++ flat_map step (through step n p)) x
    by_old x (inl c) = Contains-append_left (through step n p) _ x (r.comes x c)
    by_old x (inr c) =
        let l : c.0 < length old = (let h = c.1 in omega (arith, is)) in
        Contains-append_right (through step n p) _ x
        (flat_map_in step (through step n p) (get_or old c.0 0) x (r.comes _ (Contains-get_or old c.0 0 l)) c.2)

    by_step : (j : ℕ) → j < stop → (x : ℕ) → Contains (step (get_or old j 0)) x → Contains new x
    by_step j h x c = by_cases (cases_lt j first)
      where
        by_cases : (j < first) ⊎ (first ≤ j) → Contains new x
        by_cases (inl l) = keeps old new q.begins x (r.closed j l x c)
        by_cases (inr g) = q.adds j g h x c

    by_through : (x : ℕ) → Contains (through step n p) x ⊎ Contains (flat_map step (through step n p)) x → Contains new x
    by_through x (inl c) = keeps old new q.begins x (r.all x c)
    by_through x (inr c) =
        let f = flat_map_from step (through step n p) x c in
        let o : Contains old f.0 = r.all f.0 f.1 in
        let l : o.0 < stop = (let h = o.1 in omega (arith, is)) in
        by_step o.0 l x (subst (λ (y : ℕ). Contains (step y) x) (sym (at f.0 o)) f.2)

    next : Round step p (suc n) stop new
    next = record {
      comes = λ x c. by_old x (q.comes x c);
      all = λ x c. by_through x (Contains-append_cases (through step n p) (flat_map step (through step n p)) x c);
      closed = λ j h x c. by_step j h x (subst (λ (y : ℕ). Contains (step y) x) (q.begins.front j (omega (arith, is))) c);
      within = omega (arith, is, q.begins.longer);
    }

pub ruleset finding =
    (adds_none, adds_known, adds_push, adds_more, adds_all, with_known, with_new, with_more, with_all, marked_none, marked_push, marked_past)

pub ruleset reaching = (reaches_none, reaches_more, round_first, round_next)
