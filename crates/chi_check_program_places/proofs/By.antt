-- What tests and parts in turn come to, without places, where what is made has lost something too.
use Rattle.std.proofs.Common.{◌≡◌, ℕ, List, [], ◌∷◌, ◌++◌, map, Option, Some, None, refl, ap, sym, ◌∙◌}
use Rattle.std.specs.Prelude.{option_map}
use Rattle.std.proofs.lemmas.List.{map-append}
use Rattle.chi_token.specs.declared.place.Place.{Place}
use Rattle.chi_tree.specs.View.{nowhere}
use Rattle.chi_check_types.specs.declared.fault.Fault.{Fault}
use Rattle.chi_check_types.specs.Typed.{Typed, unless, after}
use Rattle.chi_check_expr_rules.specs.Nodes.{settled, of_one, of_two, barred}
use Rattle.chi_check.specs.Below.chi_check_stat_lines.specs.Stated.{Stated, Turn, both, joined, in_order, in_turn, one, alone, preceded, held_by}
use Rattle.chi_check_places.specs.UnplacedTyped.{unplaced_fault, unplaced_faults}
use Rattle.chi_check_places.proofs.Faults.{faults-append}

-- what is made is changed by a function
abbrev pub typed_by : {A : Type 0} → (A → A) → Typed A → Typed A
typed_by g t = record { faults = unplaced_faults t.faults; made = option_map g t.made }

abbrev pub stated_by : {S A : Type 0} → (A → A) → Stated S A → Stated S A
stated_by g t = record { next = t.next; faults = unplaced_faults t.faults; made = option_map g t.made }

-- what is made is the same
abbrev pub unplaced_stated : {S A : Type 0} → Stated S A → Stated S A
unplaced_stated t = record { next = t.next; faults = unplaced_faults t.faults; made = t.made }

abbrev pub turn_by : {S A : Type 0} → (A → A) → Turn S A → Turn S A
turn_by f t s = stated_by (map f) (t s)

abbrev pub unplaced_turn : {S A : Type 0} → Turn S A → Turn S A
unplaced_turn t s = unplaced_stated (t s)

-- ---- what may be there

module _ {X A : Type 0} (g : A → A) (h' h : X → A) (same : (x : X) → h' x ≡ g (h x)) where
  pub mapped : (o : Option X) → option_map h' o ≡ option_map g (option_map h o)
  mapped None = refl
  mapped (Some x) = ap Some (same x)

module _ {X Y A : Type 0} (g : A → A) where
  pub both-plain : (h' h : X → Y → A) → ((x : X) (y : Y) → h' x y ≡ g (h x y)) → (a : Option X) (b : Option Y) → both h' a b ≡ option_map g (both h a b)
  both-plain h' h same None b = refl
  both-plain h' h same (Some x) None = refl
  both-plain h' h same (Some x) (Some y) = ap Some (same x y)

  pub both-second : (q : Y → Y) (h' h : X → Y → A) → ((x : X) (y : Y) → h' x (q y) ≡ g (h x y)) → (a : Option X) (b : Option Y) → both h' a (option_map q b) ≡ option_map g (both h a b)
  both-second q h' h same None b = refl
  both-second q h' h same (Some x) None = refl
  both-second q h' h same (Some x) (Some y) = ap Some (same x y)

  pub both-mapped : (p : X → X) (q : Y → Y) (h' h : X → Y → A) → ((x : X) (y : Y) → h' (p x) (q y) ≡ g (h x y)) → (a : Option X) (b : Option Y)
      → both h' (option_map p a) (option_map q b) ≡ option_map g (both h a b)
  both-mapped p q h' h same None b = refl
  both-mapped p q h' h same (Some x) None = refl
  both-mapped p q h' h same (Some x) (Some y) = ap Some (same x y)

-- ---- rules

module _ {A : Type 0} (g : A → A) where
  pub unless-by : (fs : List Fault) (a : A) → unless (unplaced_faults fs) (g a) ≡ typed_by g (unless fs a)
  unless-by [] a = refl
  unless-by (f ∷ fs) a = refl

  pub after-by : (fs : List Fault) (t : Typed A) {fs' : List Fault} {t' : Typed A} → fs' ≡ unplaced_faults fs → t' ≡ typed_by g t → after fs' t' ≡ typed_by g (after fs t)
  after-by fs t r s = (λ i. after (r i) (s i)) ∙ (λ i. record { faults = faults-append fs t.faults i; made = option_map g t.made })

  barred-of : (fs : List Fault) (t : Typed A) → barred (unplaced_faults fs) (typed_by g t) ≡ typed_by g (barred fs t)
  barred-of [] t = refl
  barred-of (f ∷ fs) t = λ i. record { faults = unplaced_fault f ∷ faults-append fs t.faults i; made = None }

  pub barred-by : (fs : List Fault) (t : Typed A) {fs' : List Fault} {t' : Typed A} → fs' ≡ unplaced_faults fs → t' ≡ typed_by g t → barred fs' t' ≡ typed_by g (barred fs t)
  barred-by fs t r s = (λ i. barred (r i) (s i)) ∙ barred-of fs t

  pub settled-by : (rule : ℕ) (place : Place) (o : Option A) → settled rule nowhere (option_map g o) ≡ typed_by g (settled rule place o)
  settled-by rule place None = refl
  settled-by rule place (Some a) = refl

module _ {X A : Type 0} (g : A → A) where
  pub one-by : (rule : ℕ) (place : Place) (f' f : X → Option A) → ((x : X) → f' x ≡ option_map g (f x)) → (o : Option X) → of_one rule nowhere f' o ≡ typed_by g (of_one rule place f o)
  one-by rule place f' f same None = refl
  one-by rule place f' f same (Some x) = ap (settled rule nowhere) (same x) ∙ settled-by g rule place (f x)

module _ {X Y A : Type 0} (g : A → A) where
  pub two-by : (rule : ℕ) (place : Place) (f' f : X → Y → Option A) → ((x : X) (y : Y) → f' x y ≡ option_map g (f x y)) → (a : Option X) (b : Option Y)
      → of_two rule nowhere f' a b ≡ typed_by g (of_two rule place f a b)
  two-by rule place f' f same None b = refl
  two-by rule place f' f same (Some x) None = refl
  two-by rule place f' f same (Some x) (Some y) = ap (settled rule nowhere) (same x y) ∙ settled-by g rule place (f x y)

-- ---- what comes in turn

module _ {S A : Type 0} where
  pub in-turn-unplaced : (ts : List (Turn S A)) (s : S) → in_turn (map unplaced_turn ts) s ≡ unplaced_stated (in_turn ts s)
  in-turn-unplaced [] s = refl
  in-turn-unplaced (t ∷ ts) s =
      let first = t s in
      let more = in_turn ts first.next in
      (λ i. in_order (unplaced_stated first) (λ n. in-turn-unplaced ts n i))
      ∙ (λ i. record { next = more.next; faults = faults-append first.faults more.faults i; made = joined first.made more.made })

  pub held-unplaced : (fs : List Fault) (t : Stated S A) → held_by (unplaced_faults fs) (unplaced_stated t) ≡ unplaced_stated (held_by fs t)
  held-unplaced [] t = refl
  held-unplaced (f ∷ fs) t = λ i. record { next = t.next; faults = unplaced_fault f ∷ faults-append fs t.faults i; made = None }

module _ {A : Type 0} (f : A → A) where
  joined-by : (a b : Option (List A)) → joined (option_map (map f) a) (option_map (map f) b) ≡ option_map (map f) (joined a b)
  joined-by None b = refl
  joined-by (Some xs) None = refl
  joined-by (Some xs) (Some ys) = ap Some (sym (map-append f xs ys))

  pub one-mapped : (o : Option A) → one (option_map f o) ≡ option_map (map f) (one o)
  one-mapped None = refl
  one-mapped (Some a) = refl

module _ {S A : Type 0} (f : A → A) where
  pub in-turn-by : (ts : List (Turn S A)) (s : S) → in_turn (map (turn_by f) ts) s ≡ stated_by (map f) (in_turn ts s)
  in-turn-by [] s = refl
  in-turn-by (t ∷ ts) s =
      let first = t s in
      let more = in_turn ts first.next in
      (λ i. in_order (stated_by (map f) first) (λ n. in-turn-by ts n i))
      ∙ (λ i. record { next = more.next; faults = faults-append first.faults more.faults i; made = joined-by f first.made more.made i })

  pub alone-by : (s : S) (t : Typed A) {t' : Typed A} → t' ≡ typed_by f t → alone s t' ≡ stated_by (map f) (alone s t)
  alone-by s t r = (λ i. alone s (r i)) ∙ (λ i. record { next = s; faults = unplaced_faults t.faults; made = one-mapped f t.made i })

module _ {S A : Type 0} (g : A → A) where
  held-of : (fs : List Fault) (t : Stated S A) → held_by (unplaced_faults fs) (stated_by g t) ≡ stated_by g (held_by fs t)
  held-of [] t = refl
  held-of (f ∷ fs) t = λ i. record { next = t.next; faults = unplaced_fault f ∷ faults-append fs t.faults i; made = None }

  pub held-by : (fs : List Fault) (t : Stated S A) {fs' : List Fault} {t' : Stated S A} → fs' ≡ unplaced_faults fs → t' ≡ stated_by g t → held_by fs' t' ≡ stated_by g (held_by fs t)
  held-by fs t r s = (λ i. held_by (r i) (s i)) ∙ held-of fs t

  pub preceded-by : (fs : List Fault) (t : Stated S A) {t' : Stated S A} → t' ≡ stated_by g t → preceded (unplaced_faults fs) t' ≡ stated_by g (preceded fs t)
  preceded-by fs t s = (λ i. preceded (unplaced_faults fs) (s i)) ∙ (λ i. record { next = t.next; faults = faults-append fs t.faults i; made = option_map g t.made })

-- ---- one part and another after it

abbrev pub stated_of : {S A : Type 0} → (Option A → Option A) → Stated S A → Stated S A
stated_of m t = record { next = t.next; faults = unplaced_faults t.faults; made = m t.made }

abbrev pub sequence : {S X Y A : Type 0} → (Option X → Option Y → Option A) → Stated S X → (S → Stated S Y) → Stated S A
sequence k first rest =
    let more = rest first.next in
    record { next = more.next; faults = first.faults ++ more.faults; made = k first.made more.made }

module _ {S X Y A : Type 0} (p : Option X → Option X) (q : Option Y → Option Y) (m : Option A → Option A) where
  pub sequence-of : (k' k : Option X → Option Y → Option A) → ((a : Option X) (b : Option Y) → k' (p a) (q b) ≡ m (k a b)) → (first : Stated S X) (rest : S → Stated S Y)
      {first' : Stated S X} {rest' : S → Stated S Y} → first' ≡ stated_of p first → ((s : S) → rest' s ≡ stated_of q (rest s))
      → sequence k' first' rest' ≡ stated_of m (sequence k first rest)
  sequence-of k' k same first rest h r =
      let more = rest first.next in
      (λ i. sequence k' (h i) (λ s. r s i))
      ∙ (λ i. record { next = more.next; faults = faults-append first.faults more.faults i; made = same first.made more.made i })
