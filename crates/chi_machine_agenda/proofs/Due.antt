-- The least due time of all offers, where nobody has an option.
use Rattle.std.proofs.Common.{◌≡◌, ℕ, zero, suc, ◌+◌, ◌<◌, ℤ, List, [], ◌∷◌, ◌++◌, Option, Some, None, Bool, true, false, cond, map, length, ◌⊎◌, inl, inr, sym, ◌∙◌, ap, subst, refl, arith}
use Rattle.std.proofs.lemmas.Int.{ints}
use Rattle.std.specs.Prelude.{int_lt, MatchOption}
use Rattle.std.specs.List.{slice_get, flat_map}
use Rattle.chi_core.specs.Config.{Instance, offers_in}
use Rattle.chi_core.specs.Meeting.{due_in, due_times, earlier, least_time, next_due}
use Rattle.chi_chan.specs.declared.offers.Offer.{Offer}
use Rattle.chi_chan.specs.declared.offers.Offer.TheVariants.{Send, Receive, Delay}
use Rattle.chi_chan.specs.Held.{Offered, held}
use Rattle.chi_chan.specs.Kept.{offer_in, offers_or}
use Rattle.chi_order.specs.Dated.{due_of, IsLeast, NoneDue}
use Rattle.chi_machine_agenda.specs.declared.joining.Joins.{Joins}
use Rattle.chi_machine_agenda.specs.declared.standing.Standing.{Standing}
use Rattle.chi_machine_agenda.specs.declared.standing.Standing.TheVariants as stands
use Rattle.chi_machine_agenda.specs.Joined.{numbers_at}
use Rattle.chi_machine_agenda.specs.Kept.{phase_by, phases_from, goes, IsKept}
use Rattle.chi_machine_agenda.specs.Phases.{reached}
use Rattle.chi_machine_agenda.specs.Timed.{Awaits, Moves, stays, goes_on}
use Rattle.chi_machine_agenda.specs.Reading.{offer_of, state_of, instance_of}
use Rattle.chi_machine_agenda.proofs.Advancing.{awaited-least, awaited-there, held-waits, kept-later}
use Rattle.chi_machine_agenda.proofs.Options.{agenda, its}
use Rattle.chi_machine_agenda.proofs.Seats.{waits-within}
use Rattle.chi_machine_agenda.proofs.Times.{none-awaited, none-before}

-- a time is in a list
abbrev Among : ℤ → List ℤ → Type 0
Among t [] = ⊥
Among t (x ∷ xs) = (x ≡ t) ⊎ Among t xs

among-either : (t : ℤ) (xs ys : List ℤ) → Among t (xs ++ ys) → Among t xs ⊎ Among t ys
among-either t [] ys h = inr h
among-either t (x ∷ xs) ys (inl e) = inl (inl e)
among-either t (x ∷ xs) ys (inr h) = further (among-either t xs ys h)
  where
    further : Among t xs ⊎ Among t ys → Among t (x ∷ xs) ⊎ Among t ys
    further (inl g) = inl (inr g)
    further (inr g) = inr g

among-left : (t : ℤ) (xs ys : List ℤ) → Among t xs → Among t (xs ++ ys)
among-left t [] ys h = absurd h
among-left t (x ∷ xs) ys (inl e) = inl e
among-left t (x ∷ xs) ys (inr h) = inr (among-left t xs ys h)

among-right : (t : ℤ) (xs ys : List ℤ) → Among t ys → Among t (xs ++ ys)
among-right t [] ys h = h
among-right t (x ∷ xs) ys h = inr (among-right t xs ys h)

-- the least of a list

record IsLeastOf (t : ℤ) (xs : List ℤ) : Type 0 where
  there : Among t xs
  least : (u : ℤ) → Among u xs → int_lt u t ≡ false

same-time : (t u : ℤ) → int_lt t u ≡ false → int_lt u t ≡ false → t ≡ u
same-time t u a b = grind (arith, ints)

-- it is in the list
least-there : (xs : List ℤ) (v : ℤ) → least_time xs ≡ Some v → Among v xs
least-there [] v g = absurd (cc)
least-there (y ∷ ys) v g = by_last (least_time ys) refl g (least-there ys)
  where
    by_last : (o : Option ℤ) → least_time ys ≡ o → earlier y o ≡ Some v → ((u : ℤ) → least_time ys ≡ Some u → Among u ys) → Among v (y ∷ ys)
    by_last None h k r = inl (cc)
    by_last (Some u) h k r = by_test (int_lt u y) refl k
      where
        by_test : (b : Bool) → int_lt u y ≡ b → Some (cond b u y) ≡ Some v → Among v (y ∷ ys)
        by_test true m n = let same : u ≡ v = cc in inr (subst (λ (z : ℤ). Among z ys) same (r u h))
        by_test false m n = inl (cc)

least-is : (xs : List ℤ) (t : ℤ) → IsLeastOf t xs → least_time xs ≡ Some t
least-is [] t l = absurd l.there
least-is (x ∷ xs) t l = by_rest (least_time xs) refl (least-is xs)
  where
    by_rest : (w : Option ℤ) → least_time xs ≡ w → ((u : ℤ) → IsLeastOf u xs → least_time xs ≡ Some u) → earlier x (least_time xs) ≡ Some t
    by_rest w e rest = by_there l.there
      where
        by_there : Among t (x ∷ xs) → earlier x (least_time xs) ≡ Some t
        by_there (inl same) = ap (earlier x) e ∙ by_last w e
          where
            by_last : (o : Option ℤ) → least_time xs ≡ o → earlier x o ≡ Some t
            by_last None h = ap Some same
            by_last (Some u) h =
                let g : int_lt u t ≡ false = l.least u (inr (least-there xs u h)) in
                ap (λ b. Some (cond b u x)) (ap (int_lt u) same ∙ g) ∙ ap Some same
        by_there (inr h) =
            let r = rest t (record { there = h; least = λ u g. l.least u (inr g) }) in
            ap (earlier x) r ∙ by_test (int_lt t x) refl
          where
            by_test : (b : Bool) → int_lt t x ≡ b → Some (cond b t x) ≡ Some t
            by_test true g = refl
            by_test false g = ap Some (same-time x t (l.least x (inl refl)) g)

no-times : (xs : List ℤ) → ((t : ℤ) → Among t xs → ⊥) → least_time xs ≡ None
no-times [] h = refl
no-times (x ∷ xs) h = absurd (h x (inl refl))

-- due times of offers

of-offers : (t : ℤ) (os : List Offer) → Among t (flat_map (λ o. due_in o.act) (map offer_of os)) → (b : ℕ) × (slice_get os b ≡ Some (Delay t))
of-offers t [] h = absurd h
of-offers t (Send c ∷ os) h = let r = of-offers t os h in (suc r.0, r.1)
of-offers t (Receive c ∷ os) h = let r = of-offers t os h in (suc r.0, r.1)
of-offers t (Delay d ∷ os) (inl e) = (0, (ap (λ x. Some (Delay x)) e))
of-offers t (Delay d ∷ os) (inr h) = let r = of-offers t os h in (suc r.0, r.1)

offers-of : (t : ℤ) (os : List Offer) (b : ℕ) → slice_get os b ≡ Some (Delay t) → Among t (flat_map (λ o. due_in o.act) (map offer_of os))
offers-of t [] b e = absurd (cc)
offers-of t (o ∷ os) zero e = by_offer o (cc)
  where
    by_offer : (o : Offer) → o ≡ Delay t → Among t (due_in (offer_of o).act ++ flat_map (λ o. due_in o.act) (map offer_of os))
    by_offer (Send c) g = absurd (cc)
    by_offer (Receive c) g = absurd (cc)
    by_offer (Delay d) g = inl (cc)
offers-of t (o ∷ os) (suc b) e = among-right t (due_in (offer_of o).act) (flat_map (λ o. due_in o.act) (map offer_of os)) (offers-of t os b e)

abbrev dues_of : List Instance → List ℤ
dues_of is = flat_map (λ i. flat_map (λ o. due_in o.act) (offers_in i.state)) is

of-phase : (t : ℤ) (s : Standing) (w : Option (List Offer)) (own : List ℕ) → Among t (flat_map (λ o. due_in o.act) (offers_in (state_of (phase_by s w own))))
    → (b : ℕ) × (offer_in w b ≡ Some (Delay t))
of-phase t stands.Running w own h = absurd h
of-phase t stands.Waiting None own h = absurd h
of-phase t stands.Waiting (Some os) own h = of-offers t os h
of-phase t stands.Joining w own h = absurd h
of-phase t stands.Finished w own h = absurd h

of-all : (t : ℤ) (old : Offered) (rows : List (List ℕ)) (a : ℕ) (ss : List Standing) → Among t (dues_of (map instance_of (phases_from a ss old rows)))
    → (q b : ℕ) × (offer_in (held old q) b ≡ Some (Delay t))
of-all t old rows a [] h = absurd h
of-all t old rows a (s ∷ ss) h =
    by_either (among-either t (flat_map (λ o. due_in o.act) (offers_in (state_of (phase_by s (held old a) (numbers_at rows a))))) (dues_of (map instance_of (phases_from (suc a) ss old rows))) h)
    (of-all t old rows (suc a) ss)
  where
    by_either : Among t (flat_map (λ o. due_in o.act) (offers_in (state_of (phase_by s (held old a) (numbers_at rows a))))) ⊎ Among t (dues_of (map instance_of (phases_from (suc a) ss old rows)))
        → (Among t (dues_of (map instance_of (phases_from (suc a) ss old rows))) → (q b : ℕ) × (offer_in (held old q) b ≡ Some (Delay t)))
        → (q b : ℕ) × (offer_in (held old q) b ≡ Some (Delay t))
    by_either (inl g) rest = let f = of-phase t s (held old a) (numbers_at rows a) g in (a, f.0, f.1)
    by_either (inr g) rest = rest g

phase-of : (t : ℤ) (w : Option (List Offer)) (b : ℕ) → offer_in w b ≡ Some (Delay t) → Among t (flat_map (λ o. due_in o.act) (map offer_of (offers_or w)))
phase-of t None b e = absurd (cc)
phase-of t (Some os) b e = offers-of t os b e

all-of : (t : ℤ) (old : Offered) (rows : List (List ℕ)) (a : ℕ) (ss : List Standing) (q b : ℕ) → slice_get ss q ≡ Some stands.Waiting → offer_in (held old (a + q)) b ≡ Some (Delay t)
    → Among t (dues_of (map instance_of (phases_from a ss old rows)))
all-of t old rows a [] q b w e = absurd (cc)
all-of t old rows a (s ∷ ss) zero b w e =
    let same : stands.Waiting ≡ s = cc in
    let z : a + 0 ≡ a = omega arith in
    among-left t (flat_map (λ o. due_in o.act) (offers_in (state_of (phase_by s (held old a) (numbers_at rows a))))) (dues_of (map instance_of (phases_from (suc a) ss old rows)))
    (subst (λ (x : Standing). Among t (flat_map (λ o. due_in o.act) (offers_in (state_of (phase_by x (held old a) (numbers_at rows a)))))) same
    (phase-of t (held old a) b (sym (ap (λ n. offer_in (held old n) b) z) ∙ e)))
all-of t old rows a (s ∷ ss) (suc q) b w e =
    let z : suc a + q ≡ a + suc q = omega arith in
    among-right t (flat_map (λ o. due_in o.act) (offers_in (state_of (phase_by s (held old a) (numbers_at rows a))))) (dues_of (map instance_of (phases_from (suc a) ss old rows)))
    (all-of t old rows (suc a) ss q b w (ap (λ n. offer_in (held old n) b) z ∙ e))

-- there is room for each that has a due time
pub due-room : (clock : ℤ) (until : Option ℤ) (ss : List Standing) (ended : List Bool) (old : Offered) (marks : List Bool) (times : List (Option ℤ)) (joins : Joins)
    → IsKept clock ss ended old marks times joins.numbers joins.left.items joins.watchers → (p : ℕ) (due : ℤ) → due_of times p ≡ Some due → p < length marks
due-room clock until ss ended old marks times joins is p due e = by_held (held old p) refl
  where
    by_held : (w : Option (List Offer)) → held old p ≡ w → p < length marks
    by_held None h =
        let z : due_of times p ≡ None = none-awaited clock (due_of times p) (subst (λ (x : Option (List Offer)). Awaits clock x (due_of times p)) h (is.due p)) in
        absurd (let y : None ≡ Some due = sym z ∙ e in cc)
    by_held (Some os) h =
        let l = waits-within clock ss ended old marks times joins.numbers joins.left.items joins.watchers is p os h in
        let r = is.room.ready in
        omega (arith, l, r)

module _ (clock : ℤ) (until : Option ℤ) (ss : List Standing) (ended : List Bool) (old : Offered) (marks : List Bool) (times : List (Option ℤ)) (joins : Joins)
    (is : IsKept clock ss ended old marks times joins.numbers joins.left.items joins.watchers)
    (none : (q : ℕ) → goes old clock joins.left.items q (slice_get ss q) ≡ false) where
  abbrev all : List ℤ
  all = due_times (its clock until ss ended old marks times joins is)

  -- what an offer is due is at least as late as what is awaited
  late : (u : ℤ) → Among u all → (q : ℕ) × (v : ℤ) × (due_of times q ≡ Some v) × (int_lt u v ≡ false)
  late u h =
      let f = of-all u old joins.numbers 0 ss h in
      let l = awaited-least clock ss ended old marks times joins.numbers joins.left.items joins.watchers is none f.0 f.1 u (due_of times f.0) (is.due f.0) f.2 in
      (f.0, l.0, l.1, l.2)

  pub next-none : NoneDue times → next_due (its clock until ss ended old marks times joins is) ≡ None
  next-none n = no-times all (λ t h. let l = late t h in let z : None ≡ Some l.1 = sym (n l.0) ∙ l.2 in cc)

  pub next-some : (t : ℤ) (x : ℕ) → IsLeast times t x → next_due (its clock until ss ended old marks times joins is) ≡ Some t
  next-some t x l = least-is all t (record { there = there; least = least })
    where
      at : (a : ℕ) × (offer_in (held old x) a ≡ Some (Delay t))
      at = awaited-there clock ss ended old marks times joins.numbers joins.left.items joins.watchers is none x t (due_of times x) (is.due x) l.is_due

      there : Among t all
      there =
          let z : 0 + x ≡ x = omega arith in
          all-of t old joins.numbers 0 ss x at.0 (held-waits clock ss ended old marks times joins.numbers joins.left.items joins.watchers is none x at.0 (Delay t) at.1)
          (ap (λ n. offer_in (held old n) at.0) z ∙ at.1)

      least : (u : ℤ) → Among u all → int_lt u t ≡ false
      least u h =
          let f = late u h in
          let order = (l.least f.0 f.1 f.2).times in
          let before : int_lt f.1 t ≡ false = grind (arith, ints) in
          none-before t f.1 u before f.3

  pub next-is : (w : Option ℤ) → MatchOption w (NoneDue times) (λ t. (p : ℕ) × IsLeast times t p) → next_due (its clock until ss ended old marks times joins is) ≡ w
  next-is None h = next-none h
  next-is (Some t) h = next-some t h.0 h.1

  -- the time goes on

  pub kept-moved : (clock' : ℤ) (marks' : List Bool) (times' : List (Option ℤ)) → Moves clock marks times clock' marks' times'
      → IsKept clock' ss ended old marks' times' joins.numbers joins.left.items joins.watchers
  kept-moved clock' marks' times' (stays n a b c) =
      subst (λ (t : ℤ). IsKept t ss ended old marks' times' joins.numbers joins.left.items joins.watchers) (sym a)
      (subst (λ (m : List Bool). IsKept clock ss ended old m times' joins.numbers joins.left.items joins.watchers) (sym b)
      (subst (λ (ts : List (Option ℤ)). IsKept clock ss ended old marks ts joins.numbers joins.left.items joins.watchers) (sym c) is))
  kept-moved clock' marks' times' (goes_on p l w a b) =
      kept-later clock ss ended old marks times joins.numbers joins.left.items joins.watchers is none clock' marks' times' w a b

  pub moved-to : (clock' : ℤ) (marks' : List Bool) (times' : List (Option ℤ)) → Moves clock marks times clock' marks' times'
      → record { clock = clock'; until = until; phases = phases_from 0 ss old joins.numbers } ≡ reached (agenda clock until ss ended old marks times joins is) (next_due (its clock until ss ended old marks times joins is))
  moved-to clock' marks' times' (stays n a b c) =
      (λ j. record { clock = a j; until = until; phases = phases_from 0 ss old joins.numbers })
      ∙ sym (ap (reached (agenda clock until ss ended old marks times joins is)) (next-none n))
  moved-to clock' marks' times' (goes_on p l w a b) = sym (ap (reached (agenda clock until ss ended old marks times joins is)) (next-some clock' p l))
