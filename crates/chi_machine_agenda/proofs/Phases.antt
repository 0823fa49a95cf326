-- Phases, by what is kept of them.
use Rattle.std.proofs.Common.{◌≡◌, ◌≢◌, ℕ, zero, suc, ◌+◌, ◌<◌, List, [], ◌∷◌, ◌++◌, Option, Some, None, Bool, true, false, length, ◌⊎◌, inl, inr, sym, ◌∙◌, ap, subst, refl, arith}
use Rattle.std.specs.Prelude.{slice_set, map, option_map, IsSome}
use Rattle.std.specs.List.{slice_get}
use Rattle.chi_chan.specs.declared.offers.Offer.{Offer}
use Rattle.chi_chan.specs.Held.{Offered, held, SameOffers}
use Rattle.chi_chan.specs.Kept.{offers_or}
use Rattle.chi_machine_agenda.specs.declared.standing.Standing.{Standing}
use Rattle.chi_machine_agenda.specs.declared.standing.Standing.TheVariants as stands
use Rattle.chi_machine_agenda.specs.Joined.{numbers_at, SameRows}
use Rattle.chi_machine_agenda.specs.Kept.{phase_by, phase_at, phases_from, is_finished, IsSeated, is_waiting}
use Rattle.chi_machine_agenda.specs.Phases.{Phase, Running, Waiting, are_over, is_over, waits, IsJoining}
use Rattle.chi_machine_agenda.proofs.Lists.{eq-cases, same-list, set-there, set-other, push-there, push-other}

phases-get : (offered : Offered) (rows : List (List ℕ)) (a : ℕ) (ss : List Standing) (q : ℕ)
    → slice_get (phases_from a ss offered rows) q ≡ option_map (λ s. phase_by s (held offered (a + q)) (numbers_at rows (a + q))) (slice_get ss q)
phases-get offered rows a [] q = refl
phases-get offered rows a (s ∷ ss) zero = let z : a ≡ a + 0 = omega arith in λ j. Some (phase_by s (held offered (z j)) (numbers_at rows (z j)))
phases-get offered rows a (s ∷ ss) (suc q) =
    let z : suc a + q ≡ a + suc q = omega arith in
    phases-get offered rows (suc a) ss q ∙ (λ j. option_map (λ s. phase_by s (held offered (z j)) (numbers_at rows (z j))) (slice_get ss q))

pub phases-at : (ss : List Standing) (offered : Offered) (rows : List (List ℕ)) (q : ℕ) → slice_get (phases_from 0 ss offered rows) q ≡ phase_at ss offered rows q
phases-at ss offered rows q =
    let z : 0 + q ≡ q = omega arith in
    phases-get offered rows 0 ss q ∙ (λ j. option_map (λ s. phase_by s (held offered (z j)) (numbers_at rows (z j))) (slice_get ss q))

pub phases-length : (a : ℕ) (ss : List Standing) (offered : Offered) (rows : List (List ℕ)) → length (phases_from a ss offered rows) ≡ length ss
phases-length a [] offered rows = refl
phases-length a (s ∷ ss) offered rows = ap suc (phases-length (suc a) ss offered rows)

-- how one stands, by its phase

runs-by : (o : Option Standing) (w : Option (List Offer)) (own : List ℕ) → option_map (λ s. phase_by s w own) o ≡ Some Running → o ≡ Some stands.Running
runs-by None w own e = absurd (cc)
runs-by (Some stands.Running) w own e = refl
runs-by (Some stands.Waiting) w own e = absurd (cc)
runs-by (Some stands.Joining) w own e = absurd (cc)
runs-by (Some stands.Finished) w own e = absurd (cc)

pub phase-runs : (ss : List Standing) (offered : Offered) (rows : List (List ℕ)) (p : ℕ) → slice_get (phases_from 0 ss offered rows) p ≡ Some Running → slice_get ss p ≡ Some stands.Running
phase-runs ss offered rows p e = runs-by (slice_get ss p) (held offered p) (numbers_at rows p) (sym (phases-at ss offered rows p) ∙ e)

waits-by : (o : Option Standing) (w : Option (List Offer)) (own : List ℕ) (os : List Offer) → option_map (λ s. phase_by s w own) o ≡ Some (Waiting os) → (o ≡ Some stands.Waiting) × (offers_or w ≡ os)
waits-by None w own os e = absurd (cc)
waits-by (Some stands.Running) w own os e = absurd (cc)
waits-by (Some stands.Waiting) w own os e = let f : Waiting (offers_or w) ≡ Waiting os = cc in (refl, cc)
waits-by (Some stands.Joining) w own os e = absurd (cc)
waits-by (Some stands.Finished) w own os e = absurd (cc)

some-held : (w : Option (List Offer)) (os : List Offer) → IsSome w → offers_or w ≡ os → w ≡ Some os
some-held None os s e = absurd (let z : false ≡ true = s in cc)
some-held (Some xs) os s e = ap Some e

pub phase-waits : (ss : List Standing) (offered : Offered) (rows : List (List ℕ)) (p : ℕ) (os : List Offer) → IsSeated (slice_get ss p) (held offered p)
    → slice_get (phases_from 0 ss offered rows) p ≡ Some (Waiting os) → (slice_get ss p ≡ Some stands.Waiting) × (held offered p ≡ Some os)
phase-waits ss offered rows p os seated e =
    let f = waits-by (slice_get ss p) (held offered p) (numbers_at rows p) os (sym (phases-at ss offered rows p) ∙ e) in
    (f.0, some-held (held offered p) os (subst (λ (o : Option Standing). IsSeated o (held offered p)) f.0 seated) f.1)

joins-by : (o : Option Standing) (w : Option (List Offer)) (own : List ℕ) → IsJoining (option_map (λ s. phase_by s w own) o) → o ≡ Some stands.Joining
joins-by None w own h = absurd h
joins-by (Some stands.Running) w own h = absurd h
joins-by (Some stands.Waiting) w own h = absurd h
joins-by (Some stands.Joining) w own h = refl
joins-by (Some stands.Finished) w own h = absurd h

pub phase-joins : (ss : List Standing) (offered : Offered) (rows : List (List ℕ)) (p : ℕ) → IsJoining (slice_get (phases_from 0 ss offered rows) p) → slice_get ss p ≡ Some stands.Joining
phase-joins ss offered rows p h = joins-by (slice_get ss p) (held offered p) (numbers_at rows p) (subst IsJoining (phases-at ss offered rows p) h)

-- one is set

pub phases-set : (ss : List Standing) (old new : Offered) (rows rows' : List (List ℕ)) (p : ℕ) (t : Standing) (phase : Phase) → p < length ss
    → phase_by t (held new p) (numbers_at rows' p) ≡ phase → ((q : ℕ) → q ≢ p → held new q ≡ held old q) → ((q : ℕ) → q ≢ p → numbers_at rows' q ≡ numbers_at rows q)
    → phases_from 0 (slice_set ss p t) new rows' ≡ slice_set (phases_from 0 ss old rows) p phase
phases-set ss old new rows rows' p t phase h its a b =
    same-list (phases_from 0 (slice_set ss p t) new rows') (slice_set (phases_from 0 ss old rows) p phase) (λ q. phases-at (slice_set ss p t) new rows' q ∙ by_place q (eq-cases q p))
  where
    by_place : (q : ℕ) → (q ≡ p) ⊎ (q ≢ p) → phase_at (slice_set ss p t) new rows' q ≡ slice_get (slice_set (phases_from 0 ss old rows) p phase) q
    by_place q (inl e) =
        subst (λ (k : ℕ). phase_at (slice_set ss p t) new rows' k ≡ slice_get (slice_set (phases_from 0 ss old rows) p phase) k) (sym e)
        (ap (option_map (λ s. phase_by s (held new p) (numbers_at rows' p))) (set-there ss p t h) ∙ ap Some its
        ∙ sym (set-there (phases_from 0 ss old rows) p phase (let l = phases-length 0 ss old rows in omega (arith, l, h))))
    by_place q (inr n) =
        ap (option_map (λ s. phase_by s (held new q) (numbers_at rows' q))) (set-other ss p q t n)
        ∙ (λ j. option_map (λ s. phase_by s (a q n j) (b q n j)) (slice_get ss q))
        ∙ sym (phases-at ss old rows q) ∙ sym (set-other (phases_from 0 ss old rows) p q phase n)

-- all are the same

pub phases-same : (ss : List Standing) (old new : Offered) (rows rows' : List (List ℕ)) → ((q : ℕ) → phase_at ss new rows' q ≡ phase_at ss old rows q)
    → phases_from 0 ss new rows' ≡ phases_from 0 ss old rows
phases-same ss old new rows rows' h =
    same-list (phases_from 0 ss new rows') (phases_from 0 ss old rows) (λ q. phases-at ss new rows' q ∙ h q ∙ sym (phases-at ss old rows q))

pub phases-kept : (ss : List Standing) (old new : Offered) (rows rows' : List (List ℕ)) → SameOffers old new → SameRows rows rows' → phases_from 0 ss new rows' ≡ phases_from 0 ss old rows
phases-kept ss old new rows rows' a b = phases-same ss old new rows rows' (λ q j. option_map (λ s. phase_by s (a q j) (b q j)) (slice_get ss q))

-- all but the numbers of one that runs
pub phases-but : (ss : List Standing) (old : Offered) (rows rows' : List (List ℕ)) (p : ℕ) → slice_get ss p ≡ Some stands.Running → ((q : ℕ) → q ≢ p → numbers_at rows' q ≡ numbers_at rows q)
    → phases_from 0 ss old rows' ≡ phases_from 0 ss old rows
phases-but ss old rows rows' p runs b = phases-same ss old old rows rows' (λ q. by_place q (eq-cases q p))
  where
    by_place : (q : ℕ) → (q ≡ p) ⊎ (q ≢ p) → phase_at ss old rows' q ≡ phase_at ss old rows q
    by_place q (inl e) =
        subst (λ (k : ℕ). phase_at ss old rows' k ≡ phase_at ss old rows k) (sym e)
        (ap (option_map (λ s. phase_by s (held old p) (numbers_at rows' p))) runs ∙ sym (ap (option_map (λ s. phase_by s (held old p) (numbers_at rows p))) runs))
    by_place q (inr n) = ap (λ own. option_map (λ s. phase_by s (held old q) own) (slice_get ss q)) (b q n)

-- one more

pub phases-more : (ss : List Standing) (old : Offered) (rows rows' : List (List ℕ)) → SameRows rows rows'
    → phases_from 0 (ss ++ stands.Running ∷ []) old rows' ≡ phases_from 0 ss old rows ++ Running ∷ []
phases-more ss old rows rows' b =
    same-list (phases_from 0 (ss ++ stands.Running ∷ []) old rows') (phases_from 0 ss old rows ++ Running ∷ [])
    (λ q. phases-at (ss ++ stands.Running ∷ []) old rows' q ∙ by_place q (eq-cases q (length ss)))
  where
    len : length (phases_from 0 ss old rows) ≡ length ss
    len = phases-length 0 ss old rows

    by_place : (q : ℕ) → (q ≡ length ss) ⊎ (q ≢ length ss) → phase_at (ss ++ stands.Running ∷ []) old rows' q ≡ slice_get (phases_from 0 ss old rows ++ Running ∷ []) q
    by_place q (inl e) =
        ap (option_map (λ s. phase_by s (held old q) (numbers_at rows' q))) (ap (slice_get (ss ++ stands.Running ∷ [])) e ∙ push-there ss stands.Running)
        ∙ sym (ap (slice_get (phases_from 0 ss old rows ++ Running ∷ [])) (e ∙ sym len) ∙ push-there (phases_from 0 ss old rows) Running)
    by_place q (inr n) =
        ap (option_map (λ s. phase_by s (held old q) (numbers_at rows' q))) (push-other ss stands.Running q n)
        ∙ ap (λ own. option_map (λ s. phase_by s (held old q) own) (slice_get ss q)) (b q)
        ∙ sym (phases-at ss old rows q) ∙ sym (push-other (phases_from 0 ss old rows) Running q (λ e. n (e ∙ len)))

-- who has finished

over-by : (s : Standing) (w : Option (List Offer)) (own : List ℕ) → is_over (phase_by s w own) ≡ is_finished s
over-by stands.Running w own = refl
over-by stands.Waiting w own = refl
over-by stands.Joining w own = refl
over-by stands.Finished w own = refl

pub phases-over : (a : ℕ) (ss : List Standing) (offered : Offered) (rows : List (List ℕ)) → are_over (phases_from a ss offered rows) ≡ map is_finished ss
phases-over a [] offered rows = refl
phases-over a (s ∷ ss) offered rows = λ j. over-by s (held offered a) (numbers_at rows a) j ∷ phases-over (suc a) ss offered rows j

-- who waits

abbrev pub waiting_by : Option Standing → Bool
waiting_by None = false
waiting_by (Some s) = is_waiting s

waits-stood : (o : Option Standing) (w : Option (List Offer)) (own : List ℕ) → waits (option_map (λ s. phase_by s w own) o) ≡ waiting_by o
waits-stood None w own = refl
waits-stood (Some stands.Running) w own = refl
waits-stood (Some stands.Waiting) w own = refl
waits-stood (Some stands.Joining) w own = refl
waits-stood (Some stands.Finished) w own = refl

pub phase-is_waiting : (ss : List Standing) (offered : Offered) (rows : List (List ℕ)) (p : ℕ) (o : Option Standing) → slice_get ss p ≡ o
    → waits (slice_get (phases_from 0 ss offered rows) p) ≡ waiting_by o
phase-is_waiting ss offered rows p o e =
    ap waits (phases-at ss offered rows p ∙ ap (option_map (λ s. phase_by s (held offered p) (numbers_at rows p))) e) ∙ waits-stood o (held offered p) (numbers_at rows p)
