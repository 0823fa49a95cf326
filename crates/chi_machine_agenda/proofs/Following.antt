-- What is kept, as instances begin to wait for others, and others finish.
use Rattle.std.proofs.Common.{◌≡◌, ◌≢◌, ℕ, zero, suc, ◌<◌, ◌≤◌, ℤ, List, [], ◌∷◌, Option, Some, None, Bool, true, false, cond, length, get_or, ◌⊎◌, inl, inr, sym, ◌∙◌, ap, subst, refl, arith}
use Rattle.std.specs.Prelude.{nat_eq, slice_set, map}
use Rattle.std.specs.List.{slice_get}
use Rattle.std.proofs.lemmas.Bool.{false≢true}
use Rattle.chi_chan.specs.Held.{Offered, held}
use Rattle.chi_order.specs.Marked.{is_marked}
use Rattle.chi_machine_agenda.specs.declared.joining.Joins.{Joins}
use Rattle.chi_machine_agenda.specs.declared.standing.Standing.{Standing}
use Rattle.chi_machine_agenda.specs.declared.standing.Standing.TheVariants as stands
use Rattle.chi_machine_agenda.specs.Phases.{AreThere}
use Rattle.chi_machine_agenda.specs.Joined.{numbers_at, has_ended, still, is_in, AreAhead, AreRoomy, Watches}
use Rattle.chi_machine_agenda.specs.Joining.{Begins, Ends, Fails, Stays}
use Rattle.chi_machine_agenda.specs.Kept.{is_finished, goes, IsJoined, IsKept, IsSeated}
use Rattle.chi_machine_agenda.proofs.Lists.{eq-cases, eq-no, got-or, got-within, at-set, map-set, map-set-same, or-there, or-other, set-length}
use Rattle.chi_machine_agenda.proofs.Seats.{room-more}
use Rattle.chi_machine_agenda.proofs.Watching.{still-within, still-stops, still-over, left-all, all-length, freed-all-length, freed-idle, freed-waiting}

-- What an instance waits for is as it was, where its own numbers are, and whoever watches goes on.
pub joined-same : (ended : List Bool) (rows rows' : List (List ℕ)) (counts counts' : List ℕ) (watching watching' : List (List ℕ)) (q : ℕ) (o : Option Standing)
    → numbers_at rows' q ≡ numbers_at rows q → get_or counts' q 0 ≡ get_or counts q 0 → ((r : ℕ) → is_in q (numbers_at watching r) ≡ true → is_in q (numbers_at watching' r) ≡ true)
    → IsJoined ended rows counts watching q o → IsJoined ended rows' counts' watching' q o
joined-same ended rows rows' counts counts' watching watching' q None e f g h = f ∙ h
joined-same ended rows rows' counts counts' watching watching' q (Some stands.Running) e f g h = f ∙ h
joined-same ended rows rows' counts counts' watching watching' q (Some stands.Waiting) e f g h = f ∙ h
joined-same ended rows rows' counts counts' watching watching' q (Some stands.Finished) e f g h = f ∙ h
joined-same ended rows rows' counts counts' watching watching' q (Some stands.Joining) e f g h = record {
  over = λ k r l t. h.over k r (omega (arith, l, f)) (sym (ap (λ own. slice_get own k) e) ∙ t);
  next = λ n l.
      let its = h.next n (sym f ∙ l) in (
        ap (λ own. has_ended ended (get_or own n 0)) e ∙ its.0,
        subst (λ (own : List ℕ). is_in q (numbers_at watching' (get_or own n 0)) ≡ true) (sym e) (g (get_or (numbers_at rows q) n 0) its.1),
      );
}

pub goes-left : (offered : Offered) (clock : ℤ) (counts counts' : List ℕ) (q : ℕ) (o : Option Standing) → get_or counts' q 0 ≡ get_or counts q 0
    → goes offered clock counts q o ≡ goes offered clock counts' q o
goes-left offered clock counts counts' q None e = refl
goes-left offered clock counts counts' q (Some stands.Running) e = refl
goes-left offered clock counts counts' q (Some stands.Waiting) e = refl
goes-left offered clock counts counts' q (Some stands.Joining) e = sym (ap (λ n. nat_eq n 0) e)
goes-left offered clock counts counts' q (Some stands.Finished) e = refl

module _ (clock : ℤ) (ss : List Standing) (ended : List Bool) (old : Offered) (marks : List Bool) (times : List (Option ℤ)) (joins : Joins)
    (is : IsKept clock ss ended old marks times joins.numbers joins.left.items joins.watchers) where
  abbrev rows : List (List ℕ)
  rows = joins.numbers

  abbrev counts : List ℕ
  counts = joins.left.items

  -- whoever has some left joins, and there is room for it
  pub left-is : (q n : ℕ) → get_or counts q 0 ≡ suc n → slice_get ss q ≡ Some stands.Joining
  left-is q n e = by_standing (slice_get ss q) refl (is.joined q)
    where
      by_standing : (o : Option Standing) → slice_get ss q ≡ o → IsJoined ended rows counts joins.watchers q o → slice_get ss q ≡ Some stands.Joining
      by_standing None at h = absurd (omega (arith, e, h))
      by_standing (Some stands.Running) at h = absurd (omega (arith, e, h))
      by_standing (Some stands.Waiting) at h = absurd (omega (arith, e, h))
      by_standing (Some stands.Joining) at h = at
      by_standing (Some stands.Finished) at h = absurd (omega (arith, e, h))

  pub kept-roomy : AreRoomy counts marks
  kept-roomy q n e =
      let w = got-within ss q stands.Joining (left-is q n e) in
      let r = is.room.ready in
      omega (arith, w, r)

  pub there-more : (room : ℕ) → length ss ≤ room → (own : List ℕ) → AreThere (length ss) own → AreThere room own
  there-more room h own t k q e = let l = t k q e in omega (arith, l, h)

  pub kept-ahead : AreAhead (length joins.watchers) rows counts
  kept-ahead = record {
    there = λ p. there-more (length joins.watchers) is.room.watchers (numbers_at rows p) (is.ahead.there p);
    within = is.ahead.within;
  }

  pub ended-is : (p : ℕ) (s : Standing) → slice_get ss p ≡ Some s → has_ended ended p ≡ is_finished s
  ended-is p s e = ap (λ l. has_ended l p) is.over ∙ by_place ss p e
    where
      by_place : (xs : List Standing) (n : ℕ) → slice_get xs n ≡ Some s → has_ended (map is_finished xs) n ≡ is_finished s
      by_place [] n g = absurd (cc)
      by_place (x ∷ xs) zero g = let same : x ≡ s = cc in ap is_finished same
      by_place (x ∷ xs) (suc n) g = by_place xs n g

  pub ended-length : length ended ≡ length ss
  ended-length = ap length is.over ∙ by_list ss
    where
      by_list : (xs : List Standing) → length (map is_finished xs) ≡ length xs
      by_list [] = refl
      by_list (x ∷ xs) = ap suc (by_list xs)

  module _ (p : ℕ) (runs : slice_get ss p ≡ Some stands.Running) where
    within : p < length ss
    within = got-within ss p stands.Running runs

    none-left : get_or counts p 0 ≡ 0
    none-left = subst (IsJoined ended rows counts joins.watchers p) runs (is.joined p)

    none-held : held old p ≡ None
    none-held = subst (λ (o : Option Standing). IsSeated o (held old p)) runs (is.seated p)

    -- it begins to wait
    pub kept-began : (own : List ℕ) (marks' : List Bool) (joins' : Joins) → AreThere (length ss) own → Begins ended p own marks joins marks' joins'
        → IsKept clock (slice_set ss p stands.Joining) ended old marks' times joins'.numbers joins'.left.items joins'.watchers
    kept-began own marks' joins' there b = record {
      over = is.over ∙ sym (map-set-same is_finished ss p stands.Joining stands.Running runs refl);
      room = room-more (length ss) (length (slice_set ss p stands.Joining)) marks marks' times times rows joins'.numbers counts joins'.left.items joins.watchers joins'.watchers is.room
          (set-length ss p stands.Joining) (ap length b.ready ∙ set-length marks p (nat_eq left 0)) refl (ap length b.numbers ∙ set-length rows p own)
          (ap length b.left ∙ set-length counts p left) b.watched.room;
      seated = at-set ss p stands.Joining (λ q o. IsSeated o (held old q)) within none-held (λ q n. is.seated q);
      ready = at-set ss p stands.Joining (λ q o. is_marked marks' q ≡ goes old clock joins'.left.items q o) within marked (λ q n.
          ap (λ (m : List Bool). is_marked m q) b.ready ∙ or-other marks p q (nat_eq left 0) false n ∙ is.ready q
          ∙ goes-left old clock counts joins'.left.items q (slice_get ss q) (same-left q n));
      due = is.due;
      ahead = record {
        there = λ q. subst (λ (m : ℕ). AreThere m (numbers_at joins'.numbers q)) (sym (set-length ss p stands.Joining)) (by_there q (eq-cases q p));
        within = λ q. by_within q (eq-cases q p);
      };
      joined = at-set ss p stands.Joining (λ q o. IsJoined ended joins'.numbers joins'.left.items joins'.watchers q o) within watches (λ q n.
          joined-same ended rows joins'.numbers counts joins'.left.items joins.watchers joins'.watchers q (slice_get ss q) (same-row q n) (same-left q n) (λ r. b.watched.kept r q) (is.joined q));
    }
      where
        left : ℕ
        left = still ended own (length own)

        row : numbers_at joins'.numbers p ≡ own
        row = ap (λ l. numbers_at l p) b.numbers ∙ or-there rows p own [] (let r = is.room.numbers in let w = within in omega (arith, r, w))

        its : get_or joins'.left.items p 0 ≡ left
        its = ap (λ l. get_or l p 0) b.left ∙ or-there counts p left 0 (let r = is.room.left in let w = within in omega (arith, r, w))

        same-row : (q : ℕ) → q ≢ p → numbers_at joins'.numbers q ≡ numbers_at rows q
        same-row q n = ap (λ l. numbers_at l q) b.numbers ∙ or-other rows p q own [] n

        same-left : (q : ℕ) → q ≢ p → get_or joins'.left.items q 0 ≡ get_or counts q 0
        same-left q n = ap (λ l. get_or l q 0) b.left ∙ or-other counts p q left 0 n

        marked : is_marked marks' p ≡ nat_eq (get_or joins'.left.items p 0) 0
        marked =
            ap (λ (m : List Bool). is_marked m p) b.ready ∙ or-there marks p (nat_eq left 0) false (let r = is.room.ready in let w = within in omega (arith, r, w))
            ∙ sym (ap (λ n. nat_eq n 0) its)

        by_there : (q : ℕ) → (q ≡ p) ⊎ (q ≢ p) → AreThere (length ss) (numbers_at joins'.numbers q)
        by_there q (inl e) = subst (λ (k : ℕ). AreThere (length ss) (numbers_at joins'.numbers k)) (sym e) (subst (AreThere (length ss)) (sym row) there)
        by_there q (inr n) = subst (AreThere (length ss)) (sym (same-row q n)) (is.ahead.there q)

        by_within : (q : ℕ) → (q ≡ p) ⊎ (q ≢ p) → get_or joins'.left.items q 0 ≤ length (numbers_at joins'.numbers q)
        by_within q (inl e) =
            subst (λ (k : ℕ). get_or joins'.left.items k 0 ≤ length (numbers_at joins'.numbers k)) (sym e)
            (let h = still-within ended own (length own) in let i = its in let l = ap length row in omega (arith, h, i, l))
        by_within q (inr n) = let h = is.ahead.within q in let i = same-left q n in let l = ap length (same-row q n) in omega (arith, h, i, l)

        watches : Watches ended joins'.numbers joins'.left.items joins'.watchers p
        watches = record {
          over = λ k q h e.
              let at : slice_get own k ≡ Some q = sym (ap (λ l. slice_get l k) row) ∙ e in
              let i = its in
              let w = got-within own k q at in
              ap (has_ended ended) (sym (got-or own k q 0 at)) ∙ still-over ended own (length own) k (omega (arith, h, i)) w;
          next = λ n e.
              let at : left ≡ suc n = sym its ∙ e in (
                ap (λ l. has_ended ended (get_or l n 0)) row ∙ still-stops ended own (length own) n at,
                subst (λ (l : List ℕ). is_in p (numbers_at joins'.watchers (get_or l n 0)) ≡ true) (sym row) (b.sees n at),
              );
        }

    -- it doesn't, and still runs
    pub kept-failed : (own : List ℕ) (marks' : List Bool) (joins' : Joins) → AreThere (length ss) own → Fails ended p own marks joins marks' joins'
        → IsKept clock ss ended old marks' times joins'.numbers joins'.left.items joins'.watchers
    kept-failed own marks' joins' there f = record {
      over = is.over;
      room = room-more (length ss) (length ss) marks marks' times times rows joins'.numbers counts joins'.left.items joins.watchers joins'.watchers is.room
          refl (ap length f.ready) refl (ap length f.numbers ∙ set-length rows p f.row) (ap length f.left) f.watched.room;
      seated = is.seated;
      ready = λ q. ap (λ (m : List Bool). is_marked m q) f.ready ∙ is.ready q ∙ goes-left old clock counts joins'.left.items q (slice_get ss q) (same-left q);
      due = is.due;
      ahead = record { there = λ q. by_there q (eq-cases q p); within = λ q. by_within q (eq-cases q p) };
      joined = λ q. by_joined q (eq-cases q p);
    }
      where
        same-left : (q : ℕ) → get_or joins'.left.items q 0 ≡ get_or counts q 0
        same-left q = ap (λ l. get_or l q 0) f.left

        row : numbers_at joins'.numbers p ≡ f.row
        row = ap (λ l. numbers_at l p) f.numbers ∙ or-there rows p f.row [] (let r = is.room.numbers in let w = within in omega (arith, r, w))

        same-row : (q : ℕ) → q ≢ p → numbers_at joins'.numbers q ≡ numbers_at rows q
        same-row q n = ap (λ l. numbers_at l q) f.numbers ∙ or-other rows p q f.row [] n

        own-there : (f.row ≡ own) ⊎ (f.row ≡ []) → AreThere (length ss) f.row
        own-there (inl e) = subst (AreThere (length ss)) (sym e) there
        own-there (inr e) = subst (AreThere (length ss)) (sym e) (λ k q g. absurd (cc))

        by_there : (q : ℕ) → (q ≡ p) ⊎ (q ≢ p) → AreThere (length ss) (numbers_at joins'.numbers q)
        by_there q (inl e) = subst (λ (k : ℕ). AreThere (length ss) (numbers_at joins'.numbers k)) (sym e) (subst (AreThere (length ss)) (sym row) (own-there f.either))
        by_there q (inr n) = subst (AreThere (length ss)) (sym (same-row q n)) (is.ahead.there q)

        by_within : (q : ℕ) → (q ≡ p) ⊎ (q ≢ p) → get_or joins'.left.items q 0 ≤ length (numbers_at joins'.numbers q)
        by_within q (inl e) =
            subst (λ (k : ℕ). get_or joins'.left.items k 0 ≤ length (numbers_at joins'.numbers k)) (sym e) (let i = same-left p in let z = none-left in omega (arith, i, z))
        by_within q (inr n) = let h = is.ahead.within q in let i = same-left q in let l = ap length (same-row q n) in omega (arith, h, i, l)

        by_joined : (q : ℕ) → (q ≡ p) ⊎ (q ≢ p) → IsJoined ended joins'.numbers joins'.left.items joins'.watchers q (slice_get ss q)
        by_joined q (inl e) =
            subst (λ (k : ℕ). IsJoined ended joins'.numbers joins'.left.items joins'.watchers k (slice_get ss k)) (sym e)
            (subst (IsJoined ended joins'.numbers joins'.left.items joins'.watchers p) (sym runs) (same-left p ∙ none-left))
        by_joined q (inr n) =
            joined-same ended rows joins'.numbers counts joins'.left.items joins.watchers joins'.watchers q (slice_get ss q) (same-row q n) (same-left q) (λ r. f.watched.kept r q) (is.joined q)

    -- it hasn't finished, and still runs
    pub kept-stays : (ended' marks' : List Bool) (joins' : Joins) → Stays p ended marks joins ended' marks' joins'
        → IsKept clock ss ended' old marks' times joins'.numbers joins'.left.items joins'.watchers
    kept-stays ended' marks' joins' f = record {
      over = f.finished ∙ is.over;
      room = room-more (length ss) (length ss) marks marks' times times rows joins'.numbers counts joins'.left.items joins.watchers joins'.watchers is.room
          refl (ap length f.ready) refl (ap length f.numbers) (ap length f.left) f.watched.room;
      seated = is.seated;
      ready = λ q. ap (λ (m : List Bool). is_marked m q) f.ready ∙ is.ready q ∙ goes-left old clock counts joins'.left.items q (slice_get ss q) (same-left q);
      due = is.due;
      ahead = record {
        there = λ q. subst (AreThere (length ss)) (sym (same-row q)) (is.ahead.there q);
        within = λ q. let h = is.ahead.within q in let i = same-left q in let l = ap length (same-row q) in omega (arith, h, i, l);
      };
      joined = λ q.
          subst (λ (l : List Bool). IsJoined l joins'.numbers joins'.left.items joins'.watchers q (slice_get ss q)) (sym f.finished)
          (joined-same ended rows joins'.numbers counts joins'.left.items joins.watchers joins'.watchers q (slice_get ss q) (same-row q) (same-left q) (λ r. f.watched.kept r q) (is.joined q));
    }
      where
        same-left : (q : ℕ) → get_or joins'.left.items q 0 ≡ get_or counts q 0
        same-left q = ap (λ l. get_or l q 0) f.left

        same-row : (q : ℕ) → numbers_at joins'.numbers q ≡ numbers_at rows q
        same-row q = ap (λ l. numbers_at l q) f.numbers

    -- it has finished
    pub kept-ended : (ended' marks' : List Bool) (joins' : Joins) → Ends p ended marks joins ended' marks' joins'
        → IsKept clock (slice_set ss p stands.Finished) ended' old marks' times joins'.numbers joins'.left.items joins'.watchers
    kept-ended ended' marks' joins' f = record {
      over = f.finished ∙ ap (λ l. slice_set l p true) is.over ∙ sym (map-set is_finished ss p stands.Finished);
      room = room-more (length ss) (length (slice_set ss p stands.Finished)) marks marks' times times rows joins'.numbers counts joins'.left.items joins.watchers joins'.watchers is.room
          (set-length ss p stands.Finished) (ap length f.ready ∙ freed-all-length ended' rows ws counts (slice_set marks p false) ∙ set-length marks p false) refl (ap length f.numbers)
          (ap length f.left ∙ all-length ended' rows ws counts) f.watched.room;
      seated = at-set ss p stands.Finished (λ q o. IsSeated o (held old q)) within none-held (λ q n. is.seated q);
      ready = at-set ss p stands.Finished (λ q o. is_marked marks' q ≡ goes old clock joins'.left.items q o) within marked (λ q n. by_marked q n (get_or counts q 0) refl);
      due = is.due;
      ahead = record {
        there = λ q. subst (λ (m : ℕ). AreThere m (numbers_at joins'.numbers q)) (sym (set-length ss p stands.Finished)) (subst (AreThere (length ss)) (sym (same-row q)) (is.ahead.there q));
        within = λ q. let h = is.ahead.within q in let i = less q in let l = ap length (same-row q) in omega (arith, h, i, l);
      };
      joined = at-set ss p stands.Finished (λ q o. IsJoined ended' joins'.numbers joins'.left.items joins'.watchers q o) within gone (λ q n. by_joined q (slice_get ss q) (is.joined q));
    }
      where
        ws : List ℕ
        ws = numbers_at joins.watchers p

        same-row : (q : ℕ) → numbers_at joins'.numbers q ≡ numbers_at rows q
        same-row q = ap (λ l. numbers_at l q) f.numbers

        -- what is left
        its : (q : ℕ) → get_or joins'.left.items q 0 ≡ cond (is_in q ws) (still ended' (numbers_at rows q) (get_or counts q 0)) (get_or counts q 0)
        its q = ap (λ l. get_or l q 0) f.left ∙ left-all ended' rows ws counts q

        less : (q : ℕ) → get_or joins'.left.items q 0 ≤ get_or counts q 0
        less q = let i = its q in by_test (is_in q ws) i
          where
            by_test : (b : Bool) → get_or joins'.left.items q 0 ≡ cond b (still ended' (numbers_at rows q) (get_or counts q 0)) (get_or counts q 0) → get_or joins'.left.items q 0 ≤ get_or counts q 0
            by_test true e = let h = still-within ended' (numbers_at rows q) (get_or counts q 0) in omega (arith, e, h)
            by_test false e = omega (arith, e)

        gone : get_or joins'.left.items p 0 ≡ 0
        gone = let l = less p in let z = none-left in omega (arith, l, z)

        set-mark : (q : ℕ) → q ≢ p → is_marked (slice_set marks p false) q ≡ is_marked marks q
        set-mark q n = or-other marks p q false false n

        marked : is_marked marks' p ≡ false
        marked =
            ap (λ (m : List Bool). is_marked m p) f.ready ∙ freed-idle ended' rows ws counts (slice_set marks p false) p none-left
            ∙ or-there marks p false false (let r = is.room.ready in let w = within in omega (arith, r, w))

        roomy : AreRoomy counts (slice_set marks p false)
        roomy q n e = let r = kept-roomy q n e in let l = set-length marks p false in omega (arith, r, l)

        by_marked : (q : ℕ) → q ≢ p → (c : ℕ) → get_or counts q 0 ≡ c → is_marked marks' q ≡ goes old clock joins'.left.items q (slice_get ss q)
        by_marked q n zero e =
            ap (λ (m : List Bool). is_marked m q) f.ready ∙ freed-idle ended' rows ws counts (slice_set marks p false) q e ∙ set-mark q n ∙ is.ready q
            ∙ goes-left old clock counts joins'.left.items q (slice_get ss q) (let l = less q in omega (arith, l, e))
        by_marked q n (suc m) e =
            let at = left-is q m e in
            let unmarked : is_marked marks q ≡ false = is.ready q ∙ ap (goes old clock counts q) at ∙ eq-no (get_or counts q 0) 0 (λ z. omega (arith, z, e)) in
            ap (λ (l : List Bool). is_marked l q) f.ready
            ∙ freed-waiting ended' rows ws counts (slice_set marks p false) q m e (set-mark q n ∙ unmarked) roomy
            ∙ sym (ap (goes old clock joins'.left.items q) at ∙ ap (λ l. nat_eq (get_or l q 0) 0) f.left)

        -- who had finished has
        later : (r : ℕ) → has_ended ended r ≡ true → has_ended ended' r ≡ true
        later r e = ap (λ l. has_ended l r) f.finished ∙ by_place (eq-cases r p)
          where
            by_place : (r ≡ p) ⊎ (r ≢ p) → has_ended (slice_set ended p true) r ≡ true
            by_place (inl same) =
                ap (has_ended (slice_set ended p true)) same ∙ or-there ended p true false (let l = ended-length in let w = within in omega (arith, l, w))
            by_place (inr n) = or-other ended p r true false n ∙ e

        by_joined : (q : ℕ) (o : Option Standing) → IsJoined ended rows counts joins.watchers q o → IsJoined ended' joins'.numbers joins'.left.items joins'.watchers q o
        by_joined q None h = let l = less q in omega (arith, l, h)
        by_joined q (Some stands.Running) h = let l = less q in omega (arith, l, h)
        by_joined q (Some stands.Waiting) h = let l = less q in omega (arith, l, h)
        by_joined q (Some stands.Finished) h = let l = less q in omega (arith, l, h)
        by_joined q (Some stands.Joining) h = by_test (is_in q ws) refl
          where
            own : List ℕ
            own = numbers_at rows q

            by_test : (b : Bool) → is_in q ws ≡ b → Watches ended' joins'.numbers joins'.left.items joins'.watchers q
            by_test true m = record {
              over = λ k r l e.
                  let at : slice_get own k ≡ Some r = sym (ap (λ x. slice_get x k) (same-row q)) ∙ e in
                  let i = now in
                  by_place k r at (omega (arith, l, i)) (let c : (k < get_or counts q 0) ⊎ (get_or counts q 0 ≤ k) = grind arith in c);
              next = λ n e.
                  let at : still ended' own (get_or counts q 0) ≡ suc n = sym now ∙ e in (
                    ap (λ l. has_ended ended' (get_or l n 0)) (same-row q) ∙ still-stops ended' own (get_or counts q 0) n at,
                    subst (λ (l : List ℕ). is_in q (numbers_at joins'.watchers (get_or l n 0)) ≡ true) (sym (same-row q)) (f.seen q m n at),
                  );
            }
              where
                now : get_or joins'.left.items q 0 ≡ still ended' own (get_or counts q 0)
                now = its q ∙ ap (λ b. cond b (still ended' own (get_or counts q 0)) (get_or counts q 0)) m

                by_place : (k r : ℕ) → slice_get own k ≡ Some r → still ended' own (get_or counts q 0) ≤ k → (k < get_or counts q 0) ⊎ (get_or counts q 0 ≤ k) → has_ended ended' r ≡ true
                by_place k r at l (inl c) = ap (has_ended ended') (sym (got-or own k r 0 at)) ∙ still-over ended' own (get_or counts q 0) k l c
                by_place k r at l (inr c) = later r (h.over k r c at)
            by_test false m = record {
              over = λ k r l e.
                  let at : slice_get own k ≡ Some r = sym (ap (λ x. slice_get x k) (same-row q)) ∙ e in
                  let i = now in
                  later r (h.over k r (omega (arith, l, i)) at);
              next = λ n e.
                  let was = h.next n (sym now ∙ e) in (
                    ap (λ l. has_ended ended' (get_or l n 0)) (same-row q) ∙ still-runs (get_or own n 0) was.0 was.1,
                    subst (λ (l : List ℕ). is_in q (numbers_at joins'.watchers (get_or l n 0)) ≡ true) (sym (same-row q)) (f.watched.kept (get_or own n 0) q was.1),
                  );
            }
              where
                now : get_or joins'.left.items q 0 ≡ get_or counts q 0
                now = its q ∙ ap (λ b. cond b (still ended' own (get_or counts q 0)) (get_or counts q 0)) m

                still-runs : (r : ℕ) → has_ended ended r ≡ false → is_in q (numbers_at joins.watchers r) ≡ true → has_ended ended' r ≡ false
                still-runs r a w = by_place (eq-cases r p)
                  where
                    by_place : (r ≡ p) ⊎ (r ≢ p) → has_ended ended' r ≡ false
                    by_place (inl same) = absurd (false≢true (sym m ∙ ap (λ k. is_in q (numbers_at joins.watchers k)) (sym same) ∙ w))
                    by_place (inr n) = ap (λ l. has_ended l r) f.finished ∙ or-other ended p r true false n ∙ a

  -- one that waited for others goes on
  pub kept-freed : (p : ℕ) (joins' : Joins) (marks' : List Bool) → slice_get ss p ≡ Some stands.Joining → marks' ≡ slice_set marks p true → joins'.left.items ≡ slice_set counts p 0
      → joins'.numbers ≡ rows → joins'.watchers ≡ joins.watchers
      → IsKept clock (slice_set ss p stands.Running) ended old marks' times joins'.numbers joins'.left.items joins'.watchers
  kept-freed p joins' marks' waits a b c d = record {
    over = is.over ∙ sym (map-set-same is_finished ss p stands.Running stands.Joining waits refl);
    room = room-more (length ss) (length (slice_set ss p stands.Running)) marks marks' times times rows joins'.numbers counts joins'.left.items joins.watchers joins'.watchers is.room
        (set-length ss p stands.Running) (ap length a ∙ set-length marks p true) refl (ap length c) (ap length b ∙ set-length counts p 0) (ap length d);
    seated = at-set ss p stands.Running (λ q o. IsSeated o (held old q)) h (subst (λ (o : Option Standing). IsSeated o (held old p)) waits (is.seated p)) (λ q n. is.seated q);
    ready = at-set ss p stands.Running (λ q o. is_marked marks' q ≡ goes old clock joins'.left.items q o) h
        (ap (λ (m : List Bool). is_marked m p) a ∙ or-there marks p true false (let r = is.room.ready in let w = h in omega (arith, r, w)))
        (λ q n. ap (λ (m : List Bool). is_marked m q) a ∙ or-other marks p q true false n ∙ is.ready q ∙ goes-left old clock counts joins'.left.items q (slice_get ss q) (same-left q n));
    due = is.due;
    ahead = record {
      there = λ q. subst (λ (m : ℕ). AreThere m (numbers_at joins'.numbers q)) (sym (set-length ss p stands.Running)) (subst (AreThere (length ss)) (sym (same-row q)) (is.ahead.there q));
      within = λ q. by_within q (eq-cases q p);
    };
    joined = at-set ss p stands.Running (λ q o. IsJoined ended joins'.numbers joins'.left.items joins'.watchers q o) h none (λ q n.
        joined-same ended rows joins'.numbers counts joins'.left.items joins.watchers joins'.watchers q (slice_get ss q) (same-row q) (same-left q n)
        (λ r g. ap (λ l. is_in q (numbers_at l r)) d ∙ g) (is.joined q));
  }
    where
      h : p < length ss
      h = got-within ss p stands.Joining waits

      none : get_or joins'.left.items p 0 ≡ 0
      none = ap (λ l. get_or l p 0) b ∙ or-there counts p 0 0 (let r = is.room.left in let w = h in omega (arith, r, w))

      same-row : (q : ℕ) → numbers_at joins'.numbers q ≡ numbers_at rows q
      same-row q = ap (λ l. numbers_at l q) c

      same-left : (q : ℕ) → q ≢ p → get_or joins'.left.items q 0 ≡ get_or counts q 0
      same-left q n = ap (λ l. get_or l q 0) b ∙ or-other counts p q 0 0 n

      by_within : (q : ℕ) → (q ≡ p) ⊎ (q ≢ p) → get_or joins'.left.items q 0 ≤ length (numbers_at joins'.numbers q)
      by_within q (inl e) = subst (λ (k : ℕ). get_or joins'.left.items k 0 ≤ length (numbers_at joins'.numbers k)) (sym e) (let z = none in omega (arith, z))
      by_within q (inr n) = let w = is.ahead.within q in let i = same-left q n in let l = ap length (same-row q) in omega (arith, w, i, l)
