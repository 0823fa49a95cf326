-- What is kept, where there is more room, and one instance more.
use Rattle.std.proofs.Common.{◌≡◌, ℕ, suc, ℤ, List, [], ◌∷◌, ◌++◌, Option, Some, None, Bool, true, false, length, get_or, sym, ◌∙◌, ap, subst, arith}
use Rattle.std.specs.Prelude.{slice_set, map}
use Rattle.std.specs.List.{slice_get}
use Rattle.chi_chan.specs.declared.offers.Offer.{Offer}
use Rattle.chi_chan.specs.Held.{Offered, held, NobodyWaits}
use Rattle.chi_order.specs.Dated.{due_of}
use Rattle.chi_order.specs.Marked.{is_marked}
use Rattle.chi_machine_agenda.specs.declared.joining.Joins.{Joins}
use Rattle.chi_machine_agenda.specs.declared.standing.Standing.{Standing}
use Rattle.chi_machine_agenda.specs.declared.standing.Standing.TheVariants as stands
use Rattle.chi_machine_agenda.specs.Phases.{AreThere}
use Rattle.chi_machine_agenda.specs.Joined.{numbers_at, is_in}
use Rattle.chi_machine_agenda.specs.Joining.{IsRoomier}
use Rattle.chi_machine_agenda.specs.Kept.{is_finished, goes, HasRoom, IsJoined, IsKept, IsSeated}
use Rattle.chi_machine_agenda.specs.Timed.{Awaits}
use Rattle.chi_machine_agenda.proofs.Lists.{got-none, or-there, or-other, set-length, at-push, push-length, push-or, map-push}
use Rattle.chi_machine_agenda.proofs.Times.{awaits-none}
use Rattle.chi_machine_agenda.proofs.Following.{joined-same, goes-left}

module _ (clock : ℤ) (ss : List Standing) (ended : List Bool) (old : Offered) (marks : List Bool) (times : List (Option ℤ)) (joins : Joins)
    (is : IsKept clock ss ended old marks times joins.numbers joins.left.items joins.watchers) where
  pub kept-roomier : (marks' : List Bool) (times' : List (Option ℤ)) (joins' : Joins) → IsRoomier marks times joins marks' times' joins'
      → IsKept clock ss ended old marks' times' joins'.numbers joins'.left.items joins'.watchers
  kept-roomier marks' times' joins' r = record {
    over = is.over;
    room = record {
      few = is.room.few;
      ready = let a = is.room.ready in let b = r.more_ready in omega (arith, a, b);
      dues = let a = is.room.dues in let b = r.more_dues in omega (arith, a, b);
      numbers = let a = is.room.numbers in let b = r.joins.more_numbers in omega (arith, a, b);
      left = let a = is.room.left in let b = r.joins.more_left in omega (arith, a, b);
      watchers = let a = is.room.watchers in let b = r.joins.more_watchers in omega (arith, a, b);
    };
    seated = is.seated;
    ready = λ q. r.ready q ∙ is.ready q ∙ goes-left old clock joins.left.items joins'.left.items q (slice_get ss q) (r.joins.left q);
    due = λ q. subst (Awaits clock (held old q)) (sym (r.dues q)) (is.due q);
    ahead = record {
      there = λ q. subst (AreThere (length ss)) (sym (r.joins.numbers q)) (is.ahead.there q);
      within = λ q. let h = is.ahead.within q in let i = r.joins.left q in let l = ap length (r.joins.numbers q) in omega (arith, h, i, l);
    };
    joined = λ q.
        joined-same ended joins.numbers joins'.numbers joins.left.items joins'.left.items joins.watchers joins'.watchers q (slice_get ss q) (r.joins.numbers q) (r.joins.left q)
        (λ k g. ap (is_in q) (r.joins.watchers k) ∙ g) (is.joined q);
  }

  joined-more : (q : ℕ) (o : Option Standing) → IsJoined ended joins.numbers joins.left.items joins.watchers q o
      → IsJoined (ended ++ false ∷ []) joins.numbers joins.left.items joins.watchers q o
  joined-more q None h = h
  joined-more q (Some stands.Running) h = h
  joined-more q (Some stands.Waiting) h = h
  joined-more q (Some stands.Finished) h = h
  joined-more q (Some stands.Joining) h = record {
    over = λ k r l e. push-or ended false r ∙ h.over k r l e;
    next = λ n l. let its = h.next n l in (push-or ended false (get_or (numbers_at joins.numbers q) n 0) ∙ its.0, its.1);
  }

  -- one more, which runs
  pub kept-more : (marks' : List Bool) → HasRoom (suc (length ss)) marks times joins.numbers joins.left.items joins.watchers → marks' ≡ slice_set marks (length ss) true
      → IsKept clock (ss ++ stands.Running ∷ []) (ended ++ false ∷ []) old marks' times joins.numbers joins.left.items joins.watchers
  kept-more marks' room e = record {
    over = ap (λ l. l ++ false ∷ []) is.over ∙ sym (map-push is_finished ss stands.Running);
    room = subst (λ (n : ℕ). HasRoom n marks' times joins.numbers joins.left.items joins.watchers) (sym (push-length ss stands.Running)) (record {
      few = room.few;
      ready = let r = room.ready in let l = ap length e ∙ set-length marks (length ss) true in omega (arith, r, l);
      dues = room.dues;
      numbers = room.numbers;
      left = room.left;
      watchers = room.watchers;
    });
    seated = at-push ss stands.Running (λ q o. IsSeated o (held old q))
        (subst (λ (o : Option Standing). IsSeated o (held old (length ss))) (got-none ss (length ss) (omega arith)) (is.seated (length ss))) (λ q n. is.seated q);
    ready = at-push ss stands.Running (λ q o. is_marked marks' q ≡ goes old clock joins.left.items q o)
        (ap (λ (m : List Bool). is_marked m (length ss)) e ∙ or-there marks (length ss) true false (let r = room.ready in omega (arith, r)))
        (λ q n. ap (λ (m : List Bool). is_marked m q) e ∙ or-other marks (length ss) q true false n ∙ is.ready q);
    due = is.due;
    ahead = record {
      there = λ q k r t. let l = is.ahead.there q k r t in let n = push-length ss stands.Running in omega (arith, l, n);
      within = is.ahead.within;
    };
    joined = at-push ss stands.Running (λ q o. IsJoined (ended ++ false ∷ []) joins.numbers joins.left.items joins.watchers q o)
        (subst (IsJoined ended joins.numbers joins.left.items joins.watchers (length ss)) (got-none ss (length ss) (omega arith)) (is.joined (length ss)))
        (λ q n. joined-more q (slice_get ss q) (is.joined q));
  }

-- at first
pub kept-none : (clock : ℤ) (ss : List Standing) (ended : List Bool) (old : Offered) (marks : List Bool) (times : List (Option ℤ)) (rows : List (List ℕ)) (counts : List ℕ) (watching : List (List ℕ))
    → ss ≡ [] → ended ≡ [] → NobodyWaits old → marks ≡ [] → times ≡ [] → rows ≡ [] → counts ≡ [] → IsKept clock ss ended old marks times rows counts watching
kept-none clock ss ended old marks times rows counts watching a b c d e f g = record {
  over = b ∙ sym (ap (map is_finished) a);
  room = let n : length ss ≡ 0 = ap length a in record { few = omega (arith, n); ready = omega (arith, n); dues = omega (arith, n); numbers = omega (arith, n); left = omega (arith, n); watchers = omega (arith, n) };
  seated = λ q. subst (λ (o : Option Standing). IsSeated o (held old q)) (sym (at q)) (c q);
  ready = λ q. ap (λ (m : List Bool). is_marked m q) d ∙ sym (ap (goes old clock counts q) (at q));
  due = λ q. subst (λ (w : Option (List Offer)). Awaits clock w (due_of times q)) (sym (c q)) (awaits-none clock (due_of times q) (ap (λ (t : List (Option ℤ)). due_of t q) e));
  ahead = record {
    there = λ q k r t. absurd (let z : None ≡ Some r = sym (ap (λ (l : List (List ℕ)). slice_get (numbers_at l q) k) f) ∙ t in cc);
    within = λ q. let z : get_or counts q 0 ≡ 0 = ap (λ (l : List ℕ). get_or l q 0) g in omega (arith, z);
  };
  joined = λ q. subst (IsJoined ended rows counts watching q) (sym (at q)) (ap (λ (l : List ℕ). get_or l q 0) g);
}
  where
    at : (q : ℕ) → slice_get ss q ≡ None
    at q = ap (λ (l : List Standing). slice_get l q) a
