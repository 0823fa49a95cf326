-- Every run means what a parser answers: by induction on the run.
use Rattle.std.proofs.Common.{◌≡◌, ℕ, Bool, true, false, List, ◌++◌, inl, inr, slice_get, refl, arith}
use Rattle.chi_grammar.specs.declared.fault.ParseFault.{ParseFault}
use Rattle.chi_grammar.specs.declared.room.Room.{Room}
use Rattle.chi_grammar.specs.Rules.{Tree, pair, none, spelling, Rule, ◌▸◌, ◌∣◌, maybe, many, when, Grammar}
use Rattle.chi_grammar.specs.Rules as rule
use Rattle.chi_grammar.specs.Trees.{Is}
use Rattle.chi_grammar.specs.Trees as is
use Rattle.chi_grammar.specs.Fronts.{Front}
use Rattle.chi_grammar.specs.Fronts as front
use Rattle.chi_grammar.specs.Lookahead.{Table, first, going_on, starts_in}
use Rattle.chi_grammar.specs.Fine.{Fine}
use Rattle.chi_grammar.specs.RuleRuns.{Outcome, Done, Fail, RuleRuns}
use Rattle.chi_grammar.specs.RuleRuns as runs
use Rattle.chi_grammar.proofs.At.{At, here, At-of_none}
use Rattle.chi_grammar.proofs.Classes.{In}
use Rattle.chi_grammar.proofs.Decided.{Decided, fine_part}
use Rattle.chi_grammar.proofs.Cases.{SeqTree, beside, ThenFront, ThenTree, WhenFront, WhenTree, front_seq, front_many, front_when, tree_seq, tree_when}
use Rattle.chi_grammar.proofs.SureSequence.{seq_follows, many_follows, when_follows}
use Rattle.chi_grammar.proofs.Means.{Ends, Any, Longest, FailMeans, Means}
use Rattle.chi_grammar.proofs.Sequence.{first_fails, then_done, then_fails}
use Rattle.chi_grammar.proofs.Through.{no_front, blocked, moves}
use Rattle.chi_grammar.proofs.Single.{word_done, part_done, part_fails, left, right, once, never, deeper, too_deep}

module _ {A S : Type 0} (g : Grammar A S) (table : Table S) (fine : Fine g table) (ts : List A) where
  -- one after the other

  seq_next : (a b : Rule A S) (room : Room) (t : Tree A S) (h : List A) → Is g room a t → Front g room b h → Front g room (a ▸ b) (spelling t ++ h)
  seq_next a b room t h p q = front.next p q refl

  both_done : (a b : Rule A S) (i j k : ℕ) (t u : Tree A S) (room : Room) → Decided table (a ▸ b)
      → Longest g ts room a i t j → Longest g ts room b j u k → Longest g ts room (a ▸ b) i (pair t u) k
  both_done a b i j k t u room d longest after =
      then_done g table fine ts a (first table b) (going_on table (a ▸ b)) (ThenFront g b) (ThenTree g b) (seq_follows g table fine ts a b d) d.0
      (a ▸ b) (λ o f p. front_seq g p) (λ o f p. front.first p) (seq_next a b) i (λ n ends o v p at. tree_seq g p)
      room t j longest b (λ o h p. p) (λ o h p. p) (λ o v p. p) u k (is.both longest.is after.is) after

  first_fails_seq : (a b : Rule A S) (i : ℕ) (room : Room) (fault : ParseFault) → Decided table (a ▸ b)
      → FailMeans g ts room a i fault → FailMeans g ts room (a ▸ b) i fault
  first_fails_seq a b i room fault d h =
      first_fails g table fine ts a (first table b) (going_on table (a ▸ b)) (ThenFront g b) (ThenTree g b) (seq_follows g table fine ts a b d) d.0
      (a ▸ b) (λ o f p. front_seq g p) (λ o f p. front.first p) (seq_next a b) i (λ n ends o v p at. tree_seq g p) room fault h

  next_fails_seq : (a b : Rule A S) (i j : ℕ) (t : Tree A S) (room : Room) (fault : ParseFault) → Decided table (a ▸ b)
      → Longest g ts room a i t j → FailMeans g ts room b j fault → FailMeans g ts room (a ▸ b) i fault
  next_fails_seq a b i j t room fault d longest h =
      then_fails g table fine ts a (first table b) (going_on table (a ▸ b)) (ThenFront g b) (ThenTree g b) (seq_follows g table fine ts a b d) d.0
      (a ▸ b) (λ o f p. front_seq g p) (λ o f p. front.first p) (seq_next a b) i (λ n ends o v p at. tree_seq g p)
      room t j longest b (λ o h p. p) (λ o h p. p) (λ o v p. p) fault h

  -- any number of times

  many_next : (a : Rule A S) (room : Room) (t : Tree A S) (h : List A) → Is g room a t → Front g room (many a) h → Front g room (many a) (spelling t ++ h)
  many_next a room t h p q = front.more p q refl

  many_tree : (a : Rule A S) (i : ℕ) → Decided table (many a) → In g ts i (first table a) → (k : ℕ) → Ends g ts (Any g ts) a i k
      → (room : Room) (t : Tree A S) → Is g room (many a) t → At ts i (spelling t) k → SeqTree g a (ThenTree g (many a)) room t
  many_tree a i d h k ends room t (is.more p q) at = beside p q
  many_tree a i d h k ends room t is.enough at =
      let end = At-of_none at refl in let lt = moves g table fine ts d.0 h ends in absurd (omega arith)

  more_done : (a : Rule A S) (i j k : ℕ) (t u : Tree A S) (room : Room) → Decided table (many a) → In g ts i (first table a)
      → Longest g ts room a i t j → Longest g ts room (many a) j u k → Longest g ts room (many a) i (pair t u) k
  more_done a i j k t u room d h longest after =
      then_done g table fine ts a (first table a) (going_on table (many a)) (ThenFront g (many a)) (ThenTree g (many a)) (many_follows g table fine ts a d) d.0
      (many a) (λ o f p. front_many g p) (λ o f p. front.one p) (many_next a) i (many_tree a i d h)
      room t j longest (many a) (λ o h p. p) (λ o h p. p) (λ o v p. p) u k (is.more longest.is after.is) after

  item_fails : (a : Rule A S) (i : ℕ) (room : Room) (fault : ParseFault) → Decided table (many a) → In g ts i (first table a)
      → FailMeans g ts room a i fault → FailMeans g ts room (many a) i fault
  item_fails a i room fault d h fails =
      first_fails g table fine ts a (first table a) (going_on table (many a)) (ThenFront g (many a)) (ThenTree g (many a)) (many_follows g table fine ts a d) d.0
      (many a) (λ o f p. front_many g p) (λ o f p. front.one p) (many_next a) i (many_tree a i d h) room fault fails

  rest_fails : (a : Rule A S) (i j : ℕ) (t : Tree A S) (room : Room) (fault : ParseFault) → Decided table (many a) → In g ts i (first table a)
      → Longest g ts room a i t j → FailMeans g ts room (many a) j fault → FailMeans g ts room (many a) i fault
  rest_fails a i j t room fault d h longest fails =
      then_fails g table fine ts a (first table a) (going_on table (many a)) (ThenFront g (many a)) (ThenTree g (many a)) (many_follows g table fine ts a d) d.0
      (many a) (λ o f p. front_many g p) (λ o f p. front.one p) (many_next a) i (many_tree a i d h)
      room t j longest (many a) (λ o h p. p) (λ o h p. p) (λ o v p. p) fault fails

  enough : (a : Rule A S) (i : ℕ) (room : Room) → Decided table (many a) → starts_in g.class_of (first table a) (slice_get ts i) ≡ false
      → Longest g ts room (many a) i none i
  enough a i room d h = record {
    is = is.enough;
    at = here;
    ends = λ other f n e p at. no_front g table fine ts {r = many a} d h other f n p at;
  }

  -- what the tree before it chooses

  module _ (a b c : Rule A S) (test : Tree A S → Bool) (d : Decided table (when a test b c)) (i : ℕ) (room : Room) where
    when_next : (o : Room) (t : Tree A S) (h : List A) → Is g o a t → WhenFront g test b c t o h → Front g o (when a test b c) (spelling t ++ h)
    when_next o t h p (inl q) = front.chosen p q.0 q.1 refl
    when_next o t h p (inr q) = front.otherwise p q.0 q.1 refl

    test_fails : (fault : ParseFault) → FailMeans g ts room a i fault → FailMeans g ts room (when a test b c) i fault
    test_fails fault h =
        first_fails g table fine ts a (first table b ++ first table c) (going_on table (when a test b c)) (WhenFront g test b c) (WhenTree g test b c)
        (when_follows g table fine ts a test b c d) d.0
        (when a test b c) (λ o f p. front_when g p) (λ o f p. front.before p) when_next i (λ n ends o v p at. tree_when g p) room fault h

    module _ (t : Tree A S) (j : ℕ) (longest : Longest g ts room a i t j) where
      of_chosen : test t ≡ true → (o : Room) (h : List A) → WhenFront g test b c t o h → Front g o b h
      of_chosen e o h (inl p) = p.1
      of_chosen e o h (inr p) = let other = p.0 in cc

      tree_of_chosen : test t ≡ true → (o : Room) (u : Tree A S) → WhenTree g test b c t o u → Is g o b u
      tree_of_chosen e o u (inl p) = p.1
      tree_of_chosen e o u (inr p) = let other = p.0 in cc

      of_other : test t ≡ false → (o : Room) (h : List A) → WhenFront g test b c t o h → Front g o c h
      of_other e o h (inr p) = p.1
      of_other e o h (inl p) = let other = p.0 in cc

      tree_of_other : test t ≡ false → (o : Room) (u : Tree A S) → WhenTree g test b c t o u → Is g o c u
      tree_of_other e o u (inr p) = p.1
      tree_of_other e o u (inl p) = let other = p.0 in cc

      chosen_done : (u : Tree A S) (k : ℕ) → test t ≡ true → Longest g ts room b j u k → Longest g ts room (when a test b c) i (pair t u) k
      chosen_done u k e after =
          then_done g table fine ts a (first table b ++ first table c) (going_on table (when a test b c)) (WhenFront g test b c) (WhenTree g test b c)
          (when_follows g table fine ts a test b c d) d.0
          (when a test b c) (λ o f p. front_when g p) (λ o f p. front.before p) when_next i (λ n ends o v p at. tree_when g p)
          room t j longest b (λ o h p. inl (e, p)) (of_chosen e) (tree_of_chosen e) u k (is.chosen longest.is e after.is) after

      chosen_fails : (fault : ParseFault) → test t ≡ true → FailMeans g ts room b j fault → FailMeans g ts room (when a test b c) i fault
      chosen_fails fault e h =
          then_fails g table fine ts a (first table b ++ first table c) (going_on table (when a test b c)) (WhenFront g test b c) (WhenTree g test b c)
          (when_follows g table fine ts a test b c d) d.0
          (when a test b c) (λ o f p. front_when g p) (λ o f p. front.before p) when_next i (λ n ends o v p at. tree_when g p)
          room t j longest b (λ o h p. inl (e, p)) (of_chosen e) (tree_of_chosen e) fault h

      other_done : (u : Tree A S) (k : ℕ) → test t ≡ false → Longest g ts room c j u k → Longest g ts room (when a test b c) i (pair t u) k
      other_done u k e after =
          then_done g table fine ts a (first table b ++ first table c) (going_on table (when a test b c)) (WhenFront g test b c) (WhenTree g test b c)
          (when_follows g table fine ts a test b c d) d.0
          (when a test b c) (λ o f p. front_when g p) (λ o f p. front.before p) when_next i (λ n ends o v p at. tree_when g p)
          room t j longest c (λ o h p. inr (e, p)) (of_other e) (tree_of_other e) u k (is.otherwise longest.is e after.is) after

      other_fails : (fault : ParseFault) → test t ≡ false → FailMeans g ts room c j fault → FailMeans g ts room (when a test b c) i fault
      other_fails fault e h =
          then_fails g table fine ts a (first table b ++ first table c) (going_on table (when a test b c)) (WhenFront g test b c) (WhenTree g test b c)
          (when_follows g table fine ts a test b c d) d.0
          (when a test b c) (λ o f p. front_when g p) (λ o f p. front.before p) when_next i (λ n ends o v p at. tree_when g p)
          room t j longest c (λ o h p. inr (e, p)) (of_other e) (tree_of_other e) fault h

  -- all rules

  pub means : {room : Room} {r : Rule A S} {i : ℕ} {o : Outcome A S} → Decided table r → RuleRuns g table ts room r i o → Means g ts room r i o
  means d (runs.word {room = room} {class = class} {i = i} {x = x} at e) = word_done g table fine ts room class i x at e
  means d (runs.no_word {class = class} h) = blocked g table fine ts {r = rule.word class} d refl h
  means d (runs.part {room = room} {s = s} {i = i} {j = j} {t = t} p) =
      part_done g table fine ts room s i j t (means (fine_part g table fine s).decides p)
  means d (runs.part_fails {room = room} {s = s} {i = i} {fault = fault} p) =
      part_fails g table fine ts room s i fault (means (fine_part g table fine s).decides p)
  means d (runs.both {room = room} {a = a} {b = b} {i = i} {j = j} {k = k} {t = t} {u = u} p q) =
      both_done a b i j k t u room d (means d.0 p) (means d.1 q)
  means d (runs.first_fails {room = room} {a = a} {b = b} {i = i} {fault = fault} p) = first_fails_seq a b i room fault d (means d.0 p)
  means d (runs.next_fails {room = room} {a = a} {b = b} {i = i} {j = j} {t = t} {fault = fault} p q) =
      next_fails_seq a b i j t room fault d (means d.0 p) (means d.1 q)
  means d (runs.left {room = room} {a = a} {b = b} {i = i} {o = o} h p) = left g table fine ts room a b i o d h (means d.0 p)
  means d (runs.right {room = room} {a = a} {b = b} {i = i} {o = o} h p) = right g table fine ts room a b i o d h (means d.1 p)
  means d (runs.once {room = room} {a = a} {i = i} {o = o} h p) = once g table fine ts room a i o d h (means d.0 p)
  means d (runs.never {room = room} {a = a} {i = i} h) = never g table fine ts room a i d h
  means d (runs.more {room = room} {a = a} {i = i} {j = j} {k = k} {t = t} {u = u} h p q) =
      more_done a i j k t u room d h (means d.0 p) (means d q)
  means d (runs.item_fails {room = room} {a = a} {i = i} {fault = fault} h p) = item_fails a i room fault d h (means d.0 p)
  means d (runs.rest_fails {room = room} {a = a} {i = i} {j = j} {t = t} {fault = fault} h p q) =
      rest_fails a i j t room fault d h (means d.0 p) (means d q)
  means d (runs.enough {room = room} {a = a} {i = i} h) = enough a i room d h
  means d (runs.deeper {room = room} {inner = inner} {nesting = nesting} {a = a} {i = i} {o = o} h p) =
      deeper g table fine ts room inner nesting a i o h (means d.0 p)
  means d (runs.too_deep {room = room} {nesting = nesting} {a = a} {i = i} full h) = too_deep g table fine ts room nesting a i d full h
  means d (runs.not_deeper {nesting = nesting} {a = a} full h) = blocked g table fine ts {r = rule.deeper nesting a} d d.1 h
  means d (runs.chosen {room = room} {a = a} {b = b} {c = c} {test = test} {i = i} {j = j} {k = k} {t = t} {u = u} p e q) =
      chosen_done a b c test d i room t j (means d.0 p) u k e (means d.1 q)
  means d (runs.otherwise {room = room} {a = a} {b = b} {c = c} {test = test} {i = i} {j = j} {k = k} {t = t} {u = u} p e q) =
      other_done a b c test d i room t j (means d.0 p) u k e (means d.2 q)
  means d (runs.test_fails {room = room} {a = a} {b = b} {c = c} {test = test} {i = i} {fault = fault} p) =
      test_fails a b c test d i room fault (means d.0 p)
  means d (runs.chosen_fails {room = room} {a = a} {b = b} {c = c} {test = test} {i = i} {j = j} {t = t} {fault = fault} p e q) =
      chosen_fails a b c test d i room t j (means d.0 p) fault e (means d.1 q)
  means d (runs.otherwise_fails {room = room} {a = a} {b = b} {c = c} {test = test} {i = i} {j = j} {t = t} {fault = fault} p e q) =
      other_fails a b c test d i room t j (means d.0 p) fault e (means d.2 q)
  means d runs.no_memory = tt
