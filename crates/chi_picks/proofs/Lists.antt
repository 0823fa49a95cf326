-- A text has one list of picks, or one first line that doesn't fit.
use Rattle.std.proofs.Common.{◌≡◌, ◌≢◌, ℕ, zero, suc, ◌+◌, ◌≤◌, List, [], ◌∷◌, ◌++◌, length, ◌⊎◌, inl, inr, refl, sym, ◌∙◌, ap, arith, append_assoc, append-nil}
use Rattle.std.specs.Prelude.{Option, Some, None}
use Rattle.std.specs.List.{flat_map}
use Rattle.chi_trace.specs.Ends.{OneLine, IsCut}
use Rattle.chi_trace.specs.Logs.{ended}
use Rattle.chi_trace.proofs.OneLine.{no_line, parted}
use Rattle.chi_trace.proofs.LogLaws.{cut_shorter}
use Rattle.chi_picks.specs.Lists.{AreOf, BeginsOddly, Has, Misfits, pick_in}
use Rattle.chi_picks.proofs.Lines.{first_pick, one_last, one_more, other_picks, lines_last, pick_one, same_line, some_line}

-- what follows of a line more in front

lines_after : (line more : List ℕ) (lines : List (List ℕ)) (rest text : List ℕ) → IsCut text line more → more ≡ flat_map ended lines ++ rest
    → text ≡ flat_map ended (line ∷ lines) ++ rest
lines_after line more lines rest text c is = c.is ∙ ap (λ xs. ended line ++ xs) is ∙ sym (append_assoc (ended line) (flat_map ended lines) rest)

has_more : (text line more : List ℕ) (pick : ℕ) → IsCut text line more → pick_in line ≡ Some pick → (picks : List ℕ) → Has more picks → Has text (pick ∷ picks)
has_more text line more pick c is picks h = record {
  lines = line ∷ h.lines;
  are = one_more line h.lines pick picks is h.are;
  is = c.is ∙ ap (λ xs. ended line ++ xs) h.is;
}

misfits_more : (text line more : List ℕ) (pick : ℕ) → IsCut text line more → pick_in line ≡ Some pick → (k : ℕ) → Misfits more k → Misfits text (k + 1)
misfits_more text line more pick c is k m =
    let counted = m.counted in
    record {
      lines = line ∷ m.lines;
      picks = pick ∷ m.picks;
      are = one_more line m.lines pick m.picks is m.are;
      rest = m.rest;
      odd = m.odd;
      is = lines_after line more m.lines m.rest text c m.is;
      counted = omega arith;
    }

first_misfits : (text : List ℕ) → BeginsOddly text → Misfits text 1
first_misfits text odd = record { lines = []; picks = []; are = refl; rest = text; odd = odd; is = refl; counted = refl }

-- a text without a line feed, and one whose first line is no number
pub open_odd : (text : List ℕ) → OneLine text → text ≢ [] → BeginsOddly text
open_odd text one some = record { some = some; no_line = λ line more pick is. no_line line more text one }

pub other_odd : (text line more : List ℕ) → IsCut text line more → pick_in line ≡ None → BeginsOddly text
other_odd text line more c none = record {
  some = λ e. some_line line more (sym c.is ∙ e);
  no_line = λ other rest pick is e.
      let same : line ≡ other = (same_line line other more rest pick c.one_line is (sym c.is ∙ e)).0 in
      let both : None ≡ Some pick = sym none ∙ ap pick_in same ∙ is in
      cc;
}

abbrev Answer : List ℕ → Type 0
Answer text = ((picks : List ℕ) × Has text picks) ⊎ ((k : ℕ) × Misfits text k)

one_line : (text : List ℕ) → OneLine text → Answer text
one_line [] one = inl ([], record { lines = []; are = refl; is = refl })
one_line (c ∷ cs) one = inr (1, first_misfits (c ∷ cs) (open_odd (c ∷ cs) one (λ e. cc)))

answer_within : (most : ℕ) (text : List ℕ) → length text ≤ most → Answer text
answer_within zero text short = none text short
  where
    none : (text : List ℕ) → length text ≤ 0 → Answer text
    none [] short = one_line [] refl
    none (c ∷ cs) short = absurd (omega arith)
answer_within (suc most) text short = by (λ more shorter. answer_within most more shorter) (parted text)
  where
    after : (line more : List ℕ) → IsCut text line more → (o : Option ℕ) → pick_in line ≡ o → Answer more → Answer text
    after line more c None is rest = inr (1, first_misfits text (other_odd text line more c is))
    after line more c (Some pick) is (inl h) = inl (pick ∷ h.0, has_more text line more pick c is h.0 h.1)
    after line more c (Some pick) is (inr m) = inr (m.0 + 1, misfits_more text line more pick c is m.0 m.1)

    by : ((more : List ℕ) → length more ≤ most → Answer more) → OneLine text ⊎ ((line : List ℕ) × (more : List ℕ) × IsCut text line more) → Answer text
    by shorter_answer (inl one) = one_line text one
    by shorter_answer (inr (line, more, c)) =
        let shorter = cut_shorter text line more c in after line more c (pick_in line) refl (shorter_answer more (omega arith))

pub answer : (text : List ℕ) → Answer text
answer text = answer_within (length text) text (omega arith)

-- and no other

same_picks : (xs ys : List (List ℕ)) (ps qs : List ℕ) → AreOf xs ps → AreOf ys qs → flat_map ended xs ≡ flat_map ended ys → ps ≡ qs
same_picks [] [] [] [] a b e = refl
same_picks [] [] [] (q ∷ qs) a b e = absurd (cc)
same_picks [] [] (p ∷ ps) qs a b e = absurd (cc)
same_picks [] (y ∷ ys) ps qs a b e = absurd (some_line y (flat_map ended ys) (sym e))
same_picks (x ∷ xs) [] ps qs a b e = absurd (some_line x (flat_map ended xs) e)
same_picks (x ∷ xs) (y ∷ ys) [] qs a b e = absurd (cc)
same_picks (x ∷ xs) (y ∷ ys) (p ∷ ps) [] a b e = absurd (cc)
same_picks (x ∷ xs) (y ∷ ys) (p ∷ ps) (q ∷ qs) a b e =
    let first = first_pick x xs p ps a in
    let second = first_pick y ys q qs b in
    let same = same_line x y (flat_map ended xs) (flat_map ended ys) q (pick_one x p first) second e in
    let both : Some p ≡ Some q = sym first ∙ ap pick_in same.0 ∙ second in
    let heads : p ≡ q = cc in
    let tails = same_picks xs ys ps qs (other_picks x xs p ps a) (other_picks y ys q qs b) same.1 in
    λ i. heads i ∷ tails i

pub one_list : (text picks other : List ℕ) → Has text picks → Has text other → picks ≡ other
one_list text picks other p q = same_picks p.lines q.lines picks other p.are q.are (sym p.is ∙ q.is)

never : (xs ys : List (List ℕ)) (ps qs rest : List ℕ) → AreOf xs ps → AreOf ys qs → BeginsOddly rest → flat_map ended xs ≡ flat_map ended ys ++ rest → ⊥
never [] [] ps qs rest a b odd e = odd.some (sym e)
never [] (y ∷ ys) ps qs rest a b odd e = some_line y (flat_map ended ys ++ rest) (sym (append_assoc (ended y) (flat_map ended ys) rest) ∙ sym e)
never (x ∷ xs) ys [] qs rest a b odd e = cc
never (x ∷ xs) [] (p ∷ ps) qs rest a b odd e = odd.no_line x (flat_map ended xs) p (first_pick x xs p ps a) (sym e)
never (x ∷ xs) (y ∷ ys) (p ∷ ps) [] rest a b odd e = cc
never (x ∷ xs) (y ∷ ys) (p ∷ ps) (q ∷ qs) rest a b odd e =
    let same = same_line x y (flat_map ended xs) (flat_map ended ys ++ rest) q (pick_one x p (first_pick x xs p ps a)) (first_pick y ys q qs b)
    (e ∙ append_assoc (ended y) (flat_map ended ys) rest) in
    never xs ys ps qs rest (other_picks x xs p ps a) (other_picks y ys q qs b) odd same.1

pub apart : (text picks : List ℕ) (k : ℕ) → Has text picks → Misfits text k → ⊥
apart text picks k h m = never h.lines m.lines picks m.picks m.rest h.are m.are m.odd (sym h.is ∙ m.is)

same_count : (xs ys : List (List ℕ)) (ps qs left rest : List ℕ) → AreOf xs ps → AreOf ys qs → BeginsOddly left → BeginsOddly rest
    → flat_map ended xs ++ left ≡ flat_map ended ys ++ rest → length xs ≡ length ys
same_count [] [] ps qs left rest a b odd late e = refl
same_count [] (y ∷ ys) ps [] left rest a b odd late e = absurd (cc)
same_count [] (y ∷ ys) ps (q ∷ qs) left rest a b odd late e =
    absurd (odd.no_line y (flat_map ended ys ++ rest) q (first_pick y ys q qs b) (e ∙ append_assoc (ended y) (flat_map ended ys) rest))
same_count (x ∷ xs) [] [] qs left rest a b odd late e = absurd (cc)
same_count (x ∷ xs) [] (p ∷ ps) qs left rest a b odd late e =
    absurd (late.no_line x (flat_map ended xs ++ left) p (first_pick x xs p ps a) (sym e ∙ append_assoc (ended x) (flat_map ended xs) left))
same_count (x ∷ xs) (y ∷ ys) [] qs left rest a b odd late e = absurd (cc)
same_count (x ∷ xs) (y ∷ ys) (p ∷ ps) [] left rest a b odd late e = absurd (cc)
same_count (x ∷ xs) (y ∷ ys) (p ∷ ps) (q ∷ qs) left rest a b odd late e =
    let same = same_line x y (flat_map ended xs ++ left) (flat_map ended ys ++ rest) q (pick_one x p (first_pick x xs p ps a)) (first_pick y ys q qs b)
    (sym (append_assoc (ended x) (flat_map ended xs) left) ∙ e ∙ append_assoc (ended y) (flat_map ended ys) rest) in
    ap suc (same_count xs ys ps qs left rest (other_picks x xs p ps a) (other_picks y ys q qs b) odd late same.1)

pub one_place : (text : List ℕ) (j k : ℕ) → Misfits text j → Misfits text k → j ≡ k
one_place text j k m n =
    m.counted ∙ ap (λ l. l + 1) (same_count m.lines n.lines m.picks n.picks m.rest n.rest m.are n.are m.odd n.odd (sym m.is ∙ n.is)) ∙ sym n.counted

-- the loop over the lines

-- so many picks were read of a text, up to here
pub record Reads (text picks rest : List ℕ) : Type 0 where
  pub lines : List (List ℕ)
  pub are : AreOf lines picks
  pub is : text ≡ flat_map ended lines ++ rest

pub reads_none : (text : List ℕ) → Reads text [] text
reads_none text = record { lines = []; are = refl; is = refl }

pub reads_next : (text picks rest line more : List ℕ) (pick : ℕ) → Reads text picks rest → IsCut rest line more → pick_in line ≡ Some pick
    → Reads text (picks ++ pick ∷ []) more
reads_next text picks rest line more pick r c is = record {
  lines = r.lines ++ line ∷ [];
  are = one_last r.lines picks line pick r.are is;
  is = r.is ∙ ap (λ xs. flat_map ended r.lines ++ xs) c.is ∙ sym (append_assoc (flat_map ended r.lines) (ended line) more)
      ∙ ap (λ xs. xs ++ more) (sym (lines_last r.lines line));
}

count_alike : (lines : List (List ℕ)) (picks : List ℕ) → AreOf lines picks → length lines ≡ length picks
count_alike [] [] are = refl
count_alike [] (p ∷ ps) are = absurd (cc)
count_alike (l ∷ ls) [] are = absurd (cc)
count_alike (l ∷ ls) (p ∷ ps) are = ap suc (count_alike ls ps (other_picks l ls p ps are))

pub reads_all : (text picks rest : List ℕ) → Reads text picks rest → rest ≡ [] → Has text picks
reads_all text picks rest r none = record {
  lines = r.lines;
  are = r.are;
  is = r.is ∙ ap (λ xs. flat_map ended r.lines ++ xs) none ∙ append-nil (flat_map ended r.lines);
}

pub reads_odd : (text picks rest : List ℕ) → Reads text picks rest → BeginsOddly rest → Misfits text (length picks + 1)
reads_odd text picks rest r odd = record {
  lines = r.lines;
  picks = picks;
  are = r.are;
  rest = rest;
  odd = odd;
  is = r.is;
  counted = ap (λ n. n + 1) (sym (count_alike r.lines picks r.are));
}
