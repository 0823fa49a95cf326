-- Variables of a body that begins, as its arguments come off the end of a list, the last one first.
use Rattle.std.proofs.Common.{◌≡◌, ◌≢◌, ℕ, zero, suc, ◌+◌, ◌-◌, ◌<◌, ◌≤◌, slice_set, List, [], ◌∷◌, ◌++◌, Option, Some, None, length, take, drop, sym, ◌∙◌, ap, subst, refl, arith, length-append}
use Rattle.std.specs.Prelude.{map, replicate}
use Rattle.std.proofs.lemmas.List.{append-nil, append_assoc, length-map, length-replicate, replicate_more}
use Rattle.std.proofs.Math.Seq.{drop-append_seam, take-append_seam, set-append_seam}
use Rattle.chi_value.specs.declared.value.Value.{Value}
use Rattle.chi_core.specs.Variables.{Variables, variables_of}

set_last : (k : ℕ) (y : Option Value) (ys : Variables) → slice_set (replicate k None ++ None ∷ ys) k y ≡ replicate k None ++ y ∷ ys
set_last k y ys = ap (λ n. slice_set (replicate k None ++ None ∷ ys) n y) (sym (length-replicate k None)) ∙ set-append_seam (replicate k None) None ys y

-- How far the filling has come: so many slots wait yet, and behind them stand the last values of the list.
pub record Filled (arity left : ℕ) (slots : Variables) (old now : List Value) : Type 0 where
  pub last : List Value
  pub split : old ≡ now ++ last
  pub size : left + length last ≡ arity
  pub stand : slots ≡ replicate left None ++ map Some last

pub fill_begins : (arity : ℕ) (slots : Variables) (values : List Value) → slots ≡ replicate arity None → Filled arity arity slots values values
fill_begins arity slots values e = record {
  last = [];
  split = sym (append-nil values);
  size = omega arith;
  stand = e ∙ sym (append-nil (replicate arity None));
}

-- the next slot is there, and so is the value for it
module _ (arity left : ℕ) (slots : Variables) (old now : List Value) (f : Filled arity left slots old now) where
  pub fill_there : 0 < left → left - 1 < length slots
  fill_there h =
      let n : length slots ≡ left + length f.last = ap length f.stand ∙ length-append (replicate left None) (map Some f.last) ∙ (λ j. length-replicate {A = Option Value} left None j + length-map f.last Some j) in
      omega (arith, h, n)

  pub fill_enough : 0 < left → arity ≤ length old → now ≢ []
  fill_enough h enough e =
      let n : length old ≡ length f.last = ap length (f.split ∙ ap (λ l. l ++ f.last) e) in
      let s = f.size in
      absurd (omega (arith, h, enough, n, s))

  pub fill_goes : (less : ℕ) (new : Variables) (later : List Value) (x : Value) → left ≡ less + 1 → now ≡ later ++ x ∷ [] → new ≡ slice_set slots less (Some x) → Filled arity less new old later
  fill_goes less new later x n e is = record {
    last = x ∷ f.last;
    split = f.split ∙ ap (λ l. l ++ f.last) e ∙ append_assoc later (x ∷ []) f.last;
    size = let s = f.size in omega (arith, s, n);
    stand =
        is
        ∙ ap (λ l. slice_set l less (Some x)) (f.stand ∙ ap (λ n. replicate n None ++ map Some f.last) n ∙ ap (λ l. l ++ map Some f.last) (sym (replicate_more less None)) ∙ append_assoc (replicate less None) (None ∷ []) (map Some f.last))
        ∙ set_last less (Some x) (map Some f.last);
  }

-- no slot waits any longer
module _ (arity left : ℕ) (slots : Variables) (old now : List Value) (f : Filled arity left slots old now) (over : left ≤ 0) where
  none : left ≡ 0
  none = omega (arith, over)

  front : length old - arity ≡ length now
  front = let s = f.size in let l : length old ≡ length now + length f.last = ap length f.split ∙ length-append now f.last in omega (arith, s, l, over)

  pub filled_slots : slots ≡ map Some (drop (length old - arity) old)
  filled_slots =
      f.stand
      ∙ ap (λ n. replicate n None ++ map Some f.last) none
      ∙ ap (map Some) (sym (ap (λ n. drop n old) front ∙ ap (drop (length now)) f.split ∙ drop-append_seam now f.last))

  pub filled_rest : now ≡ take (length old - arity) old
  filled_rest = sym (ap (λ n. take n old) front ∙ ap (take (length now)) f.split ∙ take-append_seam now f.last)

pub all_wait : (slots : Variables) (arity : ℕ) → slots ≡ [] → slots ++ replicate (arity - length slots) None ≡ replicate arity None
all_wait slots arity e = ap (λ (l : Variables). l ++ replicate (arity - length l) None) e ∙ ap (λ n. replicate n None) (let s : arity - 0 ≡ arity = omega arith in s)

pub begun_is : (slots : ℕ) (arguments : List Value) (variables : Variables) → variables ≡ map Some arguments → variables ++ replicate (slots - length variables) None ≡ variables_of slots arguments
begun_is slots arguments variables e =
    ap (λ (l : Variables). l ++ replicate (slots - length l) None) e ∙ ap (λ n. map Some arguments ++ replicate (slots - n) None) (length-map arguments Some)

pub ruleset beginning = (all_wait, begun_is)

pub ruleset filling = (fill_begins, fill_there, fill_goes, filled_slots, filled_rest)
