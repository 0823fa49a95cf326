-- Texts that are still to be written, with something before each.
use Rattle.std.proofs.Common.{◌≡◌, ℕ, ◌+◌, ◌<◌, ◌≤◌, List, ◌∷◌, ◌++◌, map, length, drop, get_or, drop-cons, suc, sym, ap, ◌∙◌, append_assoc, length-append, add-one, arith}
use Rattle.chi_value.specs.declared.text.fault.TextFault.{TextFault}
use Rattle.chi_value.specs.declared.text.fault.TextFault.TheVariants as fault
use Rattle.chi_value.specs.declared.value.Value.{Value}
use Rattle.chi_value.specs.Limit.{PastLimit}
use Rattle.chi_value.specs.Text.{Written, each_after}

-- what refuses a text refuses a longer one
pub past_longer : (f : TextFault) (m n : ℕ) → PastLimit f m → m ≤ n → PastLimit f n
past_longer fault.Limit m n past le = omega (arith, past, le)
past_longer fault.NoMemory m n past le = tt

module _ (show : Value → Written) (pick : Written → List ℕ) (between : List ℕ) where
  abbrev texts_of : List Value → List (List ℕ)
  texts_of values = map pick (map show values)

  -- the next of them
  pub next_text : (values : List Value) (i : ℕ) (value : Value) (text whole : List ℕ) →
      i < length values → value ≡ get_or values i value → text ++ each_after between (texts_of (drop i values)) ≡ whole →
      text ++ (between ++ pick (show value) ++ each_after between (texts_of (drop (i + 1) values))) ≡ whole
  next_text values i value text whole below at is =
      let next : drop i values ≡ value ∷ drop (suc i) values = drop-cons values i value below ∙ ap (λ v. v ∷ drop (suc i) values) (sym at) in
      let later : drop (i + 1) values ≡ drop (suc i) values = ap (λ k. drop k values) (add-one i) in
      ap (λ rest. text ++ (between ++ pick (show value) ++ each_after between (texts_of rest))) later ∙
      ap (λ rest. text ++ each_after between (texts_of rest)) (sym next) ∙ is

  -- after what stands between, and the text
  pub rest_after : (values : List Value) (i : ℕ) (value : Value) (text between_written written whole : List ℕ) →
      i < length values → value ≡ get_or values i value → text ++ each_after between (texts_of (drop i values)) ≡ whole →
      between_written ≡ text ++ between → written ≡ between_written ++ pick (show value) →
      written ++ each_after between (texts_of (drop (i + 1) values)) ≡ whole
  rest_after values i value text between_written written whole below at is first second =
      let p = pick (show value) in
      let e = each_after between (texts_of (drop (i + 1) values)) in
      let grown = ap (λ w. w ++ e) (second ∙ ap (λ w. w ++ p) first) in
      let regrouped : ((text ++ between) ++ p) ++ e ≡ text ++ ((between ++ p) ++ e) = simp append_assoc in
      grown ∙ regrouped ∙ next_text values i value text whole below at is

  pub past_between : (f : TextFault) (values : List Value) (i : ℕ) (value : Value) (text old more : List ℕ) →
      i < length values → value ≡ get_or values i value →
      text ++ each_after between (texts_of (drop i values)) ≡ old ++ more →
      PastLimit f (length text + length between) → PastLimit f (length old + length more)
  past_between f values i value text old more below at is past =
      let goes = ap length (next_text values i value text (old ++ more) below at is) in
      past_longer f _ _ past (omega (arith, simp length-append at goes))

  pub past_text : (f : TextFault) (values : List Value) (i : ℕ) (value : Value) (text between_written old more : List ℕ) →
      i < length values → value ≡ get_or values i value →
      text ++ each_after between (texts_of (drop i values)) ≡ old ++ more → between_written ≡ text ++ between →
      PastLimit f (length between_written + length (pick (show value))) → PastLimit f (length old + length more)
  past_text f values i value text between_written old more below at is first past =
      let goes = ap length (next_text values i value text (old ++ more) below at is) in
      let so_far = ap length first in
      past_longer f _ _ past (omega (arith, simp length-append at goes, simp length-append at so_far))
