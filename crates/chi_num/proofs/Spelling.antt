-- A text is spelled in one way at most.
use Rattle.std.proofs.Common.{◌≡◌, ℕ, ◌<◌, ◌&&◌, ◌↔◌, IsTrue, Bool, true, false, Some, List, [], ◌∷◌, ◌++◌, length, refl, sym, ◌∙◌, arith, ℤ, slice_get, append_assoc}
use Rattle.std.proofs.lemmas.Bool.{false≢true}
use Rattle.std.specs.Char.{is_ascii_digit}
use Rattle.std.specs.List.{list_all}
use Rattle.chi_num.specs.Decimal.{AreDigits, IsAfterDigits, number_of, point_and, sign_text, signed}
use Rattle.chi_num.specs.ReadInt.{IsInt, MeansInt}
use Rattle.chi_num.specs.ReadReal.{IsDecimal, IsValue, MeansReal}
use Rattle.chi_num.proofs.Decimal.{power_pos}
use Rattle.chi_num.proofs.Nearest.{one_nearest}

pub and_both : (a b : Bool) → (a && b) ≡ true → (a ≡ true) × (b ≡ true)
and_both true b e = (refl, e)
and_both false b e = absurd (cc)

-- a byte that is a digit and none
no_digit : (c d : ℕ) → is_ascii_digit c ≡ true → is_ascii_digit d ≡ false → c ≡ d → ⊥
no_digit c d is isn't e = cc

-- digits end where another byte comes
digits_end : (a b w v : List ℕ) → AreDigits a → AreDigits w → IsAfterDigits b → IsAfterDigits v → a ++ b ≡ w ++ v → (a ≡ w) × (b ≡ v)
digits_end [] b [] v p q r s e = (refl, e)
digits_end [] [] (y ∷ ys) v p q r s e = absurd (cc)
digits_end [] (x ∷ xs) (y ∷ ys) v p q r s e =
    absurd (no_digit y x (and_both (is_ascii_digit y) (list_all is_ascii_digit ys) q).0 r (cc))
digits_end (x ∷ xs) b [] [] p q r s e = absurd (cc)
digits_end (x ∷ xs) b [] (y ∷ ys) p q r s e =
    absurd (no_digit x y (and_both (is_ascii_digit x) (list_all is_ascii_digit xs) p).0 s (cc))
digits_end (x ∷ xs) b (y ∷ ys) v p q r s e =
    let first : x ≡ y = cc in
    let rest : xs ++ b ≡ ys ++ v = cc in
    let more = digits_end xs b ys v (and_both (is_ascii_digit x) (list_all is_ascii_digit xs) p).1 (and_both (is_ascii_digit y) (list_all is_ascii_digit ys) q).1 r s rest in
    let same : xs ≡ ys = more.0 in
    (cc, more.1)

after_point : (fraction : List ℕ) → IsAfterDigits (point_and fraction)
after_point [] = tt
after_point (c ∷ cs) = refl

same_fraction : (f g : List ℕ) → point_and f ≡ point_and g → f ≡ g
same_fraction [] [] e = refl
same_fraction [] (d ∷ ds) e = absurd (cc)
same_fraction (c ∷ cs) [] e = absurd (cc)
same_fraction (c ∷ cs) (d ∷ ds) e = cc

-- a minus is no digit
same_sign : (text : List ℕ) (minus : Bool) (unsigned : List ℕ) (m : Bool) (w v : List ℕ) → text ≡ sign_text minus ++ unsigned → (IsTrue minus ↔ (slice_get text 0 ≡ Some 45)) → 0 < length w → AreDigits w → text ≡ sign_text m ++ (w ++ v) → (m ≡ minus) × (w ++ v ≡ unsigned)
same_sign text minus unsigned m [] v e t some are u = absurd (omega arith)
same_sign text true unsigned true (c ∷ cs) v e t some are u = (refl, cc)
same_sign text false unsigned false (c ∷ cs) v e t some are u = (refl, cc)
same_sign text true unsigned false (c ∷ cs) v e t some are u =
    absurd (no_digit c 45 (and_both (is_ascii_digit c) (list_all is_ascii_digit cs) are).0 refl (cc))
same_sign text false unsigned true (c ∷ cs) v e t some are u = absurd (false≢true (t.1 (rw u refl)))

-- where a text is cut at its sign and its digits, it is spelled so
pub cut_is : (text : List ℕ) (minus : Bool) (unsigned whole after : List ℕ) (m : Bool) (w f : List ℕ) → text ≡ sign_text minus ++ unsigned → (IsTrue minus ↔ (slice_get text 0 ≡ Some 45)) → unsigned ≡ whole ++ after → AreDigits whole → IsAfterDigits after → IsDecimal text m w f → (m ≡ minus) × (w ≡ whole) × (after ≡ point_and f)
cut_is text minus unsigned whole after m w f e t c are ends i =
    let sign = same_sign text minus unsigned m w (point_and f) e t i.some i.digits (i.spelled ∙ append_assoc (sign_text m) w (point_and f)) in
    let parts = digits_end w (point_and f) whole after i.digits are (after_point f) ends (sign.1 ∙ c) in
    (sign.0, parts.0, sym parts.1)

-- the first byte tells the sign
first_byte : (text : List ℕ) (m : Bool) (w v : List ℕ) → 0 < length w → AreDigits w → text ≡ sign_text m ++ (w ++ v) → IsTrue m ↔ (slice_get text 0 ≡ Some 45)
first_byte text m [] v some are e = absurd (omega arith)
first_byte text true (c ∷ cs) v some are e = ((λ t. rw e refl), (λ h. refl))
first_byte text false (c ∷ cs) v some are e = (
  (λ t. absurd (false≢true t)),
  (λ h. let same : Some c ≡ Some 45 = rw e at h in absurd (no_digit c 45 (and_both (is_ascii_digit c) (list_all is_ascii_digit cs) are).0 refl (cc))),
)

-- a text has one spelling
pub one_decimal : (text : List ℕ) (m n : Bool) (v w f g : List ℕ) → IsDecimal text m v f → IsDecimal text n w g → (m ≡ n) × (v ≡ w) × (f ≡ g)
one_decimal text m n v w f g i j =
    let e = j.spelled ∙ append_assoc (sign_text n) w (point_and g) in
    let first = first_byte text n w (point_and g) j.some j.digits e in
    let cut = cut_is text n (w ++ point_and g) w (point_and g) m v f e first refl j.digits (after_point g) i in
    (cut.0, cut.1, sym (same_fraction g f cut.2))

pub decimal_of_int : (text : List ℕ) (m : Bool) (v : List ℕ) → IsInt text m v → IsDecimal text m v []
decimal_of_int text m v i = record { spelled = i.spelled; some = i.some; digits = i.digits; decimals = refl }

-- a text means one int at most
pub one_int : (text : List ℕ) (y z : ℤ) → MeansInt text y → MeansInt text z → y ≡ z
one_int text y z a b =
    let parts = one_decimal text a.0 b.0 a.1.0 b.1.0 [] [] (decimal_of_int text a.0 a.1.0 a.1.1.0) (decimal_of_int text b.0 b.1.0 b.1.1.0) in
    let same : signed a.0 (number_of a.1.0) ≡ signed b.0 (number_of b.1.0) = rw (parts.0, parts.1) refl in
    a.1.1.1 ∙ same ∙ sym b.1.1.1

-- a text means one real at most
pub one_real : (text : List ℕ) (y z : ℤ) → MeansReal text y → MeansReal text z → y ≡ z
one_real text y z (m, (v, (f, (i, a)))) (n, (w, (g, (j, b)))) = same (one_decimal text m n v w f g i j) a b
  where
    same : (m ≡ n) × (v ≡ w) × (f ≡ g) → IsValue m v f y → IsValue n w g z → y ≡ z
    same e a b = one_nearest _ _ y z (power_pos (length g)) (rw (e.0, e.1, e.2) at a) b
