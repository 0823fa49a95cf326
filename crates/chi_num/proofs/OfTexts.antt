-- What `int_meant` and `real_meant` give is what the relations say.
use Rattle.std.proofs.Common.{◌≡◌, ℕ, ◌+◌, ◌*◌, ◌^◌, ◌<◌, ◌==◌, ◌&&◌, ◌↔◌, Bool, true, false, IsTrue, Option, Some, None, List, [], ◌∷◌, ◌++◌, length, drop, take, slice_get, ℤ, pos, ◌≢◌, refl, ap, sym, ◌∙◌, arith, rules, append_assoc, w64, FitsSigned}
use Rattle.std.proofs.lemmas.List.{append-nil, take-append-drop}
use Rattle.std.proofs.lemmas.Int.{ints}
use Rattle.std.specs.Char.{is_ascii_digit}
use Rattle.std.specs.List.{list_all, prefix_len}
use Rattle.chi_num.specs.Decimal.{AreDigits, IsAfterDigits, number_of, spelling, signed, point_and, sign_text}
use Rattle.chi_num.specs.ReadInt.{IsInt, HasIntForm, MeansInt}
use Rattle.chi_num.specs.ReadReal.{IsDecimal, IsValue, HasRealForm, MeansReal}
use Rattle.chi_num.specs.Results.{fits, rounded}
use Rattle.chi_num.specs.TextNumbers.{Meant, means, no_form, out_of_range, has_minus, unsigned, are_digits, front_digits, after_digits, decimals_of, in_range, int_meant, units_meant, real_meant}
use Rattle.chi_num.proofs.Decimal as decimal
use Rattle.chi_num.proofs.OfResults.{fits_told, nearest_is_rounded}
use Rattle.chi_num.proofs.Spelling.{and_both, one_int, one_real, cut_is, decimal_of_int}

-- ---- what an answer tells, by the one number that is meant

pub record Tells (answer : Meant) (Has : Type 0) (Means : ℤ → Type 0) : Type 0 where
  pub value : (z : ℤ) → (answer ≡ means z) ↔ (Means z × FitsSigned w64 z)
  pub form : (answer ≡ no_form) ↔ (Has → ⊥)
  pub range : (answer ≡ out_of_range) ↔ ((z : ℤ) × Means z × (FitsSigned w64 z → ⊥))

tells_number : (Has : Type 0) (Means : ℤ → Type 0) (z : ℤ) → ((x y : ℤ) → Means x → Means y → x ≡ y) → Has → Means z → Tells (in_range z) Has Means
tells_number Has Means z one has m = by_fit (fits z) refl
  where
    by_fit : (b : Bool) → fits z ≡ b → Tells (in_range z) Has Means
    by_fit true e =
        let f : FitsSigned w64 z = (fits_told z).0 e in
        let is : in_range z ≡ means z = rw e refl in
        rw is (record {
          value = λ x. ((λ q. let same : z ≡ x = cc in rw (← same) (m, f)), (λ p. ap means (one z x m p.0)));
          form = ((λ q. absurd (cc)), (λ not. absurd (not has)));
          range = ((λ q. absurd (cc)), (λ (x, n, out). absurd (out (rw (one z x m n) at f))));
        })
    by_fit false e =
        let out : FitsSigned w64 z → ⊥ = λ f. let yes_is = (fits_told z).1 f in absurd (cc) in
        let is : in_range z ≡ out_of_range = rw e refl in
        rw is (record {
          value = λ x. ((λ q. absurd (cc)), (λ p. absurd (out (rw (one x z p.0 m) at p.1))));
          form = ((λ q. absurd (cc)), (λ not. absurd (not has)));
          range = ((λ q. (z, m, out)), (λ h. refl));
        })

tells_none : (Has : Type 0) (Means : ℤ → Type 0) → (Has → ⊥) → ((z : ℤ) → Means z → Has) → Tells no_form Has Means
tells_none Has Means not of = record {
  value = λ x. ((λ q. absurd (cc)), (λ p. absurd (not (of x p.0))));
  form = ((λ q. not), (λ h. refl));
  range = ((λ q. absurd (cc)), (λ (x, n, out). absurd (not (of x n))));
}

-- ---- a text, cut at its sign and its digits

cut_sign : (text : List ℕ) → text ≡ sign_text (has_minus text) ++ unsigned text
cut_sign [] = refl
cut_sign (c ∷ cs) = by_first (c == 45) refl
  where
    by_first : (b : Bool) → (c == 45) ≡ b → c ∷ cs ≡ sign_text (c == 45) ++ unsigned (c ∷ cs)
    by_first true e = let same : c ≡ 45 = search (rules, e) in rw (e, same) refl
    by_first false e = rw e refl

first_told : (text : List ℕ) → IsTrue (has_minus text) ↔ (slice_get text 0 ≡ Some 45)
first_told [] = ((λ t. absurd (cc)), (λ h. absurd (cc)))
first_told (c ∷ cs) = ((λ t. let same : c ≡ 45 = search (rules, t) in ap Some same), (λ h. let same : c ≡ 45 = cc in rw same refl))

cut_digits : (text : List ℕ) → text ≡ front_digits text ++ after_digits text
cut_digits text = sym (take-append-drop (prefix_len is_ascii_digit text) text)

are_told : (ds : List ℕ) → IsTrue (are_digits ds) ↔ ((0 < length ds) × AreDigits ds)
are_told [] = ((λ t. absurd (cc)), (λ h. absurd (omega (arith, h.0))))
are_told (c ∷ cs) = ((λ t. (omega arith, t)), (λ h. h.1))

-- of each spelling the sign, the digits before the point and what comes after them are these
decimal_told : (text : List ℕ) (m : Bool) (w f : List ℕ) → IsDecimal text m w f
    → (m ≡ has_minus text) × (w ≡ front_digits (unsigned text)) × (after_digits (unsigned text) ≡ point_and f)
decimal_told text m w f i =
    cut_is text (has_minus text) (unsigned text) (front_digits (unsigned text)) (after_digits (unsigned text)) m w f (cut_sign text) (first_told text)
    (cut_digits (unsigned text)) (decimal.front_digits (unsigned text)) (decimal.after_front_digits (unsigned text)) i

-- ---- ints

is_int : (text : List ℕ) → are_digits (unsigned text) ≡ true → IsInt text (has_minus text) (unsigned text)
is_int text e =
    let told = (are_told (unsigned text)).0 e in
    record { spelled = cut_sign text ∙ sym (append-nil (sign_text (has_minus text) ++ unsigned text)); some = told.0; digits = told.1 }

int_digits : (text : List ℕ) → HasIntForm text → are_digits (unsigned text) ≡ true
int_digits text (m, (w, i)) =
    let told = decimal_told text m w [] (decimal_of_int text m w i) in
    let same : w ≡ unsigned text = sym (cut_digits (unsigned text) ∙ rw (← told.1, told.2) (append-nil w)) in
    rw same at ((are_told w).1 (i.some, i.digits))

pub int_tells : (text : List ℕ) → Tells (int_meant text) (HasIntForm text) (MeansInt text)
int_tells text = by_form (are_digits (unsigned text)) refl
  where
    by_form : (b : Bool) → are_digits (unsigned text) ≡ b → Tells (int_meant text) (HasIntForm text) (MeansInt text)
    by_form true e =
        let i = is_int text e in
        rw e (tells_number (HasIntForm text) (MeansInt text) (signed (has_minus text) (number_of (unsigned text))) (one_int text) (_, (_, i)) (_, (_, (i, refl))))
    by_form false e =
        rw e (tells_none (HasIntForm text) (MeansInt text) (λ h. let yes_is = int_digits text h in absurd (cc)) (λ z (m, (w, (i, v))). (m, (w, i))))

-- ---- reals

decimals_told : (f : List ℕ) → AreDigits f → decimals_of (point_and f) ≡ Some f
decimals_told [] are = refl
decimals_told (c ∷ cs) are = rw are refl

after_point : (f : List ℕ) → are_digits f ≡ true → (46 ∷ f ≡ point_and f) × AreDigits f
after_point [] h = absurd (cc)
after_point (c ∷ cs) h = (refl, h)

decimals_is : (after f : List ℕ) → decimals_of after ≡ Some f → (after ≡ point_and f) × AreDigits f
decimals_is [] f e = let none : [] ≡ f = cc in rw (← none) (refl, refl)
decimals_is (c ∷ cs) f e = by_test ((c == 46) && are_digits cs) refl
  where
    by_test : (b : Bool) → ((c == 46) && are_digits cs) ≡ b → (c ∷ cs ≡ point_and f) × AreDigits f
    by_test false q = let none : None ≡ Some f = rw q at e in absurd (cc)
    by_test true q =
        let both = and_both (c == 46) (are_digits cs) q in
        let point : c ≡ 46 = search (rules, both.0) in
        let some : Some cs ≡ Some f = rw q at e in
        let same : cs ≡ f = cc in
        rw (point, same) (after_point f (rw same at both.1))

not_none : (k : ℕ) → pos (10 ^ k) ≢ pos 0
not_none k e = let some = decimal.power_pos k in absurd (omega (arith, ints, e, some))

is_decimal : (text w f : List ℕ) → front_digits (unsigned text) ≡ w → 0 < length w → decimals_of (after_digits (unsigned text)) ≡ Some f
    → IsDecimal text (has_minus text) w f
is_decimal text w f e some d =
    let parts = decimals_is (after_digits (unsigned text)) f d in
    let spelled : text ≡ sign_text (has_minus text) ++ (w ++ point_and f) =
    cut_sign text ∙ ap (λ xs. sign_text (has_minus text) ++ xs) (cut_digits (unsigned text) ∙ rw (e, parts.0) refl)
    in
    record {
      spelled = spelled ∙ sym (append_assoc (sign_text (has_minus text)) w (point_and f));
      some = some;
      digits = rw e at (decimal.front_digits (unsigned text));
      decimals = parts.1;
    }

-- a spelling's digits and decimals
real_parts : (text : List ℕ) → HasRealForm text
    → (f : List ℕ) × (0 < length (front_digits (unsigned text))) × (decimals_of (after_digits (unsigned text)) ≡ Some f)
real_parts text (m, (w, (f, i))) =
    let told = decimal_told text m w f i in
    (f, rw told.1 at i.some, rw told.2 (decimals_told f i.decimals))

pub real_tells : (text : List ℕ) → Tells (real_meant text) (HasRealForm text) (MeansReal text)
real_tells text = by_parts (front_digits (unsigned text)) (decimals_of (after_digits (unsigned text))) refl refl
  where
    has : (z : ℤ) → MeansReal text z → HasRealForm text
    has z (m, (w, (f, (i, v)))) = (m, (w, (f, i)))

    by_parts : (w : List ℕ) (d : Option (List ℕ)) → front_digits (unsigned text) ≡ w → decimals_of (after_digits (unsigned text)) ≡ d
        → Tells (units_meant (has_minus text) w d) (HasRealForm text) (MeansReal text)
    by_parts w None e q = tells_none (HasRealForm text) (MeansReal text) (λ h. let some = (real_parts text h).2 in absurd (cc)) has
    by_parts [] (Some f) e q =
        tells_none (HasRealForm text) (MeansReal text) (λ h. let some = rw e at (real_parts text h).1 in absurd (omega (arith, some))) has
    by_parts (c ∷ cs) (Some f) e q =
        let i = is_decimal text (c ∷ cs) f e (omega arith) q in
        let near = nearest_is_rounded (signed (has_minus text) (number_of ((c ∷ cs) ++ f) * 1_000_000_000)) (pos (10 ^ length f)) (not_none (length f)) in
        tells_number (HasRealForm text) (MeansReal text) _ (one_real text) (_, (_, (_, i))) (_, (_, (_, (i, near))))
