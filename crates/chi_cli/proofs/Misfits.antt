-- A fault of an argument names one that there is.
use Rattle.std.proofs.Common.{◌≡◌, ℕ, ◌+◌, ◌<◌, ◌≤◌, ◌==◌, Bool, true, false, List, [], ◌∷◌, length, Option, Some, None, Result, Ok, Err, if◌then◌else◌, refl, ◌∙◌, arith}
use Rattle.std.specs.Prelude.{zip}
use Rattle.chi_types.specs.declared.ty.Ty.{Ty, out-Ty}
use Rattle.chi_value.specs.declared.value.Value.{Value}
use Rattle.chi_cli.specs.declared.args.ArgFault.{ArgFault}
use Rattle.chi_cli.specs.declared.args.ArgFault.TheVariants as fault
use Rattle.chi_cli.specs.Arguments.{is_readable, read_or_text, readable_values, unreadable_from, value_in, values_from, values_of, IsNumber}
use Rattle.chi_cli.specs.Commands.{Text}

-- of those that are counted from j
abbrev IsNumbered : ℕ → ℕ → ℕ → Type 0
IsNumbered j k size = (j ≤ k) × (k < j + size)

unreadable_number : (j : ℕ) (ts : List Ty) (k : ℕ) → unreadable_from j ts ≡ Some k → IsNumbered j k (length ts)
unreadable_number j [] k e = absurd (cc)
unreadable_number j (t ∷ ts) k e = each (unreadable_number (j + 1) ts k) (is_readable (out-Ty t)) e where
  each : (unreadable_from (j + 1) ts ≡ Some k → IsNumbered (j + 1) k (length ts)) → (readable : Bool)
      → (if readable then unreadable_from (j + 1) ts else Some j) ≡ Some k → IsNumbered j k (length (t ∷ ts))
  each later true e = let n = later e in let low = n.0 in let high = n.1 in (omega arith, omega arith)
  each later false e = let same : j ≡ k = cc in (omega arith, omega arith)

misread_number : (j : ℕ) (pairs : List (Ty × Text)) (k : ℕ) → values_from j pairs ≡ Err (fault.Text k) → IsNumbered j k (length pairs)
misread_number j [] k e = absurd (cc)
misread_number j (pair ∷ pairs) k e = each (misread_number (j + 1) pairs k) (value_in (out-Ty pair.0) pair.1) (values_from (j + 1) pairs) refl e where
  each : (values_from (j + 1) pairs ≡ Err (fault.Text k) → IsNumbered (j + 1) k (length pairs)) → (o : Option Value) (rest : Result (List Value) ArgFault)
      → values_from (j + 1) pairs ≡ rest → read_or_text j o rest ≡ Err (fault.Text k) → IsNumbered j k (length (pair ∷ pairs))
  each later None rest is e = let same : j ≡ k = cc in (omega arith, omega arith)
  each later (Some v) (Ok vs) is e = absurd (cc)
  each later (Some v) (Err why) is e = let n = later (is ∙ e) in let low = n.0 in let high = n.1 in (omega arith, omega arith)

-- what the values come to is never this
module _ (other : Result (List Value) ArgFault) (apart : (j : ℕ) → Err (fault.Text j) ≡ other → ⊥) (no_values : (vs : List Value) → Ok vs ≡ other → ⊥) where
  never_so : (j : ℕ) (pairs : List (Ty × Text)) → values_from j pairs ≡ other → ⊥
  never_so j [] e = no_values [] e
  never_so j (pair ∷ pairs) e = each (never_so (j + 1) pairs) (value_in (out-Ty pair.0) pair.1) (values_from (j + 1) pairs) refl e where
    each : (values_from (j + 1) pairs ≡ other → ⊥) → (o : Option Value) (rest : Result (List Value) ArgFault)
        → values_from (j + 1) pairs ≡ rest → read_or_text j o rest ≡ other → ⊥
    each later None rest is e = apart j e
    each later (Some v) (Ok vs) is e = no_values (v ∷ vs) e
    each later (Some v) (Err why) is e = later (is ∙ e)

never_a_kind : (j : ℕ) (pairs : List (Ty × Text)) (k : ℕ) → values_from j pairs ≡ Err (fault.Kind k) → ⊥
never_a_kind j pairs k e = never_so (Err (fault.Kind k)) (λ i is. cc) (λ vs is. cc) j pairs e

never_for_memory : (j : ℕ) (pairs : List (Ty × Text)) → values_from j pairs ≡ Err fault.NoMemory → ⊥
never_for_memory j pairs e = never_so (Err fault.NoMemory) (λ i is. cc) (λ vs is. cc) j pairs e

zip_short : (params : List Ty) (args : List Text) → (length (zip params args) ≤ length params) × (length (zip params args) ≤ length args)
zip_short [] args = (omega arith, omega arith)
zip_short (p ∷ ps) [] = (omega arith, omega arith)
zip_short (p ∷ ps) (a ∷ args) = let n = zip_short ps args in let left = n.0 in let right = n.1 in (omega arith, omega arith)

pub kind_number : (params : List Ty) (args : List Text) (k : ℕ) → values_of params args ≡ Err (fault.Kind k) → IsNumber params k
kind_number params args k e = each (length params == length args) e where
  by : (o : Option ℕ) → unreadable_from 1 params ≡ o → readable_values o (zip params args) ≡ Err (fault.Kind k) → IsNumber params k
  by None is e = absurd (never_a_kind 1 (zip params args) k e)
  by (Some n) is e =
      let same : n ≡ k = cc in
      let there = unreadable_number 1 params n is in
      let low = there.0 in
      let high = there.1 in
      (omega arith, omega arith)

  each : (alike : Bool) → (if alike then readable_values (unreadable_from 1 params) (zip params args) else Err fault.Count) ≡ Err (fault.Kind k) → IsNumber params k
  each true e = by (unreadable_from 1 params) refl e
  each false e = absurd (cc)

pub text_numbers : (params : List Ty) (args : List Text) (k : ℕ) → values_of params args ≡ Err (fault.Text k) → IsNumber params k × IsNumber args k
text_numbers params args k e = each (length params == length args) e where
  by : (o : Option ℕ) → unreadable_from 1 params ≡ o → readable_values o (zip params args) ≡ Err (fault.Text k) → IsNumber params k × IsNumber args k
  by None is e =
      let there = misread_number 1 (zip params args) k e in
      let low = there.0 in
      let high = there.1 in
      let short = zip_short params args in
      let left = short.0 in
      let right = short.1 in
      ((omega arith, omega arith), (omega arith, omega arith))
  by (Some n) is e = absurd (cc)

  each : (alike : Bool) → (if alike then readable_values (unreadable_from 1 params) (zip params args) else Err fault.Count) ≡ Err (fault.Text k)
      → IsNumber params k × IsNumber args k
  each true e = by (unreadable_from 1 params) refl e
  each false e = absurd (cc)

pub none_for_memory : (params : List Ty) (args : List Text) → values_of params args ≡ Err fault.NoMemory → ⊥
none_for_memory params args e = each (length params == length args) e where
  by : (o : Option ℕ) → readable_values o (zip params args) ≡ Err fault.NoMemory → ⊥
  by None e = never_for_memory 1 (zip params args) e
  by (Some n) e = cc

  each : (alike : Bool) → (if alike then readable_values (unreadable_from 1 params) (zip params args) else Err fault.Count) ≡ Err fault.NoMemory → ⊥
  each true e = by (unreadable_from 1 params) e
  each false e = cc
