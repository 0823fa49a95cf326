-- The variables of a new instance, as they are put into a list.
use Rattle.std.proofs.Common.{◌≡◌, ℕ, suc, ◌-◌, ◌<◌, ◌≤◌, ◌≢◌, nat_lt, slice_set, List, [], ◌∷◌, ◌++◌, Some, None, length, sym, ◌∙◌, ap, refl, arith, length-append}
use Rattle.std.specs.Prelude.{map, replicate, slice_get, if◌then◌else◌}
use Rattle.std.proofs.lemmas.List.{append-nil, append_assoc, length-map, length-set, set-set}
use Rattle.chi_value.specs.declared.value.Value.{Value}
use Rattle.chi_core.specs.Variables.{Variables, variables_of, value_at, set_value, with_slot}
use Rattle.chi_core_apply.proofs.Parts.{at_place}

-- one more argument
pub argument-more : (variables : Variables) (rest later : List Value) (x : Value) → rest ≡ x ∷ later
    → variables ++ map Some rest ≡ (variables ++ Some x ∷ []) ++ map Some later
argument-more variables rest later x e = ap (λ l. variables ++ map Some l) e ∙ sym (append_assoc variables (Some x ∷ []) (map Some later))

pub argument-all : (variables : Variables) (rest : List Value) → length rest ≡ 0 → variables ++ map Some rest ≡ variables
argument-all variables [] e = append-nil variables
argument-all variables (x ∷ rest) e = absurd (omega arith)

pub argument-none : (all : Variables) → [] ++ all ≡ all
argument-none all = refl

-- one more slot that isn't set
pub unset-more : (variables : Variables) (slots : ℕ) → length variables < slots
    → variables ++ replicate (slots - length variables) None ≡ (variables ++ None ∷ []) ++ replicate (slots - length (variables ++ None ∷ [])) None
unset-more variables slots h =
    let n : slots - length variables ≡ suc (slots - length (variables ++ None ∷ [])) = omega (arith, length-append variables (None ∷ [])) in
    ap (λ k. variables ++ replicate k None) n
    ∙ sym (append_assoc variables (None ∷ []) (replicate (slots - length (variables ++ None ∷ [])) None))

pub unset-all : (variables : Variables) (slots : ℕ) → slots ≤ length variables → variables ++ replicate (slots - length variables) None ≡ variables
unset-all variables slots h =
    let n : slots - length variables ≡ 0 = omega arith in
    ap (λ k. variables ++ replicate k None) n ∙ append-nil variables

pub variables_of-is : (slots : ℕ) (arguments : List Value) (variables : Variables) → variables ≡ map Some arguments
    → variables_of slots arguments ≡ variables ++ replicate (slots - length variables) None
variables_of-is slots arguments variables e =
    let n : length arguments ≡ length variables = sym (length-map arguments Some) ∙ ap length (sym e) in
    ap (λ k. map Some arguments ++ replicate (slots - k) None) n ∙ ap (λ l. l ++ replicate (slots - length variables) None) (sym e)

-- a slot whose value is taken

pub there_at : (variables : Variables) (slot : ℕ) → value_at variables slot ≢ None → slot < length variables
there_at variables slot h = at_place variables slot (λ e. h (ap set_value e))

pub taken_size : (variables new : Variables) (slot : ℕ) → new ≡ slice_set variables slot None → length new ≡ length variables
taken_size variables new slot e = ap length e ∙ length-set variables slot None

pub taken_set : (variables new : Variables) (slot : ℕ) (x : Value) → new ≡ slice_set variables slot None → with_slot slot x new ≡ with_slot slot x variables
taken_set variables new slot x e =
    ap (with_slot slot x) e
    ∙ ap (λ n. if nat_lt slot n then Some (slice_set (slice_set variables slot None) slot (Some x)) else None) (length-set variables slot None)
    ∙ ap (λ v. if nat_lt slot (length variables) then Some v else None) (set-set variables slot None (Some x))

-- whether it is set
pub set_at : (variables : Variables) (slot : ℕ) (v : Value) → slice_get variables slot ≡ Some (Some v) → value_at variables slot ≢ None
set_at variables slot v e none = absurd (cc)

pub unset_at : (variables : Variables) (slot : ℕ) → slice_get variables slot ≡ Some None → value_at variables slot ≡ None
unset_at variables slot e = ap set_value e

pub not_there : (variables : Variables) (slot : ℕ) → slice_get variables slot ≡ None → value_at variables slot ≡ None
not_there variables slot e = ap set_value e

pub ruleset set = (set_at, unset_at, not_there)

pub ruleset taking = (there_at, taken_size, taken_set)

pub ruleset slots = (argument-more, argument-all, unset-more, unset-all, variables_of-is)
