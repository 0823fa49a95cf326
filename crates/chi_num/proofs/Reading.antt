-- What a reading answers, told by the one number that the text means.
use Rattle.std.proofs.Common.{◌≡◌, ℕ, ◌*◌, ◌<◌, ◌^◌, Bool, true, false, List, ◌++◌, length, Ok, Err, to_z, of_z, ℤ, refl, sym, ap, ◌∙◌, arith, w64, FitsSigned}
use Rattle.std.proofs.lemmas.Int.{ints, to_z-of_z}
use Rattle.chi_num.specs.Decimal.{number_of, followed_by, signed}
use Rattle.chi_num.specs.declared.read.fault.ReadFault.{ReadFault}
use Rattle.chi_num.specs.declared.read.fault.ReadFault.TheVariants.{Form, Range}
use Rattle.chi_num.specs.Nearest.{nearest}
use Rattle.chi_num.specs.ReadInt.{IsInt, MeansInt}
use Rattle.chi_num.specs.ReadReal.{IsDecimal, MeansReal}
use Rattle.chi_num.specs.TextNumbers.{Meant, means, no_form, out_of_range, answer_of}
use Rattle.chi_num.proofs.Decimal.{power_pos, followed_by-zero}
use Rattle.chi_num.proofs.Nearest.{nearest_signed}
use Rattle.chi_num.proofs.OfTexts.{Tells}

pub int_means : (text : List ℕ) (minus : Bool) (whole : List ℕ) → IsInt text minus whole → MeansInt text (signed minus (followed_by 0 whole))
int_means text minus whole i = (minus, (whole, (i, ap (signed minus) (followed_by-zero whole))))

pub real_means : (text : List ℕ) (minus : Bool) (whole fraction : List ℕ) → IsDecimal text minus whole fraction → MeansReal text (signed minus (nearest (number_of (whole ++ fraction) * 1_000_000_000) (10 ^ length fraction)))
real_means text minus whole fraction i =
    (minus, (whole, (fraction, (i, nearest_signed minus _ (10 ^ length fraction) _ (power_pos (length fraction)) refl))))

-- what 64 bits don't hold without a sign, they don't hold with one
pub too_large : (minus : Bool) (size : ℕ) → (size < 2 ^ 64 → ⊥) → FitsSigned w64 (signed minus size) → ⊥
too_large false size past fits = past (omega (arith, ints))
too_large true size past fits = past (omega (arith, ints))

is_meant : (meant : Meant) (z : ℤ) → Ok z ≡ answer_of meant → meant ≡ means z
is_meant (means x) z e = let same : x ≡ z = cc in ap means same
is_meant no_form z e = absurd (cc)
is_meant out_of_range z e = absurd (cc)

-- ---- what a reading answers, where an answer is told by the one number that is meant

module _ (meant : Meant) (Has : Type 0) (Means : ℤ → Type 0) (tells : Tells meant Has Means) where
  pub reads_none : (Has → ⊥) → Err Form ≡ answer_of meant
  reads_none not = sym (ap answer_of (tells.form.1 not))

  -- 64 bits hold the size and the number
  pub reads_number : (minus : Bool) (number size : ℕ) (held : ℤ) → Means (signed minus number) → size ≡ number → FitsSigned w64 (signed minus size)
      → held ≡ signed minus size → Ok (to_z w64 (of_z w64 held)) ≡ answer_of meant
  reads_number minus number size held m s f h =
      let fits : FitsSigned w64 held = rw h f in
      let here : Means held = rw (h, s) m in
      rw (to_z-of_z w64 held fits) (sym (ap answer_of ((tells.value held).1 (here, fits))))

  -- 64 bits don't hold the number
  reads_past : (z : ℤ) → Means z → (FitsSigned w64 z → ⊥) → Err Range ≡ answer_of meant
  reads_past z m out = sym (ap answer_of (tells.range.1 (z, m, out)))

  -- nor its size
  pub reads_size_past : (minus : Bool) (number : ℕ) → Means (signed minus number) → (number < 2 ^ 64 → ⊥) → Err Range ≡ answer_of meant
  reads_size_past minus number m out = reads_past (signed minus number) m (too_large minus number out)

  -- 64 bits hold the size, but not with its sign
  pub reads_number_past : (minus : Bool) (number size : ℕ) → Means (signed minus number) → size ≡ number → (FitsSigned w64 (signed minus size) → ⊥)
      → Err Range ≡ answer_of meant
  reads_number_past minus number size m s out = reads_past (signed minus number) m (rw s at out)

  -- what an answer tells of the number
  pub told_number : (z : ℤ) → Ok z ≡ answer_of meant → Means z × FitsSigned w64 z
  told_number z e = (tells.value z).0 (is_meant meant z e)

  pub told_none : (fault : ReadFault) → Err fault ≡ answer_of meant → (z : ℤ) → Means z → FitsSigned w64 z → Err fault ≡ Ok z
  told_none fault e z m f = e ∙ ap answer_of ((tells.value z).1 (m, f))
