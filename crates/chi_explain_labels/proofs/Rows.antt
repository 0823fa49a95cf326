-- Worked rows: how many labels instances took, and which took the most.
use Rattle.std.proofs.Common.{◌≡◌, List, [], ◌∷◌, get_or, refl}
use Rattle.chi_core.specs.declared.label.Label.{Label}
use Rattle.chi_core.specs.declared.label.Label.TheVariants.{Local, Pair, Wake, Join, Advance}
use Rattle.chi_explain_labels.specs.Labels.{first_ranked, taken}

abbrev labels : List Label
labels = Local 0 ∷ Local 1 ∷ Pair 1 0 2 3 ∷ Advance ∷ Wake 2 1 ∷ Pair 2 0 1 1 ∷ Join 0 ∷ []

-- instance 0 took two labels, instances 1 and 2 three each, and instance 3 none
taken_zero : taken labels 0 ≡ 2
taken_zero = refl

taken_two : taken labels 2 ≡ 3
taken_two = refl

taken_three : taken labels 3 ≡ 0
taken_three = refl

ranked_labels : first_ranked (taken labels) 4 ≡ 1 ∷ 2 ∷ 0 ∷ []
ranked_labels = refl

-- of twelve instances the first ten; one of them took no label, and two took as many
ranked_twelve : first_ranked (λ p. get_or (5 ∷ 0 ∷ 7 ∷ 7 ∷ 1 ∷ 2 ∷ 3 ∷ 4 ∷ 6 ∷ 8 ∷ 9 ∷ 1 ∷ []) p 0) 12
    ≡ 10 ∷ 9 ∷ 2 ∷ 3 ∷ 8 ∷ 0 ∷ 7 ∷ 6 ∷ 5 ∷ 4 ∷ []
ranked_twelve = refl

ranked_none : first_ranked (taken []) 4 ≡ []
ranked_none = refl
