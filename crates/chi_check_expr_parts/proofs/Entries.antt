-- Private to proofs. The entries of a dictionary, where no value is left.
use Rattle.std.proofs.Common.{◌≡◌, ℕ, List, [], ◌∷◌, length, refl, arith}
use Rattle.chi_types.specs.declared.ty.Ty.{Ty}
use Rattle.chi_check_types.specs.declared.meant.Made.{Made}
use Rattle.chi_check_expr_rules.specs.Containers.{entries}

pub entries_of_none : (k v : Ty) (keys values : List Made) (left : ℕ) → left ≡ length values → left ≡ 0 → entries k v keys values ≡ []
entries_of_none k v [] values left h e = refl
entries_of_none k v (key ∷ keys) [] left h e = refl
entries_of_none k v (key ∷ keys) (value ∷ values) left h e = absurd (omega arith)
