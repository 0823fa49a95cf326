-- Brackets in the trees of a loop.
use Rattle.std.proofs.Common.{◌≡◌, ℕ, Bool, true, false, ◌||◌, List, [], ◌∷◌, ◌++◌, refl, sym, ap, ◌∙◌}
use Rattle.chi_grammar.specs.Rules.{Tree, none}
use Rattle.chi_grammar.specs.Reads.{attach}
use Rattle.chi_grammar.specs.Sample.{Part, has_round}

pub or_false : (a : Bool) → (a || false) ≡ a
or_false true = refl
or_false false = refl

or_assoc : (a b c : Bool) → (a || (b || c)) ≡ ((a || b) || c)
or_assoc true b c = refl
or_assoc false b c = refl

pub has_round-more : (ts : List (Tree ℕ Part)) (t : Tree ℕ Part)
    → (has_round (attach ts none) || has_round t) ≡ has_round (attach (ts ++ t ∷ []) none)
has_round-more [] t = sym (or_false (has_round t))
has_round-more (x ∷ ts) t =
    sym (or_assoc (has_round x) (has_round (attach ts none)) (has_round t)) ∙ ap (λ b. has_round x || b) (has_round-more ts t)
