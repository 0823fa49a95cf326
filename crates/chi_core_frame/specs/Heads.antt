-- What stands first of what is left to do. Private to proofs.
use Rattle.std.specs.Prelude.{◌≡◌, [], ◌∷◌, Option, Some, None, option_map}
use Rattle.chi_core.specs.Terms as terms
use Rattle.chi_core.specs.Terms.{Item, Term, first_the}
use Rattle.chi_core.specs.Variables.{Variables, bound}
use Rattle.chi_core_frame.specs.declared.term.Head.{Head}
use Rattle.chi_core_frame.specs.declared.term.Head.TheVariants.{Do, Loop, Walk, End}
use Rattle.chi_core_frame.specs.Terms.{first_of}

abbrev pub IsWalk : Option Item → Type 0
IsWalk None = ⊥
IsWalk (Some (terms.Do s)) = ⊥
IsWalk (Some (terms.Loop line test block)) = ⊥
IsWalk (Some (terms.Walk line slots elements block)) = Unit {0}

abbrev pub IsHead : Head → Term → Type 0
IsHead (Do s) term = first_of term ≡ Some (terms.Do s.now)
IsHead (Loop line test block) term = first_of term ≡ Some (terms.Loop line test.now block.now)
IsHead Walk term = IsWalk (first_of term)
IsHead End term = term ≡ []

-- the walk that stands first goes on: with the next element, or to what is left after it
abbrev pub walk_done : Variables → Term → Option (Variables × Term)
walk_done variables [] = None
walk_done variables (terms.Do s ∷ rest) = None
walk_done variables (terms.Loop line test block ∷ rest) = None
walk_done variables (terms.Walk line slots [] block ∷ rest) = Some (variables, rest)
walk_done variables (terms.Walk line slots (x ∷ xs) block ∷ rest) =
    option_map (λ new. (new, first_the block (terms.Walk line slots xs block ∷ rest))) (bound slots x variables)
