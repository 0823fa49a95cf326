-- The statement that comes first, where functions don't have it.
use Rattle.std.proofs.Common.{◌≡◌, ℕ, List, [], ◌∷◌, Option, Some, None, true, false, ◌∙◌, ap, refl}
use Rattle.chi_value.specs.declared.value.Value.{Value}
use Rattle.chi_core.specs.declared.expression.CExpr.{CExpr}
use Rattle.chi_core.specs.declared.statement.CStat.{CStat, out-CStat}
use Rattle.chi_core.specs.Terms.{Item, Do, Loop, Walk, Term}
use Rattle.chi_core_frame.specs.Terms.{first_of}
use Rattle.chi_plain_steps.specs.Plans.{is_own, own_in, own_of}

-- what of an item is the statement of its own
abbrev own_item : Option Item → Option CStat
own_item None = None
own_item (Some (Do s)) = own_in s (is_own (out-CStat s))
own_item (Some (Loop line test block)) = None
own_item (Some (Walk line slots elements block)) = None

own_is : (term : Term) → own_of term ≡ own_item (first_of term)
own_is [] = refl
own_is (Do s ∷ term) = refl
own_is (Loop line test block ∷ term) = refl
own_is (Walk line slots elements block ∷ term) = refl

pub owned : (term : Term) (s : CStat) → first_of term ≡ Some (Do s) → is_own (out-CStat s) ≡ true → own_of term ≡ Some s
owned term s e own = own_is term ∙ ap own_item e ∙ ap (own_in s) own

pub shared : (term : Term) (s : CStat) → first_of term ≡ Some (Do s) → is_own (out-CStat s) ≡ false → own_of term ≡ None
shared term s e own = own_is term ∙ ap own_item e ∙ ap (own_in s) own

pub shared_loop : (term : Term) (line : ℕ) (test : CExpr) (block : List CStat) → first_of term ≡ Some (Loop line test block) → own_of term ≡ None
shared_loop term line test block e = own_is term ∙ ap own_item e

pub shared_walk : (term : Term) (line : ℕ) (slots : List ℕ) (elements : List Value) (block : List CStat) → first_of term ≡ Some (Walk line slots elements block) → own_of term ≡ None
shared_walk term line slots elements block e = own_is term ∙ ap own_item e

pub shared_none : (term : Term) → term ≡ [] → own_of term ≡ None
shared_none term e = ap own_of e

pub ruleset owning = (owned, shared, shared_loop, shared_walk, shared_none)
