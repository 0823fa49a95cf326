-- Private to proofs. The first of a list is its least.
use Rattle.std.proofs.Common.{ℕ, zero, suc, ◌≡◌, ◌+◌, ◌*◌, ◌<◌, ◌≤◌, Bool, true, false, cond, ◌||◌, ◌&&◌, nat_lt, nat_eq, length, List, [], ◌∷◌, Option, Some, None, refl, sym, ap, subst, ◌∙◌, arith, ◌⊎◌, inl, inr}
use Rattle.std.specs.Prelude.{Contains}
use Rattle.std.specs.List.{All, AllByRecursion}
use Rattle.std.proofs.lemmas.Bool.Decides.{nat_tests}
use Rattle.std.proofs.lemmas.List.Elements.{All-from_recursion, Contains-append_right}
use Rattle.chi_token.specs.declared.place.Place.{Place}
use Rattle.chi_check_types.specs.declared.fault.Fault.{Fault}
use Rattle.chi_check_types.specs.Faults.{first_of, first, is_sooner, sooner_of, IsFirst}

-- a line, a column and a number before others
abbrev lex : ℕ → ℕ → ℕ → ℕ → ℕ → ℕ → Bool
lex a b c x y z = (nat_lt a x || (nat_eq a x && nat_lt b y)) || ((nat_eq a x && nat_eq b y) && nat_lt c z)

not_before_itself : (a b c : ℕ) → lex a b c a b c ≡ false
not_before_itself a b c = grind (arith, nat_tests)

after_a_sooner : (a b c p q r x y z : ℕ) → lex a b c p q r ≡ true → lex a b c x y z ≡ false → lex p q r x y z ≡ false
after_a_sooner a b c p q r x y z h k = grind (arith, nat_tests)

after_a_later : (a b c p q r x y z : ℕ) → lex a b c p q r ≡ false → lex p q r x y z ≡ false → lex a b c x y z ≡ false
after_a_later a b c p q r x y z h k = grind (arith, nat_tests)

irreflexive : (f : Fault) → is_sooner f f ≡ false
irreflexive f = not_before_itself f.place.line f.place.column f.rule

no_sooner : (f g h : Fault) → is_sooner f g ≡ true → is_sooner f h ≡ false → is_sooner g h ≡ false
no_sooner f g h = after_a_sooner f.place.line f.place.column f.rule g.place.line g.place.column g.rule h.place.line h.place.column h.rule

none_between : (f g h : Fault) → is_sooner f g ≡ false → is_sooner g h ≡ false → is_sooner f h ≡ false
none_between f g h = after_a_later f.place.line f.place.column f.rule g.place.line g.place.column g.rule h.place.line h.place.column h.rule

-- f is first of one that is kept and of a list
record Least (f kept : Fault) (fs : List Fault) : Type 0 where
  not_kept : is_sooner kept f ≡ false
  not_after : AllByRecursion (λ other. is_sooner other f ≡ false) fs
  among : (kept ≡ f) ⊎ Contains fs f

contains_head : (f g : Fault) (fs : List Fault) → g ≡ f → Contains (g ∷ fs) f
contains_head f g fs e = (0, omega arith, e)

contains_tail : (f g : Fault) (fs : List Fault) → Contains fs f → Contains (g ∷ fs) f
contains_tail f g fs c = Contains-append_right (g ∷ []) fs f c

from_tail : (f kept g : Fault) (fs : List Fault) → (kept ≡ f) ⊎ Contains fs f → (kept ≡ f) ⊎ Contains (g ∷ fs) f
from_tail f kept g fs (inl e) = inl e
from_tail f kept g fs (inr c) = inr (contains_tail f g fs c)

from_head : (f kept g : Fault) (fs : List Fault) → (g ≡ f) ⊎ Contains fs f → (kept ≡ f) ⊎ Contains (g ∷ fs) f
from_head f kept g fs (inl e) = inr (contains_head f g fs e)
from_head f kept g fs (inr c) = inr (contains_tail f g fs c)

one_more : (f kept g : Fault) (fs : List Fault) (b : Bool) → is_sooner g kept ≡ b → Least f (cond b g kept) fs → Least f kept (g ∷ fs)
one_more f kept g fs true h l = record { not_kept = no_sooner g kept f h l.not_kept; not_after = (l.not_kept, l.not_after); among = from_head f kept g fs l.among }
one_more f kept g fs false h l = record { not_kept = l.not_kept; not_after = (none_between g kept f h l.not_kept, l.not_after); among = from_tail f kept g fs l.among }

least_of : (f kept : Fault) (fs : List Fault) → first_of (Some kept) fs ≡ Some f → Least f kept fs
unfolding first_of
least_of f kept [] h =
    let e : kept ≡ f = cc in
    record { not_kept = subst (λ g. is_sooner kept g ≡ false) e (irreflexive kept); not_after = tt; among = inl e }
least_of f kept (g ∷ fs) h = one_more f kept g fs (is_sooner g kept) refl (least_of f (sooner_of (Some kept) g) fs h)

contained : (f g : Fault) (fs : List Fault) → (g ≡ f) ⊎ Contains fs f → Contains (g ∷ fs) f
contained f g fs (inl e) = contains_head f g fs e
contained f g fs (inr c) = contains_tail f g fs c

first_of_list : (f g : Fault) (fs : List Fault) → Least f g fs → IsFirst f (g ∷ fs)
first_of_list f g fs l = (contained f g fs l.among, All-from_recursion (λ other. is_sooner other f ≡ false) (g ∷ fs) (l.not_kept, l.not_after))

pub first_is_first : (fs : List Fault) (f : Fault) → first fs ≡ Some f → IsFirst f fs
unfolding first_of
first_is_first [] f h = absurd (cc)
first_is_first (g ∷ fs) f h = first_of_list f g fs (least_of f g fs h)

never_none : (kept : Fault) (fs : List Fault) → first_of (Some kept) fs ≡ None → ⊥
unfolding first_of
never_none kept [] h = absurd (cc)
never_none kept (g ∷ fs) h = never_none (sooner_of (Some kept) g) fs h

pub none_first : (fs : List Fault) → first fs ≡ None → fs ≡ []
unfolding first_of
none_first [] h = refl
none_first (g ∷ fs) h = absurd (never_none g fs h)

pub empty_first : (fs : List Fault) → fs ≡ [] → first fs ≡ None
unfolding first_of
empty_first [] h = refl
empty_first (g ∷ fs) h = absurd (cc)
