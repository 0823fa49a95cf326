-- Two types are the same exactly where they are equal without the names of their parts.
use Rattle.std.proofs.Common.{◌≡◌, ℕ, Bool, true, nat_eq, List, [], ◌∷◌, map, refl, sym, ap, subst, ◌∙◌}
use Rattle.std.proofs.lemmas.Bool.{false≢true, eqb-true, eq-eqb, and_parts, and_from}
use Rattle.chi_types.specs.declared.ty.Way.{Way}
use Rattle.chi_types.specs.declared.ty.Way.TheVariants as way
use Rattle.chi_types.specs.declared.ty.Ty.{Ty, Ty-F, map-Ty, fold-roll-Ty, fold_out-Ty, ind-Ty, out-Ty, roll-Ty, out-roll-Ty}
use Rattle.chi_types.specs.Same.{same, same_step, same_way, each_passes, beside, nameless, bare, unnamed}

same_way_equal : (v w : Way) → same_way v w ≡ true → v ≡ w
same_way_equal way.Both way.Both h = refl
same_way_equal way.Send way.Send h = refl
same_way_equal way.Receive way.Receive h = refl
same_way_equal _ _ h = absurd (false≢true h)

same_way_itself : (w : Way) → same_way w w ≡ true
same_way_itself way.Both = refl
same_way_itself way.Send = refl
same_way_itself way.Receive = refl

pub same_rolled : (x : Ty-F Ty) (b : Ty) → same (roll-Ty x) b ≡ same_step (map-Ty Ty (Ty → Bool) same x) (out-Ty b)
same_rolled x b = λ i. fold-roll-Ty (Ty → Bool) (λ layer ty. same_step layer (out-Ty ty)) x i b

unnamed_rolled : (x : Ty-F Ty) → unnamed (roll-Ty x) ≡ roll-Ty (bare (map-Ty Ty Ty unnamed x))
unnamed_rolled x = fold-roll-Ty Ty (λ layer. roll-Ty (bare layer)) x

unnamed_out : (a : Ty) → unnamed a ≡ roll-Ty (bare (map-Ty Ty Ty unnamed (out-Ty a)))
unnamed_out a = fold_out-Ty Ty (λ layer. roll-Ty (bare layer)) a

-- the same types are equal without names
abbrev EqualsSame : Ty → Type 0
EqualsSame a = (b : Ty) → same a b ≡ true → unnamed a ≡ unnamed b

abbrev Held : Type 0
Held = (a : Ty) × EqualsSame a

abbrev type_of : Held → Ty
type_of held = held.0

equal_parts : (gs : List (List ℕ × Held)) (bs : List (List ℕ × Ty)) →
    each_passes (map (beside same) (map (beside type_of) gs)) bs ≡ true →
    nameless (map (beside unnamed) (map (beside type_of) gs)) ≡ nameless (map (beside unnamed) bs)
equal_parts [] [] h = refl
equal_parts [] (b ∷ bs) h = absurd (cc)
equal_parts (a ∷ gs) [] h = absurd (cc)
equal_parts (a ∷ gs) (b ∷ bs) h =
    let first = a.1.1 b.1 (and_parts _ _ h).0 in
    let rest = equal_parts gs bs (and_parts _ _ h).1 in
    λ i. ([], first i) ∷ rest i

equal_layers : (a : Ty-F Held) (b : Ty-F Ty) →
    same_step (map-Ty Ty (Ty → Bool) same (map-Ty Held Ty type_of a)) b ≡ true →
    bare (map-Ty Ty Ty unnamed (map-Ty Held Ty type_of a)) ≡ bare (map-Ty Ty Ty unnamed b)
equal_layers Ty-F.Bool Ty-F.Bool h = refl
equal_layers Ty-F.Int Ty-F.Int h = refl
equal_layers Ty-F.Real Ty-F.Real h = refl
equal_layers Ty-F.Text Ty-F.Text h = refl
equal_layers Ty-F.Timer Ty-F.Timer h = refl
equal_layers Ty-F.Inst Ty-F.Inst h = refl
equal_layers Ty-F.Void Ty-F.Void h = refl
equal_layers (Ty-F.Choice k) (Ty-F.Choice l) h = ap Ty-F.Choice (eqb-true k l h)
equal_layers (Ty-F.TupleOf gs) (Ty-F.TupleOf bs) h = ap Ty-F.TupleOf (equal_parts gs bs h)
equal_layers (Ty-F.ListOf a) (Ty-F.ListOf b) h = ap Ty-F.ListOf (a.1 b h)
equal_layers (Ty-F.SetOf a) (Ty-F.SetOf b) h = ap Ty-F.SetOf (a.1 b h)
equal_layers (Ty-F.DictOf k v) (Ty-F.DictOf l w) h =
    λ i. Ty-F.DictOf (k.1 l (and_parts _ _ h).0 i) (v.1 w (and_parts _ _ h).1 i)
equal_layers (Ty-F.Chan v a) (Ty-F.Chan w b) h =
    λ i. Ty-F.Chan (same_way_equal v w (and_parts _ _ h).0 i) (a.1 b (and_parts _ _ h).1 i)
equal_layers (Ty-F.Dist a) (Ty-F.Dist b) h = ap Ty-F.Dist (a.1 b h)
equal_layers _ _ h = absurd (false≢true h)

pub same_equal : (a b : Ty) → same a b ≡ true → unnamed a ≡ unnamed b
same_equal = ind-Ty EqualsSame (λ x y e. subst (λ x. EqualsSame (roll-Ty x)) e (λ b h.
    unnamed_rolled (map-Ty Held Ty type_of y) ∙
    ap roll-Ty (equal_layers y (out-Ty b) (sym (same_rolled (map-Ty Held Ty type_of y) b) ∙ h)) ∙
    sym (unnamed_out b)))

-- what is equal without names is the same

abbrev SameOfEqual : Ty → Type 0
SameOfEqual a = (b : Ty) → unnamed a ≡ unnamed b → same a b ≡ true

abbrev Kept : Type 0
Kept = (a : Ty) × SameOfEqual a

abbrev kept_type : Kept → Ty
kept_type kept = kept.0

roll_apart : (x y : Ty-F Ty) → roll-Ty x ≡ roll-Ty y → x ≡ y
roll_apart x y e = sym (out-roll-Ty x) ∙ ap out-Ty e ∙ out-roll-Ty y

heads : (p q : List ℕ × Ty) (ps qs : List (List ℕ × Ty)) → p ∷ ps ≡ q ∷ qs → p ≡ q
heads p q ps qs e = cc

tails : (p q : List ℕ × Ty) (ps qs : List (List ℕ × Ty)) → p ∷ ps ≡ q ∷ qs → ps ≡ qs
tails p q ps qs e = cc

same_parts : (gs : List (List ℕ × Kept)) (bs : List (List ℕ × Ty)) →
    nameless (map (beside unnamed) (map (beside kept_type) gs)) ≡ nameless (map (beside unnamed) bs) →
    each_passes (map (beside same) (map (beside kept_type) gs)) bs ≡ true
same_parts [] [] e = refl
same_parts [] (b ∷ bs) e = absurd (cc)
same_parts (a ∷ gs) [] e = absurd (cc)
same_parts (a ∷ gs) (b ∷ bs) e =
    and_from _ _ (a.1.1 b.1 (ap (λ (p : List ℕ × Ty). p.1) (heads _ _ _ _ e))) (same_parts gs bs (tails _ _ _ _ e))

-- a number for each kind of type
abbrev rank : Ty-F Ty → ℕ
rank Ty-F.Bool = 0
rank Ty-F.Int = 1
rank Ty-F.Real = 2
rank Ty-F.Text = 3
rank Ty-F.Timer = 4
rank Ty-F.Inst = 5
rank Ty-F.Void = 6
rank (Ty-F.Choice k) = 7
rank (Ty-F.TupleOf parts) = 8
rank (Ty-F.ListOf a) = 9
rank (Ty-F.SetOf a) = 10
rank (Ty-F.DictOf k v) = 11
rank (Ty-F.Chan w a) = 12
rank (Ty-F.Dist a) = 13

same_rank : (a b : Ty-F Ty) → a ≡ b → nat_eq (rank a) (rank b) ≡ true
same_rank a b e = eq-eqb (rank a) (rank b) (ap rank e)

same_layers : (a : Ty-F Kept) (b : Ty-F Ty) →
    bare (map-Ty Ty Ty unnamed (map-Ty Kept Ty kept_type a)) ≡ bare (map-Ty Ty Ty unnamed b) →
    same_step (map-Ty Ty (Ty → Bool) same (map-Ty Kept Ty kept_type a)) b ≡ true
same_layers Ty-F.Bool Ty-F.Bool e = refl
same_layers Ty-F.Int Ty-F.Int e = refl
same_layers Ty-F.Real Ty-F.Real e = refl
same_layers Ty-F.Text Ty-F.Text e = refl
same_layers Ty-F.Timer Ty-F.Timer e = refl
same_layers Ty-F.Inst Ty-F.Inst e = refl
same_layers Ty-F.Void Ty-F.Void e = refl
same_layers (Ty-F.Choice k) (Ty-F.Choice l) e = eq-eqb k l (cc)
same_layers (Ty-F.TupleOf gs) (Ty-F.TupleOf bs) e = same_parts gs bs (cc)
same_layers (Ty-F.ListOf a) (Ty-F.ListOf b) e = a.1 b (cc)
same_layers (Ty-F.SetOf a) (Ty-F.SetOf b) e = a.1 b (cc)
same_layers (Ty-F.DictOf k v) (Ty-F.DictOf l w) e = and_from _ _ (k.1 l (cc)) (v.1 w (cc))
same_layers (Ty-F.Chan v a) (Ty-F.Chan w b) e =
    let ways : v ≡ w = cc in
    and_from _ _ (subst (λ w. same_way v w ≡ true) ways (same_way_itself v)) (a.1 b (cc))
same_layers (Ty-F.Dist a) (Ty-F.Dist b) e = a.1 b (cc)
same_layers _ _ e = absurd (false≢true (same_rank _ _ e))

pub equal_same : (a b : Ty) → unnamed a ≡ unnamed b → same a b ≡ true
equal_same = ind-Ty SameOfEqual (λ x y e. subst (λ x. SameOfEqual (roll-Ty x)) e (λ b h.
    same_rolled (map-Ty Kept Ty kept_type y) b ∙
    same_layers y (out-Ty b) (roll_apart _ _ (sym (unnamed_rolled (map-Ty Kept Ty kept_type y)) ∙ h ∙ unnamed_out b))))

-- so it is an equivalence

pub same_reflexive : (a : Ty) → same a a ≡ true
same_reflexive a = equal_same a a refl

pub same_symmetric : (a b : Ty) → same a b ≡ true → same b a ≡ true
same_symmetric a b h = equal_same b a (sym (same_equal a b h))

pub same_transitive : (a b c : Ty) → same a b ≡ true → same b c ≡ true → same a c ≡ true
same_transitive a b c h k = equal_same a c (same_equal a b h ∙ same_equal b c k)
