-- Values that were read before some arguments, together with what those are read as.
use Rattle.std.proofs.Common.{◌≡◌, ℕ, ◌+◌, ◌<◌, ◌≤◌, List, [], ◌∷◌, ◌++◌, length, get_or, drop, Some, None, Result, Ok, Err, refl, sym, ap, ◌∙◌, add-one, drop-cons}
use Rattle.std.proofs.lemmas.List.{drop_all}
use Rattle.std.specs.Prelude.{zip}
use Rattle.chi_types.specs.declared.ty.Ty.{Ty, out-Ty}
use Rattle.chi_value.specs.declared.value.Value.{Value}
use Rattle.chi_cli.specs.declared.args.ArgFault.{ArgFault}
use Rattle.chi_cli.specs.declared.args.ArgFault.TheVariants as fault
use Rattle.chi_cli.specs.Commands.{Text}
use Rattle.chi_cli.specs.Arguments.{after, value_in, values_from, with_value}

after_fault : (done : List Value) (refused : ArgFault) → after done (Err refused) ≡ Err refused
after_fault [] refused = refl
after_fault (v ∷ vs) refused = ap (with_value v) (after_fault vs refused)

after_all : (done : List Value) → after done (Ok []) ≡ Ok done
after_all [] = refl
after_all (v ∷ vs) = ap (with_value v) (after_all vs)

after_one : (done : List Value) (v : Value) (read : Result (List Value) ArgFault) → after (done ++ v ∷ []) read ≡ after done (with_value v read)
after_one [] v read = refl
after_one (x ∷ xs) v read = ap (with_value x) (after_one xs v read)

pairs_at : (ps : List Ty) (xs : List Text) (at : ℕ) (p : Ty) (x : Text) → at < length ps → at < length xs → p ≡ get_or ps at p → x ≡ get_or xs at x
    → zip (drop at ps) (drop at xs) ≡ (p, x) ∷ zip (drop (at + 1) ps) (drop (at + 1) xs)
pairs_at ps xs at p x one two is_p is_x =
    rw (add-one, drop-cons ps at p, drop-cons xs at x, ← is_p, ← is_x) refl

-- an argument that is no text of its type is the fault
pub fault_at : (ps : List Ty) (xs : List Text) (at : ℕ) (p : Ty) (x : Text) (done : List Value) (all : Result (List Value) ArgFault)
    → at < length ps → at < length xs → p ≡ get_or ps at p → x ≡ get_or xs at x → value_in (out-Ty p) x ≡ None
    → after done (values_from (at + 1) (zip (drop at ps) (drop at xs))) ≡ all → all ≡ Err (fault.Text (at + 1))
fault_at ps xs at p x done all one two is_p is_x none before =
    let pairs = pairs_at ps xs at p x one two is_p is_x in
    let head : values_from (at + 1) (zip (drop at ps) (drop at xs)) ≡ Err (fault.Text (at + 1)) = rw (pairs, none) refl in
    sym before ∙ ap (after done) head ∙ after_fault done (fault.Text (at + 1))

-- one that is one is read
pub value_at : (ps : List Ty) (xs : List Text) (at : ℕ) (p : Ty) (x : Text) (done now : List Value) (v : Value) (all : Result (List Value) ArgFault)
    → at < length ps → at < length xs → p ≡ get_or ps at p → x ≡ get_or xs at x → value_in (out-Ty p) x ≡ Some v → now ≡ done ++ v ∷ []
    → after done (values_from (at + 1) (zip (drop at ps) (drop at xs))) ≡ all
    → after now (values_from (at + 1 + 1) (zip (drop (at + 1) ps) (drop (at + 1) xs))) ≡ all
value_at ps xs at p x done now v all one two is_p is_x some adds before =
    let pairs = pairs_at ps xs at p x one two is_p is_x in
    let rest : Result (List Value) ArgFault = values_from (at + 1 + 1) (zip (drop (at + 1) ps) (drop (at + 1) xs)) in
    let head : values_from (at + 1) (zip (drop at ps) (drop at xs)) ≡ with_value v (values_from (at + 1 + 1) (zip (drop (at + 1) ps) (drop (at + 1) xs))) = rw (pairs, some) refl in
    ap (λ (values : List Value). after values rest) adds ∙ after_one done v rest ∙ ap (after done) (sym head) ∙ before

-- where none is left, those before are all
pub values_end : (ps : List Ty) (xs : List Text) (at : ℕ) (done : List Value) (all : Result (List Value) ArgFault) → length ps ≤ at
    → after done (values_from (at + 1) (zip (drop at ps) (drop at xs))) ≡ all → all ≡ Ok done
values_end ps xs at done all past before =
    let none : drop at ps ≡ [] = drop_all at ps past in
    let head : values_from (at + 1) (zip (drop at ps) (drop at xs)) ≡ Ok [] = rw none refl in
    sym before ∙ ap (after done) head ∙ after_all done
