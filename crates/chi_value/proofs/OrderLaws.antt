-- The order of values is a total order, and plain values that tie are equal.
use Rattle.std.proofs.Common.{◌≡◌, ℕ, Bool, true, false, nat_eq, List, [], ◌∷◌, map, refl, sym, ap, subst, ◌∙◌}
use Rattle.std.proofs.lemmas.Bool.{false≢true, eq-eqb, and_parts}
use Rattle.std.proofs.lemmas.Cmp.{nat_cmp_total, int_cmp_total, nat_list_cmp_total}
use Rattle.std.specs.Cmp.{IsTotalOrder, bool_cmp_total}
use Rattle.std.specs.FinMap.{nat_cmp-IsAntisymmetric, int_cmp-IsAntisymmetric, slice_cmp-IsAntisymmetric}
use Rattle.std.specs.List.{list_all}
use Rattle.std.specs.Cmp.Lexicographic.{slice_cmp}
use Rattle.std.specs.declared.cmp.Ordering.{Ordering}
use Rattle.std.specs.declared.cmp.Ordering.TheVariants.{Less, Equal, Greater}
use Rattle.std.specs.Ordering.{nat_cmp, bool_cmp, ordering_then, ordering_reverse, is_eq, is_lt}
use Rattle.chi_value.specs.declared.value.Value.{Value, Value-F, map-Value, fold-roll-Value, fold_out-Value, ind-Value, out-Value, roll-Value, out-roll-Value, roll-out-Value}
use Rattle.chi_value.specs.Order.{order, order_step, within_kind, rank, against}
use Rattle.chi_value.specs.Plain.{is_plain, plain_step, itself}

-- what a chain of comparisons comes to

not_equal : {A : Type 0} (o : Ordering) → is_eq o ≡ false → o ≡ Equal → A
not_equal o other e = absurd (false≢true (sym other ∙ ap is_eq e))

first_equal : (o p : Ordering) → ordering_then o p ≡ Equal → o ≡ Equal
first_equal Less p e = e
first_equal Equal p e = refl
first_equal Greater p e = e

then_equal : (o p : Ordering) → ordering_then o p ≡ Equal → p ≡ Equal
then_equal Less p e = not_equal Less refl e
then_equal Equal p e = e
then_equal Greater p e = not_equal Greater refl e

reverse_then : (o p : Ordering) → ordering_reverse (ordering_then o p) ≡ ordering_then (ordering_reverse o) (ordering_reverse p)
reverse_then Less p = refl
reverse_then Equal p = refl
reverse_then Greater p = refl

reverse_reverse : (o : Ordering) → ordering_reverse (ordering_reverse o) ≡ o
reverse_reverse Less = refl
reverse_reverse Equal = refl
reverse_reverse Greater = refl

not_less : {A : Type 0} (o : Ordering) → is_lt o ≡ false → o ≡ Less → A
not_less o other e = absurd (false≢true (sym other ∙ ap is_lt e))

-- two chains that are less: in each the first is, or ties and the second is
less_then : (a b c p q r : Ordering) →
    (a ≡ Less → b ≡ Less → c ≡ Less) → (a ≡ Less → b ≡ Equal → c ≡ Less) → (a ≡ Equal → b ≡ Less → c ≡ Less) →
    (a ≡ Equal → b ≡ Equal → c ≡ Equal) → (a ≡ Equal → b ≡ Equal → p ≡ Less → q ≡ Less → r ≡ Less) →
    ordering_then a p ≡ Less → ordering_then b q ≡ Less → ordering_then c r ≡ Less
less_then Less Less c p q r ll le el ee rest h k = ap (λ o. ordering_then o r) (ll refl refl)
less_then Less Equal c p q r ll le el ee rest h k = ap (λ o. ordering_then o r) (le refl refl)
less_then Less Greater c p q r ll le el ee rest h k = not_less Greater refl k
less_then Equal Less c p q r ll le el ee rest h k = ap (λ o. ordering_then o r) (el refl refl)
less_then Equal Equal c p q r ll le el ee rest h k = ap (λ o. ordering_then o r) (ee refl refl) ∙ rest refl refl h k
less_then Equal Greater c p q r ll le el ee rest h k = not_less Greater refl k
less_then Greater b c p q r ll le el ee rest h k = not_less Greater refl h

-- an order that is known at each value of a total order
module _ {K : Type 0} (R : K → K → Ordering) (reversed : (x y : K) → R x y ≡ ordering_reverse (R y x))
    (alike : (x y z : K) → R x y ≡ Equal → R x z ≡ R y z) where
  pub tied_right : (x y z : K) → R y z ≡ Equal → R x y ≡ R x z
  tied_right x y z e = reversed x y ∙ ap ordering_reverse (alike y z x e) ∙ sym (reversed x z)

-- the comparison of lists of parts

pub against_is : (xs ys : List Value) → slice_cmp against (map order xs) ys ≡ slice_cmp order xs ys
against_is [] [] = refl
against_is [] (y ∷ ys) = refl
against_is (x ∷ xs) [] = refl
against_is (x ∷ xs) (y ∷ ys) = ap (ordering_then (order x y)) (against_is xs ys)

abbrev compared : Value-F Value → Value-F (Value → Ordering)
compared = map-Value Value (Value → Ordering) order

abbrev inner : Value-F Value → Value-F Value → Ordering
inner a b = within_kind (compared a) b

-- by the kinds, and then within the kind
abbrev chain : Value-F Value → Value-F Value → Ordering
chain a b = ordering_then (nat_cmp (rank a) (rank b)) (inner a b)

rank_compared : (a : Value-F Value) → rank (compared a) ≡ rank a
rank_compared (Value-F.Bool x) = refl
rank_compared (Value-F.Int x) = refl
rank_compared (Value-F.Real x) = refl
rank_compared (Value-F.Text x) = refl
rank_compared (Value-F.Choice k x) = refl
rank_compared (Value-F.TupleOf x) = refl
rank_compared (Value-F.ListOf x) = refl
rank_compared (Value-F.SetOf x) = refl
rank_compared (Value-F.DictOf x) = refl
rank_compared (Value-F.Chan x) = refl
rank_compared (Value-F.Dist x) = refl
rank_compared (Value-F.Timer x) = refl
rank_compared (Value-F.Inst x) = refl

chain_is : (a b : Value-F Value) → order_step (compared a) b ≡ chain a b
chain_is a b = λ i. ordering_then (nat_cmp (rank_compared a i) (rank b)) (inner a b)

order_rolled : (x : Value-F Value) (b : Value) → order (roll-Value x) b ≡ chain x (out-Value b)
order_rolled x b =
    (λ i. fold-roll-Value (Value → Ordering) (λ layer other. order_step layer (out-Value other)) x i b) ∙ chain_is x (out-Value b)

order_out : (a b : Value) → order a b ≡ chain (out-Value a) (out-Value b)
order_out a b =
    (λ i. fold_out-Value (Value → Ordering) (λ layer other. order_step layer (out-Value other)) a i b) ∙ chain_is (out-Value a) (out-Value b)

order_into : (a : Value) (x : Value-F Value) → order a (roll-Value x) ≡ chain (out-Value a) x
order_into a x = order_out a (roll-Value x) ∙ ap (chain (out-Value a)) (out-roll-Value x)

kinds_equal : (a b : Value-F Value) → chain a b ≡ Equal → rank a ≡ rank b
kinds_equal a b e = nat_cmp-IsAntisymmetric (rank a) (rank b) (first_equal _ _ e)

-- the other way round

abbrev Reverses : Value → Type 0
Reverses a = (b : Value) → order a b ≡ ordering_reverse (order b a)

abbrev Reversing : Type 0
Reversing = (a : Value) × Reverses a

abbrev reversing : Reversing → Value
reversing held = held.0

items_reverse : (xs : List Reversing) (ys : List Value) →
    slice_cmp against (map order (map reversing xs)) ys ≡ ordering_reverse (slice_cmp against (map order ys) (map reversing xs))
items_reverse [] [] = refl
items_reverse [] (y ∷ ys) = refl
items_reverse (x ∷ xs) [] = refl
items_reverse (x ∷ xs) (y ∷ ys) =
    (λ i. ordering_then (x.1 y i) (items_reverse xs ys i)) ∙
    sym (reverse_then (order y x.0) (slice_cmp against (map order ys) (map reversing xs)))

inner_reverse : (a : Value-F Reversing) (b : Value-F Value) →
    let value = map-Value Reversing Value reversing a in inner value b ≡ ordering_reverse (inner b value)
inner_reverse (Value-F.Bool x) (Value-F.Bool y) = bool_cmp_total.antisymm x y
inner_reverse (Value-F.Int x) (Value-F.Int y) = int_cmp_total.antisymm x y
inner_reverse (Value-F.Real x) (Value-F.Real y) = int_cmp_total.antisymm x y
inner_reverse (Value-F.Text x) (Value-F.Text y) = nat_list_cmp_total.antisymm x y
inner_reverse (Value-F.Choice k x) (Value-F.Choice l y) =
    (λ i. ordering_then (nat_cmp_total.antisymm k l i) (nat_cmp_total.antisymm x y i)) ∙ sym (reverse_then (nat_cmp l k) (nat_cmp y x))
inner_reverse (Value-F.TupleOf xs) (Value-F.TupleOf ys) = items_reverse xs ys
inner_reverse (Value-F.ListOf xs) (Value-F.ListOf ys) = items_reverse xs ys
inner_reverse (Value-F.SetOf xs) (Value-F.SetOf ys) = items_reverse xs ys
inner_reverse (Value-F.DictOf xs) (Value-F.DictOf ys) = items_reverse xs ys
inner_reverse (Value-F.Chan k) (Value-F.Chan l) = refl
inner_reverse (Value-F.Dist k) (Value-F.Dist l) = refl
inner_reverse (Value-F.Timer k) (Value-F.Timer l) = refl
inner_reverse (Value-F.Inst k) (Value-F.Inst l) = refl
inner_reverse _ _ = refl

pub order_reverse : (a b : Value) → order a b ≡ ordering_reverse (order b a)
order_reverse = ind-Value Reverses (λ x y e. subst (λ x. Reverses (roll-Value x)) e (λ b.
    let value = map-Value Reversing Value reversing y in
    order_rolled value b ∙
    (λ i. ordering_then (nat_cmp_total.antisymm (rank value) (rank (out-Value b)) i) (inner_reverse y (out-Value b) i)) ∙
    sym (reverse_then (nat_cmp (rank (out-Value b)) (rank value)) (inner (out-Value b) value)) ∙
    ap ordering_reverse (sym (order_into b value))))

-- values that tie stand alike to every other

abbrev StandsAlike : Value → Type 0
StandsAlike a = (b c : Value) → order a b ≡ Equal → order a c ≡ order b c

abbrev Standing : Type 0
Standing = (a : Value) × StandsAlike a

abbrev standing : Standing → Value
standing held = held.0

items_stand : (xs : List Standing) (ys zs : List Value) →
    slice_cmp against (map order (map standing xs)) ys ≡ Equal →
    slice_cmp against (map order (map standing xs)) zs ≡ slice_cmp against (map order ys) zs
items_stand [] [] zs e = refl
items_stand [] (y ∷ ys) zs e = not_equal Less refl e
items_stand (x ∷ xs) [] zs e = not_equal Greater refl e
items_stand (x ∷ xs) (y ∷ ys) [] e = refl
items_stand (x ∷ xs) (y ∷ ys) (z ∷ zs) e =
    let first = x.1 y z (first_equal _ _ e) in
    let rest = items_stand xs ys zs (then_equal _ _ e) in
    λ i. ordering_then (first i) (rest i)

other_kinds : {A : Type 0} (a b : Value-F Value) → nat_eq (rank a) (rank b) ≡ false → rank a ≡ rank b → A
other_kinds a b other e = absurd (false≢true (sym other ∙ eq-eqb (rank a) (rank b) e))

inner_stands : (a : Value-F Standing) (b c : Value-F Value) →
    let value = map-Value Standing Value standing a in
    rank value ≡ rank b → inner value b ≡ Equal → inner value c ≡ inner b c
inner_stands (Value-F.Bool x) (Value-F.Bool y) (Value-F.Bool z) same e = bool_cmp_total.congr x y z e
inner_stands (Value-F.Bool x) (Value-F.Bool y) _ same e = refl
inner_stands (Value-F.Int x) (Value-F.Int y) (Value-F.Int z) same e = int_cmp_total.congr x y z e
inner_stands (Value-F.Int x) (Value-F.Int y) _ same e = refl
inner_stands (Value-F.Real x) (Value-F.Real y) (Value-F.Real z) same e = int_cmp_total.congr x y z e
inner_stands (Value-F.Real x) (Value-F.Real y) _ same e = refl
inner_stands (Value-F.Text x) (Value-F.Text y) (Value-F.Text z) same e = nat_list_cmp_total.congr x y z e
inner_stands (Value-F.Text x) (Value-F.Text y) _ same e = refl
inner_stands (Value-F.Choice k x) (Value-F.Choice l y) (Value-F.Choice m z) same e =
    let kinds = nat_cmp_total.congr k l m (first_equal _ _ e) in
    let positions = nat_cmp_total.congr x y z (then_equal _ _ e) in
    λ i. ordering_then (kinds i) (positions i)
inner_stands (Value-F.Choice k x) (Value-F.Choice l y) _ same e = refl
inner_stands (Value-F.TupleOf xs) (Value-F.TupleOf ys) (Value-F.TupleOf zs) same e = items_stand xs ys zs e
inner_stands (Value-F.TupleOf xs) (Value-F.TupleOf ys) _ same e = refl
inner_stands (Value-F.ListOf xs) (Value-F.ListOf ys) (Value-F.ListOf zs) same e = items_stand xs ys zs e
inner_stands (Value-F.ListOf xs) (Value-F.ListOf ys) _ same e = refl
inner_stands (Value-F.SetOf xs) (Value-F.SetOf ys) (Value-F.SetOf zs) same e = items_stand xs ys zs e
inner_stands (Value-F.SetOf xs) (Value-F.SetOf ys) _ same e = refl
inner_stands (Value-F.DictOf xs) (Value-F.DictOf ys) (Value-F.DictOf zs) same e = items_stand xs ys zs e
inner_stands (Value-F.DictOf xs) (Value-F.DictOf ys) _ same e = refl
inner_stands (Value-F.Chan x) (Value-F.Chan y) c same e = refl
inner_stands (Value-F.Dist x) (Value-F.Dist y) c same e = refl
inner_stands (Value-F.Timer x) (Value-F.Timer y) c same e = refl
inner_stands (Value-F.Inst x) (Value-F.Inst y) c same e = refl
inner_stands a b c same e = other_kinds (map-Value Standing Value standing a) b refl same

pub order_alike : (a b c : Value) → order a b ≡ Equal → order a c ≡ order b c
order_alike = ind-Value StandsAlike (λ x y e. subst (λ x. StandsAlike (roll-Value x)) e (λ b c h.
    let value = map-Value Standing Value standing y in
    let tied = sym (order_rolled value b) ∙ h in
    let kinds = kinds_equal value (out-Value b) tied in
    let inside = inner_stands y (out-Value b) (out-Value c) kinds (then_equal _ _ tied) in
    order_rolled value c ∙
    (λ i. ordering_then (nat_cmp (kinds i) (rank (out-Value c))) (inside i)) ∙
    sym (order_out b c)))

-- from value to value

numbers_step : (l m n : ℕ) (p q r : Ordering) → (p ≡ Less → q ≡ Less → r ≡ Less) →
    ordering_then (nat_cmp l m) p ≡ Less → ordering_then (nat_cmp m n) q ≡ Less → ordering_then (nat_cmp l n) r ≡ Less
numbers_step l m n p q r rest h k =
    less_then (nat_cmp l m) (nat_cmp m n) (nat_cmp l n) p q r
    (nat_cmp_total.trans l m n)
    (λ less tied. sym (tied_right nat_cmp nat_cmp_total.antisymm nat_cmp_total.congr l m n tied) ∙ less)
    (λ tied less. nat_cmp_total.congr l m n tied ∙ less)
    (λ tied again. nat_cmp_total.congr l m n tied ∙ again)
    (λ tied again. rest)
    h k

abbrev StepsOn : Value → Type 0
StepsOn a = (b c : Value) → order a b ≡ Less → order b c ≡ Less → order a c ≡ Less

abbrev Stepping : Type 0
Stepping = (a : Value) × StepsOn a

abbrev stepping : Stepping → Value
stepping held = held.0

items_step : (xs : List Stepping) (ys zs : List Value) →
    slice_cmp against (map order (map stepping xs)) ys ≡ Less → slice_cmp against (map order ys) zs ≡ Less →
    slice_cmp against (map order (map stepping xs)) zs ≡ Less
items_step [] [] zs h k = not_less Equal refl h
items_step [] (y ∷ ys) [] h k = not_less Greater refl k
items_step [] (y ∷ ys) (z ∷ zs) h k = refl
items_step (x ∷ xs) [] zs h k = not_less Greater refl h
items_step (x ∷ xs) (y ∷ ys) [] h k = not_less Greater refl k
items_step (x ∷ xs) (y ∷ ys) (z ∷ zs) h k =
    less_then (order x.0 y) (order y z) (order x.0 z) _ _ _
    (x.1 y z)
    (λ less tied. sym (tied_right order order_reverse order_alike x.0 y z tied) ∙ less)
    (λ tied less. order_alike x.0 y z tied ∙ less)
    (λ tied again. order_alike x.0 y z tied ∙ again)
    (λ tied again. items_step xs ys zs)
    h k

inner_steps : (a : Value-F Stepping) (b c : Value-F Value) →
    let value = map-Value Stepping Value stepping a in
    inner value b ≡ Less → inner b c ≡ Less → inner value c ≡ Less
inner_steps (Value-F.Bool x) (Value-F.Bool y) (Value-F.Bool z) h k = bool_cmp_total.trans x y z h k
inner_steps (Value-F.Bool x) (Value-F.Bool y) _ h k = not_less Equal refl k
inner_steps (Value-F.Int x) (Value-F.Int y) (Value-F.Int z) h k = int_cmp_total.trans x y z h k
inner_steps (Value-F.Int x) (Value-F.Int y) _ h k = not_less Equal refl k
inner_steps (Value-F.Real x) (Value-F.Real y) (Value-F.Real z) h k = int_cmp_total.trans x y z h k
inner_steps (Value-F.Real x) (Value-F.Real y) _ h k = not_less Equal refl k
inner_steps (Value-F.Text x) (Value-F.Text y) (Value-F.Text z) h k = nat_list_cmp_total.trans x y z h k
inner_steps (Value-F.Text x) (Value-F.Text y) _ h k = not_less Equal refl k
inner_steps (Value-F.Choice l x) (Value-F.Choice m y) (Value-F.Choice n z) h k =
    numbers_step l m n _ _ _ (nat_cmp_total.trans x y z) h k
inner_steps (Value-F.Choice l x) (Value-F.Choice m y) _ h k = not_less Equal refl k
inner_steps (Value-F.TupleOf xs) (Value-F.TupleOf ys) (Value-F.TupleOf zs) h k = items_step xs ys zs h k
inner_steps (Value-F.TupleOf xs) (Value-F.TupleOf ys) _ h k = not_less Equal refl k
inner_steps (Value-F.ListOf xs) (Value-F.ListOf ys) (Value-F.ListOf zs) h k = items_step xs ys zs h k
inner_steps (Value-F.ListOf xs) (Value-F.ListOf ys) _ h k = not_less Equal refl k
inner_steps (Value-F.SetOf xs) (Value-F.SetOf ys) (Value-F.SetOf zs) h k = items_step xs ys zs h k
inner_steps (Value-F.SetOf xs) (Value-F.SetOf ys) _ h k = not_less Equal refl k
inner_steps (Value-F.DictOf xs) (Value-F.DictOf ys) (Value-F.DictOf zs) h k = items_step xs ys zs h k
inner_steps (Value-F.DictOf xs) (Value-F.DictOf ys) _ h k = not_less Equal refl k
inner_steps _ b c h k = not_less Equal refl h

pub order_steps : (a b c : Value) → order a b ≡ Less → order b c ≡ Less → order a c ≡ Less
order_steps = ind-Value StepsOn (λ x y e. subst (λ x. StepsOn (roll-Value x)) e (λ b c h k.
    let value = map-Value Stepping Value stepping y in
    order_rolled value c ∙
    numbers_step (rank value) (rank (out-Value b)) (rank (out-Value c)) _ _ _ (inner_steps y (out-Value b) (out-Value c))
    (sym (order_rolled value b) ∙ h) (sym (order_out b c) ∙ k)))

pub order_total : IsTotalOrder order
order_total = record { antisymm = order_reverse; trans = order_steps; congr = order_alike }

-- plain values that tie are equal

abbrev EqualWhereTied : Value → Type 0
EqualWhereTied a = is_plain a ≡ true → (b : Value) → order a b ≡ Equal → a ≡ b

abbrev Tying : Type 0
Tying = (a : Value) × EqualWhereTied a

abbrev tying : Tying → Value
tying held = held.0

bool_equal : (x y : Bool) → bool_cmp x y ≡ Equal → x ≡ y
bool_equal true true e = refl
bool_equal false false e = refl
bool_equal true false e = not_equal Greater refl e
bool_equal false true e = not_equal Less refl e

items_equal : (xs : List Tying) (ys : List Value) → list_all itself (map is_plain (map tying xs)) ≡ true →
    slice_cmp against (map order (map tying xs)) ys ≡ Equal → map tying xs ≡ ys
items_equal [] [] plain e = refl
items_equal [] (y ∷ ys) plain e = not_equal Less refl e
items_equal (x ∷ xs) [] plain e = not_equal Greater refl e
items_equal (x ∷ xs) (y ∷ ys) plain e =
    let both = and_parts (is_plain x.0) (list_all itself (map is_plain (map tying xs))) plain in
    let first = x.1 both.0 y (first_equal _ _ e) in
    let rest = items_equal xs ys both.1 (then_equal _ _ e) in
    λ i. first i ∷ rest i

layers_equal : (a : Value-F Tying) (b : Value-F Value) →
    let value = map-Value Tying Value tying a in
    plain_step (map-Value Value Bool is_plain value) ≡ true → rank value ≡ rank b → inner value b ≡ Equal → value ≡ b
layers_equal (Value-F.Bool x) (Value-F.Bool y) plain same e = ap Value-F.Bool (bool_equal x y e)
layers_equal (Value-F.Int x) (Value-F.Int y) plain same e = ap Value-F.Int (int_cmp-IsAntisymmetric x y e)
layers_equal (Value-F.Real x) (Value-F.Real y) plain same e = ap Value-F.Real (int_cmp-IsAntisymmetric x y e)
layers_equal (Value-F.Text x) (Value-F.Text y) plain same e = ap Value-F.Text (slice_cmp-IsAntisymmetric nat_cmp-IsAntisymmetric x y e)
layers_equal (Value-F.Choice k x) (Value-F.Choice l y) plain same e =
    let kinds = nat_cmp-IsAntisymmetric k l (first_equal _ _ e) in
    let positions = nat_cmp-IsAntisymmetric x y (then_equal _ _ e) in
    λ i. Value-F.Choice (kinds i) (positions i)
layers_equal (Value-F.TupleOf xs) (Value-F.TupleOf ys) plain same e = ap Value-F.TupleOf (items_equal xs ys plain e)
layers_equal (Value-F.ListOf xs) (Value-F.ListOf ys) plain same e = ap Value-F.ListOf (items_equal xs ys plain e)
layers_equal (Value-F.SetOf xs) (Value-F.SetOf ys) plain same e = ap Value-F.SetOf (items_equal xs ys plain e)
layers_equal (Value-F.DictOf xs) (Value-F.DictOf ys) plain same e = ap Value-F.DictOf (items_equal xs ys plain e)
layers_equal (Value-F.Chan x) b plain same e = absurd (false≢true plain)
layers_equal (Value-F.Dist x) b plain same e = absurd (false≢true plain)
layers_equal (Value-F.Timer x) b plain same e = absurd (false≢true plain)
layers_equal (Value-F.Inst x) b plain same e = absurd (false≢true plain)
layers_equal a b plain same e = other_kinds (map-Value Tying Value tying a) b refl same

plain_rolled : (x : Value-F Value) → is_plain (roll-Value x) ≡ plain_step (map-Value Value Bool is_plain x)
plain_rolled x = fold-roll-Value Bool plain_step x

pub order_equal : (a : Value) → is_plain a ≡ true → (b : Value) → order a b ≡ Equal → a ≡ b
order_equal = ind-Value EqualWhereTied (λ x y e. subst (λ x. EqualWhereTied (roll-Value x)) e (λ plain b h.
    let value = map-Value Tying Value tying y in
    let tied = sym (order_rolled value b) ∙ h in
    let kinds = kinds_equal value (out-Value b) tied in
    ap roll-Value (layers_equal y (out-Value b) (sym (plain_rolled value) ∙ plain) kinds (then_equal _ _ tied)) ∙
    roll-out-Value b))
