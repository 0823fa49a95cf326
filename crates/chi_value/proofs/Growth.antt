-- A default never takes channels away.
use Rattle.std.proofs.Common.{◌≡◌, ℕ, ◌<◌, ◌≤◌, List, [], ◌∷◌, map, length, drop, get_or, drop-cons, suc, sym, ap, ◌∙◌, subst, arith}
use Rattle.std.proofs.Math.Nat.{le_refl}
use Rattle.chi_value.specs.declared.defaults.DefaultFault.{DefaultFault}
use Rattle.chi_value.specs.declared.defaults.DefaultFault.TheVariants as fault
use Rattle.chi_value.specs.declared.value.Value.{Value}
use Rattle.chi_value.specs.declared.shape.Shape.{Shape, Shape-F, map-Shape, fold-roll-Shape, ind-Shape, roll-Shape}
use Rattle.chi_value.proofs.Turns.{before}
use Rattle.chi_value.specs.Default.{default, default_step, in_turn, PastChannels}

abbrev Grows : Shape → Type 0
Grows shape = (channels : ℕ) → channels ≤ (default shape channels).1

abbrev Held : Type 0
Held = (shape : Shape) × Grows shape

abbrev shape_of : Held → Shape
shape_of held = held.0

all_grow : (shapes : List Held) (channels : ℕ) → channels ≤ (in_turn (map default (map shape_of shapes)) channels).1
all_grow [] channels = le_refl channels
all_grow (shape ∷ shapes) channels =
    let first = shape.1 channels in
    let rest = all_grow shapes (default shape.0 channels).1 in
    omega (arith, first, rest)

layer_grows : (layer : Shape-F Held) (channels : ℕ) →
    channels ≤ (default_step (map-Shape Shape (ℕ → Value × ℕ) default (map-Shape Held Shape shape_of layer)) channels).1
layer_grows (Shape-F.TupleOf shapes) channels = all_grow shapes channels
layer_grows Shape-F.Chan channels = omega arith
layer_grows _ channels = le_refl channels

pub default_grows : (shape : Shape) (channels : ℕ) → channels ≤ (default shape channels).1
default_grows = ind-Shape Grows (λ x y e. subst (λ x. Grows (roll-Shape x)) e (λ channels.
    let is = fold-roll-Shape (ℕ → Value × ℕ) default_step (map-Shape Held Shape shape_of y) in
    subst (λ (make : ℕ → Value × ℕ). channels ≤ (make channels).1) (sym is) (layer_grows y channels)))

pub in_turn_grows : (shapes : List Shape) (channels : ℕ) → channels ≤ (in_turn (map default shapes) channels).1
in_turn_grows [] channels = le_refl channels
in_turn_grows (shape ∷ shapes) channels =
    let first = default_grows shape channels in
    let rest = in_turn_grows shapes (default shape channels).1 in
    omega (arith, first, rest)

-- what refuses a part refuses the whole
pub past_whole : (f : DefaultFault) (part whole : ℕ) → PastChannels f part → part ≤ whole → PastChannels f whole
past_whole fault.TooManyChannels part whole h le = omega (arith, h, le)
past_whole fault.NoMemory part whole h le = tt

-- what refuses the next part refuses all of them
pub past_all : (f : DefaultFault) (values : List Value) (parts : List Shape) (i count : ℕ) (part : Shape) (whole : List Value × ℕ) →
    whole ≡ before values (in_turn (map default (drop i parts)) count) → i < length parts → part ≡ get_or parts i part →
    PastChannels f (default part count).1 → PastChannels f whole.1
past_all f values parts i count part whole is below at past =
    let split : drop i parts ≡ part ∷ drop (suc i) parts = drop-cons parts i part below ∙ ap (λ p. p ∷ drop (suc i) parts) (sym at) in
    let numbers : whole.1 ≡ (in_turn (map default (part ∷ drop (suc i) parts)) count).1 =
    ap (λ (made : List Value × ℕ). made.1) is ∙ ap (λ shapes. (in_turn (map default shapes) count).1) split in
    let grown = in_turn_grows (drop (suc i) parts) (default part count).1 in
    past_whole f (default part count).1 whole.1 past (omega (arith, numbers, grown))
