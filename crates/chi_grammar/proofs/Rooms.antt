-- A tree or a front within a room is one within any larger room.
use Rattle.std.proofs.Common.{◌≡◌, suc, ◌+◌, ◌-◌, ◌≤◌, List, refl, arith}
use Rattle.chi_grammar.specs.declared.room.Nesting.{Nesting}
use Rattle.chi_grammar.specs.declared.room.Nesting.TheVariants.{Block, Expression}
use Rattle.chi_grammar.specs.declared.room.Room.{Room}
use Rattle.chi_grammar.specs.Rooms.{IsInside, IsFull}
use Rattle.chi_grammar.specs.Rules.{Tree, Rule, Grammar}
use Rattle.chi_grammar.specs.Trees.{Is}
use Rattle.chi_grammar.specs.Trees as is
use Rattle.chi_grammar.specs.Fronts.{Front}
use Rattle.chi_grammar.specs.Fronts as front

-- the second room is at least as large
pub record Within (room larger : Room) : Type 0 where
  pub blocks : room.blocks ≤ larger.blocks
  pub expressions : room.expressions ≤ larger.expressions

-- a room as large as two others together
abbrev pub joined : Room → Room → Room
joined room other = record { blocks = room.blocks + other.blocks; expressions = room.expressions + other.expressions }

pub Within-joined : (room other : Room) → Within room (joined room other)
Within-joined room other = record { blocks = omega arith; expressions = omega arith }

pub Within-joined_right : (room other : Room) → Within other (joined room other)
Within-joined_right room other = record { blocks = omega arith; expressions = omega arith }

-- the room around one
abbrev pub around : Nesting → Room → Room
around Block room = record { blocks = suc room.blocks; expressions = room.expressions }
around Expression room = record { blocks = room.blocks; expressions = suc room.expressions }

pub IsInside-around : (nesting : Nesting) (room : Room) → IsInside nesting (around nesting room) room
IsInside-around Block room = (refl, refl)
IsInside-around Expression room = (refl, refl)

pub IsInside-one : (nesting : Nesting) (room inner other : Room) → IsInside nesting room inner → IsInside nesting room other → other ≡ inner
IsInside-one Block room inner other p q =
    let e : other.blocks ≡ inner.blocks = omega arith in
    let f : other.expressions ≡ inner.expressions = omega arith in
    (λ i. record { blocks = e i; expressions = f i })
IsInside-one Expression room inner other p q =
    let e : other.blocks ≡ inner.blocks = omega arith in
    let f : other.expressions ≡ inner.expressions = omega arith in
    (λ i. record { blocks = e i; expressions = f i })

pub IsFull-IsInside : (nesting : Nesting) (room inner : Room) → IsFull nesting room → IsInside nesting room inner → ⊥
IsFull-IsInside Block room inner full p = omega arith
IsFull-IsInside Expression room inner full p = omega arith

-- the room inside a larger one
record Inner (nesting : Nesting) (inner larger : Room) : Type 0 where
  room : Room
  is : IsInside nesting larger room
  within : Within inner room

inner_of : (nesting : Nesting) (room inner larger : Room) → IsInside nesting room inner → Within room larger → Inner nesting inner larger
inner_of Block room inner larger p w =
    let blocks = w.blocks in
    let expressions = w.expressions in
    record {
      room = record { blocks = larger.blocks - 1; expressions = larger.expressions };
      is = (omega arith, refl);
      within = record { blocks = omega arith; expressions = omega arith };
    }
inner_of Expression room inner larger p w =
    let blocks = w.blocks in
    let expressions = w.expressions in
    record {
      room = record { blocks = larger.blocks; expressions = larger.expressions - 1 };
      is = (refl, omega arith);
      within = record { blocks = omega arith; expressions = omega arith };
    }

module _ {A S : Type 0} (g : Grammar A S) where
  pub Is-within : {room larger : Room} {r : Rule A S} {t : Tree A S} → Is g room r t → Within room larger → Is g larger r t
  Is-within (is.word e) w = is.word e
  Is-within (is.part p) w = is.part (Is-within p w)
  Is-within (is.both p q) w = is.both (Is-within p w) (Is-within q w)
  Is-within (is.left p) w = is.left (Is-within p w)
  Is-within (is.right p) w = is.right (Is-within p w)
  Is-within (is.once p) w = is.once (Is-within p w)
  Is-within is.never w = is.never
  Is-within (is.more p q) w = is.more (Is-within p w) (Is-within q w)
  Is-within is.enough w = is.enough
  Is-within {larger = larger} (is.deeper {room = room} {inner = inner} {nesting = nesting} e p) w =
      let n = inner_of nesting room inner larger e w in is.deeper n.is (Is-within p n.within)
  Is-within (is.chosen p e q) w = is.chosen (Is-within p w) e (Is-within q w)
  Is-within (is.otherwise p e q) w = is.otherwise (Is-within p w) e (Is-within q w)

  pub Front-within : {room larger : Room} {r : Rule A S} {f : List A} → Front g room r f → Within room larger → Front g larger r f
  Front-within front.empty w = front.empty
  Front-within (front.whole p e) w = front.whole (Is-within p w) e
  Front-within (front.part p) w = front.part (Front-within p w)
  Front-within (front.first p) w = front.first (Front-within p w)
  Front-within (front.next p q e) w = front.next (Is-within p w) (Front-within q w) e
  Front-within (front.left p) w = front.left (Front-within p w)
  Front-within (front.right p) w = front.right (Front-within p w)
  Front-within (front.once p) w = front.once (Front-within p w)
  Front-within (front.one p) w = front.one (Front-within p w)
  Front-within (front.more p q e) w = front.more (Is-within p w) (Front-within q w) e
  Front-within {larger = larger} (front.deeper {room = room} {inner = inner} {nesting = nesting} e p) w =
      let n = inner_of nesting room inner larger e w in front.deeper n.is (Front-within p n.within)
  Front-within (front.before p) w = front.before (Front-within p w)
  Front-within (front.chosen p e q f) w = front.chosen (Is-within p w) e (Front-within q w) f
  Front-within (front.otherwise p e q f) w = front.otherwise (Is-within p w) e (Front-within q w) f
