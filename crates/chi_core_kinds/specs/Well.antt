-- What is done well: it is never amiss, and what it gives is right in a world where as much or more may be named.
use Rattle.std.specs.Prelude.{◌≡◌, length}
use Rattle.chi_dist.specs.Draws.{stream_count}
use Rattle.chi_core.specs.declared.view.View.{View}
use Rattle.chi_core.specs.Answer.{Answer, Gives, Fails, Spent, Amiss, Does}
use Rattle.chi_core.specs.Of.{World, Wider}

-- so many channels and instances are there as the world has, and each stream
pub record FitsView (w : World) (view : View) : Type 0 where
  pub channels : length w.carried ≡ view.channels
  pub streams : length view.draws ≡ stream_count
  pub instances : w.instances ≡ view.instances

-- P holds of x in a world that is as wide or wider, and fits the view
pub record Went {A : Type 0} (w : World) (P : World → A → Type 0) (x : A) (view : View) : Type 0 where
  pub world : World
  pub wider : Wider w world
  pub fits : FitsView world view
  pub is : P world x

-- what it gives is right, and it isn't amiss
abbrev pub Kept : {A : Type 0} → World → (World → A → Type 0) → Answer A → Type 0
Kept w P (Gives x view) = Went w P x view
Kept w P (Fails kind) = Unit {0}
Kept w P Spent = Unit {0}
Kept w P Amiss = ⊥

-- it is done well wherever the view fits; instances may be new
abbrev pub Grows : {A : Type 0} → World → (World → A → Type 0) → Does A → Type 0
Grows w P m = (view : View) → FitsView w view → Kept w P (m view)

-- no instance is new
abbrev pub Same : {A : Type 0} → World → (World → A → Type 0) → World → A → Type 0
Same w P v x = (v.instances ≡ w.instances) × P v x

-- it is done well wherever the view fits, and makes no instance
abbrev pub Well : {A : Type 0} → World → (World → A → Type 0) → Does A → Type 0
Well w P m = Grows w (Same w P) m
