-- Names and slots are only added, and the end of a block cuts off just the names that it has added.
use Rattle.std.proofs.Common.{◌≡◌, ◌⊎◌, inl, inr, ℕ, zero, suc, Bool, true, false, List, [], ◌∷◌, ◌++◌, length, take, Option, Some, None, refl, sym, ap, subst, ◌∙◌, append_assoc, append-nil}
use Rattle.std.specs.Prelude.{slice_get, if◌then◌else◌}
use Rattle.std.specs.Str.{bytes_eq}
use Rattle.chi_tree.specs.declared.type_tree.Name.{Name}
use Rattle.chi_types.specs.declared.ty.Ty.{Ty}
use Rattle.chi_core.specs.Kinds.{Every}
use Rattle.chi_core.specs.Scopes.{Scope}
use Rattle.chi_core.specs.SetSlots.{Known as Set}
use Rattle.chi_core.specs.Sound.{SoundIn}
use Rattle.chi_check_types.specs.declared.known.Known.{Known}
use Rattle.chi_check_types.specs.Names.{Names, known_in}
use Rattle.chi_check_laws.specs.KnownNames.{Stands, AllStand}
use Rattle.chi_check_laws.proofs.Conversions.{some_is, chosen}
use Rattle.chi_check.specs.Below.chi_check_stat_lines.specs.declared.state.Binder.{Binder}
use Rattle.chi_check.specs.Below.chi_check_stat_lines.specs.declared.state.State.{State}
use Rattle.chi_check.specs.Below.chi_check_stat_lines.specs.States.{is_taken, bound, with_slot, with_variable, cut}
use Rattle.chi_check_laws.specs.Bodies.{SlotsHave, Grows, Agrees}
use Rattle.chi_check_laws.proofs.More.{Within, names_more}

-- ---- lists

pub get_front : {A : Type 0} (xs more : List A) (k : ℕ) (x : A) → slice_get xs k ≡ Some x → slice_get (xs ++ more) k ≡ Some x
get_front [] more k x e = absurd (cc)
get_front (y ∷ xs) more zero x e = e
get_front (y ∷ xs) more (suc k) x e = get_front xs more k x e

pub get_last : {A : Type 0} (xs : List A) (x : A) → slice_get (xs ++ x ∷ []) (length xs) ≡ Some x
get_last [] x = refl
get_last (y ∷ xs) x = get_last xs x

pub take_front : {A : Type 0} (xs more : List A) → take (length xs) (xs ++ more) ≡ xs
take_front [] more = refl
take_front (x ∷ xs) more = ap (λ rest. x ∷ rest) (take_front xs more)

-- ---- states

pub grows_none : (s : State) → Grows s s
grows_none s = record { names = ([], sym (append-nil s.names)); slots = ([], sym (append-nil s.slots)) }

pub grows_on : (a b c : State) → Grows a b → Grows b c → Grows a c
grows_on a b c g h = record {
  names = (g.names.0 ++ h.names.0, h.names.1 ∙ ap (λ xs. xs ++ h.names.0) g.names.1 ∙ append_assoc a.names g.names.0 h.names.0);
  slots = (g.slots.0 ++ h.slots.0, h.slots.1 ∙ ap (λ xs. xs ++ h.slots.0) g.slots.1 ∙ append_assoc a.slots g.slots.0 h.slots.0);
}

name_added : (taken : Bool) (names : Names) (name : List ℕ) (k : Known) → (more : List (List ℕ × Known)) × ((if taken then names else (names ++ (name, k) ∷ [])) ≡ names ++ more)
name_added true names name k = ([], sym (append-nil names))
name_added false names name k = ((name, k) ∷ [], refl)

slot_added : (slots : List Ty) (t : Option Ty) → (more : List Ty) × (with_slot slots t ≡ slots ++ more)
slot_added slots None = ([], sym (append-nil slots))
slot_added slots (Some t) = (t ∷ [], refl)

pub variable_grows : (b : Binder) (name : Name) (t : Option Ty) (s : State) → Grows s (with_variable b name t s)
variable_grows b name t s = record { names = name_added (is_taken s.names name.text) s.names name.text (bound b (length s.slots) t); slots = slot_added s.slots t }

-- the end of a block leaves the names that were there before it
pub cut_names : (s t : State) → Grows s t → (cut (length s.names) t).names ≡ s.names
cut_names s t g = ap (take (length s.names)) g.names.1 ∙ take_front s.names g.names.0

pub cut_grows : (s t : State) → Grows s t → Grows s (cut (length s.names) t)
cut_grows s t g = record { names = ([], cut_names s t g ∙ sym (append-nil s.names)); slots = g.slots }

-- ---- with the slots of a later state

pub slots_before : (scope : Scope) (s t : State) → Grows s t → SlotsHave scope t.slots → SlotsHave scope s.slots
slots_before scope s t g have slot type is = have slot type (subst (λ slots. slice_get slots slot ≡ Some type) (sym g.slots.1) (get_front s.slots g.slots.0 slot type is))

-- ---- a new name

found_first : (b : Bool) (first k found : Known) (rest more : Option Known) → (rest ≡ Some found → (more ≡ Some found) ⊎ (k ≡ found))
    → (if b then Some first else rest) ≡ Some found → ((if b then Some first else more) ≡ Some found) ⊎ (k ≡ found)
found_first true first k found rest more h e = inl e
found_first false first k found rest more h e = h e

-- what is found is what was there, or what is new
pub found_in : (names : Names) (new : List ℕ) (k : Known) (name : List ℕ) (found : Known) → known_in (names ++ (new, k) ∷ []) name ≡ Some found
    → (known_in names name ≡ Some found) ⊎ (k ≡ found)
found_in [] new k name found e = inr (chosen (bytes_eq name new) k found e).1
found_in (entry ∷ names) new k name found e = found_first (bytes_eq name entry.0) entry.1 k found (known_in (names ++ (new, k) ∷ []) name) (known_in names name) (found_in names new k name found) e

module _ (scope : Scope) (set : Set) where
  pub name_stands : (names : Names) (name : List ℕ) (k : Known) → AllStand scope set names → Stands scope set k → AllStand scope set (names ++ (name, k) ∷ [])
  name_stands names new k all st name found e = by (found_in names new k name found e)
    where
      by : (known_in names name ≡ Some found) ⊎ (k ≡ found) → Stands scope set found
      by (inl old) = all name found old
      by (inr same) = subst (Stands scope set) same st

-- ---- agreement

module _ (scope : Scope) where
  -- the slots of a block stay, and their types are sound
  pub agrees_cut : (set later : Set) (s t : State) → Grows s t → Agrees scope set s → Agrees scope later t → Agrees scope set (cut (length s.names) t)
  agrees_cut set later s t g h k = record { names = subst (AllStand scope set) (sym (cut_names s t g)) h.names; slots = k.slots }

  pub agrees_more : (set more : Set) (s : State) → Within set more → Agrees scope set s → Agrees scope more s
  agrees_more set more s w h = record { names = names_more scope set more w s.names h.names; slots = h.slots }

every_last : {A : Type 0} (P : A → Type 0) (xs : List A) (x : A) → Every P xs → P x → Every P (xs ++ x ∷ [])
every_last P [] x h p zero y e = subst P (some_is x y e) p
every_last P [] x h p (suc k) y e = absurd (cc)
every_last P (z ∷ xs) x h p zero y e = h zero y e
every_last P (z ∷ xs) x h p (suc k) y e = every_last P xs x (λ k. h (suc k)) p k y e

pub slots_more : (scope : Scope) (b : Binder) (name : Name) (t : Ty) (s : State) → Every (SoundIn scope.core) s.slots → SoundIn scope.core t → Every (SoundIn scope.core) (with_variable b name (Some t) s).slots
slots_more scope b name t s h sound = every_last (SoundIn scope.core) s.slots t h sound
