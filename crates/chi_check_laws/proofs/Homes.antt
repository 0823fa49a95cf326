-- Bodies of functions, processes and models, whose formals are the first slots.
use Rattle.std.proofs.Common.{◌≡◌, ℕ, zero, suc, ◌+◌, ◌<◌, Bool, true, false, ◌||◌, nat_eq, nat_lt, List, [], ◌∷◌, ◌++◌, map, length, take, Option, Some, None, refl, sym, ap, subst, ◌∙◌, append_assoc, append-nil, length-append, arith}
use Rattle.std.proofs.lemmas.Bool.{eqb-true, lt-ltb}
use Rattle.std.specs.Prelude.{slice_get}
use Rattle.chi_tree.specs.declared.statement.Step.{Step}
use Rattle.chi_tree.specs.declared.type_tree.Formal.{Formal}
use Rattle.chi_types.specs.declared.ty.Ty.{Ty}
use Rattle.chi_core.specs.declared.statement.CStat.{CStat}
use Rattle.chi_core.specs.Fills.{by_body, UnwindsOwn}
use Rattle.chi_core.specs.Kinds.{kind_of, kinds_of, Every}
use Rattle.chi_core.specs.Scopes.{Scope}
use Rattle.chi_core.specs.SetSlots.{Known as Set, also, also_all}
use Rattle.chi_core.specs.Sound.{SoundIn, nothing_known}
use Rattle.chi_check.specs.Below.chi_check_streams.specs.Streams.{each, of_statement}
use Rattle.chi_check_types.specs.declared.known.Known.TheVariants as known
use Rattle.chi_check_types.specs.Names.{Names}
use Rattle.chi_check_expr.proofs.Kept.{Each}
use Rattle.chi_check_laws.specs.KnownNames.{AllStand}
use Rattle.chi_check_laws.proofs.Conversions.{some_is, mapped}
use Rattle.chi_check.specs.Below.chi_check_stat_lines.specs.declared.state.Binder.TheVariants as binder
use Rattle.chi_check.specs.Below.chi_check_stat_lines.specs.declared.state.State.{State}
use Rattle.chi_check.specs.Below.chi_check_stat_lines.specs.Stated.{in_turn}
use Rattle.chi_check.specs.Below.chi_check_stat_lines.specs.States.{is_taken, with_variable, next_slot, slot_if}
use Rattle.chi_check.specs.Below.chi_check_stat.specs.Statements.{stating_all}
use Rattle.chi_check.specs.Below.chi_check_headers.specs.declared.header.Header.{Header}
use Rattle.chi_check.specs.Below.chi_check_headers.specs.Headers.{all_types}
use Rattle.chi_check.specs.Bodies.{formals_bound, body_in}
use Rattle.chi_check_laws.specs.Bodies.{role_of, SlotsHave, Agrees, SoundBodyOf}
use Rattle.chi_check_laws.specs.Whole.{steps_are_whole}
use Rattle.chi_check_laws.proofs.Apart.{each_map}
use Rattle.chi_check_laws.proofs.Filled.{Visible, Below, Filling, in_turn_filling, still_below}
use Rattle.chi_check_laws.proofs.FilledNames.{fill_one, binding_filling}
use Rattle.chi_check_laws.proofs.More.{Within}
use Rattle.chi_check_laws.proofs.States.{grows_on, agrees_more, slots_before, take_front}
use Rattle.chi_check_laws.proofs.Turns.{both_made}
use Rattle.chi_check_laws.proofs.Walks.{variable_stands, slot_made}
use Rattle.chi_check_laws.proofs.Whole.{statements_sound}
use Rattle.chi_check_laws.proofs.WholeFills.{statements_grow, unwinds_own}

-- ---- formals

formals_filling : (formals : List Formal) (types : List (Option Ty)) → Each (Filling (fill_one binder.Variable)) (formals_bound formals types)
formals_filling [] types = tt
formals_filling (f ∷ formals) [] = tt
formals_filling (f ∷ formals) (t ∷ types) = (binding_filling binder.Variable f.name t, formals_filling formals types)

formals_fill : (formals : List Formal) (types : List (Option Ty)) → Filling (fill_one binder.Variable) (in_turn (formals_bound formals types))
formals_fill formals types = in_turn_filling (fill_one binder.Variable) (formals_bound formals types) (formals_filling formals types)

module _ (scope : Scope) where
  -- what holds once they are bound
  record FormalsStand (set : Set) (s next : State) (params : List Ty) (bound : List ℕ) : Type 0 where
    agrees : Agrees scope (also_all bound set) next
    slots : next.slots ≡ s.slots ++ params
    below : Each (λ slot. slot < length next.slots) bound

  formals_stand : (formals : List Formal) (types : List (Option Ty)) (params : List Ty) (set : Set) (s : State) (bound : List ℕ) → all_types types ≡ Some params → length formals ≡ length types → Every (SoundIn scope.core) params
      → SlotsHave scope (in_turn (formals_bound formals types) s).next.slots → Agrees scope set s → (in_turn (formals_bound formals types) s).made ≡ Some bound
      → FormalsStand set s (in_turn (formals_bound formals types) s).next params bound
  formals_stand [] [] params set s bound are long ty have all e =
      let none : [] ≡ bound = some_is [] bound e in
      let empty : [] ≡ params = some_is [] params are in
      subst (FormalsStand set s s params) none (record { agrees = all; slots = sym (append-nil s.slots) ∙ ap (λ ts. s.slots ++ ts) empty; below = tt })
  formals_stand [] (t ∷ types) params set s bound are long ty have all e = absurd (omega (arith, long))
  formals_stand (f ∷ formals) [] params set s bound are long ty have all e = absurd (omega (arith, long))
  formals_stand (f ∷ formals) (None ∷ types) params set s bound are long ty have all e = absurd (cc)
  formals_stand (f ∷ formals) (Some t ∷ types) params set s bound are long ty have all e =
      let more = mapped (λ more. t ∷ more) (all_types types) params are in
      let middle = with_variable binder.Variable f.name (Some t) s in
      let last = (in_turn (formals_bound formals types) middle).next in
      let m = both_made (λ x y. x ++ y) (slot_if (is_taken s.names f.name.text) true (next_slot s)) (in_turn (formals_bound formals types) middle).made bound e in
      let new = slot_made scope (is_taken s.names f.name.text) (Some t) (next_slot s) m.0 m.2 in
      let each_sound : Every (SoundIn scope.core) (t ∷ more.0) = subst (Every (SoundIn scope.core)) (sym more.2) ty in
      let grown = (formals_fill formals types).grows middle in
      let first = variable_stands scope binder.Variable f.name t set s new.0 (each_sound zero t refl) (slots_before scope middle last grown have) all in
      let fewer : length formals ≡ length types = omega (arith, long) in
      let rest = formals_stand formals types more.0 (also (next_slot s) set) middle m.1 more.1 fewer (λ k. each_sound (suc k)) have first.1 m.3 in
      let is : next_slot s ∷ m.1 ≡ bound = ap (λ xs. xs ++ m.1) new.3 ∙ m.4 in
      let slots : last.slots ≡ s.slots ++ (t ∷ more.0) = rest.slots ∙ append_assoc s.slots (t ∷ []) more.0 in
      let long_slots : length last.slots ≡ length s.slots + suc (length more.0) = ap length slots ∙ length-append s.slots (t ∷ more.0) in
      let less : next_slot s < length last.slots = omega (arith, long_slots) in
      subst (FormalsStand set s last params) is (record { agrees = rest.agrees; slots = slots ∙ ap (λ ts. s.slots ++ ts) more.2; below = (less, rest.below) })

-- ---- the slots that count as set

within_slots : (slots : List ℕ) (set other : Set) → Within set other → Each (λ slot. other slot ≡ true) slots → Within (also_all slots set) other
within_slots [] set other w h = w
within_slots (slot ∷ slots) set other w h = within_slots slots (also slot set) other (λ k is. by k (nat_eq k slot) refl is) h.1
  where
    by : (k : ℕ) (b : Bool) → nat_eq k slot ≡ b → (b || set k) ≡ true → other k ≡ true
    by k true same is = subst (λ k. other k ≡ true) (sym (eqb-true k slot same)) h.0
    by k false same is = w k is

length_kinds : (ts : List Ty) → length (kinds_of ts) ≡ length ts
length_kinds [] = refl
length_kinds (t ∷ ts) = ap suc (length_kinds ts)

pub get_kind : (ts : List Ty) (k : ℕ) (t : Ty) → slice_get ts k ≡ Some t → slice_get (kinds_of ts) k ≡ Some (kind_of t)
get_kind [] k t e = absurd (cc)
get_kind (u ∷ ts) zero t e = ap (λ t. Some (kind_of t)) (some_is u t e)
get_kind (u ∷ ts) (suc k) t e = get_kind ts k t e

nothing_within : (other : Set) → Within nothing_known other
nothing_within other slot e = absurd (cc)

-- ---- bodies

module _ (h : Header) (scope : Scope) (role : role_of h.home ≡ Some scope.role) (formals : List Formal) (steps : List Step) (names : Names) (whole : steps_are_whole steps ≡ true) where
  abbrev begun : State
  begun = (in_turn (formals_bound formals h.formals) (record { names = names; slots = [] })).next

  abbrev ended : State
  ended = (stating_all h.home false steps begun).next

  body_by : (params slots : List Ty) (body : List CStat) (bound : List ℕ) → all_types h.formals ≡ Some params → length formals ≡ length h.formals → Every (SoundIn scope.core) params → AllStand scope nothing_known names
      → scope.slots ≡ kinds_of slots → ended.slots ≡ slots → (in_turn (formals_bound formals h.formals) (record { names = names; slots = [] })).made ≡ Some bound → (stating_all h.home false steps begun).made ≡ Some body
      → SoundBodyOf scope params slots body
  body_by params slots body bound are long ty all kinds last bounds made =
      let none : Every (SoundIn scope.core) [] = λ k x e. absurd (cc) in
      let grown = statements_grow h.home false steps begun whole in
      let have : SlotsHave scope ended.slots = λ slot t is. ap (λ ks. slice_get ks slot) kinds ∙ get_kind slots slot t (subst (λ ts. slice_get ts slot ≡ Some t) last is) in
      let f = formals_stand scope formals h.formals params nothing_known (record { names = names; slots = [] }) bound are long ty (slots_before scope begun ended grown have) (record { names = all; slots = none }) bounds in
      let many : length begun.slots ≡ length (kinds_of params) = ap length f.slots ∙ sym (length_kinds params) in
      let count_as : Each (λ slot. nat_lt slot (length (kinds_of params)) ≡ true) bound =
      each_map (λ slot. slot < length begun.slots) (λ slot. nat_lt slot (length (kinds_of params)) ≡ true) bound (λ slot less. lt-ltb slot (length (kinds_of params)) (subst (λ n. slot < n) many less)) f.below
      in
      let known : Set = λ slot. nat_lt slot (length (kinds_of params)) in
      let agrees = agrees_more scope (also_all bound nothing_known) known begun (within_slots bound nothing_known known (nothing_within known) count_as) f.agrees in
      let sound = statements_sound h.home scope role known false steps begun body whole have agrees made in
      let low : Below (record { names = names; slots = [] }) = λ slot v. absurd (never slot v) in
      let below = still_below _ begun _ low ((formals_fill formals h.formals).fills (record { names = names; slots = [] }) bound low bounds) in
      record {
        first = (grown.slots.0, sym last ∙ grown.slots.1 ∙ ap (λ ts. ts ++ grown.slots.0) f.slots);
        types = subst (Every (SoundIn scope.core)) last sound.1.slots;
        home = λ short count. record {
          body = sound.0 short count;
          unwinds = subst (λ n. UnwindsOwn n (by_body (each (map of_statement body) count).part)) many (unwinds_own h.home false steps begun body whole (λ name slot t is. below slot (name, t, is)) made count);
        };
      }
    where
      never : (slot : ℕ) → Visible names slot → ⊥
      never slot v = false_true (all v.0 (known.Var slot v.1) v.2).counts
        where
          false_true : false ≡ true → ⊥
          false_true e = cc

  pub body_stands : (params slots : List Ty) (body : List CStat) → all_types h.formals ≡ Some params → length formals ≡ length h.formals → Every (SoundIn scope.core) params → AllStand scope nothing_known names
      → scope.slots ≡ kinds_of slots → (body_in h formals steps names).made ≡ Some (body, slots) → SoundBodyOf scope params slots body
  body_stands params slots body are long ty all kinds e =
      let m = both_made {C = List CStat × List Ty} (λ formals b. (b, ended.slots)) (in_turn (formals_bound formals h.formals) (record { names = names; slots = [] })).made (stating_all h.home false steps begun).made (body, slots) e in
      let same : m.1 ≡ body = ap (λ (b : List CStat × List Ty). b.0) m.4 in
      let last : ended.slots ≡ slots = ap (λ (b : List CStat × List Ty). b.1) m.4 in
      body_by params slots body m.0 are long ty all kinds last m.2 (m.3 ∙ ap Some same)

-- none of the names of a body is visible after it
pub body_names : (h : Header) (formals : List Formal) (steps : List Step) (names : Names) → steps_are_whole steps ≡ true → (body_in h formals steps names).next ≡ names
body_names h formals steps names whole =
    let first = (formals_fill formals h.formals).grows (record { names = names; slots = [] }) in
    let begun = (in_turn (formals_bound formals h.formals) (record { names = names; slots = [] })).next in
    let grown = grows_on (record { names = names; slots = [] }) begun (stating_all h.home false steps begun).next first (statements_grow h.home false steps begun whole) in
    ap (take (length names)) grown.names.1 ∙ take_front names grown.names.0
