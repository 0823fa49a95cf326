-- What statements set: variables that were visible before them, and new slots, of which those that unwinds bind are set once.
use Rattle.std.proofs.Common.{◌≡◌, ◌⊎◌, inl, inr, ℕ, ◌<◌, ◌≤◌, Bool, true, false, List, [], ◌∷◌, ◌++◌, map, length, Some, sym, subst, append-nil, arith}
use Rattle.chi_types.specs.declared.ty.Ty.{Ty}
use Rattle.chi_core.specs.Fills.{Fill, Fills, one_after_another}
use Rattle.chi_check_types.specs.declared.known.Known.TheVariants as known
use Rattle.chi_check_types.specs.Names.{Names, known_in}
use Rattle.chi_check_types.specs.Typed.{Typed}
use Rattle.chi_check_expr.proofs.Kept.{Each}
use Rattle.chi_check_laws.proofs.Conversions.{some_is, mapped}
use Rattle.chi_check.specs.Below.chi_check_stat_lines.specs.declared.state.State.{State}
use Rattle.chi_check.specs.Below.chi_check_stat_lines.specs.Stated.{Turn, in_turn, alone}
use Rattle.chi_check.specs.Below.chi_check_stat_lines.specs.States.{cut, block}
use Rattle.chi_check_laws.specs.Bodies.{Grows}
use Rattle.chi_check_laws.proofs.Apart.{each_map, Apart, AllApart, apart_append, crossed, in_two}
use Rattle.chi_check_laws.proofs.States.{grows_none, grows_on, cut_names, cut_grows}
use Rattle.chi_check_laws.proofs.Turns.{both_made, each_append}

-- a slot of a visible variable that may be assigned
abbrev pub Visible : Names → ℕ → Type 0
Visible names slot = (name : List ℕ) × (t : Ty) × (known_in names name ≡ Some (known.Var slot t))

abbrev pub Below : State → Type 0
Below s = (slot : ℕ) → Visible s.names slot → slot < length s.slots

-- one that was visible before, which no unwind binds, or a new one
abbrev pub Mine : State → State → Fill → Type 0
Mine s n f = ((f.by_unwind ≡ false) × Visible s.names f.slot) ⊎ ((length s.slots ≤ f.slot) × (f.slot < length n.slots))

-- an unwind doesn't bind the slot
abbrev pub Other : ℕ → Fill → Type 0
Other slot f = f.by_unwind ≡ true → f.slot ≡ slot → ⊥

-- from one state to another
pub record Filled (s n : State) (fs : Fills) : Type 0 where
  pub long : length s.slots ≤ length n.slots
  pub each : Each (Mine s n) fs
  pub apart : AllApart fs
  pub names : (slot : ℕ) → Visible n.names slot → Visible s.names slot ⊎ ((length s.slots ≤ slot) × (slot < length n.slots) × Each (Other slot) fs)

not_both : (b : Bool) → b ≡ true → b ≡ false → ⊥
not_both true p q = absurd (cc)
not_both false p q = absurd (cc)

module _ (a b : State) (fs : Fills) (low : Below a) (h : Filled a b fs) where
  pub still_below : Below b
  still_below slot v = by (h.names slot v)
    where
      by : Visible a.names slot ⊎ ((length a.slots ≤ slot) × (slot < length b.slots) × Each (Other slot) fs) → slot < length b.slots
      by (inl old) = let less = low slot old in omega (arith, less, h.long)
      by (inr new) = new.1

  -- all is below the slots that come after it
  mine_below : (f : Fill) → Mine a b f → f.slot < length b.slots
  mine_below f (inl old) = let less = low f.slot old.1 in omega (arith, less, h.long)
  mine_below f (inr new) = new.1

  above_other : (slot : ℕ) → length b.slots ≤ slot → (f : Fill) → Mine a b f → Other slot f
  above_other slot above f mine unwinds same = let less = mine_below f mine in absurd (omega (arith, less, above, same))

  -- what comes after it is apart from it
  apart_from : (c : State) (g : Fill) → Mine b c g → Each (λ f. Apart f g) fs
  apart_from c g (inr new) = each_map (Mine a b) (λ f. Apart f g) fs (λ f mine unwinds same. let less = mine_below f mine in absurd (omega (arith, less, new.0, same))) h.each
  apart_from c g (inl old) = by (h.names g.slot old.1)
    where
      later : Visible a.names g.slot → (f : Fill) → Mine a b f → Apart f g
      later v f (inl first) (inl unwinds) same = absurd (not_both f.by_unwind unwinds first.0)
      later v f (inr first) (inl unwinds) same = let less = low g.slot v in absurd (omega (arith, less, first.0, same))
      later v f mine (inr unwinds) same = absurd (not_both g.by_unwind unwinds old.0)

      other : (f : Fill) → Other g.slot f → Apart f g
      other f differs (inl unwinds) same = differs unwinds same
      other f differs (inr unwinds) same = absurd (not_both g.by_unwind unwinds old.0)

      by : Visible a.names g.slot ⊎ ((length a.slots ≤ g.slot) × (g.slot < length b.slots) × Each (Other g.slot) fs) → Each (λ f. Apart f g) fs
      by (inl v) = each_map (Mine a b) (λ f. Apart f g) fs (later v) h.each
      by (inr new) = each_map (Other g.slot) (λ f. Apart f g) fs other new.2

  module _ (c : State) (gs : Fills) (k : Filled b c gs) where
    longer : (f : Fill) → Mine a b f → Mine a c f
    longer f (inl old) = inl old
    longer f (inr new) = let less : f.slot < length c.slots = omega (arith, new.1, k.long) in inr (new.0, less)

    earlier : (g : Fill) → Mine b c g → Mine a c g
    earlier g (inr new) = let more : length a.slots ≤ g.slot = omega (arith, new.0, h.long) in inr (more, new.1)
    earlier g (inl old) = by (h.names g.slot old.1)
      where
        by : Visible a.names g.slot ⊎ ((length a.slots ≤ g.slot) × (g.slot < length b.slots) × Each (Other g.slot) fs) → Mine a c g
        by (inl v) = inl (old.0, v)
        by (inr new) = let less : g.slot < length c.slots = omega (arith, new.1, k.long) in inr (new.0, less)

    before_other : (slot : ℕ) → slot < length b.slots → (g : Fill) → Mine b c g → Other slot g
    before_other slot less g (inl old) unwinds same = absurd (not_both g.by_unwind unwinds old.0)
    before_other slot less g (inr new) unwinds same = absurd (omega (arith, less, new.0, same))

    names_on : (slot : ℕ) → Visible c.names slot → Visible a.names slot ⊎ ((length a.slots ≤ slot) × (slot < length c.slots) × Each (Other slot) (fs ++ gs))
    names_on slot v = second (k.names slot v)
      where
        first : Visible a.names slot ⊎ ((length a.slots ≤ slot) × (slot < length b.slots) × Each (Other slot) fs) → Visible a.names slot ⊎ ((length a.slots ≤ slot) × (slot < length c.slots) × Each (Other slot) (fs ++ gs))
        first (inl old) = inl old
        first (inr new) =
            let less : slot < length c.slots = omega (arith, new.1, k.long) in
            inr (new.0, less, each_append (Other slot) fs gs new.2 (each_map (Mine b c) (Other slot) gs (before_other slot new.1) k.each))

        second : Visible b.names slot ⊎ ((length b.slots ≤ slot) × (slot < length c.slots) × Each (Other slot) gs) → Visible a.names slot ⊎ ((length a.slots ≤ slot) × (slot < length c.slots) × Each (Other slot) (fs ++ gs))
        second (inl old) = first (h.names slot old)
        second (inr new) =
            let more : length a.slots ≤ slot = omega (arith, new.0, h.long) in
            inr (more, new.1, each_append (Other slot) fs gs (each_map (Mine a b) (Other slot) fs (above_other slot new.0) h.each) new.2)

    -- one after another
    pub filled_on : Filled a c (fs ++ gs)
    filled_on = record {
      long = omega (arith, h.long, k.long);
      each = each_append (Mine a c) fs gs (each_map (Mine a b) (Mine a c) fs longer h.each) (each_map (Mine b c) (Mine a c) gs earlier k.each);
      apart = apart_append fs gs h.apart k.apart (crossed Apart fs gs (each_map (Mine b c) (λ g. Each (λ f. Apart f g) fs) gs (apart_from c) k.each));
      names = names_on;
    }

-- nothing is set
pub filled_none : (s : State) → Filled s s []
filled_none s = record { long = omega arith; each = tt; apart = tt; names = λ slot v. inl v }

-- only variables that are visible
abbrev pub Old : Names → Fill → Type 0
Old names f = (f.by_unwind ≡ false) × Visible names f.slot

pub filled_old : (s : State) (fs : Fills) → Each (Old s.names) fs → Filled s s fs
filled_old s fs h = record {
  long = omega arith;
  each = each_map (Old s.names) (Mine s s) fs (λ f old. inl old) h;
  apart = none_unwound fs h;
  names = λ slot v. inl v;
}
  where
    none_unwound : (fs : Fills) → Each (Old s.names) fs → AllApart fs
    none_unwound [] h = tt
    none_unwound (f ∷ fs) h = (each_map (Old s.names) (Apart f) fs (λ g old. by f g h.0.0 old.0) h.1, none_unwound fs h.1)
      where
        by : (f g : Fill) → f.by_unwind ≡ false → g.by_unwind ≡ false → Apart f g
        by f g p q (inl unwinds) same = absurd (not_both f.by_unwind unwinds p)
        by f g p q (inr unwinds) same = absurd (not_both g.by_unwind unwinds q)

-- at the end of a block its names are gone
pub filled_cut : (s n : State) (fs : Fills) → Grows s n → Filled s n fs → Filled s (cut (length s.names) n) fs
filled_cut s n fs g h = record {
  long = h.long;
  each = h.each;
  apart = h.apart;
  names = λ slot v. inl (subst (λ names. Visible names slot) (cut_names s n g) v);
}

-- ---- turns

pub record Filling {A : Type 0} (by : A → Fills) (f : Turn State A) : Type 0 where
  pub grows : (s : State) → Grows s (f s).next
  pub fills : (s : State) (xs : List A) → Below s → (f s).made ≡ Some xs → Filled s (f s).next (one_after_another (map by xs))

module _ {A : Type 0} (by : A → Fills) where
  pub in_turn_filling : (fs : List (Turn State A)) → Each (Filling by) fs → Filling by (in_turn fs)
  in_turn_filling [] h = record { grows = grows_none; fills = λ s xs low e. subst (λ xs. Filled s s (one_after_another (map by xs))) (some_is [] xs e) (filled_none s) }
  in_turn_filling (f ∷ fs) h = let rest = in_turn_filling fs h.1 in record {
    grows = λ s. grows_on s (f s).next (in_turn fs (f s).next).next (h.0.grows s) (rest.grows (f s).next);
    fills = λ s xs low e.
        let middle = (f s).next in
        let last = (in_turn fs middle).next in
        let m = both_made (λ x y. x ++ y) (f s).made (in_turn fs middle).made xs e in
        let first = h.0.fills s m.0 low m.2 in
        let second = rest.fills middle m.1 (still_below s middle _ low first) m.3 in
        subst (λ xs. Filled s last (one_after_another (map by xs))) m.4 (subst (Filled s last) (sym (in_two by m.0 m.1)) (filled_on s middle _ low first last _ second));
  }

  pub alone_filling : (t : Names → Typed A) → ((names : Names) (x : A) → (t names).made ≡ Some x → Each (Old names) (by x)) → Filling by (λ s. alone s (t s.names))
  alone_filling t h = record {
    grows = grows_none;
    fills = λ s xs low e.
        let m = mapped (λ x. x ∷ []) (t s.names).made xs e in
        subst (λ xs. Filled s s (one_after_another (map by xs))) m.2 (subst (Filled s s) (sym (append-nil (by m.0))) (filled_old s (by m.0) (h s.names m.0 m.1)));
  }

  pub block_filling : (fs : List (Turn State A)) → Each (Filling by) fs → Filling by (block fs)
  block_filling fs h = let inner = in_turn_filling fs h in record {
    grows = λ s. cut_grows s (in_turn fs s).next (inner.grows s);
    fills = λ s xs low e. filled_cut s (in_turn fs s).next _ (inner.grows s) (inner.fills s xs low e);
  }
