-- What is kept beside a configuration, mended after a step.
use Rattle.std.proofs.Common.{◌≡◌, ◌≢◌, ℕ, zero, suc, ◌+◌, ◌<◌, ◌≤◌, List, [], ◌∷◌, ◌++◌, Option, Bool, true, false, length, get_or, drop, length-drop, ◌⊎◌, inl, inr, sym, ◌∙◌, ap, subst, refl, arith}
use Rattle.std.specs.Prelude.{slice_set}
use Rattle.std.specs.List.{slice_get, Contains}
use Rattle.std.proofs.Math.ListN.{length-set}
use Rattle.std.proofs.lemmas.List.{get_or-set_same, get_or-set_other}
use Rattle.std.proofs.lemmas.Bool.{false≢true}
use Rattle.std.proofs.lemmas.Option.{slice_get_past}
use Rattle.chi_core.specs.declared.label.Label.{Label}
use Rattle.chi_core.specs.declared.label.Label.TheVariants.{Advance}
use Rattle.chi_core.specs.Config.{Config, Instance}
use Rattle.chi_plain_options.specs.declared.parties.Parties.{Parties}
use Rattle.chi_order.specs.Marked.{is_marked}
use Rattle.chi_plain.specs.Watching.{IsAffected, IsMarked, first_named, second_named}
use Rattle.chi_plain_options.specs.Acting.{acts}
use Rattle.chi_plain.specs.Led.{IsListed, Leads, Settles}
use Rattle.chi_plain_options.proofs.Havings.{acts-none}
use Rattle.chi_plain.proofs.Frames.{settles, settles-all}
use Rattle.chi_plain_options.proofs.Lists.{eq-cases, get_or-within}
use Rattle.chi_plain_options.proofs.Keeping.{keeps-more, contains-pushed}

-- marks

marked-past : (marks : List Bool) (p : ℕ) → length marks ≤ p → is_marked marks p ≡ false
marked-past [] p h = refl
marked-past (m ∷ ms) zero h = absurd (omega (arith, h))
marked-past (m ∷ ms) (suc p) h = marked-past ms p (omega (arith, h))

pub set-length : (marks new : List Bool) (k : ℕ) (mark : Bool) → new ≡ slice_set marks k mark → length new ≡ length marks
set-length marks new k mark e = ap length e ∙ length-set marks k mark

pub set-marked : (config : Config) (marks new : List Bool) (p : ℕ) (mark has : Bool) → new ≡ slice_set marks p mark → p < length marks → has ≡ acts config p
    → has ≡ mark → is_marked new p ≡ acts config p
set-marked config marks new p mark has e h is same = ap (λ l. is_marked l p) e ∙ get_or-set_same marks p mark false h ∙ sym same ∙ is

pub none-marked : (config : Config) (marks : List Bool) (p : ℕ) (has mark : Bool) → has ≡ acts config p → has ≡ false → mark ≡ is_marked marks p → mark ≡ false
    → is_marked marks p ≡ acts config p
none-marked config marks p has mark is none marked unmarked = sym marked ∙ unmarked ∙ sym none ∙ is

-- who is marked, or has an option, is within the room
pub marked-within : (marks : List Bool) (p : ℕ) (mark : Bool) → mark ≡ is_marked marks p → mark ≡ true → p < length marks
marked-within marks p mark is marked = by_place (let c : (p < length marks) ⊎ (length marks ≤ p) = grind arith in c)
  where
    by_place : (p < length marks) ⊎ (length marks ≤ p) → p < length marks
    by_place (inl l) = l
    by_place (inr g) = absurd (false≢true (sym (marked-past marks p g) ∙ sym is ∙ marked))

pub acts-within : (config : Config) (marks : List Bool) (p : ℕ) (has : Bool) → length config.instances ≤ length marks → has ≡ acts config p → has ≡ true
    → p < length marks
acts-within config marks p has room is some = by_place (let c : (p < length config.instances) ⊎ (length config.instances ≤ p) = grind arith in c)
  where
    by_place : (p < length config.instances) ⊎ (length config.instances ≤ p) → p < length marks
    by_place (inl l) = omega (arith, l, room)
    by_place (inr g) = absurd (false≢true (sym (acts-none config p (slice_get_past config.instances p g)) ∙ sym is ∙ some))

pub set-others : (marks new : List Bool) (k p : ℕ) (mark : Bool) → new ≡ slice_set marks k mark → p ≢ k → is_marked new p ≡ is_marked marks p
set-others marks new k p mark e other = ap (λ l. is_marked l p) e ∙ get_or-set_other marks k p mark false other

-- one more is looked at
abbrev pub RightBut : Config → List Bool → List ℕ → Type 0
RightBut config marks some = (p : ℕ) → (is_marked marks p ≡ acts config p) ⊎ Contains some p

contains-tail : (xs : List ℕ) (x y : ℕ) → Contains (x ∷ xs) y → (y ≡ x) ⊎ Contains xs y
contains-tail xs x y (zero, h, e) = inl (sym e)
contains-tail xs x y (suc k, h, e) = inr (k, (omega (arith, h)), e)

pub right-more : (config : Config) (before after : List Bool) (q : ℕ) (some rest : List ℕ) → RightBut config before some → some ≡ q ∷ rest
    → is_marked after q ≡ acts config q → ((p : ℕ) → p ≢ q → is_marked after p ≡ is_marked before p) → RightBut config after rest
right-more config before after q some rest right is renewed others p = by_cases (eq-cases p q)
  where
    by_right : p ≢ q → (is_marked before p ≡ acts config p) ⊎ Contains (q ∷ rest) p → (is_marked after p ≡ acts config p) ⊎ Contains rest p
    by_right other (inl e) = inl (others p other ∙ e)
    by_right other (inr c) = by_tail (contains-tail rest q p c)
      where
        by_tail : (p ≡ q) ⊎ Contains rest p → (is_marked after p ≡ acts config p) ⊎ Contains rest p
        by_tail (inl e) = absurd (other e)
        by_tail (inr c') = inr c'

    by_cases : (p ≡ q) ⊎ (p ≢ q) → (is_marked after p ≡ acts config p) ⊎ Contains rest p
    by_cases (inl e) = inl (ap (is_marked after) e ∙ renewed ∙ ap (acts config) (sym e))
    by_cases (inr other) = by_right other (subst (λ (l : List ℕ). (is_marked before p ≡ acts config p) ⊎ Contains l p) is (right p))

drop_step : (xs : List ℕ) (k q : ℕ) → k < length xs → q ≡ get_or xs k q → drop k xs ≡ q ∷ drop (k + 1) xs
drop_step [] k q h e = absurd (omega arith)
drop_step (x ∷ xs) zero q h e = ap (λ y. y ∷ xs) (sym e)
drop_step (x ∷ xs) (suc k) q h e =
    let one : suc (k + 1) ≡ suc k + 1 = omega arith in
    drop_step xs k q (omega arith) e ∙ ap (λ n. q ∷ drop n (x ∷ xs)) one

pub right-step : (config : Config) (before after : List Bool) (k q : ℕ) (some : List ℕ) → RightBut config before (drop k some) → k < length some → q ≡ get_or some k 0
    → is_marked after q ≡ acts config q → ((p : ℕ) → p ≢ q → is_marked after p ≡ is_marked before p) → RightBut config after (drop (k + 1) some)
right-step config before after k q some right h is renewed others =
    right-more config before after q (drop k some) (drop (k + 1) some) right (drop_step some k q h (is ∙ get_or-within some k 0 q h)) renewed others

pub right-none : (config : Config) (marks : List Bool) (n : ℕ) (some : List ℕ) → RightBut config marks (drop n some) → length some ≤ n
    → length config.instances ≤ length marks → IsMarked config marks
right-none config marks n some right past room = record { room = room; each = λ p. by_cases p (right p) }
  where
    none : length (drop n some) ≡ 0
    none = let e = length-drop n some in omega (arith, e, past)

    by_cases : (p : ℕ) → (is_marked marks p ≡ acts config p) ⊎ Contains (drop n some) p → is_marked marks p ≡ acts config p
    by_cases p (inl e) = e
    by_cases p (inr c) = absurd (let h : c.0 < length (drop n some) = c.1 in omega (arith, h, none))

-- all numbers

pub all-more : (before new : List ℕ) (n : ℕ) → new ≡ before ++ n ∷ [] → ((p : ℕ) → p < n → Contains before p) → (p : ℕ) → p < n + 1 → Contains new p
all-more before new n e all p h = by_cases (let c : (p < n) ⊎ (p ≡ n) = grind arith in c)
  where
    by_cases : (p < n) ⊎ (p ≡ n) → Contains new p
    by_cases (inl l) = keeps-more before new (n ∷ []) e p (all p l)
    by_cases (inr same) = subst (λ (k : ℕ). Contains new k) (sym same) (contains-pushed before new n e)

-- at first none is marked
pub right-new : (config : Config) (old marks : List Bool) (some : List ℕ) (n : ℕ) → n ≡ length config.instances → ((p : ℕ) → p < n → Contains some p)
    → old ≡ [] → ((p : ℕ) → is_marked marks p ≡ is_marked old p) → RightBut config marks some
right-new config old marks some n e all none same p = by_place (let c : (p < n) ⊎ (n ≤ p) = grind arith in c)
  where
    by_place : (p < n) ⊎ (n ≤ p) → (is_marked marks p ≡ acts config p) ⊎ Contains some p
    by_place (inl l) = inr (all p l)
    by_place (inr g) =
        inl (same p ∙ ap (λ (l : List Bool). is_marked l p) none ∙ sym (acts-none config p (slice_get_past config.instances p (omega (arith, g, e)))))

-- after a step

pub right-led : (old new : Config) (marks longer : List Bool) (some : List ℕ) → IsMarked old marks → ((p : ℕ) → is_marked longer p ≡ is_marked marks p)
    → Settles old new some → RightBut new longer some
right-led old new marks longer some marked same settled p = by_cases (settled p)
  where
    by_cases : (acts new p ≡ acts old p) ⊎ Contains some p → (is_marked longer p ≡ acts new p) ⊎ Contains some p
    by_cases (inl e) = inl (same p ∙ marked.each p ∙ sym e)
    by_cases (inr c) = inr c

-- What held of each instance holds of all, in its new form: it holds of the two that were named, of the new ones, and of the others as before.
module _ (label : Label) (old new : Config) (leads : Leads label old new) where
  others_stay : (r : ℕ) → r ≢ first_named label → r ≢ second_named label → r < length old.instances → slice_get old.instances r ≡ slice_get new.instances r
  others_stay r f g h = sym (leads.others.same r f g h)

  pub holds_of_all : (P Q : ℕ → Option Instance → Type 0) → ((r : ℕ) (o : Option Instance) → P r o → Q r o) → ((r : ℕ) → P r (slice_get old.instances r))
      → Q (first_named label) (slice_get new.instances (first_named label)) → Q (second_named label) (slice_get new.instances (second_named label))
      → ((r : ℕ) → length old.instances ≤ r → Q r (slice_get new.instances r)) → (r : ℕ) → Q r (slice_get new.instances r)
  holds_of_all P Q stays held first second added r = by_first (eq-cases r (first_named label))
    where
      Holds : ℕ → Type 0
      Holds k = Q k (slice_get new.instances k)

      by_old : r ≢ first_named label → r ≢ second_named label → (r < length old.instances) ⊎ (length old.instances ≤ r) → Q r (slice_get new.instances r)
      by_old f g (inl l) = subst (λ (o : Option Instance). Q r o) (others_stay r f g l) (stays r (slice_get old.instances r) (held r))
      by_old f g (inr h) = added r h

      by_second : r ≢ first_named label → (r ≡ second_named label) ⊎ (r ≢ second_named label) → Q r (slice_get new.instances r)
      by_second f (inl e) = subst Holds (sym e) second
      by_second f (inr g) = by_old f g (let c : (r < length old.instances) ⊎ (length old.instances ≤ r) = grind arith in c)

      by_first : (r ≡ first_named label) ⊎ (r ≢ first_named label) → Q r (slice_get new.instances r)
      by_first (inl e) = subst Holds (sym e) first
      by_first (inr f) = by_second f (eq-cases r (second_named label))

  -- the time stood still
  pub settles_still : (parties : Parties) (joiners : List (List ℕ)) (some : List ℕ) → label ≢ Advance → IsListed old parties joiners
      → IsAffected parties joiners (first_named label) (second_named label) old.instances new.instances some → Settles old new some
  settles_still parties joiners some other listed affected =
      settles old new parties joiners (first_named label) (second_named label) some leads.others (leads.still other) listed.communicating listed.waiting affected

  pub settles_later : (some : List ℕ) → ((p : ℕ) → p < length new.instances → Contains some p) → Settles old new some
  settles_later some all = settles-all old new some leads.others.grown all

pub ruleset renewing = (set-length, set-marked, none-marked, marked-within, acts-within, set-others, right-step, right-none, right-new, all-more)
