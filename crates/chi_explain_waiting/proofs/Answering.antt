-- Whether another instance offers the other side, one instance after another.
use Rattle.std.proofs.Common.{◌≡◌, ℕ, ℤ, zero, suc, ◌+◌, ◌<◌, ◌⊎◌, inl, inr, Bool, true, false, not, eqb, List, [], ◌∷◌, Some, length, get_or, refl, sym, ap, ◌∙◌, subst, arith}
use Rattle.std.specs.Prelude.{◌&&◌, ◌||◌}
use Rattle.std.specs.List.{list_any, slice_get}
use Rattle.std.proofs.lemmas.List.Folds.{list_any-append}
use Rattle.std.proofs.lemmas.Option.{slice_get_read}
use Rattle.chi_core.specs.declared.act.Act.{Act}
use Rattle.chi_core.specs.declared.act.Act.TheVariants.{Delay}
use Rattle.chi_core.specs.Config.{Config, Instance, Offer}
use Rattle.chi_core.specs.Options.{numbers}
use Rattle.chi_explain_waiting.specs.Partners.{answered_by, answers, is_answered, offers_of}

one_more : (test : ℕ → Bool) (n : ℕ) → list_any test (numbers (suc n)) ≡ (list_any test (numbers n) || test n)
one_more test n = list_any-append test (numbers n) (n ∷ []) ∙ ap (λ (b : Bool). list_any test (numbers n) || b) (last (test n))
  where
    last : (b : Bool) → (b || false) ≡ b
    last true = refl
    last false = refl

or_none : (a b : Bool) → a ≡ false → b ≡ false → (a || b) ≡ false
or_none a b e f = ap (λ (c : Bool). c || b) e ∙ f

or_first : (a b : Bool) → a ≡ true → (a || b) ≡ true
or_first a b e = ap (λ (c : Bool). c || b) e

or_last : (a b : Bool) → b ≡ true → (a || b) ≡ true
or_last true b e = refl
or_last false b e = e

any_below : (test : ℕ → Bool) (n m : ℕ) → n < m → test n ≡ true → list_any test (numbers m) ≡ true
any_below test n zero l e = absurd (omega arith)
any_below test n (suc m) l e = by_cases (any_below test n m) (let c : (n < m) ⊎ (n ≡ m) = grind arith in c)
  where
    by_cases : (n < m → test n ≡ true → list_any test (numbers m) ≡ true) → (n < m) ⊎ (n ≡ m) → list_any test (numbers (suc m)) ≡ true
    by_cases before (inl h) = one_more test m ∙ or_first _ (test m) (before h e)
    by_cases before (inr same) = one_more test m ∙ or_last (list_any test (numbers m)) (test m) (sym (ap test same) ∙ e)

-- no instance below number n does
abbrev pub NoneAnswers : Config → ℕ → Act → ℕ → Type 0
NoneAnswers config p act n = list_any (λ q. answered_by p act q (slice_get config.instances q)) (numbers n) ≡ false

pub answers_none : (config : Config) (p : ℕ) (act : Act) → NoneAnswers config p act 0
answers_none config p act = refl

here : (config : Config) (p k : ℕ) (act : Act) (i : Instance) (b : Bool) → k < length config.instances → i ≡ get_or config.instances k i
    → answered_by p act k (Some i) ≡ b → answered_by p act k (slice_get config.instances k) ≡ b
here config p k act i b l is e = ap (answered_by p act k) (slice_get_read config.instances (length config.instances) k i refl l is) ∙ e

pub answers_more : (config : Config) (p k : ℕ) (act : Act) (i : Instance) (b : Bool) → NoneAnswers config p act k → k < length config.instances
    → i ≡ get_or config.instances k i → b ≡ answered_by p act k (Some i) → b ≡ false → NoneAnswers config p act (k + 1)
answers_more config p k act i b none l is e f =
    subst (λ (n : ℕ). NoneAnswers config p act n) (let s : suc k ≡ k + 1 = omega arith in s)
    (one_more _ k ∙ or_none _ _ none (here config p k act i false l is (sym e ∙ f)))

pub answers_some : (config : Config) (p k : ℕ) (act : Act) (i : Instance) (b : Bool) → k < length config.instances
    → i ≡ get_or config.instances k i → b ≡ answered_by p act k (Some i) → b ≡ true → true ≡ is_answered config p act
answers_some config p k act i b l is e t = sym (any_below _ k (length config.instances) l (here config p k act i true l is (sym e ∙ t)))

pub answers_all : (config : Config) (p n : ℕ) (act : Act) → NoneAnswers config p act n → n ≡ length config.instances → false ≡ is_answered config p act
answers_all config p n act none same =
    sym (subst (λ (m : ℕ). NoneAnswers config p act m) same none)

-- of a delay nobody offers the other side

no_offer : (offers : List Offer) (due : ℤ) → list_any (λ o. answers (Delay due) o.act) offers ≡ false
no_offer [] due = refl
no_offer (o ∷ os) due = no_offer os due

and_none : (a b : Bool) → b ≡ false → (a && b) ≡ false
and_none true b e = e
and_none false b e = refl

no_partner : (config : Config) (p : ℕ) (due : ℤ) (ns : List ℕ) → list_any (λ q. answered_by p (Delay due) q (slice_get config.instances q)) ns ≡ false
no_partner config p due [] = refl
no_partner config p due (n ∷ ns) =
    or_none _ _ (and_none (not (eqb n p)) _ (no_offer (offers_of (slice_get config.instances n)) due)) (no_partner config p due ns)

pub answers_delay : (config : Config) (p : ℕ) (act : Act) (due : ℤ) → act ≡ Delay due → false ≡ is_answered config p act
answers_delay config p act due e = sym (ap (is_answered config p) e ∙ no_partner config p due (numbers (length config.instances)))

pub ruleset answering = (answers_none, answers_more, answers_some, answers_all)
