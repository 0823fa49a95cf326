-- Offers that are kept, and what their names are bound to.
use Rattle.std.proofs.Common.{◌≡◌, ◌≢◌, ℕ, ◌+◌, ◌<◌, ◌≤◌, List, [], ◌∷◌, ◌++◌, Option, Some, None, true, false, cond, length, get_or, drop, sym, ◌∙◌, ap, refl, arith}
use Rattle.std.specs.Prelude.{nat_lt}
use Rattle.std.specs.Option.{option_map, option_and_then}
use Rattle.std.proofs.lemmas.List.{append-nil, append_assoc, drop_more, drop_all}
use Rattle.chi_value.specs.declared.value.Value.{Value}
use Rattle.chi_core.specs.declared.act.Act.{Act}
use Rattle.chi_core.specs.declared.fault.FaultKind.TheVariants.{TooLarge}
use Rattle.chi_core.specs.declared.limits.TheConstants.{MOST_OFFERS}
use Rattle.chi_core.specs.declared.statement.CStat.{CStat}
use Rattle.chi_core.specs.declared.view.View.{View}
use Rattle.chi_core.specs.Answer.{Gives, Fails, Amiss, giving, wanted}
use Rattle.chi_core.specs.Opening.{Opening, kept}
use Rattle.chi_core.specs.Variables.{Variables, Bindings, value_at, bindings_at}

-- bindings before those that come after
unfoldable pub joined : Bindings → Option Bindings → Option Bindings
joined bindings later = option_map (λ rest. bindings ++ rest) later

pub joined_none : (all : Option Bindings) → joined [] all ≡ all
unfolding joined
joined_none None = refl
joined_none (Some rest) = refl

pub bindings_set : (variables : Variables) (slots : List ℕ) (k slot : ℕ) (bindings : Bindings) (whole : Option Bindings) → k < length slots → slot ≡ get_or slots k 0
    → whole ≡ joined bindings (bindings_at (drop k slots) variables) → whole ≢ None → value_at variables slot ≢ None
unfolding joined
bindings_set variables slots k slot bindings whole h at e well none =
    well (e ∙ ap (λ l. joined bindings (bindings_at l variables)) (drop_more slots k 0 h ∙ ap (λ y. y ∷ drop (k + 1) slots) (sym at))
    ∙ ap (λ o. joined bindings (option_and_then (λ x. option_map (λ rest. (slot, x) ∷ rest) (bindings_at (drop (k + 1) slots) variables)) o)) none)

pub bindings_more : (variables : Variables) (slots : List ℕ) (k slot : ℕ) (x : Value) (bindings : Bindings) → k < length slots → slot ≡ get_or slots k 0
    → value_at variables slot ≡ Some x
    → joined bindings (bindings_at (drop k slots) variables) ≡ joined (bindings ++ (slot, x) ∷ []) (bindings_at (drop (k + 1) slots) variables)
unfolding joined
bindings_more variables slots k slot x bindings h at e =
    ap (λ l. joined bindings (bindings_at l variables)) (drop_more slots k 0 h ∙ ap (λ y. y ∷ drop (k + 1) slots) (sym at))
    ∙ ap (λ o. joined bindings (option_and_then (λ x. option_map (λ rest. (slot, x) ∷ rest) (bindings_at (drop (k + 1) slots) variables)) o)) e
    ∙ by_rest (bindings_at (drop (k + 1) slots) variables)
  where
    by_rest : (o : Option Bindings) → option_map (λ rest. bindings ++ rest) (option_map (λ rest. (slot, x) ∷ rest) o) ≡ option_map (λ rest. (bindings ++ (slot, x) ∷ []) ++ rest) o
    by_rest None = refl
    by_rest (Some rest) = ap Some (sym (append_assoc bindings ((slot, x) ∷ []) rest))

pub bindings_all : (variables : Variables) (slots : List ℕ) (k : ℕ) (bindings : Bindings) → length slots ≤ k → joined bindings (bindings_at (drop k slots) variables) ≡ Some bindings
unfolding joined
bindings_all variables slots k bindings h = ap (λ l. joined bindings (bindings_at l variables)) (drop_all k slots h) ∙ ap Some (append-nil bindings)

pub ruleset gathering = (joined_none, bindings_set, bindings_more, bindings_all)

-- an offer that is kept

pub kept_large : (names : List ℕ) (body : List CStat) (o : Opening) (act : Act) (view : View) → MOST_OFFERS ≤ length o.offers → kept names body o act view ≡ Fails TooLarge
kept_large names body o act view h =
    let e : nat_lt (length o.offers) MOST_OFFERS ≡ false = grind arith in
    ap (λ b. cond b (giving (λ bindings. record o { offers = o.offers ++ record { act = act; bindings = bindings; body = body } ∷ [] }) (wanted (bindings_at names o.variables) view)) (Fails TooLarge)) e

pub kept_room : (names : List ℕ) (body : List CStat) (o : Opening) (act : Act) (view : View) → length o.offers < MOST_OFFERS
    → kept names body o act view ≡ giving (λ bindings. record o { offers = o.offers ++ record { act = act; bindings = bindings; body = body } ∷ [] }) (wanted (bindings_at names o.variables) view)
kept_room names body o act view h =
    let e : nat_lt (length o.offers) MOST_OFFERS ≡ true = grind arith in
    ap (λ b. cond b (giving (λ bindings. record o { offers = o.offers ++ record { act = act; bindings = bindings; body = body } ∷ [] }) (wanted (bindings_at names o.variables) view)) (Fails TooLarge)) e

pub kept_set : (names : List ℕ) (body : List CStat) (o : Opening) (act : Act) (view : View) → length o.offers < MOST_OFFERS → kept names body o act view ≢ Amiss
    → bindings_at names o.variables ≢ None
kept_set names body o act view h well none =
    well (kept_room names body o act view h
    ∙ ap (λ b. giving (λ bindings. record o { offers = o.offers ++ record { act = act; bindings = bindings; body = body } ∷ [] }) (wanted b view)) none)

pub kept_gives : (names : List ℕ) (body : List CStat) (o : Opening) (act : Act) (view : View) (bindings : Bindings) → length o.offers < MOST_OFFERS
    → bindings_at names o.variables ≡ Some bindings
    → kept names body o act view ≡ Gives (record o { offers = o.offers ++ record { act = act; bindings = bindings; body = body } ∷ [] }) view
kept_gives names body o act view bindings h e =
    kept_room names body o act view h
    ∙ ap (λ b. giving (λ bindings. record o { offers = o.offers ++ record { act = act; bindings = bindings; body = body } ∷ [] }) (wanted b view)) e

pub ruleset keeping = (kept_large, kept_set, kept_gives)
