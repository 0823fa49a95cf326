-- Instances that are added.
use Rattle.std.proofs.Common.{◌≡◌, ℕ, zero, suc, ◌+◌, ◌≤◌, List, [], ◌∷◌, ◌++◌, Bool, length, sym, ◌∙◌, ap, refl, arith, length-append}
use Rattle.std.specs.Prelude.{map}
use Rattle.std.specs.List.{range_with_len}
use Rattle.std.proofs.lemmas.List.{append-nil, append_assoc, map-append}
use Rattle.chi_core.specs.declared.limits.TheConstants.{MOST_INSTANCES}
use Rattle.chi_core.specs.Config.{Instance, has_finished, settled}
use Rattle.chi_plain_steps.specs.Configurations.{IsKept}

-- one more is settled

pub settled_more : (done all before after : List Instance) (i j : Instance) → done ++ map settled before ≡ all → before ≡ i ∷ after → j ≡ settled i
    → (done ++ j ∷ []) ++ map settled after ≡ all
settled_more done all before after i j e at is =
    append_assoc done (j ∷ []) (map settled after) ∙ ap (λ x. done ++ x ∷ map settled after) is ∙ sym (ap (λ l. done ++ map settled l) at) ∙ e

pub flags_more : (flags : List Bool) (done : List Instance) (flag : Bool) (j : Instance) → flags ≡ map has_finished done → flag ≡ has_finished j
    → flags ++ flag ∷ [] ≡ map has_finished (done ++ j ∷ [])
flags_more flags done flag j e is = (λ k. e k ++ is k ∷ []) ∙ sym (map-append has_finished done (j ∷ []))

pub settled_all : (done all before : List Instance) → length before ≡ 0 → done ++ map settled before ≡ all → done ≡ all
settled_all done all [] h e = sym (append-nil done) ∙ e
settled_all done all (i ∷ before) h e = absurd (omega arith)

pub settled_none : (all : List Instance) → [] ++ all ≡ all
settled_none all = refl

-- all of them are added

pub kept-add : (is js more : List Instance) (old flags new : List Bool) → IsKept is old → js ≡ is ++ more → new ≡ old ++ flags → flags ≡ map has_finished more
    → length is + length more ≤ MOST_INSTANCES → IsKept js new
kept-add is js more old flags new kept at set e few = record {
  few = omega (arith, ap length at, length-append is more, few);
  flags = set ∙ (λ k. kept.flags k ++ e k) ∙ sym (map-append has_finished is more) ∙ sym (ap (map has_finished) at);
}

pub ruleset adding = (settled_more, flags_more, settled_all, settled_none)

-- one more number
pub range_more : (a n : ℕ) → range_with_len a (n + 1) ≡ range_with_len a n ++ (a + n) ∷ []
range_more a n = let one : n + 1 ≡ suc n = omega arith in ap (range_with_len a) one ∙ by_count a n
  where
    by_count : (a n : ℕ) → range_with_len a (suc n) ≡ range_with_len a n ++ (a + n) ∷ []
    by_count a zero = let e : a ≡ a + 0 = omega arith in ap (λ x. x ∷ []) e
    by_count a (suc n) =
        let e : (a + 1) + n ≡ a + suc n = omega arith in
        ap (λ l. a ∷ l) (by_count (a + 1) n ∙ ap (λ x. range_with_len (a + 1) n ++ x ∷ []) e)

pub range_none : (a : ℕ) → [] ≡ range_with_len a 0
range_none a = refl

pub ruleset numbering = (range_more, range_none)
