-- What a policy picks at a turn.
use Rattle.std.proofs.Common.{◌≡◌, ℕ, ◌+◌, ◌*◌, ◌<◌, ℤ, List, [], ◌∷◌, Option, Some, None, Bool, true, false, cond, length, sym, ◌∙◌, ap, refl}
use Rattle.std.specs.Prelude.{nat_lt}
use Rattle.std.specs.List.{Contains}
use Rattle.std.specs.Option.{option_and_then, option_to_list}
use Rattle.chi_core.specs.declared.label.Label.{Label}
use Rattle.chi_core.specs.declared.label.Label.TheVariants.{Advance}
use Rattle.chi_core.specs.Config.{Config}
use Rattle.chi_core.specs.Meeting.{next_due, may_reach}
use Rattle.chi_core.specs.Options.{numbers, options, actors, advance_to, advance, enabled_of, at_rest, ending_of, ending}
use Rattle.chi_core.specs.Picks.{Pick, picked_from, picked_option, picked_among, MayPick}
use Rattle.chi_core_runs.proofs.Lists.{at-contains, kept}
use Rattle.chi_core_runs.proofs.Picks.{is_some_of}

pub option_picked : (pick : Pick) (turn : ℕ) (config : Config) (p : ℕ) (label : Label)
    → picked_from pick (2 * turn) (actors config) ≡ Some p → picked_from pick (2 * turn + 1) (options config p) ≡ Some label
    → MayPick pick turn config label
option_picked pick turn config p label h g = among (actors config) h
  where
    among : (ps : List ℕ) → picked_from pick (2 * turn) ps ≡ Some p → picked_among pick turn config ps ≡ Some label
    among [] e = absurd (cc)
    among (q ∷ qs) e = ap (option_and_then (picked_option pick turn config)) e ∙ g

pub advance_picked : (pick : Pick) (turn : ℕ) (config : Config) → actors config ≡ [] → ending config ≡ None → MayPick pick turn config Advance
advance_picked pick turn config none on = ap (picked_among pick turn config) none ∙ by_due (next_due config) refl
  where
    rests : advance config ≡ None → ⊥
    rests e =
        let h : ending config ≡ Some (at_rest config)
        = ap (λ ps. ending_of (enabled_of config ps) config) none ∙ ap (λ o. ending_of (option_to_list o) config) e in
        let g : None ≡ Some (at_rest config) = sym on ∙ h in
        cc

    by_due : (o : Option ℤ) → next_due config ≡ o → advance_to config o ≡ Some Advance
    by_due None due = absurd (rests (ap (advance_to config) due))
    by_due (Some t) due = by_reach (may_reach config.until t) refl
      where
        by_reach : (b : Bool) → may_reach config.until t ≡ b → cond b (Some Advance) None ≡ Some Advance
        by_reach true is = refl
        by_reach false is = absurd (rests (ap (advance_to config) due ∙ ap (λ b. cond b (Some Advance) None) is))

pub actor_has_option : (config : Config) (p : ℕ) → Contains (actors config) p → 0 < length (options config p)
actor_has_option config p c =
    is_some_of _ (kept (λ q. nat_lt 0 (length (options config q))) (numbers (length config.instances)) c.0 p (at-contains (actors config) p c)).0
