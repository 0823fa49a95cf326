-- Turns one after another.
use Rattle.std.proofs.Common.{◌≡◌, ℕ, zero, suc, ◌+◌, List, [], ◌∷◌, ◌++◌, append_assoc, Some, None, sym, subst, arith}
use Rattle.std.proofs.lemmas.List.{append-nil}
use Rattle.chi_core.specs.declared.label.Label.{Label}
use Rattle.chi_core.specs.Options.{ending}
use Rattle.chi_core.specs.Picks.{Pick, picked_label}
use Rattle.chi_code.specs.declared.code.Code.{Code}
use Rattle.chi_machine_laws.specs.Choosing.{config_of}
use Rattle.chi_machine_laws.specs.Instances.{Whole}
use Rattle.chi_machine_laws.specs.Labels.{GoesOn, Takes}
use Rattle.chi_machine_laws.specs.Turns.{Event, event, Reached, Advances, goes}
use Rattle.chi_machine.specs.Went.{Went, nowhere, further}

-- one label more
pub went_on : (code : Code) (pick : Pick) (turns turn left later few rest : ℕ) (m now new : Whole) (label : Label) (events : List Event) (text more : List ℕ) → Went code pick turns turn m left events text later now few
    → ending (config_of now) ≡ None → picked_label pick later (config_of now) ≡ Some label → Takes code now label few (GoesOn new more rest)
    → Went code pick (suc turns) turn m left (events ++ event later label new.clock ∷ []) (text ++ more) (suc later) new rest
went_on code pick _ _ _ _ few rest _ now new label _ _ more (nowhere turn left m) on own t =
    subst (λ l. Went code pick (suc zero) turn m left (event turn label new.clock ∷ []) l (suc turn) new rest) (append-nil more)
    (further zero turn left rest (suc turn) rest m new new label more [] [] on own t (nowhere (suc turn) rest new))
went_on code pick _ _ _ _ few rest _ now new label _ _ more (further turns turn left next later _ m mid _ first words others events on own t w) on' own' t' =
    subst (λ l. Went code pick (suc (suc turns)) turn m left (event turn first mid.clock ∷ (events ++ event later label new.clock ∷ [])) l (suc later) new rest) (sym (append_assoc words others more))
    (further (suc turns) turn left next (suc later) rest m mid new first words (others ++ more) (events ++ event later label new.clock ∷ []) on own t
    (went_on code pick turns (suc turn) next later few rest mid now new label events others more w on' own' t'))

-- and then so it ends, or goes on
pub went_then : (code : Code) (pick : Pick) (turns turn left later few n : ℕ) (m now : Whole) (events others : List Event) (text more : List ℕ) (r : Reached) → Went code pick turns turn m left events text later now few
    → Advances code pick n later now few others more r → Advances code pick (turns + n) turn m left (events ++ others) (text ++ more) r
went_then code pick _ _ _ _ _ n _ _ _ others _ more r (nowhere turn left m) a = let e : n ≡ zero + n = omega arith in subst (λ n. Advances code pick n turn m left others more r) e a
went_then code pick _ _ _ _ _ n _ _ _ others _ more r (further turns turn left next later few m mid now label words rest events on own t w) a =
    let e : suc (turns + n) ≡ suc turns + n = omega arith in
    subst (λ n. Advances code pick n turn m left (event turn label mid.clock ∷ (events ++ others)) ((words ++ rest) ++ more) r) e
    (subst (λ l. Advances code pick (suc (turns + n)) turn m left (event turn label mid.clock ∷ (events ++ others)) l r) (sym (append_assoc words rest more))
    (goes (turns + n) turn left next m mid label words (rest ++ more) (events ++ others) r on own t (went_then code pick turns (suc turn) next later few n mid now events others rest more r w a)))
