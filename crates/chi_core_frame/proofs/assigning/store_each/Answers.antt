use Rattle.std.proofs.Common.{◌≡◌, ◌∷◌, ◌∙◌, sym, subst, rules}
use Rattle.std.specs.Prelude.{map, reverse, IfErr}
use Rattle.chi_core.specs.Answer.{Answer}
use Rattle.chi_core.specs.Variables.{Variables, side_by_side}
use Rattle.chi_core_frame.specs.Assignments.{each_stored}
use Rattle.chi_core_frame.specs.Spots.{spot_in}
use Rattle.chi_core_frame.specs.Stops.{Stops}
use Rattle.chi_core_frame.proofs.Spreading.{first_stops, turned}
use Rattle.chi_core_frame.proofs.assigning.store_each.Goals as goal

pub returns-in_err-store-in-Some-pop-clause-stops : goal.returns-in_err-store-in-Some-pop-clause-stops
returns-in_err-store-in-Some-pop-clause-stops c =
    let next : c.loop-spot.spot-iterator.rest.items ≡ c.in-Some.spot ∷ c.next.new.self.rest.items = search (rules, c.in-Some.ensures.steps) in
    let last = turned c.loop-spot.left.items c.pop.new.self.items c.in-Some-pop.value c.in-Some-pop.ensures.items in
    let same : each_stored (side_by_side (map spot_in c.loop-spot.spot-iterator.rest.items) (reverse c.loop-spot.left.items)) c.loop-spot.variables c.args.view.now
    ≡ each_stored (side_by_side (spot_in c.in-Some.spot ∷ map spot_in c.next.new.self.rest.items) (c.in-Some-pop.value ∷ reverse c.pop.new.self.items)) c.loop-spot.variables c.args.view.now
    = λ i. each_stored (side_by_side (map spot_in (next i)) (last i)) c.loop-spot.variables c.args.view.now
    in
    let stops = first_stops (spot_in c.in-Some.spot) c.in-Some-pop.value (map spot_in c.next.new.self.rest.items) (reverse c.pop.new.self.items) c.loop-spot.variables c.args.view.now
    c.in_err-store-in-Some-pop.field-0.0 (λ a. c.loop-spot.invariant.0 (same ∙ a)) c.in_err-store-in-Some-pop.ensures.stops
    in
    let P : Answer Variables → Type 0 = λ a. IfErr c.from_residual.result (λ stop. Stops stop a) in
    subst P (sym (c.loop-spot.invariant.1 ∙ same)) (search rules)
