use Rattle.std.proofs.Common.{rules, ◌≡◌, ◌∷◌, ◌++◌, slice_get}
use Rattle.std.specs.Prelude.{unsigned_abs, option_to_list}
use Rattle.chi_ops.specs.Walking.{rest_of}
use Rattle.chi_ops.proofs.Walks.{taken_more}
use Rattle.chi_ops.proofs.slices.taken_bytes.Goals as goal

pub loop-place-preserved : goal.loop-place-preserved
loop-place-preserved c =
    let more : rest_of c.loop-place.walk ≡ c.in-Some.place ∷ rest_of c.step.new.self = search rules in
    let pushed : c.push_byte.new.taken.items ≡ c.loop-place.taken.items ++ option_to_list (slice_get c.args.bytes.now (unsigned_abs c.in-Some.place)) = search rules in
    record {
      fit = c.step.ensures.fit;
      rest = taken_more c.args.bytes.now c.in-Some.place _ _ _ _ _ more pushed c.loop-place.invariant.rest;
    }
