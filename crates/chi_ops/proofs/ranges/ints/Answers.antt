use Rattle.std.proofs.Common.{rules, ◌≡◌, [], ◌∷◌, ◌++◌, ◌∙◌, map, w64}
use Rattle.std.proofs.lemmas.Int.{to_z-of_z}
use Rattle.chi_value.specs.declared.value.Value.TheVariants as value
use Rattle.chi_ops.specs.Progression.{progression}
use Rattle.chi_ops.specs.Walking.{rest_of}
use Rattle.chi_ops.proofs.Walks.{ints_more, ints_done}
use Rattle.chi_ops.proofs.ranges.ints.Goals as goal

pub loop-next-preserved : goal.loop-next-preserved
loop-next-preserved c =
    let more : rest_of c.loop-next.walk ≡ c.in-Some.next ∷ rest_of c.step.new.self = search rules in
    let pushed : c.push.new.self.items ≡ c.loop-next.ints.items ++ value.Int c.in-Some.next ∷ [] = search rules in
    record {
      fit = c.step.ensures.fit;
      rest = ints_more c.in-Some.next _ _ _ _ _ more pushed c.loop-next.invariant.rest;
      first = search rules;
      last = search rules;
    }

pub returns : goal.returns
returns c =
    let done : rest_of c.loop-next.walk ≡ [] = search rules in
    record {
      value = ints_done _ _ _ done c.loop-next.invariant.rest ∙
          (λ i. map value.Int (progression (to_z-of_z w64 c.args.from c.ranges.from i) (to_z-of_z w64 c.args.upto c.ranges.upto i)
          (to_z-of_z w64 c.args.by c.ranges.by i)));
    }
