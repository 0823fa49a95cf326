use Rattle.std.proofs.Common.{rules, ◌≡◌, ◌+◌, ◌<◌, ◌++◌, ◌∷◌, [], sym, ◌∙◌, length, take, drop, get_or}
use Rattle.chi_base.proofs.Parts.{part_grows}
use Rattle.chi_base.proofs.row.Row.copied_part.Goals as goal

pub loop-place-preserved : goal.loop-place-preserved
loop-place-preserved g c =
    let within : c.args.from + c.loop-place.place < length c.args.self.now = search rules in
    let at : c.in-Some.value.now ≡ get_or c.args.self.now (c.args.from + c.loop-place.place) c.in-Some.value.now = search rules in
    let pushed : c.push.new.self.items ≡ take c.loop-place.place (drop c.args.from c.args.self.now) ++ c.in-Some.value.now ∷ [] = search rules in
    pushed ∙ sym (part_grows c.args.self.now c.args.from c.loop-place.place c.in-Some.value.now within at)
