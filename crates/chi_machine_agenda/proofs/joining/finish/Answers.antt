use Rattle.std.proofs.Common.{◌≡◌, Bool, List, true, false, length, ◌∙◌, ap, refl, arith}
use Rattle.std.specs.Prelude.{slice_set}
use Rattle.chi_machine_agenda.specs.Joined.{numbers_at, lowered, freed}
use Rattle.chi_machine_agenda.proofs.Lists.{or-there, set-length}
use Rattle.chi_machine_agenda.proofs.Watching.{ended-back}
use Rattle.chi_machine_agenda.proofs.joining.finish.Goals as goal

pub returns-in-Err-clause-err : goal.returns-in-Err-clause-err
returns-in-Err-clause-err c = record {
  finished = ended-back c.args.finished.now.items c.args.pid c.requires.finished c.requires.runs;
  numbers = refl;
  left = refl;
  watched = c.look_all.ensures.watched;
  ready = refl;
}

pub pass_all-requires-clause-room : goal.pass_all-requires-clause-room
pass_all-requires-clause-room c p n e =
    let r = c.requires.room p n e in
    let l = ap length c.remove.ensures ∙ set-length c.args.ready.now c.args.pid false in
    omega (arith, r, l)

pub returns-clause-ok : goal.returns-clause-ok
returns-clause-ok c =
    let pid = c.args.pid in
    let ended : List Bool = slice_set c.args.finished.now.items pid true in
    let numbers = c.args.joins.now.numbers in
    let left = c.args.joins.now.left.items in
    let row : c.at.result.now ≡ numbers_at c.args.joins.now.watchers pid =
    c.at.ensures ∙ c.look_all.ensures.watched.same pid (or-there c.args.finished.now.items pid true false c.requires.finished) in
    record {
      finished = refl;
      numbers = refl;
      left = c.pass_all.ensures.left ∙ ap (λ ws. lowered ended numbers ws left) row;
      watched = c.look_all.ensures.watched;
      seen = c.in-Ok.ensures.seen;
      ready = c.pass_all.ensures.ready ∙ (λ j. freed ended numbers (row j) left (c.remove.ensures j));
    }
