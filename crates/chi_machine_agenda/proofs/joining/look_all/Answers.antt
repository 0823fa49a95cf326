use Rattle.std.proofs.Common.{◌≡◌, ◌<◌, ℕ, List, get_or, length, ◌∙◌, ap, subst}
use Rattle.chi_machine_agenda.specs.Joined.{numbers_at, IsSeen}
use Rattle.chi_machine_agenda.proofs.Watching.{watched-then, seen-more}
use Rattle.chi_machine_agenda.proofs.joining.look_all.Goals as goal

pub loop-i-preserved : goal.loop-i-preserved
loop-i-preserved c =
    let ended = c.args.finished.now.items in
    let numbers = c.args.numbers.now in
    let left = c.args.left.now.items in
    let inv = c.loop-i.invariant in
    let ws = numbers_at c.args.watchers.now c.args.pid in
    let w = c.number_at-watcher.result in
    let same = inv.watched.same c.args.pid c.requires.ended in
    let h : c.loop-i.i < length ws = subst (λ (l : List ℕ). c.loop-i.i < length l) c.at-i-end.ensures c.loop-i-test.true in
    let its : w ≡ get_or ws c.loop-i.i 0 = c.number_at-watcher.ensures ∙ ap (λ l. get_or l c.loop-i.i 0) same in
    record {
      watched = watched-then ended c.args.watchers.now c.loop-i.watchers c.look.new.watchers inv.watched c.look.ensures.watched;
      seen = seen-more ended numbers left ws c.loop-i.i c.loop-i.watchers c.look.new.watchers h c.look.ensures.watched
          (subst (λ (k : ℕ). IsSeen ended numbers left c.look.new.watchers k) its c.in_ok-look.ensures.seen) inv.seen;
    }
