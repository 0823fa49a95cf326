use Rattle.std.proofs.Common.{ℕ, List, length, sym, ◌∙◌, ap, subst, arith}
use Rattle.chi_machine_agenda.specs.Joined.{still, numbers_at, Sees}
use Rattle.chi_machine_agenda.specs.Phases.{AreThere}
use Rattle.chi_machine_agenda.proofs.Watching.{watched-none, no-sees, left-within}
use Rattle.chi_machine_agenda.proofs.joining.look.Goals as goal

pub returns-then-had-eq0-clause-watched : goal.returns-then-had-eq0-clause-watched
returns-then-had-eq0-clause-watched c = watched-none c.args.finished.now.items c.args.watchers.now

pub returns-then-had-eq0-clause-seen : goal.returns-then-had-eq0-clause-seen
returns-then-had-eq0-clause-seen c =
    no-sees (numbers_at c.args.numbers.now c.args.pid) _ c.args.watchers.now c.args.pid
    (ap (still c.args.finished.now.items (numbers_at c.args.numbers.now c.args.pid)) (sym c.left_of-had.ensures ∙ c.if-had-eq0.true))

pub at-requires : goal.at-requires
at-requires c = left-within c.args.numbers.now c.args.left.now.items c.args.pid c.requires.ahead.within (λ e. c.if-had-eq0.false (c.left_of-had.ensures ∙ e))

pub watch-requires-clause-within : goal.watch-requires-clause-within
watch-requires-clause-within c =
    let h = c.requires.ahead.within c.args.pid in
    let e = c.left_of-had.ensures in
    let l = ap length c.at.ensures in
    omega (arith, h, e, l)

pub watch-requires-clause-there : goal.watch-requires-clause-there
watch-requires-clause-there c = subst (λ (own : List ℕ). AreThere (length c.args.watchers.now) own) (sym c.at.ensures) (c.requires.ahead.there c.args.pid)

pub returns-clause-seen : goal.returns-clause-seen
returns-clause-seen c =
    subst (λ (n : ℕ). Sees (numbers_at c.args.numbers.now c.args.pid) (still c.args.finished.now.items (numbers_at c.args.numbers.now c.args.pid) n) c.watch.new.watchers c.args.pid) c.left_of-had.ensures
    (subst (λ (own : List ℕ). Sees own (still c.args.finished.now.items own c.left_of-had.result) c.watch.new.watchers c.args.pid) c.at.ensures c.in_ok-watch.ensures.seen)
