use Rattle.std.proofs.Common.{◌≡◌, ◌≢◌, ◌-◌, ◌<◌, ◌≤◌, ℕ, List, Bool, Some, get_or, length, sym, ◌∙◌, ap, subst, refl, arith}
use Rattle.chi_machine_agenda.specs.Joined.{still, IsWatched}
use Rattle.chi_machine_agenda.specs.Phases.{AreThere}
use Rattle.chi_machine_agenda.proofs.Lists.{got}
use Rattle.chi_machine_agenda.proofs.Watching.{still-within, watched-none, watch-more, no-sees}
use Rattle.chi_machine_agenda.proofs.joining.watch.Goals as goal

pub returns-then-left-eq0-clause-watched : goal.returns-then-left-eq0-clause-watched
returns-then-left-eq0-clause-watched c = watched-none c.args.finished.now.items c.args.watchers.now

pub returns-then-left-eq0-clause-left : goal.returns-then-left-eq0-clause-left
returns-then-left-eq0-clause-left c = sym c.if-left-eq0.true ∙ c.still-left.ensures

pub returns-then-left-eq0-clause-seen : goal.returns-then-left-eq0-clause-seen
returns-then-left-eq0-clause-seen c = no-sees c.args.numbers.now _ c.args.watchers.now c.args.pid (sym c.still-left.ensures ∙ c.if-left-eq0.true)

-- the last number that is left is one of an instance
last-there : (ended : List Bool) (own : List ℕ) (n left x room : ℕ) → left ≡ still ended own n → left ≢ 0 → n ≤ length own → AreThere room own → x ≡ get_or own (left - 1) 0
    → (left - 1 < length own) × (x < room)
last-there ended own n left x room e some within there at =
    let h = still-within ended own n in
    let place : left - 1 < length own = omega (arith, some, e, h, within) in
    (place, there (left - 1) x (got own (left - 1) 0 place ∙ ap Some (sym at)))

pub number_of-requires : goal.number_of-requires
number_of-requires c =
    (last-there c.args.finished.now.items c.args.numbers.now c.args.count c.still-left.result _ (length c.args.watchers.now) c.still-left.ensures c.if-left-eq0.false c.requires.within c.requires.there refl).0

pub push-requires : goal.push-requires
push-requires c =
    (last-there c.args.finished.now.items c.args.numbers.now c.args.count c.still-left.result c.number_of.result (length c.args.watchers.now) c.still-left.ensures c.if-left-eq0.false c.requires.within
    c.requires.there c.number_of.ensures).1

pub returns-in_err-push-clause-watched : goal.returns-in_err-push-clause-watched
returns-in_err-push-clause-watched c =
    subst (IsWatched c.args.finished.now.items c.args.watchers.now) (sym c.in_err-push.ensures.err) (watched-none c.args.finished.now.items c.args.watchers.now)

pub returns-clause-watched : goal.returns-clause-watched
returns-clause-watched c =
    (watch-more c.args.finished.now.items c.args.numbers.now c.args.count c.still-left.result c.number_of.result c.args.pid c.args.watchers.now c.push.new.self
    c.still-left.ensures c.if-left-eq0.false c.number_of.ensures
    (last-there c.args.finished.now.items c.args.numbers.now c.args.count c.still-left.result c.number_of.result (length c.args.watchers.now) c.still-left.ensures c.if-left-eq0.false c.requires.within
    c.requires.there c.number_of.ensures).1 c.in_ok-push.ensures.ok).0

pub returns-clause-seen : goal.returns-clause-seen
returns-clause-seen c =
    (watch-more c.args.finished.now.items c.args.numbers.now c.args.count c.still-left.result c.number_of.result c.args.pid c.args.watchers.now c.push.new.self
    c.still-left.ensures c.if-left-eq0.false c.number_of.ensures
    (last-there c.args.finished.now.items c.args.numbers.now c.args.count c.still-left.result c.number_of.result (length c.args.watchers.now) c.still-left.ensures c.if-left-eq0.false c.requires.within
    c.requires.there c.number_of.ensures).1 c.in_ok-push.ensures.ok).1
