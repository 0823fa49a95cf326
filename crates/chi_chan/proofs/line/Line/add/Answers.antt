use Rattle.std.proofs.Common.{◌≡◌, ℕ, List, get_or, subst, sym, ◌∙◌, ◌⊎◌, arith}
use Rattle.std.specs.List.{insert}
use Rattle.std.specs.Result.{is_ok}
use Rattle.chi_chan.specs.declared.offers.Party.{Party}
use Rattle.chi_chan.specs.Lined.{Has, IsPlace, nobody_here}
use Rattle.chi_chan.proofs.Lining.{either-line, has-at, has-party, insert-ascends, insert-only, insert-stays, insert-there, same-party}
use Rattle.chi_chan.proofs.line.Line.add.Goals as goal

pub returns-then-stands-clause-there : goal.returns-then-stands-clause-there
returns-then-stands-clause-there c =
    let xs = c.self.inside.parties.items in
    let place = c.place_of-place.result in
    let y = c.stands.ensures.yes c.if-stands.true in
    let less = y.0 in
    let e = y.1 ∙ c.code-2.ensures in
    let has = has-at xs place less in
    let same = same-party (get_or xs place nobody_here) c.args.party (has-party 0 xs _ c.self.invariant has) c.requires e in
    subst (λ (l : List Party). Has l c.args.party) c.self.view_is (subst (Has xs) same has)

pub invariant_of-self-2 : goal.invariant_of-self-2
invariant_of-self-2 c =
    let xs = c.self.inside.parties.items in
    let place = c.place_of-place.result in
    let no = c.stands.ensures.no c.if-stands.false in
    let at = subst (λ (n : ℕ). IsPlace xs n place) c.code.ensures c.place_of-place.ensures.place in
    either-line xs (insert xs place c.args.party) c.put.new.parties.items (is_ok c.put.result) c.put.ensures c.self.invariant
    (insert-ascends 0 xs place c.args.party c.self.invariant c.requires (omega arith) at (λ h e. no h (e ∙ sym c.code-2.ensures)))

pub returns-clause-there : goal.returns-clause-there
returns-clause-there c =
    subst (λ (l : List Party). Has l c.args.party) (sym c.in_ok-put.ensures)
    (insert-there c.self.inside.parties.items c.place_of-place.result c.args.party c.place_of-place.ensures.within)

pub returns-clause-stays : goal.returns-clause-stays
returns-clause-stays c x h =
    subst (λ (l : List Party). Has l x) (sym c.in_ok-put.ensures)
    (insert-stays c.self.inside.parties.items c.place_of-place.result c.args.party x (subst (λ (l : List Party). Has l x) (sym c.self.view_is) h))

pub returns-clause-only : goal.returns-clause-only
returns-clause-only c x h =
    subst (λ (l : List Party). Has l x ⊎ (x ≡ c.args.party)) c.self.view_is
    (insert-only c.self.inside.parties.items c.place_of-place.result c.args.party x c.place_of-place.ensures.within (subst (λ (l : List Party). Has l x) c.in_ok-put.ensures h))

pub returns-clause-ascends : goal.returns-clause-ascends
returns-clause-ascends c =
    let xs = c.self.inside.parties.items in
    let place = c.place_of-place.result in
    let no = c.stands.ensures.no c.if-stands.false in
    let at = subst (λ (n : ℕ). IsPlace xs n place) c.code.ensures c.place_of-place.ensures.place in
    either-line xs (insert xs place c.args.party) c.put.new.parties.items (is_ok c.put.result) c.put.ensures c.self.invariant
    (insert-ascends 0 xs place c.args.party c.self.invariant c.requires (omega arith) at (λ h e. no h (e ∙ sym c.code-2.ensures)))
