use Rattle.std.proofs.Common.{List, ℕ, refl, subst}
use Rattle.std.specs.List.{insert}
use Rattle.std.specs.Result.{is_ok}
use Rattle.chi_core.specs.declared.limits.TheConstants.{MOST_INSTANCES}
use Rattle.chi_plain_options.specs.Listing.{Keeps}
use Rattle.chi_plain_options.proofs.Keeping.{ascends-either, keeps-inserted, stands-in}
use Rattle.chi_plain_options.proofs.parties.Listed.add.Goals as goal

pub invariant_of-self-in-Err : goal.invariant_of-self-in-Err
invariant_of-self-in-Err c =
    let xs = c.self.inside.pids.items in
    let at = stands-in xs c.as_slice.result.now c.args.pid MOST_INSTANCES c.binary_search.result c.as_slice.ensures.value c.self.invariant c.binary_search.ensures.position
    c.in-Err.place c.in-Err.is in
    ascends-either xs (insert xs c.in-Err.place c.args.pid) c.args.pid c.in-Err.place at refl MOST_INSTANCES c.insert.new.self.items (is_ok c.insert.result)
    c.self.invariant c.requires c.insert.ensures.items

pub returns-in_ok-insert-in-Err-clause-keeps : goal.returns-in_ok-insert-in-Err-clause-keeps
returns-in_ok-insert-in-Err-clause-keeps c =
    let xs = c.self.inside.pids.items in
    let at = stands-in xs c.as_slice.result.now c.args.pid MOST_INSTANCES c.binary_search.result c.as_slice.ensures.value c.self.invariant c.binary_search.ensures.position
    c.in-Err.place c.in-Err.is in
    subst (λ (l : List ℕ). Keeps l c.insert.new.self.items) c.self.view_is
    (keeps-inserted xs c.insert.new.self.items c.args.pid c.in-Err.place at c.in_ok-insert-in-Err.ensures.items)
