use Rattle.std.proofs.Common.{◌≡◌, List, ℕ, ◌%◌, ◌<◌, length, ap, refl, subst, arith}
use Rattle.std.specs.Prelude.{slice_set}
use Rattle.std.proofs.lemmas.Grind.{common_steps}
use Rattle.std.proofs.lemmas.Result.{on_ok_weaker}
use Rattle.chi_plain_options.specs.Listing.{KeepsLists}
use Rattle.chi_plain_options.proofs.Keeping.{contains-set, keeps-set}
use Rattle.chi_plain_options.proofs.parties.ListedAt.add.Goals as goal

pub returns-clause-keeps : goal.returns-clause-keeps
returns-clause-keeps c =
    let xs = c.self.inside.lists.items in
    let k = c.args.number % c.len.result in
    let h : k < length xs = grind (arith, common_steps, c.len.ensures, c.self.invariant) in
    subst (λ (l : List (List ℕ)). KeepsLists l (slice_set xs k c.add.new.self)) c.self.view_is
    (keeps-set xs k c.add.new.self h (slice_set xs k c.add.new.self) c.index_mut.result.now refl c.index_mut.ensures.value c.add.ensures.keeps)

pub returns-clause-added : goal.returns-clause-added
returns-clause-added c =
    let xs = c.self.inside.lists.items in
    let k = c.args.number % c.len.result in
    let h : k < length xs = grind (arith, common_steps, c.len.ensures, c.self.invariant) in
    let all : c.len.result ≡ length xs = grind (arith, common_steps, c.len.ensures) in
    on_ok_weaker c.add.result
    (contains-set xs k c.add.new.self h (slice_set xs k c.add.new.self) c.args.number c.args.pid refl (ap (λ (n : ℕ). c.args.number % n) all))
    c.add.ensures.added
