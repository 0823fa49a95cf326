use Rattle.std.proofs.Common.{◌≡◌, ◌∙◌, [], length, ap, sym, refl, arith}
use Rattle.std.specs.Prelude.{unwrap_or}
use Rattle.std.specs.List.{range_with_len, slice_get}
use Rattle.std.proofs.lemmas.Grind.{common_steps}
use Rattle.std.proofs.lemmas.List.{append-nil}
use Rattle.chi_core.specs.declared.program.Core.{Core}
use Rattle.chi_core.specs.Config.{Config, Instance, Running, Waiting, Joining, with_instance}
use Rattle.chi_core.specs.Performing.{Goes, Exits}
use Rattle.chi_plain_steps.specs.declared.deed.Deed.{Deed}
use Rattle.chi_plain_open.specs.Instances.{rest_of}
use Rattle.chi_plain_steps.specs.Plans.{change_of, plan_of}
use Rattle.chi_plain_steps.proofs.Carrying.{carried_waits, carried_starts, carried_runs, if_some_all, if_some_then}
use Rattle.chi_plain_steps.proofs.configuration.Configuration.carry_out.Goals as goal

pub returns-in-Exits-clause-done : goal.returns-in-Exits-clause-done
returns-in-Exits-clause-done c =
    let Q : Instance → Type 0 = λ i. (core : Core) → change_of core c.args.self.now c.args.pid (rest_of i) (plan_of i.variables c.args.deed) ≡ Exits c.in-Exits.value in
    ([], sym (append-nil c.args.out.now.items), (refl, if_some_all (slice_get c.args.self.now.instances c.args.pid) Q (λ i core. ap (λ (d : Deed). change_of core c.args.self.now c.args.pid (rest_of i) (plan_of i.variables d)) c.in-Exits.is)))

pub returns-in-Waits-clause-done : goal.returns-in-Waits-clause-done
returns-in-Waits-clause-done c =
    let P : Instance → Type 0 = λ i. c.proceed-in-Waits.new.self ≡ with_instance c.args.self.now c.args.pid (record (rest_of i) { variables = unwrap_or c.in-Waits.changed i.variables; state = Waiting c.in-Waits.offers.items }) in
    let Q : Instance → Type 0 = λ i. (core : Core) → change_of core c.args.self.now c.args.pid (rest_of i) (plan_of i.variables c.args.deed) ≡ Goes c.proceed-in-Waits.new.self [] in (
      [],
      sym (append-nil c.args.out.now.items),
      (
        tt,
        if_some_then (slice_get c.args.self.now.instances c.args.pid) P Q c.proceed-in-Waits.ensures (λ i e core.
            carried_waits core c.args.self.now c.args.pid i (plan_of i.variables c.args.deed) c.in-Waits.changed c.in-Waits.offers.items c.proceed-in-Waits.new.self (ap (plan_of i.variables) c.in-Waits.is) e),
      ),
    )

pub returns-in_ok-add-in-Starts-clause-done : goal.returns-in_ok-add-in-Starts-clause-done
returns-in_ok-add-in-Starts-clause-done c =
    let P : Instance → Type 0 = λ i. c.proceed-in-Starts.new.self ≡ with_instance c.args.self.now c.args.pid (record (rest_of i) { variables = unwrap_or c.in-Starts.changed i.variables; state = Running }) in
    let Q : Instance → Type 0 = λ i. (core : Core) → change_of core c.args.self.now c.args.pid (rest_of i) (plan_of i.variables c.args.deed) ≡ Goes c.add-in-Starts.new.self [] in (
      [],
      sym (append-nil c.args.out.now.items),
      (
        tt,
        if_some_then (slice_get c.args.self.now.instances c.args.pid) P Q c.proceed-in-Starts.ensures (λ i e core.
            carried_starts core c.args.self.now c.args.pid i (plan_of i.variables c.args.deed) c.in-Starts.changed c.in-Starts.made.items c.proceed-in-Starts.new.self c.add-in-Starts.new.self
            (ap (plan_of i.variables) c.in-Starts.is) e c.in_ok-add-in-Starts.ensures),
      ),
    )

pub returns-in_ok-add-in-Runs-clause-done : goal.returns-in_ok-add-in-Runs-clause-done
returns-in_ok-add-in-Runs-clause-done c =
    let all : length c.self.inside.instances.items ≡ length c.args.self.now.instances = ap (λ (k : Config). length k.instances) c.self.view_is in
    let n : length c.self.inside.instances.items ≡ c.len.result = grind (arith, common_steps) in
    let m : length c.in-Runs.made.items ≡ c.len-in-Runs.result = grind (arith, common_steps) in
    let first : c.len.result ≡ length c.args.self.now.instances = omega arith in
    let counted : c.in_ok-numbers-in-Runs.numbers.items ≡ range_with_len (length c.args.self.now.instances) (length c.in-Runs.made.items)
    = c.in_ok-numbers-in-Runs.ensures ∙ (λ k. range_with_len (first k) (sym m k)) in
    let P : Instance → Type 0 = λ i. c.proceed-in-Runs.new.self ≡ with_instance c.args.self.now c.args.pid (record (rest_of i) { variables = unwrap_or c.in-Runs.changed i.variables; state = Joining c.in_ok-numbers-in-Runs.numbers.items }) in
    let Q : Instance → Type 0 = λ i. (core : Core) → change_of core c.args.self.now c.args.pid (rest_of i) (plan_of i.variables c.args.deed) ≡ Goes c.add.new.self [] in (
      [],
      sym (append-nil c.args.out.now.items),
      (
        tt,
        if_some_then (slice_get c.args.self.now.instances c.args.pid) P Q c.proceed-in-Runs.ensures (λ i e core.
            carried_runs core c.args.self.now c.args.pid i (plan_of i.variables c.args.deed) c.in-Runs.changed c.in-Runs.made.items c.in_ok-numbers-in-Runs.numbers.items c.proceed-in-Runs.new.self c.add.new.self
            (ap (plan_of i.variables) c.in-Runs.is) e counted c.in_ok-add-in-Runs.ensures),
      ),
    )

pub returns-in-Joins-clause-done : goal.returns-in-Joins-clause-done
returns-in-Joins-clause-done c =
    let P : Instance → Type 0 = λ i. c.proceed-in-Joins.new.self ≡ with_instance c.args.self.now c.args.pid (record (rest_of i) { state = Joining c.in-Joins.numbers.items }) in
    let Q : Instance → Type 0 = λ i. (core : Core) → change_of core c.args.self.now c.args.pid (rest_of i) (plan_of i.variables c.args.deed) ≡ Goes c.proceed-in-Joins.new.self [] in (
      [],
      sym (append-nil c.args.out.now.items),
      (
        tt,
        if_some_then (slice_get c.args.self.now.instances c.args.pid) P Q c.proceed-in-Joins.ensures (λ i e core.
            ap (λ (d : Deed). change_of core c.args.self.now c.args.pid (rest_of i) (plan_of i.variables d)) c.in-Joins.is ∙ ap (λ (n : Config). Goes n []) (sym e)),
      ),
    )
