-- Insertions past the greatest size.
use Rattle.std.proofs.Common.{◌≡◌, ◌≢◌, ℕ, ◌+◌, ◌<◌, ◌≤◌, Bool, true, false, nat_le, length, refl, rules, arith}
use Rattle.std.specs.Prelude.{◌&&◌}
use Rattle.std.specs.List.{list_all}
use Rattle.chi_value.specs.declared.value.TheConstants.{MOST_ELEMENTS}
use Rattle.chi_value.specs.declared.value.Value.{Value, Value-F, out-Value}
use Rattle.chi_value.specs.Alike.{alike}
use Rattle.chi_ops.specs.Conditions.{may_insert_at, takes_at}
use Rattle.chi_ops.specs.Sequences.{insert_at}
use Rattle.chi_ops.specs.Tidy.{tidy}
use Rattle.chi_core.specs.declared.fault.FaultKind.TheVariants.{TooLarge}
use Rattle.chi_core.specs.declared.view.View.{View}
use Rattle.chi_core.specs.Answer.{Fails, Amiss}
use Rattle.chi_core.specs.Containers.{done}
use Rattle.chi_core_apply.proofs.Operations.{may}

second : (a b : Bool) → (a && b) ≡ true → b ≡ true
second true b e = e
second false b e = absurd (cc)

third : (a b c : Bool) → (a && b && c) ≡ true → c ≡ true
third true true c e = e
third true false c e = absurd (cc)
third false b c e = absurd (cc)

pub too_many : (v : Value) (i : ℕ) (x : Value) (view : View) → MOST_ELEMENTS ≤ i → done (insert_at v i x) view ≢ Amiss → done (insert_at v i x) view ≡ Fails TooLarge
too_many v i x view past h = by_layer (out-Value v) refl
  where
    allowed : may_insert_at v i x ≡ true
    allowed = may (may_insert_at v i x) _ view h

    takes : takes_at v i x ≡ true
    takes = third (tidy v) (tidy x) (takes_at v i x) allowed

    by_layer : (o : Value-F Value) → out-Value v ≡ o → done (insert_at v i x) view ≡ Fails TooLarge
    by_layer (Value-F.ListOf items) e =
        let within : nat_le i (length items) ≡ true = second (list_all (alike x) items) _ (rw (e, takes_at) at takes) in
        let some : i ≤ length items = search (rules, within) in
        let more : MOST_ELEMENTS < length items + 1 = omega (arith, past, some) in
        let no : nat_le (length items + 1) MOST_ELEMENTS ≡ false = search (rules, more) in
        rw (allowed, e, no, insert_at) refl
    by_layer _ e = let none : false ≡ true = rw (e, takes_at) at takes in absurd (cc)

pub ruleset inserting = (too_many)
