use Rattle.std.proofs.Common.{rules, ◌≡◌, ◌<◌, true, false, Some, ◌∷◌, ap, sym, ◌∙◌, subst, length, slice_get, slice_set, arith}
use Rattle.std.proofs.lemmas.Result.{err_from_is_err_and}
use Rattle.chi_value.specs.declared.value.Value.TheVariants as value
use Rattle.chi_sets.specs.Dictionaries.{value_at}
use Rattle.chi_ops.specs.Outcome.{gives}
use Rattle.chi_ops.specs.Paths.{step_of, steps_of}
use Rattle.chi_ops.specs.Places.{place_of}
use Rattle.chi_ops.specs.Refusal.{Refuses}
use Rattle.chi_ops.specs.Store.{by, part, fits_along, stored}
use Rattle.chi_ops.specs.Tidy.{tidy}
use Rattle.chi_ops.proofs.StoreLaws.{holds_at, list_tidy, tuple_tidy, entries_tidy, values_tidy, holds_of_value, list_fits, dictionary_fits, part_fits, part_inside, stored_list, stored_tuple, changed_gives}
use Rattle.chi_ops.proofs.TidyLaws.{dictionary_ascends}
use Rattle.chi_ops.proofs.storing.+stored.Goals as goal

pub stored-stored_in-requires : goal.stored-stored_in-requires
stored-stored_in-requires t c =
    let path : c.args.path.now ≡ c.in-Some.step.now ∷ c.in-Some.rest.now = search rules in
    let is : c.args.v ≡ value.ListOf c.in-ListOf.items = search rules in
    let rest = steps_of c.in-Some.rest.now in
    let fits = list_fits rest c.args.x c.args.v c.in-ListOf.items (step_of c.in-Some.step.now) is
    (subst (λ p. fits_along (steps_of p) c.args.x c.args.v ≡ true) path c.requires.fits) in
    let all = list_tidy c.args.v c.in-ListOf.items is c.requires.tidy in
    let shorter = ap length path in
    let inside : c.in-Some-place_of.place < length c.in-ListOf.items = search rules in (
      omega (arith, shorter),
      (
        inside,
        (
          (λ item found. holds_at tidy c.in-ListOf.items c.in-Some-place_of.place item all found),
          (λ item found. holds_at (fits_along rest c.args.x) c.in-ListOf.items c.in-Some-place_of.place item fits.1 found),
        ),
      ),
    )

pub stored-stored_key-requires : goal.stored-stored_key-requires
stored-stored_key-requires t c =
    let path : c.args.path.now ≡ c.in-Some.step.now ∷ c.in-Some.rest.now = search rules in
    let is : c.args.v ≡ value.DictOf c.in-DictOf.entries = search rules in
    let shorter = ap length path in (
      omega (arith, shorter),
      (
        dictionary_ascends c.args.v c.in-DictOf.entries is c.requires.tidy,
        (
          values_tidy c.in-DictOf.entries (entries_tidy c.args.v c.in-DictOf.entries is c.requires.tidy),
          dictionary_fits (steps_of c.in-Some.rest.now) c.args.x c.args.v c.in-DictOf.entries (step_of c.in-Some.step.now) is
              (subst (λ p. fits_along (steps_of p) c.args.x c.args.v ≡ true) path c.requires.fits),
        ),
      ),
    )

pub stored-stored_at-requires : goal.stored-stored_at-requires
stored-stored_at-requires t c =
    let path : c.args.path.now ≡ c.in-Some.step.now ∷ c.in-Some.rest.now = search rules in
    let is : c.args.v ≡ value.TupleOf c.in-TupleOf.parts = search rules in
    let step : step_of c.in-Some.step.now ≡ part c.in-Part.k = ap step_of c.in-Part.is in
    let rest = steps_of c.in-Some.rest.now in
    let fits : fits_along (part c.in-Part.k ∷ rest) c.args.x c.args.v ≡ true =
    subst (λ s. fits_along (s ∷ rest) c.args.x c.args.v ≡ true) step
    (subst (λ p. fits_along (steps_of p) c.args.x c.args.v ≡ true) path c.requires.fits) in
    let all = tuple_tidy c.args.v c.in-TupleOf.parts is c.requires.tidy in
    let shorter = ap length path in (
      omega (arith, shorter),
      (
        part_inside rest c.args.x c.args.v c.in-TupleOf.parts c.in-Part.k is fits,
        (
          (λ item found. holds_at tidy c.in-TupleOf.parts c.in-Part.k item all found),
          (λ item found. part_fits rest c.args.x c.args.v c.in-TupleOf.parts c.in-Part.k is fits item found),
        ),
      ),
    )

pub stored-returns-in_ok-stored_in-in-Some-place_of-clause-value : goal.stored-returns-in_ok-stored_in-in-Some-place_of-clause-value
stored-returns-in_ok-stored_in-in-Some-place_of-clause-value t c =
    let path : c.args.path.now ≡ c.in-Some.step.now ∷ c.in-Some.rest.now = search rules in
    let is : c.args.v ≡ value.ListOf c.in-ListOf.items = search rules in
    let step : step_of c.in-Some.step.now ≡ by (value.Int c.index_of.result) = search rules in
    let place : place_of (length c.in-ListOf.items) c.index_of.result ≡ Some c.in-Some-place_of.place = search rules in
    ap (λ p. stored (steps_of p) c.args.x c.args.v) path ∙
    stored_list (steps_of c.in-Some.rest.now) c.args.x c.args.v c.in-ListOf.items (step_of c.in-Some.step.now) c.index_of.result _ is step place ∙
    c.in_ok-stored_in-in-Some-place_of.ensures.value value.ListOf

pub stored-returns-in_err-stored_in-in-Some-place_of-clause-refused : goal.stored-returns-in_err-stored_in-in-Some-place_of-clause-refused
stored-returns-in_err-stored_in-in-Some-place_of-clause-refused t c =
    let path : c.args.path.now ≡ c.in-Some.step.now ∷ c.in-Some.rest.now = search rules in
    let is : c.args.v ≡ value.ListOf c.in-ListOf.items = search rules in
    let step : step_of c.in-Some.step.now ≡ by (value.Int c.index_of.result) = search rules in
    let place : place_of (length c.in-ListOf.items) c.index_of.result ≡ Some c.in-Some-place_of.place = search rules in
    let comes = ap (λ p. stored (steps_of p) c.args.x c.args.v) path ∙
    stored_list (steps_of c.in-Some.rest.now) c.args.x c.args.v c.in-ListOf.items (step_of c.in-Some.step.now) c.index_of.result _ is step place in
    let p = err_from_is_err_and c.from_residual.result c.from_residual.ensures.1 in
    rw (p.1, p.2) (subst (Refuses c.in_err-stored_in-in-Some-place_of.field-0.0) (sym comes)
    (c.in_err-stored_in-in-Some-place_of.ensures.refused value.ListOf))

pub stored-returns-in_ok-stored_at-in-Part-clause-value : goal.stored-returns-in_ok-stored_at-in-Part-clause-value
stored-returns-in_ok-stored_at-in-Part-clause-value t c =
    let path : c.args.path.now ≡ c.in-Some.step.now ∷ c.in-Some.rest.now = search rules in
    let is : c.args.v ≡ value.TupleOf c.in-TupleOf.parts = search rules in
    let step : step_of c.in-Some.step.now ≡ part c.in-Part.k = ap step_of c.in-Part.is in
    ap (λ p. stored (steps_of p) c.args.x c.args.v) path ∙
    stored_tuple (steps_of c.in-Some.rest.now) c.args.x c.args.v c.in-TupleOf.parts (step_of c.in-Some.step.now) c.in-Part.k is step ∙
    c.in_ok-stored_at-in-Part.ensures.value value.TupleOf

pub stored-returns-in_err-stored_at-in-Part-clause-refused : goal.stored-returns-in_err-stored_at-in-Part-clause-refused
stored-returns-in_err-stored_at-in-Part-clause-refused t c =
    let path : c.args.path.now ≡ c.in-Some.step.now ∷ c.in-Some.rest.now = search rules in
    let is : c.args.v ≡ value.TupleOf c.in-TupleOf.parts = search rules in
    let step : step_of c.in-Some.step.now ≡ part c.in-Part.k = ap step_of c.in-Part.is in
    let comes = ap (λ p. stored (steps_of p) c.args.x c.args.v) path ∙
    stored_tuple (steps_of c.in-Some.rest.now) c.args.x c.args.v c.in-TupleOf.parts (step_of c.in-Some.step.now) c.in-Part.k is step in
    let p = err_from_is_err_and c.from_residual-in_err-stored_at-in-Part.result c.from_residual-in_err-stored_at-in-Part.ensures.1 in
    rw (p.1, p.2) (subst (Refuses c.in_err-stored_at-in-Part.field-0.0) (sym comes)
    (c.in_err-stored_at-in-Part.ensures.refused value.TupleOf))

pub stored_at-returns-clause-value : goal.stored_at-returns-clause-value
stored_at-returns-clause-value t c = λ made.
    let found : slice_get c.args.items c.args.place ≡ Some c.in_ok-old.old = search rules in
    let is : stored (steps_of c.args.path.now) c.args.x c.in_ok-old.old ≡ gives c.in_ok-new.new = search rules in
    let changed : c.replace-2.new.self ≡ slice_set (slice_set c.args.items c.args.place (value.Bool false)) c.args.place c.in_ok-new.new = search rules in
    changed_gives made c.args.items (stored (steps_of c.args.path.now) c.args.x) c.args.place c.in_ok-old.old (value.Bool false) c.in_ok-new.new c.replace-2.new.self found is changed

pub stored_in-returns-clause-value : goal.stored_in-returns-clause-value
stored_in-returns-clause-value t c = λ made.
    let found : slice_get c.args.items c.args.place ≡ Some c.in_ok-old.old = search rules in
    let is : stored (steps_of c.args.path.now) c.args.x c.in_ok-old.old ≡ gives c.in_ok-new.new = search rules in
    let changed : c.replace-2.new.self ≡ slice_set (slice_set c.args.items c.args.place (value.Bool false)) c.args.place c.in_ok-new.new = search rules in
    changed_gives made c.args.items (stored (steps_of c.args.path.now) c.args.x) c.args.place c.in_ok-old.old (value.Bool false) c.in_ok-new.new c.replace-2.new.self found is changed

pub stored_key-stored-requires : goal.stored_key-stored-requires
stored_key-stored-requires t c =
    let has : value_at c.args.entries c.args.key ≡ Some c.in_ok-old.old = search rules in (
      omega arith,
      (
        holds_of_value tidy c.args.entries c.args.key c.in_ok-old.old c.requires.tidy has,
        holds_of_value (fits_along (steps_of c.args.path.now) c.args.x) c.args.entries c.args.key c.in_ok-old.old c.requires.fits has,
      ),
    )
