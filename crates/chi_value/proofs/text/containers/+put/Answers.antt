use Rattle.std.proofs.Common.{rules, ◌≡◌, ◌<◌, length, get_or}
use Rattle.std.proofs.lemmas.Result.{err_from_is_err_and}
use Rattle.std.specs.Prelude.{codes}
use Rattle.chi_value.specs.Text.{written, alone, entry}
use Rattle.chi_value.proofs.Rest.{past_between, past_text, rest_after}
use Rattle.chi_value.proofs.text.containers.+put.Goals as goal

pub put_all-returns-in_err-append-2 : goal.put_all-returns-in_err-append-2
put_all-returns-in_err-append-2 t c =
    let p = err_from_is_err_and c.from_residual-in_err-append-2.result c.from_residual-in_err-append-2.ensures.1 in
    record { grown = rw (p.1, p.2) (past_between (written c.args.names.now.kinds) alone c.args.between.now _ _ _ _ _ _ _ c.loop-value-test.true c.value-item.is c.loop-value.invariant.rest c.in_err-append-2.ensures.grown) }

pub put_all-returns-in_err-put-2 : goal.put_all-returns-in_err-put-2
put_all-returns-in_err-put-2 t c =
    let p = err_from_is_err_and c.from_residual-in_err-put-2.result c.from_residual-in_err-put-2.ensures.1 in
    record { grown = rw (p.1, p.2) (past_text (written c.args.names.now.kinds) alone c.args.between.now _ _ _ _ _ _ _ _ c.loop-value-test.true c.value-item.is c.loop-value.invariant.rest c.in_ok-append-2.ensures.grown.0 c.in_err-put-2.ensures.grown) }

pub put_all-loop-value-preserved : goal.put_all-loop-value-preserved
put_all-loop-value-preserved t c = record {
  within = c.in_ok-put-2.ensures.grown.1;
  rest = rest_after (written c.args.names.now.kinds) alone c.args.between.now _ _ _ _ _ _ _ c.loop-value-test.true c.value-item.is c.loop-value.invariant.rest c.in_ok-append-2.ensures.grown.0 c.in_ok-put-2.ensures.grown.0;
}

pub put_entries-returns-in_err-append-2 : goal.put_entries-returns-in_err-append-2
put_entries-returns-in_err-append-2 t c =
    let p = err_from_is_err_and c.from_residual-in_err-append-2.result c.from_residual-in_err-append-2.ensures.1 in
    record { grown = rw (p.1, p.2) (past_between (written c.args.names.now.kinds) entry (codes ", ") _ _ _ _ _ _ _ c.loop-entry-test.true c.entry-item.is c.loop-entry.invariant.rest c.in_err-append-2.ensures.grown) }

pub put_entries-returns-in_err-put_entry-2 : goal.put_entries-returns-in_err-put_entry-2
put_entries-returns-in_err-put_entry-2 t c =
    let p = err_from_is_err_and c.from_residual-in_err-put_entry-2.result c.from_residual-in_err-put_entry-2.ensures.1 in
    record { grown = rw (p.1, p.2) (past_text (written c.args.names.now.kinds) entry (codes ", ") _ _ _ _ _ _ _ _ c.loop-entry-test.true c.entry-item.is c.loop-entry.invariant.rest c.in_ok-append-2.ensures.grown.0 c.in_err-put_entry-2.ensures.grown) }

pub put_entries-loop-entry-preserved : goal.put_entries-loop-entry-preserved
put_entries-loop-entry-preserved t c = record {
  within = c.in_ok-put_entry-2.ensures.grown.1;
  rest = rest_after (written c.args.names.now.kinds) entry (codes ", ") _ _ _ _ _ _ _ c.loop-entry-test.true c.entry-item.is c.loop-entry.invariant.rest c.in_ok-append-2.ensures.grown.0 c.in_ok-put_entry-2.ensures.grown.0;
}

pub put_row-returns-in_err-append-2 : goal.put_row-returns-in_err-append-2
put_row-returns-in_err-append-2 t c =
    let below : c.loop-place.place < length c.args.items.now = search rules in
    let at : c.in-Some-get.value.now ≡ get_or c.args.items.now c.loop-place.place c.in-Some-get.value.now = search rules in
    let p = err_from_is_err_and c.from_residual-in_err-append-2.result c.from_residual-in_err-append-2.ensures.1 in
    record { grown = rw (p.1, p.2) (past_between (written c.args.names.now.kinds) alone (codes ", ") _ _ _ _ _ _ _ below at c.loop-place.invariant.rest c.in_err-append-2.ensures.grown) }

pub put_row-returns-in_err-put-2 : goal.put_row-returns-in_err-put-2
put_row-returns-in_err-put-2 t c =
    let below : c.loop-place.place < length c.args.items.now = search rules in
    let at : c.in-Some-get.value.now ≡ get_or c.args.items.now c.loop-place.place c.in-Some-get.value.now = search rules in
    let p = err_from_is_err_and c.from_residual-in_err-put-2.result c.from_residual-in_err-put-2.ensures.1 in
    record { grown = rw (p.1, p.2) (past_text (written c.args.names.now.kinds) alone (codes ", ") _ _ _ _ _ _ _ _ below at c.loop-place.invariant.rest c.in_ok-append-2.ensures.grown.0 c.in_err-put-2.ensures.grown) }

pub put_row-loop-place-preserved : goal.put_row-loop-place-preserved
put_row-loop-place-preserved t c =
    let below : c.loop-place.place < length c.args.items.now = search rules in
    let at : c.in-Some-get.value.now ≡ get_or c.args.items.now c.loop-place.place c.in-Some-get.value.now = search rules in
    record {
      within = c.in_ok-put-2.ensures.grown.1;
      rest = rest_after (written c.args.names.now.kinds) alone (codes ", ") _ _ _ _ _ _ _ below at c.loop-place.invariant.rest c.in_ok-append-2.ensures.grown.0 c.in_ok-put-2.ensures.grown.0;
    }
