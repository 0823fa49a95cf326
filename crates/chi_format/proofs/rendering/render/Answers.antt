use Rattle.std.proofs.Common.{refl, arith}
use Rattle.std.proofs.lemmas.Result.{err_from_is_err_and}
use Rattle.chi_format.specs.Format.{shown}
use Rattle.chi_format.proofs.Turns.{written-all, fits-plain, rest-plain, past-plain, turn_at, takes-next, fits-shown, rest-shown, past-shown}
use Rattle.chi_format.proofs.rendering.render.Goals as goal
use Rattle.chi_format.proofs.rendering.render.Goals.{in-Plain+in_ok-append-in-Plain, in-Any+in_ok-put_shown-in-Any}

pub put_shown-requires : goal.put_shown-requires
put_shown-requires c =
    takes-next (turn_at c.args.names.now.kinds c.args.pieces.now c.args.values.now c.loop-piece.piece-index c.loop-piece.next c.piece-item.result c.index-values-next.result c.in-Any.is c.loop-piece-test.true c.piece-item.is c.index-values-next.is c.loop-piece.invariant.fits)

pub loop-piece-preserved : goal.loop-piece-preserved
loop-piece-preserved c = elim c.match-piece.branch [
  | in-Plain+in_ok-append-in-Plain w ↦ record {
    within = rw w.text-is w.in_ok-append-in-Plain.ensures.grown.1;
    fits = rw w.next-is (fits-plain _ _ _ _ _ _ c.loop-piece-test.true c.piece-item.is w.in-Plain.is c.loop-piece.invariant.fits);
    rest = rw (w.text-is, w.next-is) (rest-plain _ _ _ _ _ _ _ _ _ _ c.loop-piece-test.true c.piece-item.is w.in-Plain.is w.as_slice.ensures.same w.in_ok-append-in-Plain.ensures.grown.0 c.loop-piece.invariant.rest);
  }
  | in-Any+in_ok-put_shown-in-Any w ↦
      let t = (turn_at c.args.names.now.kinds c.args.pieces.now c.args.values.now c.loop-piece.piece-index c.loop-piece.next c.piece-item.result w.index-values-next.result w.in-Any.is c.loop-piece-test.true c.piece-item.is w.index-values-next.is c.loop-piece.invariant.fits) in
      let step = rest-shown t c.loop-piece.text.items w.put_shown.new.out.items _ (shown c.args.names.now.kinds c.piece-item.result w.index-values-next.result) _ refl w.in_ok-put_shown-in-Any.ensures.grown c.loop-piece.invariant.rest in
      record {
        within = rw w.text-is step.0;
        fits = rw w.next-is (fits-shown t);
        rest = rw (w.text-is, w.next-is) step.1;
      }
]

pub returns-in_err-append-in-Plain-clause-refused : goal.returns-in_err-append-in-Plain-clause-refused
returns-in_err-append-in-Plain-clause-refused c =
    let p = err_from_is_err_and c.from_residual.result c.from_residual.ensures.1 in
    rw (p.1, p.2) (past-plain _ _ _ c.append.new.text.items _ _ _ _ _ _ _ c.loop-piece-test.true c.piece-item.is c.in-Plain.is c.as_slice.ensures.same c.loop-piece.invariant.fits c.loop-piece.invariant.rest c.in_err-append-in-Plain.ensures.grown)

pub returns-in_err-put_shown-in-Any-clause-refused : goal.returns-in_err-put_shown-in-Any-clause-refused
returns-in_err-put_shown-in-Any-clause-refused c =
    let p = err_from_is_err_and c.from_residual-in_err-put_shown-in-Any.result c.from_residual-in_err-put_shown-in-Any.ensures.1 in
    rw (p.1, p.2) (past-shown (turn_at c.args.names.now.kinds c.args.pieces.now c.args.values.now c.loop-piece.piece-index c.loop-piece.next c.piece-item.result c.index-values-next.result c.in-Any.is c.loop-piece-test.true c.piece-item.is c.index-values-next.is c.loop-piece.invariant.fits) _ c.loop-piece.text.items c.put_shown.new.out.items (shown c.args.names.now.kinds c.piece-item.result c.index-values-next.result) _ c.loop-piece.invariant.rest refl c.in_err-put_shown-in-Any.ensures.grown)

pub returns-clause-text : goal.returns-clause-text
returns-clause-text c = written-all c.args.names.now.kinds c.loop-piece.text.items c.args.pieces.now c.loop-piece.piece-index _ _ (omega (arith, c.loop-piece-test.false)) c.loop-piece.invariant.fits c.loop-piece.invariant.rest
