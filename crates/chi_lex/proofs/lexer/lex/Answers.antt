use Rattle.std.proofs.Common.{◌∙◌, length, ap, sym, subst, arith, rules}
use Rattle.chi_lex.specs.Stops.{fault_of}
use Rattle.chi_lex.specs.Pieces.{IsPiece}
use Rattle.chi_lex.specs.Reading.{IsFaultOf}
use Rattle.chi_lex.proofs.ReadingLaws.{reading-IsFaultOf, reading-Reads}
use Rattle.chi_lex.proofs.Sizes.{gap-size, token-size}
use Rattle.chi_lex.proofs.SpanLemmas.{reading-IsToken}
use Rattle.chi_lex.proofs.Turns.{Passes, HasLexed, HasLexed-nothing, HasLexed-gap, HasLexed-token, HasLexed-end, HasLexed-stopped}
use Rattle.chi_lex.proofs.lexer.lex.Goals as goal
use Rattle.chi_lex.proofs.lexer.lex.Goals.{in-Gap, in-Found+in_ok-push-in-Found}

pub loop-rest-init : goal.loop-rest-init
loop-rest-init c =
    subst (λ tokens. HasLexed c.args.source.now c.args.source.now c.at_start-cursor.result tokens) (sym c.new-tokens.ensures.items)
    (HasLexed-nothing c.args.source.now c.at_start-cursor.result c.at_start-cursor.ensures)

pub overflow_cast-size : goal.overflow_cast-size
overflow_cast-size c =
    let found = subst (λ p. IsPiece c.loop-rest.rest.now p) c.in-Found.is c.in_ok-piece.ensures in
    let fits = token-size c.loop-rest.rest.now _ c.in-Found.size found.1 in
    let within = fits.within in
    let room = c.loop-rest.invariant.room in
    omega arith

pub overflow_add-start : goal.overflow_add-start
overflow_add-start c =
    let found = subst (λ p. IsPiece c.loop-rest.rest.now p) c.in-Found.is c.in_ok-piece.ensures in
    let fits = token-size c.loop-rest.rest.now _ c.in-Found.size found.1 in
    let within = fits.within in
    let room = c.loop-rest.invariant.room in
    omega arith

pub returns-in-Stopped-clause-fault : goal.returns-in-Stopped-clause-fault
returns-in-Stopped-clause-fault c =
    let rest = c.loop-rest.rest.now in
    let h = c.loop-rest.invariant in
    let stopped = subst (λ p. IsPiece rest p) c.in-Stopped.is c.in_ok-piece.ensures in
    let fault = c.fault_at.ensures h.done h.stands
    ∙ ap (λ xs. fault_of xs (length h.done) c.in-Stopped.stop) h.whole
    ∙ ap (λ n. fault_of c.args.source.now n c.in-Stopped.stop) (sym h.stands.offset)
    ∙ ap (λ s. fault_of c.args.source.now c.loop-rest.cursor.offset s) stopped.1.1 in
    subst (λ f. IsFaultOf c.args.source.now f) (sym fault)
    (reading-IsFaultOf c.args.source.now _
    (HasLexed-stopped c.args.source.now rest c.loop-rest.cursor c.loop-rest.tokens.items h (search rules) stopped.0 stopped.1.0))

pub split_at-requires : goal.split_at-requires
split_at-requires c =
    let rest = c.loop-rest.rest.now in
    elim c.match-piece.branch [
      | in-Gap w ↦
          let gap = subst (λ p. IsPiece rest p) w.in-Gap.is c.in_ok-piece.ensures in
          let fits = gap-size rest w.in-Gap.size gap in
          let within = fits.within in
          omega arith
      | in-Found+in_ok-push-in-Found w ↦
          let found = subst (λ p. IsPiece rest p) w.in-Found.is c.in_ok-piece.ensures in
          let fits = token-size rest w.in-Found.token w.in-Found.size found.1 in
          let within = fits.within in
          omega arith
    ]

pub loop-rest-smaller : goal.loop-rest-smaller
loop-rest-smaller c =
    let rest = c.loop-rest.rest.now in
    let left = c.split_at.ensures.back_len in
    elim c.match-piece.branch [
      | in-Gap w ↦
          let gap = subst (λ p. IsPiece rest p) w.in-Gap.is c.in_ok-piece.ensures in
          let fits = gap-size rest w.in-Gap.size gap in
          let some = fits.some in
          let within = fits.within in
          omega arith
      | in-Found+in_ok-push-in-Found w ↦
          let found = subst (λ p. IsPiece rest p) w.in-Found.is c.in_ok-piece.ensures in
          let fits = token-size rest w.in-Found.token w.in-Found.size found.1 in
          let some = fits.some in
          let within = fits.within in
          omega arith
    ]

pub loop-rest-preserved : goal.loop-rest-preserved
loop-rest-preserved c =
    let source = c.args.source.now in
    let rest = c.loop-rest.rest.now in
    let passed = c.split_at.result.0.now in
    let left = c.split_at.result.1.now in
    let cursor = c.loop-rest.cursor in
    let next = c.past-cursor.result in
    let old = c.loop-rest.tokens.items in
    let h = c.loop-rest.invariant in
    let passes : Passes rest passed left c.match-piece.size cursor next =
    record {
      front = c.split_at.ensures.front;
      back = c.split_at.ensures.back;
      offset = c.past-cursor.ensures.offset;
      stands = c.past-cursor.ensures.stands;
    } in
    elim c.match-piece.branch [
      | in-Gap w ↦
          let gap = subst (λ p. IsPiece rest p) w.in-Gap.is c.in_ok-piece.ensures in
          let size_passes = subst (λ n. Passes rest passed left n cursor next) w.size-is passes in
          subst (λ ts. HasLexed source left next ts.items) (sym w.tokens-is)
          (HasLexed-gap source rest passed left w.in-Gap.size cursor next old h (gap-size rest w.in-Gap.size gap) gap size_passes)
      | in-Found+in_ok-push-in-Found w ↦
          let found = subst (λ p. IsPiece rest p) w.in-Found.is c.in_ok-piece.ensures in
          let size_passes = subst (λ n. Passes rest passed left n cursor next) w.size-is passes in
          let fits = token-size rest w.in-Found.token w.in-Found.size found.1 in
          subst (λ ts. HasLexed source left next ts.items) (sym w.tokens-is)
          (subst (λ ts. HasLexed source left next ts) (sym w.in_ok-push-in-Found.ensures.items)
          (HasLexed-token source rest passed left w.in-Found.size cursor next old w.in-Found.token w.place-place.result h fits found.0 found.1 size_passes w.place-place.ensures.line w.place-place.ensures.column))
    ]

pub returns-clause-tokens : goal.returns-clause-tokens
returns-clause-tokens c =
    reading-Reads c.args.source.now c.loop-rest.tokens.items
    (HasLexed-end c.args.source.now c.loop-rest.rest.now c.loop-rest.cursor c.loop-rest.tokens.items c.loop-rest.invariant (search rules))

pub returns-clause-spelled : goal.returns-clause-spelled
returns-clause-spelled c =
    reading-IsToken c.args.source.now c.loop-rest.tokens.items
    (HasLexed-end c.args.source.now c.loop-rest.rest.now c.loop-rest.cursor c.loop-rest.tokens.items c.loop-rest.invariant (search rules))
