use Rattle.std.proofs.Common.{◌∙◌, ◌++◌, ap, sym, length}
use Rattle.chi_lex.specs.Stops.{fault_of}
use Rattle.chi_lex.proofs.FaultLemmas.{byte-within, escape-within, place_of-byte, place_of-opening, place_of-escape}
use Rattle.chi_lex.proofs.lexer.fault_at.Goals as goal

pub split_at-requires : goal.split_at-requires
split_at-requires c = byte-within c.args.rest.now c.args.stop c.in-Byte.passed c.requires.stops c.in-Byte.is

pub split_at-requires-in-Escape : goal.split_at-requires-in-Escape
split_at-requires-in-Escape c =
    escape-within c.args.rest.now c.args.stop c.in-Escape.passed c.requires.stops c.in-Escape.is

pub returns-in-Byte : goal.returns-in-Byte
returns-in-Byte c =
    λ before stands.
    place_of-byte before c.args.rest.now c.split_at.result.0.now c.in-Byte.passed c.past.result c.place.result
    c.split_at.ensures.front
    (byte-within c.args.rest.now c.args.stop c.in-Byte.passed c.requires.stops c.in-Byte.is)
    (c.past.ensures.stands before stands)
    record { line = c.place.ensures.line; column = c.place.ensures.column }
    ∙ ap (λ s. fault_of (before ++ c.args.rest.now) (length before) s) (sym c.in-Byte.is)

pub returns-in-Open : goal.returns-in-Open
returns-in-Open c =
    λ before stands.
    place_of-opening before c.args.rest.now c.args.cursor c.place-in-Open.result stands
    record { line = c.place-in-Open.ensures.line; column = c.place-in-Open.ensures.column }
    ∙ ap (λ s. fault_of (before ++ c.args.rest.now) (length before) s) (sym c.in-Open.is)

pub returns-in-Escape : goal.returns-in-Escape
returns-in-Escape c =
    λ before stands.
    place_of-escape before c.args.rest.now c.split_at-in-Escape.result.0.now c.in-Escape.passed c.past-in-Escape.result c.place-in-Escape.result
    c.split_at-in-Escape.ensures.front
    (escape-within c.args.rest.now c.args.stop c.in-Escape.passed c.requires.stops c.in-Escape.is)
    (c.past-in-Escape.ensures.stands before stands)
    record { line = c.place-in-Escape.ensures.line; column = c.place-in-Escape.ensures.column }
    ∙ ap (λ s. fault_of (before ++ c.args.rest.now) (length before) s) (sym c.in-Escape.is)
