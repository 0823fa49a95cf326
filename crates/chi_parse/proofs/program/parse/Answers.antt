use Rattle.std.proofs.Common.{◌≡◌, Ok, Err, List, refl, sym, ap, subst, ◌∙◌, arith}
use Rattle.chi_grammar.specs.Rules.{part, spelling}
use Rattle.chi_grammar.specs.Exact.{ParsesAll}
use Rattle.chi_grammar.specs.Reads.{Reads}
use Rattle.chi_grammar.specs.declared.room.Room.{Room}
use Rattle.chi_grammar.specs.Trees.{Is}
use Rattle.chi_grammar.specs.Trees as is
use Rattle.chi_grammar.proofs.Exact.{parses, all_failed, all_read, more_left}
use Rattle.chi_token.specs.declared.place.Place.{Place}
use Rattle.chi_token.specs.declared.place.Spanned.{Spanned}
use Rattle.chi_tree.specs.declared.definition.Item.{Item}
use Rattle.chi_tree.specs.Limits.{whole_room}
use Rattle.chi_tree.specs.Parts as s
use Rattle.chi_tree.specs.Rules.{grammar}
use Rattle.chi_tree.specs.Statements.{program_of, last_place}
use Rattle.chi_tree.specs.Tables.{table}
use Rattle.chi_tree.specs.View.{Built}
use Rattle.chi_tree.proofs.Fine.{grammar_fine}
use Rattle.chi_parse.proofs.Ending.{last_place-some, no_last}
use Rattle.chi_parse.proofs.Shapes.{run_ahead}
use Rattle.chi_parse.proofs.program.parse.Goals as goal

-- a program is its definitions with the place of its last token
whole_program : {room : Room} {t : Built} → Is grammar room (part s.Program) t
    → program_of t ≡ record { items = (program_of t).items; last = last_place (spelling t) }
whole_program (is.part (is.both p q)) = refl

with_last : (tokens : List Spanned) (items : List Item) (place : Place) → last_place tokens ≡ place
    → ParsesAll grammar tokens (λ t. (program_of t).items) whole_room (part s.Program) (Ok items)
    → ParsesAll grammar tokens program_of whole_room (part s.Program) (Ok (record { items = items; last = place }))
with_last tokens items place last (t, shows, built, spells) =
    (t, whole_program built ∙ (λ i. record { items = shows i; last = (ap last_place spells ∙ last) i }), built, spells)

pub returns-in_err-items : goal.returns-in_err-items
returns-in_err-items c =
    record {
      parsed = all_failed grammar _ (part s.Program) (λ t. (program_of t).items) program_of whole_room _ _ c.from_residual.ensures.1
          (parses grammar table grammar_fine (λ t. (program_of t).items) _ whole_room (part s.Program) refl 0 (omega arith) (Err _)
          (subst (λ r. Reads grammar table c.args.tokens.now (λ t. (program_of t).items) r (part s.Program) 0 (Err c.in_err-items.field-0.0)) c.whole_room.ensures.whole c.in_err-items.ensures));
    }

pub returns-then-end-tokens : goal.returns-then-end-tokens
returns-then-end-tokens c =
    record {
      parsed = more_left grammar _ (part s.Program) (λ t. (program_of t).items) whole_room c.in_ok-items.items c.in_ok-items.end
          (parses grammar table grammar_fine (λ t. (program_of t).items) _ whole_room (part s.Program) refl 0 (omega arith) (Ok (c.in_ok-items.items, c.in_ok-items.end))
          (subst (λ r. Reads grammar table c.args.tokens.now (λ t. (program_of t).items) r (part s.Program) 0 (Ok (c.in_ok-items.items, c.in_ok-items.end))) c.whole_room.ensures.whole c.in_ok-items.ensures))
          c.if-end-tokens.true;
    }

pub returns-in-Some : goal.returns-in-Some
returns-in-Some c =
    record {
      parsed = with_last c.args.tokens.now c.in_ok-items.items _ (last_place-some c.args.tokens.now _ _ refl (sym c.in-Some.ensures.value))
          (all_read grammar _ (part s.Program) (λ t. (program_of t).items) whole_room c.in_ok-items.items c.in_ok-items.end
          (parses grammar table grammar_fine (λ t. (program_of t).items) _ whole_room (part s.Program) refl 0 (omega arith) (Ok (c.in_ok-items.items, c.in_ok-items.end))
          (subst (λ r. Reads grammar table c.args.tokens.now (λ t. (program_of t).items) r (part s.Program) 0 (Ok (c.in_ok-items.items, c.in_ok-items.end))) c.whole_room.ensures.whole c.in_ok-items.ensures))
          (omega (arith, c.if-end-tokens.false, c.in_ok-items.ensures.inside)));
    }

pub returns-in-None : goal.returns-in-None
returns-in-None c =
    absurd (omega (arith, no_last c.args.tokens.now _ refl (sym c.in-None.ensures.value), run_ahead c.in_ok-items.ensures.runs, c.in_ok-items.ensures.inside))
