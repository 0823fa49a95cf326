-- The places of faults.
use Rattle.std.proofs.Common.{◌≡◌, ℕ, ◌+◌, ◌≤◌, List, ◌++◌, length, length-append, length-take, take, drop, append_assoc, append-nil, [], sym, ap, subst, ◌∙◌, arith}
use Rattle.std.proofs.lemmas.List.{take-append-drop}
use Rattle.chi_token.specs.declared.place.Place.{Place}
use Rattle.chi_lex.specs.declared.cursor.Cursor.{Cursor}
use Rattle.chi_lex.specs.declared.fault.LexFault.TheVariants.{BadByte, OpenString, BadEscape}
use Rattle.chi_lex.specs.declared.piece.Stop.{Stop}
use Rattle.chi_lex.specs.declared.piece.Stop.TheVariants.{Byte, Open, Escape}
use Rattle.chi_lex.specs.Cursors.{StandsAfter}
use Rattle.chi_lex.specs.Stops.{stop_of, fault_of}
use Rattle.chi_lex.specs.Places.{place_of, line_of}
use Rattle.chi_lex.proofs.Sizes.{IsStopIn, stop_of-within}
use Rattle.chi_lex.proofs.Turns.{place_of-after}

-- a place that is made from a cursor
pub record IsPlaceAt (place : Place) (cursor : Cursor) : Type 0 where
  pub line : place.line ≡ cursor.line
  pub column : place.column ≡ cursor.column

place_of-cursor : (done rest : List ℕ) (cursor : Cursor) (place : Place) → StandsAfter done cursor → IsPlaceAt place cursor → place ≡ place_of (done ++ rest) (length done)
place_of-cursor done rest cursor place stands at =
    let here : ℕ → ℕ → Place = λ l c. record { line = l; column = c } in
    ap (λ l. here l place.column) (at.line ∙ stands.line)
    ∙ ap (λ c. here (line_of done) c) (at.column ∙ stands.column)
    ∙ sym (place_of-after done rest)

pub place_of-end : (source : List ℕ) (cursor : Cursor) (place : Place) → StandsAfter source cursor → IsPlaceAt place cursor → place ≡ place_of source (length source)
place_of-end source cursor place stands at =
    place_of-cursor source [] cursor place stands at ∙ ap (λ xs. place_of xs (length source)) (append-nil source)

pub place_of-opening : (done rest : List ℕ) (cursor : Cursor) (place : Place) → StandsAfter done cursor → IsPlaceAt place cursor → OpenString place ≡ fault_of (done ++ rest) (length done) Open
place_of-opening done rest cursor place stands at =
    ap (λ p. OpenString p) (place_of-cursor done rest cursor place stands at)

place_of-passed : (done rest passed : List ℕ) (size : ℕ) (next : Cursor) (place : Place) → passed ≡ take size rest → size ≤ length rest → StandsAfter (done ++ passed) next → IsPlaceAt place next → place ≡ place_of (done ++ rest) (length done + size)
place_of-passed done rest passed size next place front within stands at =
    let split : (done ++ passed) ++ drop size rest ≡ done ++ rest =
    append_assoc done passed (drop size rest)
    ∙ ap (λ xs. done ++ (xs ++ drop size rest)) front
    ∙ ap (λ xs. done ++ xs) (take-append-drop size rest) in
    let size_is : length (done ++ passed) ≡ length done + size =
    omega (arith, length-append done passed, ap length front, length-take size rest) in
    place_of-cursor (done ++ passed) (drop size rest) next place stands at
    ∙ ap (λ xs. place_of xs (length (done ++ passed))) split
    ∙ ap (λ n. place_of (done ++ rest) n) size_is

pub byte-within : (rest : List ℕ) (stop : Stop) (passed : ℕ) → stop ≡ stop_of rest → stop ≡ Byte passed → passed ≤ length rest
byte-within rest stop passed is byte = subst (λ s. IsStopIn (length rest) s) (sym is ∙ byte) (stop_of-within rest)

pub escape-within : (rest : List ℕ) (stop : Stop) (passed : ℕ) → stop ≡ stop_of rest → stop ≡ Escape passed → passed ≤ length rest
escape-within rest stop passed is escape = subst (λ s. IsStopIn (length rest) s) (sym is ∙ escape) (stop_of-within rest)

pub place_of-byte : (done rest passed : List ℕ) (size : ℕ) (next : Cursor) (place : Place) → passed ≡ take size rest → size ≤ length rest → StandsAfter (done ++ passed) next → IsPlaceAt place next → BadByte place ≡ fault_of (done ++ rest) (length done) (Byte size)
place_of-byte done rest passed size next place front within stands at =
    ap (λ p. BadByte p) (place_of-passed done rest passed size next place front within stands at)

pub place_of-escape : (done rest passed : List ℕ) (size : ℕ) (next : Cursor) (place : Place) → passed ≡ take size rest → size ≤ length rest → StandsAfter (done ++ passed) next → IsPlaceAt place next → BadEscape place ≡ fault_of (done ++ rest) (length done) (Escape size)
place_of-escape done rest passed size next place front within stands at =
    ap (λ p. BadEscape p) (place_of-passed done rest passed size next place front within stands at)
