-- The text of a program is read as the program with the `;` that are kept, and is the layout of what is read.
use Rattle.std.proofs.Common.{◌≡◌, ℕ, ◌+◌, List, [], ◌∷◌, ◌++◌, map, drop, slice_range, Ok, refl, sym, ap, subst, ◌∙◌}
use Rattle.std.specs.List.{prefix_len, take_while}
use Rattle.std.proofs.lemmas.List.{map-append, take-append-drop}
use Rattle.chi_token.specs.declared.place.Spanned.{Spanned}
use Rattle.chi_token.specs.declared.token.Token.{Token}
use Rattle.chi_token.specs.Tokens.{IsToken}
use Rattle.chi_grammar.specs.Exact.{ParsesAll}
use Rattle.chi_grammar.specs.Rules.{part}
use Rattle.chi_lex.specs.Spans.{IsSpanOf, SpanFrom}
use Rattle.chi_lex.proofs.LawLemmas.{Reads-SpanFrom}
use Rattle.chi_tree.specs.declared.definition.Program.{Program}
use Rattle.chi_tree.specs.Limits.{whole_room}
use Rattle.chi_tree.specs.Parts as parts
use Rattle.chi_tree.specs.Rules.{grammar}
use Rattle.chi_tree.specs.Statements.{program_of}
use Rattle.chi_tree_spell.specs.Statements.{spelled}
use Rattle.chi_tree_spell.specs.Words.{token_of}
use Rattle.chi_tree_laws.specs.Answers.{IsProgram}
use Rattle.chi_tree_laws.specs.Definitions.{FormedProgram}
use Rattle.chi_tree_laws.specs.UnplacedStatements.{unplaced}
use Rattle.chi_tree_laws.proofs.ParsedProgram.{formed_parsed}
use Rattle.chi_tree_laws.proofs.ProgramAnswers.{program_is}
use Rattle.chi_fmt.specs.declared.comment.Comment.{Comment}
use Rattle.chi_fmt.specs.declared.line.Line.{Line}
use Rattle.chi_fmt.specs.declared.spot.Spot.{Spot}
use Rattle.chi_fmt.specs.Definitions.{program_lines}
use Rattle.chi_fmt.specs.Kept.{kept}
use Rattle.chi_fmt.specs.Laws.{IsOfSource, IsReread, text_at}
use Rattle.chi_fmt.specs.Layout.{layout}
use Rattle.chi_fmt.specs.Pages.{lines_text, source_tokens, stands_before}
use Rattle.chi_fmt.specs.Reread.{AreComments, before, kept_spelling, line_source, line_tokens, moved, semicolon_tokens, settled, source_of, text_tokens, token_at}
use Rattle.chi_fmt.specs.Sound.{AreRows, AreSound, AreTokens}
use Rattle.chi_fmt.proofs.DefinitionLines.{program-sources}
use Rattle.chi_fmt.proofs.LineRows.{Sources}
use Rattle.chi_fmt.proofs.LineScans.{lines-scan}
use Rattle.chi_fmt.proofs.PlacelessProgram.{placeless}
use Rattle.chi_fmt.proofs.Scans.{Scanned, scanned}
use Rattle.chi_fmt.proofs.Settled.{again}
use Rattle.chi_fmt.proofs.SettledProgram.{kept-formed, kept-lines}

-- the tokens of a source are tokens, and so are those of the lines

abbrev AllTokens : List Token → Type 0
AllTokens [] = Unit {0}
AllTokens (t ∷ ts) = IsToken t × AllTokens ts

all-front : (xs ys : List Token) → AllTokens (xs ++ ys) → AllTokens xs
all-front [] ys h = tt
all-front (x ∷ xs) ys h = (h.0, all-front xs ys h.1)

all-back : (xs ys : List Token) → AllTokens (xs ++ ys) → AllTokens ys
all-back [] ys h = h
all-back (x ∷ xs) ys h = all-back xs ys h.1

spots-tokens : (xs : List Spot) → AllTokens (map token_at xs) → AreTokens xs
spots-tokens [] h = tt
spots-tokens (x ∷ xs) h = (h.0, spots-tokens xs h.1)

sound-rows : (lines : List Line) → AreSound lines → AllTokens (source_of lines) → AreRows lines
sound-rows [] s h = tt
sound-rows (line ∷ lines) s h = (
  spots-tokens line.spots
      (all-front (map token_at line.spots) (semicolon_tokens line.semicolon.written) (all-front (line_source line) (source_of lines) h)),
  s.0,
  sound-rows lines s.1 (all-back (line_source line) (source_of lines) h),
)

source-tokens : (source : List ℕ) (offset : ℕ) (ts : List Spanned) → SpanFrom source offset ts → AllTokens (map token_of ts)
source-tokens source offset [] h = tt
source-tokens source offset (t ∷ ts) h =
    let is : IsSpanOf source t = h.1 in ((slice_range source t.start t.stop, is.spelled), source-tokens source t.stop ts h.2)

-- the tokens of the text are those of the kept program

settled-source : (lines : List Line) → source_of (map settled lines) ≡ kept_spelling lines
settled-source [] = refl
settled-source (line ∷ lines) = ap (λ ts. line_tokens line ++ ts) (settled-source lines)

kept-spelled : {b d : ℕ} (program : Program) → FormedProgram b d program → kept_spelling (program_lines program) ≡ spelled (kept program)
kept-spelled program h =
    let s : Sources (program_lines (kept program)) (spelled (kept program)) = program-sources (kept program) (kept-formed program h) in
    sym (settled-source (program_lines program)) ∙ ap source_of (sym (kept-lines program h)) ∙ s.same

-- comments are moved, and otherwise stay

before-texts : (index : ℕ) (cs : List Comment) → map text_at (before index cs) ≡ map text_at cs
before-texts index [] = refl
before-texts index (c ∷ cs) = ap (λ xs. c.text ∷ xs) (before-texts index cs)

moved-texts : (index passed : ℕ) (lines : List Line) (cs : List Comment) → map text_at (moved index passed lines cs) ≡ map text_at cs
moved-texts index passed [] cs = before-texts index cs
moved-texts index passed (line ∷ lines) cs =
    let here = take_while (stands_before passed line) cs in
    let later = drop (prefix_len (stands_before passed line) cs) cs in
    let rest = moved (index + text_tokens line) (passed + source_tokens line) lines later in
    map-append text_at (before index here) rest
    ∙ (λ i. before-texts index here i ++ moved-texts (index + text_tokens line) (passed + source_tokens line) lines later i)
    ∙ sym (map-append text_at here later)
    ∙ ap (map text_at) (take-append-drop (prefix_len (stands_before passed line) cs) cs)

-- the lines of what is read

read-lines : {b d c e : ℕ} (program tree : Program) → FormedProgram b d program → FormedProgram c e tree → unplaced tree ≡ unplaced (kept program)
    → program_lines tree ≡ map settled (program_lines program)
read-lines program tree h j same =
    sym (placeless tree j) ∙ ap program_lines same ∙ placeless (kept program) (kept-formed program h) ∙ kept-lines program h

pub reread : (program : Program) (comments : List Comment) → IsOfSource program → AreComments comments → IsReread (layout program comments) program comments
reread program comments source are =
    let lines = program_lines program in
    let text = lines_text 0 lines comments in
    let s : Sources lines (spelled program) = program-sources program source.formed in
    let all : AllTokens (source_of lines) =
    subst AllTokens (sym (s.same ∙ source.same)) (source-tokens source.source 0 source.tokens (Reads-SpanFrom source.source source.tokens source.reads)) in
    let scan : Scanned text 0 0 (kept_spelling lines) (moved 0 0 lines comments) =
    scanned text 0 (kept_spelling lines) (moved 0 0 lines comments) (lines-scan lines comments 0 0 (sound-rows lines s.sound all) are) text 0 refl in
    let p : (parsed : Program) × ParsesAll grammar scan.read program_of whole_room (part parts.Program) (Ok parsed) × (unplaced parsed ≡ unplaced (kept program)) =
    formed_parsed whole_room scan.read (kept program) (kept-formed program source.formed) (sym (kept-spelled program source.formed) ∙ sym scan.same) in
    let is : IsProgram scan.read p.0 = (program_is scan.read p.0).0 p.1 in
    record {
      tokens = scan.read;
      reads = scan.reads;
      tree = p.0;
      is = is;
      same = p.2;
      texts = ap (map text_at) scan.found ∙ moved-texts 0 0 lines comments;
      again = (λ i. lines_text 0 (read-lines program p.0 source.formed is.formed p.2 i) (scan.found i)) ∙ again lines comments 0 0 s.have;
    }

-- the same of a text that is the layout
pub reread_as : (program : Program) (comments : List Comment) (text : List ℕ) → text ≡ layout program comments → IsOfSource program → AreComments comments
    → IsReread text program comments
reread_as program comments text same source are = subst (λ t. IsReread t program comments) (sym same) (reread program comments source are)
