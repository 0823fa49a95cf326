-- What a parser answers for all the tokens of a source: of a program, a token that is too deep and a token that is at fault
-- exactly one is there.
use Rattle.std.proofs.Common.{◌≡◌, ℕ, ◌↔◌, List, Result, Ok, Err, ◌⊎◌, inl, inr, refl, subst}
use Rattle.chi_grammar.specs.declared.fault.ParseFault.{ParseFault}
use Rattle.chi_grammar.specs.declared.fault.ParseFault.TheVariants.{Syntax, TooDeep, NoMemory}
use Rattle.chi_grammar.specs.Exact.{ParsesAll}
use Rattle.chi_grammar.specs.Rules.{part}
use Rattle.chi_grammar.proofs.OneWhole.{one_whole}
use Rattle.chi_grammar.proofs.SomeWhole.{Answer, some_whole}
use Rattle.chi_token.specs.declared.place.Spanned.{Spanned}
use Rattle.chi_tree.specs.declared.definition.Program.{Program}
use Rattle.chi_tree.specs.Limits.{whole_room}
use Rattle.chi_tree.specs.Parts as s
use Rattle.chi_tree.specs.Rules.{grammar}
use Rattle.chi_tree.specs.Statements.{program_of}
use Rattle.chi_tree.specs.Tables.{table}
use Rattle.chi_tree.proofs.Fine.{grammar_fine}
use Rattle.chi_tree_spell.specs.Statements.{spelled}
use Rattle.chi_tree_spell.proofs.ProgramSpelling.{parsed_places}
use Rattle.chi_tree_laws.specs.Answers.{IsProgram, IsDepth, IsFault, IsAnswer}
use Rattle.chi_tree_laws.specs.Definitions.{FormedProgram}
use Rattle.chi_tree_laws.specs.StatementNestings.{nestings}
use Rattle.chi_tree_laws.proofs.Answered.{names_fault, is_bad, names_first_depth, is_first_too_deep}
use Rattle.chi_tree_laws.proofs.FormedParts.{programs}
use Rattle.chi_tree_laws.proofs.ParsedProgram.{parsed_formed, formed_parsed}
use Rattle.chi_tree_laws.proofs.PlacedOnce.{one_placed}

module _ (tokens : List Spanned) where
  abbrev pub Parsed : Result Program ParseFault → Type 0
  Parsed result = ParsesAll grammar tokens program_of whole_room (part s.Program) result

  pub fault_is : (k : ℕ) → Parsed (Err (Syntax k)) ↔ IsFault tokens k
  fault_is k = (
    names_fault tokens s.Program FormedProgram spelled nestings program_of programs whole_room k,
    is_bad tokens s.Program FormedProgram spelled nestings program_of programs whole_room k,
  )

  pub depth_is : (k : ℕ) → Parsed (Err (TooDeep k)) ↔ IsDepth tokens k
  depth_is k = (
    names_first_depth tokens s.Program FormedProgram spelled nestings program_of programs whole_room k,
    is_first_too_deep tokens s.Program FormedProgram spelled nestings program_of programs whole_room k,
  )

  program_to : (program : Program) → Parsed (Ok program) → IsProgram tokens program
  program_to program p =
      let q = parsed_formed whole_room tokens program p in
      record { formed = q.0; same = q.1; agrees = parsed_places tokens whole_room program p }

  program_from : (program : Program) → IsProgram tokens program → Parsed (Ok program)
  program_from program is =
      let p = formed_parsed whole_room tokens program is.formed is.same in
      let other = program_to p.0 p.1 in
      let same : p.0 ≡ program = one_placed whole_room.blocks whole_room.expressions whole_room.blocks whole_room.expressions p.0 program tokens
      other.formed is.formed other.agrees is.agrees p.2 in
      subst (λ x. Parsed (Ok x)) same p.1

  pub program_is : (program : Program) → Parsed (Ok program) ↔ IsProgram tokens program
  program_is program = (program_to program, program_from program)

  -- an answer is what the parser says, but for want of memory

  parsed_of : (result : Result Program ParseFault) → IsAnswer tokens result → Parsed result
  parsed_of (Ok program) a = program_from program a
  parsed_of (Err (Syntax k)) a = (fault_is k).1 a
  parsed_of (Err (TooDeep k)) a = (depth_is k).1 a
  parsed_of (Err NoMemory) a = absurd a

  answer_of : (result : Result Program ParseFault) → (result ≡ Err NoMemory → ⊥) → Parsed result → IsAnswer tokens result
  answer_of (Ok program) r p = program_to program p
  answer_of (Err (Syntax k)) r p = (fault_is k).0 p
  answer_of (Err (TooDeep k)) r p = (depth_is k).0 p
  answer_of (Err NoMemory) r p = absurd (r refl)

  remembers : (result : Result Program ParseFault) → IsAnswer tokens result → result ≡ Err NoMemory → ⊥
  remembers (Ok program) a e = cc
  remembers (Err (Syntax k)) a e = cc
  remembers (Err (TooDeep k)) a e = cc
  remembers (Err NoMemory) a e = absurd a

  pub answer_some : (result : Result Program ParseFault) × IsAnswer tokens result
  answer_some =
      let a : Answer grammar tokens program_of whole_room (part s.Program)
      = some_whole grammar table grammar_fine (part s.Program) refl program_of tokens whole_room in
      (a.answer, answer_of a.answer a.remembers a.exact)

  pub answer_one : (result other : Result Program ParseFault) → IsAnswer tokens result → IsAnswer tokens other → result ≡ other
  answer_one result other a b =
      by (one_whole grammar table grammar_fine (part s.Program) refl program_of tokens whole_room result other
      (parsed_of result a) (parsed_of other b))
    where
      by : (result ≡ Err NoMemory) ⊎ ((other ≡ Err NoMemory) ⊎ (result ≡ other)) → result ≡ other
      by (inl lost) = absurd (remembers result a lost)
      by (inr (inl lost)) = absurd (remembers other b lost)
      by (inr (inr same)) = same
