-- A source is refused with one report, or comes to one program.
use Rattle.std.proofs.Common.{◌≡◌, ℕ, List, [], ◌∷◌, Some, ◌⊎◌, inl, inr, sym, ◌∙◌, ap, subst, refl}
use Rattle.std.specs.Prelude.{Result, Ok, Err, option_map}
use Rattle.chi_token.specs.declared.place.Spanned.{Spanned}
use Rattle.chi_lex.specs.declared.fault.LexFault.{LexFault}
use Rattle.chi_lex.specs.Reading.{Reads}
use Rattle.chi_lex.specs.Reading as lexical
use Rattle.chi_lex.proofs.LawLemmas.{some_reading, one_list, one_fault, never_both}
use Rattle.chi_grammar.specs.declared.fault.ParseFault.{ParseFault}
use Rattle.chi_grammar.specs.declared.fault.ParseFault.TheVariants.{Syntax, TooDeep, NoMemory}
use Rattle.chi_tree_laws.specs.Answers.{IsAnswer}
use Rattle.chi_tree.specs.declared.definition.Program.{Program}
use Rattle.chi_check_types.specs.declared.fault.Fault.{Fault}
use Rattle.chi_check_types.specs.Faults.{first_of, first, sooner_of}
use Rattle.chi_check.specs.Programs.{checked}
use Rattle.chi_check_streams.specs.Streams.{with_streams}
use Rattle.chi_core.specs.declared.program.Core.{Core}
use Rattle.chi_tool.specs.Refusals as refusal
use Rattle.chi_tool.specs.Refusals.{Report}
use Rattle.chi_tool.specs.Sources.{IsWritten, IsNoProgram, IsUnparsed, by_lexer, by_parser, IsRefused, unparsed, by_checker, BreaksRule, ComesTo}
use Rattle.chi_tool.specs.Syntax.{HasTree, HasFault}
use Rattle.chi_tool.proofs.LawClauses.{AnswerLaw, CheckLaw}

-- what a source is, as it is written
abbrev pub Parses : List ℕ → Type 0
Parses source = ((r : Report) × IsUnparsed source r) ⊎ ((tree : Program) × IsWritten source tree)

-- what it comes to
abbrev pub Comes : List ℕ → Type 0
Comes source = ((r : Report) × IsRefused source r) ⊎ ((core : Core) × ComesTo source core)

-- something

some_first : (kept : Fault) (fs : List Fault) → (f : Fault) × (first_of (Some kept) fs ≡ Some f)
unfolding first_of
some_first kept [] = (kept, refl)
some_first kept (f ∷ fs) = some_first (sooner_of (Some kept) f) fs

first_some : (f : Fault) (fs : List Fault) → (g : Fault) × (first (f ∷ fs) ≡ Some g)
unfolding first_of
first_some f fs = some_first f fs

first_none : (fs : List Fault) (f : Fault) → fs ≡ [] → first fs ≡ Some f → ⊥
unfolding first_of
first_none [] f none is = cc
first_none (g ∷ gs) f none is = cc

tree_comes : CheckLaw → (source : List ℕ) (tree : Program) → IsWritten source tree → (fs : List Fault) → (checked tree).faults ≡ fs → Comes source
tree_comes check source tree written [] e =
    let made = check.whole written.tokens tree written.parsed e in
    inr (with_streams made.0, record { tree = tree; written = written; unbroken = e; made = ap (option_map with_streams) made.1 })
tree_comes check source tree written (f ∷ fs) e =
    let g = first_some f fs in
    inl (refusal.typing g.0, by_checker g.0 (record { tree = tree; written = written; first = ap first e ∙ g.1 }) refl)

faulty : (source : List ℕ) (tokens : List Spanned) (fault : ParseFault) → Reads source tokens → HasFault tokens fault → Parses source
faulty source tokens fault reads has = inl (refusal.syntax source tokens fault, by_parser tokens fault (record { read = reads; has = has }) refl)

tokens_parse : (source : List ℕ) (tokens : List Spanned) → Reads source tokens → (result : Result Program ParseFault) → IsAnswer tokens result → Parses source
tokens_parse source tokens reads (Ok tree) is = inr (tree, record { tokens = tokens; read = reads; parsed = is })
tokens_parse source tokens reads (Err (Syntax k)) is = faulty source tokens (Syntax k) reads is
tokens_parse source tokens reads (Err (TooDeep k)) is = faulty source tokens (TooDeep k) reads is
tokens_parse source tokens reads (Err NoMemory) is = absurd is

pub source_parses : AnswerLaw → (source : List ℕ) → Parses source
source_parses law source = by (some_reading source)
  where
    by : ((tokens : List Spanned) × Reads source tokens) ⊎ ((fault : LexFault) × lexical.HasFault source fault) → Parses source
    by (inl (tokens, reads)) = let a = law.some tokens in tokens_parse source tokens reads a.0 a.1
    by (inr (fault, has)) = inl (refusal.lexical fault, by_lexer fault has refl)

pub source_comes : AnswerLaw → CheckLaw → (source : List ℕ) → Comes source
source_comes law check source = by (source_parses law source)
  where
    by : Parses source → Comes source
    by (inl (r, is)) = inl (r, unparsed is)
    by (inr (tree, written)) = tree_comes check source tree written (checked tree).faults refl

-- and nothing else

pub fault_answer : (tokens : List Spanned) (e : ParseFault) → HasFault tokens e → IsAnswer tokens (Err e)
fault_answer tokens (Syntax k) h = h
fault_answer tokens (TooDeep k) h = h
fault_answer tokens NoMemory h = h

module _ (law : AnswerLaw) (source : List ℕ) where
  pub one_written : (t u : Program) → IsWritten source t → IsWritten source u → t ≡ u
  one_written t u p q =
      let there : HasTree p.tokens u = subst (λ ts. HasTree ts u) (one_list source q.tokens p.tokens q.read p.read) q.parsed in
      let same : ◌≡◌ {A = Result Program ParseFault} (Ok t) (Ok u) = law.one p.tokens (Ok t) (Ok u) p.parsed there in cc

  one_syntax_fault : (ts us : List Spanned) (e f : ParseFault) → IsNoProgram source ts e → IsNoProgram source us f
      → refusal.syntax source ts e ≡ refusal.syntax source us f
  one_syntax_fault ts us e f p q =
      let lists : us ≡ ts = one_list source us ts q.read p.read in
      let there : HasFault ts f = subst (λ x. HasFault x f) lists q.has in
      let same : ◌≡◌ {A = Result Program ParseFault} (Err e) (Err f) = law.one ts (Err e) (Err f) (fault_answer ts e p.has) (fault_answer ts f there) in
      cc

  written_or_fault : (t : Program) (us : List Spanned) (f : ParseFault) → IsWritten source t → IsNoProgram source us f → ⊥
  written_or_fault t us f p q =
      let there : HasFault p.tokens f = subst (λ x. HasFault x f) (one_list source us p.tokens q.read p.read) q.has in
      let same : ◌≡◌ {A = Result Program ParseFault} (Ok t) (Err f) = law.one p.tokens (Ok t) (Err f) p.parsed (fault_answer p.tokens f there) in
      cc

  pub one_rule : (e f : Fault) → BreaksRule source e → BreaksRule source f → e ≡ f
  one_rule e f p q =
      let there : first (checked q.tree).faults ≡ Some e = subst (λ t. first (checked t).faults ≡ Some e) (one_written p.tree q.tree p.written q.written) p.first in
      let both : Some e ≡ Some f = sym there ∙ q.first in
      cc

  pub one_unparsed : (r s : Report) → IsUnparsed source r → IsUnparsed source s → r ≡ s
  one_unparsed r s (by_lexer e p a) (by_lexer f q b) = a ∙ ap refusal.lexical (one_fault source e f p q) ∙ sym b
  one_unparsed r s (by_lexer e p a) (by_parser us f q b) = absurd (never_both source us e q.read p)
  one_unparsed r s (by_parser ts e p a) (by_lexer f q b) = absurd (never_both source ts f p.read q)
  one_unparsed r s (by_parser ts e p a) (by_parser us f q b) = a ∙ one_syntax_fault ts us e f p q ∙ sym b

  pub unparsed_or_written : (r : Report) (tree : Program) → IsUnparsed source r → IsWritten source tree → ⊥
  unparsed_or_written r tree (by_lexer e p a) q = never_both source q.tokens e q.read p
  unparsed_or_written r tree (by_parser ts e p a) q = written_or_fault tree ts e q p

  pub one_refusal : (r s : Report) → IsRefused source r → IsRefused source s → r ≡ s
  one_refusal r s (unparsed p) (unparsed q) = one_unparsed r s p q
  one_refusal r s (unparsed p) (by_checker f q b) = absurd (unparsed_or_written r q.tree p q.written)
  one_refusal r s (by_checker e p a) (unparsed q) = absurd (unparsed_or_written s p.tree q p.written)
  one_refusal r s (by_checker e p a) (by_checker f q b) = a ∙ ap refusal.typing (one_rule e f p q) ∙ sym b

  pub refused_or_comes : (r : Report) (core : Core) → IsRefused source r → ComesTo source core → ⊥
  refused_or_comes r core (unparsed p) q = unparsed_or_written r q.tree p q.written
  refused_or_comes r core (by_checker e p a) q =
      let same : p.tree ≡ q.tree = one_written p.tree q.tree p.written q.written in
      first_none (checked q.tree).faults e q.unbroken (subst (λ t. first (checked t).faults ≡ Some e) same p.first)

  pub one_core : (core other : Core) → ComesTo source core → ComesTo source other → core ≡ other
  one_core core other p q =
      let same : p.tree ≡ q.tree = one_written p.tree q.tree p.written q.written in
      let there : option_map with_streams (checked q.tree).made ≡ Some core = subst (λ t. option_map with_streams (checked t).made ≡ Some core) same p.made in
      let both : Some core ≡ Some other = sym there ∙ q.made in
      cc
