-- A source has one report where it is laid out, and its layout is its own layout.
use Rattle.std.proofs.Common.{◌≡◌, ℕ, ◌<◌, ◌≤◌, List, length, Result, Ok, Err, ◌⊎◌, inl, inr, refl, sym, ◌∙◌, ap, subst, arith}
use Rattle.std.specs.Prelude.{IfOk}
use Rattle.chi_base.specs.declared.no_memory.NoMemory.{NoMemory}
use Rattle.chi_lex.specs.declared.lexer.TheConstants.{MOST_BYTES}
use Rattle.chi_lex.specs.Reading.{Reads}
use Rattle.chi_lex.proofs.LawLemmas.{one_list}
use Rattle.chi_fmt.specs.declared.comment.Comment.{Comment}
use Rattle.chi_fmt.specs.Comments.{comments_of}
use Rattle.chi_fmt.specs.Kept.{kept}
use Rattle.chi_fmt.specs.Laws.{IsOfSource, IsReread}
use Rattle.chi_fmt.specs.Layout.{layout}
use Rattle.chi_fmt.specs.Reread.{AreComments}
use Rattle.chi_fmt_laws.specs.CheckedAlike.{IsAcceptedAs}
use Rattle.chi_token.specs.declared.place.Spanned.{Spanned}
use Rattle.chi_tree.specs.declared.definition.Program.{Program}
use Rattle.chi_tree_laws.specs.Answers.{IsProgram}
use Rattle.chi_tree_laws.specs.UnplacedStatements.{unplaced}
use Rattle.chi_check.specs.Programs.{checked, Answers}
use Rattle.chi_core.specs.declared.program.Core.{Core}
use Rattle.chi_tool.specs.declared.report.Reported.{Reported}
use Rattle.chi_tool.specs.Layouts.{HasLayout}
use Rattle.chi_tool.specs.Refusals as refusal
use Rattle.chi_tool.specs.Refusals.{Report}
use Rattle.chi_tool.specs.Report.{IsReportOfLayout, faulty, laid_out, too_long}
use Rattle.chi_tool.specs.Reported.{report_in}
use Rattle.chi_tool.specs.Sources.{ComesTo, IsWritten}
use Rattle.chi_tool.specs.Syntax.{HasTree}
use Rattle.chi_tool.proofs.LawClauses.{AnswerLaw}
use Rattle.chi_tool.proofs.Sources.{Parses, source_parses, one_written, one_unparsed, unparsed_or_written}

written_some : (source : List ℕ) (tree : Program) → IsWritten source tree → (r : Report) × IsReportOfLayout source r
written_some source tree written = by (layout tree (comments_of source written.tokens)) refl
  where
    by_length : (text : List ℕ) → HasLayout source text → (MOST_BYTES < length text) ⊎ (length text ≤ MOST_BYTES) → (r : Report) × IsReportOfLayout source r
    by_length text has (inl above) = (refusal.layout_too_long, too_long text has above refl)
    by_length text has (inr within) = (refusal.laid_out text, laid_out text has within refl)

    by : (text : List ℕ) → text ≡ layout tree (comments_of source written.tokens) → (r : Report) × IsReportOfLayout source r
    by text is = by_length text (record { tree = tree; written = written; is = is }) (let c : (MOST_BYTES < length text) ⊎ (length text ≤ MOST_BYTES) = grind arith in c)

pub layout_some : AnswerLaw → (source : List ℕ) → (r : Report) × IsReportOfLayout source r
layout_some law source = by (source_parses law source)
  where
    by : Parses source → (r : Report) × IsReportOfLayout source r
    by (inl (r, is)) = (r, faulty is)
    by (inr (tree, written)) = written_some source tree written

module _ (law : AnswerLaw) (source : List ℕ) where
  one_layout : (text other : List ℕ) → HasLayout source text → HasLayout source other → text ≡ other
  one_layout text other p q =
      let trees : p.tree ≡ q.tree = one_written law source p.tree q.tree p.written q.written in
      let lists : p.written.tokens ≡ q.written.tokens = one_list source p.written.tokens q.written.tokens p.written.read q.written.read in
      p.is ∙ (λ i. layout (trees i) (comments_of source (lists i))) ∙ sym q.is

  pub layout_one : (r s : Report) → IsReportOfLayout source r → IsReportOfLayout source s → r ≡ s
  layout_one r s (faulty p) (faulty q) = one_unparsed law source r s p q
  layout_one r s (faulty p) (laid_out other q m b) = absurd (unparsed_or_written law source r q.tree p q.written)
  layout_one r s (faulty p) (too_long other q m b) = absurd (unparsed_or_written law source r q.tree p q.written)
  layout_one r s (laid_out text p l a) (faulty q) = absurd (unparsed_or_written law source s p.tree q p.written)
  layout_one r s (laid_out text p l a) (laid_out other q m b) = a ∙ ap refusal.laid_out (one_layout text other p q) ∙ sym b
  layout_one r s (laid_out text p l a) (too_long other q m b) =
      let low : length other ≤ MOST_BYTES = subst (λ xs. length xs ≤ MOST_BYTES) (one_layout text other p q) l in absurd (omega arith)
  layout_one r s (too_long text p l a) (faulty q) = absurd (unparsed_or_written law source s p.tree q p.written)
  layout_one r s (too_long text p l a) (laid_out other q m b) =
      let low : length text ≤ MOST_BYTES = subst (λ xs. length xs ≤ MOST_BYTES) (one_layout other text q p) m in absurd (omega arith)
  layout_one r s (too_long text p l a) (too_long other q m b) = a ∙ sym b

-- what writing the layout answers where it is too long
pub too_long_told : (source : List ℕ) (tokens : List Spanned) (tree : Program) (comments : List Comment) (result : Result Reported NoMemory)
    → Reads source tokens → HasTree tokens tree → comments ≡ comments_of source tokens → MOST_BYTES < length (layout tree comments)
    → IfOk result (λ r. report_in r ≡ refusal.layout_too_long) → IfOk result (λ r. IsReportOfLayout source (report_in r))
too_long_told source tokens tree comments (Ok r) read parsed same above is =
    too_long (layout tree comments)
    (record { tree = tree; written = record { tokens = tokens; read = read; parsed = parsed }; is = ap (layout tree) same }) above is
too_long_told source tokens tree comments (Err lost) read parsed same above is = tt

-- what the layout of a source is read as

of_source : (source : List ℕ) (tree : Program) → IsWritten source tree → IsOfSource tree
of_source source tree written = record { formed = written.parsed.formed; source = source; tokens = written.tokens; reads = written.read; same = written.parsed.same }

module _ (comments : (source : List ℕ) (tokens : List Spanned) → AreComments (comments_of source tokens))
    (law : (program : Program) (comments : List Comment) → IsOfSource program → AreComments comments → IsReread (layout program comments) program comments) where
  reread : (source text : List ℕ) (has : HasLayout source text) → IsReread text has.tree (comments_of source has.written.tokens)
  reread source text has =
      let cs = comments_of source has.written.tokens in
      subst (λ t. IsReread t has.tree cs) (sym has.is) (law has.tree cs (of_source source has.tree has.written) (comments source has.written.tokens))

  pub laid_out_again : (source text : List ℕ) → HasLayout source text → HasLayout text text
  laid_out_again source text has =
      let r = reread source text has in
      record { tree = r.tree; written = record { tokens = r.tokens; read = r.reads; parsed = r.is }; is = sym r.again }

  pub laid_out_same : AnswerLaw → (source text : List ℕ) (has : HasLayout source text) (tree : Program) → IsWritten text tree → unplaced tree ≡ unplaced (kept has.tree)
  laid_out_same answers source text has tree written =
      let r = reread source text has in
      ap unplaced (one_written answers text tree r.tree written (record { tokens = r.tokens; read = r.reads; parsed = r.is })) ∙ r.same

-- the layout of a source that comes to a core comes to the same, but for its lines
pub laid_out_core : AnswerLaw
    → ((source : List ℕ) (tokens : List Spanned) (tree : Program) (core : Core) → Reads source tokens → IsProgram tokens tree
    → Answers (Ok core) (checked tree) → IsAcceptedAs (layout tree (comments_of source tokens)) core)
    → (source text : List ℕ) → HasLayout source text → (core : Core) → ComesTo source core → IsAcceptedAs text core
laid_out_core answers law source text has core comes =
    let trees : comes.tree ≡ has.tree = one_written answers source comes.tree has.tree comes.written has.written in
    let there : Answers (Ok core) (checked has.tree) = subst (λ (t : Program). Answers (Ok core) (checked t)) trees (comes.unbroken, comes.made) in
    subst (λ (x : List ℕ). IsAcceptedAs x core) (sym has.is) (law source has.written.tokens has.tree core has.written.read has.written.parsed there)
