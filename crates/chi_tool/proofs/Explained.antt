-- A report of a simulation is told at length in one way.
use Rattle.std.proofs.Common.{◌≡◌, ℕ, ◌<◌, ◌≤◌, ◌-◌, List, [], ◌∷◌, ◌++◌, Some, length, sym, ◌∙◌, ap, subst, refl, arith}
use Rattle.std.specs.Prelude.{zero, suc, Result, Ok, Err, slice_get}
use Rattle.chi_cli.specs.declared.args.ArgFault.{ArgFault}
use Rattle.chi_cli.specs.declared.args.ArgFault.TheVariants as arg
use Rattle.chi_cli.specs.Arguments.{values_of}
use Rattle.chi_core.specs.declared.program.Core.{Core}
use Rattle.chi_core.specs.declared.program.ProcDef.{ProcDef}
use Rattle.chi_core.specs.Beginning.{start}
use Rattle.chi_core_runs.specs.Picked.{IsBeginning}
use Rattle.chi_engine.specs.Courses.{Runs}
use Rattle.chi_explain.specs.Explanations.{explained}
use Rattle.chi_explain.specs.Lexical as lexical_told
use Rattle.chi_explain_arguments.specs.Arguments.{argument_text, kind_text}
use Rattle.chi_explain_counts.specs.Numbers.{told_words}
use Rattle.chi_explain_syntax.specs.Syntax.{IsSyntaxExplanation}
use Rattle.chi_check_types.specs.declared.fault.Fault.{Fault}
use Rattle.chi_grammar.specs.declared.fault.ParseFault.{ParseFault}
use Rattle.chi_lex.specs.declared.lexer.TheConstants.{MOST_BYTES}
use Rattle.chi_lex.proofs.LawLemmas.{one_list, one_fault, never_both}
use Rattle.chi_token.specs.declared.place.Spanned.{Spanned}
use Rattle.chi_tree.specs.declared.definition.Program.{Program}
use Rattle.chi_types.specs.declared.ty.Ty.{Ty, out-Ty}
use Rattle.chi_value.specs.declared.value.Value.{Value}
use Rattle.chi_tool.specs.declared.reading.Refusal.{Refusal}
use Rattle.chi_tool.specs.declared.reading.Refusal.TheVariants as refusal_by
use Rattle.chi_tool.specs.declared.reading.Unparsed.TheVariants as reason
use Rattle.chi_tool.specs.Arguments.{IsMisfitExplained}
use Rattle.chi_tool.specs.Explaining.{IsProgramTold, misfit, ran, IsRefusalTold}
use Rattle.chi_tool.specs.Readings.{IsRefusedAs}
use Rattle.chi_tool.specs.Refusals as refusal
use Rattle.chi_tool.specs.Refusals.{Report, at_length, unfit_arguments}
use Rattle.chi_tool.specs.Report.{unfit, fit, IsReportOfProgram, IsReportOfSource, refused, program, IsExplanation, IsExplained}
use Rattle.chi_tool.specs.Running.{IsRestTold, end_told, run_report}
use Rattle.chi_tool.specs.Settings.{Wanted, MayBeAimedAt, simulates, of_program, settings_with}
use Rattle.chi_tool.specs.Sources.{by_lexer, by_parser, unparsed, by_checker, IsNoProgram, ComesTo}
use Rattle.chi_tool.specs.Syntax.{HasFault}
use Rattle.chi_tool.proofs.LawClauses.{AnswerLaw, CheckLaw, ExplainLaw, RunLaw, ValuesLaw, comes_sound}
use Rattle.chi_tool.proofs.Sources.{fault_answer, one_rule, one_written, unparsed_or_written, refused_or_comes, one_core}

-- the text of a misfit

item_there : {A : Type 0} → (items : List A) (i : ℕ) → i < length items → (item : A) × (slice_get items i ≡ Some item)
item_there [] i below = absurd (omega arith)
item_there (x ∷ xs) zero below = (x, refl)
item_there (x ∷ xs) (suc i) below = item_there xs i (omega arith)

misfit_some : ExplainLaw → (params : List Ty) (texts : List (List ℕ)) (fault : ArgFault) → values_of params texts ≡ Err fault
    → (text : List ℕ) × IsMisfitExplained params texts fault text
misfit_some law params texts arg.Count is = (_, refl)
misfit_some law params texts (arg.Kind k) is =
    let n = law.kind params texts k is in
    let low = n.0 in
    let high = n.1 in
    let there = item_there params (k - 1) (omega arith) in
    (kind_text k (out-Ty there.0), (there.0, there.1, refl))
misfit_some law params texts (arg.Text k) is =
    let n = law.text params texts k is in
    let low = n.0.0 in
    let high = n.0.1 in
    let also = n.1.1 in
    let there = item_there params (k - 1) (omega arith) in
    let given = item_there texts (k - 1) (omega arith) in
    (argument_text k (out-Ty there.0) given.0, (there.0, there.1, given.0, given.1, refl))
misfit_some law params texts arg.NoMemory is = absurd (law.memory params texts is)

misfit_one : (params : List Ty) (texts : List (List ℕ)) (fault : ArgFault) (text other : List ℕ)
    → IsMisfitExplained params texts fault text → IsMisfitExplained params texts fault other → text ≡ other
misfit_one params texts arg.Count text other p q = p ∙ sym q
misfit_one params texts (arg.Kind k) text other p q =
    let there = p.1 in
    let also = q.1 in
    let same : p.0 ≡ q.0 = cc in
    p.2 ∙ ap (λ (t : Ty). kind_text k (out-Ty t)) same ∙ sym q.2
misfit_one params texts (arg.Text k) text other p q =
    let there = p.1 in
    let also = q.1 in
    let same : p.0 ≡ q.0 = cc in
    let given = p.3 in
    let too = q.3 in
    let alike : p.2 ≡ q.2 = cc in
    p.4 ∙ (λ i. argument_text k (out-Ty (same i)) (alike i)) ∙ sym q.4
misfit_one params texts arg.NoMemory text other p q = absurd p

module _ (answers : AnswerLaw) (law : ExplainLaw) (runs : Runs) where
  explanation_some : CheckLaw → ValuesLaw → (file source : List ℕ) → length source ≤ MOST_BYTES → (w : Wanted) → MayBeAimedAt (simulates w)
      → (r : Report) (is : IsReportOfSource runs source (simulates w) r) → (text : List ℕ) × IsExplanation runs file source w r is text
  explanation_some check values_law file source within w bounded r (refused (unparsed (by_lexer fault has is))) = law.lexical_some file source fault has
  explanation_some check values_law file source within w bounded r (refused (unparsed (by_parser tokens fault has is))) = law.syntax_some file source tokens fault (fault_answer tokens fault has.has)
  explanation_some check values_law file source within w bounded r (refused (by_checker fault has is)) = (explained file source fault.place (told_words source has.tree fault.rule fault.place), refl)
  explanation_some check values_law file source within w bounded r (program core comes (unfit wanted fault misfits is)) = misfit_some law misfits.model.params w.texts fault misfits.read
  explanation_some check values_law file source within w bounded r (program core comes (fit values means of)) =
      let begins : IsBeginning core (start core values w.seed w.until) = record {
        model = means.model;
        is = means.is;
        arguments = values;
        fit = values_law core.names.kinds means.model.params w.texts values means.read;
        seed = w.seed;
        until = w.until;
        begins = refl;
      } in
      let rest = law.waits_some core (comes_sound check source core within comes) (start core values w.seed w.until) begins w.pick bounded.1 w.bound bounded.0 source in
      (of.course.log ++ end_told source core rest.0 of.course.ending, (rest.0, rest.1, refl))

  pub explained_some : CheckLaw → ValuesLaw → (file source : List ℕ) → length source ≤ MOST_BYTES → (w : Wanted) → MayBeAimedAt (simulates w)
      → (plain : Report) → IsReportOfSource runs source (simulates w) plain → (r : Report) × IsExplained runs file w source r × (r.status ≡ plain.status)
  explained_some check values_law file source within w bounded plain is =
      let told = explanation_some check values_law file source within w bounded plain is in
      (at_length plain told.0, record { plain = plain; is = is; text = told.0; explains = told.1; told = refl }, refl)

  module _ (runs_one : RunLaw runs) (file source : List ℕ) (w : Wanted) where
    syntax_one : (r s : Report) (ts us : List Spanned) (e f : ParseFault) → IsNoProgram source ts e → IsNoProgram source us f → (text other : List ℕ)
        → IsSyntaxExplanation file source ts e text → IsSyntaxExplanation file source us f other → text ≡ other
    syntax_one r s ts us e f p q text other x y =
        let lists : us ≡ ts = one_list source us ts q.read p.read in
        let there : HasFault ts f = subst (λ z. HasFault z f) lists q.has in
        let both : ◌≡◌ {A = Result Program ParseFault} (Err e) (Err f) = answers.one ts (Err e) (Err f) (fault_answer ts e p.has) (fault_answer ts f there) in
        let faults : f ≡ e = cc in
        law.syntax_one file source ts e text other x
        (subst (λ g. IsSyntaxExplanation file source ts g other) faults (subst (λ z. IsSyntaxExplanation file source z f other) lists y))

    program_one : (core : Core) (p q : ComesTo source core) (r s : Report) (a : IsReportOfProgram runs core (simulates w) r) (b : IsReportOfProgram runs core (simulates w) s)
        → (text other : List ℕ) → IsExplanation runs file source w r (program core p a) text → IsExplanation runs file source w s (program core q b) other → text ≡ other
    program_one core p q r s (unfit wanted fault m e) (unfit counted another n f) text other x y =
        let same : m.model ≡ n.model = cc (m.is, n.is) in
        let there : values_of n.model.params w.texts ≡ Err fault = subst (λ (d : ProcDef). values_of d.params w.texts ≡ Err fault) same m.read in
        let both : ◌≡◌ {A = Result (List Value) ArgFault} (Err fault) (Err another) = sym there ∙ n.read in
        let faults : another ≡ fault = cc in
        misfit_one n.model.params w.texts fault text other (subst (λ (d : ProcDef). IsMisfitExplained d.params w.texts fault text) same x)
        (subst (λ g. IsMisfitExplained n.model.params w.texts g other) faults y)
    program_one core p q r s (unfit wanted fault m e) (fit values n of) text other x y =
        let same : m.model ≡ n.model = cc (m.is, n.is) in
        let there : values_of n.model.params w.texts ≡ Err fault = subst (λ (d : ProcDef). values_of d.params w.texts ≡ Err fault) same m.read in
        let both : ◌≡◌ {A = Result (List Value) ArgFault} (Err fault) (Ok values) = sym there ∙ n.read in
        absurd (cc)
    program_one core p q r s (fit values m of) (unfit wanted fault n e) text other x y =
        let same : m.model ≡ n.model = cc (m.is, n.is) in
        let there : values_of n.model.params w.texts ≡ Ok values = subst (λ (d : ProcDef). values_of d.params w.texts ≡ Ok values) same m.read in
        let both : ◌≡◌ {A = Result (List Value) ArgFault} (Ok values) (Err fault) = sym there ∙ n.read in
        absurd (cc)
    program_one core p q r s (fit values m of) (fit given n also) text other x y =
        let same : m.model ≡ n.model = cc (m.is, n.is) in
        let there : values_of n.model.params w.texts ≡ Ok values = subst (λ (d : ProcDef). values_of d.params w.texts ≡ Ok values) same m.read in
        let both : ◌≡◌ {A = Result (List Value) ArgFault} (Ok values) (Ok given) = sym there ∙ n.read in
        let alike : given ≡ values = cc in
        let run : runs core (settings_with w values) also.course = subst (λ (vs : List Value). runs core (settings_with w vs) also.course) alike also.run in
        let courses : of.course ≡ also.course = runs_one.one (of_program (simulates w)) core (settings_with w values) of.course also.course of.run run in
        let rests : x.0 ≡ y.0 =
        law.waits_one core source (start core values w.seed w.until) w.pick w.bound x.0 y.0 x.1
        (subst (λ (vs : List Value). IsRestTold core source (settings_with w vs) y.0) alike y.1) in
        x.2 ∙ (λ i. (courses i).log ++ end_told source core (rests i) (courses i).ending) ∙ sym y.2

    explanation_one : (r s : Report) (a : IsReportOfSource runs source (simulates w) r) (b : IsReportOfSource runs source (simulates w) s) → (text other : List ℕ)
        → IsExplanation runs file source w r a text → IsExplanation runs file source w s b other → text ≡ other
    explanation_one r s (refused (unparsed (by_lexer e p i))) (refused (unparsed (by_lexer f q j))) text other x y =
        law.lexical_one file source f text other (subst (λ g. lexical_told.IsExplanation file source g text) (one_fault source e f p q) x) y
    explanation_one r s (refused (unparsed (by_lexer e p i))) (refused (unparsed (by_parser us f q j))) text other x y = absurd (never_both source us e q.read p)
    explanation_one r s (refused (unparsed (by_parser ts e p i))) (refused (unparsed (by_lexer f q j))) text other x y = absurd (never_both source ts f p.read q)
    explanation_one r s (refused (unparsed (by_parser ts e p i))) (refused (unparsed (by_parser us f q j))) text other x y = syntax_one r s ts us e f p q text other x y
    explanation_one r s (refused (unparsed p)) (refused (by_checker f q j)) text other x y = absurd (unparsed_or_written answers source r q.tree p q.written)
    explanation_one r s (refused (by_checker e p i)) (refused (unparsed q)) text other x y = absurd (unparsed_or_written answers source s p.tree q p.written)
    explanation_one r s (refused (by_checker e p i)) (refused (by_checker f q j)) text other x y =
        let faults : e ≡ f = one_rule answers source e f p q in
        let trees : p.tree ≡ q.tree = one_written answers source p.tree q.tree p.written q.written in
        x ∙ (λ i. explained file source (faults i).place (told_words source (trees i) (faults i).rule (faults i).place)) ∙ sym y
    explanation_one r s (refused p) (program core q b) text other x y = absurd (refused_or_comes answers source r core p q)
    explanation_one r s (program core p a) (refused q) text other x y = absurd (refused_or_comes answers source s core q p)
    explanation_one r s (program core p a) (program another q b) text other x y =
        subst (λ (c : Core). (q' : ComesTo source c) (b' : IsReportOfProgram runs c (simulates w) s)
        → IsExplanation runs file source w s (program c q' b') other → text ≡ other) (one_core answers source core another p q)
        (λ q' b' y'. program_one core p q' r s a b' text other x y') q b y

    pub explained_one : ((t u : Report) → IsReportOfSource runs source (simulates w) t → IsReportOfSource runs source (simulates w) u → t ≡ u)
        → (r s : Report) → IsExplained runs file w source r → IsExplained runs file w source s → r ≡ s
    explained_one one r s p q =
        let plains : p.plain ≡ q.plain = one p.plain q.plain p.is q.is in
        let texts : p.text ≡ q.text = explanation_one p.plain q.plain p.is q.is p.text q.text p.explains q.explains in
        p.told ∙ (λ i. at_length (plains i) (texts i)) ∙ sym q.told

-- what is told at length is that of the plain report

pub refusal_explained : (runs : Runs) (file source : List ℕ) (w : Wanted) (it : Refusal) → IsRefusedAs source it → (r : Report) → IsRefusalTold file source it r
    → IsExplained runs file w source r
refusal_explained runs file source w (refusal_by.Unparsed (reason.Lexical fault)) has r told =
    record { plain = refusal.lexical fault; is = refused (unparsed (by_lexer fault has refl)); text = told.0; explains = told.1; told = told.2 }
refusal_explained runs file source w (refusal_by.Unparsed (reason.Syntax tokens fault)) has r told = record {
  plain = refusal.syntax source tokens.items fault;
  is = refused (unparsed (by_parser tokens.items fault has refl));
  text = told.0;
  explains = told.1;
  told = told.2;
}
refusal_explained runs file source w (refusal_by.Broken rule place tree) has r told =
    let broken : Fault = record { rule = rule; place = place } in
    let says : Program → List ℕ = λ t. explained file source place (told_words source t rule place) in
    record {
      plain = refusal.typing broken;
      is = refused (by_checker broken has.0 refl);
      text = told.0;
      explains = told.1 ∙ ap says (sym has.1);
      told = told.2;
    }

pub program_explained : (runs : Runs) (file source : List ℕ) (w : Wanted) (core : Core) → ComesTo source core → (r : Report) → IsProgramTold runs source core w r
    → IsExplained runs file w source r
program_explained runs file source w core comes r (misfit wanted fault told) = record {
  plain = unfit_arguments wanted (length w.texts) fault;
  is = program core comes (unfit wanted fault told.0 refl);
  text = told.1;
  explains = told.2;
  told = told.3;
}
program_explained runs file source w core comes r (ran values means course run rest waits told) = record {
  plain = run_report core course;
  is = program core comes (fit values means (record { course = course; run = run; is = refl }));
  text = course.log ++ end_told source core rest course.ending;
  explains = (rest, waits, refl);
  told = told;
}
