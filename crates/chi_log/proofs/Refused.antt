-- Texts that are refused, and that a text is the log of one run at most.
use Rattle.std.proofs.Common.{◌≡◌, ◌≢◌, ℕ, suc, ◌<◌, ◌≤◌, Bool, true, List, [], ◌∷◌, ◌++◌, Some, None, append_assoc, append-nil, ◌⊎◌, inl, inr, sym, ◌∙◌, ap, subst, refl, arith}
use Rattle.std.specs.List.{Contains}
use Rattle.std.specs.Prelude.{false, if◌then◌else◌}
use Rattle.chi_core.specs.declared.label.Label.{Label}
use Rattle.chi_core.specs.declared.program.Core.{Core}
use Rattle.chi_core.specs.declared.verdict.Verdict.TheVariants.{Completed}
use Rattle.chi_core.specs.Beginning as beginning
use Rattle.chi_core.specs.Beginning.{Beginning, Begins, Breaks, begins_after, constant_fault, constant_value, model_begins, start, with_constant}
use Rattle.chi_core.specs.Config.{Config}
use Rattle.chi_core.specs.Options.{Ending, at_rest, enabled, ending_of, all_finished, stopped_at, ending_at}
use Rattle.chi_core.specs.Meeting.{next_due}
use Rattle.chi_core.specs.Picks.{last_numbers}
use Rattle.chi_core.specs.Runs.{IsAtRest, Told}
use Rattle.chi_core.specs.Step as outcome
use Rattle.chi_core.specs.Step.{Outcome, Next, Over, step}
use Rattle.chi_core_kinds.specs.Keeps.{BeginsAlways, BeginsKinded}
use Rattle.chi_core_runs.specs.Picked.{IsBeginning}
use Rattle.chi_trace.specs.Lines.{first_line}
use Rattle.chi_trace.specs.Logs.{ended}
use Rattle.chi_log.specs.Allowed.{ending_line, first_lines, Fit, IsAllowed, IsFirstWrong, IsLogOf}
use Rattle.chi_log.specs.Laws.{IsRefused}
use Rattle.chi_log.specs.Reading.{At, End, IsLine, IsLineOf, IsSoundAt, LeadsTo, MayEnd, NoEnding, NoLabel, Place, Read, ReadSoFar, Rest, Stands, told_before}
use Rattle.chi_log.proofs.Lines.{alone, fewer_lines, first_is_front, first_is_line, line_after, one_cut, one_line_more}
use Rattle.chi_log.proofs.Places.{Laws, apart, end_is_line}
use Rattle.chi_log.proofs.Going.{NextIs, a_label, an_end, next_is, one_label}
use Rattle.chi_log.proofs.Rests.{line_there, one_rest, some_rest}
use Rattle.chi_log.proofs.Begun.{first_is, first_text, log_begins, reading_begins}
use Rattle.chi_log.proofs.Texts.{reading_ends}

-- a text is refused with its next line

-- Whatever logs begin with k lines, none goes on as the text does.
module _ (core : Core) (begin : Beginning) (bound k : ℕ) (front : List ℕ) (lines : first_lines k front ≡ Some front)
    (some : (log : List ℕ) × IsAllowed core begin bound (front ++ log)) (rest : List ℕ)
    (never : (told : Told) (log : List ℕ) → IsLogOf core begin bound told (front ++ log)
    → (log ≡ rest) ⊎ ((line : List ℕ) × (more : List ℕ) × (first_lines 1 rest ≡ Some line) × (log ≡ line ++ more)) → ⊥) where
  wrong : Fit core begin bound (front ++ rest) (suc k) → ⊥
  wrong f =
      let l = line_after k front rest f.front lines f.here in
      let c = first_is_front (suc k) f.log f.front f.there in
      let whole : f.log ≡ front ++ (l.0 ++ c.0) = c.1 ∙ ap (λ (x : List ℕ). x ++ c.0) l.2 ∙ append_assoc front l.0 c.0 in
      never f.allowed.0 (l.0 ++ c.0) (subst (λ (x : List ℕ). IsLogOf core begin bound f.allowed.0 x) whole f.allowed.1) (inr (l.0, c.0, l.1, refl))

  before : (j : ℕ) → 1 ≤ j → j < suc k → Fit core begin bound (front ++ rest) j
  before j counted less =
      let f = fewer_lines j k front lines (omega arith) in
      record { front = f.0; here = f.1 rest; log = front ++ some.0; allowed = some.1; there = f.1 some.0 }

  pub refused : IsRefused core begin bound (front ++ rest) (suc k)
  refused = record {
    not_allowed = λ a. never a.0 rest a.1 (inl refl);
    first_wrong = record { counted = omega arith; wrong = wrong; before = before };
  }

module _ (core : Core) (laws : Laws core) (begin : Beginning) (bound : ℕ) (r : Read) (so_far : ReadSoFar core begin bound r) where
  some_log : (log : List ℕ) × IsAllowed core begin bound (r.front ++ log)
  some_log =
      let s = some_rest core laws r.place so_far.sound in
      (s.1, (told_before r.labels r.output s.0, (so_far.leads s.0 s.1 s.2).0))

  pub no_line_more : (rest : List ℕ) → first_lines 1 rest ≡ None → IsRefused core begin bound (r.front ++ rest) (suc r.count)
  no_line_more rest none = refused core begin bound r.count r.front so_far.lines some_log rest never
    where
      never : (told : Told) (log : List ℕ) → IsLogOf core begin bound told (r.front ++ log)
          → (log ≡ rest) ⊎ ((line : List ℕ) × (more : List ℕ) × (first_lines 1 rest ≡ Some line) × (log ≡ line ++ more)) → ⊥
      never told log l (inl same) =
          let o = so_far.only told log l in
          let t = line_there core laws r.place so_far.sound o.0 log o.1 in
          let no : None ≡ Some t.0 = sym none ∙ ap (first_lines 1) (sym same) ∙ t.1 in
          cc
      never told log l (inr (line, more, is, same)) = let no : None ≡ Some line = sym none ∙ is in cc

  -- no run goes on with this line
  never_so : (place : Place) → IsSoundAt core place → (line more : List ℕ) → IsLine line → NoLabel core place line → NoEnding core place line → (told : Told)
      → Rest core place told (line ++ more) → ⊥
  never_so (End end) sound line more is no_label no_ending told rest =
      let c = one_cut line (ending_line core end) more [] is sound (rest.1 ∙ sym (append-nil (ending_line core end))) in
      no_ending end refl (sym c.0)
  never_so (At turn config left) kinded line more is no_label no_ending told g = by (next_is core laws turn config left kinded line more is told g)
    where
      spent : (s : Outcome) (output : List ℕ) (next : Place) → s ≡ outcome.Spent → LeadsTo turn config s output next → ⊥
      spent s output next e l = subst (λ (x : Outcome). LeadsTo turn config x output next) e l

      by : NextIs core laws turn config left told line more → ⊥
      by (a_label label next output t rest more' same) = spent (step core config label left) output next (no_label label t.may t.line_of) t.leads
      by (an_end end may line_of none same) = no_ending end may line_of

  pub next_line_wrong : (rest line : List ℕ) → first_lines 1 rest ≡ Some line → NoLabel core r.place line → NoEnding core r.place line
      → IsRefused core begin bound (r.front ++ rest) (suc r.count)
  next_line_wrong rest line is no_label no_ending = refused core begin bound r.count r.front so_far.lines some_log rest never
    where
      none : (told : Told) (log more : List ℕ) → IsLogOf core begin bound told (r.front ++ log) → log ≡ line ++ more → ⊥
      none told log more l same =
          let o = so_far.only told log l in
          never_so r.place so_far.sound line more (first_is_line rest line is) no_label no_ending o.0 (subst (λ (x : List ℕ). Rest core r.place o.0 x) same o.1)

      never : (told : Told) (log : List ℕ) → IsLogOf core begin bound told (r.front ++ log)
          → (log ≡ rest) ⊎ ((line' : List ℕ) × (more : List ℕ) × (first_lines 1 rest ≡ Some line') × (log ≡ line' ++ more)) → ⊥
      never told log l (inl same) = let c = first_is_front 1 rest line is in none told log c.0 l (same ∙ c.1)
      never told log l (inr (line', more, is', same)) =
          let one : line' ≡ line = let both : Some line' ≡ Some line = sym is' ∙ is in cc in
          none told log more l (same ∙ ap (λ (x : List ℕ). x ++ more) one)

  pub label_too_dear : (turn : ℕ) (config : Config) (left : ℕ) → r.place ≡ At turn config left → (rest line : List ℕ) → first_lines 1 rest ≡ Some line
      → (label : Label) → Contains (enabled config) label → IsLineOf core turn config label line → step core config label left ≡ outcome.Spent
      → IsRefused core begin bound (r.front ++ rest) (suc r.count)
  label_too_dear turn config left here rest line is label may l spent =
      next_line_wrong rest line is (subst (λ (p : Place). NoLabel core p line) (sym here) none) (λ end may' same. apart core l.event end (l.is ∙ sym same))
    where
      none : NoLabel core (At turn config left) line
      none other might o =
          let same : label ≡ other = one_label core laws turn config (subst (IsSoundAt core) here so_far.sound) label other may might line l o in
          subst (λ (x : Label). step core config x left ≡ outcome.Spent) same spent

  pub after_end : (end : Ending) → MayEnd core r.place end → (more : List ℕ) → more ≢ []
      → IsRefused core begin bound (r.front ++ (ending_line core end ++ more)) (suc (suc r.count))
  after_end end may more some =
      subst (λ (x : List ℕ). IsRefused core begin bound x (suc (suc r.count))) (append_assoc r.front (ending_line core end) more)
      (refused core begin bound (suc r.count) (r.front ++ ending_line core end) (one_line_more r.count r.front (ending_line core end) so_far.lines own) whole more never)
    where
      own : IsLine (ending_line core end)
      own = end_is_line core laws r.place end so_far.sound may

      ending_told : Told
      ending_told = record { labels = r.labels; ending = end; output = r.output }

      whole : (log : List ℕ) × IsAllowed core begin bound ((r.front ++ ending_line core end) ++ log)
      whole =
          let l = (reading_ends core begin bound r so_far laws end may ending_told refl).0 in
          ([], (ending_told, subst (λ (x : List ℕ). IsLogOf core begin bound ending_told x) (sym (append-nil (r.front ++ ending_line core end))) l))

      -- nothing comes after it
      last : (place : Place) → IsSoundAt core place → MayEnd core place end → (told : Told) (log : List ℕ) → Rest core place told (ending_line core end ++ log) → log ≡ []
      last (End other) sound may' told log rest =
          let is : IsLine (ending_line core end) = own in
          (one_cut (ending_line core end) (ending_line core other) log [] is sound (rest.1 ∙ sym (append-nil (ending_line core other)))).1
      last (At turn config left) kinded may' told log g = by (next_is core laws turn config left kinded (ending_line core end) log own told g)
        where
          by : NextIs core laws turn config left told (ending_line core end) log → log ≡ []
          by (a_label label next output t rest more' same) = absurd (apart core t.line_of.event end t.line_of.is)
          by (an_end other may'' line_of none same) = none

      no_more : (told : Told) (log : List ℕ) → IsLogOf core begin bound told ((r.front ++ ending_line core end) ++ log) → log ≡ []
      no_more told log l =
          let moved = subst (λ (x : List ℕ). IsLogOf core begin bound told x) (append_assoc r.front (ending_line core end) log) l in
          let o = so_far.only told (ending_line core end ++ log) moved in
          last r.place so_far.sound may o.0 log o.1

      no_line_in : (line rest' : List ℕ) → [] ≡ line ++ rest' → first_lines 1 line ≡ Some line → ⊥
      no_line_in [] rest' e l = cc
      no_line_in (c ∷ cs) rest' e l = cc

      never : (told : Told) (log : List ℕ) → IsLogOf core begin bound told ((r.front ++ ending_line core end) ++ log)
          → (log ≡ more) ⊎ ((line : List ℕ) × (more' : List ℕ) × (first_lines 1 more ≡ Some line) × (log ≡ line ++ more')) → ⊥
      never told log l (inl same) = some (sym same ∙ no_more told log l)
      never told log l (inr (line, more', is, same)) = no_line_in line more' (sym (no_more told log l) ∙ same) (first_is_line more line is)

-- a text that doesn't begin as every log does
pub first_line_wrong : (core : Core) (begin : Beginning) (bound : ℕ) (text : List ℕ) → ((rest : List ℕ) → text ≢ ended first_line ++ rest)
    → IsRefused core begin bound text 1
first_line_wrong core begin bound text other = record {
  not_allowed = λ a. let b = log_begins core begin bound a.0 text a.1.logged in other b.0 b.1;
  first_wrong = record { counted = omega arith; wrong = wrong_first; before = λ j counted less. absurd (omega arith) };
}
  where
    wrong_first : Fit core begin bound text 1 → ⊥
    wrong_first f =
        let b = log_begins core begin bound f.allowed.0 f.log f.allowed.1.logged in
        let first : first_lines 1 f.log ≡ Some first_text = ap (first_lines 1) b.1 ∙ alone first_text b.0 first_is in
        let same : f.front ≡ first_text = let both : Some f.front ≡ Some first_text = sym f.there ∙ first in cc in
        let c = first_is_front 1 text f.front f.here in
        other c.0 (c.1 ∙ ap (λ (x : List ℕ). x ++ c.0) same)

-- a run at rest ends with no numbers
pub rests_without : (core : Core) (config : Config) (left : ℕ) (end : Ending) → IsAtRest config end → last_numbers core end.verdict config left ≡ []
rests_without core config left end is = by (enabled config) is
  where
    stops : (due until : _) → last_numbers core (stopped_at config due until).verdict config left ≡ []
    stops None until = refl
    stops (Some t) None = refl
    stops (Some t) (Some u) = refl

    rests : (b : Bool) → last_numbers core (if b then ending_at Completed config else stopped_at config (next_due config) config.until).verdict config left ≡ []
    rests true = refl
    rests false = stops (next_due config) config.until

    by : (ls : List Label) → ending_of ls config ≡ Some end → last_numbers core end.verdict config left ≡ []
    by [] e =
        let same : end ≡ at_rest config = let both : Some end ≡ Some (at_rest config) = sym e in cc in
        ap (λ (x : Ending). last_numbers core x.verdict config left) same ∙ rests (all_finished config)
    by (l ∷ ls) e = absurd (cc)

-- a text is the log of one derivation

pub one_log : (core : Core) → Laws core → BeginsAlways core → (begin : Beginning) → IsBeginning core begin → (bound : ℕ) (told other : Told) (text : List ℕ)
    → IsLogOf core begin bound told text → IsLogOf core begin bound other text → told ≡ other
one_log core laws begins begin is bound told other text l m =
    by begin refl (subst (λ (b : Beginning). BeginsKinded core b) (sym is.begins) (begins is.model is.is is.arguments is.fit is.seed is.until))
  where
    at : (place : Place) → Stands begin bound place → told ≡ other
    at place stands =
        let r = reading_begins core laws begins begin is bound place stands in
        let b = log_begins core begin bound told text l.logged in
        let first = r.only told b.0 (subst (λ (x : List ℕ). IsLogOf core begin bound told x) b.1 l) in
        let second = r.only other b.0 (subst (λ (x : List ℕ). IsLogOf core begin bound other x) b.1 m) in
        first.2 ∙ one_rest core laws place r.sound first.0 second.0 b.0 first.1 second.1 ∙ sym second.2

    by : (b : Beginning) → begin ≡ b → BeginsKinded core b → told ≡ other
    by (Begins config) e good = at (At 0 config bound) (subst (λ (x : Beginning). Stands x bound (At 0 config bound)) (sym e) refl)
    by (Breaks end) e good = at (End end) (subst (λ (x : Beginning). Stands x bound (End end)) (sym e) refl)
    by beginning.Amiss e good = absurd good

pub one_first_wrong : (core : Core) (begin : Beginning) (bound : ℕ) (text : List ℕ) (j k : ℕ) → IsFirstWrong core begin bound text j → IsFirstWrong core begin bound text k → j ≡ k
one_first_wrong core begin bound text j k a b = by (let c : ((j < k) ⊎ (k < j)) ⊎ (j ≡ k) = grind arith in c)
  where
    by : ((j < k) ⊎ (k < j)) ⊎ (j ≡ k) → j ≡ k
    by (inl (inl less)) = absurd (a.wrong (b.before j a.counted less))
    by (inl (inr less)) = absurd (b.wrong (a.before k b.counted less))
    by (inr same) = same
