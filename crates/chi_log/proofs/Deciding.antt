-- Each text is a log of the program, or has a first wrong line.
use Rattle.std.proofs.Common.{◌≡◌, ◌≢◌, ℕ, zero, suc, ◌+◌, ◌<◌, ◌≤◌, Bool, true, false, cond, List, [], ◌∷◌, ◌++◌, Option, Some, None, length, bytes_eq, ◌⊎◌, inl, inr, append-nil, append_assoc, length-append, sym, ◌∙◌, ap, subst, refl, arith}
use Rattle.std.specs.Prelude.{find}
use Rattle.std.specs.List.{slice_get, Contains}
use Rattle.std.proofs.lemmas.Slice.Eq.{bytes_eq-Decides}
use Rattle.chi_core.specs.declared.label.Label.{Label}
use Rattle.chi_core.specs.declared.program.Core.{Core}
use Rattle.chi_core.specs.declared.verdict.Verdict.TheVariants.{OutOfSteps}
use Rattle.chi_core.specs.Beginning as beginning
use Rattle.chi_core.specs.Beginning.{Beginning, Begins, Breaks}
use Rattle.chi_core.specs.Config.{Config}
use Rattle.chi_core.specs.Kinded.{Kinded}
use Rattle.chi_core.specs.Options.{Ending, enabled, ending, ending_at, ending_of}
use Rattle.chi_core.specs.Picks.{is_spent, numbers_of}
use Rattle.chi_core.specs.Runs.{Told}
use Rattle.chi_core.specs.Step as outcome
use Rattle.chi_core.specs.Step.{Outcome, Next, Over, step}
use Rattle.chi_core_kinds.specs.Keeps.{BeginsAlways, BeginsKinded, GoesKinded}
use Rattle.chi_core_runs.proofs.Lists.{at-contains, contains-at}
use Rattle.chi_core_runs.specs.Picked.{IsBeginning}
use Rattle.chi_trace.specs.declared.event.Event.{Event}
use Rattle.chi_trace.specs.Lines.{event_line}
use Rattle.chi_trace_events.specs.Traces.{event_at}
use Rattle.chi_log.specs.Allowed.{ending_line, first_lines, IsAllowed, IsLogOf}
use Rattle.chi_log.specs.Laws.{IsRefused}
use Rattle.chi_log.specs.Reading.{At, End, IsLineOf, IsSoundAt, LeadsTo, MayEnd, NoEnding, NoLabel, Place, Read, ReadSoFar, Stands, Tells, has_line, has_line_at, read_first, read_more}
use Rattle.chi_log.proofs.Lines.{alone, first_is_front, first_is_line, lines_are_few}
use Rattle.chi_log.proofs.Places.{Laws}
use Rattle.chi_log.proofs.Begun.{first_is, first_text, reading_begins}
use Rattle.chi_log.proofs.Refused.{after_end, first_line_wrong, label_too_dear, next_line_wrong, no_line_more}
use Rattle.chi_log.proofs.Texts.{reading_ends, reading_goes_on}

-- what a search finds

pub found_passes : {A : Type 0} (test : A → Bool) (xs : List A) (x : A) → find test xs ≡ Some x → (test x ≡ true) × Contains xs x
found_passes test [] x e = absurd (cc)
found_passes {A} test (z ∷ zs) x e = by (test z) refl (found_passes test zs x) e
  where
    by : (b : Bool) → test z ≡ b → (find test zs ≡ Some x → (test x ≡ true) × Contains zs x) → cond b (Some z) (find test zs) ≡ Some x
        → (test x ≡ true) × Contains (z ∷ zs) x
    by true is later e' = let same : z ≡ x = cc in (ap test (sym same) ∙ is, contains-at (z ∷ zs) 0 x (ap Some same))
    by false is later e' =
        let r = later e' in (r.0, contains-at (z ∷ zs) (suc r.1.0) x (at-contains zs x r.1))

none_at : {A : Type 0} (test : A → Bool) (xs : List A) (k : ℕ) (x : A) → find test xs ≡ None → slice_get xs k ≡ Some x → test x ≡ false
none_at test [] k x e at = absurd (cc)
none_at {A} test (z ∷ zs) k x e at = by (test z) refl e (λ j g h. none_at test zs j x g h) k at
  where
    by : (b : Bool) → test z ≡ b → cond b (Some z) (find test zs) ≡ None → ((j : ℕ) → find test zs ≡ None → slice_get zs j ≡ Some x → test x ≡ false)
        → (j : ℕ) → slice_get (z ∷ zs) j ≡ Some x → test x ≡ false
    by true is e' later j g = absurd (cc)
    by false is e' later zero g = let same : z ≡ x = cc in ap test (sym same) ∙ is
    by false is e' later (suc j) g = later j e' g

pub none_passes : {A : Type 0} (test : A → Bool) (xs : List A) (x : A) → find test xs ≡ None → Contains xs x → test x ≡ false
none_passes test xs x e c = none_at test xs c.0 x e (at-contains xs x c)

-- the label that a line tells

pub line_told : (core : Core) (turn : ℕ) (config : Config) (label : Label) (line : List ℕ) → has_line_at core turn config line label ≡ true → IsLineOf core turn config label line
line_told core turn config label line e = by (event_at core turn config label) refl e
  where
    by : (o : Option Event) → event_at core turn config label ≡ o → has_line line o ≡ true → IsLineOf core turn config label line
    by None told e' = absurd (cc)
    by (Some event) told e' = record { event = event; told = told; is = (bytes_eq-Decides (event_line event) line).0 e' }

pub line_has : (core : Core) (turn : ℕ) (config : Config) (label : Label) (line : List ℕ) → IsLineOf core turn config label line → has_line_at core turn config line label ≡ true
line_has core turn config label line l = ap (has_line line) l.told ∙ (bytes_eq-Decides (event_line l.event) line).1 l.is

-- what a line says at a place: the label that is taken; or one that costs too much; or how the run ends; or nothing
data Says (core : Core) (place : Place) (line : List ℕ) : Type 0 where
  a_label : (turn : ℕ) (config : Config) (left : ℕ) → place ≡ At turn config left → (label : Label) (output : List ℕ) (next : Place)
      → Tells core turn config left line label output next → Says core place line
  too_dear : (turn : ℕ) (config : Config) (left : ℕ) → place ≡ At turn config left → (label : Label) → Contains (enabled config) label
      → IsLineOf core turn config label line → step core config label left ≡ outcome.Spent → Says core place line
  an_end : (end : Ending) → MayEnd core place end → ending_line core end ≡ line → Says core place line
  wrong : NoLabel core place line → NoEnding core place line → Says core place line

pub spent_is : (o : Outcome) → is_spent o ≡ true → o ≡ outcome.Spent
spent_is (Next config text left) e = absurd (cc)
spent_is (Over verdict) e = absurd (cc)
spent_is outcome.Spent e = refl
spent_is outcome.Amiss e = absurd (cc)

module _ (core : Core) (laws : Laws core) (turn : ℕ) (config : Config) (left : ℕ) (kinded : Kinded core config) (line : List ℕ) where
  -- a label has the line
  of_label : (label : Label) → Contains (enabled config) label → IsLineOf core turn config label line → Says core (At turn config left) line
  of_label label may l = by (step core config label left) refl (laws.keeps config kinded label may left)
    where
      by : (o : Outcome) → step core config label left ≡ o → GoesKinded core (step core config label left) → Says core (At turn config left) line
      by (Next new text rest) is good =
          a_label turn config left refl label text (At (suc turn) new rest)
          (record { may = may; line_of = l; leads = subst (λ (o : Outcome). LeadsTo turn config o text (At (suc turn) new rest)) (sym is) (refl, refl) })
      by (Over verdict) is good =
          a_label turn config left refl label [] (End (ending_at verdict config))
          (record { may = may; line_of = l; leads = subst (λ (o : Outcome). LeadsTo turn config o [] (End (ending_at verdict config))) (sym is) (refl, refl) })
      by outcome.Spent is good = too_dear turn config left refl label may l is
      by outcome.Amiss is good = absurd (subst (GoesKinded core) is good)

  -- none has it
  module _ (no_label : NoLabel core (At turn config left) line) where
    -- the run rests there
    at_rest : (end : Ending) → ending config ≡ Some end → (b : Bool) → bytes_eq (ending_line core end) line ≡ b → Says core (At turn config left) line
    at_rest end rests true same = an_end end (inl rests) ((bytes_eq-Decides (ending_line core end) line).0 same)
    at_rest end rests false other = wrong no_label no_end
      where
        none : (ls : List Label) → ending_of ls config ≡ Some end → (label : Label) → Contains ls label → ⊥
        none [] e label c = let h : c.0 < 0 = c.1 in omega arith
        none (l ∷ ls) e label c = absurd (cc)

        no_end : NoEnding core (At turn config left) line
        no_end one (inl e) l =
            let same : one ≡ end = let both : Some one ≡ Some end = sym e ∙ rests in cc in
            let yes : bytes_eq (ending_line core end) line ≡ true = (bytes_eq-Decides (ending_line core end) line).1 (ap (ending_line core) (sym same) ∙ l) in
            absurd (let both : true ≡ false = sym yes ∙ other in cc)
        no_end one (inr cut) l = none (enabled config) rests cut.label cut.may_come

    -- the run goes on there, or is cut off
    goes_on : ending config ≡ None → (o : Option Label) → find (λ l. is_spent (step core config l left)) (enabled config) ≡ o
        → (b : Bool) → bytes_eq (ending_line core (ending_at OutOfSteps config)) line ≡ b → Says core (At turn config left) line
    goes_on on (Some label) found true same =
        let p = found_passes (λ l. is_spent (step core config l left)) (enabled config) label found in
        an_end (ending_at OutOfSteps config)
        (inr (record { label = label; may_come = p.1; spent = spent_is (step core config label left) p.0; out_of_steps = refl }))
        ((bytes_eq-Decides (ending_line core (ending_at OutOfSteps config)) line).0 same)
    goes_on on None found b is = wrong no_label no_end
      where
        no_end : NoEnding core (At turn config left) line
        no_end one (inl e) l = absurd (let both : Some one ≡ None = sym e ∙ on in cc)
        no_end one (inr cut) l =
            let no : is_spent (step core config cut.label left) ≡ false
            = none_passes (λ l. is_spent (step core config l left)) (enabled config) cut.label found cut.may_come in
            absurd (let both : true ≡ false = sym (ap is_spent cut.spent) ∙ no in cc)
    goes_on on (Some label) found false other = wrong no_label no_end
      where
        no_end : NoEnding core (At turn config left) line
        no_end one (inl e) l = absurd (let both : Some one ≡ None = sym e ∙ on in cc)
        no_end one (inr cut) l =
            let yes : bytes_eq (ending_line core (ending_at OutOfSteps config)) line ≡ true
            = (bytes_eq-Decides (ending_line core (ending_at OutOfSteps config)) line).1 (ap (ending_line core) (sym cut.out_of_steps) ∙ l) in
            absurd (let both : true ≡ false = sym yes ∙ other in cc)

    no_label_says : (o : Option Ending) → ending config ≡ o → Says core (At turn config left) line
    no_label_says (Some end) rests = at_rest end rests (bytes_eq (ending_line core end) line) refl
    no_label_says None on =
        goes_on on (find (λ l. is_spent (step core config l left)) (enabled config)) refl (bytes_eq (ending_line core (ending_at OutOfSteps config)) line) refl

  says_at : (o : Option Label) → find (has_line_at core turn config line) (enabled config) ≡ o → Says core (At turn config left) line
  says_at (Some label) found =
      let p = found_passes (has_line_at core turn config line) (enabled config) label found in
      of_label label p.1 (line_told core turn config label line p.0)
  says_at None found = no_label_says none (ending config) refl
    where
      none : NoLabel core (At turn config left) line
      none label may l =
          let no : has_line_at core turn config line label ≡ false = none_passes (has_line_at core turn config line) (enabled config) label found may in
          absurd (let both : true ≡ false = sym (line_has core turn config label line l) ∙ no in cc)

says : (core : Core) → Laws core → (place : Place) → IsSoundAt core place → (line : List ℕ) → Says core place line
says core laws (At turn config left) kinded line = says_at core laws turn config left kinded line (find (has_line_at core turn config line) (enabled config)) refl
says core laws (End end) sound line = by (bytes_eq (ending_line core end) line) refl
  where
    by : (b : Bool) → bytes_eq (ending_line core end) line ≡ b → Says core (End end) line
    by true same = an_end end refl ((bytes_eq-Decides (ending_line core end) line).0 same)
    by false other = wrong tt no_end
      where
        no_end : NoEnding core (End end) line
        no_end one may l =
            let yes : bytes_eq (ending_line core end) line ≡ true = (bytes_eq-Decides (ending_line core end) line).1 (ap (ending_line core) (sym may) ∙ l) in
            absurd (let both : true ≡ false = sym yes ∙ other in cc)

-- a text is a log, or has a first wrong line
abbrev Decided : Core → Beginning → ℕ → List ℕ → Type 0
Decided core begin bound text = IsAllowed core begin bound text ⊎ ((k : ℕ) × IsRefused core begin bound text k)

module _ (core : Core) (laws : Laws core) (begin : Beginning) (bound : ℕ) where
  -- after the line of an ending
  at_end : (r : Read) → ReadSoFar core begin bound r → (end : Ending) → MayEnd core r.place end → (more : List ℕ) → Decided core begin bound (r.front ++ (ending_line core end ++ more))
  at_end r so_far end may [] =
      let told : Told = record { labels = r.labels; ending = end; output = r.output } in
      let l = (reading_ends core begin bound r so_far laws end may told refl).0 in
      inl (told, subst (λ (x : List ℕ). IsLogOf core begin bound told x) (ap (λ x. r.front ++ x) (sym (append-nil (ending_line core end)))) l)
  at_end r so_far end may (c ∷ cs) =
      let some : c ∷ cs ≢ [] = λ e. absurd (cc) in
      inr (suc (suc r.count), after_end core laws begin bound r so_far end may (c ∷ cs) some)

  -- a text that is told so far is decided, where so much of it is left
  abbrev Decides : ℕ → Type 0
  Decides fuel = (r : Read) → ReadSoFar core begin bound r → (rest : List ℕ) → length rest ≤ fuel → Decided core begin bound (r.front ++ rest)

  module _ (fuel : ℕ) (again : Decides fuel) (r : Read) (so_far : ReadSoFar core begin bound r) (rest : List ℕ) (short : length rest ≤ suc fuel) where
    by_says : (line more : List ℕ) → first_lines 1 rest ≡ Some line → rest ≡ line ++ more → Says core r.place line → Decided core begin bound (r.front ++ rest)
    by_says line more is cut (a_label turn config left here label output next t) =
        let some : 1 ≤ length line = lines_are_few 1 line (first_is_line rest line is) in
        let whole : length rest ≡ length line + length more = ap length cut ∙ length-append line more in
        let so_far' = reading_goes_on core begin bound r so_far laws turn config left here line label output next t in
        let d : Decided core begin bound ((r.front ++ line) ++ more)
        = again (read_more r line label output (numbers_of config label) next) so_far' more (omega (arith, short, some, whole)) in
        subst (Decided core begin bound) (append_assoc r.front line more ∙ ap (λ x. r.front ++ x) (sym cut)) d
    by_says line more is cut (too_dear turn config left here label may l spent) =
        inr (suc r.count, label_too_dear core laws begin bound r so_far turn config left here rest line is label may l spent)
    by_says line more is cut (an_end end may same) =
        subst (Decided core begin bound) (ap (λ x. r.front ++ (x ++ more)) same ∙ ap (λ x. r.front ++ x) (sym cut)) (at_end r so_far end may more)
    by_says line more is cut (wrong no_label no_ending) =
        inr (suc r.count, next_line_wrong core laws begin bound r so_far rest line is no_label no_ending)

    by_line : (o : Option (List ℕ)) → first_lines 1 rest ≡ o → Decided core begin bound (r.front ++ rest)
    by_line None none = inr (suc r.count, no_line_more core laws begin bound r so_far rest none)
    by_line (Some line) is =
        let c = first_is_front 1 rest line is in
        by_says line c.0 is c.1 (says core laws r.place so_far.sound line)

  decide : (fuel : ℕ) → Decides fuel
  decide zero r so_far [] short = inr (suc r.count, no_line_more core laws begin bound r so_far [] refl)
  decide zero r so_far (c ∷ cs) short = absurd (omega arith)
  decide (suc fuel) r so_far rest short = by_line fuel (decide fuel) r so_far rest short (first_lines 1 rest) refl

  -- from the first line on
  after_first : (place : Place) → ReadSoFar core begin bound (read_first place) → (text : List ℕ) → Decided core begin bound text
  after_first place so_far text = by_first (first_lines 1 text) refl
    where
      other : ((line : List ℕ) → first_lines 1 text ≡ Some line → line ≢ first_text) → Decided core begin bound text
      other none =
          inr (
            1,
            first_line_wrong core begin bound text (λ rest e.
                none first_text (ap (first_lines 1) e ∙ alone first_text rest first_is) refl),
          )

      by_same : (line : List ℕ) → first_lines 1 text ≡ Some line → (b : Bool) → bytes_eq line first_text ≡ b → Decided core begin bound text
      by_same line is true same =
          let c = first_is_front 1 text line is in
          let d : Decided core begin bound (first_text ++ c.0) = decide (length c.0) (read_first place) so_far c.0 (omega arith) in
          subst (Decided core begin bound) (ap (λ x. x ++ c.0) (sym ((bytes_eq-Decides line first_text).0 same)) ∙ sym c.1) d
      by_same line is false apart =
          other (λ l e f.
          let one : l ≡ line = let both : Some l ≡ Some line = sym e ∙ is in cc in
          let yes : bytes_eq line first_text ≡ true = (bytes_eq-Decides line first_text).1 (sym one ∙ f) in
          absurd (let both : true ≡ false = sym yes ∙ apart in cc))

      by_first : (o : Option (List ℕ)) → first_lines 1 text ≡ o → Decided core begin bound text
      by_first None none = other (λ l e f. absurd (let both : None ≡ Some l = sym none ∙ e in cc))
      by_first (Some line) is = by_same line is (bytes_eq line first_text) refl

pub decided : (core : Core) → Laws core → BeginsAlways core → (begin : Beginning) → IsBeginning core begin → (bound : ℕ) (text : List ℕ)
    → IsAllowed core begin bound text ⊎ ((k : ℕ) × IsRefused core begin bound text k)
decided core laws begins begin is bound text =
    by begin refl (subst (λ (b : Beginning). BeginsKinded core b) (sym is.begins) (begins is.model is.is is.arguments is.fit is.seed is.until))
  where
    at : (place : Place) → Stands begin bound place → Decided core begin bound text
    at place stands = after_first core laws begin bound place (reading_begins core laws begins begin is bound place stands) text

    by : (b : Beginning) → begin ≡ b → BeginsKinded core b → Decided core begin bound text
    by (Begins config) e good = at (At 0 config bound) (subst (λ (x : Beginning). Stands x bound (At 0 config bound)) (sym e) refl)
    by (Breaks end) e good = at (End end) (subst (λ (x : Beginning). Stands x bound (End end)) (sym e) refl)
    by beginning.Amiss e good = absurd good
