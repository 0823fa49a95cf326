-- A log that is read to its end, or to its first wrong line.
use Rattle.std.proofs.Common.{◌≡◌, ◌≢◌, ◌⊎◌, inl, inr, ℕ, suc, ◌+◌, ◌≤◌, List, [], ◌∷◌, ◌++◌, Option, Some, None, length, take, append_assoc, append-nil, length-append, sym, ◌∙◌, ap, subst, refl, arith}
use Rattle.std.specs.Prelude.{ℤ, slice_get}
use Rattle.chi_value.specs.declared.value.Value.{Value}
use Rattle.chi_core.specs.declared.program.Core.{Core}
use Rattle.chi_core.specs.declared.program.ProcDef.{ProcDef}
use Rattle.chi_core.specs.Beginning.{Beginning, Begins, Breaks, start}
use Rattle.chi_core.specs.Beginning as beginning
use Rattle.chi_core.specs.Kinds.{kinds_of}
use Rattle.chi_core.specs.Of.{at_start, AreOf}
use Rattle.chi_core.specs.Picks.{numbers_of}
use Rattle.chi_core.specs.Runs.{Told}
use Rattle.chi_core.specs.Sound.{Sound}
use Rattle.chi_core_runs.specs.Picked.{IsBeginning}
use Rattle.chi_log.specs.Allowed.{ending_line, first_lines, IsLogOf}
use Rattle.chi_log.specs.Laws.{IsRefused, LabelTooDear, NextLineWrong, NoLineMore, NothingAfterTheEnd, ReadingBegins, ReadingEnds, ReadingGoesOn}
use Rattle.chi_log.specs.Reading.{Place, At, End, NoEnding, NoLabel, numbers_last, read_first, read_more}
use Rattle.chi_log.proofs.Lines.{first_is_line, lines_are_few}
use Rattle.chi_plain.specs.Stage.{Stage, Begun}
use Rattle.chi_trace.specs.Lines.{first_line}
use Rattle.chi_trace.specs.Logs.{ended}
use Rattle.chi_judge.specs.declared.judged.Judged.{Judged}
use Rattle.chi_judge.specs.declared.judged.Judged.TheVariants as judged
use Rattle.chi_judge.specs.declared.reader.Reader.{Reader}
use Rattle.chi_judge.specs.declared.reader.Told.TheVariants as told
use Rattle.chi_judge.specs.Judging.{IsJudged, IsLogBy}
use Rattle.chi_judge.specs.Reading.{Ends, Grows, IsJudgedSoFar, IsRead, Keeps, ReadTo, StandsAt, TellsAt, TooDearAt}

-- a line is some bytes
line_some : (rest line : List ℕ) → first_lines 1 rest ≡ Some line → 1 ≤ length line
line_some rest line e = lines_are_few 1 line (first_is_line rest line e)

pub line_shorter : (rest line more : List ℕ) → first_lines 1 rest ≡ Some line → rest ≡ line ++ more → length more + 1 ≤ length rest
line_shorter rest line more e cut =
    let some : 1 ≤ length line = line_some rest line e in
    let whole : length rest ≡ length line + length more = ap length cut ∙ length-append line more in
    omega arith

module _ (core : Core) (sound : Sound core) (first : Stage) (bound : ℕ) (lines before : List ℕ) where
  abbrev text : List ℕ
  text = ended first_line ++ lines

  -- the first line was read
  begins_at : ReadingBegins → (reader : Reader) → reader.turn ≡ 0 → reader.left ≡ bound → reader.picks.items ≡ []
      → (begin : Beginning) → IsBeginning core begin → Begun begin reader.runner.stage → ReadTo core begin bound text before reader lines 1 before
  begins_at law reader turn left none (Begins config) is begun = record {
    read = read_first (At 0 config bound);
    so_far = law core sound (Begins config) is bound (At 0 config bound) refl;
    at = subst (λ (s : Stage). StandsAt s reader.turn reader.left (At 0 config bound)) (sym begun) (λ k. At (sym turn k) config (sym left k));
    is = refl;
    counted = refl;
    written = sym (append-nil before);
    picked = none;
  }
  begins_at law reader turn left none (Breaks end) is begun = record {
    read = read_first (End end);
    so_far = law core sound (Breaks end) is bound (End end) refl;
    at = subst (λ (s : Stage). StandsAt s reader.turn reader.left (End end)) (sym begun) refl;
    is = refl;
    counted = refl;
    written = sym (append-nil before);
    picked = none;
  }
  begins_at law reader turn left none beginning.Amiss is begun = absurd begun

  pub begins : ReadingBegins → (reader : Reader) → reader.runner.core ≡ core → reader.runner.stage ≡ first → reader.turn ≡ 0 → reader.left ≡ bound
      → reader.picks.items ≡ [] → Keeps core first bound lines before reader lines 1 before
  begins law reader same at turn left none = record {
    same_core = same;
    early = omega (arith, turn);
    few = omega arith;
    reads = λ begin is begun. begins_at law reader turn left none begin is (subst (λ (s : Stage). Begun begin s) (sym at) begun);
  }

  module _ (old : Reader) (rest : List ℕ) (count : ℕ) (now : List ℕ) (k : Keeps core first bound lines before old rest count now) where
    -- a label more was read
    module _ (law : ReadingGoesOn) (new : Reader) (line more after' : List ℕ) (cut : rest ≡ line ++ more) where
      more_read : (begin : Beginning) → IsBeginning core begin → (r : ReadTo core begin bound text before old rest count now)
          → (place : Place) → r.read.place ≡ place → TellsAt core place line old new now after' → ReadTo core begin bound text before new more (count + 1) after'
      more_read begin is r (At turn config left) here t = record {
        read = read_more r.read line t.label t.output (numbers_of config t.label) t.next;
        so_far = law core sound begin bound r.read r.so_far turn config left here line t.label t.output t.next t.tells;
        at = t.stands;
        is = r.is ∙ ap (λ x. r.read.front ++ x) cut ∙ sym (append_assoc r.read.front line more);
        counted = let e = r.counted in omega (arith, e);
        written = t.written ∙ ap (λ x. x ++ t.output) r.written ∙ append_assoc before r.read.output t.output;
        picked = t.picked ∙ ap (λ x. x ++ numbers_of config t.label) r.picked;
      }
      more_read begin is r (End end) here t = absurd t

      pub goes_on : first_lines 1 rest ≡ Some line → IsRead core line old new now after' told.Label → new.runner.core ≡ old.runner.core → new.turn ≤ old.turn + 1
          → Keeps core first bound lines before new more (count + 1) after'
      goes_on e read same early =
          let shorter : length more + 1 ≤ length rest = line_shorter rest line more e cut in
          let few = k.few in
          let turns = k.early in
          record {
            same_core = same ∙ k.same_core;
            early = omega (arith, early, turns);
            few = omega (arith, shorter, few);
            reads = λ begin is begun.
                let r = k.reads begin is begun in
                more_read begin is r r.read.place refl (read r.read.place r.at);
          }

    module _ (begin : Beginning) (is : IsBeginning core begin) (begun : Begun begin first) where
      its : ReadTo core begin bound text before old rest count now
      its = k.reads begin is begun

      pub grown : (after' : List ℕ) → after' ≡ now → Grows before after'
      grown after' same = (its.read.output, same ∙ its.written)

      refused : (n m : ℕ) (t : List ℕ) → IsRefused core begin bound t n → t ≡ text → n ≡ m → IsRefused core begin bound text m
      refused n m t r same counted =
          subst (λ j. IsRefused core begin bound text j) counted (subst (λ (x : List ℕ). IsRefused core begin bound x n) same r)

      -- there is no line more
      pub none_more : NoLineMore → (number : ℕ) → number ≡ count + 1 → first_lines 1 rest ≡ None → IsJudgedSoFar core begin bound text before now (judged.No number)
      none_more law number counted e =
          let c = its.counted in
          (grown now refl, refused (suc its.read.count) number (its.read.front ++ rest) (law core sound begin bound its.read its.so_far rest e) (sym its.is) (omega (arith, counted, c)))

      module _ (new : Reader) (line more after' : List ℕ) (e : first_lines 1 rest ≡ Some line) (cut : rest ≡ line ++ more) where
        -- the line tells nothing that may come
        wrong_at : NextLineWrong → LabelTooDear → (place : Place) → its.read.place ≡ place → (NoLabel core place line × NoEnding core place line) ⊎ TooDearAt core place line
            → IsRefused core begin bound (its.read.front ++ rest) (suc its.read.count)
        wrong_at next dear place here (inl isnt) =
            next core sound begin bound its.read its.so_far rest line e
            (subst (λ (p : Place). NoLabel core p line) (sym here) isnt.0) (subst (λ (p : Place). NoEnding core p line) (sym here) isnt.1)
        wrong_at next dear (At turn config left) here (inr d) =
            dear core sound begin bound its.read its.so_far turn config left here rest line e d.label d.may d.line_of d.spent
        wrong_at next dear (End end) here (inr d) = absurd d

        pub wrong : NextLineWrong → LabelTooDear → (number : ℕ) → number ≡ count + 1 → IsRead core line old new now after' told.Nothing
            → IsJudgedSoFar core begin bound text before after' (judged.No number)
        wrong next dear number counted read =
            let w = read its.read.place its.at in
            let c = its.counted in
            (grown after' w.1, refused (suc its.read.count) number (its.read.front ++ rest) (wrong_at next dear its.read.place refl w.0) (sym its.is) (omega (arith, counted, c)))

        -- the line tells how the run ends
        ends_all : ReadingEnds → Ends core its.read.place line old new → more ≡ [] → IsLogBy core begin bound text its.read.output new.picks.items
        ends_all law t none =
            let whole : its.read.front ++ ending_line core t.ending ≡ text
            = ap (λ x. its.read.front ++ x) (t.is ∙ sym (append-nil line) ∙ ap (λ x. line ++ x) (sym none) ∙ sym cut) ∙ sym its.is in
            let it : Told = record { labels = its.read.labels; ending = t.ending; output = its.read.output } in
            let l = law core sound begin bound its.read its.so_far t.ending t.may it refl in
            record {
              told = it;
              log_of = subst (λ (x : List ℕ). IsLogOf core begin bound it x) whole l.0;
              output_is = refl;
              picks_are = t.picked ∙ ap (λ x. x ++ numbers_last core its.read.place t.ending) its.picked ∙ sym l.1;
            }

        ends_more : NothingAfterTheEnd → Ends core its.read.place line old new → more ≢ [] → (number : ℕ) → number ≡ count + 2 → IsRefused core begin bound text number
        ends_more law t some number counted =
            let whole : its.read.front ++ (ending_line core t.ending ++ more) ≡ text
            = ap (λ x. its.read.front ++ (x ++ more)) t.is ∙ ap (λ x. its.read.front ++ x) (sym cut) ∙ sym its.is in
            let c = its.counted in
            refused (suc (suc its.read.count)) number _ (law core sound begin bound its.read its.so_far t.ending t.may more some) whole (omega (arith, counted, c))

        pub ends : ReadingEnds → NothingAfterTheEnd → IsRead core line old new now after' told.Ending → (result : Judged)
            → (more ≡ [] → result ≡ judged.Yes new.picks) → (more ≢ [] → result ≡ judged.No (count + 2)) → IsJudgedSoFar core begin bound text before after' result
        ends law nothing read result is_so isnt =
            let t = read its.read.place its.at in
            by_more more refl t.0 t.1
          where
            by_more : (x : List ℕ) → more ≡ x → Ends core its.read.place line old new → after' ≡ now → IsJudgedSoFar core begin bound text before after' result
            by_more [] none t same =
                subst (λ (j : Judged). IsJudgedSoFar core begin bound text before after' j) (sym (is_so none))
                (its.read.output, same ∙ its.written, ends_all law t none)
            by_more (c ∷ cs) some t same =
                let other : more ≢ [] = λ none. absurd (let both : c ∷ cs ≡ [] = sym some ∙ none in cc) in
                subst (λ (j : Judged). IsJudgedSoFar core begin bound text before after' j) (sym (isnt other))
                (grown after' same, ends_more nothing t other (count + 2) refl)

-- what was written is taken back

pub kept_back : (before after' more : List ℕ) → after' ≡ before ++ more → (back : List ℕ) (n : ℕ) → n ≡ length before → back ≡ take n after' → back ≡ before
kept_back before after' more grew back n so e = e ∙ ap (take n) grew ∙ take_front before more n so
  where
    take_front : (front back : List ℕ) (n : ℕ) → n ≡ length front → take n (front ++ back) ≡ front
    take_front [] back n e = ap (λ k. take k back) e
    take_front (x ∷ xs) back n e = ap (λ k. take k (x ∷ xs ++ back)) e ∙ ap (λ l. x ∷ l) (take_front xs back (length xs) refl)

module _ (core : Core) (begin : Beginning) (bound : ℕ) (text before after' back : List ℕ) (n : ℕ) (so : n ≡ length before) (e : back ≡ take n after') where
  pub back_no : (line : ℕ) → IsJudgedSoFar core begin bound text before after' (judged.No line) → IsJudged core begin bound text before back (judged.No line)
  back_no line j = (kept_back before after' j.0.0 j.0.1 back n so e, j.1)

  pub back_none : IsJudgedSoFar core begin bound text before after' judged.NoMemory → IsJudged core begin bound text before back judged.NoMemory
  back_none grew = kept_back before after' grew.0 grew.1 back n so e

-- a run of a sound program begins so
pub begun_is : (core : Core) → Sound core → (args : List Value) (seed : ℕ) (until : Option ℤ)
    → ((d : ProcDef) → slice_get core.procs core.model ≡ Some d → AreOf (at_start core.names.kinds) args (kinds_of d.params)) → IsBeginning core (start core args seed until)
begun_is core sound args seed until fit = record {
  model = sound.model.0;
  is = sound.model.1;
  arguments = args;
  fit = fit sound.model.0 sound.model.1;
  seed = seed;
  until = until;
  begins = refl;
}
