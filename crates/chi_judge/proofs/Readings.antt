-- What a line of a log tells.
use Rattle.std.proofs.Common.{◌≡◌, ◌⊎◌, inl, inr, ℕ, suc, ◌+◌, ◌-◌, ◌≤◌, List, [], ◌∷◌, ◌++◌, Some, None, Bool, true, false, append-nil, sym, ◌∙◌, ap, subst, refl, arith}
use Rattle.chi_core.specs.declared.label.Label.{Label}
use Rattle.chi_core.specs.declared.program.Core.{Core}
use Rattle.chi_core.specs.declared.verdict.Verdict.TheVariants.{OutOfSteps}
use Rattle.chi_core.specs.Config.{Config}
use Rattle.chi_core.specs.Options.{Ending, enabled, ending_at}
use Rattle.chi_core.specs.Picks.{is_spent, numbers_of, numbers_of_some}
use Rattle.chi_core.specs.Runs.{IsAtRest, IsCutOff, MayDerive}
use Rattle.chi_core.specs.Step.{Outcome, step}
use Rattle.chi_log.specs.Allowed.{ending_line}
use Rattle.chi_log.specs.Reading.{Place, At, End, LeadsTo, NoEnding, NoLabel}
use Rattle.chi_log.proofs.Deciding.{found_passes, line_has, line_told, spent_is}
use Rattle.chi_log.proofs.Refused.{rests_without}
use Rattle.chi_plain.specs.Stage as stage
use Rattle.chi_plain.specs.Stage.{Stage, Appends, Runner, Steps}
use Rattle.chi_plain.specs.declared.stepped.Stepped.{Stepped}
use Rattle.chi_plain.specs.declared.stepped.Stepped.TheVariants as stepped
use Rattle.chi_judge.specs.declared.places.Found.{Found}
use Rattle.chi_judge.specs.declared.reader.Reader.{Reader}
use Rattle.chi_judge.specs.declared.reader.Told.{Told}
use Rattle.chi_judge.specs.declared.reader.Told.TheVariants as told
use Rattle.chi_judge.specs.Asking.{IsCutBy, IsLabelIn, IsPlaced, IsTheLabel, RestsBy}
use Rattle.chi_judge.specs.Reading.{Ends, EndsBy, IsAt, IsRead, IsReadAt, IsTaken, IsTakenAt, StandsAt}

-- a label is taken

module _ (old new : Reader) (f : Found) (before after' : List ℕ) where
  abbrev TakenBy : Stage → Stage → Stepped → Type 0
  TakenBy s t how = Appends before after' (λ text. Steps old.runner.core s t f.label old.left text how)

  numbers_added : (config : Config) → IsPlaced (stage.At config) f → new.picks.items ≡ old.picks.items ++ f.actor ∷ f.option ∷ []
      → new.picks.items ≡ old.picks.items ++ numbers_of config f.label
  numbers_added config placed picked = picked ∙ ap (λ ns. old.picks.items ++ ns) (sym placed.1)

  -- the label led on
  goes_next : (cost : ℕ) (s t : Stage) → IsPlaced s f → TakenBy s t (stepped.Next cost) → new.runner.stage ≡ t → new.turn ≡ old.turn + 1
      → new.left ≡ old.left - cost → new.picks.items ≡ old.picks.items ++ f.actor ∷ f.option ∷ [] → IsTakenAt s f old new before after' told.Label
  goes_next cost (stage.At config) (stage.At now) placed (text, wrote, (rest, is, costs)) to turns lefts picked =
      let one : suc old.turn ≡ new.turn = omega (arith, turns) in
      let less : rest ≡ new.left = omega (arith, costs, lefts) in
      record {
        output = text;
        next = At (suc old.turn) now rest;
        leads = subst (λ (o : Outcome). LeadsTo old.turn config o text (At (suc old.turn) now rest)) (sym is) (refl, refl);
        stands = subst (λ (u : Stage). StandsAt u new.turn new.left (At (suc old.turn) now rest)) (sym to) (λ k. At (one k) now (less k));
        written = wrote;
        picked = numbers_added config placed picked;
      }
  goes_next cost (stage.At config) (stage.Ended end) placed (text, wrote, isnt) to turns lefts picked = absurd isnt
  goes_next cost (stage.At config) stage.Lost placed (text, wrote, isnt) to turns lefts picked = absurd isnt
  goes_next cost (stage.Ended end) t placed took to turns lefts picked = absurd placed
  goes_next cost stage.Lost t placed took to turns lefts picked = absurd placed

  -- and costs no more than was left
  costs_next : (cost : ℕ) (s t : Stage) → IsPlaced s f → TakenBy s t (stepped.Next cost) → cost ≤ old.left
  costs_next cost (stage.At config) (stage.At now) placed (text, wrote, (rest, is, costs)) = omega (arith, costs)
  costs_next cost (stage.At config) (stage.Ended end) placed (text, wrote, isnt) = absurd isnt
  costs_next cost (stage.At config) stage.Lost placed (text, wrote, isnt) = absurd isnt
  costs_next cost (stage.Ended end) t placed took = absurd placed
  costs_next cost stage.Lost t placed took = absurd placed

  -- it ended the run
  goes_over : (s t : Stage) → IsPlaced s f → TakenBy s t stepped.Over → new.runner.stage ≡ t
      → new.picks.items ≡ old.picks.items ++ f.actor ∷ f.option ∷ [] → IsTakenAt s f old new before after' told.Label
  goes_over (stage.At config) (stage.Ended end) placed (text, wrote, (is, ended, none)) to picked = record {
    output = [];
    next = End end;
    leads = subst (λ (o : Outcome). LeadsTo old.turn config o [] (End end)) (sym is) (refl, ap End ended);
    stands = subst (λ (u : Stage). StandsAt u new.turn new.left (End end)) (sym to) refl;
    written = wrote ∙ ap (λ x. before ++ x) none;
    picked = numbers_added config placed picked;
  }
  goes_over (stage.At config) (stage.At now) placed (text, wrote, isnt) to picked = absurd isnt
  goes_over (stage.At config) stage.Lost placed (text, wrote, isnt) to picked = absurd isnt
  goes_over (stage.Ended end) t placed took to picked = absurd placed
  goes_over stage.Lost t placed took to picked = absurd placed

  -- it costs too much
  goes_spent : (s t : Stage) → IsPlaced s f → TakenBy s t stepped.Spent → IsTakenAt s f old new before after' told.Nothing
  goes_spent (stage.At config) (stage.At now) placed (text, wrote, (is, same, none)) = (is, wrote ∙ ap (λ x. before ++ x) none ∙ append-nil before)
  goes_spent (stage.At config) (stage.Ended end) placed (text, wrote, (is, same, none)) = absurd (cc)
  goes_spent (stage.At config) stage.Lost placed (text, wrote, (is, same, none)) = absurd (cc)
  goes_spent (stage.Ended end) t placed took = absurd placed
  goes_spent stage.Lost t placed took = absurd placed

-- memory was wanting
pub lost_same : (core : Core) (s t : Stage) (label : Label) (left : ℕ) (before after' : List ℕ)
    → Appends before after' (λ text. Steps core s t label left text stepped.NoMemory) → after' ≡ before
lost_same core (stage.At config) (stage.At now) label left before after' (text, wrote, (lost, none)) = wrote ∙ ap (λ x. before ++ x) none ∙ append-nil before
lost_same core (stage.At config) (stage.Ended end) label left before after' (text, wrote, (lost, none)) = wrote ∙ ap (λ x. before ++ x) none ∙ append-nil before
lost_same core (stage.At config) stage.Lost label left before after' (text, wrote, (lost, none)) = wrote ∙ ap (λ x. before ++ x) none ∙ append-nil before
lost_same core (stage.Ended end) t label left before after' (text, wrote, (lost, none)) = wrote ∙ ap (λ x. before ++ x) none ∙ append-nil before
lost_same core stage.Lost t label left before after' (text, wrote, (lost, none)) = wrote ∙ ap (λ x. before ++ x) none ∙ append-nil before

pub take_next : (old new : Reader) (f : Found) (before after' : List ℕ) (cost : ℕ) (t : Stage) → IsPlaced old.runner.stage f
    → Appends before after' (λ text. Steps old.runner.core old.runner.stage t f.label old.left text (stepped.Next cost)) → new.runner.stage ≡ t
    → new.turn ≡ old.turn + 1 → new.left ≡ old.left - cost → new.picks.items ≡ old.picks.items ++ f.actor ∷ f.option ∷ [] → IsTaken f old new before after' told.Label
take_next old new f before after' cost t placed took = goes_next old new f before after' cost old.runner.stage t placed took

pub take_cost : (old : Reader) (f : Found) (before after' : List ℕ) (cost : ℕ) (t : Stage) → IsPlaced old.runner.stage f
    → Appends before after' (λ text. Steps old.runner.core old.runner.stage t f.label old.left text (stepped.Next cost)) → cost ≤ old.left
take_cost old f before after' cost t placed took = costs_next old old f before after' cost old.runner.stage t placed took

pub take_over : (old new : Reader) (f : Found) (before after' : List ℕ) (t : Stage) → IsPlaced old.runner.stage f
    → Appends before after' (λ text. Steps old.runner.core old.runner.stage t f.label old.left text stepped.Over) → new.runner.stage ≡ t
    → new.picks.items ≡ old.picks.items ++ f.actor ∷ f.option ∷ [] → IsTaken f old new before after' told.Label
take_over old new f before after' t placed took = goes_over old new f before after' old.runner.stage t placed took

pub take_spent : (old new : Reader) (f : Found) (before after' : List ℕ) (t : Stage) → IsPlaced old.runner.stage f
    → Appends before after' (λ text. Steps old.runner.core old.runner.stage t f.label old.left text stepped.Spent) → IsTaken f old new before after' told.Nothing
take_spent old new f before after' t placed took = goes_spent old new f before after' old.runner.stage t placed took

-- how the run ends

pub rest_ends : (core : Core) (line : List ℕ) (old : Reader) (rests : Bool) → RestsBy core old.runner.stage line rests → rests ≡ true
    → (place : Place) → IsAt old place → Ends core place line old old
rest_ends core line old rests tells is place at = by old.runner.stage tells at
  where
    by : (s : Stage) → RestsBy core s line rests → StandsAt s old.turn old.left place → Ends core place line old old
    by (stage.At config) t a =
        let r = t.0 is in
        subst (λ (p : Place). Ends core p line old old) (sym a)
        (record {
          ending = r.0;
          may = inl r.1;
          is = r.2;
          picked = sym (append-nil old.picks.items) ∙ ap (λ ns. old.picks.items ++ ns) (sym (rests_without core config old.left r.0 r.1));
        })
    by (stage.Ended end) t a =
        subst (λ (p : Place). Ends core p line old old) (sym a) (record { ending = end; may = refl; is = t.0 is; picked = sym (append-nil old.picks.items) })
    by stage.Lost t a = absurd a

pub cut_ends : (core : Core) (line : List ℕ) (old new : Reader) (f : Found) → IsCutBy core old.runner.stage old.left line (Some f)
    → new.picks.items ≡ old.picks.items ++ f.actor ∷ f.option ∷ [] → (place : Place) → IsAt old place → Ends core place line old new
cut_ends core line old new f cut picked place at = by old.runner.stage cut at
  where
    by : (s : Stage) → IsCutBy core s old.left line (Some f) → StandsAt s old.turn old.left place → Ends core place line old new
    by (stage.At config) (l, (found, placed)) a =
        subst (λ (p : Place). Ends core p line old new) (sym a)
        (record {
          ending = ending_at OutOfSteps config;
          may = inr (record { label = f.label; may_come = placed.0; spent = spent_is (step core config f.label old.left) (found_passes (λ l. is_spent (step core config l old.left)) (enabled config) f.label found).0; out_of_steps = refl });
          is = l;
          picked = picked ∙ ap (λ ns. old.picks.items ++ ns) (sym placed.1) ∙ ap (λ o. old.picks.items ++ numbers_of_some config o) (sym found);
        })
    by (stage.Ended end) c a = absurd (cc)
    by stage.Lost c a = absurd a

pub no_ending : (core : Core) (line : List ℕ) (old : Reader) (rests : Bool) → RestsBy core old.runner.stage line rests → rests ≡ false
    → IsCutBy core old.runner.stage old.left line None → (place : Place) → IsAt old place → NoEnding core place line
no_ending core line old rests tells is cut place at = by old.runner.stage tells cut at
  where
    both : rests ≡ true → ⊥
    both is_so = let isnt : true ≡ false = sym is_so ∙ is in cc

    by : (s : Stage) → RestsBy core s line rests → IsCutBy core s old.left line None → StandsAt s old.turn old.left place → NoEnding core place line
    by (stage.At config) t c a = subst (λ (p : Place). NoEnding core p line) (sym a) (λ end may l. of_may end may l)
      where
        of_may : (end : Ending) → (IsAtRest config end ⊎ IsCutOff (MayDerive old.turn config) core config old.left end) → ending_line core end ≡ line → ⊥
        of_may end (inl rest) l = both (t.1 (end, rest, l))
        of_may end (inr off) l = c off.label off.may_come off.spent (ap (ending_line core) (sym off.out_of_steps) ∙ l)
    by (stage.Ended last) t c a =
        subst (λ (p : Place). NoEnding core p line) (sym a) (λ end may l. both (t.1 (ap (ending_line core) (sym may) ∙ l)))
    by stage.Lost t c a = absurd a

-- a line

pub label_reads : (core : Core) (line : List ℕ) (old new : Reader) (f : Found) (before after' : List ℕ) (how : Told) → old.runner.core ≡ core
    → IsTheLabel old.runner.core old.runner.stage old.turn line (Some f) → IsTaken f old new before after' how → IsRead core line old new before after' how
label_reads core line old new f before after' how same label taken place at =
    subst (λ (c : Core). IsReadAt c place line old new before after' how) same (by old.runner.stage label taken at)
  where
    in_config : (config : Config) → IsLabelIn old.runner.core old.turn config line (Some f) → (what : Told) → IsTakenAt (stage.At config) f old new before after' what
        → IsReadAt old.runner.core (At old.turn config old.left) line old new before after' what
    in_config config l told.Label g = record {
      label = f.label;
      output = g.output;
      next = g.next;
      tells = record { may = l.0.0; line_of = line_told old.runner.core old.turn config f.label line l.1; leads = g.leads };
      stands = g.stands;
      written = g.written;
      picked = g.picked;
    }
    in_config config l told.Ending g = absurd g
    in_config config l told.Nothing g =
        (inr (record { label = f.label; may = l.0.0; line_of = line_told old.runner.core old.turn config f.label line l.1; spent = g.0 }), g.1)

    by : (s : Stage) → IsTheLabel old.runner.core s old.turn line (Some f) → IsTakenAt s f old new before after' how → StandsAt s old.turn old.left place
        → IsReadAt old.runner.core place line old new before after' how
    by (stage.At config) l g a = subst (λ (p : Place). IsReadAt old.runner.core p line old new before after' how) (sym a) (in_config config l how g)
    by (stage.Ended end) l g a = absurd (cc)
    by stage.Lost l g a = absurd a

pub none_reads : (core : Core) (line : List ℕ) (old new : Reader) (before : List ℕ) (how : Told) → old.runner.core ≡ core
    → IsTheLabel old.runner.core old.runner.stage old.turn line None → EndsBy core line old new how → IsRead core line old new before before how
none_reads core line old new before how same label ends place at = by_told how ends
  where
    no_label : (s : Stage) → IsTheLabel core s old.turn line None → StandsAt s old.turn old.left place → NoLabel core place line
    no_label (stage.At config) none a =
        subst (λ (p : Place). NoLabel core p line) (sym a)
        (λ l may line_of. absurd (let both : true ≡ false = sym (line_has core old.turn config l line line_of) ∙ none l may in cc))
    no_label (stage.Ended end) none a = subst (λ (p : Place). NoLabel core p line) (sym a) tt
    no_label stage.Lost none a = absurd a

    by_told : (what : Told) → EndsBy core line old new what → IsReadAt core place line old new before before what
    by_told told.Label e = absurd e
    by_told told.Ending e = (e place at, refl)
    by_told told.Nothing e =
        (inl (no_label old.runner.stage (subst (λ (c : Core). IsTheLabel c old.runner.stage old.turn line None) same label) at, e place at), refl)

pub ruleset taking = (take_next, take_cost, take_over, take_spent, lost_same)

pub ruleset ending_so = (rest_ends, cut_ends, no_ending)

pub ruleset reading_line = (label_reads, none_reads)
