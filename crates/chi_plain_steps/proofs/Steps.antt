-- A label that is taken, by what its instance did.
use Rattle.std.proofs.Common.{◌≡◌, ◌≢◌, ℕ, List, [], ◌∷◌, Option, Some, None, sym, ◌∙◌, ap, subst, refl}
use Rattle.std.specs.Prelude.{IsSomeAnd, IfSome, drop, MatchOption}
use Rattle.std.specs.List.{slice_get}
use Rattle.std.specs.Option.{option_map}
use Rattle.chi_value.specs.declared.value.Value.{Value}
use Rattle.chi_core.specs.declared.fault.FaultKind.{FaultKind}
use Rattle.chi_core.specs.declared.program.Core.{Core}
use Rattle.chi_core.specs.declared.verdict.Verdict.{Verdict}
use Rattle.chi_core.specs.declared.verdict.Verdict.TheVariants as verdict
use Rattle.chi_core.specs.declared.view.View.{View}
use Rattle.chi_core.specs.Answer as answer
use Rattle.chi_core.specs.Answer.{Answer, Gives, Fails, then_do, wanted}
use Rattle.chi_core.specs.Config.{Config, Instance, State, Running, Waiting, Joining, Finished, with_view}
use Rattle.chi_core.specs.Performing.{Change, Goes, Exits, performed}
use Rattle.chi_core.specs.Step.{Outcome, Next, Over, Spent, line_of, name_of, fault_in, after_step, first_done, local_in, local}
use Rattle.chi_core.specs.Terms.{Item, Term}
use Rattle.chi_core_frame.specs.Terms.{first_of}
use Rattle.chi_plain_open.specs.Instances.{rest_of}
use Rattle.chi_plain_steps.specs.Plans.{IsFew, performed_at}
use Rattle.chi_core_frame.specs.declared.stop.Stop.{Stop}
use Rattle.chi_core_frame.specs.declared.stop.Stop.TheVariants as stop
use Rattle.chi_core_frame.specs.Stops.{Stops}
use Rattle.chi_plain_steps.specs.declared.stepping.Went.{Went}
use Rattle.chi_plain_steps.specs.declared.stepping.Went.TheVariants as outcome_went
use Rattle.chi_plain_steps.specs.Takings.{IsRight, HasName, StopsAs, Takes}

-- an instance that runs and has an item left
pub record Acts (core : Core) (config : Config) (p : ℕ) (view : View) : Type 0 where
  pub i : Instance
  pub at : slice_get config.instances p ≡ Some i
  pub running : i.state ≡ Running
  pub item : Item
  pub first : first_of i.term ≡ Some item
  pub is : local core config p (slice_get config.instances p) view ≡ after_step (fault_in (name_of core i.definition) (line_of item)) (performed_at core config p view)

pub acts : (core : Core) (config : Config) (p : ℕ) (view : View) → IsRight (local core config p (slice_get config.instances p) view) → Acts core config p view
acts core config p view right = by_instance (slice_get config.instances p) refl right
  where
    by_term : (i : Instance) → slice_get config.instances p ≡ Some i → i.state ≡ Running → (term : Term) → i.term ≡ term → IsRight (first_done core config p i term view) → Acts core config p view
    by_term i at running [] is h = absurd h
    by_term i at running (item ∷ rest) is h = record {
      i = i;
      at = at;
      running = running;
      item = item;
      first = ap first_of is;
      is = ap (λ o. local core config p o view) at ∙ ap (λ s. local_in core config p i s view) running ∙ ap (λ t. first_done core config p i t view) is
          ∙ ap (λ t. after_step (fault_in (name_of core i.definition) (line_of item)) (performed core config p (record i { term = t }) item view)) (sym (ap (drop 1) is))
          ∙ ap (after_step (fault_in (name_of core i.definition) (line_of item)))
          (sym (ap (λ o. then_do (wanted o view) (λ i now. then_do (wanted (first_of i.term) now) (performed core config p (rest_of i)))) at
          ∙ ap (λ o. then_do (wanted o view) (performed core config p (rest_of i))) (ap first_of is)));
    }

    by_state : (i : Instance) → slice_get config.instances p ≡ Some i → (s : State) → i.state ≡ s → IsRight (local_in core config p i s view) → Acts core config p view
    by_state i at Running running h = by_term i at running i.term refl h
    by_state i at (Waiting offers) running h = absurd h
    by_state i at (Joining numbers) running h = absurd h
    by_state i at Finished running h = absurd h

    by_instance : (o : Option Instance) → slice_get config.instances p ≡ o → IsRight (local core config p o view) → Acts core config p view
    by_instance None at h = absurd h
    by_instance (Some i) at h = by_state i at i.state refl h

pub few_of : (fault : FaultKind → Outcome) (m : Answer Change) → IsRight (after_step fault m) → IsFew m
few_of fault (Gives (Goes config text) view) h = h
few_of fault (Gives (Exits v) view) h = tt
few_of fault (Fails kind) h = tt
few_of fault answer.Spent h = tt
few_of fault answer.Amiss h = h

pub not_amiss : (m : Answer Change) → IsFew m → m ≢ answer.Amiss
not_amiss m few e = subst IsFew e few

module _ (core : Core) (config : Config) (p : ℕ) (view : View) (right : IsRight (local core config p (slice_get config.instances p) view)) where
  pub performs_few : IsFew (performed_at core config p view)
  performs_few = let a = acts core config p view right in few_of _ _ (subst IsRight a.is right)

  pub performs : performed_at core config p view ≢ answer.Amiss
  performs = not_amiss _ performs_few

  pub runs : IsSomeAnd (slice_get config.instances p) (λ i. i.state ≡ Running)
  runs =
      let a = acts core config p view right in
      let P : Option Instance → Type 0 = λ o. IsSomeAnd o (λ i. i.state ≡ Running) in
      subst P (sym a.at) a.running

  pub has_first : IsSomeAnd (slice_get config.instances p) (λ i. first_of i.term ≢ None)
  has_first =
      let a = acts core config p view right in
      let P : Option Instance → Type 0 = λ o. IsSomeAnd o (λ i. first_of i.term ≢ None) in
      subst P (sym a.at) (λ none. absurd (let no : Some a.item ≡ None = sym a.first ∙ none in cc))

  pub goes_on : (new : Config) (text : List ℕ) (now : View) → performed_at core config p view ≡ Gives (Goes new text) now
      → local core config p (slice_get config.instances p) view ≡ Next (with_view now new) text now.left
  goes_on new text now e = let a = acts core config p view right in a.is ∙ ap (after_step _) e

  pub exits : (v : Option Value) (now : View) → performed_at core config p view ≡ Gives (Exits v) now
      → local core config p (slice_get config.instances p) view ≡ Over (verdict.Exit v)
  exits v now e = let a = acts core config p view right in a.is ∙ ap (after_step _) e

  pub spends : performed_at core config p view ≡ answer.Spent → local core config p (slice_get config.instances p) view ≡ Spent
  spends e = let a = acts core config p view right in a.is ∙ ap (after_step _) e

  -- a fault, with the definition and the line of the item
  pub fails : (i : Instance) (line : ℕ) (kind : FaultKind) → slice_get config.instances p ≡ Some i
      → IfSome (slice_get config.instances p) (λ i. option_map line_of (first_of i.term) ≡ Some line) → performed_at core config p view ≡ Fails kind
      → local core config p (slice_get config.instances p) view ≡ fault_in (name_of core i.definition) line kind
  fails i line kind at lined e =
      let a = acts core config p view right in
      let same : a.i ≡ i = let both : Some a.i ≡ Some i = sym a.at ∙ at in cc in
      let P : Option Instance → Type 0 = λ o. IfSome o (λ i. option_map line_of (first_of i.term) ≡ Some line) in
      let here : option_map line_of (first_of a.i.term) ≡ Some line = subst P a.at lined in
      let is : line_of a.item ≡ line = let both : Some (line_of a.item) ≡ Some line = sym (ap (option_map line_of) a.first) ∙ here in cc in
      a.is ∙ ap (after_step _) e ∙ (λ k. fault_in (name_of core (same k).definition) (is k) kind)

-- the name is there
pub named : (name : Option (List ℕ)) (line : ℕ) (kind : FaultKind) → IsRight (fault_in name line kind) → name ≢ None
named name line kind right e = subst (λ (n : Option (List ℕ)). IsRight (fault_in n line kind)) e right

pub faults : (name : Option (List ℕ)) (line : ℕ) (kind : FaultKind) (v : Verdict) → MatchOption name ⊥ (λ n. v ≡ verdict.Fault kind n line) → fault_in name line kind ≡ Over v
faults None line kind v h = absurd h
faults (Some n) line kind v h = ap Over (sym h)

-- an item that isn't done

pub stopped_named : (core : Core) (config : Config) (p : ℕ) (view : View) (i : Instance) (line : ℕ) (why : Stop)
    → IsRight (local core config p (slice_get config.instances p) view) → slice_get config.instances p ≡ Some i
    → IfSome (slice_get config.instances p) (λ i. option_map line_of (first_of i.term) ≡ Some line) → Stops why (performed_at core config p view)
    → HasName why (name_of core i.definition)
stopped_named core config p view i line (stop.Fault kind) right at lined e =
    named _ line kind (subst IsRight (fails core config p view right i line kind at lined e) right)
stopped_named core config p view i line stop.Spent right at lined e = tt
stopped_named core config p view i line stop.NoMemory right at lined e = tt

went_over : (name : Option (List ℕ)) (line : ℕ) (kind : FaultKind) (it : Outcome) (old new : Config) (went : Went) → it ≡ fault_in name line kind
    → MatchOption name ⊥ (λ n. went ≡ outcome_went.Over (verdict.Fault kind n line)) → Takes it old new [] went
went_over None line kind it old new went e m = absurd m
went_over (Some n) line kind it old new went e m = subst (Takes it old new []) (sym m) (e, refl)

pub stopped_takes : (core : Core) (config new : Config) (p : ℕ) (view : View) (i : Instance) (line : ℕ) (why : Stop) (went : Went)
    → IsRight (local core config p (slice_get config.instances p) view) → slice_get config.instances p ≡ Some i
    → IfSome (slice_get config.instances p) (λ i. option_map line_of (first_of i.term) ≡ Some line) → Stops why (performed_at core config p view)
    → (why ≡ stop.Spent → new ≡ config) → StopsAs why (name_of core i.definition) line went
    → Takes (local core config p (slice_get config.instances p) view) config new [] went
stopped_takes core config new p view i line (stop.Fault kind) went right at lined e kept how =
    went_over _ line kind _ config new went (fails core config p view right i line kind at lined e) how
stopped_takes core config new p view i line stop.Spent went right at lined e kept how =
    subst (Takes _ config new []) (sym how) (spends core config p view right e, kept refl, refl)
stopped_takes core config new p view i line stop.NoMemory went right at lined e kept how = absurd how
