-- Targets: what is read there is of the kind there, and what is stored there fits.
use Rattle.std.proofs.Common.{◌≡◌, ℕ, List, [], ◌∷◌, map, Some, refl, sym, subst}
use Rattle.std.specs.Prelude.{slice_get, IsTrue}
use Rattle.std.specs.Option.{IsSomeAnd}
use Rattle.chi_types.specs.declared.ty.Ty.{Ty, Ty-F, out-Ty}
use Rattle.chi_types.specs.declared.ty.Way.TheVariants as way
use Rattle.chi_value.specs.declared.value.Value.{Value, Value-F}
use Rattle.chi_ops.specs.Store.{Step, by, part, put}
use Rattle.chi_core.specs.declared.expression.CExpr.{CExpr, out-CExpr}
use Rattle.chi_core.specs.declared.scene.Scene.{Scene}
use Rattle.chi_core.specs.declared.target.CStep.{CStep}
use Rattle.chi_core.specs.declared.target.CStep.TheVariants as step
use Rattle.chi_core.specs.declared.target.CTarget.{CTarget}
use Rattle.chi_core.specs.Answer.{wanted, in_turn, through}
use Rattle.chi_core.specs.Containers.{done}
use Rattle.chi_core.specs.Evaluation.{Run, Evaluates, eval}
use Rattle.chi_core.specs.Kinded.{Held}
use Rattle.chi_core.specs.Kinds.{Kind, part_kinds}
use Rattle.chi_core.specs.Of.{World, Wider, IsOf, Of, of_tuple, PartsOf, no_part, one_part, AreOf, none_of, one_of}
use Rattle.chi_core.specs.Reading.{part_of, parts_in}
use Rattle.chi_core.specs.Scopes.{Scope}
use Rattle.chi_core.specs.SetSlots.{Known, also, also_all, whole_or, wholes}
use Rattle.chi_core.specs.SoundExpressions.{HasKind}
use Rattle.chi_core.specs.SoundParts as sound
use Rattle.chi_core.specs.SoundParts.{StepsLead, TargetTakes, TargetsTake, no_target, one_target, ChannelAt}
use Rattle.chi_core.specs.Spots.{Spot, step_at, spot_of, read_step, read_at, store_into, store}
use Rattle.chi_core.specs.Terms.{spread}
use Rattle.chi_core.specs.Variables.{Variables, value_at, with_slot, side_by_side}
use Rattle.chi_core.proofs.Worlds.{wider_still, value_grows}
use Rattle.chi_core_kinds.specs.Laws as path
use Rattle.chi_core_kinds.specs.Laws.{WellOf, PathLeads}
use Rattle.chi_core_kinds.specs.Well.{Same, Well}
use Rattle.chi_core_kinds.proofs.Composing.{well_gives, well_then, well_giving, well_weaker, kept_wider, well_in_turn}
use Rattle.chi_core_kinds.proofs.Expressions.{Provides, Reads, reads_grow, well_some, well_value}
use Rattle.chi_core_kinds.proofs.Operations.{Laws}
use Rattle.chi_core_kinds.proofs.Held.{Within, within_also, within_all, some_map, held_grows, held_less, held_with, held_value}

path_grows : (w v : World) → Wider w v → (steps : List Step) (T U : Kind) → PathLeads w steps T U → PathLeads v steps T U
path_grows w v wider _ _ _ (path.no_step T) = path.no_step T
path_grows w v wider _ _ _ (path.into_list i steps t U is more) = path.into_list i steps t U (value_grows w v wider i Ty-F.Int is) (path_grows w v wider steps (out-Ty t) U more)
path_grows w v wider _ _ _ (path.into_dictionary i steps key has U is more) =
    path.into_dictionary i steps key has U (value_grows w v wider i (out-Ty key) is) (path_grows w v wider steps (out-Ty has) U more)
path_grows w v wider _ _ _ (path.into_tuple number steps parts p U there more) = path.into_tuple number steps parts p U there (path_grows w v wider steps (out-Ty p.1) U more)

parts_are : (w : World) (xs : List Value) (parts : List (List ℕ × Ty)) → PartsOf w xs parts → AreOf w xs (part_kinds parts)
parts_are w _ _ no_part = none_of
parts_are w _ _ (one_part x xs p parts is more) = one_of x xs (out-Ty p.1) (part_kinds parts) is (parts_are w xs parts more)

-- one tuple has a part for each kind
pub spread_parts : (w : World) (parts : List (List ℕ × Ty)) (x : Value-F Value) → Of w x (Ty-F.TupleOf parts) → IsSomeAnd (parts_in x) (λ each. AreOf w each (part_kinds parts))
spread_parts w parts _ (of_tuple xs _ is) = parts_are w xs parts is

module _ (scope : Scope) (known : Known) where
  -- a spot of a target takes values of a kind: a whole slot, or a part of a slot that counts as set
  pub data SpotTakes (w : World) (slot : ℕ) : List CStep → List Step → Kind → Type 0 where
    whole_spot : (T : Kind) → slice_get scope.slots slot ≡ Some T → SpotTakes w slot [] [] T
    spot_within : (s : CStep) (steps : List CStep) (way_in : List Step) (T U : Kind) → IsTrue (known slot) → slice_get scope.slots slot ≡ Some T → PathLeads w way_in T U
        → SpotTakes w slot (s ∷ steps) way_in U

  spot_grows : (w v : World) → Wider w v → (slot : ℕ) (steps : List CStep) (way_in : List Step) (T : Kind) → SpotTakes w slot steps way_in T → SpotTakes v slot steps way_in T
  spot_grows w v wider slot _ _ _ (whole_spot T e) = whole_spot T e
  spot_grows w v wider slot _ _ _ (spot_within s steps way_in T U k e leads) = spot_within s steps way_in T U k e (path_grows w v wider way_in T U leads)

  -- the spot of a target
  pub record IsSpot (w : World) (t : CTarget) (T : Kind) (spot : Spot) : Type 0 where
    pub slot : spot.slot ≡ t.slot
    pub takes : SpotTakes w t.slot t.steps spot.path T

  pub is_spot_grows : (w v : World) → Wider w v → (t : CTarget) (T : Kind) (spot : Spot) → IsSpot w t T spot → IsSpot v t T spot
  is_spot_grows w v wider t T spot h = record { slot = h.slot; takes = spot_grows w v wider t.slot t.steps spot.path T h.takes }

  pub data AreSpots (w : World) : List CTarget → List Kind → List Spot → Type 0 where
    no_spot : AreSpots w [] [] []
    one_spot : (t : CTarget) (ts : List CTarget) (T : Kind) (Ts : List Kind) (spot : Spot) (spots : List Spot) → IsSpot w t T spot → AreSpots w ts Ts spots
        → AreSpots w (t ∷ ts) (T ∷ Ts) (spot ∷ spots)

  pub spots_grow : (w v : World) → Wider w v → (ts : List CTarget) (Ts : List Kind) (spots : List Spot) → AreSpots w ts Ts spots → AreSpots v ts Ts spots
  spots_grow w v wider _ _ _ no_spot = no_spot
  spots_grow w v wider _ _ _ (one_spot t ts T Ts spot spots is more) = one_spot t ts T Ts spot spots (is_spot_grows w v wider t T spot is) (spots_grow w v wider ts Ts spots more)

  -- spots of targets, each with a value that goes there
  pub data StoresFit (w : World) : List CTarget → List (Spot × Value) → Type 0 where
    no_store : StoresFit w [] []
    one_store : (t : CTarget) (ts : List CTarget) (T : Kind) (spot : Spot) (x : Value) (stores : List (Spot × Value)) → IsSpot w t T spot → IsOf w T x → StoresFit w ts stores
        → StoresFit w (t ∷ ts) ((spot, x) ∷ stores)

  stores_grow : (w v : World) → Wider w v → (ts : List CTarget) (stores : List (Spot × Value)) → StoresFit w ts stores → StoresFit v ts stores
  stores_grow w v wider _ _ no_store = no_store
  stores_grow w v wider _ _ (one_store t ts T spot x stores is of_it more) =
      one_store t ts T spot x stores (is_spot_grows w v wider t T spot is) (value_grows w v wider x T of_it) (stores_grow w v wider ts stores more)

  -- as many values as targets

  pub stores_beside : (w : World) (ts : List CTarget) (Ts : List Kind) (spots : List Spot) (xs : List Value) → AreSpots w ts Ts spots → AreOf w xs Ts
      → IsSomeAnd (side_by_side spots xs) (StoresFit w ts)
  stores_beside w _ _ _ _ no_spot none_of = no_store
  stores_beside w _ _ _ _ (one_spot t ts T Ts spot spots is more) (one_of x xs _ _ of_it are) =
      some_map (StoresFit w ts) (StoresFit w (t ∷ ts)) _ (side_by_side spots xs) (stores_beside w ts Ts spots xs more are)
      (λ stores fit. one_store t ts T spot x stores is of_it fit)

  -- they go to the targets as they are
  pub spread_values : (w : World) (ts : List CTarget) (Ts : List Kind) (xs : List Value) → TargetsTake scope known ts Ts → AreOf w xs Ts
      → IsSomeAnd (spread ts xs) (λ each. AreOf w each Ts)
  spread_values w _ _ _ no_target none_of = none_of
  spread_values w _ _ _ (one_target t _ T _ _ no_target) (one_of x _ _ _ of_it none_of) = one_of x [] T [] of_it none_of
  spread_values w _ _ _ (one_target t _ T _ _ (one_target t2 ts U Us _ _)) (one_of x _ _ _ of_it (one_of y xs _ _ of_it2 are)) =
      one_of x (y ∷ xs) T (U ∷ Us) of_it (one_of y xs U Us of_it2 are)

module _ (laws : Laws) (scope : Scope) (known : Known) where
  -- a value of the kind of a spot is stored there; more may count as set by now than when the spot was found
  well_into : (w : World) (now : Known) (variables : Variables) (slot : ℕ) (steps : List CStep) (way_in : List Step) (U : Kind) (x : Value) → Within known now
      → SpotTakes scope known w slot steps way_in U → IsOf w U x → Held w scope now variables → Well w (λ v. Held v scope (also_all (whole_or steps slot []) now)) (store_into slot way_in x variables)
  well_into w now variables slot _ _ _ x within (whole_spot U e) is held =
      well_some w (λ v. Held v scope (also slot now)) (with_slot slot x variables) (held_with w scope now variables slot U x e is held)
  well_into w now variables slot _ _ _ x within (spot_within s steps [] T _ k e (path.no_step _)) is held =
      well_weaker w (λ v. Held v scope (also slot now)) (λ v. Held v scope now) (λ v after. held_less v scope now (also slot now) after (within_also slot now))
      (wanted (with_slot slot x variables)) (well_some w (λ v. Held v scope (also slot now)) (with_slot slot x variables) (held_with w scope now variables slot T x e is held))
  well_into w now variables slot _ _ _ x within (spot_within s steps (i ∷ way_in) T U k e leads) is held =
      well_then w (λ v. IsOf v T) (λ v. Held v scope now) _
      (λ v wider same old is_old. well_then v (λ u. IsOf u T) (λ u. Held u scope now) _
      (λ u wider' same' changed is_changed.
      let wu : Wider w u = wider_still w v u wider wider' in
      well_weaker u (λ z. Held z scope (also slot now)) (λ z. Held z scope now) (λ z after. held_less z scope now (also slot now) after (within_also slot now))
      (wanted (with_slot slot changed variables))
      (well_some u (λ z. Held z scope (also slot now)) (with_slot slot changed variables) (held_with u scope now variables slot T changed e is_changed (held_grows w u wu scope now variables held))))
      (done (put (i ∷ way_in) x old)) (laws.stores v (i ∷ way_in) T U (path_grows w v wider (i ∷ way_in) T U leads) x old (value_grows w v wider x U is) is_old))
      (wanted (value_at variables slot)) (well_some w (λ v. IsOf v T) (value_at variables slot) (held_value w scope now variables slot T held (within slot k) e))

  pub well_store : (w : World) (now : Known) (variables : Variables) (t : CTarget) (T : Kind) (spot : Spot) (x : Value) → Within known now → IsSpot scope known w t T spot → IsOf w T x
      → Held w scope now variables → Well w (λ v. Held v scope (also_all (whole_or t.steps t.slot []) now)) (store (spot, x) variables)
  well_store w now variables t T spot x within is of_it held =
      subst (λ slot. Well w (λ v. Held v scope (also_all (whole_or t.steps t.slot []) now)) (store_into slot spot.path x variables)) (sym is.slot)
      (well_into w now variables t.slot t.steps spot.path T x within is.takes of_it held)

  one_and_more : (steps : List CStep) (slot : ℕ) (slots : List ℕ) (now : Known) → also_all slots (also_all (whole_or steps slot []) now) ≡ also_all (whole_or steps slot slots) now
  one_and_more [] slot slots now = refl
  one_and_more (s ∷ steps) slot slots now = refl

  -- stores in turn
  pub well_stores : (w : World) (now : Known) (variables : Variables) (ts : List CTarget) (stores : List (Spot × Value)) → Within known now → StoresFit scope known w ts stores
      → Held w scope now variables → Well w (λ v. Held v scope (also_all (wholes ts) now)) (through store stores variables)
  well_stores w now variables [] _ within no_store held = well_gives w (λ v. Held v scope now) variables held
  well_stores w now variables (t ∷ ts) _ within (one_store _ _ T spot x stores is of_it more) held =
      let then_known : Known = also_all (whole_or t.steps t.slot []) now in
      well_then w (λ v. Held v scope then_known) (λ v. Held v scope (also_all (wholes (t ∷ ts)) now)) (through store stores)
      (λ v wider same after held'. subst (λ k. Well v (λ u. Held u scope k) (through store stores after)) (one_and_more t.steps t.slot (wholes ts) now)
      (well_stores v then_known after ts stores (λ k kn. within_all (whole_or t.steps t.slot []) now k (within k kn)) (stores_grow scope known w v wider ts stores more) held'))
      (store (spot, x) variables) (well_store w now variables t T spot x within is of_it held)

  module _ (run : Run) (scene : Scene) (provides : Provides scope run scene) (variables : Variables) where
    abbrev value_of : Evaluates
    value_of = eval run scene variables

    abbrev Sees : World → Type 0
    Sees w = Reads w scope known variables

    sees : (w v : World) → Wider w v → Sees w → Sees v
    sees w v wider = reads_grow w v wider scope known variables

    well_expression : (e : CExpr) (T : Kind) → HasKind scope known (out-CExpr e) T → (w : World) → Sees w → WellOf w T (value_of e)
    well_expression = well_value laws scope run scene provides known variables

    more_steps : (w : World) (steps : List CStep) (T U V : Kind) (s : CStep) (first : World → Step → Type 0) → Well w first (step_at value_of s)
        → ((v : World) → Wider w v → Well v (λ u way_in. PathLeads u way_in U V) (in_turn (map (step_at value_of) steps)))
        → ((v : World) (i : Step) (way_in : List Step) → first v i → PathLeads v way_in U V → PathLeads v (i ∷ way_in) T V)
        → ((v u : World) → Wider v u → (i : Step) → first v i → first u i)
        → Well w (λ v way_in. PathLeads v way_in T V) (in_turn (map (step_at value_of) (s ∷ steps)))
    more_steps w steps T U V s first h more join grown =
        well_in_turn w first (λ v way_in. PathLeads v way_in T V) (step_at value_of s) (map (step_at value_of) steps) h
        (λ v wider same i is view fits. kept_wider v (Same v (λ u way_in. PathLeads u way_in U V)) (Same v (λ u way_in. PathLeads u (i ∷ way_in) T V))
        (λ u wider' way_in both. (both.0, join u i way_in (grown v u wider' i is) both.1)) (in_turn (map (step_at value_of) steps) view) (more v wider view fits))

    -- the way into a part
    well_path : (steps : List CStep) (T U : Kind) → StepsLead scope known steps T U → (w : World) → Sees w → Well w (λ v way_in. PathLeads v way_in T U) (in_turn (map (step_at value_of) steps))
    well_path _ _ _ (sound.no_step T) w r = well_gives w (λ v way_in. PathLeads v way_in T T) [] (path.no_step T)
    well_path _ _ _ (sound.into_list e steps t U h more) w r =
        more_steps w steps (Ty-F.ListOf t) (out-Ty t) U (step.Index e) (λ v i. (x : Value) × (i ≡ by x) × IsOf v Ty-F.Int x)
        (well_giving w (λ v. IsOf v Ty-F.Int) (λ v i. (x : Value) × (i ≡ by x) × IsOf v Ty-F.Int x) by (λ v wider x is. (x, refl, is)) (value_of e) (well_expression e Ty-F.Int h w r))
        (λ v wider. well_path steps (out-Ty t) U more v (sees w v wider r))
        (λ v i way_in x leads. subst (λ i. PathLeads v (i ∷ way_in) (Ty-F.ListOf t) U) (sym x.1) (path.into_list x.0 way_in t U x.2 leads))
        (λ v u wider i x. (x.0, x.1, value_grows v u wider x.0 Ty-F.Int x.2))
    well_path _ _ _ (sound.into_dictionary e steps key has U h more) w r =
        more_steps w steps (Ty-F.DictOf key has) (out-Ty has) U (step.Index e) (λ v i. (x : Value) × (i ≡ by x) × IsOf v (out-Ty key) x)
        (well_giving w (λ v. IsOf v (out-Ty key)) (λ v i. (x : Value) × (i ≡ by x) × IsOf v (out-Ty key) x) by (λ v wider x is. (x, refl, is)) (value_of e) (well_expression e (out-Ty key) h w r))
        (λ v wider. well_path steps (out-Ty has) U more v (sees w v wider r))
        (λ v i way_in x leads. subst (λ i. PathLeads v (i ∷ way_in) (Ty-F.DictOf key has) U) (sym x.1) (path.into_dictionary x.0 way_in key has U x.2 leads))
        (λ v u wider i x. (x.0, x.1, value_grows v u wider x.0 (out-Ty key) x.2))
    well_path _ _ _ (sound.into_tuple number steps parts p U there more) w r =
        more_steps w steps (Ty-F.TupleOf parts) (out-Ty p.1) U (step.Part number) (λ v i. i ≡ part number) (well_gives w (λ v i. i ≡ part number) (part number) refl)
        (λ v wider. well_path steps (out-Ty p.1) U more v (sees w v wider r))
        (λ v i way_in e leads. subst (λ i. PathLeads v (i ∷ way_in) (Ty-F.TupleOf parts) U) (sym e) (path.into_tuple number way_in parts p U there leads))
        (λ v u wider i e. e)

    well_way : (slot : ℕ) (steps : List CStep) (T : Kind) → TargetTakes scope known slot steps T → (w : World) → Sees w
        → Well w (λ v way_in. SpotTakes scope known v slot steps way_in T) (in_turn (map (step_at value_of) steps))
    well_way slot _ _ (sound.whole T e) w r = well_gives w (λ v way_in. SpotTakes scope known v slot [] way_in T) [] (whole_spot T e)
    well_way slot _ _ (sound.within s steps T U k e leads) w r =
        well_weaker w (λ v way_in. PathLeads v way_in T U) (λ v way_in. SpotTakes scope known v slot (s ∷ steps) way_in U) (λ v way_in is. spot_within s steps way_in T U k e is)
        (in_turn (map (step_at value_of) (s ∷ steps))) (well_path (s ∷ steps) T U leads w r)

    pub well_spot : (t : CTarget) (T : Kind) → TargetTakes scope known t.slot t.steps T → (w : World) → Sees w → Well w (λ v. IsSpot scope known v t T) (spot_of value_of t)
    well_spot t T h w r =
        well_giving w (λ v way_in. SpotTakes scope known v t.slot t.steps way_in T) (λ v. IsSpot scope known v t T) _ (λ v wider way_in is. record { slot = refl; takes = is })
        (in_turn (map (step_at value_of) t.steps)) (well_way t.slot t.steps T h w r)

    pub well_spots : (ts : List CTarget) (Ts : List Kind) → TargetsTake scope known ts Ts → (w : World) → Sees w → Well w (λ v. AreSpots scope known v ts Ts) (in_turn (map (spot_of value_of) ts))
    well_spots _ _ no_target w r = well_gives w (λ v. AreSpots scope known v [] []) [] no_spot
    well_spots _ _ (one_target t ts T Ts h more) w r =
        well_in_turn w (λ v. IsSpot scope known v t T) (λ v. AreSpots scope known v (t ∷ ts) (T ∷ Ts)) (spot_of value_of t) (map (spot_of value_of) ts) (well_spot t T h w r)
        (λ v wider same spot is view fits. kept_wider v (Same v (λ u. AreSpots scope known u ts Ts)) (Same v (λ u spots. AreSpots scope known u (t ∷ ts) (T ∷ Ts) (spot ∷ spots)))
        (λ u wider' spots both. (both.0, one_spot t ts T Ts spot spots (is_spot_grows scope known v u wider' t T spot is) both.1)) (in_turn (map (spot_of value_of) ts) view)
        (well_spots ts Ts more v (sees w v wider r) view fits))

    -- what is read step by step
    well_steps : (steps : List CStep) (T U : Kind) → StepsLead scope known steps T U → (w : World) → Sees w → (x : Value) → IsOf w T x → WellOf w U (through (read_step value_of) steps x)
    well_steps _ _ _ (sound.no_step T) w r x is = well_gives w (λ v. IsOf v T) x is
    well_steps _ _ _ (sound.into_list e steps t U h more) w r x is =
        well_then w (λ v. IsOf v (out-Ty t)) (λ v. IsOf v U) (through (read_step value_of) steps) (λ v wider same y is_y. well_steps steps (out-Ty t) U more v (sees w v wider r) y is_y)
        (read_step value_of (step.Index e) x)
        (well_then w (λ v. IsOf v Ty-F.Int) (λ v. IsOf v (out-Ty t)) _ (λ v wider same i is_i. laws.elements v x i t (value_grows w v wider x (Ty-F.ListOf t) is) is_i)
        (value_of e) (well_expression e Ty-F.Int h w r))
    well_steps _ _ _ (sound.into_dictionary e steps key has U h more) w r x is =
        well_then w (λ v. IsOf v (out-Ty has)) (λ v. IsOf v U) (through (read_step value_of) steps) (λ v wider same y is_y. well_steps steps (out-Ty has) U more v (sees w v wider r) y is_y)
        (read_step value_of (step.Index e) x)
        (well_then w (λ v. IsOf v (out-Ty key)) (λ v. IsOf v (out-Ty has)) _ (λ v wider same i is_i. laws.entries v x i key has (value_grows w v wider x (Ty-F.DictOf key has) is) is_i)
        (value_of e) (well_expression e (out-Ty key) h w r))
    well_steps _ _ _ (sound.into_tuple number steps parts p U there more) w r x is =
        well_then w (λ v. IsOf v (out-Ty p.1)) (λ v. IsOf v U) (through (read_step value_of) steps) (λ v wider same y is_y. well_steps steps (out-Ty p.1) U more v (sees w v wider r) y is_y)
        (wanted (part_of x number)) (laws.parts w x parts number p is there)

    -- a channel that is read at a target
    pub well_channel : (t : CTarget) (element : Ty) → ChannelAt scope known t element → (w : World) → Sees w → WellOf w (Ty-F.Chan way.Both element) (read_at value_of variables t)
    well_channel t element c w r =
        well_then w (λ v. IsOf v c.kind) (λ v. IsOf v (Ty-F.Chan way.Both element)) (through (read_step value_of) t.steps)
        (λ v wider same x is. well_steps t.steps c.kind (Ty-F.Chan way.Both element) c.steps v (sees w v wider r) x is)
        (wanted (value_at variables t.slot)) (well_some w (λ v. IsOf v c.kind) (value_at variables t.slot) (held_value w scope known variables t.slot c.kind r.held c.set c.is))
