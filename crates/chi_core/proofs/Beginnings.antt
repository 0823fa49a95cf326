-- A run of a sound program with arguments of the model's kinds begins in a kinded configuration.
use Rattle.std.proofs.Common.{◌≡◌, ℕ, zero, suc, ◌-◌, ◌<◌, ℤ, ltb-true, Option, Some, None, List, [], ◌∷◌, ◌++◌, map, length, replicate, refl, sym, subst, ap, ◌∙◌, arith}
use Rattle.std.proofs.lemmas.List.{length-map, length-append, length-replicate, map-append}
use Rattle.std.specs.Prelude.{slice_get}
use Rattle.chi_value.specs.declared.value.Value.{Value}
use Rattle.chi_dist.specs.Draws.{stream_count}
use Rattle.chi_core.specs.declared.program.Core.{Core}
use Rattle.chi_core.specs.declared.program.ProcDef.{ProcDef}
use Rattle.chi_core.specs.Beginning.{first_config, no_draws}
use Rattle.chi_core.specs.Config.{rested, resting, new_instance, settled}
use Rattle.chi_core.specs.Kinded.{HoldsOf, Held, StateFits, KindedInstance, KindedConstants, Kinded}
use Rattle.chi_core.specs.Kinds.{Kind, kind_of, kinds_of}
use Rattle.chi_core.specs.Of.{World, at_start, AreOf, none_of, one_of}
use Rattle.chi_core.specs.Scopes.{process_home, exit_of}
use Rattle.chi_core.specs.SetSlots.{params_known}
use Rattle.chi_core.specs.Sound.{Sound, SoundProcess}
use Rattle.chi_core.specs.SoundParts.{MayStart, its_own}
use Rattle.chi_core.specs.Standing.{begins}
use Rattle.chi_core.specs.Terms.{Do, Term}
use Rattle.chi_core.specs.Variables.{Variables, variables_of}
use Rattle.chi_core.proofs.Lists.{every_nil, every_cons}

-- as many values as kinds
are_many : (w : World) (xs : List Value) (Ts : List Kind) → AreOf w xs Ts → length xs ≡ length Ts
are_many w _ _ none_of = refl
are_many w _ _ (one_of x xs T Ts is are) = ap suc (are_many w xs Ts are)

-- the arguments stand in the first slots
first_hold : (w : World) (xs : List Value) (Ts others : List Kind) (rest : Variables) → AreOf w xs Ts → (slot : ℕ) → slot < length Ts
    → HoldsOf w (slice_get (Ts ++ others) slot) (slice_get (map Some xs ++ rest) slot)
first_hold w _ _ others rest none_of slot l = absurd (omega (arith, l))
first_hold w _ _ others rest (one_of x xs T Ts is are) zero l = is
first_hold w _ _ others rest (one_of x xs T Ts is are) (suc slot) l = first_hold w xs Ts others rest are slot (omega (arith, l))

held_at_start : (core : Core) (w : World) (d : ProcDef) (xs : List Value) → SoundProcess core d → AreOf w xs (kinds_of d.params)
    → Held w (process_home core d).scope (params_known (process_home core d)) (variables_of (length d.slots) xs)
held_at_start core w d xs sound are = record {
  sized = sizes;
  each = λ slot set. subst (λ Ts. HoldsOf w (slice_get Ts slot) (slice_get (variables_of (length d.slots) xs) slot)) (sym slots)
      (first_hold w xs (kinds_of d.params) (kinds_of sound.params.0) (replicate (length d.slots - length xs) None) are slot (ltb-true slot (length (kinds_of d.params)) set));
}
  where
    slots : kinds_of d.slots ≡ kinds_of d.params ++ kinds_of sound.params.0
    slots = ap kinds_of sound.params.1 ∙ map-append kind_of d.params sound.params.0

    sizes : length (variables_of (length d.slots) xs) ≡ length (kinds_of d.slots)
    sizes =
        let joined = length-append (map (λ (x : Value). Some x) xs) (replicate (length d.slots - length xs) None) in
        let arguments = length-map xs (λ (x : Value). Some x) in
        let none : Option Value = None in
        let unset = length-replicate (length d.slots - length xs) none in
        let kinds = length-map d.slots kind_of in
        let params = length-map d.params kind_of in
        let many = are_many w xs (kinds_of d.params) are in
        let all = ap length sound.params.1 ∙ length-append d.params sound.params.0 in
        omega (arith, joined, arguments, unset, kinds, params, many, all)

-- a new instance runs or has finished, and nothing fits less
resting_fits : (core : Core) (w : World) (d : ProcDef) (term : Term) → StateFits w (process_home core d) d.body [] (params_known (process_home core d)) (resting term)
resting_fits core w d [] = tt
resting_fits core w d (item ∷ term) = tt

rests : (term : Term) → rested term (resting term) ≡ resting term
rests [] = refl
rests (item ∷ term) = refl

-- a new instance of a process of a sound program, with arguments of its parameters' kinds
pub new_kinded : (core : Core) (exit : Option Kind) (w : World) (number : ℕ) (d : ProcDef) (xs : List Value) → slice_get core.procs number ≡ Some d → SoundProcess core d
    → exit ≡ exit_of d → AreOf w xs (kinds_of d.params) → KindedInstance core exit w (settled (new_instance number d xs))
new_kinded core exit w number d xs there sound same are = record {
  d = d;
  is = there;
  exits = subst (λ other. MayStart exit other) same (its_own exit);
  at = record {
    known = params_known (process_home core d);
    rest = d.body;
    frames = [];
    place = begins;
    left = refl;
    walks = tt;
    held = held_at_start core w d xs sound are;
    state = resting_fits core w d (map Do d.body);
  };
  settled = rests (map Do d.body);
}

no_draws_are_many : length no_draws ≡ stream_count
no_draws_are_many = let none : ℕ = 0 in length-replicate stream_count none

pub start_kinded : (core : Core) → Sound core → (constants : List Value) → KindedConstants core constants → (d : ProcDef) → slice_get core.procs core.model ≡ Some d
    → (arguments : List Value) → AreOf (at_start core.names.kinds) arguments (kinds_of d.params) → (seed : ℕ) (until : Option ℤ)
    → Kinded core (first_config seed until arguments constants core.model d)
start_kinded core sound constants fit d there arguments are seed until = record {
  world = at_start core.names.kinds;
  names = refl;
  constants = fit;
  channels = refl;
  streams = no_draws_are_many;
  instances = refl;
  model = d;
  is = there;
  each = every_cons (KindedInstance core (exit_of d) (at_start core.names.kinds)) (settled (new_instance core.model d arguments)) []
      (new_kinded core (exit_of d) (at_start core.names.kinds) core.model d arguments there (sound.processes core.model d there) refl are)
      (every_nil (KindedInstance core (exit_of d) (at_start core.names.kinds)));
  few = omega arith;
}
