-- Nothing is amiss in the constants of a sound program, one after another.
use Rattle.std.proofs.Common.{◌≡◌, ◌++◌, ◌+◌, ◌<◌, ◌⊎◌, inl, inr, ℕ, ltb-true, List, [], ◌∷◌, length, Some, refl, sym, ap, subst, ◌∙◌, arith}
use Rattle.std.proofs.lemmas.List.{append_assoc, length-append}
use Rattle.std.proofs.lemmas.Option.{slice_get_within}
use Rattle.std.specs.Prelude.{slice_get}
use Rattle.std.specs.Option.{IsSomeAnd}
use Rattle.chi_value.specs.declared.value.Value.{Value}
use Rattle.chi_core.specs.declared.expression.CExpr.{out-CExpr}
use Rattle.chi_core.specs.declared.program.ConstDef.{ConstDef}
use Rattle.chi_core.specs.declared.program.Core.{Core}
use Rattle.chi_core.specs.Answer as answer
use Rattle.chi_core.specs.Answer.{Answer, Gives, Fails}
use Rattle.chi_core.specs.Beginning.{no_call, constant_scene, constant_view, constant_value}
use Rattle.chi_core.specs.Kinds.{Kind, kind_of}
use Rattle.chi_core.specs.Of.{Wider, World, nowhere, IsOf}
use Rattle.chi_core.specs.Scopes.{constant_scope}
use Rattle.chi_core.specs.Sound.{nothing_known}
use Rattle.chi_core.proofs.Worlds.{get_before, value_grows}
use Rattle.chi_core_kinds.specs.Well.{Kept, Same}
use Rattle.chi_core_kinds.proofs.Elements.{there_last}
use Rattle.chi_core_kinds.proofs.Expressions.{Provides, Reads, well_value}
use Rattle.chi_core_kinds.proofs.Meetings.{the_one}
use Rattle.chi_core_kinds.proofs.Still.{Stays}
use Rattle.chi_core_kinds.proofs.StillConstants.{still_constant}
use Rattle.chi_code.specs.declared.code.Code.{Code}
use Rattle.chi_code.specs.declared.instr.Instr.{Instr}
use Rattle.chi_code.specs.declared.instr.Instr.TheVariants as i
use Rattle.chi_code.specs.Codes.{ConstsAt, no_constant, one_constant}
use Rattle.chi_code.specs.ExpressionLayout.{Has, ExprAt}
use Rattle.chi_exec.specs.Constants.{ConstantAt, ConstantReady, Sets}
use Rattle.chi_machine_tests.specs.Programs.{HasCode, KindedAt, AllKinded, StandAt}
use Rattle.chi_machine_tests.proofs.Kept.{laws, fits}

pub record FirstOf (instrs : List Instr) (number : ℕ) (cs : List ConstDef) (a z : ℕ) : Type 0 where
  pub c : ConstDef
  pub rest : List ConstDef
  pub is : cs ≡ c ∷ rest
  pub place : ℕ
  pub value : ExprAt instrs (out-CExpr c.value) a place
  pub sets : Has instrs place (i.SetConst number c.line)
  pub later : ConstsAt instrs (number + 1) rest (place + 1) z

first_of : (instrs : List Instr) (number : ℕ) (cs : List ConstDef) (a z : ℕ) → 0 < length cs → ConstsAt instrs number cs a z → FirstOf instrs number cs a z
first_of instrs _ _ _ _ l (no_constant number a) = absurd (omega (arith, l))
first_of instrs _ _ _ z l (one_constant number c cs a b _ h k r) = record { c = c; rest = cs; is = refl; place = b; value = h; sets = k; later = r }

get_next : (xs : List ConstDef) (x : ConstDef) (ys : List ConstDef) → slice_get (xs ++ x ∷ ys) (length xs) ≡ Some x
get_next [] x ys = refl
get_next (z ∷ xs) x ys = get_next xs x ys

-- where there is no channel and no instance, a value names none
names_none : (names : List (List (List ℕ))) (u : World) → Wider (nowhere names) u → length u.carried ≡ 0 → u.instances ≡ 0 → (v : Value) (T : Kind) → IsOf u T v → IsOf (nowhere names) T v
names_none names u wider none alone v T is =
    value_grows u (nowhere names) (record {
      names = sym wider.names;
      carried = λ n t e. let l : n < length u.carried = slice_get_within u.carried n t e in absurd (omega (arith, l, none));
      instances = omega (arith, alone);
    }) v T is

module _ (core : Core) (code : Code) (has : HasCode core code) (seed : ℕ) (values : List Value) (a : ℕ) (s : StandAt core code values a) (more : length values < length core.consts) where
  abbrev names : List (List (List ℕ))
  names = core.names.kinds

  pub first : FirstOf code.instrs (length values) s.rest a s.upto
  first =
      let all : length core.consts ≡ length (s.before ++ s.rest) = ap length s.whole in
      let joined = length-append s.before s.rest in
      let count = s.count in
      first_of code.instrs (length values) s.rest a s.upto (omega (arith, all, joined, count, more)) s.laid

  abbrev c : ConstDef
  c = first.c

  whole : core.consts ≡ s.before ++ c ∷ first.rest
  whole = s.whole ∙ ap (λ cs. s.before ++ cs) first.is

  there : slice_get core.consts (length values) ≡ Some c
  there = ap (λ n. slice_get core.consts n) s.count ∙ ap (λ xs. slice_get xs (length s.before)) whole ∙ get_next s.before c first.rest

  provides : Provides (constant_scope core (length values)) no_call (constant_scene core seed values)
  provides = record {
    enumerations = λ n values e. (has.sound.enumerations n values e).values;
    names = refl;
    constants = λ number c e before. s.kinded number (ltb-true number (length values) before) c e;
    called = λ may. absurd (cc);
  }

  reads : Reads (nowhere names) (constant_scope core (length values)) nothing_known []
  reads = record { names = refl; held = record { sized = refl; each = λ slot known. absurd (cc) } }

  abbrev HasItsKind : Answer Value → Type 0
  HasItsKind = Kept (nowhere names) (Same (nowhere names) (λ v. IsOf v (kind_of c.ty)))

  kept : HasItsKind (constant_value core seed values c)
  kept =
      well_value laws (constant_scope core (length values)) no_call (constant_scene core seed values) provides nothing_known [] c.value (kind_of c.ty)
      (has.sound.constants (length values) c there).value (nowhere names) reads constant_view (fits names 0)

  still : Stays constant_view (constant_value core seed values c)
  still =
      still_constant core (length values) nothing_known no_call (constant_scene core seed values) [] c.value (kind_of c.ty) (has.sound.constants (length values) c there).value constant_view

  pub next_stands : ConstantAt code a seed values core c
  next_stands = record {
    codes = has.codes;
    number = length values;
    upto = first.place;
    laid = first.value;
    sets = first.sets;
    right = λ e. subst HasItsKind e kept;
  }

  pub next_ready : ConstantReady code a seed values
  next_ready = record { core = core; constant = c; stands = next_stands }

  one_more : (v : Value) → IsOf (nowhere names) (kind_of c.ty) v → (number : ℕ) → number < length (values ++ v ∷ []) → KindedAt core (values ++ v ∷ []) number
  one_more v is number l other e = by_place (let b : (number < length values) ⊎ (number ≡ length values) = grind (arith, l, length-append values (v ∷ [])) in b)
    where
      by_place : (number < length values) ⊎ (number ≡ length values) → IsSomeAnd (slice_get (values ++ v ∷ []) number) (IsOf (nowhere names) (kind_of other.ty))
      by_place (inl before) =
          let old = the_one (slice_get values number) (IsOf (nowhere names) (kind_of other.ty)) (s.kinded number before other e) in
          subst (λ o. IsSomeAnd o (IsOf (nowhere names) (kind_of other.ty))) (sym (get_before values (v ∷ []) number old.0 old.1)) old.2
      by_place (inr last) =
          let same : c ≡ other = cc (sym there ∙ ap (slice_get core.consts) (sym last) ∙ e) in
          subst (λ n. IsSomeAnd (slice_get (values ++ v ∷ []) n) (IsOf (nowhere names) (kind_of other.ty))) (sym last)
          (subst (λ o. IsSomeAnd o (IsOf (nowhere names) (kind_of other.ty))) (sym (there_last values v)) (subst (λ z. IsOf (nowhere names) (kind_of z.ty) v) same is))

  -- once it is set, the next one stands behind it
  abbrev StandsBehind : List Value → ℕ → Type 0
  StandsBehind now place = StandAt core code now (place + 1) × (length now ≡ length values + 1)

  with_value : (v : Value) → IsOf (nowhere names) (kind_of c.ty) v → StandsBehind (values ++ v ∷ []) first.place
  with_value v is = (
    record {
      before = s.before ++ c ∷ [];
      rest = first.rest;
      whole = whole ∙ sym (append_assoc s.before (c ∷ []) first.rest);
      count = length-append values (v ∷ []) ∙ ap (λ n. n + 1) s.count ∙ sym (length-append s.before (c ∷ []));
      kinded = one_more v is;
      upto = s.upto;
      laid = subst (λ n. ConstsAt code.instrs n first.rest (first.place + 1) s.upto) (sym (length-append values (v ∷ []))) first.later;
    },
    length-append values (v ∷ []),
  )

  by_answer : (now : List Value) (o : Answer Value) → HasItsKind o → Stays constant_view o → Sets values now o → StandsBehind now first.place
  by_answer now (Gives v view) k none e =
      subst (λ vs. StandsBehind vs first.place) (sym e) (with_value v (names_none names k.world k.wider (k.fits.channels ∙ none.1) k.is.0 v (kind_of c.ty) k.is.1))
  by_answer now (Fails kind) k none e = absurd e
  by_answer now answer.Spent k none e = absurd e
  by_answer now answer.Amiss k none e = absurd e

  pub goes_on : (now : List Value) (place : ℕ) → place ≡ next_stands.upto → Sets values now (constant_value core seed values c) → StandsBehind now place
  unfolding next_stands
  goes_on now place at set = subst (StandsBehind now) (sym at) (by_answer now (constant_value core seed values c) kept still set)

-- the first constant stands where the code begins
pub first_stand : (core : Core) (code : Code) → HasCode core code → StandAt core code [] 0
first_stand core code has = record {
  before = [];
  rest = core.consts;
  whole = refl;
  count = refl;
  kinded = λ number l. absurd (omega (arith, l));
  upto = has.codes.over;
  laid = has.codes.constants;
}

-- as many as there are
pub all_kinded : (core : Core) (code : Code) (values : List Value) (a : ℕ) → StandAt core code values a → length core.consts ≡ length values → AllKinded core values
all_kinded core code values a s all number c e = s.kinded number (let l : number < length core.consts = slice_get_within core.consts number c e in omega (arith, l, all)) c e
