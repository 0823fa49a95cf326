-- Writes: each value is of the kind that its piece shows.
use Rattle.std.proofs.Common.{◌≡◌, inl, inr, ℕ, ◌+◌, ◌≤◌, Bool, true, false, cond, List, [], ◌∷◌, map, length, Option, Some, None, refl, sym, subst, ◌∙◌, arith}
use Rattle.std.specs.Prelude.{nat_eq, All, option_map, if◌then◌else◌}
use Rattle.std.proofs.lemmas.Bool.{eqb-true}
use Rattle.std.proofs.lemmas.List.Elements.{All-head, All-tail}
use Rattle.std.proofs.lemmas.List.Recursion.{is_count_by}
use Rattle.chi_token.specs.declared.place.Place.{Place}
use Rattle.chi_tree.specs.declared.expr.Expr.{Expr}
use Rattle.chi_types.specs.declared.ty.Ty.{Ty-F, out-Ty}
use Rattle.chi_types.specs.declared.ty.Ty.TheVariants as ty
use Rattle.chi_types.specs.Plain.{is_plain}
use Rattle.chi_value.specs.declared.format.Piece.{Piece}
use Rattle.chi_value.specs.declared.format.Piece.TheVariants as piece
use Rattle.chi_format.specs.FormatCodes as codes
use Rattle.chi_format.specs.FormatCodes.{Part, IsPart, with_byte, byte, percent, any_code, whole_code, fixed_code, six_code, MeansPieces}
use Rattle.chi_format.proofs.Readings.{Reading, a_reading}
use Rattle.chi_core.specs.declared.expression.CExpr.{CExpr}
use Rattle.chi_core.specs.declared.statement.CStat.{CStat}
use Rattle.chi_core.specs.declared.statement.CStat.TheVariants as statement
use Rattle.chi_core.specs.Kinds.{Kind, kind_of}
use Rattle.chi_core.specs.Scopes.{Role, Scope}
use Rattle.chi_core.specs.SetSlots.{Known as Set}
use Rattle.chi_core.specs.SoundParts as part
use Rattle.chi_core.specs.SoundParts.{Shows}
use Rattle.chi_check_types.specs.declared.meant.Made.{Made}
use Rattle.chi_check_types.specs.declared.rules.TheConstants.{FORMAT, FORMAT_VALUE}
use Rattle.chi_check_types.specs.Names.{Names}
use Rattle.chi_check_types.specs.Typed.{Typed, refused}
use Rattle.chi_check_types.specs.TypeRules.{is_int}
use Rattle.chi_check_expr.proofs.Kept.{Each}
use Rattle.chi_check_expr.proofs.Nodes.{barred_made}
use Rattle.chi_check_laws.specs.KnownNames.{AllStand, Has, SoundMade}
use Rattle.chi_check_laws.proofs.Conversions.{some_is, mapped, chained, chosen}
use Rattle.chi_check_laws.proofs.Has.{Have, have_none, have_one}
use Rattle.chi_check_laws.proofs.Parts.{int_kind}
use Rattle.chi_check_laws.proofs.TypeKinds.{kind_real, plain_kind}
use Rattle.chi_check.specs.Below.chi_check_stat_rules.specs.declared.home.Home.{Home}
use Rattle.chi_check.specs.Below.chi_check_stat_rules.specs.declared.home.Home.TheVariants as home
use Rattle.chi_check.specs.Below.chi_check_stat_rules.specs.Homes.{running_rule, writing_rule}
use Rattle.chi_check.specs.Below.chi_check_stat_rules.specs.Writes.{ended, read_pieces, pieces_of, is_shown, shown_count, showing, Written, shown_one, with_first, all_shown, written, write_of}
use Rattle.chi_check_laws.proofs.SoundValues.{fitted_has}
use Rattle.chi_check.specs.Below.chi_check_stat_lines.specs.Stated.{alone}
use Rattle.chi_check.specs.Below.chi_check_stat_lines.specs.Values.{values_in, made_of}
use Rattle.chi_check.specs.Below.chi_check_stat_lines.specs.Lines.{placed, write_in}
use Rattle.chi_check_laws.specs.Bodies.{role_of, reads_as}
use Rattle.chi_check_laws.proofs.Bodies.{SoundOne, StatementKept, statements_by_parts}
use Rattle.chi_check_laws.proofs.Endings.{runs_in}
use Rattle.chi_check_laws.proofs.Statements.{one_write}
use Rattle.chi_check_laws.proofs.Turns.{alone_kept}
use Rattle.chi_check_laws.proofs.Values.{one_made, value_sound}

-- ---- the pieces of a format

-- at most nine decimals
abbrev Few : List Piece → Type 0
Few [] = Unit {0}
Few (piece.Plain bytes ∷ ps) = Few ps
Few (piece.Any field ∷ ps) = Few ps
Few (piece.Whole field ∷ ps) = Few ps
Few (piece.Fixed field decimals ∷ ps) = (decimals ≤ 9) × Few ps

few_byte : (b : ℕ) (ps : List Piece) → Few ps → Few (with_byte b ps)
few_byte b [] h = tt
few_byte b (piece.Plain bytes ∷ ps) h = h
few_byte b (piece.Any field ∷ ps) h = h
few_byte b (piece.Whole field ∷ ps) h = h
few_byte b (piece.Fixed field decimals ∷ ps) h = h

few_parts : (parts : List Part) → All IsPart parts → Few (codes.pieces_of parts)
few_parts [] are = tt
few_parts (byte b ∷ parts) are = few_byte b (codes.pieces_of parts) (few_parts parts (All-tail IsPart (byte b) parts are))
few_parts (percent ∷ parts) are = few_byte 37 (codes.pieces_of parts) (few_parts parts (All-tail IsPart percent parts are))
few_parts (any_code field ∷ parts) are = few_parts parts (All-tail IsPart (any_code field) parts are)
few_parts (whole_code field ∷ parts) are = few_parts parts (All-tail IsPart (whole_code field) parts are)
few_parts (fixed_code field k ∷ parts) are = ((All-head IsPart (fixed_code field k) parts are).1, few_parts parts (All-tail IsPart (fixed_code field k) parts are))
few_parts (six_code field ∷ parts) are = let few : 6 ≤ 9 = omega arith in (few, few_parts parts (All-tail IsPart (six_code field) parts are))

few_means : (text : List ℕ) (pieces : List Piece) → MeansPieces text pieces → Few pieces
few_means text pieces m = subst Few (sym m.1.2) (few_parts m.0 m.1.0)

few_read : (text : List ℕ) (r : Reading text) (pieces : List Piece) → read_pieces text r ≡ Some pieces → Few pieces
few_read text (inl means) pieces e = subst Few (some_is means.0 pieces e) (few_means text means.0 means.1)
few_read text (inr bad) pieces e = absurd (cc)

few_pieces : (text : List ℕ) (pieces : List Piece) → pieces_of text ≡ Some pieces → Few pieces
unfolding pieces_of
few_pieces text pieces e = few_read text (a_reading text) pieces e

-- ---- how many values they show

abbrev shown_in : List Piece → ℕ
shown_in [] = 0
shown_in (p ∷ ps) = cond (is_shown p) (1 + shown_in ps) (shown_in ps)

shown_is : (ps : List Piece) → shown_in ps ≡ shown_count ps
shown_is ps = is_count_by shown_in is_shown refl (λ p ps. refl) ps

module _ (scope : Scope) (set : Set) where
  -- a value, if it is typed
  abbrev SoundWritten : Written → Type 0
  SoundWritten v = (m : Made) → v.1 ≡ Some m → SoundMade scope set m

  -- values that pieces show
  record Shown (ps : List Piece) (es : List CExpr) : Type 0 where
    kinds : List Kind
    have : Have scope set es kinds
    shows : Shows ps kinds

  first_made : (e : Typed CExpr) (more : Typed (List CExpr)) (es : List CExpr) → (with_first e more).made ≡ Some es → (x : CExpr) × (xs : List CExpr) × (e.made ≡ Some x) × (more.made ≡ Some xs) × (x ∷ xs ≡ es)
  first_made e more es is =
      let f = chained (λ x. option_map (λ xs. x ∷ xs) more.made) e.made es is in
      let g = mapped (λ xs. f.0 ∷ xs) more.made es f.2 in
      (f.0, g.0, f.1, g.1, g.2)

  shown_first : (p : Piece) (ps : List Piece) (T : Kind) (e : CExpr) (es all : List CExpr) → ((Ts : List Kind) → Shows ps Ts → Shows (p ∷ ps) (T ∷ Ts)) → Has scope set e T → Shown ps es → e ∷ es ≡ all → Shown (p ∷ ps) all
  shown_first p ps T e es all on h s is =
      subst (Shown (p ∷ ps)) is (record { kinds = T ∷ s.kinds; have = have_one scope set e es T s.kinds h s.have; shows = on s.kinds s.shows })

  shown_plain : (bytes : List ℕ) (ps : List Piece) (es : List CExpr) → Shown ps es → Shown (piece.Plain bytes ∷ ps) es
  shown_plain bytes ps es s = record { kinds = s.kinds; have = s.have; shows = part.plain_text bytes ps s.kinds s.shows }

  shows : (ps : List Piece) (vs : List Written) (es : List CExpr) → Few ps → shown_in ps ≡ length vs → Each SoundWritten vs → (all_shown ps vs).made ≡ Some es → Shown ps es
  shows [] [] es few n s e = subst (Shown []) (some_is [] es e) (record { kinds = []; have = have_none scope set; shows = part.no_piece })
  shows [] (v ∷ vs) es few n s e = absurd (omega (arith, n))
  shows (piece.Plain bytes ∷ ps) [] es few n s e = shown_plain bytes ps es (shows ps [] es few n s e)
  shows (piece.Plain bytes ∷ ps) (v ∷ vs) es few n s e = shown_plain bytes ps es (shows ps (v ∷ vs) es few n s e)
  shows (piece.Any field ∷ ps) [] es few n s e = absurd (omega (arith, n))
  shows (piece.Any field ∷ ps) (v ∷ vs) es few n s e =
      let left : shown_in ps ≡ length vs = omega (arith, n) in
      let f = first_made (shown_one (piece.Any field) v) (all_shown ps vs) es e in
      let g = one_made FORMAT_VALUE v.0 (showing (piece.Any field)) v.1 f.0 f.2 in
      let c = chosen (is_plain g.0.ty) g.0.core f.0 g.2 in
      let has : Has scope set f.0 (kind_of g.0.ty) = subst (λ e. Has scope set e (kind_of g.0.ty)) c.1 (s.0 g.0 g.1).kind in
      shown_first _ ps (kind_of g.0.ty) f.0 f.1 es (λ Ts. part.any_plain field ps (kind_of g.0.ty) Ts (plain_kind g.0.ty c.0)) has (shows ps vs f.1 few left s.1 f.3) f.4
  shows (piece.Whole field ∷ ps) [] es few n s e = absurd (omega (arith, n))
  shows (piece.Whole field ∷ ps) (v ∷ vs) es few n s e =
      let left : shown_in ps ≡ length vs = omega (arith, n) in
      let f = first_made (shown_one (piece.Whole field) v) (all_shown ps vs) es e in
      let g = one_made FORMAT_VALUE v.0 (showing (piece.Whole field)) v.1 f.0 f.2 in
      let c = chosen (is_int (out-Ty g.0.ty)) g.0.core f.0 g.2 in
      let has : Has scope set f.0 Ty-F.Int = subst (λ e. Has scope set e Ty-F.Int) c.1 (subst (Has scope set g.0.core) (int_kind g.0.ty c.0) (s.0 g.0 g.1).kind) in
      shown_first _ ps Ty-F.Int f.0 f.1 es (λ Ts. part.whole_number field ps Ts) has (shows ps vs f.1 few left s.1 f.3) f.4
  shows (piece.Fixed field decimals ∷ ps) [] es few n s e = absurd (omega (arith, n))
  shows (piece.Fixed field decimals ∷ ps) (v ∷ vs) es few n s e =
      let left : shown_in ps ≡ length vs = omega (arith, n) in
      let f = first_made (shown_one (piece.Fixed field decimals) v) (all_shown ps vs) es e in
      let g = one_made FORMAT_VALUE v.0 (showing (piece.Fixed field decimals)) v.1 f.0 f.2 in
      let has : Has scope set f.0 Ty-F.Real = subst (Has scope set f.0) kind_real (fitted_has scope set g.0 ty.Real f.0 (s.0 g.0 g.1) g.2) in
      shown_first _ ps Ty-F.Real f.0 f.1 es (λ Ts. part.fixed_point field decimals ps Ts few.0) has (shows ps vs f.1 few.1 left s.1 f.3) f.4

  counted_by : (b : Bool) (line : ℕ) (place : Place) (pieces : List Piece) (vs : List Written) (x : CStat) → (if b then written line pieces (all_shown pieces vs) else refused FORMAT place).made ≡ Some x
      → (b ≡ true) × (es : List CExpr) × ((all_shown pieces vs).made ≡ Some es) × (statement.Write line pieces es ≡ x)
  counted_by true line place pieces vs x e = let m = mapped (statement.Write line pieces) (all_shown pieces vs).made x e in (refl, m.0, m.1, m.2)
  counted_by false line place pieces vs x e = absurd (cc)

  -- what is written, with a value for each piece that shows one
  pub record WrittenBy (line : ℕ) (x : CStat) : Type 0 where
    pub pieces : List Piece
    pub values : List CExpr
    pub kinds : List Kind
    pub is : statement.Write line pieces values ≡ x
    pub have : Have scope set values kinds
    pub shows : Shows pieces kinds

  written_by : (line : ℕ) (place : Place) (o : Option (List Piece)) (vs : List Written) (x : CStat) → ((pieces : List Piece) → o ≡ Some pieces → Few pieces) → Each SoundWritten vs → (write_of line place o vs).made ≡ Some x → WrittenBy line x
  written_by line place None vs x few s e = absurd (cc)
  written_by line place (Some pieces) vs x few s e =
      let c = counted_by (nat_eq (shown_count pieces) (length vs)) line place pieces vs x e in
      let shown = shows pieces vs c.1 (few pieces refl) (shown_is pieces ∙ eqb-true _ _ c.0) s c.2 in
      record { pieces = pieces; values = c.1; kinds = shown.kinds; is = c.3; have = shown.have; shows = shown.shows }

-- a function and an experiment don't write as a process does
writing_runs : (h : Home) (role : Role) (place : Place) → role_of h ≡ Some role → writing_rule h place ≡ [] → running_rule h place ≡ []
writing_runs (home.Function result) role place r e = absurd (cc)
writing_runs (home.Process own) role place r e = refl
writing_runs home.Experiment role place r e = absurd (cc)

module _ (h : Home) (scope : Scope) (role : reads_as h ≡ Some scope.role) (loop : Bool) where
  placed_sound : (set : Set) (names : Names) → AllStand scope set names → (es : List Expr) → Each (SoundWritten scope set) (placed es (map made_of (values_in h names es)))
  placed_sound set names all [] = tt
  placed_sound set names all (e ∷ es) = (value_sound h scope role set names all e, placed_sound set names all es)

  -- what is written, where the rule isn't broken
  pub what_is_written : (set : Set) (names : Names) → AllStand scope set names → (place : Place) (ends_line : Bool) (format : List ℕ) (format_place : Place) (values : List Expr) (x : CStat)
      → (write_in h names place ends_line format format_place values).made ≡ Some x → (writing_rule h place ≡ []) × WrittenBy scope set place.line x
  what_is_written set names all place ends_line format format_place values x e =
      let b = barred_made (writing_rule h place) _ x e in
      (b.0, written_by scope set place.line format_place (pieces_of (ended ends_line format)) (placed values (map made_of (values_in h names values))) x (few_pieces (ended ends_line format)) (placed_sound set names all values) b.1)

  pub write_kept : role_of h ≡ Some scope.role → (place : Place) (ends_line : Bool) (format : List ℕ) (format_place : Place) (values : List Expr) → StatementKept scope loop (λ s. alone s (write_in h s.names place ends_line format format_place values))
  write_kept own place ends_line format format_place values = alone_kept scope _ _ (statements_by_parts scope loop) (λ names. write_in h names place ends_line format format_place values) (λ set names x all e.
      let w = what_is_written set names all place ends_line format format_place values x e in
      let p = runs_in h scope.role place role (writing_runs h scope.role place own w.0) in
      (subst (SoundOne scope loop set) w.1.is (one_write scope loop set place.line w.1.pieces w.1.values p.0 w.1.kinds p.1 w.1.have w.1.shows), tt))
