-- What a trace tells of what is sent is a text that it can tell.
use Rattle.std.proofs.Common.{◌≡◌, ℕ, zero, suc, Bool, true, false, cond, List, [], ◌∷◌, ◌++◌, map, length, Option, Some, None, refl, ap, sym, subst, ◌∙◌, arith}
use Rattle.std.specs.List.{list_all}
use Rattle.std.specs.Prelude.{codes, slice_get, unwrap_or, option_and_then, nat_le}
use Rattle.chi_types.specs.declared.ty.Ty.{Ty, out-Ty}
use Rattle.chi_value.specs.declared.value.Value.{Value, Value-F, out-Value, fold_out-Value, map-Value}
use Rattle.chi_value.specs.Names.{name_at, name_of}
use Rattle.chi_value.specs.Plain.{is_plain, plain_step, itself}
use Rattle.chi_value.specs.Text.{each_after, joined_by, bracketed, truth_text, Written, written, written_step, alone, entry, quoted_text}
use Rattle.chi_core.specs.Kinds.{Kind, Every, entry_of}
use Rattle.chi_core.specs.Of.{World, Of, of_bool, of_int, of_real, of_text, of_choice, of_tuple, of_list, of_set, of_dictionary, of_channel, of_dist, of_timer, of_no_instance, of_instance, PartsOf, no_part, one_part, IsOf}
use Rattle.chi_core.specs.Sound.{SoundEnumeration}
use Rattle.chi_trace.specs.Ends.{OneLine}
use Rattle.chi_trace.specs.Events.{is_value_text}
use Rattle.chi_trace.proofs.Cuts.{and_both}
use Rattle.chi_trace.proofs.OneLine.{one-append}
use Rattle.chi_trace_events.specs.declared.value.TheConstants.{MOST_SHOWN}
use Rattle.chi_trace_events.specs.Traces.{hidden, shown, sent_text}
use Rattle.chi_trace_events.proofs.Lines.{CanBeTold, starts, value_text, told_int, told_real, told_string, told_name}

-- texts in one line, one after another
data Lines : List (List ℕ) → Type 0 where
  no_line : Lines []
  line_before : (text : List ℕ) (texts : List (List ℕ)) → OneLine text → Lines texts → Lines (text ∷ texts)

one_after : (between : List ℕ) (texts : List (List ℕ)) → OneLine between → Lines texts → OneLine (each_after between texts)
one_after between [] b no_line = refl
one_after between (text ∷ texts) b (line_before _ _ t ts) =
    one-append (between ++ text) (each_after between texts) (one-append between text b t) (one_after between texts b ts)

one_joined : (between : List ℕ) (texts : List (List ℕ)) → OneLine between → Lines texts → OneLine (joined_by between texts)
one_joined between [] b no_line = refl
one_joined between (text ∷ texts) b (line_before _ _ t ts) = one-append text (each_after between texts) t (one_after between texts b ts)

one_bracketed : (opening : List ℕ) (texts : List (List ℕ)) (closing : List ℕ) → OneLine opening → OneLine closing → Lines texts
    → OneLine (bracketed opening texts closing)
one_bracketed opening texts closing o c ts =
    one-append (opening ++ joined_by (codes ", ") texts) closing (one-append opening (joined_by (codes ", ") texts) o (one_joined (codes ", ") texts refl ts)) c

-- a value's texts, alone and as an entry, are in one line
pub record InLine (w : Written) : Type 0 where
  pub alone : OneLine w.alone
  pub entry : OneLine w.entry

module _ (w : World) (enumerations : Every SoundEnumeration w.names) where
  all_alone : (ws : List Written) → Every InLine ws → Lines (map alone ws)
  all_alone [] each = no_line
  all_alone (v ∷ vs) each = line_before v.alone (map alone vs) (each 0 v refl).alone (all_alone vs (λ k x e. each (suc k) x e))

  all_entries : (ws : List Written) → Every InLine ws → Lines (map entry ws)
  all_entries [] each = no_line
  all_entries (v ∷ vs) each = line_before v.entry (map entry vs) (each 0 v refl).entry (all_entries vs (λ k x e. each (suc k) x e))

  -- of each plain value of a list
  each_written : (xs : List Value) → list_all itself (map is_plain xs) ≡ true
      → ((k : ℕ) (x : Value) → slice_get xs k ≡ Some x → is_plain x ≡ true → InLine (written w.names x)) → Every InLine (map (written w.names) xs)
  each_written [] plain each k x e = absurd (cc)
  each_written (v ∷ vs) plain each zero x e =
      let same : written w.names v ≡ x = cc in
      subst InLine same (each 0 v refl (and_both (is_plain v) (list_all itself (map is_plain vs)) plain).0)
  each_written (v ∷ vs) plain each (suc k) x e =
      each_written vs (and_both (is_plain v) (list_all itself (map is_plain vs)) plain).1 (λ j y e' p. each (suc j) y e' p) k x e

  name_there : (kind position : ℕ) (name : List ℕ) → name_at w.names kind position ≡ Some name → CanBeTold name
  name_there kind position name e = by (slice_get w.names kind) refl e
    where
      by : (o : Option (List (List ℕ))) → slice_get w.names kind ≡ o → option_and_then (λ positions. slice_get positions position) o ≡ Some name → CanBeTold name
      by None at e' = absurd (cc)
      by (Some positions) at e' = told_name name ((enumerations kind positions at).named position name e')

  name_told : (kind position : ℕ) (name : List ℕ) → name_at w.names kind position ≡ Some name → CanBeTold (name_of w.names kind position)
  name_told kind position name e = subst CanBeTold (sym (ap (λ o. unwrap_or o []) e)) (name_there kind position name e)

  truth_told : (b : Bool) → CanBeTold (truth_text b)
  truth_told true = starts 116 (114 ∷ 117 ∷ 101 ∷ []) (λ e. omega arith) refl
  truth_told false = starts 102 (97 ∷ 108 ∷ 115 ∷ 101 ∷ []) (λ e. omega arith) refl

  told_only : (text : List ℕ) → CanBeTold text → InLine (record { alone = text; entry = [] })
  told_only text t = record { alone = t.one; entry = refl }

  out : (x : Value) → InLine (written_step w.names (map-Value Value Written (written w.names) (out-Value x))) → InLine (written w.names x)
  out x is = subst InLine (sym (fold_out-Value Written (written_step w.names) x)) is

  plain_out : (a : Value) → is_plain a ≡ true → plain_step (map-Value Value Bool is_plain (out-Value a)) ≡ true
  plain_out a h = sym (fold_out-Value Bool plain_step a) ∙ h

  mutual
    in_line : (x : Value-F Value) (T : Kind) → Of w x T → plain_step (map-Value Value Bool is_plain x) ≡ true
        → InLine (written_step w.names (map-Value Value Written (written w.names) x))
    in_line _ _ (of_bool b) h = told_only (truth_text b) (truth_told b)
    in_line _ _ (of_int n) h = told_only _ (told_int n)
    in_line _ _ (of_real n) h = told_only _ (told_real n)
    in_line _ _ (of_text bytes short) h = told_only _ (told_string bytes)
    in_line _ _ (of_choice enumeration position name e) h = told_only _ (name_told enumeration position name e)
    in_line _ _ (of_tuple xs parts are) h =
        let texts = all_alone (map (written w.names) xs) (parts_in_line xs parts are h) in
        record { alone = one_bracketed (codes "(") _ (codes ")") refl refl texts; entry = one_joined (codes ": ") _ refl texts }
    in_line _ _ (of_list xs t short each) h = record {
      alone = one_bracketed (codes "[") _ (codes "]") refl refl (all_alone (map (written w.names) xs)
          (each_written xs h (λ k x e p. out x (in_line (out-Value x) (out-Ty t) (each k x e) (plain_out x p)))));
      entry = refl;
    }
    in_line _ _ (of_set xs t short plain ascending each) h = record {
      alone = one_bracketed (codes "{") _ (codes "}") refl refl (all_alone (map (written w.names) xs)
          (each_written xs h (λ k x e p. out x (in_line (out-Value x) (out-Ty t) (each k x e) (plain_out x p)))));
      entry = refl;
    }
    in_line _ _ (of_dictionary xs key has short plain ascending each) h = record {
      alone = one_bracketed (codes "{") _ (codes "}") refl refl (all_entries (map (written w.names) xs)
          (each_written xs h (λ k x e p. out x (in_line (out-Value x) (entry_of key has) (each k x e) (plain_out x p)))));
      entry = refl;
    }
    in_line _ _ (of_channel n t e) h = absurd (cc)
    in_line _ _ (of_dist d t yields) h = absurd (cc)
    in_line _ _ (of_timer due) h = absurd (cc)
    in_line _ _ of_no_instance h = absurd (cc)
    in_line _ _ (of_instance n l) h = absurd (cc)

    parts_in_line : (xs : List Value) (parts : List (List ℕ × Ty)) → PartsOf w xs parts → list_all itself (map is_plain xs) ≡ true → Every InLine (map (written w.names) xs)
    parts_in_line _ _ no_part h k x e = absurd (cc)
    parts_in_line _ _ (one_part v vs part parts is are) h zero x e =
        let same : written w.names v ≡ x = cc in
        let both = and_both (is_plain v) (list_all itself (map is_plain vs)) h in
        subst InLine same (out v (in_line (out-Value v) (out-Ty part.1) is (plain_out v both.0)))
    parts_in_line _ _ (one_part v vs part parts is are) h (suc k) x e =
        parts_in_line vs parts are (and_both (is_plain v) (list_all itself (map is_plain vs)) h).1 k x e

  -- a value's text begins with what isn't a minus, or is a number
  told_in : (x : Value-F Value) (T : Kind) → Of w x T → plain_step (map-Value Value Bool is_plain x) ≡ true
      → InLine (written_step w.names (map-Value Value Written (written w.names) x))
      → CanBeTold (written_step w.names (map-Value Value Written (written w.names) x)).alone
  told_in _ _ (of_bool b) h i = truth_told b
  told_in _ _ (of_int n) h i = told_int n
  told_in _ _ (of_real n) h i = told_real n
  told_in _ _ (of_text bytes short) h i = told_string bytes
  told_in _ _ (of_choice enumeration position name e) h i = name_told enumeration position name e
  told_in _ _ (of_tuple xs parts are) h i = starts 40 _ (λ e. omega arith) i.alone
  told_in _ _ (of_list xs t short each) h i = starts 91 _ (λ e. omega arith) i.alone
  told_in _ _ (of_set xs t short plain ascending each) h i = starts 123 _ (λ e. omega arith) i.alone
  told_in _ _ (of_dictionary xs key has short plain ascending each) h i = starts 123 _ (λ e. omega arith) i.alone
  told_in _ _ (of_channel n t e) h i = absurd (cc)
  told_in _ _ (of_dist d t yields) h i = absurd (cc)
  told_in _ _ (of_timer due) h i = absurd (cc)
  told_in _ _ of_no_instance h i = absurd (cc)
  told_in _ _ (of_instance n l) h i = absurd (cc)

  told_value : (v : Value) (T : Kind) → IsOf w T v → is_plain v ≡ true → CanBeTold (quoted_text w.names v)
  told_value v T is plain =
      let P : Written → Type 0 = λ x. CanBeTold x.alone in
      subst P (sym (fold_out-Value Written (written_step w.names) v))
      (told_in (out-Value v) T is (plain_out v plain) (in_line (out-Value v) T is (plain_out v plain)))

  hidden_told : CanBeTold hidden
  hidden_told = starts 42 [] (λ e. omega arith) refl

  shown_told : (v : Value) (T : Kind) → IsOf w T v → CanBeTold (shown (is_plain v) (quoted_text w.names v))
  shown_told v T is = by (is_plain v) refl
    where
      by_length : (b : Bool) → is_plain v ≡ true → CanBeTold (cond b (quoted_text w.names v) hidden)
      by_length true plain = told_value v T is plain
      by_length false plain = hidden_told

      by : (b : Bool) → is_plain v ≡ b → CanBeTold (shown b (quoted_text w.names v))
      by false e = hidden_told
      by true e = by_length (nat_le (length (quoted_text w.names v)) MOST_SHOWN) e

  pub void_told : is_value_text (sent_text w.names None) ≡ true
  void_told = refl

  pub sent_told : (v : Value) (T : Kind) → IsOf w T v → is_value_text (sent_text w.names (Some v)) ≡ true
  sent_told v T is = value_text _ (shown_told v T is)
