-- The texts of plain values.
use Rattle.std.specs.Prelude.{ℕ, Bool, true, false, List, [], ◌∷◌, ◌++◌, map, codes}
use Rattle.std.specs.Fmt.{signed_decimal}
use Rattle.chi_num.specs.RealText.{real_text_of}
use Rattle.chi_token.specs.Texts.{quoted}
use Rattle.chi_value.specs.declared.value.Value.{Value, Value-F, fold-Value, out-Value}
use Rattle.chi_value.specs.Names.{name_of}

-- each text after what stands before it
abbrev pub each_after : List ℕ → List (List ℕ) → List ℕ
each_after between [] = []
each_after between (text ∷ texts) = between ++ text ++ each_after between texts

-- texts with something between each two
abbrev pub joined_by : List ℕ → List (List ℕ) → List ℕ
joined_by between [] = []
joined_by between (text ∷ texts) = text ++ each_after between texts

-- texts in brackets, with commas between them
abbrev pub bracketed : List ℕ → List (List ℕ) → List ℕ → List ℕ
bracketed opening texts closing = opening ++ joined_by (codes ", ") texts ++ closing

abbrev pub truth_text : Bool → List ℕ
truth_text true = codes "true"
truth_text false = codes "false"

-- how a value is written within another: by itself, and as an entry of a dictionary
pub record Written : Type 0 where
  pub alone : List ℕ
  pub entry : List ℕ

abbrev pub only : List ℕ → Written
only text = record { alone = text; entry = [] }

abbrev pub alone : Written → List ℕ
alone written = written.alone

abbrev pub entry : Written → List ℕ
entry written = written.entry

abbrev pub written_step : List (List (List ℕ)) → Value-F Written → Written
written_step names (Value-F.Bool truth) = only (truth_text truth)
written_step names (Value-F.Int number) = only (signed_decimal number)
written_step names (Value-F.Real units) = only (real_text_of units)
written_step names (Value-F.Text bytes) = only (quoted bytes)
written_step names (Value-F.Choice kind position) = only (name_of names kind position)
written_step names (Value-F.TupleOf parts) = record {
  alone = bracketed (codes "(") (map alone parts) (codes ")");
  entry = joined_by (codes ": ") (map alone parts);
}
written_step names (Value-F.ListOf items) = only (bracketed (codes "[") (map alone items) (codes "]"))
written_step names (Value-F.SetOf items) = only (bracketed (codes "{") (map alone items) (codes "}"))
written_step names (Value-F.DictOf items) = only (bracketed (codes "{") (map entry items) (codes "}"))
written_step names _ = only []

abbrev pub written : List (List (List ℕ)) → Value → Written
written names = fold-Value Written (written_step names)

-- how values are written within another, and as entries of a dictionary
abbrev pub quoted_texts : List (List (List ℕ)) → List Value → List (List ℕ)
quoted_texts names values = map alone (map (written names) values)

abbrev pub entry_texts : List (List (List ℕ)) → List Value → List (List ℕ)
entry_texts names entries = map entry (map (written names) entries)

-- a value's text with strings in quotes, as within another value
abbrev pub quoted_text : List (List (List ℕ)) → Value → List ℕ
quoted_text names value = (written names value).alone

-- the text of a dictionary's entry: the key, a colon, and what it has
abbrev pub entry_text : List (List (List ℕ)) → Value → List ℕ
entry_text names value = (written names value).entry

abbrev pub own_text : Value-F Value → List ℕ → List ℕ
own_text (Value-F.Text bytes) quoted = bytes
own_text _ quoted = quoted

-- a value's text: a string's own bytes, and else as within another value
abbrev pub text : List (List (List ℕ)) → Value → List ℕ
text names value = own_text (out-Value value) (quoted_text names value)
