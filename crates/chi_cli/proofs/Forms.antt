-- The forms of a word, as clap sees them and as the definitions do.
use Rattle.std.proofs.Common.{◌≡◌, ◌==◌, ℕ, Bool, true, false, [], ◌∷◌, Option, Some, None, if◌then◌else◌, refl, sym, ap, subst, one-add, suc-add}
use Rattle.std.specs.Prelude.{bytes_eq}
use Rattle.std.specs.List.{after_first, before_first}
use Rattle.std.proofs.lemmas.Bool.{eqb-true}
use Rattle.clap.specs.Lexer.{has_byte, long_of, name_and_value, short_of}
use Rattle.chi_cli.specs.declared.command.Command.{Command}
use Rattle.chi_cli.specs.Commands.{Text, option_named}
use Rattle.chi_cli.specs.Splitting.{any_word, is_plain, name_in, option_or_unfit, plain, unfit, value_in}

abbrev pub hyphens : Text
hyphens = 45 ∷ 45 ∷ []

pub data Form (word : Text) : Type 0 where
  plain_form : bytes_eq word hyphens ≡ false → long_of word ≡ None → short_of word ≡ None → ((c : Command) → any_word c word ≡ plain)
      → is_plain word ≡ true → Form word
  end_form : word ≡ hyphens → Form word
  long_form : (name : Text) (value : Option Text) → bytes_eq word hyphens ≡ false → long_of word ≡ Some (name, value)
      → ((c : Command) → any_word c word ≡ option_or_unfit (option_named c name) value) → is_plain word ≡ false → Form word
  short_form : (x : ℕ) (xs : Text) → word ≡ 45 ∷ x ∷ xs → bytes_eq word hyphens ≡ false → long_of word ≡ None → short_of word ≡ Some (x ∷ xs)
      → ((c : Command) → any_word c word ≡ unfit) → is_plain word ≡ false → Form word

names : (text : Text) → before_first (λ x. x == 61) text ≡ name_in text
names [] = refl
names (x ∷ xs) = each (x == 61) refl (names xs) where
  each : (equals : Bool) → (x == 61) ≡ equals → before_first (λ y. y == 61) xs ≡ name_in xs → before_first (λ y. y == 61) (x ∷ xs) ≡ name_in (x ∷ xs)
  each true is later = rw is refl
  each false is later = rw (is, one-add) (ap (λ (rest : Text). x ∷ rest) later)

abbrev at_value : Text → Text
at_value text = after_first (λ x. x == 61) text

values : (text : Text) → (if has_byte 61 text then Some (at_value text) else None) ≡ value_in text
values [] = refl
values (x ∷ xs) = each (x == 61) refl (values xs) where
  one_on : at_value (x ∷ xs) ≡ (if x == 61 then xs else at_value xs)
  one_on = past (x == 61) refl where
    past : (equals : Bool) → (x == 61) ≡ equals → at_value (x ∷ xs) ≡ (if x == 61 then xs else at_value xs)
    past true is = rw is refl
    past false is = rw (is, one-add, suc-add) refl

  each : (equals : Bool) → (x == 61) ≡ equals → (if has_byte 61 xs then Some (at_value xs) else None) ≡ value_in xs
      → (if has_byte 61 (x ∷ xs) then Some (at_value (x ∷ xs)) else None) ≡ value_in (x ∷ xs)
  each true is later = rw (one_on, is) refl
  each false is later = rw (one_on, is) later

name_value : (text : Text) → name_and_value text ≡ (name_in text, value_in text)
name_value text = λ i. (names text i, values text i)

after_two : (cs : Text) → Form (45 ∷ 45 ∷ cs)
after_two [] = end_form refl
after_two (x ∷ xs) = long_form (name_in (x ∷ xs)) (value_in (x ∷ xs)) refl (ap (λ p. Some p) (name_value (x ∷ xs))) (λ c. refl) refl

after_one : (cs : Text) → Form (45 ∷ cs)
after_one [] = plain_form refl refl refl (λ c. refl) refl
after_one (x ∷ xs) = each (x == 45) refl where
  each : (hyphen : Bool) → (x == 45) ≡ hyphen → Form (45 ∷ x ∷ xs)
  each true is = subst (λ (y : ℕ). Form (45 ∷ y ∷ xs)) (sym (eqb-true x 45 is)) (after_two xs)
  each false is = short_form x xs refl (rw is refl) (rw is refl) (rw is refl) (λ c. rw is refl) refl

not_hyphen : (c : ℕ) (cs : Text) → (c == 45) ≡ false → is_plain (c ∷ cs) ≡ true
not_hyphen c [] is = refl
not_hyphen c (d ∷ ds) is = rw is refl

pub form : (word : Text) → Form word
form [] = plain_form refl refl refl (λ c. refl) refl
form (c ∷ cs) = each (c == 45) refl where
  each : (hyphen : Bool) → (c == 45) ≡ hyphen → Form (c ∷ cs)
  each true is = subst (λ (x : ℕ). Form (x ∷ cs)) (sym (eqb-true c 45 is)) (after_one cs)
  each false is = plain_form (rw is refl) (rw is refl) (rw is refl) (λ c. rw is refl) (not_hyphen c cs is)
