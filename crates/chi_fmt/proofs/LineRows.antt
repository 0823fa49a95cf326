-- The lines of formed statements have sound rows, none without a token, and show the tokens of the source.
use Rattle.std.proofs.Common.{◌≡◌, ℕ, ◌<◌, Bool, true, false, List, [], ◌∷◌, ◌++◌, length, refl, sym, ap, subst, ◌∙◌, arith, append_assoc, append-nil}
use Rattle.chi_token.specs.declared.sign.Sign.TheVariants.{Assign, Colon}
use Rattle.chi_token.specs.declared.token.Token.TheVariants.{Sign}
use Rattle.chi_tree_spell.specs.Words.{Tokens}
use Rattle.chi_tree_spell.specs.Statements.{semicolon_if}
use Rattle.chi_fmt.specs.declared.line.Line.{Line}
use Rattle.chi_fmt.specs.Expressions.{Spots}
use Rattle.chi_fmt.specs.Parts.{sign}
use Rattle.chi_fmt.specs.Lines.{line, header, no_semicolon}
use Rattle.chi_fmt.specs.Reread.{HaveTokens, line_source, semicolon_tokens, source_of, token_at}
use Rattle.chi_fmt.specs.Sound.{AreSound, is_row}
use Rattle.std.proofs.lemmas.List.{map-append}
use Rattle.chi_fmt.proofs.SoundRows.{begins_well, plain-row}
use Rattle.chi_fmt.proofs.Starts.{Ending}

pub record Sources (ls : List Line) (ts : Tokens) : Type 0 where
  pub sound : AreSound ls
  pub have : HaveTokens ls
  pub same : source_of ls ≡ ts

-- one line

same_semicolon : (b : Bool) → semicolon_tokens b ≡ semicolon_if b
same_semicolon true = refl
same_semicolon false = refl

some-spots : (xs : Spots) (ts : Tokens) → Ending xs ts → 0 < length xs
some-spots [] ts e = let no : false ≡ true = e.begins (sign Assign ∷ []) in cc
some-spots (x ∷ xs) ts e = omega arith

sound-spots : (xs : Spots) (ts : Tokens) → Ending xs ts → is_row xs ≡ true
sound-spots xs ts e = subst (λ l. is_row l ≡ true) (append-nil xs) (e.row [] refl refl)

pub one : (l : Line) (ts : Tokens) → Ending l.spots ts → Sources (l ∷ []) (ts ++ semicolon_if l.semicolon.written)
one l ts e = record {
  sound = (sound-spots l.spots ts e, tt);
  have = (some-spots l.spots ts e, tt);
  same = append-nil (line_source l) ∙ ap (λ us. us ++ semicolon_tokens l.semicolon.written) e.same
      ∙ ap (λ us. ts ++ us) (same_semicolon l.semicolon.written);
}

sound-append : (ls ms : List Line) → AreSound ls → AreSound ms → AreSound (ls ++ ms)
sound-append [] ms a b = b
sound-append (l ∷ ls) ms a b = (a.0, sound-append ls ms a.1 b)

have-append : (ls ms : List Line) → HaveTokens ls → HaveTokens ms → HaveTokens (ls ++ ms)
have-append [] ms a b = b
have-append (l ∷ ls) ms a b = (a.0, have-append ls ms a.1 b)

source-append : (ls ms : List Line) → source_of (ls ++ ms) ≡ source_of ls ++ source_of ms
source-append [] ms = refl
source-append (l ∷ ls) ms = ap (λ us. line_source l ++ us) (source-append ls ms) ∙ sym (append_assoc (line_source l) (source_of ls) (source_of ms))

-- lines one after another
pub both : {ls ms : List Line} {ts us : Tokens} → Sources ls ts → Sources ms us → Sources (ls ++ ms) (ts ++ us)
both {ls} {ms} {ts} {us} a b = record {
  sound = sound-append ls ms a.sound b.sound;
  have = have-append ls ms a.have b.have;
  same = source-append ls ms ∙ ap (λ l. l ++ source_of ms) a.same ∙ ap (λ l. ts ++ l) b.same;
}

pub nothing : Sources [] []
nothing = record { sound = tt; have = tt; same = refl }

pub sources_as : {ls ms : List Line} {ts us : Tokens} → ls ≡ ms → ts ≡ us → Sources ms us → Sources ls ts
sources_as {ls} {ms} {ts} {us} e f s = record {
  sound = subst AreSound (sym e) s.sound;
  have = subst HaveTokens (sym e) s.have;
  same = ap source_of e ∙ s.same ∙ sym f;
}

-- a line without a `;` of the source
pub one-plain : (margin : ℕ) (xs : Spots) (ts : Tokens) → Ending xs ts → Sources (line margin xs no_semicolon ∷ []) ts
one-plain margin xs ts e = sources_as refl (sym (append-nil ts)) (one (line margin xs no_semicolon) ts e)

-- a line that ends with a colon
ending-colon : (xs : Spots) (ts : Tokens) → Ending xs ts → Ending (xs ++ sign Colon ∷ []) (ts ++ Sign Colon ∷ [])
ending-colon xs ts e = record {
  begins = λ ys. subst (λ l. begins_well l ≡ true) (sym (append_assoc xs (sign Colon ∷ []) ys)) (e.begins (sign Colon ∷ ys));
  row = λ ys b h. subst (λ l. is_row l ≡ true) (sym (append_assoc xs (sign Colon ∷ []) ys)) (e.row (sign Colon ∷ ys) refl (plain-row (Sign Colon) refl refl ys h));
  same = map-append token_at xs (sign Colon ∷ []) ∙ ap (λ l. l ++ Sign Colon ∷ []) e.same;
}

pub header-one : (margin : ℕ) (xs : Spots) (ts : Tokens) → Ending xs ts → Sources (header margin xs ∷ []) (ts ++ Sign Colon ∷ [])
header-one margin xs ts e = one-plain margin (xs ++ sign Colon ∷ []) (ts ++ Sign Colon ∷ []) (ending-colon xs ts e)
