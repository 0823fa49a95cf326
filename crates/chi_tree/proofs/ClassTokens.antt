-- The token of a class and its bytes.
use Rattle.std.proofs.Common.{◌≡◌, ◌==◌, ℕ, zero, suc, ◌-◌, Bool, true, false, ◌||◌, Option, List, [], ◌∷◌, map, refl, sym, ap, ◌∙◌}
use Rattle.std.proofs.lemmas.Bool.{eqb-true, false≢true}
use Rattle.chi_grammar.specs.Lookahead.{holds}
use Rattle.chi_token.specs.declared.keyword.Keyword.{Keyword}
use Rattle.chi_token.specs.declared.keyword.Keyword.TheVariants as keyword
use Rattle.chi_token.specs.declared.sign.Sign.{Sign}
use Rattle.chi_token.specs.declared.sign.Sign.TheVariants as sign
use Rattle.chi_token.specs.declared.token.Token.{Token}
use Rattle.chi_token.specs.declared.token.Token.TheVariants as token
use Rattle.chi_tree.specs.declared.class.Class.{Class}
use Rattle.chi_tree.specs.Classes.{class_of, number_of}
use Rattle.chi_tree.specs.Statements.{is_some}
use Rattle.chi_tree.specs.Tokens.{bytes_of}

abbrev keywords : List Keyword
keywords =
    keyword.AltWord ∷ keyword.AndWord ∷ keyword.BoolWord ∷ keyword.BreakWord ∷ keyword.ChanWord ∷ keyword.ConstWord ∷
    keyword.ContinueWord ∷ keyword.DelayWord ∷ keyword.DictWord ∷ keyword.DistWord ∷ keyword.DivWord ∷ keyword.ElifWord ∷
    keyword.ElseWord ∷ keyword.EndWord ∷ keyword.EnumWord ∷ keyword.ExitWord ∷ keyword.FalseWord ∷ keyword.FinishWord ∷ keyword.ForWord ∷
    keyword.FuncWord ∷ keyword.IfWord ∷ keyword.InWord ∷ keyword.InstWord ∷ keyword.IntWord ∷ keyword.ListWord ∷ keyword.ModWord ∷
    keyword.ModelWord ∷ keyword.NotWord ∷ keyword.OrWord ∷ keyword.PassWord ∷ keyword.ProcWord ∷ keyword.RealWord ∷ keyword.ReturnWord ∷
    keyword.RunWord ∷ keyword.SampleWord ∷ keyword.SelectWord ∷ keyword.SetWord ∷ keyword.StartWord ∷ keyword.StringWord ∷
    keyword.SubWord ∷ keyword.TimeWord ∷ keyword.TimerWord ∷ keyword.TrueWord ∷ keyword.TupleWord ∷ keyword.TypeWord ∷
    keyword.UnwindWord ∷ keyword.VoidWord ∷ keyword.WhileWord ∷ keyword.WriteWord ∷ keyword.WritelnWord ∷ keyword.XperWord ∷ []

abbrev signs : List Sign
signs =
    sign.LeftParen ∷ sign.RightParen ∷ sign.LeftBracket ∷ sign.RightBracket ∷ sign.LeftBrace ∷ sign.RightBrace ∷ sign.Less ∷
    sign.LessEqual ∷ sign.Equal ∷ sign.NotEqual ∷ sign.Greater ∷ sign.GreaterEqual ∷ sign.Assign ∷ sign.Plus ∷ sign.Minus ∷ sign.Star ∷
    sign.Slash ∷ sign.Caret ∷ sign.Bang ∷ sign.Question ∷ sign.Comma ∷ sign.Semicolon ∷ sign.Colon ∷ sign.Dot ∷ []

abbrev keyword_at : List Keyword → ℕ → Keyword
keyword_at [] n = keyword.AltWord
keyword_at (k ∷ ks) zero = k
keyword_at (k ∷ ks) (suc n) = keyword_at ks n

abbrev word_or_sign : List Sign → ℕ → Token
word_or_sign [] n = token.Word (keyword_at keywords (n - 36))
word_or_sign (k ∷ ks) zero = token.Sign k
word_or_sign (k ∷ ks) (suc n) = word_or_sign ks n

-- the token of the class with this number that has these bytes
abbrev pub token_at : ℕ → List ℕ → Token
token_at zero bytes = token.Name bytes
token_at (suc zero) bytes = token.Int bytes
token_at (suc (suc zero)) bytes = token.Real bytes
token_at (suc (suc (suc zero))) bytes = token.Text bytes
token_at (suc (suc (suc (suc n)))) bytes = word_or_sign signs n

pub at_its_class : (t : Token) → t ≡ token_at (number_of (class_of t)) (bytes_of t)
at_its_class (token.Name bytes) = refl
at_its_class (token.Int bytes) = refl
at_its_class (token.Real bytes) = refl
at_its_class (token.Text bytes) = refl
at_its_class (token.Sign sign.LeftParen) = refl
at_its_class (token.Sign sign.RightParen) = refl
at_its_class (token.Sign sign.LeftBracket) = refl
at_its_class (token.Sign sign.RightBracket) = refl
at_its_class (token.Sign sign.LeftBrace) = refl
at_its_class (token.Sign sign.RightBrace) = refl
at_its_class (token.Sign sign.Less) = refl
at_its_class (token.Sign sign.LessEqual) = refl
at_its_class (token.Sign sign.Equal) = refl
at_its_class (token.Sign sign.NotEqual) = refl
at_its_class (token.Sign sign.Greater) = refl
at_its_class (token.Sign sign.GreaterEqual) = refl
at_its_class (token.Sign sign.Assign) = refl
at_its_class (token.Sign sign.Plus) = refl
at_its_class (token.Sign sign.Minus) = refl
at_its_class (token.Sign sign.Star) = refl
at_its_class (token.Sign sign.Slash) = refl
at_its_class (token.Sign sign.Caret) = refl
at_its_class (token.Sign sign.Bang) = refl
at_its_class (token.Sign sign.Question) = refl
at_its_class (token.Sign sign.Comma) = refl
at_its_class (token.Sign sign.Semicolon) = refl
at_its_class (token.Sign sign.Colon) = refl
at_its_class (token.Sign sign.Dot) = refl
at_its_class (token.Word keyword.AltWord) = refl
at_its_class (token.Word keyword.AndWord) = refl
at_its_class (token.Word keyword.BoolWord) = refl
at_its_class (token.Word keyword.BreakWord) = refl
at_its_class (token.Word keyword.ChanWord) = refl
at_its_class (token.Word keyword.ConstWord) = refl
at_its_class (token.Word keyword.ContinueWord) = refl
at_its_class (token.Word keyword.DelayWord) = refl
at_its_class (token.Word keyword.DictWord) = refl
at_its_class (token.Word keyword.DistWord) = refl
at_its_class (token.Word keyword.DivWord) = refl
at_its_class (token.Word keyword.ElifWord) = refl
at_its_class (token.Word keyword.ElseWord) = refl
at_its_class (token.Word keyword.EndWord) = refl
at_its_class (token.Word keyword.EnumWord) = refl
at_its_class (token.Word keyword.ExitWord) = refl
at_its_class (token.Word keyword.FalseWord) = refl
at_its_class (token.Word keyword.FinishWord) = refl
at_its_class (token.Word keyword.ForWord) = refl
at_its_class (token.Word keyword.FuncWord) = refl
at_its_class (token.Word keyword.IfWord) = refl
at_its_class (token.Word keyword.InWord) = refl
at_its_class (token.Word keyword.InstWord) = refl
at_its_class (token.Word keyword.IntWord) = refl
at_its_class (token.Word keyword.ListWord) = refl
at_its_class (token.Word keyword.ModWord) = refl
at_its_class (token.Word keyword.ModelWord) = refl
at_its_class (token.Word keyword.NotWord) = refl
at_its_class (token.Word keyword.OrWord) = refl
at_its_class (token.Word keyword.PassWord) = refl
at_its_class (token.Word keyword.ProcWord) = refl
at_its_class (token.Word keyword.RealWord) = refl
at_its_class (token.Word keyword.ReturnWord) = refl
at_its_class (token.Word keyword.RunWord) = refl
at_its_class (token.Word keyword.SampleWord) = refl
at_its_class (token.Word keyword.SelectWord) = refl
at_its_class (token.Word keyword.SetWord) = refl
at_its_class (token.Word keyword.StartWord) = refl
at_its_class (token.Word keyword.StringWord) = refl
at_its_class (token.Word keyword.SubWord) = refl
at_its_class (token.Word keyword.TimeWord) = refl
at_its_class (token.Word keyword.TimerWord) = refl
at_its_class (token.Word keyword.TrueWord) = refl
at_its_class (token.Word keyword.TupleWord) = refl
at_its_class (token.Word keyword.TypeWord) = refl
at_its_class (token.Word keyword.UnwindWord) = refl
at_its_class (token.Word keyword.VoidWord) = refl
at_its_class (token.Word keyword.WhileWord) = refl
at_its_class (token.Word keyword.WriteWord) = refl
at_its_class (token.Word keyword.WritelnWord) = refl
at_its_class (token.Word keyword.XperWord) = refl

pub token_is : (t : Token) {n : ℕ} → number_of (class_of t) ≡ n → t ≡ token_at n (bytes_of t)
token_is t e = at_its_class t ∙ ap (λ n. token_at n (bytes_of t)) e

-- a table has a row for the token of each of the classes
abbrev pub HasRows : {T : Type 0} → (Token → Option T) → List Class → Type 0
HasRows table [] = Unit {0}
HasRows table (c ∷ cs) = ((bytes : List ℕ) → is_some (table (token_at (number_of c) bytes)) ≡ true) × HasRows table cs

-- so it has one for each token that is of one of them
pub row_of : {T : Type 0} (table : Token → Option T) (cs : List Class) → HasRows table cs
    → (t : Token) → holds (map number_of cs) (number_of (class_of t)) ≡ true → is_some (table t) ≡ true
row_of table [] rows t h = absurd (false≢true h)
row_of table (c ∷ cs) rows t h = by (number_of c == number_of (class_of t)) refl h (row_of table cs rows.1 t)
  where
    by : (b : Bool) → (number_of c == number_of (class_of t)) ≡ b → (b || holds (map number_of cs) (number_of (class_of t))) ≡ true
        → (holds (map number_of cs) (number_of (class_of t)) ≡ true → is_some (table t) ≡ true) → is_some (table t) ≡ true
    by true is h others =
        let same : t ≡ token_at (number_of c) (bytes_of t) = token_is t (sym (eqb-true (number_of c) (number_of (class_of t)) is)) in
        ap (λ u. is_some (table u)) same ∙ rows.0 (bytes_of t)
    by false is h others = others h
