-- The loop that reads a text from the left.
use Rattle.std.proofs.Common.{◌≡◌, ℕ, ◌+◌, ◌<◌, ◌≤◌, Some, None, List, [], ◌∷◌, ◌++◌, length, take, drop, get_or, length-append, length-take, append_assoc, sym, ap, subst, ◌∙◌, arith}
use Rattle.std.specs.Option.{option_map}
use Rattle.std.proofs.lemmas.List.{take-append-drop}
use Rattle.chi_token.specs.declared.token.Token.TheVariants as token
use Rattle.chi_token.specs.Characters.{quote}
use Rattle.chi_token.specs.Prefixes.{longest_prefix}
use Rattle.chi_token.specs.Texts.{meaning}
use Rattle.chi_token.specs.Tokens.{token_spelled_by}
use Rattle.chi_lex.specs.declared.piece.Stop.{Stop}
use Rattle.chi_lex.specs.Stops.{stop_of, text_stop}
use Rattle.chi_lex.specs.TextParts.{StopsText}
use Rattle.chi_lex.proofs.TextLemmas.{meaning-append, meaning-empty}
use Rattle.chi_lex.proofs.TextScan.{longest-text, longest-no_text, stop_of-text}

-- the quote and a run of whole characters are read, and the bytes are what they mean
pub record HasRead (rest left bytes : List ℕ) (passed : ℕ) : Type 0 where
  pub run : List ℕ
  pub whole : quote ∷ run ++ left ≡ rest
  pub means : meaning run ≡ Some bytes
  pub size : passed ≡ 1 + length run
  pub room : passed + length left ≡ length rest

pub HasRead-quote : (rest left : List ℕ) → 0 < length rest → get_or rest 0 0 ≡ quote → left ≡ drop 1 rest → HasRead rest left [] 1
HasRead-quote [] left some first is = absurd (omega arith)
HasRead-quote (c ∷ cs) left some first is =
    record {
      run = [];
      whole = ap (λ xs. quote ∷ xs) is ∙ ap (λ x. x ∷ cs) (sym first);
      means = meaning-empty;
      size = omega arith;
      room = omega (arith, ap length is);
    }

pub HasRead-character : (rest left bytes after : List ℕ) (passed byte size : ℕ) → HasRead rest left bytes passed → meaning (take size left) ≡ Some (byte ∷ []) → size ≤ length left → after ≡ drop size left → HasRead rest after (bytes ++ byte ∷ []) (passed + size)
HasRead-character rest left bytes after passed byte size read is within next =
    let part = take size left in
    let whole : (read.run ++ part) ++ after ≡ read.run ++ left =
    append_assoc read.run part after
    ∙ ap (λ xs. read.run ++ (part ++ xs)) next
    ∙ ap (λ xs. read.run ++ xs) (take-append-drop size left) in
    let split : part ++ after ≡ left = ap (λ xs. part ++ xs) next ∙ take-append-drop size left in
    let old_room = read.room in
    let old_size = read.size in
    record {
      run = read.run ++ part;
      whole = ap (λ xs. quote ∷ xs) whole ∙ read.whole;
      means = meaning-append read.run part bytes read.means ∙ ap (λ o. option_map (λ b. bytes ++ b) o) is;
      size = omega (arith, length-append read.run part, length-take size left);
      room = omega (arith, ap length split, length-append part after, length-take size left);
    }

pub HasRead-closed : (rest left bytes text : List ℕ) (passed : ℕ) → HasRead rest left bytes passed → 0 < length left → get_or left 0 0 ≡ quote → text ≡ bytes → longest_prefix token_spelled_by (length rest) rest ≡ Some (token.Text text, passed + 1)
HasRead-closed rest [] bytes text passed read some closes is = absurd (omega arith)
HasRead-closed rest (c ∷ cs) bytes text passed read some closes is =
    let front = quote ∷ read.run ++ quote ∷ [] in
    let whole : front ++ cs ≡ rest =
    ap (λ xs. quote ∷ xs) (append_assoc read.run (quote ∷ []) cs)
    ∙ ap (λ x. quote ∷ read.run ++ x ∷ cs) (sym closes)
    ∙ read.whole in
    let old_size = read.size in
    let size : length front ≡ passed + 1 = omega (arith, length-append read.run (quote ∷ [])) in
    subst (λ xs. longest_prefix token_spelled_by (length xs) xs ≡ Some (token.Text bytes, length front)) whole
    (longest-text read.run cs bytes read.means)
    ∙ ap (λ n. Some (token.Text bytes, n)) size
    ∙ ap (λ t. Some (token.Text t, passed + 1)) (sym is)

pub HasRead-stopped : (rest left bytes : List ℕ) (passed : ℕ) (stop : Stop) → HasRead rest left bytes passed → StopsText left → text_stop passed left ≡ stop → (longest_prefix token_spelled_by (length rest) rest ≡ None) × (stop ≡ stop_of rest)
HasRead-stopped rest left bytes passed stop read stops is = (
  subst (λ xs. longest_prefix token_spelled_by (length xs) xs ≡ None) read.whole
      (longest-no_text read.run left bytes read.means stops),
  sym is
      ∙ ap (λ n. text_stop n left) read.size
      ∙ sym (stop_of-text read.run left bytes read.means stops)
      ∙ ap (λ xs. stop_of xs) read.whole,
)
