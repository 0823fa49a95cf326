-- Texts that are made piece by piece.
use Rattle.std.proofs.Common.{◌≡◌, ℕ, ◌+◌, ◌-◌, ◌<◌, Bool, List, [], ◌∷◌, ◌++◌, length, get_or, take, drop, sym, ap, ◌∙◌}
use Rattle.std.specs.Prelude.{codes}
use Rattle.std.specs.List.{flat_map}
use Rattle.std.proofs.lemmas.List.{append_assoc, drop_more}
use Rattle.chi_core.specs.declared.act.Act.{Act}
use Rattle.chi_core.specs.Config.{Config, Offer}
use Rattle.chi_explain_waiting.specs.Joins.{is_in_ring, not_over, once}
use Rattle.chi_explain_waiting.specs.Partners.{is_answered}
use Rattle.chi_explain_waiting.specs.WaitingText.{act_words, and_more, joins_told, left_told, listed, offer_told, open_told, ring_told}

-- one piece after another
two : (old a b mid new : List ℕ) → new ≡ mid ++ b → mid ≡ old ++ a → new ≡ old ++ (a ++ b)
two old a b mid new is before = is ∙ ap (λ (t : List ℕ). t ++ b) before ∙ append_assoc old a b

pub offer-told : (config : Config) (p : ℕ) (o : Offer) (act : Act) (answered : Bool) (old mid new : List ℕ) → new ≡ mid ++ 10 ∷ []
    → mid ≡ old ++ act_words answered act → answered ≡ is_answered config p act → act ≡ o.act → new ≡ old ++ offer_told config p o
offer-told config p o act answered old mid new is before asked same =
    two old (act_words answered act) (10 ∷ []) mid new is before
    ∙ ap (λ (b : Bool). old ++ (act_words b act ++ 10 ∷ [])) asked
    ∙ ap (λ (a : Act). old ++ (act_words (is_answered config p a) a ++ 10 ∷ [])) same

pub open-told : (config : Config) (p : ℕ) (offers told : List Offer) (more : ℕ) (old mid new : List ℕ)
    → new ≡ mid ++ and_more (codes "  more alternatives: ") more → mid ≡ old ++ flat_map (offer_told config p) told → told ≡ take 100 offers
    → more ≡ length offers - 100 → new ≡ old ++ open_told config p offers
open-told config p offers told more old mid new is before first rest =
    two old (flat_map (offer_told config p) told) (and_more (codes "  more alternatives: ") more) mid new is before
    ∙ ap (λ (ts : List Offer). old ++ (flat_map (offer_told config p) ts ++ and_more (codes "  more alternatives: ") more)) first
    ∙ ap (λ (m : ℕ). old ++ (flat_map (offer_told config p) (take 100 offers) ++ and_more (codes "  more alternatives: ") m)) rest

pub left-told : (config : Config) (p : ℕ) (left told : List ℕ) (more : ℕ) (ring : Bool) (old a b c d new : List ℕ) → new ≡ d ++ ring_told ring
    → d ≡ c ++ and_more (codes "  more instances: ") more → c ≡ b ++ 10 ∷ [] → b ≡ a ++ listed told → a ≡ old ++ codes "  waits for instances to finish: "
    → told ≡ take 100 left → more ≡ length left - 100 → ring ≡ is_in_ring config p → new ≡ old ++ left_told config p left
left-told config p left told more ring old a b c d new is d_is c_is b_is a_is first rest asked =
    let words : List ℕ = codes "  waits for instances to finish: " in
    let line : c ≡ old ++ ((words ++ listed told) ++ 10 ∷ []) =
    two old (words ++ listed told) (10 ∷ []) b c c_is (two old words (listed told) a b b_is a_is) in
    let rests : List ℕ = and_more (codes "  more instances: ") more in
    let all : d ≡ old ++ (((words ++ listed told) ++ 10 ∷ []) ++ rests) = two old ((words ++ listed told) ++ 10 ∷ []) rests c d d_is line in
    two old (((words ++ listed told) ++ 10 ∷ []) ++ rests) (ring_told ring) d new is all
    ∙ ap (λ (ts : List ℕ). old ++ ((((words ++ listed ts) ++ 10 ∷ []) ++ rests) ++ ring_told ring)) first
    ∙ ap (λ (m : ℕ). old ++ ((((words ++ listed (take 100 left)) ++ 10 ∷ []) ++ and_more (codes "  more instances: ") m) ++ ring_told ring)) rest
    ∙ ap (λ (r : Bool). old ++ ((((words ++ listed (take 100 left)) ++ 10 ∷ []) ++ and_more (codes "  more instances: ") (length left - 100)) ++ ring_told r)) asked

pub joining-told : (config : Config) (p : ℕ) (pids some taken left given old new : List ℕ) → new ≡ old ++ joins_told config p pids given → given ≡ left
    → left ≡ once taken → taken ≡ some → some ≡ not_over config pids → new ≡ old ++ joins_told config p pids (once (not_over config pids))
joining-told config p pids some taken left given old new is same each that those =
    is ∙ ap (λ (ns : List ℕ). old ++ joins_told config p pids ns) (same ∙ each ∙ ap once (that ∙ those))

pub texts-more : (f : ℕ → List ℕ) (pids : List ℕ) (i : ℕ) (old new told given all : List ℕ) → old ++ flat_map f (drop i pids) ≡ all → i < length pids
    → new ≡ old ++ given → given ≡ told → told ≡ f (get_or pids i 0) → new ++ flat_map f (drop (i + 1) pids) ≡ all
texts-more f pids i old new told given all before l is same those =
    ap (λ (t : List ℕ). t ++ flat_map f (drop (i + 1) pids)) (is ∙ ap (λ (t : List ℕ). old ++ t) (same ∙ those))
    ∙ append_assoc old (f (get_or pids i 0)) (flat_map f (drop (i + 1) pids))
    ∙ ap (λ (ns : List ℕ). old ++ flat_map f ns) (sym (drop_more pids i 0 l))
    ∙ before

pub all-told : (f : ℕ → List ℕ) (words some pids given told : List ℕ) (more : ℕ) (text new : List ℕ) → new ≡ text ++ and_more words more
    → text ≡ flat_map f told → told ≡ take 100 given → more ≡ length given - 100 → given ≡ pids → pids ≡ some
    → new ≡ flat_map f (take 100 some) ++ and_more words (length some - 100)
all-told f words some pids given told more text new is before first rest same those =
    is ∙ ap (λ (t : List ℕ). t ++ and_more words more) before
    ∙ ap (λ (ts : List ℕ). flat_map f ts ++ and_more words more) first
    ∙ ap (λ (m : ℕ). flat_map f (take 100 given) ++ and_more words m) rest
    ∙ ap (λ (ns : List ℕ). flat_map f (take 100 ns) ++ and_more words (length ns - 100)) (same ∙ those)

pub ruleset writing = (offer-told)
