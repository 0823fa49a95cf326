-- Lists of those that communicate and of those that wait, and who is reached by them.
use Rattle.std.proofs.Common.{◌≡◌, ℕ, ◌+◌, ◌<◌, ◌≤◌, ℤ, List, [], ◌∷◌, ◌++◌, Option, Some, None, length, get_or, ◌⊎◌, inl, inr, sym, ◌∙◌, subst, refl, arith}
use Rattle.std.specs.List.{slice_get, Contains}
use Rattle.std.proofs.lemmas.Option.{slice_get_within, slice_get_past, slice_get_read}
use Rattle.chi_core.specs.declared.act.Act.{Act}
use Rattle.chi_core.specs.declared.act.Act.TheVariants.{Send, Receive, Delay}
use Rattle.chi_core.specs.Config.{Instance, Offer, offers_in}
use Rattle.chi_value.specs.declared.value.Value.{Value}
use Rattle.chi_plain_options.specs.declared.parties.Parties.{Parties}
use Rattle.chi_plain_options.specs.Reaching.{Covers, CoversFrom, ReachesBy, ReachesIn, Reaches}
use Rattle.chi_plain_options.specs.Listing.{IsJoiner, IsListedFor, IsParty, IsPartyBy, IsPartyIn, Keeps, KeepsLists, KeepsParties, listed_at, waited_in}
use Rattle.chi_plain_options.proofs.Lists.{get_or-within}
use Rattle.chi_plain_options.proofs.Keeping.{keeps-refl, keeps-trans, keeps-more, keeps-added, contains-pushed}

-- parties

pub parties-refl : (parties : Parties) → KeepsParties parties parties
parties-refl parties = record { senders = λ channel q c. c; receivers = λ channel q c. c }

pub parties-trans : (a b d : Parties) → KeepsParties a b → KeepsParties b d → KeepsParties a d
parties-trans a b d f g = record {
  senders = λ channel q c. g.senders channel q (f.senders channel q c);
  receivers = λ channel q c. g.receivers channel q (f.receivers channel q c);
}

pub senders-kept : (a b : Parties) → KeepsLists a.senders b.senders → b.receivers ≡ a.receivers → KeepsParties a b
senders-kept a b keeps same = record {
  senders = keeps;
  receivers = λ channel q c. subst (λ (l : List (List ℕ)). Contains (listed_at l channel) q) (sym same) c;
}

pub receivers-kept : (a b : Parties) → KeepsLists a.receivers b.receivers → b.senders ≡ a.senders → KeepsParties a b
receivers-kept a b keeps same = record {
  senders = λ channel q c. subst (λ (l : List (List ℕ)). Contains (listed_at l channel) q) (sym same) c;
  receivers = keeps;
}

pub party-send : (parties : Parties) (p channel : ℕ) (x : Option Value) (act : Act) → act ≡ Send channel x → Contains (listed_at parties.senders channel) p
    → IsPartyBy parties p act
party-send parties p channel x act is c = subst (λ (a : Act). IsPartyBy parties p a) (sym is) c

pub party-receive : (parties : Parties) (p channel : ℕ) (slot : Option ℕ) (act : Act) → act ≡ Receive channel slot
    → Contains (listed_at parties.receivers channel) p → IsPartyBy parties p act
party-receive parties p channel slot act is c = subst (λ (a : Act). IsPartyBy parties p a) (sym is) c

pub party-delay : (parties : Parties) (p : ℕ) (due : ℤ) (act : Act) → act ≡ Delay due → IsPartyBy parties p act
party-delay parties p due act is = subst (λ (a : Act). IsPartyBy parties p a) (sym is) tt

party_by-kept : (a b : Parties) (p : ℕ) (act : Act) → KeepsParties a b → IsPartyBy a p act → IsPartyBy b p act
party_by-kept a b p (Send channel x) keeps h = keeps.senders channel p h
party_by-kept a b p (Receive channel slot) keeps h = keeps.receivers channel p h
party_by-kept a b p (Delay due) keeps h = tt

pub party_in-kept : (a b : Parties) (p : ℕ) (offers : List Offer) → KeepsParties a b → IsPartyIn a p offers → IsPartyIn b p offers
party_in-kept a b p offers keeps h k o at = party_by-kept a b p o.act keeps (h k o at)

pub party-kept : (a b : Parties) (p : ℕ) (o : Option Instance) → KeepsParties a b → IsParty a p o → IsParty b p o
party-kept a b p None keeps h = tt
party-kept a b p (Some i) keeps h = party_in-kept a b p (offers_in i.state) keeps h

pub lists-refl : (lists : List (List ℕ)) → KeepsLists lists lists
lists-refl lists number q c = c

pub lists-trans : (a b d : List (List ℕ)) → KeepsLists a b → KeepsLists b d → KeepsLists a d
lists-trans a b d f g number q c = g number q (f number q c)

pub joiner-kept : (a b : List (List ℕ)) (p : ℕ) (o : Option Instance) → KeepsLists a b → IsJoiner a p o → IsJoiner b p o
joiner-kept a b p None keeps h = tt
joiner-kept a b p (Some i) keeps h = λ r c. keeps r p (h r c)

-- an offer of the first n
cases_below : (P : ℕ → Type 0) (n : ℕ) → ((k : ℕ) → k < n → P k) → P n → (k : ℕ) → k < n + 1 → P k
cases_below P n before here k h = by_cases (let c : (k < n) ⊎ (k ≡ n) = grind arith in c)
  where
    by_cases : (k < n) ⊎ (k ≡ n) → P k
    by_cases (inl l) = before k l
    by_cases (inr e) = subst P (sym e) here

-- of each of the first n offers, one after another
abbrev pub EachBelow : (P : Act → Type 0) → List Offer → ℕ → Type 0
EachBelow P offers n = (k : ℕ) → k < n → (o : Offer) → slice_get offers k ≡ Some o → P o.act

each_below-more : (P Q : Act → Type 0) (n : ℕ) (offers : List Offer) (o : Offer) → EachBelow P offers n → ((a : Act) → P a → Q a) → n < length offers
    → o ≡ get_or offers n o → Q o.act → EachBelow Q offers (n + 1)
each_below-more P Q n offers o below stays h is here =
    cases_below (λ k. (x : Offer) → slice_get offers k ≡ Some x → Q x.act) n (λ k l x at. stays x.act (below k l x at))
    (λ x at.
    let both : Some x ≡ Some o = sym at ∙ slice_get_read offers (length offers) n o refl h is in
    let same : x ≡ o = cc in
    subst (λ (y : Offer). Q y.act) (sym same) here)

each_below-all : (P : Act → Type 0) (n : ℕ) (offers : List Offer) → EachBelow P offers n → length offers ≤ n → (k : ℕ) (o : Offer) → slice_get offers k ≡ Some o
    → P o.act
each_below-all P n offers below all k o at = below k (let h = slice_get_within offers k o at in omega (arith, h, all)) o at

abbrev pub PartyBelow : Parties → ℕ → List Offer → ℕ → Type 0
PartyBelow parties p offers n = EachBelow (IsPartyBy parties p) offers n

pub party_below-none : (parties : Parties) (p : ℕ) (offers : List Offer) → PartyBelow parties p offers 0
party_below-none parties p offers k h = absurd (omega arith)

pub party_below-more : (a b : Parties) (p n : ℕ) (offers : List Offer) (o : Offer) → PartyBelow a p offers n → KeepsParties a b → n < length offers
    → o ≡ get_or offers n o → IsPartyBy b p o.act → PartyBelow b p offers (n + 1)
party_below-more a b p n offers o below keeps h is by =
    each_below-more (IsPartyBy a p) (IsPartyBy b p) n offers o below (λ act. party_by-kept a b p act keeps) h is by

pub party_below-all : (parties : Parties) (p n : ℕ) (offers : List Offer) → PartyBelow parties p offers n → length offers ≤ n → IsPartyIn parties p offers
party_below-all parties p n offers below all = each_below-all (IsPartyBy parties p) n offers below all

pub party-some : (parties : Parties) (p : ℕ) (m : Option Instance) (i : Instance) (offers : List Offer) → m ≡ Some i → offers ≡ offers_in i.state
    → IsPartyIn parties p offers → IsParty parties p m
party-some parties p m i offers at is h =
    subst (λ (o : Option Instance). IsParty parties p o) (sym at) (subst (λ (l : List Offer). IsPartyIn parties p l) is h)

pub party-none : (parties : Parties) (p : ℕ) (m : Option Instance) → m ≡ None → IsParty parties p m
party-none parties p m at = subst (λ (o : Option Instance). IsParty parties p o) (sym at) tt

pub joiner-some : (joiners : List (List ℕ)) (p : ℕ) (m : Option Instance) (i : Instance) (waited : List ℕ) → m ≡ Some i → waited ≡ waited_in i.state
    → IsListedFor joiners p waited → IsJoiner joiners p m
joiner-some joiners p m i waited at is h =
    subst (λ (o : Option Instance). IsJoiner joiners p o) (sym at) (subst (λ (l : List ℕ). IsListedFor joiners p l) is h)

pub joiner-none : (joiners : List (List ℕ)) (p : ℕ) (m : Option Instance) → m ≡ None → IsJoiner joiners p m
joiner-none joiners p m at = subst (λ (o : Option Instance). IsJoiner joiners p o) (sym at) tt

-- in the lists of the first n of those for which it waits
abbrev pub ListedForBelow : List (List ℕ) → ℕ → List ℕ → ℕ → Type 0
ListedForBelow joiners p waited n = (k : ℕ) → k < n → Contains (listed_at joiners (get_or waited k 0)) p

pub listed_for_below-none : (joiners : List (List ℕ)) (p : ℕ) (waited : List ℕ) → ListedForBelow joiners p waited 0
listed_for_below-none joiners p waited k h = absurd (omega (arith, h))

pub listed_for_below-more : (a b : List (List ℕ)) (p n q : ℕ) (waited : List ℕ) → ListedForBelow a p waited n → KeepsLists a b → q ≡ get_or waited n 0
    → Contains (listed_at b q) p → ListedForBelow b p waited (n + 1)
listed_for_below-more a b p n q waited below keeps is c =
    cases_below (λ k. Contains (listed_at b (get_or waited k 0)) p) n (λ k l. keeps (get_or waited k 0) p (below k l))
    (subst (λ (r : ℕ). Contains (listed_at b r) p) is c)

pub listed_for_below-all : (joiners : List (List ℕ)) (p n : ℕ) (waited : List ℕ) → ListedForBelow joiners p waited n → length waited ≤ n → IsListedFor joiners p waited
listed_for_below-all joiners p n waited below all r c =
    let h = c.1 in
    subst (λ (q : ℕ). Contains (listed_at joiners q) p) (get_or-within waited c.0 0 r h ∙ c.2) (below c.0 (omega (arith, h, all)))

-- who is reached

pub reaches-send : (parties : Parties) (channel : ℕ) (x : Option Value) (act : Act) (some : List ℕ) → act ≡ Send channel x → ReachesBy parties act some
reaches-send parties channel x act some is = subst (λ (a : Act). ReachesBy parties a some) (sym is) tt

pub reaches-delay : (parties : Parties) (due : ℤ) (act : Act) (some : List ℕ) → act ≡ Delay due → ReachesBy parties act some
reaches-delay parties due act some is = subst (λ (a : Act). ReachesBy parties a some) (sym is) tt

pub reaches-receive : (parties : Parties) (channel : ℕ) (slot : Option ℕ) (act : Act) (before some : List ℕ) → act ≡ Receive channel slot
    → some ≡ before ++ listed_at parties.senders channel → ReachesBy parties act some
reaches-receive parties channel slot act before some is e =
    subst (λ (a : Act). ReachesBy parties a some) (sym is) (keeps-added before some (listed_at parties.senders channel) e)

reaches_by-kept : (parties : Parties) (act : Act) (a b : List ℕ) → Keeps a b → ReachesBy parties act a → ReachesBy parties act b
reaches_by-kept parties (Send channel x) a b keeps h = tt
reaches_by-kept parties (Receive channel slot) a b keeps h = λ q c. keeps q (h q c)
reaches_by-kept parties (Delay due) a b keeps h = tt

abbrev pub ReachesBelow : Parties → List Offer → List ℕ → ℕ → Type 0
ReachesBelow parties offers some n = EachBelow (λ act. ReachesBy parties act some) offers n

pub reaches_below-none : (parties : Parties) (offers : List Offer) (some : List ℕ) → ReachesBelow parties offers some 0
reaches_below-none parties offers some k h = absurd (omega arith)

pub reaches_below-more : (parties : Parties) (n : ℕ) (offers : List Offer) (o : Offer) (a b : List ℕ) → ReachesBelow parties offers a n → Keeps a b → n < length offers
    → o ≡ get_or offers n o → ReachesBy parties o.act b → ReachesBelow parties offers b (n + 1)
reaches_below-more parties n offers o a b below keeps h is by =
    each_below-more (λ act. ReachesBy parties act a) (λ act. ReachesBy parties act b) n offers o below (λ act. reaches_by-kept parties act a b keeps) h is by

pub reaches_below-all : (parties : Parties) (n : ℕ) (offers : List Offer) (some : List ℕ) → ReachesBelow parties offers some n → length offers ≤ n
    → ReachesIn parties offers some
reaches_below-all parties n offers some below all = each_below-all (λ act. ReachesBy parties act some) n offers below all

reaches-kept : (parties : Parties) (o : Option Instance) (a b : List ℕ) → Keeps a b → Reaches parties o a → Reaches parties o b
reaches-kept parties None a b keeps h = tt
reaches-kept parties (Some i) a b keeps h = λ k o at. reaches_by-kept parties o.act a b keeps (h k o at)

pub covers-kept : (parties : Parties) (is : List Instance) (p : ℕ) (a b : List ℕ) → Covers parties is p a → Keeps a b → Covers parties is p b
covers-kept parties is p a b h keeps = record { itself = keeps p h.itself; reaches = reaches-kept parties (slice_get is p) a b keeps h.reaches }

pub covers-some : (parties : Parties) (is : List Instance) (p : ℕ) (i : Instance) (offers : List Offer) (before pushed some : List ℕ) → pushed ≡ before ++ p ∷ []
    → Keeps pushed some → slice_get is p ≡ Some i → offers ≡ offers_in i.state → ReachesIn parties offers some → Covers parties is p some
covers-some parties is p i offers before pushed some e keeps at same h = record {
  itself = keeps p (contains-pushed before pushed p e);
  reaches = subst (λ (o : Option Instance). Reaches parties o some) (sym at) (subst (λ (l : List Offer). ReachesIn parties l some) same h);
}

pub covers-none : (parties : Parties) (is : List Instance) (p : ℕ) (before some : List ℕ) → some ≡ before ++ p ∷ [] → slice_get is p ≡ None
    → Covers parties is p some
covers-none parties is p before some e at = record {
  itself = contains-pushed before some p e;
  reaches = subst (λ (o : Option Instance). Reaches parties o some) (sym at) tt;
}

-- all from a number on, below n
abbrev pub CoversBelow : Parties → List (List ℕ) → List Instance → ℕ → ℕ → List ℕ → Type 0
CoversBelow parties joiners is from n some = (r : ℕ) → from ≤ r → r < n → Covers parties is r some × Keeps (listed_at joiners r) some

pub covers_below-none : (parties : Parties) (joiners : List (List ℕ)) (is : List Instance) (from : ℕ) (some : List ℕ) → CoversBelow parties joiners is from from some
covers_below-none parties joiners is from some r h l = absurd (omega (arith, h, l))

pub covers_below-more : (parties : Parties) (joiners : List (List ℕ)) (is : List Instance) (from n : ℕ) (a b d : List ℕ) → CoversBelow parties joiners is from n a
    → Keeps a b → Covers parties is n b → Keeps b d → Keeps (listed_at joiners n) d → CoversBelow parties joiners is from (n + 1) d
covers_below-more parties joiners is from n a b d below more here keeps joined r h l = by_cases (let c : (r < n) ⊎ (r ≡ n) = grind arith in c)
  where
    all : Keeps a d
    all = keeps-trans a b d more keeps

    by_cases : (r < n) ⊎ (r ≡ n) → Covers parties is r d × Keeps (listed_at joiners r) d
    by_cases (inl less) =
        let both = below r h less in (covers-kept parties is r a d both.0 all, keeps-trans (listed_at joiners r) a d both.1 all)
    by_cases (inr e) = (
      subst (λ (k : ℕ). Covers parties is k d) (sym e) (covers-kept parties is n b d here keeps),
      subst (λ (k : ℕ). Keeps (listed_at joiners k) d) (sym e) joined,
    )

pub covers_below-all : (parties : Parties) (joiners : List (List ℕ)) (is : List Instance) (from n : ℕ) (some : List ℕ)
    → CoversBelow parties joiners is from n some → length is ≤ n → CoversFrom parties joiners is from some
covers_below-all parties joiners is from n some below all r h l = below r h (omega (arith, l, all))

-- all from a number on are listed, below n
abbrev pub ListedBelow : Parties → List (List ℕ) → List Instance → ℕ → ℕ → Type 0
ListedBelow parties joiners is from n = (r : ℕ) → from ≤ r → r < n → IsParty parties r (slice_get is r) × IsJoiner joiners r (slice_get is r)

pub listed_below-none : (parties : Parties) (joiners : List (List ℕ)) (is : List Instance) (from : ℕ) → ListedBelow parties joiners is from from
listed_below-none parties joiners is from r h l = absurd (omega (arith, h, l))

pub listed_below-more : (a b : Parties) (d e : List (List ℕ)) (is : List Instance) (from n : ℕ) → ListedBelow a d is from n → KeepsParties a b → KeepsLists d e
    → IsParty b n (slice_get is n) → IsJoiner e n (slice_get is n) → ListedBelow b e is from (n + 1)
listed_below-more a b d e is from n below keeps kept party joiner r h l = by_cases (let c : (r < n) ⊎ (r ≡ n) = grind arith in c)
  where
    by_cases : (r < n) ⊎ (r ≡ n) → IsParty b r (slice_get is r) × IsJoiner e r (slice_get is r)
    by_cases (inl less) =
        let t = below r h less in (party-kept a b r (slice_get is r) keeps t.0, joiner-kept d e r (slice_get is r) kept t.1)
    by_cases (inr same) =
        (subst (λ (k : ℕ). IsParty b k (slice_get is k)) (sym same) party, subst (λ (k : ℕ). IsJoiner e k (slice_get is k)) (sym same) joiner)

pub listed_below-all : (parties : Parties) (joiners : List (List ℕ)) (is : List Instance) (from n : ℕ) → ListedBelow parties joiners is from n → length is ≤ n
    → (r : ℕ) → from ≤ r → IsParty parties r (slice_get is r) × IsJoiner joiners r (slice_get is r)
listed_below-all parties joiners is from n below all r h = by_cases (let c : (r < n) ⊎ (n ≤ r) = grind arith in c)
  where
    by_cases : (r < n) ⊎ (n ≤ r) → IsParty parties r (slice_get is r) × IsJoiner joiners r (slice_get is r)
    by_cases (inl l) = below r h l
    by_cases (inr g) =
        let at : slice_get is r ≡ None = slice_get_past is r (omega (arith, g, all)) in
        (party-none parties r (slice_get is r) at, joiner-none joiners r (slice_get is r) at)

pub ruleset listing = (
  keeps-refl,
  keeps-trans,
  keeps-more,
  parties-refl,
  parties-trans,
  senders-kept,
  receivers-kept,
  party-send,
  party-receive,
  party-delay,
  party-some,
  party-none,
  lists-refl,
  lists-trans,
  joiner-some,
  joiner-none,
  listed_for_below-none,
  listed_for_below-more,
  listed_for_below-all,
  party_below-none,
  party_below-more,
  party_below-all,
  reaches-send,
  reaches-delay,
  reaches-receive,
  reaches_below-none,
  reaches_below-more,
  reaches_below-all,
  covers-kept,
  covers-some,
  covers-none,
  covers_below-none,
  covers_below-more,
  covers_below-all,
  listed_below-none,
  listed_below-more,
  listed_below-all,
  party-kept,
  joiner-kept,
)
