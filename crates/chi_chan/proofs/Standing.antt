-- Instances stand in the lines for their offers, and leave them.
use Rattle.std.proofs.Common.{◌≡◌, ◌≢◌, ℕ, zero, suc, ◌+◌, ◌<◌, ◌≤◌, List, [], ◌∷◌, Option, None, Some, length, ◌⊎◌, inl, inr, sym, ◌∙◌, ap, subst, arith}
use Rattle.std.specs.Prelude.{Result, Ok, Err, OnErr}
use Rattle.std.specs.List.{slice_get}
use Rattle.chi_chan.specs.declared.offers.Offer.{Offer}
use Rattle.chi_chan.specs.declared.offers.Offer.TheVariants.{Send, Receive, Delay}
use Rattle.chi_chan.specs.declared.offers.Party.{Party}
use Rattle.chi_chan.specs.Held.{Offered, held, party, SameOffers, Updates}
use Rattle.chi_chan.specs.Lined.{Has, line, Adds, Leaves, SameLines}
use Rattle.chi_chan.specs.Kept.{Comes, offer_in, Fits, Lists, IsWaiting, Stood, Left, Undone}

within : {A : Type 0} (xs : List A) (b : ℕ) (x : A) → slice_get xs b ≡ Some x → b < length xs
within [] b x e = absurd (cc)
within (y ∷ ys) zero x e = omega arith
within (y ∷ ys) (suc b) x e = let r = within ys b x e in omega (arith, r)

-- lines for a part of the offers

module _ (kind : ℕ → Offer) (same_kind : (c d : ℕ) → kind c ≡ kind d → c ≡ d) (pid : ℕ) (offers : List Offer) where
  pub stood-none : (lines : List (List Party)) → Stood kind pid offers 0 lines lines
  stood-none lines = record {
    all = λ c b h e. absurd (omega (arith, h));
    stays = λ d x h. h;
    only = λ d x h. inl h;
  }

  pub stood-weaker : (j : ℕ) (old new : List (List Party)) → Stood kind pid offers j old new → Stood kind pid offers 0 old new
  stood-weaker j old new s = record {
    all = λ c b h e. absurd (omega (arith, h));
    stays = s.stays;
    only = s.only;
  }

  pub stood-same : (j : ℕ) (old mid new : List (List Party)) → Stood kind pid offers j old mid → SameLines mid new → Stood kind pid offers j old new
  stood-same j old mid new s e = record {
    all = λ c b h g. subst (λ (l : List Party). Has l (party pid b)) (sym (e c)) (s.all c b h g);
    stays = λ d x h. subst (λ (l : List Party). Has l x) (sym (e d)) (s.stays d x h);
    only = λ d x h. s.only d x (subst (λ (l : List Party). Has l x) (e d) h);
  }

  -- the next offer is of another kind
  pub stood-past : (j : ℕ) (old new : List (List Party)) (o : Offer) → slice_get offers j ≡ Some o → ((c : ℕ) → o ≢ kind c) → Stood kind pid offers j old new
      → Stood kind pid offers (j + 1) old new
  stood-past j old new o at differ s = record {
    all = λ c b h e. by_place c b e (let z : (b < j) ⊎ (b ≡ j) = grind arith in z);
    stays = s.stays;
    only = s.only;
  }
    where
      by_place : (c b : ℕ) → slice_get offers b ≡ Some (kind c) → (b < j) ⊎ (b ≡ j) → Has (line new c) (party pid b)
      by_place c b e (inl l) = s.all c b l e
      by_place c b e (inr z) = absurd (differ c (let f : Some o ≡ Some (kind c) = sym at ∙ ap (slice_get offers) (sym z) ∙ e in cc))

  -- it is of this kind
  pub stood-more : (j c : ℕ) (old mid new : List (List Party)) → slice_get offers j ≡ Some (kind c) → Stood kind pid offers j old mid → Adds mid new c (party pid j)
      → Stood kind pid offers (j + 1) old new
  stood-more j c old mid new at s a = record {
    all = λ d b h e. by_place d b e (let z : (b < j) ⊎ (b ≡ j) = grind arith in z);
    stays = λ d x h. a.stays d x (s.stays d x h);
    only = λ d x h. by_case d x (a.only d x h);
  }
    where
      by_place : (d b : ℕ) → slice_get offers b ≡ Some (kind d) → (b < j) ⊎ (b ≡ j) → Has (line new d) (party pid b)
      by_place d b e (inl l) = a.stays d (party pid b) (s.all d b l e)
      by_place d b e (inr z) =
          let f : Some (kind c) ≡ Some (kind d) = sym at ∙ ap (slice_get offers) (sym z) ∙ e in
          let k : kind c ≡ kind d = cc in
          let same = same_kind c d k in
          subst (λ (n : ℕ). Has (line new n) (party pid b)) same (subst (λ (n : ℕ). Has (line new c) (party pid n)) (sym z) a.there)

      by_case : (d : ℕ) (x : Party) → Has (line mid d) x ⊎ ((d ≡ c) × (x ≡ party pid j))
          → Has (line old d) x ⊎ ((b : ℕ) × (x ≡ party pid b) × (slice_get offers b ≡ Some (kind d)))
      by_case d x (inl h) = s.only d x h
      by_case d x (inr p) = inr (j, p.1, at ∙ ap (λ (n : ℕ). Some (kind n)) (sym p.0))

  pub left-none : (lines : List (List Party)) → Left kind pid offers 0 lines lines
  left-none lines = record {
    gone = λ c b h e. absurd (omega (arith, h));
    stays = λ d x z h. h;
    only = λ d x h. h;
  }

  pub left-past : (j : ℕ) (old new : List (List Party)) (o : Offer) → slice_get offers j ≡ Some o → ((c : ℕ) → o ≢ kind c) → Left kind pid offers j old new
      → Left kind pid offers (j + 1) old new
  left-past j old new o at differ s = record {
    gone = λ c b h e. by_place c b e (let z : (b < j) ⊎ (b ≡ j) = grind arith in z);
    stays = s.stays;
    only = s.only;
  }
    where
      by_place : (c b : ℕ) → slice_get offers b ≡ Some (kind c) → (b < j) ⊎ (b ≡ j) → (x : Party) → Has (line new c) x → x.pid ≢ pid
      by_place c b e (inl l) = s.gone c b l e
      by_place c b e (inr z) = absurd (differ c (let f : Some o ≡ Some (kind c) = sym at ∙ ap (slice_get offers) (sym z) ∙ e in cc))

  pub left-more : (j c : ℕ) (old mid new : List (List Party)) → slice_get offers j ≡ Some (kind c) → Left kind pid offers j old mid → Leaves mid new c pid
      → Left kind pid offers (j + 1) old new
  left-more j c old mid new at s a = record {
    gone = λ d b h e. by_place d b e (let z : (b < j) ⊎ (b ≡ j) = grind arith in z);
    stays = λ d x z h. a.stays d x z (s.stays d x z h);
    only = λ d x h. s.only d x (a.only d x h);
  }
    where
      by_place : (d b : ℕ) → slice_get offers b ≡ Some (kind d) → (b < j) ⊎ (b ≡ j) → (x : Party) → Has (line new d) x → x.pid ≢ pid
      by_place d b e (inl l) x h = s.gone d b l e x (a.only d x h)
      by_place d b e (inr z) x h =
          let f : Some (kind c) ≡ Some (kind d) = sym at ∙ ap (slice_get offers) (sym z) ∙ e in
          let k : kind c ≡ kind d = cc in
          let same = same_kind c d k in
          a.gone x (subst (λ (n : ℕ). Has (line new n) x) (sym same) h)

  -- what came has left
  pub undone : (old mid new : List (List Party)) → Stood kind pid offers 0 old mid → Left kind pid offers (length offers) mid new → Undone pid old new
  undone old mid new s l = record {
    stays = λ d x z h. l.stays d x z (s.stays d x h);
    only = λ d x h. by_case d x h (s.only d x (l.only d x h));
  }
    where
      by_case : (d : ℕ) (x : Party) → Has (line new d) x → Has (line old d) x ⊎ ((b : ℕ) × (x ≡ party pid b) × (slice_get offers b ≡ Some (kind d))) → Has (line old d) x
      by_case d x h (inl g) = g
      by_case d x h (inr p) = absurd (l.gone d p.0 (within offers p.0 (kind d) p.2) p.2 x h (ap (λ (y : Party). y.pid) p.1))

  -- lines for all offers

  module _ (m : Offered) (old new : List (List Party)) (lists : Lists kind m old) where
    pub lists-same : (m' : Offered) → SameOffers m m' → Lists kind m' old
    lists-same m' e = record {
      all = λ c q b h. lists.all c q b (ap (λ (w : Option (List Offer)). offer_in w b) (sym (e q)) ∙ h);
      only = λ c q b h. ap (λ (w : Option (List Offer)). offer_in w b) (e q) ∙ lists.only c q b h;
    }

    pub lists-undone : held m pid ≡ None → Undone pid old new → Lists kind m new
    lists-undone none u = record {
      all = λ c q b h.
          u.stays c (party q b)
          (λ e. (let z : None ≡ Some (kind c) = sym (ap (λ (w : Option (List Offer)). offer_in w b) (ap (held m) e ∙ none)) ∙ h in cc)) (lists.all c q b h);
      only = λ c q b h. lists.only c q b (u.only c (party q b) h);
    }

    pub lists-stood : (m' : Offered) → held m pid ≡ None → Updates m m' pid (Some offers) → Stood kind pid offers (length offers) old new → Lists kind m' new
    lists-stood m' none u s = record {
      all = λ c q b h. by_pid c q b h (let z : (q ≡ pid) ⊎ (q ≢ pid) = grind arith in z);
      only = λ c q b h. by_case c q b (s.only c (party q b) h);
    }
      where
        its : (q b : ℕ) → q ≡ pid → offer_in (held m' q) b ≡ slice_get offers b
        its q b e = ap (λ (w : Option (List Offer)). offer_in w b) (ap (held m') e ∙ u.changed)

        by_pid : (c q b : ℕ) → offer_in (held m' q) b ≡ Some (kind c) → (q ≡ pid) ⊎ (q ≢ pid) → Has (line new c) (party q b)
        by_pid c q b h (inl e) =
            let g = sym (its q b e) ∙ h in
            subst (λ (n : ℕ). Has (line new c) (party n b)) (sym e) (s.all c b (within offers b (kind c) g) g)
        by_pid c q b h (inr z) = s.stays c (party q b) (lists.all c q b (ap (λ (w : Option (List Offer)). offer_in w b) (sym (u.others q z)) ∙ h))

        by_case : (c q b : ℕ) → Has (line old c) (party q b) ⊎ ((k : ℕ) × (party q b ≡ party pid k) × (slice_get offers k ≡ Some (kind c))) → offer_in (held m' q) b ≡ Some (kind c)
        by_case c q b (inl h) =
            let f = lists.only c q b h in
            let z : q ≢ pid = λ e. (let n : None ≡ Some (kind c) = sym (ap (λ (w : Option (List Offer)). offer_in w b) (ap (held m) e ∙ none)) ∙ f in cc) in
            ap (λ (w : Option (List Offer)). offer_in w b) (u.others q z) ∙ f
        by_case c q b (inr p) =
            let e : q ≡ pid = ap (λ (x : Party). x.pid) p.1 in
            let a : b ≡ p.0 = ap (λ (x : Party). x.alternative) p.1 in
            its q b e ∙ ap (slice_get offers) a ∙ p.2

    pub lists-left : (m' : Offered) → held m pid ≡ Some offers → Updates m m' pid None → Left kind pid offers (length offers) old new → Lists kind m' new
    lists-left m' some u l = record {
      all = λ c q b h.
          let z : q ≢ pid = λ e. (let n : None ≡ Some (kind c) = sym (ap (λ (w : Option (List Offer)). offer_in w b) (ap (held m') e ∙ u.changed)) ∙ h in cc) in
          l.stays c (party q b) z (lists.all c q b (ap (λ (w : Option (List Offer)). offer_in w b) (sym (u.others q z)) ∙ h));
      only = λ c q b h.
          let f = lists.only c q b (l.only c (party q b) h) in
          let z : q ≢ pid = λ e.
          (let g : slice_get offers b ≡ Some (kind c) = sym (ap (λ (w : Option (List Offer)). offer_in w b) (ap (held m) e ∙ some)) ∙ f in
          l.gone c b (within offers b (kind c) g) g (party q b) h e) in
          ap (λ (w : Option (List Offer)). offer_in w b) (u.others q z) ∙ f;
    }

pub same-send : (c d : ℕ) → Send c ≡ Send d → c ≡ d
same-send c d e = cc

pub same-receive : (c d : ℕ) → Receive c ≡ Receive d → c ≡ d
same-receive c d e = cc

pub stood-on : (pid : ℕ) (offers : List Offer) (j : ℕ) (o : Offer) (senders mid senders' receivers mid' receivers' : List (List Party)) → slice_get offers j ≡ Some o
    → Stood Send pid offers j senders mid → Stood Receive pid offers j receivers mid' → Comes o (party pid j) mid senders' mid' receivers'
    → Stood Send pid offers (j + 1) senders senders' × Stood Receive pid offers (j + 1) receivers receivers'
stood-on pid offers j (Send c) senders mid senders' receivers mid' receivers' at s r comes = (
  stood-more Send same-send pid offers j c senders mid senders' at s comes.0,
  stood-past Receive same-receive pid offers j receivers receivers' (Send c) at (λ d e. cc) (stood-same Receive same-receive pid offers j receivers mid' receivers' r comes.1),
)
stood-on pid offers j (Receive c) senders mid senders' receivers mid' receivers' at s r comes = (
  stood-past Send same-send pid offers j senders senders' (Receive c) at (λ d e. cc) (stood-same Send same-send pid offers j senders mid senders' s comes.0),
  stood-more Receive same-receive pid offers j c receivers mid' receivers' at r comes.1,
)
stood-on pid offers j (Delay t) senders mid senders' receivers mid' receivers' at s r comes = (
  stood-past Send same-send pid offers j senders senders' (Delay t) at (λ d e. cc) (stood-same Send same-send pid offers j senders mid senders' s comes.0),
  stood-past Receive same-receive pid offers j receivers receivers' (Delay t) at (λ d e. cc) (stood-same Receive same-receive pid offers j receivers mid' receivers' r comes.1),
)

-- who waits has a number, and offers, that fit

pub held-within : (offered : Offered) (pid : ℕ) (offers : List Offer) → held offered pid ≡ Some offers → pid < length offered
held-within [] pid offers e = absurd (cc)
held-within (o ∷ os) zero offers e = omega arith
held-within (o ∷ os) (suc pid) offers e = let r = held-within os pid offers e in omega (arith, r)

-- an instance that didn't wait comes and goes
pub back : (old mid new : Offered) (pid : ℕ) (offers : Option (List Offer)) → held old pid ≡ None → Updates old mid pid offers → Updates mid new pid None → SameOffers old new
back old mid new pid offers none u v q = by_pid (let z : (q ≡ pid) ⊎ (q ≢ pid) = grind arith in z)
  where
    by_pid : (q ≡ pid) ⊎ (q ≢ pid) → held new q ≡ held old q
    by_pid (inl e) = ap (held new) e ∙ v.changed ∙ sym (ap (held old) e ∙ none)
    by_pid (inr z) = v.others q z ∙ u.others q z

module _ (old : Offered) (senders receivers : List (List Party)) (is : IsWaiting old senders receivers) where
  pub waits-fits : (pid : ℕ) (offers : List Offer) → held old pid ≡ Some offers → (pid < 100000) × (length offers ≤ 65536)
  waits-fits pid offers e = (
    (let w = held-within old pid offers e in let f = is.fits.instances in omega (arith, w, f)),
    is.fits.offers pid offers e,
  )

  module _ (new : Offered) (few : length new ≤ 100000) where
    same-fits : SameOffers old new → Fits 0 new
    same-fits e = record {
      instances = omega (arith, few);
      offers = λ q os h. is.fits.offers q os (sym (e q) ∙ h);
    }

    -- the same wait
    pub waiting-same : SameOffers old new → IsWaiting new senders receivers
    waiting-same e = record {
      sending = lists-same Send same-send 0 [] old senders senders is.sending new e;
      receiving = lists-same Receive same-receive 0 [] old receivers receivers is.receiving new e;
      fits = same-fits e;
    }

    pub waiting-undone : (pid : ℕ) (senders' receivers' : List (List Party)) → held old pid ≡ None → SameOffers old new → Undone pid senders senders' → Undone pid receivers receivers'
        → IsWaiting new senders' receivers'
    waiting-undone pid senders' receivers' none e u v = record {
      sending = lists-same Send same-send 0 [] old senders' senders' (lists-undone Send same-send pid [] old senders senders' is.sending none u) new e;
      receiving = lists-same Receive same-receive 0 [] old receivers' receivers' (lists-undone Receive same-receive pid [] old receivers receivers' is.receiving none v) new e;
      fits = same-fits e;
    }

    -- one more waits
    pub waiting-more : (pid : ℕ) (offers : List Offer) (senders' receivers' : List (List Party)) → held old pid ≡ None → length offers ≤ 65536 → Updates old new pid (Some offers)
        → Stood Send pid offers (length offers) senders senders' → Stood Receive pid offers (length offers) receivers receivers' → IsWaiting new senders' receivers'
    waiting-more pid offers senders' receivers' none fits u a b = record {
      sending = lists-stood Send same-send pid offers old senders senders' is.sending new none u a;
      receiving = lists-stood Receive same-receive pid offers old receivers receivers' is.receiving new none u b;
      fits = record {
        instances = omega (arith, few);
        offers = λ q os h. by_pid q os h (let z : (q ≡ pid) ⊎ (q ≢ pid) = grind arith in z);
      };
    }
      where
        by_pid : (q : ℕ) (os : List Offer) → held new q ≡ Some os → (q ≡ pid) ⊎ (q ≢ pid) → length os ≤ 65536
        by_pid q os h (inl e) =
            let g : Some offers ≡ Some os = sym u.changed ∙ ap (held new) (sym e) ∙ h in
            let same : offers ≡ os = cc in
            let l = ap length same in omega (arith, l, fits)
        by_pid q os h (inr z) = is.fits.offers q os (sym (u.others q z) ∙ h)

    -- one less
    pub waiting-less : (pid : ℕ) (offers : List Offer) (senders' receivers' : List (List Party)) → held old pid ≡ Some offers → Updates old new pid None
        → Left Send pid offers (length offers) senders senders' → Left Receive pid offers (length offers) receivers receivers' → IsWaiting new senders' receivers'
    waiting-less pid offers senders' receivers' some u a b = record {
      sending = lists-left Send same-send pid offers old senders senders' is.sending new some u a;
      receiving = lists-left Receive same-receive pid offers old receivers receivers' is.receiving new some u b;
      fits = record {
        instances = omega (arith, few);
        offers = λ q os h. by_pid q os h (let z : (q ≡ pid) ⊎ (q ≢ pid) = grind arith in z);
      };
    }
      where
        by_pid : (q : ℕ) (os : List Offer) → held new q ≡ Some os → (q ≡ pid) ⊎ (q ≢ pid) → length os ≤ 65536
        by_pid q os h (inl e) = absurd (let g : None ≡ Some os = sym u.changed ∙ ap (held new) (sym e) ∙ h in cc)
        by_pid q os h (inr z) = is.fits.offers q os (sym (u.others q z) ∙ h)

pub empty-waiting : (offered : Offered) (senders receivers : List (List Party)) → offered ≡ [] → senders ≡ [] → receivers ≡ [] → IsWaiting offered senders receivers
empty-waiting offered senders receivers e f g = record {
  sending = empty Send senders f;
  receiving = empty Receive receivers g;
  fits = record {
    instances = let n : length offered ≡ 0 = ap length e in omega (arith, n);
    offers = λ q offers h. absurd (let z : None ≡ Some offers = sym (none q) ∙ h in cc);
  };
}
  where
    none : (q : ℕ) → held offered q ≡ None
    none q = ap (λ (m : Offered). held m q) e

    empty : (kind : ℕ → Offer) (lines : List (List Party)) → lines ≡ [] → Lists kind offered lines
    empty kind lines z = record {
      all = λ c q b h. absurd (let n : None ≡ Some (kind c) = sym (ap (λ (w : Option (List Offer)). offer_in w b) (none q)) ∙ h in cc);
      only = λ c q b h. absurd (subst (λ (ls : List (List Party)). Has (line ls c) (party q b)) z h);
    }

-- whatever an error is, what holds anyway holds there
pub on-err : {A E : Type 0} (r : Result A E) (P : Type 0) → P → OnErr r P
on-err (Ok x) P p = tt
on-err (Err e) P p = p
