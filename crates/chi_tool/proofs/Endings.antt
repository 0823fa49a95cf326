-- How a call ends by which a report is told, or a file is refused.
use Rattle.std.proofs.Common.{◌≡◌, ◌≢◌, ℕ, ◌<◌, true, false, List, [], Option, Some, None, length, ◌⊎◌, inl, inr, sym, ◌∙◌, subst, arith}
use Rattle.std.specs.Prelude.{IsSomeAnd}
use Rattle.chi_io.specs.Shelf.{Files}
use Rattle.chi_tool.specs.Call.{SinkUse, ShelfUse, Took}
use Rattle.chi_tool.specs.Delivery.{Delivers, whole, out_broke, log_broke}
use Rattle.chi_tool.specs.Headline.{IsNoContent, IsUnread, StoppedByFailure}
use Rattle.chi_tool.specs.Refusals.{Report}
use Rattle.chi_tool.specs.Serving.{Tells, told, cut_short, untold, Refuses, missing, long, failed, lost}
use Rattle.chi_tool.proofs.Contents.{IsOfContent}

pub goes_stopped : (sink : SinkUse) → sink.stopped ≡ false → sink.stopped ≡ true → ⊥
goes_stopped sink goes stopped = cc

pub delivered_stopped : (status result : ℕ) (output lines : List ℕ) (out log : SinkUse) → Delivers status output lines result out log
    → out.stopped ≡ true → Took log []
delivered_stopped status result output lines out log (whole s o l) stopped = absurd (goes_stopped out o.goes stopped)
delivered_stopped status result output lines out log (out_broke s o l) stopped = l.took
delivered_stopped status result output lines out log (log_broke s o l) stopped = absurd (goes_stopped out o.goes stopped)

-- a status that a delivery doesn't have by itself tells which of the sinks broke off
pub delivered_status : (status n : ℕ) (output lines : List ℕ) (result : ℕ) (out log : SinkUse) → status ≢ n → n ≢ 5
    → Delivers status output lines result out log → result ≡ n → ⊥
delivered_status status n output lines result out log a b (whole s o l) is = a (sym s ∙ is)
delivered_status status n output lines result out log a b (out_broke s o l) is = b (sym is ∙ s)
delivered_status status n output lines result out log a b (log_broke s o l) is = b (sym is ∙ s)

-- status 5 comes exactly where a sink is stopped, and each sink's count rose where it is
pub record Breaks (result : ℕ) (out log : SinkUse) : Type 0 where
  pub stops : result ≡ 5 → (out.stopped ≡ true) ⊎ (log.stopped ≡ true)
  pub tells : (out.stopped ≡ true) ⊎ (log.stopped ≡ true) → result ≡ 5
  pub out_failed : StoppedByFailure out
  pub log_failed : StoppedByFailure log

both_go : (out log : SinkUse) → out.stopped ≡ false → log.stopped ≡ false → (out.stopped ≡ true) ⊎ (log.stopped ≡ true) → ⊥
both_go out log o l (inl stopped) = goes_stopped out o stopped
both_go out log o l (inr stopped) = goes_stopped log l stopped

unbroken : (result : ℕ) (out log : SinkUse) → result ≢ 5 → out.stopped ≡ false → log.stopped ≡ false → Breaks result out log
unbroken result out log other o l = record {
  stops = λ is. absurd (other is);
  tells = λ stopped. absurd (both_go out log o l stopped);
  out_failed = λ stopped. absurd (goes_stopped out o stopped);
  log_failed = λ stopped. absurd (goes_stopped log l stopped);
}

delivered_breaks : (status : ℕ) (output lines : List ℕ) (result : ℕ) (out log : SinkUse) → status ≢ 5
    → Delivers status output lines result out log → Breaks result out log
delivered_breaks status output lines result out log other (whole s o l) = unbroken result out log (λ is. other (sym s ∙ is)) o.goes l.goes
delivered_breaks status output lines result out log other (out_broke s o l) = record {
  stops = λ is. inl o.stopped;
  tells = λ stopped. s;
  out_failed = λ stopped. o.rose;
  log_failed = λ stopped. absurd (goes_stopped log l.goes stopped);
}
delivered_breaks status output lines result out log other (log_broke s o l) = record {
  stops = λ is. inr l.stopped;
  tells = λ stopped. s;
  out_failed = λ stopped. absurd (goes_stopped out o.goes stopped);
  log_failed = λ stopped. l.rose;
}

-- How a call ended: once its output is stopped nothing is logged, and it broke off so; where its status is that of words that are no
-- request, Refused holds, and where it is that of a file that can't be read, Unread does.
pub record Ended (Refused Unread : Type 0) (result : ℕ) (out log : SinkUse) : Type 0 where
  pub stopped : out.stopped ≡ true → Took log []
  pub breaks : Breaks result out log
  pub request : result ≡ 3 → Refused
  pub unread : result ≡ 4 → Unread

pub ended_for : (Refused Unread Wider : Type 0) (result : ℕ) (out log : SinkUse) → (Unread → Wider) → Ended Refused Unread result out log → Ended Refused Wider result out log
ended_for Refused Unread Wider result out log widens e = record { stopped = e.stopped; breaks = e.breaks; request = e.request; unread = λ is. widens (e.unread is) }

pub delivered_ended : (Refused Unread : Type 0) (status : ℕ) (output lines : List ℕ) (result : ℕ) (out log : SinkUse) → (status ≡ 3 → Refused) → (status ≡ 4 → Unread) → status ≢ 5
    → Delivers status output lines result out log → Ended Refused Unread result out log
delivered_ended Refused Unread status output lines result out log three four other d = record {
  stopped = delivered_stopped status result output lines out log d;
  breaks = delivered_breaks status output lines result out log other d;
  request = λ is. three (own d 3 (λ e. omega arith) is);
  unread = λ is. four (own d 4 (λ e. omega arith) is);
}
  where
    own : Delivers status output lines result out log → (n : ℕ) → n ≢ 5 → result ≡ n → status ≡ n
    own (whole s o l) n five is = sym s ∙ is
    own (out_broke s o l) n five is = absurd (five (sym is ∙ s))
    own (log_broke s o l) n five is = absurd (five (sym is ∙ s))

-- nothing was logged, and the status tells why
pub silent_ended : (Refused Unread : Type 0) (result : ℕ) (out log : SinkUse) → (result ≡ 3 → Refused) → (result ≡ 4 → Unread) → result ≢ 5 → out.stopped ≡ false
    → log.stopped ≡ false → Took log [] → Ended Refused Unread result out log
silent_ended Refused Unread result out log three four other o l took =
    record { stopped = λ stopped. took; breaks = unbroken result out log other o l; request = three; unread = four }

-- a report was told whose status is none of the refusals around a content
pub tells_ended : (Refused Unread : Type 0) (P : Report → Type 0) (result : ℕ) (out log : SinkUse) → ((r : Report) → P r → IsOfContent r.status) → Tells P result out log
    → Ended Refused Unread result out log
tells_ended Refused Unread P result out log own (told r is d) =
    let content = own r is in
    delivered_ended Refused Unread r.status r.out r.log result out log (λ e. absurd (content.is_request e)) (λ e. absurd (content.is_read e)) content.is_written d
tells_ended Refused Unread P result out log own (cut_short r is status part l) =
    silent_ended Refused Unread result out log (λ e. absurd (omega arith)) (λ e. absurd (omega arith)) (λ e. omega arith) part.goes l.goes l.took
tells_ended Refused Unread P result out log own (untold status o l) =
    silent_ended Refused Unread result out log (λ is. absurd (omega arith)) (λ is. absurd (omega arith)) (λ is. omega arith) o.goes l.goes l.took

-- a file was refused: it isn't there or is too long, or the shelf failed

module _ (most : ℕ) (name : List ℕ) where
  lacks_content : (o : Option Files) → IsSomeAnd o (λ f. f name ≡ None) → IsSomeAnd o (λ f. IsNoContent most (f name))
  lacks_content None h = h
  lacks_content (Some files) h = let P : Option (List ℕ) → Type 0 = IsNoContent most in subst P (sym h) tt

  exceeds_content : (o : Option Files) → IsSomeAnd o (λ f. IsSomeAnd (f name) (λ content. most < length content))
      → IsSomeAnd o (λ f. IsNoContent most (f name))
  exceeds_content None h = h
  exceeds_content (Some files) h = by_file (files name) h
    where
      by_file : (o : Option (List ℕ)) → IsSomeAnd o (λ content. most < length content) → IsNoContent most o
      by_file None e = absurd e
      by_file (Some content) e = e

  pub refuses_ended : (Refused : Type 0) (shelf : ShelfUse) (result : ℕ) (out log : SinkUse) → Refuses most name shelf result out log
      → Ended Refused (IsUnread most name shelf) result out log
  refuses_ended Refused shelf result out log (missing (inl lacks) d) =
      delivered_ended Refused (IsUnread most name shelf) _ _ _ result out log (λ e. absurd (omega arith)) (λ e. inr (lacks_content shelf.files lacks)) (λ e. omega arith) d
  refuses_ended Refused shelf result out log (missing (inr rose) d) =
      delivered_ended Refused (IsUnread most name shelf) _ _ _ result out log (λ e. absurd (omega arith)) (λ e. inl rose) (λ e. omega arith) d
  refuses_ended Refused shelf result out log (long (inl exceeds) d) =
      delivered_ended Refused (IsUnread most name shelf) _ _ _ result out log (λ e. absurd (omega arith)) (λ e. inr (exceeds_content shelf.files exceeds)) (λ e. omega arith) d
  refuses_ended Refused shelf result out log (long (inr rose) d) =
      delivered_ended Refused (IsUnread most name shelf) _ _ _ result out log (λ e. absurd (omega arith)) (λ e. inl rose) (λ e. omega arith) d
  refuses_ended Refused shelf result out log (failed rose status o l) =
      silent_ended Refused (IsUnread most name shelf) result out log (λ is. absurd (omega arith)) (λ is. inl rose) (λ is. omega arith) o.goes l.goes l.took
  refuses_ended Refused shelf result out log (lost status o l) =
      silent_ended Refused (IsUnread most name shelf) result out log (λ is. absurd (omega arith)) (λ is. absurd (omega arith)) (λ is. omega arith) o.goes l.goes l.took
