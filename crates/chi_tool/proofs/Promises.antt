-- What follows of a call from how it was served.
use Rattle.std.proofs.Common.{◌≡◌, ◌≢◌, ℕ, ◌<◌, true, List, [], Option, Some, None, length, ◌⊎◌, inl, inr, sym, ◌∙◌, subst, refl, arith}
use Rattle.std.specs.Prelude.{IfSome, IsSomeAnd}
use Rattle.chi_io.specs.Counts.{Rose, Stood}
use Rattle.chi_io.specs.Shelf.{Files}
use Rattle.chi_engine.specs.Courses.{Runs}
use Rattle.chi_tool.specs.declared.task.Task.{Task}
use Rattle.chi_tool.specs.Words.{Wish, nothing, of_task, wish_of, NamesNoFile}
use Rattle.chi_tool.specs.Refusals.{Report, usage, no_such_file, file_too_long}
use Rattle.chi_tool.specs.Report as report
use Rattle.chi_tool.specs.Report.{IsReportOfFile, IsReportOfWish, IsReport}
use Rattle.chi_tool.specs.Call.{Call, Took, TookFront, TookSome, SinkStood, ShelfRose}
use Rattle.chi_tool.specs.Delivery.{TookWhole, Delivers, whole, out_broke, log_broke, DeliversReport}
use Rattle.chi_tool.specs.Headline.{NothingFailed, IsReported, IsReportedOrLost, IsReportedInFront, IsRefusedByFault, MeetsAlone, delivered, wanting, Meets, alone, not_there, too_long, unread, MayHold, Headline, Follows, GoesWell, with_files, by_words}
use Rattle.chi_tool.specs.Serving.{Tells, told, cut_short, untold, Refuses, missing, long, failed, lost, Serves, served, refused}
use Rattle.chi_tool.proofs.Sinks.{whole_front, none_front, none_part, broken_front, none_some, none_whole}
use Rattle.chi_tool.proofs.Contents.{IsOfFile}
use Rattle.chi_tool.proofs.Endings.{goes_stopped, delivered_stopped}
use Rattle.chi_tool.proofs.LawClauses.{ReportLaw}

stood_rose : (before after : ℕ) → Rose before after → Stood before after → ⊥
stood_rose before after rose stood = omega arith

-- what follows where a report is met

delivered_whole : (r : Report) (call : Call) → SinkStood call.out → SinkStood call.log → DeliversReport r call.status call.out call.log → IsReported r call
delivered_whole r call out_stood log_stood (whole status out log) = record { status = status; out = out.took; log = log.took }
delivered_whole r call out_stood log_stood (out_broke status out log) = absurd (stood_rose _ _ out.rose out_stood)
delivered_whole r call out_stood log_stood (log_broke status out log) = absurd (stood_rose _ _ log.rose log_stood)

pub alone-whole : (r : Report) (call : Call) → MeetsAlone r call → SinkStood call.out → SinkStood call.log → IsReportedOrLost r call
alone-whole r call (delivered d) out log = inr (delivered_whole r call out log d)
alone-whole r call (wanting status part none) out log = inl status

meets-whole : (r : Report) (call : Call) → Meets r call → NothingFailed call → IsReportedOrLost r call
meets-whole r call (alone m) none = alone-whole r call m none.out none.log
meets-whole r call (not_there rose d) none = absurd (stood_rose _ _ rose none.shelf)
meets-whole r call (too_long rose d) none = absurd (stood_rose _ _ rose none.shelf)
meets-whole r call (unread rose status out log) none = absurd (stood_rose _ _ rose none.shelf)

abbrev Statuses : Report → Call → Type 0
Statuses r call = IsReported r call ⊎ ((call.status ≡ 4) ⊎ ((call.status ≡ 5) ⊎ (call.status ≡ 6)))

refusal-status : (r : Report) (call : Call) (output lines : List ℕ) → Delivers 4 output lines call.status call.out call.log → Statuses r call
refusal-status r call output lines (whole status out log) = inr (inl status)
refusal-status r call output lines (out_broke status out log) = inr (inr (inl status))
refusal-status r call output lines (log_broke status out log) = inr (inr (inl status))

meets-status : (r : Report) (call : Call) → Meets r call → Statuses r call
meets-status r call (alone (delivered (whole status out log))) = inl (record { status = status; out = out.took; log = log.took })
meets-status r call (alone (delivered (out_broke status out log))) = inr (inr (inl status))
meets-status r call (alone (delivered (log_broke status out log))) = inr (inr (inl status))
meets-status r call (alone (wanting status out log)) = inr (inr (inr status))
meets-status r call (not_there rose d) = refusal-status r call _ _ d
meets-status r call (too_long rose d) = refusal-status r call _ _ d
meets-status r call (unread rose status out log) = inr (inl status)

-- a line that refuses a file, or a front of it, after no output
record IsLine (call : Call) (line : List ℕ) : Type 0 where
  out : Took call.out []
  log : TookFront call.log line

refused_line : (call : Call) (status : ℕ) (line : List ℕ) → Delivers status [] line call.status call.out call.log → IsLine call line
refused_line call status line (whole s out log) = record { out = out.took; log = whole_front call.log line log.took }
refused_line call status line (out_broke s out log) = absurd (none_whole call.out out)
refused_line call status line (log_broke s out log) = record { out = out.took; log = broken_front call.log line log }

not_there-fault : (call : Call) → ShelfRose call.shelf → DeliversReport no_such_file call.status call.out call.log → IsRefusedByFault call
not_there-fault call rose d = let l = refused_line call _ _ d in record { rose = rose; out = l.out; log = inl l.log }

too_long-fault : (call : Call) → ShelfRose call.shelf → DeliversReport file_too_long call.status call.out call.log → IsRefusedByFault call
too_long-fault call rose d = let l = refused_line call _ _ d in record { rose = rose; out = l.out; log = inr l.log }

delivered-front : (r : Report) (call : Call) → DeliversReport r call.status call.out call.log → IsReportedInFront r call
delivered-front r call (whole status out log) = record { out = whole_front call.out r.out out.took; log = whole_front call.log r.log log.took }
delivered-front r call (out_broke status out log) = record { out = broken_front call.out r.out out; log = none_front call.log r.log log.took }
delivered-front r call (log_broke status out log) = record { out = whole_front call.out r.out out.took; log = broken_front call.log r.log log }

meets-fronts : (r : Report) (call : Call) → Meets r call → IsReportedInFront r call ⊎ IsRefusedByFault call
meets-fronts r call (alone (delivered d)) = inl (delivered-front r call d)
meets-fronts r call (alone (wanting status out log)) =
    inl (record { out = out.took; log = none_front call.log r.log log.took })
meets-fronts r call (not_there rose d) = inr (not_there-fault call rose d)
meets-fronts r call (too_long rose d) = inr (too_long-fault call rose d)
meets-fronts r call (unread rose status out log) =
    inl (record { out = none_front call.out r.out out.took; log = none_front call.log r.log log.took })

meets-out_first : (r : Report) (call : Call) → Meets r call → TookSome call.log → Took call.out r.out ⊎ IsRefusedByFault call
meets-out_first r call (alone (delivered (whole status out log))) some = inl out.took
meets-out_first r call (alone (delivered (out_broke status out log))) some = absurd (none_some call.log log.took some)
meets-out_first r call (alone (delivered (log_broke status out log))) some = inl out.took
meets-out_first r call (alone (wanting status out log)) some = absurd (none_some call.log log.took some)
meets-out_first r call (not_there rose d) some = inr (not_there-fault call rose d)
meets-out_first r call (too_long rose d) some = inr (too_long-fault call rose d)
meets-out_first r call (unread rose status out log) some = absurd (none_some call.log log.took some)

pub follows : (r : Report) (call : Call) → Meets r call → Follows r call
follows r call m = record {
  whole = meets-whole r call m;
  status = meets-status r call m;
  fronts = meets-fronts r call m;
  out_first = meets-out_first r call m;
}

-- a status that no failure has is the report's
pub met_status : (n : ℕ) → ((n ≢ 4) × (n ≢ 5) × (n ≢ 6)) → (r : Report) (call : Call) → Meets r call → call.status ≡ n → r.status ≡ n
met_status n other r call m is = by (meets-status r call m)
  where
    by : Statuses r call → r.status ≡ n
    by (inl met) = sym met.status ∙ is
    by (inr (inl four)) = absurd (other.0 (sym is ∙ four))
    by (inr (inr (inl five))) = absurd (other.1 (sym is ∙ five))
    by (inr (inr (inr six))) = absurd (other.2 (sym is ∙ six))

-- files that the shelf may have

abbrev pub Holds : Option Files → (Files → Type 0) → Type 0
Holds tells P = (files : Files) × IfSome tells (λ t. t ≡ files) × P files

-- those that it tells, or else some of which P holds
pub held_or : (told : Option Files) (P : Files → Type 0) → IfSome told P → (others : Files) → P others → Holds told P
held_or None P is others p = (others, tt, p)
held_or (Some files) P is others p = (files, refl, is)

held_told : (told : Option Files) (P : Files → Type 0) → IsSomeAnd told P → Holds told P
held_told None P is = absurd is
held_told (Some files) P is = (files, refl, is)

held_any : (told : Option Files) → Holds told (λ files. Unit {0})
held_any None = ((λ name. None), tt, tt)
held_any (Some files) = (files, refl, tt)

-- what a call met: a report of the words, and of files that the shelf may have
abbrev pub MeetsOne : Runs → Call → Type 0
MeetsOne runs call = (files : Files) × MayHold call.shelf files × (r : Report) × IsReport runs call.words files r × Meets r call

-- whatever the files are, and whatever the report is
pub by_any : (runs : Runs) → ReportLaw runs → (call : Call) → ((r : Report) → Meets r call) → MeetsOne runs call
by_any runs law call m =
    let h = held_any call.shelf.files in
    let p = law.some call.words h.0 in
    (h.0, h.1, p.0, p.1, m p.0)

-- whatever the files are
pub by_files : (runs : Runs) (call : Call) (r : Report) → ((files : Files) → IsReport runs call.words files r) → Meets r call → MeetsOne runs call
by_files runs call r is m = let h = held_any call.shelf.files in (h.0, h.1, r, is h.0, m)

pub if_both : (o : Option Files) (P Q : Files → Type 0) → IfSome o P → IfSome o Q → IfSome o (λ f. P f × Q f)
if_both None P Q p q = tt
if_both (Some files) P Q p q = (p, q)

pub if_any : (o : Option Files) → IfSome o (λ files. Unit {0})
if_any None = tt
if_any (Some files) = tt

both_some : (o : Option Files) (P Q : Files → Type 0) → IsSomeAnd o P → IfSome o Q → IsSomeAnd o (λ f. P f × Q f)
both_some None P Q p q = absurd p
both_some (Some files) P Q p q = (p, q)

module _ (runs : Runs) (law : ReportLaw runs) (call : Call) where
  -- a report was told
  pub told_one : (P : Report → Type 0) → Holds call.shelf.files (λ files. (r : Report) → P r → IsReport runs call.words files r) → Tells P call.status call.out call.log → MeetsOne runs call
  told_one P held (told r is d) = (held.0, held.1, r, held.2 r is, alone (delivered d))
  told_one P held (cut_short r is status part log) = (held.0, held.1, r, held.2 r is, alone (wanting status part log))
  told_one P held (untold status out log) = by_any runs law call (λ r. alone (wanting status (none_part call.out r.out out) log))

  -- a file was refused, of files of which Of holds
  module _ (most : ℕ) (name : List ℕ) (Of : Files → Type 0) (is_missing : (files : Files) → Of files → files name ≡ None → IsReport runs call.words files no_such_file)
      (is_long : (files : Files) → Of files → (content : List ℕ) → files name ≡ Some content → most < length content → IsReport runs call.words files file_too_long) where
    pub refused_one : IfSome call.shelf.files Of → Refuses most name call.shelf call.status call.out call.log → MeetsOne runs call
    refused_one of (missing (inr rose) d) = by_any runs law call (λ r. not_there rose d)
    refused_one of (missing (inl lacks) d) =
        let h = held_told call.shelf.files (λ f. (f name ≡ None) × Of f) (both_some call.shelf.files (λ f. f name ≡ None) Of lacks of) in
        (h.0, h.1, no_such_file, is_missing h.0 h.2.1 h.2.0, alone (delivered d))
    refused_one of (long (inr rose) d) = by_any runs law call (λ r. too_long rose d)
    refused_one of (long (inl exceeds) d) =
        let Exceeds : Files → Type 0 = λ f. IsSomeAnd (f name) (λ content. most < length content) in
        let h = held_told call.shelf.files (λ f. Exceeds f × Of f) (both_some call.shelf.files Exceeds Of exceeds of) in
        by_file h.0 h.1 h.2.1 (h.0 name) refl h.2.0
      where
        by_file : (files : Files) → MayHold call.shelf files → Of files → (o : Option (List ℕ)) → files name ≡ o → IsSomeAnd o (λ content. most < length content) → MeetsOne runs call
        by_file files may of None there e = absurd e
        by_file files may of (Some content) there e = (files, may, file_too_long, is_long files of content there e, alone (delivered d))
    refused_one of (failed rose status out log) = by_any runs law call (λ r. unread rose status out log)
    refused_one of (lost status out log) = by_any runs law call (λ r. alone (wanting status (none_part call.out r.out out) log))

module _ (runs : Runs) (t : Task) (name : List ℕ) (most : ℕ) (P : List ℕ → Report → Type 0) (of : IsOfFile runs t name most P) (call : Call)
    (asked : wish_of call.words ≡ of_task t) where
  pub is_report : (files : Files) (o : Option (List ℕ)) (r : Report) → files name ≡ o → IsReportOfFile most P o r → IsReport runs call.words files r
  is_report files o r there is =
      let at_wish : Wish → Type 0 = λ w. IsReportOfWish runs w files r in
      let at_file : Option (List ℕ) → Type 0 = λ x. IsReportOfFile most P x r in
      subst at_wish (sym asked) (of.reports files r (subst at_file (sym there) is))

  pub served_one : ReportLaw runs → Serves most P name call.shelf call.status call.out call.log → MeetsOne runs call
  served_one law (served content is tells) =
      let h = held_or call.shelf.files (λ f. f name ≡ Some content) is.1 (λ other. Some content) refl in
      told_one runs law call (P content) (h.0, h.1, λ r by. is_report h.0 (Some content) r h.2 (report.fetched content refl is.0 by)) tells
  served_one law (refused refuses) =
      refused_one runs law call most name (λ files. Unit {0}) (λ files here there. is_report files None no_such_file there (report.missing refl refl))
      (λ files here content there above. is_report files (Some content) file_too_long there (report.long content refl above refl)) (if_any call.shelf.files) refuses

pub asks_something : (w : Wish) (t : Task) → w ≡ of_task t → w ≡ nothing → ⊥
asks_something w t asked none = cc

-- words that ask for the content of a file name it
pub names_file : (runs : Runs) (t : Task) (name : List ℕ) (most : ℕ) (P : List ℕ → Report → Type 0) → IsOfFile runs t name most P
    → (w : Wish) → w ≡ of_task t → NamesNoFile w → ⊥
names_file runs t name most P of w asked none = of.named (subst NamesNoFile asked none)

-- words that name a file
pub named-headline : (runs : Runs) (call : Call) → (NamesNoFile (wish_of call.words) → ⊥) → MeetsOne runs call → (call.out.stopped ≡ true → Took call.log []) → Headline runs call
named-headline runs call named one stopped = record { report = one; by_words = λ none files. absurd (named none); out_stopped = stopped }

-- memory was wanting before the words were read
pub record IsLost (call : Call) : Type 0 where
  pub status : call.status ≡ 6
  pub out : TookWhole call.out []
  pub log : TookWhole call.log []

pub met_lost : (r : Report) (call : Call) → IsLost call → MeetsAlone r call
met_lost r call l = wanting l.status (none_part call.out r.out l.out) l.log

-- what a call met by its words
abbrev pub MeetsOneAlone : Runs → Call → Files → Type 0
MeetsOneAlone runs call files = (r : Report) × IsReport runs call.words files r × MeetsAlone r call

pub any_alone : (runs : Runs) → ReportLaw runs → (call : Call) (files : Files) → IsLost call → MeetsOneAlone runs call files
any_alone runs law call files l = let p = law.some call.words files in (p.0, p.1, met_lost p.0 call l)

is_usage : (runs : Runs) (call : Call) → wish_of call.words ≡ nothing → (files : Files) → IsReport runs call.words files usage
is_usage runs call none files = let at_wish : Wish → Type 0 = λ w. IsReportOfWish runs w files usage in subst at_wish (sym none) refl

pub usage-headline : (runs : Runs) (call : Call) → wish_of call.words ≡ nothing → DeliversReport usage call.status call.out call.log → Headline runs call
usage-headline runs call none d = record {
  report = by_files runs call usage (is_usage runs call none) (alone (delivered d));
  by_words = λ same files. (usage, is_usage runs call none files, delivered d);
  out_stopped = delivered_stopped _ _ _ _ call.out call.log d;
}

pub lost-headline : (runs : Runs) → ReportLaw runs → (call : Call) → IsLost call → Headline runs call
lost-headline runs law call l = record {
  report = by_any runs law call (λ r. alone (met_lost r call l));
  by_words = λ none files. any_alone runs law call files l;
  out_stopped = λ stopped. absurd (goes_stopped call.out l.out.goes stopped);
}

-- the report that is met where all goes well
abbrev pub MetOne : Runs → Call → Files → Type 0
MetOne runs call files = (r : Report) × IsReport runs call.words files r × IsReportedOrLost r call

pub met_of : (runs : Runs) (call : Call) → Headline runs call → (files : Files) → GoesWell call files → MetOne runs call files
met_of runs call h files (with_files tells none) =
    let m = h.report in
    let P : Option Files → Type 0 = λ o. IfSome o (λ t. t ≡ m.0) in
    let same : files ≡ m.0 = subst P tells m.1 in
    (m.2, subst (λ (f : Files). IsReport runs call.words f m.2) (sym same) m.3, meets-whole m.2 call m.4 none)
met_of runs call h files (by_words no_file out log) = let p = h.by_words no_file files in (p.0, p.1, alone-whole p.0 call p.2 out log)
