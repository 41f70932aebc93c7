-- What the report of a core's mirror means.
use Rattle.std.proofs.Common.{◌≡◌, ℕ, ◌<◌, List, Result, Ok, Err, refl, arith}
use Rattle.std.specs.Prelude.{IfOk, nat_lt}
use Rattle.std.specs.declared.alloc.AllocError.{AllocError}
use Rattle.std.proofs.lemmas.Bool.{cond_both}
use Rattle.ksi_imprint.specs.Imprints.{imprint_of}
use Rattle.ksi_schedule.specs.Plans.{IsPlan}
use Rattle.ksi_schedule.specs.Events.{History, AreEvents}
use Rattle.ksi_schedule.specs.Schedules.{IsHistory}
use Rattle.ksi_schedule.specs.Spelled.{IsScheduleText}
use Rattle.ksi_mirror.specs.File.{IsMirrorFile}
use Rattle.ksi_mirror.specs.Merging.{MayMerge}
use Rattle.ksi_mirror.specs.Mirrors.{MirrorState, IsMirror}
use Rattle.ksi_mirror.specs.Whole.{whole_of}
use Rattle.ksi_mirror.specs.Written.{mirror_text}
use Rattle.ksi_replay.specs.Gatherings.{Gathering, ComesTo, HasAllEnds, seconds_alone}
use Rattle.ksi_replay.specs.Journals.{journal_of}
use Rattle.ksi_replay.specs.Mirrors.{mirror_of}
use Rattle.ksi_top.specs.declared.report.Report.{Report}
use Rattle.ksi_top.specs.declared.status.Status.TheVariants as statuses
use Rattle.ksi_top.specs.Reports.{report}
use Rattle.ksi_top.specs.Mirror.{IsMirrored, mirror_saved, mirrored, no_core_line}
use Rattle.ksi_top.proofs.Ends.{IsEnd}

pub mirrored_ends : (core : ℕ) (out : List ℕ) (h : History) → IsEnd 1 (mirrored core out h)
mirrored_ends core out h = cond_both (nat_lt core h.plan.cores) (mirror_saved core out (mirror_of imprint_of h core)) (report statuses.Refused (no_core_line core)) (IsEnd 1)
    (λ _. record { judged = tt; few = omega arith }) (λ _. record { judged = refl; few = omega arith })

pub mirror_means : (text : List ℕ) (core : ℕ) (out : List ℕ) (h : History) (computed : Result Report AllocError) → IsScheduleText text h
    → ((text : List ℕ) (h : History) → IsScheduleText text h → IsHistory h)
    → ((text : List ℕ) (h : History) → IsScheduleText text h → (core : ℕ) → core < h.plan.cores → IsMirror (mirror_of imprint_of h core))
    → ((mirror : MirrorState) → IsMirror mirror → IsMirrorFile (mirror_text mirror) mirror)
    → ((image : List ℕ → List ℕ) (h : History) → IsPlan h.plan → AreEvents h.plan h.events → (order other : Gathering) (one two : MirrorState) → ComesTo image h order one → ComesTo image h other two → MayMerge one two)
    → ((image : List ℕ → List ℕ) (h : History) → IsPlan h.plan → AreEvents h.plan h.events → (order : Gathering) (merged : MirrorState) → ComesTo image h order merged → HasAllEnds h.plan order → IsMirror merged → whole_of image merged ≡ Ok (seconds_alone (journal_of image h)))
    → IfOk computed (λ report. report ≡ mirrored core out h) → IfOk computed (IsMirrored text core out)
mirror_means text core out h (Ok report) spelled histories mirrors written merging making is =
    let history = histories text h spelled in
    record {
      history = h;
      spelled = spelled;
      reported = is;
      again = λ there. written (mirror_of imprint_of h core) (mirrors text h spelled core there);
      merges = record { merge = merging imprint_of h history.plan history.events; whole = making imprint_of h history.plan history.events };
    }
mirror_means text core out h (Err none) spelled histories mirrors written merging making is = tt
