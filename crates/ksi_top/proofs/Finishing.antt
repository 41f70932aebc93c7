-- How a run ends, by what its save and its put gave.
use Rattle.std.proofs.Common.{◌≡◌, ◌≢◌, ℕ, ◌<◌, [], None, Ok, Err, refl, sym, ap, ◌∙◌, arith}
use Rattle.std.proofs.lemmas.List.{append-nil}
use Rattle.ksi_ports.specs.declared.files.Files as files
use Rattle.ksi_ports.specs.declared.files.SaveRefusal.TheVariants as saves
use Rattle.ksi_ports.specs.declared.sink.Sink as sinks
use Rattle.ksi_top.specs.declared.report.Report.{Report}
use Rattle.ksi_top.specs.declared.status.Status.{Status}
use Rattle.ksi_top.specs.declared.status.Status.TheVariants.{Done, Refused, Words, Malformed, Fault, NoMemory, Clash, TooLong}
use Rattle.ksi_top.specs.Endings.{UnlessCut, at_put, at_save}
use Rattle.ksi_top.specs.Promised.{Finished, Puts, Saves}
use Rattle.ksi_top.specs.Run.{saved_into}

-- a fact that holds, whatever cut the run short
pub uncut : (status : Status) (P : Type 0) → P → UnlessCut status P
uncut Done P is = is
uncut Refused P is = is
uncut Words P is = is
uncut Malformed P is = is
uncut Fault P is = tt
uncut NoMemory P is = tt
uncut Clash P is = is
uncut TooLong P is = is

-- a status that is no fault and no want of memory is the report's
as_reported : (report : Report) (status : Status) → UnlessCut status (status ≡ report.status) → status ≢ Fault → status ≢ NoMemory → status ≡ report.status
as_reported report Done is quiet some = is
as_reported report Refused is quiet some = is
as_reported report Words is quiet some = is
as_reported report Malformed is quiet some = is
as_reported report Fault is quiet some = absurd (quiet refl)
as_reported report NoMemory is quiet some = absurd (some refl)
as_reported report Clash is quiet some = is
as_reported report TooLong is quiet some = is

-- a count that rose does so by a fault
risen : (before now : ℕ) (status : Status) → (status ≢ Fault → now ≡ before) → before < now → status ≡ Fault
risen before now Done quiet rose = absurd (omega (arith, quiet (λ is. cc is)))
risen before now Refused quiet rose = absurd (omega (arith, quiet (λ is. cc is)))
risen before now Words quiet rose = absurd (omega (arith, quiet (λ is. cc is)))
risen before now Malformed quiet rose = absurd (omega (arith, quiet (λ is. cc is)))
risen before now Fault quiet rose = refl
risen before now NoMemory quiet rose = absurd (omega (arith, quiet (λ is. cc is)))
risen before now Clash quiet rose = absurd (omega (arith, quiet (λ is. cc is)))
risen before now TooLong quiet rose = absurd (omega (arith, quiet (λ is. cc is)))

pub finished_put : {F K : Type 0} (files_kind : files.Ghosts F) (sink_kind : sinks.Ghosts K) (report : Report) (old new : F) (before now : K) (result : Status)
    → (report.status ≢ Done → report.saved ≡ None) → Saves files_kind report.saved old new (Ok tt) → Puts sink_kind report before now result
    → Finished files_kind sink_kind report old new before now result
finished_put files_kind sink_kind report old new before now result unsaved one two = record {
  status = two.status;
  saved = λ tells. uncut result (files_kind.held new ≡ saved_into report.saved (files_kind.held old)) (one.leaves tells);
  put = two.put;
  calls = one.calls;
  later_calls = one.later_calls;
  one_line = two.one_line;
  one_put = two.one_put;
  short_put = two.short_put;
  free = two.free;
  untouched = one.untouched;
  no_save = λ is. absurd (two.some is);
  quiet = λ quiet. (one.counted, two.quiet quiet);
  later = (omega (arith, one.counted), two.later);
  taken = one.taken;
  fault = λ is. at_put (two.fault is).0 one.counted one.leaves (λ files_tell sink_tells. (two.fault is).1 sink_tells);
  files_fault = λ rose. absurd (omega (arith, one.counted, rose));
  sink_fault = risen (sink_kind.faults before) (sink_kind.faults now) result two.quiet;
  unsaved = λ other quiet tells. ap (λ it. files_kind.held it) (one.untouched (unsaved (λ done. other (as_reported report result two.status quiet two.some ∙ done))));
  unput = λ is. absurd (two.some is);
}

pub finished_failed : {F K : Type 0} (files_kind : files.Ghosts F) (sink_kind : sinks.Ghosts K) (report : Report) (old new : F) (before : K)
    → Saves files_kind report.saved old new (Err saves.Failed) → Finished files_kind sink_kind report old new before before Fault
finished_failed files_kind sink_kind report old new before one = record {
  status = tt;
  saved = λ tells. tt;
  put = λ tells. tt;
  calls = one.calls;
  later_calls = one.later_calls;
  one_line = λ tells. ([], sym (append-nil (sink_kind.written before)), omega arith);
  one_put = omega arith;
  short_put = omega arith;
  free = omega arith;
  untouched = one.untouched;
  no_save = λ is. cc is;
  quiet = λ quiet. absurd (quiet refl);
  later = (one.counted.later, omega arith);
  taken = one.taken;
  fault = λ is. at_save one.counted.rose one.unloaded one.leaves (λ tells. refl) refl;
  files_fault = λ rose. refl;
  sink_fault = λ rose. refl;
  unsaved = λ other quiet tells. absurd (quiet refl);
  unput = λ is. cc is;
}

pub finished_wanting : {F K : Type 0} (files_kind : files.Ghosts F) (sink_kind : sinks.Ghosts K) (report : Report) (old new : F) (before : K)
    → Saves files_kind report.saved old new (Err saves.NoMemory) → Finished files_kind sink_kind report old new before before NoMemory
finished_wanting files_kind sink_kind report old new before one = record {
  status = tt;
  saved = λ tells. tt;
  put = λ tells. tt;
  calls = one.calls;
  later_calls = one.later_calls;
  one_line = λ tells. ([], sym (append-nil (sink_kind.written before)), omega arith);
  one_put = omega arith;
  short_put = omega arith;
  free = omega arith;
  untouched = one.untouched;
  no_save = λ is. one.no_save refl;
  quiet = λ quiet. (one.counted, refl);
  later = (omega (arith, one.counted), omega arith);
  taken = one.taken;
  fault = λ is. cc is;
  files_fault = λ rose. absurd (omega (arith, one.counted, rose));
  sink_fault = λ rose. absurd (omega (arith, rose));
  unsaved = λ other quiet tells. one.leaves tells;
  unput = λ is. (refl, λ tells. refl);
}
