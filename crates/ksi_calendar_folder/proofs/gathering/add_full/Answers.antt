use Rattle.std.proofs.Common.{◌≡◌, ◌∙◌, ◌+◌, ◌-◌, ◌/◌, suc, ℕ, Ok, Err, refl, ap, subst, arith, length}
use Rattle.ksi_ports.specs.Stored.{Held}
use Rattle.ksi_calendar.specs.Calendar.{Seconds}
use Rattle.ksi_calendar_folder.specs.Folder.{Adds, all_full, folder_of, full_from, full_in}
use Rattle.ksi_calendar_folder.proofs.Faults.{adds_of, gives_same, of_adds}
use Rattle.ksi_calendar_folder.proofs.Gathered.{begun, no_roots, step, stop}
use Rattle.ksi_calendar_folder.proofs.gathering.add_full.Goals as goal

pub files-init : goal.files-init
files-init g c =
    let start = ap (λ (s : Seconds). s.start) c.requires.empty in
    let roots = ap (λ (s : Seconds). s.roots) c.requires.empty in
    let none = ap length roots in
    let first = ap (λ (x : ℕ). x / 4096) c.start-first.ensures.value in
    record {
      so_far = λ tells. begun c.args.last.now (folder_of (g.F.Files.held c.args.files.now) c.args.folder.now) c.args.calendar.now.roots (c.start-first.result / 4096) roots first;
      stays = refl;
      start = start;
      end = omega (arith, start, none, c.start-first.ensures.value);
      imprints = no_roots c.args.calendar.now.roots roots;
    }

pub returns-in-Err-clause-told : goal.returns-in-Err-clause-told
returns-in-Err-clause-told g c = λ tells.
    let last = c.args.last.now in
    let folder = folder_of (g.F.Files.held c.args.files.now) c.args.folder.now in
    let roots = c.files.calendar.roots in
    let number = c.files.number in
    let left = last.number - number in
    let less = last.number - (number + 1) in
    let new = c.add_file.new.calendar in
    let refusal = c.in-Err.refused in
    let left_is : left ≡ suc less = omega arith in
    let told = subst (λ (h : Held). Adds (full_in last (folder_of h c.args.folder.now) roots number) new (Err refusal)) c.files.invariant.stays (c.in-Err.ensures.told tells) in
    adds_of (all_full last folder) new refusal
    (gives_same (all_full last folder) (full_from last folder roots number left) refusal (c.files.invariant.so_far tells)
    (stop last folder roots number left less left_is refusal (of_adds (full_in last folder roots number) new refusal told)))

pub files-preserved : goal.files-preserved
files-preserved g c =
    let last = c.args.last.now in
    let folder = folder_of (g.F.Files.held c.args.files.now) c.args.folder.now in
    let roots = c.files.calendar.roots in
    let number = c.files.number in
    let left = last.number - number in
    let less = last.number - (number + 1) in
    let more = c.add_file.new.calendar.roots in
    let left_is : left ≡ suc less = omega arith in
    let next : suc number ≡ number + 1 = omega arith in
    record {
      so_far = λ tells.
          let told = subst (λ (h : Held). full_in last (folder_of h c.args.folder.now) roots number ≡ Ok more) c.files.invariant.stays (c.in_default.ensures.told tells) in
          c.files.invariant.so_far tells ∙ step last folder roots number left less left_is more told ∙ ap (λ (n : ℕ). full_from last folder more n less) next;
      stays = c.in_default.ensures.stays ∙ c.files.invariant.stays;
      start = c.in_default.ensures.start;
      end = c.in_default.ensures.end;
      imprints = c.in_default.ensures.imprints;
    }
