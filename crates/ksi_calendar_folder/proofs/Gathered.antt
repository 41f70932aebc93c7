-- The seconds of the files, step by step.
use Rattle.std.proofs.Common.{◌≡◌, ◌∙◌, ℕ, suc, ◌-◌, ◌/◌, ◌≤◌, ◌<◌, Bool, if◌then◌else◌, List, [], ◌∷◌, ◌++◌, Result, Ok, Err, ap, sym, subst}
use Rattle.std.specs.List.{AllByRecursion}
use Rattle.std.proofs.lemmas.Bool.{lt-ltb, le-ltb}
use Rattle.ksi_imprint.specs.Imprints.{IsImprint}
use Rattle.ksi_imprint.specs.declared.refused.Refused.{Refused}
use Rattle.ksi_calendar.specs.Calendar.{Seconds, calendar_root}
use Rattle.ksi_calendar_files.specs.File.{Contents}
use Rattle.ksi_calendar_folder.specs.declared.fault.FolderFault.{FolderFault}
use Rattle.ksi_calendar_folder.specs.declared.fault.FolderFault.TheVariants.{BeforeStart}
use Rattle.ksi_calendar_folder.specs.Folder.{Folder, ◌>>=◌, all_full, file_in, follows, from_start, full_from, full_in, reaching, seconds_of, seconds_to, Gives}
use Rattle.ksi_calendar_folder.specs.Over.{front_in, front_over, root_in}
use Rattle.ksi_calendar_folder.proofs.Faults.{gives_first, gives_same}

-- ---- one more full file

module _ (last : Contents) (folder : Folder) (roots : List (List ℕ)) (number : ℕ) where
  module _ (file : Contents) (is : file_in folder number ≡ Ok file) where
    pub then_follows : full_in last folder roots number ≡ (follows last file >>= λ _. Ok (roots ++ file.roots))
    unfolding full_in
    then_follows = ap (λ (r : Result Contents FolderFault). r >>= λ file. (follows last file >>= λ _. Ok (roots ++ file.roots))) is

  pub no_file : (refusal : Refused FolderFault) → Gives (file_in folder number) (Err refusal) → Gives (full_in last folder roots number) (Err refusal)
  unfolding full_in
  no_file refusal is = gives_first (file_in folder number) (λ file. (follows last file >>= λ _. Ok (roots ++ file.roots))) refusal is

  module _ (left less : ℕ) (left_is : left ≡ suc less) where
    pub step : (more : List (List ℕ)) → full_in last folder roots number ≡ Ok more → full_from last folder roots number left ≡ full_from last folder more (suc number) less
    step more is =
        ap (λ (n : ℕ). full_from last folder roots number n) left_is
        ∙ ap (λ (r : Result (List (List ℕ)) FolderFault). r >>= λ more. full_from last folder more (suc number) less) is

    pub stop : (refusal : Refused FolderFault) → Gives (full_in last folder roots number) (Err refusal) → Gives (full_from last folder roots number left) (Err refusal)
    stop refusal is =
        gives_same (full_from last folder roots number left) (full_in last folder roots number >>= λ more. full_from last folder more (suc number) less) refusal
        (ap (λ (n : ℕ). full_from last folder roots number n) left_is)
        (gives_first (full_in last folder roots number) (λ more. full_from last folder more (suc number) less) refusal is)

-- ---- roots are imprints

pub no_roots : (roots : List (List ℕ)) → roots ≡ [] → AllByRecursion IsImprint roots
no_roots roots none = subst (AllByRecursion IsImprint) (sym none) tt

pub both_imprints : (roots more : List (List ℕ)) → AllByRecursion IsImprint roots → AllByRecursion IsImprint more → AllByRecursion IsImprint (roots ++ more)
both_imprints [] more each others = others
both_imprints (root ∷ roots) more each others = (each.0, both_imprints roots more each.1 others)

-- ---- all files

pub begun : (last : Contents) (folder : Folder) (roots : List (List ℕ)) (first : ℕ) → roots ≡ [] → first ≡ last.start / 4096 → all_full last folder ≡ full_from last folder roots first (last.number - first)
unfolding all_full
begun last folder roots first none is = λ i. full_from last folder (sym none i) (sym is i) (last.number - sym is i)

module _ (folder : Folder) (p : ℕ) where
  pub no_last : (refusal : Refused FolderFault) → Gives (file_in folder (p / 4096)) (Err refusal) → Gives (seconds_to folder p) (Err refusal)
  unfolding seconds_to
  no_last refusal is = gives_first (file_in folder (p / 4096)) (from_start folder p) refusal is

  module _ (last : Contents) where
    pub from_last : file_in folder (p / 4096) ≡ Ok last → seconds_to folder p ≡ from_start folder p last
    unfolding seconds_to
    from_last is = ap (λ (r : Result Contents FolderFault). r >>= from_start folder p) is

    pub before : p < last.start → from_start folder p last ≡ Err (BeforeStart p)
    before early = ap (λ (b : Bool). if b then Err (BeforeStart p) else (all_full last folder >>= λ roots. reaching p (seconds_of last roots))) (lt-ltb p last.start early)

    module _ (from : last.start ≤ p) where
      from_full : from_start folder p last ≡ (all_full last folder >>= λ roots. reaching p (seconds_of last roots))
      from_full = ap (λ (b : Bool). if b then Err (BeforeStart p) else (all_full last folder >>= λ roots. reaching p (seconds_of last roots))) (le-ltb p last.start from)

      pub no_full : (refusal : Refused FolderFault) → Gives (all_full last folder) (Err refusal) → Gives (from_start folder p last) (Err refusal)
      no_full refusal is =
          gives_same (from_start folder p last) (all_full last folder >>= λ roots. reaching p (seconds_of last roots)) refusal from_full
          (gives_first (all_full last folder) (λ roots. reaching p (seconds_of last roots)) refusal is)

      pub reached : (roots : List (List ℕ)) (seconds : Seconds) → all_full last folder ≡ Ok roots → seconds ≡ seconds_of last roots → from_start folder p last ≡ reaching p seconds
      reached roots seconds all made = from_full ∙ ap (λ (r : Result (List (List ℕ)) FolderFault). r >>= λ roots. reaching p (seconds_of last roots)) all ∙ ap (reaching p) (sym made)

-- ---- what is computed of them

module _ (image : List ℕ → List ℕ) (folder : Folder) where
  pub root_refused : (p : ℕ) (refusal : Refused FolderFault) → Gives (seconds_to folder p) (Err refusal) → Gives (root_in image folder p) (Err refusal)
  root_refused p refusal is = gives_first (seconds_to folder p) (λ seconds. Ok (calendar_root image seconds p)) refusal is

  pub root_given : (p : ℕ) (seconds : Seconds) → seconds_to folder p ≡ Ok seconds → root_in image folder p ≡ Ok (calendar_root image seconds p)
  root_given p seconds is = ap (λ (r : Result Seconds FolderFault). r >>= λ seconds. Ok (calendar_root image seconds p)) is

  module _ (p1 p2 : ℕ) where
    pub front_refused : (refusal : Refused FolderFault) → Gives (seconds_to folder p2) (Err refusal) → Gives (front_in image folder p1 p2) (Err refusal)
    front_refused refusal is = gives_first (seconds_to folder p2) (front_over image p1 p2) refusal is

    pub front_given : (seconds : Seconds) → seconds_to folder p2 ≡ Ok seconds → front_in image folder p1 p2 ≡ front_over image p1 p2 seconds
    front_given seconds is = ap (λ (r : Result Seconds FolderFault). r >>= front_over image p1 p2) is
