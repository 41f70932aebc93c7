-- Texts that are written line by line.
use Rattle.std.proofs.Common.{◌≡◌, ℕ, ◌+◌, ◌<◌, List, [], ◌∷◌, ◌++◌, map, length, drop, get_or, codes, refl, sym, ap, ◌∙◌, append_assoc, append-nil, add-one, suc, Bool, true, false, cond}
use Rattle.std.specs.Fmt.{decimal}
use Rattle.std.specs.List.{filter}
use Rattle.std.proofs.lemmas.List.{drop_more, map-append}
use Rattle.std.proofs.lemmas.List.Elements.{filter-append}
use Rattle.ksi_synod.specs.Voters.{cores_below, is_voter}
use Rattle.ksi_schedule.specs.Pieces.{Text}
use Rattle.ksi_schedule.specs.Plans.{PlanState}
use Rattle.ksi_schedule.specs.Events.{History}
use Rattle.ksi_schedule.specs.Printed.{header_words, core_word, spaced, line_of, text_of_lines, schedule_text, version_of, version_word, members_words, parent_words, under_words, event_words, actor_word}
use Rattle.ksi_schedule.specs.declared.parent.Parent.{Parent}
use Rattle.ksi_schedule.specs.declared.version.Version.{Version}

line_joins : (a line rest : Text) → (a ++ (line ++ 10 ∷ [])) ++ rest ≡ a ++ (line ++ 10 ∷ rest)
line_joins a line rest = append_assoc a (line ++ 10 ∷ []) rest ∙ ap (λ (t : Text). a ++ t) (append_assoc line (10 ∷ []) rest)

-- the loop over the aggregators
pub parent_told : (old new whole : Text) (k : ℕ) (ps : List Parent) (d : Parent) → k < length ps
    → old ++ text_of_lines (parent_words k (drop k ps)) ≡ whole
    → new ≡ old ++ (line_of (codes "aggregator" ∷ decimal k ∷ codes "parent" ∷ actor_word (get_or ps k d).actor ∷ under_words (get_or ps k d).name) ++ 10 ∷ [])
    → new ++ text_of_lines (parent_words (k + 1) (drop (k + 1) ps)) ≡ whole
parent_told old new whole k ps d lt left is =
    let more : drop k ps ≡ get_or ps k d ∷ drop (k + 1) ps = drop_more ps k d lt in
    rw is (line_joins old (line_of (codes "aggregator" ∷ decimal k ∷ codes "parent" ∷ actor_word (get_or ps k d).actor ∷ under_words (get_or ps k d).name)) (text_of_lines (parent_words (k + 1) (drop (k + 1) ps)))
    ∙ ap (λ (rest : List Parent). old ++ text_of_lines (parent_words k rest)) (sym more) ∙ left)

text_of_lines-append : (xs ys : List (List Text)) → text_of_lines (xs ++ ys) ≡ text_of_lines xs ++ text_of_lines ys
text_of_lines-append [] ys = refl
text_of_lines-append (x ∷ xs) ys =
    ap (λ (t : Text). line_of x ++ 10 ∷ t) (text_of_lines-append xs ys) ∙ sym (append_assoc (line_of x) (10 ∷ text_of_lines xs) (text_of_lines ys))

pub header_told : (version : Version) (plan : PlanState) (old one two three : Text)
    → one ≡ old ++ (line_of (codes "ksi-schedule" ∷ version_word version ∷ []) ++ 10 ∷ [])
    → two ≡ one ++ (line_of (codes "cores" ∷ decimal plan.cores ∷ []) ++ 10 ∷ [])
    → three ≡ two ++ (line_of (codes "start" ∷ decimal plan.start ∷ []) ++ 10 ∷ [])
    → three ≡ old ++ text_of_lines (header_words version plan)
header_told version plan old one two three e1 e2 e3 = rw (e3, e2, e1) (simp append_assoc)

pub text_is : (h : History) (none header voters parents all : Text) → none ≡ []
    → header ≡ none ++ text_of_lines (header_words (version_of h) h.plan)
    → voters ≡ header ++ text_of_lines (map members_words h.plan.voters)
    → parents ≡ voters ++ text_of_lines (parent_words 0 h.plan.parents)
    → all ≡ parents ++ text_of_lines (map event_words h.events)
    → all ≡ schedule_text h
text_is h none header voters parents all e0 e1 e2 e3 e4 =
    rw (e4, e3, e2, e1, e0) (simp (append_assoc, text_of_lines-append))

-- ---- cores that vote

spaced-append : (xs ys : List Text) → spaced (xs ++ ys) ≡ spaced xs ++ spaced ys
spaced-append [] ys = refl
spaced-append (x ∷ xs) ys = ap (λ (t : Text). 32 ∷ (x ++ t)) (spaced-append xs ys) ∙ ap (λ (t : Text). 32 ∷ t) (sym (append_assoc x (spaced xs) (spaced ys)))

abbrev told_cores : (voters : List ℕ) (core : ℕ) → Text
told_cores voters core = spaced (map core_word (filter (is_voter voters) (cores_below core)))

told_more : (voters : List ℕ) (core : ℕ) (b : Bool) → is_voter voters core ≡ b → told_cores voters (suc core) ≡ told_cores voters core ++ spaced (map core_word (cond b (core ∷ []) []))
told_more voters core b is =
    ap (λ (cores : List ℕ). spaced (map core_word cores)) (filter-append (is_voter voters) (cores_below core) (core ∷ []) ∙ ap (λ b. filter (is_voter voters) (cores_below core) ++ cond b (core ∷ []) []) is)
    ∙ ap spaced (map-append core_word (filter (is_voter voters) (cores_below core)) (cond b (core ∷ []) []))
    ∙ spaced-append (map core_word (filter (is_voter voters) (cores_below core))) (map core_word (cond b (core ∷ []) []))

pub core_told : (old text spaced_text new : Text) (voters : List ℕ) (core : ℕ) → is_voter voters core ≡ true → text ≡ old ++ told_cores voters core
    → spaced_text ≡ text ++ 32 ∷ [] → new ≡ spaced_text ++ core_word core → new ≡ old ++ told_cores voters (core + 1)
core_told old text spaced_text new voters core is so_far space word =
    word ∙ ap (λ (t : Text). t ++ core_word core) space ∙ append_assoc text (32 ∷ []) (core_word core)
    ∙ ap (λ (t : Text). t ++ 32 ∷ core_word core) so_far ∙ append_assoc old (told_cores voters core) (32 ∷ core_word core)
    ∙ ap (λ (t : Text). old ++ (told_cores voters core ++ 32 ∷ t)) (sym (append-nil (core_word core)))
    ∙ ap (λ (t : Text). old ++ t) (sym (told_more voters core true is)) ∙ ap (λ n. old ++ told_cores voters n) (sym (add-one core))

pub no_core_told : (old text new : Text) (voters : List ℕ) (core : ℕ) → is_voter voters core ≡ false → text ≡ old ++ told_cores voters core → new ≡ text → new ≡ old ++ told_cores voters (core + 1)
no_core_told old text new voters core is so_far same =
    same ∙ so_far ∙ ap (λ (t : Text). old ++ t) (sym (append-nil (told_cores voters core)))
    ∙ ap (λ (t : Text). old ++ t) (sym (told_more voters core false is)) ∙ ap (λ n. old ++ told_cores voters n) (sym (add-one core))
